-- What is due of conversations without a client: the i-th of these recorded requests is that of number 2^31 + i.
use Rattle.std.specs.Prelude.{ℕ, zero, suc, ◌-◌, min, length, List, [], ◌∷◌, Option, Some, None}
use Rattle.px_message.specs.declared.address.Address.{Address}
use Rattle.px_message.specs.declared.flow.Flow.{Flow}
use Rattle.px_message.specs.declared.request.Request.{Request}
use Rattle.px_event.specs.declared.command.Command.{Command}
use Rattle.px_event.specs.Layer.{Move}
use Rattle.px_event.specs.Stands.{due_by}
use Rattle.px_core.specs.Calls.{number_end}
use Rattle.px_core.specs.Due.{Due}
use Rattle.px_resend.specs.Chain.{resend_chain, terms_by, waiting}

-- the recorded request of this place, from 0 on
abbrev pub request_at : List Flow → ℕ → Option Request
request_at [] place = None
request_at (flow ∷ flows) zero = Some flow.request
request_at (flow ∷ flows) (suc place) = request_at flows place

-- what is due of a recorded request that goes to a proxy or to its own host, by these calls
abbrev pub resend_due : Option Address → ℕ → Option Request → List Move → List Command
resend_due proxy conv None moves = []
resend_due proxy conv (Some request) moves = due_by (resend_chain (terms_by conv proxy) request) waiting moves

-- what is due of the conversation of each number: where it has a client, what is due of those that have one
abbrev pub due_with : Due → Option Address → List Flow → Due
due_with others proxy flows conv (Some peer) moves = others conv (Some peer) moves
due_with others proxy flows conv None moves = resend_due proxy conv (request_at flows (conv - number_end)) moves

-- how many of these flows are sent again: numbers end at 2^32
abbrev pub most_replayed : List Flow → ℕ
most_replayed flows = min (length flows) number_end
