-- No hook of a flow is asked behind its end in what is due in a run: in conversations with a client, and in those of requests that are sent again.
use Rattle.std.proofs.Common.{ℕ, ◌-◌, List, Option, Some, None}
use Rattle.px_message.specs.declared.address.Address.{Address}
use Rattle.px_message.specs.declared.flow.Flow.{Flow}
use Rattle.px_event.specs.Layer.{Move}
use Rattle.px_core.specs.Calls.{number_end}
use Rattle.px_core.specs.Ordered.{AsksBeforeEnds}
use Rattle.px_exchange.specs.declared.mode.Mode.{Mode}
use Rattle.px_exchange.specs.Places.{place_of}
use Rattle.px_resend.specs.Chain.{proxy_in}
use Rattle.px_resend.specs.Due.{request_at}
use Rattle.px_resend.proofs.OrderLemmas.{resend_ordered}
use Rattle.px_stack.specs.Chain.{begins}
use Rattle.px_stack.proofs.OrderLemmas.{begun_counted, ordered_from}
use Rattle.px_app.specs.Dues.{run_due}

pub run_ordered : (mode : Mode) (key : List ℕ) (resent : List Flow) (conv : ℕ) (peer : Option Address) (moves : List Move) → AsksBeforeEnds (run_due mode key resent conv peer moves)
run_ordered mode key resent conv (Some peer) moves = ordered_from conv (record { address = Some peer; key = key }) (begins mode) (begun_counted (place_of mode)) moves
run_ordered mode key resent conv None moves = resend_ordered (proxy_in mode) conv (request_at resent (conv - number_end)) moves
