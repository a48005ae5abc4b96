-- What the answer of a dial brings.
use Rattle.std.specs.Prelude.{ℕ, Bool, List, [], ◌∷◌}
use Rattle.px_message.specs.declared.flow.Flow.{Flow}
use Rattle.px_event.specs.declared.command.Command.{Command}
use Rattle.px_event.specs.declared.command.Command.TheVariants as commands
use Rattle.px_event.specs.declared.reply.Reply.{Reply}
use Rattle.px_event.specs.declared.reply.Reply.TheVariants as reply
use Rattle.px_event.specs.declared.side.Side.TheVariants.{Server}
use Rattle.px_exchange.specs.declared.ending.Used.TheVariants.{NoServer}
use Rattle.px_exchange.specs.declared.place.Place.{Place}
use Rattle.px_exchange.specs.Endings.{ends_by_fault}
use Rattle.px_exchange.specs.Places.{form_at}
use Rattle.px_exchange.specs.Texts.{onward_text}

-- the request goes to a server that is connected; a refused dial ends the flow
abbrev pub connected_owes : Place → Flow → ℕ → List Command
connected_owes place flow server = commands.Send (Server server) (onward_text (form_at place) flow.request) ∷ []

abbrev pub dial_owes : Place → Flow → ℕ → Reply → ℕ → Bool → List Command
dial_owes place flow server reply.Dialled moment closed = connected_owes place flow server
dial_owes place flow server (reply.Refused fault) moment closed = ends_by_fault flow fault moment NoServer closed
dial_owes place flow server _ moment closed = []
