-- What follows of the definitions for an operator's lines.
use Rattle.std.specs.Prelude.{◌≡◌, ◌<◌, ◌^◌, ◌++◌, ◌∷◌, ℕ, codes, decimal, Ok}
use Rattle.px_message.specs.declared.flow.FlowId.{FlowId}
use Rattle.px_core.specs.declared.operation.Operation.TheVariants as operation
use Rattle.px_view.specs.declared.command.Order.TheVariants as order
use Rattle.px_view.specs.Commands.{order_of}
use Rattle.px_view.specs.Line.{id_text}

-- a line with the number of a flow as it is shown is the order about that flow
pub record IsReadBack (id : FlowId) : Type 0 where
  pub show : order_of (codes "show " ++ id_text id) ≡ Ok (order.Show id)
  pub entry : (from : ℕ) → from < 2 ^ 64 → order_of (codes "entry " ++ (id_text id ++ 32 ∷ decimal from)) ≡ Ok (order.Entry id from)
  pub resume : order_of (codes "resume " ++ id_text id) ≡ Ok (order.Act (operation.Resume id))
  pub kill : order_of (codes "kill " ++ id_text id) ≡ Ok (order.Act (operation.Kill id))
  pub mark : order_of (codes "mark " ++ id_text id) ≡ Ok (order.Act (operation.Mark id))

abbrev pub WrittenIdIsRead : Type 0
WrittenIdIsRead = (id : FlowId) → id.conv < 2 ^ 32 → id.index < 2 ^ 32 → IsReadBack id
