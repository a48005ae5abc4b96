-- A run that an operator ended.
use Rattle.std.specs.Prelude.{◌≡◌, ℕ, List, [], ◌∷◌, ◌++◌, Ok}
use Rattle.px_event.specs.Trace.{Trace}
use Rattle.px_event.specs.declared.heard.Heard.TheVariants as heard
use Rattle.px_event.specs.declared.side.Side.TheVariants.{Client}
use Rattle.px_event.specs.declared.step.Step.{Step}
use Rattle.px_event.specs.declared.step.Step.TheVariants as steps
use Rattle.px_core.specs.Run.{AllTellable}
use Rattle.px_view.specs.Commands.{order_of}
use Rattle.px_view.specs.declared.command.Order.TheVariants.{Quit}
use Rattle.px_view.specs.declared.desk.Line.{Line}
use Rattle.px_view.specs.declared.desk.Line.TheVariants.{Text}
use Rattle.px_app.specs.Operators.{says, word_of}

-- What was heard last are bytes of an operator, and one of the lines that they complete is the order to quit.
pub record QuitsLast (told : Trace) : Type 0 where
  pub before : Trace
  pub moment : ℕ
  pub conv : ℕ
  pub bytes : List ℕ
  pub behind : List Step
  pub is : told ≡ (before ++ steps.Heard moment (heard.Piece conv Client bytes) ∷ []) ++ behind
  pub none_heard : AllTellable behind
  pub front : List Line
  pub text : List ℕ
  pub rest : List Line
  pub lines : word_of before (heard.Piece conv Client bytes) ≡ says conv (front ++ Text text ∷ rest)
  pub orders : order_of text ≡ Ok Quit
