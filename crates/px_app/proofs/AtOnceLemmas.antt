-- Answerers of a kind that lets no hook wait.
use Rattle.std.proofs.Common.{◌≡◌, refl}
use Rattle.px_message.specs.declared.flow.Flow.{Flow}
use Rattle.px_event.specs.declared.ask.Hook.{Hook}
use Rattle.px_event.specs.Trace.{Trace, BeforeEachHeard}
use Rattle.px_core.specs.declared.answerer.Answer.{Answer}
use Rattle.px_core.specs.declared.answerer.Answer.TheVariants as answer
use Rattle.px_core.specs.declared.answerer.Draft.{Draft}
use Rattle.px_core.specs.Answered.{RestsBy}
use Rattle.px_core.specs.Answers.{Answering}
use Rattle.px_core.specs.Course.{AllAre, Course, KeepsOwn}
use Rattle.px_core.specs.Due.{Due}
use Rattle.px_core.specs.Hooks.{IsAllAnswered}
use Rattle.px_core.specs.Kind.{KeepsKind}
use Rattle.px_core.proofs.KindLemmas.{none_waits}

-- the answer lets no hook wait
abbrev pub WaitsNot : Hook → Flow → Answer → Type 0
WaitsNot hook flow given = (draft : Draft) → given ≡ answer.Wait draft → ⊥

not_so : (hook : Hook) (flow : Flow) (draft : Draft) → WaitsNot hook flow (answer.Wait draft) → ⊥
not_so hook flow draft never = never draft refl

module _ {S : Type 0} (answers : Answering S) (due : Due) (is : S → Type 0) (keeps : KeepsKind answers is WaitsNot) (course : Course S) (begins : is course.first.own)
    (stay : AllAre (KeepsOwn is) course.changes) where
  -- no hook is open at a rest
  pub none_open : (trace : Trace) → RestsBy answers due course trace → IsAllAnswered trace
  none_open trace rests = none_waits answers due is WaitsNot keeps not_so course begins stay trace rests

  pub none_open_within : (trace : Trace) → BeforeEachHeard (RestsBy answers due course) trace → BeforeEachHeard IsAllAnswered trace
  none_open_within trace waits = record { at = λ prefix rest moment heard is_split. none_open prefix (waits.at prefix rest moment heard is_split) }
