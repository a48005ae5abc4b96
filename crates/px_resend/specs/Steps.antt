-- What each step of a request that is sent again does, wherever it stands.
use Rattle.std.specs.Prelude.{◌≡◌, ◌++◌, ℕ, Bool, true, false, List, [], ◌∷◌, Option, Some, None}
use Rattle.px_message.specs.declared.flow.Flow.{Flow}
use Rattle.px_message.specs.declared.request.Request.{Request}
use Rattle.px_event.specs.declared.command.Command.{Command}
use Rattle.px_event.specs.declared.command.Command.TheVariants as commands
use Rattle.px_event.specs.declared.event.Event.{Event}
use Rattle.px_event.specs.declared.reply.Reply.{Reply}
use Rattle.px_event.specs.Chain.{Timed}
use Rattle.px_event.specs.Laws.{owed_over}
use Rattle.px_event.specs.View.{View, seen_of}
use Rattle.px_event.proofs.Steps.{Takes, Resumes}
use Rattle.px_exchange.specs.declared.ending.Used.{Used}
use Rattle.px_exchange.specs.declared.outcome.Outcome.{Outcome}
use Rattle.px_exchange.specs.declared.outcome.Outcome.TheVariants as outcomes
use Rattle.px_exchange.specs.declared.terms.Terms.{Terms}
use Rattle.px_exchange.specs.Endings.{shut_server}
use Rattle.px_stream.specs.Heard.{shut_if}
use Rattle.px_stream.specs.Tells.{is_idle, open_parked, outcome_in, phase_flow, upgraded_side}
use Rattle.px_stream.specs.declared.stream.Stream.{Stream}
use Rattle.px_resend.specs.Chain.{Stage, going, resend_chain}
use Rattle.px_resend.specs.Heard.{all_of_servers}
use Rattle.px_resend.specs.Stands.{IsChild}
use Rattle.px_resend.specs.declared.child.Child.{Child}
use Rattle.px_resend.specs.declared.child.Child.TheVariants as children
use Rattle.std.specs.Global.{Box}

-- what was added to the commands does this
pub record Adds (P : List Command → Type 0) (out longer : List Command) : Type 0 where
  pub more : List Command
  pub grown : longer ≡ out ++ more
  pub holds : P more

-- an event is taken, wherever it stands
abbrev pub TakesChild : Terms → Request → Child → Child → ℕ → Event → List Command → Type 0
TakesChild terms recorded child next moment event more = (stage : Stage) (prefix : List (Timed Event)) → IsChild terms recorded child stage prefix →
    Takes (resend_chain terms recorded) (IsChild terms recorded) next moment event more stage prefix

-- and a reply
abbrev pub ResumesChild : Terms → Request → Child → Child → ℕ → Reply → List Command → Type 0
ResumesChild terms recorded child next moment reply more = (stage : Stage) (prefix : List (Timed Event)) → IsChild terms recorded child stage prefix →
    Resumes (resend_chain terms recorded) (IsChild terms recorded) next moment reply more stage prefix

-- it came to a stage over a prefix, passed on, and gave what is owed there
pub record Arrives (terms : Terms) (recorded : Request) (child : Child) (more : List Command) (stage : Stage) (prefix : List (Timed Event)) : Type 0 where
  pub there : IsChild terms recorded child ((resend_chain terms recorded).pass stage prefix).stage prefix
  pub gives : (view : View) → seen_of view more ≡ seen_of view (owed_over (resend_chain terms recorded) stage prefix)

-- a flow goes on whose request is whole, over every prefix
abbrev pub GoesOnAs : Terms → Request → Flow → ℕ → Child → List Command → Type 0
GoesOnAs terms recorded flow moment next more = (prefix : List (Timed Event)) → Arrives terms recorded next more (going flow moment (all_of_servers prefix)) prefix

-- ---- what a flow that goes on has come to

-- a flow that a response of code 101 finished, and the close of its server's side
abbrev pub done_by : Option Flow → List Command
done_by None = []
done_by (Some flow) = commands.Done flow ∷ []

abbrev pub shut_by : Option Used → List Command
shut_by None = []
shut_by (Some used) = shut_server used

abbrev pub finished_by : Option Flow → Option Used → List Command
finished_by flow used = done_by flow ++ shut_by used

-- where it is idle, its flow is finished; else by its outcome
abbrev pub FollowsAs : Bool → Outcome → Box Stream → Child → List Command → Type 0
FollowsAs true outcome stream next more = (next ≡ children.Over) × (more ≡ shut_if (open_parked stream.value.at.parked stream.value.side))
FollowsAs false outcomes.Going stream next more = (next ≡ children.GoesOn stream) × (more ≡ [])
FollowsAs false outcomes.Upgraded stream next more = (next ≡ children.Over) × (more ≡ finished_by (phase_flow stream.value.phase) (upgraded_side stream.value.phase stream.value.side))
FollowsAs false outcome stream next more = (next ≡ children.Over) × (more ≡ [])

abbrev pub Follows : Box Stream → Child → List Command → Type 0
Follows stream next more = FollowsAs (is_idle stream.value.phase) (outcome_in stream.value.phase) stream next more
