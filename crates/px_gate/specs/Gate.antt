-- The gate law: how the calls of a gate become the moves of its layer.
use Rattle.std.specs.Prelude.{◌≡◌, ℕ, ◌+◌, ◌*◌, List, [], ◌∷◌, ◌++◌, Option, Some, None, sum_by}
use Rattle.px_event.specs.declared.ask.Ask.{Ask}
use Rattle.px_event.specs.declared.event.Event.{Event}
use Rattle.px_event.specs.declared.reply.Reply.{Reply}
use Rattle.px_event.specs.declared.command.Command.{Command}
use Rattle.px_event.specs.Layer.{Move, Took, Replied, Standing, AsksOnly, MayAnswer, IsNews, weight}
use Rattle.px_gate.specs.declared.gate.Gate.{Gate}

-- After these moves the layer, made so, awaits nothing: some state that stands for them does not.
abbrev pub IsFree : {S : Type 0} → Standing S → (S → Option Ask) → S → List Move → Type 0
IsFree {S} standing awaited made moves = (state : S) × (given : List Command) × standing made state moves given × (awaited state ≡ None)

-- After these moves it awaits something.
abbrev pub IsOpen : {S : Type 0} → Standing S → (S → Option Ask) → S → List Move → Type 0
IsOpen {S} standing awaited made moves =
    (state : S) × (given : List Command) × (ask : Ask) × standing made state moves given × (awaited state ≡ Some ask)

-- After these moves it awaits what this reply may answer.
abbrev pub IsAnsweredBy : {S : Type 0} → Standing S → (S → Option Ask) → S → List Move → Reply → Type 0
IsAnsweredBy {S} standing awaited made moves reply =
    (state : S) × (given : List Command) × standing made state moves given × MayAnswer (awaited state) reply

-- Working off the queue at one moment: its events are taken in their order, as long as the layer awaits nothing. The moves
-- before, the queue, the moves after, and the events that still wait.
pub data WorksOff {S : Type 0} (standing : Standing S) (awaited : S → Option Ask) (made : S) (moment : ℕ) :
    List Move → List Event → List Move → List Event → Type 0 where
  emptied : (moves : List Move) → WorksOff standing awaited made moment moves [] moves []
  stopped : (moves : List Move) (queue : List Event) → IsOpen standing awaited made moves → WorksOff standing awaited made moment moves queue moves queue
  one : (moves : List Move) (event : Event) (queue : List Event) (after : List Move) (waiting : List Event) →
      IsFree standing awaited made moves → WorksOff standing awaited made moment (moves ++ Took moment event ∷ []) queue after waiting →
      WorksOff standing awaited made moment moves (event ∷ queue) after waiting

-- The calls of a gate, the moves of its layer, and the events that wait. An event is taken at once where the layer awaits
-- nothing and no event waits, and else waits; a reply is given to the layer, and then the queue is worked off at the
-- reply's moment.
pub data Serves {S : Type 0} (standing : Standing S) (awaited : S → Option Ask) (made : S) : List Move → List Move → List Event → Type 0 where
  none : Serves standing awaited made [] [] []
  at_once : (calls moves : List Move) (moment : ℕ) (event : Event) → Serves standing awaited made calls moves [] → IsFree standing awaited made moves →
      Serves standing awaited made (calls ++ Took moment event ∷ []) (moves ++ Took moment event ∷ []) []
  queued : (calls moves : List Move) (queue : List Event) (moment : ℕ) (event : Event) → Serves standing awaited made calls moves queue →
      IsOpen standing awaited made moves → Serves standing awaited made (calls ++ Took moment event ∷ []) moves (queue ++ event ∷ [])
  freed : (calls moves : List Move) (queue : List Event) (moment : ℕ) (reply : Reply) (after : List Move) (waiting : List Event) →
      Serves standing awaited made calls moves queue → IsAnsweredBy standing awaited made moves reply →
      WorksOff standing awaited made moment (moves ++ Replied moment reply ∷ []) queue after waiting →
      Serves standing awaited made (calls ++ Replied moment reply ∷ []) after waiting

-- each is an event that a layer may take
abbrev pub AllNews : List Event → Type 0
AllNews [] = Unit {0}
AllNews (event ∷ events) = IsNews event × AllNews events

-- What a gate stands for: its layer, made as the first gate's layer, stands for the moves that its calls made, and gave
-- what the gate gave. Events wait
-- only while the layer awaits something.
pub record GateStands {S : Type 0} (standing : Standing S) (awaited : S → Option Ask) (made gate : Gate S) (calls : List Move) (given : List Command) : Type 0 where
  pub moves : List Move
  pub serves : Serves standing awaited made.layer calls moves gate.queue.items
  pub stands : standing made.layer gate.layer moves given
  pub waits : awaited gate.layer ≡ None → gate.queue.items ≡ []
  pub news : AllNews gate.queue.items

-- how many replies can still be asked for, with the events that wait
abbrev pub gate_left : {S : Type 0} → (S → ℕ) → (S → ℕ) → Gate S → ℕ
gate_left left rate gate = left gate.layer + rate gate.layer * sum_by weight gate.queue.items

-- Working off the queue takes the layer, for whatever it stood for, to what the rules of `WorksOff` say, and then events
-- wait only while something is awaited.
pub record WorkedOff {S : Type 0} (standing : Standing S) (awaited : S → Option Ask) (moment : ℕ) (before after : Gate S) (out new_out : List Command) : Type 0 where
  pub more : List Command
  pub grown : new_out ≡ out ++ more
  pub works : (made : S) (moves : List Move) (given : List Command) → standing made before.layer moves given →
      (there : List Move) × WorksOff standing awaited made moment moves before.queue.items there after.queue.items × standing made after.layer there (given ++ more)
  pub waits : awaited after.layer ≡ None → after.queue.items ≡ []
  pub news : AllNews after.queue.items

-- An event taken while something is awaited gives nothing and leaves the layer as it is. Else at most one ask or dial is
-- given, and it is the one that is awaited then.
abbrev pub TakeAsksWhere : {S : Type 0} → Option Ask → Option Ask → S → S → List Command → List Command → Type 0
TakeAsksWhere None awaits before after out new_out = AsksOnly awaits out new_out
TakeAsksWhere (Some ask) awaits before after out new_out = (after ≡ before) × (new_out ≡ out)

abbrev pub TakeAsks : {S : Type 0} → (S → Option Ask) → S → S → List Command → List Command → Type 0
TakeAsks awaited before after out new_out = TakeAsksWhere (awaited before) (awaited after) before after out new_out
