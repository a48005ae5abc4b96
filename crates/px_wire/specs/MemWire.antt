-- A wire in memory: what is still to be told, taken and given; its calls, its steps and the slots in use.
use Rattle.std.specs.Prelude.{◌≡◌, refl, Vec, ◌&&◌, ℕ, ◌+◌, ◌^◌, ◌<◌, ◌≤◌, nat_lt, min, Bool, true, false, ◌==◌, not, List, [], ◌∷◌, ◌++◌, length, map, take, drop, Option, Some, None, if◌then◌else◌}
use Rattle.std.specs.List.{list_any, find}
use Rattle.px_event.specs.Trace.{Trace}
use Rattle.px_outside.specs.Count.{one_more}
use Rattle.px_outside.specs.Net.{Listening, idle, failed, at}
use Rattle.px_wire.specs.declared.call.WireCall.TheVariants as calls
use Rattle.px_wire.specs.declared.wire.Ready.{Ready}
use Rattle.px_wire.specs.declared.wire.Ready.TheVariants as ready
use Rattle.px_wire.specs.declared.wire.Put.{Put}
use Rattle.px_wire.specs.declared.wire.Put.TheVariants as puts
use Rattle.px_wire.specs.declared.wire.Got.{Got}
use Rattle.px_wire.specs.declared.wire.Got.TheVariants as gots
use Rattle.px_wire.specs.declared.mem_wire.Listening.{Listening as Where}
use Rattle.px_wire.specs.declared.mem_wire.Listening.TheVariants.{Idle, Failed, At}
use Rattle.px_event.specs.declared.step.Step.{Step}
use Rattle.px_wire.specs.Calls.{Calls, IfTold, Agrees, steps_of, slots_of, slots_after, without_slot}

pub record WireState : Type 0 where
  pub script : List (ℕ × Ready)
  pub takes : List ℕ
  pub gives : List (List ℕ)
  -- the calls, until memory ran out for one
  pub list : Calls
  -- the steps since then; none where it never did
  pub later : Option Trace
  pub slots : List ℕ
  pub faults : ℕ
  pub asks : Option ℕ
  pub blocks : ℕ
  pub listening : Listening

-- the steps that code keeps beside the calls
abbrev pub later_of : {A : Type 0} → Option (Vec Step A) → Option Trace
later_of None = None
later_of (Some steps) = Some steps.items

-- the calls, where memory ran out for none
abbrev pub calls_told : Option Trace → Calls → Option Calls
calls_told None list = Some list
calls_told (Some later) list = None

-- the steps: those of the calls, and those since
abbrev pub steps_told : Option Trace → Calls → Trace
steps_told None list = steps_of list
steps_told (Some later) list = steps_of list ++ later

-- where the calls are told, the steps are theirs
pub agrees : (later : Option Trace) (list : Calls) → Agrees (Some (steps_told later list)) (calls_told later list)
agrees None list = refl
agrees (Some later) list = tt

abbrev pub calls_of : WireState → Option Calls
calls_of w = calls_told w.later w.list

abbrev pub steps_in : WireState → Trace
steps_in w = steps_told w.later w.list

-- where code says that it listens
abbrev pub listening_of : Where → Listening
listening_of Idle = idle
listening_of Failed = failed
listening_of (At proxy control) = at proxy control

-- the slots in use are those that the calls tell
abbrev pub SlotsTold : Option Calls → List ℕ → Type 0
SlotsTold told slots = IfTold (λ list. slots ≡ slots_of list) told

-- a wire before its first call
abbrev pub no_calls : List (ℕ × Ready) → List ℕ → List (List ℕ) → WireState
no_calls script takes gives = record {
  script = script;
  takes = takes;
  gives = gives;
  list = [];
  later = None;
  slots = [];
  faults = 0;
  asks = Some 0;
  blocks = 0;
  listening = idle;
}

-- the first slot that is given to a dial
abbrev pub first_dialled : ℕ
first_dialled = 2 ^ 31

-- the slot is in use
abbrev pub in_use : List ℕ → ℕ → Bool
in_use slots slot = list_any (λ other. other == slot) slots

-- It may be told: a connection is accepted with a slot that is not in use and is none of those for dials.
abbrev pub may_tell : List ℕ → Ready → Bool
may_tell slots (ready.Accepted slot door peer) = nat_lt slot first_dialled && not (in_use slots slot)
may_tell slots _ = true

-- what a script tells next; what may not be told is passed over
abbrev pub told_by : List ℕ → List (ℕ × Ready) → Option (ℕ × Ready)
told_by slots script = find (λ told. may_tell slots told.1) script

-- and what is left of it then
abbrev pub script_left : List ℕ → List (ℕ × Ready) → List (ℕ × Ready)
script_left slots [] = []
script_left slots (first ∷ script) = if may_tell slots first.1 then script else script_left slots script

-- how many of so many bytes are taken: the next number of those that are left, and all where none is left
abbrev pub taken_by : List ℕ → ℕ → ℕ
taken_by [] most = most
taken_by (take ∷ takes) most = min take most

-- the answer of a `put` that takes so many
abbrev pub put_answer : ℕ → Put
put_answer count = if count == 0 then puts.Blocked else puts.Took count

-- the answer of a `get` into a room of so many bytes: an empty piece is the end
abbrev pub given_by : List (List ℕ) → ℕ → Got
given_by [] most = gots.Blocked
given_by ([] ∷ gives) most = gots.Ended
given_by (give ∷ gives) most = gots.Gave (min (length give) most)

-- the room then: of the next piece at its front what it holds
abbrev pub room_after : List (List ℕ) → List ℕ → List ℕ
room_after [] room = room
room_after (give ∷ gives) room = take (length room) give ++ drop (length give) room

-- and the pieces that are left: one that is longer than the room is given in parts
abbrev pub gives_left : List (List ℕ) → ℕ → List (List ℕ)
gives_left [] most = []
gives_left (give ∷ gives) most = if nat_lt most (length give) then drop most give ∷ gives else gives

-- the least slot for dials that is not in use
pub record IsLeastFree (slots : List ℕ) (slot : ℕ) : Type 0 where
  pub for_dials : first_dialled ≤ slot
  pub free : in_use slots slot ≡ false
  pub least : (other : ℕ) → first_dialled ≤ other → other < slot → in_use slots other ≡ true

-- how often `ready` was called, with one call more; none where that does not fit
abbrev pub asked_once : Option ℕ → Option ℕ
asked_once None = None
asked_once (Some asks) = if nat_lt (asks + 1) (2 ^ 64) then Some (asks + 1) else None

-- how often a slot could go no further, after this answer
abbrev pub blocks_put : Put → ℕ → ℕ
blocks_put puts.Blocked blocks = one_more blocks
blocks_put _ blocks = blocks

abbrev pub blocks_got : Got → ℕ → ℕ
blocks_got gots.Blocked blocks = one_more blocks
blocks_got _ blocks = blocks

-- the wire, but that its calls and steps are those of the other
abbrev pub keeping : WireState → WireState → WireState
keeping kept w = record w { list = kept.list; later = kept.later }

-- after `ready` told this
abbrev pub after_told : WireState → ℕ → Ready → WireState
after_told w moment what = record w {
  script = script_left w.slots w.script;
  slots = slots_after w.slots (calls.Told moment what);
  asks = asked_once w.asks;
}

-- after it failed: nothing is left to be told
abbrev pub after_not_ready : WireState → WireState
after_not_ready w = record w { script = []; faults = one_more w.faults; asks = asked_once w.asks }

-- after a dial that gave this slot
abbrev pub after_dial : WireState → ℕ → WireState
after_dial w slot = record w { slots = w.slots ++ slot ∷ [] }

-- after a `put` with this answer
abbrev pub after_put : WireState → Put → WireState
after_put w answer = record w { takes = drop 1 w.takes; blocks = blocks_put answer w.blocks }

-- after a `get` into a room of so many, with this answer
abbrev pub after_get : WireState → ℕ → Got → WireState
after_get w most answer = record w { gives = gives_left w.gives most; blocks = blocks_got answer w.blocks }

-- after this slot was shut
abbrev pub after_shut : WireState → ℕ → WireState
after_shut w slot = record w { slots = without_slot slot w.slots }

-- where it was told to listen
abbrev pub listens : WireState → Listening → WireState
listens w place = record w { listening = place }

-- the pieces that code keeps
abbrev pub pieces_of : {A : Type 0} → List (Vec ℕ A) → List (List ℕ)
pieces_of gives = map (λ give. give.items) gives
