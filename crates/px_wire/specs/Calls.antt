-- What a wire tells: its calls with their answers, and from them which slots are in use.
use Rattle.std.specs.Prelude.{◌≡◌, ◌⊎◌, ℕ, ◌≤◌, ◌+◌, false, ◌==◌, not, List, [], ◌∷◌, ◌++◌, take, filter, Option, Some, None}
use Rattle.std.specs.List.{list_any, fold, flat_map}
use Rattle.px_event.specs.Trace.{Trace}
use Rattle.px_wire.specs.declared.call.WireCall.{WireCall}
use Rattle.px_wire.specs.declared.call.WireCall.TheVariants as calls
use Rattle.px_wire.specs.declared.wire.Ready.{Ready}
use Rattle.px_wire.specs.declared.wire.Ready.TheVariants as ready
use Rattle.px_wire.specs.declared.wire.Put.{Put}
use Rattle.px_wire.specs.declared.wire.Put.TheVariants as puts
use Rattle.px_wire.specs.declared.wire.Got.{Got}
use Rattle.px_wire.specs.declared.wire.Got.TheVariants as gots

-- the calls of a wire in their order
abbrev pub Calls : Type 0
Calls = List WireCall

-- The list of calls has grown by this one, where the calls are told; or the wire tells them no longer.
abbrev pub Tells : WireCall → Option Calls → Option Calls → Type 0
Tells call None new = new ≡ None
Tells call (Some old) new = (new ≡ Some (old ++ call ∷ [])) ⊎ (new ≡ None)

-- it holds of the calls, where they are told
abbrev pub IfTold : (Calls → Type 0) → Option Calls → Type 0
IfTold P None = Unit {0}
IfTold P (Some list) = P list

-- what a `put` of these bytes was, by its answer
abbrev pub put_call : ℕ → List ℕ → Put → WireCall
put_call slot bytes (puts.Took count) = calls.Took slot (take count bytes)
put_call slot bytes puts.Blocked = calls.PutBlocked slot
put_call slot bytes puts.Broken = calls.PutBroke slot

-- what a `get` was that left the room so, by its answer
abbrev pub got_call : ℕ → List ℕ → Got → WireCall
got_call slot room (gots.Gave count) = calls.Gave slot (take count room)
got_call slot room gots.Ended = calls.GetEnded slot
got_call slot room gots.Blocked = calls.GetBlocked slot
got_call slot room gots.Broken = calls.GetBroke slot

-- what was taken is at least one byte of so many, and at most all
abbrev pub PutWithin : ℕ → Put → Type 0
PutWithin most (puts.Took count) = (1 ≤ count) × (count ≤ most)
PutWithin most _ = Unit {0}

-- what was given is at least one byte, and at most so many
abbrev pub GotWithin : ℕ → Got → Type 0
GotWithin most (gots.Gave count) = (1 ≤ count) × (count ≤ most)
GotWithin most _ = Unit {0}

-- the slots without this one
abbrev pub without_slot : ℕ → List ℕ → List ℕ
without_slot slot slots = filter (λ other. not (other == slot)) slots

-- the slots in use after one call more
abbrev pub slots_after : List ℕ → WireCall → List ℕ
slots_after slots (calls.Told moment (ready.Accepted slot door peer)) = slots ++ slot ∷ []
slots_after slots (calls.Dialled address step slot) = slots ++ slot ∷ []
slots_after slots (calls.Shut slot) = without_slot slot slots
slots_after slots _ = slots

-- the slots that were given and not shut since
abbrev pub slots_of : Calls → List ℕ
slots_of list = fold slots_after [] list

-- the slot was never given, or was shut since
abbrev pub IsFree : ℕ → Calls → Type 0
IsFree slot list = list_any (λ other. other == slot) (slots_of list) ≡ false

-- a connection is accepted with a free slot
abbrev pub GivesFree : Ready → Calls → Type 0
GivesFree (ready.Accepted slot door peer) list = IsFree slot list
GivesFree _ list = Unit {0}

-- this call was the last, where the calls are told
abbrev pub LastIs : WireCall → Option Calls → Type 0
LastIs call told = IfTold (λ list. (before : Calls) × (list ≡ before ++ call ∷ [])) told

-- no call was made, where the calls are told
abbrev pub NoneTold : Option Calls → Type 0
NoneTold told = IfTold (λ list. list ≡ []) told

-- the step that the call was handed
abbrev pub step_in : WireCall → Trace
step_in (calls.Dialled address step slot) = step ∷ []
step_in (calls.Noted step) = step ∷ []
step_in _ = []

-- the steps of these calls, in their order
abbrev pub steps_of : Calls → Trace
steps_of list = flat_map step_in list

-- where the calls are told, the steps are told too, and are theirs
abbrev pub Agrees : Option Trace → Option Calls → Type 0
Agrees steps None = Unit {0}
Agrees steps (Some list) = steps ≡ Some (steps_of list)

-- it was asked so much oftener, where that is told; or it is told no longer
abbrev pub AsksMore : ℕ → Option ℕ → Option ℕ → Type 0
AsksMore n None new = new ≡ None
AsksMore n (Some old) new = (new ≡ Some (old + n)) ⊎ (new ≡ None)

-- at most so much oftener
abbrev pub AsksAtMost : ℕ → Option ℕ → Option ℕ → Type 0
AsksAtMost most None new = new ≡ None
AsksAtMost most (Some old) None = Unit {0}
AsksAtMost most (Some old) (Some new) = new ≤ old + most
