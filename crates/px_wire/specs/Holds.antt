-- How the slots in use are kept, against the list of them in the order of their turns.
use Rattle.std.specs.Prelude.{◌&&◌, ◌≡◌, ◌≢◌, ◌⊎◌, ◌≤◌, ℕ, ◌-◌, ◌^◌, ◌<◌, Bool, true, false, ◌==◌, nat_eq, not, if◌then◌else◌, List, [], ◌∷◌, Option, Some, None, Vec, vec_len, vec_capacity, length}
use Rattle.std.specs.List.{list_any}
use Rattle.std.specs.Ordering.{nat_cmp}
use Rattle.std.specs.HashMap as hash
use Rattle.std.specs.BTreeMap as tree
use Rattle.px_wire.specs.declared.endpoint.Endpoint.{Endpoint}
use Rattle.px_wire.specs.declared.endpoints.Endpoints.{Endpoints}
use Rattle.px_event.specs.declared.side.Side.{Side}
use Rattle.px_wire.specs.Endpoints.{holds, is_endpoint_of, is_open_to_read}

-- the item is one of the list
abbrev pub IsIn : {A : Type 0} → A → List A → Type 0
IsIn x [] = ⊥
IsIn x (y ∷ ys) = (y ≡ x) ⊎ IsIn x ys

-- the slot of this number
abbrev pub endpoint_at : Endpoints → ℕ → Option Endpoint
endpoint_at t slot = hash.get nat_eq t.by_slot slot

abbrev pub items_in : {B : Type 0} → Option (Vec ℕ B) → List ℕ
items_in None = []
items_in (Some list) = list.items

-- the slots that are listed for the conversation
abbrev pub slots_at : Endpoints → ℕ → List ℕ
slots_at t conv = items_in (hash.get nat_eq t.by_conv conv)

-- there is one, and it passes
abbrev pub passes : (Endpoint → Bool) → Option Endpoint → Bool
passes test None = false
passes test (Some endpoint) = test endpoint

-- some side holds it back, by what is listed
abbrev pub is_held_in : Endpoints → Endpoint → Bool
is_held_in t endpoint = list_any (λ slot. passes (λ other. holds other endpoint) (endpoint_at t slot)) (slots_at t endpoint.conv)

-- it may be read now, by what is listed
abbrev pub is_open_in : Endpoints → Endpoint → Bool
is_open_in t endpoint = endpoint.is_readable && not (is_held_in t endpoint)

-- the slot has this turn and may be read now
abbrev pub is_candidate : Endpoints → ℕ → ℕ → Bool
is_candidate t turn slot = passes (λ endpoint. (endpoint.turn == turn) && is_open_in t endpoint) (endpoint_at t slot)

-- the turn is below those of all
abbrev pub IsBelow : ℕ → List Endpoint → Type 0
IsBelow turn [] = Unit {0}
IsBelow turn (endpoint ∷ endpoints) = (turn < endpoint.turn) × IsBelow turn endpoints

-- the turns ascend, and all are below the next one
abbrev pub Ascend : ℕ → List Endpoint → Type 0
Ascend next [] = Unit {0}
Ascend next (endpoint ∷ endpoints) = (endpoint.turn < next) × IsBelow endpoint.turn endpoints × Ascend next endpoints

-- the conversation is to be looked at: it is marked, or memory ran out over a mark, and then each of them is
abbrev pub IsMarked : Endpoints → ℕ → Type 0
IsMarked t conv = (t.is_lost ≡ true) ⊎ IsIn conv t.marked.items

-- No conversation was marked but those of which this holds.
abbrev pub MarksOnly : (ℕ → Type 0) → Endpoints → Endpoints → Type 0
MarksOnly P old new = (conv : ℕ) → IsIn conv new.marked.items → IsIn conv old.marked.items ⊎ P conv

-- Memory ran out over a mark only where the list of marks was full.
abbrev pub LosesOnlyFull : Endpoints → Endpoints → Type 0
LosesOnlyFull old new = new.is_lost ≡ true → (old.is_lost ≡ true) ⊎ (vec_capacity old.marked ≤ vec_len old.marked)

-- no item stands twice
abbrev pub Once : {A : Type 0} → List A → Type 0
Once [] = Unit {0}
Once (x ∷ xs) = (IsIn x xs → ⊥) × Once xs

-- the slot is in use, and of this conversation
pub record IsOf (at : ℕ → Option Endpoint) (conv slot : ℕ) : Type 0 where
  pub endpoint : Endpoint
  pub at_is : at slot ≡ Some endpoint
  pub conv_is : endpoint.conv ≡ conv

-- the slot is in use, and has this turn
pub record IsTurnOf (at : ℕ → Option Endpoint) (turn slot : ℕ) : Type 0 where
  pub endpoint : Endpoint
  pub at_is : at slot ≡ Some endpoint
  pub turn_is : endpoint.turn ≡ turn

-- Each that was found ready is in use, and stands at its own turn: so a slot stands there at most once.
abbrev pub AllTurns : (ℕ → Option Endpoint) → tree.BTreeMap ℕ ℕ → Type 0
AllTurns at ready = (turn slot : ℕ) → tree.get nat_cmp ready turn ≡ Some slot → IsTurnOf at turn slot

-- there is a list, and nothing is in it
abbrev pub is_empty_list : {B : Type 0} → Option (Vec ℕ B) → Bool
is_empty_list None = false
is_empty_list (Some list) = length list.items == 0

-- No slot is kept that is gone: what is listed for a conversation is in use and of it, each once, and no list is empty; what was found ready
-- is in use and has its turn still. No conversation is marked twice; one that has no slot any more stays marked until it is looked at.
pub record IsTidy (t : Endpoints) : Type 0 where
  pub only : (conv slot : ℕ) → IsIn slot (slots_at t conv) → IsOf (λ s. endpoint_at t s) conv slot
  pub once : (conv : ℕ) → Once (slots_at t conv)
  pub filled : (conv : ℕ) → is_empty_list (hash.get nat_eq t.by_conv conv) ≡ false
  pub turned : AllTurns (λ s. endpoint_at t s) t.ready
  pub marks : Once t.marked.items

-- It is these slots, in the order of their turns, and no others. Each is found by its number and by its conversation. The conversation of each
-- that is over is to be looked at; one that may be read was found ready, or its conversation is to be looked at.
pub record Holds (t : Endpoints) (endpoints : List Endpoint) : Type 0 where
  pub found : (endpoint : Endpoint) → IsIn endpoint endpoints → endpoint_at t endpoint.slot ≡ Some endpoint
  pub kept : (slot : ℕ) (endpoint : Endpoint) → endpoint_at t slot ≡ Some endpoint → IsIn endpoint endpoints × (endpoint.slot ≡ slot)
  pub turns : Ascend t.next_turn endpoints
  pub listed : (endpoint : Endpoint) → IsIn endpoint endpoints → IsIn endpoint.slot (slots_at t endpoint.conv)
  pub over : (endpoint : Endpoint) → IsIn endpoint endpoints → endpoint.is_over ≡ true → IsMarked t endpoint.conv
  pub open_or : (endpoint : Endpoint) → IsIn endpoint endpoints → is_open_to_read endpoints endpoint ≡ true → IsMarked t endpoint.conv ⊎ (tree.get nat_cmp t.ready endpoint.turn ≡ Some endpoint.slot)
  pub tidy : IsTidy t

-- turns are numbers of 64 bits
abbrev pub last_turn : ℕ
last_turn = 2 ^ 64 - 1

-- a list that is there has room
abbrev pub RoomIn : {B : Type 0} → Option (Vec ℕ B) → Type 0
RoomIn None = Unit {0}
RoomIn (Some list) = vec_len list < vec_capacity list

-- nothing is in the list, and it has room
pub record IsSpare {B : Type 0} (list : Vec ℕ B) : Type 0 where
  pub empty : list.items ≡ []
  pub room : vec_len list < vec_capacity list

-- room for one slot more of this conversation, and for a list of its own where it has none
pub record HasRoom (t : Endpoints) (conv : ℕ) : Type 0 where
  pub turn : t.next_turn < last_turn
  pub slot : 0 < hash.spare t.by_slot
  pub list : RoomIn (hash.get nat_eq t.by_conv conv)
  pub lists : 0 < hash.spare t.by_conv
  pub spare : IsSpare t.spare_list

-- One item was taken out of the list: it is in it no more, and all others are.
pub record IsTakenOut (slot : ℕ) (old new : List ℕ) : Type 0 where
  pub others : (other : ℕ) → other ≢ slot → IsIn other old → IsIn other new
  pub only : (other : ℕ) → IsIn other new → IsIn other old
  pub gone : Once old → IsIn slot new → ⊥
  pub once : Once old → Once new

-- the slots without this one
abbrev pub without : ℕ → List Endpoint → List Endpoint
without slot [] = []
without slot (endpoint ∷ endpoints) = if endpoint.slot == slot then without slot endpoints else endpoint ∷ without slot endpoints

-- the slot is changed so, and its conversation is marked and no other; all else is as before
pub record Changes (old new : Endpoints) (slot : ℕ) (endpoint changed : Endpoint) : Type 0 where
  pub here : endpoint_at new slot ≡ Some changed
  pub others : (other : ℕ) → other ≢ slot → endpoint_at new other ≡ endpoint_at old other
  pub lists : new.by_conv ≡ old.by_conv
  pub ready : new.ready ≡ old.ready
  pub next : new.next_turn ≡ old.next_turn
  pub marks : (conv : ℕ) → IsMarked old conv → IsMarked new conv
  pub marked : IsMarked new endpoint.conv
  pub only : MarksOnly (λ conv. conv ≡ endpoint.conv) old new
  pub once : Once old.marked.items → Once new.marked.items

-- Of those that were found ready it has the first turn, and it may be read.
pub record IsFirst (t : Endpoints) (slot : ℕ) : Type 0 where
  pub endpoint : Endpoint
  pub at : endpoint_at t slot ≡ Some endpoint
  pub opens : is_open_in t endpoint ≡ true
  pub least : tree.IsLowerBound nat_cmp t.ready endpoint.turn

-- no conversation is to be looked at
pub record IsSettled (t : Endpoints) : Type 0 where
  pub none : t.marked.items ≡ []
  pub known : t.is_lost ≡ false

-- it is the slot of this side
pub record IsSideAt (t : Endpoints) (conv : ℕ) (side : Side) (slot : ℕ) : Type 0 where
  pub endpoint : Endpoint
  pub at : endpoint_at t slot ≡ Some endpoint
  pub passes_side : is_endpoint_of conv side endpoint ≡ true

-- the same slots are found, by their numbers, by their conversations and by what is to be done with them
pub record Alike (old new : Endpoints) : Type 0 where
  pub slots : (slot : ℕ) → endpoint_at new slot ≡ endpoint_at old slot
  pub lists : (conv : ℕ) → slots_at new conv ≡ slots_at old conv
  pub marks : (conv : ℕ) → IsMarked old conv → IsMarked new conv
  pub unmarks : (conv : ℕ) → IsMarked new conv → IsMarked old conv
  pub empties : (conv : ℕ) → is_empty_list (hash.get nat_eq new.by_conv conv) ≡ is_empty_list (hash.get nat_eq old.by_conv conv)
  pub marked : new.marked.items ≡ old.marked.items
  pub ready : new.ready ≡ old.ready
  pub next : new.next_turn ≡ old.next_turn

-- no other slot has this turn
abbrev pub IsAlone : (ℕ → Option Endpoint) → ℕ → ℕ → Type 0
IsAlone at turn slot = (other : ℕ) (endpoint : Endpoint) → at other ≡ Some endpoint → endpoint.turn ≡ turn → other ≡ slot

-- what was found ready still is
abbrev pub StillReady : (ℕ → Option Endpoint) → tree.BTreeMap ℕ ℕ → tree.BTreeMap ℕ ℕ → Type 0
StillReady at old new = (turn slot : ℕ) → IsAlone at turn slot → tree.get nat_cmp old turn ≡ Some slot → tree.get nat_cmp new turn ≡ Some slot

-- the slot is not over, and where it is readable it was found ready
abbrev pub IsLookedAt : (ℕ → Option Endpoint) → tree.BTreeMap ℕ ℕ → ℕ → Type 0
IsLookedAt at ready slot = (endpoint : Endpoint) → at slot ≡ Some endpoint → (endpoint.is_over ≡ false) × (endpoint.is_readable ≡ true → IsAlone at endpoint.turn slot → tree.get nat_cmp ready endpoint.turn ≡ Some slot)

-- the close of this slot is to be heard, by what is found at the numbers
pub record IsOverBy (at : ℕ → Option Endpoint) (slot : ℕ) : Type 0 where
  pub endpoint : Endpoint
  pub at_is : at slot ≡ Some endpoint
  pub over : endpoint.is_over ≡ true
