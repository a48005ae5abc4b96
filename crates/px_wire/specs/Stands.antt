-- What lines keep, against the calls of their wire.
use Rattle.std.specs.Prelude.{◌≡◌, ◌≢◌, ◌⊎◌, ℕ, ◌<◌, ◌≤◌, Bool, true, false, ◌==◌, if◌then◌else◌, List, [], ◌∷◌, ◌++◌, map, take, Option, Some, None}
use Rattle.std.specs.List.{list_any}
use Rattle.px_text.specs.Prefix.{IsPrefixOf}
use Rattle.px_event.specs.declared.side.Side.{Side}
use Rattle.px_event.specs.declared.side.Side.TheVariants.{Client}
use Rattle.px_event.specs.declared.heard.Heard.{Heard}
use Rattle.px_event.specs.declared.heard.Heard.TheVariants as heard
use Rattle.px_wire.specs.declared.endpoint.Endpoint.{Endpoint}
use Rattle.px_wire.specs.declared.table.Table.{Table}
use Rattle.px_wire.specs.declared.endpoints.Endpoints.{Endpoints}
use Rattle.px_wire.specs.Calls.{Calls, IfTold, slots_of}
use Rattle.px_wire.specs.Holds.{Holds}
use Rattle.px_wire.specs.Endpoints.{is_done, is_open_to_read}
use Rattle.px_wire.specs.declared.wire.Got.{Got}
use Rattle.px_wire.specs.declared.wire.Got.TheVariants as gots
use Rattle.px_wire.specs.Ledger.{Life, ledger, is_life_of, number_end}
use Rattle.px_wire.specs.Rules.{Obeys, MayShut}

-- the bytes of this life that the wire gave and that are still to be heard
abbrev pub unheard : Option Heard → Life → List ℕ
unheard (Some (heard.Piece conv side bytes)) life = if is_life_of conv side life then bytes else []
unheard _ life = []

-- What is being done with one slot.
pub data Busy : Type 0 where
  -- nothing
  idle : Busy
  -- bytes that wait for it may not have been put
  putting : ℕ → Busy
  -- all that waits was put, and it may have to be shut
  flushed : ℕ → Busy
  -- it has to be shut
  ending : ℕ → Busy

abbrev pub may_wait : Busy → ℕ → Bool
may_wait (putting slot) other = slot == other
may_wait _ other = false

abbrev pub may_be_done : Busy → ℕ → Bool
may_be_done idle other = false
may_be_done (putting slot) other = slot == other
may_be_done (flushed slot) other = slot == other
may_be_done (ending slot) other = slot == other

abbrev pub may_be_finished : Busy → ℕ → Bool
may_be_finished (ending slot) other = slot == other
may_be_finished _ other = false

-- A slot that is kept, and its life.
pub record Fits (busy : Busy) (owed : Option Heard) (endpoint : Endpoint) (life : Life) : Type 0 where
  pub slot : endpoint.slot ≡ life.slot
  pub conv : endpoint.conv ≡ life.conv
  pub side : endpoint.side ≡ life.side
  pub door : endpoint.door ≡ life.door
  pub closing : endpoint.is_closing ≡ life.is_closing
  pub over : endpoint.is_over ≡ life.is_over
  pub readable : endpoint.is_readable ≡ life.is_readable
  -- what was taken, followed by what waits, is what was said
  pub queued : life.is_over ≡ false → life.said ≡ life.taken ++ endpoint.queue
  -- a socket that ended or failed took a prefix, and nothing waits for it
  pub cut : life.is_over ≡ true → IsPrefixOf life.taken life.said × (endpoint.queue ≡ [])
  -- what was given is what was heard, but for what is to be heard now
  pub heard : life.given ≡ life.heard ++ unheard owed life
  -- what waits was blocked
  pub blocked : may_wait busy endpoint.slot ≡ false → (endpoint.queue ≡ []) ⊎ (life.is_blocked ≡ true)
  -- what is done with was shut
  pub still : may_be_done busy endpoint.slot ≡ false → is_done endpoint ≡ false
  pub unfinished : may_be_finished busy endpoint.slot ≡ false → life.is_finished ≡ false

-- pair by pair
abbrev pub AllFit : (Endpoint → Life → Type 0) → List Endpoint → List Life → Type 0
AllFit R [] [] = Unit {0}
AllFit R (endpoint ∷ endpoints) (life ∷ lives) = R endpoint life × AllFit R endpoints lives
AllFit R [] (life ∷ lives) = ⊥
AllFit R (endpoint ∷ endpoints) [] = ⊥

-- whose socket a slot is
pub record Name : Type 0 where
  pub slot : ℕ
  pub conv : ℕ
  pub side : Side

abbrev pub name_of : Endpoint → Name
name_of endpoint = record { slot = endpoint.slot; conv = endpoint.conv; side = endpoint.side }

-- two slots, of two sides
pub record Apart (a b : Name) : Type 0 where
  pub slots : a.slot ≢ b.slot
  pub sides : a.conv ≡ b.conv → a.side ≢ b.side

abbrev pub ApartFrom : Name → List Name → Type 0
ApartFrom name [] = Unit {0}
ApartFrom name (other ∷ others) = Apart name other × ApartFrom name others

-- no two are one slot, or of one side
abbrev pub Distinct : List Name → Type 0
Distinct [] = Unit {0}
Distinct (name ∷ names) = ApartFrom name names × Distinct names

-- the slot is in use, and the number of a client is one that was given
pub record IsUsed (slots : List ℕ) (accepted : ℕ) (name : Name) : Type 0 where
  pub used : list_any (λ other. other == name.slot) slots ≡ true
  pub numbered : name.side ≡ Client → name.conv < accepted

abbrev pub AllUsed : List ℕ → ℕ → List Name → Type 0
AllUsed slots accepted [] = Unit {0}
AllUsed slots accepted (name ∷ names) = IsUsed slots accepted name × AllUsed slots accepted names

-- What is kept stands for the calls. `owed` is what is to be heard now.
pub record Stands (busy : Busy) (owed : Option Heard) (endpoints : List Endpoint) (accepted moment : ℕ) (list : Calls) : Type 0 where
  pub fits : AllFit (Fits busy owed) endpoints (ledger list).lives
  pub distinct : Distinct (map name_of endpoints)
  pub used : AllUsed (slots_of list) accepted (map name_of endpoints)
  pub accepted_is : accepted ≡ (ledger list).accepted
  pub most : accepted ≤ number_end
  pub moment_is : moment ≡ (ledger list).moment
  pub owed_is : (ledger list).owed ≡ owed
  pub refused_is : (ledger list).refused ≡ None
  pub obeys : Obeys list

-- the same, where the calls are told
abbrev pub StandsFor : Busy → Option Heard → List Endpoint → ℕ → ℕ → Option Calls → Type 0
StandsFor busy owed endpoints accepted moment told = IfTold (Stands busy owed endpoints accepted moment) told

-- a slot stands so, and may be shut
abbrev pub EndsFor : ℕ → Option Heard → List Endpoint → ℕ → ℕ → Option Calls → Type 0
EndsFor slot owed endpoints accepted moment told =
    IfTold (λ list. Stands (ending slot) owed endpoints accepted moment list × MayShut (ledger list) slot) told

-- what is kept between two calls of the network
pub record Rests (owed : Option Heard) (table : Table) (told : Option Calls) : Type 0 where
  pub endpoints : List Endpoint
  pub held : Holds table.endpoints endpoints
  pub stands : StandsFor idle owed endpoints table.accepted table.moment told

-- nothing can be heard without waiting
abbrev pub AllCalm : List Endpoint → List Endpoint → Type 0
AllCalm endpoints [] = Unit {0}
AllCalm endpoints (endpoint ∷ rest) = (endpoint.is_over ≡ false) × (is_open_to_read endpoints endpoint ≡ false) × AllCalm endpoints rest

-- of the slots that these are
abbrev pub IsCalm : Endpoints → Type 0
IsCalm t = (endpoints : List Endpoint) → Holds t endpoints → AllCalm endpoints endpoints

-- what is to be heard of a side that was read
abbrev pub owed_by : ℕ → Side → List ℕ → Got → Option Heard
owed_by conv side room (gots.Gave count) = Some (heard.Piece conv side (take count room))
owed_by conv side room _ = None
