-- Which calls lines may make of their wire, by what the calls so far tell. So what a socket took, what was heard of it, and
-- when it was shut, can be read off the calls alone.
use Rattle.std.specs.Prelude.{◌&&◌, ◌≡◌, ◌≢◌, ◌⊎◌, ℕ, ◌-◌, Bool, true, false, ◌==◌, nat_lt, not, if◌then◌else◌, List, [], ◌∷◌, ◌++◌, length, Some, None}
use Rattle.std.specs.List.{list_any}
use Rattle.px_text.specs.Prefix.{IsPrefixOf}
use Rattle.px_message.specs.declared.address.Address.{Address}
use Rattle.px_event.specs.declared.heard.Heard.{Heard}
use Rattle.px_event.specs.declared.heard.Heard.TheVariants as heard
use Rattle.px_event.specs.declared.said.Said.TheVariants as said
use Rattle.px_event.specs.declared.step.Step.{Step}
use Rattle.px_event.specs.declared.step.Step.TheVariants as steps
use Rattle.px_wire.specs.declared.call.WireCall.{WireCall}
use Rattle.px_wire.specs.declared.call.WireCall.TheVariants as calls
use Rattle.px_wire.specs.Calls.{Calls}
use Rattle.px_wire.specs.Endpoints.{faces, read_mark}
use Rattle.px_wire.specs.Ledger.{Life, Ledger, no_ledger, is_life_at, is_life_of, after}

-- one of the two, by the test
abbrev pub Either : Bool → Type 0 → Type 0 → Type 0
Either true A B = A
Either false A B = B

-- some life passes, and the first that does is so
abbrev pub FirstIs : (Life → Bool) → (Life → Type 0) → List Life → Type 0
FirstIs test P [] = ⊥
FirstIs test P (life ∷ lives) = Either (test life) (P life) (FirstIs test P lives)

-- each life is so
abbrev pub Each : (Life → Type 0) → List Life → Type 0
Each P [] = Unit {0}
Each P (life ∷ lives) = P life × Each P lives

-- how many bytes wait for the side; a socket that ended or failed has none
abbrev pub waiting : Life → ℕ
waiting life = if life.is_over then 0 else length life.said - length life.taken

-- too many bytes wait for this side to read that one, which it faces; at the control door the two are one
abbrev pub holds_life : Life → Life → Bool
holds_life other life = (other.conv == life.conv) && (faces other.side life.side life.door && nat_lt read_mark (waiting other))

-- a side is not to be read: more bytes than the mark wait for one that faces it
abbrev pub is_life_held : List Life → Life → Bool
is_life_held lives life = list_any (λ other. holds_life other life) lives

-- All that comes before reading is done for the side: what was said is taken or blocked, and it is neither to be heard to end
-- nor to be shut.
pub record IsServed (life : Life) : Type 0 where
  pub put : (life.taken ≡ life.said) ⊎ (life.is_blocked ≡ true)
  pub heard : life.is_over ≡ false
  pub shut : life.is_finished ≡ false
  pub open_still : life.is_closing ≡ true → life.taken ≢ life.said

-- Before the wire is asked again, the side is served, and was read until it was blocked, or is held back.
pub record IsAtRest (lives : List Life) (life : Life) : Type 0 where
  pub served : IsServed life
  pub read : (is_life_held lives life ≡ true) ⊎ (life.is_readable ≡ false)

-- `ready` may be called
pub record MayAsk (l : Ledger) : Type 0 where
  pub lives : Each (IsAtRest l.lives) l.lives
  pub owed : l.owed ≡ None
  pub refused : l.refused ≡ None

-- bytes wait for the side
pub record MayPut (life : Life) : Type 0 where
  pub alive : life.is_over ≡ false
  pub left : life.taken ≢ life.said

-- these bytes are the next that were said
pub record MayTake (bytes : List ℕ) (life : Life) : Type 0 where
  pub alive : life.is_over ≡ false
  pub next : IsPrefixOf (life.taken ++ bytes) life.said

-- the side may be read now
pub record MayGet (lives : List Life) (life : Life) : Type 0 where
  pub alive : life.is_over ≡ false
  pub readable : life.is_readable ≡ true
  pub held : is_life_held lives life ≡ false

-- it is readable, and not held back
abbrev pub may_be_read : List Life → Life → Bool
may_be_read lives life = life.is_readable && not (is_life_held lives life)

-- A slot is read: nothing that was told or given is still to be heard, all sides are served, and it is this side's turn. Of
-- the sides that may be read the first gave bytes longest ago; so one that can be read is, before another gives twice.
pub record MayRead (l : Ledger) (slot : ℕ) : Type 0 where
  pub side : FirstIs (is_life_at slot) (MayGet l.lives) l.lives
  pub turn : FirstIs (may_be_read l.lives) (λ life. life.slot ≡ slot) l.lives
  pub lives : Each IsServed l.lives
  pub owed : l.owed ≡ None
  pub refused : l.refused ≡ None

-- a Close was said to the side and all that was said is taken
pub record IsTaken (life : Life) : Type 0 where
  pub alive : life.is_over ≡ false
  pub closing : life.is_closing ≡ true
  pub taken : life.taken ≡ life.said

-- Its close was heard, its dial failed, or it was dialled anew; or all was taken.
abbrev pub MayEnd : Life → Type 0
MayEnd life = (life.is_finished ≡ true) ⊎ IsTaken life

-- its end is to be heard
pub record IsOver (life : Life) : Type 0 where
  pub over : life.is_over ≡ true
  pub finished : life.is_finished ≡ false

-- what may be heard: what the last call told, and the close of a side whose socket ended or failed. The end is never heard.
abbrev pub MayHear : Ledger → Heard → Type 0
MayHear l (heard.Closed conv side) = FirstIs (is_life_of conv side) IsOver l.lives
MayHear l heard.End = ⊥
MayHear l what = l.owed ≡ Some what

-- A step is noted: it is heard now, or said and no dial, or neither.
abbrev pub MayNote : Ledger → Step → Type 0
MayNote l (steps.Heard moment what) = (moment ≡ l.moment) × MayHear l what
MayNote l (steps.Said conv (said.Dial server address)) = ⊥
MayNote l _ = Unit {0}

-- an address is dialled for the step that says it
abbrev pub MayDial : Address → Step → Type 0
MayDial address step = (conv : ℕ) × (server : ℕ) × (step ≡ steps.Said conv (said.Dial server address))

-- a slot is shut: that of a connection for which no number is left, or one whose life may end
abbrev pub MayShut : Ledger → ℕ → Type 0
MayShut l slot = (l.refused ≡ Some slot) ⊎ FirstIs (is_life_at slot) MayEnd l.lives

-- which call may come next
abbrev pub Allowed : Ledger → WireCall → Type 0
Allowed l (calls.Told moment what) = MayAsk l
Allowed l calls.NotReady = MayAsk l
Allowed l (calls.Dialled address step slot) = MayDial address step
Allowed l (calls.Noted step) = MayNote l step
Allowed l (calls.Took slot bytes) = FirstIs (is_life_at slot) (MayTake bytes) l.lives
Allowed l (calls.PutBlocked slot) = FirstIs (is_life_at slot) MayPut l.lives
Allowed l (calls.PutBroke slot) = FirstIs (is_life_at slot) MayPut l.lives
Allowed l (calls.Gave slot bytes) = MayRead l slot
Allowed l (calls.GetBlocked slot) = MayRead l slot
Allowed l (calls.GetEnded slot) = MayRead l slot
Allowed l (calls.GetBroke slot) = MayRead l slot
Allowed l (calls.Shut slot) = MayShut l slot

-- each call was allowed when it was made
abbrev pub ObeysFrom : Ledger → Calls → Type 0
ObeysFrom l [] = Unit {0}
ObeysFrom l (call ∷ rest) = Allowed l call × ObeysFrom (after l call) rest

abbrev pub Obeys : Calls → Type 0
Obeys list = ObeysFrom no_ledger list
