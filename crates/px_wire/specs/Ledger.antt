-- What the calls of a wire make of each slot, and which calls lines may make.
--
-- A life is a slot from the call that gave it to the call that shuts it. A side's slot is the first life of the side; lines
-- never keep two.
use Rattle.std.specs.Prelude.{◌&&◌, ℕ, ◌+◌, ◌^◌, Bool, true, false, ◌==◌, nat_lt, if◌then◌else◌, List, [], ◌∷◌, ◌++◌, Option, Some, None}
use Rattle.std.specs.List.{find, fold}
use Rattle.px_message.specs.declared.address.Address.{Address}
use Rattle.px_event.specs.Trace.{is_same_side}
use Rattle.px_event.specs.declared.side.Side.{Side}
use Rattle.px_event.specs.declared.side.Side.TheVariants.{Client, Server}
use Rattle.px_event.specs.declared.side.Door.{Door}
use Rattle.px_event.specs.declared.heard.Heard.{Heard}
use Rattle.px_event.specs.declared.heard.Heard.TheVariants as heard
use Rattle.px_event.specs.declared.said.Said.{Said}
use Rattle.px_event.specs.declared.said.Said.TheVariants as said
use Rattle.px_event.specs.declared.step.Step.{Step}
use Rattle.px_event.specs.declared.step.Step.TheVariants as steps
use Rattle.px_wire.specs.declared.call.WireCall.{WireCall}
use Rattle.px_wire.specs.declared.call.WireCall.TheVariants as calls
use Rattle.px_wire.specs.declared.wire.Ready.{Ready}
use Rattle.px_wire.specs.declared.wire.Ready.TheVariants as ready
use Rattle.px_wire.specs.Calls.{Calls}

-- what the calls since a slot was given tell of it
pub record Life : Type 0 where
  pub slot : ℕ
  -- the side whose socket it is
  pub conv : ℕ
  pub side : Side
  -- the door at which it was accepted; none where it was dialled
  pub door : Option Door
  -- the joined bytes that the wire took
  pub taken : List ℕ
  -- the joined bytes that were said to the side
  pub said : List ℕ
  -- the joined bytes that the wire gave
  pub given : List ℕ
  -- the joined bytes that were heard of the side
  pub heard : List ℕ
  -- a Close was said to the side
  pub is_closing : Bool
  -- its socket ended or failed
  pub is_over : Bool
  -- a `put` was blocked since it was last writable
  pub is_blocked : Bool
  -- it was told readable, and no `get` was blocked since
  pub is_readable : Bool
  -- its close was heard, its dial failed, or the side was dialled anew
  pub is_finished : Bool

-- a slot that was just given
abbrev pub new_life : ℕ → ℕ → Side → Option Door → Life
new_life slot conv side door = record {
  slot = slot;
  conv = conv;
  side = side;
  door = door;
  taken = [];
  said = [];
  given = [];
  heard = [];
  is_closing = false;
  is_over = false;
  is_blocked = false;
  is_readable = false;
  is_finished = false;
}

-- what all calls so far tell
pub record Ledger : Type 0 where
  -- the slots in use that have a side: one that is given stands behind all others, and so does one that gives bytes
  pub lives : List Life
  -- how many connections were accepted and have a number
  pub accepted : ℕ
  -- the moment of the last `ready` that told something; 0 before
  pub moment : ℕ
  -- what the last call told or gave and is still to be heard
  pub owed : Option Heard
  -- the slot of a connection that was accepted and has no number, and is still to be shut
  pub refused : Option ℕ

-- before the first call
abbrev pub no_ledger : Ledger
no_ledger = record { lives = []; accepted = 0; moment = 0; owed = None; refused = None }

-- numbers of accepted connections are below this one
abbrev pub number_end : ℕ
number_end = 2 ^ 31

-- the first item that passes is changed so
abbrev pub change_first : {A : Type 0} → (A → Bool) → (A → A) → List A → List A
change_first test change [] = []
change_first test change (x ∷ xs) = if test x then change x ∷ xs else x ∷ change_first test change xs

-- the first item that passes is changed so, and goes behind all others
abbrev pub move_first : {A : Type 0} → (A → Bool) → (A → A) → List A → List A
move_first test change [] = []
move_first test change (x ∷ xs) = if test x then xs ++ change x ∷ [] else x ∷ move_first test change xs

-- the list without the first item that passes
abbrev pub drop_first : {A : Type 0} → (A → Bool) → List A → List A
drop_first test [] = []
drop_first test (x ∷ xs) = if test x then xs else x ∷ drop_first test xs

-- it is the life of this slot
abbrev pub is_life_at : ℕ → Life → Bool
is_life_at slot life = life.slot == slot

-- it is the life of this side
abbrev pub is_life_of : ℕ → Side → Life → Bool
is_life_of conv side life = (life.conv == conv) && is_same_side life.side side

-- the life of this slot is changed so
abbrev pub at_slot : ℕ → (Life → Life) → Ledger → Ledger
at_slot slot change l = record l { lives = change_first (is_life_at slot) change l.lives }

-- the life of this side is changed so
abbrev pub at_side : ℕ → Side → (Life → Life) → Ledger → Ledger
at_side conv side change l = record l { lives = change_first (is_life_of conv side) change l.lives }

-- what is heard of the bytes that a life gave
abbrev pub piece_of : List ℕ → Option Life → Option Heard
piece_of bytes None = None
piece_of bytes (Some life) = Some (heard.Piece life.conv life.side bytes)

-- what is heard of the end of a dial: nothing, where no dial gave the slot
abbrev pub dial_heard : ℕ → Bool → Side → Option Heard
dial_heard conv ok (Server server) = Some (heard.Dialled conv server ok)
dial_heard conv ok Client = None

abbrev pub dial_of : Bool → Option Life → Option Heard
dial_of ok None = None
dial_of ok (Some life) = dial_heard life.conv ok life.side

-- A connection is accepted: it has the next number, or none is left.
abbrev pub accepts : ℕ → Door → Address → Ledger → Ledger
accepts slot door peer l =
    if nat_lt l.accepted number_end then record l {
      lives = l.lives ++ new_life slot l.accepted Client (Some door) ∷ [];
      accepted = l.accepted + 1;
      owed = Some (heard.Accepted l.accepted door peer);
    } else record l { refused = Some slot }

-- the wire is ready
abbrev pub tells : Ready → Ledger → Ledger
tells (ready.Accepted slot door peer) l = accepts slot door peer l
tells (ready.Readable slot) l = at_slot slot (λ life. record life { is_readable = true }) l
tells (ready.Writable slot) l = at_slot slot (λ life. record life { is_blocked = false }) l
tells (ready.Dialled slot ok) l = record l { owed = dial_of ok (find (is_life_at slot) l.lives) }

-- something is said; a dial is none of these
abbrev pub says : ℕ → Said → Ledger → Ledger
says conv (said.Send side bytes) l = at_side conv side (λ life. record life { said = life.said ++ bytes }) l
says conv (said.Close side) l = at_side conv side (λ life. record life { is_closing = true }) l
says conv (said.Dial server address) l = l

-- something is heard
abbrev pub hears : Heard → Ledger → Ledger
hears (heard.Piece conv side bytes) l = at_side conv side (λ life. record life { heard = life.heard ++ bytes }) l
hears (heard.Closed conv side) l = at_side conv side (λ life. record life { is_finished = true }) l
hears (heard.Dialled conv server false) l = at_side conv (Server server) (λ life. record life { is_finished = true }) l
hears _ l = l

-- a step is noted
abbrev pub notes : Step → Ledger → Ledger
notes (steps.Heard moment what) l = record (hears what l) { owed = None }
notes (steps.Said conv what) l = says conv what l
notes _ l = l

-- An address was dialled: the side's life begins, and one that it had before is finished.
abbrev pub dials : Step → ℕ → Ledger → Ledger
dials (steps.Said conv (said.Dial server address)) slot l = record l {
  lives = change_first (is_life_of conv (Server server)) (λ life. record life { is_finished = true }) l.lives ++ new_life slot conv (Server server) None ∷ [];
}
dials _ slot l = l

-- one call more
abbrev pub after : Ledger → WireCall → Ledger
after l (calls.Told moment what) = record (tells what l) { moment = moment }
after l calls.NotReady = l
after l (calls.Dialled address step slot) = dials step slot l
after l (calls.Noted step) = notes step l
after l (calls.Took slot bytes) = at_slot slot (λ life. record life { taken = life.taken ++ bytes }) l
after l (calls.PutBlocked slot) = at_slot slot (λ life. record life { is_blocked = true }) l
after l (calls.PutBroke slot) = at_slot slot (λ life. record life { is_over = true }) l
after l (calls.Gave slot bytes) = record l {
  lives = move_first (is_life_at slot) (λ life. record life { given = life.given ++ bytes }) l.lives;
  owed = piece_of bytes (find (is_life_at slot) l.lives);
}
after l (calls.GetBlocked slot) = at_slot slot (λ life. record life { is_readable = false }) l
after l (calls.GetEnded slot) = at_slot slot (λ life. record life { is_over = true }) l
after l (calls.GetBroke slot) = at_slot slot (λ life. record life { is_over = true }) l
after l (calls.Shut slot) = record l { lives = drop_first (is_life_at slot) l.lives; refused = None }

-- what these calls tell
abbrev pub ledger : Calls → Ledger
ledger list = fold after no_ledger list
