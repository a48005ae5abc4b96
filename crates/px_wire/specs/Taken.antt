-- What a wire took for a side in all, against what was sent to the side in the run.
use Rattle.std.specs.Prelude.{◌&&◌, ◌≡◌, ℕ, ◌==◌, Bool, true, false, if◌then◌else◌, List, [], ◌∷◌, ◌++◌, Option, Some, None}
use Rattle.std.specs.List.{list_any, find, flat_map}
use Rattle.px_text.specs.Prefix.{IsPrefixOf}
use Rattle.px_message.specs.declared.address.Address.{Address}
use Rattle.px_event.specs.Trace.{Trace, sent}
use Rattle.px_event.specs.declared.side.Side.{Side}
use Rattle.px_event.specs.declared.side.Side.TheVariants.{Client, Server}
use Rattle.px_event.specs.declared.heard.Heard.TheVariants as heard
use Rattle.px_event.specs.declared.said.Said.TheVariants as said
use Rattle.px_event.specs.declared.step.Step.{Step}
use Rattle.px_event.specs.declared.step.Step.TheVariants as steps
use Rattle.px_wire.specs.declared.call.WireCall.{WireCall}
use Rattle.px_wire.specs.declared.call.WireCall.TheVariants as calls
use Rattle.px_wire.specs.Calls.{Calls, steps_of}
use Rattle.px_wire.specs.Ledger.{Life, Ledger, no_ledger, after, is_life_at, is_life_of}

abbrev pub listed : Option Life → List Life
listed None = []
listed (Some life) = life ∷ []

-- the life that the call ends, as it leaves it
abbrev pub ended_by : Ledger → WireCall → List Life
ended_by l (calls.Shut slot) = listed (find (is_life_at slot) l.lives)
ended_by l _ = []

abbrev pub lives_from : Ledger → Calls → List Life
lives_from l [] = l.lives
lives_from l (call ∷ rest) = ended_by l call ++ lives_from (after l call) rest

-- all lives: those that these calls ended, as they left them, and then those that are left
abbrev pub lives_of : Calls → List Life
lives_of list = lives_from no_ledger list

-- the bytes that the wire took in this life, where it is one of the side
abbrev pub taken_by : ℕ → Side → Life → List ℕ
taken_by conv side life = if is_life_of conv side life then life.taken else []

-- the joined bytes that the wire took for the side
abbrev pub taken_for : ℕ → Side → Calls → List ℕ
taken_for conv side list = flat_map (taken_by conv side) (lives_of list)

-- the step opens the side: the client is accepted, or the server is dialled
abbrev pub opens : ℕ → Side → Step → Bool
opens conv Client (steps.Heard moment (heard.Accepted number door peer)) = number == conv
opens conv (Server server) (steps.Said number (said.Dial other address)) = (number == conv) && (other == server)
opens conv side _ = false

-- the side was opened in this trace
abbrev pub is_opened : ℕ → Side → Trace → Bool
is_opened conv side trace = list_any (opens conv side) trace

-- nothing was sent to a side that was not opened
abbrev pub SendsToOpened : Trace → Type 0
SendsToOpened trace = (conv : ℕ) (side : Side) → is_opened conv side trace ≡ false → sent trace conv side ≡ []

-- no server that was dialled is dialled once more
abbrev pub DialsOnce : Trace → Type 0
DialsOnce trace = (front : Trace) (rest : Trace) (conv : ℕ) (server : ℕ) (address : Address) →
    trace ≡ front ++ steps.Said conv (said.Dial server address) ∷ rest → is_opened conv (Server server) front ≡ false

-- what the wire took for each side begins what was sent to it
abbrev pub TakesWhatWasSent : Calls → Type 0
TakesWhatWasSent list = (conv : ℕ) (side : Side) → IsPrefixOf (taken_for conv side list) (sent (steps_of list) conv side)

-- a server whose dial was heard to end was dialled before
abbrev pub HearsDialled : Trace → Type 0
HearsDialled trace = (front : Trace) (rest : Trace) (moment : ℕ) (conv : ℕ) (server : ℕ) (ok : Bool) →
    trace ≡ front ++ steps.Heard moment (heard.Dialled conv server ok) ∷ rest → is_opened conv (Server server) front ≡ true
