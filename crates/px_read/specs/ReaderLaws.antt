-- What the state of a reader says of the bytes that it was fed.
use Rattle.std.specs.Prelude.{◌≡◌, ℕ, ◌-◌, Bool, true, false, List, [], ◌∷◌, ◌++◌, length, drop}
use Rattle.px_read.specs.Heads.{asks_tunnel}
use Rattle.px_read.specs.Items.{complete, no_body, request_item}
use Rattle.px_read.specs.Marks.{Mark, asks, marks_of}
use Rattle.px_read.specs.Chunks.{goes_on, whole, fails, Reading}
use Rattle.px_read.specs.Readings.{only}
use Rattle.px_message.specs.declared.fault.Fault.{Fault}
use Rattle.px_read.specs.Reader.{Message, request, opened, reading_of, behind_end, refused, State, to_come, behind_marks, Reads, IsNext, HasStopped}
use Rattle.px_read.specs.declared.head.RequestHead.{RequestHead}
use Rattle.px_read.specs.declared.part.Part.{Part}
use Rattle.px_read.specs.declared.part.Part.TheVariants as part

-- what was told and what is to come are what the bytes that were fed, and the close, tell
abbrev pub ToldIsRead : Type 0
ToldIsRead = (message : Message) (told : List Mark) (fed : List ℕ) (closed : Bool) (state : State)
    → Reads message told fed closed state
    → reading_of message closed fed ≡ behind_marks told (length fed - length state.rest) (to_come state)

-- behind the end the message is whole, and what is left is what it did not use
abbrev pub EndIsWhole : Type 0
EndIsWhole = (message : Message) (told : List Mark) (fed : List ℕ) (closed : Bool) (state : State) (trailers : List (List ℕ × List ℕ))
    → Reads message told fed closed state → state.place ≡ behind_end trailers
    → (used : ℕ) × (reading_of message closed fed ≡ record { marks = told; finish = whole trailers used })
    × (state.rest ≡ drop used fed)

-- behind a fault it is refused for it
abbrev pub BadIsRefused : Type 0
BadIsRefused = (message : Message) (told : List Mark) (fed : List ℕ) (closed : Bool) (state : State) (fault : Fault)
    → Reads message told fed closed state → state.place ≡ refused fault
    → reading_of message closed fed ≡ record { marks = told; finish = fails fault }

-- what is to come says which part comes: where nothing is told, there is one
abbrev pub NextIsExact : Type 0
NextIsExact = (given : Part) (reading : Reading) → IsNext given reading
    → (reading ≡ only goes_on → given ≡ part.More)
    × ((trailers : List (List ℕ × List ℕ)) (used : ℕ) → reading ≡ only (whole trailers used) → given ≡ part.End trailers)
    × ((fault : Fault) → reading ≡ only (fails fault) → given ≡ part.Bad fault)

-- behind the head of a CONNECT nothing is told, and the message is whole
abbrev pub ConnectHasEnded : Type 0
ConnectHasEnded = (head : RequestHead) (marks : List Mark) (fed : List ℕ) (closed : Bool) (state : State) → asks_tunnel head ≡ true
    → Reads request (asks head ∷ marks) fed closed state → (marks ≡ []) × (used : ℕ) × (to_come state ≡ only (whole [] used))

-- So the part behind it is its end; and what is left behind that is what its head did not use.
abbrev pub ConnectIsRead : Type 0
ConnectIsRead = (head : RequestHead) (marks : List Mark) (fed : List ℕ) (closed : Bool) (old new : State) (given : Part) → asks_tunnel head ≡ true
    → Reads request (asks head ∷ marks) fed closed old → IsNext given (to_come old)
    → Reads request ((asks head ∷ marks) ++ marks_of given) fed closed new → HasStopped given new
    → (given ≡ part.End []) × (used : ℕ) × (request_item fed ≡ complete head no_body [] used) × (new.rest ≡ drop used fed)

-- a client's close changes nothing: bytes that are fed behind it are more of what the reader of a request has to come
abbrev pub FedBehindClose : Type 0
FedBehindClose = (told : List Mark) (fed bytes : List ℕ) (state : State) → Reads request told fed false (opened state)
    → Reads request told (fed ++ bytes) false (opened (record state { rest = state.rest ++ bytes }))
