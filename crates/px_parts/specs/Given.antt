-- What a reader gives is what is sent: its parts say what the marks of the reading say, however the bytes were cut.
use Rattle.std.specs.Prelude.{◌≡◌, ℕ, Bool, List, ◌++◌, length, All, ⊤}
use Rattle.std.specs.List.{flat_map}
use Rattle.px_text.specs.Prefix.{IsPrefixOf}
use Rattle.px_read.specs.Marks.{marks_of}
use Rattle.px_read.specs.Reader.{Message, IsNext, Reads, State, reading_of, to_come}
use Rattle.px_read.specs.declared.part.Part.{Part}
use Rattle.px_read.specs.declared.part.Part.TheVariants as part
use Rattle.px_parts.specs.Texts.{behind_text, left_of, marks_text, part_text, parts_text}

-- the message goes on behind the part
abbrev pub GoesOn : Part → Type 0
GoesOn (part.End trailers) = ⊥
GoesOn given = ⊤

-- nothing that was heard is left behind the part
abbrev pub IsAll : Part → Type 0
IsAll part.More = ⊤
IsAll (part.End trailers) = ⊤
IsAll (part.Bad fault) = ⊤
IsAll given = ⊥

-- a part says what its marks say; the end has none, and says its own
abbrev pub PartSaysItsMarks : Type 0
PartSaysItsMarks = (fields : List (List ℕ × List ℕ)) (given : Part) → GoesOn given → part_text fields given ≡ marks_text (marks_of given)

-- A reader gave these parts of what it was fed, and gives this one next. Pieces may have been fed between any two of them.
pub record Gives (message : Message) (parts : List Part) (next : Part) (fed : List ℕ) (closed : Bool) : Type 0 where
  pub state : State
  pub reads : Reads message (flat_map marks_of parts) fed closed state
  pub on : All GoesOn parts
  pub next_is : IsNext next (to_come state)

-- at every moment what they say is the beginning of what is sent behind the head
abbrev pub GivenIsSent : Type 0
GivenIsSent = (fields : List (List ℕ × List ℕ)) (message : Message) (parts : List Part) (next : Part) (fed : List ℕ) (closed : Bool)
    → Gives message parts next fed closed
    → IsPrefixOf (parts_text fields parts ++ part_text fields next) (behind_text fields (reading_of message closed fed))

-- and it is all of it as soon as the reader has no more to give
abbrev pub GivenIsAll : Type 0
GivenIsAll = (fields : List (List ℕ × List ℕ)) (message : Message) (parts : List Part) (next : Part) (fed : List ℕ) (closed : Bool)
    → Gives message parts next fed closed → IsAll next
    → parts_text fields parts ++ part_text fields next ≡ behind_text fields (reading_of message closed fed)

-- So what is sent next, behind a head and what was sent when the reader had no more to give, is what the parts say that it gave since
-- then, whatever was fed in between: who hands them on need keep nothing of what was sent.
abbrev pub GivenIsLeft : Type 0
GivenIsLeft = (fields : List (List ℕ × List ℕ)) (message : Message) (head : List ℕ) (old new : List Part) (next : Part)
    (fed later : List ℕ) (before closed : Bool)
    → Gives message old part.More fed before → Gives message (old ++ new) next later closed → IsAll next
    → left_of (length (head ++ behind_text fields (reading_of message before fed))) (head ++ behind_text fields (reading_of message closed later))
    ≡ parts_text fields new ++ part_text fields next
