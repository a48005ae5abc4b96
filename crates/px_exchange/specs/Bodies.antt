-- A body as far as it was read.
use Rattle.std.specs.Prelude.{◌≡◌, ◌≤◌, ℕ, Bool, List, ◌++◌, length, drop, Option, Some, None}
use Rattle.std.specs.List.{flat_map}
use Rattle.px_read.specs.Chunks.{Reading, goes_on, whole, fails}
use Rattle.px_read.specs.Items.{content_in}
use Rattle.px_read.specs.Marks.{Mark}
use Rattle.px_read.specs.Reader.{Message, reading_of, State, behind_end, Reads}
use Rattle.px_read.specs.declared.part.Part.{Part}
use Rattle.px_read.specs.declared.part.Part.TheVariants as part
use Rattle.px_exchange.specs.declared.body.Progress.{Progress}
use Rattle.px_exchange.specs.declared.body.Progress.TheVariants as progress

-- the content among marks
abbrev pub content_of : List Mark → List ℕ
content_of marks = flat_map content_in marks

-- the state of a reader of some message
pub record IsReading (state : State) : Type 0 where
  pub message : Message
  pub told : List Mark
  pub fed : List ℕ
  pub closed : Bool
  pub reads : Reads message told fed closed state

-- on the way from one state to another these marks were given, and their content put behind what was there
pub record Collects (old : State) (content : List ℕ) (new : State) (longer : List ℕ) : Type 0 where
  pub marks : List Mark
  pub grown : longer ≡ content ++ content_of marks
  pub reads : (message : Message) (told : List Mark) (fed : List ℕ) (closed : Bool) → Reads message told fed closed old →
      Reads message (told ++ marks) fed closed new

-- how the message stands, of which all these marks were given; the reader stands behind a whole one, and keeps what follows it
abbrev pub HasCome : Progress → Reading → List Mark → List ℕ → State → Type 0
HasCome progress.Missing reading all fed state = reading ≡ record { marks = all; finish = goes_on }
HasCome (progress.Whole trailers) reading all fed state =
    (used : ℕ) × (reading ≡ record { marks = all; finish = whole trailers used }) × (state.rest ≡ drop used fed) × (used ≤ length fed) × (state.place ≡ behind_end trailers)
HasCome (progress.Bad fault) reading all fed state = reading ≡ record { marks = all; finish = fails fault }

pub record HasRead (got : Progress) (old : State) (content : List ℕ) (new : State) (longer : List ℕ) : Type 0 where
  pub collects : Collects old content new longer
  pub come : (message : Message) (told : List Mark) (fed : List ℕ) (closed : Bool) → Reads message told fed closed old →
      HasCome got (reading_of message closed fed) (told ++ collects.marks) fed new

-- how a message stands by a part, where it has no further one
abbrev pub stop_of : Part → Option Progress
stop_of part.More = Some progress.Missing
stop_of (part.End trailers) = Some (progress.Whole trailers)
stop_of (part.Bad fault) = Some (progress.Bad fault)
stop_of _ = None
