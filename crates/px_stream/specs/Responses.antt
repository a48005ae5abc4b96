-- The head of a final response behind interim ones, as far as it was read.
use Rattle.std.specs.Prelude.{◌≡◌, ℕ, Bool, true, false, List, [], ◌∷◌, ◌++◌, Some}
use Rattle.px_event.specs.declared.command.Command.{Command}
use Rattle.px_read.specs.Heads.{is_interim}
use Rattle.px_read.specs.Items.{missing, bad_head, answer_list}
use Rattle.px_read.specs.Laws.{head_in}
use Rattle.px_read.specs.Marks.{Mark, answers, marks_of}
use Rattle.px_read.specs.Reader.{Message, at_head, response, State, to_come, Reads, IsNext, HasStopped}
use Rattle.px_read.specs.declared.head.ResponseHead.{ResponseHead}
use Rattle.px_read.specs.declared.part.Part.{Part}
use Rattle.px_read.specs.declared.part.Part.TheVariants as part
use Rattle.px_stream.specs.declared.link.Link.{Link}
use Rattle.px_stream.specs.declared.reading.FinalHead.{FinalHead}
use Rattle.px_stream.specs.declared.reading.FinalHead.TheVariants as answer
use Rattle.px_stream.specs.declared.reading.Came.{Came}
use Rattle.px_stream.specs.declared.reading.Came.TheVariants as came
use Rattle.px_stream.specs.Stands.{IsQuiet, ReadsLink}
use Rattle.px_message.specs.declared.request.Request.{Request}
use Rattle.px_exchange.specs.Endings.{read_persists}
use Rattle.px_exchange.specs.Texts.{sends_on}

-- what a part of a response is here: the head of an interim one, or what there is of the final one
abbrev pub came_by : Bool → ResponseHead → Came
came_by true head = came.Interim head
came_by false head = came.Final (answer.Head head)

abbrev pub came_of : Part → Came
came_of (part.Response head) = came_by (is_interim head) head
came_of (part.Bad fault) = came.Final (answer.Bad fault)
came_of _ = came.Final answer.Missing

-- a reader of the next response, of which these bytes have come
abbrev pub fresh : Bool → List ℕ → Bool → State
fresh asked_head rest closed = record { place = at_head (response asked_head); rest = rest; closed = closed }

-- what one call of the reader gave
abbrev pub GaveOne : Part → State → State → Type 0
GaveOne got old new = (message : Message) (told : List Mark) (fed : List ℕ) (closed : Bool) → Reads message told fed closed old →
    Reads message (told ++ marks_of got) fed closed new

-- The next response begins: one part more was given, and what was kept behind it is all that has come of the next.
pub record NextBegun (old new : Link) : Type 0 where
  pub got : Part
  pub between : State
  pub next : IsNext got (to_come old.responses)
  pub gives : GaveOne got old.responses between
  pub stopped : HasStopped got between
  pub same : new ≡ record old { responses = fresh old.asked_head between.rest old.closed }

-- the side of a server whose interim responses were sent on
pub record IsKept (kept : Link) : Type 0 where
  pub asked_head : Bool
  pub number : ℕ
  pub bytes : List ℕ
  pub shut : Bool
  pub sent : List ResponseHead
  pub keeps : ReadsLink asked_head number bytes shut sent [] kept

-- what there is of the final response behind all interim ones
abbrev pub AnswerCome : FinalHead → Bool → ℕ → List ℕ → Bool → List ResponseHead → Link → Type 0
AnswerCome (answer.Head head) asked_head number bytes shut all new =
    ReadsLink asked_head number bytes shut all (answers head ∷ []) new × (head_in (answer_list asked_head shut bytes).final ≡ Some head) × (is_interim head ≡ false)
    × ((answer_list asked_head shut bytes).interim ≡ all)
AnswerCome answer.Missing asked_head number bytes shut all new =
    ReadsLink asked_head number bytes shut all [] new × ((answer_list asked_head shut bytes).final ≡ missing) × ((answer_list asked_head shut bytes).interim ≡ all)
    × IsQuiet new.responses
AnswerCome (answer.Bad fault) asked_head number bytes shut all new =
    ReadsLink asked_head number bytes shut all [] new × ((answer_list asked_head shut bytes).final ≡ bad_head fault) × ((answer_list asked_head shut bytes).interim ≡ all)

pub record AnswerRead (got : FinalHead) (sends : Bool) (asked_head : Bool) (number : ℕ) (bytes : List ℕ) (shut : Bool) (sent : List ResponseHead) (new : Link) (out longer : List Command) : Type 0 where
  pub more : List ResponseHead
  pub grown : longer ≡ out ++ sends_on sends more
  pub come : AnswerCome got asked_head number bytes shut (sent ++ more) new

-- once the head was read it is known whether its response, to this request, persists
abbrev pub persists_by : Request → FinalHead → Bool → Bool
persists_by message (answer.Head head) before = read_persists message head
persists_by message got before = before

abbrev pub noting : Request → FinalHead → Link → Link
noting message got link = record link { persists = persists_by message got link.persists }

abbrev pub ReadsAnswer : FinalHead → Bool → Link → List Command → Link → List Command → Type 0
ReadsAnswer got sends old out new longer = (asked_head : Bool) (number : ℕ) (bytes : List ℕ) (shut : Bool) (sent : List ResponseHead) → ReadsLink asked_head number bytes shut sent [] old →
    AnswerRead got sends asked_head number bytes shut sent new out longer

pub record ReadsHead (message : Request) (got : FinalHead) (sends : Bool) (old : Link) (out : List Command) (new : Link) (longer : List Command) : Type 0 where
  pub read : Link
  pub reads : ReadsAnswer got sends old out read longer
  pub noted : new ≡ noting message got read
