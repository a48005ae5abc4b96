-- The head of the final response, behind interim ones: what a reader's part says of the answers that have come.
use Rattle.std.proofs.Common.{◌≡◌, ℕ, suc, ◌==◌, ◌/◌, Bool, true, false, List, [], ◌∷◌, length, drop, Result, Ok, Err, refl, ap, sym, ◌∙◌, subst, arith, length-drop, not, ◌&&◌, ◌||◌}
use Rattle.std.specs.Prelude.{⊤}
use Rattle.px_head.specs.Front.{response_front}
use Rattle.px_head.specs.declared.raw.RawHead.{RawHead}
use Rattle.px_head.specs.declared.front.Front.{Front}
use Rattle.px_head.specs.declared.front.Front.TheVariants as front
use Rattle.px_message.specs.Length.{response_length, has_no_body}
use Rattle.px_message.specs.declared.fault.Fault.{Fault}
use Rattle.px_message.specs.declared.length.Length.{Length}
use Rattle.px_message.specs.declared.length.Length.TheVariants as lengths
use Rattle.px_read.specs.Heads.{code_of, is_interim, response_head}
use Rattle.px_read.specs.Items.{response_item, Answers, behind_interim, answers_behind, answers_within, answer_list}
use Rattle.px_read.specs.Marks.{Mark, answers}
use Rattle.px_read.specs.Readings.{response_body, response_behind, response_reading, body_reading}
use Rattle.px_read.specs.declared.head.ResponseHead.{ResponseHead}
use Rattle.px_read.proofs.AnswerLemmas.{enough}

-- no interim response stands here
abbrev pub here : Bool → Bool → List ℕ → Answers
here asked_head closed bytes = record { interim = []; used = 0; final = response_item asked_head closed bytes }

-- ---- the answers by what stands at the front

abbrev pub NotInterim : Front → Type 0
NotInterim (front.Stands raw used) = is_interim (response_head raw) ≡ false
NotInterim _ = ⊤

one_longer : (asked_head closed : Bool) (bytes : List ℕ) → answer_list asked_head closed bytes ≡ answers_within (suc (length bytes)) asked_head closed bytes
one_longer asked_head closed bytes = enough (length bytes) (suc (length bytes)) asked_head closed bytes (omega arith) (omega arith)

here_by : (further : List ℕ → Answers) (bytes : List ℕ) (own : Answers) (f : Front) → NotInterim f → answers_behind f further bytes own ≡ own
here_by further bytes own front.Nothing is = refl
here_by further bytes own front.TooLong is = refl
here_by further bytes own front.BadHead is = refl
here_by further bytes own (front.Stands raw used) is = rw is refl

pub list_here : (asked_head closed : Bool) (bytes : List ℕ) → NotInterim (response_front bytes) → answer_list asked_head closed bytes ≡ here asked_head closed bytes
list_here asked_head closed bytes is =
    one_longer asked_head closed bytes ∙ here_by (answers_within (length bytes) asked_head closed) bytes (here asked_head closed bytes) (response_front bytes) is

pub list_behind : (asked_head closed : Bool) (bytes : List ℕ) (raw : RawHead) (used : ℕ) → response_front bytes ≡ front.Stands raw used → is_interim (response_head raw) ≡ true →
    answer_list asked_head closed bytes ≡ behind_interim (response_head raw) used (answer_list asked_head closed (drop used bytes))
list_behind asked_head closed bytes raw used at is =
    let size = length-drop used bytes in
    let shorter : answers_within (length bytes) asked_head closed (drop used bytes) ≡ answer_list asked_head closed (drop used bytes) =
    enough (length bytes) (length (drop used bytes)) asked_head closed (drop used bytes) (omega arith) (omega arith) in
    let F : Front → Answers = λ f. answers_behind f (answers_within (length bytes) asked_head closed) bytes (here asked_head closed bytes) in
    let stands : F (front.Stands raw used) ≡ behind_interim (response_head raw) used (answers_within (length bytes) asked_head closed (drop used bytes)) = rw is refl in
    one_longer asked_head closed bytes ∙ (ap F at ∙ (stands ∙ ap (behind_interim (response_head raw) used) shorter))

-- ---- the reading by what stands at the front

-- marks of a response: none, or its head first
abbrev pub OfResponse : List Mark → Type 0
OfResponse [] = ⊤
OfResponse (answers head ∷ marks) = ⊤
OfResponse _ = ⊥

body_shape : (raw : RawHead) (used : ℕ) (size : Result Length Fault) (closed : Bool) (bytes : List ℕ) → OfResponse (response_body raw used size closed bytes).marks
body_shape raw used (Err fault) closed bytes = tt
body_shape raw used (Ok size) closed bytes = tt

shape_by : (f : Front) (asked_head closed : Bool) (bytes : List ℕ) → OfResponse (response_behind f asked_head closed bytes).marks
shape_by front.Nothing asked_head closed bytes = tt
shape_by front.TooLong asked_head closed bytes = tt
shape_by front.BadHead asked_head closed bytes = tt
shape_by (front.Stands raw used) asked_head closed bytes = body_shape raw used (response_length (code_of raw) asked_head raw.pairs) closed (drop used bytes)

pub of_response : (asked_head closed : Bool) (bytes : List ℕ) → OfResponse (response_reading asked_head closed bytes).marks
of_response asked_head closed bytes = shape_by (response_front bytes) asked_head closed bytes

-- a head that was told stands at the front
pub record StandsThere (head : ResponseHead) (bytes : List ℕ) : Type 0 where
  pub raw : RawHead
  pub used : ℕ
  pub at : response_front bytes ≡ front.Stands raw used
  pub same : response_head raw ≡ head

body_stands : (raw : RawHead) (used : ℕ) (size : Result Length Fault) (closed : Bool) (rest : List ℕ) (head : ResponseHead) (marks : List Mark) →
    (response_body raw used size closed rest).marks ≡ answers head ∷ marks → response_head raw ≡ head
body_stands raw used (Err fault) closed rest head marks is = absurd (let e : [] ≡ answers head ∷ marks = is in cc)
body_stands raw used (Ok size) closed rest head marks is = cc

stands_by : (f : Front) (asked_head closed : Bool) (bytes : List ℕ) (head : ResponseHead) (marks : List Mark) → response_front bytes ≡ f →
    (response_behind f asked_head closed bytes).marks ≡ answers head ∷ marks → StandsThere head bytes
stands_by front.Nothing asked_head closed bytes head marks at is = absurd (let e : [] ≡ answers head ∷ marks = is in cc)
stands_by front.TooLong asked_head closed bytes head marks at is = absurd (let e : [] ≡ answers head ∷ marks = is in cc)
stands_by front.BadHead asked_head closed bytes head marks at is = absurd (let e : [] ≡ answers head ∷ marks = is in cc)
stands_by (front.Stands raw used) asked_head closed bytes head marks at is = record {
  raw = raw;
  used = used;
  at = at;
  same = body_stands raw used (response_length (code_of raw) asked_head raw.pairs) closed (drop used bytes) head marks is;
}

pub stands_there : (asked_head closed : Bool) (bytes : List ℕ) (head : ResponseHead) (marks : List Mark) →
    (response_reading asked_head closed bytes).marks ≡ answers head ∷ marks → StandsThere head bytes
stands_there asked_head closed bytes head marks is = stands_by (response_front bytes) asked_head closed bytes head marks refl is

-- where a final head was told, no interim response stands there
pub final_here : (asked_head closed : Bool) (bytes : List ℕ) (head : ResponseHead) → StandsThere head bytes → is_interim head ≡ false →
    answer_list asked_head closed bytes ≡ here asked_head closed bytes
final_here asked_head closed bytes head stands is =
    let P : Front → Type 0 = NotInterim in
    list_here asked_head closed bytes (subst P (sym stands.at) (ap is_interim stands.same ∙ is))

-- an interim response has no body
no_body_by : (a b : Bool) → (a && not b) ≡ true → a ≡ true
no_body_by true b is = refl
no_body_by false b is = absurd (let e : false ≡ true = is in cc)

or_last : (a b c d : Bool) → b ≡ true → (a || b || c || d) ≡ true
or_last true b c d is = refl
or_last false b c d is = rw is refl

-- an interim response has no body
pub interim_length : (raw : RawHead) (asked_head : Bool) → is_interim (response_head raw) ≡ true → response_length (code_of raw) asked_head raw.pairs ≡ Ok lengths.None
interim_length raw asked_head is =
    let hundred : (code_of raw / 100 == 1) ≡ true = no_body_by (code_of raw / 100 == 1) (code_of raw == 101) is in
    let none : has_no_body (code_of raw) asked_head ≡ true = or_last asked_head (code_of raw / 100 == 1) (code_of raw == 204) (code_of raw == 304) hundred in
    rw none refl

-- where nothing was told, no interim response stands there
nothing_body : (raw : RawHead) (used : ℕ) (size : Result Length Fault) (closed : Bool) (rest : List ℕ) → (response_body raw used size closed rest).marks ≡ [] → (plain : Length) → size ≡ Ok plain → ⊥
nothing_body raw used (Err fault) closed rest none plain is = cc
nothing_body raw used (Ok size) closed rest none plain is = (let e : answers (response_head raw) ∷ (body_reading size closed rest).marks ≡ [] = none in cc)

not_interim_by : (raw : RawHead) (used : ℕ) (asked_head closed : Bool) (bytes : List ℕ) (b : Bool) → is_interim (response_head raw) ≡ b →
    (response_body raw used (response_length (code_of raw) asked_head raw.pairs) closed (drop used bytes)).marks ≡ [] → b ≡ false
not_interim_by raw used asked_head closed bytes true is none =
    absurd (nothing_body raw used (response_length (code_of raw) asked_head raw.pairs) closed (drop used bytes) none lengths.None (interim_length raw asked_head is))
not_interim_by raw used asked_head closed bytes false is none = refl

nothing_by : (f : Front) (asked_head closed : Bool) (bytes : List ℕ) → (response_behind f asked_head closed bytes).marks ≡ [] → NotInterim f
nothing_by front.Nothing asked_head closed bytes none = tt
nothing_by front.TooLong asked_head closed bytes none = tt
nothing_by front.BadHead asked_head closed bytes none = tt
nothing_by (front.Stands raw used) asked_head closed bytes none = not_interim_by raw used asked_head closed bytes (is_interim (response_head raw)) refl none

pub nothing_here : (asked_head closed : Bool) (bytes : List ℕ) → (response_reading asked_head closed bytes).marks ≡ [] →
    answer_list asked_head closed bytes ≡ here asked_head closed bytes
nothing_here asked_head closed bytes none = list_here asked_head closed bytes (nothing_by (response_front bytes) asked_head closed bytes none)
