-- What the spans of `httparse` say of a block: its head, or, where their room is for the most fields, that it is none.
use Rattle.std.specs.Prelude.{◌≡◌, ℕ, List, Option, MatchOption, length}
use Rattle.httparse.specs.Grammar.{Field, LineEnd, RequestHead, ResponseHead}
use Rattle.httparse.specs.Spans.{IsRequestAt, IsRequestWithin, IsResponseAt, IsResponseWithin, IsSectionAt, IsSectionWithin}
use Rattle.httparse.specs.declared.spans.HeaderSpan.{HeaderSpan}
use Rattle.httparse.specs.declared.spans.RequestSpans.{RequestSpans}
use Rattle.httparse.specs.declared.spans.ResponseSpans.{ResponseSpans}
use Rattle.px_head.specs.Heads.{IsRequest, IsResponse, IsTrailers}

-- the block is a head, and these are its spans
abbrev pub SpansRequest : List ℕ → List HeaderSpan → RequestSpans → Type 0
SpansRequest block room r =
    (h : RequestHead) × IsRequest block h × IsRequestAt block room r h × IsRequestWithin block room r

abbrev pub SpansResponse : List ℕ → List HeaderSpan → ResponseSpans → Type 0
SpansResponse block room r =
    (h : ResponseHead) × IsResponse block h × IsResponseAt block room r h × IsResponseWithin block room r

-- with so many fields
abbrev pub SpansTrailers : List ℕ → List HeaderSpan → ℕ → Type 0
SpansTrailers block room count =
    (fields : List Field) × (last : LineEnd) × IsTrailers block (fields, last)
    × IsSectionAt block 0 room (length block) count fields last × IsSectionWithin block room (length block) count

-- in room for so many fields
abbrev pub AnswersRequest : ℕ → List ℕ → List HeaderSpan → Option RequestSpans → Type 0
AnswersRequest most block room answer =
    MatchOption answer (most ≡ 100 → (h : RequestHead) → IsRequest block h → ⊥) (SpansRequest block room)

abbrev pub AnswersResponse : ℕ → List ℕ → List HeaderSpan → Option ResponseSpans → Type 0
AnswersResponse most block room answer =
    MatchOption answer (most ≡ 100 → (h : ResponseHead) → IsResponse block h → ⊥) (SpansResponse block room)

abbrev pub AnswersTrailers : ℕ → List ℕ → List HeaderSpan → Option ℕ → Type 0
AnswersTrailers most block room answer =
    MatchOption answer (most ≡ 100 → (s : List Field × LineEnd) → IsTrailers block s → ⊥) (SpansTrailers block room)
