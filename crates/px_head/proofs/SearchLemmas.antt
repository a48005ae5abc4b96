-- What a search that finds nothing makes of the marks, and that they stay true.
use Rattle.std.proofs.Common.{ℕ, ◌+◌, ◌-◌, ◌≤◌, ◌≡◌, max, List, ◌++◌, length, length-append, take, drop, sym, ap, ◌∙◌, subst, arith, inl, inr, take-append-drop}
use Rattle.std.proofs.lemmas.Bool.Decides.{leb_tells}
use Rattle.px_head.specs.declared.front.Front.{Front}
use Rattle.px_head.specs.declared.front.Front.TheVariants.{Nothing, TooLong, BadHead, Stands}
use Rattle.px_head.specs.declared.front.Kind.{Kind}
use Rattle.px_head.specs.declared.front.Kind.TheVariants.{Request, Response, Trailers}
use Rattle.px_head.specs.declared.place.Marks.{Marks}
use Rattle.px_head.specs.declared.place.BlockPlace.TheVariants.{Missing}
use Rattle.px_head.specs.Front.{blank_lines, line_end, place, front}
use Rattle.px_head.specs.Laws.{HasNoBlock}
use Rattle.px_head.specs.Marks.{HasNoEnd, AreMarks, left_by, no_marks, searched}
use Rattle.px_head.proofs.FrontLemmas.{nothing_by}
use Rattle.px_head.proofs.LineLemmas.{blank_lines_none, blank_lines_take, blank_lines_within, blank_lines-grows, blank_lines-stays, skip_whole}
use Rattle.px_head.proofs.SizeLemmas.{none_missing}

-- ---- the marks that a search leaves

-- the empty lines that were skipped are some of those at the front
skipped_first : (bytes : List ℕ) (m : Marks) → AreMarks bytes m → m.skipped ≤ blank_lines bytes
skipped_first bytes m a =
    let grows = blank_lines-grows (take m.skipped bytes) (drop m.skipped bytes) in
    let whole = ap (λ (l : List ℕ). blank_lines l) (take-append-drop m.skipped bytes) in
    let known = a.skipped in
    omega arith

-- where no line end stands at the front, no line was skipped
pub none_skipped : (bytes : List ℕ) (m : Marks) → AreMarks bytes m → line_end bytes ≡ 0 → m.skipped ≡ 0
none_skipped bytes m a none =
    let few = skipped_first bytes m a in
    let no_lines = blank_lines_none bytes none in
    omega arith

-- where the block begins, from what was skipped and what stands behind it
pub starts : (bytes : List ℕ) (m : Marks) (width : ℕ) → AreMarks bytes m → width ≡ blank_lines (drop m.skipped bytes)
    → m.skipped + width ≡ blank_lines bytes
starts bytes m width a is = ap (λ (n : ℕ). m.skipped + n) is ∙ skip_whole bytes m.skipped a.skipped_within a.skipped

pub head_searched : (bytes : List ℕ) (m : Marks) (start width looked : ℕ) → AreMarks bytes m
    → start ≡ m.skipped + width → width ≡ blank_lines (drop m.skipped bytes) → looked ≡ length bytes - max start (m.reached - 2)
    → record { skipped = start; reached = length bytes; looked = width + looked } ≡ searched bytes m
head_searched bytes m start width looked a at is count =
    let begins = at ∙ starts bytes m width a is in
    let skips : width ≡ blank_lines bytes - m.skipped = (let s = starts bytes m width a is in omega arith) in
    let looks = count ∙ ap (λ (n : ℕ). length bytes - max n (m.reached - 2)) begins in
    λ i. record { skipped = begins i; reached = length bytes; looked = skips i + looks i }

-- ---- the marks stay true

missing_marks : (kind : Kind) (bytes : List ℕ) → HasNoBlock kind bytes (length bytes) → HasNoEnd bytes (blank_lines bytes) (length bytes)
missing_marks Request bytes none = none
missing_marks Response bytes none = none
missing_marks Trailers bytes none =
    subst (λ (n : ℕ). HasNoEnd bytes n (length bytes)) (sym (blank_lines_none bytes none.0)) none.1

are_searched : (kind : Kind) (bytes : List ℕ) (m : Marks) → place kind bytes ≡ Missing → AreMarks bytes (searched bytes m)
are_searched kind bytes m missing = record {
  skipped_within = blank_lines_within bytes;
  skipped = blank_lines_take bytes;
  reached_within = omega arith;
  reached = missing_marks kind bytes (none_missing kind bytes missing);
}

are_left : (kind : Kind) (bytes : List ℕ) (m : Marks) (f : Front) → f ≡ front kind bytes → AreMarks bytes m
    → AreMarks bytes (left_by f (searched bytes m) m)
are_left kind bytes m Nothing is a = are_searched kind bytes m (nothing_by kind bytes (place kind bytes) (sym is))
are_left kind bytes m TooLong is a = a
are_left kind bytes m BadHead is a = a
are_left kind bytes m (Stands raw used) is a = a

pub are_kept : (kind : Kind) (bytes rest : List ℕ) (m new : Marks) (f : Front) → bytes ≡ rest → f ≡ front kind bytes
    → new ≡ left_by f (searched bytes m) m → AreMarks rest m → AreMarks rest new
are_kept kind bytes rest m new f same is made a =
    let here = are_left kind bytes m f is (subst (λ (l : List ℕ). AreMarks l m) (sym same) a) in
    subst (λ (l : List ℕ). AreMarks l new) same (subst (λ (n : Marks). AreMarks bytes n) (sym made) here)

-- ---- how much a search looks at

pub first_looks : (bytes : List ℕ) → (searched bytes no_marks).looked ≤ length bytes
first_looks bytes = let fits = blank_lines_within bytes in omega arith

pub next_looks : (bytes more : List ℕ) (m : Marks) → (searched (bytes ++ more) (searched bytes m)).looked ≤ length more + 2
next_looks bytes more m =
    let size = length-append bytes more in
    let grows = blank_lines-grows bytes more in
    let fits = blank_lines_within (bytes ++ more) in
    elim (leb_tells (blank_lines bytes + 2) (length bytes)) [
      | inl t ↦ (let same = blank_lines-stays bytes t.1 more in omega arith)
      | inr f ↦ (let near = f.1 in omega arith)
    ]
