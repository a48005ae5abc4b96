-- The place of a block: that it lies in the bytes, and that more bytes change nothing once it is decided.
use Rattle.std.proofs.Common.{ℕ, zero, suc, ◌+◌, ◌<◌, ◌≤◌, ◌≡◌, ◌≢◌, Bool, List, ◌++◌, length, refl, sym, ap, ◌∙◌, subst, arith, inl, inr, Option, Some, None, length-append}
use Rattle.std.proofs.lemmas.List.{take-append-le}
use Rattle.std.specs.Prelude.{⊤, if◌then◌else◌}
use Rattle.std.proofs.lemmas.Bool.Decides.{leb_tells}
use Rattle.px_text.specs.Blank.{blank_end}
use Rattle.px_text.proofs.BlankLemmas.{blank_end-Some, blank_end-None, blank_end-append, ends_blank-append}
use Rattle.px_head.specs.declared.front.Kind.{Kind}
use Rattle.px_head.specs.declared.front.Kind.TheVariants.{Request, Response, Trailers}
use Rattle.px_head.specs.declared.place.Marks.{Marks}
use Rattle.px_head.specs.declared.place.BlockPlace.TheVariants.{Missing, Exceeded, Block}
use Rattle.px_head.specs.Front.{blank_lines, line_end, trailers_end, trailers_end_by, place_at, head_place, place}
use Rattle.px_head.specs.Marks.{AreMarks}
use Rattle.px_head.specs.Within.{IsPlaceWithin}
use Rattle.px_head.proofs.LineLemmas.{blank_lines_within, blank_lines-stays, blank_lines-grows, line_end-within, line_end-stays, line_end-kept}

-- ---- the place lies in the bytes

abbrev EndsWithin : List ℕ → ℕ → Option ℕ → Type 0
EndsWithin bytes start None = ⊤
EndsWithin bytes start (Some end) = (start < end) × (end ≤ length bytes)

place_at_within : (bytes : List ℕ) (start : ℕ) (end : Option ℕ) → EndsWithin bytes start end
    → IsPlaceWithin (length bytes) (place_at bytes start end)
place_at_within bytes start None h = elim (leb_tells 65536 (length bytes)) [
  | inl t ↦ subst (λ (v : Bool). IsPlaceWithin (length bytes) (if v then Exceeded else Missing)) (sym t.0) tt
  | inr f ↦ subst (λ (v : Bool). IsPlaceWithin (length bytes) (if v then Exceeded else Missing)) (sym f.0) tt
]
place_at_within bytes start (Some end) h = elim (leb_tells 65537 end) [
  | inl t ↦ subst (λ (v : Bool). IsPlaceWithin (length bytes) (if v then Exceeded else Block start end)) (sym t.0) tt
  | inr f ↦ (let g = f.1 in
      subst (λ (v : Bool). IsPlaceWithin (length bytes) (if v then Exceeded else Block start end)) (sym f.0) (h.0, h.1, omega arith))
]

blank_end_within : (bytes : List ℕ) (start : ℕ) (end : Option ℕ) → start ≤ length bytes → blank_end bytes start ≡ end
    → EndsWithin bytes start end
blank_end_within bytes start None fits is = tt
blank_end_within bytes start (Some end) fits is =
    let e = blank_end-Some bytes start end fits is in
    let a = e.behind in
    (omega arith, e.within)

trailers_end_within : (bytes : List ℕ) (width : ℕ) → line_end bytes ≡ width → EndsWithin bytes 0 (trailers_end_by bytes width)
trailers_end_within bytes zero is = blank_end_within bytes 0 (blank_end bytes 0) (omega arith) refl
trailers_end_within bytes (suc n) is = let fits = line_end-within bytes in (omega arith, omega arith)

head_place_within : (bytes : List ℕ) → IsPlaceWithin (length bytes) (head_place bytes)
head_place_within bytes = place_at_within bytes (blank_lines bytes) (blank_end bytes (blank_lines bytes))
    (blank_end_within bytes (blank_lines bytes) (blank_end bytes (blank_lines bytes)) (blank_lines_within bytes) refl)

pub place_within : (kind : Kind) (bytes : List ℕ) → IsPlaceWithin (length bytes) (place kind bytes)
place_within Request bytes = head_place_within bytes
place_within Response bytes = head_place_within bytes
place_within Trailers bytes = place_at_within bytes 0 (trailers_end bytes) (trailers_end_within bytes (line_end bytes) refl)

-- ---- marks stay

pub AreMarks-append : (bytes more : List ℕ) (m : Marks) → AreMarks bytes m → AreMarks (bytes ++ more) m
AreMarks-append bytes more m a =
    let size = length-append bytes more in
    let sw = a.skipped_within in
    let near = a.reached_within in
    record {
      skipped_within = omega arith;
      skipped = rw (take-append-le m.skipped bytes more sw) a.skipped;
      reached_within = omega arith;
      reached = λ end low. ends_blank-append bytes more m.skipped end (omega arith) ∙ a.reached end low;
    }

-- ---- a decided place stays

-- a block's end in more bytes, where the bytes so far have none, lies behind them
late_end : (bytes more : List ℕ) (start end : ℕ) → start ≤ length bytes → blank_end bytes start ≡ None
    → blank_end (bytes ++ more) start ≡ Some end → length bytes < end
late_end bytes more start end fits none is =
    let size = length-append bytes more in
    let found = blank_end-Some (bytes ++ more) start end (omega arith) is in
    elim (leb_tells end (length bytes)) [
      | inl t ↦
          let no = sym (ends_blank-append bytes more start end t.1) ∙ found.ends in
          absurd (let e = sym (blank_end-None bytes start fits none end t.1) ∙ no in cc)
      | inr f ↦ f.1
    ]

pub place_at-Exceeded : (bytes : List ℕ) (start : ℕ) (end : Option ℕ) → 65536 ≤ length bytes
    → ((e : ℕ) → end ≡ Some e → 65536 < e) → place_at bytes start end ≡ Exceeded
place_at-Exceeded bytes start None long far = elim (leb_tells 65536 (length bytes)) [
  | inl t ↦ rw t.0 refl
  | inr f ↦ (let g = f.1 in absurd (omega arith))
]
place_at-Exceeded bytes start (Some e) long far = elim (leb_tells 65537 e) [
  | inl t ↦ rw t.0 refl
  | inr f ↦ (let g = f.1 in let h = far e refl in absurd (omega arith))
]

place_at-Some : (bytes more : List ℕ) (start end : ℕ) → place_at (bytes ++ more) start (Some end) ≡ place_at bytes start (Some end)
place_at-Some bytes more start end = refl

-- what the place is where no block ends
place_at-None : (bytes : List ℕ) (start : ℕ) → place_at bytes start None ≢ Missing → 65536 ≤ length bytes
place_at-None bytes start decided = elim (leb_tells 65536 (length bytes)) [
  | inl t ↦ t.1
  | inr f ↦ absurd (decided (rw f.0 refl))
]

head_stays_by : (bytes more : List ℕ) (end : Option ℕ) → blank_end bytes (blank_lines bytes) ≡ end
    → place_at bytes (blank_lines bytes) end ≢ Missing
    → place_at (bytes ++ more) (blank_lines (bytes ++ more)) (blank_end (bytes ++ more) (blank_lines (bytes ++ more)))
    ≡ place_at bytes (blank_lines bytes) end
head_stays_by bytes more (Some end) is decided =
    let fits = blank_lines_within bytes in
    let found = blank_end-Some bytes (blank_lines bytes) end fits is in
    let behind = found.behind in
    let within = found.within in
    let start = blank_lines-stays bytes (omega arith) more in
    let same = ap (λ (n : ℕ). blank_end (bytes ++ more) n) start ∙ blank_end-append bytes more (blank_lines bytes) end fits is in
    λ i. place_at (bytes ++ more) (start i) (same i)
head_stays_by bytes more None is decided =
    let long = place_at-None bytes (blank_lines bytes) decided in
    let fits = blank_lines_within bytes in
    let size = length-append bytes more in
    let grows = blank_lines-grows bytes more in
    let whole = blank_lines_within (bytes ++ more) in
    let far : (e : ℕ) → blank_end (bytes ++ more) (blank_lines (bytes ++ more)) ≡ Some e → 65536 < e = λ e found.
    elim (leb_tells (blank_lines bytes + 2) (length bytes)) [
      | inl t ↦
          let start = blank_lines-stays bytes t.1 more in
          let late = late_end bytes more (blank_lines bytes) e fits is
          (subst (λ (n : ℕ). blank_end (bytes ++ more) n ≡ Some e) start found) in
          omega arith
      | inr f ↦
          let near = f.1 in
          let at = blank_end-Some (bytes ++ more) (blank_lines (bytes ++ more)) e whole found in
          let behind = at.behind in
          omega arith
    ]
    in
    place_at-Exceeded (bytes ++ more) (blank_lines (bytes ++ more)) (blank_end (bytes ++ more) (blank_lines (bytes ++ more))) (omega arith) far
    ∙ sym (place_at-Exceeded bytes (blank_lines bytes) None long (λ e no. absurd (let c = no in cc)))

trailers_stays_by : (bytes more : List ℕ) (width : ℕ) → line_end bytes ≡ width
    → (end : Option ℕ) → trailers_end_by bytes width ≡ end → place_at bytes 0 end ≢ Missing
    → place_at (bytes ++ more) 0 (trailers_end_by (bytes ++ more) (line_end (bytes ++ more))) ≡ place_at bytes 0 end
trailers_stays_by bytes more (suc n) width end is decided =
    let kept = line_end-kept bytes more n width in
    rw (kept, sym is) refl
trailers_stays_by bytes more zero width (Some end) is decided =
    let found = blank_end-Some bytes 0 end (omega arith) is in
    let behind = found.behind in
    let within = found.within in
    let kept = line_end-stays bytes more (omega arith) ∙ width in
    let same = blank_end-append bytes more 0 end (omega arith) is in
    rw (kept, same) refl
trailers_stays_by bytes more zero width None is decided =
    let long = place_at-None bytes 0 decided in
    let size = length-append bytes more in
    let kept = line_end-stays bytes more (omega arith) ∙ width in
    let far : (e : ℕ) → blank_end (bytes ++ more) 0 ≡ Some e → 65536 < e = λ e found.
    (let late = late_end bytes more 0 e (omega arith) is found in omega arith) in
    rw kept (
    place_at-Exceeded (bytes ++ more) 0 (blank_end (bytes ++ more) 0) (omega arith) far
    ∙ sym (place_at-Exceeded bytes 0 None long (λ e no. absurd (let c = no in cc))))

pub place-stays : (kind : Kind) (bytes more : List ℕ) → place kind bytes ≢ Missing → place kind (bytes ++ more) ≡ place kind bytes
place-stays Request bytes more decided = head_stays_by bytes more (blank_end bytes (blank_lines bytes)) refl decided
place-stays Response bytes more decided = head_stays_by bytes more (blank_end bytes (blank_lines bytes)) refl decided
place-stays Trailers bytes more decided = trailers_stays_by bytes more (line_end bytes) refl (trailers_end bytes) refl decided

-- ---- what is too long is long

place_at-long : (bytes : List ℕ) (start : ℕ) (end : Option ℕ) → EndsWithin bytes start end
    → place_at bytes start end ≡ Exceeded → 65536 ≤ length bytes
place_at-long bytes start None h is = elim (leb_tells 65536 (length bytes)) [
  | inl t ↦ t.1
  | inr f ↦ absurd (let e : Missing ≡ Exceeded = rw f.0 at is in cc)
]
place_at-long bytes start (Some end) h is = elim (leb_tells 65537 end) [
  | inl t ↦ (let a = t.1 in let b = h.1 in omega arith)
  | inr f ↦ absurd (let e : Block start end ≡ Exceeded = rw f.0 at is in cc)
]

head_place-long : (bytes : List ℕ) → head_place bytes ≡ Exceeded → 65536 ≤ length bytes
head_place-long bytes = place_at-long bytes (blank_lines bytes) (blank_end bytes (blank_lines bytes))
    (blank_end_within bytes (blank_lines bytes) (blank_end bytes (blank_lines bytes)) (blank_lines_within bytes) refl)

pub place-long : (kind : Kind) (bytes : List ℕ) → place kind bytes ≡ Exceeded → 65536 ≤ length bytes
place-long Request bytes = head_place-long bytes
place-long Response bytes = head_place-long bytes
place-long Trailers bytes = place_at-long bytes 0 (trailers_end bytes) (trailers_end_within bytes (line_end bytes) refl)
