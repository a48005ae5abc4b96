-- Exactly where more bytes are waited for, and exactly where a head is too long.
use Rattle.std.proofs.Common.{ℕ, zero, suc, ◌<◌, ◌≤◌, ◌≡◌, List, length, refl, sym, ap, ◌∙◌, arith, inl, inr, Option, Some, None}
use Rattle.std.specs.Prelude.{◌↔◌}
use Rattle.std.proofs.lemmas.Bool.Decides.{leb_tells}
use Rattle.px_text.specs.Blank.{blank_end}
use Rattle.px_text.proofs.BlankLemmas.{blank_end-Some, blank_end-None}
use Rattle.px_head.specs.declared.front.Front.TheVariants.{Nothing, TooLong}
use Rattle.px_head.specs.declared.front.Kind.{Kind}
use Rattle.px_head.specs.declared.front.Kind.TheVariants.{Request, Response, Trailers}
use Rattle.px_head.specs.declared.place.BlockPlace.{BlockPlace}
use Rattle.px_head.specs.declared.place.BlockPlace.TheVariants.{Missing, Exceeded, Block}
use Rattle.px_head.specs.Front.{blank_lines, line_end, trailers_end_by, place_at, place, front, front_in, read_as}
use Rattle.px_head.specs.Laws.{HasNoBlock}
use Rattle.px_head.specs.Marks.{HasNoEnd}
use Rattle.px_head.proofs.FrontLemmas.{nothing_by, too_long_by, place-Missing}
use Rattle.px_head.proofs.LineLemmas.{blank_lines_within, line_end-short}
use Rattle.px_head.proofs.PlaceLemmas.{place_at-Exceeded, place-long}

-- ---- no block yet

no_end_Missing : (bytes : List ℕ) (start : ℕ) → start ≤ length bytes → (end : Option ℕ) → blank_end bytes start ≡ end
    → place_at bytes start end ≡ Missing → HasNoEnd bytes start (length bytes)
no_end_Missing bytes start fits None none is = blank_end-None bytes start fits none
no_end_Missing bytes start fits (Some end) found is = elim (leb_tells 65537 end) [
  | inl t ↦ absurd (let e : Exceeded ≡ Missing = rw t.0 at is in cc)
  | inr f ↦ absurd (let e : Block start end ≡ Missing = rw f.0 at is in cc)
]

some_not_Missing : (bytes : List ℕ) (start end : ℕ) → place_at bytes start (Some end) ≡ Missing → ⊥
some_not_Missing bytes start end is = elim (leb_tells 65537 end) [
  | inl t ↦ (let e : Exceeded ≡ Missing = rw t.0 at is in cc)
  | inr f ↦ (let e : Block start end ≡ Missing = rw f.0 at is in cc)
]

trailers_none : (bytes : List ℕ) (width : ℕ) → line_end bytes ≡ width → place_at bytes 0 (trailers_end_by bytes width) ≡ Missing
    → HasNoBlock Trailers bytes (length bytes)
trailers_none bytes zero is missing = (is, no_end_Missing bytes 0 (omega arith) (blank_end bytes 0) refl missing)
trailers_none bytes (suc n) is missing = absurd (some_not_Missing bytes 0 (suc n) missing)

pub none_missing : (kind : Kind) (bytes : List ℕ) → place kind bytes ≡ Missing → HasNoBlock kind bytes (length bytes)
none_missing Request bytes = no_end_Missing bytes (blank_lines bytes) (blank_lines_within bytes) (blank_end bytes (blank_lines bytes)) refl
none_missing Response bytes = no_end_Missing bytes (blank_lines bytes) (blank_lines_within bytes) (blank_end bytes (blank_lines bytes)) refl
none_missing Trailers bytes = trailers_none bytes (line_end bytes) refl

missing_at : (bytes : List ℕ) (start : ℕ) → start ≤ length bytes → (end : Option ℕ) → blank_end bytes start ≡ end
    → length bytes < 65536 → HasNoEnd bytes start (length bytes) → place_at bytes start end ≡ Missing
missing_at bytes start fits None none short ends = elim (leb_tells 65536 (length bytes)) [
  | inl t ↦ (let g = t.1 in absurd (omega arith))
  | inr f ↦ rw f.0 refl
]
missing_at bytes start fits (Some end) found short ends =
    let at = blank_end-Some bytes start end fits found in
    absurd (let e = sym at.ends ∙ ends end at.within in cc)

missing_none : (kind : Kind) (bytes : List ℕ) → length bytes < 65536 → HasNoBlock kind bytes (length bytes)
    → place kind bytes ≡ Missing
missing_none Request bytes short none =
    missing_at bytes (blank_lines bytes) (blank_lines_within bytes) (blank_end bytes (blank_lines bytes)) refl short none
missing_none Response bytes short none =
    missing_at bytes (blank_lines bytes) (blank_lines_within bytes) (blank_end bytes (blank_lines bytes)) refl short none
missing_none Trailers bytes short none =
    ap (λ (n : ℕ). place_at bytes 0 (trailers_end_by bytes n)) none.0
    ∙ missing_at bytes 0 (omega arith) (blank_end bytes 0) refl short none.1

pub waiting-exact : (kind : Kind) (bytes : List ℕ)
    → (front kind bytes ≡ Nothing) ↔ ((length bytes < 65536) × HasNoBlock kind bytes (length bytes))
waiting-exact kind bytes = (
  λ is. (let missing = nothing_by kind bytes (place kind bytes) is in (place-Missing kind bytes missing, none_missing kind bytes missing)),
  λ x. ap (λ (p : BlockPlace). front_in (read_as kind) bytes p) (missing_none kind bytes x.0 x.1),
)

-- ---- no block within the limit

no_end_Exceeded : (bytes : List ℕ) (start : ℕ) → start ≤ length bytes → (end : Option ℕ) → blank_end bytes start ≡ end
    → 65536 ≤ length bytes → place_at bytes start end ≡ Exceeded → HasNoEnd bytes start 65536
no_end_Exceeded bytes start fits None none long is end low = blank_end-None bytes start fits none end (omega arith)
no_end_Exceeded bytes start fits (Some last) found long is end low = elim (leb_tells 65537 last) [
  | inl t ↦ (let g = t.1 in (blank_end-Some bytes start last fits found).first end (omega arith))
  | inr f ↦ absurd (let e : Block start last ≡ Exceeded = rw f.0 at is in cc)
]

short_not_Exceeded : (bytes : List ℕ) (start end : ℕ) → end ≤ 2 → place_at bytes start (Some end) ≡ Exceeded → ⊥
short_not_Exceeded bytes start end short is = elim (leb_tells 65537 end) [
  | inl t ↦ (let g = t.1 in absurd (omega arith))
  | inr f ↦ (let e : Block start end ≡ Exceeded = rw f.0 at is in cc)
]

trailers_exceeded : (bytes : List ℕ) (width : ℕ) → line_end bytes ≡ width → 65536 ≤ length bytes
    → place_at bytes 0 (trailers_end_by bytes width) ≡ Exceeded → HasNoBlock Trailers bytes 65536
trailers_exceeded bytes zero is long exceeded =
    (is, no_end_Exceeded bytes 0 (omega arith) (blank_end bytes 0) refl long exceeded)
trailers_exceeded bytes (suc n) is long exceeded =
    absurd (short_not_Exceeded bytes 0 (suc n) (let short = line_end-short bytes in omega arith) exceeded)

none_exceeded : (kind : Kind) (bytes : List ℕ) → 65536 ≤ length bytes → place kind bytes ≡ Exceeded → HasNoBlock kind bytes 65536
none_exceeded Request bytes =
    no_end_Exceeded bytes (blank_lines bytes) (blank_lines_within bytes) (blank_end bytes (blank_lines bytes)) refl
none_exceeded Response bytes =
    no_end_Exceeded bytes (blank_lines bytes) (blank_lines_within bytes) (blank_end bytes (blank_lines bytes)) refl
none_exceeded Trailers bytes = trailers_exceeded bytes (line_end bytes) refl

exceeded_at : (bytes : List ℕ) (start : ℕ) → start ≤ length bytes → 65536 ≤ length bytes → HasNoEnd bytes start 65536
    → place_at bytes start (blank_end bytes start) ≡ Exceeded
exceeded_at bytes start fits long none = place_at-Exceeded bytes start (blank_end bytes start) long (λ end found.
    let at = blank_end-Some bytes start end fits found in
    elim (leb_tells 65537 end) [
      | inl t ↦ t.1
      | inr f ↦ (let g = f.1 in absurd (let e = sym at.ends ∙ none end (omega arith) in cc))
    ])

exceeded_none : (kind : Kind) (bytes : List ℕ) → 65536 ≤ length bytes → HasNoBlock kind bytes 65536 → place kind bytes ≡ Exceeded
exceeded_none Request bytes long none = exceeded_at bytes (blank_lines bytes) (blank_lines_within bytes) long none
exceeded_none Response bytes long none = exceeded_at bytes (blank_lines bytes) (blank_lines_within bytes) long none
exceeded_none Trailers bytes long none =
    ap (λ (n : ℕ). place_at bytes 0 (trailers_end_by bytes n)) none.0 ∙ exceeded_at bytes 0 (omega arith) long none.1

pub too_long-exact : (kind : Kind) (bytes : List ℕ)
    → (front kind bytes ≡ TooLong) ↔ ((65536 ≤ length bytes) × HasNoBlock kind bytes 65536)
too_long-exact kind bytes = (
  λ is. (let exceeded = too_long_by kind bytes (place kind bytes) is in
      let long = place-long kind bytes exceeded in (long, none_exceeded kind bytes long exceeded)),
  λ x. ap (λ (p : BlockPlace). front_in (read_as kind) bytes p) (exceeded_none kind bytes x.0 x.1),
)
