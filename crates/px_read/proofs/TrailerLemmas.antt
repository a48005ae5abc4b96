-- Trailers that were waited on end behind the bytes that were there.
use Rattle.std.proofs.Common.{ℕ, zero, suc, ◌<◌, ◌≡◌, Bool, true, false, List, [], ◌∷◌, ◌++◌, length, refl, sym, ◌∙◌, subst, arith, inl, inr, Option, Some, None}
use Rattle.std.specs.Prelude.{slice_range, if◌then◌else◌}
use Rattle.std.proofs.lemmas.Bool.Decides.{eqb_tells, leb_tells}
use Rattle.px_text.specs.Blank.{blank_end}
use Rattle.px_text.proofs.BlankLemmas.{blank_end-Some, blank_end-None, ends_blank-append}
use Rattle.px_head.specs.declared.raw.RawHead.{RawHead}
use Rattle.px_head.specs.declared.front.Front.TheVariants.{Nothing, Stands}
use Rattle.px_head.specs.declared.front.Kind.TheVariants.{Trailers}
use Rattle.px_head.specs.declared.place.BlockPlace.{BlockPlace}
use Rattle.px_head.specs.declared.place.BlockPlace.TheVariants.{Missing, Exceeded, Block}
use Rattle.px_head.specs.Front.{front_in, front_of, line_end, place_at, read_as, trailer_front, trailers_end, trailers_end_by, trailers_place}
use Rattle.px_head.proofs.FrontLemmas.{standing}
use Rattle.px_head.proofs.LineLemmas.{line_end-stays}

-- ---- where no block has ended

missing_by : (bytes : List ℕ) (p : BlockPlace) → front_in (read_as Trailers) bytes p ≡ Nothing → p ≡ Missing
missing_by bytes Missing is = refl
missing_by bytes Exceeded is = absurd (let e = is in cc)
missing_by bytes (Block start end) is = absurd (by (read_as Trailers (slice_range bytes start end)) is)
  where
    by : (o : Option RawHead) → front_of o end ≡ Nothing → ⊥
    by None is = cc
    by (Some raw) is = cc

no_end_by : (bytes : List ℕ) (end : Option ℕ) → place_at bytes 0 end ≡ Missing → end ≡ None
no_end_by bytes None is = refl
no_end_by bytes (Some end) is = elim (leb_tells 65537 end) [
  | inl t ↦ absurd (let e : Exceeded ≡ Missing = rw t.0 at is in cc)
  | inr f ↦ absurd (let e : Block 0 end ≡ Missing = rw f.0 at is in cc)
]

no_end : (block : List ℕ) → trailer_front block ≡ Nothing → trailers_end_by block (line_end block) ≡ None
no_end block is = no_end_by block (trailers_end block) (missing_by block (trailers_place block) is)

no_line : (block : List ℕ) (width : ℕ) → trailers_end_by block width ≡ None → width ≡ 0
no_line block zero is = refl
no_line block (suc n) is = cc

-- ---- where one has

end_by : (bytes : List ℕ) (end : Option ℕ) (start used : ℕ) → place_at bytes 0 end ≡ Block start used → end ≡ Some used
end_by bytes None start used is = elim (leb_tells 65536 (length bytes)) [
  | inl t ↦ absurd (let e : Exceeded ≡ Block start used = rw t.0 at is in cc)
  | inr f ↦ absurd (let e : Missing ≡ Block start used = rw f.0 at is in cc)
]
end_by bytes (Some end) start used is = elim (leb_tells 65537 end) [
  | inl t ↦ absurd (let e : Exceeded ≡ Block start used = rw t.0 at is in cc)
  | inr f ↦ (let e : Block 0 end ≡ Block start used = rw f.0 at is in cc)
]

late_blank : (block more : List ℕ) (used : ℕ) → blank_end block 0 ≡ None → blank_end (block ++ more) 0 ≡ Some used
    → length block < used
late_blank block more used none is =
    let found = blank_end-Some (block ++ more) 0 used (omega arith) is in
    elim (leb_tells used (length block)) [
      | inl t ↦
          let ends = sym (ends_blank-append block more 0 used t.1) ∙ found.ends in
          absurd (let e = sym (blank_end-None block 0 (omega arith) none used t.1) ∙ ends in cc)
      | inr f ↦ f.1
    ]

line_one : (a : ℕ) (more : List ℕ) (n : ℕ) → line_end (a ∷ []) ≡ 0 → line_end (a ∷ more) ≡ suc n → 1 < suc n
line_one a [] n none is = absurd (let e = sym none ∙ is in cc)
line_one a (b ∷ more) n none is = elim (eqb_tells a 10) [
  | inl t ↦ absurd (let e : 1 ≡ 0 = rw t.0 at none in cc)
  | inr f ↦ two _ (rw f.0 at is)
]
  where
    two : (v : Bool) → (if v then 2 else 0) ≡ suc n → 1 < suc n
    two true is = omega arith
    two false is = absurd (let e = is in cc)

late_line : (block more : List ℕ) (n : ℕ) → line_end block ≡ 0 → line_end (block ++ more) ≡ suc n → length block < suc n
late_line [] more n none is = omega arith
late_line (a ∷ []) more n none is = line_one a more n none is
late_line (a ∷ b ∷ block) more n none is =
    let same = line_end-stays (a ∷ b ∷ block) more (omega arith) in
    absurd (let e = sym none ∙ sym same ∙ is in cc)

late_by : (block more : List ℕ) (used width : ℕ) → line_end block ≡ 0 → blank_end block 0 ≡ None → line_end (block ++ more) ≡ width
    → trailers_end_by (block ++ more) width ≡ Some used → length block < used
late_by block more used zero line blank at is = late_blank block more used blank is
late_by block more used (suc n) line blank at is =
    let same : suc n ≡ used = (let e = is in cc) in
    subst (λ (m : ℕ). length block < m) same (late_line block more n line at)

-- trailers that were not there yet end behind the bytes so far
pub trailers_late : (block more : List ℕ) (raw : RawHead) (used : ℕ) → trailer_front block ≡ Nothing
    → trailer_front (block ++ more) ≡ Stands raw used → length block < used
trailers_late block more raw used waits stands =
    let none = no_end block waits in
    let line = no_line block (line_end block) none in
    let blank : blank_end block 0 ≡ None = subst (λ (w : ℕ). trailers_end_by block w ≡ None) line none in
    let s = standing Trailers (block ++ more) raw used stands in
    late_by block more used (line_end (block ++ more)) line blank refl
    (end_by (block ++ more) (trailers_end (block ++ more)) s.start used s.at)
