-- The search for a block's end, from where it stopped.
use Rattle.std.proofs.Common.{ℕ, ◌+◌, ◌-◌, ◌≤◌, ◌≡◌, max, List, length, sym, ap, subst, arith, inl, inr}
use Rattle.std.proofs.lemmas.Bool.Decides.{leb_tells}
use Rattle.px_text.specs.Blank.{blank_end}
use Rattle.px_text.proofs.BlankLemmas.{blank_end-resume}
use Rattle.px_head.specs.Marks.{HasNoEnd}

pub blank_end-from : (bytes : List ℕ) (start reached from : ℕ) → start ≤ length bytes → reached ≤ length bytes
    → HasNoEnd bytes start reached → from ≡ max start (reached - 2) → blank_end bytes from ≡ blank_end bytes start
blank_end-from bytes start reached from fits within none is = elim (leb_tells (start + 2) reached) [
  | inl t ↦
      let far = t.1 in
      let at : from + 2 ≡ reached = omega arith in
      blank_end-resume bytes start from (omega arith) (omega arith) (subst (λ (n : ℕ). HasNoEnd bytes start n) (sym at) none)
  | inr f ↦
      let near = f.1 in
      let at : from ≡ start = omega arith in
      ap (λ (n : ℕ). blank_end bytes n) at
]
