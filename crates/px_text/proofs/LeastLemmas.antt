-- The least number that passes a test: what it tells, where a search may go on, and when two searches are one.
use Rattle.std.proofs.Common.{ℕ, zero, suc, ◌+◌, ◌-◌, ◌<◌, ◌≤◌, ◌≡◌, Bool, true, false, refl, sym, ap, ◌∙◌, arith, inl, inr, Some, None, zero-add, add-zero}
use Rattle.std.specs.Prelude.{◌⊎◌}
use Rattle.std.proofs.lemmas.Bool.Decides.{eqb_tells}
use Rattle.px_text.specs.Least.{least}

-- ---- one step

pub least_next : (test : ℕ → Bool) (at count : ℕ) → test at ≡ false → least test at (suc count) ≡ least test (at + 1) count
least_next test at count fails = rw fails refl

pub least_here : (test : ℕ → Bool) (at count : ℕ) → test at ≡ true → least test at (suc count) ≡ Some at
least_here test at count passes = rw passes refl

-- a search up to a fixed end
pub least_step : (test : ℕ → Bool) (at over : ℕ) → at < over → test at ≡ false
    → least test (at + 1) (over - (at + 1)) ≡ least test at (over - at)
least_step test at over below fails =
    let e : over - at ≡ suc (over - (at + 1)) = omega arith in
    rw e (sym (least_next test at (over - (at + 1)) fails))

pub least_stop : (test : ℕ → Bool) (at over : ℕ) → at < over → test at ≡ true → least test at (over - at) ≡ Some at
least_stop test at over below passes =
    let e : over - at ≡ suc (over - (at + 1)) = omega arith in
    rw e (least_here test at (over - (at + 1)) passes)

-- ---- what an answer tells

-- the number passes, lies in the range, and none before it passes
pub record IsLeast (test : ℕ → Bool) (at count found : ℕ) : Type 0 where
  pub passes : test found ≡ true
  pub from : at ≤ found
  pub below : found < at + count
  pub first : (k : ℕ) → at ≤ k → k < found → test k ≡ false

at_or_behind : (k at : ℕ) → at ≤ k → (k ≡ at) ⊎ (at + 1 ≤ k)
at_or_behind k at low = elim (eqb_tells k at) [ inl same ↦ inl same.1 | inr other ↦ inr (let o = other.1 in omega arith) ]

-- a test that fails at `at` and at each number behind it
false_from : (test : ℕ → Bool) (at over : ℕ) → test at ≡ false → ((k : ℕ) → at + 1 ≤ k → k < over → test k ≡ false)
    → (k : ℕ) → at ≤ k → k < over → test k ≡ false
false_from test at over here behind k low high =
    elim (at_or_behind k at low) [ inl same ↦ ap test same ∙ here | inr more ↦ behind k more high ]

least-Some_by : (test : ℕ → Bool) (at count found : ℕ) (v : Bool) → test at ≡ v
    → (least test (at + 1) count ≡ Some found → IsLeast test (at + 1) count found)
    → least test at (suc count) ≡ Some found → IsLeast test at (suc count) found
least-Some_by test at count found true passes more is =
    let same : at ≡ found = (let e = sym (least_here test at count passes) ∙ is in cc) in
    record {
      passes = ap test (sym same) ∙ passes;
      from = omega arith;
      below = omega arith;
      first = λ k low high. absurd (omega arith);
    }
least-Some_by test at count found false fails more is =
    let rest = more (sym (least_next test at count fails) ∙ is) in
    record {
      passes = rest.passes;
      from = let a = rest.from in omega arith;
      below = let a = rest.below in omega arith;
      first = false_from test at found fails rest.first;
    }

pub least-Some : (test : ℕ → Bool) (at count found : ℕ) → least test at count ≡ Some found → IsLeast test at count found
least-Some test at zero found is = absurd (cc)
least-Some test at (suc count) found is =
    least-Some_by test at count found (test at) refl (least-Some test (at + 1) count found) is

least-None_by : (test : ℕ → Bool) (at count : ℕ) (v : Bool) → test at ≡ v
    → (least test (at + 1) count ≡ None → (k : ℕ) → at + 1 ≤ k → k < at + 1 + count → test k ≡ false)
    → least test at (suc count) ≡ None → (k : ℕ) → at ≤ k → k < at + suc count → test k ≡ false
least-None_by test at count true passes more is = absurd (let e = sym (least_here test at count passes) ∙ is in cc)
least-None_by test at count false fails more is =
    let rest = more (sym (least_next test at count fails) ∙ is) in
    false_from test at (at + suc count) fails (λ k low high. rest k low (omega arith))

-- none of the numbers passes
pub least-None : (test : ℕ → Bool) (at count : ℕ) → least test at count ≡ None
    → (k : ℕ) → at ≤ k → k < at + count → test k ≡ false
least-None test at zero is = λ k low high. absurd (omega arith)
least-None test at (suc count) is =
    least-None_by test at count (test at) refl (λ e k low high. least-None test (at + 1) count e k low high) is

-- ---- searches that are one

-- numbers that fail may be left out in front
pub least_skip : (test : ℕ → Bool) (at n count : ℕ) → ((k : ℕ) → at ≤ k → k < at + n → test k ≡ false)
    → least test at (n + count) ≡ least test (at + n) count
least_skip test at zero count fails = rw (zero-add, add-zero) refl
least_skip test at (suc n) count fails =
    let e : suc n + count ≡ suc (n + count) = omega arith in
    let f : at + suc n ≡ (at + 1) + n = omega arith in
    ap (λ (m : ℕ). least test at m) e ∙ least_next test at (n + count) (fails at (omega arith) (omega arith))
    ∙ least_skip test (at + 1) n count (λ k low high. fails k (omega arith) (omega arith))
    ∙ ap (λ (m : ℕ). least test m count) (sym f)

pub least_none : (test : ℕ → Bool) (at count : ℕ) → ((k : ℕ) → at ≤ k → k < at + count → test k ≡ false)
    → least test at count ≡ None
least_none test at zero fails = refl
least_none test at (suc count) fails =
    least_next test at count (fails at (omega arith) (omega arith))
    ∙ least_none test (at + 1) count (λ k low high. fails k (omega arith) (omega arith))

-- two tests that agree on the range
pub least_same : (test other : ℕ → Bool) (at count : ℕ) → ((k : ℕ) → at ≤ k → k < at + count → test k ≡ other k)
    → least test at count ≡ least other at count
least_same test other at zero agree = refl
least_same test other at (suc count) agree =
    rw (agree at (omega arith) (omega arith), least_same test other (at + 1) count (λ k low high. agree k (omega arith) (omega arith))) refl

least_more_by : (test : ℕ → Bool) (at count more found : ℕ) (v : Bool) → test at ≡ v
    → (least test (at + 1) count ≡ Some found → least test (at + 1) (count + more) ≡ Some found)
    → least test at (suc count) ≡ Some found → least test at (suc (count + more)) ≡ Some found
least_more_by test at count more found true passes rest is =
    least_here test at (count + more) passes ∙ sym (least_here test at count passes) ∙ is
least_more_by test at count more found false fails rest is =
    least_next test at (count + more) fails ∙ rest (sym (least_next test at count fails) ∙ is)

-- more numbers behind the one that was found change nothing
pub least_more : (test : ℕ → Bool) (at count more found : ℕ) → least test at count ≡ Some found
    → least test at (count + more) ≡ Some found
least_more test at zero more found is = absurd (cc)
least_more test at (suc count) more found is =
    let e : suc count + more ≡ suc (count + more) = omega arith in
    ap (λ (m : ℕ). least test at m) e
    ∙ least_more_by test at count more found (test at) refl (least_more test (at + 1) count more found) is
