-- Rows that compute.
use Rattle.std.specs.Prelude.{nat_lt, if◌then◌else◌}
use Rattle.std.proofs.Common.{◌≡◌, ℕ, ◌+◌, ◌/◌, ◌≤◌, [], ◌∷◌, codes, refl, ap, arith, inl, inr}
use Rattle.std.proofs.lemmas.Bool.{cases_lt, lt-ltb, le-ltb}
use Rattle.base64.proofs.OnLiterals.{base64_on_literals}
use Rattle.px_har.specs.Moment.{date_after, last_moment, millis_text, moment_text}
use Rattle.px_har.specs.Text.{base64_text}

pub bytes_are : base64_text (255 ∷ []) ≡ codes "/w=="
unfolding base64_on_literals
bytes_are = refl

pub moment_is : moment_text 86400001000 ≡ codes "1970-01-02T00:00:00.001Z"
unfolding date_after
moment_is = refl

-- the number is the last, or a later one is taken as it
cap : (last moment : ℕ) → last ≤ moment → (if nat_lt last moment then last else moment) ≡ last
cap last moment h = elim (cases_lt last moment) [
  | inl later ↦ rw (lt-ltb last moment later) refl
  | inr same ↦ rw (le-ltb last moment same) (omega arith)
]

pub beyond : (more : ℕ) → moment_text (last_moment + more) ≡ moment_text last_moment
beyond more = ap (λ (moment : ℕ). millis_text (moment / 1000)) (cap last_moment (last_moment + more) (omega arith))
