-- The orders of lists tell two lists apart exactly where their tests do.
use Rattle.std.specs.Prelude.{◌≡◌, ℕ, List, nat_eq}
use Rattle.std.specs.Cmp.{both_tied, unsigned_ties}
use Rattle.std.specs.Cmp.Lexicographic.{lists_ties, pointwise, slice_cmp}
use Rattle.std.specs.Ordering.{eq_of_both, is_eq, nat_cmp, on, then_cmp}

pub texts_tie : (x y : List ℕ) → pointwise nat_eq x y ≡ is_eq (slice_cmp nat_cmp x y)
texts_tie = lists_ties nat_cmp unsigned_ties

pub values_tie : (x y : List (List ℕ)) → pointwise (pointwise nat_eq) x y ≡ is_eq (slice_cmp (slice_cmp nat_cmp) x y)
values_tie = lists_ties (slice_cmp nat_cmp) texts_tie

pub all_values_tie : (x y : List (List (List ℕ))) → pointwise (pointwise (pointwise nat_eq)) x y ≡ is_eq (slice_cmp (slice_cmp (slice_cmp nat_cmp)) x y)
all_values_tie = lists_ties (slice_cmp (slice_cmp nat_cmp)) values_tie

pub pairs_tie : (x y : List (List ℕ × List ℕ)) →
    pointwise (eq_of_both (on (λ p. p.0) (pointwise nat_eq)) (on (λ p. p.1) (pointwise nat_eq))) x y
    ≡ is_eq (slice_cmp (then_cmp (on (λ p. p.0) (slice_cmp nat_cmp)) (on (λ p. p.1) (slice_cmp nat_cmp))) x y)
pairs_tie = lists_ties _ (λ a b. both_tied _ _ _ _ (texts_tie a.0 b.0) (texts_tie a.1 b.1))
