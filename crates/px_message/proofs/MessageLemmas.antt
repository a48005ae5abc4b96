-- Two lists that are compared from the front.
use Rattle.std.proofs.Common.{◌≡◌, ◌∙◌, ℕ, ◌+◌, ◌<◌, Bool, true, false, not, ◌&&◌, List, length, drop, slice_get, Some, sym, ap}
use Rattle.std.specs.Cmp.Lexicographic.{pointwise}
use Rattle.std.proofs.cmp.SliceLoops.{Rest, begun}
use Rattle.std.proofs.lemmas.Option.{get_or_from_slice_get}

turned : (n b : Bool) → n ≡ not b → not n ≡ b
turned n true h = ap not h
turned n false h = ap not h

-- the next of each are x and y, and n says whether they are unequal
pub with_next : {A : Type 0} (E : A → A → Bool) (xs ys : List A) (i : ℕ) (x y : A) (n : Bool) → i < length xs → i < length ys →
    slice_get xs i ≡ Some x → slice_get ys i ≡ Some y → n ≡ not (E x y) → Rest (pointwise E) xs ys i →
    (not n && pointwise E (drop (i + 1) xs) (drop (i + 1) ys)) ≡ pointwise E xs ys
with_next E xs ys i x y n in_xs in_ys at_x at_y differ so_far =
    ap (λ t. t && pointwise E (drop (i + 1) xs) (drop (i + 1) ys)) (turned n (E x y) differ)
    ∙ begun xs ys i x y in_xs in_ys (sym (get_or_from_slice_get xs i x x at_x)) (sym (get_or_from_slice_get ys i y y at_y)) (pointwise E)
    ∙ so_far
