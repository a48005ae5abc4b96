-- Sums that stop at the greatest number.
use Rattle.std.proofs.Common.{ℕ, ◌+◌, ◌<◌, ◌≡◌, ◌∙◌, min, List, length, take, sym, ap, arith, Some}
use Rattle.std.specs.List.{slice_get}
use Rattle.std.proofs.lemmas.List.Sums.{sum_by_more}
use Rattle.std.proofs.lemmas.Option.{get_or_from_slice_get}
use Rattle.px_read.specs.Kept.{field_keeps, fields_keep}

min_more : (s a b most : ℕ) → min (min (min s most + a) most + b) most ≡ min (s + (a + b)) most
min_more s a b most = omega arith

-- one field more
pub keeps_more : (fields : List (List ℕ × List ℕ)) (at size most : ℕ) (field : List ℕ × List ℕ) → at < length fields → slice_get fields at ≡ Some field
    → size ≡ min (fields_keep (take at fields)) most
    → min (min (size + length field.0) most + length field.1) most ≡ min (fields_keep (take (at + 1) fields)) most
keeps_more fields at size most field within is so_far =
    ap (λ (s : ℕ). min (min (s + length field.0) most + length field.1) most) so_far
    ∙ min_more (fields_keep (take at fields)) (length field.0) (length field.1) most
    ∙ ap (λ (n : ℕ). min n most) (sym (sum_by_more field_keeps fields at field within
    ∙ ap (λ (f : List ℕ × List ℕ). fields_keep (take at fields) + field_keeps f) (get_or_from_slice_get fields at field field is)))
