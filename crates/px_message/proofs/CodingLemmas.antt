-- The place of `chunked` among all codings of a message.
use Rattle.std.proofs.Common.{◌≡◌, ◌∙◌, ◌==◌, ◌&&◌, ℕ, Bool, true, false, cond, not, List, [], ◌∷◌, length, refl, sym, ap}
use Rattle.std.specs.List.{flat_map, fold, slice_split}
use Rattle.px_message.specs.Codings.{chunking_after, chunking_next, chunking_with, is_last}
use Rattle.px_message.specs.Fields.{elements, trim_blanks, values_of}
use Rattle.px_message.specs.Length.{ends_chunked, is_chunked, is_framed_in_chunks, transfer_encoding}
use Rattle.px_message.specs.declared.codings.Chunking.{Chunking}
use Rattle.px_message.specs.declared.codings.Chunking.TheVariants.{Absent, Last, Early}
use Rattle.px_message.proofs.FoldLemmas.{fold-filter_map, fold-flat_map, fold_same_step}

-- with one coding more
abbrev next : Chunking → List ℕ → Chunking
next seen coding = chunking_next seen (is_chunked coding)

early_stays : (codings : List (List ℕ)) → fold next Early codings ≡ Early
early_stays [] = refl
early_stays (coding ∷ codings) = early_stays codings

ends_chunked_from : (codings : List (List ℕ)) → is_last (fold next Absent codings) ≡ ends_chunked codings
ends_chunked_from [] = refl
ends_chunked_from (coding ∷ []) = by_test (is_chunked coding)
  where
    by_test : (b : Bool) → is_last (cond b Last Absent) ≡ b
    by_test true = refl
    by_test false = refl
ends_chunked_from (coding ∷ more ∷ codings) = by_test (is_chunked coding) (ends_chunked_from (more ∷ codings))
  where
    by_test : (b : Bool) → is_last (fold next Absent (more ∷ codings)) ≡ ends_chunked (more ∷ codings) →
        is_last (fold next (cond b Last Absent) (more ∷ codings)) ≡ (not b && ends_chunked (more ∷ codings))
    by_test true rest = ap is_last (early_stays codings)
    by_test false rest = rest

with_next : (seen : Chunking) (coding : List ℕ) →
    cond (not (length coding == 0)) (next seen coding) seen ≡ chunking_with seen coding
with_next seen coding = by_test (length coding == 0)
  where
    by_test : (b : Bool) → cond (not b) (next seen coding) seen ≡ cond b seen (next seen coding)
    by_test true = refl
    by_test false = refl

over_elements : (seen : Chunking) (value : List ℕ) → fold next seen (elements value) ≡ chunking_after seen value
over_elements seen value =
    fold-filter_map next (λ part. not (length part == 0)) trim_blanks seen (slice_split (λ b. b == 44) value)
    ∙ fold_same_step _ _ (λ s part. with_next s (trim_blanks part)) seen (slice_split (λ b. b == 44) value)

-- the values of the field, one after the other, tell whether the body is framed in chunks
pub is_last-chunking : (fields : List (List ℕ × List ℕ)) →
    is_last (fold chunking_after Absent (values_of transfer_encoding fields)) ≡ is_framed_in_chunks fields
is_last-chunking fields =
    let values = values_of transfer_encoding fields in
    ap is_last (sym (fold-flat_map next elements Absent values ∙ fold_same_step _ _ over_elements Absent values))
    ∙ ends_chunked_from (flat_map elements values)
