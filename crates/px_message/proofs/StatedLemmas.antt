-- The number that all parts of Content-Length values are.
use Rattle.std.proofs.Common.{◌≡◌, ◌∙◌, ◌==◌, ◌⊎◌, ℕ, Bool, true, false, cond, List, [], ◌∷◌, map, Option, Some, None, refl, sym, ap, inl, inr}
use Rattle.std.specs.List.{flat_map, fold, slice_split}
use Rattle.std.proofs.lemmas.Bool.{eq-eqb, eqb-true}
use Rattle.std.proofs.lemmas.List.Folds.{fold-map}
use Rattle.px_text.specs.Number.{decimal_value}
use Rattle.px_message.specs.Fields.{parts, trim_blanks, values_of}
use Rattle.px_message.specs.Length.{agree, agreed, content_length, stated_length}
use Rattle.px_message.specs.Stated.{number_of, stated_after, stated_with}
use Rattle.px_message.specs.declared.stated.Stated.{Stated}
use Rattle.px_message.specs.declared.stated.Stated.TheVariants.{Nothing, Number, Unclear}
use Rattle.px_message.proofs.FoldLemmas.{fold-flat_map, fold_same_step}

unclear_stays : (numbers : List (Option ℕ)) → fold stated_with Unclear numbers ≡ Unclear
unclear_stays [] = refl
unclear_stays (number ∷ numbers) = unclear_stays numbers

none_first : (numbers : List (Option ℕ)) → agreed (None ∷ numbers) ≡ None
none_first [] = refl
none_first (number ∷ numbers) = refl

some_first : (n : ℕ) (numbers : List (Option ℕ)) → (agreed (Some n ∷ numbers) ≡ Some n) ⊎ (agreed (Some n ∷ numbers) ≡ None)
some_first n [] = inl refl
some_first n (number ∷ numbers) = by_test (agree (Some n) (agreed (number ∷ numbers)))
  where
    by_test : (b : Bool) → (cond b (Some n) None ≡ Some n) ⊎ (cond b (Some n) None ≡ None)
    by_test true = inl refl
    by_test false = inr refl

-- a number before what is that number or none
same_or_none : (n : ℕ) (rest : Option ℕ) → (rest ≡ Some n) ⊎ (rest ≡ None) → cond (agree (Some n) rest) (Some n) None ≡ rest
same_or_none n rest (inl same) = rw same (ap (λ b. cond b (Some n) None) (eq-eqb n n refl))
same_or_none n rest (inr none) = rw none refl

other_or_none : (n m : ℕ) (rest : Option ℕ) → (n == m) ≡ false → (rest ≡ Some m) ⊎ (rest ≡ None) →
    cond (agree (Some n) rest) (Some n) None ≡ None
other_or_none n m rest other (inl same) = rw same (ap (λ b. cond b (Some n) None) other)
other_or_none n m rest other (inr none) = rw none refl

agreed_from_number : (n : ℕ) (numbers : List (Option ℕ)) →
    number_of (fold stated_with (Number n) numbers) ≡ agreed (Some n ∷ numbers)
agreed_from_number n [] = refl
agreed_from_number n (None ∷ numbers) =
    ap number_of (unclear_stays numbers)
    ∙ sym (ap (λ (o : Option ℕ). cond (agree (Some n) o) (Some n) None) (none_first numbers))
agreed_from_number n (Some m ∷ numbers) = by_test (n == m) refl (agreed_from_number n numbers)
  where
    by_test : (b : Bool) → (n == m) ≡ b →
        number_of (fold stated_with (Number n) numbers) ≡ agreed (Some n ∷ numbers) →
        number_of (fold stated_with (cond b (Number n) Unclear) numbers)
        ≡ cond (agree (Some n) (agreed (Some m ∷ numbers))) (Some n) None
    by_test true same rest =
        rest
        ∙ sym (same_or_none n (agreed (Some n ∷ numbers)) (some_first n numbers))
        ∙ ap (λ (k : ℕ). cond (agree (Some n) (agreed (Some k ∷ numbers))) (Some n) None) (eqb-true n m same)
    by_test false other rest =
        ap number_of (unclear_stays numbers)
        ∙ sym (other_or_none n m (agreed (Some m ∷ numbers)) other (some_first m numbers))

agreed_from : (numbers : List (Option ℕ)) → number_of (fold stated_with Nothing numbers) ≡ agreed numbers
agreed_from [] = refl
agreed_from (None ∷ numbers) = ap number_of (unclear_stays numbers) ∙ sym (none_first numbers)
agreed_from (Some n ∷ numbers) = agreed_from_number n numbers

over_parts : (stated : Stated) (value : List ℕ) →
    fold stated_with stated (map decimal_value (parts value)) ≡ stated_after stated value
over_parts stated value =
    fold-map stated_with decimal_value stated (parts value)
    ∙ fold-map (λ s part. stated_with s (decimal_value part)) trim_blanks stated (slice_split (λ b. b == 44) value)

over_values : (stated : Stated) (values : List (List ℕ)) →
    fold stated_with stated (map decimal_value (flat_map parts values)) ≡ fold stated_after stated values
over_values stated values =
    fold-map stated_with decimal_value stated (flat_map parts values)
    ∙ fold-flat_map (λ s part. stated_with s (decimal_value part)) parts stated values
    ∙ fold_same_step _ _ (λ s value. sym (fold-map stated_with decimal_value s (parts value)) ∙ over_parts s value) stated values

-- the values of the field, one after the other, tell the number that is stated
pub number_of-stated : (fields : List (List ℕ × List ℕ)) →
    number_of (fold stated_after Nothing (values_of content_length fields)) ≡ stated_length fields
number_of-stated fields =
    let values = values_of content_length fields in
    ap number_of (sym (over_values Nothing values)) ∙ agreed_from (map decimal_value (flat_map parts values))
