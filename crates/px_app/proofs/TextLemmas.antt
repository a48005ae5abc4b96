-- Texts that are put together of four parts.
use Rattle.std.proofs.Common.{◌≡◌, ◌∙◌, ap, ℕ, List, ◌++◌, append_assoc}

regroup : (old a b c d : List ℕ) → (((old ++ a) ++ b) ++ c) ++ d ≡ old ++ (a ++ (b ++ (c ++ d)))
regroup old a b c d = simp append_assoc

-- each behind the one before
pub four_behind : (out third second first old a b c d : List ℕ) → first ≡ old ++ a → second ≡ first ++ b → third ≡ second ++ c → out ≡ third ++ d → out ≡ old ++ (a ++ (b ++ (c ++ d)))
four_behind out third second first old a b c d one two three four =
    four ∙ (ap (λ l. l ++ d) (three ∙ ap (λ l. l ++ c) (two ∙ ap (λ l. l ++ b) one)) ∙ regroup old a b c d)
