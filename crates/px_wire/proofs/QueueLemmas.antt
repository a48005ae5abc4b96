-- Pieces in a row, none of them empty.
use Rattle.std.proofs.Common.{◌≡◌, ℕ, List, [], ◌∷◌, ◌++◌, ap, ◌∙◌, sym, refl, append_assoc, append-nil}
use Rattle.std.specs.List.{concat}

concat-append : (xs ys : List (List ℕ)) → concat (xs ++ ys) ≡ concat xs ++ concat ys
concat-append [] ys = refl
concat-append (x ∷ xs) ys = ap (λ l. x ++ l) (concat-append xs ys) ∙ sym (append_assoc x (concat xs) (concat ys))

-- one piece more
pub concat_push : (xs : List (List ℕ)) (y : List ℕ) → concat (xs ++ y ∷ []) ≡ concat xs ++ y
concat_push xs y = concat-append xs (y ∷ []) ∙ ap (λ l. concat xs ++ l) (append-nil y)

-- the same, where the list was given more room before
pub concat_pushed : (old mid new : List (List ℕ)) (y : List ℕ) → mid ≡ old → new ≡ mid ++ y ∷ [] → concat new ≡ concat old ++ y
concat_pushed old mid new y same grown = ap concat grown ∙ (concat_push mid y ∙ ap (λ l. concat l ++ y) same)
