-- One parameter more.
use Rattle.std.proofs.Common.{◌≡◌, ◌∙◌, ℕ, not, List, [], ◌∷◌, ◌++◌, map, sym, ap, append_assoc}
use Rattle.std.proofs.lemmas.List.Elements.{filter-append}
use Rattle.px_replay.specs.Key.{counted, decoded_pair, is_listed}

abbrev Pairs : Type 0
Pairs = List (List ℕ × List ℕ)

pub counted_more : (ignored : List (List ℕ)) (done : Pairs) (pair : List ℕ × List ℕ) (rest : Pairs) →
    (done ++ counted ignored (decoded_pair pair ∷ [])) ++ counted ignored (map decoded_pair rest)
    ≡ done ++ counted ignored (map decoded_pair (pair ∷ rest))
counted_more ignored done pair rest =
    append_assoc done (counted ignored (decoded_pair pair ∷ [])) (counted ignored (map decoded_pair rest))
    ∙ ap (λ l. done ++ l)
    (sym (filter-append (λ (p : List ℕ × List ℕ). not (is_listed ignored p.0)) (decoded_pair pair ∷ []) (map decoded_pair rest)))
