-- Whether two keys are equal, part by part. A law says that this decides their equality.
use Rattle.std.specs.Prelude.{ℕ, Bool, ◌&&◌, List, nat_eq}
use Rattle.std.specs.Cmp.Lexicographic.{pointwise}
use Rattle.std.specs.Option.{option_eq}
use Rattle.std.specs.Ordering.{eq_of_both, on}
use Rattle.px_replay.specs.declared.key.MatchKey.{MatchKey}

abbrev pub is_same_text : List ℕ → List ℕ → Bool
is_same_text = pointwise nat_eq

abbrev pub are_same_parameters : List (List ℕ × List ℕ) → List (List ℕ × List ℕ) → Bool
are_same_parameters = pointwise (eq_of_both (on (λ p. p.0) is_same_text) (on (λ p. p.1) is_same_text))

abbrev pub are_same_values : List (List (List ℕ)) → List (List (List ℕ)) → Bool
are_same_values = pointwise (pointwise is_same_text)

abbrev pub is_same_key : MatchKey → MatchKey → Bool
is_same_key a b =
    is_same_text a.method b.method && (is_same_text a.path b.path && (are_same_parameters a.parameters b.parameters
    && (option_eq is_same_text a.content b.content && (option_eq is_same_text a.host b.host
    && (option_eq nat_eq a.port b.port && are_same_values a.values b.values)))))
