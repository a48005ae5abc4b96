-- How a refusal names what it refuses.
use Rattle.std.specs.Prelude.{◌≡◌, ◌++◌, ◌∷◌, [], ℕ, List, slice_get, Some}
use Rattle.px_rule.specs.declared.cause.RuleCause.{RuleCause}
use Rattle.toml.specs.Data.{Data, as_str}
use Rattle.px_options.specs.Keys.{name_of}
use Rattle.px_options.specs.declared.error.OptionsError.{OptionsError}
use Rattle.px_options.specs.declared.error.OptionsError.TheVariants as error
use Rattle.px_options.specs.declared.key.Key.{Key}

-- the text at that index is no rule, for that cause
abbrev pub IsBadRule : Key → List (List ℕ) → ℕ → RuleCause → OptionsError → Type 0
IsBadRule key texts index cause e =
    (text : List ℕ) × (slice_get texts index ≡ Some text) × (e ≡ error.BadRule (name_of key) index text cause)

-- the value is one text more
abbrev pub IsTextMore : Data → List (List ℕ) → List (List ℕ) → Type 0
IsTextMore d before after = (text : List ℕ) × (as_str d ≡ Some text) × (after ≡ before ++ text ∷ [])
