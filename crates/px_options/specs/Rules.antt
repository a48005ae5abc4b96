-- Options that are lists of rules, each rule one text.
use Rattle.std.specs.Prelude.{◌+◌, ℕ, List, [], ◌∷◌, Option, Some, None, Result, Ok, Err}
use Rattle.px_rule.specs.declared.cause.RuleCause.{RuleCause}
use Rattle.toml.specs.Data.{Data, Items, no_items, item, as_array, as_str}
use Rattle.px_options.specs.Keys.{name_of}
use Rattle.px_options.specs.Values.{wrong}
use Rattle.px_options.specs.declared.error.OptionsError.{OptionsError}
use Rattle.px_options.specs.declared.error.OptionsError.TheVariants as error
use Rattle.px_options.specs.declared.key.Key.{Key}

-- one text in front of others, where all are texts
abbrev pub with_text : Option (List ℕ) → Option (List (List ℕ)) → Option (List (List ℕ))
with_text (Some text) (Some texts) = Some (text ∷ texts)
with_text _ _ = None

-- the texts of a list, where all its items are texts
abbrev pub texts_in : Items → Option (List (List ℕ))
texts_in no_items = Some []
texts_in (item d items) = with_text (as_str d) (texts_in items)

abbrev pub texts_of : Option Items → Option (List (List ℕ))
texts_of None = None
texts_of (Some items) = texts_in items

-- one rule in front of others
abbrev pub with_rule : {R : Type 0} → R → Result (List R) OptionsError → Result (List R) OptionsError
with_rule rule (Ok rules) = Ok (rule ∷ rules)
with_rule rule (Err e) = Err e

-- the rule of a text at this index in front of the others, or why it is none
abbrev pub rule_and : {R : Type 0} → Key → ℕ → List ℕ → Result R RuleCause → Result (List R) OptionsError → Result (List R) OptionsError
rule_and key index text (Ok rule) others = with_rule rule others
rule_and key index text (Err cause) others = Err (error.BadRule (name_of key) index text cause)

-- the rules of these texts, the first of which stands at this index; or the first text that is no rule, where it stands, and why
abbrev pub rules_from : {R : Type 0} → Key → (List ℕ → Result R RuleCause) → ℕ → List (List ℕ) → Result (List R) OptionsError
rules_from key read index [] = Ok []
rules_from key read index (text ∷ texts) = rule_and key index text (read text) (rules_from key read (index + 1) texts)

abbrev pub rules_of : {R : Type 0} → Key → (List ℕ → Result R RuleCause) → Option (List (List ℕ)) → Result (List R) OptionsError
rules_of key read None = wrong key
rules_of key read (Some texts) = rules_from key read 0 texts

-- a list of texts, each of which is a rule
abbrev pub rules : {R : Type 0} → (List ℕ → Result R RuleCause) → Key → Data → Result (List R) OptionsError
rules read key d = rules_of key read (texts_of (as_array d))
