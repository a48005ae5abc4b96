-- Words of the laws.
use Rattle.std.specs.Prelude.{ℕ, Bool, not, ◌&&◌, List, [], ◌∷◌, ◌++◌}
use Rattle.std.specs.List.{AllPass, list_any}
use Rattle.httparse.specs.Grammar.{is_token}
use Rattle.px_message.specs.Fields.{is_same_name}
use Rattle.px_message.specs.Value.{is_value}
use Rattle.px_message.specs.declared.flow.Flow.{Flow}
use Rattle.px_rule.specs.Rule.{Rule, applies}

-- no rule's filter holds on the flow
abbrev pub HoldNowhere : List Rule → Flow → Type 0
HoldNowhere rules flow = AllPass (λ (rule : Rule). not (applies rule.filter flow)) rules

-- a rule has the name, in any case
abbrev pub has_name : List ℕ → List Rule → Bool
has_name name rules = list_any (λ (rule : Rule). is_same_name name rule.subject) rules

-- what the rule puts is a field's name and a field's value
abbrev pub puts_field : Rule → Bool
puts_field rule = is_token rule.subject && is_value rule.replacement

-- the parts with the separator between each two
abbrev pub joined : ℕ → List (List ℕ) → List ℕ
joined separator [] = []
joined separator (part ∷ []) = part
joined separator (part ∷ next ∷ parts) = part ++ separator ∷ joined separator (next ∷ parts)
