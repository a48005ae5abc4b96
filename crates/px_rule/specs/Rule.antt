-- Rules, and the texts that they are written as.
use Rattle.std.specs.Prelude.{◌≡◌, ℕ, Bool, true, List, [], ◌∷◌, ◌++◌, map, take, slice_get, Option, Some, None, Result, Ok, Err, if◌then◌else◌}
use Rattle.httparse.specs.Grammar.{is_token}
use Rattle.px_message.specs.Value.{is_value}
use Rattle.px_message.specs.declared.flow.Flow.{Flow}
use Rattle.px_filter.specs.Expression.{Expression}
use Rattle.px_filter.specs.Holds.{holds}
use Rattle.px_filter.specs.Parsing.{parse}
use Rattle.px_filter.specs.declared.filter.FilterError.{FilterError}
use Rattle.px_rule.specs.Pattern.{is_pattern}
use Rattle.px_rule.specs.Spec.{spec_parts}
use Rattle.px_rule.specs.declared.cause.RuleCause.{RuleCause}
use Rattle.px_rule.specs.declared.cause.RuleCause.TheVariants as causes
use Rattle.px_rule.specs.declared.spec.SpecError.TheVariants as specs

-- a rule: on which flows, what it is about, and what it puts there
pub record Rule : Type 0 where
  pub filter : Option Expression
  pub subject : List ℕ
  pub replacement : List ℕ

-- a rule without a filter holds on every flow
abbrev pub applies : Option Expression → Flow → Bool
applies None flow = true
applies (Some filter) flow = holds flow filter

-- the rule with this filter, if it is one
abbrev pub with_filter : Result Expression FilterError → List ℕ → List ℕ → Result Rule RuleCause
with_filter (Err e) subject replacement = Err (causes.Filter e)
with_filter (Ok filter) subject replacement = Ok (record { filter = Some filter; subject = subject; replacement = replacement })

-- the rule of these parts: subject and replacement, with the filter's text in front where there are three
abbrev pub rule_of_parts : List (List ℕ) → Result Rule RuleCause
rule_of_parts [] = Err (causes.Spec specs.Empty)
rule_of_parts (part ∷ []) = Err (causes.Spec (specs.WrongCount 1))
rule_of_parts (subject ∷ replacement ∷ []) = Ok (record { filter = None; subject = subject; replacement = replacement })
rule_of_parts (filter ∷ subject ∷ replacement ∷ _) = with_filter (parse filter) subject replacement

-- the rule that a text is
abbrev pub rule_of : List ℕ → Result Rule RuleCause
rule_of text = rule_of_parts (spec_parts 2 text)

-- a header rule's subject is a field's name, and its replacement a field's value
abbrev pub as_header : Result Rule RuleCause → Result Rule RuleCause
as_header (Err cause) = Err cause
as_header (Ok rule) =
    if is_token rule.subject then (if is_value rule.replacement then Ok rule else Err causes.Value) else Err causes.Name

abbrev pub header_rule : List ℕ → Result Rule RuleCause
header_rule text = as_header (rule_of text)

-- a body rule's subject is a pattern
abbrev pub as_body : Result Rule RuleCause → Result Rule RuleCause
as_body (Err cause) = Err cause
as_body (Ok rule) = if is_pattern rule.subject then Ok rule else Err causes.Pattern

abbrev pub body_rule : List ℕ → Result Rule RuleCause
body_rule text = as_body (rule_of text)

-- each text is the rule at its place
abbrev pub AreRules : (List ℕ → Result Rule RuleCause) → List (List ℕ) → List Rule → Type 0
AreRules read texts rules = map read texts ≡ map Ok rules

-- the text at the index is none, by this cause, and those before it are rules
abbrev pub IsFirstBad : (List ℕ → Result Rule RuleCause) → List (List ℕ) → ℕ → RuleCause → Type 0
IsFirstBad read texts index cause =
    ((rules : List Rule) × AreRules read (take index texts) rules) × (slice_get (map read texts) index ≡ Some (Err cause))

-- the text is one rule more
abbrev pub IsNext : (List ℕ → Result Rule RuleCause) → List ℕ → List Rule → List Rule → Type 0
IsNext read text before after = (rule : Rule) × (read text ≡ Ok rule) × (after ≡ before ++ rule ∷ [])
