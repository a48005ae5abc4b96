-- Block rules, and the texts that they are written as.
use Rattle.std.specs.Prelude.{◌≡◌, ℕ, ◌==◌, ◌&&◌, nat_le, List, [], ◌∷◌, ◌++◌, length, map, take, slice_get, Option, Some, None, Result, Ok, Err, if◌then◌else◌}
use Rattle.px_text.specs.Number.{decimal_value}
use Rattle.px_message.specs.declared.flow.Flow.{Flow}
use Rattle.px_filter.specs.Expression.{Expression}
use Rattle.px_filter.specs.Parsing.{parse}
use Rattle.px_filter.specs.declared.filter.FilterError.{FilterError}
use Rattle.px_rule.specs.Rule.{applies}
use Rattle.px_rule.specs.Spec.{spec_parts}
use Rattle.px_rule.specs.declared.cause.RuleCause.{RuleCause}
use Rattle.px_rule.specs.declared.cause.RuleCause.TheVariants as causes
use Rattle.px_rule.specs.declared.spec.SpecError.TheVariants as specs

-- a block rule: on which flows, and the status of what answers them
pub record BlockRule : Type 0 where
  pub filter : Option Expression
  pub status : ℕ

-- the number, if it is from 200 to 999
abbrev pub in_range : Option ℕ → Option ℕ
in_range None = None
in_range (Some number) = if nat_le 200 number && nat_le number 999 then Some number else None

-- the status that a text is: three decimal digits, so that none of them is a sign, whose number is from 200 to 999, so that the
-- first of them is not zero
abbrev pub blocking_status : List ℕ → Option ℕ
blocking_status text = if length text == 3 then in_range (decimal_value text) else None

-- the rule with this filter, where the status is one
abbrev pub with_status : Option Expression → Option ℕ → Result BlockRule RuleCause
with_status filter None = Err causes.Status
with_status filter (Some status) = Ok (record { filter = filter; status = status })

-- the same, where the filter is one
abbrev pub with_filter : Result Expression FilterError → Option ℕ → Result BlockRule RuleCause
with_filter (Err e) status = Err (causes.Filter e)
with_filter (Ok filter) status = with_status (Some filter) status

-- the rule of these parts: a status, with the filter's text in front where there are two
abbrev pub block_of_parts : List (List ℕ) → Result BlockRule RuleCause
block_of_parts [] = Err (causes.Spec specs.Empty)
block_of_parts (status ∷ []) = with_status None (blocking_status status)
block_of_parts (filter ∷ status ∷ _) = with_filter (parse filter) (blocking_status status)

-- the rule that a text is; it is split once at most
abbrev pub block_rule : List ℕ → Result BlockRule RuleCause
block_rule text = block_of_parts (spec_parts 1 text)

-- each text is the rule at its place
abbrev pub AreBlockRules : List (List ℕ) → List BlockRule → Type 0
AreBlockRules texts rules = map block_rule texts ≡ map Ok rules

-- the text at the index is none, by this cause, and those before it are rules
abbrev pub IsFirstBadBlock : List (List ℕ) → ℕ → RuleCause → Type 0
IsFirstBadBlock texts index cause =
    ((rules : List BlockRule) × AreBlockRules (take index texts) rules) × (slice_get (map block_rule texts) index ≡ Some (Err cause))

-- the text is one rule more
abbrev pub IsNextBlock : List ℕ → List BlockRule → List BlockRule → Type 0
IsNextBlock text before after = (rule : BlockRule) × (block_rule text ≡ Ok rule) × (after ≡ before ++ rule ∷ [])

-- the status of the first rule that holds on the flow, in their order; none where none holds
abbrev pub block_status : List BlockRule → Flow → Option ℕ
block_status [] flow = None
block_status (rule ∷ rules) flow = if applies rule.filter flow then Some rule.status else block_status rules flow
