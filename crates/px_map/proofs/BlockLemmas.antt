-- Block rules.
use Rattle.std.proofs.Common.{◌≡◌, ℕ, suc, ◌<◌, ◌≤◌, nat_le, Bool, true, false, not, ◌==◌, ◌&&◌, if◌then◌else◌, List, [], ◌∷◌, ◌++◌, length, map, take, get_or, Option, None, Some, option_map, Result, Ok, Err, String, Global, string_bytes, slice_get, refl, sym, ap, ap₂, ◌∙◌, subst, arith, ne_eqb}
use Rattle.std.proofs.lemmas.Bool.{le-ltb, leb-true}
use Rattle.std.proofs.lemmas.List.{map-append}
use Rattle.std.proofs.lemmas.List.Elements.{All-head, All-tail}
use Rattle.std.proofs.lemmas.Option.{none-some, slice_get-get_or, slice_get-map}
use Rattle.std.specs.List.{take-map}
use Rattle.px_message.specs.declared.flow.Flow.{Flow}
use Rattle.px_filter.specs.Expression.{Expression}
use Rattle.px_filter.specs.Parsing.{parse}
use Rattle.px_filter.specs.declared.filter.FilterError.{FilterError}
use Rattle.px_rule.specs.Rule.{applies}
use Rattle.px_rule.specs.Spec.{refused_count, spec_parts, spec_refusal}
use Rattle.px_rule.specs.declared.cause.RuleCause.{RuleCause}
use Rattle.px_rule.specs.declared.cause.RuleCause.TheVariants as causes
use Rattle.px_rule.specs.declared.spec.SpecError.{SpecError}
use Rattle.px_rule.specs.declared.spec.SpecError.TheVariants.{Empty}
use Rattle.px_map.specs.Block.{AreBlockRules, BlockRule, IsFirstBadBlock, IsNextBlock, block_of_parts, block_rule, block_status, blocking_status, in_range, with_filter, with_status}
use Rattle.px_map.specs.Laws.{BlockNowhere}
use Rattle.px_text.specs.Number.{decimal_value}

-- ---- texts

pub one_more : (texts : List (List ℕ)) (text : List ℕ) (before after : List BlockRule) →
    AreBlockRules texts before → IsNextBlock text before after → AreBlockRules (texts ++ text ∷ []) after
one_more texts text before after are (rule, is_rule, is_after) =
    map-append block_rule texts (text ∷ []) ∙ ap₂ ◌++◌ are (ap (λ r. r ∷ []) is_rule) ∙ sym (map-append Ok before (rule ∷ [])) ∙ ap (map Ok) (sym is_after)

pub first_bad : (texts : List (String Global)) (index : ℕ) (text : String Global) (cause : RuleCause) (rules : List BlockRule) →
    index < length texts → text ≡ get_or texts index text → AreBlockRules (map string_bytes (take index texts)) rules →
    block_rule (string_bytes text) ≡ Err cause → IsFirstBadBlock (map string_bytes texts) index cause
first_bad texts index text cause rules within is are bad = (
  (rules, ap (map block_rule) (take-map string_bytes index texts) ∙ are),
  slice_get-map block_rule (map string_bytes texts) index ∙ ap (option_map block_rule) (slice_get-map string_bytes texts index ∙ ap (option_map string_bytes) (slice_get-get_or texts index text within ∙ ap Some (sym is)))
      ∙ ap Some bad,
)

refused_parts : (parts : List (List ℕ)) (error : SpecError) → refused_count 1 (length parts) ≡ Some error → block_of_parts parts ≡ Err (causes.Spec error)
refused_parts [] error e = let same : Empty ≡ error = cc in ap (λ x. Err (causes.Spec x)) same
refused_parts (part ∷ parts) error e =
    let count : ℕ = suc (length parts) in
    let some : refused_count 1 count ≡ None = rw (ne_eqb count 0 (omega arith), le-ltb count 1 (omega arith)) in
    absurd (none-some error (sym some ∙ e))

pub refused : (text : List ℕ) (error : SpecError) → spec_refusal 1 text ≡ Some error → block_rule text ≡ Err (causes.Spec error)
refused text error e = refused_parts (spec_parts 1 text) error e

pub no_part : (parts : List (List ℕ)) → length parts ≡ 0 → block_of_parts parts ≡ block_of_parts []
no_part [] e = refl
no_part (part ∷ parts) e = absurd (omega (arith, e))

pub one_part : (parts : List (List ℕ)) (status : List ℕ) → length parts ≡ 1 → slice_get parts 0 ≡ Some status →
    block_of_parts parts ≡ with_status None (blocking_status status)
one_part [] status e is = absurd (omega (arith, e))
one_part (part ∷ []) status e is = let same : part ≡ status = cc in ap (λ s. with_status None (blocking_status s)) same
one_part (part ∷ next ∷ parts) status e is = absurd (omega (arith, e))

pub two_parts : (parts : List (List ℕ)) (filter status : List ℕ) → 2 ≤ length parts → slice_get parts 0 ≡ Some filter → slice_get parts 1 ≡ Some status →
    block_of_parts parts ≡ with_filter (parse filter) (blocking_status status)
two_parts [] filter status e is_filter is_status = absurd (omega (arith, e))
two_parts (part ∷ []) filter status e is_filter is_status = absurd (omega (arith, e))
two_parts (part ∷ next ∷ parts) filter status e is_filter is_status =
    let same_filter : part ≡ filter = cc in
    let same_status : next ≡ status = cc in
    ap₂ (λ f s. with_filter (parse f) (blocking_status s)) same_filter same_status

-- ---- laws

not_true : (b : Bool) → not b ≡ true → b ≡ false
not_true true h = absurd cc
not_true false h = refl

first_holds_not : (rule : BlockRule) (rules : List BlockRule) (flow : Flow) → BlockNowhere (rule ∷ rules) flow → applies rule.filter flow ≡ false
first_holds_not rule rules flow none = not_true _ (All-head (λ (r : BlockRule). not (applies r.filter flow) ≡ true) rule rules none)

others_hold_not : (rule : BlockRule) (rules : List BlockRule) (flow : Flow) → BlockNowhere (rule ∷ rules) flow → BlockNowhere rules flow
others_hold_not rule rules flow none = All-tail (λ (r : BlockRule). not (applies r.filter flow) ≡ true) rule rules none

pub first_decides : (before after : List BlockRule) (rule : BlockRule) (flow : Flow) → BlockNowhere before flow → applies rule.filter flow ≡ true →
    block_status (before ++ rule ∷ after) flow ≡ Some rule.status
first_decides [] after rule flow none holds = rw holds
first_decides (other ∷ before) after rule flow none holds =
    rw (first_holds_not other before flow none) (first_decides before after rule flow (others_hold_not other before flow none) holds)

pub none_decides : (rules : List BlockRule) (flow : Flow) → BlockNowhere rules flow → block_status rules flow ≡ None
none_decides [] flow none = refl
none_decides (rule ∷ rules) flow none = rw (first_holds_not rule rules flow none) (none_decides rules flow (others_hold_not rule rules flow none))

-- the rules so far hold nowhere, so that the others decide
pub passed : (first rest : List BlockRule) (flow : Flow) → BlockNowhere first flow → block_status (first ++ rest) flow ≡ block_status rest flow
passed [] rest flow none = refl
passed (rule ∷ first) rest flow none = rw (first_holds_not rule first flow none) (passed first rest flow (others_hold_not rule first flow none))

within : (o : Option ℕ) (n : ℕ) → in_range o ≡ Some n → (200 ≤ n) × (n ≤ 999)
within None n e = absurd cc
within (Some m) n e = by_tests (nat_le 200 m) (nat_le m 999) refl refl e
  where
    by_tests : (a b : Bool) → nat_le 200 m ≡ a → nat_le m 999 ≡ b → (if a && b then Some m else None) ≡ Some n → (200 ≤ n) × (n ≤ 999)
    by_tests true true low high same =
        let is : m ≡ n = cc in
        let at_least = leb-true 200 m low in
        let at_most = leb-true m 999 high in
        (omega (arith, is, at_least), omega (arith, is, at_most))
    by_tests true false low high same = absurd cc
    by_tests false b low high same = absurd cc

status_within : (filter : Option Expression) (o : Option ℕ) (rule : BlockRule) → with_status filter (in_range o) ≡ Ok rule → (200 ≤ rule.status) × (rule.status ≤ 999)
status_within filter o rule e = by_status (in_range o) refl e
  where
    by_status : (s : Option ℕ) → in_range o ≡ s → with_status filter s ≡ Ok rule → (200 ≤ rule.status) × (rule.status ≤ 999)
    by_status None is same = absurd cc
    by_status (Some n) is same =
        let status : n ≡ rule.status = cc in
        subst (λ k. (200 ≤ k) × (k ≤ 999)) status (within o n is)

told_within : (filter : Option Expression) (text : List ℕ) (rule : BlockRule) → with_status filter (blocking_status text) ≡ Ok rule → (200 ≤ rule.status) × (rule.status ≤ 999)
told_within filter text rule e = by_length (length text == 3) e
  where
    by_length : (b : Bool) → with_status filter (if b then in_range (decimal_value text) else None) ≡ Ok rule → (200 ≤ rule.status) × (rule.status ≤ 999)
    by_length true same = status_within filter (decimal_value text) rule same
    by_length false same = absurd cc

filtered_within : (filter : Result Expression FilterError) (text : List ℕ) (rule : BlockRule) → with_filter filter (blocking_status text) ≡ Ok rule → (200 ≤ rule.status) × (rule.status ≤ 999)
filtered_within (Err e) text rule same = absurd cc
filtered_within (Ok filter) text rule same = told_within (Some filter) text rule same

parts_within : (parts : List (List ℕ)) (rule : BlockRule) → block_of_parts parts ≡ Ok rule → (200 ≤ rule.status) × (rule.status ≤ 999)
parts_within [] rule e = absurd cc
parts_within (status ∷ []) rule e = told_within None status rule e
parts_within (filter ∷ status ∷ more) rule e = filtered_within (parse filter) status rule e

pub has_status : (text : List ℕ) (rule : BlockRule) → block_rule text ≡ Ok rule → (200 ≤ rule.status) × (rule.status ≤ 999)
has_status text rule e = parts_within (spec_parts 1 text) rule e
