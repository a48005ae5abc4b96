-- The laws of rules.
use Rattle.std.proofs.Common.{◌≡◌, ℕ, zero, suc, ◌+◌, ◌<◌, Bool, true, false, not, ◌==◌, ◌&&◌, if◌then◌else◌, List, [], ◌∷◌, ◌++◌, length, map, filter, take, drop, Option, None, Some, option_map, Result, Ok, Err, refl, sym, ap, ap₂, ◌∙◌, arith}
use Rattle.std.proofs.lemmas.Bool.{eqb-true, or_parts}
use Rattle.std.proofs.lemmas.List.{append-nil, map-append}
use Rattle.std.proofs.lemmas.List.Elements.{All-append, All-cons, All-filter, All-head, All-nil, All-tail, filter-append}
use Rattle.std.proofs.lemmas.Slice.Eq.{bytes_eq-Decides}
use Rattle.std.specs.List.{AllPass, after_first, before_first, list_any, position_or_len}
use Rattle.std.specs.Prelude.{bytes_eq}
use Rattle.httparse.specs.Grammar.{is_token}
use Rattle.px_text.specs.Ascii.{lowercase}
use Rattle.px_message.specs.Fields.{is_named, is_same_name, values_of}
use Rattle.px_message.specs.Valid.{is_field}
use Rattle.px_message.specs.Value.{is_value}
use Rattle.px_message.specs.declared.flow.Flow.{Flow}
use Rattle.px_message.specs.declared.response.Response.{Response}
use Rattle.px_rule.specs.Body.{body_rules, body_step}
use Rattle.px_rule.specs.Header.{changed, header_rules, holding, put, response_with, spared, with_fields}
use Rattle.px_rule.specs.Laws.{HoldNowhere, has_name, joined, puts_field}
use Rattle.px_rule.specs.Rule.{Rule, applies, as_header, header_rule, rule_of}
use Rattle.px_rule.specs.Spec.{split_up_to}
use Rattle.px_rule.specs.declared.cause.RuleCause.{RuleCause}
use Rattle.px_rule.specs.declared.cause.RuleCause.TheVariants as causes
use Rattle.px_rule.specs.declared.content.Content.{Content}
use Rattle.px_rule.proofs.HeaderLemmas.{spared_none}
use Rattle.px_rule.proofs.SpecLemmas.{some_part}

abbrev Fields : Type 0
Fields = List (List ℕ × List ℕ)

-- ---- parts

abbrev is : ℕ → ℕ → Bool
is separator c = c == separator

joined_more : (separator : ℕ) (part : List ℕ) (parts : List (List ℕ)) → 0 < length parts →
    joined separator (part ∷ parts) ≡ part ++ separator ∷ joined separator parts
joined_more separator part [] some = absurd (omega (arith, some))
joined_more separator part (next ∷ parts) some = refl

around : (separator : ℕ) (text : List ℕ) → list_any (is separator) text ≡ true →
    before_first (is separator) text ++ separator ∷ after_first (is separator) text ≡ text
around separator [] there = absurd cc
around separator (c ∷ text) there = by_test (is separator c) refl (around separator text)
  where
    by_test : (b : Bool) → is separator c ≡ b →
        (list_any (is separator) text ≡ true → before_first (is separator) text ++ separator ∷ after_first (is separator) text ≡ text) → before_first (is separator) (c ∷ text) ++ separator ∷ after_first (is separator) (c ∷ text) ≡ c ∷ text
    by_test true here rest =
        let first : position_or_len (is separator) (c ∷ text) ≡ 0 = rw here in
        ap₂ ◌++◌ (ap (λ n. take n (c ∷ text)) first) (ap₂ ◌∷◌ (sym (eqb-true c separator here)) (ap (λ n. drop (n + 1) (c ∷ text)) first))
    by_test false other rest =
        let later : position_or_len (is separator) (c ∷ text) ≡ suc (position_or_len (is separator) text) = rw other (omega arith) in
        let behind : position_or_len (is separator) (c ∷ text) + 1 ≡ suc (position_or_len (is separator) text + 1) = omega (arith, later) in
        let within : list_any (is separator) text ≡ true = rw other at there in
        ap₂ ◌++◌ (ap (λ n. take n (c ∷ text)) later) (ap (λ n. separator ∷ drop n (c ∷ text)) behind)
        ∙ ap (λ t. c ∷ t) (rest within)

pub split_joined : (most separator : ℕ) (text : List ℕ) → joined separator (split_up_to most separator text) ≡ text
split_joined zero separator text = refl
split_joined (suc most) separator text =
    by_test (list_any (is separator) text) refl (split_joined most separator (after_first (is separator) text))
  where
    by_test : (b : Bool) → list_any (is separator) text ≡ b →
        joined separator (split_up_to most separator (after_first (is separator) text)) ≡ after_first (is separator) text →
        joined separator (if b then before_first (is separator) text ∷ split_up_to most separator (after_first (is separator) text) else text ∷ []) ≡ text
    by_test false none rest = refl
    by_test true there rest =
        joined_more separator (before_first (is separator) text) (split_up_to most separator (after_first (is separator) text)) (some_part most separator (after_first (is separator) text))
        ∙ ap (λ t. before_first (is separator) text ++ separator ∷ t) rest
        ∙ around separator text there

-- ---- rules that hold nowhere

not_true : (b : Bool) → not b ≡ true → b ≡ false
not_true true h = absurd cc
not_true false h = refl

first_holds_not : (rule : Rule) (rules : List Rule) (flow : Flow) → HoldNowhere (rule ∷ rules) flow → applies rule.filter flow ≡ false
first_holds_not rule rules flow none = not_true _ (All-head (λ (r : Rule). not (applies r.filter flow) ≡ true) rule rules none)

others_hold_not : (rule : Rule) (rules : List Rule) (flow : Flow) → HoldNowhere (rule ∷ rules) flow → HoldNowhere rules flow
others_hold_not rule rules flow none = All-tail (λ (r : Rule). not (applies r.filter flow) ≡ true) rule rules none

none_held : (rules : List Rule) (flow : Flow) → HoldNowhere rules flow → holding flow rules ≡ []
none_held [] flow none = refl
none_held (rule ∷ rules) flow none = rw (first_holds_not rule rules flow none) (none_held rules flow (others_hold_not rule rules flow none))

unchanged : (fields : Fields) → changed [] fields ≡ fields
unchanged fields = append-nil (spared [] fields) ∙ spared_none fields

same_flow : (response : Bool) (flow : Flow) → with_fields response (changed []) flow ≡ flow
same_flow true flow = ap (λ r. record flow { response = r }) (same flow.response)
  where
    same : (response : Option Response) → option_map (response_with (changed [])) response ≡ response
    same None = refl
    same (Some r) = ap (λ f. Some (record r { fields = f })) (unchanged r.fields)
same_flow false flow = ap (λ f. record flow { request = record flow.request { fields = f } }) (unchanged flow.request.fields)

pub headers_hold_nowhere : (response : Bool) (rules : List Rule) (flow : Flow) → HoldNowhere rules flow → header_rules response rules flow ≡ flow
headers_hold_nowhere response rules flow none = ap (λ held. with_fields response (changed held) flow) (none_held rules flow none) ∙ same_flow response flow

pub bodies_hold_nowhere : (content : Content) (rules : List Rule) (flow : Flow) → HoldNowhere rules flow → body_rules content rules flow ≡ flow
bodies_hold_nowhere content [] flow none = refl
bodies_hold_nowhere content (rule ∷ rules) flow none =
    let still : body_step content rule flow ≡ flow = rw (first_holds_not rule rules flow none) in
    ap (body_rules content rules) still ∙ bodies_hold_nowhere content rules flow (others_hold_not rule rules flow none)

pub bodies_go_on : (content : Content) (first others : List Rule) (flow : Flow) →
    body_rules content (first ++ others) flow ≡ body_rules content others (body_rules content first flow)
bodies_go_on content [] others flow = refl
bodies_go_on content (rule ∷ first) others flow = bodies_go_on content first others (body_step content rule flow)

-- ---- names and values

judged : (r : Result Rule RuleCause) (rule : Rule) → as_header r ≡ Ok rule → puts_field rule ≡ true
judged (Err cause) rule e = absurd cc
judged (Ok given) rule e = by_tests (is_token given.subject) (is_value given.replacement) refl refl e
  where
    by_tests : (t v : Bool) → is_token given.subject ≡ t → is_value given.replacement ≡ v →
        (if t then (if v then Ok given else Err causes.Value) else Err causes.Name) ≡ Ok rule → puts_field rule ≡ true
    by_tests true true is_t is_v same =
        let given_is : given ≡ rule = cc in ap puts_field (sym given_is) ∙ ap₂ ◌&&◌ is_t is_v
    by_tests true false is_t is_v same = absurd cc
    by_tests false v is_t is_v same = absurd cc

pub header_puts_field : (text : List ℕ) (rule : Rule) → header_rule text ≡ Ok rule → puts_field rule ≡ true
header_puts_field text rule e = judged (rule_of text) rule e

abbrev field_of : Rule → List ℕ × List ℕ
field_of rule = (rule.subject, rule.replacement)

valid_put : (rules : List Rule) → AllPass puts_field rules → AllPass is_field (map field_of rules)
valid_put [] valid = All-nil (λ f. is_field f ≡ true)
valid_put (rule ∷ rules) valid =
    All-cons (λ f. is_field f ≡ true) (field_of rule) (map field_of rules) (All-head (λ r. puts_field r ≡ true) rule rules valid)
    (valid_put rules (All-tail (λ r. puts_field r ≡ true) rule rules valid))

pub changed_valid : (rules : List Rule) (fields : Fields) → AllPass puts_field rules → AllPass is_field fields → AllPass is_field (changed rules fields)
changed_valid rules fields valid are =
    All-append (λ f. is_field f ≡ true) (spared rules fields) (put rules)
    (All-filter (λ field. not (list_any (λ (r : Rule). is_named r.subject field) rules)) (λ f. is_field f ≡ true) fields are)
    (valid_put (filter (λ (r : Rule). not (length r.replacement == 0)) rules)
    (All-filter (λ (r : Rule). not (length r.replacement == 0)) (λ r. puts_field r ≡ true) rules valid))

-- ---- what stands under a name

values_append : (name : List ℕ) (xs ys : Fields) → values_of name (xs ++ ys) ≡ values_of name xs ++ values_of name ys
values_append name xs ys = ap (map (λ f. f.1)) (filter-append (is_named name) xs ys) ∙ map-append (λ f. f.1) (filter (is_named name) xs) (filter (is_named name) ys)

-- a field of the name is named by a rule exactly where a rule has the name
named_alike : (name : List ℕ) (rules : List Rule) (field : List ℕ × List ℕ) → is_named name field ≡ true →
    list_any (λ (r : Rule). is_named r.subject field) rules ≡ has_name name rules
named_alike name rules field at =
    let same : lowercase field.0 ≡ lowercase name = (bytes_eq-Decides (lowercase field.0) (lowercase name)).0 at in
    ap (λ t. list_any (λ (r : Rule). bytes_eq t (lowercase r.subject)) rules) same

-- of the elements that pass p, q passes all or none
module _ {X : Type 0} (p q : X → Bool) where
  all_gone : ((x : X) → p x ≡ true → q x ≡ true) → (xs : List X) → filter p (filter (λ x. not (q x)) xs) ≡ []
  all_gone covers [] = refl
  all_gone covers (x ∷ xs) = by_tests (p x) (q x) refl refl (all_gone covers xs)
    where
      by_tests : (b c : Bool) → p x ≡ b → q x ≡ c → filter p (filter (λ x. not (q x)) xs) ≡ [] →
          filter p (if not c then x ∷ filter (λ x. not (q x)) xs else filter (λ x. not (q x)) xs) ≡ []
      by_tests b true at gone rest = rest
      by_tests false false at kept rest = rw at rest
      by_tests true false at kept rest = absurd (let yes : q x ≡ true = covers x at in cc (yes, kept))

  all_kept : ((x : X) → p x ≡ true → q x ≡ false) → (xs : List X) → filter p (filter (λ x. not (q x)) xs) ≡ filter p xs
  all_kept apart [] = refl
  all_kept apart (x ∷ xs) = by_tests (p x) (q x) refl refl (all_kept apart xs)
    where
      by_tests : (b c : Bool) → p x ≡ b → q x ≡ c → filter p (filter (λ x. not (q x)) xs) ≡ filter p xs →
          filter p (if not c then x ∷ filter (λ x. not (q x)) xs else filter (λ x. not (q x)) xs) ≡ (if b then x ∷ filter p xs else filter p xs)
      by_tests b false at kept rest = rw (at, rest)
      by_tests true true at gone rest = absurd (let no : q x ≡ false = apart x at in cc (no, gone))
      by_tests false true at gone rest = rest

pub ruled : (name : List ℕ) (rules : List Rule) (fields : Fields) → has_name name rules ≡ true → values_of name (changed rules fields) ≡ values_of name (put rules)
ruled name rules fields has =
    values_append name (spared rules fields) (put rules)
    ∙ ap (λ fs. map (λ f. f.1) fs ++ values_of name (put rules))
    (all_gone (is_named name) (λ field. list_any (λ (r : Rule). is_named r.subject field) rules) (λ field at. named_alike name rules field at ∙ has) fields)

turned : (a b : List ℕ) → is_same_name a b ≡ false → is_same_name b a ≡ false
turned a b other = by_test (is_same_name b a) refl
  where
    by_test : (t : Bool) → is_same_name b a ≡ t → t ≡ false
    by_test false h = refl
    by_test true h =
        let same : lowercase b ≡ lowercase a = (bytes_eq-Decides (lowercase b) (lowercase a)).0 h in
        let yes : is_same_name a b ≡ true = (bytes_eq-Decides (lowercase a) (lowercase b)).1 (sym same) in
        cc (other, yes)

none_put : (name : List ℕ) (rules : List Rule) → has_name name rules ≡ false → values_of name (put rules) ≡ []
none_put name [] lacks = refl
none_put name (rule ∷ rules) lacks = by_test (not (length rule.replacement == 0)) (none_put name rules parts.1)
  where
    parts : (is_same_name name rule.subject ≡ false) × (has_name name rules ≡ false)
    parts = or_parts (is_same_name name rule.subject) (has_name name rules) lacks

    by_test : (b : Bool) → values_of name (put rules) ≡ [] →
        values_of name (map field_of (if b then rule ∷ filter (λ (r : Rule). not (length r.replacement == 0)) rules else filter (λ (r : Rule). not (length r.replacement == 0)) rules)) ≡ []
    by_test false rest = rest
    by_test true rest = rw (turned name rule.subject parts.0) rest

pub unruled : (name : List ℕ) (rules : List Rule) (fields : Fields) → has_name name rules ≡ false → values_of name (changed rules fields) ≡ values_of name fields
unruled name rules fields lacks =
    values_append name (spared rules fields) (put rules)
    ∙ ap₂ ◌++◌
    (ap (map (λ f. f.1)) (all_kept (is_named name) (λ field. list_any (λ (r : Rule). is_named r.subject field) rules) (λ field at. named_alike name rules field at ∙ lacks) fields))
    (none_put name rules lacks)
    ∙ append-nil (values_of name fields)
