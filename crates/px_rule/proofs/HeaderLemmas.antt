-- Header rules, one by one.
use Rattle.std.proofs.Common.{◌≡◌, ℕ, Bool, true, false, not, ◌==◌, ◌||◌, if◌then◌else◌, List, [], ◌∷◌, ◌++◌, length, map, filter, Option, Some, None, option_map, refl, sym, ap, ◌∙◌}
use Rattle.std.proofs.lemmas.List.{map-append}
use Rattle.std.proofs.lemmas.List.Elements.{filter-append}
use Rattle.std.proofs.lemmas.List.Folds.{list_any-append}
use Rattle.std.proofs.Math.Bool.{or-false}
use Rattle.std.specs.List.{list_any}
use Rattle.px_message.specs.Fields.{is_named, without}
use Rattle.px_message.specs.declared.flow.Flow.{Flow}
use Rattle.px_message.specs.declared.response.Response.{Response}
use Rattle.px_rule.specs.Header.{fields_in, holding, put, response_with, spared, with_fields}
use Rattle.px_rule.specs.Rule.{Rule, applies}

abbrev Fields : Type 0
Fields = List (List ℕ × List ℕ)

-- a field that none of the rules names, and the one behind them does not name either
split : {A : Type 0} (x y : Bool) (a : A) (xs ys : List A) (p : A → Bool) → p a ≡ not y → filter p xs ≡ ys →
    filter p (if not x then a ∷ xs else xs) ≡ (if not (x || y) then a ∷ ys else ys)
split true y a xs ys p is_a rest = rest
split false true a xs ys p is_a rest = rw is_a rest
split false false a xs ys p is_a rest = rw is_a (ap (λ zs. a ∷ zs) rest)

-- one rule more
pub spared_more : (rules : List Rule) (rule : Rule) (fields : Fields) →
    spared (rules ++ rule ∷ []) fields ≡ without rule.subject (spared rules fields)
spared_more rules rule [] = refl
spared_more rules rule (field ∷ fields) =
    let named : (list_any (λ (r : Rule). is_named r.subject field) (rules ++ rule ∷ []))
    ≡ (list_any (λ (r : Rule). is_named r.subject field) rules || is_named rule.subject field) =
    list_any-append (λ (r : Rule). is_named r.subject field) rules (rule ∷ []) ∙ ap (λ b. list_any (λ (r : Rule). is_named r.subject field) rules || b) (or-false (is_named rule.subject field)) in
    ap (λ b. if not b then field ∷ spared (rules ++ rule ∷ []) fields else spared (rules ++ rule ∷ []) fields) named
    ∙ sym (split (list_any (λ (r : Rule). is_named r.subject field) rules) (is_named rule.subject field) field (spared rules fields)
    (spared (rules ++ rule ∷ []) fields) (λ f. not (is_named rule.subject f)) refl (sym (spared_more rules rule fields)))

pub spared_none : (fields : Fields) → spared [] fields ≡ fields
spared_none [] = refl
spared_none (field ∷ fields) = ap (λ fs. field ∷ fs) (spared_none fields)

pub put_more : (rules more : List Rule) → put (rules ++ more) ≡ put rules ++ put more
put_more rules more =
    ap (map (λ (rule : Rule). (rule.subject, rule.replacement))) (filter-append (λ (rule : Rule). not (length rule.replacement == 0)) rules more)
    ∙ map-append (λ (rule : Rule). (rule.subject, rule.replacement)) (filter (λ (rule : Rule). not (length rule.replacement == 0)) rules)
    (filter (λ (rule : Rule). not (length rule.replacement == 0)) more)

pub holding_more : (flow : Flow) (rules more : List Rule) → holding flow (rules ++ more) ≡ holding flow rules ++ holding flow more
holding_more flow rules more = filter-append (λ (rule : Rule). applies rule.filter flow) rules more

-- a change of the fields by their value
pub with_value : (response : Bool) (change : Fields → Fields) (flow : Flow) (fields : Fields) → fields_in response flow ≡ Some fields →
    with_fields response (λ _. change fields) flow ≡ with_fields response change flow
with_value true change flow fields found = ap (λ r. record flow { response = r }) (by_value flow.response found)
  where
    by_value : (response : Option Response) → option_map (λ (r : Response). r.fields) response ≡ Some fields →
        option_map (response_with (λ _. change fields)) response ≡ option_map (response_with change) response
    by_value None e = absurd cc
    by_value (Some r) e = let same : r.fields ≡ fields = cc in ap (λ f. Some (record r { fields = change f })) (sym same)
with_value false change flow fields found =
    let same : flow.request.fields ≡ fields = cc in
    ap (λ f. record flow { request = record flow.request { fields = change f } }) (sym same)

pub with_none : (response : Bool) (change : Fields → Fields) (flow : Flow) → fields_in response flow ≡ None → with_fields response change flow ≡ flow
with_none true change flow found = ap (λ r. record flow { response = r }) (by_none flow.response found)
  where
    by_none : (response : Option Response) → option_map (λ (r : Response). r.fields) response ≡ None → option_map (response_with change) response ≡ response
    by_none None e = refl
    by_none (Some r) e = absurd cc
with_none false change flow found = absurd cc
