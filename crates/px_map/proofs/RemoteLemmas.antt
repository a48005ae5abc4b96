-- Map remote rules, one by one.
use Rattle.std.proofs.Common.{◌≡◌, Bool, true, false, not, List, [], ◌∷◌, ◌++◌, Option, Some, None, Ok, Err, refl, ap, ◌∙◌}
use Rattle.px_message.specs.declared.flow.Flow.{Flow}
use Rattle.std.proofs.lemmas.List.Elements.{All-head, All-tail}
use Rattle.px_rule.specs.Laws.{HoldNowhere}
use Rattle.px_rule.specs.Rule.{Rule, applies}
use Rattle.px_map.specs.Remote.{remote_on, remote_rules, remote_step}

not_true : (b : Bool) → not b ≡ true → b ≡ false
not_true true h = absurd cc
not_true false h = refl

-- a rule more, which changed the flow
pub one_more : (rules : List Rule) (rule : Rule) (flow now next : Flow) → remote_rules rules flow ≡ Ok now → remote_step rule now ≡ Some next →
    remote_rules (rules ++ rule ∷ []) flow ≡ Ok next
one_more [] rule flow now next so_far step =
    let here : flow ≡ now = cc in
    ap (λ f. remote_on Ok f (remote_step rule f)) here ∙ ap (remote_on Ok now) step
one_more (first ∷ rules) rule flow now next so_far step =
    by_step (remote_step first flow) so_far (λ after before. one_more rules rule after now next before step)
  where
    by_step : (s : Option Flow) → remote_on (remote_rules rules) flow s ≡ Ok now →
        ((after : Flow) → remote_rules rules after ≡ Ok now → remote_rules (rules ++ rule ∷ []) after ≡ Ok next) → remote_on (remote_rules (rules ++ rule ∷ [])) flow s ≡ Ok next
    by_step None before later = absurd cc
    by_step (Some after) before later = later after before

-- the next rule refused
pub one_refused : (rules others : List Rule) (rule : Rule) (flow now : Flow) → remote_rules rules flow ≡ Ok now → remote_step rule now ≡ None →
    remote_rules (rules ++ rule ∷ others) flow ≡ Err now
one_refused [] others rule flow now so_far step =
    let here : flow ≡ now = cc in
    ap (λ f. remote_on (remote_rules others) f (remote_step rule f)) here ∙ ap (remote_on (remote_rules others) now) step
one_refused (first ∷ rules) others rule flow now so_far step =
    by_step (remote_step first flow) so_far (λ after before. one_refused rules others rule after now before step)
  where
    by_step : (s : Option Flow) → remote_on (remote_rules rules) flow s ≡ Ok now →
        ((after : Flow) → remote_rules rules after ≡ Ok now → remote_rules (rules ++ rule ∷ others) after ≡ Err now) → remote_on (remote_rules (rules ++ rule ∷ others)) flow s ≡ Err now
    by_step None before later = absurd cc
    by_step (Some after) before later = later after before

-- the first rule holds not, and neither do the others
pub hold_nowhere : (rules : List Rule) (flow : Flow) → HoldNowhere rules flow → remote_rules rules flow ≡ Ok flow
hold_nowhere [] flow none = refl
hold_nowhere (rule ∷ rules) flow none =
    let first : applies rule.filter flow ≡ false = not_true _ (All-head (λ (r : Rule). not (applies r.filter flow) ≡ true) rule rules none) in
    let still : remote_step rule flow ≡ Some flow = rw first in
    ap (remote_on (remote_rules rules) flow) still ∙ hold_nowhere rules flow (All-tail (λ (r : Rule). not (applies r.filter flow) ≡ true) rule rules none)
