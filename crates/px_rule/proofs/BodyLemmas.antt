-- Body rules, one by one.
use Rattle.std.proofs.Common.{◌≡◌, List, [], ◌∷◌, ◌++◌, Result, Ok, Err, OnErr, refl}
use Rattle.px_message.specs.declared.flow.Flow.{Flow}
use Rattle.px_rule.specs.Body.{body_rules, body_step}
use Rattle.px_rule.specs.Rule.{Rule}
use Rattle.px_rule.specs.declared.content.Content.{Content}

pub rules_more : (content : Content) (rules : List Rule) (rule : Rule) (flow : Flow) →
    body_rules content (rules ++ rule ∷ []) flow ≡ body_step content rule (body_rules content rules flow)
rules_more content [] rule flow = refl
rules_more content (first ∷ rules) rule flow = rules_more content rules rule (body_step content first flow)

pub on_err : {A E : Type 0} (r : Result A E) (P : Type 0) → P → OnErr r P
on_err (Ok _) P p = tt
on_err (Err _) P p = p
