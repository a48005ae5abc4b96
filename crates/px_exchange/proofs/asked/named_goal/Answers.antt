use Rattle.std.proofs.Common.{rules, ◌≡◌, Some, refl, sym, ◌∙◌, ap}
use Rattle.px_message.specs.Target.{absolute, target_form}
use Rattle.px_exchange.specs.Requests.{goal_in}
use Rattle.px_exchange.proofs.GoalLemmas.{own_goal}
use Rattle.px_exchange.proofs.asked.named_goal.Goals as goal

pub returns-in-Ok-Absolute : goal.returns-in-Ok-Absolute
returns-in-Ok-Absolute c =
    let there = c.in-Ok-Absolute in
    let found : target_form c.args.method.now c.args.target.now ≡ Some (absolute there.address.host there.address.port there.path) = search rules in
    own_goal there.address there.path _ refl ∙ sym (ap goal_in found)
