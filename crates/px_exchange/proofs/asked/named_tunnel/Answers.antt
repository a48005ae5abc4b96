use Rattle.std.proofs.Common.{rules, ◌≡◌, Some, refl, sym, ◌∙◌, ap}
use Rattle.px_message.specs.Target.{authority, target_form}
use Rattle.px_exchange.specs.Requests.{tunnel_in}
use Rattle.px_exchange.proofs.GoalLemmas.{own_address}
use Rattle.px_exchange.proofs.asked.named_tunnel.Goals as goal

pub returns-in-Ok-Authority : goal.returns-in-Ok-Authority
returns-in-Ok-Authority c =
    let there = c.in-Ok-Authority in
    let found : target_form c.args.method.now c.args.target.now ≡ Some (authority there.address.host there.address.port) = search rules in
    own_address there.address _ refl ∙ sym (ap tunnel_in found)
