use Rattle.std.proofs.Common.{◌≡◌}
use Rattle.px_wire.proofs.HoldsLemmas.{push_gone}
use Rattle.px_wire.proofs.MarkLemmas.{marks_both}
use Rattle.px_wire.specs.Holds.{IsOf, endpoint_at, without}
use Rattle.px_wire.proofs.endpoints.Endpoints.push.Goals as goal

pub returns : goal.returns
returns c = record {
  only = marks_both (λ conv. IsOf (λ s. endpoint_at c.args.self.now s) conv c.args.endpoint.slot) (λ conv. conv ≡ c.args.endpoint.conv)
      c.args.self.now c.remove.new.self c.push_new.new.self c.remove.ensures.only c.push_new.ensures.only;
  holds = λ endpoints held.
      push_gone c.args.self.now c.remove.new.self c.push_new.new.self c.args.endpoint endpoints (c.remove.ensures.holds endpoints) c.remove.ensures.gone c.remove.ensures.next
      (c.push_new.ensures.holds (without c.args.endpoint.slot endpoints)) held;
}
