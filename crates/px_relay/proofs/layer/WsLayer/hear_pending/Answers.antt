use Rattle.px_relay.proofs.GoesLemmas.{pending_empty}
use Rattle.px_relay.proofs.layer.WsLayer.hear_pending.Goals as goal

pub returns-then-is_empty-clause-hears : goal.returns-then-is_empty-clause-hears
returns-then-is_empty-clause-hears c = pending_empty c.args.self.now c.is_empty.result c.is_empty.ensures c.if-is_empty.true
