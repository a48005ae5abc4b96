use Rattle.px_stack.proofs.OpenedLemmas.{relay_asks}
use Rattle.px_stack.proofs.stack.unread.Goals as goal

pub returns-clause-asks : goal.returns-clause-asks
returns-clause-asks c = relay_asks c.args.out.now.items c.begin_relay.new.out.items c.begin_relay.result c.begin_relay.ensures.asks
