use Rattle.px_stack.proofs.AskingLemmas.{asking_asks, asking_taken}
use Rattle.px_stack.proofs.asking.asking_takes.Goals as goal

pub returns-clause-takes : goal.returns-clause-takes
returns-clause-takes c =
    asking_taken c.args.layer c.hear.new.self c.come_to.result c.args.event.now c.args.out.now.items c.hear.new.out.items c.come_to.ensures c.requires.free c.in_ok-hear.ensures.hears

pub returns-clause-asks : goal.returns-clause-asks
returns-clause-asks c = asking_asks c.hear.new.self c.come_to.result c.args.out.now.items c.hear.new.out.items c.come_to.ensures c.in_ok-hear.ensures.asks
