use Rattle.px_stack.proofs.StackLemmas.{makes_due}
use Rattle.px_stack.proofs.placed.PlacedClientMakerStack.make.Goals as goal

pub returns-clause-due : goal.returns-clause-due
returns-clause-due c =
    makes_due c.new.result c.args.self.now.mode c.args.self.now.mask_key c.args.conv c.args.peer.now c.new.ensures.conv c.new.ensures.client c.new.ensures.mask_key c.new.ensures.start
