use Rattle.px_event.specs.declared.side.Side.TheVariants.{Server}
use Rattle.px_stack.proofs.SaidLemmas.{hears_nothing, unshut_others}
use Rattle.px_stack.proofs.OpenedLemmas.{none_of_others}
use Rattle.px_stack.proofs.reaching.hear_proxy.Goals as goal

pub returns-in_default : goal.returns-in_default
returns-in_default c = record {
  hears =
      hears_nothing c.args.server c.args.asked.now c.args.event.now (none_of_others (Server c.args.server) c.args.event.now c.in_default.not-Piece)
      (unshut_others (Server c.args.server) c.args.event.now c.in_default.not-Closed);
}
