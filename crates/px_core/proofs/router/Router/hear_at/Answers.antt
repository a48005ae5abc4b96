use Rattle.std.proofs.Common.{refl, sym, ap, is_some}
use Rattle.slab.proofs.SlabLemmas.{Updates-with_value}
use Rattle.px_core.proofs.router.Router.hear_at.Goals as goal

pub returns-clause-hears : goal.returns-clause-hears
returns-clause-hears g c = record {
  held = c.in-Some.held.now;
  new_held = c.hear.new.self;
  was = sym c.in-Some.ensures.value;
  live_now = Updates-with_value c.args.self.now.table.live c.args.key c.hear.new.self (ap is_some (sym c.in-Some.ensures.value));
  places = λ other. refl;
  hears = c.in_ok-hear.ensures.hears;
  ends = c.ended.ensures;
}
