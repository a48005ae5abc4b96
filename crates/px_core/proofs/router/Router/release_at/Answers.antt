use Rattle.std.proofs.Common.{refl, sym, ap, is_some}
use Rattle.slab.proofs.SlabLemmas.{Updates-with_value}
use Rattle.px_core.proofs.router.Router.release_at.Goals as goal

pub returns-clause-releases : goal.returns-clause-releases
returns-clause-releases g c = record {
  held = c.in-Some.held.now;
  new_held = c.release.new.self;
  was = sym c.in-Some.ensures.value;
  live_now = Updates-with_value c.args.self.now.table.live c.args.key c.release.new.self (ap is_some (sym c.in-Some.ensures.value));
  places = λ other. refl;
  releases = c.in_ok-release.ensures.releases;
  ends = c.ended.ensures;
}
