use Rattle.std.proofs.Common.{length}
use Rattle.px_relay.specs.Calls.{half_in}
use Rattle.px_relay.proofs.DrainLemmas.{DrainsSo}
use Rattle.px_relay.proofs.KeepLemmas.{SoFar}
use Rattle.px_relay.proofs.layer.WsLayer.drain.Given as goal

abbrev pub invariant-frames : goal.invariant-frames
invariant-frames l = record {
  drains : DrainsSo l.from l.initial.self l.self l.initial.out.items l.out.items;
  keeps : SoFar l.from l.initial.self l.self;
}

abbrev pub decreases-frames : goal.decreases-frames
decreases-frames l = length (half_in l.from l.self).queue.items
