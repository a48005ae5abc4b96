use Rattle.std.proofs.Common.{length}
use Rattle.px_frame.proofs.MaskLemmas.{Masked}
use Rattle.px_frame.proofs.mask.push_under.Given as goal

abbrev pub invariant-eights : goal.invariant-eights
invariant-eights l = Masked l.key l.payload l.rest l.fn.out.items l.out.items

abbrev pub decreases-eights : goal.decreases-eights
decreases-eights l = length l.rest
