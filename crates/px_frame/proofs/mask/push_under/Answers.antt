use Rattle.std.proofs.Common.{refl}
use Rattle.px_frame.proofs.MaskLemmas.{masked_breaks_on, masked_eight}
use Rattle.px_frame.proofs.mask.push_under.Goals as goal

pub eights-preserved : goal.eights-preserved
eights-preserved c =
    masked_eight c.args.key c.args.payload.now c.eights.rest.now c.args.out.now.items c.eights.out.items c.extend_from_slice.new.self.items _
    c.in-len8-up.len_at_least c.in_ok-extend_from_slice.ensures.items refl c.eights.invariant

pub returns-clause-err : goal.returns-clause-err
returns-clause-err c =
    masked_breaks_on c.push_few.result c.args.key c.args.payload.now c.eights.rest.now c.args.out.now.items c.eights.out.items c.push_few.new.out.items
    c.push_few.ensures.err c.eights.invariant
