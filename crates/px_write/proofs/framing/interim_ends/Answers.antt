use Rattle.std.proofs.Common.{arith}
use Rattle.px_write.proofs.FramingLemmas.{interim-ends}
use Rattle.px_write.proofs.framing.interim_ends.Goals as goal

pub returns : goal.returns
returns c =
    let fits = c.ranges.code.fits in
    interim-ends c.args.version c.args.code c.args.reason.now c.args.fields.now (omega arith) c.bytes-reason.ensures.valid
    c.fields_are_valid.ensures
