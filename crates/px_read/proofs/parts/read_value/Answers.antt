use Rattle.px_read.proofs.PartLemmas.{value_passes}
use Rattle.px_read.proofs.parts.read_value.Goals as goal

pub unreachable-requires : goal.unreachable-requires
unreachable-requires c =
    let passes = value_passes c.args.bytes c.requires in
    cc c.in-Err.ensures.refused.1
