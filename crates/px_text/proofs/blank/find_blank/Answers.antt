use Rattle.std.proofs.Common.{◌+◌, ◌∙◌, length, sym, arith}
use Rattle.px_text.specs.Blank.{ends_blank}
use Rattle.px_text.proofs.LeastLemmas.{least_step}
use Rattle.px_text.proofs.blank.find_blank.Goals as goal

pub loop-end-preserved : goal.loop-end-preserved
loop-end-preserved c =
    least_step (ends_blank c.args.bytes.now c.args.start) c.loop-end.end (length c.args.bytes.now + 1) (omega arith)
    (sym c.is_blank_end.ensures ∙ c.if-is_blank_end.false) ∙ c.loop-end.invariant
