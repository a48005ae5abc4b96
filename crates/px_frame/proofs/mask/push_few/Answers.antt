use Rattle.std.proofs.Common.{◌<◌, ◌++◌, ◌∙◌, ℕ, List, ap, sym, length, take, arith}
use Rattle.px_frame.specs.Mask.{under}
use Rattle.px_frame.proofs.MaskLemmas.{under_before, under_more}
use Rattle.px_text.proofs.PrefixLemmas.{both_parts, err_adds}
use Rattle.px_frame.proofs.mask.push_few.Goals as goal

pub loop-i-preserved : goal.loop-i-preserved
loop-i-preserved c =
    let within : c.loop-i.i < length c.args.payload.now = omega arith in
    both_parts (under c.args.key 0 (take c.loop-i.i c.args.payload.now)) _ _ _ _ c.loop-i.invariant c.in_ok-push.ensures.items
    ∙ ap (λ (l : List ℕ). c.args.out.now.items ++ l) (sym (under_more c.args.key c.args.payload.now c.loop-i.i within))

pub returns-in_err-push-clause-err : goal.returns-in_err-push-clause-err
returns-in_err-push-clause-err c =
    err_adds _ _ _ _ (under_before c.args.key c.args.payload.now c.loop-i.i _ _ _ c.loop-i.invariant c.in_err-push.ensures.items)
