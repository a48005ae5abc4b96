use Rattle.std.proofs.Common.{◌<◌, [], length, arith}
use Rattle.px_text.proofs.PrefixLemmas.{adds_before, adds_more, err_adds}
use Rattle.px_write.proofs.append.append.Goals as goal

pub loop-piece-preserved : goal.loop-piece-preserved
loop-piece-preserved c =
    let within : c.loop-piece.piece-index < length c.args.pieces.now = omega arith in
    adds_more (λ piece. piece.now) c.args.pieces.now c.loop-piece.piece-index _ _ _ _ within c.loop-piece.invariant
    c.in_ok-extend_from_slice.ensures.items

pub returns-in_err-extend_from_slice-clause-err : goal.returns-in_err-extend_from_slice-clause-err
returns-in_err-extend_from_slice-clause-err c =
    let within : c.loop-piece.piece-index < length c.args.pieces.now = omega arith in
    err_adds c.from_residual.result _ _ _
    (adds_before (λ piece. piece.now) c.args.pieces.now c.loop-piece.piece-index (record { ref_ptr = (0, 0); now = [] }) _ _ _ within c.loop-piece.invariant
    c.in_err-extend_from_slice.ensures.items)
