use Rattle.std.proofs.Common.{length}
use Rattle.px_frame.specs.Mask.{under_key}
use Rattle.px_frame.specs.Text.{head_text}
use Rattle.px_text.proofs.PrefixLemmas.{err_behind, err_first, ok_behind}
use Rattle.px_frame.proofs.write.push_frame.Goals as goal

pub returns-in_err-push_head-clause-err : goal.returns-in_err-push_head-clause-err
returns-in_err-push_head-clause-err c =
    err_first c.from_residual.result (head_text c.args.fin c.args.opcode c.args.key (length c.args.payload.now))
    (under_key c.args.key c.args.payload.now) _ _ c.in_err-push_head.ensures.err

pub returns-clause-ok : goal.returns-clause-ok
returns-clause-ok c =
    ok_behind c.push_under_key.result (head_text c.args.fin c.args.opcode c.args.key (length c.args.payload.now))
    (under_key c.args.key c.args.payload.now) _ _ _ c.in_ok-push_head.ensures.ok c.push_under_key.ensures.ok

pub returns-clause-err : goal.returns-clause-err
returns-clause-err c =
    err_behind c.push_under_key.result (head_text c.args.fin c.args.opcode c.args.key (length c.args.payload.now))
    (under_key c.args.key c.args.payload.now) _ _ _ c.in_ok-push_head.ensures.ok c.push_under_key.ensures.err
