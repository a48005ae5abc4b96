use Rattle.px_write.specs.Error.{error_head, error_line, error_text}
use Rattle.px_text.proofs.PrefixLemmas.{err_behind, err_first, ok_behind}
use Rattle.px_write.proofs.error.error_text.Goals as goal

pub returns-in_err-write_head-clause-err : goal.returns-in_err-write_head-clause-err
unfolding error_text
returns-in_err-write_head-clause-err c = err_first c.from_residual.result (error_head c.args.fault) (error_line c.args.fault c.args.asked_head) _ _ c.in_err-write_head.ensures.err

pub returns-clause-ok : goal.returns-clause-ok
unfolding error_text
returns-clause-ok c = ok_behind c.write_line.result (error_head c.args.fault) (error_line c.args.fault c.args.asked_head) _ _ _ c.in_ok-write_head.ensures.ok c.write_line.ensures.ok

pub returns-clause-err : goal.returns-clause-err
unfolding error_text
returns-clause-err c = err_behind c.write_line.result (error_head c.args.fault) (error_line c.args.fault c.args.asked_head) _ _ _ c.in_ok-write_head.ensures.ok c.write_line.ensures.err
