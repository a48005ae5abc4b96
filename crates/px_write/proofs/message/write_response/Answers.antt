use Rattle.px_write.specs.Text.{response_body_text, response_head_text}
use Rattle.px_text.proofs.PrefixLemmas.{err_behind, err_first, ok_behind}
use Rattle.px_write.proofs.message.write_response.Goals as goal

pub returns-in_err-write_response_head-clause-err : goal.returns-in_err-write_response_head-clause-err
returns-in_err-write_response_head-clause-err c = err_first c.from_residual.result (response_head_text c.args.response.now) (response_body_text c.args.response.now c.args.asked_head) _ _ c.in_err-write_response_head.ensures.err

pub returns-clause-ok : goal.returns-clause-ok
returns-clause-ok c = ok_behind c.write_response_body.result (response_head_text c.args.response.now) (response_body_text c.args.response.now c.args.asked_head) _ _ _ c.in_ok-write_response_head.ensures.ok c.write_response_body.ensures.ok

pub returns-clause-err : goal.returns-clause-err
returns-clause-err c = err_behind c.write_response_body.result (response_head_text c.args.response.now) (response_body_text c.args.response.now c.args.asked_head) _ _ _ c.in_ok-write_response_head.ensures.ok c.write_response_body.ensures.err
