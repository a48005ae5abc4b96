use Rattle.px_write.specs.Text.{body_text, request_head_text}
use Rattle.px_text.proofs.PrefixLemmas.{err_behind, err_first, ok_behind}
use Rattle.px_write.proofs.message.write_request.Goals as goal

pub returns-in_err-write_request_head-clause-err : goal.returns-in_err-write_request_head-clause-err
returns-in_err-write_request_head-clause-err c = err_first c.from_residual.result (request_head_text c.args.request.now c.args.form) (body_text c.args.request.now.fields c.args.request.now.body c.args.request.now.trailers) _ _ c.in_err-write_request_head.ensures.err

pub returns-clause-ok : goal.returns-clause-ok
returns-clause-ok c = ok_behind c.write_body.result (request_head_text c.args.request.now c.args.form) (body_text c.args.request.now.fields c.args.request.now.body c.args.request.now.trailers) _ _ _ c.in_ok-write_request_head.ensures.ok c.write_body.ensures.ok

pub returns-clause-err : goal.returns-clause-err
returns-clause-err c = err_behind c.write_body.result (request_head_text c.args.request.now c.args.form) (body_text c.args.request.now.fields c.args.request.now.body c.args.request.now.trailers) _ _ _ c.in_ok-write_request_head.ensures.ok c.write_body.ensures.err
