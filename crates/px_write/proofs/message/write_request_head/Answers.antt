use Rattle.px_write.specs.Text.{fields_text, request_line, target_text, version_text}
use Rattle.px_text.proofs.PrefixLemmas.{err_behind, err_first, ok_behind}
use Rattle.px_write.proofs.message.write_request_head.Goals as goal

pub returns-in_err-write_request_line-clause-err : goal.returns-in_err-write_request_line-clause-err
returns-in_err-write_request_line-clause-err c = err_first c.from_residual.result (request_line c.args.request.now.method (target_text c.args.form c.args.request.now.host c.args.request.now.port c.args.request.now.path) (version_text c.args.request.now.version)) (fields_text c.args.request.now.fields) _ _ c.in_err-write_request_line.ensures.err

pub returns-clause-ok : goal.returns-clause-ok
returns-clause-ok c = ok_behind c.write_fields.result (request_line c.args.request.now.method (target_text c.args.form c.args.request.now.host c.args.request.now.port c.args.request.now.path) (version_text c.args.request.now.version)) (fields_text c.args.request.now.fields) _ _ _ c.in_ok-write_request_line.ensures.ok c.write_fields.ensures.ok

pub returns-clause-err : goal.returns-clause-err
returns-clause-err c = err_behind c.write_fields.result (request_line c.args.request.now.method (target_text c.args.form c.args.request.now.host c.args.request.now.port c.args.request.now.path) (version_text c.args.request.now.version)) (fields_text c.args.request.now.fields) _ _ _ c.in_ok-write_request_line.ensures.ok c.write_fields.ensures.err
