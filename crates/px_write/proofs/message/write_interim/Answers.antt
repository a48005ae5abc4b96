use Rattle.px_write.specs.Text.{fields_text, status_line, version_text}
use Rattle.px_text.proofs.PrefixLemmas.{err_behind, err_first, ok_behind}
use Rattle.px_write.proofs.message.write_interim.Goals as goal

pub returns-in_err-write_status_line-clause-err : goal.returns-in_err-write_status_line-clause-err
returns-in_err-write_status_line-clause-err c = err_first c.from_residual.result (status_line (version_text c.args.version) c.args.code c.args.reason.now) (fields_text c.args.fields.now) _ _ c.in_err-write_status_line.ensures.err

pub returns-clause-ok : goal.returns-clause-ok
returns-clause-ok c = ok_behind c.write_fields.result (status_line (version_text c.args.version) c.args.code c.args.reason.now) (fields_text c.args.fields.now) _ _ _ c.in_ok-write_status_line.ensures.ok c.write_fields.ensures.ok

pub returns-clause-err : goal.returns-clause-err
returns-clause-err c = err_behind c.write_fields.result (status_line (version_text c.args.version) c.args.code c.args.reason.now) (fields_text c.args.fields.now) _ _ _ c.in_ok-write_status_line.ensures.ok c.write_fields.ensures.err
