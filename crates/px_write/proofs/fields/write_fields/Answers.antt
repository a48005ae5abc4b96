use Rattle.std.specs.List.{flat_map}
use Rattle.px_text.specs.Blank.{crlf}
use Rattle.px_write.specs.Text.{field_line}
use Rattle.px_text.proofs.PrefixLemmas.{err_behind, err_first, ok_behind}
use Rattle.px_write.proofs.fields.write_fields.Goals as goal

pub returns-in_err-write_field_lines-clause-err : goal.returns-in_err-write_field_lines-clause-err
returns-in_err-write_field_lines-clause-err c = err_first c.from_residual.result (flat_map field_line c.args.fields.now) crlf _ _ c.in_err-write_field_lines.ensures.err

pub returns-clause-ok : goal.returns-clause-ok
returns-clause-ok c = ok_behind c.append.result (flat_map field_line c.args.fields.now) crlf _ _ _ c.in_ok-write_field_lines.ensures.ok c.append.ensures.ok

pub returns-clause-err : goal.returns-clause-err
returns-clause-err c = err_behind c.append.result (flat_map field_line c.args.fields.now) crlf _ _ _ c.in_ok-write_field_lines.ensures.ok c.append.ensures.err
