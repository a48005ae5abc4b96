use Rattle.std.proofs.Common.{◌∷◌}
use Rattle.px_text.specs.Blank.{crlf}
use Rattle.px_write.specs.Text.{fields_text}
use Rattle.px_text.proofs.PrefixLemmas.{err_behind, err_first, ok_behind}
use Rattle.px_write.proofs.body.write_last_chunk.Goals as goal

pub returns-in_err-append-clause-err : goal.returns-in_err-append-clause-err
returns-in_err-append-clause-err c = err_first c.from_residual.result (48 ∷ crlf) (fields_text c.args.trailers.now) _ _ c.in_err-append.ensures.err

pub returns-clause-ok : goal.returns-clause-ok
returns-clause-ok c = ok_behind c.write_fields.result (48 ∷ crlf) (fields_text c.args.trailers.now) _ _ _ c.in_ok-append.ensures.ok c.write_fields.ensures.ok

pub returns-clause-err : goal.returns-clause-err
returns-clause-err c = err_behind c.write_fields.result (48 ∷ crlf) (fields_text c.args.trailers.now) _ _ _ c.in_ok-append.ensures.ok c.write_fields.ensures.err
