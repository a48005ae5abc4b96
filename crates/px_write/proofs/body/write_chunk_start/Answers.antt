use Rattle.px_text.specs.Number.{hexadecimal}
use Rattle.px_text.specs.Blank.{crlf}
use Rattle.px_text.proofs.PrefixLemmas.{err_behind, err_first, ok_behind}
use Rattle.px_write.proofs.body.write_chunk_start.Goals as goal

pub returns-in_err-push_hex-clause-err : goal.returns-in_err-push_hex-clause-err
returns-in_err-push_hex-clause-err c = err_first c.from_residual.result (hexadecimal c.args.size) crlf _ _ c.in_err-push_hex.ensures.err

pub returns-clause-ok : goal.returns-clause-ok
returns-clause-ok c = ok_behind c.append.result (hexadecimal c.args.size) crlf _ _ _ c.in_ok-push_hex.ensures.ok c.append.ensures.ok

pub returns-clause-err : goal.returns-clause-err
returns-clause-err c = err_behind c.append.result (hexadecimal c.args.size) crlf _ _ _ c.in_ok-push_hex.ensures.ok c.append.ensures.err
