use Rattle.std.proofs.Common.{refl}
use Rattle.px_text.proofs.PrefixLemmas.{err_nothing}
use Rattle.px_write.proofs.line.write_request_line.Goals as goal

pub returns-in_err-url-in-Absolute-clause-err : goal.returns-in_err-url-in-Absolute-clause-err
returns-in_err-url-in-Absolute-clause-err c = err_nothing c.from_residual.result _ _ _ refl
