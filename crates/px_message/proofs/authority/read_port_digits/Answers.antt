use Rattle.std.proofs.Common.{sym, ◌∙◌}
use Rattle.std.proofs.lemmas.Str.{IsUtf8-from_ascii}
use Rattle.px_message.proofs.AuthorityLemmas.{is_port-refused, IsAscii-port_digits}
use Rattle.px_message.proofs.authority.read_port_digits.Goals as goal

pub returns-in-Err-parse : goal.returns-in-Err-parse
returns-in-Err-parse c = is_port-refused c.args.digits.now (sym c.has_port_digits.ensures ∙ c.if-not-has_port_digits.false) (rw c.in-Ok.ensures.cases.0 at c.in-Err-parse.ensures.value.0)

pub returns-in-Err : goal.returns-in-Err
returns-in-Err c = absurd (c.in-Err.ensures.cases.0 (IsUtf8-from_ascii _ (IsAscii-port_digits _ (sym c.has_port_digits.ensures ∙ c.if-not-has_port_digits.false))))
