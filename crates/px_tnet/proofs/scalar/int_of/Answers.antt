use Rattle.std.proofs.Common.{◌∙◌}
use Rattle.px_tnet.proofs.IntLemmas.{int_is_utf8, int_is_parsed, other_digits}
use Rattle.px_tnet.proofs.scalar.int_of.Goals as goal

pub returns-in_default : goal.returns-in_default
returns-in_default c n h = c.in_default.ensures.cases.0 (int_is_utf8 n c.args.payload.now h)

pub returns-in_default-from_str_radix : goal.returns-in_default-from_str_radix
returns-in_default-from_str_radix c n h =
    c.in_default-from_str_radix.not-Ok n
    (int_is_parsed n c.args.payload.now c.in-Ok.text.now c.from_str_radix.result h c.in-Ok.ensures.cases.0 c.from_str_radix.ensures.value)

pub returns-else-eq : goal.returns-else-eq
returns-else-eq c n h =
    other_digits n c.in-Ok-from_str_radix.n c.args.payload.now c.as_bytes.result.now c.from_str_radix.result h
    (int_is_parsed n c.args.payload.now c.in-Ok.text.now c.from_str_radix.result h c.in-Ok.ensures.cases.0 c.from_str_radix.ensures.value)
    c.in-Ok-from_str_radix.is (c.as_bytes.ensures.value ∙ c.format.ensures.text) c.if-eq.ensures
