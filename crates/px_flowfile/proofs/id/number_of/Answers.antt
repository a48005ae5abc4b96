use Rattle.std.proofs.Common.{◌∙◌}
use Rattle.px_flowfile.proofs.NumberLemmas.{number_is_utf8, number_is_parsed, other_number}
use Rattle.px_flowfile.proofs.id.number_of.Goals as goal

pub returns-in_default : goal.returns-in_default
returns-in_default c n small h = c.in_default.ensures.cases.0 (number_is_utf8 n c.args.digits.now small h)

pub returns-in_default-from_str_radix : goal.returns-in_default-from_str_radix
returns-in_default-from_str_radix c n small h =
    c.in_default-from_str_radix.not-Ok n
    (number_is_parsed n c.args.digits.now c.in-Ok.text.now c.from_str_radix.result small h c.in-Ok.ensures.cases.0 c.from_str_radix.ensures.value)

pub returns-else-eq : goal.returns-else-eq
returns-else-eq c n small h =
    other_number n c.in-Ok-from_str_radix.n c.args.digits.now c.as_bytes.result.now c.from_str_radix.result h
    (number_is_parsed n c.args.digits.now c.in-Ok.text.now c.from_str_radix.result small h c.in-Ok.ensures.cases.0 c.from_str_radix.ensures.value)
    c.in-Ok-from_str_radix.is (c.as_bytes.ensures.value ∙ c.format.ensures.text) c.if-eq.ensures
