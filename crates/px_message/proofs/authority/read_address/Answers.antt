use Rattle.std.proofs.Common.{sym, ap, ◌∙◌, subst}
use Rattle.px_message.specs.Host.{IsHost}
use Rattle.px_message.specs.Authority.{port_of}
use Rattle.px_message.proofs.AuthorityLemmas.{address_of-parts, address_of-no_host, address_of-no_port}
use Rattle.px_message.proofs.authority.read_address.Goals as goal

pub returns-in_default-clause-bad : goal.returns-in_default-clause-bad
returns-in_default-clause-bad c = λ _. address_of-no_port _ (sym (ap port_of c.after_host.ensures) ∙ sym c.in_default.ensures.value)

pub returns-in-Ok-clause-ok : goal.returns-in-Ok-clause-ok
returns-in-Ok-clause-ok c =
    let copied = c.in_ok-copy.ensures.ok in
    address_of-parts _ _ _ (c.in-Ok.ensures.ok.0 ∙ copied ∙ c.host_of.ensures) (subst IsHost (sym c.in-Ok.ensures.ok.0) c.in-Ok.ensures.ok.1)
    (c.in-Some.ensures.value ∙ ap port_of c.after_host.ensures)

pub returns-in-Err-Malformed-clause-bad : goal.returns-in-Err-Malformed-clause-bad
returns-in-Err-Malformed-clause-bad c = λ _. address_of-no_host _ _ (c.in_ok-copy.ensures.ok ∙ c.host_of.ensures) (rw c.in-Err-Malformed.field-0-is at c.in-Err-Malformed.ensures.refused).1
