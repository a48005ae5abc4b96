use Rattle.px_har.proofs.PutLemmas.{◌▸◌, a_front, added, token}
use Rattle.px_har.proofs.message.put_head_end.Goals as goal

pub returns : goal.returns
returns c = a_front (λ members. token c.in_ok-key.ensures ▸ added c.in_ok-put_unknown_size.ensures ▸ added c.in_ok-put_string_member.ensures)
