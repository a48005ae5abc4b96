use Rattle.px_har.proofs.PutLemmas.{◌▸◌, a_front, added, in_front}
use Rattle.px_har.proofs.message.put_head.Goals as goal

pub returns : goal.returns
returns c = a_front (λ members. added c.in_ok-put_empty_list_member.ensures ▸ added c.in_ok-put_fields.ensures ▸ in_front members c.in_ok-put_head_end.ensures)
