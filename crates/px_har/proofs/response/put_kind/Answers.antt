use Rattle.px_har.proofs.PutLemmas.{◌▸◌, a_front, added}
use Rattle.px_har.proofs.response.put_kind.Goals as goal

pub returns : goal.returns
returns c = a_front (λ members. added c.in_ok-put_text_member.ensures ▸ added c.in_ok-put_count_member.ensures)
