use Rattle.px_har.proofs.PutLemmas.{◌▸◌, added, all, token}
use Rattle.px_har.proofs.response.put_end.Goals as goal

pub returns : goal.returns
returns c = all (added c.in_ok-put_count_member.ensures ▸ added c.in_ok-put_text_member.ensures ▸ token c.in_ok-end_object.ensures)
