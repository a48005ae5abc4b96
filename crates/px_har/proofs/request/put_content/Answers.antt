use Rattle.px_har.proofs.PutLemmas.{◌▸◌, added, all, token}
use Rattle.px_har.proofs.request.put_content.Goals as goal

pub returns : goal.returns
returns c =
    let mime = rw c.first_or_empty-mime.ensures at c.in_ok-put_text_member.ensures in
    let text = rw c.bytes-body.ensures at c.in_ok-put_text_member-2.ensures in
    all (token c.in_ok-begin_object.ensures ▸ added mime ▸ added text ▸ token c.in_ok-end_object.ensures)
