use Rattle.px_har.proofs.PutLemmas.{◌▸◌, added, all, token}
use Rattle.px_har.proofs.message.put_field.Goals as goal

pub returns : goal.returns
returns c =
    let name = rw c.bytes-name.ensures.bytes at c.in_ok-put_text_member.ensures in
    let value = rw c.bytes-value.ensures.bytes at c.in_ok-put_text_member-2.ensures in
    all (token c.in_ok-begin_object.ensures ▸ added name ▸ added value ▸ token c.in_ok-end_object.ensures)
