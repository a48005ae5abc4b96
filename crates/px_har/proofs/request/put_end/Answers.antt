use Rattle.px_har.proofs.PutLemmas.{◌▸◌, added, all, token}
use Rattle.px_har.proofs.request.put_end.Goals as goal

pub returns : goal.returns
returns c =
    let query = rw c.bytes-path.ensures.bytes at c.in_ok-put_query.ensures in
    all (added query ▸ added c.in_ok-put_url.ensures ▸ token c.in_ok-end_object.ensures)
