use Rattle.px_har.specs.Entry.{entry_value}
use Rattle.px_har.proofs.PutLemmas.{◌▸◌, added, all, last, token}
use Rattle.px_har.proofs.entry.put_entry.Goals as goal

pub returns : goal.returns
unfolding entry_value
returns c =
    let request = rw c.get-request.ensures at c.in_ok-put_request.ensures in
    all (
    token c.in_ok-begin_object.ensures
    ▸ added c.in_ok-put_cache.ensures
    ▸ token c.in_ok-key.ensures
    ▸ added request
    ▸ token c.in_ok-key-2.ensures
    ▸ added c.in_ok-put_response.ensures
    ▸ last c.in_ok-put_end.ensures
    )
