use Rattle.px_har.proofs.PutLemmas.{◌▸◌, added, all, token}
use Rattle.px_har.proofs.entry.put_end.Goals as goal

pub returns : goal.returns
returns c =
    let total = rw c.total_millis-total.ensures.value at c.in_ok-put_count_member.ensures in
    all (added c.in_ok-put_moment.ensures ▸ added total ▸ token c.in_ok-key.ensures ▸ added c.in_ok-put_timings.ensures ▸ token c.in_ok-end_object.ensures)
