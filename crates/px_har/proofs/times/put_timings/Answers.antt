use Rattle.px_har.specs.Entry.{timings_value}
use Rattle.px_har.proofs.PutLemmas.{◌▸◌, added, all, token}
use Rattle.px_har.proofs.times.put_timings.Goals as goal

pub returns : goal.returns
unfolding timings_value
returns c =
    let receive = rw c.receive_millis-receive.ensures.value at c.in_ok-put_count_member.ensures in
    let send = rw c.send_millis-send.ensures.value at c.in_ok-put_count_member-2.ensures in
    let wait = rw c.wait_millis-wait.ensures.value at c.in_ok-put_count_member-3.ensures in
    all (token c.in_ok-begin_object.ensures ▸ added receive ▸ added send ▸ added wait ▸ token c.in_ok-end_object.ensures)
