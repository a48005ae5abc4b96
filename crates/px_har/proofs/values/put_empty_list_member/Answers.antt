use Rattle.px_har.proofs.PutLemmas.{◌▸◌, all, token}
use Rattle.px_har.proofs.values.put_empty_list_member.Goals as goal

pub returns : goal.returns
returns c = all (token c.in_ok-key.ensures ▸ token c.in_ok-begin_array.ensures ▸ token c.in_ok-end_array.ensures)
