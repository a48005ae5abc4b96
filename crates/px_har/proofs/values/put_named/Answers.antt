use Rattle.px_har.proofs.PutLemmas.{◌▸◌, all, token}
use Rattle.px_har.proofs.values.put_named.Goals as goal

pub returns : goal.returns
returns c = all (token c.in_ok-begin_object.ensures ▸ token c.in_ok-key.ensures ▸ token c.in_ok-string.ensures ▸ token c.in_ok-key-2.ensures ▸ token c.in_ok-string-2.ensures ▸ token c.in_ok-end_object.ensures)
