use Rattle.px_har.proofs.PutLemmas.{◌▸◌, all, token}
use Rattle.px_har.proofs.entry.put_cache.Goals as goal

pub returns : goal.returns
returns c = all (token c.in_ok-key.ensures ▸ token c.in_ok-begin_object.ensures ▸ token c.in_ok-end_object.ensures)
