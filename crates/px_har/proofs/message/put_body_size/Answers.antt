use Rattle.px_har.proofs.PutLemmas.{◌▸◌, all, last, token}
use Rattle.px_har.proofs.message.put_body_size.Goals as goal

pub returns : goal.returns
returns c = all (token c.in_ok-key.ensures ▸ last c.in_ok-put_size.ensures)
