use Rattle.px_har.proofs.PutLemmas.{◌▸◌, added, all, token}
use Rattle.px_har.proofs.request.put_posted.Goals as goal

pub returns : goal.returns
returns c = all (token c.in_ok-key.ensures ▸ added c.in_ok-put_content.ensures)
