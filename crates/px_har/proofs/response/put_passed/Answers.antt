use Rattle.serde_json.specs.Data.{no_members}
use Rattle.px_har.proofs.PutLemmas.{◌▸◌, all, in_front, token}
use Rattle.px_har.proofs.response.put_passed.Goals as goal

pub returns : goal.returns
returns c = all (token c.in_ok-begin_object.ensures ▸ in_front (no_members) c.in_ok-put_kind.ensures ▸ token c.in_ok-end_object.ensures)
