use Rattle.px_har.proofs.PutLemmas.{◌▸◌, all, last, token}
use Rattle.px_har.proofs.message.put_fields.Goals as goal

pub returns : goal.returns
returns c = all (token c.in_ok-key.ensures ▸ token c.in_ok-begin_array.ensures ▸ last c.in_ok-put_each_field.ensures)
