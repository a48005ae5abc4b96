use Rattle.px_har.proofs.PutLemmas.{◌▸◌, all, last, token}
use Rattle.px_har.proofs.request.put_query.Goals as goal

pub returns : goal.returns
returns c =
    let parameters = rw c.query-query.ensures at c.in_ok-put_parameters.ensures in
    all (token c.in_ok-key.ensures ▸ token c.in_ok-begin_array.ensures ▸ last parameters)
