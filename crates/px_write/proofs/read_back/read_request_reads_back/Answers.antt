use Rattle.px_write.proofs.ReadLemmas.{read_request-back}
use Rattle.px_write.proofs.read_back.read_request_reads_back.Goals as goal

pub returns : goal.returns
returns c =
    read_request-back c.args.request.now c.args.form c.plain_request_stands.ensures c.plain_trailers_stand.ensures
    c.whole_request_reads_back.ensures
