use Rattle.px_write.proofs.ReadLemmas.{read_response-back}
use Rattle.px_write.proofs.read_back.read_response_reads_back.Goals as goal

pub returns : goal.returns
returns c =
    read_response-back c.args.asked_head c.args.response.now c.plain_response_stands.ensures c.plain_trailers_stand.ensures
    c.whole_response_reads_back.ensures
