use Rattle.px_write.proofs.ReadBackLemmas.{whole_request-back}
use Rattle.px_write.proofs.read_back.whole_request_reads_back.Goals as goal

pub returns : goal.returns
returns c = whole_request-back c.args.request.now c.args.form c.is_held.ensures
