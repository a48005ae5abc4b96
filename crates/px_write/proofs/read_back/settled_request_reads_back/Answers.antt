use Rattle.px_write.proofs.ReadBackLemmas.{settled_request-back}
use Rattle.px_write.proofs.read_back.settled_request_reads_back.Goals as goal

pub returns : goal.returns
returns c = settled_request-back c.args.request.now c.args.form c.is_held.ensures
