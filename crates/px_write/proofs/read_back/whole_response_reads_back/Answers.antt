use Rattle.px_write.proofs.FramingLemmas.{status_small}
use Rattle.px_write.proofs.ReadBackLemmas.{whole_response-back}
use Rattle.px_write.proofs.read_back.whole_response_reads_back.Goals as goal

pub returns : goal.returns
returns c =
    let response = c.args.response.now in
    whole_response-back c.args.asked_head response (status_small response.status c.code-code.ensures.valid) c.is_held.ensures
