use Rattle.px_parts.proofs.ReadBackLemmas.{response-back, response-same, status_small}
use Rattle.px_parts.proofs.laws.streamed_response_reads_back.Goals as goal

pub returns-clause-marks : goal.returns-clause-marks
returns-clause-marks c =
    let response = c.args.response.now in
    response-back c.args.asked_head response (status_small response.status c.code-code.ensures.valid)

pub returns-clause-item : goal.returns-clause-item
returns-clause-item c =
    let response = c.args.response.now in
    response-same c.args.asked_head response (status_small response.status c.code-code.ensures.valid)
