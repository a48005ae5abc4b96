use Rattle.px_write.proofs.PlainLemmas.{response-plain}
use Rattle.px_write.proofs.read_back.plain_response_stands.Goals as goal

pub returns : goal.returns
returns c phrase plain short =
    let response = c.args.response.now in
    response-plain response.version response.status response.reason response.fields c.code-code.ensures.valid phrase
    c.fields_are_valid.ensures plain short
