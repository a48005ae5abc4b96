use Rattle.px_write.specs.Framing.{HeadEnds}
use Rattle.px_write.specs.Text.{response_body_text, response_head_text}
use Rattle.px_write.proofs.FramingLemmas.{interim-ends, status_small, whole_ends}
use Rattle.px_write.proofs.framing.response_head_ends.Goals as goal

pub returns-clause-head : goal.returns-clause-head
returns-clause-head c =
    let response = c.args.response.now in
    interim-ends response.version response.status response.reason response.fields
    (status_small response.status c.code-code.ensures.valid) c.bytes-reason.ensures.valid c.fields_are_valid.ensures

pub returns-clause-whole : goal.returns-clause-whole
returns-clause-whole c =
    let response = c.args.response.now in
    let head : HeadEnds (response_head_text response) (response_head_text response) =
    interim-ends response.version response.status response.reason response.fields
    (status_small response.status c.code-code.ensures.valid) c.bytes-reason.ensures.valid c.fields_are_valid.ensures in
    whole_ends (response_head_text response) (response_body_text response c.args.asked_head) head
