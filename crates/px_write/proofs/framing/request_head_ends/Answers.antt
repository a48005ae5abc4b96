use Rattle.std.proofs.Common.{arith}
use Rattle.px_write.specs.Framing.{HeadEnds}
use Rattle.px_write.specs.Text.{body_text, request_head_text}
use Rattle.px_write.proofs.FramingLemmas.{request_head-ends, whole_ends}
use Rattle.px_write.proofs.framing.request_head_ends.Goals as goal

pub returns-clause-head : goal.returns-clause-head
returns-clause-head c =
    let request = c.args.request.now in
    request_head-ends request.method request.host request.path request.port request.version c.args.form request.fields
    c.bytes-method.ensures.token c.bytes-host.ensures.valid c.bytes-path.ensures.valid (omega (arith, c.fits.ensures)) c.fields_are_valid.ensures

pub returns-clause-whole : goal.returns-clause-whole
returns-clause-whole c =
    let request = c.args.request.now in
    let head : HeadEnds (request_head_text request c.args.form) (request_head_text request c.args.form) =
    request_head-ends request.method request.host request.path request.port request.version c.args.form request.fields
    c.bytes-method.ensures.token c.bytes-host.ensures.valid c.bytes-path.ensures.valid (omega (arith, c.fits.ensures)) c.fields_are_valid.ensures in
    whole_ends (request_head_text request c.args.form) (body_text request.fields request.body request.trailers) head
