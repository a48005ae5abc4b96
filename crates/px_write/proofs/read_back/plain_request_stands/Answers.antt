use Rattle.std.proofs.Common.{arith}
use Rattle.px_write.specs.Text.{target_text}
use Rattle.px_write.proofs.PlainLemmas.{request-plain}
use Rattle.px_write.proofs.TargetTextLemmas.{target_plain}
use Rattle.px_write.proofs.read_back.plain_request_stands.Goals as goal

pub returns : goal.returns
returns c text plain short =
    let request = c.args.request.now in
    let target = target_plain c.args.form request.host request.path request.port c.bytes-host.ensures.valid
    c.bytes-path.ensures.valid (omega (arith, c.fits.ensures)) text in
    request-plain request.method (target_text c.args.form request.host request.port request.path) request.version request.fields
    c.bytes-method.ensures.token target.0 target.1.bytes target.1.utf8 c.fields_are_valid.ensures plain short
