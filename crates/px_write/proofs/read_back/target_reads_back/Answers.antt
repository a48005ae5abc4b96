use Rattle.std.proofs.Common.{arith}
use Rattle.px_write.proofs.TargetLemmas.{absolute-back, origin-back}
use Rattle.px_write.proofs.read_back.target_reads_back.Goals as goal

pub returns-clause-origin : goal.returns-clause-origin
returns-clause-origin c =
    let request = c.args.request.now in origin-back request.method request.path request.not_connect c.bytes-path.ensures.valid

pub returns-clause-absolute : goal.returns-clause-absolute
returns-clause-absolute c named =
    let request = c.args.request.now in
    let open_port = request.port_not_zero in
    absolute-back request.method request.host request.path request.port request.not_connect c.bytes-host.ensures.valid
    c.bytes-path.ensures.valid named (omega (arith, open_port)) c.fits.ensures
