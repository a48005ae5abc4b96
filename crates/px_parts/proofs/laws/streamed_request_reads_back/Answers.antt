use Rattle.px_parts.proofs.ReadBackLemmas.{request-back, request-same}
use Rattle.px_parts.proofs.laws.streamed_request_reads_back.Goals as goal

pub returns-clause-marks : goal.returns-clause-marks
returns-clause-marks c = request-back c.args.request.now c.args.form

pub returns-clause-item : goal.returns-clause-item
returns-clause-item c = request-same c.args.request.now c.args.form
