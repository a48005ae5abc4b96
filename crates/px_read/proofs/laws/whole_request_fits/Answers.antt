use Rattle.px_read.proofs.WholeLemmas.{request-fits}
use Rattle.px_read.proofs.laws.whole_request_fits.Goals as goal

pub returns : goal.returns
returns c = request-fits
