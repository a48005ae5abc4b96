use Rattle.px_read.proofs.WholeLemmas.{response-fits}
use Rattle.px_read.proofs.laws.whole_response_fits.Goals as goal

pub returns : goal.returns
returns c = response-fits
