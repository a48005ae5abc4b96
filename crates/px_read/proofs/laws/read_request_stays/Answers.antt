use Rattle.px_read.proofs.WholeLemmas.{read_request-stays}
use Rattle.px_read.proofs.laws.read_request_stays.Goals as goal

pub returns : goal.returns
returns c = read_request-stays
