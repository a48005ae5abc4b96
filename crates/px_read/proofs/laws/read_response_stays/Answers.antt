use Rattle.px_read.proofs.WholeLemmas.{read_response-stays}
use Rattle.px_read.proofs.laws.read_response_stays.Goals as goal

pub returns : goal.returns
returns c = read_response-stays
