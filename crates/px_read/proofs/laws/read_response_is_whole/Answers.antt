use Rattle.px_read.proofs.WholeLemmas.{read_response-whole}
use Rattle.px_read.proofs.laws.read_response_is_whole.Goals as goal

pub returns : goal.returns
returns c = read_response-whole
