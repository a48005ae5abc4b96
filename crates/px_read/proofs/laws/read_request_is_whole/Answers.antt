use Rattle.px_read.proofs.WholeLemmas.{read_request-whole}
use Rattle.px_read.proofs.laws.read_request_is_whole.Goals as goal

pub returns : goal.returns
returns c = read_request-whole
