use Rattle.px_chain.proofs.SentLemmas.{sent_once}
use Rattle.px_chain.proofs.laws.a_server_is_sent_one_request.Goals as goal

pub returns : goal.returns
returns c = λ onward made at server moves goes below none. sent_once onward goes made at below server moves none
