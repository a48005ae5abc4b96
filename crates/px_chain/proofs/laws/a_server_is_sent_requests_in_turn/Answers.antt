use Rattle.px_chain.proofs.InTurnLemmas.{sent_in_turn}
use Rattle.px_chain.proofs.laws.a_server_is_sent_requests_in_turn.Goals as goal

pub returns : goal.returns
returns c = λ onward made at server moves goes below. sent_in_turn onward goes made at below server moves
