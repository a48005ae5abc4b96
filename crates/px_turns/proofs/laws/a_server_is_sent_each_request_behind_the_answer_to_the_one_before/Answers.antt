use Rattle.px_turns.proofs.HeardLemmas.{heard_behind}
use Rattle.px_turns.proofs.InTurnLaws.{sent_in_turn}
use Rattle.px_turns.proofs.laws.a_server_is_sent_each_request_behind_the_answer_to_the_one_before.Goals as goal

pub returns-clause-in_turn : goal.returns-clause-in_turn
returns-clause-in_turn c = λ onward made at server moves goes below. sent_in_turn onward goes made at below server moves

pub returns-clause-heard : goal.returns-clause-heard
returns-clause-heard c = λ onward made at server moves. heard_behind onward made at server moves
