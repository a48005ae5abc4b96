use Rattle.px_message.proofs.SettleLemmas.{settled_response-whole}
use Rattle.px_message.proofs.settle_laws.settled_response_is_whole.Goals as goal

pub returns : goal.returns
returns c = settled_response-whole
