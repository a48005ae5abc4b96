use Rattle.px_message.proofs.SettleLemmas.{settled_request-whole}
use Rattle.px_message.proofs.settle_laws.settled_request_is_whole.Goals as goal

pub returns : goal.returns
returns c = settled_request-whole
