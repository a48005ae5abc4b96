use Rattle.px_message.proofs.SettleLemmas.{response-once}
use Rattle.px_message.proofs.settle_laws.response_settles_once.Goals as goal

pub returns : goal.returns
returns c = response-once
