use Rattle.px_message.proofs.SettleLemmas.{whole_response-stays}
use Rattle.px_message.proofs.settle_laws.whole_response_stays.Goals as goal

pub returns : goal.returns
returns c = whole_response-stays
