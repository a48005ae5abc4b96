use Rattle.px_message.proofs.SettleLemmas.{whole_request-stays}
use Rattle.px_message.proofs.settle_laws.whole_request_stays.Goals as goal

pub returns : goal.returns
returns c = whole_request-stays
