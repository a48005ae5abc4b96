use Rattle.px_message.proofs.SettleLemmas.{request-once}
use Rattle.px_message.proofs.settle_laws.request_settles_once.Goals as goal

pub returns : goal.returns
returns c = request-once
