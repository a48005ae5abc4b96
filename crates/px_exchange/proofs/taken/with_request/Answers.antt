use Rattle.std.proofs.Common.{refl}
use Rattle.px_message.proofs.RequestLemmas.{request_eq}
use Rattle.px_exchange.specs.Replies.{with_request}
use Rattle.px_exchange.proofs.taken.with_request.Goals as goal

pub returns : goal.returns
returns c = request_eq _ (with_request c.args.asked.now c.args.given) refl refl refl refl refl refl refl refl refl
