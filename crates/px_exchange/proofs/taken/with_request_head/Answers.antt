use Rattle.std.proofs.Common.{refl}
use Rattle.px_message.proofs.RequestLemmas.{request_eq}
use Rattle.px_exchange.specs.Replies.{with_request_head}
use Rattle.px_exchange.proofs.taken.with_request_head.Goals as goal

pub returns : goal.returns
returns c = request_eq _ (with_request_head c.args.asked.now c.args.given) refl refl refl refl refl refl c.in_ok-taken.ensures c.in_ok-taken-2.ensures refl
