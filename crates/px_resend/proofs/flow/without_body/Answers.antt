use Rattle.std.proofs.Common.{refl}
use Rattle.px_message.proofs.RequestLemmas.{request_eq}
use Rattle.px_resend.specs.Chain.{head_of}
use Rattle.px_resend.proofs.flow.without_body.Goals as goal

pub returns : goal.returns
returns c = request_eq _ (head_of c.args.request) refl refl refl refl refl refl c.empty.ensures c.new.ensures refl
