use Rattle.std.proofs.Common.{refl}
use Rattle.px_message.proofs.RequestLemmas.{request_eq}
use Rattle.px_message.proofs.request.RequestClone.clone.Goals as goal

pub returns : goal.returns
returns c = record {
  cases =
      request_eq _ _ c.in_ok-clone.ensures.cases c.in_ok-clone-2.ensures.cases refl c.in_ok-clone-3.ensures.cases refl
      c.in_ok-clone-4.ensures.cases c.in_ok-clone-5.ensures.cases c.in_ok-clone-6.ensures.cases refl;
}
