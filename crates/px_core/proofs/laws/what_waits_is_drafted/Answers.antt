use Rattle.px_core.proofs.StandsLemmas.{rests_by}
use Rattle.px_core.proofs.laws.what_waits_is_drafted.Goals as goal

pub returns : goal.returns
returns g c = record {
  rests = λ due course files trace stands.
      rests_by g.C.Conversation.stands g.C.Conversation.awaited g.C.Conversation.number g.C.Owes.due g.A.Answerer.answers due c.args.router.now.table trace stands;
}
