use Rattle.px_core.proofs.StandsLemmas.{nobody_heard}
use Rattle.px_core.proofs.laws.nobody_hears.Goals as goal

pub returns : goal.returns
returns g c = record {
  stands = λ due course files trace moment what conv told is begins none stands.
      nobody_heard g.C.Conversation.stands g.C.Conversation.awaited g.C.Conversation.number g.C.Owes.due g.A.Answerer.answers due g.met.C.Owes.gave g.C.Owes.grows
      c.args.router.now.table trace moment what conv told is begins none stands;
}
