use Rattle.std.proofs.lemmas.Result.{IfOk-weaker}
use Rattle.px_core.proofs.RunLemmas.{routed, routed_tellable, all_tellable, routed_of_heard, routed_keeps, begun_of_heard, begun_keeps_by}
use Rattle.px_core.proofs.work.route.Goals as goal

pub returns-clause-stands : goal.returns-clause-stands
returns-clause-stands g c = λ due course trace owes stands.
    routed g.C.Conversation.stands g.C.Conversation.awaited g.C.Conversation.number g.C.Owes.due g.A.Answerer.answers c.args.moment c.args.heard _ _ _ _ c.new-steps.ensures.items c.in_ok-take.ensures.routes due course trace stands

pub returns-clause-tellable : goal.returns-clause-tellable
returns-clause-tellable g c =
    routed_tellable g.C.Conversation.stands g.C.Conversation.awaited g.C.Conversation.number g.C.Owes.due g.A.Answerer.answers c.args.moment c.args.heard _ _ _ _ c.new-steps.ensures.items c.in_ok-take.ensures.routes

pub returns-in-Some-clause-stands : goal.returns-in-Some-clause-stands
returns-in-Some-clause-stands g c = IfOk-weaker c.begin.result _ _ (λ made all due course trace owes stands. all due course trace owes stands) c.begin.ensures.stands

pub returns-in-Some-clause-tellable : goal.returns-in-Some-clause-tellable
returns-in-Some-clause-tellable g c = IfOk-weaker c.begin.result _ _ (λ made own. all_tellable c.in-Some.conv made.items own) c.begin.ensures.own

pub returns-clause-own : goal.returns-clause-own
returns-clause-own g c =
    routed_of_heard g.C.Conversation.stands g.C.Conversation.awaited g.C.Conversation.number g.C.Owes.due g.A.Answerer.answers c.args.moment c.args.heard _ _ _ _ c.new-steps.ensures.items c.in_ok-take.ensures.routes

pub returns-clause-others : goal.returns-clause-others
returns-clause-others g c =
    routed_keeps g.C.Conversation.stands g.C.Conversation.awaited g.C.Conversation.number g.C.Owes.due g.A.Answerer.answers c.args.moment c.args.heard c.args.router.now _ _ _ c.in_ok-take.ensures.routes

pub returns-in-Some-clause-own : goal.returns-in-Some-clause-own
returns-in-Some-clause-own g c = IfOk-weaker c.begin.result _ _ (λ made own. begun_of_heard c.args.heard c.in-Some.conv c.in-Some.ensures.fresh.0 made.items c.in-Some.ensures.fresh.1 own) c.begin.ensures.own

pub returns-in-Some-clause-others : goal.returns-in-Some-clause-others
returns-in-Some-clause-others g c = begun_keeps_by c.begin.result c.args.heard c.in-Some.conv c.in-Some.ensures.fresh.0 c.args.router.now c.begin.new.router c.in-Some.ensures.fresh.1 c.begin.ensures.others

pub take-requires-clause-begins : goal.take-requires-clause-begins
take-requires-clause-begins g c = c.fresh.ensures.none c.in_default.is
