use Rattle.std.proofs.Common.{Some, ap, sym, ◌∙◌}
use Rattle.px_core.proofs.RunLemmas.{admitted, admitted_own, peer_is}
use Rattle.px_core.specs.declared.news.News.TheVariants as news
use Rattle.px_core.specs.Calls.{addressed}
use Rattle.px_core.proofs.AnswerLemmas.{after_none}
use Rattle.px_core.proofs.work.begin.Goals as goal

pub returns-clause-stands : goal.returns-clause-stands
returns-clause-stands g c = λ due course trace owes stands.
    admitted g.C.Conversation.stands g.C.Conversation.awaited g.C.Conversation.number g.C.Owes.due g.A.Answerer.answers c.args.conv c.args.moment c.in_ok-conversation.conversation _ _ _ _ c.new-steps.ensures.items
    c.in_ok-admit.ensures.admits due course trace c.args.heard.now c.in-Accepted.peer
    (c.requires.begins.1 ∙ ap (λ at. Some (c.args.conv, news.Begun at)) (peer_is c.in-Accepted.conv c.in-Accepted.door c.in-Accepted.peer c.args.conv c.requires.begins.0 (sym (ap addressed c.in-Accepted.is) ∙ c.requires.begins.1)))
    (λ moves. c.in_ok-conversation.ensures.due moves ∙ owes c.args.conv (Some c.in-Accepted.peer) moves) stands

pub returns-clause-own : goal.returns-clause-own
returns-clause-own g c =
    admitted_own g.C.Conversation.stands g.C.Conversation.awaited g.C.Conversation.number g.C.Owes.due g.A.Answerer.answers c.args.conv c.args.moment c.in_ok-conversation.conversation _ _ _ _ c.new-steps.ensures.items
    c.in_ok-admit.ensures.admits

pub returns-in_err-conversation-clause-files : goal.returns-in_err-conversation-clause-files
returns-in_err-conversation-clause-files g c = after_none _
