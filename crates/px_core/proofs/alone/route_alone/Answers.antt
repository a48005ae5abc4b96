use Rattle.std.proofs.Common.{None, [], ◌∷◌, ◌++◌, ap, ◌∙◌}
use Rattle.px_event.specs.declared.step.Step.TheVariants as steps
use Rattle.px_core.proofs.AnswerLemmas.{after_none}
use Rattle.px_core.proofs.BegunRunLemmas.{admitted_alone, admitted_begun, begun_tellable}
use Rattle.px_core.proofs.alone.route_alone.Goals as goal

pub returns-clause-stands : goal.returns-clause-stands
returns-clause-stands g c = λ due course trace owes stands now.
    admitted_alone g.C.Conversation.stands g.C.Conversation.awaited g.C.Conversation.number g.C.Owes.due g.A.Answerer.answers c.args.conv c.args.moment c.in_ok-conversation.conversation _ _ _ _
    (c.in_ok-push.ensures.items ∙ ap (λ l. l ++ steps.Begun c.args.conv ∷ []) c.new-steps.ensures.items)
    c.in_ok-admit.ensures.admits due course trace now (λ moves. c.in_ok-conversation.ensures.due moves ∙ owes c.args.conv None moves) stands

pub returns-clause-begun : goal.returns-clause-begun
returns-clause-begun g c =
    admitted_begun g.C.Conversation.stands g.C.Conversation.awaited g.C.Conversation.number g.C.Owes.due g.A.Answerer.answers c.args.conv c.args.moment c.in_ok-conversation.conversation _ _ _ _
    (c.in_ok-push.ensures.items ∙ ap (λ l. l ++ steps.Begun c.args.conv ∷ []) c.new-steps.ensures.items)
    c.in_ok-admit.ensures.admits

pub returns-clause-tellable : goal.returns-clause-tellable
returns-clause-tellable g c =
    begun_tellable c.args.conv _
    (admitted_begun g.C.Conversation.stands g.C.Conversation.awaited g.C.Conversation.number g.C.Owes.due g.A.Answerer.answers c.args.conv c.args.moment c.in_ok-conversation.conversation _ _ _ _
    (c.in_ok-push.ensures.items ∙ ap (λ l. l ++ steps.Begun c.args.conv ∷ []) c.new-steps.ensures.items)
    c.in_ok-admit.ensures.admits)

pub returns-in_err-push-clause-files : goal.returns-in_err-push-clause-files
returns-in_err-push-clause-files g c = after_none _

pub returns-in_err-conversation-clause-files : goal.returns-in_err-conversation-clause-files
returns-in_err-conversation-clause-files g c = after_none _
