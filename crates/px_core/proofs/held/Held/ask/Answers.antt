use Rattle.std.proofs.Common.{◌≡◌, Option, Some, None, refl, ap, ◌∙◌}
use Rattle.std.proofs.lemmas.Result.{IfOk-weaker}
use Rattle.px_core.proofs.ResultLemmas.{if_ok_both, on_ok_of}
use Rattle.px_core.proofs.WorkLemmas.{wait_works, reply_works, turns_less}
use Rattle.px_core.proofs.AnswerLemmas.{after_failed, after_given, by_one}
use Rattle.px_core.specs.declared.answerer.Draft.{Draft}
use Rattle.px_core.specs.declared.waiting.Waiting.{Waiting}
use Rattle.px_draft.specs.declared.edited.Edited.{Edited}
use Rattle.px_core.proofs.held.Held.ask.Goals as goal

-- what is new, by its parts
made_of : (w : Waiting) (draft : Draft) (edited : Option Edited) → w.draft ≡ draft → w.edited ≡ edited → Some w ≡ Some (record { draft = draft; edited = edited })
made_of w draft edited of by = ap (λ d. Some (record { draft = d; edited = w.edited })) of ∙ ap (λ e. Some (record { draft = draft; edited = e })) by

pub returns-in-Wait-clause-asks : goal.returns-in-Wait-clause-asks
returns-in-Wait-clause-asks g c =
    wait_works g.C.Conversation.stands g.C.Conversation.awaited g.C.Conversation.number g.C.Owes.due g.met.C.Owes.gave g.A.Answerer.answers
    c.args.call.conv c.args.call.moment c.args.question c.in-Wait.draft c.args.self.now _ _ c.args.steps.now.items _ _ _ c.requires.next _ c.in_ok-draft.ensures.answers c.in-Wait.is refl refl (made_of c.new.result c.in-Wait.draft None c.new.ensures.draft c.new.ensures.edited) refl refl (λ flow hook is. refl)

pub returns-in-Reply-clause-asks : goal.returns-in-Reply-clause-asks
returns-in-Reply-clause-asks g c =
    if_ok_both c.reply.result _ _ (λ now_open named replies.
    reply_works g.C.Conversation.stands g.C.Conversation.awaited g.C.Conversation.number g.C.Owes.due g.met.C.Owes.gave g.A.Answerer.answers
    c.args.call.conv c.args.call.moment c.args.question c.in-Reply.reply c.args.self.now _ _ _ now_open _ _ _ _ c.requires.next named _ c.in_ok-draft.ensures.answers c.in-Reply.is replies)
    c.reply.ensures.number c.reply.ensures.replies

pub returns-in-Reply-clause-left : goal.returns-in-Reply-clause-left
returns-in-Reply-clause-left g c = IfOk-weaker c.reply.result _ _ (λ now_open less. turns_less _ _ now_open less) c.reply.ensures.left

pub returns-in_err-draft-clause-files : goal.returns-in_err-draft-clause-files
returns-in_err-draft-clause-files g c = after_failed _ _ _ _ c.in_err-draft.ensures.fails

pub returns-in-Wait-clause-files : goal.returns-in-Wait-clause-files
returns-in-Wait-clause-files g c = after_given _ _ (by_one _ _ _ _ _ c.in_ok-draft.ensures.answers)

pub returns-in-Wait-clause-given : goal.returns-in-Wait-clause-given
returns-in-Wait-clause-given g c = by_one _ _ _ _ _ c.in_ok-draft.ensures.answers

pub returns-in-Reply-clause-files : goal.returns-in-Reply-clause-files
returns-in-Reply-clause-files g c = after_given _ _ (by_one _ _ _ _ _ c.in_ok-draft.ensures.answers)

pub returns-in-Reply-clause-given : goal.returns-in-Reply-clause-given
returns-in-Reply-clause-given g c = on_ok_of c.reply.result (by_one _ _ _ _ _ c.in_ok-draft.ensures.answers)
