-- What becomes of a draft: the reply that it is, and what an operator makes of one that waits.
use Rattle.std.specs.Prelude.{◌≡◌, ◌⊎◌, ℕ, List, Option, Some, None}
use Rattle.px_message.specs.declared.flow.Flow.{Flow}
use Rattle.px_message.specs.declared.flow.FlowId.{FlowId}
use Rattle.px_event.specs.declared.ask.Hook.{Hook}
use Rattle.px_event.specs.declared.reply.Reply.{Reply}
use Rattle.px_event.specs.declared.reply.Reply.TheVariants as replies
use Rattle.px_core.specs.declared.answerer.Answer.{Answer}
use Rattle.px_core.specs.declared.answerer.Answer.TheVariants as answer
use Rattle.px_core.specs.declared.answerer.Draft.{Draft}
use Rattle.px_core.specs.declared.answerer.Verdict.{Verdict}
use Rattle.px_core.specs.declared.answerer.Verdict.TheVariants as verdicts
use Rattle.px_core.specs.declared.operation.Operation.{Operation}
use Rattle.px_core.specs.declared.operation.Operation.TheVariants as operations
use Rattle.px_draft.specs.declared.edit.Edit.{Edit}
use Rattle.px_draft.specs.declared.edited.Edited.{Edited}
use Rattle.px_draft.specs.Edits.{changed_by, flow_of, fresh}

-- the reply of a verdict, about a flow of which so much may be streamed
abbrev pub reply_by : Verdict → Flow → Option ℕ → Reply
reply_by verdicts.Go flow stream = replies.Go flow stream
reply_by (verdicts.Respond response) flow stream = replies.Respond response
reply_by verdicts.Kill flow stream = replies.Kill
reply_by verdicts.Discard flow stream = replies.Discard

-- the reply that a draft is
abbrev pub reply_of : Draft → Reply
reply_of draft = reply_by draft.verdict draft.flow draft.stream

-- what lines have made of a draft that waits at a hook: before the first one, its flow as it is
abbrev pub edited_at : Hook → Draft → Option Edited → Edited
edited_at hook draft None = fresh hook draft.flow
edited_at hook draft (Some edited) = edited

-- the draft with the flow that lines made, where they made one
abbrev pub with_edits : Option Edited → Draft → Draft
with_edits None draft = draft
with_edits (Some edited) draft = record draft { flow = flow_of edited }

-- the draft with its flow as these changes make it, one behind the other
abbrev pub edited_by : Hook → List Edit → Draft → Draft
edited_by hook changes draft = record draft { flow = flow_of (changed_by changes (fresh hook draft.flow)) }

-- the flow whose hook the operation answers
abbrev pub answers_for : Operation → Option FlowId
answers_for (operations.Resume id) = Some id
answers_for (operations.Kill id) = Some id
answers_for _ = None

-- With what it answers a hook that waits with this draft: the flow ends where it is killed, and else goes on as the draft has it.
abbrev pub released_by : Operation → Draft → Reply
released_by (operations.Kill id) draft = replies.Kill
released_by _ draft = reply_of draft

-- An answer to a hook comes to this reply: it is the reply; or it let the hook wait with a draft, which an operator let go on, as changes left it, or killed.
abbrev pub ComesTo : Hook → Answer → Reply → Type 0
ComesTo hook (answer.Reply given) reply = given ≡ reply
ComesTo hook (answer.Wait draft) reply = ((changes : List Edit) × (reply ≡ reply_of (edited_by hook changes draft))) ⊎ (reply ≡ replies.Kill)
