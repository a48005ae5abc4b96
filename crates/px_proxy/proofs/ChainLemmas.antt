-- No hook is answered by a chain as a dial is.
use Rattle.std.proofs.Common.{◌≡◌, ◌∙◌, ℕ, Bool, true, false, List, Option, refl, ap}
use Rattle.px_message.specs.declared.flow.Flow.{Flow}
use Rattle.px_event.specs.declared.ask.Hook.{Hook}
use Rattle.px_event.specs.declared.reply.Reply.{Reply}
use Rattle.px_core.specs.declared.answerer.Answer.TheVariants as answer
use Rattle.px_core.specs.declared.answerer.Draft.{Draft}
use Rattle.px_core.specs.declared.answerer.Verdict.{Verdict}
use Rattle.px_core.specs.declared.answerer.Verdict.TheVariants as verdicts
use Rattle.px_core.specs.Answers.{FilesMeaning}
use Rattle.px_core.specs.Drafts.{reply_by, reply_of}
use Rattle.px_addons.specs.Chain.{ChainAnswers, Movers, answer_if, intercept_of, waits}
use Rattle.px_addons.specs.Moving.{Moves}
use Rattle.px_addons.specs.declared.rules.Rules.{Rules}
use Rattle.px_chain.specs.Silent.{connects}

same_reply : (one other : Reply) → answer.Reply one ≡ answer.Reply other → one ≡ other
same_reply one other e = cc

pub no_verdict_connects : (verdict : Verdict) (flow : Flow) (stream : Option ℕ) → connects (reply_by verdict flow stream) ≡ 0
no_verdict_connects verdicts.Go flow stream = refl
no_verdict_connects (verdicts.Respond response) flow stream = refl
no_verdict_connects verdicts.Kill flow stream = refl
no_verdict_connects verdicts.Discard flow stream = refl

-- a reply of a chain is that of its draft, where it does not wait
reply_connects_none : (reply : Reply) (draft : Draft) (waiting : Bool) → answer.Reply reply ≡ answer_if waiting draft → connects reply ≡ 0
reply_connects_none reply draft true is = let wrong : answer.Reply reply ≡ answer.Wait draft = is in absurd (cc)
reply_connects_none reply draft false is = ap connects (same_reply reply (reply_of draft) is) ∙ no_verdict_connects draft.verdict draft.flow draft.stream

pub chain_connects_none : {B : Type 0} (title state : B → List ℕ) (moves : B → Moves) (hook : Hook) (flow : Flow) (old_rules : Rules) (old : Movers B) (old_files : FilesMeaning)
    (new_rules : Rules) (new : Movers B) (new_files : FilesMeaning) (reply : Reply) →
    ChainAnswers title state moves hook flow old_rules old old_files new_rules new new_files (answer.Reply reply) → connects reply ≡ 0
chain_connects_none title state moves hook flow old_rules old old_files new_rules new new_files reply is =
    reply_connects_none reply is.end (waits (intercept_of old_rules) hook is.end) is.answered
