-- Which answers wait, and which are replies.
use Rattle.std.proofs.Common.{◌≡◌, ◌≢◌, ℕ, Bool, true, false, ◌&&◌, Option, None, Some, refl, sym, ap, ◌∙◌}
use Rattle.px_message.specs.declared.flow.Flow.{Flow}
use Rattle.px_event.specs.declared.ask.Hook.{Hook}
use Rattle.px_event.specs.declared.reply.Reply.{Reply}
use Rattle.px_core.specs.Drafts.{reply_by, reply_of}
use Rattle.px_core.specs.declared.answerer.Answer.{Answer}
use Rattle.px_core.specs.declared.answerer.Answer.TheVariants as answers
use Rattle.px_core.specs.declared.answerer.Draft.{Draft}
use Rattle.px_core.specs.declared.answerer.Verdict.{Verdict}
use Rattle.px_core.specs.declared.answerer.Verdict.TheVariants as verdicts
use Rattle.px_filter.specs.Expression.{Expression}
use Rattle.px_filter.specs.Holds.{holds}
use Rattle.px_replay.specs.Replaying.{Replaying}
use Rattle.px_addons.specs.Chain.{allowed, answer_by, answer_if, intercept_of, is_going, may_wait, waits}
use Rattle.px_addons.specs.QuietLaws.{without_a_filter}
use Rattle.px_addons.specs.declared.rules.Rules.{Rules}

-- ---- what ended the order does not wait

ended_by : (may going taken : Bool) → going ≡ false → ((may && going) && taken) ≡ false
ended_by true going taken over = ap (λ g. g && taken) over
ended_by false going taken over = refl

ended : (filter : Option Expression) (hook : Hook) (draft : Draft) → is_going draft.verdict ≡ false → waits filter hook draft ≡ false
ended None hook draft over = refl
ended (Some filter) hook draft over = ended_by (may_wait hook) (is_going draft.verdict) (holds draft.flow filter) over

pub ended_replies : (rules : Rules) (hook : Hook) (draft : Draft) → is_going draft.verdict ≡ false → answer_by rules hook draft ≡ answers.Reply (reply_of draft)
ended_replies rules hook draft over = ap (λ w. answer_if w draft) (ended (intercept_of rules) hook draft over)

-- of what ended the order the reply allows no size, so nothing is taken away of it
over_replies : (verdict : Verdict) (flow : Flow) (size other : Option ℕ) → is_going verdict ≡ false → reply_by verdict flow size ≡ reply_by verdict flow other
over_replies verdicts.Go flow size other over = absurd cc
over_replies (verdicts.Respond response) flow size other over = refl
over_replies verdicts.Kill flow size other over = refl
over_replies verdicts.Discard flow size other over = refl

pub ended_allowed : (rules : Rules) (hook : Hook) (replay : Option Replaying) (draft : Draft) → is_going draft.verdict ≡ false →
    answer_by rules hook (allowed rules replay draft) ≡ answers.Reply (reply_of draft)
ended_allowed rules hook replay draft over =
    ended_replies rules hook (allowed rules replay draft) over
    ∙ ap (λ r. answers.Reply r) (over_replies draft.verdict draft.flow (allowed rules replay draft).stream draft.stream over)

-- ---- what waits, exactly

all_true : (may going taken : Bool) → may ≡ true → going ≡ true → taken ≡ true → ((may && going) && taken) ≡ true
all_true may going taken a b c = rw (a, b, c) refl

pub taken_waits : (rules : Rules) (hook : Hook) (end : Draft) (filter : Expression) → may_wait hook ≡ true → end.verdict ≡ verdicts.Go → intercept_of rules ≡ Some filter →
    holds end.flow filter ≡ true → answer_by rules hook end ≡ answers.Wait end
taken_waits rules hook end filter may go is taken =
    ap (λ f. answer_if (waits f hook end) end) is
    ∙ ap (λ w. answer_if w end) (all_true (may_wait hook) (is_going end.verdict) (holds end.flow filter) may (ap (λ v. is_going v) go) taken)

both : (a b : Bool) → (a && b) ≡ true → (a ≡ true) × (b ≡ true)
both true b is = (refl, is)
both false b is = absurd cc

goes : (verdict : Verdict) → is_going verdict ≡ true → verdict ≡ verdicts.Go
goes verdicts.Go is = refl
goes (verdicts.Respond response) is = absurd cc
goes verdicts.Kill is = absurd cc
goes verdicts.Discard is = absurd cc

-- what lets a draft wait
record LetsWait (filter : Option Expression) (hook : Hook) (draft : Draft) : Type 0 where
  at_hook : may_wait hook ≡ true
  going : draft.verdict ≡ verdicts.Go
  by : Expression
  kept : filter ≡ Some by
  taken : holds draft.flow by ≡ true

lets_wait : (filter : Option Expression) (hook : Hook) (draft : Draft) → waits filter hook draft ≡ true → LetsWait filter hook draft
lets_wait None hook draft is = absurd cc
lets_wait (Some filter) hook draft is =
    let judged = both (may_wait hook && is_going draft.verdict) (holds draft.flow filter) is in
    let there = both (may_wait hook) (is_going draft.verdict) judged.0 in
    record { at_hook = there.0; going = goes draft.verdict there.1; by = filter; kept = refl; taken = judged.1 }

of_a_wait : (w : Bool) (end draft : Draft) → answer_if w end ≡ answers.Wait draft → (draft ≡ end) × (w ≡ true)
of_a_wait true end draft is = (cc, refl)
of_a_wait false end draft is = absurd cc

pub waits_only : (rules : Rules) (hook : Hook) (end draft : Draft) (answer : Answer) → answer ≡ answer_by rules hook end → answer ≡ answers.Wait draft →
    (draft ≡ end) × (may_wait hook ≡ true) × (draft.verdict ≡ verdicts.Go) × (filter : Expression) × (intercept_of rules ≡ Some filter) × (holds draft.flow filter ≡ true)
waits_only rules hook end draft answer by is =
    let so = of_a_wait (waits (intercept_of rules) hook end) end draft (sym by ∙ is) in
    let lets = lets_wait (intercept_of rules) hook end so.1 in
    (so.0, lets.at_hook, ap (λ (d : Draft). d.verdict) so.0 ∙ lets.going, lets.by, lets.kept, ap (λ (d : Draft). holds d.flow lets.by) so.0 ∙ lets.taken)

pub nothing_waits : (rules : Rules) (hook : Hook) (end draft : Draft) (answer : Answer) → rules.intercept ≡ None → answer ≡ answer_by rules hook end → answer ≢ answers.Wait draft
nothing_waits rules hook end draft answer none by is =
    let no : answers.Reply (reply_of end) ≡ answers.Wait draft = sym (by ∙ without_a_filter rules hook end none) ∙ is in absurd cc

of_a_reply : (w : Bool) (end : Draft) (reply : Reply) → answers.Reply reply ≡ answer_if w end → reply ≡ reply_of end
of_a_reply true end reply is = absurd cc
of_a_reply false end reply is = cc

-- an answer that does not wait is the reply of the draft
pub replies_of_drafts : (rules : Rules) (hook : Hook) (end : Draft) (reply : Reply) → answers.Reply reply ≡ answer_by rules hook end → reply ≡ reply_of end
replies_of_drafts rules hook end reply is = of_a_reply (waits (intercept_of rules) hook end) end reply is
