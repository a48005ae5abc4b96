use Rattle.std.proofs.Common.{◌≡◌, Some, sym, ◌∙◌, ap, true, false, is_some}
use Rattle.px_core.proofs.ResultLemmas.{on_ok_both}
use Rattle.px_core.specs.Router.{found_by}
use Rattle.px_core.proofs.RouteLemmas.{at_key, hands_live, hands_ended, over_hands, unknown_hands}
use Rattle.px_core.proofs.NextLemmas.{ended_stays}
use Rattle.px_core.proofs.AnswerLemmas.{after_none}
use Rattle.px_core.specs.Answers.{by_none}
use Rattle.std.proofs.lemmas.Result.{on_ok_weaker}
use Rattle.px_core.proofs.LiveLemmas.{updated, removed}
use Rattle.px_core.proofs.router.Router.hand.Goals as goal

pub hear_at-requires-clause-held : goal.hear_at-requires-clause-held
hear_at-requires-clause-held g c =
    at_key g.C.Conversation.stands g.C.Conversation.awaited g.C.Conversation.number g.C.Owes.due g.met.C.Owes.gave g.C.Owes.grows g.A.Answerer.answers c.requires.sound.0 c.args.self.now.table c.requires.sound.3 c.args.call.conv c.in-Some-Live.key c.requires.sound.4 (sym c.place.ensures.place ∙ (c.in-Some-Live.is) ∙ ap Some c.in-Some-Live.field-0-is)

pub returns-then-over-clause-hands : goal.returns-then-over-clause-hands
returns-then-over-clause-hands g c = on_ok_both c.end.result
    (λ removed noted. hands_ended g.C.Conversation.stands g.C.Conversation.awaited g.C.Conversation.number g.C.Owes.due g.met.C.Owes.gave g.C.Owes.grows g.A.Answerer.answers g.C.Conversation.ended (ended_stays g.C.Conversation.stands g.C.Owes.due g.C.Conversation.ended g.C.Owes.is_over g.met.C.Owes.ends g.C.Owes.over) g.met.C.Owes.rests
    c.args.call.conv c.args.call.moment c.in-Some-Live.key c.args.news c.args.self.now.table c.hear_at.new.self.table _ _ _ _ c.requires.sound (sym c.place.ensures.place ∙ (c.in-Some-Live.is) ∙ ap Some c.in-Some-Live.field-0-is)
    c.in_ok-over-in-Some-Live.ensures.hears c.if-over.true removed c.end.ensures.flows noted) c.end.ensures.live c.end.ensures.places

pub returns-else-over-clause-hands : goal.returns-else-over-clause-hands
returns-else-over-clause-hands g c =
    hands_live g.C.Conversation.stands g.C.Conversation.awaited g.C.Conversation.number g.C.Owes.due g.met.C.Owes.gave g.C.Owes.grows g.A.Answerer.answers g.C.Conversation.ended (ended_stays g.C.Conversation.stands g.C.Owes.due g.C.Conversation.ended g.C.Owes.is_over g.met.C.Owes.ends g.C.Owes.over) g.met.C.Owes.rests
    c.args.call.conv c.args.call.moment c.in-Some-Live.key c.args.news c.args.self.now.table _ _ _ _ c.requires.sound (sym c.place.ensures.place ∙ (c.in-Some-Live.is) ∙ ap Some c.in-Some-Live.field-0-is) c.in_ok-over-in-Some-Live.ensures.hears

pub returns-in-Some-Ended-clause-hands : goal.returns-in-Some-Ended-clause-hands
returns-in-Some-Ended-clause-hands g c =
    over_hands g.C.Conversation.stands g.C.Conversation.awaited g.C.Conversation.number g.C.Owes.due g.met.C.Owes.gave g.C.Owes.grows g.A.Answerer.answers c.args.call.conv c.args.call.moment c.args.news c.args.self.now.table _ (ap (found_by c.args.self.now.table.live) (sym c.place.ensures.place ∙ c.in-Some-Ended.is ∙ ap Some c.in-Some-Ended.field-0-is))

pub returns-in-None-clause-hands : goal.returns-in-None-clause-hands
returns-in-None-clause-hands g c =
    unknown_hands g.C.Conversation.stands g.C.Conversation.awaited g.C.Conversation.number g.C.Owes.due g.met.C.Owes.gave g.C.Owes.grows g.A.Answerer.answers c.args.call.conv c.args.call.moment c.args.news c.args.self.now.table _ (ap (found_by c.args.self.now.table.live) (sym c.place.ensures.place ∙ c.in-None.is))
    (λ peer begun. let no : false ≡ true = ap is_some (sym (sym c.place.ensures.place ∙ c.in-None.is)) ∙ c.requires.begins peer begun in cc)

pub returns-in-Some-Ended-clause-files : goal.returns-in-Some-Ended-clause-files
returns-in-Some-Ended-clause-files g c = after_none _

pub returns-in-Some-Ended-clause-given : goal.returns-in-Some-Ended-clause-given
returns-in-Some-Ended-clause-given g c = by_none _

pub returns-in-None-clause-files : goal.returns-in-None-clause-files
returns-in-None-clause-files g c = after_none _

pub returns-in-None-clause-given : goal.returns-in-None-clause-given
returns-in-None-clause-given g c = by_none _

pub returns-then-over-clause-goes_on : goal.returns-then-over-clause-goes_on
returns-then-over-clause-goes_on g c = λ all. on_ok_weaker c.end.result
    (λ gone. removed g.C.Conversation.ended c.args.self.now.table c.hear_at.new.self.table c.end.new.self c.in-Some-Live.key _ c.in_ok-over-in-Some-Live.ensures.hears.live_now gone all) c.end.ensures.live

pub returns-else-over-clause-goes_on : goal.returns-else-over-clause-goes_on
returns-else-over-clause-goes_on g c = λ all.
    let h = c.in_ok-over-in-Some-Live.ensures.hears in
    updated g.C.Conversation.ended c.args.self.now.table c.hear_at.new.self.table c.in-Some-Live.key h.new_held h.live_now (sym h.ends ∙ c.if-over.false) all
