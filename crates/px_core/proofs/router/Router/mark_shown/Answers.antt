use Rattle.std.proofs.Common.{Some, sym, ◌∙◌, ap, true, is_some}
use Rattle.px_core.specs.Router.{found_by, refusal_at}
use Rattle.px_core.proofs.ResultLemmas.{on_ok_map, on_ok_of}
use Rattle.px_core.proofs.LiveLemmas.{updated}
use Rattle.px_core.proofs.NextLemmas.{ended_stays}
use Rattle.px_core.proofs.OperateLemmas.{at_held, operates_marked, operates_unkept, table_live, unknown_not_live}
use Rattle.px_core.proofs.router.Router.mark_shown.Goals as goal

pub mark_at-requires : goal.mark_at-requires
mark_at-requires g c = record {
  held =
      ap is_some (at_held g.C.Conversation.stands g.C.Conversation.awaited g.C.Conversation.number g.C.Owes.due g.met.C.Owes.gave g.C.Owes.grows g.A.Answerer.answers c.requires.sound.0 c.args.self.now.table c.requires.sound.3 c.args.id.conv c.in-Some-Live.key c.requires.sound.4 (sym c.place.ensures.place ∙ (c.in-Some-Live.is ∙ ap Some c.in-Some-Live.field-0-is))).1;
}

pub returns-in-Some-Live-clause-operates : goal.returns-in-Some-Live-clause-operates
returns-in-Some-Live-clause-operates g c = λ moment at out.
    let live = sym c.place.ensures.place ∙ (c.in-Some-Live.is ∙ ap Some c.in-Some-Live.field-0-is) in
    let k = at_held g.C.Conversation.stands g.C.Conversation.awaited g.C.Conversation.number g.C.Owes.due g.met.C.Owes.gave g.C.Owes.grows g.A.Answerer.answers c.requires.sound.0 c.args.self.now.table c.requires.sound.3 c.args.id.conv c.in-Some-Live.key c.requires.sound.4 live in
    on_ok_map c.mark_at.result
    (λ m. operates_marked g.C.Conversation.stands g.C.Conversation.awaited g.C.Conversation.number g.C.Owes.due g.met.C.Owes.gave g.C.Owes.grows g.A.Answerer.answers g.C.Conversation.ended (ended_stays g.C.Conversation.stands g.C.Owes.due g.C.Conversation.ended g.C.Owes.is_over g.met.C.Owes.ends g.C.Owes.over) g.met.C.Owes.rests
    moment c.in-Some-Live.key c.args.id c.args.self.now.table c.mark_at.new.self.table k.0 m.new_held out c.requires.sound live k.1 m.live_now m.places m.flows m.conversation m.connected m.draft m.marks)
    (c.mark_at.ensures.marks k.0 k.1)

pub returns-in-Some-Live-clause-done : goal.returns-in-Some-Live-clause-done
returns-in-Some-Live-clause-done g c = λ due course files trace stands.
    on_ok_of c.mark_at.result (sym (table_live g.C.Conversation.stands g.C.Conversation.awaited g.C.Conversation.number g.C.Owes.due g.met.C.Owes.gave g.C.Owes.grows g.A.Answerer.answers due c.args.self.now.table trace stands c.args.id.conv c.args.id.index) ∙ c.requires.shows)

pub returns-in-Some-Live-clause-goes_on : goal.returns-in-Some-Live-clause-goes_on
returns-in-Some-Live-clause-goes_on g c = λ all.
    let live = sym c.place.ensures.place ∙ (c.in-Some-Live.is ∙ ap Some c.in-Some-Live.field-0-is) in
    let k = at_held g.C.Conversation.stands g.C.Conversation.awaited g.C.Conversation.number g.C.Owes.due g.met.C.Owes.gave g.C.Owes.grows g.A.Answerer.answers c.requires.sound.0 c.args.self.now.table c.requires.sound.3 c.args.id.conv c.in-Some-Live.key c.requires.sound.4 live in
    on_ok_map c.mark_at.result
    (λ m. updated g.C.Conversation.ended c.args.self.now.table c.mark_at.new.self.table c.in-Some-Live.key m.new_held m.live_now (ap g.C.Conversation.ended m.conversation ∙ all c.in-Some-Live.key k.0 k.1) all)
    (c.mark_at.ensures.marks k.0 k.1)

pub returns-in-Some-Ended-clause-operates : goal.returns-in-Some-Ended-clause-operates
returns-in-Some-Ended-clause-operates g c = λ moment at out.
    operates_unkept g.C.Conversation.stands g.C.Conversation.awaited g.C.Conversation.number g.C.Owes.due g.met.C.Owes.gave g.C.Owes.grows g.A.Answerer.answers moment c.args.id c.args.self.now.table out
    (ap (found_by c.args.self.now.table.live) (sym c.place.ensures.place ∙ c.in-Some-Ended.is ∙ ap Some c.in-Some-Ended.field-0-is))

pub returns-in-Some-Ended-clause-done : goal.returns-in-Some-Ended-clause-done
returns-in-Some-Ended-clause-done g c = λ due course files trace stands.
    sym (table_live g.C.Conversation.stands g.C.Conversation.awaited g.C.Conversation.number g.C.Owes.due g.met.C.Owes.gave g.C.Owes.grows g.A.Answerer.answers due c.args.self.now.table trace stands c.args.id.conv c.args.id.index) ∙ c.requires.shows

pub returns-in-None-clause-refused : goal.returns-in-None-clause-refused
returns-in-None-clause-refused g c = λ due course files trace stands other.
    ap (λ b. refusal_at b true) (unknown_not_live g.C.Conversation.stands g.C.Conversation.awaited g.C.Conversation.number g.C.Owes.due g.met.C.Owes.gave g.C.Owes.grows g.A.Answerer.answers due c.args.self.now.table trace c.args.id stands (ap (found_by c.args.self.now.table.live) (sym c.place.ensures.place ∙ c.in-None.is)))
