use Rattle.std.proofs.Common.{sym, refl, None}
use Rattle.std.proofs.lemmas.Result.{on_ok_weaker}
use Rattle.px_core.proofs.RouteLemmas.{unplaced, admits_added, admits_ended}
use Rattle.px_core.proofs.NextLemmas.{ended_stays}
use Rattle.px_core.proofs.LiveLemmas.{updated, same_live}
use Rattle.px_core.proofs.ResultLemmas.{on_ok_of}
use Rattle.px_core.proofs.router.Router.begin.Goals as goal

pub returns-then-ended-clause-admits : goal.returns-then-ended-clause-admits
returns-then-ended-clause-admits g c = on_ok_weaker c.note_end.result
    (λ noted. admits_ended g.C.Conversation.stands g.C.Conversation.awaited g.C.Conversation.number g.C.Owes.due g.met.C.Owes.gave g.C.Owes.grows g.A.Answerer.answers g.C.Conversation.ended (ended_stays g.C.Conversation.stands g.C.Owes.due g.C.Conversation.ended g.C.Owes.is_over g.met.C.Owes.ends g.C.Owes.over) g.met.C.Owes.rests c.args.call.conv c.args.call.moment c.args.conversation c.args.self.now.table _
    (record { conversation = c.args.conversation; connected = c.new.result; draft = None; marks = c.new-2.result }) c.hand.new.self _ _ _ c.requires.unknown refl c.new.ensures.empty refl c.new-2.ensures.empty c.requires.free c.requires.stands
    c.in_ok-hand.ensures.takes c.note_end.ensures.flows (sym c.if-ended.ensures) c.note_end.ensures.live (record { here = noted.here; others = noted.others })) c.note_end.ensures.places

pub returns-in_ok-add-clause-admits : goal.returns-in_ok-add-clause-admits
returns-in_ok-add-clause-admits g c =
    admits_added g.C.Conversation.stands g.C.Conversation.awaited g.C.Conversation.number g.C.Owes.due g.met.C.Owes.gave g.C.Owes.grows g.A.Answerer.answers g.C.Conversation.ended (ended_stays g.C.Conversation.stands g.C.Owes.due g.C.Conversation.ended g.C.Owes.is_over g.met.C.Owes.ends g.C.Owes.over) g.met.C.Owes.rests c.args.call.conv c.args.call.moment _ c.args.conversation c.args.self.now.table _
    (record { conversation = c.args.conversation; connected = c.new.result; draft = None; marks = c.new-2.result }) c.hand.new.self _ _ _ c.requires.sound c.requires.unknown refl c.new.ensures.empty refl c.new-2.ensures.empty c.requires.free c.requires.stands
    c.in_ok-hand.ensures.takes c.in_ok-add.ensures.flows c.in_ok-add.ensures.live c.in_ok-add.ensures.vacant
    (record { here = c.in_ok-add.ensures.places.here; others = c.in_ok-add.ensures.places.others })

pub returns-then-ended-clause-goes_on : goal.returns-then-ended-clause-goes_on
returns-then-ended-clause-goes_on g c = λ all. on_ok_weaker c.note_end.result
    (λ noted. same_live g.C.Conversation.ended c.args.self.now.table c.note_end.new.self c.note_end.ensures.live all) c.note_end.ensures.places

pub returns-in_ok-add-clause-goes_on : goal.returns-in_ok-add-clause-goes_on
returns-in_ok-add-clause-goes_on g c = λ all.
    updated g.C.Conversation.ended c.args.self.now.table c.add.new.self _ c.hand.new.self c.in_ok-add.ensures.live (sym c.if-ended.ensures) all

pub returns-then-ended-clause-given : goal.returns-then-ended-clause-given
returns-then-ended-clause-given g c = on_ok_of c.note_end.result c.in_ok-hand.ensures.given

pub add-requires : goal.add-requires
add-requires g c = record { unknown = unplaced _ c.requires.unknown }
