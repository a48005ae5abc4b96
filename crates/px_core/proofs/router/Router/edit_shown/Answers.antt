use Rattle.std.proofs.Common.{Some, sym, ◌∙◌, ap, true, is_some}
use Rattle.px_core.proofs.EditLemmas.{edit_judged, edit_not_waiting, edits_done, operates_edited, waits_at}
use Rattle.px_core.proofs.LiveLemmas.{updated}
use Rattle.px_core.proofs.NextLemmas.{ended_stays}
use Rattle.px_core.proofs.OperateLemmas.{if_err_map}
use Rattle.px_core.proofs.ResultLemmas.{on_ok_map, same_some}
use Rattle.px_core.proofs.router.Router.edit_shown.Goals as goal

pub edit_at-requires-clause-held : goal.edit_at-requires-clause-held
edit_at-requires-clause-held g c =
    let k = waits_at g.C.Conversation.stands g.C.Conversation.awaited g.C.Conversation.number g.C.Owes.due g.met.C.Owes.gave g.C.Owes.grows g.A.Answerer.answers c.args.self.now.table c.args.id c.in-Some.key c.in-Some-waiting.hook c.requires.sound c.in-Some.ensures.key.0 (sym c.waiting.ensures ∙ c.in-Some-waiting.is) in
    ap is_some k.is

pub edit_at-requires-clause-waits : goal.edit_at-requires-clause-waits
edit_at-requires-clause-waits g c = λ held is.
    let k = waits_at g.C.Conversation.stands g.C.Conversation.awaited g.C.Conversation.number g.C.Owes.due g.met.C.Owes.gave g.C.Owes.grows g.A.Answerer.answers c.args.self.now.table c.args.id c.in-Some.key c.in-Some-waiting.hook c.requires.sound c.in-Some.ensures.key.0 (sym c.waiting.ensures ∙ c.in-Some-waiting.is) in
    ap is_some (ap (λ h. h.draft) (same_some held k.held (sym is ∙ k.is)) ∙ k.is_kept)

pub returns-in-Some-waiting-clause-operates : goal.returns-in-Some-waiting-clause-operates
returns-in-Some-waiting-clause-operates g c = λ moment at out.
    let k = waits_at g.C.Conversation.stands g.C.Conversation.awaited g.C.Conversation.number g.C.Owes.due g.met.C.Owes.gave g.C.Owes.grows g.A.Answerer.answers c.args.self.now.table c.args.id c.in-Some.key c.in-Some-waiting.hook c.requires.sound c.in-Some.ensures.key.0 (sym c.waiting.ensures ∙ c.in-Some-waiting.is) in
    on_ok_map c.edit_at.result
    (λ e. operates_edited g.C.Conversation.stands g.C.Conversation.awaited g.C.Conversation.number g.C.Owes.due g.met.C.Owes.gave g.C.Owes.grows g.A.Answerer.answers g.C.Conversation.ended (ended_stays g.C.Conversation.stands g.C.Owes.due g.C.Conversation.ended g.C.Owes.is_over g.met.C.Owes.ends g.C.Owes.over) g.met.C.Owes.rests
    moment c.in-Some.key c.args.id c.args.change.now c.in-Some-waiting.hook c.args.self.now.table c.edit_at.new.self.table k.held out c.requires.sound c.in-Some.ensures.key.0 k.is k.waits e)
    (c.edit_at.ensures.edits k.held k.is)

pub returns-in-Some-waiting-clause-done : goal.returns-in-Some-waiting-clause-done
returns-in-Some-waiting-clause-done g c = λ due course now names trace stands.
    let k = waits_at g.C.Conversation.stands g.C.Conversation.awaited g.C.Conversation.number g.C.Owes.due g.met.C.Owes.gave g.C.Owes.grows g.A.Answerer.answers c.args.self.now.table c.args.id c.in-Some.key c.in-Some-waiting.hook c.requires.sound c.in-Some.ensures.key.0 (sym c.waiting.ensures ∙ c.in-Some-waiting.is) in
    on_ok_map c.edit_at.result
    (λ e. edit_judged g.C.Conversation.stands g.C.Conversation.awaited g.C.Conversation.number g.C.Owes.due g.met.C.Owes.gave g.C.Owes.grows g.A.Answerer.answers g.C.Conversation.ended (ended_stays g.C.Conversation.stands g.C.Owes.due g.C.Conversation.ended g.C.Owes.is_over g.met.C.Owes.ends g.C.Owes.over) g.met.C.Owes.rests
    due names c.args.self.now.table trace c.in-Some.key c.args.id c.args.change.now c.in-Some-waiting.hook k.held k.kept _ stands c.in-Some.ensures.key.0 k.is c.requires.shows k.waits k.is_kept c.in-Some.ensures.key.1 (edits_done c.in-Some-waiting.hook c.args.change.now k.held k.kept e.new_held k.is_kept e.edits))
    (c.edit_at.ensures.edits k.held k.is)

pub returns-in-Some-waiting-clause-refused : goal.returns-in-Some-waiting-clause-refused
returns-in-Some-waiting-clause-refused g c = λ due course now names trace stands.
    let k = waits_at g.C.Conversation.stands g.C.Conversation.awaited g.C.Conversation.number g.C.Owes.due g.met.C.Owes.gave g.C.Owes.grows g.A.Answerer.answers c.args.self.now.table c.args.id c.in-Some.key c.in-Some-waiting.hook c.requires.sound c.in-Some.ensures.key.0 (sym c.waiting.ensures ∙ c.in-Some-waiting.is) in
    if_err_map c.edit_at.result _ _
    (λ error so other. edit_judged g.C.Conversation.stands g.C.Conversation.awaited g.C.Conversation.number g.C.Owes.due g.met.C.Owes.gave g.C.Owes.grows g.A.Answerer.answers g.C.Conversation.ended (ended_stays g.C.Conversation.stands g.C.Owes.due g.C.Conversation.ended g.C.Owes.is_over g.met.C.Owes.ends g.C.Owes.over) g.met.C.Owes.rests
    due names c.args.self.now.table trace c.in-Some.key c.args.id c.args.change.now c.in-Some-waiting.hook k.held k.kept _ stands c.in-Some.ensures.key.0 k.is c.requires.shows k.waits k.is_kept c.in-Some.ensures.key.1 (so other))
    (c.edit_at.ensures.refused k.held k.kept k.is k.is_kept)

pub returns-in-Some-waiting-clause-goes_on : goal.returns-in-Some-waiting-clause-goes_on
returns-in-Some-waiting-clause-goes_on g c = λ all.
    let k = waits_at g.C.Conversation.stands g.C.Conversation.awaited g.C.Conversation.number g.C.Owes.due g.met.C.Owes.gave g.C.Owes.grows g.A.Answerer.answers c.args.self.now.table c.args.id c.in-Some.key c.in-Some-waiting.hook c.requires.sound c.in-Some.ensures.key.0 (sym c.waiting.ensures ∙ c.in-Some-waiting.is) in
    on_ok_map c.edit_at.result
    (λ e. updated g.C.Conversation.ended c.args.self.now.table c.edit_at.new.self.table c.in-Some.key e.new_held e.live_now (ap (λ h. g.C.Conversation.ended h.conversation) e.edits.now ∙ all c.in-Some.key k.held k.is) all)
    (c.edit_at.ensures.edits k.held k.is)

pub returns-in-None-waiting-clause-refused : goal.returns-in-None-waiting-clause-refused
returns-in-None-waiting-clause-refused g c = λ due course now names trace stands other.
    edit_not_waiting g.C.Conversation.stands g.C.Conversation.awaited g.C.Conversation.number g.C.Owes.due g.met.C.Owes.gave g.C.Owes.grows g.A.Answerer.answers due names c.args.self.now.table trace c.args.id c.args.change.now stands c.requires.shows (sym c.waiting.ensures ∙ c.in-None-waiting.is)

pub returns-in-None-clause-refused : goal.returns-in-None-clause-refused
returns-in-None-clause-refused g c = λ due course now names trace stands other.
    edit_not_waiting g.C.Conversation.stands g.C.Conversation.awaited g.C.Conversation.number g.C.Owes.due g.met.C.Owes.gave g.C.Owes.grows g.A.Answerer.answers due names c.args.self.now.table trace c.args.id c.args.change.now stands c.requires.shows (c.key_of.ensures.none c.in-None.is)
