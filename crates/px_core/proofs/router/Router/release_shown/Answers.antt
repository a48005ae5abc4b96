use Rattle.std.proofs.Common.{refl}
use Rattle.px_core.proofs.AnswerLemmas.{after_none}
use Rattle.px_core.proofs.OperateLemmas.{awaits_for, none_refused, not_waiting}
use Rattle.px_core.proofs.router.Router.release_shown.Goals as goal

pub release_out-requires-clause-flow : goal.release_out-requires-clause-flow
release_out-requires-clause-flow g c = (c.args.id, c.requires.flow, refl)

pub release_out-requires-clause-waits : goal.release_out-requires-clause-waits
release_out-requires-clause-waits g c =
    awaits_for g.C.Conversation.stands g.C.Conversation.awaited g.C.Conversation.number g.C.Owes.due g.met.C.Owes.gave g.C.Owes.grows g.A.Answerer.answers c.args.self.now.table c.args.id c.in-Some.key c.args.operation.now c.requires.flow c.requires.sound c.in-Some.ensures.key.0 c.in-Some.ensures.key.1

pub returns-in-Ok-clause-done : goal.returns-in-Ok-clause-done
returns-in-Ok-clause-done g c = λ due course trace stands.
    none_refused g.C.Conversation.stands g.C.Conversation.awaited g.C.Conversation.number g.C.Owes.due g.met.C.Owes.gave g.C.Owes.grows g.A.Answerer.answers due c.args.self.now.table trace c.args.id stands c.requires.shows c.in-Some.ensures.key.1

pub returns-in-None-clause-refused : goal.returns-in-None-clause-refused
returns-in-None-clause-refused g c = λ due course trace stands other.
    not_waiting g.C.Conversation.stands g.C.Conversation.awaited g.C.Conversation.number g.C.Owes.due g.met.C.Owes.gave g.C.Owes.grows g.A.Answerer.answers due c.args.self.now.table trace c.args.id stands c.requires.shows (c.key_of.ensures.none c.in-None.is)

pub returns-in-None-clause-files : goal.returns-in-None-clause-files
returns-in-None-clause-files g c = after_none _
