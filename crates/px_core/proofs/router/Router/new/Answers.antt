use Rattle.std.proofs.Common.{[], None}
use Rattle.px_core.specs.Answers.{FilesMeaning}
use Rattle.px_core.proofs.LiveLemmas.{none_held}
use Rattle.px_core.proofs.RouteLemmas.{new_stands}
use Rattle.px_core.proofs.router.Router.new.Goals as goal

pub returns-clause-stands : goal.returns-clause-stands
returns-clause-stands g c = λ due files.
    new_stands g.C.Conversation.stands g.C.Conversation.awaited g.C.Conversation.number g.C.Owes.due g.A.Answerer.answers due _ _ c.new.ensures.empty c.new.ensures.flows

pub returns-clause-sound : goal.returns-clause-sound
returns-clause-sound g c = λ fresh.
    let files : FilesMeaning = record { contents = None; calls = None; misses = 0; faults = 0; losses = 0 } in
    ((λ conv peer moves. []), _, _, [], returns-clause-stands g c (λ conv peer moves. []) files)

pub returns-clause-goes_on : goal.returns-clause-goes_on
returns-clause-goes_on g c = none_held g.C.Conversation.ended c.new.result c.new.ensures.vacant
