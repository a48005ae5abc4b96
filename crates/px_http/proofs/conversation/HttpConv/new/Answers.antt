use Rattle.std.proofs.Common.{ap}
use Rattle.px_chain.specs.Stages.{At}
use Rattle.px_http.proofs.CallLemmas.{made_first}
use Rattle.px_http.proofs.conversation.HttpConv.new.Goals as goal

pub new-requires : goal.new-requires
new-requires c = record { few = c.requires.few; side = c.requires.side }

pub returns-clause-stands : goal.returns-clause-stands
returns-clause-stands c =
    made_first (record { stream = c.in_ok-new.field-0 }) _ _ (ap (λ (a : At). a.flow) c.in_ok-new.ensures.at) (ap (λ (a : At). a.dials) c.in_ok-new.ensures.at) c.requires.dials c.in_ok-new.ensures.new c.in_ok-new.ensures.stands
