use Rattle.std.proofs.Common.{ap, sym, ◌∙◌}
use Rattle.px_chain.specs.Keeping.{unspoilt}
use Rattle.px_chain.specs.Stages.{place_of}
use Rattle.px_stream.specs.Turns.{asked_turn}
use Rattle.px_stream.proofs.AskLemmas.{used_asked}
use Rattle.px_stream.proofs.TurnAskedLemmas.{turn_asked}
use Rattle.px_stream.proofs.TurnLemmas.{turned}
use Rattle.px_stream.proofs.laws.answers_lead.Goals as goal

pub returns-clause-turn : goal.returns-clause-turn
returns-clause-turn c made stage seen answer requests side found used is uses =
    turn_asked made side seen answer stage found is.asks is.how is.has_side
    ∙ ap (λ u. asked_turn made (place_of (unspoilt stage seen)) found seen side u seen.closed answer) (sym (used_asked made stage seen found is.asks) ∙ uses)

pub returns-clause-readers : goal.returns-clause-readers
returns-clause-readers c = turned
