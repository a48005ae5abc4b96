use Rattle.px_event.proofs.StampLemmas.{restamped, renumbered_owed}
use Rattle.px_event.proofs.alike.only_the_order_of_steps_counts.Goals as goal

pub returns-clause-stamps : goal.returns-clause-stamps
returns-clause-stamps g c = λ chain replies answers last other before s f events taken alike.
    restamped chain replies answers last other before s f events taken alike

pub returns-clause-numbers : goal.returns-clause-numbers
returns-clause-numbers g c = λ number first keeps chain start events replies. renumbered_owed number keeps chain start events replies first
