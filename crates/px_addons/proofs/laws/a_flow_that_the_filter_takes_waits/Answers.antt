use Rattle.std.proofs.Common.{◌∙◌}
use Rattle.px_addons.proofs.WaitLemmas.{taken_waits, waits_only}
use Rattle.px_addons.proofs.laws.a_flow_that_the_filter_takes_waits.Goals as goal

pub returns-clause-waits : goal.returns-clause-waits
returns-clause-waits g c hook flow rules new_rules files new_files old new answer filter given may go is taken =
    given.answered ∙ taken_waits rules hook given.end filter may go is taken

pub returns-clause-only : goal.returns-clause-only
returns-clause-only g c hook flow rules new_rules files new_files old new answer draft given is =
    waits_only rules hook given.end draft answer given.answered is
