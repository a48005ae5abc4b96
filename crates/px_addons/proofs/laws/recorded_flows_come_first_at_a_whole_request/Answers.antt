use Rattle.px_addons.proofs.ReplayLemmas.{found_answers, stays_elsewhere}
use Rattle.px_addons.proofs.laws.recorded_flows_come_first_at_a_whole_request.Goals as goal

pub returns-clause-found : goal.returns-clause-found
returns-clause-found g c flow rules new_rules files new_files old new recorded place answer has found given =
    let all = found_answers _ _ _ flow rules new_rules old new files new_files recorded place answer has found given in
    (all.0.0, all.0.1, all.0.2, all.1, all.2, all.3)

pub returns-clause-elsewhere : goal.returns-clause-elsewhere
returns-clause-elsewhere g c hook flow rules new_rules files new_files old new answer other given =
    stays_elsewhere _ _ _ hook flow rules new_rules old new files new_files answer other given
