use Rattle.px_addons.proofs.SizeLemmas.{allows_none_recorded, allows_none_waiting, none_over_runs}
use Rattle.px_addons.proofs.laws.nothing_is_streamed_where_flows_are_recorded_or_wait.Goals as goal

pub returns-clause-recorded : goal.returns-clause-recorded
returns-clause-recorded g c hook flow rules new_rules files new_files old new answer some given =
    allows_none_recorded _ _ _ hook flow rules new_rules old new files new_files answer some given

pub returns-clause-waiting : goal.returns-clause-waiting
returns-clause-waiting g c hook flow rules new_rules files new_files old new answer some given =
    allows_none_waiting _ _ _ hook flow rules new_rules old new files new_files answer some given

pub returns-clause-run : goal.returns-clause-run
returns-clause-run g c rules first last made some by = none_over_runs _ _ _ rules first last made some by
