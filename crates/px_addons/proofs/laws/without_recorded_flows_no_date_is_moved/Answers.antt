use Rattle.px_addons.proofs.RefreshLemmas.{answers_same}
use Rattle.px_addons.proofs.laws.without_recorded_flows_no_date_is_moved.Goals as goal

pub returns : goal.returns
returns g c hook flow rules new_rules files new_files old new answer refresh none given =
    answers_same _ _ _ refresh hook flow rules new_rules old new files new_files answer none given
