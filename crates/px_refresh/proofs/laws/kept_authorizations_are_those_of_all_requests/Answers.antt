use Rattle.px_refresh.proofs.LawLemmas.{shown_of_all}
use Rattle.px_refresh.proofs.laws.kept_authorizations_are_those_of_all_requests.Goals as goal

pub returns : goal.returns
returns c flows = shown_of_all flows
