use Rattle.px_refresh.proofs.LawLemmas.{jar_of_all}
use Rattle.px_refresh.proofs.laws.kept_cookies_are_those_of_all_responses.Goals as goal

pub returns : goal.returns
returns c flows = jar_of_all flows
