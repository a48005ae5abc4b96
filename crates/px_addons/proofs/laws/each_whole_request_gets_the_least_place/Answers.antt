use Rattle.px_addons.proofs.ReplayLemmas.{least_places}
use Rattle.px_addons.proofs.laws.each_whole_request_gets_the_least_place.Goals as goal

pub returns : goal.returns
returns g c how reuse extra flows rules first last made has by = least_places _ _ _ how reuse extra flows rules first last made has by
