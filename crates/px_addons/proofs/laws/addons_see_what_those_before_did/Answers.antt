use Rattle.px_addons.proofs.SameLemmas.{two_in_turn}
use Rattle.px_addons.proofs.laws.addons_see_what_those_before_did.Goals as goal

pub returns : goal.returns
returns g c = two_in_turn _ _ _
