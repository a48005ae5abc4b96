use Rattle.px_refresh.proofs.KeptLemmas.{latest_kept}
use Rattle.px_refresh.proofs.KeyLemmas.{cookie_decides}
use Rattle.px_refresh.specs.Site.{is_same_cookie}
use Rattle.px_refresh.proofs.laws.a_cookie_has_the_value_that_it_was_set_to_last.Goals as goal

pub returns : goal.returns
returns c set key = latest_kept is_same_cookie cookie_decides key set
