use Rattle.px_refresh.proofs.KeptLemmas.{keys_kept}
use Rattle.px_refresh.specs.Site.{is_same_cookie}
use Rattle.px_refresh.proofs.laws.cookies_stand_in_the_order_in_which_they_were_first_set.Goals as goal

pub returns : goal.returns
returns c set = keys_kept is_same_cookie set
