use Rattle.px_refresh.proofs.KeptLemmas.{keys_kept, latest_kept}
use Rattle.px_refresh.proofs.KeyLemmas.{cookie_decides}
use Rattle.px_refresh.specs.Site.{is_same_cookie}
use Rattle.px_addons.specs.StickyRuns.{cookies_set}
use Rattle.px_addons.proofs.StickyLemmas.{cookies_elsewhere, cookies_kept, no_cookies_kept}
use Rattle.px_addons.proofs.laws.a_chain_keeps_the_cookies_of_all_responses.Goals as goal

pub returns-clause-kept : goal.returns-clause-kept
returns-clause-kept g c rules first last cookies made has empty by = cookies_kept _ _ _ rules first last cookies made has empty by

pub returns-clause-value : goal.returns-clause-value
returns-clause-value g c rules made key = latest_kept is_same_cookie cookie_decides key (cookies_set rules made)

pub returns-clause-order : goal.returns-clause-order
returns-clause-order g c rules made = keys_kept is_same_cookie (cookies_set rules made)

pub returns-clause-elsewhere : goal.returns-clause-elsewhere
returns-clause-elsewhere g c hook flow rules new_rules files new_files old new answer other given =
    cookies_elsewhere _ _ _ hook flow rules new_rules old new files new_files answer other given

pub returns-clause-none : goal.returns-clause-none
returns-clause-none g c rules first last made none by = no_cookies_kept _ _ _ rules first last made none by
