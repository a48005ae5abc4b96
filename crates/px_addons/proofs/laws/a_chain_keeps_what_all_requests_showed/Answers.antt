use Rattle.px_refresh.proofs.KeptLemmas.{latest_kept}
use Rattle.px_refresh.proofs.KeyLemmas.{text_decides}
use Rattle.px_refresh.specs.Text.{is_same_text}
use Rattle.px_addons.specs.StickyRuns.{all_shown}
use Rattle.px_addons.proofs.StickyLemmas.{auth_elsewhere, auth_kept, no_auth_kept}
use Rattle.px_addons.proofs.laws.a_chain_keeps_what_all_requests_showed.Goals as goal

pub returns-clause-kept : goal.returns-clause-kept
returns-clause-kept g c rules first last auth made has empty by = auth_kept _ _ _ rules first last auth made has empty by

pub returns-clause-value : goal.returns-clause-value
returns-clause-value g c rules made host = latest_kept is_same_text text_decides host (all_shown rules made)

pub returns-clause-elsewhere : goal.returns-clause-elsewhere
returns-clause-elsewhere g c hook flow rules new_rules files new_files old new answer other given =
    auth_elsewhere _ _ _ hook flow rules new_rules old new files new_files answer other given

pub returns-clause-none : goal.returns-clause-none
returns-clause-none g c rules first last made none by = no_auth_kept _ _ _ rules first last made none by
