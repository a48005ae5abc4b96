use Rattle.std.proofs.Common.{refl}
use Rattle.px_addons.specs.Parts.{parts}
use Rattle.px_addons.specs.QuietLaws.{answers_leave, answers_unchanged, stays_quiet}
use Rattle.px_addons.proofs.SameLemmas.{parts_same}
use Rattle.px_addons.proofs.laws.a_chain_that_changes_nothing.Goals as goal

pub returns : goal.returns
returns g c hook flow rules new_rules files new_files new answer none keeps given = (
  answers_unchanged _ _ _ hook flow rules _ files new_rules new new_files answer (record { no_rules = none; quiet = record { unrecorded = refl; no_cookies = refl; no_auth = refl; keep = (keeps, tt) } }) given,
  (stays_quiet _ _ _ hook flow rules _ files new_rules new new_files answer (record { no_rules = none; quiet = record { unrecorded = refl; no_cookies = refl; no_auth = refl; keep = (keeps, tt) } }) given).no_rules,
  (stays_quiet _ _ _ hook flow rules _ files new_rules new new_files answer (record { no_rules = none; quiet = record { unrecorded = refl; no_cookies = refl; no_auth = refl; keep = (keeps, tt) } }) given).quiet.unrecorded,
  (stays_quiet _ _ _ hook flow rules _ files new_rules new new_files answer (record { no_rules = none; quiet = record { unrecorded = refl; no_cookies = refl; no_auth = refl; keep = (keeps, tt) } }) given).quiet.no_cookies,
  (stays_quiet _ _ _ hook flow rules _ files new_rules new new_files answer (record { no_rules = none; quiet = record { unrecorded = refl; no_cookies = refl; no_auth = refl; keep = (keeps, tt) } }) given).quiet.no_auth,
  parts_same _ _ _ rules hook (parts hook) _ given.left _ new files new_files given.moved,
  answers_leave _ _ _ hook flow rules _ files new_rules new new_files answer none.local given,
)
