use Rattle.px_addons.specs.Parts.{parts}
use Rattle.px_addons.proofs.SameLemmas.{parts_same, same_titles}
use Rattle.px_addons.proofs.laws.an_answer_keeps_its_addons.Goals as goal

pub returns-clause-same : goal.returns-clause-same
returns-clause-same g c hook flow rules new_rules files new_files old new answer given =
    parts_same _ _ _ rules hook (parts hook) _ given.left old new files new_files given.moved

pub returns-clause-names : goal.returns-clause-names
returns-clause-names g c hook flow rules new_rules files new_files old new answer given =
    same_titles _ _ _ old.addons new.addons (parts_same _ _ _ rules hook (parts hook) _ given.left old new files new_files given.moved)
