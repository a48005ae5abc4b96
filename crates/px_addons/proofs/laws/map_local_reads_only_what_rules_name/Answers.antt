use Rattle.std.proofs.Common.{refl}
use Rattle.px_core.proofs.AnswerLemmas.{kept_after}
use Rattle.px_addons.specs.Chain.{movers_of}
use Rattle.px_addons.specs.Parts.{parts}
use Rattle.px_addons.proofs.FilesLemmas.{failed_reads, parts_read}
use Rattle.px_addons.proofs.RunLemmas.{keeps_reads}
use Rattle.px_addons.proofs.laws.map_local_reads_only_what_rules_name.Goals as goal

pub returns-clause-given : goal.returns-clause-given
returns-clause-given g c hook flow rules new_rules files new_files old new answer given =
    parts_read _ _ _ rules hook (parts hook) _ given.left old new files new_files given.moved

pub returns-clause-failed : goal.returns-clause-failed
returns-clause-failed g c hook flow rules files new_files old failed = failed_reads _ _ _ hook flow rules old files new_files failed

pub returns-clause-run : goal.returns-clause-run
returns-clause-run g c first files after =
    kept_after _ _ _ _ (keeps_reads _ _ _ (λ chain. chain.rules) (λ chain. movers_of chain.replay chain.cookies chain.auth chain.addons.items) first.own.rules) first files refl after
