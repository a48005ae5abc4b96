use Rattle.std.proofs.Common.{refl}
use Rattle.px_core.proofs.AnswerLemmas.{kept_after}
use Rattle.px_addons.specs.Chain.{movers_of}
use Rattle.px_addons.specs.QuietLaws.{answers_leave, failures_leave}
use Rattle.px_addons.proofs.RunLemmas.{keeps_files}
use Rattle.px_addons.proofs.laws.a_chain_without_map_local_reads_nothing.Goals as goal

pub returns-clause-given : goal.returns-clause-given
returns-clause-given g c hook flow rules new_rules files new_files old new answer none given =
    answers_leave _ _ _ hook flow rules old files new_rules new new_files answer none given

pub returns-clause-failed : goal.returns-clause-failed
returns-clause-failed g c hook flow rules files new_files old none failed = failures_leave _ _ _ hook flow rules old files new_files none failed

pub returns-clause-run : goal.returns-clause-run
returns-clause-run g c first files none after =
    kept_after _ _ _ _ (keeps_files _ _ _ (λ chain. chain.rules) (λ chain. movers_of chain.replay chain.cookies chain.auth chain.addons.items) first.own.rules none) first files refl after
