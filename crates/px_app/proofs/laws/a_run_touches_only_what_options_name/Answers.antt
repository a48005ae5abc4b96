use Rattle.std.proofs.Common.{refl}
use Rattle.px_addons.specs.Chain.{movers_of}
use Rattle.px_addons.proofs.RunLemmas.{keeps_reads}
use Rattle.px_app.specs.Dues.{run_due}
use Rattle.px_app.proofs.ChangeLemmas.{rules_stay}
use Rattle.px_app.proofs.TouchedLemmas.{reads_leaving, touches_leaving}
use Rattle.px_app.proofs.laws.a_run_touches_only_what_options_name.Goals as goal

pub returns-clause-touches : goal.returns-clause-touches
returns-clause-touches g c = λ mode key resent files last to intercept changes operations placed made reached status over told trace promised saved.
    touches_leaving _ _ _ _ (keeps_reads _ _ _ (λ chain. chain.rules) (λ chain. movers_of chain.replay chain.cookies chain.auth chain.addons.items) c.args.chain.now.rules) to (run_due mode key resent) _ changes operations
    reached placed made _ last trace refl
    (rules_stay _ (λ chain. chain.rules) (λ chain. movers_of chain.replay chain.cookies chain.auth chain.addons.items) _ _ (run_due mode key resent) _ told trace _ c.args.chain.now.rules promised.worked) saved promised.leaves

pub returns-clause-unsaved : goal.returns-clause-unsaved
returns-clause-unsaved g c = λ mode key resent files last intercept changes operations placed made reached status over told trace promised saved.
    reads_leaving _ _ _ _ (keeps_reads _ _ _ (λ chain. chain.rules) (λ chain. movers_of chain.replay chain.cookies chain.auth chain.addons.items) c.args.chain.now.rules) (run_due mode key resent) _ changes operations
    reached placed made _ last trace refl
    (rules_stay _ (λ chain. chain.rules) (λ chain. movers_of chain.replay chain.cookies chain.auth chain.addons.items) _ _ (run_due mode key resent) _ told trace _ c.args.chain.now.rules promised.worked) saved promised.leaves
