use Rattle.std.proofs.Common.{Some, refl}
use Rattle.px_addons.specs.Chain.{movers_of}
use Rattle.px_addons.proofs.RunLemmas.{keeps_reads}
use Rattle.px_app.specs.Dues.{run_due}
use Rattle.px_app.specs.Over.{finished_in}
use Rattle.px_app.specs.Saved.{saved}
use Rattle.px_app.specs.declared.printing.Printing.TheVariants.{Whole}
use Rattle.px_app.proofs.ChangeLemmas.{rules_stay}
use Rattle.px_app.proofs.GrownLemmas.{grown_in_part, grown_leaving, grown_whole}
use Rattle.px_app.proofs.laws.what_is_saved_stands_behind_what_stood_there.Goals as goal

pub returns-clause-part : goal.returns-clause-part
returns-clause-part g c = λ mode key resent files last to intercept changes operations placed made reached status over told trace promised saved.
    grown_in_part _ _ _ _ (keeps_reads _ _ _ (λ chain. chain.rules) (λ chain. movers_of chain.replay chain.cookies chain.auth chain.addons.items) c.args.chain.now.rules) (λ old new reads. reads.reads.contents) to (run_due mode key resent) _
    changes operations reached placed made _ last trace refl
    (rules_stay _ (λ chain. chain.rules) (λ chain. movers_of chain.replay chain.cookies chain.auth chain.addons.items) _ _ (run_due mode key resent) _ told trace _ c.args.chain.now.rules promised.worked) saved promised.leaves

pub returns-clause-whole : goal.returns-clause-whole
returns-clause-whole g c = λ mode key resent files last to intercept changes operations placed made reached status over told trace promised saved said.
    grown_leaving _ _ _ _ (keeps_reads _ _ _ (λ chain. chain.rules) (λ chain. movers_of chain.replay chain.cookies chain.auth chain.addons.items) c.args.chain.now.rules) (λ old new reads. reads.reads.contents) to (run_due mode key resent) _
    changes operations reached placed made _ last trace refl
    (rules_stay _ (λ chain. chain.rules) (λ chain. movers_of chain.replay chain.cookies chain.auth chain.addons.items) _ _ (run_due mode key resent) _ told trace _ c.args.chain.now.rules promised.worked) saved promised.leaves said

pub returns-clause-all : goal.returns-clause-all
returns-clause-all g c = λ mode key resent files last to intercept changes operations made status over told trace start now promised reaches said.
    grown_whole to (saved (Some to) (finished_in trace)) made files.contents last.contents reaches.came.1
    (grown_leaving _ _ _ _ (keeps_reads _ _ _ (λ chain. chain.rules) (λ chain. movers_of chain.replay chain.cookies chain.auth chain.addons.items) c.args.chain.now.rules) (λ old new reads. reads.reads.contents) to (run_due mode key resent) _
    changes operations Whole reaches.placed made _ last trace refl
    (rules_stay _ (λ chain. chain.rules) (λ chain. movers_of chain.replay chain.cookies chain.auth chain.addons.items) _ _ (run_due mode key resent) _ told trace _ c.args.chain.now.rules promised.worked) reaches.saved_so promised.leaves said)
