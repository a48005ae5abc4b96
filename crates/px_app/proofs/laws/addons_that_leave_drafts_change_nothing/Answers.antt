use Rattle.px_addons.specs.Chain.{movers_of}
use Rattle.px_addons.specs.Quiet.{goes_on_unchanged}
use Rattle.px_addons.specs.QuietLaws.{answers_unchanged, stays_quiet}
use Rattle.px_core.proofs.KindLemmas.{kept_in}
use Rattle.px_app.specs.Dues.{run_due}
use Rattle.px_app.specs.Over.{course_from}
use Rattle.px_app.proofs.ChangeLemmas.{quiet_stays}
use Rattle.px_app.proofs.laws.addons_that_leave_drafts_change_nothing.Goals as goal

pub returns : goal.returns
returns g c = λ mode key resent files last intercept changes operations status over told trace so promised.
    (kept_in _ (run_due mode key resent) _ goes_on_unchanged (record {
      stays = λ hook flow old old_files new new_files given quiet by. stays_quiet _ _ _ hook flow old.rules (movers_of old.replay old.cookies old.auth old.addons.items) old_files new.rules (movers_of new.replay new.cookies new.auth new.addons.items) new_files given quiet by;
      gives_so = λ hook flow old old_files new new_files given quiet by. answers_unchanged _ _ _ hook flow old.rules (movers_of old.replay old.cookies old.auth old.addons.items) old_files new.rules (movers_of new.replay new.cookies new.auth new.addons.items) new_files given quiet by;
    }) (course_from (record { own = c.args.chain.now; files = files }) changes operations) promised.follows.made promised.follows.front_of so
    (quiet_stays _ (λ chain. chain.rules) (λ chain. movers_of chain.replay chain.cookies chain.auth chain.addons.items) _ _ (run_due mode key resent) _ told trace _ _ promised.worked) trace
    promised.follows.last promised.follows.pending promised.follows.answered).of_kind
