use Rattle.std.proofs.Common.{rules}
use Rattle.px_refresh.proofs.ResultLemmas.{on_err}
use Rattle.px_refresh.proofs.SiteLemmas.{adds_behind, adds_first, stays_lent}
use Rattle.px_refresh.specs.contracts.key.SiteOrd.TheImpl.{ghosts}
use Rattle.px_refresh.specs.contracts.key.SiteOrd.TheImpl.Laws.{matches_eq-law}
use Rattle.px_refresh.proofs.places.add_place.Goals as goal

pub returns-in-Some-clause-adds : goal.returns-in-Some-clause-adds
returns-in-Some-clause-adds c =
    adds_behind ghosts.cmp matches_eq-law c.args.site.now c.args.place c.in-Some.places.now c.push.new.self c.args.sites.now
    (c.get_mut.follows.lender c.push.new.self) c.in-Some.ensures.value c.in_ok-push.ensures.added ((c.get_mut.follows.holds c.push.new.self).3 (search rules))

pub returns-clause-adds : goal.returns-clause-adds
returns-clause-adds c =
    adds_first ghosts.cmp matches_eq-law c.args.site.now c.in_ok-try_clone.field-0 c.args.place c.in_ok-places.places c.args.sites.now
    c.get_mut.follows.lender-at-none c.insert.new.self c.in_default.ensures.value c.in_ok-places.ensures c.in_ok-try_clone.ensures
    c.get_mut.follows.holds-at-none c.in_ok-insert.ensures.updates

pub returns-in_err-push-clause-stays : goal.returns-in_err-push-clause-stays
returns-in_err-push-clause-stays c =
    on_err c.from_residual.result
    (stays_lent ghosts.cmp matches_eq-law c.args.site.now c.in-Some.places.now c.push.new.self c.args.sites.now
    (c.get_mut.follows.lender c.push.new.self) c.in-Some.ensures.value c.in_err-push.ensures.unchanged ((c.get_mut.follows.holds c.push.new.self).3 (search rules)))
