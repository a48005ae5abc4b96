use Rattle.std.proofs.Common.{◌∙◌, rules, subst, sym}
use Rattle.px_refresh.proofs.JarLemmas.{indexed_early, indexed_more}
use Rattle.px_refresh.proofs.PlaceLemmas.{keys_of}
use Rattle.px_refresh.specs.Index.{HasNowhere, IsIndexed}
use Rattle.px_refresh.specs.Site.{is_same_cookie}
use Rattle.px_refresh.specs.contracts.key.CookieKeyOrd.TheImpl.{ghosts}
use Rattle.px_refresh.specs.contracts.key.CookieKeyOrd.TheImpl.Laws.{matches_eq-law}
use Rattle.px_refresh.specs.contracts.key.SiteOrd.TheImpl as site
use Rattle.px_refresh.specs.contracts.key.SiteOrd.TheImpl.Laws as site_laws
use Rattle.px_refresh.proofs.jar.Jar.add.Goals as goal

pub invariant_of-self-in_err-add_place : goal.invariant_of-self-in_err-add_place
invariant_of-self-in_err-add_place c =
    let items = c.self.inside.cookies.items in
    subst (λ cookies. IsIndexed ghosts.cmp site.ghosts.cmp c.insert.new.self c.add_place.new.sites (keys_of cookies)) (sym c.try_reserve.ensures.items)
    (indexed_early ghosts.cmp matches_eq-law site.ghosts.cmp site_laws.matches_eq-law c.self.inside.places c.insert.new.self c.self.inside.sites c.add_place.new.sites
    items c.args.key c.in_ok-try_clone.field-0 c.len-place.result c.self.invariant
    (subst (λ cookies. HasNowhere is_same_cookie c.args.key (keys_of cookies)) (sym c.self.view_is) c.requires) c.in_ok-try_clone.ensures
    c.in_ok-insert.ensures.updates c.in_err-add_place.ensures.stays)

pub invariant_of-self-2 : goal.invariant_of-self-2
invariant_of-self-2 c =
    let items = c.self.inside.cookies.items in
    subst (λ cookies. IsIndexed ghosts.cmp site.ghosts.cmp c.insert.new.self c.add_place.new.sites (keys_of cookies)) (sym (search rules))
    (indexed_more ghosts.cmp matches_eq-law site.ghosts.cmp site_laws.matches_eq-law c.self.inside.places c.insert.new.self c.self.inside.sites c.add_place.new.sites
    items c.args.key c.in_ok-try_clone.field-0 c.args.value c.len-place.result c.self.invariant
    (subst (λ cookies. HasNowhere is_same_cookie c.args.key (keys_of cookies)) (sym c.self.view_is) c.requires) c.in_ok-try_clone.ensures
    (c.len-place.ensures ∙ c.try_reserve.ensures.len ∙ c.self.inside.cookies.ok.0) c.in_ok-insert.ensures.updates c.in_ok-add_place.ensures.adds)
