use Rattle.std.proofs.Common.{◌≡◌, subst}
use Rattle.px_refresh.proofs.KeyLemmas.{cookie_decides}
use Rattle.px_refresh.proofs.PlaceLemmas.{kept_placed}
use Rattle.px_refresh.specs.Cookies.{jar}
use Rattle.px_refresh.specs.Site.{is_same_cookie}
use Rattle.px_refresh.specs.contracts.key.CookieKeyOrd.TheImpl.{ghosts}
use Rattle.px_refresh.proofs.jar.Jar.is_kept.Goals as goal

pub returns : goal.returns
returns c =
    subst (λ l. jar l ≡ l) c.self.view_is
    (kept_placed is_same_cookie cookie_decides ghosts.cmp c.self.inside.places c.self.inside.cookies.items c.self.invariant.of_keys)
