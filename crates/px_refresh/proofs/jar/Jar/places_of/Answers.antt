use Rattle.std.proofs.Common.{◌≡◌, ◌<◌, length, rules, subst, sym}
use Rattle.std.specs.Prelude.{All}
use Rattle.px_refresh.proofs.PlaceLemmas.{keys_of}
use Rattle.px_refresh.proofs.SiteLemmas.{all_within}
use Rattle.px_refresh.specs.Cookies.{is_at}
use Rattle.px_refresh.specs.Index.{places_from}
use Rattle.px_refresh.proofs.jar.Jar.places_of.Goals as goal

pub returns-in-Some-clause-within : goal.returns-in-Some-clause-within
returns-in-Some-clause-within c =
    let items = c.self.inside.cookies.items in
    let is : c.as_slice.result.now ≡ places_from 0 (is_at c.args.site.now) (keys_of items) = search rules in
    subst (λ l. All (λ place. place < length l) c.as_slice.result.now) c.self.view_is
    (subst (All (λ place. place < length items)) (sym is) (all_within (is_at c.args.site.now) items))
