use Rattle.std.proofs.Common.{◌≡◌, ◌∙◌, Some, None, length, refl, subst, sym}
use Rattle.std.specs.List.{slice_get}
use Rattle.std.proofs.lemmas.Option.{MatchOption-at_none, slice_get_past, slice_get_read}
use Rattle.px_refresh.proofs.KeyLemmas.{cookie_decides}
use Rattle.px_refresh.proofs.PlaceLemmas.{has_at, key_there, keys_of, no_key_there, nowhere_other, nowhere_past}
use Rattle.px_refresh.specs.Index.{HasAt, HasNowhere}
use Rattle.px_refresh.specs.Site.{is_same_cookie}
use Rattle.px_refresh.specs.contracts.key.CookieKeyOrd.TheImpl.{ghosts}
use Rattle.px_refresh.proofs.jar.Jar.place_of.Goals as goal

pub returns-in-Some : goal.returns-in-Some
returns-in-Some c =
    let items = c.self.inside.cookies.items in
    let place = c.in_ok-place.field-0.now in
    let cookie = c.in-Some.cookie.now in
    let at : slice_get items place ≡ Some cookie =
    subst (λ l. slice_get l place ≡ Some cookie) c.deref.ensures.value
    (slice_get_read c.deref.result.now (length c.deref.result.now) place cookie refl c.in-Some.ensures.lookup.3.0 c.in-Some.ensures.lookup.1) in
    subst (λ l. HasAt is_same_cookie c.args.key.now (keys_of l) place) c.self.view_is
    (has_at is_same_cookie cookie_decides ghosts.cmp c.self.inside.places (keys_of items) c.args.key.now cookie.0 place c.self.invariant.of_keys
    (key_there items place cookie at) (sym c.is_same.ensures ∙ c.if-is_same.true))

pub returns-in_default : goal.returns-in_default
returns-in_default c =
    let items = c.self.inside.cookies.items in
    let place = c.in_ok-place.field-0.now in
    let cookie = c.in-Some.cookie.now in
    let at : slice_get items place ≡ Some cookie =
    subst (λ l. slice_get l place ≡ Some cookie) c.deref.ensures.value
    (slice_get_read c.deref.result.now (length c.deref.result.now) place cookie refl c.in-Some.ensures.lookup.3.0 c.in-Some.ensures.lookup.1) in
    subst (λ l. HasNowhere is_same_cookie c.args.key.now (keys_of l)) c.self.view_is
    (nowhere_other is_same_cookie cookie_decides ghosts.cmp c.self.inside.places (keys_of items) c.args.key.now cookie.0 place c.self.invariant.of_keys
    (sym c.in_ok-place.ensures.value) (key_there items place cookie at) (sym c.is_same.ensures ∙ c.if-is_same.false))

pub returns-in_default-2 : goal.returns-in_default-2
returns-in_default-2 c =
    let items = c.self.inside.cookies.items in
    let place = c.in_ok-place.field-0.now in
    let past : slice_get items place ≡ None =
    subst (λ l. slice_get l place ≡ None) c.deref.ensures.value
    (slice_get_past c.deref.result.now place (MatchOption-at_none _ _ c.in_default.is c.get-2.ensures.lookup.3)) in
    subst (λ l. HasNowhere is_same_cookie c.args.key.now (keys_of l)) c.self.view_is
    (nowhere_past is_same_cookie cookie_decides ghosts.cmp c.self.inside.places (keys_of items) c.args.key.now place c.self.invariant.of_keys
    (sym c.in_ok-place.ensures.value) (no_key_there items place past))
