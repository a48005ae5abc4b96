use Rattle.std.proofs.Common.{◌≡◌, ◌∙◌, Some, None, length, refl, subst, sym}
use Rattle.std.specs.List.{slice_get}
use Rattle.std.proofs.lemmas.Option.{MatchOption-at_none, slice_get_past, slice_get_read}
use Rattle.px_refresh.proofs.KeyLemmas.{text_decides}
use Rattle.px_refresh.proofs.PlaceLemmas.{has_at, key_there, keys_of, no_key_there, nowhere_other, nowhere_past}
use Rattle.px_refresh.specs.Index.{HasAt, HasNowhere}
use Rattle.px_refresh.specs.Text.{is_same_text}
use Rattle.std.specs.Cmp.Lexicographic.{slice_cmp}
use Rattle.std.specs.Ordering.{nat_cmp}
use Rattle.px_refresh.proofs.authorizations.Authorizations.place_of.Goals as goal

pub returns-in-Some : goal.returns-in-Some
returns-in-Some c =
    let items = c.self.inside.shown.items in
    let place = c.in_ok-place.field-0.now in
    let pair = c.in-Some.pair.now in
    let at : slice_get items place ≡ Some pair =
    subst (λ l. slice_get l place ≡ Some pair) c.deref.ensures.value
    (slice_get_read c.deref.result.now (length c.deref.result.now) place pair refl c.in-Some.ensures.lookup.3.0 c.in-Some.ensures.lookup.1) in
    subst (λ l. HasAt is_same_text c.args.host.now (keys_of l) place) c.self.view_is
    (has_at is_same_text text_decides (slice_cmp nat_cmp) c.self.inside.places (keys_of items) c.args.host.now pair.0 place c.self.invariant
    (key_there items place pair at) (sym c.is_same.ensures ∙ c.if-is_same.true))

pub returns-in_default : goal.returns-in_default
returns-in_default c =
    let items = c.self.inside.shown.items in
    let place = c.in_ok-place.field-0.now in
    let pair = c.in-Some.pair.now in
    let at : slice_get items place ≡ Some pair =
    subst (λ l. slice_get l place ≡ Some pair) c.deref.ensures.value
    (slice_get_read c.deref.result.now (length c.deref.result.now) place pair refl c.in-Some.ensures.lookup.3.0 c.in-Some.ensures.lookup.1) in
    subst (λ l. HasNowhere is_same_text c.args.host.now (keys_of l)) c.self.view_is
    (nowhere_other is_same_text text_decides (slice_cmp nat_cmp) c.self.inside.places (keys_of items) c.args.host.now pair.0 place c.self.invariant
    (sym c.in_ok-place.ensures.value) (key_there items place pair at) (sym c.is_same.ensures ∙ c.if-is_same.false))

pub returns-in_default-2 : goal.returns-in_default-2
returns-in_default-2 c =
    let items = c.self.inside.shown.items in
    let place = c.in_ok-place.field-0.now in
    let past : slice_get items place ≡ None =
    subst (λ l. slice_get l place ≡ None) c.deref.ensures.value
    (slice_get_past c.deref.result.now place (MatchOption-at_none _ _ c.in_default.is c.get-2.ensures.lookup.3)) in
    subst (λ l. HasNowhere is_same_text c.args.host.now (keys_of l)) c.self.view_is
    (nowhere_past is_same_text text_decides (slice_cmp nat_cmp) c.self.inside.places (keys_of items) c.args.host.now place c.self.invariant
    (sym c.in_ok-place.ensures.value) (no_key_there items place past))
