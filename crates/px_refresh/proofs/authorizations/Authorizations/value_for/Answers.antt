use Rattle.std.proofs.Common.{◌≡◌, ◌∙◌, ◌<◌, Some, ap, arith, length, refl, rules, subst, sym}
use Rattle.std.specs.List.{slice_get}
use Rattle.std.proofs.lemmas.Option.{slice_get_read}
use Rattle.px_refresh.proofs.PlaceLemmas.{keys_of, latest_at, latest_none, length_keys, within}
use Rattle.px_refresh.specs.Authorized.{value_for}
use Rattle.px_refresh.specs.Text.{is_same_text}
use Rattle.px_refresh.proofs.authorizations.Authorizations.value_for.Goals as goal

pub returns-in-Some : goal.returns-in-Some
returns-in-Some c =
    let host : c.new-host.result ≡ c.args.host.now = search rules in
    let items = c.self.inside.shown.items in
    let place = c.in-Some.place in
    let pair = c.index.result.now in
    let there : place < length c.args.self.now =
    omega (arith, within (keys_of c.args.self.now) place c.in-Some.ensures.found c.in-Some.ensures.there, length_keys c.args.self.now) in
    let at : slice_get c.args.self.now place ≡ Some pair =
    subst (λ l. slice_get l place ≡ Some pair) c.self.view_is
    (slice_get_read items (length items) place pair refl (subst (λ l. place < length l) (sym c.self.view_is) there) c.index.ensures) in
    ap Some c.in_ok-try_clone-in-Some.ensures ∙ sym (latest_at is_same_text c.new-host.result c.args.self.now place pair at c.in-Some.ensures)
    ∙ ap (λ h. value_for h c.args.self.now) host

pub returns : goal.returns
returns c =
    let host : c.new-host.result ≡ c.args.host.now = search rules in
    sym (latest_none is_same_text c.new-host.result c.args.self.now c.in-None.ensures) ∙ ap (λ h. value_for h c.args.self.now) host
