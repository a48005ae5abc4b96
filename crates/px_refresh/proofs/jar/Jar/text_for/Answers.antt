use Rattle.std.proofs.Common.{◌≡◌, ◌∙◌, List, ℕ, ap, ap₂, filter}
use Rattle.std.proofs.lemmas.Result.{IfOk-weaker}
use Rattle.px_refresh.proofs.SiteLemmas.{at_all, filter_both}
use Rattle.px_refresh.specs.Cookies.{Cookie, cookie_text, is_at, is_for, sent_to}
use Rattle.px_refresh.specs.Index.{at_places}
use Rattle.px_refresh.proofs.jar.Jar.text_for.Goals as goal

pub returns-clause-text : goal.returns-clause-text
returns-clause-text c =
    let site = c.args.site.now in
    let path = c.args.path.now in
    let cookies = c.args.self.now in
    IfOk-weaker c.text_of.result
    (λ text. text.items ≡ cookie_text (filter (λ cookie. is_for path cookie.0) (at_places c.deref.result.now c.places_of.result.now)))
    (λ text. text.items ≡ cookie_text (sent_to site path cookies))
    (λ text is.
    is ∙ ap₂ (λ (l : List Cookie) (places : List ℕ). cookie_text (filter (λ cookie. is_for path cookie.0) (at_places l places)))
    (c.deref.ensures.value ∙ c.self.view_is) c.places_of.ensures.places
    ∙ ap (λ l. cookie_text (filter (λ cookie. is_for path cookie.0) l)) (at_all (is_at site) cookies)
    ∙ ap cookie_text (filter_both (λ cookie. is_at site cookie.0) (λ cookie. is_for path cookie.0) cookies))
    c.text_of.ensures.text
