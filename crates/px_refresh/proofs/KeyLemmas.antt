-- Sites and keys are the same exactly where all their parts are.
use Rattle.std.proofs.Common.{◌≡◌, ℕ, true, List, refl, subst}
use Rattle.std.specs.Bool.{Decides}
use Rattle.std.specs.Cmp.{unsigned_ties}
use Rattle.std.specs.Cmp.Lexicographic.{bytes_decides, lists_ties, slice_cmp}
use Rattle.std.specs.Ordering.{is_eq, nat_cmp}
use Rattle.std.proofs.lemmas.Bool.{and_from, and_parts, eq-eqb, eqb-true}
use Rattle.px_refresh.specs.declared.key.CookieKey.{CookieKey}
use Rattle.px_refresh.specs.declared.key.Site.{Site}
use Rattle.px_refresh.specs.Site.{is_same_cookie, is_same_site}
use Rattle.px_refresh.specs.Text.{is_same_text}

pub text_decides : (a b : List ℕ) → Decides (is_same_text a b) (a ≡ b)
text_decides a b = bytes_decides a b

pub text_ties : (a b : List ℕ) → is_same_text a b ≡ is_eq (slice_cmp nat_cmp a b)
text_ties = lists_ties nat_cmp unsigned_ties

own_text : (a : List ℕ) → is_same_text a a ≡ true
own_text a = (text_decides a a).1 refl

own_site : (a : Site) → is_same_site a a ≡ true
own_site a = and_from _ _ (own_text a.host) (eq-eqb a.port a.port refl)

pub site_decides : (a b : Site) → Decides (is_same_site a b) (a ≡ b)
site_decides a b = (
  λ says.
      let both = and_parts _ _ says in
      λ i. record { host = (text_decides a.host b.host).0 both.0 i; port = eqb-true a.port b.port both.1 i },
  λ same. subst (λ site. is_same_site a site ≡ true) same (own_site a),
)

pub cookie_decides : (a b : CookieKey) → Decides (is_same_cookie a b) (a ≡ b)
cookie_decides a b = (
  λ says.
      let one = and_parts _ _ says in
      let two = and_parts _ _ one.1 in
      λ i. record {
        site = (site_decides a.site b.site).0 one.0 i;
        path = (text_decides a.path b.path).0 two.0 i;
        name = (text_decides a.name b.name).0 two.1 i;
      },
  λ same. subst (λ key. is_same_cookie a key ≡ true) same
      (and_from _ _ (own_site a.site) (and_from _ _ (own_text a.path) (own_text a.name))),
)
