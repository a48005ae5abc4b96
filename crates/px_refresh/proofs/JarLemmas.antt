-- A cookie more in a jar.
use Rattle.std.proofs.Common.{◌≡◌, ◌∙◌, ℕ, List, [], ◌∷◌, ◌++◌, length, Some, sym, ap, subst}
use Rattle.std.specs.BTreeMap.{BTreeMap, get, UpdatesBy}
use Rattle.std.specs.Ordering.{is_eq}
use Rattle.std.specs.declared.cmp.Ordering.{Ordering}
use Rattle.px_refresh.proofs.KeyLemmas.{cookie_decides}
use Rattle.px_refresh.proofs.PlaceLemmas.{keys_more, keys_of, length_keys, placed_early, placed_more}
use Rattle.px_refresh.proofs.SiteLemmas.{listed_more, listed_still}
use Rattle.px_refresh.specs.Cookies.{Cookie}
use Rattle.px_refresh.specs.Index.{Adds, HasNowhere, IsIndexed, IsPlaced, Stays}
use Rattle.px_refresh.specs.Site.{is_same_cookie, is_same_site}
use Rattle.px_refresh.specs.declared.key.CookieKey.{CookieKey}
use Rattle.px_refresh.specs.declared.key.Site.{Site}

module _ (cmp : CookieKey → CookieKey → Ordering) (ties : (a b : CookieKey) → is_same_cookie a b ≡ is_eq (cmp a b))
    (site_cmp : Site → Site → Ordering) (site_ties : (a b : Site) → is_same_site a b ≡ is_eq (site_cmp a b)) where
  placed : (places new : BTreeMap CookieKey ℕ) (cookies : List Cookie) (key copy : CookieKey) (place : ℕ) → IsPlaced cmp places (keys_of cookies) →
      HasNowhere is_same_cookie key (keys_of cookies) → copy ≡ key → UpdatesBy cmp (cmp copy) places new (Some place) → IsPlaced cmp new (keys_of cookies)
  placed places new cookies key copy place of_keys none same updates =
      placed_early is_same_cookie cookie_decides cmp ties places new (keys_of cookies) key place of_keys none
      (subst (λ k. UpdatesBy cmp (cmp k) places new (Some place)) same updates)

  -- its place was noted, and no memory was left for more
  pub indexed_early : (places new : BTreeMap CookieKey ℕ) (sites new_sites : BTreeMap Site (List ℕ)) (cookies : List Cookie) (key copy : CookieKey) (place : ℕ) →
      IsIndexed cmp site_cmp places sites (keys_of cookies) → HasNowhere is_same_cookie key (keys_of cookies) → copy ≡ key →
      UpdatesBy cmp (cmp copy) places new (Some place) → Stays site_cmp sites new_sites → IsIndexed cmp site_cmp new new_sites (keys_of cookies)
  indexed_early places new sites new_sites cookies key copy place is none same updates stays = record {
    of_keys = placed places new cookies key copy place is.of_keys none same updates;
    of_sites = listed_still site_cmp (keys_of cookies) sites new_sites is.of_sites stays;
  }

  -- it stands behind all others
  pub indexed_more : (places new : BTreeMap CookieKey ℕ) (sites new_sites : BTreeMap Site (List ℕ)) (cookies : List Cookie) (key copy : CookieKey) (value : List ℕ)
      (place : ℕ) → IsIndexed cmp site_cmp places sites (keys_of cookies) → HasNowhere is_same_cookie key (keys_of cookies) → copy ≡ key →
      place ≡ length cookies → UpdatesBy cmp (cmp copy) places new (Some place) → Adds site_cmp key.site place sites new_sites →
      IsIndexed cmp site_cmp new new_sites (keys_of (cookies ++ (key, value) ∷ []))
  indexed_more places new sites new_sites cookies key copy value place is none same last updates adds =
      let long : place ≡ length (keys_of cookies) = last ∙ sym (length_keys cookies) in
      subst (λ keys. IsIndexed cmp site_cmp new new_sites keys) (sym (keys_more cookies key value)) (record {
        of_keys = placed_more is_same_cookie cookie_decides cmp new (keys_of cookies) key
            (placed places new cookies key copy place is.of_keys none same updates) (ap (get cmp new) (sym same) ∙ updates.1 ∙ ap Some long);
        of_sites = listed_more site_cmp site_ties (keys_of cookies) key sites new_sites is.of_sites
            (subst (λ n. Adds site_cmp key.site n sites new_sites) long adds);
      })
