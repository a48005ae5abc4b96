-- Cookies of one response, kept one behind the other.
use Rattle.std.proofs.Common.{◌≡◌, ◌∙◌, List, ℕ, [], ◌∷◌, ◌++◌, refl, sym, ap, append-nil, append_assoc}
use Rattle.std.specs.Option.{option_to_list}
use Rattle.std.proofs.lemmas.Grind.{flat_map-append}
use Rattle.px_refresh.proofs.KeptLemmas.{kept_goes_on}
use Rattle.px_refresh.proofs.KeyLemmas.{cookie_decides}
use Rattle.px_refresh.specs.Cookies.{Cookie, KeepsFront, cookie_in, cookies_in, jar}
use Rattle.px_refresh.specs.Site.{is_same_cookie}
use Rattle.px_refresh.specs.declared.key.Site.{Site}

-- the cookies of some first values are kept, and these values are left
pub record KeptSoFar (site : Site) (values : List (List ℕ)) (start now : List Cookie) (left : List (List ℕ)) : Type 0 where
  pub done : List (List ℕ)
  pub split : values ≡ done ++ left
  pub kept : now ≡ jar (start ++ cookies_in site done)

pub none_yet : (site : Site) (values : List (List ℕ)) (start : List Cookie) → jar start ≡ start → KeptSoFar site values start start values
none_yet site values start is = record { done = []; split = refl; kept = sym (ap jar (append-nil start) ∙ is) }

pub one_more : (site : Site) (values : List (List ℕ)) (start now next : List Cookie) (value : List ℕ) (left rest : List (List ℕ)) →
    KeptSoFar site values start now left → left ≡ value ∷ rest → next ≡ jar (now ++ option_to_list (cookie_in site value)) → KeptSoFar site values start next rest
one_more site values start now next value left rest before first is = record {
  done = before.done ++ value ∷ [];
  split = before.split ∙ ap (λ l. before.done ++ l) first ∙ sym (append_assoc before.done (value ∷ []) rest);
  kept =
      let set = option_to_list (cookie_in site value) in
      is ∙ ap (λ cookies. jar (cookies ++ set)) before.kept
      ∙ kept_goes_on is_same_cookie cookie_decides (start ++ cookies_in site before.done) set
      ∙ ap jar (append_assoc start (cookies_in site before.done) set
      ∙ ap (λ l. start ++ l) (ap (λ l. cookies_in site before.done ++ l) (sym (append-nil set))
      ∙ sym (flat_map-append (λ text. option_to_list (cookie_in site text)) before.done (value ∷ []))));
}

pub all_kept : (site : Site) (values : List (List ℕ)) (start now : List Cookie) (left : List (List ℕ)) → KeptSoFar site values start now left → left ≡ [] →
    now ≡ jar (start ++ cookies_in site values)
all_kept site values start now left so_far none =
    so_far.kept ∙ ap (λ l. jar (start ++ cookies_in site l)) (sym (so_far.split ∙ ap (λ l. so_far.done ++ l) none ∙ append-nil so_far.done))

pub front_kept : (site : Site) (values : List (List ℕ)) (start now next : List Cookie) (left : List (List ℕ)) → KeptSoFar site values start now left → next ≡ now →
    KeepsFront (cookies_in site values) start next
front_kept site values start now next left so_far same = record {
  front = cookies_in site so_far.done;
  first = (cookies_in site left, ap (cookies_in site) so_far.split ∙ flat_map-append (λ text. option_to_list (cookie_in site text)) so_far.done left);
  kept = same ∙ so_far.kept;
}

pub none_kept : (set start now : List Cookie) → jar start ≡ start → now ≡ start → KeepsFront set start now
none_kept set start now is same = record { front = []; first = (set, refl); kept = same ∙ sym (ap jar (append-nil start) ∙ is) }
