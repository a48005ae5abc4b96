-- The places of the cookies of a site.
use Rattle.std.proofs.Common.{◌≡◌, ◌∙◌, ℕ, suc, ◌+◌, ◌<◌, ◌≤◌, Bool, true, false, ◌&&◌, List, [], ◌∷◌, ◌++◌, length, filter, Option, Some, None, refl, sym, ap, ap₂, subst, append_assoc, arith, if◌then◌else◌}
use Rattle.std.specs.BTreeMap.{BTreeMap, get, UpdatesBy}
use Rattle.std.specs.List.{slice_get}
use Rattle.std.specs.Option.{option_to_list, unwrap_or}
use Rattle.std.specs.Ordering.{is_eq}
use Rattle.std.specs.declared.cmp.Ordering.{Ordering}
use Rattle.std.proofs.lemmas.Bool.{cond-false, cond-true}
use Rattle.std.specs.Prelude.{All}
use Rattle.std.proofs.lemmas.List.Elements.{All-cons, All-nil}
use Rattle.px_refresh.proofs.KeyLemmas.{site_decides}
use Rattle.px_refresh.proofs.PlaceLemmas.{keys_of, length_keys}
use Rattle.px_refresh.specs.Cookies.{is_at}
use Rattle.px_refresh.specs.Index.{Adds, IsListed, Stays, at_places, listed, places_from}
use Rattle.px_refresh.specs.Site.{is_same_site}
use Rattle.px_refresh.specs.declared.key.CookieKey.{CookieKey}
use Rattle.px_refresh.specs.declared.key.Site.{Site}

-- ---- the places of those that pass

-- one item more
places_more : {T : Type 0} (test : T → Bool) (xs : List T) (x : T) (at : ℕ) →
    places_from at test (xs ++ x ∷ []) ≡ (if test x then places_from at test xs ++ (at + length xs) ∷ [] else places_from at test xs)
places_more test [] x at = by_test (test x)
  where
    by_test : (t : Bool) → (if t then at ∷ [] else []) ≡ (if t then (at + 0) ∷ [] else [])
    by_test true = ap (λ n. n ∷ []) (omega arith)
    by_test false = refl
places_more test (y ∷ ys) x at =
    ap (λ l. if test y then at ∷ l else l) (places_more test ys x (suc at)) ∙ by_tests (test y) (test x)
  where
    by_tests : (s t : Bool) → (if s then at ∷ (if t then places_from (suc at) test ys ++ (suc at + length ys) ∷ [] else places_from (suc at) test ys)
        else (if t then places_from (suc at) test ys ++ (suc at + length ys) ∷ [] else places_from (suc at) test ys))
        ≡ (if t then (if s then at ∷ places_from (suc at) test ys else places_from (suc at) test ys) ++ (at + suc (length ys)) ∷ []
        else (if s then at ∷ places_from (suc at) test ys else places_from (suc at) test ys))
    by_tests true true = ap (λ n. at ∷ (places_from (suc at) test ys ++ n ∷ [])) (omega arith)
    by_tests true false = refl
    by_tests false true = ap (λ n. places_from (suc at) test ys ++ n ∷ []) (omega arith)
    by_tests false false = refl

at_end : {A : Type 0} (front : List A) (x : A) (xs : List A) → slice_get (front ++ x ∷ xs) (length front) ≡ Some x
at_end [] x xs = refl
at_end (y ∷ ys) x xs = at_end ys x xs

-- at the places of those that pass stand those that pass
at_from : {K V : Type 0} (test : K → Bool) (front pairs : List (K × V)) (n : ℕ) → n ≡ length front →
    at_places (front ++ pairs) (places_from n test (keys_of pairs)) ≡ filter (λ pair. test pair.0) pairs
at_from test front [] n is = refl
at_from test front (pair ∷ pairs) n is = by_test
    (ap (λ l. at_places l (places_from (suc n) test (keys_of pairs))) (sym (append_assoc front (pair ∷ []) pairs))
    ∙ at_from test (front ++ pair ∷ []) pairs (suc n) (ap suc is ∙ longer front)) (test pair.0) refl
  where
    longer : (front : List _) → suc (length front) ≡ length (front ++ pair ∷ [])
    longer [] = refl
    longer (x ∷ xs) = ap suc (longer xs)

    by_test : at_places (front ++ pair ∷ pairs) (places_from (suc n) test (keys_of pairs)) ≡ filter (λ p. test p.0) pairs → (t : Bool) → test pair.0 ≡ t →
        at_places (front ++ pair ∷ pairs) (places_from n test (keys_of (pair ∷ pairs))) ≡ filter (λ p. test p.0) (pair ∷ pairs)
    by_test rest true passes =
        ap (at_places (front ++ pair ∷ pairs)) (cond-true (test pair.0) (n ∷ places_from (suc n) test (keys_of pairs)) _ passes)
        ∙ ap₂ (λ (o : Option _) (l : List _). option_to_list o ++ l) (ap (slice_get (front ++ pair ∷ pairs)) is ∙ at_end front pair pairs) rest
        ∙ sym (cond-true (test pair.0) (pair ∷ filter (λ p. test p.0) pairs) _ passes)
    by_test rest false fails =
        ap (at_places (front ++ pair ∷ pairs)) (cond-false (test pair.0) (n ∷ places_from (suc n) test (keys_of pairs)) _ fails)
        ∙ rest ∙ sym (cond-false (test pair.0) (pair ∷ filter (λ p. test p.0) pairs) _ fails)

pub at_all : {K V : Type 0} (test : K → Bool) (pairs : List (K × V)) → at_places pairs (places_from 0 test (keys_of pairs)) ≡ filter (λ pair. test pair.0) pairs
at_all test pairs = at_from test [] pairs 0 refl

-- those places lie within
places_within : {K : Type 0} (test : K → Bool) (keys : List K) (n most : ℕ) → n + length keys ≤ most → All (λ place. place < most) (places_from n test keys)
places_within test [] n most in' = All-nil (λ place. place < most)
places_within test (key ∷ keys) n most in' = by_test (places_within test keys (suc n) most (omega (arith, in'))) (test key) refl
  where
    by_test : All (λ place. place < most) (places_from (suc n) test keys) → (t : Bool) → test key ≡ t → All (λ place. place < most) (places_from n test (key ∷ keys))
    by_test rest true is =
        subst (All (λ place. place < most)) (sym (cond-true (test key) (n ∷ places_from (suc n) test keys) _ is))
        (All-cons (λ place. place < most) n (places_from (suc n) test keys) (omega (arith, in')) rest)
    by_test rest false is = subst (All (λ place. place < most)) (sym (cond-false (test key) (n ∷ places_from (suc n) test keys) _ is)) rest

pub all_within : {K V : Type 0} (test : K → Bool) (pairs : List (K × V)) → All (λ place. place < length pairs) (places_from 0 test (keys_of pairs))
all_within test pairs = places_within test (keys_of pairs) 0 (length pairs) (omega (arith, length_keys pairs))

-- two tests one behind the other
pub filter_both : {A : Type 0} (p q : A → Bool) (xs : List A) → filter q (filter p xs) ≡ filter (λ x. p x && q x) xs
filter_both p q [] = refl
filter_both p q (x ∷ xs) = by_test (filter_both p q xs) (p x) refl
  where
    by_test : filter q (filter p xs) ≡ filter (λ y. p y && q y) xs → (t : Bool) → p x ≡ t → filter q (filter p (x ∷ xs)) ≡ filter (λ y. p y && q y) (x ∷ xs)
    by_test rest true is =
        ap (filter q) (cond-true (p x) (x ∷ filter p xs) (filter p xs) is) ∙ ap (λ l. if q x then x ∷ l else l) rest
        ∙ sym (ap (λ t. if t && q x then x ∷ filter (λ y. p y && q y) xs else filter (λ y. p y && q y) xs) is)
    by_test rest false is =
        ap (filter q) (cond-false (p x) (x ∷ filter p xs) (filter p xs) is) ∙ rest
        ∙ sym (ap (λ t. if t && q x then x ∷ filter (λ y. p y && q y) xs else filter (λ y. p y && q y) xs) is)

-- ---- the index

module _ (cmp : Site → Site → Ordering) (ties : (a b : Site) → is_same_site a b ≡ is_eq (cmp a b)) where
  -- what a map has after one site's list has changed
  changes : (f : List ℕ → List ℕ) (site : Site) (now : List ℕ) (old new : BTreeMap Site (List ℕ)) → now ≡ f (listed cmp old site) →
      UpdatesBy cmp (cmp site) old new (Some now) → (other : Site) →
      listed cmp new other ≡ (if is_same_site site other then f (listed cmp old other) else listed cmp old other)
  changes f site now old new is updates other = by_test (is_same_site site other) refl
    where
      by_test : (t : Bool) → is_same_site site other ≡ t →
          listed cmp new other ≡ (if is_same_site site other then f (listed cmp old other) else listed cmp old other)
      by_test true same =
          ap (λ o. unwrap_or o []) (updates.0 other ∙ ap (λ t. if t then Some now else get cmp old other) (sym (ties site other) ∙ same))
          ∙ is ∙ ap (λ k. f (listed cmp old k)) ((site_decides site other).0 same)
          ∙ sym (ap (λ t. if t then f (listed cmp old other) else listed cmp old other) same)
      by_test false same =
          ap (λ o. unwrap_or o []) (updates.0 other ∙ ap (λ t. if t then Some now else get cmp old other) (sym (ties site other) ∙ same))
          ∙ sym (ap (λ t. if t then f (listed cmp old other) else listed cmp old other) same)

  pub adds_behind : (site : Site) (place : ℕ) (was now : List ℕ) (old new : BTreeMap Site (List ℕ)) → Some was ≡ get cmp old site →
      now ≡ was ++ place ∷ [] → UpdatesBy cmp (cmp site) old new (Some now) → Adds cmp site place old new
  adds_behind site place was now old new had is updates = record {
    adds = changes (λ l. l ++ place ∷ []) site now old new (is ∙ ap (λ o. unwrap_or o [] ++ place ∷ []) had) updates;
  }

  pub adds_first : (site copy : Site) (place : ℕ) (now : List ℕ) (old mid new : BTreeMap Site (List ℕ)) → None ≡ get cmp old site →
      now ≡ place ∷ [] → copy ≡ site → mid ≡ old → UpdatesBy cmp (cmp copy) mid new (Some now) → Adds cmp site place old new
  adds_first site copy place now old mid new had is same still updates = record {
    adds = changes (λ l. l ++ place ∷ []) site now old new (is ∙ ap (λ o. unwrap_or o [] ++ place ∷ []) had)
        (subst (λ m. UpdatesBy cmp (cmp site) m new (Some now)) still (subst (λ k. UpdatesBy cmp (cmp k) mid new (Some now)) same updates));
  }

  -- a list that was lent and stayed as it was
  pub stays_lent : (site : Site) (was now : List ℕ) (old new : BTreeMap Site (List ℕ)) → Some was ≡ get cmp old site → now ≡ was →
      UpdatesBy cmp (cmp site) old new (Some now) → Stays cmp old new
  stays_lent site was now old new had is updates = record {
    stays = λ other. changes (λ l. l) site now old new (is ∙ ap (λ o. unwrap_or o []) had) updates other ∙ by_test other (is_same_site site other);
  }
    where
      by_test : (other : Site) (t : Bool) → (if t then listed cmp old other else listed cmp old other) ≡ listed cmp old other
      by_test other true = refl
      by_test other false = refl

  -- one key more
  pub listed_more : (keys : List CookieKey) (key : CookieKey) (old new : BTreeMap Site (List ℕ)) → IsListed cmp old keys → Adds cmp key.site (length keys) old new →
      IsListed cmp new (keys ++ key ∷ [])
  listed_more keys key old new listed_old adds = record {
    lists = λ site.
        adds.adds site ∙ ap (λ l. if is_at site key then l ++ length keys ∷ [] else l) (listed_old.lists site)
        ∙ ap (λ n. if is_at site key then places_from 0 (is_at site) keys ++ n ∷ [] else places_from 0 (is_at site) keys) (omega arith)
        ∙ sym (places_more (is_at site) keys key 0);
  }

pub listed_still : (cmp : Site → Site → Ordering) (keys : List CookieKey) (old new : BTreeMap Site (List ℕ)) → IsListed cmp old keys → Stays cmp old new → IsListed cmp new keys
listed_still cmp keys old new listed_old stays = record { lists = λ site. stays.stays site ∙ listed_old.lists site }
