-- The places of keys, and what is kept where one has the key or none has.
use Rattle.std.proofs.Common.{◌≡◌, ◌∙◌, ℕ, zero, suc, ◌+◌, ◌<◌, Bool, true, false, List, [], ◌∷◌, ◌++◌, length, map, get_or, set, Option, Some, None, option_map, refl, sym, ap, arith, inl, inr, ◌⊎◌}
use Rattle.std.specs.Bool.{Decides}
use Rattle.std.specs.BTreeMap.{BTreeMap, get, UpdatesBy}
use Rattle.std.specs.List.{slice_get}
use Rattle.std.specs.Option.{option_or}
use Rattle.std.specs.Ordering.{is_eq}
use Rattle.std.specs.declared.cmp.Ordering.{Ordering}
use Rattle.std.proofs.lemmas.Bool.{both_ways}
use Rattle.std.proofs.lemmas.Option.{none-some, same_Some}
use Rattle.px_refresh.proofs.KeptLemmas.{Apart, kept_apart, kept_more, latest_else, latest_here, others_else, put_else, put_here, put_in}
use Rattle.px_refresh.specs.Index.{HasAt, HasNowhere, IsPlaced}
use Rattle.px_refresh.specs.Kept.{kept, latest, others, with_value}

abbrev pub keys_of : {K V : Type 0} → List (K × V) → List K
keys_of pairs = map (λ pair. pair.0) pairs

-- a place that has something lies within
pub within : {A : Type 0} (xs : List A) (place : ℕ) (x : A) → slice_get xs place ≡ Some x → place < length xs
within [] place x at = absurd (none-some x at)
within (y ∷ ys) zero x at = omega arith
within (y ∷ ys) (suc place) x at = omega (arith, within ys place x at)

pub length_keys : {K V : Type 0} (pairs : List (K × V)) → length (keys_of pairs) ≡ length pairs
length_keys [] = refl
length_keys (pair ∷ pairs) = ap suc (length_keys pairs)

pub keys_more : {K V : Type 0} (pairs : List (K × V)) (k : K) (v : V) → keys_of (pairs ++ (k, v) ∷ []) ≡ keys_of pairs ++ k ∷ []
keys_more [] k v = refl
keys_more (pair ∷ pairs) k v = ap (λ l. pair.0 ∷ l) (keys_more pairs k v)

pub keys_stay : {K V : Type 0} (place : ℕ) (value : V) (pairs : List (K × V)) → keys_of (with_value place value pairs) ≡ keys_of pairs
keys_stay place value [] = refl
keys_stay zero value (pair ∷ pairs) = refl
keys_stay (suc place) value (pair ∷ pairs) = ap (λ l. pair.0 ∷ l) (keys_stay place value pairs)

-- what stands at a place of a list with one item more
pub at_more : {A : Type 0} (xs : List A) (x y : A) (place : ℕ) → slice_get (xs ++ x ∷ []) place ≡ Some y → (slice_get xs place ≡ Some y) ⊎ ((place ≡ length xs) × (x ≡ y))
at_more [] x y zero at = inr (refl, same_Some x y at)
at_more [] x y (suc place) at = absurd (none-some y at)
at_more (z ∷ zs) x y zero at = inl at
at_more (z ∷ zs) x y (suc place) at = elim (at_more zs x y place at) [
  | inl before ↦ inl before
  | inr last ↦ inr (ap suc last.0, last.1)
]

-- the key of what stands at a place
pub key_there : {K V : Type 0} (pairs : List (K × V)) (place : ℕ) (pair : K × V) → slice_get pairs place ≡ Some pair → slice_get (keys_of pairs) place ≡ Some pair.0
key_there [] place pair at = absurd (none-some pair at)
key_there (x ∷ xs) zero pair at = ap (λ o. option_map (λ p. p.0) o) at
key_there (x ∷ xs) (suc place) pair at = key_there xs place pair at

pub no_key_there : {K V : Type 0} (pairs : List (K × V)) (place : ℕ) → slice_get pairs place ≡ None → slice_get (keys_of pairs) place ≡ None
no_key_there [] place none = refl
no_key_there (x ∷ xs) zero none = ap (λ o. option_map (λ p. p.0) o) none
no_key_there (x ∷ xs) (suc place) none = no_key_there xs place none

-- a value that is written
pub value_written : {K V : Type 0} (place : ℕ) (value : V) (pairs : List (K × V)) (old : K × V) → place < length pairs → old ≡ get_or pairs place old →
    set pairs place (old.0, value) ≡ with_value place value pairs
value_written place value [] old in' is = absurd (omega (arith, in'))
value_written zero value (pair ∷ pairs) old in' is = ap (λ p. (p.0, value) ∷ pairs) is
value_written (suc place) value (pair ∷ pairs) old in' is = ap (λ l. pair ∷ l) (value_written place value pairs old (omega (arith, in')) is)

module _ {K V : Type 0} (same : K → K → Bool) where
  -- the value that came last under a key that stands in one place alone
  latest_nowhere : (key : K) (pairs : List (K × V)) → ((place : ℕ) (other : K) → slice_get (keys_of pairs) place ≡ Some other → same other key ≡ false) →
      latest same key pairs ≡ None
  latest_nowhere key [] none = refl
  latest_nowhere key (pair ∷ pairs) none =
      latest_else same key pair pairs (none 0 pair.0 refl) ∙ latest_nowhere key pairs (λ place other at. none (suc place) other at)

  pub latest_none : (key : K) (pairs : List (K × V)) → HasNowhere same key (keys_of pairs) → latest same key pairs ≡ None
  latest_none key pairs none = latest_nowhere key pairs none.none

  latest_there : (key : K) (pairs : List (K × V)) (place : ℕ) (pair : K × V) → slice_get pairs place ≡ Some pair → same pair.0 key ≡ true →
      ((other : ℕ) (its : K) → slice_get (keys_of pairs) other ≡ Some its → same its key ≡ true → other ≡ place) → latest same key pairs ≡ Some pair.1
  latest_there key [] place pair at is only = absurd (none-some pair at)
  latest_there key (x ∷ xs) zero pair at is only =
      let first : x ≡ pair = same_Some x pair at in
      latest_here same key x xs (ap (λ p. same p.0 key) first ∙ is)
      ∙ ap (λ o. option_or o (Some x.1)) (latest_nowhere key xs (λ place other there. later place other there (same other key) refl))
      ∙ ap (λ p. Some p.1) first
    where
      later : (place : ℕ) (other : K) → slice_get (keys_of xs) place ≡ Some other → (t : Bool) → same other key ≡ t → same other key ≡ false
      later place other there false has = has
      later place other there true has = absurd (omega (arith, only (suc place) other there has))
  latest_there key (x ∷ xs) (suc place) pair at is only =
      latest_else same key x xs (first (same x.0 key) refl)
      ∙ latest_there key xs place pair at is (λ other its there has. omega (arith, only (suc other) its there has))
    where
      first : (t : Bool) → same x.0 key ≡ t → same x.0 key ≡ false
      first false has = has
      first true has = absurd (omega (arith, only 0 x.0 refl has))

  pub latest_at : (key : K) (pairs : List (K × V)) (place : ℕ) (pair : K × V) → slice_get pairs place ≡ Some pair → HasAt same key (keys_of pairs) place →
      latest same key pairs ≡ Some pair.1
  latest_at key pairs place pair at has = latest_there key pairs place pair at
      (ap (λ k. same k key) (same_Some pair.0 has.found (sym (key_there pairs place pair at) ∙ has.there)) ∙ has.is) has.only

  -- where no pair has the key, nothing is left out, and the pair stands behind all others
  left_all : (key : K) (pairs : List (K × V)) → ((place : ℕ) (other : K) → slice_get (keys_of pairs) place ≡ Some other → same other key ≡ false) →
      others same key pairs ≡ pairs
  left_all key [] none = refl
  left_all key (pair ∷ pairs) none =
      others_else same key pair pairs (none 0 pair.0 refl) ∙ ap (λ l. pair ∷ l) (left_all key pairs (λ place other at. none (suc place) other at))

  put_behind : (key : K) (value : V) (pairs : List (K × V)) → ((place : ℕ) (other : K) → slice_get (keys_of pairs) place ≡ Some other → same other key ≡ false) →
      put_in same key value pairs ≡ pairs ++ (key, value) ∷ []
  put_behind key value [] none = refl
  put_behind key value (pair ∷ pairs) none =
      put_else same key value pair pairs (none 0 pair.0 refl) ∙ ap (λ l. pair ∷ l) (put_behind key value pairs (λ place other at. none (suc place) other at))

  -- where one pair has it, its value is changed
  put_there : (key : K) (value : V) (pairs : List (K × V)) (place : ℕ) (found : K) → slice_get (keys_of pairs) place ≡ Some found → same found key ≡ true →
      ((other : ℕ) (its : K) → slice_get (keys_of pairs) other ≡ Some its → same its key ≡ true → other ≡ place) →
      put_in same key value pairs ≡ with_value place value pairs
  put_there key value [] place found at is only = absurd (none-some found at)
  put_there key value (pair ∷ pairs) zero found at is only = put_here same key value pair pairs (ap (λ k. same k key) (same_Some pair.0 found at) ∙ is)
  put_there key value (pair ∷ pairs) (suc place) found at is only = by_test
      (put_there key value pairs place found at is (λ other its there has. omega (arith, only (suc other) its there has))) (same pair.0 key) refl
    where
      by_test : put_in same key value pairs ≡ with_value place value pairs → (t : Bool) → same pair.0 key ≡ t →
          put_in same key value (pair ∷ pairs) ≡ with_value (suc place) value (pair ∷ pairs)
      by_test rest true has = absurd (omega (arith, only 0 pair.0 refl has))
      by_test rest false has = put_else same key value pair pairs has ∙ ap (λ l. pair ∷ l) rest

  module _ (decides : (a b : K) → Decides (same a b) (a ≡ b)) where
    pub kept_new : (key : K) (value : V) (pairs : List (K × V)) → kept same pairs ≡ pairs → HasNowhere same key (keys_of pairs) →
        kept same (pairs ++ (key, value) ∷ []) ≡ pairs ++ (key, value) ∷ []
    kept_new key value pairs is none = kept_more same decides pairs key value ∙ ap (put_in same key value) is ∙ put_behind key value pairs none.none

    pub kept_again : (key : K) (value : V) (pairs : List (K × V)) (place : ℕ) → kept same pairs ≡ pairs → HasAt same key (keys_of pairs) place →
        kept same (pairs ++ (key, value) ∷ []) ≡ with_value place value pairs
    kept_again key value pairs place is has =
        kept_more same decides pairs key value ∙ ap (put_in same key value) is
        ∙ put_there key value pairs place has.found has.there has.is has.only

    -- pairs whose keys are found each at its own place have each key once
    apart : (find : K → Option ℕ) (n : ℕ) (pairs : List (K × V)) →
        ((place : ℕ) (key : K) → slice_get (keys_of pairs) place ≡ Some key → find key ≡ Some (n + place)) → Apart same pairs
    apart find n [] placed = tt
    apart find n (pair ∷ pairs) placed = (
      left_all pair.0 pairs (λ place other at. by_test place other at (same other pair.0) refl),
      apart find (n + 1) pairs (λ place key at. placed (suc place) key at ∙ ap Some (omega arith)),
    )
      where
        by_test : (place : ℕ) (other : K) → slice_get (keys_of pairs) place ≡ Some other → (t : Bool) → same other pair.0 ≡ t → same other pair.0 ≡ false
        by_test place other at false is = is
        by_test place other at true is =
            let first : find pair.0 ≡ Some (n + 0) = placed 0 pair.0 refl in
            let later : find other ≡ Some (n + suc place) = placed (suc place) other at in
            let clash : n + suc place ≡ n + 0 = same_Some _ _ (sym later ∙ ap find ((decides other pair.0).0 is) ∙ first) in
            absurd (omega (arith, clash))

    pub kept_placed : (cmp : K → K → Ordering) (places : BTreeMap K ℕ) (pairs : List (K × V)) → IsPlaced cmp places (keys_of pairs) → kept same pairs ≡ pairs
    kept_placed cmp places pairs placed = kept_apart same pairs (apart (get cmp places) 0 pairs (λ place key at. placed.placed place key at ∙ ap Some (omega arith)))

module _ {K : Type 0} (same : K → K → Bool) (decides : (a b : K) → Decides (same a b) (a ≡ b)) (cmp : K → K → Ordering) where
  -- what a map finds of a key is its place, if it has it
  pub has_at : (places : BTreeMap K ℕ) (keys : List K) (key found : K) (place : ℕ) → IsPlaced cmp places keys → slice_get keys place ≡ Some found → same found key ≡ true →
      HasAt same key keys place
  has_at places keys key found place placed at is = record {
    found = found;
    there = at;
    is = is;
    only = λ other its there has. same_Some other place
        (sym (placed.placed other its there) ∙ ap (get cmp places) ((decides its key).0 has ∙ sym ((decides found key).0 is)) ∙ placed.placed place found at);
  }

  pub has_nowhere : (places : BTreeMap K ℕ) (keys : List K) (key : K) → IsPlaced cmp places keys →
      ((place : ℕ) → get cmp places key ≡ Some place → (other : K) → slice_get keys place ≡ Some other → same other key ≡ false) → HasNowhere same key keys
  has_nowhere places keys key placed none = record { none = λ place other at. by_test place other at (same other key) refl }
    where
      by_test : (place : ℕ) (other : K) → slice_get keys place ≡ Some other → (t : Bool) → same other key ≡ t → same other key ≡ false
      by_test place other at false is = is
      by_test place other at true is =
          none place (ap (get cmp places) (sym ((decides other key).0 is)) ∙ placed.placed place other at) other at

  -- what is found there has another key, or nothing is there
  pub nowhere_other : (places : BTreeMap K ℕ) (keys : List K) (key found : K) (place : ℕ) → IsPlaced cmp places keys → get cmp places key ≡ Some place →
      slice_get keys place ≡ Some found → same found key ≡ false → HasNowhere same key keys
  nowhere_other places keys key found place placed at there other = has_nowhere places keys key placed
      (λ n its k k_at. ap (λ q. same q key) (same_Some k found (sym k_at ∙ ap (slice_get keys) (same_Some n place (sym its ∙ at)) ∙ there)) ∙ other)

  pub nowhere_past : (places : BTreeMap K ℕ) (keys : List K) (key : K) (place : ℕ) → IsPlaced cmp places keys → get cmp places key ≡ Some place →
      slice_get keys place ≡ None → HasNowhere same key keys
  nowhere_past places keys key place placed at past = has_nowhere places keys key placed
      (λ n its k k_at. absurd (none-some k (sym past ∙ ap (slice_get keys) (sym (same_Some n place (sym its ∙ at))) ∙ k_at)))

  module _ (ties : (a b : K) → same a b ≡ is_eq (cmp a b)) where
    -- one key more, which none had; while it is not among the keys, it may be found already
    pub placed_early : (places new : BTreeMap K ℕ) (keys : List K) (key : K) (place : ℕ) → IsPlaced cmp places keys → HasNowhere same key keys →
        UpdatesBy cmp (cmp key) places new (Some place) → IsPlaced cmp new keys
    placed_early places new keys key place placed none updates = record {
      placed = λ n k at. updates.2 k (sym (ties key k) ∙ apart_from k (none.none n k at) (same key k) refl) ∙ placed.placed n k at;
    }
      where
        apart_from : (k : K) → same k key ≡ false → (t : Bool) → same key k ≡ t → same key k ≡ false
        apart_from k is false other = other
        apart_from k is true other = absurd (both_ways (same k key) is ((decides k key).1 (sym ((decides key k).0 other))))

  pub placed_more : (places : BTreeMap K ℕ) (keys : List K) (key : K) → IsPlaced cmp places keys → get cmp places key ≡ Some (length keys) →
      IsPlaced cmp places (keys ++ key ∷ [])
  placed_more places keys key placed found = record {
    placed = λ n k at. elim (at_more keys key k n at) [
      | inl before ↦ placed.placed n k before
      | inr last ↦ ap (get cmp places) (sym last.1) ∙ found ∙ ap Some (sym last.0)
    ];
  }
