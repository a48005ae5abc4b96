-- What is kept of pairs that come one behind the other.
use Rattle.std.proofs.Common.{◌≡◌, ◌∙◌, Bool, true, false, not, List, [], ◌∷◌, ◌++◌, map, filter, Option, Some, None, refl, sym, ap, ap₂, subst, append-nil, if◌then◌else◌, append_assoc}
use Rattle.std.specs.Bool.{Decides}
use Rattle.std.specs.Option.{option_or, unwrap_or}
use Rattle.std.proofs.lemmas.Bool.{both_ways, cond-false, cond-true, not_from_false, not_from_true}
use Rattle.px_refresh.specs.Kept.{firsts, kept, latest, others}

-- the pair with its value in place of that of its key, or else behind all others
abbrev pub put_in : {K V : Type 0} → (K → K → Bool) → K → V → List (K × V) → List (K × V)
put_in same key value [] = (key, value) ∷ []
put_in same key value (pair ∷ pairs) = if same pair.0 key then (pair.0, value) ∷ pairs else pair ∷ put_in same key value pairs

abbrev pub put_all : {K V : Type 0} → (K → K → Bool) → List (K × V) → List (K × V) → List (K × V)
put_all same [] pairs = pairs
put_all same (new ∷ news) pairs = put_all same news (put_in same new.0 new.1 pairs)

-- no two pairs have one key
abbrev pub Apart : {K V : Type 0} → (K → K → Bool) → List (K × V) → Type 0
Apart same [] = Unit {0}
Apart same (pair ∷ pairs) = (others same pair.0 pairs ≡ pairs) × Apart same pairs

or_none : {V : Type 0} (o : Option V) → option_or o None ≡ o
or_none None = refl
or_none (Some x) = refl

module _ {K V : Type 0} (same : K → K → Bool) where
  others_here : (key : K) (pair : K × V) (pairs : List (K × V)) → same pair.0 key ≡ true → others same key (pair ∷ pairs) ≡ others same key pairs
  others_here key pair pairs is = cond-false (not (same pair.0 key)) (pair ∷ others same key pairs) (others same key pairs) (not_from_true _ is)

  pub others_else : (key : K) (pair : K × V) (pairs : List (K × V)) → same pair.0 key ≡ false → others same key (pair ∷ pairs) ≡ pair ∷ others same key pairs
  others_else key pair pairs is = cond-true (not (same pair.0 key)) (pair ∷ others same key pairs) (others same key pairs) (not_from_false _ is)

  pub put_here : (key : K) (value : V) (pair : K × V) (pairs : List (K × V)) → same pair.0 key ≡ true → put_in same key value (pair ∷ pairs) ≡ (pair.0, value) ∷ pairs
  put_here key value pair pairs is = cond-true (same pair.0 key) ((pair.0, value) ∷ pairs) (pair ∷ put_in same key value pairs) is

  pub put_else : (key : K) (value : V) (pair : K × V) (pairs : List (K × V)) → same pair.0 key ≡ false →
      put_in same key value (pair ∷ pairs) ≡ pair ∷ put_in same key value pairs
  put_else key value pair pairs is = cond-false (same pair.0 key) ((pair.0, value) ∷ pairs) (pair ∷ put_in same key value pairs) is

  pub latest_here : (key : K) (pair : K × V) (pairs : List (K × V)) → same pair.0 key ≡ true → latest same key (pair ∷ pairs) ≡ option_or (latest same key pairs) (Some pair.1)
  latest_here key pair pairs is = ap (option_or (latest same key pairs)) (cond-true (same pair.0 key) (Some pair.1) None is)

  pub latest_else : (key : K) (pair : K × V) (pairs : List (K × V)) → same pair.0 key ≡ false → latest same key (pair ∷ pairs) ≡ latest same key pairs
  latest_else key pair pairs is =
      ap (option_or (latest same key pairs)) (cond-false (same pair.0 key) (Some pair.1) None is) ∙ or_none (latest same key pairs)

  -- one pair more
  latest_more : (key k : K) (v : V) (pairs : List (K × V)) → latest same key (pairs ++ (k, v) ∷ []) ≡ (if same k key then Some v else latest same key pairs)
  latest_more key k v [] = refl
  latest_more key k v (pair ∷ pairs) = by_test (latest_more key k v pairs) (same k key) refl
    where
      by_test : latest same key (pairs ++ (k, v) ∷ []) ≡ (if same k key then Some v else latest same key pairs) → (t : Bool) → same k key ≡ t →
          latest same key (pair ∷ pairs ++ (k, v) ∷ []) ≡ (if same k key then Some v else latest same key (pair ∷ pairs))
      by_test rest true is =
          ap (λ o. option_or o (if same pair.0 key then Some pair.1 else None)) (rest ∙ cond-true (same k key) (Some v) (latest same key pairs) is)
          ∙ sym (cond-true (same k key) (Some v) (latest same key (pair ∷ pairs)) is)
      by_test rest false is =
          ap (λ o. option_or o (if same pair.0 key then Some pair.1 else None)) (rest ∙ cond-false (same k key) (Some v) (latest same key pairs) is)
          ∙ sym (cond-false (same k key) (Some v) (latest same key (pair ∷ pairs)) is)

  -- no pair of a key is left where those of the key are left out
  pub latest_left_out : (key : K) (pairs : List (K × V)) → latest same key (others same key pairs) ≡ None
  latest_left_out key [] = refl
  latest_left_out key (pair ∷ pairs) = by_test (latest_left_out key pairs) (same pair.0 key) refl
    where
      by_test : latest same key (others same key pairs) ≡ None → (t : Bool) → same pair.0 key ≡ t → latest same key (others same key (pair ∷ pairs)) ≡ None
      by_test rest true is = ap (latest same key) (others_here key pair pairs is) ∙ rest
      by_test rest false is = ap (latest same key) (others_else key pair pairs is) ∙ latest_else key pair (others same key pairs) is ∙ rest

  -- a key that was left out changes nothing for it
  others_put : (key : K) (value : V) (pairs : List (K × V)) → same key key ≡ true → others same key (put_in same key value pairs) ≡ others same key pairs
  others_put key value [] own = others_here key (key, value) [] own
  others_put key value (pair ∷ pairs) own = by_test (others_put key value pairs own) (same pair.0 key) refl
    where
      by_test : others same key (put_in same key value pairs) ≡ others same key pairs → (t : Bool) → same pair.0 key ≡ t → others same key (put_in same key value (pair ∷ pairs)) ≡ others same key (pair ∷ pairs)
      by_test rest true is =
          ap (others same key) (put_here key value pair pairs is) ∙ others_here key (pair.0, value) pairs is ∙ sym (others_here key pair pairs is)
      by_test rest false is =
          ap (others same key) (put_else key value pair pairs is) ∙ others_else key pair (put_in same key value pairs) is
          ∙ ap (λ l. pair ∷ l) rest ∙ sym (others_else key pair pairs is)

  -- leaving out twice
  others_commute : (a b : K) (pairs : List (K × V)) → others same a (others same b pairs) ≡ others same b (others same a pairs)
  others_commute a b [] = refl
  others_commute a b (pair ∷ pairs) = by_tests (others_commute a b pairs) (same pair.0 a) (same pair.0 b) refl refl
    where
      by_tests : others same a (others same b pairs) ≡ others same b (others same a pairs) → (s t : Bool) → same pair.0 a ≡ s → same pair.0 b ≡ t → others same a (others same b (pair ∷ pairs)) ≡ others same b (others same a (pair ∷ pairs))
      by_tests rest true true s t =
          ap (others same a) (others_here b pair pairs t) ∙ rest ∙ sym (ap (others same b) (others_here a pair pairs s))
      by_tests rest true false s t =
          ap (others same a) (others_else b pair pairs t) ∙ others_here a pair (others same b pairs) s ∙ rest
          ∙ sym (ap (others same b) (others_here a pair pairs s))
      by_tests rest false true s t =
          ap (others same a) (others_here b pair pairs t) ∙ rest ∙ sym (others_here b pair (others same a pairs) t)
          ∙ sym (ap (others same b) (others_else a pair pairs s))
      by_tests rest false false s t =
          ap (others same a) (others_else b pair pairs t) ∙ others_else a pair (others same b pairs) s ∙ ap (λ l. pair ∷ l) rest
          ∙ sym (others_else b pair (others same a pairs) t) ∙ sym (ap (others same b) (others_else a pair pairs s))

  others_twice : (key : K) (pairs : List (K × V)) → others same key (others same key pairs) ≡ others same key pairs
  others_twice key [] = refl
  others_twice key (pair ∷ pairs) = by_test (others_twice key pairs) (same pair.0 key) refl
    where
      by_test : others same key (others same key pairs) ≡ others same key pairs → (t : Bool) → same pair.0 key ≡ t → others same key (others same key (pair ∷ pairs)) ≡ others same key (pair ∷ pairs)
      by_test rest true is = ap (others same key) (others_here key pair pairs is) ∙ rest ∙ sym (others_here key pair pairs is)
      by_test rest false is =
          ap (others same key) (others_else key pair pairs is) ∙ others_else key pair (others same key pairs) is
          ∙ ap (λ l. pair ∷ l) rest ∙ sym (others_else key pair pairs is)

  -- what is kept has each key once
  apart_others : (key : K) (pairs : List (K × V)) → Apart same pairs → Apart same (others same key pairs)
  apart_others key [] apart = tt
  apart_others key (pair ∷ pairs) apart = by_test (apart_others key pairs apart.1) (same pair.0 key) refl
    where
      by_test : Apart same (others same key pairs) → (t : Bool) → same pair.0 key ≡ t → Apart same (others same key (pair ∷ pairs))
      by_test rest true is = subst (Apart same) (sym (others_here key pair pairs is)) rest
      by_test rest false is =
          subst (Apart same) (sym (others_else key pair pairs is))
          (others_commute pair.0 key pairs ∙ ap (others same key) apart.0, rest)

  apart_kept : (pairs : List (K × V)) → Apart same (kept same pairs)
  apart_kept [] = tt
  apart_kept (pair ∷ pairs) = (others_twice pair.0 (kept same pairs), apart_others pair.0 (kept same pairs) (apart_kept pairs))

  -- and is kept as it is
  pub kept_apart : (pairs : List (K × V)) → Apart same pairs → kept same pairs ≡ pairs
  kept_apart [] apart = refl
  kept_apart (pair ∷ pairs) apart =
      let rest = kept_apart pairs apart.1 in
      let none : latest same pair.0 pairs ≡ None = ap (latest same pair.0) (sym apart.0) ∙ latest_left_out pair.0 pairs in
      ap₂ (λ (o : Option V) (l : List (K × V)). (pair.0, unwrap_or o pair.1) ∷ others same pair.0 l) none rest ∙ ap (λ l. pair ∷ l) apart.0

  pub kept_twice : (pairs : List (K × V)) → kept same (kept same pairs) ≡ kept same pairs
  kept_twice pairs = kept_apart (kept same pairs) (apart_kept pairs)

  module _ (decides : (a b : K) → Decides (same a b) (a ≡ b)) where
    -- leaving one key out, and putting another in
    others_put_else : (key k : K) (v : V) (pairs : List (K × V)) → same k key ≡ false → others same key (put_in same k v pairs) ≡ put_in same k v (others same key pairs)
    others_put_else key k v [] other = others_else key (k, v) [] other
    others_put_else key k v (pair ∷ pairs) other = by_tests (others_put_else key k v pairs other) (same pair.0 k) (same pair.0 key) refl refl
      where
        by_tests : others same key (put_in same k v pairs) ≡ put_in same k v (others same key pairs) → (s t : Bool) → same pair.0 k ≡ s → same pair.0 key ≡ t → others same key (put_in same k v (pair ∷ pairs)) ≡ put_in same k v (others same key (pair ∷ pairs))
        by_tests rest true true s t = absurd (both_ways (same pair.0 key) (ap (λ q. same q key) ((decides pair.0 k).0 s) ∙ other) t)
        by_tests rest true false s t =
            ap (others same key) (put_here k v pair pairs s) ∙ others_else key (pair.0, v) pairs t
            ∙ sym (put_here k v pair (others same key pairs) s) ∙ sym (ap (put_in same k v) (others_else key pair pairs t))
        by_tests rest false true s t =
            ap (others same key) (put_else k v pair pairs s) ∙ others_here key pair (put_in same k v pairs) t ∙ rest
            ∙ sym (ap (put_in same k v) (others_here key pair pairs t))
        by_tests rest false false s t =
            ap (others same key) (put_else k v pair pairs s) ∙ others_else key pair (put_in same k v pairs) t
            ∙ ap (λ l. pair ∷ l) rest ∙ sym (put_else k v pair (others same key pairs) s)
            ∙ sym (ap (put_in same k v) (others_else key pair pairs t))

    -- one pair more
    pub kept_more : (pairs : List (K × V)) (k : K) (v : V) → kept same (pairs ++ (k, v) ∷ []) ≡ put_in same k v (kept same pairs)
    kept_more [] k v = refl
    kept_more (pair ∷ pairs) k v = by_test (kept_more pairs k v) (same k pair.0) refl
      where
        turned : same k pair.0 ≡ false → (t : Bool) → same pair.0 k ≡ t → same pair.0 k ≡ false
        turned is false other = other
        turned is true other = absurd (both_ways (same k pair.0) is ((decides k pair.0).1 (sym ((decides pair.0 k).0 other))))

        by_test : kept same (pairs ++ (k, v) ∷ []) ≡ put_in same k v (kept same pairs) → (t : Bool) → same k pair.0 ≡ t →
            kept same (pair ∷ pairs ++ (k, v) ∷ []) ≡ put_in same k v (kept same (pair ∷ pairs))
        by_test rest true is =
            let equal : k ≡ pair.0 = (decides k pair.0).0 is in
            ap₂ (λ (o : Option V) (l : List (K × V)). (pair.0, unwrap_or o pair.1) ∷ others same pair.0 l)
            (latest_more pair.0 k v pairs ∙ cond-true (same k pair.0) (Some v) (latest same pair.0 pairs) is)
            (rest ∙ ap (λ q. put_in same q v (kept same pairs)) equal)
            ∙ ap (λ l. (pair.0, v) ∷ l) (others_put pair.0 v (kept same pairs) ((decides pair.0 pair.0).1 refl))
            ∙ sym (put_here k v (pair.0, unwrap_or (latest same pair.0 pairs) pair.1) (others same pair.0 (kept same pairs))
            (ap (same pair.0) equal ∙ (decides pair.0 pair.0).1 refl))
        by_test rest false is =
            ap₂ (λ (o : Option V) (l : List (K × V)). (pair.0, unwrap_or o pair.1) ∷ others same pair.0 l)
            (latest_more pair.0 k v pairs ∙ cond-false (same k pair.0) (Some v) (latest same pair.0 pairs) is) rest
            ∙ ap (λ l. (pair.0, unwrap_or (latest same pair.0 pairs) pair.1) ∷ l) (others_put_else pair.0 k v (kept same pairs) is)
            ∙ sym (put_else k v (pair.0, unwrap_or (latest same pair.0 pairs) pair.1) (others same pair.0 (kept same pairs))
            (turned is (same pair.0 k) refl))

    kept_all : (pairs news : List (K × V)) → kept same (pairs ++ news) ≡ put_all same news (kept same pairs)
    kept_all pairs [] = ap (kept same) (append-nil pairs)
    kept_all pairs (new ∷ news) =
        ap (kept same) (sym (append_assoc pairs (new ∷ []) news)) ∙ kept_all (pairs ++ new ∷ []) news
        ∙ ap (put_all same news) (kept_more pairs new.0 new.1)

    -- what was kept stands for all that came
    pub kept_goes_on : (pairs news : List (K × V)) → kept same (kept same pairs ++ news) ≡ kept same (pairs ++ news)
    kept_goes_on pairs news = kept_all (kept same pairs) news ∙ ap (put_all same news) (kept_twice pairs) ∙ sym (kept_all pairs news)

    -- the value that came last is kept
    latest_others : (key other : K) (pairs : List (K × V)) → same other key ≡ false → latest same key (others same other pairs) ≡ latest same key pairs
    latest_others key other [] apart = refl
    latest_others key other (pair ∷ pairs) apart = by_test (latest_others key other pairs apart) (same pair.0 other) refl
      where
        by_test : latest same key (others same other pairs) ≡ latest same key pairs → (t : Bool) → same pair.0 other ≡ t → latest same key (others same other (pair ∷ pairs)) ≡ latest same key (pair ∷ pairs)
        by_test rest true is =
            ap (latest same key) (others_here other pair pairs is) ∙ rest
            ∙ sym (latest_else key pair pairs (ap (λ q. same q key) ((decides pair.0 other).0 is) ∙ apart))
        by_test rest false is =
            ap (latest same key) (others_else other pair pairs is)
            ∙ ap (λ o. option_or o (if same pair.0 key then Some pair.1 else None)) rest

    pub latest_kept : (key : K) (pairs : List (K × V)) → latest same key (kept same pairs) ≡ latest same key pairs
    latest_kept key [] = refl
    latest_kept key (pair ∷ pairs) = by_test (latest_kept key pairs) (same pair.0 key) refl
      where
        some : (o : Option V) → option_or None (Some (unwrap_or o pair.1)) ≡ option_or o (Some pair.1)
        some None = refl
        some (Some x) = refl

        by_test : latest same key (kept same pairs) ≡ latest same key pairs → (t : Bool) → same pair.0 key ≡ t → latest same key (kept same (pair ∷ pairs)) ≡ latest same key (pair ∷ pairs)
        by_test rest true is =
            let equal : pair.0 ≡ key = (decides pair.0 key).0 is in
            latest_here key (pair.0, unwrap_or (latest same pair.0 pairs) pair.1) (others same pair.0 (kept same pairs)) is
            ∙ ap (λ q. option_or (latest same key (others same q (kept same pairs))) (Some (unwrap_or (latest same q pairs) pair.1))) equal
            ∙ ap (λ o. option_or o (Some (unwrap_or (latest same key pairs) pair.1))) (latest_left_out key (kept same pairs))
            ∙ some (latest same key pairs) ∙ sym (latest_here key pair pairs is)
        by_test rest false is =
            latest_else key (pair.0, unwrap_or (latest same pair.0 pairs) pair.1) (others same pair.0 (kept same pairs)) is
            ∙ latest_others key pair.0 (kept same pairs) is ∙ rest ∙ sym (latest_else key pair pairs is)

  -- the keys stand in the order in which they first came
  keys_others : (key : K) (pairs : List (K × V)) → map (λ pair. pair.0) (others same key pairs) ≡ filter (λ other. not (same other key)) (map (λ pair. pair.0) pairs)
  keys_others key [] = refl
  keys_others key (pair ∷ pairs) = by_test (keys_others key pairs) (same pair.0 key) refl
    where
      by_test : map (λ p. p.0) (others same key pairs) ≡ filter (λ other. not (same other key)) (map (λ p. p.0) pairs) → (t : Bool) → same pair.0 key ≡ t →
          map (λ p. p.0) (others same key (pair ∷ pairs)) ≡ filter (λ other. not (same other key)) (map (λ p. p.0) (pair ∷ pairs))
      by_test rest true is =
          ap (map (λ p. p.0)) (others_here key pair pairs is) ∙ rest
          ∙ sym (cond-false (not (same pair.0 key)) (pair.0 ∷ filter (λ other. not (same other key)) (map (λ p. p.0) pairs)) _ (not_from_true _ is))
      by_test rest false is =
          ap (map (λ p. p.0)) (others_else key pair pairs is) ∙ ap (λ l. pair.0 ∷ l) rest
          ∙ sym (cond-true (not (same pair.0 key)) (pair.0 ∷ filter (λ other. not (same other key)) (map (λ p. p.0) pairs)) _ (not_from_false _ is))

  pub keys_kept : (pairs : List (K × V)) → map (λ pair. pair.0) (kept same pairs) ≡ firsts same (map (λ pair. pair.0) pairs)
  keys_kept [] = refl
  keys_kept (pair ∷ pairs) =
      ap (λ l. pair.0 ∷ l) (keys_others pair.0 (kept same pairs) ∙ ap (filter (λ other. not (same other pair.0))) (keys_kept pairs))
