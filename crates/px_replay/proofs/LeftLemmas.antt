-- The places that are left, and an index of them.
use Rattle.std.proofs.Common.{◌≡◌, ◌∙◌, ℕ, zero, suc, ◌+◌, ◌≤◌, ◌<◌, Bool, true, false, not, ◌&&◌, ◌||◌, List, [], ◌∷◌, ◌++◌, length, take, drop, get_or, Option, Some, None, refl, sym, ap, ap₂, subst, arith, inl, inr, if◌then◌else◌}
use Rattle.std.specs.List.{position, position_or_len, slice_get}
use Rattle.std.specs.Prelude.{All, nat_lt, IfOk, Result, Ok, Err}
use Rattle.std.specs.BTreeMap.{BTreeMap, get, UpdatesBy}
use Rattle.std.specs.Option.{unwrap_or}
use Rattle.std.specs.Ordering.{is_eq}
use Rattle.std.specs.declared.cmp.Ordering.{Ordering}
use Rattle.std.proofs.lemmas.Bool.{cases_lt, le-ltb, lt-ltb}
use Rattle.std.proofs.lemmas.Grind.{flat_map-append}
use Rattle.std.proofs.lemmas.List.{append-nil, take_all, take_more}
use Rattle.std.proofs.lemmas.List.Elements.{All-head, All-tail}
use Rattle.std.proofs.lemmas.Option.{none-some, same_Some}
use Rattle.px_message.specs.declared.flow.Flow.{Flow}
use Rattle.px_message.specs.declared.request.Request.{Request}
use Rattle.px_text.specs.declared.no_memory.NoMemory.{NoMemory}
use Rattle.px_replay.specs.declared.key.MatchKey.{MatchKey}
use Rattle.px_replay.specs.declared.options.KeyOptions.{KeyOptions}
use Rattle.px_replay.specs.declared.recorded.Recording.{Recording}
use Rattle.px_replay.specs.Left.{Adds, Gives, GivesUnless, IsAnswerTo, IsIndex, listed, places_from}
use Rattle.px_replay.specs.declared.replay.Replay.{Replay}
use Rattle.px_replay.specs.declared.replay.Replay.TheVariants as replays
use Rattle.px_replay.specs.Key.{key_of}
use Rattle.px_replay.specs.Replaying.{IsAnswer, Replaying, may_answer, recording, recordings, use_at}
use Rattle.px_replay.specs.Same.{is_same_key}
use Rattle.px_replay.proofs.KeyLemmas.{both_tests, key_decides}
use Rattle.px_replay.proofs.PlaceLemmas.{clash, first_passes, none_before}
use Rattle.px_replay.proofs.RunLemmas.{Unused, all_unused}

-- ---- the places of those that pass

-- so many places further on
abbrev further : ℕ → Option ℕ → Option ℕ
further n None = None
further n (Some place) = Some (n + place)

-- a place, unless it is past the end
abbrev at_len : ℕ → ℕ → Option ℕ
at_len n m = if nat_lt n m then Some n else None

within_more : (n m l : ℕ) → l ≡ m + 1 → at_len (1 + n) l ≡ further 1 (at_len n m)
within_more n m l is = elim (cases_lt n m) [
  | inl less ↦ ap (λ t. if t then Some (1 + n) else None) (lt-ltb (1 + n) l (omega (arith, is, less)))
      ∙ sym (ap (λ t. further 1 (if t then Some n else None)) (lt-ltb n m less))
  | inr past ↦ ap (λ t. if t then Some (1 + n) else None) (le-ltb (1 + n) l (omega (arith, is, past)))
      ∙ sym (ap (λ t. further 1 (if t then Some n else None)) (le-ltb n m past))
]

position_more : {T : Type 0} (test : T → Bool) (x : T) (xs : List T) → test x ≡ false → position test (x ∷ xs) ≡ further 1 (position test xs)
position_more test x xs fails =
    ap (λ t. at_len (if not t then 1 + position_or_len test xs else 0) (length (x ∷ xs))) fails
    ∙ within_more (position_or_len test xs) (length xs) (length (x ∷ xs)) (omega arith)

position_here : {T : Type 0} (test : T → Bool) (x : T) (xs : List T) → test x ≡ true → position test (x ∷ xs) ≡ Some 0
position_here test x xs passes =
    ap (λ t. at_len (if not t then 1 + position_or_len test xs else 0) (length (x ∷ xs))) passes
    ∙ ap (λ t. if t then Some 0 else None) (lt-ltb 0 (length (x ∷ xs)) (omega arith))

-- the first of them is the least
first_from : {T : Type 0} (test : T → Bool) (xs : List T) (at : ℕ) → slice_get (places_from at test xs) 0 ≡ further at (position test xs)
first_from test [] at = refl
first_from test (x ∷ xs) at = by_test (first_from test xs (suc at)) (test x) refl
  where
    later : (found : Option ℕ) → further (suc at) found ≡ further at (further 1 found)
    later None = refl
    later (Some n) = ap Some (omega arith)

    by_test : slice_get (places_from (suc at) test xs) 0 ≡ further (suc at) (position test xs) → (t : Bool) → test x ≡ t →
        slice_get (places_from at test (x ∷ xs)) 0 ≡ further at (position test (x ∷ xs))
    by_test rest true is =
        ap (λ t. slice_get (if t then at ∷ places_from (suc at) test xs else places_from (suc at) test xs) 0) is
        ∙ ap Some (omega arith) ∙ ap (further at) (sym (position_here test x xs is))
    by_test rest false is =
        ap (λ t. slice_get (if t then at ∷ places_from (suc at) test xs else places_from (suc at) test xs) 0) is
        ∙ rest ∙ later (position test xs) ∙ ap (further at) (sym (position_more test x xs is))

pub first_left : {T : Type 0} (test : T → Bool) (xs : List T) → slice_get (places_from 0 test xs) 0 ≡ position test xs
first_left test xs = first_from test xs 0 ∙ as_is (position test xs)
  where
    as_is : (found : Option ℕ) → further 0 found ≡ found
    as_is None = refl
    as_is (Some n) = ap Some (omega arith)

-- items that pass alike
alike : {T : Type 0} (test other : T → Bool) (x y : T) (xs ys : List T) (at : ℕ) → test x ≡ other y →
    places_from (suc at) test xs ≡ places_from (suc at) other ys → places_from at test (x ∷ xs) ≡ places_from at other (y ∷ ys)
alike test other x y xs ys at same rest = ap₂ (λ (t : Bool) (l : List ℕ). if t then at ∷ l else l) same rest

-- one item more
places_more : {T : Type 0} (test : T → Bool) (xs : List T) (x : T) (at : ℕ) →
    places_from at test (xs ++ x ∷ []) ≡ (if test x then places_from at test xs ++ (at + length xs) ∷ [] else places_from at test xs)
places_more test [] x at = by_test (test x)
  where
    by_test : (t : Bool) → (if t then at ∷ [] else []) ≡ (if t then (at + 0) ∷ [] else [])
    by_test true = ap (λ n. n ∷ []) (omega arith)
    by_test false = refl
places_more test (y ∷ ys) x at =
    ap (λ l. if test y then at ∷ l else l) (places_more test ys x (suc at)) ∙ by_tests (test y) (test x)
  where
    by_tests : (s t : Bool) → (if s then at ∷ (if t then places_from (suc at) test ys ++ (suc at + length ys) ∷ [] else places_from (suc at) test ys)
        else (if t then places_from (suc at) test ys ++ (suc at + length ys) ∷ [] else places_from (suc at) test ys))
        ≡ (if t then (if s then at ∷ places_from (suc at) test ys else places_from (suc at) test ys) ++ (at + suc (length ys)) ∷ []
        else (if s then at ∷ places_from (suc at) test ys else places_from (suc at) test ys))
    by_tests true true = ap (λ n. at ∷ (places_from (suc at) test ys ++ n ∷ [])) (omega arith)
    by_tests true false = refl
    by_tests false true = ap (λ n. places_from (suc at) test ys ++ n ∷ []) (omega arith)
    by_tests false false = refl

-- ---- the list before the first ask

-- with one flow more
pub one_more : (how : KeyOptions) (flows : List Flow) (flow : Flow) → recordings how (flows ++ flow ∷ []) ≡ recordings how flows ++ recording how flow
one_more how flows flow =
    flat_map-append (recording how) flows (flow ∷ []) ∙ ap (λ l. recordings how flows ++ l) (append-nil (recording how flow))

none_used : (reuse : Bool) (key : MatchKey) (rs : List Recording) (at : ℕ) → All Unused rs →
    places_from at (λ r. is_same_key r.key key) rs ≡ places_from at (may_answer reuse key) rs
none_used reuse key [] at all = refl
none_used reuse key (r ∷ rs) at all =
    alike (λ r. is_same_key r.key key) (may_answer reuse key) r r rs rs at (free reuse r.used (All-head Unused r rs all))
    (none_used reuse key rs (suc at) (All-tail Unused r rs all))
  where
    free : (reuse used : Bool) → used ≡ false → is_same_key r.key key ≡ ((reuse || not used) && is_same_key r.key key)
    free true used is = refl
    free false used is = ap (λ u. not u && is_same_key r.key key) (sym is)

-- ---- the list after an ask

-- a place that is used counts for no other key
other_key : (reuse : Bool) (key : MatchKey) (place : ℕ) (rs : List Recording) (at : ℕ) (r : Recording) → slice_get rs place ≡ Some r →
    is_same_key r.key key ≡ false → places_from at (may_answer reuse key) (use_at place rs) ≡ places_from at (may_answer reuse key) rs
other_key reuse key place [] at r there other = absurd (none-some r there)
other_key reuse key zero (x ∷ xs) at r there other =
    let is : is_same_key x.key key ≡ false = ap (λ (o : Recording). is_same_key o.key key) (same_Some x r there) ∙ other in
    alike (may_answer reuse key) (may_answer reuse key) (record x { used = true }) x xs xs at
    (none (reuse || false) (is_same_key x.key key) is ∙ sym (none (reuse || not x.used) (is_same_key x.key key) is)) refl
  where
    none : (a b : Bool) → b ≡ false → (a && b) ≡ false
    none true b is = is
    none false b is = refl
other_key reuse key (suc place) (x ∷ xs) at r there other =
    alike (may_answer reuse key) (may_answer reuse key) x x (use_at place xs) xs at refl (other_key reuse key place xs (suc at) r there other)

-- with reuse it counts as before
pub used_again : (key : MatchKey) (place : ℕ) (rs : List Recording) (at : ℕ) →
    places_from at (may_answer true key) (use_at place rs) ≡ places_from at (may_answer true key) rs
used_again key place [] at = refl
used_again key zero (x ∷ xs) at = refl
used_again key (suc place) (x ∷ xs) at =
    alike (may_answer true key) (may_answer true key) x x (use_at place xs) xs at refl (used_again key place xs (suc at))

-- the least place of its key is left no more, and all others of the key are
own_key : (key : MatchKey) (place : ℕ) (rs : List Recording) (at : ℕ) (r : Recording) → slice_get rs place ≡ Some r → may_answer false key r ≡ true →
    ((k : ℕ) (o : Recording) → k < place → slice_get rs k ≡ Some o → may_answer false key o ≡ false) →
    places_from at (may_answer false key) (use_at place rs) ≡ drop 1 (places_from at (may_answer false key) rs)
own_key key place [] at r there passes before = absurd (none-some r there)
own_key key zero (x ∷ xs) at r there passes before =
    let is : may_answer false key x ≡ true = ap (may_answer false key) (same_Some x r there) ∙ passes in
    sym (ap (λ t. drop 1 (if t then at ∷ places_from (suc at) (may_answer false key) xs else places_from (suc at) (may_answer false key) xs)) is)
own_key key (suc place) (x ∷ xs) at r there passes before =
    let is : may_answer false key x ≡ false = before 0 x (omega arith) refl in
    ap (λ t. if t then at ∷ places_from (suc at) (may_answer false key) (use_at place xs) else places_from (suc at) (may_answer false key) (use_at place xs)) is
    ∙ own_key key place xs (suc at) r there passes (λ k o less at_k. before (suc k) o (omega (arith, less)) at_k)
    ∙ sym (ap (λ t. drop 1 (if t then at ∷ places_from (suc at) (may_answer false key) xs else places_from (suc at) (may_answer false key) xs)) is)

-- ---- an index

module _ (cmp : MatchKey → MatchKey → Ordering) (ties : (a b : MatchKey) → is_same_key a b ≡ is_eq (cmp a b)) where
  -- what a map has after one key's list has changed
  changes : (f : List ℕ → List ℕ) (key : MatchKey) (now : List ℕ) (old new : BTreeMap MatchKey (List ℕ)) → now ≡ f (listed cmp old key) →
      UpdatesBy cmp (cmp key) old new (Some now) → (other : MatchKey) →
      listed cmp new other ≡ (if is_same_key key other then f (listed cmp old other) else listed cmp old other)
  changes f key now old new is updates other = by_test (is_same_key key other) refl
    where
      by_test : (t : Bool) → is_same_key key other ≡ t →
          listed cmp new other ≡ (if is_same_key key other then f (listed cmp old other) else listed cmp old other)
      by_test true same =
          ap (λ o. unwrap_or o []) (updates.0 other ∙ ap (λ t. if t then Some now else get cmp old other) (sym (ties key other) ∙ same))
          ∙ is ∙ ap (λ k. f (listed cmp old k)) ((key_decides key other).0 same)
          ∙ sym (ap (λ t. if t then f (listed cmp old other) else listed cmp old other) same)
      by_test false same =
          ap (λ o. unwrap_or o []) (updates.0 other ∙ ap (λ t. if t then Some now else get cmp old other) (sym (ties key other) ∙ same))
          ∙ sym (ap (λ t. if t then f (listed cmp old other) else listed cmp old other) same)

  pub adds_at : (key copy : MatchKey) (place : ℕ) (now : List ℕ) (old mid new : BTreeMap MatchKey (List ℕ)) → now ≡ listed cmp old copy ++ place ∷ [] →
      copy ≡ key → UpdatesBy cmp (cmp copy) old mid (Some now) → mid ≡ new → Adds cmp key place old new
  adds_at key copy place now old mid new is same updates still = record {
    adds = changes (λ l. l ++ place ∷ []) key now old new (is ∙ ap (λ k. listed cmp old k ++ place ∷ []) same)
        (subst (λ m. UpdatesBy cmp (cmp key) old m (Some now)) still (subst (λ k. UpdatesBy cmp (cmp k) old mid (Some now)) same updates));
  }

  pub gives_one : (key : MatchKey) (was now : List ℕ) (old new : BTreeMap MatchKey (List ℕ)) → Some was ≡ get cmp old key →
      now ≡ drop 1 was → UpdatesBy cmp (cmp key) old new (Some now) → Gives cmp key old new
  gives_one key was now old new had is updates = record {
    gives = changes (drop 1) key now old new (is ∙ ap (λ o. drop 1 (unwrap_or o [])) had) updates;
  }

  pub gives_none : (key : MatchKey) (old new : BTreeMap MatchKey (List ℕ)) → None ≡ get cmp old key → new ≡ old → Gives cmp key old new
  gives_none key old new had same = record {
    gives = λ other. by_test other (is_same_key key other) refl;
  }
    where
      by_test : (other : MatchKey) (t : Bool) → is_same_key key other ≡ t →
          listed cmp new other ≡ (if is_same_key key other then drop 1 (listed cmp old other) else listed cmp old other)
      by_test other true is =
          let none : listed cmp old other ≡ [] = ap (listed cmp old) (sym ((key_decides key other).0 is)) ∙ ap (λ o. unwrap_or o []) (sym had) in
          ap (λ m. listed cmp m other) same ∙ none ∙ sym (ap (drop 1) none)
          ∙ sym (ap (λ t. if t then drop 1 (listed cmp old other) else listed cmp old other) is)
      by_test other false is =
          ap (λ m. listed cmp m other) same ∙ sym (ap (λ t. if t then drop 1 (listed cmp old other) else listed cmp old other) is)

  -- one place more
  pub index_more : (rs : List Recording) (place : ℕ) (r : Recording) (old new : BTreeMap MatchKey (List ℕ)) → place < length rs →
      IsIndex cmp old (λ key. places_from 0 (λ o. is_same_key o.key key) (take place rs)) → Adds cmp (get_or rs place r).key place old new →
      IsIndex cmp new (λ key. places_from 0 (λ o. is_same_key o.key key) (take (place + 1) rs))
  index_more rs place r old new within index adds = record {
    lists = λ key.
        let test : Recording → Bool = λ o. is_same_key o.key key in
        let front = take place rs in
        let x = get_or rs place r in
        adds.adds key
        ∙ ap (λ l. if test x then l ++ place ∷ [] else l) (index.lists key)
        ∙ ap (λ n. if test x then places_from 0 test front ++ n ∷ [] else places_from 0 test front) (omega (arith, length_take rs place within))
        ∙ sym (places_more test front x 0)
        ∙ ap (places_from 0 test) (sym (take_more rs place r within));
  }
    where
      length_take : (rs : List Recording) (n : ℕ) → n < length rs → length (take n rs) ≡ n
      length_take rs n within = by_rule rs n (omega (arith, within))
        where
          by_rule : (rs : List Recording) (n : ℕ) → n ≤ length rs → length (take n rs) ≡ n
          by_rule rs zero below = refl
          by_rule [] (suc n) below = absurd (omega (arith, below))
          by_rule (r ∷ rs) (suc n) below = ap suc (by_rule rs n (omega (arith, below)))

  -- before the first ask
  pub index_started : (how : KeyOptions) (reuse : Bool) (flows : List Flow) (rs : List Recording) (index : BTreeMap MatchKey (List ℕ)) → rs ≡ recordings how flows →
      IsIndex cmp index (λ key. places_from 0 (λ o. is_same_key o.key key) rs) → IsIndex cmp index (λ key. places_from 0 (may_answer reuse key) rs)
  index_started how reuse flows rs index is made = record {
    lists = λ key. made.lists key ∙ none_used reuse key rs 0 (subst (λ l. All Unused l) (sym is) (all_unused how flows));
  }

  -- after an ask that got the least place
  after_at : (key : MatchKey) (place : ℕ) (rs : List Recording) (old new : BTreeMap MatchKey (List ℕ)) (x : Recording) → slice_get rs place ≡ Some x →
      may_answer false key x ≡ true → ((n : ℕ) (o : Recording) → n < place → slice_get rs n ≡ Some o → may_answer false key o ≡ false) →
      IsIndex cmp old (λ k. places_from 0 (may_answer false k) rs) → Gives cmp key old new →
      (k : MatchKey) (t : Bool) → is_same_key key k ≡ t → listed cmp new k ≡ places_from 0 (may_answer false k) (use_at place rs)
  after_at key place rs old new x there passes before index gives k true is =
      gives.gives k ∙ ap (λ t. if t then drop 1 (listed cmp old k) else listed cmp old k) is ∙ ap (drop 1) (index.lists k)
      ∙ subst (λ q. drop 1 (places_from 0 (may_answer false q) rs) ≡ places_from 0 (may_answer false q) (use_at place rs)) ((key_decides key k).0 is)
      (sym (own_key key place rs 0 x there passes before))
  after_at key place rs old new x there passes before index gives k false is =
      let same : x.key ≡ key = (key_decides x.key key).0 (both_tests (not x.used) (is_same_key x.key key) passes).1 in
      gives.gives k ∙ ap (λ t. if t then drop 1 (listed cmp old k) else listed cmp old k) is
      ∙ index.lists k ∙ sym (other_key false k place rs 0 x there (ap (λ q. is_same_key q k) same ∙ is))

  index_after : (key : MatchKey) (place : ℕ) (rs : List Recording) (old new : BTreeMap MatchKey (List ℕ)) → position (may_answer false key) rs ≡ Some place →
      IsIndex cmp old (λ k. places_from 0 (may_answer false k) rs) → Gives cmp key old new →
      IsIndex cmp new (λ k. places_from 0 (may_answer false k) (use_at place rs))
  index_after key place rs old new first index gives =
      let found = first_passes (may_answer false key) rs place first in
      record {
        lists = λ k. after_at key place rs old new found.0 found.1 found.2
            (λ n o less at. none_before (may_answer false key) rs place n o first less at) index gives k (is_same_key key k) refl;
      }

  index_reused : (place : ℕ) (rs : List Recording) (index : BTreeMap MatchKey (List ℕ)) →
      IsIndex cmp index (λ k. places_from 0 (may_answer true k) rs) → IsIndex cmp index (λ k. places_from 0 (may_answer true k) (use_at place rs))
  index_reused place rs index is = record {
    lists = λ k. is.lists k ∙ sym (used_again k place rs 0);
  }

  pub index_marked : (reuse : Bool) (key : MatchKey) (place : ℕ) (rs : List Recording) (old new : BTreeMap MatchKey (List ℕ)) →
      position (may_answer reuse key) rs ≡ Some place → IsIndex cmp old (λ k. places_from 0 (may_answer reuse k) rs) → GivesUnless cmp reuse key old new →
      IsIndex cmp new (λ k. places_from 0 (may_answer reuse k) (use_at place rs))
  index_marked true key place rs old new first index gives =
      subst (λ m. IsIndex cmp m (λ k. places_from 0 (may_answer true k) (use_at place rs))) (sym (gives.still refl)) (index_reused place rs old index)
  index_marked false key place rs old new first index gives = index_after key place rs old new first index (gives.given refl)

-- ---- the answer by the key

pub answers : (s : Replaying) (request : Request) (key : MatchKey) → key ≡ key_of s.how request → (result : Result Replay NoMemory) →
    IfOk result (IsAnswerTo s key) → IfOk result (IsAnswer s request)
answers s request key is result told = by_result result (subst (λ k. IfOk result (IsAnswerTo s k)) is told)
  where
    by_replay : (replay : Replay) → IsAnswerTo s (key_of s.how request) replay → IsAnswer s request replay
    by_replay (replays.Found place response) told = told
    by_replay (replays.Extra extra) told = told

    by_result : (result : Result Replay NoMemory) → IfOk result (IsAnswerTo s (key_of s.how request)) → IfOk result (IsAnswer s request)
    by_result (Ok replay) told = by_replay replay told
    by_result (Err e) told = tt
