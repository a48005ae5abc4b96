-- Keys that are apart, from the first on.
use Rattle.std.proofs.Common.{◌≡◌, ◌∙◌, ◌<◌, ◌+◌, ◌↔◌, ℕ, zero, suc, Bool, true, false, not, cond, IsTrue, List, [], ◌∷◌, ◌++◌, length, take, drop, get_or, Bor, Contains, BTreeSet, nat_cmp, is_eq, bytes_eq, refl, sym, ap, subst, arith, inl, inr, take-append-drop}
use Rattle.std.proofs.lemmas.Bool.{cases_Bool}
use Rattle.std.proofs.lemmas.List.{drop_more, take_more}
use Rattle.std.proofs.lemmas.List.Elements.{Contains-append_left, Contains-append_right, Contains-append_cases, Contains-push}
use Rattle.std.proofs.lemmas.Map.Text.{is_eq-slice_cmp}
use Rattle.std.proofs.lemmas.Slice.Eq.{bytes_eq-Decides}
use Rattle.std.specs.BTreeSet.{contains, Updates}
use Rattle.std.specs.Cmp.Lexicographic.{slice_cmp}
use Rattle.px_tnet.specs.Kinds.{AreApart}
use Rattle.px_tnet.specs.Tree.{keys}
use Rattle.px_tnet.specs.View.{pairs_view}
use Rattle.px_tnet.proofs.DictLemmas.{Entry}

abbrev pub names : List Entry → List (List ℕ)
names pairs = keys (pairs_view pairs)

-- the set has the keys of the pairs
abbrev pub Seen : BTreeSet (Bor (List ℕ)) → List Entry → Type 0
Seen set pairs = (key : Bor (List ℕ)) → IsTrue (contains (λ x y. slice_cmp nat_cmp x.now y.now) set key) ↔ Contains (names pairs) key.now

names-append : (ps qs : List Entry) → names (ps ++ qs) ≡ names ps ++ names qs
names-append [] qs = refl
names-append (p ∷ ps) qs = ap (λ ns. p.0.bytes ∷ ns) (names-append ps qs)

only_one : (name key : List ℕ) → Contains (name ∷ []) key → name ≡ key
only_one name key (zero, within, is) = is
only_one name key (suc i, within, is) = absurd (omega arith)

none_in_nothing : (key : List ℕ) → ¬ (Contains [] key)
none_in_nothing key (i, within, is) = absurd (omega arith)

pub apart_push : (ks : List (List ℕ)) (k : List ℕ) → AreApart ks → ¬ (Contains ks k) → AreApart (ks ++ k ∷ [])
apart_push [] k apart new = (none_in_nothing k, tt)
apart_push (x ∷ xs) k apart new = (
  (λ h. elim (Contains-append_cases xs (k ∷ []) x h) [
    | inl among ↦ apart.0 among
    | inr last ↦ new (0, omega arith, sym (only_one k x last))
  ]),
  apart_push xs k apart.1 (λ h. new (Contains-append_right (x ∷ []) xs k h)),
)

pub twice : (done more : List (List ℕ)) (k : List ℕ) → Contains done k → ¬ (AreApart (done ++ k ∷ more))
twice [] more k h apart = none_in_nothing k h
twice (x ∷ xs) more k (zero, within, is) apart =
    apart.0 (Contains-append_right xs (k ∷ more) x (0, omega arith, sym is))
twice (x ∷ xs) more k (suc i, within, is) apart = twice xs more k (i, omega arith, is) apart.1

same_test : (a b : Bor (List ℕ)) → is_eq (slice_cmp nat_cmp a.now b.now) ≡ bytes_eq a.now b.now
same_test a b = is_eq-slice_cmp a.now b.now

-- a key more is seen
pub seen_more : (set new : BTreeSet (Bor (List ℕ))) (done : List Entry) (e : Entry) (key : Bor (List ℕ)) → Seen set done
    → Updates (λ x y. slice_cmp nat_cmp x.now y.now) set new key true → key.now ≡ e.0.bytes → Seen new (done ++ e ∷ [])
seen_more set new done e key seen updates is q =
    let joined = names-append done (e ∷ []) in
    let told : contains (λ x y. slice_cmp nat_cmp x.now y.now) new q ≡ cond (bytes_eq key.now q.now) true (contains (λ x y. slice_cmp nat_cmp x.now y.now) set q) =
    updates.0 q ∙ ap (λ b. cond b true (contains (λ x y. slice_cmp nat_cmp x.now y.now) set q)) (same_test key q) in
    let P : List (List ℕ) → Type 0 = λ ns. Contains ns q.now in
    elim (cases_Bool (bytes_eq key.now q.now)) [
      | inl same ↦ (
        (λ _. subst P (sym joined) (let here : q.now ≡ e.0.bytes = sym ((bytes_eq-Decides key.now q.now).0 same) ∙ is in
            let R : List ℕ → Type 0 = λ n. Contains (names done ++ n ∷ []) q.now in subst R here (Contains-push (names done) q.now))),
        (λ _. told ∙ ap (λ b. cond b true (contains (λ x y. slice_cmp nat_cmp x.now y.now) set q)) same),
      )
      | inr other ↦ (
          let still = told ∙ ap (λ b. cond b true (contains (λ x y. slice_cmp nat_cmp x.now y.now) set q)) other in (
            (λ h. subst P (sym joined) (Contains-append_left (names done) (e.0.bytes ∷ []) q.now ((seen q).0 (sym still ∙ h)))),
            (λ h. elim (Contains-append_cases (names done) (e.0.bytes ∷ []) q.now (subst P joined h)) [
              | inl among ↦ still ∙ (seen q).1 among
              | inr last ↦ absurd (let e1 = (bytes_eq-Decides key.now q.now).1 (is ∙ only_one e.0.bytes q.now last) in let e2 = sym e1 ∙ other in cc)
            ]),
          ))
    ]

pub taken_more : (pairs : List Entry) (i : ℕ) (e : Entry) → i < length pairs → e ≡ get_or pairs i e → take (i + 1) pairs ≡ take i pairs ++ e ∷ []
taken_more pairs i e within is = take_more pairs i e within ∙ ap (λ x. take i pairs ++ x ∷ []) (sym is)

-- a key that is seen makes the keys not apart
pub not_apart : (pairs : List Entry) (i : ℕ) (e : Entry) → i < length pairs → e ≡ get_or pairs i e → Contains (names (take i pairs)) e.0.bytes
    → ¬ (AreApart (names pairs))
not_apart pairs i e within is seen apart =
    let whole : pairs ≡ take i pairs ++ e ∷ drop (i + 1) pairs =
    sym (take-append-drop i pairs) ∙ ap (λ l. take i pairs ++ l) (drop_more pairs i e within ∙ ap (λ x. x ∷ drop (i + 1) pairs) (sym is)) in
    let P : List (List ℕ) → Type 0 = AreApart in
    twice (names (take i pairs)) (names (drop (i + 1) pairs)) e.0.bytes seen
    (subst P (ap names whole ∙ names-append (take i pairs) (e ∷ drop (i + 1) pairs)) apart)

false_is : (a b : Bool) → a ≡ false → a ≡ not b → b ≡ true
false_is a true none is = refl
false_is a false none is = absurd (let e = sym none ∙ is in cc)

true_is : (a b : Bool) → a ≡ true → a ≡ not b → b ≡ false
true_is a false some is = refl
true_is a true some is = absurd (let e = sym some ∙ is in cc)

-- the key was there, so the keys are not apart
pub known_key : (set : BTreeSet (Bor (List ℕ))) (pairs : List Entry) (i : ℕ) (e : Entry) (key : Bor (List ℕ)) (added : Bool)
    → Seen set (take i pairs) → i < length pairs → e ≡ get_or pairs i e → key.now ≡ e.0.bytes → added ≡ false
    → added ≡ not (contains (λ x y. slice_cmp nat_cmp x.now y.now) set key) → ¬ (AreApart (names pairs))
known_key set pairs i e key added seen within is same none told =
    let P : List ℕ → Type 0 = λ k. Contains (names (take i pairs)) k in
    not_apart pairs i e within is (subst P same ((seen key).0 (false_is added _ none told)))

-- the key was not there, so the keys up to it are apart
pub new_key : (set new : BTreeSet (Bor (List ℕ))) (pairs : List Entry) (i : ℕ) (e : Entry) (key : Bor (List ℕ)) (added : Bool)
    → AreApart (names (take i pairs)) → Seen set (take i pairs) → i < length pairs → e ≡ get_or pairs i e → key.now ≡ e.0.bytes → added ≡ true
    → added ≡ not (contains (λ x y. slice_cmp nat_cmp x.now y.now) set key)
    → Updates (λ x y. slice_cmp nat_cmp x.now y.now) set new key true
    → AreApart (names (take (i + 1) pairs)) × Seen new (take (i + 1) pairs)
new_key set new pairs i e key added apart seen within is same some told updates =
    let more = taken_more pairs i e within is in
    let P : List Entry → Type 0 = λ ps. AreApart (names ps) × Seen new ps in
    let absent = true_is added _ some told in
    let Q : List (List ℕ) → Type 0 = AreApart in
    subst P (sym more) (
      subst Q (sym (names-append (take i pairs) (e ∷ []))) (apart_push (names (take i pairs)) e.0.bytes apart
          (λ h. let R : List ℕ → Type 0 = λ k. Contains (names (take i pairs)) k in
          let f = (seen key).1 (subst R (sym same) h) in
          let g = sym f ∙ absent in absurd (let k = g in cc))),
      seen_more set new (take i pairs) e key seen updates same,
    )
