-- What one call more makes of the ledger, and lives by their place.
use Rattle.std.proofs.Common.{◌≡◌, inl, inr, Bool, true, false, refl, ap, List, [], ◌∷◌, ◌++◌, Option, Some, None}
use Rattle.std.specs.List.{list_any, find, fold}
use Rattle.std.proofs.lemmas.List.Sums.{fold-append}
use Rattle.px_wire.specs.declared.call.WireCall.{WireCall}
use Rattle.px_wire.specs.Calls.{Calls, Tells, IfTold, slots_of, slots_after}
use Rattle.px_wire.specs.Ledger.{Life, Ledger, ledger, no_ledger, after, change_first, move_first, drop_first}
use Rattle.px_wire.specs.Rules.{FirstIs, Allowed, Obeys, ObeysFrom}

-- one call more
pub ledger_more : (list : Calls) (call : WireCall) → ledger (list ++ call ∷ []) ≡ after (ledger list) call
ledger_more list call = fold-append after no_ledger list (call ∷ [])

pub slots_more : (list : Calls) (call : WireCall) → slots_of (list ++ call ∷ []) ≡ slots_after (slots_of list) call
slots_more list call = fold-append slots_after [] list (call ∷ [])

obeys_from : (l : Ledger) (list : Calls) (call : WireCall) → ObeysFrom l list → Allowed (fold after l list) call → ObeysFrom l (list ++ call ∷ [])
obeys_from l [] call so_far next = (next, tt)
obeys_from l (first ∷ list) call so_far next = (so_far.0, obeys_from (after l first) list call so_far.1 next)

pub obeys_more : (list : Calls) (call : WireCall) → Obeys list → Allowed (ledger list) call → Obeys (list ++ call ∷ [])
obeys_more list call so_far next = obeys_from no_ledger list call so_far next

-- what holds of the calls, where they are told, after one call more
pub told_more : (P Q : Calls → Type 0) (call : WireCall) (old new : Option Calls) → Tells call old new → IfTold P old
    → ((list : Calls) → P list → Q (list ++ call ∷ [])) → IfTold Q new
told_more P Q call None new tells held step = rw tells tt
told_more P Q call (Some list) new (inl grown) held step = rw grown (step list held)
told_more P Q call (Some list) new (inr lost) held step = rw lost tt

-- and what follows from it
pub told_so : (P Q : Calls → Type 0) (told : Option Calls) → IfTold P told → ((list : Calls) → P list → Q list) → IfTold Q told
told_so P Q None held step = tt
told_so P Q (Some list) held step = step list held

pub told_both : (P Q : Calls → Type 0) (told : Option Calls) → IfTold P told → IfTold Q told → IfTold (λ list. P list × Q list) told
told_both P Q None a b = tt
told_both P Q (Some list) a b = (a, b)

module _ {A : Type 0} (test : A → Bool) (change : A → A) where
  -- the first that passes stands behind those that do not
  pub change_here : (front : List A) (item : A) (back : List A) → list_any test front ≡ false → test item ≡ true
      → change_first test change (front ++ item ∷ back) ≡ front ++ change item ∷ back
  change_here [] item back misses hits = rw hits refl
  change_here (first ∷ front) item back misses hits = by (test first) refl (λ rest. change_here front item back rest hits)
    where
      by : (b : Bool) → test first ≡ b → (list_any test front ≡ false → change_first test change (front ++ item ∷ back) ≡ front ++ change item ∷ back)
          → change_first test change ((first ∷ front) ++ item ∷ back) ≡ (first ∷ front) ++ change item ∷ back
      by true is rest = let e : true ≡ false = rw is at misses in cc
      by false is rest = let others : list_any test front ≡ false = rw is at misses in rw is (ap (λ (xs : List A). first ∷ xs) (rest others))

  pub move_here : (front : List A) (item : A) (back : List A) → list_any test front ≡ false → test item ≡ true
      → move_first test change (front ++ item ∷ back) ≡ (front ++ back) ++ change item ∷ []
  move_here [] item back misses hits = rw hits refl
  move_here (first ∷ front) item back misses hits = by (test first) refl (λ rest. move_here front item back rest hits)
    where
      by : (b : Bool) → test first ≡ b → (list_any test front ≡ false → move_first test change (front ++ item ∷ back) ≡ (front ++ back) ++ change item ∷ [])
          → move_first test change ((first ∷ front) ++ item ∷ back) ≡ ((first ∷ front) ++ back) ++ change item ∷ []
      by true is rest = let e : true ≡ false = rw is at misses in cc
      by false is rest = let others : list_any test front ≡ false = rw is at misses in rw is (ap (λ (xs : List A). first ∷ xs) (rest others))

  pub change_none : (xs : List A) → list_any test xs ≡ false → change_first test change xs ≡ xs
  change_none [] misses = refl
  change_none (first ∷ xs) misses = by (test first) refl (change_none xs)
    where
      by : (b : Bool) → test first ≡ b → (list_any test xs ≡ false → change_first test change xs ≡ xs) → change_first test change (first ∷ xs) ≡ first ∷ xs
      by true is rest = let e : true ≡ false = rw is at misses in cc
      by false is rest = let others : list_any test xs ≡ false = rw is at misses in rw is (ap (λ (xs : List A). first ∷ xs) (rest others))

module _ {A : Type 0} (test : A → Bool) where
  pub drop_here : (front : List A) (item : A) (back : List A) → list_any test front ≡ false → test item ≡ true
      → drop_first test (front ++ item ∷ back) ≡ front ++ back
  drop_here [] item back misses hits = rw hits refl
  drop_here (first ∷ front) item back misses hits = by (test first) refl (λ rest. drop_here front item back rest hits)
    where
      by : (b : Bool) → test first ≡ b → (list_any test front ≡ false → drop_first test (front ++ item ∷ back) ≡ front ++ back)
          → drop_first test ((first ∷ front) ++ item ∷ back) ≡ (first ∷ front) ++ back
      by true is rest = let e : true ≡ false = rw is at misses in cc
      by false is rest = let others : list_any test front ≡ false = rw is at misses in rw is (ap (λ (xs : List A). first ∷ xs) (rest others))

  pub drop_none : (xs : List A) → list_any test xs ≡ false → drop_first test xs ≡ xs
  drop_none [] misses = refl
  drop_none (first ∷ xs) misses = by (test first) refl (drop_none xs)
    where
      by : (b : Bool) → test first ≡ b → (list_any test xs ≡ false → drop_first test xs ≡ xs) → drop_first test (first ∷ xs) ≡ first ∷ xs
      by true is rest = let e : true ≡ false = rw is at misses in cc
      by false is rest = let others : list_any test xs ≡ false = rw is at misses in rw is (ap (λ (xs : List A). first ∷ xs) (rest others))

  pub find_here : (front : List A) (item : A) (back : List A) → list_any test front ≡ false → test item ≡ true
      → find test (front ++ item ∷ back) ≡ Some item
  find_here [] item back misses hits = rw hits refl
  find_here (first ∷ front) item back misses hits = by (test first) refl (λ rest. find_here front item back rest hits)
    where
      by : (b : Bool) → test first ≡ b → (list_any test front ≡ false → find test (front ++ item ∷ back) ≡ Some item)
          → find test ((first ∷ front) ++ item ∷ back) ≡ Some item
      by true is rest = let e : true ≡ false = rw is at misses in cc
      by false is rest = let others : list_any test front ≡ false = rw is at misses in rw is (rest others)

  pub find_none : (xs : List A) → list_any test xs ≡ false → find test xs ≡ None
  find_none [] misses = refl
  find_none (first ∷ xs) misses = by (test first) refl (find_none xs)
    where
      by : (b : Bool) → test first ≡ b → (list_any test xs ≡ false → find test xs ≡ None) → find test (first ∷ xs) ≡ None
      by true is rest = let e : true ≡ false = rw is at misses in cc
      by false is rest = let others : list_any test xs ≡ false = rw is at misses in rw is (rest others)

-- the first life that passes is so
pub first_here : (test : Life → Bool) (P : Life → Type 0) (front : List Life) (life : Life) (back : List Life) → list_any test front ≡ false → test life ≡ true → P life
    → FirstIs test P (front ++ life ∷ back)
first_here test P [] life back misses hits holds = rw hits holds
first_here test P (first ∷ front) life back misses hits holds = by (test first) refl (λ rest. first_here test P front life back rest hits holds)
  where
    by : (b : Bool) → test first ≡ b → (list_any test front ≡ false → FirstIs test P (front ++ life ∷ back)) → FirstIs test P ((first ∷ front) ++ life ∷ back)
    by true is rest = let e : true ≡ false = rw is at misses in cc
    by false is rest = let others : list_any test front ≡ false = rw is at misses in rw is (rest others)
