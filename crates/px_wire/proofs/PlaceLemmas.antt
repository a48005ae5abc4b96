-- A slot among the others: its life stands at the same place, and no other is of its slot or its side.
use Rattle.std.proofs.Common.{◌≡◌, ◌∙◌, Bool, true, false, refl, ap, sym, subst, List, [], ◌∷◌, ◌++◌, ◌==◌, map, Option}
use Rattle.std.specs.List.{list_any}
use Rattle.std.proofs.lemmas.Bool.{eq-eqb, ne_eqb, eqb-true}
use Rattle.px_event.specs.Trace.{is_same_side}
use Rattle.px_event.specs.declared.side.Side.{Side}
use Rattle.px_event.specs.declared.side.Side.TheVariants.{Client, Server}
use Rattle.px_event.specs.declared.heard.Heard.{Heard}
use Rattle.px_wire.specs.declared.endpoint.Endpoint.{Endpoint}
use Rattle.px_wire.specs.Ledger.{Life, is_life_at, is_life_of}
use Rattle.px_wire.specs.Stands.{Busy, Fits, AllFit, Name, name_of, Apart, ApartFrom, Distinct}

-- the pairs around one
pub record Split (R : Endpoint → Life → Type 0) (front back : List Endpoint) (endpoint : Endpoint) (lives : List Life) : Type 0 where
  pub before : List Life
  pub life : Life
  pub behind : List Life
  pub lives_are : lives ≡ before ++ life ∷ behind
  pub fits : R endpoint life
  pub front_fits : AllFit R front before
  pub back_fits : AllFit R back behind

pub split : (R : Endpoint → Life → Type 0) (front back : List Endpoint) (endpoint : Endpoint) (lives : List Life)
    → AllFit R (front ++ endpoint ∷ back) lives → Split R front back endpoint lives
split R [] back endpoint [] fit = absurd fit
split R [] back endpoint (life ∷ lives) fit =
    record { before = []; life = life; behind = lives; lives_are = refl; fits = fit.0; front_fits = tt; back_fits = fit.1 }
split R (first ∷ front) back endpoint [] fit = absurd fit
split R (first ∷ front) back endpoint (life ∷ lives) fit =
    let rest = split R front back endpoint lives fit.1 in record {
      before = life ∷ rest.before;
      life = rest.life;
      behind = rest.behind;
      lives_are = ap (λ (xs : List Life). life ∷ xs) rest.lives_are;
      fits = rest.fits;
      front_fits = (fit.0, rest.front_fits);
      back_fits = rest.back_fits;
    }

-- pairs behind pairs
pub joined : (R : Endpoint → Life → Type 0) (front back : List Endpoint) (before behind : List Life)
    → AllFit R front before → AllFit R back behind → AllFit R (front ++ back) (before ++ behind)
joined R [] back [] behind fits others = others
joined R [] back (life ∷ before) behind fits others = absurd fits
joined R (endpoint ∷ front) back [] behind fits others = absurd fits
joined R (endpoint ∷ front) back (life ∷ before) behind fits others = (fits.0, joined R front back before behind fits.1 others)

-- another relation at each of them, which may use that each is apart from a slot
pub refit : (R R' : Endpoint → Life → Type 0) (name : Name) → ((endpoint : Endpoint) (life : Life) → Apart name (name_of endpoint) → R endpoint life → R' endpoint life)
    → (endpoints : List Endpoint) (lives : List Life) → ApartFrom name (map name_of endpoints) → AllFit R endpoints lives → AllFit R' endpoints lives
refit R R' name change [] [] apart fits = tt
refit R R' name change [] (life ∷ lives) apart fits = absurd fits
refit R R' name change (endpoint ∷ endpoints) [] apart fits = absurd fits
refit R R' name change (endpoint ∷ endpoints) (life ∷ lives) apart fits = (change endpoint life apart.0 fits.0, refit R R' name change endpoints lives apart.1 fits.1)

pub refit_all : (R R' : Endpoint → Life → Type 0) → ((endpoint : Endpoint) (life : Life) → R endpoint life → R' endpoint life)
    → (endpoints : List Endpoint) (lives : List Life) → AllFit R endpoints lives → AllFit R' endpoints lives
refit_all R R' change [] [] fits = tt
refit_all R R' change [] (life ∷ lives) fits = absurd fits
refit_all R R' change (endpoint ∷ endpoints) [] fits = absurd fits
refit_all R R' change (endpoint ∷ endpoints) (life ∷ lives) fits = (change endpoint life fits.0, refit_all R R' change endpoints lives fits.1)

pub apart_sym : (a b : Name) → Apart a b → Apart b a
apart_sym a b apart = record { slots = λ e. apart.slots (sym e); sides = λ e f. apart.sides (sym e) (sym f) }

apart_around : (x n : Name) (xs ys : List Name) → ApartFrom x (xs ++ n ∷ ys) → Apart x n × ApartFrom x (xs ++ ys)
apart_around x n [] ys apart = apart
apart_around x n (y ∷ xs) ys apart = let rest = apart_around x n xs ys apart.1 in (rest.0, (apart.0, rest.1))

-- one apart from all others, and these from each other
pub record Around (n : Name) (xs ys : List Name) : Type 0 where
  pub front : ApartFrom n xs
  pub back : ApartFrom n ys
  pub rest : Distinct (xs ++ ys)

pub around : (n : Name) (xs ys : List Name) → Distinct (xs ++ n ∷ ys) → Around n xs ys
around n [] ys distinct = record { front = tt; back = distinct.0; rest = distinct.1 }
around n (x ∷ xs) ys distinct =
    let a = apart_around x n xs ys distinct.0 in
    let r = around n xs ys distinct.1 in
    record { front = (apart_sym x n a.0, r.front); back = r.back; rest = (a.1, r.rest) }

-- one more at the end
apart_more : (x n : Name) (xs : List Name) → ApartFrom x xs → Apart x n → ApartFrom x (xs ++ n ∷ [])
apart_more x n [] apart last = (last, tt)
apart_more x n (y ∷ xs) apart last = (apart.0, apart_more x n xs apart.1 last)

pub distinct_more : (n : Name) (xs : List Name) → Distinct xs → ApartFrom n xs → Distinct (xs ++ n ∷ [])
distinct_more n [] distinct apart = (tt, tt)
distinct_more n (x ∷ xs) distinct apart = (apart_more x n xs distinct.0 (apart_sym n x apart.0), distinct_more n xs distinct.1 apart.1)

pub side_self : (side : Side) → is_same_side side side ≡ true
side_self Client = refl
side_self (Server n) = eq-eqb n n refl

pub side_same : (a b : Side) → is_same_side a b ≡ true → a ≡ b
side_same Client Client is = refl
side_same Client (Server n) is = cc
side_same (Server n) Client is = cc
side_same (Server n) (Server m) is = ap Server (eqb-true n m is)

-- the tests at a life of another name
pub other_slot : (name : Name) (endpoint : Endpoint) (life : Life) → Apart name (name_of endpoint) → endpoint.slot ≡ life.slot → is_life_at name.slot life ≡ false
other_slot name endpoint life apart slot = ne_eqb life.slot name.slot (λ e. apart.slots (sym (slot ∙ e)))

pub other_side : (name : Name) (endpoint : Endpoint) (life : Life) → Apart name (name_of endpoint) → endpoint.conv ≡ life.conv → endpoint.side ≡ life.side → is_life_of name.conv name.side life ≡ false
other_side name endpoint life apart conv side = by (life.conv == name.conv) refl (is_same_side life.side name.side) refl
  where
    by : (a : Bool) → (life.conv == name.conv) ≡ a → (b : Bool) → is_same_side life.side name.side ≡ b → is_life_of name.conv name.side life ≡ false
    by false is b same = rw is refl
    by true is false same = rw (is, same) refl
    by true is true same = absurd (apart.sides (sym (conv ∙ eqb-true life.conv name.conv is)) (sym (side ∙ side_same life.side name.side same)))

-- no life of the others is at the slot, or of the side
pub record Misses (name : Name) (lives : List Life) : Type 0 where
  pub slot : list_any (is_life_at name.slot) lives ≡ false
  pub side : list_any (is_life_of name.conv name.side) lives ≡ false

pub misses : (busy : Busy) (owed : Option Heard) (name : Name) (endpoints : List Endpoint) (lives : List Life) → ApartFrom name (map name_of endpoints)
    → AllFit (Fits busy owed) endpoints lives → Misses name lives
misses busy owed name [] [] apart fits = record { slot = refl; side = refl }
misses busy owed name [] (life ∷ lives) apart fits = absurd fits
misses busy owed name (endpoint ∷ endpoints) [] apart fits = absurd fits
misses busy owed name (endpoint ∷ endpoints) (life ∷ lives) apart fits =
    let rest = misses busy owed name endpoints lives apart.1 fits.1 in record {
      slot = rw (other_slot name endpoint life apart.0 fits.0.slot, rest.slot) refl;
      side = rw (other_side name endpoint life apart.0 fits.0.conv fits.0.side, rest.side) refl;
    }

-- its own life passes both tests
pub own_slot : (endpoint : Endpoint) (life : Life) → endpoint.slot ≡ life.slot → is_life_at endpoint.slot life ≡ true
own_slot endpoint life slot = eq-eqb life.slot endpoint.slot (sym slot)

pub own_side : (endpoint : Endpoint) (life : Life) → endpoint.conv ≡ life.conv → endpoint.side ≡ life.side → is_life_of endpoint.conv endpoint.side life ≡ true
own_side endpoint life conv side =
    let same : is_same_side life.side endpoint.side ≡ true = (let P : Side → Type 0 = λ s. is_same_side s endpoint.side ≡ true in subst P side (side_self endpoint.side)) in
    rw (eq-eqb life.conv endpoint.conv (sym conv), same) refl
