-- What one call more makes of what stands: one slot is changed, none is, one is shut, or one is given.
use Rattle.std.proofs.Common.{◌≡◌, ◌≢◌, ◌∙◌, ℕ, ◌<◌, ◌≤◌, Bool, true, false, refl, ap, sym, arith, subst, List, [], ◌∷◌, ◌++◌, ◌==◌, map, Option, None}
use Rattle.std.specs.Prelude.{not}
use Rattle.std.specs.List.{list_any}
use Rattle.std.proofs.lemmas.Bool.{eq-eqb, ne_eqb, eqb-true}
use Rattle.std.proofs.lemmas.Map.Views.{any-filter_same}
use Rattle.px_event.specs.declared.side.Side.TheVariants.{Client}
use Rattle.px_event.specs.declared.heard.Heard.{Heard}
use Rattle.px_wire.specs.declared.endpoint.Endpoint.{Endpoint}
use Rattle.px_wire.specs.declared.call.WireCall.{WireCall}
use Rattle.px_wire.specs.Calls.{Calls, slots_of, slots_after, without_slot}
use Rattle.px_wire.specs.Ledger.{Life, Ledger, ledger, after, change_first, move_first, drop_first, is_life_at, is_life_of, number_end}
use Rattle.px_wire.specs.Rules.{FirstIs, Allowed}
use Rattle.px_wire.specs.Stands.{Busy, Fits, AllFit, Name, name_of, Apart, ApartFrom, Distinct, IsUsed, AllUsed, Stands}
use Rattle.px_wire.proofs.LedgerLemmas.{ledger_more, slots_more, obeys_more, change_here, move_here, drop_here, first_here}
use Rattle.px_wire.proofs.PlaceLemmas.{Split, split, joined, refit, refit_all, Around, around, Misses, misses, own_slot, own_side, distinct_more}

pub names_around : (front back : List Endpoint) (endpoint : Endpoint) → map name_of (front ++ endpoint ∷ back) ≡ map name_of front ++ name_of endpoint ∷ map name_of back
names_around [] back endpoint = refl
names_around (first ∷ front) back endpoint = ap (λ (ns : List Name). name_of first ∷ ns) (names_around front back endpoint)

pub names_joined : (front back : List Endpoint) → map name_of (front ++ back) ≡ map name_of front ++ map name_of back
names_joined [] back = refl
names_joined (first ∷ front) back = ap (λ (ns : List Name). name_of first ∷ ns) (names_joined front back)

names_same : (front back : List Endpoint) (endpoint new : Endpoint) → name_of new ≡ name_of endpoint → map name_of (front ++ new ∷ back) ≡ map name_of (front ++ endpoint ∷ back)
names_same [] back endpoint new same = ap (λ (n : Name). n ∷ map name_of back) same
names_same (first ∷ front) back endpoint new same = ap (λ (ns : List Name). name_of first ∷ ns) (names_same front back endpoint new same)

-- a slot stays in use where another is shut
pub stays_used : (slot : ℕ) (slots : List ℕ) (accepted : ℕ) (other : Name) → slot ≢ other.slot → IsUsed slots accepted other → IsUsed (without_slot slot slots) accepted other
stays_used slot slots accepted other differs used = record {
  used = any-filter_same (λ k. k == other.slot) (λ k. not (k == slot)) true
      (λ k is. (let no : (k == slot) ≡ false = ne_eqb k slot (λ e. differs (sym e ∙ eqb-true k other.slot is)) in rw no refl)) slots ∙ used.used;
  numbered = used.numbered;
}

used_without_all : (name : Name) (slots : List ℕ) (accepted : ℕ) (names : List Name) → ApartFrom name names → AllUsed slots accepted names → AllUsed (without_slot name.slot slots) accepted names
used_without_all name slots accepted [] apart used = tt
used_without_all name slots accepted (other ∷ names) apart used =
    (stays_used name.slot slots accepted other apart.0.slots used.0, used_without_all name slots accepted names apart.1 used.1)

pub used_without : (name : Name) (slots : List ℕ) (accepted : ℕ) (front back : List Name) → ApartFrom name front → ApartFrom name back
    → AllUsed slots accepted (front ++ name ∷ back) → AllUsed (without_slot name.slot slots) accepted (front ++ back)
used_without name slots accepted [] back apart others used = used_without_all name slots accepted back others used.1
used_without name slots accepted (first ∷ front) back apart others used =
    (stays_used name.slot slots accepted first apart.0.slots used.0, used_without name slots accepted front back apart.1 others used.1)

-- and where one more is given
pub used_last : (slot : ℕ) (slots : List ℕ) → list_any (λ other. other == slot) (slots ++ slot ∷ []) ≡ true
used_last slot [] = rw (eq-eqb slot slot refl) refl
used_last slot (first ∷ slots) = by (first == slot) refl (used_last slot slots)
  where
    by : (b : Bool) → (first == slot) ≡ b → list_any (λ other. other == slot) (slots ++ slot ∷ []) ≡ true → list_any (λ other. other == slot) ((first ∷ slots) ++ slot ∷ []) ≡ true
    by true is rest = rw is refl
    by false is rest = rw is rest

pub used_still : (slot other : ℕ) (slots : List ℕ) → list_any (λ s. s == other) slots ≡ true → list_any (λ s. s == other) (slots ++ slot ∷ []) ≡ true
used_still slot other [] used = cc
used_still slot other (first ∷ slots) used = by (first == other) refl (used_still slot other slots)
  where
    by : (b : Bool) → (first == other) ≡ b → (list_any (λ s. s == other) slots ≡ true → list_any (λ s. s == other) (slots ++ slot ∷ []) ≡ true)
        → list_any (λ s. s == other) ((first ∷ slots) ++ slot ∷ []) ≡ true
    by true is rest = rw is refl
    by false is rest = let others : list_any (λ s. s == other) slots ≡ true = rw is at used in rw is (rest others)

pub used_more : (slot : ℕ) (slots : List ℕ) (accepted accepted' : ℕ) → accepted ≤ accepted' → (names : List Name) (name : Name) → AllUsed slots accepted names
    → IsUsed (slots ++ slot ∷ []) accepted' name → AllUsed (slots ++ slot ∷ []) accepted' (names ++ name ∷ [])
used_more slot slots accepted accepted' more [] name used last = (last, tt)
used_more slot slots accepted accepted' more (other ∷ names) name used last = (
  record { used = used_still slot other.slot slots used.0.used; numbered = λ is. (let below : other.conv < accepted = used.0.numbered is in omega arith) },
  used_more slot slots accepted accepted' more names name used.1 last,
)

-- what is in use, but for one
pub used_rest : (slots : List ℕ) (accepted : ℕ) (xs ys : List Name) (name : Name) → AllUsed slots accepted (xs ++ name ∷ ys) → IsUsed slots accepted name × AllUsed slots accepted (xs ++ ys)
used_rest slots accepted [] ys name used = used
used_rest slots accepted (x ∷ xs) ys name used = let rest = used_rest slots accepted xs ys name used.1 in (rest.0, (used.0, rest.1))

pub apart_join : (name : Name) (xs ys : List Name) → ApartFrom name xs → ApartFrom name ys → ApartFrom name (xs ++ ys)
apart_join name [] ys a b = b
apart_join name (x ∷ xs) ys a b = (a.0, apart_join name xs ys a.1 b)

used_behind : (slots : List ℕ) (accepted : ℕ) (names : List Name) (last : Name) → AllUsed slots accepted names → IsUsed slots accepted last → AllUsed slots accepted (names ++ last ∷ [])
used_behind slots accepted [] last used is = (is, tt)
used_behind slots accepted (name ∷ names) last used is = (used.0, used_behind slots accepted names last used.1 is)

-- what a call makes of all but the lives
pub record Rest (l : Ledger) (call : WireCall) (accepted moment : ℕ) (owed : Option Heard) : Type 0 where
  pub accepted_is : accepted ≡ (after l call).accepted
  pub moment_is : moment ≡ (after l call).moment
  pub owed_is : (after l call).owed ≡ owed
  pub refused_is : (after l call).refused ≡ None

-- how a slot may be changed, and the others with it
pub record Change (busy busy' : Busy) (owed owed' : Option Heard) (endpoint endpoint' : Endpoint) (f : Life → Life) : Type 0 where
  pub name : name_of endpoint' ≡ name_of endpoint
  pub fits : (life : Life) → Fits busy owed endpoint life → Fits busy' owed' endpoint' (f life)
  pub others : (other : Endpoint) (life : Life) → Apart (name_of endpoint) (name_of other) → Fits busy owed other life → Fits busy' owed' other life

module _ (busy : Busy) (owed : Option Heard) (front back : List Endpoint) (endpoint : Endpoint) (accepted moment : ℕ) (list : Calls)
    (stands : Stands busy owed (front ++ endpoint ∷ back) accepted moment list) where
  -- the lives around its own
  pub here : Split (Fits busy owed) front back endpoint (ledger list).lives
  here = split (Fits busy owed) front back endpoint (ledger list).lives stands.fits

  pub apart : Around (name_of endpoint) (map name_of front) (map name_of back)
  apart = around (name_of endpoint) (map name_of front) (map name_of back)
      (let P : List Name → Type 0 = Distinct in subst P (names_around front back endpoint) stands.distinct)

  pub before_misses : Misses (name_of endpoint) here.before
  before_misses = misses busy owed (name_of endpoint) front here.before apart.front here.front_fits

  -- what its life is, is what the first life of the slot is, and of the side
  pub first_at_slot : (P : Life → Type 0) → ((life : Life) → Fits busy owed endpoint life → P life) → FirstIs (is_life_at endpoint.slot) P (ledger list).lives
  first_at_slot P holds =
      let Q : List Life → Type 0 = λ lives. FirstIs (is_life_at endpoint.slot) P lives in
      subst Q (sym here.lives_are) (first_here (is_life_at endpoint.slot) P here.before here.life here.behind before_misses.slot
      (own_slot endpoint here.life here.fits.slot) (holds here.life here.fits))

  pub first_at_side : (P : Life → Type 0) → ((life : Life) → Fits busy owed endpoint life → P life) → FirstIs (is_life_of endpoint.conv endpoint.side) P (ledger list).lives
  first_at_side P holds =
      let Q : List Life → Type 0 = λ lives. FirstIs (is_life_of endpoint.conv endpoint.side) P lives in
      subst Q (sym here.lives_are) (first_here (is_life_of endpoint.conv endpoint.side) P here.before here.life here.behind before_misses.side
      (own_side endpoint here.life here.fits.conv here.fits.side) (holds here.life here.fits))

  module _ (call : WireCall) (busy' : Busy) (owed' : Option Heard) (accepted' moment' : ℕ) (allowed : Allowed (ledger list) call) where
    -- the slot's life is changed, which stands here
    changed_by : (test : Life → Bool) (f : Life → Life) (endpoint' : Endpoint) → list_any test here.before ≡ false → test here.life ≡ true
        → (after (ledger list) call).lives ≡ change_first test f (ledger list).lives
        → Change busy busy' owed owed' endpoint endpoint' f → Rest (ledger list) call accepted moment' owed' → slots_after (slots_of list) call ≡ slots_of list
        → Stands busy' owed' (front ++ endpoint' ∷ back) accepted moment' (list ++ call ∷ [])
    changed_by test f endpoint' miss hit lives change rest slots =
        let now : ledger (list ++ call ∷ []) ≡ after (ledger list) call = ledger_more list call in
        let lives_are : (ledger (list ++ call ∷ [])).lives ≡ here.before ++ f here.life ∷ here.behind =
        ap (λ (l : Ledger). l.lives) now ∙ (lives ∙ (ap (change_first test f) here.lives_are ∙ change_here test f here.before here.life here.behind miss hit)) in
        let R : Endpoint → Life → Type 0 = Fits busy owed in
        let R' : Endpoint → Life → Type 0 = Fits busy' owed' in
        let all : AllFit R' (front ++ endpoint' ∷ back) (here.before ++ f here.life ∷ here.behind) =
        joined R' front (endpoint' ∷ back) here.before (f here.life ∷ here.behind) (refit R R' (name_of endpoint) change.others front here.before apart.front here.front_fits)
        (change.fits here.life here.fits, refit R R' (name_of endpoint) change.others back here.behind apart.back here.back_fits) in
        let P : List Life → Type 0 = λ ls. AllFit R' (front ++ endpoint' ∷ back) ls in
        let D : List Name → Type 0 = Distinct in
        let U : List ℕ → Type 0 = λ ss. AllUsed ss accepted (map name_of (front ++ endpoint' ∷ back)) in
        let V : List Name → Type 0 = λ ns. AllUsed (slots_of list) accepted ns in
        let names : map name_of (front ++ endpoint ∷ back) ≡ map name_of (front ++ endpoint' ∷ back) = sym (names_same front back endpoint endpoint' change.name) in
        record {
          fits = subst P (sym lives_are) all;
          distinct = subst D names stands.distinct;
          used = subst U (sym (slots_more list call ∙ slots)) (subst V names stands.used);
          accepted_is = rest.accepted_is ∙ ap (λ (l : Ledger). l.accepted) (sym now);
          most = stands.most;
          moment_is = rest.moment_is ∙ ap (λ (l : Ledger). l.moment) (sym now);
          owed_is = ap (λ (l : Ledger). l.owed) now ∙ rest.owed_is;
          refused_is = ap (λ (l : Ledger). l.refused) now ∙ rest.refused_is;
          obeys = obeys_more list call stands.obeys allowed;
        }

    -- and then the first life of the slot is what it was made
    pub first_after : (test : Life → Bool) (f : Life → Life) (P : Life → Type 0) → list_any test here.before ≡ false → test here.life ≡ true
        → (after (ledger list) call).lives ≡ change_first test f (ledger list).lives → (f here.life).slot ≡ here.life.slot → P (f here.life)
        → FirstIs (is_life_at endpoint.slot) P (ledger (list ++ call ∷ [])).lives
    first_after test f P miss hit lives same holds =
        let lives_are : (ledger (list ++ call ∷ [])).lives ≡ here.before ++ f here.life ∷ here.behind =
        ap (λ (l : Ledger). l.lives) (ledger_more list call) ∙ (lives ∙ (ap (change_first test f) here.lives_are ∙ change_here test f here.before here.life here.behind miss hit)) in
        let Q : List Life → Type 0 = λ ls. FirstIs (is_life_at endpoint.slot) P ls in
        subst Q (sym lives_are) (first_here (is_life_at endpoint.slot) P here.before (f here.life) here.behind before_misses.slot
        (own_slot endpoint (f here.life) (here.fits.slot ∙ sym same)) holds)

    pub changed_slot : (f : Life → Life) (endpoint' : Endpoint) → (after (ledger list) call).lives ≡ change_first (is_life_at endpoint.slot) f (ledger list).lives
        → Change busy busy' owed owed' endpoint endpoint' f → Rest (ledger list) call accepted moment' owed' → slots_after (slots_of list) call ≡ slots_of list
        → Stands busy' owed' (front ++ endpoint' ∷ back) accepted moment' (list ++ call ∷ [])
    changed_slot f endpoint' lives change rest slots =
        changed_by (is_life_at endpoint.slot) f endpoint' before_misses.slot (own_slot endpoint here.life here.fits.slot) lives change rest slots

    pub changed_side : (f : Life → Life) (endpoint' : Endpoint) → (after (ledger list) call).lives ≡ change_first (is_life_of endpoint.conv endpoint.side) f (ledger list).lives
        → Change busy busy' owed owed' endpoint endpoint' f → Rest (ledger list) call accepted moment' owed' → slots_after (slots_of list) call ≡ slots_of list
        → Stands busy' owed' (front ++ endpoint' ∷ back) accepted moment' (list ++ call ∷ [])
    changed_side f endpoint' lives change rest slots =
        changed_by (is_life_of endpoint.conv endpoint.side) f endpoint' before_misses.side (own_side endpoint here.life here.fits.conv here.fits.side) lives change rest slots

    -- the slot's life is changed, which stands here, and both go behind all others
    pub moved : (f : Life → Life) (endpoint' : Endpoint) → (after (ledger list) call).lives ≡ move_first (is_life_at endpoint.slot) f (ledger list).lives
        → Change busy busy' owed owed' endpoint endpoint' f → Rest (ledger list) call accepted moment' owed' → slots_after (slots_of list) call ≡ slots_of list
        → Stands busy' owed' ((front ++ back) ++ endpoint' ∷ []) accepted moment' (list ++ call ∷ [])
    moved f endpoint' lives change rest slots =
        let now : ledger (list ++ call ∷ []) ≡ after (ledger list) call = ledger_more list call in
        let lives_are : (ledger (list ++ call ∷ [])).lives ≡ (here.before ++ here.behind) ++ f here.life ∷ [] =
        ap (λ (l : Ledger). l.lives) now ∙ (lives ∙ (ap (move_first (is_life_at endpoint.slot) f) here.lives_are
        ∙ move_here (is_life_at endpoint.slot) f here.before here.life here.behind before_misses.slot (own_slot endpoint here.life here.fits.slot))) in
        let R : Endpoint → Life → Type 0 = Fits busy owed in
        let R' : Endpoint → Life → Type 0 = Fits busy' owed' in
        let others : AllFit R' (front ++ back) (here.before ++ here.behind) =
        joined R' front back here.before here.behind (refit R R' (name_of endpoint) change.others front here.before apart.front here.front_fits)
        (refit R R' (name_of endpoint) change.others back here.behind apart.back here.back_fits) in
        let all : AllFit R' ((front ++ back) ++ endpoint' ∷ []) ((here.before ++ here.behind) ++ f here.life ∷ []) =
        joined R' (front ++ back) (endpoint' ∷ []) (here.before ++ here.behind) (f here.life ∷ []) others (change.fits here.life here.fits, tt) in
        let some : List Name = map name_of front ++ map name_of back in
        let names : some ++ name_of endpoint ∷ [] ≡ map name_of ((front ++ back) ++ endpoint' ∷ []) =
        sym (names_around (front ++ back) [] endpoint' ∙ (ap (λ (ns : List Name). ns ++ name_of endpoint' ∷ []) (names_joined front back) ∙ ap (λ (n : Name). some ++ n ∷ []) change.name)) in
        let P : List Life → Type 0 = λ ls. AllFit R' ((front ++ back) ++ endpoint' ∷ []) ls in
        let D : List Name → Type 0 = Distinct in
        let U : List ℕ → Type 0 = λ ss. AllUsed ss accepted (map name_of ((front ++ back) ++ endpoint' ∷ [])) in
        let V : List Name → Type 0 = λ ns. AllUsed (slots_of list) accepted ns in
        let used : IsUsed (slots_of list) accepted (name_of endpoint) × AllUsed (slots_of list) accepted some =
        used_rest (slots_of list) accepted (map name_of front) (map name_of back) (name_of endpoint) (subst V (names_around front back endpoint) stands.used) in
        record {
          fits = subst P (sym lives_are) all;
          distinct = subst D names (distinct_more (name_of endpoint) some apart.rest (apart_join (name_of endpoint) (map name_of front) (map name_of back) apart.front apart.back));
          used = subst U (sym (slots_more list call ∙ slots)) (subst V names (used_behind (slots_of list) accepted some (name_of endpoint) used.1 used.0));
          accepted_is = rest.accepted_is ∙ ap (λ (l : Ledger). l.accepted) (sym now);
          most = stands.most;
          moment_is = rest.moment_is ∙ ap (λ (l : Ledger). l.moment) (sym now);
          owed_is = ap (λ (l : Ledger). l.owed) now ∙ rest.owed_is;
          refused_is = ap (λ (l : Ledger). l.refused) now ∙ rest.refused_is;
          obeys = obeys_more list call stands.obeys allowed;
        }

    -- the slot is shut: its first life, which stands here, is dropped
    pub removed : (after (ledger list) call).lives ≡ drop_first (is_life_at endpoint.slot) (ledger list).lives
        → ((other : Endpoint) (life : Life) → Apart (name_of endpoint) (name_of other) → Fits busy owed other life → Fits busy' owed' other life)
        → Rest (ledger list) call accepted moment' owed' → slots_after (slots_of list) call ≡ without_slot endpoint.slot (slots_of list)
        → Stands busy' owed' (front ++ back) accepted moment' (list ++ call ∷ [])
    removed lives others rest slots =
        let now : ledger (list ++ call ∷ []) ≡ after (ledger list) call = ledger_more list call in
        let lives_are : (ledger (list ++ call ∷ [])).lives ≡ here.before ++ here.behind =
        ap (λ (l : Ledger). l.lives) now ∙ (lives ∙ (ap (drop_first (is_life_at endpoint.slot)) here.lives_are
        ∙ drop_here (is_life_at endpoint.slot) here.before here.life here.behind before_misses.slot (own_slot endpoint here.life here.fits.slot))) in
        let R : Endpoint → Life → Type 0 = Fits busy owed in
        let R' : Endpoint → Life → Type 0 = Fits busy' owed' in
        let all : AllFit R' (front ++ back) (here.before ++ here.behind) =
        joined R' front back here.before here.behind (refit R R' (name_of endpoint) others front here.before apart.front here.front_fits)
        (refit R R' (name_of endpoint) others back here.behind apart.back here.back_fits) in
        let P : List Life → Type 0 = λ ls. AllFit R' (front ++ back) ls in
        let D : List Name → Type 0 = Distinct in
        let U : List ℕ → Type 0 = λ ss. AllUsed ss accepted (map name_of (front ++ back)) in
        let V : List Name → Type 0 = λ ns. AllUsed (slots_of list) accepted ns in
        let W : List Name → Type 0 = λ ns. AllUsed (without_slot endpoint.slot (slots_of list)) accepted ns in
        record {
          fits = subst P (sym lives_are) all;
          distinct = subst D (sym (names_joined front back)) apart.rest;
          used = subst U (sym (slots_more list call ∙ slots)) (subst W (sym (names_joined front back))
              (used_without (name_of endpoint) (slots_of list) accepted (map name_of front) (map name_of back) apart.front apart.back (subst V (names_around front back endpoint) stands.used)));
          accepted_is = rest.accepted_is ∙ ap (λ (l : Ledger). l.accepted) (sym now);
          most = stands.most;
          moment_is = rest.moment_is ∙ ap (λ (l : Ledger). l.moment) (sym now);
          owed_is = ap (λ (l : Ledger). l.owed) now ∙ rest.owed_is;
          refused_is = ap (λ (l : Ledger). l.refused) now ∙ rest.refused_is;
          obeys = obeys_more list call stands.obeys allowed;
        }

module _ (busy : Busy) (owed : Option Heard) (endpoints : List Endpoint) (accepted moment : ℕ) (list : Calls)
    (stands : Stands busy owed endpoints accepted moment list) (call : WireCall) (busy' : Busy) (owed' : Option Heard) (moment' : ℕ) (allowed : Allowed (ledger list) call) where
  -- no slot is changed
  pub kept : (after (ledger list) call).lives ≡ (ledger list).lives
      → ((other : Endpoint) (life : Life) → Fits busy owed other life → Fits busy' owed' other life)
      → Rest (ledger list) call accepted moment' owed' → slots_after (slots_of list) call ≡ slots_of list
      → Stands busy' owed' endpoints accepted moment' (list ++ call ∷ [])
  kept lives others rest slots =
      let now : ledger (list ++ call ∷ []) ≡ after (ledger list) call = ledger_more list call in
      let lives_are : (ledger (list ++ call ∷ [])).lives ≡ (ledger list).lives = ap (λ (l : Ledger). l.lives) now ∙ lives in
      let P : List Life → Type 0 = λ ls. AllFit (Fits busy' owed') endpoints ls in
      let U : List ℕ → Type 0 = λ ss. AllUsed ss accepted (map name_of endpoints) in
      record {
        fits = subst P (sym lives_are) (refit_all (Fits busy owed) (Fits busy' owed') others endpoints (ledger list).lives stands.fits);
        distinct = stands.distinct;
        used = subst U (sym (slots_more list call ∙ slots)) stands.used;
        accepted_is = rest.accepted_is ∙ ap (λ (l : Ledger). l.accepted) (sym now);
        most = stands.most;
        moment_is = rest.moment_is ∙ ap (λ (l : Ledger). l.moment) (sym now);
        owed_is = ap (λ (l : Ledger). l.owed) now ∙ rest.owed_is;
        refused_is = ap (λ (l : Ledger). l.refused) now ∙ rest.refused_is;
        obeys = obeys_more list call stands.obeys allowed;
      }

  -- a slot is given, which stands behind the others
  pub added : (endpoint : Endpoint) (life : Life) (accepted' : ℕ) → (after (ledger list) call).lives ≡ (ledger list).lives ++ life ∷ []
      → ((other : Endpoint) (life : Life) → Fits busy owed other life → Fits busy' owed' other life)
      → Fits busy' owed' endpoint life → ApartFrom (name_of endpoint) (map name_of endpoints) → accepted ≤ accepted' → accepted' ≤ number_end
      → (endpoint.side ≡ Client → endpoint.conv < accepted')
      → Rest (ledger list) call accepted' moment' owed' → slots_after (slots_of list) call ≡ slots_of list ++ endpoint.slot ∷ []
      → Stands busy' owed' (endpoints ++ endpoint ∷ []) accepted' moment' (list ++ call ∷ [])
  added endpoint life accepted' lives others new apart more most numbered rest slots =
      let now : ledger (list ++ call ∷ []) ≡ after (ledger list) call = ledger_more list call in
      let lives_are : (ledger (list ++ call ∷ [])).lives ≡ (ledger list).lives ++ life ∷ [] = ap (λ (l : Ledger). l.lives) now ∙ lives in
      let R' : Endpoint → Life → Type 0 = Fits busy' owed' in
      let P : List Life → Type 0 = λ ls. AllFit R' (endpoints ++ endpoint ∷ []) ls in
      let U : List ℕ → Type 0 = λ ss. AllUsed ss accepted' (map name_of (endpoints ++ endpoint ∷ [])) in
      let D : List Name → Type 0 = Distinct in
      let V : List Name → Type 0 = λ ns. AllUsed (slots_of list ++ endpoint.slot ∷ []) accepted' ns in
      let last : IsUsed (slots_of list ++ endpoint.slot ∷ []) accepted' (name_of endpoint) = record { used = used_last endpoint.slot (slots_of list); numbered = numbered } in
      record {
        fits = subst P (sym lives_are) (joined R' endpoints (endpoint ∷ []) (ledger list).lives (life ∷ [])
            (refit_all (Fits busy owed) R' others endpoints (ledger list).lives stands.fits) (new, tt));
        distinct = subst D (sym (names_around endpoints [] endpoint)) (distinct_more (name_of endpoint) (map name_of endpoints) stands.distinct apart);
        used = subst U (sym (slots_more list call ∙ slots)) (subst V (sym (names_around endpoints [] endpoint))
            (used_more endpoint.slot (slots_of list) accepted accepted' more (map name_of endpoints) (name_of endpoint) stands.used last));
        accepted_is = rest.accepted_is ∙ ap (λ (l : Ledger). l.accepted) (sym now);
        most = most;
        moment_is = rest.moment_is ∙ ap (λ (l : Ledger). l.moment) (sym now);
        owed_is = ap (λ (l : Ledger). l.owed) now ∙ rest.owed_is;
        refused_is = ap (λ (l : Ledger). l.refused) now ∙ rest.refused_is;
        obeys = obeys_more list call stands.obeys allowed;
      }
