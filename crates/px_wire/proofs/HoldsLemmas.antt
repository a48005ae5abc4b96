-- The slots in use, as they are kept, after one of them has changed.
use Rattle.std.proofs.Common.{◌≡◌, ◌≢◌, ◌∙◌, ◌⊎◌, inl, inr, ℕ, ◌<◌, ◌+◌, Bool, true, false, refl, ap, sym, subst, arith, List, [], ◌∷◌, ◌++◌, ◌==◌, ◌&&◌, not, Option, Some, None}
use Rattle.std.specs.List.{list_any}
use Rattle.std.specs.Ordering.{nat_cmp}
use Rattle.std.specs.BTreeMap as tree
use Rattle.std.proofs.lemmas.Bool.{eq-eqb, eqb-true}
use Rattle.px_wire.specs.declared.endpoint.Endpoint.{Endpoint}
use Rattle.px_wire.specs.declared.endpoints.Endpoints.{Endpoints}
use Rattle.px_wire.specs.Endpoints.{holds, is_held, is_open_to_read}
use Rattle.std.specs.Prelude.{nat_eq, get_or}
use Rattle.std.specs.HashMap as hash
use Rattle.std.specs.List.{position}
use Rattle.std.proofs.lemmas.List.Quantifiers.{position-Some}
use Rattle.px_event.specs.declared.side.Side.{Side}
use Rattle.px_wire.specs.Endpoints.{is_endpoint_of}
use Rattle.px_wire.proofs.InLemmas.{same_or_not, in_append, in_left, in_here, in_around, in_other, among, any_from, Passing, any_one}
use Rattle.px_wire.proofs.MarkLemmas.{marks_from, marks_by}
use Rattle.px_wire.proofs.TidyLemmas.{tidy_alike, tidy_change, tidy_end, tidy_new, tidy_removed, tidy_same}
use Rattle.px_wire.specs.Holds.{items_in, is_empty_list, IsSideAt, Alike, IsIn, Once, IsTidy, IsTakenOut, Holds, Changes, IsMarked, MarksOnly, IsBelow, Ascend, endpoint_at, slots_at, passes, is_held_in, is_open_in, without}

-- the parts of a test
pub both_true : (a b : Bool) → (a && b) ≡ true → (a ≡ true) × (b ≡ true)
both_true true b is = (refl, is)
both_true false b is = let wrong : false ≡ true = is in cc

pub holds_conv : (other endpoint : Endpoint) → holds other endpoint ≡ true → other.conv ≡ endpoint.conv
holds_conv other endpoint is = eqb-true other.conv endpoint.conv (both_true (other.conv == endpoint.conv) _ is).0

pub opens_so : (endpoints : List Endpoint) (endpoint : Endpoint) → is_open_to_read endpoints endpoint ≡ true → (endpoint.is_readable ≡ true) × (is_held endpoints endpoint ≡ false)
opens_so endpoints endpoint is = let parts = both_true endpoint.is_readable (not (is_held endpoints endpoint)) is in (parts.0, by (is_held endpoints endpoint) refl parts.1)
  where
    by : (b : Bool) → is_held endpoints endpoint ≡ b → not (is_held endpoints endpoint) ≡ true → is_held endpoints endpoint ≡ false
    by false e opens = e
    by true e opens = let wrong : false ≡ true = rw e at opens in cc

-- One slot has changed, is new or is gone; all others are as they were, and what has to be looked at is marked.
module _ (old new : Endpoints) (slot : ℕ) (w : Option Endpoint) (endpoints after : List Endpoint) (held : Holds old endpoints)
    (others : (o : ℕ) → o ≢ slot → endpoint_at new o ≡ endpoint_at old o) (here : endpoint_at new slot ≡ w)
    (w_slot : (x : Endpoint) → w ≡ Some x → x.slot ≡ slot)
    (from : (x : Endpoint) → IsIn x after → (w ≡ Some x) ⊎ (IsIn x endpoints × (x.slot ≢ slot)))
    (stay : (x : Endpoint) → IsIn x endpoints → x.slot ≢ slot → IsIn x after)
    (place : (x : Endpoint) → w ≡ Some x → IsIn x after)
    (turns : Ascend new.next_turn after)
    (lists : (conv o : ℕ) → o ≢ slot → IsIn o (slots_at old conv) → IsIn o (slots_at new conv))
    (own : (x : Endpoint) → w ≡ Some x → IsIn slot (slots_at new x.conv))
    (marks : (conv : ℕ) → IsMarked old conv → IsMarked new conv)
    (was : (x : Endpoint) → IsIn x endpoints → x.slot ≡ slot → IsMarked new x.conv)
    (now : (x : Endpoint) → w ≡ Some x → IsMarked new x.conv)
    (ready : (x : Endpoint) → IsIn x endpoints → x.slot ≢ slot → tree.get nat_cmp old.ready x.turn ≡ Some x.slot → tree.get nat_cmp new.ready x.turn ≡ Some x.slot)
    (tidy : IsTidy new) where
  found_by : (x : Endpoint) → (w ≡ Some x) ⊎ (IsIn x endpoints × (x.slot ≢ slot)) → endpoint_at new x.slot ≡ Some x
  found_by x (inl e) = let P : ℕ → Type 0 = λ n. endpoint_at new n ≡ Some x in subst P (sym (w_slot x e)) (here ∙ e)
  found_by x (inr is) = others x.slot is.1 ∙ held.found x is.0

  kept_by : (s : ℕ) (x : Endpoint) → (s ≡ slot) ⊎ (s ≢ slot) → endpoint_at new s ≡ Some x → IsIn x after × (x.slot ≡ s)
  kept_by s x (inl e) at =
      let P : ℕ → Type 0 = λ n. endpoint_at new n ≡ Some x in
      let is : w ≡ Some x = sym here ∙ subst P e at in (place x is, w_slot x is ∙ sym e)
  kept_by s x (inr ne) at =
      let was_at = held.kept s x (sym (others s ne) ∙ at) in (stay x was_at.0 (λ e. ne (sym was_at.1 ∙ e)), was_at.1)

  listed_by : (x : Endpoint) → (w ≡ Some x) ⊎ (IsIn x endpoints × (x.slot ≢ slot)) → IsIn x.slot (slots_at new x.conv)
  listed_by x (inl e) = let P : ℕ → Type 0 = λ n. IsIn n (slots_at new x.conv) in subst P (sym (w_slot x e)) (own x e)
  listed_by x (inr is) = lists x.conv x.slot is.1 (held.listed x is.0)

  over_by : (x : Endpoint) → (w ≡ Some x) ⊎ (IsIn x endpoints × (x.slot ≢ slot)) → x.is_over ≡ true → IsMarked new x.conv
  over_by x (inl e) over = now x e
  over_by x (inr is) over = marks x.conv (held.over x is.0 over)

  open_by : (x : Endpoint) → (w ≡ Some x) ⊎ (IsIn x endpoints × (x.slot ≢ slot)) → is_open_to_read after x ≡ true → IsMarked new x.conv ⊎ (tree.get nat_cmp new.ready x.turn ≡ Some x.slot)
  open_by x (inl e) opens = inl (now x e)
  open_by x (inr is) opens = by (is_held endpoints x) refl
    where
      parts : (x.is_readable ≡ true) × (is_held after x ≡ false)
      parts = opens_so after x opens

      still : IsMarked old x.conv ⊎ (tree.get nat_cmp old.ready x.turn ≡ Some x.slot) → IsMarked new x.conv ⊎ (tree.get nat_cmp new.ready x.turn ≡ Some x.slot)
      still (inl m) = inl (marks x.conv m)
      still (inr r) = inr (ready x is.0 is.1 r)

      freed : (y : Endpoint) → IsIn y endpoints → holds y x ≡ true → (y.slot ≡ slot) ⊎ (y.slot ≢ slot) → IsMarked new x.conv
      freed y y_in h (inl e) = let P : ℕ → Type 0 = λ n. IsMarked new n in subst P (holds_conv y x h) (was y y_in e)
      freed y y_in h (inr ne) =
          let again : is_held after x ≡ true = any_from (λ o. holds o x) y after (stay y y_in ne) h in
          let wrong : true ≡ false = sym again ∙ parts.1 in cc

      by : (b : Bool) → is_held endpoints x ≡ b → IsMarked new x.conv ⊎ (tree.get nat_cmp new.ready x.turn ≡ Some x.slot)
      by false e = still (held.open_or x is.0 (rw (parts.0, e) refl))
      by true e = let p = any_one (λ o. holds o x) endpoints e in inl (freed p.one p.is_in p.is_so (same_or_not p.one.slot slot))

  pub rebuilt : Holds new after
  rebuilt = record {
    found = λ x is. found_by x (from x is);
    kept = λ s x at. kept_by s x (same_or_not s slot) at;
    turns = turns;
    listed = λ x is. listed_by x (from x is);
    over = λ x is over. over_by x (from x is) over;
    open_or = λ x is opens. open_by x (from x is) opens;
    tidy = tidy;
  }

-- the slots without one
pub in_without : (slot : ℕ) (x : Endpoint) (endpoints : List Endpoint) → IsIn x (without slot endpoints) → IsIn x endpoints × (x.slot ≢ slot)
in_without slot x [] is = absurd is
in_without slot x (endpoint ∷ endpoints) is = by (λ there. let rest = in_without slot x endpoints there in (inr rest.0, rest.1)) (endpoint.slot == slot) refl
  where
    More : Type 0
    More = IsIn x (without slot endpoints) → IsIn x (endpoint ∷ endpoints) × (x.slot ≢ slot)

    kept : More → (endpoint.slot == slot) ≡ false → IsIn x (endpoint ∷ without slot endpoints) → IsIn x (endpoint ∷ endpoints) × (x.slot ≢ slot)
    kept more e (inl same) = (inl same, λ f. let g : (endpoint.slot == slot) ≡ true = eq-eqb endpoint.slot slot (ap (λ (l : Endpoint). l.slot) same ∙ f) in let wrong : true ≡ false = sym g ∙ e in cc)
    kept more e (inr there) = more there

    by : More → (b : Bool) → (endpoint.slot == slot) ≡ b → IsIn x (endpoint ∷ endpoints) × (x.slot ≢ slot)
    by more true e = more (rw e at is)
    by more false e = kept more e (rw e at is)

pub without_in : (slot : ℕ) (x : Endpoint) (endpoints : List Endpoint) → IsIn x endpoints → x.slot ≢ slot → IsIn x (without slot endpoints)
without_in slot x [] is ne = absurd is
without_in slot x (endpoint ∷ endpoints) is ne = by (λ there. without_in slot x endpoints there ne) (endpoint.slot == slot) refl is
  where
    by : (IsIn x endpoints → IsIn x (without slot endpoints)) → (b : Bool) → (endpoint.slot == slot) ≡ b → IsIn x (endpoint ∷ endpoints) → IsIn x (without slot (endpoint ∷ endpoints))
    by more true e (inl same) = absurd (ne (sym (ap (λ (l : Endpoint). l.slot) same) ∙ eqb-true endpoint.slot slot e))
    by more true e (inr there) = rw e (more there)
    by more false e (inl same) = rw e (inl same)
    by more false e (inr there) = rw e (inr (more there))

below_without : (slot turn : ℕ) (endpoints : List Endpoint) → IsBelow turn endpoints → IsBelow turn (without slot endpoints)
below_without slot turn [] below = tt
below_without slot turn (endpoint ∷ endpoints) below = by (below_without slot turn endpoints below.1) (endpoint.slot == slot) refl
  where
    by : IsBelow turn (without slot endpoints) → (b : Bool) → (endpoint.slot == slot) ≡ b → IsBelow turn (without slot (endpoint ∷ endpoints))
    by more true e = rw e more
    by more false e = rw e (below.0, more)

pub ascend_without : (slot next : ℕ) (endpoints : List Endpoint) → Ascend next endpoints → Ascend next (without slot endpoints)
ascend_without slot next [] up = tt
ascend_without slot next (endpoint ∷ endpoints) up = by (ascend_without slot next endpoints up.2) (endpoint.slot == slot) refl
  where
    by : Ascend next (without slot endpoints) → (b : Bool) → (endpoint.slot == slot) ≡ b → Ascend next (without slot (endpoint ∷ endpoints))
    by more true e = rw e more
    by more false e = rw e (up.0, below_without slot endpoint.turn endpoints up.1, more)

below_more : (turn : ℕ) (last : Endpoint) (endpoints : List Endpoint) → IsBelow turn endpoints → turn < last.turn → IsBelow turn (endpoints ++ last ∷ [])
below_more turn last [] below more = (more, tt)
below_more turn last (endpoint ∷ endpoints) below more = (below.0, below_more turn last endpoints below.1 more)

pub ascend_more : (next : ℕ) (last : Endpoint) (endpoints : List Endpoint) → Ascend next endpoints → last.turn ≡ next → Ascend (next + 1) (endpoints ++ last ∷ [])
ascend_more next last [] up is = (omega arith, tt, tt)
ascend_more next last (endpoint ∷ endpoints) up is =
    (let a = up.0 in omega arith, below_more endpoint.turn last endpoints up.1 (let a = up.0 in omega arith), ascend_more next last endpoints up.2 is)

-- one that is changed in its place
below_change : (turn : ℕ) (front back : List Endpoint) (endpoint changed : Endpoint) → changed.turn ≡ endpoint.turn → IsBelow turn (front ++ endpoint ∷ back) → IsBelow turn (front ++ changed ∷ back)
below_change turn [] back endpoint changed same below = (let a = below.0 in omega arith, below.1)
below_change turn (first ∷ front) back endpoint changed same below = (below.0, below_change turn front back endpoint changed same below.1)

pub ascend_change : (next : ℕ) (front back : List Endpoint) (endpoint changed : Endpoint) → changed.turn ≡ endpoint.turn → Ascend next (front ++ endpoint ∷ back) → Ascend next (front ++ changed ∷ back)
ascend_change next [] back endpoint changed same up =
    let P : ℕ → Type 0 = λ n. IsBelow n back in (let a = up.0 in omega arith, subst P (sym same) up.1, up.2)
ascend_change next (first ∷ front) back endpoint changed same up =
    (up.0, below_change first.turn front back endpoint changed same up.1, ascend_change next front back endpoint changed same up.2)

-- no other has its turn
pub below_in : (turn : ℕ) (x : Endpoint) (endpoints : List Endpoint) → IsBelow turn endpoints → IsIn x endpoints → turn < x.turn
below_in turn x [] below is = absurd is
below_in turn x (endpoint ∷ endpoints) below (inl e) = let P : Endpoint → Type 0 = λ l. turn < l.turn in subst P e below.0
below_in turn x (endpoint ∷ endpoints) below (inr is) = below_in turn x endpoints below.1 is

pub other_turn : (next : ℕ) (front back : List Endpoint) (endpoint x : Endpoint) → Ascend next (front ++ endpoint ∷ back) → IsIn x (front ++ back) → x.turn ≢ endpoint.turn
other_turn next [] back endpoint x up is e = let a = below_in endpoint.turn x back up.1 is in absurd (omega arith)
other_turn next (first ∷ front) back endpoint x up (inl same) e =
    let a = below_in first.turn endpoint (front ++ endpoint ∷ back) up.1 (in_here endpoint front back) in
    let b = ap (λ (l : Endpoint). l.turn) same in absurd (omega arith)
other_turn next (first ∷ front) back endpoint x up (inr is) e = other_turn next front back endpoint x up.2 is e

-- two that have one turn are one
pub one_turn : (next : ℕ) (endpoints : List Endpoint) (x y : Endpoint) → Ascend next endpoints → IsIn x endpoints → IsIn y endpoints → y.turn ≡ x.turn → y ≡ x
one_turn next endpoints x y up x_in y_in same =
    let m = among x endpoints x_in in
    let P : List Endpoint → Type 0 = λ ls. IsIn y ls in
    let Q : List Endpoint → Type 0 = λ ls. Ascend next ls in
    elim (in_around y x m.front m.back (subst P m.are y_in)) [
      | inl e ↦ sym e
      | inr o ↦ absurd (other_turn next m.front m.back x y (subst Q m.are up) o same)
    ]

-- nor its number
pub other_slot : (t : Endpoints) (front back : List Endpoint) (endpoint x : Endpoint) → Holds t (front ++ endpoint ∷ back) → IsIn x (front ++ back) → x.slot ≢ endpoint.slot
other_slot t front back endpoint x held is e =
    let P : ℕ → Type 0 = λ n. endpoint_at t n ≡ Some x in
    let a : endpoint_at t endpoint.slot ≡ Some x = subst P e (held.found x (in_other x endpoint front back is)) in
    let b : endpoint_at t endpoint.slot ≡ Some endpoint = held.found endpoint (in_here endpoint front back) in
    let c : Some x ≡ Some endpoint = sym a ∙ b in
    let d : x ≡ endpoint = cc in
    other_turn t.next_turn front back endpoint x held.turns is (ap (λ (l : Endpoint). l.turn) d)

without_none : (slot : ℕ) (endpoints : List Endpoint) → ((x : Endpoint) → IsIn x endpoints → x.slot ≢ slot) → without slot endpoints ≡ endpoints
without_none slot [] none = refl
without_none slot (endpoint ∷ endpoints) none = by (without_none slot endpoints (λ x is. none x (inr is))) (endpoint.slot == slot) refl
  where
    by : without slot endpoints ≡ endpoints → (b : Bool) → (endpoint.slot == slot) ≡ b → without slot (endpoint ∷ endpoints) ≡ endpoint ∷ endpoints
    by rest true e = absurd (none endpoint (inl refl) (eqb-true endpoint.slot slot e))
    by rest false e = rw e (ap (λ (ls : List Endpoint). endpoint ∷ ls) rest)

without_one : (slot : ℕ) (front back : List Endpoint) (endpoint : Endpoint) → endpoint.slot ≡ slot → ((x : Endpoint) → IsIn x (front ++ back) → x.slot ≢ slot) → without slot (front ++ endpoint ∷ back) ≡ front ++ back
without_one slot [] back endpoint is none = rw (eq-eqb endpoint.slot slot is) (without_none slot back none)
without_one slot (first ∷ front) back endpoint is none = by (without_one slot front back endpoint is (λ x there. none x (inr there))) (first.slot == slot) refl
  where
    by : without slot (front ++ endpoint ∷ back) ≡ front ++ back → (b : Bool) → (first.slot == slot) ≡ b → without slot (first ∷ (front ++ endpoint ∷ back)) ≡ first ∷ (front ++ back)
    by rest true e = absurd (none first (inl refl) (eqb-true first.slot slot e))
    by rest false e = rw e (ap (λ (ls : List Endpoint). first ∷ ls) rest)

pub without_around : (t : Endpoints) (front back : List Endpoint) (endpoint : Endpoint) → Holds t (front ++ endpoint ∷ back) → without endpoint.slot (front ++ endpoint ∷ back) ≡ front ++ back
without_around t front back endpoint held = without_one endpoint.slot front back endpoint refl (λ x is. other_slot t front back endpoint x held is)

-- none has the number
pub without_missing : (slot : ℕ) (endpoints : List Endpoint) → list_any (λ (l : Endpoint). l.slot == slot) endpoints ≡ false → without slot endpoints ≡ endpoints
without_missing slot endpoints none = without_none slot endpoints
    (λ x is e. let some : list_any (λ (l : Endpoint). l.slot == slot) endpoints ≡ true = any_from (λ (l : Endpoint). l.slot == slot) x endpoints is (eq-eqb x.slot slot e) in
    let wrong : true ≡ false = sym some ∙ none in cc)

-- a slot was changed in its place
pub change_held : (old new : Endpoints) (slot : ℕ) (endpoint changed : Endpoint) (front back : List Endpoint) → Changes old new slot endpoint changed → endpoint.slot ≡ slot → changed.slot ≡ endpoint.slot → changed.conv ≡ endpoint.conv
    → changed.turn ≡ endpoint.turn → Holds old (front ++ endpoint ∷ back) → Holds new (front ++ changed ∷ back)
change_held old new slot endpoint changed front back ch is slot_is conv_is turn_is held =
    rebuilt old new slot (Some changed) (front ++ endpoint ∷ back) (front ++ changed ∷ back) held ch.others ch.here
    (λ x e. let f : changed ≡ x = cc in sym (ap (λ (l : Endpoint). l.slot) f) ∙ (slot_is ∙ is))
    (λ x there. elim (in_around x changed front back there) [
      | inl e ↦ inl (ap (λ (l : Endpoint). Some l) e)
      | inr o ↦ inr (in_other x endpoint front back o, away x o)
    ])
    (λ x there ne. elim (in_around x endpoint front back there) [
      | inl e ↦ absurd (ne (sym (ap (λ (l : Endpoint). l.slot) e) ∙ is))
      | inr o ↦ in_other x changed front back o
    ])
    (λ x e. let f : changed ≡ x = cc in let P : Endpoint → Type 0 = λ l. IsIn l (front ++ changed ∷ back) in subst P f (in_here changed front back))
    (let P : ℕ → Type 0 = λ n. Ascend n (front ++ changed ∷ back) in subst P (sym ch.next) (ascend_change old.next_turn front back endpoint changed turn_is held.turns))
    (λ conv o ne there. let P : List ℕ → Type 0 = λ ls. IsIn o ls in subst P (sym (same_list conv)) there)
    (λ x e. let f : changed ≡ x = cc in
    let conv : endpoint.conv ≡ x.conv = sym conv_is ∙ ap (λ (l : Endpoint). l.conv) f in
    let P : ℕ → Type 0 = λ n. IsIn n (slots_at old endpoint.conv) in
    let Q : ℕ → Type 0 = λ n. IsIn slot (slots_at new n) in
    let R : List ℕ → Type 0 = λ ls. IsIn slot ls in
    subst Q conv (subst R (sym (same_list endpoint.conv)) (subst P is (held.listed endpoint (in_here endpoint front back)))))
    ch.marks
    (λ x there e. elim (in_around x endpoint front back there) [
      | inl f ↦ (let P : ℕ → Type 0 = λ n. IsMarked new n in subst P (ap (λ (l : Endpoint). l.conv) f) ch.marked)
      | inr o ↦ absurd (away x o e)
    ])
    (λ x e. let f : changed ≡ x = cc in let P : ℕ → Type 0 = λ n. IsMarked new n in subst P (sym conv_is ∙ ap (λ (l : Endpoint). l.conv) f) ch.marked)
    (λ x there ne r. ap (λ m. tree.get nat_cmp m x.turn) ch.ready ∙ r)
    (tidy_change old new slot endpoint changed was ch conv_is turn_is held.tidy)
  where
    was : endpoint_at old slot ≡ Some endpoint
    was = let P : ℕ → Type 0 = λ n. endpoint_at old n ≡ Some endpoint in subst P is (held.found endpoint (in_here endpoint front back))

    away : (x : Endpoint) → IsIn x (front ++ back) → x.slot ≢ slot
    away x o e = other_slot old front back endpoint x held o (e ∙ sym is)

    same_list : (conv : ℕ) → slots_at new conv ≡ slots_at old conv
    same_list conv = ap (λ m. slots_at (record old { by_conv = m }) conv) ch.lists

-- what passes is there
pub record Passed (test : Endpoint → Bool) (o : Option Endpoint) : Type 0 where
  pub endpoint : Endpoint
  pub at : o ≡ Some endpoint
  pub is_so : test endpoint ≡ true

pub passed : (test : Endpoint → Bool) (o : Option Endpoint) → passes test o ≡ true → Passed test o
passed test None is = let wrong : false ≡ true = is in cc
passed test (Some endpoint) is = record { endpoint = endpoint; at = refl; is_so = is }

-- the slot of a side was found among those that are listed, or there is none
module _ (t : Endpoints) (conv : ℕ) (side : Side) where
  at_side : ℕ → Bool
  at_side slot = passes (is_endpoint_of conv side) (endpoint_at t slot)

  pub side_found : (seen : List ℕ) (place : ℕ) → seen ≡ slots_at t conv → Some place ≡ position (λ slot. passes (is_endpoint_of conv side) (endpoint_at t slot)) (slots_at t conv) → IsSideAt t conv side (get_or seen place 0)
  side_found seen place are is =
      let parts = position-Some (λ slot. passes (is_endpoint_of conv side) (endpoint_at t slot)) (slots_at t conv) place 0 (sym is) in
      let p = passed (is_endpoint_of conv side) (endpoint_at t (get_or (slots_at t conv) place 0)) parts.1 in
      let P : List ℕ → Type 0 = λ ls. IsSideAt t conv side (get_or ls place 0) in
      subst P (sym are) (record { endpoint = p.endpoint; at = p.at; passes_side = p.is_so })

  pub side_missing : (endpoints : List Endpoint) → Holds t endpoints → list_any (λ slot. passes (is_endpoint_of conv side) (endpoint_at t slot)) (slots_at t conv) ≡ false → list_any (is_endpoint_of conv side) endpoints ≡ false
  side_missing endpoints held none = by (list_any (is_endpoint_of conv side) endpoints) refl
    where
      there : Passing (is_endpoint_of conv side) endpoints → ⊥
      there p =
          let conv_is : p.one.conv ≡ conv = eqb-true p.one.conv conv (both_true (p.one.conv == conv) _ p.is_so).0 in
          let P : ℕ → Type 0 = λ n. IsIn p.one.slot (slots_at t n) in
          let here : passes (is_endpoint_of conv side) (endpoint_at t p.one.slot) ≡ true = rw (held.found p.one p.is_in) p.is_so in
          let some : list_any (λ slot. passes (is_endpoint_of conv side) (endpoint_at t slot)) (slots_at t conv) ≡ true =
          any_from (λ slot. passes (is_endpoint_of conv side) (endpoint_at t slot)) p.one.slot (slots_at t conv) (subst P conv_is (held.listed p.one p.is_in)) here in
          let wrong : true ≡ false = sym some ∙ none in cc

      by : (b : Bool) → list_any (is_endpoint_of conv side) endpoints ≡ b → list_any (is_endpoint_of conv side) endpoints ≡ false
      by false e = e
      by true e = absurd (there (any_one (is_endpoint_of conv side) endpoints e))

-- what is listed holds back what the slots hold back
module _ (t : Endpoints) (endpoints : List Endpoint) (held : Holds t endpoints) (endpoint : Endpoint) where
  held_there : list_any (λ slot. passes (λ other. holds other endpoint) (endpoint_at t slot)) (slots_at t endpoint.conv) ≡ true → is_held endpoints endpoint ≡ true
  held_there is =
      let p = any_one (λ slot. passes (λ other. holds other endpoint) (endpoint_at t slot)) (slots_at t endpoint.conv) is in
      let q = passed (λ other. holds other endpoint) (endpoint_at t p.one) p.is_so in
      any_from (λ other. holds other endpoint) q.endpoint endpoints (held.kept p.one q.endpoint q.at).0 q.is_so

  held_here : is_held endpoints endpoint ≡ true → is_held_in t endpoint ≡ true
  held_here is =
      let p = any_one (λ other. holds other endpoint) endpoints is in
      let P : ℕ → Type 0 = λ n. IsIn p.one.slot (slots_at t n) in
      let here : passes (λ other. holds other endpoint) (endpoint_at t p.one.slot) ≡ true = rw (held.found p.one p.is_in) p.is_so in
      any_from (λ slot. passes (λ other. holds other endpoint) (endpoint_at t slot)) p.one.slot (slots_at t endpoint.conv) (subst P (holds_conv p.one endpoint p.is_so) (held.listed p.one p.is_in)) here

  pub held_same : is_held_in t endpoint ≡ is_held endpoints endpoint
  held_same = by (is_held_in t endpoint) refl (is_held endpoints endpoint) refl
    where
      by : (a : Bool) → is_held_in t endpoint ≡ a → (b : Bool) → is_held endpoints endpoint ≡ b → is_held_in t endpoint ≡ is_held endpoints endpoint
      by true x true y = x ∙ sym y
      by false x false y = x ∙ sym y
      by true x false y = let wrong : true ≡ false = sym (held_there x) ∙ y in cc
      by false x true y = let wrong : true ≡ false = sym (held_here y) ∙ x in cc

  pub open_same : is_open_in t endpoint ≡ is_open_to_read endpoints endpoint
  open_same = ap (λ b. endpoint.is_readable && not b) held_same

-- another number
pub others_of : {X : Type 0} (slot : ℕ) (f g : ℕ → X) → ((q : ℕ) → nat_eq slot q ≡ false → f q ≡ g q) → (o : ℕ) → o ≢ slot → f o ≡ g o
others_of slot f g same o ne = by (nat_eq slot o) refl
  where
    by : (b : Bool) → nat_eq slot o ≡ b → f o ≡ g o
    by false e = same o e
    by true e = absurd (ne (sym (eqb-true slot o e)))

-- a conversation was marked
pub marked_here : (conv : ℕ) (old new : List ℕ) → new ≡ old ++ conv ∷ [] → IsIn conv new
marked_here conv old new is = let P : List ℕ → Type 0 = λ ls. IsIn conv ls in subst P (sym is) (in_here conv old [])

pub marked_still : (conv other : ℕ) (lost : Bool) (old new : List ℕ) → new ≡ old ++ conv ∷ [] → (lost ≡ true) ⊎ IsIn other old → (lost ≡ true) ⊎ IsIn other new
marked_still conv other lost old new is (inl e) = inl e
marked_still conv other lost old new is (inr there) = inr (let P : List ℕ → Type 0 = λ ls. IsIn other ls in subst P (sym is) (in_left other old (conv ∷ []) there))

-- a slot is gone
pub removed : (old gone unready unlisted new : Endpoints) (slot : ℕ) (endpoint : Endpoint) (endpoints : List Endpoint) → endpoint_at old slot ≡ Some endpoint
    → gone ≡ record old { by_slot = gone.by_slot } → endpoint_at gone slot ≡ None → ((o : ℕ) → o ≢ slot → endpoint_at gone o ≡ endpoint_at old o)
    → unready ≡ record gone { ready = unready.ready } → tree.get nat_cmp unready.ready endpoint.turn ≡ None
    → ((turn : ℕ) → turn ≢ endpoint.turn → tree.get nat_cmp unready.ready turn ≡ tree.get nat_cmp gone.ready turn)
    → unlisted ≡ record unready { by_conv = unlisted.by_conv } → IsTakenOut slot (slots_at unready endpoint.conv) (slots_at unlisted endpoint.conv)
    → ((c : ℕ) → c ≢ endpoint.conv → hash.get nat_eq unlisted.by_conv c ≡ hash.get nat_eq unready.by_conv c) → is_empty_list (hash.get nat_eq unlisted.by_conv endpoint.conv) ≡ false
    → new ≡ record unlisted { marked = new.marked; is_lost = new.is_lost } → IsMarked new endpoint.conv → ((c : ℕ) → IsMarked unlisted c → IsMarked new c)
    → (Once unlisted.marked.items → Once new.marked.items) → Holds old endpoints → Holds new (without slot endpoints)
removed old gone unready unlisted new slot endpoint endpoints at g here others r out rest u taken same filled n marked marks once held =
    rebuilt old new slot None endpoints (without slot endpoints) held
    others_so
    (same_at slot ∙ here)
    (λ x e. cc)
    (λ x is. inr (in_without slot x endpoints is))
    (λ x is ne. without_in slot x endpoints is ne)
    (λ x e. cc)
    (let P : ℕ → Type 0 = λ k. Ascend k (without slot endpoints) in subst P (sym next) (ascend_without slot old.next_turn endpoints held.turns))
    (λ c o ne is. listed c o ne (same_or_not c endpoint.conv) is)
    (λ x e. cc)
    (λ c m. marks c (unmarked c m))
    (λ x is e. let a : endpoint_at old slot ≡ Some x = (let P : ℕ → Type 0 = λ k. endpoint_at old k ≡ Some x in subst P e (held.found x is)) in
    let b : Some endpoint ≡ Some x = sym at ∙ a in let d : endpoint ≡ x = cc in
    let P : ℕ → Type 0 = λ k. IsMarked new k in subst P (ap (λ (l : Endpoint). l.conv) d) marked)
    (λ x e. cc)
    (λ x is ne was. rest_so x.turn (λ e. ne (ap (λ (l : Endpoint). l.slot) (one_turn old.next_turn endpoints endpoint x held.turns kept.0 is e) ∙ kept.1)) ∙ was)
    (tidy_removed old new slot endpoint at others_so taken_so same_so
    (ap (λ (t : Endpoints). is_empty_list (hash.get nat_eq t.by_conv endpoint.conv)) n ∙ filled)
    (ap (λ (t : Endpoints). tree.get nat_cmp t.ready endpoint.turn) n ∙ (ap (λ (t : Endpoints). tree.get nat_cmp t.ready endpoint.turn) u ∙ out))
    rest_so (λ o. once (once_before o)) held.tidy)
  where
    kept : IsIn endpoint endpoints × (endpoint.slot ≡ slot)
    kept = held.kept slot endpoint at

    same_at : (o : ℕ) → endpoint_at new o ≡ endpoint_at gone o
    same_at o = ap (λ (t : Endpoints). endpoint_at t o) n ∙ (ap (λ (t : Endpoints). endpoint_at t o) u ∙ ap (λ (t : Endpoints). endpoint_at t o) r)

    others_so : (o : ℕ) → o ≢ slot → endpoint_at new o ≡ endpoint_at old o
    others_so o ne = same_at o ∙ others o ne

    next : new.next_turn ≡ old.next_turn
    next = ap (λ (t : Endpoints). t.next_turn) n ∙ (ap (λ (t : Endpoints). t.next_turn) u ∙ (ap (λ (t : Endpoints). t.next_turn) r ∙ ap (λ (t : Endpoints). t.next_turn) g))

    unmarked : (c : ℕ) → IsMarked old c → IsMarked unlisted c
    unmarked c m = let P : Endpoints → Type 0 = λ t. IsMarked t c in subst P (sym u) (subst P (sym r) (subst P (sym g) m))

    once_before : Once old.marked.items → Once unlisted.marked.items
    once_before o = let P : Endpoints → Type 0 = λ t. Once t.marked.items in subst P (sym u) (subst P (sym r) (subst P (sym g) o))

    rest_so : (turn : ℕ) → turn ≢ endpoint.turn → tree.get nat_cmp new.ready turn ≡ tree.get nat_cmp old.ready turn
    rest_so turn ne = ap (λ (t : Endpoints). tree.get nat_cmp t.ready turn) n ∙ (ap (λ (t : Endpoints). tree.get nat_cmp t.ready turn) u ∙ (rest turn ne ∙ ap (λ (t : Endpoints). tree.get nat_cmp t.ready turn) g))

    same_so : (c : ℕ) → c ≢ endpoint.conv → hash.get nat_eq new.by_conv c ≡ hash.get nat_eq old.by_conv c
    same_so c ne = ap (λ (t : Endpoints). hash.get nat_eq t.by_conv c) n ∙ (same c ne ∙ (ap (λ (t : Endpoints). hash.get nat_eq t.by_conv c) r ∙ ap (λ (t : Endpoints). hash.get nat_eq t.by_conv c) g))

    taken_so : IsTakenOut slot (slots_at old endpoint.conv) (slots_at new endpoint.conv)
    taken_so =
        let P : List ℕ → Type 0 = λ ls. IsTakenOut slot (slots_at old endpoint.conv) ls in
        let Q : List ℕ → Type 0 = λ ls. IsTakenOut slot ls (slots_at unlisted endpoint.conv) in
        subst P (sym (ap (λ (t : Endpoints). slots_at t endpoint.conv) n)) (subst Q (ap (λ (t : Endpoints). slots_at t endpoint.conv) r ∙ ap (λ (t : Endpoints). slots_at t endpoint.conv) g) taken)

    listed : (c o : ℕ) → o ≢ slot → (c ≡ endpoint.conv) ⊎ (c ≢ endpoint.conv) → IsIn o (slots_at old c) → IsIn o (slots_at new c)
    listed c o ne (inl e) is =
        let P : ℕ → Type 0 = λ k. IsIn o (slots_at old k) in
        let Q : ℕ → Type 0 = λ k. IsIn o (slots_at new k) in subst Q (sym e) (taken_so.others o ne (subst P e is))
    listed c o ne (inr away) is = let P : List ℕ → Type 0 = λ ls. IsIn o ls in subst P (sym (ap items_in (same_so c away))) is

-- no slot has the number
pub not_there : (old new : Endpoints) (slot : ℕ) (endpoints : List Endpoint) → endpoint_at old slot ≡ None → new ≡ record old { by_slot = new.by_slot } → endpoint_at new slot ≡ None
    → ((o : ℕ) → o ≢ slot → endpoint_at new o ≡ endpoint_at old o) → Holds old endpoints → Holds new (without slot endpoints)
not_there old new slot endpoints none same here others held =
    rebuilt old new slot None endpoints (without slot endpoints) held others here
    (λ x e. cc)
    (λ x is. inr (in_without slot x endpoints is))
    (λ x is ne. without_in slot x endpoints is ne)
    (λ x e. cc)
    (let P : ℕ → Type 0 = λ k. Ascend k (without slot endpoints) in subst P (sym (ap (λ (t : Endpoints). t.next_turn) same)) (ascend_without slot old.next_turn endpoints held.turns))
    (λ c o ne is. let P : List ℕ → Type 0 = λ ls. IsIn o ls in subst P (sym (ap (λ (t : Endpoints). slots_at t c) same)) is)
    (λ x e. cc)
    (λ c m. let P : Endpoints → Type 0 = λ t. IsMarked t c in subst P (sym same) m)
    (λ x is e. let P : ℕ → Type 0 = λ k. endpoint_at old k ≡ Some x in let wrong : None ≡ Some x = sym none ∙ subst P e (held.found x is) in cc)
    (λ x e. cc)
    (λ x is ne was. ap (λ (t : Endpoints). tree.get nat_cmp t.ready x.turn) same ∙ was)
    (tidy_same old new (λ o. at o (same_or_not o slot)) (λ c. ap (λ (t : Endpoints). slots_at t c) same) (λ c. ap (λ (t : Endpoints). is_empty_list (hash.get nat_eq t.by_conv c)) same)
    (ap (λ (t : Endpoints). t.ready) same) (ap (λ (t : Endpoints). t.marked.items) same) held.tidy)
  where
    at : (o : ℕ) → (o ≡ slot) ⊎ (o ≢ slot) → endpoint_at new o ≡ endpoint_at old o
    at o (inl e) = ap (endpoint_at new) e ∙ (here ∙ (sym none ∙ ap (endpoint_at old) (sym e)))
    at o (inr ne) = others o ne

-- a slot has the last turn
module _ (old new : Endpoints) (slot : ℕ) (last : Endpoint) (endpoints : List Endpoint) (slot_is : last.slot ≡ slot) (turn : last.turn ≡ old.next_turn) (held : Holds old endpoints)
    (here : endpoint_at new slot ≡ Some last) (others : (o : ℕ) → o ≢ slot → endpoint_at new o ≡ endpoint_at old o) (next : new.next_turn ≡ old.next_turn + 1)
    (lists : (c o : ℕ) → IsIn o (slots_at old c) → IsIn o (slots_at new c)) (own : IsIn slot (slots_at new last.conv)) (marks : (c : ℕ) → IsMarked old c → IsMarked new c)
    (marked : IsMarked new last.conv) (was : (x : Endpoint) → endpoint_at old slot ≡ Some x → IsMarked new x.conv)
    (ready : (x : Endpoint) → IsIn x endpoints → x.slot ≢ slot → tree.get nat_cmp old.ready x.turn ≡ Some x.slot → tree.get nat_cmp new.ready x.turn ≡ Some x.slot) (tidy : IsTidy new) where
  from_last : (x : Endpoint) → IsIn x (without slot endpoints ++ last ∷ []) → (Some last ≡ Some x) ⊎ (IsIn x endpoints × (x.slot ≢ slot))
  from_last x is = elim (in_append x (without slot endpoints) (last ∷ []) is) [
    | inl there ↦ inr (in_without slot x endpoints there)
    | inr (inl e) ↦ inl (ap (λ (l : Endpoint). Some l) e)
    | inr (inr none) ↦ absurd none
  ]

  pub last_put : Holds new (without slot endpoints ++ last ∷ [])
  last_put = rebuilt old new slot (Some last) endpoints (without slot endpoints ++ last ∷ []) held others here
      (λ x e. let f : last ≡ x = cc in sym (ap (λ (l : Endpoint). l.slot) f) ∙ slot_is)
      from_last
      (λ x is ne. in_left x (without slot endpoints) (last ∷ []) (without_in slot x endpoints is ne))
      (λ x e. let f : last ≡ x = cc in let P : Endpoint → Type 0 = λ l. IsIn l (without slot endpoints ++ last ∷ []) in subst P f (in_here last (without slot endpoints) []))
      (let P : ℕ → Type 0 = λ k. Ascend k (without slot endpoints ++ last ∷ []) in
      subst P (sym next) (ascend_more old.next_turn last (without slot endpoints) (ascend_without slot old.next_turn endpoints held.turns) turn))
      (λ c o ne is. lists c o is)
      (λ x e. let f : last ≡ x = cc in let P : Endpoint → Type 0 = λ l. IsIn slot (slots_at new l.conv) in subst P f own)
      marks
      (λ x is e. was x (let P : ℕ → Type 0 = λ k. endpoint_at old k ≡ Some x in subst P e (held.found x is)))
      (λ x e. let f : last ≡ x = cc in let P : Endpoint → Type 0 = λ l. IsMarked new l.conv in subst P f marked)
      ready tidy

-- a slot was put behind all others
pub push_held : (t0 t1 t2 t3 t4 : Endpoints) (endpoint made : Endpoint) (endpoints : List Endpoint) → endpoint_at t0 endpoint.slot ≡ None → made ≡ record endpoint { turn = t0.next_turn }
    → t1 ≡ record t0 { next_turn = t0.next_turn + 1 } → t2 ≡ record t1 { by_conv = t2.by_conv; spare_list = t2.spare_list } → slots_at t2 endpoint.conv ≡ slots_at t1 endpoint.conv ++ endpoint.slot ∷ []
    → ((c : ℕ) → c ≢ endpoint.conv → hash.get nat_eq t2.by_conv c ≡ hash.get nat_eq t1.by_conv c) → is_empty_list (hash.get nat_eq t2.by_conv endpoint.conv) ≡ false
    → t3 ≡ record t2 { marked = t3.marked; is_lost = t3.is_lost } → IsMarked t3 endpoint.conv → ((c : ℕ) → IsMarked t2 c → IsMarked t3 c) → (Once t2.marked.items → Once t3.marked.items)
    → t4 ≡ record t3 { by_slot = t4.by_slot } → endpoint_at t4 endpoint.slot ≡ Some made → ((o : ℕ) → o ≢ endpoint.slot → endpoint_at t4 o ≡ endpoint_at t3 o)
    → Holds t0 endpoints → Holds t4 (without endpoint.slot endpoints ++ record endpoint { turn = t0.next_turn } ∷ [])
push_held t0 t1 t2 t3 t4 endpoint made endpoints absent made_is e1 e2 listed unlisted filled e3 marked kept once e4 here others held =
    last_put t0 t4 endpoint.slot (record endpoint { turn = t0.next_turn }) endpoints refl refl held
    here_so
    others_so
    (ap (λ (t : Endpoints). t.next_turn) e4 ∙ (ap (λ (t : Endpoints). t.next_turn) e3 ∙ (ap (λ (t : Endpoints). t.next_turn) e2 ∙ ap (λ (t : Endpoints). t.next_turn) e1)))
    (λ c o is. grown c o (same_or_not c endpoint.conv) is)
    (let P : List ℕ → Type 0 = λ ls. IsIn endpoint.slot ls in subst P (sym listed_so) (in_here endpoint.slot (slots_at t0 endpoint.conv) []))
    (λ c m. late c (kept c (early c m)))
    (late endpoint.conv marked)
    (λ x at. let wrong : None ≡ Some x = sym absent ∙ at in cc)
    (λ x is ne was. ap (λ m. tree.get nat_cmp m x.turn) ready ∙ was)
    (tidy_new t0 t4 endpoint.slot endpoint.conv (record endpoint { turn = t0.next_turn }) absent here_so refl others_so listed_so same_so
    (ap (λ (t : Endpoints). is_empty_list (hash.get nat_eq t.by_conv endpoint.conv)) e4 ∙ (ap (λ (t : Endpoints). is_empty_list (hash.get nat_eq t.by_conv endpoint.conv)) e3 ∙ filled))
    ready marks_so held.tidy)
  where
    here_so : endpoint_at t4 endpoint.slot ≡ Some (record endpoint { turn = t0.next_turn })
    here_so = here ∙ ap (λ (l : Endpoint). Some l) made_is

    others_so : (o : ℕ) → o ≢ endpoint.slot → endpoint_at t4 o ≡ endpoint_at t0 o
    others_so o ne = others o ne ∙ (ap (λ (t : Endpoints). endpoint_at t o) e3 ∙ (ap (λ (t : Endpoints). endpoint_at t o) e2 ∙ ap (λ (t : Endpoints). endpoint_at t o) e1))

    ready : t4.ready ≡ t0.ready
    ready = ap (λ (t : Endpoints). t.ready) e4 ∙ (ap (λ (t : Endpoints). t.ready) e3 ∙ (ap (λ (t : Endpoints). t.ready) e2 ∙ ap (λ (t : Endpoints). t.ready) e1))

    same_list : (c : ℕ) → slots_at t4 c ≡ slots_at t2 c
    same_list c = ap (λ (t : Endpoints). slots_at t c) e4 ∙ ap (λ (t : Endpoints). slots_at t c) e3

    listed_so : slots_at t4 endpoint.conv ≡ slots_at t0 endpoint.conv ++ endpoint.slot ∷ []
    listed_so = same_list endpoint.conv ∙ (listed ∙ ap (λ (t : Endpoints). slots_at t endpoint.conv ++ endpoint.slot ∷ []) e1)

    same_so : (c : ℕ) → c ≢ endpoint.conv → hash.get nat_eq t4.by_conv c ≡ hash.get nat_eq t0.by_conv c
    same_so c ne =
        ap (λ (t : Endpoints). hash.get nat_eq t.by_conv c) e4 ∙ (ap (λ (t : Endpoints). hash.get nat_eq t.by_conv c) e3 ∙ (unlisted c ne ∙ ap (λ (t : Endpoints). hash.get nat_eq t.by_conv c) e1))

    early : (c : ℕ) → IsMarked t0 c → IsMarked t2 c
    early c m = let P : Endpoints → Type 0 = λ t. IsMarked t c in subst P (sym e2) (subst P (sym e1) m)

    late : (c : ℕ) → IsMarked t3 c → IsMarked t4 c
    late c m = let P : Endpoints → Type 0 = λ t. IsMarked t c in subst P (sym e4) m

    marks_so : Once t0.marked.items → Once t4.marked.items
    marks_so o = let P : Endpoints → Type 0 = λ t. Once t.marked.items in subst P (sym e4) (once (subst P (sym e2) (subst P (sym e1) o)))

    grown : (c o : ℕ) → (c ≡ endpoint.conv) ⊎ (c ≢ endpoint.conv) → IsIn o (slots_at t0 c) → IsIn o (slots_at t4 c)
    grown c o (inl e) is =
        let P : List ℕ → Type 0 = λ ls. IsIn o ls in
        let Q : ℕ → Type 0 = λ n. IsIn o (slots_at t4 n) in
        let R : ℕ → Type 0 = λ n. IsIn o (slots_at t0 n) in
        subst Q (sym e) (subst P (sym listed_so) (in_left o (slots_at t0 endpoint.conv) (endpoint.slot ∷ []) (subst R e is)))
    grown c o (inr ne) is = let P : List ℕ → Type 0 = λ ls. IsIn o ls in subst P (sym (ap items_in (same_so c ne))) is

-- a slot went behind all others
pub end_held : (t0 t1 t2 t3 : Endpoints) (slot : ℕ) (endpoint : Endpoint) (endpoints : List Endpoint) → endpoint_at t0 slot ≡ Some endpoint → t1 ≡ record t0 { ready = t1.ready } → tree.get nat_cmp t1.ready endpoint.turn ≡ None
    → ((turn : ℕ) → turn ≢ endpoint.turn → tree.get nat_cmp t1.ready turn ≡ tree.get nat_cmp t0.ready turn) → t2 ≡ record t1 { by_slot = t2.by_slot }
    → endpoint_at t2 slot ≡ Some (record endpoint { turn = t1.next_turn }) → ((o : ℕ) → o ≢ slot → endpoint_at t2 o ≡ endpoint_at t1 o)
    → t3 ≡ record t2 { next_turn = t2.next_turn + 1; marked = t3.marked; is_lost = t3.is_lost } → IsMarked t3 endpoint.conv → ((c : ℕ) → IsMarked t2 c → IsMarked t3 c)
    → (Once t2.marked.items → Once t3.marked.items) → Holds t0 endpoints → Holds t3 (without slot endpoints ++ record endpoint { turn = t0.next_turn } ∷ [])
end_held t0 t1 t2 t3 slot endpoint endpoints at e1 out rest e2 here others e3 marked kept once held =
    last_put t0 t3 slot made endpoints was.1 refl held
    here_so
    others_so
    (ap (λ (t : Endpoints). t.next_turn) e3 ∙ (ap (λ (t : Endpoints). t.next_turn + 1) e2 ∙ ap (λ (t : Endpoints). t.next_turn + 1) e1))
    (λ c o is. let P : List ℕ → Type 0 = λ ls. IsIn o ls in subst P (sym (ap (λ m. slots_at (record t0 { by_conv = m }) c) lists)) is)
    (let P : List ℕ → Type 0 = λ ls. IsIn slot ls in
    let Q : ℕ → Type 0 = λ n. IsIn n (slots_at t0 endpoint.conv) in
    subst P (sym (ap (λ m. slots_at (record t0 { by_conv = m }) endpoint.conv) lists)) (subst Q was.1 (held.listed endpoint was.0)))
    (λ c m. kept c (let P : Endpoints → Type 0 = λ t. IsMarked t c in subst P (sym e2) (subst P (sym e1) m)))
    marked
    (λ x is. let a : Some endpoint ≡ Some x = sym at ∙ is in let d : endpoint ≡ x = cc in
    let P : ℕ → Type 0 = λ n. IsMarked t3 n in subst P (ap (λ (l : Endpoint). l.conv) d) marked)
    (λ x is ne before. rest_so x.turn (λ e. ne (ap (λ (l : Endpoint). l.slot) (one_turn t0.next_turn endpoints endpoint x held.turns was.0 is e) ∙ was.1)) ∙ before)
    (tidy_end t0 t3 slot endpoint made at here_so others_so refl lists
    (ap (λ (t : Endpoints). tree.get nat_cmp t.ready endpoint.turn) e3 ∙ (ap (λ (t : Endpoints). tree.get nat_cmp t.ready endpoint.turn) e2 ∙ out))
    rest_so (λ o. once (let P : Endpoints → Type 0 = λ t. Once t.marked.items in subst P (sym e2) (subst P (sym e1) o))) held.tidy)
  where
    made : Endpoint
    made = record endpoint { turn = t0.next_turn }

    was : IsIn endpoint endpoints × (endpoint.slot ≡ slot)
    was = held.kept slot endpoint at

    here_so : endpoint_at t3 slot ≡ Some made
    here_so = ap (λ (t : Endpoints). endpoint_at t slot) e3 ∙ (here ∙ ap (λ (t : Endpoints). Some (record endpoint { turn = t.next_turn })) e1)

    others_so : (o : ℕ) → o ≢ slot → endpoint_at t3 o ≡ endpoint_at t0 o
    others_so o ne = ap (λ (t : Endpoints). endpoint_at t o) e3 ∙ (others o ne ∙ ap (λ (t : Endpoints). endpoint_at t o) e1)

    lists : t3.by_conv ≡ t0.by_conv
    lists = ap (λ (t : Endpoints). t.by_conv) e3 ∙ (ap (λ (t : Endpoints). t.by_conv) e2 ∙ ap (λ (t : Endpoints). t.by_conv) e1)

    rest_so : (turn : ℕ) → turn ≢ endpoint.turn → tree.get nat_cmp t3.ready turn ≡ tree.get nat_cmp t0.ready turn
    rest_so turn ne = ap (λ (t : Endpoints). tree.get nat_cmp t.ready turn) e3 ∙ (ap (λ (t : Endpoints). tree.get nat_cmp t.ready turn) e2 ∙ rest turn ne)

-- a slot by its number
pub record AtSlot (t : Endpoints) (endpoints : List Endpoint) (slot : ℕ) (endpoint : Endpoint) : Type 0 where
  pub front : List Endpoint
  pub back : List Endpoint
  pub are : endpoints ≡ front ++ endpoint ∷ back
  pub slot_is : endpoint.slot ≡ slot

pub at_slot : (t : Endpoints) (endpoints : List Endpoint) (slot : ℕ) (endpoint : Endpoint) → Holds t endpoints → endpoint_at t slot ≡ Some endpoint → AtSlot t endpoints slot endpoint
at_slot t endpoints slot endpoint held at =
    let k = held.kept slot endpoint at in
    let m = among endpoint endpoints k.0 in record { front = m.front; back = m.back; are = m.are; slot_is = k.1 }

-- none has the number
pub no_slot : (t : Endpoints) (endpoints : List Endpoint) (slot : ℕ) → Holds t endpoints → endpoint_at t slot ≡ None → list_any (λ (l : Endpoint). l.slot == slot) endpoints ≡ false
no_slot t endpoints slot held none = by (list_any (λ (l : Endpoint). l.slot == slot) endpoints) refl
  where
    there : Passing (λ (l : Endpoint). l.slot == slot) endpoints → ⊥
    there p =
        let P : ℕ → Type 0 = λ n. endpoint_at t n ≡ Some p.one in
        let a : endpoint_at t slot ≡ Some p.one = subst P (eqb-true p.one.slot slot p.is_so) (held.found p.one p.is_in) in
        let wrong : None ≡ Some p.one = sym none ∙ a in cc

    by : (b : Bool) → list_any (λ (l : Endpoint). l.slot == slot) endpoints ≡ b → list_any (λ (l : Endpoint). l.slot == slot) endpoints ≡ false
    by false e = e
    by true e = absurd (there (any_one (λ (l : Endpoint). l.slot == slot) endpoints e))

-- a slot was put where another of its number is gone
pub push_gone : (old gone new : Endpoints) (endpoint : Endpoint) (endpoints : List Endpoint) → (Holds old endpoints → Holds gone (without endpoint.slot endpoints)) → endpoint_at gone endpoint.slot ≡ None → gone.next_turn ≡ old.next_turn
    → (Holds gone (without endpoint.slot endpoints) → Holds new (without endpoint.slot (without endpoint.slot endpoints) ++ record endpoint { turn = gone.next_turn } ∷ [])) → Holds old endpoints
    → Holds new (without endpoint.slot endpoints ++ record endpoint { turn = old.next_turn } ∷ [])
push_gone old gone new endpoint endpoints first absent next then held =
    let P : List Endpoint → Type 0 = λ ls. Holds new (ls ++ record endpoint { turn = gone.next_turn } ∷ []) in
    let Q : ℕ → Type 0 = λ n. Holds new (without endpoint.slot endpoints ++ record endpoint { turn = n } ∷ []) in
    subst Q next (subst P (without_missing endpoint.slot (without endpoint.slot endpoints) (no_slot gone (without endpoint.slot endpoints) endpoint.slot (first held) absent)) (then (first held)))

-- a slot was changed through what was lent of it, and its conversation marked
pub changes_of : (old mid new : Endpoints) (slot conv : ℕ) (endpoint changed : Endpoint) → mid ≡ record old { by_slot = mid.by_slot } → hash.UpdatesBy nat_eq (nat_eq slot) old.by_slot mid.by_slot (Some changed)
    → new ≡ record mid { marked = new.marked; is_lost = new.is_lost } → conv ≡ endpoint.conv → IsMarked new conv → ((c : ℕ) → IsMarked mid c → IsMarked new c)
    → MarksOnly (λ c. c ≡ conv) mid new → (Once mid.marked.items → Once new.marked.items) → Changes old new slot endpoint changed
changes_of old mid new slot conv endpoint changed mid_is updates new_is conv_is marked marks only once = record {
  here = ap (λ (t : Endpoints). endpoint_at t slot) new_is ∙ updates.1;
  others = λ o ne. ap (λ (t : Endpoints). endpoint_at t o) new_is ∙ others_of slot (endpoint_at mid) (endpoint_at old) updates.2 o ne;
  lists = ap (λ (t : Endpoints). t.by_conv) new_is ∙ ap (λ (t : Endpoints). t.by_conv) mid_is;
  ready = ap (λ (t : Endpoints). t.ready) new_is ∙ ap (λ (t : Endpoints). t.ready) mid_is;
  next = ap (λ (t : Endpoints). t.next_turn) new_is ∙ ap (λ (t : Endpoints). t.next_turn) mid_is;
  marks = λ c m. marks c (let P : Endpoints → Type 0 = λ t. IsMarked t c in subst P (sym mid_is) m);
  marked = (let P : ℕ → Type 0 = λ n. IsMarked new n in subst P conv_is marked);
  only = marks_from (λ c. c ≡ endpoint.conv) old mid new (ap (λ (t : Endpoints). t.marked.items) mid_is) (marks_by (λ c. c ≡ conv) (λ c. c ≡ endpoint.conv) mid new (λ c e. e ∙ conv_is) only);
  once = λ o. once (let P : Endpoints → Type 0 = λ t. Once t.marked.items in subst P (sym mid_is) o);
}

-- the same slots are found
pub alike_held : (old new : Endpoints) (endpoints : List Endpoint) → Alike old new → Holds old endpoints → Holds new endpoints
alike_held old new endpoints alike held = record {
  found = λ endpoint is. alike.slots endpoint.slot ∙ held.found endpoint is;
  kept = λ slot endpoint at. held.kept slot endpoint (sym (alike.slots slot) ∙ at);
  turns = (let P : ℕ → Type 0 = λ n. Ascend n endpoints in subst P (sym alike.next) held.turns);
  listed = λ endpoint is. (let P : List ℕ → Type 0 = λ ls. IsIn endpoint.slot ls in subst P (sym (alike.lists endpoint.conv)) (held.listed endpoint is));
  over = λ endpoint is over. alike.marks endpoint.conv (held.over endpoint is over);
  open_or = λ endpoint is opens. elim (held.open_or endpoint is opens) [
    | inl m ↦ inl (alike.marks endpoint.conv m)
    | inr r ↦ inr (ap (λ m. tree.get nat_cmp m endpoint.turn) alike.ready ∙ r)
  ];
  tidy = tidy_alike old new alike held.tidy;
}

pub alike_self : (t : Endpoints) → Alike t t
alike_self t = record { slots = λ slot. refl; lists = λ conv. refl; marks = λ conv m. m; unmarks = λ conv m. m; empties = λ conv. refl; marked = refl; ready = refl; next = refl }

pub alike_back : (old new : Endpoints) → Alike old new → Alike new old
alike_back old new alike = record {
  slots = λ slot. sym (alike.slots slot);
  lists = λ conv. sym (alike.lists conv);
  marks = alike.unmarks;
  unmarks = alike.marks;
  empties = λ conv. sym (alike.empties conv);
  marked = sym alike.marked;
  ready = sym alike.ready;
  next = sym alike.next;
}
