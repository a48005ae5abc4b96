-- Nothing is kept that is gone, after one slot has changed.
use Rattle.std.proofs.Common.{◌≡◌, ◌≢◌, ◌∙◌, ◌⊎◌, inl, inr, ℕ, zero, suc, ◌<◌, Bool, true, false, refl, ap, sym, subst, arith, List, [], ◌∷◌, ◌++◌, ◌==◌, Option, Some, None}
use Rattle.std.specs.Prelude.{nat_eq, length, get_or, cond}
use Rattle.std.specs.HashMap as hash
use Rattle.std.specs.BTreeMap as tree
use Rattle.std.specs.BTreeMap.{is_at}
use Rattle.std.specs.List.{list_any, position, remove}
use Rattle.std.specs.Ordering.{nat_cmp}
use Rattle.std.proofs.lemmas.Bool.{eqb-true}
use Rattle.std.proofs.lemmas.List.Folds.{list_any_none}
use Rattle.std.proofs.lemmas.List.Quantifiers.{position-Some}
use Rattle.px_outside.proofs.StoredLemmas.{all_fail}
use Rattle.px_wire.specs.declared.endpoint.Endpoint.{Endpoint}
use Rattle.px_wire.specs.declared.endpoints.Endpoints.{Endpoints}
use Rattle.px_wire.specs.Holds.{IsIn, Once, IsOf, IsTurnOf, AllTurns, IsTidy, IsTakenOut, Alike, Changes, items_in, endpoint_at, slots_at, is_empty_list}
use Rattle.px_wire.proofs.InLemmas.{in_append, in_left, not_in_from, same_or_not}

-- of a list in which each stands once
module _ {A : Type 0} where
  pub once_more : (x : A) (xs : List A) → Once xs → (IsIn x xs → ⊥) → Once (xs ++ x ∷ [])
  once_more x [] once none = ((λ is. is), tt)
  once_more x (y ∷ ys) once none = (not_last, once_more x ys once.1 (λ is. none (inr is)))
    where
      not_last : IsIn y (ys ++ x ∷ []) → ⊥
      not_last is = elim (in_append y ys (x ∷ []) is) [
        | inl there ↦ once.0 there
        | inr (inl e) ↦ none (inl (sym e))
        | inr (inr nowhere) ↦ nowhere
      ]

  pub once_front : (xs ys : List A) → Once (xs ++ ys) → Once xs
  once_front [] ys once = tt
  once_front (x ∷ xs) ys once = ((λ is. once.0 (in_left x xs ys is)), once_front xs ys once.1)

-- a conversation was marked that was not
pub once_marked : (conv : ℕ) (old new : List ℕ) → new ≡ old ++ conv ∷ [] → list_any (λ other. other == conv) old ≡ false → Once old → Once new
once_marked conv old new is none once = let P : List ℕ → Type 0 = λ ls. Once ls in subst P (sym is) (once_more conv old once (not_in_from conv old none))

-- a slot was taken out of a list
in_place : (slot : ℕ) (xs : List ℕ) (place d : ℕ) → place < length xs → get_or xs place d ≡ slot → IsIn slot xs
in_place slot [] place d below at = absurd (omega (arith, below))
in_place slot (x ∷ xs) zero d below at = inl at
in_place slot (x ∷ xs) (suc place) d below at = inr (in_place slot xs place d (omega (arith, below)) at)

in_remove : (slot other : ℕ) (xs : List ℕ) (place : ℕ) → get_or xs place slot ≡ slot → other ≢ slot → IsIn other xs → IsIn other (remove xs place)
in_remove slot other [] place at ne is = absurd is
in_remove slot other (x ∷ xs) zero at ne (inl e) = absurd (ne (sym e ∙ at))
in_remove slot other (x ∷ xs) zero at ne (inr is) = is
in_remove slot other (x ∷ xs) (suc place) at ne (inl e) = inl e
in_remove slot other (x ∷ xs) (suc place) at ne (inr is) = inr (in_remove slot other xs place at ne is)

in_removed : (other : ℕ) (xs : List ℕ) (place : ℕ) → IsIn other (remove xs place) → IsIn other xs
in_removed other [] zero is = is
in_removed other [] (suc place) is = is
in_removed other (x ∷ xs) zero is = inr is
in_removed other (x ∷ xs) (suc place) (inl e) = inl e
in_removed other (x ∷ xs) (suc place) (inr is) = inr (in_removed other xs place is)

once_removed : (xs : List ℕ) (place : ℕ) → Once xs → Once (remove xs place)
once_removed [] zero once = tt
once_removed [] (suc place) once = tt
once_removed (x ∷ xs) zero once = once.1
once_removed (x ∷ xs) (suc place) once = ((λ is. once.0 (in_removed x xs place is)), once_removed xs place once.1)

gone_removed : (slot : ℕ) (xs : List ℕ) (place : ℕ) → place < length xs → get_or xs place slot ≡ slot → Once xs → IsIn slot (remove xs place) → ⊥
gone_removed slot [] place below at once is = absurd (omega (arith, below))
gone_removed slot (x ∷ xs) zero below at once is = let P : ℕ → Type 0 = λ n. IsIn n xs in once.0 (subst P (sym at) is)
gone_removed slot (x ∷ xs) (suc place) below at once (inl e) =
    let P : ℕ → Type 0 = λ n. IsIn n xs in once.0 (subst P (sym e) (in_place slot xs place slot (omega (arith, below)) at))
gone_removed slot (x ∷ xs) (suc place) below at once (inr is) = gone_removed slot xs place (omega (arith, below)) at once.1 is

pub taken_out : (slot : ℕ) (old seen new : List ℕ) (place : ℕ) → seen ≡ old → Some place ≡ position (λ other. other == slot) seen → new ≡ remove old place → IsTakenOut slot old new
taken_out slot old seen new place same is gone =
    let Q : List ℕ → Type 0 = λ ls. Some place ≡ position (λ other. other == slot) ls in
    let parts = position-Some (λ other. other == slot) old place slot (sym (subst Q same is)) in
    let at : get_or old place slot ≡ slot = eqb-true (get_or old place slot) slot parts.1 in
    let P : List ℕ → Type 0 = λ ls. IsTakenOut slot old ls in
    subst P (sym gone) (record {
      others = λ other ne there. in_remove slot other old place at ne there;
      only = λ other there. in_removed other old place there;
      gone = gone_removed slot old place parts.0 at;
      once = once_removed old place;
    })

-- none was there
pub none_out : (slot : ℕ) (old seen : List ℕ) → seen ≡ old → None ≡ position (λ other. other == slot) seen → IsTakenOut slot old old
none_out slot old seen same is = record {
  others = λ other ne there. there;
  only = λ other there. there;
  gone = λ once there. not_in_from slot old none there;
  once = λ once. once;
}
  where
    none : list_any (λ other. other == slot) old ≡ false
    none =
        let Q : List ℕ → Type 0 = λ ls. None ≡ position (λ other. other == slot) ls in
        list_any_none (λ other. other == slot) old (all_fail (λ other. other == slot) old (subst Q same is))

-- One slot has changed, is new or is gone; all others are as they were.
module _ (old new : Endpoints) (slot : ℕ) (tidy : IsTidy old) (others : (o : ℕ) → o ≢ slot → endpoint_at new o ≡ endpoint_at old o)
    (lists : (conv o : ℕ) → IsIn o (slots_at new conv) → (IsIn o (slots_at old conv) × (o ≢ slot)) ⊎ IsOf (λ s. endpoint_at new s) conv o)
    (once : (conv : ℕ) → Once (slots_at new conv))
    (filled : (conv : ℕ) → is_empty_list (hash.get nat_eq new.by_conv conv) ≡ false)
    (ready : (turn s : ℕ) → tree.get nat_cmp new.ready turn ≡ Some s → ((tree.get nat_cmp old.ready turn ≡ Some s) × (s ≢ slot)) ⊎ IsTurnOf (λ s. endpoint_at new s) turn s)
    (marks : Once new.marked.items) where
  only_by : (conv o : ℕ) → (IsIn o (slots_at old conv) × (o ≢ slot)) ⊎ IsOf (λ s. endpoint_at new s) conv o → IsOf (λ s. endpoint_at new s) conv o
  only_by conv o (inl there) = let was = tidy.only conv o there.0 in record { endpoint = was.endpoint; at_is = others o there.1 ∙ was.at_is; conv_is = was.conv_is }
  only_by conv o (inr is) = is

  turned_by : (turn s : ℕ) → ((tree.get nat_cmp old.ready turn ≡ Some s) × (s ≢ slot)) ⊎ IsTurnOf (λ s. endpoint_at new s) turn s → IsTurnOf (λ s. endpoint_at new s) turn s
  turned_by turn s (inl there) = let was = tidy.turned turn s there.0 in record { endpoint = was.endpoint; at_is = others s there.1 ∙ was.at_is; turn_is = was.turn_is }
  turned_by turn s (inr is) = is

  tidied : IsTidy new
  tidied = record {
    only = λ conv o is. only_by conv o (lists conv o is);
    once = once;
    filled = filled;
    turned = λ turn s is. turned_by turn s (ready turn s is);
    marks = marks;
  }

-- what is found at one number
one_at : (at : ℕ → Option Endpoint) (slot o : ℕ) (a b : Endpoint) → at slot ≡ Some a → at o ≡ Some b → o ≡ slot → a ≡ b
one_at at slot o a b here there e =
    let P : ℕ → Type 0 = λ n. at n ≡ Some b in
    let same : Some a ≡ Some b = sym here ∙ subst P e there in cc

module _ (old new : Endpoints) (slot : ℕ) (endpoint changed : Endpoint) (tidy : IsTidy old) (was : endpoint_at old slot ≡ Some endpoint) (here : endpoint_at new slot ≡ Some changed) (conv_is : changed.conv ≡ endpoint.conv) where
  -- what was listed of it still is
  listed_still : (conv o : ℕ) → (o ≡ slot) ⊎ (o ≢ slot) → IsIn o (slots_at old conv) → (IsIn o (slots_at old conv) × (o ≢ slot)) ⊎ IsOf (λ s. endpoint_at new s) conv o
  listed_still conv o (inr ne) is = inl (is, ne)
  listed_still conv o (inl e) is =
      let there = tidy.only conv o is in
      let same : endpoint ≡ there.endpoint = one_at (λ s. endpoint_at old s) slot o endpoint there.endpoint was there.at_is e in
      let P : ℕ → Type 0 = λ n. endpoint_at new n ≡ Some changed in
      inr (record { endpoint = changed; at_is = subst P (sym e) here; conv_is = conv_is ∙ (ap (λ (l : Endpoint). l.conv) same ∙ there.conv_is) })

  -- and its turn
  turned_still : changed.turn ≡ endpoint.turn → (turn s : ℕ) → (s ≡ slot) ⊎ (s ≢ slot) → tree.get nat_cmp old.ready turn ≡ Some s
      → ((tree.get nat_cmp old.ready turn ≡ Some s) × (s ≢ slot)) ⊎ IsTurnOf (λ s. endpoint_at new s) turn s
  turned_still turn_is turn s (inr ne) is = inl (is, ne)
  turned_still turn_is turn s (inl e) is =
      let there = tidy.turned turn s is in
      let same : endpoint ≡ there.endpoint = one_at (λ s. endpoint_at old s) slot s endpoint there.endpoint was there.at_is e in
      let P : ℕ → Type 0 = λ n. endpoint_at new n ≡ Some changed in
      inr (record { endpoint = changed; at_is = subst P (sym e) here; turn_is = turn_is ∙ (ap (λ (l : Endpoint). l.turn) same ∙ there.turn_is) })

-- no other stands at its turn
pub not_at_turn : (old : Endpoints) (slot : ℕ) (endpoint : Endpoint) → IsTidy old → endpoint_at old slot ≡ Some endpoint → (turn s : ℕ) → turn ≢ endpoint.turn → tree.get nat_cmp old.ready turn ≡ Some s → s ≢ slot
not_at_turn old slot endpoint tidy was turn s ne is e =
    let there = tidy.turned turn s is in
    let same : endpoint ≡ there.endpoint = one_at (λ s. endpoint_at old s) slot s endpoint there.endpoint was there.at_is e in
    ne (sym (ap (λ (l : Endpoint). l.turn) same ∙ there.turn_is))

-- a turn was taken out
module _ (old new : Endpoints) (slot : ℕ) (endpoint : Endpoint) (tidy : IsTidy old) (was : endpoint_at old slot ≡ Some endpoint)
    (gone : tree.get nat_cmp new.ready endpoint.turn ≡ None) (rest : (turn : ℕ) → turn ≢ endpoint.turn → tree.get nat_cmp new.ready turn ≡ tree.get nat_cmp old.ready turn) where
  turn_out : (turn s : ℕ) → (turn ≡ endpoint.turn) ⊎ (turn ≢ endpoint.turn) → tree.get nat_cmp new.ready turn ≡ Some s
      → ((tree.get nat_cmp old.ready turn ≡ Some s) × (s ≢ slot)) ⊎ IsTurnOf (λ s. endpoint_at new s) turn s
  turn_out turn s (inl e) is =
      let P : ℕ → Type 0 = λ n. tree.get nat_cmp new.ready n ≡ Some s in
      let wrong : None ≡ Some s = sym gone ∙ subst P e is in cc
  turn_out turn s (inr ne) is = let before : tree.get nat_cmp old.ready turn ≡ Some s = sym (rest turn ne) ∙ is in inl (before, not_at_turn old slot endpoint tidy was turn s ne before)

-- a slot was changed in its place
pub tidy_change : (old new : Endpoints) (slot : ℕ) (endpoint changed : Endpoint) → endpoint_at old slot ≡ Some endpoint → Changes old new slot endpoint changed → changed.conv ≡ endpoint.conv → changed.turn ≡ endpoint.turn → IsTidy old → IsTidy new
tidy_change old new slot endpoint changed was ch conv_is turn_is tidy =
    tidied old new slot tidy ch.others
    (λ conv o is. let P : List ℕ → Type 0 = λ ls. IsIn o ls in listed_still old new slot endpoint changed tidy was ch.here conv_is conv o (same_or_not o slot) (subst P (same_list conv) is))
    (λ conv. let P : List ℕ → Type 0 = λ ls. Once ls in subst P (sym (same_list conv)) (tidy.once conv))
    (λ conv. ap (λ m. is_empty_list (hash.get nat_eq m conv)) ch.lists ∙ tidy.filled conv)
    (λ turn s is. turned_still old new slot endpoint changed tidy was ch.here conv_is turn_is turn s (same_or_not s slot) (sym (ap (λ m. tree.get nat_cmp m turn) ch.ready) ∙ is))
    (ch.once tidy.marks)
  where
    same_list : (conv : ℕ) → slots_at new conv ≡ slots_at old conv
    same_list conv = ap (λ m. slots_at (record old { by_conv = m }) conv) ch.lists

-- a slot has another turn
pub tidy_end : (old new : Endpoints) (slot : ℕ) (endpoint changed : Endpoint) → endpoint_at old slot ≡ Some endpoint → endpoint_at new slot ≡ Some changed → ((o : ℕ) → o ≢ slot → endpoint_at new o ≡ endpoint_at old o)
    → changed.conv ≡ endpoint.conv → new.by_conv ≡ old.by_conv → tree.get nat_cmp new.ready endpoint.turn ≡ None
    → ((turn : ℕ) → turn ≢ endpoint.turn → tree.get nat_cmp new.ready turn ≡ tree.get nat_cmp old.ready turn) → (Once old.marked.items → Once new.marked.items) → IsTidy old → IsTidy new
tidy_end old new slot endpoint changed was here others conv_is lists gone rest marks tidy =
    tidied old new slot tidy others
    (λ conv o is. let P : List ℕ → Type 0 = λ ls. IsIn o ls in listed_still old new slot endpoint changed tidy was here conv_is conv o (same_or_not o slot) (subst P (same_list conv) is))
    (λ conv. let P : List ℕ → Type 0 = λ ls. Once ls in subst P (sym (same_list conv)) (tidy.once conv))
    (λ conv. ap (λ m. is_empty_list (hash.get nat_eq m conv)) lists ∙ tidy.filled conv)
    (λ turn s is. turn_out old new slot endpoint tidy was gone rest turn s (same_or_not turn endpoint.turn) is)
    (marks tidy.marks)
  where
    same_list : (conv : ℕ) → slots_at new conv ≡ slots_at old conv
    same_list conv = ap (λ m. slots_at (record old { by_conv = m }) conv) lists

-- a slot is gone
pub tidy_removed : (old new : Endpoints) (slot : ℕ) (endpoint : Endpoint) → endpoint_at old slot ≡ Some endpoint → ((o : ℕ) → o ≢ slot → endpoint_at new o ≡ endpoint_at old o)
    → IsTakenOut slot (slots_at old endpoint.conv) (slots_at new endpoint.conv) → ((conv : ℕ) → conv ≢ endpoint.conv → hash.get nat_eq new.by_conv conv ≡ hash.get nat_eq old.by_conv conv)
    → is_empty_list (hash.get nat_eq new.by_conv endpoint.conv) ≡ false → tree.get nat_cmp new.ready endpoint.turn ≡ None
    → ((turn : ℕ) → turn ≢ endpoint.turn → tree.get nat_cmp new.ready turn ≡ tree.get nat_cmp old.ready turn) → (Once old.marked.items → Once new.marked.items) → IsTidy old → IsTidy new
tidy_removed old new slot endpoint was others taken same filled gone rest marks tidy =
    tidied old new slot tidy others
    (λ conv o is. inl (listed conv o (same_or_not conv endpoint.conv) (same_or_not o slot) is))
    (λ conv. once_by conv (same_or_not conv endpoint.conv))
    (λ conv. filled_by conv (same_or_not conv endpoint.conv))
    (λ turn s is. turn_out old new slot endpoint tidy was gone rest turn s (same_or_not turn endpoint.turn) is)
    (marks tidy.marks)
  where
    same_list : (conv : ℕ) → conv ≢ endpoint.conv → slots_at new conv ≡ slots_at old conv
    same_list conv ne = ap items_in (same conv ne)

    listed : (conv o : ℕ) → (conv ≡ endpoint.conv) ⊎ (conv ≢ endpoint.conv) → (o ≡ slot) ⊎ (o ≢ slot) → IsIn o (slots_at new conv) → IsIn o (slots_at old conv) × (o ≢ slot)
    listed conv o (inl e) (inl f) is =
        let P : ℕ → Type 0 = λ n. IsIn o (slots_at new n) in
        let Q : ℕ → Type 0 = λ n. IsIn n (slots_at new endpoint.conv) in absurd (taken.gone (tidy.once endpoint.conv) (subst Q f (subst P e is)))
    listed conv o (inl e) (inr ne) is =
        let P : ℕ → Type 0 = λ n. IsIn o (slots_at new n) in
        let Q : ℕ → Type 0 = λ n. IsIn o (slots_at old n) in (subst Q (sym e) (taken.only o (subst P e is)), ne)
    listed conv o (inr ne) any is =
        let P : List ℕ → Type 0 = λ ls. IsIn o ls in
        let before : IsIn o (slots_at old conv) = subst P (same_list conv ne) is in
        let there = tidy.only conv o before in
        (before, λ f. ne (sym (ap (λ (l : Endpoint). l.conv) (one_at (λ s. endpoint_at old s) slot o endpoint there.endpoint was there.at_is f) ∙ there.conv_is)))

    once_by : (conv : ℕ) → (conv ≡ endpoint.conv) ⊎ (conv ≢ endpoint.conv) → Once (slots_at new conv)
    once_by conv (inl e) = let P : ℕ → Type 0 = λ n. Once (slots_at new n) in subst P (sym e) (taken.once (tidy.once endpoint.conv))
    once_by conv (inr ne) = let P : List ℕ → Type 0 = λ ls. Once ls in subst P (sym (same_list conv ne)) (tidy.once conv)

    filled_by : (conv : ℕ) → (conv ≡ endpoint.conv) ⊎ (conv ≢ endpoint.conv) → is_empty_list (hash.get nat_eq new.by_conv conv) ≡ false
    filled_by conv (inl e) = let P : ℕ → Type 0 = λ n. is_empty_list (hash.get nat_eq new.by_conv n) ≡ false in subst P (sym e) filled
    filled_by conv (inr ne) = ap is_empty_list (same conv ne) ∙ tidy.filled conv

-- a slot is new
pub tidy_new : (old new : Endpoints) (slot conv : ℕ) (made : Endpoint) → endpoint_at old slot ≡ None → endpoint_at new slot ≡ Some made → made.conv ≡ conv → ((o : ℕ) → o ≢ slot → endpoint_at new o ≡ endpoint_at old o)
    → slots_at new conv ≡ slots_at old conv ++ slot ∷ [] → ((c : ℕ) → c ≢ conv → hash.get nat_eq new.by_conv c ≡ hash.get nat_eq old.by_conv c)
    → is_empty_list (hash.get nat_eq new.by_conv conv) ≡ false → new.ready ≡ old.ready → (Once old.marked.items → Once new.marked.items) → IsTidy old → IsTidy new
tidy_new old new slot conv made was here conv_is others listed same filled ready marks tidy =
    tidied old new slot tidy others
    (λ c o is. by c o (same_or_not c conv) is)
    (λ c. once_by c (same_or_not c conv))
    (λ c. filled_by c (same_or_not c conv))
    (λ turn s is. let before : tree.get nat_cmp old.ready turn ≡ Some s = sym (ap (λ m. tree.get nat_cmp m turn) ready) ∙ is in
    let there = tidy.turned turn s before in inl (before, λ e. away s there.endpoint there.at_is e))
    (marks tidy.marks)
  where
    away : (o : ℕ) (endpoint : Endpoint) → endpoint_at old o ≡ Some endpoint → o ≡ slot → ⊥
    away o endpoint at e = let P : ℕ → Type 0 = λ n. endpoint_at old n ≡ Some endpoint in let wrong : None ≡ Some endpoint = sym was ∙ subst P e at in cc

    same_list : (c : ℕ) → c ≢ conv → slots_at new c ≡ slots_at old c
    same_list c ne = ap items_in (same c ne)

    still : (c o : ℕ) → IsIn o (slots_at old c) → (IsIn o (slots_at old c) × (o ≢ slot)) ⊎ IsOf (λ s. endpoint_at new s) c o
    still c o is = let there = tidy.only c o is in inl (is, λ e. away o there.endpoint there.at_is e)

    by : (c o : ℕ) → (c ≡ conv) ⊎ (c ≢ conv) → IsIn o (slots_at new c) → (IsIn o (slots_at old c) × (o ≢ slot)) ⊎ IsOf (λ s. endpoint_at new s) c o
    by c o (inr ne) is = let P : List ℕ → Type 0 = λ ls. IsIn o ls in still c o (subst P (same_list c ne) is)
    by c o (inl e) is =
        let P : ℕ → Type 0 = λ n. IsIn o (slots_at new n) in
        let Q : List ℕ → Type 0 = λ ls. IsIn o ls in
        elim (in_append o (slots_at old conv) (slot ∷ []) (subst Q listed (subst P e is))) [
          | inl there ↦ still c o (let R : ℕ → Type 0 = λ n. IsIn o (slots_at old n) in subst R (sym e) there)
          | inr (inl f) ↦ inr (let R : ℕ → Type 0 = λ n. endpoint_at new n ≡ Some made in record { endpoint = made; at_is = subst R f here; conv_is = conv_is ∙ sym e })
          | inr (inr nowhere) ↦ absurd nowhere
        ]

    once_by : (c : ℕ) → (c ≡ conv) ⊎ (c ≢ conv) → Once (slots_at new c)
    once_by c (inl e) =
        let P : ℕ → Type 0 = λ n. Once (slots_at new n) in
        let Q : List ℕ → Type 0 = λ ls. Once ls in
        subst P (sym e) (subst Q (sym listed) (once_more slot (slots_at old conv) (tidy.once conv) (λ is. let there = tidy.only conv slot is in away slot there.endpoint there.at_is refl)))
    once_by c (inr ne) = let P : List ℕ → Type 0 = λ ls. Once ls in subst P (sym (same_list c ne)) (tidy.once c)

    filled_by : (c : ℕ) → (c ≡ conv) ⊎ (c ≢ conv) → is_empty_list (hash.get nat_eq new.by_conv c) ≡ false
    filled_by c (inl e) = let P : ℕ → Type 0 = λ n. is_empty_list (hash.get nat_eq new.by_conv n) ≡ false in subst P (sym e) filled
    filled_by c (inr ne) = ap is_empty_list (same c ne) ∙ tidy.filled c

-- no slot was there
pub tidy_same : (old new : Endpoints) → ((o : ℕ) → endpoint_at new o ≡ endpoint_at old o) → ((conv : ℕ) → slots_at new conv ≡ slots_at old conv)
    → ((conv : ℕ) → is_empty_list (hash.get nat_eq new.by_conv conv) ≡ is_empty_list (hash.get nat_eq old.by_conv conv)) → new.ready ≡ old.ready → new.marked.items ≡ old.marked.items → IsTidy old → IsTidy new
tidy_same old new slots lists empties ready marked tidy = record {
  only = λ conv o is. (let P : List ℕ → Type 0 = λ ls. IsIn o ls in
      let was = tidy.only conv o (subst P (lists conv) is) in record { endpoint = was.endpoint; at_is = slots o ∙ was.at_is; conv_is = was.conv_is });
  once = λ conv. (let P : List ℕ → Type 0 = λ ls. Once ls in subst P (sym (lists conv)) (tidy.once conv));
  filled = λ conv. empties conv ∙ tidy.filled conv;
  turned = λ turn s is. (let was = tidy.turned turn s (sym (ap (λ m. tree.get nat_cmp m turn) ready) ∙ is) in
      record { endpoint = was.endpoint; at_is = slots s ∙ was.at_is; turn_is = was.turn_is });
  marks = (let P : List ℕ → Type 0 = λ ls. Once ls in subst P (sym marked) tidy.marks);
}

pub tidy_alike : (old new : Endpoints) → Alike old new → IsTidy old → IsTidy new
tidy_alike old new alike = tidy_same old new alike.slots alike.lists alike.empties alike.ready alike.marked

-- what was found ready
module _ (at : ℕ → Option Endpoint) where
  -- a turn was taken out
  pub turns_out : (turn : ℕ) (old new : tree.BTreeMap ℕ ℕ) → ((q : ℕ) → tree.get nat_cmp new q ≡ cond (is_at (nat_cmp turn) q) None (tree.get nat_cmp old q)) → AllTurns at old → AllTurns at new
  turns_out turn old new gone all t s got = by (is_at (nat_cmp turn) t) refl
    where
      by : (b : Bool) → is_at (nat_cmp turn) t ≡ b → IsTurnOf at t s
      by true e = let a : tree.get nat_cmp new t ≡ None = gone t ∙ (rw e refl) in let wrong : None ≡ Some s = sym a ∙ got in cc
      by false e = let a : tree.get nat_cmp new t ≡ tree.get nat_cmp old t = gone t ∙ (rw e refl) in all t s (sym a ∙ got)
