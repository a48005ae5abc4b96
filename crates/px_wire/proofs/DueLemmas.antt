-- What is to be done next: the conversations that are marked, and the slots that were found ready.
use Rattle.std.proofs.Common.{◌≡◌, ◌∙◌, ◌⊎◌, inl, inr, ℕ, zero, suc, ◌<◌, ◌≤◌, ◌+◌, ◌-◌, Bool, true, false, refl, ap, sym, subst, arith, List, [], ◌∷◌, ◌++◌, ◌==◌, ◌&&◌, Option, Some, None, append_assoc}
use Rattle.std.specs.List.{list_any}
use Rattle.std.specs.Ordering.{nat_cmp}
use Rattle.std.specs.BTreeMap as tree
use Rattle.std.proofs.lemmas.Bool.{eq-eqb, eqb-true}
use Rattle.px_text.specs.Prefix.{IsPrefixOf}
use Rattle.px_wire.specs.declared.endpoint.Endpoint.{Endpoint}
use Rattle.px_wire.specs.declared.endpoints.Endpoints.{Endpoints}
use Rattle.px_wire.specs.Endpoints.{is_over, is_open_to_read}
use Rattle.std.specs.Prelude.{length, get_or, cond, drop, is_some, IsSome, option_to_list}
use Rattle.std.specs.Map.{lookup}
use Rattle.std.specs.BTreeMap.{is_at}
use Rattle.std.proofs.lemmas.Map.Keys.{le_from_not_gt}
use Rattle.px_wire.proofs.TidyLemmas.{once_front, turns_out}
use Rattle.px_wire.specs.Holds.{is_candidate, AllTurns, Once, IsAlone, StillReady, IsLookedAt, IsFirst, IsSettled, IsIn, Holds, IsMarked, Ascend, endpoint_at, slots_at, is_open_in}
use Rattle.px_wire.proofs.HoldsLemmas.{below_in, both_true, one_turn, open_same, opens_so, passed}
use Rattle.px_wire.proofs.InLemmas.{any_one, in_append, in_here, in_left, key_case}

-- what is left of a list
pub in_drop : (x : ℕ) (xs : List ℕ) (n : ℕ) → n < length xs → IsIn x (drop n xs) → (get_or xs n 0 ≡ x) ⊎ IsIn x (drop (suc n) xs)
in_drop x [] n below is = absurd (omega (arith, below))
in_drop x (y ∷ ys) zero below (inl e) = inl e
in_drop x (y ∷ ys) zero below (inr is) = inr is
in_drop x (y ∷ ys) (suc n) below is = in_drop x ys n (omega (arith, below)) is

pub in_none : (x : ℕ) (xs : List ℕ) (n : ℕ) → length xs ≤ n → IsIn x (drop n xs) → ⊥
in_none x [] zero over is = is
in_none x [] (suc n) over is = is
in_none x (y ∷ ys) zero over is = absurd (omega (arith, over))
in_none x (y ∷ ys) (suc n) over is = in_none x ys n (omega (arith, over)) is

-- what was found ready, over several slots
module _ (at : ℕ → Option Endpoint) where
  pub still_more : (a b c : tree.BTreeMap ℕ ℕ) → StillReady at a b → StillReady at b c → StillReady at a c
  still_more a b c first then turn slot alone is = then turn slot alone (first turn slot alone is)

  pub looked_more : (a b : tree.BTreeMap ℕ ℕ) (slot : ℕ) → StillReady at a b → IsLookedAt at a slot → IsLookedAt at b slot
  looked_more a b slot still looked endpoint is = let l = looked endpoint is in (l.0, λ readable alone. still endpoint.turn slot alone (l.1 readable alone))

  -- one was looked at
  pub looked_step : (slots : List ℕ) (n : ℕ) (a b : tree.BTreeMap ℕ ℕ) → n < length slots → StillReady at a b → IsLookedAt at b (get_or slots n 0)
      → ((slot : ℕ) → IsIn slot slots → IsIn slot (drop n slots) ⊎ IsLookedAt at a slot) → (slot : ℕ) → IsIn slot slots → IsIn slot (drop (n + 1) slots) ⊎ IsLookedAt at b slot
  looked_step slots n a b below still here before slot is = by (before slot is)
    where
      next : (get_or slots n 0 ≡ slot) ⊎ IsIn slot (drop (n + 1) slots) → IsIn slot (drop (n + 1) slots) ⊎ IsLookedAt at b slot
      next (inl e) = inr (let P : ℕ → Type 0 = λ s. IsLookedAt at b s in subst P e here)
      next (inr rest) = inl rest

      by : IsIn slot (drop n slots) ⊎ IsLookedAt at a slot → IsIn slot (drop (n + 1) slots) ⊎ IsLookedAt at b slot
      by (inl rest) = next (let P : ℕ → Type 0 = λ k. (get_or slots n 0 ≡ slot) ⊎ IsIn slot (drop k slots) in
          let e : suc n ≡ n + 1 = omega arith in subst P e (in_drop slot slots n below rest))
      by (inr looked) = inr (looked_more a b slot still looked)

  pub looked_all : (slots : List ℕ) (n : ℕ) (a : tree.BTreeMap ℕ ℕ) → length slots ≤ n → ((slot : ℕ) → IsIn slot slots → IsIn slot (drop n slots) ⊎ IsLookedAt at a slot)
      → (slot : ℕ) → IsIn slot slots → IsLookedAt at a slot
  looked_all slots n a over before slot is = elim (before slot is) [
    | inl rest ↦ absurd (in_none slot slots n over rest)
    | inr looked ↦ looked
  ]

-- no other has its turn
pub alone : (t : Endpoints) (endpoints : List Endpoint) (endpoint : Endpoint) → Holds t endpoints → IsIn endpoint endpoints → IsAlone (λ s. endpoint_at t s) endpoint.turn endpoint.slot
alone t endpoints endpoint held is other x at same =
    let k = held.kept other x at in
    sym k.1 ∙ ap (λ (l : Endpoint). l.slot) (one_turn t.next_turn endpoints endpoint x held.turns is k.0 same)

-- the conversations that are marked were looked at in part
pub still_held : (old new : Endpoints) (endpoints : List Endpoint) → new ≡ record old { ready = new.ready } → StillReady (λ s. endpoint_at old s) old.ready new.ready
    → (AllTurns (λ s. endpoint_at old s) old.ready → AllTurns (λ s. endpoint_at old s) new.ready) → Holds old endpoints → Holds new endpoints
still_held old new endpoints same still turned held =
    let P : Endpoints → Type 0 = λ t. Holds t endpoints in
    subst P (sym same) (record {
      found = held.found;
      kept = held.kept;
      turns = held.turns;
      listed = held.listed;
      over = held.over;
      open_or = λ endpoint is opens. elim (held.open_or endpoint is opens) [
        | inl m ↦ inl m
        | inr r ↦ inr (still endpoint.turn endpoint.slot (alone old endpoints endpoint held is) r)
      ];
      tidy = record { only = held.tidy.only; once = held.tidy.once; filled = held.tidy.filled; turned = turned held.tidy.turned; marks = held.tidy.marks };
    })

-- one conversation was looked at
pub gathered : (old new last : Endpoints) (conv : ℕ) (endpoints : List Endpoint) → new ≡ record old { ready = new.ready } → StillReady (λ s. endpoint_at old s) old.ready new.ready
    → (AllTurns (λ s. endpoint_at old s) old.ready → AllTurns (λ s. endpoint_at old s) new.ready) → ((slot : ℕ) → IsIn slot (slots_at old conv) → IsLookedAt (λ s. endpoint_at old s) new.ready slot) → last ≡ record new { marked = last.marked } → new.marked.items ≡ last.marked.items ++ conv ∷ []
    → Holds old endpoints → Holds last endpoints
gathered old new last conv endpoints same still turned looked rest were held =
    let P : Endpoints → Type 0 = λ t. Holds t endpoints in
    subst P (sym whole) (record {
      found = held.found;
      kept = held.kept;
      turns = held.turns;
      listed = held.listed;
      over = λ endpoint is over. elim (held.over endpoint is over) [
        | inl lost ↦ inl lost
        | inr m ↦ elim (left endpoint.conv m) [
          | inl there ↦ inr there
          | inr e ↦ absurd (alive endpoint is e over)
        ]
      ];
      open_or = λ endpoint is opens. elim (held.open_or endpoint is opens) [
        | inr r ↦ inr (still endpoint.turn endpoint.slot (alone old endpoints endpoint held is) r)
        | inl (inl lost) ↦ inl (inl lost)
        | inl (inr m) ↦ elim (left endpoint.conv m) [
          | inl there ↦ inl (inr there)
          | inr e ↦ inr ((seen endpoint is e).1 (opens_so endpoints endpoint opens).0 (alone old endpoints endpoint held is))
        ]
      ];
      tidy = record {
        only = held.tidy.only;
        once = held.tidy.once;
        filled = held.tidy.filled;
        turned = turned held.tidy.turned;
        marks = (let Q : List ℕ → Type 0 = λ ls. Once ls in once_front last.marked.items (conv ∷ []) (subst Q old_marked held.tidy.marks));
      };
    })
  where
    whole : last ≡ record old { ready = new.ready; marked = last.marked }
    whole = rest ∙ ap (λ (t : Endpoints). record t { ready = new.ready; marked = last.marked }) same

    old_marked : old.marked.items ≡ last.marked.items ++ conv ∷ []
    old_marked = sym (ap (λ (t : Endpoints). t.marked.items) same) ∙ were

    left : (c : ℕ) → IsIn c old.marked.items → IsIn c last.marked.items ⊎ (c ≡ conv)
    left c is = let P : List ℕ → Type 0 = λ ls. IsIn c ls in elim (in_append c last.marked.items (conv ∷ []) (subst P old_marked is)) [
      | inl there ↦ inl there
      | inr (inl e) ↦ inr (sym e)
      | inr (inr none) ↦ absurd none
    ]

    seen : (endpoint : Endpoint) → IsIn endpoint endpoints → endpoint.conv ≡ conv → (endpoint.is_over ≡ false) × (endpoint.is_readable ≡ true → IsAlone (λ s. endpoint_at old s) endpoint.turn endpoint.slot → tree.get nat_cmp new.ready endpoint.turn ≡ Some endpoint.slot)
    seen endpoint is e = let P : ℕ → Type 0 = λ n. IsIn endpoint.slot (slots_at old n) in looked endpoint.slot (subst P e (held.listed endpoint is)) endpoint (held.found endpoint is)

    alive : (endpoint : Endpoint) → IsIn endpoint endpoints → endpoint.conv ≡ conv → endpoint.is_over ≡ true → ⊥
    alive endpoint is e over = let wrong : true ≡ false = sym over ∙ (seen endpoint is e).0 in cc

-- one that is no candidate is ready no more
pub dropped : (old new : Endpoints) (turn slot : ℕ) (endpoints : List Endpoint) → new ≡ record old { ready = new.ready } → tree.get nat_cmp old.ready turn ≡ Some slot
    → ((q : ℕ) → tree.get nat_cmp new.ready q ≡ cond (is_at (nat_cmp turn) q) None (tree.get nat_cmp old.ready q)) → is_candidate old turn slot ≡ false → Holds old endpoints → Holds new endpoints
dropped old new turn slot endpoints same at gone not_now held =
    let P : Endpoints → Type 0 = λ t. Holds t endpoints in
    subst P (sym same) (record {
      found = held.found;
      kept = held.kept;
      turns = held.turns;
      listed = held.listed;
      over = held.over;
      open_or = λ endpoint is opens. elim (held.open_or endpoint is opens) [
        | inl m ↦ inl m
        | inr r ↦ inr (by endpoint is opens r (key_case turn endpoint.turn))
      ];
      tidy = record {
        only = held.tidy.only;
        once = held.tidy.once;
        filled = held.tidy.filled;
        turned = turns_out (λ s. endpoint_at old s) turn old.ready new.ready gone held.tidy.turned;
        marks = held.tidy.marks;
      };
    })
  where
    by : (endpoint : Endpoint) → IsIn endpoint endpoints → is_open_to_read endpoints endpoint ≡ true → tree.get nat_cmp old.ready endpoint.turn ≡ Some endpoint.slot
        → ((is_at (nat_cmp turn) endpoint.turn ≡ true) × (turn ≡ endpoint.turn)) ⊎ (is_at (nat_cmp turn) endpoint.turn ≡ false) → tree.get nat_cmp new.ready endpoint.turn ≡ Some endpoint.slot
    by endpoint is opens r (inr e) = gone endpoint.turn ∙ rw e r
    by endpoint is opens r (inl e) =
        let P : ℕ → Type 0 = λ n. tree.get nat_cmp old.ready n ≡ Some slot in
        let a : Some slot ≡ Some endpoint.slot = sym (subst P e.1 at) ∙ r in
        let b : slot ≡ endpoint.slot = cc in
        let Q : ℕ → Type 0 = λ n. endpoint_at old n ≡ Some endpoint in
        let c : endpoint_at old slot ≡ Some endpoint = subst Q (sym b) (held.found endpoint is) in
        let d : is_open_in old endpoint ≡ true = open_same old endpoints held endpoint ∙ opens in
        let f : (endpoint.turn == turn) ≡ true = eq-eqb endpoint.turn turn (sym e.1) in
        let g : is_candidate old turn slot ≡ true = rw (c, f) d in
        let wrong : true ≡ false = sym g ∙ not_now in cc

-- it is a candidate
pub candidate : (t : Endpoints) (turn slot : ℕ) → is_candidate t turn slot ≡ true → tree.IsLowerBound nat_cmp t.ready turn → IsFirst t slot
candidate t turn slot is least =
    let p = passed (λ endpoint. (endpoint.turn == turn) && is_open_in t endpoint) (endpoint_at t slot) is in
    let b = both_true (p.endpoint.turn == turn) (is_open_in t p.endpoint) p.is_so in
    let P : ℕ → Type 0 = λ n. tree.IsLowerBound nat_cmp t.ready n in
    record { endpoint = p.endpoint; at = p.at; opens = b.1; least = subst P (sym (eqb-true p.endpoint.turn turn b.0)) least }

pub none_of : {A : Type 0} (o : Option A) → is_some o ≡ false → o ≡ None
none_of None is = refl
none_of (Some x) is = let wrong : true ≡ false = is in cc

-- what was taken off the end
pub popped_last : (items front : List ℕ) (r : Option ℕ) (conv n : ℕ) → r ≡ Some (get_or items n conv) → conv ≡ get_or items n conv → items ≡ front ++ option_to_list r → items ≡ front ++ conv ∷ []
popped_last items front r conv n taken seen were =
    let P : Option ℕ → Type 0 = λ o. items ≡ front ++ option_to_list o in
    subst P (taken ∙ ap (λ (k : ℕ). Some k) (sym seen)) were

pub seen_last : (a b : Endpoints) (conv n : ℕ) → n ≡ a.marked.len → b ≡ record a { ready = b.ready } → conv ≡ get_or a.marked.items (n - 1) conv → conv ≡ get_or b.marked.items (b.marked.len - 1) conv
seen_last a b conv n n_is same is =
    let P : Endpoints → Type 0 = λ t. conv ≡ get_or t.marked.items (t.marked.len - 1) conv in
    let Q : ℕ → Type 0 = λ k. conv ≡ get_or a.marked.items (k - 1) conv in subst P (sym same) (subst Q n_is is)

-- what is left of the marks
pub prefix_less : (a b : Endpoints) (last : List ℕ) (conv : ℕ) (whole : List ℕ) → b ≡ record a { ready = b.ready } → b.marked.items ≡ last ++ conv ∷ [] → IsPrefixOf a.marked.items whole → IsPrefixOf last whole
prefix_less a b last conv whole same were prefix =
    let marks : a.marked.items ≡ last ++ conv ∷ [] = sym (ap (λ (t : Endpoints). t.marked.items) same) ∙ were in
    (conv ∷ prefix.0, prefix.1 ∙ (ap (λ (ls : List ℕ). ls ++ prefix.0) marks ∙ append_assoc last (conv ∷ []) prefix.0))

-- none passes
pub none_pass : (test : Endpoint → Bool) (endpoints : List Endpoint) → ((endpoint : Endpoint) → IsIn endpoint endpoints → test endpoint ≡ true → ⊥) → list_any test endpoints ≡ false
none_pass test endpoints none = by (list_any test endpoints) refl
  where
    by : (b : Bool) → list_any test endpoints ≡ b → list_any test endpoints ≡ false
    by false e = e
    by true e = let p = any_one test endpoints e in absurd (none p.one p.is_in p.is_so)

before_it : (next : ℕ) (front back : List Endpoint) (endpoint x : Endpoint) → Ascend next (front ++ endpoint ∷ back) → IsIn x front → x.turn < endpoint.turn
before_it next [] back endpoint x up is = absurd is
before_it next (first ∷ front) back endpoint x up (inl e) =
    let P : Endpoint → Type 0 = λ l. l.turn < endpoint.turn in subst P e (below_in first.turn endpoint (front ++ endpoint ∷ back) up.1 (in_here endpoint front back))
before_it next (first ∷ front) back endpoint x up (inr is) = before_it next front back endpoint x up.2 is

module _ (t : Endpoints) (endpoints : List Endpoint) (held : Holds t endpoints) (settled : IsSettled t) where
  unmarked : (conv : ℕ) → IsMarked t conv → ⊥
  unmarked conv (inl lost) = let wrong : true ≡ false = sym lost ∙ settled.known in cc
  unmarked conv (inr m) = let P : List ℕ → Type 0 = λ ls. IsIn conv ls in subst P settled.none m

  -- where all were looked at, none is over
  pub none_over : list_any is_over endpoints ≡ false
  none_over = none_pass is_over endpoints (λ endpoint is over. unmarked endpoint.conv (held.over endpoint is over))

  -- and where none was found ready, none may be read
  pub none_open : tree.IsEmpty t.ready → list_any (is_open_to_read endpoints) endpoints ≡ false
  none_open empty = none_pass (is_open_to_read endpoints) endpoints (λ endpoint is opens. elim (held.open_or endpoint is opens) [
    | inl m ↦ unmarked endpoint.conv m
    | inr r ↦ (let P : List (ℕ × ℕ) → Type 0 = λ es. lookup (is_at (nat_cmp endpoint.turn)) es ≡ Some endpoint.slot in let wrong : None ≡ Some endpoint.slot = subst P empty r in cc)
  ])

  -- none before the first that was found ready may be read
  pub none_before : (front back : List Endpoint) (endpoint : Endpoint) → endpoints ≡ front ++ endpoint ∷ back → tree.IsLowerBound nat_cmp t.ready endpoint.turn → list_any (is_open_to_read endpoints) front ≡ false
  none_before front back endpoint are least = none_pass (is_open_to_read endpoints) front (λ x is opens. by x is (held.open_or x (whole x is) opens))
    where
      whole : (x : Endpoint) → IsIn x front → IsIn x endpoints
      whole x is = let P : List Endpoint → Type 0 = λ ls. IsIn x ls in subst P (sym are) (in_left x front (endpoint ∷ back) is)

      by : (x : Endpoint) → IsIn x front → IsMarked t x.conv ⊎ (tree.get nat_cmp t.ready x.turn ≡ Some x.slot) → ⊥
      by x is (inl m) = unmarked x.conv m
      by x is (inr r) =
          let P : List Endpoint → Type 0 = λ ls. Ascend t.next_turn ls in
          let below : x.turn < endpoint.turn = before_it t.next_turn front back endpoint x (subst P are held.turns) is in
          let Q : Option ℕ → Type 0 = λ o. IsSome o in
          let over : endpoint.turn ≤ x.turn = le_from_not_gt endpoint.turn x.turn (least x.turn (subst Q (sym r) refl)) in
          absurd (omega (arith, below, over))
