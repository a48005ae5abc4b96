-- One of the slots, among the others.
use Rattle.std.proofs.Common.{◌≡◌, ◌∙◌, ℕ, ◌<◌, Bool, true, false, refl, ap, sym, arith, subst, List, [], ◌∷◌, ◌++◌, ◌==◌, ◌&&◌, Option, Some, None}
use Rattle.std.specs.Prelude.{nat_eq, is_some, IsSome, option_copied}
use Rattle.std.proofs.Common.{Bor}
use Rattle.std.specs.List.{list_any}
use Rattle.std.specs.Map.{lookup, set_value}
use Rattle.std.proofs.lemmas.Bool.{eqb-true}
use Rattle.px_event.specs.Trace.{is_same_side}
use Rattle.px_event.specs.declared.side.Side.{Side}
use Rattle.px_event.specs.declared.heard.Heard.{Heard}
use Rattle.px_wire.specs.declared.endpoint.Endpoint.{Endpoint}
use Rattle.px_wire.specs.declared.endpoints.Endpoints.{Endpoints}
use Rattle.px_wire.specs.declared.table.Table.{Table}
use Rattle.px_wire.specs.Calls.{Calls}
use Rattle.px_wire.specs.Found.{IsAt, HasTurn, Missing, readable_count}
use Rattle.px_wire.specs.Holds.{Alike, Holds, Changes, IsFirst, IsSettled, endpoint_at}
use Rattle.std.specs.BTreeMap.{IsEmpty}
use Rattle.px_wire.specs.Endpoints.{has_slot, is_endpoint_of, is_over, is_open_to_read}
use Rattle.px_wire.specs.Stands.{idle, StandsFor, Rests, AllCalm, IsCalm}
use Rattle.px_wire.proofs.HoldsLemmas.{open_same, at_slot, change_held, alike_held, alike_back}
use Rattle.px_wire.proofs.InLemmas.{in_here}
use Rattle.px_wire.proofs.DueLemmas.{none_over, none_open, none_before}
use Rattle.px_wire.proofs.PlaceLemmas.{side_same}
use Rattle.px_wire.proofs.ServeLemmas.{neither}

-- what is kept, around one slot
pub record Here (owed : Option Heard) (table : Table) (slot : ℕ) (endpoint : Endpoint) (told : Option Calls) : Type 0 where
  pub front : List Endpoint
  pub back : List Endpoint
  pub is_at : IsAt table.endpoints slot front endpoint back
  pub stands : StandsFor idle owed (front ++ endpoint ∷ back) table.accepted table.moment told

pub here : (owed : Option Heard) (table : Table) (slot : ℕ) (endpoint : Endpoint) (told : Option Calls) → Rests owed table told → endpoint_at table.endpoints slot ≡ Some endpoint → Here owed table slot endpoint told
here owed table slot endpoint told rests at =
    let a = at_slot table.endpoints rests.endpoints slot endpoint rests.held at in
    let P : List Endpoint → Type 0 = λ ls. Holds table.endpoints ls in
    let Q : List Endpoint → Type 0 = λ ls. StandsFor idle owed ls table.accepted table.moment told in
    record { front = a.front; back = a.back; is_at = record { held = subst P a.are rests.held; slot_is = a.slot_is }; stands = subst Q a.are rests.stands }

pub whole : (owed : Option Heard) (table : Table) (slot : ℕ) (front : List Endpoint) (endpoint : Endpoint) (back : List Endpoint) (told : Option Calls) → IsAt table.endpoints slot front endpoint back
    → StandsFor idle owed (front ++ endpoint ∷ back) table.accepted table.moment told → Rests owed table told
whole owed table slot front endpoint back told at stands = record { endpoints = front ++ endpoint ∷ back; held = at.held; stands = stands }

-- it is found by its number
pub endpoint_of : (t : Endpoints) (slot : ℕ) (front : List Endpoint) (endpoint : Endpoint) (back : List Endpoint) → IsAt t slot front endpoint back → endpoint_at t slot ≡ Some endpoint
endpoint_of t slot front endpoint back at = let P : ℕ → Type 0 = λ n. endpoint_at t n ≡ Some endpoint in subst P at.slot_is (at.held.found endpoint (in_here endpoint front back))

-- and still is, once it has changed
pub at_again : (old new : Endpoints) (slot : ℕ) (front : List Endpoint) (endpoint changed : Endpoint) (back : List Endpoint) → IsAt old slot front endpoint back → Changes old new slot endpoint changed
    → changed.slot ≡ endpoint.slot → changed.conv ≡ endpoint.conv → changed.turn ≡ endpoint.turn → IsAt new slot front changed back
at_again old new slot front endpoint changed back at ch slot_is conv_is turn_is =
    record { held = change_held old new slot endpoint changed front back ch at.slot_is slot_is conv_is turn_is at.held; slot_is = slot_is ∙ at.slot_is }

-- the same slots
pub rests_alike : (owed : Option Heard) (old new : Table) (told : Option Calls) → Alike old.endpoints new.endpoints → new.accepted ≡ old.accepted → new.moment ≡ old.moment → Rests owed old told → Rests owed new told
rests_alike owed old new told alike accepted moment rests =
    let P : ℕ → Type 0 = λ n. StandsFor idle owed rests.endpoints n old.moment told in
    let Q : ℕ → Type 0 = λ n. StandsFor idle owed rests.endpoints new.accepted n told in
    record { endpoints = rests.endpoints; held = alike_held old.endpoints new.endpoints rests.endpoints alike rests.held; stands = subst Q (sym moment) (subst P (sym accepted) rests.stands) }

-- none is over, and none may be read
pub calm_of : (all endpoints : List Endpoint) → Missing is_over endpoints → Missing (is_open_to_read all) endpoints → AllCalm all endpoints
calm_of all [] live closed = tt
calm_of all (endpoint ∷ endpoints) live closed =
    let a = neither endpoint.is_over (list_any is_over endpoints) live in
    let b = neither (is_open_to_read all endpoint) (list_any (is_open_to_read all) endpoints) closed in
    (a.0, b.0, calm_of all endpoints a.1 b.1)

-- what it is that was found
pub slot_is : (slot : ℕ) (endpoint : Endpoint) → has_slot slot endpoint ≡ true → endpoint.slot ≡ slot
slot_is slot endpoint is = eqb-true endpoint.slot slot is

pub side_is : (conv : ℕ) (side : Side) (endpoint : Endpoint) → is_endpoint_of conv side endpoint ≡ true → (endpoint.conv ≡ conv) × (endpoint.side ≡ side)
side_is conv side endpoint is = by (endpoint.conv == conv) refl (is_same_side endpoint.side side) refl
  where
    by : (a : Bool) → (endpoint.conv == conv) ≡ a → (b : Bool) → is_same_side endpoint.side side ≡ b → (endpoint.conv ≡ conv) × (endpoint.side ≡ side)
    by true x true y = (eqb-true endpoint.conv conv x, side_same endpoint.side side y)
    by false x b y = let wrong : false ≡ true = rw x at is in cc
    by true x false y = let wrong : false ≡ true = rw (x, y) at is in cc

-- one less is readable
pub fewer : (slot : ℕ) (endpoint : Endpoint) (entries : List (ℕ × Endpoint)) → lookup (nat_eq slot) entries ≡ Some endpoint → endpoint.is_readable ≡ true
    → readable_count (set_value (nat_eq slot) entries (record endpoint { is_readable = false })) < readable_count entries
fewer slot endpoint [] at readable = let wrong : None ≡ Some endpoint = at in cc
fewer slot endpoint (entry ∷ entries) at readable = by (fewer slot endpoint entries) (nat_eq slot entry.0) refl
  where
    by : (lookup (nat_eq slot) entries ≡ Some endpoint → endpoint.is_readable ≡ true → readable_count (set_value (nat_eq slot) entries (record endpoint { is_readable = false })) < readable_count entries)
        → (b : Bool) → nat_eq slot entry.0 ≡ b → readable_count (set_value (nat_eq slot) (entry ∷ entries) (record endpoint { is_readable = false })) < readable_count (entry ∷ entries)
    by more true e =
        let a : Some entry.1 ≡ Some endpoint = rw e at at in
        let same : entry.1 ≡ endpoint = cc in
        let r : entry.1.is_readable ≡ true = ap (λ (l : Endpoint). l.is_readable) same ∙ readable in
        rw (e, r) (omega arith)
    by more false e =
        let a : lookup (nat_eq slot) entries ≡ Some endpoint = rw e at at in
        let less = more a readable in rw e (omega (arith, less))

-- a slot that is there
pub is_there : (o : Option Endpoint) (endpoint : Endpoint) → o ≡ Some endpoint → IsSome o
is_there o endpoint e = let P : Option Endpoint → Type 0 = λ p. IsSome p in subst P (sym e) refl

pub still_there : (o now : Option Endpoint) (f : Endpoint → Endpoint) → IsSome o → ((endpoint : Endpoint) → o ≡ Some endpoint → now ≡ Some (f endpoint)) → IsSome now
still_there None now f some is = let wrong : false ≡ true = some in cc
still_there (Some endpoint) now f some is = is_there now (f endpoint) (is endpoint refl)

-- what was looked up
pub there_is : (got : Option (Bor Endpoint)) (at : Option Endpoint) → option_copied got ≡ at → is_some got ≡ true → (endpoint : Endpoint) × (at ≡ Some endpoint)
there_is None at same is = let wrong : false ≡ true = is in cc
there_is (Some endpoint) at same is = (endpoint.now, sym same)

pub gone_is : (got : Option (Bor Endpoint)) (at : Option Endpoint) → option_copied got ≡ at → is_some got ≡ false → at ≡ None
gone_is None at same is = sym same
gone_is (Some endpoint) at same is = let wrong : true ≡ false = is in cc

-- what is calm stays so
pub calm_alike : (old new : Endpoints) → Alike old new → IsCalm old → IsCalm new
calm_alike old new alike calm endpoints held = calm endpoints (alike_held new old endpoints (alike_back old new alike) held)

-- before something is heard, the conversations that are marked are looked at
pub rests_due : (owed : Option Heard) (table : Table) (new : Endpoints) (told : Option Calls) → ((endpoints : List Endpoint) → Holds table.endpoints endpoints → Holds new endpoints) → Rests owed table told → Rests owed (record table { endpoints = new }) told
rests_due owed table new told holds rests = record { endpoints = rests.endpoints; held = holds rests.endpoints rests.held; stands = rests.stands }

-- nothing is left to be heard
pub calm_due : (t : Endpoints) → IsSettled t → IsEmpty t.ready → IsCalm t
calm_due t settled empty endpoints held = calm_of endpoints endpoints (none_over t endpoints held settled) (none_open t endpoints held settled empty)

-- it is the first slot's turn
pub turn_due : (t : Endpoints) (slot : ℕ) (first : IsFirst t slot) (settled : IsSettled t) (front back : List Endpoint) → IsAt t slot front first.endpoint back → HasTurn front first.endpoint back
turn_due t slot first settled front back at = record {
  opens = sym (open_same t (front ++ first.endpoint ∷ back) at.held first.endpoint) ∙ first.opens;
  first = none_before t (front ++ first.endpoint ∷ back) at.held settled front back first.endpoint refl first.least;
  alive = none_over t (front ++ first.endpoint ∷ back) at.held settled;
}

-- a slot that has nothing at present is readable no more
pub fewer_due : (t mid new : Endpoints) (slot : ℕ) (first : IsFirst mid slot) → mid.by_slot ≡ t.by_slot → new.by_slot.entries ≡ set_value (nat_eq slot) mid.by_slot.entries (record first.endpoint { is_readable = false })
    → readable_count new.by_slot.entries < readable_count t.by_slot.entries
fewer_due t mid new slot first same is =
    let P : List (ℕ × Endpoint) → Type 0 = λ es. readable_count es < readable_count t.by_slot.entries in
    let less = fewer slot first.endpoint mid.by_slot.entries first.at (first_part first.endpoint.is_readable _ first.opens) in
    let e : readable_count mid.by_slot.entries ≡ readable_count t.by_slot.entries = ap (λ m. readable_count m.entries) same in
    subst P (sym is) (omega (arith, less, e))
  where
    first_part : (a b : Bool) → (a && b) ≡ true → a ≡ true
    first_part true b is = refl
    first_part false b is = let wrong : false ≡ true = is in cc
