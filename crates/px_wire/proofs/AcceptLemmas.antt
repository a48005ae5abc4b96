-- A connection is accepted, with a number or without; an address is dialled.
use Rattle.std.proofs.Common.{◌≡◌, ◌≢◌, ◌∙◌, inl, ℕ, ◌+◌, ◌<◌, ◌≤◌, true, false, refl, ap, sym, arith, subst, List, [], ◌∷◌, ◌++◌, ◌==◌, map, Option, Some, None}
use Rattle.std.specs.Prelude.{nat_lt}
use Rattle.std.specs.List.{list_any}
use Rattle.std.proofs.lemmas.Bool.{eq-eqb, ne_eqb, lt-ltb, le-ltb}
use Rattle.px_message.specs.declared.address.Address.{Address}
use Rattle.px_event.specs.Trace.{is_same_side}
use Rattle.px_event.specs.declared.side.Side.{Side}
use Rattle.px_event.specs.declared.side.Side.TheVariants.{Client, Server}
use Rattle.px_event.specs.declared.side.Door.{Door}
use Rattle.px_event.specs.declared.heard.Heard.{Heard}
use Rattle.px_event.specs.declared.heard.Heard.TheVariants as heard
use Rattle.px_event.specs.declared.said.Said.TheVariants as said
use Rattle.px_event.specs.declared.step.Step.TheVariants as steps
use Rattle.px_wire.specs.declared.endpoint.Endpoint.{Endpoint}
use Rattle.px_wire.specs.declared.call.WireCall.{WireCall}
use Rattle.px_wire.specs.declared.call.WireCall.TheVariants as calls
use Rattle.px_wire.specs.declared.wire.Ready.TheVariants as ready
use Rattle.px_wire.specs.Calls.{Calls, slots_of, without_slot, IsFree}
use Rattle.px_wire.specs.Endpoints.{has_slot, is_endpoint_of, new_endpoint}
use Rattle.px_wire.specs.Ledger.{Life, Ledger, ledger, after, is_life_at, is_life_of, drop_first, number_end, new_life}
use Rattle.px_wire.specs.Rules.{MayAsk}
use Rattle.px_wire.specs.Stands.{idle, unheard, Fits, AllFit, Name, name_of, ApartFrom, IsUsed, AllUsed, Stands, AllCalm}
use Rattle.px_wire.proofs.LedgerLemmas.{ledger_more, slots_more, obeys_more, change_none, drop_none}
use Rattle.px_wire.proofs.ChangeLemmas.{added, used_still, stays_used}
use Rattle.px_wire.proofs.HearLemmas.{reowed}
use Rattle.px_wire.proofs.PlaceLemmas.{side_self}
use Rattle.px_wire.proofs.ReadyLemmas.{may_ask, missing_slot, missing_side}
use Rattle.px_wire.proofs.ServeLemmas.{neither}

-- a free slot is none of those in use
pub other_than_free : (slot : ℕ) (slots : List ℕ) (accepted : ℕ) (other : Name) → list_any (λ s. s == slot) slots ≡ false → IsUsed slots accepted other → slot ≢ other.slot
other_than_free slot slots accepted other free used same =
    let e : list_any (λ s. s == slot) slots ≡ true = (let P : ℕ → Type 0 = λ n. list_any (λ s. s == n) slots ≡ true in subst P (sym same) used.used) in
    let wrong : true ≡ false = sym e ∙ free in cc

-- no client has the number of the next connection
pub new_client : (slot : ℕ) (slots : List ℕ) (accepted : ℕ) → list_any (λ s. s == slot) slots ≡ false → (names : List Name) → AllUsed slots accepted names
    → ApartFrom (record { slot = slot; conv = accepted; side = Client }) names
new_client slot slots accepted free [] used = tt
new_client slot slots accepted free (other ∷ names) used = (
  record {
    slots = other_than_free slot slots accepted other free used.0;
    sides = λ conv side. (let below : other.conv < accepted = used.0.numbered (sym side) in absurd (omega arith));
  },
  new_client slot slots accepted free names used.1,
)

-- no endpoint has the side that is dialled
pub new_server : (slot conv : ℕ) (side : Side) (slots : List ℕ) (accepted : ℕ) → list_any (λ s. s == slot) slots ≡ false → (endpoints : List Endpoint) → AllUsed slots accepted (map name_of endpoints)
    → list_any (is_endpoint_of conv side) endpoints ≡ false → ApartFrom (record { slot = slot; conv = conv; side = side }) (map name_of endpoints)
new_server slot conv side slots accepted free [] used none = tt
new_server slot conv side slots accepted free (other ∷ endpoints) used none =
    let parts = neither (is_endpoint_of conv side other) (list_any (is_endpoint_of conv side) endpoints) none in (
      record {
        slots = other_than_free slot slots accepted (name_of other) free used.0;
        sides = λ c s. (let e : is_endpoint_of conv side other ≡ true = is_of c s in let wrong : true ≡ false = sym e ∙ parts.0 in cc);
      },
      new_server slot conv side slots accepted free endpoints used.1 parts.1,
    )
  where
    is_of : conv ≡ other.conv → side ≡ other.side → is_endpoint_of conv side other ≡ true
    is_of c s =
        let same : is_same_side other.side side ≡ true = (let P : Side → Type 0 = λ x. is_same_side x side ≡ true in subst P s (side_self side)) in
        rw (eq-eqb other.conv conv (sym c), same) refl

-- a slot that was just given
pub new_fits : (owed : Option Heard) (slot : ℕ) (conv number : ℕ) (side : Side) (door : Option Door) → conv ≡ number → unheard owed (new_life slot number side door) ≡ [] → Fits idle owed (new_endpoint slot conv side door) (new_life slot number side door)
new_fits owed slot conv number side door same nothing = record {
  slot = refl;
  conv = same;
  side = refl;
  door = refl;
  closing = refl;
  over = refl;
  readable = refl;
  queued = λ _. refl;
  cut = λ is. (let wrong : false ≡ true = is in cc);
  heard = sym nothing;
  blocked = λ free. inl refl;
  still = λ free. refl;
  unfinished = λ free. refl;
}

-- no endpoint has a free slot
none_at : (slot : ℕ) (slots : List ℕ) (accepted : ℕ) → list_any (λ s. s == slot) slots ≡ false → (endpoints : List Endpoint) → AllUsed slots accepted (map name_of endpoints) → list_any (has_slot slot) endpoints ≡ false
none_at slot slots accepted free [] used = refl
none_at slot slots accepted free (endpoint ∷ endpoints) used =
    let first : has_slot slot endpoint ≡ false = ne_eqb endpoint.slot slot (λ e. other_than_free slot slots accepted (name_of endpoint) free used.0 (sym e)) in
    let rest : list_any (has_slot slot) endpoints ≡ false = none_at slot slots accepted free endpoints used.1 in
    rw (first, rest) refl

-- what is in use stays so where a free slot is given and shut
used_refused : (slot : ℕ) (slots : List ℕ) (accepted : ℕ) → list_any (λ s. s == slot) slots ≡ false → (names : List Name) → AllUsed slots accepted names
    → AllUsed (without_slot slot (slots ++ slot ∷ [])) accepted names
used_refused slot slots accepted free [] used = tt
used_refused slot slots accepted free (name ∷ names) used = (
  stays_used slot (slots ++ slot ∷ []) accepted name (other_than_free slot slots accepted name free used.0)
      (record { used = used_still slot name.slot slots used.0.used; numbered = used.0.numbered }),
  used_refused slot slots accepted free names used.1,
)

module _ (endpoints : List Endpoint) (accepted moment : ℕ) (list : Calls) (stands : Stands idle None endpoints accepted moment list) (calm : AllCalm endpoints endpoints) (now slot : ℕ) (door : Door) (peer : Address)
    (free : IsFree slot list) where
  asks : MayAsk (ledger list)
  asks = may_ask endpoints accepted moment list stands calm

  -- it has the next number
  pub accepted_as : accepted < number_end
      → Stands idle (Some (heard.Accepted accepted door peer)) (endpoints ++ new_endpoint slot accepted Client (Some door) ∷ []) (accepted + 1) now (list ++ calls.Told now (ready.Accepted slot door peer) ∷ [])
  accepted_as below =
      let l : Ledger = ledger list in
      let number : accepted ≡ l.accepted = stands.accepted_is in
      let test : nat_lt l.accepted number_end ≡ true = (let P : ℕ → Type 0 = λ n. nat_lt n number_end ≡ true in subst P number (lt-ltb accepted number_end below)) in
      let owed : Option Heard = Some (heard.Accepted accepted door peer) in
      added idle None endpoints accepted moment list stands (calls.Told now (ready.Accepted slot door peer)) idle owed now asks
      (new_endpoint slot accepted Client (Some door)) (new_life slot l.accepted Client (Some door)) (accepted + 1) (rw test refl)
      (λ other life fits. reowed idle None owed other life fits refl)
      (new_fits owed slot accepted l.accepted Client (Some door) number refl) (new_client slot (slots_of list) accepted free (map name_of endpoints) stands.used)
      (omega arith) (omega arith) (λ _. omega arith)
      (record { accepted_is = rw test (ap (λ (n : ℕ). n + 1) number); moment_is = refl; owed_is = rw test (ap (λ (n : ℕ). Some (heard.Accepted n door peer)) (sym number)); refused_is = rw test stands.refused_is }) refl

  -- no number is left, and it is shut
  pub refused_one : number_end ≤ accepted → Stands idle None endpoints accepted now ((list ++ calls.Told now (ready.Accepted slot door peer) ∷ []) ++ calls.Shut slot ∷ [])
  refused_one over =
      let l : Ledger = ledger list in
      let call = calls.Told now (ready.Accepted slot door peer) in
      let more : Calls = list ++ call ∷ [] in
      let test : nat_lt l.accepted number_end ≡ false = (let P : ℕ → Type 0 = λ n. nat_lt n number_end ≡ false in subst P stands.accepted_is (le-ltb accepted number_end over)) in
      let first : ledger more ≡ record l { refused = Some slot; moment = now } = ledger_more list call ∙ rw test refl in
      let both : ledger (more ++ calls.Shut slot ∷ []) ≡ record l { lives = drop_first (is_life_at slot) l.lives; refused = None; moment = now } =
      ledger_more more (calls.Shut slot) ∙ ap (λ (x : Ledger). after x (calls.Shut slot)) first in
      let none : list_any (is_life_at slot) l.lives ≡ false = missing_slot idle None slot endpoints l.lives stands.fits (none_at slot (slots_of list) accepted free endpoints stands.used) in
      let lives : (ledger (more ++ calls.Shut slot ∷ [])).lives ≡ l.lives = ap (λ (x : Ledger). x.lives) both ∙ drop_none (is_life_at slot) l.lives none in
      let slots : slots_of (more ++ calls.Shut slot ∷ []) ≡ without_slot slot (slots_of list ++ slot ∷ []) = slots_more more (calls.Shut slot) ∙ ap (without_slot slot) (slots_more list call) in
      let P : List Life → Type 0 = λ ls. AllFit (Fits idle None) endpoints ls in
      let U : List ℕ → Type 0 = λ ss. AllUsed ss accepted (map name_of endpoints) in
      record {
        fits = subst P (sym lives) stands.fits;
        distinct = stands.distinct;
        used = subst U (sym slots) (used_refused slot (slots_of list) accepted free (map name_of endpoints) stands.used);
        accepted_is = stands.accepted_is ∙ ap (λ (x : Ledger). x.accepted) (sym both);
        most = stands.most;
        moment_is = ap (λ (x : Ledger). x.moment) (sym both);
        owed_is = ap (λ (x : Ledger). x.owed) both ∙ stands.owed_is;
        refused_is = ap (λ (x : Ledger). x.refused) both;
        obeys = obeys_more more (calls.Shut slot) (obeys_more list call stands.obeys asks) (inl (ap (λ (x : Ledger). x.refused) first));
      }

-- an address is dialled for the step that says it
abbrev pub dial_call : ℕ → ℕ → Address → ℕ → WireCall
dial_call conv server address slot = calls.Dialled address (steps.Said conv (said.Dial server address)) slot

module _ (endpoints : List Endpoint) (accepted moment : ℕ) (list : Calls) (stands : Stands idle None endpoints accepted moment list) (slot conv server : ℕ) (address : Address) (free : IsFree slot list) where
  -- the side had no slot
  pub dialled_as : list_any (is_endpoint_of conv (Server server)) endpoints ≡ false
      → Stands idle None (endpoints ++ new_endpoint slot conv (Server server) None ∷ []) accepted moment (list ++ dial_call conv server address slot ∷ [])
  dialled_as none =
      let change : Life → Life = λ life. record life { is_finished = true } in
      added idle None endpoints accepted moment list stands (dial_call conv server address slot) idle None moment (conv, server, refl)
      (new_endpoint slot conv (Server server) None) (new_life slot conv (Server server) None) accepted
      (ap (λ (ls : List Life). ls ++ new_life slot conv (Server server) None ∷ [])
      (change_none (is_life_of conv (Server server)) change (ledger list).lives (missing_side idle None conv (Server server) endpoints (ledger list).lives stands.fits none)))
      (λ other life fits. fits)
      (new_fits None slot conv conv (Server server) None refl refl) (new_server slot conv (Server server) (slots_of list) accepted free endpoints stands.used none)
      (omega arith) stands.most (λ is. (let e : Server server ≡ Client = is in cc))
      (record { accepted_is = stands.accepted_is; moment_is = stands.moment_is; owed_is = stands.owed_is; refused_is = stands.refused_is }) refl
