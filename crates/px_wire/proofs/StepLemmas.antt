-- Over several calls: a slot that is read, a close that is heard, and what the wire tells, at a place among the slots.
use Rattle.std.proofs.Common.{◌≡◌, ◌∙◌, ◌⊎◌, inl, inr, ℕ, ◌<◌, ◌≤◌, ◌+◌, Bool, true, false, refl, ap, sym, subst, List, [], ◌∷◌, ◌++◌, ◌==◌, map, take, append_assoc, Option, Some, None}
use Rattle.std.specs.Prelude.{Result, Ok, Err, OnOk, OnErr}
use Rattle.std.specs.List.{list_any}
use Rattle.px_message.specs.declared.address.Address.{Address}
use Rattle.px_event.specs.declared.side.Side.{Side}
use Rattle.px_event.specs.declared.side.Side.TheVariants.{Client, Server}
use Rattle.px_event.specs.declared.side.Door.{Door}
use Rattle.px_event.specs.declared.heard.Heard.{Heard}
use Rattle.px_event.specs.declared.heard.Heard.TheVariants as heard
use Rattle.px_event.specs.declared.said.Said.TheVariants as said
use Rattle.px_event.specs.declared.step.Step.{Step}
use Rattle.px_event.specs.declared.step.Step.TheVariants as steps
use Rattle.px_wire.specs.declared.endpoint.Endpoint.{Endpoint}
use Rattle.px_wire.specs.declared.table.Table.{Table}
use Rattle.px_wire.specs.declared.wire.Got.{Got}
use Rattle.px_wire.specs.declared.wire.Got.TheVariants as gots
use Rattle.px_wire.specs.declared.call.WireCall.{WireCall}
use Rattle.px_wire.specs.declared.call.WireCall.TheVariants as calls
use Rattle.px_wire.specs.declared.wire.Ready.{Ready}
use Rattle.px_wire.specs.declared.wire.Ready.TheVariants as ready
use Rattle.px_outside.specs.declared.net.NetError.{NetError}
use Rattle.px_outside.specs.declared.net.NetError.TheVariants as net
use Rattle.px_wire.specs.Calls.{Calls, Tells, IfTold, IsFree, GivesFree, got_call, slots_of}
use Rattle.px_wire.specs.declared.endpoints.Endpoints.{Endpoints}
use Rattle.px_wire.specs.Found.{IsAt, Missing, HasTurn, Loose}
use Rattle.px_wire.specs.Holds.{Changes, Holds, without}
use Rattle.px_wire.specs.Ledger.{Life, ledger}
use Rattle.px_wire.specs.Stands.{Fits, AllFit, Name, Distinct, AllUsed}
use Rattle.px_wire.proofs.HoldsLemmas.{without_missing, without_around}
use Rattle.std.proofs.lemmas.Bool.{eqb-true}
use Rattle.px_event.specs.Trace.{Trace}
use Rattle.px_wire.specs.Hears.{AddsHeard}
use Rattle.px_wire.specs.Endpoints.{has_slot, is_endpoint_of, new_endpoint, after_get}
use Rattle.px_wire.specs.Ledger.{number_end}
use Rattle.px_wire.specs.Stands.{Busy, idle, putting, Stands, StandsFor, Rests, AllCalm, owed_by, name_of}
use Rattle.px_wire.proofs.LedgerLemmas.{told_more, told_both, told_so}
use Rattle.px_wire.proofs.ReadyLemmas as ready_laws
use Rattle.px_wire.proofs.AcceptLemmas.{accepted_as, refused_one, dialled_as, dial_call, other_than_free}
use Rattle.px_wire.proofs.SayLemmas.{redialled}
use Rattle.px_wire.proofs.FindLemmas.{at_again, side_is}
use Rattle.px_wire.proofs.CallLemmas.{read_endpoints, read_one}

-- what holds of the calls, where they are told, after two calls more
told_twice : (P Q : Calls → Type 0) (first second : WireCall) (old mid new : Option Calls) → Tells first old mid → Tells second mid new → IfTold P old
    → ((list : Calls) → P list → Q ((list ++ first ∷ []) ++ second ∷ [])) → IfTold Q new
told_twice P Q first second old mid new a b held step =
    let Mid : Calls → Type 0 = λ more. (list : Calls) × (more ≡ list ++ first ∷ []) × P list in
    told_more Mid Q second mid new b (told_more P Mid first old mid a held (λ list p. (list, refl, p)))
    (λ more p. let R : Calls → Type 0 = λ ls. Q (ls ++ second ∷ []) in subst R (sym p.1) (step p.0 p.2))

-- what follows where a call answered, or where it answered an error
pub on_ok : {T E : Type 0} (r : Result T E) (X Y : Type 0) → OnOk r X → (X → Y) → OnOk r Y
on_ok (Ok value) X Y held step = step held
on_ok (Err error) X Y held step = tt

pub on_err : {T E : Type 0} (r : Result T E) (X Y : Type 0) → OnErr r X → (X → Y) → OnErr r Y
on_err (Ok value) X Y held step = tt
on_err (Err error) X Y held step = step held

-- what follows whatever the call answered
pub on_any_err : {T E : Type 0} (r : Result T E) (X : Type 0) → X → OnErr r X
on_any_err (Ok value) X holds = tt
on_any_err (Err error) X holds = holds

-- what the wire told is of one kind
pub told_as : (moment : ℕ) (what kind : Ready) (before after : Option Calls) → what ≡ kind → Tells (calls.Told moment what) before after → Tells (calls.Told moment kind) before after
told_as moment what kind before after is tells = let T : Ready → Type 0 = λ w. Tells (calls.Told moment w) before after in subst T is tells

pub free_as : (what : Ready) (slot : ℕ) (door : Door) (peer : Address) (before : Option Calls) → what ≡ ready.Accepted slot door peer → IfTold (GivesFree what) before → IfTold (IsFree slot) before
free_as what slot door peer before is free = let T : Ready → Type 0 = λ w. IfTold (GivesFree w) before in subst T is free

-- nothing was heard, so no step was added
pub none_added : (told : Option (ℕ × Heard)) (old new : Option Trace) → told ≡ None → AddsHeard told old new → new ≡ old
none_added None old new is added = added
none_added (Some heard) old new is added = cc

-- nothing was heard, nothing was told, and what is kept is the same
pub close_lost : {T E : Type 0} (r : Result T E) (old new : Table) (before after : Option Calls) → OnErr r (new ≡ old) → OnErr r (after ≡ before) → Rests None old before
    → OnErr r (Loose new after)
close_lost (Ok value) old new before after table calls rests = tt
close_lost (Err error) old new before after table calls rests =
    let P : Table → Type 0 = λ t. Rests None t after in
    let Q : Option Calls → Type 0 = λ told. Rests None old told in
    (None, subst P (sym table) (subst Q (sym calls) rests))

-- the same, with something that is still to be heard
pub loose_of : {T E : Type 0} (r : Result T E) (old new : Table) (before after : Option Calls) → OnErr r (new ≡ old) → OnErr r (after ≡ before) → (owed : Option Heard) → Rests owed old before
    → OnErr r (Loose new after)
loose_of (Ok value) old new before after table calls owed rests = tt
loose_of (Err error) old new before after table calls owed rests =
    let P : Table → Type 0 = λ t. Rests owed t after in
    let Q : Option Calls → Type 0 = λ told. Rests owed old told in
    (owed, subst P (sym table) (subst Q (sym calls) rests))

-- the same, where the calls have not changed
pub same_calls : (busy : Busy) (owed : Option Heard) (endpoints : List Endpoint) (accepted moment : ℕ) (old now : Option Calls) → now ≡ old
    → StandsFor busy owed endpoints accepted moment old → StandsFor busy owed endpoints accepted moment now
same_calls busy owed endpoints accepted moment old now same stands =
    let P : Option Calls → Type 0 = λ told. StandsFor busy owed endpoints accepted moment told in subst P (sym same) stands

-- the same slots
pub kept_endpoints : (busy : Busy) (owed : Option Heard) (endpoints new : List Endpoint) (accepted moment : ℕ) (told : Option Calls) → new ≡ endpoints
    → StandsFor busy owed endpoints accepted moment told → StandsFor busy owed new accepted moment told
kept_endpoints busy owed endpoints new accepted moment told same stands =
    let P : List Endpoint → Type 0 = λ ls. StandsFor busy owed ls accepted moment told in subst P (sym same) stands

-- what is changed of a slot by a read
pub after_name : (endpoint : Endpoint) (got : Got) → ((after_get endpoint got).slot ≡ endpoint.slot) × ((after_get endpoint got).conv ≡ endpoint.conv) × ((after_get endpoint got).turn ≡ endpoint.turn)
after_name endpoint (gots.Gave count) = (refl, refl, refl)
after_name endpoint gots.Blocked = (refl, refl, refl)
after_name endpoint gots.Ended = (refl, refl, refl)
after_name endpoint gots.Broken = (refl, refl, refl)

-- a slot was read
module _ (slot : ℕ) (front : List Endpoint) (endpoint : Endpoint) (back : List Endpoint) (old new : Endpoints) (accepted moment : ℕ) (room : List ℕ) (got : Got) (before now : Option Calls)
    (at : IsAt old slot front endpoint back) (reads : Changes old new slot endpoint (after_get endpoint got) × Tells (got_call endpoint.slot room got) before now)
    (turn : HasTurn front endpoint back) (stands : StandsFor idle None (front ++ endpoint ∷ back) accepted moment before) where
  pub read_place : StandsFor idle (owed_by endpoint.conv endpoint.side room got) (read_endpoints front (after_get endpoint got) back got) accepted moment now
  read_place = read_one front back endpoint (after_get endpoint got) accepted moment room before now turn stands got refl reads.1

  pub read_at_new : IsAt new slot front (after_get endpoint got) back
  read_at_new = let same = after_name endpoint got in at_again old new slot front endpoint (after_get endpoint got) back at reads.0 same.0 same.1 same.2

  at_new_as : (g : Got) → got ≡ g → IsAt new slot front (after_get endpoint g) back
  at_new_as g is = let P : Got → Type 0 = λ h. IsAt new slot front (after_get endpoint h) back in subst P is read_at_new

  stands_as : (g : Got) → got ≡ g → StandsFor idle (owed_by endpoint.conv endpoint.side room g) (read_endpoints front (after_get endpoint g) back g) accepted moment now
  stands_as g is = let P : Got → Type 0 = λ h. StandsFor idle (owed_by endpoint.conv endpoint.side room h) (read_endpoints front (after_get endpoint h) back h) accepted moment now in subst P is read_place

  -- it gave bytes, and they are to be heard
  pub gave_place : (count : ℕ) → got ≡ gots.Gave count → IsAt new slot front endpoint back × StandsFor idle (Some (heard.Piece endpoint.conv endpoint.side (take count room))) ((front ++ back) ++ endpoint ∷ []) accepted moment now
  gave_place count is = (at_new_as (gots.Gave count) is, stands_as (gots.Gave count) is)

  -- it has nothing at present
  pub blocked_place : got ≡ gots.Blocked → IsAt new slot front (record endpoint { is_readable = false }) back × StandsFor idle None (front ++ record endpoint { is_readable = false } ∷ back) accepted moment now
  blocked_place is = (at_new_as gots.Blocked is, stands_as gots.Blocked is)

  -- its bytes have ended, or its socket failed
  pub over_place : (got ≡ gots.Ended) ⊎ (got ≡ gots.Broken) → IsAt new slot front (record endpoint { queue = []; is_over = true }) back
      × StandsFor idle None (front ++ record endpoint { queue = []; is_over = true } ∷ back) accepted moment now
  over_place (inl is) = (at_new_as gots.Ended is, stands_as gots.Ended is)
  over_place (inr is) = (at_new_as gots.Broken is, stands_as gots.Broken is)

-- another turn changes nothing of what stands
turn_fits : (owed : Option Heard) (turn : ℕ) (front back : List Endpoint) (endpoint : Endpoint) (lives : List Life) → AllFit (Fits idle owed) (front ++ endpoint ∷ back) lives
    → AllFit (Fits idle owed) (front ++ record endpoint { turn = turn } ∷ back) lives
turn_fits owed turn [] back endpoint [] fits = absurd fits
turn_fits owed turn [] back endpoint (life ∷ lives) fits = (
  record {
    slot = fits.0.slot;
    conv = fits.0.conv;
    side = fits.0.side;
    door = fits.0.door;
    closing = fits.0.closing;
    over = fits.0.over;
    readable = fits.0.readable;
    queued = fits.0.queued;
    cut = fits.0.cut;
    heard = fits.0.heard;
    blocked = fits.0.blocked;
    still = fits.0.still;
    unfinished = fits.0.unfinished;
  },
  fits.1,
)
turn_fits owed turn (first ∷ front) back endpoint [] fits = absurd fits
turn_fits owed turn (first ∷ front) back endpoint (life ∷ lives) fits = (fits.0, turn_fits owed turn front back endpoint lives fits.1)

turn_names : (turn : ℕ) (front back : List Endpoint) (endpoint : Endpoint) → map name_of (front ++ endpoint ∷ back) ≡ map name_of (front ++ record endpoint { turn = turn } ∷ back)
turn_names turn [] back endpoint = refl
turn_names turn (first ∷ front) back endpoint = ap (λ (ns : List Name). name_of first ∷ ns) (turn_names turn front back endpoint)

pub turned : (owed : Option Heard) (turn : ℕ) (front back : List Endpoint) (endpoint : Endpoint) (accepted moment : ℕ) (told : Option Calls) → StandsFor idle owed (front ++ endpoint ∷ back) accepted moment told
    → StandsFor idle owed (front ++ record endpoint { turn = turn } ∷ back) accepted moment told
turned owed turn front back endpoint accepted moment told stands =
    told_so (Stands idle owed (front ++ endpoint ∷ back) accepted moment) (Stands idle owed (front ++ record endpoint { turn = turn } ∷ back) accepted moment) told stands
    (λ list s. record {
      fits = turn_fits owed turn front back endpoint (ledger list).lives s.fits;
      distinct = (let P : List Name → Type 0 = λ ns. Distinct ns in subst P (turn_names turn front back endpoint) s.distinct);
      used = (let P : List Name → Type 0 = λ ns. AllUsed (slots_of list) accepted ns in subst P (turn_names turn front back endpoint) s.used);
      accepted_is = s.accepted_is;
      most = s.most;
      moment_is = s.moment_is;
      owed_is = s.owed_is;
      refused_is = s.refused_is;
      obeys = s.obeys;
    })

-- none of the slots in use is a free one
free_none : (slot : ℕ) (slots : List ℕ) (accepted : ℕ) (endpoints : List Endpoint) → list_any (λ s. s == slot) slots ≡ false → AllUsed slots accepted (map name_of endpoints) → Missing (has_slot slot) endpoints
free_none slot slots accepted [] free used = refl
free_none slot slots accepted (endpoint ∷ endpoints) free used = by (endpoint.slot == slot) refl (free_none slot slots accepted endpoints free used.1)
  where
    by : (b : Bool) → (endpoint.slot == slot) ≡ b → Missing (has_slot slot) endpoints → Missing (has_slot slot) (endpoint ∷ endpoints)
    by false e rest = rw (e, rest) refl
    by true e rest = absurd (other_than_free slot slots accepted (name_of endpoint) free used.0 (sym (eqb-true endpoint.slot slot e)))

-- a slot that was given stands behind all others
pub pushed : (slot turn : ℕ) (made : Endpoint) (endpoints : List Endpoint) (call : WireCall) (accepted moment next later : ℕ) (owed : Option Heard) (before after : Option Calls) → Tells call before after
    → StandsFor idle None endpoints accepted moment before → IfTold (IsFree slot) before → StandsFor idle owed (endpoints ++ made ∷ []) next later after
    → StandsFor idle owed (without slot endpoints ++ record made { turn = turn } ∷ []) next later after
pushed slot turn made endpoints call accepted moment next later owed None after tells stands free new =
    let P : Option Calls → Type 0 = λ told. StandsFor idle owed (without slot endpoints ++ record made { turn = turn } ∷ []) next later told in subst P (sym tells) tt
pushed slot turn made endpoints call accepted moment next later owed (Some list) after tells stands free new =
    let none = free_none slot (slots_of list) accepted endpoints free stands.used in
    let P : List Endpoint → Type 0 = λ ls. StandsFor idle owed (ls ++ record made { turn = turn } ∷ []) next later after in
    subst P (sym (without_missing slot endpoints none)) (turned owed turn endpoints [] made next later after new)

-- a slot that the wire told readable
module _ (endpoints : List Endpoint) (accepted moment now : ℕ) (slot : ℕ) (before after : Option Calls) (calm : AllCalm endpoints endpoints) (stands : StandsFor idle None endpoints accepted moment before) where
  pub tells_none_readable : Missing (has_slot slot) endpoints → Tells (calls.Told now (ready.Readable slot)) before after → StandsFor idle None endpoints accepted now after
  tells_none_readable none tells =
      told_more (Stands idle None endpoints accepted moment) (Stands idle None endpoints accepted now) (calls.Told now (ready.Readable slot)) before after tells stands
      (λ list s. ready_laws.unknown_readable endpoints accepted moment list s calm now slot none)

  pub tells_none_writable : Missing (has_slot slot) endpoints → Tells (calls.Told now (ready.Writable slot)) before after → StandsFor idle None endpoints accepted now after
  tells_none_writable none tells =
      told_more (Stands idle None endpoints accepted moment) (Stands idle None endpoints accepted now) (calls.Told now (ready.Writable slot)) before after tells stands
      (λ list s. ready_laws.unknown_writable endpoints accepted moment list s calm now slot none)

  pub tells_none_dialled : (ok : Bool) → Missing (has_slot slot) endpoints → Tells (calls.Told now (ready.Dialled slot ok)) before after → StandsFor idle None endpoints accepted now after
  tells_none_dialled ok none tells =
      told_more (Stands idle None endpoints accepted moment) (Stands idle None endpoints accepted now) (calls.Told now (ready.Dialled slot ok)) before after tells stands
      (λ list s. ready_laws.unknown_dialled endpoints accepted moment list s calm now slot ok none)

  pub tells_failed : Tells calls.NotReady before after → StandsFor idle None endpoints accepted moment after
  tells_failed tells =
      told_more (Stands idle None endpoints accepted moment) (Stands idle None endpoints accepted moment) calls.NotReady before after tells stands
      (λ list s. ready_laws.not_ready endpoints accepted moment list s calm)

  -- it failed, or ran out of memory
  pub tells_no : {T : Type 0} (r : Result T NetError) (error : NetError) → r ≡ Err error → (r ≡ Err net.Fault → Tells calls.NotReady before after) → (r ≡ Err net.NoMemory → after ≡ before)
      → StandsFor idle None endpoints accepted moment after
  tells_no r net.Fault is failed unchanged = tells_failed (failed is)
  tells_no r net.NoMemory is failed unchanged = same_calls idle None endpoints accepted moment before after (unchanged is) stands

-- a slot in use that the wire told something of
module _ (front : List Endpoint) (endpoint : Endpoint) (back : List Endpoint) (accepted moment now : ℕ) (slot : ℕ) (before after : Option Calls) (calm_at : AllCalm (front ++ endpoint ∷ back) (front ++ endpoint ∷ back))
    (stands_at : StandsFor idle None (front ++ endpoint ∷ back) accepted moment before) (slot_same : slot ≡ endpoint.slot) where
  pub tells_readable : Tells (calls.Told now (ready.Readable slot)) before after → StandsFor idle None (front ++ record endpoint { is_readable = true } ∷ back) accepted now after
  tells_readable tells =
      let T : ℕ → Type 0 = λ s. Tells (calls.Told now (ready.Readable s)) before after in
      told_more (Stands idle None (front ++ endpoint ∷ back) accepted moment) (Stands idle None (front ++ record endpoint { is_readable = true } ∷ back) accepted now)
      (calls.Told now (ready.Readable endpoint.slot)) before after (subst T slot_same tells) stands_at (λ list s. ready_laws.readable front back endpoint accepted moment list s calm_at now)

  pub tells_writable : Tells (calls.Told now (ready.Writable slot)) before after → StandsFor (putting endpoint.slot) None (front ++ endpoint ∷ back) accepted now after
  tells_writable tells =
      let T : ℕ → Type 0 = λ s. Tells (calls.Told now (ready.Writable s)) before after in
      told_more (Stands idle None (front ++ endpoint ∷ back) accepted moment) (Stands (putting endpoint.slot) None (front ++ endpoint ∷ back) accepted now)
      (calls.Told now (ready.Writable endpoint.slot)) before after (subst T slot_same tells) stands_at (λ list s. ready_laws.writable front back endpoint accepted moment list s calm_at now)

  pub tells_dialled : (server : ℕ) (ok : Bool) → endpoint.side ≡ Server server → Tells (calls.Told now (ready.Dialled slot ok)) before after
      → StandsFor idle (Some (heard.Dialled endpoint.conv server ok)) (front ++ endpoint ∷ back) accepted now after
  tells_dialled server ok is tells =
      let T : ℕ → Type 0 = λ s. Tells (calls.Told now (ready.Dialled s ok)) before after in
      told_more (Stands idle None (front ++ endpoint ∷ back) accepted moment) (Stands idle (Some (heard.Dialled endpoint.conv server ok)) (front ++ endpoint ∷ back) accepted now)
      (calls.Told now (ready.Dialled endpoint.slot ok)) before after (subst T slot_same tells) stands_at (λ list s. ready_laws.dialled front back endpoint accepted moment list s calm_at now server ok is)

  pub tells_undialled : (ok : Bool) → endpoint.side ≡ Client → Tells (calls.Told now (ready.Dialled slot ok)) before after → StandsFor idle None (front ++ endpoint ∷ back) accepted now after
  tells_undialled ok is tells =
      let T : ℕ → Type 0 = λ s. Tells (calls.Told now (ready.Dialled s ok)) before after in
      told_more (Stands idle None (front ++ endpoint ∷ back) accepted moment) (Stands idle None (front ++ endpoint ∷ back) accepted now)
      (calls.Told now (ready.Dialled endpoint.slot ok)) before after (subst T slot_same tells) stands_at (λ list s. ready_laws.undialled front back endpoint accepted moment list s calm_at now ok is)

-- a connection was accepted, with a number or without
module _ (endpoints : List Endpoint) (accepted moment now slot : ℕ) (door : Door) (peer : Address) (before after : Option Calls) (calm : AllCalm endpoints endpoints)
    (stands : StandsFor idle None endpoints accepted moment before) (free : IfTold (IsFree slot) before) (tells : Tells (calls.Told now (ready.Accepted slot door peer)) before after) where
  both : IfTold (λ list. Stands idle None endpoints accepted moment list × IsFree slot list) before
  both = told_both (Stands idle None endpoints accepted moment) (IsFree slot) before stands free

  pub tells_accepted : accepted < number_end → StandsFor idle (Some (heard.Accepted accepted door peer)) (endpoints ++ new_endpoint slot accepted Client (Some door) ∷ []) (accepted + 1) now after
  tells_accepted below =
      told_more (λ list. Stands idle None endpoints accepted moment list × IsFree slot list)
      (Stands idle (Some (heard.Accepted accepted door peer)) (endpoints ++ new_endpoint slot accepted Client (Some door) ∷ []) (accepted + 1) now) (calls.Told now (ready.Accepted slot door peer)) before after tells both
      (λ list s. accepted_as endpoints accepted moment list s.0 calm now slot door peer s.1 below)

  pub tells_refused : (last : Option Calls) → number_end ≤ accepted → Tells (calls.Shut slot) after last → StandsFor idle None endpoints accepted now last
  tells_refused last over shuts = told_twice (λ list. Stands idle None endpoints accepted moment list × IsFree slot list) (Stands idle None endpoints accepted now)
      (calls.Told now (ready.Accepted slot door peer)) (calls.Shut slot) before after last tells shuts both
      (λ list s. refused_one endpoints accepted moment list s.0 calm now slot door peer s.1 over)

-- an address was dialled
module _ (endpoints : List Endpoint) (accepted moment slot conv server : ℕ) (address : Address) (step : Step) (before after : Option Calls)
    (is : step ≡ steps.Said conv (said.Dial server address)) (free : IfTold (IsFree slot) before) (tells : Tells (calls.Dialled address step slot) before after)
    (stands : StandsFor idle None endpoints accepted moment before) where
  dials_both : IfTold (λ list. Stands idle None endpoints accepted moment list × IsFree slot list) before
  dials_both = told_both (Stands idle None endpoints accepted moment) (IsFree slot) before stands free

  dial_tells : Tells (dial_call conv server address slot) before after
  dial_tells = let T : Step → Type 0 = λ s. Tells (calls.Dialled address s slot) before after in subst T is tells

  pub dials_new : Missing (is_endpoint_of conv (Server server)) endpoints → StandsFor idle None (endpoints ++ new_endpoint slot conv (Server server) None ∷ []) accepted moment after
  dials_new none =
      told_more (λ list. Stands idle None endpoints accepted moment list × IsFree slot list) (Stands idle None (endpoints ++ new_endpoint slot conv (Server server) None ∷ []) accepted moment)
      (dial_call conv server address slot) before after dial_tells dials_both
      (λ list s. dialled_as endpoints accepted moment list s.0 slot conv server address s.1 none)

-- the same, where the side had a slot, which was shut then
pub dials_again : (front : List Endpoint) (endpoint : Endpoint) (back : List Endpoint) (accepted moment slot conv server : ℕ) (address : Address) (step : Step) (before after last : Option Calls)
    → step ≡ steps.Said conv (said.Dial server address) → IfTold (IsFree slot) before → Tells (calls.Dialled address step slot) before after → Tells (calls.Shut endpoint.slot) after last
    → is_endpoint_of conv (Server server) endpoint ≡ true → StandsFor idle None (front ++ endpoint ∷ back) accepted moment before
    → StandsFor idle None ((front ++ back) ++ new_endpoint slot conv (Server server) None ∷ []) accepted moment last
dials_again front endpoint back accepted moment slot conv server address step before after last is free tells shuts here stands =
    let whose = side_is conv (Server server) endpoint here in
    let T : Step → Type 0 = λ s. Tells (calls.Dialled address s slot) before after in
    let C : ℕ → Type 0 = λ n. Tells (dial_call n server address slot) before after in
    let N : ℕ → Type 0 = λ n. StandsFor idle None ((front ++ back) ++ new_endpoint slot n (Server server) None ∷ []) accepted moment last in
    subst N whose.0
    (told_twice (λ list. Stands idle None (front ++ endpoint ∷ back) accepted moment list × IsFree slot list) (Stands idle None ((front ++ back) ++ new_endpoint slot endpoint.conv (Server server) None ∷ []) accepted moment)
    (dial_call endpoint.conv server address slot) (calls.Shut endpoint.slot) before after last (subst C (sym whose.0) (subst T is tells)) shuts
    (told_both (Stands idle None (front ++ endpoint ∷ back) accepted moment) (IsFree slot) before stands free)
    (λ list s. redialled front back endpoint accepted moment list s.0 slot server address s.1 whose.1))

-- what was said of the side is said of the side that was found
pub send_is : (endpoint : Endpoint) (conv : ℕ) (side : Side) (bytes : List ℕ) (step : Step) → is_endpoint_of conv side endpoint ≡ true → step ≡ steps.Said conv (said.Send side bytes)
    → step ≡ steps.Said endpoint.conv (said.Send endpoint.side bytes)
send_is endpoint conv side bytes step passes is =
    let whose = side_is conv side endpoint passes in
    is ∙ (ap (λ (n : ℕ). steps.Said n (said.Send side bytes)) (sym whose.0) ∙ ap (λ (s : Side). steps.Said endpoint.conv (said.Send s bytes)) (sym whose.1))

pub close_is : (endpoint : Endpoint) (conv : ℕ) (side : Side) (step : Step) (before now : Option Calls) → is_endpoint_of conv side endpoint ≡ true → step ≡ steps.Said conv (said.Close side)
    → Tells (calls.Noted step) before now → Tells (calls.Noted (steps.Said endpoint.conv (said.Close endpoint.side))) before now
close_is endpoint conv side step before now passes is tells =
    let whose = side_is conv side endpoint passes in
    let T : Step → Type 0 = λ s. Tells (calls.Noted s) before now in
    subst T (is ∙ (ap (λ (n : ℕ). steps.Said n (said.Close side)) (sym whose.0) ∙ ap (λ (s : Side). steps.Said endpoint.conv (said.Close s)) (sym whose.1))) tells

-- the same, after the same calls
pub rests_same : (owed : Option Heard) (table : Table) (old now : Option Calls) → now ≡ old → Rests owed table old → Rests owed table now
rests_same owed table old now same rests = let P : Option Calls → Type 0 = λ told. Rests owed table told in subst P (sym same) rests

-- the side had a slot, which is shut once the new one is kept
pub redials : (old new : Endpoints) (front : List Endpoint) (endpoint : Endpoint) (back : List Endpoint) (gone : ℕ) (at : IsAt old gone front endpoint back) (accepted moment slot conv server turn : ℕ) (address : Address) (step : Step)
    (before after last : Option Calls) → Holds new (without slot (front ++ endpoint ∷ back) ++ record (new_endpoint slot conv (Server server) None) { turn = turn } ∷ []) → step ≡ steps.Said conv (said.Dial server address)
    → IfTold (IsFree slot) before → Tells (calls.Dialled address step slot) before after → Tells (calls.Shut gone) after last → is_endpoint_of conv (Server server) endpoint ≡ true
    → StandsFor idle None (front ++ endpoint ∷ back) accepted moment before
    → StandsFor idle None (without gone (without slot (front ++ endpoint ∷ back) ++ record (new_endpoint slot conv (Server server) None) { turn = turn } ∷ [])) accepted moment last
redials old new front endpoint back gone at accepted moment slot conv server turn address step None after last held is free tells shuts here stands =
    let T : Option Calls → Type 0 = λ told. Tells (calls.Shut gone) told last in
    let none : last ≡ None = subst T tells shuts in
    let P : Option Calls → Type 0 = λ told. StandsFor idle None (without gone (without slot (front ++ endpoint ∷ back) ++ record (new_endpoint slot conv (Server server) None) { turn = turn } ∷ [])) accepted moment told in
    subst P (sym none) tt
redials old new front endpoint back gone at accepted moment slot conv server turn address step (Some list) after last held is free tells shuts here stands =
    let made : Endpoint = record (new_endpoint slot conv (Server server) None) { turn = turn } in
    let endpoints = front ++ endpoint ∷ back in
    let kept : without slot endpoints ≡ endpoints = without_missing slot endpoints (free_none slot (slots_of list) accepted endpoints free stands.used) in
    let tail : endpoints ++ made ∷ [] ≡ front ++ endpoint ∷ (back ++ made ∷ []) = append_assoc front (endpoint ∷ back) (made ∷ []) in
    let H : List Endpoint → Type 0 = λ ls. Holds new (ls ++ made ∷ []) in
    let K : List Endpoint → Type 0 = λ ls. Holds new ls in
    let held_so : Holds new (front ++ endpoint ∷ (back ++ made ∷ [])) = subst K tail (subst H kept held) in
    let out : without gone (front ++ endpoint ∷ (back ++ made ∷ [])) ≡ front ++ (back ++ made ∷ []) =
    ap (λ (n : ℕ). without n (front ++ endpoint ∷ (back ++ made ∷ []))) (sym at.slot_is) ∙ without_around new front (back ++ made ∷ []) endpoint held_so in
    let whole : without gone (without slot endpoints ++ made ∷ []) ≡ (front ++ back) ++ made ∷ [] =
    ap (λ (ls : List Endpoint). without gone (ls ++ made ∷ [])) kept ∙ (ap (without gone) tail ∙ (out ∙ sym (append_assoc front back (made ∷ [])))) in
    let S : ℕ → Type 0 = λ n. Tells (calls.Shut n) after last in
    let P : List Endpoint → Type 0 = λ ls. StandsFor idle None ls accepted moment last in
    subst P (sym whole) (turned None turn (front ++ back) [] (new_endpoint slot conv (Server server) None) accepted moment last
    (dials_again front endpoint back accepted moment slot conv server address step (Some list) after last is free tells (subst S (sym at.slot_is) shuts) here stands))
