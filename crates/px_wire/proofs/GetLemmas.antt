-- Reading a slot.
use Rattle.std.proofs.Common.{◌≡◌, ◌∙◌, ◌⊎◌, inl, inr, ℕ, ◌+◌, Bool, true, false, refl, ap, sym, arith, subst, List, [], ◌∷◌, ◌++◌, length, Option, Some, None}
use Rattle.std.specs.List.{list_any, find}
use Rattle.std.proofs.lemmas.List.{append-nil, length-append}
use Rattle.px_event.specs.declared.heard.Heard.{Heard}
use Rattle.px_event.specs.declared.heard.Heard.TheVariants as heard
use Rattle.px_wire.specs.declared.endpoint.Endpoint.{Endpoint}
use Rattle.px_wire.specs.declared.call.WireCall.{WireCall}
use Rattle.px_wire.specs.declared.call.WireCall.TheVariants as calls
use Rattle.px_wire.specs.Calls.{Calls}
use Rattle.px_wire.specs.Found.{HasTurn}
use Rattle.px_wire.specs.Endpoints.{is_done, is_held, holds, is_open_to_read}
use Rattle.px_wire.specs.Ledger.{Life, ledger, is_life_at, is_life_of, piece_of}
use Rattle.px_wire.specs.Rules.{FirstIs, MayGet, MayRead, may_be_read, waiting, holds_life, is_life_held}
use Rattle.px_wire.specs.Stands.{Busy, idle, Fits, AllFit, name_of, Apart, Stands}
use Rattle.px_wire.proofs.LedgerLemmas.{find_here, first_here}
use Rattle.px_wire.proofs.PlaceLemmas.{own_slot, own_side, other_side}
use Rattle.px_wire.proofs.ChangeLemmas.{here, before_misses, first_at_slot, changed_slot, moved}
use Rattle.px_wire.proofs.ServeLemmas.{neither, served_each, alive_in}

-- how many bytes wait, by the calls and as they are kept
waiting_same : (busy : Busy) (owed : Option Heard) (endpoint : Endpoint) (life : Life) → Fits busy owed endpoint life → waiting life ≡ length endpoint.queue
waiting_same busy owed endpoint life fits = by life.is_over refl
  where
    by : (b : Bool) → life.is_over ≡ b → waiting life ≡ length endpoint.queue
    by false is =
        let e : length life.said ≡ length life.taken + length endpoint.queue = ap length (fits.queued is) ∙ length-append life.taken endpoint.queue in
        rw is (omega arith)
    by true is = rw (is, (fits.cut is).1) refl

holds_same : (busy : Busy) (owed : Option Heard) (other endpoint : Endpoint) (o life : Life) → Fits busy owed other o → Fits busy owed endpoint life → holds_life o life ≡ holds other endpoint
holds_same busy owed other endpoint o life a b =
    let e : waiting o ≡ length other.queue = waiting_same busy owed other o a in
    rw (sym a.conv, sym a.side, sym b.conv, sym b.side, sym b.door, e) refl

-- whether a side is held back, by the calls and as it is kept
pub held_same : (busy : Busy) (owed : Option Heard) (endpoint : Endpoint) (life : Life) → Fits busy owed endpoint life → (endpoints : List Endpoint) (lives : List Life) → AllFit (Fits busy owed) endpoints lives
    → is_life_held lives life ≡ is_held endpoints endpoint
held_same busy owed endpoint life fits [] [] all = refl
held_same busy owed endpoint life fits [] (o ∷ lives) all = absurd all
held_same busy owed endpoint life fits (other ∷ endpoints) [] all = absurd all
held_same busy owed endpoint life fits (other ∷ endpoints) (o ∷ lives) all =
    let e : holds_life o life ≡ holds other endpoint = holds_same busy owed other endpoint o life all.0 fits in
    let rest : is_life_held lives life ≡ is_held endpoints endpoint = held_same busy owed endpoint life fits endpoints lives all.1 in
    rw (e, rest) refl

-- which sides may be read, by the calls and as they are kept
open_same : (busy : Busy) (owed : Option Heard) (endpoint : Endpoint) (life : Life) → Fits busy owed endpoint life → (endpoints : List Endpoint) (lives : List Life) → AllFit (Fits busy owed) endpoints lives
    → may_be_read lives life ≡ is_open_to_read endpoints endpoint
open_same busy owed endpoint life fits endpoints lives all =
    let e : is_life_held lives life ≡ is_held endpoints endpoint = held_same busy owed endpoint life fits endpoints lives all in
    rw (sym fits.readable, e) refl

none_open : (busy : Busy) (owed : Option Heard) (endpoints : List Endpoint) (lives : List Life) → AllFit (Fits busy owed) endpoints lives → (some : List Endpoint) (others : List Life) → AllFit (Fits busy owed) some others
    → list_any (is_open_to_read endpoints) some ≡ false → list_any (may_be_read lives) others ≡ false
none_open busy owed endpoints lives all [] [] fits none = refl
none_open busy owed endpoints lives all [] (life ∷ others) fits none = absurd fits
none_open busy owed endpoints lives all (endpoint ∷ some) [] fits none = absurd fits
none_open busy owed endpoints lives all (endpoint ∷ some) (life ∷ others) fits none =
    let parts = neither (is_open_to_read endpoints endpoint) (list_any (is_open_to_read endpoints) some) none in
    let first : may_be_read lives life ≡ false = open_same busy owed endpoint life fits.0 endpoints lives all ∙ parts.0 in
    let rest : list_any (may_be_read lives) others ≡ false = none_open busy owed endpoints lives all some others fits.1 parts.1 in
    rw (first, rest) refl

-- what it is that may be read
pub open_parts : (endpoints : List Endpoint) (endpoint : Endpoint) → is_open_to_read endpoints endpoint ≡ true → (endpoint.is_readable ≡ true) × (is_held endpoints endpoint ≡ false)
open_parts endpoints endpoint is = by endpoint.is_readable refl (is_held endpoints endpoint) refl
  where
    by : (a : Bool) → endpoint.is_readable ≡ a → (b : Bool) → is_held endpoints endpoint ≡ b → (endpoint.is_readable ≡ true) × (is_held endpoints endpoint ≡ false)
    by true x false y = (x, y)
    by false x b y = let e : false ≡ true = rw x at is in cc
    by true x true y = let e : false ≡ true = rw (x, y) at is in cc

-- one that is over is not done with
over_goes_on : (endpoint : Endpoint) → is_done (record endpoint { queue = []; is_over = true }) ≡ false
over_goes_on endpoint = by endpoint.is_closing refl
  where
    by : (b : Bool) → endpoint.is_closing ≡ b → is_done (record endpoint { queue = []; is_over = true }) ≡ false
    by true is = rw is refl
    by false is = rw is refl

module _ (front back : List Endpoint) (endpoint : Endpoint) (accepted moment : ℕ) (list : Calls) (turn : HasTurn front endpoint back)
    (stands : Stands idle None (front ++ endpoint ∷ back) accepted moment list) where
  live : endpoint.is_over ≡ false
  live = alive_in front back endpoint turn.alive

  may_get : MayRead (ledger list) endpoint.slot
  may_get =
      let h = here idle None front back endpoint accepted moment list stands in
      let all : List Endpoint = front ++ endpoint ∷ back in
      let lives : List Life = (ledger list).lives in
      let own : may_be_read lives h.life ≡ true = open_same idle None endpoint h.life h.fits all lives stands.fits ∙ turn.opens in
      let others : list_any (may_be_read lives) h.before ≡ false = none_open idle None all lives stands.fits front h.before h.front_fits turn.first in
      let P : Life → Type 0 = λ life. life.slot ≡ endpoint.slot in
      let Q : List Life → Type 0 = λ ls. FirstIs (may_be_read lives) P ls in
      record {
        side = first_at_slot idle None front back endpoint accepted moment list stands (MayGet lives) (λ life fits. record {
          alive = sym fits.over ∙ live;
          readable = sym fits.readable ∙ (open_parts all endpoint turn.opens).0;
          held = held_same idle None endpoint life fits all lives stands.fits ∙ (open_parts all endpoint turn.opens).1;
        });
        turn = subst Q (sym h.lives_are) (first_here (may_be_read lives) P h.before h.life h.behind others own (sym h.fits.slot));
        lives = served_each all lives stands.fits turn.alive;
        owed = stands.owed_is;
        refused = stands.refused_is;
      }

  -- it gives bytes, which are to be heard, and goes behind all others
  pub gave : (bytes : List ℕ) → Stands idle (Some (heard.Piece endpoint.conv endpoint.side bytes)) ((front ++ back) ++ endpoint ∷ []) accepted moment (list ++ calls.Gave endpoint.slot bytes ∷ [])
  gave bytes =
      let h = here idle None front back endpoint accepted moment list stands in
      let m = before_misses idle None front back endpoint accepted moment list stands in
      let first : find (is_life_at endpoint.slot) (ledger list).lives ≡ Some h.life =
      ap (find (is_life_at endpoint.slot)) h.lives_are ∙ find_here (is_life_at endpoint.slot) h.before h.life h.behind m.slot (own_slot endpoint h.life h.fits.slot) in
      let owed : piece_of bytes (find (is_life_at endpoint.slot) (ledger list).lives) ≡ Some (heard.Piece endpoint.conv endpoint.side bytes) =
      ap (piece_of bytes) first ∙ rw (sym h.fits.conv, sym h.fits.side) refl in
      moved idle None front back endpoint accepted moment list stands (calls.Gave endpoint.slot bytes) idle (Some (heard.Piece endpoint.conv endpoint.side bytes)) accepted moment may_get
      (λ life. record life { given = life.given ++ bytes }) endpoint refl
      (record { name = refl; fits = own; others = others })
      (record { accepted_is = stands.accepted_is; moment_is = stands.moment_is; owed_is = owed; refused_is = stands.refused_is }) refl
    where
      own : (life : Life) → Fits idle None endpoint life → Fits idle (Some (heard.Piece endpoint.conv endpoint.side bytes)) endpoint (record life { given = life.given ++ bytes })
      own life fits = record {
        slot = fits.slot;
        conv = fits.conv;
        side = fits.side;
        door = fits.door;
        closing = fits.closing;
        over = fits.over;
        readable = fits.readable;
        queued = fits.queued;
        cut = fits.cut;
        heard = (let e : life.given ≡ life.heard = fits.heard ∙ append-nil life.heard in
            let mine : is_life_of endpoint.conv endpoint.side life ≡ true = own_side endpoint life fits.conv fits.side in
            rw mine (ap (λ (b : List ℕ). b ++ bytes) e));
        blocked = fits.blocked;
        still = fits.still;
        unfinished = fits.unfinished;
      }

      others : (other : Endpoint) (life : Life) → Apart (name_of endpoint) (name_of other) → Fits idle None other life → Fits idle (Some (heard.Piece endpoint.conv endpoint.side bytes)) other life
      others other life away fits = record {
        slot = fits.slot;
        conv = fits.conv;
        side = fits.side;
        door = fits.door;
        closing = fits.closing;
        over = fits.over;
        readable = fits.readable;
        queued = fits.queued;
        cut = fits.cut;
        heard = (let mine : is_life_of endpoint.conv endpoint.side life ≡ false = other_side (name_of endpoint) other life away fits.conv fits.side in rw mine fits.heard);
        blocked = fits.blocked;
        still = fits.still;
        unfinished = fits.unfinished;
      }

  -- it has nothing at present
  pub get_blocked : Stands idle None (front ++ record endpoint { is_readable = false } ∷ back) accepted moment (list ++ calls.GetBlocked endpoint.slot ∷ [])
  get_blocked =
      changed_slot idle None front back endpoint accepted moment list stands (calls.GetBlocked endpoint.slot) idle None accepted moment may_get
      (λ life. record life { is_readable = false }) (record endpoint { is_readable = false }) refl
      (record { name = refl; fits = own; others = λ other life away fits. fits })
      (record { accepted_is = stands.accepted_is; moment_is = stands.moment_is; owed_is = stands.owed_is; refused_is = stands.refused_is }) refl
    where
      own : (life : Life) → Fits idle None endpoint life → Fits idle None (record endpoint { is_readable = false }) (record life { is_readable = false })
      own life fits = record {
        slot = fits.slot;
        conv = fits.conv;
        side = fits.side;
        door = fits.door;
        closing = fits.closing;
        over = fits.over;
        readable = refl;
        queued = fits.queued;
        cut = fits.cut;
        heard = fits.heard;
        blocked = fits.blocked;
        still = fits.still;
        unfinished = fits.unfinished;
      }

  cut_off : (life : Life) → Fits idle None endpoint life → Fits idle None (record endpoint { queue = []; is_over = true }) (record life { is_over = true })
  cut_off life fits = record {
    slot = fits.slot;
    conv = fits.conv;
    side = fits.side;
    door = fits.door;
    closing = fits.closing;
    over = refl;
    readable = fits.readable;
    queued = λ is. (let wrong : true ≡ false = is in cc);
    cut = λ _. ((endpoint.queue, fits.queued (sym fits.over ∙ live)), refl);
    heard = fits.heard;
    blocked = λ free. inl refl;
    still = λ free. over_goes_on endpoint;
    unfinished = fits.unfinished;
  }

  -- its bytes have ended, or its socket failed
  pub get_over : (call : WireCall) → (call ≡ calls.GetEnded endpoint.slot) ⊎ (call ≡ calls.GetBroke endpoint.slot)
      → Stands idle None (front ++ record endpoint { queue = []; is_over = true } ∷ back) accepted moment (list ++ call ∷ [])
  get_over call (inl is) = let P : WireCall → Type 0 = λ c. Stands idle None (front ++ record endpoint { queue = []; is_over = true } ∷ back) accepted moment (list ++ c ∷ []) in
      subst P (sym is) (changed_slot idle None front back endpoint accepted moment list stands (calls.GetEnded endpoint.slot) idle None accepted moment may_get
      (λ life. record life { is_over = true }) (record endpoint { queue = []; is_over = true }) refl
      (record { name = refl; fits = cut_off; others = λ other life away fits. fits })
      (record { accepted_is = stands.accepted_is; moment_is = stands.moment_is; owed_is = stands.owed_is; refused_is = stands.refused_is }) refl)
  get_over call (inr is) = let P : WireCall → Type 0 = λ c. Stands idle None (front ++ record endpoint { queue = []; is_over = true } ∷ back) accepted moment (list ++ c ∷ []) in
      subst P (sym is) (changed_slot idle None front back endpoint accepted moment list stands (calls.GetBroke endpoint.slot) idle None accepted moment may_get
      (λ life. record life { is_over = true }) (record endpoint { queue = []; is_over = true }) refl
      (record { name = refl; fits = cut_off; others = λ other life away fits. fits })
      (record { accepted_is = stands.accepted_is; moment_is = stands.moment_is; owed_is = stands.owed_is; refused_is = stands.refused_is }) refl)
