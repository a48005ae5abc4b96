-- Waiting for the wire, and what it tells.
use Rattle.std.proofs.Common.{◌≡◌, ◌∙◌, ◌⊎◌, inl, inr, ℕ, Bool, true, false, refl, ap, sym, subst, List, [], ◌∷◌, ◌++◌, ◌==◌, Option, Some, None}
use Rattle.std.specs.List.{list_any, find}
use Rattle.std.proofs.lemmas.Bool.{eq-eqb}
use Rattle.px_event.specs.declared.side.Side.{Side}
use Rattle.px_event.specs.declared.side.Side.TheVariants.{Client, Server}
use Rattle.px_event.specs.declared.heard.Heard.{Heard}
use Rattle.px_event.specs.declared.heard.Heard.TheVariants as heard
use Rattle.px_wire.specs.declared.endpoint.Endpoint.{Endpoint}
use Rattle.px_wire.specs.declared.call.WireCall.TheVariants as calls
use Rattle.px_wire.specs.declared.wire.Ready.TheVariants as ready
use Rattle.px_wire.specs.Calls.{Calls}
use Rattle.px_wire.specs.Endpoints.{is_held, has_slot, is_endpoint_of, is_open_to_read}
use Rattle.px_wire.specs.Ledger.{Life, ledger, is_life_at, is_life_of, dial_of, dial_heard}
use Rattle.px_wire.specs.Rules.{Each, IsAtRest, MayAsk, is_life_held}
use Rattle.px_wire.specs.Stands.{Busy, idle, putting, Fits, AllFit, Stands, AllCalm}
use Rattle.px_wire.proofs.LedgerLemmas.{change_none, find_here, find_none}
use Rattle.px_wire.proofs.PlaceLemmas.{own_slot}
use Rattle.px_wire.proofs.ChangeLemmas.{here, before_misses, changed_slot, kept}
use Rattle.px_wire.proofs.PutLemmas.{refits}
use Rattle.px_wire.proofs.HearLemmas.{reowed}
use Rattle.px_wire.proofs.GetLemmas.{held_same}
use Rattle.px_wire.proofs.ServeLemmas.{neither, served}

module _ (busy : Busy) (owed : Option Heard) where
  -- no life is of a slot that none is
  pub missing_slot : (slot : ℕ) (endpoints : List Endpoint) (lives : List Life) → AllFit (Fits busy owed) endpoints lives → list_any (has_slot slot) endpoints ≡ false → list_any (is_life_at slot) lives ≡ false
  missing_slot slot [] [] fits none = refl
  missing_slot slot [] (life ∷ lives) fits none = absurd fits
  missing_slot slot (endpoint ∷ endpoints) [] fits none = absurd fits
  missing_slot slot (endpoint ∷ endpoints) (life ∷ lives) fits none =
      let parts = neither (has_slot slot endpoint) (list_any (has_slot slot) endpoints) none in
      let first : is_life_at slot life ≡ false = (let P : ℕ → Type 0 = λ s. (s == slot) ≡ false in subst P fits.0.slot parts.0) in
      let rest : list_any (is_life_at slot) lives ≡ false = missing_slot slot endpoints lives fits.1 parts.1 in
      rw (first, rest) refl

  -- and of a side that none is of
  pub missing_side : (conv : ℕ) (side : Side) (endpoints : List Endpoint) (lives : List Life) → AllFit (Fits busy owed) endpoints lives → list_any (is_endpoint_of conv side) endpoints ≡ false → list_any (is_life_of conv side) lives ≡ false
  missing_side conv side [] [] fits none = refl
  missing_side conv side [] (life ∷ lives) fits none = absurd fits
  missing_side conv side (endpoint ∷ endpoints) [] fits none = absurd fits
  missing_side conv side (endpoint ∷ endpoints) (life ∷ lives) fits none =
      let parts = neither (is_endpoint_of conv side endpoint) (list_any (is_endpoint_of conv side) endpoints) none in
      let first : is_life_of conv side life ≡ false = rw (sym fits.0.conv, sym fits.0.side) parts.0 in
      let rest : list_any (is_life_of conv side) lives ≡ false = missing_side conv side endpoints lives fits.1 parts.1 in
      rw (first, rest) refl

-- a side is at rest
at_rest : (all : List Endpoint) (lives : List Life) → AllFit (Fits idle None) all lives → (endpoint : Endpoint) (life : Life) → Fits idle None endpoint life
    → endpoint.is_over ≡ false → is_open_to_read all endpoint ≡ false → IsAtRest lives life
at_rest all lives fit endpoint life fits live closed = record {
  served = served endpoint life fits live;
  read = read_of endpoint.is_readable refl (is_held all endpoint) refl;
}
  where
    read_of : (a : Bool) → endpoint.is_readable ≡ a → (b : Bool) → is_held all endpoint ≡ b → (is_life_held lives life ≡ true) ⊎ (life.is_readable ≡ false)
    read_of false x b y = inr (sym fits.readable ∙ x)
    read_of true x true y = inl (held_same idle None endpoint life fits all lives fit ∙ y)
    read_of true x false y = let e : true ≡ false = rw (x, y) at closed in cc

rest_each : (all : List Endpoint) (lives : List Life) → AllFit (Fits idle None) all lives → (some : List Endpoint) (others : List Life) → AllFit (Fits idle None) some others → AllCalm all some
    → Each (IsAtRest lives) others
rest_each all lives fit [] [] fits calm = tt
rest_each all lives fit [] (life ∷ others) fits calm = absurd fits
rest_each all lives fit (endpoint ∷ some) [] fits calm = absurd fits
rest_each all lives fit (endpoint ∷ some) (life ∷ others) fits calm =
    (at_rest all lives fit endpoint life fits.0 calm.0 calm.1, rest_each all lives fit some others fits.1 calm.2)

module _ (endpoints : List Endpoint) (accepted moment : ℕ) (list : Calls) (stands : Stands idle None endpoints accepted moment list) (calm : AllCalm endpoints endpoints) where
  pub may_ask : MayAsk (ledger list)
  may_ask = record { lives = rest_each endpoints (ledger list).lives stands.fits endpoints (ledger list).lives stands.fits calm; owed = stands.owed_is; refused = stands.refused_is }

  -- the wire failed
  pub not_ready : Stands idle None endpoints accepted moment (list ++ calls.NotReady ∷ [])
  not_ready =
      kept idle None endpoints accepted moment list stands calls.NotReady idle None moment may_ask refl (λ other life fits. fits)
      (record { accepted_is = stands.accepted_is; moment_is = stands.moment_is; owed_is = stands.owed_is; refused_is = stands.refused_is }) refl

  -- it tells something of a slot that is not in use
  pub unknown_readable : (now slot : ℕ) → list_any (has_slot slot) endpoints ≡ false → Stands idle None endpoints accepted now (list ++ calls.Told now (ready.Readable slot) ∷ [])
  unknown_readable now slot none =
      kept idle None endpoints accepted moment list stands (calls.Told now (ready.Readable slot)) idle None now may_ask
      (change_none (is_life_at slot) (λ life. record life { is_readable = true }) (ledger list).lives (missing_slot idle None slot endpoints (ledger list).lives stands.fits none)) (λ other life fits. fits)
      (record { accepted_is = stands.accepted_is; moment_is = refl; owed_is = stands.owed_is; refused_is = stands.refused_is }) refl

  pub unknown_writable : (now slot : ℕ) → list_any (has_slot slot) endpoints ≡ false → Stands idle None endpoints accepted now (list ++ calls.Told now (ready.Writable slot) ∷ [])
  unknown_writable now slot none =
      kept idle None endpoints accepted moment list stands (calls.Told now (ready.Writable slot)) idle None now may_ask
      (change_none (is_life_at slot) (λ life. record life { is_blocked = false }) (ledger list).lives (missing_slot idle None slot endpoints (ledger list).lives stands.fits none)) (λ other life fits. fits)
      (record { accepted_is = stands.accepted_is; moment_is = refl; owed_is = stands.owed_is; refused_is = stands.refused_is }) refl

  pub unknown_dialled : (now slot : ℕ) (ok : Bool) → list_any (has_slot slot) endpoints ≡ false → Stands idle None endpoints accepted now (list ++ calls.Told now (ready.Dialled slot ok) ∷ [])
  unknown_dialled now slot ok none =
      kept idle None endpoints accepted moment list stands (calls.Told now (ready.Dialled slot ok)) idle None now may_ask refl (λ other life fits. fits)
      (record {
        accepted_is = stands.accepted_is;
        moment_is = refl;
        owed_is = ap (dial_of ok) (find_none (is_life_at slot) (ledger list).lives (missing_slot idle None slot endpoints (ledger list).lives stands.fits none));
        refused_is = stands.refused_is;
      }) refl

module _ (front back : List Endpoint) (endpoint : Endpoint) (accepted moment : ℕ) (list : Calls) (stands : Stands idle None (front ++ endpoint ∷ back) accepted moment list)
    (calm : AllCalm (front ++ endpoint ∷ back) (front ++ endpoint ∷ back)) (now : ℕ) where
  asks : MayAsk (ledger list)
  asks = may_ask (front ++ endpoint ∷ back) accepted moment list stands calm

  -- the slot is readable
  pub readable : Stands idle None (front ++ record endpoint { is_readable = true } ∷ back) accepted now (list ++ calls.Told now (ready.Readable endpoint.slot) ∷ [])
  readable =
      changed_slot idle None front back endpoint accepted moment list stands (calls.Told now (ready.Readable endpoint.slot)) idle None accepted now asks
      (λ life. record life { is_readable = true }) (record endpoint { is_readable = true }) refl
      (record { name = refl; fits = own; others = λ other life away fits. fits })
      (record { accepted_is = stands.accepted_is; moment_is = refl; owed_is = stands.owed_is; refused_is = stands.refused_is }) refl
    where
      own : (life : Life) → Fits idle None endpoint life → Fits idle None (record endpoint { is_readable = true }) (record life { is_readable = true })
      own life fits = record {
        slot = fits.slot;
        conv = fits.conv;
        side = fits.side;
        door = fits.door;
        closing = fits.closing;
        over = fits.over;
        readable = refl;
        queued = fits.queued;
        cut = fits.cut;
        heard = fits.heard;
        blocked = fits.blocked;
        still = fits.still;
        unfinished = fits.unfinished;
      }

  -- it is writable
  pub writable : Stands (putting endpoint.slot) None (front ++ endpoint ∷ back) accepted now (list ++ calls.Told now (ready.Writable endpoint.slot) ∷ [])
  writable =
      changed_slot idle None front back endpoint accepted moment list stands (calls.Told now (ready.Writable endpoint.slot)) (putting endpoint.slot) None accepted now asks
      (λ life. record life { is_blocked = false }) endpoint refl
      (record { name = refl; fits = own; others = λ other life away fits. refits idle (putting endpoint.slot) None other life fits (λ free. fits.blocked refl) (λ free. fits.still refl) fits.unfinished })
      (record { accepted_is = stands.accepted_is; moment_is = refl; owed_is = stands.owed_is; refused_is = stands.refused_is }) refl
    where
      own : (life : Life) → Fits idle None endpoint life → Fits (putting endpoint.slot) None endpoint (record life { is_blocked = false })
      own life fits = record {
        slot = fits.slot;
        conv = fits.conv;
        side = fits.side;
        door = fits.door;
        closing = fits.closing;
        over = fits.over;
        readable = fits.readable;
        queued = fits.queued;
        cut = fits.cut;
        heard = fits.heard;
        blocked = λ free. (let wrong : true ≡ false = sym (eq-eqb endpoint.slot endpoint.slot refl) ∙ free in cc);
        still = λ free. fits.still refl;
        unfinished = fits.unfinished;
      }

  owed_here : (ok : Bool) → dial_of ok (find (is_life_at endpoint.slot) (ledger list).lives) ≡ dial_of ok (Some (here idle None front back endpoint accepted moment list stands).life)
  owed_here ok =
      let h = here idle None front back endpoint accepted moment list stands in
      let m = before_misses idle None front back endpoint accepted moment list stands in
      ap (dial_of ok) (ap (find (is_life_at endpoint.slot)) h.lives_are ∙ find_here (is_life_at endpoint.slot) h.before h.life h.behind m.slot (own_slot endpoint h.life h.fits.slot))

  -- its dial ended
  pub dialled : (server : ℕ) (ok : Bool) → endpoint.side ≡ Server server
      → Stands idle (Some (heard.Dialled endpoint.conv server ok)) (front ++ endpoint ∷ back) accepted now (list ++ calls.Told now (ready.Dialled endpoint.slot ok) ∷ [])
  dialled server ok is =
      let h = here idle None front back endpoint accepted moment list stands in
      let owed : dial_of ok (find (is_life_at endpoint.slot) (ledger list).lives) ≡ Some (heard.Dialled endpoint.conv server ok) =
      owed_here ok ∙ rw (sym h.fits.conv, sym h.fits.side, is) refl in
      kept idle None (front ++ endpoint ∷ back) accepted moment list stands (calls.Told now (ready.Dialled endpoint.slot ok)) idle (Some (heard.Dialled endpoint.conv server ok)) now asks refl
      (λ other life fits. reowed idle None (Some (heard.Dialled endpoint.conv server ok)) other life fits refl)
      (record { accepted_is = stands.accepted_is; moment_is = refl; owed_is = owed; refused_is = stands.refused_is }) refl

  -- no dial gave it
  pub undialled : (ok : Bool) → endpoint.side ≡ Client → Stands idle None (front ++ endpoint ∷ back) accepted now (list ++ calls.Told now (ready.Dialled endpoint.slot ok) ∷ [])
  undialled ok is =
      let h = here idle None front back endpoint accepted moment list stands in
      let owed : dial_of ok (find (is_life_at endpoint.slot) (ledger list).lives) ≡ None = owed_here ok ∙ ap (dial_heard h.life.conv ok) (sym h.fits.side ∙ is) in
      kept idle None (front ++ endpoint ∷ back) accepted moment list stands (calls.Told now (ready.Dialled endpoint.slot ok)) idle None now asks refl (λ other life fits. fits)
      (record { accepted_is = stands.accepted_is; moment_is = refl; owed_is = owed; refused_is = stands.refused_is }) refl
