-- Hearing what is owed, and the close of a side.
use Rattle.std.proofs.Common.{◌≡◌, ◌∙◌, inl, inr, ℕ, true, false, refl, ap, sym, List, [], ◌∷◌, ◌++◌, Option, Some, None}
use Rattle.std.proofs.lemmas.Bool.{eq-eqb}
use Rattle.std.proofs.lemmas.List.{append-nil}
use Rattle.px_event.specs.declared.side.Side.TheVariants.{Server}
use Rattle.px_event.specs.declared.heard.Heard.{Heard}
use Rattle.px_event.specs.declared.heard.Heard.TheVariants as heard
use Rattle.px_event.specs.declared.step.Step.TheVariants as steps
use Rattle.px_wire.specs.declared.endpoint.Endpoint.{Endpoint}
use Rattle.px_wire.specs.declared.call.WireCall.{WireCall}
use Rattle.px_wire.specs.declared.call.WireCall.TheVariants as calls
use Rattle.px_wire.specs.Calls.{Calls}
use Rattle.px_wire.specs.Hears.{IsPlain}
use Rattle.px_wire.specs.Ledger.{Life, ledger, after, change_first, is_life_of}
use Rattle.px_wire.specs.Rules.{Allowed, IsOver, MayEnd, MayShut}
use Rattle.px_wire.specs.Stands.{Busy, idle, ending, unheard, Fits, name_of, Apart, Stands}
use Rattle.px_wire.proofs.PlaceLemmas.{own_side, other_side}
use Rattle.px_wire.proofs.ChangeLemmas.{here, before_misses, first_at_side, first_after, changed_side, kept}
use Rattle.px_wire.proofs.PutLemmas.{refits}

-- the same slot and life, where something else is owed and nothing of it is this side's
pub reowed : (busy : Busy) (owed owed' : Option Heard) (endpoint : Endpoint) (life : Life) → Fits busy owed endpoint life → unheard owed life ≡ unheard owed' life → Fits busy owed' endpoint life
reowed busy owed owed' endpoint life fits same = record {
  slot = fits.slot;
  conv = fits.conv;
  side = fits.side;
  door = fits.door;
  closing = fits.closing;
  over = fits.over;
  readable = fits.readable;
  queued = fits.queued;
  cut = fits.cut;
  heard = fits.heard ∙ ap (λ (b : List ℕ). life.heard ++ b) same;
  blocked = fits.blocked;
  still = fits.still;
  unfinished = fits.unfinished;
}

-- the step in which something is heard
abbrev pub heard_at : ℕ → Heard → WireCall
heard_at moment what = calls.Noted (steps.Heard moment what)

-- a connection, or a server that is connected
pub plain : (endpoints : List Endpoint) (accepted moment : ℕ) (list : Calls) (what : Heard) → IsPlain what → Stands idle (Some what) endpoints accepted moment list
    → Stands idle None endpoints accepted moment (list ++ heard_at moment what ∷ [])
plain endpoints accepted moment list (heard.Accepted conv door peer) is stands =
    kept idle (Some (heard.Accepted conv door peer)) endpoints accepted moment list stands (heard_at moment (heard.Accepted conv door peer)) idle None moment
    (stands.moment_is, stands.owed_is) refl (λ other life fits. reowed idle (Some (heard.Accepted conv door peer)) None other life fits refl)
    (record { accepted_is = stands.accepted_is; moment_is = stands.moment_is; owed_is = refl; refused_is = stands.refused_is }) refl
plain endpoints accepted moment list (heard.Dialled conv server true) is stands =
    kept idle (Some (heard.Dialled conv server true)) endpoints accepted moment list stands (heard_at moment (heard.Dialled conv server true)) idle None moment
    (stands.moment_is, stands.owed_is) refl (λ other life fits. reowed idle (Some (heard.Dialled conv server true)) None other life fits refl)
    (record { accepted_is = stands.accepted_is; moment_is = stands.moment_is; owed_is = refl; refused_is = stands.refused_is }) refl
plain endpoints accepted moment list (heard.Dialled conv server false) is stands = let wrong : false ≡ true = is in cc
plain endpoints accepted moment list (heard.Piece conv side bytes) is stands = absurd is
plain endpoints accepted moment list (heard.Closed conv side) is stands = absurd is
plain endpoints accepted moment list heard.End is stands = absurd is

module _ (front back : List Endpoint) (endpoint : Endpoint) (accepted moment : ℕ) (list : Calls) where
  -- the bytes that it gave
  pub piece : (bytes : List ℕ) → Stands idle (Some (heard.Piece endpoint.conv endpoint.side bytes)) (front ++ endpoint ∷ back) accepted moment list
      → Stands idle None (front ++ endpoint ∷ back) accepted moment (list ++ heard_at moment (heard.Piece endpoint.conv endpoint.side bytes) ∷ [])
  piece bytes stands =
      changed_side idle owed front back endpoint accepted moment list stands (heard_at moment (heard.Piece endpoint.conv endpoint.side bytes)) idle None accepted moment
      (stands.moment_is, stands.owed_is) (λ life. record life { heard = life.heard ++ bytes }) endpoint refl
      (record { name = refl; fits = own; others = others })
      (record { accepted_is = stands.accepted_is; moment_is = stands.moment_is; owed_is = refl; refused_is = stands.refused_is }) refl
    where
      owed : Option Heard
      owed = Some (heard.Piece endpoint.conv endpoint.side bytes)

      own : (life : Life) → Fits idle owed endpoint life → Fits idle None endpoint (record life { heard = life.heard ++ bytes })
      own life fits = record {
        slot = fits.slot;
        conv = fits.conv;
        side = fits.side;
        door = fits.door;
        closing = fits.closing;
        over = fits.over;
        readable = fits.readable;
        queued = fits.queued;
        cut = fits.cut;
        heard = (let mine : is_life_of endpoint.conv endpoint.side life ≡ true = own_side endpoint life fits.conv fits.side in
            let e : life.given ≡ life.heard ++ bytes = rw mine at fits.heard in
            e ∙ sym (append-nil (life.heard ++ bytes)));
        blocked = fits.blocked;
        still = fits.still;
        unfinished = fits.unfinished;
      }

      others : (other : Endpoint) (life : Life) → Apart (name_of endpoint) (name_of other) → Fits idle owed other life → Fits idle None other life
      others other life away fits =
          reowed idle owed None other life fits (let mine : is_life_of endpoint.conv endpoint.side life ≡ false = other_side (name_of endpoint) other life away fits.conv fits.side in rw mine refl)

  finishes : (owed : Option Heard) → ((life : Life) → unheard owed life ≡ []) → (life : Life) → Fits idle owed endpoint life → Fits (ending endpoint.slot) None endpoint (record life { is_finished = true })
  finishes owed nothing life fits = record {
    slot = fits.slot;
    conv = fits.conv;
    side = fits.side;
    door = fits.door;
    closing = fits.closing;
    over = fits.over;
    readable = fits.readable;
    queued = fits.queued;
    cut = fits.cut;
    heard = fits.heard ∙ ap (λ (b : List ℕ). life.heard ++ b) (nothing life);
    blocked = fits.blocked;
    still = λ free. fits.still refl;
    unfinished = λ free. (let wrong : true ≡ false = sym (eq-eqb endpoint.slot endpoint.slot refl) ∙ free in cc);
  }

  finish_others : (owed : Option Heard) → ((life : Life) → unheard owed life ≡ []) → (other : Endpoint) (life : Life) → Apart (name_of endpoint) (name_of other) → Fits idle owed other life → Fits (ending endpoint.slot) None other life
  finish_others owed nothing other life away fits =
      refits idle (ending endpoint.slot) None other life (reowed idle owed None other life fits (nothing life)) fits.blocked (λ free. fits.still refl) (λ free. fits.unfinished refl)

  -- its close
  pub closed : endpoint.is_over ≡ true → Stands idle None (front ++ endpoint ∷ back) accepted moment list
      → Stands (ending endpoint.slot) None (front ++ endpoint ∷ back) accepted moment (list ++ heard_at moment (heard.Closed endpoint.conv endpoint.side) ∷ [])
      × MayShut (ledger (list ++ heard_at moment (heard.Closed endpoint.conv endpoint.side) ∷ [])) endpoint.slot
  closed over stands =
      let h = here idle None front back endpoint accepted moment list stands in
      let m = before_misses idle None front back endpoint accepted moment list stands in
      let call = heard_at moment (heard.Closed endpoint.conv endpoint.side) in
      let allowed : Allowed (ledger list) call =
      (stands.moment_is, first_at_side idle None front back endpoint accepted moment list stands IsOver (λ life fits. record { over = sym fits.over ∙ over; finished = fits.unfinished refl })) in (
        changed_side idle None front back endpoint accepted moment list stands call (ending endpoint.slot) None accepted moment allowed
            (λ life. record life { is_finished = true }) endpoint refl
            (record { name = refl; fits = finishes None (λ life. refl); others = finish_others None (λ life. refl) })
            (record { accepted_is = stands.accepted_is; moment_is = stands.moment_is; owed_is = refl; refused_is = stands.refused_is }) refl,
        inr (first_after idle None front back endpoint accepted moment list stands call (ending endpoint.slot) None accepted moment allowed (is_life_of endpoint.conv endpoint.side)
            (λ life. record life { is_finished = true }) MayEnd m.side (own_side endpoint h.life h.fits.conv h.fits.side) refl refl (inl refl)),
      )

  -- that its dial failed
  pub undialled : (server : ℕ) → endpoint.side ≡ Server server → Stands idle (Some (heard.Dialled endpoint.conv server false)) (front ++ endpoint ∷ back) accepted moment list
      → Stands (ending endpoint.slot) None (front ++ endpoint ∷ back) accepted moment (list ++ heard_at moment (heard.Dialled endpoint.conv server false) ∷ [])
      × MayShut (ledger (list ++ heard_at moment (heard.Dialled endpoint.conv server false) ∷ [])) endpoint.slot
  undialled server is stands =
      let owed : Option Heard = Some (heard.Dialled endpoint.conv server false) in
      let h = here idle owed front back endpoint accepted moment list stands in
      let m = before_misses idle owed front back endpoint accepted moment list stands in
      let call = heard_at moment (heard.Dialled endpoint.conv server false) in
      let allowed : Allowed (ledger list) call = (stands.moment_is, stands.owed_is) in
      let lives : (after (ledger list) call).lives ≡ change_first (is_life_of endpoint.conv endpoint.side) (λ life. record life { is_finished = true }) (ledger list).lives = rw is refl in (
        changed_side idle owed front back endpoint accepted moment list stands call (ending endpoint.slot) None accepted moment allowed
            (λ life. record life { is_finished = true }) endpoint lives
            (record { name = refl; fits = finishes owed (λ life. refl); others = finish_others owed (λ life. refl) })
            (record { accepted_is = stands.accepted_is; moment_is = stands.moment_is; owed_is = refl; refused_is = stands.refused_is }) refl,
        inr (first_after idle owed front back endpoint accepted moment list stands call (ending endpoint.slot) None accepted moment allowed (is_life_of endpoint.conv endpoint.side)
            (λ life. record life { is_finished = true }) MayEnd m.side (own_side endpoint h.life h.fits.conv h.fits.side) lives refl (inl refl)),
      )
