-- The same, where the calls are told.
use Rattle.std.proofs.Common.{◌≡◌, ℕ, true, false, refl, subst, List, ◌∷◌, ◌++◌, Option, Some, None}
use Rattle.px_event.specs.declared.side.Side.{Side}
use Rattle.px_event.specs.declared.side.Side.TheVariants.{Server}
use Rattle.px_event.specs.declared.heard.Heard.{Heard}
use Rattle.px_event.specs.declared.heard.Heard.TheVariants as heard
use Rattle.px_event.specs.declared.said.Said.TheVariants as said
use Rattle.px_event.specs.declared.step.Step.{Step}
use Rattle.px_event.specs.declared.step.Step.TheVariants as steps
use Rattle.px_outside.specs.Net.{IsNote}
use Rattle.px_wire.specs.declared.endpoint.Endpoint.{Endpoint}
use Rattle.px_wire.specs.declared.call.WireCall.TheVariants as calls
use Rattle.px_wire.specs.Calls.{Calls, Tells}
use Rattle.px_wire.specs.Found.{Missing}
use Rattle.px_wire.specs.Hears.{IsPlain}
use Rattle.px_wire.specs.Endpoints.{is_endpoint_of}
use Rattle.px_wire.specs.Ledger.{ledger}
use Rattle.px_wire.specs.Rules.{MayShut}
use Rattle.px_wire.specs.Stands.{idle, putting, flushed, ending, Stands, StandsFor, EndsFor}
use Rattle.px_wire.proofs.LedgerLemmas.{told_more, told_so}
use Rattle.px_wire.proofs.PutLemmas.{reworked, refits}
use Rattle.px_wire.proofs.HearLemmas.{plain, piece, closed, undialled, heard_at}
use Rattle.px_wire.proofs.SayLemmas.{sent, sent_over, sent_to_none, closing, closed_none, noted, send_call, close_call}

-- a slot that is about to be put to
pub may_put_to : (owed : Option Heard) (front back : List Endpoint) (endpoint : Endpoint) (accepted moment : ℕ) (told : Option Calls)
    → StandsFor idle owed (front ++ endpoint ∷ back) accepted moment told → StandsFor (putting endpoint.slot) owed (front ++ endpoint ∷ back) accepted moment told
may_put_to owed front back endpoint accepted moment told stands =
    told_so (Stands idle owed (front ++ endpoint ∷ back) accepted moment) (Stands (putting endpoint.slot) owed (front ++ endpoint ∷ back) accepted moment) told stands
    (λ list s. reworked idle (putting endpoint.slot) owed front back endpoint accepted moment list s
    (λ life fits. refits idle (putting endpoint.slot) owed endpoint life fits (λ free. fits.blocked refl) (λ free. fits.still refl) fits.unfinished)
    (λ other life away fits. refits idle (putting endpoint.slot) owed other life fits (λ free. fits.blocked refl) (λ free. fits.still refl) fits.unfinished))

module _ (accepted moment : ℕ) (old now : Option Calls) where
  -- what is heard
  pub hears_plain : (endpoints : List Endpoint) (what : Heard) → IsPlain what → Tells (heard_at moment what) old now → StandsFor idle (Some what) endpoints accepted moment old → StandsFor idle None endpoints accepted moment now
  hears_plain endpoints what is tells stands =
      told_more (Stands idle (Some what) endpoints accepted moment) (Stands idle None endpoints accepted moment) (heard_at moment what) old now tells stands
      (λ list s. plain endpoints accepted moment list what is s)

  pub hears_piece : (front back : List Endpoint) (endpoint : Endpoint) (bytes : List ℕ) (what : Heard) → what ≡ heard.Piece endpoint.conv endpoint.side bytes → Tells (heard_at moment what) old now
      → StandsFor idle (Some what) (front ++ endpoint ∷ back) accepted moment old → StandsFor idle None (front ++ endpoint ∷ back) accepted moment now
  hears_piece front back endpoint bytes what is tells stands =
      let T : Heard → Type 0 = λ h. Tells (heard_at moment h) old now in
      let S : Heard → Type 0 = λ h. StandsFor idle (Some h) (front ++ endpoint ∷ back) accepted moment old in
      told_more (Stands idle (Some (heard.Piece endpoint.conv endpoint.side bytes)) (front ++ endpoint ∷ back) accepted moment) (Stands idle None (front ++ endpoint ∷ back) accepted moment)
      (heard_at moment (heard.Piece endpoint.conv endpoint.side bytes)) old now (subst T is tells) (subst S is stands) (λ list s. piece front back endpoint accepted moment list bytes s)

  pub hears_closed : (front back : List Endpoint) (endpoint : Endpoint) (what : Heard) → what ≡ heard.Closed endpoint.conv endpoint.side → endpoint.is_over ≡ true → Tells (heard_at moment what) old now
      → StandsFor idle None (front ++ endpoint ∷ back) accepted moment old → EndsFor endpoint.slot None (front ++ endpoint ∷ back) accepted moment now
  hears_closed front back endpoint what is over tells stands =
      let T : Heard → Type 0 = λ h. Tells (heard_at moment h) old now in
      told_more (Stands idle None (front ++ endpoint ∷ back) accepted moment) (λ list. Stands (ending endpoint.slot) None (front ++ endpoint ∷ back) accepted moment list × MayShut (ledger list) endpoint.slot)
      (heard_at moment (heard.Closed endpoint.conv endpoint.side)) old now (subst T is tells) stands (λ list s. closed front back endpoint accepted moment list over s)

  pub hears_undialled : (front back : List Endpoint) (endpoint : Endpoint) (server : ℕ) (what : Heard) → what ≡ heard.Dialled endpoint.conv server false → endpoint.side ≡ Server server → Tells (heard_at moment what) old now
      → StandsFor idle (Some what) (front ++ endpoint ∷ back) accepted moment old → EndsFor endpoint.slot None (front ++ endpoint ∷ back) accepted moment now
  hears_undialled front back endpoint server what is side tells stands =
      let T : Heard → Type 0 = λ h. Tells (heard_at moment h) old now in
      let S : Heard → Type 0 = λ h. StandsFor idle (Some h) (front ++ endpoint ∷ back) accepted moment old in
      told_more (Stands idle (Some (heard.Dialled endpoint.conv server false)) (front ++ endpoint ∷ back) accepted moment)
      (λ list. Stands (ending endpoint.slot) None (front ++ endpoint ∷ back) accepted moment list × MayShut (ledger list) endpoint.slot)
      (heard_at moment (heard.Dialled endpoint.conv server false)) old now (subst T is tells) (subst S is stands) (λ list s. undialled front back endpoint accepted moment list server side s)

  -- what is noted
  pub notes_so : (owed : Option Heard) (endpoints : List Endpoint) (step : Step) → IsNote step → Tells (calls.Noted step) old now → StandsFor idle owed endpoints accepted moment old → StandsFor idle owed endpoints accepted moment now
  notes_so owed endpoints step is tells stands =
      told_more (Stands idle owed endpoints accepted moment) (Stands idle owed endpoints accepted moment) (calls.Noted step) old now tells stands (λ list s. noted owed endpoints accepted moment list s step is)

  -- what is sent
  pub sends : (owed : Option Heard) (front back : List Endpoint) (endpoint : Endpoint) (bytes : List ℕ) (step : Step) → step ≡ steps.Said endpoint.conv (said.Send endpoint.side bytes) → endpoint.is_over ≡ false
      → Tells (calls.Noted step) old now → StandsFor idle owed (front ++ endpoint ∷ back) accepted moment old
      → StandsFor (putting endpoint.slot) owed (front ++ record endpoint { queue = endpoint.queue ++ bytes } ∷ back) accepted moment now
  sends owed front back endpoint bytes step is live tells stands =
      let T : Step → Type 0 = λ s. Tells (calls.Noted s) old now in
      told_more (Stands idle owed (front ++ endpoint ∷ back) accepted moment) (Stands (putting endpoint.slot) owed (front ++ record endpoint { queue = endpoint.queue ++ bytes } ∷ back) accepted moment)
      (send_call endpoint.conv endpoint.side bytes) old now (subst T is tells) stands (λ list s. sent owed front back endpoint accepted moment list s bytes live)

  pub sends_over : (owed : Option Heard) (front back : List Endpoint) (endpoint : Endpoint) (bytes : List ℕ) (step : Step) → step ≡ steps.Said endpoint.conv (said.Send endpoint.side bytes) → endpoint.is_over ≡ true
      → Tells (calls.Noted step) old now → StandsFor idle owed (front ++ endpoint ∷ back) accepted moment old → StandsFor idle owed (front ++ endpoint ∷ back) accepted moment now
  sends_over owed front back endpoint bytes step is over tells stands =
      let T : Step → Type 0 = λ s. Tells (calls.Noted s) old now in
      told_more (Stands idle owed (front ++ endpoint ∷ back) accepted moment) (Stands idle owed (front ++ endpoint ∷ back) accepted moment)
      (send_call endpoint.conv endpoint.side bytes) old now (subst T is tells) stands (λ list s. sent_over owed front back endpoint accepted moment list s bytes over)

  pub sends_none : (owed : Option Heard) (endpoints : List Endpoint) (conv : ℕ) (side : Side) (bytes : List ℕ) (step : Step) → step ≡ steps.Said conv (said.Send side bytes) → Missing (is_endpoint_of conv side) endpoints
      → Tells (calls.Noted step) old now → StandsFor idle owed endpoints accepted moment old → StandsFor idle owed endpoints accepted moment now
  sends_none owed endpoints conv side bytes step is none tells stands =
      let T : Step → Type 0 = λ s. Tells (calls.Noted s) old now in
      told_more (Stands idle owed endpoints accepted moment) (Stands idle owed endpoints accepted moment) (send_call conv side bytes) old now (subst T is tells) stands
      (λ list s. sent_to_none owed endpoints accepted moment list s conv side bytes none)

  -- what is closed
  pub closes : (owed : Option Heard) (front back : List Endpoint) (endpoint : Endpoint) (step : Step) → step ≡ steps.Said endpoint.conv (said.Close endpoint.side)
      → Tells (calls.Noted step) old now → StandsFor idle owed (front ++ endpoint ∷ back) accepted moment old
      → StandsFor (flushed endpoint.slot) owed (front ++ record endpoint { is_closing = true } ∷ back) accepted moment now
  closes owed front back endpoint step is tells stands =
      let T : Step → Type 0 = λ s. Tells (calls.Noted s) old now in
      told_more (Stands idle owed (front ++ endpoint ∷ back) accepted moment) (Stands (flushed endpoint.slot) owed (front ++ record endpoint { is_closing = true } ∷ back) accepted moment)
      (close_call endpoint.conv endpoint.side) old now (subst T is tells) stands (λ list s. closing owed front back endpoint accepted moment list s)

  pub closes_none : (owed : Option Heard) (endpoints : List Endpoint) (conv : ℕ) (side : Side) (step : Step) → step ≡ steps.Said conv (said.Close side) → Missing (is_endpoint_of conv side) endpoints
      → Tells (calls.Noted step) old now → StandsFor idle owed endpoints accepted moment old → StandsFor idle owed endpoints accepted moment now
  closes_none owed endpoints conv side step is none tells stands =
      let T : Step → Type 0 = λ s. Tells (calls.Noted s) old now in
      told_more (Stands idle owed endpoints accepted moment) (Stands idle owed endpoints accepted moment) (close_call conv side) old now (subst T is tells) stands
      (λ list s. closed_none owed endpoints accepted moment list s conv side none)
