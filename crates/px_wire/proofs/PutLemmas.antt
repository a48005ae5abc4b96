-- Putting what waits for a slot, and shutting it.
use Rattle.std.proofs.Common.{◌≡◌, ◌≢◌, ◌∙◌, ◌⊎◌, inl, inr, ℕ, ◌+◌, ◌<◌, Bool, true, false, refl, ap, sym, arith, subst, List, [], ◌∷◌, ◌++◌, ◌==◌, take, drop, length, Option, Some, None, append_assoc, length-append}
use Rattle.std.proofs.lemmas.Bool.{eq-eqb, ne_eqb, eqb-true}
use Rattle.std.proofs.lemmas.List.{append-nil, take-append-drop}
use Rattle.px_event.specs.declared.heard.Heard.{Heard}
use Rattle.px_event.specs.declared.heard.Heard.TheVariants as heard
use Rattle.px_wire.specs.declared.endpoint.Endpoint.{Endpoint}
use Rattle.px_wire.specs.declared.call.WireCall.TheVariants as calls
use Rattle.px_wire.specs.Calls.{Calls}
use Rattle.px_wire.specs.Endpoints.{is_done}
use Rattle.px_wire.specs.Ledger.{Life, ledger}
use Rattle.px_wire.specs.Rules.{MayPut, MayTake, MayEnd, IsTaken, MayShut}
use Rattle.px_wire.specs.Stands.{Busy, idle, putting, flushed, ending, may_wait, may_be_done, may_be_finished, unheard, Fits, AllFit, Name, name_of, Apart, Stands}
use Rattle.px_wire.proofs.PlaceLemmas.{refit, joined}
use Rattle.px_wire.proofs.ChangeLemmas.{here, apart, first_at_slot, changed_slot, removed}

-- what is still to be heard of a life looks at its side alone
pub unheard_same : (owed : Option Heard) (a b : Life) → a.conv ≡ b.conv → a.side ≡ b.side → unheard owed a ≡ unheard owed b
unheard_same None a b conv side = refl
unheard_same (Some (heard.Piece c s bytes)) a b conv side = rw (conv, side) refl
unheard_same (Some (heard.Accepted c d p)) a b conv side = refl
unheard_same (Some (heard.Closed c s)) a b conv side = refl
unheard_same (Some (heard.Dialled c s ok)) a b conv side = refl
unheard_same (Some heard.End) a b conv side = refl

-- the slot itself is the one that is being worked on
pub itself : (slot : ℕ) → (slot == slot) ≡ false → ⊥
itself slot differs = let e : true ≡ false = sym (eq-eqb slot slot refl) ∙ differs in cc

-- and another is not
pub another : (a b : Name) → Apart a b → (a.slot == b.slot) ≡ false
another a b apart = ne_eqb a.slot b.slot apart.slots

-- a slot for which bytes wait is not over
pub alive : (busy : Busy) (owed : Option Heard) (endpoint : Endpoint) (life : Life) → Fits busy owed endpoint life → 0 < length endpoint.queue → life.is_over ≡ false
alive busy owed endpoint life fits some = by life.is_over refl
  where
    by : (b : Bool) → life.is_over ≡ b → life.is_over ≡ false
    by false is = is
    by true is = let none : endpoint.queue ≡ [] = (fits.cut is).1 in let e : 0 < 0 = (let P : List ℕ → Type 0 = λ q. 0 < length q in subst P none some) in absurd (omega arith)

-- the same slot and life, of which less or more is said
pub refits : (busy busy' : Busy) (owed : Option Heard) (endpoint : Endpoint) (life : Life) → Fits busy owed endpoint life
    → (may_wait busy' endpoint.slot ≡ false → (endpoint.queue ≡ []) ⊎ (life.is_blocked ≡ true))
    → (may_be_done busy' endpoint.slot ≡ false → is_done endpoint ≡ false)
    → (may_be_finished busy' endpoint.slot ≡ false → life.is_finished ≡ false)
    → Fits busy' owed endpoint life
refits busy busy' owed endpoint life fits blocked still unfinished = record {
  slot = fits.slot;
  conv = fits.conv;
  side = fits.side;
  door = fits.door;
  closing = fits.closing;
  over = fits.over;
  readable = fits.readable;
  queued = fits.queued;
  cut = fits.cut;
  heard = fits.heard;
  blocked = blocked;
  still = still;
  unfinished = unfinished;
}

-- the same slots, of which less or more is said
pub reworked : (busy busy' : Busy) (owed : Option Heard) (front back : List Endpoint) (endpoint : Endpoint) (accepted moment : ℕ) (list : Calls)
    → Stands busy owed (front ++ endpoint ∷ back) accepted moment list
    → ((life : Life) → Fits busy owed endpoint life → Fits busy' owed endpoint life)
    → ((other : Endpoint) (life : Life) → Apart (name_of endpoint) (name_of other) → Fits busy owed other life → Fits busy' owed other life)
    → Stands busy' owed (front ++ endpoint ∷ back) accepted moment list
reworked busy busy' owed front back endpoint accepted moment list stands own others =
    let h = here busy owed front back endpoint accepted moment list stands in
    let a = apart busy owed front back endpoint accepted moment list stands in
    let R : Endpoint → Life → Type 0 = Fits busy owed in
    let R' : Endpoint → Life → Type 0 = Fits busy' owed in
    let P : List Life → Type 0 = λ lives. AllFit R' (front ++ endpoint ∷ back) lives in
    record {
      fits = subst P (sym h.lives_are) (joined R' front (endpoint ∷ back) h.before (h.life ∷ h.behind) (refit R R' (name_of endpoint) others front h.before a.front h.front_fits)
          (own h.life h.fits, refit R R' (name_of endpoint) others back h.behind a.back h.back_fits));
      distinct = stands.distinct;
      used = stands.used;
      accepted_is = stands.accepted_is;
      most = stands.most;
      moment_is = stands.moment_is;
      owed_is = stands.owed_is;
      refused_is = stands.refused_is;
      obeys = stands.obeys;
    }

left_of : (taken said q : List ℕ) → 0 < length q → said ≡ taken ++ q → taken ≢ said
left_of taken said q some is same =
    let e : length taken ≡ length (taken ++ q) = ap length (same ∙ is) in
    let f : length (taken ++ q) ≡ length taken + length q = length-append taken q in
    omega arith

pub no_items : (q : List ℕ) → length q ≡ 0 → q ≡ []
no_items [] e = refl
no_items (x ∷ q) e = absurd (omega arith)

-- what it is that is done with
done_parts : (endpoint : Endpoint) → is_done endpoint ≡ true → (endpoint.is_closing ≡ true) × ((endpoint.queue ≡ []) × (endpoint.is_over ≡ false))
done_parts endpoint is = by endpoint.is_closing refl (length endpoint.queue == 0) refl endpoint.is_over refl
  where
    by : (a : Bool) → endpoint.is_closing ≡ a → (b : Bool) → (length endpoint.queue == 0) ≡ b → (c : Bool) → endpoint.is_over ≡ c
        → (endpoint.is_closing ≡ true) × ((endpoint.queue ≡ []) × (endpoint.is_over ≡ false))
    by true x true y false z = (x, (no_items endpoint.queue (eqb-true (length endpoint.queue) 0 y), z))
    by false x b y c z = let e : false ≡ true = rw x at is in cc
    by true x false y c z = let e : false ≡ true = rw (x, y) at is in cc
    by true x true y true z = let e : false ≡ true = rw (x, y, z) at is in cc

module _ (owed : Option Heard) (front back : List Endpoint) (endpoint : Endpoint) (accepted moment : ℕ) (list : Calls) where
  others_flushed : (other : Endpoint) (life : Life) → Apart (name_of endpoint) (name_of other) → Fits (putting endpoint.slot) owed other life → Fits (flushed endpoint.slot) owed other life
  others_flushed other life away fits =
      refits (putting endpoint.slot) (flushed endpoint.slot) owed other life fits (λ free. fits.blocked (another (name_of endpoint) (name_of other) away)) fits.still fits.unfinished

  may_put : 0 < length endpoint.queue → (life : Life) → Fits (putting endpoint.slot) owed endpoint life → MayPut life
  may_put some life fits = record {
    alive = alive (putting endpoint.slot) owed endpoint life fits some;
    left = left_of life.taken life.said endpoint.queue some (fits.queued (alive (putting endpoint.slot) owed endpoint life fits some));
  }

  taken_all : is_done endpoint ≡ true → (life : Life) → Fits (flushed endpoint.slot) owed endpoint life → IsTaken life
  taken_all is life fits =
      let parts = done_parts endpoint is in
      let live : life.is_over ≡ false = sym fits.over ∙ parts.1.1 in
      record {
        alive = live;
        closing = sym fits.closing ∙ parts.0;
        taken = sym (fits.queued live ∙ (ap (λ (q : List ℕ). life.taken ++ q) parts.1.0 ∙ append-nil life.taken));
      }

  -- the wire takes a part of what waits
  pub took : (count : ℕ) → 0 < length endpoint.queue → Stands (putting endpoint.slot) owed (front ++ endpoint ∷ back) accepted moment list
      → Stands (putting endpoint.slot) owed (front ++ record endpoint { queue = drop count endpoint.queue } ∷ back) accepted moment (list ++ calls.Took endpoint.slot (take count endpoint.queue) ∷ [])
  took count some stands =
      changed_slot (putting endpoint.slot) owed front back endpoint accepted moment list stands (calls.Took endpoint.slot (take count endpoint.queue)) (putting endpoint.slot) owed accepted moment
      (first_at_slot (putting endpoint.slot) owed front back endpoint accepted moment list stands (MayTake (take count endpoint.queue)) next)
      (λ life. record life { taken = life.taken ++ take count endpoint.queue }) (record endpoint { queue = drop count endpoint.queue }) refl
      (record { name = refl; fits = own; others = λ other life apart fits. fits })
      (record { accepted_is = stands.accepted_is; moment_is = stands.moment_is; owed_is = stands.owed_is; refused_is = stands.refused_is }) refl
    where
      parts : (life : Life) → Fits (putting endpoint.slot) owed endpoint life → life.said ≡ (life.taken ++ take count endpoint.queue) ++ drop count endpoint.queue
      parts life fits =
          fits.queued (alive (putting endpoint.slot) owed endpoint life fits some) ∙ (ap (λ (q : List ℕ). life.taken ++ q) (sym (take-append-drop count endpoint.queue))
          ∙ sym (append_assoc life.taken (take count endpoint.queue) (drop count endpoint.queue)))

      next : (life : Life) → Fits (putting endpoint.slot) owed endpoint life → MayTake (take count endpoint.queue) life
      next life fits = record { alive = alive (putting endpoint.slot) owed endpoint life fits some; next = (drop count endpoint.queue, parts life fits) }

      own : (life : Life) → Fits (putting endpoint.slot) owed endpoint life
          → Fits (putting endpoint.slot) owed (record endpoint { queue = drop count endpoint.queue }) (record life { taken = life.taken ++ take count endpoint.queue })
      own life fits = record {
        slot = fits.slot;
        conv = fits.conv;
        side = fits.side;
        door = fits.door;
        closing = fits.closing;
        over = fits.over;
        readable = fits.readable;
        queued = λ _. parts life fits;
        cut = λ is. (let wrong : true ≡ false = sym is ∙ alive (putting endpoint.slot) owed endpoint life fits some in cc);
        heard = fits.heard ∙ ap (λ (b : List ℕ). life.heard ++ b) (unheard_same owed life (record life { taken = life.taken ++ take count endpoint.queue }) refl refl);
        blocked = λ free. absurd (itself endpoint.slot free);
        still = λ free. absurd (itself endpoint.slot free);
        unfinished = λ free. fits.unfinished refl;
      }

  -- the wire takes nothing of what waits
  pub blocked : 0 < length endpoint.queue → Stands (putting endpoint.slot) owed (front ++ endpoint ∷ back) accepted moment list
      → Stands (flushed endpoint.slot) owed (front ++ endpoint ∷ back) accepted moment (list ++ calls.PutBlocked endpoint.slot ∷ [])
  blocked some stands =
      changed_slot (putting endpoint.slot) owed front back endpoint accepted moment list stands (calls.PutBlocked endpoint.slot) (flushed endpoint.slot) owed accepted moment
      (first_at_slot (putting endpoint.slot) owed front back endpoint accepted moment list stands MayPut (may_put some))
      (λ life. record life { is_blocked = true }) endpoint refl
      (record { name = refl; fits = own; others = others_flushed })
      (record { accepted_is = stands.accepted_is; moment_is = stands.moment_is; owed_is = stands.owed_is; refused_is = stands.refused_is }) refl
    where
      own : (life : Life) → Fits (putting endpoint.slot) owed endpoint life → Fits (flushed endpoint.slot) owed endpoint (record life { is_blocked = true })
      own life fits = record {
        slot = fits.slot;
        conv = fits.conv;
        side = fits.side;
        door = fits.door;
        closing = fits.closing;
        over = fits.over;
        readable = fits.readable;
        queued = fits.queued;
        cut = fits.cut;
        heard = fits.heard ∙ ap (λ (b : List ℕ). life.heard ++ b) (unheard_same owed life (record life { is_blocked = true }) refl refl);
        blocked = λ free. inr refl;
        still = fits.still;
        unfinished = fits.unfinished;
      }

  -- the socket failed
  pub broke : 0 < length endpoint.queue → Stands (putting endpoint.slot) owed (front ++ endpoint ∷ back) accepted moment list
      → Stands (flushed endpoint.slot) owed (front ++ record endpoint { queue = []; is_over = true } ∷ back) accepted moment (list ++ calls.PutBroke endpoint.slot ∷ [])
  broke some stands =
      changed_slot (putting endpoint.slot) owed front back endpoint accepted moment list stands (calls.PutBroke endpoint.slot) (flushed endpoint.slot) owed accepted moment
      (first_at_slot (putting endpoint.slot) owed front back endpoint accepted moment list stands MayPut (may_put some))
      (λ life. record life { is_over = true }) (record endpoint { queue = []; is_over = true }) refl
      (record { name = refl; fits = own; others = others_flushed })
      (record { accepted_is = stands.accepted_is; moment_is = stands.moment_is; owed_is = stands.owed_is; refused_is = stands.refused_is }) refl
    where
      own : (life : Life) → Fits (putting endpoint.slot) owed endpoint life → Fits (flushed endpoint.slot) owed (record endpoint { queue = []; is_over = true }) (record life { is_over = true })
      own life fits = record {
        slot = fits.slot;
        conv = fits.conv;
        side = fits.side;
        door = fits.door;
        closing = fits.closing;
        over = refl;
        readable = fits.readable;
        queued = λ is. (let wrong : true ≡ false = is in cc);
        cut = λ _. ((endpoint.queue, fits.queued (alive (putting endpoint.slot) owed endpoint life fits some)), refl);
        heard = fits.heard ∙ ap (λ (b : List ℕ). life.heard ++ b) (unheard_same owed life (record life { is_over = true }) refl refl);
        blocked = λ free. inl refl;
        still = λ free. absurd (itself endpoint.slot free);
        unfinished = fits.unfinished;
      }

  -- nothing is left to be put
  pub emptied : endpoint.queue ≡ [] → Stands (putting endpoint.slot) owed (front ++ endpoint ∷ back) accepted moment list → Stands (flushed endpoint.slot) owed (front ++ endpoint ∷ back) accepted moment list
  emptied none stands =
      reworked (putting endpoint.slot) (flushed endpoint.slot) owed front back endpoint accepted moment list stands
      (λ life fits. refits (putting endpoint.slot) (flushed endpoint.slot) owed endpoint life fits (λ free. inl none) fits.still fits.unfinished) others_flushed

  -- it is not done with
  pub still : is_done endpoint ≡ false → Stands (flushed endpoint.slot) owed (front ++ endpoint ∷ back) accepted moment list → Stands idle owed (front ++ endpoint ∷ back) accepted moment list
  still goes_on stands =
      reworked (flushed endpoint.slot) idle owed front back endpoint accepted moment list stands
      (λ life fits. refits (flushed endpoint.slot) idle owed endpoint life fits fits.blocked (λ free. goes_on) fits.unfinished)
      (λ other life away fits. refits (flushed endpoint.slot) idle owed other life fits fits.blocked (λ free. fits.still (another (name_of endpoint) (name_of other) away)) fits.unfinished)

  -- it is done with
  pub done : is_done endpoint ≡ true → Stands (flushed endpoint.slot) owed (front ++ endpoint ∷ back) accepted moment list
      → Stands (ending endpoint.slot) owed (front ++ endpoint ∷ back) accepted moment list × MayShut (ledger list) endpoint.slot
  done is_over stands = (
    reworked (flushed endpoint.slot) (ending endpoint.slot) owed front back endpoint accepted moment list stands
        (λ life fits. refits (flushed endpoint.slot) (ending endpoint.slot) owed endpoint life fits fits.blocked fits.still (λ free. fits.unfinished refl))
        (λ other life away fits. refits (flushed endpoint.slot) (ending endpoint.slot) owed other life fits fits.blocked fits.still (λ free. fits.unfinished refl)),
    inr (first_at_slot (flushed endpoint.slot) owed front back endpoint accepted moment list stands MayEnd (λ life fits. inr (taken_all is_over life fits))),
  )

  -- it is shut
  pub shut : Stands (ending endpoint.slot) owed (front ++ endpoint ∷ back) accepted moment list → MayShut (ledger list) endpoint.slot
      → Stands idle owed (front ++ back) accepted moment (list ++ calls.Shut endpoint.slot ∷ [])
  shut stands may =
      removed (ending endpoint.slot) owed front back endpoint accepted moment list stands (calls.Shut endpoint.slot) idle owed accepted moment may refl
      (λ other life away fits. refits (ending endpoint.slot) idle owed other life fits fits.blocked (λ free. fits.still (another (name_of endpoint) (name_of other) away))
      (λ free. fits.unfinished (another (name_of endpoint) (name_of other) away)))
      (record { accepted_is = stands.accepted_is; moment_is = stands.moment_is; owed_is = stands.owed_is; refused_is = refl }) refl
