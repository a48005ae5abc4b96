-- What lines keep, over a call.
use Rattle.std.proofs.Common.{◌≡◌, ◌∙◌, ◌⊎◌, inl, inr, ℕ, ◌+◌, ◌≤◌, Bool, true, false, refl, ap, sym, arith, subst, List, [], ◌∷◌, ◌++◌, Option, Some, None}
use Rattle.std.specs.Prelude.{Result, Ok, Err, OnOk, OnErr}
use Rattle.px_event.specs.declared.heard.Heard.{Heard}
use Rattle.px_event.specs.declared.step.Step.{Step}
use Rattle.px_event.specs.Trace.{Trace}
use Rattle.px_outside.specs.Count.{Rose}
use Rattle.px_wire.specs.Hears.{AddsHeard}
use Rattle.px_outside.specs.Net.{IsNote}
use Rattle.px_wire.specs.declared.endpoint.Endpoint.{Endpoint}
use Rattle.px_wire.specs.declared.table.Table.{Table}
use Rattle.px_wire.specs.declared.call.WireCall.TheVariants as calls
use Rattle.px_wire.specs.Calls.{Calls, Tells, NoneTold, AsksMore, AsksAtMost}
use Rattle.px_wire.specs.declared.endpoint.Flushed.{Flushed}
use Rattle.px_wire.specs.Found.{IsAt, Loose}
use Rattle.px_wire.specs.Holds.{endpoint_at}
use Rattle.px_wire.specs.Puts.{FlushedSo, queue_in, queue_of}
use Rattle.px_wire.specs.Lines.{Keeps}
use Rattle.px_wire.specs.Stands.{idle, putting, Stands, StandsFor, Rests}
use Rattle.px_wire.proofs.TableLemmas.{may_put_to, notes_so}
use Rattle.px_wire.proofs.FindLemmas.{here}

-- before the first call
pub begins_so : (told : Option Calls) → NoneTold told → StandsFor idle None [] 0 0 told
begins_so None none = tt
begins_so (Some list) none =
    let P : Calls → Type 0 = λ ls. Stands idle None [] 0 0 ls in
    subst P (sym none) (record { fits = tt; distinct = tt; used = tt; accepted_is = refl; most = omega arith; moment_is = refl; owed_is = refl; refused_is = refl; obeys = tt })

-- whatever is still to be heard
pub keeps_by : (spent : Bool) (old new : Table) (before after : Option Calls) → ((owed : Option Heard) → Rests owed old before → Rests owed new after) → Keeps spent old before → Keeps spent new after
keeps_by false old new before after step keeps = step None keeps
keeps_by true old new before after step keeps = (keeps.0, step keeps.0 keeps.1)

-- once memory ran out while something was heard, something may be left
pub keeps_loose : (table : Table) (told : Option Calls) → Rests None table told → Keeps true table told
keeps_loose table told rests = (None, rests)

-- a slot was flushed
pub keeps_flushed : (spent : Bool) (old new : Table) (before after : Option Calls) (slot : ℕ) (endpoint : Endpoint) → endpoint_at old.endpoints slot ≡ Some endpoint
    → ((owed : Option Heard) (f b : List Endpoint) (l : Endpoint) → IsAt old.endpoints slot f l b → StandsFor (putting l.slot) owed (f ++ l ∷ b) old.accepted old.moment before → Rests owed new after)
    → Keeps spent old before → Keeps spent new after
keeps_flushed spent old new before after slot endpoint at flushes keeps =
    keeps_by spent old new before after
    (λ owed rests. let h = here owed old slot endpoint before rests at in
    flushes owed h.front h.back endpoint h.is_at (may_put_to owed h.front h.back endpoint old.accepted old.moment before h.stands))
    keeps

-- what is kept, whatever is still to be heard
kept_so : (spent : Bool) (table : Table) (told : Option Calls) → Keeps spent table told → Loose table told
kept_so false table told keeps = (None, keeps)
kept_so true table told keeps = keeps

-- what the flush of a slot did, by the slot
pub flushed_so : (outcome : Flushed) (spent : Bool) (table : Table) (slot : ℕ) (endpoint : Endpoint) (before after : Option Calls) → endpoint_at table.endpoints slot ≡ Some endpoint → Keeps spent table before
    → ((f b : List Endpoint) (l : Endpoint) → IsAt table.endpoints slot f l b → FlushedSo outcome l.slot l.queue before after) → FlushedSo outcome slot (queue_of slot table.endpoints) before after
flushed_so outcome spent table slot endpoint before after at keeps flushes =
    let loose = kept_so spent table before keeps in
    let h = here loose.0 table slot endpoint before loose.1 at in
    let P : ℕ → Type 0 = λ s. FlushedSo outcome s endpoint.queue before after in
    let Q : List ℕ → Type 0 = λ queue. FlushedSo outcome slot queue before after in
    let R : Option Endpoint → Type 0 = λ o. endpoint.queue ≡ queue_in o in
    subst Q (subst R (sym at) refl) (subst P h.is_at.slot_is (flushes h.front h.back endpoint h.is_at))

-- a step was noted, or memory ran out and nothing was
pub keeps_noted : {T E : Type 0} (r : Result T E) (spent : Bool) (table : Table) (step : Step) (before after : Option Calls) → IsNote step → OnOk r (Tells (calls.Noted step) before after)
    → OnErr r (after ≡ before) → Keeps spent table before → Keeps spent table after
keeps_noted (Ok value) spent table step before after is tells same keeps =
    keeps_by spent table table before after (λ owed rests. record { endpoints = rests.endpoints; held = rests.held; stands = notes_so table.accepted table.moment before after owed rests.endpoints step is tells rests.stands }) keeps
keeps_noted (Err error) spent table step before after is tells same keeps =
    let P : Option Calls → Type 0 = λ told. Keeps spent table told in subst P (sym same) keeps

-- the calls have not changed
pub keeps_same : (spent : Bool) (table : Table) (before after : Option Calls) → after ≡ before → Keeps spent table before → Keeps spent table after
keeps_same spent table before after same keeps = let P : Option Calls → Type 0 = λ told. Keeps spent table told in subst P (sym same) keeps

-- how often it was asked
pub asked_none : (asks : Option ℕ) → AsksMore 0 asks asks
asked_none None = refl
asked_none (Some count) = inl (ap (λ (n : ℕ). Some n) (let e : count ≡ count + 0 = omega arith in e))

pub asked_more : (n m : ℕ) (old mid new : Option ℕ) → AsksMore n old mid → AsksMore m mid new → AsksMore (n + m) old new
asked_more n m None mid new a b = let P : Option ℕ → Type 0 = λ x. AsksMore m x new in let c : new ≡ None = subst P a b in c
asked_more n m (Some old) mid new (inr a) b = let P : Option ℕ → Type 0 = λ x. AsksMore m x new in inr (subst P a b)
asked_more n m (Some old) mid new (inl a) b = let P : Option ℕ → Type 0 = λ x. AsksMore m x new in by (subst P a b)
  where
    by : (new ≡ Some (old + n + m)) ⊎ (new ≡ None) → (new ≡ Some (old + (n + m))) ⊎ (new ≡ None)
    by (inl c) = inl (c ∙ ap (λ (k : ℕ). Some k) (let e : old + n + m ≡ old + (n + m) = omega arith in e))
    by (inr c) = inr c

pub asked_same : (n m : ℕ) (old new : Option ℕ) → n ≡ m → AsksMore n old new → AsksMore m old new
asked_same n m old new same asks = let P : ℕ → Type 0 = λ k. AsksMore k old new in subst P same asks

pub asked_at_most : (n most : ℕ) (old new : Option ℕ) → n ≤ most → AsksMore n old new → AsksAtMost most old new
asked_at_most n most None new below asks = asks
asked_at_most n most (Some old) None below asks = tt
asked_at_most n most (Some old) (Some new) below (inl is) = some_below is
  where
    some_below : Some new ≡ Some (old + n) → new ≤ old + most
    some_below e = let f : new ≡ old + n = cc in omega (arith, below, f)
asked_at_most n most (Some old) (Some new) below (inr is) = let wrong : Some new ≡ None = is in cc

-- so often, and then at most so often
pub asked_then : (n m most : ℕ) (old mid new : Option ℕ) → n + m ≤ most → AsksMore n old mid → AsksAtMost m mid new → AsksAtMost most old new
asked_then n m most None mid new below a b = let P : Option ℕ → Type 0 = λ x. AsksAtMost m x new in let c : new ≡ None = subst P a b in c
asked_then n m most (Some old) mid None below a b = tt
asked_then n m most (Some old) mid (Some new) below (inr a) b = let P : Option ℕ → Type 0 = λ x. AsksAtMost m x (Some new) in let c : Some new ≡ None = subst P a b in cc
asked_then n m most (Some old) mid (Some new) below (inl a) b =
    let P : Option ℕ → Type 0 = λ x. AsksAtMost m x (Some new) in
    let c : new ≤ old + n + m = subst P a b in omega (arith, below, c)

-- what was heard behind steps in which nothing was
pub adds_none : (told : Option (ℕ × Heard)) (old new : Option Trace) → told ≡ None → AddsHeard told old new → new ≡ old
adds_none told old new is adds = let P : Option (ℕ × Heard) → Type 0 = λ t. AddsHeard t old new in subst P is adds

pub adds_behind : (told : Option (ℕ × Heard)) (first old new : Option Trace) → old ≡ first → AddsHeard told old new → AddsHeard told first new
adds_behind told first old new same adds = let P : Option Trace → Type 0 = λ t. AddsHeard told t new in subst P same adds

pub rose_behind : (first old new : ℕ) → first ≤ old → Rose old new → Rose first new
rose_behind first old new below rose = omega (arith, below, rose)
