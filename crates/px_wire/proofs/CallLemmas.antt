-- What a call of the wire, with its answer, makes of what stands.
use Rattle.std.proofs.Common.{◌≡◌, inl, inr, ℕ, ◌<◌, ◌≤◌, true, false, refl, ap, sym, arith, subst, List, [], ◌∷◌, ◌++◌, take, drop, length, Option, Some, None}
use Rattle.px_event.specs.declared.heard.Heard.{Heard}
use Rattle.px_event.specs.declared.heard.Heard.TheVariants as heard
use Rattle.px_wire.specs.declared.endpoint.Endpoint.{Endpoint}
use Rattle.px_wire.specs.declared.wire.Put.{Put}
use Rattle.px_wire.specs.declared.wire.Put.TheVariants as puts
use Rattle.px_wire.specs.declared.wire.Got.{Got}
use Rattle.px_wire.specs.declared.wire.Got.TheVariants as gots
use Rattle.px_wire.specs.declared.call.WireCall.{WireCall}
use Rattle.px_wire.specs.declared.call.WireCall.TheVariants as calls
use Rattle.px_wire.specs.Calls.{Calls, Tells, put_call, got_call}
use Rattle.px_wire.specs.Found.{HasTurn}
use Rattle.px_wire.specs.Endpoints.{is_done, after_put, after_get}
use Rattle.px_wire.specs.Ledger.{ledger}
use Rattle.px_wire.specs.Rules.{MayShut}
use Rattle.px_wire.specs.Stands.{idle, putting, flushed, ending, Stands, StandsFor, EndsFor, owed_by, name_of, Name}
use Rattle.px_wire.proofs.LedgerLemmas.{told_more, told_so}
use Rattle.px_wire.proofs.PutLemmas.{took, blocked, broke, emptied, still, done, shut, no_items}
use Rattle.px_wire.proofs.GetLemmas.{gave, get_blocked, get_over}

pub same_slot : (a b : Endpoint) → name_of a ≡ name_of b → a.slot ≡ b.slot
same_slot a b same = ap (λ (n : Name). n.slot) same

module _ (owed : Option Heard) (front back : List Endpoint) (endpoint new : Endpoint) (accepted moment slot : ℕ) where
  pub put_took : (count : ℕ) (put : Put) (old now : Option Calls) → put ≡ puts.Took count → 0 < length endpoint.queue → endpoint.slot ≡ slot → new ≡ after_put endpoint put
      → Tells (put_call endpoint.slot endpoint.queue put) old now → StandsFor (putting slot) owed (front ++ endpoint ∷ back) accepted moment old
      → StandsFor (putting slot) owed (front ++ new ∷ back) accepted moment now
  put_took count put old now is some at made tells stands =
      let changed : Endpoint = record endpoint { queue = drop count endpoint.queue } in
      let call : WireCall = calls.Took endpoint.slot (take count endpoint.queue) in
      let P : ℕ → Type 0 = λ s. StandsFor (putting s) owed (front ++ endpoint ∷ back) accepted moment old in
      let T : Put → Type 0 = λ p. Tells (put_call endpoint.slot endpoint.queue p) old now in
      let N : Put → Type 0 = λ p. new ≡ after_put endpoint p in
      let made_so : new ≡ changed = subst N is made in
      let Q : Endpoint → Type 0 = λ l. StandsFor (putting endpoint.slot) owed (front ++ l ∷ back) accepted moment now in
      let R : ℕ → Type 0 = λ s. StandsFor (putting s) owed (front ++ new ∷ back) accepted moment now in
      subst R at (subst Q (sym made_so)
      (told_more (Stands (putting endpoint.slot) owed (front ++ endpoint ∷ back) accepted moment) (Stands (putting endpoint.slot) owed (front ++ changed ∷ back) accepted moment) call old now
      (subst T is tells) (subst P (sym at) stands) (λ list s. took owed front back endpoint accepted moment list count some s)))

  pub put_blocked : (put : Put) (old now : Option Calls) → put ≡ puts.Blocked → 0 < length endpoint.queue → endpoint.slot ≡ slot → new ≡ after_put endpoint put
      → Tells (put_call endpoint.slot endpoint.queue put) old now → StandsFor (putting slot) owed (front ++ endpoint ∷ back) accepted moment old
      → StandsFor (flushed slot) owed (front ++ new ∷ back) accepted moment now
  put_blocked put old now is some at made tells stands =
      let call : WireCall = calls.PutBlocked endpoint.slot in
      let P : ℕ → Type 0 = λ s. StandsFor (putting s) owed (front ++ endpoint ∷ back) accepted moment old in
      let T : Put → Type 0 = λ p. Tells (put_call endpoint.slot endpoint.queue p) old now in
      let N : Put → Type 0 = λ p. new ≡ after_put endpoint p in
      let made_so : new ≡ endpoint = subst N is made in
      let Q : Endpoint → Type 0 = λ l. StandsFor (flushed endpoint.slot) owed (front ++ l ∷ back) accepted moment now in
      let R : ℕ → Type 0 = λ s. StandsFor (flushed s) owed (front ++ new ∷ back) accepted moment now in
      subst R at (subst Q (sym made_so)
      (told_more (Stands (putting endpoint.slot) owed (front ++ endpoint ∷ back) accepted moment) (Stands (flushed endpoint.slot) owed (front ++ endpoint ∷ back) accepted moment) call old now
      (subst T is tells) (subst P (sym at) stands) (λ list s. blocked owed front back endpoint accepted moment list some s)))

  pub put_broke : (put : Put) (old now : Option Calls) → put ≡ puts.Broken → 0 < length endpoint.queue → endpoint.slot ≡ slot → new ≡ after_put endpoint put
      → Tells (put_call endpoint.slot endpoint.queue put) old now → StandsFor (putting slot) owed (front ++ endpoint ∷ back) accepted moment old
      → StandsFor (flushed slot) owed (front ++ new ∷ back) accepted moment now
  put_broke put old now is some at made tells stands =
      let changed : Endpoint = record endpoint { queue = []; is_over = true } in
      let call : WireCall = calls.PutBroke endpoint.slot in
      let P : ℕ → Type 0 = λ s. StandsFor (putting s) owed (front ++ endpoint ∷ back) accepted moment old in
      let T : Put → Type 0 = λ p. Tells (put_call endpoint.slot endpoint.queue p) old now in
      let N : Put → Type 0 = λ p. new ≡ after_put endpoint p in
      let made_so : new ≡ changed = subst N is made in
      let Q : Endpoint → Type 0 = λ l. StandsFor (flushed endpoint.slot) owed (front ++ l ∷ back) accepted moment now in
      let R : ℕ → Type 0 = λ s. StandsFor (flushed s) owed (front ++ new ∷ back) accepted moment now in
      subst R at (subst Q (sym made_so)
      (told_more (Stands (putting endpoint.slot) owed (front ++ endpoint ∷ back) accepted moment) (Stands (flushed endpoint.slot) owed (front ++ changed ∷ back) accepted moment) call old now
      (subst T is tells) (subst P (sym at) stands) (λ list s. broke owed front back endpoint accepted moment list some s)))

pub put_all : (owed : Option Heard) (front back : List Endpoint) (endpoint : Endpoint) (accepted moment slot : ℕ) (told : Option Calls) → length endpoint.queue ≤ 0 → endpoint.slot ≡ slot
    → StandsFor (putting slot) owed (front ++ endpoint ∷ back) accepted moment told → StandsFor (flushed slot) owed (front ++ endpoint ∷ back) accepted moment told
put_all owed front back endpoint accepted moment slot told none at stands =
    let P : ℕ → Type 0 = λ s. StandsFor (putting s) owed (front ++ endpoint ∷ back) accepted moment told in
    let R : ℕ → Type 0 = λ s. StandsFor (flushed s) owed (front ++ endpoint ∷ back) accepted moment told in
    subst R at (told_so (Stands (putting endpoint.slot) owed (front ++ endpoint ∷ back) accepted moment) (Stands (flushed endpoint.slot) owed (front ++ endpoint ∷ back) accepted moment) told (subst P (sym at) stands)
    (λ list s. emptied owed front back endpoint accepted moment list (no_items endpoint.queue (omega arith)) s))

-- a slot is done with, or goes on
pub ends : (owed : Option Heard) (front back : List Endpoint) (endpoint : Endpoint) (accepted moment slot : ℕ) (told : Option Calls) → is_done endpoint ≡ true → endpoint.slot ≡ slot
    → StandsFor (flushed slot) owed (front ++ endpoint ∷ back) accepted moment told → EndsFor endpoint.slot owed (front ++ endpoint ∷ back) accepted moment told
ends owed front back endpoint accepted moment slot told is at stands =
    let P : ℕ → Type 0 = λ s. StandsFor (flushed s) owed (front ++ endpoint ∷ back) accepted moment told in
    told_so (Stands (flushed endpoint.slot) owed (front ++ endpoint ∷ back) accepted moment)
    (λ list. Stands (ending endpoint.slot) owed (front ++ endpoint ∷ back) accepted moment list × MayShut (ledger list) endpoint.slot) told (subst P (sym at) stands)
    (λ list s. done owed front back endpoint accepted moment list is s)

pub goes_on : (owed : Option Heard) (front back : List Endpoint) (endpoint : Endpoint) (accepted moment slot : ℕ) (told : Option Calls) → is_done endpoint ≡ false → endpoint.slot ≡ slot
    → StandsFor (flushed slot) owed (front ++ endpoint ∷ back) accepted moment told → StandsFor idle owed (front ++ endpoint ∷ back) accepted moment told
goes_on owed front back endpoint accepted moment slot told is at stands =
    let P : ℕ → Type 0 = λ s. StandsFor (flushed s) owed (front ++ endpoint ∷ back) accepted moment told in
    told_so (Stands (flushed endpoint.slot) owed (front ++ endpoint ∷ back) accepted moment) (Stands idle owed (front ++ endpoint ∷ back) accepted moment) told (subst P (sym at) stands)
    (λ list s. still owed front back endpoint accepted moment list is s)

pub shut_one : (owed : Option Heard) (front back : List Endpoint) (endpoint : Endpoint) (accepted moment : ℕ) (old now : Option Calls) → Tells (calls.Shut endpoint.slot) old now
    → EndsFor endpoint.slot owed (front ++ endpoint ∷ back) accepted moment old → StandsFor idle owed (front ++ back) accepted moment now
shut_one owed front back endpoint accepted moment old now tells ends =
    told_more (λ list. Stands (ending endpoint.slot) owed (front ++ endpoint ∷ back) accepted moment list × MayShut (ledger list) endpoint.slot) (Stands idle owed (front ++ back) accepted moment) (calls.Shut endpoint.slot) old now
    tells ends (λ list s. shut owed front back endpoint accepted moment list s.0 s.1)

-- the slots once one of them was read: one that gave bytes goes behind all others
abbrev pub read_endpoints : List Endpoint → Endpoint → List Endpoint → Got → List Endpoint
read_endpoints front new back (gots.Gave count) = (front ++ back) ++ new ∷ []
read_endpoints front new back _ = front ++ new ∷ back

module _ (front back : List Endpoint) (endpoint new : Endpoint) (accepted moment : ℕ) (room : List ℕ) (old now : Option Calls) (turn : HasTurn front endpoint back)
    (stands : StandsFor idle None (front ++ endpoint ∷ back) accepted moment old) where
  -- a slot was read
  pub read_one : (got : Got) → new ≡ after_get endpoint got → Tells (got_call endpoint.slot room got) old now
      → StandsFor idle (owed_by endpoint.conv endpoint.side room got) (read_endpoints front new back got) accepted moment now
  read_one (gots.Gave count) made tells =
      let Q : Endpoint → Type 0 = λ l. StandsFor idle (Some (heard.Piece endpoint.conv endpoint.side (take count room))) ((front ++ back) ++ l ∷ []) accepted moment now in
      subst Q (sym made) (told_more (Stands idle None (front ++ endpoint ∷ back) accepted moment) (Stands idle (Some (heard.Piece endpoint.conv endpoint.side (take count room))) ((front ++ back) ++ endpoint ∷ []) accepted moment)
      (calls.Gave endpoint.slot (take count room)) old now tells stands (λ list s. gave front back endpoint accepted moment list turn s (take count room)))
  read_one gots.Blocked made tells =
      let Q : Endpoint → Type 0 = λ l. StandsFor idle None (front ++ l ∷ back) accepted moment now in
      subst Q (sym made) (told_more (Stands idle None (front ++ endpoint ∷ back) accepted moment) (Stands idle None (front ++ record endpoint { is_readable = false } ∷ back) accepted moment)
      (calls.GetBlocked endpoint.slot) old now tells stands (λ list s. get_blocked front back endpoint accepted moment list turn s))
  read_one gots.Ended made tells =
      let Q : Endpoint → Type 0 = λ l. StandsFor idle None (front ++ l ∷ back) accepted moment now in
      subst Q (sym made) (told_more (Stands idle None (front ++ endpoint ∷ back) accepted moment) (Stands idle None (front ++ record endpoint { queue = []; is_over = true } ∷ back) accepted moment)
      (calls.GetEnded endpoint.slot) old now tells stands (λ list s. get_over front back endpoint accepted moment list turn s (calls.GetEnded endpoint.slot) (inl refl)))
  read_one gots.Broken made tells =
      let Q : Endpoint → Type 0 = λ l. StandsFor idle None (front ++ l ∷ back) accepted moment now in
      subst Q (sym made) (told_more (Stands idle None (front ++ endpoint ∷ back) accepted moment) (Stands idle None (front ++ record endpoint { queue = []; is_over = true } ∷ back) accepted moment)
      (calls.GetBroke endpoint.slot) old now tells stands (λ list s. get_over front back endpoint accepted moment list turn s (calls.GetBroke endpoint.slot) (inr refl)))
