-- The wire in memory: what a call makes of the calls, the steps and the slots that it keeps.
use Rattle.std.proofs.Common.{cond, nat_lt, ◌&&◌, not, ◌≡◌, ◌∙◌, inl, inr, ℕ, Bool, true, false, refl, ap, sym, subst, List, [], ◌∷◌, ◌++◌, Option, Some, None}
use Rattle.std.specs.Prelude.{Result, Ok, Err, OnOk, OnErr, is_err}
use Rattle.std.proofs.lemmas.List.{append-nil}
use Rattle.std.proofs.lemmas.List.Concat.{flat_map-append}
use Rattle.std.proofs.lemmas.List.Sums.{fold_push}
use Rattle.px_outside.specs.Count.{one_more}
use Rattle.px_wire.specs.declared.call.WireCall.{WireCall}
use Rattle.px_wire.specs.declared.call.WireCall.TheVariants as calls
use Rattle.px_wire.specs.declared.wire.Ready.{Ready}
use Rattle.px_wire.specs.declared.wire.Ready.TheVariants as ready
use Rattle.px_event.specs.Trace.{Trace}
use Rattle.px_wire.specs.declared.wire.Put.{Put}
use Rattle.px_wire.specs.declared.wire.Put.TheVariants as puts
use Rattle.px_wire.specs.declared.wire.Got.{Got}
use Rattle.px_wire.specs.declared.wire.Got.TheVariants as gots
use Rattle.px_wire.specs.Calls.{Calls, Tells, IfTold, GivesFree, slots_after, step_in, put_call, got_call}
use Rattle.px_wire.specs.MemWire.{WireState, SlotsTold, steps_told, calls_told, first_dialled, in_use, may_tell, told_by, script_left, asked_once, keeping, after_told, after_not_ready}

-- the slots in use are those that the calls tell, once a call more was made
pub slots_kept : (call : WireCall) (old now : Option Calls) (slots : List ℕ) → SlotsTold old slots → Tells call old now → SlotsTold now (slots_after slots call)
slots_kept call None now slots told tells = rw tells tt
slots_kept call (Some list) now slots told (inl is) = rw (is, told) (sym (fold_push slots_after [] list call))
slots_kept call (Some list) now slots told (inr is) = rw is tt

-- the steps after a call that was handed none
pub steps_kept : {E : Type 0} (r : Result (Unit {0}) E) (later : Option Trace) (call : WireCall) (old now : Calls)
    → is_err r ≡ false → OnOk r (now ≡ old ++ call ∷ []) → step_in call ≡ [] → steps_told later now ≡ steps_told later old
steps_kept (Ok _) None call old now fine is none = rw (is, flat_map-append step_in old (call ∷ []), none, append-nil) refl
steps_kept (Ok _) (Some later) call old now fine is none = rw (is, flat_map-append step_in old (call ∷ []), none, append-nil) refl
steps_kept (Err _) later call old now fine is none = cc

-- a `put` and a `get` hand no step, and change no slot
pub put_step : (slot : ℕ) (bytes : List ℕ) (answer : Put) → step_in (put_call slot bytes answer) ≡ []
put_step slot bytes (puts.Took count) = refl
put_step slot bytes puts.Blocked = refl
put_step slot bytes puts.Broken = refl

pub put_slots : (slots : List ℕ) (slot : ℕ) (bytes : List ℕ) (answer : Put) → slots_after slots (put_call slot bytes answer) ≡ slots
put_slots slots slot bytes (puts.Took count) = refl
put_slots slots slot bytes puts.Blocked = refl
put_slots slots slot bytes puts.Broken = refl

pub got_step : (slot : ℕ) (room : List ℕ) (answer : Got) → step_in (got_call slot room answer) ≡ []
got_step slot room (gots.Gave count) = refl
got_step slot room gots.Ended = refl
got_step slot room gots.Blocked = refl
got_step slot room gots.Broken = refl

pub got_slots : (slots : List ℕ) (slot : ℕ) (room : List ℕ) (answer : Got) → slots_after slots (got_call slot room answer) ≡ slots
got_slots slots slot room (gots.Gave count) = refl
got_slots slots slot room gots.Ended = refl
got_slots slots slot room gots.Blocked = refl
got_slots slots slot room gots.Broken = refl

-- the same over what code knows of the slots
pub slots_so : (call : WireCall) (old now : Option Calls) (slots used after : List ℕ) → used ≡ slots → after ≡ slots_after used call
    → SlotsTold old slots → Tells call old now → SlotsTold now after
slots_so call old now slots used after same is told tells =
    subst (SlotsTold now) (sym (is ∙ ap (λ (l : List ℕ). slots_after l call) same)) (slots_kept call old now slots told tells)

-- and the slots, where a call that changes none was made
pub slots_same : (call : WireCall) (old now : Option Calls) (slots : List ℕ) → slots_after slots call ≡ slots
    → SlotsTold old slots → Tells call old now → SlotsTold now slots
slots_same call old now slots same told tells = subst (SlotsTold now) same (slots_kept call old now slots told tells)

-- or was not, when out of memory
pub slots_noted : {E : Type 0} (r : Result (Unit {0}) E) (call : WireCall) (later later' : Option Trace) (list list' : Calls) (slots : List ℕ)
    → slots_after slots call ≡ slots → SlotsTold (calls_told later list) slots
    → OnOk r (Tells call (calls_told later list) (calls_told later' list')) → OnErr r (list' ≡ list) → OnErr r (later' ≡ later)
    → SlotsTold (calls_told later' list') slots
slots_noted (Ok _) call later later' list list' slots same told tells a b = slots_same call _ _ slots same told tells
slots_noted (Err _) call later later' list list' slots same told tells a b = rw (a, b) told

-- what is told next may be told
pub may_told : (slots : List ℕ) (script : List (ℕ × Ready)) (next : ℕ × Ready) → told_by slots script ≡ Some next → may_tell slots next.1 ≡ true
may_told slots [] next is = cc
may_told slots (first ∷ script) next is = by_first (may_tell slots first.1) refl is (may_told slots script next)
  where
    by_first : (b : Bool) → may_tell slots first.1 ≡ b → cond b (Some first) (told_by slots script) ≡ Some next
        → (told_by slots script ≡ Some next → may_tell slots next.1 ≡ true) → may_tell slots next.1 ≡ true
    by_first true passes same later = let e : first ≡ next = cc in subst (λ (r : ℕ × Ready). may_tell slots r.1 ≡ true) e passes
    by_first false passes same later = later same

-- where nothing is told, nothing is left
pub none_left : (slots : List ℕ) (script : List (ℕ × Ready)) → told_by slots script ≡ None → script_left slots script ≡ []
none_left slots [] is = refl
none_left slots (first ∷ script) is = by_first (may_tell slots first.1) is (none_left slots script)
  where
    by_first : (b : Bool) → cond b (Some first) (told_by slots script) ≡ None
        → (told_by slots script ≡ None → script_left slots script ≡ []) → cond b script (script_left slots script) ≡ []
    by_first true none later = cc
    by_first false none later = later none

not_second : (a b : Bool) → (a && not b) ≡ true → b ≡ false
not_second true true is = cc
not_second false true is = cc
not_second a false is = refl

-- a connection that may be told has a free slot
pub may_free : (slots : List ℕ) (what : Ready) (told : Option Calls) → may_tell slots what ≡ true → SlotsTold told slots → IfTold (GivesFree what) told
may_free slots what None may same = tt
may_free slots (ready.Accepted slot door peer) (Some list) may same =
    let free : in_use slots slot ≡ false = not_second (nat_lt slot first_dialled) (in_use slots slot) may in
    rw same at free
may_free slots (ready.Readable slot) (Some list) may same = tt
may_free slots (ready.Writable slot) (Some list) may same = tt
may_free slots (ready.Dialled slot ok) (Some list) may same = tt

-- the wire after `ready` told something, and after it failed
told_from : (w : WireState) (script : List (ℕ × Ready)) (slots : List ℕ) (asks : Option ℕ) (list : Calls) (later : Option Trace) (moment : ℕ) (what : Ready)
    → script ≡ script_left w.slots w.script → slots ≡ slots_after w.slots (calls.Told moment what) → asks ≡ asked_once w.asks
    → record w { script = script; slots = slots; asks = asks; list = list; later = later }
    ≡ keeping (record w { script = script; slots = slots; asks = asks; list = list; later = later }) (after_told w moment what)
told_from w script slots asks list later moment what a b c = cc

pub told_so : (w old : WireState) (script : List (ℕ × Ready)) (slots used lent : List ℕ) (asks : Option ℕ) (list : Calls) (later : Option Trace) (moment : ℕ) (what : Ready)
    → w ≡ old → used ≡ w.slots → lent ≡ used → script ≡ script_left lent w.script → slots ≡ slots_after used (calls.Told moment what) → asks ≡ asked_once w.asks
    → record w { script = script; slots = slots; asks = asks; list = list; later = later }
    ≡ keeping (record w { script = script; slots = slots; asks = asks; list = list; later = later }) (after_told old moment what)
told_so w old script slots used lent asks list later moment what same in_slots in_use a b c =
    let R : WireState = record w { script = script; slots = slots; asks = asks; list = list; later = later } in
    subst (λ (o : WireState). R ≡ keeping R (after_told o moment what)) same
    (told_from w script slots asks list later moment what
    (subst (λ (l : List ℕ). script ≡ script_left l w.script) (in_use ∙ in_slots) a)
    (subst (λ (l : List ℕ). slots ≡ slots_after l (calls.Told moment what)) in_slots b) c)

failed_from : (w : WireState) (script : List (ℕ × Ready)) (slots : List ℕ) (faults : ℕ) (asks : Option ℕ) (list : Calls) (later : Option Trace)
    → script ≡ [] → slots ≡ w.slots → faults ≡ one_more w.faults → asks ≡ asked_once w.asks
    → record w { script = script; slots = slots; faults = faults; asks = asks; list = list; later = later }
    ≡ keeping (record w { script = script; slots = slots; faults = faults; asks = asks; list = list; later = later }) (after_not_ready w)
failed_from w script slots faults asks list later a b c d = cc

pub failed_so : (w old : WireState) (script : List (ℕ × Ready)) (slots lent : List ℕ) (faults : ℕ) (asks : Option ℕ) (list : Calls) (later : Option Trace)
    → w ≡ old → slots ≡ w.slots → told_by lent w.script ≡ None → script ≡ script_left lent w.script → faults ≡ one_more w.faults → asks ≡ asked_once w.asks
    → record w { script = script; slots = slots; faults = faults; asks = asks; list = list; later = later }
    ≡ keeping (record w { script = script; slots = slots; faults = faults; asks = asks; list = list; later = later }) (after_not_ready old)
failed_so w old script slots lent faults asks list later same in_slots none a b c =
    let R : WireState = record w { script = script; slots = slots; faults = faults; asks = asks; list = list; later = later } in
    subst (λ (o : WireState). R ≡ keeping R (after_not_ready o)) same
    (failed_from w script slots faults asks list later (a ∙ none_left lent w.script none) in_slots b c)
