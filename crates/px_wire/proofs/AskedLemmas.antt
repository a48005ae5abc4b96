-- How often `ready` was answered, over a call.
use Rattle.std.proofs.Common.{◌≡◌, ◌∙◌, Bool, true, false, ℕ, ◌+◌, ◌≤◌, refl, ap, sym, arith, subst, [], ◌∷◌, ◌++◌, Option, Some, None, append_assoc, append-nil}
use Rattle.std.proofs.lemmas.List.{append_cancel_left}
use Rattle.std.proofs.lemmas.Grind.{flat_map-append}
use Rattle.std.specs.Prelude.{Result, Ok, Err, OnOk, OnErr}
use Rattle.px_event.specs.Trace.{Trace}
use Rattle.px_outside.specs.declared.net.NetError.{NetError}
use Rattle.px_outside.specs.declared.net.NetError.TheVariants as net
use Rattle.px_wire.specs.declared.call.WireCall.{WireCall}
use Rattle.px_wire.specs.declared.call.WireCall.TheVariants as calls
use Rattle.px_wire.specs.declared.table.Table.{Table}
use Rattle.px_wire.specs.declared.wire.Ready.{Ready}
use Rattle.px_wire.specs.Asked.{answers_in, answer_count, AnsweredBehind, AnsweredSince, AskedInVain, most_asks, FailedSo}
use Rattle.px_wire.specs.Calls.{Calls, Tells, IfTold, Agrees, step_in, steps_of}
use Rattle.px_wire.specs.Ledger.{ledger}
use Rattle.px_wire.specs.Lines.{Keeps}
use Rattle.px_wire.specs.Rules.{MayAsk}
use Rattle.px_wire.specs.Stands.{Rests, IsCalm}
use Rattle.px_wire.proofs.LedgerLemmas.{told_more}
use Rattle.px_wire.proofs.ReadyLemmas.{may_ask}

pub count_joined : (a b : Calls) → answer_count (a ++ b) ≡ answer_count a + answer_count b
count_joined [] b = omega arith
count_joined (call ∷ a) b = let e = count_joined a b in omega (arith, e)

-- one call more
more_behind : (call : WireCall) (past list : Calls) (times : ℕ) → AnsweredBehind past times list → AnsweredBehind past (times + answers_in call) (list ++ call ∷ [])
more_behind call past list times a = record {
  more = a.more ++ call ∷ [];
  grown = ap (λ (l : Calls). l ++ call ∷ []) a.grown ∙ append_assoc past a.more (call ∷ []);
  answered = (let e = count_joined a.more (call ∷ []) in let f = a.answered in omega (arith, e, f));
}

fewer_behind : (past list : Calls) (times fewer : ℕ) → fewer ≤ times → AnsweredBehind past times list → AnsweredBehind past fewer list
fewer_behind past list times fewer below a = record { more = a.more; grown = a.grown; answered = (let f = a.answered in omega (arith, f, below)) }

pub told_kept : (call : WireCall) (old new : Option Calls) → Tells call old new → (past : Calls) (times : ℕ) → AnsweredSince past times old → AnsweredSince past times new
told_kept call old new tells past times since =
    told_more (AnsweredBehind past times) (AnsweredBehind past times) call old new tells since
    (λ list a. fewer_behind past (list ++ call ∷ []) (times + answers_in call) times (omega arith) (more_behind call past list times a))

pub told_answered : (moment : ℕ) (what : Ready) (old new : Option Calls) → Tells (calls.Told moment what) old new → (past : Calls) (times : ℕ) → AnsweredSince past times old → AnsweredSince past (times + 1) new
told_answered moment what old new tells past times since =
    told_more (AnsweredBehind past times) (AnsweredBehind past (times + 1)) (calls.Told moment what) old new tells since
    (λ list a. more_behind (calls.Told moment what) past list times a)

-- the calls have not changed
pub same_kept : (old new : Option Calls) → new ≡ old → (past : Calls) (times : ℕ) → AnsweredSince past times old → AnsweredSince past times new
same_kept old new same past times since = let P : Option Calls → Type 0 = AnsweredSince past times in subst P (sym same) since

pub times_same : (past : Calls) (n m : ℕ) (told : Option Calls) → n ≡ m → AnsweredSince past n told → AnsweredSince past m told
times_same past n m told same since = let P : ℕ → Type 0 = λ k. AnsweredSince past k told in subst P same since

-- one call was told, or none was made
pub call_kept : {T E : Type 0} (r : Result T E) (call : WireCall) (old new : Option Calls) → OnOk r (Tells call old new) → OnErr r (new ≡ old)
    → (past : Calls) (times : ℕ) → AnsweredSince past times old → AnsweredSince past times new
call_kept (Ok value) call old new tells same past times since = told_kept call old new tells past times since
call_kept (Err error) call old new tells same past times since = same_kept old new same past times since

-- `ready` failed, or ran out of memory
pub failed_kept : {T : Type 0} (r : Result T NetError) (error : NetError) (old new : Option Calls) → r ≡ Err error → (r ≡ Err net.Fault → Tells calls.NotReady old new) → (r ≡ Err net.NoMemory → new ≡ old)
    → (past : Calls) (times : ℕ) → AnsweredSince past times old → AnsweredSince past times new
failed_kept r net.Fault old new is failed unchanged past times since = told_kept calls.NotReady old new (failed is) past times since
failed_kept r net.NoMemory old new is failed unchanged past times since = same_kept old new (unchanged is) past times since

-- calls that are told now were told before
told_before : (times : ℕ) (old : Option Calls) (list : Calls) → ((past : Calls) → AnsweredSince past 0 old → AnsweredBehind past times list) → (first : Calls) × (old ≡ Some first)
told_before times (Some first) list since = (first, refl)
told_before times None list since =
    let a = since (calls.NotReady ∷ []) tt in
    let b = since (calls.Shut 0 ∷ []) tt in
    let e : calls.NotReady ∷ a.more ≡ calls.Shut 0 ∷ b.more = sym a.grown ∙ b.grown in
    absurd (other e)
  where
    other : {xs ys : Calls} → calls.NotReady ∷ xs ≡ calls.Shut 0 ∷ ys → ⊥
    other e = cc

behind_none : (list : Calls) → AnsweredBehind list 0 list
behind_none list = record { more = []; grown = sym (append-nil list); answered = omega arith }

-- What was asked in vain stays so, whatever is called then.
vain_stays : (times : ℕ) (first list : Calls) → AnsweredBehind first 0 list → AskedInVain times first → AskedInVain times list
vain_stays times first list a v = record {
  before = v.before;
  row = v.row;
  behind = v.behind ++ a.more;
  are = a.grown ∙ (ap (λ (l : Calls). l ++ a.more) v.are ∙ (append_assoc v.before (v.row ++ v.behind) a.more ∙ ap (λ (l : Calls). v.before ++ l) (append_assoc v.row v.behind a.more)));
  silent = v.silent;
  answered = v.answered;
  done = v.done;
}

pub failed_kept_so : (faults : ℕ) (old new : Option Calls) → ((past : Calls) (times : ℕ) → AnsweredSince past times old → AnsweredSince past times new) → FailedSo faults old → FailedSo faults new
failed_kept_so faults old None kept so some = tt
failed_kept_so faults old (Some list) kept so some =
    let b = told_before 0 old list (λ past since. kept past 0 since) in
    let P : Option Calls → Type 0 = IfTold (AskedInVain most_asks) in
    let Q : Option Calls → Type 0 = AnsweredSince b.0 0 in
    vain_stays most_asks b.0 list (kept b.0 0 (subst Q (sym b.1) (behind_none b.0))) (subst P b.1 (so some))

pub failed_same : (faults : ℕ) (old new : Option Calls) → new ≡ old → FailedSo faults old → FailedSo faults new
failed_same faults old new same so = let P : Option Calls → Type 0 = FailedSo faults in subst P (sym same) so

pub failed_none : (told : Option Calls) → FailedSo 0 told
failed_none told some = absurd (omega (arith, some))

-- no step was taken in the calls behind
silent_behind : (first more : Calls) → steps_of (first ++ more) ≡ steps_of first → steps_of more ≡ []
silent_behind first more same =
    append_cancel_left (steps_of first) (steps_of more) [] (sym (flat_map-append step_in first more) ∙ (same ∙ sym (append-nil (steps_of first))))

some_same : {A : Type 0} (a b : A) → Some a ≡ Some b → a ≡ b
some_same a b e = cc

steps_same : (first list : Calls) (old new : Option Trace) → Agrees old (Some first) → Agrees new (Some list) → new ≡ old → steps_of list ≡ steps_of first
steps_same first list old new a b same = some_same (steps_of list) (steps_of first) (sym b ∙ (same ∙ a))

-- Lines gave up: they asked so often, nothing was heard, and nothing was left to be.
pub in_vain : (table : Table) (old new : Option Calls) (before now : Option Trace) → Agrees before old → Agrees now new → now ≡ before
    → ((past : Calls) → AnsweredSince past 0 old → AnsweredSince past most_asks new) → Rests None table new → IsCalm table.endpoints → IfTold (AskedInVain most_asks) new
in_vain table old None before now a b same since rests calm = tt
in_vain table old (Some list) before now a b same since rests calm =
    let f = told_before most_asks old list since in
    let Q : Option Calls → Type 0 = AnsweredSince f.0 0 in
    let R : Option Calls → Type 0 = Agrees before in
    let s : AnsweredBehind f.0 most_asks list = since f.0 (subst Q (sym f.1) (behind_none f.0)) in
    let P : Calls → Type 0 = λ l. MayAsk (ledger l) in
    let S : Calls → Type 0 = λ l. steps_of l ≡ steps_of f.0 in
    record {
      before = f.0;
      row = s.more;
      behind = [];
      are = s.grown ∙ ap (λ (l : Calls). f.0 ++ l) (sym (append-nil s.more));
      silent = silent_behind f.0 s.more (subst S s.grown (steps_same f.0 list before now (subst R f.1 a) b same));
      answered = s.answered;
      done = subst P s.grown (may_ask rests.endpoints table.accepted table.moment list rests.stands (calm rests.endpoints rests.held));
    }

-- what lines keep while memory has not run out
pub rests_unspent : (spent : Bool) (table : Table) (told : Option Calls) → spent ≡ false → Keeps spent table told → Rests None table told
rests_unspent false table told is keeps = keeps
rests_unspent true table told is keeps = let e : true ≡ false = is in cc

-- something was said, or memory ran out
pub said_rests : {T E : Type 0} (spent : Bool) (r : Result T E) (table next : Table) (old new : Option Calls) → spent ≡ false
    → (Rests None table old → OnOk r (Rests None next new)) → (Rests None table old → OnErr r (Rests None next new)) → Keeps spent table old → Keeps spent next new
said_rests false (Ok value) table next old new is ok err keeps = ok keeps
said_rests false (Err error) table next old new is ok err keeps = err keeps
said_rests true r table next old new is ok err keeps = let e : true ≡ false = is in cc
