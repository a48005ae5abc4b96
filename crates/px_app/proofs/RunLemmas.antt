-- How a run ends, by its status.
use Rattle.std.proofs.Common.{◌≡◌, ◌≢◌, ◌⊎◌, inl, inr, ℕ, ◌<◌, ◌≤◌, Bool, true, false, List, [], Option, Some, Result, Ok, Err, IfErr, refl, sym, ap, ◌∙◌, subst, arith}
use Rattle.std.specs.Result.{IsErrAnd}
use Rattle.px_message.specs.declared.address.Address.{Address}
use Rattle.px_message.proofs.AddressLemmas.{address_eq}
use Rattle.px_event.specs.Trace.{BeforeEachHeard, Trace}
use Rattle.px_outside.specs.declared.net.NetError.{NetError}
use Rattle.px_outside.specs.declared.net.NetError.TheVariants as net
use Rattle.std.proofs.lemmas.List.{append-nil}
use Rattle.px_core.specs.Answered.{Answers, IsAnswered, LeavesFiles, Pending, RestsBy}
use Rattle.px_core.specs.Answers.{Answering, AnswererState, Failing, FilesMeaning, after_answers, by_none}
use Rattle.px_core.specs.Course.{Change, Course, Operated}
use Rattle.px_core.specs.Due.{Due, IsServed, IsAllTold}
use Rattle.px_core.proofs.AnsweredLemmas.{whole_front}
use Rattle.px_core.proofs.ResultLemmas.{same_some}
use Rattle.px_exchange.specs.declared.mode.Mode.{Mode}
use Rattle.px_exchange.specs.declared.mode.Mode.TheVariants as modes
use Rattle.px_options.specs.Mode.{regular, reverse, socks, upstream}
use Rattle.px_options.specs.Values.{Place}
use Rattle.px_options.specs.View.{mode_view, place}
use Rattle.px_app.specs.Over.{Reaches, course_from}
use Rattle.px_app.specs.Run.{BreaksOff, IsEnd, IsRun, Told}
use Rattle.px_app.specs.Saved.{SavesTo}
use Rattle.px_words.specs.Appends.{Append}
use Rattle.px_app.specs.Statuses.{status_of, heard_count}
use Rattle.px_app.specs.Worked.{Worked, all_worked}
use Rattle.px_app.specs.declared.printing.Printing.{Printing}
use Rattle.px_app.specs.declared.status.Status.{Status}
use Rattle.px_app.specs.declared.status.Status.TheVariants.{Ended, NetFault, BudgetSpent, NoMemory}
use Rattle.px_app.proofs.RestLemmas.{part_of}

not_both : (b : Bool) → b ≡ true → b ≡ false → ⊥
not_both true is other = absurd (cc)
not_both false is other = absurd (cc)

-- the files are what the answerer, which came over the whole trace, left
pub leaves_all : {S : Type 0} (answers : Answering S) (fails : Failing S) (due : Due) (course : Course S) (now : AnswererState S) (pending : Pending) (files : FilesMeaning) (trace : Trace) →
    Answers answers due course trace now pending → files ≡ now.files → (W : Type 0) → LeavesFiles answers fails due course W files trace
leaves_all answers fails due course now pending files trace answered same W = record {
  prefix = trace;
  rest = [];
  split = sym (append-nil trace);
  made = course;
  front_of = whole_front course;
  last = now;
  pending = pending;
  answered = answered;
  after = after_answers now (by_none now) same;
  whole = λ _. (refl, same, refl);
}

-- and where that is not said, they are so for whatever is not so
pub leaves_part : {S : Type 0} (answers : Answering S) (fails : Failing S) (due : Due) (course : Course S) (files : FilesMeaning) (trace : Trace) (W V : Type 0) →
    LeavesFiles answers fails due course W files trace → (V → W) → LeavesFiles answers fails due course V files trace
leaves_part answers fails due course files trace W V leaves weaker = record {
  prefix = leaves.prefix;
  rest = leaves.rest;
  split = leaves.split;
  made = leaves.made;
  front_of = leaves.front_of;
  last = leaves.last;
  pending = leaves.pending;
  answered = leaves.answered;
  after = leaves.after;
  whole = λ v. leaves.whole (weaker v);
}

module _ {S : Type 0} (answers : Answering S) (drops : List ℕ → S → S → Type 0) (names : S → List (List ℕ)) (fails : Failing S) (due : Due) (first : AnswererState S) (to : Option SavesTo) (budget : ℕ)
    (printing : Printing) (files : FilesMeaning) (start now : Option (List ℕ)) (told : Trace) where
  -- out of memory, at any moment
  pub memory_run : heard_count told ≤ budget → BreaksOff answers drops names fails due first to files start now told → IsRun answers drops names fails due first to budget NoMemory printing files start now told
  memory_run within broken = record {
    trace = broken.trace;
    changes = broken.changes;
    operations = broken.operations;
    over = false;
    made = broken.made;
    worked = broken.worked;
    worked_whole = λ other. absurd (other refl);
    served = broken.served;
    follows = broken.follows;
    leaves = leaves_part answers fails due (course_from first broken.changes broken.operations) files broken.trace ⊥ (NoMemory ≢ NoMemory) broken.leaves (λ other. other refl);
    whole = λ other. absurd (other refl);
    waits = broken.waits;
    waits_whole = λ other. absurd (other refl);
    is_end = record {
      ended = λ (e : NoMemory ≡ Ended). absurd (cc);
      ends = λ is. inr refl;
      within = within;
      count = λ (e : NoMemory ≡ BudgetSpent). absurd (cc);
      goes_on = λ (e : NoMemory ≡ BudgetSpent). absurd (cc);
      spent = λ _ _ _. inr refl;
    };
    reaches = λ other. absurd (other refl);
    part = broken.part;
  }

  module _ (trace : Trace) (changes : List (Change S)) (operations : List Operated) (over : Bool) (made : List Append) (worked : Worked answers drops names due first told trace (course_from first changes operations) over)
      (served : IsServed answers due trace) (follows : IsAnswered answers due (course_from first changes operations) trace)
      (leaves : (W : Type 0) → LeavesFiles answers fails due (course_from first changes operations) W files trace) (all : IsAllTold due trace)
      (waits : BeforeEachHeard (RestsBy answers due (course_from first changes operations)) trace) (waiting : RestsBy answers due (course_from first changes operations) trace)
      (reaches : Reaches to printing changes made trace start now) (within : heard_count told ≤ budget) where
    -- with this status, which has its cause
    run_by : (status : Status) → IsEnd budget status over told → IsRun answers drops names fails due first to budget status printing files start now told
    run_by status is_end = record {
      trace = trace;
      changes = changes;
      operations = operations;
      over = over;
      made = made;
      worked = all_worked told trace (course_from first changes operations) over worked;
      worked_whole = λ _. worked;
      served = served;
      follows = follows;
      leaves = leaves (status ≢ NoMemory);
      whole = λ _. all;
      waits = waits;
      waits_whole = λ _. waiting;
      is_end = is_end;
      reaches = λ _. reaches;
      part = part_of to printing changes made trace start now reaches;
    }

    -- the run is over by what was heard
    pub ended_run : over ≡ true → IsRun answers drops names fails due first to budget Ended printing files start now told
    ended_run last = run_by Ended (record {
      ended = λ _. last;
      ends = λ is. inl refl;
      within = within;
      count = λ (e : Ended ≡ BudgetSpent). absurd (cc);
      goes_on = λ (e : Ended ≡ BudgetSpent). absurd (cc);
      spent = λ _ _ other. absurd (not_both over last other);
    })

    -- the net failed, where more might be heard
    fault_run : over ≡ false → (0 < budget → heard_count told < budget) → IsRun answers drops names fails due first to budget NetFault printing files start now told
    fault_run goes_on below = run_by NetFault (record {
      ended = λ (e : NetFault ≡ Ended). absurd (cc);
      ends = λ is. absurd (not_both over is goes_on);
      within = within;
      count = λ (e : NetFault ≡ BudgetSpent). absurd (cc);
      goes_on = λ (e : NetFault ≡ BudgetSpent). absurd (cc);
      spent = λ some (e : heard_count told ≡ budget) _. let less : heard_count told < budget = below some in absurd (omega arith);
    })

    -- all that may be heard was heard
    pub spent_run : over ≡ false → heard_count told ≡ budget → IsRun answers drops names fails due first to budget BudgetSpent printing files start now told
    spent_run goes_on count = run_by BudgetSpent (record {
      ended = λ (e : BudgetSpent ≡ Ended). absurd (cc);
      ends = λ is. absurd (not_both over is goes_on);
      within = within;
      count = λ _. count;
      goes_on = λ _. goes_on;
      spent = λ _ _ _. inl refl;
    })

    -- nothing was heard, for this error
    pub error_run : (error : NetError) → over ≡ false → (0 < budget → heard_count told < budget) →
        IsRun answers drops names fails due first to budget (status_of error) printing files start now told
    error_run net.Fault goes_on below = fault_run goes_on below
    error_run net.NoMemory goes_on below = run_by NoMemory (record {
      ended = λ (e : NoMemory ≡ Ended). absurd (cc);
      ends = λ is. inr refl;
      within = within;
      count = λ (e : NoMemory ≡ BudgetSpent). absurd (cc);
      goes_on = λ (e : NoMemory ≡ BudgetSpent). absurd (cc);
      spent = λ _ _ _. inr refl;
    })

same_reverse : (p q : Place) → reverse p ≡ reverse q → p ≡ q
same_reverse p q is = cc

same_upstream : (p q : Place) → upstream p ≡ upstream q → p ≡ q
same_upstream p q is = cc

same_address : (a b : Address) → place a ≡ place b → a ≡ b
same_address a b same = address_eq a b (ap (λ (p : Place). p.0) same) (ap (λ (p : Place). p.1) same)

-- a mode is the one that is wanted, where they are seen alike
pub same_mode : (mode wanted : Mode) → mode_view mode ≡ mode_view wanted → mode ≡ wanted
same_mode modes.Regular modes.Regular is = refl
same_mode modes.Regular (modes.Reverse b) is = absurd (let wrong : regular ≡ reverse (place b) = is in cc)
same_mode modes.Regular (modes.Upstream b) is = absurd (let wrong : regular ≡ upstream (place b) = is in cc)
same_mode modes.Regular modes.Socks is = absurd (let wrong : regular ≡ socks = is in cc)
same_mode (modes.Reverse a) modes.Regular is = absurd (let wrong : reverse (place a) ≡ regular = is in cc)
same_mode (modes.Reverse a) (modes.Reverse b) is = ap modes.Reverse (same_address a b (same_reverse (place a) (place b) is))
same_mode (modes.Reverse a) (modes.Upstream b) is = absurd (let wrong : reverse (place a) ≡ upstream (place b) = is in cc)
same_mode (modes.Reverse a) modes.Socks is = absurd (let wrong : reverse (place a) ≡ socks = is in cc)
same_mode (modes.Upstream a) modes.Regular is = absurd (let wrong : upstream (place a) ≡ regular = is in cc)
same_mode (modes.Upstream a) (modes.Reverse b) is = absurd (let wrong : upstream (place a) ≡ reverse (place b) = is in cc)
same_mode (modes.Upstream a) (modes.Upstream b) is = ap modes.Upstream (same_address a b (same_upstream (place a) (place b) is))
same_mode (modes.Upstream a) modes.Socks is = absurd (let wrong : upstream (place a) ≡ socks = is in cc)
same_mode modes.Socks modes.Regular is = absurd (let wrong : socks ≡ regular = is in cc)
same_mode modes.Socks (modes.Reverse b) is = absurd (let wrong : socks ≡ reverse (place b) = is in cc)
same_mode modes.Socks (modes.Upstream b) is = absurd (let wrong : socks ≡ upstream (place b) = is in cc)
same_mode modes.Socks modes.Socks is = refl

-- what is told is the trace
pub told_trace : (P : Trace → Type 0) (told : Option Trace) (trace : Trace) → Told P told → told ≡ Some trace → P trace
told_trace P told trace h is = subst P (same_some h.trace trace (sym h.tells ∙ is)) h.holds

pub told_by : (P Q : Trace → Type 0) (told : Option Trace) → ((trace : Trace) → P trace → Q trace) → Told P told → Told Q told
told_by P Q told f h = record { trace = h.trace; tells = h.tells; holds = f h.trace h.holds }

-- where something was heard the trace changed
pub listens_where_heard : (old new : Option Trace) (trace : Trace) (P : Type 0) → (new ≡ old) ⊎ P → old ≡ Some [] → new ≡ Some trace → trace ≢ [] → P
listens_where_heard old new trace P (inl same) empty tells heard_some = absurd (heard_some (same_some trace [] (sym tells ∙ same ∙ empty)))
listens_where_heard old new trace P (inr h) empty tells heard_some = h

pub if_err_by : {T : Type 0} (result : Result T Status) (Q P : Status → Type 0) → IsErrAnd result Q → ((status : Status) → Q status → P status) → IfErr result P
if_err_by (Ok _) Q P is f = tt
if_err_by (Err status) Q P is f = f status is
