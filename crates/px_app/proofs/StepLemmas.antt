-- One thing heard by a run of many conversations, by how it ended.
use Rattle.std.proofs.Common.{◌≡◌, ◌≢◌, ◌⊎◌, inl, inr, ℕ, ◌+◌, ◌<◌, ◌≤◌, arith, Bool, true, false, List, [], ◌∷◌, ◌++◌, Option, Some, None, Result, Ok, Err, refl, sym, ap, ◌∙◌, subst, append_assoc}
use Rattle.std.specs.List.{flat_map}
use Rattle.std.proofs.lemmas.Grind.{flat_map-append}
use Rattle.std.proofs.lemmas.List.{append_cancel_left}
use Rattle.px_text.specs.declared.no_memory.NoMemory.{NoMemory as OutOfMemory}
use Rattle.px_message.specs.declared.flow.Flow.{Flow}
use Rattle.px_text.specs.Prefix.{IsPrefixOf}
use Rattle.px_event.specs.declared.ask.Ask.{Ask}
use Rattle.px_event.specs.declared.command.Command.{Command}
use Rattle.px_event.specs.declared.heard.Heard.{Heard}
use Rattle.px_event.specs.declared.step.Step.{Step}
use Rattle.px_event.specs.declared.step.Step.TheVariants as steps
use Rattle.px_event.specs.Layer.{Move, Standing}
use Rattle.px_event.specs.Trace.{BeforeEachHeard, Trace}
use Rattle.px_event.specs.View.{View, seen_of}
use Rattle.px_outside.specs.declared.net.NetError.{NetError}
use Rattle.px_outside.specs.declared.net.NetError.TheVariants as net
use Rattle.px_core.specs.declared.router.Router.{Router}
use Rattle.px_core.specs.Answered.{Answers, IsAnswered, LeavesFiles, Pending, RestsBy, nothing_pending, at_change, at_edit, at_first, at_hook, at_mark, at_other, at_release, at_reply}
use Rattle.px_core.specs.Answers.{Answering, AnswererState, Failing, FilesMeaning}
use Rattle.px_core.specs.Course.{Change, Course, IsFrontOf, Operated, begins_at, change, with_change}
use Rattle.px_core.specs.Due.{Due, due_in, IsServed, IsAllTold, IsWithinDue, EndsMet, OpenOnesWait}
use Rattle.px_core.specs.Hooks.{EndsInTurn}
use Rattle.px_core.specs.declared.table.Conversations.{Conversations}
use Rattle.px_core.specs.Router.{RouterStands, TableStands}
use Rattle.px_core.specs.Run.{Tells, done_of}
use Rattle.px_event.proofs.TraceLemmas.{always_empty, before_empty}
use Rattle.px_core.proofs.AnsweredLemmas.{front_on, whole_front}
use Rattle.px_core.proofs.CourseLemmas.{stands_changed}
use Rattle.px_core.proofs.ResultLemmas.{same_some}
use Rattle.px_core.proofs.RouteLemmas.{all_told}
use Rattle.px_core.proofs.StandsLemmas.{rests_by}
use Rattle.px_app.specs.declared.operators.Operators.{Operators}
use Rattle.px_app.specs.declared.printing.Printing.{Printing}
use Rattle.px_app.specs.declared.printing.Printing.TheVariants.{Whole}
use Rattle.px_app.specs.declared.replaying.Replaying.{Replaying}
use Rattle.px_app.specs.declared.saving.Saving.{Saving}
use Rattle.px_app.specs.declared.status.Status.{Status}
use Rattle.px_app.specs.declared.status.Status.TheVariants.{Ended, NetFault, BudgetSpent, NoMemory}
use Rattle.px_app.specs.Operating.{is_open, stand_in}
use Rattle.px_app.specs.Over.{Goes, LeavesBehind, Reaches, ReachesPart, course_from, finished_in, rests_of}
use Rattle.px_app.specs.Replayed.{NoneWaits}
use Rattle.px_app.specs.Replaying.{ReplaysStand, behind_flows}
use Rattle.px_app.specs.Run.{BreaksOff, IsRun, Told, ToldNext, ToldOn}
use Rattle.px_app.specs.Saved.{Puts, SavesTo, saves_to_of}
use Rattle.px_app.specs.Serving.{Between, BrokeOff, IsSound, Ran, Rests, RestsNow, ToldTurn, TurnBroke, Turned}
use Rattle.px_app.specs.Statuses.{code_of, status_of, heard_count}
use Rattle.px_app.specs.Worked.{Worked, WorkedPart, all_worked, breaks_in, not_begun, one_worked}
use Rattle.px_app.proofs.CountLemmas.{count_next, done_both}
use Rattle.px_app.proofs.ListedLemmas.{done_heard}
use Rattle.px_app.proofs.ReplayLemmas.{AreQuiet, now_behind, replays_in, replays_then, replays_whole, stands_first, stands_heard, stands_listed}
use Rattle.px_app.proofs.RestLemmas.{before_by, before_next, breaks_next, part_more, reaches_drops, reaches_first, reaches_next, rests_next}
use Rattle.px_app.proofs.RunLemmas.{leaves_all, memory_run, ended_run, spent_run, error_run}
use Rattle.px_app.proofs.TurnLemmas.{Adds, Grows, NoneHeard, breaks_adds, changed_front, turns_adds}

-- what is told of the trace holds of it
pub told_of : (P : Trace → Type 0) (before after : Trace) (told : Option Trace) → told ≡ Some after → Tells P before told → P after
told_of P before after told is tells = subst P (same_some (before ++ tells.more) after (sym tells.is ∙ is)) tells.holds

-- steps by which nothing is heard, and no conversation without a client begins
quiet_by : (more : Trace) → NoneHeard more → AreQuiet more
quiet_by [] none = tt
quiet_by (steps.Heard moment what ∷ more) none = absurd none
quiet_by (steps.Begun conv ∷ more) none = absurd none
quiet_by (steps.Asked number ask ∷ more) none = (tt, quiet_by more none)
quiet_by (steps.Answered number ask reply ∷ more) none = (tt, quiet_by more none)
quiet_by (steps.Said number what ∷ more) none = (tt, quiet_by more none)
quiet_by (steps.Done flow ∷ more) none = (tt, quiet_by more none)

-- flows that are finished behind others are those of the steps behind
pub flows_behind : (told more : Trace) (step : Step) (earlier flows : List Flow) → finished_in (told ++ step ∷ []) ≡ finished_in told → earlier ≡ finished_in told →
    earlier ++ flows ≡ finished_in ((told ++ step ∷ []) ++ more) → flows ≡ finished_in more
flows_behind told more step earlier flows none is_earlier all =
    append_cancel_left (finished_in told) flows (finished_in more)
    (ap (λ (l : List Flow). l ++ flows) (sym is_earlier)
    ∙ (all ∙ (flat_map-append done_of (told ++ step ∷ []) more ∙ ap (λ (l : List Flow). l ++ finished_in more) none)))

-- a course is told by its parts
course_is : {S : Type 0} (course : Course S) (first : AnswererState S) (changes : List (Change S)) (operations : List Operated) → course.first ≡ first → course.changes ≡ changes →
    course.operations ≡ operations → course ≡ course_from first changes operations
course_is course first changes operations begins changed operated =
    ap (λ f. course_from f course.changes course.operations) begins
    ∙ (ap (λ l. course_from first l course.operations) changed ∙ ap (λ l. course_from first changes l) operated)

grown_is : {S : Type 0} (drops : List ℕ → S → S → Type 0) (first : AnswererState S) (changes : List (Change S)) (operations : List Operated) (turned : Course S) →
    (g : Grows drops (course_from first changes operations) turned) → turned ≡ course_from first (changes ++ g.front_of.later) (operations ++ g.front_of.later_operations)
grown_is drops first changes operations turned g =
    course_is turned first (changes ++ g.front_of.later) (operations ++ g.front_of.later_operations) (sym g.front_of.same) g.front_of.split g.front_of.split_operations

-- it rests so by a course that goes on
pub rests_longer : {S : Type 0} (answers : Answering S) (due : Due) (course longer : Course S) (trace : Trace) → IsFrontOf longer course → RestsBy answers due course trace → RestsBy answers due longer trace
rests_longer answers due course longer trace front r =
    record { made = r.made; front_of = front_on longer course r.made front r.front_of; now = r.now; pending = r.pending; answered = r.answered; waits = r.waits }

module _ {C S : Type 0} (standing : Standing C) (awaited : C → Option Ask) (number : C → ℕ) (made_due : C → List Move → List Command)
    (gave : (made state : C) (moves : List Move) (given : List Command) → standing made state moves given → (view : View) → seen_of view given ≡ seen_of view (made_due made moves))
    (grows : (made : C) (moves : List Move) (move : Move) (view : View) → IsPrefixOf (seen_of view (made_due made moves)) (seen_of view (made_due made (moves ++ move ∷ []))))
    (answers : Answering S) (drops : List ℕ → S → S → Type 0) (names : S → List (List ℕ)) (fails : Failing S) (due : Due) where
  all : {course : Course S} {now : AnswererState S} (table : Conversations C) (trace : Trace) → TableStands standing awaited number made_due answers due course now table trace → IsAllTold due trace
  all table trace stands = all_told standing awaited number made_due gave grows answers due table trace stands

  waiting : {course : Course S} {now : AnswererState S} (table : Conversations C) (trace : Trace) → TableStands standing awaited number made_due answers due course now table trace → RestsBy answers due course trace
  waiting table trace stands = rests_by standing awaited number made_due answers due table trace stands

  pub came_over : {course : Course S} {now : AnswererState S} {table : Conversations C} {trace : Trace} → TableStands standing awaited number made_due answers due course now table trace → IsAnswered answers due course trace
  came_over {course} {now} stands = record { made = course; front_of = whole_front course; last = now; pending = stands.pending; answered = stands.answered }

  pub files_all : {course : Course S} {now : AnswererState S} {table : Conversations C} {trace : Trace} → TableStands standing awaited number made_due answers due course now table trace → (W : Type 0) →
      LeavesFiles answers fails due course W now.files trace
  files_all {course} {now} {table} {trace} stands W = leaves_all answers fails due course now stands.pending now.files trace stands.answered refl W

  -- memory ran out behind what was told, or within one thing more that was heard
  pub tells_memory : {new_files : FilesMeaning} (first : AnswererState S) (to : Option SavesTo) (printing : Printing) (budget total : ℕ) (start now : Option (List ℕ)) (trace : Trace) (told : Option Trace) →
      heard_count trace ≤ budget → ToldOn (BrokeOff answers drops names fails due first to new_files total start now) trace told →
      Told (Ran answers drops names fails due first to budget NoMemory printing new_files total start now) told
  tells_memory {new_files} first to printing budget total start now trace told few broken =
      let count = broken.count in record {
        trace = broken.after;
        tells = broken.tells;
        holds = record {
          run = memory_run answers drops names fails due first to budget printing new_files start now broken.after (omega (arith, count, few)) broken.holds.breaks;
          replays = broken.holds.replays;
        };
      }

  pub tells_memory_next : {new_files : FilesMeaning} (first : AnswererState S) (to : Option SavesTo) (printing : Printing) (budget total : ℕ) (start now : Option (List ℕ)) (trace : Trace) (told : Option Trace) →
      heard_count trace < budget → ToldNext (BrokeOff answers drops names fails due first to new_files total start now) trace told →
      Told (Ran answers drops names fails due first to budget NoMemory printing new_files total start now) told
  tells_memory_next {new_files} first to printing budget total start now trace told below broken =
      let count = broken.count in record {
        trace = broken.after;
        tells = broken.tells;
        holds = record {
          run = memory_run answers drops names fails due first to budget printing new_files start now broken.after (omega (arith, count, below)) broken.holds.breaks;
          replays = broken.holds.replays;
        };
      }

  module _ {A : Type 0} {state : A → S} (first : AnswererState S) (to : Option SavesTo) where
    module _ {files : FilesMeaning} (router : Router C A) (operators : Operators) (was : Printing) (start before : Option (List ℕ)) (told : Trace) (moment : ℕ) (what : Heard)
        (r : Rests standing awaited number made_due answers drops names state due first to files router operators was start before false told) where
      -- before each thing heard up to here it rests by a course that goes on
      waits_next : (more : List Step) (next : Trace) (turned longer : Course S) → Adds drops r.trace (course_from first r.changes r.operations) moment what more next turned → IsFrontOf longer turned →
          BeforeEachHeard (RestsBy answers due longer) next
      waits_next more next turned longer adds front =
          let course = course_from first r.changes r.operations in
          let later = front_on longer turned course front adds.grows.front_of in
          before_next (RestsBy answers due longer) r.trace moment what adds.added next adds.is_next adds.quiet
          (before_by (RestsBy answers due course) (RestsBy answers due longer) r.trace (λ prefix h. rests_longer answers due course longer prefix later h) r.waits)
          (rests_longer answers due course longer r.trace later (waiting router.table r.trace r.stands))

      -- it is one rest further
      rest_next : (more : List Step) (next : Trace) (turned : Course S) → Adds drops r.trace (course_from first r.changes r.operations) moment what more next turned → rests_of next ≡ rests_of r.trace ++ next ∷ []
      rest_next more next turned adds =
          let P : Trace → Type 0 = λ t. rests_of t ≡ rests_of r.trace ++ t ∷ [] in
          subst P (sym adds.is_next) (rests_next r.trace moment what adds.added adds.quiet)

      -- what is told finishes the same flows
      done_same : (more : List Step) (next : Trace) (turned : Course S) → Adds drops r.trace (course_from first r.changes r.operations) moment what more next turned →
          finished_in ((told ++ steps.Heard moment what ∷ []) ++ more) ≡ finished_in next
      done_same more next turned adds =
          done_both told r.trace moment what more adds.added r.same_done adds.same_done ∙ ap finished_in (sym adds.is_next)

      module _ {mid_files : FilesMeaning} (new_files : FilesMeaning) (new : Router C A) (new_operators : Operators) (over : Bool) (heard after : Option Trace) (earlier flows : List Flow)
          (t : Turned standing awaited number made_due answers drops names state due mid_files new new_operators r.trace (course_from first r.changes r.operations) moment what over heard after)
          (is_heard : heard ≡ Some (told ++ steps.Heard moment what ∷ [])) (is_earlier : earlier ≡ finished_in told)
          (finished : Tells (λ told_now. earlier ++ flows ≡ flat_map done_of told_now) (told ++ steps.Heard moment what ∷ []) after) where
        abbrev told_after : Trace
        told_after = (told ++ steps.Heard moment what ∷ []) ++ t.more

        abbrev old_state : AnswererState S
        old_state = record { own = state new.answerer; files = mid_files }

        abbrev new_state : AnswererState S
        new_state = record { own = state new.answerer; files = new_files }

        adds : Adds drops r.trace (course_from first r.changes r.operations) moment what t.more t.next t.turned
        adds = turns_adds answers drops names due r.trace (course_from first r.changes r.operations) moment what t.more t.next t.turned over t.turns

        abbrev turned_changes : List (Change S)
        turned_changes = r.changes ++ adds.grows.front_of.later

        abbrev all_changes : List (Change S)
        all_changes = turned_changes ++ change t.next old_state new_state ∷ []

        abbrev all_operations : List Operated
        all_operations = r.operations ++ adds.grows.front_of.later_operations

        turned_is : t.turned ≡ course_from first turned_changes all_operations
        turned_is = grown_is drops first r.changes r.operations t.turned adds.grows

        told_is : after ≡ Some told_after
        told_is = t.tells (told ++ steps.Heard moment what ∷ []) is_heard

        stands_next : RouterStands standing awaited number made_due answers state due (course_from first all_changes all_operations) new_files new t.next
        stands_next =
            let P : Course S → Type 0 = λ c. RouterStands standing awaited number made_due answers state due c mid_files new t.next in
            stands_changed standing awaited number made_due answers due (course_from first turned_changes all_operations) old_state new_state new.table t.next (subst P turned_is t.stands)

        saved_is : course_from first all_changes all_operations ≡ with_change t.turned t.next old_state new_state
        saved_is = ap (λ c. with_change c t.next old_state new_state) (sym turned_is)

        worked_next : Worked answers drops names due first told_after t.next (course_from first all_changes all_operations) over
        worked_next = one_worked told told_after r.trace t.next (course_from first r.changes r.operations) t.turned (course_from first all_changes all_operations) moment what t.more over old_state new_state
            r.worked t.turns refl refl saved_is

        waits_after : BeforeEachHeard (RestsBy answers due (course_from first all_changes all_operations)) t.next
        waits_after = waits_next t.more t.next t.turned (course_from first all_changes all_operations) adds
            (changed_front drops t.turned (course_from first all_changes all_operations) t.next old_state new_state saved_is)

        finished_next : finished_in r.trace ++ flows ≡ finished_in t.next
        finished_next =
            let P : List Flow → Type 0 = λ l. l ++ flows ≡ finished_in told_after in
            subst P (is_earlier ∙ r.same_done) (told_of (λ told_now. earlier ++ flows ≡ flat_map done_of told_now) (told ++ steps.Heard moment what ∷ []) told_after after told_is finished)
            ∙ done_same t.more t.next t.turned adds

        reaches_turned : Reaches to was turned_changes r.made r.trace start before
        reaches_turned = reaches_drops drops to was r.changes adds.grows.front_of.later r.made r.trace start before r.reaches adds.grows.all_drops

        quiet_told : AreQuiet t.more
        quiet_told = quiet_by t.more adds.quiet_told

        flows_are : flows ≡ finished_in t.more
        flows_are = flows_behind told t.more (steps.Heard moment what) earlier flows (done_heard told moment what) is_earlier
            (told_of (λ told_now. earlier ++ flows ≡ flat_map done_of told_now) (told ++ steps.Heard moment what ∷ []) told_after after told_is finished)

        -- the flows that it finished were printed and saved
        rests_after : (is : Printing) (now : Option (List ℕ)) → Puts to was flows (Ok is) mid_files new_files before now →
            Rests standing awaited number made_due answers drops names state due first to new_files new new_operators is start now over told_after
        rests_after is now puts = record {
          trace = t.next;
          changes = all_changes;
          operations = all_operations;
          made = r.made ++ puts.made;
          stands = stands_next;
          worked = worked_next;
          waits = waits_after;
          operators_stand = t.operators_stand;
          same_done = done_same t.more t.next t.turned adds;
          reaches = reaches_next to turned_changes r.made r.trace t.next flows start before now old_state new_state refl finished_next (rest_next t.more t.next t.turned adds) was is reaches_turned puts;
        }

        pub rests_on : (replaying new_replaying : Replaying) (total : ℕ) (listed : List Flow) → ReplaysStand replaying total told → NoneWaits total told → new_replaying ≡ behind_flows listed replaying →
            listed ≡ flows → (is : Printing) (now : Option (List ℕ)) → Puts to was flows (Ok is) mid_files new_files before now →
            ToldNext (RestsNow standing awaited number made_due answers drops names state due first to new_files new new_operators is new_replaying total start now over moment) told after
        rests_on replaying new_replaying total listed stands goes behind same is now puts = record {
          after = told_after;
          tells = told_is;
          count = count_next told moment what t.more adds.quiet_told;
          holds = record {
            rests = rests_after is now puts;
            replays = stands_listed total replaying new_replaying listed flows told_after behind same (stands_heard total replaying told moment what t.more flows quiet_told flows_are goes stands);
            is_now = now_behind moment told what t.more quiet_told;
          };
        }

        -- memory ran out while they were printed and saved
        breaks_after : (e : OutOfMemory) (now : Option (List ℕ)) → Puts to was flows (Err e) mid_files new_files before now →
            BreaksOff answers drops names fails due first to new_files start now told_after
        breaks_after e now puts = record {
          trace = t.next;
          changes = all_changes;
          operations = all_operations;
          made = r.made ++ puts.made;
          worked = all_worked told_after t.next (course_from first all_changes all_operations) over worked_next;
          served = stands_next.served;
          follows = came_over stands_next;
          leaves = files_all stands_next ⊥;
          waits = waits_after;
          part = breaks_next to turned_changes r.made r.trace t.next flows start before now old_state new_state refl finished_next (rest_next t.more t.next t.turned adds) was e reaches_turned puts;
        }

        pub breaks_on : (replaying : Replaying) (total : ℕ) → ReplaysStand replaying total told → NoneWaits total told → (e : OutOfMemory) (now : Option (List ℕ)) →
            Puts to was flows (Err e) mid_files new_files before now → ToldNext (BrokeOff answers drops names fails due first to new_files total start now) told after
        breaks_on replaying total stands goes e now puts = record {
          after = told_after;
          tells = told_is;
          count = count_next told moment what t.more adds.quiet_told;
          holds = record { breaks = breaks_after e now puts; replays = replays_in total replaying told moment what t.more quiet_told goes stands };
        }

      -- memory ran out within it, and nothing of it was printed
      pub breaks_within : {new_files : FilesMeaning} (replaying : Replaying) (total : ℕ) → ReplaysStand replaying total told → NoneWaits total told → (now : Option (List ℕ)) (after : Option Trace) → now ≡ before →
          TurnBroke answers drops names fails due r.trace (course_from first r.changes r.operations) moment what (told ++ steps.Heard moment what ∷ []) after new_files →
          ToldNext (BrokeOff answers drops names fails due first to new_files total start now) told after
      breaks_within {new_files} replaying total stands goes now after same b =
          let course = course_from first r.changes r.operations in
          let told_after = (told ++ steps.Heard moment what ∷ []) ++ b.more in
          let adds = breaks_adds answers drops names due r.trace course moment what b.more b.next b.broken b.breaks in
          let later = adds.grows.front_of.later in
          let made = course_from first (r.changes ++ later) (r.operations ++ adds.grows.front_of.later_operations) in
          let is : b.broken ≡ made = grown_is drops first r.changes r.operations b.broken adds.grows in
          let reaches = reaches_drops drops to was r.changes later r.made r.trace start before r.reaches adds.grows.all_drops in
          let Worked_so : Course S → Type 0 = λ c. WorkedPart answers drops names due first told_after b.next c in
          let Follows : Course S → Type 0 = λ c. IsAnswered answers due c b.next in
          let Leaves : Course S → Type 0 = λ c. LeavesFiles answers fails due c ⊥ new_files b.next in
          let Waits : Course S → Type 0 = λ c. BeforeEachHeard (RestsBy answers due c) b.next in
          let Part : Option (List ℕ) → Type 0 = λ o. ReachesPart to (r.changes ++ later) r.made b.next start o in
          record {
            after = told_after;
            tells = b.is;
            count = count_next told moment what b.more adds.quiet_told;
            holds = record {
              breaks = record {
                trace = b.next;
                changes = r.changes ++ later;
                operations = r.operations ++ adds.grows.front_of.later_operations;
                made = r.made;
                worked = subst Worked_so is (breaks_in told told_after r.trace b.next course b.broken moment what b.more r.worked b.breaks refl);
                served = b.served;
                follows = subst Follows is b.follows;
                leaves = subst Leaves is b.leaves;
                waits = subst Waits is (waits_next b.more b.next b.broken b.broken adds (whole_front b.broken));
                part = subst Part (sym same) (part_more to was (r.changes ++ later) r.made r.trace (steps.Heard moment what ∷ adds.added) b.next start before reaches
                    (adds.is_next ∙ append_assoc r.trace (steps.Heard moment what ∷ []) adds.added) (rest_next b.more b.next b.broken adds));
              };
              replays = replays_in total replaying told moment what b.more (quiet_by b.more adds.quiet_told) goes stands;
            };
          }

    -- ---- how a turn ends

    -- nothing was heard
    pub tells_error : {files : FilesMeaning} (router : Router C A) (operators : Operators) (printing : Printing) (replaying : Replaying) (budget total : ℕ) (start now : Option (List ℕ)) (trace : Trace)
        (error : NetError) (status : Status) (told : Option Trace) →
        Between standing awaited number made_due answers drops names state due first to files router operators printing replaying total start now trace → told ≡ Some trace →
        heard_count trace < budget → status ≡ status_of error → Told (Ran answers drops names fails due first to budget status printing files total start now) told
    tells_error {files} router operators printing replaying budget total start now trace error status told b is below same =
        let r = b.rests in
        let P : Status → Type 0 = λ s. IsRun answers drops names fails due first to budget s printing files start now trace in
        record {
          trace = trace;
          tells = is;
          holds = record {
            run = subst P (sym same) (error_run answers drops names fails due first to budget printing files start now trace r.trace r.changes r.operations false r.made r.worked r.stands.served (came_over r.stands)
                (files_all r.stands) (all router.table r.trace r.stands) r.waits (waiting router.table r.trace r.stands) r.reaches (omega (arith, below)) error refl (λ _. below));
            replays = replays_whole total replaying (code_of status) trace b.replays b.goes;
          };
        }

    -- the run is over
    pub tells_ended : {new_files : FilesMeaning} (new : Router C A) (operators : Operators) (printing : Printing) (replaying : Replaying) (budget total : ℕ) (start now : Option (List ℕ)) (over : Bool)
        (moment : ℕ) (trace : Trace) (told : Option Trace) → heard_count trace < budget → over ≡ true →
        ToldNext (RestsNow standing awaited number made_due answers drops names state due first to new_files new operators printing replaying total start now over moment) trace told →
        Told (Ran answers drops names fails due first to budget Ended printing new_files total start now) told
    tells_ended {new_files} new operators printing replaying budget total start now over moment trace told below last next =
        let r = next.holds.rests in
        let count = next.count in
        record {
          trace = next.after;
          tells = next.tells;
          holds = record {
            run = ended_run answers drops names fails due first to budget printing new_files start now next.after r.trace r.changes r.operations over r.made r.worked r.stands.served (came_over r.stands)
                (files_all r.stands) (all new.table r.trace r.stands) r.waits (waiting new.table r.trace r.stands) r.reaches (omega (arith, count, below)) last;
            replays = replays_then total 0 next.after (λ (e : 0 ≡ 5). cc) (λ (e : 0 ≡ 6). cc) next.holds.replays.in_turn next.holds.replays.none_waits;
          };
        }

    -- the run goes on
    pub goes_next : {new_files : FilesMeaning} (new : Router C A) (operators : Operators) (printing : Printing) (replaying : Replaying) (total : ℕ) (start now : Option (List ℕ)) (over : Bool) (moment : ℕ)
        (trace : Trace) (told : Option Trace) → over ≡ false →
        ToldNext (RestsNow standing awaited number made_due answers drops names state due first to new_files new operators printing replaying total start now over moment) trace told →
        ToldNext (RestsNow standing awaited number made_due answers drops names state due first to new_files new operators printing replaying total start now false moment) trace told
    goes_next {new_files} new operators printing replaying total start now over moment trace told other =
        let P : Bool → Type 0 = λ b. ToldNext (RestsNow standing awaited number made_due answers drops names state due first to new_files new operators printing replaying total start now b moment) trace told in
        subst P other

    -- one turn more
    pub next_turn : {files new_files : FilesMeaning} (router new : Router C A) (operators new_operators : Operators) (was printing : Printing) (replaying new_replaying : Replaying) (total : ℕ)
        (start mid now : Option (List ℕ)) (count : ℕ) (before after : Option Trace) →
        ToldTurn standing awaited number made_due answers drops names state due first to files router operators was replaying total start mid count before →
        ((trace : Trace) → Between standing awaited number made_due answers drops names state due first to files router operators was replaying total start mid trace → before ≡ Some trace →
        ToldNext (Between standing awaited number made_due answers drops names state due first to new_files new new_operators printing new_replaying total start now) trace after) →
        ToldTurn standing awaited number made_due answers drops names state due first to new_files new new_operators printing new_replaying total start now (count + 1) after
    next_turn router new operators new_operators was printing replaying new_replaying total start mid now count before after turn step =
        let next = step turn.trace turn.stands turn.tells in
        record { trace = next.after; tells = next.tells; stands = next.holds; counts = next.count ∙ ap (λ (n : ℕ). n + 1) turn.counts }

    -- all that may be heard was heard
    pub tells_spent : {files : FilesMeaning} (router : Router C A) (operators : Operators) (printing : Printing) (replaying : Replaying) (total : ℕ) (start now : Option (List ℕ)) (budget count : ℕ)
        (told : Option Trace) → ToldTurn standing awaited number made_due answers drops names state due first to files router operators printing replaying total start now count told → count ≡ budget →
        Told (Ran answers drops names fails due first to budget BudgetSpent printing files total start now) told
    tells_spent {files} router operators printing replaying total start now budget count told turn is =
        let r = turn.stands.rests in
        let count : heard_count turn.trace ≡ budget = turn.counts ∙ is in
        record {
          trace = turn.trace;
          tells = turn.tells;
          holds = record {
            run = spent_run answers drops names fails due first to budget printing files start now turn.trace r.trace r.changes r.operations false r.made r.worked r.stands.served (came_over r.stands)
                (files_all r.stands) (all router.table r.trace r.stands) r.waits (waiting router.table r.trace r.stands) r.reaches (omega (arith, count)) refl count;
            replays = replays_whole total replaying 6 turn.trace turn.stands.replays turn.stands.goes;
          };
        }

    -- nothing was heard yet, and the first requests have begun
    pub first_turn : {files : FilesMeaning} (router : Router C A) (operators : Operators) (printing : Printing) (replaying : Replaying) (total : ℕ) (start now : Option (List ℕ)) (told : Option Trace) →
        ToldOn (Between standing awaited number made_due answers drops names state due first to files router operators printing replaying total start now) [] told →
        ToldTurn standing awaited number made_due answers drops names state due first to files router operators printing replaying total start now 0 told
    first_turn router operators printing replaying total start now told on = record { trace = on.after; tells = on.tells; stands = on.holds; counts = on.count }

-- nothing was heard, printed or saved yet
pub rests_first : {C : Type 0} (standing : Standing C) (awaited : C → Option Ask) (number : C → ℕ) (made_due : C → List Move → List Command) {S : Type 0} (answers : Answering S)
    (drops : List ℕ → S → S → Type 0) (names : S → List (List ℕ)) {A : Type 0} (state : A → S) (due : Due) (first : AnswererState S) (to : Option SavesTo) (files : FilesMeaning) (router : Router C A)
    (operators : Operators) (start : Option (List ℕ)) → RouterStands standing awaited number made_due answers state due (begins_at first) files router [] →
    ((conv : ℕ) → stand_in operators conv ≡ None) → ((conv : ℕ) → is_open operators conv ≢ true) →
    Rests standing awaited number made_due answers drops names state due first to files router operators Whole start start false []
rests_first standing awaited number made_due answers drops names state due first to files router operators start stands none none_open = record {
  trace = [];
  changes = [];
  operations = [];
  made = [];
  stands = stands;
  worked = not_begun;
  waits = before_empty (RestsBy answers due (begins_at first));
  operators_stand = λ _. record { at = λ conv fresh. none conv; go_on = λ conv opened. absurd (none_open conv opened) };
  same_done = refl;
  reaches = reaches_first to start;
}

-- and none has begun
pub now_first : {C : Type 0} (standing : Standing C) (awaited : C → Option Ask) (number : C → ℕ) (made_due : C → List Move → List Command) {S : Type 0} (answers : Answering S)
    (drops : List ℕ → S → S → Type 0) (names : S → List (List ℕ)) {A : Type 0} (state : A → S) (due : Due) (first : AnswererState S) (to : Option SavesTo) (files : FilesMeaning) (router : Router C A)
    (operators : Operators) (replaying : Replaying) (total : ℕ) (start : Option (List ℕ)) → RouterStands standing awaited number made_due answers state due (begins_at first) files router [] →
    ((conv : ℕ) → stand_in operators conv ≡ None) → ((conv : ℕ) → is_open operators conv ≢ true) → replaying.begun ≡ 0 → replaying.going ≡ false →
    RestsNow standing awaited number made_due answers drops names state due first to files router operators Whole replaying total start start false 0 []
now_first standing awaited number made_due answers drops names state due first to files router operators replaying total start stands none none_open begun going = record {
  rests = rests_first standing awaited number made_due answers drops names state due first to files router operators start stands none none_open;
  replays = stands_first total replaying begun going;
  is_now = λ conv. refl;
}

no_step : (prefix : Trace) (step : Step) → [] ≡ prefix ++ step ∷ [] → ⊥
no_step [] step e = cc
no_step (x ∷ prefix) step e = cc

-- before anything was heard
pub empty_served : {S : Type 0} (answers : Answering S) (due : Due) → IsServed answers due []
empty_served answers due = record {
  within = always_empty (IsWithinDue due) (λ conv view told. (due_in due view conv [], refl));
  told = before_empty (IsAllTold due);
  met = always_empty (EndsMet answers due) (λ prefix conv ask reply e. absurd (no_step prefix (steps.Answered conv ask reply) e));
  turns = always_empty EndsInTurn (λ prefix step e. absurd (no_step prefix step e));
  waits = before_empty (OpenOnesWait answers due);
}

pub empty_answered : {S : Type 0} (answers : Answering S) (due : Due) (first : AnswererState S) → IsAnswered answers due (begins_at first) []
empty_answered answers due first =
    record { made = begins_at first; front_of = whole_front (begins_at first); last = first; pending = nothing_pending; answered = at_first (begins_at first) refl refl }

pub empty_told : (due : Due) → IsAllTold due []
empty_told due conv view told = refl

-- no hook is open
empty_rests : {S : Type 0} (answers : Answering S) (due : Due) (first : AnswererState S) → RestsBy answers due (begins_at first) []
empty_rests answers due first = record {
  made = begins_at first;
  front_of = whole_front (begins_at first);
  now = first;
  pending = nothing_pending;
  answered = at_first (begins_at first) refl refl;
  waits = λ conv ask is. absurd (let no : None ≡ Some ask = is in cc);
}

-- so nothing was answered
pub empty_leaves : {S : Type 0} (answers : Answering S) (fails : Failing S) (due : Due) (first : AnswererState S) (W : Type 0) → LeavesFiles answers fails due (begins_at first) W first.files []
empty_leaves answers fails due first W = leaves_all answers fails due (begins_at first) first nothing_pending first.files [] (at_first (begins_at first) refl refl) refl W

-- the network does not listen, or memory ran out before anything was heard
pub error_first : {S : Type 0} (answers : Answering S) (drops : List ℕ → S → S → Type 0) (names : S → List (List ℕ)) (fails : Failing S) (due : Due) (first : AnswererState S) (to : Option SavesTo)
    (budget : ℕ) (start : Option (List ℕ)) (error : NetError) (status : Status) (told : Option Trace) → told ≡ Some [] → status ≡ status_of error →
    Told (IsRun answers drops names fails due first to budget status Whole first.files start start) told
error_first answers drops names fails due first to budget start error status told is same = record {
  trace = [];
  tells = is;
  holds = let P : Status → Type 0 = λ s. IsRun answers drops names fails due first to budget s Whole first.files start start [] in
      subst P (sym same) (error_run answers drops names fails due first to budget Whole first.files start start [] [] [] [] false [] not_begun (empty_served answers due) (empty_answered answers due first)
      (empty_leaves answers fails due first) (empty_told due) (before_empty (RestsBy answers due (begins_at first))) (empty_rests answers due first) (reaches_first to start) (omega arith) error refl (λ some. some));
}

-- so it is where a run did not begin
pub begun_first : {S : Type 0} (answers : Answering S) (drops : List ℕ → S → S → Type 0) (names : S → List (List ℕ)) (fails : Failing S) (due : Due) (first : AnswererState S) (to : Option SavesTo)
    (budget : ℕ) (start : Option (List ℕ)) (status : Status) (told : Option Trace) → told ≡ Some [] → (status ≡ NetFault) ⊎ (status ≡ NoMemory) →
    Told (IsRun answers drops names fails due first to budget status Whole first.files start start) told
begun_first answers drops names fails due first to budget start status told is (inl fault) = error_first answers drops names fails due first to budget start net.Fault status told is fault
begun_first answers drops names fails due first to budget start status told is (inr memory) = error_first answers drops names fails due first to budget start net.NoMemory status told is memory

-- what was printed and saved, by what the state had before
pub puts_here : (lent : Option Saving) (mid here : Option Saving) (between was : Printing) (flows : List Flow) (result : Result Printing OutOfMemory) (old new : FilesMeaning) (before after : Option (List ℕ)) →
    lent ≡ mid → mid ≡ here → between ≡ was → Puts (saves_to_of lent) between flows result old new before after → Puts (saves_to_of here) was flows result old new before after
puts_here lent mid here between was flows result old new before after is_mid is_here is_was puts =
    let P : Option Saving → Type 0 = λ s. Puts (saves_to_of s) between flows result old new before after in
    let Q : Printing → Type 0 = λ p. Puts (saves_to_of here) p flows result old new before after in
    subst Q is_was (subst P (is_mid ∙ is_here) puts)

-- it stands for something where files changed
pub sound_changed : {C : Type 0} (standing : Standing C) (awaited : C → Option Ask) (number : C → ℕ) (made_due : C → List Move → List Command) {S : Type 0} (answers : Answering S)
    (drops : List ℕ → S → S → Type 0) (names : S → List (List ℕ)) {A : Type 0} (state : A → S) (made : Due) (old new : FilesMeaning) (router : Router C A) →
    IsSound standing awaited number made_due answers drops names state made old router → IsSound standing awaited number made_due answers drops names state made new router
sound_changed {C} standing awaited number made_due {S} answers drops names state made old new router (due, course, trace, owes, s) =
    let was : AnswererState S = record { own = state router.answerer; files = old } in
    let now : AnswererState S = record { own = state router.answerer; files = new } in
    (due, with_change course trace was now, trace, owes, stands_changed standing awaited number made_due answers due course was now router.table trace s)

-- where flows are saved does not change from turn to turn, and neither does how many requests are sent again
pub next_saving : {C : Type 0} (standing : Standing C) (awaited : C → Option Ask) (number : C → ℕ) (made_due : C → List Move → List Command) {S : Type 0} (answers : Answering S)
    (drops : List ℕ → S → S → Type 0) (names : S → List (List ℕ)) {A : Type 0} (state : A → S) (due : Due) (first : AnswererState S) {here there : Option Saving} {few total : ℕ} → here ≡ there → few ≡ total →
    (files new_files : FilesMeaning) (router new : Router C A) (operators new_operators : Operators) (was is : Printing) (replaying new_replaying : Replaying) (start mid now : Option (List ℕ)) (trace : Trace)
    (told : Option Trace) →
    (Between standing awaited number made_due answers drops names state due first (saves_to_of here) files router operators was replaying few start mid trace →
    ToldNext (Between standing awaited number made_due answers drops names state due first (saves_to_of here) new_files new new_operators is new_replaying few start now) trace told) →
    Between standing awaited number made_due answers drops names state due first (saves_to_of there) files router operators was replaying total start mid trace →
    ToldNext (Between standing awaited number made_due answers drops names state due first (saves_to_of there) new_files new new_operators is new_replaying total start now) trace told
next_saving standing awaited number made_due answers drops names state due first {here} {there} {few} {total} same same_total files new_files router new operators new_operators was is replaying new_replaying start mid now
    trace told step =
    let P : Option Saving → ℕ → Type 0 = λ s n. Between standing awaited number made_due answers drops names state due first (saves_to_of s) files router operators was replaying n start mid trace →
    ToldNext (Between standing awaited number made_due answers drops names state due first (saves_to_of s) new_files new new_operators is new_replaying n start now) trace told in
    subst (λ n. P there n) same_total (subst (λ s. P s few) same step)

pub err_saving : {C : Type 0} (standing : Standing C) (awaited : C → Option Ask) (number : C → ℕ) (made_due : C → List Move → List Command) {S : Type 0} (answers : Answering S)
    (drops : List ℕ → S → S → Type 0) (names : S → List (List ℕ)) (fails : Failing S) {A : Type 0} (state : A → S) (due : Due) (first : AnswererState S) {here there : Option Saving} {few total : ℕ} → here ≡ there →
    few ≡ total → (files new_files : FilesMeaning) (budget : ℕ) (status : Status) (router : Router C A) (operators : Operators) (was is : Printing) (replaying : Replaying) (start mid now : Option (List ℕ)) (trace : Trace)
    (told : Option Trace) →
    (Between standing awaited number made_due answers drops names state due first (saves_to_of here) files router operators was replaying few start mid trace →
    Told (Ran answers drops names fails due first (saves_to_of here) budget status is new_files few start now) told) →
    Between standing awaited number made_due answers drops names state due first (saves_to_of there) files router operators was replaying total start mid trace →
    Told (Ran answers drops names fails due first (saves_to_of there) budget status is new_files total start now) told
err_saving standing awaited number made_due answers drops names fails state due first {here} {there} {few} {total} same same_total files new_files budget status router operators was is replaying start mid now trace told
    step =
    let P : Option Saving → ℕ → Type 0 = λ s n. Between standing awaited number made_due answers drops names state due first (saves_to_of s) files router operators was replaying n start mid trace →
    Told (Ran answers drops names fails due first (saves_to_of s) budget status is new_files n start now) told in
    subst (λ n. P there n) same_total (subst (λ s. P s few) same step)

pub leaves_saving : {S : Type 0} (answers : Answering S) (drops : List ℕ → S → S → Type 0) (fails : Failing S) (first : AnswererState S) (files : FilesMeaning) {here there : Option Saving} → here ≡ there →
    LeavesBehind answers drops fails (saves_to_of here) first files → LeavesBehind answers drops fails (saves_to_of there) first files
leaves_saving answers drops fails first files same = let P : Option Saving → Type 0 = λ s. LeavesBehind answers drops fails (saves_to_of s) first files in subst P same

pub goes_saving : {S : Type 0} (answers : Answering S) (drops : List ℕ → S → S → Type 0) (first last : AnswererState S) {here there : Option Saving} → here ≡ there →
    Goes answers drops (saves_to_of here) first last → Goes answers drops (saves_to_of there) first last
goes_saving answers drops first last same = let P : Option Saving → Type 0 = λ s. Goes answers drops (saves_to_of s) first last in subst P same

no_change : {S : Type 0} (changes : List (Change S)) (one : Change S) → [] ≡ changes ++ one ∷ [] → ⊥
no_change [] one e = cc
no_change (x ∷ changes) one e = cc

-- before anything was asked or changed the answerer is what it was at first
answers_none : {S : Type 0} (answers : Answering S) (due : Due) (course : Course S) (now : AnswererState S) (pending : Pending) (trace : Trace) → Answers answers due course trace now pending →
    trace ≡ [] → course.changes ≡ [] → now ≡ course.first
answers_none answers due course now pending trace (at_first c empty no_operations) none still = refl
answers_none answers due course now pending whole (at_hook c trace next old new was conv hook flow given before split free about marked answered) none still =
    absurd (no_step trace _ (sym none ∙ split))
answers_none answers due course now pending whole (at_reply c trace next same was conv ask reply before split is_given) none still = absurd (no_step trace _ (sym none ∙ split))
answers_none answers due course now pending whole (at_other c trace next same was step before split quiet marked) none still = absurd (no_step trace _ (sym none ∙ split))
answers_none answers due course now pending whole (at_change made next trace old new was before split) none still =
    absurd (no_change made.changes (change whole old now) (sym still ∙ ap (λ c. c.changes) split))
answers_none answers due course now pending whole (at_mark made next trace state was id before split) none still =
    answers_none answers due made now pending whole before none (sym (ap (λ c. c.changes) split) ∙ still) ∙ sym (ap (λ c. c.first) split)
answers_none answers due course now pending whole (at_edit made next trace state was id edit hook draft edits edited before split waits changed) none still =
    answers_none answers due made now was whole before none (sym (ap (λ c. c.changes) split) ∙ still) ∙ sym (ap (λ c. c.first) split)
answers_none answers due course now pending whole (at_release made more trace next state was operation id hook draft edited before split_course for waits split) none still =
    absurd (no_step trace _ (sym none ∙ split))

pub state_first : {C : Type 0} (standing : Standing C) (awaited : C → Option Ask) (number : C → ℕ) (made_due : C → List Move → List Command) {S : Type 0} (answers : Answering S)
    {A : Type 0} (state : A → S) (due : Due) (first : S) (files : FilesMeaning) (router : Router C A) →
    RouterStands standing awaited number made_due answers state due (begins_at (record { own = first; files = files })) files router [] → state router.answerer ≡ first
state_first standing awaited number made_due answers state due first files router stands =
    ap (λ s. s.own) (answers_none answers due (begins_at (record { own = first; files = files })) (record { own = state router.answerer; files = files }) stands.pending [] stands.answered refl refl)

-- what is left is so from the state that it began from
pub leaves_from : {S : Type 0} (answers : Answering S) (drops : List ℕ → S → S → Type 0) (fails : Failing S) (to : Option SavesTo) (own other : S) (files last : FilesMeaning) → own ≡ other →
    LeavesBehind answers drops fails to (record { own = own; files = files }) last → LeavesBehind answers drops fails to (record { own = other; files = files }) last
leaves_from {S} answers drops fails to own other files last same = let P : S → Type 0 = λ s. LeavesBehind answers drops fails to (record { own = s; files = files }) last in subst P same
