-- A conversation without a client that begins in a run of many conversations, by how it ended.
use Rattle.std.proofs.Common.{◌≡◌, ◌≤◌, ◌<◌, inl, inr, ℕ, ◌+◌, Bool, true, false, List, [], ◌∷◌, ◌++◌, Option, Some, None, is_some, Ok, Err, refl, sym, ap, ◌∙◌, subst, append_assoc, arith}
use Rattle.std.specs.List.{flat_map}
use Rattle.std.proofs.lemmas.Grind.{flat_map-append}
use Rattle.std.proofs.lemmas.List.{append-nil}
use Rattle.px_text.specs.declared.no_memory.NoMemory.{NoMemory as OutOfMemory}
use Rattle.px_text.specs.Prefix.{IsPrefixOf}
use Rattle.px_message.specs.declared.address.Address.{Address}
use Rattle.px_message.specs.declared.flow.Flow.{Flow}
use Rattle.px_event.specs.declared.ask.Ask.{Ask}
use Rattle.px_event.specs.declared.command.Command.{Command}
use Rattle.px_event.specs.declared.heard.Heard.TheVariants as heard
use Rattle.px_event.specs.declared.step.Step.{Step}
use Rattle.px_event.specs.declared.step.Step.TheVariants as steps
use Rattle.px_event.specs.Layer.{Move, Standing}
use Rattle.px_event.specs.Trace.{BeforeEachHeard, Trace}
use Rattle.px_event.specs.View.{View, seen_of}
use Rattle.px_core.specs.declared.router.Router.{Router}
use Rattle.px_core.specs.Answered.{RestsBy}
use Rattle.px_core.specs.Answers.{Answering, AnswererState, Failing, FilesMeaning}
use Rattle.px_core.specs.Calls.{calls, number_end}
use Rattle.px_core.specs.Course.{Change, Course, change}
use Rattle.px_core.specs.Due.{Due}
use Rattle.px_core.specs.Router.{IsNow, RouterStands}
use Rattle.px_core.specs.Run.{AddsBegun, BreaksBegun, IsDueOf, IsFrontOfBegun, Tells, done_of}
use Rattle.px_core.proofs.CourseLemmas.{stands_changed}
use Rattle.px_core.proofs.RouteLemmas.{routes_none}
use Rattle.px_app.specs.declared.operators.Operators.{Operators}
use Rattle.px_app.specs.declared.printing.Printing.{Printing}
use Rattle.px_app.specs.declared.replaying.Replaying.{Replaying}
use Rattle.px_app.specs.declared.saving.Saving.{Saving}
use Rattle.px_app.specs.Operating.{OperatorsStand}
use Rattle.px_app.specs.Over.{ReachesPart, course_from, finished_in, rests_of}
use Rattle.px_app.specs.Replayed.{MayBegin, begun_count}
use Rattle.px_app.specs.Replaying.{ReplaysStand, behind_flows}
use Rattle.px_app.specs.Run.{BreaksOff, ToldNext, ToldOn}
use Rattle.px_app.specs.Saved.{Puts, SavesTo}
use Rattle.px_app.specs.Serving.{Between, BrokeOff, IsSound, Rests, RestsNow}
use Rattle.px_app.specs.Worked.{Worked, all_worked, breaks_begun, one_begun}
use Rattle.px_app.proofs.BesideLemmas.{finished_begun, heard_begun, heard_front, now_beside, operators_begun, peer_beside, rests_begun}
use Rattle.px_app.proofs.ReplayLemmas.{are_of, before_begun, before_front, begun_within, not_begun_yet, now_begun, now_end, replays_front, replays_in_begun, stands_begun, stands_listed}
use Rattle.px_app.proofs.RestLemmas.{before_by, breaks_next, part_more, part_of, reaches_next}
use Rattle.px_app.proofs.StepLemmas.{came_over, files_all, flows_behind, rests_longer, told_of}
use Rattle.px_app.proofs.TurnLemmas.{changed_front}

-- a beginning finishes no flow
begun_done : (trace : Trace) (conv : ℕ) → finished_in (trace ++ steps.Begun conv ∷ []) ≡ finished_in trace
begun_done trace conv = flat_map-append done_of trace (steps.Begun conv ∷ []) ∙ append-nil (finished_in trace)

module _ {C S : Type 0} (standing : Standing C) (awaited : C → Option Ask) (number : C → ℕ) (made_due : C → List Move → List Command)
    (gave : (made state : C) (moves : List Move) (given : List Command) → standing made state moves given → (view : View) → seen_of view given ≡ seen_of view (made_due made moves))
    (grows : (made : C) (moves : List Move) (move : Move) (view : View) → IsPrefixOf (seen_of view (made_due made moves)) (seen_of view (made_due made (moves ++ move ∷ []))))
    (answers : Answering S) (drops : List ℕ → S → S → Type 0) (names : S → List (List ℕ)) (fails : Failing S) (due : Due) where
  module _ {A : Type 0} {state : A → S} (first : AnswererState S) (to : Option SavesTo) {files : FilesMeaning} (router : Router C A) (operators : Operators) (was : Printing) (start before : Option (List ℕ))
      (told : Trace) (conv : ℕ) (r : Rests standing awaited number made_due answers drops names state due first to files router operators was start before false told) where
    abbrev course : Course S
    course = course_from first r.changes r.operations

    -- what is told finishes the same flows
    done_same : (more : List Step) → finished_in ((told ++ steps.Begun conv ∷ []) ++ more) ≡ finished_in ((r.trace ++ steps.Begun conv ∷ []) ++ more)
    done_same more =
        finished_begun told conv more ∙ (ap (λ (l : List Flow). l ++ finished_in more) r.same_done ∙ sym (finished_begun r.trace conv more))

    module _ {mid_files : FilesMeaning} (new_files : FilesMeaning) (new : Router C A) (new_operators : Operators) (heard after : Option Trace) (earlier flows : List Flow)
        (a : AddsBegun (RouterStands standing awaited number made_due answers state due course mid_files new) conv r.trace heard after)
        (same_operators : new_operators ≡ operators) (is_told : heard ≡ Some told) (is_earlier : earlier ≡ finished_in told)
        (finished : Tells (λ told_now. earlier ++ flows ≡ flat_map done_of told_now) told after) where
      abbrev told_after : Trace
      told_after = (told ++ steps.Begun conv ∷ []) ++ a.more

      abbrev next : Trace
      next = (r.trace ++ steps.Begun conv ∷ []) ++ a.more

      abbrev old_state : AnswererState S
      old_state = record { own = state new.answerer; files = mid_files }

      abbrev new_state : AnswererState S
      new_state = record { own = state new.answerer; files = new_files }

      abbrev all_changes : List (Change S)
      all_changes = r.changes ++ change next old_state new_state ∷ []

      abbrev all_course : Course S
      all_course = course_from first all_changes r.operations

      told_is : after ≡ Some told_after
      told_is = a.tells told is_told

      all_done : earlier ++ flows ≡ finished_in told_after
      all_done = told_of (λ told_now. earlier ++ flows ≡ flat_map done_of told_now) told told_after after told_is finished

      flows_are : flows ≡ finished_in a.more
      flows_are = flows_behind told a.more (steps.Begun conv) earlier flows (begun_done told conv) is_earlier all_done

      finished_next : finished_in r.trace ++ flows ≡ finished_in next
      finished_next = ap (λ (l : List Flow). finished_in r.trace ++ l) flows_are ∙ sym (finished_begun r.trace conv a.more)

      stands_next : RouterStands standing awaited number made_due answers state due all_course new_files new next
      stands_next = stands_changed standing awaited number made_due answers due course old_state new_state new.table next a.holds

      worked_next : Worked answers drops names due first told_after next all_course false
      worked_next = one_begun told told_after r.trace next course all_course conv a.more old_state new_state r.worked a.own refl refl refl refl

      waits_after : BeforeEachHeard (RestsBy answers due all_course) next
      waits_after =
          before_begun (RestsBy answers due all_course) r.trace conv a.more (are_of conv a.more a.own)
          (before_by (RestsBy answers due course) (RestsBy answers due all_course) r.trace
          (λ prefix h. rests_longer answers due course all_course prefix (changed_front drops course all_course next old_state new_state refl) h) r.waits)

      operators_after : OperatorsStand new_operators next
      operators_after = let P : Operators → Type 0 = λ o. OperatorsStand o next in subst P (sym same_operators) (operators_begun operators r.trace conv a.more a.own (r.operators_stand refl))

      -- the flows that it finished were printed and saved
      rests_after : (is : Printing) (now : Option (List ℕ)) → Puts to was flows (Ok is) mid_files new_files before now →
          Rests standing awaited number made_due answers drops names state due first to new_files new new_operators is start now false told_after
      rests_after is now puts = record {
        trace = next;
        changes = all_changes;
        operations = r.operations;
        made = r.made ++ puts.made;
        stands = stands_next;
        worked = worked_next;
        waits = waits_after;
        operators_stand = λ _. operators_after;
        same_done = done_same a.more;
        reaches = reaches_next to r.changes r.made r.trace next flows start before now old_state new_state refl finished_next (rests_begun r.trace conv a.more a.own) was is r.reaches puts;
      }

      pub begin_on : (replaying going new_replaying : Replaying) (total moment : ℕ) (listed : List Flow) → ReplaysStand replaying total told → MayBegin total told conv →
          going.begun ≡ replaying.begun + 1 → going.going ≡ true → IsNow moment told → new_replaying ≡ behind_flows listed going → listed ≡ flows → (is : Printing) (now : Option (List ℕ)) →
          Puts to was flows (Ok is) mid_files new_files before now →
          ToldOn (RestsNow standing awaited number made_due answers drops names state due first to new_files new new_operators is new_replaying total start now false moment) told after
      begin_on replaying going new_replaying total moment listed stands may one goes at_moment behind same is now puts = record {
        after = told_after;
        tells = told_is;
        count = heard_begun told conv a.more a.own;
        holds = record {
          rests = rests_after is now puts;
          replays = stands_listed total going new_replaying listed flows told_after behind same
              (stands_begun total replaying going told conv a.more flows (are_of conv a.more a.own) flows_are may stands one goes);
          is_now = now_begun moment told conv a.more (are_of conv a.more a.own) at_moment;
        };
      }

      -- memory ran out while they were printed and saved
      breaks_after : (e : OutOfMemory) (now : Option (List ℕ)) → Puts to was flows (Err e) mid_files new_files before now → BreaksOff answers drops names fails due first to new_files start now told_after
      breaks_after e now puts = record {
        trace = next;
        changes = all_changes;
        operations = r.operations;
        made = r.made ++ puts.made;
        worked = all_worked told_after next all_course false worked_next;
        served = stands_next.served;
        follows = came_over standing awaited number made_due gave grows answers drops names fails due stands_next;
        leaves = files_all standing awaited number made_due gave grows answers drops names fails due stands_next ⊥;
        waits = waits_after;
        part = breaks_next to r.changes r.made r.trace next flows start before now old_state new_state refl finished_next (rests_begun r.trace conv a.more a.own) was e r.reaches puts;
      }

      pub begin_breaks : (replaying : Replaying) (total : ℕ) → ReplaysStand replaying total told → MayBegin total told conv → (e : OutOfMemory) (now : Option (List ℕ)) →
          Puts to was flows (Err e) mid_files new_files before now → ToldOn (BrokeOff answers drops names fails due first to new_files total start now) told after
      begin_breaks replaying total stands may e now puts = record {
        after = told_after;
        tells = told_is;
        count = heard_begun told conv a.more a.own;
        holds = record { breaks = breaks_after e now puts; replays = replays_in_begun total replaying told conv a.more a.own may stands };
      }

    -- memory ran out within it: nothing of it was printed
    part_front : (more : List Step) → IsFrontOfBegun conv more → ReachesPart to r.changes r.made (r.trace ++ more) start before
    part_front [] own =
        let P : Trace → Type 0 = λ t. ReachesPart to r.changes r.made t start before in
        subst P (sym (append-nil r.trace)) (part_of to was r.changes r.made r.trace start before r.reaches)
    part_front (step ∷ more) (is, own) =
        let P : Step → Type 0 = λ s. ReachesPart to r.changes r.made (r.trace ++ s ∷ more) start before in
        let Q : Trace → Type 0 = λ t. rests_of t ≡ rests_of r.trace ++ t ∷ [] in
        subst P (sym is)
        (part_more to was r.changes r.made r.trace (steps.Begun conv ∷ more) (r.trace ++ steps.Begun conv ∷ more) start before r.reaches refl
        (subst Q (append_assoc r.trace (steps.Begun conv ∷ []) more) (rests_begun r.trace conv more own)))

    pub begin_within : {new_files : FilesMeaning} (replaying : Replaying) (total : ℕ) → ReplaysStand replaying total told → MayBegin total told conv → (now : Option (List ℕ)) (after : Option Trace) → now ≡ before →
        BreaksBegun answers fails due course conv r.trace told after new_files → ToldOn (BrokeOff answers drops names fails due first to new_files total start now) told after
    begin_within {new_files} replaying total stands may now after same b =
        let Part : Option (List ℕ) → Type 0 = λ o. ReachesPart to r.changes r.made (r.trace ++ b.more) start o in
        record {
          after = told ++ b.more;
          tells = b.is;
          count = heard_front told conv b.more b.own;
          holds = record {
            breaks = record {
              trace = r.trace ++ b.more;
              changes = r.changes;
              operations = r.operations;
              made = r.made;
              worked = breaks_begun told (told ++ b.more) r.trace (r.trace ++ b.more) course conv b.more r.worked b.own refl refl;
              served = b.served;
              follows = b.follows;
              leaves = b.leaves;
              waits = before_front (RestsBy answers due course) r.trace conv b.more b.own r.waits;
              part = subst Part (sym same) (part_front b.more b.own);
            };
            replays = replays_front total replaying told conv b.more b.own may stands;
          };
        }

  -- ---- it stands for something

  -- the end of what is heard is no conversation's
  end_stands : {A : Type 0} (state : A → S) (course : Course S) (files : FilesMeaning) (router : Router C A) (trace : Trace) (moment : ℕ) →
      RouterStands standing awaited number made_due answers state due course files router trace →
      RouterStands standing awaited number made_due answers state due course files router (trace ++ steps.Heard moment heard.End ∷ [])
  end_stands state course files router trace moment stands =
      let there : Trace = trace ++ steps.Heard moment heard.End ∷ [] in
      let now : AnswererState S = record { own = state router.answerer; files = files } in
      let P : Trace → Type 0 = λ t. RouterStands standing awaited number made_due answers state due course files router t in
      let routes = routes_none standing awaited number made_due gave grows answers moment heard.End router.table {state = now} [] refl in
      subst P (ap (λ l. there ++ l) (routes.none refl).0 ∙ append-nil there) (routes.stands due course trace stands)

  -- ---- the next one

  module _ {A : Type 0} {state : A → S} {first : AnswererState S} {to : Option SavesTo} {files : FilesMeaning} {router : Router C A} {operators : Operators} {was : Printing} {start now : Option (List ℕ)} {told : Trace}
      {replaying : Replaying} {total moment : ℕ} (n : RestsNow standing awaited number made_due answers drops names state due first to files router operators was replaying total start now false moment told) where
    -- the moment is that of what the router heard last
    pub now_of : IsNow moment n.rests.trace
    now_of = now_beside answers drops names due first moment told n.rests.trace (course_from first n.rests.changes n.rests.operations) false n.rests.worked n.is_now

    -- it may begin
    pub may_begin : (index conv : ℕ) → conv ≡ number_end + index → index < total → index ≡ replaying.begun → replaying.going ≡ false → MayBegin total told conv
    may_begin index conv is less same stopped =
        let begun : index ≡ begun_count told = same ∙ n.replays.begun in
        let P : ℕ → Type 0 = λ k. k < total in
        record { number = is ∙ ap (λ (k : ℕ). number_end + k) begun; left = subst P begun less; finished = sym n.replays.going ∙ stopped }

    behind : (end index begun conv : ℕ) → conv ≡ end + index → index ≡ begun → end + begun ≤ conv
    behind end index begun conv is same = omega (arith, is, same)

    -- its number has begun nothing
    pub is_fresh : (index conv : ℕ) → conv ≡ number_end + index → index ≡ replaying.begun → (known : Bool) → known ≡ is_some (calls conv n.rests.trace).peer → known ≡ true → ⊥
    is_fresh index conv is same known by was =
        let free = not_begun_yet total told n.replays.in_turn conv (behind number_end index (begun_count told) conv is (same ∙ n.replays.begun)) in
        let none : (calls conv n.rests.trace).peer ≡ None =
        sym (peer_beside answers drops names due first told n.rests.trace (course_from first n.rests.changes n.rests.operations) false n.rests.worked conv) ∙ free in
        let no : true ≡ false = sym was ∙ (by ∙ ap is_some none) in
        absurd (cc)

    -- ---- between two things heard

    -- one is on its way
    pub between_going : replaying.going ≡ true →
        Between standing awaited number made_due answers drops names state due first to files router operators was replaying total start now told
    between_going goes = record { rests = n.rests; replays = n.replays; goes = inr (sym n.replays.going ∙ goes) }

    all_begun : (begun count : ℕ) → begun ≤ count → count ≤ begun → begun ≡ count
    all_begun begun count a b = omega (arith, a, b)

    -- all have begun
    pub between_all : total ≤ replaying.begun → Between standing awaited number made_due answers drops names state due first to files router operators was replaying total start now told
    between_all most =
        let P : ℕ → Type 0 = λ k. total ≤ k in
        record { rests = n.rests; replays = n.replays; goes = inl (all_begun (begun_count told) total (begun_within total told n.replays.in_turn) (subst P n.replays.begun most)) }

-- behind a beginning the router stands for something
pub begun_sound : {C : Type 0} (standing : Standing C) (awaited : C → Option Ask) (number : C → ℕ) (made_due : C → List Move → List Command)
    (gave : (made state : C) (moves : List Move) (given : List Command) → standing made state moves given → (view : View) → seen_of view given ≡ seen_of view (made_due made moves))
    (grows : (made : C) (moves : List Move) (move : Move) (view : View) → IsPrefixOf (seen_of view (made_due made moves)) (seen_of view (made_due made (moves ++ move ∷ []))))
    {S : Type 0} (answers : Answering S) (drops : List ℕ → S → S → Type 0) (names : S → List (List ℕ)) (fails : Failing S) {A : Type 0} (state : A → S) (made new_made : Due) (old_files new_files : FilesMeaning)
    (router new : Router C A) (moment conv : ℕ) (net now : Option Trace) → IsSound standing awaited number made_due answers drops names state made old_files router →
    ((due : Due) (course : Course S) (trace : Trace) → IsDueOf made due → RouterStands standing awaited number made_due answers state due course old_files router trace → IsNow moment trace →
    AddsBegun (RouterStands standing awaited number made_due answers state due course new_files new) conv trace net now) →
    ((n : ℕ) (at : Option Address) (moves : List Move) → new_made n at moves ≡ made n at moves) → IsSound standing awaited number made_due answers drops names state new_made new_files new
begun_sound standing awaited number made_due gave grows answers drops names fails state made new_made old_files new_files router new moment conv net now (due, course, trace, owes, stands) begin same =
    let there : Trace = trace ++ steps.Heard moment heard.End ∷ [] in
    let adds = begin due course there owes (end_stands standing awaited number made_due gave grows answers drops names fails due state course old_files router trace moment stands) (now_end moment trace) in
    (due, course, (there ++ steps.Begun conv ∷ []) ++ adds.more, (λ n at moves. same n at moves ∙ owes n at moves), adds.holds)

-- ---- from one to the next

-- it stays a trace that is told with nothing heard
pub on_none : (P : Trace → Type 0) (trace : Trace) (told : Option Trace) → told ≡ Some trace → P trace → ToldOn P trace told
on_none P trace told is h = record { after = trace; tells = is; count = refl; holds = h }

-- where flows are saved stays, and so does how many requests are sent again
pub by_saving : (P : Option Saving → ℕ → Type 0) {here there : Option Saving} {few total : ℕ} → here ≡ there → few ≡ total → P here few → P there total
by_saving P {here} {there} {few} {total} same same_total p = subst (λ (n : ℕ). P there n) same_total (subst (λ (s : Option Saving). P s few) same p)

-- one more has begun
pub on_next : (P Q : Trace → Type 0) (R : Type 0) (trace : Trace) (told last : Option Trace) → (on : ToldOn P trace told) → ((between : Trace) → P between → told ≡ Some between → ToldOn Q between last × R) →
    ToldOn Q trace last × R
on_next P Q R trace told last on step =
    let next = step on.after on.holds on.tells in
    (record { after = next.0.after; tells = next.0.tells; count = next.0.count ∙ on.count; holds = next.0.holds }, next.1)

pub on_behind : (P Q : Trace → Type 0) (trace : Trace) (told last : Option Trace) → (on : ToldOn P trace told) → ((between : Trace) → P between → told ≡ Some between → ToldOn Q between last) → ToldOn Q trace last
on_behind P Q trace told last on step =
    let next = step on.after on.holds on.tells in
    record { after = next.after; tells = next.tells; count = next.count ∙ on.count; holds = next.holds }

pub on_by : (P Q : Trace → Type 0) (trace : Trace) (told : Option Trace) → ((after : Trace) → P after → Q after) → ToldOn P trace told → ToldOn Q trace told
on_by P Q trace told f on = record { after = on.after; tells = on.tells; count = on.count; holds = f on.after on.holds }

-- behind something heard requests begin that waited to be sent again
pub goes_begun : (P Q : Trace → Type 0) (trace : Trace) (told after : Option Trace) → (next : ToldNext P trace told) → ((between : Trace) → P between → told ≡ Some between → ToldOn Q between after) → ToldNext Q trace after
goes_begun P Q trace told after next begin =
    let on = begin next.after next.holds next.tells in
    record { after = on.after; tells = on.tells; count = on.count ∙ next.count; holds = on.holds }
