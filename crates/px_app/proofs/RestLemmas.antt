-- Where a trace rests, one thing further that is heard or begins; and what is printed and saved there.
use Rattle.std.proofs.Common.{◌≡◌, ℕ, List, [], ◌∷◌, ◌++◌, Option, Ok, Err, refl, sym, ap, ◌∙◌, subst, append_assoc}
use Rattle.std.proofs.lemmas.List.{append-nil}
use Rattle.px_text.specs.declared.no_memory.NoMemory.{NoMemory}
use Rattle.px_message.specs.declared.flow.Flow.{Flow}
use Rattle.px_event.specs.declared.heard.Heard.{Heard}
use Rattle.px_event.specs.declared.step.Step.{Step}
use Rattle.px_event.specs.declared.step.Step.TheVariants as steps
use Rattle.px_event.specs.Trace.{BeforeEachHeard, Trace}
use Rattle.px_event.proofs.TraceLemmas.{before_heard, before_other}
use Rattle.px_outside.specs.Sink.{WritesPart}
use Rattle.px_core.specs.Answers.{AnswererState}
use Rattle.px_core.specs.Course.{AllAre, Change, change}
use Rattle.px_core.proofs.CourseLemmas.{same_state}
use Rattle.px_app.specs.Listed.{listed}
use Rattle.px_app.specs.Over.{Reaches, ReachesPart, SavedOver, nothing_yet, all_saved, drops_one, is_cut, is_broken, stays_cut, finished_in, rests, rests_of}
use Rattle.px_app.specs.Saved.{Broke, Came, Puts, SavesTo}
use Rattle.px_words.specs.Appends.{Append}
use Rattle.px_app.specs.declared.printing.Printing.{Printing}
use Rattle.px_app.specs.declared.printing.Printing.TheVariants.{Whole, Failed}
use Rattle.px_app.proofs.ListedLemmas.{listed_more}
use Rattle.px_words.proofs.PrintLemmas.{part_longer}
use Rattle.px_app.proofs.SavedLemmas.{came_none, came_part, came_put, not_ok, same_printing}
use Rattle.px_app.proofs.TurnLemmas.{IsDrop, NoneHeard}

rests_quiet : (prefix more : Trace) → NoneHeard more → rests prefix more ≡ (prefix ++ more) ∷ []
rests_quiet prefix [] none = ap (λ t. t ∷ []) (sym (append-nil prefix))
rests_quiet prefix (steps.Heard moment what ∷ more) none = absurd none
rests_quiet prefix (steps.Begun conv ∷ more) none = absurd none
rests_quiet prefix (steps.Asked number ask ∷ more) none = rests_quiet (prefix ++ steps.Asked number ask ∷ []) more none ∙ ap (λ t. t ∷ []) (append_assoc prefix (steps.Asked number ask ∷ []) more)
rests_quiet prefix (steps.Answered number ask reply ∷ more) none =
    rests_quiet (prefix ++ steps.Answered number ask reply ∷ []) more none ∙ ap (λ t. t ∷ []) (append_assoc prefix (steps.Answered number ask reply ∷ []) more)
rests_quiet prefix (steps.Said number what ∷ more) none = rests_quiet (prefix ++ steps.Said number what ∷ []) more none ∙ ap (λ t. t ∷ []) (append_assoc prefix (steps.Said number what ∷ []) more)
rests_quiet prefix (steps.Done flow ∷ more) none = rests_quiet (prefix ++ steps.Done flow ∷ []) more none ∙ ap (λ t. t ∷ []) (append_assoc prefix (steps.Done flow ∷ []) more)

-- it comes first behind a rest: something heard, or a conversation that begins
abbrev pub IsFirst : Step → Type 0
IsFirst step = (prefix rest : Trace) → rests prefix (step ∷ rest) ≡ prefix ∷ rests (prefix ++ step ∷ []) rest

one_on : (prefix : Trace) (step : Step) (trace : Trace) (first : Step) (more : Trace) →
    rests (prefix ++ step ∷ []) (trace ++ first ∷ more) ≡ rests (prefix ++ step ∷ []) trace ++ (((prefix ++ step ∷ []) ++ trace) ++ first ∷ more) ∷ [] →
    rests (prefix ++ step ∷ []) (trace ++ first ∷ more) ≡ rests (prefix ++ step ∷ []) trace ++ ((prefix ++ step ∷ trace) ++ first ∷ more) ∷ []
one_on prefix step trace first more is = is ∙ ap (λ t. rests (prefix ++ step ∷ []) trace ++ (t ++ first ∷ more) ∷ []) (append_assoc prefix (step ∷ []) trace)

-- one thing that comes first behind a trace
rests_on : (prefix trace : Trace) (first : Step) (more : Trace) → IsFirst first → NoneHeard more → rests prefix (trace ++ first ∷ more) ≡ rests prefix trace ++ ((prefix ++ trace) ++ first ∷ more) ∷ []
rests_on prefix [] first more is none =
    is prefix more
    ∙ ap (λ l. prefix ∷ l) (rests_quiet (prefix ++ first ∷ []) more none ∙ ap (λ t. t ∷ []) (append_assoc prefix (first ∷ []) more ∙ ap (λ t. t ++ first ∷ more) (sym (append-nil prefix))))
rests_on prefix (steps.Heard other heard ∷ trace) first more is none =
    ap (λ l. prefix ∷ l) (one_on prefix (steps.Heard other heard) trace first more (rests_on (prefix ++ steps.Heard other heard ∷ []) trace first more is none))
rests_on prefix (steps.Begun conv ∷ trace) first more is none = ap (λ l. prefix ∷ l) (one_on prefix (steps.Begun conv) trace first more (rests_on (prefix ++ steps.Begun conv ∷ []) trace first more is none))
rests_on prefix (steps.Asked number ask ∷ trace) first more is none = one_on prefix (steps.Asked number ask) trace first more (rests_on (prefix ++ steps.Asked number ask ∷ []) trace first more is none)
rests_on prefix (steps.Answered number ask reply ∷ trace) first more is none =
    one_on prefix (steps.Answered number ask reply) trace first more (rests_on (prefix ++ steps.Answered number ask reply ∷ []) trace first more is none)
rests_on prefix (steps.Said number said ∷ trace) first more is none = one_on prefix (steps.Said number said) trace first more (rests_on (prefix ++ steps.Said number said ∷ []) trace first more is none)
rests_on prefix (steps.Done flow ∷ trace) first more is none = one_on prefix (steps.Done flow) trace first more (rests_on (prefix ++ steps.Done flow ∷ []) trace first more is none)

rests_of_more : (trace : Trace) (first : Step) (more : Trace) → IsFirst first → NoneHeard more → rests_of (trace ++ first ∷ more) ≡ rests_of trace ++ (trace ++ first ∷ more) ∷ []
rests_of_more [] first more is none = rests_quiet (first ∷ []) more none
rests_of_more (step ∷ trace) first more is none = rests_on (step ∷ []) trace first more is none

-- the trace that is told is one rest further
pub rests_first : (trace : Trace) (first : Step) (more : Trace) → IsFirst first → NoneHeard more → rests_of ((trace ++ first ∷ []) ++ more) ≡ rests_of trace ++ ((trace ++ first ∷ []) ++ more) ∷ []
rests_first trace first more is none =
    let P : Trace → Type 0 = λ t. rests_of t ≡ rests_of trace ++ t ∷ [] in
    subst P (sym (append_assoc trace (first ∷ []) more)) (rests_of_more trace first more is none)

pub rests_next : (trace : Trace) (moment : ℕ) (what : Heard) (more : Trace) → NoneHeard more →
    rests_of ((trace ++ steps.Heard moment what ∷ []) ++ more) ≡ rests_of trace ++ ((trace ++ steps.Heard moment what ∷ []) ++ more) ∷ []
rests_next trace moment what more none = rests_first trace (steps.Heard moment what) more (λ prefix rest. refl) none

-- ---- before each thing heard

-- steps in which nothing is heard
before_on : (P : Trace → Type 0) (trace : Trace) (step : Step) (more : Trace) → BeforeEachHeard P ((trace ++ step ∷ []) ++ more) → BeforeEachHeard P (trace ++ step ∷ more)
before_on P trace step more before = let Q : Trace → Type 0 = BeforeEachHeard P in subst Q (append_assoc trace (step ∷ []) more) before

pub before_quiet : (P : Trace → Type 0) (trace more : Trace) → NoneHeard more → BeforeEachHeard P trace → BeforeEachHeard P (trace ++ more)
before_quiet P trace [] none before = let Q : Trace → Type 0 = BeforeEachHeard P in subst Q (sym (append-nil trace)) before
before_quiet P trace (steps.Heard moment what ∷ more) none before = absurd none
before_quiet P trace (steps.Begun conv ∷ more) none before = absurd none
before_quiet P trace (steps.Asked number ask ∷ more) none before =
    before_on P trace (steps.Asked number ask) more (before_quiet P (trace ++ steps.Asked number ask ∷ []) more none
    (before_other P trace (steps.Asked number ask) (λ m h (is : steps.Asked number ask ≡ steps.Heard m h). absurd (cc)) before))
before_quiet P trace (steps.Answered number ask reply ∷ more) none before =
    before_on P trace (steps.Answered number ask reply) more (before_quiet P (trace ++ steps.Answered number ask reply ∷ []) more none
    (before_other P trace (steps.Answered number ask reply) (λ m h (is : steps.Answered number ask reply ≡ steps.Heard m h). absurd (cc)) before))
before_quiet P trace (steps.Said number what ∷ more) none before =
    before_on P trace (steps.Said number what) more (before_quiet P (trace ++ steps.Said number what ∷ []) more none
    (before_other P trace (steps.Said number what) (λ m h (is : steps.Said number what ≡ steps.Heard m h). absurd (cc)) before))
before_quiet P trace (steps.Done flow ∷ more) none before =
    before_on P trace (steps.Done flow) more (before_quiet P (trace ++ steps.Done flow ∷ []) more none
    (before_other P trace (steps.Done flow) (λ m h (is : steps.Done flow ≡ steps.Heard m h). absurd (cc)) before))

-- the trace is one thing heard further
pub before_next : (P : Trace → Type 0) (trace : Trace) (moment : ℕ) (what : Heard) (more next : Trace) → next ≡ (trace ++ steps.Heard moment what ∷ []) ++ more → NoneHeard more →
    BeforeEachHeard P trace → P trace → BeforeEachHeard P next
before_next P trace moment what more next is none before here =
    let Q : Trace → Type 0 = BeforeEachHeard P in
    subst Q (sym is) (before_quiet P (trace ++ steps.Heard moment what ∷ []) more none (before_heard P trace moment what before here))

pub before_by : (P Q : Trace → Type 0) (trace : Trace) → ((prefix : Trace) → P prefix → Q prefix) → BeforeEachHeard P trace → BeforeEachHeard Q trace
before_by P Q trace f before = record { at = λ prefix rest moment heard e. f prefix (before.at prefix rest moment heard e) }

-- ---- what is printed and saved

-- nothing was heard
pub reaches_first : {S : Type 0} (to : Option SavesTo) (start : Option (List ℕ)) → Reaches {S = S} to Whole [] [] [] start start
reaches_first to start = record { placed = []; saved_so = nothing_yet; at_rests = refl; came = came_none to start }

-- addons were taken away
saved_drops : {S : Type 0} (drops : List ℕ → S → S → Type 0) (to : Option SavesTo) (reached : Printing) (changes dropped : List (Change S)) (placed : List Trace) (made : List Append) →
    SavedOver to reached changes placed made → AllAre (IsDrop drops) dropped → SavedOver to reached (changes ++ dropped) placed made
saved_drops {S} drops to reached changes [] placed made so all =
    let P : List (Change S) → Type 0 = λ l. SavedOver to reached l placed made in subst P (sym (append-nil changes)) so
saved_drops {S} drops to reached changes (one ∷ dropped) placed made so (is, all) =
    let P : List (Change S) → Type 0 = λ l. SavedOver to reached l placed made in
    subst P (append_assoc changes (one ∷ []) dropped)
    (saved_drops drops to reached (changes ++ one ∷ []) dropped placed made (drops_one reached changes (changes ++ one ∷ []) placed one made so is.files refl) all)

pub reaches_drops : {S : Type 0} (drops : List ℕ → S → S → Type 0) (to : Option SavesTo) (reached : Printing) (changes dropped : List (Change S)) (made : List Append) (trace : Trace) (start now : Option (List ℕ)) →
    Reaches to reached changes made trace start now → AllAre (IsDrop drops) dropped → Reaches to reached (changes ++ dropped) made trace start now
reaches_drops drops to reached changes dropped made trace start now r all =
    record { placed = r.placed; saved_so = saved_drops drops to reached changes dropped r.placed made r.saved_so all; at_rests = r.at_rests; came = r.came }

module _ {S : Type 0} (to : Option SavesTo) (changes : List (Change S)) (made : List Append) (trace after : Trace) (flows : List Flow) (start before now : Option (List ℕ)) (old new : AnswererState S)
    (own : new.own ≡ old.own) (finished : finished_in trace ++ flows ≡ finished_in after) (rest : rests_of after ≡ rests_of trace ++ after ∷ []) where
  abbrev pub next_changes : List (Change S)
  next_changes = changes ++ change after old new ∷ []

  saved_by : (was is : Printing) (placed : List Trace) → SavedOver to was changes placed made → Came was to (finished_in trace) start before made →
      (puts : Puts to was flows (Ok is) old.files new.files before now) → Came is to (finished_in after) start now (made ++ puts.made) → SavedOver to is next_changes (placed ++ after ∷ []) (made ++ puts.made)
  saved_by Whole Whole placed so came puts all =
      all_saved changes next_changes placed (placed ++ after ∷ []) (change after old new) made puts.made (made ++ puts.made) so own puts.appends refl all.1 refl refl
  saved_by Whole Failed placed so came puts cut =
      is_cut changes next_changes placed (placed ++ after ∷ []) (change after old new) made puts.made (made ++ puts.made) so own puts.appends refl
      (came_put Failed to (finished_in after) start now (made ++ puts.made) cut) refl refl
  saved_by Failed is placed so came puts cut =
      let still = puts.still refl in
      let P : Printing → Type 0 = λ p. SavedOver to p next_changes (placed ++ after ∷ []) (made ++ puts.made) in
      let Q : List Append → Type 0 = λ l. SavedOver to Failed next_changes (placed ++ after ∷ []) l in
      subst P (sym (same_printing is Failed still.0))
      (subst Q (sym (ap (λ l. made ++ l) still.1 ∙ append-nil made)) (stays_cut changes next_changes placed (placed ++ after ∷ []) (change after old new) made so (same_state new old own still.2) refl refl))

  placed_next : (placed : List Trace) → placed ≡ rests_of trace → placed ++ after ∷ [] ≡ rests_of after
  placed_next placed at_rests = ap (λ l. l ++ after ∷ []) at_rests ∙ sym rest

  pub reaches_next : (was is : Printing) → Reaches to was changes made trace start before → (puts : Puts to was flows (Ok is) old.files new.files before now) →
      Reaches to is next_changes (made ++ puts.made) after start now
  reaches_next was is r puts =
      let P : List Flow → Type 0 = λ l. Came is to l start now (made ++ puts.made) in
      let came = subst P finished (puts.goes start (finished_in trace) made r.came) in
      record { placed = r.placed ++ after ∷ []; saved_so = saved_by was is r.placed r.saved_so r.came puts came; at_rests = placed_next r.placed r.at_rests; came = came }

  -- memory ran out while they were printed and saved
  pub breaks_next : (was : Printing) (e : NoMemory) → Reaches to was changes made trace start before → (puts : Puts to was flows (Err e) old.files new.files before now) →
      ReachesPart to next_changes (made ++ puts.made) after start now
  breaks_next Failed e r puts = absurd (not_ok e Failed (puts.still refl).0)
  breaks_next Whole e r puts =
      let P : List Flow → Type 0 = λ l. Broke to l start now (made ++ puts.made) in
      let broke = subst P finished (puts.goes start (finished_in trace) made r.came) in
      record {
        reached = Failed;
        placed = r.placed ++ after ∷ [];
        saved_so = is_broken changes next_changes r.placed (r.placed ++ after ∷ []) (change after old new) made puts.made (made ++ puts.made) r.saved_so own puts.appends refl broke.put_so_far refl refl;
        later = [];
        at_rests = sym (placed_next r.placed r.at_rests) ∙ sym (append-nil (r.placed ++ after ∷ []));
        part = broke.printed;
      }

-- at a rest all of that is said
pub part_of : {S : Type 0} (to : Option SavesTo) (reached : Printing) (changes : List (Change S)) (made : List Append) (trace : Trace) (start now : Option (List ℕ)) →
    Reaches to reached changes made trace start now → ReachesPart to changes made trace start now
part_of to reached changes made trace start now r = record {
  reached = reached;
  placed = r.placed;
  saved_so = r.saved_so;
  later = [];
  at_rests = sym r.at_rests ∙ sym (append-nil r.placed);
  part = came_part reached to (finished_in trace) start now made r.came;
}

-- and where more was heard, of which nothing was printed
pub part_more : {S : Type 0} (to : Option SavesTo) (reached : Printing) (changes : List (Change S)) (made : List Append) (trace more after : Trace) (start now : Option (List ℕ)) →
    Reaches to reached changes made trace start now → after ≡ trace ++ more → rests_of after ≡ rests_of trace ++ after ∷ [] → ReachesPart to changes made after start now
part_more to reached changes made trace more after start now r is rest =
    let P : List ℕ → Type 0 = λ l. WritesPart l start now in
    record {
      reached = reached;
      placed = r.placed;
      saved_so = r.saved_so;
      later = after ∷ [];
      at_rests = rest ∙ ap (λ l. l ++ after ∷ []) (sym r.at_rests);
      part = subst P (sym (ap listed is ∙ listed_more trace more))
          (part_longer (listed trace) (listed more) start now (came_part reached to (finished_in trace) start now made r.came));
    }
