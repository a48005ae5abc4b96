-- What one thing heard adds to a run: to what is told, to the steps of conversations, and to the course.
use Rattle.std.proofs.Common.{◌≡◌, ℕ, Bool, List, [], ◌∷◌, ◌++◌, Option, Some, None, refl, sym, ap, ◌∙◌, subst, append_assoc}
use Rattle.std.proofs.lemmas.List.{append-nil}
use Rattle.std.specs.List.{flat_map}
use Rattle.px_message.specs.declared.flow.Flow.{Flow}
use Rattle.px_event.specs.declared.heard.Heard.{Heard}
use Rattle.px_event.specs.declared.said.Said.{Said}
use Rattle.px_event.specs.declared.said.Said.TheVariants as said
use Rattle.px_event.specs.declared.side.Side.TheVariants.{Client}
use Rattle.px_event.specs.declared.step.Step.{Step}
use Rattle.px_event.specs.declared.step.Step.TheVariants as steps
use Rattle.px_event.specs.Trace.{Trace}
use Rattle.px_core.specs.declared.news.News.{News}
use Rattle.px_core.specs.declared.operation.Operation.{Operation}
use Rattle.px_core.specs.declared.operation.Operation.TheVariants as operations
use Rattle.px_core.specs.Answers.{Answering, AnswererState}
use Rattle.px_core.specs.Calls.{addressed}
use Rattle.px_core.specs.Course.{AllAre, Change, Course, IsFrontOf, change, operated, with_change, with_operation}
use Rattle.px_core.specs.Due.{Due}
use Rattle.px_core.specs.Held.{AllOf}
use Rattle.px_core.specs.Router.{AllOfAny, MovesBy, caused_in, operated_on}
use Rattle.px_core.specs.Run.{IsOfHeard, done_of}
use Rattle.px_obey.specs.declared.outcome.Outcome.{Outcome}
use Rattle.px_obey.specs.declared.outcome.Outcome.TheVariants.{GoesOn}
use Rattle.px_obey.specs.Obeyed as obeyed
use Rattle.px_obey.specs.Obeyed.{BreaksLine, BreaksLines, Obeys, ObeysAll, ObeysLine, ObeysLines, Point, closed, point, sent}
use Rattle.px_view.specs.declared.command.Order.{Order}
use Rattle.px_view.specs.declared.desk.Line.{Line}
use Rattle.px_app.specs.Operators.{Word, nothing, says, leaves, word_of}
use Rattle.px_app.specs.Worked.{Breaks, Turns, of_conversation, of_operator, of_leaving, in_conversation, in_lines, in_silence}

-- ---- what it says

-- in these steps nothing is heard, and no conversation begins
abbrev pub NoneHeard : Trace → Type 0
NoneHeard [] = Unit {0}
NoneHeard (steps.Heard moment what ∷ rest) = ⊥
NoneHeard (steps.Begun conv ∷ rest) = ⊥
NoneHeard (step ∷ rest) = NoneHeard rest

-- what is said to an operator: a text, or that the connection is closed
abbrev pub IsToOperator : Said → Type 0
IsToOperator (said.Send Client text) = Unit {0}
IsToOperator (said.Close Client) = Unit {0}
IsToOperator _ = ⊥

-- these steps are those, and among them some that are said to this number
pub data Among (conv : ℕ) : List Step → List Step → Type 0 where
  no_steps : Among conv [] []
  same_step : (step : Step) (more added : List Step) → Among conv more added → Among conv (step ∷ more) (step ∷ added)
  said_more : (what : Said) (more added : List Step) → IsToOperator what → Among conv more added → Among conv (steps.Said conv what ∷ more) added

-- whose lines it is, or who leaves
abbrev pub operator_of : Word → Option ℕ
operator_of nothing = None
operator_of (says conv lines) = Some conv
operator_of (leaves conv) = Some conv

-- the steps that are told are those of conversations, and what is said to the operator, where there is one
abbrev pub AmongAny : Option ℕ → List Step → List Step → Type 0
AmongAny None more added = more ≡ added
AmongAny (Some conv) more added = Among conv more added

-- an addon was taken away, and files are as they were
pub record IsDrop {S : Type 0} (drops : List ℕ → S → S → Type 0) (one : Change S) : Type 0 where
  pub name : List ℕ
  pub dropped : drops name one.old.own one.new.own
  pub files : one.new.files ≡ one.old.files

-- a course that goes on from the other by addons that are taken away and by operations on flows
pub record Grows {S : Type 0} (drops : List ℕ → S → S → Type 0) (course turned : Course S) : Type 0 where
  pub front_of : IsFrontOf turned course
  pub all_drops : AllAre (IsDrop drops) front_of.later

-- What is told of one thing heard, what it adds to the steps of conversations, and how the course goes on.
pub record Adds {S : Type 0} (drops : List ℕ → S → S → Type 0) (trace : Trace) (course : Course S) (moment : ℕ) (what : Heard) (more : List Step) (next : Trace) (turned : Course S) : Type 0 where
  pub added : List Step
  pub is_next : next ≡ (trace ++ steps.Heard moment what ∷ []) ++ added
  pub quiet : NoneHeard added
  pub quiet_told : NoneHeard more
  -- of a conversation, only its own
  pub own : word_of trace what ≡ nothing → IsOfHeard what added
  pub among : AmongAny (operator_of (word_of trace what)) more added
  pub same_done : flat_map done_of more ≡ flat_map done_of added
  pub grows : Grows drops course turned

-- ---- steps in which nothing is heard

pub none_of : (conv : ℕ) (more : Trace) → AllOf conv more → NoneHeard more
none_of conv [] all = tt
none_of conv (steps.Heard moment what ∷ more) (here, all) = here
none_of conv (steps.Begun number ∷ more) (here, all) = here
none_of conv (steps.Asked number ask ∷ more) (here, all) = none_of conv more all
none_of conv (steps.Answered number ask reply ∷ more) (here, all) = none_of conv more all
none_of conv (steps.Said number what ∷ more) (here, all) = none_of conv more all
none_of conv (steps.Done flow ∷ more) (here, all) = none_of conv more all

none_by : (a : Option (ℕ × News)) (more : Trace) → ((conv : ℕ) (news : News) → a ≡ Some (conv, news) → AllOf conv more) → (a ≡ None → more ≡ []) → NoneHeard more
none_by None more own none = let P : Trace → Type 0 = NoneHeard in subst P (sym (none refl)) tt
none_by (Some (conv, news)) more own none = none_of conv more (own conv news refl)

pub none_heard : (what : Heard) (more : Trace) → IsOfHeard what more → NoneHeard more
none_heard what more of = none_by (addressed what) more of.own of.none

none_any : (conv : Option ℕ) (more : Trace) → AllOfAny conv more → NoneHeard more
none_any None more all = let P : Trace → Type 0 = NoneHeard in subst P (sym all) tt
none_any (Some conv) more all = none_of conv more all

pub none_more : (list more : Trace) → NoneHeard list → NoneHeard more → NoneHeard (list ++ more)
none_more [] more none after = after
none_more (steps.Heard moment what ∷ list) more none after = absurd none
none_more (steps.Begun conv ∷ list) more none after = absurd none
none_more (steps.Asked number ask ∷ list) more none after = none_more list more none after
none_more (steps.Answered number ask reply ∷ list) more none after = none_more list more none after
none_more (steps.Said number what ∷ list) more none after = none_more list more none after
none_more (steps.Done flow ∷ list) more none after = none_more list more none after

-- ---- steps among which some are said to an operator

among_same : (conv : ℕ) (list : List Step) → Among conv list list
among_same conv [] = no_steps
among_same conv (step ∷ list) = same_step step list list (among_same conv list)

among_more : (conv : ℕ) (more added other other_added : List Step) → Among conv more added → Among conv other other_added → Among conv (more ++ other) (added ++ other_added)
among_more conv more added other other_added no_steps b = b
among_more conv more added other other_added (same_step step list rest a) b = same_step step (list ++ other) (rest ++ other_added) (among_more conv list rest other other_added a b)
among_more conv more added other other_added (said_more what list rest to a) b = said_more what (list ++ other) (rest ++ other_added) to (among_more conv list rest other other_added a b)

among_empty : (conv : Option ℕ) → AmongAny conv [] []
among_empty None = refl
among_empty (Some conv) = no_steps

-- they finish the same flows
among_done : (conv : ℕ) (more added : List Step) → Among conv more added → flat_map done_of more ≡ flat_map done_of added
among_done conv more added no_steps = refl
among_done conv more added (same_step step list rest a) = ap (λ (l : List Flow). done_of step ++ l) (among_done conv list rest a)
among_done conv more added (said_more what list rest to a) = among_done conv list rest a

any_done : (conv : Option ℕ) (more added : List Step) → AmongAny conv more added → flat_map done_of more ≡ flat_map done_of added
any_done None more added same = ap (flat_map done_of) same
any_done (Some conv) more added among = among_done conv more added among

-- ---- a course that goes on

all_more : {S : Type 0} (Is : Change S → Type 0) (list more : List (Change S)) → AllAre Is list → AllAre Is more → AllAre Is (list ++ more)
all_more Is [] more all after = after
all_more Is (one ∷ list) more (here, all) after = (here, all_more Is list more all after)

module _ {S : Type 0} (drops : List ℕ → S → S → Type 0) where
  pub grows_none : (course : Course S) → Grows drops course course
  grows_none course = record {
    front_of = record { same = refl; later = []; split = sym (append-nil course.changes); later_operations = []; split_operations = sym (append-nil course.operations) };
    all_drops = tt;
  }

  pub grows_both : (course mid turned : Course S) → Grows drops course mid → Grows drops mid turned → Grows drops course turned
  grows_both course mid turned a b =
      let early = a.front_of in
      let late = b.front_of in
      record {
        front_of = record {
          same = early.same ∙ late.same;
          later = early.later ++ late.later;
          split = late.split ∙ (ap (λ l. l ++ late.later) early.split ∙ append_assoc course.changes early.later late.later);
          later_operations = early.later_operations ++ late.later_operations;
          split_operations = late.split_operations ∙ (ap (λ l. l ++ late.later_operations) early.split_operations ∙ append_assoc course.operations early.later_operations late.later_operations);
        };
        all_drops = all_more (IsDrop drops) early.later late.later a.all_drops b.all_drops;
      }

  grows_by : (course turned : Course S) (trace : Trace) (operation : Operation) → turned ≡ with_operation course trace operation → Grows drops course turned
  grows_by course turned trace operation is = record {
    front_of = record {
      same = sym (ap (λ c. c.first) is);
      later = [];
      split = ap (λ c. c.changes) is ∙ sym (append-nil course.changes);
      later_operations = operated trace operation ∷ [];
      split_operations = ap (λ c. c.operations) is;
    };
    all_drops = tt;
  }

  pub changed_front : (course turned : Course S) (trace : Trace) (old new : AnswererState S) → turned ≡ with_change course trace old new → IsFrontOf turned course
  changed_front course turned trace old new is = record {
    same = sym (ap (λ c. c.first) is);
    later = change trace old new ∷ [];
    split = ap (λ c. c.changes) is;
    later_operations = [];
    split_operations = ap (λ c. c.operations) is ∙ sym (append-nil course.operations);
  }

  grows_change : (course turned : Course S) (trace : Trace) (name : List ℕ) (old new : AnswererState S) → drops name old.own new.own → new.files ≡ old.files →
      turned ≡ with_change course trace old new → Grows drops course turned
  unfolding changed_front
  grows_change course turned trace name old new dropped files is =
      record { front_of = changed_front course turned trace old new is; all_drops = (record { name = name; dropped = dropped; files = files }, tt) }

  grows_operated : (answers : Answering S) (operation : Operation) (course turned : Course S) (trace : Trace) (old new : AnswererState S) → MovesBy answers drops operation old new →
      turned ≡ operated_on course trace operation old new → Grows drops course turned
  grows_operated answers (operations.DropAddon name) course turned trace old new (dropped, files) is = grows_change course turned trace name old new dropped files is
  grows_operated answers (operations.Resume id) course turned trace old new moves is = grows_by course turned trace (operations.Resume id) is
  grows_operated answers (operations.Kill id) course turned trace old new moves is = grows_by course turned trace (operations.Kill id) is
  grows_operated answers (operations.Edit id edit) course turned trace old new moves is = grows_by course turned trace (operations.Edit id edit) is
  grows_operated answers (operations.Mark id) course turned trace old new moves is = grows_by course turned trace (operations.Mark id) is

-- ---- lines of an operator

-- What lines add behind a point: to what is told, to the steps of conversations, and to the course.
record Leads {S : Type 0} (drops : List ℕ → S → S → Type 0) (conv : ℕ) (first : Point S) (more : List Step) (trace : Trace) (course : Course S) : Type 0 where
  pub added : List Step
  pub is_next : trace ≡ first.trace ++ added
  pub quiet : NoneHeard added
  pub quiet_told : NoneHeard more
  pub among : Among conv more added
  pub grows : Grows drops first.course course

module _ {S : Type 0} (answers : Answering S) (drops : List ℕ → S → S → Type 0) (names : S → List (List ℕ)) (due : Due) (conv : ℕ) where
  leads_none : (at : Point S) → Leads drops conv at [] at.trace at.course
  leads_none at = record { added = []; is_next = sym (append-nil at.trace); quiet = tt; quiet_told = tt; among = no_steps; grows = grows_none drops at.course }

  leads_both : (first at : Point S) (told more all : List Step) (trace : Trace) (course : Course S) → Leads drops conv first told at.trace at.course → Leads drops conv at more trace course → all ≡ told ++ more →
      Leads drops conv first all trace course
  leads_both first at told more all trace course a b is =
      let P : List Step → Type 0 = λ l. Leads drops conv first l trace course in
      subst P (sym is) (record {
        added = a.added ++ b.added;
        is_next = b.is_next ∙ (ap (λ t. t ++ b.added) a.is_next ∙ append_assoc first.trace a.added b.added);
        quiet = none_more a.added b.added a.quiet b.quiet;
        quiet_told = none_more told more a.quiet_told b.quiet_told;
        among = among_more conv told a.added more b.added a.among b.among;
        grows = grows_both drops first.course at.course course a.grows b.grows;
      })

  -- steps of conversations
  leads_own : (at : Point S) (caused : List Step) (trace : Trace) (course : Course S) → trace ≡ at.trace ++ caused → NoneHeard caused → Grows drops at.course course → Leads drops conv at caused trace course
  leads_own at caused trace course is none grows = record { added = caused; is_next = is; quiet = none; quiet_told = none; among = among_same conv caused; grows = grows }

  -- what is said to the operator
  leads_sent : (at : Point S) (text : List ℕ) → Leads drops conv at (sent conv text ∷ []) at.trace at.course
  leads_sent at text = record { added = []; is_next = sym (append-nil at.trace); quiet = tt; quiet_told = tt; among = said_more _ [] [] tt no_steps; grows = grows_none drops at.course }

  leads_closed : (at : Point S) (text : List ℕ) → Leads drops conv at (sent conv text ∷ closed conv ∷ []) at.trace at.course
  leads_closed at text = record {
    added = [];
    is_next = sym (append-nil at.trace);
    quiet = tt;
    quiet_told = tt;
    among = said_more _ (closed conv ∷ []) [] tt (said_more _ [] [] tt no_steps);
    grows = grows_none drops at.course;
  }

  order_leads : (one : Order) (at next : Point S) (caused : List Step) (given : List ℕ) → Obeys answers drops names due one at caused given next → Leads drops conv at caused next.trace next.course
  order_leads one at next caused given (obeyed.lists here list live) = leads_none here
  order_leads one at next caused given (obeyed.shows here id flow live asked) = leads_none here
  order_leads one at next caused given (obeyed.shows_none here id over) = leads_none here
  order_leads one at next caused given (obeyed.gives here id from flow live asked) = leads_none here
  order_leads one at next caused given (obeyed.gives_none here id from over) = leads_none here
  order_leads one at next caused given (obeyed.operates here there operation list none own moves is grown) =
      leads_own here list there.trace there.course is (none_any (caused_in operation) list own) (grows_operated drops answers operation here.course there.course here.trace here.now there.now moves grown)
  order_leads one at next caused given (obeyed.refuses here operation error refused) = leads_none here
  order_leads one at next caused given (obeyed.quits here) = leads_none here

  line_leads : (one : Line) (at next : Point S) (more : List Step) (outcome : Outcome) → ObeysLine answers drops names due conv one at more next outcome → Leads drops conv at more next.trace next.course
  line_leads one at next more outcome (obeyed.by_order text order here there caused given is obeys) =
      leads_both here there caused (sent conv given ∷ []) (caused ++ sent conv given ∷ []) there.trace there.course (order_leads order here there caused given obeys) (leads_sent there given) refl
  line_leads one at next more outcome (obeyed.no_order text error here is) = leads_sent here _
  line_leads one at next more outcome (obeyed.too_long here) = leads_closed here _

  all_lead : (first : Point S) (lines : List Line) (more : List Step) (last : Point S) → ObeysAll answers drops names due conv first lines more last → Leads drops conv first more last.trace last.course
  all_lead first lines more last obeyed.none_obeyed = leads_none first
  all_lead first lines more last (obeyed.one_obeyed before all told next_told steps_of one at next obeys line grown is) =
      leads_both first at told steps_of next_told next.trace next.course (all_lead first before told at obeys) (line_leads one at next steps_of GoesOn line) is

  lines_lead : (first : Point S) (lines : List Line) (more : List Step) (last : Point S) (outcome : Outcome) → ObeysLines answers drops names due conv first lines more last outcome → Leads drops conv first more last.trace last.course
  lines_lead first lines more last outcome (obeyed.all_obeyed told point_there obeys) = all_lead first lines told point_there obeys
  lines_lead first lines more last outcome (obeyed.ended_at front rest one told steps_of next_told at there how split obeys line other is) =
      leads_both first at told steps_of next_told there.trace there.course (all_lead first front told at obeys) (line_leads one at there steps_of how line) is

  break_leads : (one : Line) (at : Point S) (more : List Step) (trace : Trace) (course : Course S) → BreaksLine answers drops names due conv one at more trace course → Leads drops conv at more trace course
  break_leads one at more trace course (obeyed.none_told line here) = leads_none here
  break_leads one at more trace course (obeyed.in_operation text operation here caused is own) =
      leads_own here caused (here.trace ++ caused) (with_operation here.course here.trace operation) refl (none_any (caused_in operation) caused own)
      (grows_by drops here.course (with_operation here.course here.trace operation) here.trace operation refl)
  break_leads one at more trace course (obeyed.not_answered text order here there caused given is obeys) = order_leads order here there caused given obeys
  break_leads one at more trace course (obeyed.not_closed here) = leads_sent here _

  breaks_lead : (first : Point S) (lines : List Line) (more : List Step) (trace : Trace) (course : Course S) → BreaksLines answers drops names due conv first lines more trace course → Leads drops conv first more trace course
  breaks_lead first lines more trace course b =
      leads_both first b.at b.front_told b.more more trace course (all_lead first b.front b.front_told b.at b.obeyed) (break_leads b.one b.at b.more trace course b.breaks) b.all

-- ---- one thing heard

not_nothing_says : (conv : ℕ) (lines : List Line) → says conv lines ≡ nothing → ⊥
not_nothing_says conv lines is = cc

not_nothing_leaves : (conv : ℕ) → leaves conv ≡ nothing → ⊥
not_nothing_leaves conv is = cc

module _ {S : Type 0} (drops : List ℕ → S → S → Type 0) (trace : Trace) (course : Course S) (moment : ℕ) (what : Heard) where
  -- a conversation's
  adds_own : (more : List Step) → word_of trace what ≡ nothing → IsOfHeard what more → Adds drops trace course moment what more ((trace ++ steps.Heard moment what ∷ []) ++ more) course
  adds_own more word of =
      let P : Word → Type 0 = λ w. AmongAny (operator_of w) more more in
      record {
        added = more;
        is_next = refl;
        quiet = none_heard what more of;
        quiet_told = none_heard what more of;
        own = λ _. of;
        among = subst P (sym word) refl;
        same_done = refl;
        grows = grows_none drops course;
      }

  -- an operator's, whoever it is
  adds_said : (conv : ℕ) (word : Word) (more : List Step) (next : Trace) (turned : Course S) (now : AnswererState S) → word_of trace what ≡ word → operator_of word ≡ Some conv → (word ≡ nothing → ⊥) →
      Leads drops conv (point (trace ++ steps.Heard moment what ∷ []) course now) more next turned → Adds drops trace course moment what more next turned
  adds_said conv word more next turned now is by other leads =
      let P : Option ℕ → Type 0 = λ o. AmongAny o more leads.added in
      record {
        added = leads.added;
        is_next = leads.is_next;
        quiet = leads.quiet;
        quiet_told = leads.quiet_told;
        own = λ none. absurd (other (sym is ∙ none));
        among = subst P (sym (ap operator_of is ∙ by)) leads.among;
        same_done = among_done conv more leads.added leads.among;
        grows = leads.grows;
      }

  -- who leaves is let go
  adds_leaving : (conv : ℕ) → word_of trace what ≡ leaves conv → Adds drops trace course moment what (closed conv ∷ []) (trace ++ steps.Heard moment what ∷ []) course
  adds_leaving conv word =
      let P : Option ℕ → Type 0 = λ o. AmongAny o (closed conv ∷ []) [] in
      record {
        added = [];
        is_next = sym (append-nil (trace ++ steps.Heard moment what ∷ []));
        quiet = tt;
        quiet_told = tt;
        own = λ none. absurd (not_nothing_leaves conv (sym word ∙ none));
        among = subst P (sym (ap operator_of word)) (said_more _ [] [] tt no_steps);
        same_done = refl;
        grows = grows_none drops course;
      }

  -- nothing follows
  adds_none : Adds drops trace course moment what [] (trace ++ steps.Heard moment what ∷ []) course
  adds_none = record {
    added = [];
    is_next = sym (append-nil (trace ++ steps.Heard moment what ∷ []));
    quiet = tt;
    quiet_told = tt;
    own = λ _. record { own = λ conv news is. tt; none = λ is. refl };
    among = among_empty (operator_of (word_of trace what));
    same_done = refl;
    grows = grows_none drops course;
  }

module _ {S : Type 0} (answers : Answering S) (drops : List ℕ → S → S → Type 0) (names : S → List (List ℕ)) (due : Due) (trace : Trace) (course : Course S) (moment : ℕ) (what : Heard) where
  -- what it adds
  pub turns_adds : (more : List Step) (next : Trace) (turned : Course S) (over : Bool) → Turns answers drops names due trace course moment what more next turned over →
      Adds drops trace course moment what more next turned
  turns_adds more next turned over (of_conversation list word of) = adds_own drops trace course moment what list word of
  turns_adds more next turned over (of_operator conv lines list now pending last outcome word came obeys) =
      adds_said drops trace course moment what conv (says conv lines) list last.trace last.course now word refl (not_nothing_says conv lines)
      (lines_lead answers drops names due conv (point (trace ++ steps.Heard moment what ∷ []) course now) lines list last outcome obeys)
  turns_adds more next turned over (of_leaving conv word) = adds_leaving drops trace course moment what conv word

  -- and where memory ran out within it
  pub breaks_adds : (more : List Step) (next : Trace) (broken : Course S) → Breaks answers drops names due trace course moment what more next broken → Adds drops trace course moment what more next broken
  breaks_adds more next broken (in_conversation list word of) = adds_own drops trace course moment what list word of
  breaks_adds more next broken (in_lines conv lines list now pending last made word came breaks) =
      adds_said drops trace course moment what conv (says conv lines) list last made now word refl (not_nothing_says conv lines)
      (breaks_lead answers drops names due conv (point (trace ++ steps.Heard moment what ∷ []) course now) lines list last made breaks)
  breaks_adds more next broken in_silence = adds_none drops trace course moment what
