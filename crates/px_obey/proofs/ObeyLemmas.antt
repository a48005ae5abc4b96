-- What was done, and what is done behind it.
use Rattle.std.proofs.Common.{◌≡◌, ℕ, Bool, true, false, if◌then◌else◌, ◌==◌, List, [], ◌∷◌, ◌++◌, Option, Some, None, refl, ap, sym, ◌∙◌, subst, append_assoc}
use Rattle.std.specs.Prelude.{is_some}
use Rattle.std.proofs.lemmas.List.{append-nil}
use Rattle.std.specs.List.{flat_map}
use Rattle.std.proofs.lemmas.Grind.{flat_map-append}
use Rattle.px_message.specs.declared.flow.Flow.{Flow}
use Rattle.px_event.specs.declared.event.Event.TheVariants as events
use Rattle.px_event.specs.declared.said.Said.{Said}
use Rattle.px_event.specs.declared.said.Said.TheVariants as said
use Rattle.px_event.specs.declared.step.Step.{Step}
use Rattle.px_event.specs.declared.step.Step.TheVariants as steps
use Rattle.px_event.specs.Layer.{Replied, Took}
use Rattle.px_event.specs.Trace.{Trace}
use Rattle.px_core.specs.Answers.{Answering, AnswererState, Failing, FilesAfter, FilesMeaning, after_answers, by_none}
use Rattle.px_core.specs.Calls.{Calls, calls, calls_from, calls_on, dials, moved, no_calls}
use Rattle.px_core.specs.Course.{Course}
use Rattle.px_core.specs.Due.{Due}
use Rattle.px_core.specs.Router.{IsNow}
use Rattle.px_core.specs.Run.{AllTellable, IsTellable, done_of}
use Rattle.px_core.proofs.AnsweredLemmas.{whole_front}
use Rattle.px_obey.specs.Obeyed.{ByOrders, FilesAfterOrders, Point, by_no_order, by_operation, point}
use Rattle.px_obey.specs.Over.{Breaking, BreaksOver, Doing, GoesOver, Rests, StandingFor, TakesAll, TellsMore}

-- a step that is told keeps the moment
spoken_keeps : (same : Bool) (c : Calls) (what : Said) → (if same then dials what c else c).moment ≡ c.moment
spoken_keeps false c what = refl
spoken_keeps true c (said.Send side bytes) = refl
spoken_keeps true c (said.Close side) = refl
spoken_keeps true c (said.Dial server address) = refl

replied_keeps : (same : Bool) (c next : Calls) → next.moment ≡ c.moment → (if same then next else c).moment ≡ c.moment
replied_keeps false c next is = refl
replied_keeps true c next is = is

begun_keeps : (same begun : Bool) (c next : Calls) → next.moment ≡ c.moment → (if same then (if begun then c else next) else c).moment ≡ c.moment
begun_keeps false begun c next is = refl
begun_keeps true true c next is = refl
begun_keeps true false c next is = is

step_keeps : (conv : ℕ) (c : Calls) (step : Step) → IsTellable step → (calls_on conv c step).moment ≡ c.moment
step_keeps conv c (steps.Heard moment what) never = absurd never
step_keeps conv c (steps.Begun number) told = begun_keeps (number == conv) (is_some c.peer) c (record c { peer = Some None; moves = c.moves ++ Took c.moment events.Begun ∷ [] }) refl
step_keeps conv c (steps.Asked number ask) told = refl
step_keeps conv c (steps.Answered number ask reply) told = replied_keeps (number == conv) c (moved (Replied c.moment reply) c) refl
step_keeps conv c (steps.Said number what) told = spoken_keeps (number == conv) c what
step_keeps conv c (steps.Done flow) told = refl

all_keep : (conv : ℕ) (c : Calls) (list : List Step) → AllTellable list → (calls_from conv c list).moment ≡ c.moment
all_keep conv c [] all = refl
all_keep conv c (step ∷ list) (here, all) = all_keep conv (calls_on conv c step) list all ∙ step_keeps conv c step here

calls_behind : (conv : ℕ) (c : Calls) (trace list : Trace) → calls_from conv c (trace ++ list) ≡ calls_from conv (calls_from conv c trace) list
calls_behind conv c [] list = refl
calls_behind conv c (step ∷ trace) list = calls_behind conv (calls_on conv c step) trace list

-- behind steps that are told the moment of what was heard last is the same
pub now_on : (moment : ℕ) (trace list : Trace) → AllTellable list → IsNow moment trace → IsNow moment (trace ++ list)
now_on moment trace list all now = λ conv. ap (λ c. c.moment) (calls_behind conv no_calls trace list) ∙ (all_keep conv (calls conv trace) list all ∙ now conv)

-- flows that are taken
pub takes_none : (net after : Option Trace) (taken new_taken : List Flow) → after ≡ net → new_taken ≡ taken → TakesAll net after taken new_taken
takes_none net after taken new_taken same held = λ trace is all. record {
  more = [];
  is = same ∙ (is ∙ ap Some (sym (append-nil trace)));
  holds = held ∙ (all ∙ ap (flat_map done_of) (sym (append-nil trace)));
}

takes_both : (a b c : Option Trace) (x y z : List Flow) → TakesAll a b x y → TakesAll b c y z → TakesAll a c x z
takes_both a b c x y z first second = λ trace is all.
    let f = first trace is all in
    let s = second (trace ++ f.more) f.is f.holds in
    let P : Trace → Type 0 = λ told. z ≡ flat_map done_of told in
    record { more = f.more ++ s.more; is = s.is ∙ ap Some (append_assoc trace f.more s.more); holds = subst P (append_assoc trace f.more s.more) s.holds }

takes_more : (b c : Option Trace) (y : List Flow) (list : List Step) → flat_map done_of list ≡ [] → TellsMore b c list → TakesAll b c y y
takes_more b c y list none tells = λ trace is all. record {
  more = list;
  is = tells trace is;
  holds = all ∙ sym (flat_map-append done_of trace list ∙ (ap (λ l. flat_map done_of trace ++ l) none ∙ append-nil (flat_map done_of trace)));
}

-- a point is told by its parts
point_is : {S : Type 0} (at : Point S) (now : AnswererState S) → at.now ≡ now → point at.trace at.course now ≡ at
point_is at now is = ap (λ n. point at.trace at.course n) (sym is)

module _ {S : Type 0} {answers : Answering S} {drops : List ℕ → S → S → Type 0} where
  pub by_both : (first between last : AnswererState S) → ByOrders answers drops first between → ByOrders answers drops between last → ByOrders answers drops first last
  by_both first between last before by_no_order = before
  by_both first between last before (by_operation old new operation more moves) = by_operation old last operation (by_both first between old before more) moves

  pub after_by : (fails : Failing S) (first last : AnswererState S) → ByOrders answers drops first last → FilesAfterOrders answers fails drops first last.files
  after_by fails first last by = record { last = last; by = by; after = after_answers last (by_none last) refl }

  after_both : (fails : Failing S) (first between : AnswererState S) (files : FilesMeaning) → ByOrders answers drops first between → FilesAfterOrders answers fails drops between files →
      FilesAfterOrders answers fails drops first files
  after_both fails first between files before after = record { last = after.last; by = by_both first between after.last before after.by; after = after.after }

  pub after_none : (fails : Failing S) (first : AnswererState S) (files : FilesMeaning) → FilesAfter answers fails first files → FilesAfterOrders answers fails drops first files
  after_none fails first files after = record { last = first; by = by_no_order; after = after }

  -- nothing changed
  pub goes_kept : {Does : Doing S} {Before After : StandingFor S} {moment : ℕ} {old new : AnswererState S} {net after : Option Trace} {taken new_taken : List Flow} →
      ((due : Due) (course : Course S) (trace : Trace) → Before due course trace → Does due (point trace course old) [] (point trace course old)) →
      ((due : Due) (course : Course S) (trace : Trace) → Before due course trace → After due course trace) → new ≡ old → after ≡ net → new_taken ≡ taken →
      GoesOver answers drops Does Before After moment old new net after taken new_taken
  goes_kept {Does} {Before} {After} {moment} {old} {new} {net} {after} {taken} {new_taken} does keeps same told held = record {
    adds = λ due course trace stands now. record {
      last = point trace course old;
      is_now = sym same;
      more = [];
      does = does due course trace stands;
      stands = keeps due course trace stands;
      at_moment = now;
      tells = λ front is. told ∙ (is ∙ ap Some (sym (append-nil front)));
    };
    takes = takes_none net after taken new_taken told held;
    by = (let P : AnswererState S → Type 0 = ByOrders answers drops old in subst P (sym same) by_no_order);
  }

  pub goes_none : {Does : Doing S} {At : StandingFor S} {moment : ℕ} {old : AnswererState S} {net : Option Trace} {taken : List Flow} →
      ((due : Due) (course : Course S) (trace : Trace) → At due course trace → Does due (point trace course old) [] (point trace course old)) →
      GoesOver answers drops Does At At moment old old net net taken taken
  goes_none does = goes_kept does (λ due course trace stands. stands) refl refl refl

  -- the same, said of it otherwise
  pub goes_map : {Does Next : Doing S} {Before After : StandingFor S} {moment : ℕ} {old new : AnswererState S} {net after : Option Trace} {taken new_taken : List Flow} →
      ((due : Due) (first last : Point S) (more : List Step) → Does due first more last → Next due first more last) →
      GoesOver answers drops Does Before After moment old new net after taken new_taken → GoesOver answers drops Next Before After moment old new net after taken new_taken
  goes_map {Does} {Next} {Before} {After} {moment} {old} {new} {net} {after} {taken} {new_taken} on g = record {
    adds = λ due course trace stands now.
        let a = g.adds due course trace stands now in
        record { last = a.last; is_now = a.is_now; more = a.more; does = on due (point trace course old) a.last a.more a.does; stands = a.stands; at_moment = a.at_moment; tells = a.tells };
    takes = g.takes;
    by = g.by;
  }

  -- and then something was said that finishes no flow
  pub goes_said : {Does Next : Doing S} {Before After : StandingFor S} {moment : ℕ} {old new : AnswererState S} {net between after : Option Trace} {taken new_taken : List Flow} (list : List Step) →
      flat_map done_of list ≡ [] → ((due : Due) (first last : Point S) (more : List Step) → Does due first more last → Next due first (more ++ list) last) →
      GoesOver answers drops Does Before After moment old new net between taken new_taken → TellsMore between after list →
      GoesOver answers drops Next Before After moment old new net after taken new_taken
  goes_said {Does} {Next} {Before} {After} {moment} {old} {new} {net} {between} {after} {taken} {new_taken} list none on g tells = record {
    adds = λ due course trace stands now.
        let a = g.adds due course trace stands now in
        record {
          last = a.last;
          is_now = a.is_now;
          more = a.more ++ list;
          does = on due (point trace course old) a.last a.more a.does;
          stands = a.stands;
          at_moment = a.at_moment;
          tells = λ told is. tells (told ++ a.more) (a.tells told is) ∙ ap Some (append_assoc told a.more list);
        };
    takes = takes_both net between after taken new_taken new_taken g.takes (takes_more between after new_taken list none tells);
    by = g.by;
  }

  -- and then more was done
  pub goes_both : {Does Later Next : Doing S} {Before Between After : StandingFor S} {moment : ℕ} {old state new : AnswererState S} {net between after : Option Trace} {taken held new_taken : List Flow} →
      ((due : Due) (first middle last : Point S) (done more : List Step) → Does due first done middle → Later due middle more last → Next due first (done ++ more) last) →
      GoesOver answers drops Does Before Between moment old state net between taken held → GoesOver answers drops Later Between After moment state new between after held new_taken →
      GoesOver answers drops Next Before After moment old new net after taken new_taken
  goes_both {Does} {Later} {Next} {Before} {Between} {After} {moment} {old} {state} {new} {net} {between} {after} {taken} {held} {new_taken} on g h = record {
    adds = λ due course trace stands now.
        let a = g.adds due course trace stands now in
        let b = h.adds due a.last.course a.last.trace a.stands a.at_moment in
        let P : Point S → Type 0 = λ at. Later due at b.more b.last in
        record {
          last = b.last;
          is_now = b.is_now;
          more = a.more ++ b.more;
          does = on due (point trace course old) a.last b.last a.more b.more a.does (subst P (point_is a.last state a.is_now) b.does);
          stands = b.stands;
          at_moment = b.at_moment;
          tells = λ told is. b.tells (told ++ a.more) (a.tells told is) ∙ ap Some (append_assoc told a.more b.more);
        };
    takes = takes_both net between after taken held new_taken g.takes h.takes;
    by = by_both old state new g.by h.by;
  }

  -- and then memory ran out
  pub breaks_behind : {fails : Failing S} {Does : Doing S} {Stops : Breaking S} {Before After : StandingFor S} {moment : ℕ} {old new : AnswererState S} {net between after : Option Trace} {taken new_taken : List Flow} →
      ((due : Due) (course : Course S) (trace : Trace) → After due course trace → Rests answers due course trace new) →
      ((due : Due) (first last : Point S) (more : List Step) → Does due first more last → Stops due first more last.trace last.course) →
      GoesOver answers drops Does Before After moment old new net between taken new_taken → after ≡ between →
      BreaksOver answers fails drops Stops Before moment old new.files net after
  breaks_behind {fails} {Does} {Stops} {Before} {After} {moment} {old} {new} {net} {between} {after} rests on g same = record {
    breaks = λ due course trace told stands now is.
        let a = g.adds due course trace stands now in
        let r = rests due a.last.course a.last.trace a.stands in
        record {
          more = a.more;
          trace = a.last.trace;
          course = a.last.course;
          breaks = on due (point trace course old) a.last a.more a.does;
          is = same ∙ a.tells told is;
          served = r.served;
          follows = (record { made = a.last.course; front_of = whole_front a.last.course; last = new; pending = r.pending; answered = r.answered });
          leaves = (record {
            prefix = a.last.trace;
            rest = [];
            split = sym (append-nil a.last.trace);
            made = a.last.course;
            front_of = whole_front a.last.course;
            last = new;
            pending = r.pending;
            answered = r.answered;
            after = after_answers new (by_none new) refl;
            whole = λ no. absurd no;
          });
        };
    after_orders = after_by fails old new g.by;
  }

  -- memory ran out, and nothing was done
  pub breaks_none : {fails : Failing S} {Stops : Breaking S} {At : StandingFor S} {moment : ℕ} {old : AnswererState S} {net after : Option Trace} →
      ((due : Due) (course : Course S) (trace : Trace) → At due course trace → Rests answers due course trace old) → ((due : Due) (at : Point S) → Stops due at [] at.trace at.course) → after ≡ net →
      BreaksOver answers fails drops Stops At moment old old.files net after
  breaks_none {fails} {Stops} {At} {moment} {old} {net} {after} rests none same =
      let Does : Doing S = λ due first more last. Stops due first more last.trace last.course in
      let g : GoesOver answers drops Does At At moment old old net net [] [] = goes_none (λ due course trace stands. none due (point trace course old)) in
      breaks_behind {fails = fails} {Does = Does} {Stops = Stops} rests (λ due first last more is. is) g same

  -- and then memory ran out in what was done next
  pub breaks_both : {fails : Failing S} {Does : Doing S} {Stops Next : Breaking S} {Before Between : StandingFor S} {moment : ℕ} {old state : AnswererState S} {files : FilesMeaning}
      {net between after : Option Trace} {taken held : List Flow} →
      ((due : Due) (first middle : Point S) (done more : List Step) (trace : Trace) (course : Course S) → Does due first done middle → Stops due middle more trace course → Next due first (done ++ more) trace course) →
      GoesOver answers drops Does Before Between moment old state net between taken held → BreaksOver answers fails drops Stops Between moment state files between after →
      BreaksOver answers fails drops Next Before moment old files net after
  breaks_both {fails} {Does} {Stops} {Next} {Before} {Between} {moment} {old} {state} {files} {net} {between} {after} on g h = record {
    breaks = λ due course trace told stands now is.
        let a = g.adds due course trace stands now in
        let b = h.breaks due a.last.course a.last.trace (told ++ a.more) a.stands a.at_moment (a.tells told is) in
        let P : Point S → Type 0 = λ at. Stops due at b.more b.trace b.course in
        record {
          more = a.more ++ b.more;
          trace = b.trace;
          course = b.course;
          breaks = on due (point trace course old) a.last a.more b.more b.trace b.course a.does (subst P (point_is a.last state a.is_now) b.breaks);
          is = b.is ∙ ap Some (append_assoc told a.more b.more);
          served = b.served;
          follows = b.follows;
          leaves = b.leaves;
        };
    after_orders = after_both fails old state files g.by h.after_orders;
  }

  -- the same, said of it otherwise
  pub breaks_map : {fails : Failing S} {Stops Next : Breaking S} {Before : StandingFor S} {moment : ℕ} {old : AnswererState S} {files : FilesMeaning} {net after : Option Trace} →
      ((due : Due) (first : Point S) (more : List Step) (trace : Trace) (course : Course S) → Stops due first more trace course → Next due first more trace course) →
      BreaksOver answers fails drops Stops Before moment old files net after → BreaksOver answers fails drops Next Before moment old files net after
  breaks_map {fails} {Stops} {Next} {Before} {moment} {old} {files} {net} {after} on h = record {
    breaks = λ due course trace told stands now is.
        let b = h.breaks due course trace told stands now is in
        record { more = b.more; trace = b.trace; course = b.course; breaks = on due (point trace course old) b.more b.trace b.course b.breaks; is = b.is; served = b.served; follows = b.follows; leaves = b.leaves };
    after_orders = h.after_orders;
  }
