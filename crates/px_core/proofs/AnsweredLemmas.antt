-- The answerer over a trace, some steps further.
use Rattle.std.proofs.Common.{◌≡◌, ◌≢◌, inl, inr, ℕ, Bool, false, ◌==◌, ◌&&◌, ◌||◌, List, [], ◌∷◌, ◌++◌, map, Option, Some, None, refl, ap, sym, ◌∙◌, subst, append_assoc, Ok}
use Rattle.std.proofs.lemmas.List.{append-nil}
use Rattle.std.specs.List.{list_any}
use Rattle.std.specs.Prelude.{if◌then◌else◌}
use Rattle.std.proofs.lemmas.Bool.{ne_eqb}
use Rattle.px_event.specs.declared.ask.Ask.{Ask}
use Rattle.px_event.specs.declared.ask.Ask.TheVariants as asks
use Rattle.px_event.specs.declared.ask.Hook.{Hook}
use Rattle.px_event.specs.declared.heard.Heard.{Heard}
use Rattle.px_event.specs.declared.command.Command.{Command}
use Rattle.px_event.specs.declared.command.Command.TheVariants as commands
use Rattle.px_event.specs.declared.reply.Reply.{Reply}
use Rattle.px_event.specs.declared.step.Step.{Step}
use Rattle.px_event.specs.declared.step.Step.TheVariants as steps
use Rattle.px_event.specs.Trace.{Trace}
use Rattle.px_message.specs.declared.flow.Flow.{Flow}
use Rattle.px_message.specs.declared.flow.FlowId.{FlowId}
use Rattle.px_event.specs.View.{flows, seen_of}
use Rattle.px_event.proofs.TraceLemmas.{front_of_more, IsFrontOfMore}
use Rattle.px_core.specs.declared.answerer.Answer.{Answer}
use Rattle.px_core.specs.declared.answerer.Answer.TheVariants as answer
use Rattle.px_core.specs.declared.answerer.Draft.{Draft}
use Rattle.px_core.specs.declared.waiting.Waiting.{Waiting}
use Rattle.px_core.specs.declared.held.Question.{Question}
use Rattle.px_core.specs.Answered.{GivenTo, Pending, with_given, with_shown, with_pending, with_asked, shown_behind, IsMarkedBy, IsNoAnswer, Answers, at_first, at_hook, at_reply, at_other, at_change, at_mark, at_edit, at_release, just_given, IsAnswered}
use Rattle.px_core.specs.Answers.{Answering, AnswererState}
use Rattle.px_core.specs.Course.{Change, Course, IsFrontOf, Operated, change, operated, is_mark_of, is_marked, with_operation}
use Rattle.px_core.specs.Calls.{calls}
use Rattle.px_core.specs.Conversation.{AllNamed, IsNamed}
use Rattle.px_core.specs.Drafts.{ComesTo, answers_for, edited_at, edited_by, released_by, reply_of, with_edits}
use Rattle.px_core.specs.declared.operation.Operation.{Operation}
use Rattle.px_core.specs.declared.operation.Operation.TheVariants as operations
use Rattle.px_core.specs.Due.{Due, due_by, due_in, IsAskedLast}
use Rattle.px_core.specs.Held.{step_of, IsOf, AllOf, asked_from, IsAbout, waiting, NoneAnswers, AllMarkedBy, Kept, shown_over, shown_by, shown_told, Follows, IsToAsk, FollowsTo}
use Rattle.px_core.specs.Hooks.{hook_on, open_hook, AsksInTurn}
use Rattle.px_core.proofs.CallLemmas.{calls_more, same_number, told_calls, told_own}
use Rattle.px_core.proofs.HookLemmas.{asked_same, hook_more, hook_asked, hook_answered, turn_on}
use Rattle.px_core.proofs.UnmarkedLemmas.{AllMarkedOn}
use Rattle.px_draft.specs.declared.edit.Edit.{Edit}
use Rattle.px_draft.specs.declared.edited.Edited.{Edited}
use Rattle.px_draft.specs.Edits.{behind, changed, changed_by, flow_of, fresh, kept}

pub pending_here : (conv : ℕ) (given : Option GivenTo) (before : ℕ → Option GivenTo) → with_given conv given before conv ≡ given
pending_here conv given before = rw (same_number conv) refl

pub pending_other : (conv other : ℕ) (given : Option GivenTo) (before : ℕ → Option GivenTo) → conv ≢ other → with_given conv given before other ≡ before other
pending_other conv other given before apart =
    let no : (other == conv) ≡ false = ne_eqb other conv (λ same. apart (sym same)) in rw no refl

quiet_on : (conv : ℕ) (hook : Option Ask) (step : Step) → IsNoAnswer step → hook_on conv hook step ≡ hook
quiet_on conv hook (steps.Heard moment heard) quiet = refl
quiet_on conv hook (steps.Begun number) quiet = refl
quiet_on conv hook (steps.Asked number ask) quiet = absurd quiet
quiet_on conv hook (steps.Answered number ask reply) quiet = absurd quiet
quiet_on conv hook (steps.Said number what) quiet = refl
quiet_on conv hook (steps.Done flow) quiet = refl

hook_step : (conv : ℕ) (trace : Trace) (step : Step) → IsNoAnswer step → open_hook conv (trace ++ step ∷ []) ≡ open_hook conv trace
hook_step conv trace step quiet = hook_more conv trace step ∙ quiet_on conv (open_hook conv trace) step quiet

hook_quiet : (conv : ℕ) (trace more : Trace) → NoneAnswers more → open_hook conv (trace ++ more) ≡ open_hook conv trace
hook_quiet conv trace [] none = ap (open_hook conv) (append-nil trace)
hook_quiet conv trace (step ∷ more) (here, none) =
    ap (open_hook conv) (sym (append_assoc trace (step ∷ []) more)) ∙ (hook_quiet conv (trace ++ step ∷ []) more none ∙ hook_step conv trace step here)

no_ask : (ask : Ask) → Some ask ≡ None → ⊥
no_ask ask e = cc

-- behind a hook that was asked, commands in turn ask none
record IsQuiet (conv : ℕ) (question : Option Question) (given : List Command) : Type 0 where
  quiet : NoneAnswers (map (step_of conv) given)
  asked : asked_from question given ≡ question

quiet_behind : (conv : ℕ) (ask : Ask) (question : Option Question) (given : List Command) (last : Option Ask) → AsksInTurn (Some ask) given last → IsQuiet conv question given
quiet_behind conv ask question [] last turn = record { quiet = tt; asked = refl }
quiet_behind conv ask question (commands.Send side text ∷ given) last turn =
    let r = quiet_behind conv ask question given last turn in record { quiet = (tt, r.quiet); asked = r.asked }
quiet_behind conv ask question (commands.Close side ∷ given) last turn =
    let r = quiet_behind conv ask question given last turn in record { quiet = (tt, r.quiet); asked = r.asked }
quiet_behind conv ask question (commands.Dial server address inside ∷ given) last turn =
    let r = quiet_behind conv ask question given last turn in record { quiet = (tt, r.quiet); asked = r.asked }
quiet_behind conv ask question (commands.Done flow ∷ given) last turn =
    let r = quiet_behind conv ask question given last turn in record { quiet = (tt, r.quiet); asked = r.asked }
quiet_behind conv ask question (commands.Ask other flow ∷ given) last (none, turn) = absurd (no_ask ask none)

nothing_before : (prefix rest : List Step) → [] ≡ prefix ++ rest → prefix ≡ []
nothing_before [] rest e = refl
nothing_before (x ∷ prefix) rest e = absurd (cc)

-- what is due does not change where a command is told
told_due : (due : Due) (conv : ℕ) (trace : Trace) (command : Command) → due_in due flows conv (trace ++ step_of conv command ∷ []) ≡ due_in due flows conv trace
told_due due conv trace command =
    ap (λ c. seen_of flows (due_by due conv c)) (calls_more conv trace (step_of conv command) ∙ told_calls conv (calls conv trace) command)

about_on : (due : Due) (conv : ℕ) (trace : Trace) (command : Command) (question : Option Question) → IsAbout due conv trace question → IsAbout due conv (trace ++ step_of conv command ∷ []) question
about_on due conv trace command None it = tt
about_on due conv trace command (Some question) it =
    asked_same due conv trace (trace ++ step_of conv command ∷ []) question.ask question.flow (told_due due conv trace command) it

-- a course is a prefix of itself
pub whole_front : {S : Type 0} (course : Course S) → IsFrontOf course course
whole_front course = record {
  same = refl;
  later = [];
  split = sym (append-nil course.changes);
  later_operations = [];
  split_operations = sym (append-nil course.operations);
}

-- and so is what it was before its last changes
pub front_on : {S : Type 0} (course between prefix : Course S) → IsFrontOf course between → IsFrontOf between prefix → IsFrontOf course prefix
front_on course between prefix a b = record {
  same = b.same ∙ a.same;
  later = b.later ++ a.later;
  split = a.split ∙ (ap (λ l. l ++ a.later) b.split ∙ append_assoc prefix.changes b.later a.later);
  later_operations = b.later_operations ++ a.later_operations;
  split_operations = a.split_operations ∙ (ap (λ l. l ++ a.later_operations) b.split_operations ∙ append_assoc prefix.operations b.later_operations a.later_operations);
}

-- before one operation more
pub operated_front : {S : Type 0} (course made : Course S) (trace : Trace) (operation : Operation) → course ≡ with_operation made trace operation → IsFrontOf course made
operated_front course made trace operation is = record {
  same = sym (ap (λ c. c.first) is);
  later = [];
  split = ap (λ c. c.changes) is ∙ sym (append-nil made.changes);
  later_operations = operated trace operation ∷ [];
  split_operations = ap (λ c. c.operations) is;
}

module _ {S : Type 0} (answers : Answering S) (due : Due) where
  answered_whole : (course : Course S) (trace : Trace) (now : AnswererState S) (pending : Pending) → Answers answers due course trace now pending → IsAnswered answers due course trace
  answered_whole course trace now pending a = record { made = course; front_of = whole_front course; last = now; pending = pending; answered = a }

  -- one step less
  less : (course : Course S) (prefix rest whole trace : Trace) (step : Step) → IsAnswered answers due course whole → whole ≡ trace ++ step ∷ [] → whole ≡ prefix ++ rest →
      ((most : Trace) → trace ≡ prefix ++ most → IsAnswered answers due course prefix) → IsAnswered answers due course prefix
  less course prefix rest whole trace step all is split before = by (front_of_more trace step prefix rest (sym is ∙ split))
    where
      by : IsFrontOfMore trace step prefix rest → IsAnswered answers due course prefix
      by (inl h) = let P : Trace → Type 0 = IsAnswered answers due course in subst P (is ∙ sym h.0) all
      by (inr h) = before h.0 h.1

  -- one change less
  later_course : (course made : Course S) (prefix : Trace) → IsFrontOf course made → IsAnswered answers due made prefix → IsAnswered answers due course prefix
  later_course course made prefix first a =
      record { made = a.made; front_of = front_on course made a.made first a.front_of; last = a.last; pending = a.pending; answered = a.answered }

  -- a prefix of a trace that is answered is answered, by the changes that were made there
  pub front_answered : (course : Course S) (prefix rest whole : Trace) (now : AnswererState S) (pending : Pending) → whole ≡ prefix ++ rest → Answers answers due course whole now pending →
      IsAnswered answers due course prefix
  front_answered course prefix rest whole now pending split (at_first c none no_operations) =
      let P : Trace → Type 0 = IsAnswered answers due course in
      subst P (sym (nothing_before prefix rest split)) (answered_whole course [] now pending (at_first course none no_operations))
  front_answered course prefix rest whole now pending split (at_hook c trace next old new was conv hook flow given before is free last marked so) =
      less course prefix rest whole trace (steps.Asked conv (asks.Hook flow.id.index hook))
      (answered_whole course whole now pending (at_hook course trace whole old now was conv hook flow given before is free last marked so)) is split
      (λ most e. front_answered course prefix most trace old was e before)
  front_answered course prefix rest whole now pending split (at_reply c trace next state was conv ask reply before is given) =
      less course prefix rest whole trace (steps.Answered conv ask reply)
      (answered_whole course whole now pending (at_reply course trace whole now was conv ask reply before is given)) is split
      (λ most e. front_answered course prefix most trace now was e before)
  front_answered course prefix rest whole now pending split (at_other c trace next state was step before is quiet marked) =
      less course prefix rest whole trace step
      (answered_whole course whole now pending (at_other course trace whole now was step before is quiet marked)) is split
      (λ most e. front_answered course prefix most trace now was e before)
  front_answered course prefix rest whole now pending split (at_change made next trace old new was before is) =
      let one : Change S = change whole old now in
      let first : IsFrontOf course made = record {
        same = sym (ap (λ c. c.first) is);
        later = one ∷ [];
        split = ap (λ c. c.changes) is;
        later_operations = [];
        split_operations = ap (λ c. c.operations) is ∙ sym (append-nil made.operations);
      } in
      later_course course made prefix first (front_answered made prefix rest whole old pending split before)
  front_answered course prefix rest whole now pending split (at_mark made next trace state was id before is) =
      later_course course made prefix (operated_front course made whole (operations.Mark id) is) (front_answered made prefix rest whole now pending split before)
  front_answered course prefix rest whole now pending split (at_edit made next trace state was id change hook draft edits edited before is waits changes) =
      later_course course made prefix (operated_front course made whole (operations.Edit id change) is) (front_answered made prefix rest whole now was split before)
  front_answered course prefix rest whole now pending split (at_release made c trace next state was operation id hook draft edited before is for waits grown) =
      less course prefix rest whole trace (steps.Answered id.conv (asks.Hook id.index hook) (released_by operation (with_edits edited draft)))
      (answered_whole course whole now pending (at_release made course trace whole now was operation id hook draft edited before is for waits grown)) grown split
      (λ most e. later_course course made prefix (operated_front course made trace operation is) (front_answered made prefix most trace now was e before))

  pub answered_front : (course : Course S) (prefix rest whole : Trace) → whole ≡ prefix ++ rest → IsAnswered answers due course whole → IsAnswered answers due course prefix
  answered_front course prefix rest whole split a = later_course course a.made prefix a.front_of (front_answered a.made prefix rest whole a.last a.pending split a.answered)

-- what is shown of one flow hangs on that flow alone
with_same : (conv index other place : ℕ) (what : Option Flow) (f g : ℕ → ℕ → Option Flow) → f other place ≡ g other place →
    with_shown conv index what f other place ≡ with_shown conv index what g other place
with_same conv index other place what f g same = ap (λ v. if (conv == other) && (index == place) then what else v) same

with_other : (conv index other place : ℕ) (what : Option Flow) (f : ℕ → ℕ → Option Flow) → conv ≢ other → with_shown conv index what f other place ≡ f other place
with_other conv index other place what f apart = let no : (conv == other) ≡ false = ne_eqb conv other apart in rw no refl

behind_same : (step : Step) (other place : ℕ) (f g : ℕ → ℕ → Option Flow) → f other place ≡ g other place → shown_behind step f other place ≡ shown_behind step g other place
behind_same (steps.Heard moment heard) other place f g same = same
behind_same (steps.Begun conv) other place f g same = same
behind_same (steps.Asked conv ask) other place f g same = same
behind_same (steps.Answered conv ask reply) other place f g same = same
behind_same (steps.Said conv what) other place f g same = same
behind_same (steps.Done flow) other place f g same = with_same flow.id.conv flow.id.index other place None f g same

over_same : (more : List Step) (other place : ℕ) (f g : ℕ → ℕ → Option Flow) → f other place ≡ g other place → shown_over more f other place ≡ shown_over more g other place
over_same [] other place f g same = same
over_same (step ∷ more) other place f g same = over_same more other place (shown_behind step f) (shown_behind step g) (behind_same step other place f g same)

by_same : (command : Command) (other place : ℕ) (f g : ℕ → ℕ → Option Flow) → f other place ≡ g other place → shown_by command f other place ≡ shown_by command g other place
by_same (commands.Send side text) other place f g same = same
by_same (commands.Close side) other place f g same = same
by_same (commands.Dial server address inside) other place f g same = same
by_same (commands.Ask ask flow) other place f g same = with_same flow.id.conv flow.id.index other place (Some flow) f g same
by_same (commands.Done flow) other place f g same = with_same flow.id.conv flow.id.index other place None f g same

pub told_same : (given : List Command) (other place : ℕ) (f g : ℕ → ℕ → Option Flow) → f other place ≡ g other place → shown_told given f other place ≡ shown_told given g other place
told_same [] other place f g same = same
told_same (command ∷ given) other place f g same = told_same given other place (shown_by command f) (shown_by command g) (by_same command other place f g same)

-- a step of the conversation finishes none of another's
abbrev FinishesOwn : ℕ → Step → Type 0
FinishesOwn conv (steps.Done flow) = flow.id.conv ≡ conv
FinishesOwn conv _ = Unit {0}

finishes_own : (conv : ℕ) (step : Step) → IsOf conv step → FinishesOwn conv step
finishes_own conv (steps.Heard moment heard) of = tt
finishes_own conv (steps.Begun number) of = tt
finishes_own conv (steps.Asked number ask) of = tt
finishes_own conv (steps.Answered number ask reply) of = tt
finishes_own conv (steps.Said number what) of = tt
finishes_own conv (steps.Done flow) of = of

behind_other : (conv : ℕ) (step : Step) (other place : ℕ) (f : ℕ → ℕ → Option Flow) → FinishesOwn conv step → conv ≢ other → shown_behind step f other place ≡ f other place
behind_other conv (steps.Heard moment heard) other place f own apart = refl
behind_other conv (steps.Begun number) other place f own apart = refl
behind_other conv (steps.Asked number ask) other place f own apart = refl
behind_other conv (steps.Answered number ask reply) other place f own apart = refl
behind_other conv (steps.Said number what) other place f own apart = refl
behind_other conv (steps.Done flow) other place f own apart = with_other flow.id.conv flow.id.index other place None f (λ same. apart (sym own ∙ same))

over_other : (conv : ℕ) (more : List Step) (other place : ℕ) (f : ℕ → ℕ → Option Flow) → AllOf conv more → conv ≢ other → shown_over more f other place ≡ f other place
over_other conv [] other place f all apart = refl
over_other conv (step ∷ more) other place f (here, all) apart =
    over_other conv more other place (shown_behind step f) all apart ∙ behind_other conv step other place f (finishes_own conv step here) apart

by_other : (conv : ℕ) (command : Command) (other place : ℕ) (f : ℕ → ℕ → Option Flow) → IsNamed conv command → conv ≢ other → shown_by command f other place ≡ f other place
by_other conv (commands.Send side text) other place f named apart = refl
by_other conv (commands.Close side) other place f named apart = refl
by_other conv (commands.Dial server address inside) other place f named apart = refl
by_other conv (commands.Ask ask flow) other place f named apart = with_other flow.id.conv flow.id.index other place (Some flow) f (λ same. apart (sym named.0 ∙ same))
by_other conv (commands.Done flow) other place f named apart = with_other flow.id.conv flow.id.index other place None f (λ same. apart (sym named ∙ same))

-- commands that name the conversation show the flows of others as before
pub told_other : (conv : ℕ) (given : List Command) (other place : ℕ) (f : ℕ → ℕ → Option Flow) → AllNamed conv given → conv ≢ other → shown_told given f other place ≡ f other place
told_other conv [] other place f named apart = refl
told_other conv (command ∷ given) other place f (here, named) apart =
    told_other conv given other place (shown_by command f) named apart ∙ by_other conv command other place f here apart

-- what steps show that tell commands which ask nothing
over_told : (conv : ℕ) (ask : Ask) (given : List Command) (last : Option Ask) (other place : ℕ) (f : ℕ → ℕ → Option Flow) → AsksInTurn (Some ask) given last →
    shown_over (map (step_of conv) given) f other place ≡ shown_told given f other place
over_told conv ask [] last other place f turn = refl
over_told conv ask (commands.Send side text ∷ given) last other place f turn = over_told conv ask given last other place f turn
over_told conv ask (commands.Close side ∷ given) last other place f turn = over_told conv ask given last other place f turn
over_told conv ask (commands.Dial server address inside ∷ given) last other place f turn = over_told conv ask given last other place f turn
over_told conv ask (commands.Done flow ∷ given) last other place f turn = over_told conv ask given last other place (with_shown flow.id.conv flow.id.index None f) turn
over_told conv ask (commands.Ask more flow ∷ given) last other place f (none, turn) = absurd (no_ask ask none)

pub all_own : (conv : ℕ) (given : List Command) → AllNamed conv given → AllOf conv (map (step_of conv) given)
all_own conv [] named = tt
all_own conv (command ∷ given) named = (told_own conv command named.0, all_own conv given named.1)

-- a flow that is finished has its mark
marked_done : (made : List Operated) (marks : ℕ → Bool) (conv : ℕ) (flow : Flow) → ((index : ℕ) → is_marked made conv index ≡ marks index) → flow.id.conv ≡ conv →
    flow.marked ≡ marks flow.id.index → flow.marked ≡ is_marked made flow.id.conv flow.id.index
marked_done made marks conv flow so named is = is ∙ (sym (so flow.id.index) ∙ ap (λ n. is_marked made n flow.id.index) (sym named))

all_marked_by : (made : List Operated) (marks : ℕ → Bool) (conv : ℕ) (given : List Command) → ((index : ℕ) → is_marked made conv index ≡ marks index) → AllNamed conv given →
    AllMarkedOn marks given → AllMarkedBy made (map (step_of conv) given)
all_marked_by made marks conv [] so named marked = tt
all_marked_by made marks conv (commands.Send side text ∷ given) so (here, named) (is, marked) = (tt, all_marked_by made marks conv given so named marked)
all_marked_by made marks conv (commands.Close side ∷ given) so (here, named) (is, marked) = (tt, all_marked_by made marks conv given so named marked)
all_marked_by made marks conv (commands.Dial server address inside ∷ given) so (here, named) (is, marked) = (tt, all_marked_by made marks conv given so named marked)
all_marked_by made marks conv (commands.Ask ask flow ∷ given) so (here, named) (is, marked) = (tt, all_marked_by made marks conv given so named marked)
all_marked_by made marks conv (commands.Done flow ∷ given) so (here, named) (is, marked) =
    (marked_done made marks conv flow so here is, all_marked_by made marks conv given so named marked)

-- behind steps that ask nothing and answer nothing
abbrev pending_over : List Step → Pending → Pending
pending_over more before = record { given = before.given; shown = shown_over more before.shown }

module _ {S : Type 0} (answers : Answering S) (due : Due) (course : Course S) where
  -- steps that ask nothing and answer nothing
  over_quiet : (trace more : Trace) (now : AnswererState S) (pending : Pending) → Answers answers due course trace now pending → NoneAnswers more → AllMarkedBy course.operations more →
      Answers answers due course (trace ++ more) now (pending_over more pending)
  over_quiet trace [] now pending before none marked = let P : Trace → Type 0 = λ t. Answers answers due course t now pending in subst P (sym (append-nil trace)) before
  over_quiet trace (step ∷ more) now pending before (here, none) (mark, marked) =
      let P : Trace → Type 0 = λ t. Answers answers due course t now (pending_over (step ∷ more) pending) in
      subst P (append_assoc trace (step ∷ []) more)
      (over_quiet (trace ++ step ∷ []) more now (pending_over (step ∷ []) pending) (at_other course trace (trace ++ step ∷ []) now pending step before refl here mark) none marked)

  module _ (pending : Pending) (conv : ℕ) where
    -- a step that asks nothing and answers nothing
    pub follows_step : (draft : Option Waiting) (marks : ℕ → Bool) (shown : ℕ → ℕ → Option Flow) (now : AnswererState S) (trace : Trace) (step : Step) →
        Follows answers due course pending conv (record { draft = draft; marks = marks; shown = shown conv }) now trace → IsNoAnswer step → IsMarkedBy course.operations step → FinishesOwn conv step →
        Follows answers due course pending conv (record { draft = draft; marks = marks; shown = shown_behind step shown conv }) now (trace ++ step ∷ [])
    follows_step draft marks shown now trace step f quiet marked own = record {
      pending = pending_over (step ∷ []) f.pending;
      answered = at_other course trace (trace ++ step ∷ []) now f.pending step f.answered refl quiet marked;
      here = f.here ∙ ap (λ h. waiting h draft) (sym (hook_step conv trace step quiet));
      others = f.others;
      marks = f.marks;
      shown = λ index. behind_same step conv index f.pending.shown shown (f.shown index);
      shown_others = λ other index apart. behind_other conv step other index f.pending.shown own apart ∙ f.shown_others other index apart;
    }

    -- so is something heard
    pub follows_heard : (kept : Kept) (now : AnswererState S) (trace : Trace) (moment : ℕ) (heard : Heard) → Follows answers due course pending conv kept now trace →
        Follows answers due course pending conv kept now (trace ++ steps.Heard moment heard ∷ [])
    follows_heard kept now trace moment heard f = record {
      pending = f.pending;
      answered = at_other course trace (trace ++ steps.Heard moment heard ∷ []) now f.pending (steps.Heard moment heard) f.answered refl tt tt;
      here = f.here ∙ ap (λ h. waiting h kept.draft) (sym (hook_step conv trace (steps.Heard moment heard) tt));
      others = f.others;
      marks = f.marks;
      shown = f.shown;
      shown_others = f.shown_others;
    }

    -- the commands of a call are told
    pub follows_told : (draft : Option Waiting) (marks : ℕ → Bool) (shown : ℕ → ℕ → Option Flow) (now : AnswererState S) (given : List Command) (question : Option Question) (trace : Trace)
        (last : Option Ask) → AllNamed conv given → AllMarkedOn marks given → AsksInTurn (open_hook conv trace) given last → question ≡ asked_from None given → IsAbout due conv trace question →
        Follows answers due course pending conv (record { draft = draft; marks = marks; shown = shown conv }) now trace →
        FollowsTo answers due course pending conv (record { draft = draft; marks = marks; shown = shown_told given shown conv }) now (trace ++ map (step_of conv) given) question
    follows_told draft marks shown now [] question trace last named marked turn is it f =
        let kept : Kept = record { draft = draft; marks = marks; shown = shown conv } in
        let P : Option Question → Type 0 = FollowsTo answers due course pending conv kept now (trace ++ []) in
        let Q : Trace → Type 0 = Follows answers due course pending conv kept now in
        subst P (sym is) (subst Q (sym (append-nil trace)) f)
    follows_told draft marks shown now (commands.Send side text ∷ given) question trace last named marked turn is it f =
        let command = commands.Send side text in
        let P : Trace → Type 0 = λ t. FollowsTo answers due course pending conv (record { draft = draft; marks = marks; shown = shown_told given shown conv }) now t question in
        subst P (append_assoc trace (step_of conv command ∷ []) (map (step_of conv) given))
        (follows_told draft marks shown now given question (trace ++ step_of conv command ∷ []) last named.1 marked.1 (turn_on conv trace command given last turn) is
        (about_on due conv trace command question it) (follows_step draft marks shown now trace (step_of conv command) f tt tt tt))
    follows_told draft marks shown now (commands.Close side ∷ given) question trace last named marked turn is it f =
        let command = commands.Close side in
        let P : Trace → Type 0 = λ t. FollowsTo answers due course pending conv (record { draft = draft; marks = marks; shown = shown_told given shown conv }) now t question in
        subst P (append_assoc trace (step_of conv command ∷ []) (map (step_of conv) given))
        (follows_told draft marks shown now given question (trace ++ step_of conv command ∷ []) last named.1 marked.1 (turn_on conv trace command given last turn) is
        (about_on due conv trace command question it) (follows_step draft marks shown now trace (step_of conv command) f tt tt tt))
    follows_told draft marks shown now (commands.Dial server address inside ∷ given) question trace last named marked turn is it f =
        let command = commands.Dial server address inside in
        let P : Trace → Type 0 = λ t. FollowsTo answers due course pending conv (record { draft = draft; marks = marks; shown = shown_told given shown conv }) now t question in
        subst P (append_assoc trace (step_of conv command ∷ []) (map (step_of conv) given))
        (follows_told draft marks shown now given question (trace ++ step_of conv command ∷ []) last named.1 marked.1 (turn_on conv trace command given last turn) is
        (about_on due conv trace command question it) (follows_step draft marks shown now trace (step_of conv command) f tt tt tt))
    follows_told draft marks shown now (commands.Done flow ∷ given) question trace last named marked turn is it f =
        let command = commands.Done flow in
        let next = with_shown flow.id.conv flow.id.index None shown in
        let P : Trace → Type 0 = λ t. FollowsTo answers due course pending conv (record { draft = draft; marks = marks; shown = shown_told given next conv }) now t question in
        subst P (append_assoc trace (step_of conv command ∷ []) (map (step_of conv) given))
        (follows_told draft marks next now given question (trace ++ step_of conv command ∷ []) last named.1 marked.1 (turn_on conv trace command given last turn) is
        (about_on due conv trace command question it)
        (follows_step draft marks shown now trace (step_of conv command) f tt (marked_done course.operations marks conv flow f.marks named.0 marked.0) named.0))
    follows_told draft marks shown now (commands.Ask (asks.Dial server) flow ∷ given) question trace last named marked turn is it f = absurd named.0.1
    follows_told draft marks shown now (commands.Ask (asks.Hook index hook) flow ∷ given) question trace last named marked (none, turn) is it f =
        let ask : Ask = asks.Hook index hook in
        let q : Question = record { ask = ask; hook = hook; flow = flow } in
        let r = quiet_behind conv ask (Some q) given last turn in
        let same : question ≡ Some q = is ∙ r.asked in
        let next = with_shown flow.id.conv flow.id.index (Some flow) shown in
        let kept : Kept = record { draft = draft; marks = marks; shown = shown_told given next conv } in
        let P : Option Question → Type 0 = FollowsTo answers due course pending conv kept now (trace ++ steps.Asked conv ask ∷ map (step_of conv) given) in
        let Q : Option Question → Type 0 = IsAbout due conv trace in
        let to : IsToAsk answers due course pending conv kept now (trace ++ steps.Asked conv ask ∷ map (step_of conv) given) q = record {
          prefix = trace;
          behind = map (step_of conv) given;
          is = sym (append_assoc trace (steps.Asked conv ask ∷ []) (map (step_of conv) given));
          quiet = r.quiet;
          own = all_own conv given named.1;
          marked_behind = all_marked_by course.operations marks conv given f.marks named.1 marked.1;
          was = shown conv;
          follows = f;
          free = none;
          last = subst Q same it;
          marked = marked.0 ∙ sym (f.marks flow.id.index);
          shown = λ place.
              over_told conv ask given last conv place (with_shown conv flow.id.index (Some flow) f.pending.shown) turn
              ∙ told_same given conv place (with_shown conv flow.id.index (Some flow) f.pending.shown) next
              (with_same conv flow.id.index conv place (Some flow) f.pending.shown shown (f.shown place)
              ∙ ap (λ n. with_shown n flow.id.index (Some flow) shown conv place) (sym named.0.0));
        } in
        subst P (sym same) to

    -- the answerer is asked, and gives this
    abbrev over_asked : {kept : Kept} {was : AnswererState S} {trace : Trace} (question : Question) (given : Answer) → IsToAsk answers due course pending conv kept was trace question → Pending
    over_asked question given t = pending_over t.behind (with_asked conv (just_given question.ask given) question.flow t.follows.pending)

    asked_on : (kept : Kept) (old new : AnswererState S) (trace : Trace) (question : Question) (given : Answer) → question.ask ≡ asks.Hook question.flow.id.index question.hook →
        answers question.hook question.flow old.own old.files new.own new.files given → (t : IsToAsk answers due course pending conv kept old trace question) →
        Answers answers due course trace new (over_asked question given t)
    asked_on kept old new trace question given named so t =
        let ask : Ask = asks.Hook question.flow.id.index question.hook in
        let prefix = t.prefix in
        let over : Ask → Pending = λ a. with_asked conv (just_given a given) question.flow t.follows.pending in
        let P : Ask → Type 0 = λ a. Answers answers due course (prefix ++ steps.Asked conv a ∷ []) new (over a) in
        let Q : Trace → Type 0 = λ l. Answers answers due course l new (over_asked question given t) in
        let R : Ask → Type 0 = λ a. IsAskedLast due prefix conv a question.flow in
        subst Q (sym t.is) (over_quiet (prefix ++ steps.Asked conv question.ask ∷ []) t.behind new (over question.ask)
        (subst P (sym named) (at_hook course prefix (prefix ++ steps.Asked conv ask ∷ []) old new t.follows.pending conv question.hook question.flow given t.follows.answered refl
        (t.follows.here ∙ ap (λ h. waiting h kept.draft) t.free) (subst R named t.last) t.marked so))
        t.quiet t.marked_behind)

    open_now : (kept : Kept) (old : AnswererState S) (trace : Trace) (question : Question) → IsToAsk answers due course pending conv kept old trace question →
        open_hook conv trace ≡ Some question.ask
    open_now kept old trace question t =
        ap (open_hook conv) t.is ∙ (hook_quiet conv (t.prefix ++ steps.Asked conv question.ask ∷ []) t.behind t.quiet ∙ hook_asked conv t.prefix question.ask)

    -- of flows of other conversations nothing else is shown
    asked_others : (kept : Kept) (old : AnswererState S) (trace : Trace) (question : Question) (given : Answer) (t : IsToAsk answers due course pending conv kept old trace question) →
        (other index : ℕ) → conv ≢ other → (over_asked question given t).shown other index ≡ pending.shown other index
    asked_others kept old trace question given t other index apart =
        over_other conv t.behind other index (with_shown conv question.flow.id.index (Some question.flow) t.follows.pending.shown) t.own apart
        ∙ (with_other conv question.flow.id.index other index (Some question.flow) t.follows.pending.shown apart ∙ t.follows.shown_others other index apart)

    -- a draft, with which the hook waits
    pub follows_wait : (was : Option Waiting) (marks : ℕ → Bool) (shown : ℕ → Option Flow) (draft : Draft) (old new : AnswererState S) (trace : Trace) (question : Question) →
        question.ask ≡ asks.Hook question.flow.id.index question.hook → answers question.hook question.flow old.own old.files new.own new.files (answer.Wait draft) →
        IsToAsk answers due course pending conv (record { draft = was; marks = marks; shown = shown }) old trace question →
        Follows answers due course pending conv (record { draft = Some (record { draft = draft; edited = None }); marks = marks; shown = shown }) new trace
    follows_wait was marks shown draft old new trace question named so t =
        let kept : Kept = record { draft = was; marks = marks; shown = shown } in
        let given : Option GivenTo = Some (just_given question.ask (answer.Wait draft)) in
        let waits : Waiting = record { draft = draft; edited = None } in
        record {
          pending = over_asked question (answer.Wait draft) t;
          answered = asked_on kept old new trace question (answer.Wait draft) named so t;
          here = pending_here conv given t.follows.pending.given ∙ ap (λ h. waiting h (Some waits)) (sym (open_now kept old trace question t));
          others = λ other apart. pending_other conv other given t.follows.pending.given apart ∙ t.follows.others other apart;
          marks = t.follows.marks;
          shown = t.shown;
          shown_others = asked_others kept old trace question (answer.Wait draft) t;
        }

    -- a reply, which is that hook's answer
    pub follows_reply : (kept : Kept) (reply : Reply) (old new : AnswererState S) (trace : Trace) (question : Question) → question.ask ≡ asks.Hook question.flow.id.index question.hook →
        answers question.hook question.flow old.own old.files new.own new.files (answer.Reply reply) → IsToAsk answers due course pending conv kept old trace question →
        Follows answers due course pending conv kept new (trace ++ steps.Answered conv question.ask reply ∷ [])
    follows_reply kept reply old new trace question named so t =
        let given : Option GivenTo = Some (just_given question.ask (answer.Reply reply)) in
        let over = over_asked question (answer.Reply reply) t in
        record {
          pending = with_pending conv None over;
          answered = at_reply course trace (trace ++ steps.Answered conv question.ask reply ∷ []) new over conv question.ask reply
              (asked_on kept old new trace question (answer.Reply reply) named so t) refl (pending_here conv given t.follows.pending.given);
          here = pending_here conv None over.given ∙ ap (λ h. waiting h kept.draft) (sym (hook_answered conv trace question.ask reply));
          others = λ other apart.
              pending_other conv other None over.given apart ∙ (pending_other conv other given t.follows.pending.given apart ∙ t.follows.others other apart);
          marks = t.follows.marks;
          shown = t.shown;
          shown_others = asked_others kept old trace question (answer.Reply reply) t;
        }

-- a draft with what lines made of it
same_edits : (hook : Hook) (draft : Draft) (edited : Option Edited) → with_edits edited draft ≡ record draft { flow = flow_of (edited_at hook draft edited) }
same_edits hook draft None = refl
same_edits hook draft (Some edited) = refl

made_edits : (hook : Hook) (draft : Draft) (edited : Option Edited) (changes : List Edit) → edited_at hook draft edited ≡ changed_by changes (fresh hook draft.flow) →
    reply_of (with_edits edited draft) ≡ reply_of (edited_by hook changes draft)
made_edits hook draft edited changes made = ap reply_of (same_edits hook draft edited) ∙ ap (λ e. reply_of (record draft { flow = flow_of e })) made

-- what an operator makes of a draft comes of it
pub comes_released : (operation : Operation) (hook : Hook) (draft : Draft) (edited : Option Edited) (changes : List Edit) → edited_at hook draft edited ≡ changed_by changes (fresh hook draft.flow) →
    ComesTo hook (answer.Wait draft) (released_by operation (with_edits edited draft))
comes_released (operations.Resume id) hook draft edited changes made = inl (changes, made_edits hook draft edited changes made)
comes_released (operations.Kill id) hook draft edited changes made = inr refl
comes_released (operations.Edit id change) hook draft edited changes made = inl (changes, made_edits hook draft edited changes made)
comes_released (operations.Mark id) hook draft edited changes made = inl (changes, made_edits hook draft edited changes made)
comes_released (operations.DropAddon name) hook draft edited changes made = inl (changes, made_edits hook draft edited changes made)

-- one change more
pub changed_more : (changes : List Edit) (change : Edit) (first at next : Edited) → at ≡ changed_by changes first → changed change at ≡ Ok next → next ≡ changed_by (changes ++ change ∷ []) first
changed_more [] change first at next is so =
    let P : Edited → Type 0 = λ e. changed change e ≡ Ok next in
    sym (ap (kept first) (subst P is so))
changed_more (one ∷ changes) change first at next is so = changed_more changes change (behind first one) at next is so

-- an operation that is no mark makes none
pub any_more : (test : Operated → Bool) (made : List Operated) (last : Operated) → test last ≡ false → list_any test (made ++ last ∷ []) ≡ list_any test made
any_more test [] last none = ap (λ t. t || false) none
any_more test (first ∷ made) last none = ap (λ t. test first || t) (any_more test made last none)

no_mark : (operation : Operation) (id : FlowId) (conv index : ℕ) → answers_for operation ≡ Some id → is_mark_of conv index operation ≡ false
no_mark (operations.Resume other) id conv index is = refl
no_mark (operations.Kill other) id conv index is = refl
no_mark (operations.Edit other change) id conv index is = refl
no_mark (operations.Mark other) id conv index is = absurd (let no : None ≡ Some id = is in cc)
no_mark (operations.DropAddon name) id conv index is = refl

pub marked_released : {S : Type 0} (course : Course S) (trace : Trace) (operation : Operation) (id : FlowId) (conv index : ℕ) → answers_for operation ≡ Some id →
    is_marked (with_operation course trace operation).operations conv index ≡ is_marked course.operations conv index
marked_released course trace operation id conv index is =
    any_more (λ o. is_mark_of conv index o.operation) course.operations (operated trace operation) (no_mark operation id conv index is)

-- an operation, which answers the hook that waits
pub follows_release : {S : Type 0} (answers : Answering S) (due : Due) (course : Course S) (pending : Pending) (conv : ℕ) (was now_kept : Option Waiting) (marks : ℕ → Bool) (shown : ℕ → Option Flow)
    (now : AnswererState S) (trace : Trace) (operation : Operation) (id : FlowId) (hook : Hook) (held : Waiting) → answers_for operation ≡ Some id → id.conv ≡ conv → was ≡ Some held →
    open_hook conv trace ≡ Some (asks.Hook id.index hook) → Follows answers due course pending conv (record { draft = was; marks = marks; shown = shown }) now trace →
    Follows answers due (with_operation course trace operation) pending conv (record { draft = now_kept; marks = marks; shown = shown }) now
    (trace ++ steps.Answered conv (asks.Hook id.index hook) (released_by operation (with_edits held.edited held.draft)) ∷ [])
follows_release {S} answers due course pending conv was now_kept marks shown now trace operation id hook held for of is_kept opens f =
    let ask : Ask = asks.Hook id.index hook in
    let reply = released_by operation (with_edits held.edited held.draft) in
    let next = trace ++ steps.Answered conv ask reply ∷ [] in
    let made = with_operation course trace operation in
    let given : f.pending.given conv ≡ Some (record { ask = ask; answer = answer.Wait held.draft; edited = held.edited }) = f.here ∙ (ap (λ h. waiting h was) opens ∙ ap (waiting (Some ask)) is_kept) in
    let P : ℕ → Type 0 = λ n. f.pending.given n ≡ Some (record { ask = ask; answer = answer.Wait held.draft; edited = held.edited }) in
    let Q : ℕ → Type 0 = λ n. Answers answers due made next now (with_pending n None f.pending) in
    record {
      pending = with_pending conv None f.pending;
      answered = subst Q of (at_release course made trace next now f.pending operation id hook held.draft held.edited f.answered refl for (subst P (sym of) given)
          (ap (λ n. trace ++ steps.Answered n ask reply ∷ []) (sym of)));
      here = pending_here conv None f.pending.given ∙ ap (λ h. waiting h now_kept) (sym (hook_answered conv trace ask reply));
      others = λ other apart. pending_other conv other None f.pending.given apart ∙ f.others other apart;
      marks = λ index. marked_released course trace operation id conv index for ∙ f.marks index;
      shown = f.shown;
      shown_others = f.shown_others;
    }
