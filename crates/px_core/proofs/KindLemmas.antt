-- An answerer's answers are of their kind: each from where its hook was asked to where it is given.
use Rattle.std.proofs.Common.{◌≡◌, ◌≢◌, ◌⊎◌, inl, inr, ℕ, true, false, ◌==◌, List, [], ◌∷◌, ◌++◌, Option, Some, None, refl, ap, sym, ◌∙◌, subst, append_assoc, Ok}
use Rattle.std.proofs.lemmas.Bool.Decides.{eqb_tells}
use Rattle.px_message.specs.declared.flow.Flow.{Flow}
use Rattle.px_event.specs.declared.ask.Ask.{Ask}
use Rattle.px_event.specs.declared.ask.Ask.TheVariants as asks
use Rattle.px_event.specs.declared.ask.Hook.{Hook}
use Rattle.px_event.specs.declared.reply.Reply.{Reply}
use Rattle.px_event.specs.declared.step.Step.{Step}
use Rattle.px_event.specs.declared.step.Step.TheVariants as steps
use Rattle.px_event.specs.Trace.{Trace, Always}
use Rattle.px_event.proofs.TraceLemmas.{always_empty, always_more}
use Rattle.px_core.specs.declared.answerer.Answer.{Answer}
use Rattle.px_core.specs.declared.answerer.Answer.TheVariants as answer
use Rattle.px_core.specs.declared.answerer.Draft.{Draft}
use Rattle.px_core.specs.Drafts.{ComesTo, edited_at, released_by, with_edits}
use Rattle.px_core.specs.Answered.{GivenTo, Pending, RestsBy, with_given, with_pending, with_asked, IsNoAnswer, Answers, at_first, at_hook, at_reply, at_other, at_change, at_mark, at_edit, at_release, just_given, left_waiting}
use Rattle.px_core.specs.Answers.{Answering, AnswererState}
use Rattle.px_core.specs.Course.{AllAre, Change, Course, IsFrontOf, KeepsOwn, change}
use Rattle.px_core.specs.Due.{Due, IsAskedLast}
use Rattle.px_core.specs.Hooks.{IsAllAnswered, open_hook}
use Rattle.px_core.specs.Kind.{KeepsKind, LeavesAlone, AllLeaveAlone, IsOfKind, EndsOfKind}
use Rattle.px_core.proofs.CourseLemmas.{begins_so, last_is, made_are}
use Rattle.px_core.proofs.AnsweredLemmas.{changed_more, comes_released, pending_here, pending_other}
use Rattle.px_core.proofs.ServedLemmas.{last_step}
use Rattle.px_draft.specs.declared.edit.Edit.{Edit}
use Rattle.px_draft.specs.declared.edited.Edited.{Edited}
use Rattle.px_draft.specs.Edits.{changed, changed_by, fresh}

alone_more : (conv : ℕ) (trace : Trace) (step : Step) → AllLeaveAlone conv trace → LeavesAlone conv step → AllLeaveAlone conv (trace ++ step ∷ [])
alone_more conv [] step all here = (here, tt)
alone_more conv (s ∷ trace) step (first, all) here = (first, alone_more conv trace step all here)

quiet_alone : (conv : ℕ) (step : Step) → IsNoAnswer step → LeavesAlone conv step
quiet_alone conv (steps.Heard moment heard) quiet = tt
quiet_alone conv (steps.Begun number) quiet = tt
quiet_alone conv (steps.Asked number ask) quiet = absurd quiet
quiet_alone conv (steps.Answered number ask reply) quiet = absurd quiet
quiet_alone conv (steps.Said number what) quiet = tt
quiet_alone conv (steps.Done flow) quiet = tt

no_end : (prefix : Trace) (step : Step) → [] ≡ prefix ++ step ∷ [] → ⊥
no_end [] step e = cc
no_end (s ∷ prefix) step e = cc

none_given : (given : GivenTo) → None ≡ Some given → ⊥
none_given given e = cc

same_given : (a b : GivenTo) → Some a ≡ Some b → a ≡ b
same_given a b e = cc

same_hook : (a b : ℕ) (one other : Hook) → asks.Hook a one ≡ asks.Hook b other → one ≡ other
same_hook a b one other e = cc

-- what lines made of a draft that waits was made by changes
abbrev IsMade : Ask → Answer → Option Edited → Type 0
IsMade (asks.Hook index hook) (answer.Wait draft) edited = (changes : List Edit) × (edited_at hook draft edited ≡ changed_by changes (fresh hook draft.flow))
IsMade _ _ edited = Unit {0}

just_made : (index : ℕ) (hook : Hook) (given : Answer) → IsMade (asks.Hook index hook) given None
just_made index hook (answer.Reply reply) = tt
just_made index hook (answer.Wait draft) = ([], refl)

-- what is pending, where one conversation's has changed
pending_is : (P : ℕ → GivenTo → Type 0) (conv : ℕ) (now : Option GivenTo) (before : ℕ → Option GivenTo) → ((given : GivenTo) → now ≡ Some given → P conv given) →
    ((other : ℕ) (given : GivenTo) → conv ≢ other → before other ≡ Some given → P other given) →
    (other : ℕ) (given : GivenTo) → with_given conv now before other ≡ Some given → P other given
pending_is P conv now before here there other given e = by (eqb_tells conv other)
  where
    by : ((conv == other) ≡ true) × (conv ≡ other) ⊎ ((conv == other) ≡ false) × (conv ≢ other) → P other given
    by (inl h) =
        let Q : ℕ → Type 0 = λ n. with_given conv now before n ≡ Some given → P n given in
        subst Q h.1 (λ is. here given (sym (pending_here conv now before) ∙ is)) e
    by (inr h) = there other given h.1 (sym (pending_other conv other now before h.1) ∙ e)

module _ (gives : Hook → Flow → Answer → Type 0) (due : Due) where
  -- one step more, which leaves the conversation alone
  kind_grown : (trace next : Trace) (step : Step) (conv : ℕ) (ask : Ask) (given : Answer) → next ≡ trace ++ step ∷ [] → LeavesAlone conv step →
      IsOfKind gives due trace conv ask given → IsOfKind gives due next conv ask given
  kind_grown trace next step conv ask given is apart k = record {
    prefix = k.prefix;
    rest = k.rest ++ step ∷ [];
    split = is ∙ (ap (λ t. t ++ step ∷ []) k.split ∙ append_assoc k.prefix (steps.Asked conv ask ∷ k.rest) (step ∷ []));
    alone = alone_more conv k.rest step k.alone apart;
    hook = k.hook;
    flow = k.flow;
    asked = k.asked;
    last = k.last;
    gives_so = k.gives_so;
  }

  -- where the step behind a trace is an answer, it comes from one of the kind
  abbrev IsSo : Trace → Step → Type 0
  IsSo trace (steps.Answered conv ask reply) = (given : Answer) × (kind : IsOfKind gives due trace conv ask given) × ComesTo kind.hook given reply
  IsSo trace _ = Unit {0}

  quiet_so : (trace : Trace) (step : Step) → IsNoAnswer step → IsSo trace step
  quiet_so trace (steps.Heard moment heard) quiet = tt
  quiet_so trace (steps.Begun number) quiet = tt
  quiet_so trace (steps.Asked number ask) quiet = tt
  quiet_so trace (steps.Answered number ask reply) quiet = absurd quiet
  quiet_so trace (steps.Said number what) quiet = tt
  quiet_so trace (steps.Done flow) quiet = tt

  ends_so : (trace : Trace) (step : Step) → IsSo trace step → EndsOfKind gives due (trace ++ step ∷ [])
  ends_so trace step so prefix conv ask reply e =
      let last = last_step trace prefix step (steps.Answered conv ask reply) e in
      let P : Trace → Type 0 = λ t. IsSo t (steps.Answered conv ask reply) in
      let Q : Step → Type 0 = IsSo trace in
      subst P (sym last.0) (subst Q (sym last.1) so)

  always_so : (trace next : Trace) (step : Step) → next ≡ trace ++ step ∷ [] → IsSo trace step → Always (EndsOfKind gives due) trace → Always (EndsOfKind gives due) next
  always_so trace next step is so before =
      let P : Trace → Type 0 = Always (EndsOfKind gives due) in
      subst P (sym is) (always_more (EndsOfKind gives due) trace step before (ends_so trace step so))

module _ {S : Type 0} (answers : Answering S) (due : Due) (is : S → Type 0) (gives : Hook → Flow → Answer → Type 0) (keeps : KeepsKind answers is gives) where
  -- The answerer's own state is so, what is pending was given where its hook was asked, and each reply is of the kind.
  pub record Kept (trace : Trace) (now : AnswererState S) (pending : Pending) : Type 0 where
    pub so : is now.own
    pub given : (conv : ℕ) (g : GivenTo) → pending.given conv ≡ Some g → IsOfKind gives due trace conv g.ask g.answer
    pub made : (conv : ℕ) (g : GivenTo) → pending.given conv ≡ Some g → IsMade g.ask g.answer g.edited
    pub of_kind : Always (EndsOfKind gives due) trace

  hook_kept : (trace next : Trace) (old new : AnswererState S) (was : Pending) (conv : ℕ) (hook : Hook) (flow : Flow) (given : Answer) →
      next ≡ trace ++ steps.Asked conv (asks.Hook flow.id.index hook) ∷ [] → IsAskedLast due trace conv (asks.Hook flow.id.index hook) flow →
      answers hook flow old.own old.files new.own new.files given → Kept trace old was →
      Kept next new (with_asked conv (just_given (asks.Hook flow.id.index hook) given) flow was)
  hook_kept trace next old new was conv hook flow given split last answered k =
      let ask : Ask = asks.Hook flow.id.index hook in
      let now : GivenTo = just_given ask given in
      let here : IsOfKind gives due next conv ask given = record {
        prefix = trace;
        rest = [];
        split = split;
        alone = tt;
        hook = hook;
        flow = flow;
        asked = refl;
        last = last;
        gives_so = keeps.gives_so hook flow old.own old.files new.own new.files given k.so answered;
      } in
      let P : ℕ → GivenTo → Type 0 = λ n g. IsOfKind gives due next n g.ask g.answer in
      let Q : GivenTo → Type 0 = P conv in
      let M : ℕ → GivenTo → Type 0 = λ n g. IsMade g.ask g.answer g.edited in
      let N : GivenTo → Type 0 = M conv in
      record {
        so = keeps.stays hook flow old.own old.files new.own new.files given k.so answered;
        given = pending_is P conv (Some now) was.given (λ g e. subst Q (same_given now g e) here)
            (λ other g apart e. kind_grown gives due trace next (steps.Asked conv ask) other g.ask g.answer split apart (k.given other g e));
        made = pending_is M conv (Some now) was.given (λ g e. subst N (same_given now g e) (just_made flow.id.index hook given)) (λ other g apart e. k.made other g e);
        of_kind = always_so gives due trace next (steps.Asked conv ask) split tt k.of_kind;
      }

  reply_kept : (trace next : Trace) (now : AnswererState S) (was : Pending) (conv : ℕ) (ask : Ask) (reply : Reply) → next ≡ trace ++ steps.Answered conv ask reply ∷ [] →
      (given : GivenTo) → given.ask ≡ ask → was.given conv ≡ Some given → (k : Kept trace now was) → ((is_given : was.given conv ≡ Some given) → ComesTo (k.given conv given is_given).hook given.answer reply) →
      Kept next now (with_pending conv None was)
  reply_kept trace next now was conv ask reply split given same is_given k comes =
      let P : ℕ → GivenTo → Type 0 = λ n g. IsOfKind gives due next n g.ask g.answer in
      let M : ℕ → GivenTo → Type 0 = λ n g. IsMade g.ask g.answer g.edited in
      let Q : Ask → Type 0 = λ a. (what : Answer) × (kind : IsOfKind gives due trace conv a what) × ComesTo kind.hook what reply in
      record {
        so = k.so;
        given = pending_is P conv None was.given (λ g e. absurd (none_given g e))
            (λ other g apart e. kind_grown gives due trace next (steps.Answered conv ask reply) other g.ask g.answer split apart (k.given other g e));
        made = pending_is M conv None was.given (λ g e. absurd (none_given g e)) (λ other g apart e. k.made other g e);
        of_kind = always_so gives due trace next (steps.Answered conv ask reply) split (subst Q same (given.answer, k.given conv given is_given, comes is_given)) k.of_kind;
      }

  -- one change of a draft that waits
  edit_kept : (trace : Trace) (now : AnswererState S) (was : Pending) (conv index : ℕ) (edit : Edit) (hook : Hook) (draft : Draft) (edits : Option Edited) (edited : Edited) →
      was.given conv ≡ Some (left_waiting index hook draft edits) → changed edit (edited_at hook draft edits) ≡ Ok edited → Kept trace now was →
      Kept trace now (with_pending conv (Some (left_waiting index hook draft (Some edited))) was)
  edit_kept trace now was conv index edit hook draft edits edited waits changes k =
      let before : GivenTo = left_waiting index hook draft edits in
      let after : GivenTo = left_waiting index hook draft (Some edited) in
      let made_by = k.made conv before waits in
      let P : ℕ → GivenTo → Type 0 = λ n g. IsOfKind gives due trace n g.ask g.answer in
      let Q : GivenTo → Type 0 = P conv in
      let M : ℕ → GivenTo → Type 0 = λ n g. IsMade g.ask g.answer g.edited in
      let N : GivenTo → Type 0 = M conv in
      record {
        so = k.so;
        given = pending_is P conv (Some after) was.given (λ g e. subst Q (same_given after g e) (k.given conv before waits)) (λ other g apart e. k.given other g e);
        made = pending_is M conv (Some after) was.given
            (λ g e. subst N (same_given after g e) (made_by.0 ++ edit ∷ [], changed_more made_by.0 edit (fresh hook draft.flow) (edited_at hook draft edits) edited made_by.1 changes))
            (λ other g apart e. k.made other g e);
        of_kind = k.of_kind;
      }

  pub kept : (course : Course S) → is course.first.own → AllAre (KeepsOwn is) course.changes → (trace : Trace) (now : AnswererState S) (pending : Pending) →
      Answers answers due course trace now pending → Kept trace now pending
  kept course begins stay trace now pending (at_first c none no_operations) = record {
    so = begins;
    given = λ conv g e. absurd (none_given g e);
    made = λ conv g e. absurd (none_given g e);
    of_kind = always_empty (EndsOfKind gives due) (λ prefix conv ask reply e. absurd (no_end prefix (steps.Answered conv ask reply) e));
  }
  kept course begins stay whole now pending (at_hook c trace next old new was conv hook flow given before split free last marked so) =
      hook_kept trace whole old now was conv hook flow given split last so (kept course begins stay trace old was before)
  kept course begins stay whole now pending (at_reply c trace next state was conv ask reply before split is_given) =
      reply_kept trace whole now was conv ask reply split (just_given ask (answer.Reply reply)) refl is_given (kept course begins stay trace now was before) (λ is. refl)
  kept course begins stay whole now pending (at_other c trace next state was step before split quiet marked) =
      let k = kept course begins stay trace now was before in
      record {
        so = k.so;
        given = λ conv g e. kind_grown gives due trace whole step conv g.ask g.answer split (quiet_alone conv step quiet) (k.given conv g e);
        made = k.made;
        of_kind = always_so gives due trace whole step split (quiet_so gives due trace step quiet) k.of_kind;
      }
  kept course begins stay whole now pending (at_change made next trace old new was before split) =
      let P : AnswererState S → Type 0 = λ state. is state.own in
      let Q : List (Change S) → Type 0 = AllAre (KeepsOwn is) in
      let all = last_is (KeepsOwn is) made.changes (change whole old now) (subst Q (ap (λ c. c.changes) split) stay) in
      let k = kept made (subst P (ap (λ c. c.first) split) begins) all.0 whole old pending before in
      record { so = all.1 k.so; given = k.given; made = k.made; of_kind = k.of_kind }
  kept course begins stay whole now pending (at_mark made next trace state was id before split) =
      let P : AnswererState S → Type 0 = λ state. is state.own in
      let Q : List (Change S) → Type 0 = AllAre (KeepsOwn is) in
      kept made (subst P (ap (λ c. c.first) split) begins) (subst Q (ap (λ c. c.changes) split) stay) whole now pending before
  kept course begins stay whole now pending (at_edit made next trace state was id edit hook draft edits edited before split waits changes) =
      let P : AnswererState S → Type 0 = λ state. is state.own in
      let Q : List (Change S) → Type 0 = AllAre (KeepsOwn is) in
      edit_kept whole now was id.conv id.index edit hook draft edits edited waits changes
      (kept made (subst P (ap (λ c. c.first) split) begins) (subst Q (ap (λ c. c.changes) split) stay) whole now was before)
  kept course begins stay whole now pending (at_release made c trace next state was operation id hook draft edited before split for waits grown) =
      let P : AnswererState S → Type 0 = λ state. is state.own in
      let Q : List (Change S) → Type 0 = AllAre (KeepsOwn is) in
      let k = kept made (subst P (ap (λ c. c.first) split) begins) (subst Q (ap (λ c. c.changes) split) stay) trace now was before in
      let given : GivenTo = left_waiting id.index hook draft edited in
      reply_kept trace whole now was id.conv (asks.Hook id.index hook) (released_by operation (with_edits edited draft)) grown given refl waits k
      (λ is_given.
      let kind = k.given id.conv given is_given in
      let made_by = k.made id.conv given is_given in
      let C : Hook → Type 0 = λ h. ComesTo h (answer.Wait draft) (released_by operation (with_edits edited draft)) in
      subst C (same_hook id.index kind.flow.id.index hook kind.hook kind.asked) (comes_released operation hook draft edited made_by.0 made_by.1))

  -- with the first changes of a course
  pub kept_in : (course made : Course S) → IsFrontOf course made → is course.first.own → AllAre (KeepsOwn is) course.changes → (trace : Trace) (now : AnswererState S) (pending : Pending) →
      Answers answers due made trace now pending → Kept trace now pending
  kept_in course made prefix begins stay trace now pending a =
      kept made (begins_so is course made prefix begins) (made_are (KeepsOwn is) course made prefix stay) trace now pending a

  -- where no answer of the kind is to wait, every hook is answered at a rest
  pub none_waits : ((hook : Hook) (flow : Flow) (draft : Draft) → gives hook flow (answer.Wait draft) → ⊥) → (course : Course S) → is course.first.own → AllAre (KeepsOwn is) course.changes →
      (trace : Trace) → RestsBy answers due course trace → IsAllAnswered trace
  none_waits none course begins stay trace rests conv = by (open_hook conv trace) refl
    where
      all : Kept trace rests.now rests.pending
      all = kept_in course rests.made rests.front_of begins stay trace rests.now rests.pending rests.answered

      by : (hook : Option Ask) → open_hook conv trace ≡ hook → open_hook conv trace ≡ None
      by None opened = opened
      by (Some ask) opened =
          let given = rests.waits conv ask opened in
          let k = all.given conv (record { ask = ask; answer = answer.Wait given.0; edited = given.1 }) given.2 in
          absurd (none k.hook k.flow given.0 k.gives_so)
