-- Working off a conversation: telling its commands, answering its hook, letting it wait, and one after the other.
use Rattle.std.proofs.Common.{◌≡◌, inl, inr, ℕ, Bool, false, ◌+◌, ◌<◌, arith, List, [], ◌∷◌, ◌++◌, map, Option, Some, None, refl, ap, sym, ◌∙◌, subst, append_assoc, option_to_list}
use Rattle.std.specs.List.{flat_map}
use Rattle.std.proofs.lemmas.List.{append-nil}
use Rattle.px_event.specs.declared.ask.Ask.{Ask}
use Rattle.px_event.specs.declared.ask.Ask.TheVariants as asks
use Rattle.px_event.specs.declared.ask.Hook.{Hook}
use Rattle.px_event.specs.declared.reply.Reply.{Reply}
use Rattle.px_event.specs.declared.command.Command.{Command}
use Rattle.px_event.specs.declared.step.Step.{Step}
use Rattle.px_event.specs.declared.step.Step.TheVariants as steps
use Rattle.px_event.specs.Layer.{Move, Replied, Standing, Goes, asks_in}
use Rattle.px_event.specs.Trace.{Trace}
use Rattle.px_event.specs.View.{View, line, questions, course, flows, order, about, seen_of, seen_in, step_atoms}
use Rattle.px_core.specs.declared.answerer.Answer.{Answer}
use Rattle.px_core.specs.declared.answerer.Answer.TheVariants as answer
use Rattle.px_core.specs.declared.answerer.Draft.{Draft}
use Rattle.px_core.specs.declared.waiting.Waiting.{Waiting}
use Rattle.px_message.specs.declared.flow.Flow.{Flow}
use Rattle.px_core.specs.declared.flows.Flows.{Flows}
use Rattle.px_core.specs.declared.held.Held.{Held}
use Rattle.px_core.specs.declared.held.Question.{Question}
use Rattle.px_core.specs.Answers.{Answering, AnswererState}
use Rattle.px_core.specs.Calls.{Calls, calls, calls_of, calls_on, moved}
use Rattle.px_core.specs.Conversation.{AllNamed}
use Rattle.px_core.specs.Drafts.{ComesTo, released_by, with_edits}
use Rattle.px_core.specs.declared.operation.Operation.{Operation}
use Rattle.px_core.specs.Answered.{Pending}
use Rattle.px_core.specs.Course.{Course, with_operation}
use Rattle.px_core.specs.Due.{Due, due_by, due_in, IsMet, IsServed, Waits}
use Rattle.px_core.specs.Held.{step_of, AllOf, asked_from, dial_from, dial_of, IsSettled, IsNext, IsReady, IsAbout, IsDrafted, IsDraftedBut, IsDraftedBehind, IsKept, IsReleased, Kept, kept_of, Follows, FollowsTo, Replies, Releases, Within, WorkedTo, Asks, Works, ShowsTold, ShowsOthers, question_by, question_in, shown_by, shown_told, turns_left}
use Rattle.px_core.specs.Hooks.{open_hook, hook_of, AsksInTurn}
use Rattle.px_core.specs.Live.{shown_in}
use Rattle.px_core.specs.Runs.{has}
use Rattle.px_core.specs.Unmarked.{unmarked, all_unmarked, all_marked, mark_on, none_marked}
use Rattle.px_core.proofs.AnsweredLemmas.{all_own, comes_released, told_other, told_same, follows_told, follows_wait, follows_reply, follows_release}
use Rattle.px_core.proofs.AskLemmas.{asks_one, dial_now, quiet, IsTheQuestion}
use Rattle.px_core.proofs.CallLemmas.{calls_more, seen_more, same_number, told_calls}
use Rattle.px_core.proofs.HookLemmas.{hook_answered, one_turn, kept_on}
use Rattle.px_core.proofs.ServedLemmas.{due_is, within_due, told_all, served_step, ends_met}
use Rattle.px_core.proofs.ResultLemmas.{same_some}
use Rattle.px_core.proofs.SideLemmas.{servers_along, servers_same}
use Rattle.px_core.proofs.UnmarkedLemmas.{alike_marked, all_are_marked, asks_marked, dial_marked, named_marked, turn_marked, marked_append, unmarked_append}

own_append : (conv : ℕ) (xs ys : List Step) → AllOf conv xs → AllOf conv ys → AllOf conv (xs ++ ys)
own_append conv [] ys a b = b
own_append conv (x ∷ xs) ys (h, a) b = (h, own_append conv xs ys a b)

answered_seen : (view : View) (conv other : ℕ) (ask : Ask) (reply : Reply) → step_atoms view conv (steps.Answered other ask reply) ≡ []
answered_seen (line side) conv other ask reply = refl
answered_seen questions conv other ask reply = refl
answered_seen course conv other ask reply = refl
answered_seen flows conv other ask reply = refl
answered_seen order conv other ask reply = refl

answered_calls : (conv : ℕ) (c : Calls) (ask : Ask) (reply : Reply) → calls_on conv c (steps.Answered conv ask reply) ≡ moved (Replied c.moment reply) c
answered_calls conv c ask reply = rw (same_number conv) refl

-- what is alike goes on to be, with the same behind
pub alike_more : (given earlier more : List Command) → none_marked given ≡ none_marked (earlier ++ []) → none_marked (given ++ more) ≡ none_marked (earlier ++ more)
alike_more given earlier more alike =
    marked_append (λ index. false) given more
    ∙ (ap (λ l. l ++ none_marked more) (alike ∙ ap none_marked (append-nil earlier)) ∙ sym (marked_append (λ index. false) earlier more))

-- what is kept, by its parts
kept_same : (kept other : Kept) → kept.draft ≡ other.draft → kept.marks ≡ other.marks → ((index : ℕ) → kept.shown index ≡ other.shown index) → kept ≡ other
kept_same kept other draft marks shown = λ i. record { draft = draft i; marks = marks i; shown = λ index. shown index i }

module _ {C : Type 0} (standing : Standing C) (awaited : C → Option Ask) (number : C → ℕ) (made_due : C → List Move → List Command)
    (gave : (made state : C) (moves : List Move) (given : List Command) → standing made state moves given →
    (view : View) → seen_of view given ≡ seen_of view (made_due made moves))
    {S : Type 0} (answers : Answering S) where
  follows_as : (due : Due) (course : Course S) (pending : Pending) (conv : ℕ) (kept other : Kept) (now : AnswererState S) (trace : Trace) (question : Option Question) →
      kept.draft ≡ other.draft → kept.marks ≡ other.marks → ((index : ℕ) → kept.shown index ≡ other.shown index) →
      FollowsTo answers due course pending conv kept now trace question → FollowsTo answers due course pending conv other now trace question
  follows_as due by_course pending conv kept other now trace question draft marks shown f =
      let P : Kept → Type 0 = λ k. FollowsTo answers due by_course pending conv k now trace question in
      subst P (kept_same kept other draft marks shown) f

  -- the flow of the last hook among the commands that were told
  about_last : (due : Due) (conv : ℕ) (held : Held C) (trace after : Trace) (given : List Command) (awaits : Option Ask) (question : Option Question) →
      Within standing awaited number made_due due conv held trace given → due_by due conv (calls conv after) ≡ due_by due conv (calls conv trace) →
      ((q : Question) → question ≡ Some q → IsTheQuestion awaits given q) → IsAbout due conv after question
  about_last due conv held trace after given awaits None w same is = tt
  about_last due conv held trace after given awaits (Some q) w same is =
      let t = is q refl in
      let before = all_unmarked (seen_of flows w.earlier) in
      record {
        earlier = before ++ all_unmarked t.earlier;
        last = ap (λ l. all_unmarked (seen_of flows l)) same
            ∙ (due_is answers due standing awaited number made_due gave conv held trace given w flows
            ∙ (ap (λ l. before ++ l) (ap all_unmarked t.last ∙ unmarked_append t.earlier (about q.ask q.flow ∷ []))
            ∙ sym (append_assoc before (all_unmarked t.earlier) (about q.ask (unmarked q.flow) ∷ []))));
      }

  -- telling changes nothing of what is due
  same_due : (due : Due) (conv : ℕ) (given : List Command) (trace : Trace) →
      due_by due conv (calls conv (trace ++ map (step_of conv) given)) ≡ due_by due conv (calls conv trace)
  same_due due conv [] trace = ap (λ t. due_by due conv (calls conv t)) (append-nil trace)
  same_due due conv (command ∷ given) trace =
      ap (λ t. due_by due conv (calls conv t)) (sym (append_assoc trace (step_of conv command ∷ []) (map (step_of conv) given)))
      ∙ (same_due due conv given (trace ++ step_of conv command ∷ [])
      ∙ ap (due_by due conv) (calls_more conv trace (step_of conv command) ∙ told_calls conv (calls conv trace) command))

  next_of : (conv : ℕ) (held : Held C) (given : List Command) (question : Option Question) → AllNamed conv given → question ≡ asked_from None given →
      IsReady awaited held given → IsNext awaited held question × ((q : Question) → question ≡ Some q → IsTheQuestion (awaited held.conversation) given q)
  next_of conv held given None named is (inl one) =
      let a = asks_one conv (awaited held.conversation) None given named one in
      ((λ flow hook waits. absurd (a.no_question (sym is) flow hook waits)), (λ q no. absurd (let wrong : None ≡ Some q = no in cc)))
  next_of conv held given None named is (inr (none, settled)) = (settled, (λ q no. absurd (let wrong : None ≡ Some q = no in cc)))
  next_of conv held given (Some question) named is (inl one) =
      let a = asks_one conv (awaited held.conversation) None given named one in
      let t = a.question question (sym is) in
      ((t.awaited, t.hook), (λ q same. a.question q (sym is ∙ same)))
  next_of conv held given (Some question) named is (inr (none, settled)) =
      absurd (let no : Some question ≡ None = is ∙ (quiet given none None None).asked in cc)

  -- behind the commands of a call, where no question is left, the draft of a hook that is awaited is the one that was kept
  drafted_of : (due : Due) (conv : ℕ) (held : Held C) (trace after : Trace) (given : List Command) (question : Option Question) → AllNamed conv given →
      question ≡ asked_from None given → IsReady awaited held given → due_in due flows conv after ≡ due_in due flows conv trace →
      IsDraftedBehind awaited answers due conv held trace given → IsDraftedBut awaited answers due conv held after question
  drafted_of due conv held trace after given None named is (inl one) same kept = λ flow hook waits.
      absurd ((asks_one conv (awaited held.conversation) None given named one).no_question (sym is) flow hook waits)
  drafted_of due conv held trace after given None named is (inr (none, settled)) same kept = λ flow hook waits.
      kept_on answers due conv trace after (asks.Hook flow hook) held.draft same (kept none flow hook waits)
  drafted_of due conv held trace after given (Some question) named is ready same kept = tt

  -- the marks of flows change nothing of where it stands
  marked_within : (due : Due) (conv : ℕ) (held : Held C) (trace : Trace) (marks : ℕ → Bool) (given : List Command) → Within standing awaited number made_due due conv held trace given →
      Within standing awaited number made_due due conv held trace (all_marked marks given)
  marked_within due conv held trace marks given w = record {
    made = w.made;
    peer = w.peer;
    given = w.given;
    earlier = w.earlier;
    stands = w.stands;
    alike = w.alike ∙ (marked_append (λ index. false) w.earlier given
        ∙ (ap (λ l. none_marked w.earlier ++ l) (sym (alike_marked marks given)) ∙ sym (marked_append (λ index. false) w.earlier (all_marked marks given))));
    owes = w.owes;
    tells = w.tells;
    named = w.named;
    begun = w.begun;
    servers = w.servers;
    dial = dial_marked marks (calls conv trace).dial given ∙ w.dial;
    turn = turn_marked marks (open_hook conv trace) given (hook_of (awaited held.conversation)) w.turn;
  }

  marked_ready : (held : Held C) (marks : ℕ → Bool) (given : List Command) → IsReady awaited held given → IsReady awaited held (all_marked marks given)
  marked_ready held marks given (inl one) = inl (asks_marked marks given ∙ one)
  marked_ready held marks given (inr (none, settled)) = inr (asks_marked marks given ∙ none, settled)

  -- of flows of other conversations that name this one nothing else is shown
  told_others : (conv : ℕ) (given : List Command) (shown new_shown : Flows) → AllNamed conv given → ShowsTold given shown new_shown → ShowsOthers conv shown new_shown
  told_others conv given shown new_shown named shows other index apart = shows other index ∙ told_other conv given other index (shown_in shown) named apart

  -- the commands of a call are told
  pub tell_works : (conv moment : ℕ) {state : AnswererState S} (held : Held C) (shown new_shown : Flows) (given : List Command) (question : Option Question) (out new_out : List Step) →
      AllNamed conv given → IsReady awaited held given → question ≡ asked_from None (all_marked (has held.marks) given) →
      new_out ≡ out ++ map (step_of conv) (all_marked (has held.marks) given) → ShowsTold (all_marked (has held.marks) given) shown new_shown →
      Works standing awaited number made_due answers conv moment given held held shown new_shown state state question out new_out
  tell_works conv moment {state} held shown new_shown given question out new_out named_raw ready_raw asked grown shows =
      let marks = has held.marks in
      let told_now = all_marked marks given in
      let named = named_marked marks conv given named_raw in
      let ready = marked_ready held marks given ready_raw in
      let next = next_of conv held told_now question named asked ready in
      record {
        more = map (step_of conv) told_now;
        grown = grown;
        own = all_own conv told_now named;
        works = λ due course pending trace w_raw now served kept follows.
            let w = marked_within due conv held trace marks given w_raw in
            let told = told_all answers due standing awaited number made_due gave conv moment held told_now trace w now served named in
            let after = trace ++ map (step_of conv) told_now in
            let kept_now : Kept = record { draft = held.draft; marks = marks; shown = shown_told told_now (shown_in shown) conv } in
            record {
              within = told.within;
              now = told.now;
              served = told.served;
              last = about_last due conv held trace after told_now (awaited held.conversation) question w (same_due due conv told_now trace) next.1;
              drafted = drafted_of due conv held trace after told_now question named asked ready (ap (seen_of flows) (same_due due conv told_now trace))
                  (λ none. kept (sym (asks_marked marks given) ∙ none));
              follows = follows_as due course pending conv kept_now (kept_of conv held new_shown) state after question refl refl (λ index. sym (shows conv index))
                  (follows_told answers due course pending conv held.draft marks (shown_in shown) state told_now question trace (hook_of (awaited held.conversation)) named
                  (all_are_marked marks given) w.turn asked (about_last due conv held trace trace told_now (awaited held.conversation) question w refl next.1) follows);
            };
        next = next.0;
        others = told_others conv told_now shown new_shown named shows;
      }

  pub tell_next : (conv : ℕ) (held : Held C) (given : List Command) (question : Option Question) → AllNamed conv given → IsReady awaited held given →
      question ≡ asked_from None (all_marked (has held.marks) given) → IsNext awaited held question
  tell_next conv held given question named ready asked =
      let marks = has held.marks in
      (next_of conv held (all_marked marks given) question (named_marked marks conv given named) asked (marked_ready held marks given ready)).0

  -- a hook that waits
  pub wait_works : (conv moment : ℕ) (question : Question) (draft : Draft) (before after : Held C) (shown : Flows) (out new_out : List Step)
      (old new : AnswererState S) → IsNext awaited before (Some question) →
      (given_answer : Answer) → answers question.hook question.flow old.own old.files new.own new.files given_answer → given_answer ≡ answer.Wait draft →
      after.conversation ≡ before.conversation → after.connected ≡ before.connected → after.draft ≡ Some (record { draft = draft; edited = None }) → after.marks ≡ before.marks → new_out ≡ out → IsSettled awaited after →
      Asks standing awaited number made_due answers conv moment (Some question) before after shown shown old new None out new_out
  wait_works conv moment question draft before after shown out new_out old new next_before given_answer met is same sides kept marks_kept grown settled = record {
    more = [];
    grown = grown ∙ sym (append-nil out);
    own = tt;
    works = λ due course pending trace at.
        let P : Trace → Type 0 = WorkedTo standing awaited number made_due answers due course pending conv moment after shown new None in
        let gives_so : Answer → Type 0 = λ a. answers question.hook question.flow old.own old.files new.own new.files a in
        let kept_now : Kept = record { draft = Some (record { draft = draft; edited = None }); marks = has before.marks; shown = shown_in shown conv } in
        let w = at.within in
        let Q : C → Type 0 = λ s. standing w.made s (calls_of conv trace) w.given in
        subst P (sym (append-nil trace)) (record {
          within = record {
            made = w.made;
            peer = w.peer;
            given = w.given;
            earlier = w.earlier;
            stands = subst Q (sym same) w.stands;
            alike = w.alike;
            owes = w.owes;
            tells = w.tells;
            named = ap number same ∙ w.named;
            begun = w.begun;
            servers = servers_same (has before.connected) (has after.connected) (calls conv trace).connected (λ n. ap (λ r. has r n) (sym sides)) w.servers;
            dial = w.dial ∙ ap (λ s. dial_of (awaited s)) (sym same);
            turn = w.turn ∙ ap (λ s. hook_of (awaited s)) (sym same);
          };
          now = at.now;
          served = at.served;
          last = tt;
          drafted = λ flow hook waits.
              let ask : Ask = asks.Hook flow hook in
              let is_asked : question.ask ≡ ask = same_some question.ask ask (sym next_before.0 ∙ (ap awaited (sym same) ∙ waits)) in
              let R : Ask → Type 0 = λ a. Waits answers due trace conv a draft in
              record {
                draft = draft;
                edited = None;
                is = kept;
                waits = subst R is_asked (record {
                  hook = question.hook;
                  flow = question.flow;
                  asked = next_before.1;
                  last = at.last;
                  old = old.own;
                  old_files = old.files;
                  new = new.own;
                  new_files = new.files;
                  answers_so = subst gives_so is met;
                });
                changes = [];
                made = refl;
              };
          follows = follows_as due course pending conv kept_now (kept_of conv after shown) new trace None (sym kept) (ap (λ r. has r) (sym marks_kept)) (λ index. refl)
              (follows_wait answers due course pending conv before.draft (has before.marks) (shown_in shown conv) draft old new trace question next_before.1 (subst gives_so is met) at.follows);
        });
    next = settled;
    others = λ other index apart. refl;
  }

  -- where only the draft differs
  taken_within : (due : Due) (conv : ℕ) (before taken : Held C) (trace : Trace) → taken.conversation ≡ before.conversation → taken.connected ≡ before.connected →
      Within standing awaited number made_due due conv before trace [] → Within standing awaited number made_due due conv taken trace []
  taken_within due conv before taken trace same sides w =
      let Q : C → Type 0 = λ s. standing w.made s (calls_of conv trace) w.given in
      record {
        made = w.made;
        peer = w.peer;
        given = w.given;
        earlier = w.earlier;
        stands = subst Q (sym same) w.stands;
        alike = w.alike;
        owes = w.owes;
        tells = w.tells;
        named = ap number same ∙ w.named;
        begun = w.begun;
        servers = servers_same (has before.connected) (has taken.connected) (calls conv trace).connected (λ n. ap (λ r. has r n) (sym sides)) w.servers;
        dial = w.dial ∙ ap (λ s. dial_of (awaited s)) (sym same);
        turn = w.turn ∙ ap (λ s. hook_of (awaited s)) (sym same);
      }

  -- an answer stands in the trace
  answered_within : (due : Due) (conv moment : ℕ) (ask : Ask) (reply : Reply) (before after : Held C) (trace : Trace) (given : List Command) →
      Within standing awaited number made_due due conv before trace [] → (calls conv trace).moment ≡ moment → number after.conversation ≡ conv →
      dial_of (awaited before.conversation) ≡ None → AllNamed conv given →
      Goes standing before.conversation after.conversation (Replied moment reply) [] given →
      flat_map asks_in given ≡ option_to_list (awaited after.conversation) → after.connected ≡ before.connected →
      Within standing awaited number made_due due conv after (trace ++ steps.Answered conv ask reply ∷ []) given
  answered_within due conv moment ask reply before after trace given w now named_after no_dial named goes one sides =
      let on : calls conv (trace ++ steps.Answered conv ask reply ∷ []) ≡ moved (Replied (calls conv trace).moment reply) (calls conv trace) =
      calls_more conv trace (steps.Answered conv ask reply) ∙ answered_calls conv (calls conv trace) ask reply in
      let moves : calls_of conv trace ++ Replied moment reply ∷ [] ≡ calls_of conv (trace ++ steps.Answered conv ask reply ∷ []) =
      sym (ap (λ (c : Calls). c.moves) on ∙ ap (λ m. calls_of conv trace ++ Replied m reply ∷ []) now) in
      let P : List Move → Type 0 = λ l. standing w.made after.conversation l (w.given ++ given) in
      let Q : List Command → Type 0 = λ l. standing w.made after.conversation (calls_of conv trace ++ Replied moment reply ∷ []) l in
      let all : w.given ++ goes.more ≡ w.given ++ given = ap (λ l. w.given ++ l) (sym goes.grown) in
      let was : (calls conv trace).dial ≡ None = w.dial ∙ no_dial in
      record {
        made = w.made;
        peer = w.peer;
        given = w.given ++ given;
        earlier = w.earlier;
        stands = subst P moves (subst Q all (goes.stands w.made (calls_of conv trace) w.given w.stands));
        alike = alike_more w.given w.earlier given w.alike;
        owes = w.owes;
        tells = λ view told. w.tells view told
            ∙ sym (seen_more view conv trace (steps.Answered conv ask reply) ∙ (ap (λ l. seen_in view conv trace ++ l) (answered_seen view conv conv ask reply) ∙ append-nil (seen_in view conv trace)));
        named = named_after;
        begun = ap (λ (c : Calls). c.peer) on ∙ w.begun;
        servers = servers_along (has after.connected) _ _ (ap (λ (c : Calls). c.connected) on)
            (servers_same (has before.connected) (has after.connected) (calls conv trace).connected (λ n. ap (λ r. has r n) (sym sides)) w.servers);
        dial = ap (λ (c : Calls). dial_from c.dial given) on
            ∙ (ap (λ d. dial_from d given) was ∙ ((asks_one conv (awaited after.conversation) None given named one).dials ∙ dial_now (awaited after.conversation)));
        turn = let T : Option Ask → Type 0 = λ h. AsksInTurn h given (hook_of (awaited after.conversation)) in
            subst T (sym (hook_answered conv trace ask reply)) (one_turn conv (awaited after.conversation) given named one);
      }

  no_dial_of : (awaits : Option Ask) (ask : Ask) (flow : ℕ) (hook : Hook) → awaits ≡ Some ask → ask ≡ asks.Hook flow hook → dial_of awaits ≡ None
  no_dial_of awaits ask flow hook is hooked = ap dial_of (is ∙ ap Some hooked)

  -- nor does a hook wait where a reply led on
  drafted_replied : (due : Due) (conv : ℕ) (held : Held C) (trace : Trace) (given : List Command) (question : Option Question) → AllNamed conv given →
      question ≡ asked_from None given → flat_map asks_in given ≡ option_to_list (awaited held.conversation) → IsDraftedBut awaited answers due conv held trace question
  drafted_replied due conv held trace given None named is one = λ flow hook waits.
      absurd ((asks_one conv (awaited held.conversation) None given named one).no_question (sym is) flow hook waits)
  drafted_replied due conv held trace given (Some question) named is one = tt

  -- behind a reply, what it leads to is told
  replied : (conv moment : ℕ) (ask : Ask) (reply : Reply) (before after : Held C) (shown new_shown : Flows) (open_now : Option Question) (out new_out : List Step) →
      (r : Replies standing awaited conv moment ask reply before after shown new_shown open_now out new_out) → (due : Due) (course : Course S) (pending : Pending) (state : AnswererState S)
      (trace : Trace) → Within standing awaited number made_due due conv after trace r.given → (calls conv trace).moment ≡ moment → IsServed answers due trace →
      Follows answers due course pending conv (record { draft = after.draft; marks = has before.marks; shown = shown_in shown conv }) state trace →
      WorkedTo standing awaited number made_due answers due course pending conv moment after new_shown state open_now (trace ++ map (step_of conv) (all_marked (has before.marks) r.given))
  replied conv moment ask reply before after shown new_shown open_now out new_out r due by_course pending state trace w_raw now served f =
      let marks = has before.marks in
      let told_now = all_marked marks r.given in
      let named = named_marked marks conv r.given r.named in
      let one = asks_marked marks r.given ∙ r.asks_one in
      let next = next_of conv after told_now open_now named r.asked (inl one) in
      let w = marked_within due conv after trace marks r.given w_raw in
      let told = told_all answers due standing awaited number made_due gave conv moment after told_now trace w now served named in
      let last_trace = trace ++ map (step_of conv) told_now in
      let kept_now : Kept = record { draft = after.draft; marks = marks; shown = shown_told told_now (shown_in shown) conv } in
      record {
        within = told.within;
        now = told.now;
        served = told.served;
        last = about_last due conv after trace last_trace told_now (awaited after.conversation) open_now w (same_due due conv told_now trace) next.1;
        drafted = drafted_replied due conv after last_trace told_now open_now named r.asked one;
        follows = follows_as due by_course pending conv kept_now (kept_of conv after new_shown) state last_trace open_now refl (ap (λ l. has l) (sym r.same_marks)) (λ index. sym (r.shows conv index))
            (follows_told answers due by_course pending conv after.draft marks (shown_in shown) state told_now open_now trace (hook_of (awaited after.conversation)) named
            (all_are_marked marks r.given) w.turn r.asked (about_last due conv after trace trace told_now (awaited after.conversation) open_now w refl next.1) f);
      }

  pub replied_next : (conv moment : ℕ) (ask : Ask) (reply : Reply) (before after : Held C) (shown new_shown : Flows) (open_now : Option Question) (out new_out : List Step) →
      Replies standing awaited conv moment ask reply before after shown new_shown open_now out new_out → IsNext awaited after open_now
  replied_next conv moment ask reply before after shown new_shown open_now out new_out r =
      let marks = has before.marks in
      (next_of conv after (all_marked marks r.given) open_now (named_marked marks conv r.given r.named) r.asked (inl (asks_marked marks r.given ∙ r.asks_one))).0

  -- a reply
  pub reply_works : (conv moment : ℕ) (question : Question) (reply : Reply) (before after : Held C) (shown new_shown : Flows) (open_now : Option Question) (out new_out : List Step)
      (old new : AnswererState S) → IsNext awaited before (Some question) → number after.conversation ≡ conv →
      (given_answer : Answer) → answers question.hook question.flow old.own old.files new.own new.files given_answer → given_answer ≡ answer.Reply reply →
      Replies standing awaited conv moment question.ask reply before after shown new_shown open_now out new_out →
      Asks standing awaited number made_due answers conv moment (Some question) before after shown new_shown old new open_now out new_out
  reply_works conv moment question reply before after shown new_shown open_now out new_out old new next_before named_after given_answer met is r =
      let ask = question.ask in
      let answered = steps.Answered conv ask reply in
      let marks = has before.marks in
      let told_now = all_marked marks r.given in
      record {
        more = answered ∷ map (step_of conv) told_now;
        grown = r.grown ∙ append_assoc out (answered ∷ []) (map (step_of conv) told_now);
        own = (refl, all_own conv told_now (named_marked marks conv r.given r.named));
        works = λ due course pending trace at.
            let w = answered_within due conv moment ask reply before after trace r.given at.within at.now named_after
            (no_dial_of (awaited before.conversation) ask question.flow.id.index question.hook next_before.0 next_before.1) r.named r.goes r.asks_one r.same_sides in
            let gives_so : Answer → Type 0 = λ a. answers question.hook question.flow old.own old.files new.own new.files a in
            let here : IsMet answers due trace conv ask reply = record {
              hook = question.hook;
              flow = question.flow;
              asked = next_before.1;
              last = at.last;
              given = answer.Reply reply;
              comes = refl;
              old = old.own;
              old_files = old.files;
              new = new.own;
              new_files = new.files;
              answers_so = subst gives_so is met;
            } in
            let now : (calls conv (trace ++ answered ∷ [])).moment ≡ moment =
            ap (λ (c : Calls). c.moment) (calls_more conv trace answered ∙ answered_calls conv (calls conv trace) ask reply) ∙ at.now in
            let served = served_step answers due conv trace answered refl at.served
            (within_due answers due standing awaited number made_due gave conv after (trace ++ answered ∷ []) r.given w) (ends_met answers due conv trace ask reply here)
            (at.within.turn ∙ (ap hook_of (next_before.0 ∙ ap Some next_before.1) ∙ ap Some (sym next_before.1))) in
            let T : Option Waiting → Type 0 = λ d. Follows answers due course pending conv (record { draft = d; marks = marks; shown = shown_in shown conv }) new (trace ++ answered ∷ []) in
            let P : Trace → Type 0 = WorkedTo standing awaited number made_due answers due course pending conv moment after new_shown new open_now in
            subst P (append_assoc trace (answered ∷ []) (map (step_of conv) told_now))
            (replied conv moment ask reply before after shown new_shown open_now out new_out r due course pending new (trace ++ answered ∷ []) w now served
            (subst T (sym r.same_draft) (follows_reply answers due course pending conv (kept_of conv before shown) reply old new trace question next_before.1 (subst gives_so is met) at.follows)));
        next = replied_next conv moment ask reply before after shown new_shown open_now out new_out r;
        others = told_others conv told_now shown new_shown (named_marked marks conv r.given r.named) r.shows;
      }

  -- an operation on the hook that waits, with what it leads to
  pub release_works : (conv moment : ℕ) (operation : Operation) (kept : Waiting) (ask : Ask) (reply : Reply) (left : Option Waiting) (before between after : Held C) (shown mid_shown new_shown : Flows) (open_now : Option Question)
      (out mid_out new_out : List Step) (old new : AnswererState S) → IsReleased awaited conv operation before → before.draft ≡ Some kept → awaited before.conversation ≡ Some ask →
      reply ≡ released_by operation (with_edits kept.edited kept.draft) → number between.conversation ≡ conv →
      Replies standing awaited conv moment ask reply (record { conversation = before.conversation; connected = before.connected; draft = left; marks = before.marks }) between shown mid_shown open_now
      out mid_out →
      Asks standing awaited number made_due answers conv moment open_now between after mid_shown new_shown old new None mid_out new_out →
      Releases standing awaited number made_due answers conv moment operation before after shown new_shown old new out new_out
  release_works conv moment operation kept ask reply left before between after shown mid_shown new_shown open_now out mid_out new_out old new (id, hook, for, of, waits) drafted_now asked_now said named_after r rest =
      let taken : Held C = record { conversation = before.conversation; connected = before.connected; draft = left; marks = before.marks } in
      let is_ask : ask ≡ asks.Hook id.index hook = same_some ask (asks.Hook id.index hook) (sym asked_now ∙ waits) in
      let answered = steps.Answered conv ask reply in
      let marks = has before.marks in
      let told_now = all_marked marks r.given in
      let named = named_marked marks conv r.given r.named in
      let first = answered ∷ map (step_of conv) told_now in
      record {
        more = first ++ rest.more;
        grown = rest.grown ∙ (ap (λ l. l ++ rest.more) (r.grown ∙ append_assoc out (answered ∷ []) (map (step_of conv) told_now)) ∙ append_assoc out first rest.more);
        own = own_append conv first rest.more (refl, all_own conv told_now named) rest.own;
        releases = λ due course pending trace w_before drafted now_before served_before f.
            let made = with_operation course trace operation in
            let k : IsKept answers due trace conv (asks.Hook id.index hook) before.draft = drafted id.index hook waits in
            let kept_was : Waiting = record { draft = k.draft; edited = k.edited } in
            let same_kept : kept_was ≡ kept = same_some kept_was kept (sym k.is ∙ drafted_now) in
            let w = answered_within due conv moment ask reply taken between trace r.given
            (taken_within due conv before taken trace refl refl w_before) now_before named_after
            (no_dial_of (awaited before.conversation) ask id.index hook asked_now is_ask) r.named r.goes r.asks_one r.same_sides in
            let k_waits = k.waits in
            let C' : Reply → Type 0 = λ x. ComesTo k_waits.hook (answer.Wait k.draft) x in
            let M : Ask → Type 0 = λ a. IsMet answers due trace conv a reply in
            let here : IsMet answers due trace conv ask reply = subst M (sym is_ask) (record {
              hook = k_waits.hook;
              flow = k_waits.flow;
              asked = k_waits.asked;
              last = k_waits.last;
              given = answer.Wait k.draft;
              comes = subst C' (ap (λ (w : Waiting). released_by operation (with_edits w.edited w.draft)) same_kept ∙ sym said) (comes_released operation k_waits.hook k.draft k.edited k.changes k.made);
              old = k_waits.old;
              old_files = k_waits.old_files;
              new = k_waits.new;
              new_files = k_waits.new_files;
              answers_so = k_waits.answers_so;
            }) in
            let now : (calls conv (trace ++ answered ∷ [])).moment ≡ moment =
            ap (λ (c : Calls). c.moment) (calls_more conv trace answered ∙ answered_calls conv (calls conv trace) ask reply) ∙ now_before in
            let opens : open_hook conv trace ≡ Some (asks.Hook id.index hook) = w_before.turn ∙ ap hook_of waits in
            let served = served_step answers due conv trace answered refl served_before
            (within_due answers due standing awaited number made_due gave conv between (trace ++ answered ∷ []) r.given w) (ends_met answers due conv trace ask reply here)
            (opens ∙ ap Some (sym is_ask)) in
            let F : Ask → Reply → Type 0 = λ a x. Follows answers due made pending conv (record { draft = between.draft; marks = marks; shown = shown_in shown conv }) old (trace ++ steps.Answered conv a x ∷ []) in
            let G : Reply → Type 0 = λ x. F (asks.Hook id.index hook) x in
            let H : Ask → Type 0 = λ a. F a reply in
            let follows = subst H (sym is_ask) (subst G (sym said)
            (follows_release answers due course pending conv before.draft between.draft marks (shown_in shown conv) old trace operation id hook kept for of drafted_now opens f)) in
            let mid = replied conv moment ask reply taken between shown mid_shown open_now out mid_out r due made pending old (trace ++ answered ∷ []) w now served follows in
            let P : Trace → Type 0 = WorkedTo standing awaited number made_due answers due made pending conv moment between mid_shown old open_now in
            let at = rest.works due made pending (trace ++ first) (subst P (append_assoc trace (answered ∷ []) (map (step_of conv) told_now)) mid) in
            let Q : Trace → Type 0 = λ l. Within standing awaited number made_due due conv after l [] × IsServed answers due l × IsDrafted awaited answers due conv after l
            × Follows answers due made pending conv (kept_of conv after new_shown) new l in
            subst Q (append_assoc trace first rest.more) (at.within, at.served, at.drafted, at.follows);
        settled = rest.next;
        others = λ other index apart. rest.others other index apart ∙ told_others conv told_now shown mid_shown named r.shows other index apart;
      }

  -- no hook is left
  pub none_asked : (conv moment : ℕ) (opened : Option Question) (held : Held C) (shown : Flows) (state : AnswererState S) (out : List Step) → IsNext awaited held opened →
      Asks standing awaited number made_due answers conv moment opened held held shown shown state state opened out out
  none_asked conv moment opened held shown state out next = record {
    more = [];
    grown = sym (append-nil out);
    own = tt;
    works = λ due course pending trace at.
        let P : Trace → Type 0 = WorkedTo standing awaited number made_due answers due course pending conv moment held shown state opened in subst P (sym (append-nil trace)) at;
    next = next;
    others = λ other index apart. refl;
  }

  -- one hook more
  pub asks_on : (conv moment : ℕ) {start old new : AnswererState S} (opened between_open : Option Question) (first before after : Held C) (shown between_shown new_shown : Flows) (question : Question)
      (open_now : Option Question) (out between new_out : List Step) →
      Asks standing awaited number made_due answers conv moment opened first before shown between_shown start old between_open out between → between_open ≡ Some question →
      Asks standing awaited number made_due answers conv moment (Some question) before after between_shown new_shown old new open_now between new_out →
      Asks standing awaited number made_due answers conv moment opened first after shown new_shown start new open_now out new_out
  asks_on conv moment {start} {old} {new} opened between_open first before after shown between_shown new_shown question open_now out between new_out so_far is asks = record {
    more = so_far.more ++ asks.more;
    grown = asks.grown ∙ (ap (λ l. l ++ asks.more) so_far.grown ∙ append_assoc out so_far.more asks.more);
    own = own_append conv so_far.more asks.more so_far.own asks.own;
    works = λ due course pending trace at.
        let P : Trace → Type 0 = WorkedTo standing awaited number made_due answers due course pending conv moment after new_shown new open_now in
        let Q : Option Question → Type 0 = λ q. WorkedTo standing awaited number made_due answers due course pending conv moment before between_shown old q (trace ++ so_far.more) in
        subst P (append_assoc trace so_far.more asks.more) (asks.works due course pending (trace ++ so_far.more) (subst Q is (so_far.works due course pending trace at)));
    next = asks.next;
    others = λ other index apart. asks.others other index apart ∙ so_far.others other index apart;
  }

  -- the hooks behind a call's commands
  pub works_on : (conv moment : ℕ) {start old new : AnswererState S} (given : List Command) (first before after : Held C) (shown between_shown new_shown : Flows) (opened open_now : Option Question)
      (out between new_out : List Step) →
      Works standing awaited number made_due answers conv moment given first before shown between_shown start old opened out between →
      Asks standing awaited number made_due answers conv moment opened before after between_shown new_shown old new open_now between new_out →
      Works standing awaited number made_due answers conv moment given first after shown new_shown start new open_now out new_out
  works_on conv moment {start} {old} {new} given first before after shown between_shown new_shown opened open_now out between new_out works asks = record {
    more = works.more ++ asks.more;
    grown = asks.grown ∙ (ap (λ l. l ++ asks.more) works.grown ∙ append_assoc out works.more asks.more);
    own = own_append conv works.more asks.more works.own asks.own;
    works = λ due at_first pending trace w now served kept follows.
        let P : Trace → Type 0 = WorkedTo standing awaited number made_due answers due at_first pending conv moment after new_shown new open_now in
        subst P (append_assoc trace works.more asks.more) (asks.works due at_first pending (trace ++ works.more) (works.works due at_first pending trace w now served kept follows));
    next = asks.next;
    others = λ other index apart. asks.others other index apart ∙ works.others other index apart;
  }

pub turns_less : (left before : ℕ) (open_now : Option Question) → left < before → turns_left left open_now < before + 1
turns_less left before None less = omega arith
turns_less left before (Some question) less = omega arith

-- one command more is told
pub steps_next : (conv : ℕ) (marks : ℕ → Bool) (rest next : List Command) (command : Command) (before between all : List Step) → rest ≡ command ∷ next →
    before ++ map (step_of conv) (all_marked marks rest) ≡ all → between ≡ before ++ step_of conv (mark_on marks command) ∷ [] → between ++ map (step_of conv) (all_marked marks next) ≡ all
steps_next conv marks rest next command before between all is split grown =
    ap (λ l. l ++ map (step_of conv) (all_marked marks next)) grown
    ∙ (append_assoc before (step_of conv (mark_on marks command) ∷ []) (map (step_of conv) (all_marked marks next))
    ∙ (ap (λ l. before ++ map (step_of conv) (all_marked marks l)) (sym is) ∙ split))

pub asked_next : (marks : ℕ → Bool) (rest next : List Command) (command : Command) (opened between question all : Option Question) → rest ≡ command ∷ next →
    asked_from opened (all_marked marks rest) ≡ all → question ≡ question_in (mark_on marks command) → between ≡ question_by question opened → asked_from between (all_marked marks next) ≡ all
asked_next marks rest next command opened between question all is so asked put =
    ap (λ o. asked_from o (all_marked marks next)) (put ∙ ap (λ q. question_by q opened) asked) ∙ (ap (λ l. asked_from opened (all_marked marks l)) (sym is) ∙ so)

pub shows_next : (marks : ℕ → Bool) (rest next : List Command) (command : Command) (before between : Flows) (all : ℕ → ℕ → Option Flow) → rest ≡ command ∷ next →
    ((conv index : ℕ) → shown_told (all_marked marks rest) (shown_in before) conv index ≡ all conv index) →
    ((conv index : ℕ) → shown_in between conv index ≡ shown_by (mark_on marks command) (shown_in before) conv index) →
    (conv index : ℕ) → shown_told (all_marked marks next) (shown_in between) conv index ≡ all conv index
shows_next marks rest next command before between all is so shows conv index =
    told_same (all_marked marks next) conv index (shown_in between) (shown_by (mark_on marks command) (shown_in before)) (shows conv index)
    ∙ (ap (λ l. shown_told (all_marked marks l) (shown_in before) conv index) (sym is) ∙ so conv index)
