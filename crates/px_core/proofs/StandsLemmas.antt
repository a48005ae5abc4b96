-- What a table that stands for a trace says of it.
use Rattle.std.proofs.Common.{◌≡◌, ◌≢◌, ◌≤◌, ◌-◌, ◌^◌, ℕ, Bool, true, min, List, [], ◌∷◌, ◌++◌, Option, Some, None, is_some, refl, ap, sym, ◌∙◌, subst, arith}
use Rattle.std.proofs.lemmas.List.{append-nil}
use Rattle.slab.specs.Slab as slab
use Rattle.px_text.specs.Prefix.{IsPrefixOf}
use Rattle.px_message.specs.declared.address.Address.{Address}
use Rattle.px_event.specs.declared.ask.Ask.{Ask}
use Rattle.px_event.specs.declared.command.Command.{Command}
use Rattle.px_event.specs.declared.heard.Heard.{Heard}
use Rattle.px_event.specs.declared.step.Step.TheVariants as steps
use Rattle.px_event.specs.Layer.{IsSound, Move, Standing}
use Rattle.px_event.specs.Trace.{Trace}
use Rattle.px_event.specs.View.{View, seen_of}
use Rattle.px_core.specs.declared.answerer.Answer.TheVariants as answer
use Rattle.px_core.specs.declared.answerer.Draft.{Draft}
use Rattle.px_draft.specs.declared.edited.Edited.{Edited}
use Rattle.px_core.specs.declared.held.Held.{Held}
use Rattle.px_core.specs.declared.news.News.{News}
use Rattle.px_core.specs.declared.news.News.TheVariants as news
use Rattle.px_core.specs.declared.table.Entry.{Entry}
use Rattle.px_core.specs.declared.table.Entry.TheVariants as place
use Rattle.px_core.specs.declared.table.Conversations.{Conversations}
use Rattle.px_core.specs.Answered.{GivenTo, RestsBy}
use Rattle.px_core.specs.Answers.{Answering, AnswererState}
use Rattle.px_core.specs.Calls.{addressed, calls, calls_of}
use Rattle.px_core.specs.Course.{Course}
use Rattle.px_core.specs.Due.{Due}
use Rattle.px_core.specs.Held.{waiting}
use Rattle.px_core.specs.Hooks.{hook_of, open_hook}
use Rattle.px_core.specs.Router.{Found, unknown, over, lost, live, draft_of, found, found_at, found_by, keeps_no_body, place_of, IsLive, StandsIn, TableStands}
use Rattle.px_core.proofs.AnsweredLemmas.{whole_front}
use Rattle.px_core.proofs.HookLemmas.{hook_is, hook_named}
use Rattle.px_core.proofs.RouteLemmas.{unknown_hands}

module _ {C : Type 0} (standing : Standing C) (awaited : C → Option Ask) (number : C → ℕ) (made_due : C → List Move → List Command) {S : Type 0} (answers : Answering S) (due : Due) where
  begun_at : (conv : ℕ) (trace : Trace) (slot : Option (Held C)) → StandsIn standing awaited number made_due answers due conv trace (found_at slot) → is_some (calls conv trace).peer ≡ true
  begun_at conv trace None w = absurd w
  begun_at conv trace (Some held) w = ap is_some w.within.begun

  begun_by : (conv : ℕ) (trace : Trace) (held : slab.Slab (Held C)) (at : Option Entry) → StandsIn standing awaited number made_due answers due conv trace (found_by held at) →
      is_some at ≡ is_some (calls conv trace).peer
  begun_by conv trace held None w = sym (ap is_some w.begun)
  begun_by conv trace held (Some place.Ended) w = sym (ap is_some w.begun)
  begun_by conv trace held (Some (place.Live key)) w = sym (begun_at conv trace (slab.get held key) w)

  -- a number is known exactly where its conversation has begun
  pub known_begun : {course : Course S} {now : AnswererState S} (table : Conversations C) (trace : Trace) (conv : ℕ) → TableStands standing awaited number made_due answers due course now table trace →
      is_some (place_of table conv) ≡ is_some (calls conv trace).peer
  known_begun table trace conv stands = begun_by conv trace table.live (place_of table conv) (stands.at conv)

  -- one that is live and keeps no body keeps little
  pub keeps_little : {course : Course S} {now : AnswererState S} (kept : C → ℕ) (no_body : C → Bool) (table : Conversations C) (trace : Trace) (conv : ℕ) (held : Held C) (given : ℕ) →
      TableStands standing awaited number made_due answers due course now table trace → found table conv ≡ live held →
      (IsSound standing held.conversation → no_body held.conversation ≡ true → kept held.conversation ≤ 133120) → given ≡ min (kept held.conversation) (2 ^ 64 - 1) →
      keeps_no_body no_body (found table conv) ≡ true → given ≤ 133120
  keeps_little kept no_body table trace conv held given stands there bound is keeps =
      let P : Found (Held C) → Type 0 = StandsIn standing awaited number made_due answers due conv trace in
      let w : IsLive standing awaited number made_due answers due conv held trace = subst P there (stands.at conv) in
      let few : kept held.conversation ≤ 133120 = bound (w.within.made, calls_of conv trace, w.within.given, w.within.stands) (sym (ap (keeps_no_body no_body) there) ∙ keeps) in
      omega arith

  -- one that has not begun is unknown
  unknown_by : (conv : ℕ) (trace : Trace) (x : Found (Held C)) → (calls conv trace).peer ≡ None → StandsIn standing awaited number made_due answers due conv trace x → x ≡ unknown
  unknown_by conv trace unknown none w = refl
  unknown_by conv trace over none w = absurd (let no : None ≡ Some w.peer = sym none ∙ w.begun in cc)
  unknown_by conv trace lost none w = absurd w
  unknown_by conv trace (live held) none w = absurd (let no : None ≡ Some w.within.peer = sym none ∙ w.within.begun in cc)

  -- a hook that is open was let wait with the draft that is kept
  waits_with : (conv : ℕ) (trace : Trace) (x : Found (Held C)) (given : Option GivenTo) → StandsIn standing awaited number made_due answers due conv trace x →
      given ≡ waiting (open_hook conv trace) (draft_of x) → (ask : Ask) → open_hook conv trace ≡ Some ask →
      (draft : Draft) × (edited : Option Edited) × (given ≡ Some (record { ask = ask; answer = answer.Wait draft; edited = edited }))
  waits_with conv trace unknown given w is ask opened = absurd (let no : None ≡ Some ask = sym w.hook ∙ opened in cc)
  waits_with conv trace over given w is ask opened = absurd (let no : None ≡ Some ask = sym w.hook ∙ opened in cc)
  waits_with conv trace lost given w is ask opened = absurd w
  waits_with conv trace (live held) given w is ask opened =
      let waits : hook_of (awaited held.conversation) ≡ Some ask = sym w.within.turn ∙ opened in
      let named = hook_named (awaited held.conversation) ask waits in
      let kept = w.drafted named.0 named.1 (hook_is (awaited held.conversation) ask waits ∙ ap Some named.2) in
      (kept.draft, kept.edited, is ∙ (ap (λ h. waiting h held.draft) opened ∙ ap (waiting (Some ask)) kept.is))

  -- the trace rests
  pub rests_by : {course : Course S} {now : AnswererState S} (table : Conversations C) (trace : Trace) → TableStands standing awaited number made_due answers due course now table trace →
      RestsBy answers due course trace
  rests_by {course} {now} table trace stands = record {
    made = course;
    front_of = whole_front course;
    now = now;
    pending = stands.pending;
    answered = stands.answered;
    waits = λ conv ask opened. waits_with conv trace (found table conv) (stands.pending.given conv) (stands.at conv) (stands.drafts conv) ask opened;
  }

  -- what is heard of a number that has not begun changes nothing
  pub nobody_heard : (gave : (made state : C) (moves : List Move) (given : List Command) → standing made state moves given → (view : View) → seen_of view given ≡ seen_of view (made_due made moves))
      (grows : (made : C) (moves : List Move) (move : Move) (view : View) → IsPrefixOf (seen_of view (made_due made moves)) (seen_of view (made_due made (moves ++ move ∷ []))))
      {course : Course S} {now : AnswererState S} (table : Conversations C) (trace : Trace) (moment : ℕ) (what : Heard) (conv : ℕ) (told : News) → addressed what ≡ Some (conv, told) →
      ((peer : Address) → told ≢ news.Begun peer) → (calls conv trace).peer ≡ None → TableStands standing awaited number made_due answers due course now table trace →
      TableStands standing awaited number made_due answers due course now table (trace ++ steps.Heard moment what ∷ [])
  nobody_heard gave grows {course} {now} table trace moment what conv told is begins none stands =
      let there : Trace = trace ++ steps.Heard moment what ∷ [] in
      let P : Trace → Type 0 = TableStands standing awaited number made_due answers due course now table in
      let hands = unknown_hands standing awaited number made_due gave grows answers conv moment told table {state = now} [] (unknown_by conv trace (found table conv) none (stands.at conv)) begins in
      subst P (ap (λ l. there ++ l) (sym hands.grown) ∙ append-nil there) (hands.stands due course trace what is stands)
