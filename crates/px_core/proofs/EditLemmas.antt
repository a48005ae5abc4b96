-- A change of a draft that waits, for a table of conversations.
use Rattle.std.proofs.Common.{◌≡◌, ◌≢◌, ◌⊎◌, inl, inr, ℕ, Bool, true, false, ◌==◌, ◌&&◌, ◌||◌, List, [], ◌∷◌, ◌++◌, Option, Some, None, refl, ap, sym, ◌∙◌, subst, is_some, IsSome, Ok, Err, set}
use Rattle.std.specs.Prelude.{if◌then◌else◌}
use Rattle.std.specs.Str.{is_utf8}
use Rattle.std.proofs.lemmas.Bool.Decides.{eqb_tells}
use Rattle.std.proofs.lemmas.List.{append-nil, set-get_or}
use Rattle.slab.specs.Slab as slab
use Rattle.px_text.specs.Prefix.{IsPrefixOf}
use Rattle.px_message.specs.declared.flow.Flow.{Flow}
use Rattle.px_message.specs.declared.flow.FlowId.{FlowId}
use Rattle.px_event.specs.declared.ask.Ask.{Ask}
use Rattle.px_event.specs.declared.ask.Ask.TheVariants as asks
use Rattle.px_event.specs.declared.ask.Hook.{Hook}
use Rattle.px_event.specs.declared.command.Command.{Command}
use Rattle.px_event.specs.declared.step.Step.{Step}
use Rattle.px_event.specs.Layer.{Move, Standing}
use Rattle.px_event.specs.Trace.{Trace}
use Rattle.px_event.specs.View.{View, seen_of}
use Rattle.px_core.specs.declared.answerer.Draft.{Draft}
use Rattle.px_core.specs.declared.held.Held.{Held}
use Rattle.px_core.specs.declared.operation.Operation.{Operation}
use Rattle.px_core.specs.declared.operation.Operation.TheVariants as operations
use Rattle.px_core.specs.declared.operation.OperateError.{OperateError}
use Rattle.px_core.specs.declared.operation.OperateError.TheVariants as refused
use Rattle.px_core.specs.declared.table.Entry.TheVariants as place
use Rattle.px_core.specs.declared.table.Conversations.{Conversations}
use Rattle.px_core.specs.declared.waiting.Waiting.{Waiting}
use Rattle.px_core.specs.Answered.{GivenTo, at_edit, left_waiting, with_pending}
use Rattle.px_core.specs.Answers.{Answering, AnswererState, FilesMeaning}
use Rattle.px_core.specs.Course.{Course, is_mark_of, is_marked, operated, with_operation}
use Rattle.px_core.specs.Addons.{has_name}
use Rattle.px_core.specs.Drafts.{answers_for, edited_at}
use Rattle.px_core.specs.Due.{Due}
use Rattle.px_core.specs.Held.{Follows, IsChanged, IsEdit, IsKept, IsUnchanged, Kept, kept_of, waiting}
use Rattle.px_core.specs.Hooks.{open_hook, hook_of}
use Rattle.px_core.specs.Live.{hook_in, is_live, shown_in, waiting_hook}
use Rattle.px_core.specs.Router.{Found, live, found, found_at, found_by, hook_at, place_of, draft_of, EditsAt, IsAtKey, IsJudged, IsLive, IsTabled, KeepsMarks, Operates, StandsIn, TableStands, refusal, refusal_at, refusal_of}
use Rattle.px_core.specs.Runs.{has}
use Rattle.px_core.proofs.AnsweredLemmas.{any_more, changed_more, pending_here, pending_other}
use Rattle.px_core.proofs.NextLemmas.{Same}
use Rattle.px_core.proofs.OperateLemmas.{named_at, no_such_flow, none_refused, not_waiting, refusal_edit, refusal_first, refusal_for, same_trace}
use Rattle.px_core.proofs.ResultLemmas.{same_some}
use Rattle.px_core.proofs.RouteLemmas.{apart_keys, at_key, live_in, marks_live, next_stands, same_found}
use Rattle.px_draft.specs.declared.edit.Edit.{Edit}
use Rattle.px_draft.specs.declared.edited.Edited.{Edited}
use Rattle.px_draft.specs.declared.error.EditError.{EditError}
use Rattle.px_draft.specs.declared.error.EditError.TheVariants as errors
use Rattle.px_draft.specs.Edits.{changed, fresh}

same_hook : (a b : ℕ) (one other : Hook) → asks.Hook a one ≡ asks.Hook b other → one ≡ other
same_hook a b one other e = cc

-- a draft that is kept of a hook that waits is kept with one change more
kept_changed : {S : Type 0} (answers : Answering S) (due : Due) (conv index : ℕ) (trace : Trace) (ask : Ask) (hook : Hook) (change : Edit) (before : Option Waiting) (kept new_kept : Waiting) →
    ask ≡ asks.Hook index hook → before ≡ Some kept → IsChanged hook change kept new_kept → IsKept answers due trace conv ask before → IsKept answers due trace conv ask (Some new_kept)
kept_changed answers due conv index trace ask hook change before kept new_kept of was c k =
    let old : Waiting = record { draft = k.draft; edited = k.edited } in
    let same : kept ≡ old = same_some kept old (sym was ∙ k.is) in
    let there : hook ≡ k.waits.hook = same_hook index k.waits.flow.id.index hook k.waits.hook (sym of ∙ k.waits.asked) in
    let P : Waiting → Type 0 = λ w. changed change (edited_at hook w.draft w.edited) ≡ Ok c.edited in
    let Q : Hook → Type 0 = λ h. changed change (edited_at h k.draft k.edited) ≡ Ok c.edited in
    record {
      draft = k.draft;
      edited = Some c.edited;
      is = ap Some (c.now ∙ ap (λ (w : Waiting). record { draft = w.draft; edited = Some c.edited }) same);
      waits = k.waits;
      changes = k.changes ++ change ∷ [];
      made = changed_more k.changes change (fresh k.waits.hook k.draft.flow) (edited_at k.waits.hook k.draft k.edited) c.edited k.made (subst Q there (subst P same c.changes));
    }

-- a change that was made is not refused
pub edits_done : {C : Type 0} (hook : Hook) (change : Edit) (held : Held C) (kept : Waiting) (new_held : Held C) → held.draft ≡ Some kept → IsEdit hook change held new_held →
    refusal_of (changed change (edited_at hook kept.draft kept.edited)) ≡ None
edits_done hook change held kept new_held is_kept e =
    let same : e.kept ≡ kept = same_some e.kept kept (sym e.was ∙ is_kept) in
    let P : Waiting → Type 0 = λ w. refusal_of (changed change (edited_at hook w.draft w.edited)) ≡ None in
    subst P same (ap refusal_of e.changes.changes)

-- one that was not is refused for that, unless memory ran out
abbrev is_want : EditError → Bool
is_want errors.NoMemory = true
is_want _ = false

pub refused_by : (hook : Hook) (change : Edit) (kept : Waiting) (error given : EditError) (outcome : OperateError) → error ≡ given → is_want given ≡ false → refusal_of (Err given) ≡ Some outcome →
    IsUnchanged hook change kept error → refusal_of (changed change (edited_at hook kept.draft kept.edited)) ≡ Some outcome
refused_by hook change kept error given outcome is no_want so (inl want) = absurd (let no : true ≡ false = sym (ap is_want (sym is ∙ want)) ∙ no_want in cc)
refused_by hook change kept error given outcome is no_want so (inr refusal) = ap refusal_of (refusal ∙ ap Err is) ∙ so

-- what was lent and is as it was
pub same_table : {C : Type 0} (table : Conversations C) (key : ℕ) (held new_held : Held C) → slab.get table.live key ≡ Some held → new_held ≡ held →
    record table { live = slab.with_value table.live key new_held } ≡ table
same_table table key held new_held is same =
    ap (λ h. record table { live = slab.with_value table.live key h }) same
    ∙ (ap (λ o. record table { live = record table.live { slots = set table.live.slots key o } }) (sym is)
    ∙ ap (λ l. record table { live = record table.live { slots = l } }) (set-get_or table.live.slots key None))

-- a hook of the flow of this index
pub hook_is_in : (index : ℕ) (hook : Hook) (awaits : Option Ask) → hook_in index awaits ≡ Some hook → awaits ≡ Some (asks.Hook index hook)
hook_is_in index hook None is = absurd (let no : None ≡ Some hook = is in cc)
hook_is_in index hook (Some (asks.Dial server)) is = absurd (let no : None ≡ Some hook = is in cc)
hook_is_in index hook (Some (asks.Hook flow other)) is = by (eqb_tells flow index)
  where
    by : ((flow == index) ≡ true) × (flow ≡ index) ⊎ ((flow == index) ≡ false) × (flow ≢ index) → Some (asks.Hook flow other) ≡ Some (asks.Hook index hook)
    by (inl h) =
        let P : Bool → Type 0 = λ b. if◌then◌else◌ {A = Option Hook} b (Some other) None ≡ Some hook in
        let same : other ≡ hook = same_some other hook (subst P h.0 is) in
        ap (λ i. Some (asks.Hook i other)) h.1 ∙ ap (λ k. Some (asks.Hook index k)) same
    by (inr h) =
        let P : Bool → Type 0 = λ b. if◌then◌else◌ {A = Option Hook} b (Some other) None ≡ Some hook in
        absurd (let no : None ≡ Some hook = subst P h.0 is in cc)

module _ {C : Type 0} (standing : Standing C) (awaited : C → Option Ask) (number : C → ℕ) (made_due : C → List Move → List Command)
    (gave : (made state : C) (moves : List Move) (given : List Command) → standing made state moves given →
    (view : View) → seen_of view given ≡ seen_of view (made_due made moves))
    (grows : (made : C) (moves : List Move) (move : Move) (view : View) → IsPrefixOf (seen_of view (made_due made moves)) (seen_of view (made_due made (moves ++ move ∷ []))))
    {S : Type 0} (answers : Answering S) where
  -- what is pending of a hook that waits
  given_waits : (due : Due) {course : Course S} {now : AnswererState S} (table : Conversations C) (trace : Trace) (conv index : ℕ) (hook : Hook) (held : Held C) (kept : Waiting) →
      (stands : TableStands standing awaited number made_due answers due course now table trace) → IsLive standing awaited number made_due answers due conv held trace → found table conv ≡ live held →
      awaited held.conversation ≡ Some (asks.Hook index hook) → held.draft ≡ Some kept → stands.pending.given conv ≡ Some (left_waiting index hook kept.draft kept.edited)
  given_waits due table trace conv index hook held kept stands w was waits is_kept =
      let opens : open_hook conv trace ≡ Some (asks.Hook index hook) = w.within.turn ∙ ap hook_of waits in
      stands.drafts conv ∙ (ap (waiting (open_hook conv trace)) (ap draft_of was ∙ is_kept) ∙ ap (λ h. waiting h (Some kept)) opens)

  module _ (ended : C → Bool) (ends : (made state : C) (moves : List Move) (given : List Command) → standing made state moves given → ended state ≡ true →
      (more : List Move) (view : View) → seen_of view (made_due made (moves ++ more)) ≡ seen_of view (made_due made moves))
      (rests : (made state : C) (moves : List Move) (given : List Command) → standing made state moves given → ended state ≡ true → awaited state ≡ None) where
    -- a change of the draft with which the hook of a flow waits
    pub operates_edited : (moment key : ℕ) (id : FlowId) (change : Edit) (hook : Hook) (before after : Conversations C) (held : Held C) {state : AnswererState S} (out : List Step) →
        IsTabled standing awaited number made_due answers before → place_of before id.conv ≡ Some (place.Live key) → slab.get before.live key ≡ Some held →
        awaited held.conversation ≡ Some (asks.Hook id.index hook) → EditsAt key hook change held before after →
        Operates standing awaited number made_due answers moment (operations.Edit id change) before after state state out out
    operates_edited moment key id change hook before after held {state} out (due0, course0, now0, trace0, stands0) at is waits e = record {
      more = [];
      grown = sym (append-nil out);
      own = refl;
      others = λ other apart. others other (λ same. apart (ap Some same));
      stands = λ due course trace now stands.
          let made = with_operation course trace (operations.Edit id change) in
          let kept_was = e.edits.kept in
          let kept_next = e.edits.new_kept in
          let changes = e.edits.changes in
          let was : found before id.conv ≡ live held = ap (found_by before.live) at ∙ ap found_at is in
          let there : found after id.conv ≡ live e.new_held = ap (found_by after.live) (e.places id.conv ∙ at) ∙ ap found_at e.live_now.changed in
          let w = live_in standing awaited number made_due gave grows answers ended ends rests due id.conv held trace (found before id.conv) was (stands.at id.conv) in
          let next_held : Held C = record held { draft = Some kept_next } in
          let L : Held C → Type 0 = λ h. IsLive standing awaited number made_due answers due id.conv h trace in
          let v = w.within in
          let live_now : IsLive standing awaited number made_due answers due id.conv e.new_held trace = subst L (sym e.edits.now) (record {
            within = record {
              made = v.made;
              peer = v.peer;
              given = v.given;
              earlier = v.earlier;
              stands = v.stands;
              alike = v.alike;
              owes = v.owes;
              tells = v.tells;
              named = v.named;
              begun = v.begun;
              servers = v.servers;
              dial = v.dial;
              turn = v.turn;
            };
            settled = λ flow other waits_too. refl;
            drafted = λ flow other waits_too.
                let same : asks.Hook flow other ≡ asks.Hook id.index hook = same_some (asks.Hook flow other) (asks.Hook id.index hook) (sym waits_too ∙ waits) in
                kept_changed answers due id.conv id.index trace (asks.Hook flow other) hook change held.draft kept_was kept_next same e.edits.was changes (w.drafted flow other waits_too);
          }) in
          let kept : Kept = kept_of id.conv e.new_held after.flows in
          let marks_were = marks_live standing awaited number made_due gave grows answers id.conv before held trace was stands in
          let marks_same : (other index : ℕ) → is_marked made.operations other index ≡ is_marked course.operations other index =
          λ other index. any_more (λ o. is_mark_of other index o.operation) course.operations (operated trace (operations.Edit id change)) refl in
          let marks_are : (index : ℕ) → is_marked made.operations id.conv index ≡ has e.new_held.marks index =
          λ index. marks_same id.conv index ∙ (marks_were index ∙ ap (λ (h : Held C). has h.marks index) (sym e.edits.now)) in
          let given = given_waits due before trace id.conv id.index hook held kept_was stands w was waits e.edits.was in
          let opens : open_hook id.conv trace ≡ Some (asks.Hook id.index hook) = w.within.turn ∙ ap hook_of waits in
          let next_given : GivenTo = left_waiting id.index hook kept_was.draft (Some changes.edited) in
          let kept_is : e.new_held.draft ≡ Some (record { draft = kept_was.draft; edited = Some changes.edited }) = ap (λ (h : Held C). h.draft) e.edits.now ∙ ap Some changes.now in
          let follows : Follows answers due made stands.pending id.conv kept state trace = record {
            pending = with_pending id.conv (Some next_given) stands.pending;
            answered = at_edit course made trace state stands.pending id change hook kept_was.draft kept_was.edited changes.edited stands.answered refl given changes.changes;
            here = pending_here id.conv (Some next_given) stands.pending.given ∙ sym (ap (waiting (open_hook id.conv trace)) kept_is ∙ ap (λ h. waiting h (Some (record { draft = kept_was.draft; edited = Some changes.edited }))) opens);
            others = λ other apart. pending_other id.conv other (Some next_given) stands.pending.given apart;
            marks = marks_are;
            shown = λ index. stands.shown id.conv index ∙ ap (λ f. shown_in f id.conv index) (sym e.flows);
            shown_others = λ other index apart. refl;
          } in
          let D : Found (Held C) → Type 0 = StandsIn standing awaited number made_due answers due id.conv trace in
          let K : Found (Held C) → Type 0 = KeepsMarks made.operations id.conv in
          let T : Trace → Type 0 = λ t. TableStands standing awaited number made_due answers due made state after t in
          subst T (sym (append-nil trace))
          (next_stands standing awaited number made_due gave grows answers due {course = course} {made = made} id.conv before after kept trace trace (λ other apart. same_trace other trace)
          others (λ other index apart. marks_same other index) (λ other index apart. ap (λ f. shown_in f other index) e.flows) stands
          (subst D (sym there) live_now) stands.served follows (ap (λ x. waiting (open_hook id.conv trace) (draft_of x)) (sym there)) (subst K (sym there) marks_are) (λ index. refl));
    }
      where
        others : (other : ℕ) → id.conv ≢ other → found after other ≡ found before other
        others other apart = same_found before.live after.live (place_of before other) (place_of after other) key (e.places other) e.live_now.others
            (apart_keys standing awaited number made_due gave grows answers due0 before trace0 id.conv other key held stands0 is
            (named_at standing awaited number made_due gave grows answers ended ends rests due0 before trace0 id.conv key held stands0 at is) apart)

    -- what an edit of a flow that waits is judged
    pub edit_judged : (due : Due) {course : Course S} {now : AnswererState S} (names : List (List ℕ)) (table : Conversations C) (trace : Trace) (key : ℕ) (id : FlowId) (change : Edit) (hook : Hook) (held : Held C) (kept : Waiting)
        (outcome : Option OperateError) → (stands : TableStands standing awaited number made_due answers due course now table trace) → place_of table id.conv ≡ Some (place.Live key) →
        slab.get table.live key ≡ Some held → is_some (shown_in table.flows id.conv id.index) ≡ true → awaited held.conversation ≡ Some (asks.Hook id.index hook) → held.draft ≡ Some kept →
        IsSome (hook_at awaited id.index (found table id.conv)) → refusal_of (changed change (edited_at hook kept.draft kept.edited)) ≡ outcome →
        IsJudged answers due course now names trace (operations.Edit id change) outcome
    edit_judged due names table trace key id change hook held kept outcome stands at is shows waits is_kept some so =
        let was : found table id.conv ≡ live held = ap (found_by table.live) at ∙ ap found_at is in
        let w = live_in standing awaited number made_due gave grows answers ended ends rests due id.conv held trace (found table id.conv) was (stands.at id.conv) in
        record {
          pending = stands.pending;
          answered = stands.answered;
          is = refusal_edit id change names stands.pending.given trace hook kept outcome (none_refused standing awaited number made_due gave grows answers due table trace id stands shows some)
              (given_waits due table trace id.conv id.index hook held kept stands w was waits is_kept) so;
        }

  -- what is under a key where a hook of the flow waits
  pub record WaitsAt (table : Conversations C) (id : FlowId) (key : ℕ) (hook : Hook) : Type 0 where
    pub held : Held C
    pub is : slab.get table.live key ≡ Some held
    pub waits : awaited held.conversation ≡ Some (asks.Hook id.index hook)
    pub kept : Waiting
    pub is_kept : held.draft ≡ Some kept

  pub waits_at : (table : Conversations C) (id : FlowId) (key : ℕ) (hook : Hook) → IsTabled standing awaited number made_due answers table → place_of table id.conv ≡ Some (place.Live key) →
      hook_at awaited id.index (found table id.conv) ≡ Some hook → WaitsAt table id key hook
  waits_at table id key hook (due, course, now, trace, stands) at is = by k.held.draft refl
    where
      k : IsAtKey standing awaited number made_due id.conv key table
      k = at_key standing awaited number made_due gave grows answers due table trace id.conv key stands at

      there : found table id.conv ≡ live k.held
      there = ap (found_by table.live) at ∙ ap found_at k.is

      waits : awaited k.held.conversation ≡ Some (asks.Hook id.index hook)
      waits = hook_is_in id.index hook (awaited k.held.conversation) (sym (ap (hook_at awaited id.index) there) ∙ is)

      by : (draft : Option Waiting) → k.held.draft ≡ draft → WaitsAt table id key hook
      by None none = absurd (let no : false ≡ true = sym (ap is_some none) ∙ k.settled id.index hook waits in cc)
      by (Some kept) some = record { held = k.held; is = k.is; waits = waits; kept = kept; is_kept = some }

  -- so it is where the flow is not live
  pub edit_no_flow : (due : Due) {course : Course S} {now : AnswererState S} (names : List (List ℕ)) (table : Conversations C) (trace : Trace) (id : FlowId) (change : Edit) →
      (stands : TableStands standing awaited number made_due answers due course now table trace) → is_some (shown_in table.flows id.conv id.index) ≡ false →
      IsJudged answers due course now names trace (operations.Edit id change) (Some refused.NoSuchFlow)
  edit_no_flow due names table trace id change stands shows = record {
    pending = stands.pending;
    answered = stands.answered;
    is = refusal_first id change names stands.pending.given trace refused.NoSuchFlow
        (no_such_flow standing awaited number made_due gave grows answers due table trace id (is_some (waiting_hook id trace)) stands shows);
  }

  -- or does not wait
  pub edit_not_waiting : (due : Due) {course : Course S} {now : AnswererState S} (names : List (List ℕ)) (table : Conversations C) (trace : Trace) (id : FlowId) (change : Edit) →
      (stands : TableStands standing awaited number made_due answers due course now table trace) → is_some (shown_in table.flows id.conv id.index) ≡ true →
      hook_at awaited id.index (found table id.conv) ≡ None → IsJudged answers due course now names trace (operations.Edit id change) (Some refused.NotWaiting)
  edit_not_waiting due names table trace id change stands shows none = record {
    pending = stands.pending;
    answered = stands.answered;
    is = refusal_first id change names stands.pending.given trace refused.NotWaiting (not_waiting standing awaited number made_due gave grows answers due table trace id stands shows none);
  }

  -- a release, by what the flow and its hook say
  pub judged_for : (due : Due) {course : Course S} {now : AnswererState S} (names : List (List ℕ)) (table : Conversations C) (trace : Trace) (operation : Operation) (id : FlowId) (outcome : Option OperateError) →
      answers_for operation ≡ Some id → (stands : TableStands standing awaited number made_due answers due course now table trace) → refusal_at (is_live id trace) (is_some (waiting_hook id trace)) ≡ outcome →
      IsJudged answers due course now names trace operation outcome
  judged_for due names table trace operation id outcome for stands so =
      record { pending = stands.pending; answered = stands.answered; is = refusal_for operation id names stands.pending.given trace for ∙ so }

  -- a mark
  pub judged_mark : (due : Due) {course : Course S} {now : AnswererState S} (names : List (List ℕ)) (table : Conversations C) (trace : Trace) (operation : Operation) (id : FlowId) (outcome : Option OperateError) →
      operation ≡ operations.Mark id → (stands : TableStands standing awaited number made_due answers due course now table trace) → refusal_at (is_live id trace) true ≡ outcome →
      IsJudged answers due course now names trace operation outcome
  judged_mark due names table trace operation id outcome is stands so =
      record { pending = stands.pending; answered = stands.answered; is = ap (λ o. refusal o names stands.pending.given trace) is ∙ so }

  -- an addon that is taken away
  pub judged_dropped : (due : Due) {course : Course S} {now : AnswererState S} (names : List (List ℕ)) (table : Conversations C) (trace : Trace) (operation : Operation) (name given : List ℕ) (has_it : Bool) →
      operation ≡ operations.DropAddon name → given ≡ name → (is_utf8 given && has_name given names) ≡ has_it → (stands : TableStands standing awaited number made_due answers due course now table trace) →
      IsJudged answers due course now names trace operation (if has_it then None else Some refused.NoSuchAddon)
  judged_dropped due names table trace operation name given has_it is same so stands = record {
    pending = stands.pending;
    answered = stands.answered;
    is = ap (λ o. refusal o names stands.pending.given trace) is
        ∙ (ap (λ n. if is_utf8 n && has_name n names then None else Some refused.NoSuchAddon) (sym same) ∙ ap (λ b. if b then None else Some refused.NoSuchAddon) so);
  }

-- an operation is judged as what it is
pub judged_as : {S : Type 0} (answers : Answering S) (due : Due) {course : Course S} {now : AnswererState S} (names : List (List ℕ)) (trace : Trace) (operation other : Operation) (outcome : Option OperateError) →
    operation ≡ other → IsJudged answers due course now names trace other outcome → IsJudged answers due course now names trace operation outcome
judged_as answers due {course} {now} names trace operation other outcome is judged =
    let P : Operation → Type 0 = λ o. IsJudged answers due course now names trace o outcome in subst P (sym is) judged

-- and its refusal
pub refused_as : {S : Type 0} (answers : Answering S) (due : Due) {course : Course S} {now : AnswererState S} (names : List (List ℕ)) (trace : Trace) (operation : Operation) (error given : OperateError) →
    error ≡ given → IsJudged answers due course now names trace operation (Some error) → IsJudged answers due course now names trace operation (Some given)
refused_as answers due {course} {now} names trace operation error given is judged =
    let P : OperateError → Type 0 = λ e. IsJudged answers due course now names trace operation (Some e) in subst P is judged

-- an operation that is an edit does what an edit does, and leaves the answerer
pub edited_as : {C : Type 0} (standing : Standing C) (awaited : C → Option Ask) (number : C → ℕ) (made_due : C → List Move → List Command) {S : Type 0} (answers : Answering S) (moment : ℕ)
    (operation : Operation) (id : FlowId) (change : Edit) (table after : Conversations C) (own new_own : S) (files : FilesMeaning) (out : List Step) → operation ≡ operations.Edit id change → new_own ≡ own →
    Operates standing awaited number made_due answers moment (operations.Edit id change) table after (record { own = own; files = files }) (record { own = own; files = files }) out out →
    Operates standing awaited number made_due answers moment operation table after (record { own = own; files = files }) (record { own = new_own; files = files }) out out
edited_as standing awaited number made_due answers moment operation id change table after own new_own files out is same done =
    let P : Operation → Type 0 = λ o. Operates standing awaited number made_due answers moment o table after (record { own = own; files = files }) (record { own = new_own; files = files }) out out in
    let Q : _ → Type 0 = λ n. Operates standing awaited number made_due answers moment (operations.Edit id change) table after (record { own = own; files = files }) (record { own = n; files = files }) out out in
    subst P (sym is) (subst Q (sym same) done)
