-- What a router stands for, and what its calls do.
use Rattle.std.specs.Prelude.{◌≡◌, ◌≢◌, ℕ, ◌^◌, ◌-◌, Bool, true, false, if◌then◌else◌, ◌&&◌, ◌||◌, ◌==◌, is_some, min, List, [], ◌∷◌, ◌++◌, Option, Some, None, Result, Ok, Err}
use Rattle.std.specs.Ordering.{nat_cmp}
use Rattle.std.specs.BTreeMap as tree
use Rattle.std.specs.Str.{is_utf8}
use Rattle.slab.specs.Slab as slab
use Rattle.px_message.specs.declared.address.Address.{Address}
use Rattle.px_event.specs.declared.ask.Ask.{Ask}
use Rattle.px_event.specs.declared.ask.Ask.TheVariants as asks
use Rattle.px_event.specs.declared.ask.Hook.{Hook}
use Rattle.px_event.specs.declared.command.Command.{Command}
use Rattle.px_event.specs.declared.heard.Heard.{Heard}
use Rattle.px_event.specs.declared.step.Step.{Step}
use Rattle.px_event.specs.declared.step.Step.TheVariants as steps
use Rattle.px_event.specs.Layer.{Move, Standing, IsSound}
use Rattle.px_event.specs.Trace.{Trace}
use Rattle.px_event.specs.View.{View, IsTold, seen_of, seen_in}
use Rattle.px_core.specs.declared.answerer.Answer.{Answer}
use Rattle.px_core.specs.declared.answerer.Answer.TheVariants as answer
use Rattle.px_core.specs.declared.answerer.Draft.{Draft}
use Rattle.px_core.specs.declared.held.Held.{Held}
use Rattle.px_core.specs.declared.operation.Operation.{Operation}
use Rattle.px_core.specs.declared.operation.Operation.TheVariants as operations
use Rattle.px_core.specs.declared.operation.OperateError.{OperateError}
use Rattle.px_core.specs.declared.operation.OperateError.TheVariants as refused
use Rattle.px_core.specs.declared.news.News.{News}
use Rattle.px_core.specs.declared.news.News.TheVariants as news
use Rattle.px_core.specs.declared.table.Entry.{Entry}
use Rattle.px_core.specs.declared.table.Entry.TheVariants as place
use Rattle.px_core.specs.declared.router.Router.{Router}
use Rattle.px_core.specs.declared.waiting.Waiting.{Waiting}
use Rattle.px_core.specs.declared.table.Conversations.{Conversations}
use Rattle.px_core.specs.Addons.{has_name}
use Rattle.px_core.specs.Answered.{GivenTo, Pending, Answers}
use Rattle.px_core.specs.Answers.{Answering, AnswererState, ByAnswers, FilesMeaning}
use Rattle.px_core.specs.Course.{Course, Operated, is_marked, with_change, with_operation}
use Rattle.px_core.specs.Calls.{calls, calls_of, addressed}
use Rattle.px_core.specs.Drafts.{edited_at}
use Rattle.px_core.specs.Due.{Due, due_in, IsServed}
use Rattle.px_core.specs.Held.{AllOf, IsEdit, IsReleased, IsSettled, IsDrafted, waiting, Within, Hears, Releases}
use Rattle.px_core.specs.Hooks.{open_hook}
use Rattle.px_core.specs.Live.{hook_in, is_live, shown_in, waiting_hook}
use Rattle.px_core.specs.Runs.{has}
use Rattle.px_core.specs.Unmarked.{all_unmarked}
use Rattle.px_draft.specs.declared.edit.Edit.{Edit}
use Rattle.px_draft.specs.declared.edited.Edited.{Edited}
use Rattle.px_draft.specs.declared.error.EditError.{EditError}
use Rattle.px_draft.specs.declared.error.EditError.TheVariants as unchanged
use Rattle.px_draft.specs.Edits.{changed}

-- what a router has under a number: nothing was admitted, the conversation has ended, or it is live. A number whose
-- conversation is nowhere is lost; no router has one.
pub data Found (X : Type 0) : Type 0 where
  unknown : Found X
  over : Found X
  lost : Found X
  live : (held : X) → Found X

abbrev pub found_at : {X : Type 0} → Option X → Found X
found_at None = lost
found_at (Some held) = live held

abbrev pub found_by : {X : Type 0} → slab.Slab X → Option Entry → Found X
found_by held None = unknown
found_by held (Some place.Ended) = over
found_by held (Some (place.Live key)) = found_at (slab.get held key)

-- it has ended, or is live under this key, if there is one
abbrev pub placed : Bool → Option ℕ → Option Entry
placed true key = Some place.Ended
placed false None = None
placed false (Some key) = Some (place.Live key)

-- It has ended where the runs have its number; else it is where the map of live ones says.
abbrev pub place_of : {C : Type 0} → Conversations C → ℕ → Option Entry
place_of table conv = placed (has table.ended conv) (tree.get nat_cmp table.keys conv)

-- this number's place is so from then on, and that of each other is what it was
pub record PutsPlace {C : Type 0} (before after : Conversations C) (conv : ℕ) (now : Option Entry) : Type 0 where
  pub here : place_of after conv ≡ now
  pub others : (other : ℕ) → conv ≢ other → place_of after other ≡ place_of before other

abbrev pub found : {C : Type 0} → Conversations C → ℕ → Found (Held C)
found table conv = found_by table.live (place_of table conv)

-- a conversation of this number was admitted
abbrev pub is_known : {C A : Type 0} → Router C A → ℕ → Bool
is_known router conv = is_some (place_of router.table conv)

-- what it keeps
abbrev pub kept_in : {C : Type 0} → (C → ℕ) → Found (Held C) → ℕ
kept_in kept (live held) = min (kept held.conversation) (2 ^ 64 - 1)
kept_in kept _ = 0

-- whether it is live, and keeps no body
abbrev pub keeps_no_body : {C : Type 0} → (C → Bool) → Found (Held C) → Bool
keeps_no_body no_body (live held) = no_body held.conversation
keeps_no_body no_body _ = false

-- the draft that is kept of it
abbrev pub draft_of : {C : Type 0} → Found (Held C) → Option Waiting
draft_of (live held) = held.draft
draft_of _ = None

-- the hook of the flow of this index that it awaits
abbrev pub hook_at : {C : Type 0} → (C → Option Ask) → ℕ → Found (Held C) → Option Hook
hook_at awaited index (live held) = hook_in index (awaited held.conversation)
hook_at awaited index _ = None

-- no conversation that has ended is held
abbrev pub HoldsNoEnded : {C : Type 0} → (C → Bool) → Conversations C → Type 0
HoldsNoEnded {C = C} ended table = (key : ℕ) (held : Held C) → slab.get table.live key ≡ Some held → ended held.conversation ≡ false

-- nothing of this number was admitted
pub record IsUnknown (conv : ℕ) (trace : Trace) : Type 0 where
  pub begun : (calls conv trace).peer ≡ None
  pub dial : (calls conv trace).dial ≡ None
  pub connected : (calls conv trace).connected ≡ []
  pub moves : calls_of conv trace ≡ []
  pub sees : (view : View) → IsTold view → seen_in view conv trace ≡ []
  pub hook : open_hook conv trace ≡ None

-- It has ended: the trace has what is due, no call changes that, and no hook is open.
pub record IsOver (due : Due) (conv : ℕ) (trace : Trace) : Type 0 where
  pub peer : Option Address
  pub begun : (calls conv trace).peer ≡ Some peer
  pub told : (view : View) → IsTold view → all_unmarked (seen_in view conv trace) ≡ all_unmarked (due_in due view conv trace)
  pub stays : (view : View) (more : List Move) → all_unmarked (seen_of view (due conv peer (calls_of conv trace ++ more))) ≡ all_unmarked (due_in due view conv trace)
  pub hook : open_hook conv trace ≡ None

-- the marks that are kept of a conversation are those that the operations made
abbrev pub KeepsMarks : {C : Type 0} → List Operated → ℕ → Found (Held C) → Type 0
KeepsMarks made conv unknown = (index : ℕ) → is_marked made conv index ≡ false
KeepsMarks made conv (live held) = (index : ℕ) → is_marked made conv index ≡ has held.marks index
KeepsMarks made conv _ = Unit {0}

-- The course with an operation more: one on a flow is an operation of the course, and an addon that is taken away changes the answerer.
abbrev pub operated_on : {S : Type 0} → Course S → Trace → Operation → AnswererState S → AnswererState S → Course S
operated_on course trace (operations.DropAddon name) old new = with_change course trace old new
operated_on course trace operation old new = with_operation course trace operation

-- the refusal at a flow that is live or not, and whose hook waits or does not
abbrev pub refusal_at : Bool → Bool → Option OperateError
refusal_at false waits = Some refused.NoSuchFlow
refusal_at true false = Some refused.NotWaiting
refusal_at true true = None

-- the refusal of a change, by what becomes of the draft
abbrev pub refusal_of : Result Edited EditError → Option OperateError
refusal_of (Ok edited) = None
refusal_of (Err unchanged.NotThere) = Some refused.NotThere
refusal_of (Err unchanged.BadValue) = Some refused.BadValue
refusal_of (Err unchanged.NoMemory) = Some refused.NoMemory

-- at a hook, with what was given to it and what lines made of that; where no draft waits there is none to be changed
abbrev pub change_refusal : Edit → Ask → Answer → Option Edited → Option OperateError
change_refusal change (asks.Hook index hook) (answer.Wait draft) edited = refusal_of (changed change (edited_at hook draft edited))
change_refusal change ask what edited = Some refused.NotWaiting

abbrev pub refusal_in : Edit → Option GivenTo → Option OperateError
refusal_in change None = Some refused.NotWaiting
refusal_in change (Some given) = change_refusal change given.ask given.answer given.edited

-- the first refusal, or else the second
abbrev pub refusal_or : Option OperateError → Option OperateError → Option OperateError
refusal_or None second = second
refusal_or (Some first) second = Some first

-- Why an operation is refused behind a trace, by the names of the answerer's addons and by what is pending in the conversations, if it is.
abbrev pub refusal : Operation → List (List ℕ) → (ℕ → Option GivenTo) → Trace → Option OperateError
refusal (operations.Resume id) names given trace = refusal_at (is_live id trace) (is_some (waiting_hook id trace))
refusal (operations.Kill id) names given trace = refusal_at (is_live id trace) (is_some (waiting_hook id trace))
refusal (operations.Edit id change) names given trace = refusal_or (refusal_at (is_live id trace) (is_some (waiting_hook id trace))) (refusal_in change (given id.conv))
refusal (operations.Mark id) names given trace = refusal_at (is_live id trace) true
refusal (operations.DropAddon name) names given trace = if is_utf8 name && has_name name names then None else Some refused.NoSuchAddon

-- So an operation is judged behind a trace over which the answerer came by a course to what it is now: refused for this, or done.
pub record IsJudged {S : Type 0} (answers : Answering S) (due : Due) (course : Course S) (now : AnswererState S) (names : List (List ℕ)) (trace : Trace) (operation : Operation)
    (outcome : Option OperateError) : Type 0 where
  pub pending : Pending
  pub answered : Answers answers due course trace now pending
  pub is : refusal operation names pending.given trace ≡ outcome

-- the conversation of the flow that it is on
abbrev pub conv_of : Operation → Option ℕ
conv_of (operations.Resume id) = Some id.conv
conv_of (operations.Kill id) = Some id.conv
conv_of (operations.Edit id change) = Some id.conv
conv_of (operations.Mark id) = Some id.conv
conv_of (operations.DropAddon name) = None

-- the conversation in which it causes steps: that of the hook that it answers
abbrev pub caused_in : Operation → Option ℕ
caused_in (operations.Resume id) = Some id.conv
caused_in (operations.Kill id) = Some id.conv
caused_in _ = None

-- What an operation makes of the answerer's state and of files: an addon that is taken away leaves files as they were, and else there are answers.
abbrev pub MovesBy : {S : Type 0} → Answering S → (List ℕ → S → S → Type 0) → Operation → AnswererState S → AnswererState S → Type 0
MovesBy answers drops (operations.DropAddon name) old new = drops name old.own new.own × (new.files ≡ old.files)
MovesBy answers drops operation old new = ByAnswers answers old new

-- the moment of what was heard last is this
abbrev pub IsNow : ℕ → Trace → Type 0
IsNow moment trace = (conv : ℕ) → (calls conv trace).moment ≡ moment

-- the conversation that is live awaits the hook that the operation answers
abbrev pub AwaitsFor : {C : Type 0} → (C → Option Ask) → ℕ → Operation → Found (Held C) → Type 0
AwaitsFor awaited conv operation (live held) = IsReleased awaited conv operation held
AwaitsFor awaited conv operation _ = ⊥

-- the flow of this index is marked in what is held under a key, and nothing else changes
pub record MarksAt {C : Type 0} (key index : ℕ) (held : Held C) (before after : Conversations C) : Type 0 where
  pub new_held : Held C
  pub live_now : slab.Updates before.live after.live key (Some new_held)
  pub places : (other : ℕ) → place_of after other ≡ place_of before other
  pub flows : after.flows ≡ before.flows
  pub conversation : new_held.conversation ≡ held.conversation
  pub connected : new_held.connected ≡ held.connected
  pub draft : new_held.draft ≡ held.draft
  pub marks : (other : ℕ) → has new_held.marks other ≡ ((index == other) || has held.marks other)

-- The draft with which the conversation under a key waits, at this hook, is changed, and nothing else changes.
pub record EditsAt {C : Type 0} (key : ℕ) (hook : Hook) (change : Edit) (held : Held C) (before after : Conversations C) : Type 0 where
  pub new_held : Held C
  pub live_now : slab.Updates before.live after.live key (Some new_held)
  pub places : (other : ℕ) → place_of after other ≡ place_of before other
  pub flows : after.flows ≡ before.flows
  pub edits : IsEdit hook change held new_held

-- these steps are of that conversation, and there are none where there is none
abbrev pub AllOfAny : Option ℕ → List Step → Type 0
AllOfAny None more = more ≡ []
AllOfAny (Some conv) more = AllOf conv more

module _ {C : Type 0} (standing : Standing C) (awaited : C → Option Ask) (number : C → ℕ) (made_due : C → List Move → List Command) where
  -- under this key the table has the conversation of this number
  pub record IsAtKey (conv key : ℕ) (table : Conversations C) : Type 0 where
    pub held : Held C
    pub is : slab.get table.live key ≡ Some held
    pub sound : IsSound standing held.conversation
    pub named : number held.conversation ≡ conv
    pub settled : IsSettled awaited held

  module _ {S : Type 0} (answers : Answering S) where
    -- It is live: it stands for its calls, gave what the trace has, and of a hook that it awaits the answerer's draft is kept.
    pub record IsLive (due : Due) (conv : ℕ) (held : Held C) (trace : Trace) : Type 0 where
      pub within : Within standing awaited number made_due due conv held trace []
      pub settled : IsSettled awaited held
      pub drafted : IsDrafted awaited answers due conv held trace

    -- what is under a number stands for the trace
    abbrev pub StandsIn : Due → ℕ → Trace → Found (Held C) → Type 0
    StandsIn due conv trace unknown = IsUnknown conv trace
    StandsIn due conv trace over = IsOver due conv trace
    StandsIn due conv trace lost = ⊥
    StandsIn due conv trace (live held) = IsLive due conv held trace

    -- At a step's end: under each number the table has what the trace says, and the trace is served. The answerer came over the trace
    -- from what it was at first to what it is now, and of each hook that is open the draft that the table keeps is pending. Marks are kept as
    -- the course made them, and live flows as they were asked about last.
    pub record TableStands (due : Due) (course : Course S) (now : AnswererState S) (table : Conversations C) (trace : Trace) : Type 0 where
      pub at : (conv : ℕ) → StandsIn due conv trace (found table conv)
      pub served : IsServed answers due trace
      pub pending : Pending
      pub answered : Answers answers due course trace now pending
      pub drafts : (conv : ℕ) → pending.given conv ≡ waiting (open_hook conv trace) (draft_of (found table conv))
      pub marks : (conv : ℕ) → KeepsMarks course.operations conv (found table conv)
      pub shown : (conv index : ℕ) → pending.shown conv index ≡ shown_in table.flows conv index

    -- it stands for something
    abbrev pub IsTabled : Conversations C → Type 0
    IsTabled table = (due : Due) × (course : Course S) × (now : AnswererState S) × (trace : Trace) × TableStands due course now table trace

    -- so has a router, by the state of its own answerer and what files mean
    abbrev pub RouterStands : {A : Type 0} → (A → S) → Due → Course S → FilesMeaning → Router C A → Trace → Type 0
    RouterStands state due course files router trace = TableStands due course (record { own = state router.answerer; files = files }) router.table trace

    -- it stands for something, unless memory ran out
    abbrev pub IsRouted : {A : Type 0} → Router C A → Type 0
    IsRouted router = router.poisoned ≡ false → IsTabled router.table

    -- News that the conversation under this key took.
    pub record HearsAt (ended : C → Bool) (conv moment : ℕ) (what : News) (key : ℕ) (before after : Conversations C) (old new : AnswererState S) (over_now : Bool) (out new_out : List Step) : Type 0 where
      pub held : Held C
      pub new_held : Held C
      pub was : slab.get before.live key ≡ Some held
      pub live_now : slab.Updates before.live after.live key (Some new_held)
      pub places : (other : ℕ) → place_of after other ≡ place_of before other
      pub hears : Hears standing awaited number made_due answers conv moment what held new_held before.flows after.flows old new out new_out
      pub ends : over_now ≡ ended new_held.conversation

    -- Steps that were added for news of a conversation are its own, and nothing of another changes; whatever trace the table
    -- stood for, it stands for that trace with what was heard and these steps more.
    pub record Hands (conv moment : ℕ) (what : News) (before after : Conversations C) (old new : AnswererState S) (out new_out : List Step) : Type 0 where
      pub more : List Step
      pub grown : new_out ≡ out ++ more
      pub own : AllOf conv more
      pub others : (other : ℕ) → conv ≢ other → found after other ≡ found before other
      pub stands : (due : Due) (course : Course S) (trace : Trace) (heard : Heard) → addressed heard ≡ Some (conv, what) → TableStands due course old before trace →
          TableStands due course new after ((trace ++ steps.Heard moment heard ∷ []) ++ more)

    -- So are those of a conversation that was admitted, where what is due of it is what is due under its number where its client
    -- is.
    pub record Admits (conv moment : ℕ) (conversation : C) (before after : Conversations C) (old new : AnswererState S) (out new_out : List Step) : Type 0 where
      pub more : List Step
      pub grown : new_out ≡ out ++ more
      pub own : AllOf conv more
      pub others : (other : ℕ) → conv ≢ other → found after other ≡ found before other
      pub stands : (due : Due) (course : Course S) (trace : Trace) (heard : Heard) (peer : Address) → addressed heard ≡ Some (conv, news.Begun peer) →
          ((moves : List Move) → made_due conversation moves ≡ due conv (Some peer) moves) → TableStands due course old before trace →
          TableStands due course new after ((trace ++ steps.Heard moment heard ∷ []) ++ more)
      -- It may have no client, and begin with no one heard, at the moment of what was heard last.
      pub alone : (due : Due) (course : Course S) (trace : Trace) → IsNow moment trace → ((moves : List Move) → made_due conversation moves ≡ due conv None moves) →
          TableStands due course old before trace → TableStands due course new after ((trace ++ steps.Begun conv ∷ []) ++ more)

    -- Something heard that a router took: it adds steps of that conversation alone, and changes nothing of another; whatever
    -- trace it stood for, it stands for that trace with what was heard and these steps more.
    pub record Routes (moment : ℕ) (heard : Heard) (before after : Conversations C) (old new : AnswererState S) (out new_out : List Step) : Type 0 where
      pub more : List Step
      pub grown : new_out ≡ out ++ more
      pub own : (conv : ℕ) (what : News) → addressed heard ≡ Some (conv, what) → AllOf conv more
      pub none : addressed heard ≡ None → (more ≡ []) × (after ≡ before)
      pub others : (conv other : ℕ) (what : News) → addressed heard ≡ Some (conv, what) → conv ≢ other → found after other ≡ found before other
      pub stands : (due : Due) (course : Course S) (trace : Trace) → TableStands due course old before trace → TableStands due course new after ((trace ++ steps.Heard moment heard ∷ []) ++ more)

    -- An operation on a hook that the conversation under this key awaits.
    pub record ReleasesAt (ended : C → Bool) (conv moment : ℕ) (operation : Operation) (key : ℕ) (before after : Conversations C) (old new : AnswererState S) (over_now : Bool) (out new_out : List Step) : Type 0 where
      pub held : Held C
      pub new_held : Held C
      pub was : slab.get before.live key ≡ Some held
      pub live_now : slab.Updates before.live after.live key (Some new_held)
      pub places : (other : ℕ) → place_of after other ≡ place_of before other
      pub releases : Releases standing awaited number made_due answers conv moment operation held new_held before.flows after.flows old new out new_out
      pub ends : over_now ≡ ended new_held.conversation

    -- An operation that was done. It adds steps of its flow's conversation alone, and changes nothing of another; whatever trace the table stood for,
    -- at the moment of what was heard last, it stands for that trace with these steps more, by the course with this operation.
    pub record Operates (moment : ℕ) (operation : Operation) (before after : Conversations C) (old new : AnswererState S) (out new_out : List Step) : Type 0 where
      pub more : List Step
      pub grown : new_out ≡ out ++ more
      pub own : AllOfAny (caused_in operation) more
      pub others : (other : ℕ) → conv_of operation ≢ Some other → found after other ≡ found before other
      pub stands : (due : Due) (course : Course S) (trace : Trace) → IsNow moment trace → TableStands due course old before trace →
          TableStands due (operated_on course trace operation old new) new after (trace ++ more)

-- Nothing is heard by which a conversation begins, but one that was admitted.
abbrev pub BeginsNone : {C A : Type 0} → Router C A → Heard → Type 0
BeginsNone router heard = (conv : ℕ) (peer : Address) → addressed heard ≡ Some (conv, news.Begun peer) → is_known router conv ≡ true

-- What an operation leaves as it was where it is refused.
pub record IsRefused {C A S : Type 0} (state : A → S) (before after : Router C A) : Type 0 where
  pub table : after.table ≡ before.table
  pub own : state after.answerer ≡ state before.answerer
  pub poisoned : after.poisoned ≡ before.poisoned
