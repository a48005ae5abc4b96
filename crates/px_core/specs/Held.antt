-- What a held conversation is in a trace, within a step and at its end.
use Rattle.std.specs.Prelude.{◌≡◌, ℕ, ◌≢◌, ◌+◌, ◌==◌, ◌||◌, Bool, true, false, List, [], ◌∷◌, ◌++◌, map, Option, Some, None, IsSome, option_to_list, ◌⊎◌, Ok, Err}
use Rattle.std.specs.List.{flat_map}
use Rattle.px_message.specs.declared.address.Address.{Address}
use Rattle.px_message.specs.declared.flow.Flow.{Flow}
use Rattle.px_message.specs.declared.flow.FlowId.{FlowId}
use Rattle.px_event.specs.declared.ask.Ask.{Ask}
use Rattle.px_event.specs.declared.ask.Ask.TheVariants as asks
use Rattle.px_event.specs.declared.ask.Hook.{Hook}
use Rattle.px_event.specs.declared.reply.Reply.{Reply}
use Rattle.px_event.specs.declared.command.Command.{Command}
use Rattle.px_event.specs.declared.command.Command.TheVariants as commands
use Rattle.px_event.specs.declared.said.Said.TheVariants as said
use Rattle.px_event.specs.declared.side.Side.{Side}
use Rattle.px_event.specs.declared.side.Side.TheVariants.{Client, Server}
use Rattle.px_event.specs.declared.step.Step.{Step}
use Rattle.px_event.specs.declared.step.Step.TheVariants as steps
use Rattle.px_event.specs.declared.heard.Heard.{Heard}
use Rattle.px_event.specs.Layer.{Move, Replied, Standing, Goes, IsNews, asks_in}
use Rattle.px_event.specs.Trace.{Trace}
use Rattle.px_event.specs.View.{View, IsTold, seen_of, seen_in}
use Rattle.px_core.specs.declared.answerer.Answer.TheVariants as answer
use Rattle.px_core.specs.declared.answerer.Draft.{Draft}
use Rattle.px_core.specs.declared.flows.Flows.{Flows}
use Rattle.px_core.specs.declared.held.Held.{Held}
use Rattle.px_core.specs.declared.held.Question.{Question}
use Rattle.px_core.specs.declared.waiting.Waiting.{Waiting}
use Rattle.px_core.specs.declared.operation.Operation.{Operation}
use Rattle.px_core.specs.Answered.{GivenTo, Pending, IsMarkedBy, IsNoAnswer, Answers, shown_behind, with_shown}
use Rattle.px_core.specs.Answers.{Answering, AnswererState}
use Rattle.px_core.specs.Course.{Course, Operated, is_marked, with_operation}
use Rattle.px_core.specs.declared.news.News.{News}
use Rattle.px_core.specs.declared.news.News.TheVariants as news
use Rattle.px_core.specs.Calls.{calls, calls_of, addressed, is_connected}
use Rattle.px_core.specs.Conversation.{AllNamed}
use Rattle.px_core.specs.Drafts.{answers_for, edited_at}
use Rattle.px_core.specs.Due.{Due, IsAskedLast, Waits, IsServed}
use Rattle.px_core.specs.Hooks.{open_hook, hook_of, AsksInTurn}
use Rattle.px_core.specs.Live.{shown_in}
use Rattle.px_core.specs.Runs.{has}
use Rattle.px_core.specs.Unmarked.{all_marked, none_marked}
use Rattle.px_draft.specs.declared.edit.Edit.{Edit}
use Rattle.px_draft.specs.declared.edited.Edited.{Edited}
use Rattle.px_draft.specs.declared.error.EditError.{EditError}
use Rattle.px_draft.specs.declared.error.EditError.TheVariants as errors
use Rattle.px_draft.specs.Edits.{changed, changed_by, fresh}

-- whether a side is connected, by the test which servers are
abbrev pub is_side : Side → (ℕ → Bool) → Bool
is_side Client servers = true
is_side (Server number) servers = servers number

-- the test once a dial has ended
abbrev pub servers_by : ℕ → Bool → (ℕ → Bool) → ℕ → Bool
servers_by server true servers number = (server == number) || servers number
servers_by server false servers number = servers number

-- the servers for which the test holds are those of the list
abbrev pub AreServers : (ℕ → Bool) → List ℕ → Type 0
AreServers servers connected = (number : ℕ) → is_connected (Server number) connected ≡ servers number

-- the step by which a command is carried out
abbrev pub step_of : ℕ → Command → Step
step_of conv (commands.Send side bytes) = steps.Said conv (said.Send side bytes)
step_of conv (commands.Close side) = steps.Said conv (said.Close side)
step_of conv (commands.Dial server address inside) = steps.Said conv (said.Dial server address)
step_of conv (commands.Ask ask flow) = steps.Asked conv ask
step_of conv (commands.Done flow) = steps.Done flow

-- a step of the conversation of this number
abbrev pub IsOf : ℕ → Step → Type 0
IsOf conv (steps.Heard moment heard) = ⊥
IsOf conv (steps.Begun number) = ⊥
IsOf conv (steps.Asked number ask) = number ≡ conv
IsOf conv (steps.Answered number ask reply) = number ≡ conv
IsOf conv (steps.Said number what) = number ≡ conv
IsOf conv (steps.Done flow) = flow.id.conv ≡ conv

abbrev pub AllOf : ℕ → List Step → Type 0
AllOf conv [] = Unit {0}
AllOf conv (step ∷ rest) = IsOf conv step × AllOf conv rest

-- the hook that a command asks
abbrev pub question_about : Ask → Flow → Option Question
question_about (asks.Hook index hook) flow = Some (record { ask = asks.Hook index hook; hook = hook; flow = flow })
question_about (asks.Dial server) flow = None

abbrev pub question_in : Command → Option Question
question_in (commands.Ask ask flow) = question_about ask flow
question_in _ = None

-- the later question, if there is one
abbrev pub question_by : Option Question → Option Question → Option Question
question_by None earlier = earlier
question_by (Some later) earlier = Some later

-- the last hook that these ask
abbrev pub asked_from : Option Question → List Command → Option Question
asked_from question [] = question
asked_from question (command ∷ rest) = asked_from (question_by (question_in command) question) rest

-- the server of the last dial
abbrev pub dial_by : Command → Option ℕ → Option ℕ
dial_by (commands.Dial server address inside) dial = Some server
dial_by _ dial = dial

abbrev pub dial_from : Option ℕ → List Command → Option ℕ
dial_from dial [] = dial
dial_from dial (command ∷ rest) = dial_from (dial_by command dial) rest

-- the server of a dial that is awaited
abbrev pub dial_of : Option Ask → Option ℕ
dial_of (Some (asks.Dial server)) = Some server
dial_of _ = None

-- a hook that is awaited waits with its draft
abbrev pub IsSettled : {C : Type 0} → (C → Option Ask) → Held C → Type 0
IsSettled awaited held = (flow : ℕ) (hook : Hook) → awaited held.conversation ≡ Some (asks.Hook flow hook) → IsSome held.draft

-- the question is what is awaited; where there is none, a hook that is awaited waits with its draft
abbrev pub IsNext : {C : Type 0} → (C → Option Ask) → Held C → Option Question → Type 0
IsNext awaited held None = IsSettled awaited held
IsNext awaited held (Some question) =
    (awaited held.conversation ≡ Some question.ask) × (question.ask ≡ asks.Hook question.flow.id.index question.hook)

-- these commands have the one ask that is awaited, or none, and then a hook that is awaited waits with its draft
abbrev pub IsReady : {C : Type 0} → (C → Option Ask) → Held C → List Command → Type 0
IsReady awaited held given =
    (flat_map asks_in given ≡ option_to_list (awaited held.conversation)) ⊎ ((flat_map asks_in given ≡ []) × IsSettled awaited held)

-- the flow that was asked about last is the question's
abbrev pub IsAbout : Due → ℕ → Trace → Option Question → Type 0
IsAbout due conv trace None = Unit {0}
IsAbout due conv trace (Some question) = IsAskedLast due trace conv question.ask question.flow

-- the draft that is kept of a hook that waits is the one that the answerer gave, and what lines made of it was made by changes
pub record IsKept {S : Type 0} (answers : Answering S) (due : Due) (trace : Trace) (conv : ℕ) (ask : Ask) (kept : Option Waiting) : Type 0 where
  pub draft : Draft
  pub edited : Option Edited
  pub is : kept ≡ Some (record { draft = draft; edited = edited })
  pub waits : Waits answers due trace conv ask draft
  pub changes : List Edit
  pub made : edited_at waits.hook draft edited ≡ changed_by changes (fresh waits.hook draft.flow)

-- of a hook that is awaited the answerer's draft is kept
abbrev pub IsDrafted : {C S : Type 0} → (C → Option Ask) → Answering S → Due → ℕ → Held C → Trace → Type 0
IsDrafted awaited answers due conv held trace =
    (flow : ℕ) (hook : Hook) → awaited held.conversation ≡ Some (asks.Hook flow hook) → IsKept answers due trace conv (asks.Hook flow hook) held.draft

-- so it is where no question is to be answered
abbrev pub IsDraftedBut : {C S : Type 0} → (C → Option Ask) → Answering S → Due → ℕ → Held C → Trace → Option Question → Type 0
IsDraftedBut awaited answers due conv held trace None = IsDrafted awaited answers due conv held trace
IsDraftedBut awaited answers due conv held trace (Some question) = Unit {0}

-- so it is where these commands ask nothing
abbrev pub IsDraftedBehind : {C S : Type 0} → (C → Option Ask) → Answering S → Due → ℕ → Held C → Trace → List Command → Type 0
IsDraftedBehind awaited answers due conv held trace rest = flat_map asks_in rest ≡ [] → IsDrafted awaited answers due conv held trace

-- of a hook that is open and waits, what the answerer gave, with what lines made of it
abbrev pub waiting : Option Ask → Option Waiting → Option GivenTo
waiting (Some ask) (Some kept) = Some (record { ask = ask; answer = answer.Wait kept.draft; edited = kept.edited })
waiting _ _ = None

-- lines made this of a draft that waits at a hook, by one change more
pub record IsChanged (hook : Hook) (change : Edit) (before after : Waiting) : Type 0 where
  pub edited : Edited
  pub changes : changed change (edited_at hook before.draft before.edited) ≡ Ok edited
  pub now : after ≡ record { draft = before.draft; edited = Some edited }

-- why it was not changed: memory ran out, or the change is refused
abbrev pub IsUnchanged : Hook → Edit → Waiting → EditError → Type 0
IsUnchanged hook change kept error = (error ≡ errors.NoMemory) ⊎ (changed change (edited_at hook kept.draft kept.edited) ≡ Err error)

-- the draft that is kept is changed so, and nothing else of what is held changes
pub record IsEdit {C : Type 0} (hook : Hook) (change : Edit) (before after : Held C) : Type 0 where
  pub kept : Waiting
  pub new_kept : Waiting
  pub was : before.draft ≡ Some kept
  pub changes : IsChanged hook change kept new_kept
  pub now : after ≡ record before { draft = Some new_kept }

-- of these steps none asks a hook or answers one
abbrev pub NoneAnswers : List Step → Type 0
NoneAnswers [] = Unit {0}
NoneAnswers (step ∷ rest) = IsNoAnswer step × NoneAnswers rest

-- what is kept of a conversation beside its state: the draft of its hook if that waits, which of its flows have a mark, by their indices,
-- and what each of its live flows was when it was asked about last
pub record Kept : Type 0 where
  pub draft : Option Waiting
  pub marks : ℕ → Bool
  pub shown : ℕ → Option Flow

abbrev pub kept_of : {C : Type 0} → ℕ → Held C → Flows → Kept
kept_of conv held shown = record { draft = held.draft; marks = has held.marks; shown = shown_in shown conv }

-- what is shown of flows behind steps that ask nothing and answer nothing
abbrev pub shown_over : List Step → (ℕ → ℕ → Option Flow) → ℕ → ℕ → Option Flow
shown_over [] before = before
shown_over (step ∷ rest) before = shown_over rest (shown_behind step before)

-- what is shown of them behind commands: one that asks shows its flow, and one that finishes a flow shows it no more
abbrev pub shown_by : Command → (ℕ → ℕ → Option Flow) → ℕ → ℕ → Option Flow
shown_by (commands.Ask ask flow) before = with_shown flow.id.conv flow.id.index (Some flow) before
shown_by (commands.Done flow) before = with_shown flow.id.conv flow.id.index None before
shown_by _ before = before

abbrev pub shown_told : List Command → (ℕ → ℕ → Option Flow) → ℕ → ℕ → Option Flow
shown_told [] before = before
shown_told (command ∷ rest) before = shown_told rest (shown_by command before)

-- so is what the one shows behind these commands of what the other shows
abbrev pub ShowsTold : List Command → Flows → Flows → Type 0
ShowsTold given before after = (conv index : ℕ) → shown_in after conv index ≡ shown_told given (shown_in before) conv index

-- of flows of other conversations it shows what it showed
abbrev pub ShowsOthers : ℕ → Flows → Flows → Type 0
ShowsOthers conv before after = (other index : ℕ) → conv ≢ other → shown_in after other index ≡ shown_in before other index

-- each flow that these steps finish has its mark
abbrev pub AllMarkedBy : List Operated → List Step → Type 0
AllMarkedBy made [] = Unit {0}
AllMarkedBy made (step ∷ rest) = IsMarkedBy made step × AllMarkedBy made rest

-- The answerer came so far over a trace in which this conversation is worked off. Of a hook that is open in it, the draft that is kept is
-- pending, and in the others what was pending before. What is kept of its flows is so too.
pub record Follows {S : Type 0} (answers : Answering S) (due : Due) (course : Course S) (before : Pending) (conv : ℕ) (kept : Kept) (now : AnswererState S)
    (trace : Trace) : Type 0 where
  pub pending : Pending
  pub answered : Answers answers due course trace now pending
  pub here : pending.given conv ≡ waiting (open_hook conv trace) kept.draft
  pub others : (other : ℕ) → conv ≢ other → pending.given other ≡ before.given other
  pub marks : (index : ℕ) → is_marked course.operations conv index ≡ kept.marks index
  pub shown : (index : ℕ) → pending.shown conv index ≡ kept.shown index
  pub shown_others : (other index : ℕ) → conv ≢ other → pending.shown other index ≡ before.shown other index

-- The answerer is still to be asked this question: it came so far directly before its hook was asked, about whose flow it was, and
-- behind that no hook was asked or answered. What is kept of flows is already so behind all of it.
pub record IsToAsk {S : Type 0} (answers : Answering S) (due : Due) (course : Course S) (before : Pending) (conv : ℕ) (kept : Kept) (now : AnswererState S)
    (trace : Trace) (question : Question) : Type 0 where
  pub prefix : Trace
  pub behind : List Step
  pub is : trace ≡ (prefix ++ steps.Asked conv question.ask ∷ []) ++ behind
  pub quiet : NoneAnswers behind
  pub own : AllOf conv behind
  pub marked_behind : AllMarkedBy course.operations behind
  pub was : ℕ → Option Flow
  pub follows : Follows answers due course before conv (record { draft = kept.draft; marks = kept.marks; shown = was }) now prefix
  pub free : open_hook conv prefix ≡ None
  pub last : IsAskedLast due prefix conv question.ask question.flow
  pub marked : question.flow.marked ≡ is_marked course.operations conv question.flow.id.index
  pub shown : (index : ℕ) → shown_over behind (with_shown conv question.flow.id.index (Some question.flow) follows.pending.shown) conv index ≡ kept.shown index

-- it came so far, or where a question is open is still to be asked it
abbrev pub FollowsTo : {S : Type 0} → Answering S → Due → Course S → Pending → ℕ → Kept → AnswererState S → Trace → Option Question → Type 0
FollowsTo answers due course before conv kept now trace None = Follows answers due course before conv kept now trace
FollowsTo answers due course before conv kept now trace (Some question) = IsToAsk answers due course before conv kept now trace question

-- the operation answers the hook that the conversation of this number awaits
abbrev pub IsReleased : {C : Type 0} → (C → Option Ask) → ℕ → Operation → Held C → Type 0
IsReleased awaited conv operation held = (id : FlowId) × (hook : Hook) × (answers_for operation ≡ Some id) × (id.conv ≡ conv) × (awaited held.conversation ≡ Some (asks.Hook id.index hook))

-- how often the loop that answers can still turn
abbrev pub turns_left : ℕ → Option Question → ℕ
turns_left left None = left
turns_left left (Some question) = left + 1

-- A reply that was given: it stands in the trace before what it causes, in which each flow has its mark.
pub record Replies {C : Type 0} (standing : Standing C) (awaited : C → Option Ask) (conv moment : ℕ) (ask : Ask) (reply : Reply)
    (before after : Held C) (shown new_shown : Flows) (question : Option Question) (out new_out : List Step) : Type 0 where
  pub given : List Command
  pub grown : new_out ≡ (out ++ steps.Answered conv ask reply ∷ []) ++ map (step_of conv) (all_marked (has before.marks) given)
  pub goes : Goes standing before.conversation after.conversation (Replied moment reply) [] given
  pub asks_one : flat_map asks_in given ≡ option_to_list (awaited after.conversation)
  pub named : AllNamed conv given
  pub asked : question ≡ asked_from None (all_marked (has before.marks) given)
  pub shows : ShowsTold (all_marked (has before.marks) given) shown new_shown
  pub same_sides : after.connected ≡ before.connected
  pub same_draft : after.draft ≡ before.draft
  pub same_marks : after.marks ≡ before.marks

-- A call gave these commands; with what was dialled before, they dial what is awaited, and with the hook that was awaited
-- before, they ask the one that is.
pub record Gives {C : Type 0} (standing : Standing C) (awaited : C → Option Ask) (move : Move) (dial : Option ℕ) (before after : C) (given : List Command) : Type 0 where
  pub goes : Goes standing before after move [] given
  pub dials : dial_from dial given ≡ dial_of (awaited after)
  pub turn : AsksInTurn (hook_of (awaited before)) given (hook_of (awaited after))

-- The trace goes on by one call of the conversation, whose client is there, at this moment; then this dial awaits its end,
-- and these servers are connected. No view has more of it, and no hook is asked or answered.
pub record IsOneOn (conv : ℕ) (peer : Option Address) (moment : ℕ) (move : Move) (dial : Option ℕ) (servers : ℕ → Bool) (trace next : Trace) : Type 0 where
  pub moves : calls_of conv next ≡ calls_of conv trace ++ move ∷ []
  pub begun : (calls conv next).peer ≡ Some peer
  pub dials : (calls conv next).dial ≡ dial
  pub connected : AreServers servers (calls conv next).connected
  pub now : (calls conv next).moment ≡ moment
  pub sees : (view : View) → IsTold view → seen_in view conv next ≡ seen_in view conv trace
  pub hook : open_hook conv next ≡ open_hook conv trace

-- the news is no answer
abbrev pub IsHeardNews : News → Type 0
IsHeardNews (news.Event side event) = IsNews event
IsHeardNews _ = Unit {0}

module _ {C : Type 0} (standing : Standing C) (awaited : C → Option Ask) (number : C → ℕ) (made_due : C → List Move → List Command) where
  -- The conversation stands for its calls in the trace. It gave, but for marks, what the trace has of it, and these commands behind, which
  -- are still to be told.
  pub record Within (due : Due) (conv : ℕ) (held : Held C) (trace : Trace) (rest : List Command) : Type 0 where
    pub made : C
    pub peer : Option Address
    pub given : List Command
    pub earlier : List Command
    pub stands : standing made held.conversation (calls_of conv trace) given
    pub alike : none_marked given ≡ none_marked (earlier ++ rest)
    pub owes : (moves : List Move) → made_due made moves ≡ due conv peer moves
    pub tells : (view : View) → IsTold view → seen_of view earlier ≡ seen_in view conv trace
    pub named : number held.conversation ≡ conv
    pub begun : (calls conv trace).peer ≡ Some peer
    pub servers : AreServers (has held.connected) (calls conv trace).connected
    pub dial : dial_from (calls conv trace).dial rest ≡ dial_of (awaited held.conversation)
    pub turn : AsksInTurn (open_hook conv trace) rest (hook_of (awaited held.conversation))

  -- The conversation, whose client is there, stands for its calls in the trace, and gave what the trace has of it. The hook
  -- that it awaits is open, and only one that has begun awaits one.
  pub record Stood (due : Due) (conv : ℕ) (peer : Option Address) (state : C) (trace : Trace) : Type 0 where
    pub made : C
    pub given : List Command
    pub earlier : List Command
    pub stands : standing made state (calls_of conv trace) given
    pub alike : none_marked given ≡ none_marked (earlier ++ [])
    pub owes : (moves : List Move) → made_due made moves ≡ due conv peer moves
    pub tells : (view : View) → IsTold view → seen_of view earlier ≡ seen_in view conv trace
    pub hook : open_hook conv trace ≡ hook_of (awaited state)
    pub there : (ask : Ask) → hook_of (awaited state) ≡ Some ask → (calls conv trace).peer ≡ Some peer

  module _ {S : Type 0} (answers : Answering S) where
    -- Where a conversation is worked off to, with this question open, and the answerer with it. Each record below takes the answerer
    -- from what it is before to what it is after, whatever it was at first and whatever is pending in the other conversations.
    pub record WorkedTo (due : Due) (course : Course S) (pending : Pending) (conv moment : ℕ) (held : Held C) (shown : Flows) (state : AnswererState S) (question : Option Question) (trace : Trace) : Type 0 where
      pub within : Within due conv held trace []
      pub now : (calls conv trace).moment ≡ moment
      pub served : IsServed answers due trace
      pub last : IsAbout due conv trace question
      pub drafted : IsDraftedBut awaited answers due conv held trace question
      pub follows : FollowsTo answers due course pending conv (kept_of conv held shown) state trace question

    -- Answering its open hook, or letting it wait, does so too, once or until none is left.
    pub record Asks (conv moment : ℕ) (question : Option Question) (before after : Held C) (shown new_shown : Flows) (old new : AnswererState S) (open_now : Option Question) (out new_out : List Step) : Type 0 where
      pub more : List Step
      pub grown : new_out ≡ out ++ more
      pub own : AllOf conv more
      pub works : (due : Due) (course : Course S) (pending : Pending) (trace : Trace) → WorkedTo due course pending conv moment before shown old question trace →
          WorkedTo due course pending conv moment after new_shown new open_now (trace ++ more)
      pub next : IsNext awaited after open_now
      pub others : ShowsOthers conv shown new_shown

    -- Working off a conversation that has these commands still to be told adds steps of its own; wherever it stood in a
    -- trace, it stands in that trace with these steps more.
    pub record Works (conv moment : ℕ) (rest : List Command) (before after : Held C) (shown new_shown : Flows) (old new : AnswererState S) (question : Option Question) (out new_out : List Step) : Type 0 where
      pub more : List Step
      pub grown : new_out ≡ out ++ more
      pub own : AllOf conv more
      pub works : (due : Due) (course : Course S) (pending : Pending) (trace : Trace) → Within due conv before trace rest → (calls conv trace).moment ≡ moment → IsServed answers due trace →
          IsDraftedBehind awaited answers due conv before trace rest → Follows answers due course pending conv (kept_of conv before shown) old trace →
          WorkedTo due course pending conv moment after new_shown new question (trace ++ more)
      pub next : IsNext awaited after question
      pub others : ShowsOthers conv shown new_shown

    -- A call that was taken and worked off adds steps of the conversation's; wherever it stood in a trace that goes on by
    -- that call, it stands in that trace with these steps more.
    pub record Takes (conv moment : ℕ) (move : Move) (dial : Option ℕ) (servers : ℕ → Bool) (before after : Held C) (shown new_shown : Flows) (old new : AnswererState S) (out new_out : List Step) : Type 0 where
      pub more : List Step
      pub grown : new_out ≡ out ++ more
      pub own : AllOf conv more
      pub takes : (due : Due) (course : Course S) (pending : Pending) (peer : Option Address) (trace next : Trace) → Stood due conv peer before.conversation trace →
          IsDrafted awaited answers due conv before trace → IsOneOn conv peer moment move dial servers trace next → IsServed answers due next →
          Follows answers due course pending conv (kept_of conv before shown) old next →
          Within due conv after (next ++ more) [] × IsServed answers due (next ++ more) × IsDrafted awaited answers due conv after (next ++ more)
          × Follows answers due course pending conv (kept_of conv after new_shown) new (next ++ more)
      pub settled : IsSettled awaited after
      pub others : ShowsOthers conv shown new_shown

    -- News that a conversation took add steps of its own; wherever it stood in a trace, it stands in that trace with what
    -- was heard and these steps more.
    pub record Hears (conv moment : ℕ) (what : News) (before after : Held C) (shown new_shown : Flows) (old new : AnswererState S) (out new_out : List Step) : Type 0 where
      pub more : List Step
      pub grown : new_out ≡ out ++ more
      pub own : AllOf conv more
      pub hears : (due : Due) (course : Course S) (pending : Pending) (trace : Trace) (heard : Heard) → addressed heard ≡ Some (conv, what) →
          Within due conv before trace [] → IsDrafted awaited answers due conv before trace → IsServed answers due (trace ++ steps.Heard moment heard ∷ []) →
          Follows answers due course pending conv (kept_of conv before shown) old (trace ++ steps.Heard moment heard ∷ []) →
          Within due conv after ((trace ++ steps.Heard moment heard ∷ []) ++ more) []
          × IsServed answers due ((trace ++ steps.Heard moment heard ∷ []) ++ more)
          × IsDrafted awaited answers due conv after ((trace ++ steps.Heard moment heard ∷ []) ++ more)
          × Follows answers due course pending conv (kept_of conv after new_shown) new ((trace ++ steps.Heard moment heard ∷ []) ++ more)
      pub settled : IsSettled awaited after
      pub others : ShowsOthers conv shown new_shown

    -- A hook that waits was answered by an operation, and what follows was worked off: it adds steps of the conversation's own; wherever it
    -- stood at a step's end, at the moment of what was heard last, it stands there with these steps more, by the course with this operation.
    pub record Releases (conv moment : ℕ) (operation : Operation) (before after : Held C) (shown new_shown : Flows) (old new : AnswererState S) (out new_out : List Step) : Type 0 where
      pub more : List Step
      pub grown : new_out ≡ out ++ more
      pub own : AllOf conv more
      pub releases : (due : Due) (course : Course S) (pending : Pending) (trace : Trace) → Within due conv before trace [] → IsDrafted awaited answers due conv before trace →
          (calls conv trace).moment ≡ moment → IsServed answers due trace → Follows answers due course pending conv (kept_of conv before shown) old trace →
          Within due conv after (trace ++ more) [] × IsServed answers due (trace ++ more) × IsDrafted awaited answers due conv after (trace ++ more)
          × Follows answers due (with_operation course trace operation) pending conv (kept_of conv after new_shown) new (trace ++ more)
      pub settled : IsSettled awaited after
      pub others : ShowsOthers conv shown new_shown
