-- An operation, for a table of conversations.
use Rattle.std.proofs.Common.{◌≡◌, ◌≢◌, ◌⊎◌, inl, inr, ℕ, Bool, true, false, ◌==◌, ◌&&◌, ◌||◌, List, [], ◌∷◌, ◌++◌, Option, Some, None, refl, ap, sym, ◌∙◌, map, append_assoc, subst, is_some, Bor, IfErr, IsSome, Result, Ok, Err}
use Rattle.std.specs.Prelude.{if◌then◌else◌, option_copied, IfSome}
use Rattle.std.specs.List.{list_any, AllByRecursion}
use Rattle.std.specs.List.Sorted.{IsStrictlySortedBy}
use Rattle.std.specs.declared.cmp.Ordering.TheVariants.{Less}
use Rattle.std.proofs.lemmas.List.{append-nil}
use Rattle.std.proofs.lemmas.Bool.{eq-eqb, ne_eqb}
use Rattle.std.proofs.lemmas.Bool.Decides.{eqb_tells}
use Rattle.slab.specs.Slab as slab
use Rattle.std.specs.BTreeMap as tree
use Rattle.std.specs.Ordering.{eq_by_cmp}
use Rattle.std.specs.Set.{is_member}
use Rattle.px_core.proofs.FlowsLemmas.{at_number}
use Rattle.px_text.specs.Prefix.{IsPrefixOf}
use Rattle.px_message.specs.declared.flow.Flow.{Flow}
use Rattle.px_message.specs.declared.flow.FlowId.{FlowId}
use Rattle.px_event.specs.declared.ask.Ask.{Ask}
use Rattle.px_event.specs.declared.ask.Ask.TheVariants as asks
use Rattle.px_event.specs.declared.ask.Hook.{Hook}
use Rattle.px_event.specs.declared.command.Command.{Command}
use Rattle.px_event.specs.declared.step.Step.{Step}
use Rattle.px_event.specs.declared.step.Step.TheVariants as steps
use Rattle.px_event.specs.Layer.{Move, Standing}
use Rattle.px_event.specs.Trace.{Trace}
use Rattle.px_event.specs.View.{View, Atom, questions, seen_of, seen_in, step_atoms}
use Rattle.px_core.specs.declared.flows.Flows.{Flows}
use Rattle.px_core.specs.declared.held.Held.{Held}
use Rattle.px_core.specs.declared.operation.Operation.{Operation}
use Rattle.px_core.specs.declared.operation.OperateError.{OperateError}
use Rattle.px_core.specs.declared.operation.OperateError.TheVariants as refused
use Rattle.px_core.specs.declared.waiting.Waiting.{Waiting}
use Rattle.px_core.specs.declared.operation.Operation.TheVariants as operations
use Rattle.px_core.specs.declared.table.Entry.{Entry}
use Rattle.px_core.specs.declared.table.Entry.TheVariants as place
use Rattle.px_core.specs.declared.table.Conversations.{Conversations}
use Rattle.px_core.specs.Answered.{GivenTo, Pending, IsNoAnswer, Answers, at_first, at_hook, at_reply, at_other, at_change, at_mark, at_edit, at_release, left_waiting, shown_behind, with_shown}
use Rattle.px_core.specs.Answers.{Answering, AnswererState, ByAnswers, FilesMeaning, by_none}
use Rattle.px_core.specs.Calls.{calls}
use Rattle.px_core.specs.Course.{Course, Operated, is_mark_of, is_marked, operated, with_operation}
use Rattle.px_core.specs.Drafts.{answers_for, edited_at}
use Rattle.px_draft.specs.declared.edit.Edit.{Edit}
use Rattle.px_draft.specs.Edits.{changed, fresh}
use Rattle.px_core.specs.Due.{Due}
use Rattle.px_core.specs.Held.{AllOf, IsChanged, IsKept, IsSettled, Kept, kept_of, waiting, IsReleased, Releases, Follows}
use Rattle.px_core.specs.Hooks.{open_hook, hook_of}
use Rattle.px_core.specs.Live.{AreLive, IsLastAsked, flow_cmp, is_same_flow, pair_cmp, hook_in, is_live, live_from, live_on, shown_in, waiting_hook}
use Rattle.px_core.specs.Router.{Found, unknown, over, lost, live, found, found_at, found_by, hook_at, place_of, AllOfAny, AwaitsFor, IsLive, IsNow, IsTabled, IsUnknown, KeepsMarks, Operates, PutsPlace, ReleasesAt, StandsIn, TableStands, MovesBy, caused_in, conv_of, draft_of, operated_on, refusal, refusal_at, refusal_in, refusal_of, refusal_or, EditsAt, IsJudged}
use Rattle.px_core.specs.Runs.{has}
use Rattle.px_core.proofs.AnsweredLemmas.{any_more, changed_more, marked_released, pending_here, pending_other}
use Rattle.px_core.proofs.CallLemmas.{others_calls, others_seen, same_number}
use Rattle.px_core.proofs.HookLemmas.{others_hook}
use Rattle.px_core.proofs.CourseLemmas.{stands_changed}
use Rattle.px_core.proofs.RouteLemmas.{apart_keys, at_key, draft_in, here_stands, live_in, marks_in, marks_live, next_stands, same_found, table_follows, IsHeldOr}
use Rattle.px_core.proofs.NextLemmas.{Same}

-- whether a flow is live, one step further
live_from-more : (conv index : ℕ) (was : Bool) (trace : Trace) (step : Step) → live_from conv index was (trace ++ step ∷ []) ≡ live_on conv index (live_from conv index was trace) step
live_from-more conv index was [] step = refl
live_from-more conv index was (s ∷ trace) step = live_from-more conv index (live_on conv index was s) trace step

shown_if : (test : Bool) (flow : Flow) (was : Option Flow) → is_some (if test then Some flow else was) ≡ (if test then true else is_some was)
shown_if true flow was = refl
shown_if false flow was = refl

hidden_if : (test : Bool) (was : Option Flow) → is_some (if test then None else was) ≡ (if test then false else is_some was)
hidden_if true was = refl
hidden_if false was = refl

behind_live : (conv index : ℕ) (step : Step) (shown : ℕ → ℕ → Option Flow) → IsNoAnswer step → is_some (shown_behind step shown conv index) ≡ live_on conv index (is_some (shown conv index)) step
behind_live conv index (steps.Heard moment heard) shown quiet = refl
behind_live conv index (steps.Begun number) shown quiet = refl
behind_live conv index (steps.Asked number ask) shown quiet = absurd quiet
behind_live conv index (steps.Answered number ask reply) shown quiet = absurd quiet
behind_live conv index (steps.Said number what) shown quiet = refl
behind_live conv index (steps.Done flow) shown quiet = hidden_if ((flow.id.conv == conv) && (flow.id.index == index)) (shown conv index)

-- the flows that are shown are the live ones
pub shown_live : {S : Type 0} (answers : Answering S) (due : Due) (course : Course S) (trace : Trace) (now : AnswererState S) (pending : Pending) → Answers answers due course trace now pending →
    (conv index : ℕ) → is_some (pending.shown conv index) ≡ live_from conv index false trace
shown_live answers due course trace now pending (at_first c none no_operations) conv index = refl
shown_live answers due course whole now pending (at_hook c trace next old new was number hook flow given before split free last marked so) conv index =
    let test = (number == conv) && (flow.id.index == index) in
    shown_if test flow (was.shown conv index)
    ∙ (ap (λ b. if test then true else b) (shown_live answers due course trace old was before conv index)
    ∙ (sym (live_from-more conv index false trace (steps.Asked number (asks.Hook flow.id.index hook))) ∙ ap (live_from conv index false) (sym split)))
shown_live answers due course whole now pending (at_reply c trace next state was number ask reply before split is_given) conv index =
    shown_live answers due course trace now was before conv index
    ∙ (sym (live_from-more conv index false trace (steps.Answered number ask reply)) ∙ ap (live_from conv index false) (sym split))
shown_live answers due course whole now pending (at_other c trace next state was step before split quiet marked) conv index =
    behind_live conv index step was.shown quiet
    ∙ (ap (λ b. live_on conv index b step) (shown_live answers due course trace now was before conv index)
    ∙ (sym (live_from-more conv index false trace step) ∙ ap (live_from conv index false) (sym split)))
shown_live answers due course whole now pending (at_change made next trace old new was before split) conv index = shown_live answers due made whole old pending before conv index
shown_live answers due course whole now pending (at_mark made next trace state was id before split) conv index = shown_live answers due made whole now pending before conv index
shown_live answers due course whole now pending (at_edit made next trace state was id change hook draft edits edited before split waits changes) conv index = shown_live answers due made whole now was before conv index
shown_live answers due course whole now pending (at_release made c trace next state was operation id hook draft edited before split for waits grown) conv index =
    shown_live answers due made trace now was before conv index
    ∙ (sym (live_from-more conv index false trace (steps.Answered id.conv (asks.Hook id.index hook) _)) ∙ ap (live_from conv index false) (sym grown))

-- a flow of a conversation of which nothing was asked is not live
nothing_front : (a b : List Atom) → a ++ b ≡ [] → a ≡ []
nothing_front [] b e = refl
nothing_front (x ∷ a) b e = absurd (cc)

nothing_behind : (a b : List Atom) → a ++ b ≡ [] → b ≡ []
nothing_behind [] b e = e
nothing_behind (x ∷ a) b e = absurd (cc)

unasked : (number conv : ℕ) (test : Bool) (other : Bool) (atom : Atom) → (if test then atom ∷ [] else []) ≡ [] → (if test && other then true else false) ≡ false
unasked number conv true other atom e = absurd (let no : atom ∷ [] ≡ [] = e in cc)
unasked number conv false other atom e = refl

never_on : (conv index : ℕ) (step : Step) → step_atoms questions conv step ≡ [] → live_on conv index false step ≡ false
never_on conv index (steps.Heard moment heard) none = refl
never_on conv index (steps.Begun number) none = refl
never_on conv index (steps.Asked number (asks.Hook flow hook)) none = unasked number conv (number == conv) (flow == index) _ none
never_on conv index (steps.Asked number (asks.Dial server)) none = refl
never_on conv index (steps.Answered number ask reply) none = refl
never_on conv index (steps.Said number what) none = refl
never_on conv index (steps.Done flow) none = by ((flow.id.conv == conv) && (flow.id.index == index))
  where
    by : (test : Bool) → (if test then false else false) ≡ false
    by true = refl
    by false = refl

never_live : (conv index : ℕ) (trace : Trace) → seen_in questions conv trace ≡ [] → live_from conv index false trace ≡ false
never_live conv index [] none = refl
never_live conv index (step ∷ trace) none =
    ap (λ b. live_from conv index b trace) (never_on conv index step (nothing_front (step_atoms questions conv step) (seen_in questions conv trace) none))
    ∙ never_live conv index trace (nothing_behind (step_atoms questions conv step) (seen_in questions conv trace) none)

-- what was lent is what the table shows
pub shown_flow : (result : Option (Bor Flow)) (x : Option Flow) (P : Flow → Type 0) → option_copied result ≡ x → ((flow : Flow) → x ≡ Some flow → P flow) → IfSome result (λ f. P f.now)
shown_flow None x P is all = tt
shown_flow (Some f) x P is all = all f.now (sym is)

pub lent_some : (result : Option (Bor Flow)) (x : Option Flow) → option_copied result ≡ x → is_some result ≡ is_some x
lent_some None x is = ap is_some is
lent_some (Some f) x is = ap is_some is

pub if_err_map : {T E : Type 0} (result : Result T E) (P Q : E → Type 0) → ((error : E) → P error → Q error) → IfErr result P → IfErr result Q
if_err_map (Ok t) P Q all p = tt
if_err_map (Err e) P Q all p = all e p

pub if_err_then : {T E Q : Type 0} (result : Result T E) (error : E) (A : E → Type 0) → result ≡ Err error → IfErr result (λ e. A e × Q) → Q
if_err_then (Ok t) error A is p = absurd (cc)
if_err_then (Err e) error A is p = p.1

-- the flows of these numbers, each with its hook that waits
abbrev pub listed : {C : Type 0} → (C → Option Ask) → Conversations C → List (ℕ × ℕ) → List (FlowId × Option Hook)
listed awaited table numbers = map (λ n. (record { conv = n.0; index = n.1 }, hook_at awaited n.1 (found table n.0))) numbers

below_all : {C : Type 0} (awaited : C → Option Ask) (table : Conversations C) (first : ℕ × ℕ) (numbers : List (ℕ × ℕ)) → AllByRecursion (λ n. pair_cmp first n ≡ Less) numbers →
    AllByRecursion (λ n. flow_cmp (record { conv = first.0; index = first.1 }) n ≡ Less) (map (λ l. l.0) (listed awaited table numbers))
below_all awaited table first [] all = tt
below_all awaited table first (n ∷ numbers) (here, all) = (here, below_all awaited table first numbers all)

rising_list : {C : Type 0} (awaited : C → Option Ask) (table : Conversations C) (numbers : List (ℕ × ℕ)) → IsStrictlySortedBy pair_cmp numbers → IsStrictlySortedBy flow_cmp (map (λ l. l.0) (listed awaited table numbers))
unfolding IsStrictlySortedBy
rising_list awaited table [] sorted = tt
rising_list awaited table (n ∷ numbers) (here, sorted) = (below_all awaited table n numbers here, rising_list awaited table numbers sorted)

member_list : {C : Type 0} (awaited : C → Option Ask) (table : Conversations C) (id : FlowId) (numbers : List (ℕ × ℕ)) →
    is_member (eq_by_cmp pair_cmp) numbers (id.conv, id.index) ≡ list_any (λ l. is_same_flow id l.0) (listed awaited table numbers)
member_list awaited table id [] = refl
member_list awaited table id (n ∷ numbers) =
    ap (λ b. b || is_member (eq_by_cmp pair_cmp) numbers (id.conv, id.index)) (at_number id.conv id.index n.0 n.1)
    ∙ ap (λ b. ((id.conv == n.0) && (id.index == n.1)) || b) (member_list awaited table id numbers)

-- one more of them is listed
pub listed_next : {C : Type 0} (awaited : C → Option Ask) (table : Conversations C) (rest next : List (ℕ × ℕ)) (number : ℕ × ℕ) (before between all : List (FlowId × Option Hook)) (hook : Option Hook) →
    rest ≡ number ∷ next → before ++ listed awaited table rest ≡ all → hook ≡ hook_at awaited number.1 (found table number.0) →
    between ≡ before ++ (record { conv = number.0; index = number.1 }, hook) ∷ [] → between ++ listed awaited table next ≡ all
listed_next awaited table rest next number before between all hook is split so grown =
    ap (λ l. l ++ listed awaited table next) grown
    ∙ (append_assoc before ((record { conv = number.0; index = number.1 }, hook) ∷ []) (listed awaited table next)
    ∙ (ap (λ h. before ++ (record { conv = number.0; index = number.1 }, h) ∷ listed awaited table next) so ∙ (ap (λ l. before ++ listed awaited table l) (sym is) ∙ split)))

-- steps of another conversation
pub other_more : (conv other : ℕ) (trace more : Trace) → AllOf conv more → conv ≢ other → Same other trace (trace ++ more)
other_more conv other trace more all apart =
    let on = others_calls conv other trace more all apart in
    record {
      moves = ap (λ c. c.moves) on;
      peer = ap (λ c. c.peer) on;
      dial = ap (λ c. c.dial) on;
      connected = ap (λ c. c.connected) on;
      sees = λ view told. others_seen view conv other trace more all apart;
      hook = others_hook conv other trace more all apart;
    }

pub same_trace : (conv : ℕ) (trace : Trace) → Same conv trace trace
same_trace conv trace = record { moves = refl; peer = refl; dial = refl; connected = refl; sees = λ view told. refl; hook = refl }

hook_in_of : (index : ℕ) (awaits : Option Ask) → hook_in index (hook_of awaits) ≡ hook_in index awaits
hook_in_of index None = refl
hook_in_of index (Some (asks.Hook flow hook)) = refl
hook_in_of index (Some (asks.Dial server)) = refl

-- the course with an operation on a flow's hook
operated_is : {S : Type 0} (course : Course S) (trace : Trace) (operation : Operation) (old new : AnswererState S) (id : FlowId) → answers_for operation ≡ Some id →
    with_operation course trace operation ≡ operated_on course trace operation old new
operated_is course trace (operations.Resume other) old new id is = refl
operated_is course trace (operations.Kill other) old new id is = refl
operated_is course trace (operations.Edit other change) old new id is = absurd (let no : None ≡ Some id = is in cc)
operated_is course trace (operations.Mark other) old new id is = refl
operated_is course trace (operations.DropAddon name) old new id is = absurd (let no : None ≡ Some id = is in cc)

pub conv_for : (operation : Operation) (id : FlowId) → answers_for operation ≡ Some id → conv_of operation ≡ Some id.conv
conv_for (operations.Resume other) id is = let same : other ≡ id = cc in ap (λ i. Some i.conv) same
conv_for (operations.Kill other) id is = let same : other ≡ id = cc in ap (λ i. Some i.conv) same
conv_for (operations.Edit other change) id is = absurd (let no : None ≡ Some id = is in cc)
conv_for (operations.Mark other) id is = absurd (let no : None ≡ Some id = is in cc)
conv_for (operations.DropAddon name) id is = absurd (let no : None ≡ Some id = is in cc)

caused_for : (operation : Operation) (id : FlowId) → answers_for operation ≡ Some id → caused_in operation ≡ Some id.conv
caused_for (operations.Resume other) id is = let same : other ≡ id = cc in ap (λ i. Some i.conv) same
caused_for (operations.Kill other) id is = let same : other ≡ id = cc in ap (λ i. Some i.conv) same
caused_for (operations.Edit other change) id is = absurd (let no : None ≡ Some id = is in cc)
caused_for (operations.Mark other) id is = absurd (let no : None ≡ Some id = is in cc)
caused_for (operations.DropAddon name) id is = absurd (let no : None ≡ Some id = is in cc)

-- what answers a hook moves the answerer by its answers
pub moves_for : {S : Type 0} (answers : Answering S) (drops : List ℕ → S → S → Type 0) (operation : Operation) (id : FlowId) (old new : AnswererState S) → answers_for operation ≡ Some id → ByAnswers answers old new →
    MovesBy answers drops operation old new
moves_for answers drops (operations.Resume other) id old new is given = given
moves_for answers drops (operations.Kill other) id old new is given = given
moves_for answers drops (operations.Edit other change) id old new is given = given
moves_for answers drops (operations.Mark other) id old new is given = given
moves_for answers drops (operations.DropAddon name) id old new is given = absurd (let no : None ≡ Some id = is in cc)

-- a mark leaves the answerer and files
pub moves_marked : {S : Type 0} (answers : Answering S) (drops : List ℕ → S → S → Type 0) (operation : Operation) (id : FlowId) (own new_own : S) (files : FilesMeaning) → operation ≡ operations.Mark id → new_own ≡ own →
    MovesBy answers drops operation (record { own = own; files = files }) (record { own = new_own; files = files })
moves_marked answers drops operation id own new_own files is same =
    let P : Operation → Type 0 = λ o. MovesBy answers drops o (record { own = own; files = files }) (record { own = new_own; files = files }) in
    let Q : _ → Type 0 = λ n. ByAnswers answers (record { own = own; files = files }) (record { own = n; files = files }) in
    subst P (sym is) (subst Q (sym same) (by_none (record { own = own; files = files })))

-- so does a change of a draft
pub moves_edited : {S : Type 0} (answers : Answering S) (drops : List ℕ → S → S → Type 0) (operation : Operation) (id : FlowId) (change : Edit) (own new_own : S) (files : FilesMeaning) →
    operation ≡ operations.Edit id change → new_own ≡ own → MovesBy answers drops operation (record { own = own; files = files }) (record { own = new_own; files = files })
moves_edited answers drops operation id change own new_own files is same =
    let P : Operation → Type 0 = λ o. MovesBy answers drops o (record { own = own; files = files }) (record { own = new_own; files = files }) in
    let Q : _ → Type 0 = λ n. ByAnswers answers (record { own = own; files = files }) (record { own = n; files = files }) in
    subst P (sym is) (subst Q (sym same) (by_none (record { own = own; files = files })))

-- an addon that is taken away leaves files
pub moves_dropped : {S : Type 0} (answers : Answering S) (drops : List ℕ → S → S → Type 0) (operation : Operation) (name given : List ℕ) (own new_own : S) (files : FilesMeaning) → operation ≡ operations.DropAddon name →
    given ≡ name → drops given own new_own → MovesBy answers drops operation (record { own = own; files = files }) (record { own = new_own; files = files })
moves_dropped answers drops operation name given own new_own files is same dropped =
    let D : List ℕ → Type 0 = λ n. drops n own new_own in
    let P : Operation → Type 0 = λ o. MovesBy answers drops o (record { own = own; files = files }) (record { own = new_own; files = files }) in
    subst P (sym is) (subst D same dropped, refl)

pub refusal_for : (operation : Operation) (id : FlowId) (names : List (List ℕ)) (given : ℕ → Option GivenTo) (trace : Trace) → answers_for operation ≡ Some id →
    refusal operation names given trace ≡ refusal_at (is_live id trace) (is_some (waiting_hook id trace))
refusal_for (operations.Resume other) id names given trace is =
    let same : other ≡ id = cc in ap (λ i. refusal_at (is_live i trace) (is_some (waiting_hook i trace))) same
refusal_for (operations.Kill other) id names given trace is =
    let same : other ≡ id = cc in ap (λ i. refusal_at (is_live i trace) (is_some (waiting_hook i trace))) same
refusal_for (operations.Edit other change) id names given trace is = absurd (let no : None ≡ Some id = is in cc)
refusal_for (operations.Mark other) id names given trace is = absurd (let no : None ≡ Some id = is in cc)
refusal_for (operations.DropAddon name) id names given trace is = absurd (let no : None ≡ Some id = is in cc)

-- a change of what waits, where its flow is live and waits, and where it is not
pub refusal_edit : (id : FlowId) (change : Edit) (names : List (List ℕ)) (given : ℕ → Option GivenTo) (trace : Trace) (hook : Hook) (kept : Waiting) (outcome : Option OperateError) →
    refusal_at (is_live id trace) (is_some (waiting_hook id trace)) ≡ None → given id.conv ≡ Some (left_waiting id.index hook kept.draft kept.edited) →
    refusal_of (changed change (edited_at hook kept.draft kept.edited)) ≡ outcome → refusal (operations.Edit id change) names given trace ≡ outcome
refusal_edit id change names given trace hook kept outcome none waits is =
    ap (λ r. refusal_or r (refusal_in change (given id.conv))) none ∙ (ap (refusal_in change) waits ∙ is)

pub refusal_first : (id : FlowId) (change : Edit) (names : List (List ℕ)) (given : ℕ → Option GivenTo) (trace : Trace) (error : OperateError) →
    refusal_at (is_live id trace) (is_some (waiting_hook id trace)) ≡ Some error → refusal (operations.Edit id change) names given trace ≡ Some error
refusal_first id change names given trace error is = ap (λ r. refusal_or r (refusal_in change (given id.conv))) is

own_any : (at : Option ℕ) (conv : ℕ) (more : List Step) → at ≡ Some conv → AllOf conv more → AllOfAny at more
own_any at conv more is all = let P : Option ℕ → Type 0 = λ a. AllOfAny a more in subst P (sym is) all

-- a mark more
marked_more : (made : List Operated) (trace : Trace) (id : FlowId) (conv index : ℕ) →
    is_marked (made ++ operated trace (operations.Mark id) ∷ []) conv index ≡ (((id.conv == conv) && (id.index == index)) || is_marked made conv index)
marked_more [] trace id conv index = refl
marked_more (o ∷ made) trace id conv index =
    ap (λ b. is_mark_of conv index o.operation || b) (marked_more made trace id conv index)
    ∙ swap (is_mark_of conv index o.operation) ((id.conv == conv) && (id.index == index)) (is_marked made conv index)
  where
    swap : (a b c : Bool) → (a || (b || c)) ≡ (b || (a || c))
    swap true true c = refl
    swap true false c = refl
    swap false true c = refl
    swap false false c = refl

marked_other : (made : List Operated) (trace : Trace) (id : FlowId) (other index : ℕ) → id.conv ≢ other → is_marked (made ++ operated trace (operations.Mark id) ∷ []) other index ≡ is_marked made other index
marked_other made trace id other index apart =
    marked_more made trace id other index ∙ ap (λ b. (b && (id.index == index)) || is_marked made other index) (ne_eqb id.conv other apart)

marked_here : (made : List Operated) (trace : Trace) (id : FlowId) (index : ℕ) → is_marked (made ++ operated trace (operations.Mark id) ∷ []) id.conv index ≡ ((id.index == index) || is_marked made id.conv index)
marked_here made trace id index =
    marked_more made trace id id.conv index ∙ ap (λ b. (b && (id.index == index)) || is_marked made id.conv index) (same_number id.conv)

module _ {C : Type 0} (standing : Standing C) (awaited : C → Option Ask) (number : C → ℕ) (made_due : C → List Move → List Command)
    (gave : (made state : C) (moves : List Move) (given : List Command) → standing made state moves given →
    (view : View) → seen_of view given ≡ seen_of view (made_due made moves))
    (grows : (made : C) (moves : List Move) (move : Move) (view : View) → IsPrefixOf (seen_of view (made_due made moves)) (seen_of view (made_due made (moves ++ move ∷ []))))
    {S : Type 0} (answers : Answering S) where
  -- what the table shows of flows is shown of the live ones
  pub table_live : (due : Due) {course : Course S} {now : AnswererState S} (table : Conversations C) (trace : Trace) → TableStands standing awaited number made_due answers due course now table trace →
      (conv index : ℕ) → is_some (shown_in table.flows conv index) ≡ live_from conv index false trace
  table_live due {course} {now} table trace stands conv index =
      ap is_some (sym (stands.shown conv index)) ∙ shown_live answers due course trace now stands.pending stands.answered conv index

  pub last_asked : (due : Due) {course : Course S} {now : AnswererState S} (table : Conversations C) (trace : Trace) (id : FlowId) (flow : Flow) →
      TableStands standing awaited number made_due answers due course now table trace → shown_in table.flows id.conv id.index ≡ Some flow →
      (is_live id trace ≡ true) × IsLastAsked answers due course trace id flow
  last_asked due {course} {now} table trace id flow stands is = (
    sym (table_live due table trace stands id.conv id.index) ∙ ap is_some is,
    record { now = now; pending = stands.pending; answered = stands.answered; shown = stands.shown id.conv id.index ∙ is },
  )

  pub not_asked : (due : Due) {course : Course S} {now : AnswererState S} (table : Conversations C) (trace : Trace) (id : FlowId) →
      TableStands standing awaited number made_due answers due course now table trace → shown_in table.flows id.conv id.index ≡ None → is_live id trace ≡ false
  not_asked due table trace id stands is = sym (table_live due table trace stands id.conv id.index) ∙ ap is_some is

  -- the hook of a flow that waits is what its conversation awaits
  waits_found : (due : Due) (conv index : ℕ) (trace : Trace) (x : Found (Held C)) → StandsIn standing awaited number made_due answers due conv trace x →
      hook_at awaited index x ≡ hook_in index (open_hook conv trace)
  waits_found due conv index trace unknown w = sym (ap (hook_in index) w.hook)
  waits_found due conv index trace over w = sym (ap (hook_in index) w.hook)
  waits_found due conv index trace lost w = absurd w
  waits_found due conv index trace (live held) w = sym (ap (hook_in index) w.within.turn ∙ hook_in_of index (awaited held.conversation))

  pub table_waits : (due : Due) {course : Course S} {now : AnswererState S} (table : Conversations C) (trace : Trace) (id : FlowId) →
      TableStands standing awaited number made_due answers due course now table trace → hook_at awaited id.index (found table id.conv) ≡ waiting_hook id trace
  table_waits due table trace id stands = waits_found due id.conv id.index trace (found table id.conv) (stands.at id.conv)

  -- steps of the conversation whose hook was answered
  module _ (ended : C → Bool) (ends : (made state : C) (moves : List Move) (given : List Command) → standing made state moves given → ended state ≡ true →
      (more : List Move) (view : View) → seen_of view (made_due made (moves ++ more)) ≡ seen_of view (made_due made moves))
      (rests : (made state : C) (moves : List Move) (given : List Command) → standing made state moves given → ended state ≡ true → awaited state ≡ None) where
    operates_of : (moment : ℕ) (operation : Operation) (id : FlowId) (before after : Conversations C) (held new_held : Held C) {old new : AnswererState S} (out new_out : List Step) → answers_for operation ≡ Some id →
        found before id.conv ≡ live held → Releases standing awaited number made_due answers id.conv moment operation held new_held before.flows after.flows old new out new_out →
        IsHeldOr standing awaited number made_due gave grows answers ended ends rests new_held (found after id.conv) → ((other : ℕ) → id.conv ≢ other → found after other ≡ found before other) →
        Operates standing awaited number made_due answers moment operation before after old new out new_out
    operates_of moment operation id before after held new_held {old} {new} out new_out for was r there others = record {
      more = r.more;
      grown = r.grown;
      own = own_any (caused_in operation) id.conv r.more (caused_for operation id for) r.own;
      others = λ other apart. others other (λ same. apart (conv_for operation id for ∙ ap Some same));
      stands = λ due course trace now stands.
          let w = live_in standing awaited number made_due gave grows answers ended ends rests due id.conv held trace (found before id.conv) was (stands.at id.conv) in
          let next = r.releases due course stands.pending trace w.within w.drafted (now id.conv) stands.served
          (table_follows standing awaited number made_due gave grows answers due id.conv before (kept_of id.conv held before.flows) trace stands (ap draft_of was)
          (marks_live standing awaited number made_due gave grows answers id.conv before held trace was stands) (λ index. refl)) in
          let there_now : IsLive standing awaited number made_due answers due id.conv new_held (trace ++ r.more) = record { within = next.0; settled = r.settled; drafted = next.2 } in
          let made = with_operation course trace operation in
          let P : Course S → Type 0 = λ c. TableStands standing awaited number made_due answers due c new after (trace ++ r.more) in
          subst P (operated_is course trace operation old new id for)
          (next_stands standing awaited number made_due gave grows answers due {course = course} {made = made} id.conv before after (kept_of id.conv new_held after.flows) trace (trace ++ r.more)
          (λ other apart. other_more id.conv other trace r.more r.own apart) others (λ other index apart. marked_released course trace operation id other index for) r.others stands
          (here_stands standing awaited number made_due gave grows answers ended ends rests due id.conv new_held (trace ++ r.more) (found after id.conv) there_now there) next.1 next.3
          (draft_in standing awaited number made_due gave grows answers ended ends rests due id.conv new_held (trace ++ r.more) (found after id.conv) there_now there)
          (marks_in standing awaited number made_due gave grows answers ended ends rests made.operations id.conv new_held (found after id.conv) there next.3.marks) (λ index. refl));
    }

    pub named_at : (due : Due) {course : Course S} {now : AnswererState S} (table : Conversations C) (trace : Trace) (conv key : ℕ) (held : Held C) → TableStands standing awaited number made_due answers due course now table trace →
        place_of table conv ≡ Some (place.Live key) → slab.get table.live key ≡ Some held → number held.conversation ≡ conv
    named_at due table trace conv key held stands at is =
        let P : Found (Held C) → Type 0 = StandsIn standing awaited number made_due answers due conv trace in
        let w : IsLive standing awaited number made_due answers due conv held trace = subst P (ap (found_by table.live) at ∙ ap found_at is) (stands.at conv) in
        w.within.named

    -- it goes on
    pub operates_live : (moment key : ℕ) (operation : Operation) (id : FlowId) (before after : Conversations C) {old new : AnswererState S} (over_now : Bool) (out new_out : List Step) → answers_for operation ≡ Some id →
        IsTabled standing awaited number made_due answers before → place_of before id.conv ≡ Some (place.Live key) →
        ReleasesAt standing awaited number made_due answers ended id.conv moment operation key before after old new over_now out new_out →
        Operates standing awaited number made_due answers moment operation before after old new out new_out
    operates_live moment key operation id before after over_now out new_out for (due, course, now, trace, stands) at h =
        operates_of moment operation id before after h.held h.new_held out new_out for (ap (found_by before.live) at ∙ ap found_at h.was) h.releases
        (inl (ap (found_by after.live) (h.places id.conv ∙ at) ∙ ap found_at h.live_now.changed))
        (λ other apart. same_found before.live after.live (place_of before other) (place_of after other) key (h.places other) h.live_now.others
        (apart_keys standing awaited number made_due gave grows answers due before trace id.conv other key h.held stands h.was (named_at due before trace id.conv key h.held stands at h.was) apart))

    -- or has ended
    pub operates_ended : (moment key : ℕ) (operation : Operation) (id : FlowId) (before between after : Conversations C) {old new : AnswererState S} (over_now : Bool) (out new_out : List Step) → answers_for operation ≡ Some id →
        IsTabled standing awaited number made_due answers before → place_of before id.conv ≡ Some (place.Live key) →
        ReleasesAt standing awaited number made_due answers ended id.conv moment operation key before between old new over_now out new_out → over_now ≡ true →
        slab.Updates between.live after.live key None → after.flows ≡ between.flows → PutsPlace between after id.conv (Some place.Ended) →
        Operates standing awaited number made_due answers moment operation before after old new out new_out
    operates_ended moment key operation id before between after {old} {new} over_now out new_out for (due, course, now, trace, stands) at h is_over_now removed same_flows noted =
        let F : Flows → Type 0 = λ f. Releases standing awaited number made_due answers id.conv moment operation h.held h.new_held before.flows f old new out new_out in
        operates_of moment operation id before after h.held h.new_held out new_out for (ap (found_by before.live) at ∙ ap found_at h.was) (subst F (sym same_flows) h.releases)
        (inr (ap (found_by after.live) noted.here, sym h.ends ∙ is_over_now))
        (λ other apart. same_found before.live after.live (place_of before other) (place_of after other) key
        (noted.others other apart ∙ h.places other) (λ k k_apart. removed.others k k_apart ∙ h.live_now.others k k_apart)
        (apart_keys standing awaited number made_due gave grows answers due before trace id.conv other key h.held stands h.was (named_at due before trace id.conv key h.held stands at h.was) apart))

    -- so it is by the number of the call
    pub operates_live_at : (moment key conv : ℕ) (operation : Operation) (id : FlowId) (before after : Conversations C) {old new : AnswererState S} (over_now : Bool) (out new_out : List Step) → answers_for operation ≡ Some id →
        id.conv ≡ conv → IsTabled standing awaited number made_due answers before → place_of before conv ≡ Some (place.Live key) →
        ReleasesAt standing awaited number made_due answers ended conv moment operation key before after old new over_now out new_out →
        Operates standing awaited number made_due answers moment operation before after old new out new_out
    operates_live_at moment key conv operation id before after {old} {new} over_now out new_out for same tabled =
        let P : ℕ → Type 0 = λ n. place_of before n ≡ Some (place.Live key) → ReleasesAt standing awaited number made_due answers ended n moment operation key before after old new over_now out new_out →
        Operates standing awaited number made_due answers moment operation before after old new out new_out in
        subst P same (λ at h. operates_live moment key operation id before after over_now out new_out for tabled at h)

    pub operates_ended_at : (moment key conv : ℕ) (operation : Operation) (id : FlowId) (before between after : Conversations C) {old new : AnswererState S} (over_now : Bool) (out new_out : List Step) →
        answers_for operation ≡ Some id → id.conv ≡ conv → IsTabled standing awaited number made_due answers before → over_now ≡ true →
        slab.Updates between.live after.live key None → after.flows ≡ between.flows → place_of before conv ≡ Some (place.Live key) →
        ReleasesAt standing awaited number made_due answers ended conv moment operation key before between old new over_now out new_out → PutsPlace between after conv (Some place.Ended) →
        Operates standing awaited number made_due answers moment operation before after old new out new_out
    operates_ended_at moment key conv operation id before between after {old} {new} over_now out new_out for same tabled is_over removed same_flows =
        let P : ℕ → Type 0 = λ n. place_of before n ≡ Some (place.Live key) → ReleasesAt standing awaited number made_due answers ended n moment operation key before between old new over_now out new_out →
        PutsPlace between after n (Some place.Ended) → Operates standing awaited number made_due answers moment operation before after old new out new_out in
        subst P same (λ at h noted. operates_ended moment key operation id before between after over_now out new_out for tabled at h is_over removed same_flows noted)

    -- a mark, which is kept where the conversation is live
    pub operates_marked : (moment key : ℕ) (id : FlowId) (before after : Conversations C) (held new_held : Held C) {state : AnswererState S} (out : List Step) →
        IsTabled standing awaited number made_due answers before → place_of before id.conv ≡ Some (place.Live key) → slab.get before.live key ≡ Some held →
        slab.Updates before.live after.live key (Some new_held) → ((other : ℕ) → place_of after other ≡ place_of before other) → after.flows ≡ before.flows →
        new_held.conversation ≡ held.conversation → new_held.connected ≡ held.connected → new_held.draft ≡ held.draft →
        ((index : ℕ) → has new_held.marks index ≡ ((id.index == index) || has held.marks index)) →
        Operates standing awaited number made_due answers moment (operations.Mark id) before after state state out out
    operates_marked moment key id before after held new_held {state} out (due0, course0, now0, trace0, stands0) at is put places same_flows same_state same_sides same_draft marked = record {
      more = [];
      grown = sym (append-nil out);
      own = refl;
      others = λ other apart. others other (λ same. apart (ap Some same));
      stands = λ due course trace now stands.
          let made = with_operation course trace (operations.Mark id) in
          let was : found before id.conv ≡ live held = ap (found_by before.live) at ∙ ap found_at is in
          let there : found after id.conv ≡ live new_held = ap (found_by after.live) (places id.conv ∙ at) ∙ ap found_at put.changed in
          let w = live_in standing awaited number made_due gave grows answers ended ends rests due id.conv held trace (found before id.conv) was (stands.at id.conv) in
          let marks_were = marks_live standing awaited number made_due gave grows answers id.conv before held trace was stands in
          let next_held : Held C = record { conversation = held.conversation; connected = held.connected; draft = held.draft; marks = new_held.marks } in
          let is_next : next_held ≡ new_held = λ i. record { conversation = sym same_state i; connected = sym same_sides i; draft = sym same_draft i; marks = new_held.marks } in
          let L : Held C → Type 0 = λ h. IsLive standing awaited number made_due answers due id.conv h trace in
          let v = w.within in
          let live_now : IsLive standing awaited number made_due answers due id.conv new_held trace = subst L is_next (record {
            within = record {
              made = v.made;
              peer = v.peer;
              given = v.given;
              earlier = v.earlier;
              stands = v.stands;
              alike = v.alike;
              owes = v.owes;
              tells = v.tells;
              named = v.named;
              begun = v.begun;
              servers = v.servers;
              dial = v.dial;
              turn = v.turn;
            };
            settled = w.settled;
            drafted = w.drafted;
          }) in
          let kept : Kept = kept_of id.conv new_held after.flows in
          let marks_are : (index : ℕ) → is_marked made.operations id.conv index ≡ has new_held.marks index =
          λ index. marked_here course.operations trace id index ∙ (ap (λ b. (id.index == index) || b) (marks_were index) ∙ sym (marked index)) in
          let follows : Follows answers due made stands.pending id.conv kept state trace = record {
            pending = stands.pending;
            answered = at_mark course made trace state stands.pending id stands.answered refl;
            here = stands.drafts id.conv ∙ ap (λ d. waiting (open_hook id.conv trace) d) (ap draft_of was ∙ sym same_draft);
            others = λ other apart. refl;
            marks = marks_are;
            shown = λ index. stands.shown id.conv index ∙ ap (λ f. shown_in f id.conv index) (sym same_flows);
            shown_others = λ other index apart. refl;
          } in
          let D : Found (Held C) → Type 0 = StandsIn standing awaited number made_due answers due id.conv trace in
          let K : Found (Held C) → Type 0 = KeepsMarks made.operations id.conv in
          let T : Trace → Type 0 = λ t. TableStands standing awaited number made_due answers due made state after t in
          subst T (sym (append-nil trace))
          (next_stands standing awaited number made_due gave grows answers due {course = course} {made = made} id.conv before after kept trace trace (λ other apart. same_trace other trace)
          others (λ other index apart. marked_other course.operations trace id other index apart) (λ other index apart. ap (λ f. shown_in f other index) same_flows) stands
          (subst D (sym there) live_now) stands.served follows (ap (λ x. waiting (open_hook id.conv trace) (draft_of x)) (sym there)) (subst K (sym there) marks_are) (λ index. refl));
    }
      where
        others : (other : ℕ) → id.conv ≢ other → found after other ≡ found before other
        others other apart = same_found before.live after.live (place_of before other) (place_of after other) key (places other) put.others
            (apart_keys standing awaited number made_due gave grows answers due0 before trace0 id.conv other key held stands0 is (named_at due0 before trace0 id.conv key held stands0 at is) apart)

  -- where it has ended nothing will be asked, and nothing is to be kept
  pub operates_unkept : (moment : ℕ) (id : FlowId) (table : Conversations C) {state : AnswererState S} (out : List Step) → found table id.conv ≡ over →
      Operates standing awaited number made_due answers moment (operations.Mark id) table table state state out out
  operates_unkept moment id table {state} out was = record {
    more = [];
    grown = sym (append-nil out);
    own = refl;
    others = λ other apart. refl;
    stands = λ due course trace now stands.
        let made = with_operation course trace (operations.Mark id) in
        let kept : Kept = record { draft = draft_of (found table id.conv); marks = is_marked made.operations id.conv; shown = shown_in table.flows id.conv } in
        let K : Found (Held C) → Type 0 = KeepsMarks made.operations id.conv in
        let follows : Follows answers due made stands.pending id.conv kept state trace = record {
          pending = stands.pending;
          answered = at_mark course made trace state stands.pending id stands.answered refl;
          here = stands.drafts id.conv;
          others = λ other apart. refl;
          marks = λ index. refl;
          shown = stands.shown id.conv;
          shown_others = λ other index apart. refl;
        } in
        let T : Trace → Type 0 = λ t. TableStands standing awaited number made_due answers due made state table t in
        subst T (sym (append-nil trace))
        (next_stands standing awaited number made_due gave grows answers due {course = course} {made = made} id.conv table table kept trace trace (λ other apart. same_trace other trace)
        (λ other apart. refl) (λ other index apart. marked_other course.operations trace id other index apart) (λ other index apart. refl) stands
        (stands.at id.conv) stands.served follows refl (subst K (sym was) tt) (λ index. refl));
  }

  -- nothing is live of a conversation that was not admitted
  pub unknown_not_live : (due : Due) {course : Course S} {now : AnswererState S} (table : Conversations C) (trace : Trace) (id : FlowId) →
      TableStands standing awaited number made_due answers due course now table trace → found table id.conv ≡ unknown → is_live id trace ≡ false
  unknown_not_live due table trace id stands was =
      let P : Found (Held C) → Type 0 = StandsIn standing awaited number made_due answers due id.conv trace in
      let u : IsUnknown id.conv trace = subst P was (stands.at id.conv) in
      never_live id.conv id.index trace (u.sees questions tt)

  -- an addon is taken away
  pub operates_dropped : (moment : ℕ) (name : List ℕ) (table : Conversations C) (old new : AnswererState S) (out : List Step) →
      Operates standing awaited number made_due answers moment (operations.DropAddon name) table table old new out out
  operates_dropped moment name table old new out = record {
    more = [];
    grown = sym (append-nil out);
    own = refl;
    others = λ other apart. refl;
    stands = λ due course trace now stands.
        let made = operated_on course trace (operations.DropAddon name) old new in
        let T : Trace → Type 0 = λ t. TableStands standing awaited number made_due answers due made new table t in
        subst T (sym (append-nil trace)) (stands_changed standing awaited number made_due answers due course old new table trace stands);
  }

  pub dropped_as : (moment : ℕ) (operation : Operation) (name : List ℕ) (table after : Conversations C) (old new : AnswererState S) (out : List Step) → operation ≡ operations.DropAddon name → after ≡ table →
      Operates standing awaited number made_due answers moment operation table after old new out out
  dropped_as moment operation name table after old new out is same =
      let P : Operation → Type 0 = λ o. Operates standing awaited number made_due answers moment o table after old new out out in
      let Q : Conversations C → Type 0 = λ t. Operates standing awaited number made_due answers moment (operations.DropAddon name) table t old new out out in
      subst P (sym is) (subst Q (sym same) (operates_dropped moment name table old new out))

  -- its steps go to the caller
  pub operates_out : (moment : ℕ) (operation : Operation) (before after : Conversations C) {old new : AnswererState S} (empty given out new_out : List Step) → empty ≡ [] → new_out ≡ out ++ given →
      Operates standing awaited number made_due answers moment operation before after old new empty given → Operates standing awaited number made_due answers moment operation before after old new out new_out
  operates_out moment operation before after empty given out new_out none grown r = record {
    more = r.more;
    grown = grown ∙ ap (λ l. out ++ l) (r.grown ∙ ap (λ l. l ++ r.more) none);
    own = r.own;
    others = r.others;
    stands = r.stands;
  }

  -- what is under a key where the number is live
  pub at_held : (due : Due) {course : Course S} {now : AnswererState S} (table : Conversations C) (trace : Trace) (conv key : ℕ) → TableStands standing awaited number made_due answers due course now table trace →
      place_of table conv ≡ Some (place.Live key) → (held : Held C) × (slab.get table.live key ≡ Some held)
  at_held due table trace conv key stands at =
      let k = at_key standing awaited number made_due gave grows answers due table trace conv key stands at in (k.held, k.is)

  -- it awaits the hook that an operation answers
  pub awaits_for : (table : Conversations C) (id : FlowId) (key : ℕ) (operation : Operation) → answers_for operation ≡ Some id → IsTabled standing awaited number made_due answers table →
      place_of table id.conv ≡ Some (place.Live key) → IsSome (hook_at awaited id.index (found table id.conv)) → AwaitsFor awaited id.conv operation (found table id.conv)
  awaits_for table id key operation for (due, course, now, trace, stands) at some = by (found table id.conv) there some
    where
      k : (held : Held C) × (slab.get table.live key ≡ Some held)
      k = at_held due table trace id.conv key stands at

      there : found table id.conv ≡ live k.0
      there = ap (found_by table.live) at ∙ ap found_at k.1

      hooked : (awaits : Option Ask) → IsSome (hook_in id.index awaits) → (hook : Hook) × (awaits ≡ Some (asks.Hook id.index hook))
      hooked None none = absurd (let no : false ≡ true = none in cc)
      hooked (Some (asks.Dial server)) none = absurd (let no : false ≡ true = none in cc)
      hooked (Some (asks.Hook flow hook)) is = same (eqb_tells flow id.index) is
        where
          same : ((flow == id.index) ≡ true) × (flow ≡ id.index) ⊎ ((flow == id.index) ≡ false) × (flow ≢ id.index) → IsSome (if flow == id.index then Some hook else None) →
              (other : Hook) × (Some (asks.Hook flow hook) ≡ Some (asks.Hook id.index other))
          same (inl h) is = (hook, ap (λ i. Some (asks.Hook i hook)) h.1)
          same (inr h) is =
              let P : Bool → Type 0 = λ b. IsSome (if◌then◌else◌ {A = Option Hook} b (Some hook) None) in
              absurd (let no : false ≡ true = subst P h.0 is in cc)

      by : (x : Found (Held C)) → x ≡ live k.0 → IsSome (hook_at awaited id.index x) → AwaitsFor awaited id.conv operation x
      by unknown is none = absurd (let no : false ≡ true = none in cc)
      by over is none = absurd (let no : false ≡ true = none in cc)
      by lost is none = absurd (let no : false ≡ true = none in cc)
      by (live held) is some = let h = hooked (awaited held.conversation) some in (id, h.0, for, refl, h.1)

  -- and so does what is held
  pub releases_for : (table : Conversations C) (conv key : ℕ) (operation : Operation) (held : Held C) → place_of table conv ≡ Some (place.Live key) → slab.get table.live key ≡ Some held →
      AwaitsFor awaited conv operation (found table conv) → IsReleased awaited conv operation held
  releases_for table conv key operation held at is waits =
      let P : Found (Held C) → Type 0 = AwaitsFor awaited conv operation in subst P (ap (found_by table.live) at ∙ ap found_at is) waits

  -- no refusal where the flow is live and its hook waits
  pub none_refused : (due : Due) {course : Course S} {now : AnswererState S} (table : Conversations C) (trace : Trace) (id : FlowId) → TableStands standing awaited number made_due answers due course now table trace →
      is_some (shown_in table.flows id.conv id.index) ≡ true → IsSome (hook_at awaited id.index (found table id.conv)) → refusal_at (is_live id trace) (is_some (waiting_hook id trace)) ≡ None
  none_refused due table trace id stands shows waits =
      let there : is_live id trace ≡ true = sym (table_live due table trace stands id.conv id.index) ∙ shows in
      let awaits : is_some (waiting_hook id trace) ≡ true = ap is_some (sym (table_waits due table trace id stands)) ∙ waits in
      ap (λ b. refusal_at b (is_some (waiting_hook id trace))) there ∙ ap (refusal_at true) awaits

  pub not_waiting : (due : Due) {course : Course S} {now : AnswererState S} (table : Conversations C) (trace : Trace) (id : FlowId) → TableStands standing awaited number made_due answers due course now table trace →
      is_some (shown_in table.flows id.conv id.index) ≡ true → hook_at awaited id.index (found table id.conv) ≡ None →
      refusal_at (is_live id trace) (is_some (waiting_hook id trace)) ≡ Some refused.NotWaiting
  not_waiting due table trace id stands shows none =
      let there : is_live id trace ≡ true = sym (table_live due table trace stands id.conv id.index) ∙ shows in
      let awaits : is_some (waiting_hook id trace) ≡ false = ap is_some (sym (table_waits due table trace id stands) ∙ none) in
      ap (λ b. refusal_at b (is_some (waiting_hook id trace))) there ∙ ap (refusal_at true) awaits

  pub no_such_flow : (due : Due) {course : Course S} {now : AnswererState S} (table : Conversations C) (trace : Trace) (id : FlowId) (waits : Bool) → TableStands standing awaited number made_due answers due course now table trace →
      is_some (shown_in table.flows id.conv id.index) ≡ false → refusal_at (is_live id trace) waits ≡ Some refused.NoSuchFlow
  no_such_flow due table trace id waits stands shows = ap (λ b. refusal_at b waits) (sym (table_live due table trace stands id.conv id.index) ∙ shows)

  all_waits : (due : Due) {course : Course S} {now : AnswererState S} (table : Conversations C) (trace : Trace) → TableStands standing awaited number made_due answers due course now table trace →
      (numbers : List (ℕ × ℕ)) → AllByRecursion (λ l. l.1 ≡ waiting_hook l.0 trace) (listed awaited table numbers)
  all_waits due table trace stands [] = tt
  all_waits due table trace stands (n ∷ numbers) = (table_waits due table trace (record { conv = n.0; index = n.1 }) stands, all_waits due table trace stands numbers)

  -- what is listed of all that the table shows are the live flows
  pub are_live : (due : Due) {course : Course S} {now : AnswererState S} (table : Conversations C) (trace : Trace) → TableStands standing awaited number made_due answers due course now table trace →
      (numbers : List (ℕ × ℕ)) → IsStrictlySortedBy pair_cmp numbers → ((q : ℕ × ℕ) → is_some (tree.get pair_cmp table.flows.asked q) ≡ is_member (eq_by_cmp pair_cmp) numbers q) →
      AreLive trace (listed awaited table numbers)
  are_live due table trace stands numbers sorted has_it = record {
    rising = rising_list awaited table numbers sorted;
    all = λ id. sym (table_live due table trace stands id.conv id.index) ∙ (has_it (id.conv, id.index) ∙ member_list awaited table id numbers);
    waits = all_waits due table trace stands numbers;
  }
