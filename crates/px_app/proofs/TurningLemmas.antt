-- One thing heard, worked off for its conversation or for an operator: how the run stands behind it.
use Rattle.std.proofs.Common.{◌≡◌, ◌≢◌, ℕ, Bool, true, false, ◌||◌, not, List, [], ◌∷◌, ◌++◌, Option, Some, None, is_some, Result, IfOk, OnErr, refl, ap, sym, ◌∙◌, subst, nat_eq}
use Rattle.std.specs.HashSet.{contains}
use Rattle.std.specs.List.{flat_map, list_any}
use Rattle.std.proofs.lemmas.Bool.{and_parts}
use Rattle.std.proofs.lemmas.Grind.{flat_map-append}
use Rattle.std.proofs.lemmas.List.{append-nil}
use Rattle.std.proofs.lemmas.List.Folds.{list_any-append}
use Rattle.px_text.specs.Prefix.{IsPrefixOf}
use Rattle.px_message.specs.declared.flow.Flow.{Flow}
use Rattle.px_event.specs.declared.ask.Ask.{Ask}
use Rattle.px_event.specs.declared.command.Command.{Command}
use Rattle.px_event.specs.declared.event.Event.TheVariants as events
use Rattle.px_event.specs.declared.heard.Heard.{Heard}
use Rattle.px_event.specs.declared.heard.Heard.TheVariants as heard
use Rattle.px_event.specs.declared.side.Side.TheVariants.{Client}
use Rattle.px_event.specs.declared.step.Step.{Step}
use Rattle.px_event.specs.declared.step.Step.TheVariants as steps
use Rattle.px_event.specs.Layer.{Move, Standing}
use Rattle.px_event.specs.Trace.{Trace}
use Rattle.px_event.specs.View.{View, seen_of}
use Rattle.px_outside.specs.Net.{Adds as AddsStep}
use Rattle.px_core.specs.declared.news.News.TheVariants as news
use Rattle.px_core.specs.declared.operation.Operation.{Operation}
use Rattle.px_core.specs.declared.operation.Operation.TheVariants as operations
use Rattle.px_core.specs.declared.router.Router.{Router}
use Rattle.px_core.specs.Answered.{IsAnswered, LeavesFiles}
use Rattle.px_core.specs.Answers.{Answering, AnswererState, Failing, FilesMeaning, after_answers, by_none}
use Rattle.px_core.specs.Calls.{Calls, calls}
use Rattle.px_core.specs.Course.{Course}
use Rattle.px_core.specs.Due.{Due}
use Rattle.px_core.specs.Router.{IsNow, MovesBy, RouterStands, is_known}
use Rattle.px_core.specs.Run.{AddsHeard, BreaksHeard, Tells, done_of}
use Rattle.px_core.proofs.AnsweredLemmas.{whole_front}
use Rattle.px_core.proofs.CallLemmas.{calls_more}
use Rattle.px_core.proofs.StandsLemmas.{known_begun, nobody_heard}
use Rattle.px_obey.specs.declared.outcome.Outcome.{Outcome}
use Rattle.px_obey.specs.declared.outcome.Outcome.TheVariants.{GoesOn, Leaves, Quits}
use Rattle.px_obey.specs.Obeyed as obeyed
use Rattle.px_obey.specs.Obeyed.{ByOrders, FilesAfterOrders, ObeysAll, ObeysLine, ObeysLines, Point, closed, outcome_of, point}
use Rattle.px_obey.specs.Over.{AddsAnswers, BreaksAnswers}
use Rattle.px_view.specs.declared.command.Order.{Order}
use Rattle.px_view.specs.declared.command.Order.TheVariants as order
use Rattle.px_view.specs.declared.desk.Line.{Line}
use Rattle.px_view.specs.Desk.{fresh, stand_of, stands, told}
use Rattle.px_app.specs.Operators.{nothing, says, word_of}
use Rattle.px_app.specs.Operating.{OperatorsStand, accepted_by, is_open, speaks, spoken_of}
use Rattle.px_app.specs.Over.{Goes, LeavesBehind, goes_drop, goes_none}
use Rattle.px_app.specs.Saved.{SavesTo}
use Rattle.px_app.specs.Serving.{TurnBroke, Turned}
use Rattle.px_app.specs.Statuses.{is_end}
use Rattle.px_app.specs.Worked.{has_left, is_quit, of_conversation, of_operator, of_leaving, in_conversation, in_lines, in_silence}
use Rattle.px_app.specs.declared.operators.Operators.{Operators}
use Rattle.px_app.specs.declared.operators.Spoken.TheVariants as spoken
use Rattle.px_app.proofs.GoesLemmas.{goes_more, leaves_by}
use Rattle.px_app.proofs.NetLemmas.{adds_told}
use Rattle.px_app.proofs.OperatorLemmas.{Changes, Hears, IsOperator, Welcomes, closed_on, goes_on_so, is_long, no_peer, nothing_said, operator_by, operator_leaves, operator_says, said_on, stopped_on, welcomed_on}
use Rattle.px_app.proofs.TurnLemmas.{Adds, none_heard, turns_adds}

-- ---- lines that were obeyed

module _ {S : Type 0} (answers : Answering S) (drops : List ℕ → S → S → Type 0) (names : S → List (List ℕ)) (due : Due) (conv : ℕ) where
  -- a line behind which the connection is there is not too long
  line_short : (one : Line) (at next : Point S) (more : List Step) (outcome : Outcome) → ObeysLine answers drops names due conv one at more next outcome → outcome ≢ Leaves → is_long one ≡ false
  line_short one at next more outcome (obeyed.by_order text by here there caused given is obeys) goes = refl
  line_short one at next more outcome (obeyed.no_order text error here is) goes = refl
  line_short one at next more outcome (obeyed.too_long here) goes = absurd (goes refl)

  not_left : (one : Order) → outcome_of one ≢ Leaves
  not_left order.List = λ (e : GoesOn ≡ Leaves). cc
  not_left (order.Show id) = λ (e : GoesOn ≡ Leaves). cc
  not_left (order.Entry id from) = λ (e : GoesOn ≡ Leaves). cc
  not_left (order.Act operation) = λ (e : GoesOn ≡ Leaves). cc
  not_left order.Quit = λ (e : Quits ≡ Leaves). cc

  line_long : (one : Line) (at next : Point S) (more : List Step) (outcome : Outcome) → ObeysLine answers drops names due conv one at more next outcome → outcome ≡ Leaves → is_long one ≡ true
  line_long one at next more outcome (obeyed.by_order text by here there caused given is obeys) left = absurd (not_left by left)
  line_long one at next more outcome (obeyed.no_order text error here is) left = absurd (let never : GoesOn ≡ Leaves = left in cc)
  line_long one at next more outcome (obeyed.too_long here) left = refl

  all_short : (first : Point S) (lines : List Line) (more : List Step) (last : Point S) → ObeysAll answers drops names due conv first lines more last → list_any is_long lines ≡ false
  all_short first lines more last obeyed.none_obeyed = refl
  all_short first lines more last (obeyed.one_obeyed before all done next_done steps_of one at next obeys by grown is) =
      ap (list_any is_long) grown
      ∙ (list_any-append is_long before (one ∷ [])
      ∙ (ap (λ (b : Bool). b || list_any is_long (one ∷ [])) (all_short first before done at obeys)
      ∙ ap (λ (b : Bool). b || false) (line_short one at next steps_of GoesOn by (λ (e : GoesOn ≡ Leaves). cc))))

  -- where the connection goes on, none of its lines was too long
  lines_short : (first : Point S) (lines : List Line) (more : List Step) (last : Point S) (outcome : Outcome) → ObeysLines answers drops names due conv first lines more last outcome → outcome ≡ GoesOn →
      list_any is_long lines ≡ false
  lines_short first lines more last outcome (obeyed.all_obeyed done there obeys) on = all_short first lines done there obeys
  lines_short first lines more last outcome (obeyed.ended_at front rest one done steps_of next_done at there how split obeys by other is) on = absurd (other on)

  or_true : (b : Bool) → (b || true) ≡ true
  or_true true = refl
  or_true false = refl

  any_at : (front rest : List Line) (one : Line) → is_long one ≡ true → list_any is_long (front ++ one ∷ rest) ≡ true
  any_at front rest one long =
      list_any-append is_long front (one ∷ rest) ∙ (ap (λ (b : Bool). list_any is_long front || (b || list_any is_long rest)) long ∙ or_true (list_any is_long front))

  -- where it was closed, one was
  lines_long : (first : Point S) (lines : List Line) (more : List Step) (last : Point S) (outcome : Outcome) → ObeysLines answers drops names due conv first lines more last outcome → outcome ≡ Leaves →
      list_any is_long lines ≡ true
  lines_long first lines more last outcome (obeyed.all_obeyed done there obeys) left = absurd (let never : GoesOn ≡ Leaves = left in cc)
  lines_long first lines more last outcome (obeyed.ended_at front rest one done steps_of next_done at there how split obeys by other is) left =
      ap (list_any is_long) split ∙ any_at front rest one (line_long one at there steps_of how by left)

-- ---- an operator's connection behind its lines

-- bytes were taken, and these are the lines that they complete
pub record Takes (conv : ℕ) (bytes : List ℕ) (lines : List Line) (before after : Operators) : Type 0 where
  pub lines_are : lines ≡ told bytes (stand_of before.desk conv)
  pub stands_so : stand_of after.desk conv ≡ stands bytes (stand_of before.desk conv)
  pub opened : after.open ≡ before.open
  pub other_stands : (other : ℕ) → other ≢ conv → stand_of after.desk other ≡ stand_of before.desk other

pub takes_so : (conv : ℕ) (text bytes : List ℕ) (lines : List Line) (before after : Operators) → text ≡ bytes → lines ≡ told text (stand_of before.desk conv) →
    stand_of after.desk conv ≡ stands text (stand_of before.desk conv) → after.open ≡ before.open → ((other : ℕ) → other ≢ conv → stand_of after.desk other ≡ stand_of before.desk other) →
    Takes conv bytes lines before after
takes_so conv text bytes lines before after is lines_are stands_so same others = record {
  lines_are = lines_are ∙ ap (λ (t : List ℕ). told t (stand_of before.desk conv)) is;
  stands_so = stands_so ∙ ap (λ (t : List ℕ). stands t (stand_of before.desk conv)) is;
  opened = same;
  other_stands = others;
}

-- what was accepted is open
pub welcomes_so : (accepted wanted : Option ℕ) (before after : Operators) → accepted ≡ wanted → (accepted ≡ None → after ≡ before) → ((conv : ℕ) → accepted ≡ Some conv → is_open after conv ≡ true) →
    ((conv : ℕ) → accepted ≡ Some conv → stand_of after.desk conv ≡ fresh) → ((conv other : ℕ) → accepted ≡ Some conv → other ≢ conv → is_open after other ≡ is_open before other) →
    ((conv other : ℕ) → accepted ≡ Some conv → other ≢ conv → stand_of after.desk other ≡ stand_of before.desk other) → Welcomes wanted before after
welcomes_so accepted wanted before after is same opened is_fresh others other_stands = let P : Option ℕ → Type 0 = λ o. Welcomes o before after in subst P is (of accepted same opened is_fresh others other_stands)
  where
    of : (o : Option ℕ) → (o ≡ None → after ≡ before) → ((conv : ℕ) → o ≡ Some conv → is_open after conv ≡ true) →
        ((conv : ℕ) → o ≡ Some conv → stand_of after.desk conv ≡ fresh) → ((conv other : ℕ) → o ≡ Some conv → other ≢ conv → is_open after other ≡ is_open before other) →
        ((conv other : ℕ) → o ≡ Some conv → other ≢ conv → stand_of after.desk other ≡ stand_of before.desk other) → Welcomes o before after
    of None same opened is_fresh others other_stands = same refl
    of (Some conv) same opened is_fresh others other_stands = record {
      changes = record { others = λ other apart. others conv other refl apart; other_stands = λ other apart. other_stands conv other refl apart };
      opened = opened conv refl;
      is_fresh = is_fresh conv refl;
    }

-- the connection is closed where it has left
pub record Settles (conv : ℕ) (left : Bool) (before after : Operators) : Type 0 where
  pub closes : left ≡ true → is_open after conv ≢ true
  pub stays : left ≡ false → after ≡ before
  pub others : (other : ℕ) → other ≢ conv → is_open after other ≡ is_open before other
  pub other_stands : (other : ℕ) → other ≢ conv → stand_of after.desk other ≡ stand_of before.desk other

same_open : (before after : Operators) (conv : ℕ) → after.open ≡ before.open → is_open after conv ≡ is_open before conv
same_open before after conv same = ap (λ o. contains nat_eq o conv) same

not_some : (o : Option (List ℕ)) → is_some o ≡ false → o ≡ None
not_some None is = refl
not_some (Some x) is = absurd (cc)

module _ (before taken after : Operators) (trace : Trace) (moment conv : ℕ) (bytes : List ℕ) (lines : List Line) (next : Trace) (hears : Hears trace moment (heard.Piece conv Client bytes) next)
    (they : OperatorsStand before trace) (is : IsOperator before trace conv) (takes : Takes conv bytes lines before taken) where
  module _ (left : Bool) (settles : Settles conv left taken after) where
    settled : Changes conv before after
    settled = record {
      others = λ other apart. settles.others other apart ∙ same_open before taken other takes.opened;
      other_stands = λ other apart. settles.other_stands other apart ∙ takes.other_stands other apart;
    }

    -- more may come
    going : left ≡ false → list_any is_long lines ≡ false → OperatorsStand after next
    going stays short =
        let P : Operators → Type 0 = λ o. OperatorsStand o next in
        let changes : Changes conv before taken = record { others = λ other apart. same_open before taken other takes.opened; other_stands = takes.other_stands } in
        let opened : is_open taken conv ≡ true = same_open before taken conv takes.opened ∙ is.opened in
        let goes : is_some (stands bytes (stand_of before.desk conv)) ≡ true =
        goes_on_so bytes (stand_of before.desk conv) is.some ∙ ap not (sym (ap (list_any is_long) takes.lines_are) ∙ short) in
        subst P (sym (settles.stays stays))
        (said_on before taken trace moment conv bytes next hears they changes opened (takes.stands_so ∙ ap (stands bytes) is.stand) (ap is_some takes.stands_so ∙ goes))

    -- a line was too long
    stopping : left ≡ true → list_any is_long lines ≡ true → OperatorsStand after next
    stopping leaves_so long =
        let stops : is_some (stands bytes (stand_of before.desk conv)) ≡ false =
        goes_on_so bytes (stand_of before.desk conv) is.some ∙ ap not (sym (ap (list_any is_long) takes.lines_are) ∙ long) in
        stopped_on before after trace moment conv bytes next hears they settled (settles.closes leaves_so)
        (sym (ap (stands bytes) is.stand) ∙ not_some (stands bytes (stand_of before.desk conv)) stops)

  pub stand_behind : {S : Type 0} (answers : Answering S) (drops : List ℕ → S → S → Type 0) (names : S → List (List ℕ)) (due : Due) (first last : Point S) (more : List Step) (outcome : Outcome) →
      ObeysLines answers drops names due conv first lines more last outcome → Settles conv (has_left outcome) taken after → is_quit outcome ≡ false → OperatorsStand after next
  stand_behind answers drops names due first last more GoesOn obeys settles goes =
      going (has_left GoesOn) settles refl (lines_short answers drops names due conv first lines more last GoesOn obeys refl)
  stand_behind answers drops names due first last more Leaves obeys settles goes =
      stopping (has_left Leaves) settles refl (lines_long answers drops names due conv first lines more last Leaves obeys refl)
  stand_behind answers drops names due first last more Quits obeys settles goes = absurd (cc)

-- ---- what is left of answers and files

module _ {S : Type 0} (answers : Answering S) (drops : List ℕ → S → S → Type 0) (to : Option SavesTo) where
  goes_moved : (first old new : AnswererState S) (operation : Operation) → Goes answers drops to first old → MovesBy answers drops operation old new → Goes answers drops to first new
  goes_moved first old new (operations.Resume id) before moves = goes_more answers drops to first old new before moves
  goes_moved first old new (operations.Kill id) before moves = goes_more answers drops to first old new before moves
  goes_moved first old new (operations.Edit id edit) before moves = goes_more answers drops to first old new before moves
  goes_moved first old new (operations.Mark id) before moves = goes_more answers drops to first old new before moves
  goes_moved first old new (operations.DropAddon name) before (dropped, files) = goes_drop old new name before dropped files

  -- orders, one behind the other
  pub goes_by_orders : (first last : AnswererState S) → ByOrders answers drops first last → Goes answers drops to first last
  goes_by_orders first last obeyed.by_no_order = goes_none
  goes_by_orders first last (obeyed.by_operation old new operation before moves) = goes_moved first old new operation (goes_by_orders first old before) moves

  pub leaves_by_orders : (fails : Failing S) (first : AnswererState S) (files : FilesMeaning) → FilesAfterOrders answers fails drops first files → LeavesBehind answers drops fails to first files
  leaves_by_orders fails first files after = leaves_by answers drops fails to first after.last files (goes_by_orders first after.last after.by) after.after

-- ---- the turns

-- this is the moment
pub now_heard : (trace : Trace) (moment : ℕ) (what : Heard) → IsNow moment (trace ++ steps.Heard moment what ∷ [])
now_heard trace moment what = λ conv. ap (λ (c : Calls). c.moment) (calls_more conv trace (steps.Heard moment what))

-- a close finishes no flow
pub closed_tells : (flows : List Flow) (trace : Trace) (conv : ℕ) (net now : Option Trace) → net ≡ Some trace → AddsStep net now (closed conv) → flows ≡ flat_map done_of trace →
    Tells (λ after. flows ≡ flat_map done_of after) trace now
closed_tells flows trace conv net now is adds same = record {
  more = closed conv ∷ [];
  is = adds_told net now (closed conv) trace is adds;
  holds = same ∙ sym (flat_map-append done_of trace (closed conv ∷ []) ∙ append-nil (flat_map done_of trace));
}

-- what is said of something heard is said of the same
pub if_ok_same : {E : Type 0} (result : Result Bool E) (P : Heard → Bool → Type 0) (what other : Heard) → other ≡ what → IfOk result (P other) → IfOk result (P what)
if_ok_same result P what other same is = subst (λ (w : Heard). IfOk result (P w)) same is

pub on_err_same : {T E : Type 0} (result : Result T E) (P : Heard → Type 0) (what other : Heard) → other ≡ what → OnErr result (P other) → OnErr result (P what)
on_err_same result P what other same is = subst (λ (w : Heard). OnErr result (P w)) same is

-- no step more was told
none_more : (before now : Option Trace) (told : Trace) → now ≡ before → before ≡ Some told → now ≡ Some (told ++ [])
none_more before now told same is = same ∙ (is ∙ ap Some (sym (append-nil told)))

module _ {C S : Type 0} (standing : Standing C) (awaited : C → Option Ask) (number : C → ℕ) (made_due : C → List Move → List Command) (answers : Answering S) {A : Type 0} (state : A → S)
    (due : Due) (course : Course S) (files : FilesMeaning) (router : Router C A) (trace : Trace) (routed : RouterStands standing awaited number made_due answers state due course files router trace) where
  -- a number is known exactly where its conversation has begun
  pub known_so : (conv : ℕ) → is_known router conv ≡ is_some (calls conv trace).peer
  known_so conv = known_begun standing awaited number made_due answers due router.table trace conv routed

  -- an operator's has not begun
  pub not_begun_so : (operators : Operators) (conv : ℕ) → speaks operators router conv ≡ true → (calls conv trace).peer ≡ None
  not_begun_so operators conv test = no_peer (calls conv trace).peer (is_known router conv) (known_so conv) (and_parts (is_open operators conv) (not (is_known router conv)) test).1

  -- what the test says is nothing to operators is nothing to them
  pub nothing_word : (operators : Operators) (what : Heard) → OperatorsStand operators trace → spoken_of (speaks operators router) what ≡ spoken.Nothing what → word_of trace what ≡ nothing
  nothing_word operators what they is = nothing_said operators (is_known router) trace what they known_so is

  pub speaks_so : (operators : Operators) (conv : ℕ) → OperatorsStand operators trace → speaks operators router conv ≡ true → IsOperator operators trace conv
  speaks_so operators conv they test = operator_by operators trace conv (is_known router conv) they (known_so conv) test

  -- the answerer came over the trace, and files are what it left
  pub follows_here : IsAnswered answers due course trace
  follows_here = record { made = course; front_of = whole_front course; last = record { own = state router.answerer; files = files }; pending = routed.pending; answered = routed.answered }

  pub leaves_here : (fails : Failing S) → LeavesFiles answers fails due course ⊥ files trace
  leaves_here fails = record {
    prefix = trace;
    rest = [];
    split = sym (append-nil trace);
    made = course;
    front_of = whole_front course;
    last = record { own = state router.answerer; files = files };
    pending = routed.pending;
    answered = routed.answered;
    after = after_answers (record { own = state router.answerer; files = files }) (by_none (record { own = state router.answerer; files = files })) refl;
    whole = λ never. absurd never;
  }

  module _ (gave : (made state : C) (moves : List Move) (given : List Command) → standing made state moves given → (view : View) → seen_of view given ≡ seen_of view (made_due made moves))
      (grows : (made : C) (moves : List Move) (move : Move) (view : View) → IsPrefixOf (seen_of view (made_due made moves)) (seen_of view (made_due made (moves ++ move ∷ [])))) where
    -- the router hears nothing of what an operator says
    pub said_stands : (moment conv : ℕ) (bytes : List ℕ) → (calls conv trace).peer ≡ None →
        RouterStands standing awaited number made_due answers state due course files router (trace ++ steps.Heard moment (heard.Piece conv Client bytes) ∷ [])
    said_stands moment conv bytes none =
        nobody_heard standing awaited number made_due answers due gave grows router.table trace moment (heard.Piece conv Client bytes) conv (news.Event Client (events.Piece Client bytes)) refl
        (λ peer (e : news.Event Client (events.Piece Client bytes) ≡ news.Begun peer). cc) none routed

    pub left_stands : (moment conv : ℕ) → (calls conv trace).peer ≡ None →
        RouterStands standing awaited number made_due answers state due course files router (trace ++ steps.Heard moment (heard.Closed conv Client) ∷ [])
    left_stands moment conv none =
        nobody_heard standing awaited number made_due answers due gave grows router.table trace moment (heard.Closed conv Client) conv (news.Event Client (events.Closed Client)) refl
        (λ peer (e : news.Event Client (events.Closed Client) ≡ news.Begun peer). cc) none routed

module _ {C S : Type 0} (standing : Standing C) (awaited : C → Option Ask) (number : C → ℕ) (made_due : C → List Move → List Command) (answers : Answering S) (drops : List ℕ → S → S → Type 0)
    (names : S → List (List ℕ)) {A : Type 0} (state : A → S) (due : Due) (course : Course S) (trace : Trace) (moment : ℕ) where
  module _ (what : Heard) (files : FilesMeaning) (router : Router C A) (net now : Option Trace) (word : word_of trace what ≡ nothing)
      (adds : AddsHeard (RouterStands standing awaited number made_due answers state due course files router) what (trace ++ steps.Heard moment what ∷ []) net now) where
    -- a conversation's steps were told
    pub conversed : (before after : Operators) (over : Bool) → over ≡ is_end what → OperatorsStand before trace → Welcomes (accepted_by what) before after →
        Turned standing awaited number made_due answers drops names state due files router after trace course moment what over net now
    conversed before after over is they welcomes =
        let next : Trace = (trace ++ steps.Heard moment what ∷ []) ++ adds.more in
        let P : Bool → Type 0 = λ b. Turned standing awaited number made_due answers drops names state due files router after trace course moment what b net now in
        subst P (sym is) (record {
          more = adds.more;
          next = next;
          turned = course;
          turns = of_conversation adds.more word adds.own;
          stands = adds.holds;
          operators_stand = λ _. welcomed_on before after trace moment what next (record { added = adds.more; is_next = refl; quiet = none_heard what adds.more adds.own }) they word welcomes;
          tells = adds.tells;
        })

    -- and then memory ran out
    pub broke_behind : (fails : Failing S) (told : Trace) → net ≡ Some told → TurnBroke answers drops names fails due trace course moment what told now files
    broke_behind fails told is =
        let next : Trace = (trace ++ steps.Heard moment what ∷ []) ++ adds.more in
        record {
          more = adds.more;
          next = next;
          broken = course;
          breaks = in_conversation adds.more word adds.own;
          is = adds.tells told is;
          served = adds.holds.served;
          follows = follows_here standing awaited number made_due answers state due course files router next adds.holds;
          leaves = leaves_here standing awaited number made_due answers state due course files router next adds.holds fails;
        }

  -- memory ran out while a conversation's steps were told
  pub broke_within : (fails : Failing S) (what : Heard) (told : Trace) (now : Option Trace) (files : FilesMeaning) → word_of trace what ≡ nothing →
      BreaksHeard answers fails due course what (trace ++ steps.Heard moment what ∷ []) told now files → TurnBroke answers drops names fails due trace course moment what told now files
  broke_within fails what told now files word b = record {
    more = b.more;
    next = (trace ++ steps.Heard moment what ∷ []) ++ b.more;
    broken = course;
    breaks = in_conversation b.more word b.own;
    is = b.is;
    served = b.served;
    follows = b.follows;
    leaves = b.leaves;
  }

  -- nothing was told of an operator's lines
  pub broke_silent : (fails : Failing S) (what : Heard) (told : Trace) (net now : Option Trace) (files : FilesMeaning) (router : Router C A) →
      RouterStands standing awaited number made_due answers state due course files router (trace ++ steps.Heard moment what ∷ []) → now ≡ net → net ≡ Some told →
      TurnBroke answers drops names fails due trace course moment what told now files
  broke_silent fails what told net now files router routed same is =
      let there : Trace = trace ++ steps.Heard moment what ∷ [] in
      record {
        more = [];
        next = there;
        broken = course;
        breaks = in_silence;
        is = none_more net now told same is;
        served = routed.served;
        follows = follows_here standing awaited number made_due answers state due course files router there routed;
        leaves = leaves_here standing awaited number made_due answers state due course files router there routed fails;
      }

  -- an operator leaves
  pub let_go_so : (conv : ℕ) (before after : Operators) (files : FilesMeaning) (router : Router C A) (net now : Option Trace) → OperatorsStand before trace → IsOperator before trace conv →
      Changes conv before after → is_open after conv ≢ true → RouterStands standing awaited number made_due answers state due course files router (trace ++ steps.Heard moment (heard.Closed conv Client) ∷ []) →
      AddsStep net now (closed conv) → Turned standing awaited number made_due answers drops names state due files router after trace course moment (heard.Closed conv Client) false net now
  let_go_so conv before after files router net now they is changes shut routed adds =
      let next : Trace = trace ++ steps.Heard moment (heard.Closed conv Client) ∷ [] in
      record {
        more = closed conv ∷ [];
        next = next;
        turned = course;
        turns = of_leaving conv (operator_leaves before trace conv is);
        stands = routed;
        operators_stand = λ _. closed_on before after trace moment conv next (record { added = []; is_next = sym (append-nil next); quiet = tt }) they changes shut;
        tells = λ told told_so. adds_told net now (closed conv) told told_so adds;
      }

  module _ (conv : ℕ) (bytes : List ℕ) (lines : List Line) (files : FilesMeaning) (router : Router C A) (before taken : Operators) (is : IsOperator before trace conv) (takes : Takes conv bytes lines before taken)
      (routed : RouterStands standing awaited number made_due answers state due course files router (trace ++ steps.Heard moment (heard.Piece conv Client bytes) ∷ [])) where
    word_so : word_of trace (heard.Piece conv Client bytes) ≡ says conv lines
    word_so = operator_says before trace conv bytes is ∙ ap (λ (l : List Line). says conv l) (sym takes.lines_are)

    -- memory ran out in the lines of an operator
    pub broke_in_lines : (fails : Failing S) (told : Trace) (now : Option Trace) (new_files : FilesMeaning) →
        BreaksAnswers answers fails drops names due conv lines (point (trace ++ steps.Heard moment (heard.Piece conv Client bytes) ∷ []) course (record { own = state router.answerer; files = files })) told now new_files →
        TurnBroke answers drops names fails due trace course moment (heard.Piece conv Client bytes) told now new_files
    broke_in_lines fails told now new_files b = record {
      more = b.more;
      next = b.trace;
      broken = b.course;
      breaks = in_lines conv lines b.more (record { own = state router.answerer; files = files }) routed.pending b.trace b.course word_so routed.answered b.breaks;
      is = b.is;
      served = b.served;
      follows = b.follows;
      leaves = b.leaves;
    }

    -- they were obeyed
    pub answered_so : (new_files : FilesMeaning) (new : Router C A) (after : Operators) (outcome : Outcome) (left over : Bool) (net now : Option Trace) → left ≡ has_left outcome → over ≡ is_quit outcome →
        OperatorsStand before trace → Settles conv left taken after →
        AddsAnswers answers drops names due (λ course trace. RouterStands standing awaited number made_due answers state due course new_files new trace) moment conv lines
        (point (trace ++ steps.Heard moment (heard.Piece conv Client bytes) ∷ []) course (record { own = state router.answerer; files = files })) (record { own = state new.answerer; files = new_files }) outcome net now →
        Turned standing awaited number made_due answers drops names state due new_files new after trace course moment (heard.Piece conv Client bytes) over net now
    answered_so new_files new after outcome left over net now is_left is_over they settles adds =
        let what : Heard = heard.Piece conv Client bytes in
        let there : Trace = trace ++ steps.Heard moment what ∷ [] in
        let first : Point S = point there course (record { own = state router.answerer; files = files }) in
        let turns = of_operator conv lines adds.more (record { own = state router.answerer; files = files }) routed.pending adds.last outcome word_so routed.answered adds.does in
        let added : Adds drops trace course moment what adds.more adds.last.trace adds.last.course =
        turns_adds answers drops names due trace course moment what adds.more adds.last.trace adds.last.course (is_quit outcome) turns in
        let P : Bool → Type 0 = λ b. Turned standing awaited number made_due answers drops names state due new_files new after trace course moment what b net now in
        let Q : Bool → Type 0 = λ b. Settles conv b taken after in
        subst P (sym is_over) (record {
          more = adds.more;
          next = adds.last.trace;
          turned = adds.last.course;
          turns = turns;
          stands = adds.stands;
          operators_stand = λ goes. stand_behind before taken after trace moment conv bytes lines adds.last.trace (record { added = added.added; is_next = added.is_next; quiet = added.quiet }) they is takes
              answers drops names due first adds.last adds.more outcome adds.does (subst Q is_left settles) goes;
          tells = adds.tells;
        })
