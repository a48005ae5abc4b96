-- From the end of a step to the end of the next, for a table of conversations.
use Rattle.std.proofs.Common.{◌≡◌, ◌≢◌, ◌⊎◌, inl, inr, ℕ, Bool, true, false, ◌==◌, List, [], ◌∷◌, ◌++◌, Option, Some, None, refl, ap, sym, ◌∙◌, subst, is_some}
use Rattle.std.proofs.lemmas.List.{append-nil}
use Rattle.std.proofs.lemmas.Bool.Decides.{eqb_tells}
use Rattle.slab.specs.Slab as slab
use Rattle.px_text.specs.Prefix.{IsPrefixOf}
use Rattle.px_event.proofs.Growth.{prefix_self}
use Rattle.px_message.specs.declared.address.Address.{Address}
use Rattle.px_event.specs.declared.ask.Ask.{Ask}
use Rattle.px_event.specs.declared.ask.Ask.TheVariants as asks
use Rattle.px_event.specs.declared.command.Command.{Command}
use Rattle.px_event.specs.declared.event.Event.TheVariants as events
use Rattle.px_event.specs.declared.heard.Heard.{Heard}
use Rattle.px_event.specs.declared.step.Step.{Step}
use Rattle.px_event.specs.declared.step.Step.TheVariants as steps
use Rattle.px_event.specs.Layer.{Move, Took, Standing}
use Rattle.px_event.specs.Trace.{Trace}
use Rattle.px_event.specs.View.{View, Atom, flows, IsTold, seen_of, seen_in}
use Rattle.px_event.proofs.TraceLemmas.{always_empty, always_more, before_empty, before_heard, before_other}
use Rattle.px_core.specs.declared.answerer.Draft.{Draft}
use Rattle.px_core.specs.declared.flows.Flows.{Flows}
use Rattle.px_core.specs.declared.held.Held.{Held}
use Rattle.px_core.specs.declared.news.News.{News}
use Rattle.px_core.specs.declared.news.News.TheVariants as news
use Rattle.px_core.specs.declared.table.Entry.{Entry}
use Rattle.px_core.specs.declared.table.Entry.TheVariants as place
use Rattle.px_core.specs.declared.table.Conversations.{Conversations}
use Rattle.px_core.specs.Answered.{nothing_pending, at_first, at_other}
use Rattle.px_core.specs.Answers.{Answering, AnswererState}
use Rattle.px_core.specs.Course.{Course, Operated, begins_at, is_marked}
use Rattle.px_core.specs.Calls.{Calls, begins, calls, calls_of, takes, addressed}
use Rattle.px_core.specs.Due.{Due, due_at, due_by, due_in, IsWithinDue, IsAllTold, EndsMet, Waits, OpenOnesWait, IsServed}
use Rattle.px_core.specs.Held.{AllOf, Kept, ShowsOthers, dial_of, kept_of, waiting, Follows, Hears, Takes}
use Rattle.px_core.specs.Live.{shown_in}
use Rattle.px_core.specs.Unmarked.{all_unmarked}
use Rattle.px_core.specs.Hooks.{open_hook, hook_of, EndsInTurn}
use Rattle.px_core.specs.Router.{Found, unknown, over, lost, live, found_at, found_by, place_of, found, draft_of, KeepsMarks, PutsPlace, IsUnknown, IsOver, IsLive, StandsIn, TableStands, IsTabled, HearsAt, Hands, Admits, Routes, IsAtKey}
use Rattle.px_core.specs.Runs.{has}
use Rattle.px_core.proofs.AnsweredLemmas.{follows_heard}
use Rattle.px_core.proofs.BegunLemmas.{calls_begun, follows_begun, hook_begun, no_answer_begun, no_heard_begun, seen_begun}
use Rattle.px_core.proofs.UnmarkedLemmas.{unmarked_prefix}
use Rattle.px_core.proofs.HearLemmas.{seen_heard, calls_heard}
use Rattle.px_core.proofs.HookLemmas.{hook_heard, hook_is, hook_named, kept_on}
use Rattle.px_core.proofs.SideLemmas.{servers_along}
use Rattle.px_core.proofs.ServedLemmas.{due_is, due_same, due_there, last_step, ends_in_turn}
use Rattle.px_core.proofs.NextLemmas.{IsGrown, begun_grown, begun_same, heard_grown, no_answer_heard, none_same, other_same, over_grown, over_next, same_by, Same}

-- a number that is not under the key that changed
pub same_found : {X : Type 0} (before after : slab.Slab X) (was now : Option Entry) (key : ℕ) → now ≡ was → ((k : ℕ) → k ≢ key → slab.get after k ≡ slab.get before k) →
    (was ≡ Some (place.Live key) → ⊥) → found_by after now ≡ found_by before was
same_found before after None now key same others not = ap (found_by after) same
same_found before after (Some place.Ended) now key same others not = ap (found_by after) same
same_found before after (Some (place.Live k)) now key same others not =
    ap (found_by after) same ∙ ap found_at (others k (λ is. not (ap (λ n. Some (place.Live n)) is)))

pub unplaced : {A : Type 0} (o : Option A) → is_some o ≡ false → o ≡ None
unplaced None is = refl
unplaced (Some a) is = absurd (let no : true ≡ false = is in cc)

module _ {C : Type 0} (standing : Standing C) (awaited : C → Option Ask) (number : C → ℕ) (made_due : C → List Move → List Command) where
  pub stands_same : {S : Type 0} (answers : Answering S) (due : Due) (conv : ℕ) (trace next : Trace) → Same conv trace next → (x : Found (Held C)) →
      StandsIn standing awaited number made_due answers due conv trace x → StandsIn standing awaited number made_due answers due conv next x
  stands_same answers due conv trace next s unknown w = record {
    begun = s.peer ∙ w.begun;
    dial = s.dial ∙ w.dial;
    connected = s.connected ∙ w.connected;
    moves = s.moves ∙ w.moves;
    sees = λ view told. s.sees view told ∙ w.sees view told;
    hook = s.hook ∙ w.hook;
  }
  stands_same answers due conv trace next s over w = over_next due conv trace next w (inl s.moves, λ peer is. s.peer ∙ is) s.sees s.hook
  stands_same answers due conv trace next s lost w = w
  stands_same answers due conv trace next s (live held) w =
      let v = w.within in
      let P : List Move → Type 0 = λ l. standing v.made held.conversation l v.given in
      record {
        within = record {
          made = v.made;
          peer = v.peer;
          given = v.given;
          earlier = v.earlier;
          stands = subst P (sym s.moves) v.stands;
          alike = v.alike;
          owes = v.owes;
          tells = λ view told. v.tells view told ∙ sym (s.sees view told);
          named = v.named;
          begun = s.peer ∙ v.begun;
          servers = servers_along (has held.connected) _ _ s.connected v.servers;
          dial = s.dial ∙ v.dial;
          turn = s.hook ∙ v.turn;
        };
        settled = w.settled;
        drafted = λ flow hook waits.
            kept_on answers due conv trace next (asks.Hook flow hook) held.draft
            (ap (seen_of flows) (due_same due conv (calls conv next) (calls conv trace) s.peer s.moves)) (w.drafted flow hook waits);
      }

  -- a table in which nothing was admitted
  pub new_stands : {S : Type 0} (answers : Answering S) (due : Due) (first : AnswererState S) (table : Conversations C) → ((conv : ℕ) → place_of table conv ≡ None) →
      ((conv index : ℕ) → shown_in table.flows conv index ≡ None) → TableStands standing awaited number made_due answers due (begins_at first) first table []
  new_stands answers due first table empty no_flows = record {
    at = λ conv.
        let P : Found (Held C) → Type 0 = StandsIn standing awaited number made_due answers due conv [] in
        let u : IsUnknown conv [] = record { begun = refl; dial = refl; connected = refl; moves = refl; sees = λ view told. refl; hook = refl } in
        subst P (sym (ap (found_by table.live) (empty conv))) u;
    served = record {
      within = always_empty (IsWithinDue due) (λ conv view told. (all_unmarked (due_in due view conv []), refl));
      told = before_empty (IsAllTold due);
      met = always_empty (EndsMet answers due) (λ prefix conv ask reply e. absurd (no_end prefix (steps.Answered conv ask reply) e));
      turns = always_empty EndsInTurn (λ prefix step e. absurd (no_end prefix step e));
      waits = before_empty (OpenOnesWait answers due);
    };
    pending = nothing_pending;
    answered = at_first (begins_at first) refl refl;
    drafts = λ conv. refl;
    marks = λ conv.
        let P : Found (Held C) → Type 0 = KeepsMarks [] conv in
        let none : KeepsMarks {C = C} [] conv unknown = λ index. refl in
        subst P (sym (ap (found_by table.live) (empty conv))) none;
    shown = λ conv index. sym (no_flows conv index);
  }
    where
      no_end : (prefix : List Step) (step : Step) → [] ≡ prefix ++ step ∷ [] → ⊥
      no_end [] step e = cc
      no_end (x ∷ prefix) step e = cc

  module _ (gave : (made state : C) (moves : List Move) (given : List Command) → standing made state moves given →
      (view : View) → seen_of view given ≡ seen_of view (made_due made moves))
      (grows : (made : C) (moves : List Move) (move : Move) (view : View) → IsPrefixOf (seen_of view (made_due made moves)) (seen_of view (made_due made (moves ++ move ∷ []))))
      {S : Type 0} (answers : Answering S) where
    told_in : (due : Due) (conv : ℕ) (trace : Trace) (x : Found (Held C)) → StandsIn standing awaited number made_due answers due conv trace x → (view : View) → IsTold view →
        all_unmarked (seen_in view conv trace) ≡ all_unmarked (due_in due view conv trace)
    told_in due conv trace unknown w view told =
        ap all_unmarked (w.sees view told) ∙ sym (ap (λ at. all_unmarked (seen_of view (due_at due conv at (calls_of conv trace)))) w.begun)
    told_in due conv trace over w view told = w.told view told
    told_in due conv trace lost w view told = absurd w
    told_in due conv trace (live held) w view told =
        sym (due_is answers due standing awaited number made_due gave conv held trace [] w.within view ∙ (append-nil (all_unmarked (seen_of view w.within.earlier)) ∙ ap all_unmarked (w.within.tells view told)))

    pub all_told : (due : Due) {course : Course S} {now : AnswererState S} (table : Conversations C) (trace : Trace) → TableStands standing awaited number made_due answers due course now table trace → IsAllTold due trace
    all_told due table trace stands conv view told = told_in due conv trace (found table conv) (stands.at conv) view told

    -- a hook that is open waits
    waits_in : (due : Due) (conv : ℕ) (trace : Trace) (x : Found (Held C)) → StandsIn standing awaited number made_due answers due conv trace x → (ask : Ask) → open_hook conv trace ≡ Some ask →
        (draft : Draft) × Waits answers due trace conv ask draft
    waits_in due conv trace unknown w ask is = absurd (let no : None ≡ Some ask = sym w.hook ∙ is in cc)
    waits_in due conv trace over w ask is = absurd (let no : None ≡ Some ask = sym w.hook ∙ is in cc)
    waits_in due conv trace lost w ask is = absurd w
    waits_in due conv trace (live held) w ask is =
        let waits : hook_of (awaited held.conversation) ≡ Some ask = sym w.within.turn ∙ is in
        let named = hook_named (awaited held.conversation) ask waits in
        let P : Ask → Type 0 = λ a. (draft : Draft) × Waits answers due trace conv a draft in
        let kept = w.drafted named.0 named.1 (hook_is (awaited held.conversation) ask waits ∙ ap Some named.2) in
        subst P (sym named.2) (kept.draft, kept.waits)

    pub open_ones_wait : (due : Due) {course : Course S} {now : AnswererState S} (table : Conversations C) (trace : Trace) → TableStands standing awaited number made_due answers due course now table trace → OpenOnesWait answers due trace
    open_ones_wait due table trace stands conv ask is = waits_in due conv trace (found table conv) (stands.at conv) ask is

    -- what is due to one that is live by one call more
    live_within : (due : Due) (conv : ℕ) (trace next : Trace) (move : Move) (held : Held C) (w : IsLive standing awaited number made_due answers due conv held trace) →
        calls_of conv next ≡ calls_of conv trace ++ move ∷ [] → (calls conv next).peer ≡ Some w.within.peer → (view : View) → IsTold view →
        IsPrefixOf (all_unmarked (seen_in view conv trace)) (all_unmarked (due_in due view conv next))
    live_within due conv trace next move held w is there view told =
        let v = w.within in
        let P : List Atom → Type 0 = λ l. IsPrefixOf l (all_unmarked (seen_of view (made_due v.made (calls_of conv trace ++ move ∷ [])))) in
        let Q : List Atom → Type 0 = λ l. IsPrefixOf (all_unmarked (seen_in view conv trace)) l in
        let here = seen_of view (made_due v.made (calls_of conv trace)) in
        let then_due = seen_of view (made_due v.made (calls_of conv trace ++ move ∷ [])) in
        let before : all_unmarked here ≡ all_unmarked (seen_in view conv trace) =
        ap all_unmarked (ap (seen_of view) (v.owes (calls_of conv trace)) ∙ sym (due_there due conv trace v.peer v.begun view)) ∙ sym (told_in due conv trace (live held) w view told) in
        let after : all_unmarked then_due ≡ all_unmarked (due_in due view conv next) =
        ap all_unmarked (ap (seen_of view) (v.owes (calls_of conv trace ++ move ∷ [])) ∙ (ap (λ l. seen_of view (due conv v.peer l)) (sym is) ∙ sym (due_there due conv next v.peer there view))) in
        subst Q after (subst P before (unmarked_prefix here then_due (grows v.made (calls_of conv trace) move view)))

    live_next : (due : Due) (conv : ℕ) (trace next : Trace) (held : Held C) → IsLive standing awaited number made_due answers due conv held trace →
        IsGrown (calls conv trace) (calls conv next) → (view : View) → IsTold view → seen_in view conv next ≡ seen_in view conv trace →
        IsPrefixOf (all_unmarked (seen_in view conv next)) (all_unmarked (due_in due view conv next))
    live_next due conv trace next held w (inl same, stays) view told sees =
        let P : List Atom → Type 0 = λ l. IsPrefixOf (all_unmarked (seen_in view conv next)) l in
        let here : due_by due conv (calls conv trace) ≡ due_by due conv (calls conv next) =
        due_same due conv (calls conv trace) (calls conv next) (w.within.begun ∙ sym (stays w.within.peer w.within.begun)) (sym same) in
        subst P (ap all_unmarked sees ∙ (told_in due conv trace (live held) w view told ∙ ap (λ l. all_unmarked (seen_of view l)) here)) (prefix_self (all_unmarked (seen_in view conv next)))
    live_next due conv trace next held w (inr (move, is), stays) view told sees =
        let P : List Atom → Type 0 = λ l. IsPrefixOf (all_unmarked l) (all_unmarked (due_in due view conv next)) in
        subst P (sym sees) (live_within due conv trace next move held w is (stays w.within.peer w.within.begun) view told)

    next_within : (due : Due) (conv : ℕ) (trace next : Trace) (x : Found (Held C)) → StandsIn standing awaited number made_due answers due conv trace x →
        IsGrown (calls conv trace) (calls conv next) → (view : View) → IsTold view → seen_in view conv next ≡ seen_in view conv trace →
        IsPrefixOf (all_unmarked (seen_in view conv next)) (all_unmarked (due_in due view conv next))
    next_within due conv trace next unknown w grown view told sees =
        let P : List Atom → Type 0 = λ l. IsPrefixOf (all_unmarked l) (all_unmarked (due_in due view conv next)) in subst P (sym (sees ∙ w.sees view told)) (all_unmarked (due_in due view conv next), refl)
    next_within due conv trace next over w grown view told sees =
        let P : List Atom → Type 0 = λ l. IsPrefixOf (all_unmarked (seen_in view conv next)) l in
        subst P (ap all_unmarked sees ∙ (w.told view told ∙ sym (over_grown due conv trace next w grown view))) (prefix_self (all_unmarked (seen_in view conv next)))
    next_within due conv trace next lost w grown view told sees = absurd w
    next_within due conv trace next (live held) w grown view told sees = live_next due conv trace next held w grown view told sees

    -- what was heard takes nothing back
    pub heard_served : (due : Due) {course : Course S} {now : AnswererState S} (table : Conversations C) (trace : Trace) (moment : ℕ) (heard : Heard) → TableStands standing awaited number made_due answers due course now table trace →
        IsServed answers due (trace ++ steps.Heard moment heard ∷ [])
    heard_served due table trace moment heard stands = record {
      within = always_more (IsWithinDue due) trace (steps.Heard moment heard) stands.served.within
          (λ conv view told. next_within due conv trace (trace ++ steps.Heard moment heard ∷ []) (found table conv) (stands.at conv) (heard_grown conv trace moment heard) view told (seen_heard view conv trace moment heard));
      told = before_heard (IsAllTold due) trace moment heard stands.served.told (all_told due table trace stands);
      met = always_more (EndsMet answers due) trace (steps.Heard moment heard) stands.served.met
          (λ prefix conv ask reply e. absurd (no_answer_heard moment conv heard ask reply (last_step trace prefix (steps.Heard moment heard) (steps.Answered conv ask reply) e).1));
      turns = always_more EndsInTurn trace (steps.Heard moment heard) stands.served.turns (ends_in_turn trace (steps.Heard moment heard) tt);
      waits = before_heard (OpenOnesWait answers due) trace moment heard stands.served.waits (open_ones_wait due table trace stands);
    }

    -- nor does a beginning
    pub begun_served : (due : Due) {course : Course S} {now : AnswererState S} (table : Conversations C) (trace : Trace) (conv_begun : ℕ) → TableStands standing awaited number made_due answers due course now table trace →
        IsServed answers due (trace ++ steps.Begun conv_begun ∷ [])
    begun_served due table trace conv_begun stands = record {
      within = always_more (IsWithinDue due) trace (steps.Begun conv_begun) stands.served.within
          (λ conv view told. next_within due conv trace (trace ++ steps.Begun conv_begun ∷ []) (found table conv) (stands.at conv) (begun_grown conv conv_begun trace) view told (seen_begun view conv conv_begun trace));
      told = before_other (IsAllTold due) trace (steps.Begun conv_begun) (no_heard_begun conv_begun) stands.served.told;
      met = always_more (EndsMet answers due) trace (steps.Begun conv_begun) stands.served.met
          (λ prefix conv ask reply e. absurd (no_answer_begun conv_begun conv ask reply (last_step trace prefix (steps.Begun conv_begun) (steps.Answered conv ask reply) e).1));
      turns = always_more EndsInTurn trace (steps.Begun conv_begun) stands.served.turns (ends_in_turn trace (steps.Begun conv_begun) tt);
      waits = before_other (OpenOnesWait answers due) trace (steps.Begun conv_begun) (no_heard_begun conv_begun) stands.served.waits;
    }

    -- marks that are the same are kept
    keeps_same : (before after : List Operated) (conv : ℕ) (x : Found (Held C)) → ((index : ℕ) → is_marked after conv index ≡ is_marked before conv index) → KeepsMarks before conv x → KeepsMarks after conv x
    keeps_same before after conv unknown same kept = λ index. same index ∙ kept index
    keeps_same before after conv over same kept = tt
    keeps_same before after conv lost same kept = tt
    keeps_same before after conv (live held) same kept = λ index. same index ∙ kept index

    -- the others stay, and this one stands
    pub next_stands : (due : Due) {course made : Course S} {old new : AnswererState S} (conv : ℕ) (before after : Conversations C) (kept : Kept) (trace next : Trace) →
        ((other : ℕ) → conv ≢ other → Same other trace next) → ((other : ℕ) → conv ≢ other → found after other ≡ found before other) →
        ((other index : ℕ) → conv ≢ other → is_marked made.operations other index ≡ is_marked course.operations other index) → ShowsOthers conv before.flows after.flows →
        (stands : TableStands standing awaited number made_due answers due course old before trace) → StandsIn standing awaited number made_due answers due conv next (found after conv) →
        IsServed answers due next → (f : Follows answers due made stands.pending conv kept new next) →
        waiting (open_hook conv next) kept.draft ≡ waiting (open_hook conv next) (draft_of (found after conv)) → KeepsMarks made.operations conv (found after conv) →
        ((index : ℕ) → kept.shown index ≡ shown_in after.flows conv index) → TableStands standing awaited number made_due answers due made new after next
    next_stands due {course} {made} conv before after kept trace next same others marked shows stands here served f draft_so marks_so shown_so = record {
      at = λ other. by other (eqb_tells conv other);
      served = served;
      pending = f.pending;
      answered = f.answered;
      drafts = λ other. drafted other (eqb_tells conv other);
      marks = λ other. marks_of other (eqb_tells conv other);
      shown = λ other index. shown_of other index (eqb_tells conv other);
    }
      where
        by : (other : ℕ) → ((conv == other) ≡ true) × (conv ≡ other) ⊎ ((conv == other) ≡ false) × (conv ≢ other) →
            StandsIn standing awaited number made_due answers due other next (found after other)
        by other (inl is) =
            let P : ℕ → Type 0 = λ k. StandsIn standing awaited number made_due answers due k next (found after k) in subst P is.1 here
        by other (inr apart) =
            let P : Found (Held C) → Type 0 = λ x. StandsIn standing awaited number made_due answers due other next x in
            subst P (sym (others other apart.1)) (stands_same answers due other trace next (same other apart.1) (found before other) (stands.at other))

        drafted : (other : ℕ) → ((conv == other) ≡ true) × (conv ≡ other) ⊎ ((conv == other) ≡ false) × (conv ≢ other) →
            f.pending.given other ≡ waiting (open_hook other next) (draft_of (found after other))
        drafted other (inl is) =
            let P : ℕ → Type 0 = λ k. f.pending.given k ≡ waiting (open_hook k next) (draft_of (found after k)) in subst P is.1 (f.here ∙ draft_so)
        drafted other (inr apart) =
            f.others other apart.1
            ∙ (stands.drafts other
            ∙ (ap (λ h. waiting h (draft_of (found before other))) (sym (same other apart.1).hook)
            ∙ ap (λ x. waiting (open_hook other next) (draft_of x)) (sym (others other apart.1))))

        marks_of : (other : ℕ) → ((conv == other) ≡ true) × (conv ≡ other) ⊎ ((conv == other) ≡ false) × (conv ≢ other) → KeepsMarks made.operations other (found after other)
        marks_of other (inl is) = let P : ℕ → Type 0 = λ k. KeepsMarks made.operations k (found after k) in subst P is.1 marks_so
        marks_of other (inr apart) =
            let P : Found (Held C) → Type 0 = KeepsMarks made.operations other in
            subst P (sym (others other apart.1))
            (keeps_same course.operations made.operations other (found before other) (λ index. marked other index apart.1) (stands.marks other))

        shown_of : (other index : ℕ) → ((conv == other) ≡ true) × (conv ≡ other) ⊎ ((conv == other) ≡ false) × (conv ≢ other) → f.pending.shown other index ≡ shown_in after.flows other index
        shown_of other index (inl is) = let P : ℕ → Type 0 = λ k. f.pending.shown k index ≡ shown_in after.flows k index in subst P is.1 (f.shown index ∙ shown_so index)
        shown_of other index (inr apart) = f.shown_others other index apart.1 ∙ (stands.shown other index ∙ sym (shows other index apart.1))

    -- so it is of what was heard
    heard_stands : (due : Due) {course : Course S} {old new : AnswererState S} (conv moment : ℕ) (what : News) (before after : Conversations C) (kept : Kept) (trace more : Trace) (heard : Heard) →
        addressed heard ≡ Some (conv, what) → AllOf conv more → ((other : ℕ) → conv ≢ other → found after other ≡ found before other) → ShowsOthers conv before.flows after.flows →
        (stands : TableStands standing awaited number made_due answers due course old before trace) →
        StandsIn standing awaited number made_due answers due conv ((trace ++ steps.Heard moment heard ∷ []) ++ more) (found after conv) →
        IsServed answers due ((trace ++ steps.Heard moment heard ∷ []) ++ more) →
        (f : Follows answers due course stands.pending conv kept new ((trace ++ steps.Heard moment heard ∷ []) ++ more)) →
        waiting (open_hook conv ((trace ++ steps.Heard moment heard ∷ []) ++ more)) kept.draft ≡ waiting (open_hook conv ((trace ++ steps.Heard moment heard ∷ []) ++ more)) (draft_of (found after conv)) →
        KeepsMarks course.operations conv (found after conv) → ((index : ℕ) → kept.shown index ≡ shown_in after.flows conv index) →
        TableStands standing awaited number made_due answers due course new after ((trace ++ steps.Heard moment heard ∷ []) ++ more)
    heard_stands due conv moment what before after kept trace more heard is own others shows =
        next_stands due conv before after kept trace ((trace ++ steps.Heard moment heard ∷ []) ++ more) (λ other apart. other_same conv other moment trace more heard what is own apart)
        others (λ other index apart. refl) shows

    -- it follows where the table stands
    pub table_follows : (due : Due) {course : Course S} {now : AnswererState S} (conv : ℕ) (table : Conversations C) (kept : Kept) (trace : Trace) →
        (stands : TableStands standing awaited number made_due answers due course now table trace) → draft_of (found table conv) ≡ kept.draft →
        ((index : ℕ) → is_marked course.operations conv index ≡ kept.marks index) → ((index : ℕ) → shown_in table.flows conv index ≡ kept.shown index) →
        Follows answers due course stands.pending conv kept now trace
    table_follows due conv table kept trace stands same marked shows = record {
      pending = stands.pending;
      answered = stands.answered;
      here = stands.drafts conv ∙ ap (waiting (open_hook conv trace)) same;
      others = λ other apart. refl;
      marks = marked;
      shown = λ index. stands.shown conv index ∙ shows index;
      shown_others = λ other index apart. refl;
    }

    -- what is heard too
    heard_follows : (due : Due) {course : Course S} {now : AnswererState S} (conv moment : ℕ) (table : Conversations C) (kept : Kept) (trace : Trace) (heard : Heard) →
        (stands : TableStands standing awaited number made_due answers due course now table trace) → draft_of (found table conv) ≡ kept.draft →
        ((index : ℕ) → is_marked course.operations conv index ≡ kept.marks index) → ((index : ℕ) → shown_in table.flows conv index ≡ kept.shown index) →
        Follows answers due course stands.pending conv kept now (trace ++ steps.Heard moment heard ∷ [])
    heard_follows due {course} {now} conv moment table kept trace heard stands same marked shows =
        follows_heard answers due course stands.pending conv kept now trace moment heard (table_follows due conv table kept trace stands same marked shows)

    -- the marks of one that is live
    pub marks_live : {due : Due} {course : Course S} {now : AnswererState S} (conv : ℕ) (table : Conversations C) (held : Held C) (trace : Trace) → found table conv ≡ live held →
        TableStands standing awaited number made_due answers due course now table trace → (index : ℕ) → is_marked course.operations conv index ≡ has held.marks index
    marks_live {course = course} conv table held trace was stands = let P : Found (Held C) → Type 0 = KeepsMarks course.operations conv in subst P was (stands.marks conv)

    module _ (ended : C → Bool) (ends : (made state : C) (moves : List Move) (given : List Command) → standing made state moves given → ended state ≡ true →
        (more : List Move) (view : View) → seen_of view (made_due made (moves ++ more)) ≡ seen_of view (made_due made moves))
        (rests : (made state : C) (moves : List Move) (given : List Command) → standing made state moves given → ended state ≡ true → awaited state ≡ None) where
      -- a conversation that has ended
      over_of : (due : Due) (conv : ℕ) (held : Held C) (trace : Trace) → IsLive standing awaited number made_due answers due conv held trace → ended held.conversation ≡ true → IsOver due conv trace
      over_of due conv held trace w is = record {
        peer = w.within.peer;
        begun = w.within.begun;
        told = told_in due conv trace (live held) w;
        stays = λ view more.
            ap all_unmarked (ap (seen_of view) (sym (w.within.owes (calls_of conv trace ++ more)))
            ∙ (ends w.within.made held.conversation (calls_of conv trace) w.within.given w.within.stands is more view
            ∙ (ap (seen_of view) (w.within.owes (calls_of conv trace)) ∙ sym (due_there due conv trace w.within.peer w.within.begun view))));
        hook = w.within.turn ∙ ap hook_of (rests w.within.made held.conversation (calls_of conv trace) w.within.given w.within.stands is);
      }

      -- what became of the conversation is held, or it has ended
      abbrev pub IsHeldOr : Held C → Found (Held C) → Type 0
      IsHeldOr held x = (x ≡ live held) ⊎ ((x ≡ over) × (ended held.conversation ≡ true))

      pub here_stands : (due : Due) (conv : ℕ) (held : Held C) (trace : Trace) (x : Found (Held C)) → IsLive standing awaited number made_due answers due conv held trace → IsHeldOr held x →
          StandsIn standing awaited number made_due answers due conv trace x
      here_stands due conv held trace x w (inl is) = let P : Found (Held C) → Type 0 = StandsIn standing awaited number made_due answers due conv trace in subst P (sym is) w
      here_stands due conv held trace x w (inr (is, end)) =
          let P : Found (Held C) → Type 0 = StandsIn standing awaited number made_due answers due conv trace in subst P (sym is) (over_of due conv held trace w end)

      -- of one that has ended no hook is open
      pub draft_in : (due : Due) (conv : ℕ) (held : Held C) (trace : Trace) (x : Found (Held C)) → IsLive standing awaited number made_due answers due conv held trace → IsHeldOr held x →
          waiting (open_hook conv trace) held.draft ≡ waiting (open_hook conv trace) (draft_of x)
      draft_in due conv held trace x w (inl is) = ap (λ y. waiting (open_hook conv trace) (draft_of y)) (sym is)
      draft_in due conv held trace x w (inr (is, end)) =
          let none : open_hook conv trace ≡ None = (over_of due conv held trace w end).hook in
          ap (λ h. waiting h held.draft) none ∙ sym (ap (λ h. waiting h (draft_of x)) none)

      pub marks_in : (made : List Operated) (conv : ℕ) (held : Held C) (x : Found (Held C)) → IsHeldOr held x → ((index : ℕ) → is_marked made conv index ≡ has held.marks index) → KeepsMarks made conv x
      marks_in made conv held x (inl is) marked = let P : Found (Held C) → Type 0 = KeepsMarks made conv in subst P (sym is) marked
      marks_in made conv held x (inr (is, end)) marked = let P : Found (Held C) → Type 0 = KeepsMarks made conv in subst P (sym is) tt

      pub live_in : (due : Due) (conv : ℕ) (held : Held C) (trace : Trace) (x : Found (Held C)) → x ≡ live held → StandsIn standing awaited number made_due answers due conv trace x →
          IsLive standing awaited number made_due answers due conv held trace
      live_in due conv held trace x is w = let P : Found (Held C) → Type 0 = StandsIn standing awaited number made_due answers due conv trace in subst P is w

      pub hands_of : (conv moment : ℕ) (what : News) (before after : Conversations C) (held new_held : Held C) {old new : AnswererState S} (out new_out : List Step) → found before conv ≡ live held →
          Hears standing awaited number made_due answers conv moment what held new_held before.flows after.flows old new out new_out → IsHeldOr new_held (found after conv) →
          ((other : ℕ) → conv ≢ other → found after other ≡ found before other) → Hands standing awaited number made_due answers conv moment what before after old new out new_out
      hands_of conv moment what before after held new_held out new_out was hears there others = record {
        more = hears.more;
        grown = hears.grown;
        own = hears.own;
        others = others;
        stands = λ due course trace heard is stands.
            let w = live_in due conv held trace (found before conv) was (stands.at conv) in
            let next = hears.hears due course stands.pending trace heard is w.within w.drafted (heard_served due before trace moment heard stands)
            (heard_follows due conv moment before (kept_of conv held before.flows) trace heard stands (ap draft_of was) (marks_live conv before held trace was stands) (λ index. refl)) in
            let there_now : IsLive standing awaited number made_due answers due conv new_held ((trace ++ steps.Heard moment heard ∷ []) ++ hears.more) =
            record { within = next.0; settled = hears.settled; drafted = next.2 } in
            heard_stands due conv moment what before after (kept_of conv new_held after.flows) trace hears.more heard is hears.own others hears.others stands
            (here_stands due conv new_held ((trace ++ steps.Heard moment heard ∷ []) ++ hears.more) (found after conv) there_now there) next.1 next.3
            (draft_in due conv new_held ((trace ++ steps.Heard moment heard ∷ []) ++ hears.more) (found after conv) there_now there)
            (marks_in course.operations conv new_held (found after conv) there next.3.marks) (λ index. refl);
      }

      pub admits_of : (conv moment : ℕ) (conversation : C) (before after : Conversations C) (held new_held : Held C) {old new : AnswererState S} (out new_out : List Step) → found before conv ≡ unknown →
          held.conversation ≡ conversation → held.draft ≡ None → held.marks ≡ [] → awaited conversation ≡ None → standing conversation conversation [] [] →
          Takes standing awaited number made_due answers conv moment (Took moment events.Begun) None (has []) held new_held before.flows after.flows old new out new_out → IsHeldOr new_held (found after conv) →
          ((other : ℕ) → conv ≢ other → found after other ≡ found before other) → Admits standing awaited number made_due answers conv moment conversation before after old new out new_out
      admits_of conv moment conversation before after held new_held {old} {new} out new_out was same no_draft no_marks free fresh t there others = record {
        more = t.more;
        grown = t.grown;
        own = t.own;
        others = others;
        stands = λ due course trace heard peer is owes stands.
            let P : Found (Held C) → Type 0 = StandsIn standing awaited number made_due answers due conv trace in
            let w : IsUnknown conv trace = subst P was (stands.at conv) in
            let on = calls_heard conv trace moment heard (news.Begun peer) is in
            let took : takes moment (calls conv trace) (news.Begun peer) ≡ record (calls conv trace) { peer = Some (Some peer); moves = calls_of conv trace ++ Took moment events.Begun ∷ [] } = rw w.begun refl in
            let Q : C → Type 0 = λ s. standing conversation s (calls_of conv trace) [] in
            let R : List Move → Type 0 = λ l. standing conversation conversation l [] in
            let none : awaited held.conversation ≡ None = ap awaited same ∙ free in
            let U : Found (Held C) → Type 0 = KeepsMarks course.operations conv in
            let marked : KeepsMarks {C = C} course.operations conv unknown = subst U was (stands.marks conv) in
            let next = t.takes due course stands.pending (Some peer) trace (trace ++ steps.Heard moment heard ∷ [])
            (record {
              made = conversation;
              given = [];
              earlier = [];
              alike = refl;
              stands = subst Q (sym same) (subst R (sym w.moves) fresh);
              owes = owes;
              tells = λ view told. sym (w.sees view told);
              hook = w.hook ∙ sym (ap hook_of none);
              there = λ ask waits. absurd (let no : None ≡ Some ask = sym (ap hook_of none) ∙ waits in cc);
            })
            (λ flow hook waits. absurd (let no : None ≡ Some (asks.Hook flow hook) = sym none ∙ waits in cc))
            (record {
              moves = ap (λ (c : Calls). c.moves) on ∙ ap (λ (c : Calls). c.moves) took;
              begun = ap (λ (c : Calls). c.peer) on ∙ ap (λ (c : Calls). c.peer) took;
              dials = ap (λ (c : Calls). c.dial) on ∙ (ap (λ (c : Calls). c.dial) took ∙ w.dial);
              connected = servers_along (has []) _ _ (ap (λ (c : Calls). c.connected) on ∙ (ap (λ (c : Calls). c.connected) took ∙ w.connected)) (λ n. refl);
              now = ap (λ (c : Calls). c.moment) on;
              sees = λ view told. seen_heard view conv trace moment heard;
              hook = hook_heard conv trace moment heard;
            })
            (heard_served due before trace moment heard stands)
            (heard_follows due conv moment before (kept_of conv held before.flows) trace heard stands (ap draft_of was ∙ sym no_draft)
            (λ index. marked index ∙ sym (ap (λ r. has r index) no_marks)) (λ index. refl)) in
            let there_now : IsLive standing awaited number made_due answers due conv new_held ((trace ++ steps.Heard moment heard ∷ []) ++ t.more) =
            record { within = next.0; settled = t.settled; drafted = next.2 } in
            heard_stands due conv moment (news.Begun peer) before after (kept_of conv new_held after.flows) trace t.more heard is t.own others t.others stands
            (here_stands due conv new_held ((trace ++ steps.Heard moment heard ∷ []) ++ t.more) (found after conv) there_now there) next.1 next.3
            (draft_in due conv new_held ((trace ++ steps.Heard moment heard ∷ []) ++ t.more) (found after conv) there_now there)
            (marks_in course.operations conv new_held (found after conv) there next.3.marks) (λ index. refl);
        alone = λ due course trace is_now owes stands.
            let next_trace : Trace = trace ++ steps.Begun conv ∷ [] in
            let P : Found (Held C) → Type 0 = StandsIn standing awaited number made_due answers due conv trace in
            let w : IsUnknown conv trace = subst P was (stands.at conv) in
            let on = calls_begun conv trace in
            let took : begins (calls conv trace).moment None (calls conv trace)
            ≡ record (calls conv trace) { peer = Some None; moves = calls_of conv trace ++ Took (calls conv trace).moment events.Begun ∷ [] } = rw w.begun refl in
            let Q : C → Type 0 = λ s. standing conversation s (calls_of conv trace) [] in
            let R : List Move → Type 0 = λ l. standing conversation conversation l [] in
            let none : awaited held.conversation ≡ None = ap awaited same ∙ free in
            let U : Found (Held C) → Type 0 = KeepsMarks course.operations conv in
            let marked : KeepsMarks {C = C} course.operations conv unknown = subst U was (stands.marks conv) in
            let next = t.takes due course stands.pending None trace next_trace
            (record {
              made = conversation;
              given = [];
              earlier = [];
              alike = refl;
              stands = subst Q (sym same) (subst R (sym w.moves) fresh);
              owes = owes;
              tells = λ view told. sym (w.sees view told);
              hook = w.hook ∙ sym (ap hook_of none);
              there = λ ask waits. absurd (let no : None ≡ Some ask = sym (ap hook_of none) ∙ waits in cc);
            })
            (λ flow hook waits. absurd (let no : None ≡ Some (asks.Hook flow hook) = sym none ∙ waits in cc))
            (record {
              moves = ap (λ (c : Calls). c.moves) on ∙ (ap (λ (c : Calls). c.moves) took ∙ ap (λ m. calls_of conv trace ++ Took m events.Begun ∷ []) (is_now conv));
              begun = ap (λ (c : Calls). c.peer) on ∙ ap (λ (c : Calls). c.peer) took;
              dials = ap (λ (c : Calls). c.dial) on ∙ (ap (λ (c : Calls). c.dial) took ∙ w.dial);
              connected = servers_along (has []) _ _ (ap (λ (c : Calls). c.connected) on ∙ (ap (λ (c : Calls). c.connected) took ∙ w.connected)) (λ n. refl);
              now = ap (λ (c : Calls). c.moment) on ∙ (ap (λ (c : Calls). c.moment) took ∙ is_now conv);
              sees = λ view told. seen_begun view conv conv trace;
              hook = hook_begun conv conv trace;
            })
            (begun_served due before trace conv stands)
            (follows_begun answers due course stands.pending conv conv (kept_of conv held before.flows) old trace
            (table_follows due conv before (kept_of conv held before.flows) trace stands (ap draft_of was ∙ sym no_draft)
            (λ index. marked index ∙ sym (ap (λ r. has r index) no_marks)) (λ index. refl))) in
            let there_now : IsLive standing awaited number made_due answers due conv new_held (next_trace ++ t.more) =
            record { within = next.0; settled = t.settled; drafted = next.2 } in
            next_stands due conv before after (kept_of conv new_held after.flows) trace (next_trace ++ t.more) (λ other apart. begun_same conv other trace t.more t.own apart)
            others (λ other index apart. refl) t.others stands
            (here_stands due conv new_held (next_trace ++ t.more) (found after conv) there_now there) next.1 next.3
            (draft_in due conv new_held (next_trace ++ t.more) (found after conv) there_now there)
            (marks_in course.operations conv new_held (found after conv) there next.3.marks) (λ index. refl);
      }

    -- news that the table ignores
    ignored_hands : (conv moment : ℕ) (what : News) (table : Conversations C) {state : AnswererState S} (out : List Step) →
        ((due : Due) (trace : Trace) (heard : Heard) → addressed heard ≡ Some (conv, what) → StandsIn standing awaited number made_due answers due conv trace (found table conv) →
        StandsIn standing awaited number made_due answers due conv (trace ++ steps.Heard moment heard ∷ []) (found table conv)) →
        Hands standing awaited number made_due answers conv moment what table table state state out out
    ignored_hands conv moment what table {state} out here = record {
      more = [];
      grown = sym (append-nil out);
      own = tt;
      others = λ other apart. refl;
      stands = λ due course trace heard is stands.
          let P : Trace → Type 0 = λ t. StandsIn standing awaited number made_due answers due conv t (found table conv) in
          let Q : Trace → Type 0 = IsServed answers due in
          let kept : Kept = record { draft = draft_of (found table conv); marks = is_marked course.operations conv; shown = shown_in table.flows conv } in
          let R : Trace → Type 0 = Follows answers due course stands.pending conv kept state in
          let same = sym (append-nil (trace ++ steps.Heard moment heard ∷ [])) in
          heard_stands due conv moment what table table kept trace [] heard is tt (λ other apart. refl) (λ other index apart. refl) stands
          (subst P same (here due trace heard is (stands.at conv))) (subst Q same (heard_served due table trace moment heard stands))
          (subst R same (heard_follows due conv moment table kept trace heard stands refl (λ index. refl) (λ index. refl))) refl (stands.marks conv) (λ index. refl);
    }

    pub over_hands : (conv moment : ℕ) (what : News) (table : Conversations C) {state : AnswererState S} (out : List Step) → found table conv ≡ over → Hands standing awaited number made_due answers conv moment what table table state state out out
    over_hands conv moment what table out was = ignored_hands conv moment what table out (λ due trace heard is w.
        let P : Found (Held C) → Type 0 = StandsIn standing awaited number made_due answers due conv trace in
        let Q : Found (Held C) → Type 0 = StandsIn standing awaited number made_due answers due conv (trace ++ steps.Heard moment heard ∷ []) in
        subst Q (sym was) (over_next due conv trace (trace ++ steps.Heard moment heard ∷ []) (subst P was w) (heard_grown conv trace moment heard) (λ view told. seen_heard view conv trace moment heard)
        (hook_heard conv trace moment heard)))

    takes_nothing : (moment : ℕ) (c : Calls) (what : News) → ((peer : Address) → what ≡ news.Begun peer → ⊥) → c.peer ≡ None → c.dial ≡ None → takes moment c what ≡ c
    takes_nothing moment c (news.Begun peer) not begun dial = absurd (not peer refl)
    takes_nothing moment c (news.Event side event) not begun dial = rw begun refl
    takes_nothing moment c (news.Dialled server ok) not begun dial = rw dial refl

    pub unknown_hands : (conv moment : ℕ) (what : News) (table : Conversations C) {state : AnswererState S} (out : List Step) → found table conv ≡ unknown → ((peer : Address) → what ≡ news.Begun peer → ⊥) →
        Hands standing awaited number made_due answers conv moment what table table state state out out
    unknown_hands conv moment what table out was not = ignored_hands conv moment what table out (λ due trace heard is w.
        let P : Found (Held C) → Type 0 = StandsIn standing awaited number made_due answers due conv trace in
        let Q : Found (Held C) → Type 0 = StandsIn standing awaited number made_due answers due conv (trace ++ steps.Heard moment heard ∷ []) in
        let u : IsUnknown conv trace = subst P was w in
        let same = same_by conv moment trace (trace ++ steps.Heard moment heard ∷ [])
        (calls_heard conv trace moment heard what is ∙ ap (λ (c : Calls). record c { moment = moment }) (takes_nothing moment (calls conv trace) what not u.begun u.dial))
        (λ view told. seen_heard view conv trace moment heard) (hook_heard conv trace moment heard) in
        subst Q (sym was) (stands_same answers due conv trace (trace ++ steps.Heard moment heard ∷ []) same unknown u))

    -- what was heard of no conversation
    pub routes_none : (moment : ℕ) (heard : Heard) (table : Conversations C) {state : AnswererState S} (out : List Step) → addressed heard ≡ None → Routes standing awaited number made_due answers moment heard table table state state out out
    routes_none moment heard table {state} out is = record {
      more = [];
      grown = sym (append-nil out);
      own = λ conv what some. tt;
      none = λ _. (refl, refl);
      others = λ conv other what some apart. refl;
      stands = λ due course trace stands.
          let P : Trace → Type 0 = TableStands standing awaited number made_due answers due course state table in
          subst P (sym (append-nil (trace ++ steps.Heard moment heard ∷ []))) (record {
            at = λ conv. stands_same answers due conv trace (trace ++ steps.Heard moment heard ∷ []) (none_same conv moment trace heard is) (found table conv) (stands.at conv);
            served = heard_served due table trace moment heard stands;
            pending = stands.pending;
            answered = at_other course trace (trace ++ steps.Heard moment heard ∷ []) state stands.pending (steps.Heard moment heard) stands.answered refl tt tt;
            marks = stands.marks;
            shown = stands.shown;
            drafts = λ conv. stands.drafts conv ∙ ap (λ h. waiting h (draft_of (found table conv))) (sym (hook_heard conv trace moment heard));
          });
    }

    same_pair : (p q : ℕ × News) → Some p ≡ Some q → p.0 ≡ q.0
    same_pair p q e = let s : p ≡ q = cc in ap (λ (r : ℕ × News). r.0) s

    pub routes_of : (moment : ℕ) (heard : Heard) (conv : ℕ) (what : News) (before after : Conversations C) {old new : AnswererState S} (out new_out : List Step) → addressed heard ≡ Some (conv, what) →
        Hands standing awaited number made_due answers conv moment what before after old new out new_out → Routes standing awaited number made_due answers moment heard before after old new out new_out
    routes_of moment heard conv what before after out new_out is hands = record {
      more = hands.more;
      grown = hands.grown;
      own = λ other what' some. let P : ℕ → Type 0 = λ k. AllOf k hands.more in subst P (same_pair (conv, what) (other, what') (sym is ∙ some)) hands.own;
      none = λ no. absurd (let wrong : Some (conv, what) ≡ None = sym is ∙ no in cc);
      others = λ first other what' some apart. hands.others other (λ same. apart (sym (same_pair (conv, what) (first, what') (sym is ∙ some)) ∙ same));
      stands = λ due course trace stands. hands.stands due course trace heard is stands;
    }

    pub routes_out : (moment : ℕ) (heard : Heard) (before after : Conversations C) {old new : AnswererState S} (empty given out new_out : List Step) → empty ≡ [] → new_out ≡ out ++ given →
        Routes standing awaited number made_due answers moment heard before after old new empty given → Routes standing awaited number made_due answers moment heard before after old new out new_out
    routes_out moment heard before after empty given out new_out none grown r = record {
      more = r.more;
      grown = grown ∙ ap (λ l. out ++ l) (r.grown ∙ ap (λ l. l ++ r.more) none);
      own = r.own;
      none = r.none;
      others = r.others;
      stands = r.stands;
    }

    pub admits_out : (conv moment : ℕ) (conversation : C) (before after : Conversations C) {old new : AnswererState S} (empty given out new_out : List Step) → empty ≡ [] → new_out ≡ out ++ given →
        Admits standing awaited number made_due answers conv moment conversation before after old new empty given → Admits standing awaited number made_due answers conv moment conversation before after old new out new_out
    admits_out conv moment conversation before after empty given out new_out none grown r = record {
      more = r.more;
      grown = grown ∙ ap (λ l. out ++ l) (r.grown ∙ ap (λ l. l ++ r.more) none);
      own = r.own;
      others = r.others;
      stands = r.stands;
      alone = r.alone;
    }

    -- no two numbers share a key
    pub apart_keys : (due : Due) {course : Course S} {now : AnswererState S} (table : Conversations C) (trace : Trace) (conv other key : ℕ) (held : Held C) → TableStands standing awaited number made_due answers due course now table trace →
        slab.get table.live key ≡ Some held → number held.conversation ≡ conv → conv ≢ other → place_of table other ≡ Some (place.Live key) → ⊥
    apart_keys due table trace conv other key held stands is named apart at =
        let there : found table other ≡ live held = ap (found_by table.live) at ∙ ap found_at is in
        let P : Found (Held C) → Type 0 = StandsIn standing awaited number made_due answers due other trace in
        let w : IsLive standing awaited number made_due answers due other held trace = subst P there (stands.at other) in
        apart (sym named ∙ w.within.named)

    pub no_vacant_key : (due : Due) {course : Course S} {now : AnswererState S} (table : Conversations C) (trace : Trace) (other key : ℕ) → TableStands standing awaited number made_due answers due course now table trace →
        slab.get table.live key ≡ None → place_of table other ≡ Some (place.Live key) → ⊥
    no_vacant_key due table trace other key stands is at =
        let there : found table other ≡ lost = ap (found_by table.live) at ∙ ap found_at is in
        let P : Found (Held C) → Type 0 = StandsIn standing awaited number made_due answers due other trace in subst P there (stands.at other)

    first_takes : (conv moment : ℕ) (conversation : C) (held new_held : Held C) (shown new_shown : Flows) {old new : AnswererState S} (out new_out : List Step) → held.conversation ≡ conversation → held.connected ≡ [] →
        awaited conversation ≡ None →
        Takes standing awaited number made_due answers conv moment (Took moment events.Begun) (dial_of (awaited held.conversation)) (has held.connected) held new_held shown new_shown old new out new_out →
        Takes standing awaited number made_due answers conv moment (Took moment events.Begun) None (has []) held new_held shown new_shown old new out new_out
    first_takes conv moment conversation held new_held shown new_shown {old} {new} out new_out same sides free t =
        let P : Option ℕ → Type 0 = λ d. Takes standing awaited number made_due answers conv moment (Took moment events.Begun) d (has []) held new_held shown new_shown old new out new_out in
        let Q : List (ℕ × ℕ) → Type 0 = λ l. Takes standing awaited number made_due answers conv moment (Took moment events.Begun) (dial_of (awaited held.conversation)) (has l) held new_held shown new_shown old new out new_out in
        subst P (ap (λ s. dial_of (awaited s)) same ∙ ap dial_of free) (subst Q sides t)

    pub at_key : (due : Due) {course : Course S} {now : AnswererState S} (table : Conversations C) (trace : Trace) (conv key : ℕ) → TableStands standing awaited number made_due answers due course now table trace →
        place_of table conv ≡ Some (place.Live key) → IsAtKey standing awaited number made_due conv key table
    at_key due table trace conv key stands at = by (slab.get table.live key) refl
      where
        by : (o : Option (Held C)) → slab.get table.live key ≡ o → IsAtKey standing awaited number made_due conv key table
        by None is = absurd (no_vacant_key due table trace conv key stands is at)
        by (Some held) is =
            let there : found table conv ≡ live held = ap (found_by table.live) at ∙ ap found_at is in
            let P : Found (Held C) → Type 0 = StandsIn standing awaited number made_due answers due conv trace in
            let w : IsLive standing awaited number made_due answers due conv held trace = subst P there (stands.at conv) in
            record {
              held = held;
              is = is;
              sound = (w.within.made, calls_of conv trace, w.within.given, w.within.stands);
              named = w.within.named;
              settled = w.settled;
            }

    module _ (ended : C → Bool) (ends : (made state : C) (moves : List Move) (given : List Command) → standing made state moves given → ended state ≡ true →
        (more : List Move) (view : View) → seen_of view (made_due made (moves ++ more)) ≡ seen_of view (made_due made moves))
        (rests : (made state : C) (moves : List Move) (given : List Command) → standing made state moves given → ended state ≡ true → awaited state ≡ None) where
      named_at : (due : Due) {course : Course S} {now : AnswererState S} (table : Conversations C) (trace : Trace) (conv key : ℕ) (held : Held C) → TableStands standing awaited number made_due answers due course now table trace →
          place_of table conv ≡ Some (place.Live key) → slab.get table.live key ≡ Some held → number held.conversation ≡ conv
      named_at due table trace conv key held stands at is =
          let P : Found (Held C) → Type 0 = StandsIn standing awaited number made_due answers due conv trace in
          let w : IsLive standing awaited number made_due answers due conv held trace = subst P (ap (found_by table.live) at ∙ ap found_at is) (stands.at conv) in
          w.within.named

      pub hands_live : (conv moment key : ℕ) (what : News) (before after : Conversations C) {old new : AnswererState S} (over_now : Bool) (out new_out : List Step) →
          IsTabled standing awaited number made_due answers before → place_of before conv ≡ Some (place.Live key) →
          HearsAt standing awaited number made_due answers ended conv moment what key before after old new over_now out new_out →
          Hands standing awaited number made_due answers conv moment what before after old new out new_out
      hands_live conv moment key what before after over_now out new_out (due, course, now, trace, stands) at h =
          hands_of ended ends rests conv moment what before after h.held h.new_held out new_out (ap (found_by before.live) at ∙ ap found_at h.was) h.hears
          (inl (ap (found_by after.live) (h.places conv ∙ at) ∙ ap found_at h.live_now.changed))
          (λ other apart. same_found before.live after.live (place_of before other) (place_of after other) key (h.places other) h.live_now.others
          (apart_keys due before trace conv other key h.held stands h.was (named_at due before trace conv key h.held stands at h.was) apart))

      pub hands_ended : (conv moment key : ℕ) (what : News) (before between after : Conversations C) {old new : AnswererState S} (over_now : Bool) (out new_out : List Step) →
          IsTabled standing awaited number made_due answers before → place_of before conv ≡ Some (place.Live key) →
          HearsAt standing awaited number made_due answers ended conv moment what key before between old new over_now out new_out → over_now ≡ true →
          slab.Updates between.live after.live key None → after.flows ≡ between.flows → PutsPlace between after conv (Some place.Ended) →
          Hands standing awaited number made_due answers conv moment what before after old new out new_out
      hands_ended conv moment key what before between after {old} {new} over_now out new_out (due, course, now, trace, stands) at h is_over_now removed same_flows noted =
          let F : Flows → Type 0 = λ f. Hears standing awaited number made_due answers conv moment what h.held h.new_held before.flows f old new out new_out in
          hands_of ended ends rests conv moment what before after h.held h.new_held out new_out (ap (found_by before.live) at ∙ ap found_at h.was) (subst F (sym same_flows) h.hears)
          (inr (ap (found_by after.live) noted.here, sym h.ends ∙ is_over_now))
          (λ other apart. same_found before.live after.live (place_of before other) (place_of after other) key
          (noted.others other apart ∙ h.places other)
          (λ k k_apart. removed.others k k_apart ∙ h.live_now.others k k_apart)
          (apart_keys due before trace conv other key h.held stands h.was (named_at due before trace conv key h.held stands at h.was) apart))

      pub admits_added : (conv moment key : ℕ) (conversation : C) (before after : Conversations C) (held new_held : Held C) (mid : Flows) {old new : AnswererState S} (out new_out : List Step) →
          IsTabled standing awaited number made_due answers before → is_some (place_of before conv) ≡ false →
          held.conversation ≡ conversation → held.connected ≡ [] → held.draft ≡ None → held.marks ≡ [] → awaited conversation ≡ None → standing conversation conversation [] [] →
          Takes standing awaited number made_due answers conv moment (Took moment events.Begun) (dial_of (awaited held.conversation)) (has held.connected) held new_held before.flows mid old new out new_out → after.flows ≡ mid →
          slab.Updates before.live after.live key (Some new_held) → slab.get before.live key ≡ None → PutsPlace before after conv (Some (place.Live key)) →
          Admits standing awaited number made_due answers conv moment conversation before after old new out new_out
      admits_added conv moment key conversation before after held new_held mid {old} {new} out new_out (due, course, now, trace, stands) unknown_here same sides no_draft no_marks free fresh t same_flows added vacant noted =
          let F : Flows → Type 0 = λ f. Takes standing awaited number made_due answers conv moment (Took moment events.Begun) (dial_of (awaited held.conversation)) (has held.connected) held new_held before.flows f old new out new_out in
          admits_of ended ends rests conv moment conversation before after held new_held out new_out (ap (found_by before.live) (unplaced (place_of before conv) unknown_here)) same no_draft no_marks free fresh
          (first_takes conv moment conversation held new_held before.flows after.flows out new_out same sides free (subst F (sym same_flows) t))
          (inl (ap (found_by after.live) noted.here ∙ ap found_at added.changed))
          (λ other apart. same_found before.live after.live (place_of before other) (place_of after other) key (noted.others other apart) added.others
          (no_vacant_key due before trace other key stands vacant))

      pub admits_ended : (conv moment : ℕ) (conversation : C) (before after : Conversations C) (held new_held : Held C) (mid : Flows) {old new : AnswererState S} (out new_out : List Step) → is_some (place_of before conv) ≡ false →
          held.conversation ≡ conversation → held.connected ≡ [] → held.draft ≡ None → held.marks ≡ [] → awaited conversation ≡ None → standing conversation conversation [] [] →
          Takes standing awaited number made_due answers conv moment (Took moment events.Begun) (dial_of (awaited held.conversation)) (has held.connected) held new_held before.flows mid old new out new_out → after.flows ≡ mid →
          ended new_held.conversation ≡ true → after.live ≡ before.live → PutsPlace before after conv (Some place.Ended) →
          Admits standing awaited number made_due answers conv moment conversation before after old new out new_out
      admits_ended conv moment conversation before after held new_held mid {old} {new} out new_out unknown_here same sides no_draft no_marks free fresh t same_flows is_over_now kept noted =
          let F : Flows → Type 0 = λ f. Takes standing awaited number made_due answers conv moment (Took moment events.Begun) (dial_of (awaited held.conversation)) (has held.connected) held new_held before.flows f old new out new_out in
          admits_of ended ends rests conv moment conversation before after held new_held out new_out (ap (found_by before.live) (unplaced (place_of before conv) unknown_here)) same no_draft no_marks free fresh
          (first_takes conv moment conversation held new_held before.flows after.flows out new_out same sides free (subst F (sym same_flows) t))
          (inr (ap (found_by after.live) noted.here, is_over_now))
          (λ other apart. ap (λ l. found_by l (place_of after other)) kept ∙ ap (found_by before.live) (noted.others other apart))
