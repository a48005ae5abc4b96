-- No hook of a flow is asked behind the flow's end.
use Rattle.std.proofs.Common.{◌≡◌, ℕ, ◌+◌, ◌<◌, Bool, true, List, [], ◌∷◌, ◌++◌, inl, inr, refl, ap, sym, ◌∙◌, subst, arith, nat_lt, lt-ltb}
use Rattle.std.specs.Prelude.{◌==◌}
use Rattle.std.proofs.lemmas.Bool.{ltb-true, eqb-true, eq-eqb}
use Rattle.px_message.specs.declared.flow.Flow.{Flow}
use Rattle.px_message.specs.declared.flow.FlowId.{FlowId}
use Rattle.px_event.specs.declared.ask.Ask.TheVariants as asks
use Rattle.px_event.specs.declared.command.Command.{Command}
use Rattle.px_event.specs.declared.command.Command.TheVariants as commands
use Rattle.px_event.specs.declared.reply.Reply.{Reply}
use Rattle.px_event.specs.Chain.{Timed, Look, NotYet, Asks, Ends, found_with}
use Rattle.px_event.specs.Layer.{Move}
use Rattle.px_event.specs.Stands.{due_by, events_in, replies_in}
use Rattle.px_core.specs.Ordered.{AsksNoneOf, EndsOneOf, AsksBeforeEnds, LeavesBehind, LeavesNone, LeavesFlows}
use Rattle.px_core.proofs.LeavingLemmas.{leaving_ordered}
use Rattle.px_exchange.specs.declared.terms.Terms.{Terms}
use Rattle.px_chain.specs.Chain.{begin, behind, http_chain, look, pass, sequence, so_far, turn}
use Rattle.px_chain.specs.Sights.{Sight, Standing, sight_over}
use Rattle.px_exchange.specs.Finds.{or_leaves}
use Rattle.px_chain.specs.Left.{doing_left, stage_left}
use Rattle.px_chain.proofs.Quiet.{AllQuiet, EndsNone, IsAskOf, IsBehind, IsOf, LooksQuiet, no_flow}
use Rattle.px_chain.specs.Stages.{At, Doing, Stage, busy, coming_down, connection, given_body, given_head, idle, next, over, place_of, request_body, response_body, response_head, upgraded}
use Rattle.px_chain.proofs.QuietLemmas.{IsGoing, behind_quiet, looks_quiet, pass_led, so_far_quiet, turn_led}

-- ---- the tests

-- the flow of a stage has the index that the stage counts
abbrev pub is_counted : Stage → Bool
is_counted (idle at) = true
is_counted (busy at flow doing) = flow.id.index == at.flow
is_counted (next at) = true
is_counted over = true

-- a stage is past the flows before its own, and the end past all
abbrev pub is_past : Stage → ℕ → Bool
is_past (idle at) index = nat_lt index at.flow
is_past (busy at flow doing) index = nat_lt index at.flow
is_past (next at) index = nat_lt index at.flow
is_past over index = true

-- the same of places
abbrev pub is_counted_at : Standing → Bool
is_counted_at place = is_counted place.stage

abbrev pub is_past_at : Standing → ℕ → Bool
is_past_at place index = is_past place.stage index

abbrev HasIndex : ℕ → FlowId → Type 0
HasIndex here id = id.index ≡ here

-- ---- lists

none_behind : (index : ℕ) (said rest : List Command) → AllQuiet no_flow said → AsksNoneOf index rest → AsksNoneOf index (said ++ rest)
none_behind index [] rest quiet none = none
none_behind index (commands.Send side bytes ∷ said) rest (here, quiet) none = none_behind index said rest quiet none
none_behind index (commands.Close side ∷ said) rest (here, quiet) none = none_behind index said rest quiet none
none_behind index (commands.Dial server address inside ∷ said) rest (here, quiet) none = absurd here
none_behind index (commands.Ask ask flow ∷ said) rest (here, quiet) none = absurd here
none_behind index (commands.Done flow ∷ said) rest (here, quiet) none = absurd here

ordered_behind : (said rest : List Command) → AllQuiet no_flow said → AsksBeforeEnds rest → AsksBeforeEnds (said ++ rest)
ordered_behind [] rest quiet ordered = ordered
ordered_behind (commands.Send side bytes ∷ said) rest (here, quiet) ordered = ordered_behind said rest quiet ordered
ordered_behind (commands.Close side ∷ said) rest (here, quiet) ordered = ordered_behind said rest quiet ordered
ordered_behind (commands.Dial server address inside ∷ said) rest (here, quiet) ordered = absurd here
ordered_behind (commands.Ask ask flow ∷ said) rest (here, quiet) ordered = absurd here
ordered_behind (commands.Done flow ∷ said) rest (here, quiet) ordered = absurd here

ends_behind : (index : ℕ) (said rest : List Command) → AllQuiet no_flow said → EndsOneOf index (said ++ rest) → EndsOneOf index rest
ends_behind index [] rest quiet ends = ends
ends_behind index (commands.Send side bytes ∷ said) rest (here, quiet) ends = ends_behind index said rest quiet ends
ends_behind index (commands.Close side ∷ said) rest (here, quiet) ends = ends_behind index said rest quiet ends
ends_behind index (commands.Dial server address inside ∷ said) rest (here, quiet) ends = absurd here
ends_behind index (commands.Ask ask flow ∷ said) rest (here, quiet) ends = absurd here
ends_behind index (commands.Done flow ∷ said) rest (here, quiet) ends = absurd here

-- what is quiet asks about no flow
quiet_none : (names : FlowId → Type 0) (index : ℕ) (owed : List Command) → AllQuiet names owed → AsksNoneOf index owed
quiet_none names index [] quiet = tt
quiet_none names index (commands.Send side bytes ∷ owed) (here, quiet) = quiet_none names index owed quiet
quiet_none names index (commands.Close side ∷ owed) (here, quiet) = quiet_none names index owed quiet
quiet_none names index (commands.Dial server address inside ∷ owed) (here, quiet) = absurd here
quiet_none names index (commands.Ask ask flow ∷ owed) (here, quiet) = absurd here
quiet_none names index (commands.Done flow ∷ owed) (here, quiet) = quiet_none names index owed quiet

quiet_ordered : (names : FlowId → Type 0) (owed : List Command) → AllQuiet names owed → AsksBeforeEnds owed
quiet_ordered names [] quiet = tt
quiet_ordered names (commands.Send side bytes ∷ owed) (here, quiet) = quiet_ordered names owed quiet
quiet_ordered names (commands.Close side ∷ owed) (here, quiet) = quiet_ordered names owed quiet
quiet_ordered names (commands.Dial server address inside ∷ owed) (here, quiet) = absurd here
quiet_ordered names (commands.Ask ask flow ∷ owed) (here, quiet) = absurd here
quiet_ordered names (commands.Done flow ∷ owed) (here, quiet) = (quiet_none names flow.id.index owed quiet, quiet_ordered names owed quiet)

-- the flow that it ends is the one that it names
quiet_ends : (here index : ℕ) (owed : List Command) → AllQuiet (HasIndex here) owed → EndsOneOf index owed → index ≡ here
quiet_ends here index [] quiet ends = absurd ends
quiet_ends here index (commands.Send side bytes ∷ owed) (first, quiet) ends = quiet_ends here index owed quiet ends
quiet_ends here index (commands.Close side ∷ owed) (first, quiet) ends = quiet_ends here index owed quiet ends
quiet_ends here index (commands.Dial server address inside ∷ owed) (first, quiet) ends = absurd first
quiet_ends here index (commands.Ask ask flow ∷ owed) (first, quiet) ends = absurd first
quiet_ends here index (commands.Done flow ∷ owed) (first, quiet) (inl is) = sym is ∙ first
quiet_ends here index (commands.Done flow ∷ owed) (first, quiet) (inr ends) = quiet_ends here index owed quiet ends

no_ends : (index : ℕ) (owed : List Command) → AllQuiet no_flow owed → EndsOneOf index owed → ⊥
no_ends index [] quiet ends = ends
no_ends index (commands.Send side bytes ∷ owed) (first, quiet) ends = no_ends index owed quiet ends
no_ends index (commands.Close side ∷ owed) (first, quiet) ends = no_ends index owed quiet ends
no_ends index (commands.Dial server address inside ∷ owed) (first, quiet) ends = first
no_ends index (commands.Ask ask flow ∷ owed) (first, quiet) ends = first
no_ends index (commands.Done flow ∷ owed) (first, quiet) ends = first

-- ---- behind an ask

apart : (own index here : ℕ) → own ≡ here → index < here → own ≡ index → ⊥
apart own index here is less same = omega arith

ask_none : (index here : ℕ) (ask : Command) (owed : List Command) → IsAskOf (HasIndex here) ask → index < here → AsksNoneOf index owed → AsksNoneOf index (ask ∷ owed)
ask_none index here (commands.Send side bytes) owed is less none = absurd is
ask_none index here (commands.Close side) owed is less none = absurd is
ask_none index here (commands.Dial server address inside) owed is less none = none
ask_none index here (commands.Ask (asks.Hook number hook) flow) owed is less none = (apart number index here (is.1 ∙ is.0) less, none)
ask_none index here (commands.Ask (asks.Dial server) flow) owed is less none = absurd is
ask_none index here (commands.Done flow) owed is less none = absurd is

ask_ordered : (here : ℕ) (ask : Command) (owed : List Command) → IsAskOf (HasIndex here) ask → AsksBeforeEnds owed → AsksBeforeEnds (ask ∷ owed)
ask_ordered here (commands.Send side bytes) owed is ordered = absurd is
ask_ordered here (commands.Close side) owed is ordered = absurd is
ask_ordered here (commands.Dial server address inside) owed is ordered = ordered
ask_ordered here (commands.Ask ask flow) owed is ordered = ordered
ask_ordered here (commands.Done flow) owed is ordered = absurd is

ask_ends : (index here : ℕ) (ask : Command) (owed : List Command) → IsAskOf (HasIndex here) ask → EndsOneOf index (ask ∷ owed) → EndsOneOf index owed
ask_ends index here (commands.Send side bytes) owed is ends = absurd is
ask_ends index here (commands.Close side) owed is ends = absurd is
ask_ends index here (commands.Dial server address inside) owed is ends = ends
ask_ends index here (commands.Ask ask flow) owed is ends = ends
ask_ends index here (commands.Done flow) owed is ends = absurd is

-- ---- where a reply leads

record LeadsPast (here : ℕ) (owed : List Command) (stage : Stage) : Type 0 where
  counted : is_counted stage ≡ true
  later : (index : ℕ) → nat_lt index here ≡ true → is_past stage index ≡ true
  ends : (index : ℕ) → EndsOneOf index owed → is_past stage index ≡ true

module _ (here : ℕ) (owed : List Command) where
  -- within the flow
  counted_by : (own flow : ℕ) → own ≡ here → flow ≡ here → (own == flow) ≡ true
  counted_by own flow is same = eq-eqb own flow (is ∙ sym same)

  later_by : (flow index : ℕ) → flow ≡ here → nat_lt index here ≡ true → nat_lt index flow ≡ true
  later_by flow index same less = ap (λ n. nat_lt index n) same ∙ less

  -- behind it
  behind_by : (flow index : ℕ) → flow ≡ here + 1 → nat_lt index here ≡ true → nat_lt index flow ≡ true
  behind_by flow index same less = let below = ltb-true index here less in lt-ltb index flow (omega arith)

  ended_by : (flow index : ℕ) → flow ≡ here + 1 → index ≡ here → nat_lt index flow ≡ true
  ended_by flow index same is = lt-ltb index flow (omega arith)

  module _ (terms : Terms) (dials count : ℕ) (quiet : AllQuiet (HasIndex here) owed) where
    -- the flow goes on
    goes_on : (at : At) (flow : Flow) (doing : Doing) → at.flow ≡ here → flow.id.index ≡ here → AllQuiet no_flow owed → LeadsPast here owed (busy at flow doing)
    goes_on at flow doing same is none = record {
      counted = counted_by flow.id.index at.flow is same;
      later = λ index less. later_by at.flow index same less;
      ends = λ index ends. absurd (no_ends index owed none ends);
    }

    leads_past : (stage : Stage) → IsBehind here dials count stage → IsOf terms (HasIndex here) stage → EndsNone stage owed → LeadsPast here owed (sequence stage)
    leads_past (idle at) behind is none = absurd behind
    leads_past (busy at flow (request_body given most)) behind is none = goes_on at flow (request_body given most) behind.0.0 is none
    leads_past (busy at flow (connection how)) behind is none = goes_on at flow (connection how) behind.0.0 is none
    leads_past (busy at flow (response_head side how)) behind is none = goes_on at flow (response_head side how) behind.0.0 is none
    leads_past (busy at flow (response_body side how most)) behind is none = goes_on at flow (response_body side how most) behind.0.0 is none
    leads_past (busy at flow (coming_down side how)) behind is none = goes_on at flow (coming_down side how) behind.0.0 is none
    leads_past (busy at flow (upgraded side)) behind is none = goes_on at flow (upgraded side) behind.0.0 is none
    leads_past (busy at flow given_head) behind is none = goes_on at flow given_head behind.0.0 is none
    leads_past (busy at flow given_body) behind is none = goes_on at flow given_body behind.0.0 is none
    leads_past (next at) behind is none = record {
      counted = refl;
      later = λ index less. behind_by at.flow index behind.0.0 less;
      ends = λ index ends. ended_by at.flow index behind.0.0 (quiet_ends here index owed quiet ends);
    }
    leads_past over behind is none = record { counted = refl; later = λ index less. refl; ends = λ index ends. refl }

-- ---- the chain

module _ (terms : Terms) where
  abbrev Leaves : Stage → List Command → Stage → Type 0
  Leaves = LeavesBehind is_counted is_past

  asked_leaves : (stage : Stage) (seen : Sight) (ask : Command) (reply : Timed Reply) → IsGoing stage →
      ((index : ℕ) → is_past stage index ≡ nat_lt index (place_of stage).flow) → IsOf terms (HasIndex (place_of stage).flow) stage → look terms stage seen ≡ Asks ask →
      Leaves stage (so_far terms stage seen ++ ask ∷ (behind stage seen ++ (turn terms stage seen reply).owed)) (sequence (turn terms stage seen reply).stage)
  asked_leaves stage seen ask reply goes past is asked =
      let here : ℕ = (place_of stage).flow in
      let owed : List Command = (turn terms stage seen reply).owed in
      let led = turn_led terms (HasIndex here) stage seen reply goes is in
      let on = leads_past here owed terms (place_of stage).dials (stage_left stage) led.quiet (turn terms stage seen reply).stage led.behind led.is_of led.ends_none in
      let said : AllQuiet no_flow (so_far terms stage seen) = so_far_quiet no_flow terms stage seen in
      let shut : AllQuiet no_flow (behind stage seen) = behind_quiet no_flow stage seen in
      let longer : List Command = behind stage seen ++ owed in
      let P : Look Command → Type 0 = LooksQuiet (HasIndex here) in
      let asks_own : IsAskOf (HasIndex here) ask = subst P asked (looks_quiet (HasIndex here) terms stage seen is) in
      record {
        ordered = ordered_behind (so_far terms stage seen) (ask ∷ longer) said
            (ask_ordered here ask longer asks_own (ordered_behind (behind stage seen) owed shut (quiet_ordered (HasIndex here) owed led.quiet)));
        asks_none = λ index before. none_behind index (so_far terms stage seen) (ask ∷ longer) said
            (ask_none index here ask longer asks_own (ltb-true index here (sym (past index) ∙ before))
            (none_behind index (behind stage seen) owed shut (quiet_none (HasIndex here) index owed led.quiet)));
        ends = λ index ends. on.ends index
            (ends_behind index (behind stage seen) owed shut (ask_ends index here ask longer asks_own (ends_behind index (so_far terms stage seen) (ask ∷ longer) said ends)));
        keeps = λ index before. on.later index (sym (past index) ∙ before);
        leads = on.counted;
      }

  no_ask : (closed : Bool) (ask : Command) → or_leaves closed [] (Ends []) ≡ Asks ask → ⊥
  no_ask closed ask is = let e : Ends [] ≡ Asks ask = is in cc

  turns : (stage : Stage) (seen : Sight) (ask : Command) → is_counted stage ≡ true → look terms stage seen ≡ Asks ask → (reply : Timed Reply) →
      Leaves stage (so_far terms stage seen ++ ask ∷ (behind stage seen ++ (turn terms stage seen reply).owed)) (sequence (turn terms stage seen reply).stage)
  turns (idle at) seen ask is asked reply = asked_leaves (idle at) seen ask reply tt (λ index. refl) refl asked
  turns (busy at flow doing) seen ask is asked reply = asked_leaves (busy at flow doing) seen ask reply tt (λ index. refl) (eqb-true flow.id.index at.flow is) asked
  turns (next at) seen ask is asked reply = absurd (no_ask seen.closed ask asked)
  turns over seen ask is asked reply = absurd (no_ask seen.closed ask asked)

  -- where it stops
  stops_by : (here : ℕ) (shut : List Command) (l : Look Command) → AllQuiet no_flow shut → LooksQuiet (HasIndex here) l →
      AsksBeforeEnds (found_with shut l) × ((index : ℕ) → index < here → AsksNoneOf index (found_with shut l))
  stops_by here shut NotYet quiet is = (tt, λ index less. tt)
  stops_by here shut (Asks ask) quiet is =
      (ask_ordered here ask shut is (quiet_ordered no_flow shut quiet), λ index less. ask_none index here ask shut is less (quiet_none no_flow index shut quiet))
  stops_by here shut (Ends owed) quiet is = (quiet_ordered (HasIndex here) owed is, λ index less. quiet_none (HasIndex here) index owed is)

  stops_there : (stage : Stage) (seen : Sight) → ((index : ℕ) → is_past stage index ≡ nat_lt index (place_of stage).flow) →
      IsOf terms (HasIndex (place_of stage).flow) stage → LeavesNone is_past stage (so_far terms stage seen ++ found_with (behind stage seen) (look terms stage seen))
  stops_there stage seen past is =
      let here : ℕ = (place_of stage).flow in
      let both = stops_by here (behind stage seen) (look terms stage seen) (behind_quiet no_flow stage seen) (looks_quiet (HasIndex here) terms stage seen is) in
      record {
        ordered = ordered_behind (so_far terms stage seen) _ (so_far_quiet no_flow terms stage seen) both.0;
        asks_none = λ index before. none_behind index (so_far terms stage seen) _ (so_far_quiet no_flow terms stage seen)
            (both.1 index (ltb-true index here (sym (past index) ∙ before)));
      }

  stops : (stage : Stage) (seen : Sight) → is_counted stage ≡ true → LeavesNone is_past stage (so_far terms stage seen ++ found_with (behind stage seen) (look terms stage seen))
  stops (idle at) seen is = stops_there (idle at) seen (λ index. refl) refl
  stops (busy at flow doing) seen is = stops_there (busy at flow doing) seen (λ index. refl) (eqb-true flow.id.index at.flow is)
  stops (next at) seen is = stops_there (next at) seen (λ index. refl) tt
  stops over seen is = record { ordered = tt; asks_none = λ index before. tt }

  -- where it passes
  stays : (stage : Stage) → is_counted (sequence stage) ≡ true → ((index : ℕ) → is_past stage index ≡ true → is_past (sequence stage) index ≡ true) → Leaves stage [] (sequence stage)
  stays stage is keeps = record { ordered = tt; asks_none = λ index before. tt; ends = λ index ends. absurd ends; keeps = keeps; leads = is }

  passes : (stage : Stage) (seen : Sight) → is_counted stage ≡ true → Leaves stage (pass terms stage seen).owed (sequence (pass terms stage seen).stage)
  passes (idle at) seen is = stays (idle at) is (λ index before. before)
  passes (busy at flow doing) seen is =
      let there = pass terms (busy at flow doing) seen in
      let led = pass_led terms (HasIndex at.flow) at flow doing seen (eqb-true flow.id.index at.flow is) in
      let on = leads_past at.flow there.owed terms at.dials (doing_left doing + 1) led.quiet there.stage led.behind led.is_of led.ends_none in
      record {
        ordered = quiet_ordered (HasIndex at.flow) there.owed led.quiet;
        asks_none = λ index before. quiet_none (HasIndex at.flow) index there.owed led.quiet;
        ends = on.ends;
        keeps = λ index before. on.later index before;
        leads = on.counted;
      }
  passes (next at) seen is = stays (next at) refl (λ index before. before)
  passes over seen is = stays over is (λ index before. before)

  -- from stages to places
  at_places : (place other : Standing) (owed : List Command) → Leaves place.stage owed other.stage → LeavesBehind is_counted_at is_past_at place owed other
  at_places place other owed leaves =
      record { ordered = leaves.ordered; asks_none = leaves.asks_none; ends = leaves.ends; keeps = leaves.keeps; leads = leaves.leads }

  stops_at : (place : Standing) (owed : List Command) → LeavesNone is_past place.stage owed → LeavesNone is_past_at place owed
  stops_at place owed leaves = record { ordered = leaves.ordered; asks_none = leaves.asks_none }

  -- Flows in sequence leave their flows behind.
  pub leaves_flows : LeavesFlows (http_chain sequence terms) is_counted_at is_past_at
  leaves_flows = record {
    passes = λ place prefix is. at_places place _ _ (passes place.stage (sight_over place prefix) is);
    turns = λ place prefix ask is asked reply. at_places place _ _ (turns place.stage (sight_over place prefix) ask is asked reply);
    stops = λ place prefix is. stops_at place _ (stops place.stage (sight_over place prefix) is);
  }

  -- What is due of them asks no hook of a flow behind its end.
  pub ordered_from : (at : At) (moves : List Move) → AsksBeforeEnds (due_by (http_chain sequence terms) (begin (idle at)) moves)
  ordered_from at moves = leaving_ordered (http_chain sequence terms) is_counted_at is_past_at leaves_flows (begin (idle at)) refl (events_in 1 moves) (replies_in 1 moves)
