-- No hook of a flow that is sent again is asked behind the flow's end: behind it nothing is asked any more.
use Rattle.std.proofs.Common.{◌≡◌, ℕ, Bool, true, false, List, [], ◌∷◌, Option, Some, None, refl, sym, ◌∙◌, subst}
use Rattle.px_message.specs.declared.address.Address.{Address}
use Rattle.px_message.specs.declared.flow.Flow.{Flow}
use Rattle.px_message.specs.declared.request.Request.{Request}
use Rattle.px_event.specs.declared.ask.Hook.TheVariants.{RequestHead, RequestBody}
use Rattle.px_event.specs.declared.command.Command.{Command}
use Rattle.px_event.specs.declared.command.Command.TheVariants as commands
use Rattle.px_event.specs.declared.event.Event.{Event}
use Rattle.px_event.specs.declared.reply.Reply.{Reply}
use Rattle.px_event.specs.Chain.{Timed, Look, NotYet, Asks, Ends, Turn, found}
use Rattle.px_event.specs.Layer.{Move}
use Rattle.px_event.specs.Stands.{events_in, replies_in}
use Rattle.px_core.specs.Ordered.{AsksNoneOf, EndsOneOf, AsksBeforeEnds, LeavesBehind, LeavesNone, LeavesFlows}
use Rattle.px_core.proofs.LeavingLemmas.{leaving_ordered}
use Rattle.px_exchange.specs.declared.taken.Taken.{Taken}
use Rattle.px_exchange.specs.declared.taken.Taken.TheVariants.{GoesOn, Responds, Kills}
use Rattle.px_exchange.specs.declared.terms.Terms.{Terms}
use Rattle.px_exchange.specs.Flows.{ask_of}
use Rattle.px_exchange.specs.Replies.{taken_at_request_head, taken_at_request_body}
use Rattle.px_chain.specs.Chain.{look as look_of, pass as pass_of, sequence, turn as turn_of}
use Rattle.px_chain.specs.Keeping.{unspoilt_at}
use Rattle.px_chain.specs.Sights.{Sight, server_parked, sight_over}
use Rattle.px_chain.specs.Stages.{busy, idle, next}
use Rattle.px_chain.specs.Stages as flows
use Rattle.px_chain.proofs.Quiet.{AllQuiet, EndsNone, IsAskOf, LooksQuiet, any_flow, no_flow}
use Rattle.px_chain.proofs.QuietLemmas.{IsGoing, pass_led, pass_quiet, turn_led}
use Rattle.px_resend.specs.Chain.{Stage, asks_head, asks_whole, goes_on, look_by, over, pass, resend_chain, shut_parked, terms_by, turn_head, turn_whole, waiting}
use Rattle.px_resend.specs.Due.{resend_due}
use Rattle.px_resend.specs.Heard.{all_of_servers, to_servers}
use Rattle.px_resend.proofs.OwedLemmas.{IsBusy, asked_there, busy_goes, found_quiet, is_any, quiet_left, shut_quiet}

-- ---- the test

-- behind its flow a stage asks nothing
abbrev is_finished : flows.Stage → Bool
is_finished (busy at flow doing) = false
is_finished stage = true

abbrev is_past : Stage → ℕ → Bool
is_past (goes_on place) index = is_finished place.stage
is_past over index = true
is_past stage index = false

abbrev any_stage : Stage → Bool
any_stage stage = true

not_past : {A : Type 0} → false ≡ true → A
not_past is = absurd (let no : false ≡ true = is in cc)

-- ---- lists

none_asked : (index : ℕ) (owed : List Command) → AllQuiet any_flow owed → AsksNoneOf index owed
none_asked index [] quiet = tt
none_asked index (commands.Send side bytes ∷ owed) (here, quiet) = none_asked index owed quiet
none_asked index (commands.Close side ∷ owed) (here, quiet) = none_asked index owed quiet
none_asked index (commands.Dial server address inside ∷ owed) (here, quiet) = absurd here
none_asked index (commands.Ask ask flow ∷ owed) (here, quiet) = absurd here
none_asked index (commands.Done flow ∷ owed) (here, quiet) = none_asked index owed quiet

quiet_ordered : (owed : List Command) → AllQuiet any_flow owed → AsksBeforeEnds owed
quiet_ordered [] quiet = tt
quiet_ordered (commands.Send side bytes ∷ owed) (here, quiet) = quiet_ordered owed quiet
quiet_ordered (commands.Close side ∷ owed) (here, quiet) = quiet_ordered owed quiet
quiet_ordered (commands.Dial server address inside ∷ owed) (here, quiet) = absurd here
quiet_ordered (commands.Ask ask flow ∷ owed) (here, quiet) = absurd here
quiet_ordered (commands.Done flow ∷ owed) (here, quiet) = (none_asked flow.id.index owed quiet, quiet_ordered owed quiet)

none_ended : (index : ℕ) (owed : List Command) → AllQuiet no_flow owed → EndsOneOf index owed → ⊥
none_ended index [] quiet ends = ends
none_ended index (commands.Send side bytes ∷ owed) (here, quiet) ends = none_ended index owed quiet ends
none_ended index (commands.Close side ∷ owed) (here, quiet) ends = none_ended index owed quiet ends
none_ended index (commands.Dial server address inside ∷ owed) (here, quiet) ends = here
none_ended index (commands.Ask ask flow ∷ owed) (here, quiet) ends = here
none_ended index (commands.Done flow ∷ owed) (here, quiet) ends = here

ask_ordered : (ask : Command) (owed : List Command) → IsAskOf any_flow ask → AsksBeforeEnds owed → AsksBeforeEnds (ask ∷ owed)
ask_ordered (commands.Send side bytes) owed is ordered = absurd is
ask_ordered (commands.Close side) owed is ordered = absurd is
ask_ordered (commands.Dial server address inside) owed is ordered = ordered
ask_ordered (commands.Ask ask flow) owed is ordered = ordered
ask_ordered (commands.Done flow) owed is ordered = absurd is

ask_ends : (index : ℕ) (ask : Command) (owed : List Command) → IsAskOf any_flow ask → EndsOneOf index (ask ∷ owed) → EndsOneOf index owed
ask_ends index (commands.Send side bytes) owed is ends = absurd is
ask_ends index (commands.Close side) owed is ends = absurd is
ask_ends index (commands.Dial server address inside) owed is ends = ends
ask_ends index (commands.Ask ask flow) owed is ends = ends
ask_ends index (commands.Done flow) owed is ends = absurd is

found_ordered : (l : Look Command) → LooksQuiet any_flow l → AsksBeforeEnds (found l)
found_ordered NotYet quiet = tt
found_ordered (Asks ask) quiet = ask_ordered ask [] quiet tt
found_ordered (Ends owed) quiet = quiet_ordered owed quiet

-- ---- where a reply leads

-- it asks nothing at once, and leads past each flow that it ends
record Leads (turned : Turn Stage Command) : Type 0 where
  quiet : AllQuiet any_flow turned.owed
  ends : (index : ℕ) → EndsOneOf index turned.owed → is_past turned.stage index ≡ true

head_leads : (recorded : Request) (flow : Flow) (prefix : List (Timed Event)) (moment : ℕ) (taken : Taken Request) → Leads (turn_head recorded flow prefix moment taken)
head_leads recorded flow prefix moment (GoesOn request) = record { quiet = tt; ends = λ index ends. absurd ends }
head_leads recorded flow prefix moment (Responds response) = record { quiet = tt; ends = λ index ends. absurd ends }
head_leads recorded flow prefix moment Kills = record { quiet = (tt, tt); ends = λ index ends. refl }

whole_leads : (flow : Flow) (prefix : List (Timed Event)) (moment : ℕ) (taken : Taken Request) → Leads (turn_whole flow prefix moment taken)
whole_leads flow prefix moment (GoesOn request) = record { quiet = tt; ends = λ index ends. absurd ends }
whole_leads flow prefix moment (Responds response) = record { quiet = tt; ends = λ index ends. absurd ends }
whole_leads flow prefix moment Kills = record { quiet = (tt, tt); ends = λ index ends. refl }

ended_past : (index : ℕ) (stage : flows.Stage) (owed : List Command) → EndsNone stage owed → EndsOneOf index (to_servers owed) → is_finished (sequence stage) ≡ true
ended_past index (idle at) owed none ends = refl
ended_past index (busy at flow doing) owed none ends = absurd (none_ended index (to_servers owed) (quiet_left no_flow owed none) ends)
ended_past index (next at) owed none ends = refl
ended_past index flows.over owed none ends = refl

-- what is asked, and what its answer brings
led_by : (here : Stage) (ask : Command) (turned : Turn Stage Command) → ((index : ℕ) → is_past here index ≡ false) → IsAskOf any_flow ask → Leads turned →
    LeavesBehind any_stage is_past here (ask ∷ turned.owed) turned.stage
led_by here ask turned before is led = record {
  ordered = ask_ordered ask turned.owed is (quiet_ordered turned.owed led.quiet);
  asks_none = λ index past. not_past (sym (before index) ∙ past);
  ends = λ index ends. led.ends index (ask_ends index ask turned.owed is ends);
  keeps = λ index past. not_past (sym (before index) ∙ past);
  leads = refl;
}

-- ---- where its flow goes on

module _ (terms : Terms) (stage : flows.Stage) (seen : Sight) (ask : Command) (asked : look_by stage seen (look_of terms stage seen) ≡ Asks ask) where
  flow_asks : IsAskOf any_flow ask
  flow_asks = let P : Look Command → Type 0 = LooksQuiet any_flow in subst P asked (found_quiet terms stage seen)

  flow_waits : (stage : flows.Stage) → IsBusy stage → is_finished stage ≡ false
  flow_waits (idle at) is = absurd is
  flow_waits (busy at flow doing) is = refl
  flow_waits (next at) is = absurd is
  flow_waits flows.over is = absurd is

  flow_before : is_finished stage ≡ false
  flow_before = flow_waits stage (asked_there terms stage seen ask asked).0

  flow_goes : IsGoing stage
  flow_goes = busy_goes stage (asked_there terms stage seen ask asked).0

  flow_quiet : (reply : Timed Reply) → AllQuiet any_flow (to_servers (turn_of terms stage seen reply).owed)
  flow_quiet reply = quiet_left any_flow (turn_of terms stage seen reply).owed (turn_led terms any_flow stage seen reply flow_goes (is_any terms stage)).quiet

  flow_ends : (reply : Timed Reply) (index : ℕ) → EndsOneOf index (to_servers (turn_of terms stage seen reply).owed) → is_finished (sequence (turn_of terms stage seen reply).stage) ≡ true
  flow_ends reply index ends =
      ended_past index (turn_of terms stage seen reply).stage (turn_of terms stage seen reply).owed (turn_led terms any_flow stage seen reply flow_goes (is_any terms stage)).ends_none ends

-- where it passes
passed_quiet : (terms : Terms) (stage : flows.Stage) (seen : Sight) → AllQuiet any_flow (to_servers (pass_of terms stage seen).owed)
passed_quiet terms stage seen = quiet_left any_flow (pass_of terms stage seen).owed (pass_quiet terms any_flow stage seen (is_any terms stage))

passed_ends : (terms : Terms) (index : ℕ) (stage : flows.Stage) (seen : Sight) → EndsOneOf index (to_servers (pass_of terms stage seen).owed) →
    is_finished (sequence (pass_of terms stage seen).stage) ≡ true
passed_ends terms index (idle at) seen ends = refl
passed_ends terms index (busy at flow doing) seen ends =
    let there = pass_of terms (busy at flow doing) seen in ended_past index there.stage there.owed (pass_led terms any_flow at flow doing seen tt).ends_none ends
passed_ends terms index (next at) seen ends = refl
passed_ends terms index flows.over seen ends = refl

finished_passed : (terms : Terms) (stage : flows.Stage) (seen : Sight) → is_finished stage ≡ true → is_finished (sequence (pass_of terms stage seen).stage) ≡ true
finished_passed terms (idle at) seen is = refl
finished_passed terms (busy at flow doing) seen is = not_past is
finished_passed terms (next at) seen is = refl
finished_passed terms flows.over seen is = refl

-- behind its flow nothing is asked
finished_none : (terms : Terms) (index : ℕ) (stage : flows.Stage) (seen : Sight) → is_finished stage ≡ true → AsksNoneOf index (found (look_by stage seen (look_of terms stage seen)))
finished_none terms index (idle at) seen is = none_asked index (shut_parked at seen) (shut_quiet (server_parked (unspoilt_at at seen).parked seen))
finished_none terms index (busy at flow doing) seen is = not_past is
finished_none terms index (next at) seen is = tt
finished_none terms index flows.over seen is = tt

-- ---- the chain

module _ (terms : Terms) (recorded : Request) where
  abbrev Leaves : Stage → List Command → Stage → Type 0
  Leaves = LeavesBehind any_stage is_past

  leads_on : (here later : Stage) → ((index : ℕ) → is_past here index ≡ true → is_past later index ≡ true) → Leaves here [] later
  leads_on here later keeps = record { ordered = tt; asks_none = λ index past. tt; ends = λ index ends. absurd ends; keeps = keeps; leads = refl }

  passes : (stage : Stage) (prefix : List (Timed Event)) → Leaves stage (pass terms recorded stage prefix).owed (pass terms recorded stage prefix).stage
  passes waiting [] = leads_on waiting waiting (λ index past. past)
  passes waiting (event ∷ prefix) = leads_on waiting _ (λ index past. past)
  passes (asks_head flow) prefix = leads_on (asks_head flow) (asks_head flow) (λ index past. past)
  passes (asks_whole flow) prefix = leads_on (asks_whole flow) (asks_whole flow) (λ index past. past)
  passes (goes_on place) prefix =
      let seen : Sight = sight_over place (all_of_servers prefix) in
      let owed : List Command = to_servers (pass_of terms place.stage seen).owed in
      record {
        ordered = quiet_ordered owed (passed_quiet terms place.stage seen);
        asks_none = λ index past. none_asked index owed (passed_quiet terms place.stage seen);
        ends = λ index ends. passed_ends terms index place.stage seen ends;
        keeps = λ index past. finished_passed terms place.stage seen past;
        leads = refl;
      }
  passes over prefix = leads_on over over (λ index past. past)

  no_ask : {A : Type 0} (ask : Command) → NotYet ≡ Asks ask → A
  no_ask ask asked = absurd (let no : NotYet ≡ Asks ask = asked in cc)

  asks_own : (other ask : Command) → IsAskOf any_flow other → Asks other ≡ Asks ask → IsAskOf any_flow ask
  asks_own other ask is asked = let P : Look Command → Type 0 = LooksQuiet any_flow in subst P asked is

  turns : (stage : Stage) (prefix : List (Timed Event)) (ask : Command) (reply : Timed Reply) → (resend_chain terms recorded).look stage prefix ≡ Asks ask →
      Leaves stage (ask ∷ ((resend_chain terms recorded).turn stage prefix reply).owed) ((resend_chain terms recorded).turn stage prefix reply).stage
  turns waiting prefix ask reply asked = no_ask ask asked
  turns (asks_head flow) prefix ask reply asked =
      led_by (asks_head flow) ask _ (λ index. refl) (asks_own (ask_of flow RequestHead) ask (tt, refl) asked)
      (head_leads recorded flow (all_of_servers prefix) reply.moment (taken_at_request_head flow.request reply.value))
  turns (asks_whole flow) prefix ask reply asked =
      led_by (asks_whole flow) ask _ (λ index. refl) (asks_own (ask_of flow RequestBody) ask (tt, refl) asked)
      (whole_leads flow (all_of_servers prefix) reply.moment (taken_at_request_body flow.request reply.value))
  turns (goes_on place) prefix ask reply asked =
      let seen : Sight = sight_over place (all_of_servers prefix) in
      led_by (goes_on place) ask _ (λ index. flow_before terms place.stage seen ask asked) (flow_asks terms place.stage seen ask asked)
      (record { quiet = flow_quiet terms place.stage seen ask asked reply; ends = flow_ends terms place.stage seen ask asked reply })
  turns over prefix ask reply asked = absurd (let no : Ends [] ≡ Asks ask = asked in cc)

  stops : (stage : Stage) (prefix : List (Timed Event)) → LeavesNone is_past stage (found ((resend_chain terms recorded).look stage prefix))
  stops waiting prefix = record { ordered = tt; asks_none = λ index past. tt }
  stops (asks_head flow) prefix = record { ordered = tt; asks_none = λ index past. not_past past }
  stops (asks_whole flow) prefix = record { ordered = tt; asks_none = λ index past. not_past past }
  stops (goes_on place) prefix =
      let seen : Sight = sight_over place (all_of_servers prefix) in
      record { ordered = found_ordered _ (found_quiet terms place.stage seen); asks_none = λ index past. finished_none terms index place.stage seen past }
  stops over prefix = record { ordered = tt; asks_none = λ index past. tt }

  leaves_flow : LeavesFlows (resend_chain terms recorded) any_stage is_past
  leaves_flow = record {
    passes = λ stage prefix is. passes stage prefix;
    turns = λ stage prefix ask is asked reply. turns stage prefix ask reply asked;
    stops = λ stage prefix is. stops stage prefix;
  }

-- What is due asks no hook of a flow behind its end.
pub resend_ordered : (proxy : Option Address) (conv : ℕ) (request : Option Request) (moves : List Move) → AsksBeforeEnds (resend_due proxy conv request moves)
resend_ordered proxy conv None moves = tt
resend_ordered proxy conv (Some request) moves =
    let terms : Terms = terms_by conv proxy in
    leaving_ordered (resend_chain terms request) any_stage is_past (leaves_flow terms request) waiting refl (events_in 1 moves) (replies_in 1 moves)
