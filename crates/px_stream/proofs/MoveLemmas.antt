-- One move of a stream: what is asked by it is what is awaited, and how many answers are left.
use Rattle.std.proofs.Common.{◌≡◌, ℕ, ◌+◌, ◌<◌, ◌≤◌, Bool, true, false, List, [], ◌∷◌, ◌++◌, Option, Some, None, refl, ap, sym, ◌∙◌, subst, arith, option_to_list}
use Rattle.std.specs.List.{flat_map}
use Rattle.std.proofs.lemmas.List.{append-nil}
use Rattle.px_message.specs.declared.fault.Fault.{Fault}
use Rattle.px_message.specs.declared.flow.Flow.{Flow}
use Rattle.px_event.specs.declared.ask.Ask.{Ask}
use Rattle.px_event.specs.declared.ask.Ask.TheVariants as asking
use Rattle.px_event.specs.declared.command.Command.{Command}
use Rattle.px_event.specs.declared.command.Command.TheVariants as commands
use Rattle.px_event.specs.declared.event.Event.{Event}
use Rattle.px_event.specs.declared.reply.Reply.{Reply}
use Rattle.px_event.specs.Chain.{Timed, Look, NotYet, Asks, Ends, Turn, found_with}
use Rattle.px_event.specs.Laws.{owed_over}
use Rattle.px_event.specs.Layer.{asks_in}
use Rattle.px_event.specs.View.{questions, Atom, asked, dialled, seen_of}
use Rattle.px_event.proofs.Seen.{seen_append}
use Rattle.px_event.proofs.Steps.{Takes, onward, past_end, Resumes}
use Rattle.px_read.specs.Items.{Item, missing, part, complete, bad_head, bad_body}
use Rattle.px_read.specs.Reader.{State}
use Rattle.px_read.specs.declared.head.RequestHead.{RequestHead as ReadRequest}
use Rattle.px_read.specs.declared.head.ResponseHead.{ResponseHead as ReadResponse}
use Rattle.px_exchange.specs.declared.ending.Used.{Used}
use Rattle.px_exchange.specs.declared.terms.Terms.{Terms}
use Rattle.px_exchange.specs.Endings.{ends_early}
use Rattle.px_exchange.specs.Finds.{or_leaves}
use Rattle.px_write.specs.Error.{fault_message}
use Rattle.px_chain.specs.Chain.{Connect, bad_or, behind, come_down, connect_in, end_by, going_at, gone_by, http_chain, is_sequence, leaving, look, look_coming, look_up, pass, passed, past_gone, sequence, so_far, stands, turn}
use Rattle.px_chain.specs.Going.{whole_in}
use Rattle.px_chain.specs.Left.{behind_left, stage_left, stages_left}
use Rattle.px_chain.specs.Sights.{Sight, Standing, answers_in, request_in, server_in, sight_over}
use Rattle.px_chain.specs.Stages.{At, Doing, Sent, Stage, all_sent, busy, coming_down, connection, given_body, given_head, going_up, idle, next, over, place_of, request_body, response_body, response_head, upgraded}
use Rattle.px_chain.proofs.LeftLemmas.{passes_left, sequence_behind}
use Rattle.px_chain.proofs.Quiet.{AllQuiet, LooksQuiet, IsBehind, IsOf, any_flow}
use Rattle.px_chain.proofs.QuietLemmas.{IsGoing, behind_quiet, finds_quiet_end, pass_led, pass_quiet, so_far_quiet, turn_behind, turn_quiet}
use Rattle.px_stream.specs.declared.link.Link.{Link}
use Rattle.px_stream.specs.declared.phase.Phase.{Phase}
use Rattle.px_stream.specs.declared.phase.Phase.TheVariants as phase
use Rattle.px_stream.specs.declared.phase.Wanted.{Wanted}
use Rattle.px_stream.specs.declared.phase.Wanted.TheVariants as ready
use Rattle.px_stream.specs.declared.stream.Stream.{Stream}
use Rattle.px_stream.specs.Anywhere.{IsCounted, IsFew}
use Rattle.px_stream.specs.Stands.{HasPlace, IsAt, IsIn, IsLast, IsLastAt, IsLastFor, PhaseAt, awaited_in, awaits, stage_of}
use Rattle.px_stream.specs.Tells.{asked_left, left_by, sequence_left}
use Rattle.px_stream.proofs.AskLemmas.{ask_asked, left_asked}

-- ---- the asks among commands

abbrev pub ask_atoms : Atom → List Ask
ask_atoms (asked ask) = ask ∷ []
ask_atoms (dialled server address) = asking.Dial server ∷ []
ask_atoms _ = []

-- a view of questions has them all
pub asks_seen : (l : List Command) → flat_map asks_in l ≡ flat_map ask_atoms (seen_of questions l)
asks_seen [] = refl
asks_seen (commands.Send side bytes ∷ rest) = asks_seen rest
asks_seen (commands.Close side ∷ rest) = asks_seen rest
asks_seen (commands.Dial server address inside ∷ rest) = ap (λ l. asking.Dial server ∷ l) (asks_seen rest)
asks_seen (commands.Ask ask flow ∷ rest) = ap (λ l. ask ∷ l) (asks_seen rest)
asks_seen (commands.Done flow ∷ rest) = asks_seen rest

-- what is quiet asks nothing
pub quiet_seen : (l : List Command) → AllQuiet any_flow l → seen_of questions l ≡ []
quiet_seen [] all = refl
quiet_seen (commands.Send side bytes ∷ rest) (here, all) = quiet_seen rest all
quiet_seen (commands.Close side ∷ rest) (here, all) = quiet_seen rest all
quiet_seen (commands.Dial server address inside ∷ rest) (here, all) = absurd here
quiet_seen (commands.Ask ask flow ∷ rest) (here, all) = absurd here
quiet_seen (commands.Done flow ∷ rest) (here, all) = quiet_seen rest all

none_asked : (l : List Command) → AllQuiet any_flow l → flat_map asks_in l ≡ []
none_asked l all = asks_seen l ∙ ap (flat_map ask_atoms) (quiet_seen l all)

-- ---- what is asked is what is awaited

pub asks_by : (l : Look Command) (terms : Terms) (at : At) (requests : State) (side : Option Link) (is_now : Phase) (stage : Stage) (seen : Sight) → look terms stage seen ≡ l →
    PhaseAt l terms at requests side is_now stage seen → flat_map ask_atoms (seen_of questions (found_with (behind stage seen) l)) ≡ option_to_list (awaited_in is_now)
asks_by NotYet terms at requests side is_now stage seen is (looked, sent, same, there, gave, rests) = ap (λ p. option_to_list (awaited_in p)) (sym same)
asks_by (Asks ask) terms at requests side is_now stage seen is (here, same, there) =
    sym (asks_seen (ask ∷ behind stage seen))
    ∙ (ap (λ l. asks_in ask ++ l) (none_asked (behind stage seen) (behind_quiet any_flow stage seen))
    ∙ (append-nil (asks_in ask) ∙ (ask_asked terms stage seen here there.asks ask is ∙ ap (λ p. option_to_list (awaited_in p)) (sym same))))
asks_by (Ends owed) terms at requests side is_now stage seen is (last, same, there) =
    let P : Look Command → Type 0 = LooksQuiet any_flow in
    let quiet : AllQuiet any_flow owed = subst P is (finds_quiet_end terms stage seen) in
    ap (flat_map ask_atoms) (quiet_seen owed quiet) ∙ ap (λ p. option_to_list (awaited_in p)) (sym same)

-- any number is a stage's own
any_of : (terms : Terms) (stage : Stage) → IsOf terms any_flow stage
any_of terms (idle at) = tt
any_of terms (busy at flow doing) = tt
any_of terms (next at) = tt
any_of terms over = tt

-- passing asks nothing
pub pass_silent : (terms : Terms) (stage : Stage) (seen : Sight) → seen_of questions (pass terms stage seen).owed ≡ []
pass_silent terms stage seen = quiet_seen (pass terms stage seen).owed (pass_quiet terms any_flow stage seen (any_of terms stage))

-- the questions of what is owed over a prefix are those of what is found there
pub owes_questions : (terms : Terms) (place : Standing) (prefix : List (Timed Event)) →
    let there = passed sequence terms place (sight_over place prefix) in
    seen_of questions (owed_over (http_chain sequence terms) place prefix)
    ≡ seen_of questions (found_with (behind there.stage (sight_over there prefix)) (look terms there.stage (sight_over there prefix)))
owes_questions terms place prefix =
    let there : Standing = passed sequence terms place (sight_over place prefix) in
    let seen : Sight = sight_over there prefix in
    let found : List Command = found_with (behind there.stage seen) (look terms there.stage seen) in
    let owed : List Command = (pass terms place.stage (sight_over place prefix)).owed in
    seen_append questions owed (so_far terms there.stage seen ++ found)
    ∙ (ap (λ l. l ++ seen_of questions (so_far terms there.stage seen ++ found)) (pass_silent terms place.stage (sight_over place prefix))
    ∙ (seen_append questions (so_far terms there.stage seen) found
    ∙ ap (λ l. l ++ seen_of questions found) (quiet_seen (so_far terms there.stage seen) (so_far_quiet any_flow terms there.stage seen))))

module _ (made : Terms) (after : Stream) (moment : ℕ) (more : List Command) where
  -- what is asked behind an event
  pub takes_asks : (event : Event) (place : Standing) (prefix : List (Timed Event)) → Takes (http_chain sequence made) (IsAt made) after moment event more place prefix →
      flat_map asks_in more ≡ option_to_list (awaits after)
  takes_asks event place prefix (onward is at gives) =
      let further : List (Timed Event) = prefix ++ record { moment = moment; value = event } ∷ [] in
      let there : Standing = passed sequence made place (sight_over place further) in
      let seen : Sight = sight_over place prefix in
      asks_seen more
      ∙ (ap (λ l. flat_map ask_atoms (l ++ seen_of questions more)) (sym (quiet_seen (so_far made place.stage seen) (so_far_quiet any_flow made place.stage seen)))
      ∙ (ap (flat_map ask_atoms) (gives questions ∙ owes_questions made place further)
      ∙ asks_by (look made there.stage (sight_over there further)) made after.at after.requests after.side after.phase there.stage (sight_over there further) refl at.is_in.phase))
  takes_asks event place prefix (past_end owed is at gives) =
      let seen : Sight = sight_over place prefix in
      let P : Look Command → Type 0 = λ l. PhaseAt l made after.at after.requests after.side after.phase place.stage seen in
      let there : PhaseAt (Ends owed) made after.at after.requests after.side after.phase place.stage seen = subst P is at.is_in.phase in
      asks_seen more ∙ (ap (flat_map ask_atoms) (gives questions) ∙ ap (λ p. option_to_list (awaited_in p)) (sym there.1))

  -- and behind a reply
  pub resumes_asks : (reply : Reply) (place : Standing) (prefix : List (Timed Event)) → Resumes (http_chain sequence made) (IsAt made) after moment reply more place prefix →
      flat_map asks_in more ≡ option_to_list (awaits after)
  resumes_asks reply place prefix resumes =
      let answer : Timed Reply = record { moment = moment; value = reply } in
      let turned : Turn Stage Command = turn made place.stage (sight_over place prefix) answer in
      let further : Standing = stands made place moment prefix (sequence turned.stage) in
      let there : Standing = passed sequence made further (sight_over further prefix) in
      asks_seen more
      ∙ (ap (flat_map ask_atoms)
      (resumes.gives questions ∙ (seen_append questions turned.owed (owed_over (http_chain sequence made) further prefix)
      ∙ (ap (λ l. l ++ seen_of questions (owed_over (http_chain sequence made) further prefix))
      (quiet_seen turned.owed (turn_quiet made place.stage (sight_over place prefix) answer))
      ∙ owes_questions made further prefix)))
      ∙ asks_by (look made there.stage (sight_over there prefix)) made after.at after.requests after.side after.phase there.stage (sight_over there prefix) refl resumes.place.is_in.phase)

-- ---- few

module _ (ahead : ℕ) where
  -- where a reply or a passage leads from a flow of this number
  module _ (flow dials count : ℕ) (few : flow < 1000000) (early : 3 ≤ count → dials ≤ flow + ahead) (late : dials ≤ flow + (ahead + 1)) where
    few_behind : (stage : Stage) → IsBehind flow dials count stage → IsFew ahead stage
    few_behind (idle at) is = absurd is
    few_behind (busy at told (request_body given size)) ((same, most), more) = let l = early (omega arith) in record { few = omega arith; dials = omega arith }
    few_behind (busy at told (connection how)) ((same, most), more) = let l = early (omega arith) in record { few = omega arith; dials = omega arith }
    few_behind (busy at told (response_head side how)) ((same, most), more) = let l = early (omega arith) in record { few = omega arith; dials = omega arith }
    few_behind (busy at told (response_body side how size)) ((same, most), more) = record { few = omega arith; dials = omega arith }
    few_behind (busy at told (coming_down side how)) ((same, most), more) = record { few = omega arith; dials = omega arith }
    few_behind (busy at told (upgraded side)) ((same, most), more) = record { few = omega arith; dials = omega arith }
    few_behind (busy at told given_head) ((same, most), more) = record { few = omega arith; dials = omega arith }
    few_behind (busy at told given_body) ((same, most), more) = record { few = omega arith; dials = omega arith }
    few_behind (next at) ((same, most), less) = record { few = omega arith; dials = omega arith }
    few_behind over is = tt

  few_over : (there : Stage) → IsBehind 0 0 0 there → IsFew ahead there
  few_over there behind = few_behind 0 0 0 (omega arith) (λ (no : 3 ≤ 0). absurd (omega arith)) (omega arith) there behind

  -- the stage behind a reply is one of a few flows too
  few_turn : (stage there : Stage) → IsGoing stage → IsFew ahead stage → IsBehind (place_of stage).flow (place_of stage).dials (stage_left stage) there → IsFew ahead there
  few_turn (idle at) there goes is behind = let f = is.few in let d = is.dials in few_behind at.flow at.dials 5 f (λ _. d) (omega arith) there behind
  few_turn (busy at flow (request_body given most)) there goes is behind = let f = is.few in let d = is.dials in few_behind at.flow at.dials 4 f (λ _. d) (omega arith) there behind
  few_turn (busy at flow (connection how)) there goes is behind = let f = is.few in let d = is.dials in few_behind at.flow at.dials 3 f (λ _. d) (omega arith) there behind
  few_turn (busy at flow (response_head server how)) there goes is behind = few_behind at.flow at.dials 2 is.few (λ (no : 3 ≤ 2). absurd (omega arith)) is.dials there behind
  few_turn (busy at flow (response_body side how size)) there goes is behind = few_behind at.flow at.dials 1 is.few (λ (no : 3 ≤ 1). absurd (omega arith)) is.dials there behind
  few_turn (busy at flow (coming_down side how)) there goes is behind = few_behind at.flow at.dials 0 is.few (λ (no : 3 ≤ 0). absurd (omega arith)) is.dials there behind
  few_turn (busy at flow (upgraded side)) there goes is behind = few_behind at.flow at.dials 0 is.few (λ (no : 3 ≤ 0). absurd (omega arith)) is.dials there behind
  few_turn (busy at flow given_head) there goes is behind = few_behind at.flow at.dials 2 is.few (λ (no : 3 ≤ 2). absurd (omega arith)) is.dials there behind
  few_turn (busy at flow given_body) there goes is behind = few_behind at.flow at.dials 1 is.few (λ (no : 3 ≤ 1). absurd (omega arith)) is.dials there behind
  few_turn (next at) there goes is behind = absurd goes
  few_turn over there goes is behind = few_over there behind

  -- the next flow is one of them
  few_onward : (stage : Stage) → IsFew ahead stage → IsFew ahead (sequence stage)
  few_onward (idle at) is = is
  few_onward (busy at flow doing) is = is
  few_onward (next at) is = is
  few_onward over is = is

module _ (ahead : ℕ) (terms : Terms) where
  -- a request that goes up to its server is whole, or not
  head_few : (at : At) (flow : Flow) (server : ℕ) (how : Sent) (whole : Option ℕ) (seen : Sight) → IsCounted (ahead + 1) at →
      IsFew ahead (come_down terms (end_by (gone_by (going_at (response_head server how)) whole) terms.place at flow (response_head server how) seen).stage
      (past_gone (gone_by (going_at (response_head server how)) whole) seen)).stage
  head_few at flow server all_sent whole seen is = is
  head_few at flow server going_up None seen is = is
  head_few at flow server going_up (Some size) seen is = is

  -- passing stays with the flow, or ends it
  pass_flow : (at : At) (flow : Flow) (doing : Doing) (seen : Sight) → IsFew ahead (busy at flow doing) → IsFew ahead (pass terms (busy at flow doing) seen).stage
  pass_flow at flow (request_body given most) seen is =
      let d = is.dials in few_behind ahead at.flow at.dials 5 is.few (λ _. d) (omega arith) (pass terms (busy at flow (request_body given most)) seen).stage
      (pass_led terms any_flow at flow (request_body given most) seen tt).behind
  pass_flow at flow (connection how) seen is = is
  pass_flow at flow (response_head server how) seen is = head_few at flow server how (whole_in seen) seen is
  pass_flow at flow (response_body server how most) seen is =
      few_behind ahead at.flow at.dials 2 is.few (λ (no : 3 ≤ 2). absurd (omega arith)) is.dials (pass terms (busy at flow (response_body server how most)) seen).stage
      (pass_led terms any_flow at flow (response_body server how most) seen tt).behind
  pass_flow at flow (coming_down server how) seen is =
      few_behind ahead at.flow at.dials 1 is.few (λ (no : 3 ≤ 1). absurd (omega arith)) is.dials (pass terms (busy at flow (coming_down server how)) seen).stage
      (pass_led terms any_flow at flow (coming_down server how) seen tt).behind
  pass_flow at flow (upgraded server) seen is = is
  pass_flow at flow given_head seen is = is
  pass_flow at flow given_body seen is = is

  -- where it passes, it stays with the flow or the next one begins
  pub pass_few : (stage : Stage) (seen : Sight) → IsFew ahead stage → IsFew ahead (sequence (pass terms stage seen).stage)
  pass_few (idle at) seen is = is
  pass_few (busy at flow doing) seen is = few_onward ahead (pass terms (busy at flow doing) seen).stage (pass_flow at flow doing seen is)
  pass_few (next at) seen is = is
  pass_few over seen is = is

-- at the end nothing is asked
ends_go : (closed : Bool) (ask : Command) → or_leaves closed [] (Ends []) ≡ Asks ask → ⊥
ends_go true ask is = let no : Ends [] ≡ Asks ask = is in cc
ends_go false ask is = let no : Ends [] ≡ Asks ask = is in cc

pub goes_on : (terms : Terms) (stage : Stage) (seen : Sight) (ask : Command) → look terms stage seen ≡ Asks ask → IsGoing stage
goes_on terms (idle at) seen ask is = tt
goes_on terms (busy at flow doing) seen ask is = tt
goes_on terms (next at) seen ask is = absurd (ends_go seen.closed ask is)
goes_on terms over seen ask is = tt

module _ (ahead : ℕ) (terms : Terms) where
  -- an answer leads to one of a few flows
  pub turn_few : (stage : Stage) (seen : Sight) (answer : Timed Reply) (ask : Command) → look terms stage seen ≡ Asks ask → IsFew ahead stage → IsFew ahead (turn terms stage seen answer).stage
  turn_few stage seen answer ask is few =
      let goes = goes_on terms stage seen ask is in few_turn ahead stage (turn terms stage seen answer).stage goes few (turn_behind terms stage seen answer goes)

  -- and so does the next flow, also where it passes
  pub sequence_few : (stage : Stage) (seen later : Sight) (answer : Timed Reply) (ask : Command) → look terms stage seen ≡ Asks ask → IsFew ahead stage →
      IsFew ahead (sequence (pass terms (sequence (turn terms stage seen answer).stage) later).stage)
  sequence_few stage seen later answer ask is few =
      pass_few ahead terms (sequence (turn terms stage seen answer).stage) later (few_onward ahead (turn terms stage seen answer).stage (turn_few stage seen answer ask is few))

-- ---- left

never_waits : (closed : Bool) → or_leaves closed [] (Ends []) ≡ NotYet → ⊥
never_waits true is = let no : Ends [] ≡ NotYet = is in cc
never_waits false is = let no : Ends [] ≡ NotYet = is in cc

-- while something is looked for
ready_left : (terms : Terms) (at : At) (looked : Wanted) (seen : Sight) → look terms (stage_of at looked) seen ≡ NotYet → left_by at (phase.Ready looked) ≡ stages_left (stage_of at looked)
ready_left terms at ready.Idle seen waits = refl
ready_left terms at (ready.RequestBody flow given most body held) seen waits = refl
ready_left terms at (ready.Connection flow up) seen waits = refl
ready_left terms at (ready.ResponseHead flow server up) seen waits = refl
ready_left terms at (ready.ResponseBody flow server up most body held) seen waits = refl
ready_left terms at (ready.ComingDown flow server up sent) seen waits = refl
ready_left terms at (ready.Upgraded flow server) seen waits = absurd (never_waits seen.closed waits)
ready_left terms at (ready.GivenHead flow) seen waits = refl
ready_left terms at (ready.GivenBody flow) seen waits = refl
ready_left terms at (ready.Connects address) seen waits = refl
ready_left terms at ready.Over seen waits = refl

-- at an end nothing is left
none_at : (here : At) (connects : Option Connect) (at : At) (seen : Sight) (requests : State) (side : Option Link) (last : Wanted) → IsLastAt here connects seen requests side last → left_by at (phase.Ready last) ≡ 0
none_at here None at seen requests side last is = ap (λ l. left_by at (phase.Ready l)) is
none_at here (Some connects) at seen requests side last is = ap (λ l. left_by at (phase.Ready l)) is.phase

none_for : (flow : Flow) (doing : Doing) (at : At) (seen : Sight) (requests : State) (side : Option Link) (last : Wanted) → IsLastFor flow doing seen requests side last → left_by at (phase.Ready last) ≡ 0
none_for flow (request_body given most) at seen requests side last is = ap (λ l. left_by at (phase.Ready l)) is
none_for flow (connection how) at seen requests side last is = ap (λ l. left_by at (phase.Ready l)) is
none_for flow (response_head server how) at seen requests side last is = ap (λ l. left_by at (phase.Ready l)) is
none_for flow (response_body server how most) at seen requests side last is = ap (λ l. left_by at (phase.Ready l)) is
none_for flow (coming_down server how) at seen requests side last is = ap (λ l. left_by at (phase.Ready l)) is
none_for flow (upgraded server) at seen requests side last is = ap (λ l. left_by at (phase.Ready l)) is.phase
none_for flow given_head at seen requests side last is = ap (λ l. left_by at (phase.Ready l)) is
none_for flow given_body at seen requests side last is = ap (λ l. left_by at (phase.Ready l)) is

none_last : (terms : Terms) (stage : Stage) (at : At) (seen : Sight) (requests : State) (side : Option Link) (last : Wanted) → IsLast terms stage seen requests side last → left_by at (phase.Ready last) ≡ 0
none_last terms (idle here) at seen requests side last is = none_at here (connect_in terms.place (request_in seen)) at seen requests side last is
none_last terms (busy here flow doing) at seen requests side last is = none_for flow doing at seen requests side last is
none_last terms (next here) at seen requests side last is = ap (λ l. left_by at (phase.Ready l)) is
none_last terms over at seen requests side last is = ap (λ l. left_by at (phase.Ready l)) is

-- of a response that is streamed nothing is asked
coming_asks : (closed : Bool) (leaves : List Command) (flow : Flow) (item : Item ReadResponse) (moment : ℕ) (used : Used) (ask : Command) →
    or_leaves closed leaves (look_coming flow item moment used closed) ≡ Asks ask → ⊥
coming_asks true leaves flow missing moment used ask is = let no : Ends leaves ≡ Asks ask = is in cc
coming_asks false leaves flow missing moment used ask is = let no : NotYet ≡ Asks ask = is in cc
coming_asks true leaves flow (part head body) moment used ask is = let no : Ends leaves ≡ Asks ask = is in cc
coming_asks false leaves flow (part head body) moment used ask is = let no : NotYet ≡ Asks ask = is in cc
coming_asks true leaves flow (complete head body trailers size) moment used ask is = let no : Ends leaves ≡ Asks ask = is in cc
coming_asks false leaves flow (complete head body trailers size) moment used ask is = let no : NotYet ≡ Asks ask = is in cc
coming_asks true leaves flow (bad_head fault) moment used ask is = let no : Ends leaves ≡ Asks ask = is in cc
coming_asks false leaves flow (bad_head fault) moment used ask is = let no : NotYet ≡ Asks ask = is in cc
coming_asks closed leaves flow (bad_body fault head body) moment used ask is = let no : Ends (ends_early flow (fault_message fault) moment used closed) ≡ Asks ask = is in cc

-- nor of its request, which goes up
bad_asks : (closed : Bool) (leaves : List Command) (item : Item ReadRequest) (ends : Fault → List Command) (l : Look Command) (ask : Command) →
    (or_leaves closed leaves l ≡ Asks ask → ⊥) → or_leaves closed leaves (bad_or item ends l) ≡ Asks ask → ⊥
bad_asks closed leaves missing ends l ask none is = none is
bad_asks closed leaves (part head body) ends l ask none is = none is
bad_asks closed leaves (complete head body trailers size) ends l ask none is = none is
bad_asks closed leaves (bad_head fault) ends l ask none is = none is
bad_asks closed leaves (bad_body fault head body) ends l ask none is = let no : Ends (ends fault) ≡ Asks ask = is in cc

up_asks : (how : Sent) (closed : Bool) (leaves : List Command) (seen : Sight) (ends : Fault → List Command) (l : Look Command) (ask : Command) →
    (or_leaves closed leaves l ≡ Asks ask → ⊥) → or_leaves closed leaves (look_up how seen ends l) ≡ Asks ask → ⊥
up_asks all_sent closed leaves seen ends l ask none is = none is
up_asks going_up closed leaves seen ends l ask none is = bad_asks closed leaves (request_in seen) ends l ask none is

some_left : (terms : Terms) (stage : Stage) (seen : Sight) (ask : Command) → look terms stage seen ≡ Asks ask → 0 < stage_left stage
some_left terms (idle at) seen ask is = omega arith
some_left terms (busy at flow (request_body given most)) seen ask is = omega arith
some_left terms (busy at flow (connection how)) seen ask is = omega arith
some_left terms (busy at flow (response_head side how)) seen ask is = omega arith
some_left terms (busy at flow (response_body side how size)) seen ask is = omega arith
some_left terms (busy at flow (coming_down side how)) seen ask is =
    let leaves : List Command = leaving (busy at flow (coming_down side how)) seen in
    absurd (up_asks how seen.closed leaves seen _ _ ask (coming_asks seen.closed leaves flow (answers_in flow.request seen).final seen.now (server_in side seen) ask) is)
some_left terms (busy at flow (upgraded side)) seen ask is = absurd (ends_go seen.closed ask is)
some_left terms (busy at flow given_head) seen ask is = omega arith
some_left terms (busy at flow given_body) seen ask is = omega arith
some_left terms (next at) seen ask is = absurd (ends_go seen.closed ask is)
some_left terms over seen ask is = absurd (ends_go seen.closed ask is)

stages_are : (terms : Terms) (stage : Stage) (seen : Sight) (ask : Command) → look terms stage seen ≡ Asks ask → behind_left (place_of stage).flow + stage_left stage ≡ stages_left stage
stages_are terms (idle at) seen ask is = refl
stages_are terms (busy at flow doing) seen ask is = refl
stages_are terms (next at) seen ask is = absurd (ends_go seen.closed ask is)
stages_are terms over seen ask is = absurd (ends_go seen.closed ask is)

-- where a stage asks, its place counts
place_there : (terms : Terms) (stage : Stage) (seen : Sight) (ask : Command) (at : At) (closed : Bool) → look terms stage seen ≡ Asks ask → HasPlace stage seen at closed → at ≡ place_of stage
place_there terms (idle here) seen ask at closed is place = place.is_here
place_there terms (busy here flow doing) seen ask at closed is place = place.is_here
place_there terms (next here) seen ask at closed is place = place.is_here
place_there terms over seen ask at closed is place = absurd (ends_go seen.closed ask is)

-- Where it passes it can ask no more, also where the next flow begins.
pub pass_stages : (terms : Terms) (stage : Stage) (seen : Sight) → IsGoing stage → stages_left (sequence (pass terms stage seen).stage) ≤ stages_left stage
pass_stages terms (idle at) seen goes = omega arith
pass_stages terms (busy at flow doing) seen goes = passes_left terms at flow doing seen sequence (is_sequence refl)
pass_stages terms (next at) seen goes = absurd goes
pass_stages terms over seen goes = omega arith

-- in sequence no flow stays finished
pub sequence_goes : (stage : Stage) → IsGoing (sequence stage)
sequence_goes (idle at) = tt
sequence_goes (busy at flow doing) = tt
sequence_goes (next at) = tt
sequence_goes over = tt

-- nor does it wait there
pub waits_going : (terms : Terms) (stage : Stage) (seen : Sight) → look terms stage seen ≡ NotYet → IsGoing stage
waits_going terms (idle at) seen is = tt
waits_going terms (busy at flow doing) seen is = tt
waits_going terms (next at) seen is = absurd (never_waits seen.closed is)
waits_going terms over seen is = tt

module _ (made : Terms) (state : Stream) (stage : Stage) (seen : Sight) (there : IsIn made state stage seen) where
  abbrev Found : Look Command → Type 0
  Found l = PhaseAt l made state.at state.requests state.side state.phase stage seen

  -- while it waits or asks, as many are left as the stage has
  pub left_waits : look made stage seen ≡ NotYet → sequence_left state ≡ stages_left stage
  left_waits is =
      let (looked, sent, same, ready, gave, rests) = subst Found is there.phase in
      ap (left_by state.at) same ∙ (ready_left made state.at looked seen (ap (λ s. look made s seen) ready.is_stage ∙ is) ∙ ap stages_left ready.is_stage)

  pub left_asks : (ask : Command) → look made stage seen ≡ Asks ask → sequence_left state ≡ stages_left stage
  left_asks ask is =
      let (here, same, asks) = subst Found is there.phase in
      ap (left_by state.at) same
      ∙ (ap (λ a. behind_left a.flow + asked_left here) (place_there made stage seen ask state.at state.client_closed is there.place)
      ∙ (ap (λ n. behind_left (place_of stage).flow + n) (left_asked made stage seen here asks.asks) ∙ stages_are made stage seen ask is))

  pub left_ends : (owed : List Command) → look made stage seen ≡ Ends owed → sequence_left state ≡ 0
  left_ends owed is =
      let (last, same, ends) = subst Found is there.phase in
      ap (left_by state.at) same ∙ none_last made stage state.at seen state.requests state.side last ends

  at_most_by : (l : Look Command) → look made stage seen ≡ l → sequence_left state ≤ stages_left stage
  at_most_by NotYet is = let same = left_waits is in omega arith
  at_most_by (Asks ask) is = let same = left_asks ask is in omega arith
  at_most_by (Ends owed) is = let same = left_ends owed is in omega arith

  pub at_most : sequence_left state ≤ stages_left stage
  at_most = at_most_by (look made stage seen) refl

pub takes_left : (made : Terms) (before after : Stream) (moment : ℕ) (event : Event) (more : List Command) (place : Standing) (prefix : List (Timed Event)) → IsAt made before place prefix →
    Takes (http_chain sequence made) (IsAt made) after moment event more place prefix → sequence_left after ≤ sequence_left before
takes_left made before after moment event more place prefix at (onward is later gives) =
    let further : List (Timed Event) = prefix ++ record { moment = moment; value = event } ∷ [] in
    let there : Standing = passed sequence made place (sight_over place further) in
    let same = left_waits made before place.stage (sight_over place prefix) at.is_in is in
    let most = at_most made after there.stage (sight_over there further) later.is_in in
    let on = pass_stages made place.stage (sight_over place further) (waits_going made place.stage (sight_over place prefix) is) in
    omega arith
takes_left made before after moment event more place prefix at (past_end owed is later gives) =
    let none = left_ends made after place.stage (sight_over place prefix) later.is_in owed is in omega arith

pub sequence_falls : (terms : Terms) (stage : Stage) (seen : Sight) (answer : Timed Reply) (ask : Command) → look terms stage seen ≡ Asks ask →
    stages_left (sequence (turn terms stage seen answer).stage) < stages_left stage
sequence_falls terms stage seen answer ask is =
    let less = sequence_behind (place_of stage).flow (place_of stage).dials (stage_left stage) (turn terms stage seen answer).stage (some_left terms stage seen ask is)
    (turn_behind terms stage seen answer (goes_on terms stage seen ask is)) in
    let same = stages_are terms stage seen ask is in
    omega arith

pub resumes_left : (made : Terms) (before after : Stream) (moment : ℕ) (reply : Reply) (more : List Command) (place : Standing) (prefix : List (Timed Event)) → IsAt made before place prefix →
    Resumes (http_chain sequence made) (IsAt made) after moment reply more place prefix → sequence_left after < sequence_left before
resumes_left made before after moment reply more place prefix at resumes =
    let seen : Sight = sight_over place prefix in
    let answer : Timed Reply = record { moment = moment; value = reply } in
    let led : Stage = sequence (turn made place.stage seen answer).stage in
    let further : Standing = stands made place moment prefix led in
    let there : Standing = passed sequence made further (sight_over further prefix) in
    let same = left_asks made before place.stage seen at.is_in resumes.ask resumes.asked in
    let most = at_most made after there.stage (sight_over there prefix) resumes.place.is_in in
    let on = pass_stages made led (sight_over further prefix) (sequence_goes (turn made place.stage seen answer).stage) in
    let falls = sequence_falls made place.stage seen answer resumes.ask resumes.asked in
    omega arith
