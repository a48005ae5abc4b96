-- All that a stage finds, owes, passes to and turns to, its moments seen so, is that of the stage and the sight seen so.
use Rattle.std.proofs.Common.{◌≡◌, ℕ, Bool, true, false, List, [], ◌∷◌, ◌++◌, map, Option, Some, None, refl, ap, ◌∙◌}
use Rattle.std.specs.Prelude.{◌==◌, ◌&&◌, not, if◌then◌else◌}
use Rattle.std.proofs.lemmas.List.{map-append}
use Rattle.px_message.specs.declared.fault.Fault.{Fault}
use Rattle.px_message.specs.declared.fault.Fault.TheVariants.{BadResponse}
use Rattle.px_message.specs.declared.flow.Flow.{Flow}
use Rattle.px_message.specs.declared.request.Request.{Request}
use Rattle.px_message.specs.declared.response.Response.{Response}
use Rattle.px_event.specs.declared.ask.Hook.TheVariants.{ResponseHead}
use Rattle.px_event.specs.declared.command.Command.{Command}
use Rattle.px_event.specs.declared.command.Command.TheVariants as commands
use Rattle.px_event.specs.declared.reply.Reply.{Reply}
use Rattle.px_event.specs.declared.reply.Reply.TheVariants as reply
use Rattle.px_event.specs.declared.side.Side.TheVariants.{Client}
use Rattle.px_event.specs.Chain.{Timed, Look, NotYet, Asks, Ends, Turn}
use Rattle.px_read.specs.Items.{Item, missing, part, complete, bad_head, bad_body}
use Rattle.px_read.specs.declared.head.RequestHead.{RequestHead as ReadRequest}
use Rattle.px_read.specs.declared.head.ResponseHead.{ResponseHead as ReadResponse}
use Rattle.px_write.specs.Error.{error_text, fault_message}
use Rattle.px_exchange.specs.declared.asked.Judged.{Judged}
use Rattle.px_exchange.specs.declared.asked.Judged.TheVariants.{Refused, Accepted, Connects}
use Rattle.px_exchange.specs.declared.ending.Used.{Used}
use Rattle.px_exchange.specs.declared.ending.Used.TheVariants.{NoServer, ByServer}
use Rattle.px_exchange.specs.declared.taken.Taken.{Taken}
use Rattle.px_exchange.specs.declared.taken.Taken.TheVariants.{GoesOn, Responds, Kills}
use Rattle.px_exchange.specs.declared.place.Place.{Place}
use Rattle.px_exchange.specs.declared.terms.Terms.{Terms}
use Rattle.px_chain.specs.Chain.{bad_or, begin_up, behind, behind_flow, come_down, dial_leads, dial_owes_by, end_by, end_up, finish, finish_by, given_at, goes_on_by, goes_up_by, going_at, gone_by, keeps_came, killed, look, look_coming, look_up, parked_for, pass, pass_came, pass_given, pass_going, pass_kept, past_gone, sight_begun, sight_ended, so_far, turn, turn_answer, turn_answer_head, turn_body, turn_given_head, turn_head, turn_judged, turn_read_whole, turn_response, turn_returned, turn_taken_answer, turn_taken_body, turn_taken_given, turn_taken_head, turn_taken_returned, turn_taken_whole, turn_whole_answer}
use Rattle.px_exchange.specs.Flows.{ask_of, response_of, with_answer, with_body, with_end, with_returned}
use Rattle.px_exchange.specs.Dials.{dial_owes}
use Rattle.px_exchange.specs.Finds.{is_relayed, look_answer, look_answer_head, look_body, look_head, look_judged, look_returned, or_leaves}
use Rattle.px_cuts.specs.Cuts.{retimed, retimed_flow}
use Rattle.px_exchange.specs.Endings.{closed_message, connection_goes_on, ends_by_fault, ends_early, finished, refuses, shut_all, shut_client, shut_server, shut_unless, unless_kept, with_error, without_response}
use Rattle.px_exchange.specs.Replies.{taken_at_request_body, taken_at_request_head, taken_at_response_head}
use Rattle.px_exchange.specs.Requests.{expects, flow_of, is_head, is_http11, judged}
use Rattle.px_cuts.specs.Shown.{retimed_sight, retimed_stage, shown_sight}
use Rattle.px_chain.specs.Keeping.{keeps_side, parks, shut_by_byte, shut_stray, unspoilt_at}
use Rattle.px_chain.specs.Stages.{At, Doing, Parked, Stage, all_sent, busy, coming_down, connection, given_body, given_head, going_up, idle, next, over, request_body, response_body, response_head, upgraded, Sent}
use Rattle.px_chain.specs.Sights.{Sight, answers_in, request_in, server_in, server_parked}
use Rattle.px_exchange.specs.Texts.{interim_command}
use Rattle.px_chain.proofs.ChainLaws.{behind_turn}
use Rattle.px_chain.specs.Going.{allowed_up_by, goes_up, is_sent, sending_on, sends_going, sends_up, whole_in}
use Rattle.px_chain.specs.Coming.{Came, allowed_by, came_in, coming_text, finished_coming, goes_on_behind, streaming, streams_in}

-- a look, a turn and a reply, their moments seen so
abbrev pub retimed_look : (ℕ → ℕ) → Look Command → Look Command
retimed_look see NotYet = NotYet
retimed_look see (Asks ask) = Asks (retimed see ask)
retimed_look see (Ends owed) = Ends (map (retimed see) owed)

abbrev pub retimed_turn : (ℕ → ℕ) → Turn Stage Command → Turn Stage Command
retimed_turn see turned = record { owed = map (retimed see) turned.owed; stage = retimed_stage see turned.stage }

abbrev pub retimed_reply : (ℕ → ℕ) → Timed Reply → Timed Reply
retimed_reply see answer = record answer { moment = see answer.moment }

abbrev turning : List Command → Stage → Turn Stage Command
turning owed stage = record { owed = owed; stage = stage }

turning_eq : (a b : List Command) (s t : Stage) → a ≡ b → s ≡ t → turning a s ≡ turning b t
turning_eq a b s t same alike = rw (same, alike) refl

module _ (see : ℕ → ℕ) where
  -- ---- ends

  shut_server_seen : (used : Used) → map (retimed see) (shut_server used) ≡ shut_server used
  shut_server_seen NoServer = refl
  shut_server_seen (ByServer number true) = refl
  shut_server_seen (ByServer number false) = refl

  shut_client_seen : (closed : Bool) → map (retimed see) (shut_client closed) ≡ shut_client closed
  shut_client_seen true = refl
  shut_client_seen false = refl

  shut_all_seen : (used : Used) (closed : Bool) → map (retimed see) (shut_all used closed) ≡ shut_all used closed
  shut_all_seen used closed =
      map-append (retimed see) (shut_server used) (shut_client closed)
      ∙ (ap (λ l. l ++ map (retimed see) (shut_client closed)) (shut_server_seen used)
      ∙ ap (λ l. shut_server used ++ l) (shut_client_seen closed))

  ends_early_seen : (flow : Flow) (message : List ℕ) (moment : ℕ) (used : Used) (closed : Bool) →
      map (retimed see) (ends_early flow message moment used closed) ≡ ends_early (retimed_flow see flow) message (see moment) used closed
  ends_early_seen flow message moment used closed =
      ap (λ l. commands.Done (with_error (retimed_flow see flow) message (see moment)) ∷ l) (shut_all_seen used closed)

  ends_by_fault_seen : (flow : Flow) (fault : Fault) (moment : ℕ) (used : Used) (closed : Bool) →
      map (retimed see) (ends_by_fault flow fault moment used closed) ≡ ends_by_fault (retimed_flow see flow) fault (see moment) used closed
  ends_by_fault_seen flow fault moment used closed =
      ap (λ l. commands.Send Client (error_text fault (is_head flow.request.method)) ∷ l)
      (ends_early_seen (without_response flow) (fault_message fault) moment used closed)

  refuses_seen : (fault : Fault) (asked_head : Bool) (used : Used) (closed : Bool) → map (retimed see) (refuses fault asked_head used closed) ≡ refuses fault asked_head used closed
  refuses_seen fault asked_head used closed = ap (λ l. commands.Send Client (error_text fault asked_head) ∷ l) (shut_all_seen used closed)

  -- a parked side is told by no moment
  parked_seen : (parked : Option Parked) (seen : Sight) → server_parked parked seen ≡ server_parked parked (retimed_sight see seen)
  parked_seen None seen = refl
  parked_seen (Some parked) seen = refl

  -- ---- what is found

  look_judged_seen : (terms : Terms) (index : ℕ) (head : ReadRequest) (j : Judged) (moment : ℕ) (used : Used) (closed : Bool) →
      retimed_look see (look_judged terms index head j moment used closed) ≡ look_judged terms index head j (see moment) used closed
  look_judged_seen terms index head (Refused fault) moment used closed = ap (λ l. Ends l) (refuses_seen fault (is_head head.method) used closed)
  look_judged_seen terms index head (Accepted request) moment used closed = refl
  look_judged_seen terms index head (Connects address) moment used closed = refl

  look_head_seen : (terms : Terms) (index : ℕ) (item : Item ReadRequest) (moment : ℕ) (used : Used) (closed : Bool) →
      retimed_look see (look_head terms index item moment used closed) ≡ look_head terms index item (see moment) used closed
  look_head_seen terms index missing moment used closed = refl
  look_head_seen terms index (part head body) moment used closed = look_judged_seen terms index head (judged terms.place head) moment used closed
  look_head_seen terms index (complete head body trailers size) moment used closed = look_judged_seen terms index head (judged terms.place head) moment used closed
  look_head_seen terms index (bad_head fault) moment used closed = ap (λ l. Ends l) (refuses_seen fault false used closed)
  look_head_seen terms index (bad_body fault head body) moment used closed = look_judged_seen terms index head (judged terms.place head) moment used closed

  look_body_seen : (flow : Flow) (item : Item ReadRequest) (moment : ℕ) (used : Used) (closed : Bool) →
      retimed_look see (look_body flow item moment used closed) ≡ look_body (retimed_flow see flow) item (see moment) used closed
  look_body_seen flow missing moment used closed = refl
  look_body_seen flow (part head body) moment used closed = refl
  look_body_seen flow (complete head body trailers size) moment used closed = refl
  look_body_seen flow (bad_head fault) moment used closed = refl
  look_body_seen flow (bad_body fault head body) moment used closed = ap (λ l. Ends l) (ends_by_fault_seen flow fault moment used closed)

  answer_head_by : (refused : Bool) (flow : Flow) (head : ReadResponse) (moment : ℕ) (used : Used) (closed : Bool) →
      retimed_look see (if refused then Ends (ends_by_fault flow BadResponse moment used closed) else Asks (ask_of (with_answer flow (response_of head) moment) ResponseHead))
      ≡ (if refused then Ends (ends_by_fault (retimed_flow see flow) BadResponse (see moment) used closed)
      else Asks (ask_of (with_answer (retimed_flow see flow) (response_of head) (see moment)) ResponseHead))
  answer_head_by true flow head moment used closed = ap (λ l. Ends l) (ends_by_fault_seen flow BadResponse moment used closed)
  answer_head_by false flow head moment used closed = refl

  answer_head_seen : (flow : Flow) (head : ReadResponse) (moment : ℕ) (used : Used) (closed : Bool) →
      retimed_look see (look_answer_head flow head moment used closed) ≡ look_answer_head (retimed_flow see flow) head (see moment) used closed
  answer_head_seen flow head moment used closed = answer_head_by (not (is_relayed head.code)) flow head moment used closed

  look_answer_seen : (flow : Flow) (item : Item ReadResponse) (moment : ℕ) (used : Used) (closed : Bool) →
      retimed_look see (look_answer flow item moment used closed) ≡ look_answer (retimed_flow see flow) item (see moment) used closed
  look_answer_seen flow missing moment used closed = refl
  look_answer_seen flow (part head body) moment used closed = answer_head_seen flow head moment used closed
  look_answer_seen flow (complete head body trailers size) moment used closed = answer_head_seen flow head moment used closed
  look_answer_seen flow (bad_head fault) moment used closed = ap (λ l. Ends l) (ends_by_fault_seen flow fault moment used closed)
  look_answer_seen flow (bad_body fault head body) moment used closed = answer_head_seen flow head moment used closed

  look_returned_seen : (flow : Flow) (item : Item ReadResponse) (moment : ℕ) (used : Used) (closed : Bool) →
      retimed_look see (look_returned flow item moment used closed) ≡ look_returned (retimed_flow see flow) item (see moment) used closed
  look_returned_seen flow missing moment used closed = refl
  look_returned_seen flow (part head body) moment used closed = refl
  look_returned_seen flow (complete head body trailers size) moment used closed = refl
  look_returned_seen flow (bad_head fault) moment used closed = refl
  look_returned_seen flow (bad_body fault head body) moment used closed = ap (λ l. Ends l) (ends_by_fault_seen flow fault moment used closed)

  look_coming_seen : (flow : Flow) (item : Item ReadResponse) (moment : ℕ) (used : Used) (closed : Bool) →
      retimed_look see (look_coming flow item moment used closed) ≡ look_coming (retimed_flow see flow) item (see moment) used closed
  look_coming_seen flow missing moment used closed = refl
  look_coming_seen flow (part head body) moment used closed = refl
  look_coming_seen flow (complete head body trailers size) moment used closed = refl
  look_coming_seen flow (bad_head fault) moment used closed = refl
  look_coming_seen flow (bad_body fault head body) moment used closed = ap (λ l. Ends l) (ends_early_seen flow (fault_message fault) moment used closed)

  or_leaves_seen : (closed : Bool) (leaves : List Command) (l : Look Command) →
      retimed_look see (or_leaves closed leaves l) ≡ or_leaves closed (map (retimed see) leaves) (retimed_look see l)
  or_leaves_seen true leaves NotYet = refl
  or_leaves_seen false leaves NotYet = refl
  or_leaves_seen closed leaves (Asks ask) = refl
  or_leaves_seen closed leaves (Ends owed) = refl

  -- beside a request that goes up
  bad_or_seen : (item : Item ReadRequest) (ends other : Fault → List Command) (l m : Look Command) → ((fault : Fault) → map (retimed see) (ends fault) ≡ other fault) →
      retimed_look see l ≡ m → retimed_look see (bad_or item ends l) ≡ bad_or item other m
  bad_or_seen missing ends other l m each alike = alike
  bad_or_seen (part head body) ends other l m each alike = alike
  bad_or_seen (complete head body trailers size) ends other l m each alike = alike
  bad_or_seen (bad_head fault) ends other l m each alike = alike
  bad_or_seen (bad_body fault head body) ends other l m each alike = ap (λ l. Ends l) (each fault)

  up_seen : (how : Sent) (seen : Sight) (ends other : Fault → List Command) (l m : Look Command) → ((fault : Fault) → map (retimed see) (ends fault) ≡ other fault) →
      retimed_look see l ≡ m → retimed_look see (look_up how seen ends l) ≡ look_up how (retimed_sight see seen) other m
  up_seen all_sent seen ends other l m each alike = alike
  up_seen going_up seen ends other l m each alike = bad_or_seen (request_in seen) ends other l m each alike

  looked : (closed : Bool) (leaves other : List Command) (l m : Look Command) → map (retimed see) leaves ≡ other → retimed_look see l ≡ m →
      retimed_look see (or_leaves closed leaves l) ≡ or_leaves closed other m
  looked closed leaves other l m same alike = or_leaves_seen closed leaves l ∙ rw (same, alike) refl

  pub look_shown : (terms : Terms) (stage : Stage) (seen : Sight) →
      retimed_look see (look terms stage seen) ≡ look terms (retimed_stage see stage) (shown_sight see stage seen)
  look_shown terms (idle at) seen =
      let parked : Option Parked = (unspoilt_at at seen).parked in
      let used : Used = server_parked parked seen in
      looked seen.closed _ _ _ _ (shut_server_seen used ∙ ap (λ u. shut_server u) (parked_seen parked seen))
      (look_head_seen terms at.flow (request_in seen) seen.now used seen.closed
      ∙ ap (λ u. look_head terms at.flow (request_in seen) (see seen.now) u seen.closed) (parked_seen parked seen))
  look_shown terms (busy at flow (request_body given most)) seen =
      let parked : Option Parked = (unspoilt_at at seen).parked in
      let used : Used = server_parked parked seen in
      looked seen.closed _ _ _ _
      (ends_early_seen flow closed_message seen.now used true
      ∙ ap (λ u. ends_early (retimed_flow see flow) closed_message (see seen.now) u true) (parked_seen parked seen))
      (look_body_seen flow (request_in seen) seen.now used seen.closed
      ∙ ap (λ u. look_body (retimed_flow see flow) (request_in seen) (see seen.now) u seen.closed) (parked_seen parked seen))
  look_shown terms (busy at flow (connection how)) seen = refl
  look_shown terms (busy at flow (response_head side how)) seen =
      looked seen.closed _ _ _ _ (ends_early_seen flow closed_message seen.now (server_in side seen) true)
      (up_seen how seen _ _ _ _ (λ fault. ends_by_fault_seen flow fault seen.now (server_in side seen) seen.closed)
      (look_answer_seen flow (answers_in flow.request seen).final seen.now (server_in side seen) seen.closed))
  look_shown terms (busy at flow (response_body side how most)) seen =
      looked seen.closed _ _ _ _ (ends_early_seen (without_response flow) closed_message seen.now (server_in side seen) true)
      (up_seen how seen _ _ _ _ (λ fault. ends_by_fault_seen flow fault seen.now (server_in side seen) seen.closed)
      (look_returned_seen flow (answers_in flow.request seen).final seen.now (server_in side seen) seen.closed))
  look_shown terms (busy at flow (coming_down side how)) seen =
      looked seen.closed _ _ _ _ (ends_early_seen flow closed_message seen.now (server_in side seen) true)
      (up_seen how seen _ _ _ _ (λ fault. ends_early_seen flow (fault_message fault) seen.now (server_in side seen) seen.closed)
      (look_coming_seen flow (answers_in flow.request seen).final seen.now (server_in side seen) seen.closed))
  look_shown terms (busy at flow (upgraded side)) seen = refl
  look_shown terms (busy at flow given_head) seen = refl
  look_shown terms (busy at flow given_body) seen = refl
  look_shown terms (next at) seen = refl
  look_shown terms over seen = refl

  -- ---- what is owed while it waits

  interim_seen : (heads : List ReadResponse) → map (retimed see) (map interim_command heads) ≡ map interim_command heads
  interim_seen [] = refl
  interim_seen (head ∷ heads) = ap (λ l. interim_command head ∷ l) (interim_seen heads)

  interim_by : (known : Bool) (heads : List ReadResponse) →
      map (retimed see) (if known then map interim_command heads else []) ≡ (if known then map interim_command heads else [])
  interim_by true heads = interim_seen heads
  interim_by false heads = refl

  -- a stray byte is told by no moment
  byte_seen : (server : ℕ) (bytes : List ℕ) → map (retimed see) (shut_by_byte server bytes ++ []) ≡ shut_by_byte server bytes ++ []
  byte_seen server [] = refl
  byte_seen server (byte ∷ more) = refl

  stray_seen : (parked : Option Parked) (seen : Sight) → map (retimed see) (shut_stray parked seen ++ []) ≡ shut_stray parked (retimed_sight see seen) ++ []
  stray_seen None seen = refl
  stray_seen (Some parked) seen = byte_seen parked.server seen.server

  pub so_far_shown : (terms : Terms) (stage : Stage) (seen : Sight) → map (retimed see) (so_far terms stage seen) ≡ so_far terms (retimed_stage see stage) (shown_sight see stage seen)
  so_far_shown terms (idle at) seen = stray_seen at.parked seen
  so_far_shown terms (busy at flow (request_body given most)) seen = stray_seen at.parked seen
  so_far_shown terms (busy at flow (connection how)) seen = stray_seen at.parked seen
  so_far_shown terms (busy at flow (response_head side all_sent)) seen = interim_by (is_http11 flow.request.version) (answers_in flow.request seen).interim
  so_far_shown terms (busy at flow (response_head side going_up)) seen = ap (λ l. sends_going terms.place flow side seen ++ l) (interim_by (is_http11 flow.request.version) (answers_in flow.request seen).interim)
  so_far_shown terms (busy at flow (response_body side all_sent most)) seen = refl
  so_far_shown terms (busy at flow (response_body side going_up most)) seen = refl
  so_far_shown terms (busy at flow (coming_down side all_sent)) seen = refl
  so_far_shown terms (busy at flow (coming_down side going_up)) seen = refl
  so_far_shown terms (busy at flow (upgraded side)) seen = refl
  so_far_shown terms (busy at flow given_head) seen = stray_seen at.parked seen
  so_far_shown terms (busy at flow given_body) seen = stray_seen at.parked seen
  so_far_shown terms (next at) seen = stray_seen at.parked seen
  so_far_shown terms over seen = refl

  -- ---- what is owed behind an ask

  pub behind_shown : (stage : Stage) (seen : Sight) → map (retimed see) (behind stage seen) ≡ behind (retimed_stage see stage) (shown_sight see stage seen)
  behind_shown (idle at) seen = refl
  behind_shown (busy at flow (request_body given most)) seen = refl
  behind_shown (busy at flow (connection how)) seen =
      let parked : Option Parked = (unspoilt_at at seen).parked in
      shut_server_seen (server_parked parked seen) ∙ ap (λ u. shut_server u) (parked_seen parked seen)
  behind_shown (busy at flow (response_head side how)) seen = refl
  behind_shown (busy at flow (response_body side how most)) seen = refl
  behind_shown (busy at flow (coming_down side how)) seen = refl
  behind_shown (busy at flow (upgraded side)) seen = refl
  behind_shown (busy at flow given_head) seen = refl
  behind_shown (busy at flow given_body) seen = refl
  behind_shown (next at) seen = refl
  behind_shown over seen = refl

  -- ---- where it turns

  killed_seen : (flow : Flow) (moment : ℕ) (used : Used) (closed : Bool) →
      retimed_turn see (killed flow moment used closed) ≡ killed (retimed_flow see flow) (see moment) used closed
  killed_seen flow moment used closed = turning_eq _ _ over over (ends_early_seen flow _ moment used closed) refl

  -- also where a side is parked
  killed_parked : (at : At) (flow : Flow) (moment : ℕ) (seen : Sight) →
      retimed_turn see (killed flow moment (server_parked at.parked seen) seen.closed)
      ≡ killed (retimed_flow see flow) (see moment) (server_parked at.parked (retimed_sight see seen)) seen.closed
  killed_parked at flow moment seen =
      killed_seen flow moment (server_parked at.parked seen) seen.closed
      ∙ ap (λ u. killed (retimed_flow see flow) (see moment) u seen.closed) (parked_seen at.parked seen)

  taken_head_seen : (at : At) (flow : Flow) (expected : Bool) (most : Option ℕ) (taken : Taken Request) (moment : ℕ) (seen : Sight) →
      retimed_turn see (turn_taken_head at flow expected most taken moment seen)
      ≡ turn_taken_head at (retimed_flow see flow) expected most taken (see moment) (retimed_sight see seen)
  taken_head_seen at flow true most (GoesOn request) moment seen = refl
  taken_head_seen at flow false most (GoesOn request) moment seen = refl
  taken_head_seen at flow true most (Responds response) moment seen = refl
  taken_head_seen at flow false most (Responds response) moment seen = refl
  taken_head_seen at flow expected most Kills moment seen = killed_parked at flow moment seen

  judged_turn_seen : (terms : Terms) (at : At) (head : ReadRequest) (j : Judged) (seen : Sight) (answer : Timed Reply) →
      retimed_turn see (turn_judged terms at head j seen answer)
      ≡ turn_judged terms at head j (retimed_sight see seen) (retimed_reply see answer)
  judged_turn_seen terms at head (Refused fault) seen answer = refl
  judged_turn_seen terms at head (Connects address) seen answer = refl
  judged_turn_seen terms at head (Accepted request) seen answer =
      taken_head_seen at (flow_of terms at.flow request seen.now) (expects head) (allowed_up_by terms.streams answer.value)
      (taken_at_request_head request answer.value) answer.moment seen

  head_turn_seen : (terms : Terms) (at : At) (item : Item ReadRequest) (seen : Sight) (answer : Timed Reply) →
      retimed_turn see (turn_head terms at item seen answer)
      ≡ turn_head terms at item (retimed_sight see seen) (retimed_reply see answer)
  head_turn_seen terms at missing seen answer = refl
  head_turn_seen terms at (part head body) seen answer = judged_turn_seen terms at head (judged terms.place head) seen answer
  head_turn_seen terms at (complete head body trailers used) seen answer = judged_turn_seen terms at head (judged terms.place head) seen answer
  head_turn_seen terms at (bad_head fault) seen answer = refl
  head_turn_seen terms at (bad_body fault head body) seen answer = judged_turn_seen terms at head (judged terms.place head) seen answer

  goes_on_seen : (to : Place) (at : At) (flow : Flow) (side : Option ℕ) → retimed_turn see (goes_on_by side to at flow) ≡ goes_on_by side to at (retimed_flow see flow)
  goes_on_seen to at flow None = refl
  goes_on_seen to at flow (Some side) = refl

  taken_body_seen : (to : Place) (at : At) (flow : Flow) (taken : Taken Request) (moment : ℕ) (seen : Sight) →
      retimed_turn see (turn_taken_body to at flow taken moment seen) ≡ turn_taken_body to at (retimed_flow see flow) taken (see moment) (retimed_sight see seen)
  taken_body_seen to at flow (GoesOn request) moment seen = goes_on_seen to at (record flow { request = request }) (parked_for to request at.parked)
  taken_body_seen to at flow (Responds response) moment seen = refl
  taken_body_seen to at flow Kills moment seen = killed_parked at flow moment seen

  body_turn_seen : (to : Place) (at : At) (flow : Flow) (item : Item ReadRequest) (seen : Sight) (answer : Timed Reply) →
      retimed_turn see (turn_body to at flow item seen answer)
      ≡ turn_body to at (retimed_flow see flow) item (retimed_sight see seen) (retimed_reply see answer)
  body_turn_seen to at flow missing seen answer = refl
  body_turn_seen to at flow (part head body) seen answer = refl
  body_turn_seen to at flow (complete head body trailers used) seen answer =
      let whole : Flow = with_body flow body.content trailers seen.now in
      taken_body_seen to at whole (taken_at_request_body whole.request answer.value) answer.moment seen
  body_turn_seen to at flow (bad_head fault) seen answer = refl
  body_turn_seen to at flow (bad_body fault head body) seen answer = refl

  dial_owes_seen : (to : Place) (flow : Flow) (server : ℕ) (value : Reply) (moment : ℕ) (closed : Bool) →
      map (retimed see) (dial_owes to flow server value moment closed) ≡ dial_owes to (retimed_flow see flow) server value (see moment) closed
  dial_owes_seen to flow server reply.Dialled moment closed = refl
  dial_owes_seen to flow server (reply.Refused fault) moment closed = ends_by_fault_seen flow fault moment NoServer closed
  dial_owes_seen to flow server (reply.Go given stream) moment closed = refl
  dial_owes_seen to flow server (reply.Respond response) moment closed = refl
  dial_owes_seen to flow server reply.Kill moment closed = refl
  dial_owes_seen to flow server reply.Discard moment closed = refl

  dial_owed_seen : (how : Sent) (to : Place) (flow : Flow) (server : ℕ) (value : Reply) (moment : ℕ) (closed : Bool) →
      map (retimed see) (dial_owes_by how to flow server value moment closed) ≡ dial_owes_by how to (retimed_flow see flow) server value (see moment) closed
  dial_owed_seen all_sent to flow server value moment closed = dial_owes_seen to flow server value moment closed
  dial_owed_seen going_up to flow server reply.Dialled moment closed = refl
  dial_owed_seen going_up to flow server (reply.Refused fault) moment closed = ends_by_fault_seen flow fault moment NoServer closed
  dial_owed_seen going_up to flow server (reply.Go given stream) moment closed = refl
  dial_owed_seen going_up to flow server (reply.Respond response) moment closed = refl
  dial_owed_seen going_up to flow server reply.Kill moment closed = refl
  dial_owed_seen going_up to flow server reply.Discard moment closed = refl

  dial_leads_seen : (to : Place) (at : At) (flow : Flow) (how : Sent) (value : Reply) → retimed_stage see (dial_leads to at flow how value) ≡ dial_leads to at (retimed_flow see flow) how value
  dial_leads_seen to at flow how reply.Dialled = refl
  dial_leads_seen to at flow how (reply.Refused fault) = refl
  dial_leads_seen to at flow how (reply.Go given stream) = refl
  dial_leads_seen to at flow how (reply.Respond response) = refl
  dial_leads_seen to at flow how reply.Kill = refl
  dial_leads_seen to at flow how reply.Discard = refl

  taken_answer_seen : (at : At) (flow : Flow) (side : ℕ) (how : Sent) (most : Option ℕ) (taken : Taken Response) (moment : ℕ) (used : Used) (closed : Bool) →
      retimed_turn see (turn_taken_answer at flow side how most taken moment used closed)
      ≡ turn_taken_answer at (retimed_flow see flow) side how most taken (see moment) used closed
  taken_answer_seen at flow side how most (GoesOn response) moment used closed = refl
  taken_answer_seen at flow side how most (Responds response) moment used closed = killed_seen (without_response flow) moment used closed
  taken_answer_seen at flow side how most Kills moment used closed = killed_seen (without_response flow) moment used closed

  answer_head_turn_seen : (terms : Terms) (at : At) (flow : Flow) (side : ℕ) (how : Sent) (head : ReadResponse) (seen : Sight) (answer : Timed Reply) →
      retimed_turn see (turn_answer_head terms at flow side how head seen answer)
      ≡ turn_answer_head terms at (retimed_flow see flow) side how head (retimed_sight see seen) (retimed_reply see answer)
  answer_head_turn_seen terms at flow side how head seen answer =
      taken_answer_seen at (with_answer flow (response_of head) seen.now) side how (allowed_by terms.streams answer.value)
      (taken_at_response_head (response_of head) answer.value) answer.moment (server_in side seen) seen.closed

  answer_turn_seen : (terms : Terms) (at : At) (flow : Flow) (side : ℕ) (how : Sent) (item : Item ReadResponse) (seen : Sight) (answer : Timed Reply) →
      retimed_turn see (turn_answer terms at flow side how item seen answer)
      ≡ turn_answer terms at (retimed_flow see flow) side how item (retimed_sight see seen) (retimed_reply see answer)
  answer_turn_seen terms at flow side how missing seen answer = refl
  answer_turn_seen terms at flow side how (part head body) seen answer = answer_head_turn_seen terms at flow side how head seen answer
  answer_turn_seen terms at flow side how (complete head body trailers size) seen answer = answer_head_turn_seen terms at flow side how head seen answer
  answer_turn_seen terms at flow side how (bad_head fault) seen answer = refl
  answer_turn_seen terms at flow side how (bad_body fault head body) seen answer = answer_head_turn_seen terms at flow side how head seen answer

  shut_unless_seen : (stays : Bool) (parked : Used) (closed : Bool) → map (retimed see) (shut_unless stays parked closed) ≡ shut_unless stays parked closed
  shut_unless_seen true parked closed = refl
  shut_unless_seen false parked closed = shut_all_seen parked closed

  finished_seen : (flow : Flow) (response : Response) (used : Used) →
      map (retimed see) (finished flow response used) ≡ finished (retimed_flow see flow) response used
  finished_seen flow response NoServer = refl
  finished_seen flow response (ByServer number true) = refl
  finished_seen flow response (ByServer number false) = refl

  behind_seen : (stays : Bool) (at : At) → retimed_stage see (behind_flow stays at) ≡ behind_flow stays at
  behind_seen true at = refl
  behind_seen false at = refl

  -- a flow that is finished, of which its side is kept or closed, and the closes behind it
  ended_seen : (stays : Bool) (at : At) (flow : Flow) (response : Response) (served parked : Used) (closed : Bool) →
      retimed_turn see (turning (finished flow response served ++ shut_unless stays parked closed) (behind_flow stays at))
      ≡ turning (finished (retimed_flow see flow) response served ++ shut_unless stays parked closed) (behind_flow stays at)
  ended_seen stays at flow response served parked closed =
      turning_eq _ _ _ _
      (map-append (retimed see) (finished flow response served) (shut_unless stays parked closed)
      ∙ (ap (λ l. l ++ map (retimed see) (shut_unless stays parked closed)) (finished_seen flow response served)
      ∙ ap (λ l. finished (retimed_flow see flow) response served ++ l) (shut_unless_seen stays parked closed)))
      (behind_seen stays at)

  finish_seen : (place : Place) (at : At) (flow : Flow) (how : Sent) (response : Response) (keeps : Bool) (side : ℕ) (used : Used) (closed : Bool) →
      retimed_turn see (finish place at flow how response keeps side used closed) ≡ finish place at (retimed_flow see flow) how response keeps side used closed
  finish_seen place at flow how response keeps side used closed =
      let stays : Bool = is_sent how && connection_goes_on at.flow flow.request response in
      ended_seen stays (parks (stays && keeps) place at flow.request side) flow response (unless_kept (stays && keeps) used) NoServer closed

  taken_returned_seen : (at : At) (flow : Flow) (taken : Taken Response) (moment : ℕ) (parked : Used) (closed : Bool) →
      retimed_turn see (turn_taken_returned at flow taken moment parked closed)
      ≡ turn_taken_returned at (retimed_flow see flow) taken (see moment) parked closed
  taken_returned_seen at flow (GoesOn response) moment parked closed = ended_seen (connection_goes_on at.flow flow.request response) at flow response NoServer parked closed
  taken_returned_seen at flow (Responds response) moment parked closed = killed_seen flow moment parked closed
  taken_returned_seen at flow Kills moment parked closed = killed_seen flow moment parked closed

  taken_given_seen : (at : At) (flow : Flow) (taken : Taken Response) (moment : ℕ) (parked : Used) (closed : Bool) →
      retimed_turn see (turn_taken_given at flow taken moment parked closed)
      ≡ turn_taken_given at (retimed_flow see flow) taken (see moment) parked closed
  taken_given_seen at flow (GoesOn response) moment parked closed = refl
  taken_given_seen at flow (Responds response) moment parked closed = killed_seen (without_response flow) moment parked closed
  taken_given_seen at flow Kills moment parked closed = killed_seen (without_response flow) moment parked closed

  response_seen : (there : Option Response) (takes : Response → Taken Response) (goes goes' : Taken Response → Turn Stage Command) →
      ((taken : Taken Response) → retimed_turn see (goes taken) ≡ goes' taken) →
      retimed_turn see (turn_response there takes goes) ≡ turn_response there takes goes'
  response_seen None takes goes goes' each = refl
  response_seen (Some response) takes goes goes' each = each (takes response)

  whole_answer_seen : (at : At) (flow : Flow) (answer : Timed Reply) (parked : Used) (closed : Bool) →
      retimed_turn see (turn_whole_answer at flow answer parked closed)
      ≡ turn_whole_answer at (retimed_flow see flow) (retimed_reply see answer) parked closed
  whole_answer_seen at flow answer parked closed =
      response_seen flow.response _ _ _
      (λ taken. taken_returned_seen at flow taken answer.moment parked closed)

  finish_by_seen : (switches : Bool) (place : Place) (at : At) (flow : Flow) (how : Sent) (response : Response) (keeps : Bool) (side : ℕ) (used : Used) (closed : Bool) →
      retimed_turn see (finish_by switches place at flow how response keeps side used closed) ≡ finish_by switches place at (retimed_flow see flow) how response keeps side used closed
  finish_by_seen true place at flow how response keeps side used closed = refl
  finish_by_seen false place at flow how response keeps side used closed = finish_seen place at flow how response keeps side used closed

  taken_whole_seen : (place : Place) (at : At) (flow : Flow) (side : ℕ) (how : Sent) (keeps : Bool) (taken : Taken Response) (moment : ℕ) (used : Used) (closed : Bool) →
      retimed_turn see (turn_taken_whole place at flow side how keeps taken moment used closed)
      ≡ turn_taken_whole place at (retimed_flow see flow) side how keeps taken (see moment) used closed
  taken_whole_seen place at flow side how keeps (GoesOn response) moment used closed = finish_by_seen (is_sent how && response.status == 101) place at flow how response keeps side used closed
  taken_whole_seen place at flow side how keeps (Responds response) moment used closed = killed_seen flow moment used closed
  taken_whole_seen place at flow side how keeps Kills moment used closed = killed_seen flow moment used closed

  read_whole_seen : (place : Place) (at : At) (flow : Flow) (side : ℕ) (how : Sent) (keeps : Bool) (answer : Timed Reply) (used : Used) (closed : Bool) →
      retimed_turn see (turn_read_whole place at flow side how keeps answer used closed)
      ≡ turn_read_whole place at (retimed_flow see flow) side how keeps (retimed_reply see answer) used closed
  read_whole_seen place at flow side how keeps answer used closed =
      response_seen flow.response _ _ _
      (λ taken. taken_whole_seen place at flow side how keeps taken answer.moment used closed)

  returned_turn_seen : (place : Place) (at : At) (flow : Flow) (side : ℕ) (how : Sent) (item : Item ReadResponse) (seen : Sight) (answer : Timed Reply) →
      retimed_turn see (turn_returned place at flow side how item seen answer)
      ≡ turn_returned place at (retimed_flow see flow) side how item (retimed_sight see seen) (retimed_reply see answer)
  returned_turn_seen place at flow side how missing seen answer = refl
  returned_turn_seen place at flow side how (part head body) seen answer = refl
  returned_turn_seen place at flow side how (complete head body trailers size) seen answer =
      read_whole_seen place at (with_returned flow body.content trailers seen.now) side how (keeps_side flow.request seen head) answer (server_in side seen) seen.closed
  returned_turn_seen place at flow side how (bad_head fault) seen answer = refl
  returned_turn_seen place at flow side how (bad_body fault head body) seen answer = refl

  given_turn_seen : (at : At) (flow : Flow) (answer : Timed Reply) (parked : Used) (closed : Bool) →
      retimed_turn see (turn_given_head at flow answer parked closed) ≡ turn_given_head at (retimed_flow see flow) (retimed_reply see answer) parked closed
  given_turn_seen at flow answer parked closed =
      response_seen flow.response _ _ _
      (λ taken. taken_given_seen at flow taken answer.moment parked closed)

  pub turn_shown : (terms : Terms) (stage : Stage) (seen : Sight) (answer : Timed Reply) →
      retimed_turn see (turn terms stage seen answer) ≡ turn terms (retimed_stage see stage) (shown_sight see stage seen) (retimed_reply see answer)
  turn_shown terms (idle at) seen answer = head_turn_seen terms (unspoilt_at at seen) (request_in seen) seen answer
  turn_shown terms (busy at flow (request_body given most)) seen answer = body_turn_seen terms.place (unspoilt_at at seen) flow (request_in seen) seen answer
  turn_shown terms (busy at flow (connection how)) seen answer =
      turning_eq _ _ _ _ (dial_owed_seen how terms.place flow at.dials answer.value answer.moment seen.closed) (dial_leads_seen terms.place (unspoilt_at at seen) flow how answer.value)
  turn_shown terms (busy at flow (response_head side how)) seen answer =
      answer_turn_seen terms (unspoilt_at at seen) flow side how (answers_in flow.request seen).final seen answer
  turn_shown terms (busy at flow (response_body side how most)) seen answer =
      returned_turn_seen terms.place (unspoilt_at at seen) flow side how (answers_in flow.request seen).final seen answer
  turn_shown terms (busy at flow (coming_down side how)) seen answer = refl
  turn_shown terms (busy at flow (upgraded side)) seen answer = refl
  turn_shown terms (busy at flow given_head) seen answer =
      let there : At = unspoilt_at at seen in
      given_turn_seen there (given_at flow seen.now) answer (server_parked there.parked seen) seen.closed
      ∙ ap (λ u. turn_given_head there (given_at (retimed_flow see flow) (see seen.now)) (retimed_reply see answer) u seen.closed) (parked_seen there.parked seen)
  turn_shown terms (busy at flow given_body) seen answer =
      let there : At = unspoilt_at at seen in
      whole_answer_seen there flow answer (server_parked there.parked seen) seen.closed
      ∙ ap (λ u. turn_whole_answer there (retimed_flow see flow) (retimed_reply see answer) u seen.closed) (parked_seen there.parked seen)
  turn_shown terms (next at) seen answer = refl
  turn_shown terms over seen answer = refl

  -- ---- where it passes

  -- one that begins to go up, or whose response is given

  given_seen : (at : At) (flow : Flow) (response : Response) (most : Option ℕ) (item : Item ReadRequest) (now : ℕ) →
      retimed_stage see (pass_given at flow response most item now) ≡ pass_given at (retimed_flow see flow) response most item (see now)
  given_seen at flow response most missing now = refl
  given_seen at flow response most (part head body) now = refl
  given_seen at flow response most (complete head body trailers used) now = refl
  given_seen at flow response most (bad_head fault) now = refl
  given_seen at flow response most (bad_body fault head body) now = refl

  goes_up_seen : (side : Option ℕ) (to : Place) (at : At) (flow : Flow) → retimed_stage see (goes_up_by side to at flow) ≡ goes_up_by side to at (retimed_flow see flow)
  goes_up_seen None to at flow = refl
  goes_up_seen (Some side) to at flow = refl

  going_seen : (up : Bool) (to : Place) (at : At) (flow : Flow) (most : Option ℕ) (seen : Sight) →
      retimed_stage see (pass_going up to at flow most seen) ≡ pass_going up to at (retimed_flow see flow) most (retimed_sight see seen)
  going_seen true to at flow most seen = goes_up_seen (parked_for to flow.request (unspoilt_at at seen).parked) to at (sending_on flow)
  going_seen false to at flow most seen = refl

  pub begun_shown : (terms : Terms) (stage : Stage) (seen : Sight) → retimed_stage see (begin_up terms stage seen) ≡ begin_up terms (retimed_stage see stage) (retimed_sight see seen)
  begun_shown terms (idle at) seen = refl
  begun_shown terms (busy at flow (request_body None most)) seen = going_seen (goes_up most seen) terms.place at flow most seen
  begun_shown terms (busy at flow (request_body (Some response) most)) seen = given_seen at flow response most (request_in seen) seen.now
  begun_shown terms (busy at flow (connection how)) seen = refl
  begun_shown terms (busy at flow (response_head side how)) seen = refl
  begun_shown terms (busy at flow (response_body side how most)) seen = refl
  begun_shown terms (busy at flow (coming_down side how)) seen = refl
  begun_shown terms (busy at flow (upgraded side)) seen = refl
  begun_shown terms (busy at flow given_head) seen = refl
  begun_shown terms (busy at flow given_body) seen = refl
  begun_shown terms (next at) seen = refl
  begun_shown terms over seen = refl

  pub begun_left : (stage : Stage) (seen : Sight) → retimed_sight see (sight_begun stage seen) ≡ sight_begun (retimed_stage see stage) (retimed_sight see seen)
  begun_left (idle at) seen = refl
  begun_left (busy at flow (request_body None most)) seen = refl
  begun_left (busy at flow (request_body (Some response) most)) seen = refl
  begun_left (busy at flow (connection how)) seen = refl
  begun_left (busy at flow (response_head side how)) seen = refl
  begun_left (busy at flow (response_body side how most)) seen = refl
  begun_left (busy at flow (coming_down side how)) seen = refl
  begun_left (busy at flow (upgraded side)) seen = refl
  begun_left (busy at flow given_head) seen = refl
  begun_left (busy at flow given_body) seen = refl
  begun_left (next at) seen = refl
  begun_left over seen = refl

  -- one that goes up and is whole
  ended_by : (going : Option ℕ) (to : Place) (at : At) (flow : Flow) (doing : Doing) (seen : Sight) →
      retimed_turn see (end_by going to at flow doing seen) ≡ end_by going to at (retimed_flow see flow) doing (retimed_sight see seen)
  ended_by None to at flow doing seen = refl
  ended_by (Some server) to at flow doing seen = refl

  pub ended_shown : (terms : Terms) (stage : Stage) (seen : Sight) → retimed_turn see (end_up terms stage seen) ≡ end_up terms (retimed_stage see stage) (retimed_sight see seen)
  ended_shown terms (idle at) seen = refl
  ended_shown terms (busy at flow doing) seen = ended_by (gone_by (going_at doing) (whole_in seen)) terms.place at flow doing seen
  ended_shown terms (next at) seen = refl
  ended_shown terms over seen = refl

  past_by : (going : Option ℕ) (seen : Sight) → retimed_sight see (past_gone going seen) ≡ past_gone going (retimed_sight see seen)
  past_by None seen = refl
  past_by (Some server) seen = refl

  pub ended_left : (stage : Stage) (seen : Sight) → retimed_sight see (sight_ended stage seen) ≡ sight_ended (retimed_stage see stage) (retimed_sight see seen)
  ended_left (idle at) seen = refl
  ended_left (busy at flow doing) seen = past_by (gone_by (going_at doing) (whole_in seen)) seen
  ended_left (next at) seen = refl
  ended_left over seen = refl

  -- a streamed response that is whole, or is not
  up_owed_seen : (how : Sent) (to : Place) (flow : Flow) (side : ℕ) (seen : Sight) → map (retimed see) (sends_up to flow side how seen) ≡ sends_up to (retimed_flow see flow) side how (retimed_sight see seen)
  up_owed_seen all_sent to flow side seen = refl
  up_owed_seen going_up to flow side seen = refl

  finished_seen_so : (flow : Flow) (seen : Sight) (used : Used) →
      map (retimed see) (finished_coming flow seen used) ≡ finished_coming (retimed_flow see flow) (retimed_sight see seen) used
  finished_seen_so flow seen used = ap (λ l. commands.Send Client (coming_text flow seen) ∷ commands.Done (with_end (retimed_flow see flow) (see seen.now)) ∷ l) (shut_server_seen used)

  came_shown : (to : Place) (at : At) (flow : Flow) (side : ℕ) (how : Sent) (seen : Sight) (came : Option Came) →
      retimed_turn see (pass_came to at flow side how seen came) ≡ pass_came to at (retimed_flow see flow) side how (retimed_sight see seen) came
  came_shown to at flow side how seen None = refl
  came_shown to at flow side how seen (Some came) =
      let stays : Bool = is_sent how && goes_on_behind at.flow flow.request came in
      let kept : Bool = keeps_came at flow how seen came in
      let used : Used = unless_kept kept (server_in side seen) in
      let up : List Command = sends_up to flow side how seen in
      let done : List Command = finished_coming flow seen used in
      let shuts : List Command = shut_unless stays NoServer seen.closed in
      turning_eq _ _ _ _
      (map-append (retimed see) up (done ++ shuts)
      ∙ (ap (λ l. l ++ map (retimed see) (done ++ shuts)) (up_owed_seen how to flow side seen)
      ∙ ap (λ l. sends_up to (retimed_flow see flow) side how (retimed_sight see seen) ++ l)
      (map-append (retimed see) done shuts
      ∙ (ap (λ l. l ++ map (retimed see) shuts) (finished_seen_so flow seen used)
      ∙ ap (λ l. finished_coming (retimed_flow see flow) (retimed_sight see seen) used ++ l) (shut_unless_seen stays NoServer seen.closed)))))
      (behind_seen stays (parks kept to at flow.request side))

  kept_shown : (streams : Bool) (to : Place) (at : At) (flow : Flow) (side : ℕ) (how : Sent) (most : Option ℕ) (seen : Sight) →
      retimed_turn see (pass_kept streams to at flow side how most seen) ≡ pass_kept streams to at (retimed_flow see flow) side how most (retimed_sight see seen)
  kept_shown true to at flow side how most seen = came_shown to at (streaming flow) side how seen (came_in (streaming flow) seen)
  kept_shown false to at flow side how most seen = refl

  pub come_shown : (terms : Terms) (stage : Stage) (seen : Sight) → retimed_turn see (come_down terms stage seen) ≡ come_down terms (retimed_stage see stage) (retimed_sight see seen)
  come_shown terms (idle at) seen = refl
  come_shown terms (busy at flow (request_body given most)) seen = refl
  come_shown terms (busy at flow (connection how)) seen = refl
  come_shown terms (busy at flow (response_head side how)) seen = refl
  come_shown terms (busy at flow (response_body side how most)) seen = kept_shown (streams_in flow most seen) terms.place at flow side how most seen
  come_shown terms (busy at flow (coming_down side how)) seen = came_shown terms.place at flow side how seen (came_in flow seen)
  come_shown terms (busy at flow (upgraded side)) seen = refl
  come_shown terms (busy at flow given_head) seen = refl
  come_shown terms (busy at flow given_body) seen = refl
  come_shown terms (next at) seen = refl
  come_shown terms over seen = refl

  -- what passes behind where a request began to go up
  abbrev behind_begun : Terms → Stage → Sight → Turn Stage Command
  behind_begun terms to seen = behind_turn (end_up terms to seen) (come_down terms (end_up terms to seen).stage (sight_ended to seen))

  begun_seen : (terms : Terms) (stage : Stage) (seen : Sight) → retimed_turn see (behind_begun terms stage seen) ≡ behind_begun terms (retimed_stage see stage) (retimed_sight see seen)
  begun_seen terms stage seen =
      let up : Turn Stage Command = end_up terms stage seen in
      let left : Sight = sight_ended stage seen in
      let down : Turn Stage Command = come_down terms up.stage left in
      turning_eq _ _ _ _ (map-append (retimed see) up.owed down.owed) refl
      ∙ (ap (λ d. behind_turn (retimed_turn see up) d) (come_shown terms up.stage left)
      ∙ (ap (λ u. behind_turn u (come_down terms u.stage (retimed_sight see left))) (ended_shown terms stage seen)
      ∙ ap (λ s. behind_turn (end_up terms (retimed_stage see stage) (retimed_sight see seen))
      (come_down terms (end_up terms (retimed_stage see stage) (retimed_sight see seen)).stage s)) (ended_left stage seen)))

  pub pass_shown : (terms : Terms) (stage : Stage) (seen : Sight) → retimed_turn see (pass terms stage seen) ≡ pass terms (retimed_stage see stage) (shown_sight see stage seen)
  pass_shown terms (idle at) seen = refl
  pass_shown terms (busy at flow doing) seen =
      let stage : Stage = busy at flow doing in
      begun_seen terms (begin_up terms stage seen) (sight_begun stage seen)
      ∙ (ap (λ to. behind_begun terms to (retimed_sight see (sight_begun stage seen))) (begun_shown terms stage seen)
      ∙ ap (λ v. behind_begun terms (begin_up terms (retimed_stage see stage) (retimed_sight see seen)) v) (begun_left stage seen))
  pass_shown terms (next at) seen = refl
  pass_shown terms over seen = refl
