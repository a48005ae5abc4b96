-- What a conversation owes names the flow of its stage, and what a reply brings asks nothing at once and leads on.
use Rattle.std.proofs.Common.{◌≡◌, ℕ, ◌+◌, ◌<◌, Bool, true, false, List, [], ◌∷◌, ◌++◌, Option, Some, None, refl, ap, sym, subst, arith, nat_lt}
use Rattle.std.specs.Prelude.{⊤, ◌==◌, ◌&&◌, map}
use Rattle.std.proofs.lemmas.Bool.{ltb-true}
use Rattle.px_message.specs.declared.fault.Fault.{Fault}
use Rattle.px_message.specs.declared.fault.Fault.TheVariants.{BadResponse}
use Rattle.px_message.specs.declared.flow.Flow.{Flow}
use Rattle.px_message.specs.declared.flow.FlowId.{FlowId}
use Rattle.px_message.specs.declared.request.Request.{Request}
use Rattle.px_message.specs.declared.response.Response.{Response}
use Rattle.px_message.specs.declared.version.Version.{Version}
use Rattle.px_message.specs.declared.version.Version.TheVariants as versions
use Rattle.px_event.specs.declared.command.Command.{Command}
use Rattle.px_event.specs.declared.command.Command.TheVariants as commands
use Rattle.px_event.specs.declared.side.Side.{Side}
use Rattle.px_event.specs.declared.side.Side.TheVariants.{Server}
use Rattle.px_event.specs.declared.reply.Reply.{Reply}
use Rattle.px_event.specs.declared.reply.Reply.TheVariants as reply
use Rattle.px_event.specs.Chain.{Timed, Look, NotYet, Asks, Ends, Turn}
use Rattle.px_read.specs.Items.{Item, missing, part, complete, bad_head, bad_body}
use Rattle.px_read.specs.declared.head.RequestHead.{RequestHead as ReadRequest}
use Rattle.px_read.specs.declared.head.ResponseHead.{ResponseHead as ReadResponse}
use Rattle.px_exchange.specs.declared.asked.Judged.{Judged}
use Rattle.px_exchange.specs.declared.asked.Judged.TheVariants.{Refused, Accepted, Connects}
use Rattle.px_exchange.specs.declared.ending.Used.{Used}
use Rattle.px_exchange.specs.declared.ending.Used.TheVariants.{NoServer, ByServer}
use Rattle.px_exchange.specs.declared.taken.Taken.{Taken}
use Rattle.px_exchange.specs.declared.taken.Taken.TheVariants.{GoesOn, Responds, Kills}
use Rattle.px_exchange.specs.declared.terms.Terms.{Terms}
use Rattle.px_chain.specs.Chain.{bad_or, behind, behind_flow, behind_unspoilt, come_down, dial_leads, dial_owes_by, end_by, end_up, find, find_unspoilt, finish, finish_by, finish_given, given_at, goes_on_by, goes_up_by, going_at, gone, gone_by, keeps_came, killed, leaving, look, look_coming, look_up, parked_for, pass, pass_body, pass_came, pass_given, pass_going, pass_kept, past_gone, reached, sight_begun, sight_ended, so_far, turn, turn_answer, turn_answer_head, turn_body, turn_head, turn_judged, turn_response, turn_returned, turn_taken_answer, turn_taken_body, turn_taken_given, turn_taken_head, turn_taken_returned, turn_taken_whole, turn_whole_answer}
use Rattle.px_chain.specs.Keeping.{keeps_side, parks, shut_by_byte, shut_stray, unspoilt, unspoilt_at}
use Rattle.px_exchange.specs.Finds.{or_leaves, look_head, look_judged, look_body, look_answer, look_answer_head, look_returned, is_relayed}
use Rattle.px_exchange.specs.Texts.{meets_expectation, interim_command, interim_commands}
use Rattle.px_exchange.specs.Flows.{response_of, with_answer, with_body, with_returned}
use Rattle.px_exchange.specs.Endings.{shut_server, shut_client, shut_all, shut_unless, without_response, killed_message, closed_message, ends_early, ends_by_fault, refuses, finished, connection_goes_on, unless_kept}
use Rattle.px_chain.specs.Left.{stage_left, doing_left}
use Rattle.px_chain.proofs.Quiet.{AllQuiet, EndsNone, LooksQuiet, IsOf, any_flow, no_flow, id_in, SameFlow, IsBehind, Leads}
use Rattle.px_exchange.specs.Replies.{taken_at_request_body, taken_at_request_head, taken_at_response_body, taken_at_response_head}
use Rattle.px_exchange.specs.declared.place.Place.{Place}
use Rattle.px_exchange.specs.Requests.{is_head, expects, flow_of, judged}
use Rattle.px_chain.specs.Stages.{At, Parked, Stage, idle, busy, coming_down, next, over, request_body, connection, response_head, response_body, given_head, given_body, upgraded, place_of, unparked, Doing, Sent, all_sent, going_up}
use Rattle.px_chain.specs.Sights.{Sight, answers_in, request_in, server_in, server_parked}
use Rattle.px_chain.specs.Coming.{Came, allowed_by, came_in, finished_coming, goes_on_behind, sends_coming, streaming, streams_in}
use Rattle.px_chain.specs.Going.{allowed_up_by, goes_up, is_sent, sending_on, sends_up, whole_in, with_whole}
use Rattle.px_write.specs.Error.{fault_message}

-- ---- lists

pub all_quiet : (names : FlowId → Type 0) (xs ys : List Command) → AllQuiet names xs → AllQuiet names ys → AllQuiet names (xs ++ ys)
all_quiet names [] ys all more = more
all_quiet names (x ∷ xs) ys (here, all) more = (here, all_quiet names xs ys all more)

sends_quiet : (names : FlowId → Type 0) (heads : List ReadResponse) → AllQuiet names (map interim_command heads)
sends_quiet names [] = tt
sends_quiet names (head ∷ heads) = (tt, sends_quiet names heads)

interim_by : (names : FlowId → Type 0) (version : Version) (message : Request) (heads : List ReadResponse) → message.version ≡ version → AllQuiet names (interim_commands message heads)
interim_by names versions.Http10 message heads is = rw is tt
interim_by names versions.Http11 message heads is = rw is (sends_quiet names heads)

pub interim_quiet : (names : FlowId → Type 0) (message : Request) (heads : List ReadResponse) → AllQuiet names (interim_commands message heads)
interim_quiet names message heads = interim_by names message.version message heads refl

sends_up_quiet : (names : FlowId → Type 0) (place : Place) (flow : Flow) (side : ℕ) (how : Sent) (seen : Sight) → AllQuiet names (sends_up place flow side how seen)
sends_up_quiet names place flow side all_sent seen = tt
sends_up_quiet names place flow side going_up seen = (tt, tt)

-- at the byte of a parked side it is closed
byte_quiet : (names : FlowId → Type 0) (number : ℕ) (bytes : List ℕ) → AllQuiet names (shut_by_byte number bytes ++ [])
byte_quiet names number [] = tt
byte_quiet names number (first ∷ more) = (tt, tt)

pub stray_quiet : (names : FlowId → Type 0) (parked : Option Parked) (seen : Sight) → AllQuiet names (shut_stray parked seen ++ [])
stray_quiet names None seen = tt
stray_quiet names (Some parked) seen = byte_quiet names parked.server seen.server

pub so_far_quiet : (names : FlowId → Type 0) (terms : Terms) (stage : Stage) (seen : Sight) → AllQuiet names (so_far terms stage seen)
so_far_quiet names terms (idle at) seen = stray_quiet names at.parked seen
so_far_quiet names terms (busy at flow (request_body given size)) seen = stray_quiet names at.parked seen
so_far_quiet names terms (busy at flow (connection how)) seen = stray_quiet names at.parked seen
so_far_quiet names terms (busy at flow (response_head side how)) seen =
    all_quiet names (sends_up terms.place flow side how seen) _ (sends_up_quiet names terms.place flow side how seen) (interim_quiet names flow.request _)
so_far_quiet names terms (busy at flow (response_body side how most)) seen = sends_up_quiet names terms.place flow side how seen
so_far_quiet names terms (busy at flow (coming_down side how)) seen =
    all_quiet names (sends_up terms.place flow side how seen) (sends_coming flow seen) (sends_up_quiet names terms.place flow side how seen) (tt, tt)
so_far_quiet names terms (busy at flow (upgraded side)) seen = tt
so_far_quiet names terms (busy at flow given_head) seen = stray_quiet names at.parked seen
so_far_quiet names terms (busy at flow given_body) seen = stray_quiet names at.parked seen
so_far_quiet names terms (next at) seen = stray_quiet names at.parked seen
so_far_quiet names terms over seen = tt

expectation_quiet : (names : FlowId → Type 0) (expected : Bool) → AllQuiet names (meets_expectation expected)
expectation_quiet names true = (tt, tt)
expectation_quiet names false = tt

-- ---- ends

module _ (names : FlowId → Type 0) where
  client_quiet : (closed : Bool) → AllQuiet names (shut_client closed)
  client_quiet true = tt
  client_quiet false = (tt, tt)

  server_quiet : (used : Used) → AllQuiet names (shut_server used)
  server_quiet NoServer = tt
  server_quiet (ByServer number true) = tt
  server_quiet (ByServer number false) = (tt, tt)

  shuts_quiet : (used : Used) (closed : Bool) → AllQuiet names (shut_all used closed)
  shuts_quiet used closed = all_quiet names (shut_server used) (shut_client closed) (server_quiet used) (client_quiet closed)

  early_quiet : (flow : Flow) (message : List ℕ) (moment : ℕ) (used : Used) (closed : Bool) → names flow.id → AllQuiet names (ends_early flow message moment used closed)
  early_quiet flow message moment used closed is = (is, shuts_quiet used closed)

  fault_quiet : (flow : Flow) (fault : Fault) (moment : ℕ) (used : Used) (closed : Bool) → names flow.id → AllQuiet names (ends_by_fault flow fault moment used closed)
  fault_quiet flow fault moment used closed is = (tt, (is, shuts_quiet used closed))

  refuses_quiet : (fault : Fault) (asked_head : Bool) (used : Used) (closed : Bool) → AllQuiet names (refuses fault asked_head used closed)
  refuses_quiet fault asked_head used closed = (tt, shuts_quiet used closed)

  unless_quiet : (stays : Bool) (used : Used) (closed : Bool) → AllQuiet names (shut_unless stays used closed)
  unless_quiet true used closed = tt
  unless_quiet false used closed = shuts_quiet used closed

  finished_quiet : (flow : Flow) (response : Response) (used : Used) → names flow.id → AllQuiet names (finished flow response used)
  finished_quiet flow response used is = (tt, (is, server_quiet used))

  -- ---- looks

  module _ (terms : Terms) where
    judged_quiet : (index : ℕ) (head : ReadRequest) (made : Judged) (moment : ℕ) (used : Used) (closed : Bool) → names (id_in terms index) → LooksQuiet names (look_judged terms index head made moment used closed)
    judged_quiet index head (Refused fault) moment used closed is = refuses_quiet fault (is_head head.method) used closed
    judged_quiet index head (Accepted message) moment used closed is = (is, refl)
    judged_quiet index head (Connects address) moment used closed is = tt

    head_quiet : (index : ℕ) (item : Item ReadRequest) (moment : ℕ) (used : Used) (closed : Bool) → names (id_in terms index) → LooksQuiet names (look_head terms index item moment used closed)
    head_quiet index missing moment used closed is = tt
    head_quiet index (part head body) moment used closed is = judged_quiet index head (judged terms.place head) moment used closed is
    head_quiet index (complete head body trailers size) moment used closed is = judged_quiet index head (judged terms.place head) moment used closed is
    head_quiet index (bad_head fault) moment used closed is = refuses_quiet fault false used closed
    head_quiet index (bad_body fault head body) moment used closed is = judged_quiet index head (judged terms.place head) moment used closed is

    body_quiet : (flow : Flow) (item : Item ReadRequest) (moment : ℕ) (used : Used) (closed : Bool) → names flow.id → LooksQuiet names (look_body flow item moment used closed)
    body_quiet flow missing moment used closed is = tt
    body_quiet flow (part head body) moment used closed is = tt
    body_quiet flow (complete head body trailers size) moment used closed is = (is, refl)
    body_quiet flow (bad_head fault) moment used closed is = tt
    body_quiet flow (bad_body fault head body) moment used closed is = fault_quiet flow fault moment used closed is

    relays_quiet : (flow : Flow) (head : ReadResponse) (moment : ℕ) (used : Used) (closed relays : Bool) → names flow.id → is_relayed head.code ≡ relays →
        LooksQuiet names (look_answer_head flow head moment used closed)
    relays_quiet flow head moment used closed true is at = rw at (is, refl)
    relays_quiet flow head moment used closed false is at = rw at (fault_quiet flow BadResponse moment used closed is)

    answer_quiet : (flow : Flow) (item : Item ReadResponse) (moment : ℕ) (used : Used) (closed : Bool) → names flow.id → LooksQuiet names (look_answer flow item moment used closed)
    answer_quiet flow missing moment used closed is = tt
    answer_quiet flow (part head body) moment used closed is = relays_quiet flow head moment used closed (is_relayed head.code) is refl
    answer_quiet flow (complete head body trailers size) moment used closed is = relays_quiet flow head moment used closed (is_relayed head.code) is refl
    answer_quiet flow (bad_head fault) moment used closed is = fault_quiet flow fault moment used closed is
    answer_quiet flow (bad_body fault head body) moment used closed is = relays_quiet flow head moment used closed (is_relayed head.code) is refl

    returned_quiet : (flow : Flow) (item : Item ReadResponse) (moment : ℕ) (used : Used) (closed : Bool) → names flow.id → LooksQuiet names (look_returned flow item moment used closed)
    returned_quiet flow missing moment used closed is = tt
    returned_quiet flow (part head body) moment used closed is = tt
    returned_quiet flow (complete head body trailers size) moment used closed is = (is, refl)
    returned_quiet flow (bad_head fault) moment used closed is = tt
    returned_quiet flow (bad_body fault head body) moment used closed is = fault_quiet flow fault moment used closed is

    coming_quiet : (flow : Flow) (item : Item ReadResponse) (moment : ℕ) (used : Used) (closed : Bool) → names flow.id → LooksQuiet names (look_coming flow item moment used closed)
    coming_quiet flow missing moment used closed is = tt
    coming_quiet flow (part head body) moment used closed is = tt
    coming_quiet flow (complete head body trailers size) moment used closed is = tt
    coming_quiet flow (bad_head fault) moment used closed is = tt
    coming_quiet flow (bad_body fault head body) moment used closed is = early_quiet flow (fault_message fault) moment used closed is

    -- a bad body of a request that goes up is found first
    bad_quiet : (item : Item ReadRequest) (ends : Fault → List Command) (found : Look Command) → ((fault : Fault) → AllQuiet names (ends fault)) → LooksQuiet names found →
        LooksQuiet names (bad_or item ends found)
    bad_quiet missing ends found quiet is = is
    bad_quiet (part head body) ends found quiet is = is
    bad_quiet (complete head body trailers size) ends found quiet is = is
    bad_quiet (bad_head fault) ends found quiet is = is
    bad_quiet (bad_body fault head body) ends found quiet is = quiet fault

    up_quiet : (how : Sent) (seen : Sight) (ends : Fault → List Command) (found : Look Command) → ((fault : Fault) → AllQuiet names (ends fault)) → LooksQuiet names found →
        LooksQuiet names (look_up how seen ends found)
    up_quiet all_sent seen ends found quiet is = is
    up_quiet going_up seen ends found quiet is = bad_quiet (request_in seen) ends found quiet is

    finds_quiet : (stage : Stage) (seen : Sight) → IsOf terms names stage → LooksQuiet names (find_unspoilt terms stage seen)
    finds_quiet (idle at) seen is = head_quiet at.flow (request_in seen) seen.now (server_parked at.parked seen) seen.closed is
    finds_quiet (busy at flow (request_body given size)) seen is = body_quiet flow (request_in seen) seen.now (server_parked at.parked seen) seen.closed is
    finds_quiet (busy at flow (connection how)) seen is = tt
    finds_quiet (busy at flow (response_head side how)) seen is =
        up_quiet how seen _ _ (λ fault. fault_quiet flow fault seen.now (server_in side seen) seen.closed is)
        (answer_quiet flow (answers_in flow.request seen).final seen.now (server_in side seen) seen.closed is)
    finds_quiet (busy at flow (response_body side how most)) seen is =
        up_quiet how seen _ _ (λ fault. fault_quiet flow fault seen.now (server_in side seen) seen.closed is)
        (returned_quiet flow (answers_in flow.request seen).final seen.now (server_in side seen) seen.closed is)
    finds_quiet (busy at flow (coming_down side how)) seen is =
        up_quiet how seen _ _ (λ fault. early_quiet flow (fault_message fault) seen.now (server_in side seen) seen.closed is)
        (coming_quiet flow (answers_in flow.request seen).final seen.now (server_in side seen) seen.closed is)
    finds_quiet (busy at flow (upgraded side)) seen is = tt
    finds_quiet (busy at flow given_head) seen is = (is, refl)
    finds_quiet (busy at flow given_body) seen is = (is, refl)
    finds_quiet (next at) seen is = tt
    finds_quiet over seen is = tt

    leaving_quiet : (stage : Stage) (seen : Sight) → IsOf terms names stage → AllQuiet names (leaving stage seen)
    leaving_quiet (idle at) seen is = server_quiet (server_parked at.parked seen)
    leaving_quiet (busy at flow (request_body given size)) seen is = early_quiet flow closed_message seen.now (server_parked at.parked seen) true is
    leaving_quiet (busy at flow (connection how)) seen is = tt
    leaving_quiet (busy at flow (response_head side how)) seen is = early_quiet flow closed_message seen.now (server_in side seen) true is
    leaving_quiet (busy at flow (response_body side how most)) seen is = early_quiet (without_response flow) closed_message seen.now (server_in side seen) true is
    leaving_quiet (busy at flow (coming_down side how)) seen is = early_quiet flow closed_message seen.now (server_in side seen) true is
    leaving_quiet (busy at flow (upgraded side)) seen is = tt
    leaving_quiet (busy at flow given_head) seen is = tt
    leaving_quiet (busy at flow given_body) seen is = tt
    leaving_quiet (next at) seen is = tt
    leaving_quiet over seen is = tt

    leaves_quiet : (closed : Bool) (leaves : List Command) (l : Look Command) → AllQuiet names leaves → LooksQuiet names l → LooksQuiet names (or_leaves closed leaves l)
    leaves_quiet true leaves NotYet quiet is = quiet
    leaves_quiet false leaves NotYet quiet is = tt
    leaves_quiet closed leaves (Asks ask) quiet is = is
    leaves_quiet closed leaves (Ends owed) quiet is = is

    -- it is the same flow's where the keeping of a parked side has ended
    unspoilt_of : (stage : Stage) (seen : Sight) → IsOf terms names stage → IsOf terms names (unspoilt stage seen)
    unspoilt_of (idle at) seen is = is
    unspoilt_of (busy at flow doing) seen is = is
    unspoilt_of (next at) seen is = is
    unspoilt_of over seen is = is

    pub looks_quiet : (stage : Stage) (seen : Sight) → IsOf terms names stage → LooksQuiet names (look terms stage seen)
    looks_quiet stage seen is =
        let there : Stage = unspoilt stage seen in
        let same = unspoilt_of stage seen is in
        leaves_quiet seen.closed (leaving there seen) (find terms stage seen) (leaving_quiet there seen same) (finds_quiet there seen same)

    -- ---- turns

    module _ (flow_now dials count : ℕ) where
      abbrev Led : Turn Stage Command → Type 0
      Led turned = Leads terms names flow_now dials count turned

      over_led : (owed : List Command) → AllQuiet names owed → Led (record { owed = owed; stage = over })
      over_led owed quiet = record { quiet = quiet; is_of = tt; ends_none = tt; behind = tt }

      killed_led : (flow : Flow) (moment : ℕ) (used : Used) (closed : Bool) → names flow.id → Led (killed flow moment used closed)
      killed_led flow moment used closed is = over_led _ (early_quiet flow killed_message moment used closed is)

      taken_head_led : (at : At) (flow : Flow) (expected : Bool) (size : Option ℕ) (taken : Taken Request) (moment : ℕ) (seen : Sight) → SameFlow flow_now dials at → 4 < count → names flow.id →
          Led (turn_taken_head at flow expected size taken moment seen)
      taken_head_led at flow expected size (GoesOn message) moment seen at_flow more is = record { quiet = expectation_quiet names expected; is_of = is; ends_none = expectation_quiet no_flow expected; behind = (at_flow, more) }
      taken_head_led at flow expected size (Responds response) moment seen at_flow more is = record { quiet = expectation_quiet names expected; is_of = is; ends_none = expectation_quiet no_flow expected; behind = (at_flow, more) }
      taken_head_led at flow expected size Kills moment seen at_flow more is = killed_led flow moment (server_parked at.parked seen) seen.closed is

      judged_led : (at : At) (head : ReadRequest) (made : Judged) (seen : Sight) (answer : Timed Reply) → SameFlow flow_now dials at → 4 < count → names (id_in terms at.flow) →
          Led (turn_judged terms at head made seen answer)
      judged_led at head (Refused fault) seen answer at_flow more is = over_led [] tt
      judged_led at head (Connects address) seen answer at_flow more is = over_led [] tt
      judged_led at head (Accepted message) seen answer at_flow more is =
          taken_head_led at (flow_of terms at.flow message seen.now) (expects head) (allowed_up_by terms.streams answer.value) (taken_at_request_head message answer.value) answer.moment seen at_flow more is

      head_led : (at : At) (item : Item ReadRequest) (seen : Sight) (answer : Timed Reply) → SameFlow flow_now dials at → 4 < count → names (id_in terms at.flow) →
          Led (turn_head terms at item seen answer)
      head_led at missing seen answer at_flow more is = over_led [] tt
      head_led at (part head body) seen answer at_flow more is = judged_led at head (judged terms.place head) seen answer at_flow more is
      head_led at (complete head body trailers used) seen answer at_flow more is = judged_led at head (judged terms.place head) seen answer at_flow more is
      head_led at (bad_head fault) seen answer at_flow more is = over_led [] tt
      head_led at (bad_body fault head body) seen answer at_flow more is = judged_led at head (judged terms.place head) seen answer at_flow more is

      goes_on_led : (side : Option ℕ) (place : Place) (at : At) (flow : Flow) → SameFlow flow_now dials at → 3 < count → names flow.id →
          Led (goes_on_by side place at flow)
      goes_on_led None place at flow at_flow more is = record { quiet = tt; is_of = is; ends_none = tt; behind = (at_flow, more) }
      goes_on_led (Some side) place at flow at_flow more is =
          let few = at_flow.1 in record { quiet = (tt, tt); is_of = is; ends_none = (tt, tt); behind = ((at_flow.0, omega arith), omega arith) }

      taken_body_led : (place : Place) (at : At) (flow : Flow) (taken : Taken Request) (moment : ℕ) (seen : Sight) →
          SameFlow flow_now dials at → 3 < count → names flow.id → Led (turn_taken_body place at flow taken moment seen)
      taken_body_led place at flow (GoesOn message) moment seen at_flow more is =
          goes_on_led (parked_for place message at.parked) place at (record flow { request = message }) at_flow more is
      taken_body_led place at flow (Responds response) moment seen at_flow more is = record { quiet = tt; is_of = is; ends_none = tt; behind = (at_flow, omega arith) }
      taken_body_led place at flow Kills moment seen at_flow more is = killed_led flow moment (server_parked at.parked seen) seen.closed is

      body_led : (place : Place) (at : At) (flow : Flow) (item : Item ReadRequest) (seen : Sight) (answer : Timed Reply) → SameFlow flow_now dials at → 3 < count → names flow.id →
          Led (turn_body place at flow item seen answer)
      body_led place at flow missing seen answer at_flow more is = over_led [] tt
      body_led place at flow (part head body) seen answer at_flow more is = over_led [] tt
      body_led place at flow (complete head body trailers used) seen answer at_flow more is =
          let asked_flow : Flow = with_body flow body.content trailers seen.now in
          taken_body_led place at asked_flow (taken_at_request_body asked_flow.request answer.value) answer.moment seen at_flow more is
      body_led place at flow (bad_head fault) seen answer at_flow more is = over_led [] tt
      body_led place at flow (bad_body fault head body) seen answer at_flow more is = over_led [] tt

      dial_led : (at : At) (flow : Flow) (how : Sent) (answer : Reply) (moment : ℕ) (closed : Bool) → SameFlow flow_now dials at → 2 < count → names flow.id →
          Led (record { owed = dial_owes_by how terms.place flow at.dials answer moment closed; stage = dial_leads terms.place at flow how answer })
      dial_led at flow all_sent reply.Dialled moment closed at_flow more is =
          let few = at_flow.1 in record { quiet = (tt, tt); is_of = is; ends_none = (tt, tt); behind = ((at_flow.0, omega arith), more) }
      dial_led at flow all_sent (reply.Refused fault) moment closed at_flow more is = over_led _ (fault_quiet flow fault moment NoServer closed is)
      dial_led at flow all_sent (reply.Go other stream) moment closed at_flow more is = over_led [] tt
      dial_led at flow all_sent (reply.Respond given) moment closed at_flow more is = over_led [] tt
      dial_led at flow all_sent reply.Kill moment closed at_flow more is = over_led [] tt
      dial_led at flow all_sent reply.Discard moment closed at_flow more is = over_led [] tt
      dial_led at flow going_up reply.Dialled moment closed at_flow more is =
          let few = at_flow.1 in record { quiet = tt; is_of = is; ends_none = tt; behind = ((at_flow.0, omega arith), more) }
      dial_led at flow going_up (reply.Refused fault) moment closed at_flow more is = over_led _ (fault_quiet flow fault moment NoServer closed is)
      dial_led at flow going_up (reply.Go other stream) moment closed at_flow more is = over_led [] tt
      dial_led at flow going_up (reply.Respond given) moment closed at_flow more is = over_led [] tt
      dial_led at flow going_up reply.Kill moment closed at_flow more is = over_led [] tt
      dial_led at flow going_up reply.Discard moment closed at_flow more is = over_led [] tt

      taken_answer_led : (at : At) (flow : Flow) (side : ℕ) (how : Sent) (most : Option ℕ) (taken : Taken Response) (moment : ℕ) (used : Used) (closed : Bool) →
          SameFlow flow_now dials at → 1 < count → names flow.id → Led (turn_taken_answer at flow side how most taken moment used closed)
      taken_answer_led at flow side how most (GoesOn message) moment used closed at_flow more is = record { quiet = tt; is_of = is; ends_none = tt; behind = (at_flow, more) }
      taken_answer_led at flow side how most (Responds response) moment used closed at_flow more is = killed_led (without_response flow) moment used closed is
      taken_answer_led at flow side how most Kills moment used closed at_flow more is = killed_led (without_response flow) moment used closed is

      answer_head_led : (at : At) (flow : Flow) (side : ℕ) (how : Sent) (head : ReadResponse) (seen : Sight) (answer : Timed Reply) → SameFlow flow_now dials at → 1 < count → names flow.id →
          Led (turn_answer_head terms at flow side how head seen answer)
      answer_head_led at flow side how head seen answer at_flow more is =
          taken_answer_led at (with_answer flow (response_of head) seen.now) side how (allowed_by terms.streams answer.value) (taken_at_response_head (response_of head) answer.value) answer.moment (server_in side seen) seen.closed at_flow more is

      answer_led : (at : At) (flow : Flow) (side : ℕ) (how : Sent) (item : Item ReadResponse) (seen : Sight) (answer : Timed Reply) → SameFlow flow_now dials at → 1 < count → names flow.id →
          Led (turn_answer terms at flow side how item seen answer)
      answer_led at flow side how missing seen answer at_flow more is = over_led [] tt
      answer_led at flow side how (part head body) seen answer at_flow more is = answer_head_led at flow side how head seen answer at_flow more is
      answer_led at flow side how (complete head body trailers size) seen answer at_flow more is = answer_head_led at flow side how head seen answer at_flow more is
      answer_led at flow side how (bad_head fault) seen answer at_flow more is = over_led [] tt
      answer_led at flow side how (bad_body fault head body) seen answer at_flow more is = answer_head_led at flow side how head seen answer at_flow more is

      last_true : (a b : Bool) → (a && b) ≡ true → b ≡ true
      last_true true b is = is
      last_true false b is = absurd (let e : false ≡ true = is in cc)

      finish_led : (at : At) (owed : List Command) (stays : Bool) → (stays ≡ true → at.flow + 1 < 1000000) → AllQuiet names owed → SameFlow flow_now dials at →
          Led (record { owed = owed; stage = behind_flow stays at })
      finish_led at owed true few quiet (at_flow, dialled) =
          let less = few refl in record { quiet = quiet; is_of = tt; ends_none = tt; behind = ((ap (λ n. n + 1) at_flow, dialled), omega arith) }
      finish_led at owed false few quiet at_flow = over_led owed quiet

      finished_led : (at : At) (flow : Flow) (message : Response) (parked : Used) (closed : Bool) → SameFlow flow_now dials at → names flow.id →
          Led (finish_given at flow message parked closed)
      finished_led at flow message parked closed at_flow is =
          let stays : Bool = connection_goes_on at.flow flow.request message in
          finish_led at (finished flow message NoServer ++ shut_unless stays parked closed) stays
          (λ on. ltb-true (at.flow + 1) 1000000 (last_true _ (nat_lt (at.flow + 1) 1000000) on))
          (all_quiet names (finished flow message NoServer) (shut_unless stays parked closed) (finished_quiet flow message NoServer is) (unless_quiet stays parked closed)) at_flow

      -- so is it behind a side of its own, which is parked there, or none is
      own_led : (keeps : Bool) (place : Place) (at : At) (request : Request) (side : ℕ) (owed : List Command) (stays : Bool) → (stays ≡ true → at.flow + 1 < 1000000) → AllQuiet names owed →
          SameFlow flow_now dials at → Led (record { owed = owed; stage = behind_flow stays (parks keeps place at request side) })
      own_led true place at request side owed stays few quiet at_flow = finish_led (parks true place at request side) owed stays few quiet at_flow
      own_led false place at request side owed stays few quiet at_flow = finish_led (parks false place at request side) owed stays few quiet at_flow

      finished_own_led : (place : Place) (at : At) (flow : Flow) (how : Sent) (message : Response) (keeps : Bool) (side : ℕ) (used : Used) (closed : Bool) → SameFlow flow_now dials at → names flow.id →
          Led (finish place at flow how message keeps side used closed)
      finished_own_led place at flow how message keeps side used closed at_flow is =
          let goes_on : Bool = connection_goes_on at.flow flow.request message in
          let stays : Bool = is_sent how && goes_on in
          let rest : Used = unless_kept (stays && keeps) used in
          own_led (stays && keeps) place at flow.request side (finished flow message rest ++ shut_unless stays NoServer closed) stays
          (λ on. ltb-true (at.flow + 1) 1000000 (last_true _ (nat_lt (at.flow + 1) 1000000) (last_true (is_sent how) goes_on on)))
          (all_quiet names (finished flow message rest) (shut_unless stays NoServer closed) (finished_quiet flow message rest is) (unless_quiet stays NoServer closed)) at_flow

      taken_returned_led : (at : At) (flow : Flow) (taken : Taken Response) (moment : ℕ) (used : Used) (closed : Bool) → SameFlow flow_now dials at → names flow.id →
          Led (turn_taken_returned at flow taken moment used closed)
      taken_returned_led at flow (GoesOn message) moment used closed at_flow is = finished_led at flow message used closed at_flow is
      taken_returned_led at flow (Responds response) moment used closed at_flow is = killed_led flow moment used closed is
      taken_returned_led at flow Kills moment used closed at_flow is = killed_led flow moment used closed is

      response_led : (o : Option Response) (takes : Response → Taken Response) (goes : Taken Response → Turn Stage Command) → ((taken : Taken Response) → Led (goes taken)) →
          Led (turn_response o takes goes)
      response_led None takes goes led = over_led [] tt
      response_led (Some message) takes goes led = led (takes message)

      whole_answer_led : (at : At) (flow : Flow) (answer : Timed Reply) (used : Used) (closed : Bool) → SameFlow flow_now dials at → names flow.id →
          Led (turn_whole_answer at flow answer used closed)
      whole_answer_led at flow answer used closed at_flow is =
          response_led flow.response (λ message. taken_at_response_body message answer.value) (λ taken. turn_taken_returned at flow taken answer.moment used closed)
          (λ taken. taken_returned_led at flow taken answer.moment used closed at_flow is)

      finish_by_led : (switches : Bool) (place : Place) (at : At) (flow : Flow) (how : Sent) (message : Response) (keeps : Bool) (side : ℕ) (used : Used) (closed : Bool) →
          SameFlow flow_now dials at → 0 < count → names flow.id → Led (finish_by switches place at flow how message keeps side used closed)
      finish_by_led true place at flow how message keeps side used closed at_flow more is = record { quiet = (tt, tt); is_of = is; ends_none = (tt, tt); behind = (at_flow, more) }
      finish_by_led false place at flow how message keeps side used closed at_flow more is = finished_own_led place at flow how message keeps side used closed at_flow is

      taken_whole_led : (place : Place) (at : At) (flow : Flow) (side : ℕ) (how : Sent) (keeps : Bool) (taken : Taken Response) (moment : ℕ) (used : Used) (closed : Bool) →
          SameFlow flow_now dials at → 0 < count → names flow.id → Led (turn_taken_whole place at flow side how keeps taken moment used closed)
      taken_whole_led place at flow side how keeps (GoesOn message) moment used closed at_flow more is =
          finish_by_led (is_sent how && message.status == 101) place at flow how message keeps side used closed at_flow more is
      taken_whole_led place at flow side how keeps (Responds response) moment used closed at_flow more is = killed_led flow moment used closed is
      taken_whole_led place at flow side how keeps Kills moment used closed at_flow more is = killed_led flow moment used closed is

      returned_led : (place : Place) (at : At) (flow : Flow) (side : ℕ) (how : Sent) (item : Item ReadResponse) (seen : Sight) (answer : Timed Reply) →
          SameFlow flow_now dials at → 0 < count → names flow.id → Led (turn_returned place at flow side how item seen answer)
      returned_led place at flow side how missing seen answer at_flow more is = over_led [] tt
      returned_led place at flow side how (part head body) seen answer at_flow more is = over_led [] tt
      returned_led place at flow side how (complete head body trailers size) seen answer at_flow more is =
          let asked_flow : Flow = with_returned flow body.content trailers seen.now in
          let keeps : Bool = keeps_side flow.request seen head in
          response_led asked_flow.response (λ message. taken_at_response_body message answer.value)
          (λ taken. turn_taken_whole place at asked_flow side how keeps taken answer.moment (server_in side seen) seen.closed)
          (λ taken. taken_whole_led place at asked_flow side how keeps taken answer.moment (server_in side seen) seen.closed at_flow more is)
      returned_led place at flow side how (bad_head fault) seen answer at_flow more is = over_led [] tt
      returned_led place at flow side how (bad_body fault head body) seen answer at_flow more is = over_led [] tt

      -- a streamed response that is whole
      came_led : (at : At) (flow : Flow) (side : ℕ) (how : Sent) (seen : Sight) (came : Option Came) → SameFlow flow_now dials at → 0 < count → names flow.id →
          Led (pass_came terms.place at flow side how seen came)
      came_led at flow side how seen None at_flow more is = record { quiet = tt; is_of = is; ends_none = tt; behind = (at_flow, more) }
      came_led at flow side how seen (Some came) at_flow more is =
          let goes_on : Bool = goes_on_behind at.flow flow.request came in
          let stays : Bool = is_sent how && goes_on in
          let kept : Bool = keeps_came at flow how seen came in
          let used : Used = unless_kept kept (server_in side seen) in
          let owed : List Command = finished_coming flow seen used ++ shut_unless stays NoServer seen.closed in
          own_led kept terms.place at flow.request side (sends_up terms.place flow side how seen ++ owed) stays
          (λ on. ltb-true (at.flow + 1) 1000000 (last_true _ (nat_lt (at.flow + 1) 1000000) (last_true (is_sent how) goes_on on)))
          (all_quiet names (sends_up terms.place flow side how seen) owed (sends_up_quiet names terms.place flow side how seen)
          (all_quiet names (finished_coming flow seen used) (shut_unless stays NoServer seen.closed) (tt, (is, server_quiet used))
          (unless_quiet stays NoServer seen.closed))) at_flow

      kept_led : (streams : Bool) (at : At) (flow : Flow) (side : ℕ) (how : Sent) (most : Option ℕ) (seen : Sight) → SameFlow flow_now dials at → 1 < count → names flow.id →
          Led (pass_kept streams terms.place at flow side how most seen)
      kept_led true at flow side how most seen at_flow more is = came_led at (streaming flow) side how seen (came_in (streaming flow) seen) at_flow (omega arith) is
      kept_led false at flow side how most seen at_flow more is = record { quiet = tt; is_of = is; ends_none = tt; behind = (at_flow, more) }

      -- where a response comes down, or none does
      down_led : (at : At) (flow : Flow) (doing : Doing) (seen : Sight) → SameFlow flow_now dials at → doing_left doing < count → names flow.id → Led (come_down terms (busy at flow doing) seen)
      down_led at flow (request_body given size) seen at_flow more is = record { quiet = tt; is_of = is; ends_none = tt; behind = (at_flow, more) }
      down_led at flow (connection how) seen at_flow more is = record { quiet = tt; is_of = is; ends_none = tt; behind = (at_flow, more) }
      down_led at flow (response_head side how) seen at_flow more is =
          let few = at_flow.1 in record { quiet = tt; is_of = is; ends_none = tt; behind = ((at_flow.0, omega arith), more) }
      down_led at flow (response_body side how most) seen at_flow more is = kept_led (streams_in flow most seen) at flow side how most seen at_flow more is
      down_led at flow (coming_down side how) seen at_flow more is = came_led at flow side how seen (came_in flow seen) at_flow more is
      down_led at flow (upgraded side) seen at_flow more is = record { quiet = tt; is_of = is; ends_none = tt; behind = (at_flow, more) }
      down_led at flow given_head seen at_flow more is = record { quiet = tt; is_of = is; ends_none = tt; behind = (at_flow, more) }
      down_led at flow given_body seen at_flow more is = record { quiet = tt; is_of = is; ends_none = tt; behind = (at_flow, more) }

      -- bytes before it end no flow
      none_more : (stage : Stage) (side : Side) (text : List ℕ) (owed : List Command) → EndsNone stage owed → EndsNone stage (commands.Send side text ∷ owed)
      none_more (idle at) side text owed none = (tt, none)
      none_more (busy at flow doing) side text owed none = (tt, none)
      none_more (next at) side text owed none = tt
      none_more over side text owed none = tt

      gone_left : (doing : Doing) → doing_left (gone doing) ≡ doing_left doing
      gone_left (request_body given size) = refl
      gone_left (connection how) = refl
      gone_left (response_head side how) = refl
      gone_left (response_body side how most) = refl
      gone_left (coming_down side how) = refl
      gone_left (upgraded side) = refl
      gone_left given_head = refl
      gone_left given_body = refl

      -- where a request is whole, and behind that
      up_led : (g : Option ℕ) (at : At) (flow : Flow) (doing : Doing) (seen : Sight) → SameFlow flow_now dials at → doing_left doing < count → names flow.id →
          Led (record {
            owed = (end_by g terms.place at flow doing seen).owed ++ (come_down terms (end_by g terms.place at flow doing seen).stage (past_gone g seen)).owed;
            stage = (come_down terms (end_by g terms.place at flow doing seen).stage (past_gone g seen)).stage;
          })
      up_led None at flow doing seen at_flow more is =
          let down = down_led at flow doing seen at_flow more is in record { quiet = down.quiet; is_of = down.is_of; ends_none = down.ends_none; behind = down.behind }
      up_led (Some server) at flow doing seen at_flow more is =
          let same = gone_left doing in
          let left : Sight = past_gone (Some server) seen in
          let whole : Flow = with_whole flow seen.now in
          let down = down_led at whole (gone doing) left at_flow (omega arith) is in
          let to : Turn Stage Command = come_down terms (busy at whole (gone doing)) left in
          record { quiet = (tt, down.quiet); is_of = down.is_of; ends_none = none_more to.stage (Server server) _ to.owed down.ends_none; behind = down.behind }

      -- a request that begins to go up, is whole whose response is given, or is awaited still
      module _ (at : At) (flow : Flow) (holds : Stage → Type 0) (each : (to : At) (told : Flow) (doing : Doing) → SameFlow at.flow at.dials to → doing_left doing < 5 → told.id ≡ flow.id →
          holds (busy to told doing)) where
        up_begins : (side : Option ℕ) (place : Place) (told : Flow) → told.id ≡ flow.id → holds (goes_up_by side place at told)
        up_begins None place told same = each at told (connection going_up) (refl, omega arith) (omega arith) same
        up_begins (Some server) place told same = each (unparked at) (reached place told) (response_head server going_up) (refl, omega arith) (omega arith) same

        going_begins : (up : Bool) (place : Place) (size : Option ℕ) (seen : Sight) → holds (pass_going up place at flow size seen)
        going_begins true place size seen = up_begins (parked_for place flow.request (unspoilt_at at seen).parked) place (sending_on flow) refl
        going_begins false place size seen = each at flow (request_body None size) (refl, omega arith) (omega arith) refl

        given_begins : (response : Response) (size : Option ℕ) (item : Item ReadRequest) (now : ℕ) → holds (pass_given at flow response size item now)
        given_begins response size missing now = each at flow (request_body (Some response) size) (refl, omega arith) (omega arith) refl
        given_begins response size (part head body) now = each at flow (request_body (Some response) size) (refl, omega arith) (omega arith) refl
        given_begins response size (complete head body trailers used) now =
            each at (record (with_body flow body.content trailers now) { response = Some response }) given_head (refl, omega arith) (omega arith) refl
        given_begins response size (bad_head fault) now = each at flow (request_body (Some response) size) (refl, omega arith) (omega arith) refl
        given_begins response size (bad_body fault head body) now = each at flow (request_body (Some response) size) (refl, omega arith) (omega arith) refl

        body_begins : (place : Place) (given : Option Response) (size : Option ℕ) (seen : Sight) → holds (pass_body place at flow given size seen)
        body_begins place None size seen = going_begins (goes_up size seen) place size seen
        body_begins place (Some response) size seen = given_begins response size (request_in seen) seen.now

      -- where a flow passes, from a stage that it began at
      passed_led : (at : At) (flow : Flow) (doing : Doing) (seen : Sight) → SameFlow flow_now dials at → doing_left doing < count → names flow.id →
          Led (record {
            owed = (end_up terms (busy at flow doing) seen).owed ++ (come_down terms (end_up terms (busy at flow doing) seen).stage (sight_ended (busy at flow doing) seen)).owed;
            stage = (come_down terms (end_up terms (busy at flow doing) seen).stage (sight_ended (busy at flow doing) seen)).stage;
          })
      passed_led at flow doing seen at_flow more is = up_led (gone_by (going_at doing) (whole_in seen)) at flow doing seen at_flow more is

      given_led : (at : At) (flow : Flow) (taken : Taken Response) (moment : ℕ) (parked : Used) (closed : Bool) → SameFlow flow_now dials at → 1 < count → names flow.id →
          Led (turn_taken_given at flow taken moment parked closed)
      given_led at flow (GoesOn message) moment parked closed at_flow more is = record { quiet = tt; is_of = is; ends_none = tt; behind = (at_flow, more) }
      given_led at flow (Responds response) moment parked closed at_flow more is = killed_led (without_response flow) moment parked closed is
      given_led at flow Kills moment parked closed at_flow more is = killed_led (without_response flow) moment parked closed is

-- a stage at which something may be asked
abbrev pub IsGoing : Stage → Type 0
IsGoing (next at) = ⊥
IsGoing stage = ⊤

pub turn_led : (terms : Terms) (names : FlowId → Type 0) (stage : Stage) (seen : Sight) (answer : Timed Reply) → IsGoing stage → IsOf terms names stage →
    Leads terms names (place_of stage).flow (place_of stage).dials (stage_left stage) (turn terms stage seen answer)
turn_led terms names (idle at) seen answer goes is =
    head_led names terms at.flow at.dials 5 (unspoilt_at at seen) (request_in seen) seen answer (refl, omega arith) (omega arith) is
turn_led terms names (busy at flow (request_body given size)) seen answer goes is =
    body_led names terms at.flow at.dials 4 terms.place (unspoilt_at at seen) flow (request_in seen) seen answer (refl, omega arith) (omega arith) is
turn_led terms names (busy at flow (connection how)) seen answer goes is =
    dial_led names terms at.flow at.dials 3 (unspoilt_at at seen) flow how answer.value answer.moment seen.closed (refl, omega arith) (omega arith) is
turn_led terms names (busy at flow (response_head side how)) seen answer goes is =
    answer_led names terms at.flow at.dials 2 (unspoilt_at at seen) flow side how (answers_in flow.request seen).final seen answer (refl, omega arith) (omega arith) is
turn_led terms names (busy at flow (response_body side how most)) seen answer goes is =
    returned_led names terms at.flow at.dials 1 terms.place (unspoilt_at at seen) flow side how (answers_in flow.request seen).final seen answer
    (refl, omega arith) (omega arith) is
turn_led terms names (busy at flow (coming_down side how)) seen answer goes is = over_led names terms at.flow at.dials 0 [] tt
turn_led terms names (busy at flow (upgraded side)) seen answer goes is = over_led names terms at.flow at.dials 0 [] tt
turn_led terms names (busy at flow given_head) seen answer goes is =
    let there : At = unspoilt_at at seen in
    let asked_flow : Flow = given_at flow seen.now in
    response_led names terms at.flow at.dials 2 asked_flow.response (λ message. taken_at_response_head message answer.value)
    (λ taken. turn_taken_given there asked_flow taken answer.moment (server_parked there.parked seen) seen.closed)
    (λ taken. given_led names terms at.flow at.dials 2 there asked_flow taken answer.moment (server_parked there.parked seen) seen.closed (refl, omega arith) (omega arith) is)
turn_led terms names (busy at flow given_body) seen answer goes is =
    let there : At = unspoilt_at at seen in
    whole_answer_led names terms at.flow at.dials 1 there flow answer (server_parked there.parked seen) seen.closed (refl, omega arith) is
turn_led terms names (next at) seen answer goes is = absurd goes
turn_led terms names over seen answer goes is = over_led names terms 0 0 0 [] tt

-- any number is a stage's own
is_any : (terms : Terms) (stage : Stage) → IsOf terms any_flow stage
is_any terms (idle at) = tt
is_any terms (busy at flow doing) = tt
is_any terms (next at) = tt
is_any terms over = tt

-- what a reply brings asks nothing at once
pub turn_quiet : (terms : Terms) (stage : Stage) (seen : Sight) (answer : Timed Reply) → AllQuiet any_flow (turn terms stage seen answer).owed
turn_quiet terms (idle at) seen answer = (turn_led terms any_flow (idle at) seen answer tt tt).quiet
turn_quiet terms (busy at flow doing) seen answer = (turn_led terms any_flow (busy at flow doing) seen answer tt tt).quiet
turn_quiet terms (next at) seen answer = tt
turn_quiet terms over seen answer = tt

-- nor does an end that is found
pub finds_quiet_end : (terms : Terms) (stage : Stage) (seen : Sight) → LooksQuiet any_flow (look terms stage seen)
finds_quiet_end terms stage seen = looks_quiet any_flow terms stage seen (is_any terms stage)

-- nor does what is owed behind an ask
parts_quiet : (names : FlowId → Type 0) (stage : Stage) (seen : Sight) → AllQuiet names (behind_unspoilt stage seen)
parts_quiet names (idle at) seen = tt
parts_quiet names (busy at flow (request_body given size)) seen = tt
parts_quiet names (busy at flow (connection how)) seen = server_quiet names (server_parked at.parked seen)
parts_quiet names (busy at flow (response_head side how)) seen = tt
parts_quiet names (busy at flow (response_body side how most)) seen = tt
parts_quiet names (busy at flow (coming_down side how)) seen = tt
parts_quiet names (busy at flow (upgraded side)) seen = tt
parts_quiet names (busy at flow given_head) seen = tt
parts_quiet names (busy at flow given_body) seen = tt
parts_quiet names (next at) seen = tt
parts_quiet names over seen = tt

pub behind_quiet : (names : FlowId → Type 0) (stage : Stage) (seen : Sight) → AllQuiet names (behind stage seen)
behind_quiet names stage seen = parts_quiet names (unspoilt stage seen) seen

-- A flow that passes asks nothing at once, and leads on: to where it can ask no more than before.
pub pass_led : (terms : Terms) (names : FlowId → Type 0) (at : At) (flow : Flow) (doing : Doing) (seen : Sight) → names flow.id →
    Leads terms names at.flow at.dials (doing_left doing + 1) (pass terms (busy at flow doing) seen)
pass_led terms names at flow (request_body given size) seen is =
    let left : Sight = sight_begun (busy at flow (request_body given size)) seen in
    body_begins names terms at.flow at.dials 5 at flow
    (λ to. Leads terms names at.flow at.dials 5 (record {
      owed = (end_up terms to left).owed ++ (come_down terms (end_up terms to left).stage (sight_ended to left)).owed;
      stage = (come_down terms (end_up terms to left).stage (sight_ended to left)).stage;
    }))
    (λ to told doing same fewer id. passed_led names terms at.flow at.dials 5 to told doing left same fewer (subst names (sym id) is))
    terms.place given size seen
pass_led terms names at flow (connection how) seen is = passed_led names terms at.flow at.dials 4 at flow (connection how) seen (refl, omega arith) (omega arith) is
pass_led terms names at flow (response_head side how) seen is = passed_led names terms at.flow at.dials 3 at flow (response_head side how) seen (refl, omega arith) (omega arith) is
pass_led terms names at flow (response_body side how most) seen is = passed_led names terms at.flow at.dials 2 at flow (response_body side how most) seen (refl, omega arith) (omega arith) is
pass_led terms names at flow (coming_down side how) seen is = passed_led names terms at.flow at.dials 1 at flow (coming_down side how) seen (refl, omega arith) (omega arith) is
pass_led terms names at flow (upgraded side) seen is = passed_led names terms at.flow at.dials 1 at flow (upgraded side) seen (refl, omega arith) (omega arith) is
pass_led terms names at flow given_head seen is = passed_led names terms at.flow at.dials 3 at flow given_head seen (refl, omega arith) (omega arith) is
pass_led terms names at flow given_body seen is = passed_led names terms at.flow at.dials 2 at flow given_body seen (refl, omega arith) (omega arith) is

-- passing stays with the flow
pub pass_of : (terms : Terms) (names : FlowId → Type 0) (stage : Stage) (seen : Sight) → IsOf terms names stage → IsOf terms names (pass terms stage seen).stage
pass_of terms names (idle at) seen is = is
pass_of terms names (busy at flow doing) seen is = (pass_led terms names at flow doing seen is).is_of
pass_of terms names (next at) seen is = is
pass_of terms names over seen is = is

-- asks nothing, and ends no flow but its own
pub pass_quiet : (terms : Terms) (names : FlowId → Type 0) (stage : Stage) (seen : Sight) → IsOf terms names stage → AllQuiet names (pass terms stage seen).owed
pass_quiet terms names (idle at) seen is = tt
pass_quiet terms names (busy at flow doing) seen is = (pass_led terms names at flow doing seen is).quiet
pass_quiet terms names (next at) seen is = tt
pass_quiet terms names over seen is = tt

-- where a reply leads
pub turn_behind : (terms : Terms) (stage : Stage) (seen : Sight) (answer : Timed Reply) → IsGoing stage →
    IsBehind (place_of stage).flow (place_of stage).dials (stage_left stage) (turn terms stage seen answer).stage
turn_behind terms stage seen answer goes = (turn_led terms any_flow stage seen answer goes (is_any terms stage)).behind
