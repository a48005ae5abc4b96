-- How the sight of a place goes on: with one event more, where its stage passes, and behind a reply.
use Rattle.std.proofs.Common.{◌≡◌, ℕ, ◌≤◌, Bool, true, false, List, [], ◌∷◌, ◌++◌, length, drop, Option, Some, None, refl, ap, sym, ◌∙◌, arith, length-append, subst}
use Rattle.std.specs.Prelude.{if◌then◌else◌, ◌==◌, ◌&&◌}
use Rattle.std.proofs.lemmas.List.{drop-append-le}
use Rattle.px_message.specs.declared.flow.Flow.{Flow}
use Rattle.px_message.specs.declared.request.Request.{Request}
use Rattle.px_message.specs.declared.response.Response.{Response}
use Rattle.px_event.specs.declared.command.Command.{Command}
use Rattle.px_event.specs.declared.event.Event.{Event}
use Rattle.px_event.specs.declared.reply.Reply.{Reply}
use Rattle.px_event.specs.declared.reply.Reply.TheVariants as reply
use Rattle.px_event.specs.declared.side.Side.{Side}
use Rattle.px_event.specs.declared.side.Side.TheVariants.{Client, Server}
use Rattle.px_event.specs.Chain.{Timed, Turn}
use Rattle.px_read.specs.Items.{Answers, Item, missing, part, complete, bad_head, bad_body}
use Rattle.px_read.specs.declared.head.RequestHead.{RequestHead as ReadRequest}
use Rattle.px_read.specs.declared.head.ResponseHead.{ResponseHead as ReadResponse}
use Rattle.px_exchange.specs.declared.asked.Judged.{Judged}
use Rattle.px_exchange.specs.declared.asked.Judged.TheVariants.{Refused, Accepted, Connects}
use Rattle.px_exchange.specs.declared.ending.Used.{Used}
use Rattle.px_exchange.specs.declared.taken.Taken.{Taken}
use Rattle.px_exchange.specs.declared.taken.Taken.TheVariants.{GoesOn, Responds, Kills}
use Rattle.px_exchange.specs.declared.place.Place.{Place}
use Rattle.px_exchange.specs.declared.terms.Terms.{Terms}
use Rattle.px_exchange.specs.Endings.{connection_goes_on}
use Rattle.px_exchange.specs.Places.{is_same_address, server_for}
use Rattle.px_exchange.specs.Flows.{response_of, with_answer, with_body, with_returned}
use Rattle.px_exchange.specs.Replies.{taken_at_request_head, taken_at_request_body, taken_at_response_head, taken_at_response_body}
use Rattle.px_exchange.specs.Requests.{expects, flow_of, judged}
use Rattle.px_event.specs.Sides.{piece_of}
use Rattle.px_chain.specs.Behind.{dials_at, server_behind, shut_behind, sight_behind, used_behind}
use Rattle.px_chain.specs.Chain.{IsOnward, begin_up, behind_flow, come_down, dial_leads, end_by, end_up, finish_by, given_at, goes_on_by, goes_up_by, going_at, gone, gone_by, gone_up, is_alone, is_sequence, keeps_came, opened_by, parked_for, pass, pass_body, pass_came, pass_given, pass_going, pass_kept, passed, past_came, past_gone, past_kept, sequence, side_if, sight_begun, sight_come, sight_ended, sight_gone, sight_past, stands, turn, turn_answer, turn_answer_head, turn_body, turn_given_head, turn_head, turn_judged, turn_response, turn_returned, turn_taken_answer, turn_taken_body, turn_taken_given, turn_taken_head, turn_taken_returned, turn_taken_whole, turn_whole_answer, used_by_begin, used_by_came, used_by_coming, used_by_end, used_by_gone, used_by_kept, used_by_pass, used_if}
use Rattle.px_chain.specs.Keeping.{is_silent, keeps_side, parks, unspoilt_at, unspoilt_by}
use Rattle.px_chain.specs.Coming.{Came, allowed_by, came_in, goes_on_behind, streaming, streams_in}
use Rattle.px_chain.specs.Going.{allowed_up_by, goes_up, is_sent, sending_on, told_behind, whole_in}
use Rattle.px_chain.specs.Sights.{IsWithin, Sight, Standing, UsedBytes, answers_in, bytes_over, client_left, left_by, left_by_answers, request_in, server_in, server_left, server_parked, server_used, server_with, shut_over, shut_with, sight_over, sight_with, used_by_answers, used_with}
use Rattle.px_chain.specs.Stages.{At, Doing, Parked, Sent, Stage, busy, coming_down, connection, given_body, given_head, idle, next, over, request_body, response_body, response_head, side_in, side_of, side_parked, upgraded}
use Rattle.px_chain.specs.Streams.{bytes_of, client_closed, is_closed}
use Rattle.px_chain.proofs.FrontLaws.{bytes_grow, bytes_more, bytes_shut, closed_more, now_here, now_more, open_behind}
use Rattle.px_chain.proofs.KeepingLaws.{kept_nothing, same_answers}
use Rattle.px_chain.proofs.UsedLaws.{answers_drop, client_drop, client_within, left_drop, request_within, seen_within, server_drop, server_within}

abbrev make : List ℕ → Bool → List ℕ → Bool → ℕ → ℕ → Sight
make client closed server shut told now = record { client = client; closed = closed; server = server; shut = shut; told = told; now = now }

make_eq : (client client' : List ℕ) (closed closed' : Bool) (server server' : List ℕ) (shut shut' : Bool) (told told' now now' : ℕ) →
    client ≡ client' → closed ≡ closed' → server ≡ server' → shut ≡ shut' → told ≡ told' → now ≡ now' →
    make client closed server shut told now ≡ make client' closed' server' shut' told' now'
make_eq client client' closed closed' server server' shut shut' told told' now now' a b c d t e = rw (a, b, c, d, t, e) refl

-- ---- one event more

side_more : (side : Side) (prefix : List (Timed Event)) (e : Timed Event) (shut : Bool) → is_closed Client prefix ≡ false → is_closed side prefix ≡ shut →
    bytes_of side (prefix ++ e ∷ []) ≡ (if shut then bytes_of side prefix else (bytes_of side prefix ++ piece_of side e.value))
side_more side prefix e true open_client is = bytes_shut side prefix e is
side_more side prefix e false open_client is = bytes_more side prefix e open_client is

server_more : (side : Option ℕ) (opened : ℕ) (prefix : List (Timed Event)) (e : Timed Event) → opened ≤ length prefix → client_closed prefix ≡ false →
    bytes_over side opened (prefix ++ e ∷ []) ≡ server_with side (shut_over side opened prefix) (bytes_over side opened prefix) e.value
server_more None opened prefix e within open_client = refl
server_more (Some side) opened prefix e within open_client =
    let behind = drop opened prefix in
    ap (λ l. bytes_of (Server side) l) (drop-append-le opened prefix (e ∷ []) within)
    ∙ side_more (Server side) behind e (is_closed (Server side) behind) (open_behind opened prefix open_client) refl

-- behind the bytes that are used the same comes
used_more : (side : Option ℕ) (shut : Bool) (used : ℕ) (server : List ℕ) (event : Event) → used ≤ length server →
    drop used (server_with side shut server event) ≡ server_with side shut (drop used server) event
used_more None shut used server event within = refl
used_more (Some side) true used server event within = refl
used_more (Some side) false used server event within = drop-append-le used server (piece_of (Server side) event) within

shut_more : (side : Option ℕ) (opened : ℕ) (prefix : List (Timed Event)) (e : Timed Event) → opened ≤ length prefix → client_closed prefix ≡ false →
    shut_over side opened (prefix ++ e ∷ []) ≡ shut_with side (shut_over side opened prefix) e.value
shut_more None opened prefix e within open_client = refl
shut_more (Some side) opened prefix e within open_client =
    ap (λ l. is_closed (Server side) l) (drop-append-le opened prefix (e ∷ []) within)
    ∙ closed_more (Server side) (drop opened prefix) e (open_behind opened prefix open_client)

-- The sight with one event more, while the client has not closed.
pub sight_more : (place : Standing) (prefix : List (Timed Event)) (e : Timed Event) → client_closed prefix ≡ false → IsWithin place prefix →
    sight_over place (prefix ++ e ∷ []) ≡ sight_with (side_of place.stage) (sight_over place prefix) e.value e.moment
sight_more place prefix e open_client within =
    let side : Option ℕ = side_of place.stage in
    make_eq _ _ _ _ _ _ _ _ _ _ _ _
    (ap (λ l. drop place.used.client l) (bytes_more Client prefix e open_client open_client)
    ∙ drop-append-le place.used.client (bytes_of Client prefix) (piece_of Client e.value) within.client)
    (closed_more Client prefix e open_client)
    (ap (λ l. drop place.used.server l) (server_more side place.opened prefix e within.opened open_client)
    ∙ used_more side (shut_over side place.opened prefix) place.used.server (bytes_over side place.opened prefix) e.value within.server)
    (shut_more side place.opened prefix e within.opened open_client)
    refl
    (now_more place.since prefix e within.since)

server_grows : (side : Option ℕ) (opened : ℕ) (prefix : List (Timed Event)) (e : Timed Event) → opened ≤ length prefix →
    length (bytes_over side opened prefix) ≤ length (bytes_over side opened (prefix ++ e ∷ []))
server_grows None opened prefix e within = omega arith
server_grows (Some side) opened prefix e within =
    let grows = bytes_grow (Server side) (drop opened prefix) e in
    let same : length (bytes_of (Server side) (drop opened (prefix ++ e ∷ []))) ≡ length (bytes_of (Server side) (drop opened prefix ++ e ∷ [])) =
    ap (λ l. length (bytes_of (Server side) l)) (drop-append-le opened prefix (e ∷ []) within) in
    omega arith

pub within_more : (place : Standing) (prefix : List (Timed Event)) (e : Timed Event) → IsWithin place prefix → IsWithin place (prefix ++ e ∷ [])
within_more place prefix e within = record {
  since = (let was = within.since in let size = length-append prefix (e ∷ []) in omega arith);
  opened = (let was = within.opened in let size = length-append prefix (e ∷ []) in omega arith);
  client = (let was = within.client in let grows = bytes_grow Client prefix e in omega arith);
  server = (let was = within.server in let grows = server_grows (side_of place.stage) place.opened prefix e within.opened in omega arith);
}

-- ---- where it passes

sequence_side : (stage : Stage) → side_of (sequence stage) ≡ side_of stage
sequence_side (idle at) = refl
sequence_side (busy at flow doing) = refl
sequence_side (next at) = refl
sequence_side over = refl

-- the next flow begins with the same side
pub side_onward : (onward : Stage → Stage) → IsOnward onward → (stage : Stage) → side_of (onward stage) ≡ side_of stage
side_onward onward (is_alone is) stage = ap (λ f. side_of (f stage)) is
side_onward onward (is_sequence is) stage = ap (λ f. side_of (f stage)) is ∙ sequence_side stage

given_body_side : (at : At) (flow : Flow) (response : Response) (size : Option ℕ) (item : Item ReadRequest) (now : ℕ) → side_of (pass_given at flow response size item now) ≡ side_parked at.parked
given_body_side at flow response size missing now = refl
given_body_side at flow response size (part head body) now = refl
given_body_side at flow response size (complete head body trailers used) now = refl
given_body_side at flow response size (bad_head fault) now = refl
given_body_side at flow response size (bad_body fault head body) now = refl

-- a request that goes up goes to the parked side, or leaves it parked
up_side_by : (to_it : Bool) (parked : Parked) (place : Place) (at : At) (flow : Flow) → at.parked ≡ Some parked → side_of (goes_up_by (side_if to_it parked.server) place at flow) ≡ Some parked.server
up_side_by true parked place at flow is = refl
up_side_by false parked place at flow is = ap side_parked is

up_side : (place : Place) (request : Request) (parked : Option Parked) (at : At) (flow : Flow) → at.parked ≡ parked →
    side_of (goes_up_by (parked_for place request parked) place at flow) ≡ side_parked parked
up_side place request None at flow is = ap side_parked is
up_side place request (Some parked) at flow is = up_side_by (is_same_address parked.address (server_for place request)) parked place at flow is

-- one whose keeping has ended stays parked until a reply
unspoilt_side : (silent : Bool) (place : Place) (request : Request) (at : At) (flow : Flow) →
    side_of (goes_up_by (parked_for place request (unspoilt_by silent at.parked)) place at flow) ≡ side_parked at.parked
unspoilt_side true place request at flow = up_side place request at.parked at flow refl
unspoilt_side false place request at flow = refl

going_side : (up : Bool) (place : Place) (at : At) (flow : Flow) (size : Option ℕ) (seen : Sight) → side_of (pass_going up place at flow size seen) ≡ side_parked at.parked
going_side true place at flow size seen = unspoilt_side (is_silent seen.server seen.shut) place flow.request at (sending_on flow)
going_side false place at flow size seen = refl

body_side : (place : Place) (at : At) (flow : Flow) (given : Option Response) (size : Option ℕ) (seen : Sight) → side_of (pass_body place at flow given size seen) ≡ side_parked at.parked
body_side place at flow None size seen = going_side (goes_up size seen) place at flow size seen
body_side place at flow (Some response) size seen = given_body_side at flow response size (request_in seen) seen.now

-- where a request begins to go up the same side is open
pub begin_side : (terms : Terms) (stage : Stage) (seen : Sight) → side_of (begin_up terms stage seen) ≡ side_of stage
begin_side terms (idle at) seen = refl
begin_side terms (busy at flow (request_body given size)) seen = body_side terms.place at flow given size seen
begin_side terms (busy at flow (connection how)) seen = refl
begin_side terms (busy at flow (response_head side how)) seen = refl
begin_side terms (busy at flow (response_body side how most)) seen = refl
begin_side terms (busy at flow (coming_down side how)) seen = refl
begin_side terms (busy at flow (upgraded side)) seen = refl
begin_side terms (busy at flow given_head) seen = refl
begin_side terms (busy at flow given_body) seen = refl
begin_side terms (next at) seen = refl
begin_side terms over seen = refl

gone_side : (at : At) (doing : Doing) → side_in at (gone doing) ≡ side_in at doing
gone_side at (request_body given size) = refl
gone_side at (connection how) = refl
gone_side at (response_head side how) = refl
gone_side at (response_body side how most) = refl
gone_side at (coming_down side how) = refl
gone_side at (upgraded side) = refl
gone_side at given_head = refl
gone_side at given_body = refl

end_side_by : (going : Option ℕ) (place : Place) (at : At) (flow : Flow) (doing : Doing) (seen : Sight) → side_of (end_by going place at flow doing seen).stage ≡ side_in at doing
end_side_by None place at flow doing seen = refl
end_side_by (Some server) place at flow doing seen = gone_side at doing

-- so is it where one that goes up is whole
pub end_side : (terms : Terms) (stage : Stage) (seen : Sight) → side_of (end_up terms stage seen).stage ≡ side_of stage
end_side terms (idle at) seen = refl
end_side terms (busy at flow doing) seen = end_side_by (gone_by (going_at doing) (whole_in seen)) terms.place at flow doing seen
end_side terms (next at) seen = refl
end_side terms over seen = refl

-- ---- what is used and left where a request goes up

-- Nothing is used but bytes of the client, what is left is behind those, and they had come.
pub record UsesClient (seen : Sight) (used : UsedBytes → UsedBytes) (past : Sight) : Type 0 where
  pub of_server : (had : UsedBytes) → (used had).server ≡ had.server
  pub closed : past.closed ≡ seen.closed
  pub server : past.server ≡ seen.server
  pub shut : past.shut ≡ seen.shut
  pub told : past.told ≡ seen.told
  pub now : past.now ≡ seen.now
  pub client : (had : UsedBytes) (bytes : List ℕ) → seen.client ≡ drop had.client bytes → past.client ≡ drop (used had).client bytes
  pub within : (had : UsedBytes) (bytes : List ℕ) → seen.client ≡ drop had.client bytes → had.client ≤ length bytes → (used had).client ≤ length bytes

-- nothing is used
uses_nothing : (seen : Sight) → UsesClient seen (λ had. had) seen
uses_nothing seen = record {
  of_server = λ had. refl;
  closed = refl;
  server = refl;
  shut = refl;
  told = refl;
  now = refl;
  client = λ had bytes is. is;
  within = λ had bytes is within. within;
}

-- the bytes of the whole request
uses_request : (seen : Sight) → UsesClient seen (λ had. record had { client = used_with (request_in seen) had.client }) (record seen { client = left_by (request_in seen) seen.client })
uses_request seen = record {
  of_server = λ had. refl;
  closed = refl;
  server = refl;
  shut = refl;
  told = refl;
  now = refl;
  client = λ had bytes is. ap (left_by (request_in seen)) is ∙ left_drop (request_in seen) had.client bytes;
  within = λ had bytes is within. request_within seen had.client bytes is within;
}

-- one behind the other
uses_both : (seen between past : Sight) (first second : UsedBytes → UsedBytes) → UsesClient seen first between → UsesClient between second past →
    UsesClient seen (λ had. second (first had)) past
uses_both seen between past first second a b = record {
  of_server = λ had. b.of_server (first had) ∙ a.of_server had;
  closed = b.closed ∙ a.closed;
  server = b.server ∙ a.server;
  shut = b.shut ∙ a.shut;
  told = b.told ∙ a.told;
  now = b.now ∙ a.now;
  client = λ had bytes is. b.client (first had) bytes (a.client had bytes is);
  within = λ had bytes is within. b.within (first had) bytes (a.client had bytes is) (a.within had bytes is within);
}

pub begin_uses : (stage : Stage) (seen : Sight) → UsesClient seen (used_by_begin stage seen) (sight_begun stage seen)
begin_uses (idle at) seen = uses_nothing seen
begin_uses (busy at flow (request_body None size)) seen = uses_nothing seen
begin_uses (busy at flow (request_body (Some response) size)) seen = uses_request seen
begin_uses (busy at flow (connection how)) seen = uses_nothing seen
begin_uses (busy at flow (response_head side how)) seen = uses_nothing seen
begin_uses (busy at flow (response_body side how most)) seen = uses_nothing seen
begin_uses (busy at flow (coming_down side how)) seen = uses_nothing seen
begin_uses (busy at flow (upgraded side)) seen = uses_nothing seen
begin_uses (busy at flow given_head) seen = uses_nothing seen
begin_uses (busy at flow given_body) seen = uses_nothing seen
begin_uses (next at) seen = uses_nothing seen
begin_uses over seen = uses_nothing seen

end_uses_by : (going : Option ℕ) (seen : Sight) → UsesClient seen (used_by_gone going seen) (past_gone going seen)
end_uses_by None seen = uses_nothing seen
end_uses_by (Some server) seen = uses_request seen

pub end_uses : (stage : Stage) (seen : Sight) → UsesClient seen (used_by_end stage seen) (sight_ended stage seen)
end_uses (idle at) seen = uses_nothing seen
end_uses (busy at flow doing) seen = end_uses_by (gone_by (going_at doing) (whole_in seen)) seen
end_uses (next at) seen = uses_nothing seen
end_uses over seen = uses_nothing seen

-- What is used of a request that goes up, or needs no question.
abbrev pub used_by_up : Terms → Stage → Sight → UsedBytes → UsedBytes
used_by_up terms stage seen used = used_by_end (begin_up terms stage seen) (sight_begun stage seen) (used_by_begin stage seen used)

pub up_uses : (terms : Terms) (stage : Stage) (seen : Sight) → UsesClient seen (used_by_up terms stage seen) (sight_gone terms stage seen)
up_uses terms stage seen =
    uses_both seen (sight_begun stage seen) (sight_gone terms stage seen) (used_by_begin stage seen) (used_by_end (begin_up terms stage seen) (sight_begun stage seen))
    (begin_uses stage seen) (end_uses (begin_up terms stage seen) (sight_begun stage seen))

pub gone_up_side : (terms : Terms) (stage : Stage) (seen : Sight) → side_of (gone_up terms stage seen) ≡ side_of stage
gone_up_side terms stage seen = end_side terms (begin_up terms stage seen) (sight_begun stage seen) ∙ begin_side terms stage seen

-- ---- where a response comes down

-- Where it passes the same side of a server is open, of which nothing is used so, or the responses to a request, behind which it is kept; or none is open
-- any more, and nothing is seen of one.
pub data SidePassed (before : Option ℕ) (seen : Sight) (to : Stage) (used : UsedBytes → UsedBytes) (past : Sight) : Type 0 where
  same_side : side_of to ≡ before → ((had : UsedBytes) → (used had).server ≡ had.server) → past.server ≡ seen.server → past.shut ≡ seen.shut →
      SidePassed before seen to used past
  side_kept : (request : Request) → side_of to ≡ before → ((had : UsedBytes) → (used had).server ≡ used_by_answers (answers_in request seen) had.server) →
      past.server ≡ left_by_answers (answers_in request seen) seen.server → past.shut ≡ seen.shut → SidePassed before seen to used past
  side_closed : side_of to ≡ None → ((had : UsedBytes) → (used had).server ≡ 0) → past.server ≡ [] → past.shut ≡ false → SidePassed before seen to used past

came_side_by : (stays keeps : Bool) (place : Place) (at : At) (flow : Flow) (side : ℕ) (seen : Sight) (came : Came) → keeps_side flow.request seen came.head ≡ keeps →
    SidePassed (Some side) seen (behind_flow stays (parks (stays && keeps) place at flow.request side)) (used_if (stays && keeps) flow seen) (past_came (Some came) seen)
came_side_by true true place at flow side seen came is =
    let left = kept_nothing flow.request seen came.head is in
    side_kept flow.request refl (λ had. refl) (sym left.empty) (sym left.is_open)
came_side_by true false place at flow side seen came is = side_closed refl (λ had. refl) refl refl
came_side_by false keeps place at flow side seen came is = side_closed refl (λ had. refl) refl refl

came_side : (place : Place) (at : At) (flow : Flow) (side : ℕ) (how : Sent) (seen : Sight) (came : Option Came) →
    SidePassed (Some side) seen (pass_came place at flow side how seen came).stage (used_by_came at flow how seen came) (past_came came seen)
came_side place at flow side how seen None = same_side refl (λ had. refl) refl refl
came_side place at flow side how seen (Some came) =
    came_side_by (is_sent how && goes_on_behind at.flow flow.request came) (keeps_side flow.request seen came.head) place at flow side seen came refl

kept_side : (streams : Bool) (place : Place) (at : At) (flow : Flow) (side : ℕ) (how : Sent) (most : Option ℕ) (seen : Sight) →
    SidePassed (Some side) seen (pass_kept streams place at flow side how most seen).stage (used_by_kept streams at (streaming flow) how seen (came_in (streaming flow) seen))
    (past_kept streams (came_in (streaming flow) seen) seen)
kept_side true place at flow side how most seen = came_side place at (streaming flow) side how seen (came_in (streaming flow) seen)
kept_side false place at flow side how most seen = same_side refl (λ had. refl) refl refl

come_side : (terms : Terms) (stage : Stage) (seen : Sight) → SidePassed (side_of stage) seen (come_down terms stage seen).stage (used_by_coming stage seen) (sight_come stage seen)
come_side terms (idle at) seen = same_side refl (λ had. refl) refl refl
come_side terms (busy at flow (request_body given size)) seen = same_side refl (λ had. refl) refl refl
come_side terms (busy at flow (connection how)) seen = same_side refl (λ had. refl) refl refl
come_side terms (busy at flow (response_head side how)) seen = same_side refl (λ had. refl) refl refl
come_side terms (busy at flow (response_body side how most)) seen = kept_side (streams_in flow most seen) terms.place at flow side how most seen
come_side terms (busy at flow (coming_down side how)) seen = came_side terms.place at flow side how seen (came_in flow seen)
come_side terms (busy at flow (upgraded side)) seen = same_side refl (λ had. refl) refl refl
come_side terms (busy at flow given_head) seen = same_side refl (λ had. refl) refl refl
come_side terms (busy at flow given_body) seen = same_side refl (λ had. refl) refl refl
come_side terms (next at) seen = same_side refl (λ had. refl) refl refl
come_side terms over seen = same_side refl (λ had. refl) refl refl

-- behind what a request leaves, which is the server's side as it was
passed_by : (before between : Option ℕ) (seen middle : Sight) (to : Stage) (first second : UsedBytes → UsedBytes) (past : Sight) → between ≡ before → UsesClient seen first middle →
    SidePassed between middle to second past → SidePassed before seen to (λ had. second (first had)) past
passed_by before between seen middle to first second past same uses (same_side is had bytes shut) =
    same_side (is ∙ same) (λ used. had (first used) ∙ uses.of_server used) (bytes ∙ uses.server) (shut ∙ uses.shut)
passed_by before between seen middle to first second past same uses (side_kept request is had bytes shut) =
    let answers = same_answers request seen middle uses.server uses.shut in
    side_kept request (is ∙ same)
    (λ used. had (first used) ∙ (ap (λ n. used_by_answers (answers_in request middle) n) (uses.of_server used) ∙ ap (λ a. used_by_answers a used.server) answers))
    (bytes ∙ (ap (λ a. left_by_answers a middle.server) answers ∙ ap (λ b. left_by_answers (answers_in request seen) b) uses.server)) (shut ∙ uses.shut)
passed_by before between seen middle to first second past same uses (side_closed is had bytes shut) = side_closed is (λ used. had (first used)) bytes shut

pub side_passed : (terms : Terms) (stage : Stage) (seen : Sight) →
    SidePassed (side_of stage) seen (pass terms stage seen).stage (used_by_pass terms stage seen) (sight_past terms stage seen)
side_passed terms stage seen =
    let there : Stage = gone_up terms stage seen in
    let left : Sight = sight_gone terms stage seen in
    passed_by (side_of stage) (side_of there) seen left (come_down terms there left).stage (used_by_up terms stage seen) (used_by_coming there left) (sight_come there left)
    (gone_up_side terms stage seen) (up_uses terms stage seen) (come_side terms there left)

-- nothing of the client is used behind a request
if_client : (keeps : Bool) (flow : Flow) (seen : Sight) (used : UsedBytes) → (used_if keeps flow seen used).client ≡ used.client
if_client true flow seen used = refl
if_client false flow seen used = refl

came_client : (at : At) (flow : Flow) (how : Sent) (came : Option Came) (seen : Sight) (used : UsedBytes) →
    ((used_by_came at flow how seen came used).client ≡ used.client) × ((past_came came seen).client ≡ seen.client)
came_client at flow how None seen used = (refl, refl)
came_client at flow how (Some came) seen used = (if_client (keeps_came at flow how seen came) flow seen used, refl)

kept_client : (streams : Bool) (at : At) (flow : Flow) (how : Sent) (came : Option Came) (seen : Sight) (used : UsedBytes) →
    ((used_by_kept streams at flow how seen came used).client ≡ used.client) × ((past_kept streams came seen).client ≡ seen.client)
kept_client true at flow how came seen used = came_client at flow how came seen used
kept_client false at flow how came seen used = (refl, refl)

come_client : (stage : Stage) (seen : Sight) (used : UsedBytes) → ((used_by_coming stage seen used).client ≡ used.client) × ((sight_come stage seen).client ≡ seen.client)
come_client (idle at) seen used = (refl, refl)
come_client (busy at flow (request_body given size)) seen used = (refl, refl)
come_client (busy at flow (connection how)) seen used = (refl, refl)
come_client (busy at flow (response_head side how)) seen used = (refl, refl)
come_client (busy at flow (response_body side how most)) seen used = kept_client (streams_in flow most seen) at (streaming flow) how (came_in (streaming flow) seen) seen used
come_client (busy at flow (coming_down side how)) seen used = came_client at flow how (came_in flow seen) seen used
come_client (busy at flow (upgraded side)) seen used = (refl, refl)
come_client (busy at flow given_head) seen used = (refl, refl)
come_client (busy at flow given_body) seen used = (refl, refl)
come_client (next at) seen used = (refl, refl)
come_client over seen used = (refl, refl)

-- ---- where it passes

-- what it uses is what it leaves behind
past_drop : (terms : Terms) (stage : Stage) (seen : Sight) (used : UsedBytes) (bytes : List ℕ) → seen.client ≡ drop used.client bytes →
    drop (used_by_pass terms stage seen used).client bytes ≡ (sight_past terms stage seen).client
past_drop terms stage seen used bytes is =
    let there : Stage = gone_up terms stage seen in
    let left : Sight = sight_gone terms stage seen in
    let same = come_client there left (used_by_up terms stage seen used) in
    ap (λ n. drop n bytes) same.0 ∙ (sym ((up_uses terms stage seen).client used bytes is) ∙ sym same.1)

-- the sight that is left, by the bytes of both sides and the server's close
came_past : (came : Option Came) (seen : Sight) →
    past_came came seen ≡ make (past_came came seen).client seen.closed (past_came came seen).server (past_came came seen).shut seen.told seen.now
came_past None seen = refl
came_past (Some came) seen = refl

kept_past : (streams : Bool) (came : Option Came) (seen : Sight) →
    past_kept streams came seen ≡ make (past_kept streams came seen).client seen.closed (past_kept streams came seen).server (past_kept streams came seen).shut seen.told seen.now
kept_past true came seen = came_past came seen
kept_past false came seen = refl

come_past : (stage : Stage) (seen : Sight) →
    sight_come stage seen ≡ make (sight_come stage seen).client seen.closed (sight_come stage seen).server (sight_come stage seen).shut seen.told seen.now
come_past (idle at) seen = refl
come_past (busy at flow (request_body given size)) seen = refl
come_past (busy at flow (connection how)) seen = refl
come_past (busy at flow (response_head side how)) seen = refl
come_past (busy at flow (response_body side how most)) seen = kept_past (streams_in flow most seen) (came_in (streaming flow) seen) seen
come_past (busy at flow (coming_down side how)) seen = came_past (came_in flow seen) seen
come_past (busy at flow (upgraded side)) seen = refl
come_past (busy at flow given_head) seen = refl
come_past (busy at flow given_body) seen = refl
come_past (next at) seen = refl
come_past over seen = refl

past_by : (terms : Terms) (stage : Stage) (seen : Sight) →
    sight_past terms stage seen ≡ make (sight_past terms stage seen).client seen.closed (sight_past terms stage seen).server (sight_past terms stage seen).shut seen.told seen.now
past_by terms stage seen =
    let uses = up_uses terms stage seen in
    come_past (gone_up terms stage seen) (sight_gone terms stage seen)
    ∙ make_eq _ _ _ _ _ _ _ _ _ _ _ _ refl uses.closed refl refl uses.told uses.now

-- What is seen of the server's side where it passed, to a stage with this side: its bytes, its close, and that what is used of it came.
record SideLeft (side : Option ℕ) (opened : ℕ) (used : UsedBytes) (past : Sight) (prefix : List (Timed Event)) (fits : Type 0) : Type 0 where
  bytes : drop used.server (bytes_over side opened prefix) ≡ past.server
  shut : shut_over side opened prefix ≡ past.shut
  within : fits → used.server ≤ length (bytes_over side opened prefix)

side_left : (place : Standing) (prefix : List (Timed Event)) (side : Option ℕ) (to : Stage) (used : UsedBytes → UsedBytes) (past : Sight) →
    SidePassed (side_of place.stage) (sight_over place prefix) to used past → side ≡ side_of to →
    SideLeft side place.opened (used place.used) past prefix (place.used.server ≤ length (bytes_over (side_of place.stage) place.opened prefix))
side_left place prefix side to used past (same_side is had bytes shut) at =
    let same : side ≡ side_of place.stage = at ∙ is in
    record {
      bytes = ap (λ n. drop n (bytes_over side place.opened prefix)) (had place.used)
          ∙ (ap (λ s. drop place.used.server (bytes_over s place.opened prefix)) same ∙ sym bytes);
      shut = ap (λ s. shut_over s place.opened prefix) same ∙ sym shut;
      within = λ fits. subst (λ n. n ≤ length (bytes_over side place.opened prefix)) (sym (had place.used))
          (subst (λ s. place.used.server ≤ length (bytes_over s place.opened prefix)) (sym same) fits);
    }
side_left place prefix side to used past (side_kept request is had bytes shut) at =
    let same : side ≡ side_of place.stage = at ∙ is in
    let seen : Sight = sight_over place prefix in
    let answers : Answers = answers_in request seen in
    let come : List ℕ = bytes_over (side_of place.stage) place.opened prefix in
    record {
      bytes = ap (λ n. drop n (bytes_over side place.opened prefix)) (had place.used)
          ∙ (ap (λ s. drop (used_by_answers answers place.used.server) (bytes_over s place.opened prefix)) same
          ∙ (sym (answers_drop answers seen.server place.used.server come refl) ∙ sym bytes));
      shut = ap (λ s. shut_over s place.opened prefix) same ∙ sym shut;
      within = λ fits. subst (λ n. n ≤ length (bytes_over side place.opened prefix)) (sym (had place.used))
          (subst (λ s. used_by_answers answers place.used.server ≤ length (bytes_over s place.opened prefix)) (sym same)
          (seen_within request seen place.used.server come refl fits));
    }
side_left place prefix side to used past (side_closed is had bytes shut) at =
    let same : side ≡ None = at ∙ is in
    record {
      bytes = ap (λ n. drop n (bytes_over side place.opened prefix)) (had place.used)
          ∙ (ap (λ s. bytes_over s place.opened prefix) same ∙ sym bytes);
      shut = ap (λ s. shut_over s place.opened prefix) same ∙ sym shut;
      within = λ fits. subst (λ n. n ≤ length (bytes_over side place.opened prefix)) (sym (had place.used)) (omega arith);
    }

left_passed : (onward : Stage → Stage) → IsOnward onward → (terms : Terms) (place : Standing) (prefix : List (Timed Event)) →
    let seen : Sight = sight_over place prefix in
    SideLeft (side_of (passed onward terms place seen).stage) place.opened (used_by_pass terms place.stage seen place.used) (sight_past terms place.stage seen) prefix
    (place.used.server ≤ length (bytes_over (side_of place.stage) place.opened prefix))
left_passed onward goes terms place prefix =
    let seen : Sight = sight_over place prefix in
    let to : Stage = (pass terms place.stage seen).stage in
    side_left place prefix (side_of (onward to)) to (used_by_pass terms place.stage seen) (sight_past terms place.stage seen) (side_passed terms place.stage seen) (side_onward onward goes to)

-- Of the sight the bytes are left that it did not use.
pub sight_passed : (onward : Stage → Stage) → IsOnward onward → (terms : Terms) (place : Standing) (prefix : List (Timed Event)) →
    sight_over (passed onward terms place (sight_over place prefix)) prefix ≡ sight_past terms place.stage (sight_over place prefix)
sight_passed onward goes terms place prefix =
    let seen : Sight = sight_over place prefix in
    let side = left_passed onward goes terms place prefix in
    make_eq _ _ _ _ _ _ _ _ _ _ _ _
    (past_drop terms place.stage seen place.used (bytes_of Client prefix) refl)
    refl
    side.bytes
    side.shut
    refl
    refl
    ∙ sym (past_by terms place.stage seen)

past_within : (terms : Terms) (stage : Stage) (seen : Sight) (used : UsedBytes) (bytes : List ℕ) → seen.client ≡ drop used.client bytes → used.client ≤ length bytes →
    (used_by_pass terms stage seen used).client ≤ length bytes
past_within terms stage seen used bytes is within =
    let same = (come_client (gone_up terms stage seen) (sight_gone terms stage seen) (used_by_up terms stage seen used)).0 in
    let fits = (up_uses terms stage seen).within used bytes is within in
    omega arith

pub within_passed : (onward : Stage → Stage) → IsOnward onward → (terms : Terms) (place : Standing) (prefix : List (Timed Event)) → IsWithin place prefix →
    IsWithin (passed onward terms place (sight_over place prefix)) prefix
within_passed onward goes terms place prefix within =
    let seen : Sight = sight_over place prefix in
    record {
      since = within.since;
      opened = within.opened;
      client = past_within terms place.stage seen place.used (bytes_of Client prefix) refl within.client;
      server = (left_passed onward goes terms place prefix).within within.server;
    }

-- ---- behind a reply

-- The server's side behind a reply, of the stage before: none, a new one where a connection was awaited, or the same.
pub data IsSideFrom (from : Stage) (side : Option ℕ) : Type 0 where
  no_side : side ≡ None → IsSideFrom from side
  is_new : (at : At) (flow : Flow) (how : Sent) → from ≡ busy at flow (connection how) → side ≡ Some at.dials → IsSideFrom from side
  same_server : dials_at from ≡ false → side ≡ side_of from → IsSideFrom from side

drop_all : {A : Type 0} (xs : List A) → drop (length xs) xs ≡ []
drop_all [] = refl
drop_all (x ∷ xs) = drop_all xs

-- What is heard of the side behind a reply, behind so many bytes of the one before.
record HeardFrom (dialled : Bool) (before side : Option ℕ) (opened used : ℕ) (prefix : List (Timed Event)) : Type 0 where
  bytes : drop (used_behind dialled side used) (bytes_over side (opened_by dialled opened (length prefix)) prefix)
      ≡ server_behind dialled side (drop used (bytes_over before opened prefix))
  shut : shut_over side (opened_by dialled opened (length prefix)) prefix ≡ shut_behind dialled side (shut_over before opened prefix)
  within : used ≤ length (bytes_over before opened prefix) →
      used_behind dialled side used ≤ length (bytes_over side (opened_by dialled opened (length prefix)) prefix)

heard_none : (dialled : Bool) (before : Option ℕ) (opened used : ℕ) (prefix : List (Timed Event)) → HeardFrom dialled before None opened used prefix
heard_none true before opened used prefix = record { bytes = refl; shut = refl; within = λ was. omega arith }
heard_none false before opened used prefix = record { bytes = refl; shut = refl; within = λ was. omega arith }

heard_new : (before : Option ℕ) (side : ℕ) (opened used : ℕ) (prefix : List (Timed Event)) → HeardFrom true before (Some side) opened used prefix
heard_new before side opened used prefix = record {
  bytes = ap (λ l. bytes_of (Server side) l) (drop_all prefix);
  shut = ap (λ l. is_closed (Server side) l) (drop_all prefix);
  within = λ was. omega arith;
}

heard_same : (side : Option ℕ) (opened used : ℕ) (prefix : List (Timed Event)) → HeardFrom false side side opened used prefix
heard_same None opened used prefix = heard_none false None opened used prefix
heard_same (Some side) opened used prefix = record { bytes = refl; shut = refl; within = λ was. was }

heard_from : (from : Stage) (side : Option ℕ) (opened used : ℕ) (prefix : List (Timed Event)) → IsSideFrom from side →
    HeardFrom (dials_at from) (side_of from) side opened used prefix
heard_from from side opened used prefix (no_side is) = rw is (heard_none (dials_at from) (side_of from) opened used prefix)
heard_from from side opened used prefix (is_new at flow how is new) = rw (is, new) (heard_new (side_parked at.parked) at.dials opened used prefix)
heard_from from side opened used prefix (same_server none is) = rw (none, is) (heard_same (side_of from) opened used prefix)

-- What a stage that was come to by a reply sees over the same prefix.
pub sight_stood : (terms : Terms) (place : Standing) (moment : ℕ) (prefix : List (Timed Event)) (stage : Stage) → IsSideFrom place.stage (side_of stage) →
    sight_over (stands terms place moment prefix stage) prefix ≡ sight_behind terms.place place.stage (sight_over place prefix) moment stage
sight_stood terms place moment prefix stage how =
    let seen : Sight = sight_over place prefix in
    let before : List ℕ = bytes_over (side_of place.stage) place.opened prefix in
    let heard = heard_from place.stage (side_of stage) place.opened (server_used place.stage seen place.used.server) prefix how in
    make_eq _ _ _ _ _ _ _ _ _ _ _ _
    (sym (client_drop place.stage seen place.used.client (bytes_of Client prefix) refl))
    refl
    (heard.bytes ∙ ap (λ l. server_behind (dials_at place.stage) (side_of stage) l) (sym (server_drop place.stage seen place.used.server before refl)))
    heard.shut
    refl
    (now_here moment prefix)

opened_within : (dialled : Bool) (opened come : ℕ) → opened ≤ come → opened_by dialled opened come ≤ come
opened_within true opened come within = omega arith
opened_within false opened come within = within

pub within_stood : (terms : Terms) (place : Standing) (moment : ℕ) (prefix : List (Timed Event)) (stage : Stage) → IsSideFrom place.stage (side_of stage) → IsWithin place prefix →
    IsWithin (stands terms place moment prefix stage) prefix
within_stood terms place moment prefix stage how within =
    let seen : Sight = sight_over place prefix in
    let before : List ℕ = bytes_over (side_of place.stage) place.opened prefix in
    let heard = heard_from place.stage (side_of stage) place.opened (server_used place.stage seen place.used.server) prefix how in
    record {
      since = omega arith;
      opened = opened_within (dials_at place.stage) place.opened (length prefix) within.opened;
      client = client_within place.stage seen place.used.client (bytes_of Client prefix) refl within.client;
      server = heard.within (server_within place.stage seen place.used.server before refl within.server);
    }

-- the sight behind a reply, by the server's side that is used there
abbrev pub sight_behind_by : Place → Stage → Sight → ℕ → Option ℕ → Sight
sight_behind_by place from seen moment side = record {
  client = client_left from seen;
  closed = seen.closed;
  server = server_behind (dials_at from) side (server_left from seen);
  shut = shut_behind (dials_at from) side seen.shut;
  told = told_behind place from seen;
  now = moment;
}

-- ---- the side behind a reply

-- the same side, or none
data IsKept (before later : Option ℕ) : Type 0 where
  kept : later ≡ before → IsKept before later
  left : later ≡ None → IsKept before later

taken_head_side : (at : At) (flow : Flow) (expected : Bool) (most : Option ℕ) (taken : Taken Request) (moment : ℕ) (seen : Sight) →
    IsKept (side_parked at.parked) (side_of (turn_taken_head at flow expected most taken moment seen).stage)
taken_head_side at flow expected most (GoesOn request) moment seen = kept refl
taken_head_side at flow expected most (Responds response) moment seen = kept refl
taken_head_side at flow expected most Kills moment seen = left refl

judged_side : (terms : Terms) (at : At) (head : ReadRequest) (made : Judged) (seen : Sight) (answer : Timed Reply) →
    IsKept (side_parked at.parked) (side_of (turn_judged terms at head made seen answer).stage)
judged_side terms at head (Refused fault) seen answer = left refl
judged_side terms at head (Connects address) seen answer = left refl
judged_side terms at head (Accepted request) seen answer =
    taken_head_side at (flow_of terms at.flow request seen.now) (expects head) (allowed_up_by terms.streams answer.value) (taken_at_request_head request answer.value) answer.moment seen

head_side : (terms : Terms) (at : At) (item : Item ReadRequest) (seen : Sight) (answer : Timed Reply) →
    IsKept (side_parked at.parked) (side_of (turn_head terms at item seen answer).stage)
head_side terms at missing seen answer = left refl
head_side terms at (part head body) seen answer = judged_side terms at head (judged terms.place head) seen answer
head_side terms at (complete head body trailers used) seen answer = judged_side terms at head (judged terms.place head) seen answer
head_side terms at (bad_head fault) seen answer = left refl
head_side terms at (bad_body fault head body) seen answer = judged_side terms at head (judged terms.place head) seen answer

-- a request that goes to the parked side uses that
goes_on_side : (to_it : Bool) (parked : Parked) (place : Place) (at : At) (flow : Flow) → at.parked ≡ Some parked →
    IsKept (Some parked.server) (side_of (goes_on_by (side_if to_it parked.server) place at flow).stage)
goes_on_side true parked place at flow is = kept refl
goes_on_side false parked place at flow is = kept (ap side_parked is)

parked_side : (place : Place) (request : Request) (parked : Option Parked) (at : At) (flow : Flow) → at.parked ≡ parked →
    IsKept (side_parked parked) (side_of (goes_on_by (parked_for place request parked) place at flow).stage)
parked_side place request None at flow is = left (ap side_parked is)
parked_side place request (Some parked) at flow is = goes_on_side (is_same_address parked.address (server_for place request)) parked place at flow is

taken_body_side : (place : Place) (at : At) (flow : Flow) (taken : Taken Request) (moment : ℕ) (seen : Sight) →
    IsKept (side_parked at.parked) (side_of (turn_taken_body place at flow taken moment seen).stage)
taken_body_side place at flow (GoesOn request) moment seen = parked_side place request at.parked at (record flow { request = request }) refl
taken_body_side place at flow (Responds response) moment seen = kept refl
taken_body_side place at flow Kills moment seen = left refl

turned_body_side : (place : Place) (at : At) (flow : Flow) (item : Item ReadRequest) (seen : Sight) (answer : Timed Reply) →
    IsKept (side_parked at.parked) (side_of (turn_body place at flow item seen answer).stage)
turned_body_side place at flow missing seen answer = left refl
turned_body_side place at flow (part head body) seen answer = left refl
turned_body_side place at flow (complete head body trailers used) seen answer =
    let whole : Flow = with_body flow body.content trailers seen.now in
    taken_body_side place at whole (taken_at_request_body whole.request answer.value) answer.moment seen
turned_body_side place at flow (bad_head fault) seen answer = left refl
turned_body_side place at flow (bad_body fault head body) seen answer = left refl

taken_answer_side : (at : At) (flow : Flow) (side : ℕ) (how : Sent) (most : Option ℕ) (taken : Taken Response) (moment : ℕ) (used : Used) (closed : Bool) →
    IsKept (Some side) (side_of (turn_taken_answer at flow side how most taken moment used closed).stage)
taken_answer_side at flow side how most (GoesOn response) moment used closed = kept refl
taken_answer_side at flow side how most (Responds response) moment used closed = left refl
taken_answer_side at flow side how most Kills moment used closed = left refl

answer_head_side : (terms : Terms) (at : At) (flow : Flow) (side : ℕ) (how : Sent) (head : ReadResponse) (seen : Sight) (answer : Timed Reply) →
    IsKept (Some side) (side_of (turn_answer_head terms at flow side how head seen answer).stage)
answer_head_side terms at flow side how head seen answer =
    taken_answer_side at (with_answer flow (response_of head) seen.now) side how (allowed_by terms.streams answer.value) (taken_at_response_head (response_of head) answer.value) answer.moment (server_in side seen) seen.closed

answer_side : (terms : Terms) (at : At) (flow : Flow) (side : ℕ) (how : Sent) (item : Item ReadResponse) (seen : Sight) (answer : Timed Reply) →
    IsKept (Some side) (side_of (turn_answer terms at flow side how item seen answer).stage)
answer_side terms at flow side how missing seen answer = left refl
answer_side terms at flow side how (part head body) seen answer = answer_head_side terms at flow side how head seen answer
answer_side terms at flow side how (complete head body trailers size) seen answer = answer_head_side terms at flow side how head seen answer
answer_side terms at flow side how (bad_head fault) seen answer = left refl
answer_side terms at flow side how (bad_body fault head body) seen answer = answer_head_side terms at flow side how head seen answer

behind_side : (stays : Bool) (at : At) → IsKept (side_parked at.parked) (side_of (behind_flow stays at))
behind_side true at = kept refl
behind_side false at = left refl

taken_returned_side : (at : At) (flow : Flow) (taken : Taken Response) (moment : ℕ) (parked : Used) (closed : Bool) →
    IsKept (side_parked at.parked) (side_of (turn_taken_returned at flow taken moment parked closed).stage)
taken_returned_side at flow (GoesOn response) moment parked closed = behind_side (connection_goes_on at.flow flow.request response) at
taken_returned_side at flow (Responds response) moment parked closed = left refl
taken_returned_side at flow Kills moment parked closed = left refl

response_side : (before : Option ℕ) (there : Option Response) (takes : Response → Taken Response) (goes : Taken Response → Turn Stage Command) →
    ((taken : Taken Response) → IsKept before (side_of (goes taken).stage)) → IsKept before (side_of (turn_response there takes goes).stage)
response_side before None takes goes each = left refl
response_side before (Some response) takes goes each = each (takes response)

whole_side : (at : At) (flow : Flow) (answer : Timed Reply) (parked : Used) (closed : Bool) →
    IsKept (side_parked at.parked) (side_of (turn_whole_answer at flow answer parked closed).stage)
whole_side at flow answer parked closed =
    response_side (side_parked at.parked) flow.response (λ response. taken_at_response_body response answer.value)
    (λ taken. turn_taken_returned at flow taken answer.moment parked closed)
    (λ taken. taken_returned_side at flow taken answer.moment parked closed)

-- behind its own side a flow leaves that, or none
behind_own : (stays keeps : Bool) (place : Place) (at : At) (request : Request) (side : ℕ) →
    IsKept (Some side) (side_of (behind_flow stays (parks (stays && keeps) place at request side)))
behind_own true true place at request side = kept refl
behind_own true false place at request side = left refl
behind_own false keeps place at request side = left refl

finish_side : (switches : Bool) (place : Place) (at : At) (flow : Flow) (how : Sent) (response : Response) (keeps : Bool) (side : ℕ) (used : Used) (closed : Bool) →
    IsKept (Some side) (side_of (finish_by switches place at flow how response keeps side used closed).stage)
finish_side true place at flow how response keeps side used closed = kept refl
finish_side false place at flow how response keeps side used closed =
    behind_own (is_sent how && connection_goes_on at.flow flow.request response) keeps place at flow.request side

taken_whole_side : (place : Place) (at : At) (flow : Flow) (side : ℕ) (how : Sent) (keeps : Bool) (taken : Taken Response) (moment : ℕ) (used : Used) (closed : Bool) →
    IsKept (Some side) (side_of (turn_taken_whole place at flow side how keeps taken moment used closed).stage)
taken_whole_side place at flow side how keeps (GoesOn response) moment used closed =
    finish_side (is_sent how && response.status == 101) place at flow how response keeps side used closed
taken_whole_side place at flow side how keeps (Responds response) moment used closed = left refl
taken_whole_side place at flow side how keeps Kills moment used closed = left refl

read_whole_by : (there : Option Response) (place : Place) (at : At) (flow : Flow) (side : ℕ) (how : Sent) (keeps : Bool) (answer : Timed Reply) (used : Used) (closed : Bool) →
    IsKept (Some side) (side_of (turn_response there (λ response. taken_at_response_body response answer.value) (λ taken. turn_taken_whole place at flow side how keeps taken answer.moment used closed)).stage)
read_whole_by None place at flow side how keeps answer used closed = left refl
read_whole_by (Some response) place at flow side how keeps answer used closed =
    taken_whole_side place at flow side how keeps (taken_at_response_body response answer.value) answer.moment used closed

returned_side : (place : Place) (at : At) (flow : Flow) (side : ℕ) (how : Sent) (item : Item ReadResponse) (seen : Sight) (answer : Timed Reply) →
    IsKept (Some side) (side_of (turn_returned place at flow side how item seen answer).stage)
returned_side place at flow side how missing seen answer = left refl
returned_side place at flow side how (part head body) seen answer = left refl
returned_side place at flow side how (complete head body trailers size) seen answer =
    let whole : Flow = with_returned flow body.content trailers seen.now in
    read_whole_by whole.response place at whole side how (keeps_side flow.request seen head) answer (server_in side seen) seen.closed
returned_side place at flow side how (bad_head fault) seen answer = left refl
returned_side place at flow side how (bad_body fault head body) seen answer = left refl

taken_given_side : (at : At) (flow : Flow) (taken : Taken Response) (moment : ℕ) (parked : Used) (closed : Bool) →
    IsKept (side_parked at.parked) (side_of (turn_taken_given at flow taken moment parked closed).stage)
taken_given_side at flow (GoesOn response) moment parked closed = kept refl
taken_given_side at flow (Responds response) moment parked closed = left refl
taken_given_side at flow Kills moment parked closed = left refl

given_side : (at : At) (flow : Flow) (answer : Timed Reply) (parked : Used) (closed : Bool) →
    IsKept (side_parked at.parked) (side_of (turn_given_head at flow answer parked closed).stage)
given_side at flow answer parked closed =
    response_side (side_parked at.parked) flow.response (λ response. taken_at_response_head response answer.value)
    (λ taken. turn_taken_given at flow taken answer.moment parked closed)
    (λ taken. taken_given_side at flow taken answer.moment parked closed)

kept_from : (from : Stage) (before later : Option ℕ) → dials_at from ≡ false → side_of from ≡ before → IsKept before later → IsSideFrom from later
kept_from from before later dials is (kept same) = same_server dials (same ∙ sym is)
kept_from from before later dials is (left none) = no_side none

dial_side : (place : Place) (at : At) (parked : Option Parked) (flow : Flow) (how : Sent) (answer : Reply) →
    IsSideFrom (busy at flow (connection how)) (side_of (dial_leads place (record at { parked = parked }) flow how answer))
dial_side place at parked flow how reply.Dialled = is_new at flow how refl refl
dial_side place at parked flow how (reply.Refused fault) = no_side refl
dial_side place at parked flow how (reply.Go given stream) = no_side refl
dial_side place at parked flow how (reply.Respond response) = no_side refl
dial_side place at parked flow how reply.Kill = no_side refl
dial_side place at parked flow how reply.Discard = no_side refl

-- a parked side whose keeping has ended is kept no more
spoilt_kept : (silent : Bool) (parked : Option Parked) (later : Option ℕ) → IsKept (side_parked (unspoilt_by silent parked)) later → IsKept (side_parked parked) later
spoilt_kept true parked later is = is
spoilt_kept false parked later (kept is) = left is
spoilt_kept false parked later (left is) = left is

unspoilt_from : (from : Stage) (at : At) (seen : Sight) (later : Option ℕ) → dials_at from ≡ false → side_of from ≡ side_parked at.parked →
    IsKept (side_parked (unspoilt_at at seen).parked) later → IsSideFrom from later
unspoilt_from from at seen later dials is was =
    kept_from from (side_parked at.parked) later dials is (spoilt_kept (is_silent seen.server seen.shut) at.parked later was)

-- Where a reply leads, the server's side is none, a new one, or that of before.
pub side_turned : (terms : Terms) (stage : Stage) (seen : Sight) (answer : Timed Reply) → IsSideFrom stage (side_of (turn terms stage seen answer).stage)
side_turned terms (idle at) seen answer =
    unspoilt_from (idle at) at seen _ refl refl (head_side terms (unspoilt_at at seen) (request_in seen) seen answer)
side_turned terms (busy at flow (request_body given size)) seen answer =
    unspoilt_from (busy at flow (request_body given size)) at seen _ refl refl (turned_body_side terms.place (unspoilt_at at seen) flow (request_in seen) seen answer)
side_turned terms (busy at flow (connection how)) seen answer =
    dial_side terms.place at (unspoilt_by (is_silent seen.server seen.shut) at.parked) flow how answer.value
side_turned terms (busy at flow (response_head side how)) seen answer =
    kept_from (busy at flow (response_head side how)) (Some side) _ refl refl
    (answer_side terms (unspoilt_at at seen) flow side how (answers_in flow.request seen).final seen answer)
side_turned terms (busy at flow (response_body side how most)) seen answer =
    kept_from (busy at flow (response_body side how most)) (Some side) _ refl refl
    (returned_side terms.place (unspoilt_at at seen) flow side how (answers_in flow.request seen).final seen answer)
side_turned terms (busy at flow (coming_down side how)) seen answer = no_side refl
side_turned terms (busy at flow (upgraded side)) seen answer = no_side refl
side_turned terms (busy at flow given_head) seen answer =
    let there : At = unspoilt_at at seen in
    unspoilt_from (busy at flow given_head) at seen _ refl refl (given_side there (given_at flow seen.now) answer (server_parked there.parked seen) seen.closed)
side_turned terms (busy at flow given_body) seen answer =
    let there : At = unspoilt_at at seen in
    unspoilt_from (busy at flow given_body) at seen _ refl refl (whole_side there flow answer (server_parked there.parked seen) seen.closed)
side_turned terms (next at) seen answer = unspoilt_from (next at) at seen _ refl refl (kept refl)
side_turned terms over seen answer = no_side refl

-- and sees the same behind a reply
pub behind_onward : (onward : Stage → Stage) → IsOnward onward → (place : Place) (from : Stage) (seen : Sight) (moment : ℕ) (to : Stage) →
    sight_behind place from seen moment (onward to) ≡ sight_behind place from seen moment to
behind_onward onward goes place from seen moment to = ap (λ side. sight_behind_by place from seen moment side) (side_onward onward goes to)

-- So is it where the next flow begins.
pub onward_from : (onward : Stage → Stage) → IsOnward onward → (terms : Terms) (stage : Stage) (seen : Sight) (answer : Timed Reply) →
    IsSideFrom stage (side_of (onward (turn terms stage seen answer).stage))
onward_from onward goes terms stage seen answer =
    let turned : Stage = (turn terms stage seen answer).stage in
    let P : Option ℕ → Type 0 = IsSideFrom stage in
    subst P (sym (side_onward onward goes turned)) (side_turned terms stage seen answer)

-- What the stage sees that a reply led to, over the same prefix.
pub sight_turned : (onward : Stage → Stage) → IsOnward onward → (terms : Terms) (place : Standing) (prefix : List (Timed Event)) (answer : Timed Reply) →
    sight_over (stands terms place answer.moment prefix (onward (turn terms place.stage (sight_over place prefix) answer).stage)) prefix
    ≡ sight_behind terms.place place.stage (sight_over place prefix) answer.moment (onward (turn terms place.stage (sight_over place prefix) answer).stage)
sight_turned onward goes terms place prefix answer =
    let seen : Sight = sight_over place prefix in
    sight_stood terms place answer.moment prefix (onward (turn terms place.stage seen answer).stage) (onward_from onward goes terms place.stage seen answer)
