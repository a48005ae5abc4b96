-- What a stream tells of itself is read off the place where it stands: what became of it, and what it did not use of the bytes of its two sides.
use Rattle.std.proofs.Common.{◌≡◌, ℕ, Bool, true, false, List, [], ◌∷◌, Option, Some, None, Result, Ok, Err, refl, ap, sym, ◌∙◌, subst}
use Rattle.std.specs.Prelude.{IfOk}
use Rattle.px_event.specs.declared.command.Command.{Command}
use Rattle.px_event.specs.declared.event.Event.{Event}
use Rattle.px_event.specs.declared.event.Rests.{Rests}
use Rattle.px_event.specs.Chain.{Timed, Look, NotYet, Asks, Ends}
use Rattle.px_message.specs.declared.flow.Flow.{Flow}
use Rattle.px_message.specs.declared.request.Request.{Request}
use Rattle.px_message.specs.declared.response.Response.{Response}
use Rattle.px_read.specs.Marks.{Mark, asks}
use Rattle.px_read.specs.Reader.{State, request}
use Rattle.px_read.specs.declared.head.ResponseHead.{ResponseHead as ReadResponse}
use Rattle.px_exchange.specs.declared.outcome.Outcome.TheVariants as outcomes
use Rattle.px_exchange.specs.declared.terms.Terms.{Terms}
use Rattle.px_exchange.specs.Requests.{is_head}
use Rattle.px_chain.specs.Chain.{Connect, connect_in, look}
use Rattle.px_chain.specs.Sights.{Sight, Standing, client_left, request_in, sight_over}
use Rattle.px_chain.specs.Stages.{At, Doing, Sent, Stage, busy, coming_down, connection, given_body, given_head, idle, next, over, request_body, response_body, response_head, upgraded}
use Rattle.px_stream.specs.declared.coming.Held.{Held}
use Rattle.px_stream.specs.declared.link.Link.{Link}
use Rattle.px_stream.specs.declared.going.Going.{Going}
use Rattle.px_stream.specs.declared.going.Sending.{Sending}
use Rattle.px_stream.specs.declared.going.Sending.TheVariants as sending
use Rattle.px_stream.specs.declared.phase.Asked.{Asked}
use Rattle.px_stream.specs.declared.phase.Asked.TheVariants as asked
use Rattle.px_stream.specs.declared.phase.Phase.{Phase}
use Rattle.px_stream.specs.declared.phase.Phase.TheVariants as phase
use Rattle.px_stream.specs.declared.phase.Wanted.{Wanted}
use Rattle.px_stream.specs.declared.phase.Wanted.TheVariants as ready
use Rattle.px_stream.specs.declared.stream.Stream.{Stream}
use Rattle.px_stream.specs.Anywhere.{IsInSequence}
use Rattle.px_stream.specs.Goings.{sent_by, sent_of}
use Rattle.px_stream.specs.Rests.{BehindSent, ClientAsked, ClientBehind, ClientLast, ClientWaiting, IsUnread, IsUnreadAnswer, LeavesRests, ServerAsked, ServerLast, ServerWaiting, flow_last}
use Rattle.px_stream.specs.Stands.{AskedRequest, AskedSide, AskedUp, GoesOnUp, HasRequest, HasSide, IsLast, IsLastAt, IsLastFor, IsLink, IsOpen, LinkEnds, LinkKeeps, PhaseAt, ReadsDown, ReadsFinal, ReadsGoing, ReadsReturn, SentOn, WaitsUp, asked_in, bare, going_asked, is_last, sent_asked, sent_at, stage_of, up_asked}
use Rattle.px_stream.specs.Tells.{connected_by, ended_at, outcome_at, outcome_in, phase_flow, side_rest, uses_side}
use Rattle.px_stream.specs.Turns.{is_dial}
use Rattle.px_stream.proofs.AskLemmas.{dial_asked, uses_asked, uses_of}

link_unread : (message : Request) (server : ℕ) (seen : Sight) (sent : List ReadResponse) (told : List Mark) (link : Link) → IsLink message server seen sent told link →
    IsUnreadAnswer (is_head message.method) seen.server seen.shut link.responses.rest
link_unread message server seen sent told link is =
    record { sent = sent; fed = is.fed; passes = is.passes; unread = record { told = told; state = link.responses; reads = is.reads; keeps = refl } }

-- of a request that goes up the reader keeps the rest
going_unread : (flow : Flow) (seen : Sight) (is_sent : Option Request) (marks : List Mark) (requests : State) → ReadsGoing flow seen is_sent marks requests → IsUnread request seen.client false requests.rest
going_unread flow seen is_sent marks requests is = record { told = asks is.head ∷ marks; state = requests; reads = is.reads; keeps = refl }

-- ---- while no answer is awaited

module _ (terms : Terms) (at : At) (requests : State) (side : Option Link) (seen : Sight) (sent : SentOn) where
  head_waits : (message : Request) (server : ℕ) (s : Option Link) → IsOpen (IsLink message server seen sent.interim []) s → IsUnreadAnswer (is_head message.method) seen.server seen.shut (side_rest true s)
  head_waits message server None is = absurd is
  head_waits message server (Some link) is = link_unread message server seen sent.interim [] link is

  body_waits : (flow : Flow) (server : ℕ) (most : Option ℕ) (content : List ℕ) (held : Option Held) (s : Option Link) → IsOpen (ReadsReturn flow server most seen content held) s →
      IsUnreadAnswer (is_head flow.request.method) seen.server seen.shut (side_rest true s)
  body_waits flow server most content held None is = absurd is
  body_waits flow server most content held (Some link) is = link_unread flow.request server seen is.sent _ link is.is_link

  down_waits : (flow : Flow) (server : ℕ) (is_sent : Option Response) (text : List ℕ) (s : Option Link) → IsOpen (ReadsDown flow server seen is_sent text) s →
      IsUnreadAnswer (is_head flow.request.method) seen.server seen.shut (side_rest true s)
  down_waits flow server is_sent text None is = absurd is
  down_waits flow server is_sent text (Some link) is = link_unread flow.request server seen is.sent _ link is.is_link

  record Waits (looked : Wanted) : Type 0 where
    client : ClientWaiting (stage_of at looked) seen requests.rest
    server : ServerWaiting (stage_of at looked) seen (side_rest (uses_side (phase.Ready looked)) side)
    flow : phase_flow (phase.Ready looked) ≡ None
    going : outcome_in (phase.Ready looked) ≡ outcomes.Going

  dial_waits : (flow : Flow) (up : Option Going) → WaitsUp terms flow seen up requests → BehindSent (sent_by up) seen requests.rest
  dial_waits flow None is = is.rest
  dial_waits flow (Some going) is = going_unread flow seen (Some going.sent) is.marks requests is.going_on

  up_waits : (flow : Flow) (up : Sending) → GoesOnUp terms flow seen up sent.up requests → BehindSent (sent_of up) seen requests.rest
  up_waits flow sending.All is = is.rest
  up_waits flow (sending.GoingUp message) is = going_unread flow seen (Some message) is.marks requests is.going_on

  waits_by : (looked : Wanted) → is_last (phase.Ready looked) ≡ false → HasRequest terms (stage_of at looked) seen sent.up looked requests → HasSide (stage_of at looked) seen sent looked side → Waits looked
  waits_by ready.Idle goes reads has = record { client = record { told = []; state = requests; reads = reads; keeps = refl }; server = refl; flow = refl; going = refl }
  waits_by (ready.RequestBody flow given most body held) goes reads has =
      record { client = record { told = asks reads.head ∷ reads.marks; state = requests; reads = reads.reads; keeps = refl }; server = refl; flow = refl; going = refl }
  waits_by (ready.Connection flow up) goes reads has = record { client = dial_waits flow up reads; server = refl; flow = refl; going = refl }
  waits_by (ready.ResponseHead flow server up) goes reads has = record { client = up_waits flow up reads; server = head_waits flow.request server side has; flow = refl; going = refl }
  waits_by (ready.ResponseBody flow server up most body held) goes reads has = record { client = up_waits flow up reads; server = body_waits flow server most body held side has; flow = refl; going = refl }
  waits_by (ready.ComingDown flow server up is_sent) goes reads has = record { client = up_waits flow up reads; server = down_waits flow server (Some is_sent) sent.text side has; flow = refl; going = refl }
  waits_by (ready.Upgraded flow server) goes reads has = absurd (let no : true ≡ false = goes in cc)
  waits_by (ready.GivenHead flow) goes reads has = record { client = reads.rest; server = refl; flow = refl; going = refl }
  waits_by (ready.GivenBody flow) goes reads has = record { client = reads.rest; server = refl; flow = refl; going = refl }
  waits_by (ready.Connects address) goes reads has = absurd reads
  waits_by ready.Over goes reads has = absurd (let no : true ≡ false = goes in cc)

-- ---- while one is

final_waits : (message : Request) (server : ℕ) (seen : Sight) (s : Option Link) → IsOpen (ReadsFinal message server seen) s → IsUnreadAnswer (is_head message.method) seen.server seen.shut (side_rest true s)
final_waits message server seen None is = absurd is
final_waits message server seen (Some link) is = link_unread message server seen is.sent _ link is.is_link

kept_waits : (server : ℕ) (bytes : List ℕ) (shut : Bool) (s : Option Link) → IsOpen (LinkKeeps server bytes shut) s → side_rest true s ≡ bytes
kept_waits server bytes shut None is = absurd is
kept_waits server bytes shut (Some link) is = is.rest

ends_waits : (message : Request) (server : ℕ) (bytes : List ℕ) (seen : Sight) (s : Option Link) → IsOpen (LinkEnds message server bytes seen) s → side_rest true s ≡ bytes
ends_waits message server bytes seen None is = absurd is
ends_waits message server bytes seen (Some link) is = is.keeps.rest

-- how the request stands is told by what was asked: by a dial, or by anything else
dial_behind : (terms : Terms) (flow : Flow) (seen : Sight) (requests : State) (sent : Sent) (found : Asked) → is_dial found ≡ true → sent_asked found ≡ sent → WaitsUp terms flow seen (going_asked found) requests →
    BehindSent sent seen requests.rest
dial_behind terms flow seen requests sent (asked.Connection own server None) dials how is = subst (λ s. BehindSent s seen requests.rest) how is.rest
dial_behind terms flow seen requests sent (asked.Connection own server (Some going)) dials how is =
    subst (λ s. BehindSent s seen requests.rest) how (going_unread flow seen (Some going.sent) is.marks requests is.going_on)
dial_behind terms flow seen requests sent (asked.Idle own expects) dials how is = absurd (let no : false ≡ true = dials in cc)
dial_behind terms flow seen requests sent (asked.RequestBody own) dials how is = absurd (let no : false ≡ true = dials in cc)
dial_behind terms flow seen requests sent (asked.ResponseHead own server up) dials how is = absurd (let no : false ≡ true = dials in cc)
dial_behind terms flow seen requests sent (asked.ResponseBody own server up) dials how is = absurd (let no : false ≡ true = dials in cc)
dial_behind terms flow seen requests sent (asked.GivenHead own) dials how is = absurd (let no : false ≡ true = dials in cc)
dial_behind terms flow seen requests sent (asked.GivenBody own) dials how is = absurd (let no : false ≡ true = dials in cc)

sent_no_dial : (found : Asked) → is_dial found ≡ false → sent_asked found ≡ sent_of (up_asked found)
sent_no_dial (asked.Connection own server up) dials = absurd (let no : true ≡ false = dials in cc)
sent_no_dial (asked.Idle own expects) dials = refl
sent_no_dial (asked.RequestBody own) dials = refl
sent_no_dial (asked.ResponseHead own server up) dials = refl
sent_no_dial (asked.ResponseBody own server up) dials = refl
sent_no_dial (asked.GivenHead own) dials = refl
sent_no_dial (asked.GivenBody own) dials = refl

up_behind : (flow : Flow) (stage : Stage) (seen : Sight) (requests : State) (sent : Sent) (up : Sending) → client_left stage seen ≡ seen.client → sent_of up ≡ sent → AskedUp flow stage seen up requests →
    BehindSent sent seen requests.rest
up_behind flow stage seen requests sent sending.All whole how is = subst (λ s. BehindSent s seen requests.rest) how (is.rest ∙ whole)
up_behind flow stage seen requests sent (sending.GoingUp message) whole how is =
    subst (λ s. BehindSent s seen requests.rest) how (going_unread flow seen (Some message) is.marks requests is.going_on)

module _ (terms : Terms) (requests : State) (side : Option Link) (found : Asked) (seen : Sight) where
  client_asked : (stage : Stage) → asked_in terms stage seen ≡ Some (bare found) → sent_asked found ≡ sent_at stage → AskedRequest terms stage seen found requests → ClientAsked stage seen requests.rest
  client_asked (idle at) is_asked how is = record { told = _; state = requests; reads = is; keeps = refl }
  client_asked (busy at flow (request_body given most)) is_asked how is = is.rest
  client_asked (busy at flow (connection sent)) is_asked how is =
      dial_behind terms flow seen requests sent found (dial_asked terms (busy at flow (connection sent)) seen found is_asked) how is
  client_asked (busy at flow (response_head server sent)) is_asked how is =
      up_behind flow (busy at flow (response_head server sent)) seen requests sent (up_asked found) refl
      (sym (sent_no_dial found (dial_asked terms (busy at flow (response_head server sent)) seen found is_asked)) ∙ how) is
  client_asked (busy at flow (response_body server sent most)) is_asked how is =
      up_behind flow (busy at flow (response_body server sent most)) seen requests sent (up_asked found) refl
      (sym (sent_no_dial found (dial_asked terms (busy at flow (response_body server sent most)) seen found is_asked)) ∙ how) is
  client_asked (busy at flow (coming_down server sent)) is_asked how is = absurd (let no : None ≡ Some (bare found) = is_asked in cc)
  client_asked (busy at flow (upgraded server)) is_asked how is = is.rest
  client_asked (busy at flow given_head) is_asked how is = is.rest
  client_asked (busy at flow given_body) is_asked how is = is.rest
  client_asked (next at) is_asked how is = is.rest
  client_asked over is_asked how is = is.rest

  server_asked : (stage : Stage) → asked_in terms stage seen ≡ Some (bare found) → AskedSide stage seen side → ServerAsked stage seen (side_rest (uses_of stage) side)
  server_asked (idle at) is_asked is = refl
  server_asked (busy at flow (request_body given most)) is_asked is = refl
  server_asked (busy at flow (connection how)) is_asked is = refl
  server_asked (busy at flow (response_head server how)) is_asked is = final_waits flow.request server seen side is
  server_asked (busy at flow (response_body server how most)) is_asked is = ends_waits flow.request server _ seen side is
  server_asked (busy at flow (coming_down server how)) is_asked is = absurd (let no : None ≡ Some (bare found) = is_asked in cc)
  server_asked (busy at flow (upgraded server)) is_asked is = refl
  server_asked (busy at flow given_head) is_asked is = refl
  server_asked (busy at flow given_body) is_asked is = refl
  server_asked (next at) is_asked is = refl
  server_asked over is_asked is = refl

-- ---- at the end

record Leaves (terms : Terms) (stage : Stage) (seen : Sight) (requests : State) (side : Option Link) (last : Wanted) : Type 0 where
  client : ClientLast terms.place stage seen requests.rest
  server : ServerLast stage seen (side_rest (uses_side (phase.Ready last)) side)
  flow : phase_flow (phase.Ready last) ≡ flow_last stage
  ended : outcome_in (phase.Ready last) ≡ ended_at terms.place stage seen

module _ (terms : Terms) (seen : Sight) (requests : State) (side : Option Link) (last : Wanted) where
  abbrev rest_in : Wanted → List ℕ
  rest_in looked = side_rest (uses_side (phase.Ready looked)) side

  leaves_idle : (at : At) (connects : Option Connect) → connect_in terms.place (request_in seen) ≡ connects → IsLastAt at connects seen requests side last → Leaves terms (idle at) seen requests side last
  leaves_idle at None is there = record {
    client = subst (λ c. ClientBehind c seen requests.rest) (sym is) tt;
    server = ap rest_in there;
    flow = ap (λ l. phase_flow (phase.Ready l)) there;
    ended = ap (λ l. outcome_in (phase.Ready l)) there ∙ ap connected_by (sym is);
  }
  leaves_idle at (Some connects) is there = record {
    client = subst (λ c. ClientBehind c seen requests.rest) (sym is) there.keeps.rest;
    server = ap rest_in there.phase;
    flow = ap (λ l. phase_flow (phase.Ready l)) there.phase;
    ended = ap (λ l. outcome_in (phase.Ready l)) there.phase ∙ ap connected_by (sym is);
  }

  leaves_for : (at : At) (flow : Flow) (doing : Doing) → IsLastFor flow doing seen requests side last → Leaves terms (busy at flow doing) seen requests side last
  leaves_for at flow (request_body given most) is = record { client = tt; server = ap rest_in is; flow = ap (λ l. phase_flow (phase.Ready l)) is; ended = ap (λ l. outcome_in (phase.Ready l)) is }
  leaves_for at flow (connection sent) is = record { client = tt; server = ap rest_in is; flow = ap (λ l. phase_flow (phase.Ready l)) is; ended = ap (λ l. outcome_in (phase.Ready l)) is }
  leaves_for at flow (response_head server how) is = record { client = tt; server = ap rest_in is; flow = ap (λ l. phase_flow (phase.Ready l)) is; ended = ap (λ l. outcome_in (phase.Ready l)) is }
  leaves_for at flow (response_body server how most) is = record { client = tt; server = ap rest_in is; flow = ap (λ l. phase_flow (phase.Ready l)) is; ended = ap (λ l. outcome_in (phase.Ready l)) is }
  leaves_for at flow (coming_down server how) is = record { client = tt; server = ap rest_in is; flow = ap (λ l. phase_flow (phase.Ready l)) is; ended = ap (λ l. outcome_in (phase.Ready l)) is }
  leaves_for at flow (upgraded server) is = record {
    client = is.keeps.rest;
    server = ap rest_in is.phase ∙ kept_waits server seen.server seen.shut side is.is_open;
    flow = ap (λ l. phase_flow (phase.Ready l)) is.phase;
    ended = ap (λ l. outcome_in (phase.Ready l)) is.phase;
  }
  leaves_for at flow given_head is = record { client = tt; server = ap rest_in is; flow = ap (λ l. phase_flow (phase.Ready l)) is; ended = ap (λ l. outcome_in (phase.Ready l)) is }
  leaves_for at flow given_body is = record { client = tt; server = ap rest_in is; flow = ap (λ l. phase_flow (phase.Ready l)) is; ended = ap (λ l. outcome_in (phase.Ready l)) is }

  leaves_last : (stage : Stage) → IsLast terms stage seen requests side last → Leaves terms stage seen requests side last
  leaves_last (idle at) is = leaves_idle at (connect_in terms.place (request_in seen)) refl is
  leaves_last (busy at flow doing) is = leaves_for at flow doing is
  leaves_last (next at) is = record { client = tt; server = ap rest_in is; flow = ap (λ l. phase_flow (phase.Ready l)) is; ended = ap (λ l. outcome_in (phase.Ready l)) is }
  leaves_last over is = record { client = tt; server = ap rest_in is; flow = ap (λ l. phase_flow (phase.Ready l)) is; ended = ap (λ l. outcome_in (phase.Ready l)) is }

-- ---- wherever it stands

-- what is looked for while the stage waits is not an end
goes_on : (terms : Terms) (at : At) (looked : Wanted) (seen : Sight) → look terms (stage_of at looked) seen ≡ NotYet → is_last (phase.Ready looked) ≡ false
goes_on terms at ready.Idle seen waits = refl
goes_on terms at (ready.RequestBody flow given most body held) seen waits = refl
goes_on terms at (ready.Connection flow up) seen waits = refl
goes_on terms at (ready.ResponseHead flow server up) seen waits = refl
goes_on terms at (ready.ResponseBody flow server up most body held) seen waits = refl
goes_on terms at (ready.ComingDown flow server up sent) seen waits = refl
goes_on terms at (ready.Upgraded flow server) seen waits = absurd (let no : Ends [] ≡ NotYet = waits in cc)
goes_on terms at (ready.GivenHead flow) seen waits = refl
goes_on terms at (ready.GivenBody flow) seen waits = refl
goes_on terms at (ready.Connects address) seen waits = absurd (let no : Ends [] ≡ NotYet = waits in cc)
goes_on terms at ready.Over seen waits = absurd (let no : Ends [] ≡ NotYet = waits in cc)

module _ (terms : Terms) (at : At) (requests : State) (side : Option Link) (found : Phase) (stage : Stage) (seen : Sight) where
  -- what it tells there
  record Tells (l : Look Command) : Type 0 where
    rests : LeavesRests terms.place l stage seen requests.rest (side_rest (uses_side found) side) (phase_flow found)
    outcome : outcome_in found ≡ outcome_at terms.place l stage seen

  abbrev LeavesIn : Look Command → Phase → Type 0
  LeavesIn l p = LeavesRests terms.place l stage seen requests.rest (side_rest (uses_side p) side) (phase_flow p)

  tells_by : (l : Look Command) → look terms stage seen ≡ l → PhaseAt l terms at requests side found stage seen → Tells l
  tells_by NotYet waits (looked, sent, same, is, gave, given) =
      let goes = goes_on terms at looked seen (ap (λ s. look terms s seen) is.is_stage ∙ waits) in
      let there = waits_by terms at requests side seen sent looked goes (subst (λ s. HasRequest terms s seen sent.up looked requests) (sym is.is_stage) is.request)
      (subst (λ s. HasSide s seen sent looked side) (sym is.is_stage) is.has_side) in
      record {
        rests = subst (LeavesIn NotYet) (sym same) (
          subst (λ s. ClientWaiting s seen requests.rest) is.is_stage there.client,
          subst (λ s. ServerWaiting s seen (side_rest (uses_side (phase.Ready looked)) side)) is.is_stage there.server,
          there.flow,
        );
        outcome = ap outcome_in same ∙ there.going;
      }
  tells_by (Asks ask) is_found (here, same, is) = record {
    rests = subst (LeavesIn (Asks ask)) (sym same) (
      client_asked terms requests side here seen stage is.asks is.how is.request,
      subst (λ b. ServerAsked stage seen (side_rest b side)) (sym (uses_asked terms stage seen here is.asks)) (server_asked terms requests side here seen stage is.asks is.has_side),
      refl,
    );
    outcome = ap outcome_in same;
  }
  tells_by (Ends owed) ends (last, same, is) =
      let there = leaves_last terms seen requests side last stage is in
      record { rests = subst (LeavesIn (Ends owed)) (sym same) (there.client, there.server, there.flow); outcome = ap outcome_in same ∙ there.ended }

pub rests_there : (made : Terms) (ahead : ℕ) (state : Stream) (place : Standing) (prefix : List (Timed Event)) → IsInSequence made ahead state place prefix →
    LeavesRests made.place (look made place.stage (sight_over place prefix)) place.stage (sight_over place prefix) state.requests.rest (side_rest (uses_side state.phase) state.side) (phase_flow state.phase)
rests_there made ahead state place prefix stands =
    (tells_by made state.at state.requests state.side state.phase place.stage (sight_over place prefix) (look made place.stage (sight_over place prefix)) refl stands.is_at.is_in.phase).rests

pub outcome_there : (made : Terms) (ahead : ℕ) (state : Stream) (place : Standing) (prefix : List (Timed Event)) → IsInSequence made ahead state place prefix →
    outcome_in state.phase ≡ outcome_at made.place (look made place.stage (sight_over place prefix)) place.stage (sight_over place prefix)
outcome_there made ahead state place prefix stands =
    (tells_by made state.at state.requests state.side state.phase place.stage (sight_over place prefix) (look made place.stage (sight_over place prefix)) refl stands.is_at.is_in.phase).outcome

-- what is said of three parts is said of those that are equal
pub rests_as : {E : Type 0} (result : Result (Rests × Option Flow) E) (client server : List ℕ) (flow : Option Flow) (P : List ℕ → List ℕ → Option Flow → Type 0) →
    IfOk result (λ left. left.0.client ≡ client) → IfOk result (λ left. left.0.server ≡ server) → IfOk result (λ left. left.1 ≡ flow) → P client server flow →
    IfOk result (λ left. P left.0.client left.0.server left.1)
rests_as (Ok left) client server flow P one two three is =
    subst (λ f. P left.0.client left.0.server f) (sym three) (subst (λ l. P left.0.client l flow) (sym two) (subst (λ l. P l server flow) (sym one) is))
rests_as (Err e) client server flow P one two three is = tt
