-- Where a conversation stands whose replies go on over any size: what is left of all that is said, in each view.
use Rattle.std.proofs.Common.{◌≡◌, ℕ, suc, ◌+◌, ◌≤◌, Bool, true, List, [], ◌∷◌, ◌++◌, length, Option, Some, None}
use Rattle.std.specs.Prelude.{◌&&◌, ◌⊎◌, ⊤, drop, take}
use Rattle.px_message.specs.declared.fault.Fault.{Fault}
use Rattle.px_message.specs.declared.flow.Flow.{Flow}
use Rattle.px_message.specs.declared.request.Request.{Request}
use Rattle.px_message.specs.declared.response.Response.{Response}
use Rattle.px_event.specs.declared.command.Command.{Command}
use Rattle.px_event.specs.declared.command.Command.TheVariants as commands
use Rattle.px_event.specs.declared.event.Event.{Event}
use Rattle.px_event.specs.declared.reply.Reply.{Reply}
use Rattle.px_event.specs.declared.side.Side.TheVariants.{Client, Server}
use Rattle.px_event.specs.Chain.{Timed}
use Rattle.px_read.specs.Items.{Body, complete, missing, request_item}
use Rattle.px_read.specs.Laws.{head_in, is_begun}
use Rattle.px_read.specs.declared.head.RequestHead.{RequestHead}
use Rattle.px_read.specs.declared.head.ResponseHead.{ResponseHead}
use Rattle.px_exchange.specs.declared.asked.Judged.TheVariants.{Accepted}
use Rattle.px_exchange.specs.declared.terms.Terms.{Terms}
use Rattle.px_exchange.specs.Finds.{is_relayed}
use Rattle.px_exchange.specs.Flows.{response_of}
use Rattle.px_exchange.specs.Requests.{judged}
use Rattle.px_exchange.specs.Texts.{interim_commands}
use Rattle.px_parts.specs.Texts.{left_of}
use Rattle.px_chain.specs.Sights.{UsedBytes}
use Rattle.px_chain.specs.Stages.{At, Doing, Parked, Sent, Stage, all_sent, busy, coming_down, connection, going_up, idle, next, over, request_body, response_body, response_head, upgraded}
use Rattle.px_said.specs.ClosedForm.{Served, Told, request_items, said_behind, still_parked}
use Rattle.px_said.specs.Lines.{Exchange, Start, answers_to, behind_reply, client_bytes, ends_at, ends_over, fault_up, goes_on_at, goes_on_kept, goes_on_over, goes_on_streamed, heard_of, is_sent_over, next_allows, next_start, once_whole, said_request, said_response, said_to, sent_from, text_down, text_up, until, used_by}
use Rattle.px_said.proofs.ClosedFronts.{Waits}
use Rattle.px_said.proofs.ClosedItems.{items_after}
use Rattle.px_said.proofs.LineQuiet.{Rest}

-- the side that waits for a request, heard in the events behind so many, behind so many bytes
pub record Waiting : Type 0 where
  pub parked : Option Parked
  pub opened : ℕ
  pub used : ℕ

-- where the request of this flow stands, behind so many bytes of the client and so many events
abbrev pub start_of : At → Waiting → (bytes from : ℕ) → List Reply → Start
start_of at waiting bytes from replies = record {
  flow = at.flow;
  server = at.dials;
  bytes = bytes;
  events = from;
  replies = replies;
  parked = waiting.parked;
  opened = waiting.opened;
  used = waiting.used;
}

-- What waits is the side that is parked; or none is, and by these events nothing waits any more.
pub data IsKept (parked : Option Parked) (opened used : ℕ) (waiting : Waiting) (prefix : List (Timed Event)) : Type 0 where
  is_parked : waiting ≡ record { parked = parked; opened = opened; used = used } → IsKept parked opened used waiting prefix
  is_gone : parked ≡ None → still_parked prefix waiting.parked waiting.opened waiting.used ≡ None → IsKept parked opened used waiting prefix

-- where what goes up of it begins
abbrev pub up_of : Sent → ℕ → Option ℕ
up_of all_sent bytes = None
up_of going_up bytes = Some bytes

-- what is left of a request's text, of which so many bytes were sent
abbrev pub up_left : Sent → (side up : ℕ) → List ℕ → List Command
up_left all_sent side up text = []
up_left going_up side up text = commands.Send (Server side) (left_of up text) ∷ []

abbrev pub exchange_of : Sent → Request → (side opened : ℕ) → UsedBytes → (went : ℕ) → Exchange
exchange_of how asked side opened used went = record {
  request = asked;
  up = up_of how used.client;
  served = record { server = side; opened = opened; used = used.server; went = went };
}

-- What is heard of an exchange, where it ends, and what stands behind it.
pub record Down : Type 0 where
  pub served : Served
  pub told : Told
  pub fault : Option Fault
  pub sent : Bool
  pub ended : Option ℕ
  pub bytes : ℕ
  pub further : Start → List Command

-- ---- what is said of a response, and behind it

-- while a request is with its server nothing waits
abbrev pub next_of : Down → At → List Reply → Start
next_of down at replies = start_of at (record { parked = None; opened = 0; used = 0 }) down.bytes 0 replies

abbrev pub further_on : Terms → Down → Request → Start → ℕ → List Command
further_on terms down asked start ended = down.further (next_start terms.place start down.served asked (answers_to asked down.told) ended)

abbrev pub after_streamed : Terms → Down → At → Request → List Reply → ResponseHead → List Command
after_streamed terms down at asked replies head =
    let start = next_of down at replies in said_behind (down.sent && goes_on_streamed start asked head) down.ended (further_on terms down asked start)

abbrev pub after_kept : Terms → Down → At → Request → List Reply → Response → List Command
after_kept terms down at asked replies response =
    let start = next_of down at replies in said_behind (down.sent && goes_on_kept start asked response) down.ended (further_on terms down asked (behind_reply start))

abbrev pub response_left : Terms → Down → At → Request → List Reply → Option ℕ → List Command
response_left terms down at asked replies most =
    said_response most asked down.told down.fault (after_streamed terms down at asked replies) (after_kept terms down at asked replies)

abbrev pub answers_left : Terms → Down → At → Request → List Reply → List Command
answers_left terms down at asked replies =
    interim_commands asked (answers_to asked down.told).interim ++ response_left terms down at asked (drop 1 replies) (next_allows terms replies)

abbrev pub coming_left : Terms → Down → At → Request → List Reply → ResponseHead → List Command
coming_left terms down at asked replies head =
    commands.Send Client (text_down asked down.told (Some head)) ∷ once_whole (answers_to asked down.told).final (after_streamed terms down at asked replies)

-- all that is said, whatever it is
module _ (terms : Terms) (events : List (Timed Event)) (all : List Command) where
  -- what is said of so many requests behind so many bytes, and of those behind the first of them
  abbrev pub further_behind : (flows bytes : ℕ) → Start → List Command
  further_behind flows bytes there = sent_from terms events there (take flows (request_items (client_bytes events bytes)))

  abbrev pub further_after : (flows bytes : ℕ) → Start → List Command
  further_after flows bytes there = sent_from terms events there (take flows (items_after (client_bytes events bytes)))

  abbrev pub further_of : Sent → (flows bytes : ℕ) → Start → List Command
  further_of all_sent flows bytes = further_behind flows bytes
  further_of going_up flows bytes = further_after flows bytes

  abbrev pub bytes_behind : Sent → ℕ → ℕ
  bytes_behind all_sent bytes = bytes
  bytes_behind going_up bytes = used_by (request_item (client_bytes events bytes)) bytes

  -- a request that is no CONNECT: behind its bytes, where it is whole, stands the next one
  pub record IsPlain (bytes : ℕ) : Type 0 where
    pub after : (head : RequestHead) (body : Body) (trailers : List (List ℕ × List ℕ)) (size : ℕ) → request_item (client_bytes events bytes) ≡ complete head body trailers size →
        items_after (client_bytes events bytes) ≡ request_items (client_bytes events (bytes + size))

  -- the request has begun over so many events
  abbrev pub begun_over : ℕ → ℕ → Bool
  begun_over bytes so_many = is_begun (request_item (client_bytes (take so_many events) bytes))

  -- ---- where it stands, over a prefix, with these replies left, and with so many flows behind this one

  module _ (flows : ℕ) where
    -- between two requests: the next one has not begun over fewer
    pub record Between (at : At) (opened : ℕ) (used : UsedBytes) (prefix : List (Timed Event)) (sent : List Command) (left : List Reply) : Type 0 where
      pub from : ℕ
      pub waiting : Waiting
      pub keeps : IsKept at.parked opened used.server waiting prefix
      pub within : from ≤ length prefix
      pub waits : Waits (begun_over used.client) from (length prefix)
      pub rest : Rest all sent (further_behind (suc flows) used.client (start_of at waiting used.client from left))

    -- a request's body is awaited
    pub record Begun (at : At) (asked : Request) (most : Option ℕ) (opened : ℕ) (used : UsedBytes) (up : ℕ) (prefix : List (Timed Event)) (sent : List Command) (left : List Reply) : Type 0 where
      pub from : ℕ
      pub waiting : Waiting
      pub keeps : IsKept at.parked opened used.server waiting prefix
      pub within : from ≤ length prefix
      pub waits : Waits (λ so_many. goes_on_over (start_of at waiting used.client from left) most (take so_many events)) from (length prefix)
      pub head : RequestHead
      pub there : head_in (request_item (client_bytes events used.client)) ≡ Some head
      pub accepted : judged terms.place head ≡ Accepted asked
      pub untold : up ≡ 0
      pub rest : Rest all sent
          (said_request terms events (start_of at waiting used.client from left) asked most (request_item (client_bytes events used.client))
          (goes_on_at events (start_of at waiting used.client from left) most) (further_after flows used.client))

    abbrev pub MayGoUp : Sent → ℕ → Type 0
    MayGoUp all_sent bytes = ⊤
    MayGoUp going_up bytes = IsPlain bytes

    -- the connection to its server
    pub record Connecting (how : Sent) (at : At) (asked : Request) (used : UsedBytes) (up : ℕ) (prefix : List (Timed Event)) (sent : List Command) (left : List Reply) : Type 0 where
      pub from : ℕ
      pub waiting : Waiting
      pub plain : MayGoUp how used.client
      pub untold : up ≡ 0
      pub rest : Rest all sent
          (said_to terms events (start_of at waiting (bytes_behind how used.client) from left) (up_of how used.client) asked (length prefix) None (further_of how flows used.client))

    -- the request went to its server over so many events, and the exchange has not ended over fewer
    pub record Onward (how : Sent) (asked : Request) (side opened : ℕ) (used : UsedBytes) (went : ℕ) (prefix : List (Timed Event)) : Type 0 where
      pub within : went ≤ length prefix
      pub waits : Waits (λ so_many. ends_over (exchange_of how asked side opened used went) (take so_many events)) went (length prefix)

    -- all that is heard of it
    abbrev pub ended_by : Sent → Request → (side opened : ℕ) → UsedBytes → ℕ → Option ℕ
    ended_by how asked side opened used went = ends_at events (exchange_of how asked side opened used went)

    abbrev pub heard_by : Sent → Request → (side opened : ℕ) → UsedBytes → ℕ → List (Timed Event)
    heard_by how asked side opened used went = until (ended_by how asked side opened used went) events

    -- over these events
    abbrev pub down_over : Sent → Request → (side opened : ℕ) → UsedBytes → ℕ → Option ℕ → List (Timed Event) → Down
    down_over how asked side opened used went ended heard =
        let exchange = exchange_of how asked side opened used went in record {
          served = exchange.served;
          told = heard_of exchange heard;
          fault = fault_up exchange heard;
          sent = is_sent_over exchange heard;
          ended = ended;
          bytes = bytes_behind how used.client;
          further = further_of how flows used.client;
        }

    abbrev pub down_of : Sent → Request → (side opened : ℕ) → UsedBytes → ℕ → Down
    down_of how asked side opened used went =
        down_over how asked side opened used went (ended_by how asked side opened used went) (heard_by how asked side opened used went)

    -- the text of the request
    abbrev pub text_over : Sent → Request → (side opened : ℕ) → UsedBytes → ℕ → List (Timed Event) → List ℕ
    text_over how asked side opened used went heard = text_up terms (exchange_of how asked side opened used went) heard

    abbrev pub text_of : Sent → Request → (side opened : ℕ) → UsedBytes → ℕ → List ℕ
    text_of how asked side opened used went = text_over how asked side opened used went (heard_by how asked side opened used went)

    -- of a request that goes up no more was sent than had come
    pub record GoesUp (asked : Request) (side opened : ℕ) (used : UsedBytes) (up went : ℕ) (prefix : List (Timed Event)) : Type 0 where
      pub told : up ≤ length (text_over going_up asked side opened used went prefix)
      pub plain : IsPlain used.client

    abbrev pub UpTo : Sent → Request → (side opened : ℕ) → UsedBytes → (up went : ℕ) → List (Timed Event) → Type 0
    UpTo all_sent asked side opened used up went prefix = ⊤
    UpTo going_up asked side opened used up went prefix = GoesUp asked side opened used up went prefix

    -- its final response is awaited: what has come of the request is not at fault, or nothing has come of that
    pub record Answering (how : Sent) (at : At) (asked : Request) (side opened : ℕ) (used : UsedBytes) (up : ℕ) (prefix : List (Timed Event)) (sent : List Command) (left : List Reply) : Type 0 where
      pub went : ℕ
      pub onward : Onward how asked side opened used went prefix
      pub goes : UpTo how asked side opened used up went prefix
      pub calm : (fault_up (exchange_of how asked side opened used went) prefix ≡ None)
          ⊎ ((answers_to asked (heard_of (exchange_of how asked side opened used went) prefix)).final ≡ missing)
      pub rest : Rest all sent (up_left how side up (text_of how asked side opened used went)
          ++ answers_left terms (down_of how asked side opened used went) at asked left)

    -- and that response's body
    pub record Returning (how : Sent) (at : At) (flow : Flow) (most : Option ℕ) (side opened : ℕ) (used : UsedBytes) (up : ℕ) (prefix : List (Timed Event)) (sent : List Command) (left : List Reply) : Type 0 where
      pub went : ℕ
      pub onward : Onward how flow.request side opened used went prefix
      pub goes : UpTo how flow.request side opened used up went prefix
      pub head : ResponseHead
      pub there : head_in (answers_to flow.request (heard_of (exchange_of how flow.request side opened used went) prefix)).final ≡ Some head
      pub relayed : is_relayed head.code ≡ true
      pub response : flow.response ≡ Some (response_of head)
      pub rest : Rest all sent (up_left how side up (text_of how flow.request side opened used went)
          ++ response_left terms (down_of how flow.request side opened used went) at flow.request left most)

    -- which is streamed
    pub record Coming (how : Sent) (at : At) (flow : Flow) (side opened : ℕ) (used : UsedBytes) (up : ℕ) (prefix : List (Timed Event)) (sent : List Command) (left : List Reply) : Type 0 where
      pub went : ℕ
      pub onward : Onward how flow.request side opened used went prefix
      pub goes : UpTo how flow.request side opened used up went prefix
      pub head : ResponseHead
      pub there : head_in (answers_to flow.request (heard_of (exchange_of how flow.request side opened used went) prefix)).final ≡ Some head
      pub relayed : is_relayed head.code ≡ true
      pub response : flow.response ≡ Some (record (response_of head) { streamed = true })
      pub rest : Rest all sent (up_left how side up (text_of how flow.request side opened used went)
          ++ coming_left terms (down_of how flow.request side opened used went) at flow.request left head)

    -- it has ended, and all was said
    pub record Ended (sent : List Command) : Type 0 where
      pub is_all : Rest all sent []

    abbrev pub IsDoing : At → Flow → Doing → (opened : ℕ) → UsedBytes → (up : ℕ) → List (Timed Event) → List Command → List Reply → Type 0
    IsDoing at flow (request_body None most) opened used up prefix sent left = Begun at flow.request most opened used up prefix sent left
    IsDoing at flow (connection how) opened used up prefix sent left = Connecting how at flow.request used up prefix sent left
    IsDoing at flow (response_head side how) opened used up prefix sent left = Answering how at flow.request side opened used up prefix sent left
    IsDoing at flow (response_body side how most) opened used up prefix sent left = Returning how at flow most side opened used up prefix sent left
    IsDoing at flow (coming_down side how) opened used up prefix sent left = Coming how at flow side opened used up prefix sent left
    IsDoing at flow (upgraded side) opened used up prefix sent left = Ended sent
    IsDoing at flow _ opened used up prefix sent left = ⊥

    abbrev pub IsAt : Stage → (opened : ℕ) → UsedBytes → (up : ℕ) → List (Timed Event) → List Command → List Reply → Type 0
    IsAt (idle at) opened used up prefix sent left = Between at opened used prefix sent left
    IsAt (busy at flow doing) opened used up prefix sent left = IsDoing at flow doing opened used up prefix sent left
    IsAt (next at) opened used up prefix sent left = ⊥
    IsAt over opened used up prefix sent left = Ended sent
