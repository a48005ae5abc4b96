-- What is due of a WebSocket: each side's control frames go to the other at once, each whole message once it is answered; a Close
-- frame, a fault, a kill or a close ends it (RFC 6455 sections 5.4, 5.5 and 7).
use Rattle.std.specs.Prelude.{ℕ, zero, suc, ◌+◌, ◌-◌, Bool, false, ◌||◌, ◌==◌, nat_lt, if◌then◌else◌, List, [], ◌∷◌, ◌++◌, length, drop, codes, Some, None}
use Rattle.px_message.specs.declared.flow.Flow.{Flow}
use Rattle.px_event.specs.declared.ask.Ask.{Ask}
use Rattle.px_event.specs.declared.ask.Ask.TheVariants as asks
use Rattle.px_event.specs.declared.ask.Hook.TheVariants as hooks
use Rattle.px_event.specs.declared.command.Command.{Command}
use Rattle.px_event.specs.declared.command.Command.TheVariants as commands
use Rattle.px_event.specs.declared.event.Event.{Event}
use Rattle.px_event.specs.declared.event.Rests.{Rests}
use Rattle.px_event.specs.declared.reply.Reply.{Reply}
use Rattle.px_event.specs.declared.side.Side.TheVariants as sides
use Rattle.px_event.specs.Chain.{Timed, Look, NotYet, Asks, Ends, Turn, Chain}
use Rattle.px_frame.specs.declared.fault.FrameFault.TheVariants.{TooBig}
use Rattle.px_frame.specs.declared.frame.Frame.{Frame}
use Rattle.px_frame.specs.Frames.{Front, nothing, refused, stands}
use Rattle.px_frame.specs.Head.{has_length, is_control}
use Rattle.px_relay.specs.declared.failure.Failure.{Failure}
use Rattle.px_relay.specs.declared.failure.Failure.TheVariants.{BadFrame, NotText}
use Rattle.px_relay.specs.declared.peer.Peer.{Peer}
use Rattle.px_relay.specs.declared.peer.Peer.TheVariants.{Client, Server}
use Rattle.px_relay.specs.Failures.{failure_payload}
use Rattle.px_relay.specs.Messages.{Message, Verdict, gathered, is_bad_text, kept_of, message_frames, sends, drops, kills, verdict}
use Rattle.px_relay.specs.Peers.{is_client, other}
use Rattle.px_relay.specs.Sending.{Terms, close_both, counted, send_to, sent_behind, with_records}
use Rattle.px_relay.specs.Sights.{Sight, bytes_of, seen_over}
use Rattle.px_relay.specs.Stages.{At, Half, Stage, half_of, holding, moment_at, most_messages, next_in, over, relaying, rested, with_half}

-- ---- the end: the flow is finished, and each side that has not closed is closed

abbrev pub shut_server : ℕ → Bool → List Command
shut_server server shut = if shut then [] else (commands.Close (sides.Server server) ∷ [])

abbrev pub shut_client : Bool → List Command
shut_client closed = if closed then [] else (commands.Close sides.Client ∷ [])

abbrev pub ends : Terms → Sight → Flow → List Command
ends terms seen flow = commands.Done flow ∷ (shut_server terms.server seen.shut ++ shut_client seen.closed)

-- a Close frame with this payload on both sides, and the end
abbrev pub closes_with : Terms → Sight → Peer → ℕ → List ℕ → Turn Stage Command
closes_with terms seen from sent payload =
    record { owed = close_both terms from sent payload ++ ends terms seen terms.flow; stage = over }

abbrev pub fails : Terms → Sight → Peer → ℕ → Failure → Turn Stage Command
fails terms seen from sent failure = closes_with terms seen from sent (failure_payload failure)

-- ---- one frame

-- what a frame comes to: it goes on, or it stops at an ask or at the end
pub data Course : Type 0 where
  goes_on : (owed : List Command) (at : At) → Course
  stops : (turn : Turn Stage Command) → Course

-- More messages than this are never whole: two frames at most, one of each side, are let through before the last message and end behind it.
abbrev pub most_whole : ℕ
most_whole = most_messages + 2

-- a whole message is asked about, unless it is a text and no UTF-8
abbrev pub message_course : Terms → Sight → Peer → At → Message → Course
message_course terms seen from at message =
    if is_bad_text message.text message.payload then stops (fails terms seen from at.sent NotText)
    else (if nat_lt at.messages most_whole then stops (record { owed = []; stage = holding from message at })
    else stops (fails terms seen from at.sent (BadFrame TooBig)))

-- a frame of data begins, continues or ends a message
abbrev pub data_course : Terms → Sight → Peer → At → Frame → Course
data_course terms seen from at frame =
    let half = half_of from at in
    let message = gathered half.begun frame in
    if frame.fin then message_course terms seen from (with_half from (record half { begun = None }) at) message
    else goes_on [] (with_half from (record half { begun = Some message }) at)

-- a ping or a pong is sent on, also between the fragments of a message; a Close frame ends it
abbrev pub control_course : Terms → Sight → Peer → At → Frame → Course
control_course terms seen from at frame =
    if frame.opcode == 8 then stops (closes_with terms seen from at.sent frame.payload)
    else goes_on (send_to terms (other from) at.sent (frame ∷ [])) (record at { sent = counted (other from) at.sent })

abbrev pub frame_course : Terms → Sight → Peer → At → Frame → Course
frame_course terms seen from at frame =
    if is_control frame.opcode then control_course terms seen from at frame else data_course terms seen from at frame

-- ---- all frames of a side

-- behind a frame of a side, with this rest of its bytes
abbrev pub past : Peer → Sight → List ℕ → At → At
past peer seen rest at =
    let half = half_of peer at in
    with_half peer (record half { used = length (bytes_of peer seen) - length rest; judged = false }) at

-- where no further frame of a side is whole: if its length was heard, it was judged
abbrev pub looked : Peer → Sight → At → At
looked peer seen at =
    let half = half_of peer at in
    with_half peer (record half { judged = half.judged || has_length (drop half.used (bytes_of peer seen)) }) at

abbrev pub behind_course : (At → Turn Stage Command) → Course → Turn Stage Command
behind_course further (goes_on owed at) =
    let next = further at in record { owed = owed ++ next.owed; stage = next.stage }
behind_course further (stops turn) = turn

-- what stands at the front of a side is worked off, and `further` what is behind it; `onward` goes on where nothing is whole there
abbrev pub front_course : Terms → Sight → Peer → (At → Turn Stage Command) → (At → Turn Stage Command) → At → Front → Turn Stage Command
front_course terms seen peer further onward at nothing = onward (looked peer seen at)
front_course terms seen peer further onward at (refused fault) = fails terms seen peer at.sent (BadFrame fault)
front_course terms seen peer further onward at (stands frame rest) =
    behind_course further (frame_course terms seen peer (past peer seen rest at) frame)

-- at most so many frames
abbrev pub drain_within : Terms → Sight → Peer → ℕ → (At → Turn Stage Command) → At → Turn Stage Command
drain_within terms seen peer zero onward at = onward at
drain_within terms seen peer (suc most) onward at =
    front_course terms seen peer (drain_within terms seen peer most onward) onward at (next_in peer at seen)

-- all of them: each uses at least one byte
abbrev pub unread : Peer → Sight → At → List ℕ
unread peer seen at = drop (half_of peer at).used (bytes_of peer seen)

abbrev pub drain : Terms → Sight → Peer → (At → Turn Stage Command) → At → Turn Stage Command
drain terms seen peer onward at = drain_within terms seen peer (suc (length (unread peer seen at))) onward at

-- ---- the chain over sights

-- with no further frame whole, a side that has closed ends it
abbrev pub at_rest : Terms → Sight → At → Turn Stage Command
at_rest terms seen at =
    if seen.closed || seen.shut then record { owed = ends terms seen terms.flow; stage = over }
    else record { owed = []; stage = relaying (rested at) }

abbrev pub drain_server : Terms → Sight → At → Turn Stage Command
drain_server terms seen at = drain terms seen Server (at_rest terms seen) at

-- the client's frames go before the server's
abbrev pub drain_both : Terms → Sight → At → Turn Stage Command
drain_both terms seen at = drain terms seen Client (drain_server terms seen) at

-- At a place the flow has the records of the messages that were answered, and of no other.
abbrev pub terms_at : Terms → At → Terms
terms_at terms at = with_records terms at.records

abbrev pub pass : Terms → Stage → Sight → Turn Stage Command
pass terms (relaying at) seen = drain_both (terms_at terms at) seen at
pass terms (holding from message at) seen = record { owed = []; stage = holding from message at }
pass terms over seen = record { owed = []; stage = over }

-- the flow with the message that is asked about
abbrev pub with_message : Flow → Peer → Message → Flow
with_message flow from message =
    record flow { message = Some (record { from_client = is_client from; text = message.text; payload = message.payload }) }

abbrev pub message_ask : Terms → At → Ask
message_ask terms at = asks.Hook terms.flow.id.index (hooks.WsMessage at.messages)

abbrev pub look : Terms → Stage → Look Command
look terms (relaying at) = NotYet
look terms (holding from message at) = Asks (commands.Ask (message_ask terms at) (with_message (terms_at terms at).flow from message))
look terms over = Ends []

abbrev pub killed_message : List ℕ
killed_message = codes "killed"

abbrev pub killed : Flow → ℕ → Flow
killed flow moment = record flow { error = Some (record { msg = killed_message; moment = moment }) }

-- the place behind an answer, with what is kept of the message
abbrev pub answered : Peer → Message → At → Sight → Verdict → ℕ → At
answered from message at seen said moment = record at {
  messages = at.messages + 1;
  records = at.records ++ kept_of (is_client from) message (moment_at at seen) said;
  since = Some moment;
}

abbrev pub turn_by : Terms → Peer → Message → At → Sight → Verdict → ℕ → Turn Stage Command
turn_by terms from message at seen (sends payload) moment =
    let frames = message_frames message payload in
    record {
      owed = send_to terms (other from) at.sent frames;
      stage = relaying (record (answered from message at seen (sends payload) moment) { sent = sent_behind (other from) at.sent frames });
    }
turn_by terms from message at seen drops moment = record { owed = []; stage = relaying (answered from message at seen drops moment) }
turn_by terms from message at seen kills moment = record { owed = ends terms seen (killed (terms_at terms at).flow moment); stage = over }

abbrev pub turn : Terms → Stage → Sight → Reply → ℕ → Turn Stage Command
turn terms (holding from message at) seen reply moment = turn_by terms from message at seen (verdict message reply) moment
turn terms stage seen reply moment = record { owed = []; stage = stage }

-- ---- the chain over prefixes, by what is seen of them

abbrev pub relay_chain : Terms → (List (Timed Event) → Sight) → Chain Stage Event Reply Command
relay_chain terms seen = record {
  pass = λ stage prefix. pass terms stage (seen prefix);
  look = λ stage prefix. look terms stage;
  so_far = λ stage prefix. [];
  behind = λ stage prefix. [];
  turn = λ stage prefix answer. turn terms stage (seen prefix) answer.value answer.moment;
}

-- where a WebSocket begins
abbrev pub first_half : Half
first_half = record { used = 0; judged = false; begun = None }

abbrev pub first_at : At
first_at = record { client = first_half; server = first_half; messages = 0; records = []; sent = 0; since = None }

-- and where it begins behind something else, at this moment
abbrev pub begins_at : ℕ → At
begins_at moment = record first_at { since = Some moment }

-- the chain of a WebSocket by itself, which was handed what was left of both sides
abbrev pub own_chain : Terms → Rests → Chain Stage Event Reply Command
own_chain terms rests = relay_chain terms (seen_over terms.server rests)
