-- What the frames of a WebSocket owe: texts to its own two sides, the closes of these, and at its end its flow; nothing else is asked or finished.
use Rattle.std.specs.Prelude.{◌≡◌, ℕ, zero, suc, ◌==◌, ◌||◌, Bool, true, false, if◌then◌else◌, nat_lt, List, [], ◌∷◌, ◌++◌, length, Some, None, ⊤}
use Rattle.std.proofs.Common.{refl}
use Rattle.px_message.specs.declared.flow.Flow.{Flow}
use Rattle.px_message.specs.declared.messages.WsRecord.{WsRecord}
use Rattle.px_event.specs.declared.command.Command.{Command}
use Rattle.px_event.specs.declared.command.Command.TheVariants as commands
use Rattle.px_event.specs.declared.reply.Reply.{Reply}
use Rattle.px_event.specs.declared.side.Side.{Side}
use Rattle.px_event.specs.declared.side.Side.TheVariants as sides
use Rattle.px_event.specs.Chain.{Turn}
use Rattle.px_frame.specs.declared.fault.FrameFault.TheVariants.{TooBig}
use Rattle.px_frame.specs.declared.frame.Frame.{Frame}
use Rattle.px_frame.specs.Frames.{Front, nothing, refused, stands}
use Rattle.px_frame.specs.Head.{is_control}
use Rattle.px_relay.specs.declared.failure.Failure.{Failure}
use Rattle.px_relay.specs.declared.failure.Failure.TheVariants.{BadFrame, NotText}
use Rattle.px_relay.specs.declared.peer.Peer.{Peer}
use Rattle.px_relay.specs.declared.peer.Peer.TheVariants.{Client, Server}
use Rattle.px_relay.specs.Chain.{Course, at_rest, behind_course, closes_with, control_course, data_course, drain_both, drain_server, drain_within, ends, fails, frame_course, front_course, goes_on, killed, looked, message_course, most_whole, pass, past, shut_client, shut_server, stops, terms_at, turn, turn_by, unread}
use Rattle.px_relay.specs.Failures.{failure_payload}
use Rattle.px_relay.specs.Messages.{Message, Verdict, drops, gathered, is_bad_text, kills, sends, verdict}
use Rattle.px_relay.specs.Peers.{other, side_of}
use Rattle.px_relay.specs.Sending.{Terms, close_both, counted, send_to, with_records}
use Rattle.px_relay.specs.Sights.{Sight}
use Rattle.px_relay.specs.Stages.{At, Stage, half_of, holding, next_in, over, relaying, rested, with_half}

-- it has ended
abbrev pub IsOver : Stage → Type 0
IsOver over = ⊤
IsOver stage = ⊥

-- one of its two sides
abbrev pub IsItsSide : ℕ → Side → Type 0
IsItsSide server sides.Client = ⊤
IsItsSide server (sides.Server number) = number ≡ server

-- What leads to a stage may owe this: its flow is finished where it ends alone.
abbrev pub IsSaid : Terms → Stage → Command → Type 0
IsSaid terms to (commands.Send side text) = IsItsSide terms.server side
IsSaid terms to (commands.Close side) = IsItsSide terms.server side
IsSaid terms to (commands.Done flow) = (flow.id ≡ terms.flow.id) × IsOver to
IsSaid terms to _ = ⊥

abbrev pub AreSaid : Terms → Stage → List Command → Type 0
AreSaid terms to [] = ⊤
AreSaid terms to (command ∷ owed) = IsSaid terms to command × AreSaid terms to owed

abbrev pub Says : Terms → Turn Stage Command → Type 0
Says terms turn = AreSaid terms turn.stage turn.owed

said_both : (terms : Terms) (to : Stage) (xs ys : List Command) → AreSaid terms to xs → AreSaid terms to ys → AreSaid terms to (xs ++ ys)
said_both terms to [] ys all more = more
said_both terms to (x ∷ xs) ys (here, all) more = (here, said_both terms to xs ys all more)

says_if : (b : Bool) (terms : Terms) (one two : Turn Stage Command) → Says terms one → Says terms two → Says terms (if b then one else two)
says_if true terms one two p q = p
says_if false terms one two p q = q

-- ---- texts, and the end

its_side : (server : ℕ) (peer : Peer) → IsItsSide server (side_of server peer)
its_side server Client = tt
its_side server Server = refl

module _ (terms : Terms) where
  sends_said : (to : Stage) (peer : Peer) (sent : ℕ) (frames : List Frame) → AreSaid terms to (send_to terms peer sent frames)
  sends_said to peer sent frames = (its_side terms.server peer, tt)

  closes_said : (to : Stage) (shut closed : Bool) → AreSaid terms to (shut_server terms.server shut ++ shut_client closed)
  closes_said to true true = tt
  closes_said to true false = (tt, tt)
  closes_said to false true = (refl, tt)
  closes_said to false false = (refl, (tt, tt))

  ends_said : (seen : Sight) (flow : Flow) → flow.id ≡ terms.flow.id → AreSaid terms over (ends terms seen flow)
  ends_said seen flow is = ((is, tt), closes_said over seen.shut seen.closed)

  both_said : (to : Stage) (from : Peer) (sent : ℕ) (payload : List ℕ) → AreSaid terms to (close_both terms from sent payload)
  both_said to from sent payload = (its_side terms.server (other from), (its_side terms.server from, tt))

  module _ (seen : Sight) where
    closes_are : (from : Peer) (sent : ℕ) (payload : List ℕ) → Says terms (closes_with terms seen from sent payload)
    closes_are from sent payload =
        said_both terms over (close_both terms from sent payload) (ends terms seen terms.flow) (both_said over from sent payload) (ends_said seen terms.flow refl)

    fails_are : (from : Peer) (sent : ℕ) (failure : Failure) → Says terms (fails terms seen from sent failure)
    fails_are from sent failure = closes_are from sent (failure_payload failure)

    -- ---- one frame

    -- what it owes where it goes on may stand before whatever follows
    abbrev CourseSays : Course → Type 0
    CourseSays (goes_on owed at) = (to : Stage) → AreSaid terms to owed
    CourseSays (stops turn) = Says terms turn

    course_if : (b : Bool) (one two : Course) → CourseSays one → CourseSays two → CourseSays (if b then one else two)
    course_if true one two p q = p
    course_if false one two p q = q

    message_says : (from : Peer) (at : At) (message : Message) → CourseSays (message_course terms seen from at message)
    message_says from at message =
        course_if (is_bad_text message.text message.payload) (stops (fails terms seen from at.sent NotText)) _ (fails_are from at.sent NotText)
        (course_if (nat_lt at.messages most_whole) (stops (record { owed = []; stage = holding from message at })) (stops (fails terms seen from at.sent (BadFrame TooBig)))
        tt (fails_are from at.sent (BadFrame TooBig)))

    data_says : (from : Peer) (at : At) (frame : Frame) → CourseSays (data_course terms seen from at frame)
    data_says from at frame =
        let half = half_of from at in
        let message = gathered half.begun frame in
        course_if frame.fin (message_course terms seen from (with_half from (record half { begun = None }) at) message)
        (goes_on [] (with_half from (record half { begun = Some message }) at))
        (message_says from (with_half from (record half { begun = None }) at) message) (λ to. tt)

    control_says : (from : Peer) (at : At) (frame : Frame) → CourseSays (control_course terms seen from at frame)
    control_says from at frame =
        course_if (frame.opcode == 8) (stops (closes_with terms seen from at.sent frame.payload))
        (goes_on (send_to terms (other from) at.sent (frame ∷ [])) (record at { sent = counted (other from) at.sent }))
        (closes_are from at.sent frame.payload) (λ to. sends_said to (other from) at.sent (frame ∷ []))

    frame_says : (from : Peer) (at : At) (frame : Frame) → CourseSays (frame_course terms seen from at frame)
    frame_says from at frame =
        course_if (is_control frame.opcode) (control_course terms seen from at frame) (data_course terms seen from at frame)
        (control_says from at frame) (data_says from at frame)

    -- ---- all frames of a side

    behind_says : (further : At → Turn Stage Command) (course : Course) → ((at : At) → Says terms (further at)) → CourseSays course → Says terms (behind_course further course)
    behind_says further (goes_on owed at) all says =
        let next : Turn Stage Command = further at in said_both terms next.stage owed next.owed (says next.stage) (all at)
    behind_says further (stops turn) all says = says

    front_says : (peer : Peer) (further onward : At → Turn Stage Command) (at : At) (front : Front) → ((at : At) → Says terms (further at)) → ((at : At) → Says terms (onward at)) →
        Says terms (front_course terms seen peer further onward at front)
    front_says peer further onward at nothing all behind = behind (looked peer seen at)
    front_says peer further onward at (refused fault) all behind = fails_are peer at.sent (BadFrame fault)
    front_says peer further onward at (stands frame rest) all behind =
        behind_says further (frame_course terms seen peer (past peer seen rest at) frame) all (frame_says peer (past peer seen rest at) frame)

    drain_says : (peer : Peer) (onward : At → Turn Stage Command) → ((at : At) → Says terms (onward at)) → (most : ℕ) (at : At) → Says terms (drain_within terms seen peer most onward at)
    drain_says peer onward behind zero at = behind at
    drain_says peer onward behind (suc most) at =
        front_says peer (drain_within terms seen peer most onward) onward at (next_in peer at seen) (λ next. drain_says peer onward behind most next) behind

    rest_says : (at : At) → Says terms (at_rest terms seen at)
    rest_says at = says_if (seen.closed || seen.shut) terms (record { owed = ends terms seen terms.flow; stage = over }) (record { owed = []; stage = relaying (rested at) })
        (ends_said seen terms.flow refl) tt

    server_says : (at : At) → Says terms (drain_server terms seen at)
    server_says at = drain_says Server (at_rest terms seen) rest_says (suc (length (unread Server seen at))) at

    both_say : (at : At) → Says terms (drain_both terms seen at)
    both_say at = drain_says Client (drain_server terms seen) server_says (suc (length (unread Client seen at))) at

    -- ---- the chain

    turn_says_by : (from : Peer) (message : Message) (at : At) (said : Verdict) (moment : ℕ) → Says terms (turn_by terms from message at seen said moment)
    turn_says_by from message at (sends payload) moment = (its_side terms.server (other from), tt)
    turn_says_by from message at drops moment = tt
    turn_says_by from message at kills moment = ends_said seen (killed (terms_at terms at).flow moment) refl

    pub turn_says : (stage : Stage) (answer : Reply) (moment : ℕ) → Says terms (turn terms stage seen answer moment)
    turn_says (relaying at) answer moment = tt
    turn_says (holding from message at) answer moment = turn_says_by from message at (verdict message answer) moment
    turn_says over answer moment = tt

-- whatever messages the flow has
said_there : (terms : Terms) (records : List WsRecord) (to : Stage) (owed : List Command) → AreSaid (with_records terms records) to owed → AreSaid terms to owed
said_there terms records to [] said = tt
said_there terms records to (commands.Send sides.Client text ∷ owed) (here, said) = (here, said_there terms records to owed said)
said_there terms records to (commands.Send (sides.Server number) text ∷ owed) (here, said) = (here, said_there terms records to owed said)
said_there terms records to (commands.Close sides.Client ∷ owed) (here, said) = (here, said_there terms records to owed said)
said_there terms records to (commands.Close (sides.Server number) ∷ owed) (here, said) = (here, said_there terms records to owed said)
said_there terms records to (commands.Dial server address inside ∷ owed) (here, said) = absurd here
said_there terms records to (commands.Ask ask flow ∷ owed) (here, said) = absurd here
said_there terms records to (commands.Done flow ∷ owed) (here, said) = (here, said_there terms records to owed said)

pub pass_says : (terms : Terms) (seen : Sight) (stage : Stage) → Says terms (pass terms stage seen)
pass_says terms seen (relaying at) =
    let turn : Turn Stage Command = pass terms (relaying at) seen in said_there terms at.records turn.stage turn.owed (both_say (terms_at terms at) seen at)
pass_says terms seen (holding from message at) = tt
pass_says terms seen over = tt
