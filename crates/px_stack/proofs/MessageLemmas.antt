-- How many messages of a WebSocket were asked about: working off frames asks about one more at most, and only where px_relay relays one more.
use Rattle.std.proofs.Common.{◌≡◌, ℕ, zero, suc, ◌+◌, ◌<◌, ◌≤◌, Bool, true, false, [], length, refl, ap, ◌∙◌, arith}
use Rattle.std.specs.Prelude.{◌-◌, ◌==◌, nat_lt, if◌then◌else◌, ◌||◌, ◌∷◌, None, Some, ⊤}
use Rattle.std.proofs.lemmas.Bool.Decides.{nat_tests}
use Rattle.px_event.specs.declared.command.Command.{Command}
use Rattle.px_event.specs.declared.reply.Reply.{Reply}
use Rattle.px_event.specs.Chain.{Turn}
use Rattle.px_frame.specs.declared.fault.FrameFault.TheVariants.{TooBig}
use Rattle.px_frame.specs.declared.frame.Frame.{Frame}
use Rattle.px_frame.specs.Frames.{Front, nothing, refused, stands}
use Rattle.px_frame.specs.Head.{is_control}
use Rattle.px_relay.specs.declared.failure.Failure.TheVariants.{BadFrame, NotText}
use Rattle.px_relay.specs.declared.layer.WsLayer.{WsLayer}
use Rattle.px_relay.specs.declared.peer.Peer.{Peer}
use Rattle.px_relay.specs.declared.peer.Peer.TheVariants.{Client, Server}
use Rattle.px_relay.specs.Chain.{Course, at_rest, behind_course, closes_with, control_course, data_course, drain_both, drain_server, drain_within, ends, fails, frame_course, front_course, goes_on, looked, message_course, most_whole, pass, past, stops, terms_at, turn, turn_by, unread}
use Rattle.px_relay.specs.Kept.{left_in}
use Rattle.px_relay.specs.Laws.{half_messages, past_keeps}
use Rattle.px_relay.specs.Messages.{Message, Verdict, drops, gathered, is_bad_text, kills, sends, verdict}
use Rattle.px_relay.specs.Peers.{other}
use Rattle.px_relay.specs.Sending.{Terms, counted, send_to}
use Rattle.px_relay.specs.Sights.{Sight}
use Rattle.px_relay.specs.Stages.{At, Stage, half_of, holding, next_in, over, relaying, rested, with_half}
use Rattle.px_relay.specs.Stands.{IsIn}
use Rattle.px_stack.specs.Kept.{most_asked, socket_left}

-- where so many were asked about before
pub record AsksOneMore (asked : ℕ) (at : At) : Type 0 where
  pub same : at.messages ≡ asked
  pub fewer : asked < most_whole

abbrev pub IsAsked : ℕ → Stage → Type 0
IsAsked asked (relaying at) = at.messages ≡ asked
IsAsked asked (holding from message at) = AsksOneMore asked at
IsAsked asked over = ⊤

asked_if : (b : Bool) (asked : ℕ) (one two : Turn Stage Command) → IsAsked asked one.stage → IsAsked asked two.stage → IsAsked asked (if b then one else two).stage
asked_if true asked one two p q = p
asked_if false asked one two p q = q

module _ (terms : Terms) (seen : Sight) (asked : ℕ) where
  -- ---- one frame

  abbrev CourseAsked : Course → Type 0
  CourseAsked (goes_on owed at) = at.messages ≡ asked
  CourseAsked (stops turn) = IsAsked asked turn.stage

  course_if : (b : Bool) (one two : Course) → CourseAsked one → CourseAsked two → CourseAsked (if b then one else two)
  course_if true one two p q = p
  course_if false one two p q = q

  below : (b : Bool) (from : Peer) (at : At) (message : Message) → nat_lt at.messages most_whole ≡ b → at.messages ≡ asked →
      CourseAsked (if b then stops (record { owed = []; stage = holding from message at }) else stops (fails terms seen from at.sent (BadFrame TooBig)))
  below true from at message is same = record { same = same; fewer = grind (arith, nat_tests) }
  below false from at message is same = tt

  message_asked : (from : Peer) (at : At) (message : Message) → at.messages ≡ asked → CourseAsked (message_course terms seen from at message)
  message_asked from at message same =
      course_if (is_bad_text message.text message.payload) (stops (fails terms seen from at.sent NotText)) _ tt (below (nat_lt at.messages most_whole) from at message refl same)

  data_asked : (from : Peer) (at : At) (frame : Frame) → at.messages ≡ asked → CourseAsked (data_course terms seen from at frame)
  data_asked from at frame same =
      let half = half_of from at in
      let message = gathered half.begun frame in
      course_if frame.fin (message_course terms seen from (with_half from (record half { begun = None }) at) message)
      (goes_on [] (with_half from (record half { begun = Some message }) at))
      (message_asked from (with_half from (record half { begun = None }) at) message (half_messages from _ at ∙ same)) (half_messages from _ at ∙ same)

  control_asked : (from : Peer) (at : At) (frame : Frame) → at.messages ≡ asked → CourseAsked (control_course terms seen from at frame)
  control_asked from at frame same =
      course_if (frame.opcode == 8) (stops (closes_with terms seen from at.sent frame.payload))
      (goes_on (send_to terms (other from) at.sent (frame ∷ [])) (record at { sent = counted (other from) at.sent })) tt same

  frame_asked : (from : Peer) (at : At) (frame : Frame) → at.messages ≡ asked → CourseAsked (frame_course terms seen from at frame)
  frame_asked from at frame same =
      course_if (is_control frame.opcode) (control_course terms seen from at frame) (data_course terms seen from at frame)
      (control_asked from at frame same) (data_asked from at frame same)

  -- ---- all frames of a side

  abbrev AllAsked : (At → Turn Stage Command) → Type 0
  AllAsked onward = (at : At) → at.messages ≡ asked → IsAsked asked (onward at).stage

  behind_asked : (further : At → Turn Stage Command) (course : Course) → AllAsked further → CourseAsked course → IsAsked asked (behind_course further course).stage
  behind_asked further (goes_on owed at) all same = all at same
  behind_asked further (stops turn) all is = is

  front_asked : (peer : Peer) (further onward : At → Turn Stage Command) (at : At) (front : Front) → AllAsked further → AllAsked onward → at.messages ≡ asked →
      IsAsked asked (front_course terms seen peer further onward at front).stage
  front_asked peer further onward at nothing all behind same = behind (looked peer seen at) (half_messages peer _ at ∙ same)
  front_asked peer further onward at (refused fault) all behind same = tt
  front_asked peer further onward at (stands frame rest) all behind same =
      behind_asked further (frame_course terms seen peer (past peer seen rest at) frame) all
      (frame_asked peer (past peer seen rest at) frame ((past_keeps peer seen rest at).1 ∙ same))

  drain_asked : (peer : Peer) (onward : At → Turn Stage Command) → AllAsked onward → (most : ℕ) → AllAsked (drain_within terms seen peer most onward)
  drain_asked peer onward behind zero at same = behind at same
  drain_asked peer onward behind (suc most) at same =
      front_asked peer (drain_within terms seen peer most onward) onward at (next_in peer at seen) (drain_asked peer onward behind most) behind same

  rest_asked : AllAsked (at_rest terms seen)
  rest_asked at same = asked_if (seen.closed || seen.shut) asked (record { owed = ends terms seen terms.flow; stage = over }) (record { owed = []; stage = relaying (rested at) }) tt same

  server_asked : AllAsked (drain_server terms seen)
  server_asked at same = drain_asked Server (at_rest terms seen) rest_asked (suc (length (unread Server seen at))) at same

  both_asked : AllAsked (drain_both terms seen)
  both_asked at same = drain_asked Client (drain_server terms seen) server_asked (suc (length (unread Client seen at))) at same

pub pass_asked : (terms : Terms) (seen : Sight) (asked : ℕ) (at : At) → at.messages ≡ asked → IsAsked asked (pass terms (relaying at) seen).stage
pass_asked terms seen asked at same = both_asked (terms_at terms at) seen asked at same

-- ---- how many answers are left

abbrev stage_left : Stage → ℕ
stage_left (relaying at) = most_asked - at.messages
stage_left (holding from message at) = (most_asked - (at.messages + 1)) + 1
stage_left over = 0

left_at : (terms : Terms) (layer : WsLayer) (stage : Stage) (seen : Sight) → IsIn terms layer stage seen → socket_left layer ≡ stage_left stage
left_at terms layer (relaying at) seen is =
    ap (λ p. left_in p (most_asked - layer.messages)) is.ready.between.phase ∙ ap (λ n. most_asked - n) is.ready.between.messages
left_at terms layer (holding from message at) seen is =
    ap (λ p. left_in p (most_asked - layer.messages)) is.phase ∙ ap (λ n. (most_asked - n) + 1) is.messages
left_at terms layer over seen is = ap (λ p. left_in p (most_asked - layer.messages)) is

few_left : (asked : ℕ) (stage : Stage) → IsAsked asked stage → stage_left stage ≤ most_asked - asked
few_left asked (relaying at) is = omega arith
few_left asked (holding from message at) is = let same = is.same in let fewer = is.fewer in omega arith
few_left asked over is = omega arith

-- behind an event, where nothing was asked
pub heard_left : (terms : Terms) (layer : WsLayer) (at : At) (seen : Sight) → IsIn terms layer (pass terms (relaying at) seen).stage seen →
    socket_left layer ≤ most_asked - at.messages
heard_left terms layer at seen is =
    let left = left_at terms layer (pass terms (relaying at) seen).stage seen is in
    let few = few_left at.messages (pass terms (relaying at) seen).stage (pass_asked terms seen at.messages at refl) in
    omega arith

pub relaying_left : (terms : Terms) (layer : WsLayer) (at : At) (seen : Sight) → IsIn terms layer (relaying at) seen → socket_left layer ≡ most_asked - at.messages
relaying_left terms layer at seen is = left_at terms layer (relaying at) seen is

-- behind an answer
module _ (terms : Terms) (from : Peer) (message : Message) (at : At) (seen : Sight) (moment : ℕ) (before after : WsLayer) (held : IsIn terms before (holding from message at) seen) where
  onward_left : (more : ℕ) (next : At) → next.messages ≡ at.messages + 1 → IsIn terms after (pass terms (relaying next) seen).stage seen → socket_left after < socket_left before
  onward_left more next same is =
      let left = heard_left terms after next seen is in
      let had = left_at terms before (holding from message at) seen held in
      omega arith

  by_verdict : (said : Verdict) → IsIn terms after (pass terms (turn_by terms from message at seen said moment).stage seen).stage seen → socket_left after < socket_left before
  by_verdict (sends payload) is = onward_left 0 _ refl is
  by_verdict drops is = onward_left 0 _ refl is
  by_verdict kills is =
      let left = left_at terms after over seen is in
      let had = left_at terms before (holding from message at) seen held in
      omega arith

  pub answered_left : (reply : Reply) → IsIn terms after (pass terms (turn terms (holding from message at) seen reply moment).stage seen).stage seen →
      socket_left after < socket_left before
  answered_left reply is = by_verdict (verdict message reply) is
