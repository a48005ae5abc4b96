-- What passing leaves of the records: they stay, and a flow that is finished has them.
use Rattle.std.proofs.Common.{◌≡◌, ◌∙◌, ℕ, zero, suc, ◌==◌, ◌||◌, nat_lt, if◌then◌else◌, Bool, true, false, List, [], ◌∷◌, ◌++◌, length, Some, None, refl}
use Rattle.std.specs.Prelude.{⊤}
use Rattle.px_message.specs.declared.flow.Flow.{Flow}
use Rattle.px_message.specs.declared.messages.WsRecord.{WsRecord}
use Rattle.px_event.specs.declared.command.Command.{Command}
use Rattle.px_event.specs.declared.command.Command.TheVariants as commands
use Rattle.px_event.specs.Chain.{Turn}
use Rattle.px_frame.specs.declared.fault.FrameFault.TheVariants.{TooBig}
use Rattle.px_frame.specs.declared.frame.Frame.{Frame}
use Rattle.px_frame.specs.Frames.{Front, nothing, refused, stands}
use Rattle.px_frame.specs.Head.{is_control}
use Rattle.px_relay.specs.declared.failure.Failure.{Failure}
use Rattle.px_relay.specs.declared.failure.Failure.TheVariants.{BadFrame, NotText}
use Rattle.px_relay.specs.declared.peer.Peer.{Peer}
use Rattle.px_relay.specs.declared.peer.Peer.TheVariants.{Client, Server}
use Rattle.px_relay.specs.Chain.{Course, at_rest, behind_course, closes_with, control_course, data_course, drain_both, drain_server, drain_within, ends, fails, frame_course, front_course, goes_on, looked, message_course, most_whole, past, shut_client, shut_server, stops, unread}
use Rattle.px_relay.specs.Failures.{failure_payload}
use Rattle.px_relay.specs.Laws.{half_records, half_since}
use Rattle.px_relay.specs.Messages.{Message, gathered, is_bad_text}
use Rattle.px_relay.specs.Peers.{other}
use Rattle.px_relay.specs.Sending.{Terms, close_both, counted, send_to}
use Rattle.px_relay.specs.Sights.{Sight}
use Rattle.px_relay.specs.Stages.{At, Half, Stage, half_of, holding, next_in, over, relaying, rested, with_half}

-- what leads to a stage finishes a flow with these messages where it ends, and else none
abbrev pub MayFinish : Stage → List WsRecord → Flow → Type 0
MayFinish over records flow = flow.messages ≡ records
MayFinish stage records flow = ⊥

abbrev pub IsOwed : Stage → List WsRecord → Command → Type 0
IsOwed to records (commands.Done flow) = MayFinish to records flow
IsOwed to records command = ⊤

abbrev pub AreOwed : Stage → List WsRecord → List Command → Type 0
AreOwed to records [] = ⊤
AreOwed to records (command ∷ owed) = IsOwed to records command × AreOwed to records owed

pub owed_both : (to : Stage) (records : List WsRecord) (xs ys : List Command) → AreOwed to records xs → AreOwed to records ys → AreOwed to records (xs ++ ys)
owed_both to records [] ys all more = more
owed_both to records (x ∷ xs) ys (here, all) more = (here, owed_both to records xs ys all more)

shut_owed : (to : Stage) (records : List WsRecord) (server : ℕ) (shut closed : Bool) → AreOwed to records (shut_server server shut ++ shut_client closed)
shut_owed to records server true true = tt
shut_owed to records server true false = (tt, tt)
shut_owed to records server false true = (tt, tt)
shut_owed to records server false false = (tt, (tt, tt))

pub ends_owed : (terms : Terms) (seen : Sight) (records : List WsRecord) (flow : Flow) → flow.messages ≡ records → AreOwed over records (ends terms seen flow)
ends_owed terms seen records flow is = (is, shut_owed over records terms.server seen.shut seen.closed)

-- a place has the same records, and stands since the same
abbrev pub SamePlace : At → At → Type 0
SamePlace at next = (next.records ≡ at.records) × (next.since ≡ at.since)

-- where it rests nothing is since when
abbrev pub StageKeeps : At → Stage → Type 0
StageKeeps at (relaying next) = (next.records ≡ at.records) × (next.since ≡ None)
StageKeeps at (holding from message next) = SamePlace at next
StageKeeps at over = ⊤

pub record Keeps (at : At) (records : List WsRecord) (turn : Turn Stage Command) : Type 0 where
  pub stage : StageKeeps at turn.stage
  pub owed : AreOwed turn.stage records turn.owed

keeps_if : (b : Bool) (at : At) (records : List WsRecord) (one two : Turn Stage Command) → Keeps at records one → Keeps at records two → Keeps at records (if b then one else two)
keeps_if true at records one two p q = p
keeps_if false at records one two p q = q

-- from another place that is the same
stage_from : (one two : At) (stage : Stage) → SamePlace one two → StageKeeps two stage → StageKeeps one stage
stage_from one two (relaying next) (records, since) (kept, none) = (kept ∙ records, none)
stage_from one two (holding from message next) (records, since) (kept, same) = (kept ∙ records, same ∙ since)
stage_from one two over same keeps = tt

half_same : (peer : Peer) (half : Half) (at : At) → SamePlace at (with_half peer half at)
half_same peer half at = (half_records peer half at, half_since peer half at)

module _ (terms : Terms) (seen : Sight) (records : List WsRecord) (has : terms.flow.messages ≡ records) where
  closes_keep : (at : At) (from : Peer) (sent : ℕ) (payload : List ℕ) → Keeps at records (closes_with terms seen from sent payload)
  closes_keep at from sent payload =
      record { stage = tt; owed = owed_both over records (close_both terms from sent payload) (ends terms seen terms.flow) (tt, (tt, tt)) (ends_owed terms seen records terms.flow has) }

  fails_keep : (at : At) (from : Peer) (sent : ℕ) (failure : Failure) → Keeps at records (fails terms seen from sent failure)
  fails_keep at from sent failure = closes_keep at from sent (failure_payload failure)

  -- ---- one frame

  -- what it owes where it goes on may stand before whatever follows
  abbrev CourseKeeps : At → Course → Type 0
  CourseKeeps at (goes_on owed next) = SamePlace at next × ((to : Stage) → AreOwed to records owed)
  CourseKeeps at (stops turn) = Keeps at records turn

  course_if : (b : Bool) (at : At) (one two : Course) → CourseKeeps at one → CourseKeeps at two → CourseKeeps at (if b then one else two)
  course_if true at one two p q = p
  course_if false at one two p q = q

  message_keeps : (from : Peer) (at next : At) (message : Message) → SamePlace at next → CourseKeeps at (message_course terms seen from next message)
  message_keeps from at next message same =
      course_if (is_bad_text message.text message.payload) at (stops (fails terms seen from next.sent NotText)) _ (fails_keep at from next.sent NotText)
      (course_if (nat_lt next.messages most_whole) at (stops (record { owed = []; stage = holding from message next })) (stops (fails terms seen from next.sent (BadFrame TooBig)))
      (record { stage = same; owed = tt }) (fails_keep at from next.sent (BadFrame TooBig)))

  data_keeps : (from : Peer) (at : At) (frame : Frame) → CourseKeeps at (data_course terms seen from at frame)
  data_keeps from at frame =
      let half = half_of from at in
      let message = gathered half.begun frame in
      course_if frame.fin at (message_course terms seen from (with_half from (record half { begun = None }) at) message)
      (goes_on [] (with_half from (record half { begun = Some message }) at))
      (message_keeps from at (with_half from (record half { begun = None }) at) message (half_same from _ at)) (half_same from _ at, λ to. tt)

  control_keeps : (from : Peer) (at : At) (frame : Frame) → CourseKeeps at (control_course terms seen from at frame)
  control_keeps from at frame =
      course_if (frame.opcode == 8) at (stops (closes_with terms seen from at.sent frame.payload))
      (goes_on (send_to terms (other from) at.sent (frame ∷ [])) (record at { sent = counted (other from) at.sent }))
      (closes_keep at from at.sent frame.payload) ((refl, refl), λ to. (tt, tt))

  frame_keeps : (from : Peer) (at : At) (frame : Frame) → CourseKeeps at (frame_course terms seen from at frame)
  frame_keeps from at frame =
      course_if (is_control frame.opcode) at (control_course terms seen from at frame) (data_course terms seen from at frame) (control_keeps from at frame) (data_keeps from at frame)

  -- ---- all frames of a side

  abbrev AllKeep : (At → Turn Stage Command) → Type 0
  AllKeep further = (at : At) → Keeps at records (further at)

  behind_keeps : (further : At → Turn Stage Command) (at past_at : At) (course : Course) → AllKeep further → SamePlace at past_at → CourseKeeps past_at course →
      Keeps at records (behind_course further course)
  behind_keeps further at past_at (goes_on owed next) all same (on, says) =
      let turn = further next in
      let keeps = all next in
      record {
        stage = stage_from at next turn.stage (on.0 ∙ same.0, on.1 ∙ same.1) keeps.stage;
        owed = owed_both turn.stage records owed turn.owed (says turn.stage) keeps.owed;
      }
  behind_keeps further at past_at (stops turn) all same keeps = record { stage = stage_from at past_at turn.stage same keeps.stage; owed = keeps.owed }

  front_keeps : (peer : Peer) (further onward : At → Turn Stage Command) (at : At) (front : Front) → AllKeep further → AllKeep onward →
      Keeps at records (front_course terms seen peer further onward at front)
  front_keeps peer further onward at nothing all behind =
      let keeps = behind (looked peer seen at) in
      record { stage = stage_from at (looked peer seen at) (onward (looked peer seen at)).stage (half_same peer _ at) keeps.stage; owed = keeps.owed }
  front_keeps peer further onward at (refused fault) all behind = fails_keep at peer at.sent (BadFrame fault)
  front_keeps peer further onward at (stands frame rest) all behind =
      behind_keeps further at (past peer seen rest at) (frame_course terms seen peer (past peer seen rest at) frame) all (half_same peer _ at)
      (frame_keeps peer (past peer seen rest at) frame)

  drain_keeps : (peer : Peer) (onward : At → Turn Stage Command) → AllKeep onward → (most : ℕ) → AllKeep (drain_within terms seen peer most onward)
  drain_keeps peer onward behind zero at = behind at
  drain_keeps peer onward behind (suc most) at =
      front_keeps peer (drain_within terms seen peer most onward) onward at (next_in peer at seen) (drain_keeps peer onward behind most) behind

  rest_keeps : AllKeep (at_rest terms seen)
  rest_keeps at =
      keeps_if (seen.closed || seen.shut) at records (record { owed = ends terms seen terms.flow; stage = over }) (record { owed = []; stage = relaying (rested at) })
      (record { stage = tt; owed = ends_owed terms seen records terms.flow has }) (record { stage = (refl, refl); owed = tt })

  server_keeps : AllKeep (drain_server terms seen)
  server_keeps at = drain_keeps Server (at_rest terms seen) rest_keeps (suc (length (unread Server seen at))) at

  pub both_keep : AllKeep (drain_both terms seen)
  both_keep at = drain_keeps Client (drain_server terms seen) server_keeps (suc (length (unread Client seen at))) at
