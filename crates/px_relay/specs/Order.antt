-- What a relay keeps: control frames overtake a message that is not whole, and keep their order; a message that no reply changed keeps its
-- fragments.
use Rattle.std.specs.Prelude.{◌≡◌, ℕ, ◌+◌, ◌<◌, Bool, true, false, ◌==◌, if◌then◌else◌, List, [], ◌∷◌, ◌++◌, Option, Some, None, ⊤}
use Rattle.px_message.specs.declared.flow.Flow.{Flow}
use Rattle.px_message.specs.declared.flow.WsMessage.{WsMessage}
use Rattle.px_message.specs.declared.messages.WsRecord.{WsRecord}
use Rattle.px_event.specs.declared.command.Command.{Command}
use Rattle.px_event.specs.declared.reply.Reply.TheVariants as replies
use Rattle.px_event.specs.Chain.{Turn}
use Rattle.px_frame.specs.declared.frame.Frame.{Frame}
use Rattle.px_frame.specs.Frames.{Ending, IsFrames}
use Rattle.px_frame.specs.Head.{is_control}
use Rattle.px_relay.specs.declared.peer.Peer.{Peer}
use Rattle.px_relay.specs.Chain.{drain, most_whole, turn, unread}
use Rattle.px_relay.specs.Messages.{Message, gathered, is_bad_text, opcode_of}
use Rattle.px_relay.specs.Peers.{is_client, other}
use Rattle.px_relay.specs.Sending.{Terms, counted, send_to, sent_behind}
use Rattle.px_relay.specs.Sights.{Sight}
use Rattle.px_relay.specs.Stages.{At, Stage, half_of, holding, standing}
use Rattle.px_relay.specs.Stands.{onward_with}

-- ---- the frames of a side

-- a Close frame, or the last of a message
abbrev pub stops_at : Frame → Bool
stops_at frame = if is_control frame.opcode then frame.opcode == 8 else frame.fin

-- pings, pongs, and frames of data that complete no message
abbrev pub NoneStops : List Frame → Type 0
NoneStops [] = ⊤
NoneStops (frame ∷ frames) = (stops_at frame ≡ false) × NoneStops frames

-- the control frames among these, in their order
abbrev pub controls_in : List Frame → List Frame
controls_in [] = []
controls_in (frame ∷ frames) = if is_control frame.opcode then frame ∷ controls_in frames else controls_in frames

-- the frames of data among these, in their order
abbrev pub data_in : List Frame → List Frame
data_in [] = []
data_in (frame ∷ frames) = if is_control frame.opcode then data_in frames else frame ∷ data_in frames

-- the message that has begun, with frames of data more
abbrev pub gathered_all : Option Message → List Frame → Option Message
gathered_all begun [] = begun
gathered_all begun (frame ∷ frames) = gathered_all (Some (gathered begun frame)) frames

-- each of these is sent by itself
abbrev pub sent_each : Terms → Peer → ℕ → List Frame → List Command
sent_each terms to sent [] = []
sent_each terms to sent (frame ∷ frames) = send_to terms to sent (frame ∷ []) ++ sent_each terms to (counted to sent) frames

-- these frames stand at a place of a side, which has completed so many messages with the other one
abbrev pub StandThere : Peer → Sight → At → ℕ → List Frame → Ending → Type 0
StandThere from seen at messages frames end = IsFrames (is_client from) (standing (half_of from at) messages) (unread from seen at) frames end

-- ---- control frames

-- Of frames that complete nothing the control frames are sent, each as it comes and in their order, and nothing else is; it goes on behind
-- them, with what has come of the message.
pub record PassesThem (terms : Terms) (seen : Sight) (from : Peer) (onward : At → Turn Stage Command) (at : At) (frames later : List Frame) (end : Ending) : Type 0 where
  pub next : At
  pub is : drain terms seen from onward at ≡ onward_with (sent_each terms (other from) at.sent (controls_in frames)) (drain terms seen from onward next)
  pub waits : StandThere from seen next next.messages later end
  pub begun : (half_of from next).begun ≡ gathered_all (half_of from at).begun (data_in frames)
  pub beside : half_of (other from) next ≡ half_of (other from) at
  pub messages : next.messages ≡ at.messages
  pub sent : next.sent ≡ sent_behind (other from) at.sent (controls_in frames)

abbrev pub ControlFramesOvertake : Type 0
ControlFramesOvertake = (terms : Terms) (seen : Sight) (from : Peer) (onward : At → Turn Stage Command) (at : At) (frames later : List Frame) (end : Ending)
    → StandThere from seen at at.messages (frames ++ later) end → NoneStops frames
    → PassesThem terms seen from onward at frames later end

-- Across a message too: those in front of its last frame are sent before it is asked about, and those behind that once it is answered, whatever
-- was sent for it, whatever is kept of it, and whenever it was answered.
pub record KeepsOrder (terms : Terms) (seen : Sight) (from : Peer) (onward : At → Turn Stage Command) (at : At) (frames : List Frame) (last : Frame) (behind later : List Frame) (end : Ending) : Type 0 where
  pub stopped : At
  pub asks : drain terms seen from onward at ≡ record {
    owed = sent_each terms (other from) at.sent (controls_in frames);
    stage = holding from (gathered (gathered_all (half_of from at).begun (data_in frames)) last) stopped;
  }
  pub answered : (records : List WsRecord) (sent : ℕ) (since : Option ℕ) →
      PassesThem terms seen from onward (record stopped { messages = stopped.messages + 1; records = records; sent = sent; since = since }) behind later end

abbrev pub ControlFramesKeepTheirOrder : Type 0
ControlFramesKeepTheirOrder = (terms : Terms) (seen : Sight) (from : Peer) (onward : At → Turn Stage Command) (at : At) (frames : List Frame) (last : Frame)
    (behind later : List Frame) (end : Ending)
    → StandThere from seen at at.messages (frames ++ last ∷ (behind ++ later)) end → NoneStops frames → NoneStops behind
    → is_control last.opcode ≡ false → last.fin ≡ true
    → (let message = gathered (gathered_all (half_of from at).begun (data_in frames)) last in is_bad_text message.text message.payload ≡ false)
    → at.messages < most_whole
    → KeepsOrder terms seen from onward at frames last behind later end

-- ---- the frames of a message

-- The frames of one message: the first has this opcode and the others continue it, and the last alone has FIN.
abbrev pub none_left : List Frame → Bool
none_left [] = true
none_left (frame ∷ frames) = false

abbrev pub AreFragments : ℕ → List Frame → Type 0
AreFragments opcode [] = ⊤
AreFragments opcode (frame ∷ frames) = (frame.opcode ≡ opcode) × (frame.fin ≡ none_left frames) × AreFragments 0 frames

-- a reply whose message has the payload that was read sends it in the frames that it came in
abbrev pub UnchangedKeepsFragments : Type 0
UnchangedKeepsFragments = (terms : Terms) (seen : Sight) (from : Peer) (at : At) (text : Bool) (frames : List Frame) (message : Message)
    (flow : Flow) (changed : WsMessage) (stream : Option ℕ) (moment : ℕ)
    → AreFragments (opcode_of text) frames → gathered_all None frames ≡ Some message → flow.message ≡ Some changed → changed.payload ≡ message.payload
    → (turn terms (holding from message at) seen (replies.Go flow stream) moment).owed ≡ send_to terms (other from) at.sent frames
