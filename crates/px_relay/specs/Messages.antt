-- Messages: their fragments as they come, and the frames that they are sent in (RFC 6455 sections 5.4 and 5.6).
use Rattle.std.specs.Prelude.{ℕ, zero, suc, ◌-◌, Bool, true, false, ◌==◌, ◌&&◌, not, nat_le, if◌then◌else◌, List, [], ◌∷◌, ◌++◌, length, take, drop, Option, Some, None}
use Rattle.std.specs.Str.{is_utf8}
use Rattle.px_message.specs.declared.flow.WsMessage.{WsMessage}
use Rattle.px_message.specs.declared.messages.WsRecord.{WsRecord}
use Rattle.px_event.specs.declared.reply.Reply.{Reply}
use Rattle.px_event.specs.declared.reply.Reply.TheVariants as replies
use Rattle.px_frame.specs.declared.frame.Frame.{Frame}

-- a message, whole or as far as it has come
pub record Message : Type 0 where
  -- text, or else binary
  pub text : Bool
  -- the lengths of its fragments
  pub lengths : List ℕ
  pub payload : List ℕ

-- ---- as it comes

-- with a frame of data more, which begins a message where none has begun
abbrev pub gathered : Option Message → Frame → Message
gathered None frame =
    record { text = frame.opcode == 1; lengths = length frame.payload ∷ []; payload = frame.payload }
gathered (Some message) frame = record message {
  lengths = message.lengths ++ (length frame.payload ∷ []);
  payload = message.payload ++ frame.payload;
}

-- the payload so far of a message that has begun
abbrev pub payload_so_far : Option Message → Option ℕ
payload_so_far None = None
payload_so_far (Some message) = Some (length message.payload)

-- a text that is no UTF-8 (section 8.1)
abbrev pub is_bad_text : Bool → List ℕ → Bool
is_bad_text text payload = text && not (is_utf8 payload)

-- ---- as it is sent

-- the most bytes of a frame of a message whose length was changed
abbrev pub most_in_frame : ℕ
most_in_frame = 4000

-- A payload of another length is cut into frames of so many bytes, the last of which has what is left; one that is empty is one
-- empty frame. (With at most so many cuts.)
abbrev pub cut_within : ℕ → ℕ → List ℕ
cut_within zero count = count ∷ []
cut_within (suc most) count =
    if nat_le count most_in_frame then count ∷ [] else (most_in_frame ∷ cut_within most (count - most_in_frame))

abbrev pub cut_lengths : ℕ → List ℕ
cut_lengths count = cut_within count count

-- the lengths of its frames: as they came, unless its length was changed
abbrev pub sent_lengths : Message → List ℕ → List ℕ
sent_lengths message payload =
    if length payload == length message.payload then message.lengths else cut_lengths (length payload)

abbrev pub is_none_left : List ℕ → Bool
is_none_left [] = true
is_none_left (count ∷ counts) = false

-- frames of these lengths: the first has the opcode of the message, the others continue it, and the last has FIN
abbrev pub fragments : ℕ → List ℕ → List ℕ → List Frame
fragments opcode [] payload = []
fragments opcode (count ∷ counts) payload =
    record { fin = is_none_left counts; opcode = opcode; payload = take count payload } ∷ fragments 0 counts (drop count payload)

abbrev pub opcode_of : Bool → ℕ
opcode_of true = 1
opcode_of false = 2

-- the frames in which a message is sent with this payload
abbrev pub message_frames : Message → List ℕ → List Frame
message_frames message payload = fragments (opcode_of message.text) (sent_lengths message payload) payload

-- ---- what a reply says of a message

pub data Verdict : Type 0 where
  -- it is sent with this payload
  sends : (payload : List ℕ) → Verdict
  -- it is not sent
  drops : Verdict
  -- its conversation ends
  kills : Verdict

-- a text that is no UTF-8 any more is sent as it was read
abbrev pub sent_payload : Message → List ℕ → List ℕ
sent_payload message payload = if is_bad_text message.text payload then message.payload else payload

-- of the reply's flow the payload of its message is taken, and nothing else; without one the message is sent as it was read
abbrev pub payload_by : Message → Option WsMessage → List ℕ
payload_by message None = message.payload
payload_by message (Some changed) = sent_payload message changed.payload

-- any other reply sends it as it was read
abbrev pub payload_of : Message → Reply → List ℕ
payload_of message (replies.Go flow stream) = payload_by message flow.message
payload_of message _ = message.payload

abbrev pub verdict : Message → Reply → Verdict
verdict message replies.Discard = drops
verdict message replies.Kill = kills
verdict message reply = sends (payload_of message reply)

-- ---- what is kept of a message that was answered

-- Of one that is sent the payload that was sent, of one that is not sent the payload as it was read; of one that is killed nothing. The
-- moment is that of the step at whose end it was asked about first.
abbrev pub kept_of : Bool → Message → ℕ → Verdict → List WsRecord
kept_of from_client message moment (sends payload) =
    record { from_client = from_client; text = message.text; payload = payload; moment = moment; dropped = false } ∷ []
kept_of from_client message moment drops =
    record { from_client = from_client; text = message.text; payload = message.payload; moment = moment; dropped = true } ∷ []
kept_of from_client message moment kills = []
