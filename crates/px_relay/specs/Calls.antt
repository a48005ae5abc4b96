-- What the calls of a WebSocket do to its fields.
use Rattle.std.specs.Prelude.{◌≡◌, ℕ, ◌+◌, Bool, true, false, ◌==◌, nat_lt, if◌then◌else◌, List, [], ◌∷◌, ◌++◌, length, All, Option, Some, None, Result, Ok, Err, ⊤}
use Rattle.std.specs.Int.{to_le_bytes, w32}
use Rattle.rand_chacha.specs.ChaCha.{ChaCha, next_word}
use Rattle.px_message.specs.declared.flow.Flow.{Flow}
use Rattle.px_message.specs.declared.messages.WsRecord.{WsRecord}
use Rattle.px_event.specs.declared.ask.Ask.{Ask}
use Rattle.px_event.specs.declared.ask.Ask.TheVariants as asks
use Rattle.px_event.specs.declared.ask.Hook.TheVariants as hooks
use Rattle.px_event.specs.declared.command.Command.{Command}
use Rattle.px_event.specs.declared.command.Command.TheVariants as commands
use Rattle.px_event.specs.declared.event.Rests.{Rests}
use Rattle.px_frame.specs.declared.fault.FrameError.{FrameError}
use Rattle.px_frame.specs.declared.fault.FrameError.TheVariants as error
use Rattle.px_frame.specs.declared.fault.FrameFault.{FrameFault}
use Rattle.px_frame.specs.declared.fault.FrameFault.TheVariants.{TooBig}
use Rattle.px_frame.specs.declared.frame.Frame.{Frame}
use Rattle.px_frame.specs.Head.{is_control}
use Rattle.px_frame.specs.Reader.{Feeds}
use Rattle.px_frame.specs.Text.{MayWrite, frame_text}
use Rattle.px_relay.specs.declared.failure.Failure.{Failure}
use Rattle.px_relay.specs.declared.failure.Failure.TheVariants.{BadFrame, NotText}
use Rattle.px_relay.specs.declared.half.Half.{Half}
use Rattle.px_relay.specs.declared.layer.WsLayer.{WsLayer}
use Rattle.px_relay.specs.declared.peer.Peer.{Peer}
use Rattle.px_relay.specs.declared.peer.Peer.TheVariants.{Client, Server}
use Rattle.px_relay.specs.declared.phase.Held.{Held}
use Rattle.px_relay.specs.declared.phase.Phase.TheVariants as phases
use Rattle.px_relay.specs.declared.sender.Sender.{Sender}
use Rattle.px_relay.specs.Chain.{most_whole, shut_client, shut_server, with_message}
use Rattle.px_relay.specs.Failures.{failure_payload}
use Rattle.px_relay.specs.Messages.{Message, gathered, is_bad_text}
use Rattle.px_relay.specs.Peers.{is_client, other, side_of}
use Rattle.px_relay.specs.Sending.{close_frame}

-- ---- what sends

abbrev pub key_by : Peer → ChaCha → Option (List ℕ)
key_by Client keys = None
key_by Server keys = Some (to_le_bytes w32 (next_word 10 keys).0)

abbrev pub keys_behind : Peer → ChaCha → ChaCha
keys_behind Client keys = keys
keys_behind Server keys = (next_word 10 keys).1

abbrev pub keys_behind_all : Peer → ChaCha → List Frame → ChaCha
keys_behind_all to keys [] = keys
keys_behind_all to keys (frame ∷ frames) = keys_behind_all to (keys_behind to keys) frames

abbrev pub text_by : Peer → ChaCha → List Frame → List ℕ
text_by to keys [] = []
text_by to keys (frame ∷ frames) =
    frame_text frame.fin frame.opcode (key_by to keys) frame.payload ++ text_by to (keys_behind to keys) frames

abbrev pub with_keys : Sender → ChaCha → Sender
with_keys sender keys = record sender { keys = keys }

abbrev pub said_to : Sender → Peer → List ℕ → List Command
said_to sender to text = commands.Send (side_of sender.server to) text ∷ []

abbrev pub sent_by : Sender → Peer → List Frame → List Command
sent_by sender to frames = said_to sender to (text_by to sender.keys frames)

abbrev pub both_closed : Sender → Peer → List ℕ → List Command
both_closed sender from payload =
    sent_by sender (other from) (close_frame payload ∷ [])
    ++ sent_by (with_keys sender (keys_behind (other from) sender.keys)) from (close_frame payload ∷ [])

-- a frame that may be written
abbrev pub IsWritable : Frame → Type 0
IsWritable frame = MayWrite frame.fin frame.opcode (length frame.payload)

-- ---- one side

-- nothing has come of it
pub record IsFresh (peer : Peer) (half : Half) : Type 0 where
  pub reader : half.reader ≡ record { masked = is_client peer; begun = None; rest = []; failed = None }
  pub queue : half.queue.items ≡ []
  pub fault : half.fault ≡ None
  pub begun : half.begun ≡ None

abbrev pub answer_of : Option FrameFault → Result ⊤ FrameError
answer_of None = Ok tt
answer_of (Some cause) = Err (error.Fault cause)

-- it heard bytes: the frames wait that its reader gave, and the fault
pub record Hears (before : Half) (bytes : List ℕ) (left : ℕ) (after : Half) : Type 0 where
  pub feeds : Feeds before.reader bytes left after.queue.items (answer_of after.fault) after.reader
  pub begun : after.begun ≡ before.begun

abbrev pub QueueBy : Option Frame → List Frame → List Frame → Type 0
QueueBy None before after = (before ≡ []) × (after ≡ [])
QueueBy (Some frame) before after = before ≡ frame ∷ after

-- the frame at the front of its queue was taken
pub record Pops (before after : Half) (popped : Option Frame) : Type 0 where
  pub reader : after.reader ≡ before.reader
  pub fault : after.fault ≡ before.fault
  pub begun : after.begun ≡ before.begun
  pub queue : QueueBy popped before.queue.items after.queue.items

-- all frames that wait may be written
abbrev pub AllWritable : Half → Type 0
AllWritable half = All IsWritable half.queue.items

-- ---- one frame

abbrev pub half_in : Peer → WsLayer → Half
half_in Client state = state.client
half_in Server state = state.server

abbrev pub with_half_in : Peer → Half → WsLayer → WsLayer
with_half_in Client half state = record state { client = half }
with_half_in Server half state = record state { server = half }

abbrev pub with_begun : Peer → Option Message → WsLayer → WsLayer
with_begun from begun state = with_half_in from (record (half_in from state) { begun = begun }) state

-- what a call came to: it goes on, or stops at an ask or at the end
pub data Did : Type 0 where
  goes : (state : WsLayer) (owed : List Command) → Did
  holds : (state : WsLayer) (owed : List Command) → Did
  ended : (rests : Rests) (owed : List Command) → Did

-- what is said at the end
abbrev pub closes_of : WsLayer → List Command
closes_of state = shut_server state.sender.server state.shut ++ shut_client state.closed

abbrev pub finish_of : WsLayer → Flow → List Command
finish_of state flow = commands.Done flow ∷ closes_of state

abbrev pub ends_of : WsLayer → List Command
ends_of state = finish_of state state.flow

abbrev pub close_of : Peer → WsLayer → List ℕ → List Command
close_of from state payload = both_closed state.sender from payload ++ ends_of state

abbrev pub failed_of : Peer → WsLayer → Failure → List Command
failed_of from state failure = close_of from state (failure_payload failure)

-- a whole message is asked about
abbrev pub ask_of : WsLayer → ℕ → Ask
ask_of state number = asks.Hook state.flow.id.index (hooks.WsMessage number)

abbrev pub asking : Peer → Message → WsLayer → WsLayer
asking from message state = record state {
  messages = state.messages + 1;
  phase = phases.Holding (record { from = from; number = state.messages; moment = state.moment; message = message });
}

abbrev pub asked_of : Peer → Message → WsLayer → List Command
asked_of from message state = commands.Ask (ask_of state state.messages) (with_message state.flow from message) ∷ []

abbrev pub did_message : Peer → WsLayer → Message → Did
did_message from state message =
    if is_bad_text message.text message.payload then ended state.rests (failed_of from state NotText)
    else (if nat_lt state.messages most_whole then holds (asking from message state) (asked_of from message state)
    else ended state.rests (failed_of from state (BadFrame TooBig)))

abbrev pub did_data : Peer → WsLayer → Frame → Did
did_data from state frame =
    let message = gathered (half_in from state).begun frame in
    if frame.fin then did_message from (with_begun from None state) message
    else goes (with_begun from (Some message) state) []

abbrev pub did_control : Peer → WsLayer → Frame → Did
did_control from state frame =
    if frame.opcode == 8 then ended state.rests (close_of from state frame.payload)
    else goes
    (record state { sender = with_keys state.sender (keys_behind (other from) state.sender.keys) })
    (sent_by state.sender (other from) (frame ∷ []))

abbrev pub did_frame : Peer → WsLayer → Frame → Did
did_frame from state frame =
    if is_control frame.opcode then did_control from state frame else did_data from state frame

-- that is what was done, and whether it goes on is answered so
abbrev pub WorksBy : Did → Bool → WsLayer → List Command → List Command → Type 0
WorksBy (goes state owed) result after out longer = (result ≡ true) × (after ≡ state) × (longer ≡ out ++ owed)
WorksBy (holds state owed) result after out longer = (result ≡ false) × (after ≡ state) × (longer ≡ out ++ owed)
WorksBy (ended rests owed) result after out longer =
    (result ≡ false) × (after.phase ≡ phases.Over) × (after.rests ≡ rests) × (longer ≡ out ++ owed)

-- the frame at the front of a side's queue was taken
pub record PopsFrom (from : Peer) (before after : WsLayer) (popped : Option Frame) : Type 0 where
  pub pops : Pops (half_in from before) (half_in from after) popped
  pub rest : after ≡ with_half_in from (half_in from after) before

-- where it goes on, the other side is as it was
abbrev pub StaysBeside : Bool → Peer → WsLayer → WsLayer → Type 0
StaysBeside true from before after =
    (after.phase ≡ phases.Relaying) × (half_in (other from) after ≡ half_in (other from) before) × (after.pending ≡ before.pending)
StaysBeside false from before after = ⊤

-- ---- a message that is answered

-- what is kept of it, with this payload
abbrev pub record_by : Held → List ℕ → Bool → WsRecord
record_by held payload dropped =
    record { from_client = is_client held.from; text = held.message.text; payload = payload; moment = held.moment; dropped = dropped }

-- behind what was kept before
abbrev pub with_record : WsRecord → WsLayer → WsLayer
with_record kept state = record state { flow = record state.flow { messages = state.flow.messages ++ kept ∷ [] } }
