-- Frames as they are sent: those to the server under keys, those to the client without (RFC 6455 sections 5.1 and 5.3).
use Rattle.std.specs.Prelude.{ℕ, ◌+◌, ◌%◌, ◌^◌, true, List, [], ◌∷◌, ◌++◌, Option, Some, None}
use Rattle.std.specs.Int.{to_le_bytes, w32}
use Rattle.rand_chacha.specs.ChaCha.{word_at}
use Rattle.px_message.specs.declared.flow.Flow.{Flow}
use Rattle.px_message.specs.declared.messages.WsRecord.{WsRecord}
use Rattle.px_event.specs.declared.command.Command.{Command}
use Rattle.px_event.specs.declared.command.Command.TheVariants as commands
use Rattle.px_frame.specs.declared.frame.Frame.{Frame}
use Rattle.px_frame.specs.Text.{frame_text}
use Rattle.px_relay.specs.declared.peer.Peer.{Peer}
use Rattle.px_relay.specs.declared.peer.Peer.TheVariants.{Client, Server}
use Rattle.px_relay.specs.Peers.{other, side_of}

-- what a WebSocket was made with: the flow that was upgraded, the number of its server, and the eight words of the key of its masks
pub record Terms : Type 0 where
  pub flow : Flow
  pub server : ℕ
  pub key : List ℕ

-- the same where its flow has these messages
abbrev pub with_records : Terms → List WsRecord → Terms
with_records terms records = record terms { flow = record terms.flow { messages = records } }

-- The key of the frame of this number among those that are sent to the server, from 0: the word at that place of ChaCha20, in
-- the stream of the conversation's number, least byte first. The stream repeats after 2^68 words.
abbrev pub key_at : Terms → ℕ → List ℕ
key_at terms number = to_le_bytes w32 (word_at 10 terms.key terms.flow.id.conv (number % 2 ^ 68))

abbrev pub key_for : Terms → Peer → ℕ → Option (List ℕ)
key_for terms Client number = None
key_for terms Server number = Some (key_at terms number)

-- how many frames were sent to the server, behind one more to this peer
abbrev pub counted : Peer → ℕ → ℕ
counted Client sent = sent
counted Server sent = sent + 1

-- the text of frames to a peer, where so many were sent to the server before
abbrev pub text_to : Terms → Peer → ℕ → List Frame → List ℕ
text_to terms to sent [] = []
text_to terms to sent (frame ∷ frames) =
    frame_text frame.fin frame.opcode (key_for terms to sent) frame.payload ++ text_to terms to (counted to sent) frames

abbrev pub sent_behind : Peer → ℕ → List Frame → ℕ
sent_behind to sent [] = sent
sent_behind to sent (frame ∷ frames) = sent_behind to (counted to sent) frames

abbrev pub send_to : Terms → Peer → ℕ → List Frame → List Command
send_to terms to sent frames = commands.Send (side_of terms.server to) (text_to terms to sent frames) ∷ []

-- ---- the closing handshake (section 5.5.1)

abbrev pub close_frame : List ℕ → Frame
close_frame payload = record { fin = true; opcode = 8; payload = payload }

-- a Close frame to the other side, and then to the one it came from
abbrev pub close_both : Terms → Peer → ℕ → List ℕ → List Command
close_both terms from sent payload =
    send_to terms (other from) sent (close_frame payload ∷ []) ++ send_to terms from (counted (other from) sent) (close_frame payload ∷ [])
