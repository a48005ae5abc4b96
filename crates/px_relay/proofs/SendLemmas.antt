-- What is sent is what the chain owes: the keys are those of the frames' numbers.
use Rattle.std.proofs.Common.{◌≡◌, ◌∙◌, ℕ, ◌+◌, ◌%◌, ◌^◌, List, [], ◌∷◌, ◌++◌, Option, refl, ap, ap₂, arith}
use Rattle.rand_chacha.specs.ChaCha.{ChaCha}
use Rattle.px_message.specs.declared.flow.Flow.{Flow}
use Rattle.px_event.specs.declared.command.Command.{Command}
use Rattle.px_event.specs.declared.command.Command.TheVariants as commands
use Rattle.px_frame.specs.declared.frame.Frame.{Frame}
use Rattle.px_frame.specs.Text.{frame_text}
use Rattle.px_relay.specs.declared.layer.WsLayer.{WsLayer}
use Rattle.px_relay.specs.declared.peer.Peer.{Peer}
use Rattle.px_relay.specs.declared.peer.Peer.TheVariants.{Client, Server}
use Rattle.px_relay.specs.declared.sender.Sender.{Sender}
use Rattle.px_relay.specs.Calls.{both_closed, close_of, ends_of, finish_of, key_by, keys_behind, keys_behind_all, sent_by, text_by, with_keys}
use Rattle.px_relay.specs.Chain.{ends, shut_client, shut_server}
use Rattle.px_relay.specs.Peers.{other, side_of}
use Rattle.px_relay.specs.Sending.{Terms, close_both, close_frame, counted, key_for, send_to, sent_behind, text_to}
use Rattle.px_relay.specs.Sights.{Sight}
use Rattle.px_relay.specs.Stands.{IsMade, keys_at}

next_place : (sent : ℕ) → (sent % 2 ^ 68 + 1) % 2 ^ 68 ≡ (sent + 1) % 2 ^ 68
next_place sent = omega arith

pub keys_step : (terms : Terms) (to : Peer) (sent : ℕ) → keys_behind to (keys_at terms sent) ≡ keys_at terms (counted to sent)
keys_step terms Client sent = refl
keys_step terms Server sent =
    ap (λ n. record { key = terms.key; stream = terms.flow.id.conv; word_pos = n }) (next_place sent)

key_same : (terms : Terms) (to : Peer) (sent : ℕ) → key_by to (keys_at terms sent) ≡ key_for terms to sent
key_same terms Client sent = refl
key_same terms Server sent = refl

text_same : (terms : Terms) (to : Peer) (sent : ℕ) (frames : List Frame) → text_by to (keys_at terms sent) frames ≡ text_to terms to sent frames
text_same terms to sent [] = refl
text_same terms to sent (frame ∷ frames) =
    ap₂ (λ (k : Option (List ℕ)) (rest : List ℕ). frame_text frame.fin frame.opcode k frame.payload ++ rest) (key_same terms to sent)
    (ap (λ (keys : ChaCha). text_by to keys frames) (keys_step terms to sent) ∙ text_same terms to (counted to sent) frames)

pub keys_all : (terms : Terms) (to : Peer) (sent : ℕ) (frames : List Frame) → keys_behind_all to (keys_at terms sent) frames ≡ keys_at terms (sent_behind to sent frames)
keys_all terms to sent [] = refl
keys_all terms to sent (frame ∷ frames) =
    ap (λ (keys : ChaCha). keys_behind_all to keys frames) (keys_step terms to sent) ∙ keys_all terms to (counted to sent) frames

pub sent_same : (terms : Terms) (sender : Sender) (to : Peer) (sent : ℕ) (frames : List Frame) → sender.server ≡ terms.server → sender.keys ≡ keys_at terms sent →
    sent_by sender to frames ≡ send_to terms to sent frames
sent_same terms sender to sent frames server keys =
    ap₂ (λ (n : ℕ) (text : List ℕ). commands.Send (side_of n to) text ∷ []) server
    (ap (λ (k : ChaCha). text_by to k frames) keys ∙ text_same terms to sent frames)

pub closed_same : (terms : Terms) (sender : Sender) (from : Peer) (sent : ℕ) (payload : List ℕ) → sender.server ≡ terms.server → sender.keys ≡ keys_at terms sent →
    both_closed sender from payload ≡ close_both terms from sent payload
closed_same terms sender from sent payload server keys =
    ap₂ (λ (a b : List Command). a ++ b) (sent_same terms sender (other from) sent (close_frame payload ∷ []) server keys)
    (sent_same terms (with_keys sender (keys_behind (other from) sender.keys)) from (counted (other from) sent) (close_frame payload ∷ []) server
    (ap (λ (k : ChaCha). keys_behind (other from) k) keys ∙ keys_step terms (other from) sent))

pub finish_same : (terms : Terms) (sent : ℕ) (seen : Sight) (state : WsLayer) (flow : Flow) → IsMade terms sent seen state →
    finish_of state flow ≡ ends terms seen flow
finish_same terms sent seen state flow made =
    ap (λ (l : List Command). commands.Done flow ∷ l)
    (ap₂ (λ (a b : List Command). a ++ b)
    (ap₂ shut_server made.server made.shut) (ap shut_client made.closed))

pub ends_same : (terms : Terms) (sent : ℕ) (seen : Sight) (state : WsLayer) → IsMade terms sent seen state → ends_of state ≡ ends terms seen terms.flow
ends_same terms sent seen state made =
    ap (λ (f : Flow). finish_of state f) made.flow ∙ finish_same terms sent seen state terms.flow made

pub close_same : (terms : Terms) (sent : ℕ) (seen : Sight) (state : WsLayer) (from : Peer) (payload : List ℕ) → IsMade terms sent seen state →
    close_of from state payload ≡ close_both terms from sent payload ++ ends terms seen terms.flow
close_same terms sent seen state from payload made =
    ap₂ (λ (a b : List Command). a ++ b) (closed_same terms state.sender from sent payload made.server made.keys) (ends_same terms sent seen state made)
