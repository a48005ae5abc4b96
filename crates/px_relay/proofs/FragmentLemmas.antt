-- A message and its frames: sent with the payload that was read, it goes in the frames that it came in.
use Rattle.std.proofs.Common.{◌≡◌, ◌∙◌, ℕ, ◌==◌, if◌then◌else◌, Bool, true, false, List, [], ◌∷◌, ◌++◌, append_assoc, append-nil, length, take, Option, Some, None, refl, sym, ap, ap₂}
use Rattle.std.proofs.Math.Seq.{take-append_seam, drop-append_seam}
use Rattle.std.proofs.lemmas.Bool.{eq-eqb}
use Rattle.px_message.specs.declared.flow.Flow.{Flow}
use Rattle.px_message.specs.declared.flow.WsMessage.{WsMessage}
use Rattle.px_event.specs.declared.reply.Reply.TheVariants as replies
use Rattle.px_frame.specs.declared.frame.Frame.{Frame}
use Rattle.px_relay.specs.declared.peer.Peer.{Peer}
use Rattle.px_relay.specs.Chain.{turn}
use Rattle.px_relay.specs.Messages.{Message, cut_lengths, fragments, gathered, is_bad_text, is_none_left, message_frames, opcode_of, payload_by, sent_lengths, sent_payload}
use Rattle.px_relay.specs.Order.{AreFragments, gathered_all, none_left}
use Rattle.px_relay.specs.Peers.{other}
use Rattle.px_relay.specs.Sending.{Terms, send_to}
use Rattle.px_relay.specs.Sights.{Sight}
use Rattle.px_relay.specs.Stages.{At, holding}

-- ---- what is gathered of frames

abbrev lengths_of : List Frame → List ℕ
lengths_of [] = []
lengths_of (frame ∷ frames) = length frame.payload ∷ lengths_of frames

abbrev payloads_of : List Frame → List ℕ
payloads_of [] = []
payloads_of (frame ∷ frames) = frame.payload ++ payloads_of frames

-- behind a message that has begun
gathers_more : (message : Message) (frames : List Frame) → gathered_all (Some message) frames
    ≡ Some (record { text = message.text; lengths = message.lengths ++ lengths_of frames; payload = message.payload ++ payloads_of frames })
gathers_more message [] =
    ap₂ (λ (l p : List ℕ). Some (record { text = message.text; lengths = l; payload = p })) (sym (append-nil message.lengths)) (sym (append-nil message.payload))
gathers_more message (frame ∷ frames) =
    gathers_more (gathered (Some message) frame) frames
    ∙ ap₂ (λ (l p : List ℕ). Some (record { text = message.text; lengths = l; payload = p }))
    (append_assoc message.lengths (length frame.payload ∷ []) (lengths_of frames)) (append_assoc message.payload frame.payload (payloads_of frames))

-- ---- they are its fragments

none_same : (frames : List Frame) → is_none_left (lengths_of frames) ≡ none_left frames
none_same [] = refl
none_same (frame ∷ frames) = refl

same_frame : (fin : Bool) (opcode : ℕ) (payload : List ℕ) (frame : Frame) → fin ≡ frame.fin → opcode ≡ frame.opcode → payload ≡ frame.payload →
    record { fin = fin; opcode = opcode; payload = payload } ≡ frame
same_frame fin opcode payload frame p q r =
    ap (λ b. record { fin = b; opcode = opcode; payload = payload }) p
    ∙ ap₂ (λ n (l : List ℕ). record { fin = frame.fin; opcode = n; payload = l }) q r

fragments_same : (opcode : ℕ) (frames : List Frame) → AreFragments opcode frames → fragments opcode (lengths_of frames) (payloads_of frames) ≡ frames
fragments_same opcode [] are = refl
fragments_same opcode (frame ∷ frames) (is, last, others) =
    ap₂ (λ (f : Frame) (fs : List Frame). f ∷ fs)
    (same_frame (is_none_left (lengths_of frames)) opcode (take (length frame.payload) (frame.payload ++ payloads_of frames)) frame
    (none_same frames ∙ sym last) (sym is) (take-append_seam frame.payload (payloads_of frames)))
    (ap (λ l. fragments 0 (lengths_of frames) l) (drop-append_seam frame.payload (payloads_of frames)) ∙ fragments_same 0 frames others)

-- ---- the message that is sent with its own payload

own_lengths : (message : Message) → sent_lengths message message.payload ≡ message.lengths
own_lengths message = ap (λ b. if b then message.lengths else cut_lengths (length message.payload)) (eq-eqb (length message.payload) (length message.payload) refl)

some_message : (one two : Message) → Some one ≡ Some two → one ≡ two
some_message one two is = cc

some_none : (message : Message) → None ≡ Some message → ⊥
some_none message is = cc

text_same : (text : Bool) (frame : Frame) → frame.opcode ≡ opcode_of text → (frame.opcode == 1) ≡ text
text_same true frame is = ap (λ n. n == 1) is
text_same false frame is = ap (λ n. n == 1) is

pub own_frames : (text : Bool) (frames : List Frame) (message : Message) → AreFragments (opcode_of text) frames → gathered_all None frames ≡ Some message →
    message_frames message message.payload ≡ frames
own_frames text [] message are is = absurd (some_none message is)
own_frames text (frame ∷ frames) message are is =
    let made : Message = record {
      text = frame.opcode == 1;
      lengths = lengths_of (frame ∷ frames);
      payload = payloads_of (frame ∷ frames);
    } in
    let same : made ≡ message = some_message made message (sym (gathers_more (gathered None frame) frames) ∙ is) in
    ap (λ (l : List ℕ). fragments (opcode_of message.text) l message.payload) (own_lengths message)
    ∙ (ap (λ (m : Message). fragments (opcode_of m.text) m.lengths m.payload) (sym same)
    ∙ (ap (λ b. fragments (opcode_of b) (lengths_of (frame ∷ frames)) (payloads_of (frame ∷ frames))) (text_same text frame are.0)
    ∙ fragments_same (opcode_of text) (frame ∷ frames) are))

-- ---- by a reply that has the payload that was read

either_same : (b : Bool) (payload : List ℕ) → (if b then payload else payload) ≡ payload
either_same true payload = refl
either_same false payload = refl

pub sends_same : (terms : Terms) (seen : Sight) (from : Peer) (at : At) (text : Bool) (frames : List Frame) (message : Message)
    (flow : Flow) (changed : WsMessage) (stream : Option ℕ) (moment : ℕ) →
    AreFragments (opcode_of text) frames → gathered_all None frames ≡ Some message → flow.message ≡ Some changed → changed.payload ≡ message.payload →
    (turn terms (holding from message at) seen (replies.Go flow stream) moment).owed ≡ send_to terms (other from) at.sent frames
sends_same terms seen from at text frames message flow changed stream moment are is there same =
    ap (λ (p : List ℕ). send_to terms (other from) at.sent (message_frames message p))
    (ap (payload_by message) there
    ∙ (ap (sent_payload message) same ∙ either_same (is_bad_text message.text message.payload) message.payload))
    ∙ ap (λ (l : List Frame). send_to terms (other from) at.sent l) (own_frames text frames message are is)
