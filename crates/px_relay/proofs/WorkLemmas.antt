-- One frame: what the fields do for it is what the chain makes of it.
use Rattle.std.proofs.Common.{◌≡◌, ◌∙◌, ℕ, ◌+◌, ◌-◌, ◌==◌, nat_lt, unwrap_or, if◌then◌else◌, Bool, true, false, List, [], ◌∷◌, length, drop, Option, Some, None, refl, sym, ap, ap₂, subst, arith, length-append}
use Rattle.rand_chacha.specs.ChaCha.{ChaCha}
use Rattle.px_event.specs.declared.ask.Ask.TheVariants as asks
use Rattle.px_event.specs.declared.ask.Hook.TheVariants as hooks
use Rattle.px_event.specs.declared.command.Command.TheVariants as commands
use Rattle.px_message.specs.declared.flow.Flow.{Flow}
use Rattle.px_message.specs.declared.messages.WsRecord.{WsRecord}
use Rattle.px_frame.specs.declared.fault.FrameFault.TheVariants.{TooBig}
use Rattle.px_frame.specs.declared.frame.Frame.{Frame}
use Rattle.px_frame.specs.declared.frame.Standing.{Standing}
use Rattle.px_frame.specs.Frames.{Ending, IsFrames, behind, behind_all, behind_data, fault, rest}
use Rattle.px_frame.specs.Head.{is_control, so_far}
use Rattle.px_relay.specs.declared.failure.Failure.{Failure}
use Rattle.px_relay.specs.declared.failure.Failure.TheVariants.{BadFrame, NotText}
use Rattle.px_relay.specs.declared.half.Half.{Half as HalfState}
use Rattle.px_relay.specs.declared.layer.WsLayer.{WsLayer}
use Rattle.px_relay.specs.declared.peer.Peer.{Peer}
use Rattle.px_relay.specs.declared.peer.Peer.TheVariants.{Client, Server}
use Rattle.px_relay.specs.declared.phase.Phase.TheVariants as phases
use Rattle.px_relay.specs.declared.sender.Sender.{Sender}
use Rattle.px_relay.specs.Calls.{Did, asked_of, asking, close_of, did_control, did_data, did_frame, did_message, ended, failed_of, goes, half_in, holds, keys_behind, sent_by, with_begun, with_keys}
use Rattle.px_relay.specs.Chain.{Course, closes_with, control_course, data_course, fails, frame_course, goes_on, message_course, most_whole, past, stops, terms_at, with_message}
use Rattle.px_relay.specs.Failures.{failure_payload}
use Rattle.px_relay.specs.Messages.{Message, gathered, is_bad_text, payload_so_far}
use Rattle.px_relay.specs.Peers.{is_client, other}
use Rattle.px_relay.specs.Sending.{Terms, counted, send_to, with_records}
use Rattle.px_relay.specs.Sights.{Sight, bytes_of}
use Rattle.px_relay.specs.Stages.{At, Half, half_of, holding, moment_at, most_messages, over, standing, with_half}
use Rattle.px_relay.specs.Stands.{EndsAs, IsBeside, IsHolding, IsMade, IsQueued, IsUnheard, IsWorking, Leads, keys_at}
use Rattle.px_relay.specs.Laws.{half_beside, half_messages, half_records, half_sent, half_since, half_there}
use Rattle.px_relay.proofs.SendLemmas.{close_same, keys_step, sent_same}

-- ---- halves of a state

pub begun_half : (from : Peer) (begun : Option Message) (state : WsLayer) → half_in from (with_begun from begun state) ≡ record (half_in from state) { begun = begun }
begun_half Client begun state = refl
begun_half Server begun state = refl

pub begun_beside : (from : Peer) (begun : Option Message) (state : WsLayer) → half_in (other from) (with_begun from begun state) ≡ half_in (other from) state
begun_beside Client begun state = refl
begun_beside Server begun state = refl

begun_made : (from : Peer) (begun : Option Message) (terms : Terms) (sent : ℕ) (seen : Sight) (state : WsLayer) → IsMade terms sent seen state →
    IsMade terms sent seen (with_begun from begun state)
begun_made Client begun terms sent seen state made = record { flow = made.flow; server = made.server; keys = made.keys; closed = made.closed; shut = made.shut }
begun_made Server begun terms sent seen state made = record { flow = made.flow; server = made.server; keys = made.keys; closed = made.closed; shut = made.shut }

begun_rest : (from : Peer) (begun : Option Message) (state : WsLayer) → ((with_begun from begun state).phase ≡ state.phase)
    × ((with_begun from begun state).messages ≡ state.messages) × ((with_begun from begun state).pending ≡ state.pending)
    × ((with_begun from begun state).moment ≡ state.moment)
begun_rest Client begun state = (refl, refl, refl, refl)
begun_rest Server begun state = (refl, refl, refl, refl)

-- a flow that has these records
pub same_terms : (terms : Terms) (records : List WsRecord) → terms.flow.messages ≡ records → with_records terms records ≡ terms
same_terms terms records is = ap (λ (r : List WsRecord). with_records terms r) (sym is)

-- the moment of a place, where another one stands since the same
pub same_moment : (one two : At) (seen : Sight) → two.since ≡ one.since → moment_at two seen ≡ moment_at one seen
same_moment one two seen is = ap (λ (s : Option ℕ). unwrap_or s seen.now) is

-- the other side does not see what is done for this one
pub beside_same : (from : Peer) (one two : At) (seen now : Sight) (before after : WsLayer) → half_of (other from) two ≡ half_of (other from) one →
    bytes_of (other from) now ≡ bytes_of (other from) seen → half_in (other from) after ≡ half_in (other from) before → after.pending ≡ before.pending →
    IsBeside from one seen before → IsBeside from two now after
beside_same Client one two seen now before after half bytes state pending is =
    subst (λ (h : Half). IsUnheard Server h now.server after.pending after.server) (sym half)
    (subst (λ (b : List ℕ). IsUnheard Server one.server b after.pending after.server) (sym bytes)
    (subst (λ (p : List ℕ). IsUnheard Server one.server seen.server p after.server) (sym pending)
    (subst (λ (h : HalfState). IsUnheard Server one.server seen.server before.pending h) (sym state) is)))
beside_same Server one two seen now before after half bytes state pending (is, none) = (
  subst (λ (h : Half). IsUnheard Client h now.client [] after.client) (sym half)
      (subst (λ (b : List ℕ). IsUnheard Client one.client b [] after.client) (sym bytes)
      (subst (λ (h : HalfState). IsUnheard Client one.client seen.client [] h) (sym state) is)),
  pending ∙ none,
)

-- ---- where a frame was taken from the queue

-- how the bytes end behind the frames that wait, the first of which stands so
abbrev pub EndsBehind : Bool → Standing → Ending → HalfState → Type 0
EndsBehind masked at (rest bytes) state =
    (state.fault ≡ None)
    × (state.reader ≡ record { masked = masked; begun = (behind_all at state.queue.items).begun; rest = bytes; failed = None })
EndsBehind masked at (fault cause) state = state.fault ≡ Some cause

-- The place is that before it; the state has the frames behind it.
pub record IsPopped (terms : Terms) (from : Peer) (at : At) (seen : Sight) (frame : Frame) (more : List ℕ) (state : WsLayer) : Type 0 where
  pub made : IsMade terms at.sent seen state
  pub phase : state.phase ≡ phases.Relaying
  pub messages : state.messages ≡ at.messages
  pub records : terms.flow.messages ≡ at.records
  pub moment : state.moment ≡ moment_at at seen
  pub end : Ending
  pub frames : IsFrames (is_client from) (behind (standing (half_of from at) at.messages) frame) more (half_in from state).queue.items end
  pub ended : EndsBehind (is_client from) (behind (standing (half_of from at) at.messages) frame) end (half_in from state)
  pub begun : (half_in from state).begun ≡ (half_of from at).begun
  pub rest_is : drop (length (bytes_of from seen) - length more) (bytes_of from seen) ≡ more
  pub beside : IsBeside from at seen state

ends_same_at : (peer : Peer) (half : Half) (messages : ℕ) (at : Standing) (end : Ending) (one two : HalfState) → standing half messages ≡ at →
    two.reader ≡ one.reader → two.fault ≡ one.fault → two.queue.items ≡ one.queue.items → EndsBehind (is_client peer) at end one →
    EndsAs peer half messages end two
ends_same_at peer half messages at (rest bytes) one two is reader failed queue (none, made) = (
  failed ∙ none,
  reader ∙ (made ∙ ap₂ (λ (s : Standing) (l : List Frame). record { masked = is_client peer; begun = (behind_all s l).begun; rest = bytes; failed = None })
      (sym is) (sym queue)),
)
ends_same_at peer half messages at (fault cause) one two is reader failed queue broken = failed ∙ broken

-- the frames that wait are those behind it, at a half that stands where it leads
pub requeued : (terms : Terms) (from : Peer) (at : At) (seen : Sight) (frame : Frame) (more : List ℕ) (state : WsLayer) (half : Half) (messages : ℕ) (side : HalfState) →
    IsPopped terms from at seen frame more state → half.used ≡ length (bytes_of from seen) - length more → half.judged ≡ false →
    standing half messages ≡ behind (standing (half_of from at) at.messages) frame →
    side.reader ≡ (half_in from state).reader → side.fault ≡ (half_in from state).fault → side.queue.items ≡ (half_in from state).queue.items →
    side.begun ≡ half.begun → IsQueued from half messages (bytes_of from seen) side
requeued terms from at seen frame more state half messages side popped used judged stands reader failed queue begun =
    let unread : drop half.used (bytes_of from seen) ≡ more = ap (λ n. drop n (bytes_of from seen)) used ∙ popped.rest_is in
    record {
      end = popped.end;
      frames = subst (λ (l : List Frame). IsFrames (is_client from) (standing half messages) (drop half.used (bytes_of from seen)) l popped.end) (sym queue)
          (subst (λ (b : List ℕ). IsFrames (is_client from) (standing half messages) b (half_in from state).queue.items popped.end) (sym unread)
          (subst (λ (s : Standing). IsFrames (is_client from) s more (half_in from state).queue.items popped.end) (sym stands) popped.frames));
      ended = ends_same_at from half messages _ popped.end (half_in from state) side stands reader failed queue popped.ended;
      judged = λ was. absurd (let no : false ≡ true = sym judged ∙ was in cc);
      begun = begun;
      within = let u = used in omega arith;
    }

-- ---- what a frame leads to

-- what was done is what the chain makes of it
abbrev pub Follows : Terms → Peer → Sight → Did → Course → Type 0
Follows terms from seen (goes state owed) (goes_on due at) = (owed ≡ due) × IsWorking terms from at seen state
Follows terms from seen (holds state owed) (stops turn) = Leads terms turn seen state owed
Follows terms from seen (ended rests owed) (stops turn) = (owed ≡ turn.owed) × (turn.stage ≡ over)
Follows terms from seen did course = ⊥

follows_if : (terms : Terms) (from : Peer) (seen : Sight) (b c : Bool) (one two : Did) (first second : Course) → b ≡ c →
    (b ≡ true → Follows terms from seen one first) → (b ≡ false → Follows terms from seen two second) →
    Follows terms from seen (if b then one else two) (if c then first else second)
follows_if terms from seen true true one two first second is p q = p refl
follows_if terms from seen true false one two first second is p q = absurd (let no : true ≡ false = is in cc)
follows_if terms from seen false true one two first second is p q = absurd (let no : false ≡ true = is in cc)
follows_if terms from seen false false one two first second is p q = q refl

pub gathered_long : (begun : Option Message) (frame : Frame) → length (gathered begun frame).payload ≡ so_far (payload_so_far begun) + length frame.payload
gathered_long None frame = omega arith
gathered_long (Some message) frame = length-append message.payload frame.payload

pub behind_control : (at : Standing) (frame : Frame) → is_control frame.opcode ≡ true → behind at frame ≡ record { begun = at.begun; left = at.left; judged = false }
behind_control at frame is = ap (λ b. if b then record { begun = at.begun; left = at.left; judged = false } else behind_data at frame) is

pub behind_fragment : (at : Standing) (frame : Frame) → is_control frame.opcode ≡ false → frame.fin ≡ false →
    behind at frame ≡ record { begun = Some (so_far at.begun + length frame.payload); left = at.left; judged = false }
behind_fragment at frame is more =
    ap (λ b. if b then record { begun = at.begun; left = at.left; judged = false } else behind_data at frame) is
    ∙ ap (λ f. if f then record { begun = None; left = at.left - 1; judged = false }
    else record { begun = Some (so_far at.begun + length frame.payload); left = at.left; judged = false }) more

pub behind_last : (at : Standing) (frame : Frame) → is_control frame.opcode ≡ false → frame.fin ≡ true →
    behind at frame ≡ record { begun = None; left = at.left - 1; judged = false }
behind_last at frame is last =
    ap (λ b. if b then record { begun = at.begun; left = at.left; judged = false } else behind_data at frame) is
    ∙ ap (λ f. if f then record { begun = None; left = at.left - 1; judged = false }
    else record { begun = Some (so_far at.begun + length frame.payload); left = at.left; judged = false }) last

pub one_fewer : (messages : ℕ) → most_messages - (messages + 1) ≡ (most_messages - messages) - 1
one_fewer messages = omega arith

-- fields that a side does not have
sender_half : (peer : Peer) (state : WsLayer) (sender : Sender) → half_in peer (record state { sender = sender }) ≡ half_in peer state
sender_half Client state sender = refl
sender_half Server state sender = refl

pub asking_half : (peer from : Peer) (message : Message) (state : WsLayer) → half_in peer (asking from message state) ≡ half_in peer state
asking_half Client from message state = refl
asking_half Server from message state = refl

sent_half : (peer : Peer) (at : At) (sent : ℕ) → half_of peer (record at { sent = sent }) ≡ half_of peer at
sent_half Client at sent = refl
sent_half Server at sent = refl

module _ (terms : Terms) (from : Peer) (at : At) (seen : Sight) (frame : Frame) (more : List ℕ) (state : WsLayer) (popped : IsPopped terms from at seen frame more state) where
  -- behind it
  abbrev behind_it : At
  behind_it = past from seen more at

  abbrev behind_half : Half
  behind_half = record (half_of from at) { used = length (bytes_of from seen) - length more; judged = false }

  half_is : half_of from behind_it ≡ behind_half
  half_is = half_there from behind_half at

  sent_is : behind_it.sent ≡ at.sent
  sent_is = half_sent from behind_half at

  messages_are : behind_it.messages ≡ at.messages
  messages_are = half_messages from behind_half at

  other_is : half_of (other from) behind_it ≡ half_of (other from) at
  other_is = half_beside from behind_half at

  records_are : terms.flow.messages ≡ behind_it.records
  records_are = popped.records ∙ sym (half_records from behind_half at)

  since_is : behind_it.since ≡ at.since
  since_is = half_since from behind_half at

  -- to the next place
  queued_at : (next : At) (two : WsLayer) (half : Half) (messages : ℕ) → half_of from next ≡ half → half.used ≡ behind_half.used → half.judged ≡ false →
      standing half messages ≡ behind (standing (half_of from at) at.messages) frame →
      (half_in from two).reader ≡ (half_in from state).reader → (half_in from two).fault ≡ (half_in from state).fault →
      (half_in from two).queue.items ≡ (half_in from state).queue.items → (half_in from two).begun ≡ half.begun →
      IsQueued from (half_of from next) messages (bytes_of from seen) (half_in from two)
  queued_at next two half messages is used judged stands reader failed queue begun =
      subst (λ (h : Half). IsQueued from h messages (bytes_of from seen) (half_in from two)) (sym is)
      (requeued terms from at seen frame more state half messages (half_in from two) popped used judged stands reader failed queue begun)

  -- ---- a control frame

  control_stands : is_control frame.opcode ≡ true → standing behind_half at.messages ≡ behind (standing (half_of from at) at.messages) frame
  control_stands is = sym (behind_control (standing (half_of from at) at.messages) frame is)

  abbrev sent_on : WsLayer
  sent_on = record state { sender = with_keys state.sender (keys_behind (other from) state.sender.keys) }

  abbrev next_sent : At
  next_sent = record behind_it { sent = counted (other from) behind_it.sent }

  sent_made : IsMade terms next_sent.sent seen sent_on
  sent_made = record {
    flow = popped.made.flow;
    server = popped.made.server;
    keys = ap (λ (k : ChaCha). keys_behind (other from) k) popped.made.keys
        ∙ (keys_step terms (other from) at.sent ∙ ap (λ n. keys_at terms (counted (other from) n)) (sym sent_is));
    closed = popped.made.closed;
    shut = popped.made.shut;
  }

  sent_works : is_control frame.opcode ≡ true → IsWorking terms from next_sent seen sent_on
  sent_works is =
      let side = sender_half from state sent_on.sender in
      record {
        made = sent_made;
        phase = popped.phase;
        messages = popped.messages ∙ sym messages_are;
        records = records_are;
        moment = popped.moment ∙ sym (same_moment at next_sent seen since_is);
        queued = queued_at next_sent sent_on behind_half next_sent.messages (sent_half from behind_it next_sent.sent ∙ half_is) refl refl
            (ap (λ n. standing behind_half n) messages_are ∙ control_stands is)
            (ap (λ (h : HalfState). h.reader) side) (ap (λ (h : HalfState). h.fault) side) (ap (λ (h : HalfState). h.queue.items) side)
            (ap (λ (h : HalfState). h.begun) side ∙ popped.begun);
        beside = beside_same from at next_sent seen seen state sent_on (sent_half (other from) behind_it next_sent.sent ∙ other_is) refl
            (sender_half (other from) state sent_on.sender) refl popped.beside;
      }

  closed_follows : Follows terms from seen (ended state.rests (close_of from state frame.payload)) (stops (closes_with terms seen from behind_it.sent frame.payload))
  closed_follows = (
    close_same terms at.sent seen state from frame.payload popped.made ∙ ap (λ n. (closes_with terms seen from n frame.payload).owed) (sym sent_is),
    refl,
  )

  control_follows : is_control frame.opcode ≡ true → Follows terms from seen (did_control from state frame) (control_course terms seen from behind_it frame)
  control_follows is =
      follows_if terms from seen (frame.opcode == 8) (frame.opcode == 8) (ended state.rests (close_of from state frame.payload))
      (goes sent_on (sent_by state.sender (other from) (frame ∷ []))) (stops (closes_with terms seen from behind_it.sent frame.payload))
      (goes_on (send_to terms (other from) behind_it.sent (frame ∷ [])) next_sent) refl
      (λ closes. closed_follows)
      (λ goes_by. (
        sent_same terms state.sender (other from) at.sent (frame ∷ []) popped.made.server popped.made.keys
            ∙ ap (λ n. send_to terms (other from) n (frame ∷ [])) (sym sent_is),
        sent_works is,
      ))

  -- ---- a frame of data

  -- the message with it, of the fields and of the chain
  abbrev message_now : Message
  message_now = gathered (half_in from state).begun frame

  abbrev message_there : Message
  message_there = gathered (half_of from behind_it).begun frame

  message_is : message_now ≡ message_there
  message_is = ap (λ (b : Option Message). gathered b frame) (popped.begun ∙ sym (ap (λ (h : Half). h.begun) half_is))

  abbrev with_it : Option Message → At
  with_it begun = with_half from (record (half_of from behind_it) { begun = begun }) behind_it

  with_half_is : (begun : Option Message) → half_of from (with_it begun) ≡ record behind_half { begun = begun }
  with_half_is begun =
      half_there from (record (half_of from behind_it) { begun = begun }) behind_it ∙ ap (λ (h : Half). record h { begun = begun }) half_is

  with_other_is : (begun : Option Message) → half_of (other from) (with_it begun) ≡ half_of (other from) at
  with_other_is begun = half_beside from (record (half_of from behind_it) { begun = begun }) behind_it ∙ other_is

  with_sent_is : (begun : Option Message) → (with_it begun).sent ≡ at.sent
  with_sent_is begun = half_sent from (record (half_of from behind_it) { begun = begun }) behind_it ∙ sent_is

  with_messages_are : (begun : Option Message) → (with_it begun).messages ≡ at.messages
  with_messages_are begun = half_messages from (record (half_of from behind_it) { begun = begun }) behind_it ∙ messages_are

  with_records_are : (begun : Option Message) → terms.flow.messages ≡ (with_it begun).records
  with_records_are begun = records_are ∙ sym (half_records from (record (half_of from behind_it) { begun = begun }) behind_it)

  with_moment_is : (begun : Option Message) → state.moment ≡ moment_at (with_it begun) seen
  with_moment_is begun =
      popped.moment ∙ sym (same_moment at (with_it begun) seen (half_since from (record (half_of from behind_it) { begun = begun }) behind_it ∙ since_is))

  made_with : (begun : Option Message) (there : At) → there.sent ≡ at.sent → IsMade terms there.sent seen (with_begun from begun state)
  made_with begun there same =
      subst (λ n. IsMade terms n seen (with_begun from begun state)) (sym same) (begun_made from begun terms at.sent seen state popped.made)

  fragment_stands : is_control frame.opcode ≡ false → frame.fin ≡ false →
      standing (record behind_half { begun = Some message_there }) at.messages ≡ behind (standing (half_of from at) at.messages) frame
  fragment_stands plain not_last =
      ap (λ n. record { begun = Some n; left = most_messages - at.messages; judged = false })
      (gathered_long (half_of from behind_it).begun frame
      ∙ ap (λ (h : Half). so_far (payload_so_far h.begun) + length frame.payload) half_is)
      ∙ sym (behind_fragment (standing (half_of from at) at.messages) frame plain not_last)

  fragment_works : is_control frame.opcode ≡ false → frame.fin ≡ false →
      IsWorking terms from (with_it (Some message_there)) seen (with_begun from (Some message_now) state)
  fragment_works plain not_last =
      let two = with_begun from (Some message_now) state in
      let next = with_it (Some message_there) in
      let side = begun_half from (Some message_now) state in
      let others = begun_rest from (Some message_now) state in
      record {
        made = made_with (Some message_now) next (with_sent_is (Some message_there));
        phase = others.0 ∙ popped.phase;
        messages = others.1 ∙ (popped.messages ∙ sym (with_messages_are (Some message_there)));
        records = with_records_are (Some message_there);
        moment = others.3 ∙ with_moment_is (Some message_there);
        queued = queued_at next two (record behind_half { begun = Some message_there }) next.messages (with_half_is (Some message_there)) refl refl
            (ap (λ n. standing (record behind_half { begun = Some message_there }) n) (with_messages_are (Some message_there)) ∙ fragment_stands plain not_last)
            (ap (λ (h : HalfState). h.reader) side) (ap (λ (h : HalfState). h.fault) side) (ap (λ (h : HalfState). h.queue.items) side)
            (ap (λ (h : HalfState). h.begun) side ∙ ap (λ (m : Message). Some m) message_is);
        beside = beside_same from at next seen seen state two (with_other_is (Some message_there)) refl
            (begun_beside from (Some message_now) state) others.2 popped.beside;
      }

  abbrev ended_message : At
  ended_message = with_it None

  abbrev without_it : WsLayer
  without_it = with_begun from None state

  last_stands : is_control frame.opcode ≡ false → frame.fin ≡ true →
      standing (record behind_half { begun = None }) (at.messages + 1) ≡ behind (standing (half_of from at) at.messages) frame
  last_stands plain last =
      ap (λ n. record { begun = None; left = n; judged = false }) (one_fewer at.messages)
      ∙ sym (behind_last (standing (half_of from at) at.messages) frame plain last)

  holds_it : is_control frame.opcode ≡ false → frame.fin ≡ true → IsHolding terms from message_there ended_message seen (asking from message_now without_it)
  holds_it plain last =
      let two = asking from message_now without_it in
      let others = begun_rest from None state in
      let made = made_with None ended_message (with_sent_is None) in
      let side = asking_half from from message_now without_it ∙ begun_half from None state in
      let messages : without_it.messages ≡ ended_message.messages = others.1 ∙ (popped.messages ∙ sym (with_messages_are None)) in
      record {
        made = record { flow = made.flow; server = made.server; keys = made.keys; closed = made.closed; shut = made.shut };
        phase = ap₂ (λ (n : ℕ) (m : Message). phases.Holding (record { from = from; number = n; moment = without_it.moment; message = m })) messages message_is
            ∙ ap (λ (n : ℕ). phases.Holding (record { from = from; number = ended_message.messages; moment = n; message = message_there })) (others.3 ∙ with_moment_is None);
        messages = ap (λ n. n + 1) messages;
        queued = queued_at ended_message two (record behind_half { begun = None }) (ended_message.messages + 1) (with_half_is None) refl refl
            (ap (λ n. standing (record behind_half { begun = None }) (n + 1)) (with_messages_are None) ∙ last_stands plain last)
            (ap (λ (h : HalfState). h.reader) side) (ap (λ (h : HalfState). h.fault) side) (ap (λ (h : HalfState). h.queue.items) side)
            (ap (λ (h : HalfState). h.begun) side);
        beside = beside_same from at ended_message seen seen state two (with_other_is None) refl
            (asking_half (other from) from message_now without_it ∙ begun_beside from None state) others.2 popped.beside;
      }

  holds_follows : is_control frame.opcode ≡ false → frame.fin ≡ true →
      Leads terms (record { owed = []; stage = holding from message_there ended_message }) seen (asking from message_now without_it) (asked_of from message_now without_it)
  holds_follows plain last =
      let others = begun_rest from None state in
      let made = begun_made from None terms at.sent seen state popped.made in
      let messages : without_it.messages ≡ ended_message.messages = others.1 ∙ (popped.messages ∙ sym (with_messages_are None)) in
      let same : terms_at terms ended_message ≡ terms = same_terms terms ended_message.records (with_records_are None) in
      record {
        gives = ap₂ (λ (f : Flow) (n : ℕ). commands.Ask (asks.Hook f.id.index (hooks.WsMessage n)) (with_message f from message_now) ∷ []) made.flow messages
            ∙ (ap (λ (m : Message). commands.Ask (asks.Hook terms.flow.id.index (hooks.WsMessage ended_message.messages)) (with_message terms.flow from m) ∷ []) message_is
            ∙ ap (λ (t : Terms). commands.Ask (asks.Hook terms.flow.id.index (hooks.WsMessage ended_message.messages)) (with_message t.flow from message_there) ∷ []) (sym same));
        is_in = subst (λ (t : Terms). IsHolding t from message_there ended_message seen (asking from message_now without_it)) (sym same) (holds_it plain last);
      }

  failed_follows : (failure : Failure) →
      Follows terms from seen (ended without_it.rests (failed_of from without_it failure)) (stops (fails terms seen from ended_message.sent failure))
  failed_follows failure = (
    close_same terms at.sent seen without_it from (failure_payload failure) (begun_made from None terms at.sent seen state popped.made)
        ∙ ap (λ n. (fails terms seen from n failure).owed) (sym (with_sent_is None)),
    refl,
  )

  message_follows : is_control frame.opcode ≡ false → frame.fin ≡ true →
      Follows terms from seen (did_message from without_it message_now) (message_course terms seen from ended_message message_there)
  message_follows plain last =
      let others = begun_rest from None state in
      let messages : without_it.messages ≡ ended_message.messages = others.1 ∙ (popped.messages ∙ sym (with_messages_are None)) in
      follows_if terms from seen (is_bad_text message_now.text message_now.payload) (is_bad_text message_there.text message_there.payload)
      (ended without_it.rests (failed_of from without_it NotText))
      (if nat_lt without_it.messages most_whole then holds (asking from message_now without_it) (asked_of from message_now without_it)
      else ended without_it.rests (failed_of from without_it (BadFrame TooBig)))
      (stops (fails terms seen from ended_message.sent NotText))
      (if nat_lt ended_message.messages most_whole then stops (record { owed = []; stage = holding from message_there ended_message })
      else stops (fails terms seen from ended_message.sent (BadFrame TooBig)))
      (ap (λ (m : Message). is_bad_text m.text m.payload) message_is)
      (λ bad. failed_follows NotText)
      (λ good. follows_if terms from seen (nat_lt without_it.messages most_whole) (nat_lt ended_message.messages most_whole)
      (holds (asking from message_now without_it) (asked_of from message_now without_it)) (ended without_it.rests (failed_of from without_it (BadFrame TooBig)))
      (stops (record { owed = []; stage = holding from message_there ended_message })) (stops (fails terms seen from ended_message.sent (BadFrame TooBig)))
      (ap (λ n. nat_lt n most_whole) messages)
      (λ few. holds_follows plain last) (λ many. failed_follows (BadFrame TooBig)))

  data_follows : is_control frame.opcode ≡ false → Follows terms from seen (did_data from state frame) (data_course terms seen from behind_it frame)
  data_follows plain =
      follows_if terms from seen frame.fin frame.fin (did_message from without_it message_now) (goes (with_begun from (Some message_now) state) [])
      (message_course terms seen from ended_message message_there) (goes_on [] (with_it (Some message_there))) refl
      (λ last. message_follows plain last) (λ not_last. (refl, fragment_works plain not_last))

  pub frame_follows : Follows terms from seen (did_frame from state frame) (frame_course terms seen from behind_it frame)
  frame_follows =
      follows_if terms from seen (is_control frame.opcode) (is_control frame.opcode) (did_control from state frame) (did_data from state frame)
      (control_course terms seen from behind_it frame) (data_course terms seen from behind_it frame) refl control_follows data_follows
