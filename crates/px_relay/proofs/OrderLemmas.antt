-- The frames of a side, by the chain alone: those that complete nothing are passed, and the last of a message stops it.
use Rattle.std.proofs.Common.{◌≡◌, ◌∙◌, ℕ, zero, suc, ◌+◌, ◌-◌, ◌<◌, ◌==◌, nat_lt, if◌then◌else◌, Bool, true, false, List, [], ◌∷◌, ◌++◌, append-nil, length, drop, Option, Some, None, refl, sym, ap, ap₂, subst, arith}
use Rattle.std.proofs.lemmas.Bool.{lt-ltb}
use Rattle.px_message.specs.declared.messages.WsRecord.{WsRecord}
use Rattle.px_event.specs.declared.command.Command.{Command}
use Rattle.px_event.specs.Chain.{Turn}
use Rattle.px_frame.specs.declared.fault.FrameFault.TheVariants.{TooBig}
use Rattle.px_frame.specs.declared.frame.Frame.{Frame}
use Rattle.px_frame.specs.declared.frame.Standing.{Standing}
use Rattle.px_frame.specs.Frames.{Ending, Front, IsFrames, behind, nothing, refused, stands}
use Rattle.px_frame.specs.Head.{is_control}
use Rattle.px_relay.specs.declared.failure.Failure.TheVariants.{BadFrame, NotText}
use Rattle.px_relay.specs.declared.peer.Peer.{Peer}
use Rattle.px_relay.specs.declared.peer.Peer.TheVariants.{Client, Server}
use Rattle.px_relay.specs.Chain.{Course, behind_course, closes_with, control_course, data_course, drain, drain_within, fails, frame_course, front_course, goes_on, message_course, most_whole, past, stops, unread}
use Rattle.px_relay.specs.Fronts.{rest_of_all}
use Rattle.px_relay.specs.Messages.{Message, gathered, is_bad_text}
use Rattle.px_relay.specs.Order.{KeepsOrder, NoneStops, PassesThem, StandThere, controls_in, data_in, gathered_all, sent_each, stops_at}
use Rattle.px_relay.specs.Peers.{is_client, other}
use Rattle.px_relay.specs.Sending.{Terms, counted, send_to, sent_behind}
use Rattle.px_relay.specs.Sights.{Sight, bytes_of}
use Rattle.px_relay.specs.Stages.{At, Half, Stage, half_of, holding, most_messages, next_in, standing, with_half}
use Rattle.px_relay.specs.Stands.{onward_with}
use Rattle.px_relay.proofs.DrainLemmas.{one_frame, shorter, with_more}
use Rattle.px_relay.proofs.HalfLemmas.{first_of}
use Rattle.px_relay.proofs.WorkLemmas.{behind_control, behind_fragment, behind_last, gathered_long, one_fewer}

-- ---- enough turns are enough

course_same : (course : Course) (f g : At → Turn Stage Command) → ((owed : List Command) (next : At) → course ≡ goes_on owed next → f next ≡ g next) →
    behind_course f course ≡ behind_course g course
course_same (goes_on owed next) f g same = ap (λ (t : Turn Stage Command). record { owed = owed ++ t.owed; stage = t.stage }) (same owed next refl)
course_same (stops turn) f g same = refl

module _ (terms : Terms) (seen : Sight) (from : Peer) (onward : At → Turn Stage Command) where
  front_same : (front : Front) (at : At) (f g : At → Turn Stage Command) → next_in from at seen ≡ front →
      ((next : At) → length (unread from seen next) < length (unread from seen at) → f next ≡ g next) →
      front_course terms seen from f onward at front ≡ front_course terms seen from g onward at front
  front_same nothing at f g is same = refl
  front_same (refused fault) at f g is same = refl
  front_same (stands frame rest) at f g is same =
      course_same (frame_course terms seen from (past from seen rest at) frame) f g
      (λ owed next course. same next (shorter terms from seen at frame rest owed next is course))

  enough : (a b : ℕ) (at : At) → length (unread from seen at) < a → length (unread from seen at) < b →
      drain_within terms seen from a onward at ≡ drain_within terms seen from b onward at
  enough zero b at p q = absurd (omega arith)
  enough (suc a) zero at p q = absurd (omega arith)
  enough (suc a) (suc b) at p q =
      front_same (next_in from at seen) at (drain_within terms seen from a onward) (drain_within terms seen from b onward) refl
      (λ next less. enough a b next (omega arith) (omega arith))

  -- a frame that is passed
  one_passed : (at next : At) (frame : Frame) (more : List ℕ) (owed : List Command) → next_in from at seen ≡ stands frame more →
      frame_course terms seen from (past from seen more at) frame ≡ goes_on owed next →
      drain terms seen from onward at ≡ onward_with owed (drain terms seen from onward next)
  one_passed at next frame more owed there course =
      let less = shorter terms from seen at frame more owed next there course in
      one_frame terms from seen onward (length (unread from seen at)) at frame more there
      ∙ (ap (λ (c : Course). behind_course (drain_within terms seen from (length (unread from seen at)) onward) c) course
      ∙ ap (λ (t : Turn Stage Command). onward_with owed t)
      (enough (length (unread from seen at)) (suc (length (unread from seen next))) next less (omega arith)))

  -- a frame that stops it
  one_stopped : (at : At) (frame : Frame) (more : List ℕ) (turn : Turn Stage Command) → next_in from at seen ≡ stands frame more →
      frame_course terms seen from (past from seen more at) frame ≡ stops turn → drain terms seen from onward at ≡ turn
  one_stopped at frame more turn there course =
      one_frame terms from seen onward (length (unread from seen at)) at frame more there
      ∙ ap (λ (c : Course). behind_course (drain_within terms seen from (length (unread from seen at)) onward) c) course

-- ---- the place behind a frame

-- of a side's message so much has come there, and so many frames were sent to the server
record IsPlace (from : Peer) (seen : Sight) (more : List ℕ) (at : At) (begun : Option Message) (count : ℕ) (next : At) : Type 0 where
  half : half_of from next ≡ record { used = length (bytes_of from seen) - length more; judged = false; begun = begun }
  beside : half_of (other from) next ≡ half_of (other from) at
  messages : next.messages ≡ at.messages
  sent : next.sent ≡ count

abbrev sent_next : Peer → Sight → List ℕ → At → At
sent_next from seen more at = let p = past from seen more at in record p { sent = counted (other from) p.sent }

abbrev begun_next : Peer → Sight → List ℕ → At → Option Message → At
begun_next from seen more at begun = let p = past from seen more at in with_half from (record (half_of from p) { begun = begun }) p

sent_place : (from : Peer) (seen : Sight) (more : List ℕ) (at : At) →
    IsPlace from seen more at (half_of from at).begun (counted (other from) at.sent) (sent_next from seen more at)
sent_place Client seen more at = record { half = refl; beside = refl; messages = refl; sent = refl }
sent_place Server seen more at = record { half = refl; beside = refl; messages = refl; sent = refl }

begun_place : (from : Peer) (seen : Sight) (more : List ℕ) (at : At) (begun : Option Message) →
    IsPlace from seen more at begun at.sent (begun_next from seen more at begun)
begun_place Client seen more at begun = record { half = refl; beside = refl; messages = refl; sent = refl }
begun_place Server seen more at begun = record { half = refl; beside = refl; messages = refl; sent = refl }

past_sent : (from : Peer) (seen : Sight) (more : List ℕ) (at : At) → (past from seen more at).sent ≡ at.sent
past_sent Client seen more at = refl
past_sent Server seen more at = refl

past_messages : (from : Peer) (seen : Sight) (more : List ℕ) (at : At) → (past from seen more at).messages ≡ at.messages
past_messages Client seen more at = refl
past_messages Server seen more at = refl

past_begun : (from : Peer) (seen : Sight) (more : List ℕ) (at : At) → (half_of from (past from seen more at)).begun ≡ (half_of from at).begun
past_begun Client seen more at = refl
past_begun Server seen more at = refl

-- the frames behind it stand there
there_later : (from : Peer) (seen : Sight) (more : List ℕ) (at next : At) (begun : Option Message) (sent messages : ℕ) (frame : Frame) (frames : List Frame) (end : Ending) →
    IsPlace from seen more at begun sent next → next_in from at seen ≡ stands frame more →
    standing (record { used = length (bytes_of from seen) - length more; judged = false; begun = begun }) messages ≡ behind (standing (half_of from at) at.messages) frame →
    IsFrames (is_client from) (behind (standing (half_of from at) at.messages) frame) more frames end → StandThere from seen next messages frames end
there_later from seen more at next begun sent messages frame frames end place there same is =
    let all = rest_of_all (is_client from) _ (half_of from at).used (bytes_of from seen) frame more there in
    let rest : unread from seen next ≡ more = ap (λ (h : Half). drop h.used (bytes_of from seen)) place.half ∙ all.0 in
    let at_it : standing (half_of from next) messages ≡ behind (standing (half_of from at) at.messages) frame =
    ap (λ (h : Half). standing h messages) place.half ∙ same in
    subst (λ (s : Standing). IsFrames (is_client from) s (unread from seen next) frames end) (sym at_it)
    (subst (λ (b : List ℕ). IsFrames (is_client from) (behind (standing (half_of from at) at.messages) frame) b frames end) (sym rest) is)

-- and behind the answer to a message, whatever was sent for it
later_stands : (from : Peer) (seen : Sight) (at : At) (records : List WsRecord) (sent : ℕ) (since : Option ℕ) (frames : List Frame) (end : Ending) →
    StandThere from seen at (at.messages + 1) frames end →
    StandThere from seen (record at { messages = at.messages + 1; records = records; sent = sent; since = since }) (at.messages + 1) frames end
later_stands Client seen at records sent since frames end is = is
later_stands Server seen at records sent since frames end is = is

-- ---- which course a frame takes

no_close : (frame : Frame) → is_control frame.opcode ≡ true → stops_at frame ≡ false → (frame.opcode == 8) ≡ false
no_close frame is passes = sym (ap (λ b. if b then frame.opcode == 8 else frame.fin) is) ∙ passes

no_fin : (frame : Frame) → is_control frame.opcode ≡ false → stops_at frame ≡ false → frame.fin ≡ false
no_fin frame is passes = sym (ap (λ b. if b then frame.opcode == 8 else frame.fin) is) ∙ passes

control_passes : (terms : Terms) (seen : Sight) (from : Peer) (at : At) (frame : Frame) → is_control frame.opcode ≡ true → (frame.opcode == 8) ≡ false →
    frame_course terms seen from at frame ≡ goes_on (send_to terms (other from) at.sent (frame ∷ [])) (record at { sent = counted (other from) at.sent })
control_passes terms seen from at frame is plain =
    ap (λ b. if b then control_course terms seen from at frame else data_course terms seen from at frame) is
    ∙ ap (λ b. if b then stops (closes_with terms seen from at.sent frame.payload)
    else goes_on (send_to terms (other from) at.sent (frame ∷ [])) (record at { sent = counted (other from) at.sent })) plain

fragment_passes : (terms : Terms) (seen : Sight) (from : Peer) (at : At) (frame : Frame) → is_control frame.opcode ≡ false → frame.fin ≡ false →
    frame_course terms seen from at frame
    ≡ goes_on [] (with_half from (record (half_of from at) { begun = Some (gathered (half_of from at).begun frame) }) at)
fragment_passes terms seen from at frame is more =
    let message = gathered (half_of from at).begun frame in
    ap (λ b. if b then control_course terms seen from at frame else data_course terms seen from at frame) is
    ∙ ap (λ b. if b then message_course terms seen from (with_half from (record (half_of from at) { begun = None }) at) message
    else goes_on [] (with_half from (record (half_of from at) { begun = Some message }) at)) more

last_stops : (terms : Terms) (seen : Sight) (from : Peer) (at : At) (frame : Frame) (message : Message) → is_control frame.opcode ≡ false → frame.fin ≡ true →
    gathered (half_of from at).begun frame ≡ message → is_bad_text message.text message.payload ≡ false → nat_lt at.messages most_whole ≡ true →
    frame_course terms seen from at frame ≡ stops (record { owed = []; stage = holding from message (with_half from (record (half_of from at) { begun = None }) at) })
last_stops terms seen Client at frame message is last gathers good few =
    ap (λ b. if b then control_course terms seen Client at frame else data_course terms seen Client at frame) is
    ∙ (ap (λ b. if b then message_course terms seen Client (with_half Client (record at.client { begun = None }) at) (gathered at.client.begun frame)
    else goes_on [] (with_half Client (record at.client { begun = Some (gathered at.client.begun frame) }) at)) last
    ∙ (ap (λ (m : Message). message_course terms seen Client (with_half Client (record at.client { begun = None }) at) m) gathers
    ∙ (ap (λ b. if b then stops (fails terms seen Client at.sent NotText)
    else (if nat_lt at.messages most_whole then stops (record { owed = []; stage = holding Client message (with_half Client (record at.client { begun = None }) at) })
    else stops (fails terms seen Client at.sent (BadFrame TooBig)))) good
    ∙ ap (λ b. if b then stops (record { owed = []; stage = holding Client message (with_half Client (record at.client { begun = None }) at) })
    else stops (fails terms seen Client at.sent (BadFrame TooBig))) few)))
last_stops terms seen Server at frame message is last gathers good few =
    ap (λ b. if b then control_course terms seen Server at frame else data_course terms seen Server at frame) is
    ∙ (ap (λ b. if b then message_course terms seen Server (with_half Server (record at.server { begun = None }) at) (gathered at.server.begun frame)
    else goes_on [] (with_half Server (record at.server { begun = Some (gathered at.server.begun frame) }) at)) last
    ∙ (ap (λ (m : Message). message_course terms seen Server (with_half Server (record at.server { begun = None }) at) m) gathers
    ∙ (ap (λ b. if b then stops (fails terms seen Server at.sent NotText)
    else (if nat_lt at.messages most_whole then stops (record { owed = []; stage = holding Server message (with_half Server (record at.server { begun = None }) at) })
    else stops (fails terms seen Server at.sent (BadFrame TooBig)))) good
    ∙ ap (λ b. if b then stops (record { owed = []; stage = holding Server message (with_half Server (record at.server { begun = None }) at) })
    else stops (fails terms seen Server at.sent (BadFrame TooBig))) few)))

-- ---- where the next frame stands behind it

control_stands : (half : Half) (used messages : ℕ) (frame : Frame) → is_control frame.opcode ≡ true →
    standing (record { used = used; judged = false; begun = half.begun }) messages ≡ behind (standing half messages) frame
control_stands half used messages frame is = sym (behind_control (standing half messages) frame is)

fragment_stands : (half : Half) (used messages : ℕ) (frame : Frame) → is_control frame.opcode ≡ false → frame.fin ≡ false →
    standing (record { used = used; judged = false; begun = Some (gathered half.begun frame) }) messages ≡ behind (standing half messages) frame
fragment_stands half used messages frame is more =
    ap (λ n. record { begun = Some n; left = most_messages - messages; judged = false }) (gathered_long half.begun frame)
    ∙ sym (behind_fragment (standing half messages) frame is more)

last_stands : (half : Half) (used messages : ℕ) (frame : Frame) → is_control frame.opcode ≡ false → frame.fin ≡ true →
    standing (record { used = used; judged = false; begun = None }) (messages + 1) ≡ behind (standing half messages) frame
last_stands half used messages frame is last =
    ap (λ n. record { begun = None; left = n; judged = false }) (one_fewer messages) ∙ sym (behind_last (standing half messages) frame is last)

-- ---- frames that complete nothing

module _ (terms : Terms) (seen : Sight) (from : Peer) (onward : At → Turn Stage Command) where
  -- the first of them
  passes_one : (c : Bool) (at : At) (frame : Frame) (frames later : List Frame) (end : Ending) (more : List ℕ) → is_control frame.opcode ≡ c → stops_at frame ≡ false →
      next_in from at seen ≡ stands frame more → IsFrames (is_client from) (behind (standing (half_of from at) at.messages) frame) more (frames ++ later) end →
      ((next : At) → StandThere from seen next next.messages (frames ++ later) end → PassesThem terms seen from onward next frames later end) →
      PassesThem terms seen from onward at (frame ∷ frames) later end
  passes_one true at frame frames later end more is quiet there behind_it again =
      let next = sent_next from seen more at in
      let place = sent_place from seen more at in
      let stands_on : StandThere from seen next next.messages (frames ++ later) end =
      subst (λ n. StandThere from seen next n (frames ++ later) end) (sym place.messages)
      (there_later from seen more at next (half_of from at).begun (counted (other from) at.sent) at.messages frame (frames ++ later) end place there
      (control_stands (half_of from at) (length (bytes_of from seen) - length more) at.messages frame is) behind_it) in
      let p = again next stands_on in
      let said = send_to terms (other from) (past from seen more at).sent (frame ∷ []) in
      let controls : controls_in (frame ∷ frames) ≡ frame ∷ controls_in frames =
      ap (λ b. if b then frame ∷ controls_in frames else controls_in frames) is in
      let owes : said ++ sent_each terms (other from) next.sent (controls_in frames) ≡ sent_each terms (other from) at.sent (controls_in (frame ∷ frames)) =
      ap₂ (λ m n. send_to terms (other from) m (frame ∷ []) ++ sent_each terms (other from) n (controls_in frames)) (past_sent from seen more at) place.sent
      ∙ ap (λ (l : List Frame). sent_each terms (other from) at.sent l) (sym controls) in
      record {
        next = p.next;
        is = one_passed terms seen from onward at next frame more said there (control_passes terms seen from (past from seen more at) frame is (no_close frame is quiet))
            ∙ (ap (λ (t : Turn Stage Command). onward_with said t) p.is
            ∙ (with_more said (sent_each terms (other from) next.sent (controls_in frames)) (drain terms seen from onward p.next)
            ∙ ap (λ (l : List Command). onward_with l (drain terms seen from onward p.next)) owes));
        waits = p.waits;
        begun = p.begun ∙ ap₂ (λ (b : Option Message) (l : List Frame). gathered_all b l) (ap (λ (h : Half). h.begun) place.half)
            (sym (ap (λ b. if b then data_in frames else frame ∷ data_in frames) is));
        beside = p.beside ∙ place.beside;
        messages = p.messages ∙ place.messages;
        sent = p.sent ∙ ap (λ n. sent_behind (other from) n (controls_in frames)) place.sent
            ∙ ap (λ (l : List Frame). sent_behind (other from) at.sent l) (sym controls);
      }
  passes_one false at frame frames later end more is quiet there behind_it again =
      let begun = Some (gathered (half_of from at).begun frame) in
      let past_at = past from seen more at in
      let next = begun_next from seen more at begun in
      let place = begun_place from seen more at begun in
      let stands_on : StandThere from seen next next.messages (frames ++ later) end =
      subst (λ n. StandThere from seen next n (frames ++ later) end) (sym place.messages)
      (there_later from seen more at next begun at.sent at.messages frame (frames ++ later) end place there
      (fragment_stands (half_of from at) (length (bytes_of from seen) - length more) at.messages frame is (no_fin frame is quiet)) behind_it) in
      let p = again next stands_on in
      let controls : controls_in (frame ∷ frames) ≡ controls_in frames =
      ap (λ b. if b then frame ∷ controls_in frames else controls_in frames) is in
      let course : frame_course terms seen from past_at frame ≡ goes_on [] next =
      fragment_passes terms seen from past_at frame is (no_fin frame is quiet)
      ∙ ap (λ (b : Option Message). goes_on [] (with_half from (record (half_of from past_at) { begun = Some (gathered b frame) }) past_at)) (past_begun from seen more at) in
      record {
        next = p.next;
        is = one_passed terms seen from onward at next frame more [] there course
            ∙ (p.is ∙ ap (λ (l : List Command). onward_with l (drain terms seen from onward p.next))
            (ap₂ (λ n (l : List Frame). sent_each terms (other from) n l) place.sent (sym controls)));
        waits = p.waits;
        begun = p.begun ∙ (ap (λ (b : Option Message). gathered_all b (data_in frames)) (ap (λ (h : Half). h.begun) place.half)
            ∙ ap (λ (l : List Frame). gathered_all (half_of from at).begun l) (sym (ap (λ b. if b then data_in frames else frame ∷ data_in frames) is)));
        beside = p.beside ∙ place.beside;
        messages = p.messages ∙ place.messages;
        sent = p.sent ∙ ap₂ (λ n (l : List Frame). sent_behind (other from) n l) place.sent (sym controls);
      }

  pub passes_them : (at : At) (frames later : List Frame) (end : Ending) → StandThere from seen at at.messages (frames ++ later) end → NoneStops frames →
      PassesThem terms seen from onward at frames later end
  passes_them at [] later end there quiet =
      record { next = at; is = refl; waits = there; begun = refl; beside = refl; messages = refl; sent = refl }
  passes_them at (frame ∷ frames) later end there (quiet, others) =
      let first = first_of (is_client from) (standing (half_of from at) at.messages) (unread from seen at) (frame ∷ (frames ++ later)) end frame (frames ++ later) there refl in
      passes_one (is_control frame.opcode) at frame frames later end first.more refl quiet first.there first.later
      (λ next stands_on. passes_them next frames later end stands_on others)

  -- ---- the last frame of a message

  -- it has the message asked about, and what stands behind it waits
  record AsksThere (at : At) (last : Frame) (later : List Frame) (end : Ending) : Type 0 where
    stopped : At
    is : drain terms seen from onward at ≡ record { owed = []; stage = holding from (gathered (half_of from at).begun last) stopped }
    waits : StandThere from seen stopped (stopped.messages + 1) later end

  asks_there : (at : At) (last : Frame) (later : List Frame) (end : Ending) → StandThere from seen at at.messages (last ∷ later) end →
      is_control last.opcode ≡ false → last.fin ≡ true → (let message = gathered (half_of from at).begun last in is_bad_text message.text message.payload ≡ false) →
      at.messages < most_whole → AsksThere at last later end
  asks_there at last later end there is fin good few =
      let first = first_of (is_client from) (standing (half_of from at) at.messages) (unread from seen at) (last ∷ later) end last later there refl in
      let stopped = begun_next from seen first.more at None in
      let place = begun_place from seen first.more at None in
      let message = gathered (half_of from at).begun last in
      let gathers : gathered (half_of from (past from seen first.more at)).begun last ≡ message =
      ap (λ (b : Option Message). gathered b last) (past_begun from seen first.more at) in
      let some : nat_lt (past from seen first.more at).messages most_whole ≡ true =
      ap (λ n. nat_lt n most_whole) (past_messages from seen first.more at) ∙ lt-ltb at.messages most_whole few in
      record {
        stopped = stopped;
        is = one_stopped terms seen from onward at last first.more _ first.there
            (last_stops terms seen from (past from seen first.more at) last message is fin gathers good some);
        waits = subst (λ n. StandThere from seen stopped (n + 1) later end) (sym place.messages)
            (there_later from seen first.more at stopped None at.sent (at.messages + 1) last later end place first.there
            (last_stands (half_of from at) (length (bytes_of from seen) - length first.more) at.messages last is fin) first.later);
      }

  pub keeps_order : (at : At) (frames : List Frame) (last : Frame) (behind later : List Frame) (end : Ending) →
      StandThere from seen at at.messages (frames ++ last ∷ (behind ++ later)) end → NoneStops frames → NoneStops behind →
      is_control last.opcode ≡ false → last.fin ≡ true →
      (let message = gathered (gathered_all (half_of from at).begun (data_in frames)) last in is_bad_text message.text message.payload ≡ false) →
      at.messages < most_whole → KeepsOrder terms seen from onward at frames last behind later end
  keeps_order at frames last behind later end there quiet still is fin good few =
      let p = passes_them at frames (last ∷ (behind ++ later)) end there quiet in
      let good_there : (let message = gathered (half_of from p.next).begun last in is_bad_text message.text message.payload ≡ false) =
      ap (λ (b : Option Message). let message = gathered b last in is_bad_text message.text message.payload) p.begun ∙ good in
      let a = asks_there p.next last (behind ++ later) end p.waits is fin good_there (subst (λ n. n < most_whole) (sym p.messages) few) in
      let said = sent_each terms (other from) at.sent (controls_in frames) in
      record {
        stopped = a.stopped;
        asks = p.is ∙ (ap (λ (t : Turn Stage Command). onward_with said t) a.is
            ∙ ap₂ (λ (l : List Command) (b : Option Message). record { owed = l; stage = holding from (gathered b last) a.stopped }) (append-nil said) p.begun);
        answered = λ records sent since.
            let next : At = record a.stopped { messages = a.stopped.messages + 1; records = records; sent = sent; since = since } in
            passes_them next behind later end (later_stands from seen a.stopped records sent since (behind ++ later) end a.waits) still;
      }
