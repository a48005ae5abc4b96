-- What working frames off leaves as it was, and how much there is left to be asked about.
use Rattle.std.proofs.Common.{◌≡◌, ◌∙◌, ◌+◌, ◌≤◌, ◌==◌, nat_lt, if◌then◌else◌, Bool, true, false, List, [], ◌∷◌, length, All, Option, Some, None, refl, sym, ap, subst, arith}
use Rattle.std.proofs.lemmas.List.Elements.{All-head, All-tail}
use Rattle.px_event.specs.declared.command.Command.{Command}
use Rattle.px_frame.specs.declared.fault.FrameFault.TheVariants.{TooBig}
use Rattle.px_frame.specs.declared.frame.Frame.{Frame}
use Rattle.px_frame.specs.Head.{is_control}
use Rattle.px_relay.specs.declared.failure.Failure.TheVariants.{BadFrame, NotText}
use Rattle.px_relay.specs.declared.layer.WsLayer.{WsLayer}
use Rattle.px_relay.specs.declared.peer.Peer.{Peer}
use Rattle.px_relay.specs.declared.peer.Peer.TheVariants.{Client, Server}
use Rattle.px_relay.specs.declared.phase.Phase.TheVariants as phases
use Rattle.px_relay.specs.Calls.{AllWritable, Did, IsWritable, PopsFrom, StaysBeside, WorksBy, asked_of, asking, close_of, did_control, did_data, did_frame, did_message, ended, failed_of, goes, half_in, holds, keys_behind, sent_by, with_begun, with_half_in, with_keys}
use Rattle.px_relay.specs.Chain.{most_whole}
use Rattle.px_relay.specs.Kept.{half_size, left_in, size, ws_left}
use Rattle.px_relay.specs.Messages.{Message, gathered, is_bad_text}
use Rattle.px_relay.specs.Peers.{other}
use Rattle.px_relay.proofs.DrainLemmas.{keeps_others}

-- ---- one frame

pub record GoesKeeps (from : Peer) (before state : WsLayer) : Type 0 where
  pub phase : state.phase ≡ before.phase
  pub rests : state.rests ≡ before.rests
  pub beside : half_in (other from) state ≡ half_in (other from) before
  pub pending : state.pending ≡ before.pending
  pub size : size state ≡ size before
  pub queue : (half_in from state).queue.items ≡ (half_in from before).queue.items

pub record HoldsKeeps (before state : WsLayer) : Type 0 where
  pub rests : state.rests ≡ before.rests
  pub left : ws_left state ≡ size before + 1

abbrev pub DidKeeps : Peer → WsLayer → Did → Type 0
DidKeeps from before (goes state owed) = GoesKeeps from before state
DidKeeps from before (holds state owed) = HoldsKeeps before state
DidKeeps from before (ended rests owed) = rests ≡ before.rests

keeps_if : (from : Peer) (before : WsLayer) (b : Bool) (one two : Did) → DidKeeps from before one → DidKeeps from before two →
    DidKeeps from before (if b then one else two)
keeps_if from before true one two p q = p
keeps_if from before false one two p q = q

begun_keeps : (from : Peer) (begun : Option Message) (state : WsLayer) → GoesKeeps from state (with_begun from begun state)
begun_keeps Client begun state = record { phase = refl; rests = refl; beside = refl; pending = refl; size = refl; queue = refl }
begun_keeps Server begun state = record { phase = refl; rests = refl; beside = refl; pending = refl; size = refl; queue = refl }

sent_keeps : (from : Peer) (state : WsLayer) → GoesKeeps from state (record state { sender = with_keys state.sender (keys_behind (other from) state.sender.keys) })
sent_keeps Client state = record { phase = refl; rests = refl; beside = refl; pending = refl; size = refl; queue = refl }
sent_keeps Server state = record { phase = refl; rests = refl; beside = refl; pending = refl; size = refl; queue = refl }

message_keeps : (from : Peer) (before state : WsLayer) (message : Message) → state.rests ≡ before.rests → size state ≡ size before →
    DidKeeps from before (did_message from state message)
message_keeps from before state message rests same =
    keeps_if from before (is_bad_text message.text message.payload) (ended state.rests (failed_of from state NotText)) _ rests
    (keeps_if from before (nat_lt state.messages most_whole) (holds (asking from message state) (asked_of from message state))
    (ended state.rests (failed_of from state (BadFrame TooBig))) (record { rests = rests; left = ap (λ n. n + 1) same }) rests)

did_keeps : (from : Peer) (before : WsLayer) (frame : Frame) → DidKeeps from before (did_frame from before frame)
did_keeps from before frame =
    let message = gathered (half_in from before).begun frame in
    let without = begun_keeps from None before in
    keeps_if from before (is_control frame.opcode) (did_control from before frame) (did_data from before frame)
    (keeps_if from before (frame.opcode == 8) (ended before.rests (close_of from before frame.payload))
    (goes (record before { sender = with_keys before.sender (keys_behind (other from) before.sender.keys) }) (sent_by before.sender (other from) (frame ∷ [])))
    refl (sent_keeps from before))
    (keeps_if from before frame.fin (did_message from (with_begun from None before) message) (goes (with_begun from (Some message) before) [])
    (message_keeps from before (with_begun from None before) message without.rests without.size) (begun_keeps from (Some message) before))

-- ---- a frame taken from the queue

size_popped : (from : Peer) (before after : WsLayer) → after ≡ with_half_in from (half_in from after) before →
    half_size (half_in from after) + 1 ≡ half_size (half_in from before) → size after + 1 ≡ size before
size_popped Client before after is counts = let s : size after ≡ size (with_half_in Client after.client before) = ap size is in omega arith
size_popped Server before after is counts = let s : size after ≡ size (with_half_in Server after.server before) = ap size is in omega arith

pub popped_size : (from : Peer) (before after : WsLayer) (frame : Frame) → PopsFrom from before after (Some frame) → size after + 1 ≡ size before
popped_size from before after frame pops =
    size_popped from before after pops.rest
    (let q = ap length pops.pops.queue in let r = ap (λ r. length r.rest) pops.pops.reader in omega arith)

size_none : (from : Peer) (before after : WsLayer) → after ≡ with_half_in from (half_in from after) before →
    half_size (half_in from after) ≡ half_size (half_in from before) → size after ≡ size before
size_none Client before after is counts = let s : size after ≡ size (with_half_in Client after.client before) = ap size is in omega arith
size_none Server before after is counts = let s : size after ≡ size (with_half_in Server after.server before) = ap size is in omega arith

none_size : (from : Peer) (before after : WsLayer) → PopsFrom from before after None → size after ≡ size before
none_size from before after pops =
    size_none from before after pops.rest
    (let p = ap length pops.pops.queue.0 in let q = ap length pops.pops.queue.1 in let r = ap (λ r. length r.rest) pops.pops.reader in omega arith)

-- ---- turn by turn

pub record SoFar (from : Peer) (initial now : WsLayer) : Type 0 where
  pub phase : now.phase ≡ phases.Relaying
  pub rests : now.rests ≡ initial.rests
  pub beside : half_in (other from) now ≡ half_in (other from) initial
  pub pending : now.pending ≡ initial.pending
  pub few : size now ≤ size initial
  pub writable : AllWritable (half_in from now)

pub so_far_first : (from : Peer) (state : WsLayer) → state.phase ≡ phases.Relaying → AllWritable (half_in from state) → SoFar from state state
so_far_first from state phase writable =
    record { phase = phase; rests = refl; beside = refl; pending = refl; few = omega arith; writable = writable }

pub popped_writable : (from : Peer) (before after : WsLayer) (frame : Frame) → AllWritable (half_in from before) → PopsFrom from before after (Some frame) →
    IsWritable frame
popped_writable from before after frame writable pops =
    All-head IsWritable frame (half_in from after).queue.items (subst (All IsWritable) pops.pops.queue writable)

goes_keeps : (from : Peer) (before after : WsLayer) (did : Did) (out longer : List Command) → DidKeeps from before did → WorksBy did true after out longer →
    GoesKeeps from before after
goes_keeps from before after (goes state owed) out longer keeps (result, same, grown) = subst (GoesKeeps from before) (sym same) keeps
goes_keeps from before after (holds state owed) out longer keeps (result, same, grown) = absurd (let n : true ≡ false = result in cc)
goes_keeps from before after (ended rests owed) out longer keeps (result, over_there, kept, grown) = absurd (let n : true ≡ false = result in cc)

pub so_far_goes : (from : Peer) (initial before mid after : WsLayer) (frame : Frame) (out longer : List Command) → SoFar from initial before →
    PopsFrom from before mid (Some frame) → WorksBy (did_frame from mid frame) true after out longer → SoFar from initial after
so_far_goes from initial before mid after frame out longer so pops works =
    let others = keeps_others from (half_in from mid) before mid pops.rest in
    let keeps = goes_keeps from mid after (did_frame from mid frame) out longer (did_keeps from mid frame) works in
    record {
      phase = keeps.phase ∙ (others.phase ∙ so.phase);
      rests = keeps.rests ∙ (others.rests ∙ so.rests);
      beside = keeps.beside ∙ (others.beside ∙ so.beside);
      pending = keeps.pending ∙ (others.pending ∙ so.pending);
      few = let p = popped_size from before mid frame pops in let s = keeps.size in let f = so.few in omega arith;
      writable = subst (All IsWritable) (sym keeps.queue)
          (All-tail IsWritable frame (half_in from mid).queue.items (subst (All IsWritable) pops.pops.queue so.writable));
    }

-- where it stops
pub record Stopped (initial after : WsLayer) : Type 0 where
  pub rests : after.rests ≡ initial.rests
  pub left : ws_left after ≤ size initial

over_left : (state : WsLayer) → state.phase ≡ phases.Over → ws_left state ≡ 0
over_left state is = ap (λ p. left_in p (size state)) is

stops_keeps : (from : Peer) (before after : WsLayer) (did : Did) (out longer : List Command) → DidKeeps from before did → WorksBy did false after out longer →
    (after.rests ≡ before.rests) × (ws_left after ≤ size before + 1)
stops_keeps from before after (goes state owed) out longer keeps (result, same, grown) = absurd (let n : false ≡ true = result in cc)
stops_keeps from before after (holds state owed) out longer keeps (result, same, grown) =
    (ap (λ (s : WsLayer). s.rests) same ∙ keeps.rests, let l = ap ws_left same ∙ keeps.left in omega arith)
stops_keeps from before after (ended rests owed) out longer keeps (result, over_there, kept, grown) =
    (kept ∙ keeps, let l = over_left after over_there in omega arith)

pub so_far_stops : (from : Peer) (initial before mid after : WsLayer) (frame : Frame) (out longer : List Command) → SoFar from initial before →
    PopsFrom from before mid (Some frame) → WorksBy (did_frame from mid frame) false after out longer → Stopped initial after
so_far_stops from initial before mid after frame out longer so pops works =
    let others = keeps_others from (half_in from mid) before mid pops.rest in
    let stops = stops_keeps from mid after (did_frame from mid frame) out longer (did_keeps from mid frame) works in
    record {
      rests = stops.0 ∙ (others.rests ∙ so.rests);
      left = let p = popped_size from before mid frame pops in let s = stops.1 in let f = so.few in omega arith;
    }

-- where no frame waits any more
pub so_far_none : (from : Peer) (initial before now : WsLayer) → SoFar from initial before → PopsFrom from before now None → SoFar from initial now
so_far_none from initial before now so pops =
    let others = keeps_others from (half_in from now) before now pops.rest in
    record {
      phase = others.phase ∙ so.phase;
      rests = others.rests ∙ so.rests;
      beside = others.beside ∙ so.beside;
      pending = others.pending ∙ so.pending;
      few = let s = none_size from before now pops in let f = so.few in omega arith;
      writable = subst (All IsWritable) (sym pops.pops.queue.1) (λ k d less. absurd (omega arith));
    }

pub stays_beside : (from : Peer) (initial now : WsLayer) → SoFar from initial now → StaysBeside true from initial now
stays_beside from initial now so = (so.phase, so.beside, so.pending)

relaying_left : (state : WsLayer) → state.phase ≡ phases.Relaying → ws_left state ≡ size state
relaying_left state is = ap (λ p. left_in p (size state)) is

pub so_far_left : (from : Peer) (initial now : WsLayer) → initial.phase ≡ phases.Relaying → SoFar from initial now → ws_left now ≤ ws_left initial
so_far_left from initial now phase so =
    let a = relaying_left now so.phase in let b = relaying_left initial phase in let f = so.few in omega arith

pub stopped_left : (initial after : WsLayer) → initial.phase ≡ phases.Relaying → Stopped initial after → ws_left after ≤ ws_left initial
stopped_left initial after phase stopped = let b = relaying_left initial phase in let l = stopped.left in omega arith

pub over_stopped : (from : Peer) (initial now after : WsLayer) → SoFar from initial now → after.phase ≡ phases.Over → after.rests ≡ now.rests → Stopped initial after
over_stopped from initial now after so over_there rests =
    record { rests = rests ∙ so.rests; left = let l = over_left after over_there in omega arith }
