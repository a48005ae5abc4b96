-- All frames of a side that wait: turn by turn what is done is what the chain owes.
use Rattle.std.proofs.Common.{◌≡◌, ◌∙◌, ℕ, zero, suc, ◌+◌, ◌<◌, true, false, List, [], ◌∷◌, ◌++◌, append_assoc, append-nil, length, drop, Some, None, refl, sym, ap, subst, arith}
use Rattle.px_event.specs.declared.command.Command.{Command}
use Rattle.px_event.specs.Chain.{Turn, found}
use Rattle.px_frame.specs.declared.fault.FrameFault.{FrameFault}
use Rattle.px_frame.specs.declared.frame.Frame.{Frame}
use Rattle.px_frame.specs.Frames.{Ending, Front, IsFrames, behind, behind_all, fault, rest, stands}
use Rattle.px_relay.specs.declared.failure.Failure.TheVariants.{BadFrame}
use Rattle.px_relay.specs.declared.half.Half.{Half as HalfState}
use Rattle.px_relay.specs.declared.layer.WsLayer.{WsLayer}
use Rattle.px_relay.specs.declared.peer.Peer.{Peer}
use Rattle.px_relay.specs.declared.peer.Peer.TheVariants.{Client, Server}
use Rattle.px_relay.specs.declared.phase.Phase.TheVariants as phases
use Rattle.px_relay.specs.Calls.{Did, PopsFrom, WorksBy, did_frame, ended, failed_of, goes, half_in, holds, with_half_in}
use Rattle.px_relay.specs.Chain.{Course, behind_course, drain_within, fails, frame_course, front_course, goes_on, look, looked, past, stops, unread}
use Rattle.px_relay.specs.Failures.{failure_payload}
use Rattle.px_relay.specs.Fronts.{rest_of_all}
use Rattle.px_relay.specs.Kept.{half_size, size}
use Rattle.px_relay.specs.Laws.{CourseKeeps, IsKept, frame_keeps, past_unread}
use Rattle.px_relay.specs.Peers.{is_client, other}
use Rattle.px_relay.specs.Sending.{Terms}
use Rattle.px_relay.specs.Sights.{Sight, bytes_of}
use Rattle.px_relay.specs.Stages.{At, Half, Stage, half_of, next_in, over, standing}
use Rattle.px_relay.specs.Stands.{Drains, DrainsTo, EndsAs, IsDrained, IsMade, IsUnheard, IsWorking, Leads, onward_with}
use Rattle.px_relay.proofs.HalfLemmas.{IsEmptied, broken_at, emptied, first_of}
use Rattle.px_relay.proofs.SendLemmas.{close_same}
use Rattle.px_relay.proofs.WorkLemmas.{EndsBehind, Follows, IsPopped, beside_same, frame_follows}

-- ---- a frame is taken from the queue

-- the state with one side replaced
kept_made : (from : Peer) (half : HalfState) (terms : Terms) (sent : ℕ) (seen : Sight) (before after : WsLayer) → after ≡ with_half_in from half before →
    IsMade terms sent seen before → IsMade terms sent seen after
kept_made Client half terms sent seen before after is made =
    subst (IsMade terms sent seen) (sym is) (record { flow = made.flow; server = made.server; keys = made.keys; closed = made.closed; shut = made.shut })
kept_made Server half terms sent seen before after is made =
    subst (IsMade terms sent seen) (sym is) (record { flow = made.flow; server = made.server; keys = made.keys; closed = made.closed; shut = made.shut })

-- what a side's change leaves
pub record KeepsOthers (from : Peer) (before after : WsLayer) : Type 0 where
  pub phase : after.phase ≡ before.phase
  pub messages : after.messages ≡ before.messages
  pub moment : after.moment ≡ before.moment
  pub rests : after.rests ≡ before.rests
  pub pending : after.pending ≡ before.pending
  pub beside : half_in (other from) after ≡ half_in (other from) before

pub keeps_others : (from : Peer) (half : HalfState) (before after : WsLayer) → after ≡ with_half_in from half before → KeepsOthers from before after
keeps_others Client half before after is = record {
  phase = ap (λ (s : WsLayer). s.phase) is;
  messages = ap (λ (s : WsLayer). s.messages) is;
  moment = ap (λ (s : WsLayer). s.moment) is;
  rests = ap (λ (s : WsLayer). s.rests) is;
  pending = ap (λ (s : WsLayer). s.pending) is;
  beside = ap (λ (s : WsLayer). s.server) is;
}
keeps_others Server half before after is = record {
  phase = ap (λ (s : WsLayer). s.phase) is;
  messages = ap (λ (s : WsLayer). s.messages) is;
  moment = ap (λ (s : WsLayer). s.moment) is;
  rests = ap (λ (s : WsLayer). s.rests) is;
  pending = ap (λ (s : WsLayer). s.pending) is;
  beside = ap (λ (s : WsLayer). s.client) is;
}

size_by : (from : Peer) (half : HalfState) (before after : WsLayer) (count : ℕ) → after ≡ with_half_in from half before →
    half_size half + count ≡ half_size (half_in from before) → size after + count ≡ size before
size_by Client half before after count is counts = let s = ap size is in omega arith
size_by Server half before after count is counts = let s = ap size is in omega arith

ends_behind : (peer : Peer) (half : Half) (messages : ℕ) (end : Ending) (before after : HalfState) (frame : Frame) → after.reader ≡ before.reader →
    after.fault ≡ before.fault → before.queue.items ≡ frame ∷ after.queue.items → EndsAs peer half messages end before →
    EndsBehind (is_client peer) (behind (standing half messages) frame) end after
ends_behind peer half messages (rest bytes) before after frame reader failed queue (none, made) = (
  failed ∙ none,
  reader ∙ (made ∙ ap (λ (l : List Frame). record { masked = is_client peer; begun = (behind_all (standing half messages) l).begun; rest = bytes; failed = None }) queue),
)
ends_behind peer half messages (fault cause) before after frame reader failed queue broken = failed ∙ broken

pub record Popped (terms : Terms) (from : Peer) (at : At) (seen : Sight) (frame : Frame) (after : WsLayer) : Type 0 where
  pub more : List ℕ
  pub there : next_in from at seen ≡ stands frame more
  pub popped : IsPopped terms from at seen frame more after

pub popped_from : (terms : Terms) (from : Peer) (at : At) (seen : Sight) (frame : Frame) (before after : WsLayer) → IsWorking terms from at seen before →
    PopsFrom from before after (Some frame) → Popped terms from at seen frame after
popped_from terms from at seen frame before after works pops =
    let half = half_of from at in
    let queued = works.queued in
    let others = keeps_others from (half_in from after) before after pops.rest in
    let first = first_of (is_client from) (standing half at.messages) (drop half.used (bytes_of from seen)) (half_in from before).queue.items queued.end frame
    (half_in from after).queue.items queued.frames pops.pops.queue in
    let all = rest_of_all (is_client from) (standing half at.messages) half.used (bytes_of from seen) frame first.more first.there in
    record {
      more = first.more;
      there = first.there;
      popped = record {
        made = kept_made from (half_in from after) terms at.sent seen before after pops.rest works.made;
        phase = others.phase ∙ works.phase;
        messages = others.messages ∙ works.messages;
        records = works.records;
        moment = others.moment ∙ works.moment;
        end = queued.end;
        frames = first.later;
        ended = ends_behind from half at.messages queued.end (half_in from before) (half_in from after) frame pops.pops.reader pops.pops.fault pops.pops.queue queued.ended;
        begun = pops.pops.begun ∙ queued.begun;
        rest_is = all.0;
        beside = beside_same from at at seen seen before after refl refl others.beside others.pending works.beside;
      };
    }

-- where none is there
ends_still : (peer : Peer) (half : Half) (messages : ℕ) (end : Ending) (before after : HalfState) → after.reader ≡ before.reader →
    after.fault ≡ before.fault → after.queue.items ≡ before.queue.items → EndsAs peer half messages end before → EndsAs peer half messages end after
ends_still peer half messages (rest bytes) before after reader failed queue (none, made) = (
  failed ∙ none,
  reader ∙ (made ∙ ap (λ (l : List Frame). record { masked = is_client peer; begun = (behind_all (standing half messages) l).begun; rest = bytes; failed = None }) (sym queue)),
)
ends_still peer half messages (fault cause) before after reader failed queue broken = failed ∙ broken

pub popped_none : (terms : Terms) (from : Peer) (at : At) (seen : Sight) (before after : WsLayer) → IsWorking terms from at seen before →
    PopsFrom from before after None → IsWorking terms from at seen after
popped_none terms from at seen before after works pops =
    let half = half_of from at in
    let queued = works.queued in
    let others = keeps_others from (half_in from after) before after pops.rest in
    let same : (half_in from after).queue.items ≡ (half_in from before).queue.items = pops.pops.queue.1 ∙ sym pops.pops.queue.0 in
    record {
      made = kept_made from (half_in from after) terms at.sent seen before after pops.rest works.made;
      phase = others.phase ∙ works.phase;
      messages = others.messages ∙ works.messages;
      records = works.records;
      moment = others.moment ∙ works.moment;
      queued = record {
        end = queued.end;
        frames = subst (λ (l : List Frame). IsFrames (is_client from) (standing half at.messages) (drop half.used (bytes_of from seen)) l queued.end) (sym same) queued.frames;
        ended = ends_still from half at.messages queued.end (half_in from before) (half_in from after) pops.pops.reader pops.pops.fault same queued.ended;
        judged = queued.judged;
        begun = pops.pops.begun ∙ queued.begun;
        within = queued.within;
      };
      beside = beside_same from at at seen seen before after refl refl others.beside others.pending works.beside;
    }

-- ---- what was done for a frame

pub record Goes (did : Did) (after : WsLayer) (out longer : List Command) : Type 0 where
  pub owed : List Command
  pub grown : longer ≡ out ++ owed
  pub is : did ≡ goes after owed

pub goes_by : (did : Did) (after : WsLayer) (out longer : List Command) → WorksBy did true after out longer → Goes did after out longer
goes_by (goes state owed) after out longer (result, same, grown) =
    record { owed = owed; grown = grown; is = ap (λ (s : WsLayer). goes s owed) (sym same) }
goes_by (holds state owed) after out longer (result, same, grown) = absurd (let n : true ≡ false = result in cc)
goes_by (ended rests owed) after out longer (result, over_there, kept, grown) = absurd (let n : true ≡ false = result in cc)

pub record Further (terms : Terms) (from : Peer) (seen : Sight) (after : WsLayer) (owed : List Command) (course : Course) : Type 0 where
  pub next : At
  pub is : course ≡ goes_on owed next
  pub works : IsWorking terms from next seen after

follows_goes : (terms : Terms) (from : Peer) (seen : Sight) (after : WsLayer) (owed : List Command) (course : Course) →
    Follows terms from seen (goes after owed) course → Further terms from seen after owed course
follows_goes terms from seen after owed (goes_on due at) (same, works) = record { next = at; is = ap (λ (l : List Command). goes_on l at) (sym same); works = works }
follows_goes terms from seen after owed (stops turn) none = absurd none

pub record Stops (terms : Terms) (from : Peer) (seen : Sight) (after : WsLayer) (owed : List Command) (course : Course) : Type 0 where
  pub turn : Turn Stage Command
  pub is : course ≡ stops turn
  pub leads : Leads terms turn seen after owed

-- at the end
pub over_leads : (terms : Terms) (turn : Turn Stage Command) (seen : Sight) (after : WsLayer) (owed : List Command) → owed ≡ turn.owed → turn.stage ≡ over →
    after.phase ≡ phases.Over → Leads terms turn seen after owed
over_leads terms turn seen after owed same is there =
    subst (λ (s : Stage). Leads terms (record { owed = turn.owed; stage = s }) seen after owed) (sym is)
    (record { gives = same ∙ sym (append-nil turn.owed); is_in = there })

pub stops_by : (did : Did) (from : Peer) (after : WsLayer) (out longer : List Command) → WorksBy did false after out longer →
    (owed : List Command) × (longer ≡ out ++ owed)
    × ((terms : Terms) (seen : Sight) (course : Course) → Follows terms from seen did course → Stops terms from seen after owed course)
stops_by (goes state owed) from after out longer (result, same, grown) = absurd (let n : false ≡ true = result in cc)
stops_by (holds state owed) from after out longer (result, same, grown) = (owed, grown, by)
  where
    by : (terms : Terms) (seen : Sight) (course : Course) → Follows terms from seen (holds state owed) course → Stops terms from seen after owed course
    by terms seen (goes_on due at) none = absurd none
    by terms seen (stops turn) leads = record {
      turn = turn;
      is = refl;
      leads = subst (λ (s : WsLayer). Leads terms turn seen s owed) (sym same) leads;
    }
stops_by (ended rests owed) from after out longer (result, over_there, kept, grown) = (owed, grown, by)
  where
    by : (terms : Terms) (seen : Sight) (course : Course) → Follows terms from seen (ended rests owed) course → Stops terms from seen after owed course
    by terms seen (goes_on due at) none = absurd none
    by terms seen (stops turn) (same, is) = record { turn = turn; is = refl; leads = over_leads terms turn seen after owed same is over_there }

-- ---- turn by turn

pub record IsFurther (terms : Terms) (from : Peer) (seen : Sight) (onward : At → Turn Stage Command) (turn : Turn Stage Command) (now : WsLayer) (more : List Command) : Type 0 where
  pub next : At
  pub fuel : ℕ
  pub works : IsWorking terms from next seen now
  pub short : length (unread from seen next) < fuel
  pub is : turn ≡ onward_with more (drain_within terms seen from fuel onward next)

pub record DrainsSo (from : Peer) (before now : WsLayer) (out longer : List Command) : Type 0 where
  pub more : List Command
  pub grown : longer ≡ out ++ more
  pub leads : (terms : Terms) (at : At) (seen : Sight) (most : ℕ) (onward : At → Turn Stage Command) → IsWorking terms from at seen before →
      length (unread from seen at) < most → IsFurther terms from seen onward (drain_within terms seen from most onward at) now more

pub drains_first : (from : Peer) (state : WsLayer) (out : List Command) → DrainsSo from state state out out
drains_first from state out = record {
  more = [];
  grown = sym (append-nil out);
  leads = λ terms at seen most onward works short. record { next = at; fuel = most; works = works; short = short; is = refl };
}

pub with_more : (first second : List Command) (turn : Turn Stage Command) → onward_with first (onward_with second turn) ≡ onward_with (first ++ second) turn
with_more first second turn = ap (λ (l : List Command). record { owed = l; stage = turn.stage }) (sym (append_assoc first second turn.owed))

-- one frame of a drain
pub one_frame : (terms : Terms) (from : Peer) (seen : Sight) (onward : At → Turn Stage Command) (fuel : ℕ) (next : At) (frame : Frame) (more : List ℕ) →
    next_in from next seen ≡ stands frame more →
    drain_within terms seen from (suc fuel) onward next
    ≡ behind_course (drain_within terms seen from fuel onward) (frame_course terms seen from (past from seen more next) frame)
one_frame terms from seen onward fuel next frame more is =
    ap (λ (f : Front). front_course terms seen from (drain_within terms seen from fuel onward) onward next f) is

pub shorter : (terms : Terms) (from : Peer) (seen : Sight) (next : At) (frame : Frame) (more : List ℕ) (owed : List Command) (later : At) →
    next_in from next seen ≡ stands frame more → frame_course terms seen from (past from seen more next) frame ≡ goes_on owed later →
    length (unread from seen later) < length (unread from seen next)
shorter terms from seen next frame more owed later is course =
    let all = rest_of_all (is_client from) _ (half_of from next).used (bytes_of from seen) frame more is in
    let keeps : IsKept from (past from seen more next) later =
    subst (λ (c : Course). CourseKeeps from (past from seen more next) c) course (frame_keeps terms seen from (past from seen more next) frame) in
    let there : unread from seen later ≡ more = ap (λ n. drop n (bytes_of from seen)) keeps.used ∙ past_unread from seen more next all.0 in
    let less = all.1 in
    subst (λ (l : List ℕ). length l < length (unread from seen next)) (sym there) less

further_by : (fuel : ℕ) (terms : Terms) (from : Peer) (seen : Sight) (onward : At → Turn Stage Command) (turn : Turn Stage Command) (before mid after : WsLayer)
    (frame : Frame) (more owed : List Command) (next : At) → IsWorking terms from next seen before → length (unread from seen next) < fuel →
    turn ≡ onward_with more (drain_within terms seen from fuel onward next) → PopsFrom from before mid (Some frame) → did_frame from mid frame ≡ goes after owed →
    IsFurther terms from seen onward turn after (more ++ owed)
further_by zero terms from seen onward turn before mid after frame more owed next works short is pops did = absurd (omega arith)
further_by (suc fuel) terms from seen onward turn before mid after frame more owed next works short is pops did =
    let p = popped_from terms from next seen frame before mid works pops in
    let course = frame_course terms seen from (past from seen p.more next) frame in
    let f = follows_goes terms from seen after owed course
    (subst (λ (d : Did). Follows terms from seen d course) did (frame_follows terms from next seen frame p.more mid p.popped)) in
    let less = shorter terms from seen next frame p.more owed f.next p.there f.is in
    record {
      next = f.next;
      fuel = fuel;
      works = f.works;
      short = omega arith;
      is = is ∙ (ap (λ (t : Turn Stage Command). onward_with more t)
          (one_frame terms from seen onward fuel next frame p.more p.there
          ∙ ap (λ (c : Course). behind_course (drain_within terms seen from fuel onward) c) f.is)
          ∙ with_more more owed (drain_within terms seen from fuel onward f.next));
    }

pub drains_goes : (from : Peer) (initial before mid after : WsLayer) (frame : Frame) (first out longer : List Command) → DrainsSo from initial before first out →
    PopsFrom from before mid (Some frame) → WorksBy (did_frame from mid frame) true after out longer → DrainsSo from initial after first longer
drains_goes from initial before mid after frame first out longer so pops works =
    let g = goes_by (did_frame from mid frame) after out longer works in
    record {
      more = so.more ++ g.owed;
      grown = g.grown ∙ (ap (λ (l : List Command). l ++ g.owed) so.grown ∙ append_assoc first so.more g.owed);
      leads = λ terms at seen most onward working short.
          let f = so.leads terms at seen most onward working short in
          further_by f.fuel terms from seen onward (drain_within terms seen from most onward at) before mid after frame so.more g.owed f.next f.works f.short f.is pops g.is;
    }

-- what led elsewhere, behind what was owed before
pub leads_onward : (terms : Terms) (turn : Turn Stage Command) (seen : Sight) (after : WsLayer) (first more : List Command) → Leads terms turn seen after more →
    Leads terms (onward_with first turn) seen after (first ++ more)
leads_onward terms turn seen after first more leads = record {
  gives = ap (λ (l : List Command). first ++ l) leads.gives ∙ sym (append_assoc first turn.owed (found (look terms turn.stage)));
  is_in = leads.is_in;
}

stop_by : (fuel : ℕ) (terms : Terms) (from : Peer) (seen : Sight) (onward : At → Turn Stage Command) (turn : Turn Stage Command) (before mid after : WsLayer)
    (frame : Frame) (more owed : List Command) (next : At) → IsWorking terms from next seen before → length (unread from seen next) < fuel →
    turn ≡ onward_with more (drain_within terms seen from fuel onward next) → PopsFrom from before mid (Some frame) →
    ((course : Course) → Follows terms from seen (did_frame from mid frame) course → Stops terms from seen after owed course) →
    Leads terms turn seen after (more ++ owed)
stop_by zero terms from seen onward turn before mid after frame more owed next works short is pops stop = absurd (omega arith)
stop_by (suc fuel) terms from seen onward turn before mid after frame more owed next works short is pops stop =
    let p = popped_from terms from next seen frame before mid works pops in
    let course = frame_course terms seen from (past from seen p.more next) frame in
    let s = stop course (frame_follows terms from next seen frame p.more mid p.popped) in
    let there : turn ≡ onward_with more s.turn =
    is ∙ ap (λ (t : Turn Stage Command). onward_with more t)
    (one_frame terms from seen onward fuel next frame p.more p.there ∙ ap (λ (c : Course). behind_course (drain_within terms seen from fuel onward) c) s.is) in
    subst (λ (t : Turn Stage Command). Leads terms t seen after (more ++ owed)) (sym there) (leads_onward terms s.turn seen after more owed s.leads)

pub drains_stops : (from : Peer) (initial before mid after : WsLayer) (frame : Frame) (first out longer : List Command) → DrainsSo from initial before first out →
    PopsFrom from before mid (Some frame) → WorksBy (did_frame from mid frame) false after out longer → Drains from initial after false first longer
drains_stops from initial before mid after frame first out longer so pops works =
    let s = stops_by (did_frame from mid frame) from after out longer works in
    record {
      more = so.more ++ s.0;
      grown = s.1 ∙ (ap (λ (l : List Command). l ++ s.0) so.grown ∙ append_assoc first so.more s.0);
      leads = λ terms at seen most onward working short.
          let f = so.leads terms at seen most onward working short in
          stop_by f.fuel terms from seen onward (drain_within terms seen from most onward at) before mid after frame so.more s.0 f.next f.works f.short f.is pops
          (λ course follows. s.2 terms seen course follows);
    }

-- ---- where no frame waits any more

drained_at : (terms : Terms) (from : Peer) (at : At) (seen : Sight) (state : WsLayer) → IsWorking terms from at seen state →
    IsEmptied from (half_of from at) at.messages (bytes_of from seen) (half_in from state) → IsDrained terms from (looked from seen at) seen state
drained_at terms Client at seen state works empty = record {
  between = record {
    made = record { flow = works.made.flow; server = works.made.server; keys = works.made.keys; closed = works.made.closed; shut = works.made.shut };
    phase = works.phase;
    messages = works.messages;
    records = works.records;
    client = empty.unheard;
    server = works.beside;
  };
  moment = works.moment;
}
drained_at terms Server at seen state works empty = record {
  between = record {
    made = record { flow = works.made.flow; server = works.made.server; keys = works.made.keys; closed = works.made.closed; shut = works.made.shut };
    phase = works.phase;
    messages = works.messages;
    records = works.records;
    client = works.beside.0;
    server = subst (λ (p : List ℕ). IsUnheard Server (looked Server seen at).server seen.server p state.server) (sym works.beside.1) empty.unheard;
  };
  pending = works.beside.1;
}

through_by : (fuel : ℕ) (terms : Terms) (from : Peer) (seen : Sight) (onward : At → Turn Stage Command) (turn : Turn Stage Command) (now : WsLayer)
    (more : List Command) (next : At) → IsWorking terms from next seen now → length (unread from seen next) < fuel →
    turn ≡ onward_with more (drain_within terms seen from fuel onward next) → (half_in from now).queue.items ≡ [] → (half_in from now).fault ≡ None →
    DrainsTo true terms from seen onward turn now more
through_by zero terms from seen onward turn now more next works short is queue failed = absurd (omega arith)
through_by (suc fuel) terms from seen onward turn now more next works short is queue failed =
    let empty = emptied from (half_of from next) next.messages (bytes_of from seen) (half_in from now) works.queued queue failed in (
      looked from seen next,
      drained_at terms from next seen now works empty,
      is ∙ ap (λ (t : Turn Stage Command). onward_with more t)
          (ap (λ (f : Front). front_course terms seen from (drain_within terms seen from fuel onward) onward next f) empty.none),
    )

pub drains_through : (from : Peer) (initial before now : WsLayer) (first out : List Command) → DrainsSo from initial before first out →
    PopsFrom from before now None → (half_in from now).fault ≡ None → Drains from initial now true first out
drains_through from initial before now first out so pops failed = record {
  more = so.more;
  grown = so.grown;
  leads = λ terms at seen most onward working short.
      let f = so.leads terms at seen most onward working short in
      through_by f.fuel terms from seen onward (drain_within terms seen from most onward at) now so.more f.next
      (popped_none terms from f.next seen before now f.works pops) f.short f.is pops.pops.queue.1 failed;
}

broke_by : (fuel : ℕ) (terms : Terms) (from : Peer) (seen : Sight) (onward : At → Turn Stage Command) (turn : Turn Stage Command) (now after : WsLayer)
    (more : List Command) (next : At) (cause : FrameFault) → IsWorking terms from next seen now → length (unread from seen next) < fuel →
    turn ≡ onward_with more (drain_within terms seen from fuel onward next) → (half_in from now).queue.items ≡ [] → (half_in from now).fault ≡ Some cause →
    after.phase ≡ phases.Over → Leads terms turn seen after (more ++ failed_of from now (BadFrame cause))
broke_by zero terms from seen onward turn now after more next cause works short is queue failed over_there = absurd (omega arith)
broke_by (suc fuel) terms from seen onward turn now after more next cause works short is queue failed over_there =
    let none = broken_at from (half_of from next) next.messages (bytes_of from seen) (half_in from now) cause works.queued queue failed in
    let there : turn ≡ onward_with more (fails terms seen from next.sent (BadFrame cause)) =
    is ∙ ap (λ (t : Turn Stage Command). onward_with more t)
    (ap (λ (f : Front). front_course terms seen from (drain_within terms seen from fuel onward) onward next f) none) in
    subst (λ (t : Turn Stage Command). Leads terms t seen after (more ++ failed_of from now (BadFrame cause))) (sym there)
    (leads_onward terms (fails terms seen from next.sent (BadFrame cause)) seen after more (failed_of from now (BadFrame cause))
    (over_leads terms (fails terms seen from next.sent (BadFrame cause)) seen after (failed_of from now (BadFrame cause))
    (close_same terms next.sent seen now from (failure_payload (BadFrame cause)) works.made) refl over_there))

pub drains_broke : (from : Peer) (initial before now after : WsLayer) (first out longer : List Command) (cause : FrameFault) → DrainsSo from initial before first out →
    PopsFrom from before now None → (half_in from now).fault ≡ Some cause → after.phase ≡ phases.Over → longer ≡ out ++ failed_of from now (BadFrame cause) →
    Drains from initial after false first longer
drains_broke from initial before now after first out longer cause so pops failed over_there grown =
    let owed = failed_of from now (BadFrame cause) in
    record {
      more = so.more ++ owed;
      grown = grown ∙ (ap (λ (l : List Command). l ++ owed) so.grown ∙ append_assoc first so.more owed);
      leads = λ terms at seen most onward working short.
          let f = so.leads terms at seen most onward working short in
          broke_by f.fuel terms from seen onward (drain_within terms seen from most onward at) now after so.more f.next cause
          (popped_none terms from f.next seen before now f.works pops) f.short f.is pops.pops.queue.1 failed over_there;
    }
