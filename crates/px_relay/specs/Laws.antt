-- The laws of the chain of a WebSocket, over whatever is seen.
use Rattle.std.proofs.Common.{◌≡◌, ◌∙◌, ℕ, zero, suc, ◌-◌, ◌<◌, Bool, true, false, ◌||◌, ◌==◌, nat_lt, if◌then◌else◌, ◌⊎◌, inl, inr, List, [], ◌∷◌, ◌++◌, append_assoc, length, drop, Option, Some, None, refl, sym, ap, ap₂, subst, arith}
use Rattle.px_event.specs.declared.ask.Ask.{Ask}
use Rattle.px_event.specs.declared.command.Command.{Command}
use Rattle.px_event.specs.declared.event.Event.{Event}
use Rattle.px_event.specs.Chain.{Timed, NotYet, Asks, Ends, Turn}
use Rattle.px_event.specs.Laws.{Settles, SoFarGrows}
use Rattle.px_event.specs.Stands.{AwaitsWhatItAsks, EndsWhereItEnds}
use Rattle.px_event.specs.View.{View, seen_of}
use Rattle.px_frame.specs.declared.frame.Frame.{Frame}
use Rattle.px_frame.specs.declared.fault.FrameFault.TheVariants.{TooBig}
use Rattle.px_frame.specs.Frames.{Front, nothing, refused, stands, front}
use Rattle.px_frame.specs.Head.{has_length, is_control}
use Rattle.px_relay.specs.Fronts.{rest_of_all, stays_idle}
use Rattle.px_relay.specs.declared.failure.Failure.TheVariants.{BadFrame, NotText}
use Rattle.px_relay.specs.declared.layer.WsLayer.{WsLayer}
use Rattle.px_relay.specs.declared.peer.Peer.{Peer}
use Rattle.px_relay.specs.declared.peer.Peer.TheVariants.{Client, Server}
use Rattle.px_relay.specs.Chain.{Course, closes_with, goes_on, stops, at_rest, behind_course, control_course, data_course, drain_both, drain_server, drain_within, fails, frame_course, front_course, look, looked, message_course, most_whole, pass, past, relay_chain, terms_at, unread}
use Rattle.px_relay.specs.Messages.{Message, gathered, is_bad_text, payload_so_far}
use Rattle.px_relay.specs.Peers.{is_client, other}
use Rattle.px_relay.specs.Sending.{Terms, counted, send_to}
use Rattle.px_relay.specs.Sights.{Sight, bytes_of, seen_over}
use Rattle.px_relay.specs.Stages.{At, Half, Stage, half_of, holding, most_messages, next_in, over, relaying, rested, with_half}
use Rattle.px_relay.specs.Stands.{IsAt, awaited_in, awaits, chain_of, is_over, onward_with, terms_of}

-- ---- halves

pub half_there : (peer : Peer) (half : Half) (at : At) → half_of peer (with_half peer half at) ≡ half
half_there Client half at = refl
half_there Server half at = refl

pub half_beside : (peer : Peer) (half : Half) (at : At) → half_of (other peer) (with_half peer half at) ≡ half_of (other peer) at
half_beside Client half at = refl
half_beside Server half at = refl

pub half_messages : (peer : Peer) (half : Half) (at : At) → (with_half peer half at).messages ≡ at.messages
half_messages Client half at = refl
half_messages Server half at = refl

pub half_sent : (peer : Peer) (half : Half) (at : At) → (with_half peer half at).sent ≡ at.sent
half_sent Client half at = refl
half_sent Server half at = refl

pub half_records : (peer : Peer) (half : Half) (at : At) → (with_half peer half at).records ≡ at.records
half_records Client half at = refl
half_records Server half at = refl

pub half_since : (peer : Peer) (half : Half) (at : At) → (with_half peer half at).since ≡ at.since
half_since Client half at = refl
half_since Server half at = refl

same_half : (peer : Peer) (half : Half) (at : At) → half ≡ half_of peer at → with_half peer half at ≡ at
same_half Client half at is = ap (λ h. record at { client = h }) is
same_half Server half at is = ap (λ h. record at { server = h }) is

-- ---- where no frame of a side is whole

-- and that was looked at
pub record IsIdle (peer : Peer) (seen : Sight) (at : At) : Type 0 where
  pub none : next_in peer at seen ≡ nothing
  pub judged : (half_of peer at).judged ≡ ((half_of peer at).judged || has_length (unread peer seen at))

-- it is so as long as neither its half nor the messages change
pub idle_same : (peer : Peer) (seen : Sight) (one two : At) → half_of peer two ≡ half_of peer one → two.messages ≡ one.messages → IsIdle peer seen one →
    IsIdle peer seen two
idle_same peer seen one two half messages idle = record {
  none = ap₂ (λ h n. front (is_client peer) (record { begun = payload_so_far h.begun; left = most_messages - n; judged = h.judged }) (drop h.used (bytes_of peer seen))) half messages ∙ idle.none;
  judged = subst (λ h. h.judged ≡ (h.judged || has_length (drop h.used (bytes_of peer seen)))) (sym half) idle.judged;
}

pub looked_idle : (peer : Peer) (seen : Sight) (at : At) → IsIdle peer seen at → looked peer seen at ≡ at
looked_idle peer seen at idle =
    same_half peer _ at (ap (λ j. record (half_of peer at) { judged = j }) (sym idle.judged))

-- nothing of such a side is worked off
pub drain_idle : (terms : Terms) (seen : Sight) (peer : Peer) (most : ℕ) (onward : At → Turn Stage Command) (at : At) → IsIdle peer seen at →
    drain_within terms seen peer (suc most) onward at ≡ onward at
drain_idle terms seen peer most onward at idle =
    ap (λ f. front_course terms seen peer (drain_within terms seen peer most onward) onward at f) idle.none
    ∙ ap onward (looked_idle peer seen at idle)

or_twice : (a b : Bool) → (a || b) ≡ ((a || b) || b)
or_twice true b = refl
or_twice false true = refl
or_twice false false = refl

judged_by : (j heard masked : Bool) (begun : Option ℕ) (left : ℕ) (bytes : List ℕ) → has_length bytes ≡ heard →
    front masked (record { begun = begun; left = left; judged = j }) bytes ≡ nothing →
    front masked (record { begun = begun; left = left; judged = j || heard }) bytes ≡ nothing
judged_by true heard masked begun left bytes is e = e
judged_by false heard masked begun left bytes is e =
    subst (λ h. front masked (record { begun = begun; left = left; judged = h }) bytes ≡ nothing) is (stays_idle masked (record { begun = begun; left = left; judged = false }) left bytes e)

-- once it was looked at
pub looked_is_idle : (peer : Peer) (seen : Sight) (at : At) → next_in peer at seen ≡ nothing → IsIdle peer seen (looked peer seen at)
looked_is_idle peer seen at none =
    let half = half_of peer at in
    let rest = unread peer seen at in
    let now : Half = record half { judged = half.judged || has_length rest } in
    let there = half_there peer now at in
    let messages = half_messages peer now at in
    record {
      none = ap₂ (λ (h : Half) (n : ℕ). front (is_client peer) (record { begun = payload_so_far h.begun; left = most_messages - n; judged = h.judged }) (drop h.used (bytes_of peer seen))) there messages
          ∙ judged_by half.judged (has_length rest) (is_client peer) (payload_so_far half.begun) (most_messages - at.messages) rest refl none;
      judged = subst (λ (h : Half). h.judged ≡ (h.judged || has_length (drop h.used (bytes_of peer seen)))) (sym there) (or_twice half.judged (has_length rest));
    }

-- ---- one frame

-- it stops at an ask or at the end
abbrev pub IsStop : Stage → Type 0
IsStop (relaying at) = ⊥
IsStop (holding from message at) = Unit {0}
IsStop over = Unit {0}

-- what it leaves: the side's place, the other half, and the messages
pub record IsKept (peer : Peer) (at next : At) : Type 0 where
  pub used : (half_of peer next).used ≡ (half_of peer at).used
  pub beside : half_of (other peer) next ≡ half_of (other peer) at
  pub messages : next.messages ≡ at.messages

abbrev pub CourseKeeps : Peer → At → Course → Type 0
CourseKeeps peer at (goes_on owed next) = IsKept peer at next
CourseKeeps peer at (stops turn) = IsStop turn.stage

course_if : (b : Bool) (one two : Course) (peer : Peer) (at : At) → CourseKeeps peer at one → CourseKeeps peer at two →
    CourseKeeps peer at (if b then one else two)
course_if true one two peer at p q = p
course_if false one two peer at p q = q

sent_keeps : (peer : Peer) (at : At) (sent : ℕ) → IsKept peer at (record at { sent = sent })
sent_keeps Client at sent = record { used = refl; beside = refl; messages = refl }
sent_keeps Server at sent = record { used = refl; beside = refl; messages = refl }

begun_keeps : (peer : Peer) (at : At) (begun : Option Message) → IsKept peer at (with_half peer (record (half_of peer at) { begun = begun }) at)
begun_keeps Client at begun = record { used = refl; beside = refl; messages = refl }
begun_keeps Server at begun = record { used = refl; beside = refl; messages = refl }

message_stops : (terms : Terms) (seen : Sight) (peer other_peer : Peer) (at next : At) (message : Message) →
    CourseKeeps other_peer next (message_course terms seen peer at message)
message_stops terms seen peer other_peer at next message =
    course_if (is_bad_text message.text message.payload) (stops (fails terms seen peer at.sent NotText)) _ other_peer next tt
    (course_if (nat_lt at.messages most_whole) (stops (record { owed = []; stage = holding peer message at }))
    (stops (fails terms seen peer at.sent (BadFrame TooBig))) other_peer next tt tt)

data_keeps : (terms : Terms) (seen : Sight) (peer : Peer) (at : At) (frame : Frame) → CourseKeeps peer at (data_course terms seen peer at frame)
data_keeps terms seen peer at frame =
    let half = half_of peer at in
    let message = gathered half.begun frame in
    course_if frame.fin (message_course terms seen peer (with_half peer (record half { begun = None }) at) message)
    (goes_on [] (with_half peer (record half { begun = Some message }) at)) peer at
    (message_stops terms seen peer peer (with_half peer (record half { begun = None }) at) at message)
    (begun_keeps peer at (Some message))

control_keeps : (terms : Terms) (seen : Sight) (peer : Peer) (at : At) (frame : Frame) → CourseKeeps peer at (control_course terms seen peer at frame)
control_keeps terms seen peer at frame =
    course_if (frame.opcode == 8) (stops (closes_with terms seen peer at.sent frame.payload))
    (goes_on (send_to terms (other peer) at.sent (frame ∷ [])) (record at { sent = counted (other peer) at.sent })) peer at
    tt (sent_keeps peer at (counted (other peer) at.sent))

pub frame_keeps : (terms : Terms) (seen : Sight) (peer : Peer) (at : At) (frame : Frame) → CourseKeeps peer at (frame_course terms seen peer at frame)
frame_keeps terms seen peer at frame =
    course_if (is_control frame.opcode) (control_course terms seen peer at frame) (data_course terms seen peer at frame) peer at
    (control_keeps terms seen peer at frame) (data_keeps terms seen peer at frame)

-- ---- all frames of a side

-- they were worked off, to a place where no further one is whole
pub record IsThrough (seen : Sight) (peer : Peer) (onward : At → Turn Stage Command) (at : At) (turn : Turn Stage Command) : Type 0 where
  pub owed : List Command
  pub next : At
  pub idle : IsIdle peer seen next
  pub beside : half_of (other peer) next ≡ half_of (other peer) at
  pub messages : next.messages ≡ at.messages
  pub is : turn ≡ onward_with owed (onward next)

abbrev pub Drained : Sight → Peer → (At → Turn Stage Command) → At → Turn Stage Command → Type 0
Drained seen peer onward at turn = IsStop turn.stage ⊎ IsThrough seen peer onward at turn

pub past_unread : (peer : Peer) (seen : Sight) (rest : List ℕ) (at : At) → drop (length (bytes_of peer seen) - length rest) (bytes_of peer seen) ≡ rest →
    unread peer seen (past peer seen rest at) ≡ rest
past_unread Client seen rest at is = is
past_unread Server seen rest at is = is

pub past_keeps : (peer : Peer) (seen : Sight) (rest : List ℕ) (at : At) →
    (half_of (other peer) (past peer seen rest at) ≡ half_of (other peer) at) × ((past peer seen rest at).messages ≡ at.messages)
past_keeps Client seen rest at = (refl, refl)
past_keeps Server seen rest at = (refl, refl)

module _ (terms : Terms) (seen : Sight) (peer : Peer) (onward : At → Turn Stage Command) where
  behind_drained : (owed : List Command) (at next : At) (turn : Turn Stage Command) → half_of (other peer) next ≡ half_of (other peer) at →
      next.messages ≡ at.messages → Drained seen peer onward next turn → Drained seen peer onward at (onward_with owed turn)
  behind_drained owed at next turn beside messages (inl stop) = inl stop
  behind_drained owed at next turn beside messages (inr through) = inr (record {
    owed = owed ++ through.owed;
    next = through.next;
    idle = through.idle;
    beside = through.beside ∙ beside;
    messages = through.messages ∙ messages;
    is = ap (λ (t : Turn Stage Command). onward_with owed t) through.is
        ∙ ap (λ (l : List Command). record { owed = l; stage = (onward through.next).stage }) (sym (append_assoc owed through.owed (onward through.next).owed));
  })

  course_drained : (most : ℕ) (at past_at : At) (rest : List ℕ) (course : Course) → half_of (other peer) past_at ≡ half_of (other peer) at →
      past_at.messages ≡ at.messages → unread peer seen past_at ≡ rest → length rest < most → CourseKeeps peer past_at course →
      ((next : At) → length (unread peer seen next) < most → Drained seen peer onward next (drain_within terms seen peer most onward next)) →
      Drained seen peer onward at (behind_course (drain_within terms seen peer most onward) course)
  course_drained most at past_at rest (goes_on owed next) beside messages is less keeps again =
      let there : unread peer seen next ≡ rest = ap (λ n. drop n (bytes_of peer seen)) keeps.used ∙ is in
      behind_drained owed at next _ (keeps.beside ∙ beside) (keeps.messages ∙ messages)
      (again next (subst (λ (l : List ℕ). length l < most) (sym there) less))
  course_drained most at past_at rest (stops turn) beside messages is less keeps again = inl keeps

  front_drained : (most : ℕ) (at : At) (front : Front) → next_in peer at seen ≡ front → length (unread peer seen at) < suc most →
      ((next : At) → length (unread peer seen next) < most → Drained seen peer onward next (drain_within terms seen peer most onward next)) →
      Drained seen peer onward at (front_course terms seen peer (drain_within terms seen peer most onward) onward at front)
  front_drained most at nothing is short again = inr (record {
    owed = [];
    next = looked peer seen at;
    idle = looked_is_idle peer seen at is;
    beside = half_beside peer _ at;
    messages = half_messages peer _ at;
    is = refl;
  })
  front_drained most at (refused fault) is short again = inl tt
  front_drained most at (stands frame rest) is short again =
      let all = rest_of_all (is_client peer) _ (half_of peer at).used (bytes_of peer seen) frame rest is in
      let past_at = past peer seen rest at in
      let keeps = past_keeps peer seen rest at in
      course_drained most at past_at rest (frame_course terms seen peer past_at frame) keeps.0 keeps.1
      (past_unread peer seen rest at all.0) (let less = all.1 in omega arith) (frame_keeps terms seen peer past_at frame) again

  pub drained : (most : ℕ) (at : At) → length (unread peer seen at) < most → Drained seen peer onward at (drain_within terms seen peer most onward at)
  drained zero at short = absurd (omega arith)
  drained (suc most) at short =
      front_drained most at (next_in peer at seen) refl short (λ next less. drained most next less)

-- ---- passing settles at once

abbrev IsFixed : Terms → Sight → Stage → Type 0
IsFixed terms seen stage = ((pass terms stage seen).stage ≡ stage) × ((pass terms stage seen).owed ≡ [])

stop_fixed : (terms : Terms) (seen : Sight) (stage : Stage) → IsStop stage → IsFixed terms seen stage
stop_fixed terms seen (relaying at) stop = absurd stop
stop_fixed terms seen (holding from message at) stop = (refl, refl)
stop_fixed terms seen over stop = (refl, refl)

-- where both sides are idle
pub both_idle : (terms : Terms) (seen : Sight) (at : At) → IsIdle Client seen at → IsIdle Server seen at →
    drain_both terms seen at ≡ at_rest terms seen at
both_idle terms seen at client server =
    drain_idle terms seen Client (length (unread Client seen at)) (drain_server terms seen) at client
    ∙ drain_idle terms seen Server (length (unread Server seen at)) (at_rest terms seen) at server

-- whatever its flow has by then
module _ (terms now : Terms) (seen : Sight) where
  rest_fixed : (at : At) (b : Bool) → (seen.closed || seen.shut) ≡ b → IsIdle Client seen at → IsIdle Server seen at → IsFixed terms seen (at_rest now seen at).stage
  rest_fixed at true is client server =
      let over_there : (at_rest now seen at).stage ≡ over = rw is refl in
      subst (IsFixed terms seen) (sym over_there) (refl, refl)
  rest_fixed at false is client server =
      let rests : at_rest now seen at ≡ record { owed = []; stage = relaying (rested at) } = rw is refl in
      let again : at_rest (terms_at terms at) seen (rested at) ≡ record { owed = []; stage = relaying (rested at) } = rw is refl in
      let same = both_idle (terms_at terms at) seen (rested at) (idle_same Client seen at (rested at) refl refl client) (idle_same Server seen at (rested at) refl refl server)
      ∙ again in
      subst (λ (t : Turn Stage Command). IsFixed terms seen t.stage) (sym rests)
      (ap (λ (t : Turn Stage Command). t.stage) same, ap (λ (t : Turn Stage Command). t.owed) same)

  server_fixed : (at : At) (turn : Turn Stage Command) → IsIdle Client seen at → Drained seen Server (at_rest now seen) at turn → IsFixed terms seen turn.stage
  server_fixed at turn client (inl stop) = stop_fixed terms seen turn.stage stop
  server_fixed at turn client (inr through) =
      subst (λ (t : Turn Stage Command). IsFixed terms seen t.stage) (sym through.is)
      (rest_fixed through.next (seen.closed || seen.shut) refl (idle_same Client seen at through.next through.beside through.messages client) through.idle)

  both_fixed : (at : At) (turn : Turn Stage Command) → Drained seen Client (drain_server now seen) at turn → IsFixed terms seen turn.stage
  both_fixed at turn (inl stop) = stop_fixed terms seen turn.stage stop
  both_fixed at turn (inr through) =
      subst (λ (t : Turn Stage Command). IsFixed terms seen t.stage) (sym through.is)
      (server_fixed through.next (drain_server now seen through.next) through.idle
      (drained now seen Server (at_rest now seen) (suc (length (unread Server seen through.next))) through.next (omega arith)))

passed_fixed : (terms : Terms) (seen : Sight) (stage : Stage) → IsFixed terms seen (pass terms stage seen).stage
passed_fixed terms seen (relaying at) =
    let now = terms_at terms at in
    both_fixed terms now seen at (drain_both now seen at)
    (drained now seen Client (drain_server now seen) (suc (length (unread Client seen at))) at (omega arith))
passed_fixed terms seen (holding from message at) = (refl, refl)
passed_fixed terms seen over = (refl, refl)

pub settles : (terms : Terms) (seen : List (Timed Event) → Sight) → Settles (relay_chain terms seen)
settles terms seen = record {
  at = λ stage prefix. let fixed = passed_fixed terms (seen prefix) stage in record { stays = fixed.0; owes_nothing = fixed.1 };
}

-- it owes nothing while it waits, so what is owed grows
pub so_far_grows : (terms : Terms) (seen : List (Timed Event) → Sight) (view : View) → SoFarGrows (relay_chain terms seen) (seen_of view)
so_far_grows terms seen view = record { grows = λ stage prefix event is. (_, refl) }

-- ---- a WebSocket by itself

pub settles_there : (made : WsLayer) → Settles (chain_of made)
settles_there made = settles (terms_of made) (seen_over (terms_of made).server made.rests)

pub grows_there : (made : WsLayer) (view : View) → SoFarGrows (chain_of made) (seen_of view)
grows_there made view = so_far_grows (terms_of made) (seen_over (terms_of made).server made.rests) view

-- it awaits something exactly where the stage asks, and has ended exactly where it ends

free_at : (made state : WsLayer) (stage : Stage) (prefix : List (Timed Event)) (ask : Command) → IsAt made state stage prefix → awaits state ≡ None →
    look (terms_of made) stage ≡ Asks ask → ⊥
free_at made state (relaying at) prefix ask there free asks = let no : NotYet ≡ Asks ask = asks in cc
free_at made state (holding from message at) prefix ask there free asks =
    let no : Some _ ≡ None = ap (λ p. awaited_in state.flow p) (sym there.is_in.phase) ∙ free in cc
free_at made state over prefix ask there free asks = let no : Ends [] ≡ Asks ask = asks in cc

asks_at : (made state : WsLayer) (stage : Stage) (prefix : List (Timed Event)) (ask : Ask) → IsAt made state stage prefix → awaits state ≡ Some ask →
    (command : Command) × (look (terms_of made) stage ≡ Asks command)
asks_at made state (relaying at) prefix ask there is =
    absurd (let no : None ≡ Some ask = ap (λ p. awaited_in state.flow p) (sym there.is_in.ready.between.phase) ∙ is in cc)
asks_at made state (holding from message at) prefix ask there is = (_, refl)
asks_at made state over prefix ask there is =
    absurd (let no : None ≡ Some ask = ap (λ p. awaited_in state.flow p) (sym there.is_in) ∙ is in cc)

pub awaits_what_it_asks : (made : WsLayer) → AwaitsWhatItAsks (chain_of made) (IsAt made) awaits
awaits_what_it_asks made = record { free = free_at made; asks = asks_at made }

ends_at : (made state : WsLayer) (stage : Stage) (prefix : List (Timed Event)) → IsAt made state stage prefix → is_over state.phase ≡ true →
    (owed : List Command) × (look (terms_of made) stage ≡ Ends owed)
ends_at made state (relaying at) prefix there is =
    absurd (let no : false ≡ true = ap is_over (sym there.is_in.ready.between.phase) ∙ is in cc)
ends_at made state (holding from message at) prefix there is =
    absurd (let no : false ≡ true = ap is_over (sym there.is_in.phase) ∙ is in cc)
ends_at made state over prefix there is = ([], refl)

asks_no_end : (ask : Command) (owed : List Command) → Asks ask ≡ Ends owed → ⊥
asks_no_end ask owed is = cc

there_at : (made state : WsLayer) (stage : Stage) (prefix : List (Timed Event)) (owed : List Command) → IsAt made state stage prefix →
    look (terms_of made) stage ≡ Ends owed → is_over state.phase ≡ true
there_at made state (relaying at) prefix owed there is = absurd (let no : NotYet ≡ Ends owed = is in cc)
there_at made state (holding from message at) prefix owed there is = absurd (asks_no_end _ owed is)
there_at made state over prefix owed there is = ap is_over there.is_in

pub ends_where_it_ends : (made : WsLayer) → EndsWhereItEnds (chain_of made) (IsAt made) (λ state. is_over state.phase)
ends_where_it_ends made = record { ends = ends_at made; there = there_at made }
