-- What the fields of a WebSocket are, where it stands at a stage and sees this.
use Rattle.std.specs.Prelude.{◌≡◌, ◌≤◌, ◌<◌, ℕ, ◌+◌, ◌%◌, ◌^◌, ◌==◌, Bool, true, false, if◌then◌else◌, List, [], ◌++◌, length, drop, Option, Some, None, ⊤}
use Rattle.rand_chacha.specs.ChaCha.{ChaCha}
use Rattle.px_message.specs.declared.flow.Flow.{Flow}
use Rattle.px_event.specs.declared.ask.Ask.{Ask}
use Rattle.px_event.specs.declared.ask.Ask.TheVariants as asks
use Rattle.px_event.specs.declared.ask.Hook.TheVariants as hooks
use Rattle.px_event.specs.declared.command.Command.{Command}
use Rattle.px_event.specs.declared.event.Event.{Event}
use Rattle.px_event.specs.declared.event.Rests.{Rests}
use Rattle.px_event.specs.declared.reply.Reply.{Reply}
use Rattle.px_event.specs.declared.side.Side.{Side}
use Rattle.px_event.specs.declared.side.Side.TheVariants as sides
use Rattle.px_event.specs.Chain.{Chain, Timed, Turn, found}
use Rattle.px_event.specs.Layer.{Move}
use Rattle.px_event.specs.Stands.{StandsAt}
use Rattle.px_frame.specs.declared.frame.Frame.{Frame}
use Rattle.px_frame.specs.Frames.{Ending, IsFrames, behind_all, fault, front, nothing, rest}
use Rattle.px_frame.specs.Head.{has_length}
use Rattle.px_relay.specs.declared.half.Half.{Half as HalfState}
use Rattle.px_relay.specs.declared.layer.WsLayer.{WsLayer}
use Rattle.px_relay.specs.declared.peer.Peer.{Peer}
use Rattle.px_relay.specs.declared.peer.Peer.TheVariants.{Client, Server}
use Rattle.px_relay.specs.declared.phase.Held.{Held}
use Rattle.px_relay.specs.declared.phase.Phase.{Phase}
use Rattle.px_relay.specs.declared.phase.Phase.TheVariants as phases
use Rattle.px_relay.specs.Calls.{half_in}
use Rattle.px_relay.specs.Chain.{at_rest, drain_both, drain_server, drain_within, first_at, look, own_chain, pass, terms_at, turn, turn_by, unread}
use Rattle.px_relay.specs.Messages.{Message, payload_so_far, verdict}
use Rattle.px_relay.specs.Peers.{is_client, other}
use Rattle.px_relay.specs.Sending.{Terms, send_to, sent_behind}
use Rattle.px_relay.specs.Sights.{Come, Sight, bytes_of, come_over, come_with, first_come, no_rests}
use Rattle.px_relay.specs.Stages.{At, Half, Stage, half_of, holding, moment_at, over, relaying, standing}

-- ---- what is awaited

abbrev pub awaited_in : Flow → Phase → Option Ask
awaited_in flow (phases.Holding held) = Some (asks.Hook flow.id.index (hooks.WsMessage held.number))
awaited_in flow _ = None

abbrev pub awaits : WsLayer → Option Ask
awaits state = awaited_in state.flow state.phase

abbrev pub is_over : Phase → Bool
is_over phases.Over = true
is_over _ = false

-- ---- one side

-- No frame of a side waits: its reader has the bytes of a frame that has begun, and these were not handed to it yet.
pub record IsUnheard (peer : Peer) (half : Half) (bytes pending : List ℕ) (state : HalfState) : Type 0 where
  pub kept : List ℕ
  pub reader : state.reader ≡ record { masked = is_client peer; begun = payload_so_far half.begun; rest = kept; failed = None }
  pub come : drop half.used bytes ≡ kept ++ pending
  pub judged : half.judged ≡ has_length kept
  pub idle : (left : ℕ) → front (is_client peer) (record { begun = payload_so_far half.begun; left = left; judged = has_length kept }) kept ≡ nothing
  pub queue : state.queue.items ≡ []
  pub fault : state.fault ≡ None
  pub begun : state.begun ≡ half.begun
  pub within : half.used ≤ length bytes

-- how its bytes end behind the frames that wait
abbrev pub EndsAs : Peer → Half → ℕ → Ending → HalfState → Type 0
EndsAs peer half messages (rest bytes) state =
    (state.fault ≡ None)
    × (state.reader ≡ record {
      masked = is_client peer;
      begun = (behind_all (standing half messages) state.queue.items).begun;
      rest = bytes;
      failed = None;
    })
EndsAs peer half messages (fault cause) state = state.fault ≡ Some cause

-- The frames that wait are those of its bytes that were not worked off.
pub record IsQueued (peer : Peer) (half : Half) (messages : ℕ) (bytes : List ℕ) (state : HalfState) : Type 0 where
  pub end : Ending
  pub frames : IsFrames (is_client peer) (standing half messages) (drop half.used bytes) state.queue.items end
  pub ended : EndsAs peer half messages end state
  pub judged : half.judged ≡ true → has_length (drop half.used bytes) ≡ true
  pub begun : state.begun ≡ half.begun
  pub within : half.used ≤ length bytes

-- ---- the whole

-- the keys of the frames to the server, behind so many
abbrev pub keys_at : Terms → ℕ → ChaCha
keys_at terms sent = record { key = terms.key; stream = terms.flow.id.conv; word_pos = sent % 2 ^ 68 }

-- what it was made with, and how far it has sent
pub record IsMade (terms : Terms) (sent : ℕ) (seen : Sight) (state : WsLayer) : Type 0 where
  pub flow : state.flow ≡ terms.flow
  pub server : state.sender.server ≡ terms.server
  pub keys : state.sender.keys ≡ keys_at terms sent
  pub closed : state.closed ≡ seen.closed
  pub shut : state.shut ≡ seen.shut

-- the other side, while the frames of this one are worked off
abbrev pub IsBeside : Peer → At → Sight → WsLayer → Type 0
IsBeside Client at seen state = IsUnheard Server at.server seen.server state.pending state.server
IsBeside Server at seen state = IsUnheard Client at.client seen.client [] state.client × (state.pending ≡ [])

-- the frames of a side are worked off, at the moment of the place; the flow has the records of the place
pub record IsWorking (terms : Terms) (from : Peer) (at : At) (seen : Sight) (state : WsLayer) : Type 0 where
  pub made : IsMade terms at.sent seen state
  pub phase : state.phase ≡ phases.Relaying
  pub messages : state.messages ≡ at.messages
  pub records : terms.flow.messages ≡ at.records
  pub moment : state.moment ≡ moment_at at seen
  pub queued : IsQueued from (half_of from at) at.messages (bytes_of from seen) (half_in from state)
  pub beside : IsBeside from at seen state

-- those of the client are
pub record IsBetween (terms : Terms) (at : At) (seen : Sight) (state : WsLayer) : Type 0 where
  pub made : IsMade terms at.sent seen state
  pub phase : state.phase ≡ phases.Relaying
  pub messages : state.messages ≡ at.messages
  pub records : terms.flow.messages ≡ at.records
  pub client : IsUnheard Client at.client seen.client [] state.client
  pub server : IsUnheard Server at.server seen.server state.pending state.server

-- and those of the server
pub record IsReady (terms : Terms) (at : At) (seen : Sight) (state : WsLayer) : Type 0 where
  pub between : IsBetween terms at seen state
  pub pending : state.pending ≡ []

-- those of the client are, at the moment of the place
pub record IsHalfway (terms : Terms) (at : At) (seen : Sight) (state : WsLayer) : Type 0 where
  pub between : IsBetween terms at seen state
  pub moment : state.moment ≡ moment_at at seen

abbrev pub IsDrained : Terms → Peer → At → Sight → WsLayer → Type 0
IsDrained terms Client at seen state = IsHalfway terms at seen state
IsDrained terms Server at seen state = IsReady terms at seen state

pub record IsRelaying (terms : Terms) (at : At) (seen : Sight) (state : WsLayer) : Type 0 where
  pub ready : IsReady terms at seen state
  pub open_still : seen.closed ≡ false
  pub unshut : seen.shut ≡ false
  pub rests : at.since ≡ None

-- and where it was handed something at a moment
pub record IsAwake (terms : Terms) (at : At) (seen : Sight) (state : WsLayer) : Type 0 where
  pub ready : IsReady terms at seen state
  pub open_still : seen.closed ≡ false
  pub unshut : seen.shut ≡ false
  pub moment : state.moment ≡ moment_at at seen

pub record IsHolding (terms : Terms) (from : Peer) (message : Message) (at : At) (seen : Sight) (state : WsLayer) : Type 0 where
  pub made : IsMade terms at.sent seen state
  pub phase : state.phase ≡ phases.Holding (record { from = from; number = at.messages; moment = moment_at at seen; message = message })
  pub messages : state.messages ≡ at.messages + 1
  pub queued : IsQueued from (half_of from at) (at.messages + 1) (bytes_of from seen) (half_in from state)
  pub beside : IsBeside from at seen state

abbrev pub IsIn : Terms → WsLayer → Stage → Sight → Type 0
IsIn terms state (relaying at) seen = IsRelaying (terms_at terms at) at seen state
IsIn terms state (holding from message at) seen = IsHolding (terms_at terms at) from message at seen state
IsIn terms state over seen = state.phase ≡ phases.Over

-- it stands somewhere
abbrev pub Somewhere : WsLayer → Type 0
Somewhere state = (terms : Terms) × (stage : Stage) × (seen : Sight) × IsIn terms state stage seen

-- ---- what a call led to, wherever it stood

-- it gave what the turn owes and what is found there, and is there
pub record Leads (terms : Terms) (turn : Turn Stage Command) (seen : Sight) (after : WsLayer) (more : List Command) : Type 0 where
  pub gives : more ≡ turn.owed ++ found (look terms turn.stage)
  pub is_in : IsIn terms after turn.stage seen

-- the frames of a side are worked off, and behind those of the client the server's
abbrev pub drain_from : Peer → Terms → Sight → At → Turn Stage Command
drain_from Client terms seen at = drain_both terms seen at
drain_from Server terms seen at = drain_server terms seen at

pub record GoesOn (from : Peer) (before after : WsLayer) (out longer : List Command) : Type 0 where
  pub more : List Command
  pub grown : longer ≡ out ++ more
  pub leads : (terms : Terms) (at : At) (seen : Sight) → IsWorking terms from at seen before → Leads terms (drain_from from terms seen at) seen after more

-- where both sides were worked off
pub record ComesToRest (before after : WsLayer) (out longer : List Command) : Type 0 where
  pub more : List Command
  pub grown : longer ≡ out ++ more
  pub leads : (terms : Terms) (at : At) (seen : Sight) → IsReady terms at seen before → Leads terms (at_rest terms seen at) seen after more

-- behind some frames of a side, this is what was owed for them
abbrev pub onward_with : List Command → Turn Stage Command → Turn Stage Command
onward_with owed turn = record { owed = owed ++ turn.owed; stage = turn.stage }

-- all frames of a side were worked off, or one of them led elsewhere
abbrev pub DrainsTo : Bool → Terms → Peer → Sight → (At → Turn Stage Command) → Turn Stage Command → WsLayer → List Command → Type 0
DrainsTo true terms from seen onward turn after more =
    (at : At) × IsDrained terms from at seen after × (turn ≡ onward_with more (onward at))
DrainsTo false terms from seen onward turn after more = Leads terms turn seen after more

pub record Drains (from : Peer) (before after : WsLayer) (goes : Bool) (out longer : List Command) : Type 0 where
  pub more : List Command
  pub grown : longer ≡ out ++ more
  pub leads : (terms : Terms) (at : At) (seen : Sight) (most : ℕ) (onward : At → Turn Stage Command) →
      IsWorking terms from at seen before → length (unread from seen at) < most →
      DrainsTo goes terms from seen onward (drain_within terms seen from most onward at) after more

-- what was left of the server was heard
pub record HearsPending (before after : WsLayer) : Type 0 where
  pub leads : (terms : Terms) (at : At) (seen : Sight) → IsHalfway terms at seen before → IsWorking terms Server at seen after

-- ---- the calls

-- the sight with bytes of a peer more, or with its close; of a side that is none of the two nothing is seen
abbrev pub with_bytes : Option Peer → Sight → List ℕ → Sight
with_bytes None seen bytes = seen
with_bytes (Some Client) seen bytes = record seen { client = seen.client ++ bytes }
with_bytes (Some Server) seen bytes = record seen { server = seen.server ++ bytes }

abbrev pub with_close : Option Peer → Sight → Sight
with_close None seen = seen
with_close (Some Client) seen = record seen { closed = true }
with_close (Some Server) seen = record seen { shut = true }

-- the peer of a side, where the server has this number
abbrev pub peer_in : ℕ → Side → Option Peer
peer_in server sides.Client = Some Client
peer_in server (sides.Server number) = if number == server then Some Server else None

pub record HearsPiece (peer : Option Peer) (bytes : List ℕ) (before after : WsLayer) (out longer : List Command) : Type 0 where
  pub more : List Command
  pub grown : longer ≡ out ++ more
  pub rests : after.rests ≡ before.rests
  pub leads : (terms : Terms) (at : At) (seen : Sight) → IsAwake terms at seen before →
      let now = with_bytes peer seen bytes in Leads terms (drain_both terms now at) now after more

pub record HearsClose (peer : Option Peer) (before after : WsLayer) (out longer : List Command) : Type 0 where
  pub more : List Command
  pub grown : longer ≡ out ++ more
  pub rests : after.rests ≡ before.rests
  pub leads : (terms : Terms) (at : At) (seen : Sight) → IsAwake terms at seen before →
      let now = with_close peer seen in Leads terms (drain_both terms now at) now after more

-- what was left of both sides is seen, and the server may have closed
abbrev pub sight_opened : Sight → Rests → Bool → Sight
sight_opened seen rests shut = record {
  client = seen.client ++ rests.client;
  closed = seen.closed;
  server = seen.server ++ rests.server;
  shut = if shut then true else seen.shut;
  now = seen.now;
}

pub record Opens (shut : Bool) (before after : WsLayer) (out longer : List Command) : Type 0 where
  pub more : List Command
  pub grown : longer ≡ out ++ more
  pub rests : after.rests ≡ no_rests
  pub leads : (terms : Terms) (at : At) (seen : Sight) → IsAwake terms at seen before →
      let now = sight_opened seen before.rests shut in Leads terms (drain_both terms now at) now after more

-- it begins at this moment, whenever the last event was
pub record BeginsWith (moment : ℕ) (shut : Bool) (before after : WsLayer) (out longer : List Command) : Type 0 where
  pub more : List Command
  pub grown : longer ≡ out ++ more
  pub rests : after.rests ≡ no_rests
  pub leads : (terms : Terms) (at : At) (seen : Sight) (last : ℕ) → IsIn terms before (relaying at) seen →
      let now = sight_opened (record seen { now = last }) before.rests shut in Leads terms (pass terms (relaying (record at { since = Some moment })) now) now after more

-- an event at this moment, where nothing is asked
pub record HearsEvent (moment : ℕ) (event : Event) (before after : WsLayer) (out longer : List Command) : Type 0 where
  pub more : List Command
  pub grown : longer ≡ out ++ more
  pub leads : (terms : Terms) (at : At) (seen : Sight) → IsIn terms before (relaying at) seen →
      let come = come_with terms.server (record { seen = seen; left = before.rests }) (record { moment = moment; value = event }) in
      Leads terms (pass terms (relaying at) come.seen) come.seen after more × (after.rests ≡ come.left)
  pub past_end : before.phase ≡ phases.Over → (after.phase ≡ phases.Over) × (more ≡ [])

-- a turn, and where it goes on from there
abbrev pub passed : Terms → Sight → Turn Stage Command → Turn Stage Command
passed terms seen turn = onward_with turn.owed (pass terms turn.stage seen)

-- a message is sent on in these frames, and its side goes on behind it
abbrev pub sends_on : Terms → Peer → Sight → At → List Frame → Turn Stage Command
sends_on terms from seen at frames =
    onward_with (send_to terms (other from) at.sent frames)
    (drain_from from terms seen (record at { sent = sent_behind (other from) at.sent frames }))

pub record SendsOn (from : Peer) (frames : List Frame) (before after : WsLayer) (out longer : List Command) : Type 0 where
  pub more : List Command
  pub grown : longer ≡ out ++ more
  pub rests : after.rests ≡ before.rests
  pub leads : (terms : Terms) (at : At) (seen : Sight) → IsWorking terms from at seen before → Leads terms (sends_on terms from seen at frames) seen after more

-- the reply to what was asked, where this was held: it is handed the reply at this moment
pub record IsAnswered (terms : Terms) (held : Held) (at : At) (seen : Sight) (before : WsLayer) : Type 0 where
  pub works : IsWorking (terms_at terms at) held.from (record at { messages = at.messages + 1; since = Some before.moment }) seen before
  pub asked : held.moment ≡ moment_at at seen

pub record TakesReply (held : Held) (reply : Reply) (before after : WsLayer) (out longer : List Command) : Type 0 where
  pub more : List Command
  pub grown : longer ≡ out ++ more
  pub rests : after.rests ≡ before.rests
  pub leads : (terms : Terms) (at : At) (seen : Sight) → IsAnswered terms held at seen before →
      Leads terms (passed terms seen (turn_by terms held.from held.message at seen (verdict held.message reply) before.moment)) seen after more

-- the reply to what is asked
pub record Answers (moment : ℕ) (reply : Reply) (before after : WsLayer) (out longer : List Command) : Type 0 where
  pub more : List Command
  pub grown : longer ≡ out ++ more
  pub rests : after.rests ≡ before.rests
  pub leads : (terms : Terms) (from : Peer) (message : Message) (at : At) (seen : Sight) → IsIn terms before (holding from message at) seen →
      Leads terms (passed terms seen (turn terms (holding from message at) seen reply moment)) seen after more

-- ---- a WebSocket by itself

abbrev pub terms_of : WsLayer → Terms
terms_of made = record { flow = made.flow; server = made.sender.server; key = made.sender.keys.key }

abbrev pub chain_of : WsLayer → Chain Stage Event Reply Command
chain_of made = own_chain (terms_of made) made.rests

abbrev pub come_of : WsLayer → List (Timed Event) → Come
come_of made prefix = come_over made.sender.server (first_come made.rests) prefix

-- what is left of both sides until it begins
abbrev pub KeepsRests : WsLayer → WsLayer → Stage → List (Timed Event) → Type 0
KeepsRests made state over prefix = ⊤
KeepsRests made state stage prefix = state.rests ≡ (come_of made prefix).left

pub record IsAt (made state : WsLayer) (stage : Stage) (prefix : List (Timed Event)) : Type 0 where
  pub is_in : IsIn (terms_of made) state stage (come_of made prefix).seen
  pub rests : KeepsRests made state stage prefix

-- what a state stands for: its chain is that of what it was made with
abbrev pub WsStands : WsLayer → WsLayer → List Move → List Command → Type 0
WsStands made state moves given = StandsAt (chain_of made) (relaying first_at) (IsAt made) state moves given
