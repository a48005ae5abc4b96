-- A WebSocket: what its layer gives is what its stage owes, where it begins, over one event more and behind a reply.
use Rattle.std.proofs.Common.{◌≡◌, ℕ, ◌≤◌, ◌<◌, Bool, true, false, List, [], ◌∷◌, ◌++◌, length, drop, Option, Some, None, refl, ap, sym, ◌∙◌, subst, arith, append_assoc}
use Rattle.std.specs.Prelude.{◌||◌, ◌&&◌, not, if◌then◌else◌, IfOk, Result, Ok, Err}
use Rattle.std.specs.Global.{Box}
use Rattle.px_message.specs.declared.flow.Flow.{Flow}
use Rattle.px_event.specs.declared.ask.Ask.{Ask}
use Rattle.px_event.specs.declared.command.Command.{Command}
use Rattle.px_event.specs.declared.event.Event.{Event}
use Rattle.px_event.specs.declared.event.Event.TheVariants as events
use Rattle.px_event.specs.declared.event.Rests.{Rests}
use Rattle.px_event.specs.declared.reply.Reply.{Reply}
use Rattle.px_event.specs.declared.side.Side.TheVariants.{Client, Server}
use Rattle.px_event.specs.Chain.{Timed, Look, NotYet, Asks, Ends, Turn}
use Rattle.px_event.specs.Layer.{AsksOnly}
use Rattle.px_event.specs.View.{seen_of}
use Rattle.px_event.proofs.Steps.{Takes, Resumes, onward}
use Rattle.px_event.specs.Sides.{closes, piece_of}
use Rattle.px_chain.specs.Streams.{bytes_of, client_closed, last_moment}
use Rattle.px_relay.specs.declared.layer.WsLayer.{WsLayer}
use Rattle.px_relay.specs.declared.peer.Peer.{Peer}
use Rattle.px_relay.specs.declared.phase.Phase.{Phase}
use Rattle.px_relay.specs.declared.phase.Phase.TheVariants as phases
use Rattle.px_relay.specs.Chain.{begins_at, first_at, pass, turn}
use Rattle.px_relay.specs.Messages.{Message}
use Rattle.px_relay.specs.Sending.{Terms}
use Rattle.px_relay.specs.Sights.{Sight, come_with, no_rests, nothing_seen}
use Rattle.px_relay.specs.Stages.{At, Stage as Frames, holding, over as frames_over, relaying}
use Rattle.px_relay.specs.Stands.{Answers, BeginsWith, HearsEvent, IsIn, Leads, Somewhere, awaited_in, awaits, is_over, passed, sight_opened}
use Rattle.px_stack.specs.declared.child.Child.{Child}
use Rattle.px_stack.specs.declared.child.Child.TheVariants as children
use Rattle.px_stack.specs.declared.closing.Sides.{Sides}
use Rattle.px_stack.specs.Chain.{is_shut, socket_sight, socket_terms, stack_chain, text_down, text_up, upgrades}
use Rattle.px_stack.specs.Kept.{awaited_by, left_by, most_asked, socket_left}
use Rattle.px_stack.specs.Sockets.{agrees, is_websocket}
use Rattle.px_stack.specs.Stages.{Ends as TunnelEnds, Stage, Visitor, asking, connecting, http, over, raw, reaching, socket, undecided}
use Rattle.px_stack.specs.Stands.{IsChild, IsFraming, IsSomewhere, Keeps, KeepsBy}
use Rattle.px_stack.specs.Steps.{Adds, Arrives, BeginsSocket, GoesOnAs, MayRelay, Relays, ResumesChild, TakesChild, comes_by, comes_to}
use Rattle.px_stack.proofs.MessageLemmas.{answered_left, heard_left, relaying_left}
use Rattle.px_stack.proofs.RelayLemmas.{client_closes, client_more, down_more, longer_bytes, opened_more, server_closes, server_more, up_more}

-- ---- what is seen of it

sight_as : (client client' server server' : List ℕ) (closed closed' shut shut' : Bool) (now now' : ℕ) → client ≡ client' → closed ≡ closed' → server ≡ server' → shut ≡ shut' → now ≡ now' →
    (let a : Sight = record { client = client; closed = closed; server = server; shut = shut; now = now } in a)
    ≡ (let b : Sight = record { client = client'; closed = closed'; server = server'; shut = shut'; now = now' } in b)
sight_as client client' server server' closed closed' shut shut' now now' p q r s t = rw (p, q, r, s, t) refl

-- the moment of the last event
last_is : (moment : ℕ) (prefix : List (Timed Event)) (e : Timed Event) → last_moment moment (prefix ++ e ∷ []) ≡ e.moment
last_is moment [] e = refl
last_is moment (f ∷ prefix) e = last_is f.moment prefix e

-- nothing is left of either side, and neither has closed: with one event more it sees what that brings
comes_as : (server : ℕ) (up down : List ℕ) (closed shut : Bool) (was moment : ℕ) (event : Event) → closed ≡ false → shut ≡ false →
    (come_with server (record { seen = record { client = up; closed = closed; server = down; shut = shut; now = was }; left = no_rests }) (record { moment = moment; value = event })).seen
    ≡ (let now : Sight = record {
      client = up ++ piece_of Client event;
      closed = closes Client event;
      server = down ++ piece_of (Server server) event;
      shut = closes (Server server) event;
      now = moment;
    } in now)
comes_as server up down closed shut was moment events.Begun open_still unshut = sight_as _ _ _ _ _ _ _ _ _ _ refl open_still refl unshut refl
comes_as server up down closed shut was moment (events.Piece side bytes) open_still unshut =
    sight_as _ _ _ _ _ _ _ _ _ _ refl (ap (λ b. b || false) open_still) refl (ap (λ b. b || false) unshut) refl
comes_as server up down closed shut was moment (events.Closed side) open_still unshut =
    sight_as _ _ _ _ _ _ _ _ _ _ refl (ap (λ b. b || closes Client (events.Closed side)) open_still) refl
    (ap (λ b. b || closes (Server server) (events.Closed side)) unshut) refl
comes_as server up down closed shut was moment (events.Answered ask reply) open_still unshut =
    sight_as _ _ _ _ _ _ _ _ _ _ refl (ap (λ b. b || false) open_still) refl (ap (λ b. b || false) unshut) refl

none_left : (server : ℕ) (seen : Sight) (moment : ℕ) (event : Event) →
    (come_with server (record { seen = seen; left = no_rests }) (record { moment = moment; value = event })).left ≡ no_rests
none_left server seen moment events.Begun = refl
none_left server seen moment (events.Piece side bytes) = refl
none_left server seen moment (events.Closed side) = refl
none_left server seen moment (events.Answered ask reply) = refl

module _ (ends : TunnelEnds) (prefix : List (Timed Event)) (e : Timed Event) (open_still : client_closed prefix ≡ false) (unshut : is_shut ends.link prefix ≡ false)
    (opened : ends.link.opened ≤ length prefix) (used : ends.used ≤ length (bytes_of Client prefix))
    (side_used : ends.link.used ≤ length (bytes_of (Server ends.link.server) (drop ends.link.opened prefix))) where
  sees_more : (come_with ends.link.server (record { seen = socket_sight ends prefix; left = no_rests }) e).seen ≡ socket_sight ends (prefix ++ e ∷ [])
  sees_more =
      comes_as ends.link.server (text_up ends prefix) (text_down ends prefix) (client_closed prefix) (is_shut ends.link prefix) (last_moment 0 prefix) e.moment e.value
      open_still unshut
      ∙ sight_as _ _ _ _ _ _ _ _ _ _ (sym (up_more ends.link prefix e open_still unshut opened ends.used used)) (sym (client_closes ends.link prefix e open_still unshut opened))
      (sym (down_more ends.link prefix e open_still unshut opened side_used)) (sym (server_closes ends.link prefix e open_still unshut opened)) (sym (last_is 0 prefix e))

-- ---- where one is kept

pub data IsKeptSocket (key : List ℕ) (kept : WsLayer) (stage : Stage) (prefix : List (Timed Event)) : Type 0 where
  by_relaying : (ends : TunnelEnds) (flow : Flow) (at : At) → stage ≡ socket ends flow (relaying at) → IsFraming key ends flow (relaying at) prefix kept →
      IsKeptSocket key kept stage prefix
  by_holding : (ends : TunnelEnds) (flow : Flow) (from : Peer) (message : Message) (at : At) → stage ≡ socket ends flow (holding from message at) →
      IsFraming key ends flow (holding from message at) prefix kept → IsKeptSocket key kept stage prefix

same_socket : (a b : Box WsLayer) → children.Socket a ≡ children.Socket b → a ≡ b
same_socket a b is = cc

keeps_by : (l : Look Command) (conv : ℕ) (client : Visitor) (kept : Box WsLayer) (stage : Stage) (prefix : List (Timed Event)) →
    KeepsBy l conv client (children.Socket kept) stage prefix → Keeps conv client (children.Socket kept) stage prefix
keeps_by NotYet conv client kept stage prefix is = is
keeps_by (Asks ask) conv client kept stage prefix is = is
keeps_by (Ends owed) conv client kept stage prefix is = absurd (let no : children.Socket kept ≡ children.Over = is in cc)

module _ (conv : ℕ) (client : Visitor) (kept : Box WsLayer) where
  keeps_at : (stage : Stage) (prefix : List (Timed Event)) → IsChild conv client (children.Socket kept) stage prefix → Keeps conv client (children.Socket kept) stage prefix
  keeps_at stage prefix is = keeps_by ((stack_chain conv client).look stage prefix) conv client kept stage prefix is

  pub kept_socket : (stage : Stage) (prefix : List (Timed Event)) → IsChild conv client (children.Socket kept) stage prefix → IsKeptSocket client.key kept.value stage prefix
  kept_socket (asking front) prefix is =
      let there = keeps_at (asking front) prefix is in absurd (let no : children.Socket kept ≡ children.Asking there.layer = there.is in cc)
  kept_socket (http place standing) prefix is =
      let there = keeps_at (http place standing) prefix is in absurd (let no : children.Socket kept ≡ children.Http there.flows = there.is in cc)
  kept_socket (connecting tunnel) prefix is =
      let there = keeps_at (connecting tunnel) prefix is in absurd (let no : children.Socket kept ≡ children.Connecting there.kept there.closed = there.is in cc)
  kept_socket (reaching goal link since) prefix is =
      let there = keeps_at (reaching goal link since) prefix is in absurd (let no : children.Socket kept ≡ children.Reaching there.kept = there.is in cc)
  kept_socket (undecided tunnel link since) prefix is =
      let there = keeps_at (undecided tunnel link since) prefix is in absurd (let no : children.Socket kept ≡ children.Undecided there.kept there.server = there.is in cc)
  kept_socket (raw ends) prefix is =
      let there = keeps_at (raw ends) prefix is in absurd (let no : children.Socket kept ≡ children.Raw there.kept = there.is in cc)
  kept_socket (socket ends flow (relaying at)) prefix is =
      let P : Box WsLayer → Type 0 = λ k. IsFraming client.key ends flow (relaying at) prefix k.value in
      by_relaying ends flow at refl (subst P (sym (same_socket kept is.layer is.is)) is.framing)
  kept_socket (socket ends flow (holding from message at)) prefix is =
      let P : Box WsLayer → Type 0 = λ k. IsFraming client.key ends flow (holding from message at) prefix k.value in
      by_holding ends flow from message at refl (subst P (sym (same_socket kept is.layer is.is)) is.framing)
  kept_socket (socket ends flow frames_over) prefix is = absurd (let no : children.Socket kept ≡ children.Over = is in cc)
  kept_socket over prefix is = absurd (let no : children.Socket kept ≡ children.Over = is in cc)

somewhere_at : (key : List ℕ) (kept : WsLayer) (stage : Stage) (prefix : List (Timed Event)) → IsKeptSocket key kept stage prefix → Somewhere kept
somewhere_at key kept stage prefix (by_relaying ends flow at is framing) = (socket_terms key ends flow, relaying at, socket_sight ends prefix, framing.there)
somewhere_at key kept stage prefix (by_holding ends flow from message at is framing) =
    (socket_terms key ends flow, holding from message at, socket_sight ends prefix, framing.there)

-- its layer is somewhere
pub socket_somewhere : (conv : ℕ) (client : Visitor) (kept : Box WsLayer) → IsSomewhere conv client (children.Socket kept) → Somewhere kept.value
socket_somewhere conv client kept (stage, prefix, is) = somewhere_at client.key kept.value stage prefix (kept_socket conv client kept stage prefix is)

-- ---- behind a call

module _ (conv : ℕ) (client : Visitor) (ends : TunnelEnds) (flow : Flow) (prefix : List (Timed Event)) (kept : Box WsLayer) (next : Child) (comes : next ≡ comes_to kept) where
  goes_on : is_over kept.value.phase ≡ false → next ≡ children.Socket kept
  goes_on is = comes ∙ ap (λ b. comes_by b kept) is

  settled : (frames : Frames) → IsFraming client.key ends flow frames prefix kept.value → IsChild conv client next (socket ends flow frames) prefix
  settled (relaying at) framing = record { layer = kept; is = goes_on (ap is_over framing.there.ready.between.phase); framing = framing }
  settled (holding from message at) framing = record { layer = kept; is = goes_on (ap is_over framing.there.phase); framing = framing }
  settled frames_over framing = comes ∙ ap (λ b. comes_by b kept) (ap is_over framing.there)

-- ---- where it begins

if_same : (b : Bool) → (if b then true else false) ≡ b
if_same true = refl
if_same false = refl

terms_as : (flow : Flow) (server server' : ℕ) (key key' : List ℕ) → server ≡ server' → key ≡ key' →
    (let a : Terms = record { flow = flow; server = server; key = key } in a) ≡ (let b : Terms = record { flow = flow; server = server'; key = key' } in b)
terms_as flow server server' key key' p q = rw (p, q) refl

-- what one is made with
abbrev first_terms : List ℕ → Sides → Flow → Terms
first_terms key sides flow = record { flow = record flow { websocket = true }; server = sides.server; key = key }

module _ (key : List ℕ) (moment : ℕ) (sides : Sides) (rests : Rests) (flow : Flow) (made : WsLayer) (kept : Box WsLayer) (out mid : List Command)
    (same_rests : made.rests ≡ rests) (is_new : IsIn (first_terms key sides flow) made (relaying first_at) nothing_seen)
    (begins : BeginsWith moment sides.shut made kept.value out mid) where
  module _ (conv : ℕ) (client : Visitor) (ends : TunnelEnds) (prefix : List (Timed Event)) (keyed : client.key ≡ key) (open_still : client_closed prefix ≡ false)
      (may : MayRelay ends prefix sides rests (Some flow)) (next : Child) (comes : next ≡ comes_to kept) where
    abbrev its_flow : Flow
    its_flow = record flow { websocket = true }

    abbrev its_terms : Terms
    its_terms = socket_terms client.key ends its_flow

    abbrev begun_to : Turn Frames Command
    begun_to = pass its_terms (relaying (begins_at moment)) (socket_sight ends prefix)

    abbrev last : ℕ
    last = last_moment 0 prefix

    seen_first : sight_opened (record nothing_seen { now = last }) made.rests sides.shut ≡ socket_sight ends prefix
    seen_first =
        ap (λ r. sight_opened (record nothing_seen { now = last }) r sides.shut) same_rests
        ∙ sight_as _ _ _ _ _ _ _ _ _ _ may.up (sym open_still) may.down (if_same sides.shut ∙ may.shut) refl

    leads : Leads its_terms begun_to (socket_sight ends prefix) kept.value begins.more
    leads =
        let P : Terms → Type 0 = λ terms. IsIn terms made (relaying first_at) nothing_seen in
        let new : IsIn its_terms made (relaying first_at) nothing_seen = subst P (terms_as its_flow sides.server ends.link.server key client.key may.server (sym keyed)) is_new in
        let Q : Sight → Type 0 = λ seen. Leads its_terms (pass its_terms (relaying (begins_at moment)) seen) seen kept.value begins.more in
        subst Q seen_first (begins.leads its_terms first_at nothing_seen last new)

    first_framing : IsFraming client.key ends its_flow begun_to.stage prefix kept.value
    first_framing = record {
      there = leads.is_in;
      rests = begins.rests;
      used = may.used;
      side_used = may.side_used;
      opened = may.opened;
    }

    begins_there : Arrives conv client next begins.more (socket ends its_flow (relaying (begins_at moment))) prefix
    begins_there = record {
      there = settled conv client ends its_flow prefix kept next comes begun_to.stage first_framing;
      gives = λ view. ap (seen_of view) leads.gives;
    }

  pub begun_socket : (next : Child) → next ≡ comes_to kept → Adds (BeginsSocket key moment sides rests flow next) out mid
  begun_socket next comes = record {
    more = begins.more;
    grown = begins.grown;
    holds = λ conv client ends prefix keyed open_still may. begins_there conv client ends prefix keyed open_still may next comes;
  }

  pub begun_left : socket_left kept.value ≤ most_asked
  begun_left =
      let terms = first_terms key sides flow in
      let now = sight_opened nothing_seen made.rests sides.shut in
      let less = heard_left terms kept.value (begins_at moment) now (begins.leads terms first_at nothing_seen 0 is_new).is_in in
      omega arith

-- ---- one event

module _ (kept after : Box WsLayer) (moment : ℕ) (event : Event) (out mid : List Command) (hears : HearsEvent moment event kept.value after.value out mid) where
  module _ (conv : ℕ) (client : Visitor) (ends : TunnelEnds) (flow : Flow) (at : At) (prefix : List (Timed Event))
      (framing : IsFraming client.key ends flow (relaying at) prefix kept.value) (next : Child) (comes : next ≡ comes_to after) where
    abbrev e : Timed Event
    e = record { moment = moment; value = event }

    abbrev longer : List (Timed Event)
    longer = prefix ++ e ∷ []

    abbrev terms : Terms
    terms = socket_terms client.key ends flow

    abbrev heard_to : Turn Frames Command
    heard_to = pass terms (relaying at) (socket_sight ends longer)

    open_still : client_closed prefix ≡ false
    open_still = framing.there.open_still

    unshut : is_shut ends.link prefix ≡ false
    unshut = framing.there.unshut

    heard : (now : Rests) → kept.value.rests ≡ now →
        let come = come_with ends.link.server (record { seen = socket_sight ends prefix; left = now }) e in
        Leads terms (pass terms (relaying at) come.seen) come.seen after.value hears.more × (after.value.rests ≡ come.left)
    heard now is =
        let P : Rests → Type 0 = λ r. let come = come_with ends.link.server (record { seen = socket_sight ends prefix; left = r }) e in
        Leads terms (pass terms (relaying at) come.seen) come.seen after.value hears.more × (after.value.rests ≡ come.left) in
        subst P is (hears.leads terms at (socket_sight ends prefix) framing.there)

    heard_leads : Leads terms heard_to (socket_sight ends longer) after.value hears.more
    heard_leads =
        let Q : Sight → Type 0 = λ seen. Leads terms (pass terms (relaying at) seen) seen after.value hears.more in
        subst Q (sees_more ends prefix e open_still unshut framing.opened framing.used framing.side_used) (heard no_rests framing.rests).0

    heard_framing : IsFraming client.key ends flow heard_to.stage longer after.value
    heard_framing = record {
      there = heard_leads.is_in;
      rests = (heard no_rests framing.rests).1 ∙ none_left ends.link.server (socket_sight ends prefix) moment event;
      used = longer_bytes ends.used _ _ _ (client_more ends.link prefix e open_still unshut framing.opened) framing.used;
      side_used = longer_bytes ends.link.used _ _ _ (server_more ends.link prefix e open_still unshut framing.opened) framing.side_used;
      opened = opened_more ends.link.opened prefix e framing.opened;
    }

    takes_there : Takes (stack_chain conv client) (IsChild conv client) next moment event hears.more (socket ends flow (relaying at)) prefix
    takes_there =
        onward refl (settled conv client ends flow longer after next comes heard_to.stage heard_framing) (λ view. ap (seen_of view) heard_leads.gives)

    takes_fewer : socket_left after.value ≤ socket_left kept.value
    takes_fewer =
        let less = heard_left terms after.value at (socket_sight ends longer) heard_leads.is_in in
        let had = relaying_left terms kept.value at (socket_sight ends prefix) framing.there in
        omega arith

  module _ (conv : ℕ) (client : Visitor) (next : Child) (comes : next ≡ comes_to after) (free : awaits kept.value ≡ None) where
    -- what is held is asked
    held_free : (ends : TunnelEnds) (flow : Flow) (from : Peer) (message : Message) (at : At) (prefix : List (Timed Event)) →
        IsFraming client.key ends flow (holding from message at) prefix kept.value → ⊥
    held_free ends flow from message at prefix framing = let no : Some _ ≡ None = ap (λ p. awaited_in kept.value.flow p) (sym framing.there.phase) ∙ free in cc

    takes_by : (stage : Stage) (prefix : List (Timed Event)) → IsKeptSocket client.key kept.value stage prefix →
        Takes (stack_chain conv client) (IsChild conv client) next moment event hears.more stage prefix
    takes_by stage prefix (by_relaying ends flow at is framing) =
        let P : Stage → Type 0 = λ s. Takes (stack_chain conv client) (IsChild conv client) next moment event hears.more s prefix in
        subst P (sym is) (takes_there conv client ends flow at prefix framing next comes)
    takes_by stage prefix (by_holding ends flow from message at is framing) = absurd (held_free ends flow from message at prefix framing)

    takes_all : TakesChild conv client (children.Socket kept) next moment event hears.more
    takes_all stage prefix is = takes_by stage prefix (kept_socket conv client kept stage prefix is)

    fewer_by : (stage : Stage) (prefix : List (Timed Event)) → IsKeptSocket client.key kept.value stage prefix → socket_left after.value ≤ socket_left kept.value
    fewer_by stage prefix (by_relaying ends flow at is framing) = takes_fewer conv client ends flow at prefix framing next comes
    fewer_by stage prefix (by_holding ends flow from message at is framing) = absurd (held_free ends flow from message at prefix framing)

  pub takes_socket : (next : Child) → next ≡ comes_to after → awaits kept.value ≡ None →
      Adds (λ more. (conv : ℕ) (client : Visitor) → TakesChild conv client (children.Socket kept) next moment event more) out mid
  takes_socket next comes free = record { more = hears.more; grown = hears.grown; holds = λ conv client. takes_all conv client next comes free }

  -- no more asks may follow
  pub fewer_somewhere : (conv : ℕ) (client : Visitor) → awaits kept.value ≡ None → IsSomewhere conv client (children.Socket kept) →
      socket_left after.value ≤ socket_left kept.value
  fewer_somewhere conv client free (stage, prefix, is) =
      fewer_by conv client (comes_to after) refl free stage prefix (kept_socket conv client kept stage prefix is)

-- ---- a reply

module _ (kept after : Box WsLayer) (moment : ℕ) (reply : Reply) (out mid : List Command) (answers : Answers moment reply kept.value after.value out mid) where
  module _ (conv : ℕ) (client : Visitor) (ends : TunnelEnds) (flow : Flow) (from : Peer) (message : Message) (at : At) (prefix : List (Timed Event))
      (framing : IsFraming client.key ends flow (holding from message at) prefix kept.value) (next : Child) (comes : next ≡ comes_to after) where
    abbrev asked_terms : Terms
    asked_terms = socket_terms client.key ends flow

    abbrev turned : Turn Frames Command
    turned = turn asked_terms (holding from message at) (socket_sight ends prefix) reply moment

    abbrev passes : Turn Frames Command
    passes = pass asked_terms turned.stage (socket_sight ends prefix)

    answer_leads : Leads asked_terms (passed asked_terms (socket_sight ends prefix) turned) (socket_sight ends prefix) after.value answers.more
    answer_leads = answers.leads asked_terms from message at (socket_sight ends prefix) framing.there

    answer_framing : IsFraming client.key ends flow passes.stage prefix after.value
    answer_framing = record {
      there = answer_leads.is_in;
      rests = answers.rests ∙ framing.rests;
      used = framing.used;
      side_used = framing.side_used;
      opened = framing.opened;
    }

    resumes_there : Resumes (stack_chain conv client) (IsChild conv client) next moment reply answers.more (socket ends flow (holding from message at)) prefix
    resumes_there = record {
      ask = _;
      asked = refl;
      place = settled conv client ends flow prefix after next comes passes.stage answer_framing;
      gives = λ view. ap (seen_of view) (answer_leads.gives ∙ append_assoc turned.owed passes.owed _);
    }

    resumes_fewer : socket_left after.value < socket_left kept.value
    resumes_fewer = answered_left asked_terms from message at (socket_sight ends prefix) moment kept.value after.value framing.there reply answer_leads.is_in

  module _ (conv : ℕ) (client : Visitor) (next : Child) (comes : next ≡ comes_to after) (waits : awaits kept.value ≡ None → ⊥) where
    -- where it relays nothing is asked
    relaying_waits : (ends : TunnelEnds) (flow : Flow) (at : At) (prefix : List (Timed Event)) → IsFraming client.key ends flow (relaying at) prefix kept.value → ⊥
    relaying_waits ends flow at prefix framing = waits (ap (λ p. awaited_in kept.value.flow p) framing.there.ready.between.phase)

    resumes_by : (stage : Stage) (prefix : List (Timed Event)) → IsKeptSocket client.key kept.value stage prefix →
        Resumes (stack_chain conv client) (IsChild conv client) next moment reply answers.more stage prefix
    resumes_by stage prefix (by_relaying ends flow at is framing) = absurd (relaying_waits ends flow at prefix framing)
    resumes_by stage prefix (by_holding ends flow from message at is framing) =
        let P : Stage → Type 0 = λ s. Resumes (stack_chain conv client) (IsChild conv client) next moment reply answers.more s prefix in
        subst P (sym is) (resumes_there conv client ends flow from message at prefix framing next comes)

    resumes_all : ResumesChild conv client (children.Socket kept) next moment reply answers.more
    resumes_all stage prefix is = resumes_by stage prefix (kept_socket conv client kept stage prefix is)

    less_by : (stage : Stage) (prefix : List (Timed Event)) → IsKeptSocket client.key kept.value stage prefix → socket_left after.value < socket_left kept.value
    less_by stage prefix (by_relaying ends flow at is framing) = absurd (relaying_waits ends flow at prefix framing)
    less_by stage prefix (by_holding ends flow from message at is framing) = resumes_fewer conv client ends flow from message at prefix framing next comes

  pub resumes_socket : (next : Child) → next ≡ comes_to after → (awaits kept.value ≡ None → ⊥) →
      Adds (λ more. (conv : ℕ) (client : Visitor) → ResumesChild conv client (children.Socket kept) next moment reply more) out mid
  resumes_socket next comes waits = record { more = answers.more; grown = answers.grown; holds = λ conv client. resumes_all conv client next comes waits }

  -- one ask less may follow
  pub less_somewhere : (conv : ℕ) (client : Visitor) → (awaits kept.value ≡ None → ⊥) → IsSomewhere conv client (children.Socket kept) →
      socket_left after.value < socket_left kept.value
  less_somewhere conv client waits (stage, prefix, is) =
      less_by conv client (comes_to after) refl waits stage prefix (kept_socket conv client kept stage prefix is)

-- ---- what is asked, and how much is left

none_awaited : (flow : Flow) (phase : Phase) → is_over phase ≡ true → awaited_in flow phase ≡ None
none_awaited flow phases.Relaying is = absurd (let no : false ≡ true = is in cc)
none_awaited flow (phases.Holding held) is = absurd (let no : false ≡ true = is in cc)
none_awaited flow phases.Over is = refl

awaited_behind : (kept : Box WsLayer) (ended : Bool) → is_over kept.value.phase ≡ ended → awaits kept.value ≡ awaited_by (comes_by ended kept)
awaited_behind kept true is = none_awaited kept.value.flow kept.value.phase is
awaited_behind kept false is = refl

left_behind : (kept : Box WsLayer) (ended : Bool) → left_by (comes_by ended kept) ≤ socket_left kept.value
left_behind kept true = omega arith
left_behind kept false = omega arith

module _ (kept : Box WsLayer) (next : Child) (comes : next ≡ comes_to kept) where
  pub asks_so : (out given : List Command) → AsksOnly (awaits kept.value) out given → AsksOnly (awaited_by next) out given
  asks_so out given asks =
      let P : Option Ask → Type 0 = λ ask. AsksOnly ask out given in
      subst P (awaited_behind kept (is_over kept.value.phase) refl ∙ ap awaited_by (sym comes)) asks

  pub left_so : left_by next ≤ socket_left kept.value
  left_so = let P : Child → Type 0 = λ child. left_by child ≤ socket_left kept.value in subst P (sym comes) (left_behind kept (is_over kept.value.phase))

-- ---- what follows a response of code 101

still_open : (agrees closed : Bool) → (agrees && not closed) ≡ true → closed ≡ false
still_open true true is = absurd (let no : false ≡ true = is in cc)
still_open true false is = refl
still_open false closed is = absurd (let no : false ≡ true = is in cc)

module _ (key : List ℕ) (moment : ℕ) (sides : Sides) (rests : Rests) (flow : Flow) where
  goes_as : (b : Bool) (conv : ℕ) (client : Visitor) (ends : TunnelEnds) (prefix : List (Timed Event)) (next : Child) (more : List Command) → is_websocket flow sides.closed ≡ b →
      sides.closed ≡ client_closed prefix → Arrives conv client next more (upgrades b flow moment ends) prefix →
      Arrives conv client next more (upgrades (is_websocket flow (client_closed prefix)) flow moment ends) prefix
  goes_as b conv client ends prefix next more is closed arrives =
      let P : Bool → Type 0 = λ b. Arrives conv client next more (upgrades b flow moment ends) prefix in
      subst P (sym is ∙ ap (is_websocket flow) closed) arrives

  pub goes_on_socket : {E : Type 0} (out given : List Command) (result : Result Child E) → is_websocket flow sides.closed ≡ true →
      IfOk result (λ next. Adds (BeginsSocket key moment sides rests flow next) out given) → IfOk result (λ next. Adds (GoesOnAs key moment sides rests flow next) out given)
  goes_on_socket out given (Ok next) is begins = record {
    more = begins.more;
    grown = begins.grown;
    holds = λ conv client ends prefix keyed may.
        goes_as true conv client ends prefix next begins.more is may.closed
        (begins.holds conv client ends prefix keyed (sym may.closed ∙ still_open (agrees flow.request.fields flow.response) sides.closed is) may);
  }
  goes_on_socket out given (Err error) is begins = tt

  pub goes_on_raw : {E : Type 0} (out given : List Command) (result : Result Child E) → is_websocket flow sides.closed ≡ false →
      IfOk result (λ next. Adds (Relays sides rests (Some flow) next) out given) → IfOk result (λ next. Adds (GoesOnAs key moment sides rests flow next) out given)
  goes_on_raw out given (Ok next) is relays = record {
    more = relays.more;
    grown = relays.grown;
    holds = λ conv client ends prefix keyed may. goes_as false conv client ends prefix next relays.more is may.closed (relays.holds conv client ends prefix may);
  }
  goes_on_raw out given (Err error) is relays = tt
