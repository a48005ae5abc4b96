-- The laws of the layer's calls, from what they do wherever they stand.
use Rattle.std.proofs.Common.{◌≡◌, ◌≢◌, ◌∙◌, ℕ, List, [], ◌∷◌, ◌++◌, append_assoc, All, Some, None, refl, sym, ap, subst, arith}
use Rattle.px_event.specs.declared.command.Command.{Command}
use Rattle.px_event.specs.declared.event.Event.{Event}
use Rattle.px_event.specs.declared.reply.Reply.{Reply}
use Rattle.px_event.specs.Chain.{Timed, found}
use Rattle.px_event.specs.Layer.{Goes, IsSound, MayAnswer, Replied, Took}
use Rattle.px_event.specs.View.{seen_of}
use Rattle.px_event.proofs.Steps.{Resumes, Takes, onward, past_end, resume_goes, take_goes}
use Rattle.px_relay.specs.declared.half.Half.{Half as HalfState}
use Rattle.px_relay.specs.declared.layer.WsLayer.{WsLayer}
use Rattle.px_relay.specs.declared.peer.Peer.{Peer}
use Rattle.px_relay.specs.declared.peer.Peer.TheVariants.{Client, Server}
use Rattle.px_relay.specs.declared.phase.Held.{Held}
use Rattle.px_relay.specs.declared.phase.Phase.{Phase}
use Rattle.px_relay.specs.declared.phase.Phase.TheVariants as phases
use Rattle.px_relay.specs.Calls.{AllWritable, IsWritable, half_in}
use Rattle.px_relay.specs.Chain.{first_at, look, pass, turn}
use Rattle.px_relay.specs.Fronts.{frames_writable}
use Rattle.px_relay.specs.Laws.{settles}
use Rattle.px_relay.specs.Peers.{is_client}
use Rattle.px_relay.specs.Sending.{Terms}
use Rattle.px_relay.specs.Sights.{Come, Sight, come_over, come_with, first_come, seen_over}
use Rattle.px_relay.specs.Stages.{At, Half, Stage, half_of, holding, over, relaying, standing}
use Rattle.px_relay.specs.Stands.{Answers, HearsEvent, IsAt, IsBeside, IsIn, IsQueued, KeepsRests, Leads, Somewhere, WsStands, awaited_in, awaits, chain_of, come_of, terms_of}

-- ---- what is seen over one event more

pub come_append : (server : ℕ) (come : Come) (prefix : List (Timed Event)) (e : Timed Event) →
    come_over server come (prefix ++ e ∷ []) ≡ come_with server (come_over server come prefix) e
come_append server come [] e = refl
come_append server come (f ∷ prefix) e = come_append server (come_with server come f) prefix e

-- ---- an event

keeps_rests : (made after : WsLayer) (stage : Stage) (prefix : List (Timed Event)) → after.rests ≡ (come_of made prefix).left → KeepsRests made after stage prefix
keeps_rests made after (relaying at) prefix is = is
keeps_rests made after (holding from message at) prefix is = is
keeps_rests made after over prefix is = tt

event_takes : (made before after : WsLayer) (moment : ℕ) (event : Event) (out longer : List Command) (hears : HearsEvent moment event before after out longer) →
    awaits before ≡ None → (stage : Stage) (prefix : List (Timed Event)) → IsAt made before stage prefix →
    Takes (chain_of made) (IsAt made) after moment event hears.more stage prefix
event_takes made before after moment event out longer hears free (relaying at) prefix there =
    let terms = terms_of made in
    let e : Timed Event = record { moment = moment; value = event } in
    let come : Come = record { seen = (come_of made prefix).seen; left = before.rests } in
    let now : come_with terms.server come e ≡ come_of made (prefix ++ e ∷ []) =
    ap (λ r. come_with terms.server (record { seen = (come_of made prefix).seen; left = r }) e) there.rests
    ∙ sym (come_append terms.server (first_come made.rests) prefix e) in
    let did = hears.leads terms at (come_of made prefix).seen there.is_in in
    let leads : Leads terms (pass terms (relaying at) (come_of made (prefix ++ e ∷ [])).seen) (come_of made (prefix ++ e ∷ [])).seen after hears.more =
    subst (λ (c : Come). Leads terms (pass terms (relaying at) c.seen) c.seen after hears.more) now did.0 in
    onward refl
    (record {
      is_in = leads.is_in;
      rests = keeps_rests made after (pass terms (relaying at) (come_of made (prefix ++ e ∷ [])).seen).stage (prefix ++ e ∷ [])
          (did.1 ∙ ap (λ (c : Come). c.left) now);
    })
    (λ view. ap (seen_of view) leads.gives)
event_takes made before after moment event out longer hears free (holding from message at) prefix there =
    absurd (let no : Some _ ≡ None = ap (λ p. awaited_in before.flow p) (sym there.is_in.phase) ∙ free in cc)
event_takes made before after moment event out longer hears free over prefix there =
    let ended = hears.past_end there.is_in in
    past_end [] refl (record { is_in = ended.0; rests = tt }) (λ view. ap (seen_of view) ended.1)

pub event_goes : (before after : WsLayer) (moment : ℕ) (event : Event) (out longer : List Command) → awaits before ≡ None → HearsEvent moment event before after out longer →
    Goes WsStands before after (Took moment event) out longer
event_goes before after moment event out longer free hears =
    take_goes chain_of (λ made. settles (terms_of made) (seen_over (terms_of made).server made.rests)) (λ made. relaying first_at) (λ made. IsAt made)
    before after moment event hears.more out longer hears.grown
    (λ made stage prefix _ there. event_takes made before after moment event out longer hears free stage prefix there)

-- ---- a reply

reply_resumes : (made before after : WsLayer) (moment : ℕ) (reply : Reply) (held : Held) (out longer : List Command) (answers : Answers moment reply before after out longer) →
    before.phase ≡ phases.Holding held → (stage : Stage) (prefix : List (Timed Event)) → IsAt made before stage prefix →
    Resumes (chain_of made) (IsAt made) after moment reply answers.more stage prefix
reply_resumes made before after moment reply held out longer answers phase (relaying at) prefix there =
    absurd (let no : phases.Relaying ≡ phases.Holding held = sym there.is_in.ready.between.phase ∙ phase in cc)
reply_resumes made before after moment reply held out longer answers phase (holding from message at) prefix there =
    let terms = terms_of made in
    let seen = (come_of made prefix).seen in
    let t = turn terms (holding from message at) seen reply moment in
    let leads = answers.leads terms from message at seen there.is_in in
    record {
      ask = _;
      asked = refl;
      place = record { is_in = leads.is_in; rests = keeps_rests made after (pass terms t.stage seen).stage prefix (answers.rests ∙ there.rests) };
      gives = λ view. ap (seen_of view) (leads.gives ∙ append_assoc t.owed (pass terms t.stage seen).owed (found (look terms (pass terms t.stage seen).stage)));
    }
reply_resumes made before after moment reply held out longer answers phase over prefix there =
    absurd (let no : phases.Over ≡ phases.Holding held = sym there.is_in ∙ phase in cc)

pub reply_goes : (before after : WsLayer) (moment : ℕ) (reply : Reply) (held : Held) (out longer : List Command) → before.phase ≡ phases.Holding held →
    Answers moment reply before after out longer → Goes WsStands before after (Replied moment reply) out longer
reply_goes before after moment reply held out longer phase answers =
    resume_goes chain_of (λ made. settles (terms_of made) (seen_over (terms_of made).server made.rests)) (λ made. relaying first_at) (λ made. IsAt made)
    before after moment reply answers.more out longer answers.grown
    (λ made stage prefix _ there. reply_resumes made before after moment reply held out longer answers phase stage prefix there)

-- what may be answered is awaited
pub may_answer : (state : WsLayer) (reply : Reply) → MayAnswer (awaits state) reply → awaits state ≢ None
may_answer state reply may none = subst (λ a. MayAnswer a reply) none may

held_by : (before after : WsLayer) (moment : ℕ) (reply : Reply) (out longer : List Command) (phase : Phase) → before.phase ≡ phase →
    MayAnswer (awaited_in before.flow phase) reply → Answers moment reply before after out longer → Goes WsStands before after (Replied moment reply) out longer
held_by before after moment reply out longer phases.Relaying is may answers = absurd may
held_by before after moment reply out longer (phases.Holding held) is may answers = reply_goes before after moment reply held out longer is answers
held_by before after moment reply out longer phases.Over is may answers = absurd may

pub asked_goes : (before after : WsLayer) (moment : ℕ) (reply : Reply) (out longer : List Command) → MayAnswer (awaits before) reply →
    Answers moment reply before after out longer → Goes WsStands before after (Replied moment reply) out longer
asked_goes before after moment reply out longer may answers = held_by before after moment reply out longer before.phase refl may answers

-- ---- where it stands

pub sound_somewhere : (state : WsLayer) → IsSound WsStands state → Somewhere state
sound_somewhere state (made, past, given, stands) = (terms_of made, _, _, stands.place.is_in)

none_writable : (half : HalfState) → half.queue.items ≡ [] → AllWritable half
none_writable half none = subst (All IsWritable) (sym none) (λ k d less. absurd (omega arith))

-- all frames that wait may be written
pub record BothWritable (state : WsLayer) : Type 0 where
  pub client : AllWritable state.client
  pub server : AllWritable state.server

queued_writable : (peer : Peer) (half : Half) (messages : ℕ) (bytes : List ℕ) (state : HalfState) → IsQueued peer half messages bytes state → AllWritable state
queued_writable peer half messages bytes state is = frames_writable (is_client peer) (standing half messages) _ state.queue.items is.end is.frames

both_by : (from : Peer) (at : At) (seen : Sight) (state : WsLayer) → AllWritable (half_in from state) → IsBeside from at seen state → BothWritable state
both_by Client at seen state writable beside = record { client = writable; server = none_writable state.server beside.queue }
both_by Server at seen state writable beside = record { client = none_writable state.client beside.0.queue; server = writable }

writable_at : (terms : Terms) (stage : Stage) (seen : Sight) (state : WsLayer) → IsIn terms state stage seen → (state.phase ≡ phases.Over → ⊥) → BothWritable state
writable_at terms (relaying at) seen state is live =
    record { client = none_writable state.client is.ready.between.client.queue; server = none_writable state.server is.ready.between.server.queue }
writable_at terms (holding from message at) seen state is live =
    both_by from at seen state (queued_writable from (half_of from at) _ _ (half_in from state) is.queued) is.beside
writable_at terms over seen state is live = absurd (live is)

pub both_writable : (state : WsLayer) → Somewhere state → (state.phase ≡ phases.Over → ⊥) → BothWritable state
both_writable state (terms, stage, seen, is) live = writable_at terms stage seen state is live

live : (state : WsLayer) → state.phase ≡ phases.Relaying → state.phase ≡ phases.Over → ⊥
live state is other = let no : phases.Relaying ≡ phases.Over = sym is ∙ other in cc

pub relaying_client : (state : WsLayer) → Somewhere state → state.phase ≡ phases.Relaying → AllWritable state.client
relaying_client state somewhere is = (both_writable state somewhere (live state is)).client

pub relaying_server : (state : WsLayer) → Somewhere state → state.phase ≡ phases.Relaying → AllWritable state.server
relaying_server state somewhere is = (both_writable state somewhere (live state is)).server

held_live : (state : WsLayer) (held : Held) → state.phase ≡ phases.Holding held → state.phase ≡ phases.Over → ⊥
held_live state held is other = let no : phases.Holding held ≡ phases.Over = sym is ∙ other in cc

pub holding_client : (state : WsLayer) (held : Held) → Somewhere state → state.phase ≡ phases.Holding held → AllWritable state.client
holding_client state held somewhere is = (both_writable state somewhere (held_live state held is)).client

pub holding_server : (state : WsLayer) (held : Held) → Somewhere state → state.phase ≡ phases.Holding held → AllWritable state.server
holding_server state held somewhere is = (both_writable state somewhere (held_live state held is)).server
