-- Both sides, one behind the other, and where they rest.
use Rattle.std.proofs.Common.{◌≡◌, ◌∙◌, ℕ, suc, ◌-◌, ◌||◌, ◌==◌, if◌then◌else◌, Bool, true, false, List, [], ◌∷◌, ◌++◌, append_assoc, append-nil, length, refl, sym, ap, ap₂, subst, arith}
use Rattle.std.proofs.lemmas.Bool.{eqb-true}
use Rattle.px_event.specs.declared.command.Command.{Command}
use Rattle.px_event.specs.Chain.{Turn}
use Rattle.px_message.specs.declared.messages.WsRecord.{WsRecord}
use Rattle.px_frame.specs.Frames.{front}
use Rattle.px_frame.specs.Head.{has_length}
use Rattle.px_relay.specs.declared.half.Half.{Half as HalfState}
use Rattle.px_relay.specs.declared.layer.WsLayer.{WsLayer}
use Rattle.px_relay.specs.declared.peer.Peer.{Peer}
use Rattle.px_relay.specs.declared.peer.Peer.TheVariants.{Client, Server}
use Rattle.px_relay.specs.declared.phase.Phase.TheVariants as phases
use Rattle.px_relay.specs.Calls.{Hears, ends_of}
use Rattle.px_relay.specs.Chain.{at_rest, drain_both, drain_server, ends, terms_at, unread}
use Rattle.px_relay.specs.Laws.{IsIdle, both_idle, drain_idle}
use Rattle.px_relay.specs.Messages.{payload_so_far}
use Rattle.px_relay.specs.Peers.{is_client}
use Rattle.px_relay.specs.Sending.{Terms, with_records}
use Rattle.px_relay.specs.Sights.{Sight, bytes_of}
use Rattle.px_relay.specs.Stages.{At, Stage, half_of, holding, most_messages, over, relaying, rested}
use Rattle.px_relay.specs.Stands.{ComesToRest, Drains, GoesOn, HearsPending, IsReady, IsRelaying, IsUnheard, Leads}
use Rattle.px_relay.proofs.DrainLemmas.{leads_onward, over_leads}
use Rattle.px_relay.proofs.HalfLemmas.{hears_queued, unheard_queued}
use Rattle.px_relay.proofs.SendLemmas.{ends_same}
use Rattle.px_relay.proofs.WorkLemmas.{same_terms}

pub joined : (first second third : List Command) (one two : List Command) → second ≡ first ++ one → third ≡ second ++ two → third ≡ first ++ (one ++ two)
joined first second third one two p q = q ∙ (ap (λ (l : List Command). l ++ two) p ∙ append_assoc first one two)

-- ---- the server's frames, and then rest

pub server_rests : (before mid after : WsLayer) (out between longer : List Command) → Drains Server before mid true out between →
    ComesToRest mid after between longer → GoesOn Server before after out longer
server_rests before mid after out between longer drains comes = record {
  more = drains.more ++ comes.more;
  grown = joined out between longer drains.more comes.more drains.grown comes.grown;
  leads = λ terms at seen works.
      let d = drains.leads terms at seen (suc (length (unread Server seen at))) (at_rest terms seen) works (omega arith) in
      subst (λ (t : Turn Stage Command). Leads terms t seen after (drains.more ++ comes.more)) (sym d.2)
      (leads_onward terms (at_rest terms seen d.0) seen after drains.more comes.more (comes.leads terms d.0 seen d.1));
}

pub server_stops : (before after : WsLayer) (out longer : List Command) → Drains Server before after false out longer → GoesOn Server before after out longer
server_stops before after out longer drains = record {
  more = drains.more;
  grown = drains.grown;
  leads = λ terms at seen works. drains.leads terms at seen (suc (length (unread Server seen at))) (at_rest terms seen) works (omega arith);
}

-- ---- the client's frames, and then the server's

pub client_goes : (before mid heard after : WsLayer) (out between longer : List Command) → Drains Client before mid true out between → HearsPending mid heard →
    GoesOn Server heard after between longer → GoesOn Client before after out longer
client_goes before mid heard after out between longer drains hears goes = record {
  more = drains.more ++ goes.more;
  grown = joined out between longer drains.more goes.more drains.grown goes.grown;
  leads = λ terms at seen works.
      let d = drains.leads terms at seen (suc (length (unread Client seen at))) (drain_server terms seen) works (omega arith) in
      subst (λ (t : Turn Stage Command). Leads terms t seen after (drains.more ++ goes.more)) (sym d.2)
      (leads_onward terms (drain_server terms seen d.0) seen after drains.more goes.more (goes.leads terms d.0 seen (hears.leads terms d.0 seen d.1)));
}

pub client_stops : (before after : WsLayer) (out longer : List Command) → Drains Client before after false out longer → GoesOn Client before after out longer
client_stops before after out longer drains = record {
  more = drains.more;
  grown = drains.grown;
  leads = λ terms at seen works. drains.leads terms at seen (suc (length (unread Client seen at))) (drain_server terms seen) works (omega arith);
}

-- ---- what was left of the server

pub pending_none : (state : WsLayer) → state.pending ≡ [] → HearsPending state state
pending_none state none = record {
  leads = λ terms at seen halfway. let is = halfway.between in record {
    made = is.made;
    phase = is.phase;
    messages = is.messages;
    records = is.records;
    moment = halfway.moment;
    queued = unheard_queued Server at.server at.messages seen.server state.server
        (subst (λ (p : List ℕ). IsUnheard Server at.server seen.server p state.server) none is.server);
    beside = (is.client, none);
  };
}

empty_bytes : (bytes : List ℕ) → (length bytes == 0) ≡ true → bytes ≡ []
empty_bytes [] is = refl
empty_bytes (byte ∷ bytes) is = absurd (let n = eqb-true (length (byte ∷ bytes)) 0 is in omega arith)

pub pending_empty : (state : WsLayer) (none : Bool) → none ≡ (length state.pending == 0) → none ≡ true → HearsPending state state
pending_empty state none is empty = pending_none state (empty_bytes state.pending (sym is ∙ empty))

pub pending_heard : (before : WsLayer) (heard : HalfState) → Hears before.server before.pending (most_messages - before.messages) heard →
    HearsPending before (record before { pending = []; server = heard })
pending_heard before heard hears = record {
  leads = λ terms at seen halfway. let is = halfway.between in record {
    made = record { flow = is.made.flow; server = is.made.server; keys = is.made.keys; closed = is.made.closed; shut = is.made.shut };
    phase = is.phase;
    messages = is.messages;
    records = is.records;
    moment = halfway.moment;
    queued = hears_queued Server at.server at.messages seen.server before.pending before.server heard is.server
        (subst (λ n. Hears before.server before.pending (most_messages - n) heard) is.messages hears);
    beside = (is.client, refl);
  };
}

-- ---- a side of which nothing is left to be heard is idle

or_self : (a b : Bool) → a ≡ b → a ≡ (a || b)
or_self true b is = refl
or_self false b is = is

pub unheard_idle : (peer : Peer) (at : At) (seen : Sight) (state : HalfState) → IsUnheard peer (half_of peer at) (bytes_of peer seen) [] state → IsIdle peer seen at
unheard_idle peer at seen state is =
    let all : unread peer seen at ≡ is.kept = is.come ∙ append-nil is.kept in
    record {
      none = ap₂ (λ (j : Bool) (b : List ℕ). front (is_client peer) (record { begun = payload_so_far (half_of peer at).begun; left = most_messages - at.messages; judged = j }) b) is.judged all
          ∙ is.idle (most_messages - at.messages);
      judged = or_self (half_of peer at).judged (has_length (unread peer seen at)) (is.judged ∙ ap has_length (sym all));
    }

-- so what goes on behind the server's message is what goes on behind both
pub client_first : (terms : Terms) (at : At) (seen : Sight) (state : HalfState) → IsUnheard Client at.client seen.client [] state →
    drain_both terms seen at ≡ drain_server terms seen at
client_first terms at seen state is =
    drain_idle terms seen Client (length (unread Client seen at)) (drain_server terms seen) at (unheard_idle Client at seen state is)

pub still_relaying : (terms : Terms) (at : At) (seen : Sight) → seen.closed ≡ false → seen.shut ≡ false →
    at_rest terms seen at ≡ record { owed = []; stage = relaying (rested at) }
still_relaying terms at seen closed shut = rw (closed, shut) refl

pub both_unheard : (terms : Terms) (at : At) (seen : Sight) (state : WsLayer) → IsUnheard Client at.client seen.client [] state.client →
    IsUnheard Server at.server seen.server [] state.server → drain_both terms seen at ≡ at_rest terms seen at
both_unheard terms at seen state client server =
    both_idle terms seen at (unheard_idle Client at seen state.client client) (unheard_idle Server at seen state.server server)

-- ---- what is found at a place does not hang on what the flow had before

leads_by : (terms : Terms) (records : List WsRecord) (owed : List Command) (stage : Stage) (seen : Sight) (after : WsLayer) (more : List Command) →
    Leads (with_records terms records) (record { owed = owed; stage = stage }) seen after more → Leads terms (record { owed = owed; stage = stage }) seen after more
leads_by terms records owed (relaying at) seen after more leads = record { gives = leads.gives; is_in = leads.is_in }
leads_by terms records owed (holding from message at) seen after more leads = record { gives = leads.gives; is_in = leads.is_in }
leads_by terms records owed over seen after more leads = record { gives = leads.gives; is_in = leads.is_in }

pub leads_there : (terms : Terms) (records : List WsRecord) (turn : Turn Stage Command) (seen : Sight) (after : WsLayer) (more : List Command) →
    Leads (with_records terms records) turn seen after more → Leads terms turn seen after more
leads_there terms records turn seen after more leads = leads_by terms records turn.owed turn.stage seen after more leads

-- ---- where no frame waits

-- it is there once all that stands there was worked off
pub rested_there : (terms : Terms) (at : At) (seen : Sight) (state : WsLayer) → IsReady terms at seen state → seen.closed ≡ false → seen.shut ≡ false →
    IsRelaying (terms_at terms at) (rested at) seen state
rested_there terms at seen state ready open_still unshut =
    let is = ready.between in
    let by : IsRelaying terms (rested at) seen state = record {
      ready = record {
        between = record { made = is.made; phase = is.phase; messages = is.messages; records = is.records; client = is.client; server = is.server };
        pending = ready.pending;
      };
      open_still = open_still;
      unshut = unshut;
      rests = refl;
    } in
    subst (λ (t : Terms). IsRelaying t (rested at) seen state) (sym (same_terms terms at.records is.records)) by

pub rests_on : (state : WsLayer) (out : List Command) → state.closed ≡ false → state.shut ≡ false → ComesToRest state state out out
rests_on state out closed shut = record {
  more = [];
  grown = sym (append-nil out);
  leads = λ terms at seen ready.
      let made = ready.between.made in
      let open_still = sym made.closed ∙ closed in
      let unshut = sym made.shut ∙ shut in
      subst (λ (t : Turn Stage Command). Leads terms t seen state []) (sym (still_relaying terms at seen open_still unshut))
      (record { gives = refl; is_in = rested_there terms at seen state ready open_still unshut });
}

ends_by : (terms : Terms) (at : At) (seen : Sight) (b : Bool) → b ≡ true →
    (let turn : Turn Stage Command = if b then record { owed = ends terms seen terms.flow; stage = over } else record { owed = []; stage = relaying (rested at) } in turn)
    ≡ record { owed = ends terms seen terms.flow; stage = over }
ends_by terms at seen b is = ap (λ c. if c then record { owed = ends terms seen terms.flow; stage = over } else record { owed = []; stage = relaying (rested at) }) is

pub rests_over : (before after : WsLayer) (out longer : List Command) → (before.closed || before.shut) ≡ true → after.phase ≡ phases.Over →
    longer ≡ out ++ ends_of before → ComesToRest before after out longer
rests_over before after out longer closed over_there grown = record {
  more = ends_of before;
  grown = grown;
  leads = λ terms at seen ready.
      let made = ready.between.made in
      let ended = ends_by terms at seen (seen.closed || seen.shut) (ap₂ (λ (a b : Bool). a || b) (sym made.closed) (sym made.shut) ∙ closed) in
      over_leads terms (at_rest terms seen at) seen after (ends_of before)
      (ends_same terms at.sent seen before made ∙ sym (ap (λ (t : Turn Stage Command). t.owed) ended)) (ap (λ (t : Turn Stage Command). t.stage) ended) over_there;
}
