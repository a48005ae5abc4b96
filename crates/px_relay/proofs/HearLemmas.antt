-- What is heard: bytes of a side, its close, and what was left of both when it begins.
use Rattle.std.proofs.Common.{◌≡◌, ◌∙◌, ℕ, ◌-◌, ◌==◌, ◌||◌, if◌then◌else◌, Bool, true, false, List, [], ◌++◌, append-nil, Option, Some, None, unwrap_or, Result, Ok, Err, OnOk, refl, sym, ap, ap₂, subst}
use Rattle.std.specs.Prelude.{⊤}
use Rattle.px_text.specs.declared.no_memory.NoMemory.{NoMemory}
use Rattle.px_message.specs.declared.flow.Flow.{Flow}
use Rattle.px_event.specs.declared.command.Command.{Command}
use Rattle.px_event.specs.declared.event.Event.{Event}
use Rattle.px_event.specs.declared.event.Event.TheVariants as events
use Rattle.px_event.specs.declared.event.Rests.{Rests}
use Rattle.px_event.specs.declared.ask.Ask.{Ask}
use Rattle.px_event.specs.declared.reply.Reply.{Reply}
use Rattle.px_event.specs.declared.side.Side.{Side}
use Rattle.px_event.specs.declared.side.Side.TheVariants as sides
use Rattle.px_event.specs.Chain.{Timed, Turn}
use Rattle.px_relay.specs.declared.half.Half.{Half as HalfState}
use Rattle.px_relay.specs.declared.layer.WsLayer.{WsLayer}
use Rattle.px_relay.specs.declared.peer.Peer.{Peer}
use Rattle.px_relay.specs.declared.peer.Peer.TheVariants.{Client, Server}
use Rattle.px_relay.specs.declared.phase.Phase.{Phase}
use Rattle.px_relay.specs.declared.phase.Phase.TheVariants as phases
use Rattle.px_relay.specs.Calls.{Hears}
use Rattle.px_relay.specs.Chain.{drain_both, pass, terms_at}
use Rattle.px_relay.specs.Sending.{Terms}
use Rattle.px_relay.specs.Sights.{Sight, no_rests, sight_with}
use Rattle.px_relay.specs.Stages.{At, Stage, most_messages, relaying}
use Rattle.px_relay.specs.Stands.{BeginsWith, ComesToRest, GoesOn, HearsClose, HearsEvent, HearsPiece, IsAwake, IsIn, IsReady, IsRelaying, IsUnheard, IsWorking, Leads, Opens, awaited_in, is_over, peer_in, sight_opened, with_bytes, with_close}
use Rattle.px_relay.proofs.GoesLemmas.{both_unheard, client_first, leads_there, rested_there, still_relaying}
use Rattle.px_relay.proofs.HalfLemmas.{hears_queued, unheard_more}

-- the server's side, of which nothing is pending
server_unheard : (terms : Terms) (at : At) (seen : Sight) (state : WsLayer) → IsReady terms at seen state → IsUnheard Server at.server seen.server [] state.server
server_unheard terms at seen state ready =
    subst (λ (p : List ℕ). IsUnheard Server at.server seen.server p state.server) ready.pending ready.between.server

-- ---- bytes

pub client_heard : (before after : WsLayer) (heard : HalfState) (bytes : List ℕ) (out longer : List Command) →
    Hears before.client bytes (most_messages - before.messages) heard → GoesOn Client (record before { client = heard }) after out longer →
    after.rests ≡ before.rests → HearsPiece (Some Client) bytes before after out longer
client_heard before after heard bytes out longer hears goes rests = record {
  more = goes.more;
  grown = goes.grown;
  rests = rests;
  leads = λ terms at seen awake.
      let is = awake.ready.between in
      let now : Sight = record seen { client = seen.client ++ bytes } in
      goes.leads terms at now (record {
        made = record { flow = is.made.flow; server = is.made.server; keys = is.made.keys; closed = is.made.closed; shut = is.made.shut };
        phase = is.phase;
        messages = is.messages;
        records = is.records;
        moment = awake.moment;
        queued = hears_queued Client at.client at.messages now.client bytes before.client heard (unheard_more Client at.client seen.client bytes before.client is.client)
            (subst (λ n. Hears before.client bytes (most_messages - n) heard) is.messages hears);
        beside = is.server;
      });
}

pub server_heard : (before after : WsLayer) (heard : HalfState) (bytes : List ℕ) (out longer : List Command) →
    Hears before.server bytes (most_messages - before.messages) heard → GoesOn Server (record before { server = heard }) after out longer →
    after.rests ≡ before.rests → HearsPiece (Some Server) bytes before after out longer
server_heard before after heard bytes out longer hears goes rests = record {
  more = goes.more;
  grown = goes.grown;
  rests = rests;
  leads = λ terms at seen awake.
      let is = awake.ready.between in
      let now : Sight = record seen { server = seen.server ++ bytes } in
      subst (λ (t : Turn Stage Command). Leads terms t now after goes.more) (sym (client_first terms at now before.client is.client))
      (goes.leads terms at now (record {
        made = record { flow = is.made.flow; server = is.made.server; keys = is.made.keys; closed = is.made.closed; shut = is.made.shut };
        phase = is.phase;
        messages = is.messages;
        records = is.records;
        moment = awake.moment;
        queued = hears_queued Server at.server at.messages now.server bytes before.server heard
            (unheard_more Server at.server seen.server bytes before.server (server_unheard terms at seen before awake.ready))
            (subst (λ n. Hears before.server bytes (most_messages - n) heard) is.messages hears);
        beside = (is.client, awake.ready.pending);
      }));
}

-- where memory is there
pub client_hears : (result : Result ⊤ NoMemory) (before after : WsLayer) (heard : HalfState) (bytes : List ℕ) (out longer : List Command) →
    Hears before.client bytes (most_messages - before.messages) heard → OnOk result (GoesOn Client (record before { client = heard }) after out longer) →
    OnOk result (after.rests ≡ before.rests) → OnOk result (HearsPiece (Some Client) bytes before after out longer)
client_hears (Ok done) before after heard bytes out longer hears goes rests = client_heard before after heard bytes out longer hears goes rests
client_hears (Err error) before after heard bytes out longer hears goes rests = tt

pub server_hears : (result : Result ⊤ NoMemory) (before after : WsLayer) (heard : HalfState) (bytes : List ℕ) (out longer : List Command) →
    Hears before.server bytes (most_messages - before.messages) heard → OnOk result (GoesOn Server (record before { server = heard }) after out longer) →
    OnOk result (after.rests ≡ before.rests) → OnOk result (HearsPiece (Some Server) bytes before after out longer)
server_hears (Ok done) before after heard bytes out longer hears goes rests = server_heard before after heard bytes out longer hears goes rests
server_hears (Err error) before after heard bytes out longer hears goes rests = tt

-- nothing changes of what is none of its two sides
stays_there : (terms : Terms) (at : At) (seen : Sight) (state : WsLayer) → IsAwake terms at seen state → Leads terms (drain_both terms seen at) seen state []
stays_there terms at seen state is =
    subst (λ (t : Turn Stage Command). Leads terms t seen state [])
    (sym (both_unheard terms at seen state is.ready.between.client (server_unheard terms at seen state is.ready) ∙ still_relaying terms at seen is.open_still is.unshut))
    (record { gives = refl; is_in = rested_there terms at seen state is.ready is.open_still is.unshut })

pub nothing_heard : (state : WsLayer) (bytes : List ℕ) (out : List Command) → HearsPiece None bytes state state out out
nothing_heard state bytes out = record {
  more = [];
  grown = sym (append-nil out);
  rests = refl;
  leads = λ terms at seen is. stays_there terms at seen state is;
}

-- ---- closes

pub no_close : (state : WsLayer) (out : List Command) → HearsClose None state state out out
no_close state out = record {
  more = [];
  grown = sym (append-nil out);
  rests = refl;
  leads = λ terms at seen is. stays_there terms at seen state is;
}

pub client_closes : (before after : WsLayer) (out longer : List Command) → ComesToRest (record before { closed = true }) after out longer →
    after.rests ≡ before.rests → HearsClose (Some Client) before after out longer
client_closes before after out longer comes rests = record {
  more = comes.more;
  grown = comes.grown;
  rests = rests;
  leads = λ terms at seen awake.
      let is = awake.ready.between in
      let now : Sight = record seen { closed = true } in
      let server = server_unheard terms at seen before awake.ready in
      subst (λ (t : Turn Stage Command). Leads terms t now after comes.more) (sym (both_unheard terms at now before is.client server))
      (comes.leads terms at now (record {
        between = record {
          made = record { flow = is.made.flow; server = is.made.server; keys = is.made.keys; closed = refl; shut = is.made.shut };
          phase = is.phase;
          messages = is.messages;
          records = is.records;
          client = is.client;
          server = is.server;
        };
        pending = awake.ready.pending;
      }));
}

pub server_closes : (before after : WsLayer) (out longer : List Command) → ComesToRest (record before { shut = true }) after out longer →
    after.rests ≡ before.rests → HearsClose (Some Server) before after out longer
server_closes before after out longer comes rests = record {
  more = comes.more;
  grown = comes.grown;
  rests = rests;
  leads = λ terms at seen awake.
      let is = awake.ready.between in
      let now : Sight = record seen { shut = true } in
      let server = server_unheard terms at seen before awake.ready in
      subst (λ (t : Turn Stage Command). Leads terms t now after comes.more) (sym (both_unheard terms at now before is.client server))
      (comes.leads terms at now (record {
        between = record {
          made = record { flow = is.made.flow; server = is.made.server; keys = is.made.keys; closed = is.made.closed; shut = refl };
          phase = is.phase;
          messages = is.messages;
          records = is.records;
          client = is.client;
          server = is.server;
        };
        pending = awake.ready.pending;
      }));
}

-- of the side that closed
module _ (result : Result ⊤ NoMemory) (peer : Option Peer) (before after : WsLayer) (out longer : List Command) where
  pub client_close_heard : peer ≡ Some Client → OnOk result (ComesToRest (record before { closed = true }) after out longer) → OnOk result (after.rests ≡ before.rests) →
      OnOk result (HearsClose peer before after out longer)
  client_close_heard is comes rests = by result comes rests
    where
      by : (result : Result ⊤ NoMemory) → OnOk result (ComesToRest (record before { closed = true }) after out longer) → OnOk result (after.rests ≡ before.rests) →
          OnOk result (HearsClose peer before after out longer)
      by (Ok done) comes rests = subst (λ (p : Option Peer). HearsClose p before after out longer) (sym is) (client_closes before after out longer comes rests)
      by (Err error) comes rests = tt

  pub server_close_heard : peer ≡ Some Server → OnOk result (ComesToRest (record before { shut = true }) after out longer) → OnOk result (after.rests ≡ before.rests) →
      OnOk result (HearsClose peer before after out longer)
  server_close_heard is comes rests = by result comes rests
    where
      by : (result : Result ⊤ NoMemory) → OnOk result (ComesToRest (record before { shut = true }) after out longer) → OnOk result (after.rests ≡ before.rests) →
          OnOk result (HearsClose peer before after out longer)
      by (Ok done) comes rests = subst (λ (p : Option Peer). HearsClose p before after out longer) (sym is) (server_closes before after out longer comes rests)
      by (Err error) comes rests = tt

-- ---- the beginning

pub opens_with : (shut : Bool) (before mid after : WsLayer) (heard : HalfState) (out longer : List Command) →
    mid ≡ record before { rests = no_rests; pending = before.rests.server; shut = if shut then true else before.shut; client = heard } →
    Hears before.client before.rests.client (most_messages - before.messages) heard → GoesOn Client mid after out longer →
    after.rests ≡ no_rests → Opens shut before after out longer
opens_with shut before mid after heard out longer same hears goes rests = record {
  more = goes.more;
  grown = goes.grown;
  rests = rests;
  leads = λ terms at seen awake.
      let is = awake.ready.between in
      let now = sight_opened seen before.rests shut in
      goes.leads terms at now (subst (IsWorking terms Client at now) (sym same) (record {
        made = record {
          flow = is.made.flow;
          server = is.made.server;
          keys = is.made.keys;
          closed = is.made.closed;
          shut = ap (λ b. if shut then true else b) is.made.shut;
        };
        phase = is.phase;
        messages = is.messages;
        records = is.records;
        moment = awake.moment;
        queued = hears_queued Client at.client at.messages now.client before.rests.client before.client heard
            (unheard_more Client at.client seen.client before.rests.client before.client is.client)
            (subst (λ n. Hears before.client before.rests.client (most_messages - n) heard) is.messages hears);
        beside = unheard_more Server at.server seen.server before.rests.server before.server (server_unheard terms at seen before awake.ready);
      }));
}

-- ---- an event

or_nothing : (b : Bool) → (b || false) ≡ b
or_nothing true = refl
or_nothing false = refl

or_all : (b : Bool) → (b || true) ≡ true
or_all true = refl
or_all false = refl

same_sight : (one two : Sight) → one.client ≡ two.client → one.closed ≡ two.closed → one.server ≡ two.server → one.shut ≡ two.shut → one.now ≡ two.now → one ≡ two
same_sight one two client closed server shut now =
    ap₂ (λ (c : List ℕ) (b : Bool). record { client = c; closed = b; server = one.server; shut = one.shut; now = one.now }) client closed
    ∙ (ap₂ (λ (s : List ℕ) (b : Bool). record { client = two.client; closed = two.closed; server = s; shut = b; now = one.now }) server shut
    ∙ ap (λ n. record two { now = n }) now)

-- an event at this moment, and what is seen at it
abbrev pub at_moment : ℕ → Event → Timed Event
at_moment moment event = record { moment = moment; value = event }

abbrev pub now_seen : ℕ → Sight → Sight
now_seen moment seen = record seen { now = moment }

module _ (moment : ℕ) (server : ℕ) (seen : Sight) where
  piece_by : (number : ℕ) (b : Bool) (bytes : List ℕ) → (number == server) ≡ b →
      sight_with server seen (at_moment moment (events.Piece (sides.Server number) bytes)) ≡ with_bytes (if b then Some Server else None) (now_seen moment seen) bytes
  piece_by number true bytes is =
      same_sight (sight_with server seen (at_moment moment (events.Piece (sides.Server number) bytes))) (record seen { server = seen.server ++ bytes; now = moment })
      (append-nil seen.client) (or_nothing seen.closed) (ap (λ b. seen.server ++ (if b then bytes else [])) is) (or_nothing seen.shut) refl
  piece_by number false bytes is =
      same_sight (sight_with server seen (at_moment moment (events.Piece (sides.Server number) bytes))) (now_seen moment seen)
      (append-nil seen.client) (or_nothing seen.closed) (ap (λ b. seen.server ++ (if b then bytes else [])) is ∙ append-nil seen.server) (or_nothing seen.shut) refl

  pub piece_sight : (side : Side) (bytes : List ℕ) →
      sight_with server seen (at_moment moment (events.Piece side bytes)) ≡ with_bytes (peer_in server side) (now_seen moment seen) bytes
  piece_sight sides.Client bytes =
      same_sight (sight_with server seen (at_moment moment (events.Piece sides.Client bytes))) (record seen { client = seen.client ++ bytes; now = moment })
      refl (or_nothing seen.closed) (append-nil seen.server) (or_nothing seen.shut) refl
  piece_sight (sides.Server number) bytes = piece_by number (number == server) bytes refl

  close_by : (number : ℕ) (b : Bool) → (number == server) ≡ b →
      sight_with server seen (at_moment moment (events.Closed (sides.Server number))) ≡ with_close (if b then Some Server else None) (now_seen moment seen)
  close_by number true is =
      same_sight (sight_with server seen (at_moment moment (events.Closed (sides.Server number)))) (record seen { shut = true; now = moment })
      (append-nil seen.client) (or_nothing seen.closed) (append-nil seen.server) (ap (λ b. seen.shut || b) is ∙ or_all seen.shut) refl
  close_by number false is =
      same_sight (sight_with server seen (at_moment moment (events.Closed (sides.Server number)))) (now_seen moment seen)
      (append-nil seen.client) (or_nothing seen.closed) (append-nil seen.server) (ap (λ b. seen.shut || b) is ∙ or_nothing seen.shut) refl

  pub close_sight : (side : Side) → sight_with server seen (at_moment moment (events.Closed side)) ≡ with_close (peer_in server side) (now_seen moment seen)
  close_sight sides.Client =
      same_sight (sight_with server seen (at_moment moment (events.Closed sides.Client))) (record seen { closed = true; now = moment })
      (append-nil seen.client) (or_all seen.closed) (append-nil seen.server) (or_nothing seen.shut) refl
  close_sight (sides.Server number) = close_by number (number == server) refl

not_over : (state : WsLayer) → state.phase ≡ phases.Relaying → state.phase ≡ phases.Over → ⊥
not_over state is other = let no : phases.Relaying ≡ phases.Over = sym is ∙ other in cc

pub opens : (result : Result ⊤ NoMemory) (shut : Bool) (before mid after : WsLayer) (heard : HalfState) (out longer : List Command) →
    mid ≡ record before { rests = no_rests; pending = before.rests.server; shut = if shut then true else before.shut; client = heard } →
    Hears before.client before.rests.client (most_messages - before.messages) heard → OnOk result (GoesOn Client mid after out longer) →
    OnOk result (after.rests ≡ no_rests) → OnOk result (Opens shut before after out longer)
opens (Ok done) shut before mid after heard out longer same hears goes rests = opens_with shut before mid after heard out longer same hears goes rests
opens (Err error) shut before mid after heard out longer same hears goes rests = tt

-- as the call has it: what was left was taken from the state, and the rest of it set
pub opens_taken : (result : Result ⊤ NoMemory) (shut : Bool) (before taken after : WsLayer) (given : Rests) (heard : HalfState) (bytes : List ℕ) (left : ℕ) (out longer : List Command) →
    taken ≡ record before { rests = no_rests; shut = if shut then true else before.shut } → given ≡ before.rests → bytes ≡ given.client →
    left ≡ most_messages - before.messages → Hears taken.client bytes left heard →
    OnOk result (GoesOn Client (record taken { pending = given.server; client = heard }) after out longer) →
    OnOk result (after.rests ≡ taken.rests) → OnOk result (Opens shut before after out longer)
opens_taken (Err error) shut before taken after given heard bytes left out longer is value same count hears goes rests = tt
opens_taken (Ok done) shut before taken after given heard bytes left out longer is value same count hears goes rests =
    let mid : record taken { pending = given.server; client = heard }
    ≡ record before { rests = no_rests; pending = before.rests.server; shut = if shut then true else before.shut; client = heard } =
    ap₂ (λ (s : WsLayer) (r : Rests). record s { pending = r.server; client = heard }) is value in
    let first : Hears before.client before.rests.client (most_messages - before.messages) heard =
    subst (λ n. Hears before.client before.rests.client n heard) count
    (subst (λ (b : List ℕ). Hears before.client b left heard) (same ∙ ap (λ (r : Rests). r.client) value)
    (subst (λ (h : HalfState). Hears h bytes left heard) (ap (λ (s : WsLayer). s.client) is) hears)) in
    opens_with shut before _ after heard out longer mid first goes (rests ∙ ap (λ (s : WsLayer). s.rests) is)

-- it was handed something at a moment, since when it stands or not
awaken : (terms : Terms) (at : At) (since : Option ℕ) (seen : Sight) (now moment : ℕ) (state : WsLayer) → IsRelaying terms at seen state → moment ≡ unwrap_or since now →
    IsAwake terms (record at { since = since }) (record seen { now = now }) (record state { moment = moment })
awaken terms at since seen now moment state is same =
    let b = is.ready.between in
    record {
      ready = record {
        between = record {
          made = record { flow = b.made.flow; server = b.made.server; keys = b.made.keys; closed = b.made.closed; shut = b.made.shut };
          phase = b.phase;
          messages = b.messages;
          records = b.records;
          client = b.client;
          server = b.server;
        };
        pending = is.ready.pending;
      };
      open_still = is.open_still;
      unshut = is.unshut;
      moment = same;
    }

-- by an event
awake_at : (terms : Terms) (at : At) (seen : Sight) (moment : ℕ) (state : WsLayer) → IsIn terms state (relaying at) seen →
    IsAwake (terms_at terms at) at (now_seen moment seen) (record state { moment = moment })
awake_at terms at seen moment state is = awaken (terms_at terms at) at at.since seen moment moment state is (sym (ap (λ (s : Option ℕ). unwrap_or s moment) is.rests))

pub begins_by : (moment : ℕ) (shut : Bool) (before after : WsLayer) (out longer : List Command) → Opens shut (record before { moment = moment }) after out longer →
    BeginsWith moment shut before after out longer
begins_by moment shut before after out longer opens = record {
  more = opens.more;
  grown = opens.grown;
  rests = opens.rests;
  leads = λ terms at seen last is.
      let next : At = record at { since = Some moment } in
      let now = sight_opened (now_seen last seen) before.rests shut in
      leads_there terms at.records (drain_both (terms_at terms at) now next) now after opens.more
      (opens.leads (terms_at terms at) next (now_seen last seen) (awaken (terms_at terms at) at (Some moment) seen last moment before is refl));
}

pub begins_so : (result : Result ⊤ NoMemory) (moment : ℕ) (shut : Bool) (before after : WsLayer) (out longer : List Command) →
    OnOk result (Opens shut (record before { moment = moment }) after out longer) → OnOk result (BeginsWith moment shut before after out longer)
begins_so (Err error) moment shut before after out longer opens = tt
begins_so (Ok done) moment shut before after out longer opens = begins_by moment shut before after out longer opens

pub begun_event : (moment : ℕ) (before after : WsLayer) (out longer : List Command) → before.phase ≡ phases.Relaying →
    Opens false (record before { moment = moment }) after out longer → HearsEvent moment events.Begun before after out longer
begun_event moment before after out longer phase opens = record {
  more = opens.more;
  grown = opens.grown;
  leads = λ terms at seen is.
      let now = sight_opened (now_seen moment seen) before.rests false in (
        leads_there terms at.records (drain_both (terms_at terms at) now at) now after opens.more
            (opens.leads (terms_at terms at) at (now_seen moment seen) (awake_at terms at seen moment before is)),
        opens.rests,
      );
  past_end = λ over_there. absurd (not_over before phase over_there);
}

pub piece_event : (moment : ℕ) (side : Side) (bytes : List ℕ) (before after : WsLayer) (out longer : List Command) → before.phase ≡ phases.Relaying →
    HearsPiece (peer_in before.sender.server side) bytes (record before { moment = moment }) after out longer → HearsEvent moment (events.Piece side bytes) before after out longer
piece_event moment side bytes before after out longer phase hears = record {
  more = hears.more;
  grown = hears.grown;
  leads = λ terms at seen is.
      let now = with_bytes (peer_in before.sender.server side) (now_seen moment seen) bytes in (
        subst (λ (s : Sight). Leads terms (pass terms (relaying at) s) s after hears.more)
            (ap (λ n. with_bytes (peer_in n side) (now_seen moment seen) bytes) is.ready.between.made.server ∙ sym (piece_sight moment terms.server seen side bytes))
            (leads_there terms at.records (drain_both (terms_at terms at) now at) now after hears.more
            (hears.leads (terms_at terms at) at (now_seen moment seen) (awake_at terms at seen moment before is))),
        hears.rests,
      );
  past_end = λ over_there. absurd (not_over before phase over_there);
}

pub close_event : (moment : ℕ) (side : Side) (before after : WsLayer) (out longer : List Command) → before.phase ≡ phases.Relaying →
    HearsClose (peer_in before.sender.server side) (record before { moment = moment }) after out longer → HearsEvent moment (events.Closed side) before after out longer
close_event moment side before after out longer phase hears = record {
  more = hears.more;
  grown = hears.grown;
  leads = λ terms at seen is.
      let now = with_close (peer_in before.sender.server side) (now_seen moment seen) in (
        subst (λ (s : Sight). Leads terms (pass terms (relaying at) s) s after hears.more)
            (ap (λ n. with_close (peer_in n side) (now_seen moment seen)) is.ready.between.made.server ∙ sym (close_sight moment terms.server seen side))
            (leads_there terms at.records (drain_both (terms_at terms at) now at) now after hears.more
            (hears.leads (terms_at terms at) at (now_seen moment seen) (awake_at terms at seen moment before is))),
        hears.rests,
      );
  past_end = λ over_there. absurd (not_over before phase over_there);
}

-- ---- of the event that was taken

pub relaying_phase : (flow : Flow) (phase : Phase) → awaited_in flow phase ≡ None → is_over phase ≡ false → phase ≡ phases.Relaying
relaying_phase flow phases.Relaying free live = refl
relaying_phase flow (phases.Holding held) free live = absurd (let no : Some _ ≡ None = free in cc)
relaying_phase flow phases.Over free live = absurd (let no : true ≡ false = live in cc)

module _ (moment : ℕ) (event : Event) (before after : WsLayer) (out longer : List Command) where
  pub begun_hears : (result : Result ⊤ NoMemory) → event ≡ events.Begun → before.phase ≡ phases.Relaying →
      OnOk result (Opens false (record before { moment = moment }) after out longer) → OnOk result (HearsEvent moment event before after out longer)
  begun_hears (Err error) is phase opens = tt
  begun_hears (Ok done) is phase opens =
      subst (λ (e : Event). HearsEvent moment e before after out longer) (sym is) (begun_event moment before after out longer phase opens)

  pub piece_hears : (result : Result ⊤ NoMemory) (side : Side) (bytes : List ℕ) → event ≡ events.Piece side bytes → before.phase ≡ phases.Relaying →
      OnOk result (HearsPiece (peer_in before.sender.server side) bytes (record before { moment = moment }) after out longer) →
      OnOk result (HearsEvent moment event before after out longer)
  piece_hears (Err error) side bytes is phase hears = tt
  piece_hears (Ok done) side bytes is phase hears =
      subst (λ (e : Event). HearsEvent moment e before after out longer) (sym is) (piece_event moment side bytes before after out longer phase hears)

  pub close_hears : (result : Result ⊤ NoMemory) (side : Side) → event ≡ events.Closed side → before.phase ≡ phases.Relaying →
      OnOk result (HearsClose (peer_in before.sender.server side) (record before { moment = moment }) after out longer) →
      OnOk result (HearsEvent moment event before after out longer)
  close_hears (Err error) side is phase hears = tt
  close_hears (Ok done) side is phase hears =
      subst (λ (e : Event). HearsEvent moment e before after out longer) (sym is) (close_event moment side before after out longer phase hears)

nothing_sight : (seen : Sight) (one : Sight) (moment : ℕ) → one.client ≡ seen.client ++ [] → one.closed ≡ (seen.closed || false) →
    one.server ≡ seen.server ++ [] → one.shut ≡ (seen.shut || false) → one.now ≡ moment → one ≡ now_seen moment seen
nothing_sight seen one moment client closed server_bytes shut now =
    same_sight one (now_seen moment seen) (client ∙ append-nil seen.client) (closed ∙ or_nothing seen.closed) (server_bytes ∙ append-nil seen.server)
    (shut ∙ or_nothing seen.shut) now

pub answered_event : (moment : ℕ) (ask : Ask) (reply : Reply) (state : WsLayer) (out : List Command) → state.phase ≡ phases.Relaying →
    HearsEvent moment (events.Answered ask reply) state (record state { moment = moment }) out out
answered_event moment ask reply state out phase = record {
  more = [];
  grown = sym (append-nil out);
  leads = λ terms at seen is.
      let after : WsLayer = record state { moment = moment } in
      let now = now_seen moment seen in (
        subst (λ (s : Sight). Leads terms (pass terms (relaying at) s) s after [])
            (sym (nothing_sight seen (sight_with terms.server seen (at_moment moment (events.Answered ask reply))) moment refl refl refl refl refl))
            (leads_there terms at.records (drain_both (terms_at terms at) now at) now after []
            (stays_there (terms_at terms at) at now after (awake_at terms at seen moment state is))),
        refl,
      );
  past_end = λ over_there. absurd (not_over state phase over_there);
}

pub answered_hears : (moment : ℕ) (event : Event) (ask : Ask) (reply : Reply) (state : WsLayer) (out : List Command) → event ≡ events.Answered ask reply →
    state.phase ≡ phases.Relaying → HearsEvent moment event state (record state { moment = moment }) out out
answered_hears moment event ask reply state out is phase =
    subst (λ (e : Event). HearsEvent moment e state (record state { moment = moment }) out out) (sym is) (answered_event moment ask reply state out phase)

-- where it has ended nothing follows
pub over_event : (moment : ℕ) (event : Event) (state : WsLayer) (out : List Command) → state.phase ≡ phases.Over → HearsEvent moment event state state out out
over_event moment event state out is = record {
  more = [];
  grown = sym (append-nil out);
  leads = λ terms at seen there. absurd (not_over state there.ready.between.phase is);
  past_end = λ over_there. (is, refl);
}
