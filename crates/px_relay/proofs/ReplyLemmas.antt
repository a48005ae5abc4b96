-- The reply to what is asked.
use Rattle.std.proofs.Common.{◌≡◌, ◌≢◌, ◌∙◌, ℕ, ◌+◌, Bool, true, false, List, [], ◌∷◌, ◌++◌, append-nil, Option, Some, Result, Ok, Err, OnOk, refl, sym, ap, ap₂, subst}
use Rattle.std.specs.Prelude.{⊤}
use Rattle.px_text.specs.declared.no_memory.NoMemory.{NoMemory}
use Rattle.px_message.specs.declared.flow.Flow.{Flow}
use Rattle.px_message.specs.declared.messages.WsRecord.{WsRecord}
use Rattle.px_event.specs.declared.command.Command.{Command}
use Rattle.px_event.specs.declared.reply.Reply.{Reply}
use Rattle.px_event.specs.declared.reply.Reply.TheVariants as replies
use Rattle.px_event.specs.Chain.{Turn}
use Rattle.px_frame.specs.declared.frame.Frame.{Frame}
use Rattle.px_relay.specs.declared.layer.WsLayer.{WsLayer}
use Rattle.px_relay.specs.declared.peer.Peer.{Peer}
use Rattle.px_relay.specs.declared.peer.Peer.TheVariants.{Client, Server}
use Rattle.px_relay.specs.declared.phase.Held.{Held}
use Rattle.px_relay.specs.declared.phase.Phase.{Phase}
use Rattle.px_relay.specs.declared.phase.Phase.TheVariants as phases
use Rattle.px_relay.specs.declared.half.Half.{Half as HalfState}
use Rattle.px_relay.specs.declared.sender.Sender.{Sender}
use Rattle.px_relay.specs.Calls.{finish_of, half_in, keys_behind_all, record_by, sent_by, with_keys, with_record}
use Rattle.px_relay.specs.Chain.{answered, drain_both, ends, killed, pass, terms_at, turn_by}
use Rattle.px_relay.specs.Messages.{Message, Verdict, drops, message_frames, payload_of, sends, verdict}
use Rattle.px_relay.specs.Peers.{is_client, other}
use Rattle.px_relay.specs.Sending.{Terms, send_to, sent_behind}
use Rattle.px_relay.specs.Sights.{Sight, bytes_of}
use Rattle.px_relay.specs.Stages.{At, Half, Stage, half_of, holding, moment_at, over, relaying}
use Rattle.px_relay.specs.Stands.{Answers, GoesOn, IsAnswered, IsIn, IsQueued, IsWorking, Leads, SendsOn, TakesReply, drain_from, onward_with, passed, sends_on}
use Rattle.px_relay.proofs.DrainLemmas.{leads_onward, over_leads}
use Rattle.px_relay.proofs.GoesLemmas.{client_first, joined, leads_there}
use Rattle.px_relay.proofs.SendLemmas.{finish_same, keys_all, sent_same}
use Rattle.px_relay.proofs.WorkLemmas.{beside_same}

-- ---- a message is sent on

sent_half : (peer : Peer) (at : At) (sent : ℕ) → half_of peer (record at { sent = sent }) ≡ half_of peer at
sent_half Client at sent = refl
sent_half Server at sent = refl

sender_half : (peer : Peer) (before after : WsLayer) → after.client ≡ before.client → after.server ≡ before.server → half_in peer after ≡ half_in peer before
sender_half Client before after client server = client
sender_half Server before after client server = server

pub sent_on : (from : Peer) (frames : List Frame) (before after : WsLayer) (out between longer : List Command) →
    between ≡ out ++ sent_by before.sender (other from) frames →
    GoesOn from (record before { sender = with_keys before.sender (keys_behind_all (other from) before.sender.keys frames) }) after between longer →
    after.rests ≡ before.rests → SendsOn from frames before after out longer
sent_on from frames before after out between longer said goes rests =
    let mid : WsLayer = record before { sender = with_keys before.sender (keys_behind_all (other from) before.sender.keys frames) } in
    record {
      more = sent_by before.sender (other from) frames ++ goes.more;
      grown = joined out between longer (sent_by before.sender (other from) frames) goes.more said goes.grown;
      rests = rests;
      leads = λ terms at seen works.
          let sent = sent_behind (other from) at.sent frames in
          let next : At = record at { sent = sent } in
          let same = sent_same terms before.sender (other from) at.sent frames works.made.server works.made.keys in
          subst (λ (l : List Command). Leads terms (sends_on terms from seen at frames) seen after (l ++ goes.more)) (sym same)
          (leads_onward terms (drain_from from terms seen next) seen after (send_to terms (other from) at.sent frames) goes.more
          (goes.leads terms next seen (record {
            made = record {
              flow = works.made.flow;
              server = works.made.server;
              keys = ap (λ k. keys_behind_all (other from) k frames) works.made.keys ∙ keys_all terms (other from) at.sent frames;
              closed = works.made.closed;
              shut = works.made.shut;
            };
            phase = works.phase;
            messages = works.messages;
            records = works.records;
            moment = works.moment;
            queued = subst (λ (h : Half). IsQueued from h at.messages (bytes_of from seen) (half_in from mid)) (sym (sent_half from at sent))
                (subst (λ (s : HalfState). IsQueued from (half_of from at) at.messages (bytes_of from seen) s) (sym (sender_half from before mid refl refl)) works.queued);
            beside = beside_same from at next seen seen before mid (sent_half (other from) at sent) refl (sender_half (other from) before mid refl refl) refl works.beside;
          })));
    }

-- where memory is there
pub sends_by : (result : Result ⊤ NoMemory) (from : Peer) (frames : List Frame) (before after : WsLayer) (sender : Sender) (out between longer : List Command) →
    sender ≡ with_keys before.sender (keys_behind_all (other from) before.sender.keys frames) → between ≡ out ++ sent_by before.sender (other from) frames →
    OnOk result (GoesOn from (record before { sender = sender }) after between longer) → OnOk result (after.rests ≡ before.rests) →
    OnOk result (SendsOn from frames before after out longer)
sends_by (Err error) from frames before after sender out between longer is said goes rests = tt
sends_by (Ok done) from frames before after sender out between longer is said goes rests =
    sent_on from frames before after out between longer said (subst (λ (s : Sender). GoesOn from (record before { sender = s }) after between longer) is goes) rests

-- ---- what a reply does

-- Going on behind a message of a side is passing there, however many frames were sent.
goes_passing : (terms : Terms) (from : Peer) (at : At) (sent : ℕ) (seen : Sight) (before after : WsLayer) (first more : List Command) →
    IsWorking (terms_at terms at) from at seen before →
    Leads (terms_at terms at) (onward_with first (drain_from from (terms_at terms at) seen (record at { sent = sent }))) seen after more →
    Leads terms (onward_with first (pass terms (relaying (record at { sent = sent })) seen)) seen after more
goes_passing terms Client at sent seen before after first more works leads =
    let now = terms_at terms at in
    leads_there terms at.records (onward_with first (drain_both now seen (record at { sent = sent }))) seen after more leads
goes_passing terms Server at sent seen before after first more works leads =
    let now = terms_at terms at in
    leads_there terms at.records (onward_with first (drain_both now seen (record at { sent = sent }))) seen after more
    (subst (λ (t : Turn Stage Command). Leads now (onward_with first t) seen after more)
    (sym (client_first now (record at { sent = sent }) seen before.client works.beside.0)) leads)

-- ---- what is kept of it

kept_half : (peer : Peer) (at : At) (messages : ℕ) (records : List WsRecord) (since : Option ℕ) →
    half_of peer (record at { messages = messages; records = records; since = since }) ≡ half_of peer at
kept_half Client at messages records since = refl
kept_half Server at messages records since = refl

flow_half : (peer : Peer) (state : WsLayer) (flow : Flow) → half_in peer (record state { flow = flow }) ≡ half_in peer state
flow_half Client state flow = refl
flow_half Server state flow = refl

-- it is worked on where this is kept besides
kept_works : (terms : Terms) (held : Held) (at : At) (seen : Sight) (before : WsLayer) (kept made : WsRecord) → IsAnswered terms held at seen before → made ≡ kept →
    (let next : At = record at { messages = at.messages + 1; records = at.records ++ kept ∷ []; since = Some before.moment } in
    IsWorking (terms_at terms next) held.from next seen (with_record made before))
kept_works terms held at seen before kept made is same =
    let works = is.works in
    let later : At = record at { messages = at.messages + 1; since = Some before.moment } in
    let next : At = record at { messages = at.messages + 1; records = at.records ++ kept ∷ []; since = Some before.moment } in
    let mid : WsLayer = with_record made before in
    let from = held.from in
    let half : half_of from next ≡ half_of from later =
    kept_half from at (at.messages + 1) (at.records ++ kept ∷ []) (Some before.moment) ∙ sym (kept_half from at (at.messages + 1) at.records (Some before.moment)) in
    let beside : half_of (other from) next ≡ half_of (other from) later =
    kept_half (other from) at (at.messages + 1) (at.records ++ kept ∷ []) (Some before.moment) ∙ sym (kept_half (other from) at (at.messages + 1) at.records (Some before.moment)) in
    record {
      made = record {
        flow = ap₂ (λ (f : Flow) (k : WsRecord). record f { messages = f.messages ++ k ∷ [] }) works.made.flow same;
        server = works.made.server;
        keys = works.made.keys;
        closed = works.made.closed;
        shut = works.made.shut;
      };
      phase = works.phase;
      messages = works.messages;
      records = refl;
      moment = refl;
      queued = subst (λ (h : Half). IsQueued from h (at.messages + 1) (bytes_of from seen) (half_in from mid)) (sym half)
          (subst (λ (s : HalfState). IsQueued from (half_of from later) (at.messages + 1) (bytes_of from seen) s) (sym (flow_half from before mid.flow)) works.queued);
      beside = beside_same from later next seen seen before mid beside refl (flow_half (other from) before mid.flow) refl works.beside;
    }

-- this is kept of it, which was asked about at the moment of its place
kept_as : (held : Held) (moment : ℕ) (payload : List ℕ) (dropped : Bool) → held.moment ≡ moment →
    record_by held payload dropped ≡ record { from_client = is_client held.from; text = held.message.text; payload = payload; moment = moment; dropped = dropped }
kept_as held moment payload dropped is =
    ap (λ (n : ℕ). record { from_client = is_client held.from; text = held.message.text; payload = payload; moment = n; dropped = dropped }) is

-- ---- the replies

pub killed_reply : (held : Held) (before after : WsLayer) (out longer : List Command) → after.phase ≡ phases.Over → after.rests ≡ before.rests →
    longer ≡ out ++ finish_of before (killed before.flow before.moment) → TakesReply held replies.Kill before after out longer
killed_reply held before after out longer over_there rests grown = record {
  more = finish_of before (killed before.flow before.moment);
  grown = grown;
  rests = rests;
  leads = λ terms at seen is.
      let now = terms_at terms at in
      let made = is.works.made in
      over_leads terms (passed terms seen (record { owed = ends terms seen (killed now.flow before.moment); stage = over })) seen after _
      (ap (λ f. finish_of before (killed f before.moment)) made.flow
      ∙ (finish_same now at.sent seen before (killed now.flow before.moment) made ∙ sym (append-nil (ends terms seen (killed now.flow before.moment)))))
      refl over_there;
}

pub dropped_reply : (held : Held) (before after : WsLayer) (out longer : List Command) →
    GoesOn held.from (with_record (record_by held held.message.payload true) before) after out longer → after.rests ≡ before.rests →
    TakesReply held replies.Discard before after out longer
dropped_reply held before after out longer goes rests = record {
  more = goes.more;
  grown = goes.grown;
  rests = rests;
  leads = λ terms at seen is.
      let mid : WsLayer = with_record (record_by held held.message.payload true) before in
      let next = answered held.from held.message at seen drops before.moment in
      let works : IsWorking (terms_at terms next) held.from next seen mid =
      kept_works terms held at seen before _ (record_by held held.message.payload true) is (kept_as held (moment_at at seen) held.message.payload true is.asked) in
      goes_passing terms held.from next next.sent seen mid after [] goes.more works (goes.leads (terms_at terms next) next seen works);
}

pub drops_by : (result : Result ⊤ NoMemory) (held : Held) (reply : Reply) (before after : WsLayer) (out longer : List Command) → reply ≡ replies.Discard →
    OnOk result (GoesOn held.from (with_record (record_by held held.message.payload true) before) after out longer) → OnOk result (after.rests ≡ before.rests) →
    OnOk result (TakesReply held reply before after out longer)
drops_by (Err error) held reply before after out longer is goes rests = tt
drops_by (Ok done) held reply before after out longer is goes rests =
    subst (λ (r : Reply). TakesReply held r before after out longer) (sym is) (dropped_reply held before after out longer goes rests)

-- neither of these sends it
abbrev pub IsSent : Reply → Type 0
IsSent replies.Kill = ⊥
IsSent replies.Discard = ⊥
IsSent reply = Unit {0}

pub is_sent : (reply : Reply) → reply ≢ replies.Kill → reply ≢ replies.Discard → IsSent reply
is_sent (replies.Go flow stream) k d = tt
is_sent (replies.Respond response) k d = tt
is_sent replies.Kill k d = absurd (k refl)
is_sent replies.Discard k d = absurd (d refl)
is_sent replies.Dialled k d = tt
is_sent (replies.Refused fault) k d = tt

verdict_sends : (message : Message) (reply : Reply) → IsSent reply → verdict message reply ≡ sends (payload_of message reply)
verdict_sends message (replies.Go flow stream) is = refl
verdict_sends message (replies.Respond response) is = refl
verdict_sends message replies.Kill is = absurd is
verdict_sends message replies.Discard is = absurd is
verdict_sends message replies.Dialled is = refl
verdict_sends message (replies.Refused fault) is = refl

pub sent_reply : (held : Held) (reply : Reply) (payload : List ℕ) (before after : WsLayer) (out longer : List Command) → IsSent reply →
    payload ≡ payload_of held.message reply →
    SendsOn held.from (message_frames held.message payload) (with_record (record_by held payload false) before) after out longer → TakesReply held reply before after out longer
sent_reply held reply payload before after out longer is same sends_it = record {
  more = sends_it.more;
  grown = sends_it.grown;
  rests = sends_it.rests;
  leads = λ terms at seen asked.
      let frames = message_frames held.message payload in
      let mid : WsLayer = with_record (record_by held payload false) before in
      let next = answered held.from held.message at seen (sends payload) before.moment in
      let works : IsWorking (terms_at terms next) held.from next seen mid =
      kept_works terms held at seen before _ (record_by held payload false) asked (kept_as held (moment_at at seen) payload false asked.asked) in
      subst (λ (v : Verdict). Leads terms (passed terms seen (turn_by terms held.from held.message at seen v before.moment)) seen after sends_it.more)
      (sym (verdict_sends held.message reply is ∙ ap (λ (p : List ℕ). sends p) (sym same)))
      (goes_passing terms held.from next (sent_behind (other held.from) at.sent frames) seen mid after (send_to terms (other held.from) at.sent frames) sends_it.more works
      (sends_it.leads (terms_at terms next) next seen works));
}

-- ---- the call

held_from : (one two : Held) → phases.Holding one ≡ phases.Holding two → one ≡ two
held_from one two is = cc

holding_half : (peer : Peer) (before : WsLayer) (moment : ℕ) → half_in peer (record before { phase = phases.Relaying; moment = moment }) ≡ half_in peer before
holding_half Client before moment = refl
holding_half Server before moment = refl

-- what was held is answered at this moment
held_answered : (terms : Terms) (from : Peer) (message : Message) (at : At) (seen : Sight) (before : WsLayer) (moment : ℕ) → IsIn terms before (holding from message at) seen →
    IsAnswered terms (record { from = from; number = at.messages; moment = moment_at at seen; message = message }) at seen
    (record before { phase = phases.Relaying; moment = moment })
held_answered terms from message at seen before moment is =
    let later : At = record at { messages = at.messages + 1; since = Some moment } in
    let mid : WsLayer = record before { phase = phases.Relaying; moment = moment } in
    let half = kept_half from at (at.messages + 1) at.records (Some moment) in
    record {
      works = record {
        made = record { flow = is.made.flow; server = is.made.server; keys = is.made.keys; closed = is.made.closed; shut = is.made.shut };
        phase = refl;
        messages = is.messages;
        records = refl;
        moment = refl;
        queued = subst (λ (h : Half). IsQueued from h (at.messages + 1) (bytes_of from seen) (half_in from mid)) (sym half)
            (subst (λ (s : HalfState). IsQueued from (half_of from at) (at.messages + 1) (bytes_of from seen) s) (sym (holding_half from before moment)) is.queued);
        beside = beside_same from at later seen seen before mid (kept_half (other from) at (at.messages + 1) at.records (Some moment)) refl
            (holding_half (other from) before moment) refl is.beside;
      };
      asked = refl;
    }

pub answers_by : (moment : ℕ) (reply : Reply) (held : Held) (before after : WsLayer) (out longer : List Command) → before.phase ≡ phases.Holding held →
    TakesReply held reply (record before { phase = phases.Relaying; moment = moment }) after out longer → Answers moment reply before after out longer
answers_by moment reply held before after out longer phase takes = record {
  more = takes.more;
  grown = takes.grown;
  rests = takes.rests;
  leads = λ terms from message at seen is.
      let there : Held = record { from = from; number = at.messages; moment = moment_at at seen; message = message } in
      let same : there ≡ held = held_from there held (sym is.phase ∙ phase) in
      let mid : WsLayer = record before { phase = phases.Relaying; moment = moment } in
      subst (λ (h : Held). Leads terms (passed terms seen (turn_by terms h.from h.message at seen (verdict h.message reply) moment)) seen after takes.more) (sym same)
      (takes.leads terms at seen (subst (λ (h : Held). IsAnswered terms h at seen mid) same (held_answered terms from message at seen before moment is)));
}

-- where the phase was set before
pub answers_taken : (result : Result ⊤ NoMemory) (moment : ℕ) (reply : Reply) (held : Held) (before after : WsLayer) (phase : Phase) (out longer : List Command) →
    before.phase ≡ phases.Holding held → phase ≡ phases.Relaying → OnOk result (TakesReply held reply (record before { phase = phase; moment = moment }) after out longer) →
    OnOk result (Answers moment reply before after out longer)
answers_taken (Err error) moment reply held before after phase out longer was set takes = tt
answers_taken (Ok done) moment reply held before after phase out longer was set takes =
    answers_by moment reply held before after out longer was
    (subst (λ (p : Phase). TakesReply held reply (record before { phase = p; moment = moment }) after out longer) set takes)
