-- What is asked: at most one message, and it is awaited.
use Rattle.std.proofs.Common.{◌≡◌, ◌∙◌, ℕ, zero, suc, ◌==◌, ◌||◌, nat_lt, if◌then◌else◌, Bool, true, false, List, [], ◌∷◌, ◌++◌, length, Some, None, refl, sym, ap, ap₂, option_to_list}
use Rattle.std.specs.List.{flat_map}
use Rattle.std.proofs.lemmas.Grind.{flat_map-append}
use Rattle.px_message.specs.declared.flow.Flow.{Flow}
use Rattle.px_event.specs.declared.ask.Ask.{Ask}
use Rattle.px_event.specs.declared.command.Command.{Command}
use Rattle.px_event.specs.declared.event.Event.{Event}
use Rattle.px_event.specs.declared.reply.Reply.{Reply}
use Rattle.px_event.specs.Chain.{Turn, found}
use Rattle.px_event.specs.Layer.{AsksOnly, asks_in}
use Rattle.px_frame.specs.declared.fault.FrameFault.TheVariants.{TooBig}
use Rattle.px_frame.specs.declared.frame.Frame.{Frame}
use Rattle.px_frame.specs.Frames.{Front, nothing, refused, stands}
use Rattle.px_frame.specs.Head.{is_control}
use Rattle.px_relay.specs.declared.failure.Failure.TheVariants.{BadFrame, NotText}
use Rattle.px_relay.specs.declared.layer.WsLayer.{WsLayer}
use Rattle.px_relay.specs.declared.peer.Peer.{Peer}
use Rattle.px_relay.specs.declared.peer.Peer.TheVariants.{Client, Server}
use Rattle.px_relay.specs.declared.phase.Held.{Held}
use Rattle.px_relay.specs.declared.phase.Phase.{Phase}
use Rattle.px_relay.specs.declared.phase.Phase.TheVariants as phases
use Rattle.px_relay.specs.Chain.{Course, at_rest, behind_course, closes_with, control_course, data_course, drain_both, drain_server, drain_within, ends, fails, frame_course, front_course, goes_on, killed, look, looked, message_course, most_whole, pass, past, shut_client, shut_server, stops, terms_at, turn, turn_by, unread}
use Rattle.px_relay.specs.Failures.{failure_payload}
use Rattle.px_relay.specs.Messages.{Message, Verdict, drops, gathered, is_bad_text, kills, sends, verdict}
use Rattle.px_relay.specs.Peers.{other}
use Rattle.px_relay.specs.Sending.{Terms, close_both, counted, send_to}
use Rattle.px_relay.specs.Sights.{Sight, come_with}
use Rattle.px_relay.specs.Stages.{At, Stage, half_of, holding, next_in, over, relaying, rested, with_half}
use Rattle.px_relay.specs.Stands.{Answers, BeginsWith, HearsEvent, IsIn, Leads, Somewhere, awaited_in, awaits, passed, sight_opened}

-- ---- nothing is asked in what a turn owes

abbrev pub NoAsks : List Command → Type 0
NoAsks owed = flat_map asks_in owed ≡ []

both_none : (one two : List Command) → NoAsks one → NoAsks two → NoAsks (one ++ two)
both_none one two p q =
    flat_map-append asks_in one two ∙ ap₂ (λ (a b : List Ask). a ++ b) p q

server_none : (server : ℕ) (shut : Bool) → NoAsks (shut_server server shut)
server_none server true = refl
server_none server false = refl

client_none : (closed : Bool) → NoAsks (shut_client closed)
client_none true = refl
client_none false = refl

pub ends_none : (terms : Terms) (seen : Sight) (flow : Flow) → NoAsks (ends terms seen flow)
ends_none terms seen flow =
    both_none (shut_server terms.server seen.shut) (shut_client seen.closed) (server_none terms.server seen.shut) (client_none seen.closed)

closes_none : (terms : Terms) (seen : Sight) (from : Peer) (sent : ℕ) (payload : List ℕ) → NoAsks (closes_with terms seen from sent payload).owed
closes_none terms seen from sent payload =
    both_none (close_both terms from sent payload) (ends terms seen terms.flow) refl (ends_none terms seen terms.flow)

abbrev CourseAsks : Course → Type 0
CourseAsks (goes_on owed at) = NoAsks owed
CourseAsks (stops turn) = NoAsks turn.owed

none_if : (b : Bool) (one two : Course) → CourseAsks one → CourseAsks two → CourseAsks (if b then one else two)
none_if true one two p q = p
none_if false one two p q = q

message_none : (terms : Terms) (seen : Sight) (from : Peer) (at : At) (message : Message) → CourseAsks (message_course terms seen from at message)
message_none terms seen from at message =
    none_if (is_bad_text message.text message.payload) (stops (fails terms seen from at.sent NotText)) _
    (closes_none terms seen from at.sent (failure_payload NotText))
    (none_if (nat_lt at.messages most_whole) (stops (record { owed = []; stage = holding from message at }))
    (stops (fails terms seen from at.sent (BadFrame TooBig))) refl (closes_none terms seen from at.sent (failure_payload (BadFrame TooBig))))

frame_none : (terms : Terms) (seen : Sight) (from : Peer) (at : At) (frame : Frame) → CourseAsks (frame_course terms seen from at frame)
frame_none terms seen from at frame =
    let half = half_of from at in
    let message = gathered half.begun frame in
    none_if (is_control frame.opcode) (control_course terms seen from at frame) (data_course terms seen from at frame)
    (none_if (frame.opcode == 8) (stops (closes_with terms seen from at.sent frame.payload))
    (goes_on (send_to terms (other from) at.sent (frame ∷ [])) (record at { sent = counted (other from) at.sent }))
    (closes_none terms seen from at.sent frame.payload) refl)
    (none_if frame.fin (message_course terms seen from (with_half from (record half { begun = None }) at) message)
    (goes_on [] (with_half from (record half { begun = Some message }) at))
    (message_none terms seen from (with_half from (record half { begun = None }) at) message) refl)

course_none : (further : At → Turn Stage Command) (course : Course) → CourseAsks course → ((at : At) → NoAsks (further at).owed) →
    NoAsks (behind_course further course).owed
course_none further (goes_on owed at) none on = both_none owed (further at).owed none (on at)
course_none further (stops turn) none on = none

front_none : (terms : Terms) (seen : Sight) (peer : Peer) (further onward : At → Turn Stage Command) (at : At) (front : Front) →
    ((at : At) → NoAsks (further at).owed) → ((at : At) → NoAsks (onward at).owed) → NoAsks (front_course terms seen peer further onward at front).owed
front_none terms seen peer further onward at nothing on out = out (looked peer seen at)
front_none terms seen peer further onward at (refused fault) on out = closes_none terms seen peer at.sent (failure_payload (BadFrame fault))
front_none terms seen peer further onward at (stands frame rest) on out =
    course_none further (frame_course terms seen peer (past peer seen rest at) frame) (frame_none terms seen peer (past peer seen rest at) frame) on

drain_none : (terms : Terms) (seen : Sight) (peer : Peer) (most : ℕ) (onward : At → Turn Stage Command) → ((at : At) → NoAsks (onward at).owed) → (at : At) →
    NoAsks (drain_within terms seen peer most onward at).owed
drain_none terms seen peer zero onward out at = out at
drain_none terms seen peer (suc most) onward out at =
    front_none terms seen peer (drain_within terms seen peer most onward) onward at (next_in peer at seen)
    (λ next. drain_none terms seen peer most onward out next) out

rest_by : (terms : Terms) (seen : Sight) (at : At) (b : Bool) →
    let turned : Turn Stage Command = if b then record { owed = ends terms seen terms.flow; stage = over } else record { owed = []; stage = relaying (rested at) } in
    NoAsks turned.owed
rest_by terms seen at true = ends_none terms seen terms.flow
rest_by terms seen at false = refl

rest_none : (terms : Terms) (seen : Sight) (at : At) → NoAsks (at_rest terms seen at).owed
rest_none terms seen at = rest_by terms seen at (seen.closed || seen.shut)

server_side_none : (terms : Terms) (seen : Sight) (at : At) → NoAsks (drain_server terms seen at).owed
server_side_none terms seen at = drain_none terms seen Server (suc (length (unread Server seen at))) (at_rest terms seen) (rest_none terms seen) at

both_sides_none : (terms : Terms) (seen : Sight) (at : At) → NoAsks (drain_both terms seen at).owed
both_sides_none terms seen at = drain_none terms seen Client (suc (length (unread Client seen at))) (drain_server terms seen) (server_side_none terms seen) at

pub pass_none : (terms : Terms) (stage : Stage) (seen : Sight) → NoAsks (pass terms stage seen).owed
pass_none terms (relaying at) seen = both_sides_none (terms_at terms at) seen at
pass_none terms (holding from message at) seen = refl
pass_none terms over seen = refl

verdict_none : (terms : Terms) (from : Peer) (message : Message) (at : At) (seen : Sight) (said : Verdict) (moment : ℕ) →
    NoAsks (turn_by terms from message at seen said moment).owed
verdict_none terms from message at seen (sends payload) moment = refl
verdict_none terms from message at seen drops moment = refl
verdict_none terms from message at seen kills moment = ends_none terms seen (killed (terms_at terms at).flow moment)

pub turn_none : (terms : Terms) (from : Peer) (message : Message) (at : At) (seen : Sight) (reply : Reply) (moment : ℕ) →
    NoAsks (passed terms seen (turn terms (holding from message at) seen reply moment)).owed
turn_none terms from message at seen reply moment =
    let t = turn terms (holding from message at) seen reply moment in
    both_none t.owed (pass terms t.stage seen).owed (verdict_none terms from message at seen (verdict message reply) moment) (pass_none terms t.stage seen)

-- ---- what is found there is what is awaited

found_asks : (terms : Terms) (stage : Stage) (seen : Sight) (state : WsLayer) → IsIn terms state stage seen →
    flat_map asks_in (found (look terms stage)) ≡ option_to_list (awaits state)
found_asks terms (relaying at) seen state is = ap (λ p. option_to_list (awaited_in state.flow p)) (sym is.ready.between.phase)
found_asks terms (holding from message at) seen state is =
    ap₂ (λ (f : Flow) (p : Phase). option_to_list (awaited_in f p)) (sym is.made.flow) (sym is.phase)
found_asks terms over seen state is = ap (λ p. option_to_list (awaited_in state.flow p)) (sym is)

pub leads_asks : (terms : Terms) (turned : Turn Stage Command) (seen : Sight) (after : WsLayer) (more out longer : List Command) → longer ≡ out ++ more →
    Leads terms turned seen after more → NoAsks turned.owed → AsksOnly (awaits after) out longer
leads_asks terms turned seen after more out longer grown leads none = (
  more,
  grown,
  ap (flat_map asks_in) leads.gives
      ∙ (flat_map-append asks_in turned.owed (found (look terms turned.stage))
      ∙ ap₂ (λ (a b : List Ask). a ++ b) none (found_asks terms turned.stage seen after leads.is_in)),
)

-- ---- of the calls, wherever they stood

-- it is relaying
relaying_at : (terms : Terms) (stage : Stage) (seen : Sight) (state : WsLayer) → IsIn terms state stage seen → state.phase ≡ phases.Relaying →
    (at : At) × IsIn terms state (relaying at) seen
relaying_at terms (relaying at) seen state is phase = (at, is)
relaying_at terms (holding from message at) seen state is phase =
    absurd (let no : phases.Holding _ ≡ phases.Relaying = sym is.phase ∙ phase in cc)
relaying_at terms over seen state is phase = absurd (let no : phases.Over ≡ phases.Relaying = sym is ∙ phase in cc)

-- it is holding
holding_at : (terms : Terms) (stage : Stage) (seen : Sight) (state : WsLayer) (held : Held) → IsIn terms state stage seen → state.phase ≡ phases.Holding held →
    (from : Peer) × (message : Message) × (at : At) × IsIn terms state (holding from message at) seen
holding_at terms (relaying at) seen state held is phase =
    absurd (let no : phases.Relaying ≡ phases.Holding held = sym is.ready.between.phase ∙ phase in cc)
holding_at terms (holding from message at) seen state held is phase = (from, message, at, is)
holding_at terms over seen state held is phase = absurd (let no : phases.Over ≡ phases.Holding held = sym is ∙ phase in cc)

pub begin_asks : (moment : ℕ) (shut : Bool) (before after : WsLayer) (out longer : List Command) → Somewhere before → before.phase ≡ phases.Relaying →
    BeginsWith moment shut before after out longer → AsksOnly (awaits after) out longer
begin_asks moment shut before after out longer (terms, stage, seen, is) phase begins =
    let there = relaying_at terms stage seen before is phase in
    let next : At = record there.0 { since = Some moment } in
    let now = sight_opened seen before.rests shut in
    leads_asks terms (pass terms (relaying next) now) now after begins.more out longer begins.grown (begins.leads terms there.0 seen seen.now there.1)
    (pass_none terms (relaying next) now)

event_by : (moment : ℕ) (event : Event) (before after : WsLayer) (out longer : List Command) (phase : Phase) → before.phase ≡ phase → Somewhere before → awaits before ≡ None →
    HearsEvent moment event before after out longer → AsksOnly (awaits after) out longer
event_by moment event before after out longer phases.Relaying is (terms, stage, seen, there) free hears =
    let at = relaying_at terms stage seen before there is in
    let come = come_with terms.server (record { seen = seen; left = before.rests }) (record { moment = moment; value = event }) in
    leads_asks terms (pass terms (relaying at.0) come.seen) come.seen after hears.more out longer hears.grown (hears.leads terms at.0 seen at.1).0
    (pass_none terms (relaying at.0) come.seen)
event_by moment event before after out longer (phases.Holding held) is (terms, stage, seen, there) free hears =
    absurd (let no : Some _ ≡ None = ap (λ p. awaited_in before.flow p) (sym is) ∙ free in cc)
event_by moment event before after out longer phases.Over is (terms, stage, seen, there) free hears =
    let ended = hears.past_end is in (
      hears.more,
      hears.grown,
      ap (flat_map asks_in) ended.1 ∙ ap (λ p. option_to_list (awaited_in after.flow p)) (sym ended.0),
    )

pub event_asks : (moment : ℕ) (event : Event) (before after : WsLayer) (out longer : List Command) → Somewhere before → awaits before ≡ None →
    HearsEvent moment event before after out longer → AsksOnly (awaits after) out longer
event_asks moment event before after out longer somewhere free hears = event_by moment event before after out longer before.phase refl somewhere free hears

pub answer_asks : (moment : ℕ) (reply : Reply) (held : Held) (before after : WsLayer) (out longer : List Command) → Somewhere before → before.phase ≡ phases.Holding held →
    Answers moment reply before after out longer → AsksOnly (awaits after) out longer
answer_asks moment reply held before after out longer (terms, stage, seen, is) phase answers =
    let there = holding_at terms stage seen before held is phase in
    leads_asks terms (passed terms seen (turn terms (holding there.0 there.1 there.2) seen reply moment)) seen after answers.more out longer answers.grown
    (answers.leads terms there.0 there.1 there.2 seen there.3) (turn_none terms there.0 there.1 there.2 seen reply moment)

-- ---- and it stands somewhere again

pub begin_somewhere : (moment : ℕ) (shut : Bool) (before after : WsLayer) (out longer : List Command) → Somewhere before → before.phase ≡ phases.Relaying →
    BeginsWith moment shut before after out longer → Somewhere after
begin_somewhere moment shut before after out longer (terms, stage, seen, is) phase begins =
    let there = relaying_at terms stage seen before is phase in
    let next : At = record there.0 { since = Some moment } in
    let leads = begins.leads terms there.0 seen seen.now there.1 in
    (terms, (pass terms (relaying next) (sight_opened seen before.rests shut)).stage, sight_opened seen before.rests shut, leads.is_in)

somewhere_by : (moment : ℕ) (event : Event) (before after : WsLayer) (out longer : List Command) (phase : Phase) → before.phase ≡ phase → Somewhere before →
    awaits before ≡ None → HearsEvent moment event before after out longer → Somewhere after
somewhere_by moment event before after out longer phases.Relaying is (terms, stage, seen, there) free hears =
    let at = relaying_at terms stage seen before there is in
    let come = come_with terms.server (record { seen = seen; left = before.rests }) (record { moment = moment; value = event }) in
    let leads = (hears.leads terms at.0 seen at.1).0 in
    (terms, (pass terms (relaying at.0) come.seen).stage, come.seen, leads.is_in)
somewhere_by moment event before after out longer (phases.Holding held) is (terms, stage, seen, there) free hears =
    absurd (let none : Some _ ≡ None = ap (λ p. awaited_in before.flow p) (sym is) ∙ free in cc)
somewhere_by moment event before after out longer phases.Over is (terms, stage, seen, there) free hears = (terms, over, seen, (hears.past_end is).0)

pub event_somewhere : (moment : ℕ) (event : Event) (before after : WsLayer) (out longer : List Command) → Somewhere before → awaits before ≡ None →
    HearsEvent moment event before after out longer → Somewhere after
event_somewhere moment event before after out longer somewhere free hears = somewhere_by moment event before after out longer before.phase refl somewhere free hears

pub answer_somewhere : (moment : ℕ) (reply : Reply) (held : Held) (before after : WsLayer) (out longer : List Command) → Somewhere before → before.phase ≡ phases.Holding held →
    Answers moment reply before after out longer → Somewhere after
answer_somewhere moment reply held before after out longer (terms, stage, seen, is) phase answers =
    let there = holding_at terms stage seen before held is phase in
    let turned = turn terms (holding there.0 there.1 there.2) seen reply moment in
    (terms, (pass terms turned.stage seen).stage, seen, (answers.leads terms there.0 there.1 there.2 seen there.3).is_in)
