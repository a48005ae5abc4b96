-- A request that is streamed is sent as it comes: what its stage owes its server, where it passes and while it waits, is what earlier asks did not owe of its text.
use Rattle.std.proofs.Common.{◌≡◌, ℕ, ◌≤◌, Bool, true, false, List, [], ◌∷◌, ◌++◌, length, map, Option, Some, None, refl, ap, sym, ◌∙◌, subst}
use Rattle.std.specs.Prelude.{◌==◌, ◌&&◌, if◌then◌else◌, not}
use Rattle.std.proofs.lemmas.Bool.{eq-eqb}
use Rattle.std.proofs.lemmas.List.{append-nil}
use Rattle.px_text.specs.Prefix.{IsPrefixOf}
use Rattle.px_message.specs.Settle.{StreamedIsFramedAsRead}
use Rattle.px_message.specs.declared.flow.Flow.{Flow}
use Rattle.px_message.specs.declared.request.Request.{Request}
use Rattle.px_event.specs.declared.ask.Hook.TheVariants.{RequestBody, ResponseBody, ResponseHead}
use Rattle.px_event.specs.declared.command.Command.{Command}
use Rattle.px_event.specs.declared.command.Command.TheVariants as commands
use Rattle.px_event.specs.declared.side.Side.TheVariants.{Client, Server}
use Rattle.px_event.specs.Chain.{Asks, Ends, Look, NotYet, Turn}
use Rattle.px_event.specs.View.{Atom, View, byte, bytes_in, course, flows, line, order, questions, seen_of}
use Rattle.px_event.proofs.LineLemmas.{bytes_alone}
use Rattle.px_read.specs.Items.{Body, Item, missing, part, complete, bad_head, bad_body, request_item}
use Rattle.px_read.specs.Laws.{head_in}
use Rattle.px_read.specs.declared.head.RequestHead.{RequestHead as ReadRequest}
use Rattle.px_read.specs.declared.head.ResponseHead.{ResponseHead as ReadResponse}
use Rattle.px_write.specs.ReadBack.{read_request_head}
use Rattle.px_exchange.specs.declared.ending.Used.{Used}
use Rattle.px_exchange.specs.declared.ending.Used.TheVariants.{NoServer}
use Rattle.px_exchange.specs.declared.place.Place.{Place}
use Rattle.px_exchange.specs.declared.terms.Terms.{Terms}
use Rattle.px_exchange.specs.Endings.{closed_message, ends_by_fault, ends_early, shut_unless, without_response, unless_kept}
use Rattle.px_exchange.specs.Finds.{is_relayed, look_answer, look_returned, or_leaves}
use Rattle.px_exchange.specs.Flows.{ask_of, with_returned}
use Rattle.px_exchange.specs.Places.{dialled_for, form_at}
use Rattle.px_exchange.specs.Texts.{interim_commands}
use Rattle.px_parts.specs.Texts.{left_of, request_so_far}
use Rattle.px_parts.proofs.ReadBackLemmas.{request-same}
use Rattle.px_chain.specs.Chain.{come_down, end_up, goes_to, goes_up_by, going_at, keeps_came, look, parked_for, pass, pass_came, pass_going, pass_kept, past_came, past_gone, past_kept, sight_ended, sight_past, so_far}
use Rattle.px_chain.specs.Keeping.{parks, unspoilt_at}
use Rattle.px_chain.specs.Coming.{Came, came_in, finished_coming, goes_on_behind, sends_coming, streaming, streams_in}
use Rattle.px_chain.specs.Going.{framed_up, goes_up, going_by, going_text, is_going_up, is_sent, sending_on, sends_going, whole_in, with_whole}
use Rattle.px_chain.specs.ReadBack.{MayGoUp}
use Rattle.px_chain.specs.Sights.{Sight, answers_in, request_in, server_in}
use Rattle.px_chain.specs.Stages.{At, Doing, Stage, all_sent, busy, coming_down, connection, given_body, given_head, going_up, request_body, response_body, response_head, upgraded}
use Rattle.px_chain.proofs.ChainLaws.{behind_turn, leaves_by, passes_by}
use Rattle.px_chain.proofs.ComingLaws.{asks_nothing, behind_owes, bytes_in_two, up_asks}
use Rattle.px_chain.proofs.CountedLemmas.{IsSilent}
use Rattle.px_chain.proofs.GoingLaws.{left_grows}
use Rattle.px_chain.proofs.OnceLemmas.{sent_join, sent_to}
use Rattle.px_chain.proofs.SilentLemmas.{finished_down, waits_silent}

-- ---- what is owed

up_alone : (place : Place) (flow : Flow) (side : ℕ) (seen : Sight) → sent_to side (sends_going place flow side seen) ≡ left_of seen.told (going_text place flow seen)
up_alone place flow side seen =
    let text : List ℕ = left_of seen.told (going_text place flow seen) in
    rw (eq-eqb side side refl) (ap bytes_in (append-nil (map byte text)) ∙ bytes_alone text)

-- with what says nothing to its server
up_first : (place : Place) (flow : Flow) (side : ℕ) (seen : Sight) (rest : List Command) → IsSilent side rest →
    sent_to side (sends_going place flow side seen ++ rest) ≡ left_of seen.told (going_text place flow seen)
up_first place flow side seen rest silent =
    sent_join side (sends_going place flow side seen) rest
    ∙ (ap (λ l. sent_to side (sends_going place flow side seen) ++ l) silent
    ∙ (append-nil (sent_to side (sends_going place flow side seen)) ∙ up_alone place flow side seen))

-- behind its response, which ends its flow
came_up : (terms : Terms) (at : At) (flow : Flow) (side : ℕ) (seen : Sight) (came : Option Came) →
    sent_to side ((pass_came terms.place at flow side going_up seen came).owed ++ so_far terms (pass_came terms.place at flow side going_up seen came).stage (past_came came seen))
    ≡ left_of seen.told (going_text terms.place flow seen)
came_up terms at flow side seen None = up_first terms.place flow side seen (sends_coming flow seen) refl
came_up terms at flow side seen (Some came) =
    let stays : Bool = is_sent going_up && goes_on_behind at.flow flow.request came in
    let kept : Bool = keeps_came at flow going_up seen came in
    let used : Used = unless_kept kept (server_in side seen) in
    let rest : List Command = finished_coming flow seen used ++ shut_unless stays NoServer seen.closed in
    ap (λ l. sent_to side ((sends_going terms.place flow side seen ++ rest) ++ l)) (behind_owes terms stays (parks kept terms.place at flow.request side) (past_came (Some came) seen) refl)
    ∙ (ap (sent_to side) (append-nil (sends_going terms.place flow side seen ++ rest)) ∙ up_first terms.place flow side seen rest (finished_down side flow used seen stays))

-- where all was sent, nothing more is
came_down : (terms : Terms) (at : At) (flow : Flow) (side : ℕ) (seen : Sight) (came : Option Came) →
    IsSilent side ((pass_came terms.place at flow side all_sent seen came).owed ++ so_far terms (pass_came terms.place at flow side all_sent seen came).stage (past_came came seen))
came_down terms at flow side seen None = refl
came_down terms at flow side seen (Some came) =
    let stays : Bool = is_sent all_sent && goes_on_behind at.flow flow.request came in
    let kept : Bool = keeps_came at flow all_sent seen came in
    let used : Used = unless_kept kept (server_in side seen) in
    let rest : List Command = finished_coming flow seen used ++ shut_unless stays NoServer seen.closed in
    ap (λ l. sent_to side (rest ++ l)) (behind_owes terms stays (parks kept terms.place at flow.request side) (past_came (Some came) seen) refl)
    ∙ (ap (sent_to side) (append-nil rest) ∙ finished_down side flow used seen stays)

kept_up : (streams : Bool) (terms : Terms) (at : At) (flow : Flow) (side : ℕ) (most : Option ℕ) (seen : Sight) →
    let on = pass_kept streams terms.place at flow side going_up most seen in
    sent_to side (on.owed ++ so_far terms on.stage (past_kept streams (came_in (streaming flow) seen) seen)) ≡ left_of seen.told (going_text terms.place flow seen)
kept_up true terms at flow side most seen = came_up terms at (streaming flow) side seen (came_in (streaming flow) seen)
kept_up false terms at flow side most seen = up_alone terms.place flow side seen

kept_down : (streams : Bool) (terms : Terms) (at : At) (flow : Flow) (side : ℕ) (most : Option ℕ) (seen : Sight) →
    let on = pass_kept streams terms.place at flow side all_sent most seen in
    IsSilent side (on.owed ++ so_far terms on.stage (past_kept streams (came_in (streaming flow) seen) seen))
kept_down true terms at flow side most seen = came_down terms at (streaming flow) side seen (came_in (streaming flow) seen)
kept_down false terms at flow side most seen = refl

-- where it is whole or not
sent_head : (size : Option ℕ) (terms : Terms) (at : At) (flow : Flow) (side : ℕ) (seen : Sight) →
    let on = passes_by size terms at flow (response_head side going_up) seen in
    sent_to side (on.owed ++ so_far terms on.stage (leaves_by size terms at flow (response_head side going_up) seen)) ≡ left_of seen.told (going_text terms.place flow seen)
sent_head None terms at flow side seen =
    up_first terms.place flow side seen (interim_commands flow.request (answers_in flow.request seen).interim) (waits_silent side flow.request (answers_in flow.request seen).interim)
sent_head (Some n) terms at flow side seen =
    up_first terms.place flow side seen (interim_commands flow.request (answers_in flow.request seen).interim) (waits_silent side flow.request (answers_in flow.request seen).interim)

sent_body : (size : Option ℕ) (terms : Terms) (at : At) (flow : Flow) (side : ℕ) (most : Option ℕ) (seen : Sight) →
    let on = passes_by size terms at flow (response_body side going_up most) seen in
    sent_to side (on.owed ++ so_far terms on.stage (leaves_by size terms at flow (response_body side going_up most) seen)) ≡ left_of seen.told (going_text terms.place flow seen)
sent_body None terms at flow side most seen = kept_up (streams_in flow most seen) terms at flow side most seen
sent_body (Some n) terms at flow side most seen =
    let whole : Flow = with_whole flow seen.now in
    let left : Sight = past_gone (Some side) seen in
    let on = pass_kept (streams_in whole most left) terms.place at whole side all_sent most left in
    let past : Sight = past_kept (streams_in whole most left) (came_in (streaming whole) left) left in
    up_first terms.place flow side seen (on.owed ++ so_far terms on.stage past) (kept_down (streams_in whole most left) terms at whole side most left)

sent_coming : (size : Option ℕ) (terms : Terms) (at : At) (flow : Flow) (side : ℕ) (seen : Sight) →
    let on = passes_by size terms at flow (coming_down side going_up) seen in
    sent_to side (on.owed ++ so_far terms on.stage (leaves_by size terms at flow (coming_down side going_up) seen)) ≡ left_of seen.told (going_text terms.place flow seen)
sent_coming None terms at flow side seen = came_up terms at flow side seen (came_in flow seen)
sent_coming (Some n) terms at flow side seen =
    let whole : Flow = with_whole flow seen.now in
    let left : Sight = past_gone (Some side) seen in
    let on = pass_came terms.place at whole side all_sent left (came_in whole left) in
    let past : Sight = past_came (came_in whole left) left in
    up_first terms.place flow side seen (on.owed ++ so_far terms on.stage past) (came_down terms at whole side left (came_in whole left))

same_number : (side server : ℕ) → Some side ≡ Some server → side ≡ server
same_number side server is = cc

sent_by : (size : Option ℕ) (terms : Terms) (at : At) (flow : Flow) (doing : Doing) (server : ℕ) (seen : Sight) → going_at doing ≡ Some server →
    let on = passes_by size terms at flow doing seen in
    sent_to server (on.owed ++ so_far terms on.stage (leaves_by size terms at flow doing seen)) ≡ left_of seen.told (going_text terms.place flow seen)
sent_by size terms at flow (request_body given most) server seen is = absurd (let e : None ≡ Some server = is in cc)
sent_by size terms at flow (connection how) server seen is = absurd (let e : None ≡ Some server = is in cc)
sent_by size terms at flow (response_head side all_sent) server seen is = absurd (let e : None ≡ Some server = is in cc)
sent_by size terms at flow (response_head side going_up) server seen is =
    let on = passes_by size terms at flow (response_head side going_up) seen in
    let owed : List Command = on.owed ++ so_far terms on.stage (leaves_by size terms at flow (response_head side going_up) seen) in
    subst (λ n. sent_to n owed ≡ left_of seen.told (going_text terms.place flow seen)) (same_number side server is) (sent_head size terms at flow side seen)
sent_by size terms at flow (response_body side all_sent most) server seen is = absurd (let e : None ≡ Some server = is in cc)
sent_by size terms at flow (response_body side going_up most) server seen is =
    let on = passes_by size terms at flow (response_body side going_up most) seen in
    let owed : List Command = on.owed ++ so_far terms on.stage (leaves_by size terms at flow (response_body side going_up most) seen) in
    subst (λ n. sent_to n owed ≡ left_of seen.told (going_text terms.place flow seen)) (same_number side server is) (sent_body size terms at flow side most seen)
sent_by size terms at flow (coming_down side all_sent) server seen is = absurd (let e : None ≡ Some server = is in cc)
sent_by size terms at flow (coming_down side going_up) server seen is =
    let on = passes_by size terms at flow (coming_down side going_up) seen in
    let owed : List Command = on.owed ++ so_far terms on.stage (leaves_by size terms at flow (coming_down side going_up) seen) in
    subst (λ n. sent_to n owed ≡ left_of seen.told (going_text terms.place flow seen)) (same_number side server is) (sent_coming size terms at flow side seen)
sent_by size terms at flow (upgraded side) server seen is = absurd (let e : None ≡ Some server = is in cc)
sent_by size terms at flow given_head server seen is = absurd (let e : None ≡ Some server = is in cc)
sent_by size terms at flow given_body server seen is = absurd (let e : None ≡ Some server = is in cc)

-- a stage of a request that goes up begins with none
by_size : (terms : Terms) (at : At) (flow : Flow) (doing : Doing) (server : ℕ) (seen : Sight) → going_at doing ≡ Some server →
    (pass terms (busy at flow doing) seen ≡ passes_by (whole_in seen) terms at flow doing seen) × (sight_past terms (busy at flow doing) seen ≡ leaves_by (whole_in seen) terms at flow doing seen)
by_size terms at flow (request_body given most) server seen is = absurd (let e : None ≡ Some server = is in cc)
by_size terms at flow (connection how) server seen is = (refl, refl)
by_size terms at flow (response_head side how) server seen is = (refl, refl)
by_size terms at flow (response_body side how most) server seen is = (refl, refl)
by_size terms at flow (coming_down side how) server seen is = (refl, refl)
by_size terms at flow (upgraded side) server seen is = (refl, refl)
by_size terms at flow given_head server seen is = (refl, refl)
by_size terms at flow given_body server seen is = (refl, refl)

-- All of it that came and that earlier asks did not owe, and nothing else.
pub goes_as_it_comes : (terms : Terms) (at : At) (flow : Flow) (doing : Doing) (server : ℕ) (seen : Sight) → going_at doing ≡ Some server →
    let stage : Stage = busy at flow doing in
    sent_to server ((pass terms stage seen).owed ++ so_far terms (pass terms stage seen).stage (sight_past terms stage seen)) ≡ left_of seen.told (going_text terms.place flow seen)
goes_as_it_comes terms at flow doing server seen is =
    let same = by_size terms at flow doing server seen is in
    ap (λ on. sent_to server (on.owed ++ so_far terms on.stage (sight_past terms (busy at flow doing) seen))) same.0
    ∙ (ap (λ past. sent_to server ((passes_by (whole_in seen) terms at flow doing seen).owed ++ so_far terms (passes_by (whole_in seen) terms at flow doing seen).stage past)) same.1
    ∙ sent_by (whole_in seen) terms at flow doing server seen is)

-- ---- which are streamed

-- where it passes once its request began to go up
abbrev passes_from : Terms → Stage → Sight → Turn Stage Command
passes_from terms begun seen =
    let up = end_up terms begun seen in behind_turn up (come_down terms up.stage (sight_ended begun seen))

up_same : (side : Option ℕ) (terms : Terms) (at : At) (flow : Flow) (seen : Sight) → passes_from terms (goes_up_by side terms.place at flow) seen ≡ pass terms (goes_up_by side terms.place at flow) seen
up_same None terms at flow seen = refl
up_same (Some server) terms at flow seen = refl

-- one of which the bytes that came say so: to a parked side whose keeping has not ended, or one that is dialled
pub goes_up_here : (terms : Terms) (at : At) (flow : Flow) (most : Option ℕ) (seen : Sight) → goes_up most seen ≡ true →
    pass terms (busy at flow (request_body None most)) seen ≡ pass terms (goes_up_by (parked_for terms.place flow.request (unspoilt_at at seen).parked) terms.place at (sending_on flow)) seen
goes_up_here terms at flow most seen is =
    ap (λ up. passes_from terms (pass_going up terms.place at flow most seen) seen) is ∙ up_same (parked_for terms.place flow.request (unspoilt_at at seen).parked) terms at (sending_on flow) seen

-- another one is kept
pub stays_here : (terms : Terms) (at : At) (flow : Flow) (most : Option ℕ) (seen : Sight) → goes_up most seen ≡ false →
    pass terms (busy at flow (request_body None most)) seen ≡ goes_to (busy at flow (request_body None most))
stays_here terms at flow most seen is = ap (λ up. passes_from terms (pass_going up terms.place at flow most seen) seen) is

-- ---- what is found

leaves_ask : (closed : Bool) (leaves : List Command) (l : Look Command) (ask : Command) → (l ≡ Asks ask → ⊥) → or_leaves closed leaves l ≡ Asks ask → ⊥
leaves_ask true leaves NotYet ask other is = let e : Ends leaves ≡ Asks ask = is in cc
leaves_ask false leaves NotYet ask other is = other is
leaves_ask closed leaves (Asks asked) ask other is = other is
leaves_ask closed leaves (Ends owed) ask other is = other is

relays_ask : (relays : Bool) (ends : List Command) (flow asked : Flow) → (if not relays then Ends ends else Asks (ask_of flow ResponseHead)) ≡ Asks (ask_of asked RequestBody) → ⊥
relays_ask true ends flow asked is = let e : Asks (ask_of flow ResponseHead) ≡ Asks (ask_of asked RequestBody) = is in cc
relays_ask false ends flow asked is = let e : Ends ends ≡ Asks (ask_of asked RequestBody) = is in cc

answer_asks : (flow asked : Flow) (item : Item ReadResponse) (moment : ℕ) (used : Used) (closed : Bool) → look_answer flow item moment used closed ≡ Asks (ask_of asked RequestBody) → ⊥
answer_asks flow asked missing moment used closed is = let e : NotYet ≡ Asks (ask_of asked RequestBody) = is in cc
answer_asks flow asked (part head body) moment used closed is = relays_ask (is_relayed head.code) _ _ asked is
answer_asks flow asked (complete head body trailers size) moment used closed is = relays_ask (is_relayed head.code) _ _ asked is
answer_asks flow asked (bad_head fault) moment used closed is = let e : Ends (ends_by_fault flow fault moment used closed) ≡ Asks (ask_of asked RequestBody) = is in cc
answer_asks flow asked (bad_body fault head body) moment used closed is = relays_ask (is_relayed head.code) _ _ asked is

returned_asks : (flow asked : Flow) (item : Item ReadResponse) (moment : ℕ) (used : Used) (closed : Bool) → look_returned flow item moment used closed ≡ Asks (ask_of asked RequestBody) → ⊥
returned_asks flow asked missing moment used closed is = let e : NotYet ≡ Asks (ask_of asked RequestBody) = is in cc
returned_asks flow asked (part head body) moment used closed is = let e : NotYet ≡ Asks (ask_of asked RequestBody) = is in cc
returned_asks flow asked (complete head body trailers size) moment used closed is =
    let e : Asks (ask_of (with_returned flow body.content trailers moment) ResponseBody) ≡ Asks (ask_of asked RequestBody) = is in cc
returned_asks flow asked (bad_head fault) moment used closed is = let e : NotYet ≡ Asks (ask_of asked RequestBody) = is in cc
returned_asks flow asked (bad_body fault head body) moment used closed is = let e : Ends (ends_by_fault flow fault moment used closed) ≡ Asks (ask_of asked RequestBody) = is in cc

-- The hook of its body is not asked.
pub body_not_asked : (terms : Terms) (at : At) (flow asked : Flow) (doing : Doing) (seen : Sight) → is_going_up doing ≡ true →
    look terms (busy at flow doing) seen ≡ Asks (ask_of asked RequestBody) → ⊥
body_not_asked terms at flow asked (request_body given most) seen up is = let e : false ≡ true = up in cc
body_not_asked terms at flow asked (connection how) seen up is =
    let e : Asks (commands.Dial at.dials (dialled_for terms.place flow.request) None) ≡ Asks (ask_of asked RequestBody) = is in cc
body_not_asked terms at flow asked (response_head side how) seen up is =
    let leaves : List Command = ends_early flow closed_message seen.now (server_in side seen) true in
    let found : Look Command = look_answer flow (answers_in flow.request seen).final seen.now (server_in side seen) seen.closed in
    up_asks how seen (λ fault. ends_by_fault flow fault seen.now (server_in side seen) seen.closed) found seen.closed leaves (ask_of asked RequestBody)
    (leaves_ask seen.closed leaves found (ask_of asked RequestBody) (answer_asks flow asked (answers_in flow.request seen).final seen.now (server_in side seen) seen.closed)) is
body_not_asked terms at flow asked (response_body side how most) seen up is =
    let leaves : List Command = ends_early (without_response flow) closed_message seen.now (server_in side seen) true in
    let found : Look Command = look_returned flow (answers_in flow.request seen).final seen.now (server_in side seen) seen.closed in
    up_asks how seen (λ fault. ends_by_fault flow fault seen.now (server_in side seen) seen.closed) found seen.closed leaves (ask_of asked RequestBody)
    (leaves_ask seen.closed leaves found (ask_of asked RequestBody) (returned_asks flow asked (answers_in flow.request seen).final seen.now (server_in side seen) seen.closed)) is
body_not_asked terms at flow asked (coming_down side how) seen up is = asks_nothing terms at flow side how seen (ask_of asked RequestBody) is
body_not_asked terms at flow asked (upgraded side) seen up is = let e : false ≡ true = up in cc
body_not_asked terms at flow asked given_head seen up is = let e : false ≡ true = up in cc
body_not_asked terms at flow asked given_body seen up is = let e : false ≡ true = up in cc

-- ---- what is sent of one that is whole

-- It is read back as that request, whatever follows it.
pub reads_back : StreamedIsFramedAsRead → (place : Place) (flow : Flow) (seen : Sight) (head : ReadRequest) (body : Body) (trailers : List (List ℕ × List ℕ)) (used : ℕ) →
    request_in seen ≡ complete head body trailers used → MayGoUp place head flow.request trailers →
    (rest : List ℕ) → let text = going_text place flow seen in
    request_item (text ++ rest) ≡ complete (read_request_head (framed_up head flow.request) (form_at place)) body trailers (length text)
reads_back framed place flow seen head body trailers used whole may rest =
    let sent : Request = framed_up head flow.request in
    let text : going_text place flow seen ≡ request_so_far sent (form_at place) seen.client =
    ap (λ h. going_by h flow.request (form_at place) seen.client) (ap head_in whole) in
    subst (λ t. request_item (t ++ rest) ≡ complete (read_request_head sent (form_at place)) body trailers (length t)) (sym text)
    (request-same sent (form_at place) seen.client head body trailers used whole (record { fields = framed head.fields flow.request.fields; no_tunnel = may.no_tunnel }) may.stands may.trailing rest)

-- ---- what is sent next

server_in_two : (same : Bool) (text more : List ℕ) (rest : List Atom) →
    (if same then map byte (text ++ more) else []) ++ rest ≡ ((if same then map byte text else []) ++ []) ++ ((if same then map byte more else []) ++ rest)
server_in_two true text more rest = bytes_in_two text more rest
server_in_two false text more rest = refl

-- A text in two sends to a server is seen as in one.
pub up_in_two : (view : View) (side : ℕ) (text more : List ℕ) (rest : List Command) →
    seen_of view (commands.Send (Server side) (text ++ more) ∷ rest) ≡ seen_of view (commands.Send (Server side) text ∷ []) ++ seen_of view (commands.Send (Server side) more ∷ rest)
up_in_two (line Client) side text more rest = refl
up_in_two (line (Server other)) side text more rest = server_in_two (side == other) text more (seen_of (line (Server other)) rest)
up_in_two questions side text more rest = refl
up_in_two course side text more rest = refl
up_in_two flows side text more rest = refl
up_in_two order side text more rest = refl

-- So with more of the client's bytes, what was not sent is sent: what is owed is, in each view, what was owed, and then the rest of the text with all that comes behind it.
pub sends_up_the_rest : (view : View) (place : Place) (flow : Flow) (side : ℕ) (seen later : Sight) (rest : List Command) → IsPrefixOf seen.client later.client → later.told ≡ seen.told →
    seen.told ≤ length (going_text place flow seen) →
    seen_of view (commands.Send (Server side) (left_of later.told (going_text place flow later)) ∷ rest)
    ≡ seen_of view (sends_going place flow side seen)
    ++ seen_of view (commands.Send (Server side) (left_of (length (going_text place flow seen)) (going_text place flow later)) ∷ rest)
sends_up_the_rest view place flow side seen later rest more same within =
    ap (λ t. seen_of view (commands.Send (Server side) t ∷ rest)) (left_grows place flow seen later more within same)
    ∙ up_in_two view side (left_of seen.told (going_text place flow seen)) (left_of (length (going_text place flow seen)) (going_text place flow later)) rest
