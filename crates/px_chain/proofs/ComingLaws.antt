-- A response that is streamed is sent as it comes: what its stage owes the client, where it passes and while it waits, is its text.
use Rattle.std.proofs.Common.{◌≡◌, ℕ, Bool, true, false, List, [], ◌∷◌, ◌++◌, Option, Some, None, refl, ap, sym, ◌∙◌, subst, append_assoc, drop, length}
use Rattle.std.specs.Prelude.{◌&&◌, map}
use Rattle.std.proofs.lemmas.List.{append-nil, map-append}
use Rattle.px_message.specs.declared.fault.Fault.{Fault}
use Rattle.px_message.specs.declared.flow.Flow.{Flow}
use Rattle.px_event.specs.declared.command.Command.{Command}
use Rattle.px_event.specs.declared.command.Command.TheVariants as commands
use Rattle.px_event.specs.declared.side.Side.TheVariants.{Client, Server}
use Rattle.px_event.specs.Chain.{Look, NotYet, Asks, Ends, Turn}
use Rattle.px_event.specs.View.{byte, bytes_in, line, seen_of, Atom, View, course, flows, order, questions}
use Rattle.px_event.proofs.LineLemmas.{bytes_alone, bytes_join}
use Rattle.px_event.proofs.Seen.{seen_append}
use Rattle.px_read.specs.Items.{Item, missing, part, complete, bad_head, bad_body, Body}
use Rattle.px_read.specs.declared.head.RequestHead.{RequestHead as ReadRequest}
use Rattle.px_read.specs.declared.head.ResponseHead.{ResponseHead as ReadResponse}
use Rattle.px_write.specs.Error.{fault_message}
use Rattle.px_exchange.specs.declared.ending.Used.{Used}
use Rattle.px_exchange.specs.declared.ending.Used.TheVariants.{NoServer, ByServer}
use Rattle.px_exchange.specs.declared.place.Place.{Place}
use Rattle.px_exchange.specs.declared.terms.Terms.{Terms}
use Rattle.px_exchange.specs.Endings.{closed_message, ends_early, shut_all, shut_client, shut_server, shut_unless, unless_kept}
use Rattle.px_exchange.specs.Finds.{or_leaves}
use Rattle.px_exchange.specs.Flows.{with_end}
use Rattle.px_chain.specs.Chain.{bad_or, behind_flow, goes_to, keeps_came, look, look_coming, look_up, pass, pass_came, pass_kept, past_came, past_gone, sight_past, so_far}
use Rattle.px_chain.specs.Keeping.{parks}
use Rattle.px_chain.specs.Going.{is_sent, sends_going, sends_up, whole_in, with_whole}
use Rattle.px_chain.specs.Coming.{Came, came_in, coming_text, finished_coming, goes_on_behind, streaming, streams_in, coming_by, framed_as, sends_coming}
use Rattle.px_chain.specs.Sights.{Sight, answers_in, request_in, server_in}
use Rattle.px_chain.specs.Stages.{At, Sent, Stage, all_sent, busy, coming_down, going_up, over, response_body}
use Rattle.px_message.specs.Settle.{StreamedIsFramedAsRead}
use Rattle.px_message.specs.declared.response.Response.{Response}
use Rattle.px_read.specs.Laws.{head_in}
use Rattle.px_read.proofs.WholeLemmas.{final-behind}
use Rattle.px_exchange.specs.Requests.{is_head}
use Rattle.px_parts.specs.Texts.{final_bytes, final_so_far, left_of}
use Rattle.px_parts.proofs.ReadBackLemmas.{response-same, status_small}
use Rattle.px_chain.specs.ReadBack.{MayPass, ReadsAs}
use Rattle.std.proofs.Math.Seq.{drop-append_seam}
use Rattle.px_text.specs.Prefix.{IsPrefixOf}
use Rattle.px_chain.proofs.KeepingLaws.{nothing_strays}
use Rattle.px_chain.proofs.ChainLaws.{HearsOn, behind_turn, coming_text_grows, leaves_by, passes_by}

-- the bytes that are sent to the client
abbrev pub to_client : List Command → List ℕ
to_client owed = bytes_in (seen_of (line Client) owed)

pub client_join : (xs ys : List Command) → to_client (xs ++ ys) ≡ to_client xs ++ to_client ys
client_join xs ys = ap bytes_in (seen_append (line Client) xs ys) ∙ bytes_join (seen_of (line Client) xs) (seen_of (line Client) ys)

both_none : (xs ys : List Command) → to_client xs ≡ [] → to_client ys ≡ [] → to_client (xs ++ ys) ≡ []
both_none xs ys a b = client_join xs ys ∙ (ap (λ l. l ++ to_client ys) a ∙ b)

-- ---- ends have no bytes

client_none : (closed : Bool) → to_client (shut_client closed) ≡ []
client_none true = refl
client_none false = refl

server_none : (used : Used) → to_client (shut_server used) ≡ []
server_none NoServer = refl
server_none (ByServer number true) = refl
server_none (ByServer number false) = refl

all_none : (used : Used) (closed : Bool) → to_client (shut_all used closed) ≡ []
all_none used closed = both_none (shut_server used) (shut_client closed) (server_none used) (client_none closed)

unless_none : (stays : Bool) (used : Used) (closed : Bool) → to_client (shut_unless stays used closed) ≡ []
unless_none true used closed = refl
unless_none false used closed = all_none used closed

early_none : (flow : Flow) (message : List ℕ) (moment : ℕ) (used : Used) (closed : Bool) → to_client (ends_early flow message moment used closed) ≡ []
early_none flow message moment used closed = all_none used closed

-- ---- what is owed

-- a text, and what has none
one_text : (text : List ℕ) (rest : List Command) → to_client rest ≡ [] → to_client (commands.Send Client text ∷ rest) ≡ text
one_text text rest none =
    client_join (commands.Send Client text ∷ []) rest
    ∙ (ap (λ l. to_client (commands.Send Client text ∷ []) ++ l) none
    ∙ (append-nil (to_client (commands.Send Client text ∷ []))
    ∙ (ap bytes_in (append-nil (map byte text)) ∙ bytes_alone text)))

-- behind a flow nothing is heard of its side
pub behind_owes : (terms : Terms) (stays : Bool) (at : At) (seen : Sight) → seen.server ≡ [] → so_far terms (behind_flow stays at) seen ≡ []
behind_owes terms true at seen is = ap (λ l. l ++ []) (nothing_strays at.parked seen is)
behind_owes terms false at seen is = refl

-- what its server is sent of its request
up_none : (place : Place) (flow : Flow) (side : ℕ) (how : Sent) (seen : Sight) → to_client (sends_up place flow side how seen) ≡ []
up_none place flow side all_sent seen = refl
up_none place flow side going_up seen = refl

behind_none : (xs ys : List Command) → to_client xs ≡ [] → to_client (xs ++ ys) ≡ to_client ys
behind_none xs ys unsaid = client_join xs ys ∙ ap (λ l. l ++ to_client ys) unsaid

came_owes : (terms : Terms) (at : At) (flow : Flow) (side : ℕ) (how : Sent) (seen : Sight) (came : Option Came) →
    to_client ((pass_came terms.place at flow side how seen came).owed ++ so_far terms (pass_came terms.place at flow side how seen came).stage (past_came came seen)) ≡ coming_text flow seen
came_owes terms at flow side how seen None =
    behind_none (sends_up terms.place flow side how seen) (sends_coming flow seen) (up_none terms.place flow side how seen) ∙ one_text (coming_text flow seen) [] refl
came_owes terms at flow side how seen (Some came) =
    let stays : Bool = is_sent how && goes_on_behind at.flow flow.request came in
    let kept : Bool = keeps_came at flow how seen came in
    let used : Used = unless_kept kept (server_in side seen) in
    let closes : List Command = commands.Done (with_end flow seen.now) ∷ shut_server used in
    let up : List Command = sends_up terms.place flow side how seen in
    let owed : List Command = finished_coming flow seen used ++ shut_unless stays NoServer seen.closed in
    ap (λ l. to_client ((up ++ owed) ++ l)) (behind_owes terms stays (parks kept terms.place at flow.request side) (past_came (Some came) seen) refl)
    ∙ (ap to_client (append-nil (up ++ owed))
    ∙ (behind_none up owed (up_none terms.place flow side how seen)
    ∙ one_text (coming_text flow seen) (closes ++ shut_unless stays NoServer seen.closed)
    (both_none closes (shut_unless stays NoServer seen.closed) (server_none used) (unless_none stays NoServer seen.closed))))

-- so is it where its request is whole or not
coming_owes : (size : Option ℕ) (terms : Terms) (at : At) (flow : Flow) (side : ℕ) (how : Sent) (seen : Sight) →
    let on = passes_by size terms at flow (coming_down side how) seen in
    to_client (on.owed ++ so_far terms on.stage (leaves_by size terms at flow (coming_down side how) seen)) ≡ coming_text flow seen
coming_owes size terms at flow side all_sent seen = came_owes terms at flow side all_sent seen (came_in flow seen)
coming_owes None terms at flow side going_up seen = came_owes terms at flow side going_up seen (came_in flow seen)
coming_owes (Some n) terms at flow side going_up seen =
    let whole : Flow = with_whole flow seen.now in
    let left : Sight = past_gone (Some side) seen in
    came_owes terms at whole side all_sent left (came_in whole left)

-- All of it that came, and nothing else.
pub sent_as_it_comes : (terms : Terms) (at : At) (flow : Flow) (side : ℕ) (how : Sent) (seen : Sight) →
    let stage : Stage = busy at flow (coming_down side how) in
    to_client ((pass terms stage seen).owed ++ so_far terms (pass terms stage seen).stage (sight_past terms stage seen)) ≡ coming_text flow seen
sent_as_it_comes terms at flow side how seen = coming_owes (whole_in seen) terms at flow side how seen

-- ---- which are streamed

streams_by_size : (size : Option ℕ) (terms : Terms) (at : At) (flow : Flow) (side : ℕ) (how : Sent) (most : Option ℕ) (seen : Sight) → streams_in flow most seen ≡ true →
    passes_by size terms at flow (response_body side how most) seen ≡ passes_by size terms at (streaming flow) (coming_down side how) seen
streams_by_size size terms at flow side all_sent most seen is = ap (λ b. pass_kept b terms.place at flow side all_sent most seen) is
streams_by_size None terms at flow side going_up most seen is = ap (λ b. pass_kept b terms.place at flow side going_up most seen) is
streams_by_size (Some n) terms at flow side going_up most seen is =
    let up : Turn Stage Command = record { owed = sends_going terms.place flow side seen; stage = over } in
    ap (λ b. behind_turn up (pass_kept b terms.place at (with_whole flow seen.now) side all_sent most (past_gone (Some side) seen))) is

-- one of which the bytes that came say so
pub streams_here : (terms : Terms) (at : At) (flow : Flow) (side : ℕ) (how : Sent) (most : Option ℕ) (seen : Sight) → streams_in flow most seen ≡ true →
    pass terms (busy at flow (response_body side how most)) seen ≡ pass terms (busy at (streaming flow) (coming_down side how)) seen
streams_here terms at flow side how most seen is = streams_by_size (whole_in seen) terms at flow side how most seen is

-- another one is kept, where its request was sent
pub keeps_here : (terms : Terms) (at : At) (flow : Flow) (side : ℕ) (most : Option ℕ) (seen : Sight) → streams_in flow most seen ≡ false →
    pass terms (busy at flow (response_body side all_sent most)) seen ≡ goes_to (busy at flow (response_body side all_sent most))
keeps_here terms at flow side most seen is = ap (λ b. pass_kept b terms.place at flow side all_sent most seen) is

-- or is not whole
pub keeps_both : (terms : Terms) (at : At) (flow : Flow) (side : ℕ) (most : Option ℕ) (seen : Sight) → streams_in flow most seen ≡ false → whole_in seen ≡ None →
    pass terms (busy at flow (response_body side going_up most)) seen ≡ goes_to (busy at flow (response_body side going_up most))
keeps_both terms at flow side most seen is unfinished =
    ap (λ size. passes_by size terms at flow (response_body side going_up most) seen) unfinished
    ∙ ap (λ b. pass_kept b terms.place at flow side going_up most seen) is

-- ---- what is found

ends_owed : (owed other : List Command) → Ends owed ≡ Ends other → owed ≡ other
ends_owed owed other is = cc

coming_ends : (flow : Flow) (item : Item ReadResponse) (moment : ℕ) (used : Used) (closed : Bool) (leaves owed : List Command) → to_client leaves ≡ [] →
    or_leaves closed leaves (look_coming flow item moment used closed) ≡ Ends owed → to_client owed ≡ []
coming_ends flow (bad_body fault head body) moment used closed leaves owed none is =
    ap to_client (sym (ends_owed _ owed is)) ∙ early_none flow (fault_message fault) moment used closed
coming_ends flow missing moment used true leaves owed none is = ap to_client (sym (ends_owed leaves owed is)) ∙ none
coming_ends flow missing moment used false leaves owed none is = absurd (let e : NotYet ≡ Ends owed = is in cc)
coming_ends flow (part head body) moment used true leaves owed none is = ap to_client (sym (ends_owed leaves owed is)) ∙ none
coming_ends flow (part head body) moment used false leaves owed none is = absurd (let e : NotYet ≡ Ends owed = is in cc)
coming_ends flow (complete head body trailers size) moment used true leaves owed none is = ap to_client (sym (ends_owed leaves owed is)) ∙ none
coming_ends flow (complete head body trailers size) moment used false leaves owed none is = absurd (let e : NotYet ≡ Ends owed = is in cc)
coming_ends flow (bad_head fault) moment used true leaves owed none is = ap to_client (sym (ends_owed leaves owed is)) ∙ none
coming_ends flow (bad_head fault) moment used false leaves owed none is = absurd (let e : NotYet ≡ Ends owed = is in cc)

-- a bad body of its request is found first
bad_ends : (item : Item ReadRequest) (ends : Fault → List Command) (found : Look Command) (closed : Bool) (leaves owed : List Command) → ((fault : Fault) → to_client (ends fault) ≡ []) →
    (or_leaves closed leaves found ≡ Ends owed → to_client owed ≡ []) → or_leaves closed leaves (bad_or item ends found) ≡ Ends owed → to_client owed ≡ []
bad_ends (bad_body fault head body) ends found closed leaves owed silent on is = ap to_client (sym (ends_owed (ends fault) owed is)) ∙ silent fault
bad_ends missing ends found closed leaves owed silent on is = on is
bad_ends (part head body) ends found closed leaves owed silent on is = on is
bad_ends (complete head body trailers size) ends found closed leaves owed silent on is = on is
bad_ends (bad_head fault) ends found closed leaves owed silent on is = on is

up_ends : (how : Sent) (seen : Sight) (ends : Fault → List Command) (found : Look Command) (closed : Bool) (leaves owed : List Command) → ((fault : Fault) → to_client (ends fault) ≡ []) →
    (or_leaves closed leaves found ≡ Ends owed → to_client owed ≡ []) → or_leaves closed leaves (look_up how seen ends found) ≡ Ends owed → to_client owed ≡ []
up_ends all_sent seen ends found closed leaves owed silent on is = on is
up_ends going_up seen ends found closed leaves owed silent on is = bad_ends (request_in seen) ends found closed leaves owed silent on is

-- A fault, or the client's close, says nothing behind it.
pub ends_silently : (terms : Terms) (at : At) (flow : Flow) (side : ℕ) (how : Sent) (seen : Sight) (owed : List Command) →
    look terms (busy at flow (coming_down side how)) seen ≡ Ends owed → to_client owed ≡ []
ends_silently terms at flow side how seen owed is =
    let leaves : List Command = ends_early flow closed_message seen.now (server_in side seen) true in
    up_ends how seen (λ fault. ends_early flow (fault_message fault) seen.now (server_in side seen) seen.closed)
    (look_coming flow (answers_in flow.request seen).final seen.now (server_in side seen) seen.closed) seen.closed leaves owed
    (λ fault. early_none flow (fault_message fault) seen.now (server_in side seen) seen.closed)
    (coming_ends flow (answers_in flow.request seen).final seen.now (server_in side seen) seen.closed leaves owed
    (early_none flow closed_message seen.now (server_in side seen) true)) is

pub coming_asks : (flow : Flow) (item : Item ReadResponse) (moment : ℕ) (used : Used) (closed : Bool) (leaves : List Command) (ask : Command) →
    or_leaves closed leaves (look_coming flow item moment used closed) ≡ Asks ask → ⊥
coming_asks flow (bad_body fault head body) moment used closed leaves ask is = let e : Ends (ends_early flow (fault_message fault) moment used closed) ≡ Asks ask = is in cc
coming_asks flow missing moment used true leaves ask is = let e : Ends leaves ≡ Asks ask = is in cc
coming_asks flow missing moment used false leaves ask is = let e : NotYet ≡ Asks ask = is in cc
coming_asks flow (part head body) moment used true leaves ask is = let e : Ends leaves ≡ Asks ask = is in cc
coming_asks flow (part head body) moment used false leaves ask is = let e : NotYet ≡ Asks ask = is in cc
coming_asks flow (complete head body trailers size) moment used true leaves ask is = let e : Ends leaves ≡ Asks ask = is in cc
coming_asks flow (complete head body trailers size) moment used false leaves ask is = let e : NotYet ≡ Asks ask = is in cc
coming_asks flow (bad_head fault) moment used true leaves ask is = let e : Ends leaves ≡ Asks ask = is in cc
coming_asks flow (bad_head fault) moment used false leaves ask is = let e : NotYet ≡ Asks ask = is in cc

bad_asks : (item : Item ReadRequest) (ends : Fault → List Command) (found : Look Command) (closed : Bool) (leaves : List Command) (ask : Command) →
    (or_leaves closed leaves found ≡ Asks ask → ⊥) → or_leaves closed leaves (bad_or item ends found) ≡ Asks ask → ⊥
bad_asks (bad_body fault head body) ends found closed leaves ask on is = let e : Ends (ends fault) ≡ Asks ask = is in cc
bad_asks missing ends found closed leaves ask on is = on is
bad_asks (part head body) ends found closed leaves ask on is = on is
bad_asks (complete head body trailers size) ends found closed leaves ask on is = on is
bad_asks (bad_head fault) ends found closed leaves ask on is = on is

-- nor by a bad body of a request that goes up
pub up_asks : (how : Sent) (seen : Sight) (ends : Fault → List Command) (found : Look Command) (closed : Bool) (leaves : List Command) (ask : Command) →
    (or_leaves closed leaves found ≡ Asks ask → ⊥) → or_leaves closed leaves (look_up how seen ends found) ≡ Asks ask → ⊥
up_asks all_sent seen ends found closed leaves ask on is = on is
up_asks going_up seen ends found closed leaves ask on is = bad_asks (request_in seen) ends found closed leaves ask on is

-- No hook is asked of it.
pub asks_nothing : (terms : Terms) (at : At) (flow : Flow) (side : ℕ) (how : Sent) (seen : Sight) (ask : Command) → look terms (busy at flow (coming_down side how)) seen ≡ Asks ask → ⊥
asks_nothing terms at flow side how seen ask is =
    let leaves : List Command = ends_early flow closed_message seen.now (server_in side seen) true in
    up_asks how seen (λ fault. ends_early flow (fault_message fault) seen.now (server_in side seen) seen.closed)
    (look_coming flow (answers_in flow.request seen).final seen.now (server_in side seen) seen.closed) seen.closed leaves ask
    (coming_asks flow (answers_in flow.request seen).final seen.now (server_in side seen) seen.closed leaves ask) is

-- ---- what is sent of one that is whole

sent_so : (flow : Flow) (seen : Sight) (response : Response) (head : ReadResponse) → flow.response ≡ Some response → head_in (answers_in flow.request seen).final ≡ Some head →
    coming_text flow seen ≡ final_so_far (framed_as head response) (is_head flow.request.method) seen.shut seen.server
sent_so flow seen response head is there =
    ap (λ given. coming_by given (head_in (answers_in flow.request seen).final) flow.request seen.shut seen.server) is
    ∙ ap (λ h. coming_by (Some response) h flow.request seen.shut seen.server) there

-- It is read back as that response.
pub read_back : StreamedIsFramedAsRead → (flow : Flow) (seen : Sight) (response : Response) (head : ReadResponse) (body : Body) (trailers : List (List ℕ × List ℕ)) (used : ℕ) →
    flow.response ≡ Some response → (answers_in flow.request seen).final ≡ complete head body trailers used → MayPass (is_head flow.request.method) head response trailers →
    ReadsAs (is_head flow.request.method) (coming_text flow seen) (framed_as head response) body trailers
read_back framed flow seen response head body trailers used is whole may =
    let asked_head : Bool = is_head flow.request.method in
    let sent : Response = framed_as head response in
    let bytes : List ℕ = final_bytes asked_head seen.shut seen.server in
    let text = sent_so flow seen response head is (ap head_in whole) in
    let both = response-same asked_head sent (status_small response.status may.status) seen.shut bytes head body trailers used
    (sym (final-behind asked_head seen.shut seen.server) ∙ whole)
    (record { fields = framed head.fields response.fields; body = may.body }) may.stands may.trailing in
    let there : ReadsAs asked_head (final_so_far sent asked_head seen.shut seen.server) sent body trailers =
    record { by_itself = λ not_to_close closed rest. both.0 not_to_close closed rest; to_close = both.1 } in
    subst (λ t. ReadsAs asked_head t sent body trailers) (sym text) there

-- ---- what is sent next

pub bytes_in_two : (text more : List ℕ) (rest : List Atom) → map byte (text ++ more) ++ rest ≡ (map byte text ++ []) ++ (map byte more ++ rest)
bytes_in_two text more rest =
    ap (λ l. l ++ rest) (map-append byte text more)
    ∙ (append_assoc (map byte text) (map byte more) rest ∙ ap (λ l. l ++ (map byte more ++ rest)) (sym (append-nil (map byte text))))

-- A text in two sends is seen as in one.
pub in_two : (view : View) (text more : List ℕ) (rest : List Command) →
    seen_of view (commands.Send Client (text ++ more) ∷ rest) ≡ seen_of view (commands.Send Client text ∷ []) ++ seen_of view (commands.Send Client more ∷ rest)
in_two (line Client) text more rest = bytes_in_two text more (seen_of (line Client) rest)
in_two (line (Server side)) text more rest = refl
in_two questions text more rest = refl
in_two course text more rest = refl
in_two flows text more rest = refl
in_two order text more rest = bytes_in_two text more (seen_of order rest)

-- what is left of a text that grew is what was added
left_added : (text later : List ℕ) → IsPrefixOf text later → later ≡ text ++ left_of (length text) later
left_added text later (more, is) = is ∙ ap (λ l. text ++ l) (sym (ap (drop (length text)) is ∙ drop-append_seam text more))

-- So with one event more, what was not sent is sent: what is owed is, in each view, what was owed, and then the rest of the text with all that comes behind it.
pub sends_the_rest : (view : View) (flow : Flow) (seen later : Sight) (rest : List Command) → HearsOn seen.shut seen.server later.shut later.server →
    seen_of view (commands.Send Client (coming_text flow later) ∷ rest)
    ≡ seen_of view (sends_coming flow seen) ++ seen_of view (commands.Send Client (left_of (length (coming_text flow seen)) (coming_text flow later)) ∷ rest)
sends_the_rest view flow seen later rest hears =
    let text : List ℕ = coming_text flow seen in
    let whole : List ℕ = coming_text flow later in
    ap (λ t. seen_of view (commands.Send Client t ∷ rest)) (left_added text whole (coming_text_grows flow seen later hears))
    ∙ in_two view text (left_of (length text) whole) rest
