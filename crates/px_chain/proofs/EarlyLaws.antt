-- What ends while a request goes up: a bad body of it ends its flow at its byte, whatever of the response has come, and a response that is complete before it ends
-- the conversation.
use Rattle.std.proofs.Common.{◌≡◌, ℕ, ◌+◌, Bool, true, false, List, [], ◌∷◌, ◌++◌, Option, Some, None, refl, ap, sym, ◌∙◌}
use Rattle.px_message.specs.declared.fault.Fault.{Fault}
use Rattle.px_message.specs.declared.flow.Flow.{Flow}
use Rattle.px_message.specs.declared.response.Response.{Response}
use Rattle.px_event.specs.declared.command.Command.{Command}
use Rattle.px_event.specs.declared.command.Command.TheVariants as commands
use Rattle.px_event.specs.declared.reply.Reply.{Reply}
use Rattle.px_event.specs.declared.side.Side.TheVariants.{Client, Server}
use Rattle.px_event.specs.Chain.{Ends, Look, Timed, Turn}
use Rattle.px_read.specs.Items.{Body, Item, missing, part, complete, bad_head, bad_body}
use Rattle.px_read.specs.declared.head.RequestHead.{RequestHead as ReadRequest}
use Rattle.px_read.specs.declared.head.ResponseHead.{ResponseHead as ReadResponse}
use Rattle.px_write.specs.Error.{error_text, fault_message}
use Rattle.px_exchange.specs.declared.ending.Used.{Used}
use Rattle.px_exchange.specs.declared.place.Place.{Place}
use Rattle.px_exchange.specs.declared.taken.Taken.{Taken}
use Rattle.px_exchange.specs.declared.taken.Taken.TheVariants.{GoesOn, Responds, Kills}
use Rattle.px_exchange.specs.declared.terms.Terms.{Terms}
use Rattle.px_exchange.specs.Endings.{ends_by_fault, ends_early, shut_all, with_error, without_response}
use Rattle.px_exchange.specs.Finds.{look_answer, look_returned, or_leaves}
use Rattle.px_exchange.specs.Flows.{with_end, with_returned}
use Rattle.px_exchange.specs.Replies.{taken_at_response_body}
use Rattle.px_exchange.specs.Requests.{is_head}
use Rattle.px_exchange.specs.Texts.{interim_commands, returned_text}
use Rattle.px_parts.specs.Texts.{left_of}
use Rattle.px_chain.specs.Chain.{bad_or, behind_flow, goes_to, going_at, gone, keeps_came, leaving, look, look_coming, pass, pass_came, pass_kept, past_gone, so_far, turn, turn_read_whole, turn_response, turn_returned, turn_taken_whole}
use Rattle.px_chain.specs.Keeping.{keeps_side, parks, unspoilt_at}
use Rattle.px_chain.specs.Coming.{Came, came_in, coming_text, streaming, streams_by, streams_in}
use Rattle.px_chain.specs.Going.{going_text, sends_going, whole_by, whole_in, with_whole}
use Rattle.px_chain.specs.Sights.{Sight, answers_in, left_by, request_in, server_in}
use Rattle.px_chain.specs.Stages.{At, Doing, Sent, Stage, all_sent, busy, coming_down, connection, given_body, given_head, going_up, next, over, request_body, response_body, response_head, upgraded}
use Rattle.px_chain.proofs.ChainLaws.{passes_by}
use Rattle.px_chain.proofs.ComingLaws.{client_join, keeps_both, streams_here, to_client}

-- ---- a bad body of the request

-- Its error's text, the flow with the error and no response, and the closes.
abbrev told : Flow → Fault → ℕ → Sight → Look Command
told flow fault side seen = Ends (
    commands.Send Client (error_text fault (is_head flow.request.method))
    ∷ commands.Done (with_error (without_response flow) (fault_message fault) seen.now) ∷ shut_all (server_in side seen) seen.closed
    )

-- the response's head is awaited
pub bad_before : (terms : Terms) (at : At) (flow : Flow) (side : ℕ) (seen : Sight) (fault : Fault) (head : ReadRequest) (body : Body) → request_in seen ≡ bad_body fault head body →
    look terms (busy at flow (response_head side going_up)) seen ≡ told flow fault side seen
bad_before terms at flow side seen fault head body bad = rw bad refl

-- its body is kept
pub bad_beside : (terms : Terms) (at : At) (flow : Flow) (side : ℕ) (most : Option ℕ) (seen : Sight) (fault : Fault) (head : ReadRequest) (body : Body) → request_in seen ≡ bad_body fault head body →
    look terms (busy at flow (response_body side going_up most)) seen ≡ told flow fault side seen
bad_beside terms at flow side most seen fault head body bad = rw bad refl

-- it is sent as it comes
pub bad_behind : (terms : Terms) (at : At) (flow : Flow) (side : ℕ) (seen : Sight) (fault : Fault) (head : ReadRequest) (body : Body) → request_in seen ≡ bad_body fault head body →
    look terms (busy at flow (coming_down side going_up)) seen ≡ Ends (commands.Done (with_error flow (fault_message fault) seen.now) ∷ shut_all (server_in side seen) seen.closed)
bad_behind terms at flow side seen fault head body bad = rw bad refl

-- ---- what else the client is said by then

-- to its server
going_none : (place : Place) (flow : Flow) (side : ℕ) (seen : Sight) → to_client (sends_going place flow side seen) ≡ []
going_none place flow side seen = refl

-- While the response's head is awaited the interim ones, and while its body is kept nothing.
pub unsaid_head : (terms : Terms) (at : At) (flow : Flow) (side : ℕ) (seen : Sight) →
    to_client (so_far terms (busy at flow (response_head side going_up)) seen) ≡ to_client (interim_commands flow.request (answers_in flow.request seen).interim)
unsaid_head terms at flow side seen =
    let interim : List Command = interim_commands flow.request (answers_in flow.request seen).interim in
    client_join (sends_going terms.place flow side seen) interim ∙ ap (λ l. l ++ to_client interim) (going_none terms.place flow side seen)

pub unsaid_body : (terms : Terms) (at : At) (flow : Flow) (side : ℕ) (most : Option ℕ) (seen : Sight) → to_client (so_far terms (busy at flow (response_body side going_up most)) seen) ≡ []
unsaid_body terms at flow side most seen = going_none terms.place flow side seen

-- ---- at its byte: with more of the client alone nothing passes where nothing did

behind_stays : (stays : Bool) (at to : At) (flow : Flow) (doing : Doing) → behind_flow stays at ≡ busy to flow doing → ⊥
behind_stays true at to flow doing is = let e : next (record at { flow = at.flow + 1 }) ≡ busy to flow doing = is in cc
behind_stays false at to flow doing is = let e : over ≡ busy to flow doing = is in cc

same_doing : (at to : At) (flow other : Flow) (doing more : Doing) → busy at flow doing ≡ busy to other more → more ≡ doing
same_doing at to flow other doing more is = cc

same_sent : (side : ℕ) (how to : Sent) → coming_down side how ≡ coming_down side to → how ≡ to
same_sent side how to is = cc

same_kept : (side : ℕ) (how to : Sent) (most : Option ℕ) → response_body side how most ≡ response_body side to most → how ≡ to
same_kept side how to most is = cc

came_stays : (place : Place) (at : At) (flow other : Flow) (side : ℕ) (how : Sent) (seen : Sight) (came : Option Came) (doing : Doing) →
    (pass_came place at flow side how seen came).stage ≡ busy at other doing → (doing ≡ coming_down side how) × (came ≡ None)
came_stays place at flow other side how seen None doing is = (same_doing at at flow other (coming_down side how) doing is, refl)
came_stays place at flow other side how seen (Some came) doing is = absurd (behind_stays _ (parks (keeps_came at flow how seen came) place at flow.request side) at other doing is)

kept_stays : (streams : Bool) (place : Place) (at : At) (flow other : Flow) (side : ℕ) (how : Sent) (most : Option ℕ) (seen : Sight) →
    (pass_kept streams place at flow side how most seen).stage ≡ busy at other (response_body side going_up most) → (streams ≡ false) × (going_up ≡ how)
kept_stays true place at flow other side how most seen is =
    let same = came_stays place at (streaming flow) other side how seen (came_in (streaming flow) seen) (response_body side going_up most) is in
    absurd (let e : response_body side going_up most ≡ coming_down side how = same.0 in cc)
kept_stays false place at flow other side how most seen is =
    (refl, same_kept side going_up how most (same_doing at at flow other (response_body side how most) (response_body side going_up most) is))

body_quiet : (size : Option ℕ) (terms : Terms) (at : At) (flow : Flow) (side : ℕ) (most : Option ℕ) (seen : Sight) →
    (passes_by size terms at flow (response_body side going_up most) seen).stage ≡ busy at flow (response_body side going_up most) → streams_in flow most seen ≡ false
body_quiet None terms at flow side most seen is = (kept_stays (streams_in flow most seen) terms.place at flow flow side going_up most seen is).0
body_quiet (Some n) terms at flow side most seen is =
    let whole : Flow = with_whole flow seen.now in
    let left : Sight = past_gone (Some side) seen in
    let same = kept_stays (streams_in whole most left) terms.place at whole flow side all_sent most left is in
    absurd (let e : going_up ≡ all_sent = same.1 in cc)

down_quiet : (size : Option ℕ) (terms : Terms) (at : At) (flow : Flow) (side : ℕ) (seen : Sight) →
    (passes_by size terms at flow (coming_down side going_up) seen).stage ≡ busy at flow (coming_down side going_up) → came_in flow seen ≡ None
down_quiet None terms at flow side seen is = (came_stays terms.place at flow flow side going_up seen (came_in flow seen) (coming_down side going_up) is).1
down_quiet (Some n) terms at flow side seen is =
    let whole : Flow = with_whole flow seen.now in
    let left : Sight = past_gone (Some side) seen in
    let same = came_stays terms.place at whole flow side all_sent left (came_in whole left) (coming_down side going_up) is in
    absurd (let e : going_up ≡ all_sent = same_sent side going_up all_sent same.0 in cc)

-- of the server the same is seen
streams_same : (flow : Flow) (most : Option ℕ) (seen later : Sight) → later.server ≡ seen.server → later.shut ≡ seen.shut → streams_in flow most later ≡ streams_in flow most seen
streams_same flow most seen later server shut =
    ap (λ bytes. streams_by flow.response flow.request most later.shut bytes) server ∙ ap (λ closed. streams_by flow.response flow.request most closed seen.server) shut

came_same : (flow : Flow) (seen later : Sight) → later.server ≡ seen.server → later.shut ≡ seen.shut → came_in flow later ≡ came_in flow seen
came_same flow seen later server shut =
    ap (λ bytes. came_in flow (record later { server = bytes })) server ∙ ap (λ closed. came_in flow (record later { server = seen.server; shut = closed })) shut

-- a request that is at fault is not whole
not_whole : (seen : Sight) (fault : Fault) (head : ReadRequest) (body : Body) → request_in seen ≡ bad_body fault head body → whole_in seen ≡ None
not_whole seen fault head body bad = ap whole_by bad

-- where the response's head is awaited nothing passes before it
pub bad_at_once : (terms : Terms) (at : At) (flow : Flow) (side : ℕ) (seen : Sight) (fault : Fault) (head : ReadRequest) (body : Body) → request_in seen ≡ bad_body fault head body →
    pass terms (busy at flow (response_head side going_up)) seen ≡ goes_to (busy at flow (response_head side going_up))
bad_at_once terms at flow side seen fault head body bad = ap (λ size. passes_by size terms at flow (response_head side going_up) seen) (not_whole seen fault head body bad)

-- nor elsewhere, with more of the client alone
stays_at_its_byte : (terms : Terms) (at : At) (flow : Flow) (doing : Doing) (side : ℕ) (seen later : Sight) → going_at doing ≡ Some side →
    pass terms (busy at flow doing) seen ≡ goes_to (busy at flow doing) → later.server ≡ seen.server → later.shut ≡ seen.shut → whole_in later ≡ None →
    pass terms (busy at flow doing) later ≡ goes_to (busy at flow doing)
stays_at_its_byte terms at flow (request_body given most) side seen later up quiet server shut unfinished = absurd (let e : None ≡ Some side = up in cc)
stays_at_its_byte terms at flow (connection how) side seen later up quiet server shut unfinished = absurd (let e : None ≡ Some side = up in cc)
stays_at_its_byte terms at flow (response_head to all_sent) side seen later up quiet server shut unfinished = absurd (let e : None ≡ Some side = up in cc)
stays_at_its_byte terms at flow (response_head to going_up) side seen later up quiet server shut unfinished =
    ap (λ size. passes_by size terms at flow (response_head to going_up) later) unfinished
stays_at_its_byte terms at flow (response_body to all_sent most) side seen later up quiet server shut unfinished = absurd (let e : None ≡ Some side = up in cc)
stays_at_its_byte terms at flow (response_body to going_up most) side seen later up quiet server shut unfinished =
    keeps_both terms at flow to most later (streams_same flow most seen later server shut ∙ body_quiet (whole_in seen) terms at flow to most seen (ap (λ turned. turned.stage) quiet)) unfinished
stays_at_its_byte terms at flow (coming_down to all_sent) side seen later up quiet server shut unfinished = absurd (let e : None ≡ Some side = up in cc)
stays_at_its_byte terms at flow (coming_down to going_up) side seen later up quiet server shut unfinished =
    ap (λ size. passes_by size terms at flow (coming_down to going_up) later) unfinished
    ∙ ap (λ came. pass_came terms.place at flow to going_up later came) (came_same flow seen later server shut ∙ down_quiet (whole_in seen) terms at flow to seen (ap (λ turned. turned.stage) quiet))
stays_at_its_byte terms at flow (upgraded to) side seen later up quiet server shut unfinished = absurd (let e : None ≡ Some side = up in cc)
stays_at_its_byte terms at flow given_head side seen later up quiet server shut unfinished = absurd (let e : None ≡ Some side = up in cc)
stays_at_its_byte terms at flow given_body side seen later up quiet server shut unfinished = absurd (let e : None ≡ Some side = up in cc)

-- So it is where the request is at fault.
pub bad_stays : (terms : Terms) (at : At) (flow : Flow) (doing : Doing) (side : ℕ) (seen later : Sight) (fault : Fault) (head : ReadRequest) (body : Body) → going_at doing ≡ Some side →
    pass terms (busy at flow doing) seen ≡ goes_to (busy at flow doing) → later.server ≡ seen.server → later.shut ≡ seen.shut → request_in later ≡ bad_body fault head body →
    pass terms (busy at flow doing) later ≡ goes_to (busy at flow doing)
bad_stays terms at flow doing side seen later fault head body up quiet server shut bad =
    stays_at_its_byte terms at flow doing side seen later up quiet server shut (not_whole later fault head body bad)

-- ---- nothing else of it ends anything

not_bad : (item : Item ReadRequest) (ends : Fault → List Command) (found : Look Command) → ((fault : Fault) (head : ReadRequest) (body : Body) → item ≡ bad_body fault head body → ⊥) →
    bad_or item ends found ≡ found
not_bad missing ends found good = refl
not_bad (part head body) ends found good = refl
not_bad (complete head body trailers size) ends found good = refl
not_bad (bad_head fault) ends found good = refl
not_bad (bad_body fault head body) ends found good = absurd (good fault head body refl)

pub good_finds : (terms : Terms) (at : At) (flow : Flow) (doing : Doing) (seen : Sight) → ((fault : Fault) (head : ReadRequest) (body : Body) → request_in seen ≡ bad_body fault head body → ⊥) →
    look terms (busy at flow doing) seen ≡ look terms (busy at flow (gone doing)) seen
good_finds terms at flow (request_body given most) seen good = refl
good_finds terms at flow (connection how) seen good = refl
good_finds terms at flow (response_head side all_sent) seen good = refl
good_finds terms at flow (response_head side going_up) seen good =
    ap (λ found. or_leaves seen.closed (leaving (busy at flow (response_head side all_sent)) seen) found)
    (not_bad (request_in seen) (λ fault. ends_by_fault flow fault seen.now (server_in side seen) seen.closed)
    (look_answer flow (answers_in flow.request seen).final seen.now (server_in side seen) seen.closed) good)
good_finds terms at flow (response_body side all_sent most) seen good = refl
good_finds terms at flow (response_body side going_up most) seen good =
    ap (λ found. or_leaves seen.closed (leaving (busy at flow (response_body side all_sent most)) seen) found)
    (not_bad (request_in seen) (λ fault. ends_by_fault flow fault seen.now (server_in side seen) seen.closed)
    (look_returned flow (answers_in flow.request seen).final seen.now (server_in side seen) seen.closed) good)
good_finds terms at flow (coming_down side all_sent) seen good = refl
good_finds terms at flow (coming_down side going_up) seen good =
    ap (λ found. or_leaves seen.closed (leaving (busy at flow (coming_down side all_sent)) seen) found)
    (not_bad (request_in seen) (λ fault. ends_early flow (fault_message fault) seen.now (server_in side seen) seen.closed)
    (look_coming flow (answers_in flow.request seen).final seen.now (server_in side seen) seen.closed) good)
good_finds terms at flow (upgraded side) seen good = refl
good_finds terms at flow given_head seen good = refl
good_finds terms at flow given_body seen good = refl

-- ---- a response that is complete first, and is kept

taken_ends : (place : Place) (at : At) (flow : Flow) (side : ℕ) (keeps : Bool) (taken : Taken Response) (moment : ℕ) (used : Used) (closed : Bool) →
    (turn_taken_whole place at flow side going_up keeps taken moment used closed).stage ≡ over
taken_ends place at flow side keeps (GoesOn response) moment used closed = refl
taken_ends place at flow side keeps (Responds response) moment used closed = refl
taken_ends place at flow side keeps Kills moment used closed = refl

given_ends : (given : Option Response) (takes : Response → Taken Response) (goes : Taken Response → Turn Stage Command) → ((taken : Taken Response) → (goes taken).stage ≡ over) →
    (turn_response given takes goes).stage ≡ over
given_ends None takes goes ends = refl
given_ends (Some response) takes goes ends = ends (takes response)

whole_ends : (place : Place) (at : At) (flow : Flow) (side : ℕ) (keeps : Bool) (answer : Timed Reply) (used : Used) (closed : Bool) →
    (turn_read_whole place at flow side going_up keeps answer used closed).stage ≡ over
whole_ends place at flow side keeps answer used closed =
    given_ends flow.response (λ response. taken_at_response_body response answer.value) (λ taken. turn_taken_whole place at flow side going_up keeps taken answer.moment used closed)
    (λ taken. taken_ends place at flow side keeps taken answer.moment used closed)

item_ends : (place : Place) (at : At) (flow : Flow) (side : ℕ) (item : Item ReadResponse) (seen : Sight) (answer : Timed Reply) → (turn_returned place at flow side going_up item seen answer).stage ≡ over
item_ends place at flow side missing seen answer = refl
item_ends place at flow side (part head body) seen answer = refl
item_ends place at flow side (complete head body trailers size) seen answer =
    whole_ends place at (with_returned flow body.content trailers seen.now) side (keeps_side flow.request seen head) answer (server_in side seen) seen.closed
item_ends place at flow side (bad_head fault) seen answer = refl
item_ends place at flow side (bad_body fault head body) seen answer = refl

-- Whatever its last hook is answered, the conversation ends.
pub kept_ends : (terms : Terms) (at : At) (flow : Flow) (side : ℕ) (most : Option ℕ) (seen : Sight) (answer : Timed Reply) →
    (turn terms (busy at flow (response_body side going_up most)) seen answer).stage ≡ over
kept_ends terms at flow side most seen answer = item_ends terms.place (unspoilt_at at seen) flow side (answers_in flow.request seen).final seen answer

-- Where that goes on, all of it is said, and its flow is finished without an error.
pub kept_says : (terms : Terms) (at : At) (flow : Flow) (side : ℕ) (most : Option ℕ) (seen : Sight) (answer : Timed Reply) (head : ReadResponse) (body : Body)
    (trailers : List (List ℕ × List ℕ)) (size : ℕ) (asked response : Response) → (answers_in flow.request seen).final ≡ complete head body trailers size →
    let whole = with_returned flow body.content trailers seen.now in
    whole.response ≡ Some asked → taken_at_response_body asked answer.value ≡ GoesOn response →
    turn terms (busy at flow (response_body side going_up most)) seen answer
    ≡ record {
      owed = commands.Send Client (returned_text flow.request response) ∷ commands.Done (record whole { response = Some response }) ∷ shut_all (server_in side seen) seen.closed;
      stage = over;
    }
kept_says terms at flow side most seen answer head body trailers size asked response there given goes =
    let whole : Flow = with_returned flow body.content trailers seen.now in
    let there_at : At = unspoilt_at at seen in
    let keeps : Bool = keeps_side flow.request seen head in
    let ends : Taken Response → Turn Stage Command = λ taken. turn_taken_whole terms.place there_at whole side going_up keeps taken answer.moment (server_in side seen) seen.closed in
    ap (λ item. turn_returned terms.place there_at flow side going_up item seen answer) there
    ∙ (ap (λ it. turn_response it (λ message. taken_at_response_body message answer.value) ends) given
    ∙ ap ends goes)

-- ---- and is streamed

-- The rest of it is said, and its flow is finished without an error.
pub streamed_ends : (terms : Terms) (at : At) (flow : Flow) (side : ℕ) (seen : Sight) (came : Came) → whole_in seen ≡ None → came_in flow seen ≡ Some came →
    pass terms (busy at flow (coming_down side going_up)) seen
    ≡ record {
      owed = commands.Send (Server side) (left_of seen.told (going_text terms.place flow seen)) ∷ commands.Send Client (coming_text flow seen)
          ∷ commands.Done (with_end flow seen.now) ∷ shut_all (server_in side seen) seen.closed;
      stage = over;
    }
streamed_ends terms at flow side seen came unfinished there =
    ap (λ size. passes_by size terms at flow (coming_down side going_up) seen) unfinished ∙ ap (λ it. pass_came terms.place at flow side going_up seen it) there

-- so it is where it is found to be streamed in the same sight
pub begun_ends : (terms : Terms) (at : At) (flow : Flow) (side : ℕ) (most : Option ℕ) (seen : Sight) (came : Came) → streams_in flow most seen ≡ true → whole_in seen ≡ None →
    came_in (streaming flow) seen ≡ Some came →
    pass terms (busy at flow (response_body side going_up most)) seen
    ≡ record {
      owed = commands.Send (Server side) (left_of seen.told (going_text terms.place flow seen)) ∷ commands.Send Client (coming_text (streaming flow) seen)
          ∷ commands.Done (with_end (streaming flow) seen.now) ∷ shut_all (server_in side seen) seen.closed;
      stage = over;
    }
begun_ends terms at flow side most seen came streams unfinished there =
    streams_here terms at flow side going_up most seen streams ∙ streamed_ends terms at (streaming flow) side seen came unfinished there

-- ---- no other request follows one that is not whole

came_last : (place : Place) (at other : At) (flow : Flow) (side : ℕ) (seen : Sight) (came : Option Came) → (pass_came place at flow side going_up seen came).stage ≡ next other → ⊥
came_last place at other flow side seen None is = let e : busy at flow (coming_down side going_up) ≡ next other = is in cc
came_last place at other flow side seen (Some came) is = let e : over ≡ next other = is in cc

kept_last : (streams : Bool) (place : Place) (at other : At) (flow : Flow) (side : ℕ) (most : Option ℕ) (seen : Sight) →
    (pass_kept streams place at flow side going_up most seen).stage ≡ next other → ⊥
kept_last true place at other flow side most seen is = came_last place at other (streaming flow) side seen (came_in (streaming flow) seen) is
kept_last false place at other flow side most seen is = let e : busy at flow (response_body side going_up most) ≡ next other = is in cc

-- at a stage whose request goes up and is not whole
last_by : (size : Option ℕ) (terms : Terms) (at other : At) (flow : Flow) (doing : Doing) (side : ℕ) (seen : Sight) → size ≡ None → going_at doing ≡ Some side →
    (passes_by size terms at flow doing seen).stage ≡ next other → ⊥
last_by (Some n) terms at other flow doing side seen unfinished up is = let e : Some n ≡ None = unfinished in cc
last_by None terms at other flow (request_body given most) side seen unfinished up is = let e : None ≡ Some side = up in cc
last_by None terms at other flow (connection how) side seen unfinished up is = let e : None ≡ Some side = up in cc
last_by None terms at other flow (response_head to all_sent) side seen unfinished up is = let e : None ≡ Some side = up in cc
last_by None terms at other flow (response_head to going_up) side seen unfinished up is = let e : busy at flow (response_head to going_up) ≡ next other = is in cc
last_by None terms at other flow (response_body to all_sent most) side seen unfinished up is = let e : None ≡ Some side = up in cc
last_by None terms at other flow (response_body to going_up most) side seen unfinished up is = kept_last (streams_in flow most seen) terms.place at other flow to most seen is
last_by None terms at other flow (coming_down to all_sent) side seen unfinished up is = let e : None ≡ Some side = up in cc
last_by None terms at other flow (coming_down to going_up) side seen unfinished up is = came_last terms.place at other flow to seen (came_in flow seen) is
last_by None terms at other flow (upgraded to) side seen unfinished up is = let e : None ≡ Some side = up in cc
last_by None terms at other flow given_head side seen unfinished up is = let e : None ≡ Some side = up in cc
last_by None terms at other flow given_body side seen unfinished up is = let e : None ≡ Some side = up in cc

-- Where a request goes up, passing is that of its size.
by_size : (terms : Terms) (at : At) (flow : Flow) (doing : Doing) (side : ℕ) (seen : Sight) → going_at doing ≡ Some side →
    pass terms (busy at flow doing) seen ≡ passes_by (whole_in seen) terms at flow doing seen
by_size terms at flow (request_body given most) side seen is = absurd (let e : None ≡ Some side = is in cc)
by_size terms at flow (connection how) side seen is = refl
by_size terms at flow (response_head to how) side seen is = refl
by_size terms at flow (response_body to how most) side seen is = refl
by_size terms at flow (coming_down to how) side seen is = refl
by_size terms at flow (upgraded to) side seen is = refl
by_size terms at flow given_head side seen is = refl
by_size terms at flow given_body side seen is = refl

pub none_follows : (terms : Terms) (at other : At) (flow : Flow) (doing : Doing) (side : ℕ) (seen : Sight) → going_at doing ≡ Some side → whole_in seen ≡ None →
    (pass terms (busy at flow doing) seen).stage ≡ next other → ⊥
none_follows terms at other flow doing side seen up unfinished is =
    last_by (whole_in seen) terms at other flow doing side seen unfinished up (ap (λ turned. turned.stage) (sym (by_size terms at flow doing side seen up)) ∙ is)

-- ---- one that is whole by then is as one that was sent

whole_by_size : (n : ℕ) (terms : Terms) (at : At) (flow : Flow) (doing : Doing) (side : ℕ) (seen : Sight) → going_at doing ≡ Some side →
    (passes_by (Some n) terms at flow doing seen).stage
    ≡ (pass terms (busy at (with_whole flow seen.now) (gone doing)) (record seen { client = left_by (request_in seen) seen.client })).stage
whole_by_size n terms at flow (request_body given most) side seen is = absurd (let e : None ≡ Some side = is in cc)
whole_by_size n terms at flow (connection how) side seen is = absurd (let e : None ≡ Some side = is in cc)
whole_by_size n terms at flow (response_head to all_sent) side seen is = absurd (let e : None ≡ Some side = is in cc)
whole_by_size n terms at flow (response_head to going_up) side seen is = refl
whole_by_size n terms at flow (response_body to all_sent most) side seen is = absurd (let e : None ≡ Some side = is in cc)
whole_by_size n terms at flow (response_body to going_up most) side seen is = refl
whole_by_size n terms at flow (coming_down to all_sent) side seen is = absurd (let e : None ≡ Some side = is in cc)
whole_by_size n terms at flow (coming_down to going_up) side seen is = refl
whole_by_size n terms at flow (upgraded to) side seen is = absurd (let e : None ≡ Some side = is in cc)
whole_by_size n terms at flow given_head side seen is = absurd (let e : None ≡ Some side = is in cc)
whole_by_size n terms at flow given_body side seen is = absurd (let e : None ≡ Some side = is in cc)

pub whole_first : (terms : Terms) (at : At) (flow : Flow) (doing : Doing) (side : ℕ) (seen : Sight) (size : ℕ) → going_at doing ≡ Some side → whole_in seen ≡ Some size →
    (pass terms (busy at flow doing) seen).stage
    ≡ (pass terms (busy at (with_whole flow seen.now) (gone doing)) (record seen { client = left_by (request_in seen) seen.client })).stage
whole_first terms at flow doing side seen size up whole =
    ap (λ turned. turned.stage) (by_size terms at flow doing side seen up)
    ∙ (ap (λ n. (passes_by n terms at flow doing seen).stage) whole ∙ whole_by_size size terms at flow doing side seen up)
