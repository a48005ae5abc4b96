-- The dials that are due in HTTP at one place are numbered by their order.
use Rattle.std.proofs.Common.{◌≡◌, ℕ, ◌+◌, Bool, true, false, List, [], ◌∷◌, length, Option, Some, None, refl, sym, ap, subst, arith}
use Rattle.std.specs.Prelude.{⊤, ◌==◌, ◌&&◌, not, if◌then◌else◌}
use Rattle.px_message.specs.declared.fault.Fault.{Fault}
use Rattle.px_message.specs.declared.flow.Flow.{Flow}
use Rattle.px_message.specs.declared.flow.FlowId.{FlowId}
use Rattle.px_message.specs.declared.request.Request.{Request}
use Rattle.px_message.specs.declared.response.Response.{Response}
use Rattle.px_event.specs.declared.ask.Hook.{Hook}
use Rattle.px_event.specs.declared.command.Command.{Command}
use Rattle.px_event.specs.declared.command.Command.TheVariants as commands
use Rattle.px_event.specs.declared.reply.Reply.{Reply}
use Rattle.px_event.specs.declared.reply.Reply.TheVariants as reply
use Rattle.px_event.specs.Chain.{Timed, Look, NotYet, Asks, Ends, Turn, found}
use Rattle.px_read.specs.Items.{Item, missing, part, complete, bad_head, bad_body}
use Rattle.px_read.specs.declared.head.RequestHead.{RequestHead as ReadRequest}
use Rattle.px_read.specs.declared.head.ResponseHead.{ResponseHead as ReadResponse}
use Rattle.px_exchange.specs.declared.asked.Judged.{Judged}
use Rattle.px_exchange.specs.declared.asked.Judged.TheVariants.{Refused, Accepted, Connects}
use Rattle.px_exchange.specs.declared.ending.Used.{Used}
use Rattle.px_exchange.specs.declared.taken.Taken.{Taken}
use Rattle.px_exchange.specs.declared.taken.Taken.TheVariants.{GoesOn, Responds, Kills}
use Rattle.px_exchange.specs.declared.place.Place.{Place}
use Rattle.px_exchange.specs.declared.terms.Terms.{Terms}
use Rattle.px_chain.specs.Chain.{bad_or, begin_up, behind as behind_ask, behind_flow, come_down, dial_leads, end_by, end_up, finish_by, given_at, goes_on_by, goes_up_by, going_at, gone_by, http_chain, keeps_came, leaving, look, look_coming, look_up, parked_for, pass, pass_body, pass_came, pass_given, pass_going, pass_kept, sequence, sight_begun, sight_gone, so_far, turn, turn_answer, turn_body, turn_head, turn_judged, turn_response, turn_returned, turn_taken_answer, turn_taken_body, turn_taken_given, turn_taken_head, turn_taken_returned, turn_taken_whole}
use Rattle.px_exchange.specs.Finds.{or_leaves, look_judged, look_head, look_body, look_answer_head, look_answer, look_returned, is_relayed}
use Rattle.px_exchange.specs.Endings.{connection_goes_on}
use Rattle.px_exchange.specs.Flows.{ask_of, response_of, with_answer, with_body, with_returned}
use Rattle.px_chain.proofs.Quiet.{AllQuiet, LooksQuiet, any_flow}
use Rattle.px_chain.specs.Sights.{Sight, Standing, answers_in, request_in, server_in, server_parked, sight_over}
use Rattle.px_chain.specs.Going.{goes_up, is_sent, sending_on, whole_in}
use Rattle.px_chain.specs.Keeping.{keeps_side, parks, unspoilt_at}
use Rattle.px_chain.specs.Coming.{Came, allowed_by, came_in, goes_on_behind, streaming, streams_in}
use Rattle.px_chain.specs.Stages.{At, Doing, Sent, Stage, all_sent, busy, coming_down, connection, given_body, given_head, going_up, idle, next, over, request_body, response_body, response_head, upgraded}
use Rattle.px_chain.proofs.QuietLemmas.{behind_quiet, finds_quiet_end, pass_quiet, so_far_quiet, turn_quiet}
use Rattle.px_resend.specs.Dialled.{dials_in}
use Rattle.px_resend.proofs.OwedLemmas.{is_any}
use Rattle.px_app.specs.Servers.{CountsFrom}
use Rattle.px_app.proofs.ServerLemmas.{CountsDials}

-- so many servers were dialled before the stage, or nothing is dialled any more
abbrev pub Dialled : ℕ → Stage → Type 0
Dialled n (idle at) = at.dials ≡ n
Dialled n (busy at flow doing) = at.dials ≡ n
Dialled n (next at) = at.dials ≡ n
Dialled n over = ⊤

-- what is quiet dials nothing
quiet_dials : (names : FlowId → Type 0) (list : List Command) → AllQuiet names list → dials_in list ≡ []
quiet_dials names [] all = refl
quiet_dials names (commands.Send side text ∷ list) (here, all) = quiet_dials names list all
quiet_dials names (commands.Close side ∷ list) (here, all) = quiet_dials names list all
quiet_dials names (commands.Dial server address inside ∷ list) (here, all) = absurd here
quiet_dials names (commands.Ask ask flow ∷ list) (here, all) = absurd here
quiet_dials names (commands.Done flow ∷ list) (here, all) = quiet_dials names list all

-- ---- no stage dials but the one that does

-- what is found is no dial
abbrev DialsNot : Look Command → Type 0
DialsNot NotYet = ⊤
DialsNot (Asks ask) = dials_in (ask ∷ []) ≡ []
DialsNot (Ends owed) = ⊤

leaves_not : (closed : Bool) (leaving : List Command) (l : Look Command) → DialsNot l → DialsNot (or_leaves closed leaving l)
leaves_not true leaving NotYet not = tt
leaves_not false leaving NotYet not = tt
leaves_not closed leaving (Asks ask) not = not
leaves_not closed leaving (Ends owed) not = tt

judged_not : (terms : Terms) (index : ℕ) (head : ReadRequest) (j : Judged) (moment : ℕ) (used : Used) (closed : Bool) → DialsNot (look_judged terms index head j moment used closed)
judged_not terms index head (Refused fault) moment used closed = tt
judged_not terms index head (Accepted request) moment used closed = refl
judged_not terms index head (Connects address) moment used closed = tt

head_not : (terms : Terms) (index : ℕ) (item : Item ReadRequest) (moment : ℕ) (used : Used) (closed : Bool) → DialsNot (look_head terms index item moment used closed)
head_not terms index missing moment used closed = tt
head_not terms index (part head body) moment used closed = judged_not terms index head _ moment used closed
head_not terms index (complete head body trailers size) moment used closed = judged_not terms index head _ moment used closed
head_not terms index (bad_head fault) moment used closed = tt
head_not terms index (bad_body fault head body) moment used closed = judged_not terms index head _ moment used closed

body_not : (flow : Flow) (item : Item ReadRequest) (moment : ℕ) (used : Used) (closed : Bool) → DialsNot (look_body flow item moment used closed)
body_not flow missing moment used closed = tt
body_not flow (part head body) moment used closed = tt
body_not flow (complete head body trailers size) moment used closed = refl
body_not flow (bad_head fault) moment used closed = tt
body_not flow (bad_body fault head body) moment used closed = tt

relayed_not : (fails : Bool) (owed : List Command) (flow : Flow) (hook : Hook) → DialsNot (if fails then Ends owed else Asks (ask_of flow hook))
relayed_not true owed flow hook = tt
relayed_not false owed flow hook = refl

answer_head_not : (flow : Flow) (head : ReadResponse) (moment : ℕ) (used : Used) (closed : Bool) → DialsNot (look_answer_head flow head moment used closed)
answer_head_not flow head moment used closed = relayed_not (not (is_relayed head.code)) _ _ _

answer_not : (flow : Flow) (item : Item ReadResponse) (moment : ℕ) (used : Used) (closed : Bool) → DialsNot (look_answer flow item moment used closed)
answer_not flow missing moment used closed = tt
answer_not flow (part head body) moment used closed = answer_head_not flow head moment used closed
answer_not flow (complete head body trailers size) moment used closed = answer_head_not flow head moment used closed
answer_not flow (bad_head fault) moment used closed = tt
answer_not flow (bad_body fault head body) moment used closed = answer_head_not flow head moment used closed

returned_not : (flow : Flow) (item : Item ReadResponse) (moment : ℕ) (used : Used) (closed : Bool) → DialsNot (look_returned flow item moment used closed)
returned_not flow missing moment used closed = tt
returned_not flow (part head body) moment used closed = tt
returned_not flow (complete head body trailers size) moment used closed = refl
returned_not flow (bad_head fault) moment used closed = tt
returned_not flow (bad_body fault head body) moment used closed = tt

coming_not : (flow : Flow) (item : Item ReadResponse) (moment : ℕ) (used : Used) (closed : Bool) → DialsNot (look_coming flow item moment used closed)
coming_not flow missing moment used closed = tt
coming_not flow (part head body) moment used closed = tt
coming_not flow (complete head body trailers size) moment used closed = tt
coming_not flow (bad_head fault) moment used closed = tt
coming_not flow (bad_body fault head body) moment used closed = tt

-- nor where a request that goes up is found bad first
bad_not : (item : Item ReadRequest) (ends : Fault → List Command) (found : Look Command) → DialsNot found → DialsNot (bad_or item ends found)
bad_not missing ends found not = not
bad_not (part head body) ends found not = not
bad_not (complete head body trailers size) ends found not = not
bad_not (bad_head fault) ends found not = not
bad_not (bad_body fault head body) ends found not = tt

up_not : (how : Sent) (seen : Sight) (ends : Fault → List Command) (found : Look Command) → DialsNot found → DialsNot (look_up how seen ends found)
up_not all_sent seen ends found not = not
up_not going_up seen ends found not = bad_not (request_in seen) ends found not

-- what is found over a stage that is not the dialling one
abbrev FindsNot : Terms → Stage → Sight → Type 0
FindsNot terms stage seen = DialsNot (look terms stage seen)

counts_found : (n : ℕ) (l : Look Command) → DialsNot l → LooksQuiet any_flow l → CountsFrom n (dials_in (found l))
counts_found n NotYet not quiet = tt
counts_found n (Asks ask) not quiet = let P : List ℕ → Type 0 = CountsFrom n in subst P (sym not) tt
counts_found n (Ends owed) not quiet = let P : List ℕ → Type 0 = CountsFrom n in subst P (sym (quiet_dials any_flow owed quiet)) tt

looks : (terms : Terms) (n : ℕ) (stage : Stage) (seen : Sight) → Dialled n stage → CountsFrom n (dials_in (found (look terms stage seen)))
looks terms n (idle at) seen is = counts_found n _ (leaves_not _ _ _ (head_not terms at.flow (request_in seen) seen.now (server_parked (unspoilt_at at seen).parked seen) seen.closed)) (finds_quiet_end terms (idle at) seen)
looks terms n (busy at flow (request_body given most)) seen is = counts_found n _ (leaves_not _ _ _ (body_not flow _ _ _ _)) (finds_quiet_end terms (busy at flow (request_body given most)) seen)
looks terms n (busy at flow (connection how)) seen is = (is, tt)
looks terms n (busy at flow (response_head side how)) seen is = counts_found n _ (leaves_not _ _ _ (up_not how seen _ _ (answer_not flow (answers_in flow.request seen).final seen.now (server_in side seen) seen.closed))) (finds_quiet_end terms (busy at flow (response_head side how)) seen)
looks terms n (busy at flow (response_body side how most)) seen is = counts_found n _ (leaves_not _ _ _ (up_not how seen _ _ (returned_not flow (answers_in flow.request seen).final seen.now (server_in side seen) seen.closed))) (finds_quiet_end terms (busy at flow (response_body side how most)) seen)
looks terms n (busy at flow (coming_down side how)) seen is = counts_found n _ (leaves_not _ _ _ (up_not how seen _ _ (coming_not flow (answers_in flow.request seen).final seen.now (server_in side seen) seen.closed))) (finds_quiet_end terms (busy at flow (coming_down side how)) seen)
looks terms n (busy at flow (upgraded side)) seen is = tt
looks terms n (busy at flow given_head) seen is = tt
looks terms n (busy at flow given_body) seen is = tt
looks terms n (next at) seen is = tt
looks terms n over seen is = tt

-- ---- where a stage leads

head_leads : (n : ℕ) (at : At) (flow : Flow) (expected : Bool) (most : Option ℕ) (taken : Taken Request) (moment : ℕ) (seen : Sight) → at.dials ≡ n →
    Dialled n (turn_taken_head at flow expected most taken moment seen).stage
head_leads n at flow expected most (GoesOn request) moment seen is = is
head_leads n at flow expected most (Responds response) moment seen is = is
head_leads n at flow expected most Kills moment seen is = tt

judged_leads : (n : ℕ) (terms : Terms) (at : At) (head : ReadRequest) (j : Judged) (seen : Sight) (answer : Timed Reply) → at.dials ≡ n →
    Dialled n (turn_judged terms at head j seen answer).stage
judged_leads n terms at head (Refused fault) seen answer is = tt
judged_leads n terms at head (Connects address) seen answer is = tt
judged_leads n terms at head (Accepted request) seen answer is = head_leads n at _ _ _ _ answer.moment seen is

item_leads : (n : ℕ) (terms : Terms) (at : At) (item : Item ReadRequest) (seen : Sight) (answer : Timed Reply) → at.dials ≡ n →
    Dialled n (turn_head terms at item seen answer).stage
item_leads n terms at missing seen answer is = tt
item_leads n terms at (part head body) seen answer is = judged_leads n terms at head _ seen answer is
item_leads n terms at (complete head body trailers used) seen answer is = judged_leads n terms at head _ seen answer is
item_leads n terms at (bad_head fault) seen answer is = tt
item_leads n terms at (bad_body fault head body) seen answer is = judged_leads n terms at head _ seen answer is

-- the parked side was dialled before
goes_leads : (n : ℕ) (side : Option ℕ) (place : Place) (at : At) (flow : Flow) → at.dials ≡ n → Dialled n (goes_on_by side place at flow).stage
goes_leads n None place at flow is = is
goes_leads n (Some side) place at flow is = is

taken_body_leads : (n : ℕ) (place : Place) (at : At) (flow : Flow) (taken : Taken Request) (moment : ℕ) (seen : Sight) → at.dials ≡ n →
    Dialled n (turn_taken_body place at flow taken moment seen).stage
taken_body_leads n place at flow (GoesOn request) moment seen is = goes_leads n (parked_for place request at.parked) place at _ is
taken_body_leads n place at flow (Responds response) moment seen is = is
taken_body_leads n place at flow Kills moment seen is = tt

body_leads : (n : ℕ) (place : Place) (at : At) (flow : Flow) (item : Item ReadRequest) (seen : Sight) (answer : Timed Reply) → at.dials ≡ n →
    Dialled n (turn_body place at flow item seen answer).stage
body_leads n place at flow missing seen answer is = tt
body_leads n place at flow (part head body) seen answer is = tt
body_leads n place at flow (complete head body trailers used) seen answer is =
    taken_body_leads n place at (with_body flow body.content trailers seen.now) _ answer.moment seen is
body_leads n place at flow (bad_head fault) seen answer is = tt
body_leads n place at flow (bad_body fault head body) seen answer is = tt

dial_on : (n : ℕ) (place : Place) (at : At) (flow : Flow) (how : Sent) (answer : Reply) → at.dials ≡ n → Dialled (n + 1) (dial_leads place at flow how answer)
dial_on n place at flow how (reply.Go given stream) is = tt
dial_on n place at flow how (reply.Respond response) is = tt
dial_on n place at flow how reply.Kill is = tt
dial_on n place at flow how reply.Discard is = tt
dial_on n place at flow how reply.Dialled is = ap (λ (k : ℕ). k + 1) is
dial_on n place at flow how (reply.Refused fault) is = tt

taken_answer_leads : (n : ℕ) (at : At) (flow : Flow) (side : ℕ) (how : Sent) (most : Option ℕ) (taken : Taken Response) (moment : ℕ) (used : Used) (closed : Bool) → at.dials ≡ n →
    Dialled n (turn_taken_answer at flow side how most taken moment used closed).stage
taken_answer_leads n at flow side how most (GoesOn response) moment used closed is = is
taken_answer_leads n at flow side how most (Responds response) moment used closed is = tt
taken_answer_leads n at flow side how most Kills moment used closed is = tt

answer_leads : (terms : Terms) (n : ℕ) (at : At) (flow : Flow) (side : ℕ) (how : Sent) (item : Item ReadResponse) (seen : Sight) (answer : Timed Reply) → at.dials ≡ n →
    Dialled n (turn_answer terms at flow side how item seen answer).stage
answer_leads terms n at flow side how missing seen answer is = tt
answer_leads terms n at flow side how (part head body) seen answer is =
    taken_answer_leads n at (with_answer flow (response_of head) seen.now) side how (allowed_by terms.streams answer.value) _ answer.moment _ _ is
answer_leads terms n at flow side how (complete head body trailers size) seen answer is =
    taken_answer_leads n at (with_answer flow (response_of head) seen.now) side how (allowed_by terms.streams answer.value) _ answer.moment _ _ is
answer_leads terms n at flow side how (bad_head fault) seen answer is = tt
answer_leads terms n at flow side how (bad_body fault head body) seen answer is =
    taken_answer_leads n at (with_answer flow (response_of head) seen.now) side how (allowed_by terms.streams answer.value) _ answer.moment _ _ is

behind : (n : ℕ) (stays : Bool) (at : At) → at.dials ≡ n → Dialled n (behind_flow stays at)
behind n true at is = is
behind n false at is = tt

taken_returned_leads : (n : ℕ) (at : At) (flow : Flow) (taken : Taken Response) (moment : ℕ) (parked : Used) (closed : Bool) → at.dials ≡ n →
    Dialled n (turn_taken_returned at flow taken moment parked closed).stage
taken_returned_leads n at flow (GoesOn response) moment parked closed is = behind n _ at is
taken_returned_leads n at flow (Responds response) moment parked closed is = tt
taken_returned_leads n at flow Kills moment parked closed is = tt

response_leads : (n : ℕ) (response : Option Response) (takes : Response → Taken Response) (goes : Taken Response → Turn Stage Command) →
    ((taken : Taken Response) → Dialled n (goes taken).stage) → Dialled n (turn_response response takes goes).stage
response_leads n None takes goes leads = tt
response_leads n (Some response) takes goes leads = leads (takes response)

-- a side that is kept was dialled before
parked_leads : (n : ℕ) (kept : Bool) (place : Place) (at : At) (request : Request) (side : ℕ) → at.dials ≡ n → (parks kept place at request side).dials ≡ n
parked_leads n true place at request side is = is
parked_leads n false place at request side is = is

-- behind a response of code 101 HTTP has ended
finish_leads : (n : ℕ) (switches : Bool) (place : Place) (at : At) (flow : Flow) (how : Sent) (response : Response) (keeps : Bool) (side : ℕ) (used : Used) (closed : Bool) → at.dials ≡ n →
    Dialled n (finish_by switches place at flow how response keeps side used closed).stage
finish_leads n true place at flow how response keeps side used closed is = is
finish_leads n false place at flow how response keeps side used closed is =
    let on : Bool = is_sent how && connection_goes_on at.flow flow.request response in
    behind n on (parks (on && keeps) place at flow.request side) (parked_leads n (on && keeps) place at flow.request side is)

taken_whole_leads : (n : ℕ) (place : Place) (at : At) (flow : Flow) (side : ℕ) (how : Sent) (keeps : Bool) (taken : Taken Response) (moment : ℕ) (used : Used) (closed : Bool) → at.dials ≡ n →
    Dialled n (turn_taken_whole place at flow side how keeps taken moment used closed).stage
taken_whole_leads n place at flow side how keeps (GoesOn response) moment used closed is =
    finish_leads n (is_sent how && response.status == 101) place at flow how response keeps side used closed is
taken_whole_leads n place at flow side how keeps (Responds response) moment used closed is = tt
taken_whole_leads n place at flow side how keeps Kills moment used closed is = tt

returned_leads : (n : ℕ) (place : Place) (at : At) (flow : Flow) (side : ℕ) (how : Sent) (item : Item ReadResponse) (seen : Sight) (answer : Timed Reply) → at.dials ≡ n →
    Dialled n (turn_returned place at flow side how item seen answer).stage
returned_leads n place at flow side how missing seen answer is = tt
returned_leads n place at flow side how (part head body) seen answer is = tt
returned_leads n place at flow side how (complete head body trailers size) seen answer is =
    response_leads n (with_returned flow body.content trailers seen.now).response _ _
    (λ taken. taken_whole_leads n place at (with_returned flow body.content trailers seen.now) side how (keeps_side flow.request seen head) taken answer.moment _ _ is)
returned_leads n place at flow side how (bad_head fault) seen answer is = tt
returned_leads n place at flow side how (bad_body fault head body) seen answer is = tt

taken_given_leads : (n : ℕ) (at : At) (flow : Flow) (taken : Taken Response) (moment : ℕ) (parked : Used) (closed : Bool) → at.dials ≡ n →
    Dialled n (turn_taken_given at flow taken moment parked closed).stage
taken_given_leads n at flow (GoesOn response) moment parked closed is = is
taken_given_leads n at flow (Responds response) moment parked closed is = tt
taken_given_leads n at flow Kills moment parked closed is = tt

-- the next flow knows as much
onward : (n : ℕ) (stage : Stage) → Dialled n stage → Dialled n (sequence stage)
onward n (idle at) is = is
onward n (busy at flow doing) is = is
onward n (next at) is = is
onward n over is = is

-- a request that goes up goes to a parked side, or its server is dialled
goes_up_leads : (n : ℕ) (side : Option ℕ) (place : Place) (at : At) (flow : Flow) → at.dials ≡ n → Dialled n (goes_up_by side place at flow)
goes_up_leads n None place at flow is = is
goes_up_leads n (Some side) place at flow is = is

passed_going : (n : ℕ) (goes : Bool) (place : Place) (at : At) (flow : Flow) (most : Option ℕ) (seen : Sight) → at.dials ≡ n → Dialled n (pass_going goes place at flow most seen)
passed_going n true place at flow most seen is = goes_up_leads n (parked_for place flow.request (unspoilt_at at seen).parked) place at (sending_on flow) is
passed_going n false place at flow most seen is = is

passed_given : (n : ℕ) (at : At) (flow : Flow) (response : Response) (most : Option ℕ) (item : Item ReadRequest) (now : ℕ) → at.dials ≡ n → Dialled n (pass_given at flow response most item now)
passed_given n at flow response most missing now is = is
passed_given n at flow response most (part head body) now is = is
passed_given n at flow response most (complete head body trailers used) now is = is
passed_given n at flow response most (bad_head fault) now is = is
passed_given n at flow response most (bad_body fault head body) now is = is

passed_body : (n : ℕ) (place : Place) (at : At) (flow : Flow) (given : Option Response) (most : Option ℕ) (seen : Sight) → at.dials ≡ n → Dialled n (pass_body place at flow given most seen)
passed_body n place at flow None most seen is = passed_going n (goes_up most seen) place at flow most seen is
passed_body n place at flow (Some response) most seen is = passed_given n at flow response most (request_in seen) seen.now is

begun : (n : ℕ) (terms : Terms) (stage : Stage) (seen : Sight) → Dialled n stage → Dialled n (begin_up terms stage seen)
begun n terms (idle at) seen is = is
begun n terms (busy at flow (request_body given most)) seen is = passed_body n terms.place at flow given most seen is
begun n terms (busy at flow (connection how)) seen is = is
begun n terms (busy at flow (response_head side how)) seen is = is
begun n terms (busy at flow (response_body side how most)) seen is = is
begun n terms (busy at flow (coming_down side how)) seen is = is
begun n terms (busy at flow (upgraded side)) seen is = is
begun n terms (busy at flow given_head) seen is = is
begun n terms (busy at flow given_body) seen is = is
begun n terms (next at) seen is = is
begun n terms over seen is = is

-- one that is whole
ended_by : (n : ℕ) (going : Option ℕ) (place : Place) (at : At) (flow : Flow) (doing : Doing) (seen : Sight) → at.dials ≡ n → Dialled n (end_by going place at flow doing seen).stage
ended_by n None place at flow doing seen is = is
ended_by n (Some side) place at flow doing seen is = is

ended : (n : ℕ) (terms : Terms) (stage : Stage) (seen : Sight) → Dialled n stage → Dialled n (end_up terms stage seen).stage
ended n terms (idle at) seen is = is
ended n terms (busy at flow doing) seen is = ended_by n (gone_by (going_at doing) (whole_in seen)) terms.place at flow doing seen is
ended n terms (next at) seen is = is
ended n terms over seen is = is

-- a streamed response that is whole
passed_came : (n : ℕ) (place : Place) (at : At) (flow : Flow) (side : ℕ) (how : Sent) (seen : Sight) (came : Option Came) → at.dials ≡ n →
    Dialled n (pass_came place at flow side how seen came).stage
passed_came n place at flow side how seen None is = is
passed_came n place at flow side how seen (Some came) is =
    let kept : Bool = keeps_came at flow how seen came in
    behind n (is_sent how && goes_on_behind at.flow flow.request came) (parks kept place at flow.request side) (parked_leads n kept place at flow.request side is)

passed_kept : (n : ℕ) (streams : Bool) (place : Place) (at : At) (flow : Flow) (side : ℕ) (how : Sent) (most : Option ℕ) (seen : Sight) → at.dials ≡ n →
    Dialled n (pass_kept streams place at flow side how most seen).stage
passed_kept n true place at flow side how most seen is = passed_came n place at (streaming flow) side how seen (came_in (streaming flow) seen) is
passed_kept n false place at flow side how most seen is = is

came : (n : ℕ) (terms : Terms) (stage : Stage) (seen : Sight) → Dialled n stage → Dialled n (come_down terms stage seen).stage
came n terms (idle at) seen is = is
came n terms (busy at flow (request_body given most)) seen is = is
came n terms (busy at flow (connection how)) seen is = is
came n terms (busy at flow (response_head side how)) seen is = is
came n terms (busy at flow (response_body side how most)) seen is = passed_kept n (streams_in flow most seen) terms.place at flow side how most seen is
came n terms (busy at flow (coming_down side how)) seen is = passed_came n terms.place at flow side how seen (came_in flow seen) is
came n terms (busy at flow (upgraded side)) seen is = is
came n terms (busy at flow given_head) seen is = is
came n terms (busy at flow given_body) seen is = is
came n terms (next at) seen is = is
came n terms over seen is = is

passed : (terms : Terms) (n : ℕ) (stage : Stage) (seen : Sight) → Dialled n stage → Dialled n (pass terms stage seen).stage
passed terms n stage seen is =
    let seen_then : Sight = sight_begun stage seen in
    came n terms (end_up terms (begin_up terms stage seen) seen_then).stage (sight_gone terms stage seen)
    (ended n terms (begin_up terms stage seen) seen_then (begun n terms stage seen is))

-- a hook that was asked dials nothing
asked_not : (l : Look Command) (ask : Command) → l ≡ Asks ask → DialsNot l → dials_in (ask ∷ []) ≡ []
asked_not l ask is not = let P : Look Command → Type 0 = DialsNot in subst P is not

stays : (n : ℕ) (stage : Stage) (ask : Command) → dials_in (ask ∷ []) ≡ [] → Dialled n stage → Dialled (n + length (dials_in (ask ∷ []))) stage
stays n stage ask none is = let P : List ℕ → Type 0 = λ l. Dialled (n + length l) stage in let Q : ℕ → Type 0 = λ k. Dialled k stage in let same : n + 0 ≡ n = omega arith in subst P (sym none) (subst Q (sym same) is)

dial_asked : (at : At) (flow : Flow) (how : Sent) (seen : Sight) (terms : Terms) (ask : Command) → look terms (busy at flow (connection how)) seen ≡ Asks ask → length (dials_in (ask ∷ [])) ≡ 1
dial_asked at flow how seen terms ask is = let P : Look Command → Type 0 = λ l. length (dials_in (found l)) ≡ 1 in subst P is refl

turns : (terms : Terms) (n : ℕ) (stage : Stage) (seen : Sight) (ask : Command) (answer : Timed Reply) → Dialled n stage → look terms stage seen ≡ Asks ask →
    Dialled (n + length (dials_in (ask ∷ []))) (turn terms stage seen answer).stage
turns terms n (idle at) seen ask answer is asks = stays n _ ask (asked_not _ ask asks (leaves_not _ _ _ (head_not terms at.flow (request_in seen) seen.now (server_parked (unspoilt_at at seen).parked seen) seen.closed))) (item_leads n terms (unspoilt_at at seen) (request_in seen) seen answer is)
turns terms n (busy at flow (request_body given most)) seen ask answer is asks = stays n _ ask (asked_not _ ask asks (leaves_not _ _ _ (body_not flow _ _ _ _))) (body_leads n terms.place (unspoilt_at at seen) flow (request_in seen) seen answer is)
turns terms n (busy at flow (connection how)) seen ask answer is asks =
    let P : ℕ → Type 0 = λ k. Dialled (n + k) (dial_leads terms.place (unspoilt_at at seen) flow how answer.value) in
    subst P (sym (dial_asked at flow how seen terms ask asks)) (dial_on n terms.place (unspoilt_at at seen) flow how answer.value is)
turns terms n (busy at flow (response_head side how)) seen ask answer is asks = stays n _ ask (asked_not _ ask asks (leaves_not _ _ _ (up_not how seen _ _ (answer_not flow (answers_in flow.request seen).final seen.now (server_in side seen) seen.closed)))) (answer_leads terms n (unspoilt_at at seen) flow side how (answers_in flow.request seen).final seen answer is)
turns terms n (busy at flow (coming_down side how)) seen ask answer is asks = tt
turns terms n (busy at flow (response_body side how most)) seen ask answer is asks = stays n _ ask (asked_not _ ask asks (leaves_not _ _ _ (up_not how seen _ _ (returned_not flow (answers_in flow.request seen).final seen.now (server_in side seen) seen.closed)))) (returned_leads n terms.place (unspoilt_at at seen) flow side how (answers_in flow.request seen).final seen answer is)
turns terms n (busy at flow (upgraded side)) seen ask answer is asks = tt
turns terms n (busy at flow given_head) seen ask answer is asks =
    stays n _ ask (asked_not (look terms (busy at flow given_head) seen) ask asks refl) (response_leads n flow.response _ _
    (λ taken. taken_given_leads n (unspoilt_at at seen) (given_at flow seen.now) taken answer.moment _ _ is))
turns terms n (busy at flow given_body) seen ask answer is asks =
    stays n _ ask (asked_not (look terms (busy at flow given_body) seen) ask asks refl) (response_leads n flow.response _ _
    (λ taken. taken_returned_leads n (unspoilt_at at seen) flow taken answer.moment _ _ is))
turns terms n (next at) seen ask answer is asks = absurd (let wrong : Ends [] ≡ Asks ask = asks in cc)
turns terms n over seen ask answer is asks = tt

-- the same of standings
abbrev pub DialledAt : ℕ → Standing → Type 0
DialledAt n place = Dialled n place.stage

pub counts : (terms : Terms) → CountsDials (http_chain sequence terms) DialledAt
counts terms = record {
  pass = λ n place prefix is.
      let seen : Sight = sight_over place prefix in (
        quiet_dials any_flow (pass terms place.stage seen).owed (pass_quiet terms any_flow place.stage seen (is_any terms place.stage)),
        onward n (pass terms place.stage seen).stage (passed terms n place.stage seen is),
      );
  so_far = λ place prefix. quiet_dials any_flow (so_far terms place.stage (sight_over place prefix)) (so_far_quiet any_flow terms place.stage (sight_over place prefix));
  behind = λ place prefix. quiet_dials any_flow (behind_ask place.stage (sight_over place prefix)) (behind_quiet any_flow place.stage (sight_over place prefix));
  look = λ n place prefix is. looks terms n place.stage (sight_over place prefix) is;
  turn = λ n place prefix ask answer is asks.
      let seen : Sight = sight_over place prefix in (
        quiet_dials any_flow (turn terms place.stage seen answer).owed (turn_quiet terms place.stage seen answer),
        onward _ (turn terms place.stage seen answer).stage (turns terms n place.stage seen ask answer is asks),
      );
}
