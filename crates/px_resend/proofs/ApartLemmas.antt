-- While a flow goes on no side is parked, and all of its request was sent on; behind its end nothing was heard of a side that is kept. So nothing is owed of one.
use Rattle.std.proofs.Common.{◌≡◌, ℕ, Bool, true, false, List, [], Option, Some, None, refl, ap, sym, subst}
use Rattle.std.specs.Prelude.{⊤, ◌==◌, ◌&&◌}
use Rattle.px_message.specs.declared.flow.Flow.{Flow}
use Rattle.px_message.specs.declared.request.Request.{Request}
use Rattle.px_message.specs.declared.response.Response.{Response}
use Rattle.px_event.specs.declared.command.Command.{Command}
use Rattle.px_event.specs.declared.event.Event.{Event}
use Rattle.px_event.specs.declared.reply.Reply.{Reply}
use Rattle.px_event.specs.declared.reply.Reply.TheVariants as reply
use Rattle.px_event.specs.Chain.{Timed, Turn}
use Rattle.px_read.specs.Items.{Item, bad_body, bad_head, complete, missing, part}
use Rattle.px_read.specs.declared.head.ResponseHead.{ResponseHead as ReadResponse}
use Rattle.px_exchange.specs.declared.ending.Used.{Used}
use Rattle.px_exchange.specs.declared.place.Place.{Place}
use Rattle.px_exchange.specs.declared.taken.Taken.{Taken}
use Rattle.px_exchange.specs.declared.taken.Taken.TheVariants.{GoesOn, Responds, Kills}
use Rattle.px_exchange.specs.declared.terms.Terms.{Terms}
use Rattle.px_exchange.specs.Endings.{connection_goes_on, shut_server}
use Rattle.px_exchange.specs.Flows.{response_of, with_answer, with_returned}
use Rattle.px_exchange.specs.Replies.{taken_at_response_body, taken_at_response_head}
use Rattle.px_chain.specs.Chain.{behind, behind_flow, finish_by, given_at, is_sequence, keeps_came, pass, pass_came, pass_kept, passed, past_came, past_kept, sequence, sight_past, stands, turn, turn_answer, turn_answer_head, turn_dial, turn_response, turn_returned, turn_taken_answer, turn_taken_given, turn_taken_returned, turn_taken_whole}
use Rattle.px_chain.specs.Behind.{dials_at, server_behind}
use Rattle.px_chain.specs.Keeping.{is_silent, keeps_side, parks, shut_stray, strays, unspoilt_at, unspoilt_by}
use Rattle.px_chain.specs.Coming.{Came, allowed_by, came_in, goes_on_behind, streaming, streams_in}
use Rattle.px_chain.specs.Sights.{Sight, Standing, answers_in, server_in, server_left, server_parked, sight_over}
use Rattle.px_chain.specs.Stages.{At, Doing, Parked, Stage, all_sent, busy, coming_down, connection, given_body, given_head, going_up, idle, next, over, request_body, response_body, response_head, side_of, upgraded}
use Rattle.px_chain.proofs.KeepingLaws.{kept_nothing, nothing_strays}
use Rattle.px_chain.proofs.SightLaws.{sight_passed, sight_turned}
use Rattle.px_stream.specs.Anywhere.{doing_by}
use Rattle.px_stream.specs.Stands.{sent_doing}
use Rattle.px_resend.specs.Chain.{first_at}
use Rattle.px_resend.specs.Stands.{IsPastRequest, IsUnparked, NoneParked}
use Rattle.px_resend.proofs.OwedLemmas.{IsBusy}
use Rattle.px_resend.proofs.BehindDial.{by_dial, passed_by, past, turned_by}

-- ---- no side is parked while a flow goes on, and a request that is whole stays so

-- of a side that is kept these bytes are left: none
abbrev IsKeptSilent : Option Parked → List ℕ → Type 0
IsKeptSilent None left = ⊤
IsKeptSilent (Some parked) left = left ≡ []

-- so it is at this stage, where these bytes of the open side are left
abbrev pub IsApart : Stage → List ℕ → Type 0
IsApart (idle at) left = IsKeptSilent at.parked left
IsApart (busy at flow doing) left = (at.parked ≡ None) × (sent_doing doing ≡ all_sent)
IsApart (next at) left = IsKeptSilent at.parked left
IsApart over left = ⊤

silent_left : (parked : Option Parked) → IsKeptSilent parked []
silent_left None = tt
silent_left (Some parked) = refl

none_silent : (parked : Option Parked) (left : List ℕ) → parked ≡ None → IsKeptSilent parked left
none_silent None left is = tt
none_silent (Some parked) left is = absurd (let no : Some parked ≡ None = is in cc)

-- a side that was not parked stays so
unspoilt_none : (silent : Bool) (parked : Option Parked) → parked ≡ None → unspoilt_by silent parked ≡ None
unspoilt_none true parked is = is
unspoilt_none false parked is = refl

-- the end of a flow, whose side is kept only where nothing is left of that
behind_apart : (stays : Bool) (at : At) (left : List ℕ) → IsKeptSilent at.parked left → IsApart (sequence (behind_flow stays at)) left
behind_apart true at left is = is
behind_apart false at left is = tt

parks_silent : (keeps : Bool) (place : Place) (at : At) (request : Request) (server : ℕ) (left : List ℕ) → (keeps ≡ true → left ≡ []) → IsKeptSilent (parks keeps place at request server).parked left
parks_silent true place at request server left none = none refl
parks_silent false place at request server left none = tt

both_second : (a b : Bool) → (a && b) ≡ true → b ≡ true
both_second true b is = is
both_second false b is = absurd (let no : false ≡ true = is in cc)

-- ---- where it passes

came_apart : (place : Place) (at : At) (flow : Flow) (server : ℕ) (seen : Sight) (came : Option Came) → at.parked ≡ None →
    IsApart (sequence (pass_came place at flow server all_sent seen came).stage) (past_came came seen).server
came_apart place at flow server seen None none = (none, refl)
came_apart place at flow server seen (Some came) none =
    behind_apart (goes_on_behind at.flow flow.request came) (parks (keeps_came at flow all_sent seen came) place at flow.request server) []
    (silent_left (parks (keeps_came at flow all_sent seen came) place at flow.request server).parked)

kept_apart : (streams : Bool) (place : Place) (at : At) (flow : Flow) (server : ℕ) (most : Option ℕ) (seen : Sight) → at.parked ≡ None →
    IsApart (sequence (pass_kept streams place at flow server all_sent most seen).stage) (past_kept streams (came_in (streaming flow) seen) seen).server
kept_apart true place at flow server most seen none = came_apart place at (streaming flow) server seen (came_in (streaming flow) seen) none
kept_apart false place at flow server most seen none = (none, refl)

up_never : {A : Type 0} → going_up ≡ all_sent → A
up_never is = absurd (let no : going_up ≡ all_sent = is in cc)

pub passed_apart : (terms : Terms) (stage : Stage) (seen : Sight) → IsPastRequest stage → IsApart stage seen.server →
    IsApart (sequence (pass terms stage seen).stage) (sight_past terms stage seen).server
passed_apart terms (idle at) seen past_it is = is
passed_apart terms (busy at flow (request_body given most)) seen past_it is = absurd past_it
passed_apart terms (busy at flow (connection how)) seen past_it is = is
passed_apart terms (busy at flow (response_head server all_sent)) seen past_it is = is
passed_apart terms (busy at flow (response_head server going_up)) seen past_it is = up_never is.1
passed_apart terms (busy at flow (response_body server all_sent most)) seen past_it is = kept_apart (streams_in flow most seen) terms.place at flow server most seen is.0
passed_apart terms (busy at flow (response_body server going_up most)) seen past_it is = up_never is.1
passed_apart terms (busy at flow (coming_down server all_sent)) seen past_it is = came_apart terms.place at flow server seen (came_in flow seen) is.0
passed_apart terms (busy at flow (coming_down server going_up)) seen past_it is = up_never is.1
passed_apart terms (busy at flow (upgraded server)) seen past_it is = is
passed_apart terms (busy at flow given_head) seen past_it is = is
passed_apart terms (busy at flow given_body) seen past_it is = is
passed_apart terms (next at) seen past_it is = is
passed_apart terms over seen past_it is = is

-- ---- and behind a reply

abbrev LeadsApart : List ℕ → Turn Stage Command → Type 0
LeadsApart left turned = IsApart (sequence turned.stage) left

dial_apart : (place : Place) (at : At) (flow : Flow) (answer : Reply) (moment : ℕ) (closed : Bool) (left : List ℕ) →
    LeadsApart left (turn_dial place at flow all_sent (record { moment = moment; value = answer }) closed)
dial_apart place at flow (reply.Go told stream) moment closed left = tt
dial_apart place at flow (reply.Respond response) moment closed left = tt
dial_apart place at flow reply.Kill moment closed left = tt
dial_apart place at flow reply.Discard moment closed left = tt
dial_apart place at flow reply.Dialled moment closed left = (refl, refl)
dial_apart place at flow (reply.Refused fault) moment closed left = tt

response_apart : (left : List ℕ) (there : Option Response) (takes : Response → Taken Response) (goes : Taken Response → Turn Stage Command) →
    ((taken : Taken Response) → LeadsApart left (goes taken)) → LeadsApart left (turn_response there takes goes)
response_apart left None takes goes each = tt
response_apart left (Some response) takes goes each = each (takes response)

-- of the reply to a hook, where no side is parked
module _ (at : At) (none : at.parked ≡ None) (left : List ℕ) where
  taken_answer_apart : (flow : Flow) (server : ℕ) (most : Option ℕ) (taken : Taken Response) (moment : ℕ) (used : Used) (closed : Bool) →
      LeadsApart left (turn_taken_answer at flow server all_sent most taken moment used closed)
  taken_answer_apart flow server most (GoesOn response) moment used closed = (none, refl)
  taken_answer_apart flow server most (Responds response) moment used closed = tt
  taken_answer_apart flow server most Kills moment used closed = tt

  answer_head_apart : (terms : Terms) (flow : Flow) (server : ℕ) (head : ReadResponse) (seen : Sight) (answer : Timed Reply) →
      LeadsApart left (turn_answer_head terms at flow server all_sent head seen answer)
  answer_head_apart terms flow server head seen answer =
      taken_answer_apart (with_answer flow (response_of head) seen.now) server (allowed_by terms.streams answer.value) (taken_at_response_head (response_of head) answer.value) answer.moment (server_in server seen) seen.closed

  answer_apart : (terms : Terms) (flow : Flow) (server : ℕ) (item : Item ReadResponse) (seen : Sight) (answer : Timed Reply) → LeadsApart left (turn_answer terms at flow server all_sent item seen answer)
  answer_apart terms flow server missing seen answer = tt
  answer_apart terms flow server (part head body) seen answer = answer_head_apart terms flow server head seen answer
  answer_apart terms flow server (complete head body trailers size) seen answer = answer_head_apart terms flow server head seen answer
  answer_apart terms flow server (bad_head fault) seen answer = tt
  answer_apart terms flow server (bad_body fault head body) seen answer = answer_head_apart terms flow server head seen answer

  finish_apart : (switches : Bool) (place : Place) (flow : Flow) (response : Response) (keeps : Bool) (server : ℕ) (used : Used) (closed : Bool) → (keeps ≡ true → left ≡ []) →
      LeadsApart left (finish_by switches place at flow all_sent response keeps server used closed)
  finish_apart true place flow response keeps server used closed nothing = (none, refl)
  finish_apart false place flow response keeps server used closed nothing =
      let stays : Bool = connection_goes_on at.flow flow.request response in
      behind_apart stays (parks (stays && keeps) place at flow.request server) left
      (parks_silent (stays && keeps) place at flow.request server left (λ kept. nothing (both_second stays keeps kept)))

  taken_apart : (place : Place) (flow : Flow) (server : ℕ) (keeps : Bool) (taken : Taken Response) (moment : ℕ) (used : Used) (closed : Bool) → (keeps ≡ true → left ≡ []) →
      LeadsApart left (turn_taken_whole place at flow server all_sent keeps taken moment used closed)
  taken_apart place flow server keeps (GoesOn response) moment used closed nothing = finish_apart (response.status == 101) place flow response keeps server used closed nothing
  taken_apart place flow server keeps (Responds response) moment used closed nothing = tt
  taken_apart place flow server keeps Kills moment used closed nothing = tt

  returned_apart : (place : Place) (flow : Flow) (server : ℕ) (item : Item ReadResponse) (seen : Sight) (answer : Timed Reply) →
      ((head : ReadResponse) → keeps_side flow.request seen head ≡ true → left ≡ []) → LeadsApart left (turn_returned place at flow server all_sent item seen answer)
  returned_apart place flow server missing seen answer nothing = tt
  returned_apart place flow server (part head body) seen answer nothing = tt
  returned_apart place flow server (complete head body trailers size) seen answer nothing =
      let whole : Flow = with_returned flow body.content trailers seen.now in
      let keeps : Bool = keeps_side flow.request seen head in
      response_apart left whole.response (λ message. taken_at_response_body message answer.value)
      (λ taken. turn_taken_whole place at whole server all_sent keeps taken answer.moment (server_in server seen) seen.closed)
      (λ taken. taken_apart place whole server keeps taken answer.moment (server_in server seen) seen.closed (nothing head))
  returned_apart place flow server (bad_head fault) seen answer nothing = tt
  returned_apart place flow server (bad_body fault head body) seen answer nothing = tt

  taken_given_apart : (flow : Flow) (taken : Taken Response) (moment : ℕ) (used : Used) (closed : Bool) → LeadsApart left (turn_taken_given at flow taken moment used closed)
  taken_given_apart flow (GoesOn response) moment used closed = (none, refl)
  taken_given_apart flow (Responds response) moment used closed = tt
  taken_given_apart flow Kills moment used closed = tt

  taken_returned_apart : (flow : Flow) (taken : Taken Response) (moment : ℕ) (used : Used) (closed : Bool) → LeadsApart left (turn_taken_returned at flow taken moment used closed)
  taken_returned_apart flow (GoesOn response) moment used closed = behind_apart (connection_goes_on at.flow flow.request response) at left (none_silent at.parked left none)
  taken_returned_apart flow (Responds response) moment used closed = tt
  taken_returned_apart flow Kills moment used closed = tt

pub turned_apart : (terms : Terms) (stage : Stage) (seen : Sight) (answer : Timed Reply) → IsPastRequest stage → IsBusy stage → IsApart stage seen.server →
    LeadsApart (server_left stage seen) (turn terms stage seen answer)
turned_apart terms (idle at) seen answer past_it flows is = absurd flows
turned_apart terms (busy at flow (request_body given most)) seen answer past_it flows is = absurd past_it
turned_apart terms (busy at flow (connection all_sent)) seen answer past_it flows is =
    dial_apart terms.place (unspoilt_at at seen) flow answer.value answer.moment seen.closed seen.server
turned_apart terms (busy at flow (connection going_up)) seen answer past_it flows is = up_never is.1
turned_apart terms (busy at flow (response_head server all_sent)) seen answer past_it flows is =
    answer_apart (unspoilt_at at seen) (unspoilt_none (is_silent seen.server seen.shut) at.parked is.0) seen.server terms flow server (answers_in flow.request seen).final seen answer
turned_apart terms (busy at flow (response_head server going_up)) seen answer past_it flows is = up_never is.1
turned_apart terms (busy at flow (response_body server all_sent most)) seen answer past_it flows is =
    returned_apart (unspoilt_at at seen) (unspoilt_none (is_silent seen.server seen.shut) at.parked is.0) (server_left (busy at flow (response_body server all_sent most)) seen)
    terms.place flow server (answers_in flow.request seen).final seen answer (λ head kept. (kept_nothing flow.request seen head kept).empty)
turned_apart terms (busy at flow (response_body server going_up most)) seen answer past_it flows is = up_never is.1
turned_apart terms (busy at flow (coming_down server sent)) seen answer past_it flows is = tt
turned_apart terms (busy at flow (upgraded server)) seen answer past_it flows is = tt
turned_apart terms (busy at flow given_head) seen answer past_it flows is =
    let told : Flow = given_at flow seen.now in
    let there : At = unspoilt_at at seen in
    response_apart seen.server told.response (λ message. taken_at_response_head message answer.value)
    (λ taken. turn_taken_given there told taken answer.moment (server_parked there.parked seen) seen.closed)
    (λ taken. taken_given_apart there (unspoilt_none (is_silent seen.server seen.shut) at.parked is.0) seen.server told taken answer.moment (server_parked there.parked seen) seen.closed)
turned_apart terms (busy at flow given_body) seen answer past_it flows is =
    let there : At = unspoilt_at at seen in
    response_apart seen.server flow.response (λ message. taken_at_response_body message answer.value)
    (λ taken. turn_taken_returned there flow taken answer.moment (server_parked there.parked seen) seen.closed)
    (λ taken. taken_returned_apart there (unspoilt_none (is_silent seen.server seen.shut) at.parked is.0) seen.server flow taken answer.moment (server_parked there.parked seen) seen.closed)
turned_apart terms (next at) seen answer past_it flows is = absurd flows
turned_apart terms over seen answer past_it flows is = absurd flows

-- of the side that a reply leads to no more is left
behind_silent : (dialled : Bool) (side : Option ℕ) (parked : Option Parked) (left : List ℕ) → IsKeptSilent parked left → IsKeptSilent parked (server_behind dialled side left)
behind_silent true side parked left is = silent_left parked
behind_silent false None parked left is = silent_left parked
behind_silent false (Some server) parked left is = is

pub behind_is_apart : (dialled : Bool) (side : Option ℕ) (stage : Stage) (left : List ℕ) → IsApart stage left → IsApart stage (server_behind dialled side left)
behind_is_apart dialled side (idle at) left is = behind_silent dialled side at.parked left is
behind_is_apart dialled side (busy at flow doing) left is = is
behind_is_apart dialled side (next at) left is = behind_silent dialled side at.parked left is
behind_is_apart dialled side over left is = tt

-- ---- so nothing is owed of a parked side

stray_none : (parked : Option Parked) (seen : Sight) → IsKeptSilent parked seen.server → shut_stray parked seen ≡ []
stray_none None seen is = refl
stray_none (Some parked) seen is = nothing_strays (Some parked) seen is

apart_strays : (at : At) (flow : Flow) (doing : Doing) (seen : Sight) → at.parked ≡ None → strays (busy at flow doing) seen ≡ []
apart_strays at flow (request_body given most) seen none = ap (λ parked. shut_stray parked seen) none
apart_strays at flow (connection how) seen none = ap (λ parked. shut_stray parked seen) none
apart_strays at flow (response_head server sent) seen none = refl
apart_strays at flow (response_body server sent most) seen none = refl
apart_strays at flow (coming_down server sent) seen none = refl
apart_strays at flow (upgraded server) seen none = refl
apart_strays at flow given_head seen none = ap (λ parked. shut_stray parked seen) none
apart_strays at flow given_body seen none = ap (λ parked. shut_stray parked seen) none

pub none_strays : (stage : Stage) (seen : Sight) → IsApart stage seen.server → strays stage seen ≡ []
none_strays (idle at) seen is = stray_none at.parked seen is
none_strays (busy at flow doing) seen is = apart_strays at flow doing seen is.0
none_strays (next at) seen is = stray_none at.parked seen is
none_strays over seen is = refl

-- ---- the flow that is kept

-- it is one that goes on
pub unparked_apart : (stage : Stage) (left : List ℕ) → IsBusy stage → IsUnparked stage → IsApart stage left
unparked_apart (idle at) left flows is = absurd flows
unparked_apart (busy at flow doing) left flows is = (is.none, is.whole)
unparked_apart (next at) left flows is = absurd flows
unparked_apart over left flows is = absurd flows

pub apart_unparked : (stage : Stage) (left : List ℕ) → IsPastRequest stage → IsApart stage left → IsUnparked stage
apart_unparked (idle at) left past_it is = record { dial = past_it; none = tt; whole = refl }
apart_unparked (busy at flow doing) left past_it is = record { dial = past_it; none = is.0; whole = is.1 }
apart_unparked (next at) left past_it is = record { dial = past_it; none = tt; whole = refl }
apart_unparked over left past_it is = record { dial = past_it; none = tt; whole = refl }

pub first_unparked : (given : Option Response) (flow : Flow) → IsUnparked (busy first_at flow (doing_by given))
first_unparked None flow = record { dial = tt; none = refl; whole = refl }
first_unparked (Some response) flow = record { dial = tt; none = refl; whole = refl }

pub none_behind : (stage : Stage) (seen : Sight) → IsUnparked stage → behind stage seen ≡ []
none_behind stage seen is =
    let P : Stage → Type 0 = λ s. NoneParked s → behind s seen ≡ [] in
    by_dial (λ at. ⊤) ⊤ P stage is.dial (λ at flow how there none. ap (λ parked. shut_server (server_parked parked seen)) (unspoilt_none (is_silent seen.server seen.shut) at.parked none))
    (λ past_it goes none. (past stage past_it).quiet seen) is.none

-- ---- the place where it stands

-- no more of its request is read there, and no side is parked
pub record StandsApart (place : Standing) (prefix : List (Timed Event)) : Type 0 where
  pub dial : IsPastRequest place.stage
  pub apart : IsApart place.stage (sight_over place prefix).server

pub still_unparked : (place : Standing) (prefix : List (Timed Event)) → StandsApart place prefix → IsUnparked place.stage
still_unparked place prefix is = apart_unparked place.stage (sight_over place prefix).server is.dial is.apart

pub busy_apart : (place : Standing) (prefix : List (Timed Event)) → IsBusy place.stage → IsUnparked place.stage → StandsApart place prefix
busy_apart place prefix flows is = record { dial = is.dial; apart = unparked_apart place.stage (sight_over place prefix).server flows is }

-- so is it where it passes
pub passed_on : (terms : Terms) (place : Standing) (prefix : List (Timed Event)) → StandsApart place prefix → StandsApart (passed sequence terms place (sight_over place prefix)) prefix
passed_on terms place prefix is =
    let seen : Sight = sight_over place prefix in
    let to : Stage = sequence (pass terms place.stage seen).stage in
    let P : Sight → Type 0 = λ s. IsApart to s.server in
    record {
      dial = passed_by (λ at. ⊤) ⊤ terms place.stage seen is.dial;
      apart = subst P (sym (sight_passed sequence (is_sequence refl) terms place prefix)) (passed_apart terms place.stage seen is.dial is.apart);
    }

-- and behind a reply
pub turned_on : (terms : Terms) (place : Standing) (prefix : List (Timed Event)) (answer : Timed Reply) → IsBusy place.stage → StandsApart place prefix →
    StandsApart (stands terms place answer.moment prefix (sequence (turn terms place.stage (sight_over place prefix) answer).stage)) prefix
turned_on terms place prefix answer flows is =
    let seen : Sight = sight_over place prefix in
    let to : Stage = sequence (turn terms place.stage seen answer).stage in
    let P : Sight → Type 0 = λ s. IsApart to s.server in
    record {
      dial = turned_by (λ at. ⊤) ⊤ terms place.stage seen answer is.dial flows tt;
      apart = subst P (sym (sight_turned sequence (is_sequence refl) terms place prefix answer))
          (behind_is_apart (dials_at place.stage) (side_of to) to (server_left place.stage seen) (turned_apart terms place.stage seen answer is.dial flows is.apart));
    }
