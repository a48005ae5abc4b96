-- A server of a conversation is sent the text of one request at most, or of one that is streamed what came of it.
use Rattle.std.proofs.Common.{◌≡◌, ℕ, ◌+◌, ◌≤◌, ◌<◌, Bool, true, false, List, [], ◌∷◌, ◌++◌, length, map, Option, Some, None, refl, ap, sym, ◌∙◌, subst, arith, append_assoc}
use Rattle.std.specs.Prelude.{⊤, ◌==◌, ◌&&◌, ◌||◌, if◌then◌else◌, drop, zero, suc}
use Rattle.std.proofs.lemmas.Bool.{eqb-true}
use Rattle.std.proofs.lemmas.List.{append-nil}
use Rattle.px_message.specs.declared.flow.Flow.{Flow}
use Rattle.px_message.specs.declared.request.Request.{Request}
use Rattle.px_message.specs.declared.response.Response.{Response}
use Rattle.px_event.specs.declared.command.Command.{Command}
use Rattle.px_event.specs.declared.event.Event.{Event}
use Rattle.px_event.specs.declared.reply.Reply.{Reply}
use Rattle.px_event.specs.declared.reply.Reply.TheVariants as reply
use Rattle.px_event.specs.Chain.{Asks, Chain, Timed, Turn, found, found_at}
use Rattle.px_event.specs.Layer.{Move, Took, Replied}
use Rattle.px_event.specs.Sides.{closes, piece_of}
use Rattle.px_event.specs.Stands.{due_by, events_in}
use Rattle.px_event.specs.View.{byte, bytes_in, line, seen_of}
use Rattle.px_event.specs.declared.side.Side.TheVariants.{Client, Server}
use Rattle.px_event.proofs.LineLemmas.{bytes_alone}
use Rattle.px_read.specs.Items.{Item, answer_list, missing, part, complete, bad_head, bad_body}
use Rattle.px_read.specs.declared.head.RequestHead.{RequestHead as ReadRequest}
use Rattle.px_read.specs.declared.head.ResponseHead.{ResponseHead as ReadResponse}
use Rattle.px_exchange.specs.declared.asked.Judged.{Judged}
use Rattle.px_exchange.specs.declared.asked.Judged.TheVariants.{Refused, Accepted, Connects}
use Rattle.px_exchange.specs.declared.ending.Used.{Used}
use Rattle.px_exchange.specs.declared.ending.Used.TheVariants.{NoServer}
use Rattle.px_exchange.specs.declared.place.Place.{Place}
use Rattle.px_exchange.specs.declared.taken.Taken.{Taken}
use Rattle.px_exchange.specs.declared.taken.Taken.TheVariants.{GoesOn, Responds, Kills}
use Rattle.px_exchange.specs.declared.terms.Terms.{Terms}
use Rattle.px_exchange.specs.Dials.{connected_owes}
use Rattle.px_exchange.specs.Endings.{connection_goes_on, ends_by_fault, ends_early, killed_message, without_response}
use Rattle.px_exchange.specs.Flows.{response_of, with_answer, with_body, with_returned}
use Rattle.px_exchange.specs.Places.{form_at}
use Rattle.px_exchange.specs.Replies.{taken_at_request_body, taken_at_request_head, taken_at_response_body, taken_at_response_head}
use Rattle.px_exchange.specs.Requests.{expects, flow_of, is_head, judged}
use Rattle.px_exchange.specs.Texts.{onward_text}
use Rattle.px_chain.specs.Behind.{sight_behind}
use Rattle.px_chain.specs.Chain.{IsOnward, begin, behind, behind_flow, dial_leads, dial_owes_by, finish_by, given_at, goes_on_by, going_at, http_chain, is_alone, is_sequence, look, parked_for, pass, passed, reached, sequence, sight_past, so_far, stands, turn, turn_answer, turn_answer_head, turn_body, turn_head, turn_judged, turn_response, turn_returned, turn_taken_answer, turn_taken_body, turn_taken_given, turn_taken_head, turn_taken_returned, turn_taken_whole}
use Rattle.px_chain.specs.Coming.{allowed_by}
use Rattle.px_chain.specs.Going.{allowed_up_by, going_text, is_sent, told_behind, whole_by}
use Rattle.px_chain.specs.Left.{doing_left}
use Rattle.px_chain.specs.Sent.{GoesToParked, IsSentOnce, one_request}
use Rattle.px_chain.specs.Sights.{Sight, Standing, UsedBytes, answers_in, bytes_over, request_in, server_in, server_parked, sight_over}
use Rattle.px_chain.specs.Silent.{ParkedBelow, SaysNothing, connects}
use Rattle.px_chain.specs.Keeping.{is_silent, keeps_side, parks, unspoilt_at, unspoilt_by}
use Rattle.px_chain.specs.Streams.{Since, bytes_of}
use Rattle.px_chain.specs.Stages.{At, Doing, Parked, Sent, Stage, all_sent, busy, coming_down, connection, given_body, given_head, going_up, idle, next, over, request_body, response_body, response_head, side_parked, upgraded}
use Rattle.px_chain.proofs.ChainLaws.{placed}
use Rattle.px_chain.proofs.CountedLemmas.{IsSilent, silent_found}
use Rattle.px_chain.proofs.GoingLaws.{client_grows, going_text_by}
use Rattle.px_chain.proofs.NotUp.{IsNotUp}
use Rattle.px_chain.proofs.OnceLemmas.{AllMay, Keeps, kept_due, sent_join, sent_to}
use Rattle.px_chain.proofs.Quiet.{IsBehind as LeadsOn, any_flow}
use Rattle.px_chain.proofs.QuietLemmas.{pass_led, turn_behind}
use Rattle.px_chain.proofs.SightLaws.{behind_onward, sight_passed, sight_turned}
use Rattle.px_chain.proofs.BelowLemmas.{http_counts, turns_counted}
use Rattle.px_chain.proofs.SilentLemmas.{AreBelow, Before, IsBetween, IsParkedFrom, ServersBelow, SideBelow, before_at, behind_silent, beyond_by, dialled, early_silent, fault_silent, for_below, looks_silent, none_parked, own_parked, parked_below, same_parked, turn_leads, unspoilt_below}
use Rattle.px_chain.proofs.TellLemmas.{IsAll, IsAt, IsBehind, IsFirst, IsOther, IsSince, IsUnanswered, IsUnansweredBy, IsUntold, SaidAt, at_onward, at_passed, first_goes, goes_to, hears_said, in_part, is_first, is_none, is_other, not_other, not_same, not_yet, onward_said, pass_said, told_on, unsaid, unspoilt_goes, waited_all, waited_said, was_said}

-- ---- what is so of the number of dials behind a reply, and of the side that is parked

-- the response of a server that has not answered is not kept: its side is not parked then
abbrev IsApart : ℕ → Option ℕ → Type 0
IsApart server None = ⊤
IsApart server (Some own) = (own == server) ≡ false

from_before : (server : ℕ) (was : Before) (parked : Option Parked) → IsApart server was.own → IsParkedFrom was parked → IsFirst server was.parked parked
from_before server was parked apart (same_parked is) = is_first is
from_before server was parked apart (none_parked is) = is_none is
from_before server was parked apart (own_parked own uses is) = is_other own is (subst (λ o. IsApart server o) uses apart)

returned_over : (place : Place) (at : At) (flow : Flow) (side : ℕ) (how : Sent) (item : Item ReadResponse) (seen : Sight) (answer : Timed Reply) → whole_by item ≡ None →
    (turn_returned place at flow side how item seen answer).stage ≡ over
returned_over place at flow side how missing seen answer none = refl
returned_over place at flow side how (part head body) seen answer none = refl
returned_over place at flow side how (complete head body trailers size) seen answer none = absurd (let e : Some size ≡ None = none in cc)
returned_over place at flow side how (bad_head fault) seen answer none = refl
returned_over place at flow side how (bad_body fault head body) seen answer none = refl

module _ (holds : ℕ → Option Parked → Type 0) where
  at_led : (server : ℕ) (was : Before) (least most : ℕ) (stage : Stage) → IsApart server was.own → IsBetween was least most stage →
      ((dials : ℕ) (parked : Option Parked) → least ≤ dials → IsFirst server was.parked parked → holds dials parked) → IsAt holds stage
  at_led server was least most (idle at) apart between on = on at.dials at.parked between.0.0 (from_before server was at.parked apart between.0.2)
  at_led server was least most (busy at flow doing) apart between on = on at.dials at.parked between.0.0 (from_before server was at.parked apart between.0.2)
  at_led server was least most (next at) apart between on = on at.dials at.parked between.0.0 (from_before server was at.parked apart between.0.2)
  at_led server was least most over apart between on = tt

  module _ (server : ℕ) (terms : Terms) (seen : Sight) (answer : Timed Reply)
      (on : (least dials : ℕ) (was parked : Option Parked) → least ≤ dials → IsFirst server was parked → holds least was → holds dials parked) where
    at_busy : (most : ℕ) (at : At) (flow : Flow) (doing : Doing) → IsApart server (before_at (busy at flow doing)).own → holds at.dials at.parked →
        IsBetween (before_at (busy at flow doing)) at.dials most (turn terms (busy at flow doing) seen answer).stage → IsAt holds (turn terms (busy at flow doing) seen answer).stage
    at_busy most at flow doing apart is between =
        at_led server (before_at (busy at flow doing)) at.dials most _ apart between (λ dials parked more left. on at.dials dials at.parked parked more left is)

    -- behind the response of another server, or where none is whole
    at_response : (same : Bool) (most : ℕ) (at : At) (flow : Flow) (side : ℕ) (how : Sent) (allowed : Option ℕ) → (side == server) ≡ same →
        IsUnanswered server (busy at flow (response_body side how allowed)) seen → holds at.dials at.parked →
        IsBetween (before_at (busy at flow (response_body side how allowed))) at.dials most (turn terms (busy at flow (response_body side how allowed)) seen answer).stage →
        IsAt holds (turn terms (busy at flow (response_body side how allowed)) seen answer).stage
    at_response true most at flow side how allowed same none is between =
        subst (λ stage. IsAt holds stage) (sym (returned_over terms.place (unspoilt_at at seen) flow side how (answers_in flow.request seen).final seen answer (none same))) tt
    at_response false most at flow side how allowed other none is between = at_busy most at flow (response_body side how allowed) other is between

    -- behind a reply more servers were dialled, and the same side is parked, or none, or another server's
    at_turned : (most : ℕ) (from : Stage) → IsUnanswered server from seen → IsAt holds from → IsBetween (before_at from) (dialled from) most (turn terms from seen answer).stage →
        IsAt holds (turn terms from seen answer).stage
    at_turned most (idle at) none is between = at_led server (before_at (idle at)) at.dials most _ tt between (λ dials parked more left. on at.dials dials at.parked parked more left is)
    at_turned most (busy at flow (request_body given size)) none is between = at_busy most at flow (request_body given size) tt is between
    at_turned most (busy at flow (connection how)) none is between = at_busy most at flow (connection how) tt is between
    at_turned most (busy at flow (response_head side how)) none is between = at_busy most at flow (response_head side how) tt is between
    at_turned most (busy at flow (response_body side how allowed)) none is between = at_response (side == server) most at flow side how allowed refl none is between
    at_turned most (busy at flow (coming_down side how)) none is between = at_busy most at flow (coming_down side how) tt is between
    at_turned most (busy at flow (upgraded side)) none is between = at_busy most at flow (upgraded side) tt is between
    at_turned most (busy at flow given_head) none is between = at_busy most at flow given_head tt is between
    at_turned most (busy at flow given_body) none is between = at_busy most at flow given_body tt is between
    at_turned most (next at) none is between = at_led server (before_at (next at)) at.dials most (next (unspoilt_at at seen)) tt between (λ dials parked more left. on at.dials dials at.parked parked more left is)
    at_turned most over none is between = tt

between_turned : (terms : Terms) (from : Stage) (seen : Sight) (answer : Timed Reply) → ServersBelow from →
    IsBetween (before_at from) (dialled from) (dialled from + connects answer.value) (turn terms from seen answer).stage
between_turned terms from seen answer below =
    let most : ℕ = dialled from + connects answer.value in (turn_leads most terms from seen answer below (beyond_by most answer.value from (omega arith))).1

other_left : (server : ℕ) (was parked : Option Parked) → IsFirst server was parked → IsOther server was → IsOther server parked
other_left server was parked (is_first is) other = rw is other
other_left server was parked (is_none is) other = rw is tt
other_left server was parked (is_other own is apart) other = rw is (not_same own.server server apart)

left_on : (server : ℕ) (first was parked : Option Parked) → IsFirst server was parked → IsFirst server first was → IsFirst server first parked
left_on server first was parked (is_first is) left = rw is left
left_on server first was parked (is_none is) left = is_none is
left_on server first was parked (is_other own is apart) left = is_other own is apart

used_turned : (server : ℕ) (terms : Terms) (from : Stage) (seen : Sight) (answer : Timed Reply) → ServersBelow from → IsUnanswered server from seen → IsAt (IsBehind server) from →
    IsAt (IsBehind server) (turn terms from seen answer).stage
used_turned server terms from seen answer below none used =
    at_turned (IsBehind server) server terms seen answer (λ low dials was parked more left so. (let less = so.0 in omega arith, other_left server was parked left so.1))
    (dialled from + connects answer.value) from none used (between_turned terms from seen answer below)

since_turned : (server : ℕ) (first : Option Parked) (least : ℕ) (terms : Terms) (from : Stage) (seen : Sight) (answer : Timed Reply) → ServersBelow from → IsUnanswered server from seen →
    IsAt (IsSince server first least) from → IsAt (IsSince server first least) (turn terms from seen answer).stage
since_turned server first least terms from seen answer below none since =
    at_turned (IsSince server first least) server terms seen answer (λ low dials was parked more left so. (let less = so.0 in omega arith, left_on server first was parked left so.1))
    (dialled from + connects answer.value) from none since (between_turned terms from seen answer below)

-- ---- so is it where the keeping of a parked side has ended

other_unspoilt : (silent : Bool) (server : ℕ) (parked : Option Parked) → IsOther server parked → IsOther server (unspoilt_by silent parked)
other_unspoilt true server parked other = other
other_unspoilt false server parked other = tt

first_unspoilt : (silent : Bool) (server : ℕ) (first parked : Option Parked) → IsFirst server first parked → IsFirst server first (unspoilt_by silent parked)
first_unspoilt true server first parked is = is
first_unspoilt false server first parked is = is_none refl

-- ---- where a reply leads to no request that goes up

abbrev pub IsStill : Stage → Type 0
IsStill (busy at flow doing) = going_at doing ≡ None
IsStill stage = ⊤

pub still_up : (server : ℕ) (stage : Stage) → IsStill stage → IsNotUp server stage
still_up server (idle at) is = tt
still_up server (busy at flow doing) is = rw is tt
still_up server (next at) is = tt
still_up server over is = tt

behind_still : (stays : Bool) (at : At) → IsStill (behind_flow stays at)
behind_still true at = tt
behind_still false at = tt

taken_head_still : (at : At) (flow : Flow) (expected : Bool) (size : Option ℕ) (taken : Taken Request) (moment : ℕ) (seen : Sight) → IsStill (turn_taken_head at flow expected size taken moment seen).stage
taken_head_still at flow expected size (GoesOn message) moment seen = refl
taken_head_still at flow expected size (Responds response) moment seen = refl
taken_head_still at flow expected size Kills moment seen = tt

judged_still : (terms : Terms) (at : At) (head : ReadRequest) (made : Judged) (seen : Sight) (answer : Timed Reply) → IsStill (turn_judged terms at head made seen answer).stage
judged_still terms at head (Refused fault) seen answer = tt
judged_still terms at head (Connects address) seen answer = tt
judged_still terms at head (Accepted message) seen answer =
    taken_head_still at (flow_of terms at.flow message seen.now) (expects head) (allowed_up_by terms.streams answer.value) (taken_at_request_head message answer.value) answer.moment seen

pub head_still : (terms : Terms) (at : At) (item : Item ReadRequest) (seen : Sight) (answer : Timed Reply) → IsStill (turn_head terms at item seen answer).stage
head_still terms at missing seen answer = tt
head_still terms at (part head body) seen answer = judged_still terms at head (judged terms.place head) seen answer
head_still terms at (complete head body trailers used) seen answer = judged_still terms at head (judged terms.place head) seen answer
head_still terms at (bad_head fault) seen answer = tt
head_still terms at (bad_body fault head body) seen answer = judged_still terms at head (judged terms.place head) seen answer

goes_on_still : (side : Option ℕ) (place : Place) (at : At) (flow : Flow) → IsStill (goes_on_by side place at flow).stage
goes_on_still None place at flow = refl
goes_on_still (Some side) place at flow = refl

taken_body_still : (place : Place) (at : At) (flow : Flow) (taken : Taken Request) (moment : ℕ) (seen : Sight) → IsStill (turn_taken_body place at flow taken moment seen).stage
taken_body_still place at flow (GoesOn message) moment seen = goes_on_still (parked_for place message at.parked) place at (record flow { request = message })
taken_body_still place at flow (Responds response) moment seen = refl
taken_body_still place at flow Kills moment seen = tt

pub body_still : (place : Place) (at : At) (flow : Flow) (item : Item ReadRequest) (seen : Sight) (answer : Timed Reply) → IsStill (turn_body place at flow item seen answer).stage
body_still place at flow missing seen answer = tt
body_still place at flow (part head body) seen answer = tt
body_still place at flow (complete head body trailers used) seen answer =
    let whole : Flow = with_body flow body.content trailers seen.now in
    taken_body_still place at whole (taken_at_request_body whole.request answer.value) answer.moment seen
body_still place at flow (bad_head fault) seen answer = tt
body_still place at flow (bad_body fault head body) seen answer = tt

pub response_still : (there : Option Response) (takes : Response → Taken Response) (goes : Taken Response → Turn Stage Command) → ((taken : Taken Response) → IsStill (goes taken).stage) →
    IsStill (turn_response there takes goes).stage
response_still None takes goes each = tt
response_still (Some response) takes goes each = each (takes response)

finish_still : (switches : Bool) (place : Place) (at : At) (flow : Flow) (how : Sent) (response : Response) (keeps : Bool) (side : ℕ) (used : Used) (closed : Bool) →
    IsStill (finish_by switches place at flow how response keeps side used closed).stage
finish_still true place at flow how response keeps side used closed = refl
finish_still false place at flow how response keeps side used closed =
    let stays : Bool = is_sent how && connection_goes_on at.flow flow.request response in behind_still stays (parks (stays && keeps) place at flow.request side)

taken_whole_still : (place : Place) (at : At) (flow : Flow) (side : ℕ) (how : Sent) (keeps : Bool) (taken : Taken Response) (moment : ℕ) (used : Used) (closed : Bool) →
    IsStill (turn_taken_whole place at flow side how keeps taken moment used closed).stage
taken_whole_still place at flow side how keeps (GoesOn response) moment used closed =
    finish_still (is_sent how && response.status == 101) place at flow how response keeps side used closed
taken_whole_still place at flow side how keeps (Responds response) moment used closed = tt
taken_whole_still place at flow side how keeps Kills moment used closed = tt

pub returned_still : (place : Place) (at : At) (flow : Flow) (side : ℕ) (how : Sent) (item : Item ReadResponse) (seen : Sight) (answer : Timed Reply) →
    IsStill (turn_returned place at flow side how item seen answer).stage
returned_still place at flow side how missing seen answer = tt
returned_still place at flow side how (part head body) seen answer = tt
returned_still place at flow side how (complete head body trailers size) seen answer =
    let whole : Flow = with_returned flow body.content trailers seen.now in
    let keeps : Bool = keeps_side flow.request seen head in
    response_still whole.response (λ message. taken_at_response_body message answer.value)
    (λ taken. turn_taken_whole place at whole side how keeps taken answer.moment (server_in side seen) seen.closed)
    (λ taken. taken_whole_still place at whole side how keeps taken answer.moment (server_in side seen) seen.closed)
returned_still place at flow side how (bad_head fault) seen answer = tt
returned_still place at flow side how (bad_body fault head body) seen answer = tt

pub given_still : (at : At) (flow : Flow) (taken : Taken Response) (moment : ℕ) (parked : Used) (closed : Bool) → IsStill (turn_taken_given at flow taken moment parked closed).stage
given_still at flow (GoesOn message) moment parked closed = refl
given_still at flow (Responds response) moment parked closed = tt
given_still at flow Kills moment parked closed = tt

pub taken_returned_still : (at : At) (flow : Flow) (taken : Taken Response) (moment : ℕ) (parked : Used) (closed : Bool) → IsStill (turn_taken_returned at flow taken moment parked closed).stage
taken_returned_still at flow (GoesOn response) moment parked closed = behind_still (connection_goes_on at.flow flow.request response) at
taken_returned_still at flow (Responds response) moment parked closed = tt
taken_returned_still at flow Kills moment parked closed = tt

-- ---- what a reply says to a server

module _ (server : ℕ) (terms : Terms) where
  -- nothing, or the text of a request, where its side is parked and the request goes there
  pub data Says (asked : At) (turned : Turn Stage Command) : Type 0 where
    silent : IsSilent server turned.owed → Says asked turned
    by_parked : (request : Request) → GoesToParked terms.place asked.parked server request → sent_to server turned.owed ≡ onward_text (form_at terms.place) request →
        IsAt (IsBehind server) turned.stage → Says asked turned

  pub connected_said : (flow : Flow) (number : ℕ) → (number == server) ≡ true → sent_to server (connected_owes terms.place flow number) ≡ onward_text (form_at terms.place) flow.request
  connected_said flow number is =
      let text : List ℕ = onward_text (form_at terms.place) flow.request in
      rw is (ap bytes_in (append-nil (map byte text)) ∙ bytes_alone text)

  pub connected_silent : (flow : Flow) (number : ℕ) → (number == server) ≡ false → IsSilent server (connected_owes terms.place flow number)
  connected_silent flow number is = rw is refl

  module _ (asked : At) where
    parked_says : (side : ℕ) (at : At) (flow : Flow) → parked_for terms.place flow.request asked.parked ≡ Some side → side < at.dials →
        (same : Bool) → (side == server) ≡ same → Says asked (goes_on_by (Some side) terms.place at flow)
    parked_says side at flow there below true is =
        let number = eqb-true side server is in
        by_parked flow.request (goes_to terms.place flow.request asked.parked side server there number) (connected_said flow side is) (omega arith, tt)
    parked_says side at flow there below false is = silent (connected_silent flow side is)

    goes_on_says : (side : Option ℕ) (at : At) (flow : Flow) → parked_for terms.place flow.request asked.parked ≡ side → SideBelow side at.dials →
        Says asked (goes_on_by side terms.place at flow)
    goes_on_says None at flow there below = silent refl
    goes_on_says (Some side) at flow there below = parked_says side at flow there below (side == server) refl

    taken_body_says : (at : At) (flow : Flow) (taken : Taken Request) (moment : ℕ) (seen : Sight) → at.parked ≡ asked.parked → SideBelow (side_parked at.parked) at.dials →
        Says asked (turn_taken_body terms.place at flow taken moment seen)
    taken_body_says at flow (GoesOn message) moment seen same below =
        goes_on_says (parked_for terms.place message at.parked) at (record flow { request = message }) (ap (parked_for terms.place message) (sym same))
        (for_below terms.place message at.parked at.dials below)
    taken_body_says at flow (Responds response) moment seen same below = silent refl
    taken_body_says at flow Kills moment seen same below = silent (early_silent server flow killed_message moment (server_parked at.parked seen) seen.closed)

    pub body_says : (flow : Flow) (item : Item ReadRequest) (seen : Sight) (answer : Timed Reply) → SideBelow (side_parked asked.parked) asked.dials →
        Says asked (turn_body terms.place asked flow item seen answer)
    body_says flow missing seen answer below = silent refl
    body_says flow (part head body) seen answer below = silent refl
    body_says flow (complete head body trailers used) seen answer below =
        let whole : Flow = with_body flow body.content trailers seen.now in
        taken_body_says asked whole (taken_at_request_body whole.request answer.value) answer.moment seen refl below
    body_says flow (bad_head fault) seen answer below = silent refl
    body_says flow (bad_body fault head body) seen answer below = silent refl

-- so it says where it goes by a parked side whose keeping has not ended
pub unspoilt_says : (server : ℕ) (terms : Terms) (at : At) (seen : Sight) (turned : Turn Stage Command) → Says server terms (unspoilt_at at seen) turned → Says server terms at turned
unspoilt_says server terms at seen turned (silent is) = silent is
unspoilt_says server terms at seen turned (by_parked request goes text led) =
    by_parked request (unspoilt_goes (is_silent seen.server seen.shut) terms.place request at.parked server goes) text led

-- ---- what was sent behind a reply

module _ (server : ℕ) (terms : Terms) (first : Option Parked) (least : ℕ) where
  abbrev Said : Stage → Sight → List ℕ → Type 0
  Said stage seen sent = SaidAt server terms first least stage seen sent

  abbrev All : List ℕ → Type 0
  All sent = IsAll server terms first least sent

  -- where it says nothing, and no request goes up to the server
  quiet_said : (stage : Stage) (seen past : Sight) (sent : List ℕ) (turned : Turn Stage Command) → All sent → IsSilent server turned.owed → IsNotUp server turned.stage →
      (IsAt (IsBehind server) stage → IsAt (IsBehind server) turned.stage) → Said stage seen sent → Said turned.stage past (sent ++ sent_to server turned.owed)
  quiet_said stage seen past sent turned all none other on (not_yet nothing up) = not_yet (unsaid server terms first least sent turned.owed none ∙ nothing) other
  quiet_said stage seen past sent turned all none other on (in_part used tells) =
      was_said (subst (λ s. All s) (sym (unsaid server terms first least sent turned.owed none)) all) (on used) other
  quiet_said stage seen past sent turned all none other on (was_said said used up) =
      was_said (subst (λ s. All s) (sym (unsaid server terms first least sent turned.owed none)) said) (on used) other

  -- the hook of a request's body is answered
  body_said : (at : At) (flow : Flow) (given : Option Response) (size : Option ℕ) (seen past : Sight) (sent : List ℕ) (turned : Turn Stage Command) → All sent →
      Says server terms at turned → IsStill turned.stage → IsSince server first least at.dials at.parked → (IsAt (IsBehind server) (busy at flow (request_body given size)) → IsAt (IsBehind server) turned.stage) →
      Said (busy at flow (request_body given size)) seen sent → Said turned.stage past (sent ++ sent_to server turned.owed)
  body_said at flow given size seen past sent turned all (silent none) still since on said =
      quiet_said (busy at flow (request_body given size)) seen past sent turned all none (still_up server turned.stage still) on said
  body_said at flow given size seen past sent turned all (by_parked request there text led) still since on (not_yet none up) =
      was_said (one_request (record {
        request = request;
        text = ap (λ s. s ++ sent_to server turned.owed) none ∙ text;
        goes_there = λ before. first_goes terms.place request first at.parked server since.1 there;
      })) led (still_up server turned.stage still)
  body_said at flow given size seen past sent turned all (by_parked request there text led) still since on (in_part used tells) = absurd tells.0
  body_said at flow given size seen past sent turned all (by_parked request there text led) still since on (was_said said used up) =
      absurd (not_other terms.place request at.parked server there used.1)

  -- a dial is answered with the connection
  dialled_said : (how : Sent) (at : At) (flow : Flow) (seen past : Sight) (sent : List ℕ) (moment : ℕ) (closed same : Bool) → (at.dials == server) ≡ same → All sent →
      IsSince server first least at.dials at.parked → past.told ≡ 0 → Said (busy at flow (connection how)) seen sent →
      Said (dial_leads terms.place at flow how reply.Dialled) past (sent ++ sent_to server (dial_owes_by how terms.place flow at.dials reply.Dialled moment closed))
  dialled_said all_sent at flow seen past sent moment closed true is all since told (not_yet none up) =
      let number = eqb-true at.dials server is in
      let low = since.0 in
      was_said (one_request (record {
        request = flow.request;
        text = ap (λ s. s ++ sent_to server (connected_owes terms.place flow at.dials)) none ∙ connected_said server terms flow at.dials is;
        goes_there = λ before. absurd (let no : ⊥ = omega arith in no);
      })) (omega arith, tt) tt
  dialled_said all_sent at flow seen past sent moment closed true is all since told (in_part used tells) = absurd tells.0
  dialled_said all_sent at flow seen past sent moment closed true is all since told (was_said said used up) =
      let number = eqb-true at.dials server is in let less = used.0 in absurd (let no : ⊥ = omega arith in no)
  dialled_said all_sent at flow seen past sent moment closed false is all since told said =
      quiet_said (busy at flow (connection all_sent)) seen past sent
      (record { owed = dial_owes_by all_sent terms.place flow at.dials reply.Dialled moment closed; stage = dial_leads terms.place at flow all_sent reply.Dialled })
      all (connected_silent server terms flow at.dials is) tt (λ used. (let less = used.0 in omega arith, tt)) said
  dialled_said going_up at flow seen past sent moment closed true is all since told (not_yet none up) =
      let number = eqb-true at.dials server is in
      let low = since.0 in
      let empty : sent ++ [] ≡ [] = append-nil sent ∙ none in
      in_part (omega arith, tt) (
        is,
        record {
          told = ap length empty ∙ sym told;
          begins = (going_text terms.place (reached terms.place flow) past, ap (λ s. s ++ going_text terms.place (reached terms.place flow) past) (sym empty));
          goes_there = λ before. absurd (let no : ⊥ = omega arith in no);
        },
      )
  dialled_said going_up at flow seen past sent moment closed true is all since told (in_part used tells) = absurd tells.0
  dialled_said going_up at flow seen past sent moment closed true is all since told (was_said said used up) =
      let number = eqb-true at.dials server is in let less = used.0 in absurd (let no : ⊥ = omega arith in no)
  dialled_said going_up at flow seen past sent moment closed false is all since told said =
      quiet_said (busy at flow (connection going_up)) seen past sent
      (record { owed = dial_owes_by going_up terms.place flow at.dials reply.Dialled moment closed; stage = dial_leads terms.place at flow going_up reply.Dialled })
      all refl is (λ used. (let less = used.0 in omega arith, tt)) said

  -- it leads to the end
  over_said : (stage : Stage) (seen past : Sight) (sent : List ℕ) (owed : List Command) → All sent → IsSilent server owed → Said stage seen sent → Said over past (sent ++ sent_to server owed)
  over_said stage seen past sent owed all none said = quiet_said stage seen past sent (record { owed = owed; stage = over }) all none tt (λ used. tt) said

  dial_said : (how : Sent) (at : At) (flow : Flow) (answer : Reply) (seen past : Sight) (sent : List ℕ) (moment : ℕ) (closed : Bool) → All sent → IsSince server first least at.dials at.parked →
      past.told ≡ 0 → Said (busy at flow (connection how)) seen sent →
      Said (dial_leads terms.place at flow how answer) past (sent ++ sent_to server (dial_owes_by how terms.place flow at.dials answer moment closed))
  dial_said how at flow reply.Dialled seen past sent moment closed all since told said =
      dialled_said how at flow seen past sent moment closed (at.dials == server) refl all since told said
  dial_said all_sent at flow (reply.Refused fault) seen past sent moment closed all since told said =
      over_said (busy at flow (connection all_sent)) seen past sent (ends_by_fault flow fault moment NoServer closed) all (fault_silent server flow fault moment NoServer closed) said
  dial_said going_up at flow (reply.Refused fault) seen past sent moment closed all since told said =
      over_said (busy at flow (connection going_up)) seen past sent (ends_by_fault flow fault moment NoServer closed) all (fault_silent server flow fault moment NoServer closed) said
  dial_said all_sent at flow (reply.Go other stream) seen past sent moment closed all since told said = over_said (busy at flow (connection all_sent)) seen past sent [] all refl said
  dial_said going_up at flow (reply.Go other stream) seen past sent moment closed all since told said = over_said (busy at flow (connection going_up)) seen past sent [] all refl said
  dial_said all_sent at flow (reply.Respond given) seen past sent moment closed all since told said = over_said (busy at flow (connection all_sent)) seen past sent [] all refl said
  dial_said going_up at flow (reply.Respond given) seen past sent moment closed all since told said = over_said (busy at flow (connection going_up)) seen past sent [] all refl said
  dial_said all_sent at flow reply.Kill seen past sent moment closed all since told said = over_said (busy at flow (connection all_sent)) seen past sent [] all refl said
  dial_said going_up at flow reply.Kill seen past sent moment closed all since told said = over_said (busy at flow (connection going_up)) seen past sent [] all refl said
  dial_said all_sent at flow reply.Discard seen past sent moment closed all since told said = over_said (busy at flow (connection all_sent)) seen past sent [] all refl said
  dial_said going_up at flow reply.Discard seen past sent moment closed all since told said = over_said (busy at flow (connection going_up)) seen past sent [] all refl said

  -- the hook of a response's head is answered: the request goes up on, where it did
  head_said : (at : At) (flow other : Flow) (side : ℕ) (how : Sent) (most : Option ℕ) (seen past : Sight) (sent : List ℕ) → other.request ≡ flow.request → past.client ≡ seen.client → past.told ≡ seen.told →
      Said (busy at flow (response_head side how)) seen sent → Said (busy at other (response_body side how most)) past sent
  head_said at flow other side all_sent most seen past sent same bytes told (not_yet none up) = not_yet none tt
  head_said at flow other side all_sent most seen past sent same bytes told (in_part used tells) = absurd tells.0
  head_said at flow other side all_sent most seen past sent same bytes told (was_said said used up) = was_said said used tt
  head_said at flow other side going_up most seen past sent same bytes told (not_yet none up) = not_yet none up
  head_said at flow other side going_up most seen past sent same bytes told (in_part used (up, tells)) = in_part used (
    up,
    record {
      told = tells.told ∙ sym told;
      begins = (tells.begins.0, going_text_by terms.place flow other seen past same bytes ∙ tells.begins.1);
      goes_there = λ before. subst (λ r. GoesToParked terms.place first server r) (sym same) (tells.goes_there before);
    },
  )
  head_said at flow other side going_up most seen past sent same bytes told (was_said said used up) = was_said said used up

  module _ (at : At) (flow : Flow) (side : ℕ) (how : Sent) (seen past : Sight) (sent : List ℕ) (all : All sent) (bytes : past.client ≡ seen.client)
      (told : past.told ≡ told_behind terms.place (busy at flow (response_head side how)) seen)
      (said : Said (busy at flow (response_head side how)) (told_on server terms first least (busy at flow (response_head side how)) seen) sent) where
    abbrev stage : Stage
    stage = busy at flow (response_head side how)

    abbrev before : Sight
    before = told_on server terms first least stage seen

    taken_answer_said : (other : Flow) (most : Option ℕ) (taken : Taken Response) (moment : ℕ) (used : Used) (closed : Bool) → other.request ≡ flow.request →
        Said (turn_taken_answer at other side how most taken moment used closed).stage past (sent ++ sent_to server (turn_taken_answer at other side how most taken moment used closed).owed)
    taken_answer_said other most (GoesOn response) moment used closed same =
        let to : Stage = busy at (record other { response = Some response }) (response_body side how most) in
        subst (λ s. Said to past s) (sym (append-nil sent)) (head_said at flow (record other { response = Some response }) side how most before past sent same bytes told said)
    taken_answer_said other most (Responds response) moment used closed same =
        over_said stage before past sent (ends_early (without_response other) killed_message moment used closed) all
        (early_silent server (without_response other) killed_message moment used closed) said
    taken_answer_said other most Kills moment used closed same = over_said stage before past sent (ends_early (without_response other) killed_message moment used closed) all
        (early_silent server (without_response other) killed_message moment used closed) said

    answer_head_said : (head : ReadResponse) (answer : Timed Reply) →
        Said (turn_answer_head terms at flow side how head seen answer).stage past (sent ++ sent_to server (turn_answer_head terms at flow side how head seen answer).owed)
    answer_head_said head answer =
        taken_answer_said (with_answer flow (response_of head) seen.now) (allowed_by terms.streams answer.value) (taken_at_response_head (response_of head) answer.value) answer.moment
        (server_in side seen) seen.closed refl

    answer_said : (item : Item ReadResponse) (answer : Timed Reply) →
        Said (turn_answer terms at flow side how item seen answer).stage past (sent ++ sent_to server (turn_answer terms at flow side how item seen answer).owed)
    answer_said missing answer = over_said stage before past sent [] all refl said
    answer_said (part head body) answer = answer_head_said head answer
    answer_said (complete head body trailers size) answer = answer_head_said head answer
    answer_said (bad_head fault) answer = over_said stage before past sent [] all refl said
    answer_said (bad_body fault head body) answer = answer_head_said head answer

  -- any reply, where no request goes up and none begins to
  still_said : (from : Stage) (seen before past : Sight) (answer : Timed Reply) (sent : List ℕ) → All sent → ServersBelow from → IsUnanswered server from seen → IsSilent server (turn terms from seen answer).owed →
      IsStill (turn terms from seen answer).stage → Said from before sent → Said (turn terms from seen answer).stage past (sent ++ sent_to server (turn terms from seen answer).owed)
  still_said from seen before past answer sent all below unanswered none still said =
      quiet_said from before past sent (turn terms from seen answer) all none (still_up server (turn terms from seen answer).stage still) (used_turned server terms from seen answer below unanswered) said

  -- the keeping of a parked side has ended, or not
  said_unspoilt : (at : At) (flow : Flow) (doing : Doing) (now seen : Sight) (sent : List ℕ) → Said (busy at flow doing) seen sent → Said (busy (unspoilt_at at now) flow doing) seen sent
  said_unspoilt at flow doing now seen sent (not_yet none up) = not_yet none up
  said_unspoilt at flow doing now seen sent (in_part used tells) = in_part (used.0, other_unspoilt (is_silent now.server now.shut) server at.parked used.1) tells
  said_unspoilt at flow doing now seen sent (was_said all used up) = was_said all (used.0, other_unspoilt (is_silent now.server now.shut) server at.parked used.1) up

  turn_said : (from : Stage) (seen past : Sight) (answer : Timed Reply) (sent : List ℕ) (to : Stage) → All sent → ServersBelow from → IsUnanswered server from seen →
      IsAt (IsSince server first least) from → past ≡ sight_behind terms.place from seen answer.moment to → Said from (told_on server terms first least from seen) sent →
      Said (turn terms from seen answer).stage past (sent ++ sent_to server (turn terms from seen answer).owed)
  turn_said (idle at) seen past answer sent to all below none since is said =
      still_said (idle at) seen _ past answer sent all below none (turn_leads server terms (idle at) seen answer below tt).0 (head_still terms (unspoilt_at at seen) (request_in seen) seen answer) said
  turn_said (busy at flow (request_body given size)) seen past answer sent to all below none since is said =
      let turned : Turn Stage Command = turn terms (busy at flow (request_body given size)) seen answer in
      body_said at flow given size _ past sent turned all
      (unspoilt_says server terms at seen turned
      (body_says server terms (unspoilt_at at seen) flow (request_in seen) seen answer (unspoilt_below (is_silent seen.server seen.shut) at.parked at.dials below)))
      (body_still terms.place (unspoilt_at at seen) flow (request_in seen) seen answer) since (used_turned server terms (busy at flow (request_body given size)) seen answer below none) said
  turn_said (busy at flow (connection how)) seen past answer sent to all below none since is said =
      dial_said how (unspoilt_at at seen) flow answer.value _ past sent answer.moment seen.closed all (since.0, first_unspoilt (is_silent seen.server seen.shut) server first at.parked since.1)
      (ap (λ s. s.told) is) (said_unspoilt at flow (connection how) seen _ sent said)
  turn_said (busy at flow (response_head side how)) seen past answer sent to all below none since is said =
      answer_said (unspoilt_at at seen) flow side how seen past sent all (ap (λ s. s.client) is) (ap (λ s. s.told) is)
      (said_unspoilt at flow (response_head side how) seen _ sent said) (answers_in flow.request seen).final answer
  turn_said (busy at flow (response_body side how most)) seen past answer sent to all below none since is said =
      still_said (busy at flow (response_body side how most)) seen _ past answer sent all below none (turn_leads server terms (busy at flow (response_body side how most)) seen answer below tt).0
      (returned_still terms.place (unspoilt_at at seen) flow side how (answers_in flow.request seen).final seen answer) said
  turn_said (busy at flow (coming_down side how)) seen past answer sent to all below none since is said =
      still_said (busy at flow (coming_down side how)) seen _ past answer sent all below none refl tt said
  turn_said (busy at flow (upgraded side)) seen past answer sent to all below none since is said = still_said (busy at flow (upgraded side)) seen _ past answer sent all below none refl tt said
  turn_said (busy at flow given_head) seen past answer sent to all below none since is said =
      let asked : Flow = given_at flow seen.now in
      let there : At = unspoilt_at at seen in
      still_said (busy at flow given_head) seen _ past answer sent all below none (turn_leads server terms (busy at flow given_head) seen answer below tt).0
      (response_still asked.response (λ message. taken_at_response_head message answer.value) (λ taken. turn_taken_given there asked taken answer.moment (server_parked there.parked seen) seen.closed)
      (λ taken. given_still there asked taken answer.moment (server_parked there.parked seen) seen.closed)) said
  turn_said (busy at flow given_body) seen past answer sent to all below none since is said =
      let there : At = unspoilt_at at seen in
      still_said (busy at flow given_body) seen _ past answer sent all below none (turn_leads server terms (busy at flow given_body) seen answer below tt).0
      (response_still flow.response (λ message. taken_at_response_body message answer.value) (λ taken. turn_taken_returned there flow taken answer.moment (server_parked there.parked seen) seen.closed)
      (λ taken. taken_returned_still there flow taken answer.moment (server_parked there.parked seen) seen.closed)) said
  turn_said (next at) seen past answer sent to all below none since is said = still_said (next at) seen _ past answer sent all below none refl tt said
  turn_said over seen past answer sent to all below none since is said = still_said over seen _ past answer sent all below none refl tt said

-- ---- nothing was owed before of a request that is awaited

untold_none : (stage : Stage) (told : ℕ) → told ≡ 0 → IsUntold stage told
untold_none (idle at) told is = tt
untold_none (busy at flow (request_body given size)) told is = is
untold_none (busy at flow (connection how)) told is = tt
untold_none (busy at flow (response_head side how)) told is = tt
untold_none (busy at flow (response_body side how most)) told is = tt
untold_none (busy at flow (coming_down side how)) told is = tt
untold_none (busy at flow (upgraded side)) told is = tt
untold_none (busy at flow given_head) told is = tt
untold_none (busy at flow given_body) told is = tt
untold_none (next at) told is = tt
untold_none over told is = tt

-- where no request is awaited behind one
untold_behind : (flow dials count told : ℕ) (stage : Stage) → count ≤ 4 → LeadsOn flow dials count stage → IsUntold stage told
untold_behind flow dials count told (idle at) few led = tt
untold_behind flow dials count told (busy at other (request_body given size)) few led = let more = led.1 in absurd (let no : ⊥ = omega arith in no)
untold_behind flow dials count told (busy at other (connection how)) few led = tt
untold_behind flow dials count told (busy at other (response_head side how)) few led = tt
untold_behind flow dials count told (busy at other (response_body side how most)) few led = tt
untold_behind flow dials count told (busy at other (coming_down side how)) few led = tt
untold_behind flow dials count told (busy at other (upgraded side)) few led = tt
untold_behind flow dials count told (busy at other given_head) few led = tt
untold_behind flow dials count told (busy at other given_body) few led = tt
untold_behind flow dials count told (next at) few led = tt
untold_behind flow dials count told over few led = tt

doing_few : (doing : Doing) → doing_left doing ≤ 4
doing_few (request_body given size) = omega arith
doing_few (connection how) = omega arith
doing_few (response_head side how) = omega arith
doing_few (response_body side how most) = omega arith
doing_few (coming_down side how) = omega arith
doing_few (upgraded side) = omega arith
doing_few given_head = omega arith
doing_few given_body = omega arith

pub untold_turned : (terms : Terms) (from : Stage) (seen : Sight) (answer : Timed Reply) → IsUntold (turn terms from seen answer).stage (told_behind terms.place from seen)
untold_turned terms (idle at) seen answer = untold_none (turn terms (idle at) seen answer).stage 0 refl
untold_turned terms (busy at flow doing) seen answer =
    untold_behind at.flow at.dials (doing_left doing) _ (turn terms (busy at flow doing) seen answer).stage (doing_few doing) (turn_behind terms (busy at flow doing) seen answer tt)
untold_turned terms (next at) seen answer = tt
untold_turned terms over seen answer = tt

passed_flow : (terms : Terms) (at : At) (flow : Flow) (doing : Doing) (seen : Sight) (told : ℕ) → doing_left doing + 1 ≤ 4 → IsUntold (pass terms (busy at flow doing) seen).stage told
passed_flow terms at flow doing seen told few =
    untold_behind at.flow at.dials (doing_left doing + 1) told (pass terms (busy at flow doing) seen).stage few (pass_led terms any_flow at flow doing seen tt).behind

pub untold_passed : (terms : Terms) (stage : Stage) (seen : Sight) (told : ℕ) → IsUntold stage told → IsUntold (pass terms stage seen).stage told
untold_passed terms (idle at) seen told is = tt
untold_passed terms (busy at flow (request_body given size)) seen told is = untold_none (pass terms (busy at flow (request_body given size)) seen).stage told is
untold_passed terms (busy at flow (connection how)) seen told is = passed_flow terms at flow (connection how) seen told (omega arith)
untold_passed terms (busy at flow (response_head side how)) seen told is = passed_flow terms at flow (response_head side how) seen told (omega arith)
untold_passed terms (busy at flow (response_body side how most)) seen told is = passed_flow terms at flow (response_body side how most) seen told (omega arith)
untold_passed terms (busy at flow (coming_down side how)) seen told is = passed_flow terms at flow (coming_down side how) seen told (omega arith)
untold_passed terms (busy at flow (upgraded side)) seen told is = passed_flow terms at flow (upgraded side) seen told (omega arith)
untold_passed terms (busy at flow given_head) seen told is = passed_flow terms at flow given_head seen told (omega arith)
untold_passed terms (busy at flow given_body) seen told is = passed_flow terms at flow given_body seen told (omega arith)
untold_passed terms (next at) seen told is = tt
untold_passed terms over seen told is = tt

untold_sequence : (stage : Stage) (told : ℕ) → IsUntold stage told → IsUntold (sequence stage) told
untold_sequence (idle at) told is = tt
untold_sequence (busy at flow doing) told is = is
untold_sequence (next at) told is = tt
untold_sequence over told is = tt

pub untold_onward : (onward : Stage → Stage) → IsOnward onward → (stage : Stage) (told : ℕ) → IsUntold stage told → IsUntold (onward stage) told
untold_onward onward (is_alone same) stage told is = rw same is
untold_onward onward (is_sequence same) stage told is = rw same (untold_sequence stage told is)

-- ---- a server of which nothing is heard

abbrev Hushed : ℕ → List (Timed Event) → Type 0
Hushed server [] = ⊤
Hushed server (e ∷ es) = (piece_of (Server server) e.value ≡ []) × Hushed server es

hushed_more : (server : ℕ) (prefix : List (Timed Event)) (e : Timed Event) → Hushed server prefix → piece_of (Server server) e.value ≡ [] → Hushed server (prefix ++ e ∷ [])
hushed_more server [] e is none = (none, tt)
hushed_more server (f ∷ prefix) e is none = (is.0, hushed_more server prefix e is.1 none)

hushed_drop : (server n : ℕ) (prefix : List (Timed Event)) → Hushed server prefix → Hushed server (drop n prefix)
hushed_drop server zero prefix is = is
hushed_drop server (suc n) [] is = tt
hushed_drop server (suc n) (e ∷ prefix) is = hushed_drop server n prefix is.1

none_joined : (stops : Bool) (piece rest : List ℕ) → piece ≡ [] → rest ≡ [] → (if stops then [] else (piece ++ rest)) ≡ []
none_joined true piece rest a b = refl
none_joined false piece rest a b = ap (λ l. l ++ rest) a ∙ b

hushed_bytes : (server : ℕ) (prefix : List (Timed Event)) → Hushed server prefix → bytes_of (Server server) prefix ≡ []
hushed_bytes server [] is = refl
hushed_bytes server (e ∷ prefix) is =
    none_joined (closes Client e.value || closes (Server server) e.value) (piece_of (Server server) e.value) (bytes_of (Server server) prefix) is.0 (hushed_bytes server prefix is.1)

drop_none : (n : ℕ) (none : List ℕ) → none ≡ [] → drop n none ≡ []
drop_none zero none is = is
drop_none (suc n) none is = ap (drop (suc n)) is

nothing_whole : (asked_head shut : Bool) → whole_by (answer_list asked_head shut []).final ≡ None
nothing_whole true true = refl
nothing_whole true false = refl
nothing_whole false true = refl
nothing_whole false false = refl

-- of it no response is whole
hushed_unanswered : (server side opened used : ℕ) (flow : Flow) (seen : Sight) (prefix : List (Timed Event)) → Hushed server prefix →
    seen.server ≡ drop used (bytes_over (Some side) opened prefix) → IsUnansweredBy server side flow seen
hushed_unanswered server side opened used flow seen prefix is heard same =
    let number : side ≡ server = eqb-true side server same in
    let nothing : seen.server ≡ [] =
    heard ∙ (ap (λ n. drop used (bytes_of (Server n) (drop opened prefix))) number
    ∙ drop_none used (bytes_of (Server server) (drop opened prefix)) (hushed_bytes server (drop opened prefix) (hushed_drop server opened prefix is))) in
    ap (λ l. whole_by (answer_list (is_head flow.request.method) seen.shut l).final) nothing ∙ nothing_whole (is_head flow.request.method) seen.shut

unanswered_at : (server : ℕ) (stage : Stage) (since : Since) (opened : ℕ) (used : UsedBytes) (told : ℕ) (prefix : List (Timed Event)) → Hushed server prefix →
    IsUnanswered server stage (sight_over (placed stage since opened used told) prefix)
unanswered_at server (idle at) since opened used told prefix is = tt
unanswered_at server (busy at flow (request_body given size)) since opened used told prefix is = tt
unanswered_at server (busy at flow (connection how)) since opened used told prefix is = tt
unanswered_at server (busy at flow (response_head side how)) since opened used told prefix is = tt
unanswered_at server (busy at flow (response_body side how most)) since opened used told prefix is =
    hushed_unanswered server side opened used.server flow (sight_over (placed (busy at flow (response_body side how most)) since opened used told) prefix) prefix is refl
unanswered_at server (busy at flow (coming_down side how)) since opened used told prefix is =
    hushed_unanswered server side opened used.server flow (sight_over (placed (busy at flow (coming_down side how)) since opened used told) prefix) prefix is refl
unanswered_at server (busy at flow (upgraded side)) since opened used told prefix is = tt
unanswered_at server (busy at flow given_head) since opened used told prefix is = tt
unanswered_at server (busy at flow given_body) since opened used told prefix is = tt
unanswered_at server (next at) since opened used told prefix is = tt
unanswered_at server over since opened used told prefix is = tt

unanswered_over : (server : ℕ) (place : Standing) (prefix : List (Timed Event)) → Hushed server prefix → IsUnanswered server place.stage (sight_over place prefix)
unanswered_over server place prefix is = unanswered_at server place.stage place.since place.opened place.used place.told prefix is

-- ---- the chain

module _ (onward : Stage → Stage) (goes : IsOnward onward) (terms : Terms) (first : Option Parked) (least server : ℕ) where
  abbrev chain : Chain Standing Event Reply Command
  chain = http_chain onward terms

  -- A place of a conversation that began with this parked side and so many servers, where this was sent to the server.
  pub record SaidThere (place : Standing) (prefix : List (Timed Event)) (sent : List ℕ) : Type 0 where
    pub below : AreBelow place
    pub since : IsAt (IsSince server first least) place.stage
    pub untold : IsUntold place.stage place.told
    pub said : SaidAt server terms first least place.stage (sight_over place prefix) sent

  abbrev pub Holds : Standing → List (Timed Event) → List Command → Type 0
  Holds place prefix before = SaidThere place prefix (sent_to server before)

  abbrev pub EndsSo : List Command → Type 0
  EndsSo owed = IsSentOnce terms.place first least server (sent_to server owed)

  pub said_passed : (place : Standing) (prefix : List (Timed Event)) (before : List Command) → IsUnanswered server place.stage (sight_over place prefix) → Holds place prefix before →
      Holds (chain.pass place prefix).stage prefix (before ++ (chain.pass place prefix).owed)
  said_passed place prefix before none is =
      let seen : Sight = sight_over place prefix in
      let to : Stage = (pass terms place.stage seen).stage in
      let owed : List Command = (pass terms place.stage seen).owed in
      let there : Standing = passed onward terms place seen in
      let sent : List ℕ = sent_to server before ++ sent_to server owed in
      record {
        below = ((http_counts onward goes terms).passes place prefix is.below).stays;
        since = at_onward (IsSince server first least) onward goes to
            (at_passed (IsSince server first least) (λ dials parked since. (since.0, is_none refl)) server (λ dials parked own other since. (since.0, is_other own refl other)) terms place.stage seen none is.since);
        untold = untold_onward onward goes to place.told (untold_passed terms place.stage seen place.told is.untold);
        said = subst (λ s. SaidAt server terms first least there.stage (sight_over there prefix) s) (sym (sent_join server before owed))
            (subst (λ past. SaidAt server terms first least there.stage past sent) (sym (sight_passed onward goes terms place prefix))
            (onward_said server terms first least onward goes to (sight_past terms place.stage seen) sent
            (pass_said server terms first least place.stage seen (sent_to server before) is.untold is.below is.since none is.said)));
      }

  pub said_heard : (place : Standing) (prefix : List (Timed Event)) (before : List Command) (event : Timed Event) → Holds place prefix before → Holds place (prefix ++ event ∷ []) before
  said_heard place prefix before event is = record {
    below = is.below;
    since = is.since;
    untold = is.untold;
    said = hears_said server terms first least place.stage (sight_over place prefix) (sight_over place (prefix ++ event ∷ [])) (sent_to server before)
        (client_grows place.used.client prefix event) refl is.said;
  }

  -- what a reply brings, behind what says nothing
  pub turn_sent : (before waits : List Command) (ask : Command) (parts owed : List Command) → IsSilent server (ask ∷ []) → IsSilent server parts →
      sent_to server (before ++ (waits ++ ask ∷ (parts ++ owed))) ≡ (sent_to server before ++ sent_to server waits) ++ sent_to server owed
  turn_sent before waits ask parts owed one none =
      sent_join server before (waits ++ ask ∷ (parts ++ owed))
      ∙ (ap (λ l. sent_to server before ++ l) (sent_join server waits (ask ∷ (parts ++ owed))
      ∙ ap (λ l. sent_to server waits ++ l) (sent_join server (ask ∷ []) (parts ++ owed)
      ∙ (ap (λ l. l ++ sent_to server (parts ++ owed)) one ∙ (sent_join server parts owed ∙ ap (λ l. l ++ sent_to server owed) none))))
      ∙ sym (append_assoc (sent_to server before) (sent_to server waits) (sent_to server owed)))

  pub said_turned : (place : Standing) (prefix : List (Timed Event)) (before : List Command) (ask : Command) (answer : Timed Reply) → chain.look place prefix ≡ Asks ask → IsUnanswered server place.stage (sight_over place prefix) →
      Holds place prefix before → Holds (chain.turn place prefix answer).stage prefix (before ++ (chain.so_far place prefix ++ ask ∷ (chain.behind place prefix ++ (chain.turn place prefix answer).owed)))
  said_turned place prefix before ask answer asked none is =
      let seen : Sight = sight_over place prefix in
      let turned : Turn Stage Command = turn terms place.stage seen answer in
      let there : Standing = stands terms place answer.moment prefix (onward turned.stage) in
      let waits : List Command = so_far terms place.stage seen in
      let parts : List Command = behind place.stage seen in
      let one : IsSilent server (ask ∷ []) = ap (λ l. bytes_in (seen_of (line (Server server)) (found l))) (sym asked) ∙ looks_silent server terms place.stage seen in
      let past : Sight = sight_behind terms.place place.stage seen answer.moment turned.stage in
      let sent : List ℕ = sent_to server before ++ sent_to server waits in
      let all = waited_all server terms first least place.stage seen (sent_to server before) is.said in
      let told = waited_said server terms first least place.stage seen (sent_to server before) is.said in
      let sight = sight_turned onward goes terms place prefix answer ∙ behind_onward onward goes terms.place place.stage seen answer.moment turned.stage in
      record {
        below = (turns_counted onward goes terms place prefix answer is.below).stays;
        since = at_onward (IsSince server first least) onward goes turned.stage (since_turned server first least terms place.stage seen answer is.below none is.since);
        untold = untold_onward onward goes turned.stage (told_behind terms.place place.stage seen) (untold_turned terms place.stage seen answer);
        said = subst (λ s. SaidAt server terms first least there.stage (sight_over there prefix) s) (sym (turn_sent before waits ask parts turned.owed one (behind_silent server place.stage seen)))
            (subst (λ v. SaidAt server terms first least there.stage v (sent ++ sent_to server turned.owed)) (sym sight)
            (onward_said server terms first least onward goes turned.stage past (sent ++ sent_to server turned.owed)
            (turn_said server terms first least place.stage seen past answer sent turned.stage all is.below none is.since refl told)));
      }

  pub said_there : (place : Standing) (prefix : List (Timed Event)) (before : List Command) → Holds place prefix before →
      EndsSo (before ++ (chain.so_far place prefix ++ found_at chain place prefix))
  said_there place prefix before is =
      let seen : Sight = sight_over place prefix in
      let waits : List Command = so_far terms place.stage seen in
      let none : IsSilent server (found_at chain place prefix) =
      silent_found server (behind place.stage seen) (look terms place.stage seen) (behind_silent server place.stage seen) (looks_silent server terms place.stage seen) in
      let same = sent_join server before (waits ++ found_at chain place prefix)
      ∙ ap (λ l. sent_to server before ++ l) (sent_join server waits (found_at chain place prefix)
      ∙ (ap (λ l. sent_to server waits ++ l) none ∙ append-nil (sent_to server waits))) in
      subst (λ s. IsSentOnce terms.place first least server s) (sym same) (waited_all server terms first least place.stage seen (sent_to server before) is.said)

  -- an event brings nothing of the server
  abbrev IsMute : Event → Type 0
  IsMute event = piece_of (Server server) event ≡ []

  abbrev HoldsHushed : Standing → List (Timed Event) → List Command → Type 0
  HoldsHushed place prefix before = Holds place prefix before × Hushed server prefix

  keeps : Keeps chain IsMute HoldsHushed EndsSo
  keeps = record {
    passes = λ place prefix before is. (said_passed place prefix before (unanswered_over server place prefix is.1) is.0, is.1);
    hears = λ place prefix before event mute is. (said_heard place prefix before event is.0, hushed_more server prefix event is.1 mute);
    turns = λ place prefix before ask answer asked is. (said_turned place prefix before ask answer asked (unanswered_over server place prefix is.1) is.0, is.1);
    stops = λ place prefix before is. said_there place prefix before is.0;
  }

pub mute_events : (server step : ℕ) (moves : List Move) → SaysNothing server moves → AllMay (λ event. piece_of (Server server) event ≡ []) (events_in step moves)
mute_events server step [] none = tt
mute_events server step (Took moment event ∷ moves) none = (none.0, mute_events server (step + 1) moves none.1)
mute_events server step (Replied moment answer ∷ moves) none = mute_events server (step + 1) moves none

-- A conversation, or one flow, that begins with a parked side sends each server of which nothing is heard the text of one request at most.
pub sent_once : (onward : Stage → Stage) → IsOnward onward → (terms : Terms) (at : At) → ParkedBelow at.parked at.dials → (server : ℕ) (moves : List Move) → SaysNothing server moves →
    IsSentOnce terms.place at.parked at.dials server (sent_to server (due_by (http_chain onward terms) (begin (idle at)) moves))
sent_once onward goes terms at below server moves none =
    kept_due (http_chain onward terms) (IsMute onward goes terms at.parked at.dials server) (HoldsHushed onward goes terms at.parked at.dials server)
    (EndsSo onward goes terms at.parked at.dials server) (keeps onward goes terms at.parked at.dials server) (begin (idle at)) moves (mute_events server 1 moves none)
    (record { below = parked_below at.parked at.dials below; since = (omega arith, is_first refl); untold = tt; said = not_yet refl tt }, tt)
