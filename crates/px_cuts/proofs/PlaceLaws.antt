-- How what a place shows goes on: with one event more, where the stage passes, and where a reply leads it.
use Rattle.std.proofs.Common.{◌≡◌, ℕ, ◌<◌, Bool, true, false, List, [], ◌∷◌, ◌++◌, Option, Some, None, refl, ap, sym, ◌∙◌, subst, arith}
use Rattle.std.specs.Prelude.{◌==◌, ◌&&◌, if◌then◌else◌}
use Rattle.std.proofs.lemmas.Bool.{eqb-true}
use Rattle.px_message.specs.declared.flow.Flow.{Flow}
use Rattle.px_message.specs.declared.request.Request.{Request}
use Rattle.px_message.specs.declared.response.Response.{Response}
use Rattle.px_event.specs.declared.command.Command.{Command}
use Rattle.px_event.specs.declared.event.Event.{Event}
use Rattle.px_event.specs.declared.event.Event.TheVariants as events
use Rattle.px_event.specs.declared.reply.Reply.{Reply}
use Rattle.px_event.specs.declared.reply.Reply.TheVariants as reply
use Rattle.px_event.specs.declared.side.Side.{Side}
use Rattle.px_event.specs.declared.side.Side.TheVariants.{Client, Server}
use Rattle.px_event.specs.Chain.{Timed, Turn}
use Rattle.px_read.specs.Items.{Item, missing, part, complete, bad_head, bad_body}
use Rattle.px_read.specs.declared.head.RequestHead.{RequestHead as ReadRequest}
use Rattle.px_read.specs.declared.head.ResponseHead.{ResponseHead as ReadResponse}
use Rattle.px_exchange.specs.declared.asked.Judged.{Judged}
use Rattle.px_exchange.specs.declared.asked.Judged.TheVariants.{Refused, Accepted, Connects}
use Rattle.px_exchange.specs.declared.ending.Used.{Used}
use Rattle.px_exchange.specs.declared.taken.Taken.{Taken}
use Rattle.px_exchange.specs.declared.taken.Taken.TheVariants.{GoesOn, Responds, Kills}
use Rattle.px_exchange.specs.declared.place.Place.{Place}
use Rattle.px_exchange.specs.declared.terms.Terms.{Terms}
use Rattle.px_exchange.specs.Endings.{connection_goes_on}
use Rattle.px_exchange.specs.Flows.{response_of, with_answer, with_body, with_returned}
use Rattle.px_exchange.specs.Places.{is_same_address, server_for}
use Rattle.px_exchange.specs.Replies.{taken_at_request_body, taken_at_request_head, taken_at_response_body, taken_at_response_head}
use Rattle.px_exchange.specs.Requests.{expects, flow_of, judged}
use Rattle.px_chain.specs.Behind.{dials_at, server_behind, shut_behind, sight_behind}
use Rattle.px_chain.specs.Chain.{IsOnward, begin, begin_up, behind_flow, come_down, dial_leads, end_by, end_up, finish_by, given_at, goes_on_by, goes_up_by, going_at, gone, gone_by, gone_up, is_alone, is_sequence, keeps_came, parked_for, pass, pass_came, pass_given, pass_going, pass_kept, past_came, past_kept, sequence, side_if, sight_begun, sight_come, sight_ended, sight_gone, sight_past, stands, turn, turn_answer, turn_answer_head, turn_body, turn_given_head, turn_head, turn_judged, turn_read_whole, turn_response, turn_returned, turn_taken_answer, turn_taken_body, turn_taken_given, turn_taken_head, turn_taken_returned, turn_taken_whole, turn_unspoilt, turn_whole_answer}
use Rattle.px_chain.specs.Keeping.{is_silent, keeps_side, parks, unspoilt, unspoilt_by}
use Rattle.px_chain.specs.Sights.{Sight, Standing, answers_in, client_left, request_in, server_in, server_left, server_parked, server_with, shut_with, sight_over, sight_with}
use Rattle.px_chain.specs.Silent.{ParkedBelow}
use Rattle.px_chain.specs.Stages.{At, Parked, Stage, all_sent, busy, coming_down, connection, given_body, given_head, going_up, idle, next, over, place_of, request_body, response_body, response_head, side_in, side_of, side_parked, Sent, upgraded, Doing}
use Rattle.px_event.specs.Sides.{piece_of}
use Rattle.px_chain.specs.Streams.{client_closed}
use Rattle.px_chain.proofs.SightLaws.{IsSideFrom, is_new, no_side, onward_from, same_server, sight_more, sight_passed, up_uses, within_more, within_passed, within_stood}
use Rattle.px_chain.specs.Going.{allowed_up_by, goes_up, is_sent, sending_on, told_behind, whole_in, with_whole}
use Rattle.px_cuts.specs.Cuts.{DialledBefore, IsDialled, MayBeHeard, MayStand}
use Rattle.px_cuts.specs.Shown.{hears, moment_at, passed_over, retimed_sight, retimed_stage, shown_over, shown_sight}
use Rattle.px_chain.specs.Coming.{Came, allowed_by, came_in, goes_on_behind, streaming, streams_in}
use Rattle.px_cuts.proofs.ShownLaws.{begun_left, begun_shown, ended_left, ended_shown, pass_shown}

-- ---- where conversations go on

-- the moment that a stage shows: at the end none
abbrev pub now_at : Stage → ℕ → ℕ
now_at over moment = 0
now_at stage moment = moment

-- what is left of a sight where the stage passes, and shown there
abbrev pub sight_on : (Stage → Stage) → Terms → Stage → Sight → Sight
sight_on onward terms stage seen = record (sight_past terms stage seen) { now = now_at (onward (pass terms stage seen).stage) seen.now }

pub busy_on : (onward : Stage → Stage) → IsOnward onward → (at : At) (flow : Flow) (doing : Doing) → onward (busy at flow doing) ≡ busy at flow doing
busy_on onward (is_alone is) at flow doing = ap (λ f. f (busy at flow doing)) is
busy_on onward (is_sequence is) at flow doing = ap (λ f. f (busy at flow doing)) is

pub idle_on : (onward : Stage → Stage) → IsOnward onward → (at : At) → onward (idle at) ≡ idle at
idle_on onward (is_alone is) at = ap (λ f. f (idle at)) is
idle_on onward (is_sequence is) at = ap (λ f. f (idle at)) is

pub over_on : (onward : Stage → Stage) → IsOnward onward → onward over ≡ over
over_on onward (is_alone is) = ap (λ f. f over) is
over_on onward (is_sequence is) = ap (λ f. f over) is

-- ---- one event more

module _ (see : ℕ → ℕ) where
  -- the stage seen so uses the same side
  pub side_retimed : (stage : Stage) → side_of (retimed_stage see stage) ≡ side_of stage
  side_retimed (idle at) = refl
  side_retimed (busy at flow doing) = refl
  side_retimed (next at) = refl
  side_retimed over = refl

  -- What is shown with one event more, where the client has not closed.
  pub shown_more : (terms : Terms) (place : Standing) (prefix : List (Timed Event)) (e : Timed Event) → MayStand terms place prefix → client_closed prefix ≡ false →
      shown_over see place (prefix ++ e ∷ []) ≡ sight_with (side_of place.stage) (shown_over see place prefix) e.value (moment_at see place.stage e.moment)
  shown_more terms place prefix e may open_client = ap (λ v. shown_sight see place.stage v) (sight_more place prefix e open_client may.within)

  -- the moment is that of the stage seen so
  moment_retimed : (stage : Stage) (moment : ℕ) → moment_at see (retimed_stage see stage) moment ≡ moment_at see stage moment
  moment_retimed (idle at) moment = refl
  moment_retimed (busy at flow doing) moment = refl
  moment_retimed (next at) moment = refl
  moment_retimed over moment = refl

  moment_same : (stage : Stage) (moment other : ℕ) → see moment ≡ see other → moment_at see stage moment ≡ moment_at see stage other
  moment_same (idle at) moment other same = same
  moment_same (busy at flow doing) moment other same = same
  moment_same (next at) moment other same = same
  moment_same over moment other same = refl

  -- stages that are the same, seen so, show the same moment
  pub moment_alike : (s t : Stage) (moment other : ℕ) → retimed_stage see s ≡ retimed_stage see t → see moment ≡ see other → moment_at see s moment ≡ moment_at see t other
  moment_alike s t moment other stages same =
      moment_same s moment other same ∙ (sym (moment_retimed s other) ∙ (ap (λ x. moment_at see x other) stages ∙ moment_retimed t other))

  -- by the stage seen so
  now_seen : (stage : Stage) (moment : ℕ) → moment_at see stage moment ≡ now_at (retimed_stage see stage) (see moment)
  now_seen (idle at) moment = refl
  now_seen (busy at flow doing) moment = refl
  now_seen (next at) moment = refl
  now_seen over moment = refl

pub may_more : (terms : Terms) (place : Standing) (prefix : List (Timed Event)) (e : Timed Event) → MayStand terms place prefix → MayStand terms place (prefix ++ e ∷ [])
may_more terms place prefix e may = record { within = within_more place prefix e may.within; dialled = may.dialled }

-- ---- where a conversation begins

below_dials : (parked : Option Parked) (dials : ℕ) → ParkedBelow parked dials → DialledBefore (side_parked parked) dials
below_dials None dials below = tt
below_dials (Some parked) dials below = below

pub begins : (terms : Terms) (at : At) → ParkedBelow at.parked at.dials → MayStand terms (begin (idle at)) []
begins terms at below =
    record { within = record { since = omega arith; opened = omega arith; client = omega arith; server = omega arith }; dialled = below_dials at.parked at.dials below }

-- ---- from a stage to another

module _ (terms : Terms) where
  -- The other has dialled as many servers or more, and the side that it has is of one of them.
  pub record Leads (s t : Stage) : Type 0 where
    pub dialled : (server : ℕ) → IsDialled server s → IsDialled server t
    pub before : DialledBefore (side_of s) (place_of s).dials → DialledBefore (side_of t) (place_of t).dials

  stays : (s : Stage) → Leads s s
  stays s = record { dialled = λ server is. is; before = λ is. is }

  leads_over : (s : Stage) → Leads s over
  leads_over s = record { dialled = λ server is. tt; before = λ is. tt }

  leads_both : (s t u : Stage) → Leads s t → Leads t u → Leads s u
  leads_both s t u first second = record {
    dialled = λ server is. second.dialled server (first.dialled server is);
    before = λ is. second.before (first.before is);
  }

  -- ---- where it passes

  given_passes : (at : At) (flow : Flow) (response : Response) (most : Option ℕ) (item : Item ReadRequest) (now : ℕ) →
      Leads (busy at flow (request_body (Some response) most)) (pass_given at flow response most item now)
  given_passes at flow response most missing now = stays (busy at flow (request_body (Some response) most))
  given_passes at flow response most (part head body) now = stays (busy at flow (request_body (Some response) most))
  given_passes at flow response most (complete head body trailers used) now = record { dialled = λ server is. is; before = λ is. is }
  given_passes at flow response most (bad_head fault) now = stays (busy at flow (request_body (Some response) most))
  given_passes at flow response most (bad_body fault head body) now = stays (busy at flow (request_body (Some response) most))

  -- a request goes up to the parked side, or its server is dialled
  up_by_side : (to_it : Bool) (parked : Parked) (at : At) (flow other : Flow) (most : Option ℕ) → at.parked ≡ Some parked →
      Leads (busy at flow (request_body None most)) (goes_up_by (side_if to_it parked.server) terms.place at other)
  up_by_side true parked at flow other most is =
      let P : Option Parked → Type 0 = λ p. DialledBefore (side_parked p) at.dials → parked.server < at.dials in
      record { dialled = λ server there. there; before = subst P (sym is) (λ there. there) }
  up_by_side false parked at flow other most is = record { dialled = λ server is. is; before = λ is. is }

  up_by : (request : Request) (parked : Option Parked) (at : At) (flow other : Flow) (most : Option ℕ) → at.parked ≡ parked →
      Leads (busy at flow (request_body None most)) (goes_up_by (parked_for terms.place request parked) terms.place at other)
  up_by request None at flow other most is = record { dialled = λ server is. is; before = λ is. is }
  up_by request (Some parked) at flow other most is = up_by_side (is_same_address parked.address (server_for terms.place request)) parked at flow other most is

  up_unspoilt : (silent : Bool) (at : At) (flow other : Flow) (most : Option ℕ) →
      Leads (busy at flow (request_body None most)) (goes_up_by (parked_for terms.place flow.request (unspoilt_by silent at.parked)) terms.place at other)
  up_unspoilt true at flow other most = up_by flow.request at.parked at flow other most refl
  up_unspoilt false at flow other most = record { dialled = λ server is. is; before = λ is. is }

  going_passes : (up : Bool) (at : At) (flow : Flow) (most : Option ℕ) (seen : Sight) → Leads (busy at flow (request_body None most)) (pass_going up terms.place at flow most seen)
  going_passes true at flow most seen = up_unspoilt (is_silent seen.server seen.shut) at flow (sending_on flow) most
  going_passes false at flow most seen = stays (busy at flow (request_body None most))

  begin_leads : (stage : Stage) (seen : Sight) → Leads stage (begin_up terms stage seen)
  begin_leads (idle at) seen = stays (idle at)
  begin_leads (busy at flow (request_body None most)) seen = going_passes (goes_up most seen) at flow most seen
  begin_leads (busy at flow (request_body (Some response) most)) seen = given_passes at flow response most (request_in seen) seen.now
  begin_leads (busy at flow (connection how)) seen = stays (busy at flow (connection how))
  begin_leads (busy at flow (response_head side how)) seen = stays (busy at flow (response_head side how))
  begin_leads (busy at flow (response_body side how most)) seen = stays (busy at flow (response_body side how most))
  begin_leads (busy at flow (coming_down side how)) seen = stays (busy at flow (coming_down side how))
  begin_leads (busy at flow (upgraded side)) seen = stays (busy at flow (upgraded side))
  begin_leads (busy at flow given_head) seen = stays (busy at flow given_head)
  begin_leads (busy at flow given_body) seen = stays (busy at flow given_body)
  begin_leads (next at) seen = stays (next at)
  begin_leads over seen = stays over

  gone_leads : (at : At) (flow other : Flow) (doing : Doing) → Leads (busy at flow doing) (busy at other (gone doing))
  gone_leads at flow other (request_body None most) = record { dialled = λ server is. is; before = λ is. is }
  gone_leads at flow other (request_body (Some response) most) = record { dialled = λ server is. is; before = λ is. is }
  gone_leads at flow other (connection how) = record { dialled = λ server is. is; before = λ is. is }
  gone_leads at flow other (response_head side how) = record { dialled = λ server is. is; before = λ is. is }
  gone_leads at flow other (response_body side how most) = record { dialled = λ server is. is; before = λ is. is }
  gone_leads at flow other (coming_down side how) = record { dialled = λ server is. is; before = λ is. is }
  gone_leads at flow other (upgraded side) = record { dialled = λ server is. is; before = λ is. is }
  gone_leads at flow other given_head = record { dialled = λ server is. is; before = λ is. is }
  gone_leads at flow other given_body = record { dialled = λ server is. is; before = λ is. is }

  end_by_leads : (going : Option ℕ) (at : At) (flow : Flow) (doing : Doing) (seen : Sight) → Leads (busy at flow doing) (end_by going terms.place at flow doing seen).stage
  end_by_leads None at flow doing seen = stays (busy at flow doing)
  end_by_leads (Some server) at flow doing seen = gone_leads at flow (with_whole flow seen.now) doing

  end_leads : (stage : Stage) (seen : Sight) → Leads stage (end_up terms stage seen).stage
  end_leads (idle at) seen = stays (idle at)
  end_leads (busy at flow doing) seen = end_by_leads (gone_by (going_at doing) (whole_in seen)) at flow doing seen
  end_leads (next at) seen = stays (next at)
  end_leads over seen = stays over

  -- behind a flow that used a side, which is kept or closed
  own_behind : (stays_on kept : Bool) (at : At) (flow : Flow) (doing : Doing) (request : Request) (side : ℕ) →
      (DialledBefore (side_in at doing) at.dials → side < at.dials) → Leads (busy at flow doing) (behind_flow stays_on (parks kept terms.place at request side))
  own_behind true true at flow doing request side own = record { dialled = λ server is. is; before = own }
  own_behind true false at flow doing request side own = record { dialled = λ server is. is; before = λ is. tt }
  own_behind false kept at flow doing request side own = leads_over (busy at flow doing)

  came_passes : (at : At) (flow : Flow) (side : ℕ) (how : Sent) (seen : Sight) (came : Option Came) →
      Leads (busy at flow (coming_down side how)) (pass_came terms.place at flow side how seen came).stage
  came_passes at flow side how seen None = stays (busy at flow (coming_down side how))
  came_passes at flow side how seen (Some came) =
      own_behind (is_sent how && goes_on_behind at.flow flow.request came) (keeps_came at flow how seen came) at flow (coming_down side how) flow.request side (λ is. is)

  kept_passes : (streams : Bool) (at : At) (flow : Flow) (side : ℕ) (how : Sent) (most : Option ℕ) (seen : Sight) →
      Leads (busy at flow (response_body side how most)) (pass_kept streams terms.place at flow side how most seen).stage
  kept_passes true at flow side how most seen =
      let leads = came_passes at (streaming flow) side how seen (came_in (streaming flow) seen) in
      record { dialled = leads.dialled; before = leads.before }
  kept_passes false at flow side how most seen = stays (busy at flow (response_body side how most))

  come_leads : (stage : Stage) (seen : Sight) → Leads stage (come_down terms stage seen).stage
  come_leads (idle at) seen = stays (idle at)
  come_leads (busy at flow (request_body given most)) seen = stays (busy at flow (request_body given most))
  come_leads (busy at flow (connection how)) seen = stays (busy at flow (connection how))
  come_leads (busy at flow (response_head side how)) seen = stays (busy at flow (response_head side how))
  come_leads (busy at flow (response_body side how most)) seen = kept_passes (streams_in flow most seen) at flow side how most seen
  come_leads (busy at flow (coming_down side how)) seen = came_passes at flow side how seen (came_in flow seen)
  come_leads (busy at flow (upgraded side)) seen = stays (busy at flow (upgraded side))
  come_leads (busy at flow given_head) seen = stays (busy at flow given_head)
  come_leads (busy at flow given_body) seen = stays (busy at flow given_body)
  come_leads (next at) seen = stays (next at)
  come_leads over seen = stays over

  passes_leads : (stage : Stage) (seen : Sight) → Leads stage (pass terms stage seen).stage
  passes_leads stage seen =
      let first : Stage = begin_up terms stage seen in
      let there : Stage = gone_up terms stage seen in
      leads_both stage first (pass terms stage seen).stage (begin_leads stage seen)
      (leads_both first there (pass terms stage seen).stage (end_leads first (sight_begun stage seen)) (come_leads there (sight_gone terms stage seen)))

  -- ---- each turn

  head_taken : (at : At) (flow : Flow) (expected : Bool) (most : Option ℕ) (taken : Taken Request) (moment : ℕ) (seen : Sight) →
      Leads (idle at) (turn_taken_head at flow expected most taken moment seen).stage
  head_taken at flow expected most (GoesOn request) moment seen =
      record { dialled = λ server is. is; before = λ is. is }
  head_taken at flow expected most (Responds response) moment seen = record { dialled = λ server is. is; before = λ is. is }
  head_taken at flow expected most Kills moment seen = leads_over (idle at)

  head_judged : (at : At) (head : ReadRequest) (j : Judged) (seen : Sight) (answer : Timed Reply) → Leads (idle at) (turn_judged terms at head j seen answer).stage
  head_judged at head (Refused fault) seen answer = leads_over (idle at)
  head_judged at head (Connects address) seen answer = leads_over (idle at)
  head_judged at head (Accepted request) seen answer =
      head_taken at (flow_of terms at.flow request seen.now) (expects head) (allowed_up_by terms.streams answer.value) (taken_at_request_head request answer.value) answer.moment seen

  head_turned : (at : At) (item : Item ReadRequest) (seen : Sight) (answer : Timed Reply) → Leads (idle at) (turn_head terms at item seen answer).stage
  head_turned at missing seen answer = leads_over (idle at)
  head_turned at (part head body) seen answer = head_judged at head (judged terms.place head) seen answer
  head_turned at (complete head body trailers used) seen answer = head_judged at head (judged terms.place head) seen answer
  head_turned at (bad_head fault) seen answer = leads_over (idle at)
  head_turned at (bad_body fault head body) seen answer = head_judged at head (judged terms.place head) seen answer

  -- a request that goes on: to the parked side, or its server is dialled
  module _ (place : Place) (at : At) (flow : Flow) (given : Option Response) (most : Option ℕ) where
    abbrev from_request : Stage
    from_request = busy at flow (request_body given most)

    goes_on_by_side : (to_it : Bool) (parked : Parked) (other : Flow) → at.parked ≡ Some parked →
        Leads from_request (goes_on_by (side_if to_it parked.server) place at other).stage
    goes_on_by_side true parked other is =
        let P : Option Parked → Type 0 = λ p. DialledBefore (side_parked p) at.dials → parked.server < at.dials in
        record { dialled = λ server there. there; before = subst P (sym is) (λ there. there) }
    goes_on_by_side false parked other is = record { dialled = λ server is. is; before = λ is. is }

    goes_on : (request : Request) (parked : Option Parked) (other : Flow) → at.parked ≡ parked →
        Leads from_request (goes_on_by (parked_for place request parked) place at other).stage
    goes_on request None other is = record { dialled = λ server is. is; before = λ is. is }
    goes_on request (Some parked) other is = goes_on_by_side (is_same_address parked.address (server_for place request)) parked other is

    body_taken : (other : Flow) (taken : Taken Request) (moment : ℕ) (seen : Sight) →
        Leads from_request (turn_taken_body place at other taken moment seen).stage
    body_taken other (GoesOn request) moment seen = goes_on request at.parked (record other { request = request }) refl
    body_taken other (Responds response) moment seen = record { dialled = λ server is. is; before = λ is. is }
    body_taken other Kills moment seen = leads_over from_request

    body_turned : (item : Item ReadRequest) (seen : Sight) (answer : Timed Reply) → Leads from_request (turn_body place at flow item seen answer).stage
    body_turned missing seen answer = leads_over from_request
    body_turned (part head body) seen answer = leads_over from_request
    body_turned (complete head body trailers used) seen answer =
        let whole : Flow = with_body flow body.content trailers seen.now in
        body_taken whole (taken_at_request_body whole.request answer.value) answer.moment seen
    body_turned (bad_head fault) seen answer = leads_over from_request
    body_turned (bad_body fault head body) seen answer = leads_over from_request

  -- the server's side is new
  dial_turned : (to : Place) (at : At) (flow : Flow) (how : Sent) (value : Reply) → Leads (busy at flow (connection how)) (dial_leads to at flow how value)
  dial_turned to at flow how reply.Dialled = record { dialled = λ server is. omega arith; before = λ is. omega arith }
  dial_turned to at flow how (reply.Refused fault) = leads_over (busy at flow (connection how))
  dial_turned to at flow how (reply.Go given stream) = leads_over (busy at flow (connection how))
  dial_turned to at flow how (reply.Respond response) = leads_over (busy at flow (connection how))
  dial_turned to at flow how reply.Kill = leads_over (busy at flow (connection how))
  dial_turned to at flow how reply.Discard = leads_over (busy at flow (connection how))

  -- where the flow leads that stands here, from a stage whose side is the parked one or is left
  module _ (at : At) (s : Stage) (dials : (server : ℕ) → IsDialled server s → server < at.dials)
      (side : DialledBefore (side_of s) (place_of s).dials → DialledBefore (side_parked at.parked) at.dials) where
    flow_finished : (stays_on : Bool) → Leads s (behind_flow stays_on at)
    flow_finished true = record { dialled = dials; before = side }
    flow_finished false = leads_over s

    returned_taken : (other : Flow) (taken : Taken Response) (moment : ℕ) (parked : Used) (closed : Bool) → Leads s (turn_taken_returned at other taken moment parked closed).stage
    returned_taken other (GoesOn response) moment parked closed = flow_finished (connection_goes_on at.flow other.request response)
    returned_taken other (Responds response) moment parked closed = leads_over s
    returned_taken other Kills moment parked closed = leads_over s

    given_taken : (other : Flow) (taken : Taken Response) (moment : ℕ) (parked : Used) (closed : Bool) → Leads s (turn_taken_given at other taken moment parked closed).stage
    given_taken other (GoesOn response) moment parked closed = record { dialled = dials; before = side }
    given_taken other (Responds response) moment parked closed = leads_over s
    given_taken other Kills moment parked closed = leads_over s

  response_turned : (s : Stage) (there : Option Response) (takes : Response → Taken Response) (goes : Taken Response → Turn Stage Command) →
      ((taken : Taken Response) → Leads s (goes taken).stage) → Leads s (turn_response there takes goes).stage
  response_turned s None takes goes each = leads_over s
  response_turned s (Some response) takes goes each = each (takes response)

  whole_turned : (at : At) (flow other : Flow) (answer : Timed Reply) (parked : Used) (closed : Bool) →
      Leads (busy at flow given_body) (turn_whole_answer at other answer parked closed).stage
  whole_turned at flow other answer parked closed =
      response_turned (busy at flow given_body) other.response (λ response. taken_at_response_body response answer.value)
      (λ taken. turn_taken_returned at other taken answer.moment parked closed)
      (λ taken. returned_taken at (busy at flow given_body) (λ server is. is) (λ is. is) other taken answer.moment parked closed)

  given_turned : (at : At) (flow other : Flow) (answer : Timed Reply) (parked : Used) (closed : Bool) →
      Leads (busy at flow given_head) (turn_given_head at other answer parked closed).stage
  given_turned at flow other answer parked closed =
      response_turned (busy at flow given_head) other.response (λ response. taken_at_response_head response answer.value)
      (λ taken. turn_taken_given at other taken answer.moment parked closed)
      (λ taken. given_taken at (busy at flow given_head) (λ server is. is) (λ is. is) other taken answer.moment parked closed)

  -- the server's side stays
  module _ (at : At) (flow : Flow) (side : ℕ) (how : Sent) where
    abbrev from_head : Stage
    from_head = busy at flow (response_head side how)

    answer_taken : (other : Flow) (most : Option ℕ) (taken : Taken Response) (moment : ℕ) (used : Used) (closed : Bool) →
        Leads from_head (turn_taken_answer at other side how most taken moment used closed).stage
    answer_taken other most (GoesOn response) moment used closed = record { dialled = λ server is. is; before = λ is. is }
    answer_taken other most (Responds response) moment used closed = leads_over from_head
    answer_taken other most Kills moment used closed = leads_over from_head

    answer_head_turned : (head : ReadResponse) (seen : Sight) (answer : Timed Reply) → Leads from_head (turn_answer_head terms at flow side how head seen answer).stage
    answer_head_turned head seen answer =
        answer_taken (with_answer flow (response_of head) seen.now) (allowed_by terms.streams answer.value) (taken_at_response_head (response_of head) answer.value) answer.moment (server_in side seen) seen.closed

    answer_turned : (item : Item ReadResponse) (seen : Sight) (answer : Timed Reply) → Leads from_head (turn_answer terms at flow side how item seen answer).stage
    answer_turned missing seen answer = leads_over from_head
    answer_turned (part head body) seen answer = answer_head_turned head seen answer
    answer_turned (complete head body trailers size) seen answer = answer_head_turned head seen answer
    answer_turned (bad_head fault) seen answer = leads_over from_head
    answer_turned (bad_body fault head body) seen answer = answer_head_turned head seen answer

  module _ (at : At) (flow : Flow) (side : ℕ) (how : Sent) (most : Option ℕ) where
    abbrev from_body : Stage
    from_body = busy at flow (response_body side how most)

    -- also where it switches protocols
    finish_turned : (switches : Bool) (other : Flow) (response : Response) (keeps : Bool) (used : Used) (closed : Bool) →
        Leads from_body (finish_by switches terms.place at other how response keeps side used closed).stage
    finish_turned true other response keeps used closed = record { dialled = λ server is. is; before = λ is. is }
    finish_turned false other response keeps used closed =
        let goes_on : Bool = is_sent how && connection_goes_on at.flow other.request response in
        own_behind goes_on (goes_on && keeps) at flow (response_body side how most) other.request side (λ is. is)

    taken_whole_turned : (other : Flow) (keeps : Bool) (taken : Taken Response) (moment : ℕ) (used : Used) (closed : Bool) →
        Leads from_body (turn_taken_whole terms.place at other side how keeps taken moment used closed).stage
    taken_whole_turned other keeps (GoesOn response) moment used closed = finish_turned (is_sent how && response.status == 101) other response keeps used closed
    taken_whole_turned other keeps (Responds response) moment used closed = leads_over from_body
    taken_whole_turned other keeps Kills moment used closed = leads_over from_body

    read_whole_turned : (other : Flow) (keeps : Bool) (answer : Timed Reply) (used : Used) (closed : Bool) →
        Leads from_body (turn_read_whole terms.place at other side how keeps answer used closed).stage
    read_whole_turned other keeps answer used closed =
        response_turned from_body other.response (λ response. taken_at_response_body response answer.value)
        (λ taken. turn_taken_whole terms.place at other side how keeps taken answer.moment used closed)
        (λ taken. taken_whole_turned other keeps taken answer.moment used closed)

    returned_turned : (item : Item ReadResponse) (seen : Sight) (answer : Timed Reply) → Leads from_body (turn_returned terms.place at flow side how item seen answer).stage
    returned_turned missing seen answer = leads_over from_body
    returned_turned (part head body) seen answer = leads_over from_body
    returned_turned (complete head body trailers size) seen answer =
        read_whole_turned (with_returned flow body.content trailers seen.now) (keeps_side flow.request seen head) answer (server_in side seen) seen.closed
    returned_turned (bad_head fault) seen answer = leads_over from_body
    returned_turned (bad_body fault head body) seen answer = leads_over from_body

  -- where a side's keeping has ended
  parked_before : (silent : Bool) (parked : Option Parked) (dials : ℕ) → DialledBefore (side_parked parked) dials → DialledBefore (side_parked (unspoilt_by silent parked)) dials
  parked_before true parked dials is = is
  parked_before false parked dials is = tt

  unspoilt_leads : (stage : Stage) (seen : Sight) → Leads stage (unspoilt stage seen)
  unspoilt_leads (idle at) seen = record { dialled = λ server is. is; before = parked_before (is_silent seen.server seen.shut) at.parked at.dials }
  unspoilt_leads (busy at flow (request_body given most)) seen = record { dialled = λ server is. is; before = parked_before (is_silent seen.server seen.shut) at.parked at.dials }
  unspoilt_leads (busy at flow (connection how)) seen = record { dialled = λ server is. is; before = parked_before (is_silent seen.server seen.shut) at.parked at.dials }
  unspoilt_leads (busy at flow (response_head side how)) seen = record { dialled = λ server is. is; before = λ is. is }
  unspoilt_leads (busy at flow (response_body side how most)) seen = record { dialled = λ server is. is; before = λ is. is }
  unspoilt_leads (busy at flow (coming_down side how)) seen = record { dialled = λ server is. is; before = λ is. is }
  unspoilt_leads (busy at flow (upgraded side)) seen = record { dialled = λ server is. is; before = λ is. is }
  unspoilt_leads (busy at flow given_head) seen = record { dialled = λ server is. is; before = parked_before (is_silent seen.server seen.shut) at.parked at.dials }
  unspoilt_leads (busy at flow given_body) seen = record { dialled = λ server is. is; before = parked_before (is_silent seen.server seen.shut) at.parked at.dials }
  unspoilt_leads (next at) seen = record { dialled = λ server is. is; before = parked_before (is_silent seen.server seen.shut) at.parked at.dials }
  unspoilt_leads over seen = stays over

  unspoilt_turned : (stage : Stage) (seen : Sight) (answer : Timed Reply) → Leads stage (turn_unspoilt terms stage seen answer).stage
  unspoilt_turned (idle at) seen answer = head_turned at (request_in seen) seen answer
  unspoilt_turned (busy at flow (request_body given most)) seen answer = body_turned terms.place at flow given most (request_in seen) seen answer
  unspoilt_turned (busy at flow (connection how)) seen answer = dial_turned terms.place at flow how answer.value
  unspoilt_turned (busy at flow (response_head side how)) seen answer = answer_turned at flow side how (answers_in flow.request seen).final seen answer
  unspoilt_turned (busy at flow (response_body side how most)) seen answer =
      returned_turned at flow side how most (answers_in flow.request seen).final seen answer
  unspoilt_turned (busy at flow (coming_down side how)) seen answer = leads_over (busy at flow (coming_down side how))
  unspoilt_turned (busy at flow (upgraded side)) seen answer = leads_over (busy at flow (upgraded side))
  unspoilt_turned (busy at flow given_head) seen answer = given_turned at flow (given_at flow seen.now) answer (server_parked at.parked seen) seen.closed
  unspoilt_turned (busy at flow given_body) seen answer = whole_turned at flow flow answer (server_parked at.parked seen) seen.closed
  unspoilt_turned (next at) seen answer = stays (next at)
  unspoilt_turned over seen answer = stays over

  -- Where a reply leads, whatever was asked.
  turned_leads : (stage : Stage) (seen : Sight) (answer : Timed Reply) → Leads stage (turn terms stage seen answer).stage
  turned_leads stage seen answer =
      leads_both stage (unspoilt stage seen) (turn terms stage seen answer).stage (unspoilt_leads stage seen) (unspoilt_turned (unspoilt stage seen) seen answer)

  leads_sequence : (s t : Stage) → Leads s t → Leads s (sequence t)
  leads_sequence s (idle at) leads = leads
  leads_sequence s (busy at flow doing) leads = leads
  leads_sequence s (next at) leads = record { dialled = leads.dialled; before = leads.before }
  leads_sequence s over leads = leads

  leads_on : (onward : Stage → Stage) → IsOnward onward → (s t : Stage) → Leads s t → Leads s (onward t)
  leads_on onward (is_alone is) s t leads = let P : (Stage → Stage) → Type 0 = λ g. Leads s (g t) in subst P (sym is) leads
  leads_on onward (is_sequence is) s t leads = let P : (Stage → Stage) → Type 0 = λ g. Leads s (g t) in subst P (sym is) (leads_sequence s t leads)

  -- and on to the next flow
  pub onward_leads : (onward : Stage → Stage) → IsOnward onward → (stage : Stage) (seen : Sight) (answer : Timed Reply) →
      Leads stage (onward (turn terms stage seen answer).stage)
  onward_leads onward goes stage seen answer = leads_on onward goes stage (turn terms stage seen answer).stage (turned_leads stage seen answer)

  -- so where it passes
  pub passed_leads : (onward : Stage → Stage) → IsOnward onward → (stage : Stage) (seen : Sight) → Leads stage (onward (pass terms stage seen).stage)
  passed_leads onward goes stage seen = leads_on onward goes stage (pass terms stage seen).stage (passes_leads stage seen)

  -- ---- a place may stand where it leads

  pub may_passed : (onward : Stage → Stage) → IsOnward onward → (place : Standing) (prefix : List (Timed Event)) → MayStand terms place prefix →
      MayStand terms (passed_over onward terms place prefix) prefix
  may_passed onward goes place prefix may =
      let leads = passed_leads onward goes place.stage (sight_over place prefix) in
      record {
        within = within_passed onward goes terms place prefix may.within;
        dialled = leads.before may.dialled;
      }

  pub may_turned : (onward : Stage → Stage) → IsOnward onward → (place : Standing) (prefix : List (Timed Event)) (answer : Timed Reply) → MayStand terms place prefix →
      MayStand terms (stands terms place answer.moment prefix (onward (turn terms place.stage (sight_over place prefix) answer).stage)) prefix
  may_turned onward goes place prefix answer may =
      let seen : Sight = sight_over place prefix in
      let there : Stage = onward (turn terms place.stage seen answer).stage in
      let leads = onward_leads onward goes place.stage seen answer in
      record {
        within = within_stood terms place answer.moment prefix there (onward_from onward goes terms place.stage seen answer) may.within;
        dialled = leads.before may.dialled;
      }

-- ---- a piece that waits is heard behind a reply as before it

-- a piece of a server that was dialled is none of one that comes later
later_piece : (server other : ℕ) (bytes : List ℕ) (b : Bool) → server < other → (server == other) ≡ b → (if b then bytes else []) ≡ []
later_piece server other bytes true less is = absurd (let same = eqb-true server other is in omega arith)
later_piece server other bytes false less is = refl

-- so a piece that may be heard already is none of the new server
new_piece : (side : Side) (bytes : List ℕ) (at : At) (flow : Flow) (how : Sent) → MayBeHeard side (busy at flow (connection how)) → piece_of (Server at.dials) (events.Piece side bytes) ≡ []
new_piece Client bytes at flow how may = refl
new_piece (Server server) bytes at flow how may = later_piece server at.dials bytes (server == at.dials) may refl

-- What is seen of the server's side, heard before the reply or behind it.
record HeardBehind (dialled : Bool) (before later : Option ℕ) (shut : Bool) (server : List ℕ) (event : Event) : Type 0 where
  bytes : server_with later (shut_behind dialled later shut) (server_behind dialled later server) event ≡ server_behind dialled later (server_with before shut server event)
  close : shut_with later (shut_behind dialled later shut) event ≡ shut_behind dialled later (shut_with before shut event)

behind_none : (dialled : Bool) (before : Option ℕ) (shut : Bool) (server : List ℕ) (event : Event) → HeardBehind dialled before None shut server event
behind_none true before shut server event = record { bytes = refl; close = refl }
behind_none false before shut server event = record { bytes = refl; close = refl }

behind_new : (at : At) (flow : Flow) (how : Sent) (before : Option ℕ) (shut : Bool) (server : List ℕ) (side : Side) (bytes : List ℕ) → MayBeHeard side (busy at flow (connection how)) →
    HeardBehind true before (Some at.dials) shut server (events.Piece side bytes)
behind_new at flow how before shut server side bytes may = record { bytes = new_piece side bytes at flow how may; close = refl }

behind_same : (side : Option ℕ) (shut : Bool) (server : List ℕ) (event : Event) → HeardBehind false side side shut server event
behind_same None shut server event = behind_none false None shut server event
behind_same (Some side) shut server event = record { bytes = refl; close = refl }

heard_behind : (from : Stage) (later : Option ℕ) (shut : Bool) (server : List ℕ) (side : Side) (bytes : List ℕ) → IsSideFrom from later → MayBeHeard side from →
    HeardBehind (dials_at from) (side_of from) later shut server (events.Piece side bytes)
heard_behind from later shut server side bytes (no_side is) may = rw is (behind_none (dials_at from) (side_of from) shut server (events.Piece side bytes))
heard_behind from later shut server side bytes (is_new at flow how is new) may =
    let P : Stage → Type 0 = λ s. MayBeHeard side s → HeardBehind (dials_at s) (side_of s) later shut server (events.Piece side bytes) in
    subst P (sym is) (λ heard. rw new (behind_new at flow how (side_parked at.parked) shut server side bytes heard)) may
heard_behind from later shut server side bytes (same_server none is) may = rw (none, is) (behind_same (side_of from) shut server (events.Piece side bytes))

abbrev pub make : List ℕ → Bool → List ℕ → Bool → ℕ → ℕ → Sight
make client closed server shut told now = record { client = client; closed = closed; server = server; shut = shut; told = told; now = now }

pub make_eq : (client client' : List ℕ) (closed closed' : Bool) (server server' : List ℕ) (shut shut' : Bool) (told told' now now' : ℕ) →
    client ≡ client' → closed ≡ closed' → server ≡ server' → shut ≡ shut' → told ≡ told' → now ≡ now' →
    make client closed server shut told now ≡ make client' closed' server' shut' told' now'
make_eq client client' closed closed' server server' shut shut' told told' now now' a b c d f e = rw (a, b, c, d, f, e) refl

-- What a stage leaves is left with one event more behind it.
pub record LeavesMore (place : Place) (stage : Stage) (seen : Sight) (event : Event) : Type 0 where
  pub client : client_left stage (hears (side_of stage) seen event) ≡ client_left stage seen ++ piece_of Client event
  pub server : server_left stage (hears (side_of stage) seen event) ≡ server_with (side_of stage) seen.shut (server_left stage seen) event
  pub told : told_behind place stage (hears (side_of stage) seen event) ≡ told_behind place stage seen

-- What is seen behind a reply is the same, heard before it or behind it.
pub hears_behind : (place : Place) (from to : Stage) (seen : Sight) (side : Side) (bytes : List ℕ) (now : ℕ) → IsSideFrom from (side_of to) → MayBeHeard side from →
    LeavesMore place from seen (events.Piece side bytes) →
    hears (side_of to) (sight_behind place from seen now to) (events.Piece side bytes) ≡ sight_behind place from (hears (side_of from) seen (events.Piece side bytes)) now to
hears_behind place from to seen side bytes now how may leaves =
    let heard = heard_behind from (side_of to) seen.shut (server_left from seen) side bytes how may in
    make_eq _ _ _ _ _ _ _ _ _ _ now now (sym leaves.client) refl
    (heard.bytes ∙ ap (λ l. server_behind (dials_at from) (side_of to) l) (sym leaves.server)) heard.close (sym leaves.told) refl

-- ---- and so it is, the stages seen so

-- the sight behind a reply, by whether a dial was answered, by the side that is used there and by what is left
abbrev seen_behind : Bool → Option ℕ → List ℕ → List ℕ → Sight → ℕ → ℕ → Sight
seen_behind dialled side client server seen told now = make client seen.closed (server_behind dialled side server) (shut_behind dialled side seen.shut) told now

-- what is left hangs on no moment
client_late : (stage : Stage) (seen : Sight) (late : ℕ) → client_left stage (record seen { now = late }) ≡ client_left stage seen
client_late (idle at) seen late = refl
client_late (busy at flow (request_body given most)) seen late = refl
client_late (busy at flow (connection how)) seen late = refl
client_late (busy at flow (response_head side how)) seen late = refl
client_late (busy at flow (response_body side how most)) seen late = refl
client_late (busy at flow (coming_down side how)) seen late = refl
client_late (busy at flow (upgraded side)) seen late = refl
client_late (busy at flow given_head) seen late = refl
client_late (busy at flow given_body) seen late = refl
client_late (next at) seen late = refl
client_late over seen late = refl

server_late : (stage : Stage) (seen : Sight) (late : ℕ) → server_left stage (record seen { now = late }) ≡ server_left stage seen
server_late (idle at) seen late = refl
server_late (busy at flow (request_body given most)) seen late = refl
server_late (busy at flow (connection how)) seen late = refl
server_late (busy at flow (response_head side how)) seen late = refl
server_late (busy at flow (response_body side how most)) seen late = refl
server_late (busy at flow (coming_down side how)) seen late = refl
server_late (busy at flow (upgraded side)) seen late = refl
server_late (busy at flow given_head) seen late = refl
server_late (busy at flow given_body) seen late = refl
server_late (next at) seen late = refl
server_late over seen late = refl

-- nor does how much of a request that goes up was told
told_late : (place : Place) (stage : Stage) (seen : Sight) (late : ℕ) → told_behind place stage (record seen { now = late }) ≡ told_behind place stage seen
told_late place (idle at) seen late = refl
told_late place (busy at flow (request_body given most)) seen late = refl
told_late place (busy at flow (connection how)) seen late = refl
told_late place (busy at flow (response_head side all_sent)) seen late = refl
told_late place (busy at flow (response_head side going_up)) seen late = refl
told_late place (busy at flow (response_body side all_sent most)) seen late = refl
told_late place (busy at flow (response_body side going_up most)) seen late = refl
told_late place (busy at flow (coming_down side all_sent)) seen late = refl
told_late place (busy at flow (coming_down side going_up)) seen late = refl
told_late place (busy at flow (upgraded side)) seen late = refl
told_late place (busy at flow given_head) seen late = refl
told_late place (busy at flow given_body) seen late = refl
told_late place (next at) seen late = refl
told_late place over seen late = refl

-- nor does what is seen behind a reply
pub behind_late : (place : Place) (from to : Stage) (seen : Sight) (late moment : ℕ) → sight_behind place from (record seen { now = late }) moment to ≡ sight_behind place from seen moment to
behind_late place from to seen late moment =
    let there : Sight = record seen { now = late } in
    ap (λ l. seen_behind (dials_at from) (side_of to) l (server_left from there) seen (told_behind place from there) moment) (client_late from seen late)
    ∙ (ap (λ l. seen_behind (dials_at from) (side_of to) (client_left from seen) l seen (told_behind place from there) moment) (server_late from seen late)
    ∙ ap (λ n. seen_behind (dials_at from) (side_of to) (client_left from seen) (server_left from seen) seen n moment) (told_late place from seen late))

module _ (see : ℕ → ℕ) where
  dials_retimed : (stage : Stage) → dials_at (retimed_stage see stage) ≡ dials_at stage
  dials_retimed (idle at) = refl
  dials_retimed (busy at flow doing) = refl
  dials_retimed (next at) = refl
  dials_retimed over = refl

  client_retimed : (stage : Stage) (seen : Sight) → client_left (retimed_stage see stage) seen ≡ client_left stage seen
  client_retimed (idle at) seen = refl
  client_retimed (busy at flow (request_body given most)) seen = refl
  client_retimed (busy at flow (connection how)) seen = refl
  client_retimed (busy at flow (response_head side how)) seen = refl
  client_retimed (busy at flow (response_body side how most)) seen = refl
  client_retimed (busy at flow (coming_down side how)) seen = refl
  client_retimed (busy at flow (upgraded side)) seen = refl
  client_retimed (busy at flow given_head) seen = refl
  client_retimed (busy at flow given_body) seen = refl
  client_retimed (next at) seen = refl
  client_retimed over seen = refl

  server_retimed : (stage : Stage) (seen : Sight) → server_left (retimed_stage see stage) seen ≡ server_left stage seen
  server_retimed (idle at) seen = refl
  server_retimed (busy at flow (request_body given most)) seen = refl
  server_retimed (busy at flow (connection how)) seen = refl
  server_retimed (busy at flow (response_head side how)) seen = refl
  server_retimed (busy at flow (response_body side how most)) seen = refl
  server_retimed (busy at flow (coming_down side how)) seen = refl
  server_retimed (busy at flow (upgraded side)) seen = refl
  server_retimed (busy at flow given_head) seen = refl
  server_retimed (busy at flow given_body) seen = refl
  server_retimed (next at) seen = refl
  server_retimed over seen = refl

  told_retimed : (place : Place) (stage : Stage) (seen : Sight) → told_behind place (retimed_stage see stage) seen ≡ told_behind place stage seen
  told_retimed place (idle at) seen = refl
  told_retimed place (busy at flow (request_body given most)) seen = refl
  told_retimed place (busy at flow (connection how)) seen = refl
  told_retimed place (busy at flow (response_head side all_sent)) seen = refl
  told_retimed place (busy at flow (response_head side going_up)) seen = refl
  told_retimed place (busy at flow (response_body side all_sent most)) seen = refl
  told_retimed place (busy at flow (response_body side going_up most)) seen = refl
  told_retimed place (busy at flow (coming_down side all_sent)) seen = refl
  told_retimed place (busy at flow (coming_down side going_up)) seen = refl
  told_retimed place (busy at flow (upgraded side)) seen = refl
  told_retimed place (busy at flow given_head) seen = refl
  told_retimed place (busy at flow given_body) seen = refl
  told_retimed place (next at) seen = refl
  told_retimed place over seen = refl

  pub behind_retimed : (place : Place) (from to : Stage) (seen : Sight) (now : ℕ) → sight_behind place (retimed_stage see from) seen now (retimed_stage see to) ≡ sight_behind place from seen now to
  behind_retimed place from to seen now =
      let client = client_left (retimed_stage see from) seen in
      let server = server_left (retimed_stage see from) seen in
      let told = told_behind place (retimed_stage see from) seen in
      ap (λ dialled. seen_behind dialled (side_of (retimed_stage see to)) client server seen told now) (dials_retimed from)
      ∙ (ap (λ side. seen_behind (dials_at from) side client server seen told now) (side_retimed see to)
      ∙ (ap (λ l. seen_behind (dials_at from) (side_of to) l server seen told now) (client_retimed from seen)
      ∙ (ap (λ l. seen_behind (dials_at from) (side_of to) (client_left from seen) l seen told now) (server_retimed from seen)
      ∙ ap (λ n. seen_behind (dials_at from) (side_of to) (client_left from seen) (server_left from seen) seen n now) (told_retimed place from seen))))

  -- ---- and where it passes

  -- what passes leaves the moment
  came_now : (came : Option Came) (seen : Sight) → (past_came came seen).now ≡ seen.now
  came_now None seen = refl
  came_now (Some came) seen = refl

  kept_now : (streams : Bool) (came : Option Came) (seen : Sight) → (past_kept streams came seen).now ≡ seen.now
  kept_now true came seen = came_now came seen
  kept_now false came seen = refl

  come_now : (stage : Stage) (seen : Sight) → (sight_come stage seen).now ≡ seen.now
  come_now (idle at) seen = refl
  come_now (busy at flow (request_body given most)) seen = refl
  come_now (busy at flow (connection how)) seen = refl
  come_now (busy at flow (response_head side how)) seen = refl
  come_now (busy at flow (response_body side how most)) seen = kept_now (streams_in flow most seen) (came_in (streaming flow) seen) seen
  come_now (busy at flow (coming_down side how)) seen = came_now (came_in flow seen) seen
  come_now (busy at flow (upgraded side)) seen = refl
  come_now (busy at flow given_head) seen = refl
  come_now (busy at flow given_body) seen = refl
  come_now (next at) seen = refl
  come_now over seen = refl

  past_now : (terms : Terms) (stage : Stage) (seen : Sight) → (sight_past terms stage seen).now ≡ seen.now
  past_now terms stage seen = come_now (gone_up terms stage seen) (sight_gone terms stage seen) ∙ (up_uses terms stage seen).now

  -- and hangs on none
  abbrev at_moment : Sight → ℕ → Sight
  at_moment seen now = record seen { now = now }

  came_left : (came : Option Came) (seen : Sight) → retimed_sight see (past_came came seen) ≡ past_came came (retimed_sight see seen)
  came_left None seen = refl
  came_left (Some came) seen = refl

  kept_left : (streams : Bool) (came : Option Came) (seen : Sight) → retimed_sight see (past_kept streams came seen) ≡ past_kept streams came (retimed_sight see seen)
  kept_left true came seen = came_left came seen
  kept_left false came seen = refl

  come_left : (stage : Stage) (seen : Sight) → retimed_sight see (sight_come stage seen) ≡ sight_come (retimed_stage see stage) (retimed_sight see seen)
  come_left (idle at) seen = refl
  come_left (busy at flow (request_body given most)) seen = refl
  come_left (busy at flow (connection how)) seen = refl
  come_left (busy at flow (response_head side how)) seen = refl
  come_left (busy at flow (response_body side how most)) seen = kept_left (streams_in flow most seen) (came_in (streaming flow) seen) seen
  come_left (busy at flow (coming_down side how)) seen = came_left (came_in flow seen) seen
  come_left (busy at flow (upgraded side)) seen = refl
  come_left (busy at flow given_head) seen = refl
  come_left (busy at flow given_body) seen = refl
  come_left (next at) seen = refl
  come_left over seen = refl

  -- what is left behind where a request began to go up
  abbrev left_begun : Terms → Stage → Sight → Sight
  left_begun terms to seen = sight_come (end_up terms to seen).stage (sight_ended to seen)

  left_begun_seen : (terms : Terms) (stage : Stage) (seen : Sight) → retimed_sight see (left_begun terms stage seen) ≡ left_begun terms (retimed_stage see stage) (retimed_sight see seen)
  left_begun_seen terms stage seen =
      come_left (end_up terms stage seen).stage (sight_ended stage seen)
      ∙ (ap (λ turned. sight_come turned.stage (retimed_sight see (sight_ended stage seen))) (ended_shown see terms stage seen)
      ∙ ap (λ v. sight_come (end_up terms (retimed_stage see stage) (retimed_sight see seen)).stage v) (ended_left see stage seen))

  past_shown : (terms : Terms) (stage : Stage) (seen : Sight) → retimed_sight see (sight_past terms stage seen) ≡ sight_past terms (retimed_stage see stage) (retimed_sight see seen)
  past_shown terms stage seen =
      left_begun_seen terms (begin_up terms stage seen) (sight_begun stage seen)
      ∙ (ap (λ to. left_begun terms to (retimed_sight see (sight_begun stage seen))) (begun_shown see terms stage seen)
      ∙ ap (λ v. left_begun terms (begin_up terms (retimed_stage see stage) (retimed_sight see seen)) v) (begun_left see stage seen))

  past_retimed : (terms : Terms) (stage : Stage) (seen : Sight) (now : ℕ) →
      at_moment (sight_past terms stage seen) now ≡ at_moment (sight_past terms (retimed_stage see stage) (shown_sight see stage seen)) now
  past_retimed terms (idle at) seen now = refl
  past_retimed terms (busy at flow doing) seen now = ap (λ v. at_moment v now) (past_shown terms (busy at flow doing) seen)
  past_retimed terms (next at) seen now = refl
  past_retimed terms over seen now = refl

  retimed_sequence : (s : Stage) → retimed_stage see (sequence s) ≡ sequence (retimed_stage see s)
  retimed_sequence (idle at) = refl
  retimed_sequence (busy at flow doing) = refl
  retimed_sequence (next at) = refl
  retimed_sequence over = refl

  pub retimed_on : (onward : Stage → Stage) → IsOnward onward → (s : Stage) → retimed_stage see (onward s) ≡ onward (retimed_stage see s)
  retimed_on onward (is_alone is) s = let P : (Stage → Stage) → Type 0 = λ g. retimed_stage see (g s) ≡ g (retimed_stage see s) in subst P (sym is) refl
  retimed_on onward (is_sequence is) s = let P : (Stage → Stage) → Type 0 = λ g. retimed_stage see (g s) ≡ g (retimed_stage see s) in subst P (sym is) (retimed_sequence s)

  -- the stage that it passes to, seen so
  pub passed_stage : (onward : Stage → Stage) → IsOnward onward → (terms : Terms) (stage : Stage) (seen : Sight) →
      retimed_stage see (onward (pass terms stage seen).stage) ≡ onward (pass terms (retimed_stage see stage) (shown_sight see stage seen)).stage
  passed_stage onward goes terms stage seen = retimed_on onward goes (pass terms stage seen).stage ∙ ap (λ turned. onward turned.stage) (pass_shown see terms stage seen)

  -- at the end none is told of the moment
  now_led : (onward : Stage → Stage) → IsOnward onward → (terms : Terms) (stage : Stage) (seen : Sight) (moment : ℕ) →
      now_at (onward (pass terms (retimed_stage see stage) seen).stage) (see moment) ≡ now_at (onward (pass terms (retimed_stage see stage) seen).stage) (moment_at see stage moment)
  now_led onward goes terms (idle at) seen moment = refl
  now_led onward goes terms (busy at flow doing) seen moment = refl
  now_led onward goes terms (next at) seen moment = refl
  now_led onward goes terms over seen moment = rw (over_on onward goes) refl

  pub moment_led : (onward : Stage → Stage) → IsOnward onward → (terms : Terms) (stage : Stage) (seen : Sight) (moment other : ℕ) → moment_at see stage moment ≡ moment_at see stage other →
      moment_at see (onward (pass terms stage seen).stage) moment ≡ moment_at see (onward (pass terms stage seen).stage) other
  moment_led onward goes terms (idle at) seen moment other same = moment_same see (onward (pass terms (idle at) seen).stage) moment other same
  moment_led onward goes terms (busy at flow doing) seen moment other same = moment_same see (onward (pass terms (busy at flow doing) seen).stage) moment other same
  moment_led onward goes terms (next at) seen moment other same = moment_same see (onward (pass terms (next at) seen).stage) moment other same
  moment_led onward goes terms over seen moment other same =
      ap (λ s. moment_at see s moment) (over_on onward goes) ∙ sym (ap (λ s. moment_at see s other) (over_on onward goes))

  -- what is shown there is what is left of what is shown
  pub passed_shown : (onward : Stage → Stage) → IsOnward onward → (terms : Terms) (place : Standing) (prefix : List (Timed Event)) →
      shown_over see (passed_over onward terms place prefix) prefix ≡ sight_on onward terms (retimed_stage see place.stage) (shown_over see place prefix)
  passed_shown onward goes terms place prefix =
      let seen : Sight = sight_over place prefix in
      let there : Stage = onward (pass terms place.stage seen).stage in
      let past : Sight = sight_past terms place.stage seen in
      let shown : Sight = shown_sight see place.stage seen in
      let to : Stage = onward (pass terms (retimed_stage see place.stage) shown).stage in
      ap (λ v. shown_sight see there v) (sight_passed onward goes terms place prefix)
      ∙ (ap (λ n. at_moment past n)
      (ap (λ n. moment_at see there n) (past_now terms place.stage seen)
      ∙ (now_seen see there seen.now
      ∙ (ap (λ s. now_at s (see seen.now)) (passed_stage onward goes terms place.stage seen) ∙ now_led onward goes terms place.stage shown seen.now)))
      ∙ past_retimed terms place.stage seen (now_at to shown.now))
