-- A piece that waits beside a request that goes up does so where the stage passes, and where a reply leads; and so it begins to.
use Rattle.std.proofs.Common.{◌≡◌, ℕ, ◌==◌, ◌<◌, Bool, true, false, List, [], ◌∷◌, ◌++◌, Option, Some, None, refl, ap, sym, ◌∙◌, subst, arith}
use Rattle.std.specs.Prelude.{◌&&◌, ◌||◌, not, if◌then◌else◌}
use Rattle.std.proofs.lemmas.Bool.{eqb-true}
use Rattle.std.proofs.lemmas.List.{append-nil}
use Rattle.px_message.specs.declared.fault.Fault.{Fault}
use Rattle.px_message.specs.declared.fault.Fault.TheVariants.{BadResponse}
use Rattle.px_event.specs.declared.ask.Hook.TheVariants.{ResponseBody, ResponseHead}
use Rattle.px_message.specs.declared.flow.Flow.{Flow}
use Rattle.px_message.specs.declared.request.Request.{Request}
use Rattle.px_message.specs.declared.response.Response.{Response}
use Rattle.px_event.specs.declared.command.Command.{Command}
use Rattle.px_event.specs.declared.event.Event.{Event}
use Rattle.px_event.specs.declared.event.Event.TheVariants as events
use Rattle.px_event.specs.declared.reply.Reply.{Reply}
use Rattle.px_event.specs.declared.reply.Reply.TheVariants as reply
use Rattle.px_event.specs.declared.side.Side.{Side}
use Rattle.px_event.specs.declared.side.Side.TheVariants.{Client, Server}
use Rattle.px_event.specs.Chain.{Asks, Ends, Look, NotYet, Timed, Turn}
use Rattle.px_event.specs.Laws.{IsFound}
use Rattle.px_read.specs.Items.{Item, missing, part, complete, bad_head, bad_body, answer_list, request_item}
use Rattle.px_read.specs.Laws.{is_begun}
use Rattle.px_read.specs.declared.head.RequestHead.{RequestHead as ReadRequest}
use Rattle.px_read.specs.declared.head.ResponseHead.{ResponseHead as ReadResponse}
use Rattle.px_write.specs.Error.{fault_message}
use Rattle.px_exchange.specs.declared.asked.Judged.{Judged}
use Rattle.px_exchange.specs.declared.asked.Judged.TheVariants.{Refused, Accepted, Connects}
use Rattle.px_exchange.specs.declared.ending.Used.{Used}
use Rattle.px_exchange.specs.declared.taken.Taken.{Taken}
use Rattle.px_exchange.specs.declared.taken.Taken.TheVariants.{GoesOn, Responds, Kills}
use Rattle.px_exchange.specs.declared.terms.Terms.{Terms}
use Rattle.px_exchange.specs.Endings.{closed_message, connection_goes_on, ends_by_fault, ends_early, without_response}
use Rattle.px_exchange.specs.Finds.{is_relayed, look_answer, look_returned, or_leaves}
use Rattle.px_exchange.specs.Flows.{ask_of, response_of, with_answer, with_body, with_returned}
use Rattle.px_exchange.specs.Replies.{taken_at_request_body, taken_at_request_head, taken_at_response_body, taken_at_response_head}
use Rattle.px_exchange.specs.Requests.{expects, flow_of, is_head, judged}
use Rattle.px_chain.specs.Behind.{sight_behind}
use Rattle.px_chain.specs.Chain.{IsOnward, bad_or, behind_flow, dial_leads, finish_by, given_at, goes_on_by, goes_up_by, is_alone, is_sequence, keeps_came, look, look_coming, parked_for, pass, pass_came, pass_given, pass_going, pass_kept, past_came, past_gone, past_kept, reached, sequence, side_if, sight_past, stands, turn, turn_answer, turn_answer_head, turn_body, turn_head, turn_judged, turn_response, turn_returned, turn_taken_answer, turn_taken_body, turn_taken_given, turn_taken_head, turn_taken_returned, turn_taken_whole}
use Rattle.px_chain.specs.Coming.{Came, allowed_by, came_by, came_in, goes_on_behind, streaming, streams_in}
use Rattle.px_chain.specs.Going.{allowed_up_by, goes_up, is_sent, sending_on, whole_in, with_whole}
use Rattle.px_chain.specs.Keeping.{is_silent, keeps_side, parks, unspoilt_at, unspoilt_by}
use Rattle.px_chain.specs.Sights.{Sight, Standing, answers_in, request_in, server_in, server_parked, server_with, sight_over, sight_with}
use Rattle.px_chain.specs.Stages.{At, Parked, Sent, Stage, all_sent, busy, coming_down, connection, given_body, given_head, going_up, idle, next, over, request_body, response_body, response_head, side_of, side_parked, unparked, upgraded}
use Rattle.px_chain.specs.Streams.{client_closed}
use Rattle.px_chain.proofs.ChainLaws.{leaves_by, open_still, passes_by}
use Rattle.px_chain.proofs.SightLaws.{sight_passed, sight_turned}
use Rattle.px_cuts.specs.Alike.{IsBeside, MayBeFollowed, WaitsBeside, apart, ends_here, has_ended, is_bad, unkept}
use Rattle.px_cuts.specs.Cuts.{MayBeHeard, MayStand, NoneGoesUp, is_of, keeps_behind, keeps_by, keeps_coming}
use Rattle.px_cuts.specs.Shown.{hears, look_over, moment_at, passed_over, retimed_stage, shown_over}
use Rattle.px_cuts.proofs.BesideLaws.{not_both, not_ended, silent_beside}
use Rattle.px_cuts.proofs.FollowLaws.{followed_late, heard_busy}
use Rattle.px_exchange.specs.Places.{is_same_address, server_for}
use Rattle.px_cuts.proofs.PassLaws.{left_begun, passes_begun}
use Rattle.px_cuts.proofs.PlaceLaws.{shown_more}

-- ---- by the stage seen so

module _ (see : ℕ → ℕ) where
  pub beside_retimed : (side : Side) (stage : Stage) (v : Sight) → WaitsBeside side stage v → WaitsBeside side (retimed_stage see stage) v
  beside_retimed side (idle at) v beside = tt
  beside_retimed side (busy at flow (request_body given most)) v beside = tt
  beside_retimed side (busy at flow (connection how)) v beside = tt
  beside_retimed side (busy at flow (response_head own all_sent)) v beside = tt
  beside_retimed side (busy at flow (response_head own going_up)) v beside = beside
  beside_retimed side (busy at flow (response_body own all_sent most)) v beside = tt
  beside_retimed side (busy at flow (response_body own going_up most)) v beside = beside
  beside_retimed side (busy at flow (coming_down own all_sent)) v beside = tt
  beside_retimed side (busy at flow (coming_down own going_up)) v beside = beside
  beside_retimed side (busy at flow (upgraded own)) v beside = tt
  beside_retimed side (busy at flow given_head) v beside = tt
  beside_retimed side (busy at flow given_body) v beside = tt
  beside_retimed side (next at) v beside = tt
  beside_retimed side over v beside = tt

-- at any moment
pub beside_on : (side : Side) (stage : Stage) (v : Sight) (late : ℕ) → WaitsBeside side stage v → WaitsBeside side stage (record v { now = late })
beside_on side (idle at) v late beside = tt
beside_on side (busy at flow (request_body given most)) v late beside = tt
beside_on side (busy at flow (connection how)) v late beside = tt
beside_on side (busy at flow (response_head own all_sent)) v late beside = tt
beside_on side (busy at flow (response_head own going_up)) v late beside = beside
beside_on side (busy at flow (response_body own all_sent most)) v late beside = tt
beside_on side (busy at flow (response_body own going_up most)) v late beside = beside
beside_on side (busy at flow (coming_down own all_sent)) v late beside = tt
beside_on side (busy at flow (coming_down own going_up)) v late beside = beside
beside_on side (busy at flow (upgraded own)) v late beside = tt
beside_on side (busy at flow given_head) v late beside = tt
beside_on side (busy at flow given_body) v late beside = tt
beside_on side (next at) v late beside = tt
beside_on side over v late beside = tt

-- where no request goes up it waits beside none
pub beside_none : (side : Side) (stage : Stage) (v : Sight) → NoneGoesUp stage → WaitsBeside side stage v
beside_none side (idle at) v none = tt
beside_none side (busy at flow (request_body given most)) v none = tt
beside_none side (busy at flow (connection how)) v none = tt
beside_none side (busy at flow (response_head own all_sent)) v none = tt
beside_none side (busy at flow (response_head own going_up)) v none = absurd (let e : Some own ≡ None = none in cc)
beside_none side (busy at flow (response_body own all_sent most)) v none = tt
beside_none side (busy at flow (response_body own going_up most)) v none = absurd (let e : Some own ≡ None = none in cc)
beside_none side (busy at flow (coming_down own all_sent)) v none = tt
beside_none side (busy at flow (coming_down own going_up)) v none = absurd (let e : Some own ≡ None = none in cc)
beside_none side (busy at flow (upgraded own)) v none = tt
beside_none side (busy at flow given_head) v none = tt
beside_none side (busy at flow given_body) v none = tt
beside_none side (next at) v none = tt
beside_none side over v none = tt

beside_sequence : (side : Side) (stage : Stage) (v : Sight) → WaitsBeside side stage v → WaitsBeside side (sequence stage) v
beside_sequence side (idle at) v beside = tt
beside_sequence side (busy at flow doing) v beside = beside
beside_sequence side (next at) v beside = tt
beside_sequence side over v beside = tt

beside_onward : (side : Side) (onward : Stage → Stage) → IsOnward onward → (stage : Stage) (v : Sight) → WaitsBeside side stage v → WaitsBeside side (onward stage) v
beside_onward side onward (is_alone is) stage v beside = let P : (Stage → Stage) → Type 0 = λ g. WaitsBeside side (g stage) v in subst P (sym is) beside
beside_onward side onward (is_sequence is) stage v beside = let P : (Stage → Stage) → Type 0 = λ g. WaitsBeside side (g stage) v in subst P (sym is) (beside_sequence side stage v beside)

-- ---- where it passes

module _ (terms : Terms) (side : Side) where
  behind_beside : (stays : Bool) (at : At) (v : Sight) → WaitsBeside side (behind_flow stays at) v
  behind_beside true at v = tt
  behind_beside false at v = tt

  came_all : (at : At) (flow : Flow) (own : ℕ) (v : Sight) (came : Option Came) → WaitsBeside side (pass_came terms.place at flow own all_sent v came).stage (past_came came v)
  came_all at flow own v None = tt
  came_all at flow own v (Some came) = behind_beside (is_sent all_sent && goes_on_behind at.flow flow.request came) (parks (keeps_came at flow all_sent v came) terms.place at flow.request own) (past_came (Some came) v)

  kept_all : (streams : Bool) (at : At) (flow : Flow) (own : ℕ) (most : Option ℕ) (v : Sight) →
      WaitsBeside side (pass_kept streams terms.place at flow own all_sent most v).stage (past_kept streams (came_in (streaming flow) v) v)
  kept_all true at flow own most v = came_all at (streaming flow) own v (came_in (streaming flow) v)
  kept_all false at flow own most v = tt

  came_up : (at : At) (flow : Flow) (own : ℕ) (v : Sight) (came : Option Came) → WaitsBeside side (busy at flow (coming_down own going_up)) v →
      WaitsBeside side (pass_came terms.place at flow own going_up v came).stage (past_came came v)
  came_up at flow own v None beside = beside
  came_up at flow own v (Some came) beside = tt

  -- a response that begins to come down has not ended
  begins_beside : (which : Side) (own : ℕ) (item : Item ReadRequest) (given : Option Response) (final : Item ReadResponse) → IsBeside which own item (has_ended final) →
      IsBeside which own item (ends_here given final)
  begins_beside Client own item given final beside = not_ended given final beside
  begins_beside (Server number) own item given final beside = beside

  kept_up : (streams : Bool) (at : At) (flow : Flow) (own : ℕ) (most : Option ℕ) (v : Sight) → WaitsBeside side (busy at flow (response_body own going_up most)) v →
      WaitsBeside side (pass_kept streams terms.place at flow own going_up most v).stage (past_kept streams (came_in (streaming flow) v) v)
  kept_up true at flow own most v beside =
      came_up at (streaming flow) own v (came_in (streaming flow) v)
      (begins_beside side own (request_in v) (streaming flow).response (answers_in flow.request v).final beside)
  kept_up false at flow own most v beside = beside

  head_by : (size : Option ℕ) (at : At) (flow : Flow) (own : ℕ) (v : Sight) → WaitsBeside side (busy at flow (response_head own going_up)) v →
      WaitsBeside side (passes_by size terms at flow (response_head own going_up) v).stage (leaves_by size terms at flow (response_head own going_up) v)
  head_by None at flow own v beside = beside
  head_by (Some size) at flow own v beside = tt

  body_by : (size : Option ℕ) (at : At) (flow : Flow) (own : ℕ) (most : Option ℕ) (v : Sight) → WaitsBeside side (busy at flow (response_body own going_up most)) v →
      WaitsBeside side (passes_by size terms at flow (response_body own going_up most) v).stage (leaves_by size terms at flow (response_body own going_up most) v)
  body_by None at flow own most v beside = kept_up (streams_in flow most v) at flow own most v beside
  body_by (Some size) at flow own most v beside =
      let whole : Flow = with_whole flow v.now in
      let left : Sight = past_gone (Some own) v in
      kept_all (streams_in whole most left) at whole own most left

  coming_by_size : (size : Option ℕ) (at : At) (flow : Flow) (own : ℕ) (v : Sight) → WaitsBeside side (busy at flow (coming_down own going_up)) v →
      WaitsBeside side (passes_by size terms at flow (coming_down own going_up) v).stage (leaves_by size terms at flow (coming_down own going_up) v)
  coming_by_size None at flow own v beside = came_up at flow own v (came_in flow v) beside
  coming_by_size (Some size) at flow own v beside =
      let whole : Flow = with_whole flow v.now in
      let left : Sight = past_gone (Some own) v in
      came_all at whole own left (came_in whole left)

  abbrev BesideBegun : Stage → Sight → Type 0
  BesideBegun to v = WaitsBeside side (passes_begun terms to v).stage (left_begun terms to v)

  -- to a side of which nothing was seen
  up_if : (to_it : Bool) (own : ℕ) (at : At) (flow : Flow) (v : Sight) → is_silent v.server v.shut ≡ true → is_of (Some own) side ≡ false →
      BesideBegun (goes_up_by (side_if to_it own) terms.place at flow) v
  up_if true own at flow v silent other_side =
      let other : Flow = reached terms.place flow in head_by (whole_in v) (unparked at) other own v (silent_beside side own other.request v other_side silent)
  up_if false own at flow v silent other_side = tt

  up_parked : (parked : Option Parked) (request : Request) (at : At) (flow : Flow) (v : Sight) → is_silent v.server v.shut ≡ true → is_of (side_parked parked) side ≡ false →
      BesideBegun (goes_up_by (parked_for terms.place request parked) terms.place at flow) v
  up_parked None request at flow v silent other_side = tt
  up_parked (Some parked) request at flow v silent other_side = up_if (is_same_address parked.address (server_for terms.place request)) parked.server at flow v silent other_side

  up_beside : (silent : Bool) (at : At) (flow other : Flow) (most : Option ℕ) (v : Sight) → is_silent v.server v.shut ≡ silent → MayBeFollowed side (busy at flow (request_body None most)) v →
      BesideBegun (goes_up_by (parked_for terms.place flow.request (unspoilt_by silent at.parked)) terms.place at other) v
  up_beside true at flow other most v silent (apart is) = up_parked at.parked flow.request at other v silent is
  up_beside true at flow other most v silent (unkept is) = absurd (not_both (is_silent v.server v.shut) is silent)
  up_beside false at flow other most v silent follows = tt

  going_beside : (up : Bool) (at : At) (flow : Flow) (most : Option ℕ) (v : Sight) → MayBeFollowed side (busy at flow (request_body None most)) v →
      BesideBegun (pass_going up terms.place at flow most v) v
  going_beside true at flow most v follows = up_beside (is_silent v.server v.shut) at flow (sending_on flow) most v refl follows
  going_beside false at flow most v follows = tt

  given_beside : (item : Item ReadRequest) (at : At) (flow : Flow) (response : Response) (most : Option ℕ) (now : ℕ) (v : Sight) → BesideBegun (pass_given at flow response most item now) v
  given_beside missing at flow response most now v = tt
  given_beside (part head body) at flow response most now v = tt
  given_beside (complete head body trailers used) at flow response most now v = tt
  given_beside (bad_head fault) at flow response most now v = tt
  given_beside (bad_body fault head body) at flow response most now v = tt

  past_beside : (stage : Stage) (v : Sight) → MayBeFollowed side stage v → WaitsBeside side stage v → WaitsBeside side (pass terms stage v).stage (sight_past terms stage v)
  past_beside (idle at) v follows beside = tt
  past_beside (busy at flow (request_body None most)) v follows beside = going_beside (goes_up most v) at flow most v follows
  past_beside (busy at flow (request_body (Some response) most)) v follows beside = given_beside (request_in v) at flow response most v.now _
  past_beside (busy at flow (connection how)) v follows beside = tt
  past_beside (busy at flow (response_head own all_sent)) v follows beside = tt
  past_beside (busy at flow (response_head own going_up)) v follows beside = head_by (whole_in v) at flow own v beside
  past_beside (busy at flow (response_body own all_sent most)) v follows beside = kept_all (streams_in flow most v) at flow own most v
  past_beside (busy at flow (response_body own going_up most)) v follows beside = body_by (whole_in v) at flow own most v beside
  past_beside (busy at flow (coming_down own all_sent)) v follows beside = came_all at flow own v (came_in flow v)
  past_beside (busy at flow (coming_down own going_up)) v follows beside = coming_by_size (whole_in v) at flow own v beside
  past_beside (busy at flow (upgraded own)) v follows beside = tt
  past_beside (busy at flow given_head) v follows beside = tt
  past_beside (busy at flow given_body) v follows beside = tt
  past_beside (next at) v follows beside = tt
  past_beside over v follows beside = tt

-- So it waits where a place passes.
pub beside_passed : (see : ℕ → ℕ) (terms : Terms) (onward : Stage → Stage) → IsOnward onward → (side : Side) (s : Standing) (f : List (Timed Event)) → MayBeFollowed side s.stage (shown_over see s f) →
    WaitsBeside side s.stage (shown_over see s f) → WaitsBeside side (passed_over onward terms s f).stage (shown_over see (passed_over onward terms s f) f)
beside_passed see terms onward goes side s f follows beside =
    let v : Sight = sight_over s f in
    let there : Standing = passed_over onward terms s f in
    let before : WaitsBeside side s.stage v = beside_on side s.stage (shown_over see s f) v.now beside in
    let behind : WaitsBeside side there.stage (sight_past terms s.stage v) =
    beside_onward side onward goes (pass terms s.stage v).stage (sight_past terms s.stage v) (past_beside terms side s.stage v (followed_late side s.stage (shown_over see s f) v.now follows) before) in
    beside_on side there.stage (sight_over there f) (moment_at see there.stage (sight_over there f).now)
    (subst (λ x. WaitsBeside side there.stage x) (sym (sight_passed onward goes terms s f)) behind)

-- ---- where a reply leads

open_found : (l : Look Command) (leaving : List Command) (ask : Command) → or_leaves false leaving l ≡ Asks ask → IsFound l
open_found NotYet leaving ask is = absurd (let e : NotYet ≡ Asks ask = is in cc)
open_found (Asks a) leaving ask is = tt
open_found (Ends a) leaving ask is = tt

-- an ask beside a request that goes up is found of its response
asked_up : (item : Item ReadRequest) (ends : Fault → List Command) (inner : Look Command) (leaving : List Command) (ask : Command) →
    or_leaves false leaving (bad_or item ends inner) ≡ Asks ask → IsFound inner
asked_up missing ends inner leaving ask is = open_found inner leaving ask is
asked_up (part head body) ends inner leaving ask is = open_found inner leaving ask is
asked_up (complete head body trailers used) ends inner leaving ask is = open_found inner leaving ask is
asked_up (bad_head fault) ends inner leaving ask is = open_found inner leaving ask is
asked_up (bad_body fault head body) ends inner leaving ask is = absurd (let e : Ends (ends fault) ≡ Asks ask = is in cc)

answer_begun : (flow : Flow) (item : Item ReadResponse) (now : ℕ) (used : Used) (closed : Bool) → IsFound (look_answer flow item now used closed) → is_begun item ≡ true
answer_begun flow missing now used closed found = absurd found
answer_begun flow (part head body) now used closed found = refl
answer_begun flow (complete head body trailers size) now used closed found = refl
answer_begun flow (bad_head fault) now used closed found = refl
answer_begun flow (bad_body fault head body) now used closed found = refl

-- a piece of a server that was dialled is none of a later one
later_server : (number server : ℕ) (bad other : Bool) → number < server → (number == server) ≡ other → (bad && other) ≡ false
later_server number server bad true less is = absurd (let same = eqb-true number server is in omega arith)
later_server number server true false less is = refl
later_server number server false false less is = refl

-- beside a new server: nothing of it was seen
new_beside : (side : Side) (at : At) (flow : Flow) (how : Sent) (item : Item ReadRequest) (asked_head : Bool) → MayBeHeard side (busy at flow (connection how)) →
    IsBeside side at.dials item (is_begun (answer_list asked_head false []).final)
new_beside Client at flow how item asked_head heard = refl
new_beside (Server number) at flow how item asked_head heard =
    later_server number at.dials (is_bad item) (number == at.dials) heard refl

module _ (terms : Terms) (side : Side) (moment : ℕ) where
  -- where it led, in the sight behind the reply
  abbrev BesideAt : Stage → Sight → Stage → Type 0
  BesideAt from v to = WaitsBeside side to (sight_behind terms.place from v moment to)

  finished_beside : (from : Stage) (v : Sight) (stays : Bool) (at : At) → BesideAt from v (behind_flow stays at)
  finished_beside from v true at = tt
  finished_beside from v false at = tt

  head_taken_beside : (at : At) (flow : Flow) (expected : Bool) (most : Option ℕ) (taken : Taken Request) (late : ℕ) (v seen : Sight) →
      BesideAt (idle at) v (turn_taken_head at flow expected most taken late seen).stage
  head_taken_beside at flow expected most (GoesOn request) late v seen = tt
  head_taken_beside at flow expected most (Responds response) late v seen = tt
  head_taken_beside at flow expected most Kills late v seen = tt

  judged_beside : (at : At) (head : ReadRequest) (j : Judged) (v : Sight) (answer : Timed Reply) → BesideAt (idle at) v (turn_judged terms at head j v answer).stage
  judged_beside at head (Refused fault) v answer = tt
  judged_beside at head (Connects address) v answer = tt
  judged_beside at head (Accepted request) v answer =
      head_taken_beside at (flow_of terms at.flow request v.now) (expects head) (allowed_up_by terms.streams answer.value) (taken_at_request_head request answer.value) answer.moment v v

  head_beside : (at : At) (item : Item ReadRequest) (v : Sight) (answer : Timed Reply) → BesideAt (idle at) v (turn_head terms at item v answer).stage
  head_beside at missing v answer = tt
  head_beside at (part head body) v answer = judged_beside at head (judged terms.place head) v answer
  head_beside at (complete head body trailers used) v answer = judged_beside at head (judged terms.place head) v answer
  head_beside at (bad_head fault) v answer = tt
  head_beside at (bad_body fault head body) v answer = judged_beside at head (judged terms.place head) v answer

  goes_on_beside : (from : Stage) (v : Sight) (own : Option ℕ) (at : At) (flow : Flow) → BesideAt from v (goes_on_by own terms.place at flow).stage
  goes_on_beside from v None at flow = tt
  goes_on_beside from v (Some own) at flow = tt

  body_taken_beside : (from : Stage) (v : Sight) (at : At) (flow : Flow) (taken : Taken Request) (late : ℕ) (seen : Sight) → BesideAt from v (turn_taken_body terms.place at flow taken late seen).stage
  body_taken_beside from v at flow (GoesOn request) late seen = goes_on_beside from v (parked_for terms.place request at.parked) at (record flow { request = request })
  body_taken_beside from v at flow (Responds response) late seen = tt
  body_taken_beside from v at flow Kills late seen = tt

  body_beside : (from : Stage) (at : At) (flow : Flow) (item : Item ReadRequest) (v : Sight) (answer : Timed Reply) → BesideAt from v (turn_body terms.place at flow item v answer).stage
  body_beside from at flow missing v answer = tt
  body_beside from at flow (part head body) v answer = tt
  body_beside from at flow (complete head body trailers used) v answer =
      let whole : Flow = with_body flow body.content trailers v.now in
      body_taken_beside from v at whole (taken_at_request_body whole.request answer.value) answer.moment v
  body_beside from at flow (bad_head fault) v answer = tt
  body_beside from at flow (bad_body fault head body) v answer = tt

  dial_beside : (at : At) (flow : Flow) (how : Sent) (value : Reply) (v : Sight) → MayBeHeard side (busy at flow (connection how)) →
      BesideAt (busy at flow (connection how)) v (dial_leads terms.place at flow how value)
  dial_beside at flow all_sent reply.Dialled v heard = tt
  dial_beside at flow going_up reply.Dialled v heard = new_beside side at flow going_up (request_in v) (is_head flow.request.method) heard
  dial_beside at flow how (reply.Refused fault) v heard = tt
  dial_beside at flow how (reply.Go given stream) v heard = tt
  dial_beside at flow how (reply.Respond response) v heard = tt
  dial_beside at flow how reply.Kill v heard = tt
  dial_beside at flow how reply.Discard v heard = tt

  -- behind the head of a response, beside a request that goes up or one that was sent
  abbrev BesideBody : At → Flow → ℕ → Sent → Sight → Type 0
  BesideBody at flow own how v = (other : Flow) (most : Option ℕ) → BesideAt (busy at flow (response_head own how)) v (busy at other (response_body own how most))

  answer_taken_beside : (at : At) (flow other : Flow) (own : ℕ) (how : Sent) (most : Option ℕ) (taken : Taken Response) (late : ℕ) (used : Used) (closed : Bool) (v : Sight) → BesideBody at flow own how v →
      BesideAt (busy at flow (response_head own how)) v (turn_taken_answer at other own how most taken late used closed).stage
  answer_taken_beside at flow other own how most (GoesOn response) late used closed v there = there (record other { response = Some response }) most
  answer_taken_beside at flow other own how most (Responds response) late used closed v there = tt
  answer_taken_beside at flow other own how most Kills late used closed v there = tt

  answer_head_beside : (at : At) (flow : Flow) (own : ℕ) (how : Sent) (head : ReadResponse) (v : Sight) (answer : Timed Reply) → BesideBody at flow own how v →
      BesideAt (busy at flow (response_head own how)) v (turn_answer_head terms at flow own how head v answer).stage
  answer_head_beside at flow own how head v answer there =
      answer_taken_beside at flow (with_answer flow (response_of head) v.now) own how (allowed_by terms.streams answer.value) (taken_at_response_head (response_of head) answer.value) answer.moment
      (server_in own v) v.closed v there

  answer_beside : (at : At) (flow : Flow) (own : ℕ) (how : Sent) (item : Item ReadResponse) (v : Sight) (answer : Timed Reply) → BesideBody at flow own how v →
      BesideAt (busy at flow (response_head own how)) v (turn_answer terms at flow own how item v answer).stage
  answer_beside at flow own how missing v answer there = tt
  answer_beside at flow own how (part head body) v answer there = answer_head_beside at flow own how head v answer there
  answer_beside at flow own how (complete head body trailers size) v answer there = answer_head_beside at flow own how head v answer there
  answer_beside at flow own how (bad_head fault) v answer there = tt
  answer_beside at flow own how (bad_body fault head body) v answer there = answer_head_beside at flow own how head v answer there

  response_beside : (from : Stage) (v : Sight) (given : Option Response) (takes : Response → Taken Response) (goes : Taken Response → Turn Stage Command) →
      ((taken : Taken Response) → BesideAt from v (goes taken).stage) → BesideAt from v (turn_response given takes goes).stage
  response_beside from v None takes goes each = tt
  response_beside from v (Some response) takes goes each = each (takes response)

  finish_beside : (from : Stage) (v : Sight) (switches : Bool) (at : At) (flow : Flow) (how : Sent) (response : Response) (keeps : Bool) (own : ℕ) (used : Used) (closed : Bool) →
      BesideAt from v (finish_by switches terms.place at flow how response keeps own used closed).stage
  finish_beside from v true at flow how response keeps own used closed = tt
  finish_beside from v false at flow how response keeps own used closed =
      let goes_on : Bool = is_sent how && connection_goes_on at.flow flow.request response in
      finished_beside from v goes_on (parks (goes_on && keeps) terms.place at flow.request own)

  whole_beside : (from : Stage) (v : Sight) (at : At) (flow : Flow) (own : ℕ) (how : Sent) (keeps : Bool) (taken : Taken Response) (late : ℕ) (used : Used) (closed : Bool) →
      BesideAt from v (turn_taken_whole terms.place at flow own how keeps taken late used closed).stage
  whole_beside from v at flow own how keeps (GoesOn response) late used closed = finish_beside from v (is_sent how && response.status == 101) at flow how response keeps own used closed
  whole_beside from v at flow own how keeps (Responds response) late used closed = tt
  whole_beside from v at flow own how keeps Kills late used closed = tt

  returned_beside : (from : Stage) (at : At) (flow : Flow) (own : ℕ) (how : Sent) (item : Item ReadResponse) (v : Sight) (answer : Timed Reply) →
      BesideAt from v (turn_returned terms.place at flow own how item v answer).stage
  returned_beside from at flow own how missing v answer = tt
  returned_beside from at flow own how (part head body) v answer = tt
  returned_beside from at flow own how (complete head body trailers size) v answer =
      let whole : Flow = with_returned flow body.content trailers v.now in
      let keeps : Bool = keeps_side flow.request v head in
      response_beside from v whole.response (λ response. taken_at_response_body response answer.value)
      (λ taken. turn_taken_whole terms.place at whole own how keeps taken answer.moment (server_in own v) v.closed)
      (λ taken. whole_beside from v at whole own how keeps taken answer.moment (server_in own v) v.closed)
  returned_beside from at flow own how (bad_head fault) v answer = tt
  returned_beside from at flow own how (bad_body fault head body) v answer = tt

  given_taken_beside : (from : Stage) (v : Sight) (at : At) (flow : Flow) (taken : Taken Response) (late : ℕ) (parked : Used) (closed : Bool) → BesideAt from v (turn_taken_given at flow taken late parked closed).stage
  given_taken_beside from v at flow (GoesOn response) late parked closed = tt
  given_taken_beside from v at flow (Responds response) late parked closed = tt
  given_taken_beside from v at flow Kills late parked closed = tt

  returned_taken_beside : (from : Stage) (v : Sight) (at : At) (flow : Flow) (taken : Taken Response) (late : ℕ) (parked : Used) (closed : Bool) →
      BesideAt from v (turn_taken_returned at flow taken late parked closed).stage
  returned_taken_beside from v at flow (GoesOn response) late parked closed = finished_beside from v (connection_goes_on at.flow flow.request response) at
  returned_taken_beside from v at flow (Responds response) late parked closed = tt
  returned_taken_beside from v at flow Kills late parked closed = tt

  -- beside a request that goes up whose response is asked about
  up_body : (at : At) (flow : Flow) (own : ℕ) (v : Sight) (ask : Command) (which : Side) → v.closed ≡ false → IsBeside which own (request_in v) (is_begun (answers_in flow.request v).final) →
      look terms (busy at flow (response_head own going_up)) v ≡ Asks ask → (answered : Bool) → IsBeside which own (request_in v) answered
  up_body at flow own v ask Client open_client beside asks answered =
      let used : Used = server_in own v in
      let final = (answers_in flow.request v).final in
      let P : Bool → Type 0 = λ b. or_leaves b (ends_early flow closed_message v.now used true)
      (bad_or (request_in v) (λ fault. ends_by_fault flow fault v.now used v.closed) (look_answer flow final v.now used v.closed)) ≡ Asks ask in
      let found = asked_up (request_in v) (λ fault. ends_by_fault flow fault v.now used v.closed) (look_answer flow final v.now used v.closed) (ends_early flow closed_message v.now used true) ask
      (subst P open_client asks) in
      absurd (not_both (is_begun final) beside (answer_begun flow final v.now used v.closed found))
  up_body at flow own v ask (Server number) open_client beside asks answered = beside

  turned_beside : (stage : Stage) (v : Sight) (answer : Timed Reply) (ask : Command) → v.closed ≡ false → WaitsBeside side stage v → MayBeHeard side stage → look terms stage v ≡ Asks ask →
      BesideAt stage v (turn terms stage v answer).stage
  turned_beside (idle at) v answer ask open_client beside heard asks = head_beside (unspoilt_at at v) (request_in v) v answer
  turned_beside (busy at flow (request_body given most)) v answer ask open_client beside heard asks = body_beside (busy at flow (request_body given most)) (unspoilt_at at v) flow (request_in v) v answer
  turned_beside (busy at flow (connection how)) v answer ask open_client beside heard asks = dial_beside (unspoilt_at at v) flow how answer.value v (heard_busy side at (unspoilt_at at v).parked flow (connection how) heard)
  turned_beside (busy at flow (response_head own all_sent)) v answer ask open_client beside heard asks =
      answer_beside (unspoilt_at at v) flow own all_sent (answers_in flow.request v).final v answer (λ other most. tt)
  turned_beside (busy at flow (response_head own going_up)) v answer ask open_client beside heard asks =
      answer_beside (unspoilt_at at v) flow own going_up (answers_in flow.request v).final v answer (λ other most. up_body at flow own v ask side open_client beside asks _)
  turned_beside (busy at flow (response_body own how most)) v answer ask open_client beside heard asks =
      returned_beside (busy at flow (response_body own how most)) (unspoilt_at at v) flow own how (answers_in flow.request v).final v answer
  turned_beside (busy at flow (coming_down own how)) v answer ask open_client beside heard asks = tt
  turned_beside (busy at flow (upgraded own)) v answer ask open_client beside heard asks = tt
  turned_beside (busy at flow given_head) v answer ask open_client beside heard asks =
      let given : Flow = given_at flow v.now in
      let there : At = unspoilt_at at v in
      response_beside (busy at flow given_head) v given.response (λ response. taken_at_response_head response answer.value)
      (λ taken. turn_taken_given there given taken answer.moment (server_parked there.parked v) v.closed)
      (λ taken. given_taken_beside (busy at flow given_head) v there given taken answer.moment (server_parked there.parked v) v.closed)
  turned_beside (busy at flow given_body) v answer ask open_client beside heard asks =
      let there : At = unspoilt_at at v in
      response_beside (busy at flow given_body) v flow.response (λ response. taken_at_response_body response answer.value)
      (λ taken. turn_taken_returned there flow taken answer.moment (server_parked there.parked v) v.closed)
      (λ taken. returned_taken_beside (busy at flow given_body) v there flow taken answer.moment (server_parked there.parked v) v.closed)
  turned_beside (next at) v answer ask open_client beside heard asks = tt
  turned_beside over v answer ask open_client beside heard asks = tt

  sequence_beside : (from : Stage) (v : Sight) (to : Stage) → BesideAt from v to → BesideAt from v (sequence to)
  sequence_beside from v (idle at) beside = tt
  sequence_beside from v (busy at flow doing) beside = beside
  sequence_beside from v (next at) beside = tt
  sequence_beside from v over beside = tt

  led_beside : (onward : Stage → Stage) → IsOnward onward → (from : Stage) (v : Sight) (to : Stage) → BesideAt from v to → BesideAt from v (onward to)
  led_beside onward (is_alone is) from v to beside = let P : (Stage → Stage) → Type 0 = λ g. BesideAt from v (g to) in subst P (sym is) beside
  led_beside onward (is_sequence is) from v to beside = let P : (Stage → Stage) → Type 0 = λ g. BesideAt from v (g to) in subst P (sym is) (sequence_beside from v to beside)

-- So it waits where a reply leads.
pub beside_turned : (see : ℕ → ℕ) (terms : Terms) (onward : Stage → Stage) → IsOnward onward → (side : Side) (s : Standing) (f : List (Timed Event)) (answer : Timed Reply) (ask : Command) →
    client_closed f ≡ false → WaitsBeside side s.stage (shown_over see s f) → MayBeHeard side s.stage → look_over terms s f ≡ Asks ask →
    let there = stands terms s answer.moment f (onward (turn terms s.stage (sight_over s f) answer).stage) in
    WaitsBeside side there.stage (shown_over see there f)
beside_turned see terms onward goes side s f answer ask open_client beside heard asks =
    let v : Sight = sight_over s f in
    let to : Stage = onward (turn terms s.stage v answer).stage in
    let there : Standing = stands terms s answer.moment f to in
    let before : WaitsBeside side s.stage v = beside_on side s.stage (shown_over see s f) v.now beside in
    let behind = led_beside terms side answer.moment onward goes s.stage v (turn terms s.stage v answer).stage (turned_beside terms side answer.moment s.stage v answer ask open_client before heard asks) in
    beside_on side to (sight_over there f) (moment_at see to (sight_over there f).now)
    (subst (λ x. WaitsBeside side to x) (sym (sight_turned onward goes terms s f answer)) behind)

-- ---- where it begins to wait

none_found : (leaving : List Command) (l : Look Command) → or_leaves false leaving l ≡ NotYet → l ≡ NotYet
none_found leaving NotYet is = refl
none_found leaving (Asks a) is = is
none_found leaving (Ends a) is = is

-- nothing is found of the request, nor beside it
not_refused : (item : Item ReadRequest) (ends : Fault → List Command) (inner : Look Command) → bad_or item ends inner ≡ NotYet → is_bad item ≡ false
not_refused missing ends inner is = refl
not_refused (part head body) ends inner is = refl
not_refused (complete head body trailers used) ends inner is = refl
not_refused (bad_head fault) ends inner is = refl
not_refused (bad_body fault head body) ends inner is = absurd (let e : Ends (ends fault) ≡ NotYet = is in cc)

not_inner : (item : Item ReadRequest) (ends : Fault → List Command) (inner : Look Command) → bad_or item ends inner ≡ NotYet → inner ≡ NotYet
not_inner missing ends inner is = is
not_inner (part head body) ends inner is = is
not_inner (complete head body trailers used) ends inner is = is
not_inner (bad_head fault) ends inner is = is
not_inner (bad_body fault head body) ends inner is = absurd (let e : Ends (ends fault) ≡ NotYet = is in cc)

head_none : (refused : Bool) (owed : List Command) (ask : Command) → (if refused then Ends owed else Asks ask) ≡ NotYet → ⊥
head_none true owed ask is = let e : Ends owed ≡ NotYet = is in cc
head_none false owed ask is = let e : Asks ask ≡ NotYet = is in cc

answer_none : (flow : Flow) (item : Item ReadResponse) (now : ℕ) (used : Used) (closed : Bool) → look_answer flow item now used closed ≡ NotYet → is_begun item ≡ false
answer_none flow missing now used closed is = refl
answer_none flow (part head body) now used closed is =
    absurd (head_none (not (is_relayed head.code)) (ends_by_fault flow BadResponse now used closed) (ask_of (with_answer flow (response_of head) now) ResponseHead) is)
answer_none flow (complete head body trailers size) now used closed is =
    absurd (head_none (not (is_relayed head.code)) (ends_by_fault flow BadResponse now used closed) (ask_of (with_answer flow (response_of head) now) ResponseHead) is)
answer_none flow (bad_head fault) now used closed is = absurd (let e : Ends (ends_by_fault flow fault now used closed) ≡ NotYet = is in cc)
answer_none flow (bad_body fault head body) now used closed is =
    absurd (head_none (not (is_relayed head.code)) (ends_by_fault flow BadResponse now used closed) (ask_of (with_answer flow (response_of head) now) ResponseHead) is)

returned_none : (flow : Flow) (item : Item ReadResponse) (now : ℕ) (used : Used) (closed : Bool) → look_returned flow item now used closed ≡ NotYet → has_ended item ≡ false
returned_none flow missing now used closed is = refl
returned_none flow (part head body) now used closed is = refl
returned_none flow (complete head body trailers size) now used closed is =
    absurd (let e : Asks (ask_of (with_returned flow body.content trailers now) ResponseBody) ≡ NotYet = is in cc)
returned_none flow (bad_head fault) now used closed is = refl
returned_none flow (bad_body fault head body) now used closed is = absurd (let e : Ends (ends_by_fault flow fault now used closed) ≡ NotYet = is in cc)

-- a streamed response that is whole is none that stands
came_whole : (given : Option Response) (flow : Flow) (item : Item ReadResponse) (now : ℕ) (used : Used) (closed : Bool) → look_coming flow item now used closed ≡ NotYet → came_by given item ≡ None →
    ends_here given item ≡ false
came_whole None flow missing now used closed is none = refl
came_whole None flow (part head body) now used closed is none = refl
came_whole None flow (complete head body trailers size) now used closed is none = refl
came_whole None flow (bad_head fault) now used closed is none = refl
came_whole None flow (bad_body fault head body) now used closed is none = absurd (let e : Ends (ends_early flow (fault_message fault) now used closed) ≡ NotYet = is in cc)
came_whole (Some response) flow missing now used closed is none = refl
came_whole (Some response) flow (part head body) now used closed is none = refl
came_whole (Some response) flow (complete head body trailers size) now used closed is none =
    let came : Came = record { response = response; head = head } in absurd (let e : Some came ≡ None = none in cc)
came_whole (Some response) flow (bad_head fault) now used closed is none = refl
came_whole (Some response) flow (bad_body fault head body) now used closed is none = absurd (let e : Ends (ends_early flow (fault_message fault) now used closed) ≡ NotYet = is in cc)

-- a response comes down
abbrev comes_at : Stage → Bool
comes_at (busy at flow (coming_down own how)) = true
comes_at stage = false

sequence_comes : (stage : Stage) → comes_at (sequence stage) ≡ comes_at stage
sequence_comes (idle at) = refl
sequence_comes (busy at flow doing) = refl
sequence_comes (next at) = refl
sequence_comes over = refl

onward_comes : (onward : Stage → Stage) → IsOnward onward → (stage : Stage) → comes_at (onward stage) ≡ comes_at stage
onward_comes onward (is_alone is) stage = let P : (Stage → Stage) → Type 0 = λ g. comes_at (g stage) ≡ comes_at stage in subst P (sym is) refl
onward_comes onward (is_sequence is) stage = let P : (Stage → Stage) → Type 0 = λ g. comes_at (g stage) ≡ comes_at stage in subst P (sym is) (sequence_comes stage)

behind_comes : (stays : Bool) (at : At) → comes_at (behind_flow stays at) ≡ false
behind_comes true at = refl
behind_comes false at = refl

module _ (terms : Terms) where
  -- where it stands it is not whole
  came_stands : (at : At) (flow : Flow) (own : ℕ) (how : Sent) (v : Sight) (came : Option Came) → comes_at (pass_came terms.place at flow own how v came).stage ≡ true → came ≡ None
  came_stands at flow own how v None is = refl
  came_stands at flow own how v (Some came) is =
      let goes_on : Bool = is_sent how && goes_on_behind at.flow flow.request came in
      let to : At = parks (keeps_came at flow how v came) terms.place at flow.request own in
      absurd (not_both (comes_at (behind_flow goes_on to)) (behind_comes goes_on to) is)

  came_by_size : (at : At) (flow : Flow) (own : ℕ) (v : Sight) (size : Option ℕ) → comes_at (passes_by size terms at flow (coming_down own going_up) v).stage ≡ true → came_in flow v ≡ None
  came_by_size at flow own v None is = came_stands at flow own going_up v (came_in flow v) is
  came_by_size at flow own v (Some size) is =
      let whole : Flow = with_whole flow v.now in
      let left : Sight = past_gone (Some own) v in
      came_stands at whole own all_sent left (came_in whole left) is

  not_came : (at : At) (flow : Flow) (own : ℕ) (how : Sent) (v : Sight) → comes_at (pass terms (busy at flow (coming_down own how)) v).stage ≡ true → came_in flow v ≡ None
  not_came at flow own all_sent v is = came_stands at flow own all_sent v (came_in flow v) is
  not_came at flow own going_up v is = came_by_size at flow own v (whole_in v) is

  module _ (bytes : List ℕ) where
    -- of the server's side a piece of the client says nothing
    server_same : (own : ℕ) (shut : Bool) (server : List ℕ) → server_with (Some own) shut server (events.Piece Client bytes) ≡ server
    server_same own true server = refl
    server_same own false server = append-nil server

    shut_same : (shut : Bool) → (shut || false) ≡ shut
    shut_same true = refl
    shut_same false = refl

    -- nothing is found, so the piece waits beside a request that goes up
    piece_beside : (side : Side) (own : ℕ) (request : Request) (v : Sight) (flag : Item ReadResponse → Bool) → is_bad (request_in v) ≡ false → flag (answers_in request v).final ≡ false →
        let w = hears (Some own) v (events.Piece side bytes) in IsBeside side own (request_in w) (flag (answers_in request w).final)
    piece_beside Client own request v flag good none =
        ap (λ l. flag (answer_list (is_head request.method) (v.shut || false) l).final) (server_same own v.shut v.server)
        ∙ (ap (λ b. flag (answer_list (is_head request.method) b v.server).final) (shut_same v.shut) ∙ none)
    piece_beside (Server number) own request v flag good none =
        ap (λ l. is_bad (request_item l) && (number == own)) (append-nil v.client) ∙ ap (λ b. b && (number == own)) good

    more_beside : (side : Side) (stage : Stage) (v : Sight) → v.closed ≡ false → look terms stage v ≡ NotYet → comes_at (pass terms stage v).stage ≡ comes_at stage →
        WaitsBeside side stage (hears (side_of stage) v (events.Piece side bytes))
    more_beside side (idle at) v open_client is stands = tt
    more_beside side (busy at flow (request_body given most)) v open_client is stands = tt
    more_beside side (busy at flow (connection how)) v open_client is stands = tt
    more_beside side (busy at flow (response_head own all_sent)) v open_client is stands = tt
    more_beside side (busy at flow (response_head own going_up)) v open_client is stands =
        let used : Used = server_in own v in
        let final = (answers_in flow.request v).final in
        let inner = look_answer flow final v.now used v.closed in
        let ends : Fault → List Command = λ fault. ends_by_fault flow fault v.now used v.closed in
        let P : Bool → Type 0 = λ b. or_leaves b (ends_early flow closed_message v.now used true) (bad_or (request_in v) ends inner) ≡ NotYet in
        let none = none_found (ends_early flow closed_message v.now used true) (bad_or (request_in v) ends inner) (subst P open_client is) in
        piece_beside side own flow.request v (λ i. is_begun i) (not_refused (request_in v) ends inner none) (answer_none flow final v.now used v.closed (not_inner (request_in v) ends inner none))
    more_beside side (busy at flow (response_body own all_sent most)) v open_client is stands = tt
    more_beside side (busy at flow (response_body own going_up most)) v open_client is stands =
        let used : Used = server_in own v in
        let final = (answers_in flow.request v).final in
        let inner = look_returned flow final v.now used v.closed in
        let ends : Fault → List Command = λ fault. ends_by_fault flow fault v.now used v.closed in
        let P : Bool → Type 0 = λ b. or_leaves b (ends_early (without_response flow) closed_message v.now used true) (bad_or (request_in v) ends inner) ≡ NotYet in
        let none = none_found (ends_early (without_response flow) closed_message v.now used true) (bad_or (request_in v) ends inner) (subst P open_client is) in
        piece_beside side own flow.request v (λ i. has_ended i) (not_refused (request_in v) ends inner none) (returned_none flow final v.now used v.closed (not_inner (request_in v) ends inner none))
    more_beside side (busy at flow (coming_down own all_sent)) v open_client is stands = tt
    more_beside side (busy at flow (coming_down own going_up)) v open_client is stands =
        let used : Used = server_in own v in
        let final = (answers_in flow.request v).final in
        let inner = look_coming flow final v.now used v.closed in
        let ends : Fault → List Command = λ fault. ends_early flow (fault_message fault) v.now used v.closed in
        let P : Bool → Type 0 = λ b. or_leaves b (ends_early flow closed_message v.now used true) (bad_or (request_in v) ends inner) ≡ NotYet in
        let none = none_found (ends_early flow closed_message v.now used true) (bad_or (request_in v) ends inner) (subst P open_client is) in
        piece_beside side own flow.request v (λ i. ends_here flow.response i) (not_refused (request_in v) ends inner none)
        (came_whole flow.response flow final v.now used v.closed (not_inner (request_in v) ends inner none) (not_came at flow own going_up v stands))
    more_beside side (busy at flow (upgraded own)) v open_client is stands = tt
    more_beside side (busy at flow given_head) v open_client is stands = tt
    more_beside side (busy at flow given_body) v open_client is stands = tt
    more_beside side (next at) v open_client is stands = tt
    more_beside side over v open_client is stands = tt

  -- nor does a response end there behind which its side is kept
  begun_kept : (request : Request) (v : Sight) (item : Item ReadResponse) → is_begun item ≡ false → keeps_by request v item ≡ false
  begun_kept request v missing none = refl
  begun_kept request v (part head body) none = refl
  begun_kept request v (complete head body trailers size) none = absurd (let e : true ≡ false = none in cc)
  begun_kept request v (bad_head fault) none = refl
  begun_kept request v (bad_body fault head body) none = refl

  ended_kept : (request : Request) (v : Sight) (item : Item ReadResponse) → has_ended item ≡ false → keeps_by request v item ≡ false
  ended_kept request v missing none = refl
  ended_kept request v (part head body) none = refl
  ended_kept request v (complete head body trailers size) none = absurd (let e : true ≡ false = none in cc)
  ended_kept request v (bad_head fault) none = refl
  ended_kept request v (bad_body fault head body) none = refl

  none_kept : (stage : Stage) (v : Sight) → v.closed ≡ false → look terms stage v ≡ NotYet → comes_at (pass terms stage v).stage ≡ comes_at stage → NoneGoesUp stage → keeps_behind stage v ≡ false
  none_kept (idle at) v open_client is stands none = refl
  none_kept (busy at flow (request_body given most)) v open_client is stands none = refl
  none_kept (busy at flow (connection how)) v open_client is stands none = refl
  none_kept (busy at flow (response_head own all_sent)) v open_client is stands none =
      let used : Used = server_in own v in
      let final = (answers_in flow.request v).final in
      let P : Bool → Type 0 = λ b. or_leaves b (ends_early flow closed_message v.now used true) (look_answer flow final v.now used v.closed) ≡ NotYet in
      begun_kept flow.request v final
      (answer_none flow final v.now used v.closed (none_found (ends_early flow closed_message v.now used true) (look_answer flow final v.now used v.closed) (subst P open_client is)))
  none_kept (busy at flow (response_head own going_up)) v open_client is stands none = absurd (let e : Some own ≡ None = none in cc)
  none_kept (busy at flow (response_body own all_sent most)) v open_client is stands none =
      let used : Used = server_in own v in
      let final = (answers_in flow.request v).final in
      let P : Bool → Type 0 = λ b. or_leaves b (ends_early (without_response flow) closed_message v.now used true) (look_returned flow final v.now used v.closed) ≡ NotYet in
      ended_kept flow.request v final
      (returned_none flow final v.now used v.closed (none_found (ends_early (without_response flow) closed_message v.now used true) (look_returned flow final v.now used v.closed) (subst P open_client is)))
  none_kept (busy at flow (response_body own going_up most)) v open_client is stands none = absurd (let e : Some own ≡ None = none in cc)
  none_kept (busy at flow (coming_down own how)) v open_client is stands none = ap (λ c. keeps_coming flow.request v c) (not_came at flow own how v stands)
  none_kept (busy at flow (upgraded own)) v open_client is stands none = refl
  none_kept (busy at flow given_head) v open_client is stands none = refl
  none_kept (busy at flow given_body) v open_client is stands none = refl
  none_kept (next at) v open_client is stands none = refl
  none_kept over v open_client is stands none = refl

pub still_unkept : (terms : Terms) (onward : Stage → Stage) → IsOnward onward → (place : Standing) (prefix : List (Timed Event)) → look_over terms place prefix ≡ NotYet →
    passed_over onward terms place prefix ≡ place → NoneGoesUp place.stage → keeps_behind place.stage (sight_over place prefix) ≡ false
still_unkept terms onward goes place prefix is settled none =
    let v : Sight = sight_over place prefix in
    none_kept terms place.stage v (open_still terms place.stage v is) is
    (sym (onward_comes onward goes (pass terms place.stage v).stage) ∙ ap (λ (p : Standing). comes_at p.stage) settled) none

-- Where nothing was found and the stage stays, a piece that is worked off leaves none behind it that would not wait so.
pub beside_more : (see : ℕ → ℕ) (terms : Terms) (onward : Stage → Stage) → IsOnward onward → (side : Side) (bytes : List ℕ) (place : Standing) (prefix : List (Timed Event)) (e : Timed Event) →
    e.value ≡ events.Piece side bytes → MayStand terms place prefix → look_over terms place prefix ≡ NotYet → passed_over onward terms place prefix ≡ place →
    WaitsBeside side place.stage (shown_over see place (prefix ++ e ∷ []))
beside_more see terms onward goes side bytes place prefix e is_piece may is settled =
    let v : Sight = sight_over place prefix in
    let stage : Stage = place.stage in
    let own : Option ℕ = side_of stage in
    let piece : Event = events.Piece side bytes in
    let moment : ℕ = moment_at see stage e.moment in
    let open_client : client_closed prefix ≡ false = open_still terms stage v is in
    let stands : comes_at (pass terms stage v).stage ≡ comes_at stage =
    sym (onward_comes onward goes (pass terms stage v).stage) ∙ ap (λ (p : Standing). comes_at p.stage) settled in
    subst (λ x. WaitsBeside side stage x)
    (sym (shown_more see terms place prefix e may open_client ∙ ap (λ x. sight_with own (shown_over see place prefix) x moment) is_piece))
    (beside_on side stage (hears own v piece) moment (more_beside terms bytes side stage v open_client is stands))
