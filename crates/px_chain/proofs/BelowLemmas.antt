-- Where a conversation passes no more servers are dialled, and so it sends to those that were dialled before, of which the side that is open is one.
use Rattle.std.proofs.Common.{◌≡◌, ℕ, ◌+◌, ◌≤◌, ◌<◌, Bool, true, false, List, [], ◌++◌, Option, Some, None, refl, ap, ◌∙◌, arith}
use Rattle.std.specs.Prelude.{◌&&◌}
use Rattle.px_message.specs.declared.flow.Flow.{Flow}
use Rattle.px_message.specs.declared.request.Request.{Request}
use Rattle.px_message.specs.declared.response.Response.{Response}
use Rattle.px_event.specs.declared.command.Command.{Command}
use Rattle.px_event.specs.declared.event.Event.{Event}
use Rattle.px_event.specs.declared.reply.Reply.{Reply}
use Rattle.px_event.specs.Chain.{Timed, found}
use Rattle.px_event.specs.Layer.{Move}
use Rattle.px_event.specs.Stands.{due_by}
use Rattle.px_read.specs.Items.{Item, missing, part, complete, bad_head, bad_body, request_item}
use Rattle.px_read.specs.declared.head.RequestHead.{RequestHead as ReadRequest}
use Rattle.px_exchange.specs.declared.ending.Used.{Used}
use Rattle.px_exchange.specs.declared.place.Place.{Place}
use Rattle.px_exchange.specs.declared.terms.Terms.{Terms}
use Rattle.px_exchange.specs.Endings.{shut_server}
use Rattle.px_exchange.specs.Finds.{or_leaves, look_head}
use Rattle.px_chain.specs.Chain.{IsOnward, begin, begin_up, behind_flow, come_down, end_by, end_up, goes_up_by, going_at, gone, gone_by, gone_up, http_chain, is_alone, is_sequence, parked_for, pass, pass_came, pass_given, pass_going, pass_kept, passed, sequence, sight_begun, sight_gone, so_far, turn}
use Rattle.px_chain.specs.Keeping.{is_silent, keeps_side, parks, shut_stray, unspoilt_at}
use Rattle.px_chain.specs.Silent.{NoAnswer, ParkedBelow, connects, connections}
use Rattle.px_chain.specs.Sights.{Sight, Standing, bytes_over, request_in, server_parked, sight_over}
use Rattle.px_chain.specs.Stages.{At, Parked, Stage, busy, coming_down, connection, given_body, given_head, idle, next, over, request_body, response_body, response_head, side_in, side_parked, upgraded, Doing, Sent}
use Rattle.px_chain.proofs.CountedLemmas.{Counts, CountsServers, IsSilent, counted_from, counted_silent}
use Rattle.px_chain.proofs.SightLaws.{side_onward}
use Rattle.px_chain.specs.Coming.{Came, came_in, goes_on_behind, streaming, streams_in}
use Rattle.px_chain.specs.Going.{goes_up, is_sent, sending_on, whole_in, with_whole}
use Rattle.px_chain.proofs.KeepingLaws.{nothing_strays}
use Rattle.px_chain.proofs.SilentLemmas.{AreBelow, Before, IsBetween, ServersBelow, SideBelow, before_at, behind_silent, beyond_by, dialled, for_below, looks_silent, not_up_below, parked_below, pass_silent, so_far_silent, turn_leads, unspoilt_below}

-- ---- passing, and the next flow

-- where a conversation passes no more servers were dialled, and the one whose side is open is among them
record PassesBelow (from to : Stage) : Type 0 where
  few : dialled to ≤ dialled from
  below : ServersBelow from → ServersBelow to

below_both : (from between to : Stage) → PassesBelow from between → PassesBelow between to → PassesBelow from to
below_both from between to first second =
    let few = first.few in let fewer = second.few in
    record { few = omega arith; below = λ is. second.below (first.below is) }

still_below : (stage : Stage) → PassesBelow stage stage
still_below stage = record { few = omega arith; below = λ is. is }

up_below : (side : Option ℕ) (place : Place) (at : At) (flow from : Flow) (given : Option Response) (size : Option ℕ) → (SideBelow (side_parked at.parked) at.dials → SideBelow side at.dials) →
    PassesBelow (busy at from (request_body given size)) (goes_up_by side place at flow)
up_below None place at flow from given size fits = record { few = omega arith; below = λ is. is }
up_below (Some server) place at flow from given size fits = record { few = omega arith; below = λ is. fits is }

going_below : (up : Bool) (place : Place) (at : At) (flow : Flow) (size : Option ℕ) (seen : Sight) → PassesBelow (busy at flow (request_body None size)) (pass_going up place at flow size seen)
going_below true place at flow size seen =
    let parked : Option Parked = (unspoilt_at at seen).parked in
    up_below (parked_for place flow.request parked) place at (sending_on flow) flow None size
    (λ is. for_below place flow.request parked at.dials (unspoilt_below (is_silent seen.server seen.shut) at.parked at.dials is))
going_below false place at flow size seen = still_below (busy at flow (request_body None size))

given_below : (at : At) (flow : Flow) (response : Response) (size : Option ℕ) (item : Item ReadRequest) (now : ℕ) →
    PassesBelow (busy at flow (request_body (Some response) size)) (pass_given at flow response size item now)
given_below at flow response size missing now = record { few = omega arith; below = λ is. is }
given_below at flow response size (part head body) now = record { few = omega arith; below = λ is. is }
given_below at flow response size (complete head body trailers used) now = record { few = omega arith; below = λ is. is }
given_below at flow response size (bad_head fault) now = record { few = omega arith; below = λ is. is }
given_below at flow response size (bad_body fault head body) now = record { few = omega arith; below = λ is. is }

-- so is it where a request begins to go up
begins_below : (terms : Terms) (stage : Stage) (seen : Sight) → PassesBelow stage (begin_up terms stage seen)
begins_below terms (idle at) seen = still_below (idle at)
begins_below terms (busy at flow (request_body None size)) seen = going_below (goes_up size seen) terms.place at flow size seen
begins_below terms (busy at flow (request_body (Some response) size)) seen = given_below at flow response size (request_in seen) seen.now
begins_below terms (busy at flow (connection how)) seen = still_below (busy at flow (connection how))
begins_below terms (busy at flow (response_head side how)) seen = still_below (busy at flow (response_head side how))
begins_below terms (busy at flow (response_body side how most)) seen = still_below (busy at flow (response_body side how most))
begins_below terms (busy at flow (coming_down side how)) seen = still_below (busy at flow (coming_down side how))
begins_below terms (busy at flow (upgraded side)) seen = still_below (busy at flow (upgraded side))
begins_below terms (busy at flow given_head) seen = still_below (busy at flow given_head)
begins_below terms (busy at flow given_body) seen = still_below (busy at flow given_body)
begins_below terms (next at) seen = still_below (next at)
begins_below terms over seen = still_below over

gone_below : (at : At) (flow whole : Flow) (doing : Doing) → PassesBelow (busy at flow doing) (busy at whole (gone doing))
gone_below at flow whole (request_body given size) = record { few = omega arith; below = λ is. is }
gone_below at flow whole (connection how) = record { few = omega arith; below = λ is. is }
gone_below at flow whole (response_head side how) = record { few = omega arith; below = λ is. is }
gone_below at flow whole (response_body side how most) = record { few = omega arith; below = λ is. is }
gone_below at flow whole (coming_down side how) = record { few = omega arith; below = λ is. is }
gone_below at flow whole (upgraded side) = record { few = omega arith; below = λ is. is }
gone_below at flow whole given_head = record { few = omega arith; below = λ is. is }
gone_below at flow whole given_body = record { few = omega arith; below = λ is. is }

ends_below_by : (g : Option ℕ) (place : Place) (at : At) (flow : Flow) (doing : Doing) (seen : Sight) → PassesBelow (busy at flow doing) (end_by g place at flow doing seen).stage
ends_below_by None place at flow doing seen = still_below (busy at flow doing)
ends_below_by (Some server) place at flow doing seen = gone_below at flow (with_whole flow seen.now) doing

-- is whole
ends_below : (terms : Terms) (stage : Stage) (seen : Sight) → PassesBelow stage (end_up terms stage seen).stage
ends_below terms (idle at) seen = still_below (idle at)
ends_below terms (busy at flow doing) seen = ends_below_by (gone_by (going_at doing) (whole_in seen)) terms.place at flow doing seen
ends_below terms (next at) seen = still_below (next at)
ends_below terms over seen = still_below over

behind_below : (stays keeps : Bool) (place : Place) (at : At) (flow : Flow) (request : Request) (side : ℕ) (doing : Doing) → (SideBelow (side_in at doing) at.dials → side < at.dials) →
    PassesBelow (busy at flow doing) (behind_flow stays (parks (stays && keeps) place at request side))
behind_below true true place at flow request side doing fits = record { few = omega arith; below = λ is. fits is }
behind_below true false place at flow request side doing fits = record { few = omega arith; below = λ is. tt }
behind_below false keeps place at flow request side doing fits = record { few = omega arith; below = λ is. tt }

came_below : (place : Place) (at : At) (flow from : Flow) (side : ℕ) (how : Sent) (seen : Sight) (came : Option Came) (doing : Doing) → (SideBelow (side_in at doing) at.dials → side < at.dials) →
    PassesBelow (busy at from doing) (pass_came place at flow side how seen came).stage
came_below place at flow from side how seen None doing fits = record { few = omega arith; below = λ is. fits is }
came_below place at flow from side how seen (Some came) doing fits =
    behind_below (is_sent how && goes_on_behind at.flow flow.request came) (keeps_side flow.request seen came.head) place at from flow.request side doing fits

kept_below : (streams : Bool) (place : Place) (at : At) (flow : Flow) (side : ℕ) (how : Sent) (most : Option ℕ) (seen : Sight) →
    PassesBelow (busy at flow (response_body side how most)) (pass_kept streams place at flow side how most seen).stage
kept_below true place at flow side how most seen =
    came_below place at (streaming flow) flow side how seen (came_in (streaming flow) seen) (response_body side how most) (λ is. is)
kept_below false place at flow side how most seen = still_below (busy at flow (response_body side how most))

-- and where a response comes down
comes_below : (terms : Terms) (stage : Stage) (seen : Sight) → PassesBelow stage (come_down terms stage seen).stage
comes_below terms (idle at) seen = still_below (idle at)
comes_below terms (busy at flow (request_body given size)) seen = still_below (busy at flow (request_body given size))
comes_below terms (busy at flow (connection how)) seen = still_below (busy at flow (connection how))
comes_below terms (busy at flow (response_head side how)) seen = still_below (busy at flow (response_head side how))
comes_below terms (busy at flow (response_body side how most)) seen = kept_below (streams_in flow most seen) terms.place at flow side how most seen
comes_below terms (busy at flow (coming_down side how)) seen =
    came_below terms.place at flow flow side how seen (came_in flow seen) (coming_down side how) (λ is. is)
comes_below terms (busy at flow (upgraded side)) seen = still_below (busy at flow (upgraded side))
comes_below terms (busy at flow given_head) seen = still_below (busy at flow given_head)
comes_below terms (busy at flow given_body) seen = still_below (busy at flow given_body)
comes_below terms (next at) seen = still_below (next at)
comes_below terms over seen = still_below over

passes_below : (terms : Terms) (stage : Stage) (seen : Sight) → PassesBelow stage (pass terms stage seen).stage
passes_below terms stage seen =
    let begun : Stage = begin_up terms stage seen in
    let there : Stage = gone_up terms stage seen in
    let to : Stage = (pass terms stage seen).stage in
    below_both stage begun to (begins_below terms stage seen)
    (below_both begun there to (ends_below terms begun (sight_begun stage seen)) (comes_below terms there (sight_gone terms stage seen)))

-- no more servers were dialled where it passes
pub passes_few : (terms : Terms) (stage : Stage) (seen : Sight) → dialled (pass terms stage seen).stage ≤ dialled stage
passes_few terms stage seen = (passes_below terms stage seen).few

-- A server behind those that were dialled is sent nothing where it passes.
pub pass_far : (server : ℕ) (terms : Terms) (stage : Stage) (seen : Sight) → ServersBelow stage → dialled stage ≤ server → IsSilent server (pass terms stage seen).owed
pass_far server terms stage seen below few =
    let begins = begins_below terms stage seen in
    let fewer = begins.few in
    pass_silent server terms stage seen (not_up_below server (begin_up terms stage seen) (begins.below below) (omega arith))

-- nor while it waits
pub so_far_far : (server : ℕ) (terms : Terms) (stage : Stage) (seen : Sight) → ServersBelow stage → dialled stage ≤ server → IsSilent server (so_far terms stage seen)
so_far_far server terms stage seen below few = so_far_silent server terms stage seen (not_up_below server stage below few)

sequence_same : (stage : Stage) → dialled (sequence stage) ≡ dialled stage
sequence_same (idle at) = refl
sequence_same (busy at flow doing) = refl
sequence_same (next at) = refl
sequence_same over = refl

pub onward_same : (onward : Stage → Stage) → IsOnward onward → (stage : Stage) → dialled (onward stage) ≡ dialled stage
onward_same onward (is_alone is) stage = ap (λ f. dialled (f stage)) is
onward_same onward (is_sequence is) stage = ap (λ f. dialled (f stage)) is ∙ sequence_same stage

-- ---- the counts of the chain

-- where the next flow begins, the servers stay below
below_onward : (onward : Stage → Stage) → IsOnward onward → (stage : Stage) → ServersBelow stage → ServersBelow (onward stage)
below_onward onward goes stage below = rw (side_onward onward goes stage, onward_same onward goes stage) below

-- and behind a reply
below_between : (was : Before) (least most : ℕ) (stage : Stage) → IsBetween was least most stage → ServersBelow stage
below_between was least most (idle at) between = between.1
below_between was least most (busy at flow doing) between = between.1
below_between was least most (next at) between = between.1
below_between was least most over between = tt

few_between : (was : Before) (least most : ℕ) (stage : Stage) → IsBetween was least most stage → dialled stage ≤ most
few_between was least most (idle at) between = between.0.1
few_between was least most (busy at flow doing) between = between.0.1
few_between was least most (next at) between = between.0.1
few_between was least most over between = omega arith

-- the count of a place
abbrev pub dialled_at : Standing → ℕ
dialled_at place = dialled place.stage

passes_counted : (onward : Stage → Stage) → IsOnward onward → (terms : Terms) (place : Standing) (seen : Sight) → AreBelow place →
    Counts dialled_at AreBelow (dialled place.stage) (record { owed = (pass terms place.stage seen).owed; stage = passed onward terms place seen })
passes_counted onward goes terms place seen below =
    let to : Stage = (pass terms place.stage seen).stage in
    let same = onward_same onward goes to in
    let fewer = passes_few terms place.stage seen in
    record {
      silent = λ server more. pass_far server terms place.stage seen below more;
      few = omega arith;
      stays = below_onward onward goes to ((passes_below terms place.stage seen).below below);
    }

pub turns_counted : (onward : Stage → Stage) → IsOnward onward → (terms : Terms) (place : Standing) (prefix : List (Timed Event)) (answer : Timed Reply) → AreBelow place →
    Counts dialled_at AreBelow (dialled place.stage + connects answer.value) ((http_chain onward terms).turn place prefix answer)
turns_counted onward goes terms place prefix answer below =
    let seen : Sight = sight_over place prefix in
    let from : Stage = place.stage in
    let led = turn_leads (dialled from + connects answer.value) terms from seen answer below (beyond_by (dialled from + connects answer.value) answer.value from (omega arith)) in
    let turned : Stage = (turn terms from seen answer).stage in
    let same = onward_same onward goes turned in
    let fewer = few_between (before_at from) (dialled from) (dialled from + connects answer.value) turned led.1 in
    record {
      silent = λ server more. (turn_leads server terms from seen answer below (beyond_by server answer.value from more)).0;
      few = omega arith;
      stays = below_onward onward goes turned (below_between (before_at from) (dialled from) (dialled from + connects answer.value) turned led.1);
    }

-- A conversation of HTTP, or one flow, sends to servers that were dialled and connected before, the one whose side is open among them.
pub http_counts : (onward : Stage → Stage) → IsOnward onward → (terms : Terms) → CountsServers (http_chain onward terms) dialled_at AreBelow
http_counts onward goes terms = record {
  passes = λ place prefix below. passes_counted onward goes terms place (sight_over place prefix) below;
  looks = λ place prefix below server more. looks_silent server terms place.stage (sight_over place prefix);
  waits = λ place prefix below server more. so_far_far server terms place.stage (sight_over place prefix) below more;
  behind = λ place prefix below server more. behind_silent server place.stage (sight_over place prefix);
  turns = λ place prefix ask answer below asked. turns_counted onward goes terms place prefix answer below;
}

-- One that begins with a parked side among so many servers sends nothing to a server that the answers do not reach.
pub silent_with : (onward : Stage → Stage) → IsOnward onward → (terms : Terms) (at : At) → ParkedBelow at.parked at.dials →
    (server : ℕ) (moves : List Move) → at.dials + connections moves ≤ server → IsSilent server (due_by (http_chain onward terms) (begin (idle at)) moves)
silent_with onward goes terms at below server moves few =
    counted_from (http_chain onward terms) dialled_at AreBelow (http_counts onward goes terms) server (begin (idle at)) moves (parked_below at.parked at.dials below) few

none_below : (at : At) → at.parked ≡ None → ParkedBelow at.parked at.dials
none_below at none = rw none tt

-- A conversation, or one flow, that begins with no server sends nothing to a server whose dial was not answered with its
-- connection.
pub silent_from : (onward : Stage → Stage) → IsOnward onward → (terms : Terms) (at : At) → at.parked ≡ None → at.dials ≡ 0 → (server : ℕ) (moves : List Move) →
    NoAnswer server moves → IsSilent server (due_by (http_chain onward terms) (begin (idle at)) moves)
silent_from onward goes terms at alone first server moves none =
    counted_silent (http_chain onward terms) dialled_at AreBelow (http_counts onward goes terms) server (begin (idle at)) moves
    (parked_below at.parked at.dials (none_below at alone)) first none

nothing_found : (terms : Terms) (at : At) (leaves : List Command) (used : Used) → found (or_leaves false leaves (look_head terms at.flow (request_item []) 0 used false)) ≡ []
nothing_found terms at leaves used =
    let empty : request_item [] ≡ missing = refl in ap (λ i. found (or_leaves false leaves (look_head terms at.flow i 0 used false))) empty

-- nor was a byte of a parked side heard
nothing_heard : (side : Option ℕ) → bytes_over side 0 [] ≡ []
nothing_heard None = refl
nothing_heard (Some side) = refl

nothing_due : (terms : Terms) (at : At) (strays leaves : List Command) (used : Used) → strays ≡ [] →
    (strays ++ []) ++ found (or_leaves false leaves (look_head terms at.flow (request_item []) 0 used false)) ≡ []
nothing_due terms at strays leaves used none = rw none (nothing_found terms at leaves used)

begins_silent : (terms : Terms) (at : At) →
    let seen : Sight = sight_over (begin (idle at)) [] in
    let used : Used = server_parked (unspoilt_at at seen).parked seen in
    (shut_stray at.parked seen ++ []) ++ found (or_leaves false (shut_server used) (look_head terms at.flow (request_item []) 0 used false)) ≡ []
begins_silent terms at =
    let seen : Sight = sight_over (begin (idle at)) [] in
    let used : Used = server_parked (unspoilt_at at seen).parked seen in
    nothing_due terms at (shut_stray at.parked seen) (shut_server used) used (nothing_strays at.parked seen (nothing_heard (side_parked at.parked)))

-- Where no move was made nothing is due.
pub nothing_yet : (onward : Stage → Stage) → IsOnward onward → (terms : Terms) (at : At) → due_by (http_chain onward terms) (begin (idle at)) [] ≡ []
nothing_yet onward (is_alone is) terms at = rw is (begins_silent terms at)
nothing_yet onward (is_sequence is) terms at = rw is (begins_silent terms at)
