-- What a conversation sends goes to servers that are connected: those that were dialled before its stage, of which the side that is open
-- is one. And before the first move nobody is sent anything.
use Rattle.std.proofs.Common.{◌≡◌, ℕ, ◌+◌, ◌≤◌, ◌<◌, Bool, true, false, cond, List, [], ◌∷◌, ◌++◌, Option, Some, None, refl, arith}
use Rattle.std.specs.Prelude.{⊤, ◌==◌, ◌&&◌, map}
use Rattle.px_message.specs.declared.fault.Fault.{Fault}
use Rattle.px_message.specs.declared.fault.Fault.TheVariants.{BadResponse}
use Rattle.px_message.specs.declared.flow.Flow.{Flow}
use Rattle.px_message.specs.declared.request.Request.{Request}
use Rattle.px_message.specs.declared.response.Response.{Response}
use Rattle.px_message.specs.declared.version.Version.{Version}
use Rattle.px_message.specs.declared.version.Version.TheVariants as versions
use Rattle.px_event.specs.declared.command.Command.{Command}
use Rattle.px_event.specs.declared.reply.Reply.{Reply}
use Rattle.px_event.specs.declared.reply.Reply.TheVariants as reply
use Rattle.px_event.specs.declared.side.Side.{Side}
use Rattle.px_event.specs.declared.side.Side.TheVariants.{Server}
use Rattle.px_event.specs.Chain.{Timed, Look, NotYet, Asks, Ends, Turn, found}
use Rattle.px_event.specs.View.{bytes_in, close}
use Rattle.px_read.specs.Items.{Item, missing, part, complete, bad_head, bad_body}
use Rattle.px_read.specs.declared.head.RequestHead.{RequestHead as ReadRequest}
use Rattle.px_read.specs.declared.head.ResponseHead.{ResponseHead as ReadResponse}
use Rattle.px_exchange.specs.declared.asked.Judged.{Judged}
use Rattle.px_exchange.specs.declared.asked.Judged.TheVariants.{Refused, Accepted, Connects}
use Rattle.px_exchange.specs.declared.ending.Used.{Used}
use Rattle.px_exchange.specs.declared.ending.Used.TheVariants.{NoServer, ByServer}
use Rattle.px_exchange.specs.declared.place.Place.{Place}
use Rattle.px_exchange.specs.declared.taken.Taken.{Taken}
use Rattle.px_exchange.specs.declared.taken.Taken.TheVariants.{GoesOn, Responds, Kills}
use Rattle.px_exchange.specs.declared.terms.Terms.{Terms}
use Rattle.px_exchange.specs.Dials.{connected_owes}
use Rattle.px_exchange.specs.Endings.{shut_all, shut_server, shut_client, shut_unless, without_response, killed_message, closed_message, ends_early, ends_by_fault, refuses, finished, connection_goes_on, unless_kept}
use Rattle.px_exchange.specs.Finds.{or_leaves, look_head, look_judged, look_body, look_answer, look_answer_head, look_returned, is_relayed}
use Rattle.px_exchange.specs.Flows.{response_of, with_answer, with_body, with_returned}
use Rattle.px_exchange.specs.Places.{is_same_address, server_for}
use Rattle.px_exchange.specs.Replies.{taken_at_request_body, taken_at_request_head, taken_at_response_body, taken_at_response_head}
use Rattle.px_exchange.specs.Requests.{is_head, expects, flow_of, judged}
use Rattle.px_exchange.specs.Texts.{meets_expectation, interim_command, interim_commands}
use Rattle.px_chain.specs.Chain.{bad_or, begin_up, behind, behind_flow, behind_unspoilt, come_down, dial_leads, dial_owes_by, end_by, end_up, find, find_unspoilt, finish_by, finish_given, given_at, goes_on_by, going_at, gone_by, gone_up, keeps_came, killed, leaving, look, look_coming, look_up, parked_for, pass, pass_came, pass_kept, side_if, sight_begun, sight_gone, so_far, turn, turn_answer, turn_answer_head, turn_body, turn_head, turn_judged, turn_response, turn_returned, turn_taken_answer, turn_taken_body, turn_taken_given, turn_taken_head, turn_taken_returned, turn_taken_whole, turn_whole_answer}
use Rattle.px_chain.specs.Keeping.{is_silent, keeps_side, parks, shut_by_byte, shut_stray, unspoilt, unspoilt_at, unspoilt_by}
use Rattle.px_chain.specs.Silent.{ParkedBelow, connects}
use Rattle.px_chain.specs.Sights.{Sight, Standing, answers_in, request_in, server_in, server_parked}
use Rattle.px_chain.specs.Stages.{At, Parked, Stage, busy, coming_down, connection, given_body, given_head, idle, next, over, place_of, request_body, response_body, response_head, side_in, side_of, side_parked, unparked, upgraded, Doing, Sent, all_sent, going_up}
use Rattle.px_chain.proofs.CountedLemmas.{IsSilent, silent_both}
use Rattle.px_chain.proofs.NotUp.{IsNotUp, IsNotUpBy, gone_not_up, gone_other, other_server}
use Rattle.px_chain.specs.Coming.{Came, allowed_by, came_in, finished_coming, goes_on_behind, sends_coming, streaming, streams_in}
use Rattle.px_chain.specs.Going.{allowed_up_by, is_sent, sends_going, whole_in}
use Rattle.px_write.specs.Error.{fault_message}

-- how many servers were dialled before the stage's flow dials
abbrev pub dialled : Stage → ℕ
dialled stage = (place_of stage).dials

-- the side's server is among the first so many
abbrev pub SideBelow : Option ℕ → ℕ → Type 0
SideBelow None dials = ⊤
SideBelow (Some side) dials = side < dials

-- At the stage the server of the side that is open is among those that were dialled; at the end none is open.
abbrev pub ServersBelow : Stage → Type 0
ServersBelow stage = SideBelow (side_of stage) (dialled stage)

-- So is it at a place.
abbrev pub AreBelow : Standing → Type 0
AreBelow place = ServersBelow place.stage

-- the side that is parked at a stage, and the one that its flow uses whose response is awaited whole
pub record Before : Type 0 where
  pub parked : Option Parked
  pub own : Option ℕ

abbrev pub own_in : Doing → Option ℕ
own_in (response_body side how most) = Some side
own_in doing = None

abbrev pub own_of : Stage → Option ℕ
own_of (busy at flow doing) = own_in doing
own_of stage = None

abbrev pub before_at : Stage → Before
before_at stage = record { parked = (place_of stage).parked; own = own_of stage }

-- The same side is parked as before, or none, or the one that the flow used which ended.
pub data IsParkedFrom (was : Before) (later : Option Parked) : Type 0 where
  same_parked : later ≡ was.parked → IsParkedFrom was later
  none_parked : later ≡ None → IsParkedFrom was later
  own_parked : (own : Parked) → was.own ≡ Some own.server → later ≡ Some own → IsParkedFrom was later

-- so many servers were dialled at least, and at most so many, and the side is parked that was, or the flow's own, or none
abbrev pub IsFew : Before → ℕ → ℕ → At → Type 0
IsFew was least most at = (least ≤ at.dials) × (at.dials ≤ most) × IsParkedFrom was at.parked

-- so is it at the stage, with the server whose side is open; at the end that counts for nothing
abbrev pub IsBetween : Before → ℕ → ℕ → Stage → Type 0
IsBetween was least most (idle at) = IsFew was least most at × SideBelow (side_parked at.parked) at.dials
IsBetween was least most (busy at flow doing) = IsFew was least most at × SideBelow (side_in at doing) at.dials
IsBetween was least most (next at) = IsFew was least most at × SideBelow (side_parked at.parked) at.dials
IsBetween was least most over = ⊤

-- a parked side whose keeping has ended is parked no more
pub unspoilt_parked : (silent : Bool) (was : Before) (parked : Option Parked) → parked ≡ was.parked → IsParkedFrom was (unspoilt_by silent parked)
unspoilt_parked true was parked is = same_parked is
unspoilt_parked false was parked is = none_parked refl

pub unspoilt_below : (silent : Bool) (parked : Option Parked) (dials : ℕ) → SideBelow (side_parked parked) dials → SideBelow (side_parked (unspoilt_by silent parked)) dials
unspoilt_below true parked dials below = below
unspoilt_below false parked dials below = tt

-- the server is none that a reply can send to at this stage
abbrev pub IsBeyond : ℕ → Reply → Stage → Type 0
IsBeyond server answer (busy at flow (request_body given size)) = at.dials ≤ server
IsBeyond server answer (busy at flow (connection how)) = at.dials + connects answer ≤ server
IsBeyond server answer stage = ⊤

pub beyond_by : (server : ℕ) (answer : Reply) (stage : Stage) → dialled stage + connects answer ≤ server → IsBeyond server answer stage
beyond_by server answer (idle at) before = tt
beyond_by server answer (busy at flow (request_body given size)) before = omega arith
beyond_by server answer (busy at flow (connection how)) before = before
beyond_by server answer (busy at flow (response_head side how)) before = tt
beyond_by server answer (busy at flow (response_body side how most)) before = tt
beyond_by server answer (busy at flow (coming_down side how)) before = tt
beyond_by server answer (busy at flow (upgraded side)) before = tt
beyond_by server answer (busy at flow given_head) before = tt
beyond_by server answer (busy at flow given_body) before = tt
beyond_by server answer (next at) before = tt
beyond_by server answer over before = tt

-- a parked side among those that were dialled, and so the one that a request goes to
pub parked_below : (parked : Option Parked) (dials : ℕ) → ParkedBelow parked dials → SideBelow (side_parked parked) dials
parked_below None dials below = tt
parked_below (Some parked) dials below = below

side_if_below : (to_it : Bool) (side : ℕ) (dials : ℕ) → side < dials → SideBelow (side_if to_it side) dials
side_if_below true side dials below = below
side_if_below false side dials below = tt

pub for_below : (place : Place) (request : Request) (parked : Option Parked) (dials : ℕ) → SideBelow (side_parked parked) dials →
    SideBelow (parked_for place request parked) dials
for_below place request None dials below = tt
for_below place request (Some parked) dials below = side_if_below (is_same_address parked.address (server_for place request)) parked.server dials below

-- a server behind those that were dialled is none that a request goes up to
pub not_up_below : (server : ℕ) (stage : Stage) → ServersBelow stage → dialled stage ≤ server → IsNotUp server stage
not_up_below server (idle at) below few = tt
not_up_below server (busy at flow (request_body given size)) below few = tt
not_up_below server (busy at flow (connection how)) below few = tt
not_up_below server (busy at flow (response_head side all_sent)) below few = tt
not_up_below server (busy at flow (response_head side going_up)) below few = other_server server side (omega arith) (side == server) refl
not_up_below server (busy at flow (response_body side all_sent most)) below few = tt
not_up_below server (busy at flow (response_body side going_up most)) below few = other_server server side (omega arith) (side == server) refl
not_up_below server (busy at flow (coming_down side all_sent)) below few = tt
not_up_below server (busy at flow (coming_down side going_up)) below few = other_server server side (omega arith) (side == server) refl
not_up_below server (busy at flow (upgraded side)) below few = tt
not_up_below server (busy at flow given_head) below few = tt
not_up_below server (busy at flow given_body) below few = tt
not_up_below server (next at) below few = tt
not_up_below server over below few = tt

module _ (server : ℕ) where
  -- a close has no bytes
  close_silent : (side : Side) (same : Bool) → bytes_in (cond same (close side ∷ []) [] ++ []) ≡ []
  close_silent side true = refl
  close_silent side false = refl

  -- ---- ends

  client_silent : (closed : Bool) → IsSilent server (shut_client closed)
  client_silent true = refl
  client_silent false = refl

  server_silent : (used : Used) → IsSilent server (shut_server used)
  server_silent NoServer = refl
  server_silent (ByServer number true) = refl
  server_silent (ByServer number false) = close_silent (Server number) (number == server)

  all_silent : (used : Used) (closed : Bool) → IsSilent server (shut_all used closed)
  all_silent used closed = silent_both server (shut_server used) (shut_client closed) (server_silent used) (client_silent closed)

  pub early_silent : (flow : Flow) (message : List ℕ) (moment : ℕ) (used : Used) (closed : Bool) → IsSilent server (ends_early flow message moment used closed)
  early_silent flow message moment used closed = all_silent used closed

  pub fault_silent : (flow : Flow) (fault : Fault) (moment : ℕ) (used : Used) (closed : Bool) → IsSilent server (ends_by_fault flow fault moment used closed)
  fault_silent flow fault moment used closed = all_silent used closed

  refuses_silent : (fault : Fault) (asked_head : Bool) (used : Used) (closed : Bool) → IsSilent server (refuses fault asked_head used closed)
  refuses_silent fault asked_head used closed = all_silent used closed

  unless_silent : (stays : Bool) (used : Used) (closed : Bool) → IsSilent server (shut_unless stays used closed)
  unless_silent true used closed = refl
  unless_silent false used closed = all_silent used closed

  finished_silent : (flow : Flow) (response : Response) (used : Used) → IsSilent server (finished flow response used)
  finished_silent flow response used = server_silent used

  -- ---- while it waits

  interim_silent : (heads : List ReadResponse) → IsSilent server (map interim_command heads)
  interim_silent [] = refl
  interim_silent (head ∷ heads) = interim_silent heads

  interim_by : (version : Version) (message : Request) (heads : List ReadResponse) → message.version ≡ version → IsSilent server (interim_commands message heads)
  interim_by versions.Http10 message heads is = rw is refl
  interim_by versions.Http11 message heads is = rw is (interim_silent heads)

  -- the request goes up to another server, or to none
  pub up_silent : (place : Place) (flow : Flow) (side : ℕ) (seen : Sight) → (side == server) ≡ false → IsSilent server (sends_going place flow side seen)
  up_silent place flow side seen other = rw other refl

  pub waits_silent : (message : Request) (heads : List ReadResponse) → IsSilent server (interim_commands message heads)
  waits_silent message heads = interim_by message.version message heads refl

  -- at the byte of a parked side it is closed
  byte_silent : (number : ℕ) (bytes : List ℕ) → IsSilent server (shut_by_byte number bytes ++ [])
  byte_silent number [] = refl
  byte_silent number (first ∷ more) = close_silent (Server number) (number == server)

  pub stray_silent : (parked : Option Parked) (seen : Sight) → IsSilent server (shut_stray parked seen ++ [])
  stray_silent None seen = refl
  stray_silent (Some parked) seen = byte_silent parked.server seen.server

  pub so_far_silent : (terms : Terms) (stage : Stage) (seen : Sight) → IsNotUp server stage → IsSilent server (so_far terms stage seen)
  so_far_silent terms (idle at) seen other = stray_silent at.parked seen
  so_far_silent terms (busy at flow (request_body given size)) seen other = stray_silent at.parked seen
  so_far_silent terms (busy at flow (connection how)) seen other = stray_silent at.parked seen
  so_far_silent terms (busy at flow (response_head side all_sent)) seen other = waits_silent flow.request _
  so_far_silent terms (busy at flow (response_head side going_up)) seen other =
      silent_both server (sends_going terms.place flow side seen) (interim_commands flow.request (answers_in flow.request seen).interim) (up_silent terms.place flow side seen other)
      (waits_silent flow.request (answers_in flow.request seen).interim)
  so_far_silent terms (busy at flow (response_body side all_sent most)) seen other = refl
  so_far_silent terms (busy at flow (response_body side going_up most)) seen other = up_silent terms.place flow side seen other
  so_far_silent terms (busy at flow (coming_down side all_sent)) seen other = refl
  so_far_silent terms (busy at flow (coming_down side going_up)) seen other =
      silent_both server (sends_going terms.place flow side seen) (sends_coming flow seen) (up_silent terms.place flow side seen other) refl
  so_far_silent terms (busy at flow (upgraded side)) seen other = refl
  so_far_silent terms (busy at flow given_head) seen other = stray_silent at.parked seen
  so_far_silent terms (busy at flow given_body) seen other = stray_silent at.parked seen
  so_far_silent terms (next at) seen other = stray_silent at.parked seen
  so_far_silent terms over seen other = refl

  -- ---- behind an ask

  behind_silent_by : (stage : Stage) (seen : Sight) → IsSilent server (behind_unspoilt stage seen)
  behind_silent_by (idle at) seen = refl
  behind_silent_by (busy at flow (request_body given size)) seen = refl
  behind_silent_by (busy at flow (connection how)) seen = server_silent (server_parked at.parked seen)
  behind_silent_by (busy at flow (response_head side how)) seen = refl
  behind_silent_by (busy at flow (response_body side how most)) seen = refl
  behind_silent_by (busy at flow (coming_down side how)) seen = refl
  behind_silent_by (busy at flow (upgraded side)) seen = refl
  behind_silent_by (busy at flow given_head) seen = refl
  behind_silent_by (busy at flow given_body) seen = refl
  behind_silent_by (next at) seen = refl
  behind_silent_by over seen = refl

  pub behind_silent : (stage : Stage) (seen : Sight) → IsSilent server (behind stage seen)
  behind_silent stage seen = behind_silent_by (unspoilt stage seen) seen

  -- ---- where it passes

  -- behind what of its request is sent
  pub finished_down : (flow : Flow) (used : Used) (seen : Sight) (stays : Bool) → IsSilent server (finished_coming flow seen used ++ shut_unless stays NoServer seen.closed)
  finished_down flow used seen stays =
      silent_both server (shut_server used) (shut_unless stays NoServer seen.closed) (server_silent used) (unless_silent stays NoServer seen.closed)

  pub came_silent : (place : Place) (at : At) (flow : Flow) (side : ℕ) (how : Sent) (seen : Sight) (came : Option Came) → IsNotUpBy server (going_at (coming_down side how)) →
      IsSilent server (pass_came place at flow side how seen came).owed
  came_silent place at flow side how seen None other = refl
  came_silent place at flow side all_sent seen (Some came) other =
      finished_down flow (unless_kept (keeps_came at flow all_sent seen came) (server_in side seen)) seen (is_sent all_sent && goes_on_behind at.flow flow.request came)
  came_silent place at flow side going_up seen (Some came) other =
      let stays : Bool = is_sent going_up && goes_on_behind at.flow flow.request came in
      let used : Used = unless_kept (keeps_came at flow going_up seen came) (server_in side seen) in
      silent_both server (sends_going place flow side seen) (finished_coming flow seen used ++ shut_unless stays NoServer seen.closed) (up_silent place flow side seen other)
      (finished_down flow used seen stays)

  kept_silent : (streams : Bool) (place : Place) (at : At) (flow : Flow) (side : ℕ) (how : Sent) (most : Option ℕ) (seen : Sight) → IsNotUpBy server (going_at (coming_down side how)) →
      IsSilent server (pass_kept streams place at flow side how most seen).owed
  kept_silent true place at flow side how most seen other = came_silent place at (streaming flow) side how seen (came_in (streaming flow) seen) other
  kept_silent false place at flow side how most seen other = refl

  come_silent : (terms : Terms) (stage : Stage) (seen : Sight) → IsNotUp server stage → IsSilent server (come_down terms stage seen).owed
  come_silent terms (idle at) seen other = refl
  come_silent terms (busy at flow (request_body given size)) seen other = refl
  come_silent terms (busy at flow (connection how)) seen other = refl
  come_silent terms (busy at flow (response_head side how)) seen other = refl
  come_silent terms (busy at flow (response_body side all_sent most)) seen other = kept_silent (streams_in flow most seen) terms.place at flow side all_sent most seen other
  come_silent terms (busy at flow (response_body side going_up most)) seen other = kept_silent (streams_in flow most seen) terms.place at flow side going_up most seen other
  come_silent terms (busy at flow (coming_down side how)) seen other = came_silent terms.place at flow side how seen (came_in flow seen) other
  come_silent terms (busy at flow (upgraded side)) seen other = refl
  come_silent terms (busy at flow given_head) seen other = refl
  come_silent terms (busy at flow given_body) seen other = refl
  come_silent terms (next at) seen other = refl
  come_silent terms over seen other = refl

  -- it is whole, and then goes up to none
  ended_silent : (g : Option ℕ) (terms : Terms) (at : At) (flow : Flow) (doing : Doing) (seen : Sight) → gone_by (going_at doing) (whole_in seen) ≡ g → IsNotUpBy server (going_at doing) →
      IsSilent server (end_by g terms.place at flow doing seen).owed × IsNotUp server (end_by g terms.place at flow doing seen).stage
  ended_silent None terms at flow doing seen is other = (refl, other)
  ended_silent (Some side) terms at flow doing seen is other =
      (up_silent terms.place flow side seen (gone_other server (going_at doing) (whole_in seen) side is other), gone_not_up server doing)

  pub end_silent : (terms : Terms) (stage : Stage) (seen : Sight) → IsNotUp server stage → IsSilent server (end_up terms stage seen).owed × IsNotUp server (end_up terms stage seen).stage
  end_silent terms (idle at) seen other = (refl, tt)
  end_silent terms (busy at flow doing) seen other = ended_silent (gone_by (going_at doing) (whole_in seen)) terms at flow doing seen refl other
  end_silent terms (next at) seen other = (refl, tt)
  end_silent terms over seen other = (refl, tt)

  -- where no request goes up to the server, or begins to
  pub pass_silent : (terms : Terms) (stage : Stage) (seen : Sight) → IsNotUp server (begin_up terms stage seen) → IsSilent server (pass terms stage seen).owed
  pass_silent terms stage seen other =
      let begun : Stage = begin_up terms stage seen in
      let left : Sight = sight_begun stage seen in
      let ended = end_silent terms begun left other in
      silent_both server (end_up terms begun left).owed (come_down terms (gone_up terms stage seen) (sight_gone terms stage seen)).owed ended.0
      (come_silent terms (gone_up terms stage seen) (sight_gone terms stage seen) ended.1)

  -- ---- what is found

  module _ (terms : Terms) where
    judged_silent : (index : ℕ) (head : ReadRequest) (made : Judged) (moment : ℕ) (used : Used) (closed : Bool) → IsSilent server (found (look_judged terms index head made moment used closed))
    judged_silent index head (Refused fault) moment used closed = refuses_silent fault (is_head head.method) used closed
    judged_silent index head (Accepted message) moment used closed = refl
    judged_silent index head (Connects address) moment used closed = refl

    head_silent : (index : ℕ) (item : Item ReadRequest) (moment : ℕ) (used : Used) (closed : Bool) → IsSilent server (found (look_head terms index item moment used closed))
    head_silent index missing moment used closed = refl
    head_silent index (part head body) moment used closed = judged_silent index head (judged terms.place head) moment used closed
    head_silent index (complete head body trailers size) moment used closed = judged_silent index head (judged terms.place head) moment used closed
    head_silent index (bad_head fault) moment used closed = refuses_silent fault false used closed
    head_silent index (bad_body fault head body) moment used closed = judged_silent index head (judged terms.place head) moment used closed

    body_silent : (flow : Flow) (item : Item ReadRequest) (moment : ℕ) (used : Used) (closed : Bool) → IsSilent server (found (look_body flow item moment used closed))
    body_silent flow missing moment used closed = refl
    body_silent flow (part head body) moment used closed = refl
    body_silent flow (complete head body trailers size) moment used closed = refl
    body_silent flow (bad_head fault) moment used closed = refl
    body_silent flow (bad_body fault head body) moment used closed = fault_silent flow fault moment used closed

    relays_silent : (flow : Flow) (head : ReadResponse) (moment : ℕ) (used : Used) (closed relays : Bool) → is_relayed head.code ≡ relays →
        IsSilent server (found (look_answer_head flow head moment used closed))
    relays_silent flow head moment used closed true at = rw at refl
    relays_silent flow head moment used closed false at = rw at (fault_silent flow BadResponse moment used closed)

    answer_silent : (flow : Flow) (item : Item ReadResponse) (moment : ℕ) (used : Used) (closed : Bool) → IsSilent server (found (look_answer flow item moment used closed))
    answer_silent flow missing moment used closed = refl
    answer_silent flow (part head body) moment used closed = relays_silent flow head moment used closed (is_relayed head.code) refl
    answer_silent flow (complete head body trailers size) moment used closed = relays_silent flow head moment used closed (is_relayed head.code) refl
    answer_silent flow (bad_head fault) moment used closed = fault_silent flow fault moment used closed
    answer_silent flow (bad_body fault head body) moment used closed = relays_silent flow head moment used closed (is_relayed head.code) refl

    returned_silent : (flow : Flow) (item : Item ReadResponse) (moment : ℕ) (used : Used) (closed : Bool) → IsSilent server (found (look_returned flow item moment used closed))
    returned_silent flow missing moment used closed = refl
    returned_silent flow (part head body) moment used closed = refl
    returned_silent flow (complete head body trailers size) moment used closed = refl
    returned_silent flow (bad_head fault) moment used closed = refl
    returned_silent flow (bad_body fault head body) moment used closed = fault_silent flow fault moment used closed

    coming_silent : (flow : Flow) (item : Item ReadResponse) (moment : ℕ) (used : Used) (closed : Bool) → IsSilent server (found (look_coming flow item moment used closed))
    coming_silent flow missing moment used closed = refl
    coming_silent flow (part head body) moment used closed = refl
    coming_silent flow (complete head body trailers size) moment used closed = refl
    coming_silent flow (bad_head fault) moment used closed = refl
    coming_silent flow (bad_body fault head body) moment used closed = early_silent flow (fault_message fault) moment used closed

    -- a bad body of a request that goes up is found first
    bad_silent : (item : Item ReadRequest) (ends : Fault → List Command) (l : Look Command) → ((fault : Fault) → IsSilent server (ends fault)) → IsSilent server (found l) →
        IsSilent server (found (bad_or item ends l))
    bad_silent missing ends l silent is = is
    bad_silent (part head body) ends l silent is = is
    bad_silent (complete head body trailers size) ends l silent is = is
    bad_silent (bad_head fault) ends l silent is = is
    bad_silent (bad_body fault head body) ends l silent is = silent fault

    looks_up_silent : (how : Sent) (seen : Sight) (ends : Fault → List Command) (l : Look Command) → ((fault : Fault) → IsSilent server (ends fault)) → IsSilent server (found l) →
        IsSilent server (found (look_up how seen ends l))
    looks_up_silent all_sent seen ends l silent is = is
    looks_up_silent going_up seen ends l silent is = bad_silent (request_in seen) ends l silent is

    finds_silent : (stage : Stage) (seen : Sight) → IsSilent server (found (find_unspoilt terms stage seen))
    finds_silent (idle at) seen = head_silent at.flow (request_in seen) seen.now (server_parked at.parked seen) seen.closed
    finds_silent (busy at flow (request_body given size)) seen = body_silent flow (request_in seen) seen.now (server_parked at.parked seen) seen.closed
    finds_silent (busy at flow (connection how)) seen = refl
    finds_silent (busy at flow (response_head side how)) seen =
        looks_up_silent how seen _ _ (λ fault. fault_silent flow fault seen.now (server_in side seen) seen.closed)
        (answer_silent flow (answers_in flow.request seen).final seen.now (server_in side seen) seen.closed)
    finds_silent (busy at flow (response_body side how most)) seen =
        looks_up_silent how seen _ _ (λ fault. fault_silent flow fault seen.now (server_in side seen) seen.closed)
        (returned_silent flow (answers_in flow.request seen).final seen.now (server_in side seen) seen.closed)
    finds_silent (busy at flow (coming_down side how)) seen =
        looks_up_silent how seen _ _ (λ fault. early_silent flow (fault_message fault) seen.now (server_in side seen) seen.closed)
        (coming_silent flow (answers_in flow.request seen).final seen.now (server_in side seen) seen.closed)
    finds_silent (busy at flow (upgraded side)) seen = refl
    finds_silent (busy at flow given_head) seen = refl
    finds_silent (busy at flow given_body) seen = refl
    finds_silent (next at) seen = refl
    finds_silent over seen = refl

    leaving_silent : (stage : Stage) (seen : Sight) → IsSilent server (leaving stage seen)
    leaving_silent (idle at) seen = server_silent (server_parked at.parked seen)
    leaving_silent (busy at flow (request_body given size)) seen = early_silent flow closed_message seen.now (server_parked at.parked seen) true
    leaving_silent (busy at flow (connection how)) seen = refl
    leaving_silent (busy at flow (response_head side how)) seen = early_silent flow closed_message seen.now (server_in side seen) true
    leaving_silent (busy at flow (response_body side how most)) seen = early_silent (without_response flow) closed_message seen.now (server_in side seen) true
    leaving_silent (busy at flow (coming_down side how)) seen = early_silent flow closed_message seen.now (server_in side seen) true
    leaving_silent (busy at flow (upgraded side)) seen = refl
    leaving_silent (busy at flow given_head) seen = refl
    leaving_silent (busy at flow given_body) seen = refl
    leaving_silent (next at) seen = refl
    leaving_silent over seen = refl

    leaves_silent : (closed : Bool) (leaves : List Command) (l : Look Command) → IsSilent server leaves → IsSilent server (found l) → IsSilent server (found (or_leaves closed leaves l))
    leaves_silent true leaves NotYet silent is = silent
    leaves_silent false leaves NotYet silent is = refl
    leaves_silent closed leaves (Asks ask) silent is = is
    leaves_silent closed leaves (Ends owed) silent is = is

    pub looks_silent : (stage : Stage) (seen : Sight) → IsSilent server (found (look terms stage seen))
    looks_silent stage seen =
        let there : Stage = unspoilt stage seen in
        leaves_silent seen.closed (leaving there seen) (find terms stage seen) (leaving_silent there seen) (finds_silent there seen)

    -- ---- replies

    -- What a reply brings sends nothing to the server, and leads to where so many servers were dialled.
    abbrev Leads : Before → ℕ → ℕ → Turn Stage Command → Type 0
    Leads was least most turned = IsSilent server turned.owed × IsBetween was least most turned.stage

    module _ (was : Before) (least most : ℕ) where
      abbrev Few : At → Type 0
      Few at = IsFew was least most at

      -- so is it where none is parked any more
      without_it : (at : At) → Few at → Few (unparked at)
      without_it at few = (few.0, few.1, none_parked refl)

      -- and the one that is parked is among them
      abbrev Stays : At → Type 0
      Stays at = Few at × SideBelow (side_parked at.parked) at.dials

      over_leads : (owed : List Command) → IsSilent server owed → Leads was least most (record { owed = owed; stage = over })
      over_leads owed silent = (silent, tt)

      killed_leads : (flow : Flow) (moment : ℕ) (used : Used) (closed : Bool) → Leads was least most (killed flow moment used closed)
      killed_leads flow moment used closed = over_leads (ends_early flow killed_message moment used closed) (early_silent flow killed_message moment used closed)

      expectation_silent : (expected : Bool) → IsSilent server (meets_expectation expected)
      expectation_silent true = refl
      expectation_silent false = refl

      taken_head_leads : (at : At) (flow : Flow) (expected : Bool) (size : Option ℕ) (taken : Taken Request) (moment : ℕ) (seen : Sight) → Stays at → Leads was least most (turn_taken_head at flow expected size taken moment seen)
      taken_head_leads at flow expected size (GoesOn message) moment seen stays = (expectation_silent expected, stays)
      taken_head_leads at flow expected size (Responds response) moment seen stays = (expectation_silent expected, stays)
      taken_head_leads at flow expected size Kills moment seen stays = killed_leads flow moment (server_parked at.parked seen) seen.closed

      judged_leads : (at : At) (head : ReadRequest) (made : Judged) (seen : Sight) (answer : Timed Reply) → Stays at → Leads was least most (turn_judged terms at head made seen answer)
      judged_leads at head (Refused fault) seen answer stays = over_leads [] refl
      judged_leads at head (Connects address) seen answer stays = over_leads [] refl
      judged_leads at head (Accepted message) seen answer stays =
          taken_head_leads at (flow_of terms at.flow message seen.now) (expects head) (allowed_up_by terms.streams answer.value) (taken_at_request_head message answer.value) answer.moment seen stays

      head_leads : (at : At) (item : Item ReadRequest) (seen : Sight) (answer : Timed Reply) → Stays at → Leads was least most (turn_head terms at item seen answer)
      head_leads at missing seen answer stays = over_leads [] refl
      head_leads at (part head body) seen answer stays = judged_leads at head (judged terms.place head) seen answer stays
      head_leads at (complete head body trailers used) seen answer stays = judged_leads at head (judged terms.place head) seen answer stays
      head_leads at (bad_head fault) seen answer stays = over_leads [] refl
      head_leads at (bad_body fault head body) seen answer stays = judged_leads at head (judged terms.place head) seen answer stays

      connected_silent : (place : Place) (flow : Flow) (number : ℕ) → number + 1 ≤ server → IsSilent server (connected_owes place flow number)
      connected_silent place flow number before =
          let other : (number == server) ≡ false = other_server server number before (number == server) refl in rw other refl

      goes_on_leads : (side : Option ℕ) (place : Place) (at : At) (flow : Flow) → Stays at → at.dials ≤ server → SideBelow side at.dials →
          Leads was least most (goes_on_by side place at flow)
      goes_on_leads None place at flow stays before below = (refl, stays)
      goes_on_leads (Some side) place at flow stays before below = (connected_silent place flow side (omega arith), (without_it at stays.0, below))

      taken_body_leads : (place : Place) (at : At) (flow : Flow) (taken : Taken Request) (moment : ℕ) (seen : Sight) → Stays at → at.dials ≤ server →
          Leads was least most (turn_taken_body place at flow taken moment seen)
      taken_body_leads place at flow (GoesOn message) moment seen stays before =
          goes_on_leads (parked_for place message at.parked) place at (record flow { request = message }) stays before (for_below place message at.parked at.dials stays.1)
      taken_body_leads place at flow (Responds response) moment seen stays before = (refl, stays)
      taken_body_leads place at flow Kills moment seen stays before = killed_leads flow moment (server_parked at.parked seen) seen.closed

      body_leads : (place : Place) (at : At) (flow : Flow) (item : Item ReadRequest) (seen : Sight) (answer : Timed Reply) → Stays at → at.dials ≤ server →
          Leads was least most (turn_body place at flow item seen answer)
      body_leads place at flow missing seen answer stays before = over_leads [] refl
      body_leads place at flow (part head body) seen answer stays before = over_leads [] refl
      body_leads place at flow (complete head body trailers used) seen answer stays before =
          let asked_flow : Flow = with_body flow body.content trailers seen.now in
          taken_body_leads place at asked_flow (taken_at_request_body asked_flow.request answer.value) answer.moment seen stays before
      body_leads place at flow (bad_head fault) seen answer stays before = over_leads [] refl
      body_leads place at flow (bad_body fault head body) seen answer stays before = over_leads [] refl

      taken_answer_leads : (at : At) (flow : Flow) (side : ℕ) (how : Sent) (allowed : Option ℕ) (taken : Taken Response) (moment : ℕ) (used : Used) (closed : Bool) → Few at → side < at.dials →
          Leads was least most (turn_taken_answer at flow side how allowed taken moment used closed)
      taken_answer_leads at flow side how allowed (GoesOn message) moment used closed few below = (refl, (few, below))
      taken_answer_leads at flow side how allowed (Responds response) moment used closed few below = killed_leads (without_response flow) moment used closed
      taken_answer_leads at flow side how allowed Kills moment used closed few below = killed_leads (without_response flow) moment used closed

      answer_head_leads : (at : At) (flow : Flow) (side : ℕ) (how : Sent) (head : ReadResponse) (seen : Sight) (answer : Timed Reply) → Few at → side < at.dials →
          Leads was least most (turn_answer_head terms at flow side how head seen answer)
      answer_head_leads at flow side how head seen answer few below =
          taken_answer_leads at (with_answer flow (response_of head) seen.now) side how (allowed_by terms.streams answer.value) (taken_at_response_head (response_of head) answer.value) answer.moment (server_in side seen) seen.closed few below

      answer_leads : (at : At) (flow : Flow) (side : ℕ) (how : Sent) (item : Item ReadResponse) (seen : Sight) (answer : Timed Reply) → Few at → side < at.dials →
          Leads was least most (turn_answer terms at flow side how item seen answer)
      answer_leads at flow side how missing seen answer few below = over_leads [] refl
      answer_leads at flow side how (part head body) seen answer few below = answer_head_leads at flow side how head seen answer few below
      answer_leads at flow side how (complete head body trailers size) seen answer few below = answer_head_leads at flow side how head seen answer few below
      answer_leads at flow side how (bad_head fault) seen answer few below = over_leads [] refl
      answer_leads at flow side how (bad_body fault head body) seen answer few below = answer_head_leads at flow side how head seen answer few below

      behind_leads : (at : At) (owed : List Command) (goes_on : Bool) → IsSilent server owed → Stays at → Leads was least most (record { owed = owed; stage = behind_flow goes_on at })
      behind_leads at owed true silent stays = (silent, stays)
      behind_leads at owed false silent stays = over_leads owed silent

      finish_leads : (at : At) (flow : Flow) (message : Response) (parked : Used) (closed : Bool) → Stays at → Leads was least most (finish_given at flow message parked closed)
      finish_leads at flow message parked closed stays =
          let goes_on : Bool = connection_goes_on at.flow flow.request message in
          behind_leads at (finished flow message NoServer ++ shut_unless goes_on parked closed) goes_on
          (silent_both server (finished flow message NoServer) (shut_unless goes_on parked closed) (finished_silent flow message NoServer) (unless_silent goes_on parked closed)) stays

      taken_returned_leads : (at : At) (flow : Flow) (taken : Taken Response) (moment : ℕ) (parked : Used) (closed : Bool) → Stays at →
          Leads was least most (turn_taken_returned at flow taken moment parked closed)
      taken_returned_leads at flow (GoesOn message) moment parked closed stays = finish_leads at flow message parked closed stays
      taken_returned_leads at flow (Responds response) moment parked closed stays = killed_leads flow moment parked closed
      taken_returned_leads at flow Kills moment parked closed stays = killed_leads flow moment parked closed

      response_leads : (o : Option Response) (takes : Response → Taken Response) (goes : Taken Response → Turn Stage Command) → ((taken : Taken Response) → Leads was least most (goes taken)) →
          Leads was least most (turn_response o takes goes)
      response_leads None takes goes leads = over_leads [] refl
      response_leads (Some message) takes goes leads = leads (takes message)

      whole_answer_leads : (at : At) (flow : Flow) (answer : Timed Reply) (used : Used) (closed : Bool) → Stays at → Leads was least most (turn_whole_answer at flow answer used closed)
      whole_answer_leads at flow answer used closed stays =
          response_leads flow.response (λ message. taken_at_response_body message answer.value) (λ taken. turn_taken_returned at flow taken answer.moment used closed)
          (λ taken. taken_returned_leads at flow taken answer.moment used closed stays)

      -- behind its own side a flow leaves that, or none
      own_leads : (stays keeps : Bool) (place : Place) (at : At) (request : Request) (side : ℕ) (owed : List Command) → IsSilent server owed → Few at → side < at.dials → was.own ≡ Some side →
          Leads was least most (record { owed = owed; stage = behind_flow stays (parks (stays && keeps) place at request side) })
      own_leads true true place at request side owed silent few below own = (silent, ((few.0, few.1, own_parked _ own refl), below))
      own_leads true false place at request side owed silent few below own = (silent, (without_it at few, tt))
      own_leads false keeps place at request side owed silent few below own = over_leads owed silent

      finish_by_leads : (switches : Bool) (place : Place) (at : At) (flow : Flow) (how : Sent) (message : Response) (keeps : Bool) (side : ℕ) (used : Used) (closed : Bool) →
          Few at → side < at.dials → was.own ≡ Some side → Leads was least most (finish_by switches place at flow how message keeps side used closed)
      finish_by_leads true place at flow how message keeps side used closed few below own = (refl, (few, below))
      finish_by_leads false place at flow how message keeps side used closed few below own =
          let stays : Bool = is_sent how && connection_goes_on at.flow flow.request message in
          let rest : Used = unless_kept (stays && keeps) used in
          own_leads stays keeps place at flow.request side (finished flow message rest ++ shut_unless stays NoServer closed)
          (silent_both server (finished flow message rest) (shut_unless stays NoServer closed) (finished_silent flow message rest) (unless_silent stays NoServer closed)) few below own

      taken_whole_leads : (place : Place) (at : At) (flow : Flow) (side : ℕ) (how : Sent) (keeps : Bool) (taken : Taken Response) (moment : ℕ) (used : Used) (closed : Bool) →
          Few at → side < at.dials → was.own ≡ Some side → Leads was least most (turn_taken_whole place at flow side how keeps taken moment used closed)
      taken_whole_leads place at flow side how keeps (GoesOn message) moment used closed few below own =
          finish_by_leads (is_sent how && message.status == 101) place at flow how message keeps side used closed few below own
      taken_whole_leads place at flow side how keeps (Responds response) moment used closed few below own = killed_leads flow moment used closed
      taken_whole_leads place at flow side how keeps Kills moment used closed few below own = killed_leads flow moment used closed

      returned_leads : (place : Place) (at : At) (flow : Flow) (side : ℕ) (how : Sent) (item : Item ReadResponse) (seen : Sight) (answer : Timed Reply) →
          Few at → side < at.dials → was.own ≡ Some side → Leads was least most (turn_returned place at flow side how item seen answer)
      returned_leads place at flow side how missing seen answer few below own = over_leads [] refl
      returned_leads place at flow side how (part head body) seen answer few below own = over_leads [] refl
      returned_leads place at flow side how (complete head body trailers size) seen answer few below own =
          let asked_flow : Flow = with_returned flow body.content trailers seen.now in
          let keeps : Bool = keeps_side flow.request seen head in
          response_leads asked_flow.response (λ message. taken_at_response_body message answer.value)
          (λ taken. turn_taken_whole place at asked_flow side how keeps taken answer.moment (server_in side seen) seen.closed)
          (λ taken. taken_whole_leads place at asked_flow side how keeps taken answer.moment (server_in side seen) seen.closed few below own)
      returned_leads place at flow side how (bad_head fault) seen answer few below own = over_leads [] refl
      returned_leads place at flow side how (bad_body fault head body) seen answer few below own = over_leads [] refl

      given_leads : (at : At) (flow : Flow) (taken : Taken Response) (moment : ℕ) (parked : Used) (closed : Bool) → Stays at →
          Leads was least most (turn_taken_given at flow taken moment parked closed)
      given_leads at flow (GoesOn message) moment parked closed stays = (refl, stays)
      given_leads at flow (Responds response) moment parked closed stays = killed_leads (without_response flow) moment parked closed
      given_leads at flow Kills moment parked closed stays = killed_leads (without_response flow) moment parked closed

      connected_leads : (at : At) (flow : Flow) (how : Sent) (answer : Reply) (moment : ℕ) (closed : Bool) → at.dials + connects answer ≤ server → least ≤ at.dials → at.dials + connects answer ≤ most →
          Leads was least most (record { owed = dial_owes_by how terms.place flow at.dials answer moment closed; stage = dial_leads terms.place at flow how answer })
      connected_leads at flow all_sent reply.Dialled moment closed before few many =
          (connected_silent terms.place flow at.dials before, ((omega arith, many, none_parked refl), omega arith))
      connected_leads at flow all_sent (reply.Refused fault) moment closed before few many = over_leads (ends_by_fault flow fault moment NoServer closed) (fault_silent flow fault moment NoServer closed)
      connected_leads at flow all_sent (reply.Go other stream) moment closed before few many = over_leads [] refl
      connected_leads at flow all_sent (reply.Respond given) moment closed before few many = over_leads [] refl
      connected_leads at flow all_sent reply.Kill moment closed before few many = over_leads [] refl
      connected_leads at flow all_sent reply.Discard moment closed before few many = over_leads [] refl
      connected_leads at flow going_up reply.Dialled moment closed before few many = (refl, ((omega arith, many, none_parked refl), omega arith))
      connected_leads at flow going_up (reply.Refused fault) moment closed before few many = over_leads (ends_by_fault flow fault moment NoServer closed) (fault_silent flow fault moment NoServer closed)
      connected_leads at flow going_up (reply.Go other stream) moment closed before few many = over_leads [] refl
      connected_leads at flow going_up (reply.Respond given) moment closed before few many = over_leads [] refl
      connected_leads at flow going_up reply.Kill moment closed before few many = over_leads [] refl
      connected_leads at flow going_up reply.Discard moment closed before few many = over_leads [] refl

    -- where the keeping of a parked side has ended it counts for nothing
    same_at : (was : Before) (at : At) (seen : Sight) (most : ℕ) → at.parked ≡ was.parked → at.dials ≤ most → IsFew was at.dials most (unspoilt_at at seen)
    same_at was at seen most is few = (omega arith, few, unspoilt_parked (is_silent seen.server seen.shut) was at.parked is)

    stays_at : (was : Before) (at : At) (seen : Sight) (most : ℕ) → at.parked ≡ was.parked → at.dials ≤ most → SideBelow (side_parked at.parked) at.dials →
        IsFew was at.dials most (unspoilt_at at seen) × SideBelow (side_parked (unspoilt_at at seen).parked) at.dials
    stays_at was at seen most is few below = (same_at was at seen most is few, unspoilt_below (is_silent seen.server seen.shut) at.parked at.dials below)

    pub turn_leads : (stage : Stage) (seen : Sight) (answer : Timed Reply) → ServersBelow stage → IsBeyond server answer.value stage →
        Leads (before_at stage) (dialled stage) (dialled stage + connects answer.value) (turn terms stage seen answer)
    turn_leads (idle at) seen answer below before =
        let was : Before = before_at (idle at) in
        let most : ℕ = at.dials + connects answer.value in
        head_leads was at.dials most (unspoilt_at at seen) (request_in seen) seen answer (stays_at was at seen most refl (omega arith) below)
    turn_leads (busy at flow (request_body given size)) seen answer below before =
        let was : Before = before_at (busy at flow (request_body given size)) in
        let most : ℕ = at.dials + connects answer.value in
        body_leads was at.dials most terms.place (unspoilt_at at seen) flow (request_in seen) seen answer (stays_at was at seen most refl (omega arith) below) before
    turn_leads (busy at flow (connection how)) seen answer below before =
        connected_leads (before_at (busy at flow (connection how))) at.dials (at.dials + connects answer.value) (unspoilt_at at seen) flow how answer.value answer.moment seen.closed before (omega arith) (omega arith)
    turn_leads (busy at flow (response_head side how)) seen answer below before =
        let was : Before = before_at (busy at flow (response_head side how)) in
        let most : ℕ = at.dials + connects answer.value in
        answer_leads was at.dials most (unspoilt_at at seen) flow side how (answers_in flow.request seen).final seen answer (same_at was at seen most refl (omega arith)) below
    turn_leads (busy at flow (response_body side how allowed)) seen answer below before =
        let was : Before = before_at (busy at flow (response_body side how allowed)) in
        let most : ℕ = at.dials + connects answer.value in
        returned_leads was at.dials most terms.place (unspoilt_at at seen) flow side how (answers_in flow.request seen).final seen answer
        (same_at was at seen most refl (omega arith)) below refl
    turn_leads (busy at flow (coming_down side how)) seen answer below before =
        over_leads (before_at (busy at flow (coming_down side how))) at.dials (at.dials + connects answer.value) [] refl
    turn_leads (busy at flow (upgraded side)) seen answer below before = over_leads (before_at (busy at flow (upgraded side))) at.dials (at.dials + connects answer.value) [] refl
    turn_leads (busy at flow given_head) seen answer below before =
        let was : Before = before_at (busy at flow given_head) in
        let most : ℕ = at.dials + connects answer.value in
        let there : At = unspoilt_at at seen in
        let asked_flow : Flow = given_at flow seen.now in
        response_leads was at.dials most asked_flow.response (λ message. taken_at_response_head message answer.value)
        (λ taken. turn_taken_given there asked_flow taken answer.moment (server_parked there.parked seen) seen.closed)
        (λ taken. given_leads was at.dials most there asked_flow taken answer.moment (server_parked there.parked seen) seen.closed (stays_at was at seen most refl (omega arith) below))
    turn_leads (busy at flow given_body) seen answer below before =
        let was : Before = before_at (busy at flow given_body) in
        let most : ℕ = at.dials + connects answer.value in
        let there : At = unspoilt_at at seen in
        whole_answer_leads was at.dials most there flow answer (server_parked there.parked seen) seen.closed (stays_at was at seen most refl (omega arith) below)
    turn_leads (next at) seen answer below before =
        (refl, stays_at (before_at (next at)) at seen (at.dials + connects answer.value) refl (omega arith) below)
    turn_leads over seen answer below before = over_leads (before_at over) 0 (0 + connects answer.value) [] refl
