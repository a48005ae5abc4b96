-- The texts of the closed form say what was read, one message behind the other.
use Rattle.std.proofs.Common.{◌≡◌, ◌≢◌, ℕ, zero, suc, ◌+◌, Bool, true, false, List, [], ◌∷◌, ◌++◌, map, drop, Option, Some, None, refl, ap, sym, subst, inl, inr, append_assoc}
use Rattle.std.specs.Prelude.{All, ⊤, take}
use Rattle.std.proofs.lemmas.List.Elements.{All-cons, All-head, All-nil, All-tail}
use Rattle.px_message.specs.declared.fault.Fault.{Fault}
use Rattle.px_message.specs.declared.request.Request.{Request}
use Rattle.px_message.specs.declared.response.Response.{Response}
use Rattle.px_message.specs.declared.version.Version.{Version}
use Rattle.px_message.specs.declared.version.Version.TheVariants.{Http10, Http11}
use Rattle.px_event.specs.declared.command.Command.{Command}
use Rattle.px_event.specs.declared.event.Event.{Event}
use Rattle.px_event.specs.declared.side.Side.TheVariants.{Client, Server}
use Rattle.px_event.specs.Chain.{Timed}
use Rattle.px_read.specs.Heads.{connect_method}
use Rattle.px_read.specs.Items.{Body, Item, answer_list, bad_body, bad_head, complete, missing, part, request_item, response_item}
use Rattle.px_read.specs.declared.head.RequestHead.{RequestHead}
use Rattle.px_read.specs.declared.head.ResponseHead.{ResponseHead}
use Rattle.px_read.proofs.WholeLemmas.{final-behind}
use Rattle.px_message.specs.Target.{target_form}
use Rattle.px_message.specs.declared.address.Address.{Address}
use Rattle.px_exchange.specs.Finds.{is_relayed}
use Rattle.px_exchange.specs.Places.{is_same_address, server_for}
use Rattle.px_exchange.specs.Requests.{expects, goal_at, is_head, is_http11, judged, request_of}
use Rattle.px_exchange.specs.Texts.{interim_command, meets_expectation, sends_on}
use Rattle.px_exchange.specs.declared.asked.Judged.{Judged}
use Rattle.px_exchange.specs.declared.asked.Judged.TheVariants.{Refused, Accepted, Connects}
use Rattle.px_exchange.specs.declared.place.Place.{Place}
use Rattle.px_exchange.specs.declared.place.Place.TheVariants as places
use Rattle.px_exchange.specs.declared.terms.Terms.{Terms}
use Rattle.px_said.specs.ClosedForm.{GoesOn, Point, Served, answers_at, behind_request, connected_at, ended_at, fault_said, first_flows, next_point, request_items, said, said_answers, said_behind, said_by, said_connected, said_dialled, said_final, said_from, said_item, said_judged, said_of_flows, said_on, said_relayed, said_returned, said_served, still_parked, whole_request}
use Rattle.px_chain.specs.Chain.{parked_for, side_if}
use Rattle.px_chain.specs.Sights.{used_by_answers}
use Rattle.px_chain.specs.Stages.{At, Parked, idle}
use Rattle.px_chain.specs.Streams.{bytes_of, is_closed}
use Rattle.px_said.specs.Walks.{Walk, answered, due_from, heard, point_at}
use Rattle.px_said.specs.WhatWasRead.{Here, IsOwn, Message, SayWhatWasRead, a_final_response, an_interim_response, answers_read, final_read, here_of, interim_known, messages_at, messages_behind, messages_from, messages_of, messages_once, messages_read, next_dialled, parked_by, parked_read, served_by}
use Rattle.px_said.proofs.ClosedWalk.{said_begins}
use Rattle.px_said.proofs.PartsRead.{IsInterimRead, IsRead, interim_read, list_read}
use Rattle.px_said.proofs.SaysRequests.{accepted, says_made}
use Rattle.px_said.proofs.SaysResponses.{final_says, interim_says}

-- ---- texts of the proxy's own

abbrev AllOwn : List Command → Type 0
AllOwn [] = ⊤
AllOwn (command ∷ due) = IsOwn command × AllOwn due

fault_own : (fault : Fault) (asked_head : Bool) → AllOwn (fault_said fault asked_head)
fault_own fault asked_head = (inr (fault, asked_head, refl), tt)

expectation_own : (expected : Bool) → AllOwn (meets_expectation expected)
expectation_own true = (inl refl, tt)
expectation_own false = tt

module _ (place : Place) where
  -- they may stand in front of what says a message
  own_before : (own due : List Command) (messages : List Message) → AllOwn own → SayWhatWasRead place due messages → SayWhatWasRead place (own ++ due) messages
  own_before [] due messages all say = say
  own_before (command ∷ own) due [] all say = (all.0, own_before own due [] all.1 say)
  own_before (command ∷ own) due (message ∷ messages) all say = inl (all.0, own_before own due (message ∷ messages) all.1 say)

  -- and behind all that is said
  own_say : (own : List Command) (messages : List Message) → AllOwn own → SayWhatWasRead place own messages
  own_say [] messages all = tt
  own_say (command ∷ own) [] all = (all.0, own_say own [] all.1)
  own_say (command ∷ own) (message ∷ messages) all = inl (all.0, own_say own (message ∷ messages) all.1)

  -- the first of what says it says it
  front_says : (due rest : List Command) (messages : List Message) → SayWhatWasRead place (due ++ rest) messages → SayWhatWasRead place due messages
  front_says [] rest messages say = tt
  front_says (command ∷ due) rest [] say = (say.0, front_says due rest [] say.1)
  front_says (command ∷ due) rest (message ∷ messages) say = elim say [
    | inl own ↦ inl (own.0, front_says due rest (message ∷ messages) own.1)
    | inr said ↦ inr (said.0, front_says due rest messages said.1)
  ]

  -- ---- responses

  interim_say : (heads : List ResponseHead) → All IsInterimRead heads → (due : List Command) (messages : List Message) → SayWhatWasRead place due messages
      → SayWhatWasRead place (map interim_command heads ++ due) (map an_interim_response heads ++ messages)
  interim_say [] all due messages say = say
  interim_say (head ∷ heads) all due messages say = inr (
    interim_says head (All-head IsInterimRead head heads all),
    interim_say heads (All-tail IsInterimRead head heads all) due messages say,
  )

  known_say : (version : Version) (heads : List ResponseHead) → All IsInterimRead heads → (due : List Command) (messages : List Message)
      → SayWhatWasRead place due messages
      → SayWhatWasRead place (sends_on (is_http11 version) heads ++ due) (map an_interim_response (interim_known version heads) ++ messages)
  known_say Http10 heads all due messages say = say
  known_say Http11 heads all due messages say = interim_say heads all due messages say

  relayed_say : (relays : Bool) (request : Request) (returned : List Command) (messages : List Message) → SayWhatWasRead place returned messages
      → SayWhatWasRead place (said_relayed relays request returned) messages
  relayed_say true request returned messages say = say
  relayed_say false request returned messages say = own_say (fault_said _ (is_head request.method)) messages (fault_own _ (is_head request.method))

  final_say : (request : Request) (closed : Bool) (bytes : List ℕ) (item : Item ResponseHead) → response_item (is_head request.method) closed bytes ≡ item
      → (behind : Response → List Command) (messages : List Message) → ((response : Response) → SayWhatWasRead place (behind response) messages)
      → SayWhatWasRead place (said_final request item behind) (final_read (is_head request.method) item ++ messages)
  final_say request closed bytes missing is behind messages say = tt
  final_say request closed bytes (part head body) is behind messages say = relayed_say (is_relayed head.code) request [] messages tt
  final_say request closed bytes (complete head body trailers used) is behind messages say =
      relayed_say (is_relayed head.code) request (said_returned request (complete head body trailers used) behind)
      (a_final_response (is_head request.method) head body trailers ∷ messages)
      (inr (final_says (is_head request.method) closed bytes head body trailers used is, say _))
  final_say request closed bytes (bad_head fault) is behind messages say =
      own_say (fault_said fault (is_head request.method)) messages (fault_own fault (is_head request.method))
  final_say request closed bytes (bad_body fault head body) is behind messages say =
      relayed_say (is_relayed head.code) request (fault_said fault (is_head request.method)) messages
      (own_say (fault_said fault (is_head request.method)) messages (fault_own fault (is_head request.method)))

  answers_say : (request : Request) (closed : Bool) (bytes : List ℕ) (behind : Response → List Command) (messages : List Message)
      → ((response : Response) → SayWhatWasRead place (behind response) messages)
      → let answers = answer_list (is_head request.method) closed bytes in
      SayWhatWasRead place (said_answers request answers behind) (answers_read request.version (is_head request.method) answers ++ messages)
  answers_say request closed bytes behind messages say =
      let answers = answer_list (is_head request.method) closed bytes in
      let heads = map an_interim_response (interim_known request.version answers.interim) in
      let final = final_read (is_head request.method) answers.final in
      subst (SayWhatWasRead place (said_answers request answers behind)) (sym (append_assoc heads final messages))
      (known_say request.version answers.interim (interim_read (is_head request.method) closed bytes) (said_final request answers.final behind) (final ++ messages)
      (final_say request closed (drop answers.used bytes) answers.final (sym (final-behind (is_head request.method) closed bytes)) behind messages say))

-- ---- the closed form

-- a request goes where it went without its body
server_whole : (place : Place) (request : Request) (body : Body) (trailers : List (List ℕ × List ℕ)) → server_for place (whole_request request body trailers) ≡ server_for place request
server_whole places.Regular request body trailers = refl
server_whole (places.Upstream proxy) request body trailers = refl
server_whole (places.Fixed address inside) request body trailers = refl

parked_whole : (place : Place) (request : Request) (body : Body) (trailers : List (List ℕ × List ℕ)) (parked : Option Parked) →
    parked_for place (whole_request request body trailers) parked ≡ parked_for place request parked
parked_whole place request body trailers None = refl
parked_whole place request body trailers (Some parked) = ap (λ a. side_if (is_same_address parked.address a) parked.server) (server_whole place request body trailers)

-- of so many of them each was read
first_read : (flows : ℕ) (items : List (Item RequestHead)) → All IsRead items → All IsRead (take flows items)
first_read zero items all = All-nil IsRead
first_read (suc flows) [] all = all
first_read (suc flows) (item ∷ items) all =
    All-cons IsRead item (take flows items) (All-head IsRead item items all) (first_read flows items (All-tail IsRead item items all))

module _ (terms : Terms) (events : List (Timed Event)) where
  abbrev Say : List Command → List Message → Type 0
  Say due messages = SayWhatWasRead terms.place due messages

  -- what is said behind a response says what was read behind it
  abbrev GoOn : (Point → List Command) → (Here → List Message) → Type 0
  GoOn further messages = (next : Point) → Say (further next) (messages (here_of next))

  behind_say : (goes : Bool) (ended : Option ℕ) (further : ℕ → List Command) (messages : ℕ → List Message) → ((so_many : ℕ) → Say (further so_many) (messages so_many))
      → Say (said_behind goes ended further) (messages_behind ended messages)
  behind_say true (Some ended) further messages on = on ended
  behind_say true None further messages on = tt
  behind_say false ended further messages on = tt

  -- a request that was read whole
  module _ (bytes : List ℕ) (head : RequestHead) (body : Body) (trailers : List (List ℕ × List ℕ)) (used : ℕ)
      (whole : request_item bytes ≡ complete head body trailers used) (further : Point → List Command) (messages : Here → List Message) (on : GoOn further messages) where
    -- where the next request stands, by what came of this one's head, and what is read of this one and behind it
    abbrev next_here : Judged → Here → Option ℕ → Served → ℕ → Here
    next_here made here side served ended =
        let answers = answers_at events served.server served.opened served.used (is_head head.method) in record {
          server = next_dialled here.server side;
          bytes = here.bytes + used;
          events = ended;
          parked = parked_read terms.place made body trailers answers.final served.server;
          opened = served.opened;
          used = used_by_answers answers served.used;
        }

    abbrev read_by : Judged → Point → ℕ → Option ℕ → List Message
    read_by made point come side =
        let served = served_by (here_of point) come side in
        messages_at events served head body trailers (λ ended. messages (next_here made (here_of point) side served ended))

    abbrev read_once : Judged → Point → Option ℕ → List Message
    read_once made point None = []
    read_once made point (Some come) =
        read_by made point come (parked_by terms.place made (still_parked (take come events) point.parked point.opened point.used))

    module _ (address : Address) (path : List ℕ) (no_connect : head.method ≢ connect_method)
        (goal : goal_at terms.place (target_form head.method head.target) ≡ Some (address, path)) where
      abbrev first : Request
      first = request_of address head path no_connect

      abbrev asked : Request
      asked = whole_request first body trailers

      served_say : (point : Point) (served : Served) → let answers = answers_at events served.server served.opened served.used (is_head head.method) in
          Say (said_served terms events point served further asked)
          (messages_at events served head body trailers (λ ended. messages (here_of (next_point terms.place point served asked answers ended))))
      served_say point served =
          let answers = answers_at events served.server served.opened served.used (is_head head.method) in
          let next : ℕ → Point = λ ended. next_point terms.place point served asked answers ended in
          inr (
            (refl, says_made terms.place bytes head body trailers used whole address path no_connect goal),
            answers_say terms.place asked (is_closed (Server served.server) (drop served.opened events))
                (drop served.used (bytes_of (Server served.server) (drop served.opened events)))
                (said_on terms.place events point served further asked)
                (messages_behind (ended_at events served (is_head head.method)) (λ ended. messages (here_of (next ended))))
                (λ response. behind_say _ (ended_at events served (is_head head.method)) (λ ended. further (next ended)) (λ ended. messages (here_of (next ended))) (λ ended. on (next ended))),
          )

      dialled_say : (point : Point) (come : ℕ) (dials : List (Option Fault)) →
          Say (said_dialled terms events (behind_request point used) asked come dials further) (read_by (Accepted first) point come None)
      dialled_say point come [] = tt
      dialled_say point come (Some fault ∷ dials) =
          own_say terms.place (fault_said fault (is_head head.method)) (read_by (Accepted first) point come None) (fault_own fault (is_head head.method))
      dialled_say point come (None ∷ dials) =
          served_say (record (behind_request point used) { server = point.server + 1; dials = dials }) (record { server = point.server; opened = come; used = 0; went = come })

      by_say : (point : Point) (come : ℕ) (side : Option ℕ) →
          Say (said_by terms events (behind_request point used) asked come side further) (read_by (Accepted first) point come side)
      by_say point come None = inl (tt, dialled_say point come point.dials)
      by_say point come (Some server) = served_say (behind_request point used) (record { server = server; opened = point.opened; used = point.used; went = come })

      connected_say : (point : Point) (come : Option ℕ) → Say (said_connected terms events (behind_request point used) asked come further) (read_once (Accepted first) point come)
      connected_say point None = tt
      connected_say point (Some come) =
          let parked = still_parked (take come events) point.parked point.opened point.used in
          let P : Option ℕ → Type 0 = λ side. Say (said_connected terms events (behind_request point used) asked (Some come) further) (read_by (Accepted first) point come side) in
          subst P (parked_whole terms.place first body trailers parked) (by_say point come (parked_for terms.place asked parked))

    whole_say : (point : Point) (come : Option ℕ) (request : Request) → judged terms.place head ≡ Accepted request
        → Say (said_connected terms events (behind_request point used) (whole_request request body trailers) come further) (read_once (judged terms.place head) point come)
    whole_say point come request is =
        let made = accepted terms.place head request is in
        let P : Request → Type 0 = λ r. Say (said_connected terms events (behind_request point used) (whole_request r body trailers) come further) (read_once (Accepted r) point come) in
        let J : Judged → Type 0 = λ j. Say (said_connected terms events (behind_request point used) (whole_request request body trailers) come further) (read_once j point come) in
        subst J (sym is) (subst P made.is (connected_say made.address made.path made.no_connect made.goal point come))

    -- that is what is read of it
    once_read : (point : Point) (come : Option ℕ) → messages_once terms.place events (here_of point) head body trailers used come messages ≡ read_once (judged terms.place head) point come
    once_read point None = refl
    once_read point (Some come) = refl

    judged_say : (point : Point) (made : Judged) → judged terms.place head ≡ made
        → Say (said_judged terms events point head made (complete head body trailers used) further)
        (messages_of terms.place events (here_of point) (complete head body trailers used) messages)
    judged_say point (Refused fault) is =
        own_say terms.place (fault_said fault (is_head head.method)) (messages_of terms.place events (here_of point) (complete head body trailers used) messages)
        (fault_own fault (is_head head.method))
    judged_say point (Connects address) is = tt
    judged_say point (Accepted request) is =
        own_before terms.place (meets_expectation (expects head))
        (said_connected terms events (behind_request point used) (whole_request request body trailers) (connected_at events point) further)
        (messages_of terms.place events (here_of point) (complete head body trailers used) messages) (expectation_own (expects head))
        (subst (Say (said_connected terms events (behind_request point used) (whole_request request body trailers) (connected_at events point) further))
        (sym (once_read point (connected_at events point))) (whole_say point (connected_at events point) request is))

  -- a request whose body is not whole, or at fault
  part_say : (point : Point) (head : RequestHead) (body : Body) (made : Judged) (further : Point → List Command) (messages : List Message)
      → Say (said_judged terms events point head made (part head body) further) messages
  part_say point head body (Refused fault) further messages = own_say terms.place (fault_said fault (is_head head.method)) messages (fault_own fault (is_head head.method))
  part_say point head body (Connects address) further messages = tt
  part_say point head body (Accepted request) further messages =
      own_before terms.place (meets_expectation (expects head)) [] messages (expectation_own (expects head)) tt

  bad_say : (point : Point) (head : RequestHead) (body : Body) (at : Fault) (made : Judged) (further : Point → List Command) (messages : List Message)
      → Say (said_judged terms events point head made (bad_body at head body) further) messages
  bad_say point head body at (Refused fault) further messages = own_say terms.place (fault_said fault (is_head head.method)) messages (fault_own fault (is_head head.method))
  bad_say point head body at (Connects address) further messages = tt
  bad_say point head body at (Accepted request) further messages =
      own_before terms.place (meets_expectation (expects head)) (fault_said at (is_head request.method)) messages (expectation_own (expects head))
      (own_say terms.place (fault_said at (is_head request.method)) messages (fault_own at (is_head request.method)))

  item_say : (point : Point) (bytes : List ℕ) (item : Item RequestHead) → request_item bytes ≡ item → (further : Point → List Command) (messages : Here → List Message)
      → GoOn further messages → Say (said_item terms events point item further) (messages_of terms.place events (here_of point) item messages)
  item_say point bytes missing is further messages on = tt
  item_say point bytes (part head body) is further messages on = part_say point head body (judged terms.place head) further []
  item_say point bytes (complete head body trailers used) is further messages on =
      judged_say bytes head body trailers used is further messages on point (judged terms.place head) refl
  item_say point bytes (bad_head fault) is further messages on = own_say terms.place (fault_said fault false) [] (fault_own fault false)
  item_say point bytes (bad_body fault head body) is further messages on = bad_say point head body fault (judged terms.place head) further []

  list_say : (items : List (Item RequestHead)) → All IsRead items → GoOn (λ point. said_from terms events point items) (λ here. messages_from terms.place events here items)
  list_say [] all point = tt
  list_say (item ∷ items) all point =
      let read = All-head IsRead item items all in
      item_say point read.0 item read.1 (λ next. said_from terms events next items) (λ next. messages_from terms.place events next items)
      (list_say items (All-tail IsRead item items all))

-- ---- what is due

pub all_said : (made : Terms) (here : Walk) (at : At) (flows : ℕ) → here.place.stage ≡ idle at → GoesOn true (first_flows flows (due_from made here)) (answered here)
    → SayWhatWasRead made.place (said (first_flows flows (due_from made here))) (messages_read made.place (heard here) (point_at at here) flows)
all_said made here at flows is goes =
    let begins = said_begins made here at flows is goes in
    let events = heard here in
    let point = point_at at here in
    let bytes = drop here.place.used.client (bytes_of Client events) in
    let messages = messages_read made.place events point flows in
    let P : List Command → Type 0 = λ due. SayWhatWasRead made.place due messages in
    let whole : P (said_of_flows made events point flows) =
    list_say made events (take flows (request_items bytes)) (first_read flows (request_items bytes) (list_read bytes)) point in
    front_says made.place (said (first_flows flows (due_from made here))) begins.0 messages (subst P begins.1 whole)
