-- Behind the client's close no server is heard: that the client closed since the open side was connected stays so, over one event more, where a
-- flow passes and where a reply leads, unless it ends there.
use Rattle.std.proofs.Common.{◌≡◌, ◌≤◌, ℕ, Bool, true, false, List, [], ◌∷◌, ◌++◌, drop, length, Option, Some, None, refl, ap, sym, ◌∙◌, subst}
use Rattle.std.specs.Prelude.{◌||◌, zero, suc}
use Rattle.std.proofs.Math.Seq.{drop-length}
use Rattle.std.proofs.lemmas.List.{drop-append-le}
use Rattle.px_message.specs.declared.flow.Flow.{Flow}
use Rattle.px_event.specs.declared.command.Command.{Command}
use Rattle.px_event.specs.declared.event.Event.{Event}
use Rattle.px_event.specs.declared.reply.Reply.{Reply}
use Rattle.px_event.specs.declared.reply.Reply.TheVariants as reply
use Rattle.px_event.specs.declared.side.Side.TheVariants.{Client, Server}
use Rattle.px_event.specs.Chain.{Timed, Look, NotYet, Asks, Ends}
use Rattle.px_event.specs.Sides.{closes}
use Rattle.px_message.specs.declared.fault.Fault.{Fault}
use Rattle.px_read.specs.Items.{Item, answer_list, missing, part, complete, bad_head, bad_body}
use Rattle.px_read.specs.declared.head.RequestHead.{RequestHead as ReadRequest}
use Rattle.px_exchange.specs.declared.place.Place.{Place}
use Rattle.px_exchange.specs.declared.terms.Terms.{Terms}
use Rattle.px_exchange.specs.Finds.{look_answer, or_leaves}
use Rattle.px_exchange.specs.Endings.{ends_by_fault}
use Rattle.px_exchange.specs.Requests.{is_head}
use Rattle.px_chain.specs.Behind.{dials_at}
use Rattle.px_chain.specs.Chain.{bad_or, come_down, dial_leads, end_by, find, gone_by, going_at, is_sequence, leaving, look, look_up, opened_by, passed, past_gone, sequence, sight_come, stands, turn}
use Rattle.px_chain.specs.Going.{whole_in, with_whole}
use Rattle.px_chain.specs.Keeping.{unspoilt, unspoilt_at}
use Rattle.px_chain.specs.Sights.{Sight, Standing, UsedBytes, answers_in, request_in, server_in, sight_over}
use Rattle.px_chain.specs.Stages.{At, Parked, Sent, Stage, all_sent, busy, coming_down, connection, given_body, given_head, going_up, idle, next, over, request_body, response_body, response_head, upgraded}
use Rattle.px_chain.specs.Streams.{Since, bytes_of, client_closed, is_closed}
use Rattle.px_chain.proofs.FrontLaws.{closed_more, closed_stays, open_behind}
use Rattle.px_chain.proofs.SightLaws.{sight_passed}
use Rattle.px_stream.specs.Anywhere.{OpensInTime}
use Rattle.px_stack.specs.Stands.{InTime, StaysInTime}

-- while the client has not closed there is nothing to show
pub open_in_time : (standing : Standing) (prefix : List (Timed Event)) → client_closed prefix ≡ false → InTime standing prefix
open_in_time standing prefix open_still = λ closed. absurd (let no : true ≡ false = sym closed ∙ open_still in cc)

-- what is asked of a parked side
pub opens_in_time : (parked : Option Parked) (standing : Standing) (prefix : List (Timed Event)) → InTime standing prefix → OpensInTime parked standing.opened prefix
opens_in_time None standing prefix in_time = tt
opens_in_time (Some parked) standing prefix in_time = in_time

-- ---- one event more

later_by : (behind prefix : List (Timed Event)) (e : Timed Event) (was : Bool) → client_closed prefix ≡ was → client_closed (prefix ++ e ∷ []) ≡ true →
    (client_closed prefix ≡ true → client_closed behind ≡ true) → (client_closed prefix ≡ false → client_closed behind ≡ false) →
    client_closed (behind ++ e ∷ []) ≡ true
later_by behind prefix e true is closed in_time open_there = closed_stays Client behind e (in_time is)
later_by behind prefix e false is closed in_time open_there =
    let closes_now : closes Client e.value ≡ true = sym (closed_more Client prefix e is ∙ ap (λ b. b || closes Client e.value) is) ∙ closed in
    closed_more Client behind e (open_there is) ∙ (ap (λ b. b || closes Client e.value) (open_there is) ∙ closes_now)

pub in_time_more : (standing : Standing) (prefix : List (Timed Event)) (e : Timed Event) → standing.opened ≤ length prefix → InTime standing prefix → InTime standing (prefix ++ e ∷ [])
in_time_more standing prefix e within in_time = λ closed.
    ap client_closed (drop-append-le standing.opened prefix (e ∷ []) within)
    ∙ later_by (drop standing.opened prefix) prefix e (client_closed prefix) refl closed in_time (open_behind standing.opened prefix)

-- ---- where the client had closed before a server was connected, of which nothing is heard then, the conversation ends

leaves_by : (closed : Bool) (leaves : List Command) (found : Look Command) → closed ≡ true → ((ask : Command) → found ≡ Asks ask → ⊥) → (owed : List Command) × (or_leaves closed leaves found ≡ Ends owed)
leaves_by true leaves NotYet is none = (leaves, refl)
leaves_by false leaves NotYet is none = absurd (let no : false ≡ true = is in cc)
leaves_by closed leaves (Asks ask) is none = absurd (none ask refl)
leaves_by closed leaves (Ends owed) is none = (owed, refl)

bad_asks : (item : Item ReadRequest) (ends : Fault → List Command) (ask : Command) → bad_or item ends NotYet ≡ Asks ask → ⊥
bad_asks missing ends ask is = let no : NotYet ≡ Asks ask = is in cc
bad_asks (part head body) ends ask is = let no : NotYet ≡ Asks ask = is in cc
bad_asks (complete head body trailers size) ends ask is = let no : NotYet ≡ Asks ask = is in cc
bad_asks (bad_head fault) ends ask is = let no : NotYet ≡ Asks ask = is in cc
bad_asks (bad_body fault head body) ends ask is = let no : Ends (ends fault) ≡ Asks ask = is in cc

up_asks : (sent : Sent) (seen : Sight) (ends : Fault → List Command) (ask : Command) → look_up sent seen ends NotYet ≡ Asks ask → ⊥
up_asks all_sent seen ends ask is = let no : NotYet ≡ Asks ask = is in cc
up_asks going_up seen ends ask is = bad_asks (request_in seen) ends ask is

nothing_told : (asked_head : Bool) → (answer_list asked_head false []).final ≡ missing
nothing_told true = refl
nothing_told false = refl

nothing : (n : ℕ) (none : List ℕ) → none ≡ [] → drop n none ≡ []
nothing zero none is = is
nothing (suc n) none is = ap (drop (suc n)) is

record IsUnheard (seen : Sight) : Type 0 where
  closed : seen.closed ≡ true
  server : seen.server ≡ []
  shut : seen.shut ≡ false

module _ (terms : Terms) (at : At) (server : ℕ) where
  head_ends : (flow : Flow) (sent : Sent) (seen : Sight) → IsUnheard seen → (owed : List Command) × (look terms (busy at flow (response_head server sent)) seen ≡ Ends owed)
  head_ends flow sent seen is =
      let stage : Stage = busy at flow (response_head server sent) in
      let asked : Bool = is_head flow.request.method in
      let nothing : (answers_in flow.request seen).final ≡ missing =
      ap (λ shut. (answer_list asked shut seen.server).final) is.shut ∙ (ap (λ bytes. (answer_list asked false bytes).final) is.server ∙ nothing_told asked) in
      let ends : Fault → List Command = λ fault. ends_by_fault flow fault seen.now (server_in server seen) seen.closed in
      let found : find terms stage seen ≡ look_up sent seen ends NotYet =
      ap (λ item. look_up sent seen ends (look_answer flow item seen.now (server_in server seen) seen.closed)) nothing in
      leaves_by seen.closed (leaving (unspoilt stage seen) seen) (find terms stage seen) is.closed (λ ask asks. up_asks sent seen ends ask (sym found ∙ asks))

  -- so it does where it has passed on
  passed_ends : (flow : Flow) (sent : Sent) (gone : Option ℕ) (seen : Sight) → IsUnheard seen →
      (let up = end_by gone terms.place at flow (response_head server sent) seen in
      (owed : List Command) × (look terms (sequence (come_down terms up.stage (past_gone gone seen)).stage) (sight_come up.stage (past_gone gone seen)) ≡ Ends owed))
  passed_ends flow sent None seen is = head_ends flow sent seen is
  passed_ends flow sent (Some size) seen is =
      head_ends (with_whole flow seen.now) all_sent (past_gone (Some size) seen) (record { closed = is.closed; server = is.server; shut = is.shut })

  -- over a prefix
  unheard_over : (flow : Flow) (sent : Sent) (since : Since) (opened : ℕ) (used : UsedBytes) (told : ℕ) (prefix : List (Timed Event)) → drop opened prefix ≡ [] → client_closed prefix ≡ true →
      (let standing : Standing = record { stage = busy at flow (response_head server sent); since = since; opened = opened; used = used; told = told } in IsUnheard (sight_over standing prefix))
  unheard_over flow sent since opened used told prefix behind closed = record {
    closed = closed;
    server = nothing used.server (bytes_of (Server server) (drop opened prefix)) (ap (λ l. bytes_of (Server server) l) behind);
    shut = ap (λ l. is_closed (Server server) l) behind;
  }

  unheard_ends : (flow : Flow) (sent : Sent) (since : Since) (opened : ℕ) (used : UsedBytes) (told : ℕ) (prefix : List (Timed Event)) → drop opened prefix ≡ [] → client_closed prefix ≡ true →
      (let standing : Standing = record { stage = busy at flow (response_head server sent); since = since; opened = opened; used = used; told = told } in
      let on = passed sequence terms standing (sight_over standing prefix) in
      (owed : List Command) × (look terms on.stage (sight_over on prefix) ≡ Ends owed))
  unheard_ends flow sent since opened used told prefix behind closed =
      let standing : Standing = record { stage = busy at flow (response_head server sent); since = since; opened = opened; used = used; told = told } in
      let seen : Sight = sight_over standing prefix in
      let on = passed sequence terms standing seen in
      let ends = passed_ends flow sent (gone_by (going_at (response_head server sent)) (whole_in seen)) seen (unheard_over flow sent since opened used told prefix behind closed) in
      (ends.0, ap (look terms on.stage) (sight_passed sequence (is_sequence refl) terms standing prefix) ∙ ends.1)

-- ---- a reply leads on

pub in_time_connected : (terms : Terms) (at : At) (flow : Flow) (server : ℕ) (sent : Sent) (since : Since) (opened : ℕ) (used : UsedBytes) (told : ℕ) (prefix : List (Timed Event)) → drop opened prefix ≡ [] →
    (let standing : Standing = record { stage = busy at flow (response_head server sent); since = since; opened = opened; used = used; told = told } in
    StaysInTime terms (passed sequence terms standing (sight_over standing prefix)) prefix)
in_time_connected terms at flow server sent since opened used told prefix behind no_end closed =
    let ends = unheard_ends terms at server flow sent since opened used told prefix behind closed in absurd (no_end ends.0 ends.1)

data IsDialledTo (to : Stage) : Type 0 where
  to_head : (at : At) (flow : Flow) (server : ℕ) (sent : Sent) → to ≡ busy at flow (response_head server sent) → IsDialledTo to
  to_end : to ≡ over → IsDialledTo to

dialled_to : (place : Place) (at : At) (flow : Flow) (sent : Sent) (answer : Reply) → IsDialledTo (sequence (dial_leads place at flow sent answer))
dialled_to place at flow sent reply.Dialled = to_head _ _ _ _ refl
dialled_to place at flow sent (reply.Refused fault) = to_end refl
dialled_to place at flow sent (reply.Go given stream) = to_end refl
dialled_to place at flow sent (reply.Respond response) = to_end refl
dialled_to place at flow sent reply.Kill = to_end refl
dialled_to place at flow sent reply.Discard = to_end refl

module _ (terms : Terms) (since : Since) (used : UsedBytes) (told : ℕ) (prefix : List (Timed Event)) where
  -- a place from here on, and where it has passed on
  abbrev from_now : Stage → Standing
  from_now stage = record { stage = stage; since = since; opened = length prefix; used = used; told = told }

  abbrev passed_now : Stage → Standing
  passed_now stage = passed sequence terms (from_now stage) (sight_over (from_now stage) prefix)

  dialled_in_time : (to : Stage) → IsDialledTo to → StaysInTime terms (passed_now to) prefix
  dialled_in_time to (to_head at flow server sent is) =
      let P : Stage → Type 0 = λ s. StaysInTime terms (passed_now s) prefix in
      subst P (sym is) (in_time_connected terms at flow server sent since (length prefix) used told prefix (drop-length prefix))
  dialled_in_time to (to_end is) =
      let P : Stage → Type 0 = λ s. StaysInTime terms (passed_now s) prefix in subst P (sym is) (λ no_end. absurd (no_end [] refl))

-- no reply but that to a dial connects a side
turned_by : (terms : Terms) (stage : Stage) (seen : Sight) (answer : Timed Reply) (since : Since) (opened : ℕ) (used : UsedBytes) (told : ℕ) (prefix : List (Timed Event)) →
    (client_closed prefix ≡ true → client_closed (drop opened prefix) ≡ true) →
    (let to : Standing = record {
      stage = sequence (turn terms stage seen answer).stage;
      since = since;
      opened = opened_by (dials_at stage) opened (length prefix);
      used = used;
      told = told;
    } in
    StaysInTime terms (passed sequence terms to (sight_over to prefix)) prefix)
turned_by terms (idle at) seen answer since opened used told prefix in_time = λ no_end. in_time
turned_by terms (busy at flow (request_body given most)) seen answer since opened used told prefix in_time = λ no_end. in_time
turned_by terms (busy at flow (connection sent)) seen answer since opened used told prefix in_time =
    dialled_in_time terms since used told prefix _ (dialled_to terms.place (unspoilt_at at seen) flow sent answer.value)
turned_by terms (busy at flow (response_head server how)) seen answer since opened used told prefix in_time = λ no_end. in_time
turned_by terms (busy at flow (response_body server how most)) seen answer since opened used told prefix in_time = λ no_end. in_time
turned_by terms (busy at flow (coming_down server how)) seen answer since opened used told prefix in_time = λ no_end. in_time
turned_by terms (busy at flow (upgraded server)) seen answer since opened used told prefix in_time = λ no_end. in_time
turned_by terms (busy at flow given_head) seen answer since opened used told prefix in_time = λ no_end. in_time
turned_by terms (busy at flow given_body) seen answer since opened used told prefix in_time = λ no_end. in_time
turned_by terms (next at) seen answer since opened used told prefix in_time = λ no_end. in_time
turned_by terms over seen answer since opened used told prefix in_time = λ no_end. in_time

pub in_time_turned : (terms : Terms) (standing : Standing) (prefix : List (Timed Event)) (answer : Timed Reply) → InTime standing prefix →
    (let to = stands terms standing answer.moment prefix (sequence (turn terms standing.stage (sight_over standing prefix) answer).stage) in
    StaysInTime terms (passed sequence terms to (sight_over to prefix)) prefix)
in_time_turned terms standing prefix answer in_time =
    let to = stands terms standing answer.moment prefix (sequence (turn terms standing.stage (sight_over standing prefix) answer).stage) in
    turned_by terms standing.stage (sight_over standing prefix) answer to.since standing.opened to.used to.told prefix in_time
