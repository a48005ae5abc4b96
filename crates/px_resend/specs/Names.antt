-- What is due of a request that is sent again names its conversation alone.
use Rattle.std.proofs.Common.{◌≡◌, ℕ, Bool, true, false, List, [], ◌∷◌, refl, subst}
use Rattle.std.specs.Prelude.{if◌then◌else◌}
use Rattle.px_message.specs.declared.flow.Flow.{Flow}
use Rattle.px_message.specs.declared.request.Request.{Request}
use Rattle.px_event.specs.declared.command.Command.{Command}
use Rattle.px_event.specs.declared.event.Event.{Event}
use Rattle.px_event.specs.declared.reply.Reply.{Reply}
use Rattle.px_event.specs.Chain.{Timed, Look, NotYet, Asks, Ends, Turn, found}
use Rattle.px_event.specs.Layer.{Move}
use Rattle.px_event.specs.Stands.{due_by}
use Rattle.px_core.specs.Conversation.{IsNamed, AllNamed}
use Rattle.px_core.proofs.ChainNamedLemmas.{StaysNamed, stays_named}
use Rattle.px_exchange.specs.declared.ending.Used.{Used}
use Rattle.px_exchange.specs.declared.ending.Used.TheVariants.{NoServer, ByServer}
use Rattle.px_exchange.specs.declared.taken.Taken.{Taken}
use Rattle.px_exchange.specs.declared.taken.Taken.TheVariants.{GoesOn, Responds, Kills}
use Rattle.px_exchange.specs.declared.terms.Terms.{Terms}
use Rattle.px_exchange.specs.Endings.{shut_server}
use Rattle.px_exchange.specs.Replies.{taken_at_request_body, taken_at_request_head}
use Rattle.px_chain.specs.Keeping.{unspoilt_at}
use Rattle.px_chain.specs.Sights.{Sight, server_in, server_parked, sight_over}
use Rattle.px_chain.specs.Stages as flows
use Rattle.px_chain.proofs.Quiet.{IsOf}
use Rattle.px_http.specs.Names.{IsOfIts, OfConversation, stays}
use Rattle.px_resend.specs.Chain.{Stage, asks_head, asks_whole, flows_of, goes_on, look_by, over, resend_chain, to_servers_in, turn_head, turn_whole, waiting}
use Rattle.px_resend.specs.Found.{found_by}
use Rattle.px_resend.specs.Heard.{all_of_servers, is_to_client, to_servers}

-- ---- what is said to servers alone

kept_named : (conv : ℕ) (dropped : Bool) (command : Command) (rest : List Command) → IsNamed conv command → AllNamed conv rest →
    AllNamed conv (if dropped then rest else (command ∷ rest))
kept_named conv true command rest here all = all
kept_named conv false command rest here all = (here, all)

servers_named : (conv : ℕ) (l : List Command) → AllNamed conv l → AllNamed conv (to_servers l)
servers_named conv [] all = tt
servers_named conv (command ∷ rest) (here, all) = kept_named conv (is_to_client command) command (to_servers rest) here (servers_named conv rest all)

look_kept : (conv : ℕ) (l : Look Command) → AllNamed conv (found l) → AllNamed conv (found (to_servers_in l))
look_kept conv NotYet all = all
look_kept conv (Asks ask) all = all
look_kept conv (Ends owed) all = servers_named conv owed all

-- a close names nothing
shut_named : (conv : ℕ) (used : Used) → AllNamed conv (shut_server used)
shut_named conv NoServer = tt
shut_named conv (ByServer number true) = tt
shut_named conv (ByServer number false) = (tt, tt)

module _ (terms : Terms) (recorded : Request) where
  look_named : (stage : flows.Stage) (seen : Sight) (l : Look Command) → IsOf terms (OfConversation terms.conv) stage → AllNamed terms.conv (found l) →
      AllNamed terms.conv (found (look_by stage seen l))
  look_named stage seen l is all =
      let P : Look Command → Type 0 = λ k. AllNamed terms.conv (found k) in
      let Q : flows.Stage → Type 0 = IsOf terms (OfConversation terms.conv) in
      found_by P stage seen l (λ at here. shut_named terms.conv (server_parked (unspoilt_at at seen).parked seen)) (λ at flow server here. (subst Q here is, shut_named terms.conv (server_in server seen))) (look_kept terms.conv l all)

  -- the flow of a stage is the conversation's
  abbrev pub IsIts : Stage → Type 0
  IsIts (asks_head flow) = flow.id.conv ≡ terms.conv
  IsIts (asks_whole flow) = flow.id.conv ≡ terms.conv
  IsIts (goes_on place) = IsOfIts terms place
  IsIts stage = Unit {0}

  -- what a reply owes, and where it leads
  abbrev Turned : Turn Stage Command → Type 0
  Turned turned = AllNamed terms.conv turned.owed × IsIts turned.stage

  head_turned : (flow : Flow) (prefix : List (Timed Event)) (moment : ℕ) (taken : Taken Request) → flow.id.conv ≡ terms.conv → Turned (turn_head recorded flow prefix moment taken)
  head_turned flow prefix moment (GoesOn request) is = (tt, is)
  head_turned flow prefix moment (Responds response) is = (tt, is)
  head_turned flow prefix moment Kills is = ((is, tt), tt)

  whole_turned : (flow : Flow) (prefix : List (Timed Event)) (moment : ℕ) (taken : Taken Request) → flow.id.conv ≡ terms.conv → Turned (turn_whole flow prefix moment taken)
  whole_turned flow prefix moment (GoesOn request) is = (tt, is)
  whole_turned flow prefix moment (Responds response) is = (tt, is)
  whole_turned flow prefix moment Kills is = ((is, tt), tt)

  passed : (stage : Stage) (prefix : List (Timed Event)) → IsIts stage → Turned ((resend_chain terms recorded).pass stage prefix)
  passed waiting [] is = (tt, tt)
  passed waiting (event ∷ prefix) is = (tt, refl)
  passed (asks_head flow) prefix is = (tt, is)
  passed (asks_whole flow) prefix is = (tt, is)
  passed (goes_on place) prefix is =
      let there = (stays terms).pass place (all_of_servers prefix) is in
      (servers_named terms.conv ((flows_of terms recorded).pass place (all_of_servers prefix)).owed there.0, there.1)
  passed over prefix is = (tt, tt)

  looked : (stage : Stage) (prefix : List (Timed Event)) → IsIts stage → AllNamed terms.conv (found ((resend_chain terms recorded).look stage prefix))
  looked waiting prefix is = tt
  looked (asks_head flow) prefix is = ((is, refl), tt)
  looked (asks_whole flow) prefix is = ((is, refl), tt)
  looked (goes_on place) prefix is =
      look_named place.stage (sight_over place (all_of_servers prefix)) ((flows_of terms recorded).look place (all_of_servers prefix)) is
      ((stays terms).look place (all_of_servers prefix) is)
  looked over prefix is = tt

  turned : (stage : Stage) (prefix : List (Timed Event)) (answer : Timed Reply) → IsIts stage → Turned ((resend_chain terms recorded).turn stage prefix answer)
  turned waiting prefix answer is = (tt, tt)
  turned (asks_head flow) prefix answer is = head_turned flow (all_of_servers prefix) answer.moment (taken_at_request_head flow.request answer.value) is
  turned (asks_whole flow) prefix answer is = whole_turned flow (all_of_servers prefix) answer.moment (taken_at_request_body flow.request answer.value) is
  turned (goes_on place) prefix answer is =
      let there = (stays terms).turn place (all_of_servers prefix) answer is in
      (servers_named terms.conv ((flows_of terms recorded).turn place (all_of_servers prefix) answer).owed there.0, there.1)
  turned over prefix answer is = (tt, tt)

  resend_stays : StaysNamed terms.conv (resend_chain terms recorded) IsIts
  resend_stays = record { pass = passed; look = looked; so_far = λ stage prefix is. tt; behind = λ stage prefix is. tt; turn = turned }

  pub resend_names : (moves : List Move) → AllNamed terms.conv (due_by (resend_chain terms recorded) waiting moves)
  resend_names moves = stays_named terms.conv (resend_chain terms recorded) IsIts waiting resend_stays tt moves
