-- A server of a request that is sent again hears nothing before its dial was answered with the connection.
use Rattle.std.proofs.Common.{◌≡◌, ℕ, ◌+◌, ◌≤◌, Bool, true, false, cond, List, [], ◌∷◌, ◌++◌, Option, Some, None, refl, ap, ◌∙◌, arith}
use Rattle.std.specs.Prelude.{⊤, ◌==◌}
use Rattle.px_message.specs.declared.address.Address.{Address}
use Rattle.px_message.specs.declared.flow.Flow.{Flow}
use Rattle.px_message.specs.declared.request.Request.{Request}
use Rattle.px_message.specs.declared.response.Response.{Response}
use Rattle.px_event.specs.declared.command.Command.{Command}
use Rattle.px_event.specs.declared.event.Event.{Event}
use Rattle.px_event.specs.declared.reply.Reply.{Reply}
use Rattle.px_event.specs.declared.side.Side.{Side}
use Rattle.px_event.specs.declared.side.Side.TheVariants.{Server}
use Rattle.px_event.specs.Chain.{Timed, Look, NotYet, Asks, Ends, found}
use Rattle.px_event.specs.Layer.{Move}
use Rattle.px_event.specs.View.{bytes_in, close}
use Rattle.px_exchange.specs.declared.ending.Used.{Used}
use Rattle.px_exchange.specs.declared.ending.Used.TheVariants.{NoServer, ByServer}
use Rattle.px_exchange.specs.declared.taken.Taken.{Taken}
use Rattle.px_exchange.specs.declared.taken.Taken.TheVariants.{GoesOn, Responds, Kills}
use Rattle.px_exchange.specs.declared.terms.Terms.{Terms}
use Rattle.px_exchange.specs.Endings.{shut_server}
use Rattle.px_exchange.specs.Replies.{taken_at_request_head, taken_at_request_body}
use Rattle.px_chain.specs.Chain.{is_sequence, sequence}
use Rattle.px_chain.specs.Keeping.{unspoilt_at}
use Rattle.px_chain.specs.Sights.{Sight, server_in, server_parked, sight_over}
use Rattle.px_chain.specs.Silent.{NoAnswer, connects}
use Rattle.px_chain.specs.Stages.{side_in}
use Rattle.px_chain.specs.Stages as flows
use Rattle.px_chain.proofs.CountedLemmas.{Counts, CountsServers, IsSilent, counted_silent}
use Rattle.px_chain.proofs.BelowLemmas.{dialled_at, http_counts, turns_counted}
use Rattle.px_chain.proofs.SilentLemmas.{AreBelow, SideBelow}
use Rattle.px_stream.specs.Anywhere.{doing_by}
use Rattle.px_resend.specs.Chain.{Stage, asks_head, asks_whole, first_at, flows_of, goes_on, look_by, over, pass, resend_chain, terms_by, to_servers_in, turn_head, turn_whole, waiting}
use Rattle.px_resend.specs.Due.{resend_due}
use Rattle.px_resend.specs.Found.{found_by}
use Rattle.px_resend.specs.Heard.{all_of_servers}
use Rattle.px_resend.proofs.OwedLemmas.{server_line}

-- how many servers a stage may send to
abbrev dials_at : Stage → ℕ
dials_at (goes_on place) = dialled_at place
dials_at stage = 0

-- the server of a stage is among those that were dialled before it
abbrev AllBelow : Stage → Type 0
AllBelow (goes_on place) = AreBelow place
AllBelow stage = ⊤

-- ---- what is found

module _ (server : ℕ) where
  close_silent : (side : Side) (same : Bool) → bytes_in (cond same (close side ∷ []) [] ++ []) ≡ []
  close_silent side true = refl
  close_silent side false = refl

  shut_silent : (used : Used) → IsSilent server (shut_server used)
  shut_silent NoServer = refl
  shut_silent (ByServer number true) = refl
  shut_silent (ByServer number false) = close_silent (Server number) (number == server)

  left_silent : (l : Look Command) → IsSilent server (found l) → IsSilent server (found (to_servers_in l))
  left_silent NotYet silent = silent
  left_silent (Asks ask) silent = silent
  left_silent (Ends owed) silent = ap bytes_in (server_line server owed) ∙ silent

  look_silent : (stage : flows.Stage) (seen : Sight) (l : Look Command) → IsSilent server (found l) → IsSilent server (found (look_by stage seen l))
  look_silent stage seen l silent =
      let P : Look Command → Type 0 = λ k. IsSilent server (found k) in
      found_by P stage seen l (λ at is. shut_silent (server_parked (unspoilt_at at seen).parked seen)) (λ at flow side is. shut_silent (server_in side seen)) (left_silent l silent)

-- ---- the chain

side_below : (given : Option Response) → SideBelow (side_in first_at (doing_by given)) 0
side_below None = tt
side_below (Some response) = tt

module _ (most : ℕ) where
  leads_to_few : (stage : Stage) → dials_at stage ≤ most → AllBelow stage → Counts dials_at AllBelow most (record { owed = []; stage = stage })
  leads_to_few stage few below = record { silent = λ server beyond. refl; few = few; stays = below }

  head_counts : (recorded : Request) (flow : Flow) (prefix : List (Timed Event)) (moment : ℕ) (taken : Taken Request) → Counts dials_at AllBelow most (turn_head recorded flow prefix moment taken)
  head_counts recorded flow prefix moment (GoesOn request) = leads_to_few _ (omega arith) tt
  head_counts recorded flow prefix moment (Responds response) = leads_to_few _ (omega arith) tt
  head_counts recorded flow prefix moment Kills = record { silent = λ server beyond. refl; few = omega arith; stays = tt }

  whole_counts : (flow : Flow) (prefix : List (Timed Event)) (moment : ℕ) (taken : Taken Request) → Counts dials_at AllBelow most (turn_whole flow prefix moment taken)
  whole_counts flow prefix moment (GoesOn request) = leads_to_few _ (omega arith) (side_below flow.response)
  whole_counts flow prefix moment (Responds response) = leads_to_few _ (omega arith) tt
  whole_counts flow prefix moment Kills = record { silent = λ server beyond. refl; few = omega arith; stays = tt }

module _ (terms : Terms) (recorded : Request) where
  flows_count : CountsServers (flows_of terms recorded) dialled_at AreBelow
  flows_count = http_counts sequence (is_sequence refl) terms

  passes : (stage : Stage) (prefix : List (Timed Event)) → AllBelow stage → Counts dials_at AllBelow (dials_at stage) (pass terms recorded stage prefix)
  passes waiting [] below = leads_to_few 0 waiting (omega arith) tt
  passes waiting (event ∷ prefix) below = leads_to_few 0 _ (omega arith) tt
  passes (asks_head flow) prefix below = leads_to_few 0 (asks_head flow) (omega arith) tt
  passes (asks_whole flow) prefix below = leads_to_few 0 (asks_whole flow) (omega arith) tt
  passes (goes_on place) prefix below =
      let on = flows_count.passes place (all_of_servers prefix) below in
      let owed : List Command = ((flows_of terms recorded).pass place (all_of_servers prefix)).owed in
      record { silent = λ server beyond. ap bytes_in (server_line server owed) ∙ on.silent server beyond; few = on.few; stays = on.stays }
  passes over prefix below = leads_to_few 0 over (omega arith) tt

  looks : (stage : Stage) (prefix : List (Timed Event)) → AllBelow stage → (server : ℕ) → dials_at stage ≤ server → IsSilent server (found ((resend_chain terms recorded).look stage prefix))
  looks waiting prefix below server few = refl
  looks (asks_head flow) prefix below server few = refl
  looks (asks_whole flow) prefix below server few = refl
  looks (goes_on place) prefix below server few =
      let heard : List (Timed Event) = all_of_servers prefix in
      look_silent server place.stage (sight_over place heard) ((flows_of terms recorded).look place heard) (flows_count.looks place heard below server few)
  looks over prefix below server few = refl

  turns : (stage : Stage) (prefix : List (Timed Event)) (answer : Timed Reply) → AllBelow stage →
      Counts dials_at AllBelow (dials_at stage + connects answer.value) ((resend_chain terms recorded).turn stage prefix answer)
  turns waiting prefix answer below = leads_to_few _ waiting (omega arith) tt
  turns (asks_head flow) prefix answer below = head_counts _ recorded flow (all_of_servers prefix) answer.moment (taken_at_request_head flow.request answer.value)
  turns (asks_whole flow) prefix answer below = whole_counts _ flow (all_of_servers prefix) answer.moment (taken_at_request_body flow.request answer.value)
  turns (goes_on place) prefix answer below =
      let heard : List (Timed Event) = all_of_servers prefix in
      let on = turns_counted sequence (is_sequence refl) terms place heard answer below in
      let owed : List Command = ((flows_of terms recorded).turn place heard answer).owed in
      record { silent = λ server beyond. ap bytes_in (server_line server owed) ∙ on.silent server beyond; few = on.few; stays = on.stays }
  turns over prefix answer below = leads_to_few _ over (omega arith) tt

  resend_counts : CountsServers (resend_chain terms recorded) dials_at AllBelow
  resend_counts = record {
    passes = passes;
    looks = looks;
    waits = λ stage prefix below server few. refl;
    behind = λ stage prefix below server few. refl;
    turns = λ stage prefix ask answer below asked. turns stage prefix answer below;
  }

-- No byte is due to a server while no call answers its dial with the connection.
pub resend_silent : (proxy : Option Address) (conv : ℕ) (request : Option Request) (server : ℕ) (moves : List Move) → NoAnswer server moves → IsSilent server (resend_due proxy conv request moves)
resend_silent proxy conv None server moves none = refl
resend_silent proxy conv (Some request) server moves none =
    let terms : Terms = terms_by conv proxy in counted_silent (resend_chain terms request) dials_at AllBelow (resend_counts terms request) server waiting moves tt refl none

-- Nothing at all is due before the first call.
pub nothing_yet : (proxy : Option Address) (conv : ℕ) (request : Option Request) → resend_due proxy conv request [] ≡ []
nothing_yet proxy conv None = refl
nothing_yet proxy conv (Some request) = refl
