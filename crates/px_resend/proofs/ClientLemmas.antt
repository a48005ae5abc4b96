-- Nothing is said to a client where a request is sent again, and none is closed.
use Rattle.std.proofs.Common.{◌≡◌, ℕ, true, false, List, [], ◌∷◌, Option, Some, None, refl}
use Rattle.px_message.specs.declared.address.Address.{Address}
use Rattle.px_message.specs.declared.flow.Flow.{Flow}
use Rattle.px_message.specs.declared.request.Request.{Request}
use Rattle.px_event.specs.declared.command.Command.{Command}
use Rattle.px_event.specs.declared.command.Command.TheVariants as commands
use Rattle.px_event.specs.declared.event.Event.{Event}
use Rattle.px_event.specs.declared.reply.Reply.{Reply}
use Rattle.px_event.specs.declared.side.Side.TheVariants.{Client, Server}
use Rattle.px_event.specs.Chain.{Timed, Look, NotYet, Asks, Ends, found}
use Rattle.px_event.specs.Layer.{Move}
use Rattle.px_event.specs.Stands.{events_in, replies_in}
use Rattle.px_event.specs.View.{Atom, about, asked, byte, bytes_in, close, dialled, done, line, seen_of}
use Rattle.px_event.proofs.Only.{AllHave, OwesOnly, due_only}
use Rattle.px_exchange.specs.declared.ending.Used.{Used}
use Rattle.px_exchange.specs.declared.ending.Used.TheVariants.{NoServer, ByServer}
use Rattle.px_exchange.specs.declared.taken.Taken.{Taken}
use Rattle.px_exchange.specs.declared.taken.Taken.TheVariants.{GoesOn, Responds, Kills}
use Rattle.px_exchange.specs.declared.terms.Terms.{Terms}
use Rattle.px_exchange.specs.Endings.{shut_server}
use Rattle.px_exchange.specs.Replies.{taken_at_request_head, taken_at_request_body}
use Rattle.px_chain.specs.Chain.{look as look_of}
use Rattle.px_chain.specs.Keeping.{unspoilt_at}
use Rattle.px_chain.specs.Sights.{Sight, server_in, server_parked, sight_over}
use Rattle.px_chain.specs.Stages as flows
use Rattle.px_chain.proofs.Quiet.{IsAskOf, LooksQuiet, any_flow}
use Rattle.px_chain.proofs.QuietLemmas.{finds_quiet_end}
use Rattle.px_resend.specs.Chain.{Stage, asks_head, asks_whole, flows_of, goes_on, look_by, over, pass, resend_chain, terms_by, to_servers_in, turn_head, turn_whole, waiting}
use Rattle.px_resend.specs.Dialled.{AllFinish}
use Rattle.px_resend.specs.Due.{resend_due}
use Rattle.px_resend.specs.Found.{found_by}
use Rattle.px_resend.specs.Heard.{all_of_servers, is_to_client, to_servers}

-- a command by which nothing is said to a client
abbrev IsOther : Command → Type 0
IsOther command = is_to_client command ≡ false

abbrev AreOthers : List Command → Type 0
AreOthers = AllHave IsOther

-- ---- what is left of what is owed

others_left : (owed : List Command) → AreOthers (to_servers owed)
others_left [] = tt
others_left (commands.Send Client bytes ∷ owed) = others_left owed
others_left (commands.Send (Server server) bytes ∷ owed) = (refl, others_left owed)
others_left (commands.Close Client ∷ owed) = others_left owed
others_left (commands.Close (Server server) ∷ owed) = (refl, others_left owed)
others_left (commands.Dial server address inside ∷ owed) = (refl, others_left owed)
others_left (commands.Ask ask flow ∷ owed) = (refl, others_left owed)
others_left (commands.Done flow ∷ owed) = (refl, others_left owed)

asks_other : (ask : Command) → IsAskOf any_flow ask → IsOther ask
asks_other (commands.Send side bytes) is = absurd is
asks_other (commands.Close side) is = absurd is
asks_other (commands.Dial server address inside) is = refl
asks_other (commands.Ask ask flow) is = refl
asks_other (commands.Done flow) is = absurd is

look_others : (l : Look Command) → LooksQuiet any_flow l → AreOthers (found (to_servers_in l))
look_others NotYet quiet = tt
look_others (Asks ask) quiet = (asks_other ask quiet, tt)
look_others (Ends owed) quiet = others_left owed

shut_others : (used : Used) → AreOthers (shut_server used)
shut_others NoServer = tt
shut_others (ByServer number true) = tt
shut_others (ByServer number false) = (refl, tt)

-- ---- the chain

flow_others : (terms : Terms) (stage : flows.Stage) (seen : Sight) → AreOthers (found (to_servers_in (look_of terms stage seen)))
flow_others terms stage seen = look_others (look_of terms stage seen) (finds_quiet_end terms stage seen)

found_others : (terms : Terms) (stage : flows.Stage) (seen : Sight) → AreOthers (found (look_by stage seen (look_of terms stage seen)))
found_others terms stage seen =
    let P : Look Command → Type 0 = λ k. AreOthers (found k) in
    found_by P stage seen (look_of terms stage seen) (λ at is. shut_others (server_parked (unspoilt_at at seen).parked seen)) (λ at flow server is. (refl, shut_others (server_in server seen))) (flow_others terms stage seen)

head_others : (recorded : Request) (flow : Flow) (prefix : List (Timed Event)) (moment : ℕ) (taken : Taken Request) → AreOthers (turn_head recorded flow prefix moment taken).owed
head_others recorded flow prefix moment (GoesOn request) = tt
head_others recorded flow prefix moment (Responds response) = tt
head_others recorded flow prefix moment Kills = (refl, tt)

whole_others : (flow : Flow) (prefix : List (Timed Event)) (moment : ℕ) (taken : Taken Request) → AreOthers (turn_whole flow prefix moment taken).owed
whole_others flow prefix moment (GoesOn request) = tt
whole_others flow prefix moment (Responds response) = tt
whole_others flow prefix moment Kills = (refl, tt)

module _ (terms : Terms) (recorded : Request) where
  passes : (stage : Stage) (prefix : List (Timed Event)) → AreOthers (pass terms recorded stage prefix).owed
  passes waiting [] = tt
  passes waiting (event ∷ prefix) = tt
  passes (asks_head flow) prefix = tt
  passes (asks_whole flow) prefix = tt
  passes (goes_on place) prefix = others_left ((flows_of terms recorded).pass place (all_of_servers prefix)).owed
  passes over prefix = tt

  looks : (stage : Stage) (prefix : List (Timed Event)) → AreOthers (found ((resend_chain terms recorded).look stage prefix))
  looks waiting prefix = tt
  looks (asks_head flow) prefix = (refl, tt)
  looks (asks_whole flow) prefix = (refl, tt)
  looks (goes_on place) prefix = found_others terms place.stage (sight_over place (all_of_servers prefix))
  looks over prefix = tt

  turns : (stage : Stage) (prefix : List (Timed Event)) (reply : Timed Reply) → AreOthers ((resend_chain terms recorded).turn stage prefix reply).owed
  turns waiting prefix reply = tt
  turns (asks_head flow) prefix reply = head_others recorded flow (all_of_servers prefix) reply.moment (taken_at_request_head flow.request reply.value)
  turns (asks_whole flow) prefix reply = whole_others flow (all_of_servers prefix) reply.moment (taken_at_request_body flow.request reply.value)
  turns (goes_on place) prefix reply = others_left ((flows_of terms recorded).turn place (all_of_servers prefix) reply).owed
  turns over prefix reply = tt

  owes_others : OwesOnly IsOther (resend_chain terms recorded)
  owes_others = record { pass = passes; look = looks; so_far = λ stage prefix. tt; behind = λ stage prefix. tt; turn = turns }

-- no command says anything to a client
due_others : (proxy : Option Address) (conv : ℕ) (request : Option Request) (moves : List Move) → AreOthers (resend_due proxy conv request moves)
due_others proxy conv None moves = tt
due_others proxy conv (Some request) moves =
    let terms : Terms = terms_by conv proxy in due_only IsOther (resend_chain terms request) (owes_others terms request) waiting (events_in 1 moves) (replies_in 1 moves)

-- ---- in the client's line

line_finishes : (owed : List Command) → AreOthers owed → AllFinish (seen_of (line Client) owed)
line_finishes [] others = tt
line_finishes (commands.Send Client bytes ∷ owed) (here, others) = absurd (let no : true ≡ false = here in cc)
line_finishes (commands.Send (Server server) bytes ∷ owed) (here, others) = line_finishes owed others
line_finishes (commands.Close Client ∷ owed) (here, others) = absurd (let no : true ≡ false = here in cc)
line_finishes (commands.Close (Server server) ∷ owed) (here, others) = line_finishes owed others
line_finishes (commands.Dial server address inside ∷ owed) (here, others) = line_finishes owed others
line_finishes (commands.Ask ask flow ∷ owed) (here, others) = line_finishes owed others
line_finishes (commands.Done flow ∷ owed) (here, others) = line_finishes owed others

no_bytes : (atoms : List Atom) → AllFinish atoms → bytes_in atoms ≡ []
no_bytes [] all = refl
no_bytes (byte value ∷ atoms) all = absurd all
no_bytes (close side ∷ atoms) all = absurd all
no_bytes (asked ask ∷ atoms) all = absurd all
no_bytes (dialled server address ∷ atoms) all = absurd all
no_bytes (done flow ∷ atoms) all = no_bytes atoms all
no_bytes (about ask flow ∷ atoms) all = absurd all

-- A client's line has nothing but flows that are finished.
pub client_finishes : (proxy : Option Address) (conv : ℕ) (request : Option Request) (moves : List Move) → AllFinish (seen_of (line Client) (resend_due proxy conv request moves))
client_finishes proxy conv request moves = line_finishes (resend_due proxy conv request moves) (due_others proxy conv request moves)

pub client_unsaid : (proxy : Option Address) (conv : ℕ) (request : Option Request) (moves : List Move) → bytes_in (seen_of (line Client) (resend_due proxy conv request moves)) ≡ []
client_unsaid proxy conv request moves = no_bytes (seen_of (line Client) (resend_due proxy conv request moves)) (client_finishes proxy conv request moves)
