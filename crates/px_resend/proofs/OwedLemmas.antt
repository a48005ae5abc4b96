-- What is left of what is owed where nothing is said to a client, and what a request that is sent again finds.
use Rattle.std.proofs.Common.{◌≡◌, ℕ, true, false, List, [], ◌∷◌, ◌++◌, refl, ap}
use Rattle.std.specs.Prelude.{⊤}
use Rattle.px_message.specs.declared.flow.FlowId.{FlowId}
use Rattle.px_event.specs.declared.command.Command.{Command}
use Rattle.px_event.specs.declared.command.Command.TheVariants as commands
use Rattle.px_event.specs.declared.side.Side.TheVariants.{Client, Server}
use Rattle.px_event.specs.Chain.{Look, NotYet, Asks, Ends}
use Rattle.px_event.specs.View.{command_atoms, line, seen_of}
use Rattle.px_exchange.specs.declared.ending.Used.{Used}
use Rattle.px_exchange.specs.declared.ending.Used.TheVariants.{NoServer, ByServer}
use Rattle.px_exchange.specs.declared.terms.Terms.{Terms}
use Rattle.px_exchange.specs.Endings.{shut_server}
use Rattle.px_chain.specs.Chain.{look as look_of}
use Rattle.px_chain.specs.Keeping.{unspoilt_at}
use Rattle.px_chain.specs.Sights.{Sight, server_in, server_parked}
use Rattle.px_chain.specs.Stages.{busy, idle, next}
use Rattle.px_chain.specs.Stages as flows
use Rattle.px_chain.proofs.Quiet.{AllQuiet, IsOf, LooksQuiet, any_flow}
use Rattle.px_chain.proofs.QuietLemmas.{IsGoing, finds_quiet_end}
use Rattle.px_resend.specs.Chain.{look_by, to_servers_in}
use Rattle.px_resend.specs.Found.{found_by}
use Rattle.px_resend.specs.Heard.{to_servers}

-- what is quiet stays so
pub quiet_left : (names : FlowId → Type 0) (owed : List Command) → AllQuiet names owed → AllQuiet names (to_servers owed)
quiet_left names [] quiet = tt
quiet_left names (commands.Send Client bytes ∷ owed) (here, quiet) = quiet_left names owed quiet
quiet_left names (commands.Send (Server server) bytes ∷ owed) (here, quiet) = (tt, quiet_left names owed quiet)
quiet_left names (commands.Close Client ∷ owed) (here, quiet) = quiet_left names owed quiet
quiet_left names (commands.Close (Server server) ∷ owed) (here, quiet) = (tt, quiet_left names owed quiet)
quiet_left names (commands.Dial server address inside ∷ owed) (here, quiet) = absurd here
quiet_left names (commands.Ask ask flow ∷ owed) (here, quiet) = absurd here
quiet_left names (commands.Done flow ∷ owed) (here, quiet) = (here, quiet_left names owed quiet)

look_left : (l : Look Command) → LooksQuiet any_flow l → LooksQuiet any_flow (to_servers_in l)
look_left NotYet quiet = quiet
look_left (Asks ask) quiet = quiet
look_left (Ends owed) quiet = quiet_left any_flow owed quiet

-- a server hears all of it that it heard
pub server_line : (server : ℕ) (owed : List Command) → seen_of (line (Server server)) (to_servers owed) ≡ seen_of (line (Server server)) owed
server_line server [] = refl
server_line server (commands.Send Client bytes ∷ owed) = server_line server owed
server_line server (commands.Send (Server other) bytes ∷ owed) =
    ap (λ l. command_atoms (line (Server server)) (commands.Send (Server other) bytes) ++ l) (server_line server owed)
server_line server (commands.Close Client ∷ owed) = server_line server owed
server_line server (commands.Close (Server other) ∷ owed) =
    ap (λ l. command_atoms (line (Server server)) (commands.Close (Server other)) ++ l) (server_line server owed)
server_line server (commands.Dial other address inside ∷ owed) = server_line server owed
server_line server (commands.Ask ask flow ∷ owed) = server_line server owed
server_line server (commands.Done flow ∷ owed) = ap (λ l. command_atoms (line (Server server)) (commands.Done flow) ++ l) (server_line server owed)

-- ---- what is found

pub shut_quiet : (used : Used) → AllQuiet any_flow (shut_server used)
shut_quiet NoServer = tt
shut_quiet (ByServer number true) = tt
shut_quiet (ByServer number false) = (tt, tt)

-- what is left of what flows in sequence find is quiet
flow_left : (terms : Terms) (stage : flows.Stage) (seen : Sight) → LooksQuiet any_flow (to_servers_in (look_of terms stage seen))
flow_left terms stage seen = look_left (look_of terms stage seen) (finds_quiet_end terms stage seen)

-- and so is what is found where the flow goes on
pub found_quiet : (terms : Terms) (stage : flows.Stage) (seen : Sight) → LooksQuiet any_flow (look_by stage seen (look_of terms stage seen))
found_quiet terms stage seen =
    let P : Look Command → Type 0 = LooksQuiet any_flow in
    found_by P stage seen (look_of terms stage seen) (λ at is. shut_quiet (server_parked (unspoilt_at at seen).parked seen)) (λ at flow server is. (tt, shut_quiet (server_in server seen))) (flow_left terms stage seen)

-- A flow has begun, and is not finished.
abbrev pub IsBusy : flows.Stage → Type 0
IsBusy (busy at flow doing) = ⊤
IsBusy stage = ⊥

pub busy_goes : (stage : flows.Stage) → IsBusy stage → IsGoing stage
busy_goes (idle at) is = tt
busy_goes (busy at flow doing) is = tt
busy_goes (next at) is = absurd is
busy_goes flows.over is = tt

asked_left : (l : Look Command) (ask : Command) → to_servers_in l ≡ Asks ask → l ≡ Asks ask
asked_left NotYet ask is = is
asked_left (Asks other) ask is = is
asked_left (Ends owed) ask is = absurd (let no : Ends (to_servers owed) ≡ Asks ask = is in cc)

ended_asks : (owed : List Command) (ask : Command) → Ends owed ≡ Asks ask → ⊥
ended_asks owed ask is = cc

asks_busy : (terms : Terms) (stage : flows.Stage) (seen : Sight) (ask : Command) → look_by stage seen (look_of terms stage seen) ≡ Asks ask → IsBusy stage
asks_busy terms (idle at) seen ask is = absurd (ended_asks _ ask is)
asks_busy terms (busy at flow doing) seen ask is = tt
asks_busy terms (next at) seen ask is = absurd (ended_asks [] ask is)
asks_busy terms flows.over seen ask is = absurd (ended_asks [] ask is)

-- and so is it where nothing is found yet
ended_waits : (owed : List Command) → Ends owed ≡ NotYet → ⊥
ended_waits owed is = cc

pub waits_busy : (terms : Terms) (stage : flows.Stage) (seen : Sight) → look_by stage seen (look_of terms stage seen) ≡ NotYet → IsBusy stage
waits_busy terms (idle at) seen is = absurd (ended_waits _ is)
waits_busy terms (busy at flow doing) seen is = tt
waits_busy terms (next at) seen is = absurd (ended_waits _ is)
waits_busy terms flows.over seen is = absurd (ended_waits _ is)

-- what asks is a flow that the chain of flows asks about
pub asked_there : (terms : Terms) (stage : flows.Stage) (seen : Sight) (ask : Command) → look_by stage seen (look_of terms stage seen) ≡ Asks ask → IsBusy stage × (look_of terms stage seen ≡ Asks ask)
asked_there terms stage seen ask is =
    let P : Look Command → Type 0 = λ k. k ≡ Asks ask → look_of terms stage seen ≡ Asks ask in (
      asks_busy terms stage seen ask is,
      found_by P stage seen (look_of terms stage seen) (λ at here asked. absurd (ended_asks _ ask asked)) (λ at flow server here asked. absurd (ended_asks _ ask asked))
          (asked_left (look_of terms stage seen) ask) is,
    )

-- any number is a stage's own
pub is_any : (terms : Terms) (stage : flows.Stage) → IsOf terms any_flow stage
is_any terms (idle at) = tt
is_any terms (busy at flow doing) = tt
is_any terms (next at) = tt
is_any terms flows.over = tt
