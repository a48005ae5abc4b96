-- What is found where a request is sent again, by the stage of its flow: the end where the next flow would begin, with the close of a side that is kept for that, and where
-- a response of code 101 was sent; and else what flows in sequence find, without what is said to a client.
use Rattle.std.proofs.Common.{◌≡◌, ℕ, refl}
use Rattle.px_message.specs.declared.flow.Flow.{Flow}
use Rattle.px_event.specs.declared.command.Command.{Command}
use Rattle.px_event.specs.Chain.{Look, Ends}
use Rattle.px_exchange.specs.Endings.{shut_server}
use Rattle.px_chain.specs.Sights.{Sight, server_in}
use Rattle.px_chain.specs.Stages.{At, busy, coming_down, connection, given_body, given_head, idle, next, request_body, response_body, response_head, upgraded}
use Rattle.px_chain.specs.Stages as flows
use Rattle.px_resend.specs.Chain.{finishes, look_by, shut_parked, to_servers_in}

-- what holds of each of the three holds of what is found
pub found_by : (P : Look Command → Type 0) (stage : flows.Stage) (seen : Sight) (l : Look Command) → ((at : At) → stage ≡ idle at → P (Ends (shut_parked at seen))) →
    ((at : At) (flow : Flow) (server : ℕ) → stage ≡ busy at flow (upgraded server) → P (Ends (finishes flow (shut_server (server_in server seen))))) →
    P (to_servers_in l) → P (look_by stage seen l)
found_by P (idle at) seen l none last goes = none at refl
found_by P (busy at flow (request_body given most)) seen l none last goes = goes
found_by P (busy at flow (connection how)) seen l none last goes = goes
found_by P (busy at flow (response_head server sent)) seen l none last goes = goes
found_by P (busy at flow (response_body server sent most)) seen l none last goes = goes
found_by P (busy at flow (coming_down server sent)) seen l none last goes = goes
found_by P (busy at flow (upgraded server)) seen l none last goes = last at flow server refl
found_by P (busy at flow given_head) seen l none last goes = goes
found_by P (busy at flow given_body) seen l none last goes = goes
found_by P (next at) seen l none last goes = goes
found_by P flows.over seen l none last goes = goes
