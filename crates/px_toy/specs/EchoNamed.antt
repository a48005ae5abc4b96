-- The server that echoes lines names its own flow alone.
use Rattle.std.proofs.Common.{◌≡◌, ℕ, Bool, true, false, List, Option, Some, None, refl, ap}
use Rattle.px_message.specs.declared.flow.Flow.{Flow}
use Rattle.px_event.specs.declared.event.Event.{Event}
use Rattle.px_event.specs.declared.reply.Reply.{Reply}
use Rattle.px_event.specs.declared.reply.Reply.TheVariants as replies
use Rattle.px_event.specs.declared.command.Command.{Command}
use Rattle.px_event.specs.Chain.{Timed, found}
use Rattle.px_event.specs.Layer.{Move}
use Rattle.px_event.specs.Stands.{due_by}
use Rattle.px_toy.specs.declared.echo.LineEcho.{LineEcho}
use Rattle.px_toy.specs.Echo.{EchoStage, Reading, Over, unread, first_line, is_closed, pass, pass_by, look, look_by, turn, turn_by, turn_line, is_kill, echoed, echo_chain}
use Rattle.px_toy.specs.Stands.{IsAt, EchoStands}
use Rattle.px_core.specs.Conversation.{AllNamed}
use Rattle.px_core.proofs.ChainNamedLemmas.{all_named}

same_flow : (flow : Flow) (state : LineEcho) (stage : EchoStage) (prefix : List (Timed Event)) → IsAt flow state stage prefix → state.flow ≡ flow
same_flow flow state (Reading used) prefix at = at.same_flow
same_flow flow state Over prefix at = at.same_flow

pub echo_keeps_number : (made state : LineEcho) (moves : List Move) (given : List Command) → EchoStands made state moves given → state.flow.id.conv ≡ made.flow.id.conv
echo_keeps_number made state moves given stands = ap (λ f. f.id.conv) (same_flow made.flow state _ _ stands.place)

pass_named : (conv : ℕ) (closed : Bool) (line : Option ℕ) (used : ℕ) → AllNamed conv (pass_by closed line used).owed
pass_named conv false line used = tt
pass_named conv true (Some length) used = tt
pass_named conv true None used = (tt, tt)

passes : (conv : ℕ) (stage : EchoStage) (prefix : List (Timed Event)) → AllNamed conv (pass stage prefix).owed
passes conv (Reading used) prefix = pass_named conv (is_closed prefix) (first_line (unread used prefix)) used
passes conv Over prefix = tt

look_named : (flow : Flow) (line : Option ℕ) → AllNamed flow.id.conv (found (look_by flow line))
look_named flow None = tt
look_named flow (Some length) = ((refl, refl), tt)

looks : (flow : Flow) (stage : EchoStage) (prefix : List (Timed Event)) → AllNamed flow.id.conv (found (look flow stage prefix))
looks flow (Reading used) prefix = look_named flow (first_line (unread used prefix))
looks flow Over prefix = tt

echoes : (conv : ℕ) (reply : Reply) (line : List ℕ) → AllNamed conv (echoed reply line)
echoes conv (replies.Go flow stream) line = (tt, tt)
echoes conv (replies.Respond response) line = tt
echoes conv replies.Kill line = tt
echoes conv replies.Discard line = tt
echoes conv replies.Dialled line = tt
echoes conv (replies.Refused fault) line = tt

turn_named : (conv : ℕ) (kill : Bool) (reply : Reply) (length : ℕ) (bytes : List ℕ) (used : ℕ) → AllNamed conv (turn_by kill reply length bytes used).owed
turn_named conv true reply length bytes used = (tt, tt)
turn_named conv false reply length bytes used = echoes conv reply _

turn_line_named : (conv : ℕ) (line : Option ℕ) (reply : Reply) (bytes : List ℕ) (used : ℕ) → AllNamed conv (turn_line line reply bytes used).owed
turn_line_named conv None reply bytes used = tt
turn_line_named conv (Some length) reply bytes used = turn_named conv (is_kill reply) reply length bytes used

turns : (conv : ℕ) (stage : EchoStage) (prefix : List (Timed Event)) (reply : Timed Reply) → AllNamed conv (turn stage prefix reply).owed
turns conv (Reading used) prefix reply = turn_line_named conv (first_line (unread used prefix)) reply.value (unread used prefix) used
turns conv Over prefix reply = tt

pub echo_names : (made : LineEcho) (moves : List Move) → AllNamed made.flow.id.conv (due_by (echo_chain made.flow) (Reading 0) moves)
echo_names made = all_named made.flow.id.conv (echo_chain made.flow) (Reading 0) (record { pass = passes made.flow.id.conv; look = looks made.flow; so_far = λ stage prefix. tt; behind = λ stage prefix. tt; turn = turns made.flow.id.conv })
