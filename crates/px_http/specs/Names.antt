-- What is due of a conversation names it alone.
use Rattle.std.proofs.Common.{◌≡◌, ℕ, List, [], ◌∷◌, refl, ap}
use Rattle.px_message.specs.declared.flow.FlowId.{FlowId}
use Rattle.px_event.specs.declared.ask.Ask.TheVariants as asks
use Rattle.px_event.specs.declared.command.Command.{Command}
use Rattle.px_event.specs.declared.command.Command.TheVariants as commands
use Rattle.px_event.specs.declared.reply.Reply.{Reply}
use Rattle.px_event.specs.Chain.{Timed, Look, NotYet, Asks, Ends, found}
use Rattle.px_event.specs.Layer.{Move}
use Rattle.px_event.specs.Stands.{due_by}
use Rattle.px_core.specs.Conversation.{IsNamed, AllNamed}
use Rattle.px_core.proofs.ChainNamedLemmas.{StaysNamed, stays_named}
use Rattle.px_exchange.specs.declared.terms.Terms.{Terms}
use Rattle.px_chain.specs.Chain.{behind, http_chain, look, pass as pass_on, sequence, so_far, turn}
use Rattle.px_chain.specs.Sights.{Sight, Standing, sight_over}
use Rattle.px_chain.proofs.Quiet.{AllQuiet, IsOf, IsAskOf, LooksQuiet}
use Rattle.px_chain.specs.Stages.{Stage, busy, idle, next, over}
use Rattle.px_chain.proofs.QuietLemmas.{behind_quiet, looks_quiet, pass_of, pass_quiet, so_far_quiet, turn_led}
use Rattle.px_http.specs.declared.conversation.HttpConv.{HttpConv}
use Rattle.px_http.specs.Stands.{HttpStands, chain_of, start_at}

-- the number is of a flow of the conversation
abbrev pub OfConversation : ℕ → FlowId → Type 0
OfConversation conv id = id.conv ≡ conv

-- what asks nothing names the conversation
pub quiet_named : (conv : ℕ) (l : List Command) → AllQuiet (OfConversation conv) l → AllNamed conv l
quiet_named conv [] all = tt
quiet_named conv (commands.Send side bytes ∷ rest) (here, all) = (tt, quiet_named conv rest all)
quiet_named conv (commands.Close side ∷ rest) (here, all) = (tt, quiet_named conv rest all)
quiet_named conv (commands.Dial server address inside ∷ rest) (here, all) = absurd here
quiet_named conv (commands.Ask ask flow ∷ rest) (here, all) = absurd here
quiet_named conv (commands.Done flow ∷ rest) (here, all) = (here, quiet_named conv rest all)

-- and so does what is asked
ask_named : (conv : ℕ) (ask : Command) → IsAskOf (OfConversation conv) ask → IsNamed conv ask
ask_named conv (commands.Send side bytes) is = absurd is
ask_named conv (commands.Close side) is = absurd is
ask_named conv (commands.Dial server address inside) is = tt
ask_named conv (commands.Ask (asks.Hook index hook) flow) is = is
ask_named conv (commands.Ask (asks.Dial server) flow) is = absurd is
ask_named conv (commands.Done flow) is = absurd is

look_named : (conv : ℕ) (l : Look Command) → LooksQuiet (OfConversation conv) l → AllNamed conv (found l)
look_named conv NotYet is = tt
look_named conv (Asks ask) is = (ask_named conv ask is, tt)
look_named conv (Ends owed) is = quiet_named conv owed is

-- the flow of a place is the conversation's
abbrev pub IsOfIts : Terms → Standing → Type 0
IsOfIts terms place = IsOf terms (OfConversation terms.conv) place.stage

-- and so is the next one
onward_of : (terms : Terms) (stage : Stage) → IsOf terms (OfConversation terms.conv) stage → IsOf terms (OfConversation terms.conv) (sequence stage)
onward_of terms (idle at) is = is
onward_of terms (busy at flow doing) is = is
onward_of terms (next at) is = refl
onward_of terms over is = is

-- what a reply owes, and where it leads
abbrev Turned : Terms → Stage → Sight → Timed Reply → Type 0
Turned terms stage seen answer =
    AllQuiet (OfConversation terms.conv) (turn terms stage seen answer).owed × IsOf terms (OfConversation terms.conv) (turn terms stage seen answer).stage

turned : (terms : Terms) (stage : Stage) (seen : Sight) (answer : Timed Reply) → IsOf terms (OfConversation terms.conv) stage → Turned terms stage seen answer
turned terms (idle at) seen answer is = let led = turn_led terms (OfConversation terms.conv) (idle at) seen answer tt is in (led.quiet, led.is_of)
turned terms (busy at flow doing) seen answer is = let led = turn_led terms (OfConversation terms.conv) (busy at flow doing) seen answer tt is in (led.quiet, led.is_of)
turned terms (next at) seen answer is = (tt, tt)
turned terms over seen answer is = (tt, tt)

pub stays : (terms : Terms) → StaysNamed terms.conv (http_chain sequence terms) (IsOfIts terms)
stays terms = record {
  pass = λ place prefix is.
      let passed = pass_on terms place.stage (sight_over place prefix) in (
        quiet_named terms.conv passed.owed (pass_quiet terms (OfConversation terms.conv) place.stage (sight_over place prefix) is),
        onward_of terms passed.stage (pass_of terms (OfConversation terms.conv) place.stage (sight_over place prefix) is),
      );
  look = λ place prefix is. look_named terms.conv (look terms place.stage (sight_over place prefix)) (looks_quiet (OfConversation terms.conv) terms place.stage (sight_over place prefix) is);
  so_far = λ place prefix is. quiet_named terms.conv (so_far terms place.stage (sight_over place prefix)) (so_far_quiet (OfConversation terms.conv) terms place.stage (sight_over place prefix));
  behind = λ place prefix is. quiet_named terms.conv (behind place.stage (sight_over place prefix)) (behind_quiet (OfConversation terms.conv) place.stage (sight_over place prefix));
  turn = λ place prefix answer is.
      let turn_there = turn terms place.stage (sight_over place prefix) answer in
      let led = turned terms place.stage (sight_over place prefix) answer is in
      (quiet_named terms.conv turn_there.owed led.0, onward_of terms turn_there.stage led.1);
}

-- What is due names flows of the conversation alone.
pub http_names : (made : HttpConv) (moves : List Move) → AllNamed made.stream.terms.conv (due_by (chain_of made) (start_at made) moves)
http_names made moves = stays_named made.stream.terms.conv (chain_of made) (IsOfIts made.stream.terms) (start_at made) (stays made.stream.terms) refl moves

-- no move changes its number
pub keeps_number : (made state : HttpConv) (moves : List Move) (given : List Command) → HttpStands made state moves given → state.stream.terms.conv ≡ made.stream.terms.conv
keeps_number made state moves given stands = ap (λ t. t.conv) stands.place.is_at.is_in.terms
