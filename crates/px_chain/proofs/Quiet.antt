-- What a conversation owes at a stage names the stage's flow: an ask or an end is of a flow with its number, of which any test
-- may be made; and what a reply brings, or an end, asks nothing.
use Rattle.std.specs.Prelude.{◌≡◌, ◌≤◌, ◌<◌, ◌+◌, ℕ, List, [], ◌∷◌, ⊤}
use Rattle.px_message.specs.declared.flow.FlowId.{FlowId}
use Rattle.px_event.specs.declared.ask.Ask.TheVariants as asks
use Rattle.px_event.specs.declared.command.Command.{Command}
use Rattle.px_event.specs.declared.command.Command.TheVariants as commands
use Rattle.px_event.specs.Chain.{Look, NotYet, Asks, Ends, Turn}
use Rattle.px_exchange.specs.declared.terms.Terms.{Terms}
use Rattle.px_chain.specs.Stages.{At, Doing, Stage, idle, busy, coming_down, next, over, request_body, connection, response_head, response_body, given_head, given_body, upgraded}

-- it asks nothing, and a flow that it ends has such a number
abbrev pub IsQuiet : (FlowId → Type 0) → Command → Type 0
IsQuiet is (commands.Ask ask flow) = ⊥
IsQuiet is (commands.Dial server address inside) = ⊥
IsQuiet is (commands.Done flow) = is flow.id
IsQuiet is _ = ⊤

abbrev pub AllQuiet : (FlowId → Type 0) → List Command → Type 0
AllQuiet is [] = ⊤
AllQuiet is (command ∷ rest) = IsQuiet is command × AllQuiet is rest

-- a dial, or a hook of a flow that has such a number
abbrev pub IsAskOf : (FlowId → Type 0) → Command → Type 0
IsAskOf is (commands.Ask (asks.Hook index hook) flow) = is flow.id × (index ≡ flow.id.index)
IsAskOf is (commands.Dial server address inside) = ⊤
IsAskOf is _ = ⊥

abbrev pub LooksQuiet : (FlowId → Type 0) → Look Command → Type 0
LooksQuiet is NotYet = ⊤
LooksQuiet is (Asks ask) = IsAskOf is ask
LooksQuiet is (Ends owed) = AllQuiet is owed

-- the number of a conversation's flow
abbrev pub id_in : Terms → ℕ → FlowId
id_in terms index = record { conv = terms.conv; index = index }

-- the flow of a stage has such a number, or the one that begins there has
abbrev pub IsOf : Terms → (FlowId → Type 0) → Stage → Type 0
IsOf terms is (idle at) = is (id_in terms at.flow)
IsOf terms is (busy at flow doing) = is flow.id
IsOf terms is (next at) = ⊤
IsOf terms is over = ⊤

-- any number is such a one, or none is
abbrev pub any_flow : FlowId → Type 0
any_flow id = ⊤

abbrev pub no_flow : FlowId → Type 0
no_flow id = ⊥

-- the same flow, that has dialled so many servers at most
abbrev pub SameFlow : ℕ → ℕ → At → Type 0
SameFlow flow dials at = (at.flow ≡ flow) × (at.dials ≤ dials)

-- where a reply leads from a flow of this number, which can ask so much more
abbrev pub IsBehindBy : ℕ → ℕ → ℕ → At → Doing → Type 0
IsBehindBy flow dials count at (request_body given size) = SameFlow flow dials at × (4 < count)
IsBehindBy flow dials count at (connection how) = SameFlow flow dials at × (3 < count)
IsBehindBy flow dials count at (response_head side how) = SameFlow flow (dials + 1) at × (2 < count)
IsBehindBy flow dials count at (response_body side how most) = SameFlow flow dials at × (1 < count)
IsBehindBy flow dials count at (coming_down side how) = SameFlow flow dials at × (0 < count)
IsBehindBy flow dials count at (upgraded side) = SameFlow flow dials at × (0 < count)
IsBehindBy flow dials count at given_head = SameFlow flow dials at × (2 < count)
IsBehindBy flow dials count at given_body = SameFlow flow dials at × (1 < count)

abbrev pub IsBehind : ℕ → ℕ → ℕ → Stage → Type 0
IsBehind flow dials count (idle at) = ⊥
IsBehind flow dials count (busy at told doing) = IsBehindBy flow dials count at doing
IsBehind flow dials count (next at) = SameFlow (flow + 1) dials at × (flow + 1 < 1000000)
IsBehind flow dials count over = ⊤

-- no flow ends but where it leads to an end
abbrev pub EndsNone : Stage → List Command → Type 0
EndsNone (next at) owed = ⊤
EndsNone over owed = ⊤
EndsNone stage owed = AllQuiet no_flow owed

-- What a reply brings, or a passage: it asks nothing at once, and leads on.
pub record Leads (terms : Terms) (is : FlowId → Type 0) (flow dials count : ℕ) (turned : Turn Stage Command) : Type 0 where
  pub quiet : AllQuiet is turned.owed
  pub is_of : IsOf terms is turned.stage
  pub ends_none : EndsNone turned.stage turned.owed
  pub behind : IsBehind flow dials count turned.stage
