-- A chain whose stages are among others: at its own stages it is the chain, and at the others nothing is found.
use Rattle.std.specs.Prelude.{List, [], Option, Some, None}
use Rattle.px_event.specs.Chain.{Chain, Look, NotYet, Timed, Turn}

abbrev pub turn_into : {S U A : Type 0} → (S → U) → Turn S A → Turn U A
turn_into into on = record { owed = on.owed; stage = into on.stage }

abbrev pub stays : {U A : Type 0} → U → Turn U A
stays stage = record { owed = []; stage = stage }

abbrev pub pass_by : {S U E R A : Type 0} → (S → U) → Chain S E R A → Option S → U → List (Timed E) → Turn U A
pass_by into chain None stage prefix = stays stage
pass_by into chain (Some own) stage prefix = turn_into into (chain.pass own prefix)

abbrev pub look_by : {S E R A : Type 0} → Chain S E R A → Option S → List (Timed E) → Look A
look_by chain None prefix = NotYet
look_by chain (Some own) prefix = chain.look own prefix

abbrev pub so_far_by : {S E R A : Type 0} → Chain S E R A → Option S → List (Timed E) → List A
so_far_by chain None prefix = []
so_far_by chain (Some own) prefix = chain.so_far own prefix

abbrev pub behind_by : {S E R A : Type 0} → Chain S E R A → Option S → List (Timed E) → List A
behind_by chain None prefix = []
behind_by chain (Some own) prefix = chain.behind own prefix

abbrev pub turn_by : {S U E R A : Type 0} → (S → U) → Chain S E R A → Option S → U → List (Timed E) → Timed R → Turn U A
turn_by into chain None stage prefix answer = stays stage
turn_by into chain (Some own) stage prefix answer = turn_into into (chain.turn own prefix answer)

-- `into` says which of the others a stage is, and `back` which stage one of the others is, if it is one
abbrev pub lifted : {S U E R A : Type 0} → (S → U) → (U → Option S) → Chain S E R A → Chain U E R A
lifted into back chain = record {
  pass = λ stage prefix. pass_by into chain (back stage) stage prefix;
  look = λ stage prefix. look_by chain (back stage) prefix;
  so_far = λ stage prefix. so_far_by chain (back stage) prefix;
  behind = λ stage prefix. behind_by chain (back stage) prefix;
  turn = λ stage prefix answer. turn_by into chain (back stage) stage prefix answer;
}
