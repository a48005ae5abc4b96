-- The servers of a conversation are numbered by its dials, from 0 on.
use Rattle.std.specs.Prelude.{◌≡◌, ℕ, ◌+◌, List, [], ◌∷◌}
use Rattle.std.specs.List.{flat_map}
use Rattle.px_event.specs.declared.said.Said.{Said}
use Rattle.px_event.specs.declared.said.Said.TheVariants as said
use Rattle.px_event.specs.Trace.{Trace}
use Rattle.px_event.specs.Trace as traces

-- the server that this dials
abbrev pub server_of : Said → List ℕ
server_of (said.Dial server address) = server ∷ []
server_of _ = []

-- the servers that were dialled in the conversation, in their order
abbrev pub dialled_in : Trace → ℕ → List ℕ
dialled_in trace conv = flat_map server_of (traces.said trace conv)

-- these are the numbers from this one on
abbrev pub CountsFrom : ℕ → List ℕ → Type 0
CountsFrom n [] = Unit {0}
CountsFrom n (x ∷ xs) = (x ≡ n) × CountsFrom (n + 1) xs

-- the n-th dial of each conversation names its server n
abbrev pub CountsServers : Trace → Type 0
CountsServers trace = (conv : ℕ) → CountsFrom 0 (dialled_in trace conv)
