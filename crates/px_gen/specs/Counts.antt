-- Counts over a run: finished flows, bytes said to servers, bytes said to clients.
use Rattle.std.specs.Prelude.{◌≡◌, ℕ, ◌^◌, ◌-◌, Bool, true, false, List, [], ◌∷◌, ◌++◌, length, min, codes, decimal}
use Rattle.std.specs.List.{count_by, sum_by}
use Rattle.px_event.specs.declared.said.Said.{Said}
use Rattle.px_event.specs.declared.said.Said.TheVariants.{Send}
use Rattle.px_event.specs.declared.side.Side.TheVariants.{Client, Server}
use Rattle.px_event.specs.declared.step.Step.{Step}
use Rattle.px_event.specs.declared.step.Step.TheVariants as steps
use Rattle.px_event.specs.Trace.{Trace}
use Rattle.px_gen.specs.declared.counting.Counts.{Counts}

-- a flow is finished
abbrev pub is_done : Step → Bool
is_done (steps.Done flow) = true
is_done _ = false

-- the number of flows that are finished in the run
abbrev pub flows_in : Trace → ℕ
flows_in trace = count_by is_done trace

-- how many bytes this sends to a server, whichever it is
abbrev pub server_bytes : Said → ℕ
server_bytes (Send (Server number) bytes) = length bytes
server_bytes _ = 0

-- how many bytes this sends to a client
abbrev pub client_bytes : Said → ℕ
client_bytes (Send Client bytes) = length bytes
client_bytes _ = 0

-- what a step counts for, by what it says, in whichever conversation
abbrev pub by_said : (Said → ℕ) → Step → ℕ
by_said count (steps.Said conv said) = count said
by_said count _ = 0

-- the number of bytes that are said to servers in the run
abbrev pub bytes_to_servers : Trace → ℕ
bytes_to_servers trace = sum_by (by_said server_bytes) trace

-- the number of bytes that are said to clients in the run
abbrev pub bytes_to_client : Trace → ℕ
bytes_to_client trace = sum_by (by_said client_bytes) trace

-- a number of 64 bits: a larger one stands at the end of the type
abbrev pub in_word : ℕ → ℕ
in_word n = min n (2 ^ 64 - 1)

-- the three counts
abbrev pub counts_in : Trace → Counts
counts_in trace = record {
  flows = flows_in trace;
  to_servers = in_word (bytes_to_servers trace);
  to_client = in_word (bytes_to_client trace);
}

-- a count on a line, behind its name
unfoldable pub line_text : List ℕ → ℕ → List ℕ
line_text name count = name ++ decimal count ++ 10 ∷ []

-- the counts on three lines
abbrev pub counts_text : Counts → List ℕ
counts_text counts =
    line_text (codes "flows ") counts.flows
    ++ line_text (codes "to server ") counts.to_servers
    ++ line_text (codes "to client ") counts.to_client

-- the step says something in no other conversation than this one
abbrev pub IsOfOne : ℕ → Step → Type 0
IsOfOne conv (steps.Said other said) = other ≡ conv
IsOfOne conv _ = Unit {0}
