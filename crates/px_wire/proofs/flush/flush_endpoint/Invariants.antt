use Rattle.std.proofs.Common.{◌≡◌, ◌≤◌, ℕ, List, ◌∷◌, ◌++◌, length, Option}
use Rattle.px_event.specs.declared.heard.Heard.{Heard}
use Rattle.px_wire.specs.declared.endpoint.Endpoint.{Endpoint}
use Rattle.px_wire.specs.Asked.{AnsweredSince}
use Rattle.px_wire.specs.Calls.{Calls}
use Rattle.px_wire.specs.Puts.{TookSo}
use Rattle.px_wire.specs.Stands.{StandsFor, putting, name_of}
use Rattle.px_wire.proofs.flush.flush_endpoint.Given as goal

-- what was put so far was what waited first
abbrev pub invariant-loop-wire : goal.invariant-loop-wire
invariant-loop-wire g l = record {
  stands : (owed : Option Heard) (front back : List Endpoint) (accepted moment : ℕ)
      → StandsFor (putting l.initial.endpoint.slot) owed (front ++ l.initial.endpoint ∷ back) accepted moment (g.W.Wire.calls l.initial.wire)
      → StandsFor (putting l.initial.endpoint.slot) owed (front ++ l.endpoint ∷ back) accepted moment (g.W.Wire.calls l.wire);
  name : name_of l.endpoint ≡ name_of l.initial.endpoint;
  turn : l.endpoint.turn ≡ l.initial.endpoint.turn;
  steps : g.W.Wire.steps l.wire ≡ g.W.Wire.steps l.initial.wire;
  listening : g.W.Wire.listening l.wire ≡ g.W.Wire.listening l.initial.wire;
  faults : g.W.Wire.faults l.wire ≡ g.W.Wire.faults l.initial.wire;
  asks : g.W.Wire.asks l.wire ≡ g.W.Wire.asks l.initial.wire;
  kept : (past : Calls) (times : ℕ) → AnsweredSince past times (g.W.Wire.calls l.initial.wire) → AnsweredSince past times (g.W.Wire.calls l.wire);
  took : TookSo l.initial.endpoint.slot l.initial.endpoint.queue l.endpoint.queue (g.W.Wire.calls l.initial.wire) (g.W.Wire.calls l.wire);
  blocks : g.W.Wire.blocks l.initial.wire ≤ g.W.Wire.blocks l.wire;
  breaks : g.W.Wire.breaks l.initial.wire ≤ g.W.Wire.breaks l.wire;
}

abbrev pub decreases-loop-wire : goal.decreases-loop-wire
decreases-loop-wire g l = length l.endpoint.queue
