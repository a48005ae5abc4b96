use Rattle.std.proofs.Common.{◌≡◌, List, length}
use Rattle.px_wire.specs.declared.endpoint.Endpoint.{Endpoint}
use Rattle.px_wire.specs.Holds.{Holds}
use Rattle.px_wire.proofs.endpoints.Endpoints.first_open.Given as goal

abbrev pub invariant-loop-turn : goal.invariant-loop-turn
invariant-loop-turn l = record {
  holds : (endpoints : List Endpoint) → Holds l.initial.self endpoints → Holds l.self endpoints;
  rest : l.self ≡ record l.initial.self { ready = l.self.ready };
}

abbrev pub decreases-loop-turn : goal.decreases-loop-turn
decreases-loop-turn l = length l.self.ready.entries
