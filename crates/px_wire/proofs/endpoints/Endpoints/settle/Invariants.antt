use Rattle.std.proofs.Common.{◌≡◌, List, length}
use Rattle.px_text.specs.Prefix.{IsPrefixOf}
use Rattle.px_wire.specs.declared.endpoint.Endpoint.{Endpoint}
use Rattle.px_wire.specs.Holds.{Holds}
use Rattle.px_wire.proofs.endpoints.Endpoints.settle.Given as goal

abbrev pub invariant-loop-self : goal.invariant-loop-self
invariant-loop-self l = record {
  holds : (endpoints : List Endpoint) → Holds l.initial.self endpoints → Holds l.self endpoints;
  left : IsPrefixOf l.self.marked.items l.initial.self.marked.items;
  rest : l.self ≡ record l.initial.self { ready = l.self.ready; marked = l.self.marked };
}

abbrev pub decreases-loop-self : goal.decreases-loop-self
decreases-loop-self l = length l.self.marked.items
