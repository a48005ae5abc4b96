use Rattle.std.proofs.Common.{refl}
use Rattle.px_gate.proofs.GateDue.{gate_gave, gate_waits}
use Rattle.px_gate.proofs.law.gates_add_nothing.Goals as goal

pub returns-clause-gave : goal.returns-clause-gave
returns-clause-gave g c = λ made gate calls given stands view.
    gate_gave (g.L.Chained.chain made.layer) (g.L.Chained.settles made.layer) (g.L.Chained.start made.layer) (g.L.Chained.is_at made.layer) g.L.Layer.awaited
    (g.met.L.Chained.asks made.layer) g.L.Layer.stands made.layer (g.met.L.Chained.stands_at made.layer) made gate calls given refl stands view

pub returns-clause-waits : goal.returns-clause-waits
returns-clause-waits g c = λ made gate calls given stands ask asks.
    gate_waits (g.L.Chained.chain made.layer) (g.L.Chained.settles made.layer) (g.L.Chained.start made.layer) (g.L.Chained.is_at made.layer) g.L.Layer.awaited
    (g.met.L.Chained.asks made.layer) g.L.Layer.stands made.layer (g.met.L.Chained.stands_at made.layer) made gate calls given refl stands ask asks
