use Rattle.std.proofs.Common.{refl}
use Rattle.px_event.specs.Layer.{Took}
use Rattle.px_gate.proofs.GateCalls.{calls_gave}
use Rattle.px_core.proofs.NamedLemmas.{number_after, names_after, while_awaited}
use Rattle.px_core.proofs.ResultLemmas.{on_ok_map}
use Rattle.px_core.proofs.gated.hear.Goals as goal

pub returns-clause-names : goal.returns-clause-names
returns-clause-names g c =
    on_ok_map c.take.result (names_after g.L.Layer.stands g.L.Layer.awaited g.L.Numbered.number g.met.L.Numbered.keeps_number g.L.Chained.chain g.L.Chained.start g.met.L.Numbered.names
    (λ made gate calls given stands view. calls_gave (g.L.Chained.chain made.layer) (g.L.Chained.settles made.layer) (g.L.Chained.start made.layer) (g.L.Chained.is_at made.layer)
    g.L.Layer.awaited (g.met.L.Chained.asks made.layer) g.L.Layer.stands made.layer (g.met.L.Chained.stands_at made.layer) made gate calls given refl stands view)
    c.args.gate.now c.take.new.self (Took c.args.moment c.args.event) c.args.out.now.items c.take.new.out.items c.requires.sound) c.take.ensures.goes

pub returns-clause-number : goal.returns-clause-number
returns-clause-number g c =
    on_ok_map c.take.result (number_after g.L.Layer.stands g.L.Layer.awaited g.L.Numbered.number g.met.L.Numbered.keeps_number
    c.args.gate.now c.take.new.self (Took c.args.moment c.args.event) c.args.out.now.items c.take.new.out.items c.requires.sound) c.take.ensures.goes

pub returns-clause-asks : goal.returns-clause-asks
returns-clause-asks g c =
    on_ok_map c.take.result (while_awaited g.L.Layer.awaited c.args.gate.now.layer c.take.new.self.layer c.args.out.now.items c.take.new.out.items _ refl) c.take.ensures.asks
