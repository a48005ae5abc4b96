use Rattle.std.proofs.Common.{ℕ, None, [], sym, subst}
use Rattle.px_wire.specs.Stands.{idle, StandsFor}
use Rattle.px_wire.proofs.AskedLemmas.{failed_none}
use Rattle.px_wire.proofs.LinesLemmas.{begins_so}
use Rattle.px_wire.proofs.lines.Lines.new.Goals as goal

pub invariant_of-result : goal.invariant_of-result
invariant_of-result g c =
    let P : ℕ → Type 0 = λ n. StandsFor idle None [] n 0 (g.W.Wire.calls c.args.wire) in
    let Q : ℕ → Type 0 = λ n. StandsFor idle None [] c.new-table.result.accepted n (g.W.Wire.calls c.args.wire) in (
      record {
        endpoints = [];
        held = c.new-table.ensures.endpoints;
        stands = subst Q (sym c.new-table.ensures.moment) (subst P (sym c.new-table.ensures.accepted) (begins_so (g.W.Wire.calls c.args.wire) c.requires.fresh));
      },
      failed_none (g.W.Wire.calls c.args.wire),
    )
