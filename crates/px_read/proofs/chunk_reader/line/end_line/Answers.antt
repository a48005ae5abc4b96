use Rattle.std.proofs.Common.{ℕ, ◌∙◌, sym, ap, List, Some}
use Rattle.px_read.proofs.LineTurnLemmas.{turn_zero, turn_some}
use Rattle.px_read.specs.ChunkLine.{size_in}
use Rattle.px_read.proofs.chunk_reader.line.end_line.Goals as goal

pub returns-then-size-eq0-clause-turn : goal.returns-then-size-eq0-clause-turn
returns-then-size-eq0-clause-turn c =
    let size = ap (λ (l : List ℕ). size_in l) (sym c.deref.ensures.value) ∙ sym c.read_size-size.ensures in
    turn_zero c.args.used (size_in c.args.line.now.items) c.new.result
    (size ∙ c.in-Some.is ∙ ap (λ (n : ℕ). Some n) c.if-size-eq0.true) c.new.ensures

pub returns-clause-turn : goal.returns-clause-turn
returns-clause-turn c =
    let size = ap (λ (l : List ℕ). size_in l) (sym c.deref.ensures.value) ∙ sym c.read_size-size.ensures in
    turn_some c.args.used (size_in c.args.line.now.items) c.in-Some.size (size ∙ c.in-Some.is) c.if-size-eq0.false
