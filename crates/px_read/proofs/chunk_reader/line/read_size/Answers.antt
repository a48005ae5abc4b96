use Rattle.px_read.proofs.LineTurnLemmas.{size_found, size_longer}
use Rattle.px_read.proofs.chunk_reader.line.read_size.Goals as goal

pub returns-then-end-line : goal.returns-then-end-line
returns-then-end-line c =
    let w = rw c.in-Ok-Complete.field-0-is at c.in-Ok-Complete.ensures.complete in
    size_found c.args.line.now c.in-Ok-Complete.end c.in-Ok-Complete.size w.0 w.1 c.if-end-line.true c.requires

pub returns-else-end-line : goal.returns-else-end-line
returns-else-end-line c =
    let w = rw c.in-Ok-Complete.field-0-is at c.in-Ok-Complete.ensures.complete in
    size_longer c.args.line.now c.in-Ok-Complete.end c.in-Ok-Complete.size w.0 w.1 c.if-end-line.false
