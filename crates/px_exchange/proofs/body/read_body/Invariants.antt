use Rattle.std.proofs.Common.{length}
use Rattle.px_read.specs.Reader.{to_come}
use Rattle.px_exchange.specs.Bodies.{Collects}
use Rattle.px_exchange.proofs.body.read_body.Given as goal

abbrev pub invariant-parts : goal.invariant-parts
invariant-parts l = Collects l.fn.reader l.fn.body l.reader l.body

abbrev pub decreases-parts : goal.decreases-parts
decreases-parts l = length (to_come l.reader).marks
