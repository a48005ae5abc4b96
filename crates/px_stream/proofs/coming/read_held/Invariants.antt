use Rattle.std.proofs.Common.{length}
use Rattle.px_read.specs.Reader.{to_come}
use Rattle.px_stream.specs.Comings.{CollectsHeld}
use Rattle.px_stream.proofs.coming.read_held.Given as goal

abbrev pub invariant-parts : goal.invariant-parts
invariant-parts l = CollectsHeld l.fn.reader l.fn.body l.fn.said.items l.reader l.body l.said.items

abbrev pub decreases-parts : goal.decreases-parts
decreases-parts l = length (to_come l.reader).marks
