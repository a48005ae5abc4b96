use Rattle.std.proofs.Common.{List, ℕ, [], length}
use Rattle.px_read.specs.Reader.{to_come}
use Rattle.px_stream.specs.Comings.{CollectsHeld}
use Rattle.px_stream.proofs.coming.read_on.Given as goal

abbrev pub invariant-parts : goal.invariant-parts
invariant-parts l = (body : List ℕ) × CollectsHeld l.fn.reader [] l.fn.said.items l.reader body l.said.items

abbrev pub decreases-parts : goal.decreases-parts
decreases-parts l = length (to_come l.reader).marks
