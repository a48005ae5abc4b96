use Rattle.std.proofs.Common.{◌≡◌}
use Rattle.rows.proofs.measure.reading.count_given.Given as goal

abbrev pub invariant-loop : goal.invariant-loop
invariant-loop l = l.reader.closed ≡ l.fn.reader.closed
