use Rattle.std.proofs.Common.{◌≡◌, false}
use Rattle.rows.proofs.measure.reading.count_fed.Given as goal

abbrev pub invariant-loop : goal.invariant-loop
invariant-loop l = l.reader.closed ≡ false
