use Rattle.std.proofs.Common.{◌≡◌, drop}
use Rattle.px_filter.specs.Reading.{read, start}
use Rattle.px_filter.specs.Stands.{state_view}
use Rattle.px_filter.proofs.reading.read.Given as goal

abbrev pub invariant-loop-i : goal.invariant-loop-i
invariant-loop-i l = read (drop l.i l.tokens) (state_view l.state) ≡ read l.tokens start
