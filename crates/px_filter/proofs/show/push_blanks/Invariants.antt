use Rattle.std.proofs.Common.{◌≡◌, ◌++◌, take}
use Rattle.px_filter.specs.Shown.{blanks}
use Rattle.px_filter.proofs.show.push_blanks.Given as goal

abbrev pub invariant-loop-i : goal.invariant-loop-i
invariant-loop-i l = l.out.items ≡ l.fn.out.items ++ blanks (take l.i l.text)
