use Rattle.std.proofs.Common.{◌≡◌, drop, map}
use Rattle.std.specs.List.{list_any}
use Rattle.px_filter.specs.Holds.{field_line}
use Rattle.px_filter.specs.Pattern.{found}
use Rattle.px_filter.proofs.part.lines_have.Given as goal

abbrev pub invariant-loop-i : goal.invariant-loop-i
invariant-loop-i l =
    (l.seeker ≡ l.fn.seeker)
    × (list_any (found l.fn.seeker) (map field_line (drop l.i l.fn.fields)) ≡ list_any (found l.fn.seeker) (map field_line l.fn.fields))
