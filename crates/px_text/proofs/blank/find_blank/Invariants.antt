use Rattle.std.proofs.Common.{length, ◌+◌, ◌-◌, ◌≡◌}
use Rattle.px_text.specs.Blank.{blank_end, ends_blank}
use Rattle.px_text.specs.Least.{least}
use Rattle.px_text.proofs.blank.find_blank.Given as goal

-- the search from here is the search from the start
abbrev pub invariant-loop-end : goal.invariant-loop-end
invariant-loop-end l =
    least (ends_blank l.bytes l.start) l.end (length l.bytes + 1 - l.end) ≡ blank_end l.bytes l.start
