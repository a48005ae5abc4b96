use Rattle.std.proofs.Common.{◌≡◌, take}
use Rattle.px_options.specs.Parts.{capped}
use Rattle.px_options.specs.Shown.{behind_parts}
use Rattle.px_options.proofs.shown.behind_parts.Given as goal

-- where the part begins in front of which the parts so far stand
abbrev pub invariant-loop-i : goal.invariant-loop-i
invariant-loop-i l = l.place ≡ capped (behind_parts l.separator (take l.i l.spec))
