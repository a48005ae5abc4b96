use Rattle.std.proofs.Common.{◌≡◌, drop}
use Rattle.px_filter.specs.Quoting.{behind, left}
use Rattle.px_filter.specs.Tokens.{quoted}
use Rattle.px_filter.specs.declared.lexing.Quoting.TheVariants as quoting
use Rattle.px_filter.proofs.lexing.quoted.Given as goal

abbrev pub invariant-loop-i : goal.invariant-loop-i
invariant-loop-i l =
    (¬ (l.quoting ≡ quoting.Closed))
    × (behind l.word.items l.i (left l.quoting l.quote (drop l.i l.text)) ≡ quoted l.quote l.text)
