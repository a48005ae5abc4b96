use Rattle.std.proofs.Common.{◌≡◌, ◌≤◌, drop}
use Rattle.px_filter.specs.Parsing.{pending, unclosed}
use Rattle.px_filter.proofs.parenthesis.unclosed.Given as goal

abbrev pub invariant-loop-token : goal.invariant-loop-token
invariant-loop-token l =
    (l.depth ≤ l.token-index) × (pending l.depth l.outermost (drop l.token-index l.tokens) ≡ unclosed l.tokens)
