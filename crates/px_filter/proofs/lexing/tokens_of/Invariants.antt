use Rattle.std.proofs.Common.{◌≡◌, ◌≤◌, ◌-◌, ◌++◌, ℕ, length}
use Rattle.px_filter.specs.Tokens.{tokens_of, tokens_within}
use Rattle.px_filter.proofs.lexing.tokens_of.Given as goal

abbrev pub invariant-loop-rest : goal.invariant-loop-rest
invariant-loop-rest l =
    (length l.rest ≤ length l.fn.text)
    × ((n : ℕ) × (length l.rest ≤ n)
    × (l.tokens.items ++ tokens_within n (length l.fn.text - length l.rest) l.rest ≡ tokens_of l.fn.text))

abbrev pub decreases-loop-rest : goal.decreases-loop-rest
decreases-loop-rest l = length l.rest
