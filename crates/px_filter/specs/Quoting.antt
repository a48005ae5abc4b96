-- A quoted word that is read in part.
use Rattle.std.specs.Prelude.{ℕ, ◌+◌, List, [], ◌++◌, Option, Some, None}
use Rattle.px_filter.specs.Tokens.{quoted, escaped}
use Rattle.px_filter.specs.declared.lexing.Quoting.{Quoting}
use Rattle.px_filter.specs.declared.lexing.Quoting.TheVariants as quoting

-- what is still to come of the word
abbrev pub left : Quoting → ℕ → List ℕ → Option (List ℕ × ℕ)
left quoting.Within quote text = quoted quote text
left quoting.Escaped quote text = escaped quote text
left quoting.Closed quote text = Some ([], 0)

-- behind the word so far, which has so many bytes
abbrev pub behind : List ℕ → ℕ → Option (List ℕ × ℕ) → Option (List ℕ × ℕ)
behind front bytes None = None
behind front bytes (Some (word, used)) = Some (front ++ word, bytes + used)
