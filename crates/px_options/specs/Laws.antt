-- Words of the laws.
use Rattle.std.specs.Prelude.{ℕ, List, [], ◌∷◌}
use Rattle.toml.specs.Data.{Data, Members, member}

-- a table of these keys, with more of them behind
abbrev pub followed : List (List ℕ × Data) → Members → Members
followed [] behind = behind
followed (pair ∷ pairs) behind = member pair.0 pair.1 (followed pairs behind)
