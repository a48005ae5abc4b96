-- What stands behind the first match of a pattern.
use Rattle.std.specs.Prelude.{ℕ, List, drop, Option, Some, None, option_map}
use Rattle.regex.specs.Patterns.{Match, Re, find}
use Rattle.regex_syntax.specs.Grammar.{Names}
use Rattle.px_rule.specs.Pattern.{pattern_of}

-- what stands behind the first match; none where there is no match
abbrev pub behind_match : Option (Re × Names) → List ℕ → Option (List ℕ)
behind_match None text = None
behind_match (Some (re, names)) text = option_map (λ (m : Match). drop m.trace.end text) (find re text 0)

-- the same by the pattern's text
abbrev pub after_match : List ℕ → List ℕ → Option (List ℕ)
after_match pattern text = behind_match (pattern_of pattern) text
