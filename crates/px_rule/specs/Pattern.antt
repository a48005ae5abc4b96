-- Patterns and templates: the words of `regex`, over bytes. The case of letters counts, and the dot matches a line feed.
use Rattle.std.specs.Prelude.{ℕ, Bool, false, true, List, nat_le, Option, Some, None, if◌then◌else◌, is_some}
use Rattle.std.specs.Str.{chars}
use Rattle.regex.specs.Patterns.{Re, Match, find_all}
use Rattle.regex.specs.Replace.{group_bytes, replaced_by}
use Rattle.regex.specs.Templates.{written_after}
use Rattle.regex_syntax.specs.Brackets.{Nested}
use Rattle.regex_syntax.specs.Grammar.{Names, read}
use Rattle.regex_syntax.specs.Verdict.{default_flags}
use Rattle.regex_syntax.specs.declared.Config.{Config}

-- the options of `regex`: its own, but that the dot matches a line feed, and bytes are matched
abbrev pub rule_config : Config
rule_config = record {
  flags = record default_flags { dot_matches_new_line = true };
  octal = false;
  utf8 = false;
  nest_limit = 250;
}

-- what was read, unless it nests deeper than `regex` allows
abbrev pub within_limit : Option (Nested Re × Names) → Option (Re × Names)
within_limit None = None
within_limit (Some (re, names)) = if nat_le re.depth 250 then Some (re.value, names) else None

-- the pattern that a text is, with the names of its groups; none where it is no pattern, or nests deeper than 250
abbrev pub pattern_of : List ℕ → Option (Re × Names)
pattern_of text = within_limit (read rule_config (chars text))

abbrev pub is_pattern : List ℕ → Bool
is_pattern text = is_some (pattern_of text)

-- the bytes with each match of the pattern, from the left and none within another, replaced by what the template writes
-- there: `$1` and `$name` are what a group matched
abbrev pub replaced_with : Option (Re × Names) → List ℕ → List ℕ → List ℕ
replaced_with None template bytes = bytes
replaced_with (Some (re, names)) template bytes =
    replaced_by (λ (m : Match). written_after names (group_bytes bytes m) template 0) bytes 0 (find_all re bytes)

-- the same by the pattern's text
abbrev pub replaced_all : List ℕ → List ℕ → List ℕ → List ℕ
replaced_all pattern template bytes = replaced_with (pattern_of pattern) template bytes
