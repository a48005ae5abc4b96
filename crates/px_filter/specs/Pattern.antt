-- Patterns: the words of `regex`, over bytes. A search ignores the case of letters, and the dot matches a line feed too.
use Rattle.std.specs.Prelude.{◌≡◌, ◌<◌, slice_index, ℕ, Bool, false, true, List, chars, nat_le, Option, Some, None, if◌then◌else◌, is_some}
use Rattle.std.specs.Str.{is_utf8}
use Rattle.regex.specs.Patterns.{Re, find}
use Rattle.regex_syntax.specs.Brackets.{Nested}
use Rattle.regex_syntax.specs.Grammar.{Names, read}
use Rattle.regex_syntax.specs.Verdict.{default_flags}
use Rattle.regex_syntax.specs.declared.Config.{Config}

-- the options of `regex`: its own, but that letters match in either case, the dot matches a line feed, and bytes are matched
abbrev pub filter_config : Config
filter_config = record {
  flags = record default_flags { case_insensitive = true; dot_matches_new_line = true };
  octal = false;
  utf8 = false;
  nest_limit = 250;
}

-- what was read, unless it nests deeper than `regex` allows
abbrev pub within_limit : Option (Nested Re × Names) → Option Re
within_limit None = None
within_limit (Some (re, names)) = if nat_le re.depth 250 then Some re.value else None

-- the pattern that a word is to `regex`; none where it is no pattern, or nests deeper than 250
abbrev pub pattern_of : List ℕ → Option Re
pattern_of word = if is_utf8 word then within_limit (read filter_config (chars word)) else None

abbrev pub is_pattern : List ℕ → Bool
is_pattern word = is_some (pattern_of word)

-- a pattern is found in a text
abbrev pub occurs : Option Re → List ℕ → Bool
occurs None text = false
occurs (Some re) text = is_some (find re text 0)

-- the word as a pattern is found in the text
abbrev pub found : List ℕ → List ℕ → Bool
found word text = occurs (pattern_of word) text

-- a search for the pattern in bytes tells whether the word is found in them
abbrev pub Seeks : Re → List ℕ → Type 0
Seeks re word = (text : List ℕ) → ((k : ℕ) → slice_index text k < 256) → is_some (find re text 0) ≡ found word text
