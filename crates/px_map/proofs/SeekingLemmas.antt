-- From what `regex` tells of a pattern that it built, to the pattern's text.
use Rattle.std.proofs.Common.{◌≡◌, ℕ, ◌<◌, ◌≤◌, false, List, drop, get_or, length, Option, None, Some, IsSomeAnd, option_map, refl, ap, ◌∙◌}
use Rattle.std.proofs.lemmas.Bool.{le-leb}
use Rattle.std.specs.Str.{chars}
use Rattle.regex.proofs.ForCallers.{span_alike}
use Rattle.regex.specs.Bytes as raw
use Rattle.regex.specs.Patterns.{Config, Match, Re, Reads, SameCaptures, find, span}
use Rattle.regex.specs.declared.bytes.regex.Regex as raw_regex
use Rattle.regex_hir.specs.Meaning.{meaning}
use Rattle.regex_hir.specs.declared.hir.Hir.{Hir}
use Rattle.regex_syntax.specs.Brackets.{Nested}
use Rattle.regex_syntax.specs.Grammar.{Names, group_count, read}
use Rattle.px_rule.specs.Pattern.{rule_config, within_limit}
use Rattle.px_map.specs.Found.{after_match, behind_match}

abbrev ReadAs : Option (Nested Re × Names) → Hir → Names → Type 0
ReadAs o hir names = IsSomeAnd o (λ (re, found).
    (re.depth ≤ 250) × SameCaptures (meaning hir) re.value × (names ≡ found) × (group_count (meaning hir) ≤ length names))

reads_as : (config : Config) (source : List ℕ) (hir : Hir) (names : Names) → config ≡ rule_config → Reads config source hir names →
    ReadAs (read rule_config (chars source)) hir names
unfolding Reads
reads_as config source hir names same reads = rw same at reads

-- what stands behind a match, by its span
abbrev pub behind : List ℕ → Option (ℕ × ℕ) → Option (List ℕ)
behind text found = option_map (λ (s : ℕ × ℕ). drop s.1 text) found

by_span : (text : List ℕ) (found : Option Match) → behind text (option_map span found) ≡ option_map (λ (m : Match). drop m.trace.end text) found
by_span text None = refl
by_span text (Some m) = refl

by_text : (o : Option (Nested Re × Names)) (hir : Hir) (names : Names) (text : List ℕ) → ((k : ℕ) → get_or text k 0 < 256) → ReadAs o hir names →
    behind text (option_map span (find (meaning hir) text 0)) ≡ behind_match (within_limit o) text
by_text None hir names text bytes h = absurd h
by_text (Some (re, found)) hir names text bytes h =
    ap (behind text) (span_alike h.1 text bytes false 0) ∙ by_span text (find re.value text 0) ∙ rw (le-leb re.depth 250 h.0)

pub found_by_text : (r : raw_regex.Regex) (text : List ℕ) → ((k : ℕ) → get_or text k 0 < 256) →
    raw.regex_config r ≡ rule_config → raw.IsReadFromSource r →
    behind text (option_map span (find (raw.regex_pattern r) text 0)) ≡ after_match (raw.regex_source r) text
found_by_text r text bytes is_config is_read = by_text _ _ _ text bytes (reads_as _ _ _ _ is_config is_read)
