-- From what `regex` tells of a pattern that it built, or refused, to the pattern's text.
use Rattle.std.proofs.Common.{◌≡◌, ◌≢◌, ◌⊎◌, ℕ, ◌+◌, ◌*◌, ◌<◌, ◌≤◌, true, false, ◌==◌, List, [], ◌∷◌, ◌++◌, map, length, get_or, if◌then◌else◌, Option, None, Some, IfSome, IsSomeAnd, is_some, refl, ap, ◌∙◌, subst, inl, inr, slice_range}
use Rattle.std.proofs.lemmas.Bool.{le-leb, lt-leb}
use Rattle.std.specs.Str.{chars}
use Rattle.regex.proofs.ForCallers.{find_all_alike, spans}
use Rattle.regex.specs.Bytes as raw
use Rattle.regex.specs.Failures.{IsRightKind}
use Rattle.regex.specs.Patterns.{Config, Match, Re, Reads, Refuses, SameCaptures, find_all}
use Rattle.regex.specs.Replace.{bytes_of, group_bytes, replaced_by}
use Rattle.regex.specs.Sources.{IsRefusal}
use Rattle.regex.specs.Templates.{written_after}
use Rattle.regex.specs.Writes.{both}
use Rattle.regex.specs.declared.bytes.regex.Regex as raw_regex
use Rattle.regex.specs.declared.error.Error.{Error}
use Rattle.regex.specs.declared.error.Error.TheVariants.{Syntax}
use Rattle.regex_hir.specs.Meaning.{meaning}
use Rattle.regex_hir.specs.declared.hir.Hir.{Hir}
use Rattle.regex_syntax.specs.Brackets.{Nested}
use Rattle.regex_syntax.specs.Grammar.{Names, group_count, read}
use Rattle.regex_syntax.specs.declared.error.Error as parser
use Rattle.regex_syntax.specs.declared.error.ErrorKind.{ErrorKind}
use Rattle.regex_syntax.specs.declared.error.ErrorKind.TheVariants.{OutOfMemory}
use Rattle.px_rule.specs.Pattern.{is_pattern, replaced_all, replaced_with, rule_config, within_limit}

-- ---- what is a pattern

abbrev ReadAs : Option (Nested Re × Names) → Hir → Names → Type 0
ReadAs o hir names = IsSomeAnd o (λ (re, found).
    (re.depth ≤ 250) × SameCaptures (meaning hir) re.value × (names ≡ found) × (group_count (meaning hir) ≤ length names))

some_read : (o : Option (Nested Re × Names)) (hir : Hir) (names : Names) → ReadAs o hir names → is_some (within_limit o) ≡ true
some_read None hir names h = absurd h
some_read (Some (re, found)) hir names h = rw (le-leb re.depth 250 h.0)

reads_as : (config : Config) (source : List ℕ) (hir : Hir) (names : Names) → config ≡ rule_config → Reads config source hir names →
    ReadAs (read rule_config (chars source)) hir names
unfolding Reads
reads_as config source hir names same reads = rw same at reads

pub is_pattern_of_read : (config : Config) (source : List ℕ) (hir : Hir) (names : Names) → config ≡ rule_config → Reads config source hir names →
    is_pattern source ≡ true
is_pattern_of_read config source hir names same reads = some_read _ hir names (reads_as config source hir names same reads)

none_read : (o : Option (Nested Re × Names)) → (o ≡ None) ⊎ IfSome o (λ (re, _). 250 < re.depth) → is_some (within_limit o) ≡ false
none_read None h = refl
none_read (Some (re, found)) (inl e) = absurd cc
none_read (Some (re, found)) (inr deep) = rw (lt-leb re.depth 250 deep)

refused_as : (source : List ℕ) (kind : ErrorKind) → kind ≢ OutOfMemory → Refuses rule_config source kind → is_pattern source ≡ false
unfolding Refuses
refused_as source kind other (inl memory) = absurd (other memory)
refused_as source kind other (inr (inl none)) = none_read _ (inl none)
refused_as source kind other (inr (inr deep)) = none_read _ (inr deep.1)

pub is_no_pattern : (config : Config) (source given : List ℕ) (error : Error) (e : parser.Error) → config ≡ rule_config → given ≡ source →
    error ≡ Syntax e → IsRefusal config given error → IsRightKind config given error → is_pattern source ≡ false
is_no_pattern config source given error e same is_source is_syntax refusal kind =
    let refused : Refuses rule_config source e.kind = rw (same, is_source) at refusal e is_syntax in
    let right : IsRightKind config given (Syntax e) = rw is_syntax at kind in
    refused_as source e.kind right refused

-- ---- what is replaced

module _ (hay template : List ℕ) (names : Names) where
  -- what the template writes at a match, by its span and its groups
  abbrev writes : ℕ × ℕ × (ℕ → Option ℕ) → List ℕ
  writes s = written_after names (λ n. bytes_of hay (if n == 0 then Some (s.0, s.1) else both (s.2 (2 * n)) (s.2 (2 * n + 1)))) template 0

  abbrev written : Match → List ℕ
  written m = written_after names (group_bytes hay m) template 0

  alike : (xs ys : List Match) → map spans xs ≡ map spans ys → (at : ℕ) → replaced_by written hay at xs ≡ replaced_by written hay at ys
  unfolding replaced_by
  alike [] [] e at = refl
  alike [] (y ∷ ys) e at = absurd cc
  alike (x ∷ xs) [] e at = absurd cc
  alike (x ∷ xs) (y ∷ ys) e at =
      let head : spans x ≡ spans y = cc in
      let tail : map spans xs ≡ map spans ys = cc in
      ap (λ (s : ℕ × ℕ × (ℕ → Option ℕ)). (slice_range hay at s.0 ++ writes s) ++ replaced_by written hay s.1 xs) head
      ∙ ap (λ t. (slice_range hay at y.start ++ written y) ++ t) (alike xs ys tail y.trace.end)

by_text : (o : Option (Nested Re × Names)) (hir : Hir) (names : Names) (hay template : List ℕ) → ((k : ℕ) → get_or hay k 0 < 256) → ReadAs o hir names →
    replaced_by (written hay template names) hay 0 (find_all (meaning hir) hay) ≡ replaced_with (within_limit o) template hay
by_text None hir names hay template bytes h = absurd h
by_text (Some (re, found)) hir names hay template bytes h =
    alike hay template names _ _ (find_all_alike h.1 hay bytes false) 0
    ∙ ap (λ n. replaced_by (written hay template n) hay 0 (find_all re.value hay)) h.2
    ∙ rw (le-leb re.depth 250 h.0)

pub replaced_by_text : (r : raw_regex.Regex) (hay template out : List ℕ) → ((k : ℕ) → get_or hay k 0 < 256) →
    raw.regex_config r ≡ rule_config → raw.IsReadFromSource r →
    out ≡ replaced_by (written hay template (raw.regex_names r)) hay 0 (find_all (raw.regex_pattern r) hay) →
    out ≡ replaced_all (raw.regex_source r) template hay
replaced_by_text r hay template out bytes is_config is_read is_out =
    is_out ∙ by_text _ _ _ hay template bytes (reads_as _ _ _ _ is_config is_read)

pub is_pattern_of_built : (r : raw_regex.Regex) (source : List ℕ) → raw.regex_config r ≡ rule_config → raw.IsReadFromSource r →
    raw.regex_source r ≡ source → is_pattern source ≡ true
is_pattern_of_built r source is_config is_read is_source =
    subst (λ s. is_pattern s ≡ true) is_source (is_pattern_of_read _ _ _ _ is_config is_read)
