-- What a person is shown of a refusal.
use Rattle.std.specs.Prelude.{ℕ, ◌+◌, ◌-◌, if◌then◌else◌, List, [], ◌∷◌, ◌++◌, length, take, codes, decimal}
use Rattle.std.specs.Str.{chars, encode_utf8_all, is_utf8}
use Rattle.px_filter.specs.Parsing.{place_of}
use Rattle.px_filter.specs.Shown.{shown}
use Rattle.px_filter.specs.declared.filter.FilterError.{FilterError}
use Rattle.px_rule.specs.Spec.{spec_parts}
use Rattle.px_rule.specs.declared.cause.RuleCause.{RuleCause}
use Rattle.px_rule.specs.declared.cause.RuleCause.TheVariants as causes
use Rattle.px_rule.specs.declared.spec.SpecError.TheVariants as specs
use Rattle.px_options.specs.declared.error.OptionsError.{OptionsError}
use Rattle.px_options.specs.declared.error.OptionsError.TheVariants as error

-- The line that names what is refused; out of memory is about nothing that a file has. A filter is named as a rule is that stands first
-- in its list.
unfoldable pub refusal_line : OptionsError → List ℕ
refusal_line error.BadToml = codes "bad options: toml\n"
refusal_line error.BadMode = codes "bad options: mode\n"
refusal_line (error.UnknownOption name) = codes "bad option " ++ (name ++ 10 ∷ [])
refusal_line (error.WrongKind name) = codes "bad option " ++ (name ++ 10 ∷ [])
refusal_line (error.BadRule name index text cause) = codes "bad rule " ++ (name ++ 32 ∷ (decimal index ++ 10 ∷ []))
refusal_line (error.BadFilter name text cause) = codes "bad rule " ++ (name ++ 32 ∷ (decimal 0 ++ 10 ∷ []))
refusal_line error.NoMemory = []

-- how many bytes the separator has, the first character of a rule's text
abbrev pub separator_length : List ℕ → ℕ
separator_length text = length (encode_utf8_all (take 1 (chars text)))

-- where a part begins, in front of which these stand; a separator of so many bytes stands in front of each part
abbrev pub behind_parts : ℕ → List (List ℕ) → ℕ
behind_parts separator [] = separator
behind_parts separator (part ∷ parts) = separator + length part + behind_parts separator parts

-- the parts in front of the one that so many follow
abbrev pub front_parts : ℕ → List (List ℕ) → List (List ℕ)
front_parts following parts = take (length parts - (following + 1)) parts

-- where that part begins in a rule's text, which is split at most so many times
abbrev pub part_place : ℕ → ℕ → List ℕ → ℕ
part_place most following text = behind_parts (separator_length text) (front_parts following (spec_parts most text))

-- The place in a rule's text that its refusal means, in bytes from 0: where the filter, the subject or what follows the subject
-- begins, in a filter the place of the filter's refusal, and the text's end where parts are missing. A rule with a pattern, a name or
-- a value is split twice, and one with a status once; the last part is the replacement or the status, and the one before a replacement is the subject.
abbrev pub refusal_place : List ℕ → RuleCause → ℕ
refusal_place text (causes.Spec specs.Empty) = 0
refusal_place text (causes.Spec (specs.WrongCount count)) = length text
refusal_place text (causes.Filter e) = separator_length text + place_of e
refusal_place text causes.Pattern = part_place 2 1 text
refusal_place text causes.Name = part_place 2 1 text
refusal_place text causes.Value = part_place 2 0 text
refusal_place text causes.Status = part_place 1 0 text
refusal_place text causes.NoMemory = 0

-- the rule's text and a mark under the place; the texts of an options file are UTF-8, and of other bytes nothing is shown
abbrev pub rule_note : List ℕ → RuleCause → List ℕ
rule_note text cause = if is_utf8 text then shown text (refusal_place text cause) else []

-- the filter's text and a mark under the place of its refusal; of bytes that are no UTF-8 nothing is shown
abbrev pub filter_note : List ℕ → FilterError → List ℕ
filter_note text cause = if is_utf8 text then shown text (place_of cause) else []

-- what is shown below the line: of a rule and of a filter its text with a mark, of all else nothing
unfoldable pub refusal_note : OptionsError → List ℕ
refusal_note (error.BadRule name index text cause) = rule_note text cause
refusal_note (error.BadFilter name text cause) = filter_note text cause
refusal_note other = []
