-- A rule's text: its first character separates the parts that stand behind it.
use Rattle.std.specs.Prelude.{ℕ, zero, suc, ◌==◌, if◌then◌else◌, List, [], ◌∷◌, length, map, nat_lt, Option, Some, None}
use Rattle.std.specs.List.{list_any, before_first, after_first}
use Rattle.std.specs.Str.{chars, encode_utf8_all}
use Rattle.px_rule.specs.declared.spec.SpecError.{SpecError}
use Rattle.px_rule.specs.declared.spec.SpecError.TheVariants.{Empty, WrongCount}

-- the characters, split at the separator at most so many times: what stands behind the last split keeps its separators
abbrev pub split_up_to : ℕ → ℕ → List ℕ → List (List ℕ)
split_up_to zero separator text = text ∷ []
split_up_to (suc most) separator text =
    if list_any (λ c. c == separator) text
    then before_first (λ c. c == separator) text ∷ split_up_to most separator (after_first (λ c. c == separator) text)
    else text ∷ []

-- the parts of these characters, of which the first is the separator
abbrev pub parts_of : ℕ → List ℕ → List (List ℕ)
parts_of most [] = []
parts_of most (separator ∷ text) = split_up_to most separator text

-- the parts of a text, each as its bytes
abbrev pub spec_parts : ℕ → List ℕ → List (List ℕ)
spec_parts most text = map encode_utf8_all (parts_of most (chars text))

-- why so many parts are too few; the empty text alone has none
abbrev pub refused_count : ℕ → ℕ → Option SpecError
refused_count most count =
    if count == 0 then Some Empty else if nat_lt count most then Some (WrongCount count) else None

-- why the text is no rule's text
abbrev pub spec_refusal : ℕ → List ℕ → Option SpecError
spec_refusal most text = refused_count most (length (spec_parts most text))
