-- Which files map local reads for a flow.
use Rattle.std.specs.Prelude.{ℕ, Bool, ◌-◌, ◌==◌, ◌||◌, ◌&&◌, List, [], ◌∷◌, ◌++◌, length, map, nat_le, slice_index, codes, bytes_eq, Option, Some, None, if◌then◌else◌}
use Rattle.std.specs.List.{list_any, slice_split}
use Rattle.px_message.specs.declared.flow.Flow.{Flow}
use Rattle.px_rule.specs.Rule.{Rule, applies}
use Rattle.px_map.specs.Found.{after_match}
use Rattle.px_map.specs.Url.{url_of}

-- the last byte is a slash
abbrev pub ends_with_slash : List ℕ → Bool
ends_with_slash text = slice_index text (length text - 1) == 47

-- the byte begins a query or a fragment (RFC 3986 section 3)
abbrev pub ends_path : ℕ → Bool
ends_path b = b == 63 || b == 35

-- the text up to the query or the fragment
abbrev pub without_query : List ℕ → List ℕ
without_query [] = []
without_query (b ∷ text) = if ends_path b then [] else b ∷ without_query text

-- the text without the slashes at its start
abbrev pub unrooted : List ℕ → List ℕ
unrooted [] = []
unrooted (b ∷ text) = if b == 47 then unrooted text else b ∷ text

-- a letter or a digit
abbrev pub is_letter_or_digit : ℕ → Bool
is_letter_or_digit b = (nat_le 48 b && nat_le b 57) || (nat_le 65 b && nat_le b 90) || (nat_le 97 b && nat_le b 122)

-- a byte that stands for itself in a file's name: a letter, a digit, or one of `-_.=(),/`
abbrev pub is_kept : ℕ → Bool
is_kept b =
    is_letter_or_digit b
    || (b == 45 || b == 95 || b == 46 || b == 61 || b == 40 || b == 41 || b == 44 || b == 47)

-- the byte, or `_` in its place
abbrev pub kept : ℕ → ℕ
kept b = if is_kept b then b else 95

-- the text names a directory: it is empty, or ends with a slash
abbrev pub is_open : List ℕ → Bool
is_open text = length text == 0 || ends_with_slash text

-- the file of that name, or the index of that directory
abbrev pub indexed : List ℕ → List ℕ
indexed text = if is_open text then text ++ codes "index.html" else text

-- the file below a rule's directory that is meant by what follows its match in the URL
abbrev pub below : List ℕ → List ℕ
below tail = indexed (map kept (unrooted (without_query tail)))

-- a segment of the path is `..`
abbrev pub climbs : List ℕ → Bool
climbs text = list_any (λ segment. bytes_eq segment (codes "..")) (slice_split (λ b. b == 47) text)

-- the file below a directory, unless its path leads up
abbrev pub file_below : List ℕ → List ℕ → Option (List ℕ)
file_below directory name = if climbs name then None else Some (directory ++ name)

-- the file that a rule with this path means where this follows its match
abbrev pub file_of : List ℕ → List ℕ → Option (List ℕ)
file_of path tail = if ends_with_slash path then file_below path (below tail) else Some path

-- what a rule that matches means; nothing where it does not match
abbrev pub named_by : Rule → Option (List ℕ) → List (Option (List ℕ))
named_by rule None = []
named_by rule (Some tail) = file_of rule.replacement tail ∷ []

abbrev pub rule_names : Rule → Flow → List (Option (List ℕ))
rule_names rule flow = if applies rule.filter flow then named_by rule (after_match rule.subject (url_of flow.request)) else []

-- what the rules that match the flow mean, in their order: the file of each, or none where its path would lead up
abbrev pub local_names : List Rule → Flow → List (Option (List ℕ))
local_names [] flow = []
local_names (rule ∷ rules) flow = rule_names rule flow ++ local_names rules flow
