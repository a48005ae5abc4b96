-- Lists of fields, each a name and a value, and the comma lists in their values.
use Rattle.std.specs.Prelude.{ℕ, Bool, List, [], ◌∷◌, ◌==◌, ◌&&◌, ◌||◌, not, if◌then◌else◌, length, map, filter, bytes_eq}
use Rattle.std.specs.List.{list_any, flat_map, slice_split}
use Rattle.std.proofs.Common.{reverse}
use Rattle.px_text.specs.Ascii.{lowercase}

-- the two names are equal but for the case of their letters (RFC 9110 section 5.1)
abbrev pub is_same_name : List ℕ → List ℕ → Bool
is_same_name a b = bytes_eq (lowercase a) (lowercase b)

-- the field is of that name
abbrev pub is_named : List ℕ → List ℕ × List ℕ → Bool
is_named name field = is_same_name field.0 name

-- the field has that name and that value, both in any case
abbrev pub is_valued : List ℕ → List ℕ → List ℕ × List ℕ → Bool
is_valued name value field = is_named name field && is_same_name field.1 value

-- the values of the fields of that name, in their order
abbrev pub values_of : List ℕ → List (List ℕ × List ℕ) → List (List ℕ)
values_of name fields = map (λ f. f.1) (filter (is_named name) fields)

-- the fields of all other names, in their order
abbrev pub without : List ℕ → List (List ℕ × List ℕ) → List (List ℕ × List ℕ)
without name fields = filter (λ f. not (is_named name f)) fields

-- the field of that name and value in place of the first of that name, and no other of that name; at the end where there
-- was none
abbrev pub set_in : List ℕ → List ℕ → List (List ℕ × List ℕ) → List (List ℕ × List ℕ)
set_in name value [] = (name, value) ∷ []
set_in name value (field ∷ fields) =
    if is_named name field then (name, value) ∷ without name fields else (field ∷ set_in name value fields)

-- a space or a tab (RFC 9110 section 5.6.3)
abbrev pub is_blank : ℕ → Bool
is_blank b = b == 32 || b == 9

-- the text without the blanks at its start
abbrev pub trim_start : List ℕ → List ℕ
trim_start [] = []
trim_start (b ∷ text) = if is_blank b then trim_start text else (b ∷ text)

-- the text without the blanks at both its ends
abbrev pub trim_blanks : List ℕ → List ℕ
trim_blanks text = reverse (trim_start (reverse (trim_start text)))

-- what stands between the commas of a value, without blanks around it
abbrev pub parts : List ℕ → List (List ℕ)
parts value = map trim_blanks (slice_split (λ b. b == 44) value)

-- the elements of a value that is a comma list: its parts but the empty ones (RFC 9110 section 5.6.1)
abbrev pub elements : List ℕ → List (List ℕ)
elements value = filter (λ part. not (length part == 0)) (parts value)

-- the elements of the fields of that name, as if their values were joined by commas (RFC 9110 section 5.3)
abbrev pub elements_of : List ℕ → List (List ℕ × List ℕ) → List (List ℕ)
elements_of name fields = flat_map elements (values_of name fields)

-- a field of that name has the element, whatever the case of its letters
abbrev pub has_element : List ℕ → List ℕ → List (List ℕ × List ℕ) → Bool
has_element name element fields = list_any (λ e. is_same_name e element) (elements_of name fields)
