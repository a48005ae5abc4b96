-- What is read at the door for operators: whether a request of HTTP begins with it, and where its first line ends.
use Rattle.std.specs.Prelude.{Bool, ℕ, ◌+◌, ◌==◌, List, [], ◌∷◌, codes, bytes_eq, length, take, position, Option, Some, None}
use Rattle.std.specs.List.{list_any}

-- the methods whose requests are refused there, each with the space behind it (RFC 9110 section 9.3, RFC 5789)
abbrev pub beginnings : List (List ℕ)
beginnings =
    codes "GET " ∷ codes "HEAD " ∷ codes "POST " ∷ codes "PUT " ∷ codes "DELETE " ∷ codes "OPTIONS " ∷ codes "TRACE " ∷ codes "PATCH " ∷ []

-- the one text begins with the other
abbrev pub begins_with : List ℕ → List ℕ → Bool
begins_with text front = bytes_eq front (take (length front) text)

-- it begins with a method and a space, and it may become one that does
abbrev pub is_request : List ℕ → Bool
is_request text = list_any (λ front. begins_with text front) beginnings

abbrev pub may_be_request : List ℕ → Bool
may_be_request text = list_any (λ front. begins_with front text) beginnings

-- how many bytes the first line has, its line feed among them: all where no line ends
abbrev pub line_at : Option ℕ → ℕ → ℕ
line_at (Some at) whole = at + 1
line_at None whole = whole

abbrev pub is_line_feed : ℕ → Bool
is_line_feed byte = byte == 10

abbrev pub line_len : List ℕ → ℕ
line_len text = line_at (position is_line_feed text) (length text)
