-- Tokens, read from the left. Each is judged byte by byte: every sign that means something is an ASCII character, so no
-- token ends within a character.
use Rattle.std.specs.Prelude.{ℕ, zero, suc, ◌+◌, Bool, ◌==◌, ◌||◌, not, List, [], ◌∷◌, length, take, drop, take_while, Option, Some, None, if◌then◌else◌}
use Rattle.std.specs.Char.{is_ascii_alphabetic}
use Rattle.px_filter.specs.Operators.{operator_of}
use Rattle.px_filter.specs.declared.token.Token.{Token}
use Rattle.px_filter.specs.declared.token.Token.TheVariants as token
use Rattle.px_filter.specs.declared.token.Placed.{Placed}

-- a space or a tab
abbrev pub is_blank : ℕ → Bool
is_blank c = c == 32 || c == 9

-- `'` or `"`
abbrev pub is_quote : ℕ → Bool
is_quote c = c == 39 || c == 34

-- a bare word goes on with this byte: it is no blank, no quote, no parenthesis and no `~`
abbrev pub is_bare : ℕ → Bool
is_bare c = not (is_blank c || is_quote c || c == 40 || c == 41 || c == 126)

-- how many bytes at the front pass the test
abbrev pub run : (ℕ → Bool) → List ℕ → ℕ
run test text = length (take_while test text)

-- a character in front of a quoted word, and a backslash, which is none of it
abbrev pub put : ℕ → Option (List ℕ × ℕ) → Option (List ℕ × ℕ)
put c None = None
put c (Some (word, used)) = Some (c ∷ word, 1 + used)

abbrev pub skip : Option (List ℕ × ℕ) → Option (List ℕ × ℕ)
skip None = None
skip (Some (word, used)) = Some (word, 1 + used)

-- What stands in front of the closing quote, and how many bytes that is with the quote. A backslash takes the next
-- character as it is. None where the text ends before.
abbrev mutual
  pub quoted : ℕ → List ℕ → Option (List ℕ × ℕ)
  quoted quote [] = None
  quoted quote (c ∷ text) =
      if c == quote then Some ([], 1) else (if c == 92 then skip (escaped quote text) else put c (quoted quote text))

  pub escaped : ℕ → List ℕ → Option (List ℕ × ℕ)
  escaped quote [] = None
  escaped quote (c ∷ text) = put c (quoted quote text)

-- the token of a quoted word, and how many bytes it has with its first quote
abbrev pub quoted_token : Option (List ℕ × ℕ) → ℕ → Token × ℕ
quoted_token (Some (word, used)) rest = (token.Word word, used + 1)
quoted_token None rest = (token.Unclosed, rest + 1)

-- the operator and the bare word at the front, each with the number of its bytes
abbrev pub operator_token : List ℕ → Token × ℕ
operator_token text = (token.Operator (operator_of (take (run is_ascii_alphabetic text) text)), run is_ascii_alphabetic text + 1)

abbrev pub bare_token : List ℕ → Token × ℕ
bare_token text = (token.Word (take (run is_bare text) text), run is_bare text)

-- the token that begins with this byte, and how many bytes it has
abbrev pub front_token : ℕ → List ℕ → Token × ℕ
front_token c text =
    if c == 33 then (token.Not, 1)
    else if c == 38 then (token.And, 1)
    else if c == 124 then (token.Or, 1)
    else if c == 40 then (token.Open, 1)
    else if c == 41 then (token.Close, 1)
    else if c == 126 then operator_token text
    else if is_quote c then quoted_token (quoted c text) (length text)
    else bare_token (c ∷ text)

-- the tokens of a text of at most so many bytes, of which the first stands at the place
unfoldable pub tokens_within : ℕ → ℕ → List ℕ → List Placed
tokens_within zero place text = []
tokens_within (suc more) place [] = []
tokens_within (suc more) place (c ∷ text) =
    if is_blank c then tokens_within more (place + 1) text
    else record { place = place; token = (front_token c text).0 }
    ∷ tokens_within more (place + (front_token c text).1) (drop ((front_token c text).1) (c ∷ text))

-- the tokens of a text, each with its place
abbrev pub tokens_of : List ℕ → List Placed
tokens_of text = tokens_within (length text) 0 text
