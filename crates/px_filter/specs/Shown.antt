-- A refusal as it is shown: the line of the text with the place in it, and a mark under the place.
use Rattle.std.specs.Prelude.{ℕ, ◌-◌, Bool, ◌==◌, ◌||◌, not, nat_lt, nat_le, List, [], ◌∷◌, ◌++◌, length, take, drop, map, filter, reverse}
use Rattle.px_filter.specs.Tokens.{run}

-- a byte that ends no line
abbrev pub is_no_feed : ℕ → Bool
is_no_feed c = not (c == 10)

-- what stands on its last line, and on its first
abbrev pub last_line : List ℕ → List ℕ
last_line text = drop (length text - run is_no_feed (reverse text)) text

abbrev pub first_line : List ℕ → List ℕ
first_line text = take (run is_no_feed text) text

-- the first byte of a character: one of UTF-8's other bytes is from 128 to 191
abbrev pub begins_character : ℕ → Bool
begins_character c = nat_lt c 128 || nat_le 192 c

-- a blank for each character
abbrev pub blanks : List ℕ → List ℕ
blanks text = map (λ _. 32) (filter begins_character text)

-- the two lines, where this stands on the line before the place and behind it: the line, and a `^` under the place
abbrev pub marked : List ℕ → List ℕ → List ℕ
marked before behind = before ++ behind ++ (10 ∷ []) ++ blanks before ++ (94 ∷ 10 ∷ [])

-- what is shown of a refusal at the place
abbrev pub shown : List ℕ → ℕ → List ℕ
shown text place = marked (last_line (take place text)) (first_line (drop place text))
