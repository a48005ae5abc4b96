-- What follows of the definitions for the lines of a connection.
use Rattle.std.specs.Prelude.{◌≡◌, ◌<◌, ◌⊎◌, ℕ, false, List, [], ◌∷◌, ◌++◌, length, All, Some, None, IfSome}
use Rattle.std.specs.List.{concat}
use Rattle.px_view.specs.declared.desk.Line.{Line}
use Rattle.px_view.specs.declared.desk.Line.TheVariants as line
use Rattle.px_view.specs.Desk.{Stand, fresh, is_feed, limit, stands, told, without_return}

-- the lines that pieces complete, one piece after the other
abbrev pub told_in : List (List ℕ) → Stand → List Line
told_in [] stand = []
told_in (piece ∷ pieces) stand = told piece stand ++ told_in pieces (stands piece stand)

-- where the connection stands behind them
abbrev pub stands_in : List (List ℕ) → Stand → Stand
stands_in [] stand = stand
stands_in (piece ∷ pieces) stand = stands_in pieces (stands piece stand)

-- the lines do not hang on how the bytes are cut
pub record IsCutFree (pieces : List (List ℕ)) (stand : Stand) : Type 0 where
  pub lines : told_in pieces stand ≡ told (concat pieces) stand
  pub place : stands_in pieces stand ≡ stands (concat pieces) stand

abbrev pub LinesAreCutFree : Type 0
LinesAreCutFree = (pieces : List (List ℕ)) (stand : Stand) → IsCutFree pieces stand

abbrev pub NoFeed : List ℕ → Type 0
NoFeed text = All (λ b. is_feed b ≡ false) text

-- what the bytes of a connection are, from the first of a line on, by what stands in front of the first line feed
pub record AreLines (text more : List ℕ) : Type 0 where
  -- a line that is short enough is given, and behind it all begins anew
  pub whole : length text < limit → told (text ++ 10 ∷ more) fresh ≡ line.Text (without_return text) ∷ told more fresh
  pub behind : length text < limit → stands (text ++ 10 ∷ more) fresh ≡ stands more fresh
  -- what has no line feed yet is kept
  pub waits : length text < limit → told text fresh ≡ []
  pub kept : length text < limit → stands text fresh ≡ Some text
  -- a line that is too long is the last
  pub long : length text ≡ limit → told (text ++ more) fresh ≡ line.TooLong ∷ []
  pub last : length text ≡ limit → stands (text ++ more) fresh ≡ None

abbrev pub LinesAreWhole : Type 0
LinesAreWhole = (text more : List ℕ) → NoFeed text → AreLines text more

-- the bytes behind the last line feed, and fewer than make a line too long
pub record IsBehindFeed (kept bytes : List ℕ) : Type 0 where
  pub front : List ℕ
  pub parts : bytes ≡ front ++ kept
  pub ends : (front ≡ []) ⊎ ((before : List ℕ) × (front ≡ before ++ 10 ∷ []))
  pub none : NoFeed kept
  pub short : length kept < limit

abbrev pub LittleIsKept : Type 0
LittleIsKept = (bytes : List ℕ) → IfSome (stands bytes fresh) (λ kept. IsBehindFeed kept bytes)
