-- What a text is: an expression, or the first refusal from the left.
use Rattle.std.specs.Prelude.{ℕ, zero, suc, pred, Bool, true, false, ◌&&◌, not, nat_le, List, [], ◌∷◌, Option, Some, None, Result, Ok, Err, if◌then◌else◌}
use Rattle.px_filter.specs.Expression.{Expression}
use Rattle.px_filter.specs.Reading.{read, start}
use Rattle.px_filter.specs.Tokens.{tokens_of}
use Rattle.px_filter.specs.declared.filter.FilterError.{FilterError}
use Rattle.px_filter.specs.declared.filter.FilterError.TheVariants as refusals
use Rattle.px_filter.specs.declared.token.Token.{Token}
use Rattle.px_filter.specs.declared.token.Token.TheVariants as token
use Rattle.px_filter.specs.declared.token.Placed.{Placed}

-- the tokens close the parenthesis in front of them, and as many more inside it
abbrev pub closes_by : (ℕ → Bool) → Token → ℕ → Bool
closes_by behind token.Open inside = behind (suc inside)
closes_by behind token.Close zero = true
closes_by behind token.Close (suc inside) = behind inside
closes_by behind _ inside = behind inside

abbrev pub closes : List Placed → ℕ → Bool
closes [] inside = false
closes (t ∷ ts) inside = closes_by (closes ts) t.token inside

abbrev pub is_open : Token → Bool
is_open token.Open = true
is_open _ = false

-- the place of the first parenthesis that is not closed by the tokens behind it
abbrev pub unclosed : List Placed → Option ℕ
unclosed [] = None
unclosed (t ∷ ts) = if is_open t.token && not (closes ts zero) then Some t.place else unclosed ts

-- What the tokens to come make of the first parenthesis that is not closed, where so many are open before them, the outermost
-- at the place.
abbrev pub pending : ℕ → ℕ → List Placed → Option ℕ
pending zero outermost ts = unclosed ts
pending (suc inside) outermost ts = if closes ts inside then unclosed ts else Some outermost

-- how many are open behind a token, and the place of the outermost
abbrev pub after : Token → ℕ → ℕ → ℕ → ℕ × ℕ
after token.Open place zero outermost = (1, place)
after token.Open place (suc inside) outermost = (suc (suc inside), outermost)
after token.Close place depth outermost = (pred depth, outermost)
after _ place depth outermost = (depth, outermost)

-- where a refusal stands
abbrev pub place_of : FilterError → ℕ
place_of (refusals.Unknown place) = place
place_of (refusals.MissingArgument place) = place
place_of (refusals.BadPattern place) = place
place_of (refusals.BadNumber place) = place
place_of (refusals.Unclosed place) = place
place_of (refusals.TooDeep place) = place
place_of (refusals.Trailing place) = place
place_of refusals.NoMemory = zero

-- A parenthesis that is not closed is one refusal, what reading meets is another: the first from the left stands. At
-- one place it is that of reading.
abbrev pub earlier : Option ℕ → Result Expression FilterError → Result Expression FilterError
earlier None read = read
earlier (Some place) (Ok e) = Err (refusals.Unclosed place)
earlier (Some place) (Err refusal) = if nat_le (place_of refusal) place then Err refusal else Err (refusals.Unclosed place)

abbrev pub parse : List ℕ → Result Expression FilterError
parse text = earlier (unclosed (tokens_of text)) (read (tokens_of text) start)
