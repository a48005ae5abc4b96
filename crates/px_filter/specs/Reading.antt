-- Reading an expression, token by token from the left.
--
--     expression = choice { choice }     side by side is "and", and binds least
--     choice     = both { "|" both }
--     both       = unary { "&" unary }
--     unary      = "!" unary | "(" expression ")" | operator [ argument ] | word
--
-- What is open at a place is a list of `!` and `(`, the innermost first; a `(` keeps the lists that it interrupts.
use Rattle.std.specs.Prelude.{ℕ, Bool, true, false, nat_le, List, [], ◌∷◌, ◌++◌, length, Option, Some, None, Result, Ok, Err, if◌then◌else◌}
use Rattle.px_text.specs.Number.{decimal_value}
use Rattle.px_filter.specs.Expression.{Expression, asked, negated, all_of, any_of}
use Rattle.px_filter.specs.Pattern.{is_pattern}
use Rattle.px_filter.specs.declared.filter.FilterError.{FilterError}
use Rattle.px_filter.specs.declared.filter.FilterError.TheVariants as refusals
use Rattle.px_filter.specs.declared.operator.Argued.{Argued}
use Rattle.px_filter.specs.declared.operator.Argued.TheVariants as argued
use Rattle.px_filter.specs.declared.operator.Operator.{Operator}
use Rattle.px_filter.specs.declared.operator.Operator.TheVariants as operators
use Rattle.px_filter.specs.declared.operator.Part.{Part}
use Rattle.px_filter.specs.declared.operator.Part.TheVariants as parts
use Rattle.px_filter.specs.declared.state.Awaits.{Awaits}
use Rattle.px_filter.specs.declared.state.Awaits.TheVariants as awaits
use Rattle.px_filter.specs.declared.token.Token.{Token}
use Rattle.px_filter.specs.declared.token.Token.TheVariants as token
use Rattle.px_filter.specs.declared.token.Placed.{Placed}
use Rattle.px_filter.specs.declared.tree.Test.TheVariants as tests

-- the expression so far, between two parentheses or at the top: the choices that are whole, the parts of the choice that is
-- read, and the parts of its last part
pub record Level : Type 0 where
  pub choices : List Expression
  pub boths : List Expression
  pub unaries : List Expression

pub data Frame : Type 0 where
  bang : Frame
  paren : Level → Frame

pub record State : Type 0 where
  pub frames : List Frame
  pub level : Level
  pub awaits : Awaits

abbrev pub empty_level : Level
empty_level = record { choices = []; boths = []; unaries = [] }

abbrev pub start : State
start = record { frames = []; level = empty_level; awaits = awaits.Operand }

-- behind an operand: it is one more part of the last part
abbrev pub with_unary : Level → Expression → Level
with_unary level e = record level { unaries = level.unaries ++ (e ∷ []) }

-- behind a `|`: the last part is whole
abbrev pub both_whole : Level → Level
both_whole level = record level { boths = level.boths ++ (all_of level.unaries ∷ []); unaries = [] }

abbrev pub choice_of : Level → Expression
choice_of level = any_of (level.boths ++ (all_of level.unaries ∷ []))

-- before an operand that no sign joins: the choice is whole
abbrev pub choice_whole : Level → Level
choice_whole level = record { choices = level.choices ++ (choice_of level ∷ []); boths = []; unaries = [] }

-- the expression, where it ends here
abbrev pub value : Level → Expression
value level = all_of (level.choices ++ (choice_of level ∷ []))

-- an operand that ends here ends the negations around it
abbrev pub negate : List Frame → Expression → Expression
negate (bang ∷ frames) e = negate frames (negated e)
negate _ e = e

abbrev pub behind_negations : List Frame → List Frame
behind_negations (bang ∷ frames) = behind_negations frames
behind_negations frames = frames

abbrev pub ended : State → Expression → State
ended s e = record {
  frames = behind_negations s.frames;
  level = with_unary s.level (negate s.frames e);
  awaits = awaits.Joint;
}

-- an operand may begin with this token
abbrev pub begins_operand : Token → Bool
begins_operand token.And = false
begins_operand token.Or = false
begins_operand token.Close = false
begins_operand _ = true

-- a word may begin with this token
abbrev pub begins_word : Token → Bool
begins_word (token.Word word) = true
begins_word token.Unclosed = true
begins_word _ = false

-- the next token is there and passes the test
abbrev pub is_followed : (Token → Bool) → List Placed → Bool
is_followed test [] = false
is_followed test (next ∷ rest) = test next.token

-- at most so many `!` and `(` inside one another
abbrev pub most_deep : ℕ
most_deep = 64

-- a `!` or a `(` at the place, with what it opens
abbrev pub opened : ℕ → List Placed → List Frame → State → Result State FilterError
opened place rest frames after =
    if is_followed begins_operand rest then (
    if nat_le most_deep (length frames) then Err (refusals.TooDeep place) else Ok after)
    else Err (refusals.MissingArgument place)

-- a word at the place, looked for in the part
abbrev pub searched : ℕ → Part → List ℕ → State → Result State FilterError
searched place part word s =
    if is_pattern word then Ok (ended s (asked (tests.Part part word))) else Err (refusals.BadPattern place)

-- the number of one to three digits
abbrev pub code_of : List ℕ → Option ℕ
code_of word = if nat_le (length word) 3 then decimal_value word else None

abbrev pub coded : ℕ → Option ℕ → State → Result State FilterError
coded place None s = Err (refusals.BadNumber place)
coded place (Some code) s = Ok (ended s (asked (tests.Code code)))

-- an operator at the place
abbrev pub operated : ℕ → Option Operator → List Placed → State → Result State FilterError
operated place None rest s = Err (refusals.Unknown place)
operated place (Some (operators.Alone fact)) rest s = Ok (ended s (asked (tests.Fact fact)))
operated place (Some (operators.Argued argument)) rest s =
    if is_followed begins_word rest then Ok (record s { awaits = awaits.Argument argument }) else Err (refusals.MissingArgument place)

-- a token where an operand is awaited; none that begins no operand comes here but at the text's beginning
abbrev pub operand : ℕ → Token → List Placed → State → Result State FilterError
operand place token.Not rest s =
    opened place rest s.frames (record { frames = bang ∷ s.frames; level = s.level; awaits = awaits.Operand })
operand place token.Open rest s =
    opened place rest s.frames (record { frames = paren s.level ∷ s.frames; level = empty_level; awaits = awaits.Operand })
operand place (token.Operator operator) rest s = operated place operator rest s
operand place (token.Word word) rest s = searched place parts.Url word s
operand place token.Unclosed rest s = Err (refusals.Unclosed place)
operand place token.And rest s = Err (refusals.MissingArgument 0)
operand place token.Or rest s = Err (refusals.MissingArgument 0)
operand place token.Close rest s = Err (refusals.MissingArgument 0)

-- a token where an argument is awaited; nothing but a word comes here
abbrev pub argument : ℕ → Argued → Token → State → Result State FilterError
argument place argued.Code (token.Word word) s = coded place (code_of word) s
argument place (argued.Part part) (token.Word word) s = searched place part word s
argument place kind token.Unclosed s = Err (refusals.Unclosed place)
argument place kind _ s = Err (refusals.MissingArgument 0)

-- a `&` or a `|` at the place
abbrev pub joined : ℕ → List Placed → State → Level → Result State FilterError
joined place rest s level =
    if is_followed begins_operand rest then Ok (record { frames = s.frames; level = level; awaits = awaits.Operand })
    else Err (refusals.MissingArgument place)

-- a `)` at the place
abbrev pub closed : ℕ → List Frame → Level → Result State FilterError
closed place (paren outer ∷ frames) level =
    Ok (ended (record { frames = frames; level = outer; awaits = awaits.Joint }) (value level))
closed place _ level = Err (refusals.Trailing place)

-- a token behind an operand
abbrev pub joint : ℕ → Token → List Placed → State → Result State FilterError
joint place token.And rest s = joined place rest s s.level
joint place token.Or rest s = joined place rest s (both_whole s.level)
joint place token.Close rest s = closed place s.frames s.level
joint place token rest s =
    operand place token rest (record { frames = s.frames; level = choice_whole s.level; awaits = awaits.Operand })

abbrev pub step_by : Awaits → ℕ → Token → List Placed → State → Result State FilterError
step_by awaits.Operand place token rest s = operand place token rest s
step_by (awaits.Argument kind) place token rest s = argument place kind token s
step_by awaits.Joint place token rest s = joint place token rest s

-- what a token makes of the state, with the tokens behind it
abbrev pub step : State → Placed → List Placed → Result State FilterError
step s t rest = step_by s.awaits t.place t.token rest s

-- at the text's end; a parenthesis that is open there is judged beside
abbrev pub finished : Awaits → Level → Result Expression FilterError
finished awaits.Joint level = Ok (value level)
finished _ level = Err (refusals.MissingArgument 0)

-- what comes of a step, where the tokens behind it make this of a state
abbrev pub read_on : (State → Result Expression FilterError) → Result State FilterError → Result Expression FilterError
read_on rest (Ok s) = rest s
read_on rest (Err refusal) = Err refusal

-- what the tokens make of the state
abbrev pub read : List Placed → State → Result Expression FilterError
read [] s = finished s.awaits s.level
read (t ∷ rest) s = read_on (read rest) (step s t rest)

-- what comes of a `!` or a `(` that was looked at
abbrev pub allowed : Result (Unit {0}) FilterError → State → Result State FilterError
allowed (Ok _) after = Ok after
allowed (Err refusal) after = Err refusal
