-- An expression written out with all its parentheses, every word in quotes; and which expressions a text can be.
use Rattle.std.specs.Prelude.{◌≡◌, ℕ, zero, suc, true, ◌==◌, ◌||◌, if◌then◌else◌, List, [], ◌∷◌, ◌++◌, codes, decimal, Some}
use Rattle.px_filter.specs.Expression.{Expression, Expressions, asked, negated, every, some_of, no_more, more}
use Rattle.px_filter.specs.Pattern.{is_pattern}
use Rattle.px_filter.specs.Reading.{code_of}
use Rattle.px_filter.specs.declared.operator.Fact.{Fact}
use Rattle.px_filter.specs.declared.operator.Fact.TheVariants as facts
use Rattle.px_filter.specs.declared.operator.Part.{Part}
use Rattle.px_filter.specs.declared.operator.Part.TheVariants as parts
use Rattle.px_filter.specs.declared.tree.Test.{Test}
use Rattle.px_filter.specs.declared.tree.Test.TheVariants as tests

abbrev pub fact_name : Fact → List ℕ
fact_name facts.Always = codes "all"
fact_name facts.Asset = codes "a"
fact_name facts.Error = codes "e"
fact_name facts.Marked = codes "marked"
fact_name facts.NoResponse = codes "q"
fact_name facts.Response = codes "s"
fact_name facts.Replayed = codes "replay"
fact_name facts.ReplayedRequest = codes "replayq"
fact_name facts.ReplayedResponse = codes "replays"
fact_name facts.Websocket = codes "websocket"

abbrev pub part_name : Part → List ℕ
part_name parts.Body = codes "b"
part_name parts.RequestBody = codes "bq"
part_name parts.ResponseBody = codes "bs"
part_name parts.Host = codes "d"
part_name parts.Server = codes "dst"
part_name parts.Header = codes "h"
part_name parts.RequestHeader = codes "hq"
part_name parts.ResponseHeader = codes "hs"
part_name parts.Method = codes "m"
part_name parts.Client = codes "src"
part_name parts.Type = codes "t"
part_name parts.RequestType = codes "tq"
part_name parts.ResponseType = codes "ts"
part_name parts.Url = codes "u"

-- a word up to its closing `'`, a backslash before each `'` and each backslash
abbrev pub word_text : List ℕ → List ℕ
word_text [] = 39 ∷ []
word_text (c ∷ word) = if c == 39 || c == 92 then 92 ∷ c ∷ word_text word else c ∷ word_text word

-- `~` and the operator, with its argument in quotes, or a blank behind it
abbrev pub test_text : Test → List ℕ
test_text (tests.Fact fact) = 126 ∷ (fact_name fact ++ (32 ∷ []))
test_text (tests.Code code) = 126 ∷ 99 ∷ 39 ∷ word_text (decimal code)
test_text (tests.Part part word) = 126 ∷ (part_name part ++ (39 ∷ word_text word))

abbrev mutual
  pub written : Expression → List ℕ
  written (asked t) = test_text t
  written (negated e) = 33 ∷ written e
  written (every es) = 40 ∷ (joined 38 es ++ (41 ∷ []))
  written (some_of es) = 40 ∷ (joined 124 es ++ (41 ∷ []))

  -- the texts of some, with the sign between them
  pub joined : ℕ → Expressions → List ℕ
  joined sign no_more = []
  joined sign (more e es) = written e ++ followed sign es

  pub followed : ℕ → Expressions → List ℕ
  followed sign no_more = []
  followed sign (more e es) = sign ∷ (written e ++ followed sign es)

-- a status of one to three digits, and a word that is a pattern
abbrev pub IsTest : Test → Type 0
IsTest (tests.Fact fact) = Unit {0}
IsTest (tests.Code code) = code_of (decimal code) ≡ Some code
IsTest (tests.Part part word) = is_pattern word ≡ true

-- one alone is written as itself, so a list has two members at least
abbrev pub HasTwo : Expressions → Type 0
HasTwo (more e (more f es)) = Unit {0}
HasTwo _ = ⊥

-- inside one `!` or `(` more
abbrev pub Inside : (ℕ → Type 0) → ℕ → Type 0
Inside P zero = ⊥
Inside P (suc depth) = P depth

-- what a text can be, where so many `!` and `(` may stand inside one another
abbrev mutual
  pub MayBeWritten : Expression → ℕ → Type 0
  MayBeWritten (asked t) depth = IsTest t
  MayBeWritten (negated e) depth = Inside (MayBeWritten e) depth
  MayBeWritten (every es) depth = HasTwo es × Inside (AllMayBeWritten es) depth
  MayBeWritten (some_of es) depth = HasTwo es × Inside (AllMayBeWritten es) depth

  pub AllMayBeWritten : Expressions → ℕ → Type 0
  AllMayBeWritten no_more depth = Unit {0}
  AllMayBeWritten (more e es) depth = MayBeWritten e depth × AllMayBeWritten es depth
