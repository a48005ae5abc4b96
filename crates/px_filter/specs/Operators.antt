-- The operators, by the letters behind `~`.
use Rattle.std.specs.Prelude.{ℕ, List, bytes_eq, codes, Option, Some, None, if◌then◌else◌}
use Rattle.px_filter.specs.declared.operator.Fact.{Fact}
use Rattle.px_filter.specs.declared.operator.Fact.TheVariants as facts
use Rattle.px_filter.specs.declared.operator.Part.{Part}
use Rattle.px_filter.specs.declared.operator.Part.TheVariants as parts
use Rattle.px_filter.specs.declared.operator.Argued.TheVariants as argued
use Rattle.px_filter.specs.declared.operator.Operator.{Operator}
use Rattle.px_filter.specs.declared.operator.Operator.TheVariants as operators

-- the operators without an argument
abbrev pub fact_of : List ℕ → Option Fact
fact_of letters =
    if bytes_eq letters (codes "all") then Some facts.Always
    else if bytes_eq letters (codes "http") then Some facts.Always
    else if bytes_eq letters (codes "a") then Some facts.Asset
    else if bytes_eq letters (codes "e") then Some facts.Error
    else if bytes_eq letters (codes "marked") then Some facts.Marked
    else if bytes_eq letters (codes "q") then Some facts.NoResponse
    else if bytes_eq letters (codes "s") then Some facts.Response
    else if bytes_eq letters (codes "replay") then Some facts.Replayed
    else if bytes_eq letters (codes "replayq") then Some facts.ReplayedRequest
    else if bytes_eq letters (codes "replays") then Some facts.ReplayedResponse
    else if bytes_eq letters (codes "websocket") then Some facts.Websocket
    else None

-- the operators that have a pattern
abbrev pub part_of : List ℕ → Option Part
part_of letters =
    if bytes_eq letters (codes "b") then Some parts.Body
    else if bytes_eq letters (codes "bq") then Some parts.RequestBody
    else if bytes_eq letters (codes "bs") then Some parts.ResponseBody
    else if bytes_eq letters (codes "d") then Some parts.Host
    else if bytes_eq letters (codes "dst") then Some parts.Server
    else if bytes_eq letters (codes "h") then Some parts.Header
    else if bytes_eq letters (codes "hq") then Some parts.RequestHeader
    else if bytes_eq letters (codes "hs") then Some parts.ResponseHeader
    else if bytes_eq letters (codes "m") then Some parts.Method
    else if bytes_eq letters (codes "src") then Some parts.Client
    else if bytes_eq letters (codes "t") then Some parts.Type
    else if bytes_eq letters (codes "tq") then Some parts.RequestType
    else if bytes_eq letters (codes "ts") then Some parts.ResponseType
    else if bytes_eq letters (codes "u") then Some parts.Url
    else None

abbrev pub of_part : Option Part → Option Operator
of_part None = None
of_part (Some part) = Some (operators.Argued (argued.Part part))

abbrev pub with_argument : List ℕ → Option Operator
with_argument letters = if bytes_eq letters (codes "c") then Some (operators.Argued argued.Code) else of_part (part_of letters)

abbrev pub of_fact : Option Fact → List ℕ → Option Operator
of_fact (Some fact) letters = Some (operators.Alone fact)
of_fact None letters = with_argument letters

-- the operator of these letters, in lower case; none where no operator has them
abbrev pub operator_of : List ℕ → Option Operator
operator_of letters = of_fact (fact_of letters) letters
