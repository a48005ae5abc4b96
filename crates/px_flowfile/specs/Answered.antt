-- The dictionary of a response.
use Rattle.std.specs.Prelude.{ℕ, List, [], ◌∷◌, Option}
use Rattle.px_message.specs.declared.fields.Fields.{Fields}
use Rattle.px_message.specs.declared.status.Status.{Status}
use Rattle.px_message.specs.declared.value.Value.{Value}
use Rattle.px_message.specs.declared.version.Version.{Version}
use Rattle.px_flowfile.specs.Kind.{or_null}
use Rattle.px_flowfile.specs.Message.{content, headers, reason, trailers}
use Rattle.px_flowfile.specs.Simple.{http_version, moment, status}
use Rattle.px_flowfile.specs.Table.{Line, line}
use Rattle.px_flowfile.specs.declared.answered.Answered.{Answered}
use Rattle.px_flowfile.specs.declared.held.Held.{Held}
use Rattle.px_flowfile.specs.declared.key.Key.TheVariants as key

-- a response with its moments
abbrev pub response_table : List (Line Answered)
response_table =
    line key.HttpVersion http_version (λ a. a.response.version)
    ∷ line key.StatusCode status (λ a. a.response.status)
    ∷ line key.Reason reason (λ a. a.response.reason)
    ∷ line key.Headers headers (λ a. a.response.fields)
    ∷ line key.Content content (λ a. record { streamed = a.response.streamed; body = a.response.body })
    ∷ line key.Trailers trailers (λ a. a.response.trailers)
    ∷ line key.TimestampStart (or_null moment) (λ a. a.start)
    ∷ line key.TimestampEnd (or_null moment) (λ a. a.end)
    ∷ []

-- the parts of a response in the order of the table
abbrev pub ResponseParts : Type 0
ResponseParts = Version × (Status × (Value × (Fields × (Held × (Fields × (Option ℕ × (Option ℕ × Unit {0})))))))

abbrev pub response_parts : Answered → ResponseParts
response_parts a = (
  a.response.version,
  (
    a.response.status,
    (
      a.response.reason,
      (
        a.response.fields,
        (record { streamed = a.response.streamed; body = a.response.body }, (a.response.trailers, (a.start, (a.end, tt)))),
      ),
    ),
  ),
)
