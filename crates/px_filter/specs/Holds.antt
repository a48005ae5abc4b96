-- Whether an expression holds on a flow.
use Rattle.std.specs.Prelude.{ℕ, Bool, true, false, not, ◌&&◌, ◌||◌, ◌==◌, nat_le, List, [], ◌∷◌, ◌++◌, length, take, map, bytes_eq, codes, decimal, Option, Some, None, is_some, if◌then◌else◌}
use Rattle.std.specs.List.{list_any}
use Rattle.px_text.specs.Ascii.{lowercase}
use Rattle.px_message.specs.Fields.{values_of}
use Rattle.px_message.specs.Url.{url_text}
use Rattle.px_message.specs.declared.address.Address.{Address}
use Rattle.px_message.specs.declared.flow.Flow.{Flow}
use Rattle.px_message.specs.declared.flow.Replayed.{Replayed}
use Rattle.px_message.specs.declared.flow.Replayed.TheVariants as replayed
use Rattle.px_message.specs.declared.flow.WsMessage.{WsMessage}
use Rattle.px_message.specs.declared.response.Response.{Response}
use Rattle.px_filter.specs.Expression.{Expression, Expressions, asked, negated, every, some_of, no_more, more}
use Rattle.px_filter.specs.Pattern.{found}
use Rattle.px_filter.specs.declared.operator.Fact.{Fact}
use Rattle.px_filter.specs.declared.operator.Fact.TheVariants as facts
use Rattle.px_filter.specs.declared.operator.Part.{Part}
use Rattle.px_filter.specs.declared.operator.Part.TheVariants as parts
use Rattle.px_filter.specs.declared.tree.Test.{Test}
use Rattle.px_filter.specs.declared.tree.Test.TheVariants as tests

-- the texts of what may be missing
abbrev pub in_response : (Response → List (List ℕ)) → Option Response → List (List ℕ)
in_response texts None = []
in_response texts (Some response) = texts response

-- the bodies
abbrev pub request_body : Flow → List (List ℕ)
request_body flow = flow.request.body ∷ []

abbrev pub response_body : Flow → List (List ℕ)
response_body flow = in_response (λ r. r.body ∷ []) flow.response

-- the payload of a client's message, and of a server's
abbrev pub client_payload : Option WsMessage → List (List ℕ)
client_payload None = []
client_payload (Some message) = if message.from_client then message.payload ∷ [] else []

abbrev pub server_payload : Option WsMessage → List (List ℕ)
server_payload None = []
server_payload (Some message) = if message.from_client then [] else message.payload ∷ []

-- the payload of the message
abbrev pub payload : Option WsMessage → List (List ℕ)
payload None = []
payload (Some message) = message.payload ∷ []

-- `host:port`
abbrev pub address_text : Address → List ℕ
address_text address = address.host ++ (58 ∷ decimal address.port)

abbrev pub address_of : Option Address → List (List ℕ)
address_of None = []
address_of (Some address) = address_text address ∷ []

-- `name: value`
abbrev pub field_line : List ℕ × List ℕ → List ℕ
field_line field = field.0 ++ (58 ∷ 32 ∷ field.1)

abbrev pub request_lines : Flow → List (List ℕ)
request_lines flow = map field_line flow.request.fields

abbrev pub response_lines : Flow → List (List ℕ)
response_lines flow = in_response (λ r. map field_line r.fields) flow.response

abbrev pub content_type : List ℕ
content_type = codes "Content-Type"

abbrev pub request_types : Flow → List (List ℕ)
request_types flow = values_of content_type flow.request.fields

abbrev pub response_types : Flow → List (List ℕ)
response_types flow = in_response (λ r. values_of content_type r.fields) flow.response

-- the texts in which a pattern is looked for
abbrev pub texts : Part → Flow → List (List ℕ)
texts parts.Body flow = request_body flow ++ response_body flow ++ payload flow.message
texts parts.RequestBody flow = request_body flow ++ client_payload flow.message
texts parts.ResponseBody flow = response_body flow ++ server_payload flow.message
texts parts.Host flow = flow.request.host ∷ []
texts parts.Server flow = address_of flow.server
texts parts.Header flow = request_lines flow ++ response_lines flow
texts parts.RequestHeader flow = request_lines flow
texts parts.ResponseHeader flow = response_lines flow
texts parts.Method flow = flow.request.method ∷ []
texts parts.Client flow = address_of flow.client
texts parts.Type flow = request_types flow ++ response_types flow
texts parts.RequestType flow = request_types flow
texts parts.ResponseType flow = response_types flow
texts parts.Url flow = url_text flow.request.host flow.request.port flow.request.path ∷ []

-- the text begins with the other, in any case
abbrev pub begins_with : List ℕ → List ℕ → Bool
begins_with front text =
    nat_le (length front) (length text) && bytes_eq (lowercase (take (length front) text)) (lowercase front)

-- a script
abbrev pub is_script : List ℕ → Bool
is_script type =
    begins_with (codes "text/javascript") type || begins_with (codes "application/x-javascript") type
    || begins_with (codes "application/javascript") type

-- a font
abbrev pub is_font : List ℕ → Bool
is_font type = begins_with (codes "font/") type || begins_with (codes "application/font") type

-- a script, a style, an image or a font
abbrev pub is_asset : List ℕ → Bool
is_asset type =
    is_script type || begins_with (codes "text/css") type || begins_with (codes "image/") type || is_font type

abbrev pub is_replayed_by : Replayed → Replayed → Bool
is_replayed_by replayed.No replayed.No = true
is_replayed_by replayed.Request replayed.Request = true
is_replayed_by replayed.Response replayed.Response = true
is_replayed_by _ _ = false

-- what is so without a pattern
abbrev pub fact_holds : Fact → Flow → Bool
fact_holds facts.Always flow = true
fact_holds facts.Asset flow = list_any is_asset (response_types flow)
fact_holds facts.Error flow = is_some flow.error
fact_holds facts.Marked flow = flow.marked
fact_holds facts.NoResponse flow = not (is_some flow.response)
fact_holds facts.Response flow = is_some flow.response
fact_holds facts.Replayed flow = not (is_replayed_by replayed.No flow.replayed)
fact_holds facts.ReplayedRequest flow = is_replayed_by replayed.Request flow.replayed
fact_holds facts.ReplayedResponse flow = is_replayed_by replayed.Response flow.replayed
fact_holds facts.Websocket flow = flow.websocket

-- there is a response with this status
abbrev pub has_status : ℕ → Option Response → Bool
has_status code None = false
has_status code (Some response) = response.status == code

abbrev pub test_holds : Flow → Test → Bool
test_holds flow (tests.Fact fact) = fact_holds fact flow
test_holds flow (tests.Code code) = has_status code flow.response
test_holds flow (tests.Part part word) = list_any (found word) (texts part flow)

abbrev mutual
  -- the expression holds on the flow
  pub holds : Flow → Expression → Bool
  holds flow (asked t) = test_holds flow t
  holds flow (negated e) = not (holds flow e)
  holds flow (every es) = all_hold flow es
  holds flow (some_of es) = any_holds flow es

  pub all_hold : Flow → Expressions → Bool
  all_hold flow no_more = true
  all_hold flow (more e es) = holds flow e && all_hold flow es

  pub any_holds : Flow → Expressions → Bool
  any_holds flow no_more = false
  any_holds flow (more e es) = holds flow e || any_holds flow es
