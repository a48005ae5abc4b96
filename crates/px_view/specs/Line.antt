-- The line that is printed of a flow.
use Rattle.std.specs.Prelude.{ℕ, Bool, if◌then◌else◌, List, [], ◌∷◌, ◌++◌, length, codes, decimal, Option, Some, None}
use Rattle.px_message.specs.Url.{url_text}
use Rattle.px_message.specs.declared.flow.Flow.{Flow}
use Rattle.px_message.specs.declared.flow.FlowError.{FlowError}
use Rattle.px_message.specs.declared.flow.FlowId.{FlowId}
use Rattle.px_message.specs.declared.request.Request.{Request}
use Rattle.px_message.specs.declared.response.Response.{Response}

-- the conversation's number, a dot and the flow's index
abbrev pub id_text : FlowId → List ℕ
id_text id = decimal id.conv ++ 46 ∷ decimal id.index

-- method and URL
abbrev pub request_text : Request → List ℕ
request_text request = request.method ++ 32 ∷ url_text request.host request.port request.path

-- the size of a body that was held; one that passed by has none
abbrev pub size_text : Bool → List ℕ → List ℕ
size_text streamed body = if streamed then codes "streamed" else decimal (length body)

-- status and size; both are `-` without a response
abbrev pub response_text : Option Response → List ℕ
response_text None = codes "- -"
response_text (Some response) = decimal response.status ++ 32 ∷ size_text response.streamed response.body

-- what ended the flow early, if anything did
abbrev pub error_text : Option FlowError → List ℕ
error_text None = []
error_text (Some error) = codes " error: " ++ error.msg

-- the line
abbrev pub flow_line : Flow → List ℕ
flow_line flow =
    id_text flow.id ++ 32 ∷ (request_text flow.request ++ 32 ∷ (response_text flow.response ++ (error_text flow.error ++ 10 ∷ [])))
