-- What an operator is shown of a flow: an object of JSON, as serde_json writes its values.
use Rattle.std.specs.Prelude.{ℕ, List, [], ◌∷◌, ◌++◌, length, codes, Option, Some, None}
use Rattle.std.specs.Str.{encode_utf8_all}
use Rattle.serde_json.specs.Data.{Data, null, boolean, number, unsigned, string, object, member, no_members}
use Rattle.serde_json.specs.Written.{compact_text}
use Rattle.px_message.specs.Url.{url_text}
use Rattle.px_message.specs.declared.flow.Flow.{Flow}
use Rattle.px_message.specs.declared.flow.FlowError.{FlowError}
use Rattle.px_message.specs.declared.response.Response.{Response}
use Rattle.px_view.specs.Line.{id_text}

-- the characters of the same numbers as the bytes, in UTF-8
abbrev pub characters : List ℕ → List ℕ
characters bytes = encode_utf8_all bytes

abbrev pub text_value : List ℕ → Data
text_value bytes = string (characters bytes)

abbrev pub code_value : Option Response → Data
code_value None = null
code_value (Some response) = number (unsigned response.status)

abbrev pub error_value : Option FlowError → Data
error_value None = null
error_value (Some error) = text_value error.msg

-- a flow as a value of JSON, its members in the order of their keys
abbrev pub flow_value : Flow → Data
flow_value flow =
    object (member (codes "code") (code_value flow.response)
    (member (codes "error") (error_value flow.error)
    (member (codes "id") (text_value (id_text flow.id))
    (member (codes "marked") (boolean flow.marked)
    (member (codes "messages") (number (unsigned (length flow.messages)))
    (member (codes "method") (text_value flow.request.method)
    (member (codes "url") (text_value (url_text flow.request.host flow.request.port flow.request.path)) no_members)))))))

-- its line: the value without blanks
abbrev pub show_text : Flow → List ℕ
show_text flow = compact_text (flow_value flow) ++ 10 ∷ []
