-- A flow as an entry of HAR 1.2: a tree of JSON, the members of each object in the order of their keys.
use Rattle.std.specs.Prelude.{ℕ, suc, ◌+◌, ◌-◌, ◌/◌, ◌==◌, Bool, true, false, negsuc, List, [], ◌∷◌, length, map, codes, Option, Some, None, if◌then◌else◌}
use Rattle.std.specs.List.{after_first}
use Rattle.std.specs.Str.{encode_utf8_all, is_utf8}
use Rattle.std.specs.Str.Lossy.{utf8_lossy}
use Rattle.form_urlencoded.specs.Form.{decode, raw_pairs}
use Rattle.serde_json.specs.Data.{Data, number, unsigned, negative, string, array, object, Members, no_members, member}
use Rattle.serde_json.specs.View.{items_of}
use Rattle.px_message.specs.Fields.{values_of}
use Rattle.px_message.specs.Url.{url_text}
use Rattle.px_message.specs.declared.flow.Flow.{Flow}
use Rattle.px_message.specs.declared.flow.Times.{Times}
use Rattle.px_message.specs.declared.request.Request.{Request}
use Rattle.px_message.specs.declared.response.Response.{Response}
use Rattle.px_message.specs.declared.version.Version.{Version}
use Rattle.px_message.specs.declared.version.Version.TheVariants as version
use Rattle.px_har.specs.Moment.{moment_text}
use Rattle.px_har.specs.Text.{base64_text}

-- ---- values

-- the characters of the same numbers as the bytes, in UTF-8
unfoldable pub characters : List ℕ → List ℕ
characters bytes = encode_utf8_all bytes

-- bytes as text
abbrev pub text_value : List ℕ → Data
text_value bytes = string (characters bytes)

abbrev pub count_value : ℕ → Data
count_value n = number (unsigned n)

-- -1: a size that is not known
abbrev pub unknown_size : Data
unknown_size = number (negative (negsuc 0))

abbrev pub list_value : {T : Type 0} → (T → Data) → List T → Data
list_value value items = array (items_of (map value items))

abbrev pub empty_list : Data
empty_list = array (items_of [])

-- an object with a name and a value, both texts
abbrev pub named_value : List ℕ → List ℕ → Data
named_value name value = object (member (codes "name") (string name) (member (codes "value") (string value) no_members))

-- ---- parts of both messages

abbrev pub version_text : Version → List ℕ
version_text version.Http10 = codes "HTTP/1.0"
version_text version.Http11 = codes "HTTP/1.1"

-- a field, its name and its value as text
abbrev pub field_value : List ℕ × List ℕ → Data
field_value field = named_value (characters field.0) (characters field.1)

abbrev pub fields_value : List (List ℕ × List ℕ) → Data
fields_value fields = list_value field_value fields

abbrev pub first_or_empty : List (List ℕ) → List ℕ
first_or_empty [] = []
first_or_empty (value ∷ values) = value

-- the value of the first field of that name, or the empty text
abbrev pub first_value : List ℕ → List (List ℕ × List ℕ) → Data
first_value name fields = text_value (first_or_empty (values_of name fields))

abbrev pub mime_value : List (List ℕ × List ℕ) → Data
mime_value fields = first_value (codes "content-type") fields

-- what both messages have of their head, in front of other members
abbrev pub with_head : Data → List ℕ → Members → Members
with_head headers version members =
    member (codes "cookies") empty_list
    (member (codes "headers") headers
    (member (codes "headersSize") unknown_size
    (member (codes "httpVersion") (string version) members)))

-- how many bytes the body has; of one that passed by that is not known
abbrev pub body_size : Bool → List ℕ → Data
body_size streamed body = if streamed then unknown_size else count_value (length body)

-- ---- the request

-- what stands behind the first `?`, or nothing (RFC 3986 section 3.4)
abbrev pub query : List ℕ → List ℕ
query path = after_first (λ b. b == 63) path

-- a name or a value of a query: `+` is a space, escapes are decoded, and what is no UTF-8 becomes U+FFFD (URL Standard, section 5.1)
abbrev pub decoded : List ℕ → List ℕ
decoded text = utf8_lossy (decode text)

abbrev pub parameter_value : List ℕ × List ℕ → Data
parameter_value pair = named_value (decoded pair.0) (decoded pair.1)

abbrev pub query_value : List ℕ → Data
query_value path = list_value parameter_value (raw_pairs (query path))

abbrev pub url_value : Request → Data
url_value request = text_value (url_text request.host request.port request.path)

-- `queryString` and `url`, the last members of a request
abbrev pub request_end : Request → Members
request_end request = member (codes "queryString") (query_value request.path) (member (codes "url") (url_value request) no_members)

abbrev pub posted_value : Request → Data
posted_value request =
    object (member (codes "mimeType") (mime_value request.fields) (member (codes "text") (text_value request.body) no_members))

-- `postData` in front of the last members, unless the body is empty
abbrev pub with_posted : Request → Members → Members
with_posted request members = if length request.body == 0 then members else member (codes "postData") (posted_value request) members

unfoldable pub request_value : Request → Data
request_value request =
    object (member (codes "bodySize") (body_size request.streamed request.body)
    (with_head (fields_value request.fields) (version_text request.version)
    (member (codes "method") (text_value request.method)
    (with_posted request (request_end request)))))

-- ---- the response

-- `mimeType` and `size` of a content, and what follows
abbrev pub content_with : Data → ℕ → Members → Members
content_with mime size rest = member (codes "mimeType") mime (member (codes "size") (count_value size) rest)

abbrev pub content_text : List ℕ → Members
content_text text = member (codes "text") (string text) no_members

-- a body: as it is where it is UTF-8, else as base64
abbrev pub body_value : Data → List ℕ → Data
body_value mime body =
    if is_utf8 body then object (content_with mime (length body) (content_text body))
    else object (member (codes "encoding") (string (codes "base64")) (content_with mime (length body) (content_text (base64_text body))))

-- of a body that passed by nothing is known
abbrev pub content_value : Response → Data
content_value response =
    if response.streamed then object (content_with (mime_value response.fields) 0 no_members)
    else body_value (mime_value response.fields) response.body

-- `status` and `statusText`, the last members of a response
abbrev pub status_end : ℕ → List ℕ → Members
status_end code reason = member (codes "status") (count_value code) (member (codes "statusText") (text_value reason) no_members)

unfoldable pub answer_value : Response → Data
answer_value response =
    object (member (codes "bodySize") (body_size response.streamed response.body)
    (member (codes "content") (content_value response)
    (with_head (fields_value response.fields) (version_text response.version)
    (member (codes "redirectURL") (first_value (codes "location") response.fields)
    (status_end response.status response.reason)))))

-- in the place of a response that never came
unfoldable pub no_answer : Data
no_answer =
    object (member (codes "bodySize") unknown_size
    (member (codes "content") (object (content_with (text_value []) 0 no_members))
    (with_head empty_list []
    (member (codes "redirectURL") (string []) (status_end 0 [])))))

abbrev pub response_value : Option Response → Data
response_value None = no_answer
response_value (Some response) = answer_value response

-- ---- times

-- milliseconds from the one moment to the other, both in microseconds, rounded down; 0 where one is missing or the second is the earlier
abbrev pub millis_between : Option ℕ → Option ℕ → ℕ
millis_between (Some start) (Some end) = (end - start) / 1000
millis_between (Some start) None = 0
millis_between None end = 0

abbrev pub send_millis : Times → ℕ
send_millis times = millis_between (Some times.request_start) times.request_end

abbrev pub wait_millis : Times → ℕ
wait_millis times = millis_between times.request_end times.response_start

abbrev pub receive_millis : Times → ℕ
receive_millis times = millis_between times.response_start times.response_end

abbrev pub total_millis : Times → ℕ
total_millis times = send_millis times + wait_millis times + receive_millis times

unfoldable pub timings_value : Times → Data
timings_value times =
    object (member (codes "receive") (count_value (receive_millis times))
    (member (codes "send") (count_value (send_millis times))
    (member (codes "wait") (count_value (wait_millis times)) no_members)))

-- ---- the entry

-- `startedDateTime`, `time` and `timings`, the last members of an entry
abbrev pub times_end : Times → Members
times_end times =
    member (codes "startedDateTime") (text_value (moment_text times.request_start))
    (member (codes "time") (count_value (total_millis times))
    (member (codes "timings") (timings_value times) no_members))

unfoldable pub entry_value : Flow → Data
entry_value flow =
    object (member (codes "cache") (object no_members)
    (member (codes "request") (request_value flow.request)
    (member (codes "response") (response_value flow.response) (times_end flow.times))))
