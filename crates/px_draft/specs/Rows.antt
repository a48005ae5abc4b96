-- Worked rows: lines, what each is answered, and what the draft has behind them.
use Rattle.std.specs.Prelude.{◌≡◌, ℕ, ◌==◌, Bool, true, false, List, [], ◌∷◌, ◌++◌, codes, decimal, slice_index, map, Option, Some, None, Result, Ok, Err}
use Rattle.std.specs.List.{flat_map, slice_split}
use Rattle.std.proofs.Common.{ap, arith}
use Prim.Native.String.{String}
use Rattle.px_message.specs.declared.flow.Flow.{Flow}
use Rattle.px_message.specs.declared.flow.Replayed.TheVariants.{No}
use Rattle.px_message.specs.declared.flow.WsMessage.{WsMessage}
use Rattle.px_message.specs.declared.request.Request.{Request}
use Rattle.px_message.specs.declared.response.Response.{Response}
use Rattle.px_message.specs.declared.version.Version.TheVariants.{Http11}
use Rattle.px_event.specs.declared.ask.Hook.{Hook}
use Rattle.px_event.specs.declared.ask.Hook.TheVariants as hooks
use Rattle.px_draft.specs.declared.edit.Edit.{Edit}
use Rattle.px_draft.specs.declared.edited.Edited.{Edited}
use Rattle.px_draft.specs.declared.error.EditError.{EditError}
use Rattle.px_draft.specs.declared.error.EditError.TheVariants as error
use Rattle.px_draft.specs.declared.subject.Subject.{Subject}
use Rattle.px_draft.specs.declared.subject.Subject.TheVariants as subjects
use Rattle.px_draft.specs.Changes.{change_of}
use Rattle.px_draft.specs.Edits.{changed, flow_of, fresh}
use Rattle.px_draft.specs.Subjects.{Fields, subject_of}

-- the definition says each row's answer of its input
abbrev pub Hold : {A B : Type 0} → (A → B) → List (A × B) → Type 0
Hold says rows = map (λ row. says row.0) rows ≡ map (λ row. row.1) rows

-- ---- what is shown

abbrev pub field_shown : List ℕ × List ℕ → List ℕ
field_shown field = field.0 ++ 58 ∷ (field.1 ++ 59 ∷ [])

-- the fields, each as `NAME:VALUE;`, and the body
abbrev pub rest_shown : Fields → List ℕ → List ℕ
rest_shown fields body = 32 ∷ (flat_map field_shown fields ++ 32 ∷ body)

abbrev pub request_shown : Request → List ℕ
request_shown request =
    request.method ++ 32 ∷ (request.host ++ 58 ∷ (decimal request.port ++ (request.path ++ rest_shown request.fields request.body)))

abbrev pub response_shown : Option Response → List ℕ
response_shown None = []
response_shown (Some response) = decimal response.status ++ 32 ∷ (response.reason ++ rest_shown response.fields response.body)

abbrev pub message_shown : Option WsMessage → List ℕ
message_shown None = []
message_shown (Some message) = message.payload

-- the message that the hook is about
abbrev pub shown_of : Subject → Flow → List ℕ
shown_of subjects.Request flow = request_shown flow.request
shown_of subjects.Response flow = response_shown flow.response
shown_of subjects.Message flow = message_shown flow.message

abbrev pub shown : Edited → List ℕ
shown draft = shown_of (subject_of draft.hook) (flow_of draft)

abbrev pub refusal_words : EditError → List ℕ
refusal_words error.NotThere = codes "not there|"
refusal_words error.BadValue = codes "bad value|"
refusal_words error.NoMemory = codes "out of memory|"

-- what follows an answer: the other lines, over the draft as it is then
abbrev pub told_on : (Edited → List ℕ) → Edited → Result Edited EditError → List ℕ
told_on others draft (Ok next) = codes "ok|" ++ others next
told_on others draft (Err refusal) = refusal_words refusal ++ others draft

abbrev pub told_by : (Edited → List ℕ) → Edited → Option Edit → List ℕ
told_by others draft None = codes "unknown command|" ++ others draft
told_by others draft (Some change) = told_on others draft (changed change draft)

-- the answers of these lines, and the draft behind them
abbrev pub told : List (List ℕ) → Edited → List ℕ
told [] draft = shown draft
told (line ∷ lines) draft = told_by (told lines) draft (change_of line)

abbrev pub is_bar : ℕ → Bool
is_bar b = b == 124

-- of lines with bars between them
abbrev pub said : Hook → Flow → List ℕ → List ℕ
said hook flow lines = told (slice_split is_bar lines) (fresh hook flow)

infix 100 ◌gives◌
-- a row: the lines, and what is said
abbrev pub ◌gives◌ : String → String → List ℕ × List ℕ
lines gives text = (codes lines, codes text)

-- ---- a flow

abbrev pub request : Request
request = record {
  method = codes "POST";
  host = codes "h";
  port = 81;
  path = codes "/p";
  version = Http11;
  fields = (codes "a", codes "1") ∷ (codes "b", codes "2") ∷ (codes "A", codes "3") ∷ [];
  body = codes "in";
  trailers = [];
  streamed = false;
  not_connect = λ same. (let first : 80 ≡ 67 = ap (λ text. slice_index text 0) same in absurd (omega arith));
  port_not_zero = λ same. absurd (omega arith);
}

abbrev pub response : Response
response = record {
  version = Http11;
  status = 200;
  reason = codes "Fine";
  fields = (codes "a", codes "1") ∷ [];
  body = codes "out";
  trailers = [];
  streamed = false;
}

abbrev pub message : WsMessage
message = record { from_client = true; text = true; payload = codes "said" }

abbrev pub flow : Flow
flow = record {
  id = record { conv = 0; index = 0 };
  client = None;
  server = None;
  request = request;
  response = Some response;
  error = None;
  times = record { request_start = 0; request_end = None; response_start = None; response_end = None };
  replayed = No;
  marked = false;
  websocket = false;
  message = Some message;
  messages = [];
}

-- it without a response and a message, and with bodies that passed by
abbrev pub bare_flow : Flow
bare_flow = record flow { response = None; message = None }

abbrev pub streamed_flow : Flow
streamed_flow = record flow { request = record request { streamed = true }; response = Some (record response { streamed = true }) }

-- ---- rows

-- at a whole request: methods, URLs, and what is no line
abbrev pub request_rows : List (List ℕ × List ℕ)
request_rows =
    "method PUT" gives "ok|PUT h:81/p a:1;b:2;A:3; in"
    ∷ "method get" gives "ok|get h:81/p a:1;b:2;A:3; in"
    ∷ "method CONNECT|method g@t|method " gives "bad value|bad value|bad value|POST h:81/p a:1;b:2;A:3; in"
    ∷ "url https://x/|url /y|url " gives "bad value|bad value|bad value|POST h:81/p a:1;b:2;A:3; in"
    ∷ "status 200" gives "not there|POST h:81/p a:1;b:2;A:3; in"
    ∷ "|body |method|method a b|set a|set a eA== |Method PUT|more" gives
    "unknown command|unknown command|unknown command|unknown command|unknown command|unknown command|unknown command|unknown command|POST h:81/p a:1;b:2;A:3; in"
    ∷ "method PUT|url x|method GET" gives "ok|bad value|ok|GET h:81/p a:1;b:2;A:3; in"
    ∷ []

-- fields
abbrev pub field_rows : List (List ℕ × List ℕ)
field_rows =
    "set a eA==" gives "ok|POST h:81/p a:x;b:2; in"
    ∷ "set B eA==" gives "ok|POST h:81/p a:1;B:x;A:3; in"
    ∷ "set c eA==" gives "ok|POST h:81/p a:1;b:2;A:3;c:x; in"
    ∷ "set c " gives "ok|POST h:81/p a:1;b:2;A:3;c:; in"
    ∷ "add a eA==" gives "ok|POST h:81/p a:1;b:2;A:3;a:x; in"
    ∷ "remove A" gives "ok|POST h:81/p b:2; in"
    ∷ "remove c" gives "ok|POST h:81/p a:1;b:2;A:3; in"
    ∷ "remove c@|remove " gives "bad value|bad value|POST h:81/p a:1;b:2;A:3; in"
    ∷ "set c@ eA==|set c eA|set c eA=|set c eB==|add c _w==|set c AA==|add c DQo=" gives
    "bad value|bad value|bad value|bad value|bad value|bad value|bad value|POST h:81/p a:1;b:2;A:3; in"
    ∷ "set c eA==|more eQ==|more eg==" gives "ok|ok|ok|POST h:81/p a:1;b:2;A:3;c:xyz; in"
    ∷ "add a eA==|more eQ==|add a eg==|more eA==" gives "ok|ok|ok|ok|POST h:81/p a:1;b:2;A:3;a:xy;a:zx; in"
    ∷ "set a eA==|more DQ==|more eQ==" gives "ok|bad value|ok|POST h:81/p a:xy;b:2; in"
    ∷ "set a eA==|remove a|more eQ==" gives "ok|ok|not there|POST h:81/p b:2; in"
    ∷ []

-- bodies
abbrev pub body_rows : List (List ℕ × List ℕ)
body_rows =
    "body" gives "ok|POST h:81/p a:1;b:2;A:3; "
    ∷ "more aGk=" gives "not there|POST h:81/p a:1;b:2;A:3; in"
    ∷ "body|more aGk=|more |more aGk=" gives "ok|ok|ok|ok|POST h:81/p a:1;b:2;A:3; hihi"
    ∷ "body|more aGk=|body|more eA==" gives "ok|ok|ok|ok|POST h:81/p a:1;b:2;A:3; x"
    ∷ "body|method PUT|more aGk=" gives "ok|ok|not there|PUT h:81/p a:1;b:2;A:3; "
    ∷ "body|more aGk=|set a eA==|more eQ==" gives "ok|ok|ok|ok|POST h:81/p a:xy;b:2; hi"
    ∷ "body|status 200|method g@t|more aGk=|more aG=" gives "ok|not there|bad value|ok|bad value|POST h:81/p a:1;b:2;A:3; hi"
    ∷ []

-- at a request's head
abbrev pub head_rows : List (List ℕ × List ℕ)
head_rows =
    "body|more aGk=" gives "not there|not there|POST h:81/p a:1;b:2;A:3; in"
    ∷ "method PUT|set a eA==|more eQ==" gives "ok|ok|ok|PUT h:81/p a:xy;b:2; in"
    ∷ []

-- at a whole response
abbrev pub response_rows : List (List ℕ × List ℕ)
response_rows =
    "status 404" gives "ok|404 Not Found a:1; out"
    ∷ "status 299" gives "ok|299  a:1; out"
    ∷ "status 101" gives "ok|101  a:1; out"
    ∷ "status 99|status 100|status 1000|status 0200|status +20|status x" gives "bad value|bad value|bad value|bad value|bad value|bad value|200 Fine a:1; out"
    ∷ "method g@t|url x" gives "not there|not there|200 Fine a:1; out"
    ∷ "body|more aGk=|add a eA==|status 500" gives "ok|ok|ok|ok|500 Internal Server Error a:1;a:x; hi"
    ∷ "remove a" gives "ok|200 Fine  out"
    ∷ []

-- at a response's head
abbrev pub response_head_rows : List (List ℕ × List ℕ)
response_head_rows = "body|status 204|set a eA==" gives "not there|ok|ok|204 No Content a:x; out" ∷ []

-- at a message of a WebSocket
abbrev pub message_rows : List (List ℕ × List ℕ)
message_rows =
    "body|more aGk=|more DQ==" gives "ok|ok|ok|hi\r"
    ∷ "more eA==|set a eA==|add a x|remove a|status 200|method g@t|url x" gives "not there|not there|not there|not there|not there|not there|not there|said"
    ∷ []

-- without a response, and without a message
abbrev pub bare_rows : List (List ℕ × List ℕ)
bare_rows = "status 200|set a eA==|body|more eA==" gives "not there|not there|not there|not there|" ∷ []

-- where the request's body passed by, and where the response's did
abbrev pub streamed_rows : List (List ℕ × List ℕ)
streamed_rows = "body|set a eA==" gives "not there|ok|POST h:81/p a:x;b:2; in" ∷ []

abbrev pub streamed_response_rows : List (List ℕ × List ℕ)
streamed_response_rows = "body|status 404" gives "not there|ok|404 Not Found a:1; out" ∷ []

-- each row is so
pub record RowsHold : Type 0 where
  pub requests : Hold (said hooks.RequestBody flow) request_rows
  pub fields : Hold (said hooks.RequestBody flow) field_rows
  pub bodies : Hold (said hooks.RequestBody flow) body_rows
  pub heads : Hold (said hooks.RequestHead flow) head_rows
  pub responses : Hold (said hooks.ResponseBody flow) response_rows
  pub response_heads : Hold (said hooks.ResponseHead flow) response_head_rows
  pub messages : Hold (said (hooks.WsMessage 0) flow) message_rows
  pub no_response : Hold (said hooks.ResponseBody bare_flow) bare_rows
  pub no_message : Hold (said (hooks.WsMessage 7) bare_flow) bare_rows
  pub streamed : Hold (said hooks.RequestBody streamed_flow) streamed_rows
  pub streamed_responses : Hold (said hooks.ResponseBody streamed_flow) streamed_response_rows
