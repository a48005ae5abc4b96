-- Parts of an export in the format HAR 1.2, each with its text.
use Rattle.std.specs.Prelude.{◌≡◌, ℕ, true, false, List, [], ◌∷◌, ◌++◌, codes, slice_index, Option, Some, None}
use Rattle.std.proofs.Common.{ap, arith}
use Rattle.px_message.specs.declared.flow.Flow.{Flow}
use Rattle.px_message.specs.declared.flow.Replayed.TheVariants.{No}
use Rattle.px_message.specs.declared.flow.Times.{Times}
use Rattle.px_message.specs.declared.request.Request.{Request}
use Rattle.px_message.specs.declared.response.Response.{Response}
use Rattle.px_message.specs.declared.version.Version.TheVariants.{Http10, Http11}
use Rattle.px_examples.specs.Messages.{request_with, response_with}
use Rattle.px_examples.specs.Rows.{◌gives◌}

-- requests `POST http://h:81/a?b`, their fields and a body
abbrev pub requests : List (List ℕ × List ℕ)
requests =
    "|" gives codes "{\"bodySize\":0,\"cookies\":[],\"headers\":[],\"headersSize\":-1,\"httpVersion\":\"HTTP/1.1\",\"method\":\"POST\",\"queryString\":[{\"name\":\"b\",\"value\":\"\"}],\"url\":\"http://h:81/a?b\"}"
    ∷ "b: 1\nContent-Type: first\na: 2\ncontent-type: last|\"hi\"\n" gives codes "{\"bodySize\":5,\"cookies\":[],\"headers\":[{\"name\":\"b\",\"value\":\"1\"},{\"name\":\"Content-Type\",\"value\":\"first\"},{\"name\":\"a\",\"value\":\"2\"},{\"name\":\"content-type\",\"value\":\"last\"}],\"headersSize\":-1,\"httpVersion\":\"HTTP/1.1\",\"method\":\"POST\",\"postData\":{\"mimeType\":\"first\",\"text\":\"\\\"hi\\\"\\n\"},\"queryString\":[{\"name\":\"b\",\"value\":\"\"}],\"url\":\"http://h:81/a?b\"}"
    ∷ []

-- the same with a body that passed by, of HTTP/1.0, and where the body is one byte that is no UTF-8
abbrev pub other_requests : List (Request × List ℕ)
other_requests =
    (record (request_with (codes "|")) { streamed = true }, codes "{\"bodySize\":-1,\"cookies\":[],\"headers\":[],\"headersSize\":-1,\"httpVersion\":\"HTTP/1.1\",\"method\":\"POST\",\"queryString\":[{\"name\":\"b\",\"value\":\"\"}],\"url\":\"http://h:81/a?b\"}")
    ∷ (record (request_with (codes "|")) { version = Http10; body = 233 ∷ [] }, codes "{\"bodySize\":1,\"cookies\":[],\"headers\":[],\"headersSize\":-1,\"httpVersion\":\"HTTP/1.0\",\"method\":\"POST\",\"postData\":{\"mimeType\":\"\",\"text\":\"" ++ (195 ∷ 169 ∷ codes "\"},\"queryString\":[{\"name\":\"b\",\"value\":\"\"}],\"url\":\"http://h:81/a?b\"}"))
    ∷ []

-- the queries of paths
abbrev pub queries : List (List ℕ × List ℕ)
queries =
    "/a" gives codes "[]"
    ∷ "/a?" gives codes "[]"
    ∷ "/a?b" gives codes "[{\"name\":\"b\",\"value\":\"\"}]"
    ∷ "/?a=1&&a=2&b=%41+x" gives codes "[{\"name\":\"a\",\"value\":\"1\"},{\"name\":\"a\",\"value\":\"2\"},{\"name\":\"b\",\"value\":\"A x\"}]"
    ∷ "/?a=b=c?d" gives codes "[{\"name\":\"a\",\"value\":\"b=c?d\"}]"
    ∷ "/?=%ff" gives (codes "[{\"name\":\"\",\"value\":\"" ++ (239 ∷ 191 ∷ 189 ∷ codes "\"}]"))
    ∷ []

-- responses, and what stands where there is none
abbrev pub responses : List (Option Response × List ℕ)
responses =
    (None, codes "{\"bodySize\":-1,\"content\":{\"mimeType\":\"\",\"size\":0},\"cookies\":[],\"headers\":[],\"headersSize\":-1,\"httpVersion\":\"\",\"redirectURL\":\"\",\"status\":0,\"statusText\":\"\"}")
    ∷ (Some (response_with 302 (codes "Location: /b\nlocation: /c\nContent-Type: x\nContent-Type: y|")), codes "{\"bodySize\":0,\"content\":{\"mimeType\":\"x\",\"size\":0,\"text\":\"\"},\"cookies\":[],\"headers\":[{\"name\":\"Location\",\"value\":\"/b\"},{\"name\":\"location\",\"value\":\"/c\"},{\"name\":\"Content-Type\",\"value\":\"x\"},{\"name\":\"Content-Type\",\"value\":\"y\"}],\"headersSize\":-1,\"httpVersion\":\"HTTP/1.1\",\"redirectURL\":\"/b\",\"status\":302,\"statusText\":\"\"}")
    ∷ (Some (record (response_with 200 (codes "Content-Type: x|")) { streamed = true }), codes "{\"bodySize\":-1,\"content\":{\"mimeType\":\"x\",\"size\":0},\"cookies\":[],\"headers\":[{\"name\":\"Content-Type\",\"value\":\"x\"}],\"headersSize\":-1,\"httpVersion\":\"HTTP/1.1\",\"redirectURL\":\"\",\"status\":200,\"statusText\":\"\"}")
    ∷ (Some (record (response_with 200 (codes "|")) { version = Http10; reason = 195 ∷ 169 ∷ [] }), codes "{\"bodySize\":0,\"content\":{\"mimeType\":\"\",\"size\":0,\"text\":\"\"},\"cookies\":[],\"headers\":[],\"headersSize\":-1,\"httpVersion\":\"HTTP/1.0\",\"redirectURL\":\"\",\"status\":200,\"statusText\":\"" ++ (195 ∷ 131 ∷ 194 ∷ 169 ∷ codes "\"}"))
    ∷ []

-- contents of responses by their bodies
abbrev pub contents : List (List ℕ × List ℕ)
contents =
    ([], codes "{\"mimeType\":\"\",\"size\":0,\"text\":\"\"}")
    ∷ ("a\"b\\c\n" gives codes "{\"mimeType\":\"\",\"size\":6,\"text\":\"a\\\"b\\\\c\\n\"}")
    ∷ (0 ∷ 31 ∷ 127 ∷ [], codes "{\"mimeType\":\"\",\"size\":3,\"text\":\"\\u0000\\u001f" ++ (127 ∷ codes "\"}"))
    ∷ (195 ∷ 169 ∷ [], codes "{\"mimeType\":\"\",\"size\":2,\"text\":\"" ++ (195 ∷ 169 ∷ codes "\"}"))
    ∷ (255 ∷ [], codes "{\"encoding\":\"base64\",\"mimeType\":\"\",\"size\":1,\"text\":\"/w==\"}")
    ∷ (104 ∷ 195 ∷ [], codes "{\"encoding\":\"base64\",\"mimeType\":\"\",\"size\":2,\"text\":\"aMM=\"}")
    ∷ []

abbrev pub moments : ℕ → Option ℕ → Option ℕ → Option ℕ → Times
moments start sent answered whole = record { request_start = start; request_end = sent; response_start = answered; response_end = whole }

-- moments in microseconds: none but the first, all, some that are earlier than those before, and one that is missing
abbrev pub times : List (Times × List ℕ)
times =
    (moments 0 None None None, codes "{\"startedDateTime\":\"1970-01-01T00:00:00.000Z\",\"time\":0,\"timings\":{\"receive\":0,\"send\":0,\"wait\":0}}")
    ∷ (moments 1999 (Some 3998) (Some 6000) (Some 16000), codes "{\"startedDateTime\":\"1970-01-01T00:00:00.001Z\",\"time\":13,\"timings\":{\"receive\":10,\"send\":1,\"wait\":2}}")
    ∷ (moments 86400001000 (Some 0) (Some 5000) (Some 4000), codes "{\"startedDateTime\":\"1970-01-02T00:00:00.001Z\",\"time\":5,\"timings\":{\"receive\":0,\"send\":0,\"wait\":5}}")
    ∷ (moments 0 (Some 1000) None (Some 4000), codes "{\"startedDateTime\":\"1970-01-01T00:00:00.000Z\",\"time\":1,\"timings\":{\"receive\":0,\"send\":1,\"wait\":0}}")
    ∷ []

-- a flow with this response
abbrev pub flow_with : Option Response → Flow
flow_with response = record {
  id = record { conv = 0; index = 0 };
  client = None;
  server = None;
  request = request_with (codes "|");
  response = response;
  error = None;
  times = moments 0 None None None;
  replayed = No;
  marked = false;
  websocket = false;
  message = None;
  messages = [];
}

abbrev pub get_request : Request
get_request = record {
  method = codes "GET";
  host = codes "h";
  port = 80;
  path = codes "/";
  version = Http11;
  fields = (codes "Host", codes "a") ∷ [];
  body = [];
  trailers = [];
  streamed = false;
  not_connect = λ same. (let first : 71 ≡ 67 = ap (λ text. slice_index text 0) same in absurd (omega arith));
  port_not_zero = λ same. absurd (omega arith);
}

-- `GET http://h/`, answered by `hello`
abbrev pub hello : Flow
hello = record (flow_with (Some (record (response_with 200 (codes "Content-Length: 5|hello")) { reason = codes "OK" }))) {
  request = get_request;
  times = moments 0 (Some 0) (Some 0) (Some 0);
}

-- exports of flows
abbrev pub exports : List (List Flow × List ℕ)
exports =
    ([], codes "{\"log\":{\"creator\":{\"name\":\"mitm\",\"version\":\"1\"},\"entries\":[],\"pages\":[],\"version\":\"1.2\"}}")
    ∷ (flow_with None ∷ flow_with (Some (response_with 200 (codes "|hi"))) ∷ [], codes "{\"log\":{\"creator\":{\"name\":\"mitm\",\"version\":\"1\"},\"entries\":[{\"cache\":{},\"request\":{\"bodySize\":0,\"cookies\":[],\"headers\":[],\"headersSize\":-1,\"httpVersion\":\"HTTP/1.1\",\"method\":\"POST\",\"queryString\":[{\"name\":\"b\",\"value\":\"\"}],\"url\":\"http://h:81/a?b\"},\"response\":{\"bodySize\":-1,\"content\":{\"mimeType\":\"\",\"size\":0},\"cookies\":[],\"headers\":[],\"headersSize\":-1,\"httpVersion\":\"\",\"redirectURL\":\"\",\"status\":0,\"statusText\":\"\"},\"startedDateTime\":\"1970-01-01T00:00:00.000Z\",\"time\":0,\"timings\":{\"receive\":0,\"send\":0,\"wait\":0}},{\"cache\":{},\"request\":{\"bodySize\":0,\"cookies\":[],\"headers\":[],\"headersSize\":-1,\"httpVersion\":\"HTTP/1.1\",\"method\":\"POST\",\"queryString\":[{\"name\":\"b\",\"value\":\"\"}],\"url\":\"http://h:81/a?b\"},\"response\":{\"bodySize\":2,\"content\":{\"mimeType\":\"\",\"size\":2,\"text\":\"hi\"},\"cookies\":[],\"headers\":[],\"headersSize\":-1,\"httpVersion\":\"HTTP/1.1\",\"redirectURL\":\"\",\"status\":200,\"statusText\":\"\"},\"startedDateTime\":\"1970-01-01T00:00:00.000Z\",\"time\":0,\"timings\":{\"receive\":0,\"send\":0,\"wait\":0}}],\"pages\":[],\"version\":\"1.2\"}}")
    ∷ (hello ∷ [], codes "{\"log\":{\"creator\":{\"name\":\"mitm\",\"version\":\"1\"},\"entries\":[{\"cache\":{},\"request\":{\"bodySize\":0,\"cookies\":[],\"headers\":[{\"name\":\"Host\",\"value\":\"a\"}],\"headersSize\":-1,\"httpVersion\":\"HTTP/1.1\",\"method\":\"GET\",\"queryString\":[],\"url\":\"http://h/\"},\"response\":{\"bodySize\":5,\"content\":{\"mimeType\":\"\",\"size\":5,\"text\":\"hello\"},\"cookies\":[],\"headers\":[{\"name\":\"Content-Length\",\"value\":\"5\"}],\"headersSize\":-1,\"httpVersion\":\"HTTP/1.1\",\"redirectURL\":\"\",\"status\":200,\"statusText\":\"OK\"},\"startedDateTime\":\"1970-01-01T00:00:00.000Z\",\"time\":0,\"timings\":{\"receive\":0,\"send\":0,\"wait\":0}}],\"pages\":[],\"version\":\"1.2\"}}")
    ∷ []
