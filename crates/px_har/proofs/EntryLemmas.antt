-- The tree of an entry is one that is read back.
use Rattle.std.proofs.Common.{◌≡◌, ℕ, ◌^◌, ◌<◌, ◌==◌, List, Bool, true, false, Some, None, refl, arith}
use Rattle.std.specs.Prelude.{codes, if◌then◌else◌, length, IfSome, Option}
use Rattle.serde_json.specs.Data.{Data, string, object, Members, no_members, member}
use Rattle.px_message.specs.declared.flow.Flow.{Flow}
use Rattle.px_message.specs.declared.flow.Times.{Times}
use Rattle.px_message.specs.declared.request.Request.{Request}
use Rattle.px_message.specs.declared.response.Response.{Response}
use Rattle.form_urlencoded.specs.Form.{raw_pairs}
use Rattle.px_har.specs.Entry.{answer_value, body_size, body_value, content_text, content_value, content_with, count_value, entry_value, field_value, fields_value, named_value, no_answer, parameter_value, posted_value, query, query_value, request_end, request_value, response_value, text_value, timings_value, version_text, with_head}
use Rattle.px_har.specs.Read.{HasSizes, HasTimes}
use Rattle.px_har.proofs.TreeLemmas.{AreGood, HaveGood, IsGood, all_good, is_rising}

named_good : (name value : List ℕ) → IsGood 1 (named_value name value)
named_good name value = ((tt, (tt, tt)), refl)

fields_good : (fields : List (List ℕ × List ℕ)) → IsGood 2 (fields_value fields)
fields_good fields = all_good 1 field_value fields (λ field. ((tt, (tt, tt)), refl))

query_good : (path : List ℕ) → IsGood 2 (query_value path)
query_good path = all_good 1 parameter_value (raw_pairs (query path)) (λ pair. ((tt, (tt, tt)), refl))

body_size_good : (streamed : Bool) (body : List ℕ) → length body < 2 ^ 64 → IsGood 2 (body_size streamed body)
body_size_good true body h = omega arith
body_size_good false body h = h

-- ---- the request

posted_good : (request : Request) → IsGood 2 (posted_value request)
posted_good request = ((tt, (tt, tt)), refl)

-- the members behind the method, where the body may be empty
rest_good : (empty : Bool) (posted : Data) (end : Members) → IsGood 2 posted → HaveGood 2 end → HaveGood 2 (if empty then end else (member (codes "postData") posted end))
rest_good true posted end first rest = rest
rest_good false posted end first rest = (first, rest)

-- as the keys rise in both cases
rises : (empty : Bool) (request : Request) (size : Data) → is_rising (member (codes "bodySize") size
    (with_head (fields_value request.fields) (version_text request.version)
    (member (codes "method") (text_value request.method)
    (if empty then request_end request else (member (codes "postData") (posted_value request) (request_end request)))))) ≡ true
rises true request size = refl
rises false request size = refl

request_good : (request : Request) → length request.body < 2 ^ 64 → IsGood 3 (request_value request)
unfolding request_value
request_good request small = (
  (
    body_size_good request.streamed request.body small,
    (
      tt,
      (
        fields_good request.fields,
        (
          omega arith,
          (
            tt,
            (
              tt,
              rest_good (length request.body == 0) (posted_value request) _ (posted_good request) (query_good request.path, (tt, tt)),
            ),
          ),
        ),
      ),
    ),
  ),
  rises (length request.body == 0) request (body_size request.streamed request.body),
)

-- ---- the response

body_good : (utf8 : Bool) (mime text base64 : List ℕ) (size : ℕ) → size < 2 ^ 64
    → IsGood 2 (if utf8 then (object (content_with (string mime) size (content_text text)))
    else (object (member (codes "encoding") (string (codes "base64")) (content_with (string mime) size (content_text base64)))))
body_good true mime text base64 size small = ((tt, (small, (tt, tt))), refl)
body_good false mime text base64 size small = ((tt, (tt, (small, (tt, tt)))), refl)

content_good : (streamed : Bool) (mime : List ℕ) (body : Data) → IsGood 2 body → IsGood 2 (if streamed then (object (content_with (string mime) 0 no_members)) else body)
content_good true mime body good = ((tt, (omega arith, tt)), refl)
content_good false mime body good = good

answer_good : (response : Response) → HasSizes response → IsGood 3 (answer_value response)
unfolding answer_value
answer_good response sizes = (
  (
    body_size_good response.streamed response.body sizes.body,
    (
      content_good response.streamed _ _ (body_good _ _ _ _ _ sizes.body),
      (tt, (fields_good response.fields, (omega arith, (tt, (tt, (sizes.status, (tt, tt))))))),
    ),
  ),
  refl,
)

response_good : (response : Option Response) → IfSome response HasSizes → IsGood 3 (response_value response)
unfolding no_answer
response_good None sizes = ((omega arith, (((tt, (omega arith, tt)), refl), (tt, (tt, (omega arith, (tt, (tt, (omega arith, (tt, tt))))))))), refl)
response_good (Some response) sizes = answer_good response sizes

-- ---- the entry

timings_good : (times : Times) → HasTimes times → IsGood 3 (timings_value times)
unfolding timings_value
timings_good times h = ((h.receive, (h.send, (h.wait, tt))), refl)

pub entry_good : (flow : Flow) → length flow.request.body < 2 ^ 64 → IfSome flow.response HasSizes → HasTimes flow.times → IsGood 4 (entry_value flow)
unfolding entry_value
entry_good flow body response times =
    ((((tt, refl), (request_good flow.request body, (response_good flow.response response, (tt, (times.total, (timings_good flow.times times, tt)))))), refl))
