-- Of a body that is not streamed no more was heard than is allowed.
use Rattle.std.proofs.Common.{ℕ, zero, suc, ◌≤◌, ◌≡◌, ◌&&◌, Bool, false, not, List, [], ◌∷◌, length, map, take, drop, refl, sym, ap, ◌∙◌, arith, Option, Some, Result, Ok, Err}
use Rattle.std.specs.List.{flat_map}
use Rattle.std.proofs.lemmas.Bool.{ltb-false}
use Rattle.px_head.specs.Front.{request_front, response_front}
use Rattle.px_head.specs.declared.raw.RawHead.{RawHead}
use Rattle.px_head.specs.declared.front.Front.{Front}
use Rattle.px_head.specs.declared.front.Front.TheVariants as front
use Rattle.px_message.specs.Length.{response_length}
use Rattle.px_message.specs.declared.length.Length.{Length}
use Rattle.px_message.specs.declared.length.Length.TheVariants as lengths
use Rattle.px_message.specs.declared.fault.Fault.{Fault}
use Rattle.px_read.specs.Heads.{code_of, request_body_length, request_head, response_head}
use Rattle.px_read.specs.Items.{body_of, content_in, request_told, response_told}
use Rattle.px_read.specs.Laws.{head_in}
use Rattle.px_read.specs.Marks.{byte}
use Rattle.px_read.specs.Readings.{behind_bytes, body_reading, request_behind, request_body, response_behind, response_body, response_finish}
use Rattle.px_read.specs.declared.head.RequestHead.{RequestHead}
use Rattle.px_read.specs.declared.head.ResponseHead.{ResponseHead}
use Rattle.px_read.proofs.ItemLemmas.{head_behind}
use Rattle.px_parts.specs.Streamed.{RequestKeepsLittle, ResponseKeepsLittle, heard_in, is_streamed, request_says, response_says, streamed_by, streams_behind}

heard_bytes : (content : List ℕ) → flat_map content_in (map byte content) ≡ content
heard_bytes [] = refl
heard_bytes (x ∷ xs) = ap (λ (l : List ℕ). x ∷ l) (heard_bytes xs)

take_short : (n : ℕ) (xs : List ℕ) → length (take n xs) ≤ n
take_short zero xs = omega arith
take_short (suc n) [] = omega arith
take_short (suc n) (x ∷ xs) = let rest = take_short n xs in omega (arith, rest)

little_body : (l : Length) (closed : Bool) (most : ℕ) (bytes : List ℕ)
    → is_streamed l (Some most) (heard_in (body_reading l closed bytes).marks) ≡ false → heard_in (body_reading l closed bytes).marks ≤ most
little_body lengths.None closed most bytes is = omega arith
little_body (lengths.Bytes n) closed most bytes is =
    let size = ap (λ (l : List ℕ). length l) (heard_bytes (take n bytes)) in
    let short = take_short n bytes in
    let low = ltb-false most n is in
    omega (arith, size, short, low)
little_body lengths.Chunked closed most bytes is = ltb-false most _ is
little_body lengths.ToClose closed most bytes is = ltb-false most _ is

-- ---- requests

request_body_little : (says : Result Length Fault) (most : ℕ) (bytes : List ℕ)
    → streamed_by says (Some most) (heard_in (request_body says bytes).marks) ≡ false → heard_in (request_body says bytes).marks ≤ most
request_body_little (Err fault) most bytes is = omega arith
request_body_little (Ok l) most bytes is = little_body l false most bytes is

request_little : (f : Front) (most : ℕ) (bytes : List ℕ) → let reading = request_behind f bytes in
    streams_behind request_says (head_in (request_told reading.marks reading.finish)) (Some most) (heard_in reading.marks) ≡ false
    → heard_in reading.marks ≤ most
request_little front.Nothing most bytes is = omega arith
request_little front.TooLong most bytes is = omega arith
request_little front.BadHead most bytes is = omega arith
request_little (front.Stands raw used) most bytes is =
    let says = request_body_length raw.first raw.pairs in
    let body = request_body says (drop used bytes) in
    request_body_little says most (drop used bytes)
    (sym (ap (λ (head : Option RequestHead). streams_behind request_says head (Some most) (heard_in body.marks))
    (head_behind (request_head raw) (body_of body.marks) (behind_bytes used body.finish))) ∙ is)

pub request-little : RequestKeepsLittle
request-little most bytes is = request_little (request_front bytes) most bytes is

-- ---- responses

response_body_little : (raw : RawHead) (used : ℕ) (asked_head closed : Bool) (most : ℕ) (bytes : List ℕ) (says : Result Length Fault)
    → response_length (code_of raw) asked_head raw.pairs ≡ says → let reading = response_body raw used says closed bytes in
    streams_behind (response_says asked_head) (head_in (response_told reading.marks (response_finish closed reading.finish))) (Some most) (heard_in reading.marks) ≡ false
    → heard_in reading.marks ≤ most
response_body_little raw used asked_head closed most bytes (Err fault) at is = omega arith
response_body_little raw used asked_head closed most bytes (Ok l) at is =
    let body = body_reading l closed bytes in
    little_body l closed most bytes
    (sym (ap (λ (says : Result Length Fault). streamed_by says (Some most) (heard_in body.marks)) at)
    ∙ sym (ap (λ (head : Option ResponseHead). streams_behind (response_says asked_head) head (Some most) (heard_in body.marks))
    (head_behind (response_head raw) (body_of body.marks) (response_finish closed (behind_bytes used body.finish)))) ∙ is)

response_little : (f : Front) (asked_head closed : Bool) (most : ℕ) (bytes : List ℕ) → let reading = response_behind f asked_head closed bytes in
    streams_behind (response_says asked_head) (head_in (response_told reading.marks (response_finish closed reading.finish))) (Some most) (heard_in reading.marks) ≡ false
    → heard_in reading.marks ≤ most
response_little front.Nothing asked_head closed most bytes is = omega arith
response_little front.TooLong asked_head closed most bytes is = omega arith
response_little front.BadHead asked_head closed most bytes is = omega arith
response_little (front.Stands raw used) asked_head closed most bytes is =
    response_body_little raw used asked_head closed most (drop used bytes) (response_length (code_of raw) asked_head raw.pairs) refl is

pub response-little : ResponseKeepsLittle
response-little status asked_head closed most bytes can is =
    response_little (response_front bytes) asked_head closed most bytes
    (sym (ap (λ (none : Bool). not none && streams_behind (response_says asked_head)
    (head_in (response_told (response_behind (response_front bytes) asked_head closed bytes).marks
    (response_finish closed (response_behind (response_front bytes) asked_head closed bytes).finish)))
    (Some most) (heard_in (response_behind (response_front bytes) asked_head closed bytes).marks)) can) ∙ is)
