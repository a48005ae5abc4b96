-- A whole message that was read has a body of the length that its head gives.
use Rattle.std.proofs.Common.{ℕ, zero, suc, ◌+◌, ◌≡◌, Bool, true, false, List, [], ◌∷◌, length, map, take, drop, refl, sym, ap, ◌∙◌, subst, arith, inl, inr, Result, Ok, Err, length-take, drop-drop}
use Rattle.std.specs.Prelude.{if◌then◌else◌}
use Rattle.std.specs.List.{flat_map}
use Rattle.std.proofs.lemmas.Bool.Decides.{leb_tells}
use Rattle.px_head.specs.Front.{request_front, response_front}
use Rattle.px_head.specs.declared.raw.RawHead.{RawHead}
use Rattle.px_head.specs.declared.front.Front.{Front}
use Rattle.px_head.specs.declared.front.Front.TheVariants as front
use Rattle.px_message.specs.Length.{request_length, response_length}
use Rattle.px_message.specs.Settle.{Fits, IsWholeRequest, IsWholeResponse, settled_request, settled_response}
use Rattle.px_message.specs.declared.length.Length.{Length}
use Rattle.px_message.specs.declared.length.Length.TheVariants as lengths
use Rattle.px_message.specs.declared.fault.Fault.{Fault}
use Rattle.px_message.specs.declared.request.Request.{Request}
use Rattle.px_message.specs.declared.response.Response.{Response}
use Rattle.px_message.proofs.SettleLemmas.{whole_request-stays, whole_response-stays}
use Rattle.px_read.specs.Heads.{code_of, is_interim, request_body_length, request_head, response_head}
use Rattle.px_read.specs.Marks.{Mark, byte}
use Rattle.px_read.specs.Chunks.{Finish, goes_on, whole, fails, Reading}
use Rattle.px_read.specs.Readings.{behind_bytes, body_reading, counted_reading, request_body, request_behind, response_finish, response_body, response_behind}
use Rattle.px_read.specs.Items.{Body, complete, content_in, body_of, item_behind, request_told, request_item, response_told, response_item, Answers, behind_interim, answers_behind, answers_within, answer_list}
use Rattle.px_read.specs.Whole.{IsReadRequest, IsReadResponse}
use Rattle.px_read.specs.declared.head.RequestHead.{RequestHead}
use Rattle.px_read.specs.declared.head.ResponseHead.{ResponseHead}
use Rattle.px_read.proofs.ConnectLemmas.{length_by_fields}

content_bytes : (bytes : List ℕ) → flat_map content_in (map byte bytes) ≡ bytes
content_bytes [] = refl
content_bytes (b ∷ bytes) = ap (λ (l : List ℕ). b ∷ l) (content_bytes bytes)

-- ---- bodies

-- the content of a reading that is whole has the length
abbrev FitsWhen : Result Length Fault → Reading → Type 0
FitsWhen framing r = (trailers : List (List ℕ × List ℕ)) (used : ℕ) → r.finish ≡ whole trailers used
    → Fits framing (flat_map content_in r.marks) trailers

counted_fits : (n : ℕ) (bytes : List ℕ) → FitsWhen (Ok (lengths.Bytes n)) (counted_reading n bytes)
counted_fits n bytes trailers used e = elim (leb_tells n (length bytes)) [
  | inl t ↦
      let at : whole [] n ≡ whole trailers used = subst (λ (test : Bool). (if test then whole [] n else goes_on) ≡ whole trailers used) t.0 e in
      let none : [] ≡ trailers = (let f = at in cc) in
      let fits = t.1 in
      (ap (λ (l : List ℕ). length l) (content_bytes (take n bytes)) ∙ omega (arith, length-take n bytes), sym none)
  | inr f ↦
      let at : goes_on ≡ whole trailers used = subst (λ (test : Bool). (if test then whole [] n else goes_on) ≡ whole trailers used) f.0 e in
      absurd (let g = at in cc)
]

closing_fits : (closed : Bool) (n : ℕ) (trailers : List (List ℕ × List ℕ)) (used : ℕ)
    → (if closed then whole [] n else goes_on) ≡ whole trailers used → trailers ≡ []
closing_fits true n trailers used e = let f : [] ≡ trailers = (let g = e in cc) in sym f
closing_fits false n trailers used e = absurd (let g = e in cc)

body_fits : (framing : Length) (closed : Bool) (bytes : List ℕ) → FitsWhen (Ok framing) (body_reading framing closed bytes)
body_fits lengths.None closed bytes trailers used e = let f : [] ≡ trailers = (let g = e in cc) in (refl, sym f)
body_fits (lengths.Bytes n) closed bytes trailers used e = counted_fits n bytes trailers used e
body_fits lengths.Chunked closed bytes trailers used e = tt
body_fits lengths.ToClose closed bytes trailers used e = closing_fits closed (length bytes) trailers used e

-- ---- behind a head

behind_fits : {H : Type 0} (own : H) (content : List Mark) (framing : Result Length Fault) (taken : ℕ) (f : Finish)
    → ((trailers : List (List ℕ × List ℕ)) (used : ℕ) → f ≡ whole trailers used → Fits framing (flat_map content_in content) trailers)
    → (head : H) (body : Body) (trailers : List (List ℕ × List ℕ)) (used : ℕ)
    → item_behind own (body_of content) (behind_bytes taken f) ≡ complete head body trailers used
    → (own ≡ head) × Fits framing body.content trailers
behind_fits own content framing taken goes_on fits head body trailers used e = absurd (let g = e in cc)
behind_fits own content framing taken (whole fields count) fits head body trailers used e =
    let a : own ≡ head = (let g = e in cc) in
    let b : body_of content ≡ body = (let g = e in cc) in
    let c : fields ≡ trailers = (let g = e in cc) in (
      a,
      subst (λ (l : List (List ℕ × List ℕ)). Fits framing body.content l) c
          (subst (λ (o : Body). Fits framing o.content fields) b (fits fields count refl)),
    )
behind_fits own content framing taken (fails fault) fits head body trailers used e = absurd (let g = e in cc)

-- ---- requests

request_fits : (framing : Result Length Fault) (bytes : List ℕ) → FitsWhen framing (request_body framing bytes)
request_fits (Err fault) bytes trailers used e = absurd (let g = e in cc)
request_fits (Ok framing) bytes trailers used e = body_fits framing false bytes trailers used e

request_by : (bytes : List ℕ) (f : Front) (head : RequestHead) (body : Body) (trailers : List (List ℕ × List ℕ)) (used : ℕ)
    → request_told (request_behind f bytes).marks (request_behind f bytes).finish ≡ complete head body trailers used
    → Fits (request_body_length head.method head.fields) body.content trailers
request_by bytes front.Nothing head body trailers used e = absurd (let g = e in cc)
request_by bytes front.TooLong head body trailers used e = absurd (let g = e in cc)
request_by bytes front.BadHead head body trailers used e = absurd (let g = e in cc)
request_by bytes (front.Stands raw taken) head body trailers used e =
    let read = request_body (request_body_length raw.first raw.pairs) (drop taken bytes) in
    let found = behind_fits (request_head raw) read.marks (request_body_length raw.first raw.pairs) taken read.finish
    (request_fits (request_body_length raw.first raw.pairs) (drop taken bytes)) head body trailers used e in
    subst (λ (h : RequestHead). Fits (request_body_length h.method h.fields) body.content trailers) found.0 found.1

pub request-fits : (bytes : List ℕ) (head : RequestHead) (body : Body) (trailers : List (List ℕ × List ℕ)) (used : ℕ)
    → request_item bytes ≡ complete head body trailers used → Fits (request_body_length head.method head.fields) body.content trailers
request-fits bytes head body trailers used e = request_by bytes (request_front bytes) head body trailers used e

-- ---- responses

pub finish_kept : {H : Type 0} (closed : Bool) (own : H) (content : Body) (f : Finish) (head : H) (body : Body)
    (trailers : List (List ℕ × List ℕ)) (used : ℕ)
    → item_behind own content (response_finish closed f) ≡ complete head body trailers used
    → item_behind own content f ≡ complete head body trailers used
finish_kept true own content goes_on head body trailers used e = absurd (let g = e in cc)
finish_kept false own content goes_on head body trailers used e = absurd (let g = e in cc)
finish_kept closed own content (whole fields count) head body trailers used e = e
finish_kept closed own content (fails fault) head body trailers used e = absurd (let g = e in cc)

response_by_length : (asked_head closed : Bool) (raw : RawHead) (taken : ℕ) (bytes : List ℕ) (framing : Result Length Fault)
    → response_length (code_of raw) asked_head raw.pairs ≡ framing
    → (head : ResponseHead) (body : Body) (trailers : List (List ℕ × List ℕ)) (used : ℕ)
    → response_told (response_body raw taken framing closed bytes).marks (response_finish closed (response_body raw taken framing closed bytes).finish)
    ≡ complete head body trailers used → Fits (response_length head.code asked_head head.fields) body.content trailers
response_by_length asked_head closed raw taken bytes (Err fault) is head body trailers used e = absurd (let g = e in cc)
response_by_length asked_head closed raw taken bytes (Ok framing) is head body trailers used e =
    let read = body_reading framing closed bytes in
    let found = behind_fits (response_head raw) read.marks (Ok framing) taken read.finish (body_fits framing closed bytes) head body trailers used
    (finish_kept closed (response_head raw) (body_of read.marks) (behind_bytes taken read.finish) head body trailers used e) in
    subst (λ (h : ResponseHead). Fits (response_length h.code asked_head h.fields) body.content trailers) found.0
    (subst (λ (r : Result Length Fault). Fits r body.content trailers) (sym is) found.1)

response_by : (asked_head closed : Bool) (bytes : List ℕ) (f : Front) (head : ResponseHead) (body : Body)
    (trailers : List (List ℕ × List ℕ)) (used : ℕ)
    → response_told (response_behind f asked_head closed bytes).marks (response_finish closed (response_behind f asked_head closed bytes).finish)
    ≡ complete head body trailers used → Fits (response_length head.code asked_head head.fields) body.content trailers
response_by asked_head true bytes front.Nothing head body trailers used e = absurd (let g = e in cc)
response_by asked_head false bytes front.Nothing head body trailers used e = absurd (let g = e in cc)
response_by asked_head closed bytes front.TooLong head body trailers used e = absurd (let g = e in cc)
response_by asked_head closed bytes front.BadHead head body trailers used e = absurd (let g = e in cc)
response_by asked_head closed bytes (front.Stands raw taken) head body trailers used e =
    response_by_length asked_head closed raw taken (drop taken bytes) (response_length (code_of raw) asked_head raw.pairs) refl
    head body trailers used e

pub response-fits : (asked_head closed : Bool) (bytes : List ℕ) (head : ResponseHead) (body : Body)
    (trailers : List (List ℕ × List ℕ)) (used : ℕ) → response_item asked_head closed bytes ≡ complete head body trailers used
    → Fits (response_length head.code asked_head head.fields) body.content trailers
response-fits asked_head closed bytes head body trailers used e =
    response_by asked_head closed bytes (response_front bytes) head body trailers used e

-- ---- a final response stands behind the interim ones

abbrev StandsBehind : Bool → Bool → List ℕ → Answers → Type 0
StandsBehind asked_head closed bytes answers = answers.final ≡ response_item asked_head closed (drop answers.used bytes)

final_at : (interim : Bool) (asked_head closed : Bool) (bytes : List ℕ) (head : ResponseHead) (used : ℕ) (further own : Answers)
    → StandsBehind asked_head closed (drop used bytes) further → StandsBehind asked_head closed bytes own
    → StandsBehind asked_head closed bytes (if interim then behind_interim head used further else own)
final_at true asked_head closed bytes head used further own behind here =
    let same : drop (used + further.used) bytes ≡ drop further.used (drop used bytes) =
    ap (λ (n : ℕ). drop n bytes) (omega arith) ∙ sym (drop-drop further.used used bytes) in
    behind ∙ ap (λ (l : List ℕ). response_item asked_head closed l) (sym same)
final_at false asked_head closed bytes head used further own behind here = here

final_by : (asked_head closed : Bool) (bytes : List ℕ) (f : Front) (further : List ℕ → Answers) (own : Answers)
    → ((rest : List ℕ) → StandsBehind asked_head closed rest (further rest)) → StandsBehind asked_head closed bytes own
    → StandsBehind asked_head closed bytes (answers_behind f further bytes own)
final_by asked_head closed bytes front.Nothing further own behind here = here
final_by asked_head closed bytes front.TooLong further own behind here = here
final_by asked_head closed bytes front.BadHead further own behind here = here
final_by asked_head closed bytes (front.Stands raw used) further own behind here =
    final_at (is_interim (response_head raw)) asked_head closed bytes (response_head raw) used (further (drop used bytes)) own
    (behind (drop used bytes)) here

final_within : (most : ℕ) (asked_head closed : Bool) (bytes : List ℕ)
    → StandsBehind asked_head closed bytes (answers_within most asked_head closed bytes)
final_within zero asked_head closed bytes = refl
final_within (suc most) asked_head closed bytes =
    final_by asked_head closed bytes (response_front bytes) (answers_within most asked_head closed)
    (record { interim = []; used = 0; final = response_item asked_head closed bytes }) (final_within most asked_head closed) refl

pub final-behind : (asked_head closed : Bool) (bytes : List ℕ) → StandsBehind asked_head closed bytes (answer_list asked_head closed bytes)
final-behind asked_head closed bytes = final_within (length bytes) asked_head closed bytes

-- ---- messages

pub read_request-whole : (bytes : List ℕ) (request : Request) → IsReadRequest bytes request → IsWholeRequest request
read_request-whole bytes request r =
    let fits = request-fits bytes r.head r.body request.trailers r.used r.whole in
    let size : request_body_length r.head.method r.head.fields ≡ request_length request.fields =
    (λ i. request_body_length (sym r.method i) (sym r.fields i)) ∙ length_by_fields request.method request.fields request.not_connect in
    subst (λ (l : List ℕ). Fits (request_length request.fields) l request.trailers) (sym r.content)
    (subst (λ (framing : Result Length Fault). Fits framing r.body.content request.trailers) size fits)

pub read_request-stays : (bytes : List ℕ) (request : Request) → IsReadRequest bytes request → settled_request request ≡ request
read_request-stays bytes request r = whole_request-stays request (read_request-whole bytes request r)

pub read_response-whole : (asked_head closed : Bool) (bytes : List ℕ) (response : Response)
    → IsReadResponse asked_head closed bytes response → IsWholeResponse asked_head response
read_response-whole asked_head closed bytes response r =
    let fits = response-fits asked_head closed bytes r.head r.body response.trailers r.used r.whole in
    subst (λ (l : List ℕ). Fits (response_length response.status asked_head response.fields) l response.trailers) (sym r.content)
    (subst (λ (l : List (List ℕ × List ℕ)). Fits (response_length response.status asked_head l) r.body.content response.trailers) (sym r.fields)
    (subst (λ (code : ℕ). Fits (response_length code asked_head r.head.fields) r.body.content response.trailers) (sym r.status) fits))

pub read_response-stays : (asked_head closed : Bool) (bytes : List ℕ) (response : Response)
    → IsReadResponse asked_head closed bytes response → settled_response asked_head response ≡ response
read_response-stays asked_head closed bytes response r =
    whole_response-stays asked_head response (read_response-whole asked_head closed bytes response r)
