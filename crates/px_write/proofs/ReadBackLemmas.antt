-- A message that is written is read as itself: its head stands, and its body is as long as the head says.
use Rattle.std.proofs.Common.{ℕ, ◌+◌, ◌<◌, ◌^◌, ◌≡◌, ◌≢◌, ◌&&◌, ◌||◌, Bool, true, false, cond, not, List, [], ◌∷◌, ◌++◌, length, map, drop, refl, sym, ap, ◌∙◌, subst, arith, inl, inr, Option, Some, None, Result, Ok, Err, append_assoc, append-nil, length-append}
use Rattle.std.specs.Prelude.{◌⊎◌, codes, nat_le, if◌then◌else◌}
use Rattle.std.specs.List.{list_any}
use Rattle.std.proofs.lemmas.Bool.Decides.{leb_tells}
use Rattle.std.proofs.lemmas.Fmt.{decimal_is_IsNumeral}
use Rattle.std.proofs.Math.Seq.{take-append_seam, drop-append_seam}
use Rattle.px_head.specs.Front.{front, trailer_front, request_front, response_front}
use Rattle.px_head.specs.declared.raw.RawHead.{RawHead}
use Rattle.px_head.specs.declared.front.Front.{Front}
use Rattle.px_head.specs.declared.front.Front.TheVariants.{Stands}
use Rattle.px_head.specs.declared.front.Kind.{Kind}
use Rattle.px_head.specs.declared.front.Kind.TheVariants as kind
use Rattle.px_head.proofs.FrontLemmas.{front-stays}
use Rattle.px_message.specs.Fields.{elements_of, has_element, is_same_name}
use Rattle.px_message.specs.Length.{by_stated, content_length, ends_chunked, framed_length, has_no_body, is_chunked, is_framed_in_chunks, request_length, response_length, stands, stated_length, transfer_encoding}
use Rattle.px_message.specs.Settle.{Fits}
use Rattle.px_message.specs.declared.length.Length.{Length}
use Rattle.px_message.specs.declared.length.Length.TheVariants as lengths
use Rattle.px_message.specs.declared.fault.Fault.{Fault}
use Rattle.px_message.specs.declared.fault.Fault.TheVariants.{BothLengths, BadCoding}
use Rattle.px_message.specs.Settle.{settled_request, settled_response, settled_response_fields, settled_trailers}
use Rattle.px_message.specs.declared.request.Request.{Request}
use Rattle.px_message.specs.declared.response.Response.{Response}
use Rattle.px_message.specs.declared.version.Version.{Version}
use Rattle.px_message.specs.declared.version.Version.TheVariants.{Http10, Http11}
use Rattle.px_message.proofs.SettleLemmas.{settled_request-whole, settled_response-whole, unframed}
use Rattle.px_read.specs.Chunks.{Reading, goes_on, whole}
use Rattle.px_read.specs.Heads.{code_of, connect_method, request_body_length, request_head, response_head, version_named}
use Rattle.px_read.specs.Items.{body_of, complete, request_item, request_told, response_item, response_told}
use Rattle.px_read.specs.Marks.{Mark, asks, answers, byte}
use Rattle.px_read.specs.Readings.{as_response, behind_head, body_reading, request_behind, request_body, request_reading, response_behind, response_body, response_reading}
use Rattle.px_read.proofs.ConnectLemmas.{length_by_fields}
use Rattle.px_write.specs.ReadBack.{ResponseHeadStands, SettledRequestReadsBack, SettledResponseReadsBack, TrailersStand, WholeRequestReadsBack, WholeResponseReadsBack, one_chunk, request_parts, response_parts, trailer_parts}
use Rattle.px_write.specs.Text.{body_text, chunk_text, fields_text, last_chunk_text, request_head_text, request_text, response_head_text, response_text, target_text, version_text}
use Rattle.px_write.specs.declared.form.Form.{Form}
use Rattle.px_write.proofs.ChunkTextLemmas.{chunks_read, marks_for, told_body}

-- ---- a body by its length

-- a body of this length is framed in chunks
abbrev pub frames : Length → Bool
frames lengths.None = false
frames (lengths.Bytes n) = false
frames lengths.Chunked = true
frames lengths.ToClose = false

-- the text of a body, in chunks or not
abbrev pub written : Bool → List ℕ → List (List ℕ × List ℕ) → List ℕ
written framed content trailers = if framed then chunk_text content ++ last_chunk_text trailers else content

-- what is read of it
abbrev pub told : Bool → List ℕ → List (List ℕ × List ℕ) → Reading
told framed content trailers =
    record { marks = marks_for framed content; finish = whole trailers (length (written framed content trailers)) }

-- trailers are read as they stand, where there are any
abbrev StandFor : Bool → List (List ℕ × List ℕ) → Type 0
StandFor framed trailers = framed ≡ true → trailer_front (fields_text trailers) ≡ Stands (trailer_parts trailers) (length (fields_text trailers))

-- a body ends by itself, or with all that is there
abbrev pub Ends : Length → Bool → List ℕ → Type 0
Ends l closed rest = (l ≢ lengths.ToClose) ⊎ ((closed ≡ true) × (rest ≡ []))

counted : (content rest : List ℕ)
    → body_reading (lengths.Bytes (length content)) false (content ++ rest) ≡ record { marks = map byte content; finish = whole [] (length content) }
counted content rest =
    ap (λ (bytes : List ℕ). record { marks = map byte bytes; finish = if nat_le (length content) (length (content ++ rest)) then whole [] (length content) else goes_on })
    (take-append_seam content rest)
    ∙ ap (λ (fits : Bool). record { marks = map byte content; finish = if fits then whole [] (length content) else goes_on }) all_there
  where
    all_there : nat_le (length content) (length (content ++ rest)) ≡ true
    all_there = elim (leb_tells (length content) (length (content ++ rest))) [
      | inl t ↦ t.0
      | inr f ↦ absurd (let size = length-append content rest in omega (arith, size, f.1))
    ]

body_back : (l : Length) (content rest : List ℕ) (trailers : List (List ℕ × List ℕ)) (closed : Bool) → length content < 2 ^ 64
    → StandFor (frames l) trailers → Fits (Ok l) content trailers → Ends l closed rest
    → body_reading l closed (written (frames l) content trailers ++ rest) ≡ told (frames l) content trailers
body_back lengths.None content rest trailers closed small stand fits ends =
    λ i. record { marks = map byte (sym fits.0 i); finish = whole (sym fits.1 i) (length (sym fits.0 i)) }
body_back (lengths.Bytes n) content rest trailers closed small stand fits ends =
    ap (λ (count : ℕ). body_reading (lengths.Bytes count) closed (content ++ rest)) (sym fits.0)
    ∙ counted content rest
    ∙ ap (λ (t : List (List ℕ × List ℕ)). record { marks = map byte content; finish = whole t (length content) }) (sym fits.1)
body_back lengths.Chunked content rest trailers closed small stand fits ends = chunks_read content rest trailers small (stand refl)
body_back lengths.ToClose content rest trailers closed small stand fits (inl by_itself) = absurd (by_itself refl)
body_back lengths.ToClose content rest trailers closed small stand fits (inr at) =
    (λ i. body_reading lengths.ToClose (at.0 i) (content ++ at.1 i))
    ∙ ap (λ (bytes : List ℕ). body_reading lengths.ToClose true bytes) (append-nil content)
    ∙ ap (λ (t : List (List ℕ × List ℕ)). record { marks = map byte content; finish = whole t (length content) }) (sym fits)

-- ---- what a length says of the codings

-- where no coding is `chunked` the last is not
unchunked : (codings : List (List ℕ)) → list_any (λ e. is_same_name e (codes "chunked")) codings ≡ false → ends_chunked codings ≡ false
unchunked [] none = refl
unchunked (coding ∷ []) none = by_test (is_chunked coding) none
  where
    by_test : (b : Bool) → (b || false) ≡ false → b ≡ false
    by_test true none = none
    by_test false none = refl
unchunked (coding ∷ next ∷ codings) none =
    by_test (is_chunked coding) (list_any (λ e. is_same_name e (codes "chunked")) (next ∷ codings)) (ends_chunked (next ∷ codings))
    none (unchunked (next ∷ codings))
  where
    by_test : (b more last : Bool) → (b || more) ≡ false → (more ≡ false → last ≡ false) → (not b && last) ≡ false
    by_test true more last none tail = refl
    by_test false more last none tail = tail none

ok_same : {a b : Length} (e : ◌≡◌ {A = Result Length Fault} (Ok a) (Ok b)) → a ≡ b
ok_same e = cc

abbrev request_shape : Bool → Bool → Bool → Option ℕ → Result Length Fault
request_shape coded measured framed stated =
    if coded then (if measured then Err BothLengths else (if framed then Ok lengths.Chunked else Err BadCoding))
    else (if measured then by_stated stated else Ok lengths.None)

request_frames : (fields : List (List ℕ × List ℕ)) (l : Length) → request_length fields ≡ Ok l → is_framed_in_chunks fields ≡ frames l
request_frames fields l is =
    by_tests (stands transfer_encoding fields) (stands content_length fields) (is_framed_in_chunks fields) (stated_length fields)
    (unframed fields) is
  where
    by_tests : (coded measured framed : Bool) (stated : Option ℕ) → (coded ≡ false → framed ≡ false)
        → request_shape coded measured framed stated ≡ Ok l → framed ≡ frames l
    by_tests true true framed stated none is = absurd (let e = is in cc)
    by_tests true false true stated none is = ap frames (ok_same is)
    by_tests true false false stated none is = absurd (let e = is in cc)
    by_tests false true framed None none is = absurd (let e = is in cc)
    by_tests false true framed (Some n) none is = none refl ∙ ap frames (ok_same is)
    by_tests false false framed stated none is = none refl ∙ ap frames (ok_same is)

abbrev response_shape : Bool → Bool → Bool → Bool → Option ℕ → Result Length Fault
response_shape coded measured has framed stated =
    if coded then (if measured then Err BothLengths
    else (if has then (if framed then Ok lengths.Chunked else Err BadCoding) else Ok lengths.ToClose))
    else (if measured then by_stated stated else Ok lengths.ToClose)

response_frames : (fields : List (List ℕ × List ℕ)) (l : Length) → framed_length fields ≡ Ok l → is_framed_in_chunks fields ≡ frames l
response_frames fields l is =
    by_tests (stands transfer_encoding fields) (stands content_length fields) (has_element transfer_encoding (codes "chunked") fields)
    (is_framed_in_chunks fields) (stated_length fields) (unframed fields) (unchunked (elements_of transfer_encoding fields)) is
  where
    by_tests : (coded measured has framed : Bool) (stated : Option ℕ) → (coded ≡ false → framed ≡ false)
        → (has ≡ false → framed ≡ false) → response_shape coded measured has framed stated ≡ Ok l → framed ≡ frames l
    by_tests true true has framed stated none without is = absurd (let e = is in cc)
    by_tests true false true true stated none without is = ap frames (ok_same is)
    by_tests true false true false stated none without is = absurd (let e = is in cc)
    by_tests true false false framed stated none without is = without refl ∙ ap frames (ok_same is)
    by_tests false true has framed None none without is = absurd (let e = is in cc)
    by_tests false true has framed (Some n) none without is = none refl ∙ ap frames (ok_same is)
    by_tests false false has framed stated none without is = none refl ∙ ap frames (ok_same is)

-- ---- heads with bytes behind them

-- a head that stands by itself stands before others
stands_before : (k : Kind) (head body rest : List ℕ) (raw : RawHead) → front k head ≡ Stands raw (length head)
    → front k ((head ++ body) ++ rest) ≡ Stands raw (length head)
stands_before k head body rest raw is =
    ap (λ (bytes : List ℕ). front k bytes) (append_assoc head body rest)
    ∙ front-stays k head (body ++ rest) (λ none. let e = sym is ∙ none in cc) ∙ is

behind : (head body rest : List ℕ) → drop (length head) ((head ++ body) ++ rest) ≡ body ++ rest
behind head body rest = ap (λ (bytes : List ℕ). drop (length head) bytes) (append_assoc head body rest) ∙ drop-append_seam head (body ++ rest)

request_by : (head body rest : List ℕ) (raw : RawHead) (l : Length) (marks : List Mark) (trailers : List (List ℕ × List ℕ))
    → request_front head ≡ Stands raw (length head) → request_body_length raw.first raw.pairs ≡ Ok l
    → body_reading l false (body ++ rest) ≡ record { marks = marks; finish = whole trailers (length body) }
    → request_item ((head ++ body) ++ rest) ≡ complete (request_head raw) (body_of marks) trailers (length (head ++ body))
request_by head body rest raw l marks trailers at measured reads =
    let bytes = (head ++ body) ++ rest in
    let reading : request_reading bytes
    ≡ record { marks = asks (request_head raw) ∷ marks; finish = whole trailers (length head + length body) } =
    ap (λ (f : Front). request_behind f bytes) (stands_before kind.Request head body rest raw at)
    ∙ (λ i. behind_head (asks (request_head raw)) (length head) (request_body (measured i) (behind head body rest i)))
    ∙ ap (λ (r : Reading). behind_head (asks (request_head raw)) (length head) r) reads in
    ap (λ (r : Reading). request_told r.marks r.finish) reading
    ∙ ap (λ (n : ℕ). complete (request_head raw) (body_of marks) trailers n) (sym (length-append head body))

response_by : (asked_head closed : Bool) (head body rest : List ℕ) (raw : RawHead) (l : Length) (marks : List Mark)
    (trailers : List (List ℕ × List ℕ))
    → response_front head ≡ Stands raw (length head) → response_length (code_of raw) asked_head raw.pairs ≡ Ok l
    → body_reading l closed (body ++ rest) ≡ record { marks = marks; finish = whole trailers (length body) }
    → response_item asked_head closed ((head ++ body) ++ rest)
    ≡ complete (response_head raw) (body_of marks) trailers (length (head ++ body))
response_by asked_head closed head body rest raw l marks trailers at measured reads =
    let bytes = (head ++ body) ++ rest in
    let reading : response_reading asked_head closed bytes
    ≡ record { marks = answers (response_head raw) ∷ marks; finish = whole trailers (length head + length body) } =
    ap (λ (f : Front). as_response closed (response_behind f asked_head closed bytes)) (stands_before kind.Response head body rest raw at)
    ∙ (λ i. as_response closed (response_body raw (length head) (measured i) closed (behind head body rest i)))
    ∙ ap (λ (r : Reading). as_response closed (behind_head (answers (response_head raw)) (length head) r)) reads in
    ap (λ (r : Reading). response_told r.marks r.finish) reading
    ∙ ap (λ (n : ℕ). complete (response_head raw) (body_of marks) trailers n) (sym (length-append head body))

-- ---- requests

abbrev RequestIs : (head content rest : List ℕ) (raw : RawHead) (trailers : List (List ℕ × List ℕ)) → Bool → Type 0
RequestIs head content rest raw trailers framed =
    request_item ((head ++ written framed content trailers) ++ rest)
    ≡ complete (request_head raw) (one_chunk framed content) trailers (length (head ++ written framed content trailers))

-- of a request that is no CONNECT
pub request_back : (head content rest : List ℕ) (raw : RawHead) (trailers : List (List ℕ × List ℕ)) → raw.first ≢ connect_method → length content < 2 ^ 64
    → request_front head ≡ Stands raw (length head) → TrailersStand raw.pairs trailers → Fits (request_length raw.pairs) content trailers
    → request_item ((head ++ body_text raw.pairs content trailers) ++ rest)
    ≡ complete (request_head raw) (one_chunk (is_framed_in_chunks raw.pairs) content) trailers (length (head ++ body_text raw.pairs content trailers))
request_back head content rest raw trailers other small at stand fits = by_result (request_length raw.pairs) refl fits
  where
    -- by the length that the head says
    of_length : (l : Length) → request_length raw.pairs ≡ Ok l → Fits (Ok l) content trailers → Ends l false rest
        → StandFor (frames l) trailers → RequestIs head content rest raw trailers (frames l)
    of_length l is fits ends stand =
        request_by head (written (frames l) content trailers) rest raw l (marks_for (frames l) content) trailers at
        (length_by_fields raw.first raw.pairs other ∙ is)
        (body_back l content rest trailers false small stand fits ends)
        ∙ ap (λ b. complete (request_head raw) b trailers (length (head ++ written (frames l) content trailers))) (told_body (frames l) content)

    -- a request's body does not run to the close
    by_itself : (l : Length) → request_length raw.pairs ≡ Ok l → l ≢ lengths.ToClose
    by_itself l is to_close =
        by_tests (stands transfer_encoding raw.pairs) (stands content_length raw.pairs) (is_framed_in_chunks raw.pairs)
        (stated_length raw.pairs) (is ∙ ap Ok to_close)
      where
        by_tests : (coded measured framed : Bool) (stated : Option ℕ) → request_shape coded measured framed stated ≡ Ok lengths.ToClose → ⊥
        by_tests true true framed stated is = let e = is in cc
        by_tests true false true stated is = let e = is in cc
        by_tests true false false stated is = let e = is in cc
        by_tests false true framed None is = let e = is in cc
        by_tests false true framed (Some n) is = let e = is in cc
        by_tests false false framed stated is = let e = is in cc

    by_result : (r : Result Length Fault) → request_length raw.pairs ≡ r → Fits r content trailers → RequestIs head content rest raw trailers (is_framed_in_chunks raw.pairs)
    by_result (Ok l) is fits =
        subst (λ (b : Bool). StandFor b trailers → RequestIs head content rest raw trailers b) (sym (request_frames raw.pairs l is))
        (of_length l is fits (inl (by_itself l is))) stand
    by_result (Err fault) is fits = absurd fits

-- ---- responses

-- a body that is not there tells nothing, however its message is framed
no_chunk : (framed : Bool) → body_of [] ≡ one_chunk framed []
no_chunk true = refl
no_chunk false = refl

abbrev ResponseIs : (asked_head closed : Bool) (head content rest : List ℕ) (raw : RawHead) (trailers : List (List ℕ × List ℕ))
    → Bool → List ℕ → Type 0
ResponseIs asked_head closed head content rest raw trailers framed body =
    response_item asked_head closed ((head ++ body) ++ rest)
    ≡ complete (response_head raw) (one_chunk framed content) trailers (length (head ++ body))

abbrev length_by : List (List ℕ × List ℕ) → Bool → Result Length Fault
length_by fields none = if none then Ok lengths.None else framed_length fields

pub response_back : (asked_head closed : Bool) (head content rest : List ℕ) (raw : RawHead) (trailers : List (List ℕ × List ℕ)) (code : ℕ)
    → code_of raw ≡ code → length content < 2 ^ 64
    → response_front head ≡ Stands raw (length head) → TrailersStand raw.pairs trailers
    → Fits (response_length code asked_head raw.pairs) content trailers
    → (response_length code asked_head raw.pairs ≢ Ok lengths.ToClose) ⊎ ((closed ≡ true) × (rest ≡ []))
    → response_item asked_head closed
    ((head ++ (if has_no_body code asked_head then [] else body_text raw.pairs content trailers)) ++ rest)
    ≡ complete (response_head raw) (one_chunk (is_framed_in_chunks raw.pairs) content) trailers
    (length (head ++ (if has_no_body code asked_head then [] else body_text raw.pairs content trailers)))
response_back asked_head closed head content rest raw trailers code coded small at stand fits ends =
    by_test (has_no_body code asked_head) refl fits ends
  where
    says : (none : Bool) → has_no_body code asked_head ≡ none → response_length (code_of raw) asked_head raw.pairs ≡ length_by raw.pairs none
    says none is = ap (λ (n : ℕ). response_length n asked_head raw.pairs) coded ∙ ap (length_by raw.pairs) is

    of_length : (l : Length) → response_length (code_of raw) asked_head raw.pairs ≡ Ok l → Fits (Ok l) content trailers → Ends l closed rest
        → StandFor (frames l) trailers → ResponseIs asked_head closed head content rest raw trailers (frames l) (written (frames l) content trailers)
    of_length l is fits ends stand =
        response_by asked_head closed head (written (frames l) content trailers) rest raw l (marks_for (frames l) content) trailers at is
        (body_back l content rest trailers closed small stand fits ends)
        ∙ ap (λ b. complete (response_head raw) b trailers (length (head ++ written (frames l) content trailers))) (told_body (frames l) content)

    by_result : (r : Result Length Fault) → framed_length raw.pairs ≡ r → response_length (code_of raw) asked_head raw.pairs ≡ r
        → Fits r content trailers → (r ≢ Ok lengths.ToClose) ⊎ ((closed ≡ true) × (rest ≡ []))
        → ResponseIs asked_head closed head content rest raw trailers (is_framed_in_chunks raw.pairs) (body_text raw.pairs content trailers)
    by_result (Ok l) framed is fits ends =
        subst (λ (b : Bool). StandFor b trailers → ResponseIs asked_head closed head content rest raw trailers b (written b content trailers)) (sym (response_frames raw.pairs l framed))
        (of_length l is fits (elim ends [ inl other ↦ inl (λ e. other (ap Ok e)) | inr all ↦ inr all ])) stand
    by_result (Err fault) framed is fits ends = absurd fits

    by_test : (none : Bool) → has_no_body code asked_head ≡ none → Fits (length_by raw.pairs none) content trailers
        → (length_by raw.pairs none ≢ Ok lengths.ToClose) ⊎ ((closed ≡ true) × (rest ≡ []))
        → ResponseIs asked_head closed head content rest raw trailers (is_framed_in_chunks raw.pairs) (if none then [] else body_text raw.pairs content trailers)
    by_test true is fits ends =
        response_by asked_head closed head [] rest raw lengths.None [] trailers at (says true is)
        (λ i. record { marks = []; finish = whole (sym fits.1 i) 0 })
        ∙ ap (λ b. complete (response_head raw) b trailers (length (head ++ [])))
        (no_chunk (is_framed_in_chunks raw.pairs) ∙ ap (one_chunk (is_framed_in_chunks raw.pairs)) (sym fits.0))
    by_test false is fits ends = by_result (framed_length raw.pairs) refl (says false is) fits ends

-- ---- messages

pub version_back : (version : Version) → version_named (version_text version) ≡ version
unfolding version_text
version_back Http10 = refl
version_back Http11 = refl

pub whole_request-back : (request : Request) (form : Form) → length request.body < 2 ^ 64 → WholeRequestReadsBack request form
whole_request-back request form small fits head stand rest =
    request_back (request_head_text request form) request.body rest (request_parts request form) request.trailers request.not_connect small head stand fits
    ∙ ap (λ (version : Version). complete (record {
      method = request.method;
      target = target_text form request.host request.port request.path;
      version = version;
      fields = request.fields;
    }) (one_chunk (is_framed_in_chunks request.fields) request.body) request.trailers (length (request_text request form)))
    (version_back request.version)

pub settled_request-back : (request : Request) (form : Form) → length request.body < 2 ^ 64 → SettledRequestReadsBack request form
settled_request-back request form small =
    whole_request-back (settled_request request) form small (settled_request-whole request small)

-- the response ends by itself, or with all that is there
response_ends-back : (asked_head closed : Bool) (response : Response) (rest : List ℕ) → response.status < 2 ^ 64
    → length response.body < 2 ^ 64 → Fits (response_length response.status asked_head response.fields) response.body response.trailers
    → ResponseHeadStands response → TrailersStand response.fields response.trailers
    → (response_length response.status asked_head response.fields ≢ Ok lengths.ToClose) ⊎ ((closed ≡ true) × (rest ≡ []))
    → response_item asked_head closed (response_text response asked_head ++ rest)
    ≡ complete (record {
      version = response.version;
      code = response.status;
      reason = response.reason;
      fields = response.fields;
    }) (one_chunk (is_framed_in_chunks response.fields) response.body) response.trailers (length (response_text response asked_head))
response_ends-back asked_head closed response rest code small fits head stand ends =
    let same = (decimal_is_IsNumeral response.status code).1 in
    response_back asked_head closed (response_head_text response) response.body rest (response_parts response) response.trailers
    response.status same small head stand fits ends
    ∙ (λ i. complete (record {
      version = version_back response.version i;
      code = same i;
      reason = response.reason;
      fields = response.fields;
    }) (one_chunk (is_framed_in_chunks response.fields) response.body) response.trailers (length (response_text response asked_head)))

pub whole_response-back : (asked_head : Bool) (response : Response) → response.status < 2 ^ 64 → length response.body < 2 ^ 64
    → WholeResponseReadsBack asked_head response
whole_response-back asked_head response code small fits = (
  λ head stand by_itself closed rest. response_ends-back asked_head closed response rest code small fits head stand (inl by_itself),
  λ head stand.
      ap (λ (bytes : List ℕ). response_item asked_head true bytes) (sym (append-nil (response_text response asked_head)))
      ∙ response_ends-back asked_head true response [] code small fits head stand (inr (refl, refl)),
)

settled_small : (asked_head : Bool) (response : Response) → response.status < 2 ^ 64 → length response.body < 2 ^ 64
    → ((settled_response asked_head response).status < 2 ^ 64) × (length (settled_response asked_head response).body < 2 ^ 64)
settled_small asked_head response code small = by_test (has_no_body response.status asked_head)
  where
    by_test : (b : Bool) → let settled = cond b (record response { body = []; trailers = [] }) (record response {
      fields = settled_response_fields (length response.body) response.fields;
      trailers = settled_trailers response.fields response.trailers;
    }) in (settled.status < 2 ^ 64) × (length settled.body < 2 ^ 64)
    by_test true = (code, omega arith)
    by_test false = (code, small)

pub settled_response-back : (asked_head : Bool) (response : Response) → response.status < 2 ^ 64 → length response.body < 2 ^ 64
    → SettledResponseReadsBack asked_head response
settled_response-back asked_head response code small =
    let both = settled_small asked_head response code small in
    whole_response-back asked_head (settled_response asked_head response) both.0 both.1
    (settled_response-whole asked_head response small)
