-- A message that was sent on as it came is read as it was, behind the head that was sent.
use Rattle.std.proofs.Common.{ℕ, ◌<◌, ◌≡◌, ◌≢◌, ◌^◌, Bool, true, false, List, [], ◌∷◌, ◌++◌, length, map, take, drop, nat_le, refl, sym, ap, ap₂, ◌∙◌, subst, arith, inl, inr, Result, Ok, Err, append_assoc, append-nil, length-append}
use Rattle.std.specs.Prelude.{◌⊎◌, if◌then◌else◌}
use Rattle.std.proofs.lemmas.Bool.Decides.{leb_tells, nat_tests}
use Rattle.std.proofs.lemmas.Fmt.{decimal_is_IsNumeral}
use Rattle.std.proofs.lemmas.List.{length-take-le}
use Rattle.std.proofs.Math.Seq.{take-append_seam, drop-append_seam}
use Rattle.px_head.specs.Front.{front, trailer_front, request_front, response_front}
use Rattle.px_head.specs.declared.raw.RawHead.{RawHead}
use Rattle.px_head.specs.declared.front.Front.{Front}
use Rattle.px_head.specs.declared.front.Front.TheVariants as fronts
use Rattle.px_head.specs.declared.front.Kind.{Kind}
use Rattle.px_head.specs.declared.front.Kind.TheVariants as kind
use Rattle.px_head.proofs.FrontLemmas.{front-stays}
use Rattle.px_message.specs.Length.{framed_length, has_no_body, is_framed_in_chunks, request_length, response_length}
use Rattle.px_message.specs.Status.{is_status}
use Rattle.px_message.specs.declared.length.Length.{Length}
use Rattle.px_message.specs.declared.length.Length.TheVariants as lengths
use Rattle.px_message.specs.declared.fault.Fault.{Fault}
use Rattle.px_message.specs.declared.request.Request.{Request}
use Rattle.px_message.specs.declared.response.Response.{Response}
use Rattle.px_message.specs.declared.version.Version.{Version}
use Rattle.px_read.specs.Chunks.{Finish, Reading, goes_on, whole, fails}
use Rattle.px_read.specs.Heads.{code_of, request_body_length, request_head, response_head}
use Rattle.px_read.specs.Items.{Body, body_of, complete, item_before, item_behind, request_told, response_told}
use Rattle.px_read.specs.Marks.{Mark, asks, answers, begins, byte, ends}
use Rattle.px_read.specs.Readings.{as_response, behind_bytes, behind_head, body_reading, request_behind, request_body, request_reading, response_behind, response_body, response_finish, response_reading}
use Rattle.px_read.specs.declared.head.RequestHead.{RequestHead}
use Rattle.px_read.specs.declared.head.ResponseHead.{ResponseHead}
use Rattle.px_read.proofs.ConnectLemmas.{length_by_fields}
use Rattle.px_read.proofs.ItemLemmas.{request_complete, response_complete}
use Rattle.px_write.specs.ReadBack.{RequestHeadStands, ResponseHeadStands, TrailersStand, read_request_head, read_response_head, request_parts, response_parts, trailer_parts}
use Rattle.px_write.specs.Text.{fields_text, last_chunk_text, request_head_text, response_head_text, target_text}
use Rattle.px_write.specs.declared.form.Form.{Form}
use Rattle.px_write.proofs.ReadBackLemmas.{Ends, frames, version_back}
use Rattle.px_parts.specs.ReadBack.{AreReadAs, FramesRequest, FramesResponse, StreamedRequestIsSame, StreamedRequestReadsBack, StreamedResponseIsSame, StreamedResponseReadsBack}
use Rattle.px_parts.specs.Texts.{behind_text, last_text, marks_text, request_so_far, response_behind_text, response_so_far}
use Rattle.px_parts.proofs.ChunkLemmas.{chunks-back}
use Rattle.px_parts.proofs.FieldLemmas.{length-framing, request_ends, request_frames, response_frames}
use Rattle.px_parts.proofs.TextLemmas.{bytes-sent}

-- ---- a body by its length

abbrev made : List Mark → Finish → Reading
made marks finish = record { marks = marks; finish = finish }

marks_same : {m n : List Mark} {f g : Finish} → made m f ≡ made n g → m ≡ n
marks_same is = ap (λ (r : Reading). r.marks) is

finish_same : {m n : List Mark} {f g : Finish} → made m f ≡ made n g → f ≡ g
finish_same is = ap (λ (r : Reading). r.finish) is

trailers_same : {a b : List (List ℕ × List ℕ)} {m n : ℕ} → whole a m ≡ whole b n → a ≡ b
trailers_same is = let e = is in cc

used_same : {a b : List (List ℕ × List ℕ)} {m n : ℕ} → whole a m ≡ whole b n → m ≡ n
used_same is = let e = is in cc

-- what is sent of a whole body
abbrev said : Bool → List Mark → List (List ℕ × List ℕ) → List ℕ
said framed marks trailers = marks_text marks ++ (if framed then last_chunk_text trailers else [])

abbrev StandFor : Bool → List (List ℕ × List ℕ) → Type 0
StandFor framed trailers = framed ≡ true
    → trailer_front (fields_text trailers) ≡ fronts.Stands (trailer_parts trailers) (length (fields_text trailers))

abbrev BodyIsBack : Length → Bool → List Mark → List (List ℕ × List ℕ) → List ℕ → Type 0
BodyIsBack l closed marks trailers rest =
    body_reading l closed (said (frames l) marks trailers ++ rest) ≡ made marks (whole trailers (length (said (frames l) marks trailers)))

-- bytes alone, as they were
plain_said : (content : List ℕ) → marks_text (map byte content) ++ [] ≡ content
plain_said content = append-nil (marks_text (map byte content)) ∙ bytes-sent content

counted_whole : (n : ℕ) (bytes : List ℕ) (marks : List Mark) (trailers : List (List ℕ × List ℕ)) (used : ℕ)
    → body_reading (lengths.Bytes n) false bytes ≡ made marks (whole trailers used)
    → (content : List ℕ) × (length content ≡ n) × (marks ≡ map byte content) × (trailers ≡ [])
counted_whole n bytes marks trailers used is = elim (leb_tells n (length bytes)) [
  | inl t ↦
      let ended : whole [] n ≡ whole trailers used =
      sym (ap (λ (b : Bool). if b then whole [] n else goes_on) t.0) ∙ finish_same is in
      (take n bytes, length-take-le n bytes t.1, sym (marks_same is), sym (trailers_same ended))
  | inr f ↦ absurd (
      let on : goes_on ≡ whole trailers used =
      sym (ap (λ (b : Bool). if b then whole [] n else goes_on) f.0) ∙ finish_same is in
      let e = on in cc)
]

counted_said : (content rest : List ℕ)
    → body_reading (lengths.Bytes (length content)) false (content ++ rest) ≡ made (map byte content) (whole [] (length content))
counted_said content rest =
    ap (λ (bytes : List ℕ). made (map byte bytes) (if nat_le (length content) (length (content ++ rest)) then whole [] (length content) else goes_on))
    (take-append_seam content rest)
    ∙ ap (λ (fits : Bool). made (map byte content) (if fits then whole [] (length content) else goes_on)) all_there
  where
    all_there : nat_le (length content) (length (content ++ rest)) ≡ true
    all_there = elim (leb_tells (length content) (length (content ++ rest))) [
      | inl t ↦ t.0
      | inr f ↦ absurd (let size = length-append content rest in omega (arith, size, f.1))
    ]

-- plain bytes behind any head: the reading of their text
plain_back : (l : Length) (closed : Bool) (content rest : List ℕ)
    → body_reading l closed (content ++ rest) ≡ made (map byte content) (whole [] (length content))
    → body_reading l closed ((marks_text (map byte content) ++ []) ++ rest)
    ≡ made (map byte content) (whole [] (length (marks_text (map byte content) ++ [])))
plain_back l closed content rest is =
    subst (λ (text : List ℕ). body_reading l closed (text ++ rest) ≡ made (map byte content) (whole [] (length text)))
    (sym (plain_said content)) is

closing_whole : (shut : Bool) (bytes : List ℕ) (marks : List Mark) (trailers : List (List ℕ × List ℕ)) (used : ℕ)
    → body_reading lengths.ToClose shut bytes ≡ made marks (whole trailers used) → (marks ≡ map byte bytes) × (trailers ≡ [])
closing_whole true bytes marks trailers used is = (sym (marks_same is), sym (trailers_same (finish_same is)))
closing_whole false bytes marks trailers used is = absurd (let e = finish_same is in cc)

body-back : (l : Length) (shut closed : Bool) (bytes : List ℕ) (marks : List Mark) (trailers : List (List ℕ × List ℕ)) (used : ℕ)
    (rest : List ℕ) → body_reading l shut bytes ≡ made marks (whole trailers used) → StandFor (frames l) trailers → Ends l closed rest
    → BodyIsBack l closed marks trailers rest
body-back lengths.None shut closed bytes marks trailers used rest is stand over =
    subst (λ (ms : List Mark). BodyIsBack lengths.None closed ms trailers rest) (marks_same is)
    (ap (λ (t : List (List ℕ × List ℕ)). made [] (whole t 0)) (trailers_same (finish_same is)))
body-back (lengths.Bytes n) shut closed bytes marks trailers used rest is stand over =
    let w = counted_whole n bytes marks trailers used is in
    subst (λ (ms : List Mark). BodyIsBack (lengths.Bytes n) closed ms trailers rest) (sym w.2)
    (subst (λ (t : List (List ℕ × List ℕ)). BodyIsBack (lengths.Bytes n) closed (map byte w.0) t rest) (sym w.3)
    (subst (λ (k : ℕ). BodyIsBack (lengths.Bytes k) closed (map byte w.0) [] rest) w.1
    (plain_back (lengths.Bytes (length w.0)) closed w.0 rest (counted_said w.0 rest))))
body-back lengths.Chunked shut closed bytes marks trailers used rest is stand over =
    chunks-back bytes marks trailers used rest is (stand refl)
body-back lengths.ToClose shut closed bytes marks trailers used rest is stand (inl by_itself) = absurd (by_itself refl)
body-back lengths.ToClose shut closed bytes marks trailers used rest is stand (inr at) =
    let w = closing_whole shut bytes marks trailers used is in
    let plain : body_reading lengths.ToClose true (bytes ++ []) ≡ made (map byte bytes) (whole [] (length bytes)) =
    ap (λ (all : List ℕ). body_reading lengths.ToClose true all) (append-nil bytes) in
    subst (λ (ms : List Mark). BodyIsBack lengths.ToClose closed ms trailers rest) (sym w.0)
    (subst (λ (t : List (List ℕ × List ℕ)). BodyIsBack lengths.ToClose closed (map byte bytes) t rest) (sym w.1)
    ((λ i. body_reading lengths.ToClose (at.0 i) ((marks_text (map byte bytes) ++ []) ++ at.1 i))
    ∙ plain_back lengths.ToClose true bytes [] plain))

-- ---- what a whole reading is of

ok_length : {a b : Length} (e : ◌≡◌ {A = Result Length Fault} (Ok a) (Ok b)) → a ≡ b
ok_length e = cc

-- the finish before a head was counted
behind_whole : (n : ℕ) (f : Finish) (trailers : List (List ℕ × List ℕ)) (used : ℕ) → behind_bytes n f ≡ whole trailers used
    → (own : ℕ) × (f ≡ whole trailers own)
behind_whole n goes_on trailers used is = absurd (let e = is in cc)
behind_whole n (whole own count) trailers used is =
    (count, ap (λ (t : List (List ℕ × List ℕ)). whole t count) (trailers_same is))
behind_whole n (fails fault) trailers used is = absurd (let e = is in cc)

first_mark : {a b : Mark} {m n : List Mark} → a ∷ m ≡ b ∷ n → a ≡ b
first_mark is = let e = is in cc

other_marks : {a b : Mark} {m n : List Mark} → a ∷ m ≡ b ∷ n → m ≡ n
other_marks is = let e = is in cc

-- a body of a request that is whole with these marks
record BodyOf (says : Result Length Fault) (marks : List Mark) (trailers : List (List ℕ × List ℕ)) : Type 0 where
  long : Length
  at : says ≡ Ok long
  closed : Bool
  bytes : List ℕ
  used : ℕ
  reads : body_reading long closed bytes ≡ made marks (whole trailers used)

request_body_of : (says : Result Length Fault) (n : ℕ) (head : Mark) (bytes : List ℕ) (own : Mark) (marks : List Mark)
    (trailers : List (List ℕ × List ℕ)) (used : ℕ)
    → behind_head head n (request_body says bytes) ≡ made (own ∷ marks) (whole trailers used) → BodyOf says marks trailers
request_body_of (Err fault) n head bytes own marks trailers used is = absurd (let e = finish_same is in cc)
request_body_of (Ok l) n head bytes own marks trailers used is =
    let w = behind_whole n (body_reading l false bytes).finish trailers used (finish_same is) in
    record {
      long = l;
      at = refl;
      closed = false;
      bytes = bytes;
      used = w.0;
      reads = ap₂ made (other_marks (marks_same is)) w.1;
    }

asks_same : {a b : RequestHead} → asks a ≡ asks b → a ≡ b
asks_same is = let e = is in cc

request_source : (f : Front) (bytes : List ℕ) (head : RequestHead) (marks : List Mark) (trailers : List (List ℕ × List ℕ)) (used : ℕ)
    → request_behind f bytes ≡ made (asks head ∷ marks) (whole trailers used)
    → BodyOf (request_body_length head.method head.fields) marks trailers
request_source fronts.Nothing bytes head marks trailers used is = absurd (let e = finish_same is in cc)
request_source fronts.TooLong bytes head marks trailers used is = absurd (let e = finish_same is in cc)
request_source fronts.BadHead bytes head marks trailers used is = absurd (let e = finish_same is in cc)
request_source (fronts.Stands raw n) bytes head marks trailers used is =
    let own : asks (request_head raw) ≡ asks head = first_mark (marks_same is) in
    subst (λ (h : RequestHead). BodyOf (request_body_length h.method h.fields) marks trailers) (asks_same own)
    (request_body_of (request_body_length raw.first raw.pairs) n (asks (request_head raw)) (drop n bytes) (asks head) marks trailers used is)

answers_same : {a b : ResponseHead} → answers a ≡ answers b → a ≡ b
answers_same is = let e = is in cc

finish_whole : (closed : Bool) (f : Finish) (trailers : List (List ℕ × List ℕ)) (used : ℕ) → response_finish closed f ≡ whole trailers used
    → f ≡ whole trailers used
finish_whole true goes_on trailers used is = absurd (let e = is in cc)
finish_whole false goes_on trailers used is = absurd (let e = is in cc)
finish_whole closed (whole own count) trailers used is = is
finish_whole closed (fails fault) trailers used is = absurd (let e = is in cc)

response_body_of : (raw : RawHead) (n : ℕ) (says : Result Length Fault) (closed : Bool) (bytes : List ℕ) (head : ResponseHead)
    (marks : List Mark) (trailers : List (List ℕ × List ℕ)) (used : ℕ)
    → response_body raw n says closed bytes ≡ made (answers head ∷ marks) (whole trailers used)
    → (response_head raw ≡ head) × BodyOf says marks trailers
response_body_of raw n (Err fault) closed bytes head marks trailers used is = absurd (let e = finish_same is in cc)
response_body_of raw n (Ok l) closed bytes head marks trailers used is =
    let w = behind_whole n (body_reading l closed bytes).finish trailers used (finish_same is) in (
      answers_same (first_mark (marks_same is)),
      record {
        long = l;
        at = refl;
        closed = closed;
        bytes = bytes;
        used = w.0;
        reads = ap₂ made (other_marks (marks_same is)) w.1;
      },
    )

response_source : (f : Front) (asked_head closed : Bool) (bytes : List ℕ) (head : ResponseHead) (marks : List Mark)
    (trailers : List (List ℕ × List ℕ)) (used : ℕ)
    → response_behind f asked_head closed bytes ≡ made (answers head ∷ marks) (whole trailers used)
    → BodyOf (response_length head.code asked_head head.fields) marks trailers
response_source fronts.Nothing asked_head closed bytes head marks trailers used is = absurd (let e = finish_same is in cc)
response_source fronts.TooLong asked_head closed bytes head marks trailers used is = absurd (let e = finish_same is in cc)
response_source fronts.BadHead asked_head closed bytes head marks trailers used is = absurd (let e = finish_same is in cc)
response_source (fronts.Stands raw n) asked_head closed bytes head marks trailers used is =
    let w = response_body_of raw n (response_length (code_of raw) asked_head raw.pairs) closed (drop n bytes) head marks trailers used is in
    subst (λ (h : ResponseHead). BodyOf (response_length h.code asked_head h.fields) marks trailers) w.0 w.1

-- ---- heads with bytes behind them

stands_before : (k : Kind) (head body rest : List ℕ) (raw : RawHead) → front k head ≡ fronts.Stands raw (length head)
    → front k ((head ++ body) ++ rest) ≡ fronts.Stands raw (length head)
stands_before k head body rest raw is =
    ap (λ (bytes : List ℕ). front k bytes) (append_assoc head body rest)
    ∙ front-stays k head (body ++ rest) (λ none. let e = sym is ∙ none in cc) ∙ is

behind : (head body rest : List ℕ) → drop (length head) ((head ++ body) ++ rest) ≡ body ++ rest
behind head body rest = ap (λ (bytes : List ℕ). drop (length head) bytes) (append_assoc head body rest) ∙ drop-append_seam head (body ++ rest)

request_by : (head body rest : List ℕ) (raw : RawHead) (l : Length) (marks : List Mark) (trailers : List (List ℕ × List ℕ))
    → request_front head ≡ fronts.Stands raw (length head) → request_body_length raw.first raw.pairs ≡ Ok l
    → body_reading l false (body ++ rest) ≡ made marks (whole trailers (length body))
    → request_reading ((head ++ body) ++ rest) ≡ made (asks (request_head raw) ∷ marks) (whole trailers (length (head ++ body)))
request_by head body rest raw l marks trailers at measured reads =
    let bytes = (head ++ body) ++ rest in
    ap (λ (f : Front). request_behind f bytes) (stands_before kind.Request head body rest raw at)
    ∙ (λ i. behind_head (asks (request_head raw)) (length head) (request_body (measured i) (behind head body rest i)))
    ∙ ap (λ (r : Reading). behind_head (asks (request_head raw)) (length head) r) reads
    ∙ ap (λ (n : ℕ). made (asks (request_head raw) ∷ marks) (whole trailers n)) (sym (length-append head body))

response_by : (asked_head closed : Bool) (head body rest : List ℕ) (raw : RawHead) (l : Length) (marks : List Mark)
    (trailers : List (List ℕ × List ℕ))
    → response_front head ≡ fronts.Stands raw (length head) → response_length (code_of raw) asked_head raw.pairs ≡ Ok l
    → body_reading l closed (body ++ rest) ≡ made marks (whole trailers (length body))
    → response_reading asked_head closed ((head ++ body) ++ rest)
    ≡ made (answers (response_head raw) ∷ marks) (whole trailers (length (head ++ body)))
response_by asked_head closed head body rest raw l marks trailers at measured reads =
    let bytes = (head ++ body) ++ rest in
    ap (λ (f : Front). as_response closed (response_behind f asked_head closed bytes)) (stands_before kind.Response head body rest raw at)
    ∙ (λ i. as_response closed (response_body raw (length head) (measured i) closed (behind head body rest i)))
    ∙ ap (λ (r : Reading). as_response closed (behind_head (answers (response_head raw)) (length head) r)) reads
    ∙ ap (λ (n : ℕ). made (answers (response_head raw) ∷ marks) (whole trailers n)) (sym (length-append head body))

-- ---- requests

-- the head as it is read, whose version was written
request_head_back : (sent : Request) (form : Form) → request_head (request_parts sent form) ≡ read_request_head sent form
request_head_back sent form =
    ap (λ (version : Version). record {
      method = sent.method;
      target = target_text form sent.host sent.port sent.path;
      version = version;
      fields = sent.fields;
    }) (version_back sent.version)

request_with : (sent : Request) (form : Form) (bytes : List ℕ) (head : RequestHead) (marks : List Mark) (trailers : List (List ℕ × List ℕ)) (used : ℕ)
    (rest : List ℕ) → request_reading bytes ≡ made (asks head ∷ marks) (whole trailers used) → FramesRequest sent head
    → RequestHeadStands sent form → TrailersStand sent.fields trailers
    → BodyOf (request_body_length head.method head.fields) marks trailers
    → request_reading (request_so_far sent form bytes ++ rest)
    ≡ made (asks (read_request_head sent form) ∷ marks) (whole trailers (length (request_so_far sent form bytes)))
request_with sent form bytes head marks trailers used rest is framed_as stands trailing src =
    let head_text = request_head_text sent form in
    let says : request_length sent.fields ≡ Ok src.long =
    (length-framing sent.fields head.fields framed_as.fields).0
    ∙ sym (ap (λ (tunnel : Bool). if tunnel then Ok lengths.None else request_length head.fields) framed_as.no_tunnel) ∙ src.at in
    let framed : is_framed_in_chunks sent.fields ≡ frames src.long = request_frames sent.fields src.long says in
    let body : behind_text sent.fields (request_reading bytes) ≡ said (frames src.long) marks trailers =
    ap (behind_text sent.fields) is
    ∙ ap (λ (b : Bool). marks_text marks ++ (if b then last_chunk_text trailers else [])) framed in
    subst (λ (behind_it : List ℕ). request_reading ((head_text ++ behind_it) ++ rest)
    ≡ made (asks (read_request_head sent form) ∷ marks) (whole trailers (length (head_text ++ behind_it)))) (sym body)
    (request_by head_text (said (frames src.long) marks trailers) rest (request_parts sent form) src.long marks trailers stands
    (length_by_fields sent.method sent.fields sent.not_connect ∙ says)
    (body-back src.long src.closed false src.bytes marks trailers src.used rest src.reads (λ e. trailing (framed ∙ e))
    (inl (request_ends sent.fields src.long says)))
    ∙ ap (λ (h : RequestHead). made (asks h ∷ marks) (whole trailers (length (head_text ++ said (frames src.long) marks trailers))))
    (request_head_back sent form))

pub request-back : (sent : Request) (form : Form) → StreamedRequestReadsBack sent form
request-back sent form bytes head marks trailers used is framed_as stands trailing rest =
    request_with sent form bytes head marks trailers used rest is framed_as stands trailing
    (request_source (request_front bytes) bytes head marks trailers used is)

-- ---- responses

-- what is sent behind the head, where there is a body or not
sent_body : (fields : List (List ℕ × List ℕ)) (l : Length) (closed : Bool) (bytes : List ℕ) (marks : List Mark)
    (trailers : List (List ℕ × List ℕ)) (used : ℕ) (none : Bool) → (if none then Ok lengths.None else framed_length fields) ≡ Ok l
    → body_reading l closed bytes ≡ made marks (whole trailers used)
    → (if none then [] else (marks_text marks ++ last_text fields trailers)) ≡ said (frames l) marks trailers
sent_body fields l closed bytes marks trailers used true is reads =
    subst (λ (k : Length). body_reading k closed bytes ≡ made marks (whole trailers used) → [] ≡ said (frames k) marks trailers)
    (ok_length is) (λ r. ap (λ (ms : List Mark). marks_text ms ++ []) (marks_same r)) reads
sent_body fields l closed bytes marks trailers used false is reads =
    ap (λ (b : Bool). marks_text marks ++ (if b then last_chunk_text trailers else [])) (response_frames fields l is)

-- chunks are framed by the fields
framed_by : (fields : List (List ℕ × List ℕ)) (l : Length) (none : Bool) → (if none then Ok lengths.None else framed_length fields) ≡ Ok l
    → frames l ≡ true → is_framed_in_chunks fields ≡ true
framed_by fields l true is framed = absurd (let e : false ≡ true = ap frames (ok_length is) ∙ framed in cc)
framed_by fields l false is framed = response_frames fields l is ∙ framed

response_head_back : (sent : Response) → sent.status < 2 ^ 64 → response_head (response_parts sent) ≡ read_response_head sent
response_head_back sent small =
    λ i. record {
      version = version_back sent.version i;
      code = (decimal_is_IsNumeral sent.status small).1 i;
      reason = sent.reason;
      fields = sent.fields;
    }

-- the response ends by itself, or with all that is there
response_with : (asked_head : Bool) (sent : Response) → sent.status < 2 ^ 64 → (shut : Bool) (bytes : List ℕ) (head : ResponseHead)
    (marks : List Mark) (trailers : List (List ℕ × List ℕ)) (used : ℕ) → AreReadAs asked_head shut bytes head marks trailers used
    → FramesResponse sent asked_head head → ResponseHeadStands sent → TrailersStand sent.fields trailers → (closed : Bool) (rest : List ℕ)
    → (response_length sent.status asked_head sent.fields ≢ Ok lengths.ToClose) ⊎ ((closed ≡ true) × (rest ≡ []))
    → BodyOf (response_length head.code asked_head head.fields) marks trailers
    → AreReadAs asked_head closed (response_so_far sent asked_head shut bytes ++ rest) (read_response_head sent) marks trailers
    (length (response_so_far sent asked_head shut bytes))
response_with asked_head sent small shut bytes head marks trailers used is framed_as stands trailing closed rest over src =
    let head_text = response_head_text sent in
    let says : response_length sent.status asked_head sent.fields ≡ Ok src.long =
    ap (λ (none : Bool). if none then Ok lengths.None else framed_length sent.fields) framed_as.body
    ∙ (length-framing sent.fields head.fields framed_as.fields).1 head.code asked_head ∙ src.at in
    let by_itself : Ends src.long closed rest =
    elim over [ inl other ↦ inl (λ e. other (says ∙ ap Ok e)) | inr all ↦ inr all ] in
    let body : response_behind_text sent asked_head (response_reading asked_head shut bytes) ≡ said (frames src.long) marks trailers =
    ap (response_behind_text sent asked_head) is
    ∙ sent_body sent.fields src.long src.closed src.bytes marks trailers src.used (has_no_body sent.status asked_head) says src.reads in
    subst (λ (behind_it : List ℕ). AreReadAs asked_head closed ((head_text ++ behind_it) ++ rest) (read_response_head sent) marks trailers
    (length (head_text ++ behind_it))) (sym body)
    (response_by asked_head closed head_text (said (frames src.long) marks trailers) rest (response_parts sent) src.long marks trailers stands
    (ap (λ (n : ℕ). response_length n asked_head sent.fields) (decimal_is_IsNumeral sent.status small).1 ∙ says)
    (body-back src.long src.closed closed src.bytes marks trailers src.used rest src.reads
    (λ e. trailing (framed_by sent.fields src.long (has_no_body sent.status asked_head) says e)) by_itself)
    ∙ ap (λ (h : ResponseHead). made (answers h ∷ marks) (whole trailers (length (head_text ++ said (frames src.long) marks trailers))))
    (response_head_back sent small))

-- what was read before its finish was taken for a response's
inside : (closed : Bool) (reading : Reading) (marks : List Mark) (trailers : List (List ℕ × List ℕ)) (used : ℕ)
    → as_response closed reading ≡ made marks (whole trailers used) → reading ≡ made marks (whole trailers used)
inside closed reading marks trailers used is =
    ap₂ made (marks_same is) (finish_whole closed reading.finish trailers used (finish_same is))

response_ends : (asked_head : Bool) (sent : Response) → sent.status < 2 ^ 64 → (shut : Bool) (bytes : List ℕ) (head : ResponseHead)
    (marks : List Mark) (trailers : List (List ℕ × List ℕ)) (used : ℕ) → AreReadAs asked_head shut bytes head marks trailers used
    → FramesResponse sent asked_head head → ResponseHeadStands sent → TrailersStand sent.fields trailers → (closed : Bool) (rest : List ℕ)
    → (response_length sent.status asked_head sent.fields ≢ Ok lengths.ToClose) ⊎ ((closed ≡ true) × (rest ≡ []))
    → AreReadAs asked_head closed (response_so_far sent asked_head shut bytes ++ rest) (read_response_head sent) marks trailers
    (length (response_so_far sent asked_head shut bytes))
response_ends asked_head sent small shut bytes head marks trailers used is framed_as stands trailing closed rest over =
    response_with asked_head sent small shut bytes head marks trailers used is framed_as stands trailing closed rest over
    (response_source (response_front bytes) asked_head shut bytes head marks trailers used
    (inside shut (response_behind (response_front bytes) asked_head shut bytes) (answers head ∷ marks) trailers used is))

pub status_small : (code : ℕ) → is_status code ≡ true → code < 2 ^ 64
status_small code valid = grind (arith, nat_tests)

pub response-back : (asked_head : Bool) (sent : Response) → sent.status < 2 ^ 64 → StreamedResponseReadsBack asked_head sent
response-back asked_head sent small shut bytes head marks trailers used is framed_as stands trailing = (
  λ by_itself closed rest.
      response_ends asked_head sent small shut bytes head marks trailers used is framed_as stands trailing closed rest (inl by_itself),
  ap (λ (b : List ℕ). response_reading asked_head true b) (sym (append-nil (response_so_far sent asked_head shut bytes)))
      ∙ response_ends asked_head sent small shut bytes head marks trailers used is framed_as stands trailing true [] (inr (refl, refl)),
)

-- ---- items

record MarksOf (head : Mark) (body : Body) (marks : List Mark) : Type 0 where
  behind_it : List Mark
  marks_are : marks ≡ head ∷ behind_it
  body_is : body_of behind_it ≡ body

-- nothing is whole without a head
not_complete : {H : Type 0} (f : Finish) (head : H) (body : Body) (trailers : List (List ℕ × List ℕ)) (used : ℕ) (B : Type 0)
    → item_before f ≡ complete head body trailers used → B
not_complete goes_on head body trailers used B e = absurd (let g = e in cc)
not_complete (whole fields count) head body trailers used B e = absurd (let g = e in cc)
not_complete (fails fault) head body trailers used B e = absurd (let g = e in cc)

head_of : {H : Type 0} (own : H) (content : Body) (f : Finish) (head : H) (body : Body) (trailers : List (List ℕ × List ℕ)) (used : ℕ)
    → item_behind own content f ≡ complete head body trailers used → (own ≡ head) × (content ≡ body)
head_of own content goes_on head body trailers used e = absurd (let g = e in cc)
head_of {H} own content (whole fields count) head body trailers used e =
    let g = e in
    let own_same : own ≡ head = cc in
    let body_same : content ≡ body = cc in
    (own_same, body_same)
head_of own content (fails fault) head body trailers used e = absurd (let g = e in cc)

request_marks : (marks : List Mark) (f : Finish) (head : RequestHead) (body : Body) (trailers : List (List ℕ × List ℕ)) (used : ℕ)
    → request_told marks f ≡ complete head body trailers used → MarksOf (asks head) body marks
request_marks [] f head body trailers used e = not_complete f head body trailers used _ e
request_marks (asks own ∷ marks) f head body trailers used e =
    let both = head_of own (body_of marks) f head body trailers used e in
    record { behind_it = marks; marks_are = ap (λ (h : RequestHead). asks h ∷ marks) both.0; body_is = both.1 }
request_marks (answers own ∷ marks) f head body trailers used e = not_complete f head body trailers used _ e
request_marks (begins size ∷ marks) f head body trailers used e = not_complete f head body trailers used _ e
request_marks (byte value ∷ marks) f head body trailers used e = not_complete f head body trailers used _ e
request_marks (ends ∷ marks) f head body trailers used e = not_complete f head body trailers used _ e

response_marks : (marks : List Mark) (f : Finish) (head : ResponseHead) (body : Body) (trailers : List (List ℕ × List ℕ)) (used : ℕ)
    → response_told marks f ≡ complete head body trailers used → MarksOf (answers head) body marks
response_marks [] f head body trailers used e = not_complete f head body trailers used _ e
response_marks (asks own ∷ marks) f head body trailers used e = not_complete f head body trailers used _ e
response_marks (answers own ∷ marks) f head body trailers used e =
    let both = head_of own (body_of marks) f head body trailers used e in
    record { behind_it = marks; marks_are = ap (λ (h : ResponseHead). answers h ∷ marks) both.0; body_is = both.1 }
response_marks (begins size ∷ marks) f head body trailers used e = not_complete f head body trailers used _ e
response_marks (byte value ∷ marks) f head body trailers used e = not_complete f head body trailers used _ e
response_marks (ends ∷ marks) f head body trailers used e = not_complete f head body trailers used _ e

pub request-same : (sent : Request) (form : Form) → StreamedRequestIsSame sent form
request-same sent form bytes head body trailers used is framed_as stands trailing rest =
    let own = request_reading bytes in
    let w = request_marks own.marks own.finish head body trailers used is in
    let reading : own ≡ made (asks head ∷ w.behind_it) (whole trailers used) =
    ap₂ made w.marks_are (request_complete own.marks own.finish head body trailers used is) in
    ap (λ (r : Reading). request_told r.marks r.finish)
    (request-back sent form bytes head w.behind_it trailers used reading framed_as stands trailing rest)
    ∙ ap (λ (b : Body). complete (read_request_head sent form) b trailers (length (request_so_far sent form bytes))) w.body_is

pub response-same : (asked_head : Bool) (sent : Response) → sent.status < 2 ^ 64 → StreamedResponseIsSame asked_head sent
response-same asked_head sent small shut bytes head body trailers used is framed_as stands trailing =
    let own = response_reading asked_head shut bytes in
    let w = response_marks own.marks own.finish head body trailers used is in
    let reading : own ≡ made (answers head ∷ w.behind_it) (whole trailers used) =
    ap₂ made w.marks_are (response_complete own.marks own.finish head body trailers used is) in
    let both = response-back asked_head sent small shut bytes head w.behind_it trailers used reading framed_as stands trailing in
    let size = length (response_so_far sent asked_head shut bytes) in
    let body_same = ap (λ (b : Body). complete (read_response_head sent) b trailers size) w.body_is in (
      λ by_itself closed rest. ap (λ (r : Reading). response_told r.marks r.finish) (both.0 by_itself closed rest) ∙ body_same,
      ap (λ (r : Reading). response_told r.marks r.finish) both.1 ∙ body_same,
    )
