-- The parts of a whole message that was read are those of heads and trailers that the grammar reads.
use Rattle.std.proofs.Common.{ℕ, ◌≡◌, Bool, true, false, List, [], length, drop, refl, sym, ◌∙◌, subst, arith, inl, inr, Result, Ok, Err}
use Rattle.std.specs.Prelude.{IsUtf8}
use Rattle.std.proofs.lemmas.List.Elements.{All-nil}
use Rattle.std.proofs.lemmas.Bool.Decides.{leb_tells}
use Rattle.httparse.specs.Grammar.{AllPass, is_uri_byte}
use Rattle.px_head.specs.Front.{request_front, response_front, trailer_front}
use Rattle.px_head.specs.Laws.{IsPair, IsValueText}
use Rattle.px_head.specs.declared.raw.RawHead.{RawHead}
use Rattle.px_head.specs.declared.front.Front.{Front}
use Rattle.px_head.specs.declared.front.Front.TheVariants as front
use Rattle.px_head.proofs.FrontLemmas.{request_parts_valid, response_parts_valid, trailer_parts_valid}
use Rattle.px_message.specs.Length.{response_length}
use Rattle.px_message.specs.declared.length.Length.{Length}
use Rattle.px_message.specs.declared.length.Length.TheVariants as lengths
use Rattle.px_message.specs.declared.fault.Fault.{Fault}
use Rattle.px_read.specs.Heads.{code_of, request_body_length, request_head, response_head}
use Rattle.px_read.specs.Chunks.{ChunkPlace, in_line, in_content, at_cr, at_lf, in_trailers, broken, Finish, goes_on, whole, fails, trailers_finish, place_finish, hear_all}
use Rattle.px_read.specs.Readings.{behind_bytes, body_reading, counted_reading, closing_reading, request_body, request_behind, response_finish, response_body, response_behind}
use Rattle.px_read.specs.Items.{Body, complete, body_of, item_behind, request_told, request_item, response_told, response_item}
use Rattle.px_read.specs.Whole.{AreReadFields}
use Rattle.px_read.specs.declared.head.RequestHead.{RequestHead}
use Rattle.px_read.specs.declared.head.ResponseHead.{ResponseHead}
use Rattle.px_read.proofs.WholeLemmas.{finish_kept}

-- ---- trailers

abbrev ValidWhen : Finish → Type 0
ValidWhen f = (trailers : List (List ℕ × List ℕ)) (used : ℕ) → f ≡ whole trailers used → AreReadFields trailers

no_fields : AreReadFields []
no_fields = record { pairs = All-nil IsPair; few = omega arith }

none_valid : (f : Finish) (n : ℕ) → f ≡ whole [] n → ValidWhen f
none_valid f n is trailers used e =
    let at : whole [] n ≡ whole trailers used = sym is ∙ e in
    let none : [] ≡ trailers = (let g = at in cc) in subst AreReadFields none no_fields

never_whole : (f : Finish) → f ≡ goes_on → ValidWhen f
never_whole f is trailers used e = absurd (let at : goes_on ≡ whole trailers used = sym is ∙ e in cc)

trailers_valid : (count : ℕ) (block : List ℕ) (f : Front) → trailer_front block ≡ f → ValidWhen (trailers_finish count (length block) f)
trailers_valid count block front.Nothing at trailers used e = absurd (let g = e in cc)
trailers_valid count block front.TooLong at trailers used e = absurd (let g = e in cc)
trailers_valid count block front.BadHead at trailers used e = absurd (let g = e in cc)
trailers_valid count block (front.Stands raw taken) at trailers used e =
    let same : raw.pairs ≡ trailers = (let g = e in cc) in
    let parts = trailer_parts_valid block raw taken at in
    subst AreReadFields same (record { pairs = parts.pairs; few = parts.few })

place_valid : (count : ℕ) (place : ChunkPlace) → ValidWhen (place_finish count place)
place_valid count (in_trailers block) = trailers_valid count block (trailer_front block) refl
place_valid count broken = λ trailers used e. absurd (let g = e in cc)
place_valid count (in_line line) = never_whole goes_on refl
place_valid count (in_content left) = never_whole goes_on refl
place_valid count at_cr = never_whole goes_on refl
place_valid count at_lf = never_whole goes_on refl

counted_valid : (n : ℕ) (bytes : List ℕ) → ValidWhen (counted_reading n bytes).finish
counted_valid n bytes = elim (leb_tells n (length bytes)) [
  | inl t ↦ none_valid (counted_reading n bytes).finish n (rw t.0 refl)
  | inr f ↦ never_whole (counted_reading n bytes).finish (rw f.0 refl)
]

closing_valid : (closed : Bool) (bytes : List ℕ) → ValidWhen (closing_reading closed bytes).finish
closing_valid true bytes = none_valid (whole [] (length bytes)) (length bytes) refl
closing_valid false bytes = never_whole goes_on refl

body_valid : (framing : Length) (closed : Bool) (bytes : List ℕ) → ValidWhen (body_reading framing closed bytes).finish
body_valid lengths.None closed bytes = none_valid (whole [] 0) 0 refl
body_valid (lengths.Bytes n) closed bytes = counted_valid n bytes
body_valid lengths.Chunked closed bytes = place_valid (length bytes) (hear_all (in_line []) bytes).place
body_valid lengths.ToClose closed bytes = closing_valid closed bytes

-- ---- behind a head

behind_valid : {H : Type 0} (own : H) (content : Body) (taken : ℕ) (f : Finish) → ValidWhen f
    → (head : H) (body : Body) (trailers : List (List ℕ × List ℕ)) (used : ℕ)
    → item_behind own content (behind_bytes taken f) ≡ complete head body trailers used → (own ≡ head) × AreReadFields trailers
behind_valid own content taken goes_on valid head body trailers used e = absurd (let g = e in cc)
behind_valid own content taken (whole fields count) valid head body trailers used e =
    let a : own ≡ head = (let g = e in cc) in
    let b : fields ≡ trailers = (let g = e in cc) in
    (a, subst AreReadFields b (valid fields count refl))
behind_valid own content taken (fails fault) valid head body trailers used e = absurd (let g = e in cc)

-- ---- requests

abbrev IsValidRequest : RequestHead → List (List ℕ × List ℕ) → Type 0
IsValidRequest head trailers = (AllPass is_uri_byte head.target × IsUtf8 head.target) × AreReadFields head.fields × AreReadFields trailers

request_valid : (framing : Result Length Fault) (bytes : List ℕ) → ValidWhen (request_body framing bytes).finish
request_valid (Err fault) bytes trailers used e = absurd (let g = e in cc)
request_valid (Ok framing) bytes trailers used e = body_valid framing false bytes trailers used e

request_by : (bytes : List ℕ) (f : Front) → request_front bytes ≡ f → (head : RequestHead) (body : Body) (trailers : List (List ℕ × List ℕ)) (used : ℕ)
    → request_told (request_behind f bytes).marks (request_behind f bytes).finish ≡ complete head body trailers used
    → IsValidRequest head trailers
request_by bytes front.Nothing at head body trailers used e = absurd (let g = e in cc)
request_by bytes front.TooLong at head body trailers used e = absurd (let g = e in cc)
request_by bytes front.BadHead at head body trailers used e = absurd (let g = e in cc)
request_by bytes (front.Stands raw taken) at head body trailers used e =
    let read = request_body (request_body_length raw.first raw.pairs) (drop taken bytes) in
    let found = behind_valid (request_head raw) (body_of read.marks) taken read.finish
    (request_valid (request_body_length raw.first raw.pairs) (drop taken bytes)) head body trailers used e in
    let parts = request_parts_valid bytes raw taken at in
    subst (λ (h : RequestHead). IsValidRequest h trailers) found.0
    ((parts.target.1, parts.target.2), record { pairs = parts.pairs; few = parts.few }, found.1)

pub request-valid : (bytes : List ℕ) (head : RequestHead) (body : Body) (trailers : List (List ℕ × List ℕ)) (used : ℕ)
    → request_item bytes ≡ complete head body trailers used → IsValidRequest head trailers
request-valid bytes head body trailers used e = request_by bytes (request_front bytes) refl head body trailers used e

-- ---- responses

abbrev IsValidResponse : ResponseHead → List (List ℕ × List ℕ) → Type 0
IsValidResponse head trailers = IsValueText head.reason × AreReadFields head.fields × AreReadFields trailers

response_by_length : (closed : Bool) (raw : RawHead) (taken : ℕ) (bytes : List ℕ) (framing : Result Length Fault)
    → IsValueText raw.third → AreReadFields raw.pairs
    → (head : ResponseHead) (body : Body) (trailers : List (List ℕ × List ℕ)) (used : ℕ)
    → response_told (response_body raw taken framing closed bytes).marks (response_finish closed (response_body raw taken framing closed bytes).finish)
    ≡ complete head body trailers used → IsValidResponse head trailers
response_by_length closed raw taken bytes (Err fault) reason fields head body trailers used e = absurd (let g = e in cc)
response_by_length closed raw taken bytes (Ok framing) reason fields head body trailers used e =
    let read = body_reading framing closed bytes in
    let found = behind_valid (response_head raw) (body_of read.marks) taken read.finish (body_valid framing closed bytes) head body trailers used
    (finish_kept closed (response_head raw) (body_of read.marks) (behind_bytes taken read.finish) head body trailers used e) in
    subst (λ (h : ResponseHead). IsValidResponse h trailers) found.0 (reason, fields, found.1)

response_by : (asked_head closed : Bool) (bytes : List ℕ) (f : Front) → response_front bytes ≡ f → (head : ResponseHead) (body : Body)
    (trailers : List (List ℕ × List ℕ)) (used : ℕ)
    → response_told (response_behind f asked_head closed bytes).marks (response_finish closed (response_behind f asked_head closed bytes).finish)
    ≡ complete head body trailers used → IsValidResponse head trailers
response_by asked_head true bytes front.Nothing at head body trailers used e = absurd (let g = e in cc)
response_by asked_head false bytes front.Nothing at head body trailers used e = absurd (let g = e in cc)
response_by asked_head closed bytes front.TooLong at head body trailers used e = absurd (let g = e in cc)
response_by asked_head closed bytes front.BadHead at head body trailers used e = absurd (let g = e in cc)
response_by asked_head closed bytes (front.Stands raw taken) at head body trailers used e =
    let parts = response_parts_valid bytes raw taken at in
    response_by_length closed raw taken (drop taken bytes) (response_length (code_of raw) asked_head raw.pairs) parts.reason
    (record { pairs = parts.pairs; few = parts.few }) head body trailers used e

pub response-valid : (asked_head closed : Bool) (bytes : List ℕ) (head : ResponseHead) (body : Body)
    (trailers : List (List ℕ × List ℕ)) (used : ℕ) → response_item asked_head closed bytes ≡ complete head body trailers used
    → IsValidResponse head trailers
response-valid asked_head closed bytes head body trailers used e =
    response_by asked_head closed bytes (response_front bytes) refl head body trailers used e
