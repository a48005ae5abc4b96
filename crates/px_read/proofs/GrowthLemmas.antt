-- Readings over more bytes: what is told stays told, and what has ended is the same.
use Rattle.std.proofs.Common.{ℕ, ◌+◌, ◌-◌, ◌<◌, ◌≤◌, ◌≡◌, Bool, true, false, nat_le, List, [], ◌∷◌, ◌++◌, length, map, take, drop, refl, sym, ap, ap₂, ◌∙◌, subst, arith, inl, inr, Result, Ok, Err, take_all, append-nil, length-append, le-leb}
use Rattle.std.specs.Prelude.{if◌then◌else◌}
use Rattle.std.proofs.lemmas.Bool.Decides.{leb_tells}
use Rattle.std.proofs.lemmas.List.{map-append, take-append-le, drop-append-le}
use Rattle.std.proofs.Math.Seq.{take-append-add}
use Rattle.px_text.specs.Prefix.{IsPrefixOf}
use Rattle.px_head.specs.Front.{request_front, response_front}
use Rattle.px_head.specs.declared.raw.RawHead.{RawHead}
use Rattle.px_head.specs.declared.front.Front.{Front}
use Rattle.px_head.specs.declared.front.Front.TheVariants as front
use Rattle.px_head.specs.declared.front.Kind.TheVariants as kind
use Rattle.px_head.proofs.FrontLemmas.{front-stays, used-within}
use Rattle.px_message.specs.Length.{response_length}
use Rattle.px_message.specs.declared.length.Length.{Length}
use Rattle.px_message.specs.declared.length.Length.TheVariants as lengths
use Rattle.px_message.specs.declared.fault.Fault.{Fault}
use Rattle.px_message.specs.declared.fault.Fault.TheVariants.{BadHead, TooLong}
use Rattle.px_read.specs.Heads.{code_of, request_body_length, request_head, response_head}
use Rattle.px_read.specs.Marks.{Mark, asks, answers, byte}
use Rattle.px_read.specs.Chunks.{Finish, goes_on, whole, fails, Reading, chunked_reading}
use Rattle.px_read.specs.Readings.{only, behind_bytes, behind_head, counted_reading, closing_reading, body_reading, request_body, request_behind, request_reading, as_response, response_body, response_behind, response_reading}

-- ---- what more bytes make of a reading

abbrev pub has_ended : Finish → Bool
has_ended goes_on = false
has_ended (whole trailers used) = true
has_ended (fails fault) = true

pub record Grows (before after : Reading) : Type 0 where
  pub marks : IsPrefixOf before.marks after.marks
  pub stays : has_ended before.finish ≡ true → after ≡ before

pub grows_same : (r : Reading) → Grows r r
grows_same r = record { marks = ([], sym (append-nil r.marks)); stays = λ e. refl }

pub grows_nothing : (r : Reading) → Grows (only goes_on) r
grows_nothing r = record { marks = (r.marks, refl); stays = λ e. absurd (let f : false ≡ true = e in cc) }

behind_ended : (n : ℕ) (f : Finish) → has_ended (behind_bytes n f) ≡ true → has_ended f ≡ true
behind_ended n goes_on e = e
behind_ended n (whole trailers used) e = refl
behind_ended n (fails fault) e = refl

pub grows_behind_head : (head : Mark) (used : ℕ) (before after : Reading) → Grows before after
    → Grows (behind_head head used before) (behind_head head used after)
grows_behind_head head used before after g = record {
  marks = (g.marks.0, ap (λ (ms : List Mark). head ∷ ms) g.marks.1);
  stays = λ e. ap (λ (r : Reading). behind_head head used r) (g.stays (behind_ended used before.finish e));
}

response_by : (closed : Bool) (marks : List Mark) (f : Finish) (after : Reading) → Grows (record { marks = marks; finish = f }) after
    → Grows (as_response false (record { marks = marks; finish = f })) (as_response closed after)
response_by closed marks goes_on after g = record { marks = g.marks; stays = λ e. absurd (let f : false ≡ true = e in cc) }
response_by closed marks (whole trailers used) after g =
    record { marks = g.marks; stays = λ e. ap (as_response closed) (g.stays refl) }
response_by closed marks (fails fault) after g =
    record { marks = g.marks; stays = λ e. ap (as_response closed) (g.stays refl) }

pub grows_as_response : (closed : Bool) (before after : Reading) → Grows before after
    → Grows (as_response false before) (as_response closed after)
grows_as_response closed before after g = response_by closed before.marks before.finish after g

-- ---- bodies

-- what the chunks have to keep
pub record ChunkLaws : Type 0 where
  pub grows : (bytes more : List ℕ) → Grows (chunked_reading bytes) (chunked_reading (bytes ++ more))
  pub within : (bytes : List ℕ) (trailers : List (List ℕ × List ℕ)) (used : ℕ)
      → (chunked_reading bytes).finish ≡ whole trailers used → (1 ≤ used) × (used ≤ length bytes)

abbrev counted_by : ℕ → List ℕ → Bool → Reading
counted_by n bytes test = record { marks = map byte bytes; finish = if test then whole [] n else goes_on }

longer_take : (n : ℕ) (bytes more : List ℕ) → length bytes < n → take n (bytes ++ more) ≡ take n bytes ++ take (n - length bytes) more
longer_take n bytes more over =
    let all : take n bytes ≡ bytes = take_all n bytes (omega arith) in
    let split : length bytes + (n - length bytes) ≡ n = omega arith in
    subst (λ (k : ℕ). take k (bytes ++ more) ≡ bytes ++ take (n - length bytes) more) split
    (take-append-add bytes more (n - length bytes))
    ∙ ap (λ (bs : List ℕ). bs ++ take (n - length bytes) more) (sym all)

counted_grows : (n : ℕ) (bytes more : List ℕ) → Grows (counted_reading n bytes) (counted_reading n (bytes ++ more))
counted_grows n bytes more = elim (leb_tells n (length bytes)) [
  | inl t ↦
      let longer = length-append bytes more in
      let later : nat_le n (length (bytes ++ more)) ≡ true = le-leb n (length (bytes ++ more)) (omega (arith, t.1)) in
      let same : counted_reading n (bytes ++ more) ≡ counted_reading n bytes =
      ap₂ (λ (bs : List ℕ) (test : Bool). counted_by n bs test) (take-append-le n bytes more t.1) (later ∙ sym t.0) in
      subst (λ (r : Reading). Grows (counted_reading n bytes) r) (sym same) (grows_same (counted_reading n bytes))
  | inr f ↦ record {
    marks = (
      map byte (take (n - length bytes) more),
      ap (λ (bs : List ℕ). map byte bs) (longer_take n bytes more f.1) ∙ map-append byte (take n bytes) (take (n - length bytes) more),
    );
    stays = λ e. absurd (
        let goes : has_ended goes_on ≡ true =
        subst (λ (test : Bool). has_ended (if test then whole [] n else goes_on) ≡ true) f.0 e in
        let g : false ≡ true = goes in cc);
  }
]

closing_grows : (closed : Bool) (bytes more : List ℕ) → Grows (closing_reading false bytes) (closing_reading closed (bytes ++ more))
closing_grows closed bytes more = record {
  marks = (map byte more, map-append byte bytes more);
  stays = λ e. absurd (let f : false ≡ true = e in cc);
}

pub body_grows : ChunkLaws → (length : Length) (closed : Bool) (bytes more : List ℕ)
    → Grows (body_reading length false bytes) (body_reading length closed (bytes ++ more))
body_grows laws lengths.None closed bytes more = grows_same (only (whole [] 0))
body_grows laws (lengths.Bytes n) closed bytes more = counted_grows n bytes more
body_grows laws lengths.Chunked closed bytes more = laws.grows bytes more
body_grows laws lengths.ToClose closed bytes more = closing_grows closed bytes more

-- ---- requests

request_body_grows : ChunkLaws → (length : Result Length Fault) (bytes more : List ℕ)
    → Grows (request_body length bytes) (request_body length (bytes ++ more))
request_body_grows laws (Err fault) bytes more = grows_same (only (fails fault))
request_body_grows laws (Ok length) bytes more = body_grows laws length false bytes more

request_by : ChunkLaws → (bytes more : List ℕ) (f : Front) → request_front bytes ≡ f
    → Grows (request_behind f bytes) (request_reading (bytes ++ more))
request_by laws bytes more front.Nothing at = grows_nothing (request_reading (bytes ++ more))
request_by laws bytes more front.TooLong at =
    let later : request_front (bytes ++ more) ≡ front.TooLong = front-stays kind.Request bytes more (λ e. cc) ∙ at in
    subst (λ (f : Front). Grows (only (fails TooLong)) (request_behind f (bytes ++ more))) (sym later)
    (grows_same (only (fails TooLong)))
request_by laws bytes more front.BadHead at =
    let later : request_front (bytes ++ more) ≡ front.BadHead = front-stays kind.Request bytes more (λ e. cc) ∙ at in
    subst (λ (f : Front). Grows (only (fails BadHead)) (request_behind f (bytes ++ more))) (sym later)
    (grows_same (only (fails BadHead)))
request_by laws bytes more (front.Stands raw used) at =
    let later : request_front (bytes ++ more) ≡ front.Stands raw used = front-stays kind.Request bytes more (λ e. cc) ∙ at in
    let within = used-within kind.Request bytes raw used at in
    let body = request_body_grows laws (request_body_length raw.first raw.pairs) (drop used bytes) more in
    let same = sym (drop-append-le used bytes more within.1) in
    subst (λ (f : Front). Grows (request_behind (front.Stands raw used) bytes) (request_behind f (bytes ++ more))) (sym later)
    (grows_behind_head (asks (request_head raw)) used _ _
    (subst (λ (rest : List ℕ). Grows (request_body (request_body_length raw.first raw.pairs) (drop used bytes)) (request_body (request_body_length raw.first raw.pairs) rest)) same body))

pub request_grows : ChunkLaws → (bytes more : List ℕ) → Grows (request_reading bytes) (request_reading (bytes ++ more))
request_grows laws bytes more = request_by laws bytes more (request_front bytes) refl

-- ---- responses

response_body_grows : ChunkLaws → (raw : RawHead) (used : ℕ) (length : Result Length Fault) (closed : Bool) (bytes more : List ℕ)
    → Grows (response_body raw used length false bytes) (response_body raw used length closed (bytes ++ more))
response_body_grows laws raw used (Err fault) closed bytes more = grows_same (only (fails fault))
response_body_grows laws raw used (Ok length) closed bytes more =
    grows_behind_head (answers (response_head raw)) used _ _ (body_grows laws length closed bytes more)

response_front_grows : ChunkLaws → (asked_head closed : Bool) (bytes more : List ℕ) (f : Front) → response_front bytes ≡ f
    → Grows (response_behind f asked_head false bytes) (response_behind (response_front (bytes ++ more)) asked_head closed (bytes ++ more))
response_front_grows laws asked_head closed bytes more front.Nothing at =
    grows_nothing (response_behind (response_front (bytes ++ more)) asked_head closed (bytes ++ more))
response_front_grows laws asked_head closed bytes more front.TooLong at =
    let later : response_front (bytes ++ more) ≡ front.TooLong = front-stays kind.Response bytes more (λ e. cc) ∙ at in
    subst (λ (f : Front). Grows (only (fails TooLong)) (response_behind f asked_head closed (bytes ++ more))) (sym later)
    (grows_same (only (fails TooLong)))
response_front_grows laws asked_head closed bytes more front.BadHead at =
    let later : response_front (bytes ++ more) ≡ front.BadHead = front-stays kind.Response bytes more (λ e. cc) ∙ at in
    subst (λ (f : Front). Grows (only (fails BadHead)) (response_behind f asked_head closed (bytes ++ more))) (sym later)
    (grows_same (only (fails BadHead)))
response_front_grows laws asked_head closed bytes more (front.Stands raw used) at =
    let later : response_front (bytes ++ more) ≡ front.Stands raw used = front-stays kind.Response bytes more (λ e. cc) ∙ at in
    let within = used-within kind.Response bytes raw used at in
    let length = response_length (code_of raw) asked_head raw.pairs in
    let body = response_body_grows laws raw used length closed (drop used bytes) more in
    let same = sym (drop-append-le used bytes more within.1) in
    subst (λ (f : Front). Grows (response_behind (front.Stands raw used) asked_head false bytes) (response_behind f asked_head closed (bytes ++ more))) (sym later)
    (subst (λ (rest : List ℕ). Grows (response_body raw used length false (drop used bytes)) (response_body raw used length closed rest)) same body)

pub response_grows : ChunkLaws → (asked_head closed : Bool) (bytes more : List ℕ)
    → Grows (response_reading asked_head false bytes) (response_reading asked_head closed (bytes ++ more))
response_grows laws asked_head closed bytes more =
    grows_as_response closed _ _ (response_front_grows laws asked_head closed bytes more (response_front bytes) refl)
