-- Bodies that are streamed stay so, and are from one byte on.
use Rattle.std.proofs.Common.{ℕ, zero, suc, ◌≤◌, ◌≡◌, ◌&&◌, Bool, true, false, not, nat_le, List, [], ◌∷◌, ◌++◌, length, take, drop, refl, sym, ap, ◌∙◌, arith, inl, inr, Option, Some, None, Result, Ok, Err, length-append}
use Rattle.std.specs.Prelude.{nat_lt}
use Rattle.std.specs.List.{flat_map}
use Rattle.std.proofs.lemmas.Bool.{lt-ltb, ltb-true}
use Rattle.std.proofs.lemmas.Bool.Decides.{leb_tells}
use Rattle.std.proofs.lemmas.Grind.{flat_map-append}
use Rattle.std.proofs.lemmas.List.{take-append-le}
use Rattle.px_text.specs.Prefix.{IsPrefixOf}
use Rattle.px_head.specs.Front.{response_front}
use Rattle.px_head.specs.declared.raw.RawHead.{RawHead}
use Rattle.px_head.specs.declared.front.Front.{Front}
use Rattle.px_head.specs.declared.front.Front.TheVariants as front
use Rattle.px_message.specs.Length.{has_no_body, response_length}
use Rattle.px_message.specs.declared.length.Length.{Length}
use Rattle.px_message.specs.declared.length.Length.TheVariants as lengths
use Rattle.px_message.specs.declared.fault.Fault.{Fault}
use Rattle.px_read.specs.Chunks.{Finish, goes_on, whole, fails}
use Rattle.px_read.specs.Heads.{code_of, response_head}
use Rattle.px_read.specs.Items.{Body, body_of, content_in, item_before, item_behind, request_item, request_told, response_item, response_told}
use Rattle.px_read.specs.Laws.{head_in}
use Rattle.px_read.specs.Marks.{Mark, asks, answers, begins, byte, ends}
use Rattle.px_read.specs.Readings.{body_reading, request_reading, response_behind, response_body, response_reading}
use Rattle.px_read.specs.declared.head.RequestHead.{RequestHead}
use Rattle.px_read.specs.declared.head.ResponseHead.{ResponseHead}
use Rattle.px_read.proofs.GrowthLemmas.{request_grows, response_grows}
use Rattle.px_read.proofs.ItemLemmas.{request_carries, response_carries}
use Rattle.px_read.proofs.LawLemmas.{chunk_laws}
use Rattle.px_parts.specs.Streamed.{BeginsAt, CloseChangesNothing, PlaceStays, RequestHeardIsContent, RequestStreamsFrom, RequestStreamsOn, ResponseHeardIsContent, ResponseStreamsFrom, ResponseStreamsOn, StreamedStays, content_so_far, exceeds, heard_in, request_says, request_streams, response_says, response_streams, streamed_by, streams_behind}

-- ---- more is heard

above_more : (most heard more : ℕ) → heard ≤ more → nat_lt most heard ≡ true → nat_lt most more ≡ true
above_more most heard more fits is = let above = ltb-true most heard is in lt-ltb most more (omega (arith, above, fits))

exceeds-stays : (length : Length) (most heard more : ℕ) → heard ≤ more → exceeds length most heard ≡ true → exceeds length most more ≡ true
exceeds-stays lengths.None most heard more fits is = is
exceeds-stays (lengths.Bytes n) most heard more fits is = is
exceeds-stays lengths.Chunked most heard more fits is = above_more most heard more fits is
exceeds-stays lengths.ToClose most heard more fits is = above_more most heard more fits is

pub streamed-stays : StreamedStays
streamed-stays length None heard more fits is = is
streamed-stays length (Some most) heard more fits is = exceeds-stays length most heard more fits is

by-stays : (says : Result Length Fault) (allowed : Option ℕ) (heard more : ℕ) → heard ≤ more → streamed_by says allowed heard ≡ true
    → streamed_by says allowed more ≡ true
by-stays (Ok length) allowed heard more fits is = streamed-stays length allowed heard more fits is
by-stays (Err fault) allowed heard more fits is = is

behind-stays : {H : Type 0} (says : H → Result Length Fault) (before after : Option H) (allowed : Option ℕ) (heard more : ℕ)
    → ((head : H) → before ≡ Some head → after ≡ Some head) → heard ≤ more → streams_behind says before allowed heard ≡ true
    → streams_behind says after allowed more ≡ true
behind-stays {H} says None after allowed heard more stays fits is = absurd (let e : false ≡ true = is in cc)
behind-stays {H} says (Some head) after allowed heard more stays fits is =
    ap (λ (h : Option H). streams_behind says h allowed more) (stays head refl)
    ∙ by-stays (says head) allowed heard more fits is

heard-grows : (before after : List Mark) → IsPrefixOf before after → heard_in before ≤ heard_in after
heard-grows before after more =
    let size = ap heard_in more.1
    ∙ ap (λ (bytes : List ℕ). length bytes) (flat_map-append content_in before more.0)
    ∙ length-append (flat_map content_in before) (flat_map content_in more.0) in
    omega (arith, size)

pub request-streams_on : RequestStreamsOn
request-streams_on allowed bytes more is =
    behind-stays request_says (head_in (request_item bytes)) (head_in (request_item (bytes ++ more))) allowed
    (heard_in (request_reading bytes).marks) (heard_in (request_reading (bytes ++ more)).marks)
    (request_carries chunk_laws bytes more).head
    (heard-grows _ _ (request_grows chunk_laws bytes more).marks) is

-- both tests hold of the first, and the second test stays
both_on : (none before after : Bool) → (before ≡ true → after ≡ true) → (not none && before) ≡ true → (not none && after) ≡ true
both_on true before after on is = is
both_on false before after on is = on is

pub response-streams_on : ResponseStreamsOn
response-streams_on status asked_head closed allowed bytes more is =
    both_on (has_no_body status asked_head) _ _
    (behind-stays (response_says asked_head) (head_in (response_item asked_head false bytes))
    (head_in (response_item asked_head closed (bytes ++ more))) allowed
    (heard_in (response_reading asked_head false bytes).marks) (heard_in (response_reading asked_head closed (bytes ++ more)).marks)
    (response_carries chunk_laws asked_head closed bytes more).head
    (heard-grows _ _ (response_grows chunk_laws asked_head closed bytes more).marks))
    is

-- ---- from one byte on

-- what is true of a number, and of each above one of which it is true, is so from a least one on
from_least : (judged : ℕ → Bool) (n : ℕ) → ((a b : ℕ) → a ≤ b → b ≤ n → judged a ≡ true → judged b ≡ true) → judged n ≡ true
    → (place : ℕ) × (place ≤ n) × ((k : ℕ) → k ≤ n → judged k ≡ nat_le place k)
from_least judged zero on is = (
  0,
  omega arith,
  λ k fits. (let none : k ≡ 0 = omega (arith, fits) in ap judged none ∙ is ∙ sym (ap (nat_le 0) none)),
)
from_least judged (suc n) on is =
    by_test (from_least judged n (λ a b first fits. on a b first (omega (arith, fits)))) (judged n) refl
  where
    at_or_below : (k : ℕ) → k ≤ suc n → (k ≤ n → judged k ≡ nat_le (suc n) k) → judged k ≡ nat_le (suc n) k
    at_or_below k fits below = elim (leb_tells (suc n) k) [
      | inl t ↦ (let top : k ≡ suc n = omega (arith, fits, t.1) in ap judged top ∙ is ∙ sym t.0)
      | inr f ↦ below (omega (arith, f.1))
    ]

    not_before : judged n ≡ false → (k : ℕ) → k ≤ n → judged k ≡ nat_le (suc n) k
    not_before none k fits = elim (leb_tells (suc n) k) [
      | inl t ↦ absurd (let above = t.1 in omega (arith, fits, above))
      | inr f ↦ by_value (judged k) refl ∙ sym f.0
    ]
      where
        by_value : (b : Bool) → judged k ≡ b → judged k ≡ false
        by_value true at = absurd (let e : false ≡ true = sym none ∙ on k n fits (omega arith) at in cc)
        by_value false at = at

    by_test : (judged n ≡ true → (place : ℕ) × (place ≤ n) × ((k : ℕ) → k ≤ n → judged k ≡ nat_le place k)) → (b : Bool) → judged n ≡ b
        → (place : ℕ) × (place ≤ suc n) × ((k : ℕ) → k ≤ suc n → judged k ≡ nat_le place k)
    by_test lower true at =
        let w = lower at in (
          w.0,
          (let fits = w.1 in omega (arith, fits)),
          λ k fits. elim (leb_tells (suc n) k) [
            | inl t ↦
                let top : k ≡ suc n = omega (arith, fits, t.1) in
                let low = w.1 in
                let above : nat_le w.0 (suc n) ≡ true = yes w.0 (suc n) (omega (arith, low)) in
                ap judged top ∙ is ∙ sym (ap (nat_le w.0) top ∙ above)
            | inr f ↦ w.2 k (omega (arith, f.1))
          ],
        )
      where
        yes : (a b : ℕ) → a ≤ b → nat_le a b ≡ true
        yes a b fits = elim (leb_tells a b) [ inl t ↦ t.0 | inr f ↦ absurd (let over = f.1 in omega (arith, fits, over)) ]
    by_test lower false at = (suc n, omega arith, λ k fits. at_or_below k fits (not_before at k))

-- a longer front is a shorter one and more
longer_front : (bytes : List ℕ) (a b : ℕ) → a ≤ b → b ≤ length bytes
    → (more : List ℕ) × (take b bytes ≡ take a bytes ++ more)
longer_front bytes zero b less fits = (take b bytes, refl)
longer_front [] (suc a) b less fits = absurd (omega (arith, less, fits))
longer_front (x ∷ xs) (suc a) zero less fits = absurd (omega (arith, less))
longer_front (x ∷ xs) (suc a) (suc b) less fits =
    let w = longer_front xs a b (omega (arith, less)) (omega (arith, fits)) in (w.0, ap (λ (l : List ℕ). x ∷ l) w.1)

front_all : (bytes : List ℕ) → take (length bytes) bytes ≡ bytes
front_all [] = refl
front_all (x ∷ xs) = ap (λ (l : List ℕ). x ∷ l) (front_all xs)

pub begins_at : (judged : List ℕ → Bool) (bytes : List ℕ)
    → ((front more : List ℕ) → judged front ≡ true → judged (front ++ more) ≡ true) → judged bytes ≡ true
    → (place : ℕ) × BeginsAt judged bytes place
begins_at judged bytes on is =
    let w = from_least (λ k. judged (take k bytes)) (length bytes)
    (λ a b less fits at. (let more = longer_front bytes a b less fits in
    ap judged more.1 ∙ on (take a bytes) more.0 at))
    (ap judged (front_all bytes) ∙ is) in
    (w.0, record { within = w.1; tells = w.2 })

pub request-streams_from : RequestStreamsFrom
request-streams_from allowed bytes is = begins_at (request_streams allowed) bytes (request-streams_on allowed) is

pub response-streams_from : ResponseStreamsFrom
response-streams_from status asked_head allowed bytes is =
    begins_at (response_streams status asked_head false allowed) bytes (response-streams_on status asked_head false allowed) is

pub place-stays : PlaceStays
place-stays judged bytes more place later first second =
    let size = length-append bytes more in
    let in_first = first.within in
    let in_second = second.within in
    let at_place : judged (take place bytes) ≡ nat_le place place = first.tells place first.within in
    let as_later : judged (take place (bytes ++ more)) ≡ nat_le later place = second.tells place (omega (arith, in_first, size)) in
    let same : take place (bytes ++ more) ≡ take place bytes = take-append-le place bytes more first.within in
    let low : nat_le later place ≡ true = sym as_later ∙ ap judged same ∙ at_place ∙ reflexive place in
    let fits : later ≤ place = holds later place low in
    let at_later : judged (take later (bytes ++ more)) ≡ nat_le later later = second.tells later second.within in
    let again : take later (bytes ++ more) ≡ take later bytes = take-append-le later bytes more (omega (arith, fits, in_first)) in
    let high : nat_le place later ≡ true =
    sym (first.tells later (omega (arith, fits, in_first))) ∙ sym (ap judged again) ∙ at_later ∙ reflexive later in
    let fits_too : place ≤ later = holds place later high in
    omega (arith, fits, fits_too)
  where
    reflexive : (n : ℕ) → nat_le n n ≡ true
    reflexive n = elim (leb_tells n n) [ inl t ↦ t.0 | inr f ↦ absurd (let over = f.1 in omega (arith, over)) ]

    holds : (a b : ℕ) → nat_le a b ≡ true → a ≤ b
    holds a b is = elim (leb_tells a b) [ inl t ↦ t.1 | inr f ↦ absurd (let e : false ≡ true = sym f.0 ∙ is in cc) ]

-- ---- what was heard is the content

content_behind : {H : Type 0} (head : H) (body : Body) (f : Finish) → content_so_far (item_behind head body f) ≡ body.content
content_behind head body goes_on = refl
content_behind head body (whole trailers used) = refl
content_behind head body (fails fault) = refl

no_head : {H : Type 0} (f : Finish) (head : H) (B : Type 0) → head_in (item_before {H = H} f) ≡ Some head → B
no_head goes_on head B e = absurd (let g = e in cc)
no_head (whole trailers used) head B e = absurd (let g = e in cc)
no_head (fails fault) head B e = absurd (let g = e in cc)

request_content : (marks : List Mark) (f : Finish) (head : RequestHead) → head_in (request_told marks f) ≡ Some head
    → heard_in marks ≡ length (content_so_far (request_told marks f))
request_content [] f head e = no_head f head _ e
request_content (asks own ∷ marks) f head e = ap (λ (c : List ℕ). length c) (sym (content_behind own (body_of marks) f))
request_content (answers own ∷ marks) f head e = no_head f head _ e
request_content (begins size ∷ marks) f head e = no_head f head _ e
request_content (byte value ∷ marks) f head e = no_head f head _ e
request_content (ends ∷ marks) f head e = no_head f head _ e

response_content : (marks : List Mark) (f : Finish) (head : ResponseHead) → head_in (response_told marks f) ≡ Some head
    → heard_in marks ≡ length (content_so_far (response_told marks f))
response_content [] f head e = no_head f head _ e
response_content (asks own ∷ marks) f head e = no_head f head _ e
response_content (answers own ∷ marks) f head e = ap (λ (c : List ℕ). length c) (sym (content_behind own (body_of marks) f))
response_content (begins size ∷ marks) f head e = no_head f head _ e
response_content (byte value ∷ marks) f head e = no_head f head _ e
response_content (ends ∷ marks) f head e = no_head f head _ e

pub request-heard : RequestHeardIsContent
request-heard bytes head e = request_content _ _ head e

pub response-heard : ResponseHeardIsContent
response-heard asked_head closed bytes head e = response_content _ _ head e

-- ---- a close

body_marks : (length : Length) (closed : Bool) (bytes : List ℕ) → (body_reading length closed bytes).marks ≡ (body_reading length false bytes).marks
body_marks lengths.None closed bytes = refl
body_marks (lengths.Bytes n) closed bytes = refl
body_marks lengths.Chunked closed bytes = refl
body_marks lengths.ToClose closed bytes = refl

response_body_marks : (raw : RawHead) (used : ℕ) (says : Result Length Fault) (closed : Bool) (bytes : List ℕ)
    → (response_body raw used says closed bytes).marks ≡ (response_body raw used says false bytes).marks
response_body_marks raw used (Err fault) closed bytes = refl
response_body_marks raw used (Ok length) closed bytes =
    ap (λ (marks : List Mark). answers (response_head raw) ∷ marks) (body_marks length closed bytes)

response_marks : (at : Front) (asked_head closed : Bool) (bytes : List ℕ)
    → (response_behind at asked_head closed bytes).marks ≡ (response_behind at asked_head false bytes).marks
response_marks front.Nothing asked_head closed bytes = refl
response_marks front.TooLong asked_head closed bytes = refl
response_marks front.BadHead asked_head closed bytes = refl
response_marks (front.Stands raw used) asked_head closed bytes =
    response_body_marks raw used (response_length (code_of raw) asked_head raw.pairs) closed (drop used bytes)

-- the head that stands is told by the marks alone
head_before : {H : Type 0} (f : Finish) → head_in (item_before {H = H} f) ≡ None
head_before goes_on = refl
head_before (whole trailers used) = refl
head_before (fails fault) = refl

head_behind : {H : Type 0} (head : H) (body : Body) (f : Finish) → head_in (item_behind head body f) ≡ Some head
head_behind head body goes_on = refl
head_behind head body (whole trailers used) = refl
head_behind head body (fails fault) = refl

same_head : (marks : List Mark) (f g : Finish) → head_in (response_told marks f) ≡ head_in (response_told marks g)
same_head [] f g = head_before f ∙ sym (head_before g)
same_head (asks own ∷ marks) f g = head_before f ∙ sym (head_before g)
same_head (answers own ∷ marks) f g = head_behind own (body_of marks) f ∙ sym (head_behind own (body_of marks) g)
same_head (begins size ∷ marks) f g = head_before f ∙ sym (head_before g)
same_head (byte value ∷ marks) f g = head_before f ∙ sym (head_before g)
same_head (ends ∷ marks) f g = head_before f ∙ sym (head_before g)

pub close-nothing : CloseChangesNothing
close-nothing status asked_head closed allowed bytes =
    let own = response_reading asked_head closed bytes in
    let open_one = response_reading asked_head false bytes in
    let marks : own.marks ≡ open_one.marks = response_marks (response_front bytes) asked_head closed bytes in
    let heads = ap (λ (ms : List Mark). head_in (response_told ms own.finish)) marks ∙ same_head open_one.marks own.finish open_one.finish in
    λ i. not (has_no_body status asked_head) && streams_behind (response_says asked_head) (heads i) allowed (heard_in (marks i))
