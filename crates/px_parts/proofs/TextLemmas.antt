-- The text of marks, and that it only grows.
use Rattle.std.proofs.Common.{ℕ, ◌≡◌, Bool, true, false, cond, List, [], ◌∷◌, ◌++◌, length, drop, refl, sym, ap, ◌∙◌, subst, append_assoc, append-nil}
use Rattle.std.specs.Prelude.{◌||◌, is_some}
use Rattle.std.proofs.lemmas.Grind.{flat_map-append}
use Rattle.std.proofs.lemmas.List.{drop-append-le}
use Rattle.std.proofs.Math.Seq.{drop-append_seam}
use Rattle.px_text.specs.Prefix.{IsPrefixOf}
use Rattle.px_message.specs.Length.{has_no_body}
use Rattle.px_read.specs.Chunks.{Finish, goes_on, whole, fails, Reading}
use Rattle.px_read.specs.Items.{Body, Item, answer_list, body_of, item_before, item_behind, request_told, response_told}
use Rattle.px_read.specs.Laws.{head_in, is_begun, is_decided}
use Rattle.px_read.specs.Marks.{Mark, asks, answers, begins, byte, ends}
use Rattle.px_read.specs.declared.head.ResponseHead.{ResponseHead}
use Rattle.px_read.proofs.AnswerLemmas.{answers_carry, answers_used}
use Rattle.px_read.proofs.GrowthLemmas.{Grows, has_ended, request_grows, response_grows}
use Rattle.px_read.proofs.LawLemmas.{chunk_laws}
use Rattle.px_read.proofs.WholeLemmas.{final-behind}
use Rattle.px_write.specs.Text.{request_head_text, response_head_text}
use Rattle.px_parts.specs.Laws.{BytesAreSent, FinalTextGrows, FinalTextStays, LeftIsAdded, RequestTextGrows, RequestTextStays, ResponseTextGrows, ResponseTextStays}
use Rattle.px_parts.specs.Texts.{behind_text, end_text, final_bytes, mark_text, marks_text, response_behind_text, response_so_far}

-- ---- marks

pub marks_both : (first second : List Mark) → marks_text (first ++ second) ≡ marks_text first ++ marks_text second
marks_both first second = flat_map-append mark_text first second

pub bytes-sent : BytesAreSent
bytes-sent [] = refl
bytes-sent (x ∷ xs) = ap (λ (text : List ℕ). x ∷ text) (bytes-sent xs)

-- ---- a text behind a head

grows_on : (fields : List (List ℕ × List ℕ)) (marks : List Mark) (after : Reading) → IsPrefixOf marks after.marks
    → IsPrefixOf (marks_text marks ++ []) (behind_text fields after)
grows_on fields marks after more =
    let last = end_text fields after.finish in (
      marks_text more.0 ++ last,
      ap (λ (ms : List Mark). marks_text ms ++ last) more.1
          ∙ ap (λ (text : List ℕ). text ++ last) (marks_both marks more.0)
          ∙ append_assoc (marks_text marks) (marks_text more.0) last
          ∙ ap (λ (text : List ℕ). text ++ (marks_text more.0 ++ last)) (sym (append-nil (marks_text marks))),
    )

grows_same : (fields : List (List ℕ × List ℕ)) (before after : Reading) → after ≡ before
    → IsPrefixOf (behind_text fields before) (behind_text fields after)
grows_same fields before after same = ([], ap (behind_text fields) same ∙ sym (append-nil (behind_text fields before)))

grows_by : (fields : List (List ℕ × List ℕ)) (marks : List Mark) (finish : Finish) (after : Reading)
    → Grows (record { marks = marks; finish = finish }) after
    → IsPrefixOf (behind_text fields (record { marks = marks; finish = finish })) (behind_text fields after)
grows_by fields marks goes_on after grows = grows_on fields marks after grows.marks
grows_by fields marks (whole trailers used) after grows = grows_same fields _ after (grows.stays refl)
grows_by fields marks (fails fault) after grows = grows_same fields _ after (grows.stays refl)

pub behind-grows : (fields : List (List ℕ × List ℕ)) (before after : Reading) → Grows before after
    → IsPrefixOf (behind_text fields before) (behind_text fields after)
behind-grows fields before after grows = grows_by fields before.marks before.finish after grows

-- the same head in front of both
behind_head : (head text later : List ℕ) → IsPrefixOf text later → IsPrefixOf (head ++ text) (head ++ later)
behind_head head text later more =
    (more.0, ap (λ (t : List ℕ). head ++ t) more.1 ∙ sym (append_assoc head text more.0))

-- ---- what is decided has ended

ended_behind : {H : Type 0} (head : H) (body : Body) (f : Finish) → is_decided (item_behind head body f) ≡ true → has_ended f ≡ true
ended_behind head body goes_on e = e
ended_behind head body (whole trailers used) e = refl
ended_behind head body (fails fault) e = refl

ended_before : (H : Type 0) (f : Finish) → is_decided (item_before {H = H} f) ≡ true → has_ended f ≡ true
ended_before H goes_on e = e
ended_before H (whole trailers used) e = refl
ended_before H (fails fault) e = refl

request_ended : (marks : List Mark) (f : Finish) → is_decided (request_told marks f) ≡ true → has_ended f ≡ true
request_ended [] f e = ended_before _ f e
request_ended (asks head ∷ marks) f e = ended_behind head (body_of marks) f e
request_ended (answers head ∷ marks) f e = ended_before _ f e
request_ended (begins size ∷ marks) f e = ended_before _ f e
request_ended (byte value ∷ marks) f e = ended_before _ f e
request_ended (ends ∷ marks) f e = ended_before _ f e

response_ended : (marks : List Mark) (f : Finish) → is_decided (response_told marks f) ≡ true → has_ended f ≡ true
response_ended [] f e = ended_before _ f e
response_ended (asks head ∷ marks) f e = ended_before _ f e
response_ended (answers head ∷ marks) f e = ended_behind head (body_of marks) f e
response_ended (begins size ∷ marks) f e = ended_before _ f e
response_ended (byte value ∷ marks) f e = ended_before _ f e
response_ended (ends ∷ marks) f e = ended_before _ f e

-- ---- requests

pub request_text-grows : RequestTextGrows
request_text-grows sent form bytes more =
    behind_head (request_head_text sent form) _ _ (behind-grows sent.fields _ _ (request_grows chunk_laws bytes more))

pub request_text-stays : RequestTextStays
request_text-stays sent form bytes more decided =
    ap (λ (reading : Reading). request_head_text sent form ++ behind_text sent.fields reading)
    ((request_grows chunk_laws bytes more).stays (request_ended _ _ decided))

-- ---- responses

response_grows_by : (fields : List (List ℕ × List ℕ)) (none : Bool) (before after : Reading) → Grows before after
    → IsPrefixOf (cond none [] (behind_text fields before)) (cond none [] (behind_text fields after))
response_grows_by fields true before after grows = ([], refl)
response_grows_by fields false before after grows = behind-grows fields before after grows

pub response_text-grows : ResponseTextGrows
response_text-grows sent asked_head closed bytes more =
    behind_head (response_head_text sent) _ _
    (response_grows_by sent.fields (has_no_body sent.status asked_head) _ _ (response_grows chunk_laws asked_head closed bytes more))

pub response_text-stays : ResponseTextStays
response_text-stays sent asked_head closed bytes more decided =
    ap (λ (reading : Reading). response_head_text sent ++ response_behind_text sent asked_head reading)
    ((response_grows chunk_laws asked_head closed bytes more).stays (response_ended _ _ decided))

-- ---- final ones

-- more bytes are more of the final one
final_more : (asked_head closed : Bool) (bytes more : List ℕ) → is_begun (answer_list asked_head false bytes).final ≡ true
    → final_bytes asked_head closed (bytes ++ more) ≡ final_bytes asked_head false bytes ++ more
final_more asked_head closed bytes more begun =
    let used = (answer_list asked_head false bytes).used in
    ap (λ (n : ℕ). drop n (bytes ++ more)) ((answers_carry chunk_laws asked_head closed bytes more).begun begun).1
    ∙ drop-append-le used bytes more (answers_used chunk_laws (length bytes) asked_head false bytes).used

pub final_text-grows : FinalTextGrows
final_text-grows sent asked_head closed bytes more begun =
    subst (λ (b : List ℕ). IsPrefixOf (response_so_far sent asked_head false (final_bytes asked_head false bytes)) (response_so_far sent asked_head closed b))
    (sym (final_more asked_head closed bytes more begun))
    (response_text-grows sent asked_head closed (final_bytes asked_head false bytes) more)

or_true : (b : Bool) → (b || true) ≡ true
or_true true = refl
or_true false = refl

pub final_text-stays : FinalTextStays
final_text-stays sent asked_head closed bytes more decided =
    let final = (answer_list asked_head false bytes).final in
    let begun : is_begun final ≡ true = ap (λ (b : Bool). is_some (head_in final) || b) decided ∙ or_true (is_some (head_in final)) in
    ap (λ (b : List ℕ). response_so_far sent asked_head closed b) (final_more asked_head closed bytes more begun)
    ∙ response_text-stays sent asked_head closed (final_bytes asked_head false bytes) more
    (ap (λ (item : Item ResponseHead). is_decided item) (sym (final-behind asked_head false bytes)) ∙ decided)

-- ---- what is sent next

pub left-added : LeftIsAdded
left-added told text later more within =
    ap (λ (l : List ℕ). drop told text ++ drop (length text) l) more.1
    ∙ ap (λ (l : List ℕ). drop told text ++ l) (drop-append_seam text more.0)
    ∙ sym (ap (λ (l : List ℕ). drop told l) more.1 ∙ drop-append-le told text more.0 within)
