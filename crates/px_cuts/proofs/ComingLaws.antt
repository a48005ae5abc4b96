-- Of a response that is whole or refused nothing more is told, whatever follows: whether it is streamed, its text, and whether it is
-- whole. And one that is streamed stays so.
use Rattle.std.proofs.Common.{◌≡◌, ℕ, Bool, true, false, List, ◌++◌, drop, length, Option, Some, None, refl, ap, sym, ◌∙◌}
use Rattle.std.specs.Prelude.{◌||◌, ◌&&◌, not, is_some, Result}
use Rattle.std.proofs.lemmas.List.{drop-append-le}
use Rattle.px_message.specs.declared.fault.Fault.{Fault}
use Rattle.px_message.specs.declared.length.Length.{Length}
use Rattle.px_message.specs.declared.request.Request.{Request}
use Rattle.px_message.specs.declared.response.Response.{Response}
use Rattle.px_message.specs.Length.{has_no_body}
use Rattle.px_read.specs.Items.{Item, answer_list, response_item}
use Rattle.px_read.specs.Laws.{head_in, is_begun, is_decided}
use Rattle.px_read.specs.Readings.{response_reading}
use Rattle.px_read.specs.declared.head.ResponseHead.{ResponseHead}
use Rattle.px_read.proofs.AnswerLemmas.{answers_carry, answers_used}
use Rattle.px_read.proofs.ItemLemmas.{response_carries}
use Rattle.px_read.proofs.LawLemmas.{chunk_laws}
use Rattle.px_read.proofs.WholeLemmas.{final-behind}
use Rattle.px_exchange.specs.Requests.{is_head}
use Rattle.px_parts.specs.Streamed.{content_so_far, heard_in, response_says, response_streams, streams_behind}
use Rattle.px_parts.specs.Texts.{final_bytes}
use Rattle.px_parts.proofs.StreamedLemmas.{response-heard, response-streams_on}
use Rattle.px_parts.proofs.TextLemmas.{final_text-stays}
use Rattle.px_chain.specs.Coming.{came_by, coming_by, framed_as, streams_by}

-- ---- one that has begun

or_true : (b : Bool) → (b || true) ≡ true
or_true true = refl
or_true false = refl

pub decided_begun : {H : Type 0} (item : Item H) → is_decided item ≡ true → is_begun item ≡ true
decided_begun item decided = ap (λ b. is_some (head_in item) || b) decided ∙ or_true (is_some (head_in item))

headed_begun : {H : Type 0} (item : Item H) → is_some (head_in item) ≡ true → is_begun item ≡ true
headed_begun item headed = ap (λ b. b || is_decided item) headed

-- more bytes are more of it
final_more : (asked_head : Bool) (bytes more : List ℕ) → is_begun (answer_list asked_head false bytes).final ≡ true →
    final_bytes asked_head false (bytes ++ more) ≡ final_bytes asked_head false bytes ++ more
final_more asked_head bytes more begun =
    let used = (answer_list asked_head false bytes).used in
    ap (λ n. drop n (bytes ++ more)) ((answers_carry chunk_laws asked_head false bytes more).begun begun).1
    ∙ drop-append-le used bytes more (answers_used chunk_laws (length bytes) asked_head false bytes).used

-- ---- whether it is streamed

module _ (asked_head : Bool) (allowed : Option ℕ) (bytes more : List ℕ) where
  abbrev item : Item ResponseHead
  item = response_item asked_head false bytes

  abbrev later : Item ResponseHead
  later = response_item asked_head false (bytes ++ more)

  judged_by : (head : Option ResponseHead) → head_in item ≡ head → head_in later ≡ head → later ≡ item →
      streams_behind (response_says asked_head) (head_in later) allowed (heard_in (response_reading asked_head false (bytes ++ more)).marks)
      ≡ streams_behind (response_says asked_head) (head_in item) allowed (heard_in (response_reading asked_head false bytes).marks)
  judged_by None is there same = rw (is, there) refl
  judged_by (Some head) is there same =
      let heard : ℕ = heard_in (response_reading asked_head false bytes).marks in
      let heard_later : ℕ = heard_in (response_reading asked_head false (bytes ++ more)).marks in
      let count : heard_later ≡ heard =
      response-heard asked_head false (bytes ++ more) head there
      ∙ (ap (λ i. length (content_so_far i)) same ∙ sym (response-heard asked_head false bytes head is)) in
      ap (λ h. streams_behind (response_says asked_head) h allowed heard_later) there
      ∙ (ap (λ n. streams_behind (response_says asked_head) (Some head) allowed n) count
      ∙ sym (ap (λ h. streams_behind (response_says asked_head) h allowed heard) is))

  response_same : (status : ℕ) → later ≡ item → response_streams status asked_head false allowed (bytes ++ more) ≡ response_streams status asked_head false allowed bytes
  response_same status same = ap (λ b. not (has_no_body status asked_head) && b) (judged_by (head_in item) refl (ap (λ i. head_in i) same) same)

last_holds : (a b : Bool) → (a && b) ≡ true → b ≡ true
last_holds true b is = is
last_holds false b is = absurd (let e : false ≡ true = is in cc)

has_head : (says : ResponseHead → Result Length Fault) (head : Option ResponseHead) (allowed : Option ℕ) (heard : ℕ) → streams_behind says head allowed heard ≡ true →
    is_some head ≡ true
has_head says None allowed heard is = absurd (let e : false ≡ true = is in cc)
has_head says (Some head) allowed heard is = refl

-- one that is streamed has begun
streamed_begun : (status : ℕ) (asked_head : Bool) (allowed : Option ℕ) (bytes : List ℕ) →
    response_streams status asked_head false allowed (final_bytes asked_head false bytes) ≡ true → is_begun (answer_list asked_head false bytes).final ≡ true
streamed_begun status asked_head allowed bytes is =
    headed_begun (answer_list asked_head false bytes).final
    (ap (λ i. is_some (head_in i)) (final-behind asked_head false bytes)
    ∙ has_head (response_says asked_head) (head_in (response_item asked_head false (final_bytes asked_head false bytes))) allowed _
    (last_holds (not (has_no_body status asked_head)) _ is))

-- With more bytes a response that is streamed stays so.
pub streams_on : (given : Option Response) (message : Request) (allowed : Option ℕ) (bytes more : List ℕ) → streams_by given message allowed false bytes ≡ true →
    streams_by given message allowed false (bytes ++ more) ≡ true
streams_on None message allowed bytes more is = absurd (let e : false ≡ true = is in cc)
streams_on (Some response) message allowed bytes more is =
    let asked_head : Bool = is_head message.method in
    ap (λ b. response_streams response.status asked_head false allowed b) (final_more asked_head bytes more (streamed_begun response.status asked_head allowed bytes is))
    ∙ response-streams_on response.status asked_head false allowed (final_bytes asked_head false bytes) more is

-- ---- one that is whole or refused

module _ (message : Request) (bytes more : List ℕ) where
  module _ (decided : is_decided (answer_list (is_head message.method) false bytes).final ≡ true) where
    pub final_same : (answer_list (is_head message.method) false (bytes ++ more)).final ≡ (answer_list (is_head message.method) false bytes).final
    final_same = (answers_carry chunk_laws (is_head message.method) false bytes more).final.stays decided

    item_same : response_item (is_head message.method) false (final_bytes (is_head message.method) false bytes ++ more)
        ≡ response_item (is_head message.method) false (final_bytes (is_head message.method) false bytes)
    item_same =
        (response_carries chunk_laws (is_head message.method) false (final_bytes (is_head message.method) false bytes) more).stays
        (ap (λ i. is_decided i) (sym (final-behind (is_head message.method) false bytes)) ∙ decided)

    pub streams_stay : (given : Option Response) (allowed : Option ℕ) → streams_by given message allowed false (bytes ++ more) ≡ streams_by given message allowed false bytes
    streams_stay None allowed = refl
    streams_stay (Some response) allowed =
        let begun = decided_begun (answer_list (is_head message.method) false bytes).final decided in
        ap (λ b. response_streams response.status (is_head message.method) false allowed b) (final_more (is_head message.method) bytes more begun)
        ∙ response_same (is_head message.method) allowed (final_bytes (is_head message.method) false bytes) more response.status item_same

    text_by : (response : Response) (head : Option ResponseHead) → coming_by (Some response) head message false (bytes ++ more) ≡ coming_by (Some response) head message false bytes
    text_by response None = refl
    text_by response (Some head) = final_text-stays (framed_as head response) (is_head message.method) false bytes more decided

    pub text_stays : (given : Option Response) →
        coming_by given (head_in (answer_list (is_head message.method) false (bytes ++ more)).final) message false (bytes ++ more)
        ≡ coming_by given (head_in (answer_list (is_head message.method) false bytes).final) message false bytes
    text_stays None = refl
    text_stays (Some response) =
        ap (λ i. coming_by (Some response) (head_in i) message false (bytes ++ more)) final_same
        ∙ text_by response (head_in (answer_list (is_head message.method) false bytes).final)

    pub came_stays : (given : Option Response) →
        came_by given (answer_list (is_head message.method) false (bytes ++ more)).final ≡ came_by given (answer_list (is_head message.method) false bytes).final
    came_stays given = ap (λ i. came_by given i) final_same
