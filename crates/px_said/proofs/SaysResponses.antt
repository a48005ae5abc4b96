-- The text that is sent of a response says the response that was read.
use Rattle.std.proofs.Common.{ℕ, ◌≡◌, ◌==◌, ◌&&◌, Bool, true, false, not, List, [], ◌++◌, length, refl, sym, ap, ◌∙◌, subst, arith, Ok, append-nil}
use Rattle.std.specs.Prelude.{◌/◌, if◌then◌else◌}
use Rattle.std.proofs.lemmas.List.Elements.{All-nil}
use Rattle.px_head.specs.Laws.{IsPair}
use Rattle.px_message.specs.Length.{framed_length, has_no_body, is_framed_in_chunks, response_length}
use Rattle.px_message.specs.Settle.{Fits, settled_response}
use Rattle.px_message.specs.declared.length.Length.TheVariants as lengths
use Rattle.px_message.specs.declared.response.Response.{Response}
use Rattle.px_read.specs.Heads.{is_interim}
use Rattle.px_read.specs.Items.{Body, complete, no_body, response_item}
use Rattle.px_read.specs.Whole.{AreReadFields, IsReadResponse}
use Rattle.px_read.specs.declared.head.ResponseHead.{ResponseHead}
use Rattle.px_read.proofs.ValidLemmas.{response-valid}
use Rattle.px_read.proofs.WholeLemmas.{read_response-stays, response-fits}
use Rattle.px_write.specs.ReadBack.{one_chunk}
use Rattle.px_write.specs.Text.{body_text, response_text}
use Rattle.px_said.specs.ClosedForm.{whole_response}
use Rattle.px_said.specs.WhatWasRead.{SaysResponse, answer_body_text, answer_head_text}
use Rattle.px_said.proofs.PartsRead.{IsInterimRead, response_parts}
use Rattle.px_said.proofs.ReadAgain.{response_again}

-- ---- final responses

module _ (asked_head closed : Bool) (bytes : List ℕ) (head : ResponseHead) (body : Body) (trailers : List (List ℕ × List ℕ)) (used : ℕ) where
  module _ (whole : response_item asked_head closed bytes ≡ complete head body trailers used) where
    abbrev response : Response
    response = whole_response head body trailers

    was_read : IsReadResponse asked_head closed bytes response
    was_read = record {
      head = head;
      body = body;
      used = used;
      whole = whole;
      version = refl;
      status = refl;
      reason = refl;
      fields = refl;
      content = refl;
    }

    written : response_text (settled_response asked_head response) asked_head ≡ answer_head_text head ++ answer_body_text asked_head head body.content trailers
    written = ap (λ (r : Response). response_text r asked_head) (read_response-stays asked_head closed bytes response was_read)

    pub final_says : SaysResponse asked_head (response_text (settled_response asked_head response) asked_head) head body trailers
    final_says = record {
      bytes = written;
      reads = λ readable shut rest ends.
          let valid = response-valid asked_head closed bytes head body trailers used whole in
          let again = response_again asked_head shut head body.content trailers rest (response_parts asked_head closed bytes head body trailers used whole)
          valid.2 (response-fits asked_head closed bytes head body trailers used whole) readable ends in
          subst (λ (text : List ℕ). response_item asked_head shut (text ++ rest)
          ≡ complete head (one_chunk (is_framed_in_chunks head.fields) body.content) trailers (length text)) (sym written) again;
    }

-- ---- interim responses

first_true : (a b : Bool) → (a && b) ≡ true → a ≡ true
first_true true b h = refl
first_true false b h = absurd (let e = h in cc)

-- an interim response has no body
bare : (head : ResponseHead) → is_interim head ≡ true → has_no_body head.code false ≡ true
bare head is =
    let hundred = first_true (head.code / 100 == 1) (not (head.code == 101)) is in rw hundred refl

no_fields : AreReadFields []
no_fields = record { pairs = All-nil IsPair; few = omega arith }

pub interim_says : (head : ResponseHead) → IsInterimRead head → SaysResponse false (answer_head_text head) head no_body []
interim_says head read =
    let none = bare head read.interim in
    let written : answer_head_text head ≡ answer_head_text head ++ answer_body_text false head [] [] =
    sym (append-nil (answer_head_text head))
    ∙ ap (λ (b : Bool). answer_head_text head ++ (if b then [] else body_text head.fields [] [])) (sym none) in
    let fits : Fits (response_length head.code false head.fields) [] [] =
    subst (λ (b : Bool). Fits (if b then Ok lengths.None else framed_length head.fields) [] []) (sym none) (refl, refl) in
    record {
      bytes = written;
      reads = λ readable closed rest ends.
          subst (λ (text : List ℕ). response_item false closed (text ++ rest)
          ≡ complete head (one_chunk (is_framed_in_chunks head.fields) []) [] (length text)) (sym written)
          (response_again false closed head [] [] rest read.plain no_fields fits readable ends);
    }
