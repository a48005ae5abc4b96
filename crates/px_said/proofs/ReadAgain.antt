-- The text of a message is read again as this message, whatever follows it.
use Rattle.std.proofs.Common.{ℕ, ◌<◌, ◌≤◌, ◌≡◌, ◌≢◌, Bool, true, List, ◌++◌, length, ap, ◌∙◌, arith}
use Rattle.std.specs.Prelude.{IsUtf8, decimal}
use Rattle.std.proofs.lemmas.Fmt.{decimal_is_IsNumeral}
use Rattle.httparse.specs.Grammar.{AllPass, is_token, is_uri_byte}
use Rattle.px_head.specs.Laws.{IsValueText}
use Rattle.px_head.specs.declared.raw.RawHead.{RawHead}
use Rattle.px_message.specs.Length.{is_framed_in_chunks, request_length, response_length}
use Rattle.px_message.specs.Settle.{Fits}
use Rattle.px_message.specs.declared.version.Version.{Version}
use Rattle.px_read.specs.Heads.{connect_method}
use Rattle.px_read.specs.Items.{complete, request_item, response_item}
use Rattle.px_read.specs.Whole.{AreReadFields}
use Rattle.px_read.specs.declared.head.RequestHead.{RequestHead}
use Rattle.px_read.specs.declared.head.ResponseHead.{ResponseHead}
use Rattle.px_write.specs.ReadBack.{one_chunk}
use Rattle.px_write.specs.Text.{body_text, version_text}
use Rattle.px_write.proofs.PlainLemmas.{request-plain}
use Rattle.px_write.proofs.ReadBackLemmas.{request_back, response_back}
use Rattle.px_said.specs.WhatWasRead.{EndsThere, IsReadable, answer_body_text, answer_head_text, head_text}
use Rattle.px_write.proofs.ReadBackLemmas.{version_back}
use Rattle.px_said.proofs.PlainTexts.{fields_plain, fields_valid, head_stands, trailers_stand}

-- ---- requests

-- a head of a request whose parts the grammar has
pub record IsPlainHead (head : RequestHead) : Type 0 where
  pub no_connect : head.method ≢ connect_method
  pub method : is_token head.method ≡ true
  pub some : 0 < length head.target
  pub bytes : AllPass is_uri_byte head.target
  pub utf8 : IsUtf8 head.target
  pub fields : AreReadFields head.fields

abbrev raw_of : RequestHead → RawHead
raw_of head = record { first = head.method; second = head.target; third = version_text head.version; pairs = head.fields }

pub request_again : (head : RequestHead) (content : List ℕ) (trailers : List (List ℕ × List ℕ)) (rest : List ℕ) → IsPlainHead head → AreReadFields trailers
    → Fits (request_length head.fields) content trailers → IsReadable (head_text head) content trailers
    → request_item ((head_text head ++ body_text head.fields content trailers) ++ rest)
    ≡ complete head (one_chunk (is_framed_in_chunks head.fields) content) trailers (length (head_text head ++ body_text head.fields content trailers))
request_again head content trailers rest plain read fits readable =
    request_back (head_text head) content rest (raw_of head) trailers plain.no_connect readable.held
    (request-plain head.method head.target head.version head.fields plain.method plain.some plain.bytes plain.utf8 (fields_valid head.fields plain.fields)
    (fields_plain head.fields plain.fields) readable.short_head)
    (trailers_stand head.fields trailers read readable.short_trailers) fits
    ∙ ap (λ (version : Version). complete (record head { version = version }) (one_chunk (is_framed_in_chunks head.fields) content) trailers
    (length (head_text head ++ body_text head.fields content trailers))) (version_back head.version)

-- ---- responses

-- a head of a response whose parts the grammar has
pub record IsPlainAnswer (head : ResponseHead) : Type 0 where
  pub least : 100 ≤ head.code
  pub most : head.code ≤ 999
  pub reason : IsValueText head.reason
  pub fields : AreReadFields head.fields

abbrev raw_answer : ResponseHead → RawHead
raw_answer head = record { first = version_text head.version; second = decimal head.code; third = head.reason; pairs = head.fields }

pub response_again : (asked_head closed : Bool) (head : ResponseHead) (content : List ℕ) (trailers : List (List ℕ × List ℕ)) (rest : List ℕ) → IsPlainAnswer head
    → AreReadFields trailers → Fits (response_length head.code asked_head head.fields) content trailers
    → IsReadable (answer_head_text head) content trailers → EndsThere asked_head head closed rest
    → response_item asked_head closed ((answer_head_text head ++ answer_body_text asked_head head content trailers) ++ rest)
    ≡ complete head (one_chunk (is_framed_in_chunks head.fields) content) trailers (length (answer_head_text head ++ answer_body_text asked_head head content trailers))
response_again asked_head closed head content trailers rest plain read fits readable ends =
    let most = plain.most in
    let same = (decimal_is_IsNumeral head.code (omega (arith, most))).1 in
    response_back asked_head closed (answer_head_text head) content rest (raw_answer head) trailers head.code same readable.held
    (head_stands head.version head.code head.reason head.fields plain.least plain.most plain.reason plain.fields readable.short_head)
    (trailers_stand head.fields trailers read readable.short_trailers) fits ends
    ∙ (λ i. complete (record head { version = version_back head.version i; code = same i }) (one_chunk (is_framed_in_chunks head.fields) content) trailers
    (length (answer_head_text head ++ answer_body_text asked_head head content trailers)))
