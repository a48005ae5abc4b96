-- The text of a message that is streamed says the message that was read, as far as it came.
use Rattle.std.proofs.Common.{inl, inr, ℕ, ◌<◌, ◌^◌, ◌≡◌, true, List, ◌++◌, length, refl, sym, ap, ◌∙◌, subst, arith, Some, append-nil}
use Rattle.px_message.specs.Settle.{StreamedStays, settled_streamed}
use Rattle.px_message.specs.declared.request.Request.{Request}
use Rattle.px_message.specs.declared.response.Response.{Response}
use Rattle.px_read.specs.Items.{complete, request_item, response_item}
use Rattle.px_read.specs.Laws.{head_in}
use Rattle.px_read.specs.declared.head.RequestHead.{RequestHead}
use Rattle.px_read.specs.declared.head.ResponseHead.{ResponseHead}
use Rattle.px_read.proofs.ValidLemmas.{response-valid}
use Rattle.px_write.specs.ReadBack.{RequestHeadStands, ResponseHeadStands, TrailersStand}
use Rattle.px_write.proofs.PlainLemmas.{request-plain}
use Rattle.px_exchange.specs.Flows.{response_of}
use Rattle.px_exchange.specs.Places.{form_at}
use Rattle.px_exchange.specs.Requests.{fields_asked, is_head, judged, request_of}
use Rattle.px_exchange.specs.declared.asked.Judged.TheVariants.{Accepted}
use Rattle.px_exchange.specs.declared.place.Place.{Place}
use Rattle.px_parts.specs.Texts.{final_bytes, request_so_far, response_so_far}
use Rattle.px_parts.proofs.ReadBackLemmas.{request-same, response-same}
use Rattle.px_chain.specs.Going.{going_by}
use Rattle.px_said.specs.ClosedForm.{Told}
use Rattle.px_said.specs.Lines.{streamed_request, text_down}
use Rattle.px_said.specs.WhatCame.{StreamsRequest, StreamsResponse}
use Rattle.px_said.specs.WhatWasRead.{sent_head}
use Rattle.px_write.specs.Text.{target_text}
use Rattle.px_said.proofs.ClosedItems.{no_tunnel}
use Rattle.px_said.proofs.PartsRead.{response_parts}
use Rattle.px_said.proofs.PlainTexts.{fields_plain, fields_valid, head_stands, trailers_stand}
use Rattle.px_said.proofs.SaysRequests.{IsAccepted, accepted, fields_as_asked, framing_sent, plain, target_kept, valid}

-- ---- requests

module _ (stays : StreamedStays) (place : Place) (head : RequestHead) (made : Request) (is : judged place head ≡ Accepted made) where
  abbrev goes : IsAccepted place head made
  goes = accepted place head made is

  abbrev target : List ℕ
  target = target_text (form_at place) goes.address.host goes.address.port goes.path

  abbrev sent : RequestHead
  sent = sent_head head target

  -- as it goes up, with these fields
  abbrev going : List (List ℕ × List ℕ) → Request
  going fields = record (streamed_request (request_of goes.address head goes.path goes.no_connect)) { fields = fields }

  framed : settled_streamed head.fields (fields_asked head) ≡ sent.fields
  framed =
      ap (settled_streamed head.fields) (fields_as_asked head.version head.fields)
      ∙ stays head.fields sent.fields (framing_sent head.version head.fields)

  text_is : (bytes : List ℕ) → head_in (request_item bytes) ≡ Some head →
      going_by (head_in (request_item bytes)) (streamed_request made) (form_at place) bytes ≡ request_so_far (going sent.fields) (form_at place) bytes
  text_is bytes there =
      ap (λ h. going_by h (streamed_request made) (form_at place) bytes) there
      ∙ (ap (λ (r : Request). going_by (Some head) (streamed_request r) (form_at place) bytes) (sym goes.is)
      ∙ ap (λ f. request_so_far (going f) (form_at place) bytes) framed)

  pub streams_request : (bytes : List ℕ) → head_in (request_item bytes) ≡ Some head →
      StreamsRequest place (going_by (head_in (request_item bytes)) (streamed_request made) (form_at place) bytes) head bytes
  streams_request bytes there = record {
    target = target;
    keeps = target_kept place head.method head.target goes.address goes.path goes.no_connect goes.goal;
    is = text_is bytes there;
    reads = λ body trailers used whole readable rest.
        let parts = plain place bytes head body trailers used whole goes.address goes.path goes.no_connect goes.goal in
        let read = valid place bytes head body trailers used whole goes.address goes.path goes.no_connect goes.goal in
        let stands : RequestHeadStands (going sent.fields) (form_at place) =
        request-plain head.method target head.version sent.fields parts.method parts.some parts.bytes parts.utf8 (fields_valid sent.fields parts.fields) (fields_plain sent.fields parts.fields)
        readable.short_head in
        let trailing : TrailersStand sent.fields trailers = trailers_stand sent.fields trailers read.2 readable.short_trailers in
        let P : List ℕ → Type 0 = λ text. request_item (text ++ rest) ≡ complete sent body trailers (length text) in
        subst P (sym (text_is bytes there))
        (request-same (going sent.fields) (form_at place) bytes head body trailers used whole
        (record { fields = framing_sent head.version head.fields; no_tunnel = no_tunnel place head made is }) stands trailing rest);
  }

-- ---- responses

module _ (stays : StreamedStays) (head : ResponseHead) where
  -- as it comes down, with these fields
  abbrev coming : List (List ℕ × List ℕ) → Response
  coming fields = record (response_of head) { fields = fields }

  framed_down : settled_streamed head.fields head.fields ≡ head.fields
  framed_down = stays head.fields head.fields refl

  pub streams_response : (request : Request) (told : Told) →
      StreamsResponse (is_head request.method) (text_down request told (Some head)) told.shut head (final_bytes (is_head request.method) told.shut told.bytes)
  streams_response request told =
      let asked_head = is_head request.method in
      let bytes = final_bytes asked_head told.shut told.bytes in
      let text_so : text_down request told (Some head) ≡ response_so_far (response_of head) asked_head told.shut bytes =
      ap (λ f. response_so_far (coming f) asked_head told.shut bytes) framed_down in
      record {
        is = text_so;
        reads = λ body trailers used whole readable shut rest ends.
            let parts = response_parts asked_head told.shut bytes head body trailers used whole in
            let read = response-valid asked_head told.shut bytes head body trailers used whole in
            let most = parts.most in
            let small : head.code < 2 ^ 64 = omega (arith, most) in
            let stands : ResponseHeadStands (response_of head) =
            head_stands head.version head.code head.reason head.fields parts.least parts.most parts.reason parts.fields readable.short_head in
            let both = response-same asked_head (response_of head) small told.shut bytes head body trailers used whole
            (record { fields = refl; body = refl }) stands (trailers_stand head.fields trailers read.2 readable.short_trailers) in
            let text = response_so_far (response_of head) asked_head told.shut bytes in
            let P : List ℕ → Type 0 = λ t. response_item asked_head shut (t ++ rest) ≡ complete head body trailers (length t) in
            let there : P text = elim ends [
              | inl by_itself ↦ both.0 by_itself shut rest
              | inr closed ↦
                  ap (λ b. response_item asked_head b (text ++ rest)) closed.0
                  ∙ (ap (λ r. response_item asked_head true (text ++ r)) closed.1
                  ∙ (ap (λ t. response_item asked_head true t) (append-nil text) ∙ both.1))
            ] in
            subst P (sym text_so) there;
      }
