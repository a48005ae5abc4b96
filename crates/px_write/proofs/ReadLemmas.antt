-- A message that was read is plain, and settling changes nothing of it: so what is written of it is read as it was.
use Rattle.std.proofs.Common.{ℕ, Bool, List, sym, subst}
use Rattle.std.proofs.lemmas.List.Elements.{All-weaker}
use Rattle.px_head.specs.Laws.{IsPair, IsValueText}
use Rattle.px_message.specs.declared.request.Request.{Request}
use Rattle.px_message.specs.declared.response.Response.{Response}
use Rattle.px_read.specs.Whole.{AreReadFields}
use Rattle.px_read.proofs.ValidLemmas.{request-valid, response-valid}
use Rattle.px_read.proofs.WholeLemmas.{read_request-stays, read_request-whole, read_response-stays, read_response-whole}
use Rattle.px_write.specs.ReadBack.{ArePlain, IsPlainField, IsRequestText, IsResponseText, IsResponseTextAtClose, PlainRequestStands, PlainResponseStands, PlainTrailersStand, ReadRequestReadsBack, ReadResponseReadsBack, WholeRequestReadsBack, WholeResponseReadsBack}
use Rattle.px_write.specs.Text.{request_text, response_text}
use Rattle.px_write.specs.declared.form.Form.{Form}
use Rattle.px_write.proofs.TargetPathLemmas.{target_path-text}

plain_pair : (field : List ℕ × List ℕ) → IsPair field → IsPlainField field
plain_pair field pair = (pair.1.bytes, pair.2)

plain_fields : (fields : List (List ℕ × List ℕ)) → AreReadFields fields → ArePlain fields
plain_fields fields read = (All-weaker IsPair IsPlainField plain_pair fields read.pairs, read.few)

pub read_request-back : (request : Request) (form : Form) → PlainRequestStands request form → PlainTrailersStand request.trailers
    → WholeRequestReadsBack request form → ReadRequestReadsBack request form
read_request-back request form stands trailers_stand back bytes read says head_fits trailers_fit =
    let valid = request-valid bytes read.head read.body request.trailers read.used read.whole in
    let fields : AreReadFields request.fields = subst AreReadFields (sym read.fields) valid.1 in
    let text = target_path-text request.method read.head.target request.path says valid.0.1 in
    let as_it_is : IsRequestText (request_text request form) request form =
    back (read_request-whole bytes request read) (stands text (plain_fields request.fields fields) head_fits)
    (trailers_stand (plain_fields request.trailers valid.2) trailers_fit request.fields) in
    subst (λ (r : Request). IsRequestText (request_text r form) request form) (sym (read_request-stays bytes request read)) as_it_is

pub read_response-back : (asked_head : Bool) (response : Response) → PlainResponseStands response → PlainTrailersStand response.trailers
    → WholeResponseReadsBack asked_head response → ReadResponseReadsBack asked_head response
read_response-back asked_head response stands trailers_stand back shut bytes read head_fits trailers_fit =
    let valid = response-valid asked_head shut bytes read.head read.body response.trailers read.used read.whole in
    let fields : AreReadFields response.fields = subst AreReadFields (sym read.fields) valid.1 in
    let reason : IsValueText response.reason = subst IsValueText (sym read.reason) valid.0 in
    let head = stands reason.bytes (plain_fields response.fields fields) head_fits in
    let trailers = trailers_stand (plain_fields response.trailers valid.2) trailers_fit response.fields in
    let both = back (read_response-whole asked_head shut bytes response read) in
    let same = sym (read_response-stays asked_head shut bytes response read) in (
      λ by_itself. subst (λ (r : Response). IsResponseText asked_head (response_text r asked_head) response) same (both.0 head trailers by_itself),
      subst (λ (r : Response). IsResponseTextAtClose asked_head (response_text r asked_head) response) same (both.1 head trailers),
    )
