-- The text that is sent of a request says the request that was read.
use Rattle.std.proofs.Common.{ℕ, ◌<◌, ◌≡◌, ◌≢◌, ◌==◌, ◌&&◌, Bool, true, false, not, filter, List, ◌++◌, length, refl, sym, ap, ◌∙◌, subst, arith, Option, Some, None, Result, Ok, Err}
use Rattle.std.specs.Prelude.{bytes_eq, if◌then◌else◌, IsUtf8}
use Rattle.std.specs.List.{list_any}
use Rattle.std.proofs.lemmas.List.Elements.{All-filter}
use Rattle.std.proofs.lemmas.List.Sums.{count_by-le-length, length-filter}
use Rattle.httparse.specs.Grammar.{AllPass, is_token, is_uri_byte}
use Rattle.px_head.specs.Laws.{IsPair}
use Rattle.px_message.specs.Length.{is_framed_in_chunks, request_length}
use Rattle.px_message.specs.Settle.{Fits, framing, settled_request}
use Rattle.px_message.specs.Target.{Form, absolute, asterisk, authority, origin, target_form}
use Rattle.px_message.specs.declared.address.Address.{Address}
use Rattle.px_message.specs.declared.fault.Fault.{Fault}
use Rattle.px_message.specs.declared.fault.Fault.TheVariants.{BadTarget}
use Rattle.px_message.specs.declared.length.Length.{Length}
use Rattle.px_message.specs.declared.request.Request.{Request}
use Rattle.px_message.specs.declared.version.Version.{Version}
use Rattle.px_message.specs.declared.version.Version.TheVariants.{Http10, Http11}
use Rattle.px_message.proofs.SettleLemmas.{whole_request-stays}
use Rattle.px_read.specs.Heads.{connect_method}
use Rattle.px_read.specs.Items.{Body, complete, request_item}
use Rattle.px_read.specs.Whole.{AreReadFields}
use Rattle.px_read.specs.declared.head.RequestHead.{RequestHead}
use Rattle.px_read.proofs.ConnectLemmas.{length_by_fields}
use Rattle.px_read.proofs.ValidLemmas.{request-valid}
use Rattle.px_read.proofs.WholeLemmas.{request-fits}
use Rattle.px_write.specs.ReadBack.{one_chunk}
use Rattle.px_write.specs.TargetPath.{path_said}
use Rattle.px_write.specs.Text.{body_text, chunk_text, fields_text, last_chunk_text, request_line, request_text, target_text, version_text}
use Rattle.px_write.specs.declared.form.Form.TheVariants.{Absolute}
use Rattle.px_write.proofs.TargetLemmas.{absolute-back}
use Rattle.px_write.proofs.TargetPathLemmas.{target_path-text}
use Rattle.px_write.proofs.TargetTextLemmas.{target_plain}
use Rattle.px_exchange.specs.Places.{form_at}
use Rattle.px_exchange.specs.Requests.{address_with, fields_asked, goal_at, goal_in, is_expectation, is_http11, judged, judged_goal, judged_length, judged_method, request_of, unless_met, with_path}
use Rattle.px_exchange.specs.Texts.{onward_text}
use Rattle.px_exchange.specs.declared.asked.Judged.TheVariants.{Refused, Accepted}
use Rattle.px_exchange.specs.declared.place.Place.{Place}
use Rattle.px_exchange.specs.declared.place.Place.TheVariants as places
use Rattle.px_said.specs.ClosedForm.{whole_request}
use Rattle.px_said.specs.WhatWasRead.{KeepsTarget, SaysRequest, head_text, is_met, sent_head}
use Rattle.px_said.proofs.ClosedItems.{no_tunnel}
use Rattle.px_said.proofs.KeptFields.{all_kept, framed_kept, framing_kept, length_kept, none_taken, spares_coding, spares_length}
use Rattle.px_said.proofs.PartsRead.{request_parts}
use Rattle.px_said.proofs.ReadAgain.{IsPlainHead, request_again}
use Rattle.px_said.proofs.TargetsRead.{absolute_read, path_bytes, path_read}

-- ---- the fields that are sent

abbrev fields_sent : Version → List (List ℕ × List ℕ) → List (List ℕ × List ℕ)
fields_sent version fields = filter (λ field. not (is_met version field)) fields

pub fields_as_asked : (version : Version) (fields : List (List ℕ × List ℕ))
    → unless_met (is_http11 version && list_any is_expectation fields) fields ≡ fields_sent version fields
fields_as_asked Http10 fields = sym (all_kept fields)
fields_as_asked Http11 fields = by_test (list_any is_expectation fields) refl
  where
    by_test : (b : Bool) → list_any is_expectation fields ≡ b → unless_met b fields ≡ fields_sent Http11 fields
    by_test true is = refl
    by_test false is = sym (none_taken is_expectation fields is)

length_sent : (version : Version) (fields : List (List ℕ × List ℕ)) → request_length (fields_sent version fields) ≡ request_length fields
length_sent Http10 fields = ap request_length (all_kept fields)
length_sent Http11 fields = length_kept is_expectation fields spares_coding spares_length

framed_sent : (version : Version) (fields : List (List ℕ × List ℕ)) → is_framed_in_chunks (fields_sent version fields) ≡ is_framed_in_chunks fields
framed_sent Http10 fields = ap is_framed_in_chunks (all_kept fields)
framed_sent Http11 fields = framed_kept is_expectation fields spares_coding

pub framing_sent : (version : Version) (fields : List (List ℕ × List ℕ)) → framing (fields_sent version fields) ≡ framing fields
framing_sent Http10 fields = ap framing (all_kept fields)
framing_sent Http11 fields = framing_kept is_expectation fields spares_coding spares_length

fields_still_read : (version : Version) (fields : List (List ℕ × List ℕ)) → AreReadFields fields → AreReadFields (fields_sent version fields)
fields_still_read version fields read =
    let few = read.few in
    let same = length-filter (λ field. not (is_met version field)) fields in
    let fewer = count_by-le-length (λ field. not (is_met version field)) fields in
    record { pairs = All-filter (λ field. not (is_met version field)) IsPair fields read.pairs; few = omega (arith, few, same, fewer) }

-- ---- a head that is accepted

-- the request of a head that is accepted is one to this address, and its path is what the target says
pub record IsAccepted (place : Place) (head : RequestHead) (request : Request) : Type 0 where
  pub address : Address
  pub path : List ℕ
  pub no_connect : head.method ≢ connect_method
  pub goal : goal_at place (target_form head.method head.target) ≡ Some (address, path)
  pub is : request_of address head path no_connect ≡ request

same_request : (a b : Request) → Accepted a ≡ Accepted b → a ≡ b
same_request a b e = cc

length_accepted : (length : Result Length Fault) (made request : Request) → judged_length length made ≡ Accepted request → made ≡ request
length_accepted (Err fault) made request is = absurd (let e : Refused fault ≡ Accepted request = is in cc)
length_accepted (Ok length) made request is = same_request made request is

goal_accepted : (place : Place) (head : RequestHead) (no_connect : head.method ≢ connect_method) (goal : Option (Address × List ℕ)) (request : Request)
    → goal_at place (target_form head.method head.target) ≡ goal → judged_goal head no_connect goal ≡ Accepted request → IsAccepted place head request
goal_accepted place head no_connect None request at is = absurd (let e : Refused BadTarget ≡ Accepted request = is in cc)
goal_accepted place head no_connect (Some goal) request at is = record {
  address = goal.0;
  path = goal.1;
  no_connect = no_connect;
  goal = at;
  is = length_accepted (request_length head.fields) (request_of goal.0 head goal.1 no_connect) request is;
}

method_accepted : (place : Place) (head : RequestHead) (connects : Bool) (at : bytes_eq head.method connect_method ≡ connects) (request : Request)
    → connects ≡ false → judged_method place head connects at ≡ Accepted request → IsAccepted place head request
method_accepted place head true at request none is = absurd (let e = none in cc)
method_accepted place head false at request none is =
    goal_accepted place head _ (goal_at place (target_form head.method head.target)) request refl is

pub accepted : (place : Place) (head : RequestHead) (request : Request) → judged place head ≡ Accepted request → IsAccepted place head request
accepted place head request is =
    method_accepted place head (bytes_eq head.method connect_method) refl request (no_tunnel place head request is) is

-- ---- where it goes

same_some : {A : Type 0} (a b : A) → Some a ≡ Some b → a ≡ b
same_some a b e = cc

-- host, port and path of a URL
url_goal : (host path : List ℕ) (port : ℕ) (zero : Bool) (at : (port == 0) ≡ zero) (address : Address) (said : List ℕ)
    → with_path (address_with host port zero at) (Some path) ≡ Some (address, said)
    → Some (absolute host port path) ≡ Some (absolute address.host address.port said)
url_goal host path port true at address said is = absurd (let e = is in cc)
url_goal host path port false at address said is =
    let made : Address = record { host = host; port = port; port_not_zero = _ } in
    ap (λ (goal : Address × List ℕ). Some (absolute goal.0.host goal.0.port goal.1)) (same_some (made, path) (address, said) is)

form_goal : (form : Option Form) (address : Address) (path : List ℕ) → goal_in form ≡ Some (address, path)
    → form ≡ Some (absolute address.host address.port path)
form_goal None address path is = absurd (let e = is in cc)
form_goal (Some (origin said)) address path is = absurd (let e = is in cc)
form_goal (Some (absolute host port said)) address path is = url_goal host said port (port == 0) refl address path is
form_goal (Some (authority host port)) address path is = absurd (let e = is in cc)
form_goal (Some asterisk) address path is = absurd (let e = is in cc)

fixed_goal : (own address : Address) (said : Option (List ℕ)) (path : List ℕ) → with_path (Some own) said ≡ Some (address, path) → said ≡ Some path
fixed_goal own address None path is = absurd (let e = is in cc)
fixed_goal own address (Some said) path is = ap (λ (goal : Address × List ℕ). Some goal.1) (same_some (own, said) (address, path) is)

-- the target says the path of the request
path_of_goal : (place : Place) (form : Option Form) (address : Address) (path : List ℕ) → goal_at place form ≡ Some (address, path) → path_said form ≡ Some path
path_of_goal (places.Fixed own inside) form address path is = fixed_goal own address (path_said form) path is
path_of_goal places.Regular form address path is = ap path_said (form_goal form address path is)
path_of_goal (places.Upstream proxy) form address path is = ap path_said (form_goal form address path is)

-- ---- the target that is sent

-- a target that is sent keeps what was read, and is one of the grammar
record IsSentTarget (place : Place) (method read sent : List ℕ) : Type 0 where
  keeps : KeepsTarget place method read sent
  some : 0 < length sent
  bytes : AllPass is_uri_byte sent
  utf8 : IsUtf8 sent

path_sent : (method read path : List ℕ) → path_said (target_form method read) ≡ Some path → IsUtf8 read
    → ((0 < length path) × AllPass is_uri_byte path) × IsUtf8 path
path_sent method read path said text = (path_bytes path (path_read method read path said), target_path-text method read path said text)

target_sent : (place : Place) (method read : List ℕ) (address : Address) (path : List ℕ) → method ≢ connect_method → IsUtf8 read
    → goal_at place (target_form method read) ≡ Some (address, path)
    → IsSentTarget place method read (target_text (form_at place) address.host address.port path)
target_sent (places.Fixed own inside) method read address path no_connect text goal =
    let said = path_of_goal (places.Fixed own inside) (target_form method read) address path goal in
    let sent = path_sent method read path said text in
    record { keeps = said; some = sent.0.0; bytes = sent.0.1; utf8 = sent.1 }
target_sent places.Regular method read address path no_connect text goal =
    let said = path_of_goal places.Regular (target_form method read) address path goal in
    let sent = path_sent method read path said text in
    record { keeps = said; some = sent.0.0; bytes = sent.0.1; utf8 = sent.1 }
target_sent (places.Upstream proxy) method read address path no_connect text goal =
    let form = form_goal (target_form method read) address path goal in
    let url = absolute_read method read address.host address.port path form in
    let port = url.address.valid_port in
    let high = port.high in
    let utf8 = target_path-text method read path (ap path_said form) text in
    let plain = target_plain Absolute address.host path address.port url.address.valid_host url.valid_path (omega (arith, high)) utf8 in
    record {
      keeps = absolute-back method address.host path address.port no_connect url.address.valid_host url.valid_path url.named port.low port.high
          ∙ sym form;
      some = plain.0;
      bytes = plain.1.bytes;
      utf8 = plain.1.utf8;
    }

-- the target that is sent keeps what was read, also of a request that is not whole
pub target_kept : (place : Place) (method read : List ℕ) (address : Address) (path : List ℕ) → method ≢ connect_method → goal_at place (target_form method read) ≡ Some (address, path)
    → KeepsTarget place method read (target_text (form_at place) address.host address.port path)
target_kept (places.Fixed own inside) method read address path no_connect goal = path_of_goal (places.Fixed own inside) (target_form method read) address path goal
target_kept places.Regular method read address path no_connect goal = path_of_goal places.Regular (target_form method read) address path goal
target_kept (places.Upstream proxy) method read address path no_connect goal =
    let form = form_goal (target_form method read) address path goal in
    let url = absolute_read method read address.host address.port path form in
    let port = url.address.valid_port in
    absolute-back method address.host path address.port no_connect url.address.valid_host url.valid_path url.named port.low port.high ∙ sym form

-- ---- the text

module _ (place : Place) (bytes : List ℕ) (head : RequestHead) (body : Body) (trailers : List (List ℕ × List ℕ)) (used : ℕ) where
  module _ (whole : request_item bytes ≡ complete head body trailers used) (address : Address) (path : List ℕ) (no_connect : head.method ≢ connect_method)
      (goal : goal_at place (target_form head.method head.target) ≡ Some (address, path)) where
    abbrev request : Request
    request = whole_request (request_of address head path no_connect) body trailers

    abbrev target : List ℕ
    target = target_text (form_at place) address.host address.port path

    abbrev sent : RequestHead
    sent = sent_head head target

    pub as_asked : fields_asked head ≡ sent.fields
    as_asked = fields_as_asked head.version head.fields

    pub valid : (AllPass is_uri_byte head.target × IsUtf8 head.target) × AreReadFields head.fields × AreReadFields trailers
    valid = request-valid bytes head body trailers used whole

    to : IsSentTarget place head.method head.target target
    to = target_sent place head.method head.target address path no_connect valid.0.1 goal

    -- the body is as long as the fields that are sent say
    fits : Fits (request_length sent.fields) body.content trailers
    fits =
        subst (λ (r : Result Length Fault). Fits r body.content trailers)
        (length_by_fields head.method head.fields no_connect ∙ sym (length_sent head.version head.fields))
        (request-fits bytes head body trailers used whole)

    stays : settled_request request ≡ request
    stays = whole_request-stays request (subst (λ (fields : List (List ℕ × List ℕ)). Fits (request_length fields) body.content trailers) (sym as_asked) fits)

    pub plain : IsPlainHead sent
    plain =
        let parts = request_parts bytes head body trailers used whole in
        record {
          no_connect = no_connect;
          method = subst (λ (h : RequestHead). is_token h.method ≡ true) parts.2 parts.1.method;
          some = to.some;
          bytes = to.bytes;
          utf8 = to.utf8;
          fields = fields_still_read head.version head.fields valid.1;
        }

    -- the body as it is written, in chunks or not
    abbrev written_body : Bool → List ℕ
    written_body framed = if framed then chunk_text body.content ++ last_chunk_text trailers else body.content

    written : onward_text (form_at place) request ≡ head_text sent ++ body_text head.fields body.content trailers
    written =
        ap (λ (r : Request). request_text r (form_at place)) stays
        ∙ (λ i. (request_line head.method target (version_text head.version) ++ fields_text (as_asked i)) ++ body_text (as_asked i) body.content trailers)
        ∙ ap (λ (framed : Bool). head_text sent ++ written_body framed) (framed_sent head.version head.fields)

    pub says_made : SaysRequest place (onward_text (form_at place) request) head body trailers
    says_made = record {
      target = target;
      keeps = to.keeps;
      bytes = written;
      reads = λ readable rest.
          let IsThis : List ℕ → Bool → Type 0 = λ text framed.
          request_item (text ++ rest) ≡ complete sent (one_chunk framed body.content) trailers (length text) in
          let again : IsThis (head_text sent ++ written_body (is_framed_in_chunks sent.fields)) (is_framed_in_chunks sent.fields) =
          request_again sent body.content trailers rest plain valid.2 fits readable in
          subst (λ (text : List ℕ). IsThis text (is_framed_in_chunks head.fields)) (sym written)
          (subst (λ (framed : Bool). IsThis (head_text sent ++ written_body framed) framed) (framed_sent head.version head.fields) again);
    }
