-- What a reader gave of a request, as what the chain says of the bytes that came: its item, its text, and whether it is streamed.
use Rattle.std.proofs.Common.{◌≡◌, ℕ, Bool, true, false, ◌||◌, ◌&&◌, not, List, [], ◌∷◌, ◌++◌, length, filter, codes, Option, Some, Result, Ok, refl, ap, sym, ◌∙◌}
use Rattle.std.specs.Prelude.{if◌then◌else◌, bytes_eq}
use Rattle.std.proofs.lemmas.Slice.Eq.{bytes_eq-Decides}
use Rattle.px_message.specs.Fields.{is_named, is_same_name, without}
use Rattle.px_message.specs.Length.{content_length, request_length, transfer_encoding}
use Rattle.px_message.specs.Settle.{are_same, framing, is_framing, settled_streamed}
use Rattle.px_message.specs.declared.fault.Fault.{Fault}
use Rattle.px_message.specs.declared.flow.Flow.{Flow}
use Rattle.px_message.specs.declared.length.Length.{Length}
use Rattle.px_message.specs.declared.length.Length.TheVariants as lengths
use Rattle.px_message.specs.declared.request.Request.{Request}
use Rattle.px_message.proofs.FieldLaws.{of_one_name}
use Rattle.px_read.specs.Chunks.{Finish, goes_on, whole, fails, Reading}
use Rattle.px_read.specs.Heads.{connect_method}
use Rattle.px_read.specs.Items.{Body, body_of, item_behind, request_told}
use Rattle.px_read.specs.Laws.{head_in}
use Rattle.px_read.specs.Marks.{Mark, asks}
use Rattle.px_read.specs.Readings.{request_reading}
use Rattle.px_read.specs.declared.head.RequestHead.{RequestHead as ReadRequest}
use Rattle.px_write.specs.Text.{request_head_text}
use Rattle.px_exchange.specs.declared.place.Place.{Place}
use Rattle.px_exchange.specs.Bodies.{content_of}
use Rattle.px_exchange.specs.Places.{form_at}
use Rattle.px_exchange.specs.Requests.{expects, fields_asked, is_expectation, unless_met}
use Rattle.px_parts.proofs.FieldLemmas.{length-framing}
use Rattle.px_parts.specs.Streamed.{heard_in, request_says, streamed_by, streams_behind}
use Rattle.px_parts.specs.Texts.{behind_text, end_text, marks_text}
use Rattle.px_chain.specs.Going.{framed_up, goes_up, going_by, going_text, whole_by, whole_in}
use Rattle.px_chain.specs.Sights.{Sight, request_in}
use Rattle.px_stream.specs.Goings.{framed_up_by, goes_up_with}
use Rattle.px_stream.specs.Stands.{IsRead}
use Rattle.px_stream.proofs.CameLemmas.{read_as}

-- ---- the fields as they were read frame the body as those of the head

abbrev Test : Type 0
Test = List ℕ × List ℕ → Bool

-- fields that pass none of what is kept may be left out
kept_all : (p q : Test) → ((x : List ℕ × List ℕ) → p x ≡ true → q x ≡ false) → (xs : List (List ℕ × List ℕ)) → filter p (filter (λ x. not (q x)) xs) ≡ filter p xs
kept_all p q apart [] = refl
kept_all p q apart (x ∷ xs) = by_test (p x) (q x) refl refl (kept_all p q apart xs)
  where
    by_test : (b c : Bool) → p x ≡ b → q x ≡ c → filter p (filter (λ x. not (q x)) xs) ≡ filter p xs →
        filter p (if not c then x ∷ filter (λ x. not (q x)) xs else filter (λ x. not (q x)) xs)
        ≡ (if b then x ∷ filter p xs else filter p xs)
    by_test b false at kept rest =
        ap (λ (t : Bool). if t then x ∷ filter p (filter (λ x. not (q x)) xs) else filter p (filter (λ x. not (q x)) xs)) at
        ∙ ap (λ (l : List (List ℕ × List ℕ)). if b then x ∷ l else l) rest
    by_test true true at gone rest = absurd (let no : q x ≡ false = apart x at in cc (no, gone))
    by_test false true at gone rest = rest

-- an expectation has no name that frames a body
not_named : (name : List ℕ) → is_same_name (codes "Expect") name ≡ false → (field : List ℕ × List ℕ) → is_named name field ≡ true → is_expectation field ≡ false
not_named name other field at =
    ap (λ (b : Bool). b && is_same_name field.1 (codes "100-continue")) (of_one_name name (codes "Expect") other field at)

not_framing : (field : List ℕ × List ℕ) → is_framing field ≡ true → is_expectation field ≡ false
not_framing field at = by_test (is_named transfer_encoding field) (is_named content_length field) refl refl at
  where
    by_test : (b c : Bool) → is_named transfer_encoding field ≡ b → is_named content_length field ≡ c → (b || c) ≡ true → is_expectation field ≡ false
    by_test true c one two is = not_named transfer_encoding refl field one
    by_test false true one two is = not_named content_length refl field two
    by_test false false one two is = absurd (let no : false ≡ true = is in cc)

unless_framing : (expected : Bool) (fields : List (List ℕ × List ℕ)) → framing (unless_met expected fields) ≡ framing fields
unless_framing true fields = kept_all is_framing is_expectation not_framing fields
unless_framing false fields = refl

pub asked_framing : (head : ReadRequest) → framing (fields_asked head) ≡ framing head.fields
asked_framing head = unless_framing (expects head) head.fields

-- so a body is as long, and what is sent is framed the same way
pub asked_length : (head : ReadRequest) → request_length (fields_asked head) ≡ request_length head.fields
asked_length head = (length-framing (fields_asked head) head.fields (asked_framing head)).0

settled_by : (fields one two : List (List ℕ × List ℕ)) → framing one ≡ framing two → settled_streamed one fields ≡ settled_streamed two fields
settled_by fields one two same =
    ap (λ (f : List (List ℕ × List ℕ)). if are_same (framing fields) f then fields else without content_length (without transfer_encoding fields) ++ f) same

pub framed_same : (head : ReadRequest) (read : Request) → IsRead head read → (message : Request) → framed_up_by read message ≡ framed_up head message
framed_same head read is message =
    ap (λ f. framed_with f) (ap (λ f. settled_streamed f message.fields) is.fields ∙ settled_by message.fields (fields_asked head) head.fields (asked_framing head))
  where
    framed_with : List (List ℕ × List ℕ) → Request
    framed_with fields = record message { fields = fields }

-- ---- what stands there

head_behind : (head : ReadRequest) (body : Body) (finish : Finish) → head_in (item_behind head body finish) ≡ Some head
head_behind head body goes_on = refl
head_behind head body (whole trailers used) = refl
head_behind head body (fails fault) = refl

-- a method that is none of a tunnel
no_tunnel : (read : Request) (head : ReadRequest) → IsRead head read → bytes_eq head.method connect_method ≡ false
no_tunnel read head is = by_test (bytes_eq head.method connect_method) refl
  where
    by_test : (b : Bool) → bytes_eq head.method connect_method ≡ b → b ≡ false
    by_test false h = refl
    by_test true h =
        let same : head.method ≡ connect_method = (bytes_eq-Decides head.method connect_method).0 h in
        absurd (read.not_connect (is.method ∙ same))

says_same : (head : ReadRequest) (read : Request) → IsRead head read → request_says head ≡ request_length read.fields
says_same head read is =
    ap (λ (b : Bool). let l : Result Length Fault = if b then Ok lengths.None else request_length head.fields in l) (no_tunnel read head is)
    ∙ (sym (asked_length head) ∙ ap request_length (sym is.fields))

module _ (seen : Sight) (head : ReadRequest) (all : List Mark) (finish : Finish) (is : request_reading seen.client ≡ read_as (asks head ∷ all) finish) where
  -- its item
  pub item_is : request_in seen ≡ item_behind head (body_of all) finish
  item_is = ap (λ (r : Reading). request_told r.marks r.finish) is

  pub head_is : head_in (request_in seen) ≡ Some head
  head_is = ap head_in item_is ∙ head_behind head (body_of all) finish

  -- how many bytes it has, where it is whole
  pub whole_is : whole_in seen ≡ whole_by (item_behind head (body_of all) finish)
  whole_is = ap whole_by item_is

  -- its text
  pub going_is : (place : Place) (flow : Flow) →
      going_text place flow seen ≡ request_head_text (framed_up head flow.request) (form_at place) ++ (marks_text all ++ end_text (framed_up head flow.request).fields finish)
  going_is place flow =
      ap (λ o. going_by o flow.request (form_at place) seen.client) head_is
      ∙ ap (λ r. request_head_text (framed_up head flow.request) (form_at place) ++ behind_text (framed_up head flow.request).fields r) is

  -- whether it is streamed
  pub streams_is : (read : Request) (most : Option ℕ) → IsRead head read → goes_up most seen ≡ goes_up_with read most (length (content_of all))
  streams_is read most was =
      ap (λ (r : Reading). streams_behind request_says (head_in (request_told r.marks r.finish)) most (heard_in r.marks)) is
      ∙ (ap (λ o. streams_behind request_says o most (length (content_of all))) (head_behind head (body_of all) finish)
      ∙ ap (λ l. streamed_by l most (length (content_of all))) (says_same head read was))
