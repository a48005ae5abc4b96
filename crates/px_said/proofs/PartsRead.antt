-- What stands whole in a stream has the parts of the grammar.
use Rattle.std.proofs.Common.{ℕ, zero, suc, ◌≤◌, ◌≡◌, Bool, true, false, List, [], ◌∷◌, ◌++◌, length, drop, refl, sym, subst, Result, Ok, Err}
use Rattle.std.specs.Prelude.{All, if◌then◌else◌, option_to_list}
use Rattle.std.proofs.lemmas.List.Elements.{All-cons, All-nil}
use Rattle.px_head.specs.Front.{request_front, response_front}
use Rattle.px_head.specs.Laws.{IsRequestParts}
use Rattle.px_head.specs.declared.raw.RawHead.{RawHead}
use Rattle.px_head.specs.declared.front.Front.{Front}
use Rattle.px_head.specs.declared.front.Front.TheVariants as front
use Rattle.px_head.proofs.FrontLemmas.{request_parts_valid, response_parts_valid}
use Rattle.px_message.specs.Length.{response_length}
use Rattle.px_message.specs.declared.fault.Fault.{Fault}
use Rattle.px_message.specs.declared.length.Length.{Length}
use Rattle.px_read.specs.Chunks.{Finish, fails, goes_on, whole}
use Rattle.px_read.specs.Heads.{asks_tunnel, code_of, is_interim, request_body_length, request_head, response_head}
use Rattle.px_read.specs.Items.{Answers, Body, Item, answer_list, answers_behind, answers_within, bad_body, bad_head, behind_interim, body_of, complete, item_behind, missing, part, request_item, request_told, response_item, response_told}
use Rattle.px_read.specs.Readings.{behind_bytes, body_reading, request_behind, request_body, response_behind, response_body, response_finish}
use Rattle.px_read.specs.Requests.{Requests, request_list, requests_behind, requests_on, requests_within}
use Rattle.px_read.specs.declared.head.RequestHead.{RequestHead}
use Rattle.px_read.specs.declared.head.ResponseHead.{ResponseHead}
use Rattle.px_said.proofs.ClosedItems.{items_of}
use Rattle.px_said.proofs.PlainTexts.{number_is}
use Rattle.px_said.proofs.ReadAgain.{IsPlainAnswer}

-- ---- the head of what is whole

own_head : {H : Type 0} (own : H) (content : Body) (f : Finish) (head : H) (body : Body) (trailers : List (List ℕ × List ℕ)) (used : ℕ)
    → item_behind own content f ≡ complete head body trailers used → own ≡ head
own_head own content goes_on head body trailers used e = absurd (let g = e in cc)
own_head own content (whole fields count) head body trailers used e = let g = e in cc
own_head own content (fails fault) head body trailers used e = absurd (let g = e in cc)

-- ---- requests

request_by : (bytes : List ℕ) (f : Front) → request_front bytes ≡ f → (head : RequestHead) (body : Body) (trailers : List (List ℕ × List ℕ)) (used : ℕ)
    → request_told (request_behind f bytes).marks (request_behind f bytes).finish ≡ complete head body trailers used
    → (raw : RawHead) × IsRequestParts raw × (request_head raw ≡ head)
request_by bytes front.Nothing at head body trailers used e = absurd (let g = e in cc)
request_by bytes front.TooLong at head body trailers used e = absurd (let g = e in cc)
request_by bytes front.BadHead at head body trailers used e = absurd (let g = e in cc)
request_by bytes (front.Stands raw taken) at head body trailers used e =
    let read = request_body (request_body_length raw.first raw.pairs) (drop taken bytes) in (
      raw,
      request_parts_valid bytes raw taken at,
      own_head (request_head raw) (body_of read.marks) (behind_bytes taken read.finish) head body trailers used e,
    )

pub request_parts : (bytes : List ℕ) (head : RequestHead) (body : Body) (trailers : List (List ℕ × List ℕ)) (used : ℕ)
    → request_item bytes ≡ complete head body trailers used → (raw : RawHead) × IsRequestParts raw × (request_head raw ≡ head)
request_parts bytes head body trailers used e = request_by bytes (request_front bytes) refl head body trailers used e

-- an item that stands at the front of some bytes
abbrev pub IsRead : Item RequestHead → Type 0
IsRead item = (bytes : List ℕ) × (request_item bytes ≡ item)

one_read : (item : Item RequestHead) → IsRead item → All IsRead (item ∷ [])
one_read item read = All-cons IsRead item [] read (All-nil IsRead)

on_read : (tunnel : Bool) (item : Item RequestHead) (used : ℕ) (further : Requests) → IsRead item → All IsRead (items_of further)
    → All IsRead (items_of (requests_on tunnel item used further))
on_read true item used further read rest = one_read item read
on_read false item used further read rest = All-cons IsRead item (items_of further) read rest

behind_read : (item : Item RequestHead) (further : List ℕ → Requests) (bytes : List ℕ) → request_item bytes ≡ item
    → ((rest : List ℕ) → All IsRead (items_of (further rest))) → All IsRead (items_of (requests_behind item further bytes))
behind_read missing further bytes is rest = one_read missing (bytes, is)
behind_read (part head body) further bytes is rest = one_read (part head body) (bytes, is)
behind_read (complete head body trailers used) further bytes is rest =
    on_read (asks_tunnel head) (complete head body trailers used) used (further (drop used bytes)) (bytes, is) (rest (drop used bytes))
behind_read (bad_head fault) further bytes is rest = one_read (bad_head fault) (bytes, is)
behind_read (bad_body fault head body) further bytes is rest = one_read (bad_body fault head body) (bytes, is)

within_read : (most : ℕ) (bytes : List ℕ) → All IsRead (items_of (requests_within most bytes))
within_read zero bytes = one_read (request_item bytes) (bytes, refl)
within_read (suc most) bytes = behind_read (request_item bytes) (requests_within most) bytes refl (within_read most)

-- each of the requests of a stream does
pub list_read : (bytes : List ℕ) → All IsRead ((request_list bytes).whole ++ option_to_list (request_list bytes).last)
list_read bytes = within_read (length bytes) bytes

-- ---- responses

plain_answer : (bytes : List ℕ) (raw : RawHead) (used : ℕ) → response_front bytes ≡ front.Stands raw used → IsPlainAnswer (response_head raw)
plain_answer bytes raw used at =
    let parts = response_parts_valid bytes raw used at in
    let same = number_is raw.second parts.code.0 parts.code.1 in
    record {
      least = subst (λ (n : ℕ). 100 ≤ n) (sym same) parts.code.2;
      most = subst (λ (n : ℕ). n ≤ 999) (sym same) parts.code.3;
      reason = parts.reason;
      fields = record { pairs = parts.pairs; few = parts.few };
    }

response_by_length : (closed : Bool) (raw : RawHead) (taken : ℕ) (bytes : List ℕ) (framing : Result Length Fault)
    (head : ResponseHead) (body : Body) (trailers : List (List ℕ × List ℕ)) (used : ℕ)
    → response_told (response_body raw taken framing closed bytes).marks (response_finish closed (response_body raw taken framing closed bytes).finish)
    ≡ complete head body trailers used → response_head raw ≡ head
response_by_length closed raw taken bytes (Err fault) head body trailers used e = absurd (let g = e in cc)
response_by_length closed raw taken bytes (Ok framing) head body trailers used e =
    let read = body_reading framing closed bytes in
    own_head (response_head raw) (body_of read.marks) (response_finish closed (behind_bytes taken read.finish)) head body trailers used e

response_by : (asked_head closed : Bool) (bytes : List ℕ) (f : Front) → response_front bytes ≡ f → (head : ResponseHead) (body : Body)
    (trailers : List (List ℕ × List ℕ)) (used : ℕ)
    → response_told (response_behind f asked_head closed bytes).marks (response_finish closed (response_behind f asked_head closed bytes).finish)
    ≡ complete head body trailers used → IsPlainAnswer head
response_by asked_head true bytes front.Nothing at head body trailers used e = absurd (let g = e in cc)
response_by asked_head false bytes front.Nothing at head body trailers used e = absurd (let g = e in cc)
response_by asked_head closed bytes front.TooLong at head body trailers used e = absurd (let g = e in cc)
response_by asked_head closed bytes front.BadHead at head body trailers used e = absurd (let g = e in cc)
response_by asked_head closed bytes (front.Stands raw taken) at head body trailers used e =
    subst IsPlainAnswer
    (response_by_length closed raw taken (drop taken bytes) (response_length (code_of raw) asked_head raw.pairs) head body trailers used e)
    (plain_answer bytes raw taken at)

pub response_parts : (asked_head closed : Bool) (bytes : List ℕ) (head : ResponseHead) (body : Body) (trailers : List (List ℕ × List ℕ)) (used : ℕ)
    → response_item asked_head closed bytes ≡ complete head body trailers used → IsPlainAnswer head
response_parts asked_head closed bytes head body trailers used e =
    response_by asked_head closed bytes (response_front bytes) refl head body trailers used e

-- ---- interim responses

-- the head of an interim response that was read
pub record IsInterimRead (head : ResponseHead) : Type 0 where
  pub plain : IsPlainAnswer head
  pub interim : is_interim head ≡ true

interim_at : (interim : Bool) (head : ResponseHead) (used : ℕ) (further own : Answers) → is_interim head ≡ interim → IsPlainAnswer head
    → All IsInterimRead further.interim → All IsInterimRead own.interim
    → All IsInterimRead (if interim then behind_interim head used further else own).interim
interim_at true head used further own is plain rest here =
    All-cons IsInterimRead head further.interim (record { plain = plain; interim = is }) rest
interim_at false head used further own is plain rest here = here

interim_by : (bytes : List ℕ) (f : Front) (further : List ℕ → Answers) (own : Answers) → response_front bytes ≡ f
    → ((rest : List ℕ) → All IsInterimRead (further rest).interim) → All IsInterimRead own.interim
    → All IsInterimRead (answers_behind f further bytes own).interim
interim_by bytes front.Nothing further own at rest here = here
interim_by bytes front.TooLong further own at rest here = here
interim_by bytes front.BadHead further own at rest here = here
interim_by bytes (front.Stands raw used) further own at rest here =
    interim_at (is_interim (response_head raw)) (response_head raw) used (further (drop used bytes)) own refl (plain_answer bytes raw used at)
    (rest (drop used bytes)) here

interim_within : (most : ℕ) (asked_head closed : Bool) (bytes : List ℕ) → All IsInterimRead (answers_within most asked_head closed bytes).interim
interim_within zero asked_head closed bytes = All-nil IsInterimRead
interim_within (suc most) asked_head closed bytes =
    interim_by bytes (response_front bytes) (answers_within most asked_head closed)
    (record { interim = []; used = 0; final = response_item asked_head closed bytes }) refl (interim_within most asked_head closed) (All-nil IsInterimRead)

pub interim_read : (asked_head closed : Bool) (bytes : List ℕ) → All IsInterimRead (answer_list asked_head closed bytes).interim
interim_read asked_head closed bytes = interim_within (length bytes) asked_head closed bytes
