-- A text says one message: it is read as one.
use Rattle.std.proofs.Common.{◌≡◌, ℕ, ◌==◌, ◌&&◌, not, Bool, true, false, List, [], ◌∷◌, length, refl, sym, ap, ◌∙◌, inr}
use Rattle.std.specs.Prelude.{if◌then◌else◌}
use Rattle.px_read.specs.Items.{Body, Item, complete}
use Rattle.px_write.specs.ReadBack.{one_chunk}
use Rattle.px_message.specs.Length.{is_framed_in_chunks}
use Rattle.px_said.specs.WhatCame.{OneRequestComes, OneResponseComes}
use Rattle.px_said.specs.WhatWasRead.{OneRequestIsSaid, OneResponseIsSaid}

abbrev body_by : Bool → List ℕ → Body
body_by one content =
    if one then record { sizes = length content ∷ []; ended = 1; content = content } else record { sizes = []; ended = 0; content = content }

content_by : (one : Bool) (content : List ℕ) → (body_by one content).content ≡ content
content_by true content = refl
content_by false content = refl

-- the content of a body is all its bytes, in a chunk or in none
content_of : (framed : Bool) (content : List ℕ) → (one_chunk framed content).content ≡ content
content_of framed content = content_by (framed && not (length content == 0)) content

-- what is whole has one head, one content and the same trailers
one_whole : {H : Type 0} (head other : H) (framed also : Bool) (content its : List ℕ) (trailers more : List (List ℕ × List ℕ)) (used all : ℕ)
    → ◌≡◌ {A = Item H} (complete head (one_chunk framed content) trailers used) (complete other (one_chunk also its) more all)
    → (head ≡ other) × (content ≡ its) × (trailers ≡ more)
one_whole head other framed also content its trailers more used all is =
    let bodies : one_chunk framed content ≡ one_chunk also its = (let e = is in cc) in
    let same : head ≡ other = (let e = is in cc) in
    let fields : trailers ≡ more = (let e = is in cc) in
    (same, sym (content_of framed content) ∙ (ap (λ (body : Body). body.content) bodies ∙ content_of also its), fields)

pub one_request : OneRequestIsSaid
one_request place text head other body its trailers more said also readable readable_too =
    one_whole _ _ (is_framed_in_chunks head.fields) (is_framed_in_chunks other.fields) body.content its.content trailers more _ _
    (sym (said.reads readable []) ∙ also.reads readable_too [])

pub one_response : OneResponseIsSaid
one_response asked_head text head other body its trailers more said also readable readable_too =
    one_whole head other (is_framed_in_chunks head.fields) (is_framed_in_chunks other.fields) body.content its.content trailers more _ _
    (sym (said.reads readable true [] (inr (refl, refl))) ∙ also.reads readable_too true [] (inr (refl, refl)))

-- ---- of what is streamed

same_whole : {H : Type 0} (head other : H) (body own : Body) (trailers more : List (List ℕ × List ℕ)) (used size : ℕ)
    → ◌≡◌ {A = Item H} (complete head body trailers used) (complete other own more size) → (head ≡ other) × (body ≡ own) × (trailers ≡ more)
same_whole head other body own trailers more used size is =
    let heads : head ≡ other = (let e = is in cc) in
    let bodies : body ≡ own = (let e = is in cc) in
    let fields : trailers ≡ more = (let e = is in cc) in
    (heads, bodies, fields)

pub one_request_comes : OneRequestComes
one_request_comes place text head other bytes its says also body trailers used whole readable own more size whole_too readable_too =
    same_whole _ _ body own trailers more _ _ (sym (says.reads body trailers used whole readable []) ∙ also.reads own more size whole_too readable_too [])

pub one_response_comes : OneResponseComes
one_response_comes asked_head text closed shut head other bytes its says also body trailers used whole readable own more size whole_too readable_too =
    same_whole head other body own trailers more _ _
    (sym (says.reads body trailers used whole readable true [] (inr (refl, refl))) ∙ also.reads own more size whole_too readable_too true [] (inr (refl, refl)))
