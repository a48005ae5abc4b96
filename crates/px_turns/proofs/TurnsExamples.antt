-- What the exchanges of a server say of small conversations: two requests with the answer between; none behind an answer that is not whole, nor to another address; and that two requests are
-- not one.
use Rattle.std.proofs.Common.{◌≡◌, ℕ, true, false, List, [], ◌∷◌, ◌++◌, length, Some, None, refl, ap, sym, ◌∙◌, subst, arith, length-append, inl, inr}
use Rattle.std.specs.Prelude.{◌⊎◌}
use Rattle.std.proofs.Math.Seq.{drop-append_seam}
use Rattle.std.proofs.lemmas.List.{append-nil}
use Rattle.px_message.specs.declared.address.Address.{Address}
use Rattle.px_message.specs.declared.request.Request.{Request}
use Rattle.px_read.specs.Items.{Answers, Body, complete, no_body, part, request_item}
use Rattle.px_read.specs.declared.head.RequestHead.{RequestHead}
use Rattle.px_read.specs.declared.head.ResponseHead.{ResponseHead}
use Rattle.px_exchange.specs.declared.place.Place.{Place}
use Rattle.px_exchange.specs.Places.{form_at, is_same_address, server_for}
use Rattle.px_exchange.specs.Texts.{onward_text}
use Rattle.px_chain.specs.Going.{whole_by}
use Rattle.px_chain.specs.Sights.{left_by_answers}
use Rattle.px_turns.specs.Turns.{Exchanges, GoesTo, IsText, answers_to, in_full, is_settled, nothing_more, the_last, was_answered}

module _ (place : Place) (address : Address) where
  abbrev text_of : Request → List ℕ
  text_of request = onward_text (form_at place) request

  -- ---- two GETs to one address, and a response of code 204 to the first

  module _ (one two : Request) (answer more : List ℕ) (head : ResponseHead) where
    abbrev no_content : Answers
    no_content = record { interim = []; used = 0; final = complete head no_body [] (length answer) }

    -- The answer is whole, and of the next one any part is there: the second request is sent. What is left is that part.
    pub two_gets : GoesTo place address one → GoesTo place address two → answers_to one (answer ++ more) ≡ no_content → Exchanges place address (text_of one ++ text_of two) (answer ++ more)
    two_gets goes also whole =
        let behind : left_by_answers (answers_to one (answer ++ more)) (answer ++ more) ≡ more = ap (λ a. left_by_answers a (answer ++ more)) whole ∙ drop-append_seam answer more in
        was_answered one (text_of one) (text_of two) (text_of one ++ text_of two) (answer ++ more) (length answer) goes (is_settled refl) refl (ap (λ a. whole_by a.final) whole)
        (subst (λ l. Exchanges place address (text_of two) l) (sym behind) (the_last two (text_of two) more also (in_full (is_settled refl))))

    -- It came alone, and the client has asked for nothing more.
    pub one_get : GoesTo place address one → answers_to one answer ≡ no_content → Exchanges place address (text_of one) answer
    one_get goes whole =
        was_answered one (text_of one) [] (text_of one) answer (length answer) goes (is_settled refl) (sym (append-nil (text_of one))) (ap (λ a. whole_by a.final) whole)
        (nothing_more [] (left_by_answers (answers_to one answer) answer) refl)

  -- ---- what is not

  -- No answer is whole, to whatever request: one is sent at most, to that address.
  pub record IsOne (sent : List ℕ) : Type 0 where
    pub request : Request
    pub goes : GoesTo place address request
    pub text : IsText place request sent

  pub one_before_an_answer : (sent heard : List ℕ) → ((request : Request) → whole_by (answers_to request heard).final ≡ None) → Exchanges place address sent heard → (sent ≡ []) ⊎ IsOne sent
  one_before_an_answer sent heard none (nothing_more s h empty) = inl empty
  one_before_an_answer sent heard none (the_last request s h goes text) = inr (record { request = request; goes = goes; text = text })
  one_before_an_answer sent heard none (was_answered request text more s h size goes whole same is on) = absurd (let e : None ≡ Some size = sym (none request) ∙ is in cc)

  -- So of a server that said nothing, or `HTTP/1.1 204 No Con`.
  pub one_before_its_end : (sent heard : List ℕ) (head : ResponseHead) (body : Body) → ((request : Request) → (answers_to request heard).final ≡ part head body) → Exchanges place address sent heard →
      (sent ≡ []) ⊎ IsOne sent
  one_before_its_end sent heard head body unfinished on = one_before_an_answer sent heard (λ request. ap whole_by (unfinished request)) on

  -- All goes to the address: nothing is sent where no request does.
  pub nothing_elsewhere : (sent heard : List ℕ) → ((request : Request) → is_same_address address (server_for place request) ≡ false) → Exchanges place address sent heard → sent ≡ []
  nothing_elsewhere sent heard apart (nothing_more s h empty) = empty
  nothing_elsewhere sent heard apart (the_last request s h goes text) = absurd (let e : true ≡ false = sym goes ∙ apart request in cc)
  nothing_elsewhere sent heard apart (was_answered request text more s h size goes whole same is on) = absurd (let e : true ≡ false = sym goes ∙ apart request in cc)

-- Two texts that are read one behind the other, as two requests are, are not one text that is read as one request.
pub two_are_not_one : (one two : List ℕ) (head other : RequestHead) (body content : Body) (trailers rest : List (List ℕ × List ℕ)) → request_item (one ++ two) ≡ complete head body trailers (length one) →
    request_item (one ++ two) ≡ complete other content rest (length (one ++ two)) → two ≡ []
two_are_not_one one two head other body content trailers rest is whole =
    let same : complete head body trailers (length one) ≡ complete other content rest (length (one ++ two)) = sym is ∙ whole in
    let sizes : length one ≡ length (one ++ two) = cc in
    let joined = length-append one two in
    empty two (omega arith)
  where
    empty : (bytes : List ℕ) → length bytes ≡ 0 → bytes ≡ []
    empty [] is = refl
    empty (byte ∷ bytes) is = absurd (let no : ⊥ = omega arith in no)
