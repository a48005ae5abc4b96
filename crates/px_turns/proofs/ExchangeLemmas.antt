-- Exchanges of a server: what was answered whole, with what is sent and said behind it; and with more said.
use Rattle.std.proofs.Common.{◌≡◌, ℕ, Bool, false, List, [], ◌++◌, length, drop, Some, None, refl, ap, sym, ◌∙◌, subst, arith, append_assoc}
use Rattle.std.proofs.lemmas.List.{append-nil, drop-append-le, length-drop}
use Rattle.px_message.specs.declared.address.Address.{Address}
use Rattle.px_message.specs.declared.request.Request.{Request}
use Rattle.px_read.specs.Items.{Answers, Item, missing, part, complete, bad_head, bad_body, answer_list}
use Rattle.px_read.specs.declared.head.ResponseHead.{ResponseHead}
use Rattle.px_read.proofs.AnswerLemmas.{answers_carry, answers_used}
use Rattle.px_read.proofs.LawLemmas.{chunk_laws}
use Rattle.px_exchange.specs.declared.place.Place.{Place}
use Rattle.px_exchange.specs.Requests.{is_head}
use Rattle.px_chain.specs.Going.{whole_by}
use Rattle.px_chain.specs.Sights.{left_by, left_by_answers}
use Rattle.px_turns.specs.Turns.{Exchanges, GoesTo, IsText, IsWholeText, answers_to, nothing_more, the_last, was_answered}

-- ---- a whole answer, with more behind it

-- what is left behind it grows by that
left_grows : (asked_head : Bool) (bytes more : List ℕ) (final : Item ResponseHead) (size : ℕ) → (answer_list asked_head false bytes).final ≡ final → whole_by final ≡ Some size →
    (whole_by (answer_list asked_head false (bytes ++ more)).final ≡ Some size)
    × (left_by_answers (answer_list asked_head false (bytes ++ more)) (bytes ++ more) ≡ left_by_answers (answer_list asked_head false bytes) bytes ++ more)
left_grows asked_head bytes more missing size is whole = absurd (let e : None ≡ Some size = whole in cc)
left_grows asked_head bytes more (part head body) size is whole = absurd (let e : None ≡ Some size = whole in cc)
left_grows asked_head bytes more (complete head body trailers n) size is whole =
    let before : Answers = answer_list asked_head false bytes in
    let after : Answers = answer_list asked_head false (bytes ++ more) in
    let carry = answers_carry chunk_laws asked_head false bytes more in
    let same : after.final ≡ before.final = carry.final.stays (rw is refl) in
    let used : after.used ≡ before.used = (carry.begun (rw is refl)).1 in
    let within = answers_used chunk_laws (length bytes) asked_head false bytes in
    let fits = (within.final head body trailers n is).1 in
    let some = within.used in
    let short = length-drop before.used bytes in
    let P : Answers → Type 0 = λ a. left_by_answers a (bytes ++ more) ≡ left_by before.final (drop before.used bytes) ++ more in (
      ap whole_by (same ∙ is) ∙ whole,
      ap (λ i. left_by i (drop after.used (bytes ++ more))) (same ∙ is)
          ∙ (ap (λ u. drop n (drop u (bytes ++ more))) used
          ∙ (ap (λ l. drop n l) (drop-append-le before.used bytes more some)
          ∙ (drop-append-le n (drop before.used bytes) more (omega arith)
          ∙ ap (λ i. left_by i (drop before.used bytes) ++ more) (sym is)))),
    )
left_grows asked_head bytes more (bad_head fault) size is whole = absurd (let e : None ≡ Some size = whole in cc)
left_grows asked_head bytes more (bad_body fault head body) size is whole = absurd (let e : None ≡ Some size = whole in cc)

module _ (place : Place) (address : Address) where
  abbrev Exchanged : List ℕ → List ℕ → Type 0
  Exchanged sent heard = Exchanges place address sent heard

  -- So exchanges stay where more is said.
  pub exchanges_more : (sent heard more : List ℕ) → Exchanged sent heard → Exchanged sent (heard ++ more)
  exchanges_more sent heard more (nothing_more s h none) = nothing_more sent (heard ++ more) none
  exchanges_more sent heard more (the_last request s h goes text) = the_last request sent (heard ++ more) goes text
  exchanges_more sent heard more (was_answered request text further s h size goes is_text same whole on) =
      let grown = left_grows (is_head request.method) heard more (answers_to request heard).final size refl whole in
      was_answered request text further sent (heard ++ more) size goes is_text same grown.0
      (subst (λ l. Exchanged further l) (sym grown.1) (exchanges_more further (left_by_answers (answers_to request heard) heard) more on))

  -- All that was sent so far is answered, and the answers are all of this: whatever is exchanged behind it, all is exchanged.
  abbrev pub AreAnswered : List ℕ → List ℕ → Type 0
  AreAnswered sent said = (more later : List ℕ) → Exchanged more later → Exchanged (sent ++ more) (said ++ later)

  pub none_answered : AreAnswered [] []
  none_answered more later on = on

  -- nothing more is sent
  pub answered_all : (sent said later : List ℕ) → AreAnswered sent said → Exchanged sent (said ++ later)
  answered_all sent said later all = subst (λ s. Exchanged s (said ++ later)) (append-nil sent) (all [] later (nothing_more [] later refl))

  -- one more request, and the whole answer to it
  pub answered_more : (request : Request) (sent said text answer : List ℕ) (size : ℕ) → AreAnswered sent said → GoesTo place address request → IsWholeText place request text →
      whole_by (answers_to request answer).final ≡ Some size → left_by_answers (answers_to request answer) answer ≡ [] → AreAnswered (sent ++ text) (said ++ answer)
  answered_more request sent said text answer size all goes is_text whole left more later on =
      let grown = left_grows (is_head request.method) answer later (answers_to request answer).final size refl whole in
      let behind : left_by_answers (answers_to request (answer ++ later)) (answer ++ later) ≡ later = grown.1 ∙ ap (λ l. l ++ later) left in
      let one : Exchanged (text ++ more) (answer ++ later) =
      was_answered request text more (text ++ more) (answer ++ later) size goes is_text refl grown.0 (subst (λ l. Exchanged more l) (sym behind) on) in
      subst (λ s. Exchanged s ((said ++ answer) ++ later)) (sym (append_assoc sent text more))
      (subst (λ h. Exchanged (sent ++ (text ++ more)) h) (sym (append_assoc said answer later)) (all (text ++ more) (answer ++ later) one))

  -- or one that is the last
  pub answered_last : (request : Request) (sent said text later : List ℕ) → AreAnswered sent said → GoesTo place address request → IsText place request text → Exchanged (sent ++ text) (said ++ later)
  answered_last request sent said text later all goes is_text = all text later (the_last request text later goes is_text)
