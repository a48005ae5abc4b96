-- Responses with the interim ones in front of them, over more bytes.
use Rattle.std.proofs.Common.{ℕ, zero, suc, ◌+◌, ◌≤◌, ◌≡◌, Bool, true, false, List, [], ◌∷◌, ◌++◌, length, drop, refl, sym, ap, ◌∙◌, subst, arith, Some, None, length-drop, length-append}
use Rattle.std.specs.Prelude.{if◌then◌else◌}
use Rattle.std.proofs.lemmas.List.{drop-append-le}
use Rattle.px_text.specs.Prefix.{IsPrefixOf}
use Rattle.px_head.specs.Front.{response_front}
use Rattle.px_head.specs.declared.raw.RawHead.{RawHead}
use Rattle.px_head.specs.declared.front.Front.{Front}
use Rattle.px_head.specs.declared.front.Front.TheVariants as front
use Rattle.px_head.specs.declared.front.Kind.TheVariants as kind
use Rattle.px_head.proofs.FrontLemmas.{front-stays, used-within}
use Rattle.px_read.specs.Heads.{is_interim, response_head}
use Rattle.px_read.specs.Chunks.{Reading}
use Rattle.px_read.specs.Readings.{as_response, response_behind}
use Rattle.px_read.specs.Items.{Body, missing, complete, response_told, response_item, Answers, behind_interim, answers_behind, answers_within, answer_list}
use Rattle.px_read.specs.Laws.{is_begun}
use Rattle.px_read.specs.declared.head.ResponseHead.{ResponseHead}
use Rattle.px_read.proofs.GrowthLemmas.{ChunkLaws}
use Rattle.px_read.proofs.ItemLemmas.{Carries, response_carries, response_used}

-- no interim response stands here
abbrev here : Bool → Bool → List ℕ → Answers
here asked_head closed bytes = record { interim = []; used = 0; final = response_item asked_head closed bytes }

-- ---- how many interim responses are looked for

-- one that is taken leaves fewer bytes
shorter : (bytes : List ℕ) (raw : RawHead) (used most : ℕ) → response_front bytes ≡ front.Stands raw used → length bytes ≤ suc most
    → length (drop used bytes) ≤ most
shorter bytes raw used most at fits =
    let within = used-within kind.Response bytes raw used at in
    let left = length-drop used bytes in
    let some = within.0 in omega arith

empty_by : (further : List ℕ → Answers) (bytes : List ℕ) (own : Answers) (f : Front) → response_front bytes ≡ f → length bytes ≤ 0
    → answers_behind f further bytes own ≡ own
empty_by further bytes own front.Nothing at none = refl
empty_by further bytes own front.TooLong at none = refl
empty_by further bytes own front.BadHead at none = refl
empty_by further bytes own (front.Stands raw used) at none =
    let within = used-within kind.Response bytes raw used at in
    let some = within.0 in
    let fits = within.1 in absurd (omega arith)

pub empty_answers : (most : ℕ) (asked_head closed : Bool) (bytes : List ℕ) → length bytes ≤ 0
    → answers_within most asked_head closed bytes ≡ here asked_head closed bytes
empty_answers zero asked_head closed bytes none = refl
empty_answers (suc most) asked_head closed bytes none =
    empty_by (answers_within most asked_head closed) bytes (here asked_head closed bytes) (response_front bytes) refl none

enough_at : (interim : Bool) (head : ResponseHead) (used : ℕ) (a b own : Answers) → a ≡ b
    → (if interim then behind_interim head used a else own) ≡ (if interim then behind_interim head used b else own)
enough_at true head used a b own same = ap (behind_interim head used) same
enough_at false head used a b own same = refl

enough_by : (m n : ℕ) (asked_head closed : Bool) (bytes : List ℕ) (f : Front) → response_front bytes ≡ f → length bytes ≤ suc m → length bytes ≤ suc n
    → ((rest : List ℕ) → length rest ≤ m → length rest ≤ n → answers_within m asked_head closed rest ≡ answers_within n asked_head closed rest)
    → answers_behind f (answers_within m asked_head closed) bytes (here asked_head closed bytes)
    ≡ answers_behind f (answers_within n asked_head closed) bytes (here asked_head closed bytes)
enough_by m n asked_head closed bytes front.Nothing at fits also further = refl
enough_by m n asked_head closed bytes front.TooLong at fits also further = refl
enough_by m n asked_head closed bytes front.BadHead at fits also further = refl
enough_by m n asked_head closed bytes (front.Stands raw used) at fits also further =
    enough_at (is_interim (response_head raw)) (response_head raw) used _ _ _
    (further (drop used bytes) (shorter bytes raw used m at fits) (shorter bytes raw used n at also))

pub enough : (m n : ℕ) (asked_head closed : Bool) (bytes : List ℕ) → length bytes ≤ m → length bytes ≤ n
    → answers_within m asked_head closed bytes ≡ answers_within n asked_head closed bytes
enough zero n asked_head closed bytes fits also = sym (empty_answers n asked_head closed bytes fits)
enough (suc m) zero asked_head closed bytes fits also = empty_answers (suc m) asked_head closed bytes also
enough (suc m) (suc n) asked_head closed bytes fits also =
    enough_by m n asked_head closed bytes (response_front bytes) refl fits also (enough m n asked_head closed)

-- ---- more bytes

pub record AnswersCarry (before after : Answers) : Type 0 where
  pub interim : IsPrefixOf before.interim after.interim
  pub begun : is_begun before.final ≡ true → (after.interim ≡ before.interim) × (after.used ≡ before.used)
  pub final : Carries before.final after.final

here_carry : ChunkLaws → (asked_head closed : Bool) (bytes more : List ℕ)
    → AnswersCarry (here asked_head false bytes) (here asked_head closed (bytes ++ more))
here_carry laws asked_head closed bytes more = record {
  interim = ([], refl);
  begun = λ e. (refl, refl);
  final = response_carries laws asked_head closed bytes more;
}

missing_carry : (after : Answers) → AnswersCarry (record { interim = []; used = 0; final = missing }) after
missing_carry after = record {
  interim = (after.interim, refl);
  begun = λ e. absurd (let g : false ≡ true = e in cc);
  final = record { head = λ head e. absurd (let g : None ≡ Some head = e in cc); stays = λ e. absurd (let g : false ≡ true = e in cc) };
}

interim_carry : (head : ResponseHead) (used : ℕ) (before after : Answers) → AnswersCarry before after
    → AnswersCarry (behind_interim head used before) (behind_interim head used after)
interim_carry head used before after c = record {
  interim = (c.interim.0, ap (λ (heads : List ResponseHead). head ∷ heads) c.interim.1);
  begun = λ e. (let both = c.begun e in (ap (λ (heads : List ResponseHead). head ∷ heads) both.0, ap (λ (n : ℕ). used + n) both.1));
  final = c.final;
}

carry_at : (interim : Bool) (head : ResponseHead) (used : ℕ) (before after own later : Answers) → AnswersCarry before after
    → AnswersCarry own later
    → AnswersCarry (if interim then behind_interim head used before else own) (if interim then behind_interim head used after else later)
carry_at true head used before after own later c d = interim_carry head used before after c
carry_at false head used before after own later c d = d

abbrev answers_of : Reading → Answers
answers_of reading = record { interim = []; used = 0; final = response_told reading.marks reading.finish }

nothing_missing : (asked_head : Bool) (bytes : List ℕ) → response_front bytes ≡ front.Nothing
    → here asked_head false bytes ≡ record { interim = []; used = 0; final = missing }
nothing_missing asked_head bytes at =
    ap (λ (f : Front). answers_of (as_response false (response_behind f asked_head false bytes))) at

carry_by : ChunkLaws → (most : ℕ) (asked_head closed : Bool) (bytes more : List ℕ) (f : Front) → response_front bytes ≡ f
    → length (bytes ++ more) ≤ suc most
    → ((rest : List ℕ) → length (rest ++ more) ≤ most
    → AnswersCarry (answers_within most asked_head false rest) (answers_within most asked_head closed (rest ++ more)))
    → AnswersCarry (answers_behind f (answers_within most asked_head false) bytes (here asked_head false bytes))
    (answers_within (suc most) asked_head closed (bytes ++ more))
carry_by laws most asked_head closed bytes more front.Nothing at fits further =
    subst (λ (a : Answers). AnswersCarry a (answers_within (suc most) asked_head closed (bytes ++ more)))
    (sym (nothing_missing asked_head bytes at)) (missing_carry _)
carry_by laws most asked_head closed bytes more front.TooLong at fits further =
    let later : response_front (bytes ++ more) ≡ front.TooLong = front-stays kind.Response bytes more (λ e. cc) ∙ at in
    subst (λ (f : Front). AnswersCarry (here asked_head false bytes) (answers_behind f (answers_within most asked_head closed) (bytes ++ more) (here asked_head closed (bytes ++ more))))
    (sym later) (here_carry laws asked_head closed bytes more)
carry_by laws most asked_head closed bytes more front.BadHead at fits further =
    let later : response_front (bytes ++ more) ≡ front.BadHead = front-stays kind.Response bytes more (λ e. cc) ∙ at in
    subst (λ (f : Front). AnswersCarry (here asked_head false bytes) (answers_behind f (answers_within most asked_head closed) (bytes ++ more) (here asked_head closed (bytes ++ more))))
    (sym later) (here_carry laws asked_head closed bytes more)
carry_by laws most asked_head closed bytes more (front.Stands raw used) at fits further =
    let later : response_front (bytes ++ more) ≡ front.Stands raw used = front-stays kind.Response bytes more (λ e. cc) ∙ at in
    let within = used-within kind.Response bytes raw used at in
    let same = drop-append-le used bytes more within.1 in
    let less = shorter (bytes ++ more) raw used most later fits in
    let behind : AnswersCarry (answers_within most asked_head false (drop used bytes)) (answers_within most asked_head closed (drop used bytes ++ more)) =
    further (drop used bytes) (subst (λ (rest : List ℕ). length rest ≤ most) same less) in
    let moved : AnswersCarry (answers_within most asked_head false (drop used bytes)) (answers_within most asked_head closed (drop used (bytes ++ more))) =
    subst (λ (rest : List ℕ). AnswersCarry (answers_within most asked_head false (drop used bytes)) (answers_within most asked_head closed rest)) (sym same) behind in
    subst (λ (f : Front). AnswersCarry (answers_behind (front.Stands raw used) (answers_within most asked_head false) bytes (here asked_head false bytes)) (answers_behind f (answers_within most asked_head closed) (bytes ++ more) (here asked_head closed (bytes ++ more))))
    (sym later)
    (carry_at (is_interim (response_head raw)) (response_head raw) used _ _ _ _ moved (here_carry laws asked_head closed bytes more))

pub carry_within : ChunkLaws → (most : ℕ) (asked_head closed : Bool) (more bytes : List ℕ) → length (bytes ++ more) ≤ most
    → AnswersCarry (answers_within most asked_head false bytes) (answers_within most asked_head closed (bytes ++ more))
carry_within laws zero asked_head closed more bytes fits = here_carry laws asked_head closed bytes more
carry_within laws (suc most) asked_head closed more bytes fits =
    carry_by laws most asked_head closed bytes more (response_front bytes) refl fits (carry_within laws most asked_head closed more)

pub answers_carry : ChunkLaws → (asked_head closed : Bool) (bytes more : List ℕ)
    → AnswersCarry (answer_list asked_head false bytes) (answer_list asked_head closed (bytes ++ more))
answers_carry laws asked_head closed bytes more =
    let longer = length-append bytes more in
    let most = length (bytes ++ more) in
    subst (λ (a : Answers). AnswersCarry a (answer_list asked_head closed (bytes ++ more)))
    (enough most (length bytes) asked_head false bytes (omega arith) (omega arith))
    (carry_within laws most asked_head closed more bytes (omega arith))

-- ---- what answers used

pub record AreWithin (n : ℕ) (a : Answers) : Type 0 where
  pub used : a.used ≤ n
  pub final : (head : ResponseHead) (body : Body) (trailers : List (List ℕ × List ℕ)) (used : ℕ)
      → a.final ≡ complete head body trailers used → (1 ≤ used) × (a.used + used ≤ n)

here_within : ChunkLaws → (asked_head closed : Bool) (bytes : List ℕ) → AreWithin (length bytes) (here asked_head closed bytes)
here_within laws asked_head closed bytes = record {
  used = omega arith;
  final = λ head body trailers used e.
      (let both = response_used laws asked_head closed bytes head body trailers used e in
      let fits = both.1 in (both.0, omega arith));
}

within_at : (interim : Bool) (head : ResponseHead) (taken n : ℕ) (behind own : Answers) → AreWithin n behind → AreWithin (taken + n) own
    → AreWithin (taken + n) (if interim then behind_interim head taken behind else own)
within_at true head taken n behind own w v = record {
  used = let fits = w.used in omega arith;
  final = λ h body trailers used e.
      (let both = w.final h body trailers used e in
      let fits = both.1 in (both.0, omega arith));
}
within_at false head taken n behind own w v = v

within_by : ChunkLaws → (most : ℕ) (asked_head closed : Bool) (bytes : List ℕ) (f : Front) → response_front bytes ≡ f
    → ((rest : List ℕ) → AreWithin (length rest) (answers_within most asked_head closed rest))
    → AreWithin (length bytes) (answers_behind f (answers_within most asked_head closed) bytes (here asked_head closed bytes))
within_by laws most asked_head closed bytes front.Nothing at further = here_within laws asked_head closed bytes
within_by laws most asked_head closed bytes front.TooLong at further = here_within laws asked_head closed bytes
within_by laws most asked_head closed bytes front.BadHead at further = here_within laws asked_head closed bytes
within_by laws most asked_head closed bytes (front.Stands raw used) at further =
    let within = used-within kind.Response bytes raw used at in
    let left = length-drop used bytes in
    let fits = within.1 in
    let all : length bytes ≡ used + length (drop used bytes) = omega arith in
    subst (λ (n : ℕ). AreWithin n (answers_behind (front.Stands raw used) (answers_within most asked_head closed) bytes (here asked_head closed bytes))) (sym all)
    (within_at (is_interim (response_head raw)) (response_head raw) used (length (drop used bytes)) _ _ (further (drop used bytes))
    (subst (λ (n : ℕ). AreWithin n (here asked_head closed bytes)) all (here_within laws asked_head closed bytes)))

pub answers_used : ChunkLaws → (most : ℕ) (asked_head closed : Bool) (bytes : List ℕ)
    → AreWithin (length bytes) (answers_within most asked_head closed bytes)
answers_used laws zero asked_head closed bytes = here_within laws asked_head closed bytes
answers_used laws (suc most) asked_head closed bytes =
    within_by laws most asked_head closed bytes (response_front bytes) refl (answers_used laws most asked_head closed)
