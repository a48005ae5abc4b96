-- Digits of a length: one more, and where none may follow.
use Rattle.std.proofs.Common.{◌≡◌, ◌∙◌, ◌<◌, ◌≤◌, ◌+◌, ◌*◌, ◌/◌, ◌%◌, ◌⊎◌, ℕ, List, [], ◌∷◌, ◌++◌, length, get_or, take, drop, decimal, Option, Some, None, refl, sym, ap, ap₂, subst, arith, inl, inr, length-append, take-append-drop}
use Rattle.std.proofs.lemmas.List.{drop_more}
use Rattle.std.proofs.lemmas.Bool.{cases_lt}
use Rattle.std.proofs.lemmas.Fmt.{decimal_digit, decimal_step, decimal_injective, decimal_nonempty}
use Rattle.px_tnet.specs.Digits.{IsFront, IsStep}
use Rattle.px_tnet.specs.Frame.{BeginsLength, IsBadLength, IsLength, colon, too_many}
use Rattle.px_tnet.specs.declared.length.Step.TheVariants as step

first : List ℕ → ℕ
first l = get_or l 0 0

pub snoc_both : (xs ys : List ℕ) (a b : ℕ) → xs ++ (a ∷ []) ≡ ys ++ (b ∷ []) → (xs ≡ ys) × (a ≡ b)
snoc_both [] [] a b h = (refl, ap (λ l. get_or l 0 0) h)
snoc_both [] (y ∷ ys) a b h = absurd (let l = ap length h in let m = length-append ys (b ∷ []) in omega arith)
snoc_both (x ∷ xs) [] a b h = absurd (let l = ap length h in let m = length-append xs (a ∷ []) in omega arith)
snoc_both (x ∷ xs) (y ∷ ys) a b h =
    let rest = snoc_both xs ys a b (ap (drop 1) h) in
    (ap₂ (λ c cs. c ∷ cs) (ap (λ l. get_or l 0 0) h) rest.0, rest.1)

pub add_digit : (n d : ℕ) → 0 < n → n < 100000000 → d < 10 → decimal n ++ ((48 + d) ∷ []) ≡ decimal (n * 10 + d)
add_digit n d some small digit =
    let q : (n * 10 + d) / 10 ≡ n = omega arith in
    let r : (n * 10 + d) % 10 ≡ d = omega arith in
    sym (decimal_step (n * 10 + d) (omega arith) (omega arith) ∙ (λ i. decimal (q i) ++ ((48 + r i) ∷ [])))

-- what stands in front of the last digit
pub before_last : (front : List ℕ) (byte n : ℕ) → 0 < length front → n < too_many → front ++ (byte ∷ []) ≡ decimal n
    → (10 ≤ n) × (front ≡ decimal (n / 10)) × (byte ≡ 48 + n % 10)
before_last front byte n some small h =
    elim (cases_lt n 10) [
      | inl digit ↦ absurd (
          let l = length-append front (byte ∷ []) in
          let m = ap length (h ∙ decimal_digit n digit) in
          omega arith)
      | inr more ↦ (
          let both = snoc_both front (decimal (n / 10)) byte (48 + n % 10) (h ∙ decimal_step n more (omega arith)) in
          (more, both.0, both.1))
    ]

pub no_length_is_empty : ¬ (IsLength [])
no_length_is_empty (n, small, h) =
    let l = decimal_nonempty n (omega arith) in
    let m = ap length h in
    absurd (omega arith)

pub first_digit : (front : Option ℕ) (byte d : ℕ) → front ≡ None → d < 10 → byte ≡ 48 + d
    → (text : List ℕ) → IsFront front text → IsStep text byte (step.More d)
first_digit front byte d none small is text h =
    let empty : text ≡ [] = (let P : Option ℕ → Type 0 = λ f. IsFront f text in subst P none h) in
    (omega arith, (λ i. empty i ++ (is i ∷ [])) ∙ sym (decimal_digit d small))

pub no_first : (front : Option ℕ) (byte : ℕ) → front ≡ None → ((d : ℕ) → d < 10 → ¬ (byte ≡ 48 + d))
    → (text : List ℕ) → IsFront front text → IsStep text byte step.Bad
no_first front byte none other text h =
    let empty : text ≡ [] = (let P : Option ℕ → Type 0 = λ f. IsFront f text in subst P none h) in
    let P : List ℕ → Type 0 = λ t. IsStep t byte step.Bad in
    subst P (sym empty) (
      (λ begins. elim begins [
        | inl e ↦ absurd (let l = ap length e in omega arith)
        | inr l ↦ elim (cases_lt l.0 10) [
          | inl digit ↦ other l.0 digit (ap (λ t. get_or t 0 0) (l.2 ∙ decimal_digit l.0 digit))
          | inr more ↦ absurd (
              let e = l.2 ∙ decimal_step l.0 more (let s = l.1 in omega arith) in
              let both = snoc_both [] (decimal (l.0 / 10)) byte (48 + l.0 % 10) e in
              let n = decimal_nonempty (l.0 / 10) (let s = l.1 in omega arith) in
              let m = ap length both.0 in
              omega arith)
        ]
      ]),
      (λ h. no_length_is_empty h.0),
    )

some_front : (front : Option ℕ) (count : ℕ) (text : List ℕ) → front ≡ Some count → IsFront front text
    → (count < too_many) × (text ≡ decimal count)
some_front front count text is h = let P : Option ℕ → Type 0 = λ f. IsFront f text in subst P is h

pub one_more : (front : Option ℕ) (count byte d : ℕ) → front ≡ Some count → 0 < count → count < 100000000 → d < 10 → byte ≡ 48 + d
    → (text : List ℕ) → IsFront front text → IsStep text byte (step.More (count * 10 + d))
one_more front count byte d is some small digit last text h =
    let f = some_front front count text is h in
    (omega arith, (λ i. f.1 i ++ (last i ∷ [])) ∙ add_digit count d some small digit)

pub no_more : (front : Option ℕ) (count byte : ℕ) → front ≡ Some count → ¬ (byte ≡ colon)
    → ((count ≡ 0) ⊎ (100000000 ≤ count) ⊎ ((d : ℕ) → d < 10 → ¬ (byte ≡ 48 + d)))
    → (text : List ℕ) → IsFront front text → IsStep text byte step.Bad
no_more front count byte is other full text h =
    let f = some_front front count text is h in
    let long : 0 < length text = (let n = decimal_nonempty count (let s = f.0 in omega arith) in let l = ap length f.1 in omega arith) in (
      (λ begins. elim begins [
        | inl e ↦ absurd (let l = ap length e in let m = length-append text (byte ∷ []) in omega arith)
        | inr l ↦ (
            let b = before_last text byte l.0 long l.1 l.2 in
            let same : count ≡ l.0 / 10 = decimal_injective count (l.0 / 10) (let s = f.0 in omega arith) (let s = l.1 in omega arith) (sym f.1 ∙ b.1) in
            elim full [
              | inl zero ↦ absurd (let m = b.0 in omega arith)
              | inr more ↦ elim more [
                | inl large ↦ absurd (let s = l.1 in omega arith)
                | inr none ↦ none (l.0 % 10) (omega arith) b.2
              ]
            ])
      ]),
      (λ h. other h.1),
    )

begins : (front : Option ℕ) (text : List ℕ) → IsFront front text → BeginsLength text
begins None text h = inl h
begins (Some n) text h = inr (n, h.0, h.1)

-- the byte at a place goes on with no length
pub bad_length : (text : List ℕ) (at : ℕ) (front : Option ℕ) → at < length text → IsFront front (take at text)
    → IsStep (take at text) (get_or text at 0) step.Bad → IsBadLength text
bad_length text at front within is bad = (
  take at text,
  get_or text at 0,
  drop (at + 1) text,
  sym (take-append-drop at text) ∙ ap (λ l. take at text ++ l) (drop_more text at 0 within),
  begins front (take at text) is,
  bad.0,
  bad.1,
)
