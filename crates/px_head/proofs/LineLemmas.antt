-- Empty lines at the front of bytes.
use Rattle.std.proofs.Common.{ℕ, zero, suc, ◌+◌, ◌<◌, ◌≤◌, ◌≡◌, List, [], ◌∷◌, ◌++◌, length, take, drop, refl, sym, ap, ◌∙◌, subst, arith, inl, inr, length-take, drop-drop, take-append-drop}
use Rattle.std.specs.Prelude.{◌⊎◌, slice_range}
use Rattle.std.proofs.lemmas.Grind.{common_steps}
use Rattle.std.proofs.lemmas.Bool.Decides.{eqb_tells}
use Rattle.px_head.specs.Front.{blank_lines, line_end}

pub line_end-lf : (text : List ℕ) → line_end (10 ∷ text) ≡ 1
line_end-lf [] = refl
line_end-lf (b ∷ text) = refl

pub line_end-crlf : (text : List ℕ) → line_end (13 ∷ 10 ∷ text) ≡ 2
line_end-crlf text = refl

pub blank_lines-lf : (text : List ℕ) → blank_lines (10 ∷ text) ≡ suc (blank_lines text)
blank_lines-lf [] = refl
blank_lines-lf (b ∷ text) = omega arith

pub blank_lines-crlf : (text : List ℕ) → blank_lines (13 ∷ 10 ∷ text) ≡ suc (suc (blank_lines text))
blank_lines-crlf text = omega arith

-- no line end at the front, or one of the two
abbrev Begun : List ℕ → Type 0
Begun bytes =
    ((line_end bytes ≡ 0) × (blank_lines bytes ≡ 0))
    ⊎ (((text : List ℕ) × (bytes ≡ 10 ∷ text)) ⊎ ((text : List ℕ) × (bytes ≡ 13 ∷ 10 ∷ text)))

begun : (bytes : List ℕ) → Begun bytes
begun [] = inl (refl, refl)
begun (a ∷ []) = elim (eqb_tells a 10) [
  | inl t ↦ inr (inl ([], ap (λ (v : ℕ). v ∷ []) t.1))
  | inr f ↦ inl (rw f.0 refl, rw f.0 refl)
]
begun (a ∷ b ∷ rest) = elim (eqb_tells a 10) [
  | inl t ↦ inr (inl (b ∷ rest, ap (λ (v : ℕ). v ∷ b ∷ rest) t.1))
  | inr f ↦ elim (eqb_tells a 13) [
    | inl t ↦ elim (eqb_tells b 10) [
      | inl u ↦ inr (inr (rest, (λ i. t.1 i ∷ u.1 i ∷ rest)))
      | inr g ↦ inl (rw (f.0, t.0, g.0) refl, rw (f.0, t.0, g.0) refl)
    ]
    | inr g ↦ inl (rw (f.0, g.0) refl, rw (f.0, g.0) refl)
  ]
]

by_lines_below : (P : List ℕ → Type 0) → ((bytes : List ℕ) → line_end bytes ≡ 0 → blank_lines bytes ≡ 0 → P bytes)
    → ((text : List ℕ) → P text → P (10 ∷ text)) → ((text : List ℕ) → P text → P (13 ∷ 10 ∷ text))
    → (n : ℕ) (bytes : List ℕ) → length bytes ≤ n → P bytes
by_lines_below P none lf crlf zero bytes fits = elim (begun bytes) [
  | inl h ↦ none bytes h.0 h.1
  | inr h ↦ elim h [
    | inl t ↦ (let e = ap (λ (l : List ℕ). length l) t.1 in absurd (omega arith))
    | inr t ↦ (let e = ap (λ (l : List ℕ). length l) t.1 in absurd (omega arith))
  ]
]
by_lines_below P none lf crlf (suc n) bytes fits = elim (begun bytes) [
  | inl h ↦ none bytes h.0 h.1
  | inr h ↦ elim h [
    | inl t ↦ (let e = ap (λ (l : List ℕ). length l) t.1 in
        subst P (sym t.1) (lf t.0 (by_lines_below P none lf crlf n t.0 (omega arith))))
    | inr t ↦ (let e = ap (λ (l : List ℕ). length l) t.1 in
        subst P (sym t.1) (crlf t.0 (by_lines_below P none lf crlf n t.0 (omega arith))))
  ]
]

-- what holds of bytes with no line end at the front, and goes on over each line end, holds of all bytes
pub by_lines : (P : List ℕ → Type 0) → ((bytes : List ℕ) → line_end bytes ≡ 0 → blank_lines bytes ≡ 0 → P bytes)
    → ((text : List ℕ) → P text → P (10 ∷ text)) → ((text : List ℕ) → P text → P (13 ∷ 10 ∷ text))
    → (bytes : List ℕ) → P bytes
by_lines P none lf crlf bytes = by_lines_below P none lf crlf (length bytes) bytes (omega arith)

pub blank_lines_none : (bytes : List ℕ) → line_end bytes ≡ 0 → blank_lines bytes ≡ 0
blank_lines_none = by_lines (λ bytes. line_end bytes ≡ 0 → blank_lines bytes ≡ 0)
    (λ bytes e z h. z)
    (λ text ih h. absurd (let e = sym (line_end-lf text) ∙ h in omega arith))
    (λ text ih h. absurd (let e = sym (line_end-crlf text) ∙ h in omega arith))

pub blank_lines_next : (bytes : List ℕ) → 0 < line_end bytes
    → line_end bytes + blank_lines (drop (line_end bytes) bytes) ≡ blank_lines bytes
blank_lines_next = by_lines
    (λ bytes. 0 < line_end bytes → line_end bytes + blank_lines (drop (line_end bytes) bytes) ≡ blank_lines bytes)
    (λ bytes e z h. absurd (omega arith))
    (λ text ih h. rw (line_end-lf text, blank_lines-lf text) (omega arith))
    (λ text ih h. rw (blank_lines-crlf text) (omega arith))

pub blank_lines_within : (bytes : List ℕ) → blank_lines bytes ≤ length bytes
blank_lines_within = by_lines (λ bytes. blank_lines bytes ≤ length bytes)
    (λ bytes e z. rw z (omega arith))
    (λ text ih. rw (blank_lines-lf text) (omega arith))
    (λ text ih. rw (blank_lines-crlf text) (omega arith))

-- the skipped bytes are empty lines alone
pub blank_lines_take : (bytes : List ℕ) → blank_lines (take (blank_lines bytes) bytes) ≡ blank_lines bytes
blank_lines_take = by_lines (λ bytes. blank_lines (take (blank_lines bytes) bytes) ≡ blank_lines bytes)
    (λ bytes e z. rw z refl)
    (λ text ih. rw (blank_lines-lf text) (blank_lines-lf (take (blank_lines text) text) ∙ ap suc ih))
    (λ text ih. rw (blank_lines-crlf text) (blank_lines-crlf (take (blank_lines text) text) ∙ ap (λ (n : ℕ). suc (suc n)) ih))

nil_of : (bytes : List ℕ) → 0 ≡ length bytes → bytes ≡ []
nil_of [] e = refl
nil_of (b ∷ bytes) e = absurd (omega arith)

-- behind empty lines the count goes on
pub blank_lines-append : (front : List ℕ) → blank_lines front ≡ length front
    → (more : List ℕ) → blank_lines (front ++ more) ≡ length front + blank_lines more
blank_lines-append = by_lines
    (λ front. blank_lines front ≡ length front → (more : List ℕ) → blank_lines (front ++ more) ≡ length front + blank_lines more)
    (λ front e z h more. let empty : front ≡ [] = nil_of front (sym z ∙ h) in rw empty (omega arith))
    (λ text ih h more. let short : blank_lines text ≡ length text = (let e = sym (blank_lines-lf text) ∙ h in omega arith) in
    let rest = ih short more in blank_lines-lf (text ++ more) ∙ omega arith)
    (λ text ih h more. let short : blank_lines text ≡ length text = (let e = sym (blank_lines-crlf text) ∙ h in omega arith) in
    let rest = ih short more in blank_lines-crlf (text ++ more) ∙ omega arith)

pub line_end-stays : (bytes more : List ℕ) → 2 ≤ length bytes → line_end (bytes ++ more) ≡ line_end bytes
line_end-stays [] more two = absurd (omega arith)
line_end-stays (a ∷ []) more two = absurd (omega arith)
line_end-stays (a ∷ b ∷ rest) more two = refl

-- two bytes behind the empty lines settle how many there are
pub blank_lines-stays : (bytes : List ℕ) → blank_lines bytes + 2 ≤ length bytes
    → (more : List ℕ) → blank_lines (bytes ++ more) ≡ blank_lines bytes
blank_lines-stays = by_lines
    (λ bytes. blank_lines bytes + 2 ≤ length bytes → (more : List ℕ) → blank_lines (bytes ++ more) ≡ blank_lines bytes)
    (λ bytes e z h more. blank_lines_none (bytes ++ more) (line_end-stays bytes more (omega arith) ∙ e) ∙ sym z)
    (λ text ih h more. let s = blank_lines-lf text in
    blank_lines-lf (text ++ more) ∙ ap suc (ih (omega arith) more) ∙ sym (blank_lines-lf text))
    (λ text ih h more. let s = blank_lines-crlf text in
    blank_lines-crlf (text ++ more) ∙ ap (λ (n : ℕ). suc (suc n)) (ih (omega arith) more) ∙ sym (blank_lines-crlf text))

pub blank_lines-grows : (bytes more : List ℕ) → blank_lines bytes ≤ blank_lines (bytes ++ more)
blank_lines-grows bytes more = by_lines (λ bytes. blank_lines bytes ≤ blank_lines (bytes ++ more))
    (λ bytes e z. rw z (omega arith))
    (λ text ih. rw (blank_lines-lf text, blank_lines-lf (text ++ more)) (omega arith))
    (λ text ih. rw (blank_lines-crlf text, blank_lines-crlf (text ++ more)) (omega arith)) bytes

-- ---- a walk over the empty lines

pub skip_step : (bytes : List ℕ) (at width : ℕ) → at ≤ length bytes → width ≡ line_end (drop at bytes) → 0 < width
    → at + width + blank_lines (drop (at + width) bytes) ≡ at + blank_lines (drop at bytes)
skip_step bytes at width fits is some =
    let next : width + blank_lines (drop width (drop at bytes)) ≡ blank_lines (drop at bytes) =
    subst (λ (n : ℕ). n + blank_lines (drop n (drop at bytes)) ≡ blank_lines (drop at bytes)) (sym is)
    (blank_lines_next (drop at bytes) (subst (λ (n : ℕ). 0 < n) is some)) in
    let e = ap (λ (l : List ℕ). blank_lines l) (drop-drop width at bytes) in
    omega arith

-- the empty lines of which the first are known
pub skip_whole : (bytes : List ℕ) (skipped : ℕ) → skipped ≤ length bytes → blank_lines (take skipped bytes) ≡ skipped
    → skipped + blank_lines (drop skipped bytes) ≡ blank_lines bytes
skip_whole bytes skipped fits known =
    let size : length (take skipped bytes) ≡ skipped = omega (arith, length-take skipped bytes) in
    let e = blank_lines-append (take skipped bytes) (known ∙ sym size) (drop skipped bytes) in
    let f = ap (λ (l : List ℕ). blank_lines l) (take-append-drop skipped bytes) in
    omega arith

-- the slice from a place to the end
pub rest_slice : (bytes : List ℕ) (at : ℕ) → slice_range bytes at (length bytes) ≡ drop at bytes
rest_slice bytes at = grind (arith, common_steps)

-- ---- one line end

pub line_end-within : (bytes : List ℕ) → line_end bytes ≤ length bytes
line_end-within = by_lines (λ bytes. line_end bytes ≤ length bytes)
    (λ bytes e z. rw e (omega arith))
    (λ text ih. rw (line_end-lf text) (omega arith))
    (λ text ih. rw (line_end-crlf text) (omega arith))

pub line_end-short : (bytes : List ℕ) → line_end bytes ≤ 2
line_end-short = by_lines (λ bytes. line_end bytes ≤ 2)
    (λ bytes e z. rw e (omega arith))
    (λ text ih. rw (line_end-lf text) (omega arith))
    (λ text ih. rw (line_end-crlf text) (omega arith))

-- a line end at the front stays one
pub line_end-kept : (bytes more : List ℕ) (n : ℕ) → line_end bytes ≡ suc n → line_end (bytes ++ more) ≡ suc n
line_end-kept bytes more n = by_lines (λ bytes. line_end bytes ≡ suc n → line_end (bytes ++ more) ≡ suc n)
    (λ bytes e z h. absurd (let f = sym e ∙ h in omega arith))
    (λ text ih h. line_end-lf (text ++ more) ∙ sym (line_end-lf text) ∙ h)
    (λ text ih h. line_end-crlf (text ++ more) ∙ sym (line_end-crlf text) ∙ h) bytes
