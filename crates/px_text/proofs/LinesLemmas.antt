-- A block written line by line: no empty line stands in it before its last one, so the block ends there.
use Rattle.std.proofs.Common.{ℕ, suc, ◌+◌, ◌-◌, ◌<◌, ◌≤◌, ◌≡◌, ◌≢◌, Bool, true, false, ◌&&◌, ◌||◌, List, [], ◌∷◌, ◌++◌, length, get_or, refl, sym, ap, ◌∙◌, subst, arith, inl, inr, Some, append_assoc, length-append}
use Rattle.std.specs.Prelude.{nat_le, ◌==◌, slice_index, ◌⊎◌, All}
use Rattle.std.proofs.lemmas.Bool.{ne_eqb, eq-eqb}
use Rattle.std.proofs.lemmas.Bool.Decides.{leb_tells}
use Rattle.std.proofs.lemmas.List.{get_or-append-add}
use Rattle.std.proofs.lemmas.List.Elements.{All-head, All-tail}
use Rattle.px_text.specs.Blank.{ends_blank, blank_end}
use Rattle.px_text.specs.Least.{least}
use Rattle.px_text.proofs.BlankLemmas.{NoEnd, ends_blank-append, ends_blank-short}
use Rattle.px_text.proofs.LeastLemmas.{least_skip, least_here}

-- ---- the test at one place

no_lf : (p x : Bool) → ((p && false) && x) ≡ false
no_lf true x = refl
no_lf false x = refl

no_lf_before : (p q s u : Bool) → ((p && q) && (false || ((s && false) && u))) ≡ false
no_lf_before true true true u = refl
no_lf_before true true false u = refl
no_lf_before true false s u = refl
no_lf_before false q s u = refl

no_lf_third : (p q s t : Bool) → ((p && q) && (false || ((s && t) && false))) ≡ false
no_lf_third true true true true = refl
no_lf_third true true true false = refl
no_lf_third true true false t = refl
no_lf_third true false s t = refl
no_lf_third false q s t = refl

-- the byte before the end is no LF
not_end : (bytes : List ℕ) (start end : ℕ) → slice_index bytes (end - 1) ≢ 10 → ends_blank bytes start end ≡ false
not_end bytes start end other = rw (ne_eqb (slice_index bytes (end - 1)) 10 other) (no_lf (nat_le (start + 2) end) _)

-- the byte before that is neither LF nor CR
not_end_plain : (bytes : List ℕ) (start end : ℕ) → slice_index bytes (end - 2) ≢ 10 → slice_index bytes (end - 2) ≢ 13
    → ends_blank bytes start end ≡ false
not_end_plain bytes start end not_lf not_cr =
    rw (ne_eqb (slice_index bytes (end - 2)) 10 not_lf, ne_eqb (slice_index bytes (end - 2)) 13 not_cr)
    (no_lf_before (nat_le (start + 2) end) (slice_index bytes (end - 1) == 10) (nat_le (start + 3) end) (slice_index bytes (end - 3) == 10))

-- it is no LF, nor is the one before it
not_end_third : (bytes : List ℕ) (start end : ℕ) → slice_index bytes (end - 2) ≢ 10 → slice_index bytes (end - 3) ≢ 10
    → ends_blank bytes start end ≡ false
not_end_third bytes start end not_lf no_line =
    rw (ne_eqb (slice_index bytes (end - 2)) 10 not_lf, ne_eqb (slice_index bytes (end - 3)) 10 no_line)
    (no_lf_third (nat_le (start + 2) end) (slice_index bytes (end - 1) == 10) (nat_le (start + 3) end) (slice_index bytes (end - 2) == 13))

le_test : (a b : ℕ) → a ≤ b → nat_le a b ≡ true
le_test a b h = elim (leb_tells a b) [ inl t ↦ t.0 | inr f ↦ (let g = f.1 in absurd (omega arith)) ]

end_lf : (bytes : List ℕ) (start end : ℕ) → start + 2 ≤ end → slice_index bytes (end - 1) ≡ 10
    → slice_index bytes (end - 2) ≡ 10 → ends_blank bytes start end ≡ true
end_lf bytes start end far one two = rw (
  le_test (start + 2) end far,
  eq-eqb (slice_index bytes (end - 1)) 10 one,
  eq-eqb (slice_index bytes (end - 2)) 10 two,
) refl

end_crlf : (bytes : List ℕ) (start end : ℕ) → start + 3 ≤ end → slice_index bytes (end - 1) ≡ 10
    → slice_index bytes (end - 2) ≡ 13 → slice_index bytes (end - 3) ≡ 10 → ends_blank bytes start end ≡ true
end_crlf bytes start end far one two three = rw (
  le_test (start + 2) end (omega arith),
  le_test (start + 3) end far,
  eq-eqb (slice_index bytes (end - 1)) 10 one,
  eq-eqb (slice_index bytes (end - 2)) 13 two,
  eq-eqb (slice_index bytes (end - 3)) 10 three,
  ne_eqb (slice_index bytes (end - 2)) 10 (λ e. let f : ◌≡◌ {A = ℕ} 13 10 = sym two ∙ e in absurd (omega arith)),
) refl

-- ---- bytes in which no block ends

pub record HasNoBlank (start : ℕ) (bytes : List ℕ) : Type 0 where
  pub within : start ≤ length bytes
  pub none : NoEnd bytes start (length bytes)

-- at the start of the block
pub HasNoBlank_start : (bytes : List ℕ) → HasNoBlank (length bytes) bytes
HasNoBlank_start bytes = record {
  within = omega arith;
  none = λ end low. ends_blank-short bytes (length bytes) end (omega arith);
}

byte_at : (front rest : List ℕ) (i n : ℕ) → i ≡ length front + n → slice_index (front ++ rest) i ≡ get_or rest n 0
byte_at front rest i n is = ap (λ (k : ℕ). get_or (front ++ rest) k 0) is ∙ get_or-append-add front rest n 0

-- what holds up to the old length and at the next place holds up to the new one
push_by : (start : ℕ) (bytes : List ℕ) (b : ℕ) → HasNoBlank start bytes
    → ends_blank (bytes ++ b ∷ []) start (length bytes + 1) ≡ false → HasNoBlank start (bytes ++ b ∷ [])
push_by start bytes b h fails =
    let size = length-append bytes (b ∷ []) in
    let fits = h.within in
    record {
      within = omega arith;
      none = λ end low. elim (leb_tells end (length bytes)) [
        | inl t ↦ ends_blank-append bytes (b ∷ []) start end t.1 ∙ h.none end t.1
        | inr f ↦
            let above = f.1 in
            let at : end ≡ length bytes + 1 = omega arith in
            ap (λ (k : ℕ). ends_blank (bytes ++ b ∷ []) start k) at ∙ fails
      ];
    }

push_plain : (start : ℕ) (bytes : List ℕ) (b : ℕ) → b ≢ 10 → HasNoBlank start bytes → HasNoBlank start (bytes ++ b ∷ [])
push_plain start bytes b plain h = push_by start bytes b h (not_end (bytes ++ b ∷ []) start (length bytes + 1)
    (λ e. plain (sym (byte_at bytes (b ∷ []) (length bytes + 1 - 1) 0 (omega arith)) ∙ e)))

-- a line end behind a byte that is neither LF nor CR
push_lf : (start : ℕ) (front : List ℕ) (a : ℕ) → a ≢ 10 → a ≢ 13 → HasNoBlank start (front ++ a ∷ [])
    → HasNoBlank start ((front ++ a ∷ []) ++ 10 ∷ [])
push_lf start front a not_lf not_cr h =
    let size = length-append front (a ∷ []) in
    let regroup = append_assoc front (a ∷ []) (10 ∷ []) in
    let at : slice_index ((front ++ a ∷ []) ++ 10 ∷ []) (length (front ++ a ∷ []) + 1 - 2) ≡ a =
    ap (λ (l : List ℕ). slice_index l (length (front ++ a ∷ []) + 1 - 2)) regroup
    ∙ byte_at front (a ∷ 10 ∷ []) (length (front ++ a ∷ []) + 1 - 2) 0 (omega arith) in
    push_by start (front ++ a ∷ []) 10 h (not_end_plain ((front ++ a ∷ []) ++ 10 ∷ []) start (length (front ++ a ∷ []) + 1)
    (λ e. not_lf (sym at ∙ e)) (λ e. not_cr (sym at ∙ e)))

push_crlf : (start : ℕ) (front : List ℕ) (a : ℕ) → a ≢ 10 → HasNoBlank start (front ++ a ∷ [])
    → HasNoBlank start ((front ++ a ∷ []) ++ 13 ∷ 10 ∷ [])
push_crlf start front a not_lf h =
    let cr = push_plain start (front ++ a ∷ []) 13 (λ e. omega arith) h in
    let whole = (front ++ a ∷ []) ++ 13 ∷ [] in
    let size = length-append front (a ∷ []) in
    let size_two = length-append (front ++ a ∷ []) (13 ∷ []) in
    let regroup : ((front ++ a ∷ []) ++ 13 ∷ []) ++ 10 ∷ [] ≡ front ++ (a ∷ 13 ∷ 10 ∷ []) = simp append_assoc in
    let two : slice_index (((front ++ a ∷ []) ++ 13 ∷ []) ++ 10 ∷ []) (length ((front ++ a ∷ []) ++ 13 ∷ []) + 1 - 2) ≡ 13 =
    ap (λ (l : List ℕ). slice_index l (length ((front ++ a ∷ []) ++ 13 ∷ []) + 1 - 2)) regroup
    ∙ byte_at front (a ∷ 13 ∷ 10 ∷ []) (length ((front ++ a ∷ []) ++ 13 ∷ []) + 1 - 2) 1 (omega arith) in
    let three : slice_index (((front ++ a ∷ []) ++ 13 ∷ []) ++ 10 ∷ []) (length ((front ++ a ∷ []) ++ 13 ∷ []) + 1 - 3) ≡ a =
    ap (λ (l : List ℕ). slice_index l (length ((front ++ a ∷ []) ++ 13 ∷ []) + 1 - 3)) regroup
    ∙ byte_at front (a ∷ 13 ∷ 10 ∷ []) (length ((front ++ a ∷ []) ++ 13 ∷ []) + 1 - 3) 0 (omega arith) in
    subst (λ (l : List ℕ). HasNoBlank start l) (append_assoc (front ++ a ∷ []) (13 ∷ []) (10 ∷ []))
    (push_by start ((front ++ a ∷ []) ++ 13 ∷ []) 10 cr
    (not_end_third (((front ++ a ∷ []) ++ 13 ∷ []) ++ 10 ∷ []) start (length ((front ++ a ∷ []) ++ 13 ∷ []) + 1)
    (λ e. let f : ◌≡◌ {A = ℕ} 13 10 = sym two ∙ e in absurd (omega arith)) (λ e. not_lf (sym three ∙ e))))

-- ---- lines

-- neither LF nor CR
abbrev pub IsInLine : ℕ → Type 0
IsInLine b = (b ≢ 10) × (b ≢ 13)

abbrev pub IsLineEnd : List ℕ → Type 0
IsLineEnd end = (end ≡ 10 ∷ []) ⊎ (end ≡ 13 ∷ 10 ∷ [])

push_end : (start : ℕ) (front : List ℕ) (a : ℕ) (end : List ℕ) → IsInLine a → IsLineEnd end → HasNoBlank start (front ++ a ∷ [])
    → HasNoBlank start ((front ++ a ∷ []) ++ end)
push_end start front a end plain (inl is) h =
    subst (λ (l : List ℕ). HasNoBlank start ((front ++ a ∷ []) ++ l)) (sym is) (push_lf start front a plain.0 plain.1 h)
push_end start front a end plain (inr is) h =
    subst (λ (l : List ℕ). HasNoBlank start ((front ++ a ∷ []) ++ l)) (sym is) (push_crlf start front a plain.0 h)

line_from : (start : ℕ) (front : List ℕ) (a : ℕ) (text end : List ℕ) → IsInLine a → All IsInLine text → IsLineEnd end
    → HasNoBlank start (front ++ a ∷ []) → HasNoBlank start ((front ++ a ∷ []) ++ (text ++ end))
line_from start front a [] end plain all ends h = push_end start front a end plain ends h
line_from start front a (b ∷ text) end plain all ends h =
    let first = All-head IsInLine b text all in
    subst (λ (l : List ℕ). HasNoBlank start l) (append_assoc (front ++ a ∷ []) (b ∷ []) (text ++ end))
    (line_from start (front ++ a ∷ []) b text end first (All-tail IsInLine b text all) ends
    (push_plain start (front ++ a ∷ []) b first.0 h))

-- a line that is not empty
pub line_pushed : (start : ℕ) (front text end : List ℕ) → 0 < length text → All IsInLine text → IsLineEnd end
    → HasNoBlank start front → HasNoBlank start (front ++ (text ++ end))
line_pushed start front [] end some all ends h = absurd (omega arith)
line_pushed start front (a ∷ text) end some all ends h =
    let first = All-head IsInLine a text all in
    subst (λ (l : List ℕ). HasNoBlank start l) (append_assoc front (a ∷ []) (text ++ end))
    (line_from start front a text end first (All-tail IsInLine a text all) ends (push_plain start front a first.0 h))

-- the bytes end in LF, and more than that stands behind the start
abbrev pub EndsLine : ℕ → List ℕ → Type 0
EndsLine start bytes = (before : List ℕ) × (bytes ≡ before ++ 10 ∷ []) × (start < length before)

pub line_ends : (start : ℕ) (front text end : List ℕ) → start ≤ length front → 0 < length text → IsLineEnd end
    → EndsLine start (front ++ (text ++ end))
line_ends start front text end fits some (inl is) =
    let size = length-append front text in
    (front ++ text, ap (λ (l : List ℕ). front ++ (text ++ l)) is ∙ sym (append_assoc front text (10 ∷ [])), omega arith)
line_ends start front text end fits some (inr is) =
    let size = length-append front (text ++ 13 ∷ []) in
    let size_two = length-append text (13 ∷ []) in
    let regroup : front ++ (text ++ (13 ∷ 10 ∷ [])) ≡ (front ++ (text ++ 13 ∷ [])) ++ 10 ∷ [] = simp append_assoc in
    (front ++ (text ++ 13 ∷ []), ap (λ (l : List ℕ). front ++ (text ++ l)) is ∙ regroup, omega arith)

-- ---- the end of the block

blank_end-first : (bytes : List ℕ) (start end : ℕ) → start ≤ end → end ≤ length bytes → ends_blank bytes start end ≡ true
    → ((k : ℕ) → k < end → ends_blank bytes start k ≡ false) → blank_end bytes start ≡ Some end
blank_end-first bytes start end ordered fits ends none =
    let count : length bytes + 1 - start ≡ (end - start) + suc (length bytes - end) = omega arith in
    let at : start + (end - start) ≡ end = omega arith in
    ap (λ (n : ℕ). least (ends_blank bytes start) start n) count
    ∙ least_skip (ends_blank bytes start) start (end - start) (suc (length bytes - end)) (λ k low high. none k (omega arith))
    ∙ ap (λ (n : ℕ). least (ends_blank bytes start) n (suc (length bytes - end))) at
    ∙ least_here (ends_blank bytes start) end (length bytes - end) ends

-- an empty line behind a line ends the block
pub block_ends : (start : ℕ) (front end more : List ℕ) → HasNoBlank start front → EndsLine start front → IsLineEnd end
    → blank_end ((front ++ end) ++ more) start ≡ Some (length (front ++ end))
block_ends start front end more h (before, is, behind) (inl lf) =
    let bytes : List ℕ = (front ++ 10 ∷ []) ++ more in
    let size = length-append front (10 ∷ []) in
    let size_before = ap (λ (l : List ℕ). length l) is ∙ length-append before (10 ∷ []) in
    let size_all = length-append (front ++ 10 ∷ []) more in
    let regroup : (front ++ 10 ∷ []) ++ more ≡ before ++ (10 ∷ 10 ∷ more) = rw is (simp append_assoc) in
    let one : slice_index ((front ++ 10 ∷ []) ++ more) (length (front ++ 10 ∷ []) - 1) ≡ 10 =
    ap (λ (l : List ℕ). slice_index l (length (front ++ 10 ∷ []) - 1)) regroup
    ∙ byte_at before (10 ∷ 10 ∷ more) (length (front ++ 10 ∷ []) - 1) 1 (omega arith) in
    let two : slice_index ((front ++ 10 ∷ []) ++ more) (length (front ++ 10 ∷ []) - 2) ≡ 10 =
    ap (λ (l : List ℕ). slice_index l (length (front ++ 10 ∷ []) - 2)) regroup
    ∙ byte_at before (10 ∷ 10 ∷ more) (length (front ++ 10 ∷ []) - 2) 0 (omega arith) in
    subst (λ (l : List ℕ). blank_end ((front ++ l) ++ more) start ≡ Some (length (front ++ l))) (sym lf)
    (blank_end-first ((front ++ 10 ∷ []) ++ more) start (length (front ++ 10 ∷ [])) (omega arith) (omega arith)
    (end_lf ((front ++ 10 ∷ []) ++ more) start (length (front ++ 10 ∷ [])) (omega arith) one two)
    (λ k low. ap (λ (l : List ℕ). ends_blank l start k) (append_assoc front (10 ∷ []) more)
    ∙ ends_blank-append front (10 ∷ more) start k (omega arith) ∙ h.none k (omega arith)))
block_ends start front end more h (before, is, behind) (inr crlf) =
    let size = length-append front (13 ∷ 10 ∷ []) in
    let size_before = ap (λ (l : List ℕ). length l) is ∙ length-append before (10 ∷ []) in
    let size_all = length-append (front ++ 13 ∷ 10 ∷ []) more in
    let regroup : (front ++ 13 ∷ 10 ∷ []) ++ more ≡ before ++ (10 ∷ 13 ∷ 10 ∷ more) = rw is (simp append_assoc) in
    let at : (i n : ℕ) → i ≡ length before + n → slice_index ((front ++ 13 ∷ 10 ∷ []) ++ more) i ≡ get_or (10 ∷ 13 ∷ 10 ∷ more) n 0 =
    λ i n same. ap (λ (l : List ℕ). slice_index l i) regroup ∙ byte_at before (10 ∷ 13 ∷ 10 ∷ more) i n same in
    subst (λ (l : List ℕ). blank_end ((front ++ l) ++ more) start ≡ Some (length (front ++ l))) (sym crlf)
    (blank_end-first ((front ++ 13 ∷ 10 ∷ []) ++ more) start (length (front ++ 13 ∷ 10 ∷ [])) (omega arith) (omega arith)
    (end_crlf ((front ++ 13 ∷ 10 ∷ []) ++ more) start (length (front ++ 13 ∷ 10 ∷ [])) (omega arith)
    (at _ 2 (omega arith)) (at _ 1 (omega arith)) (at _ 0 (omega arith)))
    (λ k low. elim (leb_tells k (length front)) [
      | inl t ↦ ap (λ (l : List ℕ). ends_blank l start k) (append_assoc front (13 ∷ 10 ∷ []) more)
          ∙ ends_blank-append front (13 ∷ 10 ∷ more) start k t.1 ∙ h.none k t.1
      | inr f ↦
          let above = f.1 in
          not_end ((front ++ 13 ∷ 10 ∷ []) ++ more) start k
          (λ e. let g : ◌≡◌ {A = ℕ} 13 10 = sym (at (k - 1) 1 (omega arith)) ∙ e in absurd (omega arith))
    ]))
