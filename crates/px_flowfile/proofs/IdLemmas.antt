-- The full stop in a flow's identifier.
use Rattle.std.proofs.Common.{◌≡◌, ◌∙◌, ℕ, zero, suc, ◌+◌, ◌-◌, ◌<◌, Bool, false, ◌==◌, List, [], ◌∷◌, ◌++◌, length, take, drop, get_or, position, Some, None, Option, decimal, refl, sym, ap, subst, arith, length-append, length-drop}
use Rattle.std.proofs.lemmas.List.{take_all}
use Rattle.std.specs.List.{position_or_len}
use Rattle.std.specs.Str.Parse.{AllDigits}
use Rattle.std.proofs.lemmas.Bool.{eqb-true}
use Rattle.std.proofs.lemmas.Fmt.{decimal_is_IsNumeral}
use Rattle.std.proofs.lemmas.Str.Parse.{digit_from_value}
use Rattle.std.proofs.lemmas.List.Quantifiers.{position-Some}
use Rattle.px_message.specs.declared.flow.FlowId.{FlowId}
use Rattle.px_flowfile.specs.Simple.{IsId, id_text}

abbrev pub is_dot : ℕ → Bool
is_dot b = b == 46

not_dot : (c : ℕ) → 47 < c → is_dot c ≡ false
not_dot c h = grind arith

seam : (a b : List ℕ) → AllDigits 10 a → position_or_len is_dot (a ++ 46 ∷ b) ≡ length a
seam [] b d = refl
seam (c ∷ a) b d =
    let other : is_dot c ≡ false = not_dot c (let r = digit_from_value c d.0 in omega arith) in
    rw other (rw (seam a b d.1) (omega arith))

pub dot_at : (a b text : List ℕ) → AllDigits 10 a → text ≡ a ++ 46 ∷ b → position is_dot text ≡ Some (length a)
dot_at a b text d is =
    let P : List ℕ → Type 0 = λ t. position is_dot t ≡ Some (length a) in
    subst P (sym is) (rw (seam a b d, length-append) (grind arith))

pub take_front : (a b : List ℕ) → take (length a) (a ++ 46 ∷ b) ≡ a
take_front [] b = refl
take_front (c ∷ a) b = ap (λ (l : List ℕ). c ∷ l) (take_front a b)

pub drop_front : (a b : List ℕ) → drop (suc (length a)) (a ++ 46 ∷ b) ≡ b
drop_front [] b = refl
drop_front (c ∷ a) b = drop_front a b

pub around : (text : List ℕ) (i : ℕ) → i < length text → get_or text i 0 ≡ 46 → text ≡ take i text ++ 46 ∷ drop (suc i) text
around [] i below is = absurd (omega arith)
around (c ∷ text) zero below is = ap (λ x. x ∷ text) is
around (c ∷ text) (suc i) below is = ap (λ (l : List ℕ). c ∷ l) (around text i (omega arith) is)

some_of : Option ℕ → ℕ
some_of None = 0
some_of (Some n) = n

module _ (text : List ℕ) (id : FlowId) (small : IsId id) (is : text ≡ id_text id) where
  -- the full stop stands behind the first number
  pub id_dot : (r : Option ℕ) → r ≡ position is_dot text → r ≡ Some (length (decimal id.conv))
  id_dot r found =
      found ∙ dot_at (decimal id.conv) (decimal id.index) text (decimal_is_IsNumeral id.conv (let h = small.0 in omega arith)).0.1 is

  same_dot : (r : Option ℕ) (dot : ℕ) → r ≡ position is_dot text → r ≡ Some dot → length (decimal id.conv) ≡ dot
  unfolding some_of
  same_dot r dot found at = ap some_of (sym (id_dot r found) ∙ at)

  pub id_front : (r : Option ℕ) (dot : ℕ) → r ≡ position is_dot text → r ≡ Some dot → take dot text ≡ decimal id.conv
  id_front r dot found at =
      let P : ℕ → Type 0 = λ n. take n text ≡ decimal id.conv in
      subst P (same_dot r dot found at) (ap (take (length (decimal id.conv))) is ∙ take_front (decimal id.conv) (decimal id.index))

  pub id_back : (r : Option ℕ) (dot : ℕ) → r ≡ position is_dot text → r ≡ Some dot → drop (dot + 1) text ≡ decimal id.index
  id_back r dot found at =
      let n : suc (length (decimal id.conv)) ≡ dot + 1 = (let h = same_dot r dot found at in omega arith) in
      let P : ℕ → Type 0 = λ m. drop m text ≡ decimal id.index in
      subst P n (ap (drop (suc (length (decimal id.conv)))) is ∙ drop_front (decimal id.conv) (decimal id.index))

-- two numbers around the first full stop
pub id_around : (text : List ℕ) (r : Option ℕ) (dot : ℕ) (conv index : ℕ) → r ≡ position is_dot text → r ≡ Some dot
    → take dot text ≡ decimal conv → drop (dot + 1) text ≡ decimal index → text ≡ decimal conv ++ 46 ∷ decimal index
id_around text r dot conv index found at front back =
    let parts = position-Some is_dot text dot 0 (sym found ∙ at) in
    let next : suc dot ≡ dot + 1 = omega arith in
    let P : ℕ → Type 0 = λ m. drop m text ≡ decimal index in
    around text dot parts.0 (eqb-true (get_or text dot 0) 46 parts.1)
    ∙ ap (λ (l : List ℕ). l ++ 46 ∷ drop (suc dot) text) front
    ∙ ap (λ (l : List ℕ). decimal conv ++ 46 ∷ l) (subst P (sym next) back)

-- a part that goes to the end
pub tail_is : (text : List ℕ) (n : ℕ) → take (length text - n) (drop n text) ≡ drop n text
tail_is text n = take_all (length text - n) (drop n text) (omega (arith, length-drop n text))
