-- Frames: a text begins with one at most, and no text that begins with one is cut or has a bad length.
use Rattle.std.proofs.Common.{◌≡◌, ◌∙◌, ◌<◌, ◌≤◌, ◌/◌, ◌⊎◌, ℕ, zero, suc, List, [], ◌∷◌, ◌++◌, length, get_or, drop, decimal, refl, sym, ap, ap₂, subst, arith, inl, inr, length-append, append_assoc, append-nil}
use Rattle.std.specs.Char.{digit_value}
use Rattle.std.specs.Str.Parse.{AllDigits}
use Rattle.std.proofs.lemmas.Bool.Decides.{nat_tests}
use Rattle.std.proofs.lemmas.Fmt.{decimal_is_IsNumeral, decimal_injective}
use Rattle.px_tnet.specs.Frame.{BeginsLength, Framed, IsBadLength, IsCut, colon, framed, too_many}
use Rattle.px_tnet.proofs.DigitLemmas.{before_last}

-- no colon stands in the text
NoColon : List ℕ → Type 0
NoColon [] = Unit {0}
NoColon (x ∷ xs) = (¬ (x ≡ colon)) × NoColon xs

digit_is_no_colon : (c : ℕ) → digit_value c < 10 → ¬ (c ≡ colon)
digit_is_no_colon c h e = grind (arith, nat_tests)

digits_no_colon : (text : List ℕ) → AllDigits 10 text → NoColon text
unfolding NoColon
digits_no_colon [] h = tt
digits_no_colon (c ∷ text) h = (digit_is_no_colon c h.0, digits_no_colon text h.1)

decimal_no_colon : (n : ℕ) → n < too_many → NoColon (decimal n)
decimal_no_colon n small = digits_no_colon (decimal n) (decimal_is_IsNumeral n (omega arith)).0.1

begins_no_colon : (text : List ℕ) → BeginsLength text → NoColon text
unfolding NoColon
begins_no_colon text (inl none) = subst NoColon (sym none) tt
begins_no_colon text (inr l) = subst NoColon (sym l.2) (decimal_no_colon l.0 l.1)

-- behind bytes that are no colon a byte stands at the first colon, or in front of it
at_colon : (xs zs ys ws : List ℕ) (y : ℕ) → NoColon xs → xs ++ (y ∷ ys) ≡ zs ++ (colon ∷ ws)
    → ((xs ≡ zs) × (y ≡ colon) × (ys ≡ ws)) ⊎ ((more : List ℕ) × (zs ≡ xs ++ (y ∷ more)))
unfolding NoColon
at_colon [] [] ys ws y none h = inl (refl, ap (λ l. get_or l 0 0) h, ap (drop 1) h)
at_colon [] (z ∷ zs) ys ws y none h = inr (zs, ap (λ a. a ∷ zs) (sym (ap (λ l. get_or l 0 0) h)))
at_colon (x ∷ xs) [] ys ws y none h = absurd (none.0 (ap (λ l. get_or l 0 0) h))
at_colon (x ∷ xs) (z ∷ zs) ys ws y none h =
    elim (at_colon xs zs ys ws y none.1 (ap (drop 1) h)) [
      | inl same ↦ inl (ap₂ (λ a l. a ∷ l) (ap (λ l. get_or l 0 0) h) same.0, same.1, same.2)
      | inr more ↦ inr (more.0, ap₂ (λ a l. a ∷ l) (sym (ap (λ l. get_or l 0 0) h)) more.1)
    ]

colon_within : (xs ys : List ℕ) → NoColon (xs ++ (colon ∷ ys)) → ⊥
unfolding NoColon
colon_within [] ys h = h.0 refl
colon_within (x ∷ xs) ys h = colon_within xs ys h.1

one_number : (n m : ℕ) (xs ys : List ℕ) → n < too_many → m < too_many → decimal n ++ (colon ∷ xs) ≡ decimal m ++ (colon ∷ ys) → (n ≡ m) × (xs ≡ ys)
one_number n m xs ys small less h =
    elim (at_colon (decimal n) (decimal m) xs ys colon (decimal_no_colon n small) h) [
      | inl same ↦ (decimal_injective n m (omega arith) (omega arith) same.0, same.2)
      | inr more ↦ absurd (colon_within (decimal n) more.0 (subst NoColon more.1 (decimal_no_colon m less)))
    ]

-- a frame from its length on
pub unframed : (payload : List ℕ) (tag : ℕ) (rest : List ℕ)
    → framed payload tag ++ rest ≡ decimal (length payload) ++ (colon ∷ (payload ++ (tag ∷ rest)))
unframed payload tag rest =
    append_assoc (decimal (length payload)) (colon ∷ (payload ++ (tag ∷ []))) rest
    ∙ ap (λ (l : List ℕ). decimal (length payload) ++ (colon ∷ l)) (append_assoc payload (tag ∷ []) rest)

same_front : (xs ys cs ds : List ℕ) → length xs ≡ length ys → xs ++ cs ≡ ys ++ ds → (xs ≡ ys) × (cs ≡ ds)
same_front [] [] cs ds long h = (refl, h)
same_front [] (y ∷ ys) cs ds long h = absurd (omega arith)
same_front (x ∷ xs) [] cs ds long h = absurd (omega arith)
same_front (x ∷ xs) (y ∷ ys) cs ds long h =
    let rest = same_front xs ys cs ds (omega arith) (ap (drop 1) h) in
    (ap₂ (λ a l. a ∷ l) (ap (λ l. get_or l 0 0) h) rest.0, rest.1)

-- a text begins with one frame at most
pub one_frame : (p q : List ℕ) (t u : ℕ) (r s text : List ℕ) → Framed p t r text → Framed q u s text → (p ≡ q) × (t ≡ u) × (r ≡ s)
one_frame p q t u r s text a b =
    let n = one_number (length p) (length q) (p ++ (t ∷ r)) (q ++ (u ∷ s)) a.0 b.0 (sym (unframed p t r) ∙ sym a.1 ∙ b.1 ∙ unframed q u s) in
    let f = same_front p q (t ∷ r) (u ∷ s) n.0 n.1 in
    (f.0, ap (λ l. get_or l 0 0) f.1, ap (drop 1) f.1)

last_of : (xs : List ℕ) → 0 < length xs → (front : List ℕ) × (last : ℕ) × (xs ≡ front ++ (last ∷ []))
last_of [] some = absurd (omega arith)
last_of (x ∷ []) some = ([], x, refl)
last_of (x ∷ y ∷ xs) some =
    let rest = last_of (y ∷ xs) (omega arith) in
    (x ∷ rest.0, rest.1, ap (λ l. x ∷ l) rest.2)

-- what stands in front within the digits of a length begins one
begins_within : (k : ℕ) (front behind : List ℕ) (n : ℕ) → length behind ≡ k → n < too_many → decimal n ≡ front ++ behind → BeginsLength front
begins_within zero front [] n long small h = inr (n, small, sym (h ∙ append-nil front))
begins_within zero front (x ∷ behind) n long small h = absurd (omega arith)
begins_within (suc k) [] behind n long small h = inl refl
begins_within (suc k) (f ∷ front) behind n long small h =
    let split = last_of behind (omega arith) in
    let whole : ((f ∷ front) ++ split.0) ++ (split.1 ∷ []) ≡ decimal n = append_assoc (f ∷ front) split.0 (split.1 ∷ []) ∙ ap (λ (l : List ℕ). (f ∷ front) ++ l) (sym split.2) ∙ sym h in
    let b = before_last ((f ∷ front) ++ split.0) split.1 n (let l = length-append (f ∷ front) split.0 in omega arith) small whole in
    begins_within k (f ∷ front) split.0 (n / 10) (let l = ap length split.2 ∙ length-append split.0 (split.1 ∷ []) in omega arith) (omega arith) (sym b.1)

pub begins_front : (front behind : List ℕ) (n : ℕ) → n < too_many → decimal n ≡ front ++ behind → BeginsLength front
begins_front front behind n small h = begins_within (length behind) front behind n refl small h

-- a length with a colon behind it: neither cut within the digits nor bad
no_bad_length : (n : ℕ) (behind text : List ℕ) → n < too_many → text ≡ decimal n ++ (colon ∷ behind) → ¬ (IsBadLength text)
no_bad_length n behind text small is bad =
    let front = bad.0 in
    elim (at_colon front (decimal n) bad.2 behind bad.1 (begins_no_colon front bad.4) (sym bad.3 ∙ is)) [
      | inl same ↦ bad.6 ((n, small, same.0), same.1)
      | inr more ↦ bad.5 (begins_front (front ++ (bad.1 ∷ [])) more.0 n small (more.1 ∙ sym (append_assoc front (bad.1 ∷ []) more.0)))
    ]

no_digits_alone : (n : ℕ) (behind text : List ℕ) → text ≡ decimal n ++ (colon ∷ behind) → ¬ (BeginsLength text)
no_digits_alone n behind text is begins = colon_within (decimal n) behind (subst NoColon is (begins_no_colon text begins))

pub framed_not_bad : (p : List ℕ) (t : ℕ) (r text : List ℕ) → Framed p t r text → ¬ (IsBadLength text)
framed_not_bad p t r text f = no_bad_length (length p) (p ++ (t ∷ r)) text f.0 (f.1 ∙ unframed p t r)

pub framed_not_cut : (p : List ℕ) (t : ℕ) (r text : List ℕ) → Framed p t r text → ¬ (IsCut text)
framed_not_cut p t r text f (inl begins) = no_digits_alone (length p) (p ++ (t ∷ r)) text (f.1 ∙ unframed p t r) begins
framed_not_cut p t r text f (inr cut) =
    let n = one_number (length p) cut.0 (p ++ (t ∷ r)) cut.1 f.0 cut.2 (sym (unframed p t r) ∙ sym f.1 ∙ cut.3) in
    let l = ap length n.1 in
    let m = length-append p (t ∷ r) in
    let s = cut.4 in
    absurd (omega arith)

pub cut_not_bad : (text : List ℕ) → IsCut text → ¬ (IsBadLength text)
cut_not_bad text (inr cut) bad = no_bad_length cut.0 cut.1 text cut.2 cut.3 bad
cut_not_bad text (inl (inl none)) bad = absurd (let l = ap length (sym none ∙ bad.3) in let m = length-append bad.0 (bad.1 ∷ bad.2) in omega arith)
cut_not_bad text (inl (inr digits)) bad =
    bad.5 (begins_front (bad.0 ++ (bad.1 ∷ [])) bad.2 digits.0 digits.1
    (sym digits.2 ∙ bad.3 ∙ sym (append_assoc bad.0 (bad.1 ∷ []) bad.2)))

-- two fronts of one text: one goes on with the other
two_fronts : (xs bs cs ds : List ℕ) → xs ++ bs ≡ cs ++ ds
    → ((more : List ℕ) × (cs ≡ xs ++ more)) ⊎ ((x : ℕ) × (more : List ℕ) × (xs ≡ cs ++ (x ∷ more)) × (ds ≡ (x ∷ more) ++ bs))
two_fronts [] bs cs ds h = inl (cs, refl)
two_fronts (a ∷ xs) bs [] ds h = inr (a, xs, refl, sym h)
two_fronts (a ∷ xs) bs (c ∷ cs) ds h =
    elim (two_fronts xs bs cs ds (ap (drop 1) h)) [
      | inl more ↦ inl (more.0, ap₂ (λ x l. x ∷ l) (sym (ap (λ l. get_or l 0 0) h)) more.1)
      | inr less ↦ inr (less.0, less.1, ap₂ (λ x l. x ∷ l) (ap (λ l. get_or l 0 0) h) less.2, less.3)
    ]

some_length : (xs : List ℕ) → ¬ (xs ≡ []) → 0 < length xs
some_length [] some = absurd (some refl)
some_length (x ∷ xs) some = omega arith

-- a frame that is cut anywhere
pub cut_frame : (p : List ℕ) (t : ℕ) (text front behind : List ℕ) → Framed p t [] text → text ≡ front ++ behind → ¬ (behind ≡ []) → IsCut front
cut_frame p t text front behind f is some =
    elim (two_fronts front behind (decimal (length p)) (colon ∷ (p ++ (t ∷ []))) (sym is ∙ f.1 ∙ unframed p t [])) [
      | inl more ↦ inl (begins_front front more.0 (length p) f.0 more.1)
      | inr less ↦ (
          let first : colon ≡ less.0 = ap (λ l. get_or l 0 0) less.3 in
          let rest : p ++ (t ∷ []) ≡ less.1 ++ behind = ap (drop 1) less.3 in
          let short : length less.1 ≤ length p = (
          let l = ap length rest in
          let m = length-append p (t ∷ []) in
          let n = length-append less.1 behind in
          let k = some_length behind some in
          omega arith) in
          inr (length p, less.1, f.0, less.2 ∙ ap (λ x. decimal (length p) ++ (x ∷ less.1)) (sym first), short))
    ]
