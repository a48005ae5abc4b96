-- Whether a text is a host can be told, so definitions may ask it.
use Rattle.std.specs.Prelude.{◌≡◌, ◌≢◌, ℕ, zero, suc, ◌-◌, ◌<◌, ◌≤◌, ◌⊎◌, Bool, true, false, IsTrue, List, length, take, slice_index, bytes_eq, All}
use Rattle.std.proofs.Common.{inl, inr, arith, subst, refl}
use Rattle.std.proofs.lemmas.Bool.{cases_Bool, cases_eq, cases_lt, both_ways}
use Rattle.std.proofs.lemmas.List.Elements.{All-from_get_or, All-get_or}
use Rattle.std.proofs.lemmas.Slice.Eq.{bytes_eq-Decides}
use Rattle.http_uri.specs.ByteClasses.{is_authority_byte, count_of, at_sign, colon, left_bracket, percent_sign, right_bracket}
use Rattle.http_uri.specs.Grammar.{IsAuthority, MayFollow, authority_host, last_piece}
use Rattle.px_message.specs.Host.{IsHost}

-- the fact holds, or it does not
abbrev pub Told : Type 0 → Type 0
Told P = P ⊎ ¬ P

tell_both : (P Q : Type 0) → Told P → Told Q → Told (P × Q)
tell_both P Q (inl p) (inl q) = inl (p, q)
tell_both P Q (inl p) (inr q) = inr (λ h. q h.1)
tell_both P Q (inr p) _ = inr (λ h. p h.0)

tell_where : (P Q : Type 0) → Told P → Told Q → Told (P → Q)
tell_where P Q (inr p) _ = inl (λ h. absurd (p h))
tell_where P Q (inl p) (inl q) = inl (λ _. q)
tell_where P Q (inl p) (inr q) = inr (λ h. q (h p))

tell_not : (P : Type 0) → Told P → Told (¬ P)
tell_not P (inl p) = inr (λ h. h p)
tell_not P (inr p) = inl p

tell_true : (b : Bool) → Told (IsTrue b)
tell_true true = inl refl
tell_true false = inr (λ h. both_ways false refl h)

tell_less : (m n : ℕ) → Told (m < n)
tell_less m n = elim (cases_lt m n) [ inl less ↦ inl less | inr not_less ↦ inr (λ h. omega arith) ]

tell_at_most : (m n : ℕ) → Told (m ≤ n)
tell_at_most m n = elim (cases_lt n m) [ inl less ↦ inr (λ h. omega arith) | inr not_less ↦ inl not_less ]

tell_same_text : (a b : List ℕ) → Told (a ≡ b)
tell_same_text a b =
    elim (cases_Bool (bytes_eq a b)) [
      | inl same ↦ inl ((bytes_eq-Decides a b).0 same)
      | inr other ↦ inr (λ h. both_ways _ other ((bytes_eq-Decides a b).1 h))
    ]

-- a fact of each number below a bound
tell_each_below : (P : ℕ → Type 0) → ((i : ℕ) → Told (P i)) → (n : ℕ) → Told ((i : ℕ) → i < n → P i)
tell_each_below P tell zero = inl (λ i h. absurd (omega arith))
tell_each_below P tell (suc n) =
    elim (tell n) [
      | inr fails ↦ inr (λ h. fails (h n (omega arith)))
      | inl here ↦
          elim (tell_each_below P tell n) [
            | inr fails ↦ inr (λ h. fails (λ i less. h i (omega arith)))
            | inl below ↦ inl (λ i less. elim (cases_lt i n) [ inl lower ↦ below i lower | inr at_least ↦ (let same : n ≡ i = omega arith in subst P same here) ])
          ]
    ]

tell_all : (P : ℕ → Type 0) → ((x : ℕ) → Told (P x)) → (xs : List ℕ) → Told (All P xs)
tell_all P tell xs =
    elim (tell_each_below (λ i. P (slice_index xs i)) (λ i. tell (slice_index xs i)) (length xs)) [
      | inl h ↦ inl (All-from_get_or P xs 0 h)
      | inr fails ↦ inr (λ h. fails (λ i less. All-get_or P xs i 0 less h))
    ]

tell_may_follow : (front : List ℕ) (b : ℕ) → Told (MayFollow front b)
tell_may_follow front b =
    let colons : Told (b ≡ colon → count_of colon (last_piece front) < 8) = tell_where _ _ (cases_eq b colon) (tell_less _ 8) in
    let opening : Told (b ≡ left_bracket → (count_of left_bracket front ≡ 0) × (count_of percent_sign (last_piece front) ≡ 0)) =
    tell_where _ _ (cases_eq b left_bracket) (tell_both _ _ (cases_eq _ 0) (cases_eq _ 0)) in
    let closing : Told (b ≡ right_bracket → (0 < count_of left_bracket front) × (count_of right_bracket front ≡ 0)) =
    tell_where _ _ (cases_eq b right_bracket) (tell_both _ _ (tell_less 0 _) (cases_eq _ 0)) in
    elim (tell_both _ _ (tell_true (is_authority_byte b)) (tell_both _ _ colons (tell_both _ _ opening closing))) [
      | inl h ↦ inl (record { byte = h.0; colons = h.1.0; opening = h.1.1.0; closing = h.1.1.1 })
      | inr fails ↦ inr (λ h. fails (h.byte, (h.colons, (h.opening, h.closing))))
    ]

tell_authority : (text : List ℕ) → Told (IsAuthority text)
tell_authority text =
    let bytes : Told ((i : ℕ) → i < length text → MayFollow (take i text) (slice_index text i)) =
    tell_each_below (λ i. MayFollow (take i text) (slice_index text i)) (λ i. tell_may_follow (take i text) (slice_index text i)) (length text) in
    let closed : Told (count_of left_bracket text ≡ count_of right_bracket text) = cases_eq _ _ in
    let one_colon : Told (count_of colon (last_piece text) ≤ 1) = tell_at_most _ 1 in
    let no_percent : Told (count_of percent_sign (last_piece text) ≡ 0) = cases_eq _ 0 in
    let has_host : Told (slice_index text (length text - 1) ≢ at_sign) = tell_not _ (cases_eq _ at_sign) in
    elim (tell_both _ _ (tell_less 0 (length text)) (tell_both _ _ bytes (tell_both _ _ closed (tell_both _ _ one_colon (tell_both _ _ no_percent has_host))))) [
      | inl h ↦ inl (record { nonempty = h.0; bytes = h.1.0; closed = h.1.1.0; one_colon = h.1.1.1.0; no_percent = h.1.1.1.1.0; has_host = h.1.1.1.1.1 })
      | inr fails ↦ inr (λ h. fails (h.nonempty, (h.bytes, (h.closed, (h.one_colon, (h.no_percent, h.has_host))))))
    ]

-- the text is a host, or it is none
pub tell_host : (text : List ℕ) → IsHost text ⊎ (IsHost text → ⊥)
tell_host text =
    let no_userinfo : Told (All (λ b. b ≢ at_sign) text) = tell_all (λ b. b ≢ at_sign) (λ b. tell_not _ (cases_eq b at_sign)) text in
    elim (tell_both _ _ (tell_authority text) (tell_both _ _ no_userinfo (tell_same_text (authority_host text) text))) [
      | inl h ↦ inl (record { authority = h.0; no_userinfo = h.1.0; whole = h.1.1 })
      | inr fails ↦ inr (λ h. fails (h.authority, (h.no_userinfo, h.whole)))
    ]
