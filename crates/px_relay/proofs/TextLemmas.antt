-- Texts that are UTF-8, and the lengths into which a payload is cut.
use Rattle.std.proofs.Common.{◌≡◌, ℕ, zero, suc, ◌-◌, ◌<◌, ◌≤◌, nat_le, if◌then◌else◌, Bool, true, false, List, [], ◌∷◌, ◌++◌, append_assoc, refl, ap, sym, ◌∙◌, arith, Result, Ok, Err, MatchResult, IsUtf8}
use Rattle.std.specs.Prelude.{is_ok}
use Rattle.std.specs.Str.{is_utf8}
use Rattle.std.proofs.lemmas.Str.{IsUtf8-from_is_utf8, is_utf8-from_IsUtf8}
use Rattle.std.proofs.lemmas.Bool.{leb-true, leb-false}
use Rattle.px_relay.specs.Messages.{most_in_frame, cut_within, cut_lengths}

pub utf8_by : {A B : Type 0} (result : Result A B) (bytes : List ℕ) (P : A → Type 0) (Q : B → Type 0) →
    MatchResult result (λ s. P s × IsUtf8 bytes) (λ e. ¬ (IsUtf8 bytes) × Q e) → is_ok result ≡ is_utf8 bytes
utf8_by (Ok s) bytes P Q h = sym (is_utf8-from_IsUtf8 bytes h.1)
utf8_by (Err e) bytes P Q h = by (is_utf8 bytes) refl
  where
    by : (b : Bool) → is_utf8 bytes ≡ b → false ≡ is_utf8 bytes
    by true is = absurd (h.0 (IsUtf8-from_is_utf8 bytes is))
    by false is = sym is

-- ---- cuts: enough are made

cut_by : (b : Bool) (a c n : ℕ) → nat_le n most_in_frame ≡ b → (nat_le n most_in_frame ≡ false → cut_within a (n - most_in_frame) ≡ cut_within c (n - most_in_frame)) →
    (if b then n ∷ [] else (most_in_frame ∷ cut_within a (n - most_in_frame))) ≡ (if b then n ∷ [] else (most_in_frame ∷ cut_within c (n - most_in_frame)))
cut_by true a c n is same = refl
cut_by false a c n is same = ap (λ l. most_in_frame ∷ l) (same is)

one_cut : (b : Bool) (a n : ℕ) → nat_le n most_in_frame ≡ b → n ≤ most_in_frame →
    (if b then n ∷ [] else (most_in_frame ∷ cut_within a (n - most_in_frame))) ≡ n ∷ []
one_cut true a n is short = refl
one_cut false a n is short = absurd (let long = leb-false n most_in_frame is in omega arith)

pub cut_enough : (a c n : ℕ) → n ≤ a → n ≤ c → cut_within a n ≡ cut_within c n
cut_enough zero zero n p q = refl
cut_enough zero (suc c) n p q = sym (one_cut (nat_le n most_in_frame) c n refl (omega arith))
cut_enough (suc a) zero n p q = one_cut (nat_le n most_in_frame) a n refl (omega arith)
cut_enough (suc a) (suc c) n p q =
    cut_by (nat_le n most_in_frame) a c n refl
    (λ is. let long = leb-false n most_in_frame is in cut_enough a c (n - most_in_frame) (omega arith) (omega arith))

cut_more : (b : Bool) (a n : ℕ) → nat_le n most_in_frame ≡ b → most_in_frame < n →
    (if b then n ∷ [] else (most_in_frame ∷ cut_within a (n - most_in_frame))) ≡ most_in_frame ∷ cut_within a (n - most_in_frame)
cut_more true a n is long = absurd (let short = leb-true n most_in_frame is in omega arith)
cut_more false a n is long = refl

-- one cut more of what is longer
pub cut_long : (n : ℕ) → most_in_frame < n → cut_lengths n ≡ most_in_frame ∷ cut_lengths (n - most_in_frame)
cut_long n long =
    cut_enough n (suc n) n (omega arith) (omega arith)
    ∙ (cut_more (nat_le n most_in_frame) n n refl long
    ∙ ap (λ l. most_in_frame ∷ l) (cut_enough n (n - most_in_frame) (n - most_in_frame) (omega arith) (omega arith)))

pub cut_short : (n : ℕ) → n ≤ most_in_frame → cut_lengths n ≡ n ∷ []
cut_short n short = cut_enough n (suc n) n (omega arith) (omega arith) ∙ one_cut (nat_le n most_in_frame) n n refl short

pub cut_step : (before after all : List ℕ) (n : ℕ) → most_in_frame < n → after ≡ before ++ most_in_frame ∷ [] → before ++ cut_lengths n ≡ all →
    after ++ cut_lengths (n - most_in_frame) ≡ all
cut_step before after all n long grown is =
    ap (λ l. l ++ cut_lengths (n - most_in_frame)) grown
    ∙ (append_assoc before (most_in_frame ∷ []) (cut_lengths (n - most_in_frame))
    ∙ (ap (λ l. before ++ l) (sym (cut_long n long)) ∙ is))
