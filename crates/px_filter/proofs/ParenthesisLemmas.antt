-- Which parenthesis is not closed, token by token.
use Rattle.std.proofs.Common.{◌≡◌, ◌≤◌, ◌+◌, ℕ, zero, suc, Bool, true, false, not, cond, List, [], ◌∷◌, Option, Some, refl, arith}
use Rattle.px_filter.specs.Parsing.{closes, closes_by, unclosed, pending, after}
use Rattle.px_filter.specs.declared.token.Token.{Token}
use Rattle.px_filter.specs.declared.token.Token.TheVariants as token
use Rattle.px_filter.specs.declared.token.Placed.{Placed}

-- what closes one more closes one less
closes_less : (ts : List Placed) (n : ℕ) → closes ts (suc n) ≡ true → closes ts n ≡ true
closes_less [] n h = cc
closes_less (t ∷ ts) n h =
    (elim (t.token) as (λ k. closes_by (closes ts) k (suc n) ≡ true → closes_by (closes ts) k n ≡ true) [
      | token.Open ↦ (λ g. closes_less ts (suc n) g)
      | token.Close ↦ elim n as (λ m. closes ts m ≡ true → closes_by (closes ts) token.Close m ≡ true) [
        | zero ↦ (λ g. refl)
        | suc m ↦ (λ g. closes_less ts m g)
      ]
      | token.Not ↦ (λ g. closes_less ts n g)
      | token.And ↦ (λ g. closes_less ts n g)
      | token.Or ↦ (λ g. closes_less ts n g)
      | token.Operator o ↦ (λ g. closes_less ts n g)
      | token.Word w ↦ (λ g. closes_less ts n g)
      | token.Unclosed ↦ (λ g. closes_less ts n g)
    ]) h

closes_first : (ts : List Placed) (n : ℕ) → closes ts n ≡ true → closes ts zero ≡ true
closes_first ts zero h = h
closes_first ts (suc n) h = closes_first ts n (closes_less ts n h)

opened_first : (c : Bool) (place : ℕ) (rest : Option ℕ) →
    cond c rest (Some place) ≡ cond (not c) (Some place) rest
opened_first true place rest = refl
opened_first false place rest = refl

opened_more : (c d : Bool) (place outermost : ℕ) (rest : Option ℕ) → (c ≡ true → d ≡ true) →
    cond c rest (Some outermost) ≡ cond c (cond (not d) (Some place) rest) (Some outermost)
opened_more true true place outermost rest h = refl
opened_more true false place outermost rest h = let e : false ≡ true = h refl in cc
opened_more false d place outermost rest h = refl

-- one token more
pub pending_after : (kind : Token) (place : ℕ) (ts : List Placed) (depth outermost : ℕ) →
    pending (after kind place depth outermost).0 (after kind place depth outermost).1 ts
    ≡ pending depth outermost (record { place = place; token = kind } ∷ ts)
pending_after token.Open place ts zero outermost = opened_first (closes ts zero) place (unclosed ts)
pending_after token.Open place ts (suc d) outermost =
    opened_more (closes ts (suc d)) (closes ts zero) place outermost (unclosed ts) (closes_first ts (suc d))
pending_after token.Close place ts zero outermost = refl
pending_after token.Close place ts (suc zero) outermost = refl
pending_after token.Close place ts (suc (suc d)) outermost = refl
pending_after token.Not place ts zero outermost = refl
pending_after token.Not place ts (suc d) outermost = refl
pending_after token.And place ts zero outermost = refl
pending_after token.And place ts (suc d) outermost = refl
pending_after token.Or place ts zero outermost = refl
pending_after token.Or place ts (suc d) outermost = refl
pending_after (token.Operator o) place ts zero outermost = refl
pending_after (token.Operator o) place ts (suc d) outermost = refl
pending_after (token.Word w) place ts zero outermost = refl
pending_after (token.Word w) place ts (suc d) outermost = refl
pending_after token.Unclosed place ts zero outermost = refl
pending_after token.Unclosed place ts (suc d) outermost = refl

-- no more are open than tokens were read
pub after_depth : (kind : Token) (place depth outermost n : ℕ) → depth ≤ n → (after kind place depth outermost).0 ≤ n + 1
after_depth token.Open place zero outermost n h = omega arith
after_depth token.Open place (suc d) outermost n h = omega arith
after_depth token.Close place zero outermost n h = omega arith
after_depth token.Close place (suc d) outermost n h = omega arith
after_depth token.Not place d outermost n h = omega arith
after_depth token.And place d outermost n h = omega arith
after_depth token.Or place d outermost n h = omega arith
after_depth (token.Operator o) place d outermost n h = omega arith
after_depth (token.Word w) place d outermost n h = omega arith
after_depth token.Unclosed place d outermost n h = omega arith
