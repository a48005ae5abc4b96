-- What a port behind a host adds to an authority.
use Rattle.std.proofs.Common.{◌≡◌, ◌≢◌, ℕ, suc, ◌+◌, ◌<◌, ◌≤◌, ◌==◌, ◌||◌, cond, List, [], ◌∷◌, ◌++◌, length, get_or, fold, inl, inr, sym, ◌∙◌, subst, arith, append_assoc, append-nil, ne_eqb, eq-eqb, take_all}
use Rattle.std.specs.Int.{IsInRange}
use Rattle.std.proofs.lemmas.Bool.{cases_Bool, cases_eq}
use Rattle.std.proofs.lemmas.List.Sums.{sum_by-append, sum_by_push, fold-append}
use Rattle.http_uri.specs.ByteClasses.{count_of, index_of}
use Rattle.http_uri.specs.Grammar.{last_piece}
use Rattle.http_uri.proofs.AuthorityLemmas.{count_piece_more}
use Rattle.http_uri.proofs.RunLemmas.{index_of_before, index_of_found}
use Rattle.px_message.specs.Host.{IsHost}
use Rattle.px_message.proofs.HostLemmas.{EndsHost, count_cons, count_none, host_of-host, bracket_end, short_take}

-- nothing, or a colon and digits
pub record IsRest (rest : List ℕ) : Type 0 where
  pub ends : EndsHost rest
  pub range : (k : ℕ) → k < length rest → IsInRange 48 58 (get_or rest k 0)
  pub digits : (k : ℕ) → 0 < k → k < length rest → IsInRange 48 57 (get_or rest k 0)

-- a byte outside of digits and the colon is not in the rest
pub rest_lacks : (c : ℕ) (rest : List ℕ) → IsRest rest → (IsInRange 48 58 c → ⊥) → (k : ℕ) → k < length rest → get_or rest k 0 ≢ c
rest_lacks c rest r outside k less same = outside (subst (λ (b : ℕ). IsInRange 48 58 b) same (r.range k less))

pub count_rest : (c : ℕ) (rest : List ℕ) → IsRest rest → (IsInRange 48 58 c → ⊥) → count_of c rest ≡ 0
count_rest c rest r outside = count_none c rest (rest_lacks c rest r outside)

pub count_rest_colon : (rest : List ℕ) → IsRest rest → count_of 58 rest ≤ 1
count_rest_colon [] r = omega arith
count_rest_colon (b ∷ digits) r =
    let none : count_of 58 digits ≡ 0 = count_none 58 digits (λ k less same. let d = r.digits (suc k) (omega arith) (omega arith) in omega (arith, same, d)) in
    elim (cases_Bool (b == 58)) [
      | inl yes_so ↦ rw (count_cons 58 b digits, yes_so, none) (omega arith)
      | inr not_so ↦ rw (count_cons 58 b digits, not_so, none) (omega arith)
    ]

pub count-append : (c : ℕ) (xs ys : List ℕ) → count_of c (xs ++ ys) ≡ count_of c xs + count_of c ys
count-append c xs ys = sum_by-append (λ b. cond (b == c) 1 0) xs ys

abbrev piece_step : List ℕ → ℕ → List ℕ
piece_step piece b = cond ((b == 64) || (b == 93)) [] (piece ++ b ∷ [])

-- bytes that begin no piece are added to the last one
piece_kept : (piece rest : List ℕ) → ((k : ℕ) → k < length rest → get_or rest k 0 ≢ 64) → ((k : ℕ) → k < length rest → get_or rest k 0 ≢ 93) → fold piece_step piece rest ≡ piece ++ rest
piece_kept piece [] no_at no_bracket = sym (append-nil piece)
piece_kept piece (b ∷ rest) no_at no_bracket =
    let later = piece_kept (piece ++ b ∷ []) rest (λ k less. no_at (suc k) (omega arith)) (λ k less. no_bracket (suc k) (omega arith)) in
    rw (ne_eqb b 64 (no_at 0 (omega arith)), ne_eqb b 93 (no_bracket 0 (omega arith))) (later ∙ append_assoc piece (b ∷ []) rest)

pub last_piece-append : (host rest : List ℕ) → IsRest rest → last_piece (host ++ rest) ≡ last_piece host ++ rest
last_piece-append host rest r =
    fold-append piece_step [] host rest
    ∙ piece_kept (last_piece host) rest (rest_lacks 64 rest r (λ h. omega arith)) (rest_lacks 93 rest r (λ h. omega arith))

-- the last piece has no more of a byte than the whole
count_piece_le : (c : ℕ) (piece xs : List ℕ) → count_of c (fold piece_step piece xs) ≤ count_of c piece + count_of c xs
count_piece_le c piece [] = omega arith
count_piece_le c piece (b ∷ xs) =
    let head = count_cons c b xs in
    elim (cases_Bool ((b == 64) || (b == 93))) [
      | inl reset ↦ rw reset (let later = count_piece_le c [] xs in omega arith)
      | inr kept ↦
          let later = count_piece_le c (piece ++ b ∷ []) xs in
          let pushed = sum_by_push (λ x. cond (x == c) 1 0) piece b in
          rw kept (omega arith)
    ]

pub count_last_piece_le : (c : ℕ) (xs : List ℕ) → count_of c (last_piece xs) ≤ count_of c xs
count_last_piece_le c xs = omega (arith, count_piece_le c [] xs)

-- behind the bracket or the name of a host stands no colon
pub host_no_colon : (host : List ℕ) → IsHost host → count_of 58 (last_piece host) ≡ 0
host_no_colon host h =
    let whole = host_of-host host h in
    elim (cases_eq (get_or host 0 0) 91) [
      | inl bracket ↦ closed_piece host (bracket_end host h bracket (rw (eq-eqb (get_or host 0 0) 91 bracket) at whole))
      | inr plain ↦
          let long = short_take (index_of 58 host) host (rw (ne_eqb (get_or host 0 0) 91 plain) at whole) in
          let none = count_none 58 host (λ k less. index_of_before 58 host k (omega arith)) in
          omega (arith, count_last_piece_le 58 host)
    ]
  where
    closed_piece : (host : List ℕ) → index_of 93 host + 1 ≡ length host → count_of 58 (last_piece host) ≡ 0
    closed_piece host end =
        let i = index_of 93 host in
        let more = count_piece_more 58 host i (omega arith) in
        let last : get_or host i 0 ≡ 93 = index_of_found 93 host (omega arith) in
        rw (end, take_all (length host) host (omega arith), last) at more
