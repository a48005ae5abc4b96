-- Where the host of an authority ends.
use Rattle.std.proofs.Common.{◌≡◌, ◌≢◌, ℕ, suc, ◌+◌, ◌-◌, ◌<◌, ◌≤◌, ◌==◌, true, false, cond, not, List, [], ◌∷◌, ◌++◌, length, get_or, take, drop, inl, inr, refl, sym, ap, ◌∙◌, arith, length-take, length-append, ne_eqb, eq-eqb}
use Rattle.std.proofs.lemmas.Bool.{cases_eq, cases_lt}
use Rattle.std.proofs.lemmas.List.Elements.{All-get_or}
use Rattle.std.proofs.lemmas.List.Sums.{suffix_len_is, sum_by-cons}
use Rattle.std.proofs.lemmas.List.{get_or_append_left, get_or-append_right}
use Rattle.std.proofs.Math.Seq.{take-append_seam, drop-append_seam}
use Rattle.http_uri.specs.ByteClasses.{count_of, index_of, index_after_last}
use Rattle.http_uri.specs.Grammar.{authority_host}
use Rattle.http_uri.proofs.RunLemmas.{index_of_is, index_of_found, index_of_before}
use Rattle.px_message.specs.Host.{IsHost}
use Rattle.px_message.specs.Authority.{host_of, after_host}

pub count_cons : (c x : ℕ) (xs : List ℕ) → count_of c (x ∷ xs) ≡ cond (x == c) 1 0 + count_of c xs
count_cons c x xs = sum_by-cons (λ b. cond (b == c) 1 0) x xs

-- a byte that stands nowhere is counted no time
pub count_none : (c : ℕ) (xs : List ℕ) → ((k : ℕ) → k < length xs → get_or xs k 0 ≢ c) → count_of c xs ≡ 0
count_none c [] none = refl
count_none c (x ∷ xs) none =
    let later = count_none c xs (λ k less. none (suc k) (omega arith)) in
    let other : (x == c) ≡ false = ne_eqb x c (none 0 (omega arith)) in
    rw other later

-- the rest begins with a colon, where there is one
abbrev pub EndsHost : List ℕ → Type 0
EndsHost rest = 0 < length rest → get_or rest 0 0 ≡ 58

no_last : (c : ℕ) (xs : List ℕ) → ((k : ℕ) → k < length xs → get_or xs k 0 ≢ c) → index_after_last c xs ≡ 0
no_last c xs none =
    let all = suffix_len_is (λ b. not (b == c)) xs 0 0 (omega arith)
    (λ k _ less. rw (ne_eqb (get_or xs k 0) c (none k less)) refl) (λ less. absurd (omega arith)) in
    omega (arith, all)

-- without an `@` the host of the whole is the host of the authority
pub authority_host-host_of : (text : List ℕ) → ((k : ℕ) → k < length text → get_or text k 0 ≢ 64) → authority_host text ≡ host_of text
authority_host-host_of text none = ap (λ (i : ℕ). host_of (drop i text)) (no_last 64 text none)

pub no_at_sign : (host : List ℕ) → IsHost host → (k : ℕ) → k < length host → get_or host k 0 ≢ 64
no_at_sign host h k less = All-get_or (λ b. b ≢ 64) host k 0 less h.no_userinfo

-- a host is its own host
pub host_of-host : (host : List ℕ) → IsHost host → host_of host ≡ host
host_of-host host h = sym (authority_host-host_of host (no_at_sign host h)) ∙ h.whole

pub short_take : (n : ℕ) (xs : List ℕ) → take n xs ≡ xs → length xs ≤ n
short_take n xs whole = omega (arith, length-take n xs, ap length whole)

-- a host in brackets ends with its first closing bracket
pub bracket_end : (host : List ℕ) → IsHost host → get_or host 0 0 ≡ 91 → take (index_of 93 host + 1) host ≡ host → index_of 93 host + 1 ≡ length host
bracket_end [] h first whole = absurd (omega (arith, h.authority.nonempty))
bracket_end (x ∷ xs) h first whole =
    let host : List ℕ = x ∷ xs in
    let bracket : (x == 91) ≡ true = eq-eqb x 91 first in
    let opened : 0 < count_of 91 host = rw (count_cons 91 x xs, bracket) (omega arith) in
    let long = short_take (index_of 93 host + 1) host whole in
    elim (cases_lt (index_of 93 host) (length host)) [
      | inl found ↦ omega arith
      | inr open_end ↦
          let none = count_none 93 host (λ k less. index_of_before 93 host k (omega arith)) in
          absurd (omega (arith, h.authority.closed))
    ]

in_brackets : (host rest : List ℕ) → IsHost host → get_or host 0 0 ≡ 91 → take (index_of 93 host + 1) host ≡ host → take (index_of 93 (host ++ rest) + 1) (host ++ rest) ≡ host
in_brackets host rest h first whole =
    let end = bracket_end host h first whole in
    let place : index_of 93 (host ++ rest) ≡ index_of 93 host =
    index_of_is 93 (host ++ rest) (index_of 93 host) (omega (arith, length-append host rest))
    (λ k less. rw (get_or_append_left host rest 0 k (omega arith)) (index_of_before 93 host k less))
    (λ less. get_or_append_left host rest 0 (index_of 93 host) (omega arith) ∙ index_of_found 93 host (omega arith)) in
    rw (place, end) (take-append_seam host rest)

first_of_rest : (host rest : List ℕ) → EndsHost rest → length host < length (host ++ rest) → get_or rest (length host - length host) 0 ≡ 58
first_of_rest host rest ends less =
    let start : length host - length host ≡ 0 = omega arith in
    rw start (ends (omega (arith, length-append host rest)))

without_colon : (host rest : List ℕ) → EndsHost rest → take (index_of 58 host) host ≡ host → take (index_of 58 (host ++ rest)) (host ++ rest) ≡ host
without_colon host rest ends whole =
    let long = short_take (index_of 58 host) host whole in
    let place : index_of 58 (host ++ rest) ≡ length host =
    index_of_is 58 (host ++ rest) (length host) (omega (arith, length-append host rest))
    (λ k less. rw (get_or_append_left host rest 0 k less) (index_of_before 58 host k (omega arith)))
    (λ less. get_or-append_right host rest (length host) (length host) 0 refl (omega arith) ∙ first_of_rest host rest ends less) in
    rw place (take-append_seam host rest)

-- the host in front of a port is cut off whole
pub host_of-append : (host rest : List ℕ) → IsHost host → EndsHost rest → host_of (host ++ rest) ≡ host
host_of-append host rest h ends =
    let some = h.authority.nonempty in
    let whole = host_of-host host h in
    let same : get_or (host ++ rest) 0 0 ≡ get_or host 0 0 = get_or_append_left host rest 0 0 some in
    elim (cases_eq (get_or host 0 0) 91) [
      | inl bracket ↦ rw (same, eq-eqb (get_or host 0 0) 91 bracket) (in_brackets host rest h bracket (rw (eq-eqb (get_or host 0 0) 91 bracket) at whole))
      | inr plain ↦ rw (same, ne_eqb (get_or host 0 0) 91 plain) (without_colon host rest ends (rw (ne_eqb (get_or host 0 0) 91 plain) at whole))
    ]

pub after_host-append : (host rest : List ℕ) → IsHost host → EndsHost rest → after_host (host ++ rest) ≡ rest
after_host-append host rest h ends = ap (λ (cut : List ℕ). drop (length cut) (host ++ rest)) (host_of-append host rest h ends) ∙ drop-append_seam host rest
