-- The address of an authority, in the words of `http_uri`.
use Rattle.std.proofs.Common.{◌≡◌, ◌≢◌, ℕ, suc, zero, ◌+◌, ◌-◌, ◌<◌, ◌≤◌, ◌==◌, ◌&&◌, ◌⊎◌, true, List, [], ◌∷◌, ◌++◌, length, get_or, take, drop, Option, Some, None, inl, inr, refl, sym, ap, ◌∙◌, subst, arith, length-append, length-take, length-take-le, take-append-drop, take_all, append-nil, get_or-take, ne_eqb, eq-eqb}
use Rattle.std.specs.Char.{is_ascii_digit}
use Rattle.std.specs.Int.{IsInRange}
use Rattle.std.specs.List.{list_all}
use Rattle.std.proofs.lemmas.Bool.{cases_Bool, cases_eq, cases_lt}
use Rattle.std.proofs.lemmas.Bool.Decides.{nat_tests}
use Rattle.std.proofs.lemmas.List.{get_or_append_left, get_or-append_right, take-append-le}
use Rattle.std.proofs.lemmas.List.Elements.{All-from_get_or, All-get_or}
use Rattle.std.proofs.lemmas.Option.{none-some}
use Rattle.std.proofs.lemmas.Str.Parse.{digit_at}
use Rattle.std.proofs.Math.Seq.{take-append_seam, drop-length}
use Rattle.http_uri.specs.ByteClasses.{index_of, is_authority_byte}
use Rattle.http_uri.specs.Grammar.{IsAuthority, MayFollow, last_piece}
use Rattle.http_uri.proofs.RunLemmas.{index_of_at_least, index_of_before}
use Rattle.px_message.specs.Host.{IsHost}
use Rattle.px_message.specs.TellHost.{tell_host}
use Rattle.px_message.specs.Authority.{host_of, after_host, is_port, port_of, address_from, address_of, IsAddress}
use Rattle.px_message.proofs.AuthorityLemmas.{numerals, address_of-parts}
use Rattle.px_message.proofs.HostLemmas.{authority_host-host_of, no_at_sign}
use Rattle.px_message.proofs.PieceLemmas.{IsRest, rest_lacks, count_rest, count_rest_colon, count-append, last_piece-append, host_no_colon}

-- what reads as a port is nothing, or a colon and digits
rest_of_port : (rest : List ℕ) (port : ℕ) → port_of rest ≡ Some port → IsRest rest
unfolding port_of
rest_of_port [] port read = record { ends = λ less. absurd (omega arith); range = λ k less. absurd (omega arith); digits = λ k some less. absurd (omega arith) }
rest_of_port (b ∷ digits) port read =
    elim (cases_Bool (b == 58 && is_port digits)) [
      | inr not_so ↦ absurd (none-some port (rw not_so at read))
      | inl yes_so ↦
          let colon : b ≡ 58 = grind (arith, nat_tests) in
          let all : list_all is_ascii_digit digits ≡ true = grind (arith, nat_tests) in
          let each : (k : ℕ) → k < length digits → IsInRange 48 57 (get_or digits k 0) = λ k less. digit_at digits k (numerals.to digits all) less in
          record { ends = λ _. colon; range = range b digits colon each; digits = behind b digits each }
    ]
  where
    range : (b : ℕ) (digits : List ℕ) → b ≡ 58 → ((k : ℕ) → k < length digits → IsInRange 48 57 (get_or digits k 0)) → (k : ℕ) → k < length (b ∷ digits) → IsInRange 48 58 (get_or (b ∷ digits) k 0)
    range b digits colon each zero less = (omega arith, omega arith)
    range b digits colon each (suc k) less = let d = each k (omega arith) in (omega arith, omega arith)

    behind : (b : ℕ) (digits : List ℕ) → ((k : ℕ) → k < length digits → IsInRange 48 57 (get_or digits k 0)) → (k : ℕ) → 0 < k → k < length (b ∷ digits) → IsInRange 48 57 (get_or (b ∷ digits) k 0)
    behind b digits each zero some less = absurd (omega arith)
    behind b digits each (suc k) some less = each k (omega arith)

rest_byte : (b : ℕ) → IsInRange 48 58 b → is_authority_byte b ≡ true
rest_byte b h = grind (arith, nat_tests)

-- a host and what follows it have no `@`
whole_no_at : (host rest : List ℕ) → IsRest rest → ((k : ℕ) → k < length host → get_or host k 0 ≢ 64) → (k : ℕ) → k < length (host ++ rest) → get_or (host ++ rest) k 0 ≢ 64
whole_no_at host rest r none k less =
    elim (cases_lt k (length host)) [
      | inl before ↦ rw (get_or_append_left host rest 0 k before) (none k before)
      | inr behind ↦ rw (get_or-append_right host rest (length host) k 0 refl behind) (rest_lacks 64 rest r (λ h. omega arith) (k - length host) (omega (arith, length-append host rest)))
    ]

-- a host with a port is an authority
authority_append : (host rest : List ℕ) → IsHost host → IsRest rest → IsAuthority (host ++ rest)
authority_append host rest h r =
    let piece = last_piece-append host rest r in
    let len = length-append host rest in
    let no_at = whole_no_at host rest r (no_at_sign host h) in
    record {
      nonempty = omega (arith, h.authority.nonempty);
      bytes = follows host rest h r;
      closed =
          rw (count-append 91 host rest, count-append 93 host rest, count_rest 91 rest r (λ x. omega arith), count_rest 93 rest r (λ x. omega arith))
          (omega (arith, h.authority.closed));
      one_colon = rw (piece, count-append 58 (last_piece host) rest, host_no_colon host h) (omega (arith, count_rest_colon rest r));
      no_percent = rw (piece, count-append 37 (last_piece host) rest, count_rest 37 rest r (λ x. omega arith)) (omega (arith, h.authority.no_percent));
      has_host = no_at (length (host ++ rest) - 1) (omega (arith, h.authority.nonempty));
    }
  where
    behind_host : (host rest : List ℕ) → IsHost host → IsRest rest → (i : ℕ) → length host ≤ i → i < length (host ++ rest) → (b : ℕ) → b ≡ get_or rest (i - length host) 0 → MayFollow (take i (host ++ rest)) b
    behind_host host rest h r i behind less b is =
        let place : i - length host < length rest = omega (arith, length-append host rest) in
        let range : IsInRange 48 58 b = subst (λ (x : ℕ). IsInRange 48 58 x) (sym is) (r.range (i - length host) place) in
        record {
          byte = rest_byte b range;
          colons = λ colon.
              let first : i ≡ length host = elim (cases_eq i (length host)) [ inl same ↦ same | inr later ↦ (let d = r.digits (i - length host) (omega arith) place in absurd (omega (arith, is, colon, d))) ] in
              rw (first, take-append_seam host rest, host_no_colon host h) (omega arith);
          opening = λ same. absurd (omega arith);
          closing = λ same. absurd (omega arith);
        }

    follows : (host rest : List ℕ) → IsHost host → IsRest rest → (i : ℕ) → i < length (host ++ rest) → MayFollow (take i (host ++ rest)) (get_or (host ++ rest) i 0)
    follows host rest h r i less =
        elim (cases_lt i (length host)) [
          | inl before ↦ rw (take-append-le i host rest (omega arith), get_or_append_left host rest 0 i before) (h.authority.bytes i before)
          | inr behind ↦ behind_host host rest h r i behind less (get_or (host ++ rest) i 0) (get_or-append_right host rest (length host) i 0 refl behind)
        ]

-- the host of an authority is one by itself
authority_front : (host rest : List ℕ) → 0 < length host → IsRest rest → ((k : ℕ) → k < length host → get_or host k 0 ≢ 64) → IsAuthority (host ++ rest) → IsAuthority host
authority_front host rest some r no_at a =
    let piece = last_piece-append host rest r in
    let len = length-append host rest in
    let closed = rw (count-append 91 host rest, count-append 93 host rest, count_rest 91 rest r (λ x. omega arith), count_rest 93 rest r (λ x. omega arith)) at a.closed in
    let colons = rw (piece, count-append 58 (last_piece host) rest) at a.one_colon in
    let percents = rw (piece, count-append 37 (last_piece host) rest) at a.no_percent in
    record {
      nonempty = some;
      bytes = λ i less.
          let here = a.bytes i (omega arith) in
          rw (take-append-le i host rest (omega arith), get_or_append_left host rest 0 i less) at here;
      closed = omega arith;
      one_colon = omega arith;
      no_percent = omega arith;
      has_host = no_at (length host - 1) (omega arith);
    }

-- cutting a host twice is cutting it once
cut_at : (c n : ℕ) (xs : List ℕ) → n ≡ index_of c xs → take (index_of c (take n xs)) (take n xs) ≡ take n xs
cut_at c n xs is =
    let low = index_of_at_least c (take n xs) (length (take n xs)) (omega arith)
    (λ k less. rw (get_or-take n xs k 0 (omega (arith, length-take n xs))) (index_of_before c xs k (omega (arith, length-take n xs)))) in
    take_all (index_of c (take n xs)) (take n xs) low

cut_through : (c n : ℕ) (xs : List ℕ) → n ≡ index_of c xs + 1 → take (index_of c (take n xs) + 1) (take n xs) ≡ take n xs
cut_through c n xs is =
    let low = index_of_at_least c (take n xs) (length (take n xs) - 1) (omega arith)
    (λ k less. rw (get_or-take n xs k 0 (omega (arith, length-take n xs))) (index_of_before c xs k (omega (arith, length-take n xs)))) in
    take_all (index_of c (take n xs) + 1) (take n xs) (omega arith)

host_of_again : (text : List ℕ) → 0 < length (host_of text) → host_of (host_of text) ≡ host_of text
host_of_again text some =
    elim (cases_eq (get_or text 0 0) 91) [
      | inl bracket ↦ again_in_brackets text bracket
      | inr plain ↦ again_plain text plain (rw (ne_eqb (get_or text 0 0) 91 plain) at some)
    ]
  where
    again_in_brackets : (text : List ℕ) → get_or text 0 0 ≡ 91 → host_of (host_of text) ≡ host_of text
    again_in_brackets text bracket =
        let n = index_of 93 text + 1 in
        let same : get_or (take n text) 0 0 ≡ get_or text 0 0 = get_or-take n text 0 0 (omega arith) in
        rw (eq-eqb (get_or text 0 0) 91 bracket, same, eq-eqb (get_or text 0 0) 91 bracket) (cut_through 93 n text refl)

    again_plain : (text : List ℕ) → get_or text 0 0 ≢ 91 → 0 < length (take (index_of 58 text) text) → host_of (host_of text) ≡ host_of text
    again_plain text plain some =
        let n = index_of 58 text in
        let same : get_or (take n text) 0 0 ≡ get_or text 0 0 = get_or-take n text 0 0 (omega (arith, length-take n text)) in
        rw (ne_eqb (get_or text 0 0) 91 plain, same, ne_eqb (get_or text 0 0) 91 plain) (cut_at 58 n text refl)

-- an authority is its host and what follows it
rejoined : (n : ℕ) (xs : List ℕ) → take n xs ++ drop (length (take n xs)) xs ≡ xs
rejoined n xs =
    elim (cases_lt n (length xs)) [
      | inl short ↦ rw (length-take-le n xs (omega arith)) (take-append-drop n xs)
      | inr long ↦ rw (take_all n xs long) (take-append-drop_all xs)
    ]
  where
    take-append-drop_all : (xs : List ℕ) → xs ++ drop (length xs) xs ≡ xs
    take-append-drop_all xs = rw (drop-length xs) (append-nil xs)

host_and_rest : (text : List ℕ) → host_of text ++ after_host text ≡ text
host_and_rest text =
    elim (cases_Bool (get_or text 0 0 == 91)) [
      | inl bracket ↦ rw bracket (rejoined (index_of 93 text + 1) text)
      | inr plain ↦ rw plain (rejoined (index_of 58 text) text)
    ]

-- the parts of an address that was read
record Parts (host : List ℕ) (told : Option ℕ) (read : List ℕ) (port : ℕ) : Type 0 where
  valid : IsHost host
  ported : told ≡ Some port
  is : host ≡ read

parts_of : (host : List ℕ) (told : IsHost host ⊎ (IsHost host → ⊥)) (ported : Option ℕ) (read : List ℕ) (port : ℕ) → address_from host told ported ≡ Some (read, port) → Parts host ported read port
unfolding address_from
parts_of host (inl valid) (Some p) read port e =
    let pair : ◌≡◌ {A = List ℕ × ℕ} (host, p) (read, port) = cc in
    record { valid = valid; ported = ap (λ (a : List ℕ × ℕ). Some a.1) pair; is = ap (λ (a : List ℕ × ℕ). a.0) pair }
parts_of host (inl valid) None read port e = absurd (none-some (read, port) e)
parts_of host (inr fails) (Some p) read port e = absurd (none-some (read, port) e)
parts_of host (inr fails) None read port e = absurd (none-some (read, port) e)

pub address_is_authority : (text host : List ℕ) (port : ℕ) → address_of text ≡ Some (host, port) → IsAddress text host port
unfolding address_of
address_is_authority text host port read =
    let front = host_of text in
    let rest = after_host text in
    let parts = parts_of front (tell_host front) (port_of rest) host port read in
    let r = rest_of_port rest port parts.ported in
    let joined = host_and_rest text in
    let P : List ℕ → Type 0 = λ t. (k : ℕ) → k < length t → get_or t k 0 ≢ 64 in
    let no_at = subst P joined (whole_no_at front rest r (no_at_sign front parts.valid)) in
    let Q : List ℕ → Type 0 = λ cut. port_of (drop (length cut) text) ≡ Some port in
    let R : List ℕ → Type 0 = λ cut. 0 < length cut in
    record {
      authority = subst IsAuthority joined (authority_append front rest parts.valid r);
      no_userinfo = All-from_get_or (λ b. b ≢ 64) text 0 no_at;
      host_is = authority_host-host_of text no_at ∙ parts.is;
      not_empty = subst R parts.is parts.valid.authority.nonempty;
      port_is = subst Q parts.is parts.ported;
    }

pub authority_has_address : (text host : List ℕ) (port : ℕ) → IsAddress text host port → address_of text ≡ Some (host, port)
authority_has_address text host port a =
    let front = host_of text in
    let rest = after_host text in
    let no_at : (k : ℕ) → k < length text → get_or text k 0 ≢ 64 = λ k less. All-get_or (λ b. b ≢ 64) text k 0 less a.no_userinfo in
    let cut : front ≡ host = sym (authority_host-host_of text no_at) ∙ a.host_is in
    let Q : List ℕ → Type 0 = λ part. port_of (drop (length part) text) ≡ Some port in
    let R : List ℕ → Type 0 = λ part. 0 < length part in
    let some : 0 < length front = subst R (sym cut) a.not_empty in
    let ported : port_of rest ≡ Some port = subst Q (sym cut) a.port_is in
    let r = rest_of_port rest port ported in
    let joined : front ++ rest ≡ text = host_and_rest text in
    let P : List ℕ → Type 0 = λ t. (k : ℕ) → k < length t → get_or t k 0 ≢ 64 in
    let whole = subst P (sym joined) no_at in
    let front_no_at : (k : ℕ) → k < length front → get_or front k 0 ≢ 64 =
    λ k less. rw (get_or_append_left front rest 0 k less) at (whole k (omega (arith, length-append front rest))) in
    let valid : IsHost front = record {
      authority = authority_front front rest some r front_no_at (subst IsAuthority (sym joined) a.authority);
      no_userinfo = All-from_get_or (λ b. b ≢ 64) front 0 front_no_at;
      whole = authority_host-host_of front front_no_at ∙ host_of_again text some;
    } in
    address_of-parts text host port (sym cut) (subst IsHost cut valid) (sym ported)
