-- A URL that was written from a host, a port and a path is read as the same.
use Rattle.std.proofs.Common.{◌≡◌, ◌≢◌, ℕ, ◌-◌, ◌^◌, zero, suc, ◌<◌, ◌≤◌, ◌==◌, ◌||◌, ◌⊎◌, Bool, true, false, not, List, [], ◌∷◌, ◌++◌, length, get_or, take, drop, bytes_eq, codes, decimal, Some, inl, inr, refl, sym, ap, ◌∙◌, subst, arith, length-append, ne_eqb, eq-eqb}
use Rattle.std.specs.List.{list_all}
use Rattle.std.specs.Char.{is_ascii_digit}
use Rattle.std.specs.Int.{IsInRange}
use Rattle.std.specs.Str.Parse.{digits_value}
use Rattle.std.proofs.lemmas.Bool.{cases_Bool, cases_eq, cases_lt}
use Rattle.std.proofs.lemmas.Bool.Decides.{nat_tests}
use Rattle.std.proofs.lemmas.Fmt.{digits_decimal, digits_value-decimal, length-decimal-le, decimal_nonempty}
use Rattle.std.proofs.lemmas.List.{get_or_append_left, get_or-append_right}
use Rattle.std.proofs.lemmas.Str.Parse.{digit_at}
use Rattle.std.proofs.lemmas.Slice.Eq.{bytes_eq-Decides}
use Rattle.std.proofs.Math.Seq.{take-append_seam, drop-append_seam}
use Rattle.http_uri.specs.ByteClasses.{is_authority_byte}
use Rattle.http_uri.proofs.RunLemmas.{PassBelow, run-append}
use Rattle.px_message.specs.Host.{IsHost}
use Rattle.px_message.specs.Path.{is_path}
use Rattle.px_message.specs.Authority.{after_host, is_port, port_of, address_of}
use Rattle.px_message.specs.Target.{authority_len, rooted, path_form, located, absolute_form}
use Rattle.px_message.specs.Url.{port_suffix, url_path, url_text}
use Rattle.px_message.proofs.AuthorityLemmas.{numerals, address_of-parts}
use Rattle.px_message.proofs.HostLemmas.{EndsHost, host_of-append, after_host-append}

-- the byte ends no authority
abbrev in_authority : ℕ → Bool
in_authority b = not (b == 47 || b == 63)

two_suffixes : (port : ℕ) → (port_suffix port ≡ []) × (port ≡ 80) ⊎ (port_suffix port ≡ 58 ∷ decimal port)
two_suffixes port =
    elim (cases_eq port 80) [
      | inl own ↦ inl (rw (eq-eqb port 80 own) refl, own)
      | inr other ↦ inr (rw (ne_eqb port 80 other) refl)
    ]

is_port-decimal : (port : ℕ) → 0 < port → port < 2 ^ 16 → is_port (decimal port) ≡ true
is_port-decimal port some small =
    let digits : list_all is_ascii_digit (decimal port) ≡ true = digits_decimal numerals port (omega arith) in
    let value : digits_value 10 (decimal port) ≡ port = digits_value-decimal numerals port (omega arith) in
    let short : length (decimal port) ≤ 5 = length-decimal-le 5 port (omega arith) (omega arith) (omega arith) in
    let nonempty : 0 < length (decimal port) = decimal_nonempty port (omega arith) in
    grind (arith, nat_tests)

pub port_of-suffix : (port : ℕ) → 0 < port → port < 2 ^ 16 → port_of (port_suffix port) ≡ Some port
unfolding port_of
port_of-suffix port some small =
    elim (two_suffixes port) [
      | inl own ↦ rw (own.0) (ap Some (sym own.1))
      | inr written ↦ rw (written, is_port-decimal port some small) (ap Some (digits_value-decimal numerals port (omega arith)))
    ]

suffix_ends : (port : ℕ) → EndsHost (port_suffix port)
suffix_ends port =
    elim (two_suffixes port) [
      | inl own ↦ subst EndsHost (sym own.0) (λ less. absurd (omega arith))
      | inr written ↦ subst EndsHost (sym written) (λ _. refl)
    ]

-- what may stand in an authority ends none
authority_byte : (b : ℕ) → is_authority_byte b ≡ true → in_authority b ≡ true
authority_byte b h = grind (arith, nat_tests)

passes_append : (p : ℕ → Bool) (xs ys : List ℕ) → PassBelow p xs (length xs) → PassBelow p ys (length ys) → PassBelow p (xs ++ ys) (length (xs ++ ys))
passes_append p xs ys first second k less =
    elim (cases_lt k (length xs)) [
      | inl before ↦ rw (get_or_append_left xs ys 0 k before) (first k before)
      | inr behind ↦ rw (get_or-append_right xs ys (length xs) k 0 refl behind) (second (k - length xs) (omega (arith, length-append xs ys)))
    ]

colon_byte : (k : ℕ) → k < 1 → in_authority (get_or (58 ∷ []) k 0) ≡ true
colon_byte zero less = refl
colon_byte (suc k) less = absurd (omega arith)

digit_byte : (b : ℕ) → IsInRange 48 57 b → in_authority b ≡ true
digit_byte b h = grind (arith, nat_tests)

passes_suffix : (port : ℕ) → port < 2 ^ 16 → PassBelow in_authority (port_suffix port) (length (port_suffix port))
passes_suffix port small =
    let P : List ℕ → Type 0 = λ rest. PassBelow in_authority rest (length rest) in
    elim (two_suffixes port) [
      | inl own ↦ subst P (sym own.0) (λ k less. absurd (omega arith))
      | inr written ↦ subst P (sym written) (passes_append in_authority (58 ∷ []) (decimal port) colon_byte
          (λ k less. digit_byte (get_or (decimal port) k 0) (digit_at (decimal port) k (numerals.to (decimal port) (digits_decimal numerals port (omega arith))) less)))
    ]

passes_host : (host : List ℕ) → IsHost host → PassBelow in_authority host (length host)
passes_host host h k less = authority_byte (get_or host k 0) (h.authority.bytes k less).byte

module _ (whole path : List ℕ) (address : List ℕ × ℕ) (passes : PassBelow in_authority whole (length whole)) (first : get_or path 0 0 ≡ 47) where
  cut_len : authority_len (whole ++ path) ≡ length whole
  cut_len = run-append in_authority whole path passes (λ _. rw first refl)

  cut_located : is_path path ≡ true → address_of whole ≡ Some address →
      located (address_of (take (authority_len (whole ++ path)) (whole ++ path))) (path_form (rooted (drop (authority_len (whole ++ path)) (whole ++ path))))
      ≡ Some (address.0, address.1, path)
  unfolding path_form located
  cut_located valid named = rw (cut_len, take-append_seam whole path, drop-append_seam whole path, named, first, valid) refl

rooted_path : (path : List ℕ) → is_path path ≡ true → path ≢ codes "*" → (get_or path 0 0 ≡ 47) × (url_path path ≡ path)
rooted_path path valid other =
    let not_star : bytes_eq path (codes "*") ≡ false =
    elim (cases_Bool (bytes_eq path (codes "*"))) [ inl star ↦ absurd (other ((bytes_eq-Decides path (codes "*")).0 star)) | inr not_so ↦ not_so ] in
    let slashed = rw not_star at valid in
    (grind (arith, nat_tests), rw not_star refl)

-- what is written is read
pub absolute_form-url_text : (host path : List ℕ) (port : ℕ) → IsHost host → is_path path ≡ true → path ≢ codes "*" → 0 < port → port < 2 ^ 16 → absolute_form (url_text host port path) ≡ Some (host, port, path)
unfolding absolute_form
absolute_form-url_text host path port h valid other some small =
    let parts = rooted_path path valid other in
    let suffix = port_suffix port in
    let passes = passes_append in_authority host suffix (passes_host host h) (passes_suffix port small) in
    let ported : Some port ≡ port_of (after_host (host ++ suffix)) =
    sym (ap port_of (after_host-append host suffix h (suffix_ends port)) ∙ port_of-suffix port some small) in
    let named = address_of-parts (host ++ suffix) host port (sym (host_of-append host suffix h (suffix_ends port))) h ported in
    rw (parts.1) (cut_located (host ++ suffix) path (host, port) passes parts.0 valid named)
