-- What the parts of an authority say of its address.
use Rattle.std.proofs.Common.{◌≡◌, ℕ, ◌^◌, ◌<◌, ◌⊎◌, true, false, List, Option, Some, None, Result, Err, inl, inr, refl, sym, ap, ◌∙◌, subst, arith, rules}
use Rattle.std.specs.List.{list_all}
use Rattle.std.specs.Char.{is_ascii_digit}
use Rattle.std.specs.Str.Parse.{IsNumeral, digits_value, without_leading_plus}
use Rattle.std.proofs.lemmas.Bool.Decides.{nat_tests}
use Rattle.std.specs.Str.{IsAscii}
use Rattle.std.proofs.lemmas.Fmt.{IsAscii-from_digits}
use Rattle.std.proofs.lemmas.Str.Parse.{IsNumeralModel, numerals_by_value, parse_digits}
use Rattle.px_message.specs.Host.{IsHost}
use Rattle.px_message.specs.TellHost.{tell_host}
use Rattle.px_message.specs.Authority.{host_of, after_host, has_port_digits, is_port, port_of, address_from, address_of}

pub numerals : IsNumeralModel (λ digits. list_all is_ascii_digit digits ≡ true) (digits_value 10)
numerals = numerals_by_value _ (search rules)

-- digits that `parse` refuses are no port
pub is_port-refused : (digits : List ℕ) → has_port_digits digits ≡ true → ¬ (IsNumeral 10 (without_leading_plus digits) × (digits_value 10 (without_leading_plus digits) < 2 ^ 16)) → is_port digits ≡ false
is_port-refused digits few refused =
    let all : list_all is_ascii_digit digits ≡ true = grind (arith, nat_tests) in
    let result : Result ℕ ℕ = Err 0 in
    let too_large : digits_value 10 digits < 2 ^ 16 → ⊥ = λ h. parse_digits numerals 16 digits result refused all (grind (arith, nat_tests), h) in
    let large : 65535 < digits_value 10 digits = omega arith in
    grind (arith, nat_tests)

pub IsAscii-port_digits : (digits : List ℕ) → has_port_digits digits ≡ true → IsAscii digits
IsAscii-port_digits digits few =
    let all : list_all is_ascii_digit digits ≡ true = grind (arith, nat_tests) in
    IsAscii-from_digits digits (numerals.to digits all)

address_from-host : (host : List ℕ) (told : IsHost host ⊎ (IsHost host → ⊥)) (port : ℕ) → IsHost host → address_from host told (Some port) ≡ Some (host, port)
unfolding address_from
address_from-host host (inl _) port valid = refl
address_from-host host (inr fails) port valid = absurd (fails valid)

address_from-no_host : (host : List ℕ) (told : IsHost host ⊎ (IsHost host → ⊥)) (port : Option ℕ) → ¬ (IsHost host) → address_from host told port ≡ None
unfolding address_from
address_from-no_host host (inl valid) port fails = absurd (fails valid)
address_from-no_host host (inr _) None fails = refl
address_from-no_host host (inr _) (Some _) fails = refl

address_from-no_port : (host : List ℕ) (told : IsHost host ⊎ (IsHost host → ⊥)) → address_from host told None ≡ None
unfolding address_from
address_from-no_port host (inl _) = refl
address_from-no_port host (inr _) = refl

-- a host and a port make an address
pub address_of-parts : (authority host : List ℕ) (port : ℕ) → host ≡ host_of authority → IsHost host → Some port ≡ port_of (after_host authority) → address_of authority ≡ Some (host, port)
unfolding address_of
address_of-parts authority host port cut valid ported =
    let told = subst IsHost cut valid in
    ap (λ (p : Option ℕ). address_from (host_of authority) (tell_host (host_of authority)) p) (sym ported)
    ∙ address_from-host (host_of authority) _ port told ∙ ap (λ (h : List ℕ). Some (h, port)) (sym cut)

-- no host, no address
pub address_of-no_host : (authority host : List ℕ) → host ≡ host_of authority → ¬ (IsHost host) → address_of authority ≡ None
unfolding address_of
address_of-no_host authority host cut fails = address_from-no_host (host_of authority) _ _ (λ valid. fails (subst IsHost (sym cut) valid))

-- no port, no address
pub address_of-no_port : (authority : List ℕ) → port_of (after_host authority) ≡ None → address_of authority ≡ None
unfolding address_of
address_of-no_port authority none =
    ap (λ (p : Option ℕ). address_from (host_of authority) (tell_host (host_of authority)) p) none ∙ address_from-no_port (host_of authority) _
