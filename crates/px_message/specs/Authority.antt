-- The address that the text of an authority names.
use Rattle.std.specs.Prelude.{◌≡◌, ◌↔◌, ◌≢◌, ◌<◌, All, ℕ, ◌⊎◌, Bool, ◌&&◌, ◌==◌, nat_le, List, [], ◌∷◌, length, drop, slice_index, Option, Some, None, if◌then◌else◌}
use Rattle.std.specs.List.{list_all}
use Rattle.std.specs.Char.{is_ascii_digit}
use Rattle.std.specs.Str.Parse.{digits_value}
use Rattle.std.proofs.Common.{inl}
use Rattle.http_uri.specs.ByteClasses.{at_sign, colon, left_bracket, right_bracket, split_once_front, split_once_through}
use Rattle.http_uri.specs.Grammar.{IsAuthority, authority_host}
use Rattle.px_message.specs.Host.{IsHost}
use Rattle.px_message.specs.TellHost.{tell_host}

-- the host: an address in brackets with its brackets, else what stands before the colon (RFC 3986 section 3.2.2)
abbrev pub host_of : List ℕ → List ℕ
host_of authority =
    if slice_index authority 0 == left_bracket then split_once_through right_bracket authority else split_once_front colon authority

-- what follows the host
abbrev pub after_host : List ℕ → List ℕ
after_host authority = drop (length (host_of authority)) authority

-- one to five digits
abbrev pub has_port_digits : List ℕ → Bool
has_port_digits digits = nat_le 1 (length digits) && nat_le (length digits) 5 && list_all is_ascii_digit digits

-- one to five digits of a number from 1 to 65,535
abbrev pub is_port : List ℕ → Bool
is_port digits = has_port_digits digits && nat_le 1 (digits_value 10 digits) && nat_le (digits_value 10 digits) 65535

-- the port that follows a host: nothing is the scheme's own, 80; else a colon and the port's digits (RFC 3986 section 3.2.3,
-- RFC 9110 section 4.2.1)
unfoldable pub port_of : List ℕ → Option ℕ
port_of [] = Some 80
port_of (b ∷ digits) = if b == colon && is_port digits then Some (digits_value 10 digits) else None

-- the host and the port, where the first is a host and the second a port
unfoldable pub address_from : (host : List ℕ) → IsHost host ⊎ (IsHost host → ⊥) → Option ℕ → Option (List ℕ × ℕ)
address_from host (inl _) (Some port) = Some (host, port)
address_from host _ _ = None

-- the host and the port of an authority, or none where it is none, has userinfo or an empty host, or something else than a
-- port follows its host
unfoldable pub address_of : List ℕ → Option (List ℕ × ℕ)
address_of authority = address_from (host_of authority) (tell_host (host_of authority)) (port_of (after_host authority))

-- The same in the words of `http_uri`: it reads the text as an authority, without userinfo, whose host is this and not
-- empty, and what follows the host is this port.
pub record IsAddress (text host : List ℕ) (port : ℕ) : Type 0 where
  pub authority : IsAuthority text
  pub no_userinfo : All (λ b. b ≢ at_sign) text
  pub host_is : authority_host text ≡ host
  pub not_empty : 0 < length host
  pub port_is : port_of (drop (length host) text) ≡ Some port

-- a text has an address exactly where it is one in those words
abbrev pub AddressIsAuthority : Type 0
AddressIsAuthority = (text host : List ℕ) (port : ℕ) → (address_of text ≡ Some (host, port)) ↔ IsAddress text host port
