-- What a client asks for (RFC 1928 section 4): 05, the command, 00, the type of an address, the address, and a port in two bytes, the
-- higher one first. Only the command CONNECT is served. Each byte is judged as it comes, in this order.
use Rattle.std.specs.Prelude.{◌≡◌, ◌≢◌, ℕ, zero, suc, ◌+◌, ◌*◌, ◌⊎◌, ◌==◌, Bool, true, false, if◌then◌else◌, List, [], ◌∷◌, ◌++◌, Option, Some, None, slice_index, codes, decimal}
use Rattle.std.proofs.Common.{inl, inr}
use Rattle.std.proofs.lemmas.Bool.{eq-eqb}
use Rattle.px_message.specs.declared.address.Address.{Address}
use Rattle.px_text.specs.Number.{hexadecimal}
use Rattle.px_message.specs.Host.{IsHost}
use Rattle.px_message.specs.TellHost.{tell_host}
use Rattle.px_socks.specs.declared.request.SocksStep.{SocksStep}
use Rattle.px_socks.specs.declared.request.SocksStep.TheVariants.{More, Connect, Refused}

-- nothing is decided yet; a host and a port, and how many bytes the request has; or the answer that refuses it (section 6)
pub data Heard : Type 0 where
  more : Heard
  connect : (host : List ℕ) (port used : ℕ) → Heard
  refused : ℕ → Heard

-- the same of what a call answers
abbrev pub heard : SocksStep → Heard
heard More = more
heard (Connect address used) = connect address.host address.port used
heard (Refused code) = refused code

pub not_zero : (port : ℕ) → (port == 0) ≡ false → port ≢ 0
not_zero port differs is = let e : (port == 0) ≡ true = eq-eqb port 0 is in cc

-- the address of this host and port, where the port is one that a server has
abbrev pub address_with : List ℕ → (port : ℕ) → (zero : Bool) → (port == 0) ≡ zero → Option Address
address_with host port true is = None
address_with host port false is = Some (record { host = host; port = port; port_not_zero = not_zero port is })

-- ---- the texts of addresses

-- four bytes in decimal digits, with dots between them
abbrev pub ipv4_text : List ℕ → List ℕ
ipv4_text bytes =
    decimal (slice_index bytes 0) ++ codes "." ++ decimal (slice_index bytes 1) ++ codes "."
    ++ decimal (slice_index bytes 2) ++ codes "." ++ decimal (slice_index bytes 3)

-- two bytes as one number, the higher one first
abbrev pub pair : ℕ → ℕ → ℕ
pair high low = 256 * high + low

-- the group of two bytes that begins at one of them
abbrev pub group : List ℕ → ℕ → ℕ
group bytes at = pair (slice_index bytes at) (slice_index bytes (at + 1))

-- four groups in hexadecimal digits without leading zeros, with colons between them
abbrev pub four_text : (a b c d : ℕ) → List ℕ
four_text a b c d = hexadecimal a ++ codes ":" ++ hexadecimal b ++ codes ":" ++ hexadecimal c ++ codes ":" ++ hexadecimal d

-- the four that begin at a byte
abbrev pub half_text : List ℕ → ℕ → List ℕ
half_text bytes at = four_text (group bytes at) (group bytes (at + 2)) (group bytes (at + 4)) (group bytes (at + 6))

-- two texts with a colon between them, in brackets
abbrev pub in_brackets : (first second : List ℕ) → List ℕ
in_brackets first second = codes "[" ++ first ++ codes ":" ++ second ++ codes "]"

-- sixteen bytes as eight groups with colons between them, in brackets (RFC 3986 section 3.2.2)
abbrev pub ipv6_text : List ℕ → List ℕ
ipv6_text bytes = in_brackets (half_text bytes 0) (half_text bytes 8)

-- how an address of a type is written as a host
pub data Kind : Type 0 where
  ipv4 : Kind
  domain : Kind
  ipv6 : Kind

abbrev pub host_text : Kind → List ℕ → List ℕ
host_text ipv4 bytes = ipv4_text bytes
host_text domain bytes = bytes
host_text ipv6 bytes = ipv6_text bytes

-- ---- the bytes, the last ones first

-- the address is whole: its host is none, or the port is 0, or a connection is asked for
unfoldable pub judged : (host : List ℕ) → IsHost host ⊎ (IsHost host → ⊥) → (port used : ℕ) → Heard
judged host (inl _) port used = if port == 0 then refused 1 else connect host port used
judged host (inr _) port used = refused 1

-- the lower byte of the port is to come; `used`: how many bytes came in front
abbrev pub low_step : List ℕ → (high used : ℕ) → List ℕ → Heard
low_step host high used [] = more
low_step host high used (low ∷ rest) = judged host (tell_host host) (pair high low) (used + 1)

-- the port is to come
abbrev pub port_step : List ℕ → (used : ℕ) → List ℕ → Heard
port_step host used [] = more
port_step host used (high ∷ rest) = low_step host high (used + 1) rest

-- so many bytes of the address are to come, and these came
unfoldable pub address_step : Kind → (left : ℕ) → List ℕ → (used : ℕ) → List ℕ → Heard
address_step kind zero came used bytes = port_step (host_text kind came) used bytes
address_step kind (suc left) came used [] = more
address_step kind (suc left) came used (byte ∷ rest) = address_step kind left (came ++ byte ∷ []) (used + 1) rest

-- the length of a name is to come
abbrev pub length_step : List ℕ → Heard
length_step [] = more
length_step (count ∷ rest) = address_step domain count [] 5 rest

-- what follows the type of an address (section 5)
abbrev pub behind_type : ℕ → List ℕ → Heard
behind_type type rest =
    if type == 1 then address_step ipv4 4 [] 4 rest
    else (if type == 3 then length_step rest
    else (if type == 4 then address_step ipv6 16 [] 4 rest else refused 8))

-- the type of the address is to come
abbrev pub type_step : List ℕ → Heard
type_step [] = more
type_step (type ∷ rest) = behind_type type rest

-- the reserved byte is to come
abbrev pub reserved_step : List ℕ → Heard
reserved_step [] = more
reserved_step (reserved ∷ rest) = if reserved == 0 then type_step rest else refused 1

-- the command is to come
abbrev pub command_step : List ℕ → Heard
command_step [] = more
command_step (command ∷ rest) = if command == 1 then reserved_step rest else refused 7

-- what the bytes of a client are as a request, each judged as it comes
abbrev pub request_of : List ℕ → Heard
request_of [] = more
request_of (version ∷ rest) = if version == 5 then command_step rest else refused 1
