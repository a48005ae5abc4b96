-- A request with another method, and at another URL.
use Rattle.std.specs.Prelude.{◌≡◌, ◌≢◌, ℕ, zero, suc, Bool, true, false, List, bytes_eq, codes, Option, Some, None}
use Rattle.std.proofs.Common.{arith, refl}
use Rattle.std.proofs.lemmas.Slice.Eq.{bytes_eq-Decides}
use Rattle.px_message.specs.Target.{absolute_form}
use Rattle.px_message.specs.declared.request.Request.{Request}

-- such a name is another
pub other_name : (name : List ℕ) → bytes_eq name (codes "CONNECT") ≡ false → name ≢ codes "CONNECT"
other_name name is same = let no : bytes_eq name (codes "CONNECT") ≡ true = (bytes_eq-Decides name (codes "CONNECT")).1 same in cc (is, no)

abbrev pub named_by : Request → (name : List ℕ) → (is_connect : Bool) → bytes_eq name (codes "CONNECT") ≡ is_connect → Option Request
named_by request name true is = None
named_by request name false is = Some (record request { method = name; not_connect = other_name name is })

-- The request with this method, unless that is CONNECT, which asks for a tunnel and is no message (RFC 9110 section 9.3.6).
abbrev pub with_method : List ℕ → Request → Option Request
with_method name request = named_by request name (bytes_eq name (codes "CONNECT")) refl

-- no such number is 0
pub some_port : (below : ℕ) → suc below ≢ 0
some_port below e = absurd (omega (arith, e))

abbrev pub located_at : Request → List ℕ → ℕ → List ℕ → Option Request
located_at request host zero path = None
located_at request host (suc below) path = Some (record request { host = host; port = suc below; path = path; port_not_zero = some_port below })

abbrev pub located : Request → Option (List ℕ × ℕ × List ℕ) → Option Request
located request None = None
located request (Some (host, port, path)) = located_at request host port path

-- The request at this URL of the scheme `http`: its host, its port and its path are those, and its fields stay.
abbrev pub with_url : List ℕ → Request → Option Request
with_url text request = located request (absolute_form text)
