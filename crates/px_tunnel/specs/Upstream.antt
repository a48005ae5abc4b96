-- Another proxy, which is asked for a tunnel: the text that asks, and what its answer says (RFC 9110 section 9.3.6).
use Rattle.std.specs.Prelude.{ℕ, Bool, true, false, List, [], ◌∷◌, ◌++◌, codes, bytes_eq, decimal, take}
use Rattle.px_text.specs.Blank.{crlf}
use Rattle.px_message.specs.declared.address.Address.{Address}
use Rattle.px_head.specs.Front.{response_front}
use Rattle.px_head.specs.declared.front.Front.{Front}
use Rattle.px_head.specs.declared.front.Front.TheVariants.{BadHead, Nothing, Stands, TooLong}
use Rattle.px_tunnel.specs.declared.upstream.ProxyAnswer.{ProxyAnswer}
use Rattle.px_tunnel.specs.declared.upstream.ProxyAnswer.TheVariants as says

-- where the tunnel is to lead, with its port (RFC 9112 section 3.2.3)
abbrev pub authority_text : Address → List ℕ
authority_text address = address.host ++ 58 ∷ [] ++ decimal address.port

-- the request for a tunnel to there
abbrev pub connect_text : Address → List ℕ
connect_text address =
    codes "CONNECT " ++ authority_text address ++ codes " HTTP/1.1" ++ crlf
    ++ codes "Host: " ++ authority_text address ++ crlf ++ crlf

-- What a proxy has answered: nothing yet, that the tunnel stands, which begins behind so many bytes, or anything else.
pub data Granting : Type 0 where
  awaited : Granting
  granted : (used : ℕ) → Granting
  refused : Granting

-- of the three digits of a code, those from 200 to 299 begin with a 2
abbrev pub is_success : List ℕ → Bool
is_success code = bytes_eq (take 1 code) (codes "2")

abbrev pub without_head : Bool → Granting
without_head true = refused
without_head false = awaited

abbrev pub grants : Bool → ℕ → Granting
grants true used = granted used
grants false used = refused

abbrev pub granting_by : Front → Bool → Granting
granting_by Nothing closed = without_head closed
granting_by TooLong closed = refused
granting_by BadHead closed = refused
granting_by (Stands raw used) closed = grants (is_success raw.second) used

-- by all that has come of it, and by whether it has closed
abbrev pub granting : List ℕ → Bool → Granting
granting text closed = granting_by (response_front text) closed

-- the same without a number
abbrev pub said_by : Granting → ProxyAnswer
said_by awaited = says.Awaited
said_by (granted used) = says.Granted
said_by refused = says.Refused
