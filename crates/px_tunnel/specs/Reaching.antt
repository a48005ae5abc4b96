-- A proxy that was asked for a tunnel, while its answer is awaited and behind it.
use Rattle.std.specs.Prelude.{◌≡◌, ℕ, Bool, true, false, List, None}
use Rattle.px_head.specs.declared.front.Found.{Found}
use Rattle.px_head.specs.declared.front.Found.TheVariants as found
use Rattle.px_tunnel.specs.declared.upstream.ProxyAnswer.{ProxyAnswer}
use Rattle.px_tunnel.specs.declared.upstream.ProxyAnswer.TheVariants as says
use Rattle.px_tunnel.specs.declared.upstream.UpstreamTunnel.{UpstreamTunnel}
use Rattle.px_tunnel.specs.Upstream.{Granting, awaited, granted, granting, is_success, refused}

-- what has come of the proxy and is not used: while the answer is awaited all of it, and where it grants the tunnel the bytes behind its head
abbrev pub rest_of : UpstreamTunnel → List ℕ
rest_of tunnel = tunnel.reader.rest

-- This is the text that has come of the proxy, and it is no answer yet.
pub record HasHeard (tunnel : UpstreamTunnel) (text : List ℕ) : Type 0 where
  pub unfailed : tunnel.reader.failed ≡ None
  pub rest : rest_of tunnel ≡ text
  pub awaits : granting text false ≡ awaited

-- ---- what a reader's answer is

-- what a code answers
abbrev pub answer_by : Bool → ProxyAnswer
answer_by true = says.Granted
answer_by false = says.Refused

-- what a reader that looked for a head answers
abbrev pub answer_of : Found → ProxyAnswer
answer_of found.Partial = says.Awaited
answer_of (found.Head raw) = answer_by (is_success raw.second)
answer_of found.TooLong = says.Refused
answer_of found.BadHead = says.Refused

-- ---- what a close makes of an answer

-- what was awaited is refused, and what is decided stays
abbrev pub at_close : Granting → Granting
at_close awaited = refused
at_close (granted used) = granted used
at_close refused = refused
