-- The flow that a request's head begins.
use Rattle.std.proofs.Common.{refl}
use Rattle.std.proofs.lemmas.Bool.{eq-eqb}
use Rattle.std.proofs.lemmas.Slice.Eq.{bytes_eq-Decides}
use Rattle.std.specs.Prelude.{◌≡◌, ◌≢◌, ◌==◌, ℕ, Bool, true, false, ◌&&◌, not, if◌then◌else◌, List, [], filter, codes, bytes_eq, Option, Some, None, Result, Ok, Err}
use Rattle.std.specs.List.{list_any}
use Rattle.px_message.specs.Fields.{is_valued}
use Rattle.px_message.specs.Length.{request_length}
use Rattle.px_message.specs.Target.{Form, absolute, authority, target_form}
use Rattle.px_message.specs.declared.address.Address.{Address}
use Rattle.px_message.specs.declared.fault.Fault.{Fault}
use Rattle.px_message.specs.declared.fault.Fault.TheVariants.{BadTarget}
use Rattle.px_message.specs.declared.flow.Flow.{Flow}
use Rattle.px_message.specs.declared.flow.Replayed.TheVariants.{No}
use Rattle.px_message.specs.declared.length.Length.{Length}
use Rattle.px_message.specs.declared.request.Request.{Request}
use Rattle.px_message.specs.declared.version.Version.{Version}
use Rattle.px_message.specs.declared.version.Version.TheVariants.{Http10, Http11}
use Rattle.px_read.specs.Heads.{connect_method}
use Rattle.px_read.specs.declared.head.RequestHead.{RequestHead}
use Rattle.px_write.specs.TargetPath.{path_said}
use Rattle.px_exchange.specs.declared.asked.Judged.{Judged}
use Rattle.px_exchange.specs.declared.asked.Judged.TheVariants.{Refused, Accepted, Connects}
use Rattle.px_exchange.specs.declared.place.Place.{Place}
use Rattle.px_exchange.specs.declared.place.Place.TheVariants as places
use Rattle.px_exchange.specs.declared.terms.Terms.{Terms}

abbrev pub head_method : List ℕ
head_method = codes "HEAD"

-- the method is HEAD: an answer to it has no body (RFC 9110 section 9.3.2)
abbrev pub is_head : List ℕ → Bool
is_head method = bytes_eq method head_method

-- ---- where a request goes, by its target's form and by where it is asked (RFC 9112 section 3.2)

-- a port that was told apart from 0 is not 0
pub not_zero : (port : ℕ) → (port == 0) ≡ false → port ≢ 0
not_zero port differs is = let e : (port == 0) ≡ true = eq-eqb port 0 is in cc

-- the address of this host and port, where the port is none that no server has
abbrev pub address_with : List ℕ → (port : ℕ) → (zero : Bool) → (port == 0) ≡ zero → Option Address
address_with host port true is = None
address_with host port false is = Some (record { host = host; port = port; port_not_zero = not_zero port is })

abbrev pub with_path : Option Address → Option (List ℕ) → Option (Address × List ℕ)
with_path (Some address) (Some path) = Some (address, path)
with_path _ _ = None

-- A proxy's client says where the request goes, so its target is in absolute form.
abbrev pub goal_in : Option Form → Option (Address × List ℕ)
goal_in (Some (absolute host port path)) = with_path (address_with host port (port == 0) refl) (Some path)
goal_in _ = None

-- where a request goes, and its path: what is served by one address goes there, whatever the target's host is
abbrev pub goal_at : Place → Option Form → Option (Address × List ℕ)
goal_at (places.Fixed address inside) form = with_path (Some address) (path_said form)
goal_at places.Regular form = goal_in form
goal_at (places.Upstream proxy) form = goal_in form

-- where a CONNECT asks for a tunnel to: its target is in authority form
abbrev pub tunnel_in : Option Form → Option Address
tunnel_in (Some (authority host port)) = address_with host port (port == 0) refl
tunnel_in _ = None

-- A client of a proxy may ask for a tunnel; what is served by one address is none.
abbrev pub tunnel_at : Place → Option Form → Option Address
tunnel_at (places.Fixed address inside) form = None
tunnel_at places.Regular form = tunnel_in form
tunnel_at (places.Upstream proxy) form = tunnel_in form

-- the field asks for an answer before the body is sent (RFC 9110 section 10.1.1)
abbrev pub is_expectation : List ℕ × List ℕ → Bool
is_expectation field = is_valued (codes "Expect") (codes "100-continue") field

abbrev pub is_http11 : Version → Bool
is_http11 Http10 = false
is_http11 Http11 = true

-- the request asks for it: one of version 1.0 cannot
abbrev pub expects : RequestHead → Bool
expects head = is_http11 head.version && list_any is_expectation head.fields

-- the fields without the expectation, which this proxy meets itself
abbrev pub unless_met : Bool → List (List ℕ × List ℕ) → List (List ℕ × List ℕ)
unless_met expected fields = if expected then filter (λ field. not (is_expectation field)) fields else fields

abbrev pub fields_asked : RequestHead → List (List ℕ × List ℕ)
fields_asked head = unless_met (expects head) head.fields

-- the request of a head, without its body, to this address
abbrev pub request_of : Address → (head : RequestHead) → List ℕ → head.method ≢ connect_method → Request
request_of address head path not_connect = record {
  method = head.method;
  host = address.host;
  port = address.port;
  path = path;
  version = head.version;
  fields = fields_asked head;
  body = [];
  trailers = [];
  streamed = false;
  not_connect = not_connect;
  port_not_zero = address.port_not_zero;
}

-- a flow that begins at this moment
abbrev pub flow_of : Terms → ℕ → Request → ℕ → Flow
flow_of terms index request moment = record {
  id = record { conv = terms.conv; index = index };
  client = terms.client;
  server = None;
  request = request;
  response = None;
  error = None;
  times = record { request_start = moment; request_end = None; response_start = None; response_end = None };
  replayed = No;
  marked = false;
  websocket = false;
  message = None;
  messages = [];
}

-- the fault of its length comes last
abbrev pub judged_length : Result Length Fault → Request → Judged
judged_length (Err fault) request = Refused fault
judged_length (Ok length) request = Accepted request

abbrev pub judged_goal : (head : RequestHead) → head.method ≢ connect_method → Option (Address × List ℕ) → Judged
judged_goal head not_connect None = Refused BadTarget
judged_goal head not_connect (Some goal) =
    judged_length (request_length head.fields) (request_of goal.0 head goal.1 not_connect)

-- two texts that are told apart are two
pub differs : (a b : List ℕ) → bytes_eq a b ≡ false → a ≢ b
differs a b not same = let is : bytes_eq a b ≡ true = (bytes_eq-Decides a b).1 same in cc

-- a CONNECT is no request of a flow, and its framing fields are not looked at (RFC 9110 section 9.3.6)
abbrev pub judged_tunnel : Option Address → Judged
judged_tunnel None = Refused BadTarget
judged_tunnel (Some address) = Connects address

abbrev pub judged_method : Place → (head : RequestHead) → (connects : Bool) → bytes_eq head.method connect_method ≡ connects → Judged
judged_method place head true is = judged_tunnel (tunnel_at place (target_form head.method head.target))
judged_method place head false is =
    judged_goal head (differs head.method connect_method is) (goal_at place (target_form head.method head.target))

-- the target is judged before the length
abbrev pub judged : Place → RequestHead → Judged
judged place head = judged_method place head (bytes_eq head.method connect_method) refl
