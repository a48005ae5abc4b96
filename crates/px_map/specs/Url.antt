-- The URL of a request, and a request whose URL is another.
use Rattle.std.specs.Prelude.{◌≡◌, ◌≢◌, ℕ, zero, suc, List, ◌++◌, codes, Option, Some, None, if◌then◌else◌}
use Rattle.std.proofs.Common.{arith}
use Rattle.px_message.specs.Fields.{set_in}
use Rattle.px_message.specs.Length.{stands}
use Rattle.px_message.specs.Url.{port_suffix, url_text}
use Rattle.px_message.specs.declared.request.Request.{Request}

abbrev pub url_of : Request → List ℕ
url_of request = url_text request.host request.port request.path

-- what the field Host says of a host and a port (RFC 9110 section 7.2)
abbrev pub host_text : List ℕ → ℕ → List ℕ
host_text host port = host ++ port_suffix port

-- the fields with Host set to the host and the port, where it stands
abbrev pub hosted : List ℕ → ℕ → List (List ℕ × List ℕ) → List (List ℕ × List ℕ)
hosted host port fields = if stands (codes "Host") fields then set_in (codes "Host") (host_text host port) fields else fields

-- no such number is 0
pub some_port : (below : ℕ) → suc below ≢ 0
some_port below e = absurd (omega (arith, e))

-- the request at another host, port and path; its Host field, where it has one, says so; no URL has the port 0
abbrev pub moved_to : Request → List ℕ → ℕ → List ℕ → Option Request
moved_to request host zero path = None
moved_to request host (suc below) path = Some (record request {
  host = host;
  port = suc below;
  path = path;
  fields = hosted host (suc below) request.fields;
  port_not_zero = some_port below;
})

-- the request at these three, if they are told
abbrev pub moved : Request → Option (List ℕ × ℕ × List ℕ) → Option Request
moved request None = None
moved request (Some (host, port, path)) = moved_to request host port path

-- two requests differ in their fields alone
pub record IsSameButFields (old new : Request) : Type 0 where
  pub method : new.method ≡ old.method
  pub host : new.host ≡ old.host
  pub port : new.port ≡ old.port
  pub path : new.path ≡ old.path
  pub version : new.version ≡ old.version
  pub body : new.body ≡ old.body
  pub trailers : new.trailers ≡ old.trailers
  pub streamed : new.streamed ≡ old.streamed
