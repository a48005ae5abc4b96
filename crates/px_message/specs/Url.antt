-- The URL of a request, and a change of it.
use Rattle.std.specs.Prelude.{◌≡◌, ◌≢◌, ℕ, ◌^◌, ◌<◌, ◌==◌, true, List, [], ◌∷◌, ◌++◌, bytes_eq, codes, decimal, Some, if◌then◌else◌}
use Rattle.http_uri.specs.ByteClasses.{colon}
use Rattle.px_message.specs.Host.{IsHost}
use Rattle.px_message.specs.Path.{is_path}
use Rattle.px_message.specs.Target.{absolute_form}
use Rattle.px_message.specs.declared.request.Request.{Request}

-- a colon and the port, unless it is the scheme's own (RFC 9110 section 4.2.1)
abbrev pub port_suffix : ℕ → List ℕ
port_suffix port = if port == 80 then [] else colon ∷ decimal port

-- the path in a URL: `*` is the server as a whole, which has none (RFC 9112 section 3.2.4)
abbrev pub url_path : List ℕ → List ℕ
url_path path = if bytes_eq path (codes "*") then [] else path

-- the URL of the scheme `http` with this host, port and path (RFC 9110 section 4.2.1)
abbrev pub url_text : List ℕ → ℕ → List ℕ → List ℕ
url_text host port path = codes "http://" ++ host ++ port_suffix port ++ url_path path

-- A URL that was written is read as the same host, port and path. The path `*` is not written.
abbrev pub WrittenUrlIsRead : Type 0
WrittenUrlIsRead =
    (host path : List ℕ) (port : ℕ) → IsHost host → is_path path ≡ true → path ≢ codes "*" → 0 < port → port < 2 ^ 16
    → absolute_form (url_text host port path) ≡ Some (host, port, path)

-- two requests differ in host, port and path alone
pub record ChangesUrlOnly (old new : Request) : Type 0 where
  pub method : new.method ≡ old.method
  pub version : new.version ≡ old.version
  pub fields : new.fields ≡ old.fields
  pub body : new.body ≡ old.body
  pub trailers : new.trailers ≡ old.trailers
  pub streamed : new.streamed ≡ old.streamed
