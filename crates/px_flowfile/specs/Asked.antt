-- The dictionary of a request.
use Rattle.std.specs.Prelude.{ℕ, List, [], ◌∷◌, Option, codes}
use Rattle.px_message.specs.declared.fields.Fields.{Fields}
use Rattle.px_message.specs.declared.host.Host.{Host}
use Rattle.px_message.specs.declared.name.Name.{Name}
use Rattle.px_message.specs.declared.path.Path.{Path}
use Rattle.px_message.specs.declared.version.Version.{Version}
use Rattle.px_flowfile.specs.Kind.{or_null}
use Rattle.px_flowfile.specs.Message.{content, headers, host, method, path, trailers}
use Rattle.px_flowfile.specs.Simple.{http_version, moment, port, unused, word_bytes}
use Rattle.px_flowfile.specs.Table.{Line, line}
use Rattle.px_flowfile.specs.declared.asked.Asked.{Asked}
use Rattle.px_flowfile.specs.declared.held.Held.{Held}
use Rattle.px_flowfile.specs.declared.key.Key.TheVariants as key

-- a request with its moments
abbrev pub request_table : List (Line Asked)
request_table =
    line key.HttpVersion http_version (λ a. a.request.version)
    ∷ line key.Headers headers (λ a. a.request.fields)
    ∷ line key.Content content (λ a. record { streamed = a.request.streamed; body = a.request.body })
    ∷ line key.Trailers trailers (λ a. a.request.trailers)
    ∷ line key.TimestampStart moment (λ a. a.start)
    ∷ line key.TimestampEnd (or_null moment) (λ a. a.end)
    ∷ line key.Host host (λ a. a.request.host)
    ∷ line key.Port port (λ a. a.request.port)
    ∷ line key.Method method (λ a. a.request.method)
    ∷ line key.Scheme (word_bytes (codes "http")) (λ _. tt)
    ∷ line key.Authority unused (λ _. tt)
    ∷ line key.Path path (λ a. a.request.path)
    ∷ []

-- the parts of a request in the order of the table
abbrev pub RequestParts : Type 0
RequestParts =
    Version × (Fields × (Held × (Fields × (ℕ × (Option ℕ × (Host × (ℕ × (Name × (Unit {0} × (Unit {0} × (Path × Unit {0})))))))))))

abbrev pub request_parts : Asked → RequestParts
request_parts a = (
  a.request.version,
  (
    a.request.fields,
    (
      record { streamed = a.request.streamed; body = a.request.body },
      (
        a.request.trailers,
        (a.start, (a.end, (a.request.host, (a.request.port, (a.request.method, (tt, (tt, (a.request.path, tt)))))))),
      ),
    ),
  ),
)
