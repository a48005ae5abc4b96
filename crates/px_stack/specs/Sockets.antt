-- What makes a WebSocket of a connection (RFC 6455 sections 4.1 and 4.2.2): request and response both name it, and the server takes no extension,
-- so that its frames can be read by the protocol alone.
use Rattle.std.specs.Prelude.{ℕ, Bool, false, ◌&&◌, not, List, codes, Option, Some, None}
use Rattle.std.specs.List.{list_any}
use Rattle.px_message.specs.Fields.{has_element, is_named}
use Rattle.px_message.specs.declared.flow.Flow.{Flow}
use Rattle.px_message.specs.declared.response.Response.{Response}

abbrev pub names_it : List (List ℕ × List ℕ) → Bool
names_it fields = has_element (codes "Upgrade") (codes "websocket") fields

abbrev pub takes_extensions : List (List ℕ × List ℕ) → Bool
takes_extensions fields = list_any (is_named (codes "Sec-WebSocket-Extensions")) fields

abbrev pub agrees : List (List ℕ × List ℕ) → Option Response → Bool
agrees asked None = false
agrees asked (Some response) = names_it asked && names_it response.fields && not (takes_extensions response.fields)

-- a flow whose response of code 101 was sent, where the client has not closed
abbrev pub is_websocket : Flow → Bool → Bool
is_websocket flow closed = agrees flow.request.fields flow.response && not closed
