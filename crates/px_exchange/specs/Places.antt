-- Where the requests of a conversation go.
use Rattle.std.specs.Prelude.{ℕ, Bool, true, ◌==◌, ◌&&◌, bytes_eq, Option, Some, None}
use Rattle.px_message.specs.declared.address.Address.{Address}
use Rattle.px_message.specs.declared.request.Request.{Request}
use Rattle.px_write.specs.declared.form.Form.{Form}
use Rattle.px_write.specs.declared.form.Form.TheVariants.{Origin, Absolute}
use Rattle.px_exchange.specs.declared.mode.Mode.{Mode}
use Rattle.px_exchange.specs.declared.mode.Mode.TheVariants as modes
use Rattle.px_exchange.specs.declared.place.Place.{Place}
use Rattle.px_exchange.specs.declared.place.Place.TheVariants as places
use Rattle.px_exchange.specs.declared.terms.Terms.{Terms}

-- The place of each conversation in this mode. A client of SOCKS says first where its requests go.
abbrev pub place_of : Mode → Option Place
place_of modes.Regular = Some places.Regular
place_of (modes.Reverse address) = Some (places.Fixed address None)
place_of (modes.Upstream proxy) = Some (places.Upstream proxy)
place_of modes.Socks = None

-- where a request goes: to its own host and port, as its hooks left them
abbrev pub address_of : Request → Address
address_of request = record { host = request.host; port = request.port; port_not_zero = request.port_not_zero }

-- the server of a request: the proxy that it goes to, or its own host and port
abbrev pub server_for : Place → Request → Address
server_for (places.Upstream proxy) request = proxy
server_for place request = address_of request

-- what is dialled for it: its server, or the proxy through which that is reached
abbrev pub dialled_by : Option Address → Request → Address
dialled_by None request = address_of request
dialled_by (Some proxy) request = proxy

abbrev pub dialled_for : Place → Request → Address
dialled_for places.Regular request = address_of request
dialled_for (places.Upstream proxy) request = proxy
dialled_for (places.Fixed address inside) request = dialled_by inside request

-- the same host, byte by byte, and the same port
abbrev pub is_same_address : Address → Address → Bool
is_same_address a b = bytes_eq a.host b.host && a.port == b.port

-- the form in which its target is sent: a proxy gets the whole URL (RFC 9112 section 3.2.2)
abbrev pub form_at : Place → Form
form_at (places.Upstream proxy) = Absolute
form_at place = Origin

-- how the flows of a conversation are made: bodies are streamed where a reply allows it
abbrev pub terms_of : ℕ → Option Address → Place → Terms
terms_of conv client place = record { conv = conv; client = client; place = place; streams = true }
