-- What the types of a flow guarantee, and what they leave open.
use Rattle.std.specs.Prelude.{◌≡◌, ℕ, ◌^◌, ◌<◌, true, false, [], All, IfSome}
use Rattle.px_message.specs.Host.{IsHost}
use Rattle.px_message.specs.Path.{is_path}
use Rattle.px_message.specs.Status.{is_status}
use Rattle.px_message.specs.Value.{is_value}
use Rattle.px_message.specs.declared.flow.Flow.{Flow}
use Rattle.px_message.specs.declared.request.Request.{Request}
use Rattle.px_message.specs.declared.response.Response.{Response}
use Rattle.px_flowfile.specs.FlowTable.{IsBare}
use Rattle.px_flowfile.specs.Kind.{or_null}
use Rattle.px_flowfile.specs.Message.{IsMethod, headers}
use Rattle.px_flowfile.specs.Simple.{IsPort, moment}

-- the parts of a request that its type guarantees
pub record IsValidRequest (r : Request) : Type 0 where
  pub fields : headers.Good r.fields
  pub trailers : headers.Good r.trailers
  pub host : IsHost r.host
  pub port : IsPort r.port
  pub method : IsMethod r.method
  pub path : is_path r.path ≡ true

-- the parts of a response that its type guarantees
pub record IsValidResponse (r : Response) : Type 0 where
  pub status : is_status r.status ≡ true
  pub reason : is_value r.reason ≡ true
  pub fields : headers.Good r.fields
  pub trailers : headers.Good r.trailers

-- what the types leave open of a flow that is loaded from what is written of it: it is bare, its moments are below 2^63, a body that passed
-- by is empty, and only a WebSocket has messages
pub record IsPlain (f : Flow) : Type 0 where
  pub bare : IsBare f
  pub request_start : f.times.request_start < 2 ^ 63
  pub request_end : (or_null moment).Good f.times.request_end
  pub response_start : (or_null moment).Good f.times.response_start
  pub response_end : (or_null moment).Good f.times.response_end
  pub error : IfSome f.error (λ e. e.moment < 2 ^ 63)
  pub request_body : f.request.streamed ≡ true → f.request.body ≡ []
  pub response_body : IfSome f.response (λ r. r.streamed ≡ true → r.body ≡ [])
  pub no_messages : f.websocket ≡ false → f.messages ≡ []
  pub messages : All (λ m. m.moment < 2 ^ 63) f.messages
