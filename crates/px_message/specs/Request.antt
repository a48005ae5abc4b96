-- Changes of requests.
use Rattle.std.specs.Prelude.{◌≡◌}
use Rattle.px_message.specs.declared.request.Request.{Request}

-- all but the method is as before
pub record IsSameButMethod (before after : Request) : Type 0 where
  pub host : after.host ≡ before.host
  pub port : after.port ≡ before.port
  pub path : after.path ≡ before.path
  pub version : after.version ≡ before.version
  pub fields : after.fields ≡ before.fields
  pub body : after.body ≡ before.body
  pub trailers : after.trailers ≡ before.trailers
  pub streamed : after.streamed ≡ before.streamed
