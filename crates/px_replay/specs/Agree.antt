-- Two requests that are the same in what counts.
use Rattle.std.specs.Prelude.{◌≡◌, false, All}
use Rattle.px_message.specs.Fields.{values_of}
use Rattle.px_message.specs.declared.request.Request.{Request}
use Rattle.px_replay.specs.declared.options.KeyOptions.{KeyOptions}
use Rattle.px_replay.specs.Key.{bare_path, counted, parameters, query}

-- they may differ in what the options ignore, in their version, their trailers, and in fields that are not named
pub record Agree (how : KeyOptions) (a b : Request) : Type 0 where
  pub method : a.method ≡ b.method
  pub path : bare_path a.path ≡ bare_path b.path
  pub parameters : counted how.ignore_params (parameters (query a.path)) ≡ counted how.ignore_params (parameters (query b.path))
  pub content : how.ignore_content ≡ false → a.body ≡ b.body
  pub host : how.ignore_host ≡ false → a.host ≡ b.host
  pub port : how.ignore_port ≡ false → a.port ≡ b.port
  pub values : All (λ name. values_of name a.fields ≡ values_of name b.fields) how.use_headers
