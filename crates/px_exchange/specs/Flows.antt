-- A flow as it is told so far: each part with the moment at which it came.
use Rattle.std.specs.Prelude.{ℕ, false, List, [], Option, Some, None}
use Rattle.px_message.specs.declared.flow.Flow.{Flow}
use Rattle.px_message.specs.declared.response.Response.{Response}
use Rattle.px_event.specs.declared.ask.Ask.{Ask}
use Rattle.px_event.specs.declared.ask.Ask.TheVariants as asks
use Rattle.px_event.specs.declared.ask.Hook.{Hook}
use Rattle.px_event.specs.declared.command.Command.{Command}
use Rattle.px_event.specs.declared.command.Command.TheVariants as commands
use Rattle.px_read.specs.declared.head.ResponseHead.{ResponseHead as ReadResponse}

-- the question of a hook about a flow, and the command that asks it
abbrev pub hook_of : Flow → Hook → Ask
hook_of flow hook = asks.Hook flow.id.index hook

abbrev pub ask_of : Flow → Hook → Command
ask_of flow hook = commands.Ask (hook_of flow hook) flow

-- the flow with its whole request
abbrev pub with_body : Flow → List ℕ → List (List ℕ × List ℕ) → ℕ → Flow
with_body flow content trailers moment = record flow {
  request = record flow.request { body = content; trailers = trailers };
  times = record flow.times { request_end = Some moment };
}

-- the response of a head, without its body
abbrev pub response_of : ReadResponse → Response
response_of head = record {
  version = head.version;
  status = head.code;
  reason = head.reason;
  fields = head.fields;
  body = [];
  trailers = [];
  streamed = false;
}

abbrev pub with_answer : Flow → Response → ℕ → Flow
with_answer flow response moment = record flow {
  response = Some response;
  times = record flow.times { response_start = Some moment };
}

-- the response of a flow with its body
abbrev pub filled : Option Response → List ℕ → List (List ℕ × List ℕ) → Option Response
filled None content trailers = None
filled (Some response) content trailers = Some (record response { body = content; trailers = trailers })

abbrev pub with_end : Flow → ℕ → Flow
with_end flow moment = record flow { times = record flow.times { response_end = Some moment } }

abbrev pub with_returned : Flow → List ℕ → List (List ℕ × List ℕ) → ℕ → Flow
with_returned flow content trailers moment = with_end (record flow { response = filled flow.response content trailers }) moment

abbrev pub with_start : Flow → ℕ → Flow
with_start flow moment = record flow { times = record flow.times { response_start = Some moment } }
