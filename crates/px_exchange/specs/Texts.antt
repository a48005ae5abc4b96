-- The texts that a conversation sends.
use Rattle.std.specs.Prelude.{ℕ, Bool, if◌then◌else◌, List, [], ◌∷◌, ◌++◌, codes, map}
use Rattle.px_message.specs.Settle.{settled_request, settled_response}
use Rattle.px_message.specs.declared.request.Request.{Request}
use Rattle.px_message.specs.declared.response.Response.{Response}
use Rattle.px_event.specs.declared.command.Command.{Command}
use Rattle.px_event.specs.declared.command.Command.TheVariants as commands
use Rattle.px_event.specs.declared.side.Side.TheVariants.{Client}
use Rattle.px_read.specs.declared.head.ResponseHead.{ResponseHead}
use Rattle.px_text.specs.Blank.{crlf}
use Rattle.px_write.specs.Text.{interim_text, request_text, response_text}
use Rattle.px_write.specs.declared.form.Form.{Form}
use Rattle.px_exchange.specs.Requests.{is_head, is_http11}

-- the body may come (RFC 9110 section 15.2.1)
unfoldable pub continue_text : List ℕ
continue_text = codes "HTTP/1.1 100 Continue" ++ crlf ++ crlf

-- the tunnel stands (RFC 9110 section 9.3.6)
unfoldable pub connected_text : List ℕ
connected_text = codes "HTTP/1.1 200 Connection established" ++ crlf ++ crlf

-- the request as it goes to the server, or to a proxy: its framing made true to its body
abbrev pub onward_text : Form → Request → List ℕ
onward_text form request = request_text (settled_request request) form

-- the response as it goes to the client: to HEAD its head alone
abbrev pub returned_text : Request → Response → List ℕ
returned_text request response =
    response_text (settled_response (is_head request.method) response) (is_head request.method)

-- an interim response as it goes to the client
abbrev pub interim_command : ResponseHead → Command
interim_command head = commands.Send Client (interim_text head.version head.code head.reason head.fields)

-- interim responses, where the client knows them
abbrev pub sends_on : Bool → List ResponseHead → List Command
sends_on sends heads = if sends then map interim_command heads else []

-- a client of version 1.0 knows none (RFC 9110 section 15.2)
abbrev pub interim_commands : Request → List ResponseHead → List Command
interim_commands request heads = sends_on (is_http11 request.version) heads

-- an answer before the body was sent, where the client waits for it
abbrev pub meets_expectation : Bool → List Command
meets_expectation expected = if expected then commands.Send Client continue_text ∷ [] else []
