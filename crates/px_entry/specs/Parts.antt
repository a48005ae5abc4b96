-- The entry of a flow, in parts.
use Rattle.std.specs.Prelude.{ℕ, List, [], ◌∷◌, ◌++◌, take, drop, Option, Some, None}
use Rattle.px_message.specs.declared.flow.Flow.{Flow}
use Rattle.px_message.specs.declared.flow.WsMessage.{WsMessage}
use Rattle.px_har.specs.Export.{entry_text}
use Rattle.px_har.specs.Text.{base64_text}

-- a blank, and the payload in base64
abbrev pub payload_text : WsMessage → List ℕ
payload_text message = 32 ∷ base64_text message.payload

abbrev pub message_text : Option WsMessage → List ℕ
message_text None = []
message_text (Some message) = payload_text message

-- what there is to see of a flow: its entry of HAR 1.2, and where a message of a WebSocket is asked about its payload behind it
abbrev pub shown_text : Flow → List ℕ
shown_text flow = entry_text flow ++ message_text flow.message

-- so many bytes a part has at most
abbrev pub most : ℕ
most = 65536

-- of a text what stands from that byte on, up to so many bytes
abbrev pub part_of : ℕ → List ℕ → List ℕ
part_of from text = take most (drop from text)

abbrev pub part : ℕ → Flow → List ℕ
part from flow = part_of from (shown_text flow)
