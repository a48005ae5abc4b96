-- What the two forms of a flow's dictionary tell of a WebSocket.
use Rattle.std.specs.Prelude.{◌≡◌, ◌⊎◌, Bool, true, false, List, [], ◌∷◌}
use Rattle.px_message.specs.declared.messages.WsRecord.{WsRecord}
use Rattle.px_tnet.specs.Tree.{Tree, bool, null}
use Rattle.px_flowfile.specs.Kind.{Kind}
use Rattle.px_flowfile.specs.Message.{each}
use Rattle.px_flowfile.specs.Simple.{bytes, moment, truth}
use Rattle.px_flowfile.specs.Table.{Line, dictionary, line}
use Rattle.px_flowfile.specs.declared.form.Form.{Form}
use Rattle.px_flowfile.specs.declared.form.Form.TheVariants as forms
use Rattle.px_flowfile.specs.declared.key.Key.TheVariants as key
use Rattle.px_flowfile.specs.declared.socket.Socket.{Socket}

-- a message of a WebSocket: who sent it, whether it is text or binary, its payload, when it was whole, and whether it was kept
-- from its receiver
abbrev pub message_table : List (Line WsRecord)
message_table =
    line key.FromClient truth (λ m. m.from_client)
    ∷ line key.Text truth (λ m. m.text)
    ∷ line key.Content bytes (λ m. m.payload)
    ∷ line key.Timestamp moment (λ m. m.moment)
    ∷ line key.Dropped truth (λ m. m.dropped)
    ∷ []

-- the messages of a WebSocket, in their order
abbrev pub messages : Kind (List WsRecord)
messages = each (dictionary message_table)

-- a WebSocket
abbrev pub socket_table : List (Line (List WsRecord))
socket_table =
    line key.Messages messages (λ ms. ms)
    ∷ []

-- version 1: whether it was a WebSocket, and nothing of its messages
abbrev pub first_socket : Kind Socket
first_socket = record {
  Good = λ s. s.messages ≡ [];
  write = λ s. bool s.websocket;
  Reads = λ t s. (t ≡ bool s.websocket) × (s.messages ≡ []);
  Refuses = truth.Refuses;
}

abbrev socket_tree : Bool → List WsRecord → Tree
socket_tree false ms = null
socket_tree true ms = (dictionary socket_table).write ms

-- version 2: its messages, or nothing where it was none
abbrev pub second_socket : Kind Socket
second_socket = record {
  Good = λ s. (s.websocket ≡ false → s.messages ≡ []) × messages.Good s.messages;
  write = λ s. socket_tree s.websocket s.messages;
  Reads = λ t s.
      ((t ≡ null) × (s.websocket ≡ false) × (s.messages ≡ []))
      ⊎ ((s.websocket ≡ true) × (dictionary socket_table).Reads t s.messages);
  Refuses = λ name t e. (¬ (t ≡ null)) × (dictionary socket_table).Refuses name t e;
}

-- what stands under `websocket` in a form
abbrev pub socket : Form → Kind Socket
socket forms.First = first_socket
socket forms.Second = second_socket
