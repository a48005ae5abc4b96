-- What is told of a WebSocket is sure, in both forms.
use Rattle.std.proofs.Common.{◌≡◌, ◌∙◌, Bool, true, false, List, [], refl, sym, ap, inl, inr}
use Rattle.px_message.specs.declared.messages.WsRecord.{WsRecord}
use Rattle.px_tnet.specs.Tree.{Tree, bool, null, Pairs}
use Rattle.px_flowfile.specs.Simple.{Any, bytes, moment, truth}
use Rattle.px_flowfile.specs.Sockets.{first_socket, message_table, messages, second_socket, socket, socket_table}
use Rattle.px_flowfile.specs.Table.{Meets, dictionary}
use Rattle.px_flowfile.specs.declared.form.Form.{Form}
use Rattle.px_flowfile.specs.declared.form.Form.TheVariants as forms
use Rattle.px_flowfile.specs.declared.key.Key.{Key}
use Rattle.px_flowfile.specs.declared.key.Key.TheVariants as key
use Rattle.px_flowfile.specs.declared.socket.Socket.{Socket}
use Rattle.px_flowfile.specs.declared.error.FlowFileError.{FlowFileError}
use Rattle.px_flowfile.proofs.KindLaws.{AllSure, Sure, dictionary_no_null, one_at, sure_dictionary, sure_line}
use Rattle.px_flowfile.proofs.SureLemmas.{sure_bytes, sure_moment, sure_truth}
use Rattle.px_flowfile.proofs.SureMore.{sure_each}

message_sure : AllSure message_table
message_sure = (
  sure_line key.FromClient truth sure_truth (λ (m : WsRecord). m.from_client),
  (
    sure_line key.Text truth sure_truth (λ (m : WsRecord). m.text),
    (
      sure_line key.Content bytes (sure_bytes Any) (λ (m : WsRecord). m.payload),
      (
        sure_line key.Timestamp moment sure_moment (λ (m : WsRecord). m.moment),
        (sure_line key.Dropped truth sure_truth (λ (m : WsRecord). m.dropped), tt),
      ),
    ),
  ),
)

message_one : (pairs : Pairs) (a b : WsRecord) → Meets message_table pairs a → Meets message_table pairs b → a ≡ b
message_one pairs a b h g =
    let sender = one_at key.FromClient truth sure_truth pairs a.from_client b.from_client h.0 g.0 in
    let is_text = one_at key.Text truth sure_truth pairs a.text b.text h.1.0 g.1.0 in
    let payloads = one_at key.Content bytes (sure_bytes Any) pairs a.payload b.payload h.1.1.0 g.1.1.0 in
    let moments = one_at key.Timestamp moment sure_moment pairs a.moment b.moment h.1.1.1.0 g.1.1.1.0 in
    let drops = one_at key.Dropped truth sure_truth pairs a.dropped b.dropped h.1.1.1.1.0 g.1.1.1.1.0 in
    λ i. record { from_client = sender i; text = is_text i; payload = payloads i; moment = moments i; dropped = drops i }

sure_messages : Sure messages
sure_messages = sure_each (dictionary message_table) (sure_dictionary message_table message_sure message_one)

socket_sure : AllSure socket_table
socket_sure = (sure_line key.Messages messages sure_messages (λ (ms : List WsRecord). ms), tt)

sure_socket_table : Sure (dictionary socket_table)
sure_socket_table = sure_dictionary socket_table socket_sure (λ pairs a b h g. one_at key.Messages messages sure_messages pairs a b h.0 g.0)

same_socket : (a b : Socket) → a.websocket ≡ b.websocket → a.messages ≡ b.messages → a ≡ b
same_socket a b websockets lists = λ i. record { websocket = websockets i; messages = lists i }

first_one : (t : Tree) (a b : Socket) → first_socket.Reads t a → first_socket.Reads t b → a ≡ b
first_one t a b h g = same_socket a b (sure_truth.one t a.websocket b.websocket (h.0, tt) (g.0, tt)) (h.1 ∙ sym g.1)

sure_first : Sure first_socket
sure_first = record {
  one = first_one;
  apart = λ name t a e h bad. sure_truth.apart name t a.websocket e (h.0, tt) bad;
  cause = sure_truth.cause;
}

null_is_none : (t : Tree) (ms : List WsRecord) → t ≡ null → ¬ ((dictionary socket_table).Reads t ms)
null_is_none t ms is h = dictionary_no_null socket_table socket_sure ms (h.0, sym is ∙ h.1, h.2)

second_one : (t : Tree) (a b : Socket) → second_socket.Reads t a → second_socket.Reads t b → a ≡ b
second_one t a b (inl h) (inl g) = same_socket a b (h.1 ∙ sym g.1) (h.2 ∙ sym g.2)
second_one t a b (inl h) (inr g) = absurd (null_is_none t b.messages h.0 g.1)
second_one t a b (inr h) (inl g) = absurd (null_is_none t a.messages g.0 h.1)
second_one t a b (inr h) (inr g) = same_socket a b (h.0 ∙ sym g.0) (sure_socket_table.one t a.messages b.messages h.1 g.1)

second_apart : (name : Key) (t : Tree) (a : Socket) (e : FlowFileError) → second_socket.Reads t a → ¬ (second_socket.Refuses name t e)
second_apart name t a e (inl h) bad = bad.0 h.0
second_apart name t a e (inr h) bad = sure_socket_table.apart name t a.messages e h.1 bad.1

sure_second : Sure second_socket
sure_second = record { one = second_one; apart = second_apart; cause = λ name t e d h g. sure_socket_table.cause name t e d h.1 g.1 }

pub sure_socket : (of_form : Form) → Sure (socket of_form)
sure_socket forms.First = sure_first
sure_socket forms.Second = sure_second
