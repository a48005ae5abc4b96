-- A request that is streamed, or may yet be: what is held of it, and what is sent.
use Rattle.std.specs.Prelude.{◌≡◌, ℕ, Bool, true, false, List, [], ◌∷◌, ◌++◌, Option, Some, None, Result, ⊤}
use Rattle.px_message.specs.Length.{request_length}
use Rattle.px_message.specs.Settle.{settled_streamed}
use Rattle.px_message.specs.declared.fault.Fault.{Fault}
use Rattle.px_message.specs.declared.length.Length.{Length}
use Rattle.px_message.specs.declared.request.Request.{Request}
use Rattle.px_event.specs.declared.command.Command.{Command}
use Rattle.px_event.specs.declared.command.Command.TheVariants as commands
use Rattle.px_event.specs.declared.side.Side.TheVariants.{Server}
use Rattle.px_read.specs.Marks.{Mark}
use Rattle.px_exchange.specs.declared.place.Place.{Place}
use Rattle.px_exchange.specs.Places.{form_at}
use Rattle.px_parts.specs.Streamed.{streamed_by}
use Rattle.px_parts.specs.Texts.{marks_text}
use Rattle.px_write.specs.Text.{request_head_text}
use Rattle.px_chain.specs.Stages.{Sent, all_sent, going_up}
use Rattle.px_stream.specs.declared.going.Going.{Going}
use Rattle.px_stream.specs.declared.going.HeldRequest.{HeldRequest}
use Rattle.px_stream.specs.declared.going.Sending.{Sending}
use Rattle.px_stream.specs.declared.going.Sending.TheVariants as sending
use Rattle.px_stream.specs.Comings.{may_exceed_by}

-- ---- whether it is streamed, by the request as its head was read

abbrev pub goes_up_with : (read : Request) → Option ℕ → (heard : ℕ) → Bool
goes_up_with read most heard = streamed_by (request_length read.fields) most heard

-- whether it may yet be, once more of it has come
abbrev pub may_go_up_by : Result Length Fault → Option ℕ → Bool
may_go_up_by says None = false
may_go_up_by says (Some most) = may_exceed_by says most

abbrev pub may_go_up : (read : Request) → Option ℕ → Bool
may_go_up read most = may_go_up_by (request_length read.fields) most

-- what is held behind its head: nothing of a request that is never streamed
abbrev pub IsHeldUpBy : Bool → Request → Option HeldRequest → Type 0
IsHeldUpBy true read (Some held) = (held.read ≡ read) × (held.said.items ≡ [])
IsHeldUpBy false read None = ⊤
IsHeldUpBy may read held = ⊥

abbrev pub IsHeldUpFor : (read : Request) → Option ℕ → Option HeldRequest → Type 0
IsHeldUpFor read most held = IsHeldUpBy (may_go_up read most) read held

-- ---- how it stands

abbrev pub sent_of : Sending → Sent
sent_of sending.All = all_sent
sent_of (sending.GoingUp sent) = going_up

-- while its server is dialled
abbrev pub sent_by : Option Going → Sent
sent_by None = all_sent
sent_by (Some going) = going_up

-- as it is sent, while it goes up
abbrev pub request_of_up : Sending → Option Request
request_of_up sending.All = None
request_of_up (sending.GoingUp sent) = Some sent

-- ---- what is sent

-- framed as it was read
abbrev pub framed_up_by : (read request : Request) → Request
framed_up_by read request = record request { fields = settled_streamed read.fields request.fields }

-- its head, and what these marks behind it say
abbrev pub up_text : Place → Option Request → List Mark → List ℕ
up_text place None marks = []
up_text place (Some sent) marks = request_head_text sent (form_at place) ++ marks_text marks

-- bytes that are sent to the server of this number, if there are any
abbrev pub sends_to : ℕ → List ℕ → List Command
sends_to server [] = []
sends_to server (byte ∷ more) = commands.Send (Server server) (byte ∷ more) ∷ []

-- while it goes up
abbrev pub sends_while : Sent → ℕ → List ℕ → List Command
sends_while all_sent server text = []
sends_while going_up server text = sends_to server text
