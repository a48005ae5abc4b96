-- What a hook is about, and that message in its flow.
use Rattle.std.specs.Prelude.{ℕ, Bool, true, false, not, List, Option, Some, None, is_some, option_map}
use Rattle.px_message.specs.declared.flow.Flow.{Flow}
use Rattle.px_message.specs.declared.flow.WsMessage.{WsMessage}
use Rattle.px_message.specs.declared.response.Response.{Response}
use Rattle.px_event.specs.declared.ask.Hook.{Hook}
use Rattle.px_event.specs.declared.ask.Hook.TheVariants as hooks
use Rattle.px_draft.specs.declared.subject.Subject.{Subject}
use Rattle.px_draft.specs.declared.subject.Subject.TheVariants as subjects

abbrev pub subject_of : Hook → Subject
subject_of hooks.RequestHead = subjects.Request
subject_of hooks.RequestBody = subjects.Request
subject_of hooks.ResponseHead = subjects.Response
subject_of hooks.ResponseBody = subjects.Response
subject_of (hooks.WsMessage index) = subjects.Message

-- whether the message is whole at the hook
abbrev pub is_whole : Hook → Bool
is_whole hooks.RequestHead = false
is_whole hooks.RequestBody = true
is_whole hooks.ResponseHead = false
is_whole hooks.ResponseBody = true
is_whole (hooks.WsMessage index) = true

abbrev pub Fields : Type 0
Fields = List (List ℕ × List ℕ)

-- ---- fields

-- the fields of the message, where there is one that has any
abbrev pub fields_in : Subject → Flow → Option Fields
fields_in subjects.Request flow = Some flow.request.fields
fields_in subjects.Response flow = option_map (λ response. response.fields) flow.response
fields_in subjects.Message flow = None

abbrev pub response_with_fields : Fields → Response → Response
response_with_fields fields response = record response { fields = fields }

-- the flow with these in their place
abbrev pub with_fields : Subject → Fields → Flow → Flow
with_fields subjects.Request fields flow = record flow { request = record flow.request { fields = fields } }
with_fields subjects.Response fields flow = record flow { response = option_map (response_with_fields fields) flow.response }
with_fields subjects.Message fields flow = flow

-- the flow with what a function makes of them
abbrev pub change_fields_by : Subject → (Fields → Fields) → Flow → Option Fields → Flow
change_fields_by subject change flow None = flow
change_fields_by subject change flow (Some fields) = with_fields subject (change fields) flow

abbrev pub change_fields : Subject → (Fields → Fields) → Flow → Flow
change_fields subject change flow = change_fields_by subject change flow (fields_in subject flow)

-- ---- bodies

-- whether the body of a response is here, and has not passed by
abbrev pub holds_body : Option Response → Bool
holds_body None = false
holds_body (Some response) = not response.streamed

-- whether the body of the message is here, or the payload
abbrev pub has_body : Subject → Flow → Bool
has_body subjects.Request flow = not flow.request.streamed
has_body subjects.Response flow = holds_body flow.response
has_body subjects.Message flow = is_some flow.message

abbrev pub response_with_body : List ℕ → Response → Response
response_with_body bytes response = record response { body = bytes }

abbrev pub message_with : List ℕ → WsMessage → WsMessage
message_with bytes message = record message { payload = bytes }

-- the flow with these bytes as the body of the message, or as the payload
abbrev pub with_body : Subject → List ℕ → Flow → Flow
with_body subjects.Request bytes flow = record flow { request = record flow.request { body = bytes } }
with_body subjects.Response bytes flow = record flow { response = option_map (response_with_body bytes) flow.response }
with_body subjects.Message bytes flow = record flow { message = option_map (message_with bytes) flow.message }
