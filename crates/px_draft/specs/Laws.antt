-- What follows of the definitions.
use Rattle.std.specs.Prelude.{◌≡◌, ℕ, Bool, true, List, [], ◌∷◌, ◌++◌, map, Some, option_map, Ok, Err}
use Rattle.std.specs.List.{concat}
use Rattle.base64.specs.GeneralPurpose.{IsBytes}
use Rattle.px_message.specs.Value.{is_value}
use Rattle.px_message.specs.declared.flow.Flow.{Flow}
use Rattle.px_message.specs.declared.flow.WsMessage.{WsMessage}
use Rattle.px_message.specs.declared.request.Request.{Request}
use Rattle.px_message.specs.declared.response.Response.{Response}
use Rattle.px_message.specs.declared.version.Version.{Version}
use Rattle.px_event.specs.declared.ask.Hook.{Hook}
use Rattle.px_draft.specs.declared.edit.Edit.{Edit}
use Rattle.px_draft.specs.declared.edit.Edit.TheVariants as change
use Rattle.px_draft.specs.declared.edited.Edited.{Edited}
use Rattle.px_draft.specs.declared.error.EditError.{EditError}
use Rattle.px_draft.specs.declared.given.Placing.{Placing}
use Rattle.px_draft.specs.declared.given.Placing.TheVariants as placings
use Rattle.px_draft.specs.declared.subject.Subject.{Subject}
use Rattle.px_draft.specs.declared.subject.Subject.TheVariants as subjects
use Rattle.px_draft.specs.Edits.{behind, changed, changed_by, flow_of, fresh}
use Rattle.px_draft.specs.Subjects.{Fields, subject_of, with_body}
use Rattle.px_draft.specs.Words.{base64_text, bytes_of}

-- The base64 of bytes is read as them, and nothing else is.
pub record Base64IsRead : Type 0 where
  pub back : (bytes : List ℕ) → IsBytes bytes → bytes_of (base64_text bytes) ≡ Some bytes
  pub only : (text bytes : List ℕ) → IsBytes text → bytes_of text ≡ Some bytes → text ≡ base64_text bytes

-- Without a line the draft has the flow that it was made of.
abbrev pub NoChangeIsTheFlow : Type 0
NoChangeIsTheFlow = (hook : Hook) (flow : Flow) → flow_of (changed_by [] (fresh hook flow)) ≡ flow

-- Behind a line that is refused the draft is as before.
abbrev pub RefusalChangesNothing : Type 0
RefusalChangesNothing = (change : Edit) (draft : Edited) (refusal : EditError) → changed change draft ≡ Err refusal → behind draft change ≡ draft

-- Lines that follow others change what these made.
abbrev pub LinesFollow : Type 0
LinesFollow = (changes more : List Edit) (draft : Edited) → changed_by (changes ++ more) draft ≡ changed_by more (changed_by changes draft)

-- ---- pieces

-- the line that puts a field of this value
abbrev pub field_line : Placing → List ℕ → List ℕ → Edit
field_line placings.Set name value = change.Set name (base64_text value)
field_line placings.Add name value = change.Add name (base64_text value)

-- the line that adds these bytes
abbrev pub more_line : List ℕ → Edit
more_line bytes = change.More (base64_text bytes)

-- all of them are bytes
abbrev pub AreBytes : List (List ℕ) → Type 0
AreBytes [] = Unit {0}
AreBytes (piece ∷ pieces) = IsBytes piece × AreBytes pieces

-- Bytes that come in pieces behind a line that is taken make what one line with all of them makes.
pub record PiecesMakeOne : Type 0 where
  -- behind a field
  pub field : (placing : Placing) (name first : List ℕ) (pieces : List (List ℕ)) (draft one : Edited) → IsBytes first → AreBytes pieces →
      is_value (first ++ concat pieces) ≡ true → changed (field_line placing name first) draft ≡ Ok one →
      changed (field_line placing name (first ++ concat pieces)) draft ≡ Ok (changed_by (map more_line pieces) one)
  -- behind a body
  pub body : (pieces : List (List ℕ)) (draft one : Edited) → AreBytes pieces → changed change.ClearBody draft ≡ Ok one →
      changed (more_line (concat pieces)) one ≡ Ok (changed_by (map more_line pieces) one)
  -- which then is those bytes, and all else is as it was
  pub whole : (pieces : List (List ℕ)) (draft one : Edited) → AreBytes pieces → changed change.ClearBody draft ≡ Ok one →
      flow_of (changed_by (map more_line pieces) one) ≡ with_body (subject_of draft.hook) (concat pieces) (flow_of draft)

-- ---- what stays

-- what no line changes of a message
abbrev pub request_rest : Request → Version × Fields × Bool
request_rest request = (request.version, request.trailers, request.streamed)

abbrev pub response_rest : Response → Version × Fields × Bool
response_rest response = (response.version, response.trailers, response.streamed)

abbrev pub message_rest : WsMessage → Bool × Bool
message_rest message = (message.from_client, message.text)

-- one flow differs from the other in that message alone, and there not in what no line changes
abbrev pub IsAt : Subject → Flow → Flow → Type 0
IsAt subjects.Request before after = (record after { request = before.request } ≡ before) × (request_rest after.request ≡ request_rest before.request)
IsAt subjects.Response before after =
    (record after { response = before.response } ≡ before) × (option_map response_rest after.response ≡ option_map response_rest before.response)
IsAt subjects.Message before after =
    (record after { message = before.message } ≡ before) × (option_map message_rest after.message ≡ option_map message_rest before.message)

-- Whatever lines come, the hook is the one that it was, and the flow differs in its message alone.
pub record Stays (before after : Edited) : Type 0 where
  pub hook : after.hook ≡ before.hook
  pub flow : IsAt (subject_of before.hook) (flow_of before) (flow_of after)

abbrev pub ChangesStayAtTheirMessage : Type 0
ChangesStayAtTheirMessage = (changes : List Edit) (draft : Edited) → Stays draft (changed_by changes draft)
