-- A draft: a flow at a hook, as lines change it.
use Rattle.std.specs.Prelude.{◌≡◌, ◌⊎◌, ℕ, Bool, true, false, ◌&&◌, if◌then◌else◌, List, [], ◌∷◌, ◌++◌, Option, Some, None, is_some, option_map, Result, Ok, Err}
use Rattle.px_message.specs.Fields.{set_in, without}
use Rattle.px_message.specs.Value.{is_value}
use Rattle.px_message.specs.declared.flow.Flow.{Flow}
use Rattle.px_message.specs.declared.request.Request.{Request}
use Rattle.px_message.specs.declared.response.Response.{Response}
use Rattle.px_event.specs.declared.ask.Hook.{Hook}
use Rattle.px_write.specs.Short.{reason_of}
use Rattle.px_draft.specs.declared.edit.Edit.{Edit}
use Rattle.px_draft.specs.declared.edit.Edit.TheVariants as change
use Rattle.px_draft.specs.declared.edited.Edited.{Edited}
use Rattle.px_draft.specs.declared.error.EditError.{EditError}
use Rattle.px_draft.specs.declared.error.EditError.TheVariants as error
use Rattle.px_draft.specs.declared.given.Given.{Given}
use Rattle.px_draft.specs.declared.given.Given.TheVariants as givens
use Rattle.px_draft.specs.declared.given.Placing.{Placing}
use Rattle.px_draft.specs.declared.given.Placing.TheVariants as placings
use Rattle.px_draft.specs.declared.subject.Subject.{Subject}
use Rattle.px_draft.specs.declared.subject.Subject.TheVariants as subjects
use Rattle.px_draft.specs.Requests.{with_method, with_url}
use Rattle.px_draft.specs.Subjects.{Fields, change_fields, fields_in, has_body, is_whole, subject_of, with_body}
use Rattle.px_draft.specs.Words.{bytes_of, name_of, status_of, value_of}

-- the draft of a flow that no line has changed
abbrev pub fresh : Hook → Flow → Edited
fresh hook flow = record { hook = hook; flow = flow; given = givens.Nothing }

-- ---- what is open

-- a field among others
abbrev pub placed : Placing → List ℕ → List ℕ → Fields → Fields
placed placings.Set name value fields = set_in name value fields
placed placings.Add name value fields = fields ++ (name, value) ∷ []

-- the flow with what the last line gave
abbrev pub put_in : Subject → Given → Flow → Flow
put_in subject givens.Nothing flow = flow
put_in subject (givens.Field placing name value) flow = change_fields subject (placed placing name value) flow
put_in subject (givens.Body bytes) flow = with_body subject bytes flow

-- the flow that a draft has: with it a hook is answered
abbrev pub flow_of : Edited → Flow
flow_of draft = put_in (subject_of draft.hook) draft.given draft.flow

-- the draft with another flow, and nothing open
abbrev pub turned : Edited → Flow → Edited
turned draft flow = record draft { flow = flow; given = givens.Nothing }

-- the draft where the last line gave this
abbrev pub gives : Edited → Given → Edited
gives draft given = record draft { flow = flow_of draft; given = given }

-- ---- whether a change is there to be made

abbrev pub is_at_request : Subject → Bool
is_at_request subjects.Request = true
is_at_request _ = false

abbrev pub is_at_response : Subject → Flow → Bool
is_at_response subjects.Response flow = is_some flow.response
is_at_response _ flow = false

-- something stands that more bytes go behind
abbrev pub goes_on : Given → Bool
goes_on givens.Nothing = false
goes_on _ = true

-- the hook is about what the change is about
abbrev pub is_there : Edit → Edited → Bool
is_there (change.Method name) draft = is_at_request (subject_of draft.hook)
is_there (change.Url text) draft = is_at_request (subject_of draft.hook)
is_there (change.Status code) draft = is_at_response (subject_of draft.hook) draft.flow
is_there (change.Set name value) draft = is_some (fields_in (subject_of draft.hook) draft.flow)
is_there (change.Add name value) draft = is_some (fields_in (subject_of draft.hook) draft.flow)
is_there (change.Remove name) draft = is_some (fields_in (subject_of draft.hook) draft.flow)
is_there change.ClearBody draft = is_whole draft.hook && has_body (subject_of draft.hook) draft.flow
is_there (change.More text) draft = goes_on draft.given

-- ---- what a change makes

abbrev pub with_request : Flow → Request → Flow
with_request flow request = record flow { request = request }

-- the flow with what becomes of its request, where that is some
abbrev pub request_by : Flow → Option Request → Option Flow
request_by flow becomes = option_map (with_request flow) becomes

abbrev pub method_by : Flow → Option (List ℕ) → Option Flow
method_by flow None = None
method_by flow (Some name) = request_by flow (with_method name flow.request)

-- a response with this status and its reason in the table, or none
abbrev pub answered : ℕ → Response → Response
answered code response = record response { status = code; reason = reason_of code }

abbrev pub status_by : Flow → Option ℕ → Option Flow
status_by flow None = None
status_by flow (Some code) = Some (record flow { response = option_map (answered code) flow.response })

abbrev pub removed_by : Subject → Flow → Option (List ℕ) → Option Flow
removed_by subject flow None = None
removed_by subject flow (Some name) = Some (change_fields subject (without name) flow)

-- a field of a name and a value, where there are both
abbrev pub field_by : Placing → Option (List ℕ) → Option (List ℕ) → Option Given
field_by placing None value = None
field_by placing (Some name) None = None
field_by placing (Some name) (Some value) = Some (givens.Field placing name value)

-- more bytes behind what was given
abbrev pub more_by : Given → Option (List ℕ) → Option Given
more_by given None = None
more_by givens.Nothing (Some bytes) = None
more_by (givens.Field placing name value) (Some bytes) =
    if is_value (value ++ bytes) then Some (givens.Field placing name (value ++ bytes)) else None
more_by (givens.Body body) (Some bytes) = Some (givens.Body (body ++ bytes))

abbrev pub with_given : Edited → Given → Edited
with_given draft given = record draft { given = given }

-- the draft as the change leaves it, or none where one of its words is none of its kind
abbrev pub made : Edit → Edited → Option Edited
made (change.Method name) draft = option_map (turned draft) (method_by (flow_of draft) (name_of name))
made (change.Url text) draft = option_map (turned draft) (request_by (flow_of draft) (with_url text (flow_of draft).request))
made (change.Status code) draft = option_map (turned draft) (status_by (flow_of draft) (status_of code))
made (change.Set name value) draft = option_map (gives draft) (field_by placings.Set (name_of name) (value_of value))
made (change.Add name value) draft = option_map (gives draft) (field_by placings.Add (name_of name) (value_of value))
made (change.Remove name) draft = option_map (turned draft) (removed_by (subject_of draft.hook) (flow_of draft) (name_of name))
made change.ClearBody draft = Some (gives draft (givens.Body []))
made (change.More text) draft = option_map (with_given draft) (more_by draft.given (bytes_of text))

abbrev pub judged : Option Edited → Result Edited EditError
judged None = Err error.BadValue
judged (Some draft) = Ok draft

-- The draft as a line leaves it, or why the line is refused: first that its hook is about something else, or nothing stands that `more`
-- goes on with; then that a word is none of its kind.
abbrev pub changed : Edit → Edited → Result Edited EditError
changed change draft = if is_there change draft then judged (made change draft) else Err error.NotThere

-- ---- many lines

-- the draft behind a line: as it was, where the line is refused
abbrev pub kept : Edited → Result Edited EditError → Edited
kept draft (Ok next) = next
kept draft (Err refusal) = draft

abbrev pub behind : Edited → Edit → Edited
behind draft change = kept draft (changed change draft)

-- the draft behind all of them, in their order
abbrev pub changed_by : List Edit → Edited → Edited
changed_by [] draft = draft
changed_by (change ∷ changes) draft = changed_by changes (behind draft change)

-- ---- refusals of calls

-- memory ran out, or a word is none of its kind, and so nothing is made
abbrev pub IsRefusal : {T : Type 0} → Option T → EditError → Type 0
IsRefusal outcome refusal = (refusal ≡ error.NoMemory) ⊎ ((refusal ≡ error.BadValue) × (outcome ≡ None))
