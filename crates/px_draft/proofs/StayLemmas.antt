-- Whatever lines come, a flow differs in the message that its hook is about.
use Rattle.std.proofs.Common.{◌≡◌, ◌∙◌, ℕ, zero, suc, Bool, true, false, cond, List, [], ◌∷◌, bytes_eq, codes, Option, Some, None, option_map, Err, refl, sym, ap, subst}
use Rattle.px_message.specs.Fields.{without}
use Rattle.px_message.specs.Target.{absolute_form}
use Rattle.px_message.specs.declared.flow.Flow.{Flow}
use Rattle.px_message.specs.declared.flow.WsMessage.{WsMessage}
use Rattle.px_message.specs.declared.request.Request.{Request}
use Rattle.px_message.specs.declared.response.Response.{Response}
use Rattle.px_draft.specs.declared.edit.Edit.{Edit}
use Rattle.px_draft.specs.declared.edit.Edit.TheVariants as change
use Rattle.px_draft.specs.declared.edited.Edited.{Edited}
use Rattle.px_draft.specs.declared.error.EditError.TheVariants as error
use Rattle.px_draft.specs.declared.given.Given.{Given}
use Rattle.px_draft.specs.declared.given.Given.TheVariants as givens
use Rattle.px_draft.specs.declared.given.Placing.TheVariants as placings
use Rattle.px_draft.specs.declared.subject.Subject.{Subject}
use Rattle.px_draft.specs.declared.subject.Subject.TheVariants as subjects
use Rattle.px_draft.specs.Edits.{answered, changed, changed_by, field_by, flow_of, gives, is_at_request, is_at_response, is_there, judged, kept, made, method_by, more_by, placed, put_in, removed_by, request_by, status_by, turned, with_given, with_request}
use Rattle.px_draft.specs.Laws.{ChangesStayAtTheirMessage, IsAt, Stays, message_rest, request_rest, response_rest}
use Rattle.px_draft.specs.Requests.{located, located_at, named_by, with_method, with_url}
use Rattle.px_draft.specs.Subjects.{Fields, change_fields_by, fields_in, message_with, response_with_body, response_with_fields, subject_of, with_body}
use Rattle.px_draft.specs.Words.{bytes_of, name_of, status_of, value_of}

-- ---- flows that differ in one message

pub at_itself : (s : Subject) (f : Flow) → IsAt s f f
at_itself subjects.Request f = (refl, refl)
at_itself subjects.Response f = (refl, refl)
at_itself subjects.Message f = (refl, refl)

pub at_both : (s : Subject) (a b c : Flow) → IsAt s a b → IsAt s b c → IsAt s a c
at_both subjects.Request a b c first second = (ap (λ (f : Flow). record f { request = a.request }) second.0 ∙ first.0, second.1 ∙ first.1)
at_both subjects.Response a b c first second = (ap (λ (f : Flow). record f { response = a.response }) second.0 ∙ first.0, second.1 ∙ first.1)
at_both subjects.Message a b c first second = (ap (λ (f : Flow). record f { message = a.message }) second.0 ∙ first.0, second.1 ∙ first.1)

pub at_other : (s : Subject) (a b : Flow) → IsAt s a b → IsAt s b a
at_other subjects.Request a b h = (ap (λ (f : Flow). record f { request = b.request }) (sym h.0), sym h.1)
at_other subjects.Response a b h = (ap (λ (f : Flow). record f { response = b.response }) (sym h.0), sym h.1)
at_other subjects.Message a b h = (ap (λ (f : Flow). record f { message = b.message }) (sym h.0), sym h.1)

-- ---- what is put

rest_mapped : {A B : Type 0} (becomes : A → A) (rest : A → B) → ((x : A) → rest (becomes x) ≡ rest x) → (o : Option A) → option_map rest (option_map becomes o) ≡ option_map rest o
rest_mapped becomes rest stays None = refl
rest_mapped becomes rest stays (Some x) = ap Some (stays x)

at_request : (s : Subject) → is_at_request s ≡ true → (f : Flow) (request : Request) → request_rest request ≡ request_rest f.request → IsAt s f (with_request f request)
at_request subjects.Request is f request rest = (refl, rest)
at_request subjects.Response is f request rest = cc
at_request subjects.Message is f request rest = cc

at_response : (becomes : Response → Response) → ((r : Response) → response_rest (becomes r) ≡ response_rest r) → (f : Flow)
    → IsAt subjects.Response f (record f { response = option_map becomes f.response })
at_response becomes stays f = (refl, rest_mapped becomes response_rest stays f.response)

at_message : (becomes : WsMessage → WsMessage) → ((m : WsMessage) → message_rest (becomes m) ≡ message_rest m) → (f : Flow)
    → IsAt subjects.Message f (record f { message = option_map becomes f.message })
at_message becomes stays f = (refl, rest_mapped becomes message_rest stays f.message)

at_status : (s : Subject) (code : ℕ) (f seen : Flow) → is_at_response s seen ≡ true → IsAt s f (record f { response = option_map (answered code) f.response })
at_status subjects.Request code f seen is = cc
at_status subjects.Response code f seen is = at_response (answered code) (λ r. refl) f
at_status subjects.Message code f seen is = cc

at_fields : (s : Subject) (becomes : Fields → Fields) (f : Flow) (found : Option Fields) → IsAt s f (change_fields_by s becomes f found)
at_fields s becomes f None = at_itself s f
at_fields subjects.Request becomes f (Some fields) = (refl, refl)
at_fields subjects.Response becomes f (Some fields) = at_response (response_with_fields (becomes fields)) (λ r. refl) f
at_fields subjects.Message becomes f (Some fields) = (refl, refl)

at_body : (s : Subject) (bytes : List ℕ) (f : Flow) → IsAt s f (with_body s bytes f)
at_body subjects.Request bytes f = (refl, refl)
at_body subjects.Response bytes f = at_response (response_with_body bytes) (λ r. refl) f
at_body subjects.Message bytes f = at_message (message_with bytes) (λ m. refl) f

at_given : (s : Subject) (given : Given) (f : Flow) → IsAt s f (put_in s given f)
at_given s givens.Nothing f = at_itself s f
at_given s (givens.Field placing name value) f = at_fields s (placed placing name value) f (fields_in s f)
at_given s (givens.Body bytes) f = at_body s bytes f

-- ---- requests

some_rest : (old made new : Request) → request_rest made ≡ request_rest old → Some made ≡ Some new → request_rest new ≡ request_rest old
some_rest old made new rest is = let same : made ≡ new = cc in ap request_rest (sym same) ∙ rest

method_rest : (old new : Request) (name : List ℕ) (same : Bool) (is : bytes_eq name (codes "CONNECT") ≡ same) → named_by old name same is ≡ Some new → request_rest new ≡ request_rest old
method_rest old new name true is made = cc
method_rest old new name false is made = some_rest old _ new refl made

place_rest : (old new : Request) (host : List ℕ) (port : ℕ) (path : List ℕ) → located_at old host port path ≡ Some new → request_rest new ≡ request_rest old
place_rest old new host zero path made = cc
place_rest old new host (suc below) path made = some_rest old _ new refl made

url_rest : (old new : Request) (place : Option (List ℕ × ℕ × List ℕ)) → located old place ≡ Some new → request_rest new ≡ request_rest old
url_rest old new None made = cc
url_rest old new (Some (host, port, path)) made = place_rest old new host port path made

-- ---- each change

some_is : {A : Type 0} (a b : A) → Some a ≡ Some b → a ≡ b
some_is a b is = cc

-- the draft with another flow
turned_stays : (draft next : Edited) (flow : Flow) → IsAt (subject_of draft.hook) (flow_of draft) flow → turned draft flow ≡ next → Stays draft next
turned_stays draft next flow at is = subst (Stays draft) is (record { hook = refl; flow = at })

request_stays : (draft next : Edited) (becomes : Option Request) → is_at_request (subject_of draft.hook) ≡ true
    → ((r : Request) → becomes ≡ Some r → request_rest r ≡ request_rest (flow_of draft).request)
    → option_map (turned draft) (request_by (flow_of draft) becomes) ≡ Some next → Stays draft next
request_stays draft next None there rest is = cc
request_stays draft next (Some request) there rest is =
    turned_stays draft next (with_request (flow_of draft) request) (at_request (subject_of draft.hook) there (flow_of draft) request (rest request refl))
    (some_is _ next is)

method_stays : (draft next : Edited) (name : Option (List ℕ)) → is_at_request (subject_of draft.hook) ≡ true
    → option_map (turned draft) (method_by (flow_of draft) name) ≡ Some next → Stays draft next
method_stays draft next None there is = cc
method_stays draft next (Some name) there is =
    request_stays draft next (with_method name (flow_of draft).request) there (λ r made. method_rest (flow_of draft).request r name _ refl made) is

status_stays : (draft next : Edited) (code : Option ℕ) → is_at_response (subject_of draft.hook) draft.flow ≡ true
    → option_map (turned draft) (status_by (flow_of draft) code) ≡ Some next → Stays draft next
status_stays draft next None there is = cc
status_stays draft next (Some code) there is =
    turned_stays draft next _ (at_status (subject_of draft.hook) code (flow_of draft) draft.flow there) (some_is _ next is)

removed_stays : (draft next : Edited) (name : Option (List ℕ)) → option_map (turned draft) (removed_by (subject_of draft.hook) (flow_of draft) name) ≡ Some next → Stays draft next
removed_stays draft next None is = cc
removed_stays draft next (Some name) is =
    turned_stays draft next _ (at_fields (subject_of draft.hook) (without name) (flow_of draft) (fields_in (subject_of draft.hook) (flow_of draft))) (some_is _ next is)

given_stays : (draft next : Edited) (given : Given) → gives draft given ≡ next → Stays draft next
given_stays draft next given is = subst (Stays draft) is (record { hook = refl; flow = at_given (subject_of draft.hook) given (flow_of draft) })

field_stays : (draft next : Edited) (field : Option Given) → option_map (gives draft) field ≡ Some next → Stays draft next
field_stays draft next None is = cc
field_stays draft next (Some given) is = given_stays draft next given (some_is _ next is)

more_stays : (draft next : Edited) (given : Option Given) → option_map (with_given draft) given ≡ Some next → Stays draft next
more_stays draft next None is = cc
more_stays draft next (Some given) is =
    let s = subject_of draft.hook in
    subst (Stays draft) (some_is _ next is)
    (record { hook = refl; flow = at_both s (flow_of draft) draft.flow (put_in s given draft.flow) (at_other s draft.flow (flow_of draft) (at_given s draft.given draft.flow)) (at_given s given draft.flow) })

made_stays : (c : Edit) (draft next : Edited) → is_there c draft ≡ true → made c draft ≡ Some next → Stays draft next
made_stays (change.Method name) draft next there is = method_stays draft next (name_of name) there is
made_stays (change.Url text) draft next there is =
    request_stays draft next (with_url text (flow_of draft).request) there (λ r made. url_rest (flow_of draft).request r (absolute_form text) made) is
made_stays (change.Status code) draft next there is = status_stays draft next (status_of code) there is
made_stays (change.Set name value) draft next there is = field_stays draft next (field_by placings.Set (name_of name) (value_of value)) is
made_stays (change.Add name value) draft next there is = field_stays draft next (field_by placings.Add (name_of name) (value_of value)) is
made_stays (change.Remove name) draft next there is = removed_stays draft next (name_of name) is
made_stays change.ClearBody draft next there is = given_stays draft next (givens.Body []) (some_is _ next is)
made_stays (change.More text) draft next there is = more_stays draft next (more_by draft.given (bytes_of text)) is

-- ---- a line, and many

pub itself_stays : (draft : Edited) → Stays draft draft
itself_stays draft = record { hook = refl; flow = at_itself (subject_of draft.hook) (flow_of draft) }

kept_stays : (c : Edit) (draft : Edited) (there : Bool) (becomes : Option Edited) → (is_there c draft ≡ there) → (made c draft ≡ becomes)
    → Stays draft (kept draft (cond there (judged becomes) (Err error.NotThere)))
kept_stays c draft false becomes there is = itself_stays draft
kept_stays c draft true None there is = itself_stays draft
kept_stays c draft true (Some next) there is = made_stays c draft next there is

both_stay : (a b c : Edited) → Stays a b → Stays b c → Stays a c
both_stay a b c first second = record {
  hook = second.hook ∙ first.hook;
  flow = at_both (subject_of a.hook) (flow_of a) (flow_of b) (flow_of c) first.flow (subst (λ h. IsAt (subject_of h) (flow_of b) (flow_of c)) first.hook second.flow);
}

pub changes_stay : ChangesStayAtTheirMessage
changes_stay [] draft = itself_stays draft
changes_stay (c ∷ changes) draft =
    let next = kept draft (changed c draft) in
    both_stay draft next (changed_by changes next) (kept_stays c draft (is_there c draft) (made c draft) refl refl) (changes_stay changes next)
