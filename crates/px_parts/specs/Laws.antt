-- Laws of the text of a message that is sent on as it comes: it only grows, so what is sent next is what was not sent.
use Rattle.std.specs.Prelude.{◌≡◌, ℕ, ◌≤◌, Bool, true, false, List, ◌++◌, length, map}
use Rattle.px_text.specs.Prefix.{IsPrefixOf}
use Rattle.px_message.specs.declared.request.Request.{Request}
use Rattle.px_message.specs.declared.response.Response.{Response}
use Rattle.px_read.specs.Items.{answer_list, request_item, response_item}
use Rattle.px_read.specs.Laws.{is_begun, is_decided}
use Rattle.px_read.specs.Marks.{byte}
use Rattle.px_write.specs.declared.form.Form.{Form}
use Rattle.px_parts.specs.Texts.{final_so_far, left_of, marks_text, request_so_far, response_so_far}

-- bytes of a body are sent as they are
abbrev pub BytesAreSent : Type 0
BytesAreSent = (bytes : List ℕ) → marks_text (map byte bytes) ≡ bytes

-- ---- requests

-- what was sent is the beginning of what is sent with more bytes
abbrev pub RequestTextGrows : Type 0
RequestTextGrows = (sent : Request) (form : Form) (bytes more : List ℕ)
    → IsPrefixOf (request_so_far sent form bytes) (request_so_far sent form (bytes ++ more))

-- and all of it, behind a request that is whole or refused
abbrev pub RequestTextStays : Type 0
RequestTextStays = (sent : Request) (form : Form) (bytes more : List ℕ) → is_decided (request_item bytes) ≡ true
    → request_so_far sent form (bytes ++ more) ≡ request_so_far sent form bytes

-- ---- responses, with the server's close behind the bytes or not

abbrev pub ResponseTextGrows : Type 0
ResponseTextGrows = (sent : Response) (asked_head closed : Bool) (bytes more : List ℕ)
    → IsPrefixOf (response_so_far sent asked_head false bytes) (response_so_far sent asked_head closed (bytes ++ more))

abbrev pub ResponseTextStays : Type 0
ResponseTextStays = (sent : Response) (asked_head closed : Bool) (bytes more : List ℕ)
    → is_decided (response_item asked_head false bytes) ≡ true
    → response_so_far sent asked_head closed (bytes ++ more) ≡ response_so_far sent asked_head false bytes

-- so does that of a final one, behind the interim ones in front of it, as soon as it has begun
abbrev pub FinalTextGrows : Type 0
FinalTextGrows = (sent : Response) (asked_head closed : Bool) (bytes more : List ℕ)
    → is_begun (answer_list asked_head false bytes).final ≡ true
    → IsPrefixOf (final_so_far sent asked_head false bytes) (final_so_far sent asked_head closed (bytes ++ more))

abbrev pub FinalTextStays : Type 0
FinalTextStays = (sent : Response) (asked_head closed : Bool) (bytes more : List ℕ)
    → is_decided (answer_list asked_head false bytes).final ≡ true
    → final_so_far sent asked_head closed (bytes ++ more) ≡ final_so_far sent asked_head false bytes

-- ---- what is sent next

-- What is left of a text and then of a longer one is what is left of the longer one: where a text grows, two looks send what one
-- look behind both would send.
abbrev pub LeftIsAdded : Type 0
LeftIsAdded = (told : ℕ) (text later : List ℕ) → IsPrefixOf text later → told ≤ length text
    → left_of told text ++ left_of (length text) later ≡ left_of told later
