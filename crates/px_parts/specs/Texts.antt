-- The text of a message that is sent on as it comes (RFC 9112 sections 2 to 7.1): its head as it is sent, then what each mark of
-- its reading says, in their order, and then its end. It is a function of the joined bytes that were heard, so no cut shows.
use Rattle.std.specs.Prelude.{ℕ, Bool, if◌then◌else◌, List, [], ◌∷◌, ◌++◌, drop}
use Rattle.std.specs.List.{flat_map}
use Rattle.px_text.specs.Blank.{crlf}
use Rattle.px_text.specs.Number.{hexadecimal}
use Rattle.px_message.specs.Length.{has_no_body, is_framed_in_chunks}
use Rattle.px_message.specs.declared.request.Request.{Request}
use Rattle.px_message.specs.declared.response.Response.{Response}
use Rattle.px_read.specs.Chunks.{Finish, goes_on, whole, fails, Reading}
use Rattle.px_read.specs.Items.{answer_list}
use Rattle.px_read.specs.Marks.{Mark, asks, answers, begins, byte, ends}
use Rattle.px_read.specs.Readings.{request_reading, response_reading}
use Rattle.px_read.specs.declared.part.Part.{Part}
use Rattle.px_read.specs.declared.part.Part.TheVariants as part
use Rattle.px_write.specs.Text.{last_chunk_text, request_head_text, response_head_text}
use Rattle.px_write.specs.declared.form.Form.{Form}

-- ---- marks

-- the line that begins a chunk: its size, in lower case and without leading zeros (RFC 9112 section 7.1)
abbrev pub size_line : ℕ → List ℕ
size_line size = hexadecimal size ++ crlf

-- What a mark behind a head says. A chunk has the sender's size, a byte is as it is, and a chunk's content ends with CRLF. A head is
-- sent as it was settled, which its mark does not tell.
abbrev pub mark_text : Mark → List ℕ
mark_text (asks head) = []
mark_text (answers head) = []
mark_text (begins size) = size_line size
mark_text (byte value) = value ∷ []
mark_text ends = crlf

-- what marks say, one behind the other
abbrev pub marks_text : List Mark → List ℕ
marks_text marks = flat_map mark_text marks

-- ---- the end

-- what ends a whole body: the last chunk, the trailers and an empty line where the fields frame it in chunks, and else nothing
abbrev pub last_text : List (List ℕ × List ℕ) → List (List ℕ × List ℕ) → List ℕ
last_text fields trailers = if is_framed_in_chunks fields then last_chunk_text trailers else []

-- the end of a body as far as it stands: nothing before it is whole, and nothing of one that is refused
abbrev pub end_text : List (List ℕ × List ℕ) → Finish → List ℕ
end_text fields goes_on = []
end_text fields (whole trailers used) = last_text fields trailers
end_text fields (fails fault) = []

-- ---- messages

-- what is sent behind a head with these fields, of a message that was read so far
abbrev pub behind_text : List (List ℕ × List ℕ) → Reading → List ℕ
behind_text fields reading = marks_text reading.marks ++ end_text fields reading.finish

-- what is sent of a request, its target in that form, of which these bytes were heard from its first on
abbrev pub request_so_far : Request → Form → List ℕ → List ℕ
request_so_far sent form bytes = request_head_text sent form ++ behind_text sent.fields (request_reading bytes)

-- what is sent behind the head of a response: nothing where it can have no body (RFC 9110 section 6.4.1)
abbrev pub response_behind_text : Response → Bool → Reading → List ℕ
response_behind_text sent asked_head reading = if has_no_body sent.status asked_head then [] else behind_text sent.fields reading

-- what is sent of a response to HEAD or not, of which these bytes were heard from its first on, and its server's close behind
-- them or not
abbrev pub response_so_far : Response → Bool → Bool → List ℕ → List ℕ
response_so_far sent asked_head closed bytes =
    response_head_text sent ++ response_behind_text sent asked_head (response_reading asked_head closed bytes)

-- the bytes behind interim responses: those of the final one
abbrev pub final_bytes : Bool → Bool → List ℕ → List ℕ
final_bytes asked_head closed bytes = drop (answer_list asked_head closed bytes).used bytes

-- what is sent of the final response among these bytes
abbrev pub final_so_far : Response → Bool → Bool → List ℕ → List ℕ
final_so_far sent asked_head closed bytes = response_so_far sent asked_head closed (final_bytes asked_head closed bytes)

-- ---- what is sent next

-- what is left to send of a text of which so many bytes were sent before
abbrev pub left_of : (told : ℕ) → (text : List ℕ) → List ℕ
left_of told text = drop told text

-- ---- parts

-- what a part says that a reader gives of a message, which is sent with these fields. Its head is sent by itself.
abbrev pub part_text : List (List ℕ × List ℕ) → Part → List ℕ
part_text fields part.More = []
part_text fields (part.Request head) = []
part_text fields (part.Response head) = []
part_text fields (part.Piece bytes) = bytes
part_text fields (part.ChunkStart size) = size_line size
part_text fields part.ChunkEnd = crlf
part_text fields (part.End trailers) = last_text fields trailers
part_text fields (part.Bad fault) = []

-- what parts say, one behind the other
abbrev pub parts_text : List (List ℕ × List ℕ) → List Part → List ℕ
parts_text fields parts = flat_map (part_text fields) parts
