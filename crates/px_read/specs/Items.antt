-- What stands at the front of a stream: nothing, a part of a message, a whole one, or a fault with what stood before it.
use Rattle.std.specs.Prelude.{ℕ, zero, suc, ◌+◌, Bool, if◌then◌else◌, List, [], ◌∷◌, length, drop}
use Rattle.std.specs.List.{flat_map}
use Rattle.px_head.specs.Front.{response_front}
use Rattle.px_head.specs.declared.front.Front.{Front}
use Rattle.px_head.specs.declared.front.Front.TheVariants as front
use Rattle.px_message.specs.declared.fault.Fault.{Fault}
use Rattle.px_read.specs.Heads.{is_interim, response_head}
use Rattle.px_read.specs.Marks.{Mark, asks, answers, begins, byte, ends}
use Rattle.px_read.specs.Chunks.{Finish, goes_on, whole, fails}
use Rattle.px_read.specs.Readings.{request_reading, response_reading}
use Rattle.px_read.specs.declared.head.RequestHead.{RequestHead}
use Rattle.px_read.specs.declared.head.ResponseHead.{ResponseHead}

-- a body as far as it has come
pub record Body : Type 0 where
  -- the sizes of the chunks that have begun
  pub sizes : List ℕ
  -- how many of them have ended
  pub ended : ℕ
  -- the content
  pub content : List ℕ

-- that of a message without one
abbrev pub no_body : Body
no_body = record { sizes = []; ended = 0; content = [] }

abbrev pub sizes_in : Mark → List ℕ
sizes_in (begins size) = size ∷ []
sizes_in _ = []

abbrev pub content_in : Mark → List ℕ
content_in (byte value) = value ∷ []
content_in _ = []

abbrev pub ends_in : Mark → List Mark
ends_in ends = ends ∷ []
ends_in _ = []

abbrev pub body_of : List Mark → Body
body_of marks = record {
  sizes = flat_map sizes_in marks;
  ended = length (flat_map ends_in marks);
  content = flat_map content_in marks;
}

-- what stands at the front, for heads of a kind
pub data Item (H : Type 0) : Type 0 where
  -- no head is there, and none is refused
  missing : Item H
  -- the head is there, its body is not whole, and nothing is refused
  part : (head : H) (body : Body) → Item H
  -- head and body are there, and used so many bytes
  complete : (head : H) (body : Body) (trailers : List (List ℕ × List ℕ)) (used : ℕ) → Item H
  -- no head, for this fault
  bad_head : (fault : Fault) → Item H
  -- a head whose length or body is at fault
  bad_body : (fault : Fault) (head : H) (body : Body) → Item H

abbrev pub item_behind : {H : Type 0} → H → Body → Finish → Item H
item_behind head body goes_on = part head body
item_behind head body (whole trailers used) = complete head body trailers used
item_behind head body (fails fault) = bad_body fault head body

-- nothing is whole without a head
abbrev pub item_before : {H : Type 0} → Finish → Item H
item_before goes_on = missing
item_before (whole trailers used) = missing
item_before (fails fault) = bad_head fault

-- the item of a request's marks
abbrev pub request_told : List Mark → Finish → Item RequestHead
request_told (asks head ∷ marks) finish = item_behind head (body_of marks) finish
request_told _ finish = item_before finish

-- the request at the front of the client's bytes
abbrev pub request_item : List ℕ → Item RequestHead
request_item bytes = let reading = request_reading bytes in request_told reading.marks reading.finish

-- the item of a response's marks
abbrev pub response_told : List Mark → Finish → Item ResponseHead
response_told (answers head ∷ marks) finish = item_behind head (body_of marks) finish
response_told _ finish = item_before finish

-- the response, interim or final, at the front of the server's bytes
abbrev pub response_item : Bool → Bool → List ℕ → Item ResponseHead
response_item asked_head closed bytes =
    let reading = response_reading asked_head closed bytes in response_told reading.marks reading.finish

-- the interim responses in front of a final one, the bytes that they used, and what stands behind them
pub record Answers : Type 0 where
  pub interim : List ResponseHead
  pub used : ℕ
  pub final : Item ResponseHead

abbrev pub behind_interim : ResponseHead → ℕ → Answers → Answers
behind_interim head used further =
    record { interim = head ∷ further.interim; used = used + further.used; final = further.final }

abbrev pub answers_at : ResponseHead → ℕ → Answers → Answers → Answers
answers_at head used further here = if is_interim head then behind_interim head used further else here

abbrev pub answers_behind : Front → (List ℕ → Answers) → List ℕ → Answers → Answers
answers_behind (front.Stands raw used) further bytes here = answers_at (response_head raw) used (further (drop used bytes)) here
answers_behind _ further bytes here = here

-- with at most so many interim responses
abbrev pub answers_within : ℕ → Bool → Bool → List ℕ → Answers
answers_within zero asked_head closed bytes =
    record { interim = []; used = 0; final = response_item asked_head closed bytes }
answers_within (suc most) asked_head closed bytes =
    answers_behind (response_front bytes) (answers_within most asked_head closed) bytes
    (record { interim = []; used = 0; final = response_item asked_head closed bytes })

-- all of them: each uses at least one byte, so no more than the bytes can be there
abbrev pub answer_list : Bool → Bool → List ℕ → Answers
answer_list asked_head closed bytes = answers_within (length bytes) asked_head closed bytes
