-- What a reader gave of a response, as what the chain says of the bytes that came: its item, its text, and whether it is streamed.
use Rattle.std.proofs.Common.{◌≡◌, ℕ, ◌+◌, Bool, true, false, ◌&&◌, not, List, [], ◌∷◌, ◌++◌, length, drop, Option, Some, None, Result, Ok, Err, refl, ap, sym, ◌∙◌, arith}
use Rattle.std.specs.Prelude.{if◌then◌else◌}
use Rattle.std.proofs.lemmas.List.{append-nil, append_cancel_left}
use Rattle.px_message.specs.Length.{has_no_body, response_length}
use Rattle.px_message.specs.declared.fault.Fault.{Fault}
use Rattle.px_message.specs.declared.flow.Flow.{Flow}
use Rattle.px_message.specs.declared.length.Length.{Length}
use Rattle.px_message.specs.declared.response.Response.{Response}
use Rattle.px_read.specs.Chunks.{Finish, goes_on, whole, fails, Reading}
use Rattle.px_read.specs.Heads.{is_interim}
use Rattle.px_read.specs.Items.{Body, Answers, answer_list, body_of, item_behind, response_told}
use Rattle.px_read.specs.Laws.{head_in}
use Rattle.px_read.specs.Marks.{Mark, answers}
use Rattle.px_read.specs.Readings.{response_reading}
use Rattle.px_read.specs.Reader.{Message, Reads, State, reading_of, to_come}
use Rattle.px_read.specs.declared.head.ResponseHead.{ResponseHead as ReadResponse}
use Rattle.px_write.specs.Text.{response_head_text}
use Rattle.px_exchange.specs.declared.body.Progress.{Progress}
use Rattle.px_exchange.specs.declared.body.Progress.TheVariants as progress
use Rattle.px_exchange.specs.Bodies.{HasCome, content_of}
use Rattle.px_exchange.specs.Flows.{response_of}
use Rattle.px_exchange.specs.Requests.{is_head}
use Rattle.px_exchange.proofs.BodyLemmas.{come}
use Rattle.px_parts.specs.Streamed.{heard_in, response_says, response_streams, streamed_by, streams_behind}
use Rattle.px_parts.specs.Texts.{behind_text, end_text, final_bytes, final_so_far, marks_text, response_behind_text, response_so_far}
use Rattle.px_chain.specs.Coming.{streams_by as streams_of}
use Rattle.px_chain.specs.Sights.{left_by, left_by_answers}
use Rattle.px_stream.specs.Comings.{streams_at, streams_with}
use Rattle.px_stream.specs.Passes.{streams_by}
use Rattle.px_stream.specs.Stands.{Passes}
use Rattle.px_stream.proofs.AnswerLemmas.{StandsThere, final_here, stands_there}
use Rattle.px_stream.proofs.PassLemmas.{final_behind, used_behind}

-- ---- what a reader gave

abbrev pub read_as : List Mark → Finish → Reading
read_as marks finish = record { marks = marks; finish = finish }

-- the end that it came to
pub finish_of : (got : Progress) (reading : Reading) (all : List Mark) (fed : List ℕ) (state : State) → HasCome got reading all fed state → (finish : Finish) × (reading ≡ read_as all finish)
finish_of progress.Missing reading all fed state has = (goes_on, has)
finish_of (progress.Whole trailers) reading all fed state has = (whole trailers has.0, has.1)
finish_of (progress.Bad fault) reading all fed state has = (fails fault, has)

-- A reader that gave all marks that its bytes tell has none to come.
no_marks_left : (message : Message) (told : List Mark) (fed : List ℕ) (closed : Bool) (state : State) (finish : Finish) → Reads message told fed closed state →
    reading_of message closed fed ≡ read_as told finish → (to_come state).marks ≡ []
no_marks_left message told fed closed state finish reads is =
    append_cancel_left told (to_come state).marks []
    (ap (λ (r : Reading). r.marks) (sym (come message told fed closed state reads) ∙ is) ∙ sym (append-nil told))

pub none_left : (got : Progress) (message : Message) (told : List Mark) (fed : List ℕ) (closed : Bool) (state : State) → Reads message told fed closed state →
    HasCome got (reading_of message closed fed) told fed state → (to_come state).marks ≡ []
none_left got message told fed closed state reads has =
    let ended = finish_of got (reading_of message closed fed) told fed state has in
    no_marks_left message told fed closed state ended.0 reads ended.1

-- ---- what stands there

head_behind : (head : ReadResponse) (body : Body) (finish : Finish) → head_in (item_behind head body finish) ≡ Some head
head_behind head body goes_on = refl
head_behind head body (whole trailers used) = refl
head_behind head body (fails fault) = refl

none_used : (n m : ℕ) → m ≡ 0 → n + m ≡ n
none_used n m is = omega arith

and_never : (b : Bool) → (b && false) ≡ false
and_never true = refl
and_never false = refl

-- judged by what its head says of the length, or refuses
judged_by : (status : ℕ) (asked_head : Bool) (size : Result Length Fault) (most : Option ℕ) (heard : ℕ) →
    (not (has_no_body status asked_head) && streamed_by size most heard) ≡ streams_at status asked_head size most heard
judged_by status asked_head (Ok size) most heard = refl
judged_by status asked_head (Err fault) most heard = and_never (not (has_no_body status asked_head))

module _ (asked_head shut : Bool) (bytes fed : List ℕ) (sent : List ReadResponse) (passes : Passes asked_head bytes fed sent) (head : ReadResponse) (final : is_interim head ≡ false)
    (all : List Mark) (finish : Finish) (is : response_reading asked_head shut fed ≡ read_as (answers head ∷ all) finish) where
  stands : StandsThere head fed
  stands = stands_there asked_head shut fed head all (ap (λ (r : Reading). r.marks) is)

  -- its item
  pub item_is : (answer_list asked_head shut bytes).final ≡ item_behind head (body_of all) finish
  item_is =
      final_behind asked_head shut bytes fed sent passes
      ∙ (ap (λ (a : Answers). a.final) (final_here asked_head shut fed head stands final) ∙ ap (λ (r : Reading). response_told r.marks r.finish) is)

  pub head_is : head_in (answer_list asked_head shut bytes).final ≡ Some head
  head_is = ap head_in item_is ∙ head_behind head (body_of all) finish

  used_is : (answer_list asked_head shut bytes).used ≡ passes.used
  used_is =
      used_behind asked_head shut bytes fed sent passes
      ∙ none_used passes.used (answer_list asked_head shut fed).used (ap (λ (a : Answers). a.used) (final_here asked_head shut fed head stands final))

  bytes_are : final_bytes asked_head shut bytes ≡ fed
  bytes_are = ap (λ n. drop n bytes) used_is ∙ sym passes.behind

  -- what stands behind it, where it is whole
  pub left_is : left_by_answers (answer_list asked_head shut bytes) bytes ≡ left_by (item_behind head (body_of all) finish) fed
  left_is =
      ap (λ i. left_by i (final_bytes asked_head shut bytes)) item_is ∙ ap (left_by (item_behind head (body_of all) finish)) bytes_are

  -- its text, where it can have a body
  pub text_is : (sent_as : Response) → has_no_body sent_as.status asked_head ≡ false →
      final_so_far sent_as asked_head shut bytes ≡ response_head_text sent_as ++ (marks_text all ++ end_text sent_as.fields finish)
  text_is sent_as has_body =
      ap (λ l. response_so_far sent_as asked_head shut l) bytes_are
      ∙ (ap (λ r. response_head_text sent_as ++ response_behind_text sent_as asked_head r) is
      ∙ ap (λ (b : Bool). response_head_text sent_as ++ (if b then [] else behind_text sent_as.fields (read_as (answers head ∷ all) finish))) has_body)

  -- whether it is streamed
  streams_is : (response : Response) (most : Option ℕ) →
      response_streams response.status asked_head shut most (final_bytes asked_head shut bytes) ≡ streams_with asked_head (response_of head) response most (length (content_of all))
  streams_is response most =
      let has_body : Bool = not (has_no_body response.status asked_head) in
      ap (λ l. response_streams response.status asked_head shut most l) bytes_are
      ∙ (ap (λ (r : Reading). has_body && streams_behind (response_says asked_head) (head_in (response_told r.marks r.finish)) most (heard_in r.marks)) is
      ∙ (ap (λ o. has_body && streams_behind (response_says asked_head) o most (length (content_of all))) (head_behind head (body_of all) finish)
      ∙ judged_by response.status asked_head (response_length head.code asked_head head.fields) most (length (content_of all))))

-- So the judgement of what was read is the chain's.
pub judged : (flow : Flow) (given : Option Response) (shut : Bool) (bytes fed : List ℕ) (sent : List ReadResponse) → Passes (is_head flow.request.method) bytes fed sent → (head : ReadResponse) →
    is_interim head ≡ false → (all : List Mark) (finish : Finish) → response_reading (is_head flow.request.method) shut fed ≡ read_as (answers head ∷ all) finish → (most : Option ℕ) →
    streams_of given flow.request most shut bytes ≡ streams_by flow given (response_of head) most (length (content_of all))
judged flow None shut bytes fed sent passes head final all finish is most = refl
judged flow (Some response) shut bytes fed sent passes head final all finish is most =
    streams_is (is_head flow.request.method) shut bytes fed sent passes head final all finish is response most

-- What is streamed has a body.
has_body_by : (status : ℕ) (asked_head : Bool) (size : Result Length Fault) (most : Option ℕ) (heard : ℕ) → streams_at status asked_head size most heard ≡ true → has_no_body status asked_head ≡ false
has_body_by status asked_head (Ok size) most heard is = unless (has_no_body status asked_head) _ is
  where
    unless : (b c : Bool) → (not b && c) ≡ true → b ≡ false
    unless true c is = absurd (let no : false ≡ true = is in cc)
    unless false c is = refl
has_body_by status asked_head (Err fault) most heard is = absurd (let no : false ≡ true = is in cc)

pub streams_has_body : (asked_head : Bool) (read response : Response) (most : Option ℕ) (heard : ℕ) → streams_with asked_head read response most heard ≡ true → has_no_body response.status asked_head ≡ false
streams_has_body asked_head read response most heard is = has_body_by response.status asked_head (response_length read.status asked_head read.fields) most heard is
