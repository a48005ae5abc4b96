-- A reader that gave all that had come of its message, which goes on.
use Rattle.std.proofs.Common.{◌≡◌, ℕ, ◌+◌, Bool, true, false, List, [], ◌++◌, length, Result, Ok, Err, refl, ap, sym, ◌∙◌}
use Rattle.std.proofs.lemmas.List.{append-nil, append_cancel_left}
use Rattle.px_head.specs.declared.front.Front.{Front}
use Rattle.px_head.specs.declared.front.Front.TheVariants as front
use Rattle.px_head.specs.Front.{request_front, response_front}
use Rattle.px_head.specs.declared.raw.RawHead.{RawHead}
use Rattle.px_message.specs.Length.{response_length}
use Rattle.px_message.specs.declared.length.Length.{Length}
use Rattle.px_message.specs.declared.fault.Fault.{Fault}
use Rattle.px_read.specs.Chunks.{Finish, goes_on, whole, fails, Reading}
use Rattle.px_read.specs.Items.{Body, item_behind, missing, request_item, request_told}
use Rattle.px_read.specs.Heads.{code_of}
use Rattle.px_read.specs.Marks.{Mark}
use Rattle.px_read.specs.Readings.{as_response, behind_bytes, only, request_behind, response_behind, response_body, response_reading}
use Rattle.px_read.specs.Reader.{Message, Reads, State, behind_marks, reading_of, request, to_come}
use Rattle.px_exchange.proofs.BodyLemmas.{come}
use Rattle.px_stream.specs.Stands.{IsQuiet}

finish_behind : (n : ℕ) (f : Finish) → behind_bytes n f ≡ goes_on → f ≡ goes_on
finish_behind n goes_on is = is
finish_behind n (whole trailers used) is = absurd (let no : whole trailers (n + used) ≡ goes_on = is in cc)
finish_behind n (fails fault) is = absurd (let no : fails fault ≡ goes_on = is in cc)

as_only : (marks : List Mark) (f : Finish) → marks ≡ [] → f ≡ goes_on → (let r : Reading = record { marks = marks; finish = f } in r) ≡ only goes_on
as_only marks f none on = cc

-- It gave all that its bytes tell, and they go on.
pub quiet_by : (message : Message) (told : List Mark) (fed : List ℕ) (closed : Bool) (state : State) → Reads message told fed closed state →
    reading_of message closed fed ≡ (let r : Reading = record { marks = told; finish = goes_on } in r) → IsQuiet state
quiet_by message told fed closed state reads is =
    let same = sym (come message told fed closed state reads) ∙ is in
    as_only (to_come state).marks (to_come state).finish
    (append_cancel_left told (to_come state).marks [] (ap (λ (r : Reading). r.marks) same ∙ sym (append-nil told)))
    (finish_behind (length reads.used) (to_come state).finish (ap (λ (r : Reading). r.finish) same))

-- So it is behind `More`.
pub still_quiet : (message : Message) (told : List Mark) (fed : List ℕ) (closed : Bool) (old new : State) → Reads message told fed closed old → IsQuiet old → Reads message (told ++ []) fed closed new → IsQuiet new
still_quiet message told fed closed old new before quiet after =
    quiet_by message (told ++ []) fed closed new after (come message told fed closed old before ∙ ap (λ r. behind_marks told (length before.used) r) quiet)

-- ---- where no head is there

never_missing : {H : Type 0} (head : H) (body : Body) (f : Finish) → item_behind head body f ≡ missing → ⊥
never_missing {H} head body goes_on is = cc
never_missing {H} head body (whole trailers used) is = cc
never_missing {H} head body (fails fault) is = cc

missing_by : (bytes : List ℕ) (f : Front) → (let r : Reading = request_behind f bytes in request_told r.marks r.finish ≡ missing) → request_behind f bytes ≡ only goes_on
missing_by bytes front.Nothing is = refl
missing_by bytes front.TooLong is = absurd (let no = is in cc)
missing_by bytes front.BadHead is = absurd (let no = is in cc)
missing_by bytes (front.Stands raw used) is = absurd (never_missing _ _ _ is)

-- of a request
pub missing_quiet : (fed : List ℕ) (state : State) → Reads request [] fed false state → request_item fed ≡ missing → IsQuiet state
missing_quiet fed state reads is = quiet_by request [] fed false state reads (missing_by fed (request_front fed) is)

-- a response of which nothing was given is not whole
unwhole_length : (raw : RawHead) (used : ℕ) (size : Result Length Fault) (closed : Bool) (bytes : List ℕ) (trailers : List (List ℕ × List ℕ)) (n : ℕ) →
    as_response closed (response_body raw used size closed bytes) ≡ (let r : Reading = record { marks = []; finish = whole trailers n } in r) → ⊥
unwhole_length raw used (Err fault) closed bytes trailers n is = let no = ap (λ (r : Reading). r.finish) is in cc
unwhole_length raw used (Ok size) closed bytes trailers n is = let no = ap (λ (r : Reading). r.marks) is in cc

unwhole_by : (asked_head closed : Bool) (bytes : List ℕ) (f : Front) (trailers : List (List ℕ × List ℕ)) (n : ℕ) →
    as_response closed (response_behind f asked_head closed bytes) ≡ (let r : Reading = record { marks = []; finish = whole trailers n } in r) → ⊥
unwhole_by asked_head true bytes front.Nothing trailers n is = let no = ap (λ (r : Reading). r.finish) is in cc
unwhole_by asked_head false bytes front.Nothing trailers n is = let no = ap (λ (r : Reading). r.finish) is in cc
unwhole_by asked_head closed bytes front.TooLong trailers n is = let no = ap (λ (r : Reading). r.finish) is in cc
unwhole_by asked_head closed bytes front.BadHead trailers n is = let no = ap (λ (r : Reading). r.finish) is in cc
unwhole_by asked_head closed bytes (front.Stands raw used) trailers n is = unwhole_length raw used (response_length (code_of raw) asked_head raw.pairs) closed _ trailers n is

pub never_whole : (asked_head closed : Bool) (bytes : List ℕ) (trailers : List (List ℕ × List ℕ)) (n : ℕ) →
    response_reading asked_head closed bytes ≡ (let r : Reading = record { marks = []; finish = whole trailers n } in r) → ⊥
never_whole asked_head closed bytes trailers n is = unwhole_by asked_head closed bytes (response_front bytes) trailers n is
