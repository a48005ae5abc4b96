-- Reading up to the head of the final response, part by part.
use Rattle.std.proofs.Common.{◌≡◌, ℕ, ◌+◌, ◌-◌, ◌<◌, ◌≤◌, Bool, true, false, List, [], ◌∷◌, ◌++◌, length, drop, Some, Result, refl, ap, sym, ◌∙◌, subst, arith, append_assoc, length-append, length-drop}
use Rattle.std.proofs.lemmas.List.{append-nil, drop-append-le, drop-drop, map-append}
use Rattle.std.proofs.Math.Seq.{drop-append_seam}
use Rattle.px_head.specs.Front.{response_front}
use Rattle.px_head.specs.declared.raw.RawHead.{RawHead}
use Rattle.px_head.specs.declared.front.Front.{Front}
use Rattle.px_head.specs.declared.front.Front.TheVariants as front
use Rattle.px_head.specs.declared.front.Kind.TheVariants as kind
use Rattle.px_head.proofs.FrontLemmas.{front-stays, used-within}
use Rattle.px_message.specs.declared.fault.Fault.{Fault}
use Rattle.px_message.specs.declared.length.Length.{Length}
use Rattle.px_event.specs.declared.command.Command.{Command}
use Rattle.px_read.specs.Chunks.{Finish, goes_on, whole, fails, Reading}
use Rattle.px_read.specs.Heads.{is_interim, response_head}
use Rattle.px_read.specs.Items.{Body, missing, item_behind, body_of, response_told, response_item, Answers, behind_interim, answer_list}
use Rattle.px_read.specs.Laws.{head_in}
use Rattle.px_read.specs.Marks.{Mark, answers, marks_of}
use Rattle.px_read.specs.Readings.{only, behind_bytes, as_response, response_body, response_behind, response_reading}
use Rattle.px_read.specs.Reader.{Message, MessagePlace, at_head, in_counted, in_chunks, up_to_close, behind_end, refused, request, response, reading_of, State, reading_from, to_come, behind_marks, before_all, Reads, IsNext, HasStopped}
use Rattle.px_read.specs.declared.head.ResponseHead.{ResponseHead}
use Rattle.px_read.specs.declared.part.Part.{Part}
use Rattle.px_read.specs.declared.part.Part.TheVariants as given
use Rattle.px_stream.specs.declared.link.Link.{Link}
use Rattle.px_stream.specs.declared.reading.FinalHead.{FinalHead}
use Rattle.px_stream.specs.declared.reading.FinalHead.TheVariants as answer
use Rattle.px_stream.specs.declared.reading.Came.TheVariants as came
use Rattle.px_exchange.specs.Texts.{sends_on, interim_command}
use Rattle.px_stream.specs.Responses.{came_by, came_of, fresh, GaveOne, NextBegun, IsKept, AnswerCome, ReadsAnswer}
use Rattle.px_stream.specs.Stands.{IsQuiet, Passes, ReadsLink}
use Rattle.px_stream.proofs.AnswerLemmas.{here, OfResponse, of_response, StandsThere, stands_there, final_here, nothing_here, interim_length, list_behind}
use Rattle.px_exchange.proofs.BodyLemmas.{come}
use Rattle.px_stream.proofs.ReadLemmas.{OfRequest, of_request}
use Rattle.px_stream.proofs.PassLemmas.{final_behind, interim_behind}
use Rattle.px_stream.proofs.QuietLemmas.{never_whole, still_quiet}

-- on the way from one state to another these interim responses were sent on
pub record SentOn (sends : Bool) (asked_head : Bool) (number : ℕ) (bytes : List ℕ) (shut : Bool) (sent : List ResponseHead) (new : Link) (out longer : List Command) : Type 0 where
  pub more : List ResponseHead
  pub grown : longer ≡ out ++ sends_on sends more
  pub keeps : ReadsLink asked_head number bytes shut (sent ++ more) [] new

abbrev pub SendsOn : Bool → Link → List Command → Link → List Command → Type 0
SendsOn sends old out new longer = (asked_head : Bool) (number : ℕ) (bytes : List ℕ) (shut : Bool) (sent : List ResponseHead) → ReadsLink asked_head number bytes shut sent [] old →
    SentOn sends asked_head number bytes shut sent new out longer

-- what is left to read: a response that has begun counts one more
abbrev pub begun : MessagePlace → ℕ
begun (at_head message) = 0
begun _ = 1

abbrev pub left_of : Link → ℕ
left_of kept = length kept.responses.rest + begun kept.responses.place

head_behind : (head : ResponseHead) (body : Body) (f : Finish) → head_in (item_behind head body f) ≡ Some head
head_behind head body goes_on = refl
head_behind head body (whole trailers used) = refl
head_behind head body (fails fault) = refl

module _ (asked_head : Bool) (number : ℕ) (bytes : List ℕ) (shut : Bool) (sent : List ResponseHead) where
  -- ---- what there is of the final response

  -- its reader has given these marks more
  gave : (got : Part) (kept : Link) (new : State) → (keeps : ReadsLink asked_head number bytes shut sent [] kept) → GaveOne got kept.responses new →
      ReadsLink asked_head number bytes shut sent (marks_of got) (record kept { responses = new })
  gave got kept new keeps gives = record {
    server = keeps.server;
    is_asked = keeps.is_asked;
    closed = keeps.closed;
    fed = keeps.fed;
    passes = keeps.passes;
    reads = gives (response asked_head) [] keeps.fed shut keeps.reads;
  }

  -- where no interim response stands behind those that were sent on
  final_is : (kept : Link) (keeps : ReadsLink asked_head number bytes shut sent [] kept) → answer_list asked_head shut keeps.fed ≡ here asked_head shut keeps.fed →
      ((answer_list asked_head shut bytes).final ≡ response_item asked_head shut keeps.fed) × ((answer_list asked_head shut bytes).interim ≡ sent)
  final_is kept keeps is = (
    final_behind asked_head shut bytes keeps.fed sent keeps.passes ∙ ap (λ (a : Answers). a.final) is,
    interim_behind asked_head shut bytes keeps.fed sent keeps.passes ∙ (ap (λ (a : Answers). sent ++ a.interim) is ∙ append-nil sent),
  )

  nothing_is : (kept : Link) (keeps : ReadsLink asked_head number bytes shut sent [] kept) (finish : Finish) → to_come kept.responses ≡ only finish →
      ((answer_list asked_head shut bytes).final ≡ response_told [] (behind_bytes (length keeps.reads.used) finish)) × ((answer_list asked_head shut bytes).interim ≡ sent)
  nothing_is kept keeps finish is =
      let reading : response_reading asked_head shut keeps.fed ≡ behind_marks [] (length keeps.reads.used) (only finish) =
      come (response asked_head) [] keeps.fed shut kept.responses keeps.reads ∙ ap (λ r. behind_marks [] (length keeps.reads.used) r) is in
      let both = final_is kept keeps (nothing_here asked_head shut keeps.fed (ap (λ (r : Reading). r.marks) reading)) in
      (both.0 ∙ ap (λ (r : Reading). response_told r.marks r.finish) reading, both.1)

  head_is : (head : ResponseHead) (kept : Link) (new : State) → ReadsLink asked_head number bytes shut sent [] kept → IsNext (given.Response head) (to_come kept.responses) →
      GaveOne (given.Response head) kept.responses new → is_interim head ≡ false → AnswerCome (answer.Head head) asked_head number bytes shut sent (record kept { responses = new })
  head_is head kept new keeps (some, (rest, is)) gives final =
      let reading = come (response asked_head) [] keeps.fed shut kept.responses keeps.reads in
      let told : (response_reading asked_head shut keeps.fed).marks ≡ answers head ∷ rest = ap (λ (r : Reading). r.marks) reading ∙ is in
      let stands = stands_there asked_head shut keeps.fed head rest told in
      let both = final_is kept keeps (final_here asked_head shut keeps.fed head stands final) in
      let P : List Mark → Type 0 = λ l. head_in (response_told l (response_reading asked_head shut keeps.fed).finish) ≡ Some head in
      let item : head_in (response_item asked_head shut keeps.fed) ≡ Some head = subst P (sym told) (head_behind head (body_of rest) (response_reading asked_head shut keeps.fed).finish) in
      (gave (given.Response head) kept new keeps gives, ap head_in both.0 ∙ item, final, both.1)

  by_interim : (b : Bool) (head : ResponseHead) (kept : Link) (new : State) (got : FinalHead) → is_interim head ≡ b → ReadsLink asked_head number bytes shut sent [] kept → IsNext (given.Response head) (to_come kept.responses) →
      GaveOne (given.Response head) kept.responses new → came_by b head ≡ came.Final got → AnswerCome got asked_head number bytes shut sent (record kept { responses = new })
  by_interim true head kept new got is keeps next gives same = absurd (let e : came.Interim head ≡ came.Final got = same in cc)
  by_interim false head kept new got is keeps next gives same =
      let e : answer.Head head ≡ got = (let f : came.Final (answer.Head head) ≡ came.Final got = same in cc) in
      let P : FinalHead → Type 0 = λ a. AnswerCome a asked_head number bytes shut sent (record kept { responses = new }) in
      subst P e (head_is head kept new keeps next gives is)

  shape : (kept : Link) (keeps : ReadsLink asked_head number bytes shut sent [] kept) → OfResponse (to_come kept.responses).marks
  shape kept keeps =
      let P : Reading → Type 0 = λ r. OfResponse r.marks in
      subst P (come (response asked_head) [] keeps.fed shut kept.responses keeps.reads) (of_response asked_head shut keeps.fed)

  missing_is : (kept : Link) (new : State) (got : FinalHead) → answer.Missing ≡ got → ReadsLink asked_head number bytes shut sent [] (record kept { responses = new }) →
      ((answer_list asked_head shut bytes).final ≡ missing) × ((answer_list asked_head shut bytes).interim ≡ sent) → IsQuiet new →
      AnswerCome got asked_head number bytes shut sent (record kept { responses = new })
  missing_is kept new got same keeps both quiet =
      let P : FinalHead → Type 0 = λ a. AnswerCome a asked_head number bytes shut sent (record kept { responses = new }) in
      subst P same (keeps, both.0, both.1, quiet)

  pub final_come : (got : Part) (kept : Link) (new : State) (found : FinalHead) → ReadsLink asked_head number bytes shut sent [] kept → IsNext got (to_come kept.responses) →
      GaveOne got kept.responses new → came_of got ≡ came.Final found → AnswerCome found asked_head number bytes shut sent (record kept { responses = new })
  final_come (given.Response head) kept new found keeps next gives same = by_interim (is_interim head) head kept new found refl keeps next gives same
  final_come (given.Bad fault) kept new found keeps next gives same =
      let e : answer.Bad fault ≡ found = (let f : came.Final (answer.Bad fault) ≡ came.Final found = same in cc) in
      let P : FinalHead → Type 0 = λ a. AnswerCome a asked_head number bytes shut sent (record kept { responses = new }) in
      let both = nothing_is kept keeps (fails fault) next in
      subst P e (gave (given.Bad fault) kept new keeps gives, both.0, both.1)
  final_come given.More kept new found keeps next gives same =
      missing_is kept new found (let f : came.Final answer.Missing ≡ came.Final found = same in cc) (gave given.More kept new keeps gives) (nothing_is kept keeps goes_on next)
      (still_quiet (response asked_head) [] keeps.fed shut kept.responses new keeps.reads next (gives (response asked_head) [] keeps.fed shut keeps.reads))
  final_come (given.End trailers) kept new found keeps (used, next) gives same =
      absurd (never_whole asked_head shut keeps.fed trailers (length keeps.reads.used + used)
      (come (response asked_head) [] keeps.fed shut kept.responses keeps.reads ∙ ap (λ r. behind_marks [] (length keeps.reads.used) r) next))
  final_come (given.Request head) kept new found keeps (some, (rest, is)) gives same = absurd (subst OfResponse is (shape kept keeps))
  final_come (given.ChunkStart size) kept new found keeps (some, (rest, is)) gives same = absurd (subst OfResponse is (shape kept keeps))
  final_come given.ChunkEnd kept new found keeps (some, (rest, is)) gives same = absurd (subst OfResponse is (shape kept keeps))
  final_come (given.Piece []) kept new found keeps (some, (rest, is)) gives same = absurd (omega arith)
  final_come (given.Piece (b ∷ more)) kept new found keeps (some, (rest, is)) gives same = absurd (subst OfResponse is (shape kept keeps))

-- ---- behind an interim response

-- all that is told of an interim response is its head
interim_reading : (asked_head shut : Bool) (fed : List ℕ) (raw : RawHead) (used : ℕ) → response_front fed ≡ front.Stands raw used → is_interim (response_head raw) ≡ true →
    response_reading asked_head shut fed ≡ record { marks = answers (response_head raw) ∷ []; finish = whole [] (used + 0) }
interim_reading asked_head shut fed raw used at is =
    let F : Front → Reading = λ f. as_response shut (response_behind f asked_head shut fed) in
    let B : Result Length Fault → Reading = λ size. as_response shut (response_body raw used size shut (drop used fed)) in
    ap F at ∙ ap B (interim_length raw asked_head is)

reads_all : (message : Message) (fed : List ℕ) (closed : Bool) → Reads message [] fed closed (before_all message fed closed)
reads_all message fed closed = record {
  closed = refl;
  used = [];
  bytes = refl;
  reading = λ more later follows. same_reading (reading_of message later (fed ++ more));
}
  where
    no_bytes_by : (f : Finish) → f ≡ behind_bytes 0 f
    no_bytes_by goes_on = refl
    no_bytes_by (whole trailers used) = (let e : used ≡ 0 + used = omega arith in ap (λ n. whole trailers n) e)
    no_bytes_by (fails fault) = refl

    same_reading : (r : Reading) → r ≡ behind_marks [] 0 r
    same_reading r = ap (λ f. let s : Reading = record { marks = r.marks; finish = f } in s) (no_bytes_by r.finish)

no_marks : (marks more : List Mark) → marks ≡ [] → 0 < length more → (rest : List Mark) → marks ≡ more ++ rest → ⊥
no_marks marks more none some rest is = let e = ap length (sym none ∙ is) in let l = length-append more rest in omega arith

-- the part behind the head of an interim response is its end
ends_at : (got : Part) (reading : Reading) (n size : ℕ) (new : State) → reading.marks ≡ [] → whole [] size ≡ behind_bytes n reading.finish → IsNext got reading → HasStopped got new →
    (trailers : List (List ℕ × List ℕ)) × (new.place ≡ behind_end trailers) × (marks_of got ≡ [])
ends_at (given.End trailers) reading n size new none is next stopped = (trailers, stopped, refl)
ends_at given.More reading n size new none is next stopped =
    absurd (let e : whole [] size ≡ goes_on = is ∙ ap (λ (r : Reading). behind_bytes n r.finish) next in cc)
ends_at (given.Bad fault) reading n size new none is next stopped =
    absurd (let e : whole [] size ≡ fails fault = is ∙ ap (λ (r : Reading). behind_bytes n r.finish) next in cc)
ends_at (given.Response head) reading n size new none is (some, (rest, told)) stopped = absurd (no_marks reading.marks (marks_of (given.Response head)) none some rest told)
ends_at (given.Request head) reading n size new none is (some, (rest, told)) stopped = absurd (no_marks reading.marks (marks_of (given.Request head)) none some rest told)
ends_at (given.Piece bytes) reading n size new none is (some, (rest, told)) stopped = absurd (no_marks reading.marks (marks_of (given.Piece bytes)) none some rest told)
ends_at (given.ChunkStart size') reading n size new none is (some, (rest, told)) stopped = absurd (no_marks reading.marks (marks_of (given.ChunkStart size')) none some rest told)
ends_at given.ChunkEnd reading n size new none is (some, (rest, told)) stopped = absurd (no_marks reading.marks (marks_of given.ChunkEnd) none some rest told)

tail_of : (m k : Mark) (a b : List Mark) → m ∷ a ≡ k ∷ b → a ≡ b
tail_of m k a b is = cc

whole_size : (s t : List (List ℕ × List ℕ)) (a b : ℕ) → whole s a ≡ whole t b → a ≡ b
whole_size s t a b is = cc

-- what is kept behind an interim response is what stands behind its head
pub record Behind (head : ResponseHead) (fed rest : List ℕ) : Type 0 where
  pub raw : RawHead
  pub used : ℕ
  pub at : response_front fed ≡ front.Stands raw used
  pub same : response_head raw ≡ head
  pub cut : rest ≡ drop used fed

behind_by : (asked_head shut : Bool) (fed : List ℕ) (head : ResponseHead) (stands : StandsThere head fed) (between : State) (trailers : List (List ℕ × List ℕ)) → is_interim head ≡ true →
    Reads (response asked_head) (answers head ∷ []) fed shut between → between.place ≡ behind_end trailers → Behind head fed between.rest
behind_by asked_head shut fed head stands between trailers interim reads place =
    let told = interim_reading asked_head shut fed stands.raw stands.used stands.at (ap is_interim stands.same ∙ interim) in
    let here_is : to_come between ≡ only (whole trailers 0) = ap (λ p. reading_from p between.closed between.rest) place in
    let e : whole [] (stands.used + 0) ≡ whole trailers (length reads.used + 0) =
    ap (λ (r : Reading). r.finish) (sym told ∙ (come (response asked_head) (answers head ∷ []) fed shut between reads ∙ ap (λ r. behind_marks (answers head ∷ []) (length reads.used) r) here_is)) in
    let sizes = whole_size [] trailers _ _ e in
    let count : length reads.used ≡ stands.used = omega arith in
    record {
      raw = stands.raw;
      used = stands.used;
      at = stands.at;
      same = stands.same;
      cut = sym (drop-append_seam reads.used between.rest) ∙ (ap (λ l. drop (length reads.used) l) (sym reads.bytes) ∙ ap (λ n. drop n fed) count);
    }

sum : (a b c : ℕ) → a + (b + c) ≡ (a + b) + c
sum a b c = omega arith

-- the interim response is sent on, and the next one begins
passes_on : (asked_head : Bool) (bytes fed rest : List ℕ) (sent : List ResponseHead) (head : ResponseHead) → is_interim head ≡ true → Behind head fed rest → Passes asked_head bytes fed sent →
    Passes asked_head bytes rest (sent ++ head ∷ [])
passes_on asked_head bytes fed rest sent head interim behind passes =
    let within = used-within kind.Response fed behind.raw behind.used behind.at in
    let list : (closed : Bool) (more : List ℕ) → answer_list asked_head closed (fed ++ more) ≡ behind_interim head behind.used (answer_list asked_head closed (rest ++ more)) =
    λ closed more.
    let later : response_front (fed ++ more) ≡ front.Stands behind.raw behind.used = front-stays kind.Response fed more (λ (e : response_front fed ≡ front.Nothing). let f : front.Stands behind.raw behind.used ≡ front.Nothing = sym behind.at ∙ e in cc) ∙ behind.at in
    list_behind asked_head closed (fed ++ more) behind.raw behind.used later (ap is_interim behind.same ∙ interim)
    ∙ (ap (λ h. behind_interim h behind.used (answer_list asked_head closed (drop behind.used (fed ++ more)))) behind.same
    ∙ ap (λ l. behind_interim head behind.used (answer_list asked_head closed l)) (drop-append-le behind.used fed more within.1 ∙ ap (λ l. l ++ more) (sym behind.cut))) in
    let left : length fed ≡ length bytes - passes.used = ap length passes.behind ∙ length-drop passes.used bytes in
    let some = within.1 in
    let all = passes.within in
    record {
      used = passes.used + behind.used;
      within = omega arith;
      behind = behind.cut ∙ (ap (drop behind.used) passes.behind ∙ drop-drop behind.used passes.used bytes);
      counts = λ closed more. passes.counts closed more ∙ (ap (λ (a : Answers). passes.used + a.used) (list closed more)
          ∙ sum passes.used behind.used (answer_list asked_head closed (rest ++ more)).used);
      interim = λ closed more. passes.interim closed more ∙ (ap (λ (a : Answers). sent ++ a.interim) (list closed more)
          ∙ sym (append_assoc sent (head ∷ []) (answer_list asked_head closed (rest ++ more)).interim));
      final = λ closed more. passes.final closed more ∙ ap (λ (a : Answers). a.final) (list closed more);
    }

module _ (asked_head : Bool) (number : ℕ) (bytes : List ℕ) (shut : Bool) (sent : List ResponseHead) (head : ResponseHead) (kept kept' : Link) (new : State)
    (keeps : ReadsLink asked_head number bytes shut sent [] kept) (next : IsNext (given.Response head) (to_come kept.responses)) (gives : GaveOne (given.Response head) kept.responses new)
    (interim : is_interim head ≡ true) (begins_next : NextBegun (record kept { responses = new }) kept') where
  told_head : (response_reading asked_head shut keeps.fed).marks ≡ answers head ∷ next.1.0
  told_head = ap (λ (r : Reading). r.marks) (come (response asked_head) [] keeps.fed shut kept.responses keeps.reads) ∙ next.1.1

  stands_now : StandsThere head keeps.fed
  stands_now = stands_there asked_head shut keeps.fed head next.1.0 told_head

  told_now : response_reading asked_head shut keeps.fed ≡ record { marks = answers (response_head stands_now.raw) ∷ []; finish = whole [] (stands_now.used + 0) }
  told_now = interim_reading asked_head shut keeps.fed stands_now.raw stands_now.used stands_now.at (ap is_interim stands_now.same ∙ interim)

  reads_head : Reads (response asked_head) (answers head ∷ []) keeps.fed shut new
  reads_head = gives (response asked_head) [] keeps.fed shut keeps.reads

  come_head : (let r : Reading = record { marks = answers (response_head stands_now.raw) ∷ []; finish = whole [] (stands_now.used + 0) } in r)
      ≡ behind_marks (answers head ∷ []) (length reads_head.used) (to_come new)
  come_head = sym told_now ∙ come (response asked_head) (answers head ∷ []) keeps.fed shut new reads_head

  end_now : (trailers : List (List ℕ × List ℕ)) × (begins_next.between.place ≡ behind_end trailers) × (marks_of begins_next.got ≡ [])
  end_now = ends_at begins_next.got (to_come new) (length reads_head.used) (stands_now.used + 0) begins_next.between
      (sym (tail_of _ _ _ _ (ap (λ (r : Reading). r.marks) come_head))) (ap (λ (r : Reading). r.finish) come_head) begins_next.next begins_next.stopped

  reads_end : Reads (response asked_head) (answers head ∷ []) keeps.fed shut begins_next.between
  reads_end =
      let P : List Mark → Type 0 = λ l. Reads (response asked_head) ((answers head ∷ []) ++ l) keeps.fed shut begins_next.between in
      subst P end_now.2 (begins_next.gives (response asked_head) (answers head ∷ []) keeps.fed shut reads_head)

  behind_now : Behind head keeps.fed begins_next.between.rest
  behind_now = behind_by asked_head shut keeps.fed head stands_now begins_next.between end_now.0 interim reads_end end_now.1

  -- its state is that of a side on which one interim response more was sent on
  pub next_keeps : ReadsLink asked_head number bytes shut (sent ++ head ∷ []) [] kept'
  next_keeps =
      let rest : List ℕ = begins_next.between.rest in
      let P : Bool → Bool → Type 0 = λ a c. Reads (response asked_head) [] rest shut (fresh a rest c) in
      let Q : Bool → Type 0 = λ a. P a shut in
      let R : Bool → Type 0 = λ c. P kept.asked_head c in
      let K : Link → Type 0 = λ k. ReadsLink asked_head number bytes shut (sent ++ head ∷ []) [] k in
      subst K (sym begins_next.same) (record {
        server = keeps.server;
        is_asked = keeps.is_asked;
        closed = keeps.closed;
        fed = rest;
        passes = passes_on asked_head bytes keeps.fed rest sent head interim behind_now keeps.passes;
        reads = subst R (sym keeps.closed) (subst Q (sym keeps.is_asked) (reads_all (response asked_head) rest shut));
      })

  size_of : (k size : ℕ) (f : Finish) → whole [] size ≡ behind_bytes k f → (trailers : List (List ℕ × List ℕ)) × (j : ℕ) × (f ≡ whole trailers j) × (k + j ≡ size)
  size_of k size goes_on is = absurd (let e : whole [] size ≡ goes_on = is in cc)
  size_of k size (whole trailers j) is = (trailers, j, refl, sym (whole_size [] trailers _ _ is))
  size_of k size (fails fault) is = absurd (let e : whole [] size ≡ fails fault = is in cc)

  -- the head used a byte of what was not read
  head_uses : (message : Message) (closed : Bool) (rest : List ℕ) (reading : Reading) (j : ℕ) (trailers : List (List ℕ × List ℕ)) → reading_of message closed rest ≡ reading →
      reading.marks ≡ answers head ∷ next.1.0 → reading.finish ≡ whole trailers j → 1 ≤ j
  head_uses request closed rest reading j trailers is marks finish =
      absurd (subst OfRequest (ap (λ (r : Reading). r.marks) is ∙ marks) (of_request rest))
  head_uses (response a) closed rest reading j trailers is marks finish =
      let stands = stands_there a closed rest head next.1.0 (ap (λ (r : Reading). r.marks) is ∙ marks) in
      let told = interim_reading a closed rest stands.raw stands.used stands.at (ap is_interim stands.same ∙ interim) in
      let e : whole [] (stands.used + 0) ≡ whole trailers j = ap (λ (r : Reading). r.finish) (sym told ∙ is) ∙ finish in
      let sizes = whole_size [] trailers _ _ e in
      let within = used-within kind.Response rest stands.raw stands.used stands.at in
      let some = within.0 in omega arith

  left_by : (place : MessagePlace) (reading : Reading) (j : ℕ) (trailers : List (List ℕ × List ℕ)) → reading_from place kept.responses.closed kept.responses.rest ≡ reading →
      reading.marks ≡ answers head ∷ next.1.0 → reading.finish ≡ whole trailers j → 1 ≤ j + begun place
  left_by (at_head message) reading j trailers is marks finish =
      let some = head_uses message kept.responses.closed kept.responses.rest reading j trailers is marks finish in omega arith
  left_by (in_counted side left) reading j trailers is marks finish = omega arith
  left_by (in_chunks side place) reading j trailers is marks finish = omega arith
  left_by (up_to_close side) reading j trailers is marks finish = omega arith
  left_by (behind_end other) reading j trailers is marks finish = omega arith
  left_by (refused fault) reading j trailers is marks finish = omega arith

  pub next_left : left_of kept' < left_of kept
  next_left =
      let all = come (response asked_head) [] keeps.fed shut kept.responses keeps.reads in
      let size = size_of (length keeps.reads.used) (stands_now.used + 0) (to_come kept.responses).finish (ap (λ (r : Reading). r.finish) (sym told_now ∙ all)) in
      let some = left_by kept.responses.place (to_come kept.responses) size.1 size.0 refl next.1.1 size.2 in
      let sum = size.3 in
      let fed = ap length keeps.reads.bytes in
      let joined = length-append keeps.reads.used kept.responses.rest in
      let within = used-within kind.Response keeps.fed stands_now.raw stands_now.used stands_now.at in
      let most = within.1 in
      let cut : length begins_next.between.rest ≡ length (drop behind_now.used keeps.fed) = ap length behind_now.cut in
      let dropped = length-drop behind_now.used keeps.fed in
      let one_front : front.Stands behind_now.raw behind_now.used ≡ front.Stands stands_now.raw stands_now.used = sym behind_now.at ∙ stands_now.at in
      let same_used : behind_now.used ≡ stands_now.used = cc in
      let now : left_of kept' ≡ length begins_next.between.rest + 0 = ap left_of begins_next.same in
      omega arith

-- ---- what was sent on

pub sends_none : (sends : Bool) → sends_on sends [] ≡ []
sends_none true = refl
sends_none false = refl

pub sends_append : (sends : Bool) (heads more : List ResponseHead) → sends_on sends (heads ++ more) ≡ sends_on sends heads ++ sends_on sends more
sends_append true heads more = map-append interim_command heads more
sends_append false heads more = refl

pub sent_nothing : (sends : Bool) (kept : Link) (out : List Command) → SendsOn sends kept out kept out
sent_nothing sends kept out = λ asked_head number bytes shut sent keeps. record {
  more = [];
  grown = sym (ap (λ l. out ++ l) (sends_none sends) ∙ append-nil out);
  keeps = let P : List ResponseHead → Type 0 = λ l. ReadsLink asked_head number bytes shut l [] kept in subst P (sym (append-nil sent)) keeps;
}

pub sent_more : (sends : Bool) (old kept kept' : Link) (out longer longest : List Command) (head : ResponseHead) (new : State) → SendsOn sends old out kept longer →
    IsNext (given.Response head) (to_come kept.responses) → GaveOne (given.Response head) kept.responses new → is_interim head ≡ true → NextBegun (record kept { responses = new }) kept' →
    longest ≡ longer ++ sends_on sends (head ∷ []) → SendsOn sends old out kept' longest
sent_more sends old kept kept' out longer longest head new so_far next gives interim begins_next grown = λ asked_head number bytes shut sent keeps.
    let so = so_far asked_head number bytes shut sent keeps in
    let P : List ResponseHead → Type 0 = λ l. ReadsLink asked_head number bytes shut l [] kept' in
    record {
      more = so.more ++ head ∷ [];
      grown = grown ∙ (ap (λ l. l ++ sends_on sends (head ∷ [])) so.grown
          ∙ (append_assoc out (sends_on sends so.more) (sends_on sends (head ∷ [])) ∙ ap (λ l. out ++ l) (sym (sends_append sends so.more (head ∷ [])))));
      keeps = subst P (append_assoc sent so.more (head ∷ []))
          (next_keeps asked_head number bytes shut (sent ++ so.more) head kept kept' new so.keeps next gives interim begins_next);
    }

pub less_left : (sends : Bool) (old kept kept' : Link) (out longer : List Command) (head : ResponseHead) (new : State) → IsKept old → SendsOn sends old out kept longer →
    IsNext (given.Response head) (to_come kept.responses) → GaveOne (given.Response head) kept.responses new → is_interim head ≡ true → NextBegun (record kept { responses = new }) kept' →
    left_of kept' < left_of kept
less_left sends old kept kept' out longer head new is so_far next gives interim begins_next =
    let so = so_far is.asked_head is.number is.bytes is.shut is.sent is.keeps in
    next_left is.asked_head is.number is.bytes is.shut (is.sent ++ so.more) head kept kept' new so.keeps next gives interim begins_next

pub read_answer_come : (sends : Bool) (old kept : Link) (out longer : List Command) (got : Part) (new : State) (found : FinalHead) → SendsOn sends old out kept longer →
    IsNext got (to_come kept.responses) → GaveOne got kept.responses new → came_of got ≡ came.Final found → ReadsAnswer found sends old out (record kept { responses = new }) longer
read_answer_come sends old kept out longer got new found so_far next gives same = λ asked_head number bytes shut sent keeps.
    let so = so_far asked_head number bytes shut sent keeps in
    record {
      more = so.more;
      grown = so.grown;
      come = final_come asked_head number bytes shut (sent ++ so.more) got kept new found so.keeps next gives same;
    }

-- a part that is an interim response is its head
pub interim_part : (got : Part) (head : ResponseHead) → came_of got ≡ came.Interim head → (got ≡ given.Response head) × (is_interim head ≡ true)
interim_part (given.Response own) head is = by (is_interim own) refl is
  where
    by : (b : Bool) → is_interim own ≡ b → came_by b own ≡ came.Interim head → (given.Response own ≡ given.Response head) × (is_interim head ≡ true)
    by true own_is same = (let e : own ≡ head = (let f : came.Interim own ≡ came.Interim head = same in cc) in (ap given.Response e, ap is_interim (sym e) ∙ own_is))
    by false own_is same = absurd (let e : came.Final (answer.Head own) ≡ came.Interim head = same in cc)
interim_part given.More head is = absurd (let e : came.Final answer.Missing ≡ came.Interim head = is in cc)
interim_part (given.End trailers) head is = absurd (let e : came.Final answer.Missing ≡ came.Interim head = is in cc)
interim_part (given.Bad fault) head is = absurd (let e : came.Final (answer.Bad fault) ≡ came.Interim head = is in cc)
interim_part (given.Request own) head is = absurd (let e : came.Final answer.Missing ≡ came.Interim head = is in cc)
interim_part (given.Piece bytes) head is = absurd (let e : came.Final answer.Missing ≡ came.Interim head = is in cc)
interim_part (given.ChunkStart size) head is = absurd (let e : came.Final answer.Missing ≡ came.Interim head = is in cc)
interim_part given.ChunkEnd head is = absurd (let e : came.Final answer.Missing ≡ came.Interim head = is in cc)
