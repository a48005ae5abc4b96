-- What was read of a body, as the item that stands there.
use Rattle.std.proofs.Common.{◌≡◌, ℕ, suc, ◌+◌, ◌≤◌, Bool, false, List, [], ◌∷◌, ◌++◌, length, drop, refl, ap, sym, ◌∙◌, arith, length-append}
use Rattle.std.proofs.lemmas.Grind.{flat_map-append}
use Rattle.std.proofs.lemmas.List.{append-nil, drop-drop}
use Rattle.px_read.specs.Chunks.{Reading}
use Rattle.px_read.specs.Heads.{is_interim}
use Rattle.px_read.specs.Items.{Body, part, complete, bad_body, body_of, content_in, request_told, request_item, response_told, Answers, answer_list}
use Rattle.px_read.specs.Marks.{Mark, asks, answers}
use Rattle.px_read.specs.Readings.{response_reading}
use Rattle.px_read.specs.Reader.{Message, request, response, State, Reads, to_come}
use Rattle.px_read.specs.declared.head.RequestHead.{RequestHead as ReadRequest}
use Rattle.px_read.specs.declared.head.ResponseHead.{ResponseHead as ReadResponse}
use Rattle.px_exchange.specs.declared.body.Progress.{Progress}
use Rattle.px_exchange.specs.declared.body.Progress.TheVariants as progress
use Rattle.px_exchange.specs.Bodies.{HasRead, content_of}
use Rattle.px_exchange.proofs.BodyLemmas.{come}
use Rattle.px_stream.specs.declared.link.Link.{Link}
use Rattle.px_stream.specs.Stands.{IsBehind, ReadsLink}
use Rattle.px_stream.proofs.AnswerLemmas.{StandsThere, final_here, stands_there}
use Rattle.px_stream.proofs.KeptLemmas.{behind_whole}
use Rattle.px_stream.proofs.PassLemmas.{final_behind, used_behind}

-- ---- of a request's

-- what was read of it, as the item that stands there
abbrev pub BodyShown : Progress → ReadRequest → List ℕ → State → List ℕ → Type 0
BodyShown progress.Missing head fed new longer =
    (all : List Mark) × (request_item fed ≡ part head (body_of all)) × (longer ≡ content_of all) × Reads request (asks head ∷ all) fed false new
BodyShown (progress.Whole trailers) head fed new longer =
    (body : Body) × (used : ℕ) × (request_item fed ≡ complete head body trailers used) × (longer ≡ body.content) × (new.rest ≡ drop used fed) × (used ≤ length fed) × (new.closed ≡ false)
    × IsBehind new.place
BodyShown (progress.Bad fault) head fed new longer = (body : Body) × (request_item fed ≡ bad_body fault head body)

pub body_shown : (got : Progress) (head : ReadRequest) (marks : List Mark) (fed : List ℕ) (old new : State) (content longer : List ℕ) →
    Reads request (asks head ∷ marks) fed false old → content ≡ content_of marks → HasRead got old content new longer → BodyShown got head fed new longer
body_shown progress.Missing head marks fed old new content longer reads is read =
    let m = read.collects.marks in
    let come = read.come request (asks head ∷ marks) fed false reads in (
      marks ++ m,
      ap (λ (r : Reading). request_told r.marks r.finish) come,
      read.collects.grown ∙ (ap (λ l. l ++ content_of m) is ∙ sym (flat_map-append content_in marks m)),
      read.collects.reads request (asks head ∷ marks) fed false reads,
    )
body_shown (progress.Whole trailers) head marks fed old new content longer reads is read =
    let m = read.collects.marks in
    let come = read.come request (asks head ∷ marks) fed false reads in
    let after = read.collects.reads request (asks head ∷ marks) fed false reads in (
      body_of (marks ++ m),
      come.0,
      ap (λ (r : Reading). request_told r.marks r.finish) come.1,
      read.collects.grown ∙ (ap (λ l. l ++ content_of m) is ∙ sym (flat_map-append content_in marks m)),
      come.2,
      come.3,
      after.closed,
      behind_whole request (asks head ∷ (marks ++ m)) fed false new trailers after come.4,
    )
body_shown (progress.Bad fault) head marks fed old new content longer reads is read =
    let m = read.collects.marks in
    let come = read.come request (asks head ∷ marks) fed false reads in
    (body_of (marks ++ m), ap (λ (r : Reading). request_told r.marks r.finish) come)

-- ---- of a response's

no_length : (l : List Mark) → length l ≡ 0 → l ≡ []
no_length [] is = refl
no_length (x ∷ l) is = absurd (let e : suc (length l) ≡ 0 = is in omega arith)

-- Where nothing was to come, no mark was given.
pub no_more_read : (message : Message) (told more : List Mark) (fed : List ℕ) (closed : Bool) (old new : State) → Reads message told fed closed old → Reads message (told ++ more) fed closed new →
    (to_come old).marks ≡ [] → more ≡ []
no_more_read message told more fed closed old new before after none =
    let one : told ++ (to_come old).marks ≡ (told ++ more) ++ (to_come new).marks =
    ap (λ (r : Reading). r.marks) (sym (come message told fed closed old before) ∙ come message (told ++ more) fed closed new after) in
    let sizes = ap length one in
    let left = length-append told (to_come old).marks in
    let right = length-append (told ++ more) (to_come new).marks in
    let inner = length-append told more in
    let nothing : length (to_come old).marks ≡ 0 = ap length none in
    no_length more (omega arith)

-- where nothing was to come, what was read before is all
pub body_same : (head : ReadRequest) (marks : List Mark) (fed : List ℕ) (old new : State) (content longer : List ℕ) (reads : Reads request (asks head ∷ marks) fed false old) (is : content ≡ content_of marks)
    (read : HasRead progress.Missing old content new longer) → (to_come old).marks ≡ [] → (body_shown progress.Missing head marks fed old new content longer reads is read).0 ≡ marks
unfolding body_shown
body_same head marks fed old new content longer reads is read none =
    let m = read.collects.marks in
    let given : m ≡ [] = no_more_read request (asks head ∷ marks) m fed false old new reads (read.collects.reads request (asks head ∷ marks) fed false reads) none in
    ap (λ l. marks ++ l) given ∙ append-nil marks

none_behind : (n m : ℕ) → m ≡ 0 → n + m ≡ n
none_behind n m is = omega arith

module _ (asked_head : Bool) (number : ℕ) (bytes : List ℕ) (shut : Bool) (sent : List ReadResponse) (head : ReadResponse) (final : is_interim head ≡ false) where
  -- what was read of it, as the item that stands there
  abbrev pub ReturnShown : Progress → Link → State → List ℕ → Type 0
  ReturnShown progress.Missing kept new longer =
      (all : List Mark) × ((answer_list asked_head shut bytes).final ≡ part head (body_of all)) × (longer ≡ content_of all)
      × ReadsLink asked_head number bytes shut sent (answers head ∷ all) (record kept { responses = new })
  ReturnShown (progress.Whole trailers) kept new longer =
      (body : Body) × (size : ℕ) × ((answer_list asked_head shut bytes).final ≡ complete head body trailers size) × (longer ≡ body.content)
      × (new.rest ≡ drop ((answer_list asked_head shut bytes).used + size) bytes)
  ReturnShown (progress.Bad fault) kept new longer = (body : Body) × ((answer_list asked_head shut bytes).final ≡ bad_body fault head body)

  item_of : (marks : List Mark) (kept : Link) (keeps : ReadsLink asked_head number bytes shut sent (answers head ∷ marks) kept) (reading : Reading) (more : List Mark) →
      reading.marks ≡ answers head ∷ more →
      response_reading asked_head shut keeps.fed ≡ reading → (answer_list asked_head shut bytes).final ≡ response_told reading.marks reading.finish
  item_of marks kept keeps reading more told is =
      let stands : StandsThere head keeps.fed = stands_there asked_head shut keeps.fed head more (ap (λ (r : Reading). r.marks) is ∙ told) in
      final_behind asked_head shut bytes keeps.fed sent keeps.passes
      ∙ (ap (λ (a : Answers). a.final) (final_here asked_head shut keeps.fed head stands final) ∙ ap (λ (r : Reading). response_told r.marks r.finish) is)

  -- what the reader keeps behind a whole response is what stands behind its bytes
  rest_of : (marks : List Mark) (kept : Link) (keeps : ReadsLink asked_head number bytes shut sent (answers head ∷ marks) kept) (new : State) (size : ℕ) (more : List Mark) →
      (response_reading asked_head shut keeps.fed).marks ≡ answers head ∷ more → new.rest ≡ drop size keeps.fed →
      new.rest ≡ drop ((answer_list asked_head shut bytes).used + size) bytes
  rest_of marks kept keeps new size more told is =
      let stands : StandsThere head keeps.fed = stands_there asked_head shut keeps.fed head more told in
      let none : (answer_list asked_head shut keeps.fed).used ≡ 0 = ap (λ (a : Answers). a.used) (final_here asked_head shut keeps.fed head stands final) in
      let counts : (answer_list asked_head shut bytes).used ≡ keeps.passes.used =
      used_behind asked_head shut bytes keeps.fed sent keeps.passes ∙ none_behind keeps.passes.used (answer_list asked_head shut keeps.fed).used none in
      is ∙ (ap (λ l. drop size l) keeps.passes.behind ∙ (drop-drop size keeps.passes.used bytes ∙ ap (λ n. drop (n + size) bytes) (sym counts)))

  pub return_shown : (got : Progress) (marks : List Mark) (kept : Link) (new : State) (content longer : List ℕ) →
      ReadsLink asked_head number bytes shut sent (answers head ∷ marks) kept → content ≡ content_of marks → HasRead got kept.responses content new longer → ReturnShown got kept new longer
  return_shown progress.Missing marks kept new content longer keeps is read =
      let m = read.collects.marks in
      let come = read.come (response asked_head) (answers head ∷ marks) keeps.fed shut keeps.reads in (
        marks ++ m,
        item_of marks kept keeps _ (marks ++ m) refl come,
        read.collects.grown ∙ (ap (λ l. l ++ content_of m) is ∙ sym (flat_map-append content_in marks m)),
        record {
          server = keeps.server;
          is_asked = keeps.is_asked;
          closed = keeps.closed;
          fed = keeps.fed;
          passes = keeps.passes;
          reads = read.collects.reads (response asked_head) (answers head ∷ marks) keeps.fed shut keeps.reads;
        },
      )
  return_shown (progress.Whole trailers) marks kept new content longer keeps is read =
      let m = read.collects.marks in
      let come = read.come (response asked_head) (answers head ∷ marks) keeps.fed shut keeps.reads in (
        body_of (marks ++ m),
        come.0,
        item_of marks kept keeps _ (marks ++ m) refl come.1,
        read.collects.grown ∙ (ap (λ l. l ++ content_of m) is ∙ sym (flat_map-append content_in marks m)),
        rest_of marks kept keeps new come.0 (marks ++ m) (ap (λ (r : Reading). r.marks) come.1) come.2,
      )
  return_shown (progress.Bad fault) marks kept new content longer keeps is read =
      let m = read.collects.marks in
      let come = read.come (response asked_head) (answers head ∷ marks) keeps.fed shut keeps.reads in
      (body_of (marks ++ m), item_of marks kept keeps _ (marks ++ m) refl come)

  -- where nothing was to come, what was read before is all
  pub shown_same : (marks : List Mark) (kept : Link) (new : State) (content longer : List ℕ) (keeps : ReadsLink asked_head number bytes shut sent (answers head ∷ marks) kept) (is : content ≡ content_of marks)
      (read : HasRead progress.Missing kept.responses content new longer) → (to_come kept.responses).marks ≡ [] → (return_shown progress.Missing marks kept new content longer keeps is read).0 ≡ marks
  unfolding return_shown
  shown_same marks kept new content longer keeps is read none =
      let m = read.collects.marks in
      let given : m ≡ [] =
      no_more_read (response asked_head) (answers head ∷ marks) m keeps.fed shut kept.responses new keeps.reads (read.collects.reads (response asked_head) (answers head ∷ marks) keeps.fed shut keeps.reads) none in
      ap (λ l. marks ++ l) given ∙ append-nil marks
