-- What a reader gave more of a request that goes up: its text as far as it came, and how it stands.
use Rattle.std.proofs.Common.{◌≡◌, ℕ, ◌≤◌, false, List, [], ◌∷◌, ◌++◌, length, drop, Some, None, refl, ap, sym, ◌∙◌, append_assoc, length-append, arith}
use Rattle.std.proofs.lemmas.List.{append-nil, drop-append-le}
use Rattle.px_message.specs.declared.fault.Fault.{Fault}
use Rattle.px_message.specs.declared.flow.Flow.{Flow}
use Rattle.px_message.specs.declared.request.Request.{Request}
use Rattle.px_read.specs.Chunks.{Finish, goes_on, whole, fails}
use Rattle.px_read.specs.Marks.{Mark, asks}
use Rattle.px_read.specs.Readings.{behind_bytes, request_reading}
use Rattle.px_read.specs.Reader.{State, Reads, request, to_come}
use Rattle.px_read.specs.declared.head.RequestHead.{RequestHead as ReadRequest}
use Rattle.px_write.specs.Text.{request_head_text}
use Rattle.px_exchange.specs.declared.body.Progress.{Progress}
use Rattle.px_exchange.specs.declared.body.Progress.TheVariants as progress
use Rattle.px_exchange.specs.declared.terms.Terms.{Terms}
use Rattle.px_exchange.specs.Bodies.{HasCome}
use Rattle.px_exchange.proofs.BodyLemmas.{come}
use Rattle.px_exchange.specs.Places.{form_at}
use Rattle.px_parts.proofs.TextLemmas.{marks_both}
use Rattle.px_parts.specs.Texts.{end_text, last_text, left_of, marks_text}
use Rattle.px_chain.specs.Chain.{gone_by}
use Rattle.px_chain.specs.Going.{framed_up, going_text, whole_in}
use Rattle.px_chain.specs.Sights.{Sight, left_by, request_in}
use Rattle.px_stream.specs.Comings.{GoesOver}
use Rattle.px_stream.specs.Goings.{up_text}
use Rattle.px_stream.specs.Stands.{Keeps, ReadsGoing, ReadsUp}
use Rattle.px_stream.proofs.CameLemmas.{none_left, read_as}
use Rattle.px_stream.proofs.KeptLemmas.{behind_whole}
use Rattle.px_stream.proofs.ReadUpLemmas.{going_is, item_is, whole_is}

-- How it stands by that: this was sent before, and this text is sent now, up to its end. It goes up on, or it is whole: the rest of its text is owed, and the
-- reader keeps what follows it.
abbrev pub UpTo : Progress → Terms → Flow → Sight → (goes : Request) → (was text : List ℕ) → State → Type 0
UpTo (progress.Whole trailers) terms flow seen goes was text new =
    (size : ℕ) × (whole_in seen ≡ Some size) × (left_of seen.told (going_text terms.place flow seen) ≡ was ++ (text ++ last_text goes.fields trailers)) × Keeps (left_by (request_in seen) seen.client) new
UpTo got terms flow seen goes was text new = (whole_in seen ≡ None) × ReadsUp terms flow seen goes (was ++ text) new × ((to_come new).marks ≡ [])

pub some_same : {A : Type 0} (x y : A) → Some x ≡ Some y → x ≡ y
some_same x y is = cc

module _ (terms : Terms) (flow : Flow) (seen : Sight) (goes : Request) (was : List ℕ) (old new : State) (up : ReadsUp terms flow seen goes was old) (text : List ℕ) where
  abbrev head : ReadRequest
  head = up.going_on.head

  abbrev first : List ℕ
  first = up_text terms.place (Some goes) up.marks

  goes_same : goes ≡ framed_up head flow.request
  goes_same = some_same goes (framed_up head flow.request) up.going_on.sent_as

  module _ (got : Progress) (read : GoesOver got old [] new text) where
    abbrev more : List Mark
    more = read.held.over.marks

    reads_all : Reads request (asks head ∷ (up.marks ++ more)) seen.client false new
    reads_all = read.held.over.reads request (asks head ∷ up.marks) seen.client false up.going_on.reads

    pub has_come : HasCome got (request_reading seen.client) (asks head ∷ (up.marks ++ more)) seen.client new
    has_come = read.held.come request (asks head ∷ up.marks) seen.client false up.going_on.reads

    -- nothing is left to read
    pub none_to_come : (to_come new).marks ≡ []
    none_to_come = none_left got request (asks head ∷ (up.marks ++ more)) seen.client false new reads_all has_come

    text_all : up_text terms.place (Some goes) (up.marks ++ more) ≡ first ++ text
    text_all =
        ap (λ l. request_head_text goes (form_at terms.place) ++ l) (marks_both up.marks more ∙ ap (λ l. marks_text up.marks ++ l) (sym read.held.over.says))
        ∙ sym (append_assoc (request_head_text goes (form_at terms.place)) (marks_text up.marks) text)

    within_all : seen.told ≤ length (up_text terms.place (Some goes) (up.marks ++ more))
    within_all = let same = ap length text_all in let sizes = length-append first text in let some = up.within in omega arith

    left_all : left_of seen.told (up_text terms.place (Some goes) (up.marks ++ more)) ≡ was ++ text
    left_all = ap (λ l. drop seen.told l) text_all ∙ (drop-append-le seen.told first text up.within ∙ ap (λ l. l ++ text) (sym up.is_text))

    -- it goes up on, and this was sent of it
    pub goes_on_up : ReadsUp terms flow seen goes (was ++ text) new
    goes_on_up = record {
      marks = up.marks ++ more;
      going_on = record { head = head; sent_as = up.going_on.sent_as; reads = reads_all };
      within = within_all;
      is_text = sym left_all;
    }

    going_by_end : (finish : Finish) → request_reading seen.client ≡ record { marks = asks head ∷ (up.marks ++ more); finish = finish } →
        going_text terms.place flow seen ≡ up_text terms.place (Some goes) (up.marks ++ more) ++ end_text goes.fields finish
    going_by_end finish is =
        going_is seen head (up.marks ++ more) finish is terms.place flow
        ∙ (ap (λ (g : Request). request_head_text g (form_at terms.place) ++ (marks_text (up.marks ++ more) ++ end_text g.fields finish)) (sym goes_same)
        ∙ sym (append_assoc (request_head_text goes (form_at terms.place)) (marks_text (up.marks ++ more)) (end_text goes.fields finish)))

    pub left_by_end : (finish : Finish) → request_reading seen.client ≡ record { marks = asks head ∷ (up.marks ++ more); finish = finish } →
        left_of seen.told (going_text terms.place flow seen) ≡ was ++ (text ++ end_text goes.fields finish)
    left_by_end finish is =
        let last : List ℕ = end_text goes.fields finish in
        ap (λ l. drop seen.told l) (going_by_end finish is)
        ∙ (drop-append-le seen.told (up_text terms.place (Some goes) (up.marks ++ more)) last within_all
        ∙ (ap (λ l. l ++ last) left_all ∙ append_assoc was text last))

  -- it is not whole
  pub not_whole-missing : (read : GoesOver progress.Missing old [] new text) → whole_in seen ≡ None
  not_whole-missing read = whole_is seen head (up.marks ++ read.held.over.marks) goes_on (has_come progress.Missing read)

  pub not_whole-bad : (fault : Fault) (read : GoesOver (progress.Bad fault) old [] new text) → whole_in seen ≡ None
  not_whole-bad fault read = whole_is seen head (up.marks ++ read.held.over.marks) (fails fault) (has_come (progress.Bad fault) read)

  -- or it is: the rest of its text is owed, and the reader keeps what follows it
  module _ (trailers : List (List ℕ × List ℕ)) (read : GoesOver (progress.Whole trailers) old [] new text) where
    pub is_whole : whole_in seen ≡ Some (has_come (progress.Whole trailers) read).0
    is_whole = let has = has_come (progress.Whole trailers) read in whole_is seen head (up.marks ++ read.held.over.marks) (whole trailers has.0) has.1

    pub whole_left : left_of seen.told (going_text terms.place flow seen) ≡ was ++ (text ++ last_text goes.fields trailers)
    whole_left = let has = has_come (progress.Whole trailers) read in left_by_end (progress.Whole trailers) read (whole trailers has.0) has.1

    pub keeps_rest : Keeps (left_by (request_in seen) seen.client) new
    keeps_rest =
        let has = has_come (progress.Whole trailers) read in
        let item = item_is seen head (up.marks ++ read.held.over.marks) (whole trailers has.0) has.1 in record {
          rest = has.2 ∙ ap (λ i. left_by i seen.client) (sym item);
          open_still = (reads_all (progress.Whole trailers) read).closed;
          behind = behind_whole request (asks head ∷ (up.marks ++ read.held.over.marks)) seen.client false new trailers (reads_all (progress.Whole trailers) read) has.4;
        }

-- So it stands.
pub up_to : (got : Progress) (terms : Terms) (flow : Flow) (seen : Sight) (goes : Request) (was : List ℕ) (old new : State) (up : ReadsUp terms flow seen goes was old) (text : List ℕ) → GoesOver got old [] new text →
    UpTo got terms flow seen goes was text new
up_to progress.Missing terms flow seen goes was old new up text read = (
  not_whole-missing terms flow seen goes was old new up text read,
  goes_on_up terms flow seen goes was old new up text progress.Missing read,
  none_to_come terms flow seen goes was old new up text progress.Missing read,
)
up_to (progress.Bad fault) terms flow seen goes was old new up text read = (
  not_whole-bad terms flow seen goes was old new up text fault read,
  goes_on_up terms flow seen goes was old new up text (progress.Bad fault) read,
  none_to_come terms flow seen goes was old new up text (progress.Bad fault) read,
)
up_to (progress.Whole trailers) terms flow seen goes was old new up text read = (
  (has_come terms flow seen goes was old new up text (progress.Whole trailers) read).0,
  is_whole terms flow seen goes was old new up text trailers read,
  whole_left terms flow seen goes was old new up text trailers read,
  keeps_rest terms flow seen goes was old new up text trailers read,
)

-- ---- where its reader has no more to give, and it is not whole, what was sent is what is owed of it

not_whole : (server : ℕ) (seen : Sight) (goes : Request) (head : ReadRequest) (marks : List Mark) (finish : Finish) → request_reading seen.client ≡ read_as (asks head ∷ marks) finish →
    gone_by (Some server) (whole_in seen) ≡ None → end_text goes.fields finish ≡ []
not_whole server seen goes head marks goes_on is none = refl
not_whole server seen goes head marks (whole trailers size) is none =
    absurd (let no : Some server ≡ None = sym (ap (gone_by (Some server)) (whole_is seen head marks (whole trailers size) is)) ∙ none in cc)
not_whole server seen goes head marks (fails fault) is none = refl

pub all_text : (terms : Terms) (flow : Flow) (server : ℕ) (seen : Sight) (goes : Request) (marks : List Mark) (old : State) → ReadsGoing flow seen (Some goes) marks old → (to_come old).marks ≡ [] →
    gone_by (Some server) (whole_in seen) ≡ None → up_text terms.place (Some goes) marks ≡ going_text terms.place flow seen
all_text terms flow server seen goes marks old on none whole_none =
    let head : ReadRequest = on.head in
    let all : List Mark = asks head ∷ marks in
    let last : Finish = behind_bytes (length on.reads.used) (to_come old).finish in
    let is : request_reading seen.client ≡ read_as all last =
    come request all seen.client false old on.reads ∙ ap (λ l. read_as l last) (ap (λ l. all ++ l) none ∙ append-nil all) in
    let same : goes ≡ framed_up head flow.request = some_same goes (framed_up head flow.request) on.sent_as in
    let text : List ℕ = up_text terms.place (Some goes) marks in
    sym (append-nil text)
    ∙ (ap (λ l. text ++ l) (sym (not_whole server seen goes head marks last is whole_none))
    ∙ (append_assoc (request_head_text goes (form_at terms.place)) (marks_text marks) (end_text goes.fields last)
    ∙ (ap (λ (g : Request). request_head_text g (form_at terms.place) ++ (marks_text marks ++ end_text g.fields last)) same
    ∙ sym (going_is seen head marks last is terms.place flow))))

pub all_sent_of : (terms : Terms) (flow : Flow) (server : ℕ) (seen : Sight) (goes : Request) (was : List ℕ) (old : State) → ReadsUp terms flow seen goes was old → (to_come old).marks ≡ [] →
    gone_by (Some server) (whole_in seen) ≡ None → was ≡ left_of seen.told (going_text terms.place flow seen)
all_sent_of terms flow server seen goes was old up none whole_none =
    up.is_text ∙ ap (λ l. drop seen.told l) (all_text terms flow server seen goes up.marks old up.going_on none whole_none)
