-- One part more of a request that goes up, where no more was to come and it is not whole: its fault, or nothing.
use Rattle.std.proofs.Common.{◌≡◌, ℕ, ◌<◌, ◌+◌, false, List, [], ◌∷◌, ◌++◌, length, Option, Some, None, ap, sym, ◌∙◌, subst, length-append, arith}
use Rattle.std.proofs.lemmas.List.{append-nil}
use Rattle.px_text.specs.Prefix.{IsPrefixOf}
use Rattle.px_message.specs.declared.fault.Fault.{Fault}
use Rattle.px_message.specs.declared.flow.Flow.{Flow}
use Rattle.px_message.specs.declared.request.Request.{Request}
use Rattle.px_read.specs.Chunks.{Finish, goes_on, whole, fails}
use Rattle.px_read.specs.Items.{bad_body, body_of, part}
use Rattle.px_read.specs.Marks.{Mark, asks, marks_of}
use Rattle.px_read.specs.Readings.{behind_bytes, only, request_reading}
use Rattle.px_read.specs.Reader.{IsNext, Reads, State, behind_marks, request, to_come}
use Rattle.px_read.specs.declared.head.RequestHead.{RequestHead as ReadRequest}
use Rattle.px_read.specs.declared.part.Part.{Part}
use Rattle.px_read.specs.declared.part.Part.TheVariants as given
use Rattle.px_exchange.specs.declared.terms.Terms.{Terms}
use Rattle.px_exchange.proofs.BodyLemmas.{come}
use Rattle.px_chain.specs.Going.{whole_in}
use Rattle.px_chain.specs.Sights.{Sight, request_in}
use Rattle.px_stream.specs.Looks.{GaveFault, fault_of}
use Rattle.px_stream.specs.Stands.{IsQuiet, ReadsUp}
use Rattle.px_stream.proofs.CameLemmas.{read_as}
use Rattle.px_stream.proofs.QuietLemmas.{still_quiet}
use Rattle.px_stream.proofs.ReadUpLemmas.{item_is, whole_is}

module _ (terms : Terms) (flow : Flow) (seen : Sight) (goes : Request) (was : List ℕ) (old new : State) (up : ReadsUp terms flow seen goes was old) where
  abbrev head : ReadRequest
  head = up.going_on.head

  abbrev marks : List Mark
  marks = up.marks ++ []

  abbrev used : ℕ
  used = length up.going_on.reads.used

  abbrev pub UpShown : Option Fault → Type 0
  UpShown None = (request_in seen ≡ part head (body_of marks)) × ReadsUp terms flow seen goes was new × IsQuiet new
  UpShown (Some fault) = request_in seen ≡ bad_body fault head (body_of marks)

  reading_is : (f : Finish) → to_come old ≡ only f → request_reading seen.client ≡ read_as (asks head ∷ marks) (behind_bytes used f)
  reading_is f is = come request (asks head ∷ up.marks) seen.client false old up.going_on.reads ∙ ap (λ r. behind_marks (asks head ∷ up.marks) used r) is

  none_first : (first all : List Mark) → IsPrefixOf first all → all ≡ [] → 0 < length first → ⊥
  none_first first all (rest, is) none some = let sizes = ap length (sym is ∙ none) in let both = length-append first rest in omega arith

  -- it stays where it was
  stays : Reads request ((asks head ∷ up.marks) ++ []) seen.client false new → ReadsUp terms flow seen goes was new
  stays reads =
      let told : List Mark = asks head ∷ up.marks in
      let same : Reads request told seen.client false new = subst (λ l. Reads request l seen.client false new) (append-nil told) reads in
      record {
        marks = up.marks;
        going_on = record { head = head; sent_as = up.going_on.sent_as; reads = same };
        within = up.within;
        is_text = up.is_text;
      }

  shown_by : (got : Part) → whole_in seen ≡ None → (to_come old).marks ≡ [] → IsNext got (to_come old) → Reads request ((asks head ∷ up.marks) ++ marks_of got) seen.client false new → UpShown (fault_of got)
  shown_by given.More not_whole none next reads =
      (item_is seen head marks goes_on (reading_is goes_on next), stays reads, still_quiet request (asks head ∷ up.marks) seen.client false old new up.going_on.reads next reads)
  shown_by (given.Bad fault) not_whole none next reads = item_is seen head marks (fails fault) (reading_is (fails fault) next)
  shown_by (given.End trailers) not_whole none (size, next) reads =
      absurd (let no : Some (used + size) ≡ None = sym (whole_is seen head marks (whole trailers (used + size)) (reading_is (whole trailers size) next)) ∙ not_whole in cc)
  shown_by (given.Request one) not_whole none next reads = absurd (none_first (marks_of (given.Request one)) (to_come old).marks next.1 none next.0)
  shown_by (given.Response one) not_whole none next reads = absurd (none_first (marks_of (given.Response one)) (to_come old).marks next.1 none next.0)
  shown_by (given.Piece bytes) not_whole none next reads = absurd (none_first (marks_of (given.Piece bytes)) (to_come old).marks next.1 none next.0)
  shown_by (given.ChunkStart size) not_whole none next reads = absurd (none_first (marks_of (given.ChunkStart size)) (to_come old).marks next.1 none next.0)
  shown_by given.ChunkEnd not_whole none next reads = absurd (none_first (marks_of given.ChunkEnd) (to_come old).marks next.1 none next.0)

  -- So it is shown.
  pub up_shown : (bad : Option Fault) → whole_in seen ≡ None → (to_come old).marks ≡ [] → GaveFault bad old new → UpShown bad
  up_shown bad not_whole none gave =
      subst UpShown (sym gave.is_bad)
      (shown_by gave.gave.got not_whole none gave.gave.next (gave.gave.gives request (asks head ∷ up.marks) seen.client false up.going_on.reads))
