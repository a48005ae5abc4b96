-- What the parts of a reader say is what the marks of its reading say.
use Rattle.std.proofs.Common.{ℕ, ◌-◌, ◌≡◌, Bool, List, [], ◌∷◌, ◌++◌, length, refl, sym, ap, ap₂, ◌∙◌, append_assoc, append-nil, drop}
use Rattle.std.specs.Prelude.{All}
use Rattle.std.specs.List.{flat_map}
use Rattle.std.proofs.Math.Seq.{drop-append_seam}
use Rattle.std.proofs.lemmas.Grind.{flat_map-append}
use Rattle.std.proofs.lemmas.List.Elements.{All-head, All-tail}
use Rattle.px_text.specs.Prefix.{IsPrefixOf}
use Rattle.px_read.specs.Chunks.{goes_on, whole, fails, Reading}
use Rattle.px_read.specs.Marks.{Mark, marks_of}
use Rattle.px_read.specs.Reader.{Message, behind_marks, reading_of, to_come}
use Rattle.px_read.specs.Readings.{only}
use Rattle.px_read.specs.declared.part.Part.{Part}
use Rattle.px_read.specs.declared.part.Part.TheVariants as part
use Rattle.px_read.proofs.ReaderLemmas.{told-read}
use Rattle.px_parts.specs.Given.{Gives, GivenIsAll, GivenIsLeft, GivenIsSent, GoesOn, PartSaysItsMarks}
use Rattle.px_parts.specs.Texts.{behind_text, end_text, marks_text, part_text, parts_text, size_line}
use Rattle.px_parts.proofs.TextLemmas.{bytes-sent, marks_both}

-- ---- parts and their marks

pub part-says : PartSaysItsMarks
part-says fields part.More on = refl
part-says fields (part.Request head) on = refl
part-says fields (part.Response head) on = refl
part-says fields (part.Piece bytes) on = sym (bytes-sent bytes)
part-says fields (part.ChunkStart size) on = sym (append-nil (size_line size))
part-says fields part.ChunkEnd on = refl
part-says fields (part.End trailers) on = absurd on
part-says fields (part.Bad fault) on = refl

parts-say : (fields : List (List ℕ × List ℕ)) (parts : List Part) → All GoesOn parts
    → parts_text fields parts ≡ marks_text (flat_map marks_of parts)
parts-say fields [] on = refl
parts-say fields (given ∷ parts) on =
    ap₂ (λ (a b : List ℕ). a ++ b) (part-says fields given (All-head GoesOn given parts on))
    (parts-say fields parts (All-tail GoesOn given parts on))
    ∙ sym (marks_both (marks_of given) (flat_map marks_of parts))

-- ---- what was told

-- behind marks that were told, a reading that tells these and stands so
told_then : (message : Message) (told : List Mark) (fed : List ℕ) (closed : Bool) (used : ℕ) (coming reading : Reading)
    → reading_of message closed fed ≡ behind_marks told used coming → coming ≡ reading
    → reading_of message closed fed ≡ behind_marks told used reading
told_then message told fed closed used coming reading is same = is ∙ ap (behind_marks told used) same

-- parts in front of a text
in_front : (fields : List (List ℕ × List ℕ)) (parts : List Part) (text : List ℕ) → All GoesOn parts
    → parts_text fields parts ++ text ≡ marks_text (flat_map marks_of parts) ++ text
in_front fields parts text on = ap (λ (t : List ℕ). t ++ text) (parts-say fields parts on)

-- nothing more is told: the text is that of what was, and its end
all_told : (fields : List (List ℕ × List ℕ)) (message : Message) (parts : List Part) (next : Part) (fed : List ℕ) (closed : Bool)
    (gives : Gives message parts next fed closed) (reading : Reading) → reading.marks ≡ [] → to_come gives.state ≡ reading
    → part_text fields next
    ≡ end_text fields (behind_marks (flat_map marks_of parts) (length fed - length gives.state.rest) reading).finish
    → parts_text fields parts ++ part_text fields next ≡ behind_text fields (reading_of message closed fed)
all_told fields message parts next fed closed gives reading none is last =
    let told = flat_map marks_of parts in
    let used = length fed - length gives.state.rest in
    in_front fields parts (part_text fields next) gives.on
    ∙ ap₂ (λ (marks : List Mark) (text : List ℕ). marks_text marks ++ text)
    (sym (ap (λ (marks : List Mark). told ++ marks) none ∙ append-nil told)) last
    ∙ ap (behind_text fields) (sym (told_then message told fed closed used (to_come gives.state) reading
    (told-read message told fed closed gives.state gives.reads) is))

pub given-all : GivenIsAll
given-all fields message parts part.More fed closed gives all =
    all_told fields message parts part.More fed closed gives (only goes_on) refl gives.next_is refl
given-all fields message parts (part.End trailers) fed closed gives all =
    all_told fields message parts (part.End trailers) fed closed gives (only (whole trailers gives.next_is.0)) refl gives.next_is.1 refl
given-all fields message parts (part.Bad fault) fed closed gives all =
    all_told fields message parts (part.Bad fault) fed closed gives (only (fails fault)) refl gives.next_is refl
given-all fields message parts (part.Request head) fed closed gives all = absurd all
given-all fields message parts (part.Response head) fed closed gives all = absurd all
given-all fields message parts (part.Piece bytes) fed closed gives all = absurd all
given-all fields message parts (part.ChunkStart size) fed closed gives all = absurd all
given-all fields message parts part.ChunkEnd fed closed gives all = absurd all

-- the part says the first of what is to come
first_told : (fields : List (List ℕ × List ℕ)) (message : Message) (parts : List Part) (next : Part) (fed : List ℕ) (closed : Bool)
    (gives : Gives message parts next fed closed) → GoesOn next → IsPrefixOf (marks_of next) (to_come gives.state).marks
    → IsPrefixOf (parts_text fields parts ++ part_text fields next) (behind_text fields (reading_of message closed fed))
first_told fields message parts next fed closed gives on more =
    let told = flat_map marks_of parts in
    let read = told-read message told fed closed gives.state gives.reads in
    let last = end_text fields (reading_of message closed fed).finish in
    let marks : (reading_of message closed fed).marks ≡ (told ++ marks_of next) ++ more.0 =
    ap (λ (r : Reading). r.marks) read ∙ ap (λ (ms : List Mark). told ++ ms) more.1
    ∙ sym (append_assoc told (marks_of next) more.0) in
    let said : marks_text (told ++ marks_of next) ≡ parts_text fields parts ++ part_text fields next =
    marks_both told (marks_of next)
    ∙ sym (ap₂ (λ (a b : List ℕ). a ++ b) (parts-say fields parts gives.on) (part-says fields next on)) in (
      marks_text more.0 ++ last,
      ap (λ (ms : List Mark). marks_text ms ++ last) marks
          ∙ ap (λ (text : List ℕ). text ++ last) (marks_both (told ++ marks_of next) more.0)
          ∙ append_assoc (marks_text (told ++ marks_of next)) (marks_text more.0) last
          ∙ ap (λ (text : List ℕ). text ++ (marks_text more.0 ++ last)) said,
    )

whole_text : (text all : List ℕ) → text ≡ all → IsPrefixOf text all
whole_text text all same = ([], sym same ∙ sym (append-nil text))

pub given-sent : GivenIsSent
given-sent fields message parts part.More fed closed gives =
    whole_text _ _ (given-all fields message parts part.More fed closed gives tt)
given-sent fields message parts (part.End trailers) fed closed gives =
    whole_text _ _ (given-all fields message parts (part.End trailers) fed closed gives tt)
given-sent fields message parts (part.Bad fault) fed closed gives =
    whole_text _ _ (given-all fields message parts (part.Bad fault) fed closed gives tt)
given-sent fields message parts (part.Request head) fed closed gives =
    first_told fields message parts (part.Request head) fed closed gives tt gives.next_is.1
given-sent fields message parts (part.Response head) fed closed gives =
    first_told fields message parts (part.Response head) fed closed gives tt gives.next_is.1
given-sent fields message parts (part.Piece bytes) fed closed gives =
    first_told fields message parts (part.Piece bytes) fed closed gives tt gives.next_is.1
given-sent fields message parts (part.ChunkStart size) fed closed gives =
    first_told fields message parts (part.ChunkStart size) fed closed gives tt gives.next_is.1
given-sent fields message parts part.ChunkEnd fed closed gives =
    first_told fields message parts part.ChunkEnd fed closed gives tt gives.next_is.1

-- ---- what is sent next

pub given-left : GivenIsLeft
given-left fields message head old new next fed later before closed first second all =
    let was = behind_text fields (reading_of message before fed) in
    let added = parts_text fields new ++ part_text fields next in
    let begun : parts_text fields old ≡ was =
    sym (append-nil (parts_text fields old)) ∙ given-all fields message old part.More fed before first tt in
    let grown : behind_text fields (reading_of message closed later) ≡ was ++ added =
    sym (given-all fields message (old ++ new) next later closed second all)
    ∙ ap (λ (text : List ℕ). text ++ part_text fields next) (flat_map-append (part_text fields) old new)
    ∙ append_assoc (parts_text fields old) (parts_text fields new) (part_text fields next)
    ∙ ap (λ (text : List ℕ). text ++ added) begun in
    ap (λ (text : List ℕ). drop (length (head ++ was)) (head ++ text)) grown
    ∙ ap (λ (text : List ℕ). drop (length (head ++ was)) text) (sym (append_assoc head was added))
    ∙ drop-append_seam (head ++ was) added
