-- What is held of a body that is read, and what its parts say.
use Rattle.std.proofs.Common.{◌≡◌, ℕ, ◌+◌, Bool, List, [], ◌++◌, length, drop, Option, Some, None, refl, ap, sym, ◌∙◌, subst, append_assoc, arith, length-append}
use Rattle.std.proofs.lemmas.Grind.{flat_map-append}
use Rattle.std.proofs.lemmas.List.{append-nil}
use Rattle.std.proofs.Math.Seq.{drop-append_seam}
use Rattle.px_message.specs.declared.fault.Fault.{Fault}
use Rattle.px_read.specs.Chunks.{Reading, goes_on, whole, fails}
use Rattle.px_read.specs.Items.{content_in}
use Rattle.px_read.specs.Marks.{Mark, marks_of}
use Rattle.px_read.specs.Readings.{only}
use Rattle.px_read.specs.Reader.{HasStopped, IsNext, Message, Reads, State, behind_end, behind_marks, reading_from, reading_of, to_come}
use Rattle.px_read.specs.declared.part.Part.{Part}
use Rattle.px_read.specs.declared.part.Part.TheVariants as part
use Rattle.px_exchange.specs.declared.body.Progress.{Progress}
use Rattle.px_exchange.specs.declared.body.Progress.TheVariants as progress
use Rattle.px_exchange.specs.Bodies.{Collects, HasCome, content_of, stop_of}
use Rattle.px_exchange.proofs.BodyLemmas.{come}
use Rattle.px_parts.specs.Texts.{marks_text}
use Rattle.px_parts.proofs.TextLemmas.{marks_both}
use Rattle.px_stream.specs.Comings.{CollectsHeld, GoesOverHeld}
use Rattle.px_stream.specs.Responses.{GaveOne}

-- its content alone
abbrev pub collects_of : (old new : State) (content said body longer : List ℕ) → CollectsHeld old content said new body longer → Collects old content new body
collects_of old new content said body longer held = record { marks = held.marks; grown = held.grown; reads = held.reads }

pub held_nothing : (state : State) (content said : List ℕ) → CollectsHeld state content said state content said
held_nothing state content said = record {
  marks = [];
  grown = sym (append-nil content);
  says = sym (append-nil said);
  reads = λ message told fed closed reads.
      let P : List Mark → Type 0 = λ l. Reads message l fed closed state in subst P (sym (append-nil told)) reads;
}

abbrev with_marks : (old now new : State) (content said body longer after later : List ℕ) (more : List Mark) → CollectsHeld old content said now body longer →
    ((message : Message) (told : List Mark) (fed : List ℕ) (closed : Bool) → Reads message told fed closed now → Reads message (told ++ more) fed closed new) →
    after ≡ body ++ content_of more → later ≡ longer ++ marks_text more → CollectsHeld old content said new after later
with_marks old now new content said body longer after later more held gives grown says = record {
  marks = held.marks ++ more;
  grown = grown ∙ (ap (λ l. l ++ content_of more) held.grown
      ∙ (append_assoc content (content_of held.marks) (content_of more) ∙ ap (λ l. content ++ l) (sym (flat_map-append content_in held.marks more))));
  says = says ∙ (ap (λ l. l ++ marks_text more) held.says
      ∙ (append_assoc said (marks_text held.marks) (marks_text more) ∙ ap (λ l. said ++ l) (sym (marks_both held.marks more))));
  reads = λ message told fed closed reads.
      let P : List Mark → Type 0 = λ l. Reads message l fed closed new in
      subst P (append_assoc told held.marks more) (gives message (told ++ held.marks) fed closed (held.reads message told fed closed reads));
}

pub held_more : (old now new : State) (content said body longer after later : List ℕ) (got : Part) → CollectsHeld old content said now body longer → GaveOne got now new →
    after ≡ body ++ content_of (marks_of got) → later ≡ longer ++ marks_text (marks_of got) → CollectsHeld old content said new after later
held_more old now new content said body longer after later got held gives grown says =
    with_marks old now new content said body longer after later (marks_of got) held gives grown says

pub none_of : {A : Type 0} (o : Option A) → ((x : A) → o ≡ Some x → ⊥) → o ≡ None
none_of None not = refl
none_of (Some x) not = absurd (not x refl)

-- ---- a part behind which nothing comes

stood : (message : Message) (told : List Mark) (fed : List ℕ) (closed : Bool) (state : State) (reads : Reads message told fed closed state) (come_is : Reading) →
    to_come state ≡ come_is → reading_of message closed fed ≡ behind_marks told (length reads.used) come_is
stood message told fed closed state reads come_is is =
    come message told fed closed state reads ∙ ap (λ r. behind_marks told (length reads.used) r) is

behind_whole : (trailers : List (List ℕ × List ℕ)) (message : Message) (told : List Mark) (fed : List ℕ) (closed : Bool) (state : State) →
    Reads message told fed closed state → state.place ≡ behind_end trailers → HasCome (progress.Whole trailers) (reading_of message closed fed) told fed state
behind_whole trailers message told fed closed state reads is = (
  length reads.used,
  stood message told fed closed state reads (only (whole trailers 0)) (ap (λ p. reading_from p state.closed state.rest) is)
      ∙ (ap (λ l. let r : Reading = record { marks = l; finish = whole trailers (length reads.used + 0) } in r) (append-nil told)
      ∙ ap (λ n. let r : Reading = record { marks = told; finish = whole trailers n } in r) (omega arith)),
  sym (drop-append_seam reads.used state.rest) ∙ ap (λ l. drop (length reads.used) l) (sym reads.bytes),
  (let e = ap length reads.bytes in let s = length-append reads.used state.rest in omega arith),
  is,
)

module _ (old now new : State) (content said body longer after later : List ℕ) (held : CollectsHeld old content said now body longer)
    (gives : (message : Message) (told : List Mark) (fed : List ℕ) (closed : Bool) → Reads message told fed closed now → Reads message (told ++ []) fed closed new)
    (grown : after ≡ body ++ []) (says : later ≡ longer ++ []) where
  abbrev all : CollectsHeld old content said new after later
  all = with_marks old now new content said body longer after later [] held gives grown says

  told_all : (told : List Mark) → told ++ held.marks ≡ told ++ all.marks
  told_all told = ap (λ l. told ++ l) (sym (append-nil held.marks))

  missing : to_come now ≡ only goes_on → GoesOverHeld progress.Missing old content said new after later
  missing is = record {
    over = all;
    come = λ message told fed closed reads.
        stood message (told ++ held.marks) fed closed now (held.reads message told fed closed reads) (only goes_on) is
        ∙ ap (λ l. let r : Reading = record { marks = l; finish = goes_on } in r) (append-nil (told ++ held.marks) ∙ told_all told);
  }

  bad : (fault : Fault) → to_come now ≡ only (fails fault) → GoesOverHeld (progress.Bad fault) old content said new after later
  bad fault is = record {
    over = all;
    come = λ message told fed closed reads.
        stood message (told ++ held.marks) fed closed now (held.reads message told fed closed reads) (only (fails fault)) is
        ∙ ap (λ l. let r : Reading = record { marks = l; finish = fails fault } in r) (append-nil (told ++ held.marks) ∙ told_all told);
  }

  ended : (trailers : List (List ℕ × List ℕ)) → new.place ≡ behind_end trailers → GoesOverHeld (progress.Whole trailers) old content said new after later
  ended trailers is = record {
    over = all;
    come = λ message told fed closed reads. behind_whole trailers message (told ++ all.marks) fed closed new (all.reads message told fed closed reads) is;
  }

pub held_stops : (got : Part) (stop : Progress) (old now new : State) (content said body longer after later : List ℕ) → stop_of got ≡ Some stop → CollectsHeld old content said now body longer →
    GaveOne got now new → IsNext got (to_come now) → HasStopped got new → after ≡ body ++ content_of (marks_of got) → later ≡ longer ++ marks_text (marks_of got) →
    GoesOverHeld stop old content said new after later
held_stops part.More stop old now new content said body longer after later is held gives next stopped grown says =
    let same : progress.Missing ≡ stop = cc in
    let P : Progress → Type 0 = λ p. GoesOverHeld p old content said new after later in
    subst P same (missing old now new content said body longer after later held gives grown says next)
held_stops (part.End trailers) stop old now new content said body longer after later is held gives next stopped grown says =
    let same : progress.Whole trailers ≡ stop = cc in
    let P : Progress → Type 0 = λ p. GoesOverHeld p old content said new after later in
    subst P same (ended old now new content said body longer after later held gives grown says trailers stopped)
held_stops (part.Bad fault) stop old now new content said body longer after later is held gives next stopped grown says =
    let same : progress.Bad fault ≡ stop = cc in
    let P : Progress → Type 0 = λ p. GoesOverHeld p old content said new after later in
    subst P same (bad old now new content said body longer after later held gives grown says fault next)
held_stops (part.Request head) stop old now new content said body longer after later is held gives next stopped grown says = absurd (let e : None ≡ Some stop = is in cc)
held_stops (part.Response head) stop old now new content said body longer after later is held gives next stopped grown says = absurd (let e : None ≡ Some stop = is in cc)
held_stops (part.Piece bytes) stop old now new content said body longer after later is held gives next stopped grown says = absurd (let e : None ≡ Some stop = is in cc)
held_stops (part.ChunkStart size) stop old now new content said body longer after later is held gives next stopped grown says = absurd (let e : None ≡ Some stop = is in cc)
held_stops part.ChunkEnd stop old now new content said body longer after later is held gives next stopped grown says = absurd (let e : None ≡ Some stop = is in cc)
