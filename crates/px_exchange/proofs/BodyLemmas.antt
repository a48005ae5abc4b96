-- A body read part by part.
use Rattle.std.proofs.Common.{◌≡◌, ℕ, ◌+◌, ◌<◌, Bool, true, false, List, [], ◌∷◌, ◌++◌, length, map, drop, Some, None, refl, ap, sym, ◌∙◌, subst, arith, append_assoc, length-append}
use Rattle.std.proofs.lemmas.Grind.{flat_map-append}
use Rattle.std.proofs.lemmas.List.{append-nil}
use Rattle.std.proofs.Math.Seq.{drop-append_seam}
use Rattle.px_message.specs.declared.fault.Fault.{Fault}
use Rattle.px_read.specs.Chunks.{Reading, goes_on, whole, fails}
use Rattle.px_read.specs.Items.{content_in}
use Rattle.px_read.specs.Marks.{Mark, byte, marks_of}
use Rattle.px_read.specs.Readings.{only}
use Rattle.px_read.specs.Reader.{MayFollow, Message, reading_of, State, reading_from, to_come, behind_end, behind_marks, Reads, IsNext, HasStopped}
use Rattle.px_read.specs.declared.part.Part.{Part}
use Rattle.px_read.specs.declared.part.Part.TheVariants as part
use Rattle.px_exchange.specs.declared.body.Progress.{Progress}
use Rattle.px_exchange.specs.declared.body.Progress.TheVariants as progress
use Rattle.px_exchange.specs.Bodies.{content_of, IsReading, Collects, HasCome, HasRead, stop_of}

may_stay : (closed : Bool) → MayFollow closed [] closed
may_stay false = tt
may_stay true = (refl, refl)

-- all that the bytes tell is what was given and what is to come
pub come : (message : Message) (told : List Mark) (fed : List ℕ) (closed : Bool) (state : State) (reads : Reads message told fed closed state) →
    reading_of message closed fed ≡ behind_marks told (length reads.used) (to_come state)
come message told fed closed state reads =
    ap (λ l. reading_of message closed l) (sym (append-nil fed))
    ∙ (reads.reading [] closed (may_stay closed)
    ∙ (ap (λ l. behind_marks told (length reads.used) (reading_from state.place closed l)) (append-nil state.rest)
    ∙ ap (λ c. behind_marks told (length reads.used) (reading_from state.place c state.rest)) (sym reads.closed)))

-- what one call of the reader gave
abbrev pub Gives : List Mark → State → State → Type 0
Gives more old new = (message : Message) (told : List Mark) (fed : List ℕ) (closed : Bool) → Reads message told fed closed old →
    Reads message (told ++ more) fed closed new

pub nothing_yet : (state : State) (content : List ℕ) → Collects state content state content
nothing_yet state content = record {
  marks = [];
  grown = sym (append-nil content);
  reads = λ message told fed closed reads.
      let P : List Mark → Type 0 = λ l. Reads message l fed closed state in subst P (sym (append-nil told)) reads;
}

pub one_more : (old now new : State) (content longer after : List ℕ) (more : List Mark) → Collects old content now longer → Gives more now new →
    after ≡ longer ++ content_of more → Collects old content new after
one_more old now new content longer after more collects gives grown = record {
  marks = collects.marks ++ more;
  grown = grown ∙ (ap (λ l. l ++ content_of more) collects.grown
      ∙ (append_assoc content (content_of collects.marks) (content_of more)
      ∙ ap (λ l. content ++ l) (sym (flat_map-append content_in collects.marks more))));
  reads = λ message told fed closed reads.
      let P : List Mark → Type 0 = λ l. Reads message l fed closed new in
      subst P (append_assoc told collects.marks more)
      (gives message (told ++ collects.marks) fed closed (collects.reads message told fed closed reads));
}

-- the content of a piece
pub content_bytes : (bytes : List ℕ) → content_of (map byte bytes) ≡ bytes
content_bytes [] = refl
content_bytes (b ∷ bytes) = ap (λ l. b ∷ l) (content_bytes bytes)

still_reading : (old now : State) (content longer : List ℕ) → Collects old content now longer → IsReading old → IsReading now
still_reading old now content longer collects is = record {
  message = is.message;
  told = is.told ++ collects.marks;
  fed = is.fed;
  closed = is.closed;
  reads = collects.reads is.message is.told is.fed is.closed is.reads;
}

falls_at : (message : Message) (told more : List Mark) (fed : List ℕ) (closed : Bool) (now new : State) (before : Reads message told fed closed now)
    (after : Reads message (told ++ more) fed closed new) → 0 < length more → length (to_come new).marks < length (to_come now).marks
falls_at message told more fed closed now new before after some =
    let one : told ++ (to_come now).marks ≡ (told ++ more) ++ (to_come new).marks =
    ap (λ (r : Reading). r.marks) (sym (come message told fed closed now before) ∙ come message (told ++ more) fed closed new after) in
    let sizes = ap length one in
    let left = length-append told (to_come now).marks in
    let right = length-append (told ++ more) (to_come new).marks in
    let inner = length-append told more in
    omega arith

-- what is to come gets less
pub falls : (old now new : State) (content longer : List ℕ) (more : List Mark) → IsReading old → Collects old content now longer → Gives more now new →
    0 < length more → length (to_come new).marks < length (to_come now).marks
falls old now new content longer more is collects gives some =
    let reading = still_reading old now content longer collects is in
    falls_at reading.message reading.told more reading.fed reading.closed now new reading.reads
    (gives reading.message reading.told reading.fed reading.closed reading.reads) some

-- ---- the three ends

abbrev collects_all : (old now new : State) (content longer : List ℕ) → Collects old content now longer → Gives [] now new → Collects old content new longer
collects_all old now new content longer collects gives = record {
  marks = collects.marks;
  grown = collects.grown;
  reads = λ message told fed closed reads.
      let P : List Mark → Type 0 = λ l. Reads message l fed closed new in
      subst P (append-nil (told ++ collects.marks)) (gives message (told ++ collects.marks) fed closed (collects.reads message told fed closed reads));
}

stood : (message : Message) (told : List Mark) (fed : List ℕ) (closed : Bool) (state : State) (reads : Reads message told fed closed state) (come_is : Reading) →
    to_come state ≡ come_is → reading_of message closed fed ≡ behind_marks told (length reads.used) come_is
stood message told fed closed state reads come_is is =
    come message told fed closed state reads ∙ ap (λ r. behind_marks told (length reads.used) r) is

pub ends_missing : (old now new : State) (content longer : List ℕ) → Collects old content now longer → Gives [] now new → to_come now ≡ only goes_on →
    HasRead progress.Missing old content new longer
ends_missing old now new content longer collects gives is = record {
  collects = collects_all old now new content longer collects gives;
  come = λ message told fed closed reads.
      stood message (told ++ collects.marks) fed closed now (collects.reads message told fed closed reads) (only goes_on) is
      ∙ ap (λ l. let r : Reading = record { marks = l; finish = goes_on } in r) (append-nil (told ++ collects.marks));
}

pub ends_bad : (fault : Fault) (old now new : State) (content longer : List ℕ) → Collects old content now longer → Gives [] now new → to_come now ≡ only (fails fault) →
    HasRead (progress.Bad fault) old content new longer
ends_bad fault old now new content longer collects gives is = record {
  collects = collects_all old now new content longer collects gives;
  come = λ message told fed closed reads.
      stood message (told ++ collects.marks) fed closed now (collects.reads message told fed closed reads) (only (fails fault)) is
      ∙ ap (λ l. let r : Reading = record { marks = l; finish = fails fault } in r) (append-nil (told ++ collects.marks));
}

behind_whole : (trailers : List (List ℕ × List ℕ)) (message : Message) (told : List Mark) (fed : List ℕ) (closed : Bool) (state : State) →
    Reads message told fed closed state → state.place ≡ behind_end trailers → HasCome (progress.Whole trailers) (reading_of message closed fed) told fed state
behind_whole trailers message told fed closed state reads is = (
  length reads.used,
  stood message told fed closed state reads (only (whole trailers 0)) (ap (λ p. reading_from p state.closed state.rest) is)
      ∙ (ap (λ l. let r : Reading = record { marks = l; finish = whole trailers (length reads.used + 0) } in r) (append-nil told)
      ∙ ap (λ n. let r : Reading = record { marks = told; finish = whole trailers n } in r) (omega arith)),
  sym (drop-append_seam reads.used state.rest) ∙ ap (λ l. drop (length reads.used) l) (sym reads.bytes),
  (let e = ap length reads.bytes in let s = length-append reads.used state.rest in omega arith),
  is,
)

pub ends_whole : (trailers : List (List ℕ × List ℕ)) (old now new : State) (content longer : List ℕ) → Collects old content now longer → Gives [] now new →
    new.place ≡ behind_end trailers → HasRead (progress.Whole trailers) old content new longer
ends_whole trailers old now new content longer collects gives is =
    let all = collects_all old now new content longer collects gives in
    record {
      collects = all;
      come = λ message told fed closed reads.
          behind_whole trailers message (told ++ all.marks) fed closed new (all.reads message told fed closed reads) is;
    }

-- ---- part by part

grown_by : (longer after : List ℕ) (marks : List Mark) → content_of marks ≡ [] → after ≡ longer ++ content_of marks → longer ≡ after
grown_by longer after marks none grown = sym (grown ∙ (ap (λ l. longer ++ l) none ∙ append-nil longer))

-- a part behind which nothing comes
pub stops_here : (got : Part) (stop : Progress) (old now new : State) (content longer after : List ℕ) → stop_of got ≡ Some stop → Collects old content now longer →
    Gives (marks_of got) now new → IsNext got (to_come now) → HasStopped got new → after ≡ longer ++ content_of (marks_of got) → HasRead stop old content new after
stops_here part.More stop old now new content longer after is collects gives next stopped grown =
    let same : progress.Missing ≡ stop = cc in
    let P : Progress → List ℕ → Type 0 = λ p l. HasRead p old content new l in
    let Q : List ℕ → Type 0 = λ l. P progress.Missing l in
    let R : Progress → Type 0 = λ p. P p after in
    subst R same (subst Q (grown_by longer after [] refl grown) (ends_missing old now new content longer collects gives next))
stops_here (part.End trailers) stop old now new content longer after is collects gives next stopped grown =
    let same : progress.Whole trailers ≡ stop = cc in
    let P : Progress → List ℕ → Type 0 = λ p l. HasRead p old content new l in
    let Q : List ℕ → Type 0 = λ l. P (progress.Whole trailers) l in
    let R : Progress → Type 0 = λ p. P p after in
    subst R same (subst Q (grown_by longer after [] refl grown) (ends_whole trailers old now new content longer collects gives stopped))
stops_here (part.Bad fault) stop old now new content longer after is collects gives next stopped grown =
    let same : progress.Bad fault ≡ stop = cc in
    let P : Progress → List ℕ → Type 0 = λ p l. HasRead p old content new l in
    let Q : List ℕ → Type 0 = λ l. P (progress.Bad fault) l in
    let R : Progress → Type 0 = λ p. P p after in
    subst R same (subst Q (grown_by longer after [] refl grown) (ends_bad fault old now new content longer collects gives next))
stops_here (part.Request head) stop old now new content longer after is collects gives next stopped grown = absurd (let e : None ≡ Some stop = is in cc)
stops_here (part.Response head) stop old now new content longer after is collects gives next stopped grown = absurd (let e : None ≡ Some stop = is in cc)
stops_here (part.Piece bytes) stop old now new content longer after is collects gives next stopped grown = absurd (let e : None ≡ Some stop = is in cc)
stops_here (part.ChunkStart size) stop old now new content longer after is collects gives next stopped grown = absurd (let e : None ≡ Some stop = is in cc)
stops_here part.ChunkEnd stop old now new content longer after is collects gives next stopped grown = absurd (let e : None ≡ Some stop = is in cc)

-- any other one tells something
pub tells_some : (got : Part) (reading : Reading) → stop_of got ≡ None → IsNext got reading → 0 < length (marks_of got)
tells_some part.More reading is next = absurd (let e : Some progress.Missing ≡ None = is in cc)
tells_some (part.End trailers) reading is next = absurd (let e : Some (progress.Whole trailers) ≡ None = is in cc)
tells_some (part.Bad fault) reading is next = absurd (let e : Some (progress.Bad fault) ≡ None = is in cc)
tells_some (part.Request head) reading is next = next.0
tells_some (part.Response head) reading is next = next.0
tells_some (part.Piece bytes) reading is next = next.0
tells_some (part.ChunkStart size) reading is next = next.0
tells_some part.ChunkEnd reading is next = next.0
