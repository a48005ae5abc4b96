-- A CONNECT is whole as soon as its head is there: nothing is told behind it, and the reader's next part is its end.
use Rattle.std.proofs.Common.{ℕ, ◌-◌, ◌≡◌, Bool, true, List, [], ◌∷◌, ◌++◌, length, drop, refl, sym, ap, ◌∙◌, subst, arith, Some, Result}
use Rattle.px_head.specs.Front.{request_front}
use Rattle.px_head.specs.declared.raw.RawHead.{RawHead}
use Rattle.px_head.specs.declared.front.Front.{Front}
use Rattle.px_head.specs.declared.front.Front.TheVariants as front
use Rattle.px_message.specs.declared.fault.Fault.{Fault}
use Rattle.px_message.specs.declared.length.Length.{Length}
use Rattle.px_read.specs.Chunks.{Finish, goes_on, whole, fails, Reading}
use Rattle.px_read.specs.Heads.{asks_tunnel, request_body_length, request_head}
use Rattle.px_read.specs.Items.{body_of, complete, no_body, request_item, request_told}
use Rattle.px_read.specs.Laws.{head_in}
use Rattle.px_read.specs.Marks.{Mark, asks, marks_of}
use Rattle.px_read.specs.Reader.{State, request, behind_end, to_come, Reads, IsNext, HasStopped}
use Rattle.px_read.specs.Readings.{only, behind_bytes, behind_head, request_behind, request_body, request_reading}
use Rattle.px_read.specs.declared.head.RequestHead.{RequestHead}
use Rattle.px_read.specs.declared.part.Part.{Part}
use Rattle.px_read.specs.declared.part.Part.TheVariants as part
use Rattle.px_read.proofs.ConnectLemmas.{length_of_connect}
use Rattle.px_read.proofs.ItemLemmas.{head_behind}
use Rattle.px_read.proofs.ReaderLemmas.{told-read, end-whole, next-end}

-- ---- what the bytes tell

-- all that is told of a CONNECT that used so many bytes
abbrev pub tunnel_reading : RequestHead → ℕ → Reading
tunnel_reading head used = record { marks = asks head ∷ []; finish = whole [] used }

reading_behind : (bytes : List ℕ) (raw : RawHead) (used : ℕ) → request_front bytes ≡ front.Stands raw used → asks_tunnel (request_head raw) ≡ true
    → request_reading bytes ≡ tunnel_reading (request_head raw) used
reading_behind bytes raw used at connects =
    ap (λ (f : Front). request_behind f bytes) at
    ∙ ap (λ (framing : Result Length Fault). behind_head (asks (request_head raw)) used (request_body framing (drop used bytes)))
    (length_of_connect raw.first raw.pairs connects)
    ∙ ap (λ (n : ℕ). tunnel_reading (request_head raw) n) (omega arith)

item_behind_head : (bytes : List ℕ) (head : RequestHead) (used : ℕ) → request_reading bytes ≡ tunnel_reading head used
    → request_item bytes ≡ complete head no_body [] used
item_behind_head bytes head used is = ap (λ (r : Reading). request_told r.marks r.finish) is

pub connect-ends : (bytes : List ℕ) (raw : RawHead) (used : ℕ) → request_front bytes ≡ front.Stands raw used → asks_tunnel (request_head raw) ≡ true
    → request_item bytes ≡ complete (request_head raw) no_body [] used
connect-ends bytes raw used at connects = item_behind_head bytes (request_head raw) used (reading_behind bytes raw used at connects)

whole_by : (bytes : List ℕ) (head : RequestHead) (f : Front) → request_front bytes ≡ f
    → head_in (request_told (request_behind f bytes).marks (request_behind f bytes).finish) ≡ Some head → asks_tunnel head ≡ true
    → (used : ℕ) × (request_item bytes ≡ complete head no_body [] used)
whole_by bytes head front.Nothing at is connects = absurd (let e = is in cc)
whole_by bytes head front.TooLong at is connects = absurd (let e = is in cc)
whole_by bytes head front.BadHead at is connects = absurd (let e = is in cc)
whole_by bytes head (front.Stands raw used) at is connects =
    let body = request_body (request_body_length raw.first raw.pairs) (drop used bytes) in
    let e = sym (head_behind (request_head raw) (body_of body.marks) (behind_bytes used body.finish)) ∙ is in
    let same : request_head raw ≡ head = cc in (
      used,
      subst (λ (h : RequestHead). asks_tunnel h ≡ true → request_item bytes ≡ complete h no_body [] used) same
          (connect-ends bytes raw used at) connects,
    )

pub connect-whole : (bytes : List ℕ) (head : RequestHead) → head_in (request_item bytes) ≡ Some head → asks_tunnel head ≡ true
    → (used : ℕ) × (request_item bytes ≡ complete head no_body [] used)
connect-whole bytes head is connects = whole_by bytes head (request_front bytes) refl is connects

-- ---- what a reader told, and has to come

-- where its head is told first, nothing else is
told_by : (bytes : List ℕ) (head : RequestHead) (rest : List Mark) (f : Front) → request_front bytes ≡ f
    → (request_behind f bytes).marks ≡ asks head ∷ rest → asks_tunnel head ≡ true
    → (used : ℕ) × (request_reading bytes ≡ tunnel_reading head used)
told_by bytes head rest front.Nothing at is connects = absurd (let e = is in cc)
told_by bytes head rest front.TooLong at is connects = absurd (let e = is in cc)
told_by bytes head rest front.BadHead at is connects = absurd (let e = is in cc)
told_by bytes head rest (front.Stands raw used) at is connects =
    let same : request_head raw ≡ head = (let e = is in cc) in (
      used,
      subst (λ (h : RequestHead). asks_tunnel h ≡ true → request_reading bytes ≡ tunnel_reading h used) same
          (reading_behind bytes raw used at) connects,
    )

pub connect-told : (bytes : List ℕ) (head : RequestHead) (rest : List Mark) → (request_reading bytes).marks ≡ asks head ∷ rest → asks_tunnel head ≡ true
    → (used : ℕ) × (request_reading bytes ≡ tunnel_reading head used)
connect-told bytes head rest is connects = told_by bytes head rest (request_front bytes) refl is connects

-- of what was told and what is to come, the head is all
abbrev HasEnded : List Mark → Reading → Type 0
HasEnded marks come = (marks ≡ []) × (used : ℕ) × (come ≡ only (whole [] used))

nothing_more : (head : RequestHead) (marks come : List Mark) (count used : ℕ) (f : Finish) → asks head ∷ [] ≡ asks head ∷ (marks ++ come)
    → whole [] used ≡ behind_bytes count f → HasEnded marks (record { marks = come; finish = f })
nothing_more head (mark ∷ marks) come count used f is ends = absurd (let e = is in cc)
nothing_more head [] (mark ∷ come) count used f is ends = absurd (let e = is in cc)
nothing_more head [] [] count used goes_on is ends = absurd (let e = ends in cc)
nothing_more head [] [] count used (whole trailers more) is ends =
    let none : trailers ≡ [] = (let e = ends in cc) in
    (refl, more, ap (λ (fields : List (List ℕ × List ℕ)). only (whole fields more)) none)
nothing_more head [] [] count used (fails fault) is ends = absurd (let e = ends in cc)

pub connect-ended : (head : RequestHead) (marks : List Mark) (fed : List ℕ) (closed : Bool) (state : State) → asks_tunnel head ≡ true
    → Reads request (asks head ∷ marks) fed closed state → HasEnded marks (to_come state)
connect-ended head marks fed closed state connects reads =
    let all = told-read request (asks head ∷ marks) fed closed state reads in
    let come = to_come state in
    let w = connect-told fed head (marks ++ come.marks) (ap (λ (r : Reading). r.marks) all) connects in
    let both = sym w.1 ∙ all in
    nothing_more head marks come.marks (length fed - length state.rest) w.0 come.finish (ap (λ (r : Reading). r.marks) both)
    (ap (λ (r : Reading). r.finish) both)

-- ---- its end

abbrev IsRead : RequestHead → List ℕ → State → Part → Type 0
IsRead head fed new given =
    (given ≡ part.End []) × (used : ℕ) × (request_item fed ≡ complete head no_body [] used) × (new.rest ≡ drop used fed)

read_to_end : (head : RequestHead) (rest : List Mark) (fed : List ℕ) (closed : Bool) (new : State) → asks_tunnel head ≡ true
    → Reads request (asks head ∷ rest) fed closed new → new.place ≡ behind_end []
    → (used : ℕ) × (request_item fed ≡ complete head no_body [] used) × (new.rest ≡ drop used fed)
read_to_end head rest fed closed new connects reads at =
    let ended = end-whole request (asks head ∷ rest) fed closed new [] reads at in
    let w = connect-told fed head rest (ap (λ (r : Reading). r.marks) ended.1) connects in
    let ends : whole [] ended.0 ≡ whole [] w.0 = ap (λ (r : Reading). r.finish) (sym ended.1 ∙ w.1) in
    let same : ended.0 ≡ w.0 = cc in
    (w.0, item_behind_head fed head w.0 w.1, ended.2 ∙ ap (λ (n : ℕ). drop n fed) same)

pub connect-read : (head : RequestHead) (marks : List Mark) (fed : List ℕ) (closed : Bool) (old new : State) (given : Part) → asks_tunnel head ≡ true
    → Reads request (asks head ∷ marks) fed closed old → IsNext given (to_come old)
    → Reads request ((asks head ∷ marks) ++ marks_of given) fed closed new → HasStopped given new → IsRead head fed new given
connect-read head marks fed closed old new given connects before next after stopped =
    let ended = connect-ended head marks fed closed old connects before in
    let is : given ≡ part.End [] = next-end given (to_come old) [] ended.1 next ended.2 in
    let read = read_to_end head (marks ++ marks_of given) fed closed new connects after (subst (λ (p : Part). HasStopped p new) is stopped) in
    (is, read.0, read.1, read.2)
