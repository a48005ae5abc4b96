-- Bytes of a chunked body are heard one after the other, and what is decided stays.
use Rattle.std.proofs.Common.{ℕ, zero, suc, ◌+◌, ◌-◌, ◌<◌, ◌≤◌, ◌≡◌, ◌≢◌, Bool, true, false, List, [], ◌∷◌, ◌++◌, length, refl, sym, ap, ◌∙◌, subst, arith, Option, Some, None, append_assoc, append-nil, length-append}
use Rattle.std.specs.Prelude.{nat_le, if◌then◌else◌, ◌==◌}
use Rattle.px_message.specs.declared.fault.Fault.TheVariants.{BadChunk}
use Rattle.px_text.specs.Prefix.{IsPrefixOf}
use Rattle.px_head.specs.declared.front.Front.{Front}
use Rattle.px_head.specs.declared.front.Front.TheVariants.{Nothing, TooLong, BadHead, Stands}
use Rattle.px_head.specs.declared.front.Kind.TheVariants.{Trailers}
use Rattle.px_head.specs.Front.{trailer_front}
use Rattle.px_head.proofs.FrontLemmas.{front-stays, used-within}
use Rattle.px_read.specs.ChunkLine.{size_in}
use Rattle.px_read.specs.Marks.{Mark, ends}
use Rattle.px_read.specs.Chunks.{ChunkPlace, in_line, in_content, at_cr, at_lf, in_trailers, broken, ChunkHearing, silent, behind_size, hear, hear_all, Finish, goes_on, whole, fails, trailers_finish, place_finish, GoesOn, Reading, chunks_from}
use Rattle.px_read.specs.Readings.{behind_bytes}
use Rattle.px_read.proofs.TrailerLemmas.{trailers_late}

-- ---- bytes behind others

-- what was told, and what the bytes behind it tell
abbrev pub behind : ChunkHearing → List ℕ → ChunkHearing
behind first more =
    let further = hear_all first.place more in record { marks = first.marks ++ further.marks; place = further.place }

-- marks before those of a turn
abbrev onto : List Mark → ChunkHearing → ChunkHearing
onto marks turn = record { marks = marks ++ turn.marks; place = turn.place }

abbrev to_turn : List Mark → ChunkPlace → ChunkHearing
to_turn marks place = record { marks = marks; place = place }

onto-append : (a b : List Mark) (turn : ChunkHearing) → onto a (onto b turn) ≡ onto (a ++ b) turn
onto-append a b turn = ap (λ (ms : List Mark). to_turn ms turn.place) (sym (append_assoc a b turn.marks))

pub hear_all-append : (place : ChunkPlace) (xs ys : List ℕ) → hear_all place (xs ++ ys) ≡ behind (hear_all place xs) ys
hear_all-append place [] ys = refl
hear_all-append place (x ∷ xs) ys =
    let first = hear place x in
    let rest = hear_all first.place xs in
    ap (λ (t : ChunkHearing). onto first.marks t) (hear_all-append first.place xs ys)
    ∙ onto-append first.marks rest.marks (hear_all rest.place ys)

pub hear_all-broken : (bytes : List ℕ) → hear_all broken bytes ≡ silent broken
hear_all-broken [] = refl
hear_all-broken (b ∷ bytes) = hear_all-broken bytes

pub hear_all-trailers : (block bytes : List ℕ) → hear_all (in_trailers block) bytes ≡ silent (in_trailers (block ++ bytes))
hear_all-trailers block [] = ap (λ (l : List ℕ). silent (in_trailers l)) (sym (append-nil block))
hear_all-trailers block (b ∷ bytes) = hear_all-trailers (block ++ b ∷ []) bytes
    ∙ ap (λ (l : List ℕ). silent (in_trailers l)) (append_assoc block (b ∷ []) bytes)

-- ---- how many bytes of the trailers are there

abbrev kept : ChunkPlace → ℕ
kept (in_trailers block) = length block
kept _ = 0

kept-silent : (v : Bool) (place : ChunkPlace) (n : ℕ) → kept place ≤ n → kept (if v then silent place else silent broken).place ≤ n
kept-silent true place n le = le
kept-silent false place n le = omega arith

kept-size : (size : Option ℕ) → kept (behind_size size).place ≤ 0
kept-size None = omega arith
kept-size (Some zero) = omega arith
kept-size (Some (suc left)) = omega arith

kept-line : (line : List ℕ) (u v : Bool) → kept (if u then behind_size (size_in line) else (if v then silent broken else silent (in_line line))).place ≤ 0
kept-line line true v = kept-size (size_in line)
kept-line line false true = omega arith
kept-line line false false = omega arith

kept-lf : (v : Bool) (marks : List Mark) → kept (if v then record { marks = marks; place = in_line [] } else silent broken).place ≤ 0
kept-lf true marks = omega arith
kept-lf false marks = omega arith

kept-hear : (place : ChunkPlace) (b : ℕ) → kept (hear place b).place ≤ kept place + 1
kept-hear (in_line line) b =
    let k = kept-line (line ++ b ∷ []) (b == 10) (nat_le 1024 (length (line ++ b ∷ []))) in omega arith
kept-hear (in_content zero) b = omega arith
kept-hear (in_content (suc left)) b = omega arith
kept-hear at_cr b = let k = kept-silent (b == 13) at_lf 0 (omega arith) in omega arith
kept-hear at_lf b = let k = kept-lf (b == 10) (ends ∷ []) in omega arith
kept-hear (in_trailers block) b = let k = length-append block (b ∷ []) in omega arith
kept-hear broken b = omega arith

kept-all : (place : ChunkPlace) (bytes : List ℕ) → kept (hear_all place bytes).place ≤ kept place + length bytes
kept-all place [] = omega arith
kept-all place (b ∷ bytes) =
    let one = kept-hear place b in
    let rest = kept-all (hear place b).place bytes in
    omega arith

kept-from : (place : ChunkPlace) (bytes : List ℕ) → kept place ≡ 0 → kept (hear_all place bytes).place ≤ length bytes
kept-from place bytes none = let k = kept-all place bytes in omega arith

-- ---- what is decided stays

trailers-stay : (count kept more : ℕ) (front : Front) → trailers_finish (count + more) (kept + more) front ≡ trailers_finish count kept front
trailers-stay count kept more Nothing = refl
trailers-stay count kept more TooLong = refl
trailers-stay count kept more BadHead = refl
trailers-stay count kept more (Stands raw used) = ap (λ (n : ℕ). whole raw.pairs n) (omega arith)

abbrev reading : List Mark → Finish → Reading
reading marks finish = record { marks = marks; finish = finish }

trailers-same : (block more : List ℕ) → trailer_front block ≢ Nothing → trailer_front (block ++ more) ≡ trailer_front block
trailers-same block more decided = front-stays Trailers block more decided

stays_at : (place : ChunkPlace) (marks : List Mark) (count : ℕ) (more : List ℕ) → place_finish count place ≢ goes_on
    → record { marks = marks ++ (hear_all place more).marks; finish = place_finish (count + length more) (hear_all place more).place }
    ≡ reading marks (place_finish count place)
stays_at (in_line line) marks count more decided = absurd (decided refl)
stays_at (in_content left) marks count more decided = absurd (decided refl)
stays_at at_cr marks count more decided = absurd (decided refl)
stays_at at_lf marks count more decided = absurd (decided refl)
stays_at (in_trailers block) marks count more decided =
    let stands : trailer_front block ≢ Nothing = λ e. decided (ap (λ (f : Front). trailers_finish count (length block) f) e) in
    let front = trailers-same block more stands in
    let finish : trailers_finish (count + length more) (length (block ++ more)) (trailer_front (block ++ more)) ≡ trailers_finish count (length block) (trailer_front block) =
    ap (λ (f : Front). trailers_finish (count + length more) (length (block ++ more)) f) front
    ∙ ap (λ (n : ℕ). trailers_finish (count + length more) n (trailer_front block)) (length-append block more)
    ∙ trailers-stay count (length block) (length more) (trailer_front block) in
    ap (λ (t : ChunkHearing). reading (marks ++ t.marks) (place_finish (count + length more) t.place)) (hear_all-trailers block more)
    ∙ ap (λ (ms : List Mark). reading ms (trailers_finish (count + length more) (length (block ++ more)) (trailer_front (block ++ more)))) (append-nil marks)
    ∙ ap (λ (f : Finish). reading marks f) finish
stays_at broken marks count more decided =
    ap (λ (t : ChunkHearing). reading (marks ++ t.marks) (place_finish (count + length more) t.place)) (hear_all-broken more)
    ∙ ap (λ (ms : List Mark). reading ms (fails BadChunk)) (append-nil marks)

pub finish_stays : (place : ChunkPlace) (bytes more : List ℕ) → (chunks_from place bytes).finish ≢ goes_on
    → chunks_from place (bytes ++ more) ≡ chunks_from place bytes
finish_stays place bytes more decided =
    let first = hear_all place bytes in
    ap (λ (t : ChunkHearing). reading t.marks (place_finish (length (bytes ++ more)) t.place)) (hear_all-append place bytes more)
    ∙ ap (λ (n : ℕ). reading (first.marks ++ (hear_all first.place more).marks) (place_finish n (hear_all first.place more).place)) (length-append bytes more)
    ∙ stays_at first.place first.marks (length bytes) more decided

pub marks_grow : (place : ChunkPlace) (bytes more : List ℕ)
    → IsPrefixOf (chunks_from place bytes).marks (chunks_from place (bytes ++ more)).marks
marks_grow place bytes more =
    let first = hear_all place bytes in
    ((hear_all first.place more).marks, ap (λ (t : ChunkHearing). t.marks) (hear_all-append place bytes more))

-- ---- a body that went on

trailers-shift : (before count kept : ℕ) (front : Front) → ((raw : _) (used : ℕ) → front ≡ Stands raw used → kept ≤ count + used)
    → trailers_finish (before + count) kept front ≡ behind_bytes before (trailers_finish count kept front)
trailers-shift before count kept Nothing fits = refl
trailers-shift before count kept TooLong fits = refl
trailers-shift before count kept BadHead fits = refl
trailers-shift before count kept (Stands raw used) fits =
    let f = fits raw used refl in ap (λ (n : ℕ). whole raw.pairs n) (omega arith)

-- of a place to which so many bytes led
place-shift : (before count : ℕ) (place : ChunkPlace) → kept place ≤ count
    → place_finish (before + count) place ≡ behind_bytes before (place_finish count place)
place-shift before count (in_line line) fits = refl
place-shift before count (in_content left) fits = refl
place-shift before count at_cr fits = refl
place-shift before count at_lf fits = refl
place-shift before count (in_trailers block) fits =
    trailers-shift before count (length block) (trailer_front block) (λ raw used is. omega arith)
place-shift before count broken fits = refl

-- trailers that are waited on
pub waited : (block : List ℕ) → GoesOn (in_trailers block) → trailer_front block ≡ Nothing
waited block on = by (trailer_front block) refl on
  where
    by : (f : Front) → trailer_front block ≡ f → trailers_finish 0 (length block) f ≡ goes_on → trailer_front block ≡ Nothing
    by Nothing is on = is
    by TooLong is on = absurd (let e = on in cc)
    by BadHead is on = absurd (let e = on in cc)
    by (Stands raw used) is on = absurd (let e = on in cc)

pub waits_on : (block : List ℕ) → trailer_front block ≡ Nothing → GoesOn (in_trailers block)
waits_on block is = ap (λ (f : Front). trailers_finish 0 (length block) f) is

pub shift_from : (before : ℕ) (place : ChunkPlace) (more : List ℕ) → GoesOn place
    → place_finish (before + length more) (hear_all place more).place ≡ behind_bytes before (place_finish (length more) (hear_all place more).place)
shift_from before (in_trailers block) more on =
    subst (λ (t : ChunkHearing). place_finish (before + length more) t.place ≡ behind_bytes before (place_finish (length more) t.place))
    (sym (hear_all-trailers block more))
    (trailers-shift before (length more) (length (block ++ more)) (trailer_front (block ++ more))
    (λ raw used is.
    let late = trailers_late block more raw used (waited block on) is in
    let size = length-append block more in
    omega arith))
shift_from before broken more on = absurd (let e = on in cc)
shift_from before (in_line line) more on = place-shift before (length more) _ (kept-from (in_line line) more refl)
shift_from before (in_content left) more on = place-shift before (length more) _ (kept-from (in_content left) more refl)
shift_from before at_cr more on = place-shift before (length more) _ (kept-from at_cr more refl)
shift_from before at_lf more on = place-shift before (length more) _ (kept-from at_lf more refl)

-- the reading behind what was told
abbrev pub reading_behind : List Mark → ℕ → Reading → Reading
reading_behind marks count reading = record { marks = marks ++ reading.marks; finish = behind_bytes count reading.finish }

pub reading_resumes : (place : ChunkPlace) (bytes more : List ℕ) → GoesOn (hear_all place bytes).place
    → chunks_from place (bytes ++ more)
    ≡ reading_behind (hear_all place bytes).marks (length bytes) (chunks_from (hear_all place bytes).place more)
reading_resumes place bytes more on =
    let first = hear_all place bytes in
    let further = hear_all first.place more in
    ap (λ (t : ChunkHearing). reading t.marks (place_finish (length (bytes ++ more)) t.place)) (hear_all-append place bytes more)
    ∙ ap (λ (n : ℕ). reading (first.marks ++ further.marks) (place_finish n further.place)) (length-append bytes more)
    ∙ ap (λ (f : Finish). reading (first.marks ++ further.marks) f) (shift_from (length bytes) first.place more on)

-- the same, by what was told
pub resumes_as : (place : ChunkPlace) (bytes more : List ℕ) (marks : List Mark) (next : ChunkPlace)
    → hear_all place bytes ≡ record { marks = marks; place = next } → GoesOn next
    → chunks_from place (bytes ++ more) ≡ reading_behind marks (length bytes) (chunks_from next more)
resumes_as place bytes more marks next is on =
    subst (λ (t : ChunkHearing). GoesOn t.place → chunks_from place (bytes ++ more) ≡ reading_behind t.marks (length bytes) (chunks_from t.place more))
    is (reading_resumes place bytes more) on

-- ---- sizes

used_by : (count kept : ℕ) (front : Front) (trailers : List (List ℕ × List ℕ)) (used : ℕ)
    → ((raw : _) (u : ℕ) → front ≡ Stands raw u → (kept < count + u) × (u ≤ kept))
    → trailers_finish count kept front ≡ whole trailers used → (1 ≤ used) × (used ≤ count)
used_by count kept Nothing trailers used fits is = absurd (let e = is in cc)
used_by count kept TooLong trailers used fits is = absurd (let e = is in cc)
used_by count kept BadHead trailers used fits is = absurd (let e = is in cc)
used_by count kept (Stands raw u) trailers used fits is =
    let f = fits raw u refl in
    let low = f.0 in
    let high = f.1 in
    let same : (count + u) - kept ≡ used = (let e = is in cc) in
    (omega arith, omega arith)

used_at : (count : ℕ) (place : ChunkPlace) (trailers : List (List ℕ × List ℕ)) (used : ℕ) → kept place ≤ count
    → place_finish count place ≡ whole trailers used → (1 ≤ used) × (used ≤ count)
used_at count (in_line line) trailers used fits is = absurd (let e = is in cc)
used_at count (in_content left) trailers used fits is = absurd (let e = is in cc)
used_at count at_cr trailers used fits is = absurd (let e = is in cc)
used_at count at_lf trailers used fits is = absurd (let e = is in cc)
used_at count (in_trailers block) trailers used fits is =
    used_by count (length block) (trailer_front block) trailers used
    (λ raw u at. let w = used-within Trailers block raw u at in let a = w.0 in let b = w.1 in (omega arith, b)) is
used_at count broken trailers used fits is = absurd (let e = is in cc)

pub chunks_used : (place : ChunkPlace) (bytes : List ℕ) (trailers : List (List ℕ × List ℕ)) (used : ℕ) → GoesOn place
    → (chunks_from place bytes).finish ≡ whole trailers used → (1 ≤ used) × (used ≤ length bytes)
chunks_used (in_trailers block) bytes trailers used on is =
    used_by (length bytes) (length (block ++ bytes)) (trailer_front (block ++ bytes)) trailers used
    (λ raw u at.
    let w = used-within Trailers (block ++ bytes) raw u at in
    let late = trailers_late block bytes raw u (waited block on) at in
    let size = length-append block bytes in
    let b = w.1 in
    (omega arith, b))
    (subst (λ (t : ChunkHearing). place_finish (length bytes) t.place ≡ whole trailers used) (hear_all-trailers block bytes) is)
chunks_used broken bytes trailers used on is = absurd (let e = on in cc)
chunks_used (in_line line) bytes trailers used on is = used_at (length bytes) _ trailers used (kept-from (in_line line) bytes refl) is
chunks_used (in_content left) bytes trailers used on is = used_at (length bytes) _ trailers used (kept-from (in_content left) bytes refl) is
chunks_used at_cr bytes trailers used on is = used_at (length bytes) _ trailers used (kept-from at_cr bytes refl) is
chunks_used at_lf bytes trailers used on is = used_at (length bytes) _ trailers used (kept-from at_lf bytes refl) is
