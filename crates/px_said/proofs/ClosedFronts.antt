-- What a prefix of the events says of a side, and what all of them say.
use Rattle.std.proofs.Common.{◌≡◌, ℕ, zero, suc, ◌+◌, ◌-◌, ◌<◌, ◌≤◌, Bool, true, false, List, [], ◌∷◌, ◌++◌, length, drop, Some, refl, ap, sym, ◌∙◌, subst, append_assoc, arith, inl, inr}
use Rattle.std.specs.Prelude.{⊤, ◌||◌, ◌⊎◌, if◌then◌else◌, take}
use Rattle.std.proofs.lemmas.Bool.Decides.{eqb_tells}
use Rattle.px_text.specs.Least.{least}
use Rattle.px_text.proofs.LeastLemmas.{least_here, least_skip}
use Rattle.std.proofs.lemmas.List.{append-nil}
use Rattle.px_event.specs.declared.event.Event.{Event}
use Rattle.px_event.specs.declared.side.Side.{Side}
use Rattle.px_event.specs.declared.side.Side.TheVariants.{Client, Server}
use Rattle.px_event.specs.Chain.{Timed}
use Rattle.px_event.specs.Laws.{seen_values}
use Rattle.px_read.specs.Items.{answer_list}
use Rattle.px_read.proofs.AnswerLemmas.{AnswersCarry, answers_carry}
use Rattle.px_read.proofs.LawLemmas.{chunk_laws}
use Rattle.px_said.specs.ClosedForm.{answers_at}
use Rattle.px_event.specs.Sides.{closes, piece_of}
use Rattle.px_chain.specs.Streams.{bytes_of, is_closed}

-- the events begin with the prefix, but for their moments
abbrev pub IsFront : List (Timed Event) → List (Timed Event) → Type 0
IsFront [] events = ⊤
IsFront (e ∷ prefix) [] = ⊥
IsFront (e ∷ prefix) (x ∷ events) = (e.value ≡ x.value) × IsFront prefix events

pub front_of : (prefix events : List (Timed Event)) (rest : List Event) → seen_values prefix ++ rest ≡ seen_values events → IsFront prefix events
front_of [] events rest is = tt
front_of (e ∷ prefix) [] rest is = absurd (let no : e.value ∷ (seen_values prefix ++ rest) ≡ [] = is in cc)
front_of (e ∷ prefix) (x ∷ events) rest is =
    let same : e.value ∷ (seen_values prefix ++ rest) ≡ x.value ∷ seen_values events = is in
    let first : e.value ≡ x.value = cc in
    let behind : seen_values prefix ++ rest ≡ seen_values events = cc in
    (first, front_of prefix events rest behind)

pub front_behind : (n : ℕ) (prefix events : List (Timed Event)) → IsFront prefix events → IsFront (drop n prefix) (drop n events)
front_behind zero prefix events is = is
front_behind (suc n) [] events is = tt
front_behind (suc n) (e ∷ prefix) [] is = absurd is
front_behind (suc n) (e ∷ prefix) (x ∷ events) is = front_behind n prefix events is.1

pub front_length : (prefix events : List (Timed Event)) → IsFront prefix events → length prefix ≤ length events
front_length [] events is = omega arith
front_length (e ∷ prefix) [] is = absurd is
front_length (e ∷ prefix) (x ∷ events) is = let less = front_length prefix events is.1 in omega arith

-- both have the same events, but for their moments
abbrev pub IsSame : List (Timed Event) → List (Timed Event) → Type 0
IsSame [] [] = ⊤
IsSame (e ∷ prefix) (x ∷ events) = (e.value ≡ x.value) × IsSame prefix events
IsSame _ _ = ⊥

pub same_of : (prefix events : List (Timed Event)) → seen_values prefix ≡ seen_values events → IsSame prefix events
same_of [] [] is = tt
same_of [] (x ∷ events) is = absurd (let no : [] ≡ x.value ∷ seen_values events = is in cc)
same_of (e ∷ prefix) [] is = absurd (let no : e.value ∷ seen_values prefix ≡ [] = is in cc)
same_of (e ∷ prefix) (x ∷ events) is =
    let same : e.value ∷ seen_values prefix ≡ x.value ∷ seen_values events = is in
    let first : e.value ≡ x.value = cc in
    let behind : seen_values prefix ≡ seen_values events = cc in
    (first, same_of prefix events behind)

-- a prefix is that many of the events
pub same_taken : (prefix events : List (Timed Event)) → IsFront prefix events → IsSame prefix (take (length prefix) events)
same_taken [] events is = tt
same_taken (e ∷ prefix) [] is = absurd is
same_taken (e ∷ prefix) (x ∷ events) is = (is.0, same_taken prefix events is.1)

pub same_behind : (n : ℕ) (prefix events : List (Timed Event)) → IsSame prefix events → IsSame (drop n prefix) (drop n events)
same_behind zero prefix events is = is
same_behind (suc n) [] [] is = tt
same_behind (suc n) [] (x ∷ events) is = absurd is
same_behind (suc n) (e ∷ prefix) [] is = absurd is
same_behind (suc n) (e ∷ prefix) (x ∷ events) is = same_behind n prefix events is.1

pub same_bytes : (side : Side) (prefix events : List (Timed Event)) → IsSame prefix events → bytes_of side prefix ≡ bytes_of side events
same_bytes side [] [] is = refl
same_bytes side [] (x ∷ events) is = absurd is
same_bytes side (e ∷ prefix) [] is = absurd is
same_bytes side (e ∷ prefix) (x ∷ events) is =
    ap (λ v. if closes Client v || closes side v then [] else (piece_of side v ++ bytes_of side prefix)) is.0
    ∙ ap (λ l. if closes Client x.value || closes side x.value then [] else (piece_of side x.value ++ l)) (same_bytes side prefix events is.1)

pub same_closed : (side : Side) (prefix events : List (Timed Event)) → IsSame prefix events → is_closed side prefix ≡ is_closed side events
same_closed side [] [] is = refl
same_closed side [] (x ∷ events) is = absurd is
same_closed side (e ∷ prefix) [] is = absurd is
same_closed side (e ∷ prefix) (x ∷ events) is =
    ap (λ v. if closes side v then true else (if closes Client v then false else is_closed side prefix)) is.0
    ∙ ap (λ b. if closes side x.value then true else (if closes Client x.value then false else b)) (same_closed side prefix events is.1)

-- the responses over the same events
pub same_answers : (asked_head : Bool) (side opened used : ℕ) (prefix events : List (Timed Event)) → IsSame prefix events →
    answers_at prefix side opened used asked_head ≡ answers_at events side opened used asked_head
same_answers asked_head side opened used prefix events is =
    let behind = same_behind opened prefix events is in
    ap (λ b. answer_list asked_head b (drop used (bytes_of (Server side) (drop opened prefix))))
    (same_closed (Server side) (drop opened prefix) (drop opened events) behind)
    ∙ ap (λ l. answer_list asked_head (is_closed (Server side) (drop opened events)) (drop used l))
    (same_bytes (Server side) (drop opened prefix) (drop opened events) behind)

-- ---- the fewest events over which something holds

-- it holds over none of these numbers of events
abbrev pub Waits : (ℕ → Bool) → ℕ → ℕ → Type 0
Waits test from come = (k : ℕ) → from ≤ k → k < come → test k ≡ false

last_or_before : (k come : ℕ) → k < come + 1 → (k ≡ come) ⊎ (k < come)
last_or_before k come below = elim (eqb_tells k come) [ inl same ↦ inl same.1 | inr other ↦ inr (let o = other.1 in omega arith) ]

pub waits_more : (test : ℕ → Bool) (from come : ℕ) → Waits test from come → test come ≡ false → Waits test from (come + 1)
waits_more test from come waits fails k low high =
    elim (last_or_before k come high) [ inl same ↦ ap test same ∙ fails | inr before ↦ waits k low before ]

pub least_at : (test : ℕ → Bool) (from come size : ℕ) → from ≤ come → come ≤ size → Waits test from come → test come ≡ true →
    least test from (size + 1) ≡ Some come
least_at test from come size low high waits holds =
    let n = come - from in
    let all : size + 1 ≡ n + suc (size - n) = omega arith in
    let there : from + n ≡ come = omega arith in
    ap (λ m. least test from m) all
    ∙ (least_skip test from n (suc (size - n)) (λ k lower upper. waits k lower (omega arith))
    ∙ (ap (λ m. least test m (suc (size - n))) there ∙ least_here test come (size - n) holds))

-- bytes that grow, and stay where the side has closed
pub record Grows (bytes : List ℕ) (shut : Bool) (all : List ℕ) (ended : Bool) : Type 0 where
  pub more : List ℕ
  pub grown : all ≡ bytes ++ more
  pub shuts : shut ≡ true → (ended ≡ true) × (all ≡ bytes)

pub drop_on : (n : ℕ) (xs ys : List ℕ) → (more : List ℕ) × (drop n (xs ++ ys) ≡ drop n xs ++ more)
drop_on zero xs ys = (ys, refl)
drop_on (suc n) [] ys = (drop (suc n) ys, refl)
drop_on (suc n) (x ∷ xs) ys = drop_on n xs ys

-- so do those behind the first of them
pub grows_behind : (used : ℕ) (bytes all : List ℕ) (shut ended : Bool) → Grows bytes shut all ended → Grows (drop used bytes) shut (drop used all) ended
grows_behind used bytes all shut ended on =
    let further = drop_on used bytes on.more in
    record { more = further.0; grown = ap (drop used) on.grown ∙ further.1; shuts = λ e. (let both = on.shuts e in (both.0, ap (drop used) both.1)) }

grows_by : (ends closing : Bool) (piece bytes all : List ℕ) (shut ended : Bool) → Grows bytes shut all ended →
    Grows (if ends || closing then [] else (piece ++ bytes)) (if closing then true else (if ends then false else shut))
    (if ends || closing then [] else (piece ++ all)) (if closing then true else (if ends then false else ended))
grows_by true true piece bytes all shut ended on = record { more = []; grown = refl; shuts = λ e. (refl, refl) }
grows_by true false piece bytes all shut ended on =
    record { more = []; grown = refl; shuts = λ e. absurd (let no : false ≡ true = e in cc) }
grows_by false true piece bytes all shut ended on = record { more = []; grown = refl; shuts = λ e. (refl, refl) }
grows_by false false piece bytes all shut ended on = record {
  more = on.more;
  grown = ap (λ l. piece ++ l) on.grown ∙ sym (append_assoc piece bytes on.more);
  shuts = λ e. (let both = on.shuts e in (both.0, ap (λ l. piece ++ l) both.1));
}

pub side_grows : (side : Side) (prefix events : List (Timed Event)) → IsFront prefix events →
    Grows (bytes_of side prefix) (is_closed side prefix) (bytes_of side events) (is_closed side events)
side_grows side [] events is =
    record { more = bytes_of side events; grown = refl; shuts = λ e. absurd (let no : false ≡ true = e in cc) }
side_grows side (e ∷ prefix) [] is = absurd is
side_grows side (e ∷ prefix) (x ∷ events) is =
    let P : Event → Type 0 = λ v. Grows (bytes_of side (e ∷ prefix)) (is_closed side (e ∷ prefix))
    (if closes Client v || closes side v then [] else (piece_of side v ++ bytes_of side events))
    (if closes side v then true else (if closes Client v then false else is_closed side events)) in
    subst P is.0
    (grows_by (closes Client e.value) (closes side e.value) (piece_of side e.value) (bytes_of side prefix) (bytes_of side events)
    (is_closed side prefix) (is_closed side events) (side_grows side prefix events is.1))

carry_same : (asked_head shut : Bool) (bytes : List ℕ) → AnswersCarry (answer_list asked_head shut bytes) (answer_list asked_head shut bytes)
carry_same asked_head shut bytes = record {
  interim = ([], sym (append-nil (answer_list asked_head shut bytes).interim));
  begun = λ e. (refl, refl);
  final = record { head = λ head e. e; stays = λ e. refl };
}

carry_by : (asked_head shut ended : Bool) (bytes all : List ℕ) → Grows bytes shut all ended →
    AnswersCarry (answer_list asked_head shut bytes) (answer_list asked_head ended all)
carry_by asked_head true ended bytes all grows =
    let both = grows.shuts refl in
    let P : Bool → List ℕ → Type 0 = λ b l. AnswersCarry (answer_list asked_head true bytes) (answer_list asked_head b l) in
    let Q : Bool → Type 0 = λ b. P b all in
    let R : List ℕ → Type 0 = λ l. P true l in
    subst Q (sym both.0) (subst R (sym both.1) (carry_same asked_head true bytes))
carry_by asked_head false ended bytes all grows =
    let P : List ℕ → Type 0 = λ l. AnswersCarry (answer_list asked_head false bytes) (answer_list asked_head ended l) in
    subst P (sym grows.grown) (answers_carry chunk_laws asked_head ended bytes grows.more)

-- the responses that a prefix has, and those of all events
pub answers_grow : (asked_head : Bool) (side opened used : ℕ) (prefix events : List (Timed Event)) → IsFront prefix events →
    AnswersCarry (answers_at prefix side opened used asked_head) (answers_at events side opened used asked_head)
answers_grow asked_head side opened used prefix events is =
    let bytes = bytes_of (Server side) (drop opened prefix) in
    let shut = is_closed (Server side) (drop opened prefix) in
    carry_by asked_head shut _ (drop used bytes) _
    (grows_behind used bytes _ shut _ (side_grows (Server side) (drop opened prefix) (drop opened events) (front_behind opened prefix events is)))

by_open : (prefix events : List (Timed Event)) (shut : Bool) → is_closed Client prefix ≡ shut →
    Grows (bytes_of Client prefix) (is_closed Client prefix) (bytes_of Client events) (is_closed Client events) →
    is_closed Client events ≡ false → is_closed Client prefix ≡ false
by_open prefix events true is grows never = let ended = (grows.shuts is).0 in absurd (let no : true ≡ false = sym ended ∙ never in cc)
by_open prefix events false is grows never = is

-- a client that never closed has not closed over a prefix
pub still_open : (prefix events : List (Timed Event)) → IsFront prefix events → is_closed Client events ≡ false → is_closed Client prefix ≡ false
still_open prefix events is never = by_open prefix events (is_closed Client prefix) refl (side_grows Client prefix events is) never
