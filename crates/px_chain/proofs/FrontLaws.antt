-- What one event more does to the words on prefixes.
use Rattle.std.proofs.Common.{◌≡◌, ℕ, ◌≤◌, Bool, true, false, List, [], ◌∷◌, ◌++◌, length, drop, refl, ap, sym, ◌∙◌, append_assoc, arith, nat_lt, length-append}
use Rattle.std.specs.Prelude.{zero, suc, ◌||◌, if◌then◌else◌}
use Rattle.std.proofs.lemmas.Bool.{lt-ltb, ltb-true}
use Rattle.std.proofs.lemmas.List.{append-nil}
use Rattle.px_event.specs.declared.event.Event.{Event}
use Rattle.px_event.specs.declared.event.Event.TheVariants as events
use Rattle.px_event.specs.declared.side.Side.{Side}
use Rattle.px_event.specs.declared.side.Side.TheVariants.{Client}
use Rattle.px_event.specs.Chain.{Timed}
use Rattle.px_event.specs.Sides.{piece_of, closes}
use Rattle.px_chain.specs.Streams.{Since, bytes_of, is_closed, last_moment, now_over, from_here}

-- ---- one event more

-- a close has no bytes
closing_piece : (side other : Side) (event : Event) → closes other event ≡ true → piece_of side event ≡ []
closing_piece side other events.Begun is = refl
closing_piece side other (events.Piece from bytes) is = absurd (let e : false ≡ true = is in cc)
closing_piece side other (events.Closed from) is = refl
closing_piece side other (events.Answered ask reply) is = refl

last_piece : (side : Side) (event : Event) (c s : Bool) → closes Client event ≡ c → closes side event ≡ s →
    (if c || s then [] else (piece_of side event ++ [])) ≡ piece_of side event
last_piece side event true s is at = sym (closing_piece side Client event is)
last_piece side event false true is at = sym (closing_piece side side event at)
last_piece side event false false is at = append-nil (piece_of side event)

more_by : (c s more more' : Bool) (piece rest rest' last : List ℕ) →
    (if c then true else (if c then false else more)) ≡ false → (if s then true else (if c then false else more')) ≡ false →
    (more ≡ false → more' ≡ false → rest' ≡ rest ++ last) →
    (if c || s then [] else (piece ++ rest')) ≡ (if c || s then [] else (piece ++ rest)) ++ last
more_by true s more more' piece rest rest' last open_client open_side on = absurd (let e : true ≡ false = open_client in cc)
more_by false true more more' piece rest rest' last open_client open_side on = absurd (let e : true ≡ false = open_side in cc)
more_by false false more more' piece rest rest' last open_client open_side on =
    ap (λ l. piece ++ l) (on open_client open_side) ∙ sym (append_assoc piece rest last)

-- what an event brings of a side, while neither the side nor the client has closed
pub bytes_more : (side : Side) (prefix : List (Timed Event)) (e : Timed Event) → is_closed Client prefix ≡ false → is_closed side prefix ≡ false →
    bytes_of side (prefix ++ e ∷ []) ≡ bytes_of side prefix ++ piece_of side e.value
bytes_more side [] e open_client open_side = last_piece side e.value (closes Client e.value) (closes side e.value) refl refl
bytes_more side (f ∷ prefix) e open_client open_side =
    more_by (closes Client f.value) (closes side f.value) (is_closed Client prefix) (is_closed side prefix) (piece_of side f.value)
    (bytes_of side prefix) (bytes_of side (prefix ++ e ∷ [])) (piece_of side e.value) open_client open_side (bytes_more side prefix e)

shut_by : (c s more : Bool) (piece rest rest' : List ℕ) →
    (if s then true else (if c then false else more)) ≡ true → (more ≡ true → rest' ≡ rest) →
    (if c || s then [] else (piece ++ rest')) ≡ (if c || s then [] else (piece ++ rest))
shut_by true s more piece rest rest' shut on = refl
shut_by false true more piece rest rest' shut on = refl
shut_by false false more piece rest rest' shut on = ap (λ l. piece ++ l) (on shut)

-- nothing is heard behind a side's close
pub bytes_shut : (side : Side) (prefix : List (Timed Event)) (e : Timed Event) → is_closed side prefix ≡ true →
    bytes_of side (prefix ++ e ∷ []) ≡ bytes_of side prefix
bytes_shut side [] e shut = absurd (let n : false ≡ true = shut in cc)
bytes_shut side (f ∷ prefix) e shut =
    shut_by (closes Client f.value) (closes side f.value) (is_closed side prefix) (piece_of side f.value)
    (bytes_of side prefix) (bytes_of side (prefix ++ e ∷ [])) shut (bytes_shut side prefix e)

grows_by : (gone : Bool) (piece rest rest' : List ℕ) → length rest ≤ length rest' →
    length (if gone then [] else (piece ++ rest)) ≤ length (if gone then [] else (piece ++ rest'))
grows_by true piece rest rest' more = omega arith
grows_by false piece rest rest' more = let was = length-append piece rest in let is = length-append piece rest' in omega arith

-- no byte that came goes away
pub bytes_grow : (side : Side) (prefix : List (Timed Event)) (e : Timed Event) → length (bytes_of side prefix) ≤ length (bytes_of side (prefix ++ e ∷ []))
bytes_grow side [] e = omega arith
bytes_grow side (f ∷ prefix) e =
    grows_by (closes Client f.value || closes side f.value) (piece_of side f.value) (bytes_of side prefix) (bytes_of side (prefix ++ e ∷ [])) (bytes_grow side prefix e)

stays_by : (c s more more' : Bool) → (if s then true else (if c then false else more)) ≡ true → (more ≡ true → more' ≡ true) →
    (if s then true else (if c then false else more')) ≡ true
stays_by c true more more' shut on = refl
stays_by true false more more' shut on = absurd (let e : false ≡ true = shut in cc)
stays_by false false more more' shut on = on shut

-- a side that closed stays so
pub closed_stays : (side : Side) (prefix : List (Timed Event)) (e : Timed Event) → is_closed side prefix ≡ true → is_closed side (prefix ++ e ∷ []) ≡ true
closed_stays side [] e shut = absurd (let n : false ≡ true = shut in cc)
closed_stays side (f ∷ prefix) e shut =
    stays_by (closes Client f.value) (closes side f.value) (is_closed side prefix) (is_closed side (prefix ++ e ∷ [])) shut (closed_stays side prefix e)

now_by : (c s more more' more'' last : Bool) → (if c then true else (if c then false else more)) ≡ false →
    (more ≡ false → more'' ≡ (more' || last)) →
    (if s then true else (if c then false else more'')) ≡ ((if s then true else (if c then false else more')) || last)
now_by true s more more' more'' last open_client on = absurd (let e : true ≡ false = open_client in cc)
now_by false true more more' more'' last open_client on = refl
now_by false false more more' more'' last open_client on = on open_client

last_closes : (c s : Bool) → (if s then true else (if c then false else false)) ≡ s
last_closes c true = refl
last_closes true false = refl
last_closes false false = refl

-- while the client has not closed, an event closes a side or leaves it
pub closed_more : (side : Side) (prefix : List (Timed Event)) (e : Timed Event) → is_closed Client prefix ≡ false →
    is_closed side (prefix ++ e ∷ []) ≡ (is_closed side prefix || closes side e.value)
closed_more side [] e open_client = last_closes (closes Client e.value) (closes side e.value)
closed_more side (f ∷ prefix) e open_client =
    now_by (closes Client f.value) (closes side f.value) (is_closed Client prefix) (is_closed side prefix) (is_closed side (prefix ++ e ∷ []))
    (closes side e.value) open_client (closed_more side prefix e)

-- ---- behind some of the events

open_rest : (c more : Bool) → (if c then true else (if c then false else more)) ≡ false → more ≡ false
open_rest true more is = absurd (let e : true ≡ false = is in cc)
open_rest false more is = is

-- where the client has not closed, it has not among the later events
pub open_behind : (n : ℕ) (prefix : List (Timed Event)) → is_closed Client prefix ≡ false → is_closed Client (drop n prefix) ≡ false
open_behind zero prefix is = is
open_behind (suc n) [] is = refl
open_behind (suc n) (f ∷ prefix) is = open_behind n prefix (open_rest (closes Client f.value) (is_closed Client prefix) is)

-- one event more, behind the first of them: it is the next there, or none is
pub data DropMore (n : ℕ) (prefix : List (Timed Event)) (e : Timed Event) : Type 0 where
  behind : drop n (prefix ++ e ∷ []) ≡ drop n prefix ++ e ∷ [] → DropMore n prefix e
  none : drop n prefix ≡ [] → drop n (prefix ++ e ∷ []) ≡ [] → DropMore n prefix e

later_by : (n : ℕ) (f : Timed Event) (prefix : List (Timed Event)) (e : Timed Event) → DropMore n prefix e → DropMore (suc n) (f ∷ prefix) e
later_by n f prefix e (behind is) = behind is
later_by n f prefix e (none was is) = none was is

pub drop_more : (n : ℕ) (prefix : List (Timed Event)) (e : Timed Event) → DropMore n prefix e
drop_more zero prefix e = behind refl
drop_more (suc zero) [] e = none refl refl
drop_more (suc (suc n)) [] e = none refl refl
drop_more (suc n) (f ∷ prefix) e = later_by n f prefix e (drop_more n prefix e)

-- ---- moments

not_below : (n : ℕ) (b : Bool) → nat_lt n n ≡ b → b ≡ false
not_below n true is = absurd (let less = ltb-true n n is in omega arith)
not_below n false is = refl

-- the moment of a stage that begins here
pub now_here : (moment : ℕ) (prefix : List (Timed Event)) → now_over (from_here moment prefix) prefix ≡ moment
now_here moment prefix = rw (not_below (length prefix) (nat_lt (length prefix) (length prefix)) refl) refl

-- the moment of the last event
last_is : (moment : ℕ) (prefix : List (Timed Event)) (e : Timed Event) → last_moment moment (prefix ++ e ∷ []) ≡ e.moment
last_is moment [] e = refl
last_is moment (f ∷ prefix) e = last_is f.moment prefix e

-- the moment with one event more
pub now_more : (since : Since) (prefix : List (Timed Event)) (e : Timed Event) → since.events ≤ length prefix → now_over since (prefix ++ e ∷ []) ≡ e.moment
now_more since prefix e within =
    let longer = length-append prefix (e ∷ []) in
    let less : nat_lt since.events (length (prefix ++ e ∷ [])) ≡ true = lt-ltb since.events (length (prefix ++ e ∷ [])) (omega arith) in
    rw less (last_is since.moment prefix e)
