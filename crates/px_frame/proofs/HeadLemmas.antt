-- Laws of a head's decision: a head lies in the bytes, what is decided stays, and a length is judged once.
use Rattle.std.proofs.Common.{◌≡◌, ◌∙◌, ℕ, ◌+◌, ◌-◌, ◌^◌, ◌<◌, ◌≤◌, Bool, true, false, ◌||◌, List, [], ◌∷◌, ◌++◌, length, take, drop, refl, sym, ap, ap₂, subst, arith, length-append, Option, Some, None}
use Rattle.std.specs.Prelude.{nat_le, nat_lt, if◌then◌else◌, ◌==◌, ⊤}
use Rattle.std.specs.Int.{from_be_bytes, w16, w64}
use Rattle.std.proofs.lemmas.Bool.{ltb-false, leb-true, leb-false, le-leb}
use Rattle.std.proofs.lemmas.List.{length-drop, take-append-le, drop-append-le}
use Rattle.px_frame.specs.declared.fault.FrameFault.{FrameFault}
use Rattle.px_frame.specs.declared.fault.FrameFault.TheVariants.{NotShortest, HighBit, TooBig}
use Rattle.px_frame.specs.declared.head.HeadStep.{HeadStep}
use Rattle.px_frame.specs.declared.head.HeadStep.TheVariants.{More, Head, Fault}
use Rattle.px_frame.specs.Head.{opcode_of, is_control, first_fault, seven_bits, second_fault, length_bytes, stated_length, least_stated, so_far, most, is_too_big, length_fault, unless, head_step, key_step, length_step, second_step, head_of, has_length}
use Rattle.px_frame.specs.HeadFits.{Fits}

pub some_none : {A : Type 0} (x : A) → Some x ≡ None → ⊥
some_none x e = cc

pub true_false : true ≡ false → ⊥
true_false e = cc

pub or_false : (a b : Bool) → (a || b) ≡ false → (a ≡ false) × (b ≡ false)
or_false true b e = absurd (true_false e)
or_false false b e = (refl, e)

-- ---- a length without a fault

abbrev by_tests : Bool → Bool → Bool → Bool → Option FrameFault
by_tests a b c d =
    if a then Some NotShortest else (if b then Some HighBit else (if c then None else (if d then Some TooBig else None)))

no_tests : (a b c d : Bool) → by_tests a b c d ≡ None → (a ≡ false) × (b ≡ false) × (c ≡ false → d ≡ false)
no_tests true b c d e = absurd (some_none NotShortest e)
no_tests false true c d e = absurd (some_none HighBit e)
no_tests false false true d e = (refl, refl, λ h. absurd (true_false h))
no_tests false false false true e = absurd (some_none TooBig e)
no_tests false false false false e = (refl, refl, λ h. refl)

-- without a fault none stands where messages may be completed
weaker : (a b c l d : Bool) → by_tests a b c (l || d) ≡ None → by_tests a b c (false || d) ≡ None
weaker true b c l d e = absurd (some_none NotShortest e)
weaker false true c l d e = absurd (some_none HighBit e)
weaker false false true l d e = refl
weaker false false false true d e = absurd (some_none TooBig e)
weaker false false false false d e = e

pub record IsSound (begun : Option ℕ) (last : Bool) (first seven stated : ℕ) : Type 0 where
  pub least : least_stated seven ≤ stated
  pub small : stated < 2 ^ 63
  pub room : is_control (opcode_of first) ≡ false → so_far begun + stated ≤ most
  pub allowed : is_control (opcode_of first) ≡ false → last ≡ false

pub sound : (begun : Option ℕ) (last : Bool) (first seven stated : ℕ) → length_fault begun last first seven stated ≡ None
    → IsSound begun last first seven stated
sound begun last first seven stated none =
    let t = no_tests (nat_lt stated (least_stated seven)) (nat_le (2 ^ 63) stated) (is_control (opcode_of first))
    (is_too_big begun last stated) none in
    record {
      least = ltb-false stated (least_stated seven) t.0;
      small = leb-false (2 ^ 63) stated t.1;
      room = λ c. ltb-false most (so_far begun + stated) (or_false last (nat_lt most (so_far begun + stated)) (t.2 c)).1;
      allowed = λ c. (or_false last (nat_lt most (so_far begun + stated)) (t.2 c)).0;
    }

judged_fault : (begun : Option ℕ) (last : Bool) (first seven stated : ℕ) → length_fault begun last first seven stated ≡ None
    → length_fault begun false first seven stated ≡ None
judged_fault begun last first seven stated none =
    weaker (nat_lt stated (least_stated seven)) (nat_le (2 ^ 63) stated) (is_control (opcode_of first)) last
    (nat_lt most (so_far begun + stated)) none

-- ---- a head lies in the bytes

unless_fits : (begun : Option ℕ) (count : ℕ) (fault : Option FrameFault) (step : HeadStep) → (fault ≡ None → Fits begun count step)
    → Fits begun count (unless fault step)
unless_fits begun count None step h = h refl
unless_fits begun count (Some fault) step h = tt

fits_masked : (b : Bool) (first stated size : ℕ) (rest : List ℕ) (begun : Option ℕ) (count : ℕ) → nat_le 4 (length rest) ≡ b
    → 2 ≤ size → size + length rest ≤ count → stated < 2 ^ 63 → (is_control (opcode_of first) ≡ false → so_far begun + stated ≤ most)
    → Fits begun count (if b then head_step first stated (Some (take 4 rest)) (size + 4) else More)
fits_masked true first stated size rest begun count e some within small room =
    let four = leb-true 4 (length rest) e in
    record { some = omega arith; within = omega arith; small = small; room = room }
fits_masked false first stated size rest begun count e some within small room = tt

fits_key : (masked : Bool) (first stated size : ℕ) (rest : List ℕ) (begun : Option ℕ) (count : ℕ) → 2 ≤ size → size + length rest ≤ count
    → stated < 2 ^ 63 → (is_control (opcode_of first) ≡ false → so_far begun + stated ≤ most)
    → Fits begun count (key_step masked first stated size rest)
fits_key false first stated size rest begun count some within small room =
    record { some = some; within = omega arith; small = small; room = room }
fits_key true first stated size rest begun count some within small room =
    fits_masked (nat_le 4 (length rest)) first stated size rest begun count refl some within small room

two_more : (w : ℕ) → 2 ≤ 2 + w
two_more w = omega arith

key_within : (w n m count : ℕ) → w ≤ n → 2 + n ≤ count → m ≡ n - w → (2 + w) + m ≤ count
key_within w n m count a b c = omega arith

fits_length_by : (b masked : Bool) (begun : Option ℕ) (last : Bool) (first seven : ℕ) (rest : List ℕ) (count : ℕ) → 2 + length rest ≤ count
    → nat_le (length_bytes seven) (length rest) ≡ b
    → Fits begun count (if b then unless (length_fault begun last first seven (stated_length seven rest))
    (key_step masked first (stated_length seven rest) (2 + length_bytes seven) (drop (length_bytes seven) rest)) else More)
fits_length_by true masked begun last first seven rest count h e =
    unless_fits begun count (length_fault begun last first seven (stated_length seven rest)) _ (λ none.
    let s = sound begun last first seven (stated_length seven rest) none in
    fits_key masked first (stated_length seven rest) (2 + length_bytes seven) (drop (length_bytes seven) rest) begun count
    (two_more (length_bytes seven))
    (key_within (length_bytes seven) (length rest) (length (drop (length_bytes seven) rest)) count (leb-true _ _ e) h
    (length-drop (length_bytes seven) rest)) s.small s.room)
fits_length_by false masked begun last first seven rest count h e = tt

fits_second : (masked : Bool) (begun : Option ℕ) (last : Bool) (first : ℕ) (bytes : List ℕ) (count : ℕ) → 1 + length bytes ≤ count
    → Fits begun count (second_step masked begun last first bytes)
fits_second masked begun last first [] count h = tt
fits_second masked begun last first (second ∷ rest) count h =
    unless_fits begun count (second_fault masked first second) _ (λ none.
    fits_length_by (nat_le (length_bytes (seven_bits second)) (length rest)) masked begun last first (seven_bits second) rest count
    (omega arith) refl)

pub fits_head : (masked : Bool) (begun : Option ℕ) (last : Bool) (bytes : List ℕ)
    → Fits begun (length bytes) (head_of masked begun last bytes)
fits_head masked begun last [] = tt
fits_head masked begun last (first ∷ rest) =
    unless_fits begun (length (first ∷ rest)) (first_fault begun first) _ (λ none.
    fits_second masked begun last first rest (length (first ∷ rest)) (omega arith))

-- ---- what is decided stays

abbrev pub Stays : HeadStep → HeadStep → Type 0
Stays More later = ⊤
Stays (Head head) later = later ≡ Head head
Stays (Fault fault) later = later ≡ Fault fault

unless_stays : (fault : Option FrameFault) (step later : HeadStep) → Stays step later → Stays (unless fault step) (unless fault later)
unless_stays None step later h = h
unless_stays (Some fault) step later h = refl

pub le_append : (w : ℕ) (rest more : List ℕ) → w ≤ length rest → w ≤ length (rest ++ more)
le_append w rest more h = omega (arith, length-append rest more)

key_stays_by : (b : Bool) (first stated size : ℕ) (rest more : List ℕ) → nat_le 4 (length rest) ≡ b
    → Stays (if b then head_step first stated (Some (take 4 rest)) (size + 4) else More) (key_step true first stated size (rest ++ more))
key_stays_by true first stated size rest more e =
    let four = leb-true 4 (length rest) e in
    ap (λ (b : Bool). if b then head_step first stated (Some (take 4 (rest ++ more))) (size + 4) else More)
    (le-leb 4 (length (rest ++ more)) (le_append 4 rest more four))
    ∙ ap (λ (key : List ℕ). head_step first stated (Some key) (size + 4)) (take-append-le 4 rest more four)
key_stays_by false first stated size rest more e = tt

key_stays : (masked : Bool) (first stated size : ℕ) (rest more : List ℕ)
    → Stays (key_step masked first stated size rest) (key_step masked first stated size (rest ++ more))
key_stays false first stated size rest more = refl
key_stays true first stated size rest more = key_stays_by (nat_le 4 (length rest)) first stated size rest more refl

pub be16 : (rest more : List ℕ) → 2 ≤ length rest → from_be_bytes w16 (rest ++ more) ≡ from_be_bytes w16 rest
be16 [] more h = absurd (omega arith)
be16 (a ∷ []) more h = absurd (omega arith)
be16 (a ∷ b ∷ rest) more h = refl

pub be64 : (rest more : List ℕ) → 8 ≤ length rest → from_be_bytes w64 (rest ++ more) ≡ from_be_bytes w64 rest
be64 [] more h = absurd (omega arith)
be64 (a ∷ []) more h = absurd (omega arith)
be64 (a ∷ b ∷ []) more h = absurd (omega arith)
be64 (a ∷ b ∷ c ∷ []) more h = absurd (omega arith)
be64 (a ∷ b ∷ c ∷ d ∷ []) more h = absurd (omega arith)
be64 (a ∷ b ∷ c ∷ d ∷ e ∷ []) more h = absurd (omega arith)
be64 (a ∷ b ∷ c ∷ d ∷ e ∷ f ∷ []) more h = absurd (omega arith)
be64 (a ∷ b ∷ c ∷ d ∷ e ∷ f ∷ g ∷ []) more h = absurd (omega arith)
be64 (a ∷ b ∷ c ∷ d ∷ e ∷ f ∷ g ∷ i ∷ rest) more h = refl

stated_stays_by : (p q : Bool) (seven : ℕ) (rest more : List ℕ) → (if p then 2 else (if q then 8 else 0)) ≤ length rest
    → (if p then from_be_bytes w16 (rest ++ more) else (if q then from_be_bytes w64 (rest ++ more) else seven))
    ≡ (if p then from_be_bytes w16 rest else (if q then from_be_bytes w64 rest else seven))
stated_stays_by true q seven rest more h = be16 rest more h
stated_stays_by false true seven rest more h = be64 rest more h
stated_stays_by false false seven rest more h = refl

pub stated_stays : (seven : ℕ) (rest more : List ℕ) → length_bytes seven ≤ length rest
    → stated_length seven (rest ++ more) ≡ stated_length seven rest
stated_stays seven rest more h = stated_stays_by (seven == 126) (seven == 127) seven rest more h

-- what is behind a length that was heard whole
abbrev pub told_behind : Bool → Option ℕ → Bool → ℕ → ℕ → ℕ → List ℕ → HeadStep
told_behind masked begun last first seven stated rest =
    unless (length_fault begun last first seven stated) (key_step masked first stated (2 + length_bytes seven) rest)

length_told : (masked : Bool) (begun : Option ℕ) (last : Bool) (first seven : ℕ) (rest more : List ℕ) → length_bytes seven ≤ length rest
    → length_step masked begun last first seven (rest ++ more)
    ≡ told_behind masked begun last first seven (stated_length seven rest) (drop (length_bytes seven) rest ++ more)
length_told masked begun last first seven rest more h =
    ap (λ (b : Bool). if b then told_behind masked begun last first seven (stated_length seven (rest ++ more)) (drop (length_bytes seven)
    (rest ++ more)) else More)
    (le-leb (length_bytes seven) (length (rest ++ more)) (le_append (length_bytes seven) rest more h))
    ∙ ap₂ (λ (stated : ℕ) (later : List ℕ). told_behind masked begun last first seven stated later)
    (stated_stays seven rest more h) (drop-append-le (length_bytes seven) rest more h)

length_stays_by : (b masked : Bool) (begun : Option ℕ) (last : Bool) (first seven : ℕ) (rest more : List ℕ)
    → nat_le (length_bytes seven) (length rest) ≡ b
    → Stays (if b then told_behind masked begun last first seven (stated_length seven rest) (drop (length_bytes seven) rest) else More)
    (length_step masked begun last first seven (rest ++ more))
length_stays_by true masked begun last first seven rest more e =
    let now = told_behind masked begun last first seven (stated_length seven rest) (drop (length_bytes seven) rest) in
    subst (λ (later : HeadStep). Stays now later) (sym (length_told masked begun last first seven rest more (leb-true _ _ e)))
    (unless_stays (length_fault begun last first seven (stated_length seven rest)) _ _
    (key_stays masked first (stated_length seven rest) (2 + length_bytes seven) (drop (length_bytes seven) rest) more))
length_stays_by false masked begun last first seven rest more e = tt

second_stays : (masked : Bool) (begun : Option ℕ) (last : Bool) (first : ℕ) (bytes more : List ℕ)
    → Stays (second_step masked begun last first bytes) (second_step masked begun last first (bytes ++ more))
second_stays masked begun last first [] more = tt
second_stays masked begun last first (second ∷ rest) more =
    unless_stays (second_fault masked first second) _ _
    (length_stays_by (nat_le (length_bytes (seven_bits second)) (length rest)) masked begun last first (seven_bits second) rest more refl)

pub head_stays : (masked : Bool) (begun : Option ℕ) (last : Bool) (bytes more : List ℕ)
    → Stays (head_of masked begun last bytes) (head_of masked begun last (bytes ++ more))
head_stays masked begun last [] more = tt
head_stays masked begun last (first ∷ rest) more =
    unless_stays (first_fault begun first) _ _ (second_stays masked begun last first rest more)

-- ---- a length is judged once

abbrev pub NotFault : HeadStep → Type 0
NotFault More = ⊤
NotFault (Head head) = ⊤
NotFault (Fault fault) = ⊥

pub no_fault : (fault : Option FrameFault) (step : HeadStep) → NotFault (unless fault step) → fault ≡ None
no_fault None step h = refl
no_fault (Some fault) step h = absurd h

unless_same : (fault : Option FrameFault) (step one other : HeadStep) → NotFault (unless fault step) → (NotFault step → one ≡ other)
    → unless fault one ≡ unless fault other
unless_same None step one other n h = h n
unless_same (Some fault) step one other n h = refl

judged_length : (masked : Bool) (begun : Option ℕ) (last : Bool) (first seven : ℕ) (rest more : List ℕ) → length_bytes seven ≤ length rest
    → NotFault (length_step masked begun last first seven rest)
    → length_step masked begun last first seven (rest ++ more) ≡ length_step masked begun false first seven (rest ++ more)
judged_length masked begun last first seven rest more h n =
    let stated = stated_length seven rest in
    let later = drop (length_bytes seven) rest ++ more in
    let whole : length_step masked begun last first seven rest ≡ told_behind masked begun last first seven stated (drop (length_bytes seven) rest) =
    ap (λ (b : Bool). if b then told_behind masked begun last first seven stated (drop (length_bytes seven) rest) else More)
    (le-leb (length_bytes seven) (length rest) h) in
    let none = no_fault (length_fault begun last first seven stated) _ (subst NotFault whole n) in
    let same : length_fault begun last first seven stated ≡ length_fault begun false first seven stated =
    none ∙ sym (judged_fault begun last first seven stated none) in
    length_told masked begun last first seven rest more h
    ∙ ap (λ (fault : Option FrameFault). unless fault (key_step masked first stated (2 + length_bytes seven) later)) same
    ∙ sym (length_told masked begun false first seven rest more h)

-- a frame whose length was heard whole without a fault is read on in the same way, however many messages may be completed then
pub judged_head : (masked : Bool) (begun : Option ℕ) (last : Bool) (bytes more : List ℕ) → has_length bytes ≡ true
    → NotFault (head_of masked begun last bytes)
    → head_of masked begun last (bytes ++ more) ≡ head_of masked begun false (bytes ++ more)
judged_head masked begun last [] more e n = absurd (true_false (sym e))
judged_head masked begun last (first ∷ []) more e n = absurd (true_false (sym e))
judged_head masked begun last (first ∷ second ∷ rest) more e n =
    unless_same (first_fault begun first) (second_step masked begun last first (second ∷ rest)) _ _ n (λ m.
    unless_same (second_fault masked first second) (length_step masked begun last first (seven_bits second) rest) _ _ m (λ k.
    judged_length masked begun last first (seven_bits second) rest more (leb-true _ _ e) k))

-- a length that was heard whole is heard whole in more bytes
pub has_length_on : (bytes more : List ℕ) → has_length bytes ≡ true → has_length (bytes ++ more) ≡ true
has_length_on [] more e = absurd (true_false (sym e))
has_length_on (first ∷ []) more e = absurd (true_false (sym e))
has_length_on (first ∷ second ∷ rest) more e =
    le-leb (length_bytes (seven_bits second)) (length (rest ++ more))
    (le_append (length_bytes (seven_bits second)) rest more (leb-true _ _ e))
