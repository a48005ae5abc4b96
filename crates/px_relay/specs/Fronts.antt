-- What stands at the front of bytes: it may be written again, it uses the bytes in front of its rest, and where nothing stands the number of
-- messages that may be completed does not matter.
use Rattle.std.proofs.Common.{◌≡◌, ◌∙◌, ℕ, ◌+◌, ◌-◌, ◌<◌, ◌≤◌, Bool, true, false, ◌&&◌, List, [], ◌∷◌, append-nil, length, take, drop, All, refl, sym, ap, subst, arith, Option, Some, None}
use Rattle.std.specs.Prelude.{nat_le, nat_lt, if◌then◌else◌, ◌==◌, ⊤}
use Rattle.std.proofs.lemmas.Bool.{leb-true, ltb-false, eqb-true}
use Rattle.std.proofs.lemmas.List.Elements.{All-cons}
use Rattle.std.proofs.lemmas.List.{length-drop, length-take-le, drop-drop}
use Rattle.px_frame.specs.declared.fault.FrameFault.{FrameFault}
use Rattle.px_frame.specs.declared.fault.FrameFault.TheVariants.{Reserved, BadOpcode, SplitControl, LongControl}
use Rattle.px_frame.specs.declared.frame.Frame.{Frame}
use Rattle.px_frame.specs.declared.frame.Standing.{Standing}
use Rattle.px_frame.specs.declared.head.FrameHead.{FrameHead}
use Rattle.px_frame.specs.declared.head.HeadStep.{HeadStep}
use Rattle.px_frame.specs.declared.head.HeadStep.TheVariants.{More, Head, Fault}
use Rattle.px_frame.specs.Head.{is_final, reserved_bits, opcode_of, is_opcode, is_control, data_fault, opcode_fault, first_fault, seven_bits, mask_fault, or_else, long_fault, second_fault, length_bytes, stated_length, length_fault, unless, head_step, key_step, second_step, head_of, has_length}
use Rattle.px_frame.specs.HeadFits.{Fits}
use Rattle.px_frame.specs.Frames.{is_last, nothing, refused, stands, frame_of, front_by, front, IsFrames, ends, fails, goes, Ending}
use Rattle.px_frame.specs.Mask.{under_key}
use Rattle.px_frame.specs.Text.{MayWrite}
use Rattle.px_frame.proofs.HeadLemmas.{fits_head, some_none, true_false, NotFault, judged_head}
use Rattle.px_frame.proofs.FrontLemmas.{front_shorter}
use Rattle.px_frame.proofs.MaskLemmas.{length-under_key}

-- a frame that may be written
abbrev pub IsWritable : Frame → Type 0
IsWritable frame = MayWrite frame.fin frame.opcode (length frame.payload)

nothing_stands : {f : Frame} {r : List ℕ} → nothing ≡ stands f r → ⊥
nothing_stands e = cc

refused_stands : {c : FrameFault} {f : Frame} {r : List ℕ} → refused c ≡ stands f r → ⊥
refused_stands e = cc

same_frame : {f g : Frame} {r s : List ℕ} → stands f r ≡ stands g s → f ≡ g
same_frame e = cc

same_rest : {f g : Frame} {r s : List ℕ} → stands f r ≡ stands g s → r ≡ s
same_rest e = cc

-- ---- a frame that stands may be written

-- a head of such a byte 0 and such a length may
record IsFirst (first : ℕ) : Type 0 where
  defined : is_opcode (opcode_of first) ≡ true
  whole : is_control (opcode_of first) ≡ true → is_final first ≡ true

first_control : (f : Bool) → (if f then None else Some SplitControl) ≡ None → f ≡ true
first_control true e = refl
first_control false e = absurd (some_none SplitControl (sym (sym e)))

first_opcode : (c : Bool) (begun : Option ℕ) (first : ℕ) → is_control (opcode_of first) ≡ c →
    (if c then (if is_final first then None else Some SplitControl) else data_fault begun (opcode_of first)) ≡ None →
    is_control (opcode_of first) ≡ true → is_final first ≡ true
first_opcode true begun first is e control = first_control (is_final first) e
first_opcode false begun first is e control = absurd (true_false (sym control ∙ is))

first_by : (r o : Bool) (begun : Option ℕ) (first : ℕ) → is_opcode (opcode_of first) ≡ o →
    (if r then Some Reserved else (if o then opcode_fault begun first else Some BadOpcode)) ≡ None → IsFirst first
first_by true o begun first is e = absurd (some_none Reserved e)
first_by false true begun first is e = record { defined = is; whole = first_opcode (is_control (opcode_of first)) begun first refl e }
first_by false false begun first is e = absurd (some_none BadOpcode e)

first_good : (begun : Option ℕ) (first : ℕ) → first_fault begun first ≡ None → IsFirst first
first_good begun first e = first_by (nat_lt 0 (reserved_bits first)) (is_opcode (opcode_of first)) begun first refl e

long_by : (c l : Bool) (first second : ℕ) → is_control (opcode_of first) ≡ c → nat_lt 125 (seven_bits second) ≡ l →
    (if c && l then Some LongControl else None) ≡ None → is_control (opcode_of first) ≡ true → seven_bits second ≤ 125
long_by true true first second is long e control = absurd (some_none LongControl e)
long_by true false first second is long e control = ltb-false 125 (seven_bits second) long
long_by false l first second is long e control = absurd (true_false (sym control ∙ is))

second_none : (m l : Option FrameFault) → or_else m l ≡ None → l ≡ None
second_none None l e = e
second_none (Some fault) l e = absurd (some_none fault e)

second_good : (masked : Bool) (first second : ℕ) → second_fault masked first second ≡ None →
    is_control (opcode_of first) ≡ true → seven_bits second ≤ 125
second_good masked first second e =
    long_by (is_control (opcode_of first)) (nat_lt 125 (seven_bits second)) first second refl refl
    (second_none (mask_fault masked second) (long_fault first second) e)

stated_by : (p q : Bool) (seven : ℕ) (rest : List ℕ) (one two : ℕ) → (seven == 126) ≡ p → (seven == 127) ≡ q → seven ≤ 125 →
    (if p then one else (if q then two else seven)) ≤ 125
stated_by true q seven rest one two e f short = absurd (let is = eqb-true seven 126 e in omega arith)
stated_by false true seven rest one two e f short = absurd (let is = eqb-true seven 127 f in omega arith)
stated_by false false seven rest one two e f short = short

stated_short : (seven : ℕ) (rest : List ℕ) → seven ≤ 125 → stated_length seven rest ≤ 125
stated_short seven rest short = stated_by (seven == 126) (seven == 127) seven rest _ _ refl refl short

abbrev MayHead : HeadStep → Type 0
MayHead More = ⊤
MayHead (Head head) = MayWrite head.fin head.opcode head.length
MayHead (Fault fault) = ⊤

may_unless : (fault : Option FrameFault) (step : HeadStep) → (fault ≡ None → MayHead step) → MayHead (unless fault step)
may_unless None step h = h refl
may_unless (Some fault) step h = tt

may_masked : (b : Bool) (first stated size : ℕ) (rest : List ℕ) → MayWrite (is_final first) (opcode_of first) stated →
    MayHead (if b then head_step first stated (Some (take 4 rest)) (size + 4) else More)
may_masked true first stated size rest may = may
may_masked false first stated size rest may = tt

may_key : (masked : Bool) (first stated size : ℕ) (rest : List ℕ) → MayWrite (is_final first) (opcode_of first) stated →
    MayHead (key_step masked first stated size rest)
may_key false first stated size rest may = may
may_key true first stated size rest may = may_masked (nat_le 4 (length rest)) first stated size rest may

may_length : (b masked : Bool) (begun : Option ℕ) (last : Bool) (first seven : ℕ) (rest : List ℕ) → IsFirst first →
    (is_control (opcode_of first) ≡ true → seven ≤ 125) →
    MayHead (if b then unless (length_fault begun last first seven (stated_length seven rest))
    (key_step masked first (stated_length seven rest) (2 + length_bytes seven) (drop (length_bytes seven) rest)) else More)
may_length true masked begun last first seven rest good short =
    may_unless (length_fault begun last first seven (stated_length seven rest)) _
    (λ none. may_key masked first (stated_length seven rest) (2 + length_bytes seven) (drop (length_bytes seven) rest)
    (record { defined = good.defined; whole = good.whole; short = λ control. stated_short seven rest (short control) }))
may_length false masked begun last first seven rest good short = tt

may_second : (masked : Bool) (begun : Option ℕ) (last : Bool) (first : ℕ) (bytes : List ℕ) → IsFirst first →
    MayHead (second_step masked begun last first bytes)
may_second masked begun last first [] good = tt
may_second masked begun last first (second ∷ rest) good =
    may_unless (second_fault masked first second) _
    (λ none. may_length (nat_le (length_bytes (seven_bits second)) (length rest)) masked begun last first (seven_bits second) rest good
    (second_good masked first second none))

may_head : (masked : Bool) (begun : Option ℕ) (last : Bool) (bytes : List ℕ) → MayHead (head_of masked begun last bytes)
may_head masked begun last [] = tt
may_head masked begun last (first ∷ rest) =
    may_unless (first_fault begun first) _ (λ none. may_second masked begun last first rest (first_good begun first none))

-- what stands behind a head
record IsCut (head : FrameHead) (bytes : List ℕ) (frame : Frame) (rest : List ℕ) : Type 0 where
  there : head.length ≤ length bytes
  frame_is : frame_of head bytes ≡ frame
  rest_is : drop head.length bytes ≡ rest

cut_by : (b : Bool) (head : FrameHead) (bytes : List ℕ) (frame : Frame) (rest : List ℕ) → nat_le head.length (length bytes) ≡ b →
    (if b then stands (frame_of head bytes) (drop head.length bytes) else nothing) ≡ stands frame rest → IsCut head bytes frame rest
cut_by true head bytes frame rest t e = record { there = leb-true _ _ t; frame_is = same_frame e; rest_is = same_rest e }
cut_by false head bytes frame rest t e = absurd (nothing_stands e)

write_by : (step : HeadStep) (bytes : List ℕ) (frame : Frame) (rest : List ℕ) → MayHead step → front_by step bytes ≡ stands frame rest → IsWritable frame
write_by More bytes frame rest may e = absurd (nothing_stands e)
write_by (Fault fault) bytes frame rest may e = absurd (refused_stands e)
write_by (Head head) bytes frame rest may e =
    let behind = drop head.size bytes in
    let c = cut_by (nat_le head.length (length behind)) head behind frame rest refl e in
    let count : length (under_key head.key (take head.length behind)) ≡ head.length =
    length-under_key head.key (take head.length behind) ∙ length-take-le head.length behind c.there in
    subst IsWritable c.frame_is (subst (λ n. MayWrite head.fin head.opcode n) (sym count) may)

pub front_writable : (masked : Bool) (at : Standing) (bytes : List ℕ) (frame : Frame) (rest : List ℕ) → front masked at bytes ≡ stands frame rest →
    IsWritable frame
front_writable masked at bytes frame rest e =
    write_by (head_of masked at.begun (is_last at) bytes) bytes frame rest (may_head masked at.begun (is_last at) bytes) e

none_writable : All IsWritable []
none_writable = λ k d less. absurd (omega arith)

pub frames_writable : (masked : Bool) (at : Standing) (bytes : List ℕ) (frames : List Frame) (end : Ending) → IsFrames masked at bytes frames end →
    All IsWritable frames
frames_writable masked _ _ _ _ (ends at bytes e) = none_writable
frames_writable masked _ _ _ _ (fails at bytes cause e) = none_writable
frames_writable masked _ _ _ _ (goes at bytes more frame frames end e h) =
    All-cons IsWritable frame frames (front_writable masked at bytes frame more e) (frames_writable masked _ more frames end h)

-- ---- its rest

within_by : (size count all tail : ℕ) → size ≤ all → count ≤ tail → tail ≡ all - size → size + count ≤ all
within_by size count all tail a b c = omega arith

rest_by : (step : HeadStep) (begun : Option ℕ) (bytes : List ℕ) (frame : Frame) (rest : List ℕ) → Fits begun (length bytes) step →
    front_by step bytes ≡ stands frame rest → (count : ℕ) × (count ≤ length bytes) × (drop count bytes ≡ rest)
rest_by More begun bytes frame rest fits e = absurd (nothing_stands e)
rest_by (Fault fault) begun bytes frame rest fits e = absurd (refused_stands e)
rest_by (Head head) begun bytes frame rest fits e =
    let behind = drop head.size bytes in
    let c = cut_by (nat_le head.length (length behind)) head behind frame rest refl e in (
      head.size + head.length,
      within_by head.size head.length (length bytes) (length behind) fits.within c.there (length-drop head.size bytes),
      sym (drop-drop head.length head.size bytes) ∙ c.rest_is,
    )

back_by : (count all tail : ℕ) → count ≤ all → tail ≡ all - count → all - tail ≡ count
back_by count all tail within is = omega arith

-- the bytes in front of its rest
pub front_rest : (masked : Bool) (at : Standing) (bytes : List ℕ) (frame : Frame) (rest : List ℕ) → front masked at bytes ≡ stands frame rest →
    drop (length bytes - length rest) bytes ≡ rest
front_rest masked at bytes frame rest e =
    let r = rest_by (head_of masked at.begun (is_last at) bytes) at.begun bytes frame rest (fits_head masked at.begun (is_last at) bytes) e in
    let long : length rest ≡ length bytes - r.0 = ap length (sym r.2) ∙ length-drop r.0 bytes in
    ap (λ n. drop n bytes) (back_by r.0 (length bytes) (length rest) r.1 long) ∙ r.2

behind_by : (used all tail : ℕ) → used ≤ all → tail ≤ all - used → used + ((all - used) - tail) ≡ all - tail
behind_by used all tail a b = omega arith

-- and the same of all bytes of a side, of which so many were used
pub rest_of_all : (masked : Bool) (at : Standing) (used : ℕ) (bytes : List ℕ) (frame : Frame) (rest : List ℕ) →
    front masked at (drop used bytes) ≡ stands frame rest →
    (drop (length bytes - length rest) bytes ≡ rest) × (length rest < length (drop used bytes)) × (used < length bytes - length rest) × (length rest ≤ length bytes)
rest_of_all masked at used bytes frame rest e =
    let unread = drop used bytes in
    let less = front_shorter masked at unread frame rest e in
    let long = length-drop used bytes in
    let within : used ≤ length bytes = omega arith in
    let count : used + (length unread - length rest) ≡ length bytes - length rest =
    ap (λ n. used + (n - length rest)) long ∙ behind_by used (length bytes) (length rest) within (omega arith) in (
      ap (λ n. drop n bytes) (sym count) ∙ (sym (drop-drop (length unread - length rest) used bytes) ∙ front_rest masked at unread frame rest e),
      less,
      omega arith,
      omega arith,
    )

-- ---- nothing stands

short_by : (b masked : Bool) (begun : Option ℕ) (last another : Bool) (first seven : ℕ) (rest : List ℕ) → b ≡ false →
    (if b then unless (length_fault begun last first seven (stated_length seven rest))
    (key_step masked first (stated_length seven rest) (2 + length_bytes seven) (drop (length_bytes seven) rest)) else More)
    ≡ (if b then unless (length_fault begun another first seven (stated_length seven rest))
    (key_step masked first (stated_length seven rest) (2 + length_bytes seven) (drop (length_bytes seven) rest)) else More)
short_by true masked begun last another first seven rest e = absurd (true_false e)
short_by false masked begun last another first seven rest e = refl

-- a length that was not heard whole is not judged
unjudged : (masked : Bool) (begun : Option ℕ) (last another : Bool) (bytes : List ℕ) → has_length bytes ≡ false →
    head_of masked begun last bytes ≡ head_of masked begun another bytes
unjudged masked begun last another [] e = refl
unjudged masked begun last another (first ∷ []) e = refl
unjudged masked begun last another (first ∷ second ∷ rest) e =
    ap (λ s. unless (first_fault begun first) (unless (second_fault masked first second) s))
    (short_by (nat_le (length_bytes (seven_bits second)) (length rest)) masked begun last another first (seven_bits second) rest e)

not_fault : (step : HeadStep) (bytes : List ℕ) → front_by step bytes ≡ nothing → NotFault step
not_fault More bytes e = tt
not_fault (Head head) bytes e = tt
not_fault (Fault fault) bytes e = refused_nothing e
  where
    refused_nothing : {c : FrameFault} → refused c ≡ nothing → ⊥
    refused_nothing e = cc

judged_same : (masked : Bool) (begun : Option ℕ) (last : Bool) (bytes : List ℕ) → has_length bytes ≡ true → NotFault (head_of masked begun last bytes) →
    head_of masked begun last bytes ≡ head_of masked begun false bytes
judged_same masked begun last bytes e n =
    ap (λ b. head_of masked begun last b) (sym (append-nil bytes)) ∙ (judged_head masked begun last bytes [] e n
    ∙ ap (λ b. head_of masked begun false b) (append-nil bytes))

and_false : (b : Bool) → (b && false) ≡ false
and_false true = refl
and_false false = refl

idle_by : (heard masked : Bool) (begun : Option ℕ) (last : Bool) (left : ℕ) (bytes : List ℕ) → has_length bytes ≡ heard →
    front_by (head_of masked begun last bytes) bytes ≡ nothing → front masked (record { begun = begun; left = left; judged = heard }) bytes ≡ nothing
idle_by true masked begun last left bytes is e =
    ap (λ l. front_by (head_of masked begun l bytes) bytes) (and_false (left == 0))
    ∙ (ap (λ s. front_by s bytes) (sym (judged_same masked begun last bytes is (not_fault (head_of masked begun last bytes) bytes e))) ∙ e)
idle_by false masked begun last left bytes is e =
    ap (λ s. front_by s bytes) (unjudged masked begun (left == 0 && true) last bytes is) ∙ e

-- where nothing stands nothing does for any number of messages left, with the length judged where it was heard
pub stays_idle : (masked : Bool) (at : Standing) (left : ℕ) (bytes : List ℕ) → front masked at bytes ≡ nothing →
    front masked (record { begun = at.begun; left = left; judged = has_length bytes }) bytes ≡ nothing
stays_idle masked at left bytes e =
    idle_by (has_length bytes) masked at.begun (is_last at) left bytes refl e
