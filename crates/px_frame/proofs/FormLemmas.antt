-- That whatever is read is what would be written.
use Rattle.std.proofs.Common.{◌≡◌, ◌∙◌, ℕ, zero, suc, ◌+◌, ◌/◌, ◌%◌, ◌<◌, ◌≤◌, Bool, true, false, List, [], ◌∷◌, ◌++◌, append_assoc, length, take, drop, get_or, refl, sym, ap, ap₂, subst, arith, length-append, Option, Some, None, All}
use Rattle.std.specs.Prelude.{nat_le, nat_lt, if◌then◌else◌, ◌==◌, is_some}
use Rattle.std.specs.Int.{from_be_bytes, to_be_bytes, w16, w64}
use Rattle.std.proofs.lemmas.Bool.{leb-true, leb-false, le-leb, ltb-false, eqb-true, eqb-false}
use Rattle.std.proofs.lemmas.List.{drop_at, length-take-le, take-append-drop}
use Rattle.std.proofs.lemmas.List.Elements.{All-take}
use Rattle.std.proofs.lemmas.Nat.{be_bytes_2, be_bytes_8}
use Rattle.px_frame.specs.declared.fault.FrameFault.{FrameFault}
use Rattle.px_frame.specs.declared.fault.FrameFault.TheVariants.{Reserved, BadOpcode}
use Rattle.px_frame.specs.declared.frame.Frame.{Frame}
use Rattle.px_frame.specs.declared.frame.Standing.{Standing}
use Rattle.px_frame.specs.declared.head.FrameHead.{FrameHead}
use Rattle.px_frame.specs.declared.head.HeadStep.{HeadStep}
use Rattle.px_frame.specs.declared.head.HeadStep.TheVariants.{More}
use Rattle.px_frame.specs.Head.{is_final, reserved_bits, opcode_of, is_opcode, opcode_fault, first_fault, is_masked, seven_bits, mask_fault, long_fault, second_fault, length_bytes, stated_length, least_stated, length_fault, unless, head_step, key_step, length_step, second_step}
use Rattle.px_frame.specs.Mask.{under_key}
use Rattle.px_frame.specs.Frames.{is_last, nothing, refused, stands, frame_of, front_behind, front_by, front}
use Rattle.px_frame.specs.Text.{high, key_bytes, length_text, frame_text, IsKey}
use Rattle.px_frame.proofs.HeadLemmas.{some_none, be16, be64, told_behind, sound}
use Rattle.px_frame.proofs.MaskLemmas.{length-under_key, under_key_twice}
use Rattle.px_frame.proofs.WrittenLemmas.{not_le, regroup, no_key, four_more, first_none, mask_none}

nothing_stands : {f : Frame} {r : List ℕ} → nothing ≡ stands f r → ⊥
nothing_stands e = cc

refused_stands : {c : FrameFault} {f : Frame} {r : List ℕ} → refused c ≡ stands f r → ⊥
refused_stands e = cc

same_frame : {f g : Frame} {r s : List ℕ} → stands f r ≡ stands g s → f ≡ g
same_frame e = cc

same_rest : {f g : Frame} {r s : List ℕ} → stands f r ≡ stands g s → r ≡ s
same_rest e = cc

-- ---- bytes below 256

abbrev IsByte : ℕ → Type 0
IsByte b = b < 256

later_bytes : (b : ℕ) (bytes : List ℕ) → All IsByte (b ∷ bytes) → All IsByte bytes
later_bytes b bytes h = λ k d l. h (suc k) d (omega arith)

first_byte : (b : ℕ) (bytes : List ℕ) → All IsByte (b ∷ bytes) → b < 256
first_byte b bytes h = h 0 0 (omega arith)

below : (bytes : List ℕ) → All IsByte bytes → (i : ℕ) → get_or bytes i 0 < 256
below [] h i = omega arith
below (b ∷ bytes) h zero = first_byte b bytes h
below (b ∷ bytes) h (suc i) = below bytes (later_bytes b bytes h) i

small16 : (bytes : List ℕ) → ((i : ℕ) → get_or bytes i 0 < 256) → from_be_bytes w16 bytes ≤ 65535
small16 bytes h = omega (arith, h 0, h 1)

-- ---- the parts of byte 0 and byte 1

lead_by : (b : Bool) (first : ℕ) → nat_le 128 first ≡ b → first < 256 → first / 16 % 8 ≡ 0 → high b + first % 16 ≡ first
lead_by true first e small none = let t = leb-true 128 first e in omega arith
lead_by false first e small none = let t = leb-false 128 first e in omega arith

reserved_by : (b : Bool) (first : ℕ) (begun : Option ℕ) → nat_lt 0 (reserved_bits first) ≡ b
    → (if b then Some Reserved else (if is_opcode (opcode_of first) then opcode_fault begun first else Some BadOpcode)) ≡ None
    → reserved_bits first ≡ 0
reserved_by true first begun e none = absurd (some_none Reserved none)
reserved_by false first begun e none = let t = ltb-false 0 (reserved_bits first) e in omega arith

lead : (first : ℕ) (begun : Option ℕ) → first < 256 → first_fault begun first ≡ None → high (is_final first) + opcode_of first ≡ first
lead first begun small none =
    lead_by (nat_le 128 first) first refl small (reserved_by (nat_lt 0 (reserved_bits first)) first begun refl none)

second_by : (b : Bool) (second : ℕ) → nat_le 128 second ≡ b → second < 256 → high b + second % 128 ≡ second
second_by true second e small = let t = leb-true 128 second e in omega arith
second_by false second e small = let t = leb-false 128 second e in omega arith

-- ---- the length

text_short : (masked : Bool) (n : ℕ) → n ≤ 125 → length_text masked n ≡ (high masked + n) ∷ []
text_short masked n h =
    ap (λ (b : Bool). if b then (high masked + n) ∷ [] else (if nat_le n 65535 then (high masked + 126) ∷ to_be_bytes w16 n else
    (high masked + 127) ∷ to_be_bytes w64 n))
    (le-leb n 125 h)

text_middle : (masked : Bool) (n : ℕ) → 126 ≤ n → n ≤ 65535 → length_text masked n ≡ (high masked + 126) ∷ to_be_bytes w16 n
text_middle masked n h i =
    ap (λ (b : Bool). if b then (high masked + n) ∷ [] else (if nat_le n 65535 then (high masked + 126) ∷ to_be_bytes w16 n else
    (high masked + 127) ∷ to_be_bytes w64 n))
    (not_le n 125 (omega arith))
    ∙ ap (λ (b : Bool). if b then (high masked + 126) ∷ to_be_bytes w16 n else (high masked + 127) ∷ to_be_bytes w64 n) (le-leb n 65535 i)

text_long : (masked : Bool) (n : ℕ) → 65536 ≤ n → length_text masked n ≡ (high masked + 127) ∷ to_be_bytes w64 n
text_long masked n h =
    ap (λ (b : Bool). if b then (high masked + n) ∷ [] else (if nat_le n 65535 then (high masked + 126) ∷ to_be_bytes w16 n else
    (high masked + 127) ∷ to_be_bytes w64 n))
    (not_le n 125 (omega arith))
    ∙ ap (λ (b : Bool). if b then (high masked + 126) ∷ to_be_bytes w16 n else (high masked + 127) ∷ to_be_bytes w64 n) (not_le n 65535 (omega arith))

front16 : (rest : List ℕ) → 2 ≤ length rest → from_be_bytes w16 rest ≡ from_be_bytes w16 (take 2 rest)
front16 rest h =
    let two = length-take-le 2 rest h in
    ap (λ (l : List ℕ). from_be_bytes w16 l) (sym (take-append-drop 2 rest)) ∙ be16 (take 2 rest) (drop 2 rest) (omega arith)

front64 : (rest : List ℕ) → 8 ≤ length rest → from_be_bytes w64 rest ≡ from_be_bytes w64 (take 8 rest)
front64 rest h =
    let eight = length-take-le 8 rest h in
    ap (λ (l : List ℕ). from_be_bytes w64 l) (sym (take-append-drop 8 rest)) ∙ be64 (take 8 rest) (drop 8 rest) (omega arith)

form_middle : (masked : Bool) (rest : List ℕ) → All IsByte rest → 2 ≤ length rest → 126 ≤ from_be_bytes w16 rest
    → length_text masked (from_be_bytes w16 rest) ≡ (high masked + 126) ∷ take 2 rest
form_middle masked rest h two least =
    let bytes = below (take 2 rest) (All-take IsByte 2 rest h) in
    let same = front16 rest two in
    let small = small16 (take 2 rest) bytes in
    text_middle masked (from_be_bytes w16 rest) least (subst (λ (n : ℕ). n ≤ 65535) (sym same) small)
    ∙ ap (λ (l : List ℕ). (high masked + 126) ∷ l)
    (be_bytes_2 (take 2 rest) (from_be_bytes w16 rest) (length-take-le 2 rest two) bytes same)

form_long : (masked : Bool) (rest : List ℕ) → All IsByte rest → 8 ≤ length rest → 65536 ≤ from_be_bytes w64 rest
    → length_text masked (from_be_bytes w64 rest) ≡ (high masked + 127) ∷ take 8 rest
form_long masked rest h eight least =
    let bytes = below (take 8 rest) (All-take IsByte 8 rest h) in
    text_long masked (from_be_bytes w64 rest) least
    ∙ ap (λ (l : List ℕ). (high masked + 127) ∷ l)
    (be_bytes_8 (take 8 rest) (from_be_bytes w64 rest) (length-take-le 8 rest eight) bytes (front64 rest eight))

form_by : (p q masked : Bool) (seven : ℕ) (rest : List ℕ) → (seven == 126) ≡ p → (seven == 127) ≡ q → seven < 128 → All IsByte rest
    → (if p then 2 else (if q then 8 else 0)) ≤ length rest
    → (if p then 126 else (if q then 65536 else 0)) ≤ (if p then from_be_bytes w16 rest else (if q then from_be_bytes w64 rest else seven))
    → length_text masked (if p then from_be_bytes w16 rest else (if q then from_be_bytes w64 rest else seven))
    ≡ (high masked + seven) ∷ take (if p then 2 else (if q then 8 else 0)) rest
form_by true q masked seven rest e f small h there least =
    form_middle masked rest h there least ∙ ap (λ (n : ℕ). (high masked + n) ∷ take 2 rest) (sym (eqb-true seven 126 e))
form_by false true masked seven rest e f small h there least =
    form_long masked rest h there least ∙ ap (λ (n : ℕ). (high masked + n) ∷ take 8 rest) (sym (eqb-true seven 127 f))
form_by false false masked seven rest e f small h there least =
    let a = eqb-false seven 126 e in
    let b = eqb-false seven 127 f in
    text_short masked seven (omega arith)

form_of : (second : ℕ) (rest : List ℕ) → second < 256 → All IsByte rest → length_bytes (seven_bits second) ≤ length rest
    → least_stated (seven_bits second) ≤ stated_length (seven_bits second) rest
    → length_text (is_masked second) (stated_length (seven_bits second) rest) ≡ second ∷ take (length_bytes (seven_bits second)) rest
form_of second rest small h there least =
    form_by (seven_bits second == 126) (seven_bits second == 127) (is_masked second) (seven_bits second) rest refl refl (less second) h there least
    ∙ ap (λ (n : ℕ). n ∷ take (length_bytes (seven_bits second)) rest) (second_by (nat_le 128 second) second refl small)
  where
    less : (n : ℕ) → n % 128 < 128
    less n = omega arith

-- ---- from a frame to its bytes

inv_unless : (fault : Option FrameFault) (step : HeadStep) (bytes : List ℕ) (frame : Frame) (rest : List ℕ)
    → front_by (unless fault step) bytes ≡ stands frame rest → (fault ≡ None) × (front_by step bytes ≡ stands frame rest)
inv_unless None step bytes frame rest e = (refl, e)
inv_unless (Some fault) step bytes frame rest e = absurd (refused_stands e)

inv_length_by : (b masked : Bool) (begun : Option ℕ) (last : Bool) (first seven : ℕ) (tail bytes : List ℕ) (frame : Frame) (rest : List ℕ)
    → nat_le (length_bytes seven) (length tail) ≡ b
    → front_by (if b then told_behind masked begun last first seven (stated_length seven tail) (drop
    (length_bytes seven) tail) else More) bytes ≡ stands frame rest
    → (length_bytes seven ≤ length tail)
    × (front_by (told_behind masked begun last first seven (stated_length seven tail) (drop (length_bytes seven) tail)) bytes ≡ stands frame rest)
inv_length_by true masked begun last first seven tail bytes frame rest t e = (leb-true _ _ t, e)
inv_length_by false masked begun last first seven tail bytes frame rest t e = absurd (nothing_stands e)

-- a head without its size, which tells nothing of the frame
abbrev plain : ℕ → ℕ → Option (List ℕ) → FrameHead
plain first stated key = record { fin = is_final first; opcode = opcode_of first; length = stated; key = key; size = 0 }

pub record IsKeyed (masked : Bool) (first stated size : ℕ) (tail bytes : List ℕ) (frame : Frame) (rest : List ℕ) : Type 0 where
  pub key : Option (List ℕ)
  pub is_key : IsKey key
  pub mask : masked ≡ is_some key
  pub later : List ℕ
  pub tail_is : tail ≡ key_bytes key ++ later
  pub stands_there : front_behind (plain first stated key) (drop (size + length (key_bytes key)) bytes) ≡ stands frame rest

inv_masked : (b : Bool) (first stated size : ℕ) (tail bytes : List ℕ) (frame : Frame) (rest : List ℕ) → nat_le 4 (length tail) ≡ b
    → front_by (if b then head_step first stated (Some (take 4 tail)) (size + 4) else More) bytes ≡ stands frame rest
    → IsKeyed true first stated size tail bytes frame rest
inv_masked true first stated size tail bytes frame rest t e =
    let four = length-take-le 4 tail (leb-true 4 (length tail) t) in
    record {
      key = Some (take 4 tail);
      is_key = four;
      mask = refl;
      later = drop 4 tail;
      tail_is = sym (take-append-drop 4 tail);
      stands_there = subst (λ (n : ℕ). front_behind (plain first stated (Some (take 4 tail))) (drop n bytes) ≡ stands frame rest)
          (four_more size (length (take 4 tail)) four) e;
    }
inv_masked false first stated size tail bytes frame rest t e = absurd (nothing_stands e)

inv_key : (masked : Bool) (first stated size : ℕ) (tail bytes : List ℕ) (frame : Frame) (rest : List ℕ)
    → front_by (key_step masked first stated size tail) bytes ≡ stands frame rest → IsKeyed masked first stated size tail bytes frame rest
inv_key false first stated size tail bytes frame rest e = record {
  key = None;
  is_key = tt;
  mask = refl;
  later = tail;
  tail_is = refl;
  stands_there = subst (λ (n : ℕ). front_behind (plain first stated None) (drop n bytes) ≡ stands frame rest) (no_key size) e;
}
inv_key true first stated size tail bytes frame rest e =
    inv_masked (nat_le 4 (length tail)) first stated size tail bytes frame rest refl e

inv_behind_by : (b : Bool) (head : FrameHead) (bytes : List ℕ) (frame : Frame) (rest : List ℕ) → nat_le head.length (length bytes) ≡ b
    → (if b then stands (frame_of head bytes) (drop head.length bytes) else nothing) ≡ stands frame rest
    → (head.length ≤ length bytes) × (frame_of head bytes ≡ frame) × (drop head.length bytes ≡ rest)
inv_behind_by true head bytes frame rest t e = (leb-true _ _ t, same_frame e, same_rest e)
inv_behind_by false head bytes frame rest t e = absurd (nothing_stands e)

long2 : (all further key w : ℕ) → all ≡ further + key → further ≡ w → suc (suc all) ≡ (2 + w) + key
long2 all further key w a b = omega arith

core : (masked : Bool) (at : Standing) (first second : ℕ) (rest : List ℕ) (frame : Frame) (behind : List ℕ) → All IsByte (first ∷ (second ∷ rest))
    → first_fault at.begun first ≡ None → second_fault masked first second ≡ None → length_bytes (seven_bits second) ≤ length rest
    → length_fault at.begun (is_last at) first (seven_bits second) (stated_length (seven_bits second) rest) ≡ None
    → IsKeyed masked first (stated_length (seven_bits second) rest) (2 + length_bytes (seven_bits second)) (drop (length_bytes
    (seven_bits second)) rest) (first ∷ (second ∷ rest)) frame behind
    → (key : Option (List ℕ)) × IsKey key × (first ∷ (second ∷ rest) ≡ frame_text frame.fin frame.opcode key frame.payload ++ behind)
core masked at first second rest frame behind h one two there three k =
    let w = length_bytes (seven_bits second) in
    let n = stated_length (seven_bits second) rest in
    let further = take w rest in
    let text = key_bytes k.key in
    let split : rest ≡ further ++ (text ++ k.later) =
    sym (take-append-drop w rest) ∙ ap (λ (l : List ℕ). further ++ l) k.tail_is in
    let long : length (first ∷ (second ∷ (further ++ text))) ≡ (2 + w) + length text =
    long2 (length (further ++ text)) (length further) (length text) w (length-append further text) (length-take-le w rest there) in
    let tail : drop ((2 + w) + length text) (first ∷ (second ∷ rest)) ≡ k.later =
    ap (λ (l : List ℕ). drop ((2 + w) + length text) (first ∷ (second ∷ l))) (split ∙ sym (append_assoc further text k.later))
    ∙ drop_at (first ∷ (second ∷ (further ++ text))) k.later ((2 + w) + length text) long in
    let b = inv_behind_by (nat_le n (length k.later)) (plain first n k.key) k.later frame behind refl
    (subst (λ (l : List ℕ). front_behind (plain first n k.key) l ≡ stands frame behind) tail k.stands_there) in
    let payload = under_key k.key (take n k.later) in
    let count : length payload ≡ n = length-under_key k.key (take n k.later) ∙ length-take-le n k.later b.0 in
    let mask : is_some k.key ≡ is_masked second = sym k.mask ∙ mask_none masked second (first_none (mask_fault masked second)
    (long_fault first second) two) in
    let s = sound at.begun (is_last at) first (seven_bits second) n three in
    let form : length_text (is_some k.key) n ≡ second ∷ further =
    ap (λ (m : Bool). length_text m n) mask
    ∙ form_of second rest (first_byte second rest (later_bytes first (second ∷ rest) h))
    (later_bytes second rest (later_bytes first (second ∷ rest) h)) there s.least in
    let lead_byte = high (is_final first) + opcode_of first in
    let all : frame_text (is_final first) (opcode_of first) k.key payload ++ drop n k.later ≡ first ∷ (second ∷ rest) =
    ap₂ (λ (l p : List ℕ). (((lead_byte ∷ (l ++ text))) ++ p) ++ drop n k.later)
    (ap (λ (m : ℕ). length_text (is_some k.key) m) count ∙ form) (under_key_twice k.key (take n k.later))
    ∙ ap (λ (l : List ℕ). lead_byte ∷ l) (regroup second further text (take n k.later) (drop n k.later)
    ∙ ap (λ (l : List ℕ). second ∷ (further ++ (text ++ l))) (take-append-drop n k.later)
    ∙ ap (λ (l : List ℕ). second ∷ l) (sym split))
    ∙ ap (λ (x : ℕ). x ∷ (second ∷ rest)) (lead first at.begun (first_byte first (second ∷ rest) h) one) in (
      k.key,
      k.is_key,
      subst (λ (r : List ℕ). first ∷ (second ∷ rest) ≡ frame_text frame.fin frame.opcode k.key frame.payload ++ r) b.2
          (subst (λ (f : Frame). first ∷ (second ∷ rest) ≡ frame_text f.fin f.opcode k.key f.payload ++ drop n k.later) b.1 (sym all)),
    )

pub read_written : (masked : Bool) (at : Standing) (bytes : List ℕ) (frame : Frame) (behind : List ℕ) → All (λ b. b < 256) bytes
    → front masked at bytes ≡ stands frame behind
    → (key : Option (List ℕ)) × IsKey key × (bytes ≡ frame_text frame.fin frame.opcode key frame.payload ++ behind)
read_written masked at [] frame behind h e = absurd (nothing_stands e)
read_written masked at (first ∷ []) frame behind h e =
    absurd (nothing_stands (inv_unless (first_fault at.begun first) More (first ∷ []) frame behind e).1)
read_written masked at (first ∷ second ∷ rest) frame behind h e =
    let bytes = first ∷ (second ∷ rest) in
    let seven = seven_bits second in
    let a = inv_unless (first_fault at.begun first) (second_step masked at.begun (is_last at) first (second ∷ rest)) bytes frame behind e in
    let b = inv_unless (second_fault masked first second) (length_step masked at.begun (is_last at) first seven rest) bytes frame behind a.1 in
    let c = inv_length_by (nat_le (length_bytes seven) (length rest)) masked at.begun (is_last at) first seven rest bytes frame behind refl b.1 in
    let d = inv_unless (length_fault at.begun (is_last at) first seven (stated_length seven rest))
    (key_step masked first (stated_length seven rest) (2 + length_bytes seven) (drop (length_bytes seven) rest)) bytes frame behind c.1 in
    core masked at first second rest frame behind h a.0 b.0 c.0 d.0
    (inv_key masked first (stated_length seven rest) (2 + length_bytes seven) (drop (length_bytes seven) rest) bytes frame behind d.1)
