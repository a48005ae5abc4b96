-- That what is written is read as itself.
use Rattle.std.proofs.Common.{◌≡◌, ◌≢◌, ◌∙◌, ℕ, suc, ◌+◌, ◌%◌, ◌^◌, ◌<◌, ◌≤◌, Bool, true, false, List, [], ◌∷◌, ◌++◌, append_assoc, append-nil, length, take, drop, refl, sym, ap, ap₂, subst, arith, length-append, Option, Some, None}
use Rattle.std.specs.Prelude.{nat_le, if◌then◌else◌, is_some}
use Rattle.std.specs.Int.{to_be_bytes, w16, w64}
use Rattle.std.proofs.lemmas.Bool.{leb-true, le-leb}
use Rattle.std.proofs.lemmas.List.{drop_at}
use Rattle.std.proofs.lemmas.Nat.{from_be_bytes-to_be_bytes_2, from_be_bytes-to_be_bytes_8}
use Rattle.std.proofs.Math.Seq.{take-append_seam}
use Rattle.px_frame.specs.declared.fault.FrameFault.{FrameFault}
use Rattle.px_frame.specs.declared.fault.FrameFault.TheVariants.{WrongMask}
use Rattle.px_frame.specs.declared.frame.Frame.{Frame}
use Rattle.px_frame.specs.declared.frame.Standing.{Standing}
use Rattle.px_frame.specs.declared.head.HeadStep.{HeadStep}
use Rattle.px_frame.specs.declared.head.HeadStep.TheVariants.{More, Head, Fault}
use Rattle.px_frame.specs.Head.{is_final, opcode_of, first_fault, is_masked, seven_bits, mask_fault, long_fault, or_else, second_fault, length_bytes, stated_length, length_fault, unless, head_step, key_step, length_step, head_of}
use Rattle.px_frame.specs.Mask.{under_key}
use Rattle.px_frame.specs.Frames.{is_last, behind, behind_all, nothing, refused, stands, front_behind, front_by, front, Ending, rest, IsFrames, goes}
use Rattle.px_frame.specs.Text.{high, key_bytes, length_text, head_text, frame_text, IsKey}
use Rattle.px_frame.proofs.HeadLemmas.{some_none, true_false, be16, be64, le_append, told_behind, NotFault}
use Rattle.px_frame.proofs.MaskLemmas.{length-under_key, under_key_twice}
use Rattle.px_frame.proofs.FramesLemmas.{all_judged, all_read, anew, cut, unique}

-- ---- bytes of which the highest bit is set, or not

pub not_le : (a b : ℕ) → b < a → nat_le a b ≡ false
not_le a b h = go (nat_le a b) refl
  where
    go : (v : Bool) → nat_le a b ≡ v → v ≡ false
    go true e = let t = leb-true a b e in absurd (omega arith)
    go false e = refl

pub high_bit : (bit : Bool) (n : ℕ) → n < 128 → nat_le 128 (high bit + n) ≡ bit
high_bit true n small = le-leb 128 (128 + n) (omega arith)
high_bit false n small = not_le 128 (0 + n) (omega arith)

pub low_bits : (bit : Bool) (n : ℕ) → n < 128 → (high bit + n) % 128 ≡ n
low_bits true n small = omega arith
low_bits false n small = omega arith

pub low_opcode : (bit : Bool) (n : ℕ) → n < 16 → (high bit + n) % 16 ≡ n
low_opcode true n small = omega arith
low_opcode false n small = omega arith

-- ---- a length as it is stated

pub record IsForm (masked : Bool) (count : ℕ) (text : List ℕ) : Type 0 where
  pub second : ℕ
  pub further : List ℕ
  pub text_is : text ≡ second ∷ further
  pub mask : is_masked second ≡ masked
  pub width : length_bytes (seven_bits second) ≡ length further
  pub stated : (more : List ℕ) → stated_length (seven_bits second) (further ++ more) ≡ count

no_more : (n : ℕ) → n ≤ 125 → length_bytes n ≡ 0
no_more n h = grind arith

itself : (n : ℕ) (bytes : List ℕ) → n ≤ 125 → stated_length n bytes ≡ n
itself n bytes h = grind arith

form_short : (masked : Bool) (count : ℕ) → count ≤ 125 → IsForm masked count ((high masked + count) ∷ [])
form_short masked count h =
    let seven = low_bits masked count (omega arith) in
    record {
      second = high masked + count;
      further = [];
      text_is = refl;
      mask = high_bit masked count (omega arith);
      width = ap (λ (n : ℕ). length_bytes n) seven ∙ no_more count h;
      stated = λ more. ap (λ (n : ℕ). stated_length n more) seven ∙ itself count more h;
    }

form_middle : (masked : Bool) (count : ℕ) → count < 2 ^ 16 → IsForm masked count ((high masked + 126) ∷ to_be_bytes w16 count)
form_middle masked count h =
    let seven = low_bits masked 126 (omega arith) in
    record {
      second = high masked + 126;
      further = to_be_bytes w16 count;
      text_is = refl;
      mask = high_bit masked 126 (omega arith);
      width = ap (λ (n : ℕ). length_bytes n) seven;
      stated = λ more. ap (λ (n : ℕ). stated_length n (to_be_bytes w16 count ++ more)) seven
          ∙ be16 (to_be_bytes w16 count) more (omega arith) ∙ from_be_bytes-to_be_bytes_2 count h;
    }

form_long : (masked : Bool) (count : ℕ) → count < 2 ^ 64 → IsForm masked count ((high masked + 127) ∷ to_be_bytes w64 count)
form_long masked count h =
    let seven = low_bits masked 127 (omega arith) in
    record {
      second = high masked + 127;
      further = to_be_bytes w64 count;
      text_is = refl;
      mask = high_bit masked 127 (omega arith);
      width = ap (λ (n : ℕ). length_bytes n) seven;
      stated = λ more. ap (λ (n : ℕ). stated_length n (to_be_bytes w64 count ++ more)) seven
          ∙ be64 (to_be_bytes w64 count) more (omega arith) ∙ from_be_bytes-to_be_bytes_8 count h;
    }

form_by : (p q : Bool) (masked : Bool) (count : ℕ) → nat_le count 125 ≡ p → nat_le count 65535 ≡ q → count < 2 ^ 64
    → IsForm masked count (if p then (high masked + count) ∷ []
    else (if q then (high masked + 126) ∷ to_be_bytes w16 count else (high masked + 127) ∷ to_be_bytes w64 count))
form_by true q masked count e f h = form_short masked count (leb-true count 125 e)
form_by false true masked count e f h = let t = leb-true count 65535 f in form_middle masked count (omega arith)
form_by false false masked count e f h = form_long masked count h

pub form : (masked : Bool) (count : ℕ) → count < 2 ^ 64 → IsForm masked count (length_text masked count)
form masked count h = form_by (nat_le count 125) (nat_le count 65535) masked count refl refl h

-- ---- a head as it is written

none3 : (a b c : Option FrameFault) (step : HeadStep) → NotFault (unless a (unless b (unless c step))) → (a ≡ None) × (b ≡ None) × (c ≡ None)
none3 None None None step n = (refl, refl, refl)
none3 None None (Some fault) step n = absurd n
none3 None (Some fault) c step n = absurd n
none3 (Some fault) b c step n = absurd n

without3 : (a b c : Option FrameFault) (step : HeadStep) → a ≡ None → b ≡ None → c ≡ None → unless a (unless b (unless c step)) ≡ step
without3 a b c step d e f =
    ap (λ (x : Option FrameFault). unless x (unless b (unless c step))) d
    ∙ ap (λ (x : Option FrameFault). unless x (unless c step)) e
    ∙ ap (λ (x : Option FrameFault). unless x step) f

pub first_none : (a b : Option FrameFault) → or_else a b ≡ None → a ≡ None
first_none None b e = refl
first_none (Some fault) b e = absurd (some_none fault e)

masked_as : (masked : Bool) (bit : Bool) → (if bit then None else Some WrongMask) ≡ None → true ≡ bit
masked_as masked true e = refl
masked_as masked false e = absurd (some_none WrongMask e)

not_masked_as : (bit : Bool) → (if bit then Some WrongMask else None) ≡ None → false ≡ bit
not_masked_as true e = absurd (some_none WrongMask e)
not_masked_as false e = refl

pub mask_none : (masked : Bool) (second : ℕ) → mask_fault masked second ≡ None → masked ≡ is_masked second
mask_none true second e = masked_as true (is_masked second) e
mask_none false second e = not_masked_as (is_masked second) e

length_whole : (masked : Bool) (begun : Option ℕ) (last : Bool) (first seven count : ℕ) (further tail : List ℕ)
    → length_bytes seven ≡ length further → stated_length seven (further ++ tail) ≡ count
    → length_step masked begun last first seven (further ++ tail) ≡ told_behind masked begun last first seven count tail
length_whole masked begun last first seven count further tail width stated =
    let within : length_bytes seven ≤ length further = subst (λ (n : ℕ). n ≤ length further) (sym width) (no_less (length further)) in
    ap (λ (b : Bool). if b then told_behind masked begun last first seven (stated_length seven (further ++ tail)) (drop
    (length_bytes seven) (further ++ tail)) else More)
    (le-leb (length_bytes seven) (length (further ++ tail)) (le_append (length_bytes seven) further tail within))
    ∙ ap₂ (λ (n : ℕ) (r : List ℕ). told_behind masked begun last first seven n r) stated (drop_at further tail (length_bytes seven) (sym width))
  where
    no_less : (n : ℕ) → n ≤ n
    no_less n = omega arith

head_whole : (masked : Bool) (begun : Option ℕ) (last : Bool) (first second count : ℕ) (further tail : List ℕ)
    → length_bytes (seven_bits second) ≡ length further → stated_length (seven_bits second) (further ++ tail) ≡ count
    → head_of masked begun last (first ∷ (second ∷ (further ++ tail)))
    ≡ unless (first_fault begun first) (unless (second_fault masked first second)
    (unless (length_fault begun last first (seven_bits second) count) (key_step masked first count (2 + length_bytes (seven_bits second)) tail)))
head_whole masked begun last first second count further tail width stated =
    ap (λ (s : HeadStep). unless (first_fault begun first) (unless (second_fault masked first second) s))
    (length_whole masked begun last first (seven_bits second) count further tail width stated)

pub no_key : (size : ℕ) → size ≡ size + 0
no_key size = omega arith

pub four_more : (size n : ℕ) → n ≡ 4 → size + 4 ≡ size + n
four_more size n e = omega arith

keyed_step : (key : Option (List ℕ)) (first count size : ℕ) (tail : List ℕ) → IsKey key
    → key_step (is_some key) first count size (key_bytes key ++ tail) ≡ head_step first count key (size + length (key_bytes key))
keyed_step None first count size tail k = ap (λ (n : ℕ). head_step first count None n) (no_key size)
keyed_step (Some key) first count size tail k =
    let four : 4 ≤ length (key ++ tail) = omega (arith, length-append key tail) in
    let front : take 4 (key ++ tail) ≡ key = ap (λ (n : ℕ). take n (key ++ tail)) (sym k) ∙ take-append_seam key tail in
    ap (λ (b : Bool). if b then head_step first count (Some (take 4 (key ++ tail))) (size + 4) else More) (le-leb 4 (length (key ++ tail)) four)
    ∙ ap₂ (λ (t : List ℕ) (n : ℕ). head_step first count (Some t) n) front (four_more size (length key) k)

-- ---- a frame as it is written

not_refused : (step : HeadStep) (bytes : List ℕ) → ((cause : FrameFault) → front_by step bytes ≢ refused cause) → NotFault step
not_refused More bytes clean = tt
not_refused (Head head) bytes clean = tt
not_refused (Fault fault) bytes clean = clean fault refl

counted : (n m t : ℕ) → m ≡ n → n ≤ m + t
counted n m t e = omega arith

behind_whole : (fin : Bool) (opcode : ℕ) (key : Option (List ℕ)) (size : ℕ) (payload more : List ℕ)
    → front_behind (record { fin = fin; opcode = opcode; length = length payload; key = key; size = size }) (under_key key payload ++ more)
    ≡ stands (record { fin = fin; opcode = opcode; payload = payload }) more
behind_whole fin opcode key size payload more =
    let text = under_key key payload in
    let count = length-under_key key payload in
    let there : length payload ≤ length (under_key key payload ++ more) =
    subst (λ (n : ℕ). length payload ≤ n) (sym (length-append (under_key key payload) more))
    (counted (length payload) (length (under_key key payload)) (length more) count) in
    let front : take (length payload) (under_key key payload ++ more) ≡ under_key key payload =
    ap (λ (n : ℕ). take n (under_key key payload ++ more)) (sym count) ∙ take-append_seam (under_key key payload) more in
    ap (λ (b : Bool). if b then stands (record {
      fin = fin;
      opcode = opcode;
      payload = under_key key (take (length payload)
          (text ++ more));
    }) (drop (length payload) (text ++ more)) else nothing)
    (le-leb (length payload) (length (text ++ more)) there)
    ∙ ap₂ (λ (p r : List ℕ). stands (record { fin = fin; opcode = opcode; payload = p }) r)
    (ap (λ (p : List ℕ). under_key key p) front ∙ under_key_twice key payload)
    (drop_at text more (length payload) count)

pub regroup : (second : ℕ) (further key text more : List ℕ)
    → (((second ∷ further) ++ key) ++ text) ++ more ≡ second ∷ (further ++ (key ++ (text ++ more)))
regroup second further key text more = simp append_assoc

sizes : (all part key further : ℕ) → all ≡ part + key → part ≡ suc further → suc all ≡ (2 + further) + key
sizes all part key further a b = omega arith

pub written_read : (masked : Bool) (at : Standing) (fin : Bool) (opcode : ℕ) (key : Option (List ℕ)) (payload more : List ℕ) → opcode < 16 → IsKey key
    → length payload < 2 ^ 64 → ((cause : FrameFault) → front masked at (frame_text fin opcode key payload) ≢ refused cause)
    → front masked at (frame_text fin opcode key payload ++ more) ≡ stands (record { fin = fin; opcode = opcode; payload = payload }) more
written_read masked at fin opcode key payload more small keyed short clean =
    let first = high fin + opcode in
    let count = length payload in
    let text = under_key key payload in
    let whole = frame_text fin opcode key payload in
    let f = form (is_some key) (length payload) short in
    let size = 2 + length_bytes (seven_bits f.second) in
    let step = λ (m : List ℕ). key_step masked first count size (key_bytes key ++ (text ++ m)) in
    let one = first_fault at.begun first in
    let two = second_fault masked first f.second in
    let three = length_fault at.begun (is_last at) first (seven_bits f.second) count in
    let shape = λ (m : List ℕ).
    ap (λ (l : List ℕ). first ∷ (((l ++ key_bytes key) ++ text) ++ m)) f.text_is
    ∙ ap (λ (l : List ℕ). first ∷ l) (regroup f.second f.further (key_bytes key) text m) in
    let heads = λ (m : List ℕ).
    ap (λ (l : List ℕ). head_of masked at.begun (is_last at) l) (shape m)
    ∙ head_whole masked at.begun (is_last at) first f.second count f.further (key_bytes key ++ (text ++ m)) f.width (f.stated
    (key_bytes key ++ (text ++ m))) in
    let n = subst NotFault (ap (λ (l : List ℕ). head_of masked at.begun (is_last at) l) (sym (append-nil whole)) ∙ heads [])
    (not_refused (head_of masked at.begun (is_last at) whole) whole clean) in
    let none = none3 one two three (step []) n in
    let mask : masked ≡ is_some key = mask_none masked f.second (first_none (mask_fault masked f.second)
    (long_fault first f.second) none.1) ∙ f.mask in
    let stated : head_of masked at.begun (is_last at) (whole ++ more) ≡ head_step first count key (size + length (key_bytes key)) =
    heads more ∙ without3 one two three (step more) none.0 none.1 none.2
    ∙ ap (λ (b : Bool). key_step b first count size (key_bytes key ++ (text ++ more))) mask
    ∙ keyed_step key first count size (text ++ more) keyed in
    let long : length (head_text fin opcode key count) ≡ size + length (key_bytes key) =
    sizes (length (length_text (is_some key) count ++ key_bytes key)) (length (length_text (is_some key) count)) (length (key_bytes key))
    (length f.further)
    (length-append (length_text (is_some key) count) (key_bytes key)) (ap (λ (l : List ℕ). length l) f.text_is)
    ∙ ap (λ (w : ℕ). (2 + w) + length (key_bytes key)) (sym f.width) in
    let tail : drop (size + length (key_bytes key)) (whole ++ more) ≡ text ++ more =
    ap (λ (l : List ℕ). drop (size + length (key_bytes key)) l) (append_assoc (head_text fin opcode key count) text more)
    ∙ drop_at (head_text fin opcode key count) (text ++ more) (size + length (key_bytes key)) long in
    ap (λ (s : HeadStep). front_by s (whole ++ more)) stated
    ∙ ap (λ (l : List ℕ). front_behind (record {
      fin = is_final first;
      opcode = opcode_of first;
      length = count;
      key = key;
      size = size +
          length (key_bytes key);
    }) l) tail
    ∙ behind_whole (is_final first) (opcode_of first) key (size + length (key_bytes key)) payload more
    ∙ ap₂ (λ (b : Bool) (o : ℕ). stands (record { fin = b; opcode = o; payload = payload }) more) (high_bit fin opcode (omega arith))
    (low_opcode fin opcode small)

anew_same : (at : Standing) → at.judged ≡ false → anew at [] ≡ at
anew_same at e = ap (λ (j : Bool). record { begun = at.begun; left = at.left; judged = j }) (sym e)

pub written_behind : (masked : Bool) (begun : Option ℕ) (left : ℕ) (bytes : List ℕ) (frames : List Frame)
    (fin : Bool) (opcode : ℕ) (key : Option (List ℕ)) (payload more : List ℕ) (given : List Frame) (end : Ending) →
    let at : Standing = record { begun = begun; left = left; judged = false } in
    IsFrames masked at bytes frames (rest []) → opcode < 16 → IsKey key → length payload < 2 ^ 64
    → ((cause : FrameFault) → front masked (behind_all at frames) (frame_text fin opcode key payload) ≢ refused cause)
    → IsFrames masked at (bytes ++ (frame_text fin opcode key payload ++ more)) given end
    → (later : List Frame) × (given ≡ frames ++ (record { fin = fin; opcode = opcode; payload = payload } ∷ later))
written_behind masked begun left bytes frames fin opcode key payload more given end h small keyed short clean g =
    let at : Standing = record { begun = begun; left = left; judged = false } in
    let frame : Frame = record { fin = fin; opcode = opcode; payload = payload } in
    let text = frame_text fin opcode key payload in
    let next = anew (behind_all at frames) [] in
    let same = anew_same (behind_all at frames) (all_judged at frames refl) in
    let clean' = subst (λ (s : Standing). (cause : FrameFault) → front masked s text ≢ refused cause) (sym same) clean in
    let r = all_read masked (behind next frame) more in
    let all = cut masked at bytes frames (rest []) [] (text ++ more) (frame ∷ r.0) r.1 (λ j. absurd (true_false (sym j))) h refl
    (goes next (text ++ more) more frame r.0 r.1 (written_read masked next fin opcode key payload more small keyed short clean') r.2) in
    (r.0, (unique masked at (bytes ++ (text ++ more)) given (frames ++ (frame ∷ r.0)) end r.1 g all).0)
