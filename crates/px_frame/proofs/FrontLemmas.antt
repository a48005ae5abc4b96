-- What stands at the front of bytes: what is answered of it, that it stays, and that it is judged once.
use Rattle.std.proofs.Common.{◌≡◌, ◌∙◌, ℕ, ◌+◌, ◌-◌, ◌<◌, ◌≤◌, Bool, true, false, ◌&&◌, not, List, ◌++◌, length, take, drop, refl, sym, ap, ap₂, subst, arith, Option, Some, None}
use Rattle.std.specs.Prelude.{nat_le, if◌then◌else◌, ◌==◌, ⊤}
use Rattle.std.proofs.lemmas.Bool.{leb-true, le-leb}
use Rattle.std.proofs.lemmas.List.{length-drop, length-take-le, drop-drop, take-append-le, drop-append-le}
use Rattle.px_frame.specs.declared.fault.FrameFault.{FrameFault}
use Rattle.px_frame.specs.declared.frame.Frame.{Frame}
use Rattle.px_frame.specs.declared.frame.Standing.{Standing}
use Rattle.px_frame.specs.declared.frame.Front.TheVariants as answer
use Rattle.px_frame.specs.declared.frame.Front as answers
use Rattle.px_frame.specs.declared.head.FrameHead.{FrameHead}
use Rattle.px_frame.specs.declared.head.HeadStep.{HeadStep}
use Rattle.px_frame.specs.declared.head.HeadStep.TheVariants.{More, Head, Fault}
use Rattle.px_frame.specs.Head.{head_of, has_length, is_control, so_far, most}
use Rattle.px_frame.specs.HeadFits.{IsFitting, Fits}
use Rattle.px_frame.specs.Mask.{under_key}
use Rattle.px_frame.specs.Frames.{is_last, behind_data, Front, nothing, refused, stands, frame_of, front_behind, front_by, front}
use Rattle.px_frame.specs.Fronts.{IsFront, IsStandingBehind, IsBehind}
use Rattle.px_frame.proofs.MaskLemmas.{length-under_key}
use Rattle.px_frame.proofs.HeadLemmas.{true_false, fits_head, Stays, head_stays, NotFault, judged_head, le_append}

-- ---- what is answered

pub front_told : (masked : Bool) (at : Standing) (bytes : List ℕ) (last : Bool) (step other : HeadStep) → last ≡ is_last at
    → step ≡ head_of masked at.begun last bytes → step ≡ other → front masked at bytes ≡ front_by other bytes
front_told masked at bytes last step other same told is =
    ap (λ (s : HeadStep). front_by s bytes) (sym (told ∙ ap (λ (l : Bool). head_of masked at.begun l bytes) same) ∙ is)

pub fitting : (begun : Option ℕ) (count : ℕ) (step : HeadStep) (head : FrameHead) → Fits begun count step → step ≡ Head head
    → IsFitting begun count head
fitting begun count step head fits is = subst (λ (s : HeadStep). Fits begun count s) is fits

payload_within : (size n count tail : ℕ) → size ≤ count → n ≤ tail → tail ≡ count - size → size + n ≤ count
payload_within size n count tail a b c = omega arith

more_than : (size n : ℕ) → size ≤ size + n
more_than size n = omega arith

pub payload_stands : (head : FrameHead) (bytes payload : List ℕ) → head.size ≤ length bytes → head.length ≤ length (drop head.size bytes)
    → payload ≡ under_key head.key (take head.length (drop head.size bytes))
    → IsStandingBehind head bytes (record { fin = head.fin; opcode = head.opcode; payload = payload }) (head.size + head.length)
payload_stands head bytes payload size there is = record {
  front = ap (λ (b : Bool). if b then stands (frame_of head (drop head.size bytes)) (drop head.length (drop head.size bytes)) else nothing)
      (le-leb head.length (length (drop head.size bytes)) there)
      ∙ ap₂ (λ (p rest : List ℕ). stands (record { fin = head.fin; opcode = head.opcode; payload = p }) rest)
      (sym is) (drop-drop head.length head.size bytes);
  some = more_than head.size head.length;
  within = payload_within head.size head.length (length bytes) (length (drop head.size bytes)) size there (length-drop head.size bytes);
  opcode = refl;
  count = ap (λ (p : List ℕ). length p) is ∙ length-under_key head.key (take head.length (drop head.size bytes))
      ∙ length-take-le head.length (drop head.size bytes) there;
}

abbrev begun_of : Standing → Option ℕ
begun_of at = at.begun

room_data : (f : Bool) (at : Standing) (frame : Frame) → so_far at.begun + length frame.payload ≤ most
    → so_far (begun_of (if f then record { begun = None; left = at.left - 1; judged = false }
    else record { begun = Some (so_far at.begun + length frame.payload); left = at.left; judged = false })) ≤ most
room_data true at frame room = omega arith
room_data false at frame room = room

room_by : (b : Bool) (at : Standing) (frame : Frame) → is_control frame.opcode ≡ b
    → (is_control frame.opcode ≡ false → so_far at.begun + length frame.payload ≤ most) → so_far at.begun ≤ most
    → so_far (begun_of (if b then record { begun = at.begun; left = at.left; judged = false } else behind_data at frame)) ≤ most
room_by true at frame e room now = now
room_by false at frame e room now = room_data frame.fin at frame (room e)

at_least_one : (size used : ℕ) → 2 ≤ size → size ≤ used → 1 ≤ used
at_least_one size used a b = omega arith

pub front_from : (masked : Bool) (at : Standing) (bytes : List ℕ) (head : FrameHead) (given : answers.Front)
    → front masked at bytes ≡ front_behind head (drop head.size bytes) → IsFitting at.begun (length bytes) head → IsBehind head bytes given
    → IsFront masked at bytes given
front_from masked at bytes head answer.Nothing e fit h = e ∙ h
front_from masked at bytes head (answer.Refused fault) e fit h = absurd h
front_from masked at bytes head (answer.Stands frame used) e fit h = record {
  front = e ∙ h.front;
  some = at_least_one head.size used fit.some h.some;
  within = h.within;
  room = room_by (is_control frame.opcode) at frame refl
      (λ c. subst (λ (n : ℕ). so_far at.begun + n ≤ most) (sym h.count) (fit.room (ap (λ (n : ℕ). is_control n) (sym h.opcode) ∙ c)));
}

-- ---- what stands stays

abbrev pub FrontStays : Front → Front → List ℕ → Type 0
FrontStays nothing later more = ⊤
FrontStays (refused fault) later more = later ≡ refused fault
FrontStays (stands frame rest) later more = later ≡ stands frame (rest ++ more)

behind_stays : (b : Bool) (head : FrameHead) (bytes more : List ℕ) → nat_le head.length (length bytes) ≡ b
    → FrontStays (if b then stands (frame_of head bytes) (drop head.length bytes) else nothing) (front_behind head (bytes ++ more)) more
behind_stays true head bytes more e =
    let there = leb-true head.length (length bytes) e in
    ap (λ (b : Bool). if b then stands (frame_of head (bytes ++ more)) (drop head.length (bytes ++ more)) else nothing)
    (le-leb head.length (length (bytes ++ more)) (le_append head.length bytes more there))
    ∙ ap₂ (λ (p rest : List ℕ). stands (record { fin = head.fin; opcode = head.opcode; payload = under_key head.key p }) rest)
    (take-append-le head.length bytes more there) (drop-append-le head.length bytes more there)
behind_stays false head bytes more e = tt

front_by_stays : (step later : HeadStep) (begun : Option ℕ) (bytes more : List ℕ) → Fits begun (length bytes) step → Stays step later
    → FrontStays (front_by step bytes) (front_by later (bytes ++ more)) more
front_by_stays More later begun bytes more fits h = tt
front_by_stays (Fault fault) later begun bytes more fits h = ap (λ (s : HeadStep). front_by s (bytes ++ more)) h
front_by_stays (Head head) later begun bytes more fits h =
    let now = front_behind head (drop head.size bytes) in
    subst (λ (f : Front). FrontStays now f more)
    (sym (ap (λ (s : HeadStep). front_by s (bytes ++ more)) h
    ∙ ap (λ (l : List ℕ). front_behind head l) (drop-append-le head.size bytes more fits.within)))
    (behind_stays (nat_le head.length (length (drop head.size bytes))) head (drop head.size bytes) more refl)

pub front_stays : (masked : Bool) (at : Standing) (bytes more : List ℕ)
    → FrontStays (front masked at bytes) (front masked at (bytes ++ more)) more
front_stays masked at bytes more =
    front_by_stays (head_of masked at.begun (is_last at) bytes) (head_of masked at.begun (is_last at) (bytes ++ more)) at.begun bytes more
    (fits_head masked at.begun (is_last at) bytes) (head_stays masked at.begun (is_last at) bytes more)

pub stands_stays : (masked : Bool) (at : Standing) (bytes more : List ℕ) (frame : Frame) (rest : List ℕ) → front masked at bytes ≡ stands frame rest
    → front masked at (bytes ++ more) ≡ stands frame (rest ++ more)
stands_stays masked at bytes more frame rest e =
    subst (λ (f : Front). FrontStays f (front masked at (bytes ++ more)) more) e (front_stays masked at bytes more)

pub refused_stays : (masked : Bool) (at : Standing) (bytes more : List ℕ) (fault : FrameFault) → front masked at bytes ≡ refused fault
    → front masked at (bytes ++ more) ≡ refused fault
refused_stays masked at bytes more fault e =
    subst (λ (f : Front). FrontStays f (front masked at (bytes ++ more)) more) e (front_stays masked at bytes more)

-- ---- what stands uses a byte

shorter_by : (step : HeadStep) (begun : Option ℕ) (bytes : List ℕ) (frame : Frame) (rest : List ℕ) → Fits begun (length bytes) step
    → front_by step bytes ≡ stands frame rest → length rest < length bytes
shorter_by More begun bytes frame rest fits e = absurd (nothing_stands e)
  where
    nothing_stands : {f : Frame} {r : List ℕ} → nothing ≡ stands f r → ⊥
    nothing_stands e = cc
shorter_by (Fault fault) begun bytes frame rest fits e = absurd (refused_stands e)
  where
    refused_stands : {c : FrameFault} {f : Frame} {r : List ℕ} → refused c ≡ stands f r → ⊥
    refused_stands e = cc
shorter_by (Head head) begun bytes frame rest fits e =
    shorter_head (nat_le head.length (length (drop head.size bytes))) head bytes frame rest fits.some fits.within e
  where
    nothing_stands : {f : Frame} {r : List ℕ} → nothing ≡ stands f r → ⊥
    nothing_stands e = cc

    same_rest : {f g : Frame} {r s : List ℕ} → stands f r ≡ stands g s → r ≡ s
    same_rest e = cc

    counts : (size n count a b : ℕ) → 2 ≤ size → size ≤ count → a ≡ count - size → b ≡ a - n → b < count
    counts size n count a b p q r s = omega arith

    shorter_head : (b : Bool) (head : FrameHead) (bytes : List ℕ) (frame : Frame) (rest : List ℕ) → 2 ≤ head.size → head.size ≤ length bytes
        → (if b then stands (frame_of head (drop head.size bytes)) (drop head.length (drop head.size bytes)) else nothing) ≡ stands frame rest
        → length rest < length bytes
    shorter_head true head bytes frame rest some within e =
        counts head.size head.length (length bytes) (length (drop head.size bytes)) (length rest) some within
        (length-drop head.size bytes)
        (ap (λ (l : List ℕ). length l) (sym (same_rest e)) ∙ length-drop head.length (drop head.size bytes))
    shorter_head false head bytes frame rest some within e = absurd (nothing_stands e)

pub front_shorter : (masked : Bool) (at : Standing) (bytes : List ℕ) (frame : Frame) (rest : List ℕ) → front masked at bytes ≡ stands frame rest
    → length rest < length bytes
front_shorter masked at bytes frame rest e =
    shorter_by (head_of masked at.begun (is_last at) bytes) at.begun bytes frame rest (fits_head masked at.begun (is_last at) bytes) e

-- ---- a length is judged once

not_fault : (step : HeadStep) (bytes : List ℕ) → front_by step bytes ≡ nothing → NotFault step
not_fault More bytes e = tt
not_fault (Head head) bytes e = tt
not_fault (Fault fault) bytes e = refused_nothing e
  where
    refused_nothing : {c : FrameFault} → refused c ≡ nothing → ⊥
    refused_nothing e = cc

and_false : (b : Bool) → (b && false) ≡ false
and_false true = refl
and_false false = refl

judged_by : (heard : Bool) (masked : Bool) (begun : Option ℕ) (left : ℕ) (judged : Bool) (bytes more : List ℕ) → has_length bytes ≡ heard
    → (judged ≡ true → heard ≡ true) → NotFault (head_of masked begun (left == 0 && not judged) bytes)
    → head_of masked begun (left == 0 && not judged) (bytes ++ more) ≡ head_of masked begun (left == 0 && not heard) (bytes ++ more)
judged_by true masked begun left judged bytes more e seen n =
    judged_head masked begun (left == 0 && not judged) bytes more e n
    ∙ ap (λ (l : Bool). head_of masked begun l (bytes ++ more)) (sym (and_false (left == 0)))
judged_by false masked begun left true bytes more e seen n = absurd (true_false (sym (seen refl)))
judged_by false masked begun left false bytes more e seen n = refl

-- bytes that begin a frame are read on as the frame that has begun
pub front_judged : (masked : Bool) (at : Standing) (bytes more : List ℕ) → (at.judged ≡ true → has_length bytes ≡ true)
    → front masked at bytes ≡ nothing
    → front masked at (bytes ++ more) ≡ front masked (record { begun = at.begun; left = at.left; judged = has_length bytes }) (bytes ++ more)
front_judged masked at bytes more seen e =
    ap (λ (s : HeadStep). front_by s (bytes ++ more))
    (judged_by (has_length bytes) masked at.begun at.left at.judged bytes more refl seen
    (not_fault (head_of masked at.begun (is_last at) bytes) bytes e))
