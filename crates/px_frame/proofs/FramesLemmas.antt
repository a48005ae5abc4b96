-- Laws of frames, one behind the other.
use Rattle.std.proofs.Common.{◌≡◌, ◌∙◌, ℕ, zero, suc, ◌+◌, ◌-◌, ◌<◌, Bool, true, false, List, [], ◌∷◌, ◌++◌, append_assoc, length, refl, sym, ap, subst, arith, Option, Some, None, Result, Ok, Err}
use Rattle.std.specs.Prelude.{⊤, if◌then◌else◌}
use Rattle.px_frame.specs.declared.fault.FrameFault.{FrameFault}
use Rattle.px_frame.specs.declared.fault.FrameError.{FrameError}
use Rattle.px_frame.specs.declared.frame.Frame.{Frame}
use Rattle.px_frame.specs.declared.frame.Standing.{Standing}
use Rattle.px_frame.specs.Head.{has_length, is_control, so_far}
use Rattle.px_frame.specs.Frames.{behind_data, behind, behind_all, Front, nothing, refused, stands, front, Ending, rest, fault, IsFrames, ends, fails, goes}
use Rattle.px_frame.specs.Reader.{Reading, standing, Answers, FeedsBy, Feeds}
use Rattle.px_frame.proofs.HeadLemmas.{true_false, has_length_on}
use Rattle.px_frame.proofs.ReadLemmas.{behind_all-append}
use Rattle.px_frame.proofs.FrontLemmas.{front_judged, stands_stays, refused_stays, front_shorter}

nothing_refused : {c : FrameFault} → nothing ≡ refused c → ⊥
nothing_refused e = cc

nothing_stands : {f : Frame} {r : List ℕ} → nothing ≡ stands f r → ⊥
nothing_stands e = cc

refused_stands : {c : FrameFault} {f : Frame} {r : List ℕ} → refused c ≡ stands f r → ⊥
refused_stands e = cc

same_frame : {f g : Frame} {r s : List ℕ} → stands f r ≡ stands g s → f ≡ g
same_frame e = cc

same_rest : {f g : Frame} {r s : List ℕ} → stands f r ≡ stands g s → r ≡ s
same_rest e = cc

same_cause : {c d : FrameFault} → refused c ≡ refused d → c ≡ d
same_cause e = cc

-- ---- by what stands at the front

pub at_nothing : (masked : Bool) (at : Standing) (bytes : List ℕ) (frames : List Frame) (end : Ending) → IsFrames masked at bytes frames end
    → front masked at bytes ≡ nothing → ([] ≡ frames) × (rest bytes ≡ end)
at_nothing masked _ _ _ _ (ends at bytes e) n = (refl, refl)
at_nothing masked _ _ _ _ (fails at bytes cause e) n = absurd (nothing_refused (sym n ∙ e))
at_nothing masked _ _ _ _ (goes at bytes more frame frames end e h) n = absurd (nothing_stands (sym n ∙ e))

pub at_refused : (masked : Bool) (at : Standing) (bytes : List ℕ) (frames : List Frame) (end : Ending) (cause : FrameFault)
    → IsFrames masked at bytes frames end → front masked at bytes ≡ refused cause → ([] ≡ frames) × (fault cause ≡ end)
at_refused masked _ _ _ _ cause (ends at bytes e) n = absurd (nothing_refused (sym e ∙ n))
at_refused masked _ _ _ _ cause (fails at bytes other e) n = (refl, ap (λ (c : FrameFault). fault c) (same_cause (sym n ∙ e)))
at_refused masked _ _ _ _ cause (goes at bytes more frame frames end e h) n = absurd (refused_stands (sym n ∙ e))

pub at_stands : (masked : Bool) (at : Standing) (bytes : List ℕ) (frames : List Frame) (end : Ending) (first : Frame) (more : List ℕ)
    → IsFrames masked at bytes frames end → front masked at bytes ≡ stands first more
    → (later : List Frame) × (first ∷ later ≡ frames) × IsFrames masked (behind at first) more later end
at_stands masked _ _ _ _ first more (ends at bytes e) n = absurd (nothing_stands (sym e ∙ n))
at_stands masked _ _ _ _ first more (fails at bytes cause e) n = absurd (refused_stands (sym e ∙ n))
at_stands masked _ _ _ _ first more (goes at bytes other frame frames end e h) n = (
  frames,
  ap (λ (f : Frame). f ∷ frames) (same_frame (sym n ∙ e)),
  subst (λ (f : Frame). IsFrames masked (behind at f) more frames end) (same_frame (sym e ∙ n))
      (subst (λ (b : List ℕ). IsFrames masked (behind at frame) b frames end) (same_rest (sym e ∙ n)) h),
)

-- ---- bytes are read in one way

pub unique : (masked : Bool) (at : Standing) (bytes : List ℕ) (frames others : List Frame) (end other : Ending) → IsFrames masked at bytes frames end
    → IsFrames masked at bytes others other → (frames ≡ others) × (end ≡ other)
unique masked _ _ _ others _ other (ends at bytes e) h = at_nothing masked at bytes others other h e
unique masked _ _ _ others _ other (fails at bytes cause e) h = at_refused masked at bytes others other cause h e
unique masked _ _ _ others _ other (goes at bytes more frame frames end e g) h =
    let s = at_stands masked at bytes others other frame more h e in
    let same = unique masked (behind at frame) more frames s.0 end other g s.2 in
    (ap (λ (l : List Frame). frame ∷ l) same.0 ∙ s.1, same.1)

-- ---- all bytes are read

abbrev IsRead : Bool → Standing → List ℕ → Type 0
IsRead masked at bytes = (frames : List Frame) × (end : Ending) × IsFrames masked at bytes frames end

read_found : (count : ℕ) (masked : Bool) (at : Standing) (bytes : List ℕ) (found : Front) → length bytes < suc count
    → ((next : Standing) (less : List ℕ) → length less < count → IsRead masked next less) → front masked at bytes ≡ found
    → IsRead masked at bytes
read_found count masked at bytes nothing short again e = ([], rest bytes, ends at bytes e)
read_found count masked at bytes (refused cause) short again e = ([], fault cause, fails at bytes cause e)
read_found count masked at bytes (stands frame more) short again e =
    let less = front_shorter masked at bytes frame more e in
    let r = again (behind at frame) more (omega arith) in
    (frame ∷ r.0, r.1, goes at bytes more frame r.0 r.1 e r.2)

read_by : (count : ℕ) (masked : Bool) (at : Standing) (bytes : List ℕ) → length bytes < count → IsRead masked at bytes
read_by zero masked at bytes short = absurd (omega arith)
read_by (suc count) masked at bytes short =
    read_found count masked at bytes (front masked at bytes) short (λ next less h. read_by count masked next less h) refl

pub all_read : (masked : Bool) (at : Standing) (bytes : List ℕ) → (frames : List Frame) × (end : Ending) × IsFrames masked at bytes frames end
all_read masked at bytes = read_by (suc (length bytes)) masked at bytes (omega arith)

-- ---- more bytes

pub faults_stay : (masked : Bool) (at : Standing) (bytes : List ℕ) (frames : List Frame) (end : Ending) (cause : FrameFault) (more : List ℕ)
    → IsFrames masked at bytes frames end → end ≡ fault cause → IsFrames masked at (bytes ++ more) frames (fault cause)
faults_stay masked _ _ _ _ cause more (ends at bytes e) is = absurd (rest_fault is)
  where
    rest_fault : {b : List ℕ} {c : FrameFault} → rest b ≡ fault c → ⊥
    rest_fault e = cc
faults_stay masked _ _ _ _ cause more (fails at bytes other e) is =
    fails at (bytes ++ more) cause (refused_stays masked at bytes more cause (e ∙ ap (λ (c : FrameFault). refused c) (same_fault is)))
  where
    same_fault : {c d : FrameFault} → fault c ≡ fault d → c ≡ d
    same_fault e = cc
faults_stay masked _ _ _ _ cause more (goes at bytes other frame frames end e h) is =
    goes at (bytes ++ more) (other ++ more) frame frames (fault cause) (stands_stays masked at bytes more frame other e)
    (faults_stay masked (behind at frame) other frames end cause more h is)

-- where the frame that has begun stands, behind these frames and with this rest
abbrev pub anew : Standing → List ℕ → Standing
anew at bytes = record { begun = at.begun; left = at.left; judged = has_length bytes }

-- a frame stands in the same way where its front does
restand : (masked : Bool) (at : Standing) (heard : Bool) (bytes : List ℕ) (frames : List Frame) (end : Ending) (next : Standing)
    → next ≡ record { begun = at.begun; left = at.left; judged = heard } → front masked at bytes ≡ front masked next bytes
    → IsFrames masked next bytes frames end → IsFrames masked at bytes frames end
restand masked at heard _ _ _ _ is same (ends next bytes e) = ends at bytes (same ∙ e)
restand masked at heard _ _ _ _ is same (fails next bytes cause e) = fails at bytes cause (same ∙ e)
restand masked at heard _ _ _ _ is same (goes next bytes more frame frames end e h) =
    goes at bytes more frame frames end (same ∙ e)
    (subst (λ (n : Standing). IsFrames masked n more frames end) (ap (λ (n : Standing). behind n frame) is) h)

abbrev judged_of : Standing → Bool
judged_of at = at.judged

judged_data : (f : Bool) (at : Standing) (frame : Frame)
    → judged_of (if f then record { begun = None; left = at.left - 1; judged = false }
    else record { begun = Some (so_far at.begun + length frame.payload); left = at.left; judged = false }) ≡ false
judged_data true at frame = refl
judged_data false at frame = refl

judged_by : (b : Bool) (at : Standing) (frame : Frame)
    → judged_of (if b then record { begun = at.begun; left = at.left; judged = false } else behind_data at frame) ≡ false
judged_by true at frame = refl
judged_by false at frame = judged_data frame.fin at frame

behind_judged : (at : Standing) (frame : Frame) → (behind at frame).judged ≡ false
behind_judged at frame = judged_by (is_control frame.opcode) at frame

pub cut : (masked : Bool) (at : Standing) (bytes : List ℕ) (frames : List Frame) (end : Ending) (left more : List ℕ) (later : List Frame)
    (last : Ending)
    → (at.judged ≡ true → has_length bytes ≡ true) → IsFrames masked at bytes frames end → end ≡ rest left
    → IsFrames masked (anew (behind_all at frames) left) (left ++ more) later last → IsFrames masked at (bytes ++ more) (frames ++ later) last
cut masked _ _ _ _ left more later last seen (ends at bytes e) is h =
    let h' = subst (λ (b : List ℕ). IsFrames masked (anew at b) (b ++ more) later last) (sym (same_bytes is)) h in
    restand masked at (has_length bytes) (bytes ++ more) later last (anew at bytes) refl (front_judged masked at bytes more seen e) h'
  where
    same_bytes : {b c : List ℕ} → rest b ≡ rest c → b ≡ c
    same_bytes e = cc
cut masked _ _ _ _ left more later last seen (fails at bytes cause e) is h = absurd (fault_rest is)
  where
    fault_rest : {b : List ℕ} {c : FrameFault} → fault c ≡ rest b → ⊥
    fault_rest e = cc
cut masked _ _ _ _ left more later last seen (goes at bytes other frame frames end e g) is h =
    goes at (bytes ++ more) (other ++ more) frame (frames ++ later) last (stands_stays masked at bytes more frame other e)
    (cut masked (behind at frame) other frames end left more later last
    (λ j. absurd (true_false (sym j ∙ behind_judged at frame))) g is h)

-- ---- the reader

pub all_judged : (at : Standing) (frames : List Frame) → at.judged ≡ false → (behind_all at frames).judged ≡ false
all_judged at [] e = e
all_judged at (frame ∷ frames) e = all_judged (behind at frame) frames (behind_judged at frame)

anew_begun : (at : Standing) (bytes : List ℕ) (frames : List Frame) → (behind_all (anew at bytes) frames).begun ≡ (behind_all at frames).begun
anew_begun at bytes [] = refl
anew_begun at bytes (frame ∷ frames) = refl

abbrev done : Result ⊤ FrameError
done = Ok tt

ok_err : {e : FrameError} → done ≡ Err e → ⊥
ok_err e = cc

-- a reader behind these frames, with this rest
abbrev left_with : Reading → ℕ → List Frame → List ℕ → Reading
left_with old left frames bytes = record old { begun = (behind_all (standing old left) frames).begun; rest = bytes }

answers_on : (end : Ending) (old new : Reading) (left : ℕ) (frames later : List Frame) (bytes : List ℕ) (result : Result ⊤ FrameError)
    → Answers end (left_with old left frames bytes) later (behind_all (standing old left) frames).left result new
    → Answers end old (frames ++ later) left result new
answers_on (rest more) old new left frames later bytes result h = (
  h.0,
  h.1 ∙ ap (λ (b : Option ℕ). record old { begun = b; rest = more })
      (anew_begun (behind_all (standing old left) frames) bytes later
      ∙ sym (ap (λ (at : Standing). at.begun) (behind_all-append (standing old left) frames later))),
)
answers_on (fault cause) old new left frames later bytes result h = h

cut_by : (end : Ending) (old middle new : Reading) (bytes more : List ℕ) (left : ℕ) (frames later : List Frame) (result : Result ⊤ FrameError)
    → old.failed ≡ None → IsFrames old.masked (standing old left) (old.rest ++ bytes) frames end → Answers end old frames left (Ok tt) middle
    → Feeds middle more (behind_all (standing old left) frames).left later result new
    → FeedsBy None old (bytes ++ more) left (frames ++ later) result new
cut_by (fault cause) old middle new bytes more left frames later result none h a second = absurd (ok_err a.0)
cut_by (rest kept) old middle new bytes more left frames later result none h a second =
    let next = left_with old left frames kept in
    let fed : Feeds next more (behind_all (standing old left) frames).left later result new =
    subst (λ (r : Reading). Feeds r more (behind_all (standing old left) frames).left later result new) a.1 second in
    let f : FeedsBy None next more (behind_all (standing old left) frames).left later result new =
    subst (λ (c : Option FrameFault). FeedsBy c next more (behind_all (standing old left) frames).left later result new) none fed in (
      f.0,
      subst (λ (b : List ℕ). IsFrames old.masked (standing old left) b (frames ++ later) f.0) (append_assoc old.rest bytes more)
          (cut old.masked (standing old left) (old.rest ++ bytes) frames (rest kept) kept more later f.0
          (λ j. has_length_on old.rest bytes j) h refl f.1),
      answers_on f.0 old new left frames later kept result f.2,
    )

-- pieces give what their bytes at once give
pub cuts_hidden : (old middle new : Reading) (bytes more : List ℕ) (left : ℕ) (frames later : List Frame) (result : Result ⊤ FrameError)
    → old.failed ≡ None → Feeds old bytes left frames (Ok tt) middle
    → Feeds middle more (behind_all (standing old left) frames).left later result new
    → Feeds old (bytes ++ more) left (frames ++ later) result new
cuts_hidden old middle new bytes more left frames later result none first second =
    let f : FeedsBy None old bytes left frames (Ok tt) middle =
    subst (λ (c : Option FrameFault). FeedsBy c old bytes left frames (Ok tt) middle) none first in
    subst (λ (c : Option FrameFault). FeedsBy c old (bytes ++ more) left (frames ++ later) result new) (sym none)
    (cut_by f.0 old middle new bytes more left frames later result none f.1 f.2 second)
