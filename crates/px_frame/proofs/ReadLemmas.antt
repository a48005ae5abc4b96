-- Frames read one after the other from the same bytes.
use Rattle.std.proofs.Common.{◌≡◌, ◌∙◌, ℕ, ◌+◌, ◌-◌, ◌≤◌, Bool, List, [], ◌∷◌, ◌++◌, append_assoc, append-nil, length, drop, refl, sym, ap, subst, arith}
use Rattle.std.proofs.lemmas.List.{length-drop, drop-drop, drop_at}
use Rattle.px_text.specs.Prefix.{IsPrefixOf}
use Rattle.px_frame.specs.declared.fault.FrameFault.{FrameFault}
use Rattle.px_frame.specs.declared.frame.Frame.{Frame}
use Rattle.px_frame.specs.declared.frame.Standing.{Standing}
use Rattle.px_frame.specs.declared.reader.Ending.TheVariants as answer
use Rattle.px_frame.specs.declared.reader.Ending as answers
use Rattle.px_frame.specs.Head.{so_far, most}
use Rattle.px_frame.specs.Frames.{behind, behind_all, front, nothing, refused, Ending, IsFrames, ends, fails, goes}
use Rattle.px_frame.specs.declared.frame.Front as fronts
use Rattle.px_frame.specs.Fronts.{IsStanding, IsFront}
use Rattle.px_frame.specs.Endings.{as_ending, IsWithin, IsEnding}

pub behind_all-append : (at : Standing) (frames more : List Frame) → behind_all at (frames ++ more) ≡ behind_all (behind_all at frames) more
behind_all-append at [] more = refl
behind_all-append at (frame ∷ frames) more = behind_all-append (behind at frame) frames more

-- so many bytes gave these frames behind the old ones: whatever frames the others are, they stand behind
pub record Given (masked : Bool) (first : Standing) (bytes : List ℕ) (old : List Frame) (used : ℕ) (out : List Frame) (now : Standing) : Type 0 where
  pub within : used ≤ length bytes
  pub room : so_far now.begun ≤ most
  pub given : List Frame
  pub out_is : out ≡ old ++ given
  pub now_is : now ≡ behind_all first given
  pub onward : (more : List Frame) (end : Ending) → IsFrames masked now (drop used bytes) more end → IsFrames masked first bytes (given ++ more) end

pub given_none : (masked : Bool) (first : Standing) (bytes : List ℕ) (old : List Frame) → so_far first.begun ≤ most
    → Given masked first bytes old 0 old first
given_none masked first bytes old room = record {
  within = omega arith;
  room = room;
  given = [];
  out_is = sym (append-nil old);
  now_is = refl;
  onward = λ more end h. h;
}

used_within : (used count all tail : ℕ) → used ≤ all → count ≤ tail → tail ≡ all - used → used + count ≤ all
used_within used count all tail a b c = omega arith

pub given_more : (masked : Bool) (first : Standing) (bytes : List ℕ) (old : List Frame) (used : ℕ) (out : List Frame) (now : Standing)
    (frame : Frame) (count : ℕ) → Given masked first bytes old used out now → IsStanding masked now (drop used bytes) frame count
    → Given masked first bytes old (used + count) (out ++ frame ∷ []) (behind now frame)
given_more masked first bytes old used out now frame count g s = record {
  within = used_within used count (length bytes) (length (drop used bytes)) g.within s.within (length-drop used bytes);
  room = s.room g.room;
  given = g.given ++ frame ∷ [];
  out_is = ap (λ (l : List Frame). l ++ frame ∷ []) g.out_is ∙ append_assoc old g.given (frame ∷ []);
  now_is = ap (λ (at : Standing). behind at frame) g.now_is ∙ sym (behind_all-append first g.given (frame ∷ []));
  onward = λ more end h.
      subst (λ (l : List Frame). IsFrames masked first bytes l end) (sym (append_assoc g.given (frame ∷ []) more))
      (g.onward (frame ∷ more) end (goes now (drop used bytes) (drop count (drop used bytes)) frame more end s.front
      (subst (λ (b : List ℕ). IsFrames masked (behind now frame) b more end) (sym (drop-drop count used bytes)) h)));
}

pub given_kept : (masked : Bool) (first : Standing) (bytes : List ℕ) (old : List Frame) (used : ℕ) (out : List Frame) (now : Standing)
    → Given masked first bytes old used out now → IsPrefixOf old out
given_kept masked first bytes old used out now g = (g.given, g.out_is)

given_ends : (masked : Bool) (first : Standing) (bytes : List ℕ) (old : List Frame) (used : ℕ) (out : List Frame) (now : Standing)
    (end : answers.Ending)
    → Given masked first bytes old used out now → IsFrames masked now (drop used bytes) [] (as_ending bytes end) → IsWithin (length bytes) end
    → IsEnding masked first bytes (drop (length old) out) end now
given_ends masked first bytes old used out now end g h within =
    let same : drop (length old) out ≡ g.given =
    ap (λ (l : List Frame). drop (length old) l) g.out_is ∙ drop_at old g.given (length old) refl in
    subst (λ (l : List Frame). IsEnding masked first bytes l end now) (sym same) (record {
      frames = subst (λ (l : List Frame). IsFrames masked first bytes l (as_ending bytes end)) (append-nil g.given) (g.onward []
          (as_ending bytes end) h);
      standing = g.now_is;
      within = within;
      room = g.room;
    })

pub given_rest : (masked : Bool) (first : Standing) (bytes : List ℕ) (old : List Frame) (used : ℕ) (out : List Frame) (now : Standing)
    → Given masked first bytes old used out now → front masked now (drop used bytes) ≡ nothing
    → IsEnding masked first bytes (drop (length old) out) (answer.Rest used) now
given_rest masked first bytes old used out now g e =
    given_ends masked first bytes old used out now (answer.Rest used) g (ends now (drop used bytes) e) g.within

pub given_fault : (masked : Bool) (first : Standing) (bytes : List ℕ) (old : List Frame) (used : ℕ) (out : List Frame) (now : Standing)
    (cause : FrameFault)
    → Given masked first bytes old used out now → front masked now (drop used bytes) ≡ refused cause
    → IsEnding masked first bytes (drop (length old) out) (answer.Fault cause) now
given_fault masked first bytes old used out now cause g e =
    given_ends masked first bytes old used out now (answer.Fault cause) g (fails now (drop used bytes) cause e) tt

-- what was answered of a tail, by what it came to
pub step_front : (masked : Bool) (at : Standing) (tail bytes : List ℕ) (given other : fronts.Front) → IsFront masked at tail given → given ≡ other
    → tail ≡ bytes → IsFront masked at bytes other
step_front masked at tail bytes given other h is same =
    subst (λ (b : List ℕ). IsFront masked at b other) same (subst (λ (g : fronts.Front). IsFront masked at tail g) is h)
