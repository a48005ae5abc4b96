-- What a call of a reader gives, by how the bytes of its buffer ended.
use Rattle.std.proofs.Common.{◌≡◌, ℕ, Bool, List, [], ◌++◌, drop, refl, sym, ap, ap₂, subst, Option, Some, None, Ok, Err}
use Rattle.px_frame.specs.declared.fault.FrameFault.{FrameFault}
use Rattle.px_frame.specs.declared.fault.FrameError.TheVariants as error
use Rattle.px_frame.specs.declared.frame.Frame.{Frame}
use Rattle.px_frame.specs.declared.frame.Standing.{Standing}
use Rattle.px_frame.specs.declared.reader.Ending.{Ending}
use Rattle.px_frame.specs.declared.reader.Ending.TheVariants.{Rest, Fault}
use Rattle.px_frame.specs.Head.{has_length}
use Rattle.px_frame.specs.Frames.{IsFrames, rest, fault}
use Rattle.px_frame.specs.Endings.{IsEnding}
use Rattle.px_frame.specs.Reader.{Reading, Feeds}

abbrev reader : Bool → Option ℕ → List ℕ → Option FrameFault → Reading
reader masked begun kept failed = record { masked = masked; begun = begun; rest = kept; failed = failed }

-- how the bytes of the buffer ended, in the words of the reader
told : (masked : Bool) (begun : Option ℕ) (kept bytes buffer : List ℕ) (left : ℕ) (heard : Bool) (frames : List Frame) (given end : Ending)
    (behind : Standing)
    → heard ≡ has_length kept → given ≡ end → IsEnding masked (record { begun = begun; left = left; judged = heard }) buffer frames given behind
    → IsEnding masked (record { begun = begun; left = left; judged = has_length kept }) buffer frames end behind
told masked begun kept bytes buffer left heard frames given end behind same is e =
    subst (λ (g : Ending). IsEnding masked (record { begun = begun; left = left; judged = has_length kept }) buffer frames g behind) is
    (subst (λ (j : Bool). IsEnding masked (record { begun = begun; left = left; judged = j }) buffer frames given behind) same e)

pub fed_rest : (masked : Bool) (begun : Option ℕ) (kept bytes buffer rests : List ℕ) (failed : Option FrameFault) (left used : ℕ) (heard : Bool)
    (frames : List Frame) (given : Ending) (behind : Standing) (old : Reading) → reader masked begun kept failed ≡ old → failed ≡ None
    → heard ≡ has_length kept → buffer ≡ kept ++ bytes → rests ≡ drop used buffer → given ≡ Rest used
    → IsEnding masked (record { begun = begun; left = left; judged = heard }) buffer frames given behind
    → Feeds old bytes left frames (Ok tt) (reader masked behind.begun rests failed)
fed_rest masked begun kept bytes buffer rests failed left used heard frames given behind old seen none same joined moved is e =
    let t = told masked begun kept bytes buffer left heard frames given (Rest used) behind same is e in
    subst (λ (r : Reading). Feeds r bytes left frames (Ok tt) (reader masked behind.begun rests failed)) seen
    (subst (λ (f : Option FrameFault). Feeds (reader masked begun kept f) bytes left frames (Ok tt) (reader masked behind.begun rests f)) (sym none) (
      rest (drop used buffer),
      subst (λ (b : List ℕ). IsFrames masked (record { begun = begun; left = left; judged = has_length kept }) b frames (rest
          (drop used buffer))) joined t.frames,
      (refl, ap₂ (λ (at : Standing) (r : List ℕ). reader masked at.begun r None) t.standing moved),
    ))

pub fed_fault : (masked : Bool) (begun : Option ℕ) (kept bytes buffer rests : List ℕ) (failed : Option FrameFault) (left : ℕ)
    (cause : FrameFault) (heard : Bool)
    (frames : List Frame) (given : Ending) (behind : Standing) (old : Reading) → reader masked begun kept failed ≡ old → failed ≡ None
    → heard ≡ has_length kept → buffer ≡ kept ++ bytes → rests ≡ [] → given ≡ Fault cause
    → IsEnding masked (record { begun = begun; left = left; judged = heard }) buffer frames given behind
    → Feeds old bytes left frames (Err (error.Fault cause)) (reader masked None rests (Some cause))
fed_fault masked begun kept bytes buffer rests failed left cause heard frames given behind old seen none same joined cleared is e =
    let t = told masked begun kept bytes buffer left heard frames given (Fault cause) behind same is e in
    subst (λ (r : Reading). Feeds r bytes left frames (Err (error.Fault cause)) (reader masked None rests (Some cause))) seen
    (subst (λ (f : Option FrameFault). Feeds (reader masked begun kept f) bytes left frames (Err (error.Fault cause))
    (reader masked None rests (Some cause))) (sym none) (
      fault cause,
      subst (λ (b : List ℕ). IsFrames masked (record { begun = begun; left = left; judged = has_length kept }) b frames
          (fault cause)) joined t.frames,
      (refl, ap (λ (r : List ℕ). reader masked None r (Some cause)) cleared),
    ))
