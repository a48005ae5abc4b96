-- How the frames of bytes were read, and how the bytes end behind them.
use Rattle.std.specs.Prelude.{◌≡◌, ℕ, ◌≤◌, Bool, List, [], ⊤, length, drop}
use Rattle.px_frame.specs.declared.frame.Frame.{Frame}
use Rattle.px_frame.specs.declared.frame.Standing.{Standing}
use Rattle.px_frame.specs.declared.reader.Ending.{Ending}
use Rattle.px_frame.specs.declared.reader.Ending.TheVariants.{Rest, Fault}
use Rattle.px_frame.specs.Head.{so_far, most}
use Rattle.px_frame.specs.Frames as spec
use Rattle.px_frame.specs.Frames.{IsFrames, behind_all}

-- the ending that was answered, in the words of the relation
abbrev pub as_ending : List ℕ → Ending → spec.Ending
as_ending bytes (Rest used) = spec.rest (drop used bytes)
as_ending bytes (Fault cause) = spec.fault cause

abbrev pub IsWithin : ℕ → Ending → Type 0
IsWithin count (Rest used) = used ≤ count
IsWithin count (Fault cause) = ⊤

-- what is kept of bytes that end so
abbrev pub IsLeft : List ℕ → Ending → List ℕ → Type 0
IsLeft bytes (Rest used) kept = kept ≡ drop used bytes
IsLeft bytes (Fault cause) kept = kept ≡ []

pub record IsEnding (masked : Bool) (at : Standing) (bytes : List ℕ) (given : List Frame) (end : Ending) (behind : Standing) : Type 0 where
  pub frames : IsFrames masked at bytes given (as_ending bytes end)
  pub standing : behind ≡ behind_all at given
  pub within : IsWithin (length bytes) end
  pub room : so_far behind.begun ≤ most
