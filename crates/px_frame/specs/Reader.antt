-- A reader of frames as its callers see it, and what a call makes of it.
use Rattle.std.specs.Prelude.{◌≡◌, ℕ, ⊤, Bool, List, [], ◌++◌, Option, Some, None, Result, Ok, Err}
use Rattle.px_frame.specs.declared.fault.FrameFault.{FrameFault}
use Rattle.px_frame.specs.declared.fault.FrameError.{FrameError}
use Rattle.px_frame.specs.declared.fault.FrameError.TheVariants as error
use Rattle.px_frame.specs.declared.frame.Frame.{Frame}
use Rattle.px_frame.specs.declared.frame.Standing.{Standing}
use Rattle.px_frame.specs.Head.{has_length}
use Rattle.px_frame.specs.Frames.{IsFrames, Ending, rest, fault, behind_all}

pub record Reading : Type 0 where
  -- whether frames are to be masked
  pub masked : Bool
  -- the payload so far of a message that has begun
  pub begun : Option ℕ
  -- the bytes of a frame that has begun
  pub rest : List ℕ
  -- the fault that was met
  pub failed : Option FrameFault

-- a reader that has met a fault
abbrev pub broken : Bool → FrameFault → Reading
broken masked cause = record { masked = masked; begun = None; rest = []; failed = Some cause }

-- where the frame that has begun stands in a call that may complete so many messages: a length that was heard whole was judged then
abbrev pub standing : Reading → ℕ → Standing
standing old left = record { begun = old.begun; left = left; judged = has_length old.rest }

-- what is answered, and the reader behind it, where the bytes end so
abbrev pub Answers : Ending → Reading → List Frame → ℕ → Result ⊤ FrameError → Reading → Type 0
Answers (rest bytes) old frames left result new =
    (result ≡ Ok tt) × (new ≡ record old { begun = (behind_all (standing old left) frames).begun; rest = bytes })
Answers (fault cause) old frames left result new = (result ≡ Err (error.Fault cause)) × (new ≡ broken old.masked cause)

abbrev pub FeedsBy : Option FrameFault → Reading → List ℕ → ℕ → List Frame → Result ⊤ FrameError → Reading → Type 0
FeedsBy (Some cause) old bytes left frames result new = (frames ≡ []) × (result ≡ Err (error.Fault cause)) × (new ≡ old)
FeedsBy None old bytes left frames result new =
    (end : Ending) × IsFrames old.masked (standing old left) (old.rest ++ bytes) frames end × Answers end old frames left result new

-- hearing the bytes gives these frames: they are those of the bytes of the frame that has begun and of these behind them, and the fault
-- behind them is answered, again for ever
abbrev pub Feeds : Reading → List ℕ → ℕ → List Frame → Result ⊤ FrameError → Reading → Type 0
Feeds old bytes left frames result new = FeedsBy old.failed old bytes left frames result new

-- out of memory promises nothing
abbrev pub UnlessNoMemory : Result ⊤ FrameError → Type 0 → Type 0
UnlessNoMemory (Err error.NoMemory) fact = ⊤
UnlessNoMemory result fact = fact
