-- What is answered of the front of bytes.
use Rattle.std.specs.Prelude.{◌≡◌, ℕ, ◌≤◌, Bool, List, length, drop}
use Rattle.px_frame.specs.declared.head.FrameHead.{FrameHead}
use Rattle.px_frame.specs.declared.frame.Frame.{Frame}
use Rattle.px_frame.specs.declared.frame.Standing.{Standing}
use Rattle.px_frame.specs.declared.frame.Front.{Front}
use Rattle.px_frame.specs.declared.frame.Front.TheVariants.{Nothing, Refused, Stands}
use Rattle.px_frame.specs.Head.{so_far, most}
use Rattle.px_frame.specs.Frames.{front, nothing, refused, stands, behind, front_behind}

-- a frame of so many bytes stands at the front, and leaves its message within its limit
pub record IsStanding (masked : Bool) (at : Standing) (bytes : List ℕ) (frame : Frame) (used : ℕ) : Type 0 where
  pub front : front masked at bytes ≡ stands frame (drop used bytes)
  pub some : 1 ≤ used
  pub within : used ≤ length bytes
  pub room : so_far at.begun ≤ most → so_far (behind at frame).begun ≤ most

abbrev pub IsFront : Bool → Standing → List ℕ → Front → Type 0
IsFront masked at bytes Nothing = front masked at bytes ≡ nothing
IsFront masked at bytes (Refused fault) = front masked at bytes ≡ refused fault
IsFront masked at bytes (Stands frame used) = IsStanding masked at bytes frame used

-- a frame of a head is the first so many bytes
pub record IsStandingBehind (head : FrameHead) (bytes : List ℕ) (frame : Frame) (used : ℕ) : Type 0 where
  pub front : front_behind head (drop head.size bytes) ≡ stands frame (drop used bytes)
  pub some : head.size ≤ used
  pub within : used ≤ length bytes
  pub opcode : frame.opcode ≡ head.opcode
  pub count : length frame.payload ≡ head.length

-- what is answered behind a head at the front of bytes
abbrev pub IsBehind : FrameHead → List ℕ → Front → Type 0
IsBehind head bytes Nothing = front_behind head (drop head.size bytes) ≡ nothing
IsBehind head bytes (Refused fault) = ⊥
IsBehind head bytes (Stands frame used) = IsStandingBehind head bytes frame used
