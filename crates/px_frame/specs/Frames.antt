-- Frames, one behind the other (RFC 6455 sections 5.2 and 5.4), as a relation between bytes and a list of frames, with a rest that begins
-- a frame or with the fault behind them.
use Rattle.std.specs.Prelude.{◌≡◌, ℕ, ◌+◌, ◌-◌, Bool, false, ◌&&◌, ◌==◌, nat_le, not, if◌then◌else◌, List, [], ◌∷◌, length, take, drop, Some, None}
use Rattle.px_frame.specs.declared.fault.FrameFault.{FrameFault}
use Rattle.px_frame.specs.declared.head.FrameHead.{FrameHead}
use Rattle.px_frame.specs.declared.head.HeadStep.{HeadStep}
use Rattle.px_frame.specs.declared.head.HeadStep.TheVariants.{More, Head, Fault}
use Rattle.px_frame.specs.declared.frame.Frame.{Frame}
use Rattle.px_frame.specs.declared.frame.Standing.{Standing}
use Rattle.px_frame.specs.Head.{head_of, is_control, so_far}
use Rattle.px_frame.specs.Mask.{under_key}

-- no message may be completed any more, for a frame whose length was not judged before
abbrev pub is_last : Standing → Bool
is_last at = at.left == 0 && not at.judged

-- where the next frame stands, behind one
abbrev pub behind_data : Standing → Frame → Standing
behind_data at frame =
    if frame.fin then record { begun = None; left = at.left - 1; judged = false }
    else record { begun = Some (so_far at.begun + length frame.payload); left = at.left; judged = false }

abbrev pub behind : Standing → Frame → Standing
behind at frame =
    if is_control frame.opcode then record { begun = at.begun; left = at.left; judged = false } else behind_data at frame

abbrev pub behind_all : Standing → List Frame → Standing
behind_all at [] = at
behind_all at (frame ∷ frames) = behind_all (behind at frame) frames

-- what stands at the front of the bytes: no whole frame yet, a fault, or a frame and the bytes behind it
pub data Front : Type 0 where
  nothing : Front
  refused : (fault : FrameFault) → Front
  stands : (frame : Frame) (rest : List ℕ) → Front

-- the frame of a head, whose payload are the first of these bytes
abbrev pub frame_of : FrameHead → List ℕ → Frame
frame_of head bytes = record { fin = head.fin; opcode = head.opcode; payload = under_key head.key (take head.length bytes) }

abbrev pub front_behind : FrameHead → List ℕ → Front
front_behind head bytes =
    if nat_le head.length (length bytes) then stands (frame_of head bytes) (drop head.length bytes) else nothing

abbrev pub front_by : HeadStep → List ℕ → Front
front_by More bytes = nothing
front_by (Head head) bytes = front_behind head (drop head.size bytes)
front_by (Fault fault) bytes = refused fault

abbrev pub front : Bool → Standing → List ℕ → Front
front masked at bytes = front_by (head_of masked at.begun (is_last at) bytes) bytes

-- how bytes end: within a frame that begins with this rest, or with a fault
pub data Ending : Type 0 where
  rest : (bytes : List ℕ) → Ending
  fault : (cause : FrameFault) → Ending

-- the bytes are these frames, and end so
pub data IsFrames (masked : Bool) : Standing → List ℕ → List Frame → Ending → Type 0 where
  ends : (at : Standing) (bytes : List ℕ) → front masked at bytes ≡ nothing → IsFrames masked at bytes [] (rest bytes)
  fails : (at : Standing) (bytes : List ℕ) (cause : FrameFault) → front masked at bytes ≡ refused cause → IsFrames masked at bytes [] (fault cause)
  goes : (at : Standing) (bytes more : List ℕ) (frame : Frame) (frames : List Frame) (end : Ending) → front masked at bytes ≡ stands frame more →
      IsFrames masked (behind at frame) more frames end → IsFrames masked at bytes (frame ∷ frames) end
