-- Laws of frames.
use Rattle.std.specs.Prelude.{◌≡◌, ◌≢◌, ℕ, ◌^◌, ◌<◌, ⊤, Bool, false, List, [], ◌∷◌, ◌++◌, length, All, Option, None, Result, Ok}
use Rattle.px_frame.specs.declared.fault.FrameFault.{FrameFault}
use Rattle.px_frame.specs.declared.fault.FrameError.{FrameError}
use Rattle.px_frame.specs.declared.frame.Frame.{Frame}
use Rattle.px_frame.specs.declared.frame.Standing.{Standing}
use Rattle.px_frame.specs.Mask.{under_key}
use Rattle.px_frame.specs.Frames.{behind_all, front, refused, stands, Ending, rest, fault, IsFrames}
use Rattle.px_frame.specs.Reader.{Reading, standing, Feeds}
use Rattle.px_frame.specs.Text.{frame_text, IsKey}

-- ---- bytes and frames

-- each list of bytes is some frames, and ends in some way
abbrev pub AllIsRead : Type 0
AllIsRead = (masked : Bool) (at : Standing) (bytes : List ℕ) → (frames : List Frame) × (end : Ending) × IsFrames masked at bytes frames end

-- and in one way only
abbrev pub FramesAreUnique : Type 0
FramesAreUnique = (masked : Bool) (at : Standing) (bytes : List ℕ) (frames others : List Frame) (end other : Ending)
    → IsFrames masked at bytes frames end → IsFrames masked at bytes others other → (frames ≡ others) × (end ≡ other)

-- ---- bytes that follow

-- a frame stays, whatever follows it
abbrev pub FramesStay : Type 0
FramesStay = (masked : Bool) (at : Standing) (bytes more : List ℕ) (frame : Frame) (behind : List ℕ) → front masked at bytes ≡ stands frame behind
    → front masked at (bytes ++ more) ≡ stands frame (behind ++ more)

-- a fault waits for no more bytes: it stays with the frames before it, whatever follows
abbrev pub FaultsStay : Type 0
FaultsStay = (masked : Bool) (at : Standing) (bytes : List ℕ) (frames : List Frame) (cause : FrameFault) (more : List ℕ)
    → IsFrames masked at bytes frames (fault cause) → IsFrames masked at (bytes ++ more) frames (fault cause)

-- two pieces give what their bytes give at once, and leave the same reader; the second may complete so many messages as the first left
abbrev pub CutsDoNotShow : Type 0
CutsDoNotShow = (old middle new : Reading) (bytes more : List ℕ) (left : ℕ) (frames later : List Frame) (result : Result ⊤ FrameError)
    → old.failed ≡ None → Feeds old bytes left frames (Ok tt) middle
    → Feeds middle more (behind_all (standing old left) frames).left later result new
    → Feeds old (bytes ++ more) left (frames ++ later) result new

-- ---- written and read

-- masking twice is the payload
abbrev pub MaskedTwice : Type 0
MaskedTwice = (key : Option (List ℕ)) (payload : List ℕ) → under_key key (under_key key payload) ≡ payload

-- what is written is read as itself where there is no fault in it, whatever follows
abbrev pub WrittenIsRead : Type 0
WrittenIsRead = (masked : Bool) (at : Standing) (fin : Bool) (opcode : ℕ) (key : Option (List ℕ)) (payload more : List ℕ) → opcode < 16 → IsKey key
    → length payload < 2 ^ 64 → ((cause : FrameFault) → front masked at (frame_text fin opcode key payload) ≢ refused cause)
    → front masked at (frame_text fin opcode key payload ++ more) ≡ stands (record { fin = fin; opcode = opcode; payload = payload }) more

-- and so it is behind other frames: it stands directly behind them
abbrev pub WrittenIsReadBehind : Type 0
WrittenIsReadBehind = (masked : Bool) (begun : Option ℕ) (left : ℕ) (bytes : List ℕ) (frames : List Frame)
    (fin : Bool) (opcode : ℕ) (key : Option (List ℕ)) (payload more : List ℕ) (given : List Frame) (end : Ending) →
    let at : Standing = record { begun = begun; left = left; judged = false } in
    IsFrames masked at bytes frames (rest []) → opcode < 16 → IsKey key → length payload < 2 ^ 64
    → ((cause : FrameFault) → front masked (behind_all at frames) (frame_text fin opcode key payload) ≢ refused cause)
    → IsFrames masked at (bytes ++ (frame_text fin opcode key payload ++ more)) given end
    → (later : List Frame) × (given ≡ frames ++ (record { fin = fin; opcode = opcode; payload = payload } ∷ later))

-- whatever is read is what would be written, under some key: so each length is stated in the shortest form
abbrev pub ReadIsWritten : Type 0
ReadIsWritten = (masked : Bool) (at : Standing) (bytes : List ℕ) (frame : Frame) (behind : List ℕ) → All (λ b. b < 256) bytes
    → front masked at bytes ≡ stands frame behind
    → (key : Option (List ℕ)) × IsKey key × (bytes ≡ frame_text frame.fin frame.opcode key frame.payload ++ behind)
