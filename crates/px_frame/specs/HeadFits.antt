-- That a head which was read lies in the bytes, and that its payload has room.
use Rattle.std.specs.Prelude.{◌≡◌, ℕ, ◌+◌, ◌^◌, ◌<◌, ◌≤◌, false, Option, ⊤}
use Rattle.px_frame.specs.declared.head.FrameHead.{FrameHead}
use Rattle.px_frame.specs.declared.head.HeadStep.{HeadStep}
use Rattle.px_frame.specs.declared.head.HeadStep.TheVariants.{More, Head, Fault}
use Rattle.px_frame.specs.Head.{is_control, so_far, most}

-- a head of at least two bytes and at most so many, whose length fits 63 bits, and whose frame of data leaves its message within its limit
pub record IsFitting (begun : Option ℕ) (count : ℕ) (head : FrameHead) : Type 0 where
  pub some : 2 ≤ head.size
  pub within : head.size ≤ count
  pub small : head.length < 2 ^ 63
  pub room : is_control head.opcode ≡ false → so_far begun + head.length ≤ most

abbrev pub Fits : Option ℕ → ℕ → HeadStep → Type 0
Fits begun count More = ⊤
Fits begun count (Head head) = IsFitting begun count head
Fits begun count (Fault fault) = ⊤
