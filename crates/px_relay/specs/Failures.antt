-- Why a WebSocket fails, and the code of the Close frame that says so (RFC 6455 section 7.4.1).
use Rattle.std.specs.Prelude.{ℕ, List}
use Rattle.std.specs.Int.{to_be_bytes, w16}
use Rattle.px_frame.specs.declared.fault.FrameFault.{FrameFault}
use Rattle.px_frame.specs.declared.fault.FrameFault.TheVariants.{TooBig}
use Rattle.px_relay.specs.declared.failure.Failure.{Failure}
use Rattle.px_relay.specs.declared.failure.Failure.TheVariants.{BadFrame, NotText}

-- a protocol error, or a message that is too big to process
abbrev pub frame_code : FrameFault → ℕ
frame_code TooBig = 1009
frame_code _ = 1002

-- or one whose content is not of its type
abbrev pub close_code : Failure → ℕ
close_code (BadFrame fault) = frame_code fault
close_code NotText = 1007

-- the payload of the Close frame: the code, the most significant byte first (section 5.5.1)
abbrev pub failure_payload : Failure → List ℕ
failure_payload failure = to_be_bytes w16 (close_code failure)
