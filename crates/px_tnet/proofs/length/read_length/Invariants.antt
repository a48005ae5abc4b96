use Rattle.std.proofs.Common.{◌-◌, ◌≤◌, length, take}
use Rattle.px_tnet.specs.Digits.{IsFront}
use Rattle.px_tnet.proofs.length.read_length.Given as goal

-- the bytes so far are no digit, or the digits of a length
abbrev pub invariant-loop-digits : goal.invariant-loop-digits
invariant-loop-digits l = (l.digits ≤ length l.text) × IsFront l.front (take l.digits l.text)

abbrev pub decreases-loop-digits : goal.decreases-loop-digits
decreases-loop-digits l = length l.text - l.digits
