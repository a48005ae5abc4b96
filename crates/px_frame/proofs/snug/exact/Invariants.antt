use Rattle.std.proofs.Common.{◌≡◌, ◌≤◌, ◌-◌, length, take}
use Rattle.px_frame.proofs.snug.exact.Given as goal

abbrev pub invariant-bytes : goal.invariant-bytes
invariant-bytes l = record {
  items : l.made.items ≡ take l.at l.bytes;
  count : l.made.len ≡ l.at;
  room : l.made.cap ≡ length l.bytes;
  within : l.at ≤ length l.bytes;
}

abbrev pub decreases-bytes : goal.decreases-bytes
decreases-bytes l = length l.bytes - l.at
