use Rattle.std.proofs.Common.{◌-◌, ◌≡◌, ◌≤◌, length}
use Rattle.std.specs.Cmp.Lexicographic.{pointwise}
use Rattle.std.proofs.cmp.SliceLoops.{Rest}
use Rattle.px_message.specs.Messages.{message_eq}
use Rattle.px_message.proofs.messages.MessagesPartialEq.eq.Given as goal

abbrev pub invariant-loop-i : goal.invariant-loop-i
invariant-loop-i l = ((l.n ≡ length l.self) × ((l.n ≡ length l.other) × (l.i ≤ l.n))) × Rest (pointwise message_eq) l.self l.other l.i

abbrev pub decreases-loop-i : goal.decreases-loop-i
decreases-loop-i l = l.n - l.i
