use Rattle.std.proofs.Common.{◌≡◌, false}
use Rattle.px_plays.proofs.messages.feed_all.Given as goal

abbrev pub invariant-loop-part : goal.invariant-loop-part
invariant-loop-part l = l.reader.closed ≡ false
