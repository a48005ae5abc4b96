use Rattle.std.proofs.Common.{◌≡◌, take}
use Rattle.px_message.specs.Settle.{framing}
use Rattle.px_message.proofs.fields.framing.framing_of.Given as goal

abbrev pub invariant-loop-name : goal.invariant-loop-name
invariant-loop-name l = l.kept ≡ framing (take l.name-index l.name-items)
