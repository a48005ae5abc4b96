use Rattle.std.proofs.Common.{◌≡◌, ◌++◌, take}
use Rattle.px_message.proofs.fields.framing.append.Given as goal

abbrev pub invariant-loop-name : goal.invariant-loop-name
invariant-loop-name l = l.fields ≡ l.initial.fields ++ take l.name-index l.name-items
