use Rattle.std.proofs.Common.{◌≡◌, take}
use Rattle.px_wire.specs.Puts.{taken_in}
use Rattle.px_wire.proofs.mem_wire.taken_of.Given as goal

-- what the calls so far took
abbrev pub invariant-loop-call : goal.invariant-loop-call
invariant-loop-call l = l.bytes.items ≡ taken_in l.slot (take l.call-index l.calls)
