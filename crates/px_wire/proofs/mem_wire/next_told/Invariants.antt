use Rattle.std.proofs.Common.{◌≡◌, length}
use Rattle.px_wire.specs.MemWire.{told_by, script_left}
use Rattle.px_wire.proofs.mem_wire.next_told.Given as goal

-- what was passed over changes nothing of what is told
abbrev pub invariant-loop-moment : goal.invariant-loop-moment
invariant-loop-moment l = record {
  told : told_by l.slots l.script.items ≡ told_by l.slots l.initial.script.items;
  left : script_left l.slots l.script.items ≡ script_left l.slots l.initial.script.items;
}

abbrev pub decreases-loop-moment : goal.decreases-loop-moment
decreases-loop-moment l = length l.script.items
