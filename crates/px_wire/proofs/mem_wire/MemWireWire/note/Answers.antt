use Rattle.std.proofs.Common.{refl}
use Rattle.px_wire.proofs.MemWireLemmas.{slots_noted}
use Rattle.px_wire.proofs.mem_wire.MemWireWire.note.Goals as goal

pub invariant_of-self : goal.invariant_of-self
invariant_of-self c =
    slots_noted c.keep_step.result c.in_ok-call.call _ _ _ _ c.self.inside.slots.items
    (rw c.in_ok-call.ensures refl) c.self.invariant c.keep_step.ensures.told c.keep_step.ensures.list_err c.keep_step.ensures.later_err
