use Rattle.px_wire.proofs.MemWireLemmas.{slots_kept}
use Rattle.px_wire.proofs.mem_wire.MemWireWire.dial.Goals as goal

pub invariant_of-self-2 : goal.invariant_of-self-2
invariant_of-self-2 c =
    let kept = slots_kept c.in_ok-call.call _ _ c.self.inside.slots.items c.self.invariant c.in_ok-keep_step.ensures.told in
    rw (c.push_reserved.ensures.items, c.in_ok-reserve.ensures.items) (rw c.in_ok-call.ensures at kept)
