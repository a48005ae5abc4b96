use Rattle.std.proofs.Common.{refl, ap, ◌∙◌, Some}
use Rattle.px_wire.specs.declared.call.WireCall.TheVariants.{Shut}
use Rattle.px_wire.specs.MemWire.{steps_in}
use Rattle.px_wire.proofs.MemWireLemmas.{slots_kept}
use Rattle.px_wire.proofs.mem_wire.MemWireWire.shut.Goals as goal

pub invariant_of-self : goal.invariant_of-self
invariant_of-self c =
    rw c.remove_slot.ensures (slots_kept (Shut c.args.slot) _ _ c.self.inside.slots.items c.self.invariant (c.keep.ensures.told (Shut c.args.slot) refl))

pub returns-clause-steps : goal.returns-clause-steps
returns-clause-steps c = ap Some (c.keep.ensures.steps (Shut c.args.slot) refl refl ∙ ap steps_in c.self.view_is)
