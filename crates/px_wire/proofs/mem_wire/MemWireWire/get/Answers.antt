use Rattle.std.proofs.Common.{ap, ◌∙◌, Some}
use Rattle.px_wire.specs.Calls.{got_call}
use Rattle.px_wire.specs.MemWire.{steps_in}
use Rattle.px_wire.proofs.MemWireLemmas.{slots_same, got_step, got_slots}
use Rattle.px_wire.proofs.mem_wire.MemWireWire.get.Goals as goal

pub invariant_of-self : goal.invariant_of-self
invariant_of-self c =
    let answer = c.give-answer.result in
    let call = got_call c.args.slot c.give-answer.new.room answer in
    slots_same call _ _ c.self.inside.slots.items (got_slots c.self.inside.slots.items c.args.slot c.give-answer.new.room answer) c.self.invariant
    (c.keep.ensures.told call c.got_call-call.ensures)

pub returns-clause-steps : goal.returns-clause-steps
returns-clause-steps c =
    let answer = c.give-answer.result in
    let call = got_call c.args.slot c.give-answer.new.room answer in
    ap Some (c.keep.ensures.steps call c.got_call-call.ensures (got_step c.args.slot c.give-answer.new.room answer) ∙ ap steps_in c.self.view_is)
