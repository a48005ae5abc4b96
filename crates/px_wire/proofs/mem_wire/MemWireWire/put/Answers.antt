use Rattle.std.proofs.Common.{ap, ◌∙◌, Some}
use Rattle.px_wire.specs.Calls.{put_call}
use Rattle.px_wire.specs.MemWire.{steps_in}
use Rattle.px_wire.proofs.MemWireLemmas.{slots_same, put_step, put_slots}
use Rattle.px_wire.proofs.mem_wire.MemWireWire.put.Goals as goal

pub invariant_of-self : goal.invariant_of-self
invariant_of-self c =
    let answer = c.answer_of-answer.result in
    let call = put_call c.args.slot c.args.bytes.now answer in
    slots_same call _ _ c.self.inside.slots.items (put_slots c.self.inside.slots.items c.args.slot c.args.bytes.now answer) c.self.invariant
    (c.keep.ensures.told call c.put_call-call.ensures)

pub returns-clause-steps : goal.returns-clause-steps
returns-clause-steps c =
    let answer = c.answer_of-answer.result in
    let call = put_call c.args.slot c.args.bytes.now answer in
    ap Some (c.keep.ensures.steps call c.put_call-call.ensures (put_step c.args.slot c.args.bytes.now answer) ∙ ap steps_in c.self.view_is)
