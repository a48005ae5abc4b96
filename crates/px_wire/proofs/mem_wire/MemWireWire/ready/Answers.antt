use Rattle.std.proofs.Common.{refl, sym, ap, ◌∙◌, Some}
use Rattle.px_wire.specs.declared.call.WireCall.TheVariants.{Told, NotReady}
use Rattle.px_wire.specs.MemWire.{steps_in, calls_of}
use Rattle.px_wire.proofs.MemWireLemmas.{slots_so, may_told, may_free, told_so, failed_so}
use Rattle.px_wire.proofs.mem_wire.MemWireWire.ready.Goals as goal

pub invariant_of-self-in-Some : goal.invariant_of-self-in-Some
invariant_of-self-in-Some c =
    let call = Told c.in-Some.moment c.in-Some.ready in
    slots_so call _ _ c.self.inside.slots.items _ _ c.in_ok-reserve.ensures.items (c.add_slot.ensures c.in-Some.moment) c.self.invariant
    (c.keep.ensures.told call c.told_call-call.ensures)

pub invariant_of-self-in-None : goal.invariant_of-self-in-None
invariant_of-self-in-None c =
    slots_so NotReady _ _ c.self.inside.slots.items _ _ c.in_ok-reserve.ensures.items refl c.self.invariant (c.keep-in-None.ensures.told NotReady refl)

pub returns-in-Some-clause-free : goal.returns-in-Some-clause-free
returns-in-Some-clause-free c =
    let same = c.deref.ensures.value ∙ c.in_ok-reserve.ensures.items in
    let may = may_told c.deref.result.now c.self.inside.script.items (c.in-Some.moment, c.in-Some.ready) (sym c.in-Some.ensures.told) in
    rw (← ap calls_of c.self.view_is) (may_free c.self.inside.slots.items c.in-Some.ready _ (rw same at may) c.self.invariant)

pub returns-in-Some-clause-steps : goal.returns-in-Some-clause-steps
returns-in-Some-clause-steps c =
    ap Some (c.keep.ensures.steps (Told c.in-Some.moment c.in-Some.ready) c.told_call-call.ensures refl ∙ ap steps_in c.self.view_is)

pub returns-in-Some-clause-after_ok : goal.returns-in-Some-clause-after_ok
returns-in-Some-clause-after_ok c =
    told_so _ _ _ _ _ c.deref.result.now _ _ _ c.in-Some.moment c.in-Some.ready c.self.view_is c.in_ok-reserve.ensures.items c.deref.ensures.value
    c.in-Some.ensures.left (c.add_slot.ensures c.in-Some.moment) c.once_more-self-inside.ensures

pub returns-in-None-clause-steps : goal.returns-in-None-clause-steps
returns-in-None-clause-steps c = ap Some (c.keep-in-None.ensures.steps NotReady refl refl ∙ ap steps_in c.self.view_is)

pub returns-in-None-clause-after_failed : goal.returns-in-None-clause-after_failed
returns-in-None-clause-after_failed c = λ _.
    failed_so _ _ _ _ c.deref.result.now _ _ _ _ c.self.view_is c.in_ok-reserve.ensures.items
    (sym c.in-None.ensures.told) c.in-None.ensures.left c.saturating_add-self-inside.ensures c.once_more-self-inside.ensures
