use Rattle.std.proofs.Common.{◌∙◌, ◌++◌, ◌∷◌, sym, None}
use Rattle.px_wire.specs.Holds.{endpoint_at}
use Rattle.px_wire.proofs.FindLemmas.{here, there_is, gone_is}
use Rattle.px_wire.proofs.HoldsLemmas.{no_slot}
use Rattle.px_wire.proofs.StepLemmas.{tells_none_writable, tells_writable}
use Rattle.px_wire.proofs.ready.flush_slot.Goals as goal

pub returns-then-is_some-clause-stands : goal.returns-then-is_some-clause-stands
returns-then-is_some-clause-stands g c = λ before calm rests tells.
    let old = c.args.table.now in
    let l = there_is c.get.result (endpoint_at old.endpoints c.args.slot) c.get.ensures.is (sym c.is_some.ensures ∙ c.if-is_some.true) in
    let h = here None old c.args.slot l.0 before rests l.1 in
    c.flush_at.ensures.stands None h.front h.back l.0 h.is_at
    (tells_writable h.front l.0 h.back old.accepted old.moment c.args.moment c.args.slot before _ (calm (h.front ++ l.0 ∷ h.back) h.is_at.held) h.stands (sym h.is_at.slot_is) tells)

pub returns-else-is_some-clause-stands : goal.returns-else-is_some-clause-stands
returns-else-is_some-clause-stands g c = λ before calm rests tells.
    let old = c.args.table.now in
    let none = gone_is c.get.result (endpoint_at old.endpoints c.args.slot) c.get.ensures.is (sym c.is_some.ensures ∙ c.if-is_some.false) in
    record {
      endpoints = rests.endpoints;
      held = rests.held;
      stands = tells_none_writable rests.endpoints old.accepted old.moment c.args.moment c.args.slot before _ (calm rests.endpoints rests.held) rests.stands (no_slot old.endpoints rests.endpoints c.args.slot rests.held none) tells;
    }
