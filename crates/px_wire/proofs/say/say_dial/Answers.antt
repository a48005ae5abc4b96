use Rattle.std.proofs.Common.{◌++◌, ◌∷◌, [], subst, refl, None}
use Rattle.px_event.specs.declared.side.Side.TheVariants.{Server}
use Rattle.px_wire.specs.declared.endpoint.Endpoint.{Endpoint}
use Rattle.px_wire.specs.declared.call.WireCall.TheVariants as calls
use Rattle.px_wire.specs.Holds.{Holds, without}
use Rattle.px_wire.specs.Endpoints.{new_endpoint}
use Rattle.px_wire.proofs.AskedLemmas.{told_kept, same_kept}
use Rattle.px_wire.proofs.FindLemmas.{here, rests_alike}
use Rattle.px_wire.proofs.StepLemmas.{dials_new, pushed, redials, on_any_err, rests_same}
use Rattle.px_wire.proofs.HoldsLemmas.{alike_held}
use Rattle.px_wire.proofs.say.say_dial.Goals as goal

pub returns-in_default-clause-stands : goal.returns-in_default-clause-stands
returns-in_default-clause-stands g c = λ is rests.
    let old = c.args.table.now in
    let held = alike_held old.endpoints c.reserve.new.self rests.endpoints c.reserve.ensures.same rests.held in
    let made = new_endpoint c.in_ok-slot.slot c.args.conv (Server c.args.server) None in
    let turn = c.reserve.new.self.next_turn in
    let P : Endpoint → Type 0 = λ l. Holds c.push.new.self (without l.slot rests.endpoints ++ record l { turn = turn } ∷ []) in
    record {
      endpoints = without c.in_ok-slot.slot rests.endpoints ++ record made { turn = turn } ∷ [];
      held = subst P c.new.ensures (c.push.ensures.holds rests.endpoints held);
      stands = pushed c.in_ok-slot.slot turn made rests.endpoints (calls.Dialled c.args.address.now c.args.step.now c.in_ok-slot.slot) old.accepted old.moment old.accepted old.moment None _ _ c.in_ok-slot.ensures.told rests.stands c.in_ok-slot.ensures.free
          (dials_new rests.endpoints old.accepted old.moment c.in_ok-slot.slot c.args.conv c.args.server c.args.address.now c.args.step.now _ _ is c.in_ok-slot.ensures.free c.in_ok-slot.ensures.told rests.stands
          (c.find_side-old.ensures.missing rests.endpoints held c.in_default.is));
    }

pub returns-in-Some-clause-stands : goal.returns-in-Some-clause-stands
returns-in-Some-clause-stands g c = λ is rests.
    let old = c.args.table.now in
    let f = c.in-Some.ensures.found in
    let reserved = rests_alike None old (record old { endpoints = c.reserve.new.self }) _ c.reserve.ensures.same refl refl rests in
    let h = here None (record old { endpoints = c.reserve.new.self }) c.in-Some.old f.endpoint _ reserved f.at in
    let made = new_endpoint c.in_ok-slot.slot c.args.conv (Server c.args.server) None in
    let turn = c.reserve.new.self.next_turn in
    let endpoints = h.front ++ f.endpoint ∷ h.back in
    let P : Endpoint → Type 0 = λ l. Holds c.push.new.self (without l.slot endpoints ++ record l { turn = turn } ∷ []) in
    let held = subst P c.new.ensures (c.push.ensures.holds endpoints h.is_at.held) in
    record {
      endpoints = without c.in-Some.old (without c.in_ok-slot.slot endpoints ++ record made { turn = turn } ∷ []);
      held = c.remove.ensures.holds _ held;
      stands = redials c.reserve.new.self c.push.new.self h.front f.endpoint h.back c.in-Some.old h.is_at old.accepted old.moment c.in_ok-slot.slot c.args.conv c.args.server turn c.args.address.now c.args.step.now _ _ _ held is
          c.in_ok-slot.ensures.free c.in_ok-slot.ensures.told c.shut.ensures.told f.passes_side h.stands;
    }

pub returns-in_err-slot-clause-err : goal.returns-in_err-slot-clause-err
returns-in_err-slot-clause-err g c = λ rests.
    let old = c.args.table.now in
    on_any_err c.from_residual-in_err-slot.result _ (rests_alike None old (record old { endpoints = c.reserve.new.self }) _ c.reserve.ensures.same refl refl (rests_same None old _ _ c.in_err-slot.ensures.calls_err rests))

pub returns-in_err-reserve-clause-err : goal.returns-in_err-reserve-clause-err
returns-in_err-reserve-clause-err g c = λ rests.
    let old = c.args.table.now in
    on_any_err c.from_residual.result _ (rests_alike None old (record old { endpoints = c.reserve.new.self }) _ c.reserve.ensures.same refl refl rests)

pub returns-in-Some-clause-kept : goal.returns-in-Some-clause-kept
returns-in-Some-clause-kept g c = λ past times since. told_kept _ _ _ c.shut.ensures.told past times (told_kept _ _ _ c.in_ok-slot.ensures.told past times since)

pub returns-in_default-clause-kept : goal.returns-in_default-clause-kept
returns-in_default-clause-kept g c = told_kept _ _ _ c.in_ok-slot.ensures.told

pub returns-in_err-slot-clause-kept : goal.returns-in_err-slot-clause-kept
returns-in_err-slot-clause-kept g c = same_kept _ _ c.in_err-slot.ensures.calls_err
