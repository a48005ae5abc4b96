use Rattle.std.proofs.Common.{◌+◌, refl, None}
use Rattle.px_wire.proofs.FindLemmas.{rests_alike, calm_alike}
use Rattle.px_wire.proofs.AskedLemmas.{failed_kept, told_kept, told_answered}
use Rattle.px_wire.proofs.StepLemmas.{tells_no, on_any_err}
use Rattle.px_wire.proofs.ready.hear_ready.Goals as goal

pub returns-in_err-told-clause-err : goal.returns-in_err-told-clause-err
returns-in_err-told-clause-err g c = λ calm rests.
    let old = c.args.table.now in
    on_any_err c.from_residual-in_err-told.result _ (
      None,
      rests_alike None old (record old { endpoints = c.reserve.new.self }) _ c.reserve.ensures.same refl refl (record {
        endpoints = rests.endpoints;
        held = rests.held;
        stands = tells_no rests.endpoints old.accepted old.moment old.moment 0 _ _ (calm rests.endpoints rests.held) rests.stands c.ready.result c.in_err-told.field-0.0 c.in_err-told.was c.ready.ensures.failed c.ready.ensures.no_memory;
      }),
    )

pub returns-in_err-told-clause-fault_stands : goal.returns-in_err-told-clause-fault_stands
returns-in_err-told-clause-fault_stands g c = λ calm rests is.
    let old = c.args.table.now in
    rests_alike None old (record old { endpoints = c.reserve.new.self }) _ c.reserve.ensures.same refl refl (record {
      endpoints = rests.endpoints;
      held = rests.held;
      stands = tells_no rests.endpoints old.accepted old.moment old.moment 0 _ _ (calm rests.endpoints rests.held) rests.stands c.ready.result c.in_err-told.field-0.0 c.in_err-told.was c.ready.ensures.failed c.ready.ensures.no_memory;
    })

pub returns-in_err-reserve-clause-err : goal.returns-in_err-reserve-clause-err
returns-in_err-reserve-clause-err g c = λ calm rests.
    let old = c.args.table.now in
    on_any_err c.from_residual.result _ (None, rests_alike None old (record old { endpoints = c.reserve.new.self }) _ c.reserve.ensures.same refl refl rests)

pub returns-in_err-reserve-clause-fault_stands : goal.returns-in_err-reserve-clause-fault_stands
returns-in_err-reserve-clause-fault_stands g c = λ calm rests is.
    let old = c.args.table.now in
    rests_alike None old (record old { endpoints = c.reserve.new.self }) _ c.reserve.ensures.same refl refl rests

pub returns-clause-stands : goal.returns-clause-stands
returns-clause-stands g c = λ calm rests.
    let old = c.args.table.now in
    c.in_ok-heard.ensures.stands (g.W.Wire.calls c.args.wire.now) (calm_alike old.endpoints c.reserve.new.self c.reserve.ensures.same calm)
    (rests_alike None old (record old { endpoints = c.reserve.new.self }) _ c.reserve.ensures.same refl refl rests) c.in_ok-told.ensures.free c.in_ok-told.ensures.told

pub returns-in_err-heard-clause-err : goal.returns-in_err-heard-clause-err
returns-in_err-heard-clause-err g c = λ calm rests.
    let old = c.args.table.now in
    on_any_err c.from_residual-in_err-heard.result _ (c.in_err-heard.ensures.err (g.W.Wire.calls c.args.wire.now) (calm_alike old.endpoints c.reserve.new.self c.reserve.ensures.same calm)
    (rests_alike None old (record old { endpoints = c.reserve.new.self }) _ c.reserve.ensures.same refl refl rests) c.in_ok-told.ensures.free c.in_ok-told.ensures.told)

pub returns-in_err-told-clause-kept : goal.returns-in_err-told-clause-kept
returns-in_err-told-clause-kept g c = failed_kept c.ready.result c.in_err-told.field-0.0 _ _ c.in_err-told.was c.ready.ensures.failed c.ready.ensures.no_memory

pub returns-clause-kept : goal.returns-clause-kept
returns-clause-kept g c = λ past times since. c.in_ok-heard.ensures.kept past times (told_kept _ _ _ c.in_ok-told.ensures.told past times since)

pub returns-clause-answered : goal.returns-clause-answered
returns-clause-answered g c = λ past times since. c.in_ok-heard.ensures.kept past (times + 1) (told_answered _ _ _ _ c.in_ok-told.ensures.told past times since)

pub returns-in_err-heard-clause-kept : goal.returns-in_err-heard-clause-kept
returns-in_err-heard-clause-kept g c = λ past times since. c.in_err-heard.ensures.kept past times (told_kept _ _ _ c.in_ok-told.ensures.told past times since)
