use Rattle.std.proofs.Common.{◌∙◌, ap, Ok, None}
use Rattle.px_wire.specs.Holds.{endpoint_at}
use Rattle.px_wire.proofs.FindLemmas.{here, is_there, rests_due, calm_due, turn_due, fewer_due}
use Rattle.px_wire.proofs.StepLemmas.{none_added, on_any_err}
use Rattle.px_wire.proofs.hear.hear_waiting.Goals as goal

pub returns-in-Over-clause-stands : goal.returns-in-Over-clause-stands
returns-in-Over-clause-stands g c = λ rests.
    let old = c.loop-slot.table in
    let over = c.in_ok-slot.ensures.over c.in-Over.slot (ap Ok c.in-Over.is) in
    let h = here None (record old { endpoints = c.next_due.new.self }) c.in-Over.slot over.endpoint _ (rests_due None old c.next_due.new.self _ c.next_due.ensures.holds (c.loop-slot.invariant.stands rests)) over.at_is in
    c.hear_close.ensures.stands h.front h.back over.endpoint h.is_at over.over h.stands

pub returns-in-Over-clause-calm : goal.returns-in-Over-clause-calm
returns-in-Over-clause-calm g c = λ is. absurd (c.hear_close.ensures.some is)

pub returns-in-Over-clause-kept : goal.returns-in-Over-clause-kept
returns-in-Over-clause-kept g c = λ past times since. c.hear_close.ensures.kept past times (c.loop-slot.invariant.kept past times since)

pub returns-in_err-told-in-Open-clause-err : goal.returns-in_err-told-in-Open-clause-err
returns-in_err-told-in-Open-clause-err g c = λ rests.
    let old = c.loop-slot.table in
    let f = c.in_ok-slot.ensures.opens c.in-Open.slot (ap Ok c.in-Open.is) in
    let h = here None (record old { endpoints = c.next_due.new.self }) c.in-Open.slot f.0.endpoint _ (rests_due None old c.next_due.new.self _ c.next_due.ensures.holds (c.loop-slot.invariant.stands rests)) f.0.at in
    on_any_err c.from_residual-in_err-told-in-Open.result _
    (c.in_err-told-in-Open.ensures.err h.front h.back f.0.endpoint h.is_at (turn_due c.next_due.new.self c.in-Open.slot f.0 f.1 h.front h.back h.is_at) h.stands)

pub returns-in_err-told-in-Open-clause-kept : goal.returns-in_err-told-in-Open-clause-kept
returns-in_err-told-in-Open-clause-kept g c = λ past times since. c.in_err-told-in-Open.ensures.kept past times (c.loop-slot.invariant.kept past times since)

pub returns-in-Some-clause-stands : goal.returns-in-Some-clause-stands
returns-in-Some-clause-stands g c = λ rests.
    let old = c.loop-slot.table in
    let f = c.in_ok-slot.ensures.opens c.in-Open.slot (ap Ok c.in-Open.is) in
    let h = here None (record old { endpoints = c.next_due.new.self }) c.in-Open.slot f.0.endpoint _ (rests_due None old c.next_due.new.self _ c.next_due.ensures.holds (c.loop-slot.invariant.stands rests)) f.0.at in
    c.in_ok-told-in-Open.ensures.stands h.front h.back f.0.endpoint h.is_at (turn_due c.next_due.new.self c.in-Open.slot f.0 f.1 h.front h.back h.is_at) h.stands

pub returns-in-Some-clause-kept : goal.returns-in-Some-clause-kept
returns-in-Some-clause-kept g c = λ past times since. c.in_ok-told-in-Open.ensures.kept past times (c.loop-slot.invariant.kept past times since)

pub loop-slot-smaller : goal.loop-slot-smaller
loop-slot-smaller g c =
    let f = c.in_ok-slot.ensures.opens c.in-Open.slot (ap Ok c.in-Open.is) in
    fewer_due c.loop-slot.table.endpoints c.next_due.new.self c.read_at.new.table.endpoints c.in-Open.slot f.0 c.next_due.ensures.slots
    (c.in_ok-told-in-Open.ensures.none f.0.endpoint f.0.at (ap Ok c.in_default.is))

pub loop-slot-preserved : goal.loop-slot-preserved
loop-slot-preserved g c =
    let before = c.loop-slot.invariant in
    let old = c.loop-slot.table in
    let f = c.in_ok-slot.ensures.opens c.in-Open.slot (ap Ok c.in-Open.is) in
    record {
      stands = λ rests.
          let h = here None (record old { endpoints = c.next_due.new.self }) c.in-Open.slot f.0.endpoint _ (rests_due None old c.next_due.new.self _ c.next_due.ensures.holds (before.stands rests)) f.0.at in
          c.in_ok-told-in-Open.ensures.stands h.front h.back f.0.endpoint h.is_at (turn_due c.next_due.new.self c.in-Open.slot f.0 f.1 h.front h.back h.is_at) h.stands;
      room = c.read_at.ensures.room ∙ before.room;
      steps = none_added c.in_ok-told-in-Open.field-0 _ _ c.in_default.is c.in_ok-told-in-Open.ensures.steps ∙ before.steps;
      listening = c.read_at.ensures.listening ∙ before.listening;
      faults = c.read_at.ensures.faults ∙ before.faults;
      kept = λ past times since. c.read_at.ensures.kept past times (before.kept past times since);
      asks = c.read_at.ensures.asks ∙ before.asks;
    }

pub returns-in-Nothing-clause-calm : goal.returns-in-Nothing-clause-calm
returns-in-Nothing-clause-calm g c = λ is.
    let s = c.in_ok-slot.ensures.calm (ap Ok c.in-Nothing.is) in
    calm_due c.next_due.new.self s.0 s.1

pub hear_close-requires : goal.hear_close-requires
hear_close-requires g c = record {
  there = (let over = c.in_ok-slot.ensures.over c.in-Over.slot (ap Ok c.in-Over.is) in is_there (endpoint_at c.next_due.new.self c.in-Over.slot) over.endpoint over.at_is);
}

pub read_at-requires-clause-there : goal.read_at-requires-clause-there
read_at-requires-clause-there g c =
    let f = c.in_ok-slot.ensures.opens c.in-Open.slot (ap Ok c.in-Open.is) in is_there (endpoint_at c.next_due.new.self c.in-Open.slot) f.0.endpoint f.0.at
