use Rattle.std.proofs.Common.{None}
use Rattle.px_wire.proofs.FindLemmas.{here}
use Rattle.px_wire.proofs.AskedLemmas.{call_kept}
use Rattle.px_wire.proofs.StepLemmas.{on_ok, on_err, rests_same, send_is}
use Rattle.px_wire.proofs.TableLemmas.{sends_none}
use Rattle.px_wire.proofs.say.say_send.Goals as goal

pub returns-in-Some-clause-stands : goal.returns-in-Some-clause-stands
returns-in-Some-clause-stands g c = λ is rests.
    let f = c.in-Some.ensures.found in
    let h = here None c.args.table.now c.in-Some.slot f.endpoint _ rests f.at in
    c.send_at.ensures.stands h.front h.back f.endpoint h.is_at (send_is f.endpoint c.args.conv c.args.side c.args.bytes.now c.args.step.now f.passes_side is) h.stands

pub returns-in-None-clause-stands : goal.returns-in-None-clause-stands
returns-in-None-clause-stands g c = λ is rests.
    on_ok c.note.result _ _ c.note.ensures.told (λ tells. record {
      endpoints = rests.endpoints;
      held = rests.held;
      stands = sends_none c.args.table.now.accepted c.args.table.now.moment _ _ None rests.endpoints c.args.conv c.args.side c.args.bytes.now c.args.step.now is
          (c.find_side.ensures.missing rests.endpoints rests.held c.in-None.is) tells rests.stands;
    })

pub returns-in-None-clause-err : goal.returns-in-None-clause-err
returns-in-None-clause-err g c = λ rests. on_err c.note.result _ _ c.note.ensures.calls_err (λ same. rests_same None c.args.table.now _ _ same rests)

pub returns-in-None-clause-kept : goal.returns-in-None-clause-kept
returns-in-None-clause-kept g c = call_kept c.note.result _ _ _ c.note.ensures.told c.note.ensures.calls_err
