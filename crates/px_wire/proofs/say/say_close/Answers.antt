use Rattle.std.proofs.Common.{None}
use Rattle.px_wire.proofs.FindLemmas.{here}
use Rattle.px_wire.proofs.AskedLemmas.{told_kept, same_kept}
use Rattle.px_wire.proofs.StepLemmas.{close_is}
use Rattle.px_wire.proofs.TableLemmas.{closes_none}
use Rattle.px_wire.proofs.say.say_close.Goals as goal

pub returns-in-Some-clause-stands : goal.returns-in-Some-clause-stands
returns-in-Some-clause-stands g c = λ is rests.
    let f = c.in-Some.ensures.found in
    let h = here None c.args.table.now c.in-Some.slot f.endpoint _ rests f.at in
    c.close_at.ensures.stands _ h.front h.back f.endpoint h.is_at (close_is f.endpoint c.args.conv c.args.side c.args.step.now _ _ f.passes_side is c.in_ok-note.ensures.told) h.stands

pub returns-in_default-clause-stands : goal.returns-in_default-clause-stands
returns-in_default-clause-stands g c = λ is rests. record {
  endpoints = rests.endpoints;
  held = rests.held;
  stands = closes_none c.args.table.now.accepted c.args.table.now.moment _ _ None rests.endpoints c.args.conv c.args.side c.args.step.now is
      (c.find_side.ensures.missing rests.endpoints rests.held c.in_default.is) c.in_ok-note.ensures.told rests.stands;
}

pub returns-in-Some-clause-kept : goal.returns-in-Some-clause-kept
returns-in-Some-clause-kept g c = λ past times since. c.close_at.ensures.kept past times (told_kept _ _ _ c.in_ok-note.ensures.told past times since)

pub returns-in_default-clause-kept : goal.returns-in_default-clause-kept
returns-in_default-clause-kept g c = told_kept _ _ _ c.in_ok-note.ensures.told

pub returns-in_err-note-clause-kept : goal.returns-in_err-note-clause-kept
returns-in_err-note-clause-kept g c = same_kept _ _ c.in_err-note.ensures.calls_err
