use Rattle.std.proofs.Common.{refl, ◌∙◌, ◌+◌, ◌≤◌, arith, drop, length, take}
use Rattle.std.proofs.lemmas.List.{take_all}
use Rattle.px_core.proofs.RunLemmas.{on_err}
use Rattle.px_obey.specs.declared.outcome.Outcome.TheVariants as outcome
use Rattle.px_obey.proofs.LinesLemmas.{breaks_next, cut_at, goes_all, goes_ended, goes_first, goes_next, grown_at, leaves_ends, quits_ends}
use Rattle.px_obey.proofs.OrderLemmas.{sound_on}
use Rattle.px_obey.proofs.lines.obey_lines.Goals as goal

pub loop-line-init : goal.loop-line-init
loop-line-init g c = record { goes = goes_first c.args.conv; listening = refl; faults = refl }

pub obey_line-requires : goal.obey_line-requires
obey_line-requires g c = record { sound = sound_on c.loop-line.invariant.goes c.requires.sound }

pub loop-line-preserved : goal.loop-line-preserved
loop-line-preserved g c = record {
  goes = goes_next c.args.conv (take c.loop-line.line-index c.args.lines.now) (take (c.loop-line.line-index + 1) c.args.lines.now) c.line-item.result c.in_ok-outcome.outcome c.in-GoesOn.is (grown_at c.args.lines.now c.loop-line.line-index c.line-item.result c.loop-line-test.true c.line-item.is)
      c.loop-line.invariant.goes c.in_ok-outcome.ensures.ok;
  listening = c.in_ok-outcome.ensures.listening ∙ c.loop-line.invariant.listening;
  faults = c.in_ok-outcome.ensures.faults ∙ c.loop-line.invariant.faults;
}

pub returns-clause-ok : goal.returns-clause-ok
returns-clause-ok g c =
    let past : length c.args.lines.now ≤ c.loop-line.line-index = omega (arith, c.loop-line-test.false) in
    goes_all c.args.conv c.args.lines.now (take c.loop-line.line-index c.args.lines.now) (take_all c.loop-line.line-index c.args.lines.now past) c.loop-line.invariant.goes

pub returns-in-Leaves-clause-ok : goal.returns-in-Leaves-clause-ok
returns-in-Leaves-clause-ok g c = goes_ended c.args.conv c.args.lines.now (take c.loop-line.line-index c.args.lines.now) (drop (c.loop-line.line-index + 1) c.args.lines.now) c.line-item.result c.in_ok-outcome.outcome outcome.Leaves c.in-Leaves.is leaves_ends
    (cut_at c.args.lines.now c.loop-line.line-index c.line-item.result c.loop-line-test.true c.line-item.is) c.loop-line.invariant.goes c.in_ok-outcome.ensures.ok

pub returns-in-Quits-clause-ok : goal.returns-in-Quits-clause-ok
returns-in-Quits-clause-ok g c = goes_ended c.args.conv c.args.lines.now (take c.loop-line.line-index c.args.lines.now) (drop (c.loop-line.line-index + 1) c.args.lines.now) c.line-item.result c.in_ok-outcome.outcome outcome.Quits c.in-Quits.is quits_ends
    (cut_at c.args.lines.now c.loop-line.line-index c.line-item.result c.loop-line-test.true c.line-item.is) c.loop-line.invariant.goes c.in_ok-outcome.ensures.ok

pub returns-in_err-outcome-clause-err : goal.returns-in_err-outcome-clause-err
returns-in_err-outcome-clause-err g c = on_err c.from_residual.result
    (breaks_next c.args.conv c.args.lines.now (take c.loop-line.line-index c.args.lines.now) (drop (c.loop-line.line-index + 1) c.args.lines.now) c.line-item.result (cut_at c.args.lines.now c.loop-line.line-index c.line-item.result c.loop-line-test.true c.line-item.is) c.loop-line.invariant.goes c.in_err-outcome.ensures.err)
