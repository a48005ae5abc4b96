use Rattle.std.proofs.Common.{subst, ◌≡◌, ◌≢◌, None}
use Rattle.px_read.specs.ChunkSteps.{IsOpen}
use Rattle.px_read.proofs.StepLemmas.{waits_more, move_some, step_part, step_fails, failed, same_error, is_there, is_not_there, open_from}
use Rattle.px_read.proofs.chunk_reader.ChunkReader.step.Goals as goal

pub returns-in_err-turn : goal.returns-in_err-turn
returns-in_err-turn c =
    let w = c.loop-at.invariant in
    let m = c.in_err-turn.ensures in
    let s = step_fails c.args.self.now c.args.bytes.now c.loop-at.at c.loop-at.self c.turn.new.self c.in_err-turn.field-0.0 w.0 w.1 m in
    let f = failed c.args.self.now c.args.bytes.now c.in_err-turn.field-0.0 c.from_residual.result c.turn.new.self
    (same_error c.from_residual.result c.in_err-turn.field-0.0 c.from_residual.ensures.1) s in
    record { going = subst IsOpen c.self.view_is (open_from c.self.inside.line.items c.self.inside.stage c.self.invariant); within = f.within; step = f.step }

pub returns-then-is_some : goal.returns-then-is_some
returns-then-is_some c =
    let w = c.loop-at.invariant in
    let m = c.in_ok-turn.ensures in
    let some : c.in_ok-turn.turn.part ≢ None = is_there c.in_ok-turn.turn.part c.if-is_some.ensures in
    record {
      going = subst IsOpen c.self.view_is (open_from c.self.inside.line.items c.self.inside.stage c.self.invariant);
      within = (move_some c.args.self.now c.args.bytes.now c.loop-at.at c.loop-at.self c.turn.new.self c.in_ok-turn.turn w.0 w.1 m).1;
      step = step_part c.args.self.now c.args.bytes.now c.loop-at.at c.loop-at.self c.turn.new.self c.in_ok-turn.turn w.0 w.1 m some;
    }

pub loop-at-preserved : goal.loop-at-preserved
loop-at-preserved c =
    let w = c.loop-at.invariant in
    let m = c.in_ok-turn.ensures in
    let none : c.in_ok-turn.turn.part ≡ None = is_not_there c.in_ok-turn.turn.part c.if-is_some.ensures in (
      (move_some c.args.self.now c.args.bytes.now c.loop-at.at c.loop-at.self c.turn.new.self c.in_ok-turn.turn w.0 w.1 m).1,
      waits_more c.args.self.now c.args.bytes.now c.loop-at.at c.loop-at.self c.turn.new.self c.in_ok-turn.turn w.0 w.1 m none,
    )
