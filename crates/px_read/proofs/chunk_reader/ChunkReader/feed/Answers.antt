use Rattle.std.proofs.Common.{◌+◌, List, refl, sym, ◌∙◌, ap, ◌++◌, ◌∷◌, [], append-nil, append_assoc, drop, length, arith}
use Rattle.std.specs.Prelude.{Ok, Err}
use Rattle.std.proofs.lemmas.List.{length-drop}
use Rattle.px_read.specs.declared.part.ChunkPart.{ChunkPart}
use Rattle.px_read.proofs.StepLemmas.{same_error}
use Rattle.px_read.proofs.FeedLemmas.{Fed, feed_more, feed_none, feed_stops, feeds_none, added_are, fed_as}
use Rattle.px_read.proofs.chunk_reader.ChunkReader.feed.Goals as goal

pub loop-step-init : goal.loop-step-init
loop-step-init c = (omega arith, ([], sym (append-nil c.args.out.now.items), feeds_none c.args.self.now c.args.bytes.now))

pub overflow_add-at : goal.overflow_add-at
overflow_add-at c =
    let at = c.loop-step.invariant.0 in
    let size = length-drop c.loop-step.at c.args.bytes.now in
    let within = c.in_ok-step.ensures.within in
    let small = c.in_ok-step.ensures.small in
    omega arith

-- where a step failed
failed : (c : goal.After-from_residual)
    → Fed c.args.self.now c.args.bytes.now (drop (length c.args.out.now.items) c.loop-step.out.items) c.from_residual.result c.step_at.new.self
failed c =
    let w = c.loop-step.invariant in
    let error = c.in_err-step.field-0.0 in
    let s = c.in_err-step.ensures.step in
    let fed = feed_stops c.args.self.now c.args.bytes.now c.loop-step.at w.1.0 c.loop-step.self c.step_at.new.self error w.0 c.in_err-step.ensures.going w.1.2 s in
    fed_as c.args.self.now c.args.bytes.now w.1.0 _ (Err error) c.from_residual.result c.step_at.new.self
    (added_are c.args.out.now.items c.loop-step.out.items w.1.0 w.1.1) (same_error c.from_residual.result error c.from_residual.ensures.1) fed

pub returns-in_err-step-clause-parts : goal.returns-in_err-step-clause-parts
returns-in_err-step-clause-parts c = (failed c).added

pub returns-in_err-step-clause-answer : goal.returns-in_err-step-clause-answer
returns-in_err-step-clause-answer c = (failed c).answer

pub returns-in_err-step-clause-state : goal.returns-in_err-step-clause-state
returns-in_err-step-clause-state c = (failed c).state

-- where it gave no part
done : (c : goal.In-None)
    → Fed c.args.self.now c.args.bytes.now (drop (length c.args.out.now.items) c.loop-step.out.items)
    (Ok (c.loop-step.at + c.in_ok-step.step.used)) c.step_at.new.self
done c =
    let w = c.loop-step.invariant in
    let step = c.in_ok-step.step in
    let s = c.in_ok-step.ensures.step in
    let fed = feed_none c.args.self.now c.args.bytes.now c.loop-step.at w.1.0 c.loop-step.self c.step_at.new.self step w.0 c.in_ok-step.ensures.going w.1.2 s c.in-None.is in
    fed_as c.args.self.now c.args.bytes.now w.1.0 _ _ _ c.step_at.new.self
    (added_are c.args.out.now.items c.loop-step.out.items w.1.0 w.1.1) refl fed

pub returns-in-None-clause-parts : goal.returns-in-None-clause-parts
returns-in-None-clause-parts c = (done c).added

pub returns-in-None-clause-answer : goal.returns-in-None-clause-answer
returns-in-None-clause-answer c = (done c).answer

pub returns-in-None-clause-state : goal.returns-in-None-clause-state
returns-in-None-clause-state c = (done c).state

pub loop-step-preserved : goal.loop-step-preserved
loop-step-preserved c =
    let w = c.loop-step.invariant in
    let step = c.in_ok-step.step in
    let part = c.in-Some.part in
    let s = c.in_ok-step.ensures.step in
    let more = feed_more c.args.self.now c.args.bytes.now c.loop-step.at w.1.0 c.loop-step.self c.step_at.new.self step part w.0 c.in_ok-step.ensures.going w.1.2 s c.in-Some.is in (
      more.within,
      (
        w.1.0 ++ part ∷ [],
        c.in_ok-push-in-Some.ensures.items
            ∙ ap (λ (p : ChunkPart). c.loop-step.out.items ++ p ∷ []) c.in-Some.part-is
            ∙ ap (λ (l : List ChunkPart). l ++ part ∷ []) w.1.1
            ∙ append_assoc c.args.out.now.items w.1.0 (part ∷ []),
        more.feeds,
      ),
    )
