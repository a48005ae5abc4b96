use Rattle.std.proofs.Common.{◌+◌, ◌++◌, ◌∷◌, [], List, drop, subst, sym}
use Rattle.px_frame.specs.declared.frame.Frame.{Frame}
use Rattle.px_frame.specs.declared.frame.Standing.{Standing}
use Rattle.px_frame.specs.declared.frame.Front.TheVariants.{Nothing, Refused, Stands}
use Rattle.px_frame.proofs.MaskLemmas.{whole_tail}
use Rattle.px_frame.proofs.ReadLemmas.{Given, given_fault, given_more, given_rest, step_front}
use Rattle.px_frame.proofs.reader.read_frames.Goals as goal

pub returns-in-Nothing-clause-ending : goal.returns-in-Nothing-clause-ending
returns-in-Nothing-clause-ending c =
    given_rest c.args.masked c.args.at.now c.args.bytes.now c.args.out.now.items c.frames.used c.frames.out.items c.frames.at c.frames.invariant
    (step_front c.args.masked c.frames.at _ (drop c.frames.used c.args.bytes.now) c.in_ok-read_front.field-0 Nothing c.in_ok-read_front.ensures
    c.in-Nothing.is (whole_tail c.frames.used c.args.bytes.now))

pub returns-in-Refused-clause-ending : goal.returns-in-Refused-clause-ending
returns-in-Refused-clause-ending c =
    given_fault c.args.masked c.args.at.now c.args.bytes.now c.args.out.now.items c.frames.used c.frames.out.items c.frames.at c.in-Refused.fault
    c.frames.invariant
    (step_front c.args.masked c.frames.at _ (drop c.frames.used c.args.bytes.now) c.in_ok-read_front.field-0 (Refused c.in-Refused.fault)
    c.in_ok-read_front.ensures c.in-Refused.is (whole_tail c.frames.used c.args.bytes.now))

pub frames-preserved : goal.frames-preserved
frames-preserved c =
    let frame = c.in-Stands.frame in
    let count = c.in-Stands.count in
    let more = given_more c.args.masked c.args.at.now c.args.bytes.now c.args.out.now.items c.frames.used c.frames.out.items c.frames.at frame count
    c.frames.invariant
    (step_front c.args.masked c.frames.at _ (drop c.frames.used c.args.bytes.now) c.in_ok-read_front.field-0 (Stands frame count)
    c.in_ok-read_front.ensures c.in-Stands.is (whole_tail c.frames.used c.args.bytes.now)) in
    subst (λ (items : List Frame). Given c.args.masked c.args.at.now c.args.bytes.now c.args.out.now.items
    (c.frames.used + count) items c.behind.result)
    (sym c.in_ok-push-in-Stands.ensures.items)
    (subst (λ (at : Standing). Given c.args.masked c.args.at.now c.args.bytes.now c.args.out.now.items (c.frames.used + count)
    (c.frames.out.items ++ frame ∷ []) at)
    (sym c.behind.ensures) more)
