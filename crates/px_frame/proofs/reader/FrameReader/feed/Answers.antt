use Rattle.std.proofs.Common.{◌∙◌, ℕ, List, ap, drop, length, refl, subst, ◌++◌}
use Rattle.px_frame.specs.declared.reader.Ending.{Ending}
use Rattle.px_frame.specs.Endings.{IsLeft}
use Rattle.px_frame.specs.Head.{has_length}
use Rattle.px_frame.proofs.FeedLemmas.{fed_fault, fed_rest}
use Rattle.px_frame.proofs.reader.FrameReader.feed.Goals as goal

pub returns-in-Rest-clause-frames : goal.returns-in-Rest-clause-frames
returns-in-Rest-clause-frames c =
    let inside = c.self.inside in
    fed_rest inside.masked inside.begun inside.rest c.args.bytes.now (inside.rest ++ c.args.bytes.now) c.read_on.new.waiting
    inside.failed c.args.left
    c.in-Rest.field-0 c.has_length.result (drop
    (length c.args.out.now.items) c.read_on.new.out.items) c.in_ok-read_on.field-0 c.read_on.new.at c.args.self.now
    c.self.view_is c.in_default.is
    (c.has_length.ensures ∙ ap (λ (l : List ℕ). has_length l) c.as_slice.ensures)
    refl
    (subst (λ (e : Ending). IsLeft (inside.rest ++ c.args.bytes.now) e c.read_on.new.waiting) c.in-Rest.is c.in_ok-read_on.ensures.left)
    c.in-Rest.is c.in_ok-read_on.ensures.ending

pub returns-in-Fault-clause-frames : goal.returns-in-Fault-clause-frames
returns-in-Fault-clause-frames c =
    let inside = c.self.inside in
    fed_fault inside.masked inside.begun inside.rest c.args.bytes.now (inside.rest ++ c.args.bytes.now) c.read_on.new.waiting inside.failed c.args.left
    c.in-Fault.fault c.has_length.result (drop
    (length c.args.out.now.items) c.read_on.new.out.items) c.in_ok-read_on.field-0 c.read_on.new.at c.args.self.now
    c.self.view_is c.in_default.is
    (c.has_length.ensures ∙ ap (λ (l : List ℕ). has_length l) c.as_slice.ensures)
    refl
    (subst (λ (e : Ending). IsLeft (inside.rest ++ c.args.bytes.now) e c.read_on.new.waiting) c.in-Fault.is c.in_ok-read_on.ensures.left)
    c.in-Fault.is c.in_ok-read_on.ensures.ending
