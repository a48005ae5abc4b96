use Rattle.std.proofs.Common.{◌≡◌, length}
use Rattle.px_filter.specs.Reading.{negate, behind_negations}
use Rattle.px_filter.specs.Stands.{frames_view}
use Rattle.px_filter.specs.View.{view}
use Rattle.px_filter.proofs.state.negate.Given as goal

abbrev pub invariant-loop-alloc : goal.invariant-loop-alloc
invariant-loop-alloc l =
    (negate (frames_view l.frames.items) (view l.tree) ≡ negate (frames_view l.fn.frames.items) (view l.fn.tree))
    × (behind_negations (frames_view l.frames.items) ≡ behind_negations (frames_view l.fn.frames.items))

abbrev pub decreases-loop-alloc : goal.decreases-loop-alloc
decreases-loop-alloc l = length l.frames.items
