use Rattle.std.proofs.Common.{◌≡◌, length}
use Rattle.std.specs.List.{list_any}
use Rattle.px_message.specs.Fields.{values_of}
use Rattle.px_filter.specs.Holds.{content_type}
use Rattle.px_filter.specs.Pattern.{found}
use Rattle.px_filter.proofs.part.values_have.Given as goal

abbrev pub invariant-loop-value : goal.invariant-loop-value
invariant-loop-value l =
    (l.seeker ≡ l.fn.seeker)
    × (list_any (found l.fn.seeker) l.values ≡ list_any (found l.fn.seeker) (values_of content_type l.fn.fields))

abbrev pub decreases-loop-value : goal.decreases-loop-value
decreases-loop-value l = length l.values
