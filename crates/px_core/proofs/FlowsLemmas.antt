-- What is shown of live flows, one change further.
use Rattle.std.proofs.Common.{◌≡◌, ℕ, Bool, ◌==◌, ◌&&◌, Option, Some, ap, sym, ◌∙◌}
use Rattle.std.specs.Prelude.{if◌then◌else◌}
use Rattle.std.specs.BTreeMap as tree
use Rattle.std.specs.Cmp.{both_tied, unsigned_ties}
use Rattle.std.specs.Ordering.{nat_cmp}
use Rattle.px_message.specs.declared.flow.Flow.{Flow}
use Rattle.px_core.specs.declared.flows.Flows.{Flows}
use Rattle.px_core.specs.Answered.{with_shown}
use Rattle.px_core.specs.Live.{pair_cmp, shown_in}

-- a number is compared as itself
pub at_number : (conv index other place : ℕ) → tree.is_at (pair_cmp (conv, index)) (other, place) ≡ ((conv == other) && (index == place))
at_number conv index other place =
    sym (both_tied (conv == other) (index == place) (nat_cmp conv other) (nat_cmp index place) (unsigned_ties conv other) (unsigned_ties index place))

-- what is put for a flow is shown of it
pub shows_of : (before after : Flows) (conv index : ℕ) (what : Option Flow) → tree.Updates pair_cmp before.asked after.asked (conv, index) what →
    (other place : ℕ) → shown_in after other place ≡ with_shown conv index what (shown_in before) other place
shows_of before after conv index what put other place =
    put.0 (other, place) ∙ ap (λ t. if t then what else shown_in before other place) (at_number conv index other place)

-- so is a flow's copy
pub shows_copy : (before after : Flows) (flow copy : Flow) → copy ≡ flow → tree.Updates pair_cmp before.asked after.asked (flow.id.conv, flow.id.index) (Some copy) →
    (other place : ℕ) → shown_in after other place ≡ with_shown flow.id.conv flow.id.index (Some flow) (shown_in before) other place
shows_copy before after flow copy same put other place =
    shows_of before after flow.id.conv flow.id.index (Some copy) put other place
    ∙ ap (λ f. with_shown flow.id.conv flow.id.index (Some f) (shown_in before) other place) same
