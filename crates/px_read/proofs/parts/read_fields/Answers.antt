use Rattle.std.proofs.Common.{ℕ, List, subst}
use Rattle.std.specs.Prelude.{All}
use Rattle.std.proofs.lemmas.List.Elements.{All-head, All-tail}
use Rattle.px_head.specs.Laws.{IsPair}
use Rattle.px_read.proofs.parts.read_fields.Goals as goal

pub loop-name-preserved : goal.loop-name-preserved
loop-name-preserved c =
    let left = subst (λ (pairs : List (List ℕ × List ℕ)). All IsPair pairs) c.in-Some.ensures.steps.0 c.loop-name.invariant.1 in
    (cc c.in_ok-add.ensures.added, All-tail IsPair _ _ left)

pub read_name-requires : goal.read_name-requires
read_name-requires c =
    let left = subst (λ (pairs : List (List ℕ × List ℕ)). All IsPair pairs) c.in-Some.ensures.steps.0 c.loop-name.invariant.1 in
    (All-head IsPair _ _ left).0

pub read_value-requires : goal.read_value-requires
read_value-requires c =
    let left = subst (λ (pairs : List (List ℕ × List ℕ)). All IsPair pairs) c.in-Some.ensures.steps.0 c.loop-name.invariant.1 in
    (All-head IsPair _ _ left).1
