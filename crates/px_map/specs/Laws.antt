-- Words of the laws.
use Rattle.std.specs.Prelude.{not, List}
use Rattle.std.specs.List.{AllPass}
use Rattle.px_message.specs.declared.flow.Flow.{Flow}
use Rattle.px_rule.specs.Rule.{applies}
use Rattle.px_map.specs.Block.{BlockRule}

-- no block rule's filter holds on the flow
abbrev pub BlockNowhere : List BlockRule → Flow → Type 0
BlockNowhere rules flow = AllPass (λ (rule : BlockRule). not (applies rule.filter flow)) rules
