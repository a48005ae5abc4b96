use Rattle.std.proofs.Common.{◌≡◌, map, drop}
use Rattle.px_map.specs.Block.{block_status}
use Rattle.px_map.specs.View.{block_view}
use Rattle.px_map.proofs.block.BlockRules.answer.Given as goal

-- the rules that are left decide
abbrev pub invariant-loop-rule : goal.invariant-loop-rule
invariant-loop-rule l =
    block_status (map block_view l.rule-items) l.flow ≡ block_status (map block_view (drop l.rule-index l.rule-items)) l.flow
