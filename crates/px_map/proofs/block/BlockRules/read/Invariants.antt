use Rattle.std.proofs.Common.{map, take, string_bytes}
use Rattle.px_map.specs.Block.{AreBlockRules}
use Rattle.px_map.specs.View.{block_view}
use Rattle.px_map.proofs.block.BlockRules.read.Given as goal

-- the rules of the texts so far
abbrev pub invariant-loop-index : goal.invariant-loop-index
invariant-loop-index l = AreBlockRules (map string_bytes (take l.index l.texts)) (map block_view l.rules.items)
