use Rattle.std.proofs.Common.{◌∙◌, ap, sym, inl, inr}
use Rattle.px_map.specs.Block.{block_rule}
use Rattle.px_map.proofs.BlockLemmas.{first_bad}
use Rattle.px_map.proofs.block.BlockRules.read.Goals as goal

pub returns-in-Err-clause-err : goal.returns-in-Err-clause-err
returns-in-Err-clause-err c =
    elim c.in-Err.ensures.err [
      | inl full ↦ inl full
      | inr bad ↦ inr (first_bad c.args.texts.now c.loop-index.index c.index-texts-index.result c.in-Err.cause _ c.loop-index-test.true
          c.index-texts-index.is c.loop-index.invariant (ap block_rule (sym c.as_str.ensures.value) ∙ bad))
    ]
