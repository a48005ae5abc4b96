use Rattle.std.proofs.Common.{inl, inr}
use Rattle.px_options.proofs.GatherLemmas.{gathered_says}
use Rattle.px_options.proofs.table.options_of.Goals as goal

pub returns-in-Ok-clause-ok : goal.returns-in-Ok-clause-ok
returns-in-Ok-clause-ok c = gathered_says c.args.table.now.entries _ _ c.gather.ensures.ordered c.in_ok-options.ensures.ok c.in-Ok.ensures.ok

pub returns-in-Err-clause-err : goal.returns-in-Err-clause-err
returns-in-Err-clause-err c =
    elim c.in-Err.ensures.err [
      | inl full ↦ inl full
      | inr bad ↦ inr (gathered_says c.args.table.now.entries _ _ c.gather.ensures.ordered c.in_ok-options.ensures.ok bad)
    ]
