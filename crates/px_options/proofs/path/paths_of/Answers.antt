use Rattle.std.proofs.Common.{inl, inr, sym, ◌∙◌}
use Rattle.px_options.proofs.PathLemmas.{are_paths, no_paths}
use Rattle.px_options.proofs.path.paths_of.Goals as goal

pub returns-in-Err-clause-err : goal.returns-in-Err-clause-err
returns-in-Err-clause-err c =
    elim c.in-Err.ensures.err [
      | inl full ↦ inl full
      | inr bad ↦ inr (bad.0, no_paths c.args.texts.now c.loop-text.text-index c.text-item.result c.loop-text-test.true c.text-item.is (sym c.as_str.ensures.value ∙ bad.1))
    ]

pub returns-clause-ok : goal.returns-clause-ok
returns-clause-ok c = are_paths c.loop-text.items.items c.args.texts.now c.loop-text.text-index c.loop-text-test.false c.loop-text.invariant
