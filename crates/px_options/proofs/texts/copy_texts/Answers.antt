use Rattle.std.proofs.Common.{map, string_bytes, inl, inr}
use Rattle.px_options.proofs.TextLemmas.{no_text, one_text}
use Rattle.px_options.proofs.texts.copy_texts.Goals as goal

pub returns-in-Err-clause-err : goal.returns-in-Err-clause-err
returns-in-Err-clause-err c =
    elim c.in-Err.ensures.err [
      | inl full ↦ inl full
      | inr bad ↦ inr (bad.0, no_text c.args.values.now c.loop-value.value-index c.value-item.result c.loop-value-test.true c.value-item.is bad.1)
    ]

pub loop-value-preserved : goal.loop-value-preserved
loop-value-preserved c =
    one_text c.args.values.now c.loop-value.value-index c.value-item.result (map string_bytes c.loop-value.texts.items) _ c.loop-value-test.true c.value-item.is
    c.loop-value.invariant c.in-Ok.ensures.ok
