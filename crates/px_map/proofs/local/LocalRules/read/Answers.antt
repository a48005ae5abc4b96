use Rattle.std.proofs.Common.{◌∙◌, ap, sym, inl, inr}
use Rattle.px_rule.specs.Rule.{body_rule}
use Rattle.px_rule.proofs.ReadLemmas.{first_bad}
use Rattle.px_map.proofs.local.LocalRules.read.Goals as goal

pub returns-in-Err-clause-err : goal.returns-in-Err-clause-err
returns-in-Err-clause-err c =
    elim c.in-Err.ensures.err [
      | inl full ↦ inl full
      | inr bad ↦ inr (first_bad body_rule c.args.texts.now c.loop-index.index c.index-texts-index.result c.in-Err.cause _ c.loop-index-test.true
          c.index-texts-index.is c.loop-index.invariant (ap body_rule (sym c.as_str.ensures.value) ∙ bad))
    ]
