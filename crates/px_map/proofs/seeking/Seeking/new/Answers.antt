use Rattle.std.proofs.Common.{◌∙◌, inr, refl}
use Rattle.px_rule.proofs.PatternLemmas as lemmas
use Rattle.px_map.proofs.seeking.Seeking.new.Goals as goal

pub returns-in-Ok-clause-ok : goal.returns-in-Ok-clause-ok
returns-in-Ok-clause-ok c =
    let made = c.in-Ok.ensures in (
      made.source ∙ c.builder.ensures.source,
      lemmas.is_pattern_of_built c.in-Ok.pattern _ (made.config ∙ c.builder.ensures.config) made.read (made.source ∙ c.builder.ensures.source),
    )

pub returns-in-Err-Syntax-clause-err : goal.returns-in-Err-Syntax-clause-err
returns-in-Err-Syntax-clause-err c =
    let e = c.in-Err-Syntax.ensures in
    inr (
      refl,
      lemmas.is_no_pattern _ _ _ _ c.in-Err-Syntax.field-0-0 c.builder.ensures.config c.builder.ensures.source c.in-Err-Syntax.field-0-is e.refused e.kind,
    )
