use Rattle.std.proofs.Common.{◌∙◌, ap₂}
use Rattle.px_rule.proofs.PatternLemmas as lemmas
use Rattle.px_rule.proofs.replacing.Replacing.new.Goals as goal

pub returns-in-Ok-build_bytes-clause-texts : goal.returns-in-Ok-build_bytes-clause-texts
returns-in-Ok-build_bytes-clause-texts c =
    let made = c.in-Ok-build_bytes.ensures in (
      ap₂ (λ x y. (x, y)) (made.source ∙ c.builder.ensures.source) (c.in-Ok.ensures ∙ c.as_bytes.ensures.value),
      lemmas.is_pattern_of_built c.in-Ok-build_bytes.pattern _ (made.config ∙ c.builder.ensures.config) made.read (made.source ∙ c.builder.ensures.source),
    )

pub returns-in-Err-Syntax-clause-refused : goal.returns-in-Err-Syntax-clause-refused
returns-in-Err-Syntax-clause-refused c =
    let e = c.in-Err-Syntax.ensures in
    lemmas.is_no_pattern _ _ _ _ c.in-Err-Syntax.field-0-0 c.builder.ensures.config c.builder.ensures.source c.in-Err-Syntax.field-0-is e.refused e.kind
