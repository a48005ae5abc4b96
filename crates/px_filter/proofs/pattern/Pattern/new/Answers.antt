use Rattle.std.proofs.Common.{◌≡◌, ◌≢◌, false, true, inl, inr, refl, subst, sym, ◌∙◌}
use Rattle.std.proofs.lemmas.Bool.{cases_Bool}
use Rattle.std.proofs.lemmas.Str.{IsUtf8-from_is_utf8, is_utf8-from_IsUtf8}
use Rattle.std.specs.Str.{is_utf8}
use Rattle.regex.specs.Failures.{IsRightKind}
use Rattle.regex.specs.Views.{builder_config, builder_source}
use Rattle.regex_syntax.specs.declared.error.ErrorKind.TheVariants.{OutOfMemory}
use Rattle.px_filter.proofs.PatternLemmas.{is_no_pattern, is_no_text, is_pattern_read}
use Rattle.px_filter.proofs.pattern.Pattern.new.Goals as goal

pub returns-in_default-clause-err : goal.returns-in_default-clause-err
returns-in_default-clause-err c =
    let word = c.args.word.now in
    let no_text : is_utf8 word ≡ false = elim (cases_Bool (is_utf8 word)) [
      | inl text ↦ absurd (c.in_default.ensures.cases.0 (IsUtf8-from_is_utf8 word text))
      | inr none ↦ none
    ] in
    inr (refl, is_no_text word no_text)

pub invariant_of-result : goal.invariant_of-result
invariant_of-result c =
    let source = c.in-Ok-build_bytes.ensures.source ∙ c.builder.ensures.source ∙ c.in-Ok.ensures.cases.0 in (
      c.in-Ok-build_bytes.ensures.config ∙ c.builder.ensures.config,
      c.in-Ok-build_bytes.ensures.read,
      subst (λ w. is_utf8 w ≡ true) (sym source) (is_utf8-from_IsUtf8 c.args.word.now c.in-Ok.ensures.cases.1),
    )

pub returns-in-Ok-build_bytes-clause-ok : goal.returns-in-Ok-build_bytes-clause-ok
returns-in-Ok-build_bytes-clause-ok c =
    let source = c.in-Ok-build_bytes.ensures.source ∙ c.builder.ensures.source ∙ c.in-Ok.ensures.cases.0 in (
      source,
      is_pattern_read _ _ c.args.word.now _ _ (c.in-Ok-build_bytes.ensures.config ∙ c.builder.ensures.config) source
          (is_utf8-from_IsUtf8 c.args.word.now c.in-Ok.ensures.cases.1) c.in-Ok-build_bytes.ensures.read,
    )

pub returns-in-Err-Syntax-clause-err : goal.returns-in-Err-Syntax-clause-err
returns-in-Err-Syntax-clause-err c =
    let step = c.in-Err-Syntax in
    let config = record (builder_config c.builder.result) { utf8 = false } in
    let source = builder_source c.builder.result in
    let kind : step.field-0-0.kind ≢ OutOfMemory = subst (IsRightKind config source) step.field-0-is step.ensures.kind in
    inr (
      refl,
      is_no_pattern config source c.args.word.now step.field-0-0.kind c.builder.ensures.config
          (c.builder.ensures.source ∙ c.in-Ok.ensures.cases.0) kind (step.ensures.refused step.field-0-0 step.field-0-is),
    )
