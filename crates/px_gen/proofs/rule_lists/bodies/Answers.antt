use Rattle.std.proofs.Common.{◌∙◌, ap, map, string_bytes}
use Rattle.px_rule.specs.Rule.{body_rule}
use Rattle.px_rule.specs.View.{body_views}
use Rattle.px_gen.specs.Rules.{letter_rule}
use Rattle.px_gen.proofs.RuleLemmas.{read_as, refused_for_memory, letter_text_is_rule}
use Rattle.px_gen.proofs.rule_lists.bodies.Goals as goal

pub returns-in-Ok : goal.returns-in-Ok
returns-in-Ok c =
    read_as body_rule _ _ letter_rule (body_views c.in-Ok.rules) (ap (map string_bytes) c.deref.ensures.value ∙ c.in_ok-texts.ensures) letter_text_is_rule
    c.in-Ok.ensures.ok

pub no_memory-requires : goal.no_memory-requires
no_memory-requires c =
    refused_for_memory body_rule _ _ letter_rule c.in-Err.error.index c.in-Err.error.cause (ap (map string_bytes) c.deref.ensures.value ∙ c.in_ok-texts.ensures)
    letter_text_is_rule c.in-Err.ensures.err
