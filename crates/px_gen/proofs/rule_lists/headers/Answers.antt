use Rattle.std.proofs.Common.{◌∙◌, ap, map, string_bytes}
use Rattle.px_rule.specs.Rule.{header_rule}
use Rattle.px_rule.specs.View.{header_views}
use Rattle.px_gen.specs.Rules.{size_rule}
use Rattle.px_gen.proofs.RuleLemmas.{read_as, refused_for_memory, size_text_is_rule}
use Rattle.px_gen.proofs.rule_lists.headers.Goals as goal

pub returns-in-Ok : goal.returns-in-Ok
returns-in-Ok c =
    read_as header_rule _ _ size_rule (header_views c.in-Ok.rules) (ap (map string_bytes) c.deref.ensures.value ∙ c.in_ok-texts.ensures) size_text_is_rule
    c.in-Ok.ensures.ok

pub no_memory-requires : goal.no_memory-requires
no_memory-requires c =
    refused_for_memory header_rule _ _ size_rule c.in-Err.error.index c.in-Err.error.cause (ap (map string_bytes) c.deref.ensures.value ∙ c.in_ok-texts.ensures)
    size_text_is_rule c.in-Err.ensures.err
