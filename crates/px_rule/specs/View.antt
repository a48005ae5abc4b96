-- The rules that the code holds.
use Rattle.std.specs.Prelude.{List, map, option_map}
use denote.Ref.{Bor}
use Rattle.px_filter.specs.View.{expression}
use Rattle.px_rule.specs.Rule.{Rule}
use Rattle.px_rule.specs.declared.body.BodyRule.{BodyRule}
use Rattle.px_rule.specs.declared.body.BodyRules.{BodyRules}
use Rattle.px_rule.specs.declared.header.HeaderRule.{HeaderRule}
use Rattle.px_rule.specs.declared.header.HeaderRules.{HeaderRules}
use Rattle.px_rule.specs.declared.text.RuleText.{RuleText}

abbrev pub text_view : RuleText → Rule
text_view t = record { filter = option_map expression t.filter; subject = t.subject.now; replacement = t.replacement.now }

abbrev pub header_view : HeaderRule → Rule
header_view r = record { filter = option_map expression r.filter; subject = r.name; replacement = r.value }

-- rules that are lent
abbrev pub lent_views : List (Bor HeaderRule) → List Rule
lent_views rules = map (λ r. header_view r.now) rules

abbrev pub header_views : HeaderRules → List Rule
header_views rules = map header_view rules.rules.items

abbrev pub body_view : BodyRule → Rule
body_view r = record { filter = option_map expression r.filter; subject = r.replacing.0; replacement = r.replacing.1 }

abbrev pub body_views : BodyRules → List Rule
body_views rules = map body_view rules.rules.items
