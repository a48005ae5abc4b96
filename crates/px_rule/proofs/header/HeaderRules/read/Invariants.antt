use Rattle.std.proofs.Common.{map, take, string_bytes}
use Rattle.px_rule.specs.Rule.{AreRules, header_rule}
use Rattle.px_rule.specs.View.{header_view}
use Rattle.px_rule.proofs.header.HeaderRules.read.Given as goal

-- the rules of the texts so far
abbrev pub invariant-loop-index : goal.invariant-loop-index
invariant-loop-index l = AreRules header_rule (map string_bytes (take l.index l.texts)) (map header_view l.rules.items)
