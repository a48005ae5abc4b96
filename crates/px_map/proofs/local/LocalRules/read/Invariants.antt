use Rattle.std.proofs.Common.{map, take, string_bytes}
use Rattle.px_rule.specs.Rule.{AreRules, body_rule}
use Rattle.px_map.specs.View.{local_view}
use Rattle.px_map.proofs.local.LocalRules.read.Given as goal

-- the rules of the texts so far
abbrev pub invariant-loop-index : goal.invariant-loop-index
invariant-loop-index l = AreRules body_rule (map string_bytes (take l.index l.texts)) (map local_view l.rules.items)
