use Rattle.std.proofs.Common.{◌≡◌, [], List, map, drop}
use Rattle.px_outside.specs.declared.files.FileCall.{FileCall}
use Rattle.px_map.specs.Reads.{Made, seen}
use Rattle.px_map.specs.Served.{local_names}
use Rattle.px_map.specs.View.{local_view}
use Rattle.px_map.proofs.LocalLemmas.{Going}
use Rattle.px_map.proofs.local.LocalRules.answer.Given as goal

-- the reads so far, and the files that are left
abbrev pub invariant-loop-rule : goal.invariant-loop-rule
invariant-loop-rule g l =
    (made : List FileCall)
    × Going (local_names (map local_view l.rule-items) l.flow) (local_names (map local_view (drop l.rule-index l.rule-items)) l.flow) made l.matched
    × Made made (seen g.F.Files.contents g.F.Files.calls g.F.Files.misses g.F.Files.faults g.F.Files.losses l.fn.files) (seen g.F.Files.contents g.F.Files.calls g.F.Files.misses g.F.Files.faults g.F.Files.losses l.files)
    × (local_names (map local_view l.rule-items) l.flow ≡ [] → l.files ≡ l.fn.files)
