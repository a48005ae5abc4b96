use Rattle.std.proofs.Common.{drop, map}
use Rattle.px_map.specs.Reads.{seen}
use Rattle.px_options.specs.View.{path_view}
use Rattle.px_app.proofs.LoadLemmas.{LoadedSoFar}
use Rattle.px_app.proofs.loading.load_flows.Given as goal

-- the files in front were loaded, and whatever comes of the others comes of all
abbrev pub invariant-loop-path : goal.invariant-loop-path
invariant-loop-path g l = LoadedSoFar (map path_view l.paths) (map path_view (drop l.path-index l.paths))
    (seen g.F.Files.contents g.F.Files.calls g.F.Files.misses g.F.Files.faults g.F.Files.losses l.fn.files)
    (seen g.F.Files.contents g.F.Files.calls g.F.Files.misses g.F.Files.faults g.F.Files.losses l.files) l.flows.items
