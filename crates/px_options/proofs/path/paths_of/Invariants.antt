use Rattle.std.proofs.Common.{◌≡◌, map, string_bytes, take}
use Rattle.px_options.specs.View.{path_view}
use Rattle.px_options.proofs.path.paths_of.Given as goal

-- the paths so far are the texts so far
abbrev pub invariant-loop-text : goal.invariant-loop-text
invariant-loop-text l = map path_view l.items.items ≡ map string_bytes (take l.text-index l.texts)
