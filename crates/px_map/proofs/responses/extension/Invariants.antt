use Rattle.std.proofs.Common.{◌≡◌, length}
use Rattle.px_map.specs.Responses.{extension, extension_from}
use Rattle.px_map.proofs.responses.extension.Given as goal

abbrev pub invariant-loop-rest : goal.invariant-loop-rest
invariant-loop-rest l = extension_from l.found l.rest ≡ extension l.path

abbrev pub decreases-loop-rest : goal.decreases-loop-rest
decreases-loop-rest l = length l.rest
