use Rattle.std.proofs.Common.{◌≡◌, take}
use Rattle.px_gen.specs.Counts.{bytes_to_servers, in_word}
use Rattle.px_gen.proofs.counting.to_servers.Given as goal

-- those of the steps so far
abbrev pub invariant-loop-step : goal.invariant-loop-step
invariant-loop-step l = l.sum ≡ in_word (bytes_to_servers (take l.step-index l.steps))
