use Rattle.std.proofs.Common.{◌≡◌, ◌∷◌}
use Rattle.std.specs.List.{flat_map}
use Rattle.px_event.specs.declared.heard.Heard.TheVariants.{Accepted}
use Rattle.px_event.specs.declared.side.Door.TheVariants.{Proxy}
use Rattle.px_gen.specs.Peer.{peer}
use Rattle.px_gen.specs.Script.{heard_of, numbers_below}
use Rattle.px_gen.proofs.flows.script.Given as goal

-- the client, and the flows so far
abbrev pub invariant-loop-flow : goal.invariant-loop-flow
invariant-loop-flow l = l.made.items ≡ (0, Accepted 0 Proxy peer) ∷ flat_map heard_of (numbers_below l.flow)
