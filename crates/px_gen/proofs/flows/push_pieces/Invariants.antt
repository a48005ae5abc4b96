use Rattle.std.proofs.Common.{◌≡◌, ◌++◌, map}
use Rattle.px_gen.specs.Script.{heard_from, numbers_below, piece_at}
use Rattle.px_gen.proofs.flows.push_pieces.Given as goal

-- the pieces so far
abbrev pub invariant-loop-place : goal.invariant-loop-place
invariant-loop-place l = l.made.items ≡ l.initial.made.items ++ map (heard_from l.side) (map (piece_at 1000 l.text) (numbers_below l.place))
