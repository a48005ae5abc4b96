use Rattle.std.proofs.Common.{take}
use Rattle.px_replay.specs.Left.{IsIndex, places_from}
use Rattle.px_replay.specs.Same.{is_same_key}
use Rattle.px_replay.specs.contracts.key.MatchKeyOrd.TheImpl.{ghosts}
use Rattle.px_replay.proofs.index.index_of.Given as goal

-- the index of the front so far
abbrev pub invariant-loop-place : goal.invariant-loop-place
invariant-loop-place l = IsIndex ghosts.cmp l.index (λ key. places_from 0 (λ r. is_same_key r.key key) (take l.place l.fn.recordings))
