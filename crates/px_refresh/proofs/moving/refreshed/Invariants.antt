use Rattle.std.proofs.Common.{◌≡◌, map, take}
use Rattle.px_refresh.specs.Refresh.{refreshed_field}
use Rattle.px_refresh.proofs.moving.refreshed.Given as goal

-- the fields so far
abbrev pub invariant-loop-i : goal.invariant-loop-i
invariant-loop-i l = l.made ≡ map (refreshed_field l.fn.shift) (take l.i l.fn.fields)
