use Rattle.std.proofs.Common.{◌≡◌, length, codes}
use Rattle.px_refresh.specs.Cookies.{last_or, paths_in}
use Rattle.px_refresh.proofs.set_cookie.path_in.Given as goal

-- of the path so far, and of what is left
abbrev pub invariant-loop-i : goal.invariant-loop-i
invariant-loop-i l = last_or l.path (paths_in l.rest) ≡ last_or (codes "/") (paths_in l.attributes)

abbrev pub decreases-loop-i : goal.decreases-loop-i
decreases-loop-i l = length l.rest
