use Rattle.px_app.proofs.ListedLemmas.{done_so_far}
use Rattle.px_app.proofs.serving.Serving.begin_next.Given as goal

-- the flows that were finished before
abbrev pub ghosts-begin_one : goal.ghosts-begin_one
ghosts-begin_one g a = record { before = done_so_far (g.N.Net.trace a.net.now) }
