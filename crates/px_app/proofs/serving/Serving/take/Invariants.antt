use Rattle.px_app.proofs.ListedLemmas.{done_so_far}
use Rattle.px_app.proofs.serving.Serving.take.Given as goal

-- the flows that were finished before
abbrev pub ghosts-finish : goal.ghosts-finish
ghosts-finish g a = record { before = done_so_far (g.N.Net.trace a.net.now) }
