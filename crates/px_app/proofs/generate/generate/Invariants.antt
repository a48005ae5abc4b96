use Rattle.px_app.proofs.generate.generate.Given as goal

-- as many flows as are asked for
abbrev pub ghosts-run_script : goal.ghosts-run_script
ghosts-run_script g a = record { count = a.count }
