use Rattle.std.proofs.Common.{sym}
use Rattle.px_core.proofs.RunsLemmas.{runs_put, has_put}
use Rattle.px_core.proofs.runs.put.Goals as goal

pub returns-clause-added : goal.returns-clause-added
returns-clause-added c = has_put c.args.lasts.now c.insert.new.self c.remove.new.self c.insert.ensures.was_ordered c.remove.ensures.ordered c.requires.runs c.args.number c.first_of-first.result c.last_of-last.result
    (sym c.if-is_in.ensures) c.first_of-first.ensures c.last_of-last.ensures c.in_ok-insert.ensures.updates c.remove.ensures.updates

pub returns-clause-runs : goal.returns-clause-runs
returns-clause-runs c = runs_put c.args.lasts.now c.insert.new.self c.remove.new.self c.insert.ensures.was_ordered c.remove.ensures.ordered c.requires.runs c.args.number c.first_of-first.result c.last_of-last.result
    (sym c.if-is_in.ensures) c.first_of-first.ensures c.last_of-last.ensures c.in_ok-insert.ensures.updates c.remove.ensures.updates
