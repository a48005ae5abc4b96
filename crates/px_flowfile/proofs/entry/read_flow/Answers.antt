use Rattle.px_tnet.specs.View.{view}
use Rattle.px_flowfile.proofs.ExactLemmas.{exact_loaded, exact_refused}
use Rattle.px_flowfile.proofs.entry.read_flow.Goals as goal

pub returns-clause-loaded : goal.returns-clause-loaded
returns-clause-loaded c = exact_loaded (view c.args.tree.now) c.read_entry.result c.read_entry.ensures.ok c.read_entry.ensures.err

pub returns-clause-refused : goal.returns-clause-refused
returns-clause-refused c = exact_refused (view c.args.tree.now) c.read_entry.result c.read_entry.ensures.ok c.read_entry.ensures.err
