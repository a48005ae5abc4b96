use Rattle.std.proofs.Common.{drop}
use Rattle.px_tnet.specs.View.{view}
use Rattle.px_flowfile.proofs.reader.entry_of.Goals as goal

pub read_flow-requires : goal.read_flow-requires
read_flow-requires c =
    (c.each_tree_has_one_spelling.ensures (view c.args.tree) c.args.text.now (drop c.args.used c.args.text.now) c.requires.item).1
