use Rattle.px_tnet.specs.View.{trees_view}
use Rattle.px_flowfile.specs.Message.{field}
use Rattle.px_flowfile.proofs.FieldLemmas.{all_read}
use Rattle.px_flowfile.proofs.field_list.read_fields.Goals as goal

pub returns-clause-ok : goal.returns-clause-ok
returns-clause-ok c =
    all_read field c.loop-tree.fields c.loop-tree.rest.now (trees_view c.args.trees.now) c.in_default.ensures.cases c.loop-tree.invariant.0
