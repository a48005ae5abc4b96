use Rattle.px_tnet.specs.View.{view}
use Rattle.px_flowfile.proofs.FieldLemmas.{name_refused, value_refused}
use Rattle.px_flowfile.proofs.field_list.read_field.Goals as goal

pub returns-in-Err-default-clause-err : goal.returns-in-Err-default-clause-err
returns-in-Err-default-clause-err c =
    name_refused c.args.key (view c.args.tree.now) c.in_ok-name.name.now c.in_ok-name.value.now c.in-Err-default.e c.in_ok-name.ensures.ok c.in-Err-default.ensures.err

pub returns-in-Ok-Err-clause-err : goal.returns-in-Ok-Err-clause-err
returns-in-Ok-Err-clause-err c =
    value_refused c.args.key (view c.args.tree.now) c.in_ok-name.name.now c.in_ok-name.value.now c.in-Ok-Err.e c.in_ok-name.ensures.ok c.in-Ok-Err.ensures'.err
