use Rattle.std.proofs.Common.{◌≡◌, ◌∷◌, ◌⊎◌, rules}
use Rattle.px_tnet.specs.View.{trees_view}
use Rattle.px_flowfile.specs.Message.{FirstIsRefused}
use Rattle.px_flowfile.specs.Sockets.{message_table}
use Rattle.px_flowfile.specs.Table.{dictionary}
use Rattle.px_flowfile.specs.declared.error.FlowFileError.TheVariants as error
use Rattle.px_flowfile.proofs.FieldLemmas.{all_read, error_as, none_refused, one_read, one_refused}
use Rattle.px_flowfile.proofs.sockets.read_each.Goals as goal

pub returns-clause-ok : goal.returns-clause-ok
returns-clause-ok c =
    all_read (dictionary message_table) c.loop-tree.messages c.loop-tree.rest.now (trees_view c.args.trees.now) c.in_default.ensures.cases c.loop-tree.invariant.0

pub loop-tree-preserved : goal.loop-tree-preserved
loop-tree-preserved c =
    let is : c.loop-tree.rest.now ≡ c.in-Some.tree.now ∷ c.in-Some.others.now = search rules in
    let all = trees_view c.args.trees.now in
    let one = c.in_ok-add_message.ensures.ok in (
      one_read (dictionary message_table) all c.in-Some.tree.now c.loop-tree.rest.now c.in-Some.others.now is c.loop-tree.messages
          c.add_message.new.messages one.0 one.1 one.2 c.loop-tree.invariant.0,
      none_refused (dictionary message_table) all c.in-Some.tree.now c.loop-tree.rest.now c.in-Some.others.now is c.args.key one.0 one.1
          c.loop-tree.invariant.1,
    )

pub returns-in_err-add_message-clause-err : goal.returns-in_err-add_message-clause-err
returns-in_err-add_message-clause-err c =
    let is : c.loop-tree.rest.now ≡ c.in-Some.tree.now ∷ c.in-Some.others.now = search rules in
    let all = trees_view c.args.trees.now in
    error_as c.from_residual.result c.in_err-add_message.field-0.0 (λ e. (e ≡ error.NoMemory) ⊎ FirstIsRefused (dictionary message_table) c.args.key all e)
    c.from_residual.ensures.1
    (one_refused (dictionary message_table) all c.in-Some.tree.now c.loop-tree.rest.now c.in-Some.others.now is c.args.key
    c.in_err-add_message.field-0.0 c.in_err-add_message.ensures.err c.loop-tree.invariant.1)
