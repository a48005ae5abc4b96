use Rattle.std.proofs.Common.{◌∙◌, List, ap}
use Rattle.px_tnet.specs.Tree.{dict}
use Rattle.px_tnet.specs.View.{pairs_view}
use Rattle.px_tnet.specs.declared.tree.Tnet.{Tnet}
use Rattle.px_tnet.specs.declared.tree.TnetKey.{TnetKey}
use Rattle.px_flowfile.specs.FlowTable.{flow_table}
use Rattle.px_flowfile.specs.OthersView.{others_view}
use Rattle.px_flowfile.specs.Table.{lines}
use Rattle.px_flowfile.specs.Unknown.{joined}
use Rattle.px_flowfile.specs.declared.form.Form.TheVariants as forms
use Rattle.px_flowfile.proofs.write.entry_tree.Goals as goal

pub returns : goal.returns
returns c =
    c.dict_tree.ensures
    ∙ ap dict (c.in_ok-put_others.ensures ∙ c.in_ok-put_flow.ensures (others_view c.args.entry.now.others)
    ∙ ap (λ (ps : List (TnetKey × Tnet)). joined (pairs_view ps) (lines (flow_table forms.Second) c.args.entry.now.flow (others_view c.args.entry.now.others))) c.new-pairs.ensures.items)
