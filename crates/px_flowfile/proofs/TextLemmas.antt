-- The text that a form has of an entry is read as that entry.
use Rattle.std.proofs.Common.{◌++◌, ℕ, List}
use Rattle.px_tnet.proofs.SpellLemmas.{read_written}
use Rattle.px_tnet.specs.Items.{most_deep}
use Rattle.px_tnet.specs.Written.{IsTooLong, written}
use Rattle.px_flowfile.specs.FlowTable.{IsLoadableBy, tree_by}
use Rattle.px_flowfile.specs.OthersView.{others_view}
use Rattle.px_flowfile.specs.Reader.{BeginsWith}
use Rattle.px_flowfile.specs.declared.entry.Entry.{Entry}
use Rattle.px_flowfile.specs.declared.form.Form.{Form}
use Rattle.px_flowfile.proofs.BackLemmas.{flow_comes_back}
use Rattle.px_flowfile.proofs.SoundTables.{flow_sound}

pub entry_comes_back : (of_form : Form) (entry : Entry) (rest : List ℕ) → IsLoadableBy of_form entry.flow
    → ¬ (IsTooLong (tree_by of_form entry.flow (others_view entry.others)))
    → BeginsWith entry (written (tree_by of_form entry.flow (others_view entry.others)) ++ rest) rest
entry_comes_back of_form entry rest loadable short =
    let tree = tree_by of_form entry.flow (others_view entry.others) in
    let are = entry.others.are_others in (
      tree,
      read_written most_deep tree (flow_sound of_form entry.flow (others_view entry.others) loadable are short) rest,
      flow_comes_back of_form entry.flow (others_view entry.others) loadable are.unknown,
    )
