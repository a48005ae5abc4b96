-- What the text of a file of flows has: flows from its front, and a place that has none.
use Rattle.std.specs.Prelude.{◌≡◌, ◌≢◌, ◌⊎◌, ℕ, List, [], ◌∷◌, ◌++◌}
use Rattle.px_message.specs.declared.flow.Flow.{Flow}
use Rattle.px_tnet.specs.Items.{IsItem, most_deep}
use Rattle.px_tnet.specs.Items as items
use Rattle.px_tnet.specs.Tree.{Tree}
use Rattle.px_tnet.specs.declared.error.TnetError.{TnetError}
use Rattle.px_flowfile.specs.FlowTable.{IsNoFlow}
use Rattle.px_flowfile.specs.Reader.{BeginsWith}
use Rattle.px_flowfile.specs.declared.entry.Entry.{Entry}
use Rattle.px_flowfile.specs.declared.error.FlowFileError.{FlowFileError}

-- these are the flows of the entries at the front of a file's text, one behind the other, with this text behind them
pub data HasFlows (text : List ℕ) : List Flow → List ℕ → Type 0 where
  at_front : HasFlows text [] text
  one_more : (behind rest : List ℕ) (flows next : List Flow) (entry : Entry) →
      HasFlows text flows behind → BeginsWith entry behind rest → next ≡ flows ++ entry.flow ∷ [] → HasFlows text next rest

-- these are the entries at the front of a file's text, one behind the other, each with its other pairs, with this text behind them
pub data HasEntries (text : List ℕ) : List Entry → List ℕ → Type 0 where
  no_entry : HasEntries text [] text
  entry_more : (behind rest : List ℕ) (entries next : List Entry) (entry : Entry) →
      HasEntries text entries behind → BeginsWith entry behind rest → next ≡ entries ++ entry ∷ [] → HasEntries text next rest

-- a text begins with no entry: with no tree, or with one that is no flow
abbrev pub BeginsWithNone : List ℕ → Type 0
BeginsWithNone text =
    ((cause : TnetError) × items.IsRefused most_deep text cause)
    ⊎ ((tree : Tree) × (behind : List ℕ) × (cause : FlowFileError) × IsItem most_deep tree text behind × IsNoFlow tree cause)

-- a place of a file that is bad: something stands there, and it begins with no entry
abbrev pub IsBadPlace : List ℕ → Type 0
IsBadPlace text = (text ≢ []) × BeginsWithNone text
