-- Files of flows, one behind the other.
use Rattle.std.specs.Prelude.{◌≡◌, ℕ, ◌⊎◌, List, [], Option, Some, None, Result, Ok, Err}
use Rattle.px_tnet.specs.Items.{IsItem, IsRefused, most_deep}
use Rattle.px_tnet.specs.Tree.{Tree}
use Rattle.px_tnet.specs.declared.error.TnetError.TheVariants as tnet
use Rattle.px_flowfile.specs.FlowTable.{IsNoFlow, Loads}
use Rattle.px_flowfile.specs.OthersView.{others_view}
use Rattle.px_flowfile.specs.declared.entry.Entry.{Entry}
use Rattle.px_flowfile.specs.declared.error.FlowFileError.TheVariants as error
use Rattle.px_flowfile.specs.declared.fault.ReadCause.{ReadCause}
use Rattle.px_flowfile.specs.declared.fault.ReadCause.TheVariants as cause

-- the text begins with the tree of an entry, and goes on behind it
abbrev pub BeginsWith : Entry → List ℕ → List ℕ → Type 0
BeginsWith entry text behind = (t : Tree) × IsItem most_deep t text behind × Loads t entry.flow (others_view entry.others)

-- why a text does not begin with an entry: it begins with no tree, or with one that is no flow; out of memory aside
abbrev pub IsNoEntry : List ℕ → ReadCause → Type 0
IsNoEntry text (cause.Tnet e) = (e ≡ tnet.NoMemory) ⊎ IsRefused most_deep text e
IsNoEntry text (cause.Flow e) = (e ≡ error.NoMemory) ⊎ ((t : Tree) × (behind : List ℕ) × IsItem most_deep t text behind × IsNoFlow t e)

-- what comes next: nothing exactly at the end, or the entry at the front, or the cause why there is none; the rest behind it
abbrev pub ComesNext : List ℕ → Result (Option Entry) ReadCause → List ℕ → Type 0
ComesNext text (Ok None) behind = (text ≡ []) × (behind ≡ text)
ComesNext text (Ok (Some entry)) behind = BeginsWith entry text behind
ComesNext text (Err e) behind = IsNoEntry text e × (behind ≡ text)
