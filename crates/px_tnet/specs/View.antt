-- The tree that a `Tnet` is.
use Rattle.std.specs.Prelude.{List, [], ◌∷◌, map}
use Rattle.px_tnet.specs.Tree.{Key, Tree, blob, text, int, float, bool, null, list, dict, Trees, no_tree, tree, Pairs, no_pair, pair}
use Rattle.px_tnet.specs.declared.tree.Tnet.{Tnet, fold-Tnet}
use Rattle.px_tnet.specs.declared.tree.TnetKey.{TnetKey}
use Rattle.px_tnet.specs.declared.tree.TnetList.{TnetList}
use Rattle.px_tnet.specs.declared.tree.TnetDict.{TnetDict}
use Rattle.px_tnet.specs.declared.tree.Tnet.TheOpen.{Tnet-F, TnetList-F, TnetDict-F}

abbrev pub key_view : TnetKey → Key
key_view key = record { text = key.text; bytes = key.bytes }

-- trees in a row, and trees under keys
abbrev pub row : List Tree → Trees
row [] = no_tree
row (t ∷ ts) = tree t (row ts)

abbrev pub entries : List (TnetKey × Tree) → Pairs
entries [] = no_pair
entries (p ∷ ps) = pair (key_view p.0) p.1 (entries ps)

-- one level, where each tree inside is already seen
abbrev pub tree_step : Tnet-F Tree Pairs Trees → Tree
tree_step (Tnet-F.Blob bytes) = blob bytes
tree_step (Tnet-F.Text bytes) = text bytes
tree_step (Tnet-F.Int n) = int n
tree_step (Tnet-F.Float bytes) = float bytes
tree_step (Tnet-F.Bool b) = bool b
tree_step Tnet-F.Null = null
tree_step (Tnet-F.List trees) = list trees
tree_step (Tnet-F.Dict pairs) = dict pairs

abbrev pub list_step : TnetList-F Tree Pairs Trees → Trees
list_step held = row held.items.items

abbrev pub dict_step : TnetDict-F Tree Pairs Trees → Pairs
dict_step held = entries held.pairs.items

abbrev pub view : Tnet → Tree
view = fold-Tnet Tree Pairs Trees tree_step dict_step list_step

abbrev pub trees_view : List Tnet → Trees
trees_view trees = row (map view trees)

abbrev pub pairs_view : List (TnetKey × Tnet) → Pairs
pairs_view pairs = entries (map (λ p. (p.0, view p.1)) pairs)

-- what a list and a dictionary hold
abbrev pub listed : TnetList → List Tnet
listed held = held.items.items

abbrev pub paired : TnetDict → List (TnetKey × Tnet)
paired held = held.pairs.items
