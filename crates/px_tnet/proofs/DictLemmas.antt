-- Keys and trees in turn, from the front.
use Rattle.std.proofs.Common.{◌≡◌, ◌∙◌, Bool, true, false, List, [], ◌∷◌, ◌++◌, length, refl, sym, ap, arith}
use Rattle.px_tnet.specs.Tree.{Key, key_tree, Tree, null, Trees, no_tree, tree, Pairs, no_pair, pair, in_turn}
use Rattle.px_tnet.specs.View.{key_view, pairs_view, trees_view, view}
use Rattle.px_tnet.specs.declared.tree.Tnet.{Tnet}
use Rattle.px_tnet.specs.declared.tree.TnetKey.{TnetKey}

abbrev pub Entry : Type 0
Entry = TnetKey × Tnet

-- the pairs in turn, and more trees behind them
abbrev pub onto : Pairs → Trees → Trees
onto no_pair more = more
onto (pair key value pairs) more = tree (key_tree key) (tree value (onto pairs more))

pub onto_nothing : (pairs : Pairs) → onto pairs no_tree ≡ in_turn pairs
onto_nothing no_pair = refl
onto_nothing (pair key value pairs) = ap (λ ts. tree (key_tree key) (tree value ts)) (onto_nothing pairs)

pub onto_one_more : (done : List Entry) (key : TnetKey) (value : Tnet) (more : Trees)
    → onto (pairs_view (done ++ (key, value) ∷ [])) more ≡ onto (pairs_view done) (tree (key_tree (key_view key)) (tree (view value) more))
onto_one_more [] key value more = refl
onto_one_more (p ∷ done) key value more = ap (λ ts. tree (key_tree (key_view p.0)) (tree (view p.1) ts)) (onto_one_more done key value more)

abbrev head : Trees → Tree
head no_tree = null
head (tree t ts) = t

abbrev tail : Trees → Trees
tail no_tree = no_tree
tail (tree t ts) = ts

abbrev is_none : Trees → Bool
is_none no_tree = true
is_none (tree t ts) = false

none_is_some : (t : Tree) (ts : Trees) → no_tree ≡ tree t ts → ⊥
none_is_some t ts h = let e = ap is_none h in cc

-- what stands behind some pairs is pairs itself, where the whole is
pub behind_pairs : (done : Pairs) (more : Trees) (all : Pairs) → onto done more ≡ in_turn all → (rest : Pairs) × (more ≡ in_turn rest)
behind_pairs no_pair more all h = (all, h)
behind_pairs (pair key value done) more no_pair h = absurd (none_is_some _ _ (sym h))
behind_pairs (pair key value done) more (pair k v all) h = behind_pairs done more all (ap (λ ts. tail (tail ts)) h)

pub no_lone_key : (t : Tree) (all : Pairs) → tree t no_tree ≡ in_turn all → ⊥
no_lone_key t no_pair h = none_is_some _ _ (sym h)
no_lone_key t (pair k v all) h = none_is_some _ _ (ap tail h)

pub first_is_key : (t : Tree) (ts : Trees) (all : Pairs) → tree t ts ≡ in_turn all → (key : Key) × (t ≡ key_tree key)
first_is_key t ts no_pair h = absurd (none_is_some _ _ (sym h))
first_is_key t ts (pair k v all) h = (k, ap head h)

pub no_items : {X : Type 0} (xs : List X) → length xs ≡ 0 → xs ≡ []
no_items [] h = refl
no_items (x ∷ xs) h = absurd (omega arith)

-- a key of another kind stands in front of what is left
pub bad_key : (all : Trees) (done : Pairs) (left more : List Tnet) (item : Tnet) → all ≡ onto done (trees_view left) → left ≡ item ∷ more
    → ((key : Key) → ¬ (view item ≡ key_tree key)) → (pairs : Pairs) → ¬ (all ≡ in_turn pairs)
bad_key all done left more item so next no_key pairs h =
    let behind = behind_pairs done (trees_view left) pairs (sym so ∙ h) in
    let key = first_is_key (view item) (trees_view more) behind.0 (sym (ap trees_view next) ∙ behind.1) in
    no_key key.0 key.1

-- a key is all that is left
pub lone_key : (all : Trees) (done : Pairs) (left more : List Tnet) (item : Tnet) → all ≡ onto done (trees_view left) → left ≡ item ∷ more
    → length more ≡ 0 → (pairs : Pairs) → ¬ (all ≡ in_turn pairs)
lone_key all done left more item so next none pairs h =
    let behind = behind_pairs done (trees_view left) pairs (sym so ∙ h) in
    no_lone_key (view item) behind.0 (sym (ap trees_view (next ∙ ap (λ ts. item ∷ ts) (no_items more none))) ∙ behind.1)

-- a key and a tree more
pub one_pair_more : (all : Trees) (done : List Entry) (left behind more : List Tnet) (item value : Tnet) (key : TnetKey)
    → all ≡ onto (pairs_view done) (trees_view left) → left ≡ item ∷ behind → behind ≡ value ∷ more → view item ≡ key_tree (key_view key)
    → all ≡ onto (pairs_view (done ++ (key, value) ∷ [])) (trees_view more)
one_pair_more all done left behind more item value key so first second is =
    so ∙ ap (λ l. onto (pairs_view done) (trees_view l)) (first ∙ ap (λ l. item ∷ l) second)
    ∙ ap (λ t. onto (pairs_view done) (tree t (tree (view value) (trees_view more)))) is
    ∙ sym (onto_one_more done key value (trees_view more))

pub all_pairs : (all : Trees) (done : Pairs) (left : List Tnet) → all ≡ onto done (trees_view left) → length left ≡ 0 → all ≡ in_turn done
all_pairs all done left so none = so ∙ ap (λ l. onto done (trees_view l)) (no_items left none) ∙ onto_nothing done
