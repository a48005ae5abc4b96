-- A tree: bytes, a text, a number, a truth, nothing, trees in a row, or trees under keys.
use Rattle.std.specs.Prelude.{ℕ, ℤ, Bool, List, [], ◌∷◌, if◌then◌else◌}

-- what a tree in a dictionary is called; its bytes are a text, or any bytes
pub record Key : Type 0 where
  pub text : Bool
  pub bytes : List ℕ

mutual
  pub data Tree : Type 0 where
    blob : List ℕ → Tree
    text : List ℕ → Tree
    int : ℤ → Tree
    float : List ℕ → Tree
    bool : Bool → Tree
    null : Tree
    list : Trees → Tree
    dict : Pairs → Tree

  pub data Trees : Type 0 where
    no_tree : Trees
    tree : Tree → Trees → Trees

  pub data Pairs : Type 0 where
    no_pair : Pairs
    pair : Key → Tree → Pairs → Pairs

-- a key as a tree
abbrev pub key_tree : Key → Tree
key_tree key = if key.text then text key.bytes else blob key.bytes

-- keys and trees in turn
abbrev pub in_turn : Pairs → Trees
in_turn no_pair = no_tree
in_turn (pair key value pairs) = tree (key_tree key) (tree value (in_turn pairs))

-- the bytes of the keys, in order
abbrev pub keys : Pairs → List (List ℕ)
keys no_pair = []
keys (pair key value pairs) = key.bytes ∷ keys pairs
