-- The one text of a tree, and the trees that have a text which is read back.
use Rattle.std.specs.Prelude.{ℕ, zero, suc, ◌^◌, ◌<◌, ◌≤◌, IsTrue, List, [], ◌++◌, length}
use Rattle.std.specs.Fmt.{signed_decimal}
use Rattle.std.specs.Int.Signed.{mag}
use Rattle.std.specs.Str.{IsUtf8}
use Rattle.px_tnet.specs.Frame.{framed, too_many}
use Rattle.px_tnet.specs.Kinds.{AreApart, tag_of, truth}
use Rattle.px_tnet.specs.Tree.{Key, key_tree, Tree, blob, text, int, float, bool, null, list, dict, Trees, no_tree, tree, Pairs, no_pair, pair, keys}
use Rattle.px_tnet.specs.declared.kind.Kind.{Kind}
use Rattle.px_tnet.specs.declared.kind.Kind.TheVariants as kind

abbrev pub kind_of : Tree → Kind
kind_of (blob bytes) = kind.Blob
kind_of (text bytes) = kind.Text
kind_of (int n) = kind.Int
kind_of (float bytes) = kind.Float
kind_of (bool b) = kind.Bool
kind_of null = kind.Null
kind_of (list trees) = kind.List
kind_of (dict pairs) = kind.Dict

-- a key's item
abbrev pub written_key : Key → List ℕ
written_key key = framed key.bytes (tag_of (kind_of (key_tree key)))

abbrev mutual
  pub payload : Tree → List ℕ
  payload (blob bytes) = bytes
  payload (text bytes) = bytes
  payload (int n) = signed_decimal n
  payload (float bytes) = bytes
  payload (bool b) = truth b
  payload null = []
  payload (list trees) = written_trees trees
  payload (dict pairs) = written_pairs pairs

  -- the texts of the trees, joined
  pub written_trees : Trees → List ℕ
  written_trees no_tree = []
  written_trees (tree first trees) = framed (payload first) (tag_of (kind_of first)) ++ written_trees trees

  -- the texts of keys and trees in turn, joined
  pub written_pairs : Pairs → List ℕ
  written_pairs no_pair = []
  written_pairs (pair key value pairs) =
      written_key key ++ (framed (payload value) (tag_of (kind_of value)) ++ written_pairs pairs)

-- the text of a tree
abbrev pub written : Tree → List ℕ
written t = framed (payload t) (tag_of (kind_of t))

-- its payload is too long for a length; a payload within it is no longer than its own
abbrev pub IsTooLong : Tree → Type 0
IsTooLong t = too_many ≤ length (payload t)

-- a key whose text is read back
abbrev pub IsSoundKey : Key → Type 0
IsSoundKey key = (length key.bytes < too_many) × (IsTrue key.text → IsUtf8 key.bytes)

abbrev mutual
  -- the tree is what `read` may give: it is not too long, texts are UTF-8, numbers have 64 bits, the keys of a
  -- dictionary differ, and at most so many lists and dictionaries stand inside one another
  pub IsSound : Tree → ℕ → Type 0
  IsSound (blob bytes) depth = length bytes < too_many
  IsSound (text bytes) depth = (length bytes < too_many) × IsUtf8 bytes
  IsSound (int n) depth = mag n < 2 ^ 63
  IsSound (float bytes) depth = length bytes < too_many
  IsSound (bool b) depth = Unit {0}
  IsSound null depth = Unit {0}
  IsSound (list trees) zero = ⊥
  IsSound (list trees) (suc depth) = (length (written_trees trees) < too_many) × AreSound trees depth
  IsSound (dict pairs) zero = ⊥
  IsSound (dict pairs) (suc depth) =
      (length (written_pairs pairs) < too_many) × AreApart (keys pairs) × AreSoundPairs pairs depth

  pub AreSound : Trees → ℕ → Type 0
  AreSound no_tree depth = Unit {0}
  AreSound (tree first trees) depth = IsSound first depth × AreSound trees depth

  pub AreSoundPairs : Pairs → ℕ → Type 0
  AreSoundPairs no_pair depth = Unit {0}
  AreSoundPairs (pair key value pairs) depth = IsSoundKey key × IsSound value depth × AreSoundPairs pairs depth
