-- What may stand behind a flow's own pairs is a proposition: there is one proof of it at most.
use Rattle.std.proofs.Common.{ℕ, zero, suc, List, [], ◌∷◌}
use Rattle.std.proofs.Props.{props}
use Rattle.px_tnet.specs.Kinds.{AreApart}
use Rattle.px_tnet.specs.Tree.{Key, Tree, blob, text, int, float, bool, null, list, dict, Trees, no_tree, tree, Pairs, no_pair, pair, keys}
use Rattle.px_tnet.specs.Written.{IsSound, AreSound, AreSoundPairs, IsSoundKey}
use Rattle.px_flowfile.specs.Unknown.{AreOthers, AreUnknown}

apart_prop : (ks : List (List ℕ)) → IsProp (AreApart ks)
apart_prop [] = hlevel props
apart_prop (k ∷ ks) = let p = apart_prop ks in hlevel (p, props)

key_prop : (key : Key) → IsProp (IsSoundKey key)
key_prop key = hlevel props

mutual
  sound_prop : (t : Tree) (depth : ℕ) → IsProp (IsSound t depth)
  sound_prop (blob b) depth = hlevel props
  sound_prop (text b) depth = hlevel props
  sound_prop (int n) depth = hlevel props
  sound_prop (float b) depth = hlevel props
  sound_prop (bool b) depth = hlevel props
  sound_prop null depth = hlevel props
  sound_prop (list ts) zero = hlevel props
  sound_prop (list ts) (suc depth) = let p = sounds_prop ts depth in hlevel (p, props)
  sound_prop (dict ps) zero = hlevel props
  sound_prop (dict ps) (suc depth) = let p = pairs_prop ps depth in let q = apart_prop (keys ps) in hlevel (p, q, props)

  sounds_prop : (ts : Trees) (depth : ℕ) → IsProp (AreSound ts depth)
  sounds_prop no_tree depth = hlevel props
  sounds_prop (tree t ts) depth = let p = sound_prop t depth in let q = sounds_prop ts depth in hlevel (p, q, props)

  pairs_prop : (ps : Pairs) (depth : ℕ) → IsProp (AreSoundPairs ps depth)
  pairs_prop no_pair depth = hlevel props
  pairs_prop (pair k v ps) depth =
      let p = sound_prop v depth in let q = pairs_prop ps depth in let r = key_prop k in hlevel (p, q, r, props)

unknown_prop : (ps : Pairs) → IsProp (AreUnknown ps)
unknown_prop no_pair = hlevel props
unknown_prop (pair k v ps) = let p = unknown_prop ps in hlevel (p, props)

pub others_prop : (ps : Pairs) → IsProp (AreOthers ps)
others_prop ps = let p = unknown_prop ps in let q = apart_prop (keys ps) in let r = pairs_prop ps 63 in hlevel (p, q, r, props)
