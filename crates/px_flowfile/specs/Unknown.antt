-- Pairs whose keys no line of a flow's table has.
use Rattle.std.specs.Prelude.{◌≡◌, false}
use Rattle.px_tnet.specs.Kinds.{AreApart}
use Rattle.px_tnet.specs.Tree.{Pairs, no_pair, pair, keys}
use Rattle.px_tnet.specs.Written.{AreSoundPairs}
use Rattle.px_flowfile.specs.FlowTable.{is_known}

-- pairs, and more behind them
abbrev pub joined : Pairs → Pairs → Pairs
joined no_pair more = more
joined (pair key value pairs) more = pair key value (joined pairs more)

abbrev pub AreUnknown : Pairs → Type 0
AreUnknown no_pair = Unit {0}
AreUnknown (pair key value pairs) = (is_known key.bytes ≡ false) × AreUnknown pairs

-- pairs that may stand behind a flow's own: no key is of its table, no two keys have equal bytes, and each key and each tree is what is
-- read inside a dictionary
pub record AreOthers (pairs : Pairs) : Type 0 where
  pub unknown : AreUnknown pairs
  pub apart : AreApart (keys pairs)
  pub sound : AreSoundPairs pairs 63
