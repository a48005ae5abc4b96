use Rattle.std.proofs.Common.{take}
use Rattle.px_tnet.specs.Kinds.{AreApart}
use Rattle.px_tnet.proofs.ApartLemmas.{Seen, names}
use Rattle.px_tnet.proofs.dict.are_apart.Given as goal

-- the keys so far are apart, and the set has them
abbrev pub invariant-loop-key : goal.invariant-loop-key
invariant-loop-key l = AreApart (names (take l.key-index l.pairs)) × Seen l.seen (take l.key-index l.pairs)
