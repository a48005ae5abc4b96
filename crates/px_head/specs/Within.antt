-- That what stands at the front lies in the bytes.
use Rattle.std.specs.Prelude.{ℕ, ◌<◌, ◌≤◌, ⊤}
use Rattle.px_head.specs.declared.front.Front.{Front}
use Rattle.px_head.specs.declared.front.Front.TheVariants.{Nothing, TooLong, BadHead, Stands}
use Rattle.px_head.specs.declared.place.BlockPlace.{BlockPlace}
use Rattle.px_head.specs.declared.place.BlockPlace.TheVariants.{Missing, Exceeded, Block}

-- a block has at least one byte, lies in the first n bytes and within the limit
abbrev pub IsPlaceWithin : ℕ → BlockPlace → Type 0
IsPlaceWithin n Missing = ⊤
IsPlaceWithin n Exceeded = ⊤
IsPlaceWithin n (Block start end) = (start < end) × (end ≤ n) × (end ≤ 65536)

-- a head uses at least one byte, at most n and at most the limit
abbrev pub IsFrontWithin : ℕ → Front → Type 0
IsFrontWithin n Nothing = ⊤
IsFrontWithin n TooLong = ⊤
IsFrontWithin n BadHead = ⊤
IsFrontWithin n (Stands raw used) = (1 ≤ used) × (used ≤ n) × (used ≤ 65536)
