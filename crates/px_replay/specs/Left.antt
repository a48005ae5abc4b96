-- The places of the recorded list that are left of a key, and an index of them.
use Rattle.std.specs.Prelude.{◌≡◌, ℕ, suc, Bool, true, false, List, [], ◌∷◌, ◌++◌, drop, map, None, Some, slice_get, if◌then◌else◌}
use Rattle.std.specs.List.{position}
use Rattle.std.specs.BTreeMap.{BTreeMap, get}
use Rattle.std.specs.Option.{unwrap_or}
use Rattle.std.specs.declared.cmp.Ordering.{Ordering}
use Rattle.px_replay.specs.declared.key.MatchKey.{MatchKey}
use Rattle.px_replay.specs.declared.replay.Replay.{Replay}
use Rattle.px_replay.specs.declared.replay.Replay.TheVariants as replays
use Rattle.px_replay.specs.Replaying.{Replaying, may_answer}
use Rattle.px_replay.specs.Same.{is_same_key}

-- the places of those that pass, in rising order; the first of the list has this place
abbrev pub places_from : {T : Type 0} → ℕ → (T → Bool) → List T → List ℕ
places_from at test [] = []
places_from at test (x ∷ xs) = if test x then at ∷ places_from (suc at) test xs else places_from (suc at) test xs

-- the places with the key that no ask got, or with reuse all with the key
abbrev pub left : Replaying → MatchKey → List ℕ
left s key = places_from 0 (may_answer s.reuse key) s.recordings

-- the answer to a request with this key
abbrev pub IsAnswerTo : Replaying → MatchKey → Replay → Type 0
IsAnswerTo s key (replays.Found place response) =
    (position (may_answer s.reuse key) s.recordings ≡ Some place) × (slice_get (map (λ r. r.response) s.recordings) place ≡ Some response)
IsAnswerTo s key (replays.Extra extra) = (position (may_answer s.reuse key) s.recordings ≡ None) × (extra ≡ s.extra)

module _ (cmp : MatchKey → MatchKey → Ordering) where
  -- the places that an index has of a key
  abbrev pub listed : BTreeMap MatchKey (List ℕ) → MatchKey → List ℕ
  listed index key = unwrap_or (get cmp index key) []

  -- The index has of each key exactly these places, in this order.
  pub record IsIndex (index : BTreeMap MatchKey (List ℕ)) (wanted : MatchKey → List ℕ) : Type 0 where
    pub lists : (key : MatchKey) → listed index key ≡ wanted key

  -- The place is added behind those of the key, and the places of no other change.
  pub record Adds (key : MatchKey) (place : ℕ) (old new : BTreeMap MatchKey (List ℕ)) : Type 0 where
    pub adds : (other : MatchKey) → listed new other ≡ (if is_same_key key other then listed old other ++ place ∷ [] else listed old other)

  -- The first place of the key is taken off, and the places of no other change.
  pub record Gives (key : MatchKey) (old new : BTreeMap MatchKey (List ℕ)) : Type 0 where
    pub gives : (other : MatchKey) → listed new other ≡ (if is_same_key key other then drop 1 (listed old other) else listed old other)

  -- So it is, unless places are given again: then nothing changes.
  pub record GivesUnless (reuse : Bool) (key : MatchKey) (old new : BTreeMap MatchKey (List ℕ)) : Type 0 where
    pub given : reuse ≡ false → Gives key old new
    pub still : reuse ≡ true → new ≡ old
