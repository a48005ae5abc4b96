-- Server replay over whole lists of asks and answers: each ask gets the least place with its key that no earlier ask got.
use Rattle.std.specs.Prelude.{◌≡◌, ℕ, ◌<◌, Bool, true, false, not, ◌||◌, ◌==◌, List, [], ◌∷◌, map, length, take, Option, None, Some, slice_get}
use Rattle.std.specs.List.{list_any}
use Rattle.px_message.specs.declared.request.Request.{Request}
use Rattle.px_replay.specs.declared.key.MatchKey.{MatchKey}
use Rattle.px_replay.specs.Replaying.{Replaying, after, place_of}

-- one of these answers has that place
abbrev pub has_place : ℕ → Option ℕ → Bool
has_place place None = false
has_place place (Some other) = other == place

abbrev pub is_given : ℕ → List (Option ℕ) → Bool
is_given place answers = list_any (has_place place) answers

-- the place has the key, and no earlier answer has the place, unless places are given again
abbrev pub MayGive : Bool → List MatchKey → List (Option ℕ) → MatchKey → ℕ → Type 0
MayGive reuse keys earlier key place =
    (slice_get keys place ≡ Some key) × ((reuse || not (is_given place earlier)) ≡ true)

-- the answer is the least such place, or none where there is none
abbrev pub IsLeastPlace : Bool → List MatchKey → List (Option ℕ) → MatchKey → Option ℕ → Type 0
IsLeastPlace reuse keys earlier key None = (place : ℕ) → ¬ (MayGive reuse keys earlier key place)
IsLeastPlace reuse keys earlier key (Some place) =
    MayGive reuse keys earlier key place × ((other : ℕ) → other < place → ¬ (MayGive reuse keys earlier key other))

-- so are all answers to the asked keys, in their order
pub record AreReplayed (reuse : Bool) (keys asked : List MatchKey) (answers : List (Option ℕ)) : Type 0 where
  pub each : length answers ≡ length asked
  pub least : (n : ℕ) (key : MatchKey) (answer : Option ℕ) → slice_get asked n ≡ Some key → slice_get answers n ≡ Some answer →
      IsLeastPlace reuse keys (take n answers) key answer

-- the keys of the recorded list
abbrev pub keys_in : Replaying → List MatchKey
keys_in s = map (λ r. r.key) s.recordings

-- the places that requests get, asked one behind the other
abbrev pub places : Replaying → List Request → List (Option ℕ)
places s [] = []
places s (request ∷ requests) = place_of s request ∷ places (after s (place_of s request)) requests

-- the list after these requests were asked one behind the other
abbrev pub after_all : Replaying → List Request → Replaying
after_all s [] = s
after_all s (request ∷ requests) = after_all (after s (place_of s request)) requests
