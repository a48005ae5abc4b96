-- Where what is kept stands: the place of a key, and the places of a site.
use Rattle.std.specs.Prelude.{◌≡◌, ℕ, suc, Bool, true, false, List, [], ◌∷◌, ◌++◌, Option, Some, MatchOption, slice_get, if◌then◌else◌}
use Rattle.std.specs.BTreeMap.{BTreeMap, get}
use Rattle.std.specs.List.{flat_map}
use Rattle.std.specs.Option.{option_to_list, unwrap_or}
use Rattle.std.specs.declared.cmp.Ordering.{Ordering}
use Rattle.px_refresh.specs.declared.key.CookieKey.{CookieKey}
use Rattle.px_refresh.specs.declared.key.Site.{Site}
use Rattle.px_refresh.specs.Cookies.{is_at}
use Rattle.px_refresh.specs.Site.{is_same_site}

-- the places of those that pass, in rising order; the first of the list has this place
abbrev pub places_from : {T : Type 0} → ℕ → (T → Bool) → List T → List ℕ
places_from at test [] = []
places_from at test (x ∷ xs) = if test x then at ∷ places_from (suc at) test xs else places_from (suc at) test xs

-- what stands at some places
abbrev pub at_places : {T : Type 0} → List T → List ℕ → List T
at_places xs places = flat_map (λ place. option_to_list (slice_get xs place)) places

module _ {K : Type 0} (same : K → K → Bool) where
  -- the place has the key, and no other place has it
  pub record HasAt (key : K) (keys : List K) (place : ℕ) : Type 0 where
    pub found : K
    pub there : slice_get keys place ≡ Some found
    pub is : same found key ≡ true
    pub only : (other : ℕ) (its : K) → slice_get keys other ≡ Some its → same its key ≡ true → other ≡ place

  -- no place has it
  pub record HasNowhere (key : K) (keys : List K) : Type 0 where
    pub none : (place : ℕ) (other : K) → slice_get keys place ≡ Some other → same other key ≡ false

  -- the one place that has the key, or none where no place has it
  abbrev pub IsPlaceOf : K → List K → Option ℕ → Type 0
  IsPlaceOf key keys answer = MatchOption answer (HasNowhere key keys) (HasAt key keys)

-- Each key is found at its place. Under another anything may be found.
pub record IsPlaced {K : Type 0} (cmp : K → K → Ordering) (places : BTreeMap K ℕ) (keys : List K) : Type 0 where
  pub placed : (place : ℕ) (key : K) → slice_get keys place ≡ Some key → get cmp places key ≡ Some place

module _ (cmp : Site → Site → Ordering) where
  -- the places that are listed of a site
  abbrev pub listed : BTreeMap Site (List ℕ) → Site → List ℕ
  listed sites site = unwrap_or (get cmp sites site) []

  -- Of each site exactly the places of its keys are listed, in rising order.
  pub record IsListed (sites : BTreeMap Site (List ℕ)) (keys : List CookieKey) : Type 0 where
    pub lists : (site : Site) → listed sites site ≡ places_from 0 (is_at site) keys

  -- The place is added behind those of the site, and the places of no other change.
  pub record Adds (site : Site) (place : ℕ) (old new : BTreeMap Site (List ℕ)) : Type 0 where
    pub adds : (other : Site) → listed new other ≡ (if is_same_site site other then listed old other ++ place ∷ [] else listed old other)

  -- The same places are listed.
  pub record Stays (old new : BTreeMap Site (List ℕ)) : Type 0 where
    pub stays : (site : Site) → listed new site ≡ listed old site

-- both indexes of kept cookies
pub record IsIndexed (cookie_cmp : CookieKey → CookieKey → Ordering) (site_cmp : Site → Site → Ordering)
    (places : BTreeMap CookieKey ℕ) (sites : BTreeMap Site (List ℕ)) (keys : List CookieKey) : Type 0 where
  pub of_keys : IsPlaced cookie_cmp places keys
  pub of_sites : IsListed site_cmp sites keys
