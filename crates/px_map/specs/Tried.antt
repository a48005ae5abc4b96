-- What comes of one rule of map local, as the code tells it.
use Rattle.std.specs.Prelude.{◌≡◌, ℕ, List, [], ◌∷◌, Option, Some, None, string_bytes}
use Rattle.px_outside.specs.declared.files.FileCall.{FileCall}
use Rattle.px_outside.specs.declared.files.FileCall.TheVariants.{Missed}
use Rattle.px_map.specs.Reads.{Serves}
use Rattle.px_map.specs.declared.local.Named.{Named}
use Rattle.px_map.specs.declared.local.Named.TheVariants as named
use Rattle.px_map.specs.declared.local.Tried.{Tried}
use Rattle.px_map.specs.declared.local.Tried.TheVariants as tried

-- what a rule means
abbrev pub names_in : Named → List (Option (List ℕ))
names_in named.Other = []
names_in named.Nothing = None ∷ []
names_in (named.File path) = Some (string_bytes path) ∷ []

-- the reads that a rule with a file which is not there makes
abbrev pub reads_absent : Option (List ℕ) → List FileCall
reads_absent None = []
reads_absent (Some path) = Missed path ∷ []

-- the rule does not match, or its file is not there, or what it answers is what its file comes to whatever follows
abbrev pub Tries : List (Option (List ℕ)) → List FileCall → Tried → Type 0
Tries names made tried.Passed = (names ≡ []) × (made ≡ [])
Tries names made tried.Absent = (file : Option (List ℕ)) × (names ≡ file ∷ []) × (made ≡ reads_absent file)
Tries names made (tried.Answered response) =
    (path : List ℕ) × (names ≡ Some path ∷ []) × ((files : List (Option (List ℕ))) → Serves (Some path ∷ files) made response)
