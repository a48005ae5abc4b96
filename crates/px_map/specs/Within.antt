-- Where the files stand that map local reads.
use Rattle.std.specs.Prelude.{◌≡◌, ◌≢◌, ◌⊎◌, ℕ, Bool, true, false, List, [], ◌∷◌, ◌++◌, slice_index}
use Rattle.px_outside.specs.declared.files.FileCall.{FileCall}
use Rattle.px_outside.specs.declared.files.FileCall.TheVariants.{Read, Missed, ReadFailed}
use Rattle.px_rule.specs.Rule.{Rule}
use Rattle.px_map.specs.Served.{climbs, ends_with_slash}

-- the path is that of the directory with a name behind it, of which no segment is `..` and which does not begin with a slash
abbrev pub IsWithin : List ℕ → List ℕ → Type 0
IsWithin directory path = (name : List ℕ) × (path ≡ directory ++ name) × (climbs name ≡ false) × (slice_index name 0 ≢ 47)

-- the path stands within a directory, or is a file's own
abbrev pub IsOf : Bool → List ℕ → List ℕ → Type 0
IsOf true path read = IsWithin path read
IsOf false path read = read ≡ path

-- one of the rules has this file: it stands within the rule's directory, or is the rule's file
abbrev pub IsOfRule : List Rule → List ℕ → Type 0
IsOfRule [] read = ⊥
IsOfRule (rule ∷ rules) read = IsOf (ends_with_slash rule.replacement) rule.replacement read ⊎ IsOfRule rules read

-- each of the calls is a read of such a file
abbrev pub ReadsOnly : (List ℕ → Type 0) → List FileCall → Type 0
ReadsOnly Holds [] = Unit {0}
ReadsOnly Holds (Read path bytes ∷ calls) = Holds path × ReadsOnly Holds calls
ReadsOnly Holds (Missed path ∷ calls) = Holds path × ReadsOnly Holds calls
ReadsOnly Holds (ReadFailed path ∷ calls) = Holds path × ReadsOnly Holds calls
ReadsOnly Holds (call ∷ calls) = ⊥
