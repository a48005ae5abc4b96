-- Which files a run touches: it reads those that rules name, and appends to the one where flows are saved.
use Rattle.std.specs.Prelude.{◌≡◌, ◌≤◌, ℕ, List, [], ◌∷◌, Option, Some, None}
use Rattle.px_outside.specs.Files.{Contents, Stands, Told}
use Rattle.px_outside.specs.declared.files.FileCall.{FileCall}
use Rattle.px_outside.specs.declared.files.FileCall.TheVariants.{Read, Missed, ReadFailed, Appended, AppendFailed}
use Rattle.px_rule.specs.Rule.{Rule}
use Rattle.px_core.specs.Answers.{FilesMeaning}
use Rattle.px_map.specs.Reads.{ListsAll, RoseBy, faults_in, misses_in}
use Rattle.px_map.specs.Within.{IsOfRule}
use Rattle.px_app.specs.Saved.{SavesTo}

-- flows are saved under this path
abbrev pub IsSavedAt : Option SavesTo → List ℕ → Type 0
IsSavedAt None path = ⊥
IsSavedAt (Some to) path = path ≡ to.path

-- each of the calls is a read of a path that the one names, or an append, or one that failed, to a path that the other names
abbrev pub CallsOnly : (List ℕ → Type 0) → (List ℕ → Type 0) → List FileCall → Type 0
CallsOnly Reads Puts [] = Unit {0}
CallsOnly Reads Puts (Read path bytes ∷ calls) = Reads path × CallsOnly Reads Puts calls
CallsOnly Reads Puts (Missed path ∷ calls) = Reads path × CallsOnly Reads Puts calls
CallsOnly Reads Puts (ReadFailed path ∷ calls) = Reads path × CallsOnly Reads Puts calls
CallsOnly Reads Puts (Appended path bytes ∷ calls) = Puts path × CallsOnly Reads Puts calls
CallsOnly Reads Puts (AppendFailed path ∷ calls) = Puts path × CallsOnly Reads Puts calls

-- each read of another path gave what stands there, where the contents are told
abbrev pub AllStandBut : (List ℕ → Type 0) → List FileCall → Option Contents → Type 0
AllStandBut Puts [] contents = Unit {0}
AllStandBut Puts (Read path bytes ∷ calls) contents = (¬ Puts path → Stands path (Some bytes) contents) × AllStandBut Puts calls contents
AllStandBut Puts (Missed path ∷ calls) contents = (¬ Puts path → Stands path None contents) × AllStandBut Puts calls contents
AllStandBut Puts (call ∷ calls) contents = AllStandBut Puts calls contents

-- under each other path stands what stood there
abbrev pub SameBut : (List ℕ → Type 0) → Contents → Contents → Type 0
SameBut Puts old new = (path : List ℕ) → ¬ Puts path → new path ≡ old path

-- What was done to files: reads of files that one of the rules names, appends to the file where flows are saved, and nothing else. Under
-- each other path stands what stood there, and a read of it gave that.
pub record TouchesOnly (rules : List Rule) (to : Option SavesTo) (files last : FilesMeaning) : Type 0 where
  pub made : List FileCall
  pub listed : ListsAll made files.calls last.calls
  pub named : CallsOnly (IsOfRule rules) (IsSavedAt to) made
  pub stood : AllStandBut (IsSavedAt to) made files.contents
  pub contents : Told (SameBut (IsSavedAt to)) files.contents last.contents
  pub misses : RoseBy (misses_in made) files.misses last.misses
  pub faults : RoseBy (faults_in made) files.faults last.faults
  pub losses : files.losses ≤ last.losses
