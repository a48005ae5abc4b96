-- What was read for map local, and what is answered by it.
use Rattle.std.specs.Prelude.{◌≡◌, ℕ, ◌+◌, ◌-◌, ◌^◌, ◌≤◌, min, List, [], ◌∷◌, ◌++◌, Option, Some, None}
use Rattle.px_message.specs.declared.response.Response.{Response}
use Rattle.px_outside.specs.Files.{Contents, SameContents, Stands, Told}
use Rattle.px_outside.specs.declared.files.FileCall.{FileCall}
use Rattle.px_outside.specs.declared.files.FileCall.TheVariants.{Read, Missed, ReadFailed}
use Rattle.px_map.specs.Responses.{file_response, internal_error, not_found}

-- The reads that are made for these files in their order, and the response that they come to: the first that is there is
-- given; a read that fails ends in 500; where none is there it is 404. A file whose path would lead up is not read.
pub data Serves : List (Option (List ℕ)) → List FileCall → Response → Type 0 where
  none_left : Serves [] [] not_found
  leads_up : (files : List (Option (List ℕ))) (made : List FileCall) (response : Response) →
      Serves files made response → Serves (None ∷ files) made response
  is_absent : (path : List ℕ) (files : List (Option (List ℕ))) (made : List FileCall) (response : Response) →
      Serves files made response → Serves (Some path ∷ files) (Missed path ∷ made) response
  is_there : (path bytes : List ℕ) (files : List (Option (List ℕ))) →
      Serves (Some path ∷ files) (Read path bytes ∷ []) (file_response path bytes)
  has_failed : (path : List ℕ) (files : List (Option (List ℕ))) →
      Serves (Some path ∷ files) (ReadFailed path ∷ []) internal_error

-- The same with what is answered: nothing where no rule matches.
abbrev pub IsAnswer : List (Option (List ℕ)) → List FileCall → Option Response → Type 0
IsAnswer [] made answer = (made ≡ []) × (answer ≡ None)
IsAnswer (file ∷ files) made answer = (response : Response) × (answer ≡ Some response) × Serves (file ∷ files) made response

-- These reads are the first of those that are made for the files.
pub data Begins : List (Option (List ℕ)) → List FileCall → Type 0 where
  nothing_yet : (files : List (Option (List ℕ))) → Begins files []
  past_one : (files : List (Option (List ℕ))) (made : List FileCall) → Begins files made → Begins (None ∷ files) made
  past_absent : (path : List ℕ) (files : List (Option (List ℕ))) (made : List FileCall) →
      Begins files made → Begins (Some path ∷ files) (Missed path ∷ made)
  at_file : (path bytes : List ℕ) (files : List (Option (List ℕ))) → Begins (Some path ∷ files) (Read path bytes ∷ [])
  at_failure : (path : List ℕ) (files : List (Option (List ℕ))) → Begins (Some path ∷ files) (ReadFailed path ∷ [])

-- how many of the calls found nothing, and how many failed
abbrev pub misses_in : List FileCall → ℕ
misses_in [] = 0
misses_in (Missed path ∷ calls) = 1 + misses_in calls
misses_in (call ∷ calls) = misses_in calls

abbrev pub faults_in : List FileCall → ℕ
faults_in [] = 0
faults_in (ReadFailed path ∷ calls) = 1 + faults_in calls
faults_in (call ∷ calls) = faults_in calls

-- the count rose by at least so many, or stands at its type's end
abbrev pub RoseBy : ℕ → ℕ → ℕ → Type 0
RoseBy many before now = min (before + many) (2 ^ 64 - 1) ≤ now

-- the list of calls has grown by these, where it is told
abbrev pub ListsAll : List FileCall → Option (List FileCall) → Option (List FileCall) → Type 0
ListsAll made None new = new ≡ None
ListsAll made (Some calls) new = new ≡ Some (calls ++ made)

-- what each call gave stands in the contents, where they are told
abbrev pub AllStand : List FileCall → Option Contents → Type 0
AllStand [] contents = Unit {0}
AllStand (Read path bytes ∷ calls) contents = Stands path (Some bytes) contents × AllStand calls contents
AllStand (Missed path ∷ calls) contents = Stands path None contents × AllStand calls contents
AllStand (call ∷ calls) contents = AllStand calls contents

-- what files tell
pub record Seen : Type 0 where
  pub contents : Option Contents
  pub calls : Option (List FileCall)
  pub misses : ℕ
  pub faults : ℕ
  pub losses : ℕ

-- these calls were made and no others, they gave what stands there, and they changed no file
pub record Made (made : List FileCall) (before after : Seen) : Type 0 where
  pub listed : ListsAll made before.calls after.calls
  pub stood : AllStand made before.contents
  pub contents : Told SameContents before.contents after.contents
  pub misses : RoseBy (misses_in made) before.misses after.misses
  pub faults : RoseBy (faults_in made) before.faults after.faults
  pub losses : after.losses ≡ before.losses

-- so do these files, by their parts
abbrev pub seen : {F : Type 0} → (F → Option Contents) → (F → Option (List FileCall)) → (F → ℕ) → (F → ℕ) → (F → ℕ) → F → Seen
seen contents calls misses faults losses files =
    record { contents = contents files; calls = calls files; misses = misses files; faults = faults files; losses = losses files }
