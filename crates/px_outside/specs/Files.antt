-- What files mean: their contents by path and the list of their calls, where they tell them.
use Rattle.std.specs.Prelude.{◌≡◌, ◌≢◌, ◌⊎◌, ℕ, List, [], ◌∷◌, ◌++◌, Option, Some, None, unwrap_or}
use Rattle.px_text.specs.Prefix.{IsPrefixOf}
use Rattle.px_outside.specs.declared.files.FileCall.{FileCall}

-- what stands under each path
abbrev pub Contents : Type 0
Contents = List ℕ → Option (List ℕ)

-- no other path changed
abbrev pub KeepsOthers : List ℕ → Contents → Contents → Type 0
KeepsOthers path old new = (other : List ℕ) → other ≢ path → new other ≡ old other

-- the bytes stand at the file's end, where an absent path counts as empty; no other path changed
pub record Appends (path bytes : List ℕ) (old new : Contents) : Type 0 where
  pub grown : new path ≡ Some (unwrap_or (old path) [] ++ bytes)
  pub others : KeepsOthers path old new

-- nothing or a prefix of the bytes stands at the file's end; no other path changed
pub record AppendsPart (path bytes : List ℕ) (old new : Contents) : Type 0 where
  pub part : List ℕ
  pub prefix : IsPrefixOf part bytes
  pub grown : (new path ≡ Some (unwrap_or (old path) [] ++ part)) ⊎ ((part ≡ []) × (new path ≡ old path))
  pub others : KeepsOthers path old new

-- each path has what it had
abbrev pub SameContents : Contents → Contents → Type 0
SameContents old new = (path : List ℕ) → new path ≡ old path

-- the fact holds of the contents before and after, where they are told; whether they are told does not change
abbrev pub Told : (Contents → Contents → Type 0) → Option Contents → Option Contents → Type 0
Told Fact None new = new ≡ None
Told Fact (Some old) new = (after : Contents) × (new ≡ Some after) × Fact old after

-- under the path stands this, where the contents are told
abbrev pub Stands : List ℕ → Option (List ℕ) → Option Contents → Type 0
Stands path what None = Unit {0}
Stands path what (Some contents) = contents path ≡ what

-- the list of calls has grown by this one, where it is told
abbrev pub Lists : FileCall → Option (List FileCall) → Option (List FileCall) → Type 0
Lists call None new = new ≡ None
Lists call (Some calls) new = new ≡ Some (calls ++ call ∷ [])
