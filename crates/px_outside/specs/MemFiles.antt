-- Files in memory: what stands under each path, the calls so far, which calls fail, and what was counted.
use Rattle.std.specs.Prelude.{ℕ, ◌/◌, ◌<◌, nat_lt, List, [], ◌∷◌, ◌++◌, length, map, take, Some, None, if◌then◌else◌, string_bytes, String, Vec}
use Rattle.std.specs.Str.{bytes_eq}
use Rattle.px_outside.specs.declared.files.FileCall.{FileCall}
use Rattle.px_outside.specs.declared.files.FileCall.TheVariants.{Read, Missed, ReadFailed, Appended, AppendFailed}
use Rattle.px_outside.specs.Count.{one_more, Plan, FailsNext, after_call}
use Rattle.px_outside.specs.Files.{Contents}

-- the paths and bytes of files, in the order in which they were made
abbrev pub Stored : Type 0
Stored = List (List ℕ × List ℕ)

-- the same of files as code holds them
abbrev pub stored_of : {A B : Type 0} → List (String A × Vec ℕ B) → Stored
stored_of files = map (λ file. (string_bytes file.0, file.1.items)) files

-- what stands under a path: the bytes of its first file
abbrev pub contents_of : Stored → Contents
contents_of [] path = None
contents_of (file ∷ rest) path = if bytes_eq file.0 path then Some file.1 else contents_of rest path

-- the bytes at the end of the path's first file, or in a new file behind the others where it has none
abbrev pub with_appended : Stored → List ℕ → List ℕ → Stored
with_appended [] path bytes = (path, bytes) ∷ []
with_appended (file ∷ rest) path bytes =
    if bytes_eq file.0 path then (file.0, file.1 ++ bytes) ∷ rest else file ∷ with_appended rest path bytes

pub record FilesState : Type 0 where
  pub stored : Stored
  pub listed : List FileCall
  pub plan : Plan
  pub misses : ℕ
  pub faults : ℕ
  pub losses : ℕ

-- an append of these bytes fails: there is a byte, and the call's number is listed
abbrev pub AppendFails : FilesState → List ℕ → Type 0
AppendFails files bytes = (0 < length bytes) × FailsNext files.plan

-- the call is in the list and counted
abbrev pub after_listing : FilesState → FileCall → FilesState
after_listing files call = record files { listed = files.listed ++ call ∷ []; plan = after_call files.plan }

-- the files after a read that gave these bytes
abbrev pub after_read : FilesState → List ℕ → List ℕ → FilesState
after_read files path bytes = after_listing files (Read path bytes)

-- after a read under whose path nothing stood
abbrev pub after_miss : FilesState → List ℕ → FilesState
after_miss files path = record (after_listing files (Missed path)) { misses = one_more files.misses }

-- after a read that failed
abbrev pub after_fault : FilesState → List ℕ → FilesState
after_fault files path = record (after_listing files (ReadFailed path)) { faults = one_more files.faults }

-- the bytes are at the path's end and the call is in the list
abbrev pub after_put : FilesState → List ℕ → List ℕ → FileCall → FilesState
after_put files path bytes call = record files {
  stored = with_appended files.stored path bytes;
  listed = files.listed ++ call ∷ [];
}

-- after the bytes were appended; an append of no bytes is listed and not counted
abbrev pub after_append : FilesState → List ℕ → List ℕ → FilesState
after_append files path bytes = record (after_put files path bytes (Appended path bytes)) {
  plan = if nat_lt 0 (length bytes) then after_call files.plan else files.plan;
}

-- the first half of the bytes
abbrev pub half : List ℕ → List ℕ
half bytes = take (length bytes / 2) bytes

-- after an append that failed: the first half of the bytes stands at the file's end
abbrev pub after_loss : FilesState → List ℕ → List ℕ → FilesState
after_loss files path bytes = record (after_put files path (half bytes) (AppendFailed path)) {
  plan = after_call files.plan;
  losses = one_more files.losses;
}
