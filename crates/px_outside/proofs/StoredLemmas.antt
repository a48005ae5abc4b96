-- Files in memory by the place of a path's first file, and what an append does to what stands under each path.
use Rattle.std.proofs.Common.{◌≡◌, ◌≢◌, ◌∙◌, ℕ, zero, suc, ◌<◌, Bool, true, false, refl, ap, sym, arith, List, [], ◌∷◌, ◌++◌, length, get_or, Option, Some, None, String, Vec, string_bytes, position, nat_lt, All, ◌≤◌, take, drop, inl}
use Rattle.std.specs.Prelude.{slice_set, unwrap_or, if◌then◌else◌}
use Rattle.std.specs.Str.{bytes_eq}
use Rattle.std.specs.List.{position_or_len}
use Rattle.std.proofs.lemmas.List.Sums.{fails_before_first}
use Rattle.std.proofs.lemmas.Bool.{ltb-false, false_from_ne_true}
use Rattle.std.proofs.lemmas.Slice.Eq.{bytes_eq-Decides}
use Rattle.std.proofs.Math.Seq.{map-set_same}
use Rattle.std.proofs.lemmas.List.{map-append, take-append-drop}
use Rattle.px_outside.specs.MemFiles.{Stored, FilesState, stored_of, contents_of, with_appended, after_put}
use Rattle.px_outside.specs.Files.{Appends, AppendsPart, Told}
use Rattle.px_outside.specs.declared.files.FileCall.{FileCall}

module _ {A B : Type 0} where
  -- the file has this path
  abbrev pub is_of : List ℕ → String A × Vec ℕ B → Bool
  is_of path file = bytes_eq (string_bytes file.0) path

  -- what stands under the path whose first file is here
  pub contents_at : (path : List ℕ) (files : List (String A × Vec ℕ B)) (place : ℕ) (d : String A × Vec ℕ B)
      → place < length files → is_of path (get_or files place d) ≡ true
      → ((k : ℕ) → k < place → is_of path (get_or files k d) ≡ false)
      → contents_of (stored_of files) path ≡ Some (get_or files place d).1.items
  contents_at path [] place d below here before = absurd (omega arith)
  contents_at path (file ∷ rest) zero d below here before = rw here refl
  contents_at path (file ∷ rest) (suc place) d below here before =
      let first : is_of path file ≡ false = before 0 (omega arith) in
      rw first (contents_at path rest place d (omega arith) here (λ k h. before (suc k) (omega arith)))

  -- and the files after an append, where the file here is replaced by one of the same path with the bytes at its end
  pub appended_at : (path bytes : List ℕ) (files : List (String A × Vec ℕ B)) (place : ℕ) (d new : String A × Vec ℕ B)
      → place < length files → is_of path (get_or files place d) ≡ true
      → ((k : ℕ) → k < place → is_of path (get_or files k d) ≡ false)
      → string_bytes new.0 ≡ string_bytes (get_or files place d).0
      → new.1.items ≡ (get_or files place d).1.items ++ bytes
      → stored_of (slice_set files place new) ≡ with_appended (stored_of files) path bytes
  appended_at path bytes [] place d new below here before name items = absurd (omega arith)
  appended_at path bytes (file ∷ rest) zero d new below here before name items = rw (here, name, items) refl
  appended_at path bytes (file ∷ rest) (suc place) d new below here before name items =
      let first : is_of path file ≡ false = before 0 (omega arith) in
      rw first (ap (λ (files : Stored). (string_bytes file.0, file.1.items) ∷ files)
      (appended_at path bytes rest place d new (omega arith) here (λ k h. before (suc k) (omega arith)) name items))

  -- and where it is replaced by one of the same path and bytes
  pub same_at : (files : List (String A × Vec ℕ B)) (place : ℕ) (file new : String A × Vec ℕ B)
      → file ≡ get_or files place file → string_bytes new.0 ≡ string_bytes file.0 → new.1.items ≡ file.1.items
      → stored_of (slice_set files place new) ≡ stored_of files
  same_at files place file new is name items =
      map-set_same (λ (f : String A × Vec ℕ B). (string_bytes f.0, f.1.items)) files place new file
      (rw (name, items) (ap (λ (f : String A × Vec ℕ B). (string_bytes f.0, f.1.items)) is))

  -- a path that no file has
  pub nothing_at : (path bytes : List ℕ) (files : List (String A × Vec ℕ B)) → All (λ file. is_of path file ≡ false) files
      → (contents_of (stored_of files) path ≡ None) × (with_appended (stored_of files) path bytes ≡ stored_of files ++ (path, bytes) ∷ [])
  nothing_at path bytes [] none = (refl, refl)
  nothing_at path bytes (file ∷ rest) none =
      let first : is_of path file ≡ false = none 0 file (omega arith) in
      let others = nothing_at path bytes rest (λ k d h. none (suc k) d (omega arith)) in
      (rw first others.0, rw first (ap (λ (files : Stored). (string_bytes file.0, file.1.items) ∷ files) others.1))

  -- a new file behind the others, where none has its path
  pub new_file : (path bytes : List ℕ) (files now : List (String A × Vec ℕ B)) (file : String A × Vec ℕ B)
      → All (λ file. is_of path file ≡ false) files → now ≡ files ++ file ∷ []
      → string_bytes file.0 ≡ path → file.1.items ≡ bytes
      → stored_of now ≡ with_appended (stored_of files) path bytes
  new_file path bytes files now file none pushed name items =
      rw (pushed, map-append {A = String A × Vec ℕ B}, name, items) (sym (nothing_at path bytes files none).1)

-- the search ended without a place
pub all_fail : {X : Type 0} (p : X → Bool) (xs : List X) → None ≡ position p xs → All (λ x. p x ≡ false) xs
all_fail p xs none k d below =
    let over : nat_lt (position_or_len p xs) (length xs) ≡ false =
    false_from_ne_true _ (λ h. let e : None ≡ Some (position_or_len p xs) = rw h at none in cc) in
    let past : length xs ≤ position_or_len p xs = ltb-false _ _ over in
    fails_before_first p xs k d (omega arith)

bytes_eq_self : (text : List ℕ) → bytes_eq text text ≡ true
bytes_eq_self text = (bytes_eq-Decides text text).1 refl

-- what stands under the path after an append
grown : (files : Stored) (path bytes : List ℕ)
    → contents_of (with_appended files path bytes) path ≡ Some (unwrap_or (contents_of files path) [] ++ bytes)
grown [] path bytes = rw (bytes_eq_self path) refl
grown (file ∷ rest) path bytes = grown_by (bytes_eq file.0 path) refl (grown rest path bytes)
  where
    grown_by : (b : Bool) → bytes_eq file.0 path ≡ b
        → contents_of (with_appended rest path bytes) path ≡ Some (unwrap_or (contents_of rest path) [] ++ bytes)
        → contents_of (with_appended (file ∷ rest) path bytes) path ≡ Some (unwrap_or (contents_of (file ∷ rest) path) [] ++ bytes)
    grown_by true here others = rw here (rw here refl)
    grown_by false here others = rw here (rw here others)

-- and under another one
others : (files : Stored) (path bytes other : List ℕ) → other ≢ path
    → contents_of (with_appended files path bytes) other ≡ contents_of files other
others [] path bytes other differs =
    let no : bytes_eq path other ≡ false = false_from_ne_true _ (λ h. differs (sym ((bytes_eq-Decides path other).0 h))) in
    rw no refl
others (file ∷ rest) path bytes other differs = others_by (bytes_eq file.0 path) refl (others rest path bytes other differs)
  where
    others_by : (b : Bool) → bytes_eq file.0 path ≡ b
        → contents_of (with_appended rest path bytes) other ≡ contents_of rest other
        → contents_of (with_appended (file ∷ rest) path bytes) other ≡ contents_of (file ∷ rest) other
    others_by true here tail =
        let is : file.0 ≡ path = (bytes_eq-Decides file.0 path).0 here in
        let no : bytes_eq file.0 other ≡ false = false_from_ne_true _ (λ h. differs (sym ((bytes_eq-Decides file.0 other).0 h) ∙ is)) in
        rw here (rw no refl)
    others_by false here tail = rw here (ap (λ (o : Option (List ℕ)). if bytes_eq file.0 other then Some file.1 else o) tail)

pub appends : (files : Stored) (path bytes : List ℕ)
    → Appends path bytes (contents_of files) (contents_of (with_appended files path bytes))
appends files path bytes = record { grown = grown files path bytes; others = others files path bytes }

-- what the files tell after a put
pub told : (old new : FilesState) (path bytes : List ℕ) (call : FileCall) (now : Stored)
    → new ≡ after_put old path bytes call → now ≡ new.stored
    → Told (Appends path bytes) (Some (contents_of old.stored)) (Some (contents_of now))
told old new path bytes call now put is =
    let e : now ≡ with_appended old.stored path bytes = is ∙ ap (λ (s : FilesState). s.stored) put in
    (contents_of now, refl, rw e (appends old.stored path bytes))

-- and after a put of the front of the bytes
pub told_part : (old new : FilesState) (path bytes : List ℕ) (count : ℕ) (call : FileCall) (now : Stored)
    → new ≡ after_put old path (take count bytes) call → now ≡ new.stored
    → Told (AppendsPart path bytes) (Some (contents_of old.stored)) (Some (contents_of now))
told_part old new path bytes count call now put is =
    let e : now ≡ with_appended old.stored path (take count bytes) = is ∙ ap (λ (s : FilesState). s.stored) put in
    let put_front = appends old.stored path (take count bytes) in (
      contents_of now,
      refl,
      record {
        part = take count bytes;
        prefix = (drop count bytes, sym (take-append-drop count bytes));
        grown = inl (rw e put_front.grown);
        others = rw e put_front.others;
      },
    )
