-- Lists of paths.
use Rattle.std.proofs.Common.{◌≡◌, ◌≢◌, ℕ, zero, suc, ◌<◌, ◌≤◌, ◌||◌, Bool, true, false, List, [], ◌∷◌, length, map, take, get_or, Some, None, String, Global, string_bytes, refl, sym, ap, subst, ◌∙◌, arith}
use Rattle.std.proofs.lemmas.List.{take_all}
use Rattle.std.specs.List.{list_any}
use Rattle.px_options.specs.Replay.{is_empty, paths_of}
use Rattle.px_options.specs.View.{path_view}
use Rattle.px_options.specs.declared.file_path.FilePath.{FilePath}

full : (text : List ℕ) → text ≢ [] → is_empty text ≡ false
full [] some = absurd (some refl)
full (c ∷ cs) some = refl

none_empty : (ps : List FilePath) → list_any is_empty (map path_view ps) ≡ false
none_empty [] = refl
none_empty (p ∷ ps) = rw (full (path_view p) p.not_empty) (none_empty ps)

-- all texts, as paths
pub are_paths : (ps : List FilePath) (ss : List (String Global)) (i : ℕ) → length ss ≤ i → map path_view ps ≡ map string_bytes (take i ss)
    → paths_of (map string_bytes ss) ≡ Some (map path_view ps)
are_paths ps ss i all is =
    let same : map path_view ps ≡ map string_bytes ss = is ∙ ap (map string_bytes) (take_all i ss all) in
    subst (λ ts. paths_of ts ≡ Some (map path_view ps)) same (rw (none_empty ps) refl)

or_true : (b : Bool) → (b || true) ≡ true
or_true true = refl
or_true false = refl

some_empty : (ss : List (String Global)) (i : ℕ) (s : String Global) → i < length ss → s ≡ get_or ss i s → string_bytes s ≡ [] → list_any is_empty (map string_bytes ss) ≡ true
some_empty [] i s within is empty = absurd (omega arith)
some_empty (t ∷ ss) zero s within is empty = rw (ap (λ t. is_empty (string_bytes t)) (sym is) ∙ ap is_empty empty) refl
some_empty (t ∷ ss) (suc i) s within is empty = rw (some_empty ss i s (omega arith) is empty) (or_true (is_empty (string_bytes t)))

-- a text that is empty
pub no_paths : (ss : List (String Global)) (i : ℕ) (s : String Global) → i < length ss → s ≡ get_or ss i s → string_bytes s ≡ [] → paths_of (map string_bytes ss) ≡ None
no_paths ss i s within is empty = rw (some_empty ss i s within is empty) refl
