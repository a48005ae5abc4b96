-- What stands in a line behind `edit ID ` as a change.
use Rattle.std.specs.Prelude.{◌≡◌, ◌⊎◌, ℕ, Bool, ◌==◌, if◌then◌else◌, List, [], ◌∷◌, bytes_eq, codes, Option, Some, None}
use Rattle.std.specs.List.{slice_split}
use Rattle.px_draft.specs.declared.edit.Edit.{Edit}
use Rattle.px_draft.specs.declared.edit.Edit.TheVariants as change
use Rattle.px_draft.specs.declared.edit.ReadError.{ReadError}
use Rattle.px_draft.specs.declared.edit.ReadError.TheVariants as error

abbrev pub is_blank : ℕ → Bool
is_blank b = b == 32

-- a word that stands alone
abbrev pub lone_change : List ℕ → Option Edit
lone_change word = if bytes_eq word (codes "body") then Some change.ClearBody else None

-- a word with one more
abbrev pub pair_change : List ℕ → List ℕ → Option Edit
pair_change word value =
    if bytes_eq word (codes "method") then Some (change.Method value)
    else (if bytes_eq word (codes "url") then Some (change.Url value)
    else (if bytes_eq word (codes "status") then Some (change.Status value)
    else (if bytes_eq word (codes "remove") then Some (change.Remove value)
    else (if bytes_eq word (codes "more") then Some (change.More value)
    else None))))

-- a word, a name and a value
abbrev pub triple_change : List ℕ → List ℕ → List ℕ → Option Edit
triple_change word name value =
    if bytes_eq word (codes "set") then Some (change.Set name value)
    else (if bytes_eq word (codes "add") then Some (change.Add name value)
    else None)

-- the change that these words are, or none; another number of words is none
abbrev pub change_of_words : List (List ℕ) → Option Edit
change_of_words [] = None
change_of_words (word ∷ []) = lone_change word
change_of_words (word ∷ value ∷ []) = pair_change word value
change_of_words (word ∷ name ∷ value ∷ []) = triple_change word name value
change_of_words (word ∷ name ∷ value ∷ more ∷ others) = None

-- the change that a text says, whose words are what stands between its spaces
abbrev pub change_of : List ℕ → Option Edit
change_of text = change_of_words (slice_split is_blank text)

-- why a text is not read as this: memory ran out, or it is no change
abbrev pub IsNoChange : Option Edit → ReadError → Type 0
IsNoChange outcome e = (e ≡ error.NoMemory) ⊎ ((e ≡ error.UnknownCommand) × (outcome ≡ None))
