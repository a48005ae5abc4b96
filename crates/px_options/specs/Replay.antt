-- How server replay is set: which files, what counts of a request, and what becomes of one that no recorded one answers.
use Rattle.std.specs.Prelude.{ℕ, Bool, true, false, List, [], ◌∷◌, codes, bytes_eq, Option, Some, None, Result, if◌then◌else◌}
use Rattle.std.specs.List.{list_any}
use Rattle.px_replay.specs.declared.replay.Extra.{Extra}
use Rattle.px_replay.specs.declared.replay.Extra.TheVariants as extras
use Rattle.toml.specs.Data.{Data, as_array, as_str}
use Rattle.px_options.specs.Rules.{texts_of}
use Rattle.px_options.specs.Values.{or_wrong}
use Rattle.px_options.specs.declared.error.OptionsError.{OptionsError}
use Rattle.px_options.specs.declared.key.Key.{Key}

-- a list of texts
abbrev pub texts : Key → Data → Result (List (List ℕ)) OptionsError
texts key d = or_wrong key (texts_of (as_array d))

abbrev pub is_empty : List ℕ → Bool
is_empty [] = true
is_empty (c ∷ cs) = false

-- the paths that these texts are; the empty text is none
abbrev pub paths_of : List (List ℕ) → Option (List (List ℕ))
paths_of texts = if list_any is_empty texts then None else Some texts

abbrev pub paths_in : Option (List (List ℕ)) → Option (List (List ℕ))
paths_in None = None
paths_in (Some texts) = paths_of texts

-- a list of texts, none of which is empty
abbrev pub file_paths : Key → Data → Result (List (List ℕ)) OptionsError
file_paths key d = or_wrong key (paths_in (texts_of (as_array d)))

-- what becomes of a request that no recorded one answers: it goes on, its conversation ends, or it is answered with a status
abbrev pub extra_of : List ℕ → Option Extra
extra_of text =
    if bytes_eq text (codes "forward") then Some extras.Forward
    else if bytes_eq text (codes "kill") then Some extras.Kill
    else if bytes_eq text (codes "204") then Some (extras.Code 204)
    else if bytes_eq text (codes "400") then Some (extras.Code 400)
    else if bytes_eq text (codes "404") then Some (extras.Code 404)
    else if bytes_eq text (codes "500") then Some (extras.Code 500)
    else None

abbrev pub extra_in : Option (List ℕ) → Option Extra
extra_in None = None
extra_in (Some text) = extra_of text

-- a text that is one of these
abbrev pub extra : Key → Data → Result Extra OptionsError
extra key d = or_wrong key (extra_in (as_str d))
