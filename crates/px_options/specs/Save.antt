-- Where flows are saved, and which of them: a path, and a filter. Which flows wait for an operator, and which are given what was kept, is a filter too.
use Rattle.std.specs.Prelude.{ℕ, List, [], ◌∷◌, Option, Some, None, Result, Ok, Err}
use Rattle.px_filter.specs.Expression.{Expression}
use Rattle.px_filter.specs.Parsing.{parse}
use Rattle.px_filter.specs.declared.filter.FilterError.{FilterError}
use Rattle.toml.specs.Data.{Data, as_str}
use Rattle.px_options.specs.Keys.{name_of}
use Rattle.px_options.specs.Values.{wrong}
use Rattle.px_options.specs.declared.error.OptionsError.{OptionsError}
use Rattle.px_options.specs.declared.error.OptionsError.TheVariants as error
use Rattle.px_options.specs.declared.key.Key.{Key}

-- the path that a text is: all of it; the empty text is none
abbrev pub path_of : Key → List ℕ → Result (Option (List ℕ)) OptionsError
path_of key [] = wrong key
path_of key (c ∷ cs) = Ok (Some (c ∷ cs))

abbrev pub path_in : Key → Option (List ℕ) → Result (Option (List ℕ)) OptionsError
path_in key None = wrong key
path_in key (Some text) = path_of key text

-- a text that is not empty
abbrev pub file_path : Key → Data → Result (Option (List ℕ)) OptionsError
file_path key d = path_in key (as_str d)

-- the expression that a text was read as, or why it is none
abbrev pub or_bad_filter : Key → List ℕ → Result Expression FilterError → Result (Option Expression) OptionsError
or_bad_filter key text (Ok expression) = Ok (Some expression)
or_bad_filter key text (Err cause) = Err (error.BadFilter (name_of key) text cause)

abbrev pub filter_in : Key → Option (List ℕ) → Result (Option Expression) OptionsError
filter_in key None = wrong key
filter_in key (Some text) = or_bad_filter key text (parse text)

-- a text that is a filter; a text that is none is a bad filter
abbrev pub flow_filter : Key → Data → Result (Option Expression) OptionsError
flow_filter key d = filter_in key (as_str d)
