-- The options that were gathered from a whole table, key by key.
use Rattle.std.specs.Prelude.{Result, Ok, Err}
use Rattle.toml.specs.Data.{Members, no_members, member}
use Rattle.px_options.specs.Options.{Settings}
use Rattle.px_options.specs.Steps.{put_named}
use Rattle.px_options.specs.declared.error.OptionsError.{OptionsError}

abbrev pub and_then : (Settings → Result Settings OptionsError) → Result Settings OptionsError → Result Settings OptionsError
and_then next (Err e) = Err e
and_then next (Ok s) = next s

-- each key's option is put, in their order
abbrev pub gathered : Members → Settings → Result Settings OptionsError
gathered no_members s = Ok s
gathered (member name d members) s = and_then (gathered members) (put_named name d s)
