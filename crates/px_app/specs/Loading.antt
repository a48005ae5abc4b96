-- What the calls that load flow files come to, one file and one flow at a time.
use Rattle.std.specs.Prelude.{◌≡◌, ℕ, ◌-◌, List, [], ◌∷◌, ◌++◌, length, Result, Ok, Err, Vec}
use Rattle.px_message.specs.declared.flow.Flow.{Flow}
use Rattle.px_outside.specs.declared.files.FileCall.{FileCall}
use Rattle.px_outside.specs.declared.files.FileCall.TheVariants.{Read}
use Rattle.px_map.specs.Reads.{Made, Seen}
use Rattle.px_words.specs.FlowFile.{HasFlows, IsBadPlace}
use Rattle.px_words.specs.Lines.{bad_flow_file, cannot_read}
use Rattle.px_app.specs.Loaded.{Loaded, LoadsFiles, loaded, one_absent, one_bad, one_unread, unloaded}
use Rattle.px_app.specs.declared.loading.LoadError.{LoadError}
use Rattle.px_app.specs.declared.loading.LoadError.TheVariants as errors

-- what an error tells
abbrev pub stop_of : LoadError → Loaded
stop_of (errors.Absent path) = one_absent path.now
stop_of (errors.NotRead path) = one_unread path.now
stop_of (errors.BadPlace path offset) = one_bad path.now offset
stop_of errors.NoMemory = unloaded

-- what the flows or an error tell
abbrev pub came_of : {A : Type 0} → Result (Vec Flow A) LoadError → Loaded
came_of (Ok flows) = loaded flows.items
came_of (Err e) = stop_of e

-- the flows of all of a file's text were added
abbrev pub AddsAll : List ℕ → List Flow → List Flow → Type 0
AddsAll bytes before after = (flows : List Flow) × HasFlows bytes flows [] × (after ≡ before ++ flows)

-- the file of this path was read, and all of its flows were added
pub record IsLoaded (path : List ℕ) (old new : Seen) (before after : List Flow) : Type 0 where
  pub bytes : List ℕ
  pub made : Made (Read path bytes ∷ []) old new
  pub adds : AddsAll bytes before after

-- the files end with the file of this path, whatever others stand behind it, and this was read of it
pub record LoadsNoMore (path : List ℕ) (old new : Seen) (what : Loaded) : Type 0 where
  pub calls : List FileCall
  pub made : Made calls old new
  pub stops : (others : List (List ℕ)) → LoadsFiles (path ∷ others) calls what

-- why no entry comes next in a file of so many bytes, of which this is left: it is a bad place, or memory ran out
abbrev pub IsNoNext : List ℕ → ℕ → List ℕ → Loaded → Type 0
IsNoNext path len rest (loaded flows) = ⊥
IsNoNext path len rest (one_absent other) = ⊥
IsNoNext path len rest (one_unread other) = ⊥
IsNoNext path len rest (one_bad other offset) = (other ≡ path) × IsBadPlace rest × (offset ≡ len - length rest)
IsNoNext path len rest unloaded = Unit {0}

-- the status and the line of an error
abbrev pub load_code : LoadError → ℕ
load_code (errors.Absent path) = 3
load_code (errors.NotRead path) = 3
load_code (errors.BadPlace path offset) = 4
load_code errors.NoMemory = 8

abbrev pub load_line : LoadError → List ℕ
load_line (errors.Absent path) = cannot_read path.now
load_line (errors.NotRead path) = cannot_read path.now
load_line (errors.BadPlace path offset) = bad_flow_file path.now offset
load_line errors.NoMemory = []
