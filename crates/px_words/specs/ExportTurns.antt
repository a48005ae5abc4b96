-- What is printed of one flow of a file that is exported, and of all of them.
use Rattle.std.specs.Prelude.{◌≡◌, ℕ, List, [], filter, if◌then◌else◌, Option, Result, Ok, Err}
use Rattle.px_message.specs.declared.flow.Flow.{Flow}
use Rattle.px_outside.specs.Sink.{Writes, WritesPart}
use Rattle.px_filter.specs.Expression.{Expression}
use Rattle.px_filter.specs.Holds.{holds}
use Rattle.px_har.specs.Export.{entries_text, placed_text}
use Rattle.px_har.specs.declared.export.Place.{Place}
use Rattle.px_har.specs.declared.export.Place.TheVariants.{First, Later}
use Rattle.px_words.specs.Exports.{export_of}
use Rattle.px_words.specs.FlowFile.{HasFlows}
use Rattle.px_words.specs.declared.whole.Unfinished.{Unfinished}
use Rattle.px_words.specs.declared.whole.Unfinished.TheVariants as breaks

-- what is printed of a flow whose entry would stand at this place, and the place of the next one
abbrev pub text_where : Expression → Place → Flow → List ℕ
text_where expression place flow = if holds flow expression then placed_text place flow else []

abbrev pub place_where : Expression → Place → Flow → Place
place_where expression place flow = if holds flow expression then Later else place

-- what a write of this text came to that did not come to its end
abbrev pub BreaksOff : Type 0 → List ℕ → Option (List ℕ) → Option (List ℕ) → Unfinished → Type 0
BreaksOff failed text before after breaks.Failed = failed × WritesPart text before after
BreaksOff failed text before after breaks.NoMemory = after ≡ before

-- what a write of it came to
abbrev pub PrintsAll : {T : Type 0} → Type 0 → List ℕ → Option (List ℕ) → Option (List ℕ) → Result T Unfinished → Type 0
PrintsAll failed text before after (Ok _) = Writes text before after
PrintsAll failed text before after (Err why) = BreaksOff failed text before after why

-- the entries of those of the flows on which the filter holds
abbrev pub entries_of : Expression → List Flow → List ℕ
entries_of expression flows = entries_text First (filter (λ flow. holds flow expression) flows)

-- What printing a text of all flows of a file came to, where the file is whole: all of it was printed, or a beginning.
abbrev pub PrintsOf : {T : Type 0} → (List Flow → List ℕ) → Type 0 → List ℕ → Option (List ℕ) → Option (List ℕ) → Result T Unfinished → Type 0
PrintsOf text failed bytes before after (Ok _) = (flows : List Flow) × HasFlows bytes flows [] × Writes (text flows) before after
PrintsOf text failed bytes before after (Err breaks.Failed) = (flows : List Flow) × HasFlows bytes flows [] × (failed × WritesPart (text flows) before after)
PrintsOf text failed bytes before after (Err breaks.NoMemory) = (flows : List Flow) × HasFlows bytes flows [] × WritesPart (text flows) before after

abbrev pub PrintsEntries : {T : Type 0} → Type 0 → Expression → List ℕ → Option (List ℕ) → Option (List ℕ) → Result T Unfinished → Type 0
PrintsEntries failed expression bytes before after result = PrintsOf (entries_of expression) failed bytes before after result

abbrev pub PrintsExport : {T : Type 0} → Type 0 → Expression → List ℕ → Option (List ℕ) → Option (List ℕ) → Result T Unfinished → Type 0
PrintsExport failed expression bytes before after result = PrintsOf (export_of expression) failed bytes before after result
