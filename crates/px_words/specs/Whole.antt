-- Files of flows that are judged whole, before anything is made of them.
use Rattle.std.specs.Prelude.{◌≡◌, ℕ, ◌-◌, List, [], length, Result, Ok, Err}
use Rattle.px_flowfile.specs.declared.entry.Entry.{Entry}
use Rattle.px_words.specs.FlowFile.{HasEntries, IsBadPlace}
use Rattle.px_words.specs.declared.whole.NotWhole.{NotWhole}
use Rattle.px_words.specs.declared.whole.NotWhole.TheVariants as faults
use Rattle.px_words.specs.declared.whole.Unfinished.{Unfinished}
use Rattle.px_words.specs.declared.whole.Unfinished.TheVariants as breaks

-- entries stand in the text one behind the other, up to its end
abbrev pub IsWhole : List ℕ → Type 0
IsWhole text = (entries : List Entry) × HasEntries text entries []

-- behind entries, and behind so many bytes, the text has a bad place
pub record HasBadPlace (text : List ℕ) (offset : ℕ) : Type 0 where
  pub entries : List Entry
  pub behind : List ℕ
  pub has : HasEntries text entries behind
  pub bad : IsBadPlace behind
  pub at : offset ≡ length text - length behind

-- why a text is not gone through to its end: it has a bad place, or memory ran out
abbrev pub IsNotWhole : List ℕ → NotWhole → Type 0
IsNotWhole text (faults.BadPlace offset) = HasBadPlace text offset
IsNotWhole text faults.NoMemory = Unit {0}

-- why no entry comes next in a text of so many bytes, of which this is left
abbrev pub HasNoNext : ℕ → List ℕ → NotWhole → Type 0
HasNoNext len rest (faults.BadPlace offset) = IsBadPlace rest × (offset ≡ len - length rest)
HasNoNext len rest faults.NoMemory = Unit {0}

-- the status of a run that made all of a file's flows, or that broke off
abbrev pub made_code : {T : Type 0} → Result T Unfinished → ℕ
made_code (Ok _) = 0
made_code (Err breaks.Failed) = 7
made_code (Err breaks.NoMemory) = 8
