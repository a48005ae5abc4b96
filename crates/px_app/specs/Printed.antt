-- How far a text was printed to a sink, and what a sink that failed makes of a status.
use Rattle.std.specs.Prelude.{◌≡◌, ◌≤◌, ℕ, List, Option}
use Rattle.px_outside.specs.Count.{Rose}
use Rattle.px_outside.specs.Sink.{Writes, WritesPart}
use Rattle.px_app.specs.declared.printing.Printing.{Printing}
use Rattle.px_app.specs.declared.printing.Printing.TheVariants.{Whole, Failed}
use Rattle.px_app.specs.declared.status.Status.{Status}
use Rattle.px_app.specs.declared.status.Status.TheVariants.{Ended, OutputFailed}

-- the sink, which began so, has got the text: all of it, or a prefix of it where a write failed
abbrev pub Has : Printing → List ℕ → Option (List ℕ) → Option (List ℕ) → Type 0
Has Whole text start now = Writes text start now
Has Failed text start now = WritesPart text start now

-- the status of the net's end, by how the printing went
abbrev pub ended_by : Printing → Status
ended_by Whole = Ended
ended_by Failed = OutputFailed

-- at the net's end a write that failed is the status; every other status comes before it
abbrev pub at_end : Printing → Status → Status
at_end printing Ended = ended_by printing
at_end printing status = status

-- The sink has got the text by a printing that went so before: all of it where the run ended well, and a prefix where a write
-- failed, which the count of faults shows.
pub record Ends (before : Printing) (text : List ℕ) (start now : Option (List ℕ)) (old new : ℕ) (status : Status) : Type 0 where
  pub printing : Printing
  pub has : Has printing text start now
  pub whole : status ≡ Ended → printing ≡ Whole
  pub failed : (first : ℕ) → first ≤ old → (before ≡ Failed → Rose first old) → printing ≡ Failed → Rose first new
