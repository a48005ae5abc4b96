-- What is outside of a run, and what is told to a sink there.
use Rattle.std.specs.Prelude.{◌≢◌, ℕ, List, Option}
use Rattle.px_event.specs.Trace.{Trace}
use Rattle.px_outside.specs.Files.{Contents}
use Rattle.px_outside.specs.declared.files.FileCall.{FileCall}
use Rattle.px_outside.specs.Net.{Listening}
use Rattle.px_outside.specs.Sink.{Writes, WritesPart}
use Rattle.px_core.specs.Answers.{FilesMeaning, files_meaning}

-- what the network, the files, the sink of what is printed and that of the notes mean
pub record Outside : Type 0 where
  pub trace : Option Trace
  pub listening : Listening
  pub files : FilesMeaning
  pub written : Option (List ℕ)
  pub noted : Option (List ℕ)

-- so do these, by their parts
abbrev pub outside : {N F S T : Type 0} → (N → Option Trace) → (N → Listening) → (F → Option Contents) → (F → Option (List FileCall)) → (F → ℕ) → (F → ℕ) → (F → ℕ) → (S → Option (List ℕ)) → (T → Option (List ℕ)) →
    N → F → S → T → Outside
outside trace listening contents calls misses faults losses written noted net files out notes = record {
  trace = trace net;
  listening = listening net;
  files = files_meaning contents calls misses faults losses files;
  written = written out;
  noted = noted notes;
}

-- A sink that began so has got a beginning of the text; and all of it, unless out of memory, unless it failed.
pub record IsTold (failed : Type 0) (status : ℕ) (text : List ℕ) (start now : Option (List ℕ)) : Type 0 where
  pub begun : WritesPart text start now
  pub whole : status ≢ 8 → ¬ failed → Writes text start now
