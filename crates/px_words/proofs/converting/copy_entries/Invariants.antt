use Rattle.std.proofs.Common.{◌≡◌, ◌≤◌, None, length}
use Rattle.std.specs.Prelude.{option_map}
use Rattle.px_core.specs.Answers.{files_meaning}
use Rattle.px_filter.specs.View.{expression}
use Rattle.px_words.specs.Whole.{IsWhole}
use Rattle.px_words.proofs.ConvertLemmas.{CopiedSoFar}
use Rattle.px_words.proofs.converting.copy_entries.Given as goal

-- all that is to be put of the entries in front of what is left was put
abbrev pub invariant-loop-reader : goal.invariant-loop-reader
invariant-loop-reader g l = record {
  copied : CopiedSoFar (option_map expression l.fn.filter) l.fn.to l.fn.bytes l.reader.rest
      (files_meaning g.F.Files.contents g.F.Files.calls g.F.Files.misses g.F.Files.faults g.F.Files.losses l.fn.files)
      (files_meaning g.F.Files.contents g.F.Files.calls g.F.Files.misses g.F.Files.faults g.F.Files.losses l.files);
  whole : IsWhole l.reader.rest;
  going : l.reader.fault ≡ None;
  later : g.F.Files.losses l.fn.files ≤ g.F.Files.losses l.files;
}

-- what is left
abbrev pub decreases-loop-reader : goal.decreases-loop-reader
decreases-loop-reader g l = length l.reader.rest
