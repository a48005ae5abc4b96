-- How a run ends that stops before it asks anything of the network.
use Rattle.std.specs.Prelude.{◌≡◌, ◌⊎◌, ℕ, List}
use Rattle.px_core.specs.Answers.{FilesMeaning}
use Rattle.px_words.specs.Outside.{Outside, IsTold}
use Rattle.px_words.specs.declared.stop.Stop.{Stop}
use Rattle.px_words.specs.declared.stop.Stop.TheVariants as stops

-- the number with which a run that did not serve ends
abbrev pub stop_code : Stop → ℕ
stop_code stops.Usage = 1
stop_code stops.Refused = 2
stop_code stops.NotRead = 3
stop_code stops.BadPlace = 4

-- A run that stopped before it asked anything of the network: with this status, or when out of memory. It printed this line and told
-- this note, and the files are these.
pub record Stops (net_is_same out_failed notes_failed : Type 0) (code : ℕ) (line note : List ℕ) (files : FilesMeaning) (before after : Outside) (status : ℕ) : Type 0 where
  pub is : (status ≡ code) ⊎ (status ≡ 8)
  pub net : net_is_same
  pub kept : after.files ≡ files
  pub prints : IsTold out_failed status line before.written after.written
  pub notes : IsTold notes_failed status note before.noted after.noted
