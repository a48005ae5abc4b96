-- What a run promises with the words `pick FILE FILTER OUT`.
--
-- The text is judged first. Then all is as with `convert FILE OUT`, of those of the file's entries on which the filter holds.
use Rattle.std.specs.Prelude.{◌≡◌, ℕ, List, [], Some, Ok, Err}
use Rattle.px_filter.specs.Expression.{Expression}
use Rattle.px_filter.specs.Parsing.{parse, place_of}
use Rattle.px_filter.specs.Shown.{shown}
use Rattle.px_filter.specs.declared.filter.FilterError.{FilterError}
use Rattle.px_words.specs.Converts.{CopiesFile, Taken}
use Rattle.px_words.specs.Lines.{bad_filter}
use Rattle.px_words.specs.Outside.{Outside}
use Rattle.px_words.specs.Stops.{Stops}

-- what came of the filter, and then of the file
pub data Picked : Type 0 where
  -- the text is no filter, for this cause
  refused : (why : FilterError) → Picked
  -- memory ran out before the text was judged
  unjudged : Picked
  -- the filter is this, and this came of the file
  picked : (expression : Expression) (what : Taken) → Picked

module _ (net_is_same out_failed append_failed notes_failed : Type 0) (path text to : List ℕ) where
  -- the run by what came of the filter and of the file; where there is no filter, no file is touched
  abbrev pub PicksOn : Picked → Outside → Outside → ℕ → Type 0
  PicksOn (refused why) before after status =
      (parse text ≡ Err why) × Stops net_is_same out_failed notes_failed 2 (bad_filter (place_of why)) (shown text (place_of why)) before.files before after status
  PicksOn unjudged before after status = Stops net_is_same out_failed notes_failed 8 [] [] before.files before after status
  PicksOn (picked expression what) before after status =
      (parse text ≡ Ok expression) × CopiesFile net_is_same out_failed append_failed notes_failed (Some expression) path to what before after status

  -- The text is judged, and this came of it and of the file. Nothing is asked of the network.
  pub record PicksFile (what : Picked) (before after : Outside) (status : ℕ) : Type 0 where
    pub net : net_is_same
    pub picks : PicksOn what before after status
