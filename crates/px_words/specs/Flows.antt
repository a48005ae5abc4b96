-- What a run promises with the words `flows FILE FILTER`.
use Rattle.std.specs.Prelude.{◌≡◌, ◌⊎◌, ℕ, ◌-◌, ◌==◌, if◌then◌else◌, List, [], ◌∷◌, length, filter, Option, Ok, Err}
use Rattle.std.specs.List.{flat_map}
use Rattle.px_message.specs.declared.flow.Flow.{Flow}
use Rattle.px_outside.specs.Sink.{Writes, WritesPart}
use Rattle.px_outside.specs.declared.files.FileCall.{FileCall}
use Rattle.px_outside.specs.declared.files.FileCall.TheVariants.{Read, Missed, ReadFailed}
use Rattle.px_filter.specs.Expression.{Expression}
use Rattle.px_filter.specs.Holds.{holds}
use Rattle.px_filter.specs.Parsing.{parse, place_of}
use Rattle.px_filter.specs.Shown.{shown}
use Rattle.px_filter.specs.declared.filter.FilterError.{FilterError}
use Rattle.px_map.specs.Reads.{Made}
use Rattle.px_addons.specs.Mapped.{seen_of}
use Rattle.px_view.specs.Line.{flow_line}
use Rattle.px_words.specs.FlowFile.{HasFlows, IsBadPlace}
use Rattle.px_words.specs.Lines.{bad_filter, bad_flow_file, cannot_read}
use Rattle.px_words.specs.Outside.{Outside, IsTold}
use Rattle.px_words.specs.Stops.{Stops}

-- the line of each of the flows on which the filter holds, in their order
abbrev pub lines_of : Expression → List Flow → List ℕ
lines_of expression flows = flat_map flow_line (filter (λ flow. holds flow expression) flows)

-- what came of the filter and of the file
pub data Fetched : Type 0 where
  -- the text is no filter, for this cause
  no_filter : (why : FilterError) → Fetched
  -- memory ran out before the file was read
  nothing_fetched : Fetched
  -- nothing stands under its path
  file_absent : Fetched
  -- it was not read
  file_unread : Fetched
  -- these bytes were read, and the filter is this
  fetched : (bytes : List ℕ) (expression : Expression) → Fetched

-- the reads that were made, of the file of this path
abbrev pub fetches_of : List ℕ → Fetched → List FileCall
fetches_of path (no_filter why) = []
fetches_of path nothing_fetched = []
fetches_of path file_absent = Missed path ∷ []
fetches_of path file_unread = ReadFailed path ∷ []
fetches_of path (fetched bytes expression) = Read path bytes ∷ []

-- the line of a bad place, in front of which so much of the text was read; or none
abbrev pub place_line : List ℕ → List ℕ → List ℕ → ℕ → List ℕ
place_line path bytes behind status = if status == 4 then bad_flow_file path (length bytes - length behind) else []

-- The flows of a file were gone through from its front, to its end or to the first place that has no entry, and of each on which the
-- filter holds its line was printed; behind them that of the bad place. A write of a flow's line that failed ended it.
pub record Shows (out_failed : Type 0) (path bytes : List ℕ) (expression : Expression) (start now : Option (List ℕ)) (status : ℕ) : Type 0 where
  pub flows : List Flow
  pub behind : List ℕ
  pub has : HasFlows bytes flows behind
  pub statuses : (status ≡ 0) ⊎ ((status ≡ 4) ⊎ ((status ≡ 7) ⊎ (status ≡ 8)))
  pub ended : status ≡ 0 → behind ≡ []
  pub bad : status ≡ 4 → IsBadPlace behind
  pub lost : status ≡ 7 → out_failed
  -- the lines of the flows are all there with 0 and with 4, and a beginning of them else
  pub printed : Option (List ℕ)
  pub begun : WritesPart (lines_of expression flows) start printed
  pub whole : (status ≡ 0) ⊎ (status ≡ 4) → Writes (lines_of expression flows) start printed
  -- and behind them that of the bad place
  pub ends : IsTold out_failed status (place_line path bytes behind status) printed now

-- What a run promises by its filter and its file, where `Prints` says what is printed of a file of these bytes by this filter.
module _ (net_is_same out_failed notes_failed : Type 0) (path text : List ℕ) (Prints : List ℕ → Expression → Option (List ℕ) → Option (List ℕ) → ℕ → Type 0) where
  -- the run by what came of the filter and of the file
  abbrev pub FetchesOn : Fetched → Outside → Outside → ℕ → Type 0
  FetchesOn (no_filter why) before after status =
      (parse text ≡ Err why) × Stops net_is_same out_failed notes_failed 2 (bad_filter (place_of why)) (shown text (place_of why)) before.files before after status
  FetchesOn nothing_fetched before after status = Stops net_is_same out_failed notes_failed 8 [] [] after.files before after status
  FetchesOn file_absent before after status =
      ((expression : Expression) × (parse text ≡ Ok expression)) × Stops net_is_same out_failed notes_failed 3 (cannot_read path) [] after.files before after status
  FetchesOn file_unread before after status =
      ((expression : Expression) × (parse text ≡ Ok expression)) × Stops net_is_same out_failed notes_failed 3 (cannot_read path) [] after.files before after status
  FetchesOn (fetched bytes expression) before after status =
      (parse text ≡ Ok expression) × Prints bytes expression before.written after.written status

  -- The text is judged first, then the file of this path is read, once, and this came of it. Nothing else is touched.
  pub record FetchesFile (what : Fetched) (before after : Outside) (status : ℕ) : Type 0 where
    pub net : net_is_same
    pub reads : Made (fetches_of path what) (seen_of before.files) (seen_of after.files)
    pub comes : FetchesOn what before after status
    pub silent : (bytes : List ℕ) (expression : Expression) → what ≡ fetched bytes expression → after.noted ≡ before.noted

-- with the words `flows FILE FILTER`
abbrev pub ListsFile : Type 0 → Type 0 → Type 0 → List ℕ → List ℕ → Fetched → Outside → Outside → ℕ → Type 0
ListsFile net_is_same out_failed notes_failed path text = FetchesFile net_is_same out_failed notes_failed path text (Shows out_failed path)
