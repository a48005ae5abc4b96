-- What a run promises with the words `har FILE FILTER`.
--
-- The text is judged first; then the file is read, once, and judged whole; then the export of those of its flows on which the filter holds is printed, in their order, with a line feed
-- behind it.
use Rattle.std.specs.Prelude.{◌≡◌, ◌⊎◌, ℕ, ◌-◌, List, [], ◌∷◌, ◌++◌, length, filter, Option}
use Rattle.px_message.specs.declared.flow.Flow.{Flow}
use Rattle.px_outside.specs.Sink.{Writes, WritesPart}
use Rattle.px_filter.specs.Expression.{Expression}
use Rattle.px_filter.specs.Holds.{holds}
use Rattle.px_har.specs.Export.{har_text}
use Rattle.px_words.specs.FlowFile.{HasFlows, IsBadPlace}
use Rattle.px_words.specs.Flows.{Fetched, FetchesFile}
use Rattle.px_words.specs.Lines.{bad_flow_file}
use Rattle.px_words.specs.Outside.{IsTold, Outside}

-- the export of those of the flows on which the filter holds, in their order, and a line feed
abbrev pub export_of : Expression → List Flow → List ℕ
export_of expression flows = har_text (filter (λ flow. holds flow expression) flows) ++ 10 ∷ []

-- The flows of a file were gone through from its front, to its end or to the first place that has no entry; and nothing was printed before.
pub record Exports (out_failed : Type 0) (path bytes : List ℕ) (expression : Expression) (start now : Option (List ℕ)) (status : ℕ) : Type 0 where
  pub flows : List Flow
  pub behind : List ℕ
  pub has : HasFlows bytes flows behind
  pub statuses : (status ≡ 0) ⊎ ((status ≡ 4) ⊎ ((status ≡ 7) ⊎ (status ≡ 8)))
  -- with 0 they are all of the file's, and their export was printed
  pub ended : status ≡ 0 → (behind ≡ []) × Writes (export_of expression flows) start now
  -- with 4 a bad place stands behind them, and its line alone was printed
  pub bad : status ≡ 4 → IsBadPlace behind × IsTold out_failed status (bad_flow_file path (length bytes - length behind)) start now
  -- with 7 they are all of the file's, and a write failed: a beginning of their export was printed
  pub lost : status ≡ 7 → (behind ≡ []) × (out_failed × WritesPart (export_of expression flows) start now)
  -- and so where memory ran out; or nothing was printed
  pub part : status ≡ 8 → ((behind ≡ []) × WritesPart (export_of expression flows) start now) ⊎ (now ≡ start)

abbrev pub ExportsFile : Type 0 → Type 0 → Type 0 → List ℕ → List ℕ → Fetched → Outside → Outside → ℕ → Type 0
ExportsFile net_is_same out_failed notes_failed path text = FetchesFile net_is_same out_failed notes_failed path text (Exports out_failed path)
