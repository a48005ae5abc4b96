-- What came of the filter of what is picked.
use Rattle.std.proofs.Common.{◌≡◌, ◌⊎◌, inl, inr, ℕ, List, Some, Ok, Err}
use Rattle.px_filter.specs.Expression.{Expression}
use Rattle.px_filter.specs.Parsing.{parse, place_of}
use Rattle.px_filter.specs.Shown.{shown}
use Rattle.px_filter.specs.declared.filter.FilterError.{FilterError}
use Rattle.px_filter.specs.declared.filter.FilterError.TheVariants as errors
use Rattle.px_words.specs.Converts.{CopiesFile, Taken}
use Rattle.px_words.specs.Lines.{bad_filter}
use Rattle.px_words.specs.Outside.{IsTold, Outside}
use Rattle.px_words.specs.Picks.{Picked, PicksFile, picked, refused, unjudged}
use Rattle.px_words.proofs.PrintLemmas.{writes_none}
use Rattle.px_words.proofs.ToldLemmas.{told_nothing}

module _ (same out appends notes : Type 0) (path text to : List ℕ) (before after : Outside) (status : ℕ) where
  -- there is no filter: the text is none, or memory ran out
  pub none_picked : (why : FilterError) → (why ≡ errors.NoMemory) ⊎ (parse text ≡ Err why) → same → after.files ≡ before.files → (status ≡ 2) ⊎ (status ≡ 8) →
      (why ≡ errors.NoMemory → (status ≡ 8) × ((after.written ≡ before.written) × (after.noted ≡ before.noted))) →
      IsTold out status (bad_filter (place_of why)) before.written after.written → IsTold notes status (shown text (place_of why)) before.noted after.noted →
      (what : Picked) × PicksFile same out appends notes path text to what before after status
  none_picked why (inr is_none) is_same kept is memory printed noted =
      (refused why, record { net = is_same; picks = (is_none, record { is = is; net = is_same; kept = kept; prints = printed; notes = noted }) })
  none_picked why (inl wants) is_same kept is memory printed noted =
      let told = memory wants in (
        unjudged,
        record {
          net = is_same;
          picks = record {
            is = inl told.0;
            net = is_same;
            kept = kept;
            prints = told_nothing out status before.written after.written (writes_none before.written after.written told.1.0);
            notes = told_nothing notes status before.noted after.noted (writes_none before.noted after.noted told.1.1);
          };
        },
      )

  -- there is one
  pub some_picked : (expression : Expression) → parse text ≡ Ok expression → same → (what : Taken) × CopiesFile same out appends notes (Some expression) path to what before after status →
      (what : Picked) × PicksFile same out appends notes path text to what before after status
  some_picked expression parses is_same (what, copies) = (picked expression what, record { net = is_same; picks = (parses, copies) })
