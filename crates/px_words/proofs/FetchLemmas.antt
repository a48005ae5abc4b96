-- What came of the filter and of the file.
use Rattle.std.proofs.Common.{◌≡◌, ◌⊎◌, inl, inr, ℕ, List, [], ◌∷◌, Option, Ok, Err, refl, sym, subst}
use Rattle.px_outside.specs.declared.files.FileCall.TheVariants.{Read}
use Rattle.px_filter.specs.Expression.{Expression}
use Rattle.px_filter.specs.Parsing.{parse, place_of}
use Rattle.px_filter.specs.Shown.{shown}
use Rattle.px_filter.specs.declared.filter.FilterError.{FilterError}
use Rattle.px_filter.specs.declared.filter.FilterError.TheVariants as errors
use Rattle.px_core.specs.Answers.{FilesMeaning}
use Rattle.px_map.specs.Reads.{Made}
use Rattle.px_map.proofs.ReadsLemmas.{made_none}
use Rattle.px_addons.specs.Mapped.{seen_of}
use Rattle.px_words.specs.Converts.{Taken, nothing_taken, was_absent, was_unread, taken, takes_of}
use Rattle.px_words.specs.Flows.{Fetched, FetchesFile, no_filter, nothing_fetched, file_absent, file_unread, fetched}
use Rattle.px_words.specs.Lines.{bad_filter}
use Rattle.px_words.specs.Outside.{IsTold, Outside}
use Rattle.px_words.specs.Takes.{StopsUnread}
use Rattle.px_words.proofs.PrintLemmas.{writes_none}
use Rattle.px_words.proofs.ToldLemmas.{told_nothing}

module _ (same out notes : Type 0) (path text : List ℕ) (Prints : List ℕ → Expression → Option (List ℕ) → Option (List ℕ) → ℕ → Type 0) (before after : Outside) (status : ℕ) where
  -- the text is no filter
  pub not_filtered : (why : FilterError) → parse text ≡ Err why → same → after.files ≡ before.files → (status ≡ 2) ⊎ (status ≡ 8) →
      IsTold out status (bad_filter (place_of why)) before.written after.written → IsTold notes status (shown text (place_of why)) before.noted after.noted →
      (what : Fetched) × FetchesFile same out notes path text Prints what before after status
  not_filtered why refuses is_same kept is printed noted = (
    no_filter why,
    record {
      net = is_same;
      reads = let P : FilesMeaning → Type 0 = λ f. Made [] (seen_of before.files) (seen_of f) in subst P (sym kept) (made_none (seen_of before.files));
      comes = (refuses, record { is = is; net = is_same; kept = kept; prints = printed; notes = noted });
      silent = λ bytes expression (e : no_filter why ≡ fetched bytes expression). absurd (cc);
    },
  )

  -- memory ran out before there was one
  not_fetched : same → after.files ≡ before.files → status ≡ 8 → after.written ≡ before.written → after.noted ≡ before.noted →
      (what : Fetched) × FetchesFile same out notes path text Prints what before after status
  not_fetched is_same kept eight quiet silent = (
    nothing_fetched,
    record {
      net = is_same;
      reads = let P : FilesMeaning → Type 0 = λ f. Made [] (seen_of before.files) (seen_of f) in subst P (sym kept) (made_none (seen_of before.files));
      comes = record {
        is = inl eight;
        net = is_same;
        kept = refl;
        prints = told_nothing out status before.written after.written (writes_none before.written after.written quiet);
        notes = told_nothing notes status before.noted after.noted (writes_none before.noted after.noted silent);
      };
      silent = λ bytes expression (e : nothing_fetched ≡ fetched bytes expression). absurd (cc);
    },
  )

  -- there is no filter: the text is none, or memory ran out
  pub no_filter_made : (why : FilterError) → (why ≡ errors.NoMemory) ⊎ (parse text ≡ Err why) → same → after.files ≡ before.files → (status ≡ 2) ⊎ (status ≡ 8) →
      (why ≡ errors.NoMemory → (status ≡ 8) × ((after.written ≡ before.written) × (after.noted ≡ before.noted))) →
      IsTold out status (bad_filter (place_of why)) before.written after.written → IsTold notes status (shown text (place_of why)) before.noted after.noted →
      (what : Fetched) × FetchesFile same out notes path text Prints what before after status
  no_filter_made why (inr refuses) is_same kept is memory printed noted = not_filtered why refuses is_same kept is printed noted
  no_filter_made why (inl wants) is_same kept is memory printed noted = let none = memory wants in not_fetched is_same kept none.0 none.1.0 none.1.1

  -- the file was not read
  unread_by : (expression : Expression) → parse text ≡ Ok expression → same → (what : Taken) → Made (takes_of path what) (seen_of before.files) (seen_of after.files) →
      StopsUnread same out notes path what after.files before after status → (what : Fetched) × FetchesFile same out notes path text Prints what before after status
  unread_by expression parses is_same nothing_taken made stops = (
    nothing_fetched,
    record { net = is_same; reads = made; comes = stops; silent = λ bytes other (e : nothing_fetched ≡ fetched bytes other). absurd (cc) },
  )
  unread_by expression parses is_same was_absent made stops = (
    file_absent,
    record { net = is_same; reads = made; comes = ((expression, parses), stops); silent = λ bytes other (e : file_absent ≡ fetched bytes other). absurd (cc) },
  )
  unread_by expression parses is_same was_unread made stops = (
    file_unread,
    record { net = is_same; reads = made; comes = ((expression, parses), stops); silent = λ bytes other (e : file_unread ≡ fetched bytes other). absurd (cc) },
  )
  unread_by expression parses is_same (taken bytes) made stops = absurd stops

  pub not_read : (expression : Expression) → parse text ≡ Ok expression → same →
      (what : Taken) × Made (takes_of path what) (seen_of before.files) (seen_of after.files) × StopsUnread same out notes path what after.files before after status →
      (what : Fetched) × FetchesFile same out notes path text Prints what before after status
  not_read expression parses is_same (what, made, stops) = unread_by expression parses is_same what made stops

  -- these bytes were read
  pub is_there : (bytes : List ℕ) (expression : Expression) → parse text ≡ Ok expression → same → Made (Read path bytes ∷ []) (seen_of before.files) (seen_of after.files) →
      Prints bytes expression before.written after.written status → after.noted ≡ before.noted →
      (what : Fetched) × FetchesFile same out notes path text Prints what before after status
  is_there bytes expression parses is_same made printed silent = (
    fetched bytes expression,
    record {
      net = is_same;
      reads = made;
      comes = (parses, printed);
      silent = λ other more is. silent;
    },
  )
