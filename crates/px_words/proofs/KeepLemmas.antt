-- What stood in a file before its appends is in front of it behind them.
use Rattle.std.proofs.Common.{◌≡◌, ◌⊎◌, inl, inr, ℕ, List, [], ◌∷◌, ◌++◌, map, Option, Some, None, refl, sym, ap, ◌∙◌, subst, append-nil, append_assoc}
use Rattle.std.specs.Prelude.{unwrap_or}
use Rattle.std.specs.List.{flat_map}
use Rattle.px_filter.specs.Expression.{Expression}
use Rattle.px_flowfile.specs.declared.entry.Entry.{Entry}
use Rattle.px_outside.specs.Files.{Appends, AppendsPart, Contents, SameContents, Told}
use Rattle.px_core.specs.Answers.{FilesMeaning}
use Rattle.px_words.specs.Appends.{Append, IsKept, IsMade, lost, piece_at, piece_in, put}
use Rattle.px_words.specs.Converts.{AreMade, Copies, CopiesFile, LostAt, Taken, entry_texts, nothing_made, nothing_taken, one_made, taken, chosen_by, was_absent, was_unread}
use Rattle.px_words.specs.Keeps.{KeepsFront}
use Rattle.px_words.specs.Outside.{Outside}
use Rattle.px_words.specs.Picks.{Picked, PicksFile, picked, refused, unjudged}

-- ---- one file's contents

same_keeps : (path : List ℕ) (old new : Contents) → SameContents old new → KeepsFront path old new
same_keeps path old new same = record {
  front = ([], ap (λ o. unwrap_or o []) (same path) ∙ sym (append-nil (unwrap_or (old path) [])));
  there = λ was none. was (sym (same path) ∙ none);
  others = λ other apart. same other;
}

never_none : (bytes : List ℕ) (now : Option (List ℕ)) → now ≡ Some bytes → now ≡ None → ⊥
never_none bytes now some none = let e : Some bytes ≡ None = sym some ∙ none in cc

appends_keeps : (path bytes : List ℕ) (old new : Contents) → Appends path bytes old new → KeepsFront path old new
appends_keeps path bytes old new appends = record {
  front = (bytes, ap (λ o. unwrap_or o []) appends.grown);
  there = λ was none. never_none (unwrap_or (old path) [] ++ bytes) (new path) appends.grown none;
  others = appends.others;
}

part_keeps : (path bytes : List ℕ) (old new : Contents) → AppendsPart path bytes old new → KeepsFront path old new
part_keeps path bytes old new appends = by appends.grown
  where
    by : (new path ≡ Some (unwrap_or (old path) [] ++ appends.part)) ⊎ ((appends.part ≡ []) × (new path ≡ old path)) → KeepsFront path old new
    by (inl grown) = record {
      front = (appends.part, ap (λ o. unwrap_or o []) grown);
      there = λ was none. never_none (unwrap_or (old path) [] ++ appends.part) (new path) grown none;
      others = appends.others;
    }
    by (inr (empty, same)) = record {
      front = ([], ap (λ o. unwrap_or o []) same ∙ sym (append-nil (unwrap_or (old path) [])));
      there = λ was none. was (sym same ∙ none);
      others = appends.others;
    }

keeps_both : (path : List ℕ) (a b c : Contents) → KeepsFront path a b → KeepsFront path b c → KeepsFront path a c
keeps_both path a b c first second = record {
  front = (
    first.front.0 ++ second.front.0,
    second.front.1 ∙ (ap (λ l. l ++ second.front.0) first.front.1 ∙ append_assoc (unwrap_or (a path) []) first.front.0 second.front.0),
  );
  there = λ was. second.there (first.there was);
  others = λ other apart. second.others other apart ∙ first.others other apart;
}

-- ---- contents that are told, or not

told_by : (One Other : Contents → Contents → Type 0) (old new : Option Contents) → ((a b : Contents) → One a b → Other a b) → Told One old new → Told Other old new
told_by One Other None new leads told = told
told_by One Other (Some old) new leads (now, is, one) = (now, is, leads old now one)

told_both : (path : List ℕ) (a b c : Option Contents) → Told (KeepsFront path) a b → Told (KeepsFront path) b c → Told (KeepsFront path) a c
told_both path None b c first second =
    let P : Option Contents → Type 0 = λ o. Told (KeepsFront path) o c in
    subst P first second
told_both path (Some old) b c (middle, is, keeps) second =
    let P : Option Contents → Type 0 = λ o. Told (KeepsFront path) o c in
    let on = subst P is second in (on.0, on.1, keeps_both path old middle on.0 keeps on.2)

told_same : (path : List ℕ) (contents : Option Contents) → Told (KeepsFront path) contents contents
told_same path None = refl
told_same path (Some contents) = (contents, refl, same_keeps path contents contents (λ other. refl))

-- ---- appends to one file

abbrev AllAt : List ℕ → List Append → Type 0
AllAt to [] = Unit {0}
AllAt to (one ∷ made) = ((piece_in one).path ≡ to) × AllAt to made

all_put : (to : List ℕ) (texts : List (List ℕ)) → AllAt to (map put (map (piece_at to) texts))
all_put to [] = tt
all_put to (text ∷ texts) = (refl, all_put to texts)

all_front : (to : List ℕ) (made more : List Append) → AllAt to (made ++ more) → AllAt to made
all_front to [] more all = tt
all_front to (one ∷ made) more all = (all.0, all_front to made more all.1)

all_last : (to : List ℕ) (made : List Append) (one : Append) → AllAt to (made ++ one ∷ []) → (piece_in one).path ≡ to
all_last to [] one all = all.0
all_last to (first ∷ made) one all = all_last to made one all.1

all_more : (to : List ℕ) (made : List Append) (one : Append) → AllAt to made → (piece_in one).path ≡ to → AllAt to (made ++ one ∷ [])
all_more to [] one all at = (at, tt)
all_more to (first ∷ made) one all at = (all.0, all_more to made one all.1 at)

one_keeps : (to : List ℕ) (one : Append) (before after : FilesMeaning) → (piece_in one).path ≡ to → IsMade one before after → Told (KeepsFront to) before.contents after.contents
one_keeps to (put piece) before after at made =
    let P : List ℕ → Type 0 = λ p. Told (KeepsFront p) before.contents after.contents in
    subst P at (told_by (Appends piece.path piece.text) (KeepsFront piece.path) before.contents after.contents (appends_keeps piece.path piece.text) made.contents)
one_keeps to (lost piece) before after at made =
    let P : List ℕ → Type 0 = λ p. Told (KeepsFront p) before.contents after.contents in
    subst P at (told_by (AppendsPart piece.path piece.text) (KeepsFront piece.path) before.contents after.contents (part_keeps piece.path piece.text) made.contents)

made_keeps : (to : List ℕ) (first last : FilesMeaning) (made : List Append) → AreMade first made last → AllAt to made → Told (KeepsFront to) first.contents last.contents
made_keeps to first last made nothing_made all = told_same to first.contents
made_keeps to first last made (one_made so_far next one old new behind is grown) all =
    let P : List Append → Type 0 = λ l. AllAt to l in
    let whole = subst P grown all in
    told_both to first.contents old.contents new.contents (made_keeps to first old so_far behind (all_front to so_far (one ∷ []) whole)) (one_keeps to one old new (all_last to so_far one whole) is)

-- ---- a run that copies

all_for : (choice : Option Expression) (to : List ℕ) (entries : List Entry) → AllAt to (map put (map (piece_at to) (flat_map entry_texts (chosen_by choice entries))))
all_for choice to entries = all_put to (flat_map entry_texts (chosen_by choice entries))

all_lost : (choice : Option Expression) (to : List ℕ) (entries : List Entry) (made : List Append) → LostAt choice to entries made → AllAt to made
all_lost choice to entries made loss =
    let P : List Append → Type 0 = λ l. AllAt to l in
    let at = subst P (ap (map put) loss.text) (all_for choice to (loss.entry ∷ [])) in
    subst P (sym loss.appends) (all_more to (map put (map (piece_at to) (flat_map entry_texts (chosen_by choice loss.front)))) (lost loss.piece) (all_for choice to loss.front) at.0)

module _ (out appends : Type 0) (choice : Option Expression) (path to bytes : List ℕ) (read after : FilesMeaning) (start now : Option (List ℕ)) (status : ℕ) where
  all_copied : (copies : Copies out appends choice path to bytes read after start now status) → AllAt to copies.made
  all_copied copies = by copies.statuses
    where
      by : (status ≡ 0) ⊎ ((status ≡ 4) ⊎ ((status ≡ 7) ⊎ (status ≡ 8))) → AllAt to copies.made
      by (inl zero) =
          let P : List Append → Type 0 = λ l. AllAt to l in
          subst P (sym (copies.ended zero).1) (all_for choice to copies.entries)
      by (inr (inl four)) =
          let P : List Append → Type 0 = λ l. AllAt to l in
          subst P (sym (copies.bad four).1) tt
      by (inr (inr (inl seven))) = all_lost choice to copies.entries copies.made (copies.lost_one seven).1
      by (inr (inr (inr eight))) =
          let P : List Append → Type 0 = λ l. AllAt to l in
          let part = copies.part eight in all_front to copies.made part.0 (subst P part.1 (all_for choice to copies.entries))

  copies_keep : Copies out appends choice path to bytes read after start now status → Told (KeepsFront to) read.contents after.contents
  copies_keep copies = by copies.kept
    where
      until : Told (KeepsFront to) read.contents copies.last.contents
      until = made_keeps to read copies.last copies.made copies.appends (all_copied copies)

      by : (after ≡ copies.last) ⊎ ((status ≡ 8) × IsKept copies.last after) → Told (KeepsFront to) read.contents after.contents
      by (inl same) =
          let P : FilesMeaning → Type 0 = λ f. Told (KeepsFront to) read.contents f.contents in
          subst P (sym same) until
      by (inr (eight, kept)) =
          told_both to read.contents copies.last.contents after.contents until (told_by SameContents (KeepsFront to) copies.last.contents after.contents (same_keeps to) kept.contents)

module _ (same out appends notes : Type 0) (path to : List ℕ) (before after : Outside) (status : ℕ) where
  abbrev pub Kept : Type 0
  Kept = Told (KeepsFront to) before.files.contents after.files.contents

  -- the run of one file
  pub file_keeps : (choice : Option Expression) (what : Taken) → CopiesFile same out appends notes choice path to what before after status → Kept
  file_keeps choice what copied = told_both to before.files.contents copied.read.contents after.files.contents reads (behind what copied)
    where
      reads : Told (KeepsFront to) before.files.contents copied.read.contents
      reads = told_by SameContents (KeepsFront to) before.files.contents copied.read.contents (same_keeps to) copied.reads.contents

      unread : (read : FilesMeaning) → after.files ≡ read → Told (KeepsFront to) read.contents after.files.contents
      unread read kept =
          let P : FilesMeaning → Type 0 = λ f. Told (KeepsFront to) f.contents after.files.contents in
          subst P kept (told_same to after.files.contents)

      behind : (what : Taken) (copied : CopiesFile same out appends notes choice path to what before after status) → Told (KeepsFront to) copied.read.contents after.files.contents
      behind nothing_taken copied = unread copied.read copied.copies.kept
      behind was_absent copied = unread copied.read copied.copies.kept
      behind was_unread copied = unread copied.read copied.copies.kept
      behind (taken bytes) copied = copies_keep out appends choice path to bytes copied.read after.files before.written after.written status copied.copies.0

  -- nothing was done to files
  untouched : after.files ≡ before.files → Kept
  untouched kept =
      let P : FilesMeaning → Type 0 = λ f. Told (KeepsFront to) before.files.contents f.contents in
      subst P (sym kept) (told_same to before.files.contents)

  -- the run of a file by a filter
  pub pick_keeps : (text : List ℕ) (what : Picked) → PicksFile same out appends notes path text to what before after status → Kept
  pick_keeps text (refused why) picks = untouched picks.picks.1.kept
  pick_keeps text unjudged picks = untouched picks.picks.kept
  pick_keeps text (picked expression what) picks = file_keeps (Some expression) what picks.picks.1
