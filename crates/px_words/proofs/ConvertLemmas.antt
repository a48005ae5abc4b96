-- What is put of the entries of a file, one behind the other.
use Rattle.std.proofs.Common.{◌≡◌, ◌≢◌, ◌≤◌, ◌⊎◌, inl, inr, ◌-◌, ℕ, Bool, true, false, List, [], ◌∷◌, ◌++◌, length, map, Option, Some, None, Result, Ok, Err, Vec, refl, sym, ap, ◌∙◌, subst, arith, append-nil, append_assoc}
use Rattle.std.specs.Prelude.{◌==◌, if◌then◌else◌}
use Rattle.std.specs.List.{flat_map}
use Rattle.std.proofs.lemmas.Grind.{flat_map-append}
use Rattle.std.proofs.lemmas.List.{map-append}
use Rattle.std.proofs.lemmas.List.Elements.{filter-append}
use Rattle.px_outside.specs.Files.{Contents, SameContents, Told}
use Rattle.px_outside.specs.declared.files.FileCall.TheVariants.{Read}
use Rattle.px_core.specs.Answers.{FilesMeaning}
use Rattle.px_map.specs.Reads.{Made}
use Rattle.px_addons.specs.Mapped.{seen_of}
use Rattle.px_filter.specs.Expression.{Expression}
use Rattle.px_flowfile.specs.Reader.{BeginsWith}
use Rattle.px_flowfile.specs.declared.entry.Entry.{Entry}
use Rattle.px_words.specs.Appends.{Append, IsKept, IsLost, Piece, lost, piece_at, put}
use Rattle.px_words.specs.Converts.{AreMade, Copies, CopiesFile, LostAt, Taken, entry_texts, fits, nothing_made, nothing_taken, one_made, pieces_for, taken, chosen_by, takes_of, was_absent, was_unread}
use Rattle.px_words.specs.ConvertTurns.{AppendsSo, CopiesAll, CopiesOne, LosesOne, StopsCopying, is_chosen, texts_in}
use Rattle.px_words.specs.FlowFile.{HasEntries, no_entry}
use Rattle.px_words.specs.Lines.{bad_flow_file}
use Rattle.px_words.specs.Outside.{IsTold, Outside}
use Rattle.px_words.specs.Takes.{StopsUnread}
use Rattle.px_words.specs.Whole.{HasBadPlace, made_code}
use Rattle.px_words.specs.declared.whole.Unfinished.{Unfinished}
use Rattle.px_words.specs.declared.whole.Unfinished.TheVariants as breaks
use Rattle.px_words.proofs.PrintLemmas.{writes_none}
use Rattle.px_words.proofs.ToldLemmas.{told_none, told_nothing}
use Rattle.px_words.proofs.WholeLemmas.{entries_on}

-- ---- pieces

-- of no entries nothing is to be put
pieces_none : (choice : Option Expression) (to : List ℕ) → pieces_for choice to [] ≡ []
pieces_none None to = refl
pieces_none (Some expression) to = refl

chosen_more : (choice : Option Expression) (entries more : List Entry) → chosen_by choice (entries ++ more) ≡ chosen_by choice entries ++ chosen_by choice more
chosen_more None entries more = refl
chosen_more (Some expression) entries more = filter-append (fits expression) entries more

pieces_more : (choice : Option Expression) (to : List ℕ) (entries more : List Entry) → pieces_for choice to (entries ++ more) ≡ pieces_for choice to entries ++ pieces_for choice to more
pieces_more choice to entries more =
    let front = chosen_by choice entries in
    let behind = chosen_by choice more in
    ap (λ l. map (piece_at to) (flat_map entry_texts l)) (chosen_more choice entries more)
    ∙ (ap (map (piece_at to)) (flat_map-append entry_texts front behind) ∙ map-append (piece_at to) (flat_map entry_texts front) (flat_map entry_texts behind))

put_more : (choice : Option Expression) (to : List ℕ) (entries more : List Entry) →
    map put (pieces_for choice to (entries ++ more)) ≡ map put (pieces_for choice to entries) ++ map put (pieces_for choice to more)
put_more choice to entries more = ap (map put) (pieces_more choice to entries more) ∙ map-append put (pieces_for choice to entries) (pieces_for choice to more)

-- an entry that is taken has the pieces that it has without a filter, and one that is not has none
one_chosen : (choice : Option Expression) (to : List ℕ) (entry : Entry) → is_chosen choice entry.flow ≡ true → pieces_for choice to (entry ∷ []) ≡ pieces_for None to (entry ∷ [])
one_chosen None to entry fit = refl
one_chosen (Some expression) to entry fit = ap (λ l. map (piece_at to) (flat_map entry_texts l)) (by (fits expression entry) fit)
  where
    by : (b : Bool) → b ≡ true → (if b then entry ∷ [] else []) ≡ entry ∷ []
    by true is = refl
    by false is = absurd (cc)

one_left : (choice : Option Expression) (to : List ℕ) (entry : Entry) → is_chosen choice entry.flow ≡ false → pieces_for choice to (entry ∷ []) ≡ []
one_left None to entry left = absurd (cc)
one_left (Some expression) to entry left = ap (λ l. map (piece_at to) (flat_map entry_texts l)) (by (fits expression entry) left)
  where
    by : (b : Bool) → b ≡ false → (if b then entry ∷ [] else []) ≡ []
    by true is = absurd (cc)
    by false is = refl

-- the piece of an entry's text
pieces_of : (to : List ℕ) (entry : Entry) (texts : List (List ℕ)) → entry_texts entry ≡ texts → pieces_for None to (entry ∷ []) ≡ map (piece_at to) texts
pieces_of to entry texts is = ap (map (piece_at to)) (append-nil (entry_texts entry) ∙ is)

-- ---- appends

-- appends behind appends
made_more : (first mid last : FilesMeaning) (made more : List Append) → AreMade first made mid → AreMade mid more last → AreMade first (made ++ more) last
made_more first mid last made more before nothing_made =
    let P : List Append → Type 0 = λ l. AreMade first l mid in
    subst P (sym (append-nil made)) before
made_more first mid last made more before (one_made so_far next one old new behind is grown) =
    one_made (made ++ so_far) (made ++ next) one old new (made_more first mid old made so_far before behind) is (ap (λ l. made ++ l) grown ∙ sym (append_assoc made so_far (one ∷ [])))

told_same : (contents : Option Contents) → Told SameContents contents contents
told_same None = refl
told_same (Some contents) = (contents, refl, λ path. refl)

-- no file changed
pub kept_same : (files : FilesMeaning) → IsKept files files
kept_same files = record { contents = told_same files.contents; calls = refl; misses = refl; faults = refl; losses = omega arith }

-- ---- one entry

-- its text is this one
pub text_is : {A : Type 0} (texts : List (List ℕ)) (came : Option (Vec ℕ A)) (vec : Vec ℕ A) (text : List ℕ) → texts ≡ texts_in came → came ≡ Some vec → text ≡ vec.items → texts ≡ text ∷ []
text_is texts came vec text is some same = is ∙ (ap texts_in some ∙ ap (λ t. t ∷ []) (sym same))

pub no_text : {A : Type 0} (texts : List (List ℕ)) (came : Option (Vec ℕ A)) → texts ≡ texts_in came → came ≡ None → texts ≡ []
no_text texts came is none = is ∙ ap texts_in none

-- its text was appended so
pub copies_text : {T : Type 0} (failed : Type 0) (to text : List ℕ) (entry : Entry) (before after : FilesMeaning) (result : Result T Unfinished) → entry_texts entry ≡ text ∷ [] →
    AppendsSo failed (piece_at to text) before after result → CopiesOne failed None to entry before after result
copies_text failed to text entry before after (Ok _) is came =
    let P : List Piece → Type 0 = λ l. AreMade before (map put l) after in
    subst P (sym (pieces_of to entry (text ∷ []) is)) (one_made [] (put (piece_at to text) ∷ []) (put (piece_at to text)) before after nothing_made came refl)
copies_text failed to text entry before after (Err breaks.Failed) is came = (came.0, piece_at to text, pieces_of to entry (text ∷ []) is, came.1)
copies_text failed to text entry before after (Err breaks.NoMemory) is came = came

-- it has none
pub copies_none : (to : List ℕ) (entry : Entry) (files : FilesMeaning) → entry_texts entry ≡ [] → AreMade files (map put (pieces_for None to (entry ∷ []))) files
copies_none to entry files is =
    let P : List Piece → Type 0 = λ l. AreMade files (map put l) files in
    subst P (sym (pieces_of to entry [] is)) nothing_made

-- it is taken, or it is not
pub copies_chosen : {T : Type 0} (failed : Type 0) (choice : Option Expression) (to : List ℕ) (entry : Entry) (before after : FilesMeaning) (result : Result T Unfinished) → is_chosen choice entry.flow ≡ true →
    CopiesOne failed None to entry before after result → CopiesOne failed choice to entry before after result
copies_chosen failed choice to entry before after (Ok _) fit came =
    let P : List Piece → Type 0 = λ l. AreMade before (map put l) after in
    subst P (sym (one_chosen choice to entry fit)) came
copies_chosen failed choice to entry before after (Err breaks.Failed) fit (rose, piece, is, gone) = (rose, piece, one_chosen choice to entry fit ∙ is, gone)
copies_chosen failed choice to entry before after (Err breaks.NoMemory) fit came = came

pub copies_left : (choice : Option Expression) (to : List ℕ) (entry : Entry) (files : FilesMeaning) → is_chosen choice entry.flow ≡ false → AreMade files (map put (pieces_for choice to (entry ∷ []))) files
copies_left choice to entry files left =
    let P : List Piece → Type 0 = λ l. AreMade files (map put l) files in
    subst P (sym (one_left choice to entry left)) nothing_made

-- ---- one behind the other

-- all that is to be put of these entries was put
pub record CopiedSoFar (choice : Option Expression) (to bytes rest : List ℕ) (before now : FilesMeaning) : Type 0 where
  pub entries : List Entry
  pub has : HasEntries bytes entries rest
  pub appends : AreMade before (map put (pieces_for choice to entries)) now

pub copied_none : (choice : Option Expression) (to bytes rest : List ℕ) (before : FilesMeaning) → rest ≡ bytes → CopiedSoFar choice to bytes rest before before
copied_none choice to bytes rest before all = record {
  entries = [];
  has = subst (λ r. HasEntries bytes [] r) (sym all) no_entry;
  appends =
      let P : List Piece → Type 0 = λ l. AreMade before (map put l) before in
      subst P (sym (pieces_none choice to)) nothing_made;
}

pub copied_more : (choice : Option Expression) (to bytes rest next : List ℕ) (before now after : FilesMeaning) (entry : Entry) → CopiedSoFar choice to bytes rest before now → BeginsWith entry rest next →
    AreMade now (map put (pieces_for choice to (entry ∷ []))) after → CopiedSoFar choice to bytes next before after
copied_more choice to bytes rest next before now after entry copied begins one = record {
  entries = copied.entries ++ entry ∷ [];
  has = entries_on bytes rest next copied.entries entry copied.has begins;
  appends =
      let P : List Append → Type 0 = λ l. AreMade before l after in
      subst P (sym (put_more choice to copied.entries (entry ∷ []))) (made_more before now after (map put (pieces_for choice to copied.entries)) (map put (pieces_for choice to (entry ∷ []))) copied.appends one);
}

pub copied_all : (choice : Option Expression) (to bytes rest : List ℕ) (before now : FilesMeaning) → CopiedSoFar choice to bytes rest before now → rest ≡ [] →
    (entries : List Entry) × HasEntries bytes entries [] × AreMade before (map put (pieces_for choice to entries)) now
copied_all choice to bytes rest before now copied none = (copied.entries, subst (λ r. HasEntries bytes copied.entries r) none copied.has, copied.appends)

-- memory ran out behind them
pub copied_stop : (choice : Option Expression) (to bytes rest : List ℕ) (before now after : FilesMeaning) → CopiedSoFar choice to bytes rest before now → IsKept now after → StopsCopying choice to bytes before after
copied_stop choice to bytes rest before now after copied kept = record { entries = copied.entries; behind = rest; has = copied.has; last = now; appends = copied.appends; kept = kept }

-- the next entry did not come to its end
pub copied_break : (T mid failed : Type 0) (choice : Option Expression) (to bytes rest next : List ℕ) (before now after : FilesMeaning) (entry : Entry) (why : Unfinished) → CopiedSoFar choice to bytes rest before now →
    BeginsWith entry rest next → CopiesOne {T = T} mid choice to entry now after (Err why) → (mid → failed) → CopiesAll {T = T} failed choice to bytes before after (Err why)
copied_break T mid failed choice to bytes rest next before now after entry breaks.Failed copied begins (rose, piece, is, gone) wider = (
  wider rose,
  record {
    entries = copied.entries ++ entry ∷ [];
    behind = next;
    has = entries_on bytes rest next copied.entries entry copied.has begins;
    made = map put (pieces_for choice to copied.entries) ++ lost piece ∷ [];
    lost = record { front = copied.entries; entry = entry; piece = piece; split = refl; text = is; appends = refl };
    appends = one_made (map put (pieces_for choice to copied.entries)) (map put (pieces_for choice to copied.entries) ++ lost piece ∷ []) (lost piece) now after copied.appends gone refl;
  },
)
copied_break T mid failed choice to bytes rest next before now after entry breaks.NoMemory copied begins kept wider = copied_stop choice to bytes rest before now after copied kept

-- ---- the ends of a run

no_status : {n : ℕ} (m k : ℕ) → (m ≡ k → ⊥) → n ≡ m → n ≡ k → ⊥
no_status m k apart is other = apart (sym is ∙ other)

copies_by : {T : Type 0} (out_failed append_failed : Type 0) (choice : Option Expression) (path to bytes : List ℕ) (read after : FilesMeaning) (start : Option (List ℕ)) (result : Result T Unfinished) →
    CopiesAll append_failed choice to bytes read after result → Copies out_failed append_failed choice path to bytes read after start start (made_code result)
copies_by out_failed append_failed choice path to bytes read after start (Ok _) (entries, has, appends) = record {
  entries = entries;
  behind = [];
  has = has;
  statuses = inl refl;
  made = map put (pieces_for choice to entries);
  last = after;
  appends = appends;
  kept = inl refl;
  ended = λ _. (refl, refl);
  bad = λ (e : 0 ≡ 4). absurd (omega arith);
  lost_one = λ (e : 0 ≡ 7). absurd (omega arith);
  part = λ (e : 0 ≡ 8). absurd (omega arith);
  ends = told_nothing out_failed 0 start start (writes_none start start refl);
}
copies_by out_failed append_failed choice path to bytes read after start (Err breaks.Failed) (rose, loses) = record {
  entries = loses.entries;
  behind = loses.behind;
  has = loses.has;
  statuses = inr (inr (inl refl));
  made = loses.made;
  last = after;
  appends = loses.appends;
  kept = inl refl;
  ended = λ (e : 7 ≡ 0). absurd (omega arith);
  bad = λ (e : 7 ≡ 4). absurd (omega arith);
  lost_one = λ _. (rose, loses.lost);
  part = λ (e : 7 ≡ 8). absurd (omega arith);
  ends = told_nothing out_failed 7 start start (writes_none start start refl);
}
copies_by out_failed append_failed choice path to bytes read after start (Err breaks.NoMemory) stops = record {
  entries = stops.entries;
  behind = stops.behind;
  has = stops.has;
  statuses = inr (inr (inr refl));
  made = map put (pieces_for choice to stops.entries);
  last = stops.last;
  appends = stops.appends;
  kept = inr (refl, stops.kept);
  ended = λ (e : 8 ≡ 0). absurd (omega arith);
  bad = λ (e : 8 ≡ 4). absurd (omega arith);
  lost_one = λ (e : 8 ≡ 7). absurd (omega arith);
  part = λ _. ([], sym (append-nil (map put (pieces_for choice to stops.entries))));
  ends = told_none out_failed [] start start refl;
}

pub copies_status : {T : Type 0} (out_failed append_failed : Type 0) (choice : Option Expression) (path to bytes : List ℕ) (read after : FilesMeaning) (start : Option (List ℕ)) (result : Result T Unfinished) (status : ℕ) →
    status ≡ made_code result → CopiesAll append_failed choice to bytes read after result → Copies out_failed append_failed choice path to bytes read after start start status
copies_status out_failed append_failed choice path to bytes read after start result status is copies =
    subst (λ s. Copies out_failed append_failed choice path to bytes read after start start s) (sym is) (copies_by out_failed append_failed choice path to bytes read after start result copies)

-- nothing was appended: memory ran out, or a bad place stands there
pub copies_nothing : (out_failed append_failed : Type 0) (choice : Option Expression) (path to bytes : List ℕ) (read : FilesMeaning) (start : Option (List ℕ)) → Copies out_failed append_failed choice path to bytes read read start start 8
copies_nothing out_failed append_failed choice path to bytes read start = record {
  entries = [];
  behind = bytes;
  has = no_entry;
  statuses = inr (inr (inr refl));
  made = [];
  last = read;
  appends = nothing_made;
  kept = inl refl;
  ended = λ (e : 8 ≡ 0). absurd (omega arith);
  bad = λ (e : 8 ≡ 4). absurd (omega arith);
  lost_one = λ (e : 8 ≡ 7). absurd (omega arith);
  part = λ _. (map put (pieces_for choice to []), refl);
  ends = told_none out_failed [] start start refl;
}

pub copies_bad : (out_failed append_failed : Type 0) (choice : Option Expression) (path to bytes : List ℕ) (offset : ℕ) (read : FilesMeaning) (start now : Option (List ℕ)) (status : ℕ) → HasBadPlace bytes offset →
    (status ≡ 4) ⊎ (status ≡ 8) → IsTold out_failed status (if status == 4 then bad_flow_file path offset else []) start now → Copies out_failed append_failed choice path to bytes read read start now status
copies_bad out_failed append_failed choice path to bytes offset read start now status there either told = record {
  entries = there.entries;
  behind = there.behind;
  has = there.has;
  statuses = inr (statuses either);
  made = [];
  last = read;
  appends = nothing_made;
  kept = inl refl;
  ended = λ zero. absurd (not_other either 0 zero (omega arith) (omega arith));
  bad = λ _. (there.bad, refl);
  lost_one = λ seven. absurd (not_other either 7 seven (omega arith) (omega arith));
  part = λ _. (map put (pieces_for choice to there.entries), refl);
  ends =
      let P : ℕ → Type 0 = λ n. IsTold out_failed status (if status == 4 then bad_flow_file path n else []) start now in
      subst P there.at told;
}
  where
    statuses : (status ≡ 4) ⊎ (status ≡ 8) → (status ≡ 4) ⊎ ((status ≡ 7) ⊎ (status ≡ 8))
    statuses (inl four) = inl four
    statuses (inr eight) = inr (inr eight)

    not_other : (status ≡ 4) ⊎ (status ≡ 8) → (n : ℕ) → status ≡ n → n ≢ 4 → n ≢ 8 → ⊥
    not_other (inl four) n is no_four no_eight = no_four (sym is ∙ four)
    not_other (inr eight) n is no_four no_eight = no_eight (sym is ∙ eight)

-- ---- what came of the file

module _ (same out appends notes : Type 0) (choice : Option Expression) (path to : List ℕ) (before after : Outside) (status : ℕ) where
  -- it was not read
  unread_by : same → (what : Taken) → Made (takes_of path what) (seen_of before.files) (seen_of after.files) → StopsUnread same out notes path what after.files before after status →
      CopiesFile same out appends notes choice path to what before after status
  unread_by is_same nothing_taken made stops = record { read = after.files; net = is_same; reads = made; copies = stops }
  unread_by is_same was_absent made stops = record { read = after.files; net = is_same; reads = made; copies = stops }
  unread_by is_same was_unread made stops = record { read = after.files; net = is_same; reads = made; copies = stops }
  unread_by is_same (taken bytes) made stops = absurd stops

  pub not_taken : same → (what : Taken) × Made (takes_of path what) (seen_of before.files) (seen_of after.files) × StopsUnread same out notes path what after.files before after status →
      (what : Taken) × CopiesFile same out appends notes choice path to what before after status
  not_taken is_same (what, made, stops) = (what, unread_by is_same what made stops)

  -- these bytes were read
  pub is_taken : (bytes : List ℕ) (read : FilesMeaning) → same → Made (Read path bytes ∷ []) (seen_of before.files) (seen_of read) →
      Copies out appends choice path to bytes read after.files before.written after.written status → after.noted ≡ before.noted →
      (what : Taken) × CopiesFile same out appends notes choice path to what before after status
  is_taken bytes read is_same made copies silent = (taken bytes, record { read = read; net = is_same; reads = made; copies = (copies, silent) })
