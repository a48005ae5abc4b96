-- The file grows, where flows are saved, by what was appended over a run.
use Rattle.std.proofs.Common.{◌≡◌, inl, inr, ℕ, List, [], ◌∷◌, ◌++◌, map, Option, Some, None, unwrap_or, refl, sym, ap, ◌∙◌, subst, append_assoc}
use Rattle.std.proofs.lemmas.List.{append-nil}
use Rattle.px_text.specs.Prefix.{IsPrefixOf}
use Rattle.px_message.specs.declared.flow.Flow.{Flow}
use Rattle.px_event.specs.declared.ask.Hook.{Hook}
use Rattle.px_event.specs.Trace.{Trace}
use Rattle.px_outside.specs.Files.{Appends, AppendsPart, Contents, SameContents, Told}
use Rattle.px_core.specs.declared.answerer.Answer.{Answer}
use Rattle.px_core.specs.Answered.{Answers, LeavesFiles, Pending, at_change, at_edit, at_first, at_hook, at_mark, at_other, at_release, at_reply}
use Rattle.px_core.specs.Answers.{Answering, AnswererState, Failing, FilesMeaning}
use Rattle.px_core.specs.Course.{AllAre, Change, Course, KeepsOwn, Operated, change}
use Rattle.px_core.specs.Due.{Due}
use Rattle.px_core.specs.Kind.{KeepsFiles}
use Rattle.px_core.proofs.AnswerLemmas.{kept_after}
use Rattle.px_core.proofs.CourseLemmas.{begins_so, last_is, made_are}
use Rattle.px_app.specs.Grown.{AddsUp, AreOfFlows, Grown, GrowsBy, GrowsUnder, texts}
use Rattle.px_app.specs.Over.{Goes, LeavesBehind, SavedOver, all_saved, course_from, drops_one, goes_answer, goes_append, goes_drop, goes_none, is_broken, is_cut, left_by_answer, left_by_append, left_whole, nothing_yet, stays_cut}
use Rattle.px_app.specs.Saved.{Appending, BrokeAppending, SavesTo, broke_at, broke_elsewhere, none_made, one_made}
use Rattle.px_words.specs.Appends.{Append, IsMade, Piece, lost, piece_in, put}
use Rattle.px_app.specs.declared.printing.Printing.{Printing}
use Rattle.px_app.specs.declared.printing.Printing.TheVariants.{Whole, Failed}
use Rattle.px_app.proofs.TouchedLemmas.{saved_at}

-- ---- lists

pub adds_both : (xs ys : List Append) (a b : List ℕ) → AddsUp xs a → AddsUp ys b → AddsUp (xs ++ ys) (a ++ b)
adds_both [] ys a b first second = subst (λ l. AddsUp ys (l ++ b)) (sym first) second
adds_both (put piece ∷ xs) ys a b (more, is, rest) second =
    (more ++ b, ap (λ l. l ++ b) is ∙ append_assoc piece.text more b, adds_both xs ys more b rest second)
adds_both (lost piece ∷ xs) ys a b (part, more, prefix, is, rest) second =
    (part, more ++ b, prefix, ap (λ l. l ++ b) is ∙ append_assoc part more b, adds_both xs ys more b rest second)

-- where all were put it is their texts
pub adds_all : (pieces : List Piece) (added : List ℕ) → AddsUp (map put pieces) added → added ≡ texts pieces
adds_all [] added is = is
adds_all (piece ∷ pieces) added (more, is, rest) = is ∙ ap (λ l. piece.text ++ l) (adds_all pieces more rest)

-- and where the last was lost, a prefix of its text behind them
pub adds_lost : (pieces : List Piece) (piece : Piece) (added : List ℕ) → AddsUp (map put pieces ++ lost piece ∷ []) added →
    (part : List ℕ) × IsPrefixOf part piece.text × (added ≡ texts pieces ++ part)
adds_lost [] piece added (part, more, prefix, is, rest) = (part, prefix, is ∙ (ap (λ l. part ++ l) rest ∙ append-nil part))
adds_lost (first ∷ pieces) piece added (more, is, rest) = behind (adds_lost pieces piece more rest)
  where
    behind : ((part : List ℕ) × IsPrefixOf part piece.text × (more ≡ texts pieces ++ part)) → (part : List ℕ) × IsPrefixOf part piece.text × (added ≡ (first.text ++ texts pieces) ++ part)
    behind (part, prefix, so) = (part, prefix, is ∙ (ap (λ l. first.text ++ l) so ∙ sym (append_assoc first.text (texts pieces) part)))

of_flows_both : (to : Option SavesTo) (xs ys : List Append) → AreOfFlows to xs → AreOfFlows to ys → AreOfFlows to (xs ++ ys)
of_flows_both to [] ys first second = second
of_flows_both to (one ∷ xs) ys (here, first) second = (here, of_flows_both to xs ys first second)

-- appends are of flows
pub appends_of_flows : (to : Option SavesTo) (first : FilesMeaning) (made : List Append) (now : FilesMeaning) → Appending to first made now → AreOfFlows to made
appends_of_flows to first made now none_made = tt
appends_of_flows to first made now (one_made so_far next one flow before after behind piece is grown) =
    subst (AreOfFlows to) (sym grown) (of_flows_both to so_far (one ∷ []) (appends_of_flows to first so_far before behind) ((flow, piece), tt))

broke_of_flows : (to : Option SavesTo) (first : FilesMeaning) (made : List Append) (now : FilesMeaning) → BrokeAppending to first made now → AreOfFlows to made
broke_of_flows to first made now (broke_elsewhere so_far) = appends_of_flows to first made now so_far
broke_of_flows to first made now (broke_at last piece flow so_far is kept) = appends_of_flows to first made last so_far

-- ---- what stands under a path

grows_none : (before : Option (List ℕ)) → GrowsBy [] before before
grows_none before = inr (refl, refl)

grows_both : (a b : List ℕ) (first mid last : Option (List ℕ)) → GrowsBy a first mid → GrowsBy b mid last → GrowsBy (a ++ b) first last
grows_both a b first mid last (inl one) (inl other) =
    inl (other ∙ (ap (λ o. Some (unwrap_or o [] ++ b)) one ∙ ap Some (append_assoc (unwrap_or first []) a b)))
grows_both a b first mid last (inl one) (inr other) =
    inl (other.1 ∙ (one ∙ ap (λ l. Some (unwrap_or first [] ++ l)) (sym (append-nil a) ∙ ap (λ l. a ++ l) (sym other.0))))
grows_both a b first mid last (inr one) (inl other) =
    inl (other ∙ (ap (λ o. Some (unwrap_or o [] ++ b)) one.1 ∙ ap (λ l. Some (unwrap_or first [] ++ (l ++ b))) (sym one.0)))
grows_both a b first mid last (inr one) (inr other) = inr (ap (λ l. l ++ b) one.0 ∙ other.0, other.1 ∙ one.1)

module _ (path : List ℕ) where
  grown_same : (old new : Contents) → new path ≡ old path → Grown path [] old new
  grown_same old new same = record { added = []; adds = refl; grown = inr (refl, same) }

  grown_both : (xs ys : List Append) (a b c : Contents) → Grown path xs a b → Grown path ys b c → Grown path (xs ++ ys) a c
  grown_both xs ys a b c first second = record {
    added = first.added ++ second.added;
    adds = adds_both xs ys first.added second.added first.adds second.adds;
    grown = grows_both first.added second.added (a path) (b path) (c path) first.grown second.grown;
  }

  -- what is told of contents
  abbrev Growing : List Append → FilesMeaning → FilesMeaning → Type 0
  Growing made files last = Told (Grown path made) files.contents last.contents

  told_none : (a : Option Contents) → Told (Grown path []) a a
  told_none None = refl
  told_none (Some contents) = (contents, refl, grown_same contents contents refl)

  told_same : (a b : Option Contents) → Told SameContents a b → Told (Grown path []) a b
  told_same None b told = told
  told_same (Some old) b (after, is, same) = (after, is, grown_same old after (same path))

  told_both : (xs ys : List Append) (a b c : Option Contents) → Told (Grown path xs) a b → Told (Grown path ys) b c → Told (Grown path (xs ++ ys)) a c
  told_both xs ys None b c first second = subst (λ o. Told (Grown path ys) o c) first second
  told_both xs ys (Some contents) b c (after, is, one) second = on (subst (λ o. Told (Grown path ys) o c) is second)
    where
      on : Told (Grown path ys) (Some after) c → Told (Grown path (xs ++ ys)) (Some contents) c
      on (last, is_last, other) = (last, is_last, grown_both xs ys contents after last one other)

  told_on : (xs : List Append) (a b c : Option Contents) → Told (Grown path xs) a b → Told SameContents b c → Told (Grown path xs) a c
  told_on xs a b c first second = subst (λ l. Told (Grown path l) a c) (append-nil xs) (told_both xs [] a b c first (told_same b c second))

  -- ---- appends

  told_put : (piece : Piece) (a b : Option Contents) → piece.path ≡ path → Told (Appends piece.path piece.text) a b → Told (Grown path (put piece ∷ [])) a b
  told_put piece None b at told = told
  told_put piece (Some old) b at (after, is, appends) = (
    after,
    is,
    record {
      added = piece.text;
      adds = ([], sym (append-nil piece.text), refl);
      grown = subst (λ p. GrowsUnder p piece.text old after) at (inl appends.grown);
    },
  )

  told_lost : (piece : Piece) (a b : Option Contents) → piece.path ≡ path → Told (AppendsPart piece.path piece.text) a b → Told (Grown path (lost piece ∷ [])) a b
  told_lost piece None b at told = told
  told_lost piece (Some old) b at (after, is, appends) = (
    after,
    is,
    record {
      added = appends.part;
      adds = (appends.part, [], appends.prefix, sym (append-nil appends.part), refl);
      grown = subst (λ p. GrowsUnder p appends.part old after) at appends.grown;
    },
  )

  one_grows : (one : Append) (before after : FilesMeaning) → (piece_in one).path ≡ path → IsMade one before after → Growing (one ∷ []) before after
  one_grows (put piece) before after at made = told_put piece before.contents after.contents at made.contents
  one_grows (lost piece) before after at made = told_lost piece before.contents after.contents at made.contents

module _ (to : SavesTo) where
  pub appends_grow : (first : FilesMeaning) (made : List Append) (now : FilesMeaning) → Appending (Some to) first made now → Told (Grown to.path made) first.contents now.contents
  appends_grow first made now none_made = told_none to.path first.contents
  appends_grow first made now (one_made so_far next one flow before after behind piece is grown) =
      subst (λ l. Told (Grown to.path l) first.contents now.contents) (sym grown)
      (told_both to.path so_far (one ∷ []) first.contents before.contents now.contents (appends_grow first so_far before behind)
      (one_grows to.path one before now (saved_at (Some to) flow (piece_in one) piece) is))

  pub broke_grows : (first : FilesMeaning) (made : List Append) (now : FilesMeaning) → BrokeAppending (Some to) first made now → Told (Grown to.path made) first.contents now.contents
  broke_grows first made now (broke_elsewhere so_far) = appends_grow first made now so_far
  broke_grows first made now (broke_at last piece flow so_far is kept) =
      told_on to.path made first.contents last.contents now.contents (appends_grow first made last so_far) kept.contents

-- ---- changes

no_end : {A P : Type 0} (xs : List A) (x : A) → [] ≡ xs ++ x ∷ [] → P
no_end [] x e = absurd (cc)
no_end (y ∷ xs) x e = absurd (cc)

heads : {A : Type 0} (x y : A) (xs ys : List A) → x ∷ xs ≡ y ∷ ys → x ≡ y
heads x y xs ys e = cc

tails : {A : Type 0} (x y : A) (xs ys : List A) → x ∷ xs ≡ y ∷ ys → xs ≡ ys
tails x y xs ys e = cc

same_end : {A : Type 0} (xs ys : List A) (x y : A) → xs ++ x ∷ [] ≡ ys ++ y ∷ [] → (xs ≡ ys) × (x ≡ y)
same_end [] [] x y e = (refl, heads x y [] [] e)
same_end [] (b ∷ ys) x y e = no_end ys y (tails x b [] (ys ++ y ∷ []) e)
same_end (a ∷ xs) [] x y e = no_end xs x (sym (tails a y (xs ++ x ∷ []) [] e))
same_end {A} (a ∷ xs) (b ∷ ys) x y e =
    let rest = same_end xs ys x y (tails a b (xs ++ x ∷ []) (ys ++ y ∷ []) e) in
    let with_head : A → List A = λ h. h ∷ xs in
    let with_tail : List A → List A = λ t. b ∷ t in
    (ap with_head (heads a b (xs ++ x ∷ []) (ys ++ y ∷ []) e) ∙ ap with_tail rest.0, rest.1)

module _ {S : Type 0} (to : Option SavesTo) where
  -- the last change of a run that saves, and what was appended before and in it
  record LastOf (changes : List (Change S)) (one : Change S) (made : List Append) : Type 0 where
    reached : Printing
    placed : List Trace
    so_far : List Append
    more : List Append
    saved_so : SavedOver to reached changes placed so_far
    joined : made ≡ so_far ++ more
    broke : BrokeAppending to one.old.files more one.new.files

  -- as the one that a constructor names
  last_so : (reached : Printing) (changes was : List (Change S)) (placed : List Trace) (one last : Change S) (so_far more made : List Append) → was ++ last ∷ [] ≡ changes ++ one ∷ [] →
      SavedOver to reached was placed so_far → made ≡ so_far ++ more → BrokeAppending to last.old.files more last.new.files → LastOf changes one made
  last_so reached changes was placed one last so_far more made split before joined broke =
      let same = same_end was changes last one split in
      let P : List (Change S) → Type 0 = λ l. SavedOver to reached l placed so_far in
      let Q : Change S → Type 0 = λ c. BrokeAppending to c.old.files more c.new.files in
      record { reached = reached; placed = placed; so_far = so_far; more = more; saved_so = subst P same.0 before; joined = joined; broke = subst Q same.1 broke }

  still_broke : (last : Change S) → last.new.files ≡ last.old.files → BrokeAppending to last.old.files [] last.new.files
  still_broke last still =
      let P : FilesMeaning → Type 0 = λ files. BrokeAppending to last.old.files [] files in
      let nothing : P last.old.files = broke_elsewhere none_made in
      subst P (sym still) nothing

  last_saved : (reached : Printing) (changes whole : List (Change S)) (placed : List Trace) (one : Change S) (made : List Append) → SavedOver to reached whole placed made →
      whole ≡ changes ++ one ∷ [] → LastOf changes one made
  last_saved reached changes whole placed one made nothing_yet split = no_end changes one split
  last_saved reached changes whole placed one made (all_saved was next at next_at last so_far more all before own appends joined puts grown put_at) split =
      last_so Whole changes was at one last so_far more made (sym grown ∙ split) before joined (broke_elsewhere appends)
  last_saved reached changes whole placed one made (is_cut was next at next_at last so_far more all before own appends joined puts grown put_at) split =
      last_so Whole changes was at one last so_far more made (sym grown ∙ split) before joined (broke_elsewhere appends)
  last_saved reached changes whole placed one made (is_broken was next at next_at last so_far more all before own appends joined puts grown put_at) split =
      last_so Whole changes was at one last so_far more made (sym grown ∙ split) before joined appends
  last_saved reached changes whole placed one made (stays_cut was next at next_at last so_far before still grown put_at) split =
      last_so Failed changes was at one last made [] made (sym grown ∙ split) before (sym (append-nil made)) (still_broke last (ap (λ s. s.files) still))
  last_saved reached changes whole placed one made (drops_one far was next at last so_far before still grown) split =
      last_so reached changes was placed one last made [] made (sym grown ∙ split) before (sym (append-nil made)) (still_broke last still)

  none_saved : (reached : Printing) (changes : List (Change S)) (placed : List Trace) (made : List Append) → SavedOver to reached changes placed made → changes ≡ [] → made ≡ []
  none_saved reached changes placed made nothing_yet none = refl
  none_saved reached changes placed made (all_saved was next at next_at last so_far more all before own appends joined puts grown put_at) none = no_end was last (sym none ∙ grown)
  none_saved reached changes placed made (is_cut was next at next_at last so_far more all before own appends joined puts grown put_at) none = no_end was last (sym none ∙ grown)
  none_saved reached changes placed made (is_broken was next at next_at last so_far more all before own appends joined puts grown put_at) none = no_end was last (sym none ∙ grown)
  none_saved reached changes placed made (stays_cut was next at next_at last so_far before still grown put_at) none = no_end was last (sym none ∙ grown)
  none_saved reached changes placed made (drops_one far was next at last so_far before still grown) none = no_end was last (sym none ∙ grown)

-- the last of a list, and what is in front of it
last_of_list : {A : Type 0} (x : A) (xs : List A) → (prefix : List A) × (last : A) × (x ∷ xs ≡ prefix ++ last ∷ [])
last_of_list x [] = ([], x, refl)
last_of_list {A} x (y ∷ ys) = behind (last_of_list y ys)
  where
    behind : ((prefix : List A) × (last : A) × (y ∷ ys ≡ prefix ++ last ∷ [])) → (prefix : List A) × (last : A) × (x ∷ y ∷ ys ≡ prefix ++ last ∷ [])
    behind (prefix, last, is) = (x ∷ prefix, last, ap (λ l. x ∷ l) is)

-- what is in front of the last begins with what the whole begins with, where more is behind that
front_of_was : {A : Type 0} (prefix : List A) (x : A) (xs was : List A) (last : A) → was ++ last ∷ [] ≡ prefix ++ x ∷ xs → (more : List A) × (was ≡ prefix ++ more)
front_of_was {A} prefix x xs was last split = by (last_of_list x xs)
  where
    by : ((more : List A) × (end : A) × (x ∷ xs ≡ more ++ end ∷ [])) → (more : List A) × (was ≡ prefix ++ more)
    by (more, end, is) =
        let whole = split ∙ (ap (λ l. prefix ++ l) is ∙ sym (append_assoc prefix more (end ∷ []))) in (more, (same_end was (prefix ++ more) last end whole).0)

no_middle : {A P : Type 0} (xs : List A) (x : A) (ys : List A) → [] ≡ xs ++ x ∷ ys → P
no_middle [] x ys e = absurd (cc)
no_middle (y ∷ xs) x ys e = absurd (cc)

module _ {S : Type 0} (to : Option SavesTo) where
  -- the first changes of a run that saves, with the first of what it appended
  record FrontSaved (prefix : List (Change S)) (made : List Append) : Type 0 where
    reached : Printing
    placed : List Trace
    so_far : List Append
    first : IsPrefixOf so_far made
    saved_so : SavedOver to reached prefix placed so_far

  longer : (prefix : List (Change S)) (so_far more made : List Append) → made ≡ so_far ++ more → FrontSaved prefix so_far → FrontSaved prefix made
  longer prefix so_far more made joined f = record {
    reached = f.reached;
    placed = f.placed;
    so_far = f.so_far;
    first = (f.first.0 ++ more, joined ∙ (ap (λ l. l ++ more) f.first.1 ∙ append_assoc f.so_far f.first.0 more));
    saved_so = f.saved_so;
  }

  front_saved : (reached : Printing) (whole prefix later : List (Change S)) (placed : List Trace) (made : List Append) → SavedOver to reached whole placed made → whole ≡ prefix ++ later →
      FrontSaved prefix made
  front_saved reached whole prefix [] placed made saved split =
      let P : List (Change S) → Type 0 = λ l. SavedOver to reached l placed made in
      record { reached = reached; placed = placed; so_far = made; first = ([], sym (append-nil made)); saved_so = subst P (split ∙ append-nil prefix) saved }
  front_saved reached whole prefix (x ∷ xs) placed made nothing_yet split = no_middle prefix x xs split
  front_saved reached whole prefix (x ∷ xs) placed made (all_saved was next at next_at last so_far more all before own appends joined puts grown put_at) split =
      let rest = front_of_was prefix x xs was last (sym grown ∙ split) in longer prefix so_far more made joined (front_saved Whole was prefix rest.0 at so_far before rest.1)
  front_saved reached whole prefix (x ∷ xs) placed made (is_cut was next at next_at last so_far more all before own appends joined puts grown put_at) split =
      let rest = front_of_was prefix x xs was last (sym grown ∙ split) in longer prefix so_far more made joined (front_saved Whole was prefix rest.0 at so_far before rest.1)
  front_saved reached whole prefix (x ∷ xs) placed made (is_broken was next at next_at last so_far more all before own appends joined puts grown put_at) split =
      let rest = front_of_was prefix x xs was last (sym grown ∙ split) in longer prefix so_far more made joined (front_saved Whole was prefix rest.0 at so_far before rest.1)
  front_saved reached whole prefix (x ∷ xs) placed made (stays_cut was next at next_at last so_far before still grown put_at) split =
      let rest = front_of_was prefix x xs was last (sym grown ∙ split) in front_saved Failed was prefix rest.0 at made before rest.1
  front_saved reached whole prefix (x ∷ xs) placed made (drops_one far was next at last so_far before still grown) split =
      let rest = front_of_was prefix x xs was last (sym grown ∙ split) in front_saved reached was prefix rest.0 placed made before rest.1

-- ---- a run

module _ {S : Type 0} (answers : Answering S) (fails : Failing S) (is : S → Type 0) (goes : FilesMeaning → FilesMeaning → Type 0) (keeps : KeepsFiles answers fails is goes)
    (same_so : (files last : FilesMeaning) → goes files last → Told SameContents files.contents last.contents) (to : SavesTo) where
  -- the own state is so, and the file has grown by these appends
  record GrownOver (first last : AnswererState S) (made : List Append) : Type 0 where
    so : is last.own
    grown : Told (Grown to.path made) first.files.contents last.files.contents

  grown_one : (first old new : AnswererState S) (made : List Append) (hook : Hook) (flow : Flow) (given : Answer) → answers hook flow old.own old.files new.own new.files given →
      GrownOver first old made → GrownOver first new made
  grown_one first old new made hook flow given answered k = record {
    so = keeps.stays hook flow old.own old.files new.own new.files given k.so answered;
    grown = told_on to.path made first.files.contents old.files.contents new.files.contents k.grown
        (same_so old.files new.files (keeps.given_so hook flow old.own old.files new.own new.files given k.so answered));
  }

  grown_more : (first old new : AnswererState S) (so_far more made : List Append) → made ≡ so_far ++ more → (is old.own → is new.own) →
      BrokeAppending (Some to) old.files more new.files → GrownOver first old so_far → GrownOver first new made
  grown_more first old new so_far more made joined own broke k = record {
    so = own k.so;
    grown = subst (λ l. Told (Grown to.path l) first.files.contents new.files.contents) (sym joined)
        (told_both to.path so_far more first.files.contents old.files.contents new.files.contents k.grown (broke_grows to old.files more new.files broke));
  }

  grown_over : (due : Due) (course : Course S) (reached : Printing) (placed : List Trace) (made : List Append) → is course.first.own → AllAre (KeepsOwn is) course.changes →
      SavedOver (Some to) reached course.changes placed made → (trace : Trace) (last : AnswererState S) (pending : Pending) → Answers answers due course trace last pending → GrownOver course.first last made
  grown_over due course reached placed made so own saved trace last pending (at_first c none no_operations) =
      subst (λ l. GrownOver last last l) (sym (none_saved (Some to) reached course.changes placed made saved none)) (record { so = so; grown = told_none to.path last.files.contents })
  grown_over due course reached placed made so own saved whole last pending (at_hook c trace next old new was conv hook flow given before split free about marked answered) =
      grown_one course.first old last made hook flow given answered (grown_over due course reached placed made so own saved trace old was before)
  grown_over due course reached placed made so own saved whole last pending (at_reply c trace next now was conv ask reply before split is_given) =
      grown_over due course reached placed made so own saved trace last was before
  grown_over due course reached placed made so own saved whole last pending (at_other c trace next now was step before split quiet marked) =
      grown_over due course reached placed made so own saved trace last was before
  grown_over due course reached placed made so own saved whole last pending (at_change prefix next trace old new was before split) =
      let one : Change S = change whole old last in
      let P : AnswererState S → Type 0 = λ state. is state.own in
      let Q : List (Change S) → Type 0 = AllAre (KeepsOwn is) in
      let M : AnswererState S → Type 0 = λ first. GrownOver first last made in
      let same = ap (λ c. c.first) split in
      let all = ap (λ c. c.changes) split in
      let owns = last_is (KeepsOwn is) prefix.changes one (subst Q all own) in
      let ended = last_saved (Some to) reached prefix.changes course.changes placed one made saved all in
      let k = grown_over due prefix ended.reached ended.placed ended.so_far (subst P same so) owns.0 ended.saved_so whole old pending before in
      subst M (sym same) (grown_more prefix.first old last ended.so_far ended.more made ended.joined owns.1 ended.broke k)
  grown_over due course reached placed made so own saved whole last pending (at_mark prefix next trace now was id before split) =
      let P : AnswererState S → Type 0 = λ state. is state.own in
      let Q : List (Change S) → Type 0 = AllAre (KeepsOwn is) in
      let R : List (Change S) → Type 0 = λ l. SavedOver (Some to) reached l placed made in
      let M : AnswererState S → Type 0 = λ first. GrownOver first last made in
      let same = ap (λ c. c.first) split in
      subst M (sym same) (grown_over due prefix reached placed made (subst P same so) (subst Q (ap (λ c. c.changes) split) own) (subst R (ap (λ c. c.changes) split) saved) whole last pending before)
  grown_over due course reached placed made so own saved whole last pending (at_edit prefix next trace now was id edit hook draft edits edited before split waits changed) =
      let P : AnswererState S → Type 0 = λ state. is state.own in
      let Q : List (Change S) → Type 0 = AllAre (KeepsOwn is) in
      let R : List (Change S) → Type 0 = λ l. SavedOver (Some to) reached l placed made in
      let M : AnswererState S → Type 0 = λ first. GrownOver first last made in
      let same = ap (λ c. c.first) split in
      subst M (sym same) (grown_over due prefix reached placed made (subst P same so) (subst Q (ap (λ c. c.changes) split) own) (subst R (ap (λ c. c.changes) split) saved) whole last was before)
  grown_over due course reached placed made so own saved whole last pending (at_release prefix more trace next now was operation id hook draft edited before split_course for waits split) =
      let P : AnswererState S → Type 0 = λ state. is state.own in
      let Q : List (Change S) → Type 0 = AllAre (KeepsOwn is) in
      let R : List (Change S) → Type 0 = λ l. SavedOver (Some to) reached l placed made in
      let M : AnswererState S → Type 0 = λ first. GrownOver first last made in
      let same = ap (λ c. c.first) split_course in
      subst M (sym same) (grown_over due prefix reached placed made (subst P same so) (subst Q (ap (λ c. c.changes) split_course) own) (subst R (ap (λ c. c.changes) split_course) saved) trace last was before)

  -- where all was said the file has grown by all that was appended
  pub grown_leaving : (due : Due) (first : AnswererState S) (changes : List (Change S)) (operations : List Operated) (reached : Printing) (placed : List Trace) (made : List Append) (IsSaid : Type 0)
      (files : FilesMeaning) (trace : Trace) → is first.own → AllAre (KeepsOwn is) changes → SavedOver (Some to) reached changes placed made →
      LeavesFiles answers fails due (course_from first changes operations) IsSaid files trace → IsSaid →
      Told (Grown to.path made) first.files.contents files.contents
  grown_leaving due first changes operations reached placed made IsSaid files trace so own saved leaves said =
      let all = leaves.whole said in
      let P : Course S → Type 0 = λ c. Answers answers due c leaves.prefix leaves.last leaves.pending in
      let k = grown_over due (course_from first changes operations) reached placed made so own saved leaves.prefix leaves.last leaves.pending (subst P all.2 leaves.answered) in
      subst (λ f. Told (Grown to.path made) first.files.contents f.contents) (sym all.1) k.grown

  -- and else by the first of it
  pub grown_in_part : (due : Due) (first : AnswererState S) (changes : List (Change S)) (operations : List Operated) (reached : Printing) (placed : List Trace) (made : List Append) (IsSaid : Type 0)
      (files : FilesMeaning) (trace : Trace) → is first.own → AllAre (KeepsOwn is) changes → SavedOver (Some to) reached changes placed made →
      LeavesFiles answers fails due (course_from first changes operations) IsSaid files trace →
      (so_far : List Append) × IsPrefixOf so_far made × Told (Grown to.path so_far) first.files.contents files.contents
  grown_in_part due first changes operations reached placed made IsSaid files trace so own saved leaves =
      let f = front_saved (Some to) reached changes leaves.made.changes leaves.front_of.later placed made saved leaves.front_of.split in
      let k = grown_over due leaves.made f.reached f.placed f.so_far (begins_so is (course_from first changes operations) leaves.made leaves.front_of so)
      (made_are (KeepsOwn is) (course_from first changes operations) leaves.made leaves.front_of own) f.saved_so leaves.prefix leaves.last leaves.pending
      leaves.answered in
      let P : AnswererState S → Type 0 = λ s. Told (Grown to.path f.so_far) s.files.contents files.contents in (
        f.so_far,
        f.first,
        subst P leaves.front_of.same (told_on to.path f.so_far leaves.made.first.files.contents leaves.last.files.contents files.contents k.grown
            (same_so leaves.last.files files (kept_after answers fails is goes keeps leaves.last files k.so leaves.after))),
      )

  grown_still : (first old new : AnswererState S) (made : List Append) → (is old.own → is new.own) → new.files ≡ old.files → GrownOver first old made → GrownOver first new made
  grown_still first old new made own files k = record {
    so = own k.so;
    grown = subst (λ f. Told (Grown to.path made) first.files.contents f.contents) (sym files) k.grown;
  }

  module _ (drops : List ℕ → S → S → Type 0) (stays : (name : List ℕ) (old new : S) → is old → drops name old new → is new) where
    -- Answers, appends and addons that are taken away leave it grown by appends of flows.
    record GrownBy (first last : AnswererState S) : Type 0 where
      made : List Append
      of_flows : AreOfFlows (Some to) made
      over : GrownOver first last made

    grown_by : (first last : AnswererState S) → is first.own → Goes answers drops (Some to) first last → GrownBy first last
    grown_by first last so goes_none = record { made = []; of_flows = tt; over = record { so = so; grown = told_none to.path first.files.contents } }
    grown_by first last so (goes_answer old new hook flow given before answered) =
        let k = grown_by first old so before in
        record { made = k.made; of_flows = k.of_flows; over = grown_one first old last k.made hook flow given answered k.over }
    grown_by first last so (goes_append old new more before own appends) =
        let k = grown_by first old so before in
        record {
          made = k.made ++ more;
          of_flows = of_flows_both (Some to) k.made more k.of_flows (appends_of_flows (Some to) old.files more last.files appends);
          over = grown_more first old last k.made more (k.made ++ more) refl (λ old_so. subst is (sym own) old_so) (broke_elsewhere appends) k.over;
        }
    grown_by first last so (goes_drop old new name before dropped files) =
        let k = grown_by first old so before in
        record { made = k.made; of_flows = k.of_flows; over = grown_still first old last k.made (λ old_so. stays name old.own last.own old_so dropped) files k.over }

    pub grown_behind : (first : AnswererState S) (files : FilesMeaning) → is first.own → LeavesBehind answers drops fails (Some to) first files →
        (made : List Append) × AreOfFlows (Some to) made × Told (Grown to.path made) first.files.contents files.contents
    grown_behind first files so (left_whole last before same) =
        let k = grown_by first last so before in
        (k.made, k.of_flows, subst (λ f. Told (Grown to.path k.made) first.files.contents f.contents) (sym same) k.over.grown)
    grown_behind first files so (left_by_answer last hook flow before failed) =
        let k = grown_by first last so before in (
          k.made,
          k.of_flows,
          told_on to.path k.made first.files.contents last.files.contents files.contents k.over.grown
              (same_so last.files files (keeps.failed_so hook flow last.own last.files files k.over.so failed)),
        )
    grown_behind first files so (left_by_append last more before broke) =
        let k = grown_by first last so before in (
          k.made ++ more,
          of_flows_both (Some to) k.made more k.of_flows (broke_of_flows (Some to) last.files more files broke),
          told_both to.path k.made more first.files.contents last.files.contents files.contents k.over.grown (broke_grows to last.files more files broke),
        )

-- ---- where all that finished was saved

module _ (to : SavesTo) where
  -- where all was put it has grown by the texts
  pub grown_whole : (pieces : List Piece) (made : List Append) (a b : Option Contents) → made ≡ map put pieces → Told (Grown to.path made) a b → Told (GrowsUnder to.path (texts pieces)) a b
  grown_whole pieces made None b all told = told
  grown_whole pieces made (Some old) b all (after, is, g) =
      (after, is, subst (λ l. GrowsUnder to.path l old after) (adds_all pieces g.added (subst (λ l. AddsUp l g.added) all g.adds)) g.grown)
