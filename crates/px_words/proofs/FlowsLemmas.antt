-- The flows of a file, one turn after the other.
use Rattle.std.proofs.Common.{◌≡◌, ◌≢◌, ◌≤◌, ◌-◌, ◌⊎◌, inl, inr, ℕ, Bool, true, false, List, [], ◌∷◌, ◌++◌, length, Option, Ok, Err, refl, sym, ap, ◌∙◌, subst, arith, append-nil}
use Rattle.std.specs.Prelude.{◌==◌, if◌then◌else◌, filter}
use Rattle.std.specs.List.{flat_map}
use Rattle.std.proofs.lemmas.Grind.{flat_map-append}
use Rattle.std.proofs.lemmas.List.Elements.{filter-append}
use Rattle.px_message.specs.declared.flow.Flow.{Flow}
use Rattle.px_outside.specs.Count.{Rose}
use Rattle.px_outside.specs.Sink.{Writes, WritesPart}
use Rattle.px_flowfile.specs.Reader.{BeginsWith}
use Rattle.px_flowfile.specs.declared.entry.Entry.{Entry}
use Rattle.px_filter.specs.Expression.{Expression}
use Rattle.px_filter.specs.Holds.{holds}
use Rattle.px_view.specs.Line.{flow_line}
use Rattle.px_words.specs.FlowTurns.{PrintsSo, IsFaultTurn, Turns, line_where}
use Rattle.px_words.specs.FlowFile.{IsBadPlace, HasFlows, at_front}
use Rattle.px_words.specs.Flows.{Fetched, ListsFile, Shows, lines_of}
use Rattle.px_words.specs.Lines.{bad_flow_file}
use Rattle.px_words.specs.Outside.{IsTold, Outside}
use Rattle.px_words.specs.declared.flows.FlowTurn.{FlowTurn}
use Rattle.px_words.specs.declared.flows.FlowTurn.TheVariants as turns
use Rattle.px_words.proofs.FlowFileLemmas.{has_more}
use Rattle.px_words.proofs.PrintLemmas.{whole_part, writes_more, writes_none, writes_part}
use Rattle.px_words.proofs.ToldLemmas.{told_none, told_nothing}

-- ---- lines

one_line : (flow : Flow) (b : Bool) → flat_map flow_line (if b then flow ∷ [] else []) ≡ (if b then flow_line flow else [])
one_line flow true = append-nil (flow_line flow)
one_line flow false = refl

-- the lines of one flow more
pub lines_more : (expression : Expression) (flows : List Flow) (flow : Flow) → lines_of expression (flows ++ flow ∷ []) ≡ lines_of expression flows ++ line_where expression flow
lines_more expression flows flow =
    let P : Flow → Bool = λ f. holds f expression in
    ap (flat_map flow_line) (filter-append P flows (flow ∷ []))
    ∙ (flat_map-append flow_line (filter P flows) (filter P (flow ∷ [])) ∙ ap (λ l. lines_of expression flows ++ l) (one_line flow (holds flow expression)))

-- ---- turns

-- these flows were gone past, and printed by the filter
pub record Gone (bytes : List ℕ) (expression : Expression) (rest : List ℕ) (start now : Option (List ℕ)) : Type 0 where
  pub flows : List Flow
  pub has : HasFlows bytes flows rest
  pub printed : Writes (lines_of expression flows) start now

pub gone_none : (bytes : List ℕ) (expression : Expression) (rest : List ℕ) (start : Option (List ℕ)) → rest ≡ bytes → Gone bytes expression rest start start
gone_none bytes expression rest start all = record {
  flows = [];
  has = let P : List ℕ → Type 0 = λ r. HasFlows bytes [] r in subst P (sym all) at_front;
  printed = writes_none start start refl;
}

pub gone_on : (failed : Type 0) (bytes : List ℕ) (expression : Expression) (len : ℕ) (rest next : List ℕ) (start now after : Option (List ℕ)) → Gone bytes expression rest start now →
    Turns failed expression len rest next now after turns.Went → Gone bytes expression next start after
gone_on failed bytes expression len rest next start now after gone (entry, begins, writes) = record {
  flows = gone.flows ++ entry.flow ∷ [];
  has = has_more bytes rest next gone.flows entry gone.has begins;
  printed =
      let P : List ℕ → Type 0 = λ l. Writes l start after in
      subst P (sym (lines_more expression gone.flows entry.flow)) (writes_more (lines_of expression gone.flows) (line_where expression entry.flow) start now after gone.printed writes);
}

-- what a turn came to, after an entry was read and printed so
pub turned_by : (failed : Type 0) (expression : Expression) (len : ℕ) (rest next : List ℕ) (before after : Option (List ℕ)) (entry : Entry) (turn : FlowTurn) → BeginsWith entry rest next →
    PrintsSo failed (line_where expression entry.flow) before after turn → Turns failed expression len rest next before after turn
turned_by failed expression len rest next before after entry turns.Went begins printed = (entry, begins, printed)
turned_by failed expression len rest next before after entry turns.NotPrinted begins printed = (entry, begins, printed)
turned_by failed expression len rest next before after entry turns.NoMemory begins printed = printed
turned_by failed expression len rest next before after entry turns.AtEnd begins printed = absurd printed
turned_by failed expression len rest next before after entry (turns.AtBadPlace at) begins printed = absurd printed

-- and where there is none
pub turned_at : (failed : Type 0) (expression : Expression) (len offset : ℕ) (rest next : List ℕ) (before : Option (List ℕ)) (turn : FlowTurn) → rest ≢ [] → offset ≡ len - length rest → IsFaultTurn rest offset turn →
    Turns failed expression len rest next before before turn
turned_at failed expression len offset rest next before turns.Went some same stops = absurd stops
turned_at failed expression len offset rest next before turns.NotPrinted some same stops = absurd stops
turned_at failed expression len offset rest next before turns.NoMemory some same stops = refl
turned_at failed expression len offset rest next before turns.AtEnd some same stops = absurd stops
turned_at failed expression len offset rest next before (turns.AtBadPlace at) some same stops = (((some, stops.0), stops.1 ∙ same), refl)

-- a turn at a place that has no entry does not go on
pub never_goes : (rest : List ℕ) (offset : ℕ) (turn : FlowTurn) → IsFaultTurn rest offset turn → turn ≡ turns.Went → ⊥
never_goes rest offset turns.Went stops is = stops
never_goes rest offset turns.NotPrinted stops is = stops
never_goes rest offset turns.NoMemory stops is = cc
never_goes rest offset turns.AtEnd stops is = stops
never_goes rest offset (turns.AtBadPlace at) stops is = cc

-- ---- the ends of a run

pub rose_from : (first old new : ℕ) → first ≤ old → Rose old new → Rose first new
rose_from first old new later rose = omega (arith, later, rose)

told_wider : (P Q : Type 0) (status : ℕ) (text : List ℕ) (start now : Option (List ℕ)) → (P → Q) → IsTold P status text start now → IsTold Q status text start now
told_wider P Q status text start now wider told = record { begun = told.begun; whole = λ other quiet. told.whole other (λ p. quiet (wider p)) }

pub shows_all : (failed : Type 0) (path bytes : List ℕ) (expression : Expression) (rest : List ℕ) (start now after : Option (List ℕ)) → Gone bytes expression rest start now →
    rest ≡ [] → after ≡ now → Shows failed path bytes expression start after 0
shows_all failed path bytes expression rest start now after gone none same = record {
  flows = gone.flows;
  behind = rest;
  has = gone.has;
  statuses = inl refl;
  ended = λ _. none;
  bad = λ (e : 0 ≡ 4). absurd (omega arith);
  lost = λ (e : 0 ≡ 7). absurd (omega arith);
  printed = now;
  begun = whole_part (lines_of expression gone.flows) start now gone.printed;
  whole = λ _. gone.printed;
  ends = told_nothing failed 0 now after (writes_none now after same);
}

pub shows_some : (failed : Type 0) (path bytes : List ℕ) (expression : Expression) (rest : List ℕ) (start now after : Option (List ℕ)) → Gone bytes expression rest start now →
    after ≡ now → Shows failed path bytes expression start after 8
shows_some failed path bytes expression rest start now after gone same = record {
  flows = gone.flows;
  behind = rest;
  has = gone.has;
  statuses = inr (inr (inr refl));
  ended = λ (e : 8 ≡ 0). absurd (omega arith);
  bad = λ (e : 8 ≡ 4). absurd (omega arith);
  lost = λ (e : 8 ≡ 7). absurd (omega arith);
  printed = now;
  begun = whole_part (lines_of expression gone.flows) start now gone.printed;
  whole = λ _. gone.printed;
  ends = told_none failed [] now after same;
}

seven_is : {n : ℕ} → n ≡ 7 → (n ≡ 0) ⊎ (n ≡ 4) → ⊥
seven_is seven (inl e) = omega arith
seven_is seven (inr e) = omega arith

pub shows_part : (mid failed : Type 0) (path bytes : List ℕ) (expression : Expression) (len : ℕ) (rest next : List ℕ) (start now after : Option (List ℕ)) → Gone bytes expression rest start now →
    Turns mid expression len rest next now after turns.NotPrinted → (mid → failed) → Shows failed path bytes expression start after 7
shows_part mid failed path bytes expression len rest next start now after gone (entry, begins, lost) wider = record {
  flows = gone.flows ++ entry.flow ∷ [];
  behind = next;
  has = has_more bytes rest next gone.flows entry gone.has begins;
  statuses = inr (inr (inl refl));
  ended = λ (e : 7 ≡ 0). absurd (omega arith);
  bad = λ (e : 7 ≡ 4). absurd (omega arith);
  lost = λ _. wider lost.0;
  printed = after;
  begun =
      let P : List ℕ → Type 0 = λ l. WritesPart l start after in
      subst P (sym (lines_more expression gone.flows entry.flow)) (writes_part (lines_of expression gone.flows) (line_where expression entry.flow) start now after gone.printed lost.1);
  whole = λ other. absurd (seven_is refl other);
  ends = told_nothing failed 7 after after (writes_none after after refl);
}

pub shows_bad : (mid failed : Type 0) (path bytes : List ℕ) (expression : Expression) (rest : List ℕ) (at status : ℕ) (start now after : Option (List ℕ)) → Gone bytes expression rest start now →
    IsBadPlace rest → at ≡ length bytes - length rest → (status ≡ 4) ⊎ (status ≡ 8) → (mid → failed) →
    IsTold mid status (if status == 4 then bad_flow_file path at else []) now after → Shows failed path bytes expression start after status
shows_bad mid failed path bytes expression rest at status start now after gone none same either wider told = record {
  flows = gone.flows;
  behind = rest;
  has = gone.has;
  statuses = inr (statuses either);
  ended = λ zero. absurd (not_other either 0 zero (omega arith) (omega arith));
  bad = λ _. none;
  lost = λ seven. absurd (not_other either 7 seven (omega arith) (omega arith));
  printed = now;
  begun = whole_part (lines_of expression gone.flows) start now gone.printed;
  whole = λ _. gone.printed;
  ends =
      let P : ℕ → Type 0 = λ n. IsTold failed status (if status == 4 then bad_flow_file path n else []) now after in
      subst P same (told_wider mid failed status _ now after wider told);
}
  where
    statuses : (status ≡ 4) ⊎ (status ≡ 8) → (status ≡ 4) ⊎ ((status ≡ 7) ⊎ (status ≡ 8))
    statuses (inl four) = inl four
    statuses (inr eight) = inr (inr eight)

    not_other : (status ≡ 4) ⊎ (status ≡ 8) → (n : ℕ) → status ≡ n → n ≢ 4 → n ≢ 8 → ⊥
    not_other (inl four) n is no_four no_eight = no_four (sym is ∙ four)
    not_other (inr eight) n is no_four no_eight = no_eight (sym is ∙ eight)

-- the same of equal words
pub lists_at : {same out notes : Type 0} {before after : Outside} {status : ℕ} (path text other more : List ℕ) → (path ≡ other) × (text ≡ more) → (what : Fetched) × ListsFile same out notes path text what before after status →
    (what : Fetched) × ListsFile same out notes other more what before after status
lists_at {same = same} {out = out} {notes = notes} {before = before} {after = after} {status = status} path text other more both lists =
    let P : List ℕ → Type 0 = λ p. (what : Fetched) × ListsFile same out notes p text what before after status in
    let Q : List ℕ → Type 0 = λ t. (what : Fetched) × ListsFile same out notes other t what before after status in
    subst Q both.1 (subst P both.0 lists)
