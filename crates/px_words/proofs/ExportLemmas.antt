-- What is printed of the flows of a file that is exported, one behind the other.
use Rattle.std.proofs.Common.{◌≡◌, ◌≢◌, ◌⊎◌, inl, inr, ◌-◌, ℕ, Bool, true, false, List, [], ◌∷◌, ◌++◌, length, Option, Result, Ok, Err, refl, sym, ap, ◌∙◌, subst, arith, append-nil, append_assoc}
use Rattle.std.specs.Prelude.{◌==◌, if◌then◌else◌, filter}
use Rattle.std.proofs.lemmas.List.Elements.{filter-append}
use Rattle.px_message.specs.declared.flow.Flow.{Flow}
use Rattle.px_outside.specs.Sink.{Writes, WritesPart}
use Rattle.px_filter.specs.Expression.{Expression}
use Rattle.px_filter.specs.Holds.{holds}
use Rattle.px_flowfile.specs.Reader.{BeginsWith}
use Rattle.px_flowfile.specs.declared.entry.Entry.{Entry}
use Rattle.px_har.specs.Export.{begin_text, end_text, entries_text, har_text, place_behind, placed_text}
use Rattle.px_har.specs.Read.{PartsMakeIt}
use Rattle.px_har.specs.declared.export.Place.{Place}
use Rattle.px_har.specs.declared.export.Place.TheVariants.{First, Later}
use Rattle.px_words.specs.Exports.{Exports, ExportsFile, export_of}
use Rattle.px_words.specs.ExportTurns.{BreaksOff, PrintsAll, PrintsEntries, PrintsExport, entries_of, place_where, text_where}
use Rattle.px_words.specs.FlowFile.{HasEntries, HasFlows, at_front, entry_more, no_entry, one_more}
use Rattle.px_words.specs.Flows.{Fetched}
use Rattle.px_words.specs.Lines.{bad_flow_file}
use Rattle.px_words.specs.Outside.{IsTold, Outside}
use Rattle.px_words.specs.Whole.{HasBadPlace, IsWhole, made_code}
use Rattle.px_words.specs.declared.whole.Unfinished.{Unfinished}
use Rattle.px_words.specs.declared.whole.Unfinished.TheVariants as breaks
use Rattle.px_words.proofs.FlowFileLemmas.{has_more}
use Rattle.px_words.proofs.PrintLemmas.{part_longer, whole_part, writes_more, writes_none, writes_part}
use Rattle.px_words.proofs.ToldLemmas.{none_part, part_of_none}

-- ---- the flows of entries

flows_of : (text : List ℕ) (entries : List Entry) (behind : List ℕ) → HasEntries text entries behind → (flows : List Flow) × HasFlows text flows behind
flows_of text entries behind no_entry = ([], at_front)
flows_of text entries behind (entry_more before rest so_far next entry has begins grown) =
    let front = flows_of text so_far before has in
    (front.0 ++ entry.flow ∷ [], has_more text before rest front.0 entry front.1 begins)

pub flows_in : (text : List ℕ) → IsWhole text → (flows : List Flow) × HasFlows text flows []
flows_in text whole = flows_of text whole.0 [] whole.1

flows_behind : (text middle behind : List ℕ) (flows more : List Flow) → HasFlows text flows middle → HasFlows middle more behind → HasFlows text (flows ++ more) behind
flows_behind text middle behind flows more front at_front = subst (λ l. HasFlows text l middle) (sym (append-nil flows)) front
flows_behind text middle behind flows more front (one_more before rest so_far next entry has begins grown) =
    one_more before rest (flows ++ so_far) (flows ++ next) entry (flows_behind text middle before flows so_far front has) begins
    (ap (λ l. flows ++ l) grown ∙ sym (append_assoc flows so_far (entry.flow ∷ [])))

-- ---- texts

-- the entries of flows, with those of others behind them
entries_behind : (place : Place) (flows more : List Flow) → (rest : List ℕ) × (entries_text place (flows ++ more) ≡ entries_text place flows ++ rest)
entries_behind place [] more = (entries_text place more, refl)
entries_behind place (flow ∷ flows) more =
    let behind = entries_behind Later flows more in
    (behind.0, ap (λ l. placed_text place flow ++ l) behind.1 ∙ sym (append_assoc (placed_text place flow) (entries_text Later flows) behind.0))

all_behind : (expression : Expression) (flows more : List Flow) → (rest : List ℕ) × (entries_of expression (flows ++ more) ≡ entries_of expression flows ++ rest)
all_behind expression flows more =
    let P : Flow → Bool = λ f. holds f expression in
    let behind = entries_behind First (filter P flows) (filter P more) in
    (behind.0, ap (entries_text First) (filter-append P flows more) ∙ behind.1)

-- a beginning of the entries of flows is one of those of more
part_of_all : (expression : Expression) (flows more : List Flow) (start now : Option (List ℕ)) → WritesPart (entries_of expression flows) start now →
    WritesPart (entries_of expression (flows ++ more)) start now
part_of_all expression flows more start now part =
    let behind = all_behind expression flows more in
    subst (λ l. WritesPart l start now) (sym behind.1) (part_longer (entries_of expression flows) behind.0 start now part)

place_later : (flows : List Flow) (flow : Flow) → place_behind (flows ++ flow ∷ []) ≡ Later
place_later [] flow = refl
place_later (first ∷ flows) flow = refl

-- where the next entry stands behind those of flows on which the filter holds
abbrev place_in : Expression → List Flow → Place
place_in expression flows = place_behind (filter (λ f. holds f expression) flows)

place_more : (expression : Expression) (flows : List Flow) (flow : Flow) → place_in expression (flows ++ flow ∷ []) ≡ place_where expression (place_in expression flows) flow
place_more expression flows flow =
    let P : Flow → Bool = λ f. holds f expression in
    ap place_behind (filter-append P flows (flow ∷ [])) ∙ by (filter P flows) (holds flow expression)
  where
    by : (before : List Flow) (b : Bool) → place_behind (before ++ (if b then flow ∷ [] else [])) ≡ (if b then Later else place_behind before)
    by before true = place_later before flow
    by before false = ap place_behind (append-nil before)

-- ---- one behind the other

-- the entries of these flows on which the filter holds were printed
pub record PrintedSoFar (expression : Expression) (bytes rest : List ℕ) (place : Place) (start now : Option (List ℕ)) : Type 0 where
  pub flows : List Flow
  pub has : HasFlows bytes flows rest
  pub at : place ≡ place_in expression flows
  pub printed : Writes (entries_of expression flows) start now

pub printed_none : (expression : Expression) (bytes rest : List ℕ) (start : Option (List ℕ)) → rest ≡ bytes → PrintedSoFar expression bytes rest First start start
printed_none expression bytes rest start all = record { flows = []; has = subst (λ r. HasFlows bytes [] r) (sym all) at_front; at = refl; printed = writes_none start start refl }

pub printed_all : (expression : Expression) (bytes rest : List ℕ) (place : Place) (start now : Option (List ℕ)) → PrintedSoFar expression bytes rest place start now → rest ≡ [] →
    (flows : List Flow) × HasFlows bytes flows [] × Writes (entries_of expression flows) start now
printed_all expression bytes rest place start now so_far none = (so_far.flows, subst (λ r. HasFlows bytes so_far.flows r) none so_far.has, so_far.printed)

-- memory ran out behind them
pub printed_stop : (T failed : Type 0) (expression : Expression) (bytes rest : List ℕ) (place : Place) (start now : Option (List ℕ)) → PrintedSoFar expression bytes rest place start now → IsWhole rest →
    PrintsEntries {T = T} failed expression bytes start now (Err breaks.NoMemory)
printed_stop T failed expression bytes rest place start now so_far whole =
    let left = flows_in rest whole in (
      so_far.flows ++ left.0,
      flows_behind bytes rest [] so_far.flows left.0 so_far.has left.1,
      part_of_all expression so_far.flows left.0 start now (whole_part (entries_of expression so_far.flows) start now so_far.printed),
    )

module _ (parts : PartsMakeIt) (expression : Expression) (bytes : List ℕ) where
  -- the entries of one flow more
  entries_on : (flows : List Flow) (flow : Flow) → entries_of expression (flows ++ flow ∷ []) ≡ entries_of expression flows ++ text_where expression (place_in expression flows) flow
  entries_on flows flow =
      let P : Flow → Bool = λ f. holds f expression in
      ap (entries_text First) (filter-append P flows (flow ∷ [])) ∙ by (filter P flows) (holds flow expression)
    where
      by : (before : List Flow) (b : Bool) → entries_text First (before ++ (if b then flow ∷ [] else [])) ≡ entries_text First before ++ (if b then placed_text (place_behind before) flow else [])
      by before true = parts.more before flow
      by before false = ap (entries_text First) (append-nil before) ∙ sym (append-nil (entries_text First before))

  pub printed_more : (rest next : List ℕ) (place place_next : Place) (start now after : Option (List ℕ)) (entry : Entry) → PrintedSoFar expression bytes rest place start now → BeginsWith entry rest next →
      Writes (text_where expression place entry.flow) now after → place_next ≡ place_where expression place entry.flow → PrintedSoFar expression bytes next place_next start after
  printed_more rest next place place_next start now after entry so_far begins writes is = record {
    flows = so_far.flows ++ entry.flow ∷ [];
    has = has_more bytes rest next so_far.flows entry so_far.has begins;
    at = is ∙ (ap (λ p. place_where expression p entry.flow) so_far.at ∙ sym (place_more expression so_far.flows entry.flow));
    printed =
        subst (λ l. Writes l start after) (sym (entries_on so_far.flows entry.flow))
        (writes_more (entries_of expression so_far.flows) (text_where expression (place_in expression so_far.flows) entry.flow) start now after so_far.printed
        (subst (λ p. Writes (text_where expression p entry.flow) now after) so_far.at writes));
  }

  -- the write of the next one failed, or memory ran out there
  pub printed_break : (T mid failed : Type 0) (rest next : List ℕ) (place : Place) (start now after : Option (List ℕ)) (entry : Entry) (why : Unfinished) →
      PrintedSoFar expression bytes rest place start now → BeginsWith entry rest next → IsWhole next → BreaksOff mid (text_where expression place entry.flow) now after why → (mid → failed) →
      PrintsEntries {T = T} failed expression bytes start after (Err why)
  printed_break T mid failed rest next place start now after entry breaks.Failed so_far begins whole (rose, part) wider =
      let left = flows_in next whole in
      let flows = so_far.flows ++ entry.flow ∷ [] in
      let text = text_where expression (place_in expression so_far.flows) entry.flow in (
        flows ++ left.0,
        flows_behind bytes next [] flows left.0 (has_more bytes rest next so_far.flows entry so_far.has begins) left.1,
        (
          wider rose,
          part_of_all expression flows left.0 start after
              (subst (λ l. WritesPart l start after) (sym (entries_on so_far.flows entry.flow))
              (writes_part (entries_of expression so_far.flows) text start now after so_far.printed (subst (λ p. WritesPart (text_where expression p entry.flow) now after) so_far.at part))),
        ),
      )
  printed_break T mid failed rest next place start now after entry breaks.NoMemory so_far begins whole same wider =
      let left = flows_in next whole in
      let flows = so_far.flows ++ entry.flow ∷ [] in (
        flows ++ left.0,
        flows_behind bytes next [] flows left.0 (has_more bytes rest next so_far.flows entry so_far.has begins) left.1,
        part_of_all expression flows left.0 start after
            (subst (λ l. WritesPart l start after) (sym (entries_on so_far.flows entry.flow))
            (part_longer (entries_of expression so_far.flows) (text_where expression (place_in expression so_far.flows) entry.flow) start after
            (subst (λ n. WritesPart (entries_of expression so_far.flows) start n) (sym same) (whole_part (entries_of expression so_far.flows) start now so_far.printed)))),
      )

  -- ---- the whole export

  abbrev end_line : List ℕ
  end_line = end_text ++ 10 ∷ []

  export_parts : (flows : List Flow) → export_of expression flows ≡ begin_text ++ (entries_of expression flows ++ end_line)
  export_parts flows =
      let fits = filter (λ f. holds f expression) flows in
      ap (λ l. l ++ 10 ∷ []) (parts.whole fits)
      ∙ (append_assoc begin_text (entries_text First fits ++ end_text) (10 ∷ []) ∙ ap (λ l. begin_text ++ l) (append_assoc (entries_text First fits) end_text (10 ∷ [])))

  -- a beginning of the first part is one of the whole, and so is a beginning of the second behind the first
  begin_part : (flows : List Flow) (start now : Option (List ℕ)) → WritesPart begin_text start now → WritesPart (export_of expression flows) start now
  begin_part flows start now part = subst (λ l. WritesPart l start now) (sym (export_parts flows)) (part_longer begin_text (entries_of expression flows ++ end_line) start now part)

  rest_part : (flows : List Flow) (start mid now : Option (List ℕ)) → Writes begin_text start mid → WritesPart (entries_of expression flows ++ end_line) mid now → WritesPart (export_of expression flows) start now
  rest_part flows start mid now begun part = subst (λ l. WritesPart l start now) (sym (export_parts flows)) (writes_part begin_text (entries_of expression flows ++ end_line) start mid now begun part)

  -- the export broke off at its beginning
  pub begin_breaks : (T failed : Type 0) (start now : Option (List ℕ)) (why : Unfinished) → IsWhole bytes → BreaksOff failed begin_text start now why →
      PrintsExport {T = T} failed expression bytes start now (Err why)
  begin_breaks T failed start now breaks.Failed whole (rose, part) = let all = flows_in bytes whole in (all.0, all.1, (rose, begin_part all.0 start now part))
  begin_breaks T failed start now breaks.NoMemory whole same = let all = flows_in bytes whole in (all.0, all.1, none_part (export_of expression all.0) start now same)

  -- or at an entry
  pub entries_break : (T mid failed : Type 0) (start begun now : Option (List ℕ)) (why : Unfinished) → Writes begin_text start begun → PrintsEntries {T = T} mid expression bytes begun now (Err why) → (mid → failed) →
      PrintsExport {T = T} failed expression bytes start now (Err why)
  entries_break T mid failed start begun now breaks.Failed first (flows, has, (rose, part)) wider =
      (flows, has, (wider rose, rest_part flows start begun now first (part_longer (entries_of expression flows) end_line begun now part)))
  entries_break T mid failed start begun now breaks.NoMemory first (flows, has, part) wider =
      (flows, has, rest_part flows start begun now first (part_longer (entries_of expression flows) end_line begun now part))

  -- or it came to its end
  pub end_comes : {T : Type 0} (mid failed : Type 0) (start begun gone now : Option (List ℕ)) (flows : List Flow) (result : Result T Unfinished) → Writes begin_text start begun → HasFlows bytes flows [] →
      Writes (entries_of expression flows) begun gone → PrintsAll mid end_line gone now result → (mid → failed) → PrintsExport failed expression bytes start now result
  end_comes mid failed start begun gone now flows (Ok _) first has second last wider = (
    flows,
    has,
    subst (λ l. Writes l start now) (sym (export_parts flows))
        (writes_more begin_text (entries_of expression flows ++ end_line) start begun now first (writes_more (entries_of expression flows) end_line begun gone now second last)),
  )
  end_comes mid failed start begun gone now flows (Err breaks.Failed) first has second (rose, part) wider =
      (flows, has, (wider rose, rest_part flows start begun now first (writes_part (entries_of expression flows) end_line begun gone now second part)))
  end_comes mid failed start begun gone now flows (Err breaks.NoMemory) first has second same wider =
      (flows, has, rest_part flows start begun now first (writes_part (entries_of expression flows) end_line begun gone now second (none_part end_line gone now same)))

-- ---- the ends of a run

exports_by : {T : Type 0} (failed : Type 0) (path bytes : List ℕ) (expression : Expression) (start now : Option (List ℕ)) (result : Result T Unfinished) → PrintsExport failed expression bytes start now result →
    Exports failed path bytes expression start now (made_code result)
exports_by failed path bytes expression start now (Ok _) (flows, has, all) = record {
  flows = flows;
  behind = [];
  has = has;
  statuses = inl refl;
  ended = λ _. (refl, all);
  bad = λ (e : 0 ≡ 4). absurd (omega arith);
  lost = λ (e : 0 ≡ 7). absurd (omega arith);
  part = λ (e : 0 ≡ 8). absurd (omega arith);
}
exports_by failed path bytes expression start now (Err breaks.Failed) (flows, has, (rose, part)) = record {
  flows = flows;
  behind = [];
  has = has;
  statuses = inr (inr (inl refl));
  ended = λ (e : 7 ≡ 0). absurd (omega arith);
  bad = λ (e : 7 ≡ 4). absurd (omega arith);
  lost = λ _. (refl, (rose, part));
  part = λ (e : 7 ≡ 8). absurd (omega arith);
}
exports_by failed path bytes expression start now (Err breaks.NoMemory) (flows, has, part) = record {
  flows = flows;
  behind = [];
  has = has;
  statuses = inr (inr (inr refl));
  ended = λ (e : 8 ≡ 0). absurd (omega arith);
  bad = λ (e : 8 ≡ 4). absurd (omega arith);
  lost = λ (e : 8 ≡ 7). absurd (omega arith);
  part = λ _. inl (refl, part);
}

pub exports_status : {T : Type 0} (failed : Type 0) (path bytes : List ℕ) (expression : Expression) (start now : Option (List ℕ)) (result : Result T Unfinished) (status : ℕ) → status ≡ made_code result →
    PrintsExport failed expression bytes start now result → Exports failed path bytes expression start now status
exports_status failed path bytes expression start now result status is printed =
    subst (λ s. Exports failed path bytes expression start now s) (sym is) (exports_by failed path bytes expression start now result printed)

-- nothing was printed, since memory ran out
pub exports_nothing : (failed : Type 0) (path bytes : List ℕ) (expression : Expression) (start : Option (List ℕ)) → Exports failed path bytes expression start start 8
exports_nothing failed path bytes expression start = record {
  flows = [];
  behind = bytes;
  has = at_front;
  statuses = inr (inr (inr refl));
  ended = λ (e : 8 ≡ 0). absurd (omega arith);
  bad = λ (e : 8 ≡ 4). absurd (omega arith);
  lost = λ (e : 8 ≡ 7). absurd (omega arith);
  part = λ _. inr refl;
}

-- a bad place stands there
pub exports_bad : (failed : Type 0) (path bytes : List ℕ) (expression : Expression) (offset : ℕ) (start now : Option (List ℕ)) (status : ℕ) → HasBadPlace bytes offset → (status ≡ 4) ⊎ (status ≡ 8) →
    IsTold failed status (if status == 4 then bad_flow_file path offset else []) start now → Exports failed path bytes expression start now status
exports_bad failed path bytes expression offset start now status there either told =
    let front = flows_of bytes there.entries there.behind there.has in
    record {
      flows = front.0;
      behind = there.behind;
      has = front.1;
      statuses = inr (statuses either);
      ended = λ zero. absurd (not_other either 0 zero (omega arith) (omega arith));
      bad = λ four. (there.bad, tells four);
      lost = λ seven. absurd (not_other either 7 seven (omega arith) (omega arith));
      part = λ eight. inr (quiet eight);
    }
  where
    statuses : (status ≡ 4) ⊎ (status ≡ 8) → (status ≡ 4) ⊎ ((status ≡ 7) ⊎ (status ≡ 8))
    statuses (inl four) = inl four
    statuses (inr eight) = inr (inr eight)

    not_other : (status ≡ 4) ⊎ (status ≡ 8) → (n : ℕ) → status ≡ n → n ≢ 4 → n ≢ 8 → ⊥
    not_other (inl four) n is no_four no_eight = no_four (sym is ∙ four)
    not_other (inr eight) n is no_four no_eight = no_eight (sym is ∙ eight)

    quiet : status ≡ 8 → now ≡ start
    quiet eight =
        let Q : ℕ → Type 0 = λ s. IsTold failed s (if s == 4 then bad_flow_file path offset else []) start now in
        part_of_none start now (subst Q eight told).begun

    tells : status ≡ 4 → IsTold failed status (bad_flow_file path (length bytes - length there.behind)) start now
    tells four =
        let P : ℕ → Type 0 = λ n. IsTold failed status (bad_flow_file path n) start now in
        let Q : ℕ → Type 0 = λ s. IsTold failed s (if s == 4 then bad_flow_file path offset else []) start now in
        let R : ℕ → Type 0 = λ s. IsTold failed s (bad_flow_file path offset) start now in
        subst P there.at (subst R (sym four) (subst Q four told))

-- the same of equal words
pub exports_at : {same out notes : Type 0} {before after : Outside} {status : ℕ} (path text other more : List ℕ) → (path ≡ other) × (text ≡ more) → (what : Fetched) × ExportsFile same out notes path text what before after status →
    (what : Fetched) × ExportsFile same out notes other more what before after status
exports_at {same = same} {out = out} {notes = notes} {before = before} {after = after} {status = status} path text other more both exports =
    let P : List ℕ → Type 0 = λ p. (what : Fetched) × ExportsFile same out notes p text what before after status in
    let Q : List ℕ → Type 0 = λ t. (what : Fetched) × ExportsFile same out notes other t what before after status in
    subst Q both.1 (subst P both.0 exports)
